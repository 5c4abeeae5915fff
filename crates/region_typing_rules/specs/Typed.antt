-- What it is that a core has types: a rule for each form, by the types of what it is made of.
use Rattle.std.specs.Prelude.{◌≡◌, ◌⊎◌, ℕ, suc, ◌^◌, ◌*◌, ◌<◌, ◌≤◌, Bool, true, false, List, [], ◌∷◌, length, take, replicate, pos}
use Rattle.std.specs.Prelude.{Option, Some, None, slice_get}
use Rattle.std.specs.List.{AllByRecursion}
use Rattle.std.proofs.Common.{ℤ}
use Rattle.act_words.specs.Checks.{is_word_number}
use Rattle.pointer_modes.specs.declared.ctype.Mode.{Mode}
use Rattle.pointer_modes.specs.declared.ctype.Mode.TheVariants as modes
use Rattle.pointer_modes.specs.declared.ctype.Kind.{Kind}
use Rattle.pointer_modes.specs.declared.ctype.Kind.TheVariants as kinds
use Rattle.pointer_modes.specs.Types.{CType, Int, Char, Struct, Pointer, Structure}
use Rattle.pointer_modes.specs.Layout.{size_of}
use Rattle.bounds_exprs.specs.declared.term.Bounds.{Bounds}
use Rattle.bounds_exprs.specs.declared.term.Term.{Term}
use Rattle.bounds_exprs.specs.Normal.{constant as constant_term}
use Rattle.bounds_exprs.specs.Changes.{ends_filled_in, moved_by}
use Rattle.bounds_flow_meaning.specs.Holding.{AreInts, IsValid, HasSize, at_node, target_size, types_of, is_ended}
use Rattle.bounds_flow_meaning.specs.Sums.{counted}
use Rattle.bounds_flow_meaning.specs.Rows.{slots, HasRow, IsOneCell, IsPlace, AreCellsOf, IsEndedPlace}
use Rattle.ckc_core.specs.declared.program.Site.{Site}
use Rattle.act_words.specs.declared.operator.Operator.{Operator}
use Rattle.act_words.specs.declared.operator.Comparison.{Comparison}
use Rattle.ckc_core.specs.declared.program.Callee.{Callee}
use Rattle.ckc_core.specs.declared.program.Callee.TheVariants as callees
use Rattle.ckc_core.specs.declared.program.PointerBounds.{PointerBounds}
use Rattle.ckc_core.specs.Programs.{Initial, Variable, Import}
use Rattle.ckc_core.specs.Core as core
use Rattle.ckc_core.specs.Core.{Parted, Function, Expression, Arguments, Place, Statement, Statements}
use Rattle.ckc_core.specs.declared.program.Direction.{Direction}
use Rattle.ckc_core.specs.declared.program.Terminator.{Terminator}
use Rattle.ckc_core.specs.declared.program.Terminator.TheVariants as terminators
use Rattle.ckc_core.specs.States.{Value, Number, Null, At, Local, State, Shape, shape, type_at, has_type, initial_value, object_block}
use Rattle.ckc_core.specs.Meaning.{bounds_of}
use Rattle.ckc_core.specs.Steps.{is_char, is_zero}
use Rattle.ckc_core.specs.Pointers.{element_size, is_terminated}
use Rattle.region_typing_rules.specs.Types.{Counts, is_number, is_scalar}
use Rattle.region_typing_rules.specs.Scopes.{Scope}
use Rattle.region_typing_rules.specs.Knowing.{when}
use Rattle.region_typing_rules.specs.Readings.{constant, against, term, pointer_local, own_bounds, based_bounds}
use Rattle.region_typing_rules.specs.Operands.{bounds_at, one_element}
use Rattle.region_typing_rules.specs.Calls.{at_call}
use Rattle.region_typing_rules.specs.DeclaredBounds.{row_of}
use Rattle.region_typing_rules.specs.KnownIsSo.{HasLocals, IsKnown, AreLimited}
use Rattle.region_typing_rules.specs.Lowerable.{IsRoomy}

-- what the parts of a program are typed in: its two sides, its structs, for each trusted function the bounds of its parameters and those of its
-- result, and for each file-level variable those that are declared for it
pub record Frame : Type 0 where
  pub program : Parted
  pub structs : List Structure
  pub bounds : List (List (Option Bounds))
  pub result_bounds : List (Option Bounds)
  pub object_bounds : List (Option Bounds)

-- ---- values

-- the bounds at the node of a value of a type
abbrev pub HasBounds : List Structure → CType → Option PointerBounds → Type 0
HasBounds structs t b = (site : Site) × (b ≡ bounds_at structs t site)

-- the bounds at the node of a value of a type that stands in a cell: it may have none, or those of its type, or, in a row that a zero ends, be where
-- the end may be
pub data HasCellBounds (structs : List Structure) : CType → Option PointerBounds → Type 0 where
  unbounded : {t : CType} → HasCellBounds structs t None
  by_type : {t : CType} {b : Option PointerBounds} → HasBounds structs t b → HasCellBounds structs t b
  at_end : {mode : Mode} {t : CType} {site : Site} → HasCellBounds structs (Pointer mode kinds.Nt t) (Some (at_node (row_of 0) (size_of structs t) true site))

-- so many numbers of a type stand in a block of this shape, and a zero behind them, to which pointers may lead
pub record IsEndedRow (structs : List Structure) (s : Shape) (type : CType) (n : ℕ) : Type 0 where
  pub number : is_number type ≡ true
  pub ended : s.zero_ended ≡ true
  pub unsealed : s.is_sealed ≡ false
  pub types : s.types ≡ replicate (suc n) type
  pub strides : s.strides ≡ replicate (suc n) (size_of structs type)
  pub some : 1 ≤ size_of structs type

-- A value of a type: a number in its range, null, or a place. At the place of a `ptr` stands what it points to, and at that of a
-- null-terminated pointer a number in a row that a zero ends; of a pointer with bounds, its bounds say more.
abbrev pub HasValue : List Structure → List Shape → CType → Value → Type 0
HasValue structs blocks Int (Number z) = has_type Int (Number z) ≡ true
HasValue structs blocks Int Null = ⊥
HasValue structs blocks Int (At block byte) = ⊥
HasValue structs blocks Char (Number z) = has_type Char (Number z) ≡ true
HasValue structs blocks Char Null = ⊥
HasValue structs blocks Char (At block byte) = ⊥
HasValue structs blocks (Struct number) v = ⊥
HasValue structs blocks (Pointer mode kind target) (Number z) = ⊥
HasValue structs blocks (Pointer mode kind target) Null = Unit {0}
HasValue structs blocks (Pointer mode kinds.One target) (At block byte) = IsPlace structs blocks target block byte
HasValue structs blocks (Pointer mode kinds.Array target) (At block byte) = Unit {0}
HasValue structs blocks (Pointer mode kinds.Nt target) (At block byte) = (is_number target ≡ true) × IsEndedPlace structs blocks target block byte false

-- a cell before the run, which leads nowhere
abbrev pub IsInitial : List Structure → Initial → Type 0
IsInitial structs i = HasValue structs [] i.type (initial_value i.type i.number)

-- ---- calls

-- what may come back from the sandbox: a number, or nothing
abbrev pub IsNumberResult : Option CType → Type 0
IsNumberResult None = Unit {0}
IsNumberResult (Some t) = is_number t ≡ true

-- parameters with bounds are pointers to arrays
abbrev pub HaveRows : List CType → List (Option Bounds) → Type 0
HaveRows types bounds = (x : ℕ) (b : Bounds) → slice_get bounds x ≡ Some (Some b)
    → (m : Mode) × (k : Kind) × (t : CType) × (slice_get types x ≡ Some (Pointer m k t)) × Counts k

-- the bounds of a result are those of a pointer to an array, count from no pointer, and their ends speak of parameters that are `int`
pub record AreOfResult (types : List CType) (result : Option CType) (b : Bounds) : Type 0 where
  pub mode : Mode
  pub kind : Kind
  pub counts : Counts kind
  pub element : CType
  pub is : result ≡ Some (Pointer mode kind element)
  pub base : b.base ≡ None
  pub ints : AreInts types b

abbrev pub HasResultBounds : List CType → Option CType → Option Bounds → Type 0
HasResultBounds types result bounds = (b : Bounds) → bounds ≡ Some b → AreOfResult types result b

-- whom a call enters is there, takes arguments of these types, which are valid with these bounds, and has this result with its bounds; only numbers
-- cross to the sandbox and back
pub data IsCallee (g : Frame) : Callee → List CType → List (Option Bounds) → Option CType → Option Bounds → Type 0 where
  trusted : {n : ℕ} {f : Function} {bounds : List (Option Bounds)} {result_bounds : Option Bounds} → slice_get g.program.functions n ≡ Some f
      → slice_get g.bounds n ≡ Some bounds → slice_get g.result_bounds n ≡ Some result_bounds → HaveRows (take f.parameters f.locals) bounds
      → HasResultBounds (take f.parameters f.locals) f.result result_bounds
      → IsCallee g (callees.Trusted n) (take f.parameters f.locals) bounds f.result result_bounds
  tainted : {n : ℕ} {i : Import} {site : Site} → slice_get g.program.imports n ≡ Some i → IsNumberResult i.result
      → IsCallee g (callees.Tainted n site) (replicate i.parameters Int) [] i.result None

-- ---- file-level pointers

-- bounds that count from the pointer itself, between constants
pub record AreConstant (b : Bounds) : Type 0 where
  pub base : b.base ≡ None
  pub lo : b.lo.var ≡ None
  pub hi : b.hi.var ≡ None

-- a file-level pointer with the bounds that are declared for it, to which no other place leads
pub record IsBoundedObject (g : Frame) (object : ℕ) (mode : Mode) (kind : Kind) (t : CType) (b : Bounds) : Type 0 where
  pub variable : Variable
  pub found : slice_get g.program.objects object ≡ Some variable
  pub declared : slice_get g.object_bounds object ≡ Some (Some b)
  pub sealed : variable.is_sealed ≡ true
  pub unended : variable.zero_ended ≡ false
  pub pointer : type_at (shape (object_block variable)) 0 ≡ Some (Pointer mode kind t)
  pub some : 0 < size_of g.structs t
  pub limited : AreLimited b
  pub constant : AreConstant b

-- ---- bounds

-- the pointer is valid with the bounds, and their base leads to elements of the size of its own
abbrev pub IsBoundedBy : List Structure → Bounds → Local → State → Type 0
IsBoundedBy structs b l s = IsValid structs (Some b) l s × HasSize structs (types_of s.locals) (target_size structs l.type) (Some b)

-- whenever what is known in a scope is so, a local pointer is valid with these bounds
abbrev pub IsInForce : List Structure → Scope → (local : ℕ) → Bounds → Type 0
IsInForce structs here k b = (s : State) → IsKnown structs here s → (l : Local) → slice_get s.locals k ≡ Some l → IsBoundedBy structs b l s

-- whenever what is known in a scope is so, a pointer that is valid with these bounds leads to an element
abbrev pub LeadsToOne : List Structure → Scope → Bounds → Type 0
LeadsToOne structs here b = (s : State) → IsKnown structs here s → (l : Local) → IsValid structs (Some b) l s → IsValid structs (Some one_element) l s

-- the same of any bounds
abbrev pub LeadsTo : List Structure → Scope → (from to : Bounds) → Type 0
LeadsTo structs here b d = (s : State) → HasLocals here.locals s → IsKnown structs here s → (l : Local)
    → IsValid structs (Some b) l s → IsValid structs (Some d) l s

-- an argument is valid with bounds over its caller: it is null, or its own bounds lead to these, or those that it has from a base
pub data IsAsked (structs : List Structure) (here : Scope) (e : Expression) (d : Bounds) : Type 0 where
  null : e ≡ core.Null → IsAsked structs here e d
  own : {b : Bounds} → own_bounds e ≡ Some b → LeadsTo structs here b d → IsAsked structs here e d
  based : {b : Bounds} → based_bounds e ≡ Some b → LeadsTo structs here b d → IsAsked structs here e d

-- what stands for the parameters of these types
abbrev pub term_of : List CType → Expression → CType → Option Term
term_of locals e Int = term locals e
term_of locals e Char = None
term_of locals e (Struct number) = None
term_of locals e (Pointer mode kind target) = None

abbrev pub terms_of : List CType → Arguments → List CType → List (Option Term)
terms_of locals core.Done types = []
terms_of locals (core.More e rest) [] = []
terms_of locals (core.More e rest) (t ∷ ts) = term_of locals e t ∷ terms_of locals rest ts

abbrev pub pointers_of : List CType → Arguments → List (Option ℕ)
pointers_of locals core.Done = []
pointers_of locals (core.More e rest) = pointer_local locals e ∷ pointers_of locals rest

-- an argument is valid with the bounds of its parameter, where these stand for parameters
abbrev pub IsAskedAt : List Structure → Scope → List (Option Term) → List (Option ℕ) → Expression → Option Bounds → Type 0
IsAskedAt structs here terms pointers e None = Unit {0}
IsAskedAt structs here terms pointers e (Some b) = (e ≡ core.Null) ⊎ ((d : Bounds) × (at_call terms pointers b ≡ Some d) × IsAsked structs here e d)

-- each argument is
abbrev pub AreAsked : List Structure → Scope → List (Option Term) → List (Option ℕ) → Arguments → List (Option Bounds) → Type 0
AreAsked structs here terms pointers core.Done bounds = Unit {0}
AreAsked structs here terms pointers (core.More e rest) [] = Unit {0}
AreAsked structs here terms pointers (core.More e rest) (b ∷ bounds) =
    IsAskedAt structs here terms pointers e b × AreAsked structs here terms pointers rest bounds

-- a pointer that counts elements is one of the same kind, or one to an array
abbrev pub CountsAs : Kind → Kind → Type 0
CountsAs kinds.Array kinds.Array = Unit {0}
CountsAs kinds.Nt kinds.Array = Unit {0}
CountsAs kinds.Nt kinds.Nt = Unit {0}
CountsAs _ _ = ⊥

-- bounds at a node of a pointer of the type
pub record IsNodeOf (structs : List Structure) (type : CType) (p : PointerBounds) : Type 0 where
  pub size : p.size ≡ target_size structs type
  pub terminated : p.terminated ≡ is_ended type

-- the bounds of a call are those of its type, or those that are declared for its result, over what stands for the parameters
pub data HasCallBounds (structs : List Structure) (locals : List CType) (terms : List (Option Term)) :
    CType → Option Bounds → Option PointerBounds → Type 0 where
  by_type : {t : CType} {declared : Option Bounds} {b : Option PointerBounds} → HasBounds structs t b → HasCallBounds structs locals terms t declared b
  by_result : {mode : Mode} {kind : Kind} {target : CType} {declared : Bounds} {p : PointerBounds} → ends_filled_in terms declared ≡ Some p.bounds
      → Counts kind → IsNodeOf structs (Pointer mode kind target) p → 0 < size_of structs target → AreLimited p.bounds → p.bounds.base ≡ None
      → AreInts locals p.bounds → HasCallBounds structs locals terms (Pointer mode kind target) (Some declared) (Some p)

-- so many values of the type stand in a row from the beginning of a block of this shape on
abbrev pub AreRows : List Structure → Shape → CType → ℕ → Type 0
AreRows structs s type n = (k : ℕ) → k < n → HasRow structs s (k * size_of structs type) type

-- The bounds of a sum of a pointer and a number, by those of the pointer: they are unknown; or they count from its base as before, or those
-- that it has beside its own do; or a constant moved the ends.
pub data AreSumBounds (types : List CType) (e : Expression) (direction : Direction) (i : Expression) (p : PointerBounds)
    : Option PointerBounds → Type 0 where
  unknown : AreSumBounds types e direction i p None
  based : {base : ℕ} {site : Site} → p.bounds.base ≡ Some base → AreSumBounds types e direction i p (Some (record p { site = site }))
  beside : {d : Bounds} {site : Site} → based_bounds e ≡ Some d
      → AreSumBounds types e direction i p (Some (record { bounds = d; size = p.size; terminated = p.terminated; site = site }))
  moved : {c : ℤ} {q : Bounds} {site : Site} → p.bounds.base ≡ None → constant types i ≡ Some c → moved_by (against direction c) p.bounds ≡ Some q
      → AreSumBounds types e direction i p (Some (record { bounds = q; size = p.size; terminated = p.terminated; site = site }))

-- the cells of an element of new memory: values of the type stand in a row of them, and they begin with zeros
pub record IsNewElement (structs : List Structure) (t : CType) (element : List Initial) : Type 0 where
  pub bytes : 0 < size_of structs t
  pub word : is_word_number (pos (size_of structs t)) ≡ true
  pub size : element_size element ≡ size_of structs t
  pub cells : AreCellsOf structs t element
  pub initial : AllByRecursion (IsInitial structs) element
  pub roomy : AllByRecursion IsRoomy element

-- an element of new memory that a zero ends: a number, which begins as 0
pub record IsNewNumber (structs : List Structure) (t : CType) (element : List Initial) : Type 0 where
  pub number : is_number t ≡ true
  pub cell : IsOneCell structs t element
  pub initial : AllByRecursion (IsInitial structs) element
  pub roomy : AllByRecursion IsRoomy element

-- as many elements as a term comes to stand before the zero, where one ends as many as are counted: the term is that of their number, or, where the
-- zero is the last one of them, one less
pub data IsCountBeforeZero (types : List CType) : Terminator → Expression → Term → Type 0 where
  all_of : {count : Expression} {n : Term} → term types count ≡ Some n → IsCountBeforeZero types terminators.Absent count n
  all_before : {count : Expression} {n : Term} → term types count ≡ Some n → IsCountBeforeZero types terminators.Behind count n
  all_but_last : {n : ℕ} → n < 2 ^ 31 → IsCountBeforeZero types terminators.Last (core.Number (pos (suc n))) (constant_term (pos n))

-- The bounds of new memory: they are unknown, or those of as many elements as a term comes to.
pub data AreNewBounds (structs : List Structure) (types : List CType) (terminator : Terminator) (count : Expression) (t : CType) :
    Option PointerBounds → Type 0 where
  uncounted : AreNewBounds structs types terminator count t None
  by_term : {n : Term} {site : Site} → IsCountBeforeZero types terminator count n
      → AreNewBounds structs types terminator count t (Some (at_node (counted n) (size_of structs t) (is_terminated terminator) site))

-- bounds name `int` locals, and count from a local pointer or from none
pub record AreNamed (types : List CType) (b : Bounds) : Type 0 where
  pub ints : AreInts types b
  pub base : (q : ℕ) → b.base ≡ Some q → (m : Mode) × (k : Kind) × (t : CType) × (slice_get types q ≡ Some (Pointer m k t))

-- what is declared in a scope are locals of its function
abbrev pub AreLocalsOf : List CType → Scope → Type 0
AreLocalsOf locals here = (k : ℕ) (t : CType) → slice_get here.locals k ≡ Some t → slice_get locals k ≡ Some t

-- an expression has bounds that count from this local pointer
pub record CountsFrom (e : Expression) (k : ℕ) : Type 0 where
  pub bounds : Bounds
  pub based : based_bounds e ≡ Some bounds
  pub base : bounds.base ≡ Some k

-- the same of a local that is a pointer there
pub record IsBaseOf (locals : List CType) (e : Expression) (k : ℕ) : Type 0 where
  pub counts : CountsFrom e k
  pub mode : Mode
  pub kind : Kind
  pub target : CType
  pub pointer : slice_get locals k ≡ Some (Pointer mode kind target)

-- a pointer of a type has these bounds at its node, of elements that have bytes
pub record HasElements (structs : List Structure) (e : Expression) (type : CType) (p : PointerBounds) : Type 0 where
  pub bounds : bounds_of e ≡ Some p
  pub node : IsNodeOf structs type p
  pub some : 0 < target_size structs type

-- ---- expressions

mutual
  -- an expression, where the locals have these types, in a scope of the walk, and its type
  pub data HasType (g : Frame) (locals : List CType) : Scope → Expression → CType → Type 0 where
    word : {here : Scope} {z : ℤ} → is_word_number z ≡ true → HasType g locals here (core.Number z) Int
    byte : {here : Scope} {z : ℤ} → has_type Char (Number z) ≡ true → HasType g locals here (core.Number z) Char
    null : {here : Scope} {mode : Mode} {kind : Kind} {t : CType} → HasType g locals here core.Null (Pointer mode kind t)
    local : {here : Scope} {k : ℕ} {t : CType} {b : Option PointerBounds} → slice_get here.locals k ≡ Some t → HasBounds g.structs t b
        → HasType g locals here (core.Local k b) t
    -- a pointer with the bounds that are in force
    bounded : {here : Scope} {k : ℕ} {mode : Mode} {kind : Kind} {t : CType} {p : PointerBounds} → slice_get here.locals k ≡ Some (Pointer mode kind t)
        → IsNodeOf g.structs (Pointer mode kind t) p → AreLimited p.bounds → AreNamed here.locals p.bounds → IsInForce g.structs here k p.bounds
        → HasType g locals here (core.Local k (Some p)) (Pointer mode kind t)
    -- each char is an int
    widened : {here : Scope} {e : Expression} → HasType g locals here e Char → HasType g locals here e Int
    -- a pointer to the element at which a pointer with bounds stands
    single : {here : Scope} {e : Expression} {mode : Mode} {kind : Kind} {t : CType} {p : PointerBounds} → HasType g locals here e (Pointer mode kind t)
        → HasElements g.structs e (Pointer mode kind t) p → LeadsToOne g.structs here p.bounds → HasType g locals here e (Pointer mode kinds.One t)
    -- a pointer to one element as one with bounds, and one into an array that a zero ends
    row : {here : Scope} {e : Expression} {mode : Mode} {t : CType} → HasType g locals here e (Pointer mode kinds.One t)
        → HasBounds g.structs (Pointer mode kinds.One t) (bounds_of e) → HasType g locals here e (Pointer mode kinds.Array t)
    ended_row : {here : Scope} {e : Expression} {mode : Mode} {t : CType} → HasType g locals here e (Pointer mode kinds.Nt t)
        → HasType g locals here e (Pointer mode kinds.Array t)
    load : {here : Scope} {t : CType} {p : Place} {b : Option PointerBounds} → is_scalar t ≡ true → HasAccess g locals here p t
        → HasCellBounds g.structs t b → HasType g locals here (core.Load t p b) t
    -- a file-level pointer with the bounds that are declared for it
    bounded_object : {here : Scope} {object : ℕ} {mode : Mode} {kind : Kind} {t : CType} {p : PointerBounds} → IsBoundedObject g object mode kind t p.bounds
        → IsNodeOf g.structs (Pointer mode kind t) p
        → HasType g locals here (core.Load (Pointer mode kind t) (core.Direct object 0) (Some p)) (Pointer mode kind t)
    address_of : {here : Scope} {mode : Mode} {t : CType} {p : Place} {b : Option PointerBounds} → HasPlace g locals here p t
        → HasBounds g.structs (Pointer mode kinds.One t) b → HasType g locals here (core.AddressOf p b) (Pointer mode kinds.One t)
    -- an array of 1 to 8,192 elements
    array : {here : Scope} {object n : ℕ} {t : CType} {p : PointerBounds} {v : Variable} → slice_get g.program.objects object ≡ Some v
        → 0 < n → n ≤ 8192 → AreRows g.structs (shape (object_block v)) t n → p.bounds ≡ row_of n → IsNodeOf g.structs (Pointer modes.Checked kinds.Array t) p
        → HasType g locals here (core.AddressOf (core.Direct object 0) (Some p)) (Pointer modes.Checked kinds.Array t)
    -- a string, or an array that a zero ends
    ended_array : {here : Scope} {object n : ℕ} {t : CType} {p : PointerBounds} {v : Variable} → slice_get g.program.objects object ≡ Some v
        → n ≤ 32768 → IsEndedRow g.structs (shape (object_block v)) t n → p.bounds ≡ row_of n → IsNodeOf g.structs (Pointer modes.Checked kinds.Nt t) p
        → HasType g locals here (core.AddressOf (core.Direct object 0) (Some p)) (Pointer modes.Checked kinds.Nt t)
    sum : {here : Scope} {e i : Expression} {mode : Mode} {kind : Kind} {t : CType} {direction : Direction} {site : Site} {p : PointerBounds}
        → {b : Option PointerBounds} → Counts kind → HasType g locals here e (Pointer mode kind t)
        → HasElements g.structs e (Pointer mode kind t) p → HasType g locals here i Int → AreSumBounds here.locals e direction i p b
        → HasType g locals here (core.Sum e direction i site b) (Pointer mode kind t)
    negate : {here : Scope} {e : Expression} {site : Site} → HasType g locals here e Int → HasType g locals here (core.Negate e site) Int
    complement : {here : Scope} {e : Expression} → HasType g locals here e Int → HasType g locals here (core.Complement e) Int
    inverse : {here : Scope} {e : Expression} {t : CType} → HasType g locals here e t → HasType g locals here (core.Not e) Int
    arithmetic : {here : Scope} {operator : Operator} {a b : Expression} {site : Site} → HasType g locals here a Int → HasType g locals here b Int
        → HasType g locals here (core.Arithmetic operator a b site) Int
    compare : {here : Scope} {comparison : Comparison} {a b : Expression} → HasType g locals here a Int → HasType g locals here b Int
        → HasType g locals here (core.Compare comparison a b) Int
    same : {here : Scope} {mode mode' : Mode} {kind kind' : Kind} {t t' : CType} {a b : Expression} → HasType g locals here a (Pointer mode kind t)
        → HasType g locals here b (Pointer mode' kind' t') → HasType g locals here (core.Same a b) Int
    -- two pointers that count from one local pointer
    order : {here : Scope} {comparison : Comparison} {a b : Expression} {mode mode' : Mode} {kind kind' : Kind} {t t' : CType} {k : ℕ} {site : Site}
        → HasType g locals here a (Pointer mode kind t) → CountsFrom a k → HasType g locals here b (Pointer mode' kind' t') → CountsFrom b k
        → HasType g locals here (core.Order comparison a b site) Int
    -- the right operand stands where the left one came out so
    both : {here : Scope} {a b : Expression} {t t' : CType} → HasType g locals here a t → HasType g locals (when a true here) b t'
        → HasType g locals here (core.AndAlso a b) Int
    either : {here : Scope} {a b : Expression} {t t' : CType} → HasType g locals here a t → HasType g locals (when a false here) b t'
        → HasType g locals here (core.OrElse a b) Int
    low_byte : {here : Scope} {e : Expression} → HasType g locals here e Int → HasType g locals here (core.LowByte e) Char
    call : {here : Scope} {callee : Callee} {ts : List CType} {bs : List (Option Bounds)} {r : Option Bounds} {arguments : Arguments} {t : CType}
        {b : Option PointerBounds} → IsCallee g callee ts bs (Some t) r → HaveTypes g locals here arguments ts
        → AreAsked g.structs here (terms_of here.locals arguments ts) (pointers_of here.locals arguments) arguments bs
        → HasCallBounds g.structs here.locals (terms_of here.locals arguments ts) t r b → HasType g locals here (core.Call callee arguments b) t
    next_input : {here : Scope} → HasType g locals here core.NextInput Int
    -- new memory, or null
    allocate : {here : Scope} {count : Expression} {t : CType} {element : List Initial} {b : Option PointerBounds} → HasType g locals here count Int
        → IsNewElement g.structs t element → AreNewBounds g.structs here.locals terminators.Absent count t b
        → HasType g locals here (core.Allocate count element terminators.Absent b) (Pointer modes.Checked kinds.Array t)
    -- the same with a zero at its end
    allocate_ended : {here : Scope} {count : Expression} {terminator : Terminator} {t : CType} {element : List Initial} {b : Option PointerBounds}
        → HasType g locals here count Int → is_terminated terminator ≡ true → IsNewNumber g.structs t element
        → AreNewBounds g.structs here.locals terminator count t b
        → HasType g locals here (core.Allocate count element terminator b) (Pointer modes.Checked kinds.Nt t)
    -- how many bytes stand before the first zero
    byte_count : {here : Scope} {mode : Mode} {e : Expression} {p : PointerBounds} {site : Site} → HasType g locals here e (Pointer mode kinds.Nt Char)
        → HasElements g.structs e (Pointer mode kinds.Nt Char) p → HasType g locals here (core.Length e site) Int
    -- a pointer with other bounds, which count from no base or from one of its own
    cast : {here : Scope} {e : Expression} {mode : Mode} {kind kind' : Kind} {t : CType} {p q : PointerBounds} → HasType g locals here e (Pointer mode kind t)
        → HasElements g.structs e (Pointer mode kind t) p → CountsAs kind kind' → AreLocalsOf locals here → IsNodeOf g.structs (Pointer mode kind' t) q
        → AreLimited q.bounds → AreInts here.locals q.bounds
        → ((k : ℕ) → q.bounds.base ≡ Some k → IsBaseOf here.locals e k) → HasType g locals here (core.Cast e (Some q)) (Pointer mode kind' t)
    -- one to the element at which it stands
    cast_single : {here : Scope} {e : Expression} {kind : Kind} {t : CType} {p : PointerBounds} {b : Option PointerBounds}
        → HasType g locals here e (Pointer modes.Checked kind t) → HasElements g.structs e (Pointer modes.Checked kind t) p → AreLocalsOf locals here
        → HasBounds g.structs (Pointer modes.Checked kinds.One t) b → HasType g locals here (core.Cast e b) (Pointer modes.Checked kinds.One t)
    -- one without bounds
    cast_unbounded : {here : Scope} {e : Expression} {mode : Mode} {kind kind' : Kind} {t : CType} {p : PointerBounds}
        → HasType g locals here e (Pointer mode kind t) → HasElements g.structs e (Pointer mode kind t) p
        → CountsAs kind kind' → HasType g locals here (core.Cast e None) (Pointer mode kind' t)

  -- arguments, and the types of the parameters
  pub data HaveTypes (g : Frame) (locals : List CType) : Scope → Arguments → List CType → Type 0 where
    done : {here : Scope} → HaveTypes g locals here core.Done []
    more : {here : Scope} {e : Expression} {rest : Arguments} {t : CType} {ts : List CType} → HasType g locals here e t
        → HaveTypes g locals here rest ts → HaveTypes g locals here (core.More e rest) (t ∷ ts)

  -- a place, and the type of what stands there: in a variable, behind a pointer or at an element, or at a member of the struct there
  pub data HasPlace (g : Frame) (locals : List CType) : Scope → Place → CType → Type 0 where
    direct : {here : Scope} {object offset : ℕ} {t : CType} {v : Variable} → slice_get g.program.objects object ≡ Some v
        → HasRow g.structs (shape (object_block v)) offset t → HasPlace g locals here (core.Direct object offset) t
    pointed : {here : Scope} {mode : Mode} {e : Expression} {t : CType} {site : Site} → HasType g locals here e (Pointer mode kinds.One t)
        → HasPlace g locals here (core.Through e core.First 0 site) t
    member : {here : Scope} {mode : Mode} {e : Expression} {n offset : ℕ} {t : CType} {site : Site} (k : ℕ)
        → HasType g locals here e (Pointer mode kinds.One (Struct n))
        → slice_get (slots g.structs (Struct n)) k ≡ Some (record { type = t; offset = offset }) → is_scalar t ≡ true
        → HasPlace g locals here (core.Through e core.First offset site) t
    element : {here : Scope} {mode : Mode} {kind : Kind} {e i : Expression} {t : CType} {p : PointerBounds} {site : Site}
        → HasType g locals here e (Pointer mode kind t) → HasElements g.structs e (Pointer mode kind t) p → HasType g locals here i Int
        → HasPlace g locals here (core.Through e (core.Element i false) 0 site) t
    element_member : {here : Scope} {mode : Mode} {kind : Kind} {e i : Expression} {n offset : ℕ} {t : CType} {p : PointerBounds} {site : Site} (k : ℕ)
        → HasType g locals here e (Pointer mode kind (Struct n)) → HasElements g.structs e (Pointer mode kind (Struct n)) p → HasType g locals here i Int
        → slice_get (slots g.structs (Struct n)) k ≡ Some (record { type = t; offset = offset }) → is_scalar t ≡ true
        → HasPlace g locals here (core.Through e (core.Element i false) offset site) t

  -- where a cell is read or written: a place, or an element of a null-terminated pointer, which may be the zero at its upper end
  pub data HasAccess (g : Frame) (locals : List CType) : Scope → Place → CType → Type 0 where
    at_place : {here : Scope} {p : Place} {t : CType} → HasPlace g locals here p t → HasAccess g locals here p t
    ended : {here : Scope} {mode : Mode} {e i : Expression} {t : CType} {p : PointerBounds} {site : Site}
        → HasType g locals here e (Pointer mode kinds.Nt t) → HasElements g.structs e (Pointer mode kinds.Nt t) p → HasType g locals here i Int
        → HasAccess g locals here (core.Through e (core.Element i true) 0 site) t

-- ---- statements

-- a statement that is no block, branch, loop or jump, in a function with these locals, in a scope of the walk
pub data IsSimple (g : Frame) (locals : List CType) (here : Scope) : Statement → Type 0 where
  nothing : IsSimple g locals here core.Nothing
  set_local : {k : ℕ} {t : CType} {e : Expression} → slice_get locals k ≡ Some t → HasType g locals here e t → IsSimple g locals here (core.SetLocal k e)
  store : {t : CType} {p : Place} {e : Expression} → is_scalar t ≡ true → HasAccess g locals here p t → HasType g locals here e t
      → IsSimple g locals here (core.Store t p e)
  -- a file-level pointer is asked for the bounds that are declared for it
  store_bounded : {object : ℕ} {mode : Mode} {kind : Kind} {t : CType} {b : Bounds} {e : Expression} → Counts kind
      → IsBoundedObject g object mode kind t b → HasType g locals here e (Pointer mode kind t) → IsAsked g.structs here e b
      → IsSimple g locals here (core.Store (Pointer mode kind t) (core.Direct object 0) e)
  update_local : {char : Bool} {k : ℕ} {t : CType} {operator : Operator} {e : Expression} {site : Site} → slice_get locals k ≡ Some t
      → is_number t ≡ true → is_char t ≡ char → HasType g locals here e Int → IsSimple g locals here (core.UpdateLocal char k operator e site)
  update : {t : CType} {p : Place} {operator : Operator} {e : Expression} {site : Site} → is_number t ≡ true → HasAccess g locals here p t
      → HasType g locals here e Int → IsSimple g locals here (core.Update t p operator e site)
  evaluate : {e : Expression} {t : CType} → HasType g locals here e t → IsSimple g locals here (core.Evaluate e)
  call_alone : {callee : Callee} {ts : List CType} {bs : List (Option Bounds)} {r : Option Bounds} {arguments : Arguments} → IsCallee g callee ts bs None r
      → HaveTypes g locals here arguments ts
      → AreAsked g.structs here (terms_of here.locals arguments ts) (pointers_of here.locals arguments) arguments bs
      → IsSimple g locals here (core.CallAlone callee arguments)
  print : {e : Expression} → HasType g locals here e Int → IsSimple g locals here (core.Print e)
  put_byte : {e : Expression} → HasType g locals here e Int → IsSimple g locals here (core.PutByte e)

-- a pointer that is returned is valid with the bounds that are declared for the result
abbrev pub IsReturned : List Structure → Scope → Expression → CType → Option Bounds → Type 0
IsReturned structs here e Int bounds = Unit {0}
IsReturned structs here e Char bounds = Unit {0}
IsReturned structs here e (Struct number) bounds = Unit {0}
IsReturned structs here e (Pointer mode kinds.One target) bounds = Unit {0}
IsReturned structs here e (Pointer mode kinds.Nt target) None = Unit {0}
IsReturned structs here e (Pointer mode kinds.Nt target) (Some b) = IsAsked structs here e b
IsReturned structs here e (Pointer mode kinds.Array target) None = Unit {0}
IsReturned structs here e (Pointer mode kinds.Array target) (Some b) = IsAsked structs here e b

mutual
  -- a statement in a function with these locals, this result and its bounds, in a loop or not; each of its parts stands in a scope of its own
  pub data IsStatement (g : Frame) (locals : List CType) (result : Option CType) (bounds : Option Bounds) : Bool → Statement → Type 0 where
    simple : {here : Scope} {loop : Bool} {x : Statement} → IsSimple g locals here x → IsStatement g locals result bounds loop x
    block : {loop : Bool} {xs : Statements} → AreStatements g locals result bounds loop xs → IsStatement g locals result bounds loop (core.Block xs)
    choice : {here : Scope} {loop : Bool} {e : Expression} {t : CType} {x y : Statement} → HasType g locals here e t
        → IsStatement g locals result bounds loop x → IsStatement g locals result bounds loop y → IsStatement g locals result bounds loop (core.If e x y)
    repeat : {here : Scope} {loop : Bool} {e : Expression} {t : CType} {x y : Statement} → HasType g locals here e t
        → IsStatement g locals result bounds true x → IsStatement g locals result bounds false y → IsStatement g locals result bounds loop (core.Loop e x y)
    returned : {here : Scope} {loop : Bool} {e : Expression} {t : CType} → result ≡ Some t → HasType g locals here e t
        → IsReturned g.structs here e t bounds → IsStatement g locals result bounds loop (core.Return e)
    returned_nothing : {loop : Bool} → result ≡ None → IsStatement g locals result bounds loop core.ReturnNothing
    broken : IsStatement g locals result bounds true core.Break
    continued : IsStatement g locals result bounds true core.Continue

  pub data AreStatements (g : Frame) (locals : List CType) (result : Option CType) (bounds : Option Bounds) : Bool → Statements → Type 0 where
    no_more : {loop : Bool} → AreStatements g locals result bounds loop core.NoMore
    then_more : {loop : Bool} {x : Statement} {xs : Statements} → IsStatement g locals result bounds loop x → AreStatements g locals result bounds loop xs
        → AreStatements g locals result bounds loop (core.Then x xs)

-- ---- programs

abbrev pub IsScalar : CType → Type 0
IsScalar t = is_scalar t ≡ true

abbrev pub IsScalarResult : Option CType → Type 0
IsScalarResult None = Unit {0}
IsScalarResult (Some t) = IsScalar t

pub record IsFunction (g : Frame) (f : Function) : Type 0 where
  pub bounds : Option Bounds
  pub parameters : f.parameters ≤ length f.locals
  pub locals : AllByRecursion IsScalar f.locals
  pub result : IsScalarResult f.result
  pub body : AreStatements g f.locals f.result bounds false f.body

-- a program of two sides with its structs has types, and a `main` without parameters that gives a number
-- a variable has few cells, and the last one begins as 0
pub record IsEnded (v : Variable) : Type 0 where
  pub few : length v.cells ≤ 2 ^ 31
  pub zero : (k : ℕ) (i : Initial) → slice_get v.cells k ≡ Some i → suc k ≡ length v.cells → is_zero (initial_value i.type i.number) ≡ true

-- the same of one that a zero ends
abbrev pub EndsInZero : Variable → Type 0
EndsInZero v = v.zero_ended ≡ true → IsEnded v

pub record IsTyped (program : Parted) : Type 0 where
  pub structs : List Structure
  pub bounds : List (List (Option Bounds))
  pub result_bounds : List (Option Bounds)
  pub object_bounds : List (Option Bounds)
  pub objects : AllByRecursion (λ (v : Variable). AllByRecursion (IsInitial structs) v.cells) program.objects
  pub zeros : AllByRecursion EndsInZero program.objects
  pub functions : AllByRecursion (IsFunction (record {
    program = program;
    structs = structs;
    bounds = bounds;
    result_bounds = result_bounds;
    object_bounds = object_bounds;
  })) program.functions
  pub main : (f : Function) × (slice_get program.functions program.main ≡ Some f) × (f.parameters ≡ 0) × (f.result ≡ Some Int)
