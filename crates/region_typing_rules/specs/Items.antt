-- The rules of what stands at file level.
use Rattle.std.specs.Prelude.{ℕ, zero, suc, ◌+◌, Bool, true, false, not, ◌&&◌, ◌||◌, ◌==◌, nat_lt, nat_le, List, [], ◌∷◌, ◌++◌, length, map}
use Rattle.std.specs.Prelude.{◌*◌, ◌^◌, Option, Some, None, is_none, is_some, option_map, pos, negsuc}
use Rattle.std.proofs.Common.{ℤ}
use Rattle.std.specs.List.{list_all}
use Rattle.ckc_text.specs.declared.place.Span.{Span}
use Rattle.ckc_text.specs.declared.code.Code.TheVariants.{E04, E08, E10, E13, E15, E16, E27, E29}
use Rattle.ckc_tree.specs.declared.expr.UnaryOperator.TheVariants as unary
use Rattle.ckc_tree.specs.declared.item.FunctionKind.{FunctionKind}
use Rattle.ckc_tree.specs.declared.item.FunctionKind.TheVariants as function_kinds
use Rattle.ckc_tree.specs.declared.item.Region.{Region}
use Rattle.ckc_tree.specs.declared.item.Region.TheVariants as regions
use Rattle.ckc_names_rules.specs.declared.given.Given.{Given}
use Rattle.ckc_names_rules.specs.Given.{given_in}
use Rattle.ckc_names_rules.specs.Naming.{NamedTree}
use Rattle.ckc_tree.specs.Types.{TypeTree, IntType, CharType, StructType, PointerType, type_span}
use Rattle.ckc_tree.specs.Expressions as e
use Rattle.ckc_tree.specs.Expressions.{Expression, bounds_span}
use Rattle.ckc_tree.specs.Statements as s
use Rattle.ckc_tree.specs.Statements.{Initializer, Declarator, Statements}
use Rattle.ckc_tree.specs.declared.stmt.Constant.{Constant}
use Rattle.ckc_tree.specs.declared.stmt.Constant.TheVariants as constants
use Rattle.ckc_tree.specs.declared.stmt.SignedConstant.{SignedConstant}
use Rattle.ckc_tree.specs.Items as i
use Rattle.ckc_tree.specs.Items.{ResultForm, Parameters, Item}
use Rattle.flat_bytes.specs.Blocks.{rounded_up}
use Rattle.ckc_tree.specs.Texts.{Text, initializer_texts, body_texts}
use Rattle.bounds_exprs.specs.declared.term.Bounds.{Bounds}
use Rattle.bounds_exprs.specs.Changes.{is_named}
use Rattle.bounds_flow.specs.Pointers.{same_bounds}
use Rattle.bounds_flow.specs.Flows.{Knowledge, at_entry, entered}
use Rattle.pointer_modes.specs.Types as types
use Rattle.pointer_modes.specs.Types.{CType, Int, Char, Struct, Pointer, Structure, members_of}
use Rattle.pointer_modes.specs.Layout.{size_of}
use Rattle.ckc_core.specs.Programs.{Initial, Variable}
use Rattle.ckc_core.specs.Core as core
use Rattle.ckc_core.specs.States.{same_type}
use Rattle.ckc_core.specs.Steps.{low_byte}
use Rattle.region_typing_rules.specs.Verdicts.{Verdict, Passes, Stops, passing, needs, breaks, meant, picked}
use Rattle.region_typing_rules.specs.Scopes.{Scope, Signature, Visible, WrittenBounds, bounds_in, struct_named, function_named}
use Rattle.region_typing_rules.specs.Types.{base_type, without_stars, type_named, is_scalar}
use Rattle.region_typing_rules.specs.Cells.{is_length, cells_with}
use Rattle.region_typing_rules.specs.Operands.{Places, Typed, Value, AStruct}
use Rattle.region_typing_rules.specs.Calls.{is_tainted}
use Rattle.region_typing_rules.specs.Expressions.{typed}
use Rattle.region_typing_rules.specs.Strings.{texts_size}
use Rattle.region_typing_rules.specs.DeclaredBounds.{declared_bounds}
use Rattle.region_typing_rules.specs.KeptParameters.{all_changed}
use Rattle.region_typing_rules.specs.Knowing.{all_declared, knowing}
use Rattle.region_typing_rules.specs.Statements.{length_of, is_ended_array, array_element, before_end, statements, with_local, is_unchecked, is_checked}

-- what is known behind an item: what stands at file level, the cells of the file-level variables with the bytes that their
-- blocks take, and the functions that have bodies, in the order of these
-- a function with its body, and the number of its name
pub record Defined : Type 0 where
  pub name : ℕ
  pub function : core.Function

pub record Walk : Type 0 where
  pub scope : Scope
  pub objects : List Variable
  pub taken : ℕ
  pub bodies : List Defined

-- region-is-checked: E15, behind the other rules of an item
abbrev pub in_checked_region : {A : Type 0} → Scope → Span → A → Verdict A
in_checked_region g span answer = needs (not g.is_off) E15 span (Passes answer)

-- ---- structs

abbrev pub is_struct : CType → Bool
is_struct Int = false
is_struct Char = false
is_struct (Struct number) = true
is_struct (Pointer mode kind target) = false

-- few-members: at most 64 (E08, at the member's type)
abbrev pub member_types : Scope → List i.Member → List types.Member → Verdict (List types.Member)
member_types g [] done = Passes done
member_types g (m ∷ members) done =
    needs (nat_lt (length done) 64) E08 (type_span m.type.base)
    (passing (type_named g m.type) (λ t. member_types g members (done ++ record { name = m.name.name; ctype = t; span = m.span } ∷ [])))

-- members-are-scalar: no member is a struct (E27, at the member)
abbrev pub scalar_members : {A : Type 0} → List types.Member → Verdict A → Verdict A
scalar_members [] next = next
scalar_members (m ∷ members) next = needs (not (is_struct m.ctype)) E27 m.span (scalar_members members next)

-- a tag more, with its struct and the names of its members
abbrev pub with_struct : ℕ → List ℕ → Bool → List types.Member → Scope → Scope
with_struct tag names tainted members g =
    record g { tags = g.tags ++ tag ∷ []; members = g.members ++ names ∷ []; structs = g.structs ++ record { tainted = tainted; members = members } ∷ [] }

-- the names of members
abbrev pub member_names : List i.Member → List ℕ
member_names members = map (λ (m : i.Member). m.name.number) members

-- few-structs: at most 4,096 (E08). While its members are walked, a struct has none
abbrev pub structure : Walk → i.Structure → Verdict Walk
structure w d =
    needs (nat_lt (length w.scope.structs) 4096) E08 d.span
    (passing (member_types (with_struct d.tag.number (member_names d.members) d.tainted [] w.scope) d.members []) (λ members.
    scalar_members members (in_checked_region w.scope d.span (record w
    { scope = with_struct d.tag.number (member_names d.members) d.tainted members w.scope }))))

-- ---- file-level variables

abbrev pub negative : ℕ → ℤ
negative zero = pos 0
negative (suc n) = negsuc n

abbrev pub null_number : Bool → Option ℕ
null_number true = Some 0
null_number false = None

-- `NULL`, which no variable is called, is the number 0 in every respect
abbrev pub unsigned_constant : Given → Expression → Option ℕ
unsigned_constant given (e.Number value span) = Some value
unsigned_constant given (e.Character value span) = Some value
unsigned_constant given (e.Name name) = null_number (name.number == given.null)
unsigned_constant given _ = None

abbrev pub negated_of : Option ℕ → Option ℤ
negated_of None = None
negated_of (Some n) = Some (negative n)

abbrev pub positive_of : Option ℕ → Option ℤ
positive_of None = None
positive_of (Some n) = Some (pos n)

-- a number with or without a minus, so that `-NULL` is 0 as `-0` is
abbrev pub signed_constant : Given → Expression → Option ℤ
signed_constant given (e.Unary unary.Negate operand span) = negated_of (unsigned_constant given operand)
signed_constant given a = positive_of (unsigned_constant given a)

-- the number that stands in a list
abbrev pub unsigned_number : Constant → ℕ
unsigned_number (constants.Number value) = value
unsigned_number (constants.Character value) = value

abbrev pub signed_number : SignedConstant → ℤ
signed_number c = picked c.negative (negative (unsigned_number c.constant)) (pos (unsigned_number c.constant))

-- an initialiser whose children were walked
pub data Walked : Type 0 where
  Missing : Walked
  Written : (value : Expression) (typed : Typed) → Walked
  Constants : (constants : List SignedConstant) → Walked

-- constant-has-31-bits: E04, at the constant; the tokens of a source have no other
abbrev pub small_constants : {A : Type 0} → List SignedConstant → Verdict A → Verdict A
small_constants [] next = next
small_constants (c ∷ cs) next = needs (nat_lt (unsigned_number c.constant) (2 ^ 31)) E04 c.span (small_constants cs next)

abbrev pub initializer : Places → Scope → Option Initializer → Verdict Walked
initializer at g None = Passes Missing
initializer at g (Some (s.Value value)) = passing (typed at g value) (λ t. Passes (Written value t))
initializer at g (Some (s.Constants constants span)) = small_constants constants (Passes (Constants constants))

abbrev pub is_zero : Typed → Bool
is_zero (Value type null value place) = null
is_zero (AStruct number place) = false

abbrev pub number_or_break : Option ℤ → Span → (ℤ → List Initial) → Verdict (List Initial)
number_or_break None span cells = breaks E13 span
number_or_break (Some number) span cells = Passes (cells number)

abbrev pub written_cells : Given → List Structure → CType → Expression → Typed → Span → Verdict (List Initial)
written_cells given structs Int value t span = number_or_break (signed_constant given value) span (cells_with structs Int)
written_cells given structs Char value t span = number_or_break (signed_constant given value) span (λ n. cells_with structs Char (low_byte n))
written_cells given structs (Struct number) value t span = breaks E13 span
written_cells given structs (Pointer mode kind target) value t span =
    needs (is_zero t) E13 span (Passes (cells_with structs (Pointer mode kind target) (pos 0)))

-- the cells of so many elements, each with zeros
abbrev pub zeros_of : ℕ → List Structure → CType → List Initial
zeros_of zero structs type = []
zeros_of (suc n) structs type = cells_with structs type (pos 0) ++ zeros_of n structs type

-- the cells of so many elements: of those that are listed, and then of zeros; more than there are elements have no cells
abbrev pub cells_listed : List Structure → CType → (ℤ → ℤ) → ℕ → List SignedConstant → Option (List Initial)
cells_listed structs type kept n [] = Some (zeros_of n structs type)
cells_listed structs type kept zero (c ∷ cs) = None
cells_listed structs type kept (suc n) (c ∷ cs) =
    option_map (λ cells. cells_with structs type (kept (signed_number c)) ++ cells) (cells_listed structs type kept n cs)

abbrev pub cells_or_break : Option (List Initial) → Span → Verdict (List Initial)
cells_or_break None span = breaks E13 span
cells_or_break (Some cells) span = Passes cells

-- the constant 0, which `'\0'` and `-0` aren't
abbrev pub is_zero_number : Constant → Bool
is_zero_number (constants.Number value) = value == 0
is_zero_number (constants.Character value) = false

abbrev pub is_zero_constant : SignedConstant → Bool
is_zero_constant c = not c.negative && is_zero_number c.constant

-- each of a list is, so that it is null for a pointer
abbrev pub are_zeros : List SignedConstant → Bool
are_zeros cs = list_all is_zero_constant cs

abbrev pub listed_cells : List Structure → CType → (length : ℕ) → List SignedConstant → Span → Verdict (List Initial)
listed_cells structs Int length cs span = cells_or_break (cells_listed structs Int (λ z. z) length cs) span
listed_cells structs Char length cs span = cells_or_break (cells_listed structs Char low_byte length cs) span
listed_cells structs (Struct number) length cs span = breaks E13 span
listed_cells structs (Pointer mode kind target) length cs span =
    needs (are_zeros cs) E13 span (cells_or_break (cells_listed structs (Pointer mode kind target) (λ z. pos 0) length cs) span)

-- behind the elements of a list stands the zero that ends the array, where one does
abbrev pub closed : (ended : Bool) → List Structure → CType → List Initial → List Initial
closed true structs type cells = cells ++ zeros_of 1 structs type
closed false structs type cells = cells

-- constant-initialiser: a signed number for a number, 0 or `NULL` for a pointer, and nothing for a struct; for an array of numbers a
-- list of them, for one of pointers a list of zeros, neither longer than it is, without the zero that ends it, and for one of structs nothing (E13, at
-- the item)
abbrev pub object_cells : Given → List Structure → CType → Option ℕ → (ended : Bool) → Walked → Span → Verdict (List Initial)
object_cells given structs type None ended Missing span = Passes (cells_with structs type (pos 0))
object_cells given structs type None ended (Written value t) span = written_cells given structs type value t span
object_cells given structs type None ended (Constants cs) span = breaks E13 span
object_cells given structs type (Some length) ended Missing span = Passes (zeros_of length structs type)
object_cells given structs type (Some length) ended (Written value t) span = breaks E13 span
object_cells given structs type (Some length) ended (Constants cs) span =
    passing (listed_cells structs type (before_end ended length) cs span) (λ cells. Passes (closed ended structs type cells))

abbrev pub with_variable : ℕ → CType → Option ℕ → (ended : Bool) → WrittenBounds → Scope → Scope
with_variable name type length ended bounds g =
    record g { variables = g.variables ++ record { name = name; type = type; length = length; ended = ended; bounds = bounds } ∷ [] }

-- of how many values of its type a variable consists
abbrev pub count_of : Option ℕ → ℕ
count_of None = 1
count_of (Some length) = length

-- the bytes of a variable of a type as it is written: a pointer takes a word, whether its rules are kept or not
abbrev pub written_size : Scope → TypeTree → (stars : ℕ) → Verdict ℕ
written_size g base (suc stars) = Passes 4
written_size g (IntType span) zero = Passes (size_of g.structs Int)
written_size g (CharType span) zero = Passes (size_of g.structs Char)
written_size g (StructType tag span) zero = passing (meant (struct_named g tag.number)) (λ number. Passes (size_of g.structs (Struct number)))
written_size g (PointerType word element starred span) zero = Passes 4

-- the strings of a part, which is walked when variables take so many bytes
abbrev pub with_texts : (taken : ℕ) → List Text → Scope → Scope
with_texts taken texts g = record g { strings = record g.strings { texts = g.strings.texts ++ texts; taken = taken } }

-- few-static-bytes: at most 32,768 of variables and strings with the gap behind each block (E08, at the item)
abbrev pub few_bytes : Scope → (taken : ℕ) → Span → Verdict ℕ
few_bytes g taken span = needs (nat_le (taken + texts_size g.strings.texts) 32768) E08 span (Passes taken)

-- few-variables: at most 4,096 (E08, at the item). The bytes that are taken with one variable more, where an array has a length
abbrev pub room_for : Walk → TypeTree → Span → Declarator → Verdict ℕ
room_for w base span d =
    needs (nat_lt (length w.scope.variables) 4096) E08 span
    (passing (written_size w.scope base d.stars) (λ size.
    needs (is_length (length_of d)) E08 span (few_bytes w.scope (w.taken + (rounded_up (count_of (length_of d) * size) + 16)) span)))

-- what bounds of a variable are for: an array is no pointer
abbrev pub bounded_type : Option ℕ → CType → CType
bounded_type None t = t
bounded_type (Some length) t = Int

-- where the bounds of a file-level variable are read: it is the one local that they may name, so that their ends are constants
abbrev pub with_own : ℕ → CType → Scope → Scope
with_own name t g = record g { locals = t ∷ []; visible = record { name = name; local = 0 } ∷ [] }

-- what is written, where it comes to these bounds
abbrev pub written_as : {A : Type 0} → Option A → Option Bounds → WrittenBounds
written_as None bounds = None
written_as (Some text) bounds = Some bounds

-- the bounds that are written for a file-level variable (E16)
abbrev pub object_bounds : Scope → Declarator → CType → Verdict WrittenBounds
object_bounds g d t =
    passing (declared_bounds (with_own d.name.number t g) (bounded_type (length_of d) t) 0 d.bounds) (λ b. Passes (written_as d.bounds b))

-- a variable whose children were walked
pub record WalkedVariable : Type 0 where
  pub type : CType
  pub length : Option ℕ
  pub ended : Bool
  pub bounds : WrittenBounds
  pub initial : Walked

-- a variable more, which is visible in what it is initialised with
abbrev pub variable_scope : (taken : ℕ) → Declarator → CType → WrittenBounds → Scope → Scope
variable_scope taken d t bounds g =
    with_texts taken (initializer_texts d.initializer) (with_variable d.name.number t (length_of d) (is_ended_array d) bounds g)

abbrev pub variables : Places → Walk → TypeTree → CType → Span → List Declarator → List WalkedVariable → Verdict (Walk × List WalkedVariable)
variables at w base type span [] done = Passes (w, done)
variables at w base type span (d ∷ ds) done =
    passing (room_for w base span d) (λ taken.
    passing (without_stars base d.stars type) (λ t.
    array_element (is_ended_array d) t base
    (passing (object_bounds w.scope d t) (λ bounds.
    passing (initializer at (variable_scope taken d t bounds w.scope) d.initializer) (λ initial.
    variables at (record w { scope = variable_scope taken d t bounds w.scope; taken = taken }) base type span ds (done
    ++ record { type = t; length = length_of d; ended = is_ended_array d; bounds = bounds; initial = initial } ∷ []))))))

-- whether there is room for the first variable is asked before the type that all share is walked
abbrev pub room_for_first : Walk → i.Global → List Declarator → Verdict ℕ
room_for_first w g [] = Passes w.taken
room_for_first w g (d ∷ ds) = room_for w g.base g.span d

-- a variable with its cells: no place leads to a pointer for which bounds are declared
abbrev pub variable_of : (ended : Bool) → WrittenBounds → List Initial → Variable
variable_of ended bounds cells = record { cells = cells; zero_ended = ended; is_sealed = is_some (bounds_in bounds) }

-- the initialisers are judged behind the children of all. variable-has-cells: a struct is declared, and has members (E10); those
-- of a source whose names have a meaning are
abbrev pub with_objects : Walk → Span → List WalkedVariable → Verdict Walk
with_objects w span [] = Passes w
with_objects w span (v ∷ vs) =
    passing (object_cells w.scope.given w.scope.structs v.type v.length v.ended v.initial span) (λ cells.
    needs (nat_lt 0 (length cells)) E10 span (with_objects (record w { objects = w.objects ++ variable_of v.ended v.bounds cells ∷ [] }) span vs))

abbrev pub global : Places → Walk → i.Global → Verdict Walk
global at w g =
    passing (room_for_first w g g.declarators) (λ taken. passing (base_type w.scope g.base) (λ type.
    passing (variables at w g.base type g.span g.declarators []) (λ x. passing (with_objects x.0 g.span x.1) (λ v. in_checked_region v.scope g.span v))))

-- ---- functions

abbrev pub listed : Parameters → List i.Member
listed i.Nothing = []
listed i.VoidAlone = []
listed (i.Listed parameters) = parameters

-- a parameter: its name, its type, and what is written for its bounds
pub record Parameter : Type 0 where
  pub name : ℕ
  pub type : CType
  pub bounds : WrittenBounds

-- what bounds may know of the type of a parameter, before the rules of its type are asked: one whose type breaks a rule has no place in bounds
abbrev pub type_ahead : Verdict CType → CType
type_ahead (Passes t) = t
type_ahead (Stops stop) = Char

abbrev pub types_ahead : Scope → List i.Member → List CType
types_ahead g [] = []
types_ahead g (p ∷ parameters) = type_ahead (type_named g p.type) ∷ types_ahead g parameters

-- the names of parameters, from one on
abbrev pub seen_parameters : (local : ℕ) → List i.Member → List Visible
seen_parameters local [] = []
seen_parameters local (p ∷ parameters) = record { name = p.name.number; local = local } ∷ seen_parameters (suc local) parameters

-- where the bounds of parameters are read: each parameter is visible in those of all
abbrev pub among_parameters : Scope → List i.Member → Scope
among_parameters g parameters = record g { locals = types_ahead g parameters; visible = seen_parameters 0 parameters }

-- what is declared: what is written, where it comes to these bounds, and else those that the type has
abbrev pub declared_as : {A : Type 0} → Option A → Option Bounds → WrittenBounds
declared_as None None = None
declared_as None (Some b) = Some (Some b)
declared_as (Some text) bounds = Some bounds

-- few-parameters: at most 16 (E08, at the parameter's type)
abbrev pub parameter_types : Scope → (all : List i.Member) → List i.Member → List Parameter → Verdict (List Parameter)
parameter_types g all [] done = Passes done
parameter_types g all (p ∷ parameters) done =
    needs (nat_lt (length done) 16) E08 (type_span p.type.base)
    (passing (type_named g p.type) (λ t. passing (declared_bounds (among_parameters g all) t (length done) p.bounds) (λ b.
    parameter_types g all parameters (done ++ record { name = p.name.number; type = t; bounds = declared_as p.bounds b } ∷ []))))

-- bounds of a result count from no pointer (E16, at the bounds)
abbrev without_base : Option e.Bounds → Option Bounds → Verdict (Option Bounds)
without_base None bounds = Passes bounds
without_base (Some text) None = Passes None
without_base (Some text) (Some b) = needs (is_none b.base) E16 (bounds_span text) (Passes (Some b))

-- what has no result is no pointer
abbrev pub type_of_result : Option CType → CType
type_of_result None = Int
type_of_result (Some t) = t

-- what is written for the bounds of a result: they are read among the parameters, and there is no name for the result itself
abbrev pub bounds_of_result : Scope → (all : List i.Member) → Option CType → Option e.Bounds → Verdict WrittenBounds
bounds_of_result g all result bounds =
    passing (declared_bounds (among_parameters g all) (type_of_result result) (length all) bounds) (λ b.
    passing (without_base bounds b) (λ kept. Passes (declared_as bounds kept)))

-- stars make a raw pointer (E15)
abbrev pub result_type : Scope → ResultForm → ℕ → Verdict (Option CType)
result_type g (i.Void span) stars = needs (stars == 0) E15 span (Passes None)
result_type g (i.Value base) stars = passing (passing (base_type g base) (without_stars base stars)) (λ t. Passes (Some t))

abbrev pub same_types : List CType → List CType → Bool
same_types [] [] = true
same_types (t ∷ ts) (u ∷ us) = same_type t u && same_types ts us
same_types _ _ = false

abbrev pub same_written : WrittenBounds → WrittenBounds → Bool
same_written None None = true
same_written None (Some b) = false
same_written (Some a) None = false
same_written (Some a) (Some b) = same_bounds a b

abbrev pub all_same_written : List WrittenBounds → List WrittenBounds → Bool
all_same_written [] [] = true
all_same_written [] (b ∷ bs) = false
all_same_written (a ∷ as') [] = false
all_same_written (a ∷ as') (b ∷ bs) = same_written a b && all_same_written as' bs

abbrev pub same_result : Option CType → Option CType → Bool
same_result None None = true
same_result (Some t) (Some u) = same_type t u
same_result _ _ = false

abbrev pub same_kind : FunctionKind → FunctionKind → Bool
same_kind function_kinds.Trusted function_kinds.Trusted = true
same_kind function_kinds.Tainted function_kinds.Tainted = true
same_kind function_kinds.Callback function_kinds.Callback = true
same_kind _ _ = false

-- a declaration agrees with the first one in kind, types and bounds
abbrev pub agrees : Option Signature → Signature → Bool
agrees None f = true
agrees (Some g) f =
    same_kind g.kind f.kind && (same_types g.parameters f.parameters && (same_result g.result f.result
    && (all_same_written g.bounds f.bounds && same_written g.result_bounds f.result_bounds)))

abbrev pub all_scalar : List CType → Bool
all_scalar [] = true
all_scalar (t ∷ ts) = is_scalar t && all_scalar ts

abbrev pub scalar_result : Option CType → Bool
scalar_result None = true
scalar_result (Some t) = is_scalar t

abbrev pub with_function : Option Signature → Signature → Scope → Scope
with_function None f g = record g { functions = g.functions ++ f ∷ [] }
with_function (Some before) f g = g

-- the parameters as the first locals
abbrev pub with_parameters : List Parameter → Scope → Scope
with_parameters [] g = g
with_parameters (p ∷ ps) g = with_parameters ps (with_local p.name p.type None g)

-- the bounds that are declared for them, from one on
abbrev pub with_bounds : (local : ℕ) → List Parameter → Knowledge → Knowledge
with_bounds local [] f = f
with_bounds local (p ∷ ps) f = with_bounds (suc local) ps (entered local (bounds_in p.bounds) f)

-- the number, or a limit that it passes
abbrev pub limited : (limit n : ℕ) → ℕ
limited limit n = picked (nat_lt limit n) limit n

-- how many variables the flow of a function has: one for each local, and 256 at most
abbrev pub variables_in : (parameters : ℕ) → Statements → ℕ
variables_in parameters body = limited 256 (parameters + all_declared body)

-- where the parameters are locals, and no bounds are declared or asked
abbrev pub before_bounds : Signature → List Parameter → Statements → Scope → Scope
before_bounds f parameters body g =
    with_parameters parameters (record g {
      locals = [];
      arrays = [];
      visible = [];
      result = f.result;
      result_bounds = None;
      in_loop = false;
      outside = 0;
      flow = at_entry (variables_in (length parameters) body);
      breaks = None;
      continues = None;
    })

-- where the body of a function stands
abbrev pub inside : Signature → List Parameter → Statements → Scope → Scope
inside f parameters body g =
    record (knowing (with_bounds 0 parameters (before_bounds f parameters body g).flow) (before_bounds f parameters body g)) {
      result_bounds = bounds_in f.result_bounds;
    }

abbrev pub core_function : Signature → List Parameter → core.Statements → Scope → core.Function
core_function f parameters body g = record { name = f.text; parameters = length parameters; locals = g.locals; result = f.result; body = body }

-- a body's strings are known before it is walked
abbrev pub body_scope : Walk → i.Body → Scope
body_scope w body = with_texts w.taken (body_texts body) w.scope

-- the body of a function; its locals are gone behind it, and its strings stay
abbrev pub function_body : Places → Walk → Signature → List Parameter → Option i.Body → Verdict Walk
function_body at w f parameters None = Passes w
function_body at w f parameters (Some body) =
    passing (statements at (inside f parameters body.statements (body_scope w body)) body.statements) (λ x.
    is_checked w.scope body.mark body.span (Passes (record w {
      scope = body_scope w body;
      bodies = w.bodies
          ++ record { name = f.name; function = core_function f parameters x.0 x.1 } ∷ [];
    })))

abbrev pub defines : ℕ → Item → Bool
defines name (i.RegionItem region span) = false
defines name (i.StructureItem structure) = false
defines name (i.GlobalItem global) = false
defines name (i.FunctionItem f) = name == f.name.number && is_some f.body

abbrev pub is_defined : List Item → ℕ → Bool
is_defined [] name = false
is_defined (x ∷ items) name = picked (defines name x) true (is_defined items name)

-- a variable that bounds name
abbrev pub names : Option Bounds → ℕ → Bool
names None x = false
names (Some b) x = is_named x b

-- where the body of a function assigns a parameter first that the bounds of its result name
abbrev pub first_changed_in : Scope → Signature → List Parameter → Option i.Body → Option Span
first_changed_in g f parameters None = None
first_changed_in g f parameters (Some body) =
    let here = inside f parameters body.statements g in
    all_changed (names (bounds_in f.result_bounds)) (length here.locals) here.visible body.statements

-- kept-for-result: E29, at the assignment
abbrev pub without_change : {A : Type 0} → Option Span → Verdict A → Verdict A
without_change None next = next
without_change (Some span) next = breaks E29 span

-- declarations-agree and signature-is-scalar: E13. body-unless-tainted: E10. kept-for-result: E29. region-is-checked: E15
abbrev pub function_rules : List Item → i.Function → Signature → Option Signature → (changed : Option Span) → Walk → Verdict Walk
function_rules all d f known changed w =
    needs (agrees known f && (all_scalar f.parameters && scalar_result f.result)) E13 d.span
    (needs (picked (is_tainted d.kind) true (is_defined all d.name.number)) E10 d.span
    (without_change changed
    (needs (not (is_unchecked d.mark)) E15 d.span (in_checked_region w.scope d.span w))))

abbrev pub signature_of : i.Function → Option CType → List Parameter → WrittenBounds → Signature
signature_of d result parameters bounds = record {
  name = d.name.number;
  text = d.name.name;
  kind = d.kind;
  parameters = map (λ (p : Parameter). p.type) parameters;
  bounds = map (λ (p : Parameter). p.bounds) parameters;
  result = result;
  result_bounds = bounds;
}

-- few-functions: at most 4,096, of which each counts once (E08)
abbrev pub function : Places → List Item → Walk → i.Function → Verdict Walk
function at all w d =
    needs (is_some (function_named w.scope.functions d.name.number) || nat_lt (length w.scope.functions) 4096) E08 d.span
    (passing (result_type w.scope d.result d.stars) (λ result. passing (parameter_types w.scope (listed d.parameters) (listed d.parameters) []) (λ parameters.
    passing (bounds_of_result w.scope (listed d.parameters) result d.bounds) (λ bounds.
    walked (signature_of d result parameters bounds) parameters (function_named w.scope.functions d.name.number)))))
  where
    walked : Signature → List Parameter → Option Signature → Verdict Walk
    walked f parameters known =
        passing (function_body at (record w { scope = with_function known f w.scope }) f parameters d.body)
        (λ x. function_rules all d f known (first_changed_in (with_function known f w.scope) f parameters d.body) x)

-- ---- the whole program

-- how many file-level variables items declare
abbrev pub variables_declared : List Item → ℕ
variables_declared [] = 0
variables_declared (i.GlobalItem g ∷ items) = length g.declarators + variables_declared items
variables_declared (i.RegionItem region span ∷ items) = variables_declared items
variables_declared (i.StructureItem structure ∷ items) = variables_declared items
variables_declared (i.FunctionItem f ∷ items) = variables_declared items

abbrev pub is_off : Region → Bool
is_off regions.On = false
is_off regions.Off = true

abbrev pub item : Places → List Item → Walk → Item → Verdict Walk
item at all w (i.RegionItem region span) = Passes (record w { scope = record w.scope { is_off = is_off region } })
item at all w (i.StructureItem d) = structure w d
item at all w (i.GlobalItem g) = global at w g
item at all w (i.FunctionItem f) = function at all w f

abbrev pub items : Places → List Item → Walk → List Item → Verdict Walk
items at all w [] = Passes w
items at all w (x ∷ xs) = passing (item at all w x) (λ v. items at all v xs)

abbrev pub nothing_known : Given → (variables : ℕ) → Scope
nothing_known given variables = record {
  given = given;
  tags = [];
  members = [];
  structs = [];
  functions = [];
  variables = [];
  strings = record { texts = []; variables = variables; taken = 0 };
  locals = [];
  arrays = [];
  visible = [];
  result = None;
  result_bounds = None;
  in_loop = false;
  outside = 0;
  is_off = false;
  flow = at_entry 0;
  breaks = None;
  continues = None;
}

-- more variables than a program may have aren't counted
abbrev pub start : Given → (variables : ℕ) → Walk
start given variables = record { scope = nothing_known given (limited 4096 variables); objects = []; taken = 0; bodies = [] }

-- what is known behind a named program, or the first rule that it breaks
abbrev pub walked : Places → NamedTree → Verdict Walk
walked at n = items at n.tree.items (start (given_in n.names) (variables_declared n.tree.items)) n.tree.items
