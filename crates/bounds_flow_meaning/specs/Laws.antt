-- Each step of a flow keeps what the flow says of a state, where the state makes that step.
use Rattle.std.specs.Prelude.{ℕ, ◌<◌, ◌≡◌, ◌≢◌, ◌⊎◌, ℤ, pos, ◌+ℤ◌, ◌*ℤ◌, Bool, true, false, not, ◌&&◌, List, [], ◌∷◌, length}
use Rattle.std.specs.Prelude.{Option, Some, None, slice_get, slice_set, int_le, int_lt}
use Rattle.std.specs.List.{All}
use Rattle.bounds_exprs.specs.declared.term.Term.{Term}
use Rattle.bounds_exprs.specs.declared.term.Bounds.{Bounds}
use Rattle.subsumption.specs.Facts.{IsBelow, TermsHold}
use Rattle.subsumption.specs.ClosedTables.{entails_terms}
use Rattle.pointer_modes.specs.Types.{CType, Structure}
use Rattle.bounds_flow.specs.declared.steps.Source.{Source}
use Rattle.bounds_flow.specs.declared.steps.Source.TheVariants as sources
use Rattle.bounds_flow.specs.declared.steps.How.{How}
use Rattle.bounds_flow.specs.declared.steps.How.TheVariants.{Lt, Le, Gt, Ge, Eq, Ne}
use Rattle.bounds_flow.specs.declared.steps.Test.{Test}
use Rattle.bounds_flow.specs.declared.steps.Test.TheVariants.{NotNull, Compare}
use Rattle.bounds_flow.specs.Pointers.{no_pointer}
use Rattle.bounds_flow.specs.Flows.{Knowledge, held_at, at_entry, entered, left, number_assigned, pointer_assigned, assumed}
use Rattle.bounds_flow.specs.Flows.{at_head, cut_off, in_bundle, met, rejoined, settled, widened, length_assigned}
use Rattle.bounds_flow.specs.Settling.{MeetBelow, Meets, ends_find}
use Rattle.bounds_flow.specs.Conditions.{AreEndsBelow, IsFlow, IsTermBelow, IsTestWithin}
use Rattle.ckc_core.specs.States.{Value, Number, Null, At, Local, State, Grows, shapes, has_type}
use Rattle.ckc_core.specs.Bounds.{term_value}
use Rattle.bounds_flow_meaning.specs.Holding.{AreDeclared, AreInts, Fits, HasSize, HaveTypes, Holds, HoldsBut, IsSettled, IsMet, IsValid, NameInts}
use Rattle.bounds_flow_meaning.specs.Zeros.{EndInZeros, HasCounted, HasRead}
use Rattle.bounds_flow_meaning.specs.Holding.{numbers_in, target_size, types_of}

-- ---- assignments

-- the state with another value in a local variable
abbrev pub with_local : ℕ → Local → Value → State → State
with_local x old v s = record s { locals = slice_set s.locals x (record old { value = v }) }

-- the number is that of the term, where there is one
abbrev pub IsTermOf : Option Term → List Local → ℤ → Type 0
IsTermOf None locals z = Unit {0}
IsTermOf (Some t) locals z = term_value t locals ≡ Some z

-- null, or a place
abbrev pub IsPointer : Value → Type 0
IsPointer (Number number) = ⊥
IsPointer Null = Unit {0}
IsPointer (At block byte) = Unit {0}

-- what is assigned to a pointer is so of the pointer with its new value, before it has it: a base stands for what it was
abbrev pub IsGiven : List Structure → Source → Local → State → Type 0
IsGiven structs sources.Null l s = l.value ≡ Null
IsGiven structs sources.Lost l s = Unit {0}
IsGiven structs (sources.Known b) l s = IsValid structs (Some b) l s × HasSize structs (types_of s.locals) (target_size structs l.type) (Some b)

-- a pointer that stood in a block now stands in that block, so many elements of this size further on
abbrev pub IsMoved : ℕ → ℤ → Value → Value → Type 0
IsMoved size c (Number number) v = Unit {0}
IsMoved size c Null v = Unit {0}
IsMoved size c (At block byte) v = (place : ℕ) × (v ≡ At block place) × (pos place ≡ pos byte +ℤ (c *ℤ pos size))

-- the same, where it was assigned itself plus a constant
abbrev pub IsMovedBy : List Structure → Option ℤ → Local → Value → Type 0
IsMovedBy structs None old v = Unit {0}
IsMovedBy structs (Some c) old v = IsMoved (target_size structs old.type) c old.value v

-- the bounds may be declared for the variable
pub record MayDeclare (structs : List Structure) (types : List CType) (x : ℕ) (declared : Option Bounds) : Type 0 where
  pub ints : NameInts types declared
  pub size : (t : CType) → slice_get types x ≡ Some t → HasSize structs types (target_size structs t) declared

-- ---- tests

-- a comparison of two numbers
abbrev pub compares : How → ℤ → ℤ → Bool
compares Lt a b = int_lt a b
compares Le a b = int_le a b
compares Gt a b = int_lt b a
compares Ge a b = int_le b a
compares Eq a b = int_le a b && int_le b a
compares Ne a b = not (int_le a b && int_le b a)

-- the numbers of two terms compare so
pub record Compared (how : How) (left right : Term) (truth : Bool) (locals : List Local) : Type 0 where
  pub first : ℤ
  pub second : ℤ
  pub at_left : term_value left locals ≡ Some first
  pub at_right : term_value right locals ≡ Some second
  pub came : compares how first second ≡ truth

-- the test came out so
abbrev pub CameOut : Test → Bool → State → Type 0
CameOut (NotNull p) true s = (l : Local) → slice_get s.locals p ≡ Some l → l.value ≢ Null
CameOut (NotNull p) false s = Unit {0}
CameOut (Compare how left right) truth s = Compared how left right truth s.locals

-- ---- ways

-- two flows at one place of a function
pub record AreBeside (f g : Knowledge) : Type 0 where
  pub vars : g.vars ≡ f.vars
  pub declared : (p : ℕ) → (held_at g.held p).declared ≡ (held_at f.held p).declared

-- two flows between which there are only tests, which may have moved the ends of bounds
pub record AreTold (f g : Knowledge) : Type 0 where
  pub vars : g.vars ≡ f.vars
  pub assigned : g.assigned ≡ f.assigned
  pub bundled : g.bundled ≡ f.bundled
  pub declared : (p : ℕ) → (held_at g.held p).declared ≡ (held_at f.held p).declared
  pub marks : (p : ℕ) → (held_at g.held p).mark ≡ (held_at f.held p).mark

-- two flows between which there are only tests that leave bounds as they are
pub record AreTested (f g : Knowledge) : Type 0 where
  pub vars : g.vars ≡ f.vars
  pub assigned : g.assigned ≡ f.assigned
  pub declared : (p : ℕ) → (held_at g.held p).declared ≡ (held_at f.held p).declared
  pub bounds : (p : ℕ) → (held_at g.held p).bounds ≡ (held_at f.held p).bounds
  pub marks : (p : ℕ) → (held_at g.held p).mark ≡ (held_at f.held p).mark

abbrev pub IsAmong : List ℕ → ℕ → Type 0
IsAmong [] x = ⊥
IsAmong (y ∷ ys) x = (y ≡ x) ⊎ IsAmong ys x

-- only these variables hold other values, each one of its type
pub record ChangesOnly (changed : List ℕ) (s t : State) : Type 0 where
  pub types : HaveTypes t.locals
  pub same : types_of t.locals ≡ types_of s.locals
  pub others : (x : ℕ) → (IsAmong changed x → ⊥) → slice_get t.locals x ≡ slice_get s.locals x

-- ---- the laws

-- where nothing is in scope, nothing is said
abbrev pub EntriesFit : Type 0
EntriesFit = (structs : List Structure) (vars : ℕ) (s : State) → HaveTypes s.locals → Fits structs (at_entry vars) s

-- no state is reached where every fact is entailed
abbrev pub CutsAreNotReached : Type 0
CutsAreNotReached = (structs : List Structure) (f : Knowledge) (s : State) → Holds structs (cut_off f) s → ⊥

-- what a flow says is so after each of its steps, if it was so before and the state makes the step
pub record StepsHold (structs : List Structure) (f : Knowledge) : Type 0 where
  -- a variable comes into scope: the bounds of a pointer that isn't initialised yet needn't hold, those of a parameter do
  pub enter : (x : ℕ) (declared : Option Bounds) (s : State) → MayDeclare structs (types_of s.locals) x declared → Holds structs f s
      → HoldsBut structs x (entered x declared f) s
  pub enter_valid : (x : ℕ) (declared : Option Bounds) (s : State) → MayDeclare structs (types_of s.locals) x declared
      → ((l : Local) → slice_get s.locals x ≡ Some l → IsValid structs declared l s) → Holds structs f s → Holds structs (entered x declared f) s
  pub enter_between : (x : ℕ) (declared : Option Bounds) (s : State) → MayDeclare structs (types_of s.locals) x declared
      → ((l : Local) → slice_get s.locals x ≡ Some l → IsValid structs declared l s) → Fits structs f s → Fits structs (entered x declared f) s
  pub leave : (x : ℕ) (s : State) → x < f.vars → IsSettled f → Fits structs f s → Fits structs (left x f) s
  -- a number is assigned to a variable that holds one
  pub assign_int : (x : ℕ) (to : Option Term) (s : State) (old : Local) (z : ℤ) → x < f.vars → IsTermBelow f.vars to
      → slice_get s.locals x ≡ Some old → has_type old.type (Number z) ≡ true → IsTermOf to s.locals z → Holds structs f s
      → Holds structs (number_assigned x to f) (with_local x old (Number z) s)
  -- null or a place is assigned to a pointer, whatever was known of it before
  pub forget : (p : ℕ) (s : State) → Holds structs f s → HoldsBut structs p f s
  pub assign_pointer : (p : ℕ) (from : Source) (moved : Option ℤ) (not_null : Bool) (s : State) (old : Local) (v : Value)
      → slice_get s.locals p ≡ Some old → IsPointer v → has_type old.type v ≡ true → IsGiven structs from (record old { value = v }) s
      → IsMovedBy structs moved old v → (not_null ≡ true → v ≢ Null) → HoldsBut structs p f s
      → Holds structs (pointer_assigned p from moved not_null f) (with_local p old v s)
  -- a bundle begins
  pub bundle : (s : State) → Fits structs f s → Fits structs (in_bundle f) s
  -- all pointers meet their declared bounds
  pub settle : (s : State) → MeetBelow f.facts f.held (length f.held) → Holds structs f s → Fits structs (settled f) s
  -- a test came out so
  pub assume : (test : Test) (truth : Bool) (s : State) → IsTestWithin f.vars test → CameOut test truth s → Holds structs f s
      → Holds structs (assumed test truth f) s
  pub assume_between : (test : Test) (truth : Bool) (s : State) → IsTestWithin f.vars test → CameOut test truth s → Fits structs f s
      → Fits structs (assumed test truth f) s
  -- the element at an index isn't zero
  pub widen : (p : ℕ) (index : Term) (s : State) → IsBelow f.vars index.var → EndInZeros s.blocks
      → ((l : Local) → slice_get s.locals p ≡ Some l → HasRead structs (held_at f.held p).bounds index l s) → Holds structs f s
      → Holds structs (widened p index f) s
  pub widen_between : (p : ℕ) (index : Term) (s : State) → IsBelow f.vars index.var → EndInZeros s.blocks
      → ((l : Local) → slice_get s.locals p ≡ Some l → HasRead structs (held_at f.held p).bounds index l s) → Fits structs f s
      → Fits structs (widened p index f) s
  -- a variable that holds a number is assigned how many elements of a pointer stand before the zero
  pub assign_length : (x p : ℕ) (s : State) (old : Local) (count : ℕ) → x < f.vars → slice_get s.locals x ≡ Some old
      → has_type old.type (Number (pos count)) ≡ true → ((l : Local) → slice_get s.locals p ≡ Some l → HasCounted structs (held_at f.held p).bounds count l s)
      → Holds structs f s → Holds structs (length_assigned x p f) (with_local x old (Number (pos count)) s)
  -- two ways meet, of which the run took the one or the other: between statements, and inside a condition
  pub join_first : (g : Knowledge) (s : State) → IsFlow g → AreBeside f g → IsSettled f → Fits structs f s → Fits structs (met f g) s
  pub join_second : (g : Knowledge) (s : State) → IsFlow g → AreBeside f g → IsSettled f → IsSettled g → Fits structs g s → Fits structs (met f g) s
  pub tested_first : (g : Knowledge) (s : State) → IsFlow g → AreTested f g → Holds structs f s → Holds structs (met f g) s
  pub tested_second : (g : Knowledge) (s : State) → IsFlow g → AreTested f g → Holds structs g s → Holds structs (met f g) s
  -- two ways through one expression meet: what was known before it is so still
  pub rejoin_first : (before g : Knowledge) (s : State) → IsFlow before → IsFlow g → AreTold before f → AreTold before g → Fits structs before s
      → Fits structs f s → Fits structs (rejoined before f g) s
  pub rejoin_second : (before g : Knowledge) (s : State) → IsFlow before → IsFlow g → AreTold before f → AreTold before g → Fits structs before s
      → Fits structs g s → Fits structs (rejoined before f g) s
  -- a turn of a loop begins in a later state
  pub enter_loop : (changed : List ℕ) (s t : State) → All (λ x. x < f.vars) changed → ChangesOnly changed s t
      → AreDeclared structs f.held t → IsSettled f → Fits structs f s → Fits structs (at_head changed f) t
  -- blocks are added, or cells have other values
  pub grow : (s t : State) → Grows (shapes s.blocks) (shapes t.blocks) → t.locals ≡ s.locals → Holds structs f s → Holds structs f t
  pub grow_but : (p : ℕ) (s t : State) → Grows (shapes s.blocks) (shapes t.blocks) → t.locals ≡ s.locals → HoldsBut structs p f s
      → HoldsBut structs p f t
  pub grow_between : (s t : State) → Grows (shapes s.blocks) (shapes t.blocks) → t.locals ≡ s.locals → Fits structs f s → Fits structs f t
  -- what is entailed is so, and a pointer is valid with bounds that its own are entailed to lie around
  pub entail : (a b : Term) (s : State) → IsBelow f.vars a.var → IsBelow f.vars b.var → entails_terms a b f.facts ≡ true → IsMet structs f s
      → TermsHold (numbers_in s.locals) a b
  pub narrow : (b asked : Bounds) (l : Local) (s : State) → AreEndsBelow f.vars b → AreEndsBelow f.vars asked
      → AreInts (types_of s.locals) asked → asked.base ≡ b.base → ends_find f.facts asked b ≡ Meets → IsMet structs f s
      → IsValid structs (Some b) l s → IsValid structs (Some asked) l s

abbrev pub FlowsHold : Type 0
FlowsHold = (structs : List Structure) (f : Knowledge) → IsFlow f → StepsHold structs f

-- ---- flows beside one another

-- each step leaves declared bounds as they are, but for a scope, which takes its own away again
pub record StepsStayBeside (f : Knowledge) : Type 0 where
  pub assign_int : (x : ℕ) (to : Option Term) → AreBeside f (number_assigned x to f)
  pub assign_pointer : (p : ℕ) (from : Source) (moved : Option ℤ) (not_null : Bool) → AreBeside f (pointer_assigned p from moved not_null f)
  pub settle : AreBeside f (settled f)
  pub assume : (test : Test) (truth : Bool) → AreBeside f (assumed test truth f)
  pub widen : (p : ℕ) (index : Term) → AreBeside f (widened p index f)
  pub assign_length : (x p : ℕ) → AreBeside f (length_assigned x p f)
  pub enter_loop : (changed : List ℕ) → AreBeside f (at_head changed f)
  pub cut : AreBeside f (cut_off f)
  pub join : (g : Knowledge) → length g.held ≡ length f.held → AreBeside f (met f g)
  pub scope : (x : ℕ) (declared : Option Bounds) (g : Knowledge) → held_at f.held x ≡ no_pointer → AreBeside (entered x declared f) g → AreBeside f (left x g)

-- a settling makes a flow settled, and steps that assign nothing leave it so
pub record StepsStaySettled (f : Knowledge) : Type 0 where
  pub settle : IsSettled (settled f)
  pub enter : (x : ℕ) (declared : Option Bounds) → IsSettled f → IsSettled (entered x declared f)
  pub leave : (x : ℕ) → IsSettled f → IsSettled (left x f)
  pub assume : (test : Test) (truth : Bool) → IsSettled f → IsSettled (assumed test truth f)
  pub widen : (p : ℕ) (index : Term) → IsSettled f → IsSettled (widened p index f)
  pub enter_loop : (changed : List ℕ) → IsSettled f → IsSettled (at_head changed f)
  pub cut : IsSettled f → IsSettled (cut_off f)
  pub join : (g : Knowledge) → length g.held ≡ length f.held → IsSettled f → IsSettled (met f g)

-- tests leave bounds and marks as they are
pub record TestsStayTested (f g : Knowledge) : Type 0 where
  pub assume : (test : Test) (truth : Bool) → AreTested f g → AreTested f (assumed test truth g)
  pub join : (h : Knowledge) → length h.held ≡ length g.held → AreTested f g → AreTested f h → AreTested f (met g h)

-- of flows beside one another
abbrev pub FlowsStayAlike : Type 0
FlowsStayAlike = ((f : Knowledge) → StepsStayBeside f) × ((f : Knowledge) → StepsStaySettled f) × ((f g : Knowledge) → TestsStayTested f g)
