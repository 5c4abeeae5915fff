-- What a flow says of a state of a run: the numbers of local variables meet its facts, and pointers are valid with the bounds
-- that are in force.
use Rattle.std.specs.Prelude.{ℕ, ◌≡◌, ◌≢◌, ℤ, pos, Bool, true, false, List, Option, Some, None, map, slice_get, slice_index_or}
use Rattle.bounds_exprs.specs.declared.term.Bounds.{Bounds}
use Rattle.subsumption.specs.TableLaws.{MeetsTable}
use Rattle.pointer_modes.specs.declared.ctype.Kind.TheVariants as kinds
use Rattle.pointer_modes.specs.Types.{CType, Int, Char, Struct, Pointer, Structure}
use Rattle.pointer_modes.specs.Layout.{size_of}
use Rattle.bounds_flow.specs.declared.held.Held.{Held}
use Rattle.bounds_flow.specs.declared.held.Mark.TheVariants.{Settled, WasNull}
use Rattle.bounds_flow.specs.Pointers.{stays_true}
use Rattle.bounds_flow.specs.Flows.{Knowledge, held_at}
use Rattle.ckc_core.specs.declared.program.Site.{Site}
use Rattle.ckc_core.specs.declared.program.PointerBounds.{PointerBounds}
use Rattle.ckc_core.specs.States.{Value, Number, Null, At, Local, State, has_type, shapes}
use Rattle.ckc_core.specs.Bounds.{Ends, ends_at, is_valid}
use Rattle.bounds_flow_meaning.specs.Rows.{LeadsOn}

-- ---- local variables

abbrev pub number_or_zero : Value → ℤ
number_or_zero (Number number) = number
number_or_zero Null = pos 0
number_or_zero (At block byte) = pos 0

abbrev pub number_held : Option Local → ℤ
number_held None = pos 0
number_held (Some l) = number_or_zero l.value

-- the number that a local variable holds, and 0 where it holds none
abbrev pub numbers_in : List Local → ℕ → ℤ
numbers_in locals x = number_held (slice_get locals x)

abbrev pub types_of : List Local → List CType
types_of locals = map (λ (l : Local). l.type) locals

-- each variable holds a value of its type
abbrev pub HaveTypes : List Local → Type 0
HaveTypes locals = (x : ℕ) (l : Local) → slice_get locals x ≡ Some l → has_type l.type l.value ≡ true

-- the bytes of an element that a pointer of the type leads to
abbrev pub target_size : List Structure → CType → ℕ
target_size structs Int = 0
target_size structs Char = 0
target_size structs (Struct number) = 0
target_size structs (Pointer mode kind target) = size_of structs target

-- ---- bounds

-- whether a zero stands at the upper end of a pointer of the type, or behind it
abbrev pub is_ended : CType → Bool
is_ended Int = false
is_ended Char = false
is_ended (Struct number) = false
is_ended (Pointer mode kinds.One target) = false
is_ended (Pointer mode kinds.Array target) = false
is_ended (Pointer mode kinds.Nt target) = true

-- the bounds of a pointer to elements of so many bytes, at a node; a zero may stand at its upper end or behind it
abbrev pub at_node : Bounds → ℕ → Bool → Site → PointerBounds
at_node b size ended site = record { bounds = b; size = size; terminated = ended; site = site }

-- A pointer is valid with bounds: it passes the audit at each node, and between its ends there are values of the type that it leads
-- to, so that an access that its check lets through finds one.
pub record IsValidWith (structs : List Structure) (b : Bounds) (l : Local) (s : State) : Type 0 where
  pub passes : (site : Site) → is_valid (at_node b (target_size structs l.type) (is_ended l.type) site) l.value s ≡ true
  pub leads : (site : Site) (block byte : ℕ) (e : Ends) → l.value ≡ At block byte
      → ends_at (at_node b (target_size structs l.type) (is_ended l.type) site) s.locals block byte ≡ Some e
      → LeadsOn structs (shapes s.blocks) l.type block byte e

-- the pointer is valid with the bounds, where there are any
abbrev pub IsValid : List Structure → Option Bounds → Local → State → Type 0
IsValid structs None l s = Unit {0}
IsValid structs (Some b) l s = IsValidWith structs b l s

-- an end names an `int` variable, if it names one
abbrev pub IsInt : List CType → Option ℕ → Type 0
IsInt types None = Unit {0}
IsInt types (Some x) = slice_get types x ≡ Some Int

pub record AreInts (types : List CType) (b : Bounds) : Type 0 where
  pub lo : IsInt types b.lo.var
  pub hi : IsInt types b.hi.var

-- both ends do, where there are bounds
abbrev pub NameInts : List CType → Option Bounds → Type 0
NameInts types None = Unit {0}
NameInts types (Some b) = AreInts types b

-- the base of the bounds leads to elements of so many bytes, where there are bounds with a base
abbrev pub HasSize : List Structure → List CType → ℕ → Option Bounds → Type 0
HasSize structs types size None = Unit {0}
HasSize structs types size (Some b) = (q : ℕ) (t : CType) → b.base ≡ Some q → slice_get types q ≡ Some t → target_size structs t ≡ size

-- where there are declared bounds there are bounds in force, and if both are there, they count from the same base and begin at the same end
abbrev pub HaveOneStart : Option Bounds → Option Bounds → Type 0
HaveOneStart bounds None = Unit {0}
HaveOneStart None (Some d) = ⊥
HaveOneStart (Some b) (Some d) = (b.base ≡ d.base) × (b.lo ≡ d.lo)

-- ---- pointers

-- the bounds of a pointer are such as may stand there: declared ones name `int` variables, and a base has elements of the
-- pointer's size
pub record IsFormed (structs : List Structure) (types : List CType) (size : ℕ) (h : Held) : Type 0 where
  pub ints : NameInts types h.declared
  pub declared : HasSize structs types size h.declared
  pub bounds : HasSize structs types size h.bounds

-- what is known of a pointer is so: it is valid with the bounds in force, it isn't null where it is known not to be, and it is
-- null where it was assigned null last. Of a pointer that nothing became of since the last settling, the declared bounds hold
-- where no variable that they name was assigned, and those in force begin where the declared ones do.
pub record IsHeld (structs : List Structure) (assigned : List Bool) (h : Held) (l : Local) (s : State) : Type 0 where
  pub valid : IsValid structs h.bounds l s
  pub known : h.known ≡ true → l.value ≢ Null
  pub null : h.mark ≡ WasNull → l.value ≡ Null
  pub declared : h.mark ≡ Settled → stays_true assigned h.declared ≡ true → IsValid structs h.declared l s
  pub start : h.mark ≡ Settled → HaveOneStart h.bounds h.declared

-- ---- flows

-- the bounds of all pointers are formed
abbrev pub AreFormed : List Structure → List CType → List Held → Type 0
AreFormed structs types held = (p : ℕ) (t : CType) → slice_get types p ≡ Some t → IsFormed structs types (target_size structs t) (held_at held p)

-- what holds of a flow and a state beside what is known of each pointer: each variable holds a value of its type, the numbers
-- of variables meet the facts, and bounds are formed
pub record IsMet (structs : List Structure) (f : Knowledge) (s : State) : Type 0 where
  pub types : HaveTypes s.locals
  pub facts : MeetsTable f.vars (numbers_in s.locals) f.facts
  pub formed : AreFormed structs (types_of s.locals) f.held

-- what is known of each pointer is so
abbrev pub AreHeld : List Structure → List Bool → List Held → State → Type 0
AreHeld structs assigned held s = (p : ℕ) (l : Local) → slice_get s.locals p ≡ Some l → IsHeld structs assigned (held_at held p) l s

-- what the flow says is so, in the midst of a statement
pub record Holds (structs : List Structure) (f : Knowledge) (s : State) : Type 0 where
  pub met : IsMet structs f s
  pub pointers : AreHeld structs f.assigned f.held s

-- the same of all pointers but one
pub record HoldsBut (structs : List Structure) (p : ℕ) (f : Knowledge) (s : State) : Type 0 where
  pub met : IsMet structs f s
  pub others : (q : ℕ) (l : Local) → q ≢ p → slice_get s.locals q ≡ Some l → IsHeld structs f.assigned (held_at f.held q) l s

-- nothing became of pointers and of variables since the last settling, and it stands in no bundle
pub record IsSettled (f : Knowledge) : Type 0 where
  pub marks : (p : ℕ) → (held_at f.held p).mark ≡ Settled
  pub assigned : (x : ℕ) → slice_index_or f.assigned x false ≡ false
  pub apart : f.bundled ≡ false

-- each pointer is valid with its declared bounds
abbrev pub AreDeclared : List Structure → List Held → State → Type 0
AreDeclared structs held s = (p : ℕ) (l : Local) → slice_get s.locals p ≡ Some l → IsValid structs (held_at held p).declared l s

-- where an expression stands: what the flow says is so, and between two statements, in no bundle, nothing became of pointers, and declared bounds
-- hold. In a bundle the declared bounds of a pointer that nothing became of hold as `IsHeld` says
pub record Fits (structs : List Structure) (f : Knowledge) (s : State) : Type 0 where
  pub holds : Holds structs f s
  pub settled : f.bundled ≡ false → IsSettled f
  pub declared : f.bundled ≡ false → AreDeclared structs f.held s
