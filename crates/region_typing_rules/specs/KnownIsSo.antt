-- What the walk knows is so in each run: what is known behind a statement holds of the state in which it ends.
use Rattle.std.specs.Prelude.{ℕ, ◌<◌, ◌≤◌, ◌≡◌, Bool, List, length, Option, None, Some, slice_get, false, replicate, slice_index_or, true}
use Rattle.pointer_modes.specs.declared.ctype.Mode.{Mode}
use Rattle.pointer_modes.specs.declared.ctype.Kind.{Kind}
use Rattle.pointer_modes.specs.Types.{CType, Char, Pointer, Structure}
use Rattle.pointer_modes.specs.Layout.{size_of}
use Rattle.ckc_tree.specs.Statements.{Statement}
use Rattle.bounds_exprs.specs.declared.term.Bounds.{Bounds}
use Rattle.bounds_exprs.specs.Terms.{is_within, term_limit}
use Rattle.bounds_flow.specs.Flows.{Knowledge, held_at}
use Rattle.bounds_flow_meaning.specs.Holding.{AreInts, Fits, HaveTypes, Holds, types_of}
use Rattle.ckc_core.specs.Outcome.{Gives, Ends, Stuck, Unsound, Short}
use Rattle.ckc_core.specs.States.{State, Grows, shapes}
use Rattle.ckc_core.specs.Steps.{Result, Flow, Next, Broke, Continued, Returned}
use Rattle.ckc_core.specs.Meaning.{Setting, effect, knot}
use Rattle.region_typing_rules.specs.Knowing.{marked}
use Rattle.region_typing_rules.specs.Verdicts.{Passes}
use Rattle.region_typing_rules.specs.Scopes.{Scope}
use Rattle.region_typing_rules.specs.Types.{Counts}
use Rattle.region_typing_rules.specs.Operands.{Places}
use Rattle.region_typing_rules.specs.Statements.{Walked, statement}

-- ---- what a step leads to

-- it is so of the value that a step gives, and of the state behind it; where it gives none, nothing is said
abbrev pub WhereGiven : {A : Type 0} → (A → State → Type 0) → Result A → Type 0
WhereGiven P (Gives v s) = P v s
WhereGiven P (Ends ending s) = Unit {0}
WhereGiven P (Stuck site s) = Unit {0}
WhereGiven P (Unsound site s) = Unit {0}
WhereGiven P Short = Unit {0}

-- ---- what is known is so

-- Two states between which a flow can't tell, where so many locals are declared: the `int` variables and the pointers among these
-- hold the same. A `char` isn't tracked, and of what is declared later nothing is said.
pub record IsAlike (n : ℕ) (s t : State) : Type 0 where
  pub blocks : t.blocks ≡ s.blocks
  pub same : types_of t.locals ≡ types_of s.locals
  pub types : HaveTypes s.locals → HaveTypes t.locals
  pub tracked : (x : ℕ) → x < n → (slice_get (types_of s.locals) x ≡ Some Char → ⊥) → slice_get t.locals x ≡ slice_get s.locals x

-- what a flow says is so, whatever those locals hold that it can't tell
abbrev pub HoldsAlike : List Structure → ℕ → Knowledge → State → Type 0
HoldsAlike structs n f s = (t : State) → IsAlike n s t → Holds structs f t

abbrev pub FitsAlike : List Structure → ℕ → Knowledge → State → Type 0
FitsAlike structs n f s = (t : State) → IsAlike n s t → Fits structs f t

-- what is known where the walk stands is so
abbrev pub IsKnown : List Structure → Scope → State → Type 0
IsKnown structs g s = FitsAlike structs (length g.locals) g.flow s

-- what is known of some ways that lead to the same place is so of a state on one of them
abbrev pub IsOnWay : List Structure → ℕ → Option Knowledge → State → Type 0
IsOnWay structs n None s = ⊥
IsOnWay structs n (Some f) s = FitsAlike structs n f s

-- what is known behind a statement is so of the state in which it ends: at the next one, or where it leads out of a loop or on
-- to its next turn. Where it returns, nothing is known.
abbrev pub IsSo : List Structure → Scope → Flow → State → Type 0
IsSo structs g Next s = IsKnown structs g s
IsSo structs g Broke s = IsOnWay structs (length g.locals) g.breaks s
IsSo structs g Continued s = IsOnWay structs (length g.locals) g.continues s
IsSo structs g (Returned v) s = Unit {0}

-- ---- bounds of terms

-- the constants of both ends are those of terms
pub record AreLimited (b : Bounds) : Type 0 where
  pub low : is_within term_limit b.lo.plus ≡ true
  pub high : is_within term_limit b.hi.plus ≡ true

-- ---- scopes of a walk

abbrev pub declared_at : Knowledge → ℕ → Option Bounds
declared_at f p = (held_at f.held p).declared

-- the same bounds are declared in the one flow as in the other for so many locals, and none for others
pub record IsOutside (n : ℕ) (f h : Knowledge) : Type 0 where
  pub within : (p : ℕ) → p < n → declared_at h p ≡ declared_at f p
  pub beyond : (p : ℕ) → n ≤ p → declared_at h p ≡ None

-- the bounds that are declared for a local pointer, whose elements have bytes: their ends name `int` locals, and their base is a pointer
-- of its mode and element
pub record IsDeclared (structs : List Structure) (types : List CType) (p : ℕ) (b : Bounds) : Type 0 where
  pub mode : Mode
  pub kind : Kind
  pub counts : Counts kind
  pub element : CType
  pub own : slice_get types p ≡ Some (Pointer mode kind element)
  pub some : 0 < size_of structs element
  pub ints : AreInts types b
  pub base : (q : ℕ) → b.base ≡ Some q → (k : Kind) × (slice_get types q ≡ Some (Pointer mode k element))

-- the locals of a state have the types of those that are known, and maybe there are more
abbrev pub HasLocals : List CType → State → Type 0
HasLocals types s = (x : ℕ) (t : CType) → slice_get types x ≡ Some t → slice_get (types_of s.locals) x ≡ Some t

-- ---- the laws

-- from the one state to the other, blocks are only added, and of the locals that have marks only those change whose mark is set
pub record ChangesMarked (marks : List Bool) (s t : State) : Type 0 where
  pub grown : Grows (shapes s.blocks) (shapes t.blocks)
  pub same : types_of t.locals ≡ types_of s.locals
  pub others : (x : ℕ) → slice_index_or marks x true ≡ false → slice_get t.locals x ≡ slice_get s.locals x

-- a statement changes only the locals that it marks
abbrev pub MarkedAlone : Type 0
MarkedAlone = (at : Places) (g : Scope) (x : Statement) (w : Walked) → statement at g x ≡ Passes w → (audited : Bool) (setting : Setting) (ticks : ℕ)
    (s : State) → WhereGiven (λ _ t. ChangesMarked (marked (length g.locals) g.visible x (replicate (length g.locals) false)) s t)
    (effect audited setting (knot audited setting ticks) w.0 s)
