-- Settling: whether each pointer's bounds in force meet its declared ones.
use Rattle.std.specs.Prelude.{ℕ, ◌<◌, ◌≡◌, true, false, cond, Option, None, Some, List, length}
use Rattle.bounds_exprs.specs.declared.term.Term.{Term}
use Rattle.bounds_exprs.specs.declared.term.Bounds.{Bounds}
use Rattle.bounds_exprs.specs.Normal.{is_same}
use Rattle.subsumption.specs.Facts.{TermsHold, numbers_of}
use Rattle.subsumption.specs.ClosedTables.{ClosedTable, entails_terms}
use Rattle.subsumption.specs.TableLaws.{MeetsTable}
use Rattle.subsumption.specs.declared.fact.Valuation.{Valuation}
use Rattle.bounds_flow.specs.declared.held.Held.{Held}
use Rattle.bounds_flow.specs.declared.held.Mark.{Mark}
use Rattle.bounds_flow.specs.declared.held.Mark.TheVariants as marks
use Rattle.bounds_flow.specs.declared.steps.Settled.{Settled}
use Rattle.bounds_flow.specs.declared.steps.Settled.TheVariants.{Kept, Lost, Unproved}
use Rattle.bounds_flow.specs.Flows.{Knowledge, held_at, settled}

-- that the one term is at most the other is asked
pub record Asked : Type 0 where
  pub low : Term
  pub high : Term

-- of a pointer: it meets its declared bounds, its bounds were lost, or they don't meet the declared ones, with the first
-- asked fact that isn't entailed, where any is asked
pub data Finding : Type 0 where
  Meets : Finding
  WasLost : Finding
  Falls : (asked : Option Asked) → Finding

-- ends in force that are entailed to lie around the declared ones, the lower end first
abbrev pub ends_find : ClosedTable → Bounds → Bounds → Finding
ends_find t declared b =
    cond (entails_terms b.lo declared.lo t)
    (cond (entails_terms declared.hi b.hi t) Meets (Falls (Some (record { low = declared.hi; high = b.hi }))))
    (Falls (Some (record { low = b.lo; high = declared.lo })))

-- bounds in force, if there are any, from the declared base
abbrev pub bounds_find : ClosedTable → Bounds → Option Bounds → Finding
bounds_find t declared None = Falls None
bounds_find t declared (Some b) = cond (is_same declared.base b.base) (ends_find t declared b) (Falls None)

-- null meets all bounds
abbrev pub mark_finds : ClosedTable → Bounds → Option Bounds → Mark → Finding
mark_finds t declared bounds marks.Settled = bounds_find t declared bounds
mark_finds t declared bounds marks.Changed = bounds_find t declared bounds
mark_finds t declared bounds marks.Lost = WasLost
mark_finds t declared bounds marks.WasNull = Meets

-- a pointer without declared bounds has none to meet
abbrev pub declared_finds : ClosedTable → Held → Option Bounds → Finding
declared_finds t h None = Meets
declared_finds t h (Some declared) = mark_finds t declared h.bounds h.mark

-- what is found of a pointer
abbrev pub finding : ClosedTable → Held → Finding
finding t h = declared_finds t h h.declared

-- a valuation meets the facts and breaks what was asked, where anything was
abbrev pub Breaks : ℕ → ClosedTable → Option Asked → Option Valuation → Type 0
Breaks vars t None None = Unit {0}
Breaks vars t None (Some v) = ⊥
Breaks vars t (Some asked) None = ⊥
Breaks vars t (Some asked) (Some v) =
    MeetsTable vars (numbers_of v.values.items) t × (TermsHold (numbers_of v.values.items) asked.low asked.high → ⊥) × (length v.values.items ≡ vars)

-- what is answered of the pointer p, of which so much is found
abbrev pub Tells : ℕ → ClosedTable → Finding → ℕ → Settled → Type 0
Tells vars t found p Kept = found ≡ Meets
Tells vars t found p (Lost q) = (q ≡ p) × (found ≡ WasLost)
Tells vars t found p (Unproved q v) = (q ≡ p) × ((asked : Option Asked) × (found ≡ Falls asked) × Breaks vars t asked v)

-- the pointers below this number meet their declared bounds
abbrev pub MeetBelow : ClosedTable → List Held → ℕ → Type 0
MeetBelow t held n = (p : ℕ) → p < n → finding t (held_at held p) ≡ Meets

-- the answer: all pointers meet their declared bounds, or this is the first one that doesn't
abbrev pub Answers : ℕ → ClosedTable → List Held → Settled → Type 0
Answers vars t held Kept = MeetBelow t held (length held)
Answers vars t held (Lost p) = MeetBelow t held p × (p < length held) × Tells vars t (finding t (held_at held p)) p (Lost p)
Answers vars t held (Unproved p v) = MeetBelow t held p × (p < length held) × Tells vars t (finding t (held_at held p)) p (Unproved p v)

-- the flow afterwards: only where all pointers meet their declared bounds it is another one
abbrev pub settled_by : Settled → Knowledge → Knowledge
settled_by Kept f = settled f
settled_by (Lost p) f = f
settled_by (Unproved p v) f = f

-- what is answered of one asked fact: none where it is entailed, else a valuation that breaks it (*inside*)
abbrev pub AnswersAsked : ℕ → ClosedTable → Asked → Option Valuation → Type 0
AnswersAsked vars t asked None = entails_terms asked.low asked.high t ≡ true
AnswersAsked vars t asked (Some v) = (entails_terms asked.low asked.high t ≡ false) × Breaks vars t (Some asked) (Some v)
