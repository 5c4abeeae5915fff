-- Answers to questions about facts, and about pointers.
use Rattle.std.proofs.Common.{ℕ, ◌<◌, ◌≡◌, ◌≢◌, Bool, true, cond, Option, None, Some, List, length, set, refl, ap, sym, subst, ◌∙◌}
use Rattle.std.specs.List.{Contains}
use Rattle.std.proofs.lemmas.List.Elements.{All-contains, All-weaker}
use Rattle.bounds_exprs.specs.declared.term.Term.{Term}
use Rattle.bounds_exprs.specs.declared.term.Bounds.{Bounds}
use Rattle.subsumption.specs.declared.fact.Fact.{Fact}
use Rattle.subsumption.specs.declared.fact.Answer.{Answer}
use Rattle.subsumption.specs.declared.fact.Answer.TheVariants.{Yes, No}
use Rattle.subsumption.specs.declared.fact.Valuation.{Valuation}
use Rattle.subsumption.specs.Facts.{Holds, IsAbout, numbers_of}
use Rattle.subsumption.specs.ClosedTables.{ClosedTable, entails_terms}
use Rattle.subsumption.specs.ShownTables.{Shows}
use Rattle.subsumption.specs.Tables.{AnswersTerms, Table}
use Rattle.bounds_flow.specs.declared.held.Held.{Held}
use Rattle.bounds_flow.specs.declared.steps.Settled.{Settled}
use Rattle.bounds_flow.specs.declared.steps.Settled.TheVariants.{Kept, Lost, Unproved}
use Rattle.bounds_flow.specs.Flows.{held_at, number_assigned, number_facts, number_held}
use Rattle.bounds_flow.specs.Settling.{Answers, AnswersAsked, Asked, Falls, MeetBelow, Meets as AllMet, Tells, ends_find, finding}
use Rattle.bounds_flow.specs.Conditions.{AnswersBy, IsEntailed}

-- a fact among those that show a table is entailed by it
entailed : (t : Table) → Shows t.vars t.facts t.table → (fact : Fact) → Contains t.facts fact → IsEntailed t.vars t.table fact
entailed t shows fact among =
    let about : IsAbout t.vars fact = All-contains (IsAbout t.vars) t.facts fact shows.about among in
    record { about = about; entailed = (shows.same fact about).1 (λ v meets. All-contains (Holds v) t.facts fact meets among) }

pub answers_by : (t : Table) (held : List Held) (assigned : List Bool) (bundled : Bool) (a b : Term) (answer : Answer) → Shows t.vars t.facts t.table → AnswersTerms t a b answer
    → AnswersBy (record { vars = t.vars; facts = t.table; held = held; assigned = assigned; bundled = bundled }) a b answer
answers_by t held assigned bundled a b (Yes path) shows h = (All-weaker (Contains t.facts) (IsEntailed t.vars t.table) (entailed t shows) path.facts.items h.0, h.1, h.2)
answers_by t held assigned bundled a b (No v) shows h = (λ fact about e. (shows.same fact about).0 e (numbers_of v.values.items) h.0, h.1, h.2)

-- ---- settlings

pub lower_falls : (vars : ℕ) (t : ClosedTable) (declared b : Bounds) (p : ℕ) (v : Valuation) → AnswersAsked vars t (record { low = b.lo; high = declared.lo }) (Some v)
    → Tells vars t (ends_find t declared b) p (Unproved p (Some v))
lower_falls vars t declared b p v h =
    let asked : Asked = record { low = b.lo; high = declared.lo } in
    let e = ap (λ yes. cond yes (cond (entails_terms declared.hi b.hi t) AllMet (Falls (Some (record { low = declared.hi; high = b.hi })))) (Falls (Some asked))) h.0 in
    (refl, (Some asked, e, h.1))

pub upper_falls : (vars : ℕ) (t : ClosedTable) (declared b : Bounds) (p : ℕ) (v : Valuation) → entails_terms b.lo declared.lo t ≡ true
    → AnswersAsked vars t (record { low = declared.hi; high = b.hi }) (Some v) → Tells vars t (ends_find t declared b) p (Unproved p (Some v))
upper_falls vars t declared b p v lower h =
    let asked : Asked = record { low = declared.hi; high = b.hi } in
    let first = ap (λ yes. cond yes (cond (entails_terms declared.hi b.hi t) AllMet (Falls (Some asked))) (Falls (Some (record { low = b.lo; high = declared.lo })))) lower in
    let second = ap (λ yes. cond yes AllMet (Falls (Some asked))) h.0 in
    (refl, (Some asked, first ∙ second, h.1))

-- where no valuation is answered, it is entailed
pub none_answered : (vars : ℕ) (t : ClosedTable) (asked : Asked) (o : Option Valuation) → ((v : Valuation) → o ≡ Some v → ⊥) → AnswersAsked vars t asked o
    → entails_terms asked.low asked.high t ≡ true
none_answered vars t asked None n h = h
none_answered vars t asked (Some v) n h = absurd (n v refl)

-- what is told of the first pointer that doesn't meet its bounds is the answer
pub first_answers : (vars : ℕ) (t : ClosedTable) (held : List Held) (p : ℕ) (answer : Settled) → MeetBelow t held p → p < length held → answer ≢ Kept
    → Tells vars t (finding t (held_at held p)) p answer → Answers vars t held answer
first_answers vars t held p Kept meet lt n h = absurd (n refl)
first_answers vars t held p (Lost q) meet lt n h =
    let P : ℕ → Type 0 = λ r. MeetBelow t held r × (r < length held) × Tells vars t (finding t (held_at held r)) r (Lost r) in
    subst P (sym h.0) (meet, lt, (refl, h.1))
first_answers vars t held p (Unproved q v) meet lt n h =
    let P : ℕ → Type 0 = λ r. MeetBelow t held r × (r < length held) × Tells vars t (finding t (held_at held r)) r (Unproved r v) in
    subst P (sym h.0) (meet, lt, (refl, h.1))

-- ---- an int variable was assigned

pub number_made : (vars after : ℕ) (t made : ClosedTable) (held moved : List Held) (assigned : List Bool) (bundled : Bool) (x : ℕ) (to : Option Term) → after ≡ vars → made ≡ number_facts vars x to t
    → moved ≡ number_held x to (set assigned x true) held
    → record { vars = after; facts = made; held = moved; assigned = set assigned x true; bundled = bundled }
    ≡ number_assigned x to (record { vars = vars; facts = t; held = held; assigned = assigned; bundled = bundled })
number_made vars after t made held moved assigned bundled x to e f h = cc
