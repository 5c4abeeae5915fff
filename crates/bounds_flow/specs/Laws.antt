-- What a user of flows may rely on: each step of a flow gives a flow, and what a flow entails is exact.
use Rattle.std.specs.Prelude.{ℕ, ◌<◌, ◌≤◌, ◌≡◌, ◌↔◌, ℤ, Bool, true, Option, List}
use Rattle.bounds_exprs.specs.declared.term.Term.{Term}
use Rattle.bounds_exprs.specs.declared.term.Bounds.{Bounds}
use Rattle.subsumption.specs.Facts.{IsBelow, TermsHold}
use Rattle.subsumption.specs.ClosedTables.{entails_terms}
use Rattle.subsumption.specs.TableLaws.{MeetsTable}
use Rattle.bounds_flow.specs.declared.steps.Source.{Source}
use Rattle.bounds_flow.specs.declared.steps.Test.{Test}
use Rattle.bounds_flow.specs.Flows.{Knowledge, at_entry, entered, left, number_assigned, pointer_assigned, assumed}
use Rattle.bounds_flow.specs.Flows.{at_head, cut_off, in_bundle, met, rejoined, settled}
use Rattle.bounds_flow.specs.Flows.{widened, length_assigned}
use Rattle.bounds_flow.specs.Conditions.{AreBoundsBelow, IsFlow, IsSourceBelow, IsTermBelow, IsTestWithin}

-- each step from a flow gives one
pub record GivesFlows (f : Knowledge) : Type 0 where
  pub enter : (x : ℕ) (declared : Option Bounds) → AreBoundsBelow f.vars declared → IsFlow (entered x declared f)
  pub leave : (x : ℕ) → IsFlow (left x f)
  pub assign_int : (x : ℕ) (to : Option Term) → x < f.vars → IsTermBelow f.vars to → IsFlow (number_assigned x to f)
  pub assign_pointer : (p : ℕ) (from : Source) (moved : Option ℤ) (not_null : Bool) → IsSourceBelow f.vars from
      → IsFlow (pointer_assigned p from moved not_null f)
  pub assume : (test : Test) (truth : Bool) → IsTestWithin f.vars test → IsFlow (assumed test truth f)
  pub widen : (p : ℕ) (index : Term) → IsFlow (widened p index f)
  pub strlen : (x p : ℕ) → x < f.vars → IsFlow (length_assigned x p f)
  pub enter_loop : (changed : List ℕ) → IsFlow (at_head changed f)
  pub cut : IsFlow (cut_off f)
  pub join : (g : Knowledge) → IsFlow g → g.vars ≡ f.vars → IsFlow (met f g)
  pub rejoin : (before g : Knowledge) → IsFlow before → before.vars ≡ f.vars → IsFlow g → g.vars ≡ f.vars → IsFlow (rejoined before f g)
  pub bundle : IsFlow (in_bundle f)
  pub settle : IsFlow (settled f)

-- flows begin at an entry, and stay flows
pub record AreKept : Type 0 where
  pub entry : (vars : ℕ) → vars ≤ 4096 → IsFlow (at_entry vars)
  pub steps : (f : Knowledge) → IsFlow f → GivesFlows f

-- a flow entails exactly what each valuation that meets its facts meets
abbrev pub FlowsEntailExactly : Type 0
FlowsEntailExactly = (f : Knowledge) (a b : Term) → IsFlow f → IsBelow f.vars a.var → IsBelow f.vars b.var
    → (entails_terms a b f.facts ≡ true) ↔ ((v : ℕ → ℤ) → MeetsTable f.vars v f.facts → TermsHold v a b)
