-- What steps of a flow ask, and what holds of each flow.
use Rattle.std.specs.Prelude.{ℕ, ◌+◌, ◌<◌, ◌≤◌, ◌≡◌, ℤ, Bool, true, Option, None, Some, List, length}
use Rattle.std.specs.List.{All}
use Rattle.bounds_exprs.specs.declared.term.Term.{Term}
use Rattle.bounds_exprs.specs.declared.term.Bounds.{Bounds}
use Rattle.bounds_exprs.specs.Terms.{term_limit}
use Rattle.subsumption.specs.Graphs.{IsWithin}
use Rattle.subsumption.specs.Facts.{IsAbout, IsBelow, Meets, TermsHold, numbers_of}
use Rattle.subsumption.specs.ClosedTables.{ClosedTable, entails_fact}
use Rattle.subsumption.specs.TableLaws.{IsTable, MeetsTable}
use Rattle.subsumption.specs.declared.fact.Fact.{Fact}
use Rattle.subsumption.specs.declared.fact.Answer.{Answer}
use Rattle.subsumption.specs.declared.fact.Answer.TheVariants.{Yes, No}
use Rattle.bounds_flow.specs.declared.held.Held.{Held}
use Rattle.bounds_flow.specs.declared.steps.Source.{Source}
use Rattle.bounds_flow.specs.declared.steps.Source.TheVariants as sources
use Rattle.bounds_flow.specs.declared.steps.Test.{Test}
use Rattle.bounds_flow.specs.declared.steps.Test.TheVariants.{NotNull, Compare}
use Rattle.bounds_flow.specs.Flows.{Knowledge}

-- ---- variables below a number, and constants within -2^40 to 2^40

-- both ends of the bounds speak of variables below this number
pub record AreEndsBelow (vars : ℕ) (b : Bounds) : Type 0 where
  pub lo : IsBelow vars b.lo.var
  pub hi : IsBelow vars b.hi.var

-- the bounds do, where there are any
abbrev pub AreBoundsBelow : ℕ → Option Bounds → Type 0
AreBoundsBelow vars None = Unit {0}
AreBoundsBelow vars (Some b) = AreEndsBelow vars b

-- the term does, where there is one
abbrev pub IsTermBelow : ℕ → Option Term → Type 0
IsTermBelow vars None = Unit {0}
IsTermBelow vars (Some t) = IsBelow vars t.var

-- what is assigned does, where it has bounds
abbrev pub IsSourceBelow : ℕ → Source → Type 0
IsSourceBelow vars sources.Null = Unit {0}
IsSourceBelow vars sources.Lost = Unit {0}
IsSourceBelow vars (sources.Known b) = AreEndsBelow vars b

-- the constant is small, where there is one
abbrev pub IsSmall : Option ℤ → Type 0
IsSmall None = Unit {0}
IsSmall (Some c) = IsWithin term_limit c

-- the term's variable is below this number, and its constant is small
pub record IsTermWithin (vars : ℕ) (t : Term) : Type 0 where
  pub var : IsBelow vars t.var
  pub plus : IsWithin term_limit t.plus

-- a test is of a variable below this number, or of such terms
abbrev pub IsTestWithin : ℕ → Test → Type 0
IsTestWithin vars (NotNull p) = p < vars
IsTestWithin vars (Compare how left right) = IsTermWithin vars left × IsTermWithin vars right

-- ---- flows

-- bounds of a pointer speak of variables below this number
pub record IsHeldBelow (vars : ℕ) (h : Held) : Type 0 where
  pub declared : AreBoundsBelow vars h.declared
  pub bounds : AreBoundsBelow vars h.bounds

-- there is an item for each variable, and bounds speak of these variables alone
pub record AreOfVariables (vars : ℕ) (held : List Held) (assigned : List Bool) : Type 0 where
  pub pointers : length held ≡ vars
  pub numbers : length assigned ≡ vars
  pub below : All (IsHeldBelow vars) held

-- at most 4,096 variables, closed facts, and such pointers
pub record IsFlow (f : Knowledge) : Type 0 where
  pub few : f.vars ≤ 4096
  pub facts : IsTable f.vars f.facts
  pub variables : AreOfVariables f.vars f.held f.assigned

-- ---- answers

-- the facts entail it
pub record IsEntailed (vars : ℕ) (t : ClosedTable) (fact : Fact) : Type 0 where
  pub about : IsAbout vars fact
  pub entailed : entails_fact fact t ≡ true

-- an answer to whether the one term is at most the other: facts that are entailed and alone entail it, at most as many as
-- there are variables and zero, or a number for each variable, which meet the facts and break it
abbrev pub AnswersBy : Knowledge → Term → Term → Answer → Type 0
AnswersBy f a b (Yes path) =
    All (IsEntailed f.vars f.facts) path.facts.items × ((v : ℕ → ℤ) → Meets v path.facts.items → TermsHold v a b)
    × (length path.facts.items ≤ f.vars + 1)
AnswersBy f a b (No v) =
    MeetsTable f.vars (numbers_of v.values.items) f.facts × (TermsHold (numbers_of v.values.items) a b → ⊥) × (length v.values.items ≡ f.vars)
