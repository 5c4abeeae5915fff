-- What a table of facts is seen as, and what its calls do.
use Rattle.std.specs.Prelude.{ℕ, ◌+◌, ◌≤◌, ◌≡◌, ◌≢◌, ◌↔◌, ℤ, Some, List, length}
use Rattle.std.specs.List.{All, Contains}
use Rattle.bounds_exprs.specs.declared.term.Term.{Term}
use Rattle.subsumption.specs.declared.fact.Fact.{Fact}
use Rattle.subsumption.specs.declared.fact.Answer.{Answer}
use Rattle.subsumption.specs.declared.fact.Answer.TheVariants.{Yes, No}
use Rattle.subsumption.specs.Facts.{Meets, Entails, Holds, TermsHold, numbers_of, IsAbout, Leaves, BothEntail}
use Rattle.subsumption.specs.ClosedTables.{ClosedTable}

-- the number of variables, the facts, and the closed table: the least constants that they entail
pub record Table : Type 0 where
  pub vars : ℕ
  pub facts : List Fact
  pub table : ClosedTable

-- an answer to whether the one term is at most the other: facts of the table that alone entail it, at most as many as
-- there are variables and zero, or a number for each variable, which meet the facts and break it
abbrev pub AnswersTerms : Table → Term → Term → Answer → Type 0
AnswersTerms table a b (Yes path) =
    All (Contains table.facts) path.facts.items × ((v : ℕ → ℤ) → Meets v path.facts.items → TermsHold v a b) × (length path.facts.items ≤ table.vars + 1)
AnswersTerms table a b (No valuation) = Meets (numbers_of valuation.values.items) table.facts × (TermsHold (numbers_of valuation.values.items) a b → ⊥)
    × (length valuation.values.items ≡ table.vars)

-- after a step that leaves so much entailed
pub record Becomes (before : Table) (entailed : Fact → Type 0) (after : Table) : Type 0 where
  pub vars : after.vars ≡ before.vars
  pub facts : Leaves before.vars entailed after.facts

-- after two ways have met: of the facts about the variables both entailed what is entailed now
pub record Joins (first second after : Table) : Type 0 where
  pub vars : after.vars ≡ first.vars
  pub same : (goal : Fact) → IsAbout first.vars goal → Entails after.facts goal ↔ BothEntail first.facts second.facts goal

-- the fact doesn't name x
pub record IsWithout (x : ℕ) (f : Fact) : Type 0 where
  pub left : f.left ≢ Some x
  pub right : f.right ≢ Some x

-- it follows from what is entailed without x
abbrev pub FollowsWithout : ℕ → List Fact → Fact → Type 0
FollowsWithout x facts goal = (v : ℕ → ℤ) → ((fact : Fact) → IsWithout x fact → Entails facts fact → Holds v fact) → Holds v goal
