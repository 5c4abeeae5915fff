-- Lists of facts that show closed tables: both entail the same. So what facts say is one closed table.
use Rattle.std.specs.Prelude.{ℕ, ◌+◌, ◌≡◌, Bool, true, false, List}
use Rattle.std.specs.List.{All}
use Rattle.subsumption.specs.declared.fact.Fact.{Fact}
use Rattle.subsumption.specs.declared.fact.Answer.{Answer}
use Rattle.subsumption.specs.declared.fact.Answer.TheVariants.{Yes, No}
use Rattle.subsumption.specs.Facts.{AnswersFact, Entails, IsAbout}
use Rattle.subsumption.specs.ClosedTables.{ClosedTable, entails_fact}
use Rattle.subsumption.specs.TableLaws.{IsTable, SaysExactly}

-- the facts are about the variables alone and entail exactly what the closed table does
pub record Shows (vars : ℕ) (facts : List Fact) (t : ClosedTable) : Type 0 where
  pub about : All (IsAbout vars) facts
  pub closed : IsTable vars t
  pub same : SaysExactly vars (Entails facts) t

-- facts show one closed table at most
abbrev pub ShowOne : Type 0
ShowOne = (vars : ℕ) (facts : List Fact) (t u : ClosedTable) → Shows vars facts t → Shows vars facts u → t ≡ u

-- the answer is yes
abbrev pub is_yes : Answer → Bool
is_yes (Yes path) = true
is_yes (No valuation) = false

-- an exact answer to a question about facts is what the closed table says that they show
abbrev pub AnswersAreShown : Type 0
AnswersAreShown = (vars : ℕ) (facts : List Fact) (t : ClosedTable) (goal : Fact) (answer : Answer) → Shows vars facts t → IsAbout vars goal
    → AnswersFact (vars + 1) facts goal answer → is_yes answer ≡ entails_fact goal t
