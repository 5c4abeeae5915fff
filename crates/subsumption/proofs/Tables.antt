-- Answers about terms.
use Rattle.std.proofs.Common.{ℕ, ◌+◌, ℤ, arith}
use Rattle.std.proofs.lemmas.Int.{ints}
use Rattle.bounds_exprs.specs.declared.term.Term.{Term}
use Rattle.subsumption.specs.declared.fact.Answer.{Answer}
use Rattle.subsumption.specs.declared.fact.Answer.TheVariants.{Yes, No}
use Rattle.subsumption.specs.Facts.{Holds, TermsHold, numbers_of, fact_of, AnswersFact}
use Rattle.subsumption.specs.Tables.{Table, AnswersTerms}

terms_hold : (v : ℕ → ℤ) (a b : Term) → Holds v (fact_of a b) → TermsHold v a b
terms_hold v a b h = omega (arith, ints)

fact_holds : (v : ℕ → ℤ) (a b : Term) → TermsHold v a b → Holds v (fact_of a b)
fact_holds v a b h = omega (arith, ints)

pub terms_answer : (table : Table) (a b : Term) (answer : Answer) → AnswersFact (table.vars + 1) table.facts (fact_of a b) answer → AnswersTerms table a b answer
terms_answer table a b (Yes path) h = (h.0, (λ v meets. terms_hold v a b (h.1 v meets)), h.2)
terms_answer table a b (No valuation) h = (h.0, (λ holds. h.1 (fact_holds (numbers_of valuation.values.items) a b holds)), omega (arith, h.2))
