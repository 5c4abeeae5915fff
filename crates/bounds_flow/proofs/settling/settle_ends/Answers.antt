use Rattle.std.proofs.Common.{◌≡◌, true, Option, subst}
use Rattle.subsumption.specs.ClosedTables.{entails_terms}
use Rattle.subsumption.specs.declared.fact.Valuation.{Valuation}
use Rattle.bounds_flow.specs.Settling.{AnswersAsked}
use Rattle.bounds_flow.proofs.Answers.{lower_falls, none_answered, upper_falls}
use Rattle.bounds_flow.proofs.settling.settle_ends.Goals as goal

pub returns-in-Some : goal.returns-in-Some
returns-in-Some c =
    let t = c.args.facts.now in
    let declared = c.args.declared.now in
    let b = c.args.b.now in
    let P : Option Valuation → Type 0 = λ v. AnswersAsked t.vars t.table (record { low = b.lo; high = declared.lo }) v in
    lower_falls t.vars t.table declared b c.args.p c.in-Some.valuation (subst P c.in-Some.is c.in_ok-valuation.ensures)

pub returns-in-Some-2 : goal.returns-in-Some-2
returns-in-Some-2 c =
    let t = c.args.facts.now in
    let declared = c.args.declared.now in
    let b = c.args.b.now in
    let P : Option Valuation → Type 0 = λ v. AnswersAsked t.vars t.table (record { low = declared.hi; high = b.hi }) v in
    let first : entails_terms b.lo declared.lo t.table ≡ true =
    none_answered t.vars t.table (record { low = b.lo; high = declared.lo }) _ c.in_default.not-Some c.in_ok-valuation.ensures in
    upper_falls t.vars t.table declared b c.args.p c.in-Some-2.valuation first (subst P c.in-Some-2.is c.in_ok-valuation-2.ensures)
