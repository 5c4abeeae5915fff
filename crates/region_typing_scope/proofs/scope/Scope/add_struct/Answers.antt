use Rattle.std.proofs.lemmas.Grind.{common_steps}
use Rattle.std.proofs.lemmas.Bool.Decides.{nat_tests}
use Rattle.std.proofs.Common.{[], ◌∷◌, ◌++◌, length, ap, ◌∙◌, rules, arith}
use Rattle.region_typing_scope.proofs.Tables.{finds_more_as}
use Rattle.region_typing_scope.proofs.scope.Scope.add_struct.Goals as goal

pub invariant_of-self-2-clause-tags_found : goal.invariant_of-self-2-clause-tags_found
invariant_of-self-2-clause-tags_found c =
    let kept = c.in_ok-reserve.ensures.items in
    let last = c.len.ensures ∙ c.reserve.new.self.ok.0 ∙ ap length kept in
    let more = c.push_reserved-2.ensures.items ∙ ap (λ names. names ++ c.args.tag ∷ []) kept in
    finds_more_as c.args.self.now.tags.items c.push_reserved-2.new.self.items c.args.self.now.tag_places c.note.new.self c.args.tag c.len.result c.args.self.now.tags_found last c.in_ok-note.ensures.noted more

pub invariant_of-self : goal.invariant_of-self
invariant_of-self c = search rules

pub returns-in_err-reserve : goal.returns-in_err-reserve
returns-in_err-reserve c = search rules

pub returns-in_err-reserve-2 : goal.returns-in_err-reserve-2
returns-in_err-reserve-2 c = search rules

pub returns-in_err-number : goal.returns-in_err-number
returns-in_err-number c = grind (arith, nat_tests)

pub from_residual-requires-in_err-note : goal.from_residual-requires-in_err-note
from_residual-requires-in_err-note c κs = search rules

pub returns-in_err-note : goal.returns-in_err-note
returns-in_err-note c = grind (arith, nat_tests)

pub push_reserved-requires : goal.push_reserved-requires
push_reserved-requires c = search rules

pub push_reserved-requires-2 : goal.push_reserved-requires-2
push_reserved-requires-2 c = search rules

pub returns : goal.returns
returns c = grind (arith, common_steps)
