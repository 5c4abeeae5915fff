use Rattle.std.proofs.Common.{arith, sym, ◌∙◌}
use Rattle.region_typing_expressions.proofs.MemberCells.{place_found_so, place_behind}
use Rattle.region_typing_expressions.proofs.members.member_place.Goals as goal

pub returns-in_err-place-clause-found : goal.returns-in_err-place-clause-found
returns-in_err-place-clause-found c =
    place_found_so c.args.name c.args.names.now c.args.members.now c.from_residual.result (c.from_residual.ensures ∙ sym c.in_err-place.was ∙ c.name_place.ensures)

pub returns-then-place-members-clause-found : goal.returns-then-place-members-clause-found
returns-then-place-members-clause-found c =
    place_found_so c.args.name c.args.names.now c.args.members.now _ (sym c.in_ok-place.was ∙ c.name_place.ensures)

pub returns-else-place-members-clause-found : goal.returns-else-place-members-clause-found
returns-else-place-members-clause-found c =
    place_behind c.args.name c.args.names.now c.args.members.now c.in_ok-place.place (sym c.in_ok-place.was ∙ c.name_place.ensures) (omega (arith, c.if-place-members.false))
