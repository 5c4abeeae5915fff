use Rattle.std.proofs.Common.{◌≡◌, true, length, nat_lt, refl, sym, ◌∙◌}
use Rattle.std.proofs.lemmas.Bool.{ltb-true}
use Rattle.ckc_text.specs.declared.code.Code.TheVariants.{E08}
use Rattle.region_typing_statements.proofs.Locals.{few_counted}
use Rattle.region_typing_statements.proofs.Testing.{fails, holds, tested}
use Rattle.region_typing_statements.proofs.declarations.few_locals.Goals as goal

pub returns-in_err-needs-clause-few : goal.returns-in_err-needs-clause-few
returns-in_err-needs-clause-few c = fails _ _ _ _ _ c.from_residual.result (c.has_room.ensures ∙ few_counted c.args.scope.now) c.from_residual.ensures.1 c.in_err-needs.ensures

pub returns-clause-few : goal.returns-clause-few
returns-clause-few c = holds _ _ _ _ _ (c.has_room.ensures ∙ few_counted c.args.scope.now) c.in_ok-needs.ensures (record { so = refl })

pub returns-clause-room : goal.returns-clause-room
returns-clause-room c =
    let less : nat_lt (length c.args.scope.now.locals.items) c.args.scope.now.flow.vars ≡ true = sym c.has_room.ensures ∙ tested _ E08 c.args.span c.in_ok-needs.ensures in
    ltb-true (length c.args.scope.now.locals.items) c.args.scope.now.flow.vars less
