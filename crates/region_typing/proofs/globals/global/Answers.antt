use Rattle.std.proofs.Common.{refl}
use Rattle.ckc_text.specs.Places.{place_at}
use Rattle.ckc_tree.specs.Items as trees
use Rattle.region_typing_scope.proofs.Going.{goes_on, refused}
use Rattle.region_typing.specs.Items.{walk}
use Rattle.region_typing.proofs.JudgedVariables.{global_judged}
use Rattle.region_typing_statements.proofs.Testing.{last}
use Rattle.region_typing.proofs.globals.global.Goals as goal

pub returns-in_err-room_for_first : goal.returns-in_err-room_for_first
returns-in_err-room_for_first c = rw (global_judged (place_at c.args.context.now) (walk c.args.walk.now) (trees.global c.args.d.now)) (refused _ c.from_residual.result c.from_residual.ensures.1 c.in_err-room_for_first.ensures)

pub returns-in_err-t : goal.returns-in_err-t
returns-in_err-t c =
    rw (global_judged (place_at c.args.context.now) (walk c.args.walk.now) (trees.global c.args.d.now))
    (goes_on _ c.in_ok-room_for_first.ensures (refused _ c.from_residual-in_err-t.result c.from_residual-in_err-t.ensures.1 c.in_err-t.ensures))

pub returns-in_err-declared_variables : goal.returns-in_err-declared_variables
returns-in_err-declared_variables c =
    rw (global_judged (place_at c.args.context.now) (walk c.args.walk.now) (trees.global c.args.d.now))
    (goes_on _ c.in_ok-room_for_first.ensures (goes_on _ c.in_ok-t.ensures (refused _ c.from_residual-in_err-declared_variables.result c.from_residual-in_err-declared_variables.ensures.1 c.in_err-declared_variables.ensures)))

pub returns : goal.returns
returns c =
    rw (global_judged (place_at c.args.context.now) (walk c.args.walk.now) (trees.global c.args.d.now))
    (goes_on _ c.in_ok-room_for_first.ensures (goes_on _ c.in_ok-t.ensures (goes_on _ c.in_ok-declared_variables.ensures (last _ _ _ _ _ _ c.needs.result refl c.needs.ensures refl))))
