use Rattle.std.specs.Option.{option_map}
use Rattle.ckc_text.specs.Places.{place_at}
use Rattle.ckc_tree.specs.Statements.{assignment}
use Rattle.region_typing_rules.specs.Statements.{optional_step}
use Rattle.region_typing_scope.specs.OnHeap.{statement}
use Rattle.region_typing_statements.proofs.Ways.{stepped}
use Rattle.region_typing_statements.proofs.statements.step_behind.Goals as goal

pub returns : goal.returns
returns c =
    let ended = c.in_ok-end_turn.ensures in
    let known = ended.known in
    stepped statement (λ g. optional_step (place_at c.args.context.now) g (option_map assignment c.args.step.now)) _ _ _ c.args.scope.now c.end_turn.new.self c.optional_step.new.scope c.optional_step.result known ended.seen ended.size c.optional_step.ensures
