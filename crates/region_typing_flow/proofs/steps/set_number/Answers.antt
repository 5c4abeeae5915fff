use Rattle.ckc_core.specs.Core.{expression}
use Rattle.region_typing_flow.proofs.Below.{small_below, term_within}
use Rattle.region_typing_flow.proofs.steps.set_number.Goals as goal

pub assign_int-requires-clause-to_below : goal.assign_int-requires-clause-to_below
assign_int-requires-clause-to_below c =
    rw c.term-to.ensures (small_below c.args.flow.now.vars _ (term_within c.args.flow.now.vars c.args.locals.now (expression c.args.value.now) c.requires.few))
