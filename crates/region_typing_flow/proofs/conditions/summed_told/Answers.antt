use Rattle.ckc_core.specs.Core.{expression}
use Rattle.region_typing_flow.proofs.Below.{term_within}
use Rattle.region_typing_flow.proofs.conditions.summed_told.Goals as goal

pub element_told-requires-clause-index_small : goal.element_told-requires-clause-index_small
element_told-requires-clause-index_small c = rw c.term.ensures (term_within c.args.flow.now.vars c.args.locals.now (expression c.args.elements.now) c.requires)
