use Rattle.ckc_core.specs.Core.{expression}
use Rattle.region_typing_flow.proofs.Below.{local_later, term_within}
use Rattle.region_typing_flow.proofs.conditions.+told.Goals as goal

pub told-compared-requires-clause-left : goal.told-compared-requires-clause-left
told-compared-requires-clause-left t c =
    rw c.term-left.ensures (term_within c.args.flow.now.vars c.args.locals.now (expression c.deref-in-Compare.result.now) c.requires)

pub told-compared-requires-clause-right : goal.told-compared-requires-clause-right
told-compared-requires-clause-right t c =
    rw c.term-right.ensures (term_within c.args.flow.now.vars c.args.locals.now (expression c.deref-in-Compare-2.result.now) c.requires)

pub told-null_told-requires : goal.told-null_told-requires
told-null_told-requires t c = local_later _ _ _ c.requires c.pointer_local.ensures.below
