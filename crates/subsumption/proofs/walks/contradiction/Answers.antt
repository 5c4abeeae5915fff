use Rattle.subsumption.proofs.MatrixAnswers.{broken_reaches, broken_way}
use Rattle.subsumption.proofs.walks.contradiction.Goals as goal

pub follow-requires-clause-reached : goal.follow-requires-clause-reached
follow-requires-clause-reached c = broken_reaches c.args.matrix.now c.args.fact.now _ _ c.node-2.ensures c.node.ensures c.requires.broken

pub returns : goal.returns
returns c = broken_way c.args.matrix.now c.args.fact.now _ _ c.node-2.ensures c.node.ensures c.requires.broken _ _ c.requires.canonical c.requires.left c.requires.right c.requires.plus c.in_ok-follow.ensures c.in_ok-push.ensures.items
