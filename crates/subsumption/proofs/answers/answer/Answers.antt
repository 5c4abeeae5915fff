use Rattle.subsumption.proofs.MatrixAnswers.{known_answer, known_reaches, unknown_answer}
use Rattle.subsumption.proofs.answers.answer.Goals as goal

pub follow-requires-clause-reached : goal.follow-requires-clause-reached
follow-requires-clause-reached c = known_reaches c.args.matrix.now c.args.goal.now _ _ _ c.node.ensures c.node-then-known.ensures c.known.ensures c.if-known.true

pub returns-then-known : goal.returns-then-known
returns-then-known c = known_answer c.args.matrix.now c.args.goal.now _ _ _ c.node.ensures c.node-then-known.ensures c.known.ensures _ c.if-known.true c.in_ok-follow.ensures

pub returns : goal.returns
returns c = unknown_answer c.args.matrix.now c.args.goal.now _ _ c.node-2.ensures c.known.ensures _ c.requires.canonical c.requires.left c.requires.right c.requires.plus c.if-known.false c.in_ok-values.ensures
