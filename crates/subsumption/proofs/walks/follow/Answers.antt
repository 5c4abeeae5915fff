use Rattle.std.proofs.Common.{sym, subst}
use Rattle.subsumption.proofs.MatrixWays.{LeadsTo, leads_start, leads_more, leads_shorter, leads_there}
use Rattle.subsumption.proofs.walks.follow.Goals as goal

pub loop-here-init : goal.loop-here-init
loop-here-init c = subst (LeadsTo c.args.matrix.now c.args.i c.args.j c.args.i) (sym c.requires.empty) (leads_start c.args.matrix.now c.args.i c.args.j c.requires.i c.requires.reached)

pub loop-here-smaller : goal.loop-here-smaller
loop-here-smaller c = leads_shorter _ _ _ _ _ _ _ c.requires.canonical c.loop-here.invariant c.in_ok-here.ensures

pub loop-here-preserved : goal.loop-here-preserved
loop-here-preserved c = leads_more _ _ _ _ _ _ _ c.requires.canonical c.requires.j c.loop-here-test.true c.loop-here.invariant c.in_ok-here.ensures

pub returns : goal.returns
returns c = leads_there _ _ _ _ _ c.requires.canonical c.requires.j c.loop-here-test.false c.loop-here.invariant
