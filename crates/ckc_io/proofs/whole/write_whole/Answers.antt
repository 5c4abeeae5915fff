use Rattle.std.proofs.Common.{rules, ◌∙◌}
use Rattle.ckc_io.proofs.Fronts.{grown_rest}
use Rattle.ckc_io.proofs.whole.write_whole.Goals as goal

pub loop-at-preserved : goal.loop-at-preserved
loop-at-preserved g c = record {
  within = search rules;
  written = grown_rest _ _ _ _ _ _ c.loop-at.invariant.written c.in_ok-at.ensures.written;
  faults = c.in_ok-at.ensures.counts ∙ c.loop-at.invariant.faults;
}
