use Rattle.std.proofs.Common.{◌≡◌, ◌-◌, ◌≤◌, length, take}
use Rattle.ckc_io.specs.Written.{grown}
use Rattle.ckc_io.proofs.whole.write_whole.Given as goal

abbrev pub invariant-loop-at : goal.invariant-loop-at
invariant-loop-at g l =
    let sink = g.K.Sink in
    record {
      within : l.at ≤ length l.text;
      written : sink.written l.sink ≡ grown (sink.written l.fn.sink) (take l.at l.text);
      faults : sink.faults l.sink ≡ sink.faults l.fn.sink;
    }

abbrev pub decreases-loop-at : goal.decreases-loop-at
decreases-loop-at g l = length l.text - l.at
