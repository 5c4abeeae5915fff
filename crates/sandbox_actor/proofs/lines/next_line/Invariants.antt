use Rattle.std.proofs.Common.{◌≡◌, ◌≤◌, ◌-◌, length}
use Rattle.sandbox_actor.specs.Lines.{acts_at}
use Rattle.sandbox_actor.proofs.lines.next_line.Given as goal

abbrev pub invariant-loop-from : goal.invariant-loop-from
invariant-loop-from l = record {
  acts : acts_at l.text l.number l.from ≡ acts_at l.fn.text l.fn.number l.fn.at;
  within : l.from ≤ length l.text;
}

abbrev pub decreases-loop-from : goal.decreases-loop-from
decreases-loop-from l = length l.text - l.from
