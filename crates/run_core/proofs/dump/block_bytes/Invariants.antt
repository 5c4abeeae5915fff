use Rattle.std.proofs.Common.{◌≡◌, ◌+◌, ◌-◌, take, drop}
use Rattle.run_core.proofs.dump.block_bytes.Given as goal

abbrev pub invariant-reading : goal.invariant-reading
invariant-reading l =
    record {
      place : l.at ≡ l.address + l._count;
      same : l.bytes.items ≡ take l._count (drop (l.address - l.machine.memory.base) l.machine.memory.bytes);
    }
