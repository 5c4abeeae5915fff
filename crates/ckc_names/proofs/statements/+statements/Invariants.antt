use Rattle.std.proofs.Common.{take}
use Rattle.ckc_names.specs.Slices.{block_mentions}
use Rattle.ckc_names.specs.Progress.{Passes}
use Rattle.ckc_names.proofs.statements.+statements.Given as goal

-- the statements so far were gone over
abbrev pub invariant-statements-loop-listed : goal.invariant-statements-loop-listed
invariant-statements-loop-listed l = record {
  so_far : Passes (block_mentions (take l.listed-index l.written)) l.initial.resolver l.resolver;
}
