use Rattle.std.proofs.Common.{drop}
use Rattle.std.specs.List.{flat_map}
use Rattle.ckc_printer.specs.Pieces.{quoted_byte}
use Rattle.ckc_printer.specs.Output.{Leaves}
use Rattle.ckc_printer.proofs.quoted.content.Given as goal

-- the text so far and that of the bytes that are left are that of all
abbrev pub invariant-loop-byte : goal.invariant-loop-byte
invariant-loop-byte l = Leaves l.initial.out l.out (flat_map quoted_byte (drop l.byte-index l.bytes)) (flat_map quoted_byte l.bytes)
