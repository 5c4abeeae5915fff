use Rattle.std.proofs.Common.{drop}
use Rattle.ckc_printer.specs.Pieces.{with_commas}
use Rattle.ckc_printer.specs.StatementPieces.{constant_pieces}
use Rattle.ckc_printer.specs.Slices.{commas_from}
use Rattle.ckc_printer.specs.Output.{Leaves}
use Rattle.ckc_printer.specs.Spaced.{spaced_text}
use Rattle.ckc_printer.proofs.declarations.constants.Given as goal

-- the text so far and that of the constants that are left are that of all
abbrev pub invariant-loop-place : goal.invariant-loop-place
invariant-loop-place l = Leaves l.initial.out l.out (spaced_text (commas_from l.place constant_pieces (drop l.place l.listed))) (spaced_text (with_commas constant_pieces l.listed))
