use Rattle.std.proofs.Common.{drop, map}
use Rattle.std.specs.List.{flat_map}
use Rattle.ckc_tree.specs.Statements.{assignment}
use Rattle.ckc_printer.specs.StatementPieces.{bundled_pieces}
use Rattle.ckc_printer.specs.Output.{Leaves}
use Rattle.ckc_printer.specs.Spaced.{spaced_text}
use Rattle.ckc_printer.proofs.assignments.bundled.Given as goal

-- the text so far and that of the assignments that are left are that of all
abbrev pub invariant-loop-written : goal.invariant-loop-written
invariant-loop-written l = Leaves l.initial.out l.out (spaced_text (flat_map bundled_pieces (map assignment (drop l.written-index l.listed)))) (spaced_text (flat_map bundled_pieces (map assignment l.listed)))
