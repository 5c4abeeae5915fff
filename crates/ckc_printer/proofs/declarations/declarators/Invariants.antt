use Rattle.std.proofs.Common.{drop, map}
use Rattle.ckc_tree.specs.Statements.{declarator}
use Rattle.ckc_printer.specs.Pieces.{with_commas}
use Rattle.ckc_printer.specs.StatementPieces.{declarator_pieces}
use Rattle.ckc_printer.specs.Slices.{commas_from}
use Rattle.ckc_printer.specs.Output.{Leaves}
use Rattle.ckc_printer.specs.Spaced.{spaced_text}
use Rattle.ckc_printer.proofs.declarations.declarators.Given as goal

-- the text so far and that of the variables that are left are that of all
abbrev pub invariant-loop-place : goal.invariant-loop-place
invariant-loop-place l = Leaves l.initial.out l.out (spaced_text (commas_from l.place declarator_pieces (map declarator (drop l.place l.listed)))) (spaced_text (with_commas declarator_pieces (map declarator l.listed)))
