use Rattle.std.proofs.Common.{drop, map}
use Rattle.ckc_tree.specs.Items.{parameter}
use Rattle.ckc_printer.specs.Pieces.{with_commas}
use Rattle.ckc_printer.specs.ItemPieces.{member_pieces}
use Rattle.ckc_printer.specs.Slices.{commas_from}
use Rattle.ckc_printer.specs.Output.{Leaves}
use Rattle.ckc_printer.specs.Spaced.{spaced_text}
use Rattle.ckc_printer.proofs.items.put_listed.Given as goal

-- the text so far and that of the parameters that are left are that of all
abbrev pub invariant-loop-place : goal.invariant-loop-place
invariant-loop-place l = Leaves l.initial.out l.out (spaced_text (commas_from l.place member_pieces (map parameter (drop l.place l.listed)))) (spaced_text (with_commas member_pieces (map parameter l.listed)))
