use Rattle.std.proofs.Common.{◌-◌}
use Rattle.ckc_printer.specs.TypePieces.{stars_pieces}
use Rattle.ckc_printer.specs.Output.{Leaves}
use Rattle.ckc_printer.specs.Spaced.{spaced_text}
use Rattle.ckc_printer.proofs.types.stars.Given as goal

-- the text so far and the stars that are left are all
abbrev pub invariant-loop : goal.invariant-loop
invariant-loop l = Leaves l.initial.out l.out (spaced_text (stars_pieces (l.count - l.counter))) (spaced_text (stars_pieces l.count))
