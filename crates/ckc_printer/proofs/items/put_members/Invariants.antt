use Rattle.std.proofs.Common.{drop, map}
use Rattle.std.specs.List.{flat_map}
use Rattle.ckc_tree.specs.Items.{member}
use Rattle.ckc_printer.specs.ItemPieces.{ended_member_pieces}
use Rattle.ckc_printer.specs.Output.{Leaves}
use Rattle.ckc_printer.specs.Spaced.{spaced_text}
use Rattle.ckc_printer.proofs.items.put_members.Given as goal

-- the text so far and that of the members that are left are that of all
abbrev pub invariant-loop-written : goal.invariant-loop-written
invariant-loop-written l = Leaves l.initial.out l.out (spaced_text (flat_map ended_member_pieces (map member (drop l.written-index l.members)))) (spaced_text (flat_map ended_member_pieces (map member l.members)))
