use Rattle.std.proofs.Common.{◌≡◌, true, [], map, drop}
use Rattle.ckc_tree.specs.Items.{item}
use Rattle.ckc_printer.specs.Laid.{items_behind}
use Rattle.ckc_printer.proofs.program.print.Given as goal

-- unless memory ran out, the text so far with the items that are left is that of all
abbrev pub invariant-loop-written : goal.invariant-loop-written
invariant-loop-written l = l.out.is_whole ≡ true → items_behind l.out.bytes.items (map item (drop l.written-index l.items)) ≡ items_behind [] (map item l.items)
