use Rattle.std.proofs.Common.{◌≡◌, ◌++◌, drop, length}
use Rattle.std.specs.Vec.Iter.{into_iter_items, into_iter_len}
use Rattle.ccbox_call.proofs.process.texts_behind_first.Given as goal

abbrev pub invariant-loop-text : goal.invariant-loop-text
invariant-loop-text l = (l.texts.items ++ into_iter_items l.text-iterator ≡ drop 1 (into_iter_items l.fn.arguments))
    × (into_iter_len l.text-iterator ≡ length (into_iter_items l.text-iterator))
