use Rattle.std.proofs.Common.{◌≡◌, map, take, Some}
use Rattle.serde_json.specs.View.{view, number_view}
use Rattle.serde_json.specs.Find.{as_number}
use Rattle.act_words.proofs.Each.{each}
use Rattle.act_words.proofs.reading.numbers_of.Given as goal

abbrev pub invariant-loop-item : goal.invariant-loop-item
invariant-loop-item l = each (λ v. as_number (view v)) (take l.item-index l.items) ≡ Some (map number_view l.numbers.items)
