use Rattle.std.proofs.Common.{◌≡◌, take, Some}
use Rattle.serde_json.specs.View.{number_view}
use Rattle.act_words.specs.Readings.{word_of}
use Rattle.act_words.proofs.Each.{each}
use Rattle.act_words.proofs.reading.words_of.Given as goal

abbrev pub invariant-loop-number : goal.invariant-loop-number
invariant-loop-number l = each (λ n. word_of (number_view n)) (take l.number-index l.numbers) ≡ Some l.words.items
