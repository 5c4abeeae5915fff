use Rattle.std.proofs.Common.{◌≡◌, ◌++◌, take, decimal, codes, flat_map, string_bytes}
use Rattle.act_words.proofs.writing.numbers_text.Given as goal

abbrev pub invariant-loop-number : goal.invariant-loop-number
invariant-loop-number l = string_bytes l.text ≡ string_bytes l.initial.text ++ flat_map (λ m. codes "," ++ decimal m) (take l.number-index l.rest)
