use Rattle.std.proofs.Common.{◌<◌, arith}
use Rattle.std.proofs.lemmas.List.Elements.{All-from_get_or}
use Rattle.act_words.proofs.laws.are_words.Goals as goal

pub returns : goal.returns
returns c = All-from_get_or (λ x. x < 4294967296) c.args.words.now 0 (λ i h. let fits = c.type_inv.words i in omega arith)
