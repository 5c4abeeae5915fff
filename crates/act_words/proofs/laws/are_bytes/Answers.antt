use Rattle.std.proofs.Common.{◌<◌, arith}
use Rattle.std.proofs.lemmas.List.Elements.{All-from_get_or}
use Rattle.act_words.proofs.laws.are_bytes.Goals as goal

pub returns : goal.returns
returns c = All-from_get_or (λ x. x < 256) c.args.bytes.now 0 (λ i h. let fits = c.type_inv.bytes i in omega arith)
