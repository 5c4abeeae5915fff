use Rattle.std.proofs.Common.{codes, refl, ◌∙◌}
use Rattle.hex.proofs.OnLiterals.{hex_on_literals}
use Rattle.serde_json.proofs.OnLiterals.{serde_json_on_literals}
use Rattle.act_words.proofs.Plain.{ascii_line}
use Rattle.act_words.proofs.laws.refusals.Goals as goal

pub returns : goal.returns
unfolding serde_json_on_literals hex_on_literals
returns c =
    record {
      long = refl;
      cut = ascii_line (codes "{\"act\":\"go\"") refl refl ∙ refl;
      unknown = ascii_line (codes "{\"act\":\"jump\"}") refl refl ∙ refl;
      minus = ascii_line (codes "{\"act\":\"return\",\"value\":-1}") refl refl ∙ refl;
      fraction = ascii_line (codes "{\"act\":\"return\",\"value\":1.0}") refl refl ∙ refl;
      large = ascii_line (codes "{\"act\":\"return\",\"value\":4294967296}") refl refl ∙ refl;
      size = ascii_line (codes "{\"act\":\"read\",\"at\":0,\"len\":65}") refl refl ∙ refl;
      shape_first = ascii_line (codes "{\"act\":\"return\",\"value\":-1,\"x\":0}") refl refl ∙ refl;
      number_next = ascii_line (codes "{\"act\":\"read\",\"at\":-1,\"len\":0}") refl refl ∙ refl;
    }
