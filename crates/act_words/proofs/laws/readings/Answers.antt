use Rattle.std.proofs.Common.{codes, refl, ◌∙◌}
use Rattle.hex.proofs.OnLiterals.{hex_on_literals}
use Rattle.serde_json.proofs.OnLiterals.{serde_json_on_literals}
use Rattle.act_words.proofs.Plain.{ascii_line}
use Rattle.act_words.proofs.laws.readings.Goals as goal

pub returns : goal.returns
unfolding serde_json_on_literals hex_on_literals
returns c =
    record {
      go = ascii_line (codes "{\"act\":\"go\"}") refl refl ∙ refl;
      read = ascii_line (codes " { \"len\" : 4 , \"at\" : 16 , \"act\" : \"read\" }\r") refl refl ∙ refl;
      write = ascii_line (codes "{\"act\":\"write\",\"at\":4294967295,\"hex\":\"0aFf\"}") refl refl ∙ refl;
      call = ascii_line (codes "{\"act\":\"call\",\"args\":[1,2],\"fun\":0}") refl refl ∙ refl;
      twice = ascii_line (codes "{\"act\":\"stop\",\"value\":1,\"value\":7,\"act\":\"return\"}") refl refl ∙ refl;
      stop = ascii_line (codes "{\"act\":\"stop\"}") refl refl ∙ refl;
    }
