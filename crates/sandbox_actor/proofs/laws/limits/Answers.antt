use Rattle.std.proofs.Common.{codes, refl, ap, ◌∙◌}
use Rattle.hex.proofs.OnLiterals.{hex_on_literals}
use Rattle.serde_json.proofs.OnLiterals.{serde_json_on_literals}
use Rattle.act_words.proofs.Plain.{ascii_line}
use Rattle.sandbox_actor.specs.ActLists.{no_acts, reading_then}
use Rattle.sandbox_actor.proofs.laws.limits.Goals as goal

pub returns : goal.returns
unfolding serde_json_on_literals hex_on_literals
returns c =
    let go = ascii_line (codes "{\"act\":\"go\"}") refl refl in
    record {
      last_byte = ap (λ r. reading_then 2 r no_acts) go ∙ refl;
      next_byte = refl;
      blank_byte = refl;
      last_line = ap (λ r. reading_then 16777216 r no_acts) go ∙ refl;
    }
