use Rattle.std.proofs.Common.{codes, refl, ap, ◌∙◌}
use Rattle.hex.proofs.OnLiterals.{hex_on_literals}
use Rattle.serde_json.proofs.OnLiterals.{serde_json_on_literals}
use Rattle.act_words.proofs.Plain.{ascii_line}
use Rattle.act_words.specs.Readings.{line_reading}
use Rattle.sandbox_actor.specs.ActLists.{no_acts, reading_then}
use Rattle.sandbox_actor.proofs.GivenActs.{both_read}
use Rattle.sandbox_actor.proofs.laws.files.Goals as goal

pub returns : goal.returns
unfolding serde_json_on_literals hex_on_literals
returns c =
    let go = ascii_line (codes "{\"act\":\"go\"}") refl refl in
    record {
      two = both_read 1 3 _ _ _ _ no_acts go (ascii_line (codes "{\"act\":\"stop\"}") refl refl) ∙ refl;
      spaces = ap (λ r. reading_then 2 r no_acts) (ascii_line (codes "{\"act\":\"go\"}\r") refl refl) ∙ refl;
      empty = refl;
      third = both_read 1 3 _ _ _ _ (reading_then 4 (line_reading (codes "{\"act\":\"go\"}")) no_acts) go (ascii_line (codes "{\"act\":\"jump\"}") refl refl) ∙ refl;
      blank = refl;
      long = refl;
    }
