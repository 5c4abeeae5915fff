use Rattle.std.proofs.Common.{◌≡◌, append_assoc}
use Rattle.std.specs.String.{string_bytes}
use Rattle.hex.specs.Hex.{encode_lower}
use Rattle.act_words.proofs.writing.write_line.Goals as goal

pub returns : goal.returns
returns c =
    let digits : string_bytes c.in_ok-hex.hex ≡ encode_lower c.args.bytes.now = c.in_ok-hex.ensures in
    rw c.into_bytes.ensures.value (simp append_assoc (rw digits at c.in_ok-format.ensures.ok))
