use Rattle.std.proofs.Common.{refl}
use Rattle.std.specs.Fmt.{digits}
use Rattle.hex.proofs.OnLiterals.{hex_on_literals}
use Rattle.act_recorder.proofs.laws.lines.Goals as goal

pub returns : goal.returns
unfolding digits hex_on_literals
returns c =
    record {
      seen_bytes = refl;
      seen_call = refl;
      seen_reply = refl;
      looked = refl;
      wrote = refl;
      passed = refl;
      replied = refl;
    }
