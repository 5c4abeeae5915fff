use Rattle.std.proofs.Common.{◌≡◌, append_assoc}
use Rattle.std.specs.String.{string_bytes}
use Rattle.act_words.specs.Lines.{listed}
use Rattle.act_recorder.proofs.lines.call_line.Goals as goal

pub returns : goal.returns
returns c =
    let list : string_bytes c.in_ok-args.args ≡ listed c.args.args.now = c.in_ok-args.ensures in
    rw c.into_bytes.ensures.value (simp append_assoc (rw list at c.in_ok-format.ensures.ok))
