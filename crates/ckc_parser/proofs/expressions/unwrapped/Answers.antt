use Rattle.std.proofs.Common.{◌≡◌, ◌+◌, ◌-◌, length, refl, arith}
use Rattle.ckc_parser.proofs.Waiting.{waiting_front}
use Rattle.ckc_parser.proofs.expressions.unwrapped.Goals as goal

pub returns : goal.returns
returns c =
    let all : c.len-others.result - 1 + 1 ≡ length c.args.around.now.pending.items = omega (arith, c.len-others.ensures) in
    record {
      left = λ f p is. rw c.truncate.ensures.items (waiting_front _ _ f p all is);
      depth = refl;
      loosest = refl;
      same = refl;
      outer_is = refl;
    }
