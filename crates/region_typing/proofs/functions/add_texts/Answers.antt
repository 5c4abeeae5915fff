use Rattle.std.proofs.Common.{List, ap}
use Rattle.ckc_tree.specs.Texts.{Text}
use Rattle.region_typing.specs.Items.{walk}
use Rattle.region_typing.proofs.functions.add_texts.Goals as goal

pub returns : goal.returns
returns c =
    let w = walk c.args.walk.now in
    ap (λ (ts : List Text). record w { scope = record w.scope { strings = record w.scope.strings { texts = ts; taken = w.taken } } }) c.in_ok-push_body_texts.ensures
