use Rattle.std.proofs.Common.{◌≡◌, take, ap, ◌∙◌, arith}
use Rattle.std.proofs.lemmas.List.{take_all}
use Rattle.ckc_text.specs.Places.{line_feeds_of}
use Rattle.ckc_text.proofs.LineFeeds.{line_feeds_are_offsets, line_feeds_at_feed, line_feeds_at_other}
use Rattle.ckc_text.proofs.line_index.LineIndex.new.Goals as goal
use Rattle.ckc_text.proofs.line_index.LineIndex.new.Goals.{then-b-eq10+in_ok-push, else-b-eq10}

pub loop-at-preserved : goal.loop-at-preserved
loop-at-preserved c =
    let src = c.args.src.now in
    let so_far : c.loop-at.line_feeds.items ≡ line_feeds_of (take c.loop-at.at src) = c.loop-at.invariant in
    elim c.if-b-eq10.branch [
      | then-b-eq10+in_ok-push w ↦ let more = line_feeds_at_feed src c.loop-at.at c.loop-at-test.true w.if-b-eq10.true in cc (so_far, w.in_ok-push.ensures.items)
      | else-b-eq10 w ↦ let more = line_feeds_at_other src c.loop-at.at c.loop-at-test.true w.if-b-eq10.false in cc so_far
    ]

pub invariant_of-result : goal.invariant_of-result
invariant_of-result c =
    let src = c.args.src.now in
    line_feeds_are_offsets src _ (c.loop-at.invariant ∙ ap line_feeds_of (take_all c.loop-at.at src (omega arith))) c.requires
