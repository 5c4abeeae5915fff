use Rattle.std.proofs.Common.{◌≡◌, ◌-◌, get_or, sym, ap, ◌∙◌, arith}
use Rattle.ckc_text.specs.Places.{line_feeds_of}
use Rattle.ckc_text.proofs.LineFeeds.{place_on_first_line, place_on_later_line}
use Rattle.ckc_text.proofs.line_index.LineIndex.place.Goals as goal
use Rattle.ckc_text.proofs.line_index.LineIndex.place.Goals.{in-0, in_default}

pub returns : goal.returns
returns c = λ src small same h.
    let n = c.count_below-ended.result in
    let below = c.count_below-ended.ensures in
    let feeds_are : c.deref.result.now ≡ line_feeds_of src = c.deref.ensures.value ∙ c.self.view_is ∙ same in
    elim c.match-ended.branch [
      | in-0 w ↦ place_on_first_line src _ c.args.at n c.match-ended.col feeds_are h below.within below.parts w.in-0.is (omega (arith, w.saturating_add-col.ensures))
      | in_default w ↦
          let last = w.index.result.now in
          let last_is = w.index.ensures ∙ ap (λ fs. get_or fs (n - 1) last) (sym c.deref.ensures.value) in
          place_on_later_line src _ c.args.at n last c.match-ended.col feeds_are h below.within below.parts (omega arith) last_is w.col-is
    ]
