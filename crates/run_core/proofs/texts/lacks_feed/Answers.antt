use Rattle.std.proofs.Common.{◌≡◌, ℕ, ◌-◌, Bool, true, false, not, List, [], ◌∷◌, length, get_or, if◌then◌else◌, refl, ◌∙◌, arith}
use Rattle.std.specs.Prelude.{◌==◌}
use Rattle.run_core.proofs.Feeds.{missing_behind}
use Rattle.run_core.proofs.texts.lacks_feed.Goals as goal

not_swaps : (b : Bool) (x y : List ℕ) → (if b then x else y) ≡ (if not b then y else x)
not_swaps true x y = refl
not_swaps false x y = refl

pub returns-in-len1-up : goal.returns-in-len1-up
returns-in-len1-up c = missing_behind c.args.text.now (length c.args.text.now - 1) (omega arith) ∙ not_swaps (get_or c.args.text.now (length c.args.text.now - 1) 0 == 10) [] (10 ∷ [])
