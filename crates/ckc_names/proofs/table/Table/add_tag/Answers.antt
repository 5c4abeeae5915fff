use Rattle.std.proofs.Common.{List, ℕ, ap}
use Rattle.ckc_names.specs.State.{with_tags}
use Rattle.ckc_names.specs.Insides.{state_of}
use Rattle.ckc_names.proofs.Tables.{tag_added}
use Rattle.ckc_names.proofs.table.Table.add_tag.Goals as goal

pub returns : goal.returns
returns c =
    let inside = c.self.inside in
    let new = rw (← c.self.view_is) at c.requires in
    rw (← c.self.view_is) (ap (λ (tags : List (List ℕ)). with_tags tags (state_of inside.names inside.held.items inside.tags)) (tag_added inside.tags c.number.new.self c.args.tag.now new c.in_ok-number.ensures.names))
