use Rattle.std.proofs.Common.{◌≡◌, map, ap, ◌∙◌}
use Rattle.ckc_text.specs.Places.{place_at}
use Rattle.ckc_tree.specs.Items.{item}
use Rattle.ckc_names.specs.Named.{named_tree}
use Rattle.region_typing_rules.specs.Items.{variables_declared}
use Rattle.region_typing.specs.Items.{walk}
use Rattle.region_typing.proofs.Checks.{never_unnamed, outside_at_start}
use Rattle.region_typing.proofs.checker.check.Goals as goal

pub core_of_items-requires : goal.core_of_items-requires
core_of_items-requires c =
    let inside : c.deref_mut.result.now ≡ c.in_ok-walk.walk.value = c.deref_mut.ensures.value in
    rw inside (outside_at_start (walk c.in_ok-walk.walk.value) c.given-given.result (variables_declared (map item c.as_slice-written.result.now)) c.in_ok-walk.ensures)

pub answered-requires : goal.answered-requires
answered-requires c = λ unnamed.
    let inside : c.deref_mut.result.now ≡ c.in_ok-walk.walk.value = c.deref_mut.ensures.value in
    let at_start = ap walk inside ∙ c.in_ok-walk.ensures in
    let answer = rw (at_start, c.as_slice-written.ensures.value, c.program-program.ensures.value, c.in_ok-context.ensures, c.given-given.ensures, unnamed) at c.core_of_items.ensures in
    never_unnamed (place_at c.args.src.now) (named_tree c.args.source.now) c.requires.forms (rw c.program-program.ensures.value at c.program-program.ensures.named) answer.so

pub returns : goal.returns
returns c =
    let inside : c.deref_mut.result.now ≡ c.in_ok-walk.walk.value = c.deref_mut.ensures.value in
    let at_start = ap walk inside ∙ c.in_ok-walk.ensures in
    let answer = rw (at_start, c.as_slice-written.ensures.value, c.program-program.ensures.value, c.in_ok-context.ensures, c.given-given.ensures) at c.core_of_items.ensures in
    c.answered.ensures (place_at c.args.src.now) (named_tree c.args.source.now) answer
