use Rattle.std.proofs.Common.{sym, ◌∙◌}
use Rattle.ckc_text.specs.Places.{place_at}
use Rattle.region_typing_rules.specs.Operands.{site_at}
use Rattle.region_typing_scope.specs.OnHeap.{typed}
use Rattle.region_typing_expressions.proofs.Comparing.{ordered_parts}
use Rattle.region_typing_expressions.proofs.operators.ordered.Goals as goal

pub returns-then-are_comparable_values : goal.returns-then-are_comparable_values
returns-then-are_comparable_values c =
    let like = rw (c.deref.ensures, c.deref-2.ensures) at (sym c.are_comparable_values.ensures ∙ c.if-are_comparable_values.true) in
    rw (ordered_parts c.args.comparison (typed c.args.left) (typed c.args.right) (site_at (place_at c.args.context.now) c.args.span) c.args.span, like) c.related.ensures

pub returns-else-are_comparable_values : goal.returns-else-are_comparable_values
returns-else-are_comparable_values c =
    let unlike = rw (c.deref.ensures, c.deref-2.ensures) at (sym c.are_comparable_values.ensures ∙ c.if-are_comparable_values.false) in
    rw (ordered_parts c.args.comparison (typed c.args.left) (typed c.args.right) (site_at (place_at c.args.context.now) c.args.span) c.args.span, unlike) c.compared.ensures
