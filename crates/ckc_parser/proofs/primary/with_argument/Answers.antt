use Rattle.std.proofs.Common.{[], ◌∷◌, ◌++◌, sym, ap, ◌∙◌}
use Rattle.ckc_tree.specs.Heights.{Reach, ◌beside◌, expressions_reach}
use Rattle.ckc_parser.specs.Reaches.{reach_of}
use Rattle.ckc_parser.specs.Readings.{listed}
use Rattle.ckc_parser.proofs.Arguments.{reach_pushed}
use Rattle.ckc_parser.proofs.primary.with_argument.Goals as goal

pub invariant_of-result : goal.invariant_of-result
invariant_of-result c = record {
  exact =
      c.beside-reach.ensures
      ∙ ap (λ (r : Reach). r beside reach_of c.args.argument.reach) c.args.arguments.exact
      ∙ ap (λ (r : Reach). expressions_reach (listed c.args.arguments.items.items) beside r) c.args.argument.exact
      ∙ sym (reach_pushed c.args.arguments.items.items c.args.argument.expr.value)
      ∙ ap (λ xs. expressions_reach (listed xs)) (sym (c.in_ok-push.ensures ∙ ap (λ x. c.args.arguments.items.items ++ x ∷ []) c.into_inner.ensures));
}
