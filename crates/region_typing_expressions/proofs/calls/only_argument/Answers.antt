use Rattle.std.proofs.Common.{◌==◌, ap, ◌∙◌}
use Rattle.region_typing_scope.proofs.Going.{refused_by}
use Rattle.region_typing_expressions.proofs.Conversions.{one_too_many}
use Rattle.region_typing_expressions.proofs.calls.only_argument.Goals as goal

pub returns-in_err-needs-in-Some : goal.returns-in_err-needs-in-Some
returns-in_err-needs-in-Some c =
    refused_by c.from_residual.result c.from_residual.ensures.1
    (λ stop breaks. one_too_many c.in-Some.argument c.pop_front.new.self.items c.args.arguments.items c.is_empty.result c.args.span stop c.in-Some.ensures.items (c.is_empty.ensures ∙ ap (λ n. n == 0) c.pop_front.new.self.ok.0) breaks)
    c.in_err-needs-in-Some.ensures
