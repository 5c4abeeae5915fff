use Rattle.std.proofs.Common.{map}
use Rattle.region_typing_expressions.specs.Calls.{argument}
use Rattle.region_typing_scope.proofs.Going.{goes_on, refused}
use Rattle.region_typing_expressions.proofs.Continuing.{measures_parts}
use Rattle.region_typing_expressions.proofs.calls.measures.Goals as goal

pub returns-in_err-argument : goal.returns-in_err-argument
returns-in_err-argument c =
    rw (measures_parts (map argument c.args.arguments.items) c.args.site c.args.span) (refused _ c.from_residual.result c.from_residual.ensures.1 c.in_err-argument.ensures)

pub returns : goal.returns
returns c = rw (measures_parts (map argument c.args.arguments.items) c.args.site c.args.span) (goes_on _ c.in_ok-argument.ensures c.text_length.ensures)
