use Rattle.std.proofs.Common.{sym, ap, ◌∙◌}
use Rattle.ckc_tree.specs.Heights.{around, expression_reach}
use Rattle.ckc_parser.proofs.Arguments.{call_is}
use Rattle.ckc_parser.proofs.build.call_with.Goals as goal

pub built-requires : goal.built-requires
built-requires c =
    c.around-reach.ensures
    ∙ ap (around c.join-span.result.from) c.args.arguments.exact
    ∙ ap expression_reach (sym (call_is c.args.callee c.args.arguments.items c.join-span.result))

pub returns : goal.returns
returns c = rw (← c.join-span.ensures, ← call_is c.args.callee c.args.arguments.items c.join-span.result) c.built.ensures
