use Rattle.std.proofs.Common.{refl}
use Rattle.region_typing_scope.specs.Views.{scope as scope_of}
use Rattle.region_typing_scope.proofs.Settled.{settles}
use Rattle.region_typing_scope.proofs.scope.Scope.end_bundle.Goals as goal

pub returns-clause-known : goal.returns-clause-known
returns-clause-known c =
    settles c.args.self.now.flow c.settle.new.self c.args.span (scope_of c.args.self.now) _ refl c.in_ok-answer.answer c.settled.result c.in_ok-answer.ensures.answers c.in_ok-answer.ensures.after c.settled.ensures
