use Rattle.std.proofs.Common.{subst}
use Rattle.region_typing_rules.specs.Scopes.{Scope}
use Rattle.region_typing_scope.specs.Answering.{Answers}
use Rattle.region_typing_scope.specs.Settlings.{settled_at}
use Rattle.region_typing_scope.specs.Views.{scope as scope_of}
use Rattle.region_typing_scope.proofs.scope.Scope.settle.Goals as goal

pub returns-clause-known : goal.returns-clause-known
returns-clause-known c =
    subst (λ (g : Scope). Answers (λ (u : Unit {0}). scope_of c.end_bundle.new.self) (settled_at c.args.span g) c.end_bundle.result) c.in_ok-assign.ensures.known c.end_bundle.ensures.known
