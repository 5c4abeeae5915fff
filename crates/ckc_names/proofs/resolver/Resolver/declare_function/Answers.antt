use Rattle.std.proofs.Common.{sym, ◌∙◌}
use Rattle.ckc_names_rules.specs.Mentions.{DeclareFunction}
use Rattle.ckc_names.proofs.Steps.{steps}
use Rattle.ckc_names.proofs.resolver.Resolver.declare_function.Goals as goal

pub returns-then-is_ok : goal.returns-then-is_ok
returns-then-is_ok c =
    rw (← c.self.view_is) (steps (DeclareFunction c.args.name.now c.args.defined) c.self.inside.outcome c.declare_function-self-inside.result c.self.inside.table c.declare_function-self-inside.new.table (sym c.is_ok.ensures.value ∙ c.if-is_ok.true) c.declare_function-self-inside.ensures)
