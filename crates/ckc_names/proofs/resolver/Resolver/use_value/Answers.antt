use Rattle.std.proofs.Common.{sym, ◌∙◌}
use Rattle.ckc_names_rules.specs.Mentions.{Use}
use Rattle.ckc_names.proofs.Steps.{steps}
use Rattle.ckc_names.proofs.resolver.Resolver.use_value.Goals as goal

pub returns-then-is_ok : goal.returns-then-is_ok
returns-then-is_ok c =
    rw (← c.self.view_is) (steps (Use c.args.name.now) c.self.inside.outcome c.use_value-self-inside.result c.self.inside.table c.use_value-self-inside.new.table (sym c.is_ok.ensures.value ∙ c.if-is_ok.true) c.use_value-self-inside.ensures)
