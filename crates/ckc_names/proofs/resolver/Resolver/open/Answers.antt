use Rattle.std.proofs.Common.{sym, ◌∙◌}
use Rattle.ckc_names_rules.specs.Mentions.{Open}
use Rattle.ckc_names.proofs.Steps.{steps}
use Rattle.ckc_names.proofs.resolver.Resolver.open.Goals as goal

pub returns-then-is_ok : goal.returns-then-is_ok
returns-then-is_ok c =
    rw (← c.self.view_is) (steps Open c.self.inside.outcome c.open-self-inside.result c.self.inside.table c.open-self-inside.new.table (sym c.is_ok.ensures.value ∙ c.if-is_ok.true) c.open-self-inside.ensures)
