use Rattle.std.proofs.Common.{sym, ◌∙◌}
use Rattle.ckc_names_rules.specs.Mentions.{Select}
use Rattle.ckc_names.proofs.Steps.{steps}
use Rattle.ckc_names.proofs.resolver.Resolver.select.Goals as goal

pub returns-then-is_ok : goal.returns-then-is_ok
returns-then-is_ok c =
    rw (← c.self.view_is) (steps (Select c.args.member.now) c.self.inside.outcome c.select-self-inside.result c.self.inside.table c.select-self-inside.new.table (sym c.is_ok.ensures.value ∙ c.if-is_ok.true) c.select-self-inside.ensures)
