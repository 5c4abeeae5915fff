use Rattle.std.proofs.Common.{sym, ◌∙◌}
use Rattle.ckc_names_rules.specs.Mentions.{Reveal}
use Rattle.ckc_names.proofs.Steps.{steps}
use Rattle.ckc_names.proofs.resolver.Resolver.reveal.Goals as goal

pub returns-then-is_ok : goal.returns-then-is_ok
returns-then-is_ok c =
    rw (← c.self.view_is) (steps (Reveal c.args.name.now) c.self.inside.outcome c.reveal-self-inside.result c.self.inside.table c.reveal-self-inside.new.table (sym c.is_ok.ensures.value ∙ c.if-is_ok.true) c.reveal-self-inside.ensures)
