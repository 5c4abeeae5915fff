use Rattle.std.proofs.Common.{sym, ◌∙◌}
use Rattle.ckc_names_rules.specs.Mentions.{UseTag}
use Rattle.ckc_names.proofs.Steps.{steps}
use Rattle.ckc_names.proofs.resolver.Resolver.use_tag.Goals as goal

pub returns-then-is_ok : goal.returns-then-is_ok
returns-then-is_ok c =
    rw (← c.self.view_is) (steps (UseTag c.args.tag.now) c.self.inside.outcome c.use_tag-self-inside.result c.self.inside.table c.use_tag-self-inside.new.table (sym c.is_ok.ensures.value ∙ c.if-is_ok.true) c.use_tag-self-inside.ensures)
