use Rattle.std.proofs.Common.{sym, ap, ◌∙◌}
use Rattle.ckc_names_rules.specs.Scopes.{is_among}
use Rattle.ckc_names.proofs.Tables.{among_reverse}
use Rattle.ckc_names.proofs.table.Table.has_tag.Goals as goal

pub returns : goal.returns
returns c = c.has.ensures ∙ sym (among_reverse c.self.inside.tags c.args.tag.now) ∙ ap (λ s. is_among s.scopes.tags c.args.tag.now) c.self.view_is
