use Rattle.std.proofs.Common.{ap, ◌∙◌}
use Rattle.ckc_names_rules.specs.Scopes.{is_among}
use Rattle.ckc_names.proofs.Names.{is_in_set}
use Rattle.ckc_names.proofs.name_list.NameList.has.Goals as goal

pub returns : goal.returns
returns c = c.contains.ensures ∙ is_in_set c.args.name.now c.self.inside.names.keys ∙ ap (λ names. is_among names c.args.name.now) c.self.view_is
