use Rattle.std.proofs.Common.{sym, ap, ◌∙◌}
use Rattle.ckc_names.specs.NameLists.{name_at}
use Rattle.ckc_names.proofs.Names.{name_of_key}
use Rattle.ckc_names.proofs.name_list.NameList.get.Goals as goal

pub returns : goal.returns
returns c = c.as_slice.ensures.value ∙ sym (name_of_key c.self.inside.names.keys c.args.number c.index.result.now c.index.ensures) ∙ ap (λ names. name_at names c.args.number) c.self.view_is
