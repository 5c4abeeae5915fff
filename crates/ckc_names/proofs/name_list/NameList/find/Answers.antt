use Rattle.std.proofs.Common.{sym, ap, ◌∙◌}
use Rattle.ckc_names_rules.specs.Given.{number_in}
use Rattle.ckc_names.proofs.Names.{found_number, end_number}
use Rattle.ckc_names.proofs.name_list.NameList.find.Goals as goal

pub returns-in-Some : goal.returns-in-Some
returns-in-Some c = found_number c.args.name.now c.self.inside.names.keys c.in-Some.number (sym c.in-Some.ensures.index) ∙ ap (λ names. number_in names c.args.name.now) c.self.view_is

pub returns-in-None : goal.returns-in-None
returns-in-None c = c.len.ensures.len ∙ end_number c.args.name.now c.self.inside.names.keys (sym c.in-None.ensures.index) ∙ ap (λ names. number_in names c.args.name.now) c.self.view_is
