use Rattle.std.proofs.Common.{◌∙◌}
use Rattle.region_typing_scope.proofs.Tables.{searched_by}
use Rattle.region_typing_scope.proofs.scope.Scope.variable_place.Goals as goal

pub returns : goal.returns
returns c = c.get.ensures ∙ searched_by (λ v. v.name) c.args.self.now.variables.items c.args.self.now.variable_places c.args.name c.args.self.now.variables_found
