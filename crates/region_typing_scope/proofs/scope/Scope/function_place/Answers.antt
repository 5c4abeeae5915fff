use Rattle.std.proofs.Common.{◌∙◌}
use Rattle.region_typing_scope.proofs.Tables.{searched_by}
use Rattle.region_typing_scope.proofs.scope.Scope.function_place.Goals as goal

pub returns : goal.returns
returns c = c.get.ensures ∙ searched_by (λ f. f.name) c.args.self.now.functions.items c.args.self.now.function_places c.args.name c.args.self.now.functions_found
