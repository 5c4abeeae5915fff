use Rattle.std.proofs.Common.{◌∙◌}
use Rattle.region_typing_scope.proofs.Tables.{searched}
use Rattle.region_typing_scope.proofs.scope.Scope.tag_place.Goals as goal

pub returns : goal.returns
returns c = c.get.ensures ∙ searched c.args.self.now.tag_places c.args.self.now.tags.items c.args.tag c.args.self.now.tags_found
