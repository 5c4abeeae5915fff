use Rattle.std.proofs.Common.{ap, ◌∙◌, is_some}
use Rattle.region_typing.proofs.definitions.Listing.is_defined.Goals as goal

pub returns : goal.returns
returns c = c.is_some.ensures ∙ ap is_some c.get.ensures ∙ c.args.self.now.known.same c.args.name
