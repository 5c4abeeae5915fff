use Rattle.std.proofs.Common.{refl}
use Rattle.ckc_names.proofs.resolver.Resolver.finish.Goals as goal

pub returns-in-Ok : goal.returns-in-Ok
returns-in-Ok c = rw (← c.self.view_is, c.in-Ok.is, c.into_names-names.ensures) (refl, (c.self.inside.table.scopes, refl))
