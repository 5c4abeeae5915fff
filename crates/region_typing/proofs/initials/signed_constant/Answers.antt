use Rattle.std.proofs.Common.{refl}
use Rattle.region_typing.proofs.initials.signed_constant.Goals as goal

pub positive-requires : goal.positive-requires
positive-requires c = let small = rw c.in-Number.is at c.requires in small c.in-Number.value refl
