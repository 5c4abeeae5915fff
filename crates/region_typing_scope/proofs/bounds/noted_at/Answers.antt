use Rattle.std.proofs.Common.{refl}
use Rattle.pointer_modes.specs.Types.{ctype}
use Rattle.ckc_core.specs.Core.{Direct, place}
use Rattle.region_typing_scope.proofs.bounds.noted_at.Goals as goal

pub returns-in-Local : goal.returns-in-Local
returns-in-Local c = rw (c.in-Local.is, c.noted_as.ensures.local c.in-Local.local) refl

pub returns-in-Cell : goal.returns-in-Cell
returns-in-Cell c = rw (c.in-Cell.is, c.noted_as-in-Cell.ensures.cell (ctype c.in-Cell.ctype) (place c.in-Cell.place)) refl

pub returns-in-Bounded : goal.returns-in-Bounded
returns-in-Bounded c = rw (c.in-Bounded.is, c.noted_as-in-Bounded.ensures.cell (ctype c.in-Bounded.ctype) (Direct c.in-Bounded.object 0)) refl

pub returns-in-Unknown : goal.returns-in-Unknown
returns-in-Unknown c = rw (c.in-Unknown.is, c.noted_as-in-Unknown.ensures.cell (ctype c.in-Unknown.ctype) (Direct c.in-Unknown.object 0)) refl

pub returns-in-Array : goal.returns-in-Array
returns-in-Array c = rw (c.in-Array.is, c.noted_as-in-Array.ensures.array (Direct c.in-Array.object 0)) refl
