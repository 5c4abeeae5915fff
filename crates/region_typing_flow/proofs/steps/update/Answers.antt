use Rattle.std.proofs.Common.{◌≤◌, ◌<◌, map, length, None, refl, arith}
use Rattle.std.specs.Prelude.{slice_get}
use Rattle.std.proofs.lemmas.List.{length-map}
use Rattle.pointer_modes.specs.Types.{ctype}
use Rattle.ckc_core.specs.declared.program.Site.{Site}
use Rattle.ckc_core.specs.Core.{Arithmetic, Local, expression}
use Rattle.region_typing_flow.proofs.Assigned.{bounds_below, number_set}
use Rattle.region_typing_flow.proofs.Below.{small_below, term_within}
use Rattle.region_typing_flow.proofs.steps.update.Goals as goal

pub assign_int-requires-clause-to_below : goal.assign_int-requires-clause-to_below
assign_int-requires-clause-to_below c =
    let types = map ctype c.args.locals.now in
    let site : Site = record { place = record { line = 0; col = 0 } } in
    let value = Arithmetic c.args.operator (Local c.args.local None) (expression c.args.value.now) site in
    rw (c.combined-to.ensures types (Local c.args.local None) (expression c.args.value.now) site c.local_term.ensures c.term.ensures) (small_below c.args.flow.now.vars _ (term_within c.args.flow.now.vars c.args.locals.now value c.requires))

pub assign_pointer-requires-clause-below : goal.assign_pointer-requires-clause-below
assign_pointer-requires-clause-below c =
    let types = map ctype c.args.locals.now in
    let few : length types ≤ c.args.flow.now.vars = rw length-map c.requires in
    let below : c.args.local < length types = bounds_below types c.args.local (slice_get types c.args.local) c.in-Bounds.field-0 refl c.in-Bounds.ensures in
    omega arith

pub returns-in-Number-clause-ok : goal.returns-in-Number-clause-ok
returns-in-Number-clause-ok c site =
    let types = map ctype c.args.locals.now in
    let value = Arithmetic c.args.operator (Local c.args.local None) (expression c.args.value.now) site in
    rw (number_set (slice_get types c.args.local) types c.args.local value c.args.flow.now c.in-Number.ensures)
    (rw (c.combined-to.ensures types (Local c.args.local None) (expression c.args.value.now) site c.local_term.ensures c.term.ensures) at c.assign_int.ensures.ok)
