use Rattle.std.proofs.lemmas.Grind.{elements}
use Rattle.std.proofs.Common.{◌≤◌, ◌<◌, map, length, refl, arith, rules}
use Rattle.std.specs.Prelude.{slice_get}
use Rattle.std.proofs.lemmas.List.{length-map}
use Rattle.pointer_modes.specs.Types.{ctype}
use Rattle.region_typing_flow.proofs.Assigned.{bounds_below, number_below}
use Rattle.region_typing_flow.proofs.steps.set.Goals as goal

pub set_number-requires-clause-below : goal.set_number-requires-clause-below
set_number-requires-clause-below c =
    let types = map ctype c.args.locals.now in
    rw length-map at (number_below types c.args.local (slice_get types c.args.local) refl c.in-Number.ensures)

pub assign_pointer-requires-clause-below : goal.assign_pointer-requires-clause-below
assign_pointer-requires-clause-below c =
    let types = map ctype c.args.locals.now in
    let few : length types ≤ c.args.flow.now.vars = rw length-map c.requires in
    let below : c.args.local < length types = bounds_below types c.args.local (slice_get types c.args.local) c.in-Bounds.kind refl c.in-Bounds.ensures in
    omega arith

pub declared-requires : goal.declared-requires
declared-requires c = grind (arith, elements)

pub assign_pointer-requires-clause-from_below : goal.assign_pointer-requires-clause-from_below
assign_pointer-requires-clause-from_below c = search rules

pub assign_pointer-requires-clause-small : goal.assign_pointer-requires-clause-small
assign_pointer-requires-clause-small c = grind (arith, elements)

pub returns-in-Number-clause-ok : goal.returns-in-Number-clause-ok
returns-in-Number-clause-ok c = search rules

pub returns-in-Bounds-clause-ok : goal.returns-in-Bounds-clause-ok
returns-in-Bounds-clause-ok c = search rules

pub returns-in-Bounds-clause-vars : goal.returns-in-Bounds-clause-vars
returns-in-Bounds-clause-vars c = search rules

pub returns-in-Nothing-clause-ok : goal.returns-in-Nothing-clause-ok
returns-in-Nothing-clause-ok c = search rules
