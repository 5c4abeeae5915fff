use Rattle.std.proofs.Common.{sym, ap, arith, length-take-le}
use Rattle.pointer_modes.specs.Types.{ctype}
use Rattle.pointer_modes.proofs.Cells.{length_of_cells, cells_of_struct, offset_of_member}
use Rattle.pointer_modes.proofs.structs.Structs.offset_of_cell.Goals as goal

pub bounds-members-i : goal.bounds-members-i
bounds-members-i c = omega (arith, length_of_cells c.args.self.now (ctype c.args.t.now) c.in-Struct.number c.members-members.result.now (ap ctype c.in-Struct.is) c.members-members.ensures.members)

pub slice_bounds-end_of-end : goal.slice_bounds-end_of-end
slice_bounds-end_of-end c =
    let len = length_of_cells c.args.self.now (ctype c.args.t.now) c.in-Struct.number c.members-members.result.now (ap ctype c.in-Struct.is) c.members-members.ensures.members in
    sym (length-take-le c.args.i c.members-members.result.now (omega arith))

pub returns-in-Struct : goal.returns-in-Struct
returns-in-Struct c =
    let xs = c.members-members.result.now in
    let is = ap ctype c.in-Struct.is in
    let are = c.members-members.ensures.members in
    let len = length_of_cells c.args.self.now (ctype c.args.t.now) c.in-Struct.number xs is are in
    let cells = cells_of_struct c.args.self.now (ctype c.args.t.now) c.in-Struct.number _ is are in
    let member = offset_of_member xs c.args.i c.index-members-i.result (omega arith) in
    let size = c.scalar_size.ensures.bytes in
    let end = c.end_of.ensures.end in
    cc
