use Rattle.std.proofs.Common.{◌++◌, map, refl, ap, sym, w32, to_z, of_z, arith}
use Rattle.std.proofs.lemmas.Int.{to_z-of_z}
use Rattle.pointer_modes.specs.Types.{ctype}
use Rattle.ckc_core.specs.Core.{initial}
use Rattle.region_typing_rules.specs.Cells.{cells_with}
use Rattle.region_typing_scope.proofs.Cells.{struct_cells, as_many_cells, cell_more, cells_done}
use Rattle.region_typing_scope.proofs.initial_cells.push_member_cells.Goals as goal

pub loop-i-init : goal.loop-i-init
loop-i-init c = record {
  so_far = ap (λ cells. map initial c.args.cells.now.items ++ cells) (struct_cells c.args.structs.now (ctype c.args.t.now) c.args.members.now (to_z w32 (of_z w32 c.args.number)) c.requires.are);
}

pub stride-stride-requires-clause-all : goal.stride-stride-requires-clause-all
stride-stride-requires-clause-all c = sym (as_many_cells c.args.structs.now (ctype c.args.t.now) c.args.members.now c.requires.are)

pub loop-i-preserved : goal.loop-i-preserved
loop-i-preserved c =
    let s = c.args.structs.now in
    let t = ctype c.args.t.now in
    let number = to_z w32 (of_z w32 c.args.number) in
    record {
      so_far = cell_more s t c.args.members.now number c.loop-i.i c.index-members-i.result (map initial c.args.cells.now.items ++ cells_with s t number) c.loop-i.cells.items c.push.new.self.items _ c.in_ok-push.ensures.items (omega (arith, c.loop-i-test.true)) c.index-members-i.is c.requires.are (rw (c.in_ok-ctype.ensures, ← c.index-members-i.is, c.stride-stride.ensures) refl) c.loop-i.invariant.so_far;
    }

pub returns : goal.returns
returns c =
    let s = c.args.structs.now in
    let t = ctype c.args.t.now in
    let number = to_z w32 (of_z w32 c.args.number) in
    let done = cells_done s t c.args.members.now number c.loop-i.i (map initial c.args.cells.now.items ++ cells_with s t number) c.loop-i.cells.items (omega (arith, c.loop-i-test.false)) c.loop-i.invariant.so_far in
    sym (rw (to_z-of_z w32 c.args.number c.ranges.number) at done)
