use Rattle.std.proofs.Common.{◌++◌, map, arith}
use Rattle.pointer_modes.specs.Types.{ctype}
use Rattle.ckc_core.specs.Core.{initial}
use Rattle.region_typing_rules.specs.Items.{zeros_of}
use Rattle.region_typing.proofs.Constants.{zeros_more, zeros_done}
use Rattle.region_typing.proofs.initials.push_zeros.Goals as goal

pub loop-left-preserved : goal.loop-left-preserved
loop-left-preserved c =
    let s = c.args.structs.now in
    let t = ctype c.args.t.now in
    record {
      so_far = zeros_more s t c.loop-left.left (map initial c.args.cells.now.items ++ zeros_of c.args.count s t) (map initial c.loop-left.cells.items) (map initial c.push_cells.new.cells.items) (omega (arith, c.loop-left-test.true)) c.in_ok-push_cells.ensures c.loop-left.invariant.so_far;
    }

pub returns : goal.returns
returns c =
    let s = c.args.structs.now in
    let t = ctype c.args.t.now in
    zeros_done s t c.loop-left.left (map initial c.args.cells.now.items ++ zeros_of c.args.count s t) (map initial c.loop-left.cells.items) (omega (arith, c.loop-left-test.false)) c.loop-left.invariant.so_far
