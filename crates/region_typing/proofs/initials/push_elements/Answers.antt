use Rattle.std.proofs.Common.{◌<◌, ◌++◌, length, map, arith}
use Rattle.std.proofs.lemmas.List.{get_or_default}
use Rattle.pointer_modes.specs.Types.{ctype}
use Rattle.ckc_core.specs.Core.{initial}
use Rattle.region_typing.specs.Initials.{elements_of}
use Rattle.region_typing.proofs.Constants.{element_more, elements_done}
use Rattle.region_typing.proofs.initials.push_elements.Goals as goal

pub loop-i-preserved : goal.loop-i-preserved
loop-i-preserved c =
    let s = c.args.structs.now in
    let t = ctype c.args.t.now in
    let all = map initial c.args.cells.now.items ++ elements_of s t c.args.numbers.now in
    let less : c.loop-i.i < length c.args.numbers.now = omega (arith, c.loop-i-test.true) in
    record {
      so_far = element_more s t c.args.numbers.now c.loop-i.i _ all (map initial c.loop-i.cells.items) (map initial c.push_element.new.cells.items) less (get_or_default c.args.numbers.now c.loop-i.i _ _ less) c.in_ok-push_element.ensures c.loop-i.invariant.so_far;
    }

pub returns : goal.returns
returns c =
    let s = c.args.structs.now in
    let t = ctype c.args.t.now in
    elements_done s t c.args.numbers.now c.loop-i.i (map initial c.args.cells.now.items ++ elements_of s t c.args.numbers.now) (map initial c.loop-i.cells.items) (omega (arith, c.loop-i-test.false)) c.loop-i.invariant.so_far
