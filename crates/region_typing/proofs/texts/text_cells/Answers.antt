use Rattle.std.proofs.Common.{◌<◌, length, map, arith}
use Rattle.std.proofs.lemmas.List.{get_or_default}
use Rattle.ckc_core.specs.Core.{initial}
use Rattle.region_typing_rules.specs.Strings.{text_cells}
use Rattle.region_typing.proofs.TextCells.{cells_more, cells_done}
use Rattle.region_typing.proofs.texts.text_cells.Goals as goal

pub loop-byte-preserved : goal.loop-byte-preserved
loop-byte-preserved c =
    let less : c.loop-byte.byte-index < length c.args.bytes.now = omega (arith, c.loop-byte-test.true) in
    record { so_far = cells_more c.args.bytes.now c.loop-byte.byte-index _ (text_cells c.args.bytes.now) (map initial c.loop-byte.cells.items) (map initial c.push_character.new.cells.items) less (get_or_default c.args.bytes.now c.loop-byte.byte-index _ _ less) c.in_ok-push_character.ensures c.loop-byte.invariant.so_far }

pub returns : goal.returns
returns c = cells_done c.args.bytes.now c.loop-byte.byte-index (text_cells c.args.bytes.now) (map initial c.loop-byte.cells.items) (map initial c.push_character-2.new.cells.items) (omega (arith, c.loop-byte-test.false)) c.in_ok-push_character-2.ensures c.loop-byte.invariant.so_far
