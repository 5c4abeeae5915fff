use Rattle.std.proofs.lemmas.Grind.{common_steps}
use Rattle.std.proofs.Common.{◌≡◌, ◌+◌, ◌<◌, ◌≤◌, ◌++◌, ◌∷◌, [], length, drop, take, map, sym, ap, ◌∙◌, arith, rules}
use Rattle.std.specs.Prelude.{slice_set}
use Rattle.std.proofs.Math.ListN.{length-set}
use Rattle.std.proofs.lemmas.List.{drop_more, take_more_set, append_assoc, map-append}
use Rattle.std.proofs.lemmas.List.Elements.{All-set}
use Rattle.flat_bytes.specs.Blocks.{grown, blocks_from}
use Rattle.code_words.specs.Runs.{counter_behind}
use Rattle.two_memory_machine_memory.specs.declared.blocks.BlockRow.{BlockRow}
use Rattle.two_memory_machine_memory.specs.Places.{block_row}
use Rattle.two_memory_machine_memory.proofs.Statics.{next_within, blocks_from-block}
use Rattle.two_memory_machine_memory.proofs.memory.rows_with.Goals as goal
use Rattle.two_memory_machine_memory.proofs.memory.rows_with.Goals.{After-as_slice-block}

-- the block lies in the memory
within : (c : After-as_slice-block) → grown c.loop-i.offset (length c.as_slice-block.result.now) ≤ c.args.size
within c =
    let b = c.index-blocks-i.result in
    omega (arith, next_within c.args.blocks.now c.loop-i.offset c.loop-i.i b c.loop-i-test.true c.index-blocks-i.is, ap length c.as_slice-block.ensures, c.loop-i.invariant.counter, c.requires.fits)

some : (c : After-as_slice-block) → 0 < length c.as_slice-block.result.now
some c =
    let at = c.requires.not_empty c.loop-i.i c.index-blocks-i.result c.loop-i-test.true in
    let here : 0 < length c.index-blocks-i.result = rw (← c.index-blocks-i.is) at at in
    omega (arith, here, ap length c.as_slice-block.ensures)

pub overflow_cast-block : goal.overflow_cast-block
overflow_cast-block c = omega (arith, within c)

pub index_mut-requires : goal.index_mut-requires
index_mut-requires c =
    let a = (goal.at.index_mut-requires c).After-as_slice-block in
    omega (arith, within a, some a, c.loop-i.invariant.room, c.loop-i.invariant.len, c.loop-i.rows.ok.0)

pub next_offset-offset-requires : goal.next_offset-offset-requires
next_offset-offset-requires c = omega (arith, within (goal.at.next_offset-offset-requires c).After-as_slice-block)

pub loop-i-preserved : goal.loop-i-preserved
loop-i-preserved c =
    let a = (goal.at.loop-i-preserved c).After-as_slice-block in
    let blocks = c.args.blocks.now in
    let i = c.loop-i.i in
    let b = c.index-blocks-i.result in
    let len : length c.as_slice-block.result.now ≡ length b = ap length c.as_slice-block.ensures in
    let row : BlockRow = record { offset = c.loop-i.offset; bytes = length c.as_slice-block.result.now } in
    let rows = c.loop-i.rows.items in
    let inside : i < length rows = omega (arith, within a, some a, c.loop-i.invariant.room, c.loop-i.invariant.len) in
    let next : c.next_offset-offset.result ≡ grown c.loop-i.offset (length b) = c.next_offset-offset.ensures ∙ ap (grown c.loop-i.offset) len in
    let left : drop i blocks ≡ b ∷ drop (i + 1) blocks = drop_more blocks i b c.loop-i-test.true ∙ ap (λ x. x ∷ drop (i + 1) blocks) (sym c.index-blocks-i.is) in
    let some_b : 0 < length b = omega (arith, some a, len) in
    let fits : grown c.loop-i.offset (length b) ≤ c.args.size = omega (arith, within a, len) in
    let more : map block_row (take (i + 1) (slice_set rows i row)) ≡ map block_row (take i rows) ++ (record { offset = c.loop-i.offset; bytes = length b }) ∷ [] =
    ap (map block_row) (take_more_set rows i row inside) ∙ map-append block_row (take i rows) (row ∷ []) ∙ ap (λ n. map block_row (take i rows) ++ (record { offset = c.loop-i.offset; bytes = n }) ∷ []) len in
    let rest : blocks_from c.args.size c.loop-i.offset (map length (drop i blocks)) ≡ (record { offset = c.loop-i.offset; bytes = length b }) ∷ blocks_from c.args.size c.next_offset-offset.result (map length (drop (i + 1) blocks)) =
    ap (λ bs. blocks_from c.args.size c.loop-i.offset (map length bs)) left ∙ blocks_from-block c.args.size c.loop-i.offset b (map length (drop (i + 1) blocks)) some_b fits
    ∙ ap (λ n. (record { offset = c.loop-i.offset; bytes = length b }) ∷ blocks_from c.args.size n (map length (drop (i + 1) blocks))) (sym next) in
    record {
      all = ap (λ xs. xs ++ blocks_from c.args.size c.next_offset-offset.result (map length (drop (i + 1) blocks))) more
          ∙ append_assoc (map block_row (take i rows)) ((record { offset = c.loop-i.offset; bytes = length b }) ∷ []) (blocks_from c.args.size c.next_offset-offset.result (map length (drop (i + 1) blocks)))
          ∙ ap (λ xs. map block_row (take i rows) ++ xs) (sym rest) ∙ c.loop-i.invariant.all;
      counter = ap (λ n. counter_behind n (drop (i + 1) blocks)) next ∙ sym (ap (counter_behind c.loop-i.offset) left) ∙ c.loop-i.invariant.counter;
      len = length-set rows i row ∙ c.loop-i.invariant.len;
      low = All-set (λ (r : BlockRow). r.offset ≤ c.args.size) rows i row (omega (arith, within a)) c.loop-i.invariant.low;
      room = omega (arith, some a, next, len, c.loop-i.invariant.room);
    }

pub loop-i-init : goal.loop-i-init
loop-i-init c = grind (arith, common_steps)

pub offset_bounds-blocks-i : goal.offset_bounds-blocks-i
offset_bounds-blocks-i c = search rules

pub loop-i-smaller : goal.loop-i-smaller
loop-i-smaller c = search rules

pub returns-clause-len : goal.returns-clause-len
returns-clause-len c = search rules

pub returns-clause-low : goal.returns-clause-low
returns-clause-low c = search rules

pub returns-clause-rows : goal.returns-clause-rows
returns-clause-rows c = grind (arith, common_steps)
