use Rattle.std.proofs.lemmas.Grind.{elements}
use Rattle.std.proofs.Common.{◌-◌, ◌++◌, take, drop, sym, ap, ◌∙◌, append_assoc, rules, arith}
use Rattle.std.specs.Prelude.{flat_map}
use Rattle.act_words.specs.Shown.{Shown}
use Rattle.act_recorder.specs.Lines.{block_text}
use Rattle.run_core.specs.Progress.{blocks_of}
use Rattle.run_core.proofs.Dumping.{text_more, text_whole}
use Rattle.run_core.proofs.dump.add_blocks.Goals as goal

pub adding-preserved : goal.adding-preserved
adding-preserved c =
    let m = c.args.machine.now in
    let b : Shown = record { address = c.in-Some.address; bytes = take c.in-Some.len (drop (c.in-Some.address - m.memory.base) m.memory.bytes) } in
    c.in_ok-extend_from_slice.ensures.items
    ∙ ap (λ t. c.adding.text.items ++ t) (c.deref.ensures.value ∙ c.in_ok-line.ensures)
    ∙ ap (λ t. t ++ block_text b) c.adding.invariant
    ∙ append_assoc c.args.text.now.items (flat_map block_text (take c.adding.k (blocks_of m))) (block_text b)
    ∙ ap (λ t. c.args.text.now.items ++ t) (sym (text_more m c.adding.k c.in-Some.address c.in-Some.len c.in-Some.ensures.block))

pub returns : goal.returns
returns c = c.adding.invariant ∙ ap (λ t. c.args.text.now.items ++ t) (text_whole c.args.machine.now c.adding.k c.in_default.ensures.block)

pub line_of-requires : goal.line_of-requires
line_of-requires c = search rules

pub branch-line-requires : goal.branch-line-requires
branch-line-requires c κs = search rules

pub returns-in_err-line : goal.returns-in_err-line
returns-in_err-line c = search rules

pub returns-in_err-extend_from_slice : goal.returns-in_err-extend_from_slice
returns-in_err-extend_from_slice c = search rules

pub overflow_add-k : goal.overflow_add-k
overflow_add-k c = search rules

pub adding-smaller : goal.adding-smaller
adding-smaller c = grind (arith, elements)
