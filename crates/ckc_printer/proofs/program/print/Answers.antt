use Rattle.std.proofs.lemmas.Grind.{common_steps}
use Rattle.std.proofs.Common.{◌≡◌, true, [], map, drop, ap, sym, ◌∙◌, arith}
use Rattle.std.proofs.lemmas.List.{drop_all}
use Rattle.std.proofs.lemmas.Result.{IfOk-weaker}
use Rattle.ckc_tree.specs.Items.{item}
use Rattle.ckc_printer.specs.Pieces.{text_of}
use Rattle.ckc_printer.specs.ItemPieces.{item_pieces}
use Rattle.std.specs.List.{flat_map}
use Rattle.ckc_printer.specs.Laid.{items_behind, finished}
use Rattle.ckc_printer.proofs.Lines.{items_text}
use Rattle.ckc_printer.proofs.program.print.Goals as goal

pub returns : goal.returns
returns c =
    let items = c.as_slice-items.result.now in
    let out = c.loop-written.out in
    let none : drop c.loop-written.written-index items ≡ [] = drop_all c.loop-written.written-index items c.loop-written-test.false in
    let all : out.is_whole ≡ true → out.bytes.items ≡ items_behind [] (map item items) = λ whole. sym (ap (λ l. items_behind out.bytes.items (map item l)) none) ∙ c.loop-written.invariant whole in
    IfOk-weaker c.finish.result _ _
    (λ text h. let ended = c.end_text.ensures.made h.0 in
    h.1 ∙ ended.1 ∙ ap finished (all ended.0) ∙ items_text (map item items) ∙ ap (λ l. text_of (flat_map item_pieces (map item l))) c.as_slice-items.ensures.value)
    c.finish.ensures

pub loop-written-preserved : goal.loop-written-preserved
loop-written-preserved c = grind (arith, common_steps)
