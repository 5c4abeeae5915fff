use Rattle.std.proofs.Common.{◌≡◌, suc, ◌+◌, ◌++◌, ◌∷◌, [], map, drop, sym, ap, ◌∙◌, append_assoc, arith}
use Rattle.std.proofs.lemmas.List.{drop_more}
use Rattle.std.proofs.lemmas.List.Elements.{All-push}
use Rattle.code_words.specs.Formats.{IsFunc}
use Rattle.check_insertion.specs.Erased.{function}
use Rattle.lowering.specs.Correct.{IsFunction}
use Rattle.lowering.specs.Images.{function_code, functions_from}
use Rattle.lowering.proofs.Slices.{meant_at}
use Rattle.lowering.proofs.images.emit_functions.Goals as goal

pub emit_function-requires : goal.emit_function-requires
emit_function-requires c =
    let f = c.index-functions-index in
    meant_at function IsFunction c.args.functions.now c.loop-index.index f.result c.loop-index-test.true f.is c.requires.small

pub loop-index-preserved : goal.loop-index-preserved
loop-index-preserved c =
    let functions = c.args.functions.now in
    let i = c.loop-index.index in
    let f = c.index-functions-index in
    let funs = c.loop-index.funs.items in
    let code = function_code i (function f.result) in
    let rest = map function (drop (i + 1) functions) in
    let next : suc i ≡ i + 1 = omega arith in
    let left : drop i functions ≡ f.result ∷ drop (i + 1) functions = drop_more functions i f.result c.loop-index-test.true ∙ ap (λ g. g ∷ drop (i + 1) functions) (sym f.is) in
    let split : functions_from i (map function (drop i functions)) ≡ code ∷ functions_from (i + 1) rest =
    ap (λ l. functions_from i (map function l)) left ∙ ap (λ n. code ∷ functions_from n rest) next in (
      rw (c.in_ok-push.ensures.items, c.in_ok-emit_function.ensures.code) (append_assoc funs (code ∷ []) (functions_from (i + 1) rest) ∙ ap (λ l. funs ++ l) (sym split) ∙ c.loop-index.invariant.0),
      rw c.in_ok-push.ensures.items (All-push IsFunc funs c.in_ok-emit_function.field-0 c.loop-index.invariant.1 c.in_ok-emit_function.ensures.function),
    )
