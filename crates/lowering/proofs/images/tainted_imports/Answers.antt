use Rattle.std.proofs.Common.{◌≡◌, suc, ◌+◌, ◌≤◌, ◌++◌, ◌∷◌, [], map, drop, sym, ap, ◌∙◌, append_assoc, arith}
use Rattle.std.proofs.lemmas.List.{drop_more}
use Rattle.std.proofs.lemmas.List.Elements.{All-push}
use Rattle.code_words.specs.Formats.{IsImport}
use Rattle.ckc_core.specs.Programs.{Import}
use Rattle.ckc_core.specs.Core.{import_of}
use Rattle.lowering.specs.Images.{import_code, imports_from}
use Rattle.lowering.proofs.Slices.{meant_at}
use Rattle.lowering.proofs.images.tainted_imports.Goals as goal

pub tainted_import-requires : goal.tainted_import-requires
tainted_import-requires c =
    let f = c.index-functions-index in
    meant_at import_of (λ (i : Import). i.parameters ≤ 16) c.args.functions.now c.loop-index.index f.result c.loop-index-test.true f.is c.requires.small

pub loop-index-preserved : goal.loop-index-preserved
loop-index-preserved c =
    let functions = c.args.functions.now in
    let i = c.loop-index.index in
    let f = c.index-functions-index in
    let imports = c.loop-index.imports.items in
    let code = import_code i (import_of f.result) in
    let rest = map import_of (drop (i + 1) functions) in
    let next : suc i ≡ i + 1 = omega arith in
    let left : drop i functions ≡ f.result ∷ drop (i + 1) functions = drop_more functions i f.result c.loop-index-test.true ∙ ap (λ g. g ∷ drop (i + 1) functions) (sym f.is) in
    let split : imports_from i (map import_of (drop i functions)) ≡ code ∷ imports_from (i + 1) rest =
    ap (λ l. imports_from i (map import_of l)) left ∙ ap (λ n. code ∷ imports_from n rest) next in (
      rw (c.in_ok-push.ensures.items, c.in_ok-tainted_import.ensures.code) (append_assoc imports (code ∷ []) (imports_from (i + 1) rest) ∙ ap (λ l. imports ++ l) (sym split) ∙ c.loop-index.invariant.0),
      rw c.in_ok-push.ensures.items (All-push IsImport imports c.in_ok-tainted_import.field-0 c.loop-index.invariant.1 c.in_ok-tainted_import.ensures.tainted),
    )
