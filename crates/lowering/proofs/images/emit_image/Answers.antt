use Rattle.std.proofs.lemmas.Bool.Decides.{nat_tests}
use Rattle.std.proofs.lemmas.Grind.{elements, common_steps}
use Rattle.std.proofs.Common.{map, ap, subst, ◌∙◌, rules, arith}
use Rattle.std.proofs.lemmas.List.Elements.{All-nil}
use Rattle.std.specs.Prelude.{All}
use Rattle.code_words.specs.Formats.{IsFunc, IsImport}
use Rattle.ckc_core.specs.Core.{import_of}
use Rattle.check_insertion.specs.Erased.{erased, function}
use Rattle.lowering.specs.Images.{functions_from, imports_from}
use Rattle.lowering.proofs.Fits.{keeps_format}
use Rattle.lowering.proofs.images.emit_image.Goals as goal

pub invariant_of-result : goal.invariant_of-result
invariant_of-result c =
    let funs : All IsFunc (functions_from 0 (map function c.args.program.now.functions.items)) =
    subst (All IsFunc) (c.in_ok-funs.ensures.code ∙ ap (λ fs. functions_from 0 (map function fs)) c.as_slice-2.ensures.value) c.in_ok-funs.ensures.functions in
    let imports : All IsImport (imports_from 0 (map import_of c.args.program.now.imports.items)) =
    subst (All IsImport) (c.in_ok-imports.ensures.code ∙ ap (λ fs. imports_from 0 (map import_of fs)) c.as_slice-3.ensures.value) c.in_ok-imports.ensures.tainted in
    rw (c.in_ok-blocks.ensures, c.as_slice.ensures.value, c.in_ok-funs.ensures.code, c.as_slice-2.ensures.value, c.in_ok-imports.ensures.code, c.as_slice-3.ensures.value, c.from_vec.ensures, c.new.ensures.items, c.from_vec-2.ensures, c.new-2.ensures.items, c.from_vec-3.ensures, c.new-3.ensures.items)
    (record {
      format = keeps_format (erased c.args.program.now) c.requires;
      names = record { functions = λ k d low. (funs k d low).named; bodies = All-nil _; imports = λ k d low. (imports k d low).named };
    })

pub branch-blocks-requires : goal.branch-blocks-requires
branch-blocks-requires c κs = search rules

pub from_residual-requires : goal.from_residual-requires
from_residual-requires c κs = search rules

pub returns-in_err-blocks : goal.returns-in_err-blocks
returns-in_err-blocks c = search rules

pub as_slice-requires-2 : goal.as_slice-requires-2
as_slice-requires-2 c κs = search rules

pub emit_functions-requires-clause-small : goal.emit_functions-requires-clause-small
emit_functions-requires-clause-small c = search rules

pub emit_functions-requires-clause-few : goal.emit_functions-requires-clause-few
emit_functions-requires-clause-few c = grind (arith, elements)

pub branch-funs-requires : goal.branch-funs-requires
branch-funs-requires c κs = search rules

pub drop-blocks-inside-requires : goal.drop-blocks-inside-requires
drop-blocks-inside-requires c κs = search rules

pub returns-in_err-funs : goal.returns-in_err-funs
returns-in_err-funs c = grind (arith, nat_tests)

pub as_slice-requires-3 : goal.as_slice-requires-3
as_slice-requires-3 c κs = search rules

pub tainted_imports-requires-clause-small : goal.tainted_imports-requires-clause-small
tainted_imports-requires-clause-small c = grind (arith, nat_tests)

pub tainted_imports-requires-clause-few : goal.tainted_imports-requires-clause-few
tainted_imports-requires-clause-few c = grind (arith, common_steps)

pub branch-imports-requires : goal.branch-imports-requires
branch-imports-requires c κs = search rules

pub from_residual-requires-in_err-imports : goal.from_residual-requires-in_err-imports
from_residual-requires-in_err-imports c κs = search rules

pub drop-funs-inside-requires : goal.drop-funs-inside-requires
drop-funs-inside-requires c κs = search rules

pub returns-in_err-imports : goal.returns-in_err-imports
returns-in_err-imports c = search rules

pub returns : goal.returns
returns c = grind (arith, elements)
