use Rattle.std.proofs.Common.{true, false, Some, sym, ap, ◌∙◌, arith}
use Rattle.std.specs.Str.{bytes_eq}
use Rattle.std.proofs.lemmas.List.{at_drop_all}
use Rattle.ckc_io.proofs.Found.{found, found-drop, file_at-files_of}
use Rattle.ckc_io.proofs.mem_shelf.newest.Goals as goal

-- the file at the place has the name
pub returns-then-eq : goal.returns-then-eq
returns-then-eq c =
    let tested = sym c.if-eq.true ∙ c.eq.ensures ∙ ap (bytes_eq c.args.name.now) c.as_str.ensures.value in
    ap Some c.as_slice.ensures.value
    ∙ sym (found-drop c.args.name.now c.args.files.now _ c.file-item.result true (omega arith) c.file-item.is tested)
    ∙ c.loop-file.invariant
    ∙ sym (file_at-files_of c.args.files.now c.args.name.now)

-- the file at the place has another name
pub loop-file-preserved : goal.loop-file-preserved
loop-file-preserved c =
    let tested = sym c.if-eq.false ∙ c.eq.ensures ∙ ap (bytes_eq c.args.name.now) c.as_str.ensures.value in
    sym (found-drop c.args.name.now c.args.files.now _ c.file-item.result false (omega arith) c.file-item.is tested)
    ∙ c.loop-file.invariant

pub returns : goal.returns
returns c =
    sym (at_drop_all (found c.args.name.now) c.args.files.now c.loop-file.file-index (omega arith))
    ∙ c.loop-file.invariant
    ∙ sym (file_at-files_of c.args.files.now c.args.name.now)
