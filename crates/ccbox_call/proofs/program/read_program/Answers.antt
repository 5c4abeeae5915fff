use Rattle.std.proofs.Common.{refl, inl, arith}
use Rattle.ccbox_call.specs.Answers.{missing}
use Rattle.ccbox_call.specs.Calls.{files_failed, no_memory}
use Rattle.ccbox_call.proofs.Giving.{line_gives, file_read}
use Rattle.ccbox_call.proofs.program.read_program.Goals as goal

pub returns-in-Ok-clause-program : goal.returns-in-Ok-clause-program
returns-in-Ok-clause-program g c =
    let h = c.in-Ok.ensures in
    file_read (g.F.Shelf.files c.args.shelf.now) c.args.file.now _ _ _ _ _ _ _ _ _ _ h.counts.0 h.counts.1 c.as_slice.ensures.value h.content c.core_of.result c.core_of.ensures

pub returns-in-Err-Missing-clause-program : goal.returns-in-Err-Missing-clause-program
returns-in-Err-Missing-clause-program g c =
    let h = rw c.in-Err-Missing.field-0-is at c.in-Err-Missing.ensures in
    line_gives _ 3 (λ files told. missing (h.content files told)) (h.counts.1, inl (refl, h.counts.0)) h.counts.0.no_less c.give_missing.ensures

pub returns-in-Err-Failed-clause-program : goal.returns-in-Err-Failed-clause-program
returns-in-Err-Failed-clause-program g c =
    let h = rw c.in-Err-Failed.field-0-is at c.in-Err-Failed.ensures in
    files_failed refl h.counts.0 h.counts.1 refl

pub returns-in-Err-NoMemory-clause-program : goal.returns-in-Err-NoMemory-clause-program
returns-in-Err-NoMemory-clause-program g c =
    let h = rw c.in-Err-NoMemory.field-0-is at c.in-Err-NoMemory.ensures in
    no_memory refl (omega (arith, h.counts.0)) h.counts.1 refl
