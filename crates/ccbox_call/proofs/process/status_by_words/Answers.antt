use Rattle.std.proofs.Common.{◌≡◌, ◌∙◌, true, false, Some, [], ap}
use Rattle.std.specs.IoError.{error_kind}
use Rattle.std.specs.declared.io.ErrorKind.TheVariants.{OutOfMemory}
use Rattle.ccbox_call.specs.Process.{words_given}
use Rattle.ccbox_call.proofs.Processes.{other_words}
use Rattle.ccbox_call.proofs.process.status_by_words.Goals as goal

pub returns-in-Ok : goal.returns-in-Ok
returns-in-Ok g c = rw (c.in-Ok.is) c.status_of_arguments.ensures

pub returns-in-Err-2 : goal.returns-in-Err-2
returns-in-Err-2 g c =
    let other : error_kind c.in-Err.error ≡ OutOfMemory → ⊥ = λ is.
    let kind = c.kind.ensures ∙ ap error_kind c.in-Err.error-is in
    let same : false ≡ true = rw (kind ∙ is) at c.if-eq.ensures in
    absurd (cc) in
    let none : words_given c.args.arguments ≡ Some [] = rw c.in-Err.is (other_words _ other) in
    rw none c.status_of_call.ensures
