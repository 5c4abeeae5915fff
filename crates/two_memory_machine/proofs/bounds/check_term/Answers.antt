use Rattle.std.proofs.Common.{◌≡◌}
use Rattle.std.specs.Prelude.{FitsSigned, ◌==◌, ◌||◌, not}
use Rattle.std.proofs.lemmas.Int.{to_z-of_z}
use mir.Syntax.{w64}
use Rattle.code_words.specs.Table.{place_at, end_of, same_number}
use Rattle.two_memory_machine.proofs.Pops.{pop_5_found}
use Rattle.two_memory_machine.proofs.bounds.check_term.Goals as goal

pub returns : goal.returns
returns c = λ f here acts inputs events.
    let w = c.in-Some in
    let high : FitsSigned w64 c.args.high_plus = c.ranges.high_plus in
    let holds : c.leaves_end-holds.result ≡ (w.value == 0 || not (same_number (place_at w.pointer w.index c.args.size) (end_of w.base w.high c.args.high_plus c.args.size))) =
    simp to_z-of_z at c.leaves_end-holds.ensures in
    rw (pop_5_found c.args.machine.now.frame.stack w.pointer w.index w.base w.high w.value _ _ w.ensures, ← holds) (c.check.ensures acts inputs events)
