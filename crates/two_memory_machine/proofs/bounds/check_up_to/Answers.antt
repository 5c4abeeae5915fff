use Rattle.std.proofs.Common.{◌≡◌}
use Rattle.std.specs.Prelude.{FitsSigned}
use Rattle.std.proofs.lemmas.Int.{to_z-of_z}
use mir.Syntax.{w64}
use Rattle.code_words.specs.Table.{place_at, end_of, is_up_to}
use Rattle.two_memory_machine.proofs.Pops.{pop_5_found}
use Rattle.two_memory_machine.proofs.bounds.check_up_to.Goals as goal

pub returns : goal.returns
returns c = λ f here acts inputs events.
    let w = c.in-Some in
    let low : FitsSigned w64 c.args.low_plus = c.ranges.low_plus in
    let high : FitsSigned w64 c.args.high_plus = c.ranges.high_plus in
    let holds : c.reaches-holds.result ≡ is_up_to (end_of w.base w.low c.args.low_plus c.args.size) (place_at w.pointer w.index c.args.size) (end_of w.base w.high c.args.high_plus c.args.size) =
    simp to_z-of_z at c.reaches-holds.ensures in
    rw (pop_5_found c.args.machine.now.frame.stack w.pointer w.index w.base w.low w.high _ _ w.ensures, ← holds) (c.check.ensures acts inputs events)
