use Rattle.std.proofs.Common.{◌≡◌}
use Rattle.std.specs.Prelude.{FitsSigned}
use Rattle.std.proofs.lemmas.Int.{to_z-of_z}
use mir.Syntax.{w64}
use Rattle.ckc_text.specs.declared.code.Code.TheVariants.{C5}
use Rattle.code_words.specs.Table.{State, end_of, contains, check}
use Rattle.two_memory_machine_states.specs.Machines.{state_of}
use Rattle.two_memory_machine.proofs.Pops.{pop_6_found, six_there}
use Rattle.two_memory_machine.proofs.bounds.check_contain.Goals as goal

pub check-requires-clause-there : goal.check-requires-clause-there
check-requires-clause-there c =
    let w = c.in-Some in
    six_there c.args.machine.now.frame.stack w.pointer w.base1 w.low1 w.high1 w.base2 w.low2 w.high2 w.ensures

pub returns : goal.returns
returns c = λ f here acts inputs events.
    let w = c.in-Some in
    let a = c.args in
    let old_low : FitsSigned w64 c.args.old_low = c.ranges.old_low in
    let old_high : FitsSigned w64 c.args.old_high = c.ranges.old_high in
    let new_low : FitsSigned w64 c.args.new_low = c.ranges.new_low in
    let new_high : FitsSigned w64 c.args.new_high = c.ranges.new_high in
    let s : State = state_of c.args.machine.now acts inputs events in
    let holds : c.contains-holds.result ≡ contains w.pointer (end_of w.base1 w.low1 a.old_low a.size) (end_of w.base1 w.high1 a.old_high a.size) (end_of w.base2 w.low2 a.new_low a.size) (end_of w.base2 w.high2 a.new_high a.size) =
    simp to_z-of_z at c.contains-holds.ensures in
    rw (pop_6_found c.args.machine.now.frame.stack w.pointer w.base1 w.low1 w.high1 w.base2 w.low2 w.high2 (λ p b1 l1 h1 b2 l2 h2 rest. check (contains p (end_of b1 l1 a.old_low a.size) (end_of b1 h1 a.old_high a.size) (end_of b2 l2 a.new_low a.size) (end_of b2 h2 a.new_high a.size)) C5 a.place rest a.machine.now.frame s) s w.ensures, ← holds) (c.check.ensures acts inputs events)
