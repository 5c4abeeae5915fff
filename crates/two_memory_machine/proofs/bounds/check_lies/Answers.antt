use Rattle.std.proofs.Common.{◌≡◌, length, ap, ◌∙◌}
use Rattle.std.specs.Prelude.{FitsSigned}
use Rattle.std.proofs.lemmas.Int.{to_z-of_z}
use mir.Syntax.{w64}
use Rattle.ckc_text.specs.declared.code.Code.TheVariants.{C5}
use Rattle.marshalling.specs.Crossing.{lie_in}
use Rattle.code_words.specs.Table.{State, end_of, check}
use Rattle.two_memory_machine_states.specs.Machines.{state_of}
use Rattle.two_memory_machine.proofs.Pops.{pop_3_found, three_there}
use Rattle.two_memory_machine.proofs.bounds.check_lies.Goals as goal

pub check-requires-clause-there : goal.check-requires-clause-there
check-requires-clause-there c =
    let w = c.in-Some in
    three_there c.args.machine.now.frame.stack w.pointer w.base w.low w.high w.ensures

pub returns : goal.returns
returns c = λ f here acts inputs events.
    let w = c.in-Some in
    let low : FitsSigned w64 c.args.low_plus = c.ranges.low_plus in
    let high : FitsSigned w64 c.args.high_plus = c.ranges.high_plus in
    let s : State = state_of c.args.machine.now acts inputs events in
    let told = simp to_z-of_z at c.lie_in-holds.ensures in
    let holds : c.lie_in-holds.result ≡ lie_in (length c.args.machine.now.sandbox) w.pointer (end_of w.base w.low c.args.low_plus c.args.size) (end_of w.base w.high c.args.high_plus c.args.size) c.args.more =
    told ∙ ap (λ n. lie_in n w.pointer (end_of w.base w.low c.args.low_plus c.args.size) (end_of w.base w.high c.args.high_plus c.args.size) c.args.more) c.sandbox_size-memory.ensures in
    rw (pop_3_found c.args.machine.now.frame.stack w.pointer w.base w.low w.high (λ p b l h rest. check (lie_in (length c.args.machine.now.sandbox) p (end_of b l c.args.low_plus c.args.size) (end_of b h c.args.high_plus c.args.size) c.args.more) C5 c.args.place rest c.args.machine.now.frame s) s w.ensures, ← holds) (c.check.ensures acts inputs events)
