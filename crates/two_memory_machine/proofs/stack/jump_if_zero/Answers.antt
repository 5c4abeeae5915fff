use Rattle.std.proofs.Common.{◌≡◌, false, arith}
use Rattle.std.specs.Prelude.{◌==◌}
use Rattle.std.proofs.lemmas.Bool.Decides.{nat_tests}
use Rattle.two_memory_machine_states.proofs.Outcomes.{pop_found}
use Rattle.two_memory_machine.proofs.stack.jump_if_zero.Goals as goal

pub returns-then-word-ne0 : goal.returns-then-word-ne0
returns-then-word-ne0 c = λ f here acts inputs events.
    let other : (c.in-Some.word == 0) ≡ false = grind (arith, nat_tests, c.if-word-ne0.true) in
    rw (pop_found c.args.machine.now.frame.stack c.in-Some.word _ _ c.in-Some.ensures, other) (c.go_on.ensures acts inputs events)
