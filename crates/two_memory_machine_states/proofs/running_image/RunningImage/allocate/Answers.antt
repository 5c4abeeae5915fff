use Rattle.std.proofs.lemmas.Bool.Decides.{nat_tests}
use Rattle.std.proofs.lemmas.Grind.{elements}
use Rattle.std.proofs.Common.{◌≡◌, ◌+◌, ◌*◌, true, drop, refl, rules, arith}
use Rattle.std.specs.Prelude.{FitsSigned}
use Rattle.std.proofs.lemmas.Int.{to_z-of_z}
use mir.Syntax.{w32}
use Rattle.act_words.specs.Numbers.{signed}
use Rattle.trusted_memory.specs.Memories.{made, address_made}
use Rattle.code_words.specs.Table.{push, is_positive, blocks_made}
use Rattle.two_memory_machine_states.specs.Machines.{Machine}
use Rattle.two_memory_machine_states.specs.Steps.{IsIn, GoesBy}
use Rattle.two_memory_machine_states.proofs.Outcomes.{brings_at, pop_found, above_zero}
use Rattle.two_memory_machine_states.proofs.running_image.RunningImage.allocate.Goals as goal

pub returns : goal.returns
returns c = λ f here acts inputs events.
    let m = c.args.self.now in
    let bytes = (c.in-Some.count + c.args.more) * c.args.size in
    let after : Machine = record m { memory = made m.memory bytes; blocks = blocks_made m.memory m.blocks bytes } in
    let fits : FitsSigned w32 c.cast_signed.result = search rules in
    let positive : is_positive (signed c.in-Some.count) ≡ true = rw c.cast_signed.ensures at (above_zero c.cast_signed.result (simp to_z-of_z at c.if-cast_signed-le0.false)) in
    let pushes : IsIn after f → GoesBy (push f (address_made m.memory bytes) (drop 1 m.frame.stack) m.frame) after c.push-2.result c.push-2.new.self =
    (rw (c.make_block-address.ensures.address, c.make_block-address.ensures.after, c.byte_count.ensures.bytes) at c.push-2.ensures) f in
    rw (pop_found m.frame.stack c.in-Some.count _ _ c.in-Some.ensures, positive) (brings_at acts inputs events _ m after c.push-2.new.self c.push-2.result refl refl (pushes here acts inputs events))

pub returns-in_default : goal.returns-in_default
returns-in_default c = search rules

pub push-requires-clause-there : goal.push-requires-clause-there
push-requires-clause-there c = grind (arith, elements)

pub returns-then-cast_signed-le0 : goal.returns-then-cast_signed-le0
returns-then-cast_signed-le0 c = grind (arith, nat_tests)

pub push-requires-2-clause-ready : goal.push-requires-2-clause-ready
push-requires-2-clause-ready c = search rules

pub push-requires-2-clause-there : goal.push-requires-2-clause-there
push-requires-2-clause-there c = grind (arith, elements)
