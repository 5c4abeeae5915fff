use Rattle.std.proofs.lemmas.Bool.Decides.{nat_tests}
use Rattle.std.proofs.lemmas.Grind.{elements}
use Rattle.std.proofs.Common.{◌≡◌, ◌*◌, true, length, drop, refl, ap, ◌∙◌, arith, rules}
use Rattle.std.specs.Prelude.{FitsSigned}
use Rattle.std.proofs.lemmas.Int.{to_z-of_z}
use mir.Syntax.{w32}
use Rattle.act_words.specs.Numbers.{signed}
use Rattle.act_words.specs.Touches.{offset_unless}
use Rattle.flat_bytes.specs.Blocks.{is_refused, counter_after}
use Rattle.code_words.specs.Table.{push, is_positive}
use Rattle.two_memory_machine_states.specs.Machines.{Machine}
use Rattle.two_memory_machine_states.specs.Steps.{IsIn, GoesBy}
use Rattle.two_memory_machine_states.proofs.Outcomes.{brings_at, pop_found, above_zero}
use Rattle.two_memory_machine_states.proofs.running_image.RunningImage.sandbox_alloc.Goals as goal

pub returns : goal.returns
returns c = λ f here acts inputs events.
    let m = c.args.self.now in
    let bytes = c.in-Some.count * c.args.size in
    let same : c.byte_count.result ≡ bytes = c.byte_count.ensures.bytes ∙ ap (λ n. n * c.args.size) (omega arith) in
    let size = length m.sandbox in
    let after : Machine = record m { room = counter_after size m.room bytes } in
    let fits : FitsSigned w32 c.cast_signed.result = search rules in
    let positive : is_positive (signed c.in-Some.count) ≡ true = rw c.cast_signed.ensures at (above_zero c.cast_signed.result (simp to_z-of_z at c.if-cast_signed-le0.false)) in
    let pushes : IsIn after f → GoesBy (push f (offset_unless (is_refused size m.room bytes) m.room) (drop 1 m.frame.stack) m.frame) after c.push-2.result c.push-2.new.self =
    (rw (c.make_sandbox_block-offset.ensures.offset, c.make_sandbox_block-offset.ensures.after, same) at c.push-2.ensures) f in
    rw (pop_found m.frame.stack c.in-Some.count _ _ c.in-Some.ensures, positive) (brings_at acts inputs events _ m after c.push-2.new.self c.push-2.result refl refl (pushes here acts inputs events))

pub returns-in_default : goal.returns-in_default
returns-in_default c = search rules

pub push-requires-clause-there : goal.push-requires-clause-there
push-requires-clause-there c = grind (arith, elements)

pub returns-then-cast_signed-le0 : goal.returns-then-cast_signed-le0
returns-then-cast_signed-le0 c = grind (arith, nat_tests)

pub push-requires-2-clause-there : goal.push-requires-2-clause-there
push-requires-2-clause-there c = grind (arith, elements)
