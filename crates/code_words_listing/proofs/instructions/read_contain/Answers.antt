use Rattle.std.proofs.Common.{refl}
use Rattle.std.specs.Int.{w64}
use Rattle.std.proofs.lemmas.Int.{to_z-of_z}
use Rattle.code_words.specs.declared.op.Op.TheVariants as ops
use Rattle.code_words_listing.specs.Lines.{Instruction}
use Rattle.code_words_listing.proofs.instructions.read_contain.Goals as goal

pub returns-in_err-place : goal.returns-in_err-place
returns-in_err-place c = λ a b d e f g. rw (c.from_residual-in_err-place.ensures, c.signed_64.ensures.value, c.in_ok-old_low.was, c.signed_64-2.ensures.value, c.in_ok-old_high.was, c.signed_64-3.ensures.value, c.in_ok-new_low.was, c.signed_64-4.ensures.value, c.in_ok-new_high.was, c.size.ensures, c.in_ok-size.was, c.last_place.ensures (λ p. Instruction (ops.Contain c.in_ok-old_low.old_low c.in_ok-old_high.old_high c.in_ok-new_low.new_low c.in_ok-new_high.new_high c.in_ok-size.size p)), c.in_err-place.was) refl

pub returns : goal.returns
returns c = λ a b d e f g. rw (to_z-of_z w64 c.in_ok-old_low.old_low c.in_ok-old_low.ensures.fits, to_z-of_z w64 c.in_ok-old_high.old_high c.in_ok-old_high.ensures.fits, to_z-of_z w64 c.in_ok-new_low.new_low c.in_ok-new_low.ensures.fits, to_z-of_z w64 c.in_ok-new_high.new_high c.in_ok-new_high.ensures.fits, c.signed_64.ensures.value, c.in_ok-old_low.was, c.signed_64-2.ensures.value, c.in_ok-old_high.was, c.signed_64-3.ensures.value, c.in_ok-new_low.was, c.signed_64-4.ensures.value, c.in_ok-new_high.was, c.size.ensures, c.in_ok-size.was, c.last_place.ensures (λ p. Instruction (ops.Contain c.in_ok-old_low.old_low c.in_ok-old_high.old_high c.in_ok-new_low.new_low c.in_ok-new_high.new_high c.in_ok-size.size p)), c.in_ok-place.was) refl
