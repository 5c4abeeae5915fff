use Rattle.std.proofs.Common.{refl}
use Rattle.std.specs.Int.{w64}
use Rattle.std.proofs.lemmas.Int.{to_z-of_z}
use Rattle.code_words.specs.declared.op.Op.TheVariants as ops
use Rattle.code_words_listing.specs.Lines.{Instruction}
use Rattle.code_words_listing.proofs.instructions.read_in.Goals as goal

pub returns-in_err-place : goal.returns-in_err-place
returns-in_err-place c = λ a b d e. rw (c.from_residual-in_err-place.ensures, c.signed_64.ensures.value, c.in_ok-low.was, c.signed_64-2.ensures.value, c.in_ok-high.was, c.size.ensures, c.in_ok-size.was, c.last_place.ensures (λ p. Instruction (ops.In c.in_ok-low.low c.in_ok-high.high c.in_ok-size.size p)), c.in_err-place.was) refl

pub returns : goal.returns
returns c = λ a b d e. rw (to_z-of_z w64 c.in_ok-low.low c.in_ok-low.ensures.fits, to_z-of_z w64 c.in_ok-high.high c.in_ok-high.ensures.fits, c.signed_64.ensures.value, c.in_ok-low.was, c.signed_64-2.ensures.value, c.in_ok-high.was, c.size.ensures, c.in_ok-size.was, c.last_place.ensures (λ p. Instruction (ops.In c.in_ok-low.low c.in_ok-high.high c.in_ok-size.size p)), c.in_ok-place.was) refl
