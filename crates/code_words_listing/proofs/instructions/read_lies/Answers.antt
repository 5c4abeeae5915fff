use Rattle.std.proofs.lemmas.Bool.Decides.{nat_tests}
use Rattle.std.proofs.Common.{refl, rules, arith}
use Rattle.std.specs.Int.{w64}
use Rattle.std.proofs.lemmas.Int.{to_z-of_z}
use Rattle.code_words.specs.declared.op.Op.TheVariants as ops
use Rattle.code_words_listing.specs.Lines.{Instruction}
use Rattle.code_words_listing.proofs.instructions.read_lies.Goals as goal

pub returns-in_err-place : goal.returns-in_err-place
returns-in_err-place c = λ a b d e f. rw (c.from_residual-in_err-place.ensures, c.signed_64.ensures.value, c.in_ok-low.was, c.signed_64-2.ensures.value, c.in_ok-high.was, c.size.ensures, c.in_ok-size.was, c.number.ensures, c.in_ok-more.was, c.last_place.ensures (λ p. Instruction (ops.Lies c.in_ok-low.low c.in_ok-high.high c.in_ok-size.size c.in_ok-more.more p)), c.in_err-place.was) refl

pub returns : goal.returns
returns c = λ a b d e f. rw (to_z-of_z w64 c.in_ok-low.low c.in_ok-low.ensures.fits, to_z-of_z w64 c.in_ok-high.high c.in_ok-high.ensures.fits, c.signed_64.ensures.value, c.in_ok-low.was, c.signed_64-2.ensures.value, c.in_ok-high.was, c.size.ensures, c.in_ok-size.was, c.number.ensures, c.in_ok-more.was, c.last_place.ensures (λ p. Instruction (ops.Lies c.in_ok-low.low c.in_ok-high.high c.in_ok-size.size c.in_ok-more.more p)), c.in_ok-place.was) refl

pub signed_64-requires : goal.signed_64-requires
signed_64-requires c = search rules

pub returns-in_err-low : goal.returns-in_err-low
returns-in_err-low c = search rules

pub returns-in_err-high : goal.returns-in_err-high
returns-in_err-high c = search rules

pub returns-in_err-size : goal.returns-in_err-size
returns-in_err-size c = grind (arith, nat_tests)

pub returns-in_err-more : goal.returns-in_err-more
returns-in_err-more c = grind (arith, nat_tests)
