use Rattle.std.proofs.Common.{refl}
use Rattle.code_words.specs.declared.op.Op.TheVariants as ops
use Rattle.code_words_listing.specs.Lines.{Instruction}
use Rattle.code_words_listing.proofs.instructions.read_range.Goals as goal

pub returns : goal.returns
returns c = λ a b d. rw (c.number.ensures, c.in_ok-offset.was, c.number-2.ensures, c.in_ok-len.was, c.last_place.ensures (λ p. Instruction (ops.Range c.in_ok-offset.offset c.in_ok-len.len p)), c.in_ok-place.was) refl

pub returns-in_err-place : goal.returns-in_err-place
returns-in_err-place c = λ a b d. rw (c.from_residual-in_err-place.ensures, c.number.ensures, c.in_ok-offset.was, c.number-2.ensures, c.in_ok-len.was, c.last_place.ensures (λ p. Instruction (ops.Range c.in_ok-offset.offset c.in_ok-len.len p)), c.in_err-place.was) refl
