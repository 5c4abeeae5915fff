use Rattle.std.proofs.Common.{sym, refl, arith}
use Rattle.ccbox_call_words.proofs.Digits.{parsed}
use Rattle.ccbox_call_words.proofs.numbers.number_from.Goals as goal

pub returns-in_err-number : goal.returns-in_err-number
returns-in_err-number c =
    let digits = rw c.as_bytes.ensures.value at (sym c.if-not-are_digits.ensures) in
    let number = parsed c.args.least c.args.most (omega arith) c.args.text.now c.parse.result c.parse.ensures.value.0 digits in
    rw (c.from_residual.ensures, number, ← c.ok.ensures.value, c.in_err-number.was) refl
