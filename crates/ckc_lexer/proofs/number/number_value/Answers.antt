use Rattle.std.proofs.Common.{◌≡◌, ℕ, ◌+◌, ◌*◌, take, get_or, List, sym, arith}
use Rattle.std.specs.Char.{digit_value}
use Rattle.std.specs.Str.Parse.{digits_value}
use Rattle.std.proofs.lemmas.Str.Parse.{digits_value-take-le}
use Rattle.ckc_lexer.proofs.Numerals.{digits_value_step, limited_great}
use Rattle.ckc_lexer.proofs.number.number_value.Goals as goal

one_more : (radix r v d d2 i : ℕ) (bs : List ℕ) → digits_value radix (take (i + 1) bs) ≡ radix * digits_value radix (take i bs) + digit_value (get_or bs i 0) → r ≡ radix → v ≡ digits_value radix (take i bs) → d ≡ d2 → d2 ≡ digit_value (get_or bs i 0) → r * v + d ≡ digits_value radix (take (i + 1) bs)
one_more radix r v d d2 i bs step e f g h = rw (e, f, g, h) (sym step)

pub returns-then-value-gt-MAX_NUMBER : goal.returns-then-value-gt-MAX_NUMBER
returns-then-value-gt-MAX_NUMBER c =
    let bs = c.args.digits.now in
    let i = c.loop-digit.digit-index in
    let radix = c.args.radix in
    let more = digits_value-take-le radix bs (i + 1) c.requires in
    let value = one_more radix _ _ _ _ i bs (digits_value_step radix bs i (omega arith)) c.from.ensures c.loop-digit.invariant.value c.from-in-loop-digit.ensures c.digit_value.ensures in
    limited_great (digits_value radix bs) (omega (arith, value, more))

pub loop-digit-preserved : goal.loop-digit-preserved
loop-digit-preserved c =
    let bs = c.args.digits.now in
    let i = c.loop-digit.digit-index in
    let radix = c.args.radix in
    record {
      value = one_more radix _ _ _ _ i bs (digits_value_step radix bs i (omega arith)) c.from.ensures c.loop-digit.invariant.value c.from-in-loop-digit.ensures c.digit_value.ensures;
      small = omega arith;
    }
