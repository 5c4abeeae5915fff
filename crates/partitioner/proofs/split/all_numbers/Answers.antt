use Rattle.std.proofs.Common.{◌≡◌, ℕ, zero, suc, ◌+◌, ◌<◌, List, [], ◌∷◌, ◌++◌, length, map, drop, refl, ap, sym, ◌∙◌, append_assoc, arith}
use Rattle.ckc_core.specs.declared.program.Object.{Object}
use Rattle.ckc_core.specs.Core.{object}
use Rattle.partitioner.specs.Parts.{counted_from}
use Rattle.partitioner.proofs.Numbers.{numbers_all}
use Rattle.partitioner.proofs.split.all_numbers.Goals as goal

one_less : (objects : List Object) (k n : ℕ) → k < length objects → counted_from n (map object (drop k objects)) ≡ n ∷ counted_from (suc n) (map object (drop (suc k) objects))
one_less [] k n less = absurd (omega (arith, less))
one_less (o ∷ objects) zero n less = refl
one_less (o ∷ objects) (suc k) n less = one_less objects k n (omega (arith, less))

pub loop-number-init : goal.loop-number-init
loop-number-init c = rw c.new-numbers.ensures.items refl

pub loop-number-preserved : goal.loop-number-preserved
loop-number-preserved c =
    let n = c.loop-number.number in
    let rest = counted_from (suc n) (map object (drop (suc n) c.args.objects.now)) in
    let next : n + 1 ≡ suc n = omega arith in
    rw next (c.loop-number.invariant
    ∙ ap (λ ns. c.loop-number.numbers.items ++ ns) (one_less c.args.objects.now n n c.loop-number-test.true)
    ∙ sym (append_assoc c.loop-number.numbers.items (n ∷ []) rest)
    ∙ ap (λ ns. ns ++ rest) (sym c.in_ok-push.ensures.items))

pub returns : goal.returns
returns c =
    numbers_all object counted_from (λ n. refl) c.args.objects.now c.loop-number.number (counted_from 0 (map object c.args.objects.now)) c.loop-number.numbers.items c.loop-number-test.false c.loop-number.invariant
