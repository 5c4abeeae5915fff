use Rattle.std.proofs.Common.{◌≡◌, ℕ, suc, ◌+◌, Bool, true, false, List, [], ◌∷◌, ◌++◌, map, refl, arith}
use Rattle.ckc_core.specs.Programs.{Definition, Trusted, Tainted}
use Rattle.ckc_core.specs.Core.{Statements, definition}
use Rattle.partitioner.specs.Parts.{numbers_from}
use Rattle.partitioner.proofs.Numbers.{numbers_more, numbers_all}
use Rattle.partitioner.proofs.split.numbers.Goals as goal

numbers_one : (side : Bool) (n : ℕ) (d : Definition Statements) (ds : List (Definition Statements)) → numbers_from n side (d ∷ ds) ≡ numbers_from n side (d ∷ []) ++ numbers_from (n + 1) side ds
numbers_one true n (Trusted f) ds = let next : n + 1 ≡ suc n = omega arith in rw next refl
numbers_one true n (Tainted i) ds = let next : n + 1 ≡ suc n = omega arith in rw next refl
numbers_one false n (Trusted f) ds = let next : n + 1 ≡ suc n = omega arith in rw next refl
numbers_one false n (Tainted i) ds = let next : n + 1 ≡ suc n = omega arith in rw next refl

numbers_none : (side : Bool) (n : ℕ) → numbers_from n side [] ≡ []
numbers_none side n = refl

pub loop-number-init : goal.loop-number-init
loop-number-init c = rw c.new-numbers.ensures.items refl

pub loop-number-preserved : goal.loop-number-preserved
loop-number-preserved c =
    let side = c.args.trusted in
    let item = c.index-definitions-number in
    numbers_more definition (λ n ds. numbers_from n side ds) (numbers_one side) c.args.definitions.now c.loop-number.number item.result (numbers_from 0 side (map definition c.args.definitions.now)) c.loop-number.numbers.items c.push_number.new.numbers.items
    c.loop-number-test.true item.is c.in_ok-push_number.ensures c.loop-number.invariant

pub returns : goal.returns
returns c =
    let side = c.args.trusted in
    numbers_all definition (λ n ds. numbers_from n side ds) (numbers_none side) c.args.definitions.now c.loop-number.number (numbers_from 0 side (map definition c.args.definitions.now)) c.loop-number.numbers.items c.loop-number-test.false c.loop-number.invariant
