use Rattle.std.proofs.Common.{◌<◌, length, map, get_or, refl, arith}
use Rattle.check_insertion.specs.Erased as erased
use Rattle.check_insertion.specs.Insert as insert
use Rattle.check_insertion.specs.Sides.{trusted_at}
use Rattle.check_insertion.proofs.Named.{named_more, named_all, item_same, functions_one}
use Rattle.check_insertion.proofs.insert.functions.Goals as goal

pub loop-number-preserved : goal.loop-number-preserved
loop-number-preserved c =
    let numbers = c.args.numbers.now in
    let i = c.loop-number.number-index in
    let less : i < length numbers = omega (arith, c.loop-number-test.true) in
    named_more (λ ks. map insert.function (trusted_at c.args.definitions.now ks)) (functions_one c.args.definitions.now) numbers i (get_or numbers i 0) (map erased.function c.loop-number.built.items) (map erased.function c.push_function.new.built.items)
    less (item_same numbers i 0 (get_or numbers i 0) less) c.in_ok-push_function.ensures c.loop-number.invariant

pub returns : goal.returns
returns c = named_all (λ ks. map insert.function (trusted_at c.args.definitions.now ks)) refl c.args.numbers.now c.loop-number.number-index (map erased.function c.loop-number.built.items) (omega (arith, c.loop-number-test.false)) c.loop-number.invariant
