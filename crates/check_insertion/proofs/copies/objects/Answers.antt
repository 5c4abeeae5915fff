use Rattle.std.proofs.Common.{◌<◌, length, map, get_or, refl, arith}
use Rattle.ckc_core.specs.Core.{object}
use Rattle.partitioner.specs.Parts.{named}
use Rattle.check_insertion.proofs.Named.{named_more, named_all, item_same, objects_one}
use Rattle.check_insertion.proofs.copies.objects.Goals as goal

pub loop-number-preserved : goal.loop-number-preserved
loop-number-preserved c =
    let numbers = c.args.numbers.now in
    let i = c.loop-number.number-index in
    let less : i < length numbers = omega (arith, c.loop-number-test.true) in
    named_more (λ ks. map object (named c.args.objects.now ks)) (objects_one c.args.objects.now) numbers i (get_or numbers i 0) (map object c.loop-number.copies.items) (map object c.push_object.new.copies.items)
    less (item_same numbers i 0 (get_or numbers i 0) less) c.in_ok-push_object.ensures c.loop-number.invariant

pub returns : goal.returns
returns c = named_all (λ ks. map object (named c.args.objects.now ks)) refl c.args.numbers.now c.loop-number.number-index (map object c.loop-number.copies.items) (omega (arith, c.loop-number-test.false)) c.loop-number.invariant
