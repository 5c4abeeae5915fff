use Rattle.std.proofs.Common.{◌<◌, length, arith}
use Rattle.std.proofs.lemmas.List.{get_or_default}
use Rattle.region_typing_scope.proofs.Going.{refused_by}
use Rattle.region_typing.specs.Initials.{numbers_listed}
use Rattle.region_typing.proofs.Constants.{number_pushed, number_breaks, numbers_done, numbers_from}
use Rattle.region_typing.proofs.initials.listed_numbers.Goals as goal

pub loop-i-init : goal.loop-i-init
loop-i-init c = rw c.new-numbers.ensures.items (record { so_far = numbers_from (numbers_listed c.args.constants.now) })

pub returns-in_err-push_number : goal.returns-in_err-push_number
returns-in_err-push_number c =
    let less : c.loop-i.i < length c.args.constants.now = omega (arith, c.loop-i-test.true) in
    refused_by c.from_residual.result c.from_residual.ensures.1
    (λ stop breaks. number_breaks (numbers_listed c.args.constants.now) c.args.constants.now c.loop-i.i _ c.loop-i.numbers.items stop less (get_or_default c.args.constants.now c.loop-i.i _ _ less) c.loop-i.invariant.so_far breaks)
    c.in_err-push_number.ensures

pub loop-i-preserved : goal.loop-i-preserved
loop-i-preserved c =
    let less : c.loop-i.i < length c.args.constants.now = omega (arith, c.loop-i-test.true) in
    record {
      so_far = number_pushed (numbers_listed c.args.constants.now) c.args.constants.now c.loop-i.i _ c.loop-i.numbers.items c.push_number.new.numbers.items less (get_or_default c.args.constants.now c.loop-i.i _ _ less) c.loop-i.invariant.so_far c.in_ok-push_number.ensures.so;
    }

pub returns : goal.returns
returns c = record { so = numbers_done (numbers_listed c.args.constants.now) c.args.constants.now c.loop-i.i c.loop-i.numbers.items (omega (arith, c.loop-i-test.false)) c.loop-i.invariant.so_far }
