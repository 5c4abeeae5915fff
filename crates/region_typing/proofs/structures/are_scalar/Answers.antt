use Rattle.std.proofs.Common.{◌<◌, length, map, arith}
use Rattle.pointer_modes.specs.Types.{member}
use Rattle.region_typing_scope.proofs.Going.{refused_by}
use Rattle.region_typing_scope.proofs.Steps.{part_more, part_breaks, parts_done}
use Rattle.region_typing.proofs.ItemSteps.{all_scalar_members, scalar_member, scalar_by_step}
use Rattle.region_typing.proofs.structures.are_scalar.Goals as goal

pub loop-member-preserved : goal.loop-member-preserved
loop-member-preserved c =
    let kept = rw c.is_struct.ensures at c.in_ok-needs.ensures in
    record {
      so_far = part_more all_scalar_members scalar_member scalar_by_step member c.args.members.now c.loop-member.member-index c.member-item.result (all_scalar_members (map member c.args.members.now) tt) tt tt (omega (arith, c.loop-member-test.true)) c.member-item.is c.loop-member.invariant.so_far kept.so;
    }

pub returns-in_err-needs : goal.returns-in_err-needs
returns-in_err-needs c =
    let broken = rw c.is_struct.ensures at c.in_err-needs.ensures in
    let less : c.loop-member.member-index < length c.args.members.now = omega (arith, c.loop-member-test.true) in
    refused_by c.from_residual.result c.from_residual.ensures.1
    (λ stop breaks. part_breaks all_scalar_members scalar_member scalar_by_step member c.args.members.now c.loop-member.member-index c.member-item.result (all_scalar_members (map member c.args.members.now) tt) tt stop less c.member-item.is c.loop-member.invariant.so_far breaks)
    broken

pub returns : goal.returns
returns c =
    record { so = parts_done all_scalar_members scalar_member scalar_by_step member c.args.members.now c.loop-member.member-index (all_scalar_members (map member c.args.members.now) tt) tt (omega (arith, c.loop-member-test.false)) c.loop-member.invariant.so_far }
