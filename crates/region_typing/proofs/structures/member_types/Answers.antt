use Rattle.std.proofs.Common.{◌<◌, [], length, map, arith}
use Rattle.ckc_tree.specs.Items as trees
use Rattle.pointer_modes.specs.Types.{member}
use Rattle.region_typing_rules.specs.Items.{member_types}
use Rattle.region_typing_scope.specs.Views.{scope}
use Rattle.region_typing_scope.proofs.Going.{refused_by}
use Rattle.region_typing.specs.Items.{one_member}
use Rattle.region_typing_scope.proofs.Steps.{part_more, part_breaks, parts_done}
use Rattle.region_typing.proofs.ItemSteps.{member_by_step}
use Rattle.region_typing.proofs.structures.member_types.Goals as goal

pub loop-member-preserved : goal.loop-member-preserved
loop-member-preserved c =
    let g = scope c.args.scope.now in
    record {
      so_far = part_more (member_types g) (one_member g) (member_by_step g) trees.member c.args.written.now c.loop-member.member-index c.member-item.result (member_types g (map trees.member c.args.written.now) []) (map member c.loop-member.members.items) (map member c.push_member.new.members.items) (omega (arith, c.loop-member-test.true)) c.member-item.is c.loop-member.invariant.so_far c.in_ok-push_member.ensures.types.so;
      few = c.in_ok-push_member.ensures.few;
    }

pub returns-in_err-push_member-clause-types : goal.returns-in_err-push_member-clause-types
returns-in_err-push_member-clause-types c =
    let g = scope c.args.scope.now in
    let less : c.loop-member.member-index < length c.args.written.now = omega (arith, c.loop-member-test.true) in
    refused_by c.from_residual.result c.from_residual.ensures.1
    (λ stop breaks. part_breaks (member_types g) (one_member g) (member_by_step g) trees.member c.args.written.now c.loop-member.member-index c.member-item.result (member_types g (map trees.member c.args.written.now) []) (map member c.loop-member.members.items) stop less c.member-item.is c.loop-member.invariant.so_far breaks)
    c.in_err-push_member.ensures.types

pub returns-clause-types : goal.returns-clause-types
returns-clause-types c =
    let g = scope c.args.scope.now in
    record { so = parts_done (member_types g) (one_member g) (member_by_step g) trees.member c.args.written.now c.loop-member.member-index (member_types g (map trees.member c.args.written.now) []) (map member c.loop-member.members.items) (omega (arith, c.loop-member-test.false)) c.loop-member.invariant.so_far }
