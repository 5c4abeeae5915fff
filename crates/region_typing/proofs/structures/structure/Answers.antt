use Rattle.std.proofs.Common.{ap, refl, map}
use Rattle.pointer_modes.specs.Types.{member}
use Rattle.ckc_tree.specs.Items as trees
use Rattle.region_typing_rules.specs.Verdicts.{Passes}
use Rattle.region_typing_rules.specs.Items.{member_names}
use Rattle.region_typing_scope.specs.Views.{scope}
use Rattle.region_typing_scope.proofs.Going.{goes_on, refused}
use Rattle.region_typing.specs.Items.{walk}
use Rattle.region_typing.proofs.StructParts.{structure_parts, all_scalar, struct_is_added, within_structs, struct_filled}
use Rattle.region_typing_statements.proofs.Testing.{last}
use Rattle.region_typing.proofs.structures.structure.Goals as goal

pub returns-in_err-number : goal.returns-in_err-number
returns-in_err-number c =
    let broken = rw (c.in_ok-names.ensures, c.as_slice.ensures.value) at c.in_err-number.ensures in
    rw (structure_parts (walk c.args.walk.now) (trees.structure c.args.d.now)) (refused _ c.from_residual-in_err-number.result c.from_residual-in_err-number.ensures.1 broken)

pub returns-in_err-members : goal.returns-in_err-members
returns-in_err-members c =
    let passes = rw (c.in_ok-names.ensures, c.as_slice.ensures.value) at c.in_ok-number.ensures in
    let broken = rw c.as_slice-2.ensures.value at c.in_err-members.ensures.types in
    rw (structure_parts (walk c.args.walk.now) (trees.structure c.args.d.now)) (goes_on _ passes (refused _ c.from_residual-in_err-members.result c.from_residual-in_err-members.ensures.1 broken))

pub returns-in_err-are_scalar : goal.returns-in_err-are_scalar
returns-in_err-are_scalar c =
    let passes = rw (c.in_ok-names.ensures, c.as_slice.ensures.value) at c.in_ok-number.ensures in
    let types = rw c.as_slice-2.ensures.value at c.in_ok-members.ensures.types in
    let broken = rw c.as_slice-3.ensures.value at c.in_err-are_scalar.ensures in
    rw (structure_parts (walk c.args.walk.now) (trees.structure c.args.d.now)) (goes_on _ passes (goes_on _ types (refused _ c.from_residual-in_err-are_scalar.result c.from_residual-in_err-are_scalar.ensures.1 broken)))

pub give_members-requires-clause-declared : goal.give_members-requires-clause-declared
give_members-requires-clause-declared c =
    let passes = rw (c.in_ok-names.ensures, c.as_slice.ensures.value) at c.in_ok-number.ensures in
    within_structs c.args.d.now.tag.number (member_names (trees.structure c.args.d.now).members) c.args.d.now.tainted (scope c.args.walk.now.scope) c.in_ok-number.number (scope c.add_struct.new.self) (struct_is_added c.args.d.now.tag.number (member_names (trees.structure c.args.d.now).members) c.args.d.now.tainted c.args.d.now.span (scope c.args.walk.now.scope) c.in_ok-number.number (scope c.add_struct.new.self) passes.so)

pub give_members-requires-clause-scalar : goal.give_members-requires-clause-scalar
give_members-requires-clause-scalar c =
    let kept = rw c.as_slice-3.ensures.value at c.in_ok-are_scalar.ensures in
    all_scalar (map member c.in_ok-members.members.items) kept.so

pub returns : goal.returns
returns c =
    let passes = rw (c.in_ok-names.ensures, c.as_slice.ensures.value) at c.in_ok-number.ensures in
    let types = rw c.as_slice-2.ensures.value at c.in_ok-members.ensures.types in
    let kept = rw c.as_slice-3.ensures.value at c.in_ok-are_scalar.ensures in
    let added = struct_is_added c.args.d.now.tag.number (member_names (trees.structure c.args.d.now).members) c.args.d.now.tainted c.args.d.now.span (scope c.args.walk.now.scope) c.in_ok-number.number (scope c.add_struct.new.self) passes.so in
    rw (structure_parts (walk c.args.walk.now) (trees.structure c.args.d.now))
    (goes_on _ passes (goes_on _ types (goes_on _ kept (last _ _ _ _ _ _ c.needs.result refl c.needs.ensures
    (ap (λ g. Passes (record (walk c.args.walk.now) { scope = g })) (struct_filled c.args.d.now.tag.number (member_names (trees.structure c.args.d.now).members) c.args.d.now.tainted (map member c.in_ok-members.members.items) (scope c.args.walk.now.scope) c.in_ok-number.number (scope c.add_struct.new.self) (scope c.give_members.new.self) added c.give_members.ensures))))))
