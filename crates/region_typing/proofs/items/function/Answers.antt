use Rattle.std.proofs.Common.{nat_lt, length, map, ap, sym, ◌∙◌}
use Rattle.std.proofs.lemmas.Bool.{ltb-true}
use Rattle.std.proofs.lemmas.List.{length-map}
use Rattle.ckc_text.specs.Places.{place_at}
use Rattle.ckc_text.specs.declared.code.Code.TheVariants.{E08}
use Rattle.ckc_tree.specs.Items as trees
use Rattle.region_typing_rules.specs.Scopes.{function_named}
use Rattle.region_typing_scope.specs.Views.{scope, signature}
use Rattle.region_typing_scope.proofs.Going.{refused}
use Rattle.region_typing.specs.Items.{walk}
use Rattle.region_typing.specs.Signatures.{declared}
use Rattle.region_typing.proofs.Bodies.{function_parts, function_walk, room_left, declared_name}
use Rattle.region_typing_statements.proofs.Testing.{holds, fails, tested}
use Rattle.region_typing.proofs.items.function.Goals as goal

pub returns-in_err-needs : goal.returns-in_err-needs
returns-in_err-needs c =
    let room = c.has_room.ensures in
    rw (function_parts (place_at c.args.context.now) (map trees.item c.args.listing.now.items.now) (walk c.args.walk.now) (trees.function c.args.d.now)) (fails _ _ _ _ _ c.from_residual.result room c.from_residual.ensures.1 c.in_err-needs.ensures)

pub returns-in_err-known : goal.returns-in_err-known
returns-in_err-known c =
    let room = c.has_room.ensures in
    rw (function_parts (place_at c.args.context.now) (map trees.item c.args.listing.now.items.now) (walk c.args.walk.now) (trees.function c.args.d.now)) (holds _ _ _ _ _ room c.in_ok-needs.ensures
    (refused _ c.from_residual-in_err-known.result c.from_residual-in_err-known.ensures.1 c.in_err-known.ensures))

pub with_prototype-requires-clause-room : goal.with_prototype-requires-clause-room
with_prototype-requires-clause-room c none =
    let g = scope c.args.walk.now.scope in
    let room = c.has_room.ensures in
    let named = declared_name g (trees.function c.args.d.now) (declared c.in_ok-known.known) c.in_ok-known.ensures.so in
    let few = room_left (function_named g.functions c.args.d.now.name.number) (nat_lt (length g.functions) 4096) (sym room ∙ tested _ E08 c.args.d.now.span c.in_ok-needs.ensures) (sym (ap (function_named g.functions) named) ∙ none) in
    rw (← length-map c.args.walk.now.scope.functions.items signature) (ltb-true (length g.functions) 4096 few)

pub returns : goal.returns
returns c =
    let room = c.has_room.ensures in
    rw (function_parts (place_at c.args.context.now) (map trees.item c.args.listing.now.items.now) (walk c.args.walk.now) (trees.function c.args.d.now)) (holds _ _ _ _ _ room c.in_ok-needs.ensures
    (function_walk (place_at c.args.context.now) (map trees.item c.args.listing.now.items.now) (walk c.args.walk.now) (trees.function c.args.d.now) (declared c.in_ok-known.known) c.in_ok-known.ensures.so c.with_prototype.ensures))
