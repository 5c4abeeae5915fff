use Rattle.std.proofs.Common.{map}
use Rattle.ckc_text.specs.Places.{place_at}
use Rattle.ckc_tree.specs.Items as trees
use Rattle.region_typing_rules.specs.Scopes.{function_named}
use Rattle.region_typing_scope.specs.Views.{scope, signature}
use Rattle.region_typing_scope.proofs.Going.{goes_on, refused}
use Rattle.region_typing.specs.Items.{walk}
use Rattle.region_typing.specs.Signatures.{declared}
use Rattle.region_typing.proofs.Bodies.{behind_scope, kept_last}
use Rattle.region_typing.proofs.Outside.{declared_outside}
use Rattle.region_typing.proofs.items.with_prototype.Goals as goal

pub function_body-requires-clause-outside : goal.function_body-requires-clause-outside
function_body-requires-clause-outside c =
    let g = scope c.args.walk.now.scope in
    declared_outside (function_named g.functions c.args.known.now.signature.name) (signature c.args.known.now.signature) g (scope c.declare.new.scope) c.in_ok-declare.ensures c.requires.outside

pub returns-in_err-changed : goal.returns-in_err-changed
returns-in_err-changed c =
    let broken = rw c.as_slice-parameters.ensures.value at c.in_err-changed.ensures.core in
    behind_scope (place_at c.args.context.now) (map trees.item c.args.listing.now.items.now) (walk c.args.walk.now) (trees.function c.args.d.now) (declared c.args.known.now) (scope c.declare.new.scope) c.in_ok-declare.ensures
    (refused _ c.from_residual-in_err-changed.result c.from_residual-in_err-changed.ensures.1 broken)

pub returns : goal.returns
returns c =
    let passes = rw c.as_slice-parameters.ensures.value at c.in_ok-changed.ensures.core in
    let changed = rw c.as_slice-parameters.ensures.value at c.in_ok-changed.ensures.changed in
    let judged = rw (c.fits-suits.ensures, changed) at c.keep_rules.ensures in
    behind_scope (place_at c.args.context.now) (map trees.item c.args.listing.now.items.now) (walk c.args.walk.now) (trees.function c.args.d.now) (declared c.args.known.now) (scope c.declare.new.scope) c.in_ok-declare.ensures
    (goes_on _ passes (kept_last _ _ c.keep_rules.result judged))
