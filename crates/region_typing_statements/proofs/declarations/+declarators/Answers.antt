use Rattle.std.proofs.Common.{◌≡◌, ◌<◌, length, arith}
use Rattle.std.proofs.lemmas.List.{nil_from_length, take_rest}
use Rattle.ckc_text.specs.Places.{place_at}
use Rattle.ckc_tree.specs.Types.{type_tree}
use Rattle.pointer_modes.specs.Types.{ctype}
use Rattle.ckc_core.specs.Core as core
use Rattle.region_typing_scope.specs.OnHeap.{statement}
use Rattle.region_typing_statements.proofs.Walking.{walks_on, refused_walk, done}
use Rattle.region_typing_statements.proofs.Locals.{declarators_walk}
use Rattle.region_typing_statements.proofs.declarations.+declarators.Goals as goal

pub returns-in_ok-nothing-in-empty : goal.returns-in_ok-nothing-in-empty
returns-in_ok-nothing-in-empty t c =
    let none : length c.args.ds.now ≡ 0 = omega (arith, c.in-empty.len_below) in
    rw (nil_from_length c.args.ds.now none) (done statement c.in_ok-nothing-in-empty.field-0 core.Nothing c.args.scope.now c.in_ok-nothing-in-empty.ensures)

pub returns-in_err-first-in-len1-up : goal.returns-in_err-first-in-len1-up
returns-in_err-first-in-len1-up t c =
    let some : 0 < length c.args.ds.now = omega (arith, c.in-len1-up.len_at_least) in
    declarators_walk (place_at c.args.context.now) (type_tree c.args.base.now) (ctype c.args.t.now) c.args.span c.args.ds.now c.first-item.result some c.first-item.is
    (refused_walk _ c.from_residual-in_err-first-in-len1-up.result c.from_residual-in_err-first-in-len1-up.ensures.1 c.in_err-first-in-len1-up.ensures)

pub returns-in_err-rest-in-len1-up : goal.returns-in_err-rest-in-len1-up
returns-in_err-rest-in-len1-up t c =
    let broken = rw (take_rest c.args.ds.now 1) at c.in_err-rest-in-len1-up.ensures in
    let some : 0 < length c.args.ds.now = omega (arith, c.in-len1-up.len_at_least) in
    declarators_walk (place_at c.args.context.now) (type_tree c.args.base.now) (ctype c.args.t.now) c.args.span c.args.ds.now c.first-item.result some c.first-item.is
    (walks_on _ c.in_ok-first-in-len1-up.ensures (refused_walk _ c.from_residual-in_err-rest-in-len1-up.result c.from_residual-in_err-rest-in-len1-up.ensures.1 broken))

pub returns-in_ok-both-in-len1-up : goal.returns-in_ok-both-in-len1-up
returns-in_ok-both-in-len1-up t c =
    let rest = rw (take_rest c.args.ds.now 1) at c.in_ok-rest-in-len1-up.ensures in
    let some : 0 < length c.args.ds.now = omega (arith, c.in-len1-up.len_at_least) in
    declarators_walk (place_at c.args.context.now) (type_tree c.args.base.now) (ctype c.args.t.now) c.args.span c.args.ds.now c.first-item.result some c.first-item.is
    (walks_on _ c.in_ok-first-in-len1-up.ensures (walks_on _ rest (done statement c.in_ok-both-in-len1-up.field-0 _ c.declarators.new.scope c.in_ok-both-in-len1-up.ensures)))
