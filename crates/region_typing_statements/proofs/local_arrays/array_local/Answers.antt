use Rattle.std.proofs.lemmas.Bool.Decides.{nat_tests}
use Rattle.std.proofs.Common.{refl, rules, arith}
use Rattle.ckc_text.specs.declared.code.Code.TheVariants.{E13}
use Rattle.region_typing_statements.proofs.Testing.{walk_fails, walks_behind}
use Rattle.region_typing_statements.proofs.Walking.{goes_on, refused}
use Rattle.region_typing_statements.proofs.local_arrays.array_local.Goals as goal

pub returns-in_err-needs : goal.returns-in_err-needs
returns-in_err-needs c = walk_fails _ _ _ _ _ c.from_residual.result c.is_length.ensures c.from_residual.ensures.1 c.in_err-needs.ensures

pub returns-in_err-t : goal.returns-in_err-t
returns-in_err-t c =
    let broken = rw c.in_ok-given.ensures at c.in_err-t.ensures in
    walks_behind _ _ _ _ _ c.is_length.ensures c.in_ok-needs.ensures (refused _ c.from_residual-in_err-t.result c.from_residual-in_err-t.ensures.1 broken)

pub returns-in_err-array_element : goal.returns-in_err-array_element
returns-in_err-array_element c =
    let passes = rw c.in_ok-given.ensures at c.in_ok-t.ensures in
    walks_behind _ _ _ _ _ c.is_length.ensures c.in_ok-needs.ensures (goes_on _ passes
    (walk_fails _ _ E13 _ _ c.from_residual-in_err-array_element.result refl c.from_residual-in_err-array_element.ensures.1 (rw c.is_ended_array-ended.ensures at c.in_err-array_element.ensures)))

pub returns : goal.returns
returns c =
    let passes = rw c.in_ok-given.ensures at c.in_ok-t.ensures in
    walks_behind _ _ _ _ _ c.is_length.ensures c.in_ok-needs.ensures (goes_on _ passes
    (walks_behind _ _ E13 _ _ refl (rw c.is_ended_array-ended.ensures at c.in_ok-array_element.ensures) (rw c.is_ended_array-ended.ensures at c.add_array.ensures)))

pub returns-in_err-given : goal.returns-in_err-given
returns-in_err-given c = search rules

pub add_array-requires-clause-few : goal.add_array-requires-clause-few
add_array-requires-clause-few c = grind (arith, nat_tests)
