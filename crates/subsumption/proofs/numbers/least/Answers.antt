use Rattle.std.proofs.Common.{ℤ, ◌^◌, ◌≡◌, FitsSigned, Some, sym, subst, rules, arith}
use Rattle.std.specs.Int.{w128}
use Rattle.std.proofs.lemmas.Int.{ints, to_z-of_z}
use Rattle.subsumption.specs.Graphs.{IsWithin}
use Rattle.subsumption.specs.MatrixWays.{cost_of, least_below}
use Rattle.subsumption.proofs.MatrixNumbers.{cell_within, least_direct}
use Rattle.subsumption.proofs.numbers.least.Goals as goal

pub returns-in-Some-clause-value : goal.returns-in-Some-clause-value
returns-in-Some-clause-value c =
    let small : IsWithin (2 ^ 100) c.in-Some.step.plus = cell_within _ _ _ _ c.in-Some.step c.requires.near c.requires.z c.requires.y c.step.ensures c.in-Some.is in
    let fits : FitsSigned w128 c.in-Some.step.plus = search rules in
    let P : ℤ → Type 0 = λ d. Some d ≡ least_below (cost_of c.args.matrix.now c.args.y c.args.z) c.args.matrix.now.n in
    subst P (sym (to_z-of_z w128 c.in-Some.step.plus fits)) (least_direct _ _ _ _ c.in-Some.step c.requires.near c.requires.y c.requires.z c.step.ensures c.in-Some.is)

pub returns-in-Some-clause-small : goal.returns-in-Some-clause-small
returns-in-Some-clause-small c =
    let small : IsWithin (2 ^ 100) c.in-Some.step.plus = cell_within _ _ _ _ c.in-Some.step c.requires.near c.requires.z c.requires.y c.step.ensures c.in-Some.is in
    let fits : FitsSigned w128 c.in-Some.step.plus = search rules in
    let low = small.low in let high = small.high in
    let wide : IsWithin (2 ^ 103) c.in-Some.step.plus = record { low = omega (arith, ints, low); high = omega (arith, ints, high) } in
    subst (IsWithin (2 ^ 103)) (sym (to_z-of_z w128 c.in-Some.step.plus fits)) wide
