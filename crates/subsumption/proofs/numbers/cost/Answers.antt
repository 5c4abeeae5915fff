use Rattle.std.proofs.Common.{◌^◌, FitsSigned, sym, subst, rules}
use Rattle.std.specs.Int.{w128}
use Rattle.std.proofs.lemmas.Int.{to_z-of_z}
use Rattle.subsumption.specs.Graphs.{IsWithin}
use Rattle.subsumption.proofs.MatrixNumbers.{cell_within}
use Rattle.subsumption.proofs.numbers.cost.Goals as goal

pub sum-requires-clause-plus : goal.sum-requires-clause-plus
sum-requires-clause-plus c =
    let small : IsWithin (2 ^ 100) c.in-Some.step.plus = cell_within _ _ _ _ c.in-Some.step c.requires.near c.requires.z c.requires.w c.step.ensures c.in-Some.is in
    let fits : FitsSigned w128 c.in-Some.step.plus = search rules in
    subst (IsWithin (2 ^ 100)) (sym (to_z-of_z w128 c.in-Some.step.plus fits)) small
