use Rattle.std.proofs.Common.{ltb, rules, tests}
use Rattle.std.proofs.lemmas.Bool.{ltb-true, ltb-false}
use Rattle.std.proofs.lemmas.List.Sorted.{IsPartitionedBy-ltb, IsPartitionPoint-from_clause}
use Rattle.ckc_text.proofs.line_index.count_below.Goals as goal

pub returns-clause-parts : goal.returns-clause-parts
returns-clause-parts c =
    let offsets = c.args.offsets.now in
    let at = c.args.at in
    let ascending = IsPartitionedBy-ltb (λ x. x) offsets at c.requires in
    let parts = IsPartitionPoint-from_clause (λ y. ltb y at) offsets c.partition_point.result c.partition_point.ensures.partitioned ascending (λ a r f k. search (rules, tests)) in
    (λ k d low high. ltb-true _ at (parts.0 k d low high), λ k d low high. ltb-false _ at (parts.1 k d low high))
