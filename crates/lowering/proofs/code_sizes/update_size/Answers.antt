use Rattle.std.proofs.lemmas.Bool.Decides.{nat_tests}
use Rattle.std.proofs.Common.{rules, arith}
use Rattle.lowering.proofs.code_sizes.update_size.Goals as goal

pub index_size-requires : goal.index_size-requires
index_size-requires c = search rules

pub overflow_add-parts : goal.overflow_add-parts
overflow_add-parts c = search rules

pub through_size-through-requires : goal.through_size-through-requires
through_size-through-requires c = search rules

pub overflow_add-result : goal.overflow_add-result
overflow_add-result c = search rules

pub overflow_add-result-2 : goal.overflow_add-result-2
overflow_add-result-2 c = search rules

pub overflow_add-result-3 : goal.overflow_add-result-3
overflow_add-result-3 c = grind (arith, nat_tests)

pub overflow_add-result-4 : goal.overflow_add-result-4
overflow_add-result-4 c = search rules

pub ended_size-requires : goal.ended_size-requires
ended_size-requires c = search rules

pub overflow_add-result-5 : goal.overflow_add-result-5
overflow_add-result-5 c = search rules

pub returns : goal.returns
returns c = search rules

pub place_size-requires : goal.place_size-requires
place_size-requires c = search rules

pub overflow_add-result-6 : goal.overflow_add-result-6
overflow_add-result-6 c = search rules

pub overflow_add-result-7 : goal.overflow_add-result-7
overflow_add-result-7 c = search rules

pub overflow_add-result-8 : goal.overflow_add-result-8
overflow_add-result-8 c = search rules

pub returns-2 : goal.returns-2
returns-2 c = search rules
