use Rattle.bounds_flow_meaning.proofs.Sums.{audits_pass, bases_stay, blocks_grow, ends_move_back, new_blocks_count, null_is_valid, variables_are_bases}
use Rattle.bounds_flow_meaning.proofs.laws.sums_stay_valid.Goals as goal

pub returns-clause-null : goal.returns-clause-null
returns-clause-null c = null_is_valid

pub returns-clause-variables : goal.returns-clause-variables
returns-clause-variables c = variables_are_bases

pub returns-clause-ends : goal.returns-clause-ends
returns-clause-ends c = ends_move_back

pub returns-clause-bases : goal.returns-clause-bases
returns-clause-bases c = bases_stay

pub returns-clause-blocks : goal.returns-clause-blocks
returns-clause-blocks c = blocks_grow

pub returns-clause-audits : goal.returns-clause-audits
returns-clause-audits c = audits_pass

pub returns-clause-allocations : goal.returns-clause-allocations
returns-clause-allocations c = new_blocks_count
