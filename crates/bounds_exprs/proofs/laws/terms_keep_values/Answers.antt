use Rattle.bounds_exprs.proofs.Values.{filling_keeps_values, parts_add_up, shifts_keep_values}
use Rattle.bounds_exprs.proofs.laws.terms_keep_values.Goals as goal

pub returns-clause-parts : goal.returns-clause-parts
returns-clause-parts c = parts_add_up

pub returns-clause-shifts : goal.returns-clause-shifts
returns-clause-shifts c = shifts_keep_values

pub returns-clause-parameters : goal.returns-clause-parameters
returns-clause-parameters c = filling_keeps_values
