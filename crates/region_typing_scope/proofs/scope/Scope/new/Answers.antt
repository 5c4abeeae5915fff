use Rattle.region_typing_scope.proofs.Tables.{finds_nothing, counts_nothing}
use Rattle.region_typing_scope.proofs.scope.Scope.new.Goals as goal

pub invariant_of-result-clause-tags_found : goal.invariant_of-result-clause-tags_found
invariant_of-result-clause-tags_found c = rw (c.new-11.ensures, c.new.ensures.items) finds_nothing

pub invariant_of-result-clause-functions_found : goal.invariant_of-result-clause-functions_found
invariant_of-result-clause-functions_found c = rw (c.new-12.ensures, c.new-4.ensures.items) finds_nothing

pub invariant_of-result-clause-variables_found : goal.invariant_of-result-clause-variables_found
invariant_of-result-clause-variables_found c = rw (c.new-13.ensures, c.new-5.ensures.items) finds_nothing

pub invariant_of-result-clause-counted : goal.invariant_of-result-clause-counted
invariant_of-result-clause-counted c = rw (c.new-14.ensures.items, c.new-4.ensures.items) counts_nothing
