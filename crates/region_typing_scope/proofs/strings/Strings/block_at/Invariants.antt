use Rattle.region_typing_scope.proofs.TextSearch.{IsSearched}
use Rattle.region_typing_scope.proofs.strings.Strings.block_at.Given as goal

-- the string is looked for among those that are left
abbrev pub invariant-loop-t : goal.invariant-loop-t
invariant-loop-t l = IsSearched l.self l.span.from l.t-index l.object l.left
