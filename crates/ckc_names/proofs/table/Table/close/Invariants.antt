use Rattle.std.proofs.Common.{◌≡◌, reverse, vec_len}
use Rattle.ckc_names_rules.specs.Scopes.{outside}
use Rattle.ckc_names.specs.Insides.{blocks_of, IsTable}
use Rattle.ckc_names.proofs.table.Table.close.Given as goal

-- what is left is a table, with the same blocks outside
abbrev pub invariant-loop-held : goal.invariant-loop-held
invariant-loop-held l = record {
  table : IsTable l.self-inside.names l.self-inside.current.items l.self-inside.held.items l.self-inside.block;
  names : l.self-inside.names ≡ l.initial.self-inside.names;
  tags : l.self-inside.tags ≡ l.initial.self-inside.tags;
  blocks : outside (blocks_of l.self-inside.names (reverse l.self-inside.held.items)) ≡ outside (blocks_of l.self-inside.names (reverse l.initial.self-inside.held.items));
}

abbrev pub decreases-loop-held : goal.decreases-loop-held
decreases-loop-held l = vec_len l.self-inside.held
