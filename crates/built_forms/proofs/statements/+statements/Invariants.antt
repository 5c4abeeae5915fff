use Rattle.std.proofs.Common.{◌≡◌, true, take}
use Rattle.std.specs.List.{list_all}
use Rattle.ckc_tree.specs.Statements.{statement}
use Rattle.built_forms.specs.Built as built
use Rattle.built_forms.proofs.statements.+statements.Given as goal

-- the statements so far are built
abbrev pub invariant-built_block-loop-inner : goal.invariant-built_block-loop-inner
invariant-built_block-loop-inner l = record {
  so_far : list_all (λ x. built.built_statement (statement x)) (take l.inner-index l.statements) ≡ true;
}
