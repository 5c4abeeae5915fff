-- A program with its names, as the code holds it.
use Rattle.std.specs.Prelude.{◌≡◌, ℕ, List}
use Rattle.ckc_tree.specs.declared.item.Program.{Program}
use Rattle.ckc_tree.specs.Items.{tree}
use Rattle.ckc_names_rules.specs.declared.given.Given.{Given}
use Rattle.ckc_names_rules.specs.Given.{given_in}
use Rattle.ckc_names_rules.specs.Naming.{NamedTree, IsNamed}

pub record NamedProgram : Type 0 where
  pub program : Program
  pub names : List (List ℕ)

-- the named program that it stands for
abbrev pub named_tree : NamedProgram → NamedTree
named_tree named = record { tree = tree named.program; names = named.names }

-- inside: what holds of the parts that the code has of it
pub record IsNamedProgram (program : Program) (names : List (List ℕ)) (given : Given) : Type 0 where
  pub named : IsNamed (record { tree = tree program; names = names })
  pub numbers : given ≡ given_in names
