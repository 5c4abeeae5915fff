-- Inside: the functions that have bodies.
use Rattle.std.specs.Prelude.{◌≡◌, ℕ, List, Option, is_some}
use Rattle.ckc_tree.specs.Items.{Item}
use Rattle.region_typing_rules.specs.Items.{is_defined}
use Rattle.region_typing_scope.specs.Tables.{place_in}

-- a table has the names of the functions that have bodies among items
pub record Knows (table : List (Option ℕ)) (items : List Item) : Type 0 where
  pub same : (name : ℕ) → is_some (place_in table name) ≡ is_defined items name
