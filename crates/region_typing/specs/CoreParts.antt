-- Inside: the functions of a core.
use Rattle.std.specs.Prelude.{ℕ, suc, ◌==◌, List, [], ◌∷◌, Option, Some, None}
use Rattle.std.specs.Option.{option_map}
use Rattle.region_typing_rules.specs.Verdicts.{picked}
use Rattle.region_typing_rules.specs.Scopes.{Signature}
use Rattle.region_typing_rules.specs.Calls.{is_import}

-- the place of a trusted function among all
abbrev pub trusted_place : List Signature → ℕ → Option ℕ
trusted_place [] name = None
trusted_place (f ∷ functions) name = picked (name == f.name) (picked (is_import f) None (Some 0)) (option_map suc (trusted_place functions name))
