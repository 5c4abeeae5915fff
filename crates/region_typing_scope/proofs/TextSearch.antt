-- Strings, looked for one by one.
use Rattle.std.proofs.Common.{◌≡◌, ℕ, suc, ◌+◌, ◌*◌, ◌-◌, ◌<◌, ◌≤◌, Bool, true, false, List, [], ◌∷◌, map, drop, length, Option, Some, None, refl, sym, ap, ◌∙◌, arith}
use Rattle.std.specs.Prelude.{◌==◌, nat_le, cond, slice_get}
use Rattle.std.proofs.lemmas.Bool.Decides.{nat_tests}
use Rattle.ckc_tree.specs.Texts.{Text, text}
use Rattle.region_typing_rules.specs.Strings.{text_size, texts_size, text_from, text_at}
use Rattle.region_typing_scope.specs.declared.strings as code
use Rattle.region_typing_scope.specs.Strings.{strings}

-- so many bytes are taken: what is left of all, or too many are
abbrev pub IsLeft : (taken object : ℕ) → (held : ℕ) → Option ℕ → Type 0
IsLeft taken object held (Some left) = (left + taken ≡ 32768) × (held ≡ object) × (16 * object ≤ taken + 65536)
IsLeft taken object held None = 32768 < taken

-- the strings that are left are looked through, the first of which has this number
pub record IsSearched (s : code.Strings.Strings) (from index held : ℕ) (left : Option ℕ) : Type 0 where
  pub object : ℕ
  pub taken : ℕ
  pub same : text_at (strings s) from ≡ text_from object taken (map text (drop index s.texts.items)) from
  pub state : IsLeft taken object held left
