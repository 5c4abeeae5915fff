-- Inside: how a table holds the open blocks and the names.
use Rattle.std.specs.Prelude.{◌≡◌, ℕ, ◌<◌, ◌≤◌, ◌==◌, cond, List, [], ◌∷◌, length, reverse, slice_index_or, slice_get, nat_lt, Option, Some, None, IsSome}
use Rattle.std.specs.Option.{option_and_then}
use Rattle.ckc_names.specs.declared.table.Held.{Held}
use Rattle.ckc_names.specs.declared.table.Held.TheVariants as held
use Rattle.ckc_names_rules.specs.Scopes.{Meaning, Block, with_entry}
use Rattle.ckc_names_rules.specs.Meanings.{meaning}
use Rattle.ckc_names.specs.State.{State}
use Rattle.ckc_names.specs.NameLists.{name_at, Distinct}

-- ---- marks of blocks and entries, the last one first

-- the blocks that they make
abbrev pub blocks_of : List (List ℕ) → List Held → List Block
blocks_of names [] = []
blocks_of names (held.Block outer ∷ before) = [] ∷ blocks_of names before
blocks_of names (held.Name number stands hides ∷ before) = with_entry (name_at names number) (meaning stands) (blocks_of names before)

-- where the mark of the innermost block stands
abbrev pub block_place : List Held → Option ℕ
block_place [] = None
block_place (held.Block outer ∷ before) = Some (length before)
block_place (held.Name number stands hides ∷ before) = block_place before

-- where the innermost entry of a name stands
abbrev pub name_place : ℕ → List Held → Option ℕ
name_place number [] = None
name_place number (held.Block outer ∷ before) = name_place number before
name_place number (held.Name other stands hides ∷ before) = cond (other == number) (Some (length before)) (name_place number before)

-- each mark knows the block around, each entry what it hides, and entries have numbers of names and stand in blocks
abbrev pub Settled : ℕ → List Held → Type 0
Settled count [] = Unit {0}
Settled count (held.Block outer ∷ before) = (outer ≡ block_place before) × Settled count before
Settled count (held.Name number stands hides ∷ before) =
    (number < count) × ((hides ≡ name_place number before) × (IsSome (block_place before) × Settled count before))

-- ---- the parts of a table

-- the names, where each is declared innermost, marks and entries, where the innermost block begins, and the tags
abbrev pub state_of : List (List ℕ) → List Held → List (List ℕ) → State
state_of names marks tags = record { scopes = record { blocks = blocks_of names (reverse marks); tags = reverse tags }; names = names }

pub record IsTable (names : List (List ℕ)) (current : List (Option ℕ)) (marks : List Held) (block : Option ℕ) : Type 0 where
  pub distinct : Distinct names
  pub room : length names ≤ length current
  pub places : (number : ℕ) → slice_index_or current number None ≡ name_place number (reverse marks)
  pub innermost : block ≡ block_place (reverse marks)
  pub settled : Settled (length names) (reverse marks)

-- what stands at a place
abbrev pub meaning_of : Held → Option Meaning
meaning_of (held.Block outer) = None
meaning_of (held.Name number stands hides) = Some (meaning stands)

-- what stands at a place, if it is one
abbrev pub meaning_at : List Held → Option ℕ → Option Meaning
meaning_at marks None = None
meaning_at marks (Some place) = option_and_then meaning_of (slice_get marks place)

-- a place in the innermost block
abbrev pub within : Option ℕ → Option ℕ → Option ℕ
within None block = None
within (Some place) None = None
within (Some place) (Some block) = cond (nat_lt place block) None (Some place)

-- room for one name more, and nothing else is changed
pub record HasRoom (count : ℕ) (old new : List (Option ℕ)) : Type 0 where
  pub room : count ≤ length new
  pub same : (number : ℕ) → slice_index_or new number None ≡ slice_index_or old number None
