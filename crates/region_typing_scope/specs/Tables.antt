-- Inside: tables of numbers, and numbers of functions on their side of the boundary.
use Rattle.std.specs.Prelude.{◌≡◌, ℕ, zero, suc, ◌<◌, ◌==◌, Bool, true, cond, List, [], ◌∷◌, length, slice_index, slice_index_or, Option, Some, None}
use Rattle.std.specs.Option.{option_map}
use Rattle.region_typing_rules.specs.Scopes.{Signature}
use Rattle.region_typing_rules.specs.Calls.{is_import, counted, same_side}

-- the place of the first that passes a test
abbrev pub place_of : {X : Type 0} → (X → Bool) → List X → Option ℕ
place_of p [] = None
place_of p (x ∷ xs) = cond (p x) (Some 0) (option_map suc (place_of p xs))

-- ---- numbers with a place each

-- the place of a number
abbrev pub place_in : List (Option ℕ) → ℕ → Option ℕ
place_in table number = slice_index_or table number None

-- the place that is found, or else the last one where it passes
abbrev pub or_last : Option ℕ → Bool → ℕ → Option ℕ
or_last None passes last = cond passes (Some last) None
or_last (Some place) passes last = Some place

-- a number more, unless it has a place
pub record Noted (number place : ℕ) (old new : List (Option ℕ)) : Type 0 where
  pub at : (other : ℕ) → place_in new other ≡ or_last (place_in old other) (other == number) place

-- each number has the place that it had
pub record SamePlaces (old new : List (Option ℕ)) : Type 0 where
  pub at : (other : ℕ) → place_in new other ≡ place_in old other

-- a table has the first place of each number in a list
pub record Finds (table : List (Option ℕ)) (numbers : List ℕ) : Type 0 where
  pub first : (number : ℕ) → place_in table number ≡ place_of (λ other. number == other) numbers

-- ---- functions by their side

-- how many functions of a side stand before a place
abbrev pub side_before : Bool → List Signature → ℕ → ℕ
side_before side [] place = 0
side_before side (f ∷ functions) zero = 0
side_before side (f ∷ functions) (suc place) = counted (same_side side (is_import f)) (side_before side functions place)

-- for each function how many up to it are tainted
pub record Counts (counts : List ℕ) (functions : List Signature) : Type 0 where
  pub all : length counts ≡ length functions
  pub so_far : (place : ℕ) → place < length functions → slice_index counts place ≡ side_before true functions (suc place)
