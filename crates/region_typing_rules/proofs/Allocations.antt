-- New memory: its cells hold values of their types, and those of older blocks hold theirs.
use Rattle.std.proofs.Common.{ℕ, zero, suc, ℤ, List, [], ◌∷◌, ◌++◌, refl}
use Rattle.std.specs.List.{AllByRecursion}
use Rattle.std.proofs.lemmas.List.{map-append}
use Rattle.pointer_modes.specs.Types.{CType, Int, Char, Struct, Pointer, Structure}
use Rattle.ckc_core.specs.Programs.{Initial}
use Rattle.ckc_core.specs.States.{Cell, Block, Shape, Grows, initial_value, shape, shapes, zero_of}
use Rattle.ckc_core.specs.Pointers.{cells_of_elements, element_cells}
use Rattle.region_typing_rules.specs.Typed.{HasValue, IsInitial}
use Rattle.region_typing_rules.proofs.Values.{HoldsValues, value_grown}

all_joined : {X : Type 0} (P : X → Type 0) (xs ys : List X) → AllByRecursion P xs → AllByRecursion P ys → AllByRecursion P (xs ++ ys)
all_joined P [] ys all more = more
all_joined P (x ∷ xs) ys all more = (all.0, all_joined P xs ys all.1 more)

module _ (structs : List Structure) (b : List Shape) where
  abbrev IsCell : Cell → Type 0
  IsCell c = HasValue structs b c.type c.value

  -- a cell that may begin a run holds the zero of its type
  zero_held : (t : CType) (z : ℤ) → HasValue structs [] t (initial_value t z) → HasValue structs b t (zero_of t)
  zero_held Int z h = refl
  zero_held Char z h = refl
  zero_held (Struct n) z h = absurd h
  zero_held (Pointer m k t) z h = tt

  element_held : (element : List Initial) → AllByRecursion (IsInitial structs) element → AllByRecursion IsCell (element_cells element)
  element_held [] all = tt
  element_held (i ∷ element) all = (zero_held i.type i.number all.0, element_held element all.1)

  -- the cells of so many elements
  pub elements_held : (n : ℕ) (element : List Initial) → AllByRecursion (IsInitial structs) element → AllByRecursion IsCell (cells_of_elements n element)
  elements_held zero element all = tt
  elements_held (suc n) element all = all_joined IsCell (element_cells element) (cells_of_elements n element) (element_held element all) (elements_held n element all)

module _ (structs : List Structure) (a b : List Shape) (more : Grows a b) where
  cells_grown : (cells : List Cell) → AllByRecursion (λ (c : Cell). HasValue structs a c.type c.value) cells → AllByRecursion (λ (c : Cell). HasValue structs b c.type c.value) cells
  cells_grown [] all = tt
  cells_grown (c ∷ cells) all = (value_grown structs a b more c.type c.value all.0, cells_grown cells all.1)

  blocks_grown : (blocks : List Block) → AllByRecursion (HoldsValues structs a) blocks → AllByRecursion (HoldsValues structs b) blocks
  blocks_grown [] all = tt
  blocks_grown (x ∷ blocks) all = (cells_grown x.cells all.0, blocks_grown blocks all.1)

  -- behind the older blocks stands a new one
  pub held_behind : (blocks : List Block) (new : Block) → AllByRecursion (HoldsValues structs a) blocks → HoldsValues structs b new → AllByRecursion (HoldsValues structs b) (blocks ++ new ∷ [])
  held_behind blocks new all here = all_joined (HoldsValues structs b) blocks (new ∷ []) (blocks_grown blocks all) (here, tt)

-- a block more
pub grows_by : (blocks : List Block) (new : Block) → Grows (shapes blocks) (shapes (blocks ++ new ∷ []))
grows_by blocks new = (shape new ∷ [], map-append shape blocks (new ∷ []))
