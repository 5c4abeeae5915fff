-- In each block that a zero ends the last cell holds it: stores and new blocks leave that so.
use Rattle.std.proofs.Common.{◌≡◌, ℕ, zero, suc, ◌^◌, ◌<◌, ◌≤◌, ℤ, Bool, true, false, not, List, [], ◌∷◌, ◌++◌, length, map, Some, refl, sym, ap, ◌∙◌, subst, arith}
use Rattle.std.specs.Prelude.{◌==◌, ◌||◌, slice_get, slice_set}
use Rattle.std.specs.List.{AllByRecursion}
use Rattle.std.proofs.lemmas.Bool.{eqb-true}
use Rattle.std.proofs.lemmas.Bool.Decides.{nat_tests}
use Rattle.std.proofs.lemmas.List.{length-map, length-replicate, length-set, map-append}
use Rattle.std.proofs.lemmas.Option.{same_Some}
use Rattle.pointer_modes.specs.declared.ctype.Mode.TheVariants as modes
use Rattle.pointer_modes.specs.declared.ctype.Kind.{Kind}
use Rattle.pointer_modes.specs.declared.ctype.Kind.TheVariants as kinds
use Rattle.pointer_modes.specs.Types.{CType, Int, Char, Struct, Pointer, Structure}
use Rattle.pointer_modes.specs.Layout.{size_of}
use Rattle.ckc_core.specs.Programs.{Initial, Variable}
use Rattle.ckc_core.specs.States.{At, Block, Cell, Value, Shape, zero_of, initial_value, object_block, shape, shapes, stored}
use Rattle.ckc_core.specs.Steps.{is_zero, leaves_zero}
use Rattle.ckc_core.specs.Pointers.{cells_of_elements, element_size, new_block as new_row}
use Rattle.bounds_flow_meaning.specs.Holding.{is_ended}
use Rattle.bounds_flow_meaning.specs.Rows.{AreCellsBehind, AreCellsOf, IsEndedPlace}
use Rattle.bounds_flow_meaning.specs.Zeros.{EndInZeros}
use Rattle.bounds_flow_meaning.proofs.Sums.{one_strides, one_types}
use Rattle.region_typing_rules.specs.Types.{is_number}
use Rattle.region_typing_rules.specs.Typed.{EndsInZero, HasValue, IsEndedRow, IsInitial, IsNewNumber}
use Rattle.region_typing_rules.proofs.BoundedObjects.{set_other, set_same}
use Rattle.region_typing_rules.proofs.Values.{HasCell, mapped_from, new_block, new_cell, stored_there}

-- the last cell of a block that a zero ends
abbrev pub LastIsZero : Block → Type 0
LastIsZero b = b.zero_ended ≡ true → (k : ℕ) (c : Cell) → slice_get b.cells k ≡ Some c → suc k ≡ length b.cells → is_zero c.value ≡ true

-- a block more
pub zeros_made : (blocks : List Block) (b : Block) → EndInZeros blocks → LastIsZero b → EndInZeros (blocks ++ b ∷ [])
zeros_made [] b h last zero other found = let same : b ≡ other = same_Some b other found in subst LastIsZero same last
zeros_made [] b h last (suc k) other found = absurd (cc)
zeros_made (x ∷ blocks) b h last zero other found = h zero other found
zeros_made (x ∷ blocks) b h last (suc k) other found = zeros_made blocks b (λ j. h (suc j)) last k other found

-- blocks that no zero ends
pub zeros_open : (b : Block) → b.zero_ended ≡ false → LastIsZero b
zeros_open b unended ended = absurd (let no : true ≡ false = sym ended ∙ unended in cc)

-- a store that leaves the zero
module _ (blocks : List Block) (block byte : ℕ) (t : CType) (c : HasCell blocks block byte t) (v : Value) (leaves : leaves_zero (slice_get blocks block) byte v ≡ true) (h : EndInZeros blocks) where
  abbrev new : Block
  new = new_block blocks block byte t c v

  -- what it leaves of the block
  left : (not c.held.zero_ended || (is_zero v || not (suc c.number == length c.held.cells))) ≡ true
  left = rw (c.there, c.numbered) at leaves

  new_value : c.held.zero_ended ≡ true → suc c.number ≡ length c.held.cells → is_zero v ≡ true
  new_value ended last = by c.held.zero_ended (suc c.number == length c.held.cells) (is_zero v) ended (grind (arith, nat_tests)) left
    where
      by : (ended last none : Bool) → ended ≡ true → last ≡ true → (not ended || (none || not last)) ≡ true → none ≡ true
      by false last none e l h = absurd (cc)
      by true false none e l h = absurd (cc)
      by true true false e l h = absurd (cc)
      by true true true e l h = refl

  new_last : LastIsZero new
  new_last ended k cell found last = by (k == c.number) refl
    where
      many : length new.cells ≡ length c.held.cells
      many = length-set c.held.cells c.number (new_cell blocks block byte t c v)

      by : (same : Bool) → (k == c.number) ≡ same → is_zero cell.value ≡ true
      by true is =
          let k_is : k ≡ c.number = eqb-true k c.number is in
          let here : slice_get new.cells c.number ≡ Some cell = subst (λ k. slice_get new.cells k ≡ Some cell) k_is found in
          let same : new_cell blocks block byte t c v ≡ cell = same_Some (new_cell blocks block byte t c v) cell (sym (set_same c.held.cells c.number c.cell (new_cell blocks block byte t c v) c.found) ∙ here) in
          subst (λ (x : Cell). is_zero x.value ≡ true) same (new_value ended (omega (arith, many, last, k_is)))
      by false is =
          let other : k ≡ c.number → ⊥ = λ same. different same is in
          let there : slice_get c.held.cells k ≡ Some cell = sym (set_other c.held.cells c.number k (new_cell blocks block byte t c v) other) ∙ found in
          h block c.held c.there ended k cell there (last ∙ many)
        where
          different : k ≡ c.number → (k == c.number) ≡ false → ⊥
          different same not_so = let yes : (k == c.number) ≡ true = grind (arith, nat_tests, same) in let q : true ≡ false = sym yes ∙ not_so in cc

  pub zeros_stored : EndInZeros (stored blocks block byte v)
  zeros_stored other b found = by (other == block) refl
    where
      moved : slice_get (slice_set blocks block new) other ≡ Some b
      moved = ap (λ blocks. slice_get blocks other) (sym (stored_there blocks block byte t c v)) ∙ found

      by : (same : Bool) → (other == block) ≡ same → LastIsZero b
      by true is =
          let other_is : other ≡ block = eqb-true other block is in
          let here : slice_get (slice_set blocks block new) block ≡ Some b = subst (λ k. slice_get (slice_set blocks block new) k ≡ Some b) other_is moved in
          let same : new ≡ b = same_Some new b (sym (set_same blocks block c.held new c.there) ∙ here) in
          subst LastIsZero same new_last
      by false is =
          let apart : other ≡ block → ⊥ = λ same. different same is in
          h other b (sym (set_other blocks block other new apart) ∙ moved)
        where
          different : other ≡ block → (other == block) ≡ false → ⊥
          different same not_so = let yes : (other == block) ≡ true = grind (arith, nat_tests, same) in let q : true ≡ false = sym yes ∙ not_so in cc

-- ---- before the run

start_last : (v : Variable) → EndsInZero v → LastIsZero (object_block v)
start_last v h ended k c found last =
    let i = mapped_from (λ (i : Initial). record { type = i.type; stride = i.stride; value = initial_value i.type i.number }) v.cells k c found in
    let many = length-map v.cells (λ (i : Initial). record { type = i.type; stride = i.stride; value = initial_value i.type i.number }) in
    subst (λ (c : Cell). is_zero c.value ≡ true) i.2 ((h ended).zero k i.0 i.1 (last ∙ many))

pub zeros_start : (objects : List Variable) → AllByRecursion EndsInZero objects → EndInZeros (map object_block objects)
zeros_start [] all k b found = absurd (cc)
zeros_start (v ∷ objects) all zero b found = subst LastIsZero (same_Some (object_block v) b found) (start_last v all.0)
zeros_start (v ∷ objects) all (suc k) b found = zeros_start objects all.1 k b found

-- ---- how many cells they have

-- blocks that a zero ends have few cells
abbrev pub AreShort : List Shape → Type 0
AreShort blocks = (k : ℕ) (x : Shape) → slice_get blocks k ≡ Some x → x.zero_ended ≡ true → length x.types ≤ 2 ^ 31

pub short_made : (blocks : List Shape) (x : Shape) → AreShort blocks → (x.zero_ended ≡ true → length x.types ≤ 2 ^ 31) → AreShort (blocks ++ x ∷ [])
short_made [] x h few zero other found = let same : x ≡ other = same_Some x other found in subst (λ (x : Shape). x.zero_ended ≡ true → length x.types ≤ 2 ^ 31) same few
short_made [] x h few (suc k) other found = absurd (cc)
short_made (y ∷ blocks) x h few zero other found = h zero other found
short_made (y ∷ blocks) x h few (suc k) other found = short_made blocks x (λ j. h (suc j)) few k other found

pub short_start : (objects : List Variable) → AllByRecursion EndsInZero objects → AreShort (shapes (map object_block objects))
short_start [] all k x found = absurd (cc)
short_start (v ∷ objects) all zero x found =
    subst (λ (x : Shape). x.zero_ended ≡ true → length x.types ≤ 2 ^ 31) (same_Some (shape (object_block v)) x found) few
  where
    few : v.zero_ended ≡ true → length (shape (object_block v)).types ≤ 2 ^ 31
    few ended =
        let made : Initial → Cell = λ (i : Initial). record { type = i.type; stride = i.stride; value = initial_value i.type i.number } in
        let one = length-map (map made v.cells) (λ (x : Cell). x.type) in
        let two = length-map v.cells made in
        omega (arith, one, two, (all.0 ended).few)
short_start (v ∷ objects) all (suc k) x found = short_start objects all.1 k x found

-- ---- new blocks

-- what holds of a new block to which a pointer of a kind leads
pub record IsNewRow (structs : List Structure) (kind : Kind) (t : CType) (element : List Initial) : Type 0 where
  pub sized : element_size element ≡ size_of structs t
  pub cells : AreCellsBehind structs (Pointer modes.Checked kind t) element
  pub initials : AllByRecursion (IsInitial structs) element
  pub typed : (blocks : List Block) (count : ℕ)
      → HasValue structs (shapes (blocks ++ new_row (is_ended (Pointer modes.Checked kind t)) count element ∷ [])) (Pointer modes.Checked kind t) (At (length blocks) 0)
  pub last : (count : ℕ) → LastIsZero (new_row (is_ended (Pointer modes.Checked kind t)) count element)
  pub short : (count : ℕ) → count < 2 ^ 31 → (shape (new_row (is_ended (Pointer modes.Checked kind t)) count element)).zero_ended ≡ true
      → length (shape (new_row (is_ended (Pointer modes.Checked kind t)) count element)).types ≤ 2 ^ 31

-- of a pointer to an array
pub array_row : (structs : List Structure) (t : CType) (element : List Initial) → element_size element ≡ size_of structs t → AreCellsOf structs t element → AllByRecursion (IsInitial structs) element → IsNewRow structs kinds.Array t element
array_row structs t element sized cells initials = record {
  sized = sized;
  cells = cells;
  initials = initials;
  typed = λ blocks count. tt;
  last = λ count. zeros_open (new_row false count element) refl;
  short = λ count few ended. absurd (cc);
}

-- of a null-terminated pointer
module _ (structs : List Structure) (t : CType) (number : is_number t ≡ true) (n : ℤ) (some : 1 ≤ size_of structs t) where
  abbrev one : List Initial
  one = record { type = t; stride = size_of structs t; number = n } ∷ []

  last_there : (blocks : List Shape) (x : Shape) → slice_get (blocks ++ x ∷ []) (length blocks) ≡ Some x
  last_there [] x = refl
  last_there (y ∷ blocks) x = last_there blocks x

  zero_number : (t : CType) → is_number t ≡ true → is_zero (zero_of t) ≡ true
  zero_number Int h = refl
  zero_number Char h = refl
  zero_number (Struct k) h = absurd (cc)
  zero_number (Pointer m k target) h = absurd (cc)

  all_zero : (count k : ℕ) (c : Cell) → slice_get (cells_of_elements count one) k ≡ Some c → is_zero c.value ≡ true
  all_zero zero k c found = absurd (cc)
  all_zero (suc count) zero c found = subst (λ (c : Cell). is_zero c.value ≡ true) (same_Some (record { type = t; stride = size_of structs t; value = zero_of t }) c found) (zero_number t number)
  all_zero (suc count) (suc k) c found = all_zero count k c found

  pub ended_new : AllByRecursion (IsInitial structs) one → IsNewRow structs kinds.Nt t one
  ended_new initials = record {
    sized = omega arith;
    cells = record { number = n; is = refl; some = some };
    initials = initials;
    typed = λ blocks count. (number, there blocks count);
    last = λ count ended k c found whole. all_zero (suc count) k c found;
    short = λ count few ended. (let many = row_long count in omega (arith, many, few));
  }
    where
      row_shape : (count : ℕ) → IsEndedRow structs (shape (new_row true count one)) t count
      row_shape count = record { number = number; ended = refl; unsealed = refl; types = one_types structs t n some (suc count); strides = one_strides structs t n some (suc count); some = some }

      row_long : (count : ℕ) → length (shape (new_row true count one)).types ≡ suc count
      row_long count = ap length (one_types structs t n some (suc count)) ∙ length-replicate (suc count) t

      there : (blocks : List Block) (count : ℕ) → IsEndedPlace structs (shapes (blocks ++ new_row true count one ∷ [])) t (length blocks) 0 false
      there blocks count =
          let x = shape (new_row true count one) in
          let found : slice_get (shapes (blocks ++ new_row true count one ∷ [])) (length blocks) ≡ Some x =
          ap (λ l. slice_get l (length blocks)) (map-append shape blocks (new_row true count one ∷ []))
          ∙ (ap (λ k. slice_get (shapes blocks ++ x ∷ []) k) (sym (length-map blocks shape)) ∙ last_there (shapes blocks) x) in
          let row = row_shape count in
          record { shape = x; found = found; ended = refl; unsealed = refl; cells = suc count; types = row.types; strides = row.strides; some = some; number = 0; is = omega arith; below = omega arith; before_zero = λ inner. absurd (cc) }

pub ended_row_new : (structs : List Structure) (t : CType) (element : List Initial) → IsNewNumber structs t element → IsNewRow structs kinds.Nt t element
ended_row_new structs t element h =
    subst (IsNewRow structs kinds.Nt t) (sym h.cell.is) (ended_new structs t h.number h.cell.number h.cell.some (subst (AllByRecursion (IsInitial structs)) h.cell.is h.initial))
