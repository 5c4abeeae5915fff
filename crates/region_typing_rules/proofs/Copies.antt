-- The cells of a file-level variable: copies of those of one value, with a number each, one behind another.
use Rattle.std.proofs.Common.{◌≡◌, ℕ, zero, suc, ◌+◌, ◌*◌, ◌<◌, ◌^◌, Bool, true, false, ℤ, pos, List, [], ◌∷◌, ◌++◌, length, replicate, Option, Some, None, refl, sym, ap, ◌∙◌, subst, append_assoc, arith, append-nil}
use Rattle.std.specs.Prelude.{◌==◌, ◌-◌, cond, nat_lt, slice_get}
use Rattle.std.specs.List.{AllByRecursion}
use Rattle.std.specs.Option.{option_and_then, option_map}
use Rattle.std.proofs.lemmas.List.{length-append, length-replicate}
use Rattle.std.proofs.lemmas.Option.{same_Some}
use Rattle.act_words.specs.Checks.{is_word_number}
use Rattle.ckc_text.specs.declared.place.Span.{Span}
use Rattle.ckc_tree.specs.declared.stmt.SignedConstant.{SignedConstant}
use Rattle.pointer_modes.specs.Types.{CType, Int, Char, Struct, Pointer, Member, Structure, members_of}
use Rattle.pointer_modes.specs.Layout.{size_of}
use Rattle.ckc_core.specs.Programs.{Initial}
use Rattle.ckc_core.specs.States.{Shape, number_at, type_at, initial_value}
use Rattle.ckc_core.specs.Steps.{low_byte, is_zero}
use Rattle.ckc_names_rules.specs.declared.given.Given.{Given}
use Rattle.ckc_text.specs.declared.code.Code.TheVariants.{E13}
use Rattle.region_typing_rules.specs.Verdicts.{picked}
use Rattle.region_typing_rules.specs.Types.{is_number}
use Rattle.region_typing_rules.specs.Statements.{before_end}
use Rattle.region_typing_rules.specs.Cells.{strides_of, cell_types, numbered_cells, cells_with}
use Rattle.region_typing_rules.specs.Items.{negative, unsigned_number, signed_number, Walked, Missing, Written, Constants, zeros_of, are_zeros, cells_listed, cells_or_break, listed_cells, closed, object_cells, count_of}
use Rattle.bounds_flow_meaning.specs.Rows.{Slot, slots, HasRow}
use Rattle.region_typing_rules.specs.Typed.{IsScalar, AreRows}
use Rattle.region_typing_rules.specs.Lowerable.{cells_size, IsRoomy}
use Rattle.region_typing_rules.proofs.Verdicts.{Promises, passing_promises, needs_promises, anything_promised, both_promise, promised_so, Extends}
use Rattle.region_typing_rules.proofs.Layouts.{IsStart, AreCellsOf, AreSmall, IsWalked, behind_cell, shape_of, scalar_width, bytes_kept, row_kept, strides_whole, cells_row, whole_size, negative_fits, int_of, char_of, zero_cells, written_promises}

-- ---- cells in front of others

-- the cell that begins at a byte is there, whatever stands behind
type_front : (xs ys : List Initial) (byte : ℕ) (t : CType) → type_at (shape_of xs) byte ≡ Some t → type_at (shape_of (xs ++ ys)) byte ≡ Some t
type_front [] ys byte t h = absurd (cc)
type_front (x ∷ xs) ys byte t h =
    by (byte == 0) (nat_lt byte x.stride) (number_at (shape_of xs).strides (byte - x.stride)) (number_at (shape_of (xs ++ ys)).strides (byte - x.stride)) (type_front xs ys (byte - x.stride) t) h
  where
    by : (first inside : Bool) (o p : Option ℕ)
        → (option_and_then (λ n. slice_get (shape_of xs).types n) o ≡ Some t → option_and_then (λ n. slice_get (shape_of (xs ++ ys)).types n) p ≡ Some t)
        → option_and_then (λ n. slice_get (x.type ∷ (shape_of xs).types) n) (cond first (Some 0) (cond inside None (option_map (λ n. suc n) o))) ≡ Some t
        → option_and_then (λ n. slice_get (x.type ∷ (shape_of (xs ++ ys)).types) n) (cond first (Some 0) (cond inside None (option_map (λ n. suc n) p))) ≡ Some t
    by true inside o p again h = h
    by false true o p again h = absurd (cc)
    by false false None p again h = absurd (cc)
    by false false (Some n) None again h = let none = again h in absurd (cc)
    by false false (Some n) (Some k) again h = again h

pub size_append : (xs ys : List Initial) → cells_size (xs ++ ys) ≡ cells_size xs + cells_size ys
size_append [] ys = omega arith
size_append (x ∷ xs) ys = omega (arith, size_append xs ys)

pub row_front : (structs : List Structure) (t : CType) (xs ys : List Initial) (byte : ℕ) → HasRow structs (shape_of xs) byte t → HasRow structs (shape_of (xs ++ ys)) byte t
row_front structs t xs ys byte h = record {
  stands = record { there = h.stands.there; each = λ k slot e. type_front xs ys (byte + slot.offset) slot.type (h.stands.each k slot e); inside = λ k slot e. refl; unsealed = refl };
  room = omega (arith, h.room, strides_whole xs, strides_whole (xs ++ ys), size_append xs ys);
}

-- ---- and behind them

-- behind cells with room the others stand as they do without them
type_behind : (xs ys : List Initial) (byte : ℕ) → AllByRecursion IsRoomy xs → type_at (shape_of (xs ++ ys)) (cells_size xs + byte) ≡ type_at (shape_of ys) byte
type_behind [] ys byte all = let same : 0 + byte ≡ byte = omega arith in ap (type_at (shape_of ys)) same
type_behind (x ∷ xs) ys byte all =
    let room = all.0.room in
    let width = scalar_width x.type in
    let wide : 0 < x.stride = omega arith in
    let same : x.stride + cells_size xs + byte ≡ x.stride + (cells_size xs + byte) = omega arith in
    ap (type_at (shape_of (x ∷ (xs ++ ys)))) same
    ∙ (behind_cell x.type (shape_of (xs ++ ys)).types x.stride (shape_of (xs ++ ys)).strides (cells_size xs + byte) wide ∙ type_behind xs ys byte all.1)

pub row_behind : (structs : List Structure) (t : CType) (xs ys : List Initial) (byte : ℕ) → AllByRecursion IsRoomy xs → HasRow structs (shape_of ys) byte t → HasRow structs (shape_of (xs ++ ys)) (cells_size xs + byte) t
row_behind structs t xs ys byte all h = record {
  stands = record { there = h.stands.there; each = each; inside = λ k slot e. refl; unsealed = refl };
  room = omega (arith, h.room, strides_whole ys, strides_whole (xs ++ ys), size_append xs ys);
}
  where
    each : (k : ℕ) (slot : Slot) → slice_get (slots structs t) k ≡ Some slot → type_at (shape_of (xs ++ ys)) (cells_size xs + byte + slot.offset) ≡ Some slot.type
    each k slot e =
        let same : cells_size xs + byte + slot.offset ≡ cells_size xs + (byte + slot.offset) = omega arith in
        ap (type_at (shape_of (xs ++ ys))) same ∙ (type_behind xs ys (byte + slot.offset) all ∙ h.stands.each k slot e)

-- ---- copies

-- so many times the cells of a value of the type, whatever numbers they hold
pub data Copies (structs : List Structure) (t : CType) : ℕ → List Initial → Type 0 where
  no_copy : Copies structs t 0 []
  one_more : {n : ℕ} {cells others : List Initial} → AreCellsOf structs t cells → Copies structs t n others → Copies structs t (suc n) (cells ++ others)

pub all_beside : (P : Initial → Type 0) (xs ys : List Initial) → AllByRecursion P xs → AllByRecursion P ys → AllByRecursion P (xs ++ ys)
all_beside P [] ys first second = second
all_beside P (x ∷ xs) ys first second = (first.0, all_beside P xs ys first.1 second)

same_length : (a b : ℤ) (ts : List CType) (strides : List ℕ) → length (numbered_cells a ts strides) ≡ length (numbered_cells b ts strides)
same_length a b [] strides = refl
same_length a b (t ∷ ts) [] = refl
same_length a b (t ∷ ts) (stride ∷ strides) = ap suc (same_length a b ts strides)

module _ (structs : List Structure) (t : CType) where
  -- a value of the type has cells
  abbrev HasCells : Type 0
  HasCells = 0 < length (cells_with structs t (pos 0))

  each_some : (number : ℤ) → HasCells → 0 < length (cells_with structs t number)
  each_some number some = omega (arith, same_length number (pos 0) (cell_types structs t) (strides_of structs t))

  pub copies_start : (n : ℕ) (cells : List Initial) → Copies structs t n cells → AllByRecursion IsStart cells
  copies_start n _ no_copy = tt
  copies_start n _ (one_more {cells = cells} {others = others} is more) = all_beside IsStart cells others is.start (copies_start _ others more)

  pub copies_roomy : (n : ℕ) (cells : List Initial) → Copies structs t n cells → AllByRecursion IsRoomy cells
  copies_roomy n _ no_copy = tt
  copies_roomy n _ (one_more {cells = cells} {others = others} is more) = all_beside IsRoomy cells others is.roomy (copies_roomy _ others more)

  -- where there are cells at all, each value has some
  copies_some : (n : ℕ) (cells : List Initial) → Copies structs t n cells → 0 < length cells → HasCells
  copies_some n _ no_copy some = absurd (omega arith)
  copies_some n _ (one_more {cells = cells} {others = others} is more) some = by (length cells) refl (copies_some _ others more)
    where
      by : (m : ℕ) → length cells ≡ m → (0 < length others → HasCells) → HasCells
      by zero e again = again (omega (arith, some, length-append cells others))
      by (suc m) e again = omega (arith, ap length is.same, same_length is.number (pos 0) (cell_types structs t) (strides_of structs t))

  one_size : (cells : List Initial) → AreCellsOf structs t cells → HasCells → cells_size cells ≡ size_of structs t
  one_size cells is some = ap cells_size is.same ∙ whole_size structs t is.number (each_some is.number some)

  one_row : (cells : List Initial) → AreCellsOf structs t cells → HasCells → HasRow structs (shape_of cells) 0 t
  one_row cells is some = subst (λ c. HasRow structs (shape_of c) 0 t) (sym is.same) (cells_row structs t is.number (each_some is.number some))

  size_of_copies : HasCells → (n : ℕ) (cells : List Initial) → Copies structs t n cells → cells_size cells ≡ n * size_of structs t
  size_of_copies some n _ no_copy = omega arith
  size_of_copies some n _ (one_more {n = k} {cells = cells} {others = others} is more) =
      omega (arith, size_append cells others, one_size cells is some, size_of_copies some k others more)

  rows_of_copies : HasCells → (n : ℕ) (cells : List Initial) → Copies structs t n cells → AreRows structs (shape_of cells) t n
  rows_of_copies some n _ no_copy = λ k low. absurd (omega arith)
  rows_of_copies some n _ (one_more {n = m} {cells = cells} {others = others} is more) = row (rows_of_copies some m others more)
    where
      row : AreRows structs (shape_of others) t m → (k : ℕ) → k < suc m → HasRow structs (shape_of (cells ++ others)) (k * size_of structs t) t
      row rest zero low =
          let first : 0 ≡ 0 * size_of structs t = omega arith in
          subst (λ byte. HasRow structs (shape_of (cells ++ others)) byte t) first (row_front structs t cells others 0 (one_row cells is some))
      row rest (suc k) low =
          let size = one_size cells is some in
          let next : cells_size cells + k * size_of structs t ≡ suc k * size_of structs t = omega (arith, size) in
          subst (λ byte. HasRow structs (shape_of (cells ++ others)) byte t) next
          (row_behind structs t cells others (k * size_of structs t) is.roomy (rest k (omega (arith, low))))

  -- as many bytes as the values take, which stand one behind another
  pub copies_size : (n : ℕ) (cells : List Initial) → Copies structs t n cells → 0 < length cells → cells_size cells ≡ n * size_of structs t
  copies_size n cells copies some = size_of_copies (copies_some n cells copies some) n cells copies

  pub copies_rows : (n : ℕ) (cells : List Initial) → Copies structs t n cells → 0 < length cells → AreRows structs (shape_of cells) t n
  copies_rows n cells copies some = rows_of_copies (copies_some n cells copies some) n cells copies

-- rows stay when more structs are declared
pub rows_kept : (a b : List Structure) (s : Shape) (t : CType) (n : ℕ) → Extends a b → AreRows a s t n → AreRows b s t n
rows_kept a b s t n ext rows k low =
    let row = rows k low in
    subst (λ size. HasRow b s (k * size) t) (bytes_kept a b t ext row.stands.there) (row_kept a b s (k * size_of a t) t ext row)

-- ---- the cells of variables

module _ (structs : List Structure) (scalars : (n : ℕ) → AllByRecursion (λ (m : Member). IsScalar m.ctype) (members_of structs n)) where
  zeros_copies : (t : CType) (n : ℕ) → Copies structs t n (zeros_of n structs t)
  zeros_copies t zero = no_copy
  zeros_copies t (suc n) = one_more (zero_cells structs t scalars) (zeros_copies t n)

  -- each constant of a list makes the cells of a value
  abbrev AreListed : CType → (ℤ → ℤ) → List SignedConstant → Type 0
  AreListed t kept cs = AllByRecursion (λ (c : SignedConstant). AreCellsOf structs t (cells_with structs t (kept (signed_number c)))) cs

  listed_copies : (t : CType) (kept : ℤ → ℤ) (n : ℕ) (cs : List SignedConstant) (span : Span) → AreListed t kept cs → Promises (Copies structs t n) (cells_or_break (cells_listed structs t kept n cs) span)
  listed_copies t kept n [] span all = zeros_copies t n
  listed_copies t kept zero (c ∷ cs) span all = tt
  listed_copies t kept (suc n) (c ∷ cs) span all = by (cells_listed structs t kept n cs) (listed_copies t kept n cs span all.1)
    where
      by : (o : Option (List Initial)) → Promises (Copies structs t n) (cells_or_break o span) → Promises (Copies structs t (suc n)) (cells_or_break (option_map (λ cells. cells_with structs t (kept (signed_number c)) ++ cells) o) span)
      by None h = tt
      by (Some cells) h = one_more all.0 h

  signed_fits : (c : SignedConstant) → nat_lt (unsigned_number c.constant) (2 ^ 31) ≡ true → is_word_number (signed_number c) ≡ true
  signed_fits c low = by c.negative
    where
      by : (test : Bool) → is_word_number (picked test (negative (unsigned_number c.constant)) (pos (unsigned_number c.constant))) ≡ true
      by true = negative_fits (unsigned_number c.constant) low
      by false = low

  ints_listed : (cs : List SignedConstant) → AreSmall cs → AreListed Int (λ z. z) cs
  ints_listed [] h = tt
  ints_listed (c ∷ cs) h = (int_of structs (signed_number c) (signed_fits c h.0), ints_listed cs h.1)

  chars_listed : (cs : List SignedConstant) → AreListed Char low_byte cs
  chars_listed [] = tt
  chars_listed (c ∷ cs) = (char_of structs (signed_number c), chars_listed cs)

  nulls_listed : (t : CType) (cs : List SignedConstant) → AreListed t (λ z. pos 0) cs
  nulls_listed t [] = tt
  nulls_listed t (c ∷ cs) = (zero_cells structs t scalars, nulls_listed t cs)

  one_copy : (t : CType) (cells : List Initial) → AreCellsOf structs t cells → Copies structs t 1 cells
  one_copy t cells is = subst (Copies structs t 1) (append-nil cells) (one_more is no_copy)

  list_promises : (t : CType) (n : ℕ) (cs : List SignedConstant) (span : Span) → AreSmall cs → Promises (Copies structs t n) (listed_cells structs t n cs span)
  list_promises Int n cs span h = listed_copies Int (λ z. z) n cs span (ints_listed cs h)
  list_promises Char n cs span h = listed_copies Char low_byte n cs span (chars_listed cs)
  list_promises (Struct k) n cs span h = tt
  list_promises (Pointer m k t) n cs span h =
      needs_promises (Copies structs (Pointer m k t) n) (are_zeros cs) E13 span _ (λ zeros. listed_copies (Pointer m k t) (λ z. pos 0) n cs span (nulls_listed (Pointer m k t) cs))

  -- the zero that ends an array is one of its elements
  one_behind : (t : CType) (n : ℕ) (cells : List Initial) → Copies structs t n cells → Copies structs t (suc n) (cells ++ zeros_of 1 structs t)
  one_behind t n _ no_copy = zeros_copies t 1
  one_behind t n _ (one_more {n = k} {cells = cells} {others = others} is more) = rw append_assoc (one_more is (one_behind t k others more))

  closed_copies : (ended : Bool) (t : CType) (n : ℕ) (cells : List Initial) → 0 < n → Copies structs t (before_end ended n) cells → Copies structs t n (closed ended structs t cells)
  closed_copies false t n cells some h = h
  closed_copies true t n cells some h =
      let whole : suc (n - 1) ≡ n = omega arith in
      subst (λ k. Copies structs t k (cells ++ zeros_of 1 structs t)) whole (one_behind t (n - 1) cells h)

  pub object_promises : (given : Given) (t : CType) (length : Option ℕ) (ended : Bool) (x : Walked) (span : Span) → 0 < count_of length → IsWalked x → Promises (Copies structs t (count_of length)) (object_cells given structs t length ended x span)
  object_promises given t None ended Missing span some h = one_copy t (cells_with structs t (pos 0)) (zero_cells structs t scalars)
  object_promises given t None ended (Written value x) span some h =
      promised_so (AreCellsOf structs t) (Copies structs t 1) _ (written_promises given structs t value x span (h given)) (λ cells is. one_copy t cells is)
  object_promises given t None ended (Constants cs) span some h = tt
  object_promises given t (Some n) ended Missing span some h = zeros_copies t n
  object_promises given t (Some n) ended (Written value x) span some h = tt
  object_promises given t (Some n) ended (Constants cs) span some h =
      passing_promises (Copies structs t (before_end ended n)) (Copies structs t n) (listed_cells structs t (before_end ended n) cs span) _ (list_promises t (before_end ended n) cs span h) (λ cells copies. closed_copies ended t n cells some copies)

-- ---- the cells of arrays that a zero ends

-- the last of these cells begins as 0
abbrev pub LastIsZero : List Initial → Type 0
LastIsZero cells = (k : ℕ) (i : Initial) → slice_get cells k ≡ Some i → suc k ≡ length cells → is_zero (initial_value i.type i.number) ≡ true

-- so many numbers, a cell each, of which the last one is the zero
pub record AreEnded (structs : List Structure) (t : CType) (n : ℕ) (cells : List Initial) : Type 0 where
  pub number : is_number t ≡ true
  pub types : (shape_of cells).types ≡ replicate n t
  pub strides : (shape_of cells).strides ≡ replicate n (size_of structs t)
  pub last : LastIsZero cells

-- they stay so when more structs are declared
pub ended_kept : (a b : List Structure) (t : CType) (n : ℕ) (cells : List Initial) → AreEnded a t n cells → AreEnded b t n cells
ended_kept a b t n cells h = record { number = h.number; types = h.types; strides = subst (λ size. (shape_of cells).strides ≡ replicate n size) (same t h.number) h.strides; last = h.last }
  where
    same : (t : CType) → is_number t ≡ true → size_of a t ≡ size_of b t
    same Int h = refl
    same Char h = refl
    same (Struct k) h = absurd (cc)
    same (Pointer m k t) h = absurd (cc)

types_long : (cells : List Initial) → length (shape_of cells).types ≡ length cells
types_long [] = refl
types_long (i ∷ cells) = ap suc (types_long cells)

pub ended_long : (structs : List Structure) (t : CType) (n : ℕ) (cells : List Initial) → AreEnded structs t n cells → length cells ≡ n
ended_long structs t n cells h = sym (types_long cells) ∙ (ap length h.types ∙ length-replicate n t)

module _ (structs : List Structure) where
  -- a number has one cell
  one_type : (t : CType) → is_number t ≡ true → (z : ℤ) (others : List Initial) → (shape_of (cells_with structs t z ++ others)).types ≡ t ∷ (shape_of others).types
  one_type Int h z others = refl
  one_type Char h z others = refl
  one_type (Struct k) h z others = absurd (cc)
  one_type (Pointer m k t) h z others = absurd (cc)

  one_stride : (t : CType) → is_number t ≡ true → (z : ℤ) (others : List Initial) → (shape_of (cells_with structs t z ++ others)).strides ≡ size_of structs t ∷ (shape_of others).strides
  one_stride Int h z others = refl
  one_stride Char h z others = refl
  one_stride (Struct k) h z others = absurd (cc)
  one_stride (Pointer m k t) h z others = absurd (cc)

  pub number_types : (t : CType) → is_number t ≡ true → (n : ℕ) (cells : List Initial) → Copies structs t n cells → (shape_of cells).types ≡ replicate n t
  number_types t number n _ no_copy = refl
  number_types t number n _ (one_more {n = k} {cells = cells} {others = others} is more) =
      ap (λ c. (shape_of (c ++ others)).types) is.same ∙ (one_type t number is.number others ∙ ap (λ ts. t ∷ ts) (number_types t number k others more))

  pub number_strides : (t : CType) → is_number t ≡ true → (n : ℕ) (cells : List Initial) → Copies structs t n cells → (shape_of cells).strides ≡ replicate n (size_of structs t)
  number_strides t number n _ no_copy = refl
  number_strides t number n _ (one_more {n = k} {cells = cells} {others = others} is more) =
      ap (λ c. (shape_of (c ++ others)).strides) is.same ∙ (one_stride t number is.number others ∙ ap (λ ss. size_of structs t ∷ ss) (number_strides t number k others more))

  -- each of zeros is one
  zero_cell : (t : CType) → is_number t ≡ true → (n k : ℕ) (i : Initial) → slice_get (zeros_of n structs t) k ≡ Some i → is_zero (initial_value i.type i.number) ≡ true
  zero_cell t h zero k i found = absurd (cc)
  zero_cell Int h (suc n) zero i found = subst (λ (i : Initial). is_zero (initial_value i.type i.number) ≡ true) (same_Some (record { type = Int; stride = 4; number = pos 0 }) i found) refl
  zero_cell Int h (suc n) (suc k) i found = zero_cell Int h n k i found
  zero_cell Char h (suc n) zero i found = subst (λ (i : Initial). is_zero (initial_value i.type i.number) ≡ true) (same_Some (record { type = Char; stride = 1; number = pos 0 }) i found) refl
  zero_cell Char h (suc n) (suc k) i found = zero_cell Char h n k i found
  zero_cell (Struct m) h (suc n) k i found = absurd (cc)
  zero_cell (Pointer m kind t) h (suc n) k i found = absurd (cc)

  one_long : (t : CType) → is_number t ≡ true → length (zeros_of 1 structs t) ≡ 1
  one_long Int h = refl
  one_long Char h = refl
  one_long (Struct k) h = absurd (cc)
  one_long (Pointer m k t) h = absurd (cc)

  -- and so is the one behind the elements of a list
  zero_behind : (t : CType) → is_number t ≡ true → (cells : List Initial) → LastIsZero (cells ++ zeros_of 1 structs t)
  zero_behind t number [] k i found last = zero_cell t number 1 k i found
  zero_behind t number (c ∷ cells) zero i found last = absurd (omega (arith, last, length-append cells (zeros_of 1 structs t), one_long t number))
  zero_behind t number (c ∷ cells) (suc k) i found last = zero_behind t number cells k i found (omega (arith, last))

  last_promises : (given : Given) (t : CType) (n : ℕ) (x : Walked) (span : Span) → is_number t ≡ true → Promises LastIsZero (object_cells given structs t (Some n) true x span)
  last_promises given t n Missing span number = λ k i found last. zero_cell t number n k i found
  last_promises given t n (Written value x) span number = tt
  last_promises given t n (Constants cs) span number =
      passing_promises (λ (cells : List Initial). Unit {0}) LastIsZero (listed_cells structs t (before_end true n) cs span) _ (anything_promised (listed_cells structs t (before_end true n) cs span)) (λ cells _. zero_behind t number cells)

  pub ended_promises : ((n : ℕ) → AllByRecursion (λ (m : Member). IsScalar m.ctype) (members_of structs n)) → (given : Given) (t : CType) (n : ℕ) (x : Walked) (span : Span) → is_number t ≡ true → 0 < n → IsWalked x
      → Promises (AreEnded structs t n) (object_cells given structs t (Some n) true x span)
  ended_promises scalars given t n x span number some h =
      promised_so (λ (cells : List Initial). Copies structs t n cells × LastIsZero cells) (AreEnded structs t n) (object_cells given structs t (Some n) true x span)
      (both_promise (Copies structs t n) LastIsZero (object_cells given structs t (Some n) true x span) (object_promises structs scalars given t (Some n) true x span some h) (last_promises given t n x span number))
      (λ cells both. record { number = number; types = number_types t number n cells both.0; strides = number_strides t number n cells both.0; last = both.1 })
