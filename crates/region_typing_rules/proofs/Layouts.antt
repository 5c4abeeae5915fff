-- The cells of a file-level variable stand as the slots of its type.
use Rattle.std.proofs.Common.{◌≡◌, ℕ, zero, suc, ◌+◌, ◌-◌, ◌<◌, ◌≤◌, ◌^◌, ◌%◌, Bool, true, false, ℤ, pos, List, [], ◌∷◌, map, length, Option, Some, None, refl, sym, ap, ◌∙◌, subst, ◌⊎◌, inl, inr, ⊎_elim, arith}
use Rattle.std.specs.Prelude.{◌==◌, nat_lt, slice_get, sum}
use Rattle.std.specs.List.{AllByRecursion}
use Rattle.std.specs.Option.{option_and_then, option_map}
use Rattle.std.proofs.lemmas.Bool.Decides.{nat_tests}
use Rattle.std.proofs.lemmas.List.Sums.{sum_by-cons}
use Rattle.act_words.specs.Checks.{is_word_number}
use Rattle.act_words.specs.Numbers.{word}
use Rattle.ckc_text.specs.declared.place.Span.{Span}
use Rattle.ckc_text.specs.declared.code.Code.TheVariants.{E04, E13}
use Rattle.ckc_tree.specs.declared.expr.UnaryOperator.TheVariants as unary
use Rattle.ckc_tree.specs.Expressions as e
use Rattle.ckc_tree.specs.Expressions.{Expression}
use Rattle.pointer_modes.specs.Types.{CType, Int, Char, Struct, Pointer, Member, Structure, members_of}
use Rattle.pointer_modes.specs.Layout.{placed_from, member_sizes, size_of, aligned_up, scalar_size, end_from, largest_of}
use Rattle.ckc_core.specs.Programs.{Initial, open_variable}
use Rattle.ckc_core.specs.States.{Shape, number_at, shape, type_at, initial_value, object_block}
use Rattle.ckc_core.specs.States as states
use Rattle.ckc_core.specs.Steps.{low_byte}
use Rattle.ckc_names_rules.specs.declared.given.Given.{Given}
use Rattle.region_typing_rules.specs.Verdicts.{passing}
use Rattle.region_typing_rules.specs.Scopes.{Scope}
use Rattle.region_typing_rules.specs.Operands.{Places, Typed, offset_among, unary_typed, site_at}
use Rattle.region_typing_rules.specs.Expressions.{typed, constant_typed}
use Rattle.ckc_tree.specs.declared.stmt.SignedConstant.{SignedConstant}
use Rattle.region_typing_rules.specs.Cells.{strides_from, strides_of, cell_types, numbered_cells, cells_with}
use Rattle.region_typing_rules.specs.Items.{negative, null_number, unsigned_constant, negated_of, positive_of, signed_constant, Walked, Missing, Written, Constants, unsigned_number, is_zero, number_or_break, written_cells}
use Rattle.bounds_flow_meaning.specs.Rows.{Slot, slots_from, slots, Stands, HasRow}
use Rattle.region_typing_rules.specs.Typed.{HasValue, IsScalar, IsInitial}
use Rattle.region_typing_rules.specs.Lowerable.{cells_size, IsRoomy}
use Rattle.ckc_core.proofs.Numbers.{low_byte_small}
use Rattle.region_typing_rules.proofs.Values.{value_typed, scalar_stands}
use Rattle.region_typing_rules.proofs.Verdicts.{Promises, passing_promises, needs_promises, anything_promised, always_promised, Extends}

-- a cell before the run holds a value of its type, in every program
abbrev pub IsStart : Initial → Type 0
IsStart i = (structs : List Structure) → IsInitial structs i

-- ---- members

-- a struct that is known has the same members later, and one that isn't has none
pub earlier_members : (P : List Member → Type 0) → P [] → (a b : List Structure) → Extends a b → ((n : ℕ) → P (members_of b n)) → (n : ℕ) → P (members_of a n)
earlier_members P none a b ext h n = by (slice_get a n) refl
  where
    by : (o : Option Structure) → slice_get a n ≡ o → P (members_of a n)
    by None e = rw e none
    by (Some x) e = let e' = ext n x e in let there : P (members_of b n) = h n in rw e (rw e' at there)

slots_kept : (a b : List Structure) (t : CType) → Extends a b → 0 < length (slots a t) → slots a t ≡ slots b t
slots_kept a b Int ext h = refl
slots_kept a b Char ext h = refl
slots_kept a b (Pointer m k t) ext h = refl
slots_kept a b (Struct n) ext h = by (slice_get a n) refl
  where
    by : (o : Option Structure) → slice_get a n ≡ o → slots a (Struct n) ≡ slots b (Struct n)
    by None e = let none = rw e at h in absurd (omega arith)
    by (Some x) e = let e' = ext n x e in rw (e, e') refl

-- a type of which something stands somewhere takes as many bytes when more structs are declared
pub bytes_kept : (a b : List Structure) (t : CType) → Extends a b → 0 < length (slots a t) → size_of a t ≡ size_of b t
bytes_kept a b Int ext some = refl
bytes_kept a b Char ext some = refl
bytes_kept a b (Pointer m k t) ext some = refl
bytes_kept a b (Struct n) ext some = by (slice_get a n) refl
  where
    by : (o : Option Structure) → slice_get a n ≡ o → size_of a (Struct n) ≡ size_of b (Struct n)
    by None e = let none = rw e at some in absurd (omega arith)
    by (Some x) e = let e' = ext n x e in rw (e, e') refl

-- and stands there
pub row_kept : (a b : List Structure) (s : Shape) (byte : ℕ) (t : CType) → Extends a b → HasRow a s byte t → HasRow b s byte t
row_kept a b s byte t ext h = record {
  stands = subst (λ row. Stands s byte row) (slots_kept a b t ext h.stands.there) h.stands;
  room = subst (λ n. byte + n ≤ sum s.strides) (bytes_kept a b t ext h.stands.there) h.room;
}

-- ---- places

-- cells stand behind one another
aligned_least : (t : CType) (n : ℕ) → n ≤ aligned_up (scalar_size t) n
aligned_least Int n = omega arith
aligned_least Char n = omega arith
aligned_least (Struct k) n = omega arith
aligned_least (Pointer m k t) n = omega arith

first_at_zero : (t : CType) → aligned_up (scalar_size t) 0 ≡ 0
first_at_zero Int = refl
first_at_zero Char = refl
first_at_zero (Struct n) = refl
first_at_zero (Pointer m k t) = refl

-- a size or an alignment is 1 or 4
pub scalar_width : (t : CType) → (scalar_size t ≡ 1) ⊎ (scalar_size t ≡ 4)
scalar_width Int = inr refl
scalar_width Char = inl refl
scalar_width (Struct n) = inr refl
scalar_width (Pointer m k t) = inr refl

-- the shape of a block that no zero ends, and that pointers may lead to
abbrev pub open_shape : List CType → List ℕ → Shape
open_shape types strides = record { types = types; strides = strides; zero_ended = false; is_sealed = false }

-- that of a variable with these cells
abbrev pub shape_of : List Initial → Shape
shape_of cells = shape (object_block (open_variable cells))

-- behind a cell that takes bytes the others stand as they do without it
pub behind_cell : (t : CType) (types : List CType) (stride : ℕ) (strides : List ℕ) (byte : ℕ) → 0 < stride → type_at (open_shape (t ∷ types) (stride ∷ strides)) (stride + byte) ≡ type_at (open_shape types strides) byte
behind_cell t types stride strides byte wide =
    let not_first : (stride + byte == 0) ≡ false = grind (arith, nat_tests) in
    let not_inside : nat_lt (stride + byte) stride ≡ false = grind (arith, nat_tests) in
    let rest : stride + byte - stride ≡ byte = omega arith in
    rw (not_first, not_inside, rest) (by (number_at strides byte))
  where
    by : (o : Option ℕ) → option_and_then (λ number. slice_get (t ∷ types) number) (option_map (λ number. suc number) o) ≡ option_and_then (λ number. slice_get types number) o
    by None = refl
    by (Some number) = refl

abbrev types_of : List Member → List CType
types_of members = map (λ (m : Member). m.ctype) members

-- the cells of members from a place on
abbrev cells_from : ℤ → ℕ → List Member → ℕ → List Initial
cells_from number place members end = numbered_cells number (types_of members) (strides_from (placed_from place (member_sizes members)) end)

-- the byte of a slot's cell, from the first cell on
record HasSlot (cells : List Initial) (first : ℕ) (slot : Slot) : Type 0 where
  byte : ℕ
  typed : type_at (shape_of cells) byte ≡ Some slot.type
  place : byte + first ≡ slot.offset

slot_stands : (number : ℤ) (members : List Member) (place end k : ℕ) (slot : Slot) → slice_get (slots_from members (placed_from place (member_sizes members))) k ≡ Some slot → HasSlot (cells_from number place members end) (offset_among (placed_from place (member_sizes members)) 0) slot
slot_stands number [] place end k slot h = absurd (cc)
slot_stands number (m ∷ []) place end zero slot h =
    let it : record { type = m.ctype; offset = aligned_up (scalar_size m.ctype) place } ≡ slot = cc in
    let offset = ap (λ (x : Slot). x.offset) it in
    record { byte = 0; typed = ap (λ (x : Slot). Some x.type) it; place = omega arith }
slot_stands number (m ∷ []) place end (suc k) slot h = absurd (cc)
slot_stands number (m ∷ next ∷ members) place end zero slot h =
    let it : record { type = m.ctype; offset = aligned_up (scalar_size m.ctype) place } ≡ slot = cc in
    let offset = ap (λ (x : Slot). x.offset) it in
    record { byte = 0; typed = ap (λ (x : Slot). Some x.type) it; place = omega arith }
slot_stands number (m ∷ next ∷ members) place end (suc k) slot h =
    let o = aligned_up (scalar_size m.ctype) place in
    let stride = aligned_up (scalar_size next.ctype) (o + scalar_size m.ctype) - o in
    let rest = slot_stands number (next ∷ members) (o + scalar_size m.ctype) end k slot h in
    let below = aligned_least next.ctype (o + scalar_size m.ctype) in
    let width = scalar_width m.ctype in
    let wide : 0 < stride = omega arith in
    let there = rest.place in
    record { byte = stride + rest.byte; typed = behind_cell m.ctype _ stride _ rest.byte wide ∙ rest.typed; place = omega arith }

members_stand : (members : List Member) (number : ℤ) (end : ℕ) → 0 < length (cells_from number 0 members end) → Stands (shape_of (cells_from number 0 members end)) 0 (slots_from members (placed_from 0 (member_sizes members)))
members_stand [] number end some = absurd (omega arith)
members_stand (m ∷ members) number end some = record { there = omega arith; each = each; inside = λ k slot e. refl; unsealed = refl }
  where
    each : (k : ℕ) (slot : Slot) → slice_get (slots_from (m ∷ members) (placed_from 0 (member_sizes (m ∷ members)))) k ≡ Some slot → type_at (shape_of (cells_from number 0 (m ∷ members) end)) (0 + slot.offset) ≡ Some slot.type
    each k slot h =
        let here = slot_stands number (m ∷ members) 0 end k slot h in
        let zeroth = first_at_zero m.ctype in
        let place = here.place in
        let at : here.byte ≡ 0 + slot.offset = omega arith in
        subst (λ b. type_at (shape_of (cells_from number 0 (m ∷ members) end)) b ≡ Some slot.type) at here.typed

-- the cells of a variable, where there are some
cells_stand : (structs : List Structure) (t : CType) (number : ℤ) → 0 < length (cells_with structs t number) → Stands (shape_of (cells_with structs t number)) 0 (slots structs t)
cells_stand structs Int number some = scalar_stands structs (shape_of (cells_with structs Int number)) 0 Int refl refl refl refl
cells_stand structs Char number some = scalar_stands structs (shape_of (cells_with structs Char number)) 0 Char refl refl refl refl
cells_stand structs (Pointer m k t) number some = scalar_stands structs (shape_of (cells_with structs (Pointer m k t) number)) 0 (Pointer m k t) refl refl refl refl
cells_stand structs (Struct n) number some = members_stand (members_of structs n) number (size_of structs (Struct n)) some

-- ---- values before the run

-- cells of these types with this number
numbered_start : (number : ℤ) (ts : List CType) (strides : List ℕ) → AllByRecursion (λ (t : CType). (structs : List Structure) → HasValue structs [] t (initial_value t number)) ts → AllByRecursion IsStart (numbered_cells number ts strides)
numbered_start number [] strides all = tt
numbered_start number (t ∷ ts) [] all = tt
numbered_start number (t ∷ ts) (stride ∷ strides) all = (all.0, numbered_start number ts strides all.1)

zero_start : (t : CType) → IsScalar t → (structs : List Structure) → HasValue structs [] t (initial_value t (pos 0))
zero_start Int h structs = refl
zero_start Char h structs = refl
zero_start (Struct n) h structs = absurd (cc)
zero_start (Pointer m k t) h structs = tt

zeros_start : (members : List Member) → AllByRecursion (λ (m : Member). IsScalar m.ctype) members → AllByRecursion (λ (t : CType). (structs : List Structure) → HasValue structs [] t (initial_value t (pos 0))) (types_of members)
zeros_start [] all = tt
zeros_start (m ∷ members) all = (zero_start m.ctype all.0, zeros_start members all.1)

-- ---- room

largest_width : (members : List Member) → (largest_of (member_sizes members) ≡ 1) ⊎ (largest_of (member_sizes members) ≡ 4)
largest_width [] = inl refl
largest_width (m ∷ members) =
    ⊎_elim (λ one. ⊎_elim (λ a. inl (omega arith)) (λ b. inr (omega arith)) (largest_width members)) (λ four. inr (⊎_elim (λ a. omega arith) (λ b. omega arith) (largest_width members))) (scalar_width m.ctype)

aligned_wide : (a n : ℕ) → (a ≡ 1) ⊎ (a ≡ 4) → n ≤ aligned_up a n
aligned_wide a n = ⊎_elim
    (λ one. let wide : n ≤ aligned_up 1 n = omega arith in subst (λ b. n ≤ aligned_up b n) (sym one) wide)
    (λ four. let wide : n ≤ aligned_up 4 n = omega arith in subst (λ b. n ≤ aligned_up b n) (sym four) wide)

struct_wide : (members : List Member) → end_from 0 (member_sizes members) ≤ aligned_up (largest_of (member_sizes members)) (end_from 0 (member_sizes members))
struct_wide members = aligned_wide (largest_of (member_sizes members)) (end_from 0 (member_sizes members)) (largest_width members)

-- the end lies behind each cell
end_least : (place : ℕ) (members : List Member) → place ≤ end_from place (member_sizes members)
end_least place [] = omega arith
end_least place (m ∷ members) = omega (arith, aligned_least m.ctype place, end_least (aligned_up (scalar_size m.ctype) place + scalar_size m.ctype) members)

abbrev HasRoom : Initial → Type 0
HasRoom i = scalar_size i.type ≤ i.stride

cells_roomy : (number : ℤ) (members : List Member) (place end : ℕ) → end_from place (member_sizes members) ≤ end → AllByRecursion HasRoom (cells_from number place members end)
cells_roomy number [] place end h = tt
cells_roomy number (m ∷ []) place end h = (omega arith, tt)
cells_roomy number (m ∷ next ∷ members) place end h =
    let o = aligned_up (scalar_size m.ctype) place in
    let below = aligned_least next.ctype (o + scalar_size m.ctype) in
    (omega arith, cells_roomy number (next ∷ members) (o + scalar_size m.ctype) end h)

-- the cells of a variable take all of its bytes
cells_whole : (number : ℤ) (m : Member) (members : List Member) (place end : ℕ) → end_from place (member_sizes (m ∷ members)) ≤ end → cells_size (cells_from number place (m ∷ members) end) + aligned_up (scalar_size m.ctype) place ≡ end
cells_whole number m [] place end h = omega arith
cells_whole number m (next ∷ members) place end h =
    let o = aligned_up (scalar_size m.ctype) place in
    let below = aligned_least next.ctype (o + scalar_size m.ctype) in
    let rest = cells_whole number next members (o + scalar_size m.ctype) end h in
    let least = end_least (o + scalar_size m.ctype) (next ∷ members) in
    omega arith

members_size : (number : ℤ) (members : List Member) (end : ℕ) → end_from 0 (member_sizes members) ≤ end → 0 < length (cells_from number 0 members end) → cells_size (cells_from number 0 members end) ≡ end
members_size number [] end h some = absurd (omega arith)
members_size number (m ∷ members) end h some = omega (arith, cells_whole number m members 0 end h, first_at_zero m.ctype)

pub whole_size : (structs : List Structure) (t : CType) (number : ℤ) → 0 < length (cells_with structs t number) → cells_size (cells_with structs t number) ≡ size_of structs t
whole_size structs Int number some = refl
whole_size structs Char number some = refl
whole_size structs (Pointer m k t) number some = refl
whole_size structs (Struct n) number some = members_size number (members_of structs n) (size_of structs (Struct n)) (struct_wide (members_of structs n)) some

-- they stand in their own room
pub strides_whole : (cells : List Initial) → sum (shape_of cells).strides ≡ cells_size cells
strides_whole [] = refl
strides_whole (i ∷ cells) = sum_by-cons (λ (n : ℕ). n) i.stride (shape_of cells).strides ∙ ap (λ n. i.stride + n) (strides_whole cells)

pub cells_row : (structs : List Structure) (t : CType) (number : ℤ) → 0 < length (cells_with structs t number) → HasRow structs (shape_of (cells_with structs t number)) 0 t
cells_row structs t number some = record { stands = cells_stand structs t number some; room = omega (arith, strides_whole (cells_with structs t number), whole_size structs t number some) }

all_roomy : (structs : List Structure) (t : CType) (number : ℤ) → AllByRecursion HasRoom (cells_with structs t number)
all_roomy structs Int number = (omega arith, tt)
all_roomy structs Char number = (omega arith, tt)
all_roomy structs (Pointer m k t) number = (omega arith, tt)
all_roomy structs (Struct n) number = cells_roomy number (members_of structs n) 0 (size_of structs (Struct n)) (struct_wide (members_of structs n))

-- cells with one number, which has 32 bits, and is 0 where the cell is null
roomy_start : (number : ℤ) (ts : List CType) (strides : List ℕ) → is_word_number number ≡ true → AllByRecursion (λ (t : CType). initial_value t number ≡ states.Null → number ≡ pos 0) ts → AllByRecursion HasRoom (numbered_cells number ts strides) → AllByRecursion IsStart (numbered_cells number ts strides) → AllByRecursion IsRoomy (numbered_cells number ts strides)
roomy_start number [] strides word null rooms start = tt
roomy_start number (t ∷ ts) [] word null rooms start = tt
roomy_start number (t ∷ ts) (stride ∷ strides) word null rooms start = (
  record { room = rooms.0; typed = value_typed [] [] t (initial_value t number) (start.0 []); word = word; null = null.0 },
  roomy_start number ts strides word null.1 rooms.1 start.1,
)

zero_null : (ts : List CType) → AllByRecursion (λ (t : CType). initial_value t (pos 0) ≡ states.Null → pos 0 ≡ pos 0) ts
zero_null [] = tt
zero_null (t ∷ ts) = ((λ h. refl), zero_null ts)

-- the cells of a variable that are written down
pub record AreCellsOf (structs : List Structure) (t : CType) (cells : List Initial) : Type 0 where
  pub number : ℤ
  pub same : cells ≡ cells_with structs t number
  pub start : AllByRecursion IsStart cells
  pub roomy : AllByRecursion IsRoomy cells

-- cells with a number of 32 bits that each of their types has
pub cells_of_number : (structs : List Structure) (t : CType) (number : ℤ) → is_word_number number ≡ true → AllByRecursion (λ (u : CType). initial_value u number ≡ states.Null → number ≡ pos 0) (cell_types structs t) → AllByRecursion (λ (u : CType). (structs : List Structure) → HasValue structs [] u (initial_value u number)) (cell_types structs t) → AreCellsOf structs t (cells_with structs t number)
cells_of_number structs t number word null values =
    let start = numbered_start number (cell_types structs t) (strides_of structs t) values in
    record { number = number; same = refl; start = start; roomy = roomy_start number (cell_types structs t) (strides_of structs t) word null (all_roomy structs t number) start }

pub zero_cells : (structs : List Structure) (t : CType) → ((n : ℕ) → AllByRecursion (λ (m : Member). IsScalar m.ctype) (members_of structs n)) → AreCellsOf structs t (cells_with structs t (pos 0))
zero_cells structs Int all = cells_of_number structs Int (pos 0) refl (zero_null (Int ∷ [])) (zero_start Int refl, tt)
zero_cells structs Char all = cells_of_number structs Char (pos 0) refl (zero_null (Char ∷ [])) (zero_start Char refl, tt)
zero_cells structs (Pointer m k t) all = cells_of_number structs (Pointer m k t) (pos 0) refl (zero_null (Pointer m k t ∷ [])) (zero_start (Pointer m k t) refl, tt)
zero_cells structs (Struct n) all = cells_of_number structs (Struct n) (pos 0) refl (zero_null (types_of (members_of structs n))) (zeros_start (members_of structs n) (all n))

-- a number that is written down has 32 bits
abbrev pub ConstantFits : Option ℤ → Type 0
ConstantFits None = Unit {0}
ConstantFits (Some z) = is_word_number z ≡ true

-- each number of a list is one of 31 bits
abbrev pub AreSmall : List SignedConstant → Type 0
AreSmall [] = Unit {0}
AreSmall (c ∷ cs) = (nat_lt (unsigned_number c.constant) (2 ^ 31) ≡ true) × AreSmall cs

-- what is known of an initial value that was walked
abbrev pub IsWalked : Walked → Type 0
IsWalked Missing = Unit {0}
IsWalked (Written value t) = (given : Given) → ConstantFits (signed_constant given value)
IsWalked (Constants cs) = AreSmall cs

pub negative_fits : (n : ℕ) → nat_lt n (2 ^ 31) ≡ true → is_word_number (negative n) ≡ true
negative_fits zero h = refl
negative_fits (suc n) h = grind (arith, nat_tests)

pub int_of : (structs : List Structure) (z : ℤ) → is_word_number z ≡ true → AreCellsOf structs Int (cells_with structs Int z)
int_of structs z h = cells_of_number structs Int z h ((λ null. absurd (cc)), tt) ((λ structs. h), tt)

pub char_of : (structs : List Structure) (z : ℤ) → AreCellsOf structs Char (cells_with structs Char (low_byte z))
char_of structs z =
    let small = low_byte_small z in
    let test : nat_lt (word z % 256) 256 ≡ true = grind (arith, nat_tests) in
    let word : is_word_number (low_byte z) ≡ true = grind (arith, nat_tests) in
    cells_of_number structs Char (low_byte z) word ((λ null. absurd (cc)), tt) ((λ structs. test), tt)

int_cells : (structs : List Structure) (o : Option ℤ) (span : Span) → ConstantFits o → Promises (AreCellsOf structs Int) (number_or_break o span (cells_with structs Int))
int_cells structs None span h = tt
int_cells structs (Some z) span h = int_of structs z h

char_cells : (structs : List Structure) (o : Option ℤ) (span : Span) → Promises (AreCellsOf structs Char) (number_or_break o span (λ n. cells_with structs Char (low_byte n)))
char_cells structs None span = tt
char_cells structs (Some z) span = char_of structs z

pub written_promises : (given : Given) (structs : List Structure) (t : CType) (value : Expression) (x : Typed) (span : Span) → ConstantFits (signed_constant given value) → Promises (AreCellsOf structs t) (written_cells given structs t value x span)
written_promises given structs Int value x span h = int_cells structs (signed_constant given value) span h
written_promises given structs Char value x span h = char_cells structs (signed_constant given value) span
written_promises given structs (Struct n) value x span h = tt
written_promises given structs (Pointer m k t) value x span h =
    needs_promises (AreCellsOf structs (Pointer m k t)) (is_zero x) E13 span _ (λ yes. cells_of_number structs (Pointer m k t) (pos 0) refl (zero_null (Pointer m k t ∷ [])) (zero_start (Pointer m k t) refl, tt))

-- constants of which no rule is broken
module _ (given : Given) (at : Places) (s : Scope) where
  number_fits : (value : ℕ) (zero_value : Bool) (span : Span) → Promises (λ (t : Typed). nat_lt value (2 ^ 31) ≡ true) (constant_typed value zero_value span)
  number_fits value zero_value span = needs_promises (λ (t : Typed). nat_lt value (2 ^ 31) ≡ true) (nat_lt value (2 ^ 31)) E04 span _ (λ low. low)

  negated_null : (test : Bool) → ConstantFits (negated_of (null_number test))
  negated_null true = refl
  negated_null false = tt

  positive_null : (test : Bool) → ConstantFits (positive_of (null_number test))
  positive_null true = refl
  positive_null false = tt

  negated_promises : (x : Expression) → Promises (λ (t : Typed). ConstantFits (negated_of (unsigned_constant given x))) (typed at s x)
  negated_promises (e.Number value span) = needs_promises (λ (t : Typed). is_word_number (negative value) ≡ true) (nat_lt value (2 ^ 31)) E04 span _ (λ low. negative_fits value low)
  negated_promises (e.Character value span) = needs_promises (λ (t : Typed). is_word_number (negative value) ≡ true) (nat_lt value (2 ^ 31)) E04 span _ (λ low. negative_fits value low)
  negated_promises (e.Text bytes span) = anything_promised (typed at s (e.Text bytes span))
  negated_promises (e.Name name) = always_promised (typed at s (e.Name name)) (negated_null (name.number == given.null))
  negated_promises (e.Call callee arguments span) = anything_promised (typed at s (e.Call callee arguments span))
  negated_promises (e.SizeOf type span) = anything_promised (typed at s (e.SizeOf type span))
  negated_promises (e.Cast word type operand span) = anything_promised (typed at s (e.Cast word type operand span))
  negated_promises (e.BoundedCast word type operand bounds span) = anything_promised (typed at s (e.BoundedCast word type operand bounds span))
  negated_promises (e.Malloc word type size span) = anything_promised (typed at s (e.Malloc word type size span))
  negated_promises (e.Calloc word type count size span) = anything_promised (typed at s (e.Calloc word type count size span))
  negated_promises (e.Index base index span) = anything_promised (typed at s (e.Index base index span))
  negated_promises (e.Dot base member span) = anything_promised (typed at s (e.Dot base member span))
  negated_promises (e.Arrow base member span) = anything_promised (typed at s (e.Arrow base member span))
  negated_promises (e.Unary operator operand span) = anything_promised (typed at s (e.Unary operator operand span))
  negated_promises (e.Binary operator left right span) = anything_promised (typed at s (e.Binary operator left right span))

  pub constant_promises : (x : Expression) → Promises (λ (t : Typed). ConstantFits (signed_constant given x)) (typed at s x)
  constant_promises (e.Number value span) = number_fits value (value == 0) span
  constant_promises (e.Character value span) = number_fits value false span
  constant_promises (e.Text bytes span) = anything_promised (typed at s (e.Text bytes span))
  constant_promises (e.Name name) = always_promised (typed at s (e.Name name)) (positive_null (name.number == given.null))
  constant_promises (e.Call callee arguments span) = anything_promised (typed at s (e.Call callee arguments span))
  constant_promises (e.SizeOf type span) = anything_promised (typed at s (e.SizeOf type span))
  constant_promises (e.Cast word type operand span) = anything_promised (typed at s (e.Cast word type operand span))
  constant_promises (e.BoundedCast word type operand bounds span) = anything_promised (typed at s (e.BoundedCast word type operand bounds span))
  constant_promises (e.Malloc word type size span) = anything_promised (typed at s (e.Malloc word type size span))
  constant_promises (e.Calloc word type count size span) = anything_promised (typed at s (e.Calloc word type count size span))
  constant_promises (e.Index base index span) = anything_promised (typed at s (e.Index base index span))
  constant_promises (e.Dot base member span) = anything_promised (typed at s (e.Dot base member span))
  constant_promises (e.Arrow base member span) = anything_promised (typed at s (e.Arrow base member span))
  constant_promises (e.Unary unary.Negate operand span) =
      let fits = λ (t : Typed). ConstantFits (negated_of (unsigned_constant given operand)) in
      passing_promises fits fits (passing (typed at s operand) (λ a. unary_typed unary.Negate a (site_at at span) span)) _
      (passing_promises fits fits (typed at s operand) _ (negated_promises operand) (λ a h. always_promised (unary_typed unary.Negate a (site_at at span) span) h)) (λ t h. h)
  constant_promises (e.Unary unary.Deref operand span) = anything_promised (typed at s (e.Unary unary.Deref operand span))
  constant_promises (e.Unary unary.AddressOf operand span) = anything_promised (typed at s (e.Unary unary.AddressOf operand span))
  constant_promises (e.Unary unary.Not operand span) = anything_promised (typed at s (e.Unary unary.Not operand span))
  constant_promises (e.Unary unary.Complement operand span) = anything_promised (typed at s (e.Unary unary.Complement operand span))
  constant_promises (e.Binary operator left right span) = anything_promised (typed at s (e.Binary operator left right span))
