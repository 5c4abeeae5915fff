-- Values, cells and places of their types, in blocks that are only added.
use Rattle.std.proofs.Common.{◌≡◌, ℕ, zero, suc, ◌+◌, ◌<◌, ◌≤◌, true, false, not, pos, negsuc, List, [], ◌∷◌, ◌++◌, map, take, length, Option, Some, None, refl, sym, ap, ◌∙◌, subst, arith, append_assoc, append-nil, Bool}
use Rattle.std.specs.Prelude.{◌||◌, slice_get, slice_set, option_map, ◌==◌, ◌&&◌}
use Rattle.std.specs.List.{AllByRecursion}
use Rattle.std.specs.Option.{option_and_then}
use Rattle.std.proofs.lemmas.Bool.{and_from}
use Rattle.std.proofs.lemmas.Bool.Decides.{nat_tests}
use Rattle.std.proofs.lemmas.List.{length-map}
use Rattle.std.proofs.lemmas.Option.{same_Some, slice_get-map}
use Rattle.pointer_modes.specs.declared.ctype.Mode.{Mode}
use Rattle.pointer_modes.specs.declared.ctype.Mode.TheVariants as modes
use Rattle.pointer_modes.specs.declared.ctype.Kind.{Kind}
use Rattle.pointer_modes.specs.declared.ctype.Kind.TheVariants as kinds
use Rattle.pointer_modes.specs.Types.{CType, Int, Char, Struct, Pointer, Member, Structure, members_of}
use Rattle.pointer_modes.specs.Layout.{aligned_up, scalar_size, member_sizes, sizes_of, placed_from, end_from, size_of}
use Rattle.pointer_modes.proofs.Layouts.{widths, size_behind}
use Rattle.ckc_core.specs.States.{Value, Number, Null, At, Cell, Block, Local, Shape, Grows, same_mode, same_kind, same_type, has_type, zero_of, strides, number_at, cell_in, cell_at, stored, shape, shapes, type_at}
use Rattle.ckc_core.specs.Steps.{fit, is_zero, leaves_zero, locals_for}
use Rattle.ckc_core.proofs.Elements.{of_element}
use Rattle.region_typing_rules.specs.Types.{is_number}
use Rattle.bounds_flow_meaning.proofs.Rows.{place_grown, ended_grown}
use Rattle.bounds_flow_meaning.specs.Rows.{Slot, slots, slots_from, Stands, HasRow, IsPlace, is_zero_at, ends_at_number}
use Rattle.region_typing_rules.specs.Typed.{HasValue, IsScalar}

-- ---- types

mode_refl : (m : Mode) → same_mode m m ≡ true
mode_refl modes.Checked = refl
mode_refl modes.Tainted = refl
mode_refl modes.Raw = refl

kind_refl : (k : Kind) → same_kind k k ≡ true
kind_refl kinds.One = refl
kind_refl kinds.Array = refl
kind_refl kinds.Nt = refl

pub same_refl : (t : CType) → same_type t t ≡ true
same_refl Int = refl
same_refl Char = refl
same_refl (Struct n) = grind (arith, nat_tests)
same_refl (Pointer m k t) = rw (mode_refl m, kind_refl k) (same_refl t)

-- ---- lists

pub mapped_from : {X Y : Type 0} (f : X → Y) (xs : List X) (k : ℕ) (y : Y) → slice_get (map f xs) k ≡ Some y → (x : X) × (slice_get xs k ≡ Some x) × (f x ≡ y)
mapped_from f [] k y h = absurd (cc)
mapped_from f (x ∷ xs) zero y h = (x, refl, same_Some (f x) y h)
mapped_from f (x ∷ xs) (suc k) y h = mapped_from f xs k y h

pub mapped_there : {X Y : Type 0} (f : X → Y) (xs : List X) (k : ℕ) (x : X) → slice_get xs k ≡ Some x → slice_get (map f xs) k ≡ Some (f x)
mapped_there f xs k x h = slice_get-map f xs k ∙ ap (option_map f) h

-- an element that is mapped to the same leaves what a list is mapped to
pub map_set : {X Y : Type 0} (f : X → Y) (xs : List X) (k : ℕ) (old new : X) → slice_get xs k ≡ Some old → f new ≡ f old → map f (slice_set xs k new) ≡ map f xs
map_set f [] k old new h e = refl
map_set f (x ∷ xs) zero old new h e = ap (λ y. y ∷ map f xs) (e ∙ ap f (sym (same_Some x old h)))
map_set f (x ∷ xs) (suc k) old new h e = ap (λ l. f x ∷ l) (map_set f xs k old new h e)

all_set : {X : Type 0} (P : X → Type 0) (xs : List X) (k : ℕ) (x : X) → AllByRecursion P xs → P x → AllByRecursion P (slice_set xs k x)
all_set P [] k x all h = tt
all_set P (y ∷ xs) zero x all h = (h, all.1)
all_set P (y ∷ xs) (suc k) x all h = (all.0, all_set P xs k x all.1 h)

behind_some : {X Y : Type 0} (f : X → Option Y) (o : Option X) (y : Y) → option_and_then f o ≡ Some y → (x : X) × (o ≡ Some x) × (f x ≡ Some y)
behind_some f None y h = absurd (cc)
behind_some f (Some x) y h = (x, refl, h)

-- ---- blocks that are added

pub grows_here : (b : List Shape) → Grows b b
grows_here b = ([], sym (append-nil b))

pub grows_on : (a b c : List Shape) → Grows a b → Grows b c → Grows a c
grows_on a b c first second = (first.0 ++ second.0, second.1 ∙ (ap (λ x. x ++ second.0) first.1 ∙ append_assoc a first.0 second.0))

-- ---- cells

-- the cell that begins at a byte of a block, and its number
pub record HasCell (blocks : List Block) (block byte : ℕ) (type : CType) : Type 0 where
  pub held : Block
  pub number : ℕ
  pub cell : Cell
  pub there : slice_get blocks block ≡ Some held
  pub numbered : number_at (strides held.cells) byte ≡ Some number
  pub found : slice_get held.cells number ≡ Some cell
  pub typed : cell.type ≡ type

pub cell_there : (blocks : List Block) (block byte : ℕ) (s : Shape) (t : CType) → slice_get (shapes blocks) block ≡ Some s → type_at s byte ≡ Some t → HasCell blocks block byte t
cell_there blocks block byte s t found typed =
    let b = mapped_from shape blocks block s found in
    let here : type_at (shape b.0) byte ≡ Some t = subst (λ x. type_at x byte ≡ Some t) (sym b.2) typed in
    let n = behind_some (λ number. slice_get (shape b.0).types number) (number_at (strides b.0.cells) byte) t here in
    let c = mapped_from (λ (x : Cell). x.type) b.0.cells n.0 t n.2 in
    record { held = b.0; number = n.0; cell = c.0; there = b.1; numbered = n.1; found = c.1; typed = c.2 }

module _ (blocks : List Block) (block byte : ℕ) (t : CType) (c : HasCell blocks block byte t) where
  pub at_cell : cell_at blocks block byte ≡ Some c.cell
  at_cell =
      ap (λ (o : Option Block). option_and_then (λ b. cell_in b byte) o) c.there
      ∙ (ap (λ (o : Option ℕ). option_and_then (λ number. slice_get c.held.cells number) o) c.numbered ∙ c.found)

  -- no zero has to stay there, or the value is one
  pub zero_left : (s : Shape) → slice_get (shapes blocks) block ≡ Some s → is_zero_at s byte ≡ false → (v : Value) → leaves_zero (slice_get blocks block) byte v ≡ true
  zero_left s found within v =
      rw (c.there, c.numbered) (by c.held.zero_ended (suc c.number == length c.held.cells) (is_zero v) inside)
    where
      same : shape c.held ≡ s
      same = same_Some (shape c.held) s (sym (mapped_there shape blocks block c.held c.there) ∙ found)

      many : length (map (λ (x : Cell). x.type) c.held.cells) ≡ length c.held.cells
      many = length-map c.held.cells (λ (x : Cell). x.type)

      inside : (c.held.zero_ended && (suc c.number == length c.held.cells)) ≡ false
      inside =
          ap (λ k. c.held.zero_ended && (suc c.number == k)) (sym many)
          ∙ (ap (λ o. c.held.zero_ended && ends_at_number o (length (shape c.held).types)) (sym c.numbered) ∙ subst (λ x. is_zero_at x byte ≡ false) (sym same) within)

      by : (ended last none : Bool) → (ended && last) ≡ false → (not ended || (none || not last)) ≡ true
      by false last none h = refl
      by true false true h = refl
      by true false false h = refl
      by true true none h = absurd (cc)

  pub zero_stored : (v : Value) → is_zero v ≡ true → leaves_zero (slice_get blocks block) byte v ≡ true
  zero_stored v zero_value = rw (c.there, zero_value) (by c.held.zero_ended)
    where
      by : (ended : Bool) → (not ended || true) ≡ true
      by true = refl
      by false = refl

  -- the block with another value in the cell
  abbrev pub new_cell : Value → Cell
  new_cell v = record c.cell { value = v }

  abbrev pub new_block : Value → Block
  new_block v = record c.held { cells = slice_set c.held.cells c.number (new_cell v) }

  pub stored_there : (v : Value) → stored blocks block byte v ≡ slice_set blocks block (new_block v)
  stored_there v = rw (c.there, c.numbered, c.found) refl

  new_shape : (v : Value) → shape (new_block v) ≡ shape c.held
  new_shape v =
      let made : List CType → List ℕ → Shape = λ types bytes. record { types = types; strides = bytes; zero_ended = c.held.zero_ended; is_sealed = c.held.is_sealed } in
      ap (λ types. made types (strides (new_block v).cells)) (map_set (λ (x : Cell). x.type) c.held.cells c.number c.cell (new_cell v) c.found refl)
      ∙ ap (made (shape c.held).types) (map_set (λ (x : Cell). x.stride) c.held.cells c.number c.cell (new_cell v) c.found refl)

  -- a store leaves the shapes
  pub shapes_stored : (v : Value) → shapes (stored blocks block byte v) ≡ shapes blocks
  shapes_stored v = ap shapes (stored_there v) ∙ map_set shape blocks block c.held (new_block v) c.there (new_shape v)

module _ (structs : List Structure) where
  -- ---- slots

  -- a scalar consists of itself
  pub scalar_slots : (t : CType) → IsScalar t → slots structs t ≡ record { type = t; offset = 0 } ∷ []
  scalar_slots Int h = refl
  scalar_slots Char h = refl
  scalar_slots (Struct n) h = absurd (cc)
  scalar_slots (Pointer m k t) h = refl

  aligned_at_zero : (t : CType) → aligned_up (scalar_size t) 0 ≡ 0
  aligned_at_zero Int = refl
  aligned_at_zero Char = refl
  aligned_at_zero (Struct n) = refl
  aligned_at_zero (Pointer m k t) = refl

  single_first : (t : CType) (slot : Slot) → slice_get (record { type = t; offset = 0 } ∷ []) 0 ≡ Some slot → slot.offset ≡ 0
  single_first t slot h = ap (λ (x : Slot). x.offset) (sym (same_Some (record { type = t; offset = 0 }) slot h))

  -- before what stands first at a place there are no bytes
  first_at_zero : (t : CType) (slot : Slot) → slice_get (slots structs t) 0 ≡ Some slot → slot.offset ≡ 0
  first_at_zero Int slot h = single_first Int slot h
  first_at_zero Char slot h = single_first Char slot h
  first_at_zero (Pointer m k t) slot h = single_first (Pointer m k t) slot h
  first_at_zero (Struct n) slot h = among (members_of structs n) h
    where
      among : (members : List Member) → slice_get (slots_from members (placed_from 0 (member_sizes members))) 0 ≡ Some slot → slot.offset ≡ 0
      among [] e = absurd (cc)
      among (m ∷ members) e =
          ap (λ (x : Slot). x.offset) (sym (same_Some (record { type = m.ctype; offset = aligned_up (scalar_size m.ctype) 0 }) slot e)) ∙ aligned_at_zero m.ctype

  -- ---- places

  -- a scalar that stands at a byte
  pub scalar_stands : (s : Shape) (byte : ℕ) (t : CType) → IsScalar t → type_at s byte ≡ Some t → is_zero_at s byte ≡ false → s.is_sealed ≡ false → Stands s byte (slots structs t)
  scalar_stands s byte t scalar typed ended unsealed = subst (λ row. Stands s byte row) (sym (scalar_slots t scalar)) (record { there = omega arith; each = each; inside = within; unsealed = unsealed })
    where
      each : (k : ℕ) (slot : Slot) → slice_get (record { type = t; offset = 0 } ∷ []) k ≡ Some slot → type_at s (byte + slot.offset) ≡ Some slot.type
      each zero slot h =
          let same : byte ≡ byte + 0 = omega arith in
          subst (λ (x : Slot). type_at s (byte + x.offset) ≡ Some x.type) (same_Some (record { type = t; offset = 0 }) slot h) (subst (λ k. type_at s k ≡ Some t) same typed)
      each (suc k) slot h = absurd (cc)

      within : (k : ℕ) (slot : Slot) → slice_get (record { type = t; offset = 0 } ∷ []) k ≡ Some slot → is_zero_at s (byte + slot.offset) ≡ false
      within zero slot h =
          let same : byte ≡ byte + 0 = omega arith in
          subst (λ (x : Slot). is_zero_at s (byte + x.offset) ≡ false) (same_Some (record { type = t; offset = 0 }) slot h) (subst (λ k. is_zero_at s k ≡ false) same ended)
      within (suc k) slot h = absurd (cc)

  -- ---- the bytes that a value takes

  scalar_bytes : (t : CType) → IsScalar t → size_of structs t ≡ scalar_size t
  scalar_bytes Int h = refl
  scalar_bytes Char h = refl
  scalar_bytes (Struct n) h = absurd (cc)
  scalar_bytes (Pointer m k t) h = refl

  aligned_behind : (t : CType) (n : ℕ) → n ≤ aligned_up (scalar_size t) n
  aligned_behind Int n = omega arith
  aligned_behind Char n = omega arith
  aligned_behind (Struct number) n = omega arith
  aligned_behind (Pointer m k t) n = omega arith

  end_behind : (members : List Member) (n : ℕ) → n ≤ end_from n (member_sizes members)
  end_behind [] n = omega arith
  end_behind (m ∷ members) n =
      let here = aligned_behind m.ctype n in
      let rest = end_behind members (aligned_up (scalar_size m.ctype) n + scalar_size m.ctype) in
      omega (arith, here, rest)

  -- each member ends before its struct does
  slot_before : (members : List Member) (n k : ℕ) (slot : Slot) → slice_get (slots_from members (placed_from n (member_sizes members))) k ≡ Some slot → slot.offset + scalar_size slot.type ≤ end_from n (member_sizes members)
  slot_before [] n k slot h = absurd (cc)
  slot_before (m ∷ members) n zero slot h =
      let first : Slot = record { type = m.ctype; offset = aligned_up (scalar_size m.ctype) n } in
      subst (λ (x : Slot). x.offset + scalar_size x.type ≤ end_from n (member_sizes (m ∷ members))) (same_Some first slot h) (end_behind members (aligned_up (scalar_size m.ctype) n + scalar_size m.ctype))
  slot_before (m ∷ members) n (suc k) slot h = slot_before members (aligned_up (scalar_size m.ctype) n + scalar_size m.ctype) k slot h

  member_within : (n k offset : ℕ) (t : CType) → IsScalar t → slice_get (slots structs (Struct n)) k ≡ Some (record { type = t; offset = offset }) → offset + size_of structs t ≤ size_of structs (Struct n)
  member_within n k offset t scalar h =
      let bytes = scalar_bytes t scalar in
      let before = slot_before (members_of structs n) 0 k (record { type = t; offset = offset }) h in
      let end = size_behind (sizes_of structs (Struct n)) (widths structs (Struct n)) in
      omega (arith, bytes, before, end)

  -- the member of a struct that stands at a byte
  pub member_row : (s : Shape) (n first k offset : ℕ) (t : CType) → IsScalar t → HasRow structs s first (Struct n) → slice_get (slots structs (Struct n)) k ≡ Some (record { type = t; offset = offset }) → HasRow structs s (first + offset) t
  member_row s n first k offset t scalar h found =
      let typed = h.stands.each k (record { type = t; offset = offset }) found in
      let within = member_within n k offset t scalar found in
      let room = h.room in
      record { stands = scalar_stands s (first + offset) t scalar typed (h.stands.inside k (record { type = t; offset = offset }) found) h.stands.unsealed; room = omega (arith, within, room) }

  -- and at a place
  pub member_place : (b : List Shape) (n block first k offset : ℕ) (t : CType) → IsScalar t → IsPlace structs b (Struct n) block first → slice_get (slots structs (Struct n)) k ≡ Some (record { type = t; offset = offset }) → IsPlace structs b t block (first + offset)
  member_place b n block first k offset t scalar h found = record { shape = h.shape; found = h.found; row = member_row h.shape n first k offset t scalar h.row found }

  -- what stands first at a place
  first_slot : (row : List Slot) → 0 < length row → (slot : Slot) × (slice_get row 0 ≡ Some slot)
  first_slot [] h = absurd (omega arith)
  first_slot (slot ∷ row) h = (slot, refl)

  place_has_cell : (blocks : List Block) (t : CType) (block byte : ℕ) (slot : Slot) → IsPlace structs (shapes blocks) t block byte → slice_get (slots structs t) 0 ≡ Some slot → HasCell blocks block byte slot.type
  place_has_cell blocks t block byte slot h first =
      let start = first_at_zero t slot first in
      let same : byte + slot.offset ≡ byte = omega (arith, start) in
      cell_there blocks block byte h.shape slot.type h.found (subst (λ k. type_at h.shape k ≡ Some slot.type) same (h.row.stands.each 0 slot first))

  -- a cell of a scalar type
  pub scalar_cell : (blocks : List Block) (t : CType) (block byte : ℕ) → IsScalar t → IsPlace structs (shapes blocks) t block byte → HasCell blocks block byte t
  scalar_cell blocks t block byte scalar h =
      place_has_cell blocks t block byte (record { type = t; offset = 0 }) h (ap (λ (row : List Slot). slice_get row 0) (scalar_slots t scalar))

  -- it isn't the zero that ends a block
  pub place_inside : (b : List Shape) (t : CType) (block byte : ℕ) → IsScalar t → (h : IsPlace structs b t block byte) → is_zero_at h.shape byte ≡ false
  place_inside b t block byte scalar h =
      let same : byte + 0 ≡ byte = omega arith in
      subst (λ k. is_zero_at h.shape k ≡ false) same (h.row.stands.inside 0 (record { type = t; offset = 0 }) (ap (λ (row : List Slot). slice_get row 0) (scalar_slots t scalar)))

  -- at each place a cell begins
  pub some_cell : (blocks : List Block) (t : CType) (block byte : ℕ) → IsPlace structs (shapes blocks) t block byte → (c : Cell) × (cell_at blocks block byte ≡ Some c)
  some_cell blocks t block byte h =
      let first = first_slot (slots structs t) h.row.stands.there in
      let c = place_has_cell blocks t block byte first.0 h first.1 in
      (c.cell, at_cell blocks block byte first.0.type c)

  -- ---- values where blocks are added

  pub value_grown : (a b : List Shape) → Grows a b → (t : CType) (v : Value) → HasValue structs a t v → HasValue structs b t v
  value_grown a b more Int (Number z) h = h
  value_grown a b more Int Null h = absurd h
  value_grown a b more Int (At block byte) h = absurd h
  value_grown a b more Char (Number z) h = h
  value_grown a b more Char Null h = absurd h
  value_grown a b more Char (At block byte) h = absurd h
  value_grown a b more (Struct n) v h = absurd h
  value_grown a b more (Pointer m k t) (Number z) h = absurd h
  value_grown a b more (Pointer m k t) Null h = tt
  value_grown a b more (Pointer m kinds.One t) (At block byte) h = place_grown structs a b more t block byte h
  value_grown a b more (Pointer m kinds.Array t) (At block byte) h = tt
  value_grown a b more (Pointer m kinds.Nt t) (At block byte) h = (h.0, ended_grown structs a b more t block byte false h.1)

  module _ (b : List Shape) where
    -- ---- values

    pub value_typed : (t : CType) (v : Value) → HasValue structs b t v → has_type t v ≡ true
    value_typed Int (Number z) h = h
    value_typed Int Null h = absurd h
    value_typed Int (At block byte) h = absurd h
    value_typed Char (Number z) h = h
    value_typed Char Null h = absurd h
    value_typed Char (At block byte) h = absurd h
    value_typed (Struct n) v h = absurd h
    value_typed (Pointer m k t) (Number z) h = absurd h
    value_typed (Pointer m k t) Null h = refl
    value_typed (Pointer m k t) (At block byte) h = refl

    -- each char is an int
    pub value_widened : (v : Value) → HasValue structs b Char v → HasValue structs b Int v
    value_widened (Number (pos n)) h = grind (arith, nat_tests)
    value_widened (Number (negsuc n)) h = absurd (cc)
    value_widened Null h = absurd h
    value_widened (At block byte) h = absurd h

    pub value_number : (t : CType) (v : Value) → is_number t ≡ true → HasValue structs b t v → HasValue structs b Int v
    value_number Int v h value = value
    value_number Char v h value = value_widened v value
    value_number (Struct n) v h value = absurd (cc)
    value_number (Pointer m k t) v h value = absurd (cc)

    pub zero_typed : (t : CType) → IsScalar t → HasValue structs b t (zero_of t)
    zero_typed Int h = refl
    zero_typed Char h = refl
    zero_typed (Struct n) h = absurd (cc)
    zero_typed (Pointer m k t) h = tt

    -- ---- values of types in their order

    abbrev pub HaveValues : List CType → List Value → Type 0
    HaveValues [] [] = Unit {0}
    HaveValues [] (v ∷ vs) = ⊥
    HaveValues (t ∷ ts) [] = ⊥
    HaveValues (t ∷ ts) (v ∷ vs) = HasValue structs b t v × HaveValues ts vs

    pub values_count : (ts : List CType) (vs : List Value) → HaveValues ts vs → length vs ≡ length ts
    values_count [] [] h = refl
    values_count [] (v ∷ vs) h = absurd h
    values_count (t ∷ ts) [] h = absurd h
    values_count (t ∷ ts) (v ∷ vs) h = ap suc (values_count ts vs h.1)

    pub values_fit : (ts : List CType) (vs : List Value) → HaveValues ts vs → fit ts vs ≡ true
    values_fit [] [] h = refl
    values_fit [] (v ∷ vs) h = absurd h
    values_fit (t ∷ ts) [] h = absurd h
    values_fit (t ∷ ts) (v ∷ vs) h = and_from (has_type t v) (fit ts vs) (value_typed t v h.0) (values_fit ts vs h.1)

    -- ---- locals

    -- locals of these types, each with a value of its own
    abbrev pub HaveLocals : List CType → List Local → Type 0
    HaveLocals [] [] = Unit {0}
    HaveLocals [] (l ∷ locals) = ⊥
    HaveLocals (t ∷ ts) [] = ⊥
    HaveLocals (t ∷ ts) (l ∷ locals) = (l.type ≡ t) × HasValue structs b t l.value × HaveLocals ts locals

    pub local_there : (ts : List CType) (locals : List Local) (k : ℕ) (t : CType) → HaveLocals ts locals → slice_get ts k ≡ Some t → (l : Local) × (slice_get locals k ≡ Some l) × (l.type ≡ t) × HasValue structs b t l.value
    local_there [] locals k t h e = absurd (cc)
    local_there (u ∷ ts) [] k t h e = absurd h
    local_there (u ∷ ts) (l ∷ locals) zero t h e = let same = same_Some u t e in (l, refl, h.0 ∙ same, subst (λ x. HasValue structs b x l.value) same h.1)
    local_there (u ∷ ts) (l ∷ locals) (suc k) t h e = local_there ts locals k t h.2 e

    pub locals_set : (ts : List CType) (locals : List Local) (k : ℕ) (t : CType) (new : Local) → HaveLocals ts locals → slice_get ts k ≡ Some t → new.type ≡ t → HasValue structs b t new.value → HaveLocals ts (slice_set locals k new)
    locals_set [] locals k t new h e type value = absurd (cc)
    locals_set (u ∷ ts) [] k t new h e type value = absurd h
    locals_set (u ∷ ts) (l ∷ locals) zero t new h e type value = let same = sym (same_Some u t e) in (type ∙ same, subst (λ x. HasValue structs b x new.value) same value, h.2)
    locals_set (u ∷ ts) (l ∷ locals) (suc k) t new h e type value = (h.0, h.1, locals_set ts locals k t new h.2 e type value)

    -- parameters with values, and zeros behind them
    zeros_typed : (ts : List CType) → AllByRecursion IsScalar ts → HaveLocals ts (locals_for ts [])
    zeros_typed [] all = tt
    zeros_typed (t ∷ ts) all = (refl, zero_typed t all.0, zeros_typed ts all.1)

    pub locals_typed : (ts : List CType) (n : ℕ) (vs : List Value) → AllByRecursion IsScalar ts → HaveValues (take n ts) vs → HaveLocals ts (locals_for ts vs)
    locals_typed [] n vs all h = tt
    locals_typed (t ∷ ts) zero [] all h = zeros_typed (t ∷ ts) all
    locals_typed (t ∷ ts) zero (v ∷ vs) all h = absurd h
    locals_typed (t ∷ ts) (suc n) [] all h = absurd h
    locals_typed (t ∷ ts) (suc n) (v ∷ vs) all h = (refl, h.0, locals_typed ts n vs all.1 h.1)

    -- ---- what cells hold

    abbrev IsCell : Cell → Type 0
    IsCell c = HasValue structs b c.type c.value

    -- each cell of a block holds a value of its type
    abbrev pub HoldsValues : Block → Type 0
    HoldsValues block = AllByRecursion IsCell block.cells

    module _ (blocks : List Block) (block byte : ℕ) (t : CType) (c : HasCell blocks block byte t) (all : AllByRecursion HoldsValues blocks) where
      cells_typed : HoldsValues c.held
      cells_typed = of_element HoldsValues blocks block c.held all c.there

      pub cell_typed : HasValue structs b t c.cell.value
      cell_typed = subst (λ x. HasValue structs b x c.cell.value) c.typed (of_element IsCell c.held.cells c.number c.cell cells_typed c.found)

      pub stored_typed : (v : Value) → HasValue structs b t v → AllByRecursion HoldsValues (stored blocks block byte v)
      stored_typed v typed =
          let new = subst (λ x. HasValue structs b x v) (sym c.typed) typed in
          let cells = all_set IsCell c.held.cells c.number (new_cell blocks block byte t c v) cells_typed new in
          subst (λ x. AllByRecursion HoldsValues x) (sym (stored_there blocks block byte t c v)) (all_set HoldsValues blocks block (new_block blocks block byte t c v) all cells)

  pub values_grown : (a b : List Shape) → Grows a b → (ts : List CType) (vs : List Value) → HaveValues a ts vs → HaveValues b ts vs
  values_grown a b more [] [] h = tt
  values_grown a b more [] (v ∷ vs) h = absurd h
  values_grown a b more (t ∷ ts) [] h = absurd h
  values_grown a b more (t ∷ ts) (v ∷ vs) h = (value_grown a b more t v h.0, values_grown a b more ts vs h.1)

  pub locals_grown : (a b : List Shape) → Grows a b → (ts : List CType) (locals : List Local) → HaveLocals a ts locals → HaveLocals b ts locals
  locals_grown a b more [] [] h = tt
  locals_grown a b more [] (l ∷ locals) h = absurd h
  locals_grown a b more (t ∷ ts) [] h = absurd h
  locals_grown a b more (t ∷ ts) (l ∷ locals) h = (h.0, value_grown a b more t l.value h.1, locals_grown a b more ts locals h.2)
