-- Rows that a zero ends: what stands before it stands as in any row, so a null-terminated pointer is valid as any pointer to an array.
use Rattle.std.proofs.Common.{◌≡◌, ℕ, zero, suc, ◌+◌, ◌*◌, ℤ, ◌+ℤ◌, ◌*ℤ◌, ◌≤ℤ◌, ◌<◌, ◌≤◌, Bool, true, false, List, length, replicate, Some, pos, refl, sym, ap, ◌∙◌, subst, arith}
use Rattle.std.specs.Prelude.{◌==◌, ◌&&◌, int_le, int_lt, nat_le, negsuc, slice_get, sum}
use Rattle.std.specs.Option.{option_and_then}
use Rattle.std.specs.Ordering.{int_eq}
use Rattle.std.proofs.lemmas.Bool.Decides.{nat_tests}
use Rattle.std.proofs.lemmas.Bool.{and_from}
use Rattle.std.proofs.lemmas.Int.{ints}
use Rattle.std.proofs.lemmas.List.{length-replicate}
use Rattle.bounds_exprs.specs.declared.term.Bounds.{Bounds}
use Rattle.pointer_modes.specs.declared.ctype.Mode.{Mode}
use Rattle.pointer_modes.specs.declared.ctype.Kind.{Kind}
use Rattle.pointer_modes.specs.declared.ctype.Kind.TheVariants as kinds
use Rattle.pointer_modes.specs.Types.{CType, Int, Char, Struct, Pointer, Structure}
use Rattle.pointer_modes.specs.Layout.{size_of}
use Rattle.ckc_core.specs.declared.program.PointerBounds.{PointerBounds}
use Rattle.ckc_core.specs.declared.program.Site.{Site}
use Rattle.ckc_core.specs.States.{Block, Value, Number, Null, At, Shape, State, number_at, shape, shapes, type_at}
use Rattle.ckc_core.specs.Bounds.{Ends, block_size, ends_at, is_valid, lie_within, room_of}
use Rattle.ckc_core.specs.Pointers.{lies_below, lies_up_to}
use Rattle.bounds_flow_meaning.specs.Holding.{IsValid, at_node}
use Rattle.bounds_flow_meaning.specs.Rows.{AreElements, LeadsOn, IsEndedPlace, IsPlace, ends_at_number, is_zero_at}
use Rattle.bounds_flow_meaning.proofs.Validity.{both_true, less_inside, int_from, int_to, null_valid, valid_from, valid_to}
use Rattle.bounds_flow_meaning.proofs.Widening.{row_number, row_size}
use Rattle.region_typing_rules.specs.Types.{is_number, Counts}
use Rattle.region_typing_rules.specs.Operands.{one_element}
use Rattle.region_typing_rules.specs.DeclaredBounds.{row_of}
use Rattle.region_typing_rules.specs.Typed.{CountsAs, IsEndedRow, HasValue, IsScalar}
use Rattle.region_typing_rules.proofs.Elements.{below_up_to, one_below, pointing}
use Rattle.region_typing_rules.proofs.Values.{HasCell, cell_there, mapped_from, scalar_stands}

slice_replicate : {A : Type 0} (a : A) (m k : ℕ) → k < m → slice_get (replicate m a) k ≡ Some a
slice_replicate a zero k less = absurd (omega (arith, less))
slice_replicate a (suc m) zero less = refl
slice_replicate a (suc m) (suc k) less = slice_replicate a m k (omega (arith, less))

scalar_number : (t : CType) → is_number t ≡ true → IsScalar t
scalar_number Int h = refl
scalar_number Char h = refl
scalar_number (Struct n) h = absurd (cc)
scalar_number (Pointer m k t) h = absurd (cc)

module _ (structs : List Structure) (blocks : List Shape) (t : CType) (block byte : ℕ) (inside : Bool) (h : IsEndedPlace structs blocks t block byte inside) where
  abbrev size : ℕ
  size = size_of structs t

  number_there : number_at h.shape.strides byte ≡ Some h.number
  number_there = ap (λ l. number_at l byte) h.strides ∙ (ap (number_at (replicate h.cells size)) h.is ∙ row_number size h.some h.cells h.number h.below)

  pub cell_typed : type_at h.shape byte ≡ Some t
  cell_typed = ap (λ o. option_and_then (λ number. slice_get h.shape.types number) o) number_there ∙ (ap (λ l. slice_get l h.number) h.types ∙ slice_replicate t h.cells h.number h.below)

module _ (structs : List Structure) (blocks : List Shape) (t : CType) (block byte : ℕ) (number : is_number t ≡ true) (h : IsEndedPlace structs blocks t block byte true) where
  abbrev bytes : ℕ
  bytes = size_of structs t

  within : is_zero_at h.shape byte ≡ false
  within =
      let cells : length h.shape.types ≡ h.cells = ap length h.types ∙ length-replicate h.cells t in
      let less = h.before_zero refl in
      let more : (suc h.number == h.cells) ≡ false = grind (arith, nat_tests, less) in
      ap (λ o. h.shape.zero_ended && ends_at_number o (length h.shape.types)) (number_there structs blocks t block byte true h) ∙ (ap (λ n. h.shape.zero_ended && (suc h.number == n)) cells ∙ (ap (λ test. h.shape.zero_ended && test) more ∙ none h.shape.zero_ended))
    where
      none : (b : Bool) → (b && false) ≡ false
      none true = refl
      none false = refl

  room : byte + bytes ≤ sum h.shape.strides
  room =
      let all : sum h.shape.strides ≡ h.cells * bytes = ap sum h.strides ∙ row_size bytes h.cells in
      let less = times_more h.number h.cells bytes h.below in
      omega (arith, all, less, h.is)
    where
      times_more : (a b n : ℕ) → a < b → a * n + n ≤ b * n
      times_more a zero n less = absurd (omega (arith, less))
      times_more zero (suc b) n less = omega arith
      times_more (suc a) (suc b) n less = let more = times_more a b n (omega (arith, less)) in omega (arith, more)

  -- a value of the type stands before the zero
  pub place_before_zero : IsPlace structs blocks t block byte
  place_before_zero = record {
    shape = h.shape;
    found = h.found;
    row = record { stands = scalar_stands structs h.shape byte t (scalar_number t number) (cell_typed structs blocks t block byte true h) within h.unsealed; room = room };
  }

-- a pointer into such a row is valid with the same bounds as one to an array
module _ (structs : List Structure) (m : Mode) (t : CType) (s : State) (b : Bounds) where
  abbrev ended : Site → Bool → State → Value → Bool
  ended site zero_ended s v = is_valid (at_node b (size_of structs t) zero_ended site) v s

  passes : (site : Site) (v : Value) → ended site true s v ≡ true → ended site false s v ≡ true
  passes site (Number z) h = absurd (cc)
  passes site Null h = refl
  passes site (At block byte) h =
      let v = valid_from (at_node b (size_of structs t) true site) block byte s h in
      valid_to (at_node b (size_of structs t) false site) block byte s (record { held = v.held; ends = v.ends; found = v.found; are = v.are; place = v.place; fits = wider v.ends (room_of true v.held v.ends.size) (block_size v.held) (omega arith) v.fits })
    where
      wider : (e : Ends) (n k : ℕ) → n ≤ k → lie_within e n ≡ true → lie_within e k ≡ true
      wider e n k le h = by (int_le e.low e.high) refl
        where
          by : (test : Bool) → int_le e.low e.high ≡ test → lie_within e k ≡ true
          by false is = rw is refl
          by true is =
              let both : (int_le (pos 0) e.low && int_le e.high (pos n)) ≡ true = rw is at h in
              let parts = both_true (int_le (pos 0) e.low) (int_le e.high (pos n)) both in
              let high = int_from e.high (pos n) parts.1 in
              rw is (and_from (int_le (pos 0) e.low) (int_le e.high (pos k)) parts.0 (int_to e.high (pos k) (omega (arith, ints, high, le))))

  pub valid_as_array : (v : Value) → HasValue structs (shapes s.blocks) (Pointer m kinds.Nt t) v → IsValid structs (Some b) (pointing (Pointer m kinds.Nt t) v) s → IsValid structs (Some b) (pointing (Pointer m kinds.Array t) v) s
  valid_as_array v typed h = record { passes = λ site. passes site v (h.passes site); leads = leads v typed h }
    where
      leads : (v : Value) → HasValue structs (shapes s.blocks) (Pointer m kinds.Nt t) v → IsValid structs (Some b) (pointing (Pointer m kinds.Nt t) v) s → (site : Site) (block byte : ℕ) (e : Ends) → v ≡ At block byte
          → ends_at (at_node b (size_of structs t) false site) s.locals block byte ≡ Some e → AreElements structs (shapes s.blocks) t block byte e
      leads (Number z) typed h site block byte e at are = absurd typed
      leads Null typed h site block byte e at are = absurd (cc)
      leads (At block' byte') typed h site block byte e at are = λ n place step below.
          let ended = h.leads site block byte e at are n place step (below_up_to e (pos place) below) in
          place_before_zero structs (shapes s.blocks) t block place typed.0 (subst (λ inside. IsEndedPlace structs (shapes s.blocks) t block place inside) below ended)

-- a pointer is valid as one to the element at which it stands
pub valid_as_single : (structs : List Structure) (m : Mode) (kind : Kind) (t : CType) (s : State) (b : Bounds) (v : Value) → HasValue structs (shapes s.blocks) (Pointer m kind t) v → IsValid structs (Some b) (pointing (Pointer m kind t) v) s
    → IsValid structs (Some b) (pointing (Pointer m kinds.One t) v) s
valid_as_single structs m kinds.One t s b v typed h = h
valid_as_single structs m kinds.Array t s b v typed h = record { passes = h.passes; leads = h.leads }
valid_as_single structs m kinds.Nt t s b v typed h = let array = valid_as_array structs m t s b v typed h in record { passes = array.passes; leads = array.leads }

-- a pointer that counts elements stays in its row, up to its ends
pub counts_on : (structs : List Structure) (blocks : List Shape) (m : Mode) (kind : Kind) (t : CType) → Counts kind → (block byte : ℕ) (e : Ends) → HasValue structs blocks (Pointer m kind t) (At block byte)
    → LeadsOn structs blocks (Pointer m kind t) block byte e → (n : ℤ) (place : ℕ) → pos place ≡ pos byte +ℤ (n *ℤ pos e.size) → lies_up_to e (pos place) ≡ true → HasValue structs blocks (Pointer m kind t) (At block place)
counts_on structs blocks m kinds.One t counts block byte e typed leads n place step lies = absurd counts
counts_on structs blocks m kinds.Array t counts block byte e typed leads n place step lies = tt
counts_on structs blocks m kinds.Nt t counts block byte e typed leads n place step lies =
    (typed.0, less_inside structs blocks t block place (lies_below e (pos place)) false (λ no. absurd (cc)) (leads n place step lies))

-- an access below the upper end finds a value
pub finds_below : (structs : List Structure) (blocks : List Shape) (m : Mode) (kind : Kind) (t : CType) (block byte : ℕ) (e : Ends) → HasValue structs blocks (Pointer m kind t) (At block byte)
    → LeadsOn structs blocks (Pointer m kind t) block byte e → (n : ℤ) (place : ℕ) → pos place ≡ pos byte +ℤ (n *ℤ pos e.size) → lies_below e (pos place) ≡ true → IsPlace structs blocks t block place
finds_below structs blocks m kinds.One t block byte e typed leads n place step lies = leads n place step lies
finds_below structs blocks m kinds.Array t block byte e typed leads n place step lies = leads n place step lies
finds_below structs blocks m kinds.Nt t block byte e typed leads n place step lies =
    place_before_zero structs blocks t block place typed.0
    (subst (λ inside. IsEndedPlace structs blocks t block place inside) lies (leads n place step (below_up_to e (pos place) lies)))

-- a pointer that is valid with the bounds of one element leads to one
pub finds_one : (structs : List Structure) (m : Mode) (kind : Kind) (t : CType) (s : State) → 0 < size_of structs t → (v : Value) → HasValue structs (shapes s.blocks) (Pointer m kind t) v → IsValid structs (Some one_element) (pointing (Pointer m kind t) v) s
    → (site : Site) → HasValue structs (shapes s.blocks) (Pointer m kinds.One t) v
finds_one structs m kind t s bytes (Number z) typed h site = absurd typed
finds_one structs m kind t s bytes Null typed h site = tt
finds_one structs m kind t s bytes (At block byte) typed h site =
    finds_below structs (shapes s.blocks) m kind t block byte _ typed (h.leads site block byte _ refl refl) (pos 0) byte (omega (arith, ints)) (one_below structs m t s bytes byte)

-- a pointer that counts elements as one that counts as many
pub value_as : (structs : List Structure) (blocks : List Shape) (m : Mode) (kind kind' : Kind) (t : CType) → CountsAs kind kind' → (v : Value) → HasValue structs blocks (Pointer m kind t) v → HasValue structs blocks (Pointer m kind' t) v
value_as structs blocks m kinds.One kind' t counts v h = absurd (by kind' counts)
  where
    by : (kind : Kind) → CountsAs kinds.One kind → ⊥
    by kinds.One h = h
    by kinds.Array h = h
    by kinds.Nt h = h
value_as structs blocks m kinds.Array kinds.One t counts v h = absurd counts
value_as structs blocks m kinds.Array kinds.Array t counts v h = h
value_as structs blocks m kinds.Array kinds.Nt t counts v h = absurd counts
value_as structs blocks m kinds.Nt kinds.One t counts v h = absurd counts
value_as structs blocks m kinds.Nt kinds.Array t counts (Number z) h = absurd h
value_as structs blocks m kinds.Nt kinds.Array t counts Null h = tt
value_as structs blocks m kinds.Nt kinds.Array t counts (At block byte) h = tt
value_as structs blocks m kinds.Nt kinds.Nt t counts v h = h

pub valid_as : (structs : List Structure) (m : Mode) (kind kind' : Kind) (t : CType) → CountsAs kind kind' → (s : State) (b : Bounds) (v : Value) → HasValue structs (shapes s.blocks) (Pointer m kind t) v → IsValid structs (Some b) (pointing (Pointer m kind t) v) s
    → IsValid structs (Some b) (pointing (Pointer m kind' t) v) s
valid_as structs m kinds.One kind' t counts s b v typed h = absurd (by kind' counts)
  where
    by : (kind : Kind) → CountsAs kinds.One kind → ⊥
    by kinds.One h = h
    by kinds.Array h = h
    by kinds.Nt h = h
valid_as structs m kinds.Array kinds.One t counts s b v typed h = absurd counts
valid_as structs m kinds.Array kinds.Array t counts s b v typed h = h
valid_as structs m kinds.Array kinds.Nt t counts s b v typed h = absurd counts
valid_as structs m kinds.Nt kinds.One t counts s b v typed h = absurd counts
valid_as structs m kinds.Nt kinds.Array t counts s b v typed h = valid_as_array structs m t s b v typed h
valid_as structs m kinds.Nt kinds.Nt t counts s b v typed h = h

-- ---- the zero at the end

-- at each place of such a row a cell begins
pub ended_cell : (structs : List Structure) (blocks : List Block) (t : CType) (block byte : ℕ) (inside : Bool) → IsEndedPlace structs (shapes blocks) t block byte inside → HasCell blocks block byte t
ended_cell structs blocks t block byte inside h = cell_there blocks block byte h.shape t h.found (cell_typed structs (shapes blocks) t block byte inside h)

-- a byte up to the upper end is below it, or at it
pub below_or_at : (e : Ends) (x : ℤ) → lies_up_to e x ≡ true → int_eq x e.high ≡ false → lies_below e x ≡ true
below_or_at e x upto other =
    let parts = both_true (int_le e.low x) (int_le x e.high) upto in
    and_from (int_le e.low x) (int_lt x e.high) parts.0 (less x e.high parts.1 other)
  where
    less : (a b : ℤ) → int_le a b ≡ true → int_eq a b ≡ false → int_lt a b ≡ true
    less a b le other = grind (arith, ints)

times_step : (a b n : ℕ) → a < b → a * n + n ≤ b * n
times_step a zero n less = absurd (omega (arith, less))
times_step zero (suc b) n less = omega arith
times_step (suc a) (suc b) n less = let more = times_step a b n (omega (arith, less)) in omega (arith, more)

stands_fits : (e : Ends) (room byte : ℕ) → e.low ≡ pos byte → e.high ≡ pos byte → byte ≤ room → lie_within e room ≡ true
stands_fits e room byte low high le = by (int_le e.low e.high) refl
  where
    by : (test : Bool) → int_le e.low e.high ≡ test → lie_within e room ≡ true
    by false is = rw is refl
    by true is = rw is (and_from (int_le (pos 0) e.low) (int_le e.high (pos room)) (int_to (pos 0) e.low (omega (arith, ints, low))) (int_to e.high (pos room) (omega (arith, ints, high, le))))

-- a pointer to a cell of such a row is valid where the end may be, whatever its bounds are
module _ (structs : List Structure) (m : Mode) (t : CType) (s : State) (block byte : ℕ) (h : IsEndedPlace structs (shapes s.blocks) t block byte false) where
  abbrev cell : ℕ
  cell = size_of structs t

  abbrev ends_here : Ends
  ends_here = record { low = pos byte +ℤ ((pos 0 +ℤ pos 0) *ℤ pos cell); high = pos byte +ℤ ((pos 0 +ℤ pos 0) *ℤ pos cell); size = cell }

  stands : ends_here.low ≡ pos byte
  stands = omega (arith, ints)

  held_here : (b : Block) × (slice_get s.blocks block ≡ Some b) × (shape b ≡ h.shape)
  held_here = mapped_from shape s.blocks block h.shape h.found

  all_bytes : block_size held_here.0 ≡ h.cells * cell
  all_bytes = ap (λ (x : Shape). sum x.strides) held_here.2 ∙ (ap sum h.strides ∙ row_size cell h.cells)

  behind : byte + cell ≤ block_size held_here.0
  behind = let all = all_bytes in let less = times_step h.number h.cells cell h.below in omega (arith, all, less, h.is)

  passes_here : (site : Site) → is_valid (at_node (row_of 0) cell true site) (At block byte) s ≡ true
  passes_here site =
      let most = behind in
      valid_to (at_node (row_of 0) cell true site) block byte s (record {
        held = held_here.0;
        ends = ends_here;
        found = held_here.1;
        are = refl;
        place = grind (arith, nat_tests, most);
        fits = stands_fits ends_here (room_of true held_here.0 cell) byte stands stands (omega (arith, most));
      })

  leads_here : (n : ℤ) (place : ℕ) → pos place ≡ pos byte +ℤ (n *ℤ pos cell) → lies_up_to ends_here (pos place) ≡ true → IsEndedPlace structs (shapes s.blocks) t block place (lies_below ends_here (pos place))
  leads_here n place is lies =
      let parts = both_true (int_le ends_here.low (pos place)) (int_le (pos place) ends_here.high) lies in
      let low = int_from ends_here.low (pos place) parts.0 in
      let high = int_from (pos place) ends_here.high parts.1 in
      let low_is = stands in
      let same : byte ≡ place = omega (arith, ints, low, high, low_is) in
      let above : lies_below ends_here (pos place) ≡ false = not_below place same in
      subst (λ inside. IsEndedPlace structs (shapes s.blocks) t block place inside) (sym above) (subst (λ byte. IsEndedPlace structs (shapes s.blocks) t block byte false) same h)
    where
      none : (b : Bool) → (b && false) ≡ false
      none true = refl
      none false = refl

      not_below : (place : ℕ) → byte ≡ place → lies_below ends_here (pos place) ≡ false
      not_below place same =
          let no : int_lt (pos place) ends_here.high ≡ false = ap (int_lt (pos place)) stands ∙ (ap (λ n. int_lt (pos place) (pos n)) same ∙ below_none place) in
          ap (λ test. int_le ends_here.low (pos place) && test) no ∙ none (int_le ends_here.low (pos place))
        where
          below_none : (n : ℕ) → int_lt (pos n) (pos n) ≡ false
          below_none n = grind (arith, ints)

pub cell_valid : (structs : List Structure) (m : Mode) (t : CType) (s : State) (v : Value) → HasValue structs (shapes s.blocks) (Pointer m kinds.Nt t) v → IsValid structs (Some (row_of 0)) (pointing (Pointer m kinds.Nt t) v) s
cell_valid structs m t s (Number z) typed = absurd typed
cell_valid structs m t s Null typed = null_valid structs (Some (row_of 0)) (pointing (Pointer m kinds.Nt t) Null) s refl
cell_valid structs m t s (At block byte) typed = record { passes = passes_here structs m t s block byte typed.1; leads = leads }
  where
    leads : (site : Site) (other place : ℕ) (e : Ends) → At block byte ≡ At other place → ends_at (at_node (row_of 0) (size_of structs t) true site) s.locals other place ≡ Some e → LeadsOn structs (shapes s.blocks) (Pointer m kinds.Nt t) other place e
    leads site other place e at are =
        let block_is : block ≡ other = cc in
        let byte_is : byte ≡ place = cc in
        let here = ends_here structs m t s block byte typed.1 in
        let ends_is : here ≡ e = some_same here e (subst (λ byte. ends_at (at_node (row_of 0) (size_of structs t) true site) s.locals other byte ≡ Some e) (sym byte_is) are) in
        subst (λ other. LeadsOn structs (shapes s.blocks) (Pointer m kinds.Nt t) other place e) block_is
        (subst (λ byte. LeadsOn structs (shapes s.blocks) (Pointer m kinds.Nt t) block byte e) byte_is
        (subst (λ e. LeadsOn structs (shapes s.blocks) (Pointer m kinds.Nt t) block byte e) ends_is (λ z place is lies. leads_here structs m t s block byte typed.1 z place is lies)))
      where
        some_same : (a b : Ends) → Some a ≡ Some b → a ≡ b
        some_same a b q = cc

-- ---- whole rows

row_fits : (e : Ends) (room most : ℕ) → e.low ≡ pos 0 → e.high ≡ pos most → room ≡ most → lie_within e room ≡ true
row_fits e room most low high same = by (int_le e.low e.high) refl
  where
    by : (test : Bool) → int_le e.low e.high ≡ test → lie_within e room ≡ true
    by false is = rw is refl
    by true is = rw is (and_from (int_le (pos 0) e.low) (int_le e.high (pos room)) (int_to (pos 0) e.low (omega (arith, ints, low))) (int_to e.high (pos room) (omega (arith, ints, high, same))))

module _ (structs : List Structure) (m : Mode) (t : CType) (n block : ℕ) (x : Shape) (s : State) (found : slice_get (shapes s.blocks) block ≡ Some x) (row : IsEndedRow structs x t n) where
  abbrev step : ℕ
  step = size_of structs t

  -- a place of its
  row_place : (k : ℕ) (inside : Bool) → k < suc n → (inside ≡ true → suc k < suc n) → IsEndedPlace structs (shapes s.blocks) t block (k * step) inside
  row_place k inside below before =
      record { shape = x; found = found; ended = row.ended; unsealed = row.unsealed; cells = suc n; types = row.types; strides = row.strides; some = row.some; number = k; is = refl; below = below; before_zero = before }

  pub row_start : (inside : Bool) → (inside ≡ true → 1 < suc n) → IsEndedPlace structs (shapes s.blocks) t block 0 inside
  row_start inside before = let first : 0 * step ≡ 0 = omega arith in subst (λ byte. IsEndedPlace structs (shapes s.blocks) t block byte inside) first (row_place 0 inside (omega arith) before)

  abbrev row_ends : Ends
  row_ends = record { low = pos 0 +ℤ ((pos 0 +ℤ pos 0) *ℤ pos step); high = pos 0 +ℤ ((pos 0 +ℤ pos n) *ℤ pos step); size = step }

  times_less : (a b : ℕ) → a * step ≤ b * step → a ≤ b
  times_less a b le = by (nat_le a b) refl
    where
      by : (test : Bool) → nat_le a b ≡ test → a ≤ b
      by true is = grind (arith, nat_tests)
      by false is = (let more : b < a = grind (arith, nat_tests) in let wide = times_more b a more in let some = row.some in absurd (omega (arith, le, wide, some)))
        where
          times_more : (a b : ℕ) → a < b → a * step + step ≤ b * step
          times_more a zero less = absurd (omega (arith, less))
          times_more zero (suc b) less = omega arith
          times_more (suc a) (suc b) less = let more = times_more a b (omega (arith, less)) in omega (arith, more)

  leads_at : (z : ℤ) (place : ℕ) → pos place ≡ pos 0 +ℤ (z *ℤ pos step) → lies_up_to row_ends (pos place) ≡ true → IsEndedPlace structs (shapes s.blocks) t block place (lies_below row_ends (pos place))
  leads_at (negsuc k) place is lies = absurd (none step row.some (omega (arith, ints, is)))
    where
      none : (size : ℕ) → 1 ≤ size → place + (suc k * size) ≡ 0 → ⊥
      none size some h = omega (arith, some, h)
  leads_at (pos k) place is lies =
      let same : place ≡ k * step = omega (arith, ints, is) in
      let parts = both_true (int_le row_ends.low (pos place)) (int_le (pos place) row_ends.high) lies in
      let high = int_from (pos place) row_ends.high parts.1 in
      let top : row_ends.high ≡ pos (n * step) = omega (arith, ints) in
      let most = times_less k n (omega (arith, ints, same, high, top)) in
      subst (λ byte. IsEndedPlace structs (shapes s.blocks) t block byte (lies_below row_ends (pos place))) (sym same)
      (row_place k (lies_below row_ends (pos place)) (omega (arith, most)) (λ below.
      let under = both_true (int_le row_ends.low (pos place)) (int_lt (pos place) row_ends.high) below in
      let less = lt_from (pos place) row_ends.high under.1 in
      strictly k (omega (arith, ints, same, less, top))))
    where
      lt_from : (a b : ℤ) → int_lt a b ≡ true → (a +ℤ pos 1) ≤ℤ b
      lt_from a b h = grind (arith, ints)

      strictly : (k : ℕ) → k * step < n * step → suc k < suc n
      strictly k less = by (nat_le n k) refl
        where
          times_up : (a b : ℕ) → a ≤ b → a * step ≤ b * step
          times_up zero b le = omega arith
          times_up (suc a) zero le = absurd (omega (arith, le))
          times_up (suc a) (suc b) le = let more = times_up a b (omega (arith, le)) in omega (arith, more)

          by : (test : Bool) → nat_le n k ≡ test → suc k < suc n
          by false is = grind (arith, nat_tests)
          by true is = let le : n ≤ k = grind (arith, nat_tests) in let up = times_up n k le in absurd (omega (arith, less, up))

  pub row_valid : (p : PointerBounds) → p.bounds ≡ row_of n → IsValid structs (Some p.bounds) (pointing (Pointer m kinds.Nt t) (At block 0)) s
  row_valid p is = subst (λ b. IsValid structs (Some b) (pointing (Pointer m kinds.Nt t) (At block 0)) s) (sym is) (record { passes = passes_row; leads = leads_row })
    where
      held : (b : Block) × (slice_get s.blocks block ≡ Some b) × (shape b ≡ x)
      held = mapped_from shape s.blocks block x found

      room : room_of true held.0 step ≡ n * step
      room =
          let all : sum x.strides ≡ suc n * step = ap sum row.strides ∙ row_size step (suc n) in
          let same : block_size held.0 ≡ sum x.strides = ap (λ (x : Shape). sum x.strides) held.2 in
          omega (arith, all, same)

      fits : lie_within row_ends (room_of true held.0 step) ≡ true
      fits =
          let top : row_ends.high ≡ pos (n * step) = omega (arith, ints) in
          let bottom : row_ends.low ≡ pos 0 = omega (arith, ints) in
          row_fits row_ends (room_of true held.0 step) (n * step) bottom top room

      passes_row : (site : Site) → is_valid (at_node (row_of n) step true site) (At block 0) s ≡ true
      passes_row site = valid_to (at_node (row_of n) step true site) block 0 s (record { held = held.0; ends = row_ends; found = held.1; are = refl; place = grind (arith, nat_tests); fits = fits })

      leads_row : (site : Site) (other byte : ℕ) (e : Ends) → At block 0 ≡ At other byte → ends_at (at_node (row_of n) step true site) s.locals other byte ≡ Some e → LeadsOn structs (shapes s.blocks) (Pointer m kinds.Nt t) other byte e
      leads_row site other byte e at are =
          let block_is : block ≡ other = cc in
          let byte_is : 0 ≡ byte = cc in
          let ends_is : row_ends ≡ e = some_same row_ends e (subst (λ byte. ends_at (at_node (row_of n) step true site) s.locals other byte ≡ Some e) (sym byte_is) are) in
          subst (λ other. LeadsOn structs (shapes s.blocks) (Pointer m kinds.Nt t) other byte e) block_is
          (subst (λ byte. LeadsOn structs (shapes s.blocks) (Pointer m kinds.Nt t) block byte e) byte_is
          (subst (λ e. LeadsOn structs (shapes s.blocks) (Pointer m kinds.Nt t) block 0 e) ends_is (λ z place is lies. leads_at z place is lies)))
        where
          some_same : (a b : Ends) → Some a ≡ Some b → a ≡ b
          some_same a b q = cc
