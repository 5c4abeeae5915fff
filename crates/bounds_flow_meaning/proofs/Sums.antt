-- Bounds of pointers that expressions make of pointers.
use Rattle.std.proofs.Common.{ℕ, zero, suc, ◌+◌, ◌-◌, ◌*◌, ◌≡◌, ◌<◌, ◌≤◌, ℤ, pos, negsuc, neg_ℤ, ◌+ℤ◌, ◌*ℤ◌, ◌≤ℤ◌, Bool, true, false, Option, None, Some, List, [], ◌∷◌, ◌++◌, length, map, replicate, refl, sym, ap, ◌∙◌, subst, arith, append_assoc}
use Rattle.std.specs.Prelude.{slice_get, nat_le, int_le, int_lt, sum}
use Rattle.std.proofs.lemmas.Int.{ints}
use Rattle.std.proofs.lemmas.Bool.{and_from}
use Rattle.std.proofs.lemmas.Option.{same_Some}
use Rattle.std.proofs.lemmas.Bool.Decides.{nat_tests}
use Rattle.std.proofs.lemmas.List.{map-append}
use Rattle.std.proofs.lemmas.List.Sums.{sum-map, sum_by-append}
use Rattle.flat_bytes.specs.Blocks.{first_offset, is_refused}
use Rattle.bounds_exprs.specs.declared.term.Term.{Term}
use Rattle.bounds_exprs.specs.declared.term.Bounds.{Bounds}
use Rattle.bounds_exprs.specs.Normal.{constant}
use Rattle.bounds_exprs.specs.Terms.{within_limit}
use Rattle.pointer_modes.specs.declared.ctype.Kind.TheVariants as kinds
use Rattle.pointer_modes.specs.Types.{CType, Int, Char, Struct, Pointer, Structure}
use Rattle.pointer_modes.specs.Layout.{size_of}
use Rattle.ckc_core.specs.declared.program.Site.{Site}
use Rattle.ckc_core.specs.Outcome.{Gives}
use Rattle.ckc_core.specs.Programs.{Initial}
use Rattle.ckc_core.specs.States.{Value, Null, At, Cell, Block, Local, State, Shape, shape, shapes, strides}
use Rattle.ckc_core.specs.Bounds.{Ends, base_byte, block_size, ends_at, ends_from, is_valid, lie_within, room_of, term_value}
use Rattle.ckc_core.specs.Meaning.{sound_if}
use Rattle.ckc_core.specs.Pointers.{before_zero, is_terminated, cells_of_elements, counter_behind, element_cells, element_size, made_elements, made_if, new_block, reaches}
use Rattle.bounds_flow_meaning.specs.Holding.{IsValid, at_node, is_ended, target_size}
use Rattle.bounds_flow_meaning.specs.Rows.{AreCellsBehind, AreCellsOf, AreElements, AreEnded, HasRow, LeadsOn}
use Rattle.bounds_flow_meaning.specs.Sums.{AuditsPass, BasesStay, BlocksGrow, EndsMoveBack, IsNew, NewBlocksCount, NullIsValid, VariablesAreBases, counted}
use Rattle.bounds_flow_meaning.proofs.Validity.{IsValidAt, base_found, between_parts, both_true, ends_made, ends_parts, ends_same, grown_valid, grows_here, int_from, int_to, kept, moved_ends, nat_more, null_valid, shape_there, times_plus, valid_from, valid_to}

pub audits_pass : AuditsPass
audits_pass structs s None l site h = refl
audits_pass structs s (Some b) l site h = ap (λ test. sound_if test site l.value s) (h.passes site)

pub null_is_valid : NullIsValid
null_is_valid structs s bounds l e = null_valid structs bounds l s e

pub blocks_grow : BlocksGrow
blocks_grow structs s t bounds l grows same h = grown_valid structs bounds l s t grows same h

pub variables_are_bases : VariablesAreBases
variables_are_bases structs s p l b there none h =
    kept structs b (record b { base = Some p }) l s s (grows_here (shapes s.blocks)) (λ site block byte e at are.
    let found : base_byte (Some p) s.locals block byte ≡ base_byte b.base s.locals block byte = base_found s.locals p l block byte byte there at ∙ sym (ap (λ o. base_byte o s.locals block byte) none) in
    ends_same n (base_byte b.base s.locals block byte) (base_byte (Some p) s.locals block byte) (term_value b.lo s.locals) (term_value b.lo s.locals) (term_value b.hi s.locals) (term_value b.hi s.locals) found refl refl ∙ are) h
  where
    n : ℕ
    n = target_size structs l.type

same_of : (block byte other there : ℕ) → At block byte ≡ At other there → block ≡ other
same_of block byte other there e = cc

same_at : (block byte other there : ℕ) → At block byte ≡ At other there → byte ≡ there
same_at block byte other there e = cc

reached : (o : Option Block) (held : Block) (place : ℕ) → o ≡ Some held → reaches o place ≡ true → nat_le place (block_size held) ≡ true
reached o held place e h = subst (λ o. reaches o place ≡ true) e h

ends_size : (size : ℕ) (base : Option ℕ) (lo hi : Option ℤ) (e : Ends) → ends_from size base lo hi ≡ Some e → size ≡ e.size
ends_size size base lo hi e h = ap (λ (e : Ends). e.size) (ends_parts size base lo hi e h).are

-- Places that are whole elements away from one of a pointer's places are whole elements away from the others: c elements to the one
-- and n from there on are c + n elements.
leads_moved : (structs : List Structure) (blocks : List Shape) (t : CType) (block byte place : ℕ) (c : ℤ) (e : Ends) → pos place ≡ pos byte +ℤ (c *ℤ pos e.size)
    → LeadsOn structs blocks t block byte e → LeadsOn structs blocks t block place e
leads_moved structs blocks Int block byte place c e step h = tt
leads_moved structs blocks Char block byte place c e step h = tt
leads_moved structs blocks (Struct number) block byte place c e step h = tt
leads_moved structs blocks (Pointer mode kinds.One target) block byte place c e step h =
    λ n further on lies. h (c +ℤ n) further (let sum = times_plus c n e.size in omega (arith, ints, step, on, sum)) lies
leads_moved structs blocks (Pointer mode kinds.Array target) block byte place c e step h =
    λ n further on lies. h (c +ℤ n) further (let sum = times_plus c n e.size in omega (arith, ints, step, on, sum)) lies
leads_moved structs blocks (Pointer mode kinds.Nt target) block byte place c e step h =
    λ n further on lies. h (c +ℤ n) further (let sum = times_plus c n e.size in omega (arith, ints, step, on, sum)) lies

-- a pointer that is valid, at another place of its block
module _ (structs : List Structure) (s : State) (l : Local) (block byte place : ℕ) (c : ℤ) (b d : Bounds) (at' : l.value ≡ At block byte)
    (step : pos place ≡ pos byte +ℤ (c *ℤ pos (target_size structs l.type))) (reach : reaches (slice_get s.blocks block) place ≡ true) where
  abbrev size : ℕ
  size = target_size structs l.type

  abbrev ended : Bool
  ended = is_ended l.type

  moved_valid : ((site : Site) (e : Ends) → ends_at (at_node b size ended site) s.locals block byte ≡ Some e → ends_at (at_node d size ended site) s.locals block place ≡ Some e) → IsValid structs (Some b) l s
      → IsValid structs (Some d) (record l { value = At block place }) s
  moved_valid ends h = record { passes = passes; leads = leads }
    where
      valid_before : (site : Site) → IsValidAt (at_node b size ended site) block byte s
      valid_before site = valid_from (at_node b size ended site) block byte s (subst (λ v. is_valid (at_node b size ended site) v s ≡ true) at' (h.passes site))

      passes : (site : Site) → is_valid (at_node d size ended site) (At block place) s ≡ true
      passes site =
          let v = valid_before site in
          valid_to (at_node d size ended site) block place s
          (record { held = v.held; ends = v.ends; found = v.found; are = ends site v.ends v.are; place = reached (slice_get s.blocks block) v.held place v.found reach; fits = v.fits })

      leads_here : (site : Site) (e : Ends) → ends_at (at_node d size ended site) s.locals block place ≡ Some e → LeadsOn structs (shapes s.blocks) l.type block place e
      leads_here site e are =
          let v = valid_before site in
          let same : v.ends ≡ e = same_Some v.ends e (sym (ends site v.ends v.are) ∙ are) in
          let sized : size ≡ v.ends.size = ends_size size (base_byte b.base s.locals block byte) (term_value b.lo s.locals) (term_value b.hi s.locals) v.ends v.are in
          subst (λ e. LeadsOn structs (shapes s.blocks) l.type block place e) same
          (leads_moved structs (shapes s.blocks) l.type block byte place c v.ends (step ∙ ap (λ n. pos byte +ℤ (c *ℤ pos n)) sized) (h.leads site block byte v.ends at' v.are))

      leads : (site : Site) (other there : ℕ) (e : Ends) → At block place ≡ At other there → ends_at (at_node d size ended site) s.locals other there ≡ Some e → LeadsOn structs (shapes s.blocks) l.type other there e
      leads site other there e same are =
          let blocks : block ≡ other = same_of block place other there same in
          let bytes : place ≡ there = same_at block place other there same in
          subst (λ k. LeadsOn structs (shapes s.blocks) l.type k there e) blocks (subst (λ k. LeadsOn structs (shapes s.blocks) l.type block k e) bytes
          (leads_here site e (ap (λ k. ends_at (at_node d size ended site) s.locals block k) bytes ∙ (ap (λ k. ends_at (at_node d size ended site) s.locals k there) blocks ∙ are))))

pub ends_move_back : EndsMoveBack
ends_move_back structs s l block byte place c b d at' step reach none moved h =
    moved_valid structs s l block byte place c b d at' step reach (λ site e are.
    let here : base_byte b.base s.locals block byte ≡ Some byte = ap (λ o. base_byte o s.locals block byte) none in
    let base : d.base ≡ None = (between_parts b.base (within_limit b.lo.var (b.lo.plus +ℤ neg_ℤ c)) (within_limit b.hi.var (b.hi.plus +ℤ neg_ℤ c)) d moved).base ∙ none in
    let there : base_byte d.base s.locals block place ≡ Some place = ap (λ o. base_byte o s.locals block place) base in
    moved_ends (target_size structs l.type) byte place c b d s.locals s.locals (base_byte b.base s.locals block byte) (base_byte d.base s.locals block place) e (λ t. refl) moved there step here are) h

pub bases_stay : BasesStay
bases_stay structs s l block byte place q c b at' step reach base h =
    moved_valid structs s l block byte place c b b at' step reach (λ site e are.
    let same : base_byte b.base s.locals block place ≡ base_byte b.base s.locals block byte = ap (λ o. base_byte o s.locals block place) base ∙ sym (ap (λ o. base_byte o s.locals block byte) base) in
    ends_same (target_size structs l.type) (base_byte b.base s.locals block byte) (base_byte b.base s.locals block place) (term_value b.lo s.locals) (term_value b.lo s.locals) (term_value b.hi s.locals) (term_value b.hi s.locals) same refl refl ∙ are) h

-- ---- new blocks

sum_strides : (xs ys : List Cell) → sum (strides (xs ++ ys)) ≡ sum (strides xs) + sum (strides ys)
sum_strides xs ys =
    let stride : Cell → ℕ = λ c. c.stride in
    let whole = sum-map stride (xs ++ ys) in
    let parts = sum_by-append stride xs ys in
    let first = sum-map stride xs in
    let second = sum-map stride ys in
    omega (arith, whole, parts, first, second)

element_strides : (element : List Initial) → strides (element_cells element) ≡ map (λ (i : Initial). i.stride) element
element_strides [] = refl
element_strides (i ∷ element) = ap (λ l. i.stride ∷ l) (element_strides element)

cells_size : (n : ℕ) (element : List Initial) → sum (strides (cells_of_elements n element)) ≡ n * element_size element
cells_size zero element = omega arith
cells_size (suc n) element =
    let parts = sum_strides (element_cells element) (cells_of_elements n element) in
    let first : sum (strides (element_cells element)) ≡ element_size element = ap sum (element_strides element) in
    let more = cells_size n element in
    omega (arith, parts, first, more)

-- each element stands between those before it and those behind
cells_split : (k m : ℕ) (element : List Initial) → cells_of_elements (k + suc m) element ≡ cells_of_elements k element ++ element_cells element ++ cells_of_elements m element
cells_split zero m element = ap (λ n. cells_of_elements n element) (let same : 0 + suc m ≡ suc m = omega arith in same)
cells_split (suc k) m element =
    let next : suc k + suc m ≡ suc (k + suc m) = omega arith in
    let one = element_cells element in
    let before = cells_of_elements k element in
    let after = cells_of_elements m element in
    ap (λ n. cells_of_elements n element) next ∙ (ap (λ cells. one ++ cells) (cells_split k m element)
    ∙ (sym (append_assoc one (before ++ one) after) ∙ ap (λ cells. cells ++ after) (sym (append_assoc one before one))))

new_there : {X : Type 0} (xs : List X) (x : X) → slice_get (xs ++ x ∷ []) (length xs) ≡ Some x
new_there [] x = refl
new_there (y ∷ xs) x = new_there xs x

pub lies : (e : Ends) (size : ℕ) → pos 0 ≤ℤ e.low → e.high ≤ℤ pos size → lie_within e size ≡ true
lies e size low high = by (int_le e.low e.high) refl
  where
    by : (b : Bool) → int_le e.low e.high ≡ b → lie_within e size ≡ true
    by true q = rw q (and_from (int_le (pos 0) e.low) (int_le e.high (pos size)) (int_to (pos 0) e.low low) (int_to e.high (pos size) high))
    by false q = rw q refl

pub less_of : (m n : ℕ) (b : ℤ) → int_lt (pos m) b ≡ true → b ≤ℤ pos n → m < n
less_of m n b h le = grind (arith, ints)

no_place : (k size place : ℕ) → pos place ≡ pos 0 +ℤ (negsuc k *ℤ pos (suc size)) → ⊥
no_place k size place step = omega (arith, ints, step)

-- a byte that is so many elements behind the first one, and before the end of the last
record IsElement (n size place : ℕ) : Type 0 where
  number : ℕ
  below : number < n
  is : place ≡ number * size

less_times : (k n size : ℕ) → k * size < n * size → k < n
less_times k n size h = by (nat_le n k) refl
  where
    by : (b : Bool) → nat_le n k ≡ b → k < n
    by true e = (let le : n ≤ k = grind (arith, nat_tests) in let more = nat_more n k size le in absurd (omega (arith, h, more)))
    by false e = grind (arith, nat_tests)

element_of : (k : ℤ) (n size place : ℕ) → pos place ≡ pos 0 +ℤ (k *ℤ pos size) → place < n * size → IsElement n size place
element_of (pos k) n size place step lt =
    let is : place ≡ k * size = omega (arith, ints, step) in
    record { number = k; below = less_times k n size (subst (λ place. place < n * size) is lt); is = is }
element_of (negsuc k) n zero place step lt = absurd (let none : n * 0 ≡ 0 = omega arith in omega (arith, none, lt))
element_of (negsuc k) n (suc size) place step lt = absurd (no_place k size place step)

-- what is given is one value in one state
same_value : (a v : Value) (r u : State) → Gives a r ≡ Gives v u → a ≡ v
same_value a v r u e = cc

same_state : (a v : Value) (r u : State) → Gives a r ≡ Gives v u → r ≡ u
same_state a v r u e = cc

-- ---- rows of one cell

module _ (structs : List Structure) (type : CType) (number : ℤ) (some : 1 ≤ size_of structs type) where
  abbrev one_cell : List Initial
  one_cell = record { type = type; stride = size_of structs type; number = number } ∷ []

  pub one_types : (m : ℕ) → map (λ (c : Cell). c.type) (cells_of_elements m one_cell) ≡ replicate m type
  one_types zero = refl
  one_types (suc m) = ap (λ types. type ∷ types) (one_types m)

  pub one_strides : (m : ℕ) → strides (cells_of_elements m one_cell) ≡ replicate m (size_of structs type)
  one_strides zero = refl
  one_strides (suc m) = ap (λ sizes. size_of structs type ∷ sizes) (one_strides m)

  -- such a row, which ends with a zero
  abbrev row_block : ℕ → Block
  row_block n = new_block true n one_cell

-- as many bytes as there are elements of, beside a zero behind them
room_made : (terminated : Bool) (n size : ℕ) (element : List Initial) → element_size element ≡ size → room_of terminated (new_block terminated n element) size ≡ n * size
room_made false n size element sized = cells_size n element ∙ ap (λ k. n * k) sized
room_made true n size element sized =
    let bytes = cells_size (suc n) element in
    let more : suc n * size ≡ size + n * size = omega arith in
    ap (λ b. b - size) (bytes ∙ ap (λ k. suc n * k) sized) ∙ (let left : suc n * size - size ≡ n * size = omega (arith, more) in left)

module _ (structs : List Structure) (terminated : Bool) (element : List Initial) (t : Term) (l : Local) (s : State) (sized : element_size element ≡ target_size structs l.type) (cells : AreCellsBehind structs l.type element)
    (alike : terminated ≡ is_ended l.type) where
  abbrev made : ℕ → Block
  made n = new_block terminated n element

  -- a value of the type stands at each element
  element_row : (target : CType) (n k : ℕ) → AreCellsOf structs target element → k < n → HasRow structs (shape (new_block false n element)) (k * element_size element) target
  element_row target n k cells lt =
      let more = n - suc k in
      let count : n ≡ k + suc more = omega (arith, lt) in
      let whole : cells_of_elements n element ≡ cells_of_elements k element ++ element_cells element ++ cells_of_elements more element =
      ap (λ n. cells_of_elements n element) count ∙ cells_split k more element in
      subst (λ cells. HasRow structs (shape (record { cells = cells; zero_ended = false; is_sealed = false })) (k * element_size element) target) (sym whole) (cells k (cells_of_elements more element))

  abbrev made_blocks : ℕ → List Block
  made_blocks n = s.blocks ++ made n ∷ []

  abbrev blocks_with : Block → List Block
  blocks_with b = s.blocks ++ b ∷ []

  made_elements_lead : (target : CType) (n size : ℕ) (e : Ends) → AreCellsOf structs target element → element_size element ≡ size → e.size ≡ size → pos 0 ≤ℤ e.low → e.high ≤ℤ pos (n * size)
      → AreElements structs (shapes (blocks_with (new_block false n element))) target (length s.blocks) 0 e
  made_elements_lead target n size e cells same sized low high k place step lies =
      let parts = both_true (int_le e.low (pos place)) (int_lt (pos place) e.high) lies in
      let lt : place < n * size = less_of place (n * size) e.high parts.1 high in
      let at' : IsElement n size place = element_of k n size place (step ∙ ap (λ m. pos 0 +ℤ (k *ℤ pos m)) sized) lt in
      let row = element_row target n at'.number cells at'.below in
      record {
        shape = shape (new_block false n element);
        found = shape_there (blocks_with (new_block false n element)) (length s.blocks) (new_block false n element) (new_there s.blocks (new_block false n element));
        row = subst (λ byte. HasRow structs (shape (new_block false n element)) byte target) (ap (λ m. at'.number * m) same ∙ sym at'.is) row;
      }

  -- up to the zero behind them
  made_row_leads : (target : CType) (n : ℕ) (e : Ends) (number : ℤ) (some : 1 ≤ size_of structs target) → e.size ≡ size_of structs target → pos 0 ≤ℤ e.low → e.high ≤ℤ pos (n * size_of structs target)
      → AreEnded structs (shapes (blocks_with (row_block structs target number some n))) target (length s.blocks) 0 e
  made_row_leads target n e number some sized low high k place step lies =
      let bytes : ℕ = size_of structs target in
      let made : Block = row_block structs target number some n in
      let parts = both_true (int_le e.low (pos place)) (int_le (pos place) e.high) lies in
      let to = int_from (pos place) e.high parts.1 in
      let all : suc n * bytes ≡ bytes + n * bytes = omega arith in
      let lt : place < suc n * bytes = omega (arith, ints, to, high, all, some) in
      let at' : IsElement (suc n) bytes place = element_of k (suc n) bytes place (step ∙ ap (λ m. pos 0 +ℤ (k *ℤ pos m)) sized) lt in
      record {
        shape = shape made;
        found = shape_there (blocks_with made) (length s.blocks) made (new_there s.blocks made);
        ended = refl;
        unsealed = refl;
        cells = suc n;
        types = one_types structs target number some (suc n);
        strides = one_strides structs target number some (suc n);
        some = some;
        number = at'.number;
        is = at'.is;
        below = at'.below;
        before_zero = λ inside.
            let below = both_true (int_le e.low (pos place)) (int_lt (pos place) e.high) inside in
            let less : place < n * bytes = less_of place (n * bytes) e.high below.1 high in
            let before : at'.number < n = less_times at'.number n bytes (subst (λ byte. byte < n * bytes) at'.is less) in
            omega (arith, before);
      }

  made_leads : (type : CType) (ended : Bool) (n : ℕ) (e : Ends) → ended ≡ is_ended type → AreCellsBehind structs type element → element_size element ≡ target_size structs type → e.size ≡ target_size structs type → pos 0 ≤ℤ e.low
      → e.high ≤ℤ pos (n * target_size structs type) → LeadsOn structs (shapes (blocks_with (new_block ended n element))) type (length s.blocks) 0 e
  made_leads Int ended n e alike cells same sized low high = tt
  made_leads Char ended n e alike cells same sized low high = tt
  made_leads (Struct number) ended n e alike cells same sized low high = tt
  made_leads (Pointer mode kinds.One target) false n e alike cells same sized low high = made_elements_lead target n (size_of structs target) e cells same sized low high
  made_leads (Pointer mode kinds.One target) true n e alike cells same sized low high = absurd (cc)
  made_leads (Pointer mode kinds.Array target) false n e alike cells same sized low high = made_elements_lead target n (size_of structs target) e cells same sized low high
  made_leads (Pointer mode kinds.Array target) true n e alike cells same sized low high = absurd (cc)
  made_leads (Pointer mode kinds.Nt target) false n e alike cells same sized low high = absurd (cc)
  made_leads (Pointer mode kinds.Nt target) true n e alike cells same sized low high =
      subst (λ element. AreEnded structs (shapes (blocks_with (new_block true n element))) target (length s.blocks) 0 e) (sym cells.is) (made_row_leads target n e cells.number cells.some sized low high)

  made_valid : (n : ℕ) → term_value t s.locals ≡ Some (pos n)
      → IsValid structs (Some (counted t)) (record l { value = At (length s.blocks) 0 }) (record s { blocks = s.blocks ++ made n ∷ [] })
  made_valid n h = record { passes = passes; leads = leads }
    where
      size : ℕ
      size = target_size structs l.type

      ended : Bool
      ended = is_ended l.type

      e : Ends
      e = record { low = pos 0 +ℤ ((pos 0 +ℤ pos 0) *ℤ pos size); high = pos 0 +ℤ (pos n *ℤ pos size); size = size }

      are : (site : Site) → ends_at (at_node (counted t) size ended site) s.locals (length s.blocks) 0 ≡ Some e
      are site = ends_made size 0 (pos 0 +ℤ pos 0) (pos n) (Some 0) (term_value (constant (pos 0)) s.locals) (term_value t s.locals) refl refl h

      passes : (site : Site) → is_valid (at_node (counted t) size ended site) (At (length s.blocks) 0) (record s { blocks = made_blocks n }) ≡ true
      passes site =
          let bytes : room_of ended (made n) size ≡ n * size = ap (λ b. room_of b (made n) size) (sym alike) ∙ room_made terminated n size element sized in
          valid_to (at_node (counted t) size ended site) (length s.blocks) 0 (record s { blocks = made_blocks n }) (record {
            held = made n;
            ends = e;
            found = new_there s.blocks (made n);
            are = are site;
            place = grind (arith, nat_tests);
            fits = lies e (room_of ended (made n) size) (omega (arith, ints)) (omega (arith, ints, bytes));
          })

      leads : (site : Site) (block byte : ℕ) (f : Ends) → At (length s.blocks) 0 ≡ At block byte → ends_at (at_node (counted t) size ended site) s.locals block byte ≡ Some f
          → LeadsOn structs (shapes (made_blocks n)) l.type block byte f
      leads site block byte f same found =
          let blocks : length s.blocks ≡ block = same_of (length s.blocks) 0 block byte same in
          let bytes : 0 ≡ byte = same_at (length s.blocks) 0 block byte same in
          let ends : e ≡ f = same_Some e f (sym (are site) ∙ (ap (λ k. ends_at (at_node (counted t) size ended site) s.locals (length s.blocks) k) bytes
          ∙ (ap (λ k. ends_at (at_node (counted t) size ended site) s.locals k byte) blocks ∙ found))) in
          subst (λ k. LeadsOn structs (shapes (made_blocks n)) l.type k byte f) blocks (subst (λ k. LeadsOn structs (shapes (made_blocks n)) l.type (length s.blocks) k f) bytes
          (subst (λ f. LeadsOn structs (shapes (made_blocks n)) l.type (length s.blocks) 0 f) ends
          (made_leads l.type terminated n e alike cells sized refl (omega (arith, ints)) (omega (arith, ints)))))

  null_new : IsNew structs (counted t) (record l { value = Null }) s s
  null_new = record { valid = null_valid structs (Some (counted t)) (record l { value = Null }) s refl; grows = grows_here (shapes s.blocks); locals = refl }

  given : (a v : Value) (r u : State) → Gives a r ≡ Gives v u → IsNew structs (counted t) (record l { value = a }) s r → IsNew structs (counted t) (record l { value = v }) s u
  given a v r u e h =
      let value : a ≡ v = same_value a v r u e in
      let state : r ≡ u = same_state a v r u e in
      subst (λ u. IsNew structs (counted t) (record l { value = v }) s u) state (subst (λ v. IsNew structs (counted t) (record l { value = v }) s r) value h)

  made_new : (b : Bool) (n : ℕ) (v : Value) (u : State) → term_value t s.locals ≡ Some (pos n) → made_if b terminated n element s ≡ Gives v u → IsNew structs (counted t) (record l { value = v }) s u
  made_new true n v u h e = given Null v s u e null_new
  made_new false n v u h e =
      given (At (length s.blocks) 0) v (record s { blocks = s.blocks ++ made n ∷ [] }) u e
      (record { valid = made_valid n h; grows = (shape (made n) ∷ [], map-append shape s.blocks (made n ∷ [])); locals = refl })

pub new_blocks_count : NewBlocksCount
new_blocks_count structs room terminator element t (negsuc n) l v s u h sized cells alike e =
    given structs (is_terminated terminator) element t l s sized cells alike Null v s u e (null_new structs (is_terminated terminator) element t l s sized cells alike)
new_blocks_count structs room terminator element t (pos zero) l v s u h sized cells alike e =
    given structs (is_terminated terminator) element t l s sized cells alike Null v s u e (null_new structs (is_terminated terminator) element t l s sized cells alike)
new_blocks_count structs room terminator element t (pos (suc n)) l v s u h sized cells alike e =
    let ended = is_terminated terminator in
    let count = before_zero terminator (suc n) in
    made_new structs ended element t l s sized cells alike (is_refused room (counter_behind first_offset s.blocks) (made_elements ended count * element_size element)) count v u (h n refl) e
