-- Behind the count of the elements before its zero a null-terminated pointer is valid up to that.
use Rattle.std.proofs.Common.{ℕ, zero, suc, ◌+◌, ◌-◌, ◌*◌, ◌≡◌, ◌<◌, ◌≤◌, ℤ, pos, negsuc, ◌+ℤ◌, ◌*ℤ◌, ◌≤ℤ◌, Bool, true, false, cond, ◌&&◌, ◌⊎◌, inl, inr, Option, None, Some, List, replicate, set, length, refl, sym, ap, ◌∙◌, subst, arith}
use Rattle.std.specs.Prelude.{◌==◌, slice_get, option_map, nat_lt, int_le, int_lt, sum}
use Rattle.std.proofs.lemmas.Int.{ints}
use Rattle.std.proofs.lemmas.Bool.{and_from}
use Rattle.std.proofs.lemmas.Option.{same_Some}
use Rattle.std.proofs.lemmas.Bool.Decides.{nat_tests}
use Rattle.bounds_exprs.specs.declared.term.Bounds.{Bounds}
use Rattle.bounds_exprs.specs.Terms.{is_var}
use Rattle.bounds_exprs.specs.Changes.{is_named}
use Rattle.subsumption.specs.ClosedTables.{entails_terms}
use Rattle.subsumption.specs.TableLaws.{MeetsTable}
use Rattle.subsumption.proofs.TableSteps.{give_tables}
use Rattle.bounds_flow.specs.declared.held.Held.{Held}
use Rattle.bounds_flow.specs.declared.held.Mark.TheVariants as marks
use Rattle.bounds_flow.specs.Pointers.{after_number, dropped, is_own, is_settled, lost, stays_true, where_bounds, with_declared}
use Rattle.bounds_flow.specs.Flows.{Knowledge, count_to, held_at, length_assigned, measured, measured_by, number, number_assigned, variable}
use Rattle.bounds_flow.specs.Conditions.{IsFlow}
use Rattle.pointer_modes.specs.declared.ctype.Mode.{Mode}
use Rattle.pointer_modes.specs.declared.ctype.Kind.TheVariants as kinds
use Rattle.pointer_modes.specs.Types.{CType, Int, Char, Struct, Pointer, Structure}
use Rattle.pointer_modes.specs.Layout.{size_of}
use Rattle.ckc_core.specs.declared.program.Site.{Site}
use Rattle.ckc_core.specs.States.{Value, Number, Null, At, Cell, Local, Block, State, Shape, cell_at, has_type, number_at, shape, shapes, strides}
use Rattle.ckc_core.specs.Bounds.{Ends, base_byte, block_size, ends_at, is_valid, lie_within, term_value}
use Rattle.ckc_core.specs.Pointers.{lies_below, lies_up_to}
use Rattle.bounds_flow_meaning.specs.Rows.{AreEnded, IsEndedPlace}
use Rattle.bounds_flow_meaning.specs.Zeros.{CountsTo, HasCounted, IsCounted}
use Rattle.bounds_flow_meaning.specs.Holding.{HaveOneStart, Holds, IsFormed, IsHeld, IsValid, at_node, is_ended, numbers_in, target_size, types_of}
use Rattle.bounds_flow_meaning.specs.Laws.{with_local}
use Rattle.bounds_flow_meaning.proofs.Facts.{met_order}
use Rattle.bounds_flow_meaning.proofs.Numbers.{found_same, local_there, looked_up, numbers_there, other_term, same_types, term_there}
use Rattle.bounds_flow_meaning.proofs.Pointers.{changed_null, changed_settled, none_held, settled_is, stays_before}
use Rattle.bounds_flow_meaning.proofs.Steps.{at_map, each_set, formed_set, number_holds}
use Rattle.bounds_flow_meaning.proofs.Sums.{lies}
use Rattle.bounds_flow_meaning.proofs.Validity.{block_there, both_true, ends_made, ends_parts, int_from, int_to, nat_more, neither, shape_there, valid_from, valid_to}
use Rattle.bounds_flow_meaning.proofs.Widening.{none_is, row_size}

-- ---- rows

-- behind the last cell of a row begins none
row_past : (size : ℕ) → 1 ≤ size → (m k : ℕ) → m ≤ k → number_at (replicate m size) (k * size) ≡ None
row_past size some zero k more = refl
row_past size some (suc m) zero more = absurd (omega (arith, more))
row_past size some (suc m) (suc k) more =
    let whole : suc k * size ≡ size + k * size = omega arith in
    let begun : (suc k * size == 0) ≡ false = grind (arith, whole, some) in
    let behind : nat_lt (suc k * size) size ≡ false = grind (arith, whole, nat_tests) in
    let rest : suc k * size - size ≡ k * size = omega (arith, whole) in
    rw (begun, behind, rest) (ap (option_map (λ n. suc n)) (row_past size some m k (omega (arith, more))))

plus_times : (a b n : ℕ) → (a + b) * n ≡ a * n + b * n
plus_times a b n = omega arith

times_less : (k m n : ℕ) → 1 ≤ n → k * n ≤ m * n → k ≤ m
times_less k m n some less = by (nat_lt m k) refl
  where
    by : (test : Bool) → nat_lt m k ≡ test → k ≤ m
    by true is =
        let more = nat_more (suc m) k n (let above : m < k = grind (arith, nat_tests, is) in omega (arith, above)) in
        let next : suc m * n ≡ n + m * n = omega arith in
        absurd (omega (arith, some, less, more, next))
    by false is = grind (arith, nat_tests, is)

-- where a cell begins so many elements further on, the row is longer
cell_below : (structs : List Structure) (s : State) (target : CType) (block byte place more : ℕ) (inside : Bool) (c : Cell) → cell_at s.blocks block place ≡ Some c
    → (h : IsEndedPlace structs (shapes s.blocks) target block byte inside) → place ≡ byte + more * size_of structs target → h.number + more < h.cells
cell_below structs s target block byte place more inside c found h at' = by (nat_lt (h.number + more) h.cells) refl
  where
    by : (test : Bool) → nat_lt (h.number + more) h.cells ≡ test → h.number + more < h.cells
    by true is = grind (arith, nat_tests, is)
    by false is =
        let b = block_there s.blocks block h.shape h.found in
        let size : ℕ = size_of structs target in
        let row : strides b.0.cells ≡ replicate h.cells size = ap (λ (x : Shape). x.strides) b.2 ∙ h.strides in
        let whole = plus_times h.number more size in
        let stands = h.is in
        let here : place ≡ (h.number + more) * size = omega (arith, at', stands, whole) in
        let past : h.cells ≤ h.number + more = grind (arith, nat_tests, is) in
        let number : number_at (strides b.0.cells) place ≡ None =
        ap (λ l. number_at l place) row ∙ ap (number_at (replicate h.cells size)) here ∙ row_past size h.some h.cells (h.number + more) past in
        let none : None ≡ Some c = rw (b.1, number) at found in
        absurd (cc)

-- ---- ends up to the count

no_step_back : (k size there byte : ℕ) → 1 ≤ size → pos there ≡ pos byte +ℤ (negsuc k *ℤ pos size) → pos byte ≤ℤ pos there → ⊥
no_step_back k zero there byte some step le = omega (arith, some)
no_step_back k (suc size) there byte some step le = omega (arith, ints, step, le)

not_below : (a b : ℤ) → int_lt a b ≡ false → b ≤ℤ a
not_below a b h = grind (arith, ints)

module _ (structs : List Structure) (s : State) (target : CType) (block byte : ℕ) (e : Ends) (more place : ℕ) (c : Cell) (lies_here : lies_up_to e (pos byte) ≡ true) (found : cell_at s.blocks block place ≡ Some c)
    (at' : place ≡ byte + more * size_of structs target) (sized : e.size ≡ size_of structs target) (leads : AreEnded structs (shapes s.blocks) target block byte e) where
  abbrev bytes : ℕ
  bytes = size_of structs target

  first : IsEndedPlace structs (shapes s.blocks) target block byte (lies_below e (pos byte))
  first = leads (pos 0) byte (let none : 0 * e.size ≡ 0 = omega arith in omega (arith, ints, none)) lies_here

  top_below : first.number + more < first.cells
  top_below = cell_below structs s target block byte place more (lies_below e (pos byte)) c found first at'

  -- the ends from a byte on up to the count
  abbrev up_to : ℤ → Ends
  up_to low = record { low = low; high = pos byte +ℤ (pos more *ℤ pos e.size); size = e.size }

  module _ (low : ℤ) (from : e.low ≤ℤ low) (to : low ≤ℤ pos byte) where
    inside_of : (n there : ℕ) → there ≡ byte + n * bytes → n ≤ more → int_lt (pos there) (pos byte +ℤ (pos more *ℤ pos e.size)) ≡ true → suc (first.number + n) < first.cells
    inside_of n there is less below = by (nat_lt n more) refl
      where
        by : (test : Bool) → nat_lt n more ≡ test → suc (first.number + n) < first.cells
        by true q = let lt : n < more = grind (arith, nat_tests, q) in let top = top_below in omega (arith, lt, top)
        by false q =
            let same : n ≡ more = grind (arith, nat_tests, q, less) in
            let high : pos there ≡ pos byte +ℤ (pos more *ℤ pos e.size) = ap pos (is ∙ ap (λ n. byte + n * bytes) same) ∙ ap (λ m. pos byte +ℤ (pos more *ℤ pos m)) (sym sized) in
            absurd (let lt : int_lt (pos there) (pos there) ≡ true = subst (λ z. int_lt (pos there) z ≡ true) (sym high) below in grind (arith, ints, lt))

    -- a place from the pointer on
    further : (n there : ℕ) → pos there ≡ pos byte +ℤ (pos n *ℤ pos e.size) → n ≤ more → IsEndedPlace structs (shapes s.blocks) target block there (lies_below (up_to low) (pos there))
    further n there step less =
        let stands = first.is in
        let top = top_below in
        let plain : pos there ≡ pos byte +ℤ (pos n *ℤ pos bytes) = step ∙ ap (λ m. pos byte +ℤ (pos n *ℤ pos m)) sized in
        let is : there ≡ byte + n * bytes = omega (arith, ints, plain) in
        let whole = plus_times first.number n bytes in
        record {
          shape = first.shape;
          found = first.found;
          ended = first.ended;
          unsealed = first.unsealed;
          cells = first.cells;
          types = first.types;
          strides = first.strides;
          some = first.some;
          number = first.number + n;
          is = omega (arith, is, stands, whole);
          below = omega (arith, top, less);
          before_zero = λ inside. inside_of n there is less (both_true (int_le low (pos there)) (int_lt (pos there) (pos byte +ℤ (pos more *ℤ pos e.size))) inside).1;
        }

    at_or_behind : (n : ℤ) (there : ℕ) → pos there ≡ pos byte +ℤ (n *ℤ pos e.size) → pos byte ≤ℤ pos there → int_le (pos there) (pos byte +ℤ (pos more *ℤ pos e.size)) ≡ true
        → IsEndedPlace structs (shapes s.blocks) target block there (lies_below (up_to low) (pos there))
    at_or_behind (pos n) there step from_byte high =
        let le = int_from (pos there) (pos byte +ℤ (pos more *ℤ pos e.size)) high in
        let some : 1 ≤ e.size = subst (λ m. 1 ≤ m) (sym sized) first.some in
        further n there step (times_less n more e.size some (omega (arith, ints, le, step)))
    at_or_behind (negsuc n) there step from_byte high = absurd (no_step_back n e.size there byte (subst (λ m. 1 ≤ m) (sym sized) first.some) step from_byte)

    pub leads_counted : AreEnded structs (shapes s.blocks) target block byte (up_to low)
    leads_counted n there step lies' =
        let parts = both_true (int_le low (pos there)) (int_le (pos there) (pos byte +ℤ (pos more *ℤ pos e.size))) lies' in
        by (int_lt (pos there) (pos byte)) refl parts.0 parts.1
      where
        by : (test : Bool) → int_lt (pos there) (pos byte) ≡ test → int_le low (pos there) ≡ true → int_le (pos there) (pos byte +ℤ (pos more *ℤ pos e.size)) ≡ true
            → IsEndedPlace structs (shapes s.blocks) target block there (lies_below (up_to low) (pos there))
        by true before low' high' =
            let here = both_true (int_le e.low (pos byte)) (int_le (pos byte) e.high) lies_here in
            let le = int_from (pos byte) e.high here.1 in
            let low_le = int_from low (pos there) low' in
            let lt : int_lt (pos there) e.high ≡ true = grind (arith, ints, before, le) in
            let up : int_le (pos there) e.high ≡ true = grind (arith, ints, before, le) in
            let down : int_le e.low (pos there) ≡ true = int_to e.low (pos there) (omega (arith, ints, from, low_le)) in
            let old = leads n there step (and_from (int_le e.low (pos there)) (int_le (pos there) e.high) down up) in
            record {
              shape = old.shape;
              found = old.found;
              ended = old.ended;
              unsealed = old.unsealed;
              cells = old.cells;
              types = old.types;
              strides = old.strides;
              some = old.some;
              number = old.number;
              is = old.is;
              below = old.below;
              before_zero = λ inside. old.before_zero (and_from (int_le e.low (pos there)) (int_lt (pos there) e.high) down lt);
            }
        by false behind low' high' = at_or_behind n there step (not_below (pos there) (pos byte) behind) high'

    -- and these ends lie up to the last element
    pub fits_counted : (held : Block) → slice_get s.blocks block ≡ Some held → lie_within e (block_size held - bytes) ≡ true → lie_within (up_to low) (block_size held - bytes) ≡ true
    fits_counted held there fits =
        let here = both_true (int_le e.low (pos byte)) (int_le (pos byte) e.high) lies_here in
        let low_le = int_from e.low (pos byte) here.0 in
        let high_le = int_from (pos byte) e.high here.1 in
        let order : int_le e.low e.high ≡ true = int_to e.low e.high (omega (arith, ints, low_le, high_le)) in
        let both : (int_le (pos 0) e.low && int_le e.high (pos (block_size held - bytes))) ≡ true = rw order at fits in
        let zero_le = int_from (pos 0) e.low (both_true (int_le (pos 0) e.low) (int_le e.high (pos (block_size held - bytes))) both).0 in
        let same : shape held ≡ first.shape = same_Some (shape held) first.shape (sym (shape_there s.blocks block held there) ∙ first.found) in
        let row : block_size held ≡ first.cells * bytes = ap (λ (x : Shape). sum x.strides) same ∙ ap sum first.strides ∙ row_size bytes first.cells in
        let room = nat_more (suc (first.number + more)) first.cells bytes (let top = top_below in omega (arith, top)) in
        let next : suc (first.number + more) * bytes ≡ bytes + (first.number * bytes + more * bytes) = omega arith in
        let stands = first.is in
        let high : pos byte +ℤ (pos more *ℤ pos e.size) ≡ pos byte +ℤ (pos more *ℤ pos bytes) = ap (λ m. pos byte +ℤ (pos more *ℤ pos m)) sized in
        lies (up_to low) (block_size held - bytes) (omega (arith, ints, zero_le, from)) (omega (arith, ints, row, room, next, stands, high))

-- ---- bounds up to the count

module _ (structs : List Structure) (s : State) (x : ℕ) (old : Local) (more : ℕ) (b n : Bounds) (m : Mode) (target : CType) (none : b.base ≡ None) (none' : n.base ≡ None)
    (begins : (term_value n.lo (with_local x old (Number (pos more)) s).locals ≡ term_value b.lo s.locals) ⊎ (term_value n.lo (with_local x old (Number (pos more)) s).locals ≡ Some (pos 0)))
    (high : term_value n.hi (with_local x old (Number (pos more)) s).locals ≡ Some (pos more)) where
  abbrev now : State
  now = with_local x old (Number (pos more)) s

  abbrev size : ℕ
  size = size_of structs target

  -- where the ends stand
  record IsMeasured (site : Site) (block byte : ℕ) (e : Ends) : Type 0 where
    low : ℤ
    from : e.low ≤ℤ low
    to : low ≤ℤ pos byte
    sized : e.size ≡ size
    are : ends_at (at_node n size true site) now.locals block byte ≡ Some (record { low = low; high = pos byte +ℤ (pos more *ℤ pos e.size); size = e.size })

  measured_from : (site : Site) (block byte : ℕ) (e : Ends) (l : ℤ) → term_value n.lo now.locals ≡ Some l → e.low ≤ℤ (pos byte +ℤ (l *ℤ pos size)) → (pos byte +ℤ (l *ℤ pos size)) ≤ℤ pos byte
      → e.size ≡ size → IsMeasured site block byte e
  measured_from site block byte e l is from to sized = record {
    low = pos byte +ℤ (l *ℤ pos size);
    from = from;
    to = to;
    sized = sized;
    are = ends_made size byte l (pos more) (base_byte n.base now.locals block byte) (term_value n.lo now.locals) (term_value n.hi now.locals) (ap (λ o. base_byte o now.locals block byte) none') is high
        ∙ ap (λ m. Some (record { low = pos byte +ℤ (l *ℤ pos size); high = pos byte +ℤ (pos more *ℤ pos m); size = m })) (sym sized);
  }

  measured_ends : (site : Site) (block byte : ℕ) (e : Ends) → ends_at (at_node b size true site) s.locals block byte ≡ Some e → lies_up_to e (pos byte) ≡ true → IsMeasured site block byte e
  measured_ends site block byte e h lies_here =
      let p = ends_parts size (base_byte b.base s.locals block byte) (term_value b.lo s.locals) (term_value b.hi s.locals) e h in
      let here : base_byte b.base s.locals block byte ≡ Some byte = ap (λ o. base_byte o s.locals block byte) none in
      let same : p.byte ≡ byte = same_Some p.byte byte (sym p.at_base ∙ here) in
      let sized : e.size ≡ size = sym (ap (λ (x : Ends). x.size) p.are) in
      let begun : e.low ≡ pos byte +ℤ (p.low *ℤ pos size) = sym (ap (λ (x : Ends). x.low) p.are) ∙ ap (λ n. pos n +ℤ (p.low *ℤ pos size)) same in
      let below = int_from e.low (pos byte) (both_true (int_le e.low (pos byte)) (int_le (pos byte) e.high) lies_here).0 in
      elim begins [
        | inl alike ↦ measured_from site block byte e p.low (alike ∙ p.at_low) (omega (arith, ints, begun)) (omega (arith, ints, begun, below)) sized
        | inr at_zero ↦ (
            let nothing : pos 0 *ℤ pos size ≡ pos 0 = (let q : 0 * size ≡ 0 = omega arith in ap pos q) in
            measured_from site block byte e (pos 0) at_zero (omega (arith, ints, nothing, below)) (omega (arith, ints, nothing)) sized)
      ]

  module _ (v : Value) (h : IsValid structs (Some b) (record { type = Pointer m kinds.Nt target; value = v }) s) (counted : CountsTo structs b more (record { type = Pointer m kinds.Nt target; value = v }) s) where
    place_is : (block byte : ℕ) (e : Ends) → e.size ≡ size → (c : IsCounted more block byte e s) → c.place ≡ byte + more * size
    place_is block byte e sized c = c.at' ∙ ap (λ n. byte + more * n) sized

    leads_on : (site : Site) (block byte : ℕ) (e : Ends) → v ≡ At block byte → ends_at (at_node n size true site) now.locals block byte ≡ Some e → AreEnded structs (shapes s.blocks) target block byte e
    leads_on site block byte e at' are =
        let v' = valid_from (at_node b size true site) block byte s (subst (λ v. is_valid (at_node b size true site) v s ≡ true) at' (h.passes site)) in
        let c = counted site block byte v'.ends at' v'.are in
        let w = measured_ends site block byte v'.ends v'.are c.lies in
        let same = same_Some (record { low = w.low; high = pos byte +ℤ (pos more *ℤ pos v'.ends.size); size = v'.ends.size }) e (sym w.are ∙ are) in
        subst (λ e. AreEnded structs (shapes s.blocks) target block byte e) same
        (leads_counted structs s target block byte v'.ends more c.place c.cell c.lies c.found (place_is block byte v'.ends w.sized c) w.sized (h.leads site block byte v'.ends at' v'.are) w.low w.from w.to)

    passes_at : (site : Site) (block byte : ℕ) → v ≡ At block byte → is_valid (at_node b size true site) (At block byte) s ≡ true → is_valid (at_node n size true site) (At block byte) now ≡ true
    passes_at site block byte at' valid =
        let v' = valid_from (at_node b size true site) block byte s valid in
        let c = counted site block byte v'.ends at' v'.are in
        let w = measured_ends site block byte v'.ends v'.are c.lies in
        let made : Ends = record { low = w.low; high = pos byte +ℤ (pos more *ℤ pos v'.ends.size); size = v'.ends.size } in
        let room : lie_within v'.ends (block_size v'.held - size) ≡ true = subst (λ n. lie_within v'.ends (block_size v'.held - n) ≡ true) w.sized v'.fits in
        let wide = fits_counted structs s target block byte v'.ends more c.place c.cell c.lies c.found (place_is block byte v'.ends w.sized c) w.sized (h.leads site block byte v'.ends at' v'.are) w.low w.from w.to v'.held v'.found room in
        valid_to (at_node n size true site) block byte now (record {
          held = v'.held;
          ends = made;
          found = v'.found;
          are = w.are;
          place = v'.place;
          fits = subst (λ n. lie_within made (block_size v'.held - n) ≡ true) (sym w.sized) wide;
        })

    passes_of : (site : Site) (w : Value) → v ≡ w → is_valid (at_node b size true site) w s ≡ true → is_valid (at_node n size true site) w now ≡ true
    passes_of site (Number z) is valid = absurd (cc)
    passes_of site Null is valid = refl
    passes_of site (At block byte) is valid = passes_at site block byte is valid

    pub valid_counted : IsValid structs (Some n) (record { type = Pointer m kinds.Nt target; value = v }) now
    valid_counted = record { passes = λ site. passes_of site v refl (h.passes site); leads = leads_on }

counted_of_type : (structs : List Structure) (s : State) (x : ℕ) (old : Local) (more : ℕ) (b n : Bounds) (type : CType) (v : Value) → is_ended type ≡ true → b.base ≡ None → n.base ≡ None
    → ((term_value n.lo (with_local x old (Number (pos more)) s).locals ≡ term_value b.lo s.locals) ⊎ (term_value n.lo (with_local x old (Number (pos more)) s).locals ≡ Some (pos 0)))
    → term_value n.hi (with_local x old (Number (pos more)) s).locals ≡ Some (pos more) → IsValid structs (Some b) (record { type = type; value = v }) s
    → CountsTo structs b more (record { type = type; value = v }) s → IsValid structs (Some n) (record { type = type; value = v }) (with_local x old (Number (pos more)) s)
counted_of_type structs s x old more b n Int v ended none none' low high h counted = absurd (cc)
counted_of_type structs s x old more b n Char v ended none none' low high h counted = absurd (cc)
counted_of_type structs s x old more b n (Struct number) v ended none none' low high h counted = absurd (cc)
counted_of_type structs s x old more b n (Pointer m kinds.One target) v ended none none' low high h counted = absurd (cc)
counted_of_type structs s x old more b n (Pointer m kinds.Array target) v ended none none' low high h counted = absurd (cc)
counted_of_type structs s x old more b n (Pointer m kinds.Nt target) v ended none none' low high h counted = valid_counted structs s x old more b n m target none none' low high v h counted

-- ---- flows

-- bounds that count from the pointer itself
record AreOwn (o : Option Bounds) : Type 0 where
  bounds : Bounds
  is : o ≡ Some bounds
  none : bounds.base ≡ None

own_of : (o : Option Bounds) → is_own o ≡ true → AreOwn o
own_of None h = absurd (cc)
own_of (Some b) h = record { bounds = b; is = refl; none = none_is b.base h }

ended_no_number : (t : CType) (z : ℤ) → is_ended t ≡ true → has_type t (Number z) ≡ true → ⊥
ended_no_number Int z ended has = cc
ended_no_number Char z ended has = cc
ended_no_number (Struct number) z ended has = cc
ended_no_number (Pointer mode kinds.One target) z ended has = cc
ended_no_number (Pointer mode kinds.Array target) z ended has = cc
ended_no_number (Pointer mode kinds.Nt target) z ended has = cc

-- bounds behind an assignment begin where those before it did
record BeginsAlike (x : ℕ) (b d : Bounds) : Type 0 where
  base : d.base ≡ b.base
  lo : d.lo ≡ b.lo
  unnamed : is_named x d ≡ false

module _ (x : ℕ) (assigned : List Bool) (lt : x < length assigned) (h : Held) (b d : Bounds) (were : h.bounds ≡ Some b) (start : h.mark ≡ marks.Settled → HaveOneStart h.bounds h.declared) where
  abbrev since : List Bool
  since = set assigned x true

  back_by : (test : Bool) → (is_settled h.mark && stays_true since h.declared) ≡ test → (cond test (with_declared h) (lost h)).bounds ≡ Some d → BeginsAlike x b d
  back_by true is now =
      let parts = both_true (is_settled h.mark) (stays_true since h.declared) is in
      let both : HaveOneStart (Some b) (Some d) = subst (λ o. HaveOneStart o (Some d)) were (subst (HaveOneStart h.bounds) now (start (settled_is h.mark parts.0))) in
      record { base = sym both.0; lo = sym both.1; unnamed = (stays_before assigned x d lt (subst (λ o. stays_true since o ≡ true) now parts.1)).1 }
  back_by false is now = absurd (let none : None ≡ Some d = now in cc)

  behind_by : (test : Bool) → is_named x b ≡ test → (cond test (dropped since h) h).bounds ≡ Some d → BeginsAlike x b d
  behind_by true is now = back_by (is_settled h.mark && stays_true since h.declared) refl now
  behind_by false is now =
      let same : b ≡ d = same_Some b d (sym were ∙ now) in
      record { base = ap (λ (b : Bounds). b.base) (sym same); lo = ap (λ (b : Bounds). b.lo) (sym same); unnamed = subst (λ b. is_named x b ≡ false) same is }

  behind_start : (after_number x since h).bounds ≡ Some d → BeginsAlike x b d
  behind_start now = behind_by (is_named x b) refl (sym (ap (λ o. (where_bounds o (is_named x) (λ b. dropped since h) h).bounds) were) ∙ now)

module _ (structs : List Structure) (f : Knowledge) (flow : IsFlow f) (s : State) (x p : ℕ) (old : Local) (count : ℕ) (lt : x < f.vars) (there : slice_get s.locals x ≡ Some old)
    (has : has_type old.type (Number (pos count)) ≡ true) (counted : (l : Local) → slice_get s.locals p ≡ Some l → HasCounted structs (held_at f.held p).bounds count l s) (h : Holds structs f s) where
  abbrev behind : State
  behind = with_local x old (Number (pos count)) s

  abbrev g : Knowledge
  g = number_assigned x None f

  abbrev pointer : Held
  pointer = held_at g.held p

  after : Holds structs g behind
  after = number_holds structs f flow s x old (pos count) lt there has h None tt tt

  long : x < length f.assigned
  long = subst (λ n. x < n) (sym flow.variables.numbers) lt

  -- the number that is assigned is the variable's
  has_count : term_value (variable x) behind.locals ≡ Some (pos count)
  has_count = term_there behind.locals x (record old { value = Number (pos count) }) (pos count) (pos 0) (found_same s.locals x old (Number (pos count)) there) refl
      ∙ ap Some (let q : pos count +ℤ pos 0 ≡ pos count = omega (arith, ints) in q)

  facts_met : MeetsTable f.vars (numbers_in behind.locals) (measured_by x p g).facts
  facts_met =
      let is = numbers_there behind.locals x (record old { value = Number (pos count) }) (pos count) (found_same s.locals x old (Number (pos count)) there) refl in
      met_order f.vars g.facts (number 0) (variable x) (numbers_in behind.locals) ((give_tables f.vars).kill f.facts x flow.facts) tt lt (omega (arith, ints, is)) after.met.facts

  module _ (own : AreOwn (held_at f.held p).bounds) where
    alike : (d : Bounds) → pointer.bounds ≡ Some d → (l : Local) → slice_get s.locals p ≡ Some l → BeginsAlike x own.bounds d
    alike d now l e = behind_start x f.assigned long (held_at f.held p) own.bounds d own.is (h.pointers p l e).start (sym (ap (λ (h : Held). h.bounds) (at_map (after_number x (set f.assigned x true)) refl f.held p)) ∙ now)

    valid_before : (l : Local) → slice_get s.locals p ≡ Some l → IsValid structs (Some own.bounds) l s
    valid_before l e = subst (λ o. IsValid structs o l s) own.is (h.pointers p l e).valid

    one_held : (l : Local) → slice_get s.locals p ≡ Some l → (o : Option Bounds) → pointer.bounds ≡ o → IsHeld structs g.assigned pointer l behind
        → IsHeld structs g.assigned (measured x (measured_by x p g).facts o pointer) l behind
    one_held l e None now held =
        let c = counted l e in
        record {
          valid = counted_of_type structs s x old count own.bounds (count_to x) l.type l.value c.ended own.none refl (inr refl) has_count (valid_before l e) (c.counted own.bounds own.is);
          known = held.known;
          null = λ q. absurd (changed_null q);
          declared = λ q r. absurd (changed_settled q);
          start = λ q. absurd (changed_settled q);
        }
    one_held l e (Some d) now held = by (entails_terms d.hi (variable x) (measured_by x p g).facts)
      where
        by : (test : Bool) → IsHeld structs g.assigned (cond test (record pointer { bounds = Some (record d { hi = variable x }) }) pointer) l behind
        by true =
            let c = counted l e in
            let a = alike d now l e in
            let apart = neither (is_var x d.lo.var) (is_var x d.hi.var) a.unnamed in
            record {
              valid = counted_of_type structs s x old count own.bounds (record d { hi = variable x }) l.type l.value c.ended own.none (a.base ∙ own.none)
                  (inl (other_term s.locals x old (Number (pos count)) there d.lo apart.0 ∙ ap (λ t. term_value t s.locals) a.lo)) has_count (valid_before l e) (c.counted own.bounds own.is);
              known = held.known;
              null = held.null;
              declared = held.declared;
              start = λ q. started pointer.declared (subst (λ o. HaveOneStart o pointer.declared) now (held.start q));
            }
          where
            started : (o : Option Bounds) → HaveOneStart (Some d) o → HaveOneStart (Some (record d { hi = variable x })) o
            started None same = tt
            started (Some b) same = same
        by false = held

    here : (l : Local) → slice_get behind.locals p ≡ Some l → IsHeld structs g.assigned (measured x (measured_by x p g).facts pointer.bounds pointer) l behind
    here l e = elim (looked_up s.locals x old (Number (pos count)) there p l e) [
      | inl same ↦ absurd (ended_no_number old.type (pos count) (counted old (ap (slice_get s.locals) same.0 ∙ there)).ended has)
      | inr other ↦ one_held l other.1 pointer.bounds refl (after.pointers p l e)
    ]

    formed_here : (t : CType) (o : Option Bounds) → pointer.bounds ≡ o → (l : Local) → slice_get s.locals p ≡ Some l → IsFormed structs (types_of behind.locals) (target_size structs t) pointer
        → IsFormed structs (types_of behind.locals) (target_size structs t) (measured x (measured_by x p g).facts o pointer)
    formed_here t None now l e formed = record { ints = formed.ints; declared = formed.declared; bounds = λ q u base at'. absurd (let none : None ≡ Some q = base in cc) }
    formed_here t (Some d) now l e formed = by (entails_terms d.hi (variable x) (measured_by x p g).facts)
      where
        by : (test : Bool) → IsFormed structs (types_of behind.locals) (target_size structs t) (cond test (record pointer { bounds = Some (record d { hi = variable x }) }) pointer)
        by true =
            let a = alike d now l e in
            record { ints = formed.ints; declared = formed.declared; bounds = λ q u base at'. absurd (let none : None ≡ Some q = sym (a.base ∙ own.none) ∙ base in cc) }
        by false = formed

    formed_at : (t : CType) → slice_get (types_of behind.locals) p ≡ Some t → IsFormed structs (types_of behind.locals) (target_size structs t) (measured x (measured_by x p g).facts pointer.bounds pointer)
    formed_at t e =
        let l = local_there s.locals p t (sym (ap (λ types. slice_get types p) (same_types s.locals x old (Number (pos count)) there)) ∙ e) in
        formed_here t pointer.bounds refl l.local l.there (after.met.formed p t e)

    measured_holds : Holds structs (measured_by x p g) behind
    measured_holds = record {
      met = record {
        types = after.met.types;
        facts = facts_met;
        formed = formed_set structs (types_of behind.locals) g.held p (measured x (measured_by x p g).facts pointer.bounds pointer) formed_at after.met.formed;
      };
      pointers = each_set (λ q h. (l : Local) → slice_get behind.locals q ≡ Some l → IsHeld structs g.assigned h l behind) g.held p (measured x (measured_by x p g).facts pointer.bounds pointer) here
          (λ l e. none_held structs g.assigned l behind) (λ q ne. after.pointers q);
    }

  length_by : (own : Bool) → is_own (held_at f.held p).bounds ≡ own → Holds structs (cond own (measured_by x p g) g) behind
  length_by true is = measured_holds (own_of (held_at f.held p).bounds is)
  length_by false is = after

  pub length_holds : Holds structs (length_assigned x p f) behind
  length_holds = length_by (is_own (held_at f.held p).bounds) refl
