-- A null-terminated pointer whose element at the upper end isn't zero is valid up to the next one.
use Rattle.std.proofs.Common.{ℕ, zero, suc, ◌+◌, ◌-◌, ◌*◌, ◌≡◌, ◌<◌, ◌≤◌, ℤ, pos, negsuc, neg_ℤ, ◌+ℤ◌, ◌*ℤ◌, ◌≤ℤ◌, Bool, true, false, ◌&&◌, Option, None, Some, List, [], ◌∷◌, length, replicate, refl, sym, ap, ◌∙◌, subst, arith}
use Rattle.std.specs.Prelude.{◌==◌, slice_get, option_map, nat_lt, int_le, int_lt, sum}
use Rattle.std.proofs.lemmas.Int.{ints}
use Rattle.std.proofs.lemmas.Bool.{and_from}
use Rattle.std.proofs.lemmas.Option.{same_Some}
use Rattle.std.proofs.lemmas.Bool.Decides.{nat_tests}
use Rattle.std.proofs.lemmas.List.Sums.{sum_by-cons}
use Rattle.bounds_exprs.specs.declared.term.Bounds.{Bounds}
use Rattle.bounds_exprs.specs.declared.term.Term.{Term}
use Rattle.bounds_exprs.specs.Terms.{within_limit}
use Rattle.std.specs.Prelude.{is_none, cond}
use Rattle.bounds_flow.specs.Pointers.{one_further, up_to, with_bounds}
use Rattle.bounds_flow.specs.declared.held.Held.{Held}
use Rattle.bounds_flow.specs.declared.held.Mark.TheVariants as marks
use Rattle.bounds_flow.specs.Flows.{Knowledge, are_equal, held_at, widened, wider}
use Rattle.bounds_flow.specs.Conditions.{AreBoundsBelow, IsFlow}
use Rattle.subsumption.specs.ClosedTables.{ClosedTable, entails_terms}
use Rattle.subsumption.specs.Facts.{IsBelow, TermsHold, term_value as value}
use Rattle.pointer_modes.specs.declared.ctype.Mode.{Mode}
use Rattle.ckc_core.specs.declared.program.Site.{Site}
use Rattle.pointer_modes.specs.declared.ctype.Kind.TheVariants as kinds
use Rattle.pointer_modes.specs.Types.{CType, Int, Char, Struct, Pointer, Structure}
use Rattle.pointer_modes.specs.Layout.{size_of}
use Rattle.ckc_core.specs.States.{Value, Number, Null, At, Cell, Local, Block, State, Shape, cell_at, number_at, shape, shapes, strides}
use Rattle.ckc_core.specs.Bounds.{Ends, base_byte, block_size, ends_at, is_valid, lie_within, term_value}
use Rattle.ckc_core.specs.Pointers.{lies_below}
use Rattle.ckc_core.specs.Steps.{is_zero}
use Rattle.bounds_flow_meaning.specs.Rows.{AreEnded, IsEndedPlace}
use Rattle.bounds_flow_meaning.specs.Zeros.{EndInZeros, EndIsSet, HasRead, IsSetAt, ReadsSet}
use Rattle.bounds_flow_meaning.specs.Holding.{Fits, HaveOneStart, Holds, IsFormed, IsHeld, IsMet, IsValid, at_node, is_ended, numbers_in, target_size, types_of}
use Rattle.bounds_flow_meaning.proofs.Numbers.{limited_value, term_number, term_raised}
use Rattle.bounds_flow_meaning.proofs.Steps.{each_set, formed_set}
use Rattle.bounds_flow_meaning.proofs.Ways.{entail_holds}
use Rattle.bounds_flow_meaning.proofs.Pointers.{none_held}
use Rattle.bounds_flow_meaning.proofs.Validity.{block_there, both_true, ends_made, ends_parts, valid_from, valid_to, int_from, int_to, nat_more, shape_there, times_plus}
use Rattle.bounds_flow_meaning.proofs.Sums.{lies}

-- the k-th cell of a row begins behind k of them
pub row_number : (size : ℕ) → 1 ≤ size → (m k : ℕ) → k < m → number_at (replicate m size) (k * size) ≡ Some k
row_number size some zero k less = absurd (omega (arith, less))
row_number size some (suc m) zero less = let none : (0 * size == 0) ≡ true = grind arith in rw none refl
row_number size some (suc m) (suc k) less =
    let whole : suc k * size ≡ size + k * size = omega arith in
    let begun : (suc k * size == 0) ≡ false = grind (arith, whole, some) in
    let behind : nat_lt (suc k * size) size ≡ false = grind (arith, whole, nat_tests) in
    let rest : suc k * size - size ≡ k * size = omega (arith, whole) in
    rw (begun, behind, rest) (ap (option_map (λ n. suc n)) (row_number size some m k (omega (arith, less))))

pub row_size : (size m : ℕ) → sum (replicate m size) ≡ m * size
row_size size zero = omega arith
row_size size (suc m) =
    let one : sum (size ∷ replicate m size) ≡ size + sum (replicate m size) = sum_by-cons (λ (x : ℕ). x) size (replicate m size) in
    let more = row_size size m in
    let all : suc m * size ≡ size + m * size = omega arith in
    omega (arith, one, more, all)

strides_many : (cells : List Cell) → length (strides cells) ≡ length cells
strides_many [] = refl
strides_many (c ∷ cells) = ap (λ n. suc n) (strides_many cells)

many : (size m : ℕ) → length (replicate m size) ≡ m
many size zero = refl
many size (suc m) = ap (λ n. suc n) (many size m)

true_false : true ≡ false → ⊥
true_false e = absurd (cc)

-- a cell of a row that isn't zero isn't its last one
pub not_last : (structs : List Structure) (s : State) (target : CType) (block place : ℕ) (inside : Bool) (c : Cell) → EndInZeros s.blocks → cell_at s.blocks block place ≡ Some c → is_zero c.value ≡ false
    → (h : IsEndedPlace structs (shapes s.blocks) target block place inside) → suc h.number < h.cells
not_last structs s target block place inside c zeros found set h =
    let b = block_there s.blocks block h.shape h.found in
    let size : ℕ = size_of structs target in
    let row : strides b.0.cells ≡ replicate h.cells size = ap (λ (x : Shape). x.strides) b.2 ∙ h.strides in
    let number : number_at (strides b.0.cells) place ≡ Some h.number =
    ap (λ l. number_at l place) row ∙ ap (number_at (replicate h.cells size)) h.is ∙ row_number size h.some h.cells h.number h.below in
    let there : slice_get b.0.cells h.number ≡ Some c = rw (b.1, number) at found in
    let all : length b.0.cells ≡ h.cells = sym (strides_many b.0.cells) ∙ ap length row ∙ many size h.cells in
    by (nat_lt (suc h.number) h.cells) refl b.0 b.1 (ap (λ (x : Shape). x.zero_ended) b.2 ∙ h.ended) there all
  where
    by : (test : Bool) → nat_lt (suc h.number) h.cells ≡ test → (b : Block) → slice_get s.blocks block ≡ Some b → b.zero_ended ≡ true → slice_get b.cells h.number ≡ Some c → length b.cells ≡ h.cells → suc h.number < h.cells
    by true is b found ended there all = grind (arith, nat_tests)
    by false is b found ended there all =
        let below = h.below in
        let last : suc h.number ≡ h.cells = grind (arith, is, below, nat_tests) in
        absurd (true_false (sym (zeros block b found ended h.number c there (last ∙ sym all)) ∙ set))

-- ---- ends that are one element wider

-- more than no elements and no more than one are one
one_step : (d : ℤ) (size : ℕ) → 1 ≤ size → pos 1 ≤ℤ (d *ℤ pos size) → (d *ℤ pos size) ≤ℤ pos size → d *ℤ pos size ≡ pos size
one_step (pos zero) size some low high = absurd (let none : 0 * size ≡ 0 = omega arith in omega (arith, ints, none, low))
one_step (pos (suc zero)) size some low high = let one : 1 * size ≡ size = omega arith in ap pos one
one_step (pos (suc (suc n))) size some low high = absurd (
    let all : suc (suc n) * size ≡ size + (size + n * size) = omega arith in
    let above : pos (suc (suc n) * size) ≤ℤ pos size = high in
    omega (arith, ints, all, above, some))
one_step (negsuc n) zero some low high = absurd (omega (arith, some))
one_step (negsuc n) (suc size) some low high = absurd (omega (arith, ints, low))

not_le : (a b : ℤ) → int_le a b ≡ false → (b +ℤ pos 1) ≤ℤ a
not_le a b h = grind (arith, ints)

pub pos_same : (m n : ℕ) → pos m ≡ pos n → m ≡ n
pos_same m n e = cc

abbrev one_wider : Ends → Ends
one_wider e = record e { high = e.high +ℤ pos e.size }

module _ (structs : List Structure) (s : State) (target : CType) (block byte : ℕ) (e : Ends) (zeros : EndInZeros s.blocks) (set : IsSetAt block e s) (sized : e.size ≡ size_of structs target)
    (k : ℤ) (at' : e.high ≡ pos byte +ℤ (k *ℤ pos e.size)) (leads : AreEnded structs (shapes s.blocks) target block byte e) where
  abbrev top : IsEndedPlace structs (shapes s.blocks) target block set.place (lies_below e (pos set.place))
  top = leads k set.place (set.is ∙ at') (and_from (int_le e.low (pos set.place)) (int_le (pos set.place) e.high) (subst (λ z. int_le e.low z ≡ true) (sym set.is) (int_to e.low e.high set.above))
      (subst (λ z. int_le (pos set.place) z ≡ true) set.is (let here : pos set.place ≤ℤ pos set.place = omega (arith, ints) in int_to (pos set.place) (pos set.place) here)))

  -- what stands at the upper end isn't the last
  pub top_inside : suc top.number < top.cells
  top_inside = not_last structs s target block set.place (lies_below e (pos set.place)) set.cell zeros set.found set.set top

  with_cell : (place : ℕ) → pos place ≡ e.high → cell_at s.blocks block place ≡ Some set.cell
  with_cell place is = let same : place ≡ set.place = pos_same place set.place (is ∙ sym set.is) in ap (cell_at s.blocks block) same ∙ set.found

  -- a place up to the old end isn't the last
  old_inside : (place : ℕ) → int_le (pos place) e.high ≡ true → int_le e.low (pos place) ≡ true → (h : IsEndedPlace structs (shapes s.blocks) target block place (lies_below e (pos place))) → suc h.number < h.cells
  old_inside place up low h = by (int_lt (pos place) e.high) refl
    where
      by : (test : Bool) → int_lt (pos place) e.high ≡ test → suc h.number < h.cells
      by true below = h.before_zero (and_from (int_le e.low (pos place)) (int_lt (pos place) e.high) low below)
      by false below =
          let le = int_from (pos place) e.high up in
          let is : pos place ≡ e.high = grind (arith, ints, below, le) in
          not_last structs s target block place (lies_below e (pos place)) set.cell zeros (with_cell place is) set.set h

  -- the place behind the old end
  next_place : (place : ℕ) → pos place ≡ e.high +ℤ pos e.size → IsEndedPlace structs (shapes s.blocks) target block place (lies_below (one_wider e) (pos place))
  next_place place is =
      let bytes : ℕ = size_of structs target in
      let behind : place ≡ set.place + e.size = (let here = set.is in omega (arith, ints, is, here)) in
      let next : suc top.number * bytes ≡ bytes + top.number * bytes = omega arith in
      let stands = top.is in
      record {
        shape = top.shape;
        found = top.found;
        ended = top.ended;
        unsealed = top.unsealed;
        cells = top.cells;
        types = top.types;
        strides = top.strides;
        some = top.some;
        number = suc top.number;
        is = omega (arith, behind, stands, sized, next);
        below = top_inside;
        before_zero = λ inside.
            let below = both_true (int_le e.low (pos place)) (int_lt (pos place) (e.high +ℤ pos e.size)) inside in
            let test = below.1 in absurd (let same : int_lt (pos place) (pos place) ≡ true = subst (λ z. int_lt (pos place) z ≡ true) (sym is) test in grind (arith, ints, same));
      }

  leads_wider : AreEnded structs (shapes s.blocks) target block byte (one_wider e)
  leads_wider n place step lies =
      let parts = both_true (int_le e.low (pos place)) (int_le (pos place) (e.high +ℤ pos e.size)) lies in
      by parts.0 parts.1 (int_le (pos place) e.high) refl
    where
      by : int_le e.low (pos place) ≡ true → int_le (pos place) (e.high +ℤ pos e.size) ≡ true → (test : Bool) → int_le (pos place) e.high ≡ test → IsEndedPlace structs (shapes s.blocks) target block place (lies_below (one_wider e) (pos place))
      by low high true up =
          let old = leads n place step (and_from (int_le e.low (pos place)) (int_le (pos place) e.high) low up) in
          record {
            shape = old.shape;
            found = old.found;
            ended = old.ended;
            unsealed = old.unsealed;
            cells = old.cells;
            types = old.types;
            strides = old.strides;
            some = old.some;
            number = old.number;
            is = old.is;
            below = old.below;
            before_zero = λ inside. old_inside place up low old;
          }
      by low high false up =
          let d : ℤ = n +ℤ (neg_ℤ k) in
          let sum = times_plus k d e.size in
          let all : k +ℤ d ≡ n = omega (arith, ints) in
          let whole : (k +ℤ d) *ℤ pos e.size ≡ n *ℤ pos e.size = ap (λ z. z *ℤ pos e.size) all in
          let to = int_from (pos place) (e.high +ℤ pos e.size) high in
          let more = not_le (pos place) e.high up in
          let above : pos 1 ≤ℤ (d *ℤ pos e.size) = omega (arith, ints, more, at', step, sum, whole) in
          let below : (d *ℤ pos e.size) ≤ℤ pos e.size = omega (arith, ints, to, at', step, sum, whole) in
          let some : 1 ≤ e.size = subst (λ m. 1 ≤ m) (sym sized) top.some in
          let one = one_step d e.size some above below in
          next_place place (omega (arith, ints, at', step, sum, whole, one))

  -- and the wider ends lie up to the last element
  fits_wider : (held : Block) → slice_get s.blocks block ≡ Some held → lie_within e (block_size held - size_of structs target) ≡ true → lie_within (one_wider e) (block_size held - size_of structs target) ≡ true
  fits_wider held found fits =
      let bytes : ℕ = size_of structs target in
      let order : int_le e.low e.high ≡ true = int_to e.low e.high set.above in
      let both : (int_le (pos 0) e.low && int_le e.high (pos (block_size held - bytes))) ≡ true = rw order at fits in
      let parts = both_true (int_le (pos 0) e.low) (int_le e.high (pos (block_size held - bytes))) both in
      let low = int_from (pos 0) e.low parts.0 in
      let same : shape held ≡ top.shape = same_Some (shape held) top.shape (sym (shape_there s.blocks block held found) ∙ top.found) in
      let row : block_size held ≡ top.cells * bytes = ap (λ (x : Shape). sum x.strides) same ∙ ap sum top.strides ∙ row_size bytes top.cells in
      let room = nat_more (suc (suc top.number)) top.cells bytes (let inside = top_inside in omega (arith, inside)) in
      let next : suc (suc top.number) * bytes ≡ bytes + (bytes + top.number * bytes) = omega arith in
      let stands = top.is in
      let here = set.is in
      lies (one_wider e) (block_size held - bytes) low (omega (arith, ints, row, room, next, stands, here, sized))

-- ---- pointers with bounds that are one element wider

-- the wider bounds
record IsFurther (b d : Bounds) : Type 0 where
  base : d.base ≡ b.base
  lo : d.lo ≡ b.lo
  hi : within_limit b.hi.var (b.hi.plus +ℤ pos 1) ≡ Some d.hi

further_of : (b d : Bounds) (o : Option Term) → within_limit b.hi.var (b.hi.plus +ℤ pos 1) ≡ o → up_to b o ≡ Some d → IsFurther b d
further_of b d None is h = absurd (cc)
further_of b d (Some hi) is h =
    let same : record b { hi = hi } ≡ d = same_Some (record b { hi = hi }) d h in
    record {
      base = sym (ap (λ (x : Bounds). x.base) same);
      lo = sym (ap (λ (x : Bounds). x.lo) same);
      hi = is ∙ ap (λ (x : Bounds). Some x.hi) same;
    }

module _ (structs : List Structure) (s : State) (b d : Bounds) (m : Mode) (target : CType) (none : b.base ≡ None) (further : one_further b ≡ Some d) (zeros : EndInZeros s.blocks) where
  abbrev size : ℕ
  size = size_of structs target

  -- where the ends stand, and that the wider ones are an element further
  record IsWider (site : Site) (block byte : ℕ) (e : Ends) : Type 0 where
    number : ℤ
    at' : e.high ≡ pos byte +ℤ (number *ℤ pos e.size)
    sized : e.size ≡ size
    are : ends_at (at_node d size true site) s.locals block byte ≡ Some (one_wider e)

  wider_ends : (site : Site) (block byte : ℕ) (e : Ends) → ends_at (at_node b size true site) s.locals block byte ≡ Some e → IsWider site block byte e
  wider_ends site block byte e h =
      let f = further_of b d (within_limit b.hi.var (b.hi.plus +ℤ pos 1)) refl further in
      let p = ends_parts size (base_byte b.base s.locals block byte) (term_value b.lo s.locals) (term_value b.hi s.locals) e h in
      let here : base_byte b.base s.locals block byte ≡ Some byte = ap (λ o. base_byte o s.locals block byte) none in
      let same : p.byte ≡ byte = same_Some p.byte byte (sym p.at_base ∙ here) in
      let raised = limited_value s.locals b.hi.var (b.hi.plus +ℤ pos 1) d.hi f.hi ∙ term_raised s.locals b.hi.var b.hi.plus (pos 1) p.high p.at_high in
      let made = ends_made size p.byte p.low (p.high +ℤ pos 1) (base_byte d.base s.locals block byte) (term_value d.lo s.locals) (term_value d.hi s.locals)
      (ap (λ o. base_byte o s.locals block byte) f.base ∙ p.at_base) (ap (λ t. term_value t s.locals) f.lo ∙ p.at_low) raised in
      let sum = times_plus p.high (pos 1) size in
      let one : pos 1 *ℤ pos size ≡ pos size = (let n : 1 * size ≡ size = omega arith in ap pos n) in
      let high : pos p.byte +ℤ ((p.high +ℤ pos 1) *ℤ pos size) ≡ (pos p.byte +ℤ (p.high *ℤ pos size)) +ℤ pos size = omega (arith, ints, sum, one) in
      record {
        number = p.high;
        at' = sym (ap (λ (x : Ends). x.high) p.are) ∙ ap (λ n. pos n +ℤ (p.high *ℤ pos size)) same ∙ ap (λ n. pos byte +ℤ (p.high *ℤ pos n)) (ap (λ (x : Ends). x.size) p.are);
        sized = sym (ap (λ (x : Ends). x.size) p.are);
        are = made ∙ ap (λ z. Some (record { low = pos p.byte +ℤ (p.low *ℤ pos size); high = z; size = size })) high ∙ ap (λ x. Some (one_wider x)) p.are;
      }

  module _ (v : Value) (h : IsValid structs (Some b) (record { type = Pointer m kinds.Nt target; value = v }) s) (set : EndIsSet structs b (record { type = Pointer m kinds.Nt target; value = v }) s) where
    leads_on : (site : Site) (block byte : ℕ) (e : Ends) → v ≡ At block byte → ends_at (at_node d size true site) s.locals block byte ≡ Some e → AreEnded structs (shapes s.blocks) target block byte e
    leads_on site block byte e at' are =
        let v' = valid_from (at_node b size true site) block byte s (subst (λ v. is_valid (at_node b size true site) v s ≡ true) at' (h.passes site)) in
        let w = wider_ends site block byte v'.ends v'.are in
        let same : one_wider v'.ends ≡ e = same_Some (one_wider v'.ends) e (sym w.are ∙ are) in
        subst (λ e. AreEnded structs (shapes s.blocks) target block byte e) same
        (leads_wider structs s target block byte v'.ends zeros (set site block byte v'.ends at' v'.are) w.sized w.number w.at' (h.leads site block byte v'.ends at' v'.are))

    passes_at : (site : Site) (block byte : ℕ) → v ≡ At block byte → is_valid (at_node b size true site) (At block byte) s ≡ true → is_valid (at_node d size true site) (At block byte) s ≡ true
    passes_at site block byte at' valid =
        let v' = valid_from (at_node b size true site) block byte s valid in
        let w = wider_ends site block byte v'.ends v'.are in
        let room : lie_within v'.ends (block_size v'.held - size) ≡ true = subst (λ n. lie_within v'.ends (block_size v'.held - n) ≡ true) w.sized v'.fits in
        let wide = fits_wider structs s target block byte v'.ends zeros (set site block byte v'.ends at' v'.are) w.sized w.number w.at' (h.leads site block byte v'.ends at' v'.are) v'.held v'.found room in
        valid_to (at_node d size true site) block byte s (record {
          held = v'.held;
          ends = one_wider v'.ends;
          found = v'.found;
          are = w.are;
          place = v'.place;
          fits = subst (λ n. lie_within (one_wider v'.ends) (block_size v'.held - n) ≡ true) (sym w.sized) wide;
        })

    passes_of : (site : Site) (w : Value) → v ≡ w → is_valid (at_node b size true site) w s ≡ true → is_valid (at_node d size true site) w s ≡ true
    passes_of site (Number z) is valid = absurd (cc)
    passes_of site Null is valid = refl
    passes_of site (At block byte) is valid = passes_at site block byte is valid

    pub valid_wider : IsValid structs (Some d) (record { type = Pointer m kinds.Nt target; value = v }) s
    valid_wider = record { passes = λ site. passes_of site v refl (h.passes site); leads = leads_on }

-- ---- flows

term_at_top : (structs : List Structure) (s : State) (b : Bounds) (index : Term) (l : Local) → b.base ≡ None → TermsHold (numbers_in s.locals) index b.hi → TermsHold (numbers_in s.locals) b.hi index
    → ReadsSet structs b index l s → EndIsSet structs b l s
term_at_top structs s b index l none below above reads site block byte e at' are =
    let r = reads site block byte e at' are in
    let v = numbers_in s.locals in
    let p = ends_parts (target_size structs l.type) (base_byte b.base s.locals block byte) (term_value b.lo s.locals) (term_value b.hi s.locals) e are in
    let first : value v index ≡ r.number = term_number s.locals index r.number r.is in
    let second : value v b.hi ≡ p.high = term_number s.locals b.hi p.high p.at_high in
    let same : r.number ≡ p.high = omega (arith, ints, below, above, first, second) in
    let here : base_byte b.base s.locals block byte ≡ Some byte = ap (λ o. base_byte o s.locals block byte) none in
    let bytes : p.byte ≡ byte = same_Some p.byte byte (sym p.at_base ∙ here) in
    let high : e.high ≡ pos byte +ℤ (p.high *ℤ pos e.size) =
    sym (ap (λ (x : Ends). x.high) p.are) ∙ ap (λ n. pos n +ℤ (p.high *ℤ pos (target_size structs l.type))) bytes ∙ ap (λ n. pos byte +ℤ (p.high *ℤ pos n)) (ap (λ (x : Ends). x.size) p.are) in
    let is : pos r.place ≡ e.high = r.at' ∙ ap (λ z. pos byte +ℤ (z *ℤ pos e.size)) same ∙ sym high in
    let parts = both_true (int_le e.low (pos r.place)) (int_le (pos r.place) e.high) r.lies in
    record { place = r.place; is = is; above = subst (λ z. e.low ≤ℤ z) is (int_from e.low (pos r.place) parts.0); cell = r.cell; found = r.found; set = r.set }

valid_of_type : (structs : List Structure) (s : State) (b d : Bounds) (type : CType) (v : Value) → is_ended type ≡ true → b.base ≡ None → one_further b ≡ Some d → EndInZeros s.blocks
    → IsValid structs (Some b) (record { type = type; value = v }) s → EndIsSet structs b (record { type = type; value = v }) s → IsValid structs (Some d) (record { type = type; value = v }) s
valid_of_type structs s b d Int v ended none further zeros h set = absurd (cc)
valid_of_type structs s b d Char v ended none further zeros h set = absurd (cc)
valid_of_type structs s b d (Struct number) v ended none further zeros h set = absurd (cc)
valid_of_type structs s b d (Pointer m kinds.One target) v ended none further zeros h set = absurd (cc)
valid_of_type structs s b d (Pointer m kinds.Array target) v ended none further zeros h set = absurd (cc)
valid_of_type structs s b d (Pointer m kinds.Nt target) v ended none further zeros h set = valid_wider structs s b d m target none further zeros v h set

-- what bounds that became wider were
record WereNarrower (index : Term) (t : ClosedTable) (bounds : Option Bounds) (d : Bounds) : Type 0 where
  before : Bounds
  were : bounds ≡ Some before
  none : before.base ≡ None
  further : one_further before ≡ Some d
  below : entails_terms index before.hi t ≡ true
  above : entails_terms before.hi index t ≡ true

pub none_is : (o : Option ℕ) → is_none o ≡ true → o ≡ None
none_is None h = refl
none_is (Some x) h = absurd (cc)

were_narrower : (index : Term) (t : ClosedTable) (bounds : Option Bounds) (d : Bounds) → wider index t bounds ≡ Some d → WereNarrower index t bounds d
were_narrower index t None d h = absurd (cc)
were_narrower index t (Some b) d h = by (is_none b.base && are_equal index b.hi t) refl h
  where
    by : (test : Bool) → (is_none b.base && are_equal index b.hi t) ≡ test → cond test (one_further b) None ≡ Some d → WereNarrower index t (Some b) d
    by true is further =
        let parts = both_true (is_none b.base) (are_equal index b.hi t) is in
        let equal = both_true (entails_terms index b.hi t) (entails_terms b.hi index t) parts.1 in
        record { before = b; were = refl; none = none_is b.base parts.0; further = further; below = equal.0; above = equal.1 }
    by false is further = absurd (cc)

module _ (structs : List Structure) (f : Knowledge) (flow : IsFlow f) (s : State) (p : ℕ) (index : Term) (below : IsBelow f.vars index.var) (ends : AreBoundsBelow f.vars (held_at f.held p).bounds) (zeros : EndInZeros s.blocks)
    (read : (l : Local) → slice_get s.locals p ≡ Some l → HasRead structs (held_at f.held p).bounds index l s) where
  abbrev held : Held
  held = held_at f.held p

  one_start : (b d : Bounds) (declared : Option Bounds) → d.base ≡ b.base → d.lo ≡ b.lo → HaveOneStart (Some b) declared → HaveOneStart (Some d) declared
  one_start b d None same low h = tt
  one_start b d (Some c) same low h = (same ∙ h.0, low ∙ h.1)

  one_widened : IsMet structs f s → (o : Option Bounds) → wider index f.facts held.bounds ≡ o → (l : Local) → slice_get s.locals p ≡ Some l → IsHeld structs f.assigned held l s → IsHeld structs f.assigned (with_bounds o held) l s
  one_widened met None is l there h = h
  one_widened met (Some d) is l there h =
      let w = were_narrower index f.facts held.bounds d is in
      let r = read l there in
      let hi : IsBelow f.vars w.before.hi.var = (subst (AreBoundsBelow f.vars) w.were ends).hi in
      let set = term_at_top structs s w.before index l w.none (entail_holds structs f flow s met index w.before.hi below hi w.below) (entail_holds structs f flow s met w.before.hi index hi below w.above) (r.read w.before w.were) in
      let valid : IsValid structs (Some w.before) l s = subst (λ o. IsValid structs o l s) w.were h.valid in
      let further = further_of w.before d (within_limit w.before.hi.var (w.before.hi.plus +ℤ pos 1)) refl w.further in
      record {
        valid = valid_of_type structs s w.before d l.type l.value r.ended w.none w.further zeros valid set;
        known = h.known;
        null = h.null;
        declared = h.declared;
        start = λ rests. one_start w.before d held.declared further.base further.lo (subst (λ o. HaveOneStart o held.declared) w.were (h.start rests));
      }

  formed_widened : (types : List CType) (size : ℕ) (o : Option Bounds) → wider index f.facts held.bounds ≡ o → IsFormed structs types size held → IsFormed structs types size (with_bounds o held)
  formed_widened types size None is h = h
  formed_widened types size (Some d) is h =
      let w = were_narrower index f.facts held.bounds d is in
      let further = further_of w.before d (within_limit w.before.hi.var (w.before.hi.plus +ℤ pos 1)) refl w.further in
      record { ints = h.ints; declared = h.declared; bounds = λ q t base at'. absurd (let none : None ≡ Some q = sym (further.base ∙ w.none) ∙ base in cc) }

  abbrev wide : Option Bounds
  wide = wider index f.facts held.bounds

  pub widen_holds : Holds structs f s → Holds structs (widened p index f) s
  widen_holds h = record {
    met = record {
      types = h.met.types;
      facts = h.met.facts;
      formed = formed_set structs (types_of s.locals) f.held p (with_bounds wide held) (λ t e. formed_widened (types_of s.locals) (target_size structs t) wide refl (h.met.formed p t e)) h.met.formed;
    };
    pointers = each_set (λ q h. (l : Local) → slice_get s.locals q ≡ Some l → IsHeld structs f.assigned h l s) f.held p (with_bounds wide held)
        (λ l e. one_widened h.met wide refl l e (h.pointers p l e)) (λ l e. none_held structs f.assigned l s) (λ q ne l e. h.pointers q l e);
  }

  kept_mark : (o : Option Bounds) → held.mark ≡ marks.Settled → (with_bounds o held).mark ≡ marks.Settled
  kept_mark None h = h
  kept_mark (Some d) h = h

  kept_declared : (o : Option Bounds) (l : Local) → IsValid structs held.declared l s → IsValid structs (with_bounds o held).declared l s
  kept_declared None l h = h
  kept_declared (Some d) l h = h

  pub widen_fits : Fits structs f s → Fits structs (widened p index f) s
  widen_fits h = record {
    holds = widen_holds h.holds;
    settled = λ apart. (
        let settled = h.settled apart in
        record {
          marks = each_set (λ q h. h.mark ≡ marks.Settled) f.held p (with_bounds wide held) (kept_mark wide (settled.marks p)) refl (λ q ne. settled.marks q);
          assigned = settled.assigned;
          apart = apart;
        });
    declared = λ apart. each_set (λ q h. (l : Local) → slice_get s.locals q ≡ Some l → IsValid structs h.declared l s) f.held p (with_bounds wide held) (λ l e. kept_declared wide l (h.declared apart p l e)) (λ l e. tt) (λ q ne. h.declared apart q);
  }
