-- A null-terminated pointer whose element at the upper end was read, and isn't zero, is valid up to the next one, wherever its lower end stands.
use Rattle.std.proofs.Common.{ℕ, suc, ◌+◌, ◌-◌, ◌*◌, ◌≡◌, ℤ, pos, ◌+ℤ◌, ◌*ℤ◌, ◌≤ℤ◌, Bool, true, false, cond, ◌&&◌, List, Option, None, Some, refl, sym, ap, ◌∙◌, subst, arith}
use Rattle.std.specs.Prelude.{is_none, nat_le, slice_get, int_le, int_lt, sum}
use Rattle.std.proofs.lemmas.Int.{ints}
use Rattle.std.proofs.lemmas.Bool.{and_from}
use Rattle.std.proofs.lemmas.Option.{same_Some}
use Rattle.bounds_exprs.specs.declared.term.Bounds.{Bounds}
use Rattle.bounds_exprs.specs.declared.term.Term.{Term}
use Rattle.bounds_exprs.specs.Terms.{within_limit}
use Rattle.subsumption.specs.ClosedTables.{ClosedTable, entails_terms}
use Rattle.subsumption.specs.Facts.{IsBelow}
use Rattle.pointer_modes.specs.declared.ctype.Mode.{Mode}
use Rattle.pointer_modes.specs.declared.ctype.Kind.TheVariants as kinds
use Rattle.pointer_modes.specs.Types.{CType, Pointer, Structure}
use Rattle.pointer_modes.specs.Layout.{size_of}
use Rattle.bounds_flow.specs.declared.held.Held.{Held}
use Rattle.bounds_flow.specs.declared.held.Mark.TheVariants as marks
use Rattle.bounds_flow.specs.Pointers.{one_further, up_to, with_bounds}
use Rattle.bounds_flow.specs.Flows.{Knowledge, are_equal, held_at, widened, wider}
use Rattle.bounds_flow.specs.Conditions.{AreBoundsBelow, IsFlow}
use Rattle.bounds_flow.proofs.Variables.{held_below}
use Rattle.ckc_core.specs.declared.program.Site.{Site}
use Rattle.ckc_core.specs.Bounds.{Ends, block_size, ends_at, is_valid, lie_within, term_value}
use Rattle.ckc_core.specs.Pointers.{lies_below}
use Rattle.ckc_core.specs.States.{Value, Number, Null, At, Block, Cell, Local, Shape, State, cell_at, shape, shapes}
use Rattle.ckc_core.specs.Steps.{is_zero}
use Rattle.bounds_flow_meaning.specs.Holding.{Fits, HaveOneStart, IsFormed, IsHeld, IsMet, IsValid, at_node, target_size, types_of}
use Rattle.bounds_flow_meaning.specs.Rows.{AreEnded, IsEndedPlace}
use Rattle.bounds_flow_meaning.specs.Zeros.{EndInZeros, EndIsSet}
use Rattle.bounds_flow_meaning.proofs.AllSteps.{flows_hold}
use Rattle.bounds_flow_meaning.proofs.Numbers.{limited_value, term_number, term_raised}
use Rattle.bounds_flow_meaning.proofs.Pointers.{none_held}
use Rattle.bounds_flow_meaning.proofs.Steps.{each_set, formed_set}
use Rattle.bounds_flow_meaning.proofs.Sums.{lies}
use Rattle.bounds_flow_meaning.proofs.Validity.{both_true, ends_made, ends_parts, int_from, int_to, nat_more, shape_there, times_plus, valid_from, valid_to}
use Rattle.bounds_flow_meaning.proofs.Widening.{none_is, pos_same, row_size, valid_wider}

-- the element of the number that a term comes to stands in a row that a zero ends, and it isn't zero
pub record IsSetThere (structs : List Structure) (target : CType) (index : Term) (block byte : ℕ) (s : State) : Type 0 where
  pub number : ℤ
  pub is : term_value index s.locals ≡ Some number
  pub place : ℕ
  pub at' : pos place ≡ pos byte +ℤ (number *ℤ pos (size_of structs target))
  pub inside : Bool
  pub stands : IsEndedPlace structs (shapes s.blocks) target block place inside
  pub cell : Cell
  pub found : cell_at s.blocks block place ≡ Some cell
  pub set : is_zero cell.value ≡ false

-- what a test of a null-terminated pointer has read
pub record IsReadThere (structs : List Structure) (index : Term) (l : Local) (s : State) : Type 0 where
  pub mode : Mode
  pub target : CType
  pub pointer : l.type ≡ Pointer mode kinds.Nt target
  pub read : (block byte : ℕ) → l.value ≡ At block byte → IsSetThere structs target index block byte s

-- ---- one pointer

module _ (structs : List Structure) (s : State) (m : Mode) (target : CType) (lo hi next : Term) (raised : within_limit hi.var (hi.plus +ℤ pos 1) ≡ Some next) (zeros : EndInZeros s.blocks)
    (v : Value) (read : (block byte : ℕ) → v ≡ At block byte → IsSetThere structs target hi block byte s) where
  abbrev size : ℕ
  size = size_of structs target

  -- bounds from the pointer itself on
  abbrev own : Term → Term → Bounds
  own low high = record { base = None; lo = low; hi = high }

  abbrev here : Local
  here = record { type = Pointer m kinds.Nt target; value = v }

  abbrev IsValidUp : Term → Term → Type 0
  IsValidUp low high = IsValid structs (Some (own low high)) here s

  -- where ends stand whose terms have these numbers
  ends_of : (low high : Term) (site : Site) (block byte : ℕ) (a b : ℤ) → term_value low s.locals ≡ Some a → term_value high s.locals ≡ Some b
      → ends_at (at_node (own low high) size true site) s.locals block byte ≡ Some (record { low = pos byte +ℤ (a *ℤ pos size); high = pos byte +ℤ (b *ℤ pos size); size = size })
  ends_of low high site block byte a b la lb = ends_made size byte a b (Some byte) (term_value low s.locals) (term_value high s.locals) refl la lb

  -- the ends at what was read
  top_is : (site : Site) (block byte : ℕ) (e : Ends) (at' : v ≡ At block byte) → ends_at (at_node (own hi hi) size true site) s.locals block byte ≡ Some e
      → (e.low ≡ pos (read block byte at').place) × (e.high ≡ pos (read block byte at').place)
  top_is site block byte e at' are =
      let r = read block byte at' in
      let same = same_Some _ e (sym (ends_of hi hi site block byte r.number r.number r.is r.is) ∙ are) in
      (sym (ap (λ (e : Ends). e.low) same) ∙ sym r.at', sym (ap (λ (e : Ends). e.high) same) ∙ sym r.at')

  -- it has room for one element
  top_room : (site : Site) (block byte : ℕ) (at' : v ≡ At block byte) (held : Block) → slice_get s.blocks block ≡ Some held → pos (read block byte at').place ≤ℤ pos (block_size held - size)
  top_room site block byte at' held found =
      let r = read block byte at' in
      let same : shape held ≡ r.stands.shape = same_Some (shape held) r.stands.shape (sym (shape_there s.blocks block held found) ∙ r.stands.found) in
      let row : block_size held ≡ r.stands.cells * size = ap (λ (x : Shape). sum x.strides) same ∙ ap sum r.stands.strides ∙ row_size size r.stands.cells in
      let room = nat_more (suc r.stands.number) r.stands.cells size (let below = r.stands.below in omega (arith, below)) in
      let next' : suc r.stands.number * size ≡ size + r.stands.number * size = omega arith in
      let is = r.stands.is in
      omega (arith, ints, row, room, next', is)

  -- valid at the upper end alone
  top_passes : (site : Site) (w : Value) → v ≡ w → is_valid (at_node (own lo hi) size true site) w s ≡ true → is_valid (at_node (own hi hi) size true site) w s ≡ true
  top_passes site (Number z) at' valid = absurd (cc)
  top_passes site Null at' valid = refl
  top_passes site (At block byte) at' valid =
      let v' = valid_from (at_node (own lo hi) size true site) block byte s valid in
      let r = read block byte at' in
      let e : Ends = record { low = pos byte +ℤ (r.number *ℤ pos size); high = pos byte +ℤ (r.number *ℤ pos size); size = size } in
      let is = r.at' in
      let room = top_room site block byte at' v'.held v'.found in
      valid_to (at_node (own hi hi) size true site) block byte s (record {
        held = v'.held;
        ends = e;
        found = v'.found;
        are = ends_of hi hi site block byte r.number r.number r.is r.is;
        place = v'.place;
        fits = lies e (block_size v'.held - size) (omega (arith, ints, is)) (omega (arith, ints, is, room));
      })

  top_leads : (site : Site) (block byte : ℕ) (e : Ends) → v ≡ At block byte → ends_at (at_node (own hi hi) size true site) s.locals block byte ≡ Some e → AreEnded structs (shapes s.blocks) target block byte e
  top_leads site block byte e at' are n place step lies' =
      let r = read block byte at' in
      let top = top_is site block byte e at' are in
      let parts = both_true (int_le e.low (pos place)) (int_le (pos place) e.high) lies' in
      let low = int_from e.low (pos place) parts.0 in
      let high = int_from (pos place) e.high parts.1 in
      let at_low = top.0 in
      let at_high = top.1 in
      let same : place ≡ r.place = pos_same place r.place (let q : pos place ≡ pos r.place = omega (arith, ints, low, high, at_low, at_high) in q) in
      let stands = r.stands in
      record {
        shape = stands.shape;
        found = stands.found;
        ended = stands.ended;
        unsealed = stands.unsealed;
        cells = stands.cells;
        types = stands.types;
        strides = stands.strides;
        some = stands.some;
        number = stands.number;
        is = same ∙ stands.is;
        below = stands.below;
        before_zero = λ inside.
            let below = (both_true (int_le e.low (pos place)) (int_lt (pos place) e.high) inside).1 in
            absurd (let lt : int_lt (pos place) (pos place) ≡ true = subst (λ z. int_lt (pos place) z ≡ true) (at_high ∙ ap pos (sym same)) below in grind (arith, ints, lt));
      }

  valid_top : IsValidUp lo hi → IsValidUp hi hi
  valid_top h = record { passes = λ site. top_passes site v refl (h.passes site); leads = λ site block byte e at' are. top_leads site block byte e at' are }

  top_set : EndIsSet structs (own hi hi) here s
  top_set site block byte e at' are =
      let r = read block byte at' in
      let top = top_is site block byte e at' are in
      let at_low = top.0 in
      let at_high = top.1 in
      record { place = r.place; is = sym at_high; above = omega (arith, ints, at_low, at_high); cell = r.cell; found = r.found; set = r.set }

  -- and at the next one too
  valid_behind : IsValidUp lo hi → IsValidUp hi next
  valid_behind h = valid_wider structs s (own hi hi) (own hi next) m target refl (ap (up_to (own hi hi)) raised) zeros v (valid_top h) top_set

  next_number : (block byte : ℕ) (at' : v ≡ At block byte) → term_value next s.locals ≡ Some ((read block byte at').number +ℤ pos 1)
  next_number block byte at' = let r = read block byte at' in limited_value s.locals hi.var (hi.plus +ℤ pos 1) next raised ∙ term_raised s.locals hi.var hi.plus (pos 1) r.number r.is

  -- where the lower end stands
  record StartsAt (site : Site) (block byte : ℕ) (at' : v ≡ At block byte) : Type 0 where
    number : ℤ
    is : term_value lo s.locals ≡ Some number
    held : Block
    found : slice_get s.blocks block ≡ Some held
    inside : nat_le byte (block_size held) ≡ true
    zero_le : pos 0 ≤ℤ (pos byte +ℤ (number *ℤ pos size))

  module _ (h : IsValidUp lo hi) where
    start : (site : Site) (block byte : ℕ) (at' : v ≡ At block byte) → StartsAt site block byte at'
    start site block byte at' =
        let v' = valid_from (at_node (own lo hi) size true site) block byte s (subst (λ w. is_valid (at_node (own lo hi) size true site) w s ≡ true) at' (h.passes site)) in
        let p = ends_parts size (Some byte) (term_value lo s.locals) (term_value hi s.locals) v'.ends v'.are in
        let bytes : byte ≡ p.byte = same_Some byte p.byte p.at_base in
        let low : v'.ends.low ≡ pos byte +ℤ (p.low *ℤ pos size) = sym (ap (λ (e : Ends). e.low) p.are) ∙ ap (λ n. pos n +ℤ (p.low *ℤ pos size)) (sym bytes) in
        let high : v'.ends.high ≡ pos byte +ℤ (p.high *ℤ pos size) = sym (ap (λ (e : Ends). e.high) p.are) ∙ ap (λ n. pos n +ℤ (p.high *ℤ pos size)) (sym bytes) in
        let r = read block byte at' in
        let same : p.high ≡ r.number = same_Some p.high r.number (sym p.at_high ∙ r.is) in
        let top : v'.ends.high ≡ pos r.place = high ∙ ap (λ z. pos byte +ℤ (z *ℤ pos size)) same ∙ sym r.at' in
        record {
          number = p.low;
          is = p.at_low;
          held = v'.held;
          found = v'.found;
          inside = v'.place;
          zero_le = subst (λ z. pos 0 ≤ℤ z) low (from_zero v'.ends (block_size v'.held - v'.ends.size) r.place v'.fits top);
        }
      where
        from_zero : (e : Ends) (size place : ℕ) → lie_within e size ≡ true → e.high ≡ pos place → pos 0 ≤ℤ e.low
        from_zero e size place fits top = by (int_le e.low e.high) refl
          where
            by : (test : Bool) → int_le e.low e.high ≡ test → pos 0 ≤ℤ e.low
            by true is = let both : (int_le (pos 0) e.low && int_le e.high (pos size)) ≡ true = rw is at fits in int_from (pos 0) e.low (both_true (int_le (pos 0) e.low) (int_le e.high (pos size)) both).0
            by false is = grind (arith, ints, is, top)

    abbrev low_at : (site : Site) (block byte : ℕ) → v ≡ At block byte → ℤ
    low_at site block byte at' = pos byte +ℤ ((start site block byte at').number *ℤ pos size)

    abbrev high_at : (block byte : ℕ) → v ≡ At block byte → ℤ
    high_at block byte at' = pos byte +ℤ (((read block byte at').number +ℤ pos 1) *ℤ pos size)

    abbrev ends : (site : Site) (block byte : ℕ) → v ≡ At block byte → Ends
    ends site block byte at' = record { low = low_at site block byte at'; high = high_at block byte at'; size = size }

    ends_are : (site : Site) (block byte : ℕ) (at' : v ≡ At block byte) → ends_at (at_node (own lo next) size true site) s.locals block byte ≡ Some (ends site block byte at')
    ends_are site block byte at' =
        ends_of lo next site block byte (start site block byte at').number ((read block byte at').number +ℤ pos 1) (start site block byte at').is (next_number block byte at')

    -- those that begin at the old upper end
    abbrev upper : (block byte : ℕ) → v ≡ At block byte → Ends
    upper block byte at' = record { low = pos byte +ℤ ((read block byte at').number *ℤ pos size); high = high_at block byte at'; size = size }

    upper_are : (site : Site) (block byte : ℕ) (at' : v ≡ At block byte) → ends_at (at_node (own hi next) size true site) s.locals block byte ≡ Some (upper block byte at')
    upper_are site block byte at' = ends_of hi next site block byte (read block byte at').number ((read block byte at').number +ℤ pos 1) (read block byte at').is (next_number block byte at')

    higher : (block byte : ℕ) (at' : v ≡ At block byte) → high_at block byte at' ≡ pos (read block byte at').place +ℤ pos size
    higher block byte at' =
        let r = read block byte at' in
        let is = r.at' in
        let sum = times_plus r.number (pos 1) size in
        let one : pos 1 *ℤ pos size ≡ pos size = (let n : 1 * size ≡ size = omega arith in ap pos n) in
        omega (arith, ints, is, sum, one)

    next_passes : (site : Site) (w : Value) → v ≡ w → is_valid (at_node (own hi next) size true site) w s ≡ true → is_valid (at_node (own lo next) size true site) w s ≡ true
    next_passes site (Number z) at' valid = absurd (cc)
    next_passes site Null at' valid = refl
    next_passes site (At block byte) at' valid =
        let w = valid_from (at_node (own hi next) size true site) block byte s valid in
        let same : w.ends ≡ upper block byte at' = same_Some w.ends (upper block byte at') (sym w.are ∙ upper_are site block byte at') in
        let fits : lie_within (upper block byte at') (block_size w.held - size) ≡ true = subst (λ (e : Ends). lie_within e (block_size w.held - e.size) ≡ true) same w.fits in
        let is = (read block byte at').at' in
        let up = higher block byte at' in
        let order : int_le (upper block byte at').low (upper block byte at').high ≡ true = int_to (upper block byte at').low (upper block byte at').high (omega (arith, ints, is, up)) in
        let both : (int_le (pos 0) (upper block byte at').low && int_le (upper block byte at').high (pos (block_size w.held - size))) ≡ true = rw order at fits in
        let high = int_from (upper block byte at').high (pos (block_size w.held - size)) (both_true (int_le (pos 0) (upper block byte at').low) (int_le (upper block byte at').high (pos (block_size w.held - size))) both).1 in
        valid_to (at_node (own lo next) size true site) block byte s (record {
          held = w.held;
          ends = ends site block byte at';
          found = w.found;
          are = ends_are site block byte at';
          place = w.place;
          fits = lies (ends site block byte at') (block_size w.held - size) (start site block byte at').zero_le high;
        })

    next_leads : (site : Site) (block byte : ℕ) (at' : v ≡ At block byte) → AreEnded structs (shapes s.blocks) target block byte (ends site block byte at')
    next_leads site block byte at' n place step lies' =
        let parts = both_true (int_le (low_at site block byte at') (pos place)) (int_le (pos place) (high_at block byte at')) lies' in
        by (int_lt (pos place) (pos (read block byte at').place)) refl parts.0 parts.1
      where
        -- with what is so of its place among other ends
        among : (e : Ends) → ((lies_below (ends site block byte at') (pos place) ≡ true) → lies_below e (pos place) ≡ true) → IsEndedPlace structs (shapes s.blocks) target block place (lies_below e (pos place))
            → IsEndedPlace structs (shapes s.blocks) target block place (lies_below (ends site block byte at') (pos place))
        among e less h = record {
          shape = h.shape;
          found = h.found;
          ended = h.ended;
          unsealed = h.unsealed;
          cells = h.cells;
          types = h.types;
          strides = h.strides;
          some = h.some;
          number = h.number;
          is = h.is;
          below = h.below;
          before_zero = λ inside. h.before_zero (less inside);
        }

        -- the ends before
        before : Ends
        before = record { low = low_at site block byte at'; high = pos byte +ℤ ((read block byte at').number *ℤ pos size); size = size }

        by : (test : Bool) → int_lt (pos place) (pos (read block byte at').place) ≡ test → int_le (low_at site block byte at') (pos place) ≡ true → int_le (pos place) (high_at block byte at') ≡ true
            → IsEndedPlace structs (shapes s.blocks) target block place (lies_below (ends site block byte at') (pos place))
        by true less low high =
            let top : pos (read block byte at').place ≡ before.high = (read block byte at').at' in
            let under : int_lt (pos place) before.high ≡ true = subst (λ z. int_lt (pos place) z ≡ true) top less in
            let up : int_le (pos place) before.high ≡ true = grind (arith, ints, under) in
            among before (λ inside. and_from (int_le before.low (pos place)) (int_lt (pos place) before.high) low under)
            (h.leads site block byte before at' (ends_of lo hi site block byte (start site block byte at').number (read block byte at').number (start site block byte at').is (read block byte at').is) n place step
            (and_from (int_le before.low (pos place)) (int_le (pos place) before.high) low up))
        by false more low high =
            let top : pos (read block byte at').place ≡ (upper block byte at').low = (read block byte at').at' in
            let above : int_le (upper block byte at').low (pos place) ≡ true = subst (λ z. int_le z (pos place) ≡ true) top (let q : int_le (pos (read block byte at').place) (pos place) ≡ true = grind (arith, ints, more) in q) in
            among (upper block byte at')
            (λ inside. and_from (int_le (upper block byte at').low (pos place)) (int_lt (pos place) (upper block byte at').high) above (both_true (int_le (low_at site block byte at') (pos place)) (int_lt (pos place) (high_at block byte at')) inside).1)
            ((valid_behind h).leads site block byte (upper block byte at') at' (upper_are site block byte at') n place step
            (and_from (int_le (upper block byte at').low (pos place)) (int_le (pos place) (upper block byte at').high) above high))

    pub valid_next : IsValidUp lo next
    valid_next = record {
      passes = λ site. next_passes site v refl ((valid_behind h).passes site);
      leads = λ site block byte e at' are.
          subst (AreEnded structs (shapes s.blocks) target block byte) (same_Some (ends site block byte at') e (sym (ends_are site block byte at') ∙ are)) (next_leads site block byte at');
    }

-- ---- flows

-- the bounds in force, where they became wider
record WereWider (index : Term) (t : ClosedTable) (bounds : Option Bounds) (d : Bounds) : Type 0 where
  before : Bounds
  were : bounds ≡ Some before
  none : before.base ≡ None
  next : Term
  raised : within_limit before.hi.var (before.hi.plus +ℤ pos 1) ≡ Some next
  is : record before { hi = next } ≡ d
  below : entails_terms index before.hi t ≡ true
  above : entails_terms before.hi index t ≡ true

were_wider : (index : Term) (t : ClosedTable) (bounds : Option Bounds) (d : Bounds) → wider index t bounds ≡ Some d → WereWider index t bounds d
were_wider index t None d h = absurd (cc)
were_wider index t (Some b) d h = by (is_none b.base && are_equal index b.hi t) refl h
  where
    raised_by : (o : Option Term) → within_limit b.hi.var (b.hi.plus +ℤ pos 1) ≡ o → (is_none b.base && are_equal index b.hi t) ≡ true → up_to b o ≡ Some d → WereWider index t (Some b) d
    raised_by None e is further = absurd (cc)
    raised_by (Some next) e is further =
        let parts = both_true (is_none b.base) (are_equal index b.hi t) is in
        let equal = both_true (entails_terms index b.hi t) (entails_terms b.hi index t) parts.1 in
        record { before = b; were = refl; none = none_is b.base parts.0; next = next; raised = e; is = same_Some (record b { hi = next }) d further; below = equal.0; above = equal.1 }

    by : (test : Bool) → (is_none b.base && are_equal index b.hi t) ≡ test → cond test (one_further b) None ≡ Some d → WereWider index t (Some b) d
    by true is further = raised_by (within_limit b.hi.var (b.hi.plus +ℤ pos 1)) refl is further
    by false is further = absurd (cc)

module _ (structs : List Structure) (f : Knowledge) (flow : IsFlow f) (s : State) (p : ℕ) (index : Term) (below : IsBelow f.vars index.var) (zeros : EndInZeros s.blocks) (read : (l : Local) → slice_get s.locals p ≡ Some l → IsReadThere structs index l s) where
  abbrev held : Held
  held = held_at f.held p

  -- the index is where the upper end stands
  module _ (met : IsMet structs f s) (d : Bounds) (w : WereWider index f.facts held.bounds d) where
    read_high : (m : Mode) (target : CType) (v : Value) → IsValid structs (Some w.before) (record { type = Pointer m kinds.Nt target; value = v }) s → ((block byte : ℕ) → v ≡ At block byte → IsSetThere structs target index block byte s)
        → (block byte : ℕ) → v ≡ At block byte → IsSetThere structs target w.before.hi block byte s
    read_high m target v h reads block byte at' =
        let size = size_of structs target in
        let site : Site = record { place = record { line = 1; col = 1 } } in
        let node = at_node w.before size true site in
        let v' = valid_from node block byte s (subst (λ w. is_valid node w s ≡ true) at' (h.passes site)) in
        let e = ends_parts size _ (term_value w.before.lo s.locals) (term_value w.before.hi s.locals) v'.ends v'.are in
        let r = reads block byte at' in
        let hi : IsBelow f.vars w.before.hi.var = (subst (AreBoundsBelow f.vars) w.were (held_below f.vars f.held p flow.variables.below).bounds).hi in
        let low = (flows_hold structs f flow).entail index w.before.hi s below hi w.below met in
        let high = (flows_hold structs f flow).entail w.before.hi index s hi below w.above met in
        let first = term_number s.locals index r.number r.is in
        let second = term_number s.locals w.before.hi e.high e.at_high in
        let same : e.high ≡ r.number = omega (arith, ints, low, high, first, second) in
        record { number = r.number; is = e.at_high ∙ ap Some same; place = r.place; at' = r.at'; inside = r.inside; stands = r.stands; cell = r.cell; found = r.found; set = r.set }

    own_bounds : w.before ≡ record { base = None; lo = w.before.lo; hi = w.before.hi }
    own_bounds = ap (λ base. record { base = base; lo = w.before.lo; hi = w.before.hi }) w.none

    own_next : record { base = None; lo = w.before.lo; hi = w.next } ≡ d
    own_next = ap (λ base. record { base = base; lo = w.before.lo; hi = w.next }) (sym w.none) ∙ w.is

    valid_of : (type : CType) (v : Value) (m : Mode) (target : CType) → type ≡ Pointer m kinds.Nt target → IsValid structs (Some w.before) (record { type = type; value = v }) s → ((block byte : ℕ) → v ≡ At block byte → IsSetThere structs target index block byte s)
        → IsValid structs (Some d) (record { type = type; value = v }) s
    valid_of type v m target is h reads =
        let here = subst (λ type. IsValid structs (Some w.before) (record { type = type; value = v }) s) is h in
        subst (λ type. IsValid structs (Some d) (record { type = type; value = v }) s) (sym is)
        (subst (λ d. IsValid structs (Some d) (record { type = Pointer m kinds.Nt target; value = v }) s) own_next
        (valid_next structs s m target w.before.lo w.before.hi w.next w.raised zeros v (read_high m target v here reads) (subst (λ b. IsValid structs (Some b) (record { type = Pointer m kinds.Nt target; value = v }) s) own_bounds here)))

  one_start : (b d : Bounds) (declared : Option Bounds) → d.base ≡ b.base → d.lo ≡ b.lo → HaveOneStart (Some b) declared → HaveOneStart (Some d) declared
  one_start b d None same low h = tt
  one_start b d (Some c) same low h = (same ∙ h.0, low ∙ h.1)

  abbrev wide : Option Bounds
  wide = wider index f.facts held.bounds

  one_widened : IsMet structs f s → (o : Option Bounds) → wider index f.facts held.bounds ≡ o → (l : Local) → slice_get s.locals p ≡ Some l → IsHeld structs f.assigned held l s → IsHeld structs f.assigned (with_bounds o held) l s
  one_widened met None is l there h = h
  one_widened met (Some d) is l there h =
      let w = were_wider index f.facts held.bounds d is in
      let r = read l there in
      record {
        valid = valid_of met d w l.type l.value r.mode r.target r.pointer (subst (λ o. IsValid structs o l s) w.were h.valid) r.read;
        known = h.known;
        null = h.null;
        declared = h.declared;
        start = λ rests.
            one_start w.before d held.declared (sym (ap (λ (b : Bounds). b.base) w.is)) (sym (ap (λ (b : Bounds). b.lo) w.is))
            (subst (λ o. HaveOneStart o held.declared) w.were (h.start rests));
      }

  formed_widened : (types : List CType) (size : ℕ) (o : Option Bounds) → wider index f.facts held.bounds ≡ o → IsFormed structs types size held → IsFormed structs types size (with_bounds o held)
  formed_widened types size None is h = h
  formed_widened types size (Some d) is h =
      let w = were_wider index f.facts held.bounds d is in
      let none : d.base ≡ None = sym (ap (λ (b : Bounds). b.base) w.is) ∙ w.none in
      record { ints = h.ints; declared = h.declared; bounds = λ q t base at'. absurd (let no : None ≡ Some q = sym none ∙ base in cc) }

  kept_mark : (o : Option Bounds) → held.mark ≡ marks.Settled → (with_bounds o held).mark ≡ marks.Settled
  kept_mark None h = h
  kept_mark (Some d) h = h

  kept_declared : (o : Option Bounds) (l : Local) → IsValid structs held.declared l s → IsValid structs (with_bounds o held).declared l s
  kept_declared None l h = h
  kept_declared (Some d) l h = h

  pub read_fits : Fits structs f s → Fits structs (widened p index f) s
  read_fits h = record {
    holds = record {
      met = record {
        types = h.holds.met.types;
        facts = h.holds.met.facts;
        formed = formed_set structs (types_of s.locals) f.held p (with_bounds wide held) (λ t e. formed_widened (types_of s.locals) (target_size structs t) wide refl (h.holds.met.formed p t e)) h.holds.met.formed;
      };
      pointers = each_set (λ q h. (l : Local) → slice_get s.locals q ≡ Some l → IsHeld structs f.assigned h l s) f.held p (with_bounds wide held)
          (λ l e. one_widened h.holds.met wide refl l e (h.holds.pointers p l e)) (λ l e. none_held structs f.assigned l s) (λ q ne l e. h.holds.pointers q l e);
    };
    settled = λ apart. (
        let settled = h.settled apart in
        record {
          marks = each_set (λ q h. h.mark ≡ marks.Settled) f.held p (with_bounds wide held) (kept_mark wide (settled.marks p)) refl (λ q ne. settled.marks q);
          assigned = settled.assigned;
          apart = apart;
        });
    declared = λ apart. each_set (λ q h. (l : Local) → slice_get s.locals q ≡ Some l → IsValid structs h.declared l s) f.held p (with_bounds wide held) (λ l e. kept_declared wide l (h.declared apart p l e)) (λ l e. tt) (λ q ne. h.declared apart q);
  }
