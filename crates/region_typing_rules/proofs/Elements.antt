-- Pointers that are valid with the bounds at their nodes: what accesses and sums come to.
use Rattle.std.proofs.Common.{◌≡◌, ℕ, zero, suc, ◌+◌, ◌*◌, ◌<◌, ◌≤◌, ℤ, pos, negsuc, neg_ℤ, ◌+ℤ◌, ◌*ℤ◌, ◌≤ℤ◌, Bool, true, false, List, Option, Some, None, refl, sym, ap, ◌∙◌, subst, arith}
use Rattle.std.specs.Prelude.{◌&&◌, is_some, option_map, slice_get, int_le, int_lt, nat_le, sum}
use Rattle.std.proofs.lemmas.Int.{ints}
use Rattle.std.proofs.lemmas.Bool.{and_from}
use Rattle.std.proofs.lemmas.Bool.Decides.{nat_tests}
use Rattle.bounds_exprs.specs.declared.term.Bounds.{Bounds}
use Rattle.bounds_exprs.specs.Changes.{moved_by}
use Rattle.pointer_modes.specs.declared.ctype.Mode.{Mode}
use Rattle.pointer_modes.specs.declared.ctype.Kind.TheVariants as kinds
use Rattle.pointer_modes.specs.Types.{CType, Pointer, Structure}
use Rattle.pointer_modes.specs.Layout.{size_of}
use Rattle.bounds_flow_meaning.specs.Holding.{HasSize, IsValid, at_node, types_of, is_ended, target_size}
use Rattle.bounds_flow_meaning.specs.Rows.{AreElements, HasRow, IsPlace, LeadsOn}
use Rattle.bounds_flow_meaning.proofs.Validity.{IsValidAt, between_parts, both_true, int_from, int_to, nat_more, valid_from, valid_to}
use Rattle.bounds_flow_meaning.proofs.Sums.{bases_stay, ends_move_back, lies}
use Rattle.ckc_core.specs.declared.program.Direction.{Direction}
use Rattle.ckc_core.specs.declared.program.Direction.TheVariants as directions
use Rattle.ckc_core.specs.declared.program.PointerBounds.{PointerBounds}
use Rattle.ckc_core.specs.declared.program.Site.{Site}
use Rattle.ckc_core.specs.Core as core
use Rattle.ckc_core.specs.States.{Value, Number, Null, At, Block, Local, State, Shape, shape, shapes}
use Rattle.ckc_core.specs.Bounds.{Ends, base_byte, block_size, ends_at, ends_from, is_valid, lie_within, term_value, room_of}
use Rattle.ckc_core.specs.Pointers.{distance, lies_below, lies_up_to, reaches}
use Rattle.region_typing_rules.specs.Verdicts.{picked}
use Rattle.region_typing_rules.specs.Readings.{against, based_bounds, constant, from_base, toward, with_base}
use Rattle.region_typing_rules.specs.Typed as typed
use Rattle.region_typing_rules.specs.Operands.{one_element}
use Rattle.region_typing_rules.specs.DeclaredBounds.{row_of}
use Rattle.region_typing_rules.specs.Typed.{AreRows, AreSumBounds, HasValue, IsBoundedBy, IsNodeOf}
use Rattle.region_typing_rules.proofs.Validity.{place_valid}
use Rattle.region_typing_rules.proofs.Values.{mapped_from}

-- bounds at a node of a pointer of the type
abbrev pub AreOf : List Structure → CType → Option PointerBounds → Type 0
AreOf structs c None = Unit {0}
AreOf structs c (Some p) = IsNodeOf structs c p

-- a pointer with bounds that holds a value
abbrev pub pointing : CType → Value → Local
pointing c v = record { type = c; value = v }

-- ---- numbers

neg_neg : (z : ℤ) → neg_ℤ (neg_ℤ z) ≡ z
neg_neg z = omega (arith, ints)

neg_times : (z : ℤ) (n : ℕ) → neg_ℤ z *ℤ pos n ≡ neg_ℤ (z *ℤ pos n)
neg_times (pos zero) n = omega (arith, ints)
neg_times (pos (suc a)) n = omega (arith, ints)
neg_times (negsuc a) n = omega (arith, ints)

pub as_many : (direction : Direction) (z : ℤ) (n : ℕ) → toward direction z *ℤ pos n ≡ distance direction n z
as_many directions.Forward z n = refl
as_many directions.Backward z n = neg_times z n

against_is : (direction : Direction) (c : ℤ) → against direction c ≡ neg_ℤ (toward direction c)
against_is directions.Forward c = refl
against_is directions.Backward c = sym (neg_neg c)

natural : (x : ℤ) → pos 0 ≤ℤ x → (n : ℕ) × (x ≡ pos n)
natural (pos n) h = (n, refl)
natural (negsuc n) h = absurd (omega (arith, ints, h))

lt_from : (a b : ℤ) → int_lt a b ≡ true → (a +ℤ pos 1) ≤ℤ b
lt_from a b h = grind (arith, ints)

-- ---- ends

ends_size : (size : ℕ) (base : Option ℕ) (lo hi : Option ℤ) (e : Ends) → ends_from size base lo hi ≡ Some e → e.size ≡ size
ends_size size None lo hi e h = absurd (cc)
ends_size size (Some base) None hi e h = absurd (cc)
ends_size size (Some base) (Some lo) None e h = absurd (cc)
ends_size size (Some base) (Some lo) (Some hi) e h = ap (λ (o : Option Ends). size_in o) (sym h)
  where
    size_in : Option Ends → ℕ
    size_in None = size
    size_in (Some e) = e.size

room_less : (ended : Bool) (b : Block) (size : ℕ) → room_of ended b size ≤ block_size b
room_less false b size = omega arith
room_less true b size = omega arith

-- below the upper end is up to it
pub below_up_to : (e : Ends) (x : ℤ) → lies_below e x ≡ true → lies_up_to e x ≡ true
below_up_to e x h =
    let parts = both_true (int_le e.low x) (int_lt x e.high) h in
    let less = lt_from x e.high parts.1 in
    and_from (int_le e.low x) (int_le x e.high) parts.0 (int_to x e.high (omega (arith, ints, less)))

module _ (structs : List Structure) (c : CType) (p : PointerBounds) (s : State) (is : IsNodeOf structs c p) where
  abbrev node : PointerBounds
  node = at_node p.bounds (target_size structs c) (is_ended c) p.site

  node_is : node ≡ p
  node_is = ap (λ n. at_node p.bounds n (is_ended c) p.site) (sym is.size) ∙ ap (λ ended. at_node p.bounds p.size ended p.site) (sym is.terminated)

  pub passes_at : (v : Value) → IsValid structs (Some p.bounds) (pointing c v) s → is_valid p v s ≡ true
  passes_at v h = subst (λ n. is_valid n v s ≡ true) node_is (h.passes p.site)

  module _ (block byte : ℕ) (h : IsValid structs (Some p.bounds) (pointing c (At block byte)) s) where
    abbrev valid : IsValidAt p block byte s
    valid = valid_from p block byte s (passes_at (At block byte) h)

    -- its ends
    pub ends_there : (e : Ends) × (ends_at p s.locals block byte ≡ Some e)
    ends_there = (valid.ends, valid.are)

    pub size_there : (e : Ends) → ends_at p s.locals block byte ≡ Some e → e.size ≡ target_size structs c
    size_there e are = ends_size p.size (base_byte p.bounds.base s.locals block byte) (term_value p.bounds.lo s.locals) (term_value p.bounds.hi s.locals) e are ∙ is.size

    same_ends : (e : Ends) → ends_at p s.locals block byte ≡ Some e → valid.ends ≡ e
    same_ends e are = same_some valid.ends e (sym valid.are ∙ are)
      where
        same_some : (a b : Ends) → Some a ≡ Some b → a ≡ b
        same_some a b q = cc

    -- ends that aren't turned lie in the block
    from_start : (e : Ends) → ends_at p s.locals block byte ≡ Some e → e.low ≤ℤ e.high → (pos 0 ≤ℤ e.low) × (e.high ≤ℤ pos (block_size valid.held))
    from_start e are le =
        let room = room_of p.terminated valid.held e.size in
        let fits : lie_within e room ≡ true = subst (λ e. lie_within e (room_of p.terminated valid.held e.size) ≡ true) (same_ends e are) valid.fits in
        let both : (int_le (pos 0) e.low && int_le e.high (pos room)) ≡ true = rw (int_to e.low e.high le) at fits in
        let parts = both_true (int_le (pos 0) e.low) (int_le e.high (pos room)) both in
        let high = int_from e.high (pos room) parts.1 in
        let less = room_less p.terminated valid.held e.size in
        (int_from (pos 0) e.low parts.0, omega (arith, ints, high, less))

    -- so do the elements up to the upper one
    pub number_there : (e : Ends) → ends_at p s.locals block byte ≡ Some e → (x : ℤ) → lies_up_to e x ≡ true → (place : ℕ) × (x ≡ pos place)
    number_there e are x upto =
        let parts = both_true (int_le e.low x) (int_le x e.high) upto in
        let low = int_from e.low x parts.0 in
        let high = int_from x e.high parts.1 in
        let start = from_start e are (omega (arith, ints, low, high)) in
        let begin = start.0 in
        natural x (omega (arith, ints, low, begin))

    -- what stands between the ends
    pub leads_there : (e : Ends) → ends_at p s.locals block byte ≡ Some e → LeadsOn structs (shapes s.blocks) c block byte e
    leads_there e are = h.leads p.site block byte e refl (ap (λ n. ends_at n s.locals block byte) node_is ∙ are)

    -- and a sum that its check lets through stays in the block
    pub up_to : (e : Ends) → ends_at p s.locals block byte ≡ Some e → (x : ℤ) → lies_up_to e x ≡ true → (place : ℕ) × (x ≡ pos place) × (reaches (slice_get s.blocks block) place ≡ true)
    up_to e are x upto =
        let parts = both_true (int_le e.low x) (int_le x e.high) upto in
        let low = int_from e.low x parts.0 in
        let high = int_from x e.high parts.1 in
        let end = (from_start e are (omega (arith, ints, low, high))).1 in
        let place = number_there e are x upto in
        let is = place.1 in
        let within' : place.0 ≤ block_size valid.held = omega (arith, ints, is, high, end) in
        (place.0, place.1, subst (λ o. reaches o place.0 ≡ true) (sym valid.found) (let q : nat_le place.0 (block_size valid.held) ≡ true = grind (arith, nat_tests) in q))

-- ---- sums

own_base : (k : ℕ) (b : Bounds) → (q : ℕ) × ((from_base k b).base ≡ Some q)
own_base k b = by b.base refl
  where
    by : (o : Option ℕ) → b.base ≡ o → (q : ℕ) × ((picked (is_some o) b (record b { base = Some k })).base ≡ Some q)
    by None e = (k, refl)
    by (Some q) e = (q, e)

local_base : (k : ℕ) (o : Option PointerBounds) (d : Bounds) → based_bounds (core.Local k o) ≡ Some d → (q : ℕ) × (d.base ≡ Some q)
local_base k None d h = absurd (cc)
local_base k (Some p) d h = let base = own_base k p.bounds in (base.0, ap (λ (b : Bounds). b.base) (sym (same_bounds (from_base k p.bounds) d h)) ∙ base.1)
  where
    same_bounds : (a b : Bounds) → Some a ≡ Some b → a ≡ b
    same_bounds a b q = cc

written_base : (o : Option Bounds) (d : Bounds) → with_base o ≡ Some d → (q : ℕ) × (d.base ≡ Some q)
written_base None d h = absurd (cc)
written_base (Some b) d h = by b.base refl h
  where
    by : (o : Option ℕ) → b.base ≡ o → picked (is_some o) (Some b) None ≡ Some d → (q : ℕ) × (d.base ≡ Some q)
    by None e h = absurd (cc)
    by (Some q) e h = let same : b ≡ d = cc in (q, ap (λ (b : Bounds). b.base) (sym same) ∙ e)

-- bounds beside those at the node count from a base
pub based_has_base : (e : core.Expression) (d : Bounds) → based_bounds e ≡ Some d → (q : ℕ) × (d.base ≡ Some q)
based_has_base (core.Number number) d h = absurd (cc)
based_has_base core.Null d h = absurd (cc)
based_has_base (core.Local k o) d h = local_base k o d h
based_has_base (core.Load type place bounds) d h = absurd (cc)
based_has_base (core.AddressOf place bounds) d h = absurd (cc)
based_has_base (core.Negate operand site) d h = absurd (cc)
based_has_base (core.Complement operand) d h = absurd (cc)
based_has_base (core.Not operand) d h = absurd (cc)
based_has_base (core.Arithmetic operator left right site) d h = absurd (cc)
based_has_base (core.Compare comparison left right) d h = absurd (cc)
based_has_base (core.Same left right) d h = absurd (cc)
based_has_base (core.AndAlso left right) d h = absurd (cc)
based_has_base (core.OrElse left right) d h = absurd (cc)
based_has_base (core.LowByte operand) d h = absurd (cc)
based_has_base (core.Call callee arguments bounds) d h = absurd (cc)
based_has_base core.NextInput d h = absurd (cc)
based_has_base (core.Sum pointer direction number site bounds) d h = based_has_base pointer d h
based_has_base (core.Order comparison left right site) d h = absurd (cc)
based_has_base (core.Allocate count element terminator bounds) d h = absurd (cc)
based_has_base (core.Length pointer site) d h = absurd (cc)
based_has_base (core.Cast pointer bounds) d h = written_base (option_map (λ (b : PointerBounds). b.bounds) bounds) d h

-- a pointer in a block, and the one that is so many elements further on, or back
pub record IsSum (structs : List Structure) (c : CType) (direction : Direction) (z : ℤ) (v w : Value) (s : State) : Type 0 where
  pub block : ℕ
  pub byte : ℕ
  pub place : ℕ
  pub before : v ≡ At block byte
  pub behind : w ≡ At block place
  pub step : pos place ≡ pos byte +ℤ (toward direction z *ℤ pos (target_size structs c))
  pub reach : reaches (slice_get s.blocks block) place ≡ true
  pub typed : HasValue structs (shapes s.blocks) c w

-- among the same blocks
pub sum_among : (structs : List Structure) (c : CType) (direction : Direction) (z : ℤ) (v w : Value) (s u : State) → u.blocks ≡ s.blocks → IsSum structs c direction z v w s → IsSum structs c direction z v w u
sum_among structs c direction z v w s u same h = record {
  block = h.block;
  byte = h.byte;
  place = h.place;
  before = h.before;
  behind = h.behind;
  step = h.step;
  reach = subst (λ blocks. reaches (slice_get blocks h.block) h.place ≡ true) (sym same) h.reach;
  typed = subst (λ blocks. HasValue structs (shapes blocks) c w) (sym same) h.typed;
}

module _ (structs : List Structure) (c : CType) (direction : Direction) (z : ℤ) (v w : Value) (s : State) (sum : IsSum structs c direction z v w s) where
  stays_based : (b : Bounds) (base : ℕ) → b.base ≡ Some base → IsValid structs (Some b) (pointing c v) s → IsValid structs (Some b) (pointing c w) s
  stays_based b base is h =
      subst (λ w. IsValid structs (Some b) (pointing c w) s) (sym sum.behind)
      (bases_stay structs s (pointing c v) sum.block sum.byte sum.place base (toward direction z) b sum.before sum.step sum.reach is h)

  based_from : (b : Bounds) (base : ℕ) → b.base ≡ Some base → IsBoundedBy structs b (pointing c v) s → IsBoundedBy structs b (pointing c w) s
  based_from b base is h = (stays_based b base is h.0, h.1)

  -- bounds without a base say nothing of one
  unbased : (b d : Bounds) (by : ℤ) → b.base ≡ None → moved_by by b ≡ Some d → HasSize structs (types_of s.locals) (target_size structs c) (Some d)
  unbased b d by none moved q u e there = absurd (let same = (between_parts b.base _ _ d moved).base in let k : None ≡ Some q = sym none ∙ (sym same ∙ e) in cc)

  -- a sum is valid with its bounds
  pub sum_valid : (types : List CType) (e : core.Expression) (i : core.Expression) (p : PointerBounds) (b : Option PointerBounds) → AreSumBounds types e direction i p b → ((c : ℤ) → constant types i ≡ Some c → z ≡ c)
      → IsBoundedBy structs p.bounds (pointing c v) s → ((d : Bounds) → based_bounds e ≡ Some d → IsBoundedBy structs d (pointing c v) s) → (q : PointerBounds) → b ≡ Some q → IsBoundedBy structs q.bounds (pointing c w) s
  sum_valid types e i p None typed.unknown number h based q is = absurd (cc)
  sum_valid types e i p (Some r) (typed.based {base = base} {site = site} from) number h based q is = subst (λ (o : PointerBounds). IsBoundedBy structs o.bounds (pointing c w) s) (some_same r q is) (based_from p.bounds base from h)
    where
      some_same : (a b : PointerBounds) → Some a ≡ Some b → a ≡ b
      some_same a b q = cc
  sum_valid types e i p (Some r) (typed.beside {d = d} {site = site} from) number h based q is =
      let base = based_has_base e d from in
      subst (λ (o : PointerBounds). IsBoundedBy structs o.bounds (pointing c w) s) (some_same r q is) (based_from d base.0 base.1 (based d from))
    where
      some_same : (a b : PointerBounds) → Some a ≡ Some b → a ≡ b
      some_same a b q = cc
  sum_valid types e i p (Some r) (typed.moved {c = by} {q = d} {site = site} none is_constant moved) number h based q is =
      let back : moved_by (neg_ℤ (toward direction z)) p.bounds ≡ Some d = ap (λ c. moved_by c p.bounds) (ap (λ c. neg_ℤ (toward direction c)) (number by is_constant) ∙ sym (against_is direction by)) ∙ moved in
      subst (λ (o : PointerBounds). IsBoundedBy structs o.bounds (pointing c w) s) (some_same r q is) (
        subst (λ w. IsValid structs (Some d) (pointing c w) s) (sym sum.behind)
            (ends_move_back structs s (pointing c v) sum.block sum.byte sum.place (toward direction z) p.bounds d sum.before sum.step sum.reach none back h.0),
        unbased p.bounds d (neg_ℤ (toward direction z)) none back,
      )
    where
      some_same : (a b : PointerBounds) → Some a ≡ Some b → a ≡ b
      some_same a b q = cc

  -- and so with those that its pointer has from a base
  pub sum_based : (e : core.Expression) (d : Bounds) → based_bounds e ≡ Some d → IsBoundedBy structs d (pointing c v) s → IsBoundedBy structs d (pointing c w) s
  sum_based e d from h = let base = based_has_base e d from in based_from d base.0 base.1 h

-- of elements of the same size
pub sum_size : (structs : List Structure) (c : CType) (types : List CType) (e : core.Expression) (direction : Direction) (i : core.Expression) (p : PointerBounds) (b : Option PointerBounds) → AreSumBounds types e direction i p b → IsNodeOf structs c p
    → AreOf structs c b
sum_size structs c types e direction i p None are is = tt
sum_size structs c types e direction i p (Some r) (typed.based from) is = record { size = is.size; terminated = is.terminated }
sum_size structs c types e direction i p (Some r) (typed.beside from) is = record { size = is.size; terminated = is.terminated }
sum_size structs c types e direction i p (Some r) (typed.moved none at moved) is = record { size = is.size; terminated = is.terminated }

-- ---- arrays

block_there : (blocks : List Block) (k : ℕ) (x : Shape) → slice_get (shapes blocks) k ≡ Some x → (b : Block) × (slice_get blocks k ≡ Some b) × (shape b ≡ x)
block_there blocks k x h = mapped_from shape blocks k x h

less_by : (k n size : ℕ) → k * size < n * size → k < n
less_by k n size h = by (nat_le n k) refl
  where
    by : (test : Bool) → nat_le n k ≡ test → k < n
    by true e = (let le : n ≤ k = grind (arith, nat_tests) in let more = nat_more n k size le in absurd (omega (arith, h, more)))
    by false e = grind (arith, nat_tests)

module _ (structs : List Structure) (m : Mode) (t : CType) (n block : ℕ) (x : Shape) (s : State) (found : slice_get (shapes s.blocks) block ≡ Some x) (some : 0 < n) (rows : AreRows structs x t n) where
  abbrev bytes : ℕ
  bytes = size_of structs t

  -- the place of an element
  element_at : (z : ℤ) (place : ℕ) → pos place ≡ pos 0 +ℤ (z *ℤ pos bytes) → (pos place +ℤ pos 1) ≤ℤ pos (n * bytes) → IsPlace structs (shapes s.blocks) t block place
  element_at (pos k) place is below =
      let same : place ≡ k * bytes = omega (arith, ints, is) in
      let less : k * bytes < n * bytes = omega (arith, ints, same, below) in
      record { shape = x; found = found; row = subst (λ byte. HasRow structs x byte t) (sym same) (rows k (less_by k n bytes less)) }
  element_at (negsuc k) place is below = absurd (none bytes (omega (arith, ints, is)) below)
    where
      none : (size : ℕ) → place + (suc k * size) ≡ 0 → (pos place +ℤ pos 1) ≤ℤ pos (n * size) → ⊥
      none zero h le = let z : n * 0 ≡ 0 = grind arith in omega (arith, ints, le, z)
      none (suc size) h le = omega (arith, h)

  pub array_valid : (p : PointerBounds) → p.bounds ≡ row_of n → IsValid structs (Some p.bounds) (pointing (Pointer m kinds.Array t) (At block 0)) s
  array_valid p is = subst (λ b. IsValid structs (Some b) (pointing (Pointer m kinds.Array t) (At block 0)) s) (sym is) (record { passes = passes; leads = leads })
    where
      held : (b : Block) × (slice_get s.blocks block ≡ Some b) × (shape b ≡ x)
      held = block_there s.blocks block x found

      whole : Ends
      whole = record { low = pos 0 +ℤ ((pos 0 +ℤ pos 0) *ℤ pos bytes); high = pos 0 +ℤ ((pos 0 +ℤ pos n) *ℤ pos bytes); size = bytes }

      -- behind the last one the block goes on
      room : n * bytes ≤ block_size held.0
      room = by n some rows
        where
          by : (n : ℕ) → 0 < n → AreRows structs x t n → n * bytes ≤ block_size held.0
          by zero none all = absurd (omega (arith, none))
          by (suc k) none all =
              let last = (all k (omega arith)).room in
              let same : block_size held.0 ≡ sum x.strides = ap (λ (x : Shape). sum x.strides) held.2 in
              omega (arith, last, same)

      low_is : whole.low ≡ pos 0
      low_is = omega (arith, ints)

      high_is : whole.high ≡ pos (n * bytes)
      high_is = omega (arith, ints)

      fits : lie_within whole (block_size held.0) ≡ true
      fits = lies whole (block_size held.0) (omega (arith, ints)) (let r = room in let h = high_is in omega (arith, ints, r, h))

      passes : (site : Site) → is_valid (at_node (row_of n) (size_of structs t) false site) (At block 0) s ≡ true
      passes site = valid_to (at_node (row_of n) (size_of structs t) false site) block 0 s (record { held = held.0; ends = whole; found = held.1; are = refl; place = grind (arith, nat_tests); fits = fits })

      leads : (site : Site) (other byte : ℕ) (e : Ends) → At block 0 ≡ At other byte → ends_at (at_node (row_of n) (size_of structs t) false site) s.locals other byte ≡ Some e → AreElements structs (shapes s.blocks) t other byte e
      leads site other byte e at are z place step below =
          let block_is : block ≡ other = cc in
          let byte_is : 0 ≡ byte = cc in
          let ends_is : whole ≡ e = some_same whole e (subst (λ byte. ends_at (at_node (row_of n) (size_of structs t) false site) s.locals other byte ≡ Some e) (sym byte_is) are) in
          let h : lies_below whole (pos place) ≡ true = subst (λ e. lies_below e (pos place) ≡ true) (sym ends_is) below in
          let parts = both_true (int_le whole.low (pos place)) (int_lt (pos place) whole.high) h in
          let less = lt_from (pos place) whole.high parts.1 in
          let top = high_is in
          let size_is : whole.size ≡ e.size = ap (λ (e : Ends). e.size) ends_is in
          let from : pos place ≡ pos byte +ℤ (z *ℤ pos bytes) = subst (λ k. pos place ≡ pos byte +ℤ (z *ℤ pos k)) (sym size_is) step in
          subst (λ b. IsPlace structs (shapes s.blocks) t b place) block_is
          (element_at z place (subst (λ byte. pos place ≡ pos byte +ℤ (z *ℤ pos bytes)) (sym byte_is) from) (omega (arith, ints, less, top)))
        where
          some_same : (a b : Ends) → Some a ≡ Some b → a ≡ b
          some_same a b q = cc

-- ---- one element

module _ (structs : List Structure) (m : Mode) (t : CType) (s : State) (some : 0 < size_of structs t) where
  abbrev one_at : ℕ → Ends
  one_at byte = record { low = pos byte +ℤ ((pos 0 +ℤ pos 0) *ℤ pos (size_of structs t)); high = pos byte +ℤ ((pos 0 +ℤ pos 1) *ℤ pos (size_of structs t)); size = size_of structs t }

  pub one_below : (byte : ℕ) → lies_below (one_at byte) (pos byte) ≡ true
  one_below byte =
      let e = one_at byte in
      let low : e.low ≡ pos byte = omega (arith, ints) in
      let high : e.high ≡ pos byte +ℤ pos (size_of structs t) = omega (arith, ints) in
      and_from (int_le e.low (pos byte)) (int_lt (pos byte) e.high) (int_to e.low (pos byte) (omega (arith, ints, low))) (lt_to (pos byte) e.high (omega (arith, ints, high, some)))
    where
      lt_to : (a b : ℤ) → (a +ℤ pos 1) ≤ℤ b → int_lt a b ≡ true
      lt_to a b h = grind (arith, ints)

-- a pointer to one value is valid with the bounds of one element
module _ (structs : List Structure) (m : Mode) (t : CType) (s : State) where
  abbrev one_ends : ℕ → Ends
  one_ends byte = record { low = pos byte +ℤ ((pos 0 +ℤ pos 0) *ℤ pos (size_of structs t)); high = pos byte +ℤ ((pos 0 +ℤ pos 1) *ℤ pos (size_of structs t)); size = size_of structs t }

  first_alone : (byte : ℕ) (z : ℤ) (place size : ℕ) → pos place ≡ pos byte +ℤ (z *ℤ pos size) → pos byte ≤ℤ pos place → (pos place +ℤ pos 1) ≤ℤ (pos byte +ℤ pos size) → place ≡ byte
  first_alone byte (pos zero) place size is low high = omega (arith, ints, is)
  first_alone byte (pos (suc k)) place size is low high = absurd (omega (arith, ints, is, high))
  first_alone byte (negsuc k) place size is low high = omega (arith, ints, is, low)

  one_leads : (block byte : ℕ) → IsPlace structs (shapes s.blocks) t block byte → (site : Site) (other start : ℕ) (e : Ends) → At block byte ≡ At other start → ends_at (at_node one_element (size_of structs t) false site) s.locals other start ≡ Some e
      → AreElements structs (shapes s.blocks) t other start e
  one_leads block byte h site other start e at are z place step below =
      let block_is : block ≡ other = cc in
      let byte_is : byte ≡ start = cc in
      let ends_is : one_ends start ≡ e = some_same (one_ends start) e are in
      let under : lies_below (one_ends start) (pos place) ≡ true = subst (λ e. lies_below e (pos place) ≡ true) (sym ends_is) below in
      let parts = both_true (int_le (one_ends start).low (pos place)) (int_lt (pos place) (one_ends start).high) under in
      let low = int_from (one_ends start).low (pos place) parts.0 in
      let high = lt_from (pos place) (one_ends start).high parts.1 in
      let low_is : (one_ends start).low ≡ pos start = omega (arith, ints) in
      let high_is : (one_ends start).high ≡ pos start +ℤ pos (size_of structs t) = omega (arith, ints) in
      let from : pos place ≡ pos start +ℤ (z *ℤ pos (size_of structs t)) = subst (λ n. pos place ≡ pos start +ℤ (z *ℤ pos n)) (sym (ap (λ (e : Ends). e.size) ends_is)) step in
      let same = first_alone start z place (size_of structs t) from (omega (arith, ints, low, low_is)) (omega (arith, ints, high, high_is)) in
      subst (λ b. IsPlace structs (shapes s.blocks) t b place) block_is (subst (λ y. IsPlace structs (shapes s.blocks) t block y) (byte_is ∙ sym same) h)
    where
      some_same : (a b : Ends) → Some a ≡ Some b → a ≡ b
      some_same a b q = cc

  pub one_valid : (v : Value) → HasValue structs (shapes s.blocks) (Pointer m kinds.One t) v → IsValid structs (Some one_element) (pointing (Pointer m kinds.Array t) v) s
  one_valid (Number z) h = absurd h
  one_valid Null h = record { passes = λ site. refl; leads = λ site block byte e at are. absurd (cc) }
  one_valid (At block byte) h = record { passes = λ site. place_valid structs site s t block byte h; leads = one_leads block byte h }
