-- Pointers that are cast: new ends that lie within those of a pointer.
use Rattle.std.proofs.Common.{◌≡◌, ℕ, ℤ, pos, ◌+ℤ◌, ◌*ℤ◌, ◌≤ℤ◌, Bool, true, false, List, Some, refl, sym, ap, ◌∙◌, subst, arith}
use Rattle.std.specs.Prelude.{◌&&◌, int_le, int_lt}
use Rattle.std.proofs.lemmas.Int.{ints}
use Rattle.std.proofs.lemmas.Bool.{and_from}
use Rattle.pointer_modes.specs.Types.{CType, Structure, Int, Char, Struct, Pointer}
use Rattle.bounds_flow_meaning.specs.Holding.{AreInts, HaveTypes, IsValid, at_node, numbers_in, types_of, is_ended, target_size}
use Rattle.bounds_flow_meaning.specs.Rows.{LeadsOn}
use Rattle.bounds_flow_meaning.proofs.Numbers.{int_term}
use Rattle.bounds_flow_meaning.proofs.Validity.{both_true, ends_made, int_from, int_to, valid_from, valid_to, less_inside}
use Rattle.bounds_exprs.specs.Values.{value as term_number}
use Rattle.ckc_core.specs.declared.program.PointerBounds.{PointerBounds}
use Rattle.ckc_core.specs.declared.program.Site.{Site}
use Rattle.ckc_core.specs.States.{At, State, shapes, Shape}
use Rattle.ckc_core.specs.Bounds.{Ends, base_byte, ends_at, is_valid, lie_within, term_value, room_of}
use Rattle.ckc_core.specs.Pointers.{are_within, lies_below, lies_up_to}
use Rattle.region_typing_rules.proofs.Elements.{pointing}
use Rattle.pointer_modes.specs.declared.ctype.Kind.TheVariants as kinds

-- ---- ends within ends

-- where the new ends aren't turned, they lie between the old ones
inner : (e f : Ends) → are_within e f ≡ true → f.low ≤ℤ f.high → (e.low ≤ℤ f.low) × (f.high ≤ℤ e.high)
inner e f h le = by (int_lt f.high f.low) refl
  where
    by : (test : Bool) → int_lt f.high f.low ≡ test → (e.low ≤ℤ f.low) × (f.high ≤ℤ e.high)
    by true t = absurd (turned f.low f.high t le)
      where
        turned : (a b : ℤ) → int_lt b a ≡ true → a ≤ℤ b → ⊥
        turned a b t le = grind (arith, ints)
    by false t =
        let both : (int_le e.low f.low && int_le f.high e.high) ≡ true = rw t at h in
        let parts = both_true (int_le e.low f.low) (int_le f.high e.high) both in
        (int_from e.low f.low parts.0, int_from f.high e.high parts.1)

lies_in : (e f : Ends) (size : ℕ) → are_within e f ≡ true → lie_within e size ≡ true → lie_within f size ≡ true
lies_in e f size h fits = by (int_le f.low f.high) refl
  where
    by : (test : Bool) → int_le f.low f.high ≡ test → lie_within f size ≡ true
    by false t = rw t refl
    by true t =
        let le = int_from f.low f.high t in
        let w = inner e f h le in
        let low = w.0 in
        let high = w.1 in
        let wide : int_le e.low e.high ≡ true = int_to e.low e.high (omega (arith, ints, low, high, le)) in
        let both : (int_le (pos 0) e.low && int_le e.high (pos size)) ≡ true = rw wide at fits in
        let parts = both_true (int_le (pos 0) e.low) (int_le e.high (pos size)) both in
        let a = int_from (pos 0) e.low parts.0 in
        let b = int_from e.high (pos size) parts.1 in
        rw t (and_from (int_le (pos 0) f.low) (int_le f.high (pos size)) (int_to (pos 0) f.low (omega (arith, ints, a, low))) (int_to f.high (pos size) (omega (arith, ints, b, high))))

-- what is between the new ends is between the old ones
lies_between : (e f : Ends) (byte : ℤ) → are_within e f ≡ true → lies_below f byte ≡ true → lies_below e byte ≡ true
lies_between e f byte h below =
    let parts = both_true (int_le f.low byte) (int_lt byte f.high) below in
    let from = int_from f.low byte parts.0 in
    let until = less_from byte f.high parts.1 in
    let w = inner e f h (omega (arith, ints, from, until)) in
    let low = w.0 in
    let high = w.1 in
    and_from (int_le e.low byte) (int_lt byte e.high) (int_to e.low byte (omega (arith, ints, low, from))) (less_to byte e.high (omega (arith, ints, until, high)))
  where
    less_from : (a b : ℤ) → int_lt a b ≡ true → (a +ℤ pos 1) ≤ℤ b
    less_from a b t = grind (arith, ints)

    less_to : (a b : ℤ) → (a +ℤ pos 1) ≤ℤ b → int_lt a b ≡ true
    less_to a b le = grind (arith, ints)

up_to_between : (e f : Ends) (byte : ℤ) → are_within e f ≡ true → lies_up_to f byte ≡ true → lies_up_to e byte ≡ true
up_to_between e f byte h upto =
    let parts = both_true (int_le f.low byte) (int_le byte f.high) upto in
    let from = int_from f.low byte parts.0 in
    let until = int_from byte f.high parts.1 in
    let w = inner e f h (omega (arith, ints, from, until)) in
    let low = w.0 in
    let high = w.1 in
    and_from (int_le e.low byte) (int_le byte e.high) (int_to e.low byte (omega (arith, ints, low, from))) (int_to byte e.high (omega (arith, ints, until, high)))

-- what stands between the old ends stands between the new ones
leads_within : (structs : List Structure) (blocks : List Shape) (c : CType) (block byte : ℕ) (e f : Ends) → e.size ≡ f.size → are_within e f ≡ true → LeadsOn structs blocks c block byte e → LeadsOn structs blocks c block byte f
leads_within structs blocks Int block byte e f size within h = tt
leads_within structs blocks Char block byte e f size within h = tt
leads_within structs blocks (Struct number) block byte e f size within h = tt
leads_within structs blocks (Pointer mode kinds.One target) block byte e f size within h =
    λ n place step lies. h n place (step ∙ ap (λ k. pos byte +ℤ (n *ℤ pos k)) (sym size)) (lies_between e f (pos place) within lies)
leads_within structs blocks (Pointer mode kinds.Array target) block byte e f size within h =
    λ n place step lies. h n place (step ∙ ap (λ k. pos byte +ℤ (n *ℤ pos k)) (sym size)) (lies_between e f (pos place) within lies)
leads_within structs blocks (Pointer mode kinds.Nt target) block byte e f size within h =
    λ n place step lies. less_inside structs blocks target block place (lies_below e (pos place)) (lies_below f (pos place)) (lies_between e f (pos place) within)
    (h n place (step ∙ ap (λ k. pos byte +ℤ (n *ℤ pos k)) (sym size)) (up_to_between e f (pos place) within lies))

-- ---- pointers

module _ (structs : List Structure) (c : CType) (p q : PointerBounds) (p_size : p.size ≡ target_size structs c) (q_size : q.size ≡ target_size structs c) (block byte : ℕ) (s : State) where
  abbrev node : PointerBounds → Site → PointerBounds
  node r site = at_node r.bounds (target_size structs c) (is_ended c) site

  node_ends : (r : PointerBounds) → r.size ≡ target_size structs c → (e : Ends) → ends_at r s.locals block byte ≡ Some e → (site : Site) → ends_at (node r site) s.locals block byte ≡ Some e
  node_ends r size e are site = subst (λ n. ends_at (at_node r.bounds n (is_ended c) site) s.locals block byte ≡ Some e) size are

  -- a pointer that is valid with its bounds is valid with new ones whose ends lie within those
  pub cast_valid : (e f : Ends) → ends_at p s.locals block byte ≡ Some e → ends_at q s.locals block byte ≡ Some f → e.size ≡ f.size → are_within e f ≡ true
      → IsValid structs (Some p.bounds) (pointing c (At block byte)) s → IsValid structs (Some q.bounds) (pointing c (At block byte)) s
  cast_valid e f are_old are_new sizes within h = record { passes = passes; leads = leads }
    where
      passes : (site : Site) → is_valid (node q site) (At block byte) s ≡ true
      passes site =
          let v = valid_from (node p site) block byte s (h.passes site) in
          let same : v.ends ≡ e = some_same v.ends e (sym v.are ∙ node_ends p p_size e are_old site) in
          valid_to (node q site) block byte s (record {
            held = v.held;
            ends = f;
            found = v.found;
            are = node_ends q q_size f are_new site;
            place = v.place;
            fits = lies_in e f (room_of (is_ended c) v.held f.size) within (subst (λ size. lie_within e (room_of (is_ended c) v.held size) ≡ true) sizes (subst (λ e. lie_within e (room_of (is_ended c) v.held e.size) ≡ true) same v.fits));
          })
        where
          some_same : (a b : Ends) → Some a ≡ Some b → a ≡ b
          some_same a b q = cc

      leads : (site : Site) (block' byte' : ℕ) (g : Ends) → At block byte ≡ At block' byte' → ends_at (node q site) s.locals block' byte' ≡ Some g → LeadsOn structs (shapes s.blocks) c block' byte' g
      leads site block' byte' g at' are =
          let b : block ≡ block' = cc in
          let y : byte ≡ byte' = cc in
          let there : ends_at (node q site) s.locals block byte ≡ Some g = subst (λ x. ends_at (node q site) s.locals x byte ≡ Some g) (sym b) (subst (λ x. ends_at (node q site) s.locals block' x ≡ Some g) (sym y) are) in
          let same : f ≡ g = some_same f g (sym (node_ends q q_size f are_new site) ∙ there) in
          leads_within structs (shapes s.blocks) c block' byte' e g (sizes ∙ ap (λ (x : Ends). x.size) same) (subst (λ g. are_within e g ≡ true) same within)
          (h.leads site block' byte' e at' (subst (λ x. ends_at (node p site) s.locals x byte' ≡ Some e) b (subst (λ x. ends_at (node p site) s.locals block x ≡ Some e) y (node_ends p p_size e are_old site))))
        where
          some_same : (a b : Ends) → Some a ≡ Some b → a ≡ b
          some_same a b q = cc

  -- new ends are there where their base stands in the block
  pub new_ends : HaveTypes s.locals → AreInts (types_of s.locals) q.bounds → (w : ℕ) → base_byte q.bounds.base s.locals block byte ≡ Some w → (f : Ends) × (ends_at q s.locals block byte ≡ Some f) × (f.size ≡ target_size structs c)
  new_ends types ints w base =
      let v = numbers_in s.locals in
      let low = term_number v q.bounds.lo in
      let high = term_number v q.bounds.hi in (
        record { low = pos w +ℤ (low *ℤ pos q.size); high = pos w +ℤ (high *ℤ pos q.size); size = q.size },
        ends_made q.size w low high (base_byte q.bounds.base s.locals block byte) (term_value q.bounds.lo s.locals) (term_value q.bounds.hi s.locals) base (int_term s.locals q.bounds.lo types ints.lo) (int_term s.locals q.bounds.hi types ints.hi),
        q_size,
      )
