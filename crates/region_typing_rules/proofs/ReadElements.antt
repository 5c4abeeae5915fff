-- What a condition has read of null-terminated pointers.
use Rattle.std.proofs.Common.{◌≡◌, ℕ, ◌≤◌, ◌+◌, ◌*◌, ℤ, pos, negsuc, ◌+ℤ◌, ◌*ℤ◌, Bool, true, false, List, length, Option, Some, None, refl, sym, ◌∙◌, ap, subst, arith}
use Rattle.std.specs.Prelude.{not, slice_get}
use Rattle.std.proofs.lemmas.Int.{ints}
use Rattle.std.proofs.lemmas.Option.{same_Some, slice_get_within}
use Rattle.act_words.specs.Arithmetic as arithmetic
use Rattle.ckc_text.specs.declared.code.Code.TheVariants.{C2}
use Rattle.bounds_exprs.specs.declared.term.Term.{Term}
use Rattle.pointer_modes.specs.declared.ctype.Mode.TheVariants as modes
use Rattle.pointer_modes.specs.declared.ctype.Kind.TheVariants as kinds
use Rattle.pointer_modes.specs.Types.{CType, Int, Char, Struct, Pointer, Structure}
use Rattle.bounds_flow.specs.Conditions.{IsFlow}
use Rattle.bounds_flow.specs.Flows.{Knowledge, widened}
use Rattle.bounds_flow_meaning.specs.Holding.{HaveTypes, IsValid, at_node, target_size, types_of}
use Rattle.bounds_flow_meaning.specs.Rows.{IsEndedPlace}
use Rattle.bounds_flow_meaning.specs.Zeros.{EndInZeros}
use Rattle.bounds_flow_meaning.proofs.Numbers.{int_term, type_there}
use Rattle.bounds_flow_meaning.proofs.Validity.{ends_parts}
use Rattle.ckc_core.specs.declared.program.Direction.TheVariants as directions
use Rattle.ckc_core.specs.declared.program.PointerBounds.{PointerBounds}
use Rattle.ckc_core.specs.declared.program.Site.{Site}
use Rattle.ckc_core.specs.Bounds.{Ends as EndsOf, ends_at, term_value, with_ends}
use Rattle.ckc_core.specs.Core as core
use Rattle.ckc_core.specs.Outcome.{and_then}
use Rattle.ckc_core.specs.Pointers.{cell_behind, checked_if, distance, lies_below, lies_in, lies_up_to, number_given, pointer_at, pointer_if, reaches}
use Rattle.ckc_core.specs.States.{Value, Number, Null, At, Cell, Local, State, cell_at, same_type, shapes}
use Rattle.ckc_core.specs.Steps.{given, is_zero, load_at, place_if, truth, value_if, value_in}
use Rattle.ckc_core.specs.Meaning.{Knot, Setting, audit, element_within, number_of, place, summed, value}
use Rattle.region_typing_rules.specs.Readings.{is_ended_local, term, told}
use Rattle.region_typing_rules.specs.KnownIsSo.{WhereGiven, IsAlike, FitsAlike, HasLocals}
use Rattle.region_typing_rules.specs.Typed.{IsNodeOf}
use Rattle.region_typing_rules.proofs.Alike.{has_alike, number_alike}
use Rattle.region_typing_rules.proofs.Widened.{IsReadThere, IsSetThere, read_fits}
use Rattle.region_typing_rules.proofs.Keeping.{IsAfter, after_here, after_on, CallsKeep, value_after}
use Rattle.region_typing_rules.proofs.Terms.{so_both, so_further, so_on, audited_so, formed_below, formed_later, term_formed, IsNumberOf, IsOfTerm, number_is, term_so}

-- ---- where nodes are right

-- bounds at the node of a local pointer are such as its type has, and it is valid with them wherever what is known is so
pub record IsRightNode (structs : List Structure) (types : List CType) (f : Knowledge) (k : ℕ) (p : PointerBounds) : Type 0 where
  pub node : (t : CType) → slice_get types k ≡ Some t → IsNodeOf structs t p
  pub valid : (s : State) → FitsAlike structs (length types) f s → (l : Local) → slice_get s.locals k ≡ Some l → IsValid structs (Some p.bounds) l s

abbrev pub IsRightPointer : List Structure → List CType → Knowledge → core.Expression → Type 0
IsRightPointer structs types f (core.Local k b) = (p : PointerBounds) → b ≡ Some p → IsRightNode structs types f k p
IsRightPointer structs types f (core.Sum (core.Local k b) direction elements site own) = (p : PointerBounds) → b ≡ Some p → IsRightNode structs types f k p
IsRightPointer structs types f _ = Unit {0}

abbrev pub IsRightPlace : List Structure → List CType → Knowledge → core.Place → Type 0
IsRightPlace structs types f (core.Through pointer (core.Element number true) offset site) = (offset ≡ 0) × IsRightPointer structs types f pointer
IsRightPlace structs types f _ = Unit {0}

-- at each element of a null-terminated pointer that a condition tests
abbrev pub AreRight : List Structure → List CType → Knowledge → core.Expression → Type 0
AreRight structs types f (core.AndAlso left right) = AreRight structs types f left × AreRight structs types (told types left true f) right
AreRight structs types f (core.OrElse left right) = AreRight structs types f left × AreRight structs types (told types left false f) right
AreRight structs types f (core.Not operand) = AreRight structs types f operand
AreRight structs types f (core.Load type place bounds) = IsRightPlace structs types f place
AreRight structs types f _ = Unit {0}

-- ---- what is read

-- a place that is so many elements behind a local, by the bounds at its node, between whose ends it lies
pub record IsFoundAt (i : ℕ) (b : Option PointerBounds) (o : Option Term) (at : ℕ × ℕ) (s : State) : Type 0 where
  pub node : PointerBounds
  pub noted : b ≡ Some node
  pub local : Local
  pub there : slice_get s.locals i ≡ Some local
  pub byte : ℕ
  pub points : local.value ≡ At at.0 byte
  pub ends : EndsOf
  pub are : ends_at node s.locals at.0 byte ≡ Some ends
  pub number : ℤ
  pub counts : IsNumberOf s.locals o number
  pub place : pos at.1 ≡ pos byte +ℤ (number *ℤ pos ends.size)
  pub lies : lies_up_to ends (pos at.1) ≡ true

-- and what stands there
pub record IsLoaded (i : ℕ) (b : Option PointerBounds) (o : Option Term) (v : Value) (s : State) : Type 0 where
  pub at : ℕ × ℕ
  pub from : IsFoundAt i b o at s
  pub cell : Cell
  pub found : cell_at s.blocks at.0 at.1 ≡ Some cell
  pub is : v ≡ cell.value

moved_place : (i : ℕ) (b : Option PointerBounds) (o : Option Term) (block m n : ℕ) (s : State) → n ≡ m → IsFoundAt i b o (block, m) s → IsFoundAt i b o (block, n) s
moved_place i b o block m n s same h = subst (λ m. IsFoundAt i b o (block, m) s) (sym same) h

-- among the same locals
found_later : (i : ℕ) (b : Option PointerBounds) (o : Option Term) (at : ℕ × ℕ) (s t : State) → t.locals ≡ s.locals → IsFoundAt i b o at s → IsFoundAt i b o at t
found_later i b o at s t same h = record {
  node = h.node;
  noted = h.noted;
  local = h.local;
  there = subst (λ ls. slice_get ls i ≡ Some h.local) (sym same) h.there;
  byte = h.byte;
  points = h.points;
  ends = h.ends;
  are = subst (λ ls. ends_at h.node ls at.0 h.byte ≡ Some h.ends) (sym same) h.are;
  number = h.number;
  counts = subst (λ ls. IsNumberOf ls o h.number) (sym same) h.counts;
  place = h.place;
  lies = h.lies;
}

-- the local holds the value
abbrev pub IsHolding : ℕ → Value → State → Type 0
IsHolding i v s = (l : Local) × (slice_get s.locals i ≡ Some l) × (l.value ≡ v)

module _ (audited : Bool) (g : Setting) (k : Knot) (calls : CallsKeep k) (types : List CType) where
  pub local_read : (i : ℕ) (b : Option PointerBounds) (s : State) → WhereGiven (IsHolding i) (value audited g k (core.Local i b) s)
  local_read i b s = by (slice_get s.locals i) refl
    where
      by : (o : Option Local) → slice_get s.locals i ≡ o → WhereGiven (IsHolding i) (and_then (given o s) (audit audited b))
      by None e = tt
      by (Some l) e = audited_so (IsHolding i) audited b l.value s (l, e, refl)

  number_read : (e : core.Expression) (site : Option Site) (s : State) → HaveTypes s.locals → HasLocals types s → WhereGiven (λ (n : ℤ) (u : State). IsAfter s u × IsNumberOf s.locals (term types e) n) (and_then (value audited g k e s) (number_given site))
  number_read e site s typed has =
      so_on (λ v u. IsAfter s u × IsOfTerm s.locals (term types e) v) (λ (n : ℤ) (u : State). IsAfter s u × IsNumberOf s.locals (term types e) n) (value audited g k e s) (number_given site)
      (so_both (λ v u. IsAfter s u) (λ v u. IsOfTerm s.locals (term types e) v) (value audited g k e s) (value_after audited g k calls e s) (term_so audited g k calls types s.locals typed has e s refl)) by
    where
      by : (v : Value) (u : State) → IsAfter s u × IsOfTerm s.locals (term types e) v → WhereGiven (λ (n : ℤ) (u : State). IsAfter s u × IsNumberOf s.locals (term types e) n) (number_given site v u)
      by (Number z) u h = (h.0, number_is s.locals (term types e) z h.1)
      by Null u h = tt
      by (At block byte) u h = tt

  -- ---- steps from a local

  module _ (i : ℕ) (b : Option PointerBounds) (o : Option Term) (t u : State) (after : IsAfter t u) (n : ℤ) (counts : IsNumberOf t.locals o n) where
    -- the place so many elements behind it
    found_by : (p : PointerBounds) (block byte : ℕ) (e : EndsOf) (m : ℕ) → b ≡ Some p → IsHolding i (At block byte) t → ends_at p t.locals block byte ≡ Some e → pos byte +ℤ distance directions.Forward e.size n ≡ pos m → lies_up_to e (pos byte +ℤ distance directions.Forward e.size n) ≡ true
        → IsFoundAt i b o (block, m) u
    found_by p block byte e m noted holds are is lies = record {
      node = p;
      noted = noted;
      local = holds.0;
      there = subst (λ ls. slice_get ls i ≡ Some holds.0) (sym after.1) holds.1;
      byte = byte;
      points = holds.2;
      ends = e;
      are = subst (λ ls. ends_at p ls block byte ≡ Some e) (sym after.1) are;
      number = n;
      counts = subst (λ ls. IsNumberOf ls o n) (sym after.1) counts;
      place = sym is;
      lies = subst (λ z. lies_up_to e z ≡ true) is lies;
    }

    abbrev IsElement : ℕ × ℕ → State → Type 0
    IsElement at w = IsAfter t w × (IsFoundAt i b o at w × ((cell : Cell) × (cell_at w.blocks at.0 at.1 ≡ Some cell)))

    element_read : (site : Site) (v : Value) → IsHolding i v t → WhereGiven IsElement (element_within true 0 site n (with_ends b v t.locals).value (with_ends b v t.locals).ends u)
    element_read site v holds = by b refl v holds
      where
        cell_by : (p : PointerBounds) (block byte : ℕ) (e : EndsOf) (x : ℤ) → b ≡ Some p → IsHolding i (At block byte) t → ends_at p t.locals block byte ≡ Some e → pos byte +ℤ distance directions.Forward e.size n ≡ x → lies_up_to e (pos byte +ℤ distance directions.Forward e.size n) ≡ true
            → WhereGiven IsElement (cell_behind (Some site) block x 0 u)
        cell_by p block byte e (negsuc m) noted holds are is lies = tt
        cell_by p block byte e (pos m) noted holds are is lies = placed (cell_at u.blocks block (m + 0)) refl
          where
            same : m + 0 ≡ m
            same = omega arith

            placed : (c : Option Cell) → cell_at u.blocks block (m + 0) ≡ c → WhereGiven IsElement (place_if c (Some site) block (m + 0) u)
            placed None e' = tt
            placed (Some cell) e' = (after, (moved_place i b o block m (m + 0) u same (found_by p block byte e m noted holds are is lies), (cell, e')))

        ends_by : (p : PointerBounds) (block byte : ℕ) → b ≡ Some p → IsHolding i (At block byte) t → (ends : Option EndsOf) → ends_at p t.locals block byte ≡ ends → WhereGiven IsElement (element_within true 0 site n (At block byte) ends u)
        ends_by p block byte noted holds None are = tt
        ends_by p block byte noted holds (Some e) are = checked (lies_in true e (pos byte +ℤ distance directions.Forward e.size n)) refl
          where
            checked : (test : Bool) → lies_in true e (pos byte +ℤ distance directions.Forward e.size n) ≡ test
                → WhereGiven IsElement (checked_if test C2 site (cell_behind (Some site) block (pos byte +ℤ distance directions.Forward e.size n) 0 u) u)
            checked true lies = cell_by p block byte e (pos byte +ℤ distance directions.Forward e.size n) noted holds are refl lies
            checked false lies = tt

        by : (c : Option PointerBounds) → b ≡ c → (v : Value) → IsHolding i v t → WhereGiven IsElement (element_within true 0 site n (with_ends c v t.locals).value (with_ends c v t.locals).ends u)
        by None noted (Number z) holds = tt
        by None noted Null holds = tt
        by None noted (At block byte) holds = tt
        by (Some p) noted (Number z) holds = tt
        by (Some p) noted Null holds = tt
        by (Some p) noted (At block byte) holds = ends_by p block byte noted holds (ends_at p t.locals block byte) refl

    -- the pointer so many elements behind it
    abbrev IsPointedTo : Value → State → Type 0
    IsPointedTo w x = IsAfter t x × ((at : ℕ × ℕ) × (w ≡ At at.0 at.1) × IsFoundAt i b o at x)

    sum_read : (site : Site) (v : Value) → IsHolding i v t → WhereGiven IsPointedTo (summed directions.Forward site n v (with_ends b v t.locals).ends u)
    sum_read site v holds = by b refl v holds
      where
        pointed_by : (p : PointerBounds) (block byte : ℕ) (e : EndsOf) (x : ℤ) → b ≡ Some p → IsHolding i (At block byte) t → ends_at p t.locals block byte ≡ Some e → pos byte +ℤ distance directions.Forward e.size n ≡ x → lies_up_to e (pos byte +ℤ distance directions.Forward e.size n) ≡ true
            → WhereGiven IsPointedTo (pointer_at (Some site) block x u)
        pointed_by p block byte e (negsuc m) noted holds are is lies = tt
        pointed_by p block byte e (pos m) noted holds are is lies = there (reaches (slice_get u.blocks block) m)
          where
            there : (test : Bool) → WhereGiven IsPointedTo (pointer_if test (Some site) block m u)
            there true = (after, ((block, m), refl, found_by p block byte e m noted holds are is lies))
            there false = tt

        ends_by : (p : PointerBounds) (block byte : ℕ) → b ≡ Some p → IsHolding i (At block byte) t → (ends : Option EndsOf) → ends_at p t.locals block byte ≡ ends → WhereGiven IsPointedTo (summed directions.Forward site n (At block byte) ends u)
        ends_by p block byte noted holds None are = tt
        ends_by p block byte noted holds (Some e) are = checked (lies_up_to e (pos byte +ℤ distance directions.Forward e.size n)) refl
          where
            checked : (test : Bool) → lies_up_to e (pos byte +ℤ distance directions.Forward e.size n) ≡ test
                → WhereGiven IsPointedTo (checked_if test C2 site (pointer_at (Some site) block (pos byte +ℤ distance directions.Forward e.size n) u) u)
            checked true lies = pointed_by p block byte e (pos byte +ℤ distance directions.Forward e.size n) noted holds are refl lies
            checked false lies = tt

        by : (c : Option PointerBounds) → b ≡ c → (v : Value) → IsHolding i v t → WhereGiven IsPointedTo (summed directions.Forward site n v (with_ends c v t.locals).ends u)
        by None noted (Number z) holds = tt
        by None noted Null holds = tt
        by None noted (At block byte) holds = tt
        by (Some p) noted (Number z) holds = tt
        by (Some p) noted Null holds = tt
        by (Some p) noted (At block byte) holds = ends_by p block byte noted holds (ends_at p t.locals block byte) refl

  -- the element at which a pointer stands
  first_read : (i : ℕ) (b : Option PointerBounds) (o : Option Term) (own : Option PointerBounds) (site : Site) (at : ℕ × ℕ) (t u : State) → IsAfter t u → IsFoundAt i b o at t
      → WhereGiven (λ (at : ℕ × ℕ) (w : State). IsAfter t w × (IsFoundAt i b o at w × ((cell : Cell) × (cell_at w.blocks at.0 at.1 ≡ Some cell)))) (element_within true 0 site (pos 0) (with_ends own (At at.0 at.1) t.locals).value (with_ends own (At at.0 at.1) t.locals).ends u)
  first_read i b o own site at t u after found = by own
    where
      IsElement : ℕ × ℕ → State → Type 0
      IsElement at w = IsAfter t w × (IsFoundAt i b o at w × ((cell : Cell) × (cell_at w.blocks at.0 at.1 ≡ Some cell)))

      cell_by : (x : ℤ) → pos at.1 ≡ x → WhereGiven IsElement (cell_behind (Some site) at.0 x 0 u)
      cell_by (negsuc m) is = absurd (cc)
      cell_by (pos m) is = placed (cell_at u.blocks at.0 (m + 0)) refl
        where
          same : m + 0 ≡ at.1
          same = omega (arith, ints, is)

          placed : (c : Option Cell) → cell_at u.blocks at.0 (m + 0) ≡ c → WhereGiven IsElement (place_if c (Some site) at.0 (m + 0) u)
          placed None e' = tt
          placed (Some cell) e' = (after, (moved_place i b o at.0 at.1 (m + 0) u same (found_later i b o at t u after.1 found), (cell, e')))

      still : (size : ℕ) → pos at.1 ≡ pos at.1 +ℤ distance directions.Forward size (pos 0)
      still size = let none : 0 * size ≡ 0 = omega arith in omega (arith, ints, none)

      ends_by : (ends : Option EndsOf) → WhereGiven IsElement (element_within true 0 site (pos 0) (At at.0 at.1) ends u)
      ends_by None = tt
      ends_by (Some e) = checked (lies_in true e (pos at.1 +ℤ distance directions.Forward e.size (pos 0)))
        where
          checked : (test : Bool) → WhereGiven IsElement (checked_if test C2 site (cell_behind (Some site) at.0 (pos at.1 +ℤ distance directions.Forward e.size (pos 0)) 0 u) u)
          checked true = cell_by (pos at.1 +ℤ distance directions.Forward e.size (pos 0)) (still e.size)
          checked false = tt

      by : (c : Option PointerBounds) → WhereGiven IsElement (element_within true 0 site (pos 0) (with_ends c (At at.0 at.1) t.locals).value (with_ends c (At at.0 at.1) t.locals).ends u)
      by None = tt
      by (Some p) = ends_by (ends_at p t.locals at.0 at.1)

  -- ---- loads

  module _ (s : State) (typed : HaveTypes s.locals) (has : HasLocals types s) (i : ℕ) (b : Option PointerBounds) (e : core.Expression) where
    abbrev Found : ℕ × ℕ → State → Type 0
    Found at w = IsAfter s w × (IsFoundAt i b (term types e) at w × ((cell : Cell) × (cell_at w.blocks at.0 at.1 ≡ Some cell)))

    abbrev pub Loaded : Value → State → Type 0
    Loaded v w = IsAfter s w × IsLoaded i b (term types e) v w

    loaded : (type : CType) (site : Option Site) (at : ℕ × ℕ) (w : State) → Found at w → WhereGiven Loaded (load_at type site at w)
    loaded type site at w h =
        subst (λ c. WhereGiven Loaded (value_in type site c w)) (sym h.1.1.1) (by (same_type type h.1.1.0.type))
      where
        by : (test : Bool) → WhereGiven Loaded (value_if test site h.1.1.0.value w)
        by true = (h.0, record { at = at; from = h.1.0; cell = h.1.1.0; found = h.1.1.1; is = refl })
        by false = tt

    place_loaded : (type : CType) (p : core.Place) (site : Option Site) (bounds : Option PointerBounds) → WhereGiven Found (place audited g k p s) → WhereGiven Loaded (and_then (and_then (place audited g k p s) (load_at type site)) (audit audited bounds))
    place_loaded type p site bounds h =
        so_on Loaded Loaded (and_then (place audited g k p s) (load_at type site)) (audit audited bounds)
        (so_on Found Loaded (place audited g k p s) (load_at type site) h (loaded type site)) (λ v w l. audited_so Loaded audited bounds v w l)

    -- `p[e]`
    pub element_loaded : (type : CType) (site : Site) (bounds : Option PointerBounds) → WhereGiven Loaded (value audited g k (core.Load type (core.Through (core.Local i b) (core.Element e true) 0 site) bounds) s)
    element_loaded type site bounds =
        place_loaded type (core.Through (core.Local i b) (core.Element e true) 0 site) (Some site) bounds
        (so_on (λ v t. IsAfter s t × IsHolding i v t) Found (value audited g k (core.Local i b) s) _
        (so_both (λ v t. IsAfter s t) (IsHolding i) (value audited g k (core.Local i b) s) (value_after audited g k calls (core.Local i b) s) (local_read i b s))
        (λ v t x. so_on (λ (n : ℤ) (u : State). IsAfter t u × IsNumberOf t.locals (term types e) n) Found (number_of audited g k (core.Element e true) t) _
        (number_read e None t (subst HaveTypes (sym x.0.1) typed) (has_there t x.0))
        (λ n u y. so_further (λ (at : ℕ × ℕ) (w : State). IsAfter t w × (IsFoundAt i b (term types e) at w × ((cell : Cell) × (cell_at w.blocks at.0 at.1 ≡ Some cell)))) Found (element_within true 0 site n (with_ends b v t.locals).value (with_ends b v t.locals).ends u)
        (element_read i b (term types e) t u y.0 n y.1 site v x.1) (λ at w z. (after_on s t w x.0 z.0, z.1)))))
      where
        has_there : (t : State) → IsAfter s t → HasLocals types t
        has_there t after c m q = subst (λ ls. slice_get (types_of ls) c ≡ Some m) (sym after.1) (has c m q)

    summed_read : (site : Site) (own : Option PointerBounds) → WhereGiven (λ w x. IsAfter s x × ((at : ℕ × ℕ) × (w ≡ At at.0 at.1) × IsFoundAt i b (term types e) at x)) (value audited g k (core.Sum (core.Local i b) directions.Forward e site own) s)
    summed_read site own =
        so_on Pointed Pointed (and_then (value audited g k (core.Local i b) s) (λ v t. and_then (and_then (value audited g k e t) (number_given (Some site))) (λ n u. summed directions.Forward site n v (with_ends b v t.locals).ends u))) (audit audited own)
        (so_on (λ v t. IsAfter s t × IsHolding i v t) Pointed (value audited g k (core.Local i b) s) _
        (so_both (λ v t. IsAfter s t) (IsHolding i) (value audited g k (core.Local i b) s) (value_after audited g k calls (core.Local i b) s) (local_read i b s))
        (λ v t x. so_on (λ (n : ℤ) (u : State). IsAfter t u × IsNumberOf t.locals (term types e) n) Pointed (and_then (value audited g k e t) (number_given (Some site))) _
        (number_read e (Some site) t (subst HaveTypes (sym x.0.1) typed) (λ c m q. subst (λ ls. slice_get (types_of ls) c ≡ Some m) (sym x.0.1) (has c m q)))
        (λ n u y. so_further (λ w z. IsAfter t z × ((at : ℕ × ℕ) × (w ≡ At at.0 at.1) × IsFoundAt i b (term types e) at z)) Pointed (summed directions.Forward site n v (with_ends b v t.locals).ends u)
        (sum_read i b (term types e) t u y.0 n y.1 site v x.1) (λ w z q. (after_on s t z x.0 q.0, q.1))))) (λ v w p. audited_so Pointed audited own v w p)
      where
        Pointed : Value → State → Type 0
        Pointed w x = IsAfter s x × ((at : ℕ × ℕ) × (w ≡ At at.0 at.1) × IsFoundAt i b (term types e) at x)

    -- `*(p + e)`
    pub sum_loaded : (type : CType) (site site' : Site) (own bounds : Option PointerBounds)
        → WhereGiven Loaded (value audited g k (core.Load type (core.Through (core.Sum (core.Local i b) directions.Forward e site own) (core.Element (core.Number (pos 0)) true) 0 site') bounds) s)
    sum_loaded type site site' own bounds =
        place_loaded type (core.Through (core.Sum (core.Local i b) directions.Forward e site own) (core.Element (core.Number (pos 0)) true) 0 site') (Some site') bounds
        (so_on (λ w x. IsAfter s x × ((at : ℕ × ℕ) × (w ≡ At at.0 at.1) × IsFoundAt i b (term types e) at x)) Found (value audited g k (core.Sum (core.Local i b) directions.Forward e site own) s) _
        (summed_read site own)
        (λ w t x. subst (λ w. WhereGiven Found (element_within true 0 site' (pos 0) (with_ends own w t.locals).value (with_ends own w t.locals).ends t)) (sym x.1.1)
        (so_further (λ (at : ℕ × ℕ) (w : State). IsAfter t w × (IsFoundAt i b (term types e) at w × ((cell : Cell) × (cell_at w.blocks at.0 at.1 ≡ Some cell)))) Found (element_within true 0 site' (pos 0) (with_ends own (At x.1.0.0 x.1.0.1) t.locals).value (with_ends own (At x.1.0.0 x.1.0.1) t.locals).ends t)
        (first_read i b (term types e) own site' x.1.0 t t (after_here t) x.1.2) (λ at w z. (after_on s t w x.0 z.0, z.1)))))

-- ---- what that tells

truth_set : (v : Value) → truth v ≡ true → is_zero v ≡ false
truth_set (Number z) h = by (arithmetic.is_zero z) h
  where
    by : (test : Bool) → not test ≡ true → test ≡ false
    by true e = absurd (cc)
    by false e = refl
truth_set Null h = absurd (cc)
truth_set (At block byte) h = refl

ended_is : (o : Option CType) → is_ended_local o ≡ true → (target : CType) × (o ≡ Some (Pointer modes.Checked kinds.Nt target))
ended_is None h = absurd (cc)
ended_is (Some Int) h = absurd (cc)
ended_is (Some Char) h = absurd (cc)
ended_is (Some (Struct number)) h = absurd (cc)
ended_is (Some (Pointer modes.Checked kinds.One target)) h = absurd (cc)
ended_is (Some (Pointer modes.Checked kinds.Array target)) h = absurd (cc)
ended_is (Some (Pointer modes.Checked kinds.Nt target)) h = (target, refl)
ended_is (Some (Pointer modes.Tainted kind target)) h = absurd (cc)
ended_is (Some (Pointer modes.Raw kind target)) h = absurd (cc)

module _ (structs : List Structure) (types : List CType) (f : Knowledge) (flow : IsFlow f) (few : length types ≤ f.vars) (i : ℕ) (b : Option PointerBounds) (e : core.Expression) (index : Term) (is : term types e ≡ Some index)
    (ended : is_ended_local (slice_get types i) ≡ true) (right : (p : PointerBounds) → b ≡ Some p → IsRightNode structs types f i p) where
  abbrev pointer : CType
  pointer = Pointer modes.Checked kinds.Nt (ended_is (slice_get types i) ended).0

  declared : slice_get types i ≡ Some pointer
  declared = (ended_is (slice_get types i) ended).1

  untold : (o : Option CType) → o ≡ Some pointer → o ≡ Some Char → ⊥
  untold o p q = cc

  module _ (v : Value) (w : State) (has : HasLocals types w) (zeros : EndInZeros w.blocks) (h : IsLoaded i b (term types e) v w) (came : truth v ≡ true) (fits : FitsAlike structs (length types) f w) where
    abbrev from : IsFoundAt i b (term types e) h.at w
    from = h.from

    typed_so : from.local.type ≡ pointer
    typed_so = same_Some from.local.type pointer (sym (type_there w.locals i from.local from.there) ∙ has i pointer declared)

    node_is : IsNodeOf structs pointer from.node
    node_is = (right from.node from.noted).node pointer declared

    sized : from.ends.size ≡ target_size structs pointer
    sized = let p = ends_parts from.node.size _ _ _ from.ends from.are in sym (ap (λ (e : EndsOf). e.size) p.are) ∙ node_is.size

    -- it stands in a row that a zero ends
    stands : IsEndedPlace structs (shapes w.blocks) (ended_is (slice_get types i) ended).0 h.at.0 h.at.1 (lies_below from.ends (pos h.at.1))
    stands =
        let site : Site = record { place = record { line = 1; col = 1 } } in
        let valid = subst (λ type. IsValid structs (Some from.node.bounds) (record { type = type; value = from.local.value }) w) typed_so ((right from.node from.noted).valid w fits from.local from.there) in
        let are = subst (λ n. ends_at (at_node from.node.bounds n true site) w.locals h.at.0 from.byte ≡ Some from.ends) node_is.size from.are in
        valid.leads site h.at.0 from.byte from.ends from.points are from.number h.at.1 from.place from.lies

    module _ (x : State) (alike : IsAlike (length types) w x) where
      same_local : (l : Local) → slice_get x.locals i ≡ Some l → from.local ≡ l
      same_local l there = same_Some from.local l (sym from.there ∙ (sym (alike.tracked i (slice_get_within types i pointer declared) (untold (slice_get (types_of w.locals) i) (has i pointer declared))) ∙ there))

      number_there : term_value index x.locals ≡ Some from.number
      number_there =
          let number = number_alike types w x has alike (term types e) from.number (term_formed types e) from.counts index is in
          int_term x.locals index (fits x alike).holds.met.types (formed_later types x index.var (has_alike types w x alike has) (term_formed types e index is).int) ∙ ap Some (sym number)

      read_there : (l : Local) → slice_get x.locals i ≡ Some l → IsReadThere structs index l x
      read_there l there = record {
        mode = modes.Checked;
        target = (ended_is (slice_get types i) ended).0;
        pointer = ap (λ (l : Local). l.type) (sym (same_local l there)) ∙ typed_so;
        read = λ block byte points. at_place block byte (sym from.points ∙ (ap (λ (l : Local). l.value) (same_local l there) ∙ points));
      }
        where
          at_place : (block byte : ℕ) → At h.at.0 from.byte ≡ At block byte → IsSetThere structs (ended_is (slice_get types i) ended).0 index block byte x
          at_place block byte same =
              let block_is : h.at.0 ≡ block = cc in
              let byte_is : from.byte ≡ byte = cc in
              subst (λ block. IsSetThere structs (ended_is (slice_get types i) ended).0 index block byte x) block_is
              (subst (λ byte. IsSetThere structs (ended_is (slice_get types i) ended).0 index h.at.0 byte x) byte_is
              (record {
                number = from.number;
                is = number_there;
                place = h.at.1;
                at' = from.place ∙ ap (λ n. pos from.byte +ℤ (from.number *ℤ pos n)) sized;
                inside = lies_below from.ends (pos h.at.1);
                stands = subst (λ blocks. IsEndedPlace structs (shapes blocks) (ended_is (slice_get types i) ended).0 h.at.0 h.at.1 (lies_below from.ends (pos h.at.1))) (sym alike.blocks) stands;
                cell = h.cell;
                found = subst (λ blocks. cell_at blocks h.at.0 h.at.1 ≡ Some h.cell) (sym alike.blocks) h.found;
                set = subst (λ v. is_zero v ≡ false) h.is (truth_set v came);
              }))

    pub widened_so : FitsAlike structs (length types) (widened i index f) w
    widened_so x alike =
        read_fits structs f flow x i index (formed_below types f.vars index.var few (term_formed types e index is).int) (subst EndInZeros (sym alike.blocks) zeros) (read_there x alike) (fits x alike)
