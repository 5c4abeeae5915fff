-- Pointers that are valid with the bounds that an assignment takes from their expressions, whatever those locals hold that a flow can't tell.
use Rattle.std.proofs.Common.{◌≡◌, Bool, ℕ, List, length, Option, Some, None, refl, sym, ap, ◌∙◌, subst}
use Rattle.std.specs.Prelude.{is_some, slice_get, option_map}
use Rattle.std.proofs.lemmas.Option.{slice_get_within}
use Rattle.bounds_exprs.specs.declared.term.Bounds.{Bounds}
use Rattle.pointer_modes.specs.declared.ctype.Mode.{Mode}
use Rattle.pointer_modes.specs.declared.ctype.Mode.TheVariants as modes
use Rattle.pointer_modes.specs.declared.ctype.Kind.{Kind}
use Rattle.pointer_modes.specs.declared.ctype.Kind.TheVariants as kinds
use Rattle.pointer_modes.specs.Types.{CType, Int, Char, Pointer, Structure}
use Rattle.pointer_modes.specs.Layout.{size_of}
use Rattle.ckc_core.specs.declared.program.PointerBounds.{PointerBounds}
use Rattle.ckc_core.specs.declared.program.Site.{Site}
use Rattle.ckc_core.specs.Core as core
use Rattle.ckc_core.specs.States.{Value, Local, State, Grows, shapes}
use Rattle.ckc_core.specs.Meaning.{bounds_of}
use Rattle.bounds_exprs.specs.declared.term.Term.{Term}
use Rattle.bounds_flow.specs.declared.held.Held.{Held}
use Rattle.bounds_flow.specs.Flows.{held_at}
use Rattle.ckc_core.specs.Bounds.{Ends, base_byte, ends_at, term_value}
use Rattle.bounds_flow_meaning.specs.Holding.{at_node, AreDeclared, AreInts, HasSize, HaveTypes, IsInt, IsValid, target_size, types_of}
use Rattle.bounds_flow_meaning.proofs.Sums.{variables_are_bases}
use Rattle.bounds_flow_meaning.proofs.Validity.{alike_here as local_alike, carried, grown_valid, grows_here, stay_ends}
use Rattle.region_typing_rules.specs.Verdicts.{picked}
use Rattle.region_typing_rules.specs.Readings.{based_bounds, from_base, own_bounds}
use Rattle.region_typing_rules.specs.Operands.{bounds_at, one_element}
use Rattle.region_typing_rules.specs.KnownIsSo.{HasLocals, IsAlike, IsDeclared}
use Rattle.region_typing_rules.specs.Typed.{AreNamed, HasBounds, HasValue, IsBoundedBy}
use Rattle.region_typing_rules.proofs.Keeping.{IsAfter}
use Rattle.region_typing_rules.proofs.Elements.{one_valid, pointing}

-- a pointer of the type is valid with the bounds, if there are any
abbrev pub IsGivenIf : List Structure → CType → Option Bounds → Value → State → Type 0
IsGivenIf structs c None v s = Unit {0}
IsGivenIf structs c (Some b) v s = IsBoundedBy structs b (record { type = c; value = v }) s

-- both with the bounds at the node of its expression and with those from a base
abbrev pub AreGivenAt : List Structure → CType → core.Expression → Value → State → Type 0
AreGivenAt structs c e v s = IsGivenIf structs c (own_bounds e) v s × IsGivenIf structs c (based_bounds e) v s

abbrev pub AreGiven : List Structure → ℕ → CType → core.Expression → Value → State → Type 0
AreGiven structs n c e v s = (w : State) → IsAlike n s w → AreGivenAt structs c e v w

-- ---- later states

-- a state that is alike behind a step, with the blocks before it
abbrev before : State → State → State
before u w = record w { blocks = u.blocks }

before_alike : (n : ℕ) (u v w : State) → IsAfter u v → IsAlike n v w → IsAlike n u (before u w)
before_alike n u v w after alike = record {
  blocks = refl;
  same = alike.same ∙ ap types_of after.1;
  types = λ h. alike.types (subst HaveTypes (sym after.1) h);
  tracked = λ x low other. alike.tracked x low (λ c. other (subst (λ ls. slice_get (types_of ls) x ≡ Some Char) after.1 c)) ∙ ap (λ ls. slice_get ls x) after.1;
}

if_later : (structs : List Structure) (n : ℕ) (c : CType) (o : Option Bounds) (v : Value) (u t w : State) → IsAfter u t → IsAlike n t w → IsGivenIf structs c o v (before u w) → IsGivenIf structs c o v w
if_later structs n c None v u t w after alike h = tt
if_later structs n c (Some b) v u t w after alike h =
    (grown_valid structs (Some b) (record { type = c; value = v }) (before u w) w (subst (λ x. Grows (shapes u.blocks) (shapes x)) (sym alike.blocks) after.0) refl h.0, h.1)

pub given_later : (structs : List Structure) (n : ℕ) (c : CType) (e : core.Expression) (v : Value) (u t : State) → IsAfter u t → AreGiven structs n c e v u → AreGiven structs n c e v t
given_later structs n c e v u t after h w alike =
    let there = h (before u w) (before_alike n u t w after alike) in
    (if_later structs n c (own_bounds e) v u t w after alike there.0, if_later structs n c (based_bounds e) v u t w after alike there.1)

-- ---- no bounds

pub none_given : (structs : List Structure) (n : ℕ) (c : CType) (e : core.Expression) (v : Value) (s : State) → own_bounds e ≡ None → based_bounds e ≡ None → AreGiven structs n c e v s
none_given structs n c e v s own based w alike = (subst (λ o. IsGivenIf structs c o v w) (sym own) tt, subst (λ o. IsGivenIf structs c o v w) (sym based) tt)

-- ---- one element

no_base : (structs : List Structure) (types : List CType) (size : ℕ) → HasSize structs types size (Some one_element)
no_base structs types size q t e there = absurd (cc)

-- the bounds that its type gives a pointer
noted_given : (structs : List Structure) (m : Mode) (d : Kind) (t : CType) (site : Site) (v : Value) (s : State) → HasValue structs (shapes s.blocks) (Pointer m d t) v
    → IsGivenIf structs (Pointer m d t) (option_map (λ (p : PointerBounds). p.bounds) (bounds_at structs (Pointer m d t) site)) v s
noted_given structs modes.Checked kinds.One t site v s h =
    let one = one_valid structs modes.Checked t s v h in
    (record { passes = one.passes; leads = one.leads }, no_base structs (types_of s.locals) (size_of structs t))
noted_given structs modes.Checked kinds.Array t site v s h = tt
noted_given structs modes.Checked kinds.Nt t site v s h = tt
noted_given structs modes.Tainted d t site v s h = tt
noted_given structs modes.Raw d t site v s h = tt

value_alike : (structs : List Structure) (n : ℕ) (c : CType) (v : Value) (s w : State) → IsAlike n s w → HasValue structs (shapes s.blocks) c v → HasValue structs (shapes w.blocks) c v
value_alike structs n c v s w alike h = subst (λ b. HasValue structs (shapes b) c v) (sym alike.blocks) h

pub own_given : (structs : List Structure) (m : Mode) (d : Kind) (t : CType) (e : core.Expression) (v : Value) (s : State) → HasBounds structs (Pointer m d t) (bounds_of e) → HasValue structs (shapes s.blocks) (Pointer m d t) v
    → IsGivenIf structs (Pointer m d t) (own_bounds e) v s
own_given structs m d t e v s told h =
    subst (λ o. IsGivenIf structs (Pointer m d t) (option_map (λ (p : PointerBounds). p.bounds) o) v s) (sym told.1) (noted_given structs m d t told.0 v s h)

-- where nothing counts from a base
pub plain_given : (structs : List Structure) (n : ℕ) (m : Mode) (d : Kind) (t : CType) (e : core.Expression) (v : Value) (s : State) → HasBounds structs (Pointer m d t) (bounds_of e) → based_bounds e ≡ None
    → HasValue structs (shapes s.blocks) (Pointer m d t) v → AreGiven structs n (Pointer m d t) e v s
plain_given structs n m d t e v s told based h w alike =
    (own_given structs m d t e v w told (value_alike structs n (Pointer m d t) v s w alike h), subst (λ o. IsGivenIf structs (Pointer m d t) o v w) (sym based) tt)

-- ---- locals

-- a local pointer is its own base
module _ (structs : List Structure) (m : Mode) (d : Kind) (t : CType) (k : ℕ) (v : Value) (w : State) (l : Local) (there : slice_get w.locals k ≡ Some l) (type : l.type ≡ Pointer m d t) (value : l.value ≡ v) where
  abbrev row : Local
  row = pointing (Pointer m d t) v

  made : l ≡ record { type = Pointer m d t; value = v }
  made = ap (λ c. record { type = c; value = l.value }) type ∙ ap (λ v. record { type = Pointer m d t; value = v }) value

  type_here : (q : ℕ) (c : CType) → Some k ≡ Some q → slice_get (types_of w.locals) q ≡ Some c → slice_get (types_of w.locals) k ≡ Some (Pointer m d t) → c ≡ Pointer m d t
  type_here q c e is here = let same : k ≡ q = cc in let both = subst (λ x. slice_get (types_of w.locals) x ≡ Some (Pointer m d t)) same here in cc

  based_given : (b : Bounds) → slice_get (types_of w.locals) k ≡ Some (Pointer m d t) → IsBoundedBy structs b row w → IsBoundedBy structs (from_base k b) row w
  based_given b here h = by b.base refl
    where
      by : (o : Option ℕ) → b.base ≡ o → IsBoundedBy structs (picked (is_some o) b (record b { base = Some k })) row w
      by None none = (
        subst (λ l. IsValid structs (Some (record b { base = Some k })) l w) made (variables_are_bases structs w k l b there none (subst (λ l. IsValid structs (Some b) l w) (sym made) h.0)),
        λ q c e is. ap (target structs) (type_here q c e is here),
      )
        where
          target : List Structure → CType → ℕ
          target structs c = target_size structs c
      by (Some q) base = h

  pub local_given : (o : Option PointerBounds) → slice_get (types_of w.locals) k ≡ Some (Pointer m d t) → IsGivenIf structs (Pointer m d t) (own_bounds (core.Local k o)) v w → AreGivenAt structs (Pointer m d t) (core.Local k o) v w
  local_given None here h = (tt, tt)
  local_given (Some p) here h = (h, based_given p.bounds here h)

-- ---- conversions

-- a pointer of one kind as one of another, which is valid with all bounds with which the first one is
module _ (structs : List Structure) (m : Mode) (d d' : Kind) (t : CType) where
  weaker_if : (v : Value) (w : State) → ((b : Bounds) → IsValid structs (Some b) (pointing (Pointer m d t) v) w → IsValid structs (Some b) (pointing (Pointer m d' t) v) w)
      → (o : Option Bounds) → IsGivenIf structs (Pointer m d t) o v w → IsGivenIf structs (Pointer m d' t) o v w
  weaker_if v w weaker None h = tt
  weaker_if v w weaker (Some b) h = (weaker b h.0, h.1)

  pub given_weaker : (n : ℕ) (e : core.Expression) (v : Value) (s : State)
      → ((w : State) → IsAlike n s w → (b : Bounds) → IsValid structs (Some b) (pointing (Pointer m d t) v) w → IsValid structs (Some b) (pointing (Pointer m d' t) v) w)
      → AreGiven structs n (Pointer m d t) e v s → AreGiven structs n (Pointer m d' t) e v s
  given_weaker n e v s weaker h w alike =
      let there = h w alike in
      (weaker_if v w (weaker w alike) (own_bounds e) there.0, weaker_if v w (weaker w alike) (based_bounds e) there.1)

-- ---- declared bounds

-- where the variables that bounds name are alike, a pointer stays valid with them
module _ (structs declared : List Structure) (types : List CType) (u v : State) (has : HasLocals types u) (alike : IsAlike (length types) u v) where
  not_char : (o : Option CType) (c : CType) → o ≡ Some c → (c ≡ Char → ⊥) → o ≡ Some Char → ⊥
  not_char o c e other q = other (same_type c Char (sym e ∙ q))
    where
      same_type : (a b : CType) → Some a ≡ Some b → a ≡ b
      same_type a b q = cc

  same_local : (x : ℕ) (c : CType) → slice_get types x ≡ Some c → (c ≡ Char → ⊥) → slice_get v.locals x ≡ slice_get u.locals x
  same_local x c e other = alike.tracked x (slice_get_within types x c e) (not_char (slice_get (types_of u.locals) x) c (has x c e) other)

  same_term : (t : Term) → IsInt types t.var → term_value t v.locals ≡ term_value t u.locals
  same_term t int = by t.var int refl
    where
      by : (o : Option ℕ) → IsInt types o → t.var ≡ o → term_value t v.locals ≡ term_value t u.locals
      by None h e = rw e refl
      by (Some x) h e = rw (e, same_local x Int h (λ q. absurd (cc))) refl

  same_base : (o : Option ℕ) → ((q : ℕ) → o ≡ Some q → (m : Mode) × (k : Kind) × (t : CType) × (slice_get types q ≡ Some (Pointer m k t))) → (block byte : ℕ) → base_byte o v.locals block byte ≡ base_byte o u.locals block byte
  same_base None h block byte = refl
  same_base (Some q) h block byte = let it = h q refl in rw (same_local q (Pointer it.0 it.1 it.2) it.3 (λ q. absurd (cc))) refl

  -- such bounds have their ends where they had them
  pub ends_alike : (size : ℕ) (ended : Bool) (b : Bounds) → AreNamed types b → (site : Site) (block byte : ℕ) (e : Ends) → ends_at (at_node b size ended site) u.locals block byte ≡ Some e → ends_at (at_node b size ended site) v.locals block byte ≡ Some e
  ends_alike size ended b named = stay_ends size b b u.locals v.locals (same_base b.base named.base) (same_term b.lo named.ints.lo) (same_term b.hi named.ints.hi)

  pub valid_alike : (p : ℕ) (b : Bounds) (l : Local) → IsDeclared declared types p b → IsValid structs (Some b) l u → IsValid structs (Some b) l v
  valid_alike p b l d h =
      carried structs b b l l u v (subst (λ x. Grows (shapes u.blocks) (shapes x)) (sym alike.blocks) (grows_here (shapes u.blocks))) (local_alike l)
      (stay_ends (target_size structs l.type) b b u.locals v.locals (same_base b.base (λ q e. let it = d.base q e in (d.mode, it.0, d.element, it.1))) (same_term b.lo d.ints.lo) (same_term b.hi d.ints.hi)) h

  -- bounds whose base is a pointer
  pub bounds_alike : (b : Bounds) (l : Local) → ((q : ℕ) → b.base ≡ Some q → (m : Mode) × (k : Kind) × (t : CType) × (slice_get types q ≡ Some (Pointer m k t))) → AreInts types b → IsValid structs (Some b) l u → IsValid structs (Some b) l v
  bounds_alike b l bases ints h =
      carried structs b b l l u v (subst (λ x. Grows (shapes u.blocks) (shapes x)) (sym alike.blocks) (grows_here (shapes u.blocks))) (local_alike l)
      (stay_ends (target_size structs l.type) b b u.locals v.locals (same_base b.base bases) (same_term b.lo ints.lo) (same_term b.hi ints.hi)) h

  -- bounds that count from no pointer
  pub free_alike : (b : Bounds) (l : Local) → b.base ≡ None → AreInts types b → IsValid structs (Some b) l u → IsValid structs (Some b) l v
  free_alike b l none ints h =
      carried structs b b l l u v (subst (λ x. Grows (shapes u.blocks) (shapes x)) (sym alike.blocks) (grows_here (shapes u.blocks))) (local_alike l)
      (stay_ends (target_size structs l.type) b b u.locals v.locals (same_base b.base (λ q e. absurd (let found : None ≡ Some q = sym none ∙ e in cc))) (same_term b.lo ints.lo) (same_term b.hi ints.hi)) h

  -- of the pointers of a flow in which such bounds are declared
  pub declared_alike : (held : List Held) → ((p : ℕ) (b : Bounds) → (held_at held p).declared ≡ Some b → IsDeclared declared types p b) → AreDeclared structs held u → AreDeclared structs held v
  declared_alike held formed d p l there = by (held_at held p).declared refl
    where
      by : (o : Option Bounds) → (held_at held p).declared ≡ o → IsValid structs (held_at held p).declared l v
      by None e = subst (λ o. IsValid structs o l v) (sym e) tt
      by (Some b) e =
          let it = formed p b e in
          let there_u : slice_get u.locals p ≡ Some l = sym (same_local p (Pointer it.mode it.kind it.element) it.own (λ q. absurd (cc))) ∙ there in
          subst (λ o. IsValid structs o l v) (sym e) (valid_alike p b l it (subst (λ o. IsValid structs o l u) e (d p l there_u)))
