-- A function is entered with parameters that are valid with their bounds.
use Rattle.std.proofs.Common.{◌≡◌, ℕ, zero, suc, true, ℤ, List, [], ◌∷◌, take, length, Option, Some, None, refl, sym, ap, ◌∙◌, subst, inl, inr}
use Rattle.std.specs.Prelude.{slice_get, slice_index_or}
use Rattle.bounds_exprs.specs.declared.term.Bounds.{Bounds}
use Rattle.bounds_exprs.specs.declared.term.Term.{Term}
use Rattle.bounds_exprs.specs.Changes.{ends_filled_in, filled_in}
use Rattle.bounds_exprs.specs.Values.{value as term_number}
use Rattle.pointer_modes.specs.declared.ctype.Mode.{Mode}
use Rattle.pointer_modes.specs.declared.ctype.Kind.{Kind}
use Rattle.pointer_modes.specs.declared.ctype.Kind.TheVariants as kinds
use Rattle.pointer_modes.specs.Types.{CType, Int, Char, Struct, Pointer, Structure}
use Rattle.ckc_core.specs.Core as core
use Rattle.ckc_core.specs.Core.{Arguments}
use Rattle.ckc_core.specs.States.{Value, Number, Null, Local, State, Grows, shapes}
use Rattle.ckc_core.specs.Steps.{locals_for}
use Rattle.ckc_core.specs.Bounds.{base_byte, term_value}
use Rattle.bounds_flow_meaning.specs.Holding.{HaveTypes, IsValid, numbers_in, target_size}
use Rattle.bounds_flow_meaning.specs.Calls.{HoldTerms}
use Rattle.bounds_flow_meaning.proofs.Calls.{filled_value}
use Rattle.bounds_flow_meaning.proofs.Numbers.{int_term, local_there as local_found}
use Rattle.bounds_flow_meaning.proofs.Validity.{alike_here as local_alike, between_parts, carried, grown_valid, grows_here as local_grows, null_valid, stay_ends}
use Rattle.region_typing_rules.specs.Scopes.{Scope}
use Rattle.region_typing_rules.specs.Readings.{is_null, pointer_local, term}
use Rattle.region_typing_rules.specs.Calls.{at_call, with_caller_base}
use Rattle.region_typing_rules.specs.KnownIsSo.{HasLocals, IsKnown}
use Rattle.region_typing_rules.specs.Typed as typed
use Rattle.region_typing_rules.specs.Types.{Counts}
use Rattle.region_typing_rules.specs.Typed.{AreAsked, HaveRows, IsAsked, LeadsTo, pointers_of, terms_of}
use Rattle.region_typing_rules.proofs.Alike.{alike_here}
use Rattle.region_typing_rules.proofs.Assigns.{IsGivenTo}
use Rattle.region_typing_rules.proofs.Keeping.{IsAfter}
use Rattle.region_typing_rules.proofs.Given.{AreGiven, AreGivenAt, IsGivenIf, given_later}
use Rattle.region_typing_rules.proofs.Terms.{IsOfTerm, formed_later, term_formed}
use Rattle.region_typing_rules.proofs.Told.{pointer_is}

-- ---- locals of a function that is called

pub entered_local : (types : List CType) (vs : List Value) (x : ℕ) (c : CType) (v : Value) → slice_get types x ≡ Some c → slice_get vs x ≡ Some v → slice_get (locals_for types vs) x ≡ Some (record { type = c; value = v })
entered_local [] vs x c v t e = absurd (cc)
entered_local (type ∷ types) [] x c v t e = absurd (cc)
entered_local (type ∷ types) (w ∷ vs) zero c v t e = let a : type ≡ c = cc in let b : w ≡ v = cc in ap (λ c. Some (record { type = c; value = w })) a ∙ ap (λ v. Some (record { type = c; value = v })) b
entered_local (type ∷ types) (w ∷ vs) (suc x) c v t e = entered_local types vs x c v t e

-- ---- bounds over what stands for parameters

-- a parameter holds what a local pointer of the caller does
pub record HoldsPointer (p k : ℕ) (caller callee : List Local) : Type 0 where
  pub there : Local
  pub here : Local
  pub found : slice_get caller k ≡ Some there
  pub holds : slice_get callee p ≡ Some here
  pub same : here.value ≡ there.value

abbrev pub HoldPointers : List (Option ℕ) → List Local → List Local → Type 0
HoldPointers pointers caller callee = (p k : ℕ) → slice_index_or pointers p None ≡ Some k → HoldsPointer p k caller callee

-- bounds at a call, by the parts of the parameter's bounds
pub record IsAtCall (terms : List (Option Term)) (pointers : List (Option ℕ)) (b d : Bounds) : Type 0 where
  pub lo : filled_in terms b.lo ≡ Some d.lo
  pub hi : filled_in terms b.hi ≡ Some d.hi
  base : (p : ℕ) → b.base ≡ Some p → (k : ℕ) × (slice_index_or pointers p None ≡ Some k) × (d.base ≡ Some k)
  none : b.base ≡ None → d.base ≡ None

same_bounds : (a b : Bounds) → Some a ≡ Some b → a ≡ b
same_bounds a b q = cc

pub at_call_parts : (terms : List (Option Term)) (pointers : List (Option ℕ)) (b d : Bounds) → at_call terms pointers b ≡ Some d → IsAtCall terms pointers b d
at_call_parts terms pointers b d h = by b.base refl h
  where
    filled : (o : Option ℕ) (c : Bounds) → ends_filled_in terms b ≡ Some c → (filled_in terms b.lo ≡ Some c.lo) × ((filled_in terms b.hi ≡ Some c.hi) × (c.base ≡ b.base))
    filled o c e = let p = between_parts b.base (filled_in terms b.lo) (filled_in terms b.hi) c e in (p.lo, (p.hi, p.base))

    counted : (p k : ℕ) → b.base ≡ Some p → slice_index_or pointers p None ≡ Some k → (o : Option Bounds) → ends_filled_in terms b ≡ o → with_caller_base pointers (Some p) o ≡ Some d → IsAtCall terms pointers b d
    counted p k is found None e h = absurd (let none : None ≡ Some d = rw found at h in cc)
    counted p k is found (Some c) e h =
        let made : Some (record c { base = Some k }) ≡ Some d = rw found at h in
        let same = same_bounds (record c { base = Some k }) d made in
        let f = filled (Some p) c e in
        record {
          lo = f.0 ∙ ap (λ (b : Bounds). Some b.lo) same;
          hi = f.1.0 ∙ ap (λ (b : Bounds). Some b.hi) same;
          base = λ q from. (let at : p ≡ q = same_number p q (sym is ∙ from) in (k, subst (λ q. slice_index_or pointers q None ≡ Some k) at found, sym (ap (λ (b : Bounds). b.base) same)));
          none = λ n. absurd (let q : None ≡ Some p = sym n ∙ is in cc);
        }
      where
        same_number : (a b : ℕ) → Some a ≡ Some b → a ≡ b
        same_number a b q = cc

    by : (o : Option ℕ) → b.base ≡ o → with_caller_base pointers o (ends_filled_in terms b) ≡ Some d → IsAtCall terms pointers b d
    by None is h =
        let f = filled None d h in
        record { lo = f.0; hi = f.1.0; base = λ p from. absurd (let q : None ≡ Some p = sym is ∙ from in cc); none = λ n. f.1.1 ∙ n }
    by (Some p) is h = from (slice_index_or pointers p None) refl
      where
        from : (o : Option ℕ) → slice_index_or pointers p None ≡ o → IsAtCall terms pointers b d
        from None found = absurd (let none : None ≡ Some d = rw found at h in cc)
        from (Some k) found = counted p k is found (ends_filled_in terms b) refl h

-- what is valid in the caller with them is valid in the function that is called with the parameter's
module _ (structs : List Structure) (terms : List (Option Term)) (pointers : List (Option ℕ)) (caller callee : State) (hold : HoldTerms terms caller.locals callee.locals) (point : HoldPointers pointers caller.locals callee.locals) where
  same_base : (b d : Bounds) → IsAtCall terms pointers b d → (block byte : ℕ) → base_byte b.base callee.locals block byte ≡ base_byte d.base caller.locals block byte
  same_base b d at block byte = by b.base refl
    where
      pointed : (p k : ℕ) → HoldsPointer p k caller.locals callee.locals → base_byte (Some p) callee.locals block byte ≡ base_byte (Some k) caller.locals block byte
      pointed p k h = rw (h.found, h.holds, h.same) refl

      by : (o : Option ℕ) → b.base ≡ o → base_byte b.base callee.locals block byte ≡ base_byte d.base caller.locals block byte
      by None is = ap (λ o. base_byte o callee.locals block byte) is ∙ sym (ap (λ o. base_byte o caller.locals block byte) (at.none is))
      by (Some p) is =
          let it = at.base p is in
          ap (λ o. base_byte o callee.locals block byte) is ∙ (pointed p it.0 (point p it.0 it.1) ∙ sym (ap (λ o. base_byte o caller.locals block byte) it.2))

  pub entered_valid : (b d : Bounds) (l : Local) → at_call terms pointers b ≡ Some d → Grows (shapes caller.blocks) (shapes callee.blocks) → IsValid structs (Some d) l caller → IsValid structs (Some b) l callee
  entered_valid b d l is grows h =
      let at = at_call_parts terms pointers b d is in
      carried structs d b l l caller callee grows (local_alike l)
      (stay_ends (target_size structs l.type) d b caller.locals callee.locals (same_base b d at) (sym (filled_value terms caller.locals callee.locals hold b.lo d.lo at.lo)) (sym (filled_value terms caller.locals callee.locals hold b.hi d.hi at.hi))) h

-- and what is valid with the bounds of a result in the function that was called is so in the caller with these
module _ (structs : List Structure) (terms : List (Option Term)) (caller callee : State) (hold : HoldTerms terms caller.locals callee.locals) where
  pub result_valid : (b d : Bounds) (l : Local) → b.base ≡ None → ends_filled_in terms b ≡ Some d → Grows (shapes callee.blocks) (shapes caller.blocks) → IsValid structs (Some b) l callee → IsValid structs (Some d) l caller
  result_valid b d l none is grows h =
      let p = between_parts b.base (filled_in terms b.lo) (filled_in terms b.hi) d is in
      carried structs b d l l callee caller grows (local_alike l)
      (stay_ends (target_size structs l.type) b d callee.locals caller.locals (same_base p.base) (filled_value terms caller.locals callee.locals hold b.lo d.lo p.lo) (filled_value terms caller.locals callee.locals hold b.hi d.hi p.hi)) h
    where
      same_base : d.base ≡ b.base → (block byte : ℕ) → base_byte d.base caller.locals block byte ≡ base_byte b.base callee.locals block byte
      same_base e block byte = ap (λ o. base_byte o caller.locals block byte) (e ∙ none) ∙ sym (ap (λ o. base_byte o callee.locals block byte) none)

-- ---- what is passed

-- an argument of a type, as its function takes it
pub record IsPassed (structs : List Structure) (n : ℕ) (types : List CType) (c : CType) (e : core.Expression) (v : Value) (s : State) : Type 0 where
  pub term : IsOfTerm s.locals (term types e) v
  pub local : (p : ℕ) → pointer_local types e ≡ Some p → (l : Local) → slice_get s.locals p ≡ Some l → l.value ≡ v
  pub null : is_null e ≡ true → v ≡ Null
  pub given : IsGivenTo structs n c e v s

abbrev pub ArePassed : List Structure → ℕ → List CType → List CType → Arguments → List Value → State → Type 0
ArePassed structs n types [] core.Done vs s = Unit {0}
ArePassed structs n types [] (core.More e rest) vs s = ⊥
ArePassed structs n types (c ∷ cs) core.Done vs s = ⊥
ArePassed structs n types (c ∷ cs) (core.More e rest) [] s = ⊥
ArePassed structs n types (c ∷ cs) (core.More e rest) (v ∷ vs) s = IsPassed structs n types c e v s × ArePassed structs n types cs rest vs s

given_to_later : (structs : List Structure) (n : ℕ) (c : CType) (e : core.Expression) (v : Value) (s u : State) → IsAfter s u → IsGivenTo structs n c e v s → IsGivenTo structs n c e v u
given_to_later structs n Int e v s u after h = tt
given_to_later structs n Char e v s u after h = tt
given_to_later structs n (Struct number) e v s u after h = tt
given_to_later structs n (Pointer m kinds.One t) e v s u after h = tt
given_to_later structs n (Pointer m kinds.Array t) e v s u after h = given_later structs n (Pointer m kinds.Array t) e v s u after h
given_to_later structs n (Pointer m kinds.Nt t) e v s u after h = given_later structs n (Pointer m kinds.Nt t) e v s u after h

pub passed_later : (structs : List Structure) (n : ℕ) (types : List CType) (c : CType) (e : core.Expression) (v : Value) (s u : State) → IsAfter s u → IsPassed structs n types c e v s → IsPassed structs n types c e v u
passed_later structs n types c e v s u after h = record {
  term = subst (λ ls. IsOfTerm ls (term types e) v) (sym after.1) h.term;
  local = λ p is l there. h.local p is l (subst (λ ls. slice_get ls p ≡ Some l) after.1 there);
  null = h.null;
  given = given_to_later structs n c e v s u after h.given;
}

take_there : {X : Type 0} (n : ℕ) (xs : List X) (k : ℕ) (x : X) → slice_get (take n xs) k ≡ Some x → slice_get xs k ≡ Some x
take_there zero [] k x h = h
take_there zero (y ∷ xs) k x h = absurd (cc)
take_there (suc n) [] k x h = h
take_there (suc n) (y ∷ xs) zero x h = h
take_there (suc n) (y ∷ xs) (suc k) x h = take_there n xs k x h

module _ (structs : List Structure) (n : ℕ) (types : List CType) (s : State) (good : HaveTypes s.locals) (has : HasLocals types s) where
  -- the number of a term that stands for a parameter
  record IsTermOf (ts : List CType) (vs : List Value) (x : ℕ) (t : Term) : Type 0 where
    number : ℤ
    type : slice_get ts x ≡ Some Int
    value : slice_get vs x ≡ Some (Number number)
    is : term_value t s.locals ≡ Some number

  first_term : (c : CType) (cs : List CType) (e : core.Expression) (v : Value) (vs : List Value) (t : Term) → typed.term_of types e c ≡ Some t → IsPassed structs n types c e v s → IsTermOf (c ∷ cs) (v ∷ vs) 0 t
  first_term Int cs e v vs t is h = record {
    number = term_number (numbers_in s.locals) t;
    type = refl;
    value = ap Some (h.term t is);
    is = int_term s.locals t good (formed_later types s t.var has (term_formed types e t is).int);
  }
  first_term Char cs e v vs t is h = absurd (cc)
  first_term (Struct number) cs e v vs t is h = absurd (cc)
  first_term (Pointer m k u) cs e v vs t is h = absurd (cc)

  terms_hold : (arguments : Arguments) (ts : List CType) (vs : List Value) (x : ℕ) (t : Term) → slice_index_or (terms_of types arguments ts) x None ≡ Some t → ArePassed structs n types ts arguments vs s → IsTermOf ts vs x t
  terms_hold core.Done [] vs x t is h = absurd (cc)
  terms_hold core.Done (c ∷ cs) vs x t is h = absurd h
  terms_hold (core.More e rest) [] vs x t is h = absurd h
  terms_hold (core.More e rest) (c ∷ cs) [] x t is h = absurd h
  terms_hold (core.More e rest) (c ∷ cs) (v ∷ vs) zero t is h = first_term c cs e v vs t is h.0
  terms_hold (core.More e rest) (c ∷ cs) (v ∷ vs) (suc x) t is h = let it = terms_hold rest cs vs x t is h.1 in record { number = it.number; type = it.type; value = it.value; is = it.is }

  -- the local pointer that stands for a parameter
  record IsPointerOf (ts : List CType) (vs : List Value) (p k : ℕ) : Type 0 where
    type : CType
    value : Value
    there : Local
    typed : slice_get ts p ≡ Some type
    passed : slice_get vs p ≡ Some value
    found : slice_get s.locals k ≡ Some there
    same : value ≡ there.value

  pointers_hold : (arguments : Arguments) (ts : List CType) (vs : List Value) (p k : ℕ) → slice_index_or (pointers_of types arguments) p None ≡ Some k → ArePassed structs n types ts arguments vs s → IsPointerOf ts vs p k
  pointers_hold core.Done ts vs p k is h = absurd (cc)
  pointers_hold (core.More e rest) [] vs p k is h = absurd h
  pointers_hold (core.More e rest) (c ∷ cs) [] p k is h = absurd h
  pointers_hold (core.More e rest) (c ∷ cs) (v ∷ vs) zero k is h =
      let it = pointer_is types e k is in
      let l = local_found s.locals k it.there.0 (has k it.there.0 it.there.1) in
      record { type = c; value = v; there = l.local; typed = refl; passed = refl; found = l.there; same = sym (h.0.local k is l.local l.there) }
  pointers_hold (core.More e rest) (c ∷ cs) (v ∷ vs) (suc p) k is h =
      let it = pointers_hold rest cs vs p k is h.1 in record { type = it.type; value = it.value; there = it.there; typed = it.typed; passed = it.passed; found = it.found; same = it.same }

  -- an argument, with what is asked of it
  record IsArgument (here : Scope) (terms : List (Option Term)) (pointers : List (Option ℕ)) (vs : List Value) (x : ℕ) (c : CType) (b : Bounds) : Type 0 where
    expression : core.Expression
    value : Value
    there : slice_get vs x ≡ Some value
    asked : typed.IsAskedAt structs here terms pointers expression (Some b)
    passed : IsPassed structs n types c expression value s

  argument_at : (here : Scope) (terms : List (Option Term)) (pointers : List (Option ℕ)) (arguments : Arguments) (ts : List CType) (vs : List Value) (bs : List (Option Bounds)) (x : ℕ) (c : CType) (b : Bounds) → slice_get bs x ≡ Some (Some b) → slice_get ts x ≡ Some c
      → AreAsked structs here terms pointers arguments bs → ArePassed structs n types ts arguments vs s → IsArgument here terms pointers vs x c b
  argument_at here terms pointers core.Done [] vs bs x c b is t a h = absurd (cc)
  argument_at here terms pointers core.Done (u ∷ ts) vs bs x c b is t a h = absurd h
  argument_at here terms pointers (core.More e rest) [] vs bs x c b is t a h = absurd h
  argument_at here terms pointers (core.More e rest) (u ∷ ts) [] bs x c b is t a h = absurd h
  argument_at here terms pointers (core.More e rest) (u ∷ ts) (v ∷ vs) [] x c b is t a h = absurd (cc)
  argument_at here terms pointers (core.More e rest) (u ∷ ts) (v ∷ vs) (o ∷ bs) zero c b is t a h =
      let same : u ≡ c = cc in
      let bound : o ≡ Some b = cc in
      record { expression = e; value = v; there = refl; asked = subst (typed.IsAskedAt structs here terms pointers e) bound a.0; passed = subst (λ c. IsPassed structs n types c e v s) same h.0 }
  argument_at here terms pointers (core.More e rest) (u ∷ ts) (v ∷ vs) (o ∷ bs) (suc x) c b is t a h =
      let it = argument_at here terms pointers rest ts vs bs x c b is t a.1 h.1 in record { expression = it.expression; value = it.value; there = it.there; asked = it.asked; passed = it.passed }

-- each parameter with bounds is valid with them
abbrev pub AreEntered : List Structure → List (Option Bounds) → State → Type 0
AreEntered structs bs s = (x : ℕ) (b : Bounds) (l : Local) → slice_get bs x ≡ Some (Some b) → slice_get s.locals x ≡ Some l → IsValid structs (Some b) l s

pub entered_later : (structs : List Structure) (bs : List (Option Bounds)) (s u : State) → Grows (shapes s.blocks) (shapes u.blocks) → u.locals ≡ s.locals → AreEntered structs bs s → AreEntered structs bs u
entered_later structs bs s u grows same h x b l is there = grown_valid structs (Some b) l s u grows same (h x b l is (subst (λ ls. slice_get ls x ≡ Some l) same there))

-- a pointer is valid with the bounds that it is asked for, where what it is given is so
pub asked_valid : (structs : List Structure) (here : Scope) (s : State) → IsKnown structs here s → HasLocals here.locals s → (m : Mode) (kind : Kind) (t : CType) (e : core.Expression) (v : Value) (d : Bounds) → IsAsked structs here e d → (is_null e ≡ true → v ≡ Null) → AreGivenAt structs (Pointer m kind t) e v s
    → IsValid structs (Some d) (record { type = Pointer m kind t; value = v }) s
asked_valid structs here s known has m kind t e v d (typed.null is) null given = null_valid structs (Some d) (record { type = Pointer m kind t; value = v }) s (null (ap is_null is))
asked_valid structs here s known has m kind t e v d (typed.own {b = b} is leads) null given = leads s has known _ (subst (λ o. IsGivenIf structs (Pointer m kind t) o v s) is given.0).0
asked_valid structs here s known has m kind t e v d (typed.based {b = b} is leads) null given = leads s has known _ (subst (λ o. IsGivenIf structs (Pointer m kind t) o v s) is given.1).0

-- a pointer that counts elements is given its bounds
pub given_there : (structs : List Structure) (n : ℕ) (m : Mode) (kind : Kind) (t : CType) (e : core.Expression) (v : Value) (s : State) → Counts kind → IsGivenTo structs n (Pointer m kind t) e v s → AreGiven structs n (Pointer m kind t) e v s
given_there structs n m kinds.One t e v s counts h = absurd counts
given_there structs n m kinds.Array t e v s counts h = h
given_there structs n m kinds.Nt t e v s counts h = h

-- where the arguments are passed, the function is entered so
module _ (structs : List Structure) (here : Scope) (s : State) (known : IsKnown structs here s) (has : HasLocals here.locals s) (locals : List CType) (parameters : ℕ) (arguments : Arguments) (vs : List Value) (bs : List (Option Bounds))
    (rows : HaveRows (take parameters locals) bs) (passed : ArePassed structs (length here.locals) here.locals (take parameters locals) arguments vs s) where
  abbrev terms : List (Option Term)
  terms = terms_of here.locals arguments (take parameters locals)

  abbrev pointers : List (Option ℕ)
  pointers = pointers_of here.locals arguments

  abbrev callee : State
  callee = record s { locals = locals_for locals vs }

  good : HaveTypes s.locals
  good = (known s (alike_here (length here.locals) s)).holds.met.types

  local_of : (x : ℕ) (c : CType) (v : Value) → slice_get (take parameters locals) x ≡ Some c → slice_get vs x ≡ Some v → slice_get callee.locals x ≡ Some (record { type = c; value = v })
  local_of x c v t e = entered_local locals vs x c v (take_there parameters locals x c t) e

  pub hold : HoldTerms terms s.locals callee.locals
  hold x t is =
      let it = terms_hold structs (length here.locals) here.locals s good has arguments (take parameters locals) vs x t is passed in
      record { number = it.number; local = record { type = Int; value = Number it.number }; is = it.is; there = local_of x Int (Number it.number) it.type it.value; holds = refl }

  point : HoldPointers pointers s.locals callee.locals
  point p k is =
      let it = pointers_hold structs (length here.locals) here.locals s good has arguments (take parameters locals) vs p k is passed in
      record { there = it.there; here = record { type = it.type; value = it.value }; found = it.found; holds = local_of p it.type it.value it.typed it.passed; same = it.same }

  -- and in the function that is called, with those of its parameter
  argument_valid : (m : Mode) (kind : Kind) (t : CType) (e : core.Expression) (v : Value) (b : Bounds) → Counts kind → typed.IsAskedAt structs here terms pointers e (Some b) → IsPassed structs (length here.locals) here.locals (Pointer m kind t) e v s → IsValid structs (Some b) (record { type = Pointer m kind t; value = v }) callee
  argument_valid m kind t e v b counts (inl is) h = null_valid structs (Some b) (record { type = Pointer m kind t; value = v }) callee (h.null (ap is_null is))
  argument_valid m kind t e v b counts (inr (d, at, asked)) h =
      entered_valid structs terms pointers s callee hold point b d (record { type = Pointer m kind t; value = v }) at (local_grows (shapes s.blocks))
      (asked_valid structs here s known has m kind t e v d asked h.null (given_there structs (length here.locals) m kind t e v s counts h.given s (alike_here (length here.locals) s)))

  pub entered : AreAsked structs here terms pointers arguments bs → AreEntered structs bs callee
  entered asked x b l is there =
      let row = rows x b is in
      let type = Pointer row.0 row.1 row.2 in
      let it = argument_at structs (length here.locals) here.locals s good has here terms pointers arguments (take parameters locals) vs bs x type b is row.3 asked passed in
      subst (λ l. IsValid structs (Some b) l callee) (same_local (sym (local_of x type it.value row.3 it.there) ∙ there))
      (argument_valid row.0 row.1 row.2 it.expression it.value b row.4 it.asked it.passed)
    where
      same_local : {a b : Local} → Some a ≡ Some b → a ≡ b
      same_local q = cc
