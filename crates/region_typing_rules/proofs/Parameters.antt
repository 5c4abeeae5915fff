-- What is so of the parameters of a function that break no rule.
use Rattle.std.proofs.Common.{◌≡◌, ℕ, zero, suc, ◌+◌, ◌<◌, ◌≤◌, Bool, true, false, List, [], ◌∷◌, ◌++◌, map, length, Option, Some, None, refl, sym, ap, ◌∙◌, subst, append_assoc, arith}
use Rattle.std.specs.Prelude.{◌==◌, ◌&&◌, nat_lt, is_none, slice_get}
use Rattle.std.specs.List.{AllByRecursion, list_all}
use Rattle.std.proofs.lemmas.Bool.{and_parts, ltb-true}
use Rattle.std.proofs.lemmas.List.{length-append, append-nil}
use Rattle.ckc_text.specs.declared.code.Code.TheVariants.{E08, E15, E16}
use Rattle.ckc_tree.specs.Types.{TypeTree, IntType, CharType, StructType, PointerType, TypeName, type_span}
use Rattle.ckc_tree.specs.Expressions as e
use Rattle.ckc_tree.specs.Expressions.{bounds_span}
use Rattle.ckc_tree.specs.Items as i
use Rattle.built_forms.specs.Built.{is_number_type, is_number_parameter}
use Rattle.bounds_exprs.specs.declared.term.Bounds.{Bounds}
use Rattle.bounds_flow.specs.Flows.{Knowledge, entered}
use Rattle.bounds_flow_meaning.specs.Holding.{AreInts}
use Rattle.pointer_modes.specs.declared.ctype.Mode.{Mode}
use Rattle.pointer_modes.specs.declared.ctype.Kind.{Kind}
use Rattle.pointer_modes.specs.declared.ctype.Kind.TheVariants as kinds
use Rattle.pointer_modes.specs.Types.{CType, Int, Char, Struct, Pointer, Structure}
use Rattle.pointer_modes.specs.Layout.{size_of}
use Rattle.region_typing_rules.specs.Verdicts.{Verdict, Passes, Stops, needs, picked}
use Rattle.region_typing_rules.specs.Scopes.{Scope, WrittenBounds, bounds_in}
use Rattle.region_typing_rules.specs.Types.{base_type, without_stars, type_named, is_number}
use Rattle.region_typing_rules.specs.DeclaredBounds.{declared_bounds, row_of, unwritten_bounds}
use Rattle.region_typing_rules.specs.DeclaredFormed.{IsFormedFor, IsFormedIf}
use Rattle.region_typing_rules.specs.Items.{Parameter, types_ahead, among_parameters, declared_as, parameter_types, type_of_result, bounds_of_result, with_bounds}
use Rattle.region_typing_rules.specs.KnownIsSo.{AreLimited, IsDeclared}
use Rattle.region_typing_rules.specs.Typed.{HaveRows, AreOfResult}
use Rattle.region_typing_rules.proofs.Verdicts.{Promises, passing_promises, needs_promises, passed_is, promise_kept, promised_so}
use Rattle.region_typing_rules.proofs.Known.{IsKnown, type_known}
use Rattle.region_typing_rules.proofs.Knowledge.{IsNumberType}
use Rattle.region_typing_rules.proofs.DeclaredBounds.{declared_formed}

-- ---- what is passed on

-- a parameter is what its rules make of it, at its number
pub record IsParameter (g : Scope) (all : List i.Member) (own : ℕ) (m : i.Member) (p : Parameter) : Type 0 where
  pub few : own < 16
  pub name : p.name ≡ m.name.number
  pub type : type_named g m.type ≡ Passes p.type
  pub declared : declared_bounds (among_parameters g all) p.type own m.bounds ≡ Passes (bounds_in p.bounds)
  pub written : p.bounds ≡ declared_as m.bounds (bounds_in p.bounds)

-- and so is each of these, from a number on
abbrev pub AreParameters : Scope → (all : List i.Member) → (own : ℕ) → List i.Member → List Parameter → Type 0
AreParameters g all own [] [] = Unit {0}
AreParameters g all own [] (p ∷ ps) = ⊥
AreParameters g all own (m ∷ ms) [] = ⊥
AreParameters g all own (m ∷ ms) (p ∷ ps) = IsParameter g all own m p × AreParameters g all (suc own) ms ps

-- what is declared comes to the bounds
declared_in : (o : Option e.Bounds) (b : Option Bounds) → bounds_in (declared_as o b) ≡ b
declared_in None None = refl
declared_in None (Some b) = refl
declared_in (Some text) b = refl

abbrev Added : Scope → List i.Member → List i.Member → List Parameter → List Parameter → Type 0
Added g all ms before ps = (rest : List Parameter) × (ps ≡ before ++ rest) × AreParameters g all (length before) ms rest

added : (g : Scope) (all ms : List i.Member) (before : List Parameter) → Promises (Added g all ms before) (parameter_types g all ms before)
added g all [] before = ([], sym (append-nil before), tt)
added g all (m ∷ ms) before =
    let own = length before in
    let Q = Added g all (m ∷ ms) before in
    needs_promises Q (nat_lt own 16) E08 (type_span m.type.base) _ (λ low.
    passing_promises (λ t. type_named g m.type ≡ Passes t) Q (type_named g m.type) _ (passed_is (type_named g m.type)) (λ t is.
    passing_promises (λ b. declared_bounds (among_parameters g all) t own m.bounds ≡ Passes b) Q (declared_bounds (among_parameters g all) t own m.bounds) _ (passed_is (declared_bounds (among_parameters g all) t own m.bounds)) (λ b made.
    let p : Parameter = record { name = m.name.number; type = t; bounds = declared_as m.bounds b } in
    let same = declared_in m.bounds b in
    let next : length (before ++ p ∷ []) ≡ suc own = (let e = length-append before (p ∷ []) in omega arith) in
    let here : IsParameter g all own m p = record { few = ltb-true own 16 low; name = refl; type = is; declared = made ∙ ap Passes (sym same); written = ap (declared_as m.bounds) (sym same) } in
    promised_so (Added g all ms (before ++ p ∷ [])) Q (parameter_types g all ms (before ++ p ∷ [])) (added g all ms (before ++ p ∷ [])) (λ ps more.
    (p ∷ more.0, more.1 ∙ append_assoc before (p ∷ []) more.0, (here, subst (λ n. AreParameters g all n ms more.0) next more.2))))))

empty_front : (ps rest : List Parameter) → ps ≡ [] ++ rest → rest ≡ ps
empty_front ps rest h = sym h

pub parameters_are : (g : Scope) (all : List i.Member) → Promises (AreParameters g all 0 all) (parameter_types g all all [])
parameters_are g all = promised_so (Added g all all []) (AreParameters g all 0 all) (parameter_types g all all []) (added g all all []) (λ ps it. subst (AreParameters g all 0 all) (empty_front ps it.0 it.1) it.2)

-- ---- numbers

-- a type of the tree that is a number's
pub number_base : (g : Scope) (t : TypeTree) → is_number_type t ≡ true → Promises IsNumberType (base_type g t)
number_base g (IntType span) h = refl
number_base g (CharType span) h = refl
number_base g (StructType tag span) h = absurd (cc)
number_base g (PointerType word element stars span) h = absurd (cc)

pub starred_number : (base : TypeTree) (stars : ℕ) (t : CType) → IsNumberType t → Promises IsNumberType (without_stars base stars t)
starred_number base stars t h = needs_promises IsNumberType (stars == 0) E15 (type_span base) (Passes t) (λ none. h)

named_number : (g : Scope) (t : TypeName) → is_number_type t.base ≡ true → Promises IsNumberType (type_named g t)
named_number g t h = passing_promises IsNumberType IsNumberType (base_type g t.base) (without_stars t.base t.stars) (number_base g t.base h) (starred_number t.base t.stars)

-- ---- what follows

module _ (g : Scope) (all : List i.Member) where
  -- their types are those that their bounds know of
  pub types_are_ahead : (own : ℕ) (ms : List i.Member) (ps : List Parameter) → AreParameters g all own ms ps → types_ahead g ms ≡ map (λ (p : Parameter). p.type) ps
  types_are_ahead own [] [] are = refl
  types_are_ahead own [] (p ∷ ps) are = absurd are
  types_are_ahead own (m ∷ ms) [] are = absurd are
  types_are_ahead own (m ∷ ms) (p ∷ ps) are =
      let first = are.0.type in
      let rest = types_are_ahead (suc own) ms ps are.1 in
      rw (first, rest) refl

  -- at most 16
  pub few_parameters : (own : ℕ) (ms : List i.Member) (ps : List Parameter) → AreParameters g all own ms ps → own ≤ 16 → own + length ps ≤ 16
  few_parameters own [] [] are few = omega (arith, few)
  few_parameters own [] (p ∷ ps) are few = absurd are
  few_parameters own (m ∷ ms) [] are few = absurd are
  few_parameters own (m ∷ ms) (p ∷ ps) are few = let rest = few_parameters (suc own) ms ps are.1 (let low = are.0.few in omega arith) in omega (arith, rest)

  -- their types name declared structs alone
  pub parameters_known : length g.tags ≤ length g.structs → (own : ℕ) (ms : List i.Member) (ps : List Parameter) → AreParameters g all own ms ps → AllByRecursion (λ (p : Parameter). IsKnown g.structs p.type) ps
  parameters_known tagged own [] [] are = tt
  parameters_known tagged own [] (p ∷ ps) are = absurd are
  parameters_known tagged own (m ∷ ms) [] are = absurd are
  parameters_known tagged own (m ∷ ms) (p ∷ ps) are = (promise_kept (IsKnown g.structs) (type_named g m.type) p.type (type_known g tagged m.type) are.0.type, parameters_known tagged (suc own) ms ps are.1)

  -- bounds that are declared for them are formed, where their types are those that these know of
  pub parameters_formed : (own : ℕ) (ms : List i.Member) (ps : List Parameter) → AreParameters g all own ms ps → AllByRecursion (λ (p : Parameter). IsFormedIf g.structs (types_ahead g all) p.type (bounds_in p.bounds)) ps
  parameters_formed own [] [] are = tt
  parameters_formed own [] (p ∷ ps) are = absurd are
  parameters_formed own (m ∷ ms) [] are = absurd are
  parameters_formed own (m ∷ ms) (p ∷ ps) are = (
    promise_kept (IsFormedIf g.structs (types_ahead g all) p.type) (declared_bounds (among_parameters g all) p.type own m.bounds) (bounds_in p.bounds) (declared_formed (among_parameters g all) p.type own m.bounds) are.0.declared,
    parameters_formed (suc own) ms ps are.1,
  )

  -- those of a tainted function are numbers
  pub number_parameters : (own : ℕ) (ms : List i.Member) (ps : List Parameter) → list_all is_number_parameter ms ≡ true → AreParameters g all own ms ps → AllByRecursion IsNumberType (map (λ (p : Parameter). p.type) ps)
  number_parameters own [] [] numbers are = tt
  number_parameters own [] (p ∷ ps) numbers are = absurd are
  number_parameters own (m ∷ ms) [] numbers are = absurd are
  number_parameters own (m ∷ ms) (p ∷ ps) numbers are =
      let parts = and_parts (is_number_parameter m) (list_all is_number_parameter ms) numbers in
      let base = (and_parts (is_number_type m.type.base) (m.type.stars == 0 && is_none m.bounds) parts.0).0 in
      (promise_kept IsNumberType (type_named g m.type) p.type (named_number g m.type base) are.0.type, number_parameters (suc own) ms ps parts.1 are.1)

-- where there are none, there are none
pub none_listed : (g : Scope) (ps : List Parameter) → AreParameters g [] 0 [] ps → ps ≡ []
none_listed g [] are = refl
none_listed g (p ∷ ps) are = absurd are

-- ---- the bounds of a function

-- bounds that are declared for parameters, where locals have these types
abbrev pub AreFormed : List Structure → List CType → List Parameter → Type 0
AreFormed structs types ps = AllByRecursion (λ (p : Parameter). IsFormedIf structs types p.type (bounds_in p.bounds)) ps

-- over the types of all of them
pub all_formed : (g : Scope) (all : List i.Member) (ps : List Parameter) → AreParameters g all 0 all ps → AreFormed g.structs (map (λ (p : Parameter). p.type) ps) ps
all_formed g all ps are = subst (λ types. AreFormed g.structs types ps) (types_are_ahead g all 0 all ps are) (parameters_formed g all 0 all ps are)

abbrev pub all_bounds : List Parameter → List (Option Bounds)
all_bounds ps = map bounds_in (map (λ (p : Parameter). p.bounds) ps)

-- those of one of them
pub one_formed : (structs : List Structure) (types : List CType) (ps : List Parameter) → AreFormed structs types ps → (x : ℕ) (b : Bounds) → slice_get (all_bounds ps) x ≡ Some (Some b)
    → (t : CType) × (slice_get (map (λ (p : Parameter). p.type) ps) x ≡ Some t) × IsFormedFor structs types t b
one_formed structs types [] formed x b h = absurd (cc)
one_formed structs types (p ∷ ps) formed zero b h = by (bounds_in p.bounds) refl formed.0
  where
    by : (o : Option Bounds) → bounds_in p.bounds ≡ o → IsFormedIf structs types p.type o → (t : CType) × (Some p.type ≡ Some t) × IsFormedFor structs types t b
    by None e is = absurd (cc)
    by (Some d) e is = let same : d ≡ b = cc in (p.type, refl, subst (IsFormedFor structs types p.type) same is)
one_formed structs types (p ∷ ps) formed (suc x) b h = one_formed structs types ps formed.1 x b h

-- parameters with bounds are pointers to arrays
pub have_rows : (structs : List Structure) (types : List CType) (ps : List Parameter) → AreFormed structs types ps → HaveRows (map (λ (p : Parameter). p.type) ps) (all_bounds ps)
have_rows structs types ps formed x b h = let it = one_formed structs types ps formed x b h in (it.2.mode, it.2.kind, it.2.element, it.1 ∙ ap Some it.2.own, it.2.counts)

-- each is declared for its own number
pub all_declared_so : (structs : List Structure) (ps : List Parameter) → AreFormed structs (map (λ (p : Parameter). p.type) ps) ps → (x : ℕ) (b : Bounds) → slice_get (all_bounds ps) x ≡ Some (Some b)
    → IsDeclared structs (map (λ (p : Parameter). p.type) ps) x b × AreLimited b
all_declared_so structs ps formed x b h =
    let it = one_formed structs (map (λ (p : Parameter). p.type) ps) ps formed x b h in
    (record { mode = it.2.mode; kind = it.2.kind; counts = it.2.counts; element = it.2.element; own = it.1 ∙ ap Some it.2.own; some = it.2.some; ints = it.2.ints; base = it.2.base }, it.2.limited)

-- ---- the bounds of its result

-- bounds of a result are those of a pointer to elements that have bytes, speak of the parameters, and have the constants of terms
pub record IsForResult (structs : List Structure) (types : List CType) (result : Option CType) (b : Bounds) : Type 0 where
  pub are : AreOfResult types result b
  pub some : 0 < size_of structs are.element
  pub limited : AreLimited b

-- what is written for the bounds of a result is, where it comes to bounds
abbrev pub AreForResult : List Structure → List CType → Option CType → WrittenBounds → Type 0
AreForResult structs types result written = (b : Bounds) → bounds_in written ≡ Some b → IsForResult structs types result b

result_is_row : (result : Option CType) (m : Mode) (kind : Kind) (t : CType) → type_of_result result ≡ Pointer m kind t → result ≡ Some (Pointer m kind t)
result_is_row None m kind t e = absurd (cc)
result_is_row (Some u) m kind t e = ap Some e

unwritten_base : (t : CType) (b : Bounds) → unwritten_bounds t ≡ Some b → b.base ≡ None
unwritten_base Int b e = absurd (cc)
unwritten_base Char b e = absurd (cc)
unwritten_base (Struct n) b e = absurd (cc)
unwritten_base (Pointer m kinds.One t) b e = absurd (cc)
unwritten_base (Pointer m kinds.Array t) b e = absurd (cc)
unwritten_base (Pointer m kinds.Nt t) b e = by (is_number t) e
  where
    by : (test : Bool) → picked test (Some (row_of 0)) None ≡ Some b → b.base ≡ None
    by true q = let same : row_of 0 ≡ b = cc in sym (ap (λ (b : Bounds). b.base) same)
    by false q = absurd (cc)

no_base : (o : Option ℕ) → is_none o ≡ true → o ≡ None
no_base None h = refl
no_base (Some x) h = absurd (cc)

pub result_formed : (g : Scope) (all : List i.Member) (ps : List Parameter) → AreParameters g all 0 all ps → (result : Option CType) (o : Option e.Bounds)
    → Promises (AreForResult g.structs (map (λ (p : Parameter). p.type) ps) result) (bounds_of_result g all result o)
result_formed g all ps are result o = of_form o
  where
    types : List CType
    types = map (λ (p : Parameter). p.type) ps

    Q : WrittenBounds → Type 0
    Q = AreForResult g.structs types result

    formed : (b : Bounds) → IsFormedFor g.structs (types_ahead g all) (type_of_result result) b → b.base ≡ None → IsForResult g.structs types result b
    formed b h none = record {
      are = record { mode = h.mode; kind = h.kind; counts = h.counts; element = h.element; is = result_is_row result h.mode h.kind h.element h.own; base = none; ints = subst (λ ts. AreInts ts b) (types_are_ahead g all 0 all ps are) h.ints };
      some = h.some;
      limited = h.limited;
    }

    unwritten : (o : Option Bounds) → unwritten_bounds (type_of_result result) ≡ o → IsFormedIf g.structs (types_ahead g all) (type_of_result result) o → Q (declared_as {A = e.Bounds} None o)
    unwritten None e h = λ b found. absurd (cc)
    unwritten (Some d) e h = λ b found. let same : d ≡ b = cc in subst (IsForResult g.structs types result) same (formed d h (unwritten_base (type_of_result result) d e))

    by : (text : e.Bounds) (v : Verdict (Option Bounds)) → declared_bounds (among_parameters g all) (type_of_result result) (length all) (Some text) ≡ v
        → Promises (IsFormedIf g.structs (types_ahead g all) (type_of_result result)) v → Promises Q (bounds_of_result g all result (Some text))
    by text (Passes None) e h = rw e (λ b found. absurd (cc))
    by text (Passes (Some b)) e h =
        rw e (passing_promises (λ (kept : Option Bounds). (kept ≡ Some b) × (b.base ≡ None)) Q (needs (is_none b.base) E16 (bounds_span text) (Passes (Some b))) _
        (needs_promises (λ (kept : Option Bounds). (kept ≡ Some b) × (b.base ≡ None)) (is_none b.base) E16 (bounds_span text) (Passes (Some b)) (λ none. (refl, no_base b.base none)))
        (λ kept k d found. let same : b ≡ d = cc in subst (IsForResult g.structs types result) same (formed b h k.1)))
    by text (Stops stop) e h = rw e tt

    of_form : (o : Option e.Bounds) → Promises Q (bounds_of_result g all result o)
    of_form None = unwritten (unwritten_bounds (type_of_result result)) refl (declared_formed (among_parameters g all) (type_of_result result) (length all) None)
    of_form (Some text) =
        by text (declared_bounds (among_parameters g all) (type_of_result result) (length all) (Some text)) refl (declared_formed (among_parameters g all) (type_of_result result) (length all) (Some text))

-- ---- the flow

-- it has as many variables as before
pub bounds_size : (local : ℕ) (ps : List Parameter) (f : Knowledge) → (with_bounds local ps f).vars ≡ f.vars
bounds_size local [] f = refl
bounds_size local (p ∷ ps) f = bounds_size (suc local) ps (entered local (bounds_in p.bounds) f)
