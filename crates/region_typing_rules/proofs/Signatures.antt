-- Functions by their names, and by their numbers among the trusted and the tainted ones.
use Rattle.std.proofs.Common.{◌≡◌, ℕ, suc, ◌+◌, ◌≤◌, Bool, true, false, List, [], ◌∷◌, ◌++◌, map, length, Option, Some, None, refl, ap, ◌∙◌, subst, arith}
use Rattle.std.specs.Prelude.{ℤ, ◌==◌, bytes_eq, slice_get, ◌&&◌}
use Rattle.std.specs.List.{AllByRecursion}
use Rattle.std.proofs.lemmas.Bool.{and_parts, eqb-true}
use Rattle.std.specs.Ordering.{int_eq}
use Rattle.std.proofs.lemmas.Bool.Decides.{Decides-int_eq, nat_tests}
use Rattle.std.proofs.lemmas.Slice.Eq.{bytes_eq-Decides}
use Rattle.ckc_tree.specs.declared.item.FunctionKind.{FunctionKind}
use Rattle.ckc_tree.specs.declared.item.FunctionKind.TheVariants as kinds
use Rattle.pointer_modes.specs.Types.{CType}
use Rattle.bounds_exprs.specs.declared.term.Bounds.{Bounds}
use Rattle.bounds_exprs.specs.declared.term.Term.{Term}
use Rattle.bounds_exprs.specs.Normal.{is_same}
use Rattle.bounds_flow.specs.Pointers.{same_bounds, same_term}
use Rattle.ckc_core.specs.States.{same_type}
use Rattle.region_typing_rules.specs.Scopes.{Signature, WrittenBounds, function_named, bounds_in}
use Rattle.region_typing_rules.specs.Types.{is_scalar}
use Rattle.region_typing_rules.specs.Calls.{is_import, counted, same_side, side_number}
use Rattle.region_typing_rules.specs.Items.{Defined, same_types, same_written, all_same_written, same_result, same_kind, agrees, all_scalar, scalar_result}
use Rattle.region_typing_rules.specs.Cores.{body_of}
use Rattle.region_typing_rules.proofs.Sides.{trusted_functions, trusted_bounds, trusted_results, tainted_functions}
use Rattle.region_typing_rules.specs.Typed.{HasResultBounds, HaveRows, IsScalar, IsScalarResult, IsNumberResult}
use Rattle.region_typing_rules.proofs.Knowledge.{IsNumberType}
use Rattle.region_typing_rules.proofs.SameTypes.{same_equal}

-- ---- names

pub bytes_equal : (a b : List ℕ) → bytes_eq a b ≡ true → a ≡ b
bytes_equal a b h = grind (arith, bytes_eq-Decides)

pub numbers_equal : (a b : ℕ) → (a == b) ≡ true → a ≡ b
numbers_equal a b h = eqb-true a b h

pub number_same : (a : ℕ) → (a == a) ≡ true
number_same a = grind (arith, nat_tests)

pub named_self : (functions : List Signature) (name : ℕ) (f : Signature) → function_named functions name ≡ Some f → name ≡ f.name
named_self [] name f h = absurd (cc)
named_self (g ∷ functions) name f h = by (name == g.name) refl (named_self functions name f)
  where
    by : (test : Bool) → (name == g.name) ≡ test → (function_named functions name ≡ Some f → name ≡ f.name) → name ≡ f.name
    by true e again = let now = rw e at h in let same : g ≡ f = cc in numbers_equal name g.name e ∙ ap (λ (x : Signature). x.name) same
    by false e again = let now = rw e at h in again now

-- a property of all is one of each that is named
pub named_has : (P : Signature → Type 0) (functions : List Signature) (name : ℕ) (f : Signature) → AllByRecursion P functions → function_named functions name ≡ Some f → P f
named_has P [] name f all h = absurd (cc)
named_has P (g ∷ functions) name f all h = by (name == g.name) refl (named_has P functions name f all.1)
  where
    by : (test : Bool) → (name == g.name) ≡ test → (function_named functions name ≡ Some f → P f) → P f
    by true e again = let now = rw e at h in let same : g ≡ f = cc in subst P same all.0
    by false e again = let now = rw e at h in again now

-- one more behind them
pub named_further : (functions : List Signature) (more : Signature) (name : ℕ) (f : Signature) → function_named functions name ≡ Some f → function_named (functions ++ more ∷ []) name ≡ Some f
named_further [] more name f h = absurd (cc)
named_further (g ∷ functions) more name f h = by (name == g.name) refl (named_further functions more name f)
  where
    by : (test : Bool) → (name == g.name) ≡ test → (function_named functions name ≡ Some f → function_named (functions ++ more ∷ []) name ≡ Some f) → function_named ((g ∷ functions) ++ more ∷ []) name ≡ Some f
    by true e again = let now = rw e at h in rw e now
    by false e again = let now = rw e at h in rw e (again now)

pub named_last : (functions : List Signature) (more : Signature) → function_named functions more.name ≡ None → function_named (functions ++ more ∷ []) more.name ≡ Some more
named_last [] more h = rw (number_same more.name) refl
named_last (g ∷ functions) more h = by (more.name == g.name) refl (named_last functions more)
  where
    by : (test : Bool) → (more.name == g.name) ≡ test → (function_named functions more.name ≡ None → function_named (functions ++ more ∷ []) more.name ≡ Some more) → function_named ((g ∷ functions) ++ more ∷ []) more.name ≡ Some more
    by true e again = let now = rw e at h in absurd (cc)
    by false e again = let now = rw e at h in rw e (again now)

-- and the numbers of those before it stay
pub side_further : (side : Bool) (functions : List Signature) (more : Signature) (name : ℕ) (f : Signature) (n : ℕ) → function_named functions name ≡ Some f → side_number side functions name n ≡ side_number side (functions ++ more ∷ []) name n
side_further side [] more name f n h = absurd (cc)
side_further side (g ∷ functions) more name f n h = by (name == g.name) refl (side_further side functions more name f (counted (same_side side (is_import g)) n))
  where
    by : (test : Bool) → (name == g.name) ≡ test → (function_named functions name ≡ Some f → side_number side functions name (counted (same_side side (is_import g)) n) ≡ side_number side (functions ++ more ∷ []) name (counted (same_side side (is_import g)) n)) → side_number side (g ∷ functions) name n ≡ side_number side ((g ∷ functions) ++ more ∷ []) name n
    by true e again = rw e refl
    by false e again = let now = rw e at h in rw e (again now)

-- ---- numbers

-- a function that is named has a number among the trusted ones
pub record HasTrusted (bodies : List Defined) (functions : List Signature) (name : ℕ) (f : Signature) (n : ℕ) : Type 0 where
  pub index : ℕ
  pub counted : side_number false functions name n ≡ n + index
  pub found : slice_get (trusted_functions bodies functions) index ≡ Some (body_of bodies f)
  pub bounds : slice_get (trusted_bounds functions) index ≡ Some (map bounds_in f.bounds)
  pub told : slice_get (trusted_results functions) index ≡ Some (bounds_in f.result_bounds)

pub trusted_there : (bodies : List Defined) (functions : List Signature) (name : ℕ) (f : Signature) (n : ℕ) → function_named functions name ≡ Some f → is_import f ≡ false → HasTrusted bodies functions name f n
trusted_there bodies [] name f n h side = absurd (cc)
trusted_there bodies (g ∷ functions) name f n h side = by (name == g.name) (is_import g) refl refl (λ m now. trusted_there bodies functions name f m now side)
  where
    by : (test import : Bool) → (name == g.name) ≡ test → is_import g ≡ import → ((m : ℕ) → function_named functions name ≡ Some f → HasTrusted bodies functions name f m) → HasTrusted bodies (g ∷ functions) name f n
    by true import e i again =
        let now = rw e at h in
        let same : g ≡ f = cc in
        let trusted : is_import g ≡ false = ap is_import same ∙ side in
        record { index = 0; counted = rw e (omega arith); found = rw trusted (ap (λ x. Some (body_of bodies x)) same); bounds = rw trusted (ap (λ (x : Signature). Some (map bounds_in x.bounds)) same); told = rw trusted (ap (λ (x : Signature). Some (bounds_in x.result_bounds)) same) }
    by false true e i again =
        let now = rw e at h in
        let rest = again n now in
        record { index = rest.index; counted = rw (e, i) rest.counted; found = rw i rest.found; bounds = rw i rest.bounds; told = rw i rest.told }
    by false false e i again =
        let now = rw e at h in
        let rest = again (suc n) now in
        let moved : suc n + rest.index ≡ n + suc rest.index = omega arith in
        record { index = suc rest.index; counted = rw (e, i) (rest.counted ∙ moved); found = rw i rest.found; bounds = rw i rest.bounds; told = rw i rest.told }

pub record HasTainted (functions : List Signature) (name : ℕ) (f : Signature) (n : ℕ) : Type 0 where
  pub index : ℕ
  pub counted : side_number true functions name n ≡ n + index
  pub found : slice_get (tainted_functions functions) index ≡ Some (record { name = f.text; parameters = length f.parameters; result = f.result })

pub tainted_there : (functions : List Signature) (name : ℕ) (f : Signature) (n : ℕ) → function_named functions name ≡ Some f → is_import f ≡ true → HasTainted functions name f n
tainted_there [] name f n h side = absurd (cc)
tainted_there (g ∷ functions) name f n h side = by (name == g.name) (is_import g) refl refl (λ m now. tainted_there functions name f m now side)
  where
    by : (test import : Bool) → (name == g.name) ≡ test → is_import g ≡ import → ((m : ℕ) → function_named functions name ≡ Some f → HasTainted functions name f m) → HasTainted (g ∷ functions) name f n
    by true import e i again =
        let now = rw e at h in
        let same : g ≡ f = cc in
        let tainted : is_import g ≡ true = ap is_import same ∙ side in
        record { index = 0; counted = rw e (omega arith); found = rw tainted (ap (λ (x : Signature). Some (record { name = x.text; parameters = length x.parameters; result = x.result })) same) }
    by false true e i again =
        let now = rw e at h in
        let rest = again (suc n) now in
        let moved : suc n + rest.index ≡ n + suc rest.index = omega arith in
        record { index = suc rest.index; counted = rw (e, i) (rest.counted ∙ moved); found = rw i rest.found }
    by false false e i again =
        let now = rw e at h in
        let rest = again n now in
        record { index = rest.index; counted = rw (e, i) rest.counted; found = rw i rest.found }

-- ---- declarations that agree

types_equal : (ts us : List CType) → same_types ts us ≡ true → ts ≡ us
types_equal [] [] h = refl
types_equal [] (u ∷ us) h = absurd (cc)
types_equal (t ∷ ts) [] h = absurd (cc)
types_equal (t ∷ ts) (u ∷ us) h =
    let parts = and_parts (same_type t u) (same_types ts us) h in
    let first = same_equal t u parts.0 in
    let rest = types_equal ts us parts.1 in
    cc

result_equal : (a b : Option CType) → same_result a b ≡ true → a ≡ b
result_equal None None h = refl
result_equal None (Some t) h = absurd (cc)
result_equal (Some t) None h = absurd (cc)
result_equal (Some t) (Some u) h = ap Some (same_equal t u h)

kind_equal : (a b : FunctionKind) → same_kind a b ≡ true → a ≡ b
kind_equal kinds.Trusted kinds.Trusted h = refl
kind_equal kinds.Trusted kinds.Tainted h = absurd (cc)
kind_equal kinds.Trusted kinds.Callback h = absurd (cc)
kind_equal kinds.Tainted kinds.Trusted h = absurd (cc)
kind_equal kinds.Tainted kinds.Tainted h = refl
kind_equal kinds.Tainted kinds.Callback h = absurd (cc)
kind_equal kinds.Callback kinds.Trusted h = absurd (cc)
kind_equal kinds.Callback kinds.Tainted h = absurd (cc)
kind_equal kinds.Callback kinds.Callback h = refl

pub named_equal : (a b : Option ℕ) → is_same a b ≡ true → a ≡ b
named_equal None None h = refl
named_equal None (Some y) h = absurd (cc)
named_equal (Some x) None h = absurd (cc)
named_equal (Some x) (Some y) h = ap Some (numbers_equal x y h)

term_equal : (a b : Term) → same_term a b ≡ true → a ≡ b
term_equal a b h =
    let parts = and_parts (is_same a.var b.var) (int_eq a.plus b.plus) h in
    let of : Option ℕ → ℤ → Term = λ v c. record { var = v; plus = c } in
    ap (λ v. of v a.plus) (named_equal a.var b.var parts.0) ∙ ap (of b.var) ((Decides-int_eq a.plus b.plus).0 parts.1)

pub bounds_equal : (a b : Option Bounds) → same_bounds a b ≡ true → a ≡ b
bounds_equal None None h = refl
bounds_equal None (Some b) h = absurd (cc)
bounds_equal (Some a) None h = absurd (cc)
bounds_equal (Some a) (Some b) h =
    let first = and_parts (is_same a.base b.base) (same_term a.lo b.lo && same_term a.hi b.hi) h in
    let second = and_parts (same_term a.lo b.lo) (same_term a.hi b.hi) first.1 in
    let of : Option ℕ → Term → Term → Option Bounds = λ v l h. Some (record { base = v; lo = l; hi = h }) in
    ap (λ v. of v a.lo a.hi) (named_equal a.base b.base first.0) ∙ (ap (λ l. of b.base l a.hi) (term_equal a.lo b.lo second.0) ∙ ap (of b.base b.lo) (term_equal a.hi b.hi second.1))

pub written_equal : (a b : WrittenBounds) → same_written a b ≡ true → a ≡ b
written_equal None None h = refl
written_equal None (Some b) h = absurd (cc)
written_equal (Some a) None h = absurd (cc)
written_equal (Some a) (Some b) h = ap Some (bounds_equal a b h)

pub all_written_equal : (as' bs : List WrittenBounds) → all_same_written as' bs ≡ true → as' ≡ bs
all_written_equal [] [] h = refl
all_written_equal [] (b ∷ bs) h = absurd (cc)
all_written_equal (a ∷ as') [] h = absurd (cc)
all_written_equal (a ∷ as') (b ∷ bs) h =
    let parts = and_parts (same_written a b) (all_same_written as' bs) h in
    let first = written_equal a b parts.0 in
    let rest = all_written_equal as' bs parts.1 in
    cc

-- two declarations of one function
pub record Agrees (a b : Signature) : Type 0 where
  pub kind : a.kind ≡ b.kind
  pub parameters : a.parameters ≡ b.parameters
  pub result : a.result ≡ b.result
  pub bounds : a.bounds ≡ b.bounds
  pub result_bounds : a.result_bounds ≡ b.result_bounds

pub agrees_equal : (a b : Signature) → agrees (Some a) b ≡ true → Agrees a b
agrees_equal a b h =
    let first = and_parts (same_kind a.kind b.kind) (same_types a.parameters b.parameters && (same_result a.result b.result && (all_same_written a.bounds b.bounds && same_written a.result_bounds b.result_bounds))) h in
    let second = and_parts (same_types a.parameters b.parameters) (same_result a.result b.result && (all_same_written a.bounds b.bounds && same_written a.result_bounds b.result_bounds)) first.1 in
    let third = and_parts (same_result a.result b.result) (all_same_written a.bounds b.bounds && same_written a.result_bounds b.result_bounds) second.1 in
    let fourth = and_parts (all_same_written a.bounds b.bounds) (same_written a.result_bounds b.result_bounds) third.1 in
    record {
      kind = kind_equal a.kind b.kind first.0;
      parameters = types_equal a.parameters b.parameters second.0;
      result = result_equal a.result b.result third.0;
      bounds = all_written_equal a.bounds b.bounds fourth.0;
      result_bounds = written_equal a.result_bounds b.result_bounds fourth.1;
    }

pub scalars_all : (ts : List CType) → all_scalar ts ≡ true → AllByRecursion IsScalar ts
scalars_all [] h = tt
scalars_all (t ∷ ts) h = let parts = and_parts (is_scalar t) (all_scalar ts) h in (parts.0, scalars_all ts parts.1)

pub result_scalar : (o : Option CType) → scalar_result o ≡ true → IsScalarResult o
result_scalar None h = tt
result_scalar (Some t) h = h

-- what is asked of each declared function
pub record IsDeclared (f : Signature) : Type 0 where
  pub few : length f.parameters ≤ 16
  pub scalars : AllByRecursion IsScalar f.parameters
  pub result : IsScalarResult f.result
  pub numbers : is_import f ≡ true → AllByRecursion IsNumberType f.parameters
  pub number_result : is_import f ≡ true → IsNumberResult f.result
  pub rows : HaveRows f.parameters (map bounds_in f.bounds)
  pub sound : HasResultBounds f.parameters f.result (bounds_in f.result_bounds)
