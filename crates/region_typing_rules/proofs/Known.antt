-- Types that name declared structs alone. Their values keep their sizes when more structs are declared.
use Rattle.std.proofs.Common.{◌≡◌, ℕ, zero, suc, ◌<◌, ◌≤◌, ◌++◌, Bool, true, false, List, [], ◌∷◌, length, Option, Some, None, refl, subst, arith}
use Rattle.std.specs.Prelude.{◌==◌, slice_get, get_or}
use Rattle.std.specs.List.{AllByRecursion}
use Rattle.std.proofs.lemmas.List.Quantifiers.{position-Some}
use Rattle.std.proofs.lemmas.Option.{slice_get-get_or}
use Rattle.std.proofs.lemmas.List.{length-append}
use Rattle.ckc_text.specs.declared.code.Code.TheVariants.{E13, E15}
use Rattle.ckc_tree.specs.Types.{TypeTree, IntType, CharType, StructType, PointerType, TypeName, type_span}
use Rattle.bounds_exprs.specs.declared.term.Bounds.{Bounds}
use Rattle.pointer_modes.specs.declared.ctype.Kind.TheVariants as kinds
use Rattle.pointer_modes.specs.Types.{CType, Int, Char, Struct, Pointer, Member, Structure, members_of}
use Rattle.pointer_modes.specs.Layout.{size_of}
use Rattle.ckc_core.specs.declared.program.Site.{Site}
use Rattle.region_typing_rules.specs.Verdicts.{Passes, passing, meant}
use Rattle.region_typing_rules.specs.Scopes.{Scope, Signature, FileVariable, bounds_in, struct_named}
use Rattle.region_typing_rules.specs.Types.{kind_of, mode_of, may_lead_to, base_type, without_stars, type_named}
use Rattle.region_typing_rules.specs.Operands.{bounds_at, cell_bounds}
use Rattle.region_typing_rules.specs.Statements.{array_kind}
use Rattle.region_typing_rules.specs.Items.{with_struct}
use Rattle.region_typing_rules.proofs.Verdicts.{Promises, passing_promises, needs_promises, Extends, extends_append}

-- a type of a source: each struct that it names is declared, and a zero ends only numbers
abbrev pub IsKnown : List Structure → CType → Type 0
IsKnown structs Int = Unit {0}
IsKnown structs Char = Unit {0}
IsKnown structs (Struct number) = number < length structs
IsKnown structs (Pointer mode kind target) = (may_lead_to kind target ≡ true) × IsKnown structs target

abbrev pub IsKnownResult : List Structure → Option CType → Type 0
IsKnownResult structs None = Unit {0}
IsKnownResult structs (Some t) = IsKnown structs t

pub known_later : (a b : List Structure) (t : CType) → length a ≤ length b → IsKnown a t → IsKnown b t
known_later a b Int le h = tt
known_later a b Char le h = tt
known_later a b (Struct number) le h = omega arith
known_later a b (Pointer m k t) le h = (h.0, known_later a b t le h.1)

pub result_later : (a b : List Structure) (o : Option CType) → length a ≤ length b → IsKnownResult a o → IsKnownResult b o
result_later a b None le h = tt
result_later a b (Some t) le h = known_later a b t le h

-- a struct that is declared keeps its size when more are
pub size_kept : (a b : List Structure) (t : CType) → Extends a b → IsKnown a t → size_of a t ≡ size_of b t
size_kept a b Int ext h = refl
size_kept a b Char ext h = refl
size_kept a b (Pointer m k t) ext h = refl
size_kept a b (Struct number) ext h =
    let other : Structure = record { tainted = false; members = [] } in
    let e : slice_get a number ≡ Some (get_or a number other) = slice_get-get_or a number other h in
    let e' : slice_get b number ≡ Some (get_or a number other) = ext number (get_or a number other) e in
    rw (e, e') refl

-- and so do the bounds of a pointer to it
pub bounds_kept : (a b : List Structure) (t : CType) (site : Site) → Extends a b → IsKnown a t → bounds_at a t site ≡ bounds_at b t site
bounds_kept a b Int site ext h = refl
bounds_kept a b Char site ext h = refl
bounds_kept a b (Struct number) site ext h = refl
bounds_kept a b (Pointer m k t) site ext h = rw (size_kept a b t ext h.1) refl

pub cell_kept : (a b : List Structure) (t : CType) (site : Site) → Extends a b → IsKnown a t → cell_bounds a t site ≡ cell_bounds b t site
cell_kept a b Int site ext h = refl
cell_kept a b Char site ext h = refl
cell_kept a b (Struct number) site ext h = refl
cell_kept a b (Pointer m k t) site ext h = rw (size_kept a b t ext h.1) refl

pub all_so : {X : Type 0} (P Q : X → Type 0) → ((x : X) → P x → Q x) → (xs : List X) → AllByRecursion P xs → AllByRecursion Q xs
all_so P Q so [] all = tt
all_so P Q so (x ∷ xs) all = (so x all.0, all_so P Q so xs all.1)

-- what is so of no members, and of those of each struct
pub of_members : (P : List Member → Type 0) → P [] → (structs : List Structure) (s : Structure) → ((n : ℕ) → P (members_of structs n)) → P s.members → (n : ℕ) → P (members_of (structs ++ s ∷ []) n)
of_members P none [] s h new zero = new
of_members P none [] s h new (suc n) = none
of_members P none (x ∷ structs) s h new zero = h 0
of_members P none (x ∷ structs) s h new (suc n) = of_members P none structs s (λ k. h (suc k)) new n

-- a result with bounds points to elements that have bytes
abbrev pub IsSizedResult : List Structure → Option CType → Option Bounds → Type 0
IsSizedResult structs None o = Unit {0}
IsSizedResult structs (Some Int) o = Unit {0}
IsSizedResult structs (Some Char) o = Unit {0}
IsSizedResult structs (Some (Struct number)) o = Unit {0}
IsSizedResult structs (Some (Pointer m kinds.One t)) o = Unit {0}
IsSizedResult structs (Some (Pointer m kinds.Nt t)) None = Unit {0}
IsSizedResult structs (Some (Pointer m kinds.Nt t)) (Some b) = 0 < size_of structs t
IsSizedResult structs (Some (Pointer m kinds.Array t)) None = Unit {0}
IsSizedResult structs (Some (Pointer m kinds.Array t)) (Some b) = 0 < size_of structs t

sized_later : (a b : List Structure) (result : Option CType) (o : Option Bounds) → Extends a b → IsKnownResult a result → IsSizedResult a result o → IsSizedResult b result o
sized_later a b None o ext known h = tt
sized_later a b (Some Int) o ext known h = tt
sized_later a b (Some Char) o ext known h = tt
sized_later a b (Some (Struct number)) o ext known h = tt
sized_later a b (Some (Pointer m kinds.One t)) o ext known h = tt
sized_later a b (Some (Pointer m kinds.Nt t)) None ext known h = tt
sized_later a b (Some (Pointer m kinds.Nt t)) (Some x) ext known h = subst (λ n. 0 < n) (size_kept a b t ext known.1) h
sized_later a b (Some (Pointer m kinds.Array t)) None ext known h = tt
sized_later a b (Some (Pointer m kinds.Array t)) (Some x) ext known h = subst (λ n. 0 < n) (size_kept a b t ext known.1) h

abbrev IsSizedIn : List Structure → Signature → Type 0
IsSizedIn structs f = IsSizedResult structs f.result (bounds_in f.result_bounds)

results_later : (a b : List Structure) (functions : List Signature) → Extends a b → AllByRecursion (λ (f : Signature). IsKnownResult a f.result) functions → AllByRecursion (IsSizedIn a) functions → AllByRecursion (IsSizedIn b) functions
results_later a b [] ext known all = tt
results_later a b (f ∷ functions) ext known all = (sized_later a b f.result (bounds_in f.result_bounds) ext known.0 all.0, results_later a b functions ext known.1 all.1)

-- ---- scopes

-- the type of a file-level variable, whose elements a zero may end
abbrev pub IsKnownVariable : List Structure → FileVariable → Type 0
IsKnownVariable structs v = (may_lead_to (array_kind v.ended) v.type ≡ true) × IsKnown structs v.type

-- all types that are in a scope name structs of the scope alone
pub record AreClosed (tags : List ℕ) (structs : List Structure) (functions : List Signature) (variables : List FileVariable) (locals : List CType) : Type 0 where
  pub tagged : length tags ≤ length structs
  pub of_members : (n : ℕ) → AllByRecursion (λ (m : Member). IsKnown structs m.ctype) (members_of structs n)
  pub of_functions : AllByRecursion (λ (f : Signature). IsKnownResult structs f.result) functions
  pub of_results : AllByRecursion (λ (f : Signature). IsSizedResult structs f.result (bounds_in f.result_bounds)) functions
  pub of_variables : AllByRecursion (IsKnownVariable structs) variables
  pub of_locals : AllByRecursion (IsKnown structs) locals

abbrev pub IsClosed : Scope → Type 0
IsClosed s = AreClosed s.tags s.structs s.functions s.variables s.locals

-- a struct more, whose members name declared structs alone
pub with_struct_closed : (s : Scope) (tag : ℕ) (names : List ℕ) (tainted : Bool) (members : List Member) → AllByRecursion (λ (m : Member). IsKnown (with_struct tag names tainted members s).structs m.ctype) members → IsClosed s → IsClosed (with_struct tag names tainted members s)
with_struct_closed s tag names tainted members known c =
    let new : Structure = record { tainted = tainted; members = members } in
    let more : List Structure = s.structs ++ new ∷ [] in
    let longer : length s.structs ≤ length more = omega (arith, length-append s.structs (new ∷ [])) in
    record {
      tagged = omega (arith, c.tagged, length-append s.tags (tag ∷ []), length-append s.structs (new ∷ []));
      of_members = of_members (AllByRecursion (λ (m : Member). IsKnown more m.ctype)) tt s.structs new (λ n. all_so (λ (m : Member). IsKnown s.structs m.ctype) (λ (m : Member). IsKnown more m.ctype) (λ m. known_later s.structs more m.ctype longer) (members_of s.structs n) (c.of_members n)) known;
      of_functions = all_so (λ (f : Signature). IsKnownResult s.structs f.result) (λ (f : Signature). IsKnownResult more f.result) (λ f. result_later s.structs more f.result longer) s.functions c.of_functions;
      of_results = results_later s.structs more s.functions (extends_append s.structs (new ∷ [])) c.of_functions c.of_results;
      of_variables = all_so (IsKnownVariable s.structs) (IsKnownVariable more) (λ v h. (h.0, known_later s.structs more v.type longer h.1)) s.variables c.of_variables;
      of_locals = all_so (IsKnown s.structs) (IsKnown more) (λ t. known_later s.structs more t longer) s.locals c.of_locals;
    }

-- ---- types that are written

module _ (s : Scope) (few : length s.tags ≤ length s.structs) where
  pub without_known : (base : TypeTree) (stars : ℕ) (t : CType) → IsKnown s.structs t → Promises (IsKnown s.structs) (without_stars base stars t)
  without_known base stars t h = needs_promises (IsKnown s.structs) (stars == 0) E15 (type_span base) (Passes t) (λ none. h)

  pub base_known : (t : TypeTree) → Promises (IsKnown s.structs) (base_type s t)
  base_known (IntType span) = tt
  base_known (CharType span) = tt
  base_known (StructType tag span) = by (struct_named s tag.number) refl
    where
      by : (o : Option ℕ) → struct_named s tag.number ≡ o → Promises (IsKnown s.structs) (passing (meant o) (λ n. Passes (Struct n)))
      by None e = tt
      by (Some n) e = let there = (position-Some (λ other. tag.number == other) s.tags n 0 e).0 in omega arith
  base_known (PointerType word element stars span) =
      passing_promises (IsKnown s.structs) (IsKnown s.structs) (passing (base_type s element) (without_stars element stars)) _
      (passing_promises (IsKnown s.structs) (IsKnown s.structs) (base_type s element) (without_stars element stars) (base_known element) (without_known element stars))
      (λ t h. needs_promises (IsKnown s.structs) (may_lead_to (kind_of word.kind) t) E13 span (Passes (Pointer (mode_of word.mode) (kind_of word.kind) t)) (λ ends. (ends, h)))

  pub type_known : (t : TypeName) → Promises (IsKnown s.structs) (type_named s t)
  type_known t = passing_promises (IsKnown s.structs) (IsKnown s.structs) (base_type s t.base) (without_stars t.base t.stars) (base_known t.base) (without_known t.base t.stars)
