-- Members of structs, and their cells.
use Rattle.std.proofs.Common.{◌≡◌, ℕ, zero, suc, ◌+◌, ◌≤◌, Bool, true, false, ◌&&◌, List, [], ◌∷◌, length, map, slice_get, slice_index, position, Option, Some, None, refl, sym, ap, ◌∙◌, arith}
use Rattle.std.specs.Prelude.{◌==◌}
use Rattle.std.specs.Option.{option_map}
use Rattle.std.specs.List.{list_all}
use Rattle.std.proofs.lemmas.Option.{slice_get_past}
use Rattle.ckc_text.specs.declared.place.Span.{Span}
use Rattle.ckc_text.specs.declared.code.Code.TheVariants.{E10}
use Rattle.pointer_modes.specs.declared.ctype.Member as code
use Rattle.pointer_modes.specs.Types.{CType, Int, Char, Struct, Pointer, member, members_of, ctype, Structure}
use Rattle.pointer_modes.specs.Layout.{Cell, cells_of}
use Rattle.ckc_core.specs.declared.program.Site.{Site}
use Rattle.ckc_core.specs.Core as core
use Rattle.region_typing_rules.specs.Verdicts.{Passes, breaks}
use Rattle.region_typing_rules.specs.Scopes.{Scope, members_named}
use Rattle.region_typing_rules.specs.Types.{is_scalar}
use Rattle.region_typing_rules.specs.Operands.{Value, For, OfCell, at_place, member_from, member_at, member_place, offset_among}
use Rattle.region_typing_scope.specs.Searches.{member_at as member_found_at}
use Rattle.region_typing_scope.proofs.Searches.{place_found, member_found}

and_first : (a b : Bool) → (a && b) ≡ true → a ≡ true
and_first true b both = refl
and_first false b both = both

and_second : (a b : Bool) → (a && b) ≡ true → b ≡ true
and_second true b both = both
and_second false b both = absurd (cc)

all_scalar_members : (structs : List Structure) (n : ℕ) → list_all (λ s. list_all (λ m. is_scalar m.ctype) s.members) structs ≡ true → list_all (λ m. is_scalar m.ctype) (members_of structs n) ≡ true
all_scalar_members [] n all = refl
all_scalar_members (s ∷ structs) zero all = and_first _ _ all
all_scalar_members (s ∷ structs) (suc n) all = all_scalar_members structs n (and_second _ _ all)

scalar_at : (ms : List code.Member) (k : ℕ) (m : code.Member) → list_all (λ m. is_scalar m.ctype) (map member ms) ≡ true → slice_get ms k ≡ Some m → is_scalar (ctype m.ctype) ≡ true
scalar_at [] k m all at = absurd (cc)
scalar_at (w ∷ ms) zero m all at = let same : w ≡ m = cc in rw (← same) (and_first _ _ all)
scalar_at (w ∷ ms) (suc k) m all at = scalar_at ms k m (and_second _ _ all) at

offset_at : (cells : List Cell) (k : ℕ) → offset_among cells k ≡ slice_index (map (λ c. c.offset) cells) k
offset_at [] k = refl
offset_at (c ∷ cells) zero = refl
offset_at (c ∷ cells) (suc k) = offset_at cells k

scalar_cell : (t : CType) (p : core.Place) → is_scalar t ≡ true → at_place t p ≡ Value t false (core.Load t p None) (For (OfCell p))
scalar_cell Int p scalar = refl
scalar_cell Char p scalar = refl
scalar_cell (Struct number) p scalar = absurd (cc)
scalar_cell (Pointer mode kind target) p scalar = refl

-- ---- the member of a name

pub place_found_so : (name : ℕ) (names : List ℕ) (ms : List code.Member) (place : Option ℕ) → place ≡ position (λ other. name == other) names → member_found_at 0 ms place ≡ member_from 0 names (map member ms) name
place_found_so name names ms place is = ap (member_found_at 0 ms) (is ∙ place_found (λ other. name == other) names) ∙ sym (member_found name 0 names ms)

-- a place behind the last member is none
pub place_behind : (name : ℕ) (names : List ℕ) (ms : List code.Member) (k : ℕ) → Some k ≡ position (λ other. name == other) names → length ms ≤ k → member_found_at 0 ms None ≡ member_from 0 names (map member ms) name
place_behind name names ms k is past = sym none ∙ place_found_so name names ms (Some k) is
  where
    none : member_found_at 0 ms (Some k) ≡ None
    none = rw (slice_get_past ms k past) refl

-- no member of a name
pub no_member : (s : Scope) (struct : ℕ) (base : core.Place) (name : ℕ) (site : Site) (span : Span) (names : List ℕ) (ms : List code.Member) → names ≡ members_named s struct → map member ms ≡ members_of s.structs struct
    → None ≡ member_from 0 names (map member ms) name → member_at s struct base name site span ≡ breaks E10 span
no_member s struct base name site span names ms named are none =
    let e : member_from 0 (members_named s struct) (members_of s.structs struct) name ≡ None =
    ap (λ ns. member_from 0 ns (members_of s.structs struct) name) (sym named) ∙ ap (λ ws. member_from 0 names ws name) (sym are) ∙ sym none in
    rw e refl

-- the cell of a member that is there
pub member_cell : (s : Scope) (struct k offset : ℕ) (base place : core.Place) (name : ℕ) (site : Site) (span : Span) (names : List ℕ) (ms : List code.Member) (m : code.Member) (t : CType) → names ≡ members_named s struct → map member ms ≡ members_of s.structs struct
    → member_found_at 0 ms (Some k) ≡ member_from 0 names (map member ms) name → slice_get ms k ≡ Some m
    → list_all (λ d. list_all (λ w. is_scalar w.ctype) d.members) s.structs ≡ true → t ≡ ctype m.ctype → offset ≡ slice_index (map (λ c. c.offset) (cells_of s.structs (Struct struct))) k → place ≡ member_place base offset site
    → member_at s struct base name site span ≡ Passes (Value t false (core.Load t place None) (For (OfCell place)))
member_cell s struct k offset base place name site span names ms m t named are there at all same offset_is place_is =
    let first : 0 + k ≡ k = omega arith in
    let e : member_from 0 (members_named s struct) (members_of s.structs struct) name ≡ Some (k, ctype m.ctype) =
    ap (λ ns. member_from 0 ns (members_of s.structs struct) name) (sym named) ∙ ap (λ ws. member_from 0 names ws name) (sym are) ∙ sym there
    ∙ ap (option_map (λ w. (0 + k, ctype w.ctype))) at ∙ ap (λ j. Some (j, ctype m.ctype)) first in
    let scalar : is_scalar t ≡ true = ap is_scalar same ∙ scalar_at ms k m (ap (list_all (λ w. is_scalar w.ctype)) are ∙ all_scalar_members s.structs struct all) at in
    let here : member_place base (offset_among (cells_of s.structs (Struct struct)) k) site ≡ place = ap (λ o. member_place base o site) (offset_at (cells_of s.structs (Struct struct)) k ∙ sym offset_is) ∙ sym place_is in
    rw (e, ← same, here) (ap Passes (scalar_cell t place scalar))
