-- Structs, by their steps.
use Rattle.std.proofs.Common.{◌≡◌, ℕ, ◌+◌, ◌<◌, arith, Bool, true, false, not, ◌&&◌, nat_lt, List, [], ◌∷◌, ◌++◌, length, refl, ap, sym, ◌∙◌}
use Rattle.std.specs.List.{list_all}
use Rattle.std.proofs.lemmas.List.{length-append}
use Rattle.ckc_text.specs.declared.place.Span.{Span}
use Rattle.ckc_text.specs.declared.code.Code.TheVariants.{E08, E27}
use Rattle.ckc_tree.specs.Items as i
use Rattle.pointer_modes.specs.Types as types
use Rattle.pointer_modes.specs.Types.{CType, Int, Char, Struct, Pointer, Structure}
use Rattle.pointer_modes.specs.Declaring.{with_members}
use Rattle.region_typing_rules.specs.Verdicts.{Verdict, Passes, passing, needs}
use Rattle.region_typing_rules.specs.Scopes.{Scope}
use Rattle.region_typing_rules.specs.Types.{is_scalar}
use Rattle.region_typing_rules.specs.Items.{Walk, is_struct, member_types, scalar_members, with_struct, member_names, in_checked_region, structure}
use Rattle.region_typing_scope.specs.Filling.{struct_added}
use Rattle.region_typing_statements.proofs.Verdicts.{same_behind}

scalars_first : {A : Type 0} (ms : List types.Member) (next : Verdict A) → scalar_members ms next ≡ passing (scalar_members {A = Unit {0}} ms (Passes tt)) (λ u. next)
scalars_first [] next = refl
scalars_first (m ∷ ms) next = by (not (is_struct m.ctype)) (scalars_first ms next)
  where
    by : (b : Bool) → scalar_members ms next ≡ passing (scalar_members {A = Unit {0}} ms (Passes tt)) (λ u. next) → needs b E27 m.span (scalar_members ms next) ≡ passing (needs b E27 m.span (scalar_members {A = Unit {0}} ms (Passes tt))) (λ u. next)
    by true rest = rest
    by false rest = refl

-- a struct by its number, its members, and their types
pub structure_parts : (w : Walk) (d : i.Structure) → structure w d ≡ passing {A = ℕ × Scope} (struct_added d.tag.number (member_names d.members) d.tainted d.span w.scope) (λ p. passing (member_types p.1 d.members []) (λ ms. passing (scalar_members {A = Unit {0}} ms (Passes tt)) (λ u. in_checked_region w.scope d.span (record w { scope = with_struct d.tag.number (member_names d.members) d.tainted ms w.scope }))))
structure_parts w d = by (nat_lt (length w.scope.structs) 4096)
  where
    by : (b : Bool) → needs b E08 d.span (passing (member_types (with_struct d.tag.number (member_names d.members) d.tainted [] w.scope) d.members []) (λ ms. scalar_members ms (in_checked_region w.scope d.span (record w { scope = with_struct d.tag.number (member_names d.members) d.tainted ms w.scope }))))
        ≡ passing {A = ℕ × Scope} (needs b E08 d.span (Passes (length w.scope.structs, with_struct d.tag.number (member_names d.members) d.tainted [] w.scope))) (λ p. passing (member_types p.1 d.members []) (λ ms. passing (scalar_members {A = Unit {0}} ms (Passes tt)) (λ u. in_checked_region w.scope d.span (record w { scope = with_struct d.tag.number (member_names d.members) d.tainted ms w.scope }))))
    by true = same_behind (member_types (with_struct d.tag.number (member_names d.members) d.tainted [] w.scope) d.members []) _ _ (λ ms. scalars_first ms (in_checked_region w.scope d.span (record w { scope = with_struct d.tag.number (member_names d.members) d.tainted ms w.scope })))
    by false = refl

-- members that no struct is among are scalars
scalar_type : (t : CType) → not (is_struct t) ≡ true → is_scalar t ≡ true
scalar_type Int plain = refl
scalar_type Char plain = refl
scalar_type (Struct number) plain = absurd (cc)
scalar_type (Pointer mode kind target) plain = refl

pub all_scalar : (ms : List types.Member) → scalar_members {A = Unit {0}} ms (Passes tt) ≡ Passes tt → list_all (λ (m : types.Member). is_scalar m.ctype) ms ≡ true
all_scalar [] passes = refl
all_scalar (m ∷ ms) passes = by (not (is_struct m.ctype)) refl (λ rest. all_scalar ms rest)
  where
    by : (b : Bool) → not (is_struct m.ctype) ≡ b → (scalar_members {A = Unit {0}} ms (Passes tt) ≡ Passes tt → list_all (λ (n : types.Member). is_scalar n.ctype) ms ≡ true) → (is_scalar m.ctype && list_all (λ (n : types.Member). is_scalar n.ctype) ms) ≡ true
    by true e more = let rest = rw e at passes in rw (scalar_type m.ctype e, more rest) refl
    by false e more = let broken = rw e at passes in absurd (cc)

-- the last struct is given its members
pub given_last : (ss : List Structure) (tainted : Bool) (ms : List types.Member) → with_members (ss ++ record { tainted = tainted; members = [] } ∷ []) (length ss) ms ≡ ss ++ record { tainted = tainted; members = ms } ∷ []
given_last [] tainted ms = refl
given_last (s ∷ ss) tainted ms = ap (λ ts. s ∷ ts) (given_last ss tainted ms)

-- what a declared struct leaves known
pub record IsAdded (tag : ℕ) (names : List ℕ) (tainted : Bool) (g : Scope) (n : ℕ) (h : Scope) : Type 0 where
  pub number : n ≡ length g.structs
  pub known : h ≡ with_struct tag names tainted [] g

added_so : (b : Bool) (tag : ℕ) (names : List ℕ) (tainted : Bool) (span : Span) (g : Scope) (n : ℕ) (h : Scope) → needs {A = ℕ × Scope} b E08 span (Passes (length g.structs, with_struct tag names tainted [] g)) ≡ Passes (n, h) → IsAdded tag names tainted g n h
added_so true tag names tainted span g n h is =
    let same : (length g.structs, with_struct tag names tainted [] g) ≡ (n, h) = cc in
    record { number = sym (ap (λ (p : ℕ × Scope). p.0) same); known = sym (ap (λ (p : ℕ × Scope). p.1) same) }
added_so false tag names tainted span g n h is = absurd (cc)

pub struct_is_added : (tag : ℕ) (names : List ℕ) (tainted : Bool) (span : Span) (g : Scope) (n : ℕ) (h : Scope) → struct_added tag names tainted span g ≡ Passes (n, h) → IsAdded tag names tainted g n h
struct_is_added tag names tainted span g n h is = added_so (nat_lt (length g.structs) 4096) tag names tainted span g n h is

pub within_structs : (tag : ℕ) (names : List ℕ) (tainted : Bool) (g : Scope) (n : ℕ) (h : Scope) → IsAdded tag names tainted g n h → n < length h.structs
within_structs tag names tainted g n h added =
    let long : length h.structs ≡ length g.structs + 1 = ap (λ (k : Scope). length k.structs) added.known ∙ length-append g.structs (record { tainted = tainted; members = [] } ∷ []) in
    omega (arith, added.number)

pub struct_filled : (tag : ℕ) (names : List ℕ) (tainted : Bool) (ms : List types.Member) (g : Scope) (n : ℕ) (h k : Scope) → IsAdded tag names tainted g n h → k ≡ record h { structs = with_members h.structs n ms } → with_struct tag names tainted ms g ≡ k
struct_filled tag names tainted ms g n h k added known =
    sym (known
    ∙ ap (λ (j : Scope). record j { structs = with_members j.structs n ms }) added.known
    ∙ ap (λ m. record (with_struct tag names tainted [] g) { structs = with_members (g.structs ++ record { tainted = tainted; members = [] } ∷ []) m ms }) added.number
    ∙ ap (λ ss. record (with_struct tag names tainted [] g) { structs = ss }) (given_last g.structs tainted ms))
