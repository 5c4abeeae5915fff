-- The bounds at nodes: their constants are those of terms, and they name locals.
use Rattle.std.proofs.Common.{◌<◌, ◌^◌, ◌≡◌, ℕ, ℤ, pos, ◌+ℤ◌, Bool, true, false, cond, List, Option, Some, None, is_some, refl, sym, subst, arith, ◌∙◌}
use Rattle.std.specs.Prelude.{slice_get, neg_ℤ}
use Rattle.std.specs.Int.Signed.{le_z}
use Rattle.std.proofs.lemmas.Bool.{le-leb, and_from}
use Rattle.bounds_exprs.specs.declared.term.Bounds.{Bounds}
use Rattle.bounds_exprs.specs.declared.term.Term.{Term}
use Rattle.bounds_exprs.specs.Changes.{between, moved_by}
use Rattle.bounds_exprs.specs.Terms.{is_within, term_limit, within_limit}
use Rattle.subsumption.specs.Graphs.{IsWithin}
use Rattle.pointer_modes.specs.declared.ctype.Mode.{Mode}
use Rattle.pointer_modes.specs.declared.ctype.Mode.TheVariants as modes
use Rattle.pointer_modes.specs.declared.ctype.Kind.{Kind}
use Rattle.pointer_modes.specs.declared.ctype.Kind.TheVariants as kinds
use Rattle.pointer_modes.specs.Types.{CType, Int, Char, Struct, Pointer, Structure}
use Rattle.bounds_flow_meaning.specs.Holding.{AreInts, IsInt}
use Rattle.bounds_flow_meaning.specs.Sums.{counted}
use Rattle.bounds_flow_meaning.proofs.Validity.{int_to}
use Rattle.ckc_core.specs.declared.program.Direction.{Direction}
use Rattle.ckc_core.specs.declared.program.PointerBounds.{PointerBounds}
use Rattle.ckc_core.specs.declared.program.Site.{Site}
use Rattle.ckc_core.specs.declared.program.Terminator.{Terminator}
use Rattle.ckc_core.specs.Core as core
use Rattle.ckc_core.specs.Meaning.{bounds_of}
use Rattle.region_typing_rules.specs.Operands.{bounds_at}
use Rattle.region_typing_rules.specs.KnownIsSo.{AreLimited}
use Rattle.region_typing_rules.specs.Readings.{against, from_base, based_bounds, term}
use Rattle.region_typing_rules.specs.Scopes.{Scope}
use Rattle.region_typing_rules.specs.Typed as typed
use Rattle.region_typing_rules.specs.Typed.{Frame, AreConstant, AreNamed, AreNewBounds, IsBaseOf, IsCountBeforeZero, HasBounds, HasCallBounds, HasCellBounds, AreSumBounds, HasType, terms_of}
use Rattle.region_typing_rules.specs.Verdicts.{picked}
use Rattle.region_typing_rules.proofs.Terms.{term_formed}

-- the constants of both ends are those of terms, and locals are named
pub record AreReadable (types : List CType) (b : Bounds) : Type 0 where
  pub limited : AreLimited b
  pub named : AreNamed types b

abbrev pub AreRead : List CType → Option PointerBounds → Type 0
AreRead types None = Unit {0}
AreRead types (Some p) = AreReadable types p.bounds

-- between constants, where no local is the base
constant_readable : (types : List CType) (lo hi : ℤ) → is_within term_limit lo ≡ true → is_within term_limit hi ≡ true → AreReadable types (record { base = None; lo = record { var = None; plus = lo }; hi = record { var = None; plus = hi } })
constant_readable types lo hi low high = record { limited = record { low = low; high = high }; named = record { ints = record { lo = tt; hi = tt }; base = λ q from. absurd (cc) } }

-- the bounds at the node of a value of a type are those of one element
read_at_type : (types : List CType) (structs : List Structure) (t : CType) (site : Site) → AreRead types (bounds_at structs t site)
read_at_type types structs Int site = tt
read_at_type types structs Char site = tt
read_at_type types structs (Struct n) site = tt
read_at_type types structs (Pointer modes.Checked kinds.One t) site = constant_readable types (pos 0) (pos 1) refl refl
read_at_type types structs (Pointer modes.Checked kinds.Array t) site = tt
read_at_type types structs (Pointer modes.Checked kinds.Nt t) site = tt
read_at_type types structs (Pointer modes.Tainted kinds.One t) site = tt
read_at_type types structs (Pointer modes.Tainted kinds.Array t) site = tt
read_at_type types structs (Pointer modes.Tainted kinds.Nt t) site = tt
read_at_type types structs (Pointer modes.Raw kinds.One t) site = tt
read_at_type types structs (Pointer modes.Raw kinds.Array t) site = tt
read_at_type types structs (Pointer modes.Raw kinds.Nt t) site = tt

pub noted_read : (types : List CType) (structs : List Structure) (t : CType) (b : Option PointerBounds) → HasBounds structs t b → AreRead types b
noted_read types structs t b h = subst (AreRead types) (sym h.1) (read_at_type types structs t h.0)

-- a number of elements of an array
few_within : (n : ℕ) → n < 2 ^ 31 → is_within term_limit (pos n) ≡ true
few_within n le = let high : le_z (pos n) (pos term_limit) ≡ true = le-leb n term_limit (omega (arith, le)) in rw high refl

-- a term that the limit allows
pub record IsLimited (name : Option ℕ) (t : Term) : Type 0 where
  pub var : t.var ≡ name
  pub plus : is_within term_limit t.plus ≡ true

pub limited_there : (var : Option ℕ) (plus : ℤ) (t : Term) → within_limit var plus ≡ Some t → IsLimited var t
limited_there var plus t h = by (is_within term_limit plus) refl h
  where
    by : (b : Bool) → is_within term_limit plus ≡ b → cond b (Some (record { var = var; plus = plus })) None ≡ Some t → IsLimited var t
    by true e h = let same : record { var = var; plus = plus } ≡ t = cc in subst (IsLimited var) same (record { var = refl; plus = e })
    by false e h = absurd (cc)

pub between_readable : (types : List CType) (b q : Bounds) (lo hi : Option Term) → AreNamed types b → ((t : Term) → lo ≡ Some t → IsLimited b.lo.var t) → ((t : Term) → hi ≡ Some t → IsLimited b.hi.var t)
    → between b.base lo hi ≡ Some q → AreReadable types q
between_readable types b q None hi named low high h = absurd (cc)
between_readable types b q (Some lo) None named low high h = absurd (cc)
between_readable types b q (Some lo) (Some hi) named low high h =
    let same : record { base = b.base; lo = lo; hi = hi } ≡ q = cc in
    let at = low lo refl in
    let to = high hi refl in
    subst (AreReadable types) same
    (record { limited = record { low = at.plus; high = to.plus }; named = record { ints = record { lo = subst (IsInt types) (sym at.var) named.ints.lo; hi = subst (IsInt types) (sym to.var) named.ints.hi }; base = named.base } })

pub moved_readable : (types : List CType) (c : ℤ) (b q : Bounds) → AreNamed types b → moved_by c b ≡ Some q → AreReadable types q
moved_readable types c b q named h =
    between_readable types b q (within_limit b.lo.var (b.lo.plus +ℤ c)) (within_limit b.hi.var (b.hi.plus +ℤ c)) named
    (limited_there b.lo.var (b.lo.plus +ℤ c)) (limited_there b.hi.var (b.hi.plus +ℤ c)) h

-- a term of an expression names a local, and has the constant of a term
term_within : (z : ℤ) → IsWithin term_limit z → is_within term_limit z ≡ true
term_within z h = and_from (le_z (neg_ℤ (pos term_limit)) z) (le_z z (pos term_limit)) (int_to (neg_ℤ (pos term_limit)) z h.low) (int_to z (pos term_limit) h.high)

-- so many elements from a pointer on, as the term of a number tells them
counted_readable : (types : List CType) (count : core.Expression) (n : Term) → term types count ≡ Some n → AreReadable types (counted n)
counted_readable types count n is =
    let formed = term_formed types count n is in
    record { limited = record { low = refl; high = term_within n.plus formed.small }; named = record { ints = record { lo = tt; hi = formed.int }; base = λ q from. absurd (cc) } }

-- the elements before the zero of new memory
before_readable : (types : List CType) (terminator : Terminator) (count : core.Expression) (n : Term) → IsCountBeforeZero types terminator count n → AreReadable types (counted n)
before_readable types _ count n (typed.all_of is) = counted_readable types count n is
before_readable types _ count n (typed.all_before is) = counted_readable types count n is
before_readable types _ _ _ (typed.all_but_last {n = n} few) = constant_readable types (pos 0) (pos n) refl (few_within n few)

-- the bounds of new memory
new_read : (structs : List Structure) (types : List CType) (terminator : Terminator) (count : core.Expression) (t : CType) (b : Option PointerBounds)
    → AreNewBounds structs types terminator count t b → AreRead types b
new_read structs types terminator count t b typed.uncounted = tt
new_read structs types terminator count t b (typed.by_term {n = n} is) = before_readable types terminator count n is

-- the bounds of a local, counted from it
-- a local pointer
abbrev IsPointerAt : List CType → ℕ → Type 0
IsPointerAt types k = (m : Mode) × (d : Kind) × (t : CType) × (slice_get types k ≡ Some (Pointer m d t))

own_readable : (types : List CType) (k : ℕ) (b : Bounds) → IsPointerAt types k → AreReadable types b → AreReadable types (from_base k b)
own_readable types k b own h = by (is_some b.base)
  where
    by : (c : Bool) → AreReadable types (picked c b (record b { base = Some k }))
    by true = h
    by false = record { limited = record { low = h.limited.low; high = h.limited.high }; named = record { ints = record { lo = h.named.ints.lo; hi = h.named.ints.hi }; base = λ q from. let same : k ≡ q = cc in subst (IsPointerAt types) same own } }

local_readable : (types : List CType) (k : ℕ) (b : Option PointerBounds) (d : Bounds) → ((p : PointerBounds) → b ≡ Some p → IsPointerAt types k) → AreRead types b → based_bounds (core.Local k b) ≡ Some d → AreReadable types d
local_readable types k None d own h based = absurd (cc)
local_readable types k (Some p) d own h based = let same : from_base k p.bounds ≡ d = cc in subst (AreReadable types) same (own_readable types k p.bounds (own p refl) h)

-- only a pointer has bounds by its type
pointer_noted : (types : List CType) (structs : List Structure) (k : ℕ) (t : CType) (site : Site) (p : PointerBounds) → slice_get types k ≡ Some t → bounds_at structs t site ≡ Some p → IsPointerAt types k
pointer_noted types structs k Int site p found h = absurd (cc)
pointer_noted types structs k Char site p found h = absurd (cc)
pointer_noted types structs k (Struct n) site p found h = absurd (cc)
pointer_noted types structs k (Pointer m d t) site p found h = (m, d, t, found)

-- the bounds of a cast, which has beside its own those that count from a base
cast_based : (b d : Bounds) → picked (is_some b.base) (Some b) None ≡ Some d → b ≡ d
cast_based b d based = by b.base based
  where
    by : (o : Option ℕ) → picked (is_some o) (Some b) None ≡ Some d → b ≡ d
    by None e = absurd (cc)
    by (Some k) e = cc

pub cast_readable : (types : List CType) {e : core.Expression} (q : PointerBounds) → AreLimited q.bounds → AreInts types q.bounds → ((k : ℕ) → q.bounds.base ≡ Some k → IsBaseOf types e k) → AreReadable types q.bounds
cast_readable types q limited ints bases =
    record { limited = limited; named = record { ints = ints; base = λ k from. let at = bases k from in (at.mode, at.kind, at.target, at.pointer) } }

-- the bounds that a pointer has beside its own are those of a local pointer, or of a cast
pub beside_readable : {g : Frame} {locals : List CType} {here : Scope} {t : CType} (e : core.Expression) (d : Bounds) → HasType g locals here e t → based_bounds e ≡ Some d → AreReadable here.locals d
beside_readable _ d (typed.word ok) based = absurd (cc)
beside_readable _ d (typed.byte ok) based = absurd (cc)
beside_readable _ d typed.null based = absurd (cc)
beside_readable {g = g} {here = here} {t = t} (core.Local k b) d (typed.local found told) based = local_readable here.locals k b d (λ p is. pointer_noted here.locals g.structs k t told.0 p found (sym told.1 ∙ is)) (noted_read here.locals g.structs t b told) based
beside_readable {here = here} _ d (typed.bounded {k = k} {mode = m} {kind = kind} {t = t} {p = p} found size limited named force) based =
    local_readable here.locals k (Some p) d (λ q is. (m, kind, t, found)) (record { limited = limited; named = named }) based
beside_readable _ d (typed.widened e) based = beside_readable _ d e based
beside_readable _ d (typed.single e elements leads) based = beside_readable _ d e based
beside_readable _ d (typed.row e bounds) based = beside_readable _ d e based
beside_readable _ d (typed.ended_row e) based = beside_readable _ d e based
beside_readable _ d (typed.load scalar place told) based = absurd (cc)
beside_readable _ d (typed.bounded_object is size) based = absurd (cc)
beside_readable _ d (typed.address_of place told) based = absurd (cc)
beside_readable _ d (typed.array found some few rows bounds size) based = absurd (cc)
beside_readable _ d (typed.ended_array found few row bounds size) based = absurd (cc)
beside_readable _ d (typed.sum counts pointer elements number bounds) based = beside_readable _ d pointer based
beside_readable _ d (typed.negate e) based = absurd (cc)
beside_readable _ d (typed.complement e) based = absurd (cc)
beside_readable _ d (typed.inverse e) based = absurd (cc)
beside_readable _ d (typed.arithmetic a b) based = absurd (cc)
beside_readable _ d (typed.compare a b) based = absurd (cc)
beside_readable _ d (typed.same a b) based = absurd (cc)
beside_readable _ d (typed.order a from_a b from_b) based = absurd (cc)
beside_readable _ d (typed.both a b) based = absurd (cc)
beside_readable _ d (typed.either a b) based = absurd (cc)
beside_readable _ d (typed.low_byte e) based = absurd (cc)
beside_readable _ d (typed.call callee arguments asked told) based = absurd (cc)
beside_readable _ d typed.next_input based = absurd (cc)
beside_readable _ d (typed.allocate count fresh bounds) based = absurd (cc)
beside_readable _ d (typed.allocate_ended count ends fresh bounds) based = absurd (cc)
beside_readable _ d (typed.byte_count e elements) based = absurd (cc)
beside_readable {here = here} _ d (typed.cast {q = q} e elements counts within size limited ints bases) based =
    subst (AreReadable here.locals) (cast_based q.bounds d based) (cast_readable here.locals q limited ints bases)
beside_readable _ d (typed.cast_single {b = b} e elements within told) based = absurd (cc)
beside_readable _ d (typed.cast_unbounded e elements counts) based = absurd (cc)

sum_read : (types : List CType) (e : core.Expression) (direction : Direction) (i : core.Expression) (p : PointerBounds) (b : Option PointerBounds)
    → AreReadable types p.bounds → ((d : Bounds) → based_bounds e ≡ Some d → AreReadable types d) → AreSumBounds types e direction i p b → AreRead types b
sum_read types e direction i p b h beside typed.unknown = tt
sum_read types e direction i p b h beside (typed.based base) = h
sum_read types e direction i p b h beside (typed.beside {d = d} based) = beside d based
sum_read types e direction i p b h beside (typed.moved {c = c} {q = q} none is moved) = moved_readable types (against direction c) p.bounds q h.named moved

-- the bounds of a value in a cell
cell_read : (types : List CType) (structs : List Structure) (t : CType) (b : Option PointerBounds) → HasCellBounds structs t b → AreRead types b
cell_read types structs t _ typed.unbounded = tt
cell_read types structs t b (typed.by_type told) = noted_read types structs t b told
cell_read types structs _ _ typed.at_end = constant_readable types (pos 0) (pos 0) refl refl

-- the bounds of a call are those of its type, or those of its result
call_read : (structs : List Structure) (locals : List CType) (terms : List (Option Term)) (t : CType) (declared : Option Bounds) (b : Option PointerBounds) → HasCallBounds structs locals terms t declared b → AreRead locals b
call_read structs locals terms t declared b (typed.by_type told) = noted_read locals structs t b told
call_read structs locals terms _ _ _ (typed.by_result at counts size some limited none ints) =
    record { limited = limited; named = record { ints = ints; base = λ q from. absurd (cc) } }

-- the bounds that are declared for a file-level pointer
object_readable : (types : List CType) {b : Bounds} → AreLimited b → AreConstant b → AreReadable types b
object_readable types limited constant = record {
  limited = limited;
  named = record {
    ints = record { lo = subst (IsInt types) (sym constant.lo) tt; hi = subst (IsInt types) (sym constant.hi) tt };
    base = λ q from. absurd (let none : None ≡ Some q = sym constant.base ∙ from in cc);
  };
}

-- the bounds at a node of an expression
pub bounds_read : {g : Frame} {locals : List CType} {here : Scope} {t : CType} (e : core.Expression) → HasType g locals here e t → AreRead here.locals (bounds_of e)
bounds_read _ (typed.word ok) = tt
bounds_read _ (typed.byte ok) = tt
bounds_read _ typed.null = tt
bounds_read {g = g} {here = here} {t = t} (core.Local k b) (typed.local found told) = noted_read here.locals g.structs t b told
bounds_read _ (typed.bounded found size limited named force) = record { limited = limited; named = named }
bounds_read _ (typed.widened e) = bounds_read _ e
bounds_read _ (typed.single e elements leads) = bounds_read _ e
bounds_read _ (typed.row e bounds) = bounds_read _ e
bounds_read _ (typed.ended_row e) = bounds_read _ e
bounds_read {g = g} {here = here} {t = t} (core.Load type p b) (typed.load scalar place told) = cell_read here.locals g.structs t b told
bounds_read {here = here} _ (typed.bounded_object is size) = object_readable here.locals is.limited is.constant
bounds_read {g = g} {here = here} (core.AddressOf p b) (typed.address_of {mode = m} {t = t} place told) = noted_read here.locals g.structs (Pointer m kinds.One t) b told
bounds_read {here = here} _ (typed.array {n = n} {p = p} found some few rows bounds size) =
    subst (AreReadable here.locals) (sym bounds) (constant_readable here.locals (pos 0) (pos n) refl (few_within n (omega (arith, few))))
bounds_read {here = here} _ (typed.ended_array {n = n} {p = p} found few row bounds size) =
    subst (AreReadable here.locals) (sym bounds) (constant_readable here.locals (pos 0) (pos n) refl (few_within n (omega (arith, few))))
bounds_read {here = here} (core.Sum e direction i site b) (typed.sum {p = p} counts pointer elements number bounds) =
    sum_read here.locals e direction i p b (subst (AreRead here.locals) elements.bounds (bounds_read e pointer)) (λ d based. beside_readable e d pointer based) bounds
bounds_read _ (typed.negate e) = tt
bounds_read _ (typed.complement e) = tt
bounds_read _ (typed.inverse e) = tt
bounds_read _ (typed.arithmetic a b) = tt
bounds_read _ (typed.compare a b) = tt
bounds_read _ (typed.same a b) = tt
bounds_read _ (typed.order a from_a b from_b) = tt
bounds_read _ (typed.both a b) = tt
bounds_read _ (typed.either a b) = tt
bounds_read _ (typed.low_byte e) = tt
bounds_read {g = g} {here = here} {t = t} (core.Call callee arguments b) (typed.call {ts = ts} {r = r} there listed asked told) = call_read g.structs here.locals (terms_of here.locals arguments ts) t r b told
bounds_read _ typed.next_input = tt
bounds_read {g = g} {here = here} (core.Allocate count element terminator b) (typed.allocate {t = t} number fresh bounds) = new_read g.structs here.locals terminator count t b bounds
bounds_read {g = g} {here = here} (core.Allocate count element terminator b) (typed.allocate_ended {t = t} number ends fresh bounds) = new_read g.structs here.locals terminator count t b bounds
bounds_read _ (typed.byte_count e elements) = tt
bounds_read {here = here} _ (typed.cast {q = q} e elements counts within size limited ints bases) = cast_readable here.locals q limited ints bases
bounds_read {g = g} {here = here} (core.Cast e b) (typed.cast_single {t = t} pointer elements within told) = noted_read here.locals g.structs (Pointer modes.Checked kinds.One t) b told
bounds_read _ (typed.cast_unbounded e elements counts) = tt
