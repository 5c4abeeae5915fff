-- Pointers that are valid with bounds.
use Rattle.std.proofs.Common.{ℕ, zero, suc, ◌-◌, ◌*◌, ◌≤◌, ◌≡◌, ℤ, pos, negsuc, neg_ℤ, ◌+ℤ◌, ◌*ℤ◌, ◌≤ℤ◌, Bool, true, false, cond, ◌==◌, Option, None, Some, List, [], ◌∷◌, refl, sym, ap, ◌∙◌, subst, arith, append-nil, ◌⊎◌, inl, inr}
use Rattle.std.specs.Prelude.{slice_get, ◌&&◌, ◌||◌, nat_le, int_le, int_lt, sum}
use Rattle.std.proofs.lemmas.Int.{ints}
use Rattle.std.proofs.lemmas.Option.{same_Some, cond_some}
use Rattle.std.proofs.lemmas.Bool.{and_from}
use Rattle.std.proofs.lemmas.Bool.Decides.{nat_tests}
use Rattle.bounds_exprs.specs.declared.term.Term.{Term}
use Rattle.bounds_exprs.specs.declared.term.Bounds.{Bounds}
use Rattle.bounds_exprs.specs.Terms.{is_var, within_limit}
use Rattle.bounds_exprs.specs.Changes.{between, is_named, lowered, moved_back, moved_by}
use Rattle.subsumption.specs.Facts.{TermsHold, term_value as value}
use Rattle.pointer_modes.specs.Types.{CType, Int, Char, Struct, Pointer, Structure}
use Rattle.ckc_core.specs.declared.program.Site.{Site}
use Rattle.ckc_core.specs.declared.program.PointerBounds.{PointerBounds}
use Rattle.ckc_core.specs.States.{Value, Number, Null, At, Block, Local, State, Shape, Grows, shape, shapes}
use Rattle.ckc_core.specs.Bounds.{Ends, term_value, base_byte, ends_from, ends_at, block_size, lie_within, room_of, is_valid}
use Rattle.ckc_core.specs.Pointers.{lies_below, lies_up_to}
use Rattle.pointer_modes.specs.declared.ctype.Kind.TheVariants as kinds
use Rattle.bounds_flow_meaning.specs.Holding.{AreInts, HaveTypes, IsValid, at_node, is_ended, numbers_in, target_size, types_of}
use Rattle.bounds_flow_meaning.specs.Laws.{IsMoved, IsPointer, with_local}
use Rattle.bounds_flow_meaning.specs.Rows.{IsEndedPlace, LeadsOn}
use Rattle.bounds_flow_meaning.proofs.Numbers.{IsNumber, found_same, int_term, limited_value, lowered_value, number_base, other_base, other_term, pointer_term, replaced, same_number, term_number, term_raised}
use Rattle.bounds_flow_meaning.proofs.Rows.{leads_grown, still_there}

-- ---- tests

pub both_true : (a b : Bool) → (a && b) ≡ true → (a ≡ true) × (b ≡ true)
both_true true b h = (refl, h)
both_true false b h = absurd (cc)

pub neither : (a b : Bool) → (a || b) ≡ false → (a ≡ false) × (b ≡ false)
neither true b h = absurd (cc)
neither false b h = (refl, h)

pub int_from : (a b : ℤ) → int_le a b ≡ true → a ≤ℤ b
int_from a b h = grind (arith, ints)

pub int_to : (a b : ℤ) → a ≤ℤ b → int_le a b ≡ true
int_to a b h = grind (arith, ints)

less_still : (a b c : ℤ) → int_lt a b ≡ true → b ≤ℤ c → int_lt a c ≡ true
less_still a b c h le = grind (arith, ints)

pub is_this : (x : ℕ) (o : Option ℕ) → is_var x o ≡ true → o ≡ Some x
is_this x None h = absurd (cc)
is_this x (Some y) h = ap Some (same_number y x h)

-- ---- sums and products

pub nat_more : (a b n : ℕ) → a ≤ b → a * n ≤ b * n
nat_more a b n h = grind arith

times_le : (a b : ℤ) (n : ℕ) → a ≤ℤ b → (a *ℤ pos n) ≤ℤ (b *ℤ pos n)
times_le (pos a) (pos b) n h = (let k : a ≤ b = omega (arith, ints, h) in let m = nat_more a b n k in omega (arith, ints, m))
times_le (pos a) (negsuc b) n h = absurd (omega (arith, ints, h))
times_le (negsuc a) (pos b) n h = omega (arith, ints)
times_le (negsuc a) (negsuc b) n h = (let k : b ≤ a = omega (arith, ints, h) in let m = nat_more b a n k in omega (arith, ints, m))

times_zero : (z : ℤ) → z *ℤ pos 0 ≡ pos 0
times_zero (pos a) = omega (arith, ints)
times_zero (negsuc a) = omega (arith, ints)

times_suc : (z : ℤ) (n : ℕ) → z *ℤ pos (suc n) ≡ (z *ℤ pos n) +ℤ z
times_suc (pos a) n = omega (arith, ints)
times_suc (negsuc a) n = omega (arith, ints)

times_apart : (a c : ℤ) (n : ℕ) → ((a +ℤ neg_ℤ c) *ℤ pos n) +ℤ (c *ℤ pos n) ≡ a *ℤ pos n
times_apart a c zero = (let p = times_zero (a +ℤ neg_ℤ c) in let q = times_zero c in let r = times_zero a in omega (arith, ints, p, q, r))
times_apart a c (suc n) =
    let p = times_suc (a +ℤ neg_ℤ c) n in
    let q = times_suc c n in
    let r = times_suc a n in
    let h = times_apart a c n in omega (arith, ints, p, q, r, h)

pub times_plus : (a c : ℤ) (n : ℕ) → (a +ℤ c) *ℤ pos n ≡ (a *ℤ pos n) +ℤ (c *ℤ pos n)
times_plus a c zero = (let p = times_zero (a +ℤ c) in let q = times_zero c in let r = times_zero a in omega (arith, ints, p, q, r))
times_plus a c (suc n) =
    let p = times_suc (a +ℤ c) n in
    let q = times_suc c n in
    let r = times_suc a n in
    let h = times_plus a c n in omega (arith, ints, p, q, r, h)

-- ---- ends

-- the parts of ends that there are
pub record AreEnds (size : ℕ) (base : Option ℕ) (lo hi : Option ℤ) (e : Ends) : Type 0 where
  pub byte : ℕ
  pub low : ℤ
  pub high : ℤ
  pub at_base : base ≡ Some byte
  pub at_low : lo ≡ Some low
  pub at_high : hi ≡ Some high
  pub are : record { low = pos byte +ℤ (low *ℤ pos size); high = pos byte +ℤ (high *ℤ pos size); size = size } ≡ e

pub ends_parts : (size : ℕ) (base : Option ℕ) (lo hi : Option ℤ) (e : Ends) → ends_from size base lo hi ≡ Some e → AreEnds size base lo hi e
ends_parts size None lo hi e h = absurd (cc)
ends_parts size (Some byte) None hi e h = absurd (cc)
ends_parts size (Some byte) (Some low) None e h = absurd (cc)
ends_parts size (Some byte) (Some low) (Some high) e h = record {
  byte = byte;
  low = low;
  high = high;
  at_base = refl;
  at_low = refl;
  at_high = refl;
  are = same_Some (record { low = pos byte +ℤ (low *ℤ pos size); high = pos byte +ℤ (high *ℤ pos size); size = size }) e h;
}

pub ends_made : (size byte : ℕ) (low high : ℤ) (base : Option ℕ) (lo hi : Option ℤ) → base ≡ Some byte → lo ≡ Some low → hi ≡ Some high
    → ends_from size base lo hi ≡ Some (record { low = pos byte +ℤ (low *ℤ pos size); high = pos byte +ℤ (high *ℤ pos size); size = size })
ends_made size byte low high base lo hi b l h = ap (λ base. ends_from size base lo hi) b ∙ (ap (λ lo. ends_from size (Some byte) lo hi) l ∙ ap (ends_from size (Some byte) (Some low)) h)

pub ends_same : (size : ℕ) (base base' : Option ℕ) (lo lo' hi hi' : Option ℤ) → base' ≡ base → lo' ≡ lo → hi' ≡ hi → ends_from size base' lo' hi' ≡ ends_from size base lo hi
ends_same size base base' lo lo' hi hi' b l h = ap (λ base. ends_from size base lo' hi') b ∙ (ap (λ lo. ends_from size base lo hi') l ∙ ap (ends_from size base lo) h)

-- ends as before, at any node
abbrev pub StayEnds : ℕ → Bounds → Bounds → List Local → List Local → Type 0
StayEnds size b c before after = (site : Site) (block byte : ℕ) (e : Ends) → ends_at (at_node b size false site) before block byte ≡ Some e → ends_at (at_node c size false site) after block byte ≡ Some e

pub stay_ends : (size : ℕ) (b c : Bounds) (before after : List Local) → ((block byte : ℕ) → base_byte c.base after block byte ≡ base_byte b.base before block byte)
    → term_value c.lo after ≡ term_value b.lo before → term_value c.hi after ≡ term_value b.hi before → StayEnds size b c before after
stay_ends size b c before after base lo hi site block byte e h =
    ends_same size (base_byte b.base before block byte) (base_byte c.base after block byte) (term_value b.lo before) (term_value c.lo after) (term_value b.hi before) (term_value c.hi after) (base block byte) lo hi ∙ h

-- ---- validity

-- a pointer to a place that is valid
pub record IsValidAt (p : PointerBounds) (block byte : ℕ) (s : State) : Type 0 where
  pub held : Block
  pub ends : Ends
  pub found : slice_get s.blocks block ≡ Some held
  pub are : ends_at p s.locals block byte ≡ Some ends
  pub place : nat_le byte (block_size held) ≡ true
  pub fits : lie_within ends (room_of p.terminated held ends.size) ≡ true

pub valid_from : (p : PointerBounds) (block byte : ℕ) (s : State) → is_valid p (At block byte) s ≡ true → IsValidAt p block byte s
valid_from p block byte s h = by (slice_get s.blocks block) (ends_at p s.locals block byte) refl refl
  where
    by : (o : Option Block) (e : Option Ends) → slice_get s.blocks block ≡ o → ends_at p s.locals block byte ≡ e → IsValidAt p block byte s
    by None e found are = let none = rw found at h in absurd (cc)
    by (Some b) None found are = let none = rw (found, are) at h in absurd (cc)
    by (Some b) (Some e) found are =
        let both : (nat_le byte (block_size b) && lie_within e (room_of p.terminated b e.size)) ≡ true = rw (found, are) at h in
        let parts = both_true (nat_le byte (block_size b)) (lie_within e (room_of p.terminated b e.size)) both in
        record { held = b; ends = e; found = found; are = are; place = parts.0; fits = parts.1 }

pub valid_to : (p : PointerBounds) (block byte : ℕ) (s : State) → IsValidAt p block byte s → is_valid p (At block byte) s ≡ true
valid_to p block byte s h = rw (h.found, h.are) (and_from (nat_le byte (block_size h.held)) (lie_within h.ends (room_of p.terminated h.held h.ends.size)) h.place h.fits)

pub grows_here : (b : List Shape) → Grows b b
grows_here b = ([], sym (append-nil b))

pub shape_there : (blocks : List Block) (k : ℕ) (b : Block) → slice_get blocks k ≡ Some b → slice_get (shapes blocks) k ≡ Some (shape b)
shape_there [] k b h = absurd (cc)
shape_there (c ∷ blocks) zero b h = ap Some (ap shape (same_Some c b h))
shape_there (c ∷ blocks) (suc k) b h = shape_there blocks k b h

pub block_there : (blocks : List Block) (k : ℕ) (x : Shape) → slice_get (shapes blocks) k ≡ Some x → (b : Block) × (slice_get blocks k ≡ Some b) × (shape b ≡ x)
block_there [] k x h = absurd (cc)
block_there (c ∷ blocks) zero x h = (c, refl, same_Some (shape c) x h)
block_there (c ∷ blocks) (suc k) x h = block_there blocks k x h

pub same_room : (ended : Bool) (b c : Block) (size : ℕ) → block_size b ≡ block_size c → room_of ended b size ≡ room_of ended c size
same_room false b c size same = same
same_room true b c size same = ap (λ bytes. bytes - size) same

-- blocks that are only added don't change their size, so a pointer stays valid where its ends stay
pub valid_with : (p q : PointerBounds) (v : Value) (s t : State) → q.terminated ≡ p.terminated → Grows (shapes s.blocks) (shapes t.blocks)
    → ((block byte : ℕ) (e : Ends) → v ≡ At block byte → ends_at p s.locals block byte ≡ Some e → ends_at q t.locals block byte ≡ Some e) → is_valid p v s ≡ true → is_valid q v t ≡ true
valid_with p q (Number z) s t alike grows ends h = absurd (cc)
valid_with p q Null s t alike grows ends h = refl
valid_with p q (At block byte) s t alike grows ends h =
    let v = valid_from p block byte s h in
    let there = still_there (shapes s.blocks) grows.0 block (shape v.held) (shape_there s.blocks block v.held v.found) in
    let b = block_there t.blocks block (shape v.held) (ap (λ l. slice_get l block) grows.1 ∙ there) in
    let size : block_size b.0 ≡ block_size v.held = ap (λ (x : Shape). sum x.strides) b.2 in
    valid_to q block byte t (record {
      held = b.0;
      ends = v.ends;
      found = b.1;
      are = ends block byte v.ends refl v.are;
      place = ap (nat_le byte) size ∙ v.place;
      fits = ap (lie_within v.ends) (ap (λ ended. room_of ended b.0 v.ends.size) alike ∙ same_room p.terminated b.0 v.held v.ends.size size) ∙ v.fits;
    })

-- a variable after a step: it holds what it held, or a number as before
pub record IsAlike (l m : Local) : Type 0 where
  pub type : m.type ≡ l.type
  pub value : (m.value ≡ l.value) ⊎ (IsNumber l.value × IsNumber m.value)

pub alike_here : (l : Local) → IsAlike l l
alike_here l = record { type = refl; value = inl refl }

number_invalid : (p : PointerBounds) (v : Value) (s : State) → IsNumber v → is_valid p v s ≡ true → ⊥
number_invalid p v s n h = let e : is_valid p (Number n.number) s ≡ true = subst (λ v. is_valid p v s ≡ true) n.is h in cc

-- where the ends of a pointer stay, and blocks are only added
pub kept : (structs : List Structure) (b c : Bounds) (l : Local) (s t : State) → Grows (shapes s.blocks) (shapes t.blocks)
    → ((site : Site) (block byte : ℕ) (e : Ends) → l.value ≡ At block byte → ends_at (at_node b (target_size structs l.type) (is_ended l.type) site) s.locals block byte ≡ Some e
    → ends_at (at_node c (target_size structs l.type) (is_ended l.type) site) t.locals block byte ≡ Some e) → IsValid structs (Some b) l s → IsValid structs (Some c) l t
kept structs b c l s t grows ends h = record { passes = λ site. valid_with (at_node b n ended site) (at_node c n ended site) l.value s t refl grows (ends site) (h.passes site); leads = leads }
  where
    n : ℕ
    n = target_size structs l.type

    ended : Bool
    ended = is_ended l.type

    leads : (site : Site) (block byte : ℕ) (e : Ends) → l.value ≡ At block byte → ends_at (at_node c n ended site) t.locals block byte ≡ Some e → LeadsOn structs (shapes t.blocks) l.type block byte e
    leads site block byte e at' are =
        let v = valid_from (at_node b n ended site) block byte s (subst (λ v. is_valid (at_node b n ended site) v s ≡ true) at' (h.passes site)) in
        let same : v.ends ≡ e = same_Some v.ends e (sym (ends site block byte v.ends at' v.are) ∙ are) in
        leads_grown structs (shapes s.blocks) (shapes t.blocks) grows l.type block byte e
        (subst (λ e. LeadsOn structs (shapes s.blocks) l.type block byte e) same (h.leads site block byte v.ends at' v.are))

-- and of a variable that is alike
alike_valid : (structs : List Structure) (b : Bounds) (l m : Local) (t : State) → IsAlike l m → IsValid structs (Some b) l t → IsValid structs (Some b) m t
alike_valid structs b l m t alike h = elim alike.value [
  | inl same ↦ alike_local m.type m.value alike.type same
  | inr n ↦ absurd (number_invalid (at_node b (target_size structs l.type) (is_ended l.type) here) l.value t n.0 (h.passes here))
]
  where
    here : Site
    here = record { place = record { line = 0; col = 0 } }

    alike_local : (type : CType) (v : Value) → type ≡ l.type → v ≡ l.value → IsValid structs (Some b) (record { type = type; value = v }) t
    alike_local type v p q = subst (λ v. IsValid structs (Some b) (record { type = type; value = v }) t) (sym q) (subst (λ type. IsValid structs (Some b) (record { type = type; value = l.value }) t) (sym p) h)

pub carried : (structs : List Structure) (b c : Bounds) (l m : Local) (s t : State) → Grows (shapes s.blocks) (shapes t.blocks) → IsAlike l m
    → StayEnds (target_size structs l.type) b c s.locals t.locals → IsValid structs (Some b) l s → IsValid structs (Some c) m t
carried structs b c l m s t grows alike ends h = alike_valid structs c l m t alike (kept structs b c l s t grows (λ site block byte e q. ends site block byte e) h)

-- null is valid with all bounds
pub null_valid : (structs : List Structure) (o : Option Bounds) (l : Local) (s : State) → l.value ≡ Null → IsValid structs o l s
null_valid structs None l s e = tt
null_valid structs (Some b) l s e = record { passes = λ site. rw e refl; leads = λ site block byte ends at' are. absurd (let no : Null ≡ At block byte = sym e ∙ at' in cc) }

-- ---- changes of bounds

pub record IsBetween (from : Option ℕ) (below above : Option Term) (b : Bounds) : Type 0 where
  pub base : b.base ≡ from
  pub lo : below ≡ Some b.lo
  pub hi : above ≡ Some b.hi

pub between_parts : (base : Option ℕ) (lo hi : Option Term) (b : Bounds) → between base lo hi ≡ Some b → IsBetween base lo hi b
between_parts base None hi b h = absurd (cc)
between_parts base (Some lo) None b h = absurd (cc)
between_parts base (Some lo) (Some hi) b h =
    let same : record { base = base; lo = lo; hi = hi } ≡ b = same_Some (record { base = base; lo = lo; hi = hi }) b h in
    record { base = sym (ap (λ (b : Bounds). b.base) same); lo = ap (λ (b : Bounds). Some b.lo) same; hi = ap (λ (b : Bounds). Some b.hi) same }

-- ---- a number put in the place of a number

module _ (structs : List Structure) (s : State) (x : ℕ) (old : Local) (there : slice_get s.locals x ≡ Some old) (was : IsNumber old.value) where
  pub unnamed_stays : (z : ℤ) (b : Bounds) (l m : Local) → IsAlike l m → is_named x b ≡ false → IsValid structs (Some b) l s → IsValid structs (Some b) m (with_local x old (Number z) s)
  unnamed_stays z b l m alike e h =
      let n = neither (is_var x b.lo.var) (is_var x b.hi.var) e in
      carried structs b b l m s (with_local x old (Number z) s) (grows_here (shapes s.blocks)) alike
      (stay_ends (target_size structs l.type) b b s.locals (replaced s.locals x old (Number z))
      (number_base s.locals x old (Number z) there was (record { number = z; is = refl }) b.base)
      (other_term s.locals x old (Number z) there b.lo n.0) (other_term s.locals x old (Number z) there b.hi n.1)) h

  pub shifted_stays : (c : ℤ) (b d : Bounds) (l m : Local) → IsAlike l m → moved_back x c b ≡ Some d → IsValid structs (Some b) l s
      → IsValid structs (Some d) m (with_local x old (Number (was.number +ℤ c)) s)
  shifted_stays c b d l m alike e h =
      let z = was.number +ℤ c in
      let p = between_parts b.base (lowered x c b.lo) (lowered x c b.hi) d e in
      carried structs b d l m s (with_local x old (Number z) s) (grows_here (shapes s.blocks)) alike
      (stay_ends (target_size structs l.type) b d s.locals (replaced s.locals x old (Number z))
      (λ block byte. ap (λ o. base_byte o (replaced s.locals x old (Number z)) block byte) p.base
      ∙ number_base s.locals x old (Number z) there was (record { number = z; is = refl }) b.base block byte)
      (lowered_value s.locals x old was.number c there was.is b.lo d.lo p.lo) (lowered_value s.locals x old was.number c there was.is b.hi d.hi p.hi)) h

-- ---- a pointer put in the place of a pointer

base_by : (locals : List Local) (p : ℕ) (old : Local) (block byte w : ℕ) (v : Value) → slice_get locals p ≡ Some old → old.value ≡ v → base_byte (Some p) locals block byte ≡ Some w → v ≡ At block w
base_by locals p old block byte w (Number z) there q h = let none : None ≡ Some w = rw (there, q) at h in absurd (cc)
base_by locals p old block byte w Null there q h = let none : None ≡ Some w = rw (there, q) at h in absurd (cc)
base_by locals p old block byte w (At other place) there q h =
    let found : cond (other == block) (Some place) None ≡ Some w = rw (there, q) at h in
    let c = cond_some (other == block) place w found in
    ap (λ o. At o place) (same_number other block c.0) ∙ ap (At block) c.1

base_there : (locals : List Local) (p : ℕ) (old : Local) (block byte w : ℕ) → slice_get locals p ≡ Some old → base_byte (Some p) locals block byte ≡ Some w → old.value ≡ At block w
base_there locals p old block byte w there h = base_by locals p old block byte w old.value there refl h

same_block : (block w : ℕ) → cond (block == block) (Some w) None ≡ Some w
same_block block w = ap (λ b. cond b (Some w) None) (let e : (block == block) ≡ true = grind (arith, nat_tests) in e)

pub base_found : (locals : List Local) (p : ℕ) (l : Local) (block byte w : ℕ) → slice_get locals p ≡ Some l → l.value ≡ At block w → base_byte (Some p) locals block byte ≡ Some w
base_found locals p l block byte w there q = rw (there, q) (same_block block w)

-- an end moved the other way
moved_term : (c z : ℤ) (t u : Term) (before after : List Local) → term_value t after ≡ term_value t before → within_limit t.var (t.plus +ℤ neg_ℤ c) ≡ Some u → term_value t before ≡ Some z
    → term_value u after ≡ Some (z +ℤ neg_ℤ c)
moved_term c z t u before after same e h = limited_value after t.var (t.plus +ℤ neg_ℤ c) u e ∙ term_raised after t.var t.plus (neg_ℤ c) z (same ∙ h)

pub moved_ends : (size w w' : ℕ) (c : ℤ) (b d : Bounds) (before after : List Local) (base base' : Option ℕ) (e : Ends) → ((t : Term) → term_value t after ≡ term_value t before)
    → moved_by (neg_ℤ c) b ≡ Some d → base' ≡ Some w' → pos w' ≡ pos w +ℤ (c *ℤ pos size) → base ≡ Some w → ends_from size base (term_value b.lo before) (term_value b.hi before) ≡ Some e
    → ends_from size base' (term_value d.lo after) (term_value d.hi after) ≡ Some e
moved_ends size w w' c b d before after base base' e terms moved there step here h =
    let p = ends_parts size base (term_value b.lo before) (term_value b.hi before) e h in
    let q = between_parts b.base (within_limit b.lo.var (b.lo.plus +ℤ neg_ℤ c)) (within_limit b.hi.var (b.hi.plus +ℤ neg_ℤ c)) d moved in
    let byte : w ≡ p.byte = same_Some w p.byte (sym here ∙ p.at_base) in
    let from : pos w' ≡ pos p.byte +ℤ (c *ℤ pos size) = step ∙ ap (λ w. pos w +ℤ (c *ℤ pos size)) byte in
    let low : pos w' +ℤ ((p.low +ℤ neg_ℤ c) *ℤ pos size) ≡ pos p.byte +ℤ (p.low *ℤ pos size) = (let a = times_apart p.low c size in omega (arith, ints, a, from)) in
    let high : pos w' +ℤ ((p.high +ℤ neg_ℤ c) *ℤ pos size) ≡ pos p.byte +ℤ (p.high *ℤ pos size) = (let a = times_apart p.high c size in omega (arith, ints, a, from)) in
    let mk : ℤ → ℤ → Option Ends = λ low high. Some (record { low = low; high = high; size = size }) in
    ends_made size w' (p.low +ℤ neg_ℤ c) (p.high +ℤ neg_ℤ c) base' (term_value d.lo after) (term_value d.hi after) there
    (moved_term c p.low b.lo d.lo before after (terms b.lo) q.lo p.at_low) (moved_term c p.high b.hi d.hi before after (terms b.hi) q.hi p.at_high)
    ∙ (ap (λ l. mk l (pos w' +ℤ ((p.high +ℤ neg_ℤ c) *ℤ pos size))) low ∙ (ap (mk (pos p.byte +ℤ (p.low *ℤ pos size))) high ∙ ap Some p.are))

-- a pointer that stood in the block of a base
moved_place : (size : ℕ) (c : ℤ) (old v : Value) (block w : ℕ) → old ≡ At block w → IsMoved size c old v → IsMoved size c (At block w) v
moved_place size c old v block w e m = subst (λ u. IsMoved size c u v) e m

module _ (structs : List Structure) (s : State) (p : ℕ) (old : Local) (v : Value) (there : slice_get s.locals p ≡ Some old) (was : IsPointer old.value) (is : IsPointer v) where
  terms_stay : (t : Term) → term_value t (replaced s.locals p old v) ≡ term_value t s.locals
  terms_stay t = pointer_term s.locals p old v there was is t

  -- bounds from another base
  pub unbased_stays : (b : Bounds) (l m : Local) → IsAlike l m → is_var p b.base ≡ false → IsValid structs (Some b) l s → IsValid structs (Some b) m (with_local p old v s)
  unbased_stays b l m alike e h =
      carried structs b b l m s (with_local p old v s) (grows_here (shapes s.blocks)) alike
      (stay_ends (target_size structs l.type) b b s.locals (replaced s.locals p old v)
      (λ block byte. other_base s.locals p old v there b.base block byte e) (terms_stay b.lo) (terms_stay b.hi)) h

  -- bounds from it, of another pointer to elements of its size, moved the other way
  pub based_stays : (c : ℤ) (b d : Bounds) (l m : Local) → IsAlike l m → b.base ≡ Some p → target_size structs old.type ≡ target_size structs l.type → moved_by (neg_ℤ c) b ≡ Some d
      → IsMoved (target_size structs old.type) c old.value v → IsValid structs (Some b) l s → IsValid structs (Some d) m (with_local p old v s)
  based_stays c b d l m alike base size moved step h =
      carried structs b d l m s (with_local p old v s) (grows_here (shapes s.blocks)) alike (λ site block byte e q.
      let n = target_size structs l.type in
      let after = replaced s.locals p old v in
      let parts = ends_parts n (base_byte b.base s.locals block byte) (term_value b.lo s.locals) (term_value b.hi s.locals) e q in
      let here : base_byte (Some p) s.locals block byte ≡ Some parts.byte = sym (ap (λ o. base_byte o s.locals block byte) base) ∙ parts.at_base in
      let place = moved_place (target_size structs old.type) c old.value v block parts.byte (base_there s.locals p old block byte parts.byte there here) step in
      let based : d.base ≡ Some p = (between_parts b.base (within_limit b.lo.var (b.lo.plus +ℤ neg_ℤ c)) (within_limit b.hi.var (b.hi.plus +ℤ neg_ℤ c)) d moved).base ∙ base in
      let found = ap (λ o. base_byte o after block byte) based ∙ base_found after p (record old { value = v }) block byte place.0 (found_same s.locals p old v there) place.1 in
      moved_ends n parts.byte place.0 c b d s.locals after (base_byte b.base s.locals block byte) (base_byte d.base after block byte) e terms_stay moved found
      (subst (λ n. pos place.0 ≡ pos parts.byte +ℤ (c *ℤ pos n)) size place.2) parts.at_base q) h

  -- bounds of its own from what it was, read from what it is
  pub own_stays : (c : ℤ) (b d : Bounds) → b.base ≡ Some p → moved_by (neg_ℤ c) (record b { base = None }) ≡ Some d → IsMoved (target_size structs old.type) c old.value v
      → IsValid structs (Some b) (record old { value = v }) s → IsValid structs (Some d) (record old { value = v }) (with_local p old v s)
  own_stays c b d base moved step h =
      kept structs b d (record old { value = v }) s (with_local p old v s) (grows_here (shapes s.blocks)) (λ site block byte e at q.
      let parts = ends_parts n (base_byte b.base s.locals block byte) (term_value b.lo s.locals) (term_value b.hi s.locals) e q in
      let here : base_byte (Some p) s.locals block byte ≡ Some parts.byte = sym (ap (λ o. base_byte o s.locals block byte) base) ∙ parts.at_base in
      let place = moved_place n c old.value v block parts.byte (base_there s.locals p old block byte parts.byte there here) step in
      let same : byte ≡ place.0 = at_same block byte place.0 (sym at ∙ place.1) in
      let none : d.base ≡ None = (between_parts None (within_limit b.lo.var (b.lo.plus +ℤ neg_ℤ c)) (within_limit b.hi.var (b.hi.plus +ℤ neg_ℤ c)) d moved).base in
      let found : base_byte d.base after block byte ≡ Some place.0 = ap (λ o. base_byte o after block byte) none ∙ ap Some same in
      moved_ends n parts.byte place.0 c (record b { base = None }) d s.locals after (base_byte b.base s.locals block byte) (base_byte d.base after block byte) e terms_stay moved found place.2 parts.at_base q) h
    where
      n : ℕ
      n = target_size structs old.type

      after : List Local
      after = replaced s.locals p old v

      at_same : (block x y : ℕ) → At block x ≡ At block y → x ≡ y
      at_same block x y e = cc

-- ---- narrower bounds

within_by : (e f : Ends) (size : ℕ) (b : Bool) → int_le f.low f.high ≡ b → e.low ≤ℤ f.low → f.high ≤ℤ e.high → lie_within e size ≡ true → lie_within f size ≡ true
within_by e f size true t low high h =
    let le = int_from f.low f.high t in
    let wide : int_le e.low e.high ≡ true = int_to e.low e.high (omega (arith, ints, low, high, le)) in
    let both : (int_le (pos 0) e.low && int_le e.high (pos size)) ≡ true = rw wide at h in
    let parts = both_true (int_le (pos 0) e.low) (int_le e.high (pos size)) both in
    let a = int_from (pos 0) e.low parts.0 in
    let b = int_from e.high (pos size) parts.1 in
    rw t (and_from (int_le (pos 0) f.low) (int_le f.high (pos size)) (int_to (pos 0) f.low (omega (arith, ints, a, low))) (int_to f.high (pos size) (omega (arith, ints, b, high))))
within_by e f size false t low high h = rw t refl

-- what is between narrower ends is between the wider ones
lies_wider : (wide narrow : Ends) (byte : ℤ) → wide.low ≤ℤ narrow.low → narrow.high ≤ℤ wide.high → lies_below narrow byte ≡ true → lies_below wide byte ≡ true
lies_wider wide narrow byte low high h =
    let parts = both_true (int_le narrow.low byte) (int_lt byte narrow.high) h in
    let from = int_from narrow.low byte parts.0 in
    and_from (int_le wide.low byte) (int_lt byte wide.high) (int_to wide.low byte (omega (arith, ints, low, from))) (less_still byte narrow.high wide.high parts.1 high)

up_to_wider : (wide narrow : Ends) (byte : ℤ) → wide.low ≤ℤ narrow.low → narrow.high ≤ℤ wide.high → lies_up_to narrow byte ≡ true → lies_up_to wide byte ≡ true
up_to_wider wide narrow byte low high h =
    let parts = both_true (int_le narrow.low byte) (int_le byte narrow.high) h in
    let from = int_from narrow.low byte parts.0 in
    let to = int_from byte narrow.high parts.1 in
    and_from (int_le wide.low byte) (int_le byte wide.high) (int_to wide.low byte (omega (arith, ints, low, from))) (int_to byte wide.high (omega (arith, ints, to, high)))

pub less_inside : (structs : List Structure) (blocks : List Shape) (t : CType) (block byte : ℕ) (inside less : Bool) → (less ≡ true → inside ≡ true) → IsEndedPlace structs blocks t block byte inside → IsEndedPlace structs blocks t block byte less
less_inside structs blocks t block byte inside less within h =
    record {
      shape = h.shape;
      found = h.found;
      ended = h.ended;
      unsealed = h.unsealed;
      cells = h.cells;
      types = h.types;
      strides = h.strides;
      some = h.some;
      number = h.number;
      is = h.is;
      below = h.below;
      before_zero = λ is. h.before_zero (within is);
    }

pub leads_narrower : (structs : List Structure) (blocks : List Shape) (t : CType) (block byte : ℕ) (wide narrow : Ends) → wide.size ≡ narrow.size → wide.low ≤ℤ narrow.low → narrow.high ≤ℤ wide.high
    → LeadsOn structs blocks t block byte wide → LeadsOn structs blocks t block byte narrow
leads_narrower structs blocks Int block byte wide narrow size low high h = tt
leads_narrower structs blocks Char block byte wide narrow size low high h = tt
leads_narrower structs blocks (Struct number) block byte wide narrow size low high h = tt
leads_narrower structs blocks (Pointer mode kinds.One target) block byte wide narrow size low high h =
    λ n place step lies. h n place (step ∙ ap (λ k. pos byte +ℤ (n *ℤ pos k)) (sym size)) (lies_wider wide narrow (pos place) low high lies)
leads_narrower structs blocks (Pointer mode kinds.Array target) block byte wide narrow size low high h =
    λ n place step lies. h n place (step ∙ ap (λ k. pos byte +ℤ (n *ℤ pos k)) (sym size)) (lies_wider wide narrow (pos place) low high lies)
leads_narrower structs blocks (Pointer mode kinds.Nt target) block byte wide narrow size low high h =
    λ n place step lies. less_inside structs blocks target block place (lies_below wide (pos place)) (lies_below narrow (pos place)) (lies_wider wide narrow (pos place) low high)
    (h n place (step ∙ ap (λ k. pos byte +ℤ (n *ℤ pos k)) (sym size)) (up_to_wider wide narrow (pos place) low high lies))

-- the ends of a pointer that is valid, and those of narrower bounds
record IsNarrower (size : ℕ) (ended : Bool) (site : Site) (b d : Bounds) (block byte : ℕ) (s : State) : Type 0 where
  wide : Ends
  narrow : Ends
  at_wide : ends_at (at_node b size ended site) s.locals block byte ≡ Some wide
  at_narrow : ends_at (at_node d size ended site) s.locals block byte ≡ Some narrow
  size_same : wide.size ≡ narrow.size
  low : wide.low ≤ℤ narrow.low
  high : narrow.high ≤ℤ wide.high

narrower_ends : (size : ℕ) (ended : Bool) (site : Site) (b d : Bounds) (block byte : ℕ) (s : State) (low high : ℤ) → d.base ≡ b.base → term_value d.lo s.locals ≡ Some low → term_value d.hi s.locals ≡ Some high
    → ((z : ℤ) → term_value b.lo s.locals ≡ Some z → z ≤ℤ low) → ((z : ℤ) → term_value b.hi s.locals ≡ Some z → high ≤ℤ z)
    → is_valid (at_node b size ended site) (At block byte) s ≡ true → IsNarrower size ended site b d block byte s
narrower_ends size ended site b d block byte s low high base lo hi below above h =
    let v = valid_from (at_node b size ended site) block byte s h in
    let p = ends_parts size (base_byte b.base s.locals block byte) (term_value b.lo s.locals) (term_value b.hi s.locals) v.ends v.are in
    let l : (p.low *ℤ pos size) ≤ℤ (low *ℤ pos size) = times_le p.low low size (below p.low p.at_low) in
    let u : (high *ℤ pos size) ≤ℤ (p.high *ℤ pos size) = times_le high p.high size (above p.high p.at_high) in
    record {
      wide = record { low = pos p.byte +ℤ (p.low *ℤ pos size); high = pos p.byte +ℤ (p.high *ℤ pos size); size = size };
      narrow = record { low = pos p.byte +ℤ (low *ℤ pos size); high = pos p.byte +ℤ (high *ℤ pos size); size = size };
      at_wide = v.are ∙ ap Some (sym p.are);
      at_narrow = ends_made size p.byte low high (base_byte d.base s.locals block byte) (term_value d.lo s.locals) (term_value d.hi s.locals)
          (ap (λ o. base_byte o s.locals block byte) base ∙ p.at_base) lo hi;
      size_same = refl;
      low = omega (arith, ints, l);
      high = omega (arith, ints, u);
    }

-- such bounds are valid where the wider ones are
narrower_passes : (size : ℕ) (ended : Bool) (site : Site) (b d : Bounds) (block byte : ℕ) (s : State) → IsNarrower size ended site b d block byte s
    → is_valid (at_node b size ended site) (At block byte) s ≡ true → is_valid (at_node d size ended site) (At block byte) s ≡ true
narrower_passes size ended site b d block byte s n h =
    let v = valid_from (at_node b size ended site) block byte s h in
    let same : v.ends ≡ n.wide = same_Some v.ends n.wide (sym v.are ∙ n.at_wide) in
    let fits : lie_within n.wide (room_of ended v.held n.wide.size) ≡ true = subst (λ e. lie_within e (room_of ended v.held e.size) ≡ true) same v.fits in
    let room : room_of ended v.held n.wide.size ≡ room_of ended v.held n.narrow.size = ap (room_of ended v.held) n.size_same in
    valid_to (at_node d size ended site) block byte s (record {
      held = v.held;
      ends = n.narrow;
      found = v.found;
      are = n.at_narrow;
      place = v.place;
      fits = within_by n.wide n.narrow (room_of ended v.held n.narrow.size) (int_le n.narrow.low n.narrow.high) refl n.low n.high (subst (λ bytes. lie_within n.wide bytes ≡ true) room fits);
    })

-- bounds whose ends lie around those of others, from the same base
pub narrower_valid : (structs : List Structure) (b d : Bounds) (l : Local) (s : State) → HaveTypes s.locals → AreInts (types_of s.locals) d → d.base ≡ b.base
    → TermsHold (numbers_in s.locals) b.lo d.lo → TermsHold (numbers_in s.locals) d.hi b.hi → IsValid structs (Some b) l s → IsValid structs (Some d) l s
narrower_valid structs b d l s types is base lo hi h = record { passes = λ site. by site l.value (h.passes site); leads = leads }
  where
    size : ℕ
    size = target_size structs l.type

    ended : Bool
    ended = is_ended l.type

    narrower : (site : Site) (block byte : ℕ) → is_valid (at_node b size ended site) (At block byte) s ≡ true → IsNarrower size ended site b d block byte s
    narrower site block byte k =
        let v = numbers_in s.locals in
        narrower_ends size ended site b d block byte s (value v d.lo) (value v d.hi) base (int_term s.locals d.lo types is.lo) (int_term s.locals d.hi types is.hi)
        (λ z e. let q = term_number s.locals b.lo z e in omega (arith, ints, q, lo)) (λ z e. let q = term_number s.locals b.hi z e in omega (arith, ints, q, hi)) k

    by : (site : Site) (v : Value) → is_valid (at_node b size ended site) v s ≡ true → is_valid (at_node d size ended site) v s ≡ true
    by site (Number z) k = absurd (cc)
    by site Null k = refl
    by site (At block byte) k = narrower_passes size ended site b d block byte s (narrower site block byte k) k

    leads : (site : Site) (block byte : ℕ) (e : Ends) → l.value ≡ At block byte → ends_at (at_node d size ended site) s.locals block byte ≡ Some e → LeadsOn structs (shapes s.blocks) l.type block byte e
    leads site block byte e at' are =
        let n = narrower site block byte (subst (λ v. is_valid (at_node b size ended site) v s ≡ true) at' (h.passes site)) in
        let same : n.narrow ≡ e = same_Some n.narrow e (sym n.at_narrow ∙ are) in
        subst (λ e. LeadsOn structs (shapes s.blocks) l.type block byte e) same
        (leads_narrower structs (shapes s.blocks) l.type block byte n.wide n.narrow n.size_same n.low n.high (h.leads site block byte n.wide at' n.at_wide))

-- where blocks are only added and the variables stay as they are
pub grown_valid : (structs : List Structure) (o : Option Bounds) (l : Local) (s t : State) → Grows (shapes s.blocks) (shapes t.blocks) → t.locals ≡ s.locals
    → IsValid structs o l s → IsValid structs o l t
grown_valid structs None l s t grows same h = tt
grown_valid structs (Some b) l s t grows same h =
    carried structs b b l l s t grows (alike_here l) (λ site block byte e are. ap (λ locals. ends_at (at_node b (target_size structs l.type) (is_ended l.type) site) locals block byte) same ∙ are) h
