-- What each state keeps, and what a step gives that is never stuck and never unsound.
use Rattle.std.proofs.Common.{◌≡◌, ◌+ℤ◌, ℕ, zero, suc, ◌+◌, ◌≤◌, Bool, true, false, ℤ, List, [], ◌∷◌, map, cond, Option, Some, None, refl, sym, ap, ◌∙◌, subst, arith, ◌⊎◌}
use Rattle.std.specs.Prelude.{slice_get, pos}
use Rattle.std.specs.List.{AllByRecursion}
use Rattle.std.proofs.lemmas.Int.{ints}
use Rattle.ckc_core.specs.Outcome.{and_then}
use Rattle.act_words.specs.World.{World}
use Rattle.act_words.specs.Touches.{Asked, Got, Ended}
use Rattle.pointer_modes.specs.declared.ctype.Mode.{Mode}
use Rattle.pointer_modes.specs.declared.ctype.Kind.{Kind}
use Rattle.pointer_modes.specs.declared.ctype.Kind.TheVariants as kinds
use Rattle.pointer_modes.specs.Types.{CType, Int, Char, Struct, Pointer, Structure}
use Rattle.ckc_core.specs.Core as core
use Rattle.ckc_core.specs.States.{Value, Local, Shape, Grows, State, in_world, shapes, has_type, object_block}
use Rattle.ckc_core.specs.declared.program.PointerBounds.{PointerBounds}
use Rattle.ckc_core.specs.declared.program.Direction.{Direction}
use Rattle.bounds_exprs.specs.declared.term.Bounds.{Bounds}
use Rattle.ckc_core.specs.Steps.{Result, Flow, locals_for, Next, Broke, Continued, Returned, asked, parameters_of}
use Rattle.ckc_core.specs.Meaning.{Knot, bounds_of}
use Rattle.region_typing_rules.specs.Scopes.{Scope}
use Rattle.bounds_exprs.specs.Terms.{is_within, term_limit}
use Rattle.region_typing_rules.specs.Verdicts.{picked}
use Rattle.region_typing_rules.specs.Readings.{Behind, behind_by, behind_local, constant, further, is_pointer_type, toward}
use Rattle.region_typing_rules.specs.KnownIsSo.{WhereGiven}
use Rattle.region_typing_rules.specs.Typed as typed
use Rattle.bounds_flow_meaning.specs.Holding.{IsValid, types_of}
use Rattle.bounds_flow_meaning.specs.Rows.{IsPlace, IsEndedPlace}
use Rattle.region_typing_rules.specs.Typed.{Frame, HasValue, HasType}
use Rattle.region_typing_rules.proofs.Worlds.{IsWorld, Answers, IsWord}
use Rattle.region_typing_rules.proofs.BoundedObjects.{HoldBounds, held_same}
use Rattle.region_typing_rules.proofs.Values.{mapped_there, value_typed, HaveValues, HaveLocals, local_there, HoldsValues}
use Rattle.region_typing_rules.proofs.Verdicts.{Extends}
use Rattle.region_typing_rules.proofs.Sure.{Sure, sure_on, sure_further, sure_both}
use Rattle.region_typing_rules.proofs.Keeping.{IsAfter, after_here, after_on, CallsKeep}
use Rattle.region_typing_rules.proofs.Calls.{AreEntered}
use Rattle.region_typing_rules.proofs.LastZeros.{AreShort}
use Rattle.bounds_flow_meaning.specs.Zeros.{EndInZeros}

pub has_locals : (structs : List Structure) (b : List Shape) (ts types : List CType) (ls : List Local) → Extends ts types → HaveLocals structs b types ls → (x : ℕ) (c : CType) → slice_get ts x ≡ Some c → slice_get (types_of ls) x ≡ Some c
has_locals structs b ts types ls reaches h x c e =
    let l = local_there structs b types ls x c h (reaches x c e) in
    mapped_there (λ (l : Local). l.type) ls x l.0 l.1 ∙ ap Some l.2

-- and hold values of their types
pub types_held : (structs : List Structure) (b : List Shape) (ts : List CType) (ls : List Local) → HaveLocals structs b ts ls → (x : ℕ) (l : Local) → slice_get ls x ≡ Some l → has_type l.type l.value ≡ true
types_held structs b [] [] h x l e = absurd (cc)
types_held structs b [] (k ∷ ls) h x l e = absurd h
types_held structs b (t ∷ ts) [] h x l e = absurd h
types_held structs b (t ∷ ts) (k ∷ ls) h zero l e = let same : k ≡ l = cc in subst (λ (l : Local). has_type l.type l.value ≡ true) same (ap (λ c. has_type c k.value) h.0 ∙ value_typed structs b t k.value h.1)
types_held structs b (t ∷ ts) (k ∷ ls) h (suc x) l e = types_held structs b ts ls h.2 x l e

-- ---- what a local pointer plus a constant is read off

pub record IsFurther (direction : Direction) (o : Option ℤ) (from : Option Behind) (b : Behind) : Type 0 where
  pub before : Behind
  pub constant : ℤ
  pub there : from ≡ Some before
  pub is : o ≡ Some constant
  pub local : b.local ≡ before.local
  pub elements : b.elements ≡ before.elements +ℤ toward direction constant

pub further_parts : (direction : Direction) (o : Option ℤ) (there : Option Behind) (b : Behind) → further direction o there ≡ Some b → IsFurther direction o there b
further_parts direction None there b h = absurd (cc)
further_parts direction (Some c) None b h = absurd (cc)
further_parts direction (Some c) (Some before) b h = by (is_within term_limit (before.elements +ℤ toward direction c)) h
  where
    by : (test : Bool) → behind_by before.local (cond test (Some (record { var = None; plus = before.elements +ℤ toward direction c })) None) ≡ Some b → IsFurther direction (Some c) (Some before) b
    by true q =
        let same : record { local = before.local; elements = before.elements +ℤ toward direction c } ≡ b = cc in
        record { before = before; constant = c; there = refl; is = refl; local = sym (ap (λ (b : Behind). b.local) same); elements = sym (ap (λ (b : Behind). b.elements) same) }
    by false q = absurd (cc)

pub local_parts : (ts : List CType) (i : ℕ) (b : Behind) (test : Bool) → picked test (Some (record { local = i; elements = pos 0 })) None ≡ Some b → (b.local ≡ i) × (b.elements ≡ pos 0)
local_parts ts i b true h = let same : record { local = i; elements = pos 0 } ≡ b = cc in (sym (ap (λ (b : Behind). b.local) same), sym (ap (λ (b : Behind). b.elements) same))
local_parts ts i b false h = absurd (cc)

-- the local has the type of the pointer, whatever its kind
module _ (g : Frame) (types : List CType) (here : Scope) (reaches : Extends here.locals types) where
  based_local : (i : ℕ) (b : Behind) (t : CType) → slice_get types i ≡ Some t → behind_local here.locals (core.Local i None) ≡ Some b → (m : Mode) (d : Kind) (target : CType) → t ≡ Pointer m d target → (d' : Kind) × (slice_get types b.local ≡ Some (Pointer m d' target))
  based_local i b t e is m d target same = (d, subst (λ k. slice_get types k ≡ Some (Pointer m d target)) (sym (local_parts here.locals i b (is_pointer_type (slice_get here.locals i)) is).0) (e ∙ ap Some same))

  of_kind : (k : Kind) (m' m : Mode) (d' d : Kind) (t target : CType) → Pointer m' d' t ≡ Pointer m d target → Pointer m' k t ≡ Pointer m k target
  of_kind k m' m d' d t target q = let a : m' ≡ m = cc in let b : t ≡ target = cc in ap (λ m. Pointer m k t) a ∙ ap (Pointer m k) b

  pub base_of : {e : core.Expression} {t : CType} → HasType g types here e t → (b : Behind) → behind_local here.locals e ≡ Some b → (m : Mode) (d : Kind) (target : CType) → t ≡ Pointer m d target → (d' : Kind) × (slice_get types b.local ≡ Some (Pointer m d' target))
  base_of (typed.word fits) b is m d target same = absurd (cc)
  base_of (typed.byte fits) b is m d target same = absurd (cc)
  base_of typed.null b is m d target same = absurd (cc)
  base_of (typed.local {k = i} {t = t} e bounds) b is m d target same = based_local i b t (reaches i t e) is m d target same
  base_of (typed.bounded {k = i} {mode = m'} {kind = kind} {t = t} e size limited named force) b is m d target same = based_local i b (Pointer m' kind t) (reaches i (Pointer m' kind t) e) is m d target same
  base_of (typed.widened h) b is m d target same = absurd (cc)
  base_of (typed.single {mode = m'} {kind = kind} {t = t} h elements leads) b is m d target same = base_of h b is m kind target (of_kind kind m' m kinds.One d t target same)
  base_of (typed.row {mode = m'} {t = t} h bounds) b is m d target same = base_of h b is m kinds.One target (of_kind kinds.One m' m kinds.Array d t target same)
  base_of (typed.ended_row {mode = m'} {t = t} h) b is m d target same = base_of h b is m kinds.Nt target (of_kind kinds.Nt m' m kinds.Array d t target same)
  base_of (typed.load scalar h bounds) b is m d target same = absurd (cc)
  base_of (typed.bounded_object is size) b from m d target same = absurd (cc)
  base_of (typed.address_of h bounds) b is m d target same = absurd (cc)
  base_of (typed.array found some few rows bounds size) b is m d target same = absurd (cc)
  base_of (typed.ended_array found few row bounds size) b is m d target same = absurd (cc)
  base_of (typed.sum {e = e} {i = i} {mode = m'} {kind = kind} {t = t} {direction = direction} counts h elements hi bounds) b is m d target same =
      let f = further_parts direction (constant here.locals i) (behind_local here.locals e) b is in
      let base = base_of h f.before f.there m d target same in
      (base.0, subst (λ k. slice_get types k ≡ Some (Pointer m base.0 target)) (sym f.local) base.1)
  base_of (typed.negate h) b is m d target same = absurd (cc)
  base_of (typed.complement h) b is m d target same = absurd (cc)
  base_of (typed.inverse h) b is m d target same = absurd (cc)
  base_of (typed.arithmetic ha hb) b is m d target same = absurd (cc)
  base_of (typed.compare ha hb) b is m d target same = absurd (cc)
  base_of (typed.same ha hb) b is m d target same = absurd (cc)
  base_of (typed.order ha from hb to) b is m d target same = absurd (cc)
  base_of (typed.both ha hb) b is m d target same = absurd (cc)
  base_of (typed.either ha hb) b is m d target same = absurd (cc)
  base_of (typed.low_byte h) b is m d target same = absurd (cc)
  base_of (typed.byte_count h elements) b is m d target same = absurd (cc)
  base_of (typed.call known h asked bounds) b is m d target same = absurd (cc)
  base_of typed.next_input b is m d target same = absurd (cc)
  base_of (typed.allocate h fresh bounds) b is m d target same = absurd (cc)
  base_of (typed.allocate_ended h ended fresh bounds) b is m d target same = absurd (cc)
  base_of (typed.cast h elements counts within size limited ints bases) b is m d target same = absurd (cc)
  base_of (typed.cast_single h elements within bounds) b is m d target same = absurd (cc)
  base_of (typed.cast_unbounded h elements counts) b is m d target same = absurd (cc)

-- the shapes of the blocks of a state
abbrev pub shaped : State → List Shape
shaped s = shapes s.blocks

-- ---- what a step gives, in a state

-- a value of a type
abbrev pub OfType : Frame → CType → Value → State → Type 0
OfType g t v s = HasValue g.structs (shaped s) t v

-- a pointer with bounds is valid with them
abbrev pub IsBounded : Frame → CType → Option PointerBounds → Value → State → Type 0
IsBounded g Int b v s = Unit {0}
IsBounded g Char b v s = Unit {0}
IsBounded g (Struct number) b v s = Unit {0}
IsBounded g (Pointer mode kind target) None v s = Unit {0}
IsBounded g (Pointer mode kind target) (Some p) v s = IsValid g.structs (Some p.bounds) (record { type = Pointer mode kind target; value = v }) s

-- a value of a type, as an expression gives it
abbrev pub OfNode : Frame → core.Expression → CType → Value → State → Type 0
OfNode g e t v s = OfType g t v s × IsBounded g t (bounds_of e) v s

-- values of types in their order
abbrev pub OfTypes : Frame → List CType → List Value → State → Type 0
OfTypes g ts vs s = HaveValues g.structs (shaped s) ts vs

-- a place at which a value of the type stands
abbrev pub IsPlaced : Frame → CType → ℕ × ℕ → State → Type 0
IsPlaced g t at s = IsPlace g.structs (shaped s) t at.0 at.1

-- a place that is read or written: the zero of a row may stand there
abbrev pub IsAccessed : Frame → CType → ℕ × ℕ → State → Type 0
IsAccessed g t at s = IsPlaced g t at s ⊎ ((inside : Bool) × IsEndedPlace g.structs (shaped s) t at.0 at.1 inside)

-- the word of a reply
abbrev pub IsReply : ℕ → State → Type 0
IsReply reply s = IsWord reply

-- a result as it was declared
abbrev pub IsAnswer : Frame → Option CType → Option Value → State → Type 0
IsAnswer g None None s = Unit {0}
IsAnswer g None (Some v) s = ⊥
IsAnswer g (Some t) None s = ⊥
IsAnswer g (Some t) (Some v) s = OfType g t v s

-- which is valid with the bounds that are declared for it
abbrev pub HasResult : List Structure → Option CType → Option Bounds → Option Value → State → Type 0
HasResult structs None b v s = Unit {0}
HasResult structs (Some Int) b v s = Unit {0}
HasResult structs (Some Char) b v s = Unit {0}
HasResult structs (Some (Struct number)) b v s = Unit {0}
HasResult structs (Some (Pointer m kinds.One t)) b v s = Unit {0}
HasResult structs (Some (Pointer m kinds.Nt t)) None v s = Unit {0}
HasResult structs (Some (Pointer m kinds.Nt t)) (Some b) None s = Unit {0}
HasResult structs (Some (Pointer m kinds.Nt t)) (Some b) (Some v) s = IsValid structs (Some b) (record { type = Pointer m kinds.Nt t; value = v }) s
HasResult structs (Some (Pointer m kinds.Array t)) None v s = Unit {0}
HasResult structs (Some (Pointer m kinds.Array t)) (Some b) None s = Unit {0}
HasResult structs (Some (Pointer m kinds.Array t)) (Some b) (Some v) s = IsValid structs (Some b) (record { type = Pointer m kinds.Array t; value = v }) s

-- how a statement may end
abbrev pub EndsAs : Frame → Option CType → Option Bounds → Bool → Flow → State → Type 0
EndsAs g result bounds loop Next s = Unit {0}
EndsAs g result bounds loop Broke s = loop ≡ true
EndsAs g result bounds loop Continued s = loop ≡ true
EndsAs g result bounds loop (Returned v) s = IsAnswer g result v s × HasResult g.structs result bounds v s

-- it goes on to the next one
abbrev pub IsNext : Flow → State → Type 0
IsNext flow s = flow ≡ Next

module _ (g : Frame) (budget n : ℕ) where
  -- what a state keeps where the locals have these types, and so many ticks were spent at least: its blocks are those of the
  -- variables and what was added, each cell and each local holds a value of its type, the calls and turns that may follow are
  -- enough, and file-level pointers are valid with the bounds that are declared for them
  pub record IsKept (low : ℕ) (types : List CType) (s : State) : Type 0 where
    pub grown : Grows (shapes (map object_block g.program.objects)) (shaped s)
    pub cells : AllByRecursion (HoldsValues g.structs (shaped s)) s.blocks
    pub locals : HaveLocals g.structs (shaped s) types s.locals
    pub world : IsWorld budget low s.world
    pub enough : budget ≤ low + n
    pub held : HoldBounds g s
    pub zeros : EndInZeros s.blocks
    pub short : AreShort (shaped s)

  -- a step of an expression from a state: it gives what it should among the same locals, where blocks were only added, or ends
  abbrev pub Goes : {A : Type 0} → ℕ → List CType → State → (A → State → Type 0) → Result A → Type 0
  Goes low types r P o = Sure (λ v s. P v s × IsAfter r s × IsKept low types s) o

  -- a step of a statement
  abbrev pub Runs : {A : Type 0} → ℕ → List CType → (A → State → Type 0) → Result A → Type 0
  Runs low types P o = Sure (λ v s. P v s × IsKept low types s) o

  later_goes : {A : Type 0} (low : ℕ) (types : List CType) (r s : State) (P : A → State → Type 0) (o : Result A) → IsAfter r s → Goes low types s P o → Goes low types r P o
  later_goes low types r s P o after h = sure_further (λ v t. P v t × IsAfter s t × IsKept low types t) (λ v t. P v t × IsAfter r t × IsKept low types t) o h (λ v t k. (k.0, after_on r s t after k.1, k.2))

  pub goes_on : {A B : Type 0} (low : ℕ) (types : List CType) (r : State) (P : A → State → Type 0) (Q : B → State → Type 0) (o : Result A) (next : A → State → Result B) → Goes low types r P o
      → ((v : A) (s : State) → IsAfter r s → P v s → IsKept low types s → Goes low types s Q (next v s)) → Goes low types r Q (and_then o next)
  goes_on low types r P Q o next h more =
      sure_on (λ v s. P v s × IsAfter r s × IsKept low types s) (λ v s. Q v s × IsAfter r s × IsKept low types s) o next h (λ v s k. later_goes low types r s Q (next v s) k.1 (more v s k.1 k.0 k.2))

  pub goes_further : {A : Type 0} (low : ℕ) (types : List CType) (r : State) (P Q : A → State → Type 0) (o : Result A) → Goes low types r P o → ((v : A) (s : State) → P v s → Q v s) → Goes low types r Q o
  goes_further low types r P Q o h more = sure_further (λ v s. P v s × IsAfter r s × IsKept low types s) (λ v s. Q v s × IsAfter r s × IsKept low types s) o h (λ v s k. (more v s k.0, k.1, k.2))

  pub runs_of : {A : Type 0} (low : ℕ) (types : List CType) (r : State) (P : A → State → Type 0) (o : Result A) → Goes low types r P o → Runs low types P o
  runs_of low types r P o h = sure_further (λ v s. P v s × IsAfter r s × IsKept low types s) (λ v s. P v s × IsKept low types s) o h (λ v s k. (k.0, k.2))

  -- a statement behind an expression, and behind another statement
  pub runs_on : {A B : Type 0} (low : ℕ) (types : List CType) (r : State) (P : A → State → Type 0) (Q : B → State → Type 0) (o : Result A) (next : A → State → Result B) → Goes low types r P o
      → ((v : A) (s : State) → IsAfter r s → P v s → IsKept low types s → Runs low types Q (next v s)) → Runs low types Q (and_then o next)
  runs_on low types r P Q o next h more = sure_on (λ v s. P v s × IsAfter r s × IsKept low types s) (λ v s. Q v s × IsKept low types s) o next h (λ v s k. more v s k.1 k.0 k.2)

  pub runs_then : {A B : Type 0} (low : ℕ) (types : List CType) (P : A → State → Type 0) (Q : B → State → Type 0) (o : Result A) (next : A → State → Result B) → Runs low types P o
      → ((v : A) (s : State) → P v s → IsKept low types s → Runs low types Q (next v s)) → Runs low types Q (and_then o next)
  runs_then low types P Q o next h more = sure_on (λ v s. P v s × IsKept low types s) (λ v s. Q v s × IsKept low types s) o next h (λ v s k. more v s k.0 k.1)

  pub runs_further : {A : Type 0} (low : ℕ) (types : List CType) (P Q : A → State → Type 0) (o : Result A) → Runs low types P o → ((v : A) (s : State) → P v s → Q v s) → Runs low types Q o
  runs_further low types P Q o h more = sure_further (λ v s. P v s × IsKept low types s) (λ v s. Q v s × IsKept low types s) o h (λ v s k. (more v s k.0, k.1))

  -- with what was found of it elsewhere
  pub runs_both : {A : Type 0} (low : ℕ) (types : List CType) (P Q : A → State → Type 0) (o : Result A) → Runs low types P o → WhereGiven Q o → Runs low types (λ v s. P v s × Q v s) o
  runs_both low types P Q o h k =
      sure_further (λ v s. (P v s × IsKept low types s) × Q v s) (λ v s. (P v s × Q v s) × IsKept low types s) o (sure_both (λ v s. P v s × IsKept low types s) Q o h k) (λ v s x. ((x.0.0, x.1), x.0.1))

  -- in another world so many ticks were spent
  pub kept_in : (low lower : ℕ) (types : List CType) (s : State) (w : World) → IsWorld budget lower w → budget ≤ lower + n → IsKept low types s → IsKept lower types (in_world w s)
  kept_in low lower types s w world enough kept = record { grown = kept.grown; cells = kept.cells; locals = kept.locals; world = world; enough = enough; held = held_same g s (in_world w s) refl kept.held; zeros = kept.zeros; short = kept.short }

  -- what asks the world goes on with the same blocks and locals, and may have spent a tick
  pub asked_goes : {A B : Type 0} (low lower : ℕ) (types : List CType) (P : A → Type 0) (Q : B → State → Type 0) (o : Asked A) (s : State) (next : A → State → Result B) → Answers budget lower P o → budget ≤ lower + n → IsKept low types s
      → ((v : A) (t : State) → IsAfter s t → P v → IsKept lower types t → Goes lower types t Q (next v t)) → Goes lower types s Q (asked o s next)
  asked_goes low lower types P Q (Got v w) s next h enough kept more =
      later_goes lower types s (in_world w s) Q (next v (in_world w s)) (after_here s) (more v (in_world w s) (after_here s) h.0 (kept_in low lower types s w h.1 enough kept))
  asked_goes low lower types P Q (Ended ending w) s next h enough kept more = tt

  pub asked_runs : {A B : Type 0} (low lower : ℕ) (types : List CType) (P : A → Type 0) (Q : B → State → Type 0) (o : Asked A) (s : State) (next : A → State → Result B) → Answers budget lower P o → budget ≤ lower + n → IsKept low types s
      → ((v : A) (t : State) → IsAfter s t → P v → IsKept lower types t → Runs lower types Q (next v t)) → Runs lower types Q (asked o s next)
  asked_runs low lower types P Q (Got v w) s next h enough kept more = more v (in_world w s) (after_here s) h.0 (kept_in low lower types s w h.1 enough kept)
  asked_runs low lower types P Q (Ended ending w) s next h enough kept more = tt

  -- behind a tick more ticks were spent at least
  kept_lowered : (low : ℕ) (types : List CType) (s : State) → budget ≤ low + n → IsKept (suc low) types s → IsKept low types s
  kept_lowered low types s enough kept = let w = kept.world in record { grown = kept.grown; cells = kept.cells; locals = kept.locals; world = (w.0, w.1, omega (arith, w.2), w.3); enough = enough; held = kept.held; zeros = kept.zeros; short = kept.short }

  pub lowered : {A : Type 0} (low : ℕ) (types : List CType) (r : State) (P : A → State → Type 0) (o : Result A) → budget ≤ low + n → Goes (suc low) types r P o → Goes low types r P o
  lowered low types r P o enough h = sure_further (λ v s. P v s × IsAfter r s × IsKept (suc low) types s) (λ v s. P v s × IsAfter r s × IsKept low types s) o h (λ v s k. (k.0, k.1, kept_lowered low types s enough k.2))

  pub lowered_runs : {A : Type 0} (low : ℕ) (types : List CType) (P : A → State → Type 0) (o : Result A) → budget ≤ low + n → Runs (suc low) types P o → Runs low types P o
  lowered_runs low types P o enough h = sure_further (λ v s. P v s × IsKept (suc low) types s) (λ v s. P v s × IsKept low types s) o h (λ v s k. (k.0, kept_lowered low types s enough k.1))

  -- what a function gives: a result that is valid with its bounds, where the locals are as they were at its entry
  abbrev pub IsResult : Option CType → Option Bounds → (locals : List CType) → List Value → Option Value → State → Type 0
  IsResult result r locals vs v s = IsAnswer g result v s × HasResult g.structs result r v (record s { locals = locals_for locals vs })

  -- calls that come behind a tick
  pub record IsKnot (k : Knot) : Type 0 where
    pub call : (low : ℕ) (types : List CType) (function : ℕ) (f : core.Function) (vs : List Value) (s : State) → slice_get g.program.functions function ≡ Some f → (bs : List (Option Bounds)) → slice_get g.bounds function ≡ Some bs
        → (r : Option Bounds) → slice_get g.result_bounds function ≡ Some r → OfTypes g (parameters_of f) vs s
        → AreEntered g.structs bs (record s { locals = locals_for f.locals vs }) → suc budget ≤ low + n → IsKept low types s → Goes low types s (IsResult f.result r f.locals vs) (k.call function vs s)
    pub sandbox : (low : ℕ) (types : List CType) (s : State) → suc budget ≤ low + n → IsKept low types s → Goes low types s IsReply (k.sandbox s)
    pub keeps : CallsKeep k

-- in a knot of more ticks
pub raised_runs : (g : Frame) (budget n m low : ℕ) (types : List CType) (P : Flow → State → Type 0) (o : Result Flow) → budget ≤ low + n → Runs g budget m low types P o → Runs g budget n low types P o
raised_runs g budget n m low types P o enough h =
    sure_further (λ v s. P v s × IsKept g budget m low types s) (λ v s. P v s × IsKept g budget n low types s) o h
    (λ v s k. (k.0, record { grown = k.1.grown; cells = k.1.cells; locals = k.1.locals; world = k.1.world; enough = enough; held = k.1.held; zeros = k.1.zeros; short = k.1.short }))
