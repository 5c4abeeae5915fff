-- The open calls, and the lines of the table that begin and end them.
use Rattle.std.proofs.Common.{◌≡◌, ℕ, ℤ, suc, ◌≤◌, Bool, true, false, nat_le, if◌then◌else◌, List, [], ◌∷◌, Option, Some, None, length, take, reverse, refl, sym, ap, ◌∙◌, arith}
use Rattle.std.specs.Prelude.{slice_get, All}
use Rattle.std.specs.Option.{option_copied}
use Rattle.std.specs.Slice.{IsItemAt}
use Rattle.std.specs.Borrow.{Bor}
use Rattle.std.proofs.lemmas.Bool.Decides.{nat_tests}
use Rattle.std.proofs.lemmas.List.{length-take-le, length-reverse}
use Rattle.std.proofs.lemmas.Option.{slice_get_past, slice_get_read, slice_get_within, get_or_from_slice_get}
use Rattle.ckc_text.specs.declared.place.Place.{Place}
use Rattle.ckc_text.specs.declared.code.Code.{Code}
use Rattle.ckc_text.specs.declared.code.Code.TheVariants.{C4, C9, S6}
use Rattle.act_words.specs.declared.ending.Ending.{Ending}
use Rattle.act_words.specs.declared.ending.Ending.TheVariants as endings
use Rattle.marshalling.specs.declared.fault.MarshalFault.{MarshalFault}
use Rattle.marshalling.specs.declared.fault.MarshalFault.TheVariants as faults
use Rattle.code_words.specs.Moves.{tested, run_callback, at_place_of}
use Rattle.code_words.specs.declared.image.Callback.{Callback}
use Rattle.code_words.specs.declared.image.Image.{Image}
use Rattle.marshalling.specs.declared.signature.Param.{Param}
use Rattle.code_words.specs.Table.{State, Over, wild}
use Rattle.two_memory_machine_memory.specs.declared.calls.Link.{Link}
use Rattle.two_memory_machine_memory.specs.declared.calls.Link.TheVariants.{Called, CallsBack}
use Rattle.two_memory_machine_states.specs.declared.running_image.Phase.{Phase}
use Rattle.two_memory_machine_states.specs.declared.running_image.Phase.TheVariants as phases
use Rattle.two_memory_machine_memory.specs.CallStacks.{Behind, callers_with, callers_of}
use Rattle.two_memory_machine_states.specs.Insides.{doing_of}
use Rattle.two_memory_machine_states.specs.Machines.{Running, NeedsNumber, HasNumber}
use Rattle.two_memory_machine_states.specs.Steps.{top_words_of, IsSuspended}
use Rattle.two_memory_machine_memory.specs.Faults.{ending_at, fault_ending}

-- what `get` of a slice finds
pub item_found : {X : Type 0} (xs : List X) (k : ℕ) (item : Option (Bor X)) → IsItemAt xs k item → option_copied item ≡ slice_get xs k
item_found xs k None found = sym (slice_get_past xs k found.3)
item_found xs k (Some item) found = sym (slice_get_read xs _ k item.now refl found.3.0 found.1)

pub one_found : {X : Type 0} (xs : List X) (k : ℕ) (a b : X) → slice_get xs k ≡ Some a → slice_get xs k ≡ Some b → a ≡ b
one_found xs k a b e h = let both : Some a ≡ Some b = sym e ∙ h in cc

pub all_found : {X : Type 0} (P : X → Type 0) (xs : List X) (k : ℕ) (x : X) → All P xs → slice_get xs k ≡ Some x → P x
all_found P xs k x all e = rw (get_or_from_slice_get xs k x x e) at (all k x (slice_get_within xs k x e))

pub running : (phase : Phase) → doing_of phase ≡ Running → phase ≡ phases.Running
running phases.Running h = refl
running phases.NeedsNumber h = absurd (cc)
running (phases.HasNumber number) h = absurd (cc)
running (phases.Touching touch) h = absurd (cc)
running (phases.Suspended import place) h = absurd (cc)

-- each call has a caller, and that of a callback two
pub length-callers : (bs : List Behind) → length bs ≤ length (callers_of bs)
length-callers [] = omega arith
length-callers (b ∷ bs) = by b.link (length-callers bs)
  where
    by : (link : Link) → length bs ≤ length (callers_of bs) → suc (length bs) ≤ length (callers_with link b.frame (callers_of bs))
    by Called h = omega (arith, h)
    by (CallsBack callback import place) h = omega (arith, h)

-- words that were found on a stack
pub record AreTop (n : ℕ) (stack words : List ℕ) : Type 0 where
  pub enough : nat_le n (length stack) ≡ true
  pub same : words ≡ reverse (take n stack)
  pub count : length words ≡ n

pub are_top : (n : ℕ) (stack words : List ℕ) → Some words ≡ top_words_of n stack → AreTop n stack words
are_top n stack words h = by (nat_le n (length stack)) refl h
  where
    by : (b : Bool) → nat_le n (length stack) ≡ b → Some words ≡ (if b then Some (reverse (take n stack)) else None) → AreTop n stack words
    by true e f =
        let is : words ≡ reverse (take n stack) = cc in
        let low : n ≤ length stack = grind (arith, nat_tests) in
        record { enough = e; same = is; count = ap length is ∙ length-reverse (take n stack) ∙ length-take-le n stack low }
    by false e f = cc

-- ---- callbacks

-- a call that waits for the sandbox
pub record IsAway (phase : Phase) : Type 0 where
  pub import : ℕ
  pub place : Place
  pub is : phase ≡ phases.Suspended import place

pub away : (phase : Phase) → IsSuspended (doing_of phase) → IsAway phase
away phases.Running h = absurd h
away phases.NeedsNumber h = absurd h
away (phases.HasNumber number) h = absurd h
away (phases.Touching touch) h = absurd h
away (phases.Suspended import place) h = record { import = import; place = place; is = refl }

-- a check of a parameter ends the run at the parameter's place
checked_at : (code : Code) (p : Option Param) (s : State) → at_place_of p (λ place. Over (endings.Check code place) s) (wild s) ≡ Over (ending_at code p) s
checked_at code None s = refl
checked_at code (Some p) s = refl

pub tested_ends : (image : Image) (k : ℕ) (callback : Callback) (fault : Option MarshalFault) (words : List ℕ) (s : State) (ending : Ending) → Some ending ≡ fault_ending callback.signature fault → tested image k callback fault words s ≡ Over ending s
tested_ends image k callback None words s ending e = absurd (cc)
tested_ends image k callback (Some faults.Count) words s ending e = let same : ending ≡ endings.Stop S6 None = cc in rw same refl
tested_ends image k callback (Some (faults.Char param)) words s ending e = let same : ending ≡ ending_at C9 (slice_get callback.signature param) = cc in rw same (checked_at C9 (slice_get callback.signature param) s)
tested_ends image k callback (Some (faults.Range param)) words s ending e = let same : ending ≡ ending_at C4 (slice_get callback.signature param) = cc in rw same (checked_at C4 (slice_get callback.signature param) s)

pub tested_passes : (image : Image) (k : ℕ) (callback : Callback) (fault : Option MarshalFault) (words : List ℕ) (s : State) → None ≡ fault_ending callback.signature fault → tested image k callback fault words s ≡ run_callback k callback (slice_get image.trusted.funs callback.fun) words s
tested_passes image k callback None words s e = refl
tested_passes image k callback (Some faults.Count) words s e = absurd (cc)
tested_passes image k callback (Some (faults.Char param)) words s e = absurd (cc)
tested_passes image k callback (Some (faults.Range param)) words s e = absurd (cc)

pub needs : (phase : Phase) → doing_of phase ≡ NeedsNumber → phase ≡ phases.NeedsNumber
needs phases.Running h = absurd (cc)
needs phases.NeedsNumber h = refl
needs (phases.HasNumber number) h = absurd (cc)
needs (phases.Touching touch) h = absurd (cc)
needs (phases.Suspended import place) h = absurd (cc)

pub has : (phase : Phase) (number : ℤ) → doing_of phase ≡ HasNumber number → phase ≡ phases.HasNumber number
has phases.Running number h = absurd (cc)
has phases.NeedsNumber number h = absurd (cc)
has (phases.HasNumber given) number h = let same : given ≡ number = cc in ap phases.HasNumber same
has (phases.Touching touch) number h = absurd (cc)
has (phases.Suspended import place) number h = absurd (cc)
