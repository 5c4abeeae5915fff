-- What a step of a meaning answers, over states of any kind.
use Rattle.std.specs.Prelude.{◌≡◌, Option, refl}
use Rattle.act_words.specs.declared.ending.Ending.{Ending}
use Rattle.ckc_core.specs.declared.program.Site.{Site}

-- A value and the state behind it, an ending and the last state, a step that has no meaning in this state, with its site where
-- it has one, a pointer that isn't valid with its bounds, or too few ticks to tell
pub data Outcome (S A : Type 0) : Type 0 where
  Gives : (value : A) (state : S) → Outcome S A
  Ends : (ending : Ending) (state : S) → Outcome S A
  Stuck : (site : Option Site) (state : S) → Outcome S A
  Unsound : (site : Site) (state : S) → Outcome S A
  Short : Outcome S A

-- goes on from a value, and stays with anything else
abbrev pub and_then : {S A B : Type 0} → Outcome S A → (A → S → Outcome S B) → Outcome S B
and_then (Gives value state) next = next value state
and_then (Ends ending state) next = Ends ending state
and_then (Stuck site state) next = Stuck site state
and_then (Unsound site state) next = Unsound site state
and_then Short next = Short

-- to go on with the value alone changes nothing
pub and_then-gives : {S A : Type 0} (o : Outcome S A) → and_then o Gives ≡ o
and_then-gives (Gives value state) = refl
and_then-gives (Ends ending state) = refl
and_then-gives (Stuck site state) = refl
and_then-gives (Unsound site state) = refl
and_then-gives Short = refl

-- it doesn't matter how steps are grouped
pub and_then-and_then : {S A B C : Type 0} (o : Outcome S A) (f : A → S → Outcome S B) (g : B → S → Outcome S C)
    → and_then (and_then o f) g ≡ and_then o (λ a s. and_then (f a s) g)
and_then-and_then (Gives value state) f g = refl
and_then-and_then (Ends ending state) f g = refl
and_then-and_then (Stuck site state) f g = refl
and_then-and_then (Unsound site state) f g = refl
and_then-and_then Short f g = refl
