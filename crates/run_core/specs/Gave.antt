-- The acts of a run's events, by the actor that gave them.
use Rattle.std.specs.Prelude.{◌≡◌, ℕ, List, [], ◌∷◌, Option, Some}
use Rattle.ckc_io.specs.Files.{Files}
use Rattle.act_words.specs.Acts.{Act, Seen}
use Rattle.act_words.specs.World.{Event, Took, Output, Released, Showed, NoAct}
use Rattle.sandbox_actor.specs.Answers.{Moment, Answer, Gives, Lowers}
use Rattle.run_core.specs.Asked.{Answering}

-- each act that was taken in these events is the actor's answer at its moment, from the first state to the second, where this was shown
-- last before them; and none was lacking
abbrev pub Gave : {S : Type 0} → Answering S → Option Files → S → Option Seen → List Event → S → Type 0
Gave answers files before last [] after = after ≡ before
Gave {S} answers files before last (Took turn act ∷ events) after =
    (mid : S) × answers before files (record { turn = turn; last = last }) (Gives act) mid × Gave answers files mid last events after
Gave answers files before last (Output bytes ∷ events) after = Gave answers files before last events after
Gave answers files before last (Released release ∷ events) after = Gave answers files before last events after
Gave answers files before last (Showed seen ∷ events) after = Gave answers files before (Some seen) events after
Gave answers files before last (NoAct turn ∷ events) after = ⊥

-- from each state of these the actor has one answer at each moment, at most, and one state behind it, which is one of these
pub record AnswersOnce {S : Type 0} (answers : Answering S) (files : Option Files) (Ok : S → Type 0) : Type 0 where
  pub one : (before after after' : S) (now : Moment) (x y : Answer) → Ok before → answers before files now x after
      → answers before files now y after' → (x ≡ y) × (after ≡ after')
  pub stays : (before after : S) (now : Moment) (x : Answer) → Ok before → answers before files now x after → Ok after

-- and it has an act at each moment, behind which fewer steps are left to it, if the act leaves the turn and makes no touch
pub record AlwaysActs {S : Type 0} (answers : Answering S) (files : Option Files) (Ok : S → Type 0) (left : S → ℕ) : Type 0 where
  pub some : (before : S) (now : Moment) → Ok before → (act : Act) × (after : S) × answers before files now (Gives act) after
  pub lowers : (before after : S) (now : Moment) (act : Act) → Ok before → answers before files now (Gives act) after
      → Lowers now.turn act (left before) (left after)
