-- The acts that an actor answers, and the actor that keeps them.
use Rattle.std.specs.Prelude.{◌≡◌, List, [], ◌∷◌, ◌++◌, Option}
use Rattle.act_words.specs.Acts.{Act}
use Rattle.ckc_io.specs.Files.{Files}
use Rattle.sandbox_actor.specs.Answers.{Answer, Gives, Ended, Refused, Missing, Moment}

-- behind an answer: an act stands behind those that were kept
abbrev pub recorded : Answer → List Act → List Act
recorded (Gives act) acts = acts ++ act ∷ []
recorded Ended acts = acts
recorded (Refused line code) acts = acts
recorded Missing acts = acts

-- the relation of an actor: over files that may be told, at a moment, an answer and the state behind it
abbrev pub Answering : Type 0 → Type 1
Answering S = S → Option Files → Moment → Answer → S → Type 0

-- what the other actor may answer is answered, and an act is kept
abbrev pub RecordingAnswers : {S : Type 0} → Answering S → Answering (S × List Act)
RecordingAnswers answers before files now answer after = answers before.0 files now answer after.0 × (after.1 ≡ recorded answer before.1)

-- from a state there is at most one answer at each moment, with one state behind it
abbrev pub HasOneAnswer : {S : Type 0} → Answering S → S → Type 0
HasOneAnswer {S} answers before = (after after' : S) (files : Option Files) (now : Moment) (x y : Answer)
    → answers before files now x after → answers before files now y after' → (x ≡ y) × (after ≡ after')

-- one act after another was answered, over any files and at any moments
pub data Gave {S : Type 0} (answers : Answering S) : S → List Act → S → Type 0 where
  none : {state : S} → Gave answers state [] state
  more : {first mid last : S} {acts : List Act} {act : Act} {files : Option Files} {now : Moment}
      → Gave answers first acts mid → answers mid files now (Gives act) last → Gave answers first (acts ++ act ∷ []) last
