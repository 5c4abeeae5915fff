-- The acts that an actor gave in a run: one answer after another, each at the moment at which the run needs it.
use Rattle.std.specs.Prelude.{List, [], ◌∷◌, ◌++◌, Option}
use Rattle.std.proofs.Common.{ℤ}
use Rattle.act_words.specs.declared.settings.Settings.{Settings}
use Rattle.act_words.specs.Acts.{Act}
use Rattle.act_words.specs.World.{Event}
use Rattle.ckc_io.specs.Files.{Files}
use Rattle.sandbox_actor.specs.Answers.{Moment, Gives}
use Rattle.code_words.specs.declared.image.Image.{Image}
use Rattle.run_core.specs.Asked.{Answering}
use Rattle.run_core.specs.Moments.{IsDue}

-- while the image ran, the actor gave these acts, and went from the first state to the second
pub data Chain {S : Type 0} (answers : Answering S) (files : Option Files) (image : Image) (settings : Settings) (inputs : List ℤ)
    : S → List Act → S → Type 0 where
  none : {state : S} → Chain answers files image settings inputs state [] state
  more : {first mid last : S} {acts : List Act} {act : Act} {moment : Moment} {events : List Event} → Chain answers files image settings inputs first acts mid
      → IsDue image settings inputs acts moment events → answers mid files moment (Gives act) last
      → Chain answers files image settings inputs first (acts ++ act ∷ []) last
