-- Code without functions lets touches through and ends once it has the turn, as the sandbox of a source without bodies does.
use Rattle.std.proofs.Common.{◌≡◌, ℕ, ◌⊎◌, inl, inr, List, [], ◌∷◌, Option, Some, None, refl, sym, ap, ◌∙◌, subst}
use Rattle.std.specs.Prelude.{All}
use Rattle.std.proofs.lemmas.List.Elements.{All-nil, All-cons}
use Rattle.std.proofs.lemmas.Option.{same_Some}
use Rattle.ckc_io.specs.Files.{Files}
use Rattle.act_words.specs.declared.act.Turn.{Turn}
use Rattle.act_words.specs.declared.act.Turn.TheVariants as turns
use Rattle.act_words.specs.Acts.{Act, IsAct, Stop, Seen, SeenBytes, SeenCall, SeenReply}
use Rattle.act_words.specs.View.{acts_of}
use Rattle.act_words.specs.World.{Event, Took, Output, Released, Showed, NoAct}
use Rattle.code_words.specs.Images.{Image}
use Rattle.code_words.specs.SandboxCode.{State, resting, answered}
use Rattle.sandbox_actor.specs.Answers.{Moment, Gives}
use Rattle.sandbox_actor_code.specs.Answering.{CodeState, AnswersFrom, CodeAnswers, stopped_act, taken_of}
use Rattle.run_core.specs.Gave.{Gave}
use Rattle.ccbox_call.specs.Supplies.{FromCode, WithoutBodies}

-- an image without sandbox functions, whose code rests or has stopped
pub record IsBare (c : CodeState) : Type 0 where
  pub bare : c.image.sandbox.funs ≡ []
  pub idle : (c.state ≡ Some resting) ⊎ (c.state ≡ None)

-- what is shown to it makes it stop
stops : (image : Image) (budget n : ℕ) (seen : Option Seen) → image.sandbox.funs ≡ [] → answered image budget n resting seen ≡ Some (Stop, resting)
stops image budget n None bare = refl
stops image budget n (Some (SeenBytes at bytes)) bare = refl
stops image budget n (Some (SeenCall number words)) bare = rw bare refl
stops image budget n (Some (SeenReply value)) bare = refl

-- its act is that of code that has stopped, and it stays idle
module _ (image : Image) (budget : ℕ) (bare : image.sandbox.funs ≡ []) where
  abbrev Idle : Option State → Type 0
  Idle state = (state ≡ Some resting) ⊎ (state ≡ None)

  rest_answers : (turn : Turn) (last : Option Seen) (act : Act) (after : Option State) → AnswersFrom image budget (Some resting) (record { turn = turn; last = last }) act after → (act ≡ stopped_act turn) × Idle after
  rest_answers turns.Trusted last act after h = (h.1.0, inl (h.2 ∙ rw (h.1.0, h.1.1) refl))
  rest_answers turns.Sandbox last act after h =
      let both = same_Some (act, h.0) (Stop, resting) (sym h.1.1 ∙ stops image budget h.1.0 (taken_of last) bare) in
      let is_stop : act ≡ Stop = ap (λ (x : Act × State). x.0) both in
      (is_stop, inr (h.2 ∙ rw is_stop refl))

  idle_answers : (turn : Turn) (last : Option Seen) (before : Option State) (act : Act) (after : Option State) → Idle before → AnswersFrom image budget before (record { turn = turn; last = last }) act after → (act ≡ stopped_act turn) × Idle after
  idle_answers turn last before act after (inl rests) h = rest_answers turn last act after (rw rests at h)
  idle_answers turn last before act after (inr stopped) h = let k = rw stopped at h in (k.0, inr k.1)

  idle_gives : (turn : Turn) (last : Option Seen) (before : Option State) → Idle before → (after : Option State) × AnswersFrom image budget before (record { turn = turn; last = last }) (stopped_act turn) after × Idle after
  idle_gives turn last before (inr stopped) = (None, rw stopped (refl, refl), inr refl)
  idle_gives turns.Trusted last before (inl rests) = (Some resting, rw rests (resting, (refl, refl), refl), inl refl)
  idle_gives turns.Sandbox last before (inl rests) = (None, rw rests (resting, (0, stops image budget 0 (taken_of last) bare), refl), inr refl)

bare_answers : (before after : CodeState) (now : Moment) (act : Act) → IsBare before → CodeAnswers before now (Gives act) after → (act ≡ stopped_act now.turn) × IsBare after
bare_answers before after now act is h =
    let x = idle_answers before.image before.budget is.bare now.turn now.last before.state act after.state is.idle h.0 in
    (x.0, record { bare = ap (λ (i : Image). i.sandbox.funs) h.1 ∙ is.bare; idle = x.1 })

bare_gives : (before : CodeState) (now : Moment) → IsBare before → (after : CodeState) × CodeAnswers before now (Gives (stopped_act now.turn)) after × IsBare after
bare_gives before now is =
    let x = idle_gives before.image before.budget is.bare now.turn now.last before.state is.idle in
    (record before { state = x.0 }, (x.1, refl, refl), record { bare = is.bare; idle = x.2 })

-- the acts of its events are those without bodies, and the other way round
pub without_bodies : (files : Option Files) (before after : CodeState) (last : Option Seen) (events : List Event) → IsBare before → Gave FromCode files before last events after → Gave WithoutBodies None tt last events tt
without_bodies files before after last [] is h = refl
without_bodies files before after last (Took turn act ∷ events) is h =
    let x = bare_answers before h.0 (record { turn = turn; last = last }) act is h.1 in
    (tt, x.0, without_bodies files h.0 after last events x.1 h.2)
without_bodies files before after last (Output bytes ∷ events) is h = without_bodies files before after last events is h
without_bodies files before after last (Released release ∷ events) is h = without_bodies files before after last events is h
without_bodies files before after last (Showed seen ∷ events) is h = without_bodies files before after (Some seen) events is h
without_bodies files before after last (NoAct turn ∷ events) is h = absurd h

pub by_bare_code : (before : CodeState) (last : Option Seen) (events : List Event) → IsBare before → Gave WithoutBodies None tt last events tt → (after : CodeState) × Gave FromCode None before last events after
by_bare_code before last [] is h = (before, refl)
by_bare_code before last (Took turn act ∷ events) is h =
    let x = bare_gives before (record { turn = turn; last = last }) is in
    let rest = by_bare_code x.0 last events x.2 h.2 in
    (rest.0, (x.0, subst (λ a. CodeAnswers before (record { turn = turn; last = last }) (Gives a) x.0) (sym h.1) x.1, rest.1))
by_bare_code before last (Output bytes ∷ events) is h = by_bare_code before last events is h
by_bare_code before last (Released release ∷ events) is h = by_bare_code before last events is h
by_bare_code before last (Showed seen ∷ events) is h = by_bare_code before (Some seen) events is h
by_bare_code before last (NoAct turn ∷ events) is h = absurd h

-- they are acts
stopped_is_act : (turn : Turn) → IsAct (stopped_act turn)
stopped_is_act turns.Trusted = tt
stopped_is_act turns.Sandbox = tt

pub are_acts_without : (last : Option Seen) (events : List Event) → Gave WithoutBodies None tt last events tt → All IsAct (acts_of events)
are_acts_without last [] h = All-nil IsAct
are_acts_without last (Took turn act ∷ events) h = All-cons IsAct act (acts_of events) (subst IsAct (sym h.1) (stopped_is_act turn)) (are_acts_without last events h.2)
are_acts_without last (Output bytes ∷ events) h = are_acts_without last events h
are_acts_without last (Released release ∷ events) h = are_acts_without last events h
are_acts_without last (Showed seen ∷ events) h = are_acts_without (Some seen) events h
are_acts_without last (NoAct turn ∷ events) h = absurd h
