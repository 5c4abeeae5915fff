-- A paced image has a run whose acts an actor gave that has an act at each moment.
use Rattle.std.proofs.Common.{◌≡◌, ℕ, zero, suc, ◌<◌, ◌≤◌, inl, inr, ℤ, List, [], ◌∷◌, ◌++◌, Option, None, refl, sym, ap, ◌∙◌, subst, arith}
use Rattle.std.specs.Prelude.{IsTrue}
use Rattle.ckc_io.specs.Files.{Files}
use Rattle.act_words.specs.declared.act.Turn.{Turn}
use Rattle.act_words.specs.declared.act.Turn.TheVariants as turns
use Rattle.act_words.specs.declared.ending.Ending.{Ending}
use Rattle.act_words.specs.declared.settings.Settings.{Settings}
use Rattle.act_words.specs.Acts.{Act}
use Rattle.act_words.specs.World.{Took}
use Rattle.sandbox_actor.specs.Answers.{Moment}
use Rattle.code_words.specs.Images.{Image}
use Rattle.code_words.specs.Left.{moves_left, LeavesTurn}
use Rattle.code_words.specs.Moves.{move, take_before_touch, take_in_sandbox}
use Rattle.code_words.specs.Paced.{is_paced}
use Rattle.code_words.specs.Runs.{Finished, CodeRun, exec, go_on, started}
use Rattle.code_words.specs.Table.{Control, Runs, Touches, Away, State, Step, Goes, Over, step}
use Rattle.code_words.proofs.Left.{Falls, Sooner, runs-falls, touches-sooner, away-sooner}
use Rattle.run_core.specs.Asked.{Answering}
use Rattle.run_core.specs.Touched.{last_of}
use Rattle.run_core.specs.Gave.{AnswersOnce, AlwaysActs}
use Rattle.run_core.proofs.Nearing.{lowers_by}
use Rattle.run_core.proofs.ActsLeft.{InTurn, leaving, step_leaving, MovesBy, instruction_moves, touch_moves, away_moves}
use Rattle.run_core.proofs.GaveParts.{gave-ok}
use Rattle.run_core.proofs.OneRun.{GaveAll, GaveTo, LedTo, quietly_led, took_led}

-- as many moves are left, whichever acts are
same_left : (image : Image) (settings : Settings) (acts : List Act) (s : State) → moves_left image settings (leaving acts s) ≡ moves_left image settings s
unfolding moves_left
same_left image settings acts s = refl

module _ {S : Type 0} (answers : Answering S) (files : Option Files) (first : S) (Ok : S → Type 0) (left : S → ℕ) (once : AnswersOnce answers files Ok) (always : AlwaysActs answers files Ok left) (ok : Ok first)
    (image : Image) (settings : Settings) (paced : IsTrue (is_paced image)) where
  -- over some acts, all of which it takes, the run from a state ends, and the actor gave its acts
  pub record SomeEnd (s : State) : Type 0 where
    pub acts : List Act
    pub steps : ℕ
    pub ending : Ending
    pub last : State
    pub ends : exec image settings steps (leaving acts s) ≡ Finished ending last
    pub used : last.world.acts ≡ []
    pub all : GaveAll answers files first last.world.events

  -- behind a step
  abbrev Behind : Step → Type 0
  Behind (Goes t) = SomeEnd t
  Behind (Over ending t) = Unit {0}

  by_step : (s : State) (before : List Act → List Act) (a : S) (st : Step) → ((acts : List Act) → move image settings (leaving (before acts) s) ≡ step_leaving acts st) → LedTo answers files first a st → Behind st → SomeEnd s
  by_step s before a (Goes t) same led h = record {
    acts = before h.acts;
    steps = suc h.steps;
    ending = h.ending;
    last = h.last;
    ends = ap (λ x. go_on x (exec image settings h.steps)) (same h.acts) ∙ h.ends;
    used = h.used;
    all = h.all;
  }
  by_step s before a (Over ending t) same led h = record {
    acts = before [];
    steps = suc zero;
    ending = ending;
    last = leaving [] t;
    ends = ap (λ x. go_on x (exec image settings zero)) (same []);
    used = refl;
    all = (a, led);
  }

  -- from each state with fewer moves left there is one
  abbrev EndBelow : ℕ → Type 0
  EndBelow m = (t : State) (a : S) → InTurn t → GaveTo answers files first t.world.events a → moves_left image settings t < m → SomeEnd t

  -- and from each with as many, where fewer steps are left to the actor
  abbrev EndOver : ℕ → ℕ → Type 0
  EndOver m k = (t : State) (a : S) → InTurn t → GaveTo answers files first t.world.events a → moves_left image settings t ≤ m → left a < k → SomeEnd t

  behind_fall : (m : ℕ) (s : State) (acts : List Act) (a : S) (st : Step) → EndBelow m → moves_left image settings s ≤ m → LedTo answers files first a st → Falls image settings paced s (step_leaving acts st) → Behind st
  behind_fall m s acts a (Goes t) below le led falls = below t a led.0 led.1 (omega (arith, falls, le, same_left image settings acts t))
  behind_fall m s acts a (Over ending t) below le led falls = tt

  behind_act : (m k : ℕ) (Stays : Type 0) (s : State) (acts : List Act) (b : S) (st : Step) → EndBelow m → EndOver m k → moves_left image settings s ≤ m → LedTo answers files first b st → (Stays → left b < k) → Sooner image settings paced Stays s (step_leaving acts st) → Behind st
  behind_act m k Stays s acts b (Goes t) below over le led less (inl falls) = below t b led.0 led.1 (omega (arith, falls, le, same_left image settings acts t))
  behind_act m k Stays s acts b (Goes t) below over le led less (inr same) = over t b led.0 led.1 (omega (arith, same.0, le, same_left image settings acts t)) (less same.2)
  behind_act m k Stays s acts b (Over ending t) below over le led less sooner = tt

  moment_at : State → Moment
  moment_at s = record { turn = s.world.turn; last = last_of None s.world.events }

  by_act : (m k : ℕ) (turn : Turn) (s : State) (a : S) (take : Act → Step) → EndBelow m → EndOver m k → moves_left image settings s ≤ m → left a < suc k → s.world.turn ≡ turn → GaveTo answers files first s.world.events a
      → ((act : Act) (acts : List Act) → MovesBy image settings s (act ∷ acts) acts (s.world.events ++ Took s.world.turn act ∷ []) (take act))
      → ((act : Act) → Sooner image settings paced (LeavesTurn act turn) (leaving (act ∷ []) s) (move image settings (leaving (act ∷ []) s))) → SomeEnd s
  by_act m k turn s a take below over le few is gave moves sooner =
      let is_ok : Ok a = gave-ok answers files Ok once first a None s.world.events ok gave in
      let now : Moment = record { turn = s.world.turn; last = last_of None s.world.events } in
      let some = always.some a now is_ok in
      let act = some.0 in
      let b = some.1 in
      let lowers = always.lowers a b now act is_ok some.2 in
      let led = quietly_led answers files first (s.world.events ++ Took s.world.turn act ∷ []) b (took_led answers files first s.world.events s.world.turn act a b gave some.2) (take act) (moves act []).quiet in
      by_step s (λ acts. act ∷ acts) b (take act) (λ acts. (moves act acts).same) led
      (behind_act m k (LeavesTurn act turn) (leaving (act ∷ []) s) [] b (take act) below over (omega (arith, le, same_left image settings (act ∷ []) s)) led
      (λ stays. let less = lowers_by s.world.turn act (left a) (left b) lowers (subst (LeavesTurn act) (sym is) stays) in omega (arith, less, few))
      (subst (Sooner image settings paced (LeavesTurn act turn) (leaving (act ∷ []) s)) (moves act []).same (sooner act)))

  by_control : (m k : ℕ) (s : State) (a : S) → EndBelow m → EndOver m k → moves_left image settings s ≤ m → left a < suc k → InTurn s → GaveTo answers files first s.world.events a → (control : Control) → s.control ≡ control → SomeEnd s
  by_control m k s a below over le few turn gave (Runs f) is =
      let moves = instruction_moves image settings f [] s is turn in
      let led = quietly_led answers files first s.world.events a gave (step image settings f s) moves.quiet in
      by_step s (λ acts. acts) a (step image settings f s) (λ acts. (instruction_moves image settings f acts s is turn).same) led
      (behind_fall m (leaving [] s) [] a (step image settings f s) below (omega (arith, le, same_left image settings [] s)) led
      (subst (Falls image settings paced (leaving [] s)) moves.same (runs-falls image settings paced f (leaving [] s) is)))
  by_control m k s a below over le few turn gave (Touches f touch) is =
      by_act m k turns.Trusted s a (λ act. take_before_touch image f touch act [] s) below over le few (rw is at turn) gave (λ act acts. touch_moves image settings f touch act acts s is turn)
      (λ act. touches-sooner image settings paced f touch act [] (leaving (act ∷ []) s) is refl)
  by_control m k s a below over le few turn gave Away is =
      by_act m k turns.Sandbox s a (λ act. take_in_sandbox image settings act [] s) below over le few (rw is at turn) gave (λ act acts. away_moves image settings act acts s is turn)
      (λ act. away-sooner image settings paced act [] (leaving (act ∷ []) s) is refl)

  end_over : (m : ℕ) → EndBelow m → (k : ℕ) → EndOver m k
  end_over m below zero s a turn gave le few = absurd (omega (arith, few))
  end_over m below (suc k) s a turn gave le few = by_control m k s a below (end_over m below k) le few turn gave s.control refl

  end_below : (m : ℕ) → EndBelow m
  end_below zero s a turn gave lt = absurd (omega (arith, lt))
  end_below (suc m) s a turn gave lt = end_over m (end_below m) (suc (left a)) s a turn gave (omega (arith, lt)) (omega arith)

  pub some_run : (inputs : List ℤ) → (acts : List Act) × (ending : Ending) × (t : State) × CodeRun image settings inputs acts ending t × (t.world.acts ≡ []) × GaveAll answers files first t.world.events
  some_run inputs =
      let s = started image settings inputs [] in
      let end = end_below (suc (moves_left image settings s)) s first refl refl (omega arith) in
      (end.acts, end.ending, end.last, (end.steps, end.ends), end.used, end.all)
