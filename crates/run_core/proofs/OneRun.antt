-- The runs of an image whose acts one actor gave are the same.
use Rattle.std.proofs.Common.{◌≡◌, ℕ, zero, suc, ◌+◌, List, [], ◌∷◌, ◌++◌, ℤ, Option, Some, None, refl, sym, ap, ◌∙◌, subst, arith, append-nil}
use Rattle.ckc_io.specs.Files.{Files}
use Rattle.act_words.specs.declared.act.Turn.{Turn}
use Rattle.act_words.specs.declared.act.Turn.TheVariants as turns
use Rattle.act_words.specs.declared.ending.Ending.{Ending}
use Rattle.act_words.specs.declared.settings.Settings.{Settings}
use Rattle.act_words.specs.Acts.{Act, Seen}
use Rattle.act_words.specs.World.{Event, Took, Output, Released, Showed, NoAct}
use Rattle.sandbox_actor.specs.Answers.{Gives}
use Rattle.code_words.specs.Images.{Image}
use Rattle.code_words.specs.Table.{Control, Runs, Touches, Away, State, Step, Goes, Over, step}
use Rattle.code_words.specs.Moves.{move, take_before_touch, take_in_sandbox}
use Rattle.code_words.specs.Runs.{Run, Unfinished, Finished, CodeRun, exec, go_on, started, events_of}
use Rattle.code_words.specs.Dumps.{blocks_held}
use Rattle.code_words.proofs.Runs.{one_end, same_ending, same_last}
use Rattle.code_words.proofs.Worlds.{stay}
use Rattle.run_core.specs.Asked.{Answering}
use Rattle.run_core.specs.Touched.{last_of}
use Rattle.run_core.specs.Gave.{Gave, AnswersOnce}
use Rattle.run_core.proofs.Reaching.{one_more}
use Rattle.run_core.proofs.ActsLeft.{AreQuiet, InTurn, Quietly, LedQuietly, leaving, step_leaving, MovesBy, instruction_moves, touch_moves, away_moves, touch_lacks, away_lacks}
use Rattle.run_core.proofs.GaveParts.{gave-append, gave-parts, gave-one, gave-ok}

-- how two runs ended, and what can be seen of them, that is the same
pub record SameEnd (d e : Ending) (t u : State) : Type 0 where
  pub ending : d ≡ e
  pub events : t.world.events ≡ u.world.events
  pub blocks : blocks_held t ≡ blocks_held u

module _ {S : Type 0} (answers : Answering S) (files : Option Files) (first : S) where
  -- all acts of these events were given
  abbrev pub GaveAll : List Event → Type 0
  GaveAll events = (after : S) × Gave answers files first None events after

  abbrev pub GaveTo : List Event → S → Type 0
  GaveTo events after = Gave answers files first None events after

  -- what is quiet leaves the state
  stays : (a : S) (last : Option Seen) (more : List Event) → AreQuiet more → Gave answers files a last more a
  stays a last [] quiet = refl
  stays a last (Took turn act ∷ more) quiet = absurd quiet
  stays a last (Output bytes ∷ more) quiet = stays a last more quiet
  stays a last (Released release ∷ more) quiet = stays a last more quiet
  stays a last (Showed seen ∷ more) quiet = stays a (Some seen) more quiet
  stays a last (NoAct turn ∷ more) quiet = absurd quiet

  -- where a step led, the actor has come to this state
  abbrev pub LedTo : S → Step → Type 0
  LedTo a (Goes s) = InTurn s × GaveTo s.world.events a
  LedTo a (Over ending s) = GaveTo s.world.events a

  pub quietly_led : (base : List Event) (a : S) → GaveTo base a → (st : Step) → LedQuietly base st → LedTo a st
  quietly_led base a gave (Goes s) h = (h.0, more s h.1)
    where
      more : (s : State) → Quietly base s.world → GaveTo s.world.events a
      more s q = subst (λ events. GaveTo events a) (sym q.1) (gave-append answers files first a a None base q.0 gave (stays a (last_of None base) q.0 q.2))
  quietly_led base a gave (Over ending s) q = subst (λ events. GaveTo events a) (sym q.1) (gave-append answers files first a a None base q.0 gave (stays a (last_of None base) q.0 q.2))

  -- behind an act, the actor has come to the state behind its answer
  pub took_led : (events : List Event) (turn : Turn) (act : Act) (a b : S) → GaveTo events a → answers a files (record { turn = turn; last = last_of None events }) (Gives act) b → GaveTo (events ++ Took turn act ∷ []) b
  took_led events turn act a b gave answer = gave-append answers files first a b None events (Took turn act ∷ []) gave (b, answer, refl)

  module _ (Ok : S → Type 0) (once : AnswersOnce answers files Ok) (ok : Ok first) where
    -- an act behind these events is the answer there
    answered_at : (events more : List Event) (turn : Turn) (act : Act) (a : S) → GaveTo events a → GaveAll ((events ++ Took turn act ∷ []) ++ more) → (b : S) × answers a files (record { turn = turn; last = last_of None events }) (Gives act) b
    answered_at events more turn act a gave all =
        let front = gave-parts answers files first all.0 None (events ++ Took turn act ∷ []) more all.1 in
        let parts = gave-parts answers files first front.0 None events (Took turn act ∷ []) front.1 in
        let same : parts.0 ≡ a = gave-one answers files Ok once first parts.0 a None events ok parts.1 gave in
        ((parts.2).0, subst (λ s. answers s files (record { turn = turn; last = last_of None events }) (Gives act) (parts.2).0) same (parts.2).1)

    none_lacks : (events more : List Event) (turn : Turn) → GaveAll ((events ++ NoAct turn ∷ []) ++ more) → ⊥
    none_lacks events more turn all =
        let front = gave-parts answers files first all.0 None (events ++ NoAct turn ∷ []) more all.1 in
        (gave-parts answers files first front.0 None events (NoAct turn ∷ []) front.1).2

    module _ (image : Image) (settings : Settings) (inputs : List ℤ) where
      -- behind a step, these events have happened
      led_events : (base : List Event) (left : List Act) (st : Step) → LedQuietly base st → (q : List Event) × (events_of (go_on (step_leaving left st) Unfinished) ≡ base ++ q)
      led_events base left (Goes s) h = ((h.1).0, (h.1).1)
      led_events base left (Over ending s) h = (h.0, h.1)

      led_alone : (base : List Event) (st : Step) → LedQuietly base st → (q : List Event) × (events_of (go_on st Unfinished) ≡ base ++ q)
      led_alone base (Goes s) h = ((h.1).0, (h.1).1)
      led_alone base (Over ending s) h = (h.0, h.1)

      module _ (acts : List Act) (ending : Ending) (t : State) (run : CodeRun image settings inputs acts ending t) (all : GaveAll t.world.events) where
        -- the run stands here, with these acts left
        abbrev At : ℕ → List Act → State → Type 0
        At k left s = exec image settings k (started image settings inputs acts) ≡ Unfinished (leaving left s)

        -- behind the next move, these events have happened when it ends
        happened : (k : ℕ) (left : List Act) (s : State) (base : List Event) → At k left s → (q : List Event) × (events_of (go_on (move image settings (leaving left s)) Unfinished) ≡ base ++ q) → GaveAll base
        happened k left s base at q =
            let so_far = ap events_of (one_more image settings k (started image settings inputs acts) (leaving left s) at) ∙ q.1 in
            let later = stay image settings inputs acts (suc k) ending t run in
            let whole : t.world.events ≡ (base ++ q.0) ++ later.0 = later.1 ∙ ap (λ events. events ++ later.0) so_far in
            let parts = gave-parts answers files first all.0 None (base ++ q.0) later.0 (subst (λ events. GaveTo events all.0) whole all.1) in
            let front = gave-parts answers files first parts.0 None base q.0 parts.1 in
            (front.0, front.1)

        answer_next : (k : ℕ) (act : Act) (left : List Act) (s : State) (a : S) (st : Step) → At k (act ∷ left) s → GaveTo s.world.events a
            → MovesBy image settings s (act ∷ left) left (s.world.events ++ Took s.world.turn act ∷ []) st
            → (b : S) × answers a files (record { turn = s.world.turn; last = last_of None s.world.events }) (Gives act) b
        answer_next k act left s a st at gave by =
            let base = s.world.events ++ Took s.world.turn act ∷ [] in
            let q = led_events base left st by.quiet in
            let so = happened k (act ∷ left) s base at (q.0, ap (λ x. events_of (go_on x Unfinished)) by.same ∙ q.1) in
            answered_at s.world.events [] s.world.turn act a gave (so.0, subst (λ events. GaveTo events so.0) (sym (append-nil base)) so.1)

        never_lacks : (k : ℕ) (s : State) (turn : Turn) → At k [] s → LedQuietly (s.world.events ++ NoAct turn ∷ []) (move image settings (leaving [] s)) → ⊥
        never_lacks k s turn at led =
            let base = s.world.events ++ NoAct turn ∷ [] in
            let so = happened k [] s base at (led_alone base (move image settings (leaving [] s)) led) in
            none_lacks s.world.events [] turn (so.0, subst (λ events. GaveTo events so.0) (sym (append-nil base)) so.1)

        -- the next move goes on, or ends the run
        at_next : (k : ℕ) (left more : List Act) (s : State) (st : Step) → At k more s → move image settings (leaving more s) ≡ step_leaving left st → exec image settings (suc k) (started image settings inputs acts) ≡ go_on (step_leaving left st) Unfinished
        at_next k left more s st at e = one_more image settings k (started image settings inputs acts) (leaving more s) at ∙ ap (λ x. go_on x Unfinished) e

        ended_at : (k : ℕ) (left : List Act) (d : Ending) (s : State) → exec image settings (suc k) (started image settings inputs acts) ≡ Finished d (leaving left s) → (ending ≡ d) × (t ≡ leaving left s)
        ended_at k left d s at =
            let both = one_end image settings run.0 (suc k) (started image settings inputs acts) ending d t (leaving left s) run.1 at in
            (same_ending ending d t (leaving left s) both, same_last ending d t (leaving left s) both)

      module _ (acts others : List Act) (d e : Ending) (t u : State) (one : CodeRun image settings inputs acts d t) (two : CodeRun image settings inputs others e u) (all : GaveAll t.world.events) (all' : GaveAll u.world.events) where
        -- both stand here
        record Stand (k : ℕ) (s : State) (left left' : List Act) (a : S) : Type 0 where
          at : At acts d t one all k left s
          at' : At others e u two all' k left' s
          turn : InTurn s
          gave : GaveTo s.world.events a

        abbrev Onward : ℕ → Type 0
        Onward n = (k : ℕ) → n + k ≡ one.0 → (s : State) (left left' : List Act) (a : S) → Stand k s left left' a → SameEnd d e t u

        behind : (n k : ℕ) → suc n + k ≡ one.0 → Onward n → (s : State) (more more' left left' : List Act) (a b : S) (st : Step) → Stand k s more more' a
            → move image settings (leaving more s) ≡ step_leaving left st → move image settings (leaving more' s) ≡ step_leaving left' st → LedTo b st → SameEnd d e t u
        behind n k steps onward s more more' left left' a b (Goes w) here same same' led =
            onward (suc k) (omega (arith, steps)) w left left' b
            (record {
              at = at_next acts d t one all k left more s (Goes w) here.at same;
              at' = at_next others e u two all' k left' more' s (Goes w) here.at' same';
              turn = led.0;
              gave = led.1;
            })
        behind n k steps onward s more more' left left' a b (Over ending w) here same same' led =
            let x = ended_at acts d t one all k left ending w (at_next acts d t one all k left more s (Over ending w) here.at same) in
            let y = ended_at others e u two all' k left' ending w (at_next others e u two all' k left' more' s (Over ending w) here.at' same') in
            record {
              ending = x.0 ∙ sym y.0;
              events = ap (λ (z : State). z.world.events) x.1 ∙ sym (ap (λ (z : State). z.world.events) y.1);
              blocks = ap blocks_held x.1 ∙ sym (ap blocks_held y.1);
            }

        -- the act that both take next is the same, since one actor gave it
        behind_acts : (n k : ℕ) → suc n + k ≡ one.0 → Onward n → (s : State) (x y : Act) (left left' : List Act) (a : S) (take : Act → Step) → Stand k s (x ∷ left) (y ∷ left') a
            → ((act : Act) (acts : List Act) → MovesBy image settings s (act ∷ acts) acts (s.world.events ++ Took s.world.turn act ∷ []) (take act)) → SameEnd d e t u
        behind_acts n k steps onward s x y left left' a take here moves =
            let base = s.world.events ++ Took s.world.turn x ∷ [] in
            let p = answer_next acts d t one all k x left s a (take x) here.at here.gave (moves x left) in
            let q = answer_next others e u two all' k y left' s a (take y) here.at' here.gave (moves y left') in
            let is_ok : Ok a = gave-ok answers files Ok once first a None s.world.events ok here.gave in
            let both = once.one a p.0 q.0 (record { turn = s.world.turn; last = last_of None s.world.events }) (Gives x) (Gives y) is_ok p.1 q.1 in
            let same : x ≡ y = gives_same both.0 in
            behind n k steps onward s (x ∷ left) (y ∷ left') left left' a p.0 (take x) here (moves x left).same
            (subst (λ act. move image settings (leaving (act ∷ left') s) ≡ step_leaving left' (take x)) same (moves x left').same)
            (quietly_led base p.0 (took_led s.world.events s.world.turn x a p.0 here.gave p.1) (take x) (moves x left).quiet)
          where
            gives_same : {x y : Act} → Gives x ≡ Gives y → x ≡ y
            gives_same e = cc

        next : (n k : ℕ) → suc n + k ≡ one.0 → Onward n → (s : State) (left left' : List Act) (a : S) → Stand k s left left' a → (control : Control) → s.control ≡ control → SameEnd d e t u
        next n k steps onward s left left' a here (Runs f) is =
            let moves = instruction_moves image settings f left s is here.turn in
            behind n k steps onward s left left' left left' a a (step image settings f s) here moves.same (instruction_moves image settings f left' s is here.turn).same
            (quietly_led s.world.events a here.gave (step image settings f s) moves.quiet)
        next n k steps onward s [] left' a here (Touches f touch) is = absurd (never_lacks acts d t one all k s turns.Trusted here.at (touch_lacks image settings f touch s is here.turn))
        next n k steps onward s (x ∷ left) [] a here (Touches f touch) is = absurd (never_lacks others e u two all' k s turns.Trusted here.at' (touch_lacks image settings f touch s is here.turn))
        next n k steps onward s (x ∷ left) (y ∷ left') a here (Touches f touch) is =
            behind_acts n k steps onward s x y left left' a (λ act. take_before_touch image f touch act [] s) here (λ act acts. touch_moves image settings f touch act acts s is here.turn)
        next n k steps onward s [] left' a here Away is = absurd (never_lacks acts d t one all k s turns.Sandbox here.at (away_lacks image settings s is))
        next n k steps onward s (x ∷ left) [] a here Away is = absurd (never_lacks others e u two all' k s turns.Sandbox here.at' (away_lacks image settings s is))
        next n k steps onward s (x ∷ left) (y ∷ left') a here Away is =
            behind_acts n k steps onward s x y left left' a (λ act. take_in_sandbox image settings act [] s) here (λ act acts. away_moves image settings act acts s is here.turn)

        onward : (n : ℕ) → Onward n
        onward zero k steps s left left' a here =
            let wrong : ◌≡◌ {A = Run} (Finished d t) (Unfinished (leaving left s)) = sym one.1 ∙ ap (λ m. exec image settings m (started image settings inputs acts)) (sym (steps_are steps)) ∙ here.at in absurd (cc)
          where
            steps_are : {k m : ℕ} → zero + k ≡ m → k ≡ m
            steps_are e = omega (arith, e)
        onward (suc n) k steps s left left' a here = next n k steps (onward n) s left left' a here s.control refl

        pub one_run : SameEnd d e t u
        one_run =
            onward one.0 zero (omega arith) (started image settings inputs []) acts others first
            (record { at = refl; at' = refl; turn = refl; gave = refl })
