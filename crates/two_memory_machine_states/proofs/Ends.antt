-- Fewer moves are left behind each call that moves a machine.
use Rattle.std.proofs.Common.{◌≡◌, ℕ, ◌+◌, ◌*◌, ◌<◌, ◌≤◌, ℤ, Bool, true, false, List, [], ◌∷◌, Option, Some, None, refl, sym, ap, subst, ◌∙◌, inl, inr, ⊎_elim, arith}
use Rattle.std.specs.Prelude.{IsTrue}
use Rattle.act_words.specs.declared.act.Turn.TheVariants as turns
use Rattle.act_words.specs.declared.ending.Ending.{Ending}
use Rattle.act_words.specs.Acts.{Act}
use Rattle.act_words.specs.World
use Rattle.act_words.specs.World.{NoAct}
use Rattle.code_words.specs.declared.op.Op.{Op}
use Rattle.code_words.specs.Table.{Frame, Waits, Control, Runs, Touches, Away, State, Step, Goes, Over}
use Rattle.code_words.specs.Moves.{move}
use Rattle.code_words.specs.Paced.{is_paced}
use Rattle.code_words.specs.Left as code
use Rattle.code_words.specs.Left.{LeavesTurn}
use Rattle.code_words.proofs.Left.{Falls, Sooner as StepSooner, runs-falls, touches-sooner, away-sooner, touches-falls, away-falls, some_run, some_touch, some_wait}
use Rattle.two_memory_machine_states.specs.declared.event.Event.{Event}
use Rattle.two_memory_machine_states.specs.declared.event.Waiting.TheVariants as waiting
use Rattle.two_memory_machine_states.specs.Machines.{Machine, Doing, Running, NeedsNumber, HasNumber, Touching, Suspended, Gives, TellsStep, TellsAct, StepsIf, Steps, TakesAct, TakesEnd, waits_for_number, next_op_of, state_of, control_of, callers_in, waiting_of, waiting_for, turn_of, told_behind, left_for, moves_left, Sooner}
use Rattle.two_memory_machine_states.proofs.Moving.{IsNext}

-- the moves that the table can make from here
abbrev number : Machine → ℕ
number m = code.moves_left m.image m.settings (state_of m [] [] [])

over_left : (m : Machine) (ending : Ending) → m.over ≡ Some ending → moves_left m ≡ 0
unfolding moves_left
over_left m ending e = rw e refl

runs_left : (m : Machine) → m.over ≡ None → m.doing ≡ Running → moves_left m ≡ 3 * number m + 2
unfolding moves_left
runs_left m e h = rw (e, h) refl

at_most : (m : Machine) → m.over ≡ None → moves_left m ≤ 3 * number m + 2
unfolding moves_left
at_most m e = rw e (by m.doing (number m))
  where
    by : (doing : Doing) (moves : ℕ) → left_for None doing moves ≤ 3 * moves + 2
    by Running moves = omega arith
    by NeedsNumber moves = omega arith
    by (HasNumber number) moves = omega arith
    by (Touching touch) moves = omega arith
    by (Suspended import place) moves = omega arith

abbrev IsRun : Control → Type 0
IsRun (Runs f) = Unit {0}
IsRun (Touches f touch) = ⊥
IsRun Away = ⊥

-- where no instruction is next
waits_left : (m : Machine) → m.over ≡ None → (IsRun (control_of m.doing m.frame) → ⊥) → moves_left m ≡ 3 * number m
unfolding moves_left
waits_left m e waits = rw e (by m.doing (number m) waits)
  where
    by : (doing : Doing) (moves : ℕ) → (IsRun (control_of doing m.frame) → ⊥) → left_for None doing moves ≡ 3 * moves
    by Running moves h = absurd (h tt)
    by NeedsNumber moves h = absurd (h tt)
    by (HasNumber number) moves h = absurd (h tt)
    by (Touching touch) moves h = refl
    by (Suspended import place) moves h = refl

waits_again : (m : Machine) → m.over ≡ None → (IsRun (control_of m.doing m.frame) → ⊥) → waiting_of m ≡ waiting.Act
waits_again m e waits = rw e (by m.doing waits)
  where
    by : (doing : Doing) → (IsRun (control_of doing m.frame) → ⊥) → waiting_for None doing ≡ waiting.Act
    by Running h = absurd (h tt)
    by NeedsNumber h = absurd (h tt)
    by (HasNumber number) h = absurd (h tt)
    by (Touching touch) h = refl
    by (Suspended import place) h = refl

needs_left : (m : Machine) → m.over ≡ None → m.doing ≡ NeedsNumber → moves_left m ≡ 3 * number m + 1
unfolding moves_left
needs_left m e h = rw (e, h) refl

has_left : (m : Machine) (given : ℤ) → m.over ≡ None → m.doing ≡ HasNumber given → moves_left m ≡ 3 * number m
unfolding moves_left
has_left m given e h = rw (e, h) refl

next_left : (m : Machine) → m.over ≡ None → IsNext m.doing → 3 * number m ≤ moves_left m
unfolding moves_left
next_left m e next = rw e (by m.doing (number m) next)
  where
    by : (doing : Doing) (moves : ℕ) → IsNext doing → 3 * moves ≤ left_for None doing moves
    by Running moves next = omega arith
    by (HasNumber given) moves next = omega arith
    by NeedsNumber moves next = absurd (elim next [ ])
    by (Touching touch) moves next = absurd (elim next [ ])
    by (Suspended import place) moves next = absurd (elim next [ ])

-- what the number doesn't depend on
same_number : (m : Machine) (acts : List Act) (inputs : List ℤ) (events : List World.Event) → code.moves_left m.image m.settings (state_of m acts inputs events) ≡ number m
unfolding code.moves_left
same_number m acts inputs events = refl

gone : (acts : List Act) (inputs : List ℤ) (events : List World.Event) (s : State) (old new : Machine) → s ≡ state_of new acts inputs events → new.image ≡ old.image → new.settings ≡ old.settings → code.moves_left old.image old.settings s ≡ number new
gone acts inputs events s old new e image settings = rw (e, ← image, ← settings) (same_number new acts inputs events)

module _ (Tells : Event → Doing → Type 0) (acts : List Act) (inputs : List ℤ) (events : List World.Event) (old new : Machine) (event : Event) where
  -- a move behind which fewer moves of the table are left
  fewer : (paced : IsTrue (is_paced old.image)) (first : State) (step : Step) → code.moves_left old.image old.settings first ≡ number old → 0 < number old → Falls old.image old.settings paced first step → Gives Tells acts inputs events step old event new → moves_left new < 3 * number old
  fewer paced first (Goes s) same some falls gives =
      omega (arith, same, falls, gone acts inputs (told_behind event events) s old new gives.0 gives.3.0 gives.3.1, at_most new gives.2)
  fewer paced first (Over ending s) same some falls gives = omega (arith, some, over_left new ending gives.1)

  sooner : (paced : IsTrue (is_paced old.image)) (act : Act) (first : State) (step : Step) → old.over ≡ None → (IsRun first.control → ⊥) → first.control ≡ control_of old.doing old.frame → code.moves_left old.image old.settings first ≡ number old → 0 < number old → StepSooner old.image old.settings paced (LeavesTurn act (turn_of old.doing)) first step → Gives Tells acts inputs events step old event new → Sooner act old new
  sooner paced act first (Goes s) going waits control same some soon gives =
      let before : moves_left old ≡ 3 * number old = waits_left old going (subst (λ c. IsRun c → ⊥) control waits) in
      let behind : code.moves_left old.image old.settings s ≡ number new = gone acts inputs (told_behind event events) s old new gives.0 gives.3.0 gives.3.1 in
      ⊎_elim
      (λ falls. inl (omega (arith, same, before, behind, falls, at_most new gives.2)))
      (λ stays.
      let still : s.control ≡ control_of new.doing new.frame = ap (λ (t : State). t.control) gives.0 in
      let quiet : IsRun (control_of new.doing new.frame) → ⊥ = subst (λ c. IsRun c → ⊥) (sym stays.1 ∙ still) waits in
      let after : moves_left new ≡ 3 * number new = waits_left new gives.2 quiet in
      inr (omega (arith, same, before, behind, after, stays.0), waits_again new gives.2 quiet, stays.2))
      soon
  sooner paced act first (Over ending s) going waits control same some soon gives =
      let before : moves_left old ≡ 3 * number old = waits_left old going (subst (λ c. IsRun c → ⊥) control waits) in
      inl (omega (arith, some, before, over_left new ending gives.1))

-- ---- the calls

-- the step waits for a number, and the table makes no move
needs_sooner : (old new : Machine) → old.over ≡ None → old.doing ≡ Running → new ≡ record old { doing = NeedsNumber } → moves_left new < moves_left old
unfolding code.moves_left
needs_sooner old new going runs is =
    let same : number (record old { doing = NeedsNumber }) ≡ number old = rw runs refl in
    rw is (omega (arith, runs_left old going runs, needs_left (record old { doing = NeedsNumber }) going refl, same))

-- only where no number was given the next one is waited for
waits_running : (doing : Doing) (op : Option Op) → IsNext doing → waits_for_number doing op ≡ true → doing ≡ Running
waits_running Running op next waits = refl
waits_running (HasNumber given) op next waits = absurd (cc)
waits_running NeedsNumber op next waits = absurd (elim next [ ])
waits_running (Touching touch) op next waits = absurd (elim next [ ])
waits_running (Suspended import place) op next waits = absurd (elim next [ ])

runs_at : (doing : Doing) (frame : Frame) → IsNext doing → control_of doing frame ≡ Runs frame
runs_at Running frame next = refl
runs_at (HasNumber given) frame next = refl
runs_at NeedsNumber frame next = refl
runs_at (Touching touch) frame next = absurd (elim next [ ])
runs_at (Suspended import place) frame next = absurd (elim next [ ])

pub step_sooner : (old new : Machine) (event : Event) → IsTrue (is_paced old.image) → old.over ≡ None → IsNext old.doing → Steps old event new → moves_left new < moves_left old
step_sooner old new event paced going next steps = by (waits_for_number old.doing (next_op_of old)) refl steps.makes
  where
    at_run : control_of old.doing old.frame ≡ Runs old.frame
    at_run = runs_at old.doing old.frame next

    by : (b : Bool) → waits_for_number old.doing (next_op_of old) ≡ b → StepsIf b old event new → moves_left new < moves_left old
    by true waits h = needs_sooner old new going (waits_running old.doing (next_op_of old) next waits) h.1
    by false waits h =
        omega (
          arith,
          next_left old going next,
          fewer TellsStep [] [] [] old new event paced (state_of old [] [] []) _ refl (some_run old.image old.settings paced old.frame (state_of old [] [] []) at_run) (runs-falls old.image old.settings paced old.frame (state_of old [] [] []) at_run) (h [] [] []),
        )

-- the number is given, and the table makes no move
pub give_sooner : (old new : Machine) (given : ℤ) → old.over ≡ None → old.doing ≡ NeedsNumber → new ≡ record old { doing = HasNumber given } → moves_left new < moves_left old
unfolding code.moves_left
give_sooner old new given going needs is =
    let same : number (record old { doing = HasNumber given }) ≡ number old = rw needs refl in
    rw is (omega (arith, needs_left old going needs, has_left (record old { doing = HasNumber given }) given going refl, same))

unended : (m : Machine) → waiting_of m ≡ waiting.Act → m.over ≡ None
unended m = by m.over
  where
    by : (over : Option Ending) → waiting_for over m.doing ≡ waiting.Act → over ≡ None
    by (Some ending) h = absurd (cc)
    by None h = refl

not_asked : (m : Machine) → m.doing ≡ Running → waiting_of m ≡ waiting.Act → ⊥
not_asked m e waits = let no : waiting.Runs ≡ waiting.Act = rw (unended m waits, e) at waits in cc

not_having : (m : Machine) (given : ℤ) → m.doing ≡ HasNumber given → waiting_of m ≡ waiting.Act → ⊥
not_having m given e waits = let no : waiting.Runs ≡ waiting.Act = rw (unended m waits, e) at waits in cc

not_given : (m : Machine) → m.doing ≡ NeedsNumber → waiting_of m ≡ waiting.Act → ⊥
not_given m e waits = let no : waiting.Number ≡ waiting.Act = rw (unended m waits, e) at waits in cc

pub act_sooner : (old new : Machine) (act : Act) (event : Event) → IsTrue (is_paced old.image) → waiting_of old ≡ waiting.Act → TakesAct old act event new → Sooner act old new
act_sooner old new act event paced waits takes = by old.doing refl
  where
    first : State
    first = state_of old (act ∷ []) [] []

    same : code.moves_left old.image old.settings first ≡ number old
    same = same_number old (act ∷ []) [] []

    by : (doing : Doing) → old.doing ≡ doing → Sooner act old new
    by Running e = absurd (not_asked old e waits)
    by NeedsNumber e = absurd (not_given old e waits)
    by (HasNumber given) e = absurd (not_having old given e waits)
    by (Touching touch) e =
        let at : control_of old.doing old.frame ≡ Touches old.frame touch = rw e refl in
        let turn : turn_of old.doing ≡ turns.Trusted = rw e refl in
        let some : 0 < number old = subst (λ n. 0 < n) same (some_touch old.image old.settings paced old.frame touch first at) in
        let soon : StepSooner old.image old.settings paced (LeavesTurn act (turn_of old.doing)) first (move old.image old.settings first) =
        subst (λ t. StepSooner old.image old.settings paced (LeavesTurn act t) first (move old.image old.settings first)) (sym turn) (touches-sooner old.image old.settings paced old.frame touch act [] first at refl) in
        sooner TellsAct [] [] _ old new event paced act first _ (unended old waits) (subst (λ c. IsRun c → ⊥) (sym at) (λ h. h)) refl same some soon (takes [] [] [])
    by (Suspended import place) e =
        let at : control_of old.doing old.frame ≡ Away = rw e refl in
        let turn : turn_of old.doing ≡ turns.Sandbox = rw e refl in
        let calls : callers_in old.doing old.frame old.callers ≡ Waits old.frame import place ∷ old.callers = rw e refl in
        let some : 0 < number old = subst (λ n. 0 < n) same (some_wait old.image old.settings paced old.frame import place old.callers first calls) in
        let soon : StepSooner old.image old.settings paced (LeavesTurn act (turn_of old.doing)) first (move old.image old.settings first) =
        subst (λ t. StepSooner old.image old.settings paced (LeavesTurn act t) first (move old.image old.settings first)) (sym turn) (away-sooner old.image old.settings paced act [] first at refl) in
        sooner TellsAct [] [] _ old new event paced act first _ (unended old waits) (subst (λ c. IsRun c → ⊥) (sym at) (λ h. h)) refl same some soon (takes [] [] [])

pub end_sooner : (old new : Machine) (event : Event) → IsTrue (is_paced old.image) → waiting_of old ≡ waiting.Act → TakesEnd old event new → moves_left new < moves_left old
end_sooner old new event paced waits takes = by old.doing refl
  where
    first : State
    first = state_of old [] [] []

    before : (IsRun (control_of old.doing old.frame) → ⊥) → moves_left old ≡ 3 * number old
    before quiet = waits_left old (unended old waits) quiet

    by : (doing : Doing) → old.doing ≡ doing → moves_left new < moves_left old
    by Running e = absurd (not_asked old e waits)
    by NeedsNumber e = absurd (not_given old e waits)
    by (HasNumber given) e = absurd (not_having old given e waits)
    by (Touching touch) e =
        let at : control_of old.doing old.frame ≡ Touches old.frame touch = rw e refl in
        omega (
          arith,
          before (subst (λ c. IsRun c → ⊥) (sym at) (λ h. h)),
          fewer TellsAct [] [] _ old new event paced first _ refl (some_touch old.image old.settings paced old.frame touch first at) (touches-falls old.image old.settings paced old.frame touch first at refl) (takes [] []),
        )
    by (Suspended import place) e =
        let at : control_of old.doing old.frame ≡ Away = rw e refl in
        let calls : callers_in old.doing old.frame old.callers ≡ Waits old.frame import place ∷ old.callers = rw e refl in
        omega (
          arith,
          before (subst (λ c. IsRun c → ⊥) (sym at) (λ h. h)),
          fewer TellsAct [] [] _ old new event paced first _ refl (some_wait old.image old.settings paced old.frame import place old.callers first calls) (away-falls old.image old.settings paced first at refl) (takes [] []),
        )
