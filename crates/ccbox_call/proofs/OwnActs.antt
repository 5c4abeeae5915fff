-- Which acts code makes in small examples.
use Rattle.std.proofs.Common.{◌≡◌, ℕ, List, [], ◌∷◌, ◌++◌, Option, Some, None, refl, subst, arith}
use Rattle.std.specs.Prelude.{IsTrue}
use Rattle.act_words.specs.declared.act.Turn.{Turn}
use Rattle.act_words.specs.declared.act.Turn.TheVariants as turns
use Rattle.act_words.specs.declared.settings.Settings.{Settings}
use Rattle.act_words.specs.Acts.{Act, Go, Read, Write, Call, Return, Stop, Passed, Replied, SeenCall, SeenReply}
use Rattle.act_words.specs.World.{Event, Took, Released, Showed}
use Rattle.code_words.specs.Examples.{sandboxed}
use Rattle.code_words.specs.Images.{Image}
use Rattle.code_words.specs.Paced.{is_paced}
use Rattle.code_words.specs.SandboxCode.{State, Frame, Held, Entered, CallsBack, Runs, Rests, resting}
use Rattle.sandbox_actor.specs.Answers.{Moment, Gives}
use Rattle.sandbox_actor_code.specs.Answering.{CodeState, CodeAnswers, code_at_start}
use Rattle.sandbox_actor_code.proofs.OneAnswer.{one_answer}
use Rattle.run_core.specs.Touched.{last_of}
use Rattle.ccbox_call.specs.Programs.{Coded}
use Rattle.ccbox_call.specs.Supplies.{IsOwn}
use Rattle.ccbox_call.proofs.OwnCode.{IsPaced, code_once}
use Rattle.run_core.specs.Examples.{plain}
use Rattle.ccbox_call.specs.OwnExamples.{storing, asking, dividing, called, stores, asks, divides, lacks, no_others, bodiless}
use Rattle.ccbox_call.specs.Supplies.{FromCode}
use Rattle.run_core.proofs.GaveParts.{gave-parts, gave-one, gave-ok}

-- the code with this state
abbrev at : Image → Option State → CodeState
at image state = record { image = image; budget = 10; state = state }

abbrev frame : ℕ → List ℕ → Frame
frame next stack = record { function = 0; next = next; slots = 5 ∷ []; stack = stack }

abbrev runs : Frame → State
runs f = record { doing = Runs f; held = Entered ∷ []; ticks = 0 }

abbrev rests : List Held → State
rests held = record { doing = Rests; held = held; ticks = 0 }

pub it_stores : stores
it_stores =
    let start = at storing (Some resting) in (
      at storing (Some resting),
      (
        start,
        ((resting, (refl, refl), refl), refl, refl),
        (
          at storing (Some (runs (frame 3 []))),
          ((runs (frame 3 []), (3, refl), refl), refl, refl),
          (at storing (Some resting), ((resting, (2, refl), refl), refl, refl), refl),
        ),
      ),
    )

pub it_asks : asks
it_asks =
    let start = at asking (Some resting) in
    let waits = rests (CallsBack (frame 2 []) 0 ∷ Entered ∷ []) in (
      at asking (Some resting),
      (
        start,
        ((resting, (refl, refl), refl), refl, refl),
        (
          at asking (Some waits),
          ((waits, (2, refl), refl), refl, refl),
          (
            at asking (Some waits),
            ((waits, (refl, refl), refl), refl, refl),
            (at asking (Some resting), ((resting, (1, refl), refl), refl, refl), refl),
          ),
        ),
      ),
    )

pub it_divides : divides
it_divides =
    let start = at dividing (Some resting) in (
      at dividing None,
      (
        start,
        ((resting, (refl, refl), refl), refl, refl),
        (at dividing None, ((runs (frame 2 (0 ∷ 5 ∷ [])), (3, refl), refl), refl, refl), refl),
      ),
    )

pub it_lacks : lacks
it_lacks =
    let start = at (sandboxed []) (Some resting) in (
      at (sandboxed []) None,
      (
        start,
        ((resting, (refl, refl), refl), refl, refl),
        (at (sandboxed []) None, ((resting, (0, refl), refl), refl, refl), refl),
      ),
    )

-- no other acts are its own

module _ (image : Image) (settings : Settings) (paced : IsTrue (is_paced image)) (front : List Event) (turn : Turn) (a b : Act) where
  -- one act is the next
  next_act : IsOwn (Coded image) settings (front ++ Took turn a ∷ []) → IsOwn (Coded image) settings (front ++ Took turn b ∷ []) → a ≡ b
  next_act p q =
      let start = code_at_start image settings.budget in
      let now : Moment = record { turn = turn; last = last_of None front } in
      let x = gave-parts FromCode None start p.0 None front (Took turn a ∷ []) p.1 in
      let y = gave-parts FromCode None start q.0 None front (Took turn b ∷ []) q.1 in
      let same : y.0 ≡ x.0 = gave-one FromCode None IsPaced code_once start y.0 x.0 None front paced y.1 x.1 in
      let ok : IsPaced x.0 = gave-ok FromCode None IsPaced code_once start x.0 None front paced x.1 in
      let answer = subst (λ s. CodeAnswers s now (Gives b) (y.2).0) same (y.2).1 in
      gives_same (one_answer x.0 (x.2).0 (y.2).0 now (Gives a) (Gives b) ok (x.2).1 answer).0
    where
      gives_same : {a b : Act} → Gives a ≡ Gives b → a ≡ b
      gives_same e = cc

-- the acts up to these
first_of : (image : Image) (settings : Settings) (xs ys : List Event) → IsOwn (Coded image) settings (xs ++ ys) → IsOwn (Coded image) settings xs
first_of image settings xs ys h = let x = gave-parts FromCode None (code_at_start image settings.budget) h.0 None xs ys h.1 in (x.0, x.1)

pub it_does_nothing_else : no_others
it_does_nothing_else =
    let wrote = called (Took turns.Sandbox (Write 16 (7 ∷ 0 ∷ 0 ∷ 0 ∷ [])) ∷ []) in
    let five = Took turns.Sandbox (Return 5) ∷ [] in
    let replied = Took turns.Trusted Go ∷ Released (Replied 9) ∷ Showed (SeenReply 9) ∷ Took turns.Sandbox (Return 9) ∷ [] in
    let behind = Released (Passed 0 (5 ∷ [])) ∷ Showed (SeenCall 0 (5 ∷ [])) ∷ Took turns.Sandbox (Write 16 (7 ∷ 0 ∷ 0 ∷ 0 ∷ [])) ∷ five in (
      λ h. let e = next_act storing plain refl wrote turns.Sandbox (Return 5) (Return 6) it_stores h in numbers e,
      λ h. let e = next_act storing plain refl (called []) turns.Sandbox (Write 16 (7 ∷ 0 ∷ 0 ∷ 0 ∷ [])) (Read 16 4) (first_of storing plain wrote five it_stores) h in cc,
      λ h. let e = next_act asking plain refl (called []) turns.Sandbox (Call 0 (5 ∷ [])) (Return 5) (first_of asking plain (called (Took turns.Sandbox (Call 0 (5 ∷ [])) ∷ [])) replied it_asks) h in cc,
      λ h. let e = next_act (sandboxed []) plain refl (called []) turns.Sandbox Stop (Return 5) it_lacks h in cc,
      λ h. let e = next_act storing plain refl [] turns.Trusted Go Stop (first_of storing plain (Took turns.Trusted Go ∷ []) behind it_stores) h in cc,
    )
  where
    numbers : Return 5 ≡ Return 6 → ⊥
    numbers e = let n : ◌≡◌ {A = ℕ} 5 6 = cc in omega (arith, n)

pub it_ends : bodiless
it_ends c settings = ((tt, refl, (tt, refl, refl)), λ h. ends_alone (h.2).1)
  where
    ends_alone : Return 0 ≡ Stop → ⊥
    ends_alone e = cc
