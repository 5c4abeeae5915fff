-- Steps one after another, up to an act.
use Rattle.std.proofs.Common.{◌≡◌, ℕ, suc, ◌≤◌, Option, Some, None, refl, ◌∙◌, arith}
use Rattle.std.specs.Prelude.{IsTrue, option_map}
use Rattle.act_words.specs.declared.act as code
use Rattle.act_words.specs.declared.act.Turn.TheVariants as turns
use Rattle.act_words.specs.Acts.{Act, Go, Read, Write, Call, Return, Stop, Seen, act_view}
use Rattle.code_words.specs.Images.{Image}
use Rattle.code_words.specs.Paced.{is_paced}
use Rattle.code_words.specs.SandboxCode.{State, Step, Goes, Acts, step, runs_for}
use Rattle.sandbox_actor.specs.Answers.{Lowers}
use Rattle.sandbox_actor_code.specs.declared.code_actor.Phase.TheVariants as phases
use Rattle.sandbox_actor_code.specs.Answering.{behind_act, AnswersFrom, taken_of}
use Rattle.sandbox_actor_code.specs.StepsLeft.{steps_left, steps_left_of}
use Rattle.sandbox_actor_code.specs.Codes.{Code, IsSame, Leads, LeavesFewer, RunsOn, ShowsFrom, code_left, running, state_in}
use Rattle.sandbox_actor_code.proofs.StepsFall.{Falls, step-falls}

-- ---- how many steps are left

-- from more steps
pub lowers_from : (a : Act) (before more after : ℕ) → before ≤ more → Lowers turns.Sandbox a before after → Lowers turns.Sandbox a more after
lowers_from Go before more after h l = omega (arith, h, l)
lowers_from (Read at len) before more after h l = omega (arith, h, l)
lowers_from (Write at bytes) before more after h l = omega (arith, h, l)
lowers_from (Call k words) before more after h l = tt
lowers_from (Return value) before more after h l = tt
lowers_from Stop before more after h l = tt

pub lowers_behind : (image : Image) (budget : ℕ) (a : Act) (t : State) (before : ℕ) → Lowers turns.Sandbox a before (steps_left image budget t) → Lowers turns.Sandbox a before (steps_left_of image budget (behind_act a t))
lowers_behind image budget Go t before l = l
lowers_behind image budget (Read at len) t before l = l
lowers_behind image budget (Write at bytes) t before l = l
lowers_behind image budget (Call k words) t before l = tt
lowers_behind image budget (Return value) t before l = tt
lowers_behind image budget Stop t before l = tt

-- the act of a result
act_is : (result : Option code.Act.Act) (a : Act) → option_map act_view result ≡ Some a → (x : code.Act.Act) × (result ≡ Some x) × (act_view x ≡ a)
act_is None a h = absurd (cc)
act_is (Some x) a h = (x, refl, cc)

fewer_by : (old new : Code) (result : Option code.Act.Act) (paced : IsTrue (is_paced old.image)) (st : Step) → old.phase ≡ phases.Runs
    → Falls old.image old.budget paced (running old) st → Leads st old result new → LeavesFewer result old new
fewer_by old new result paced (Goes s) runs falls leads = rw (leads.0, leads.1, leads.2, leads.3.0, leads.3.1, runs) falls
fewer_by old new result paced (Acts a t) runs falls leads =
    let x = act_is result a leads.0 in
    rw (x.1, x.2, leads.1, leads.2.0, leads.2.1, runs) (lowers_behind old.image old.budget a t (steps_left old.image old.budget (running old)) falls)

pub step_fewer : (old new : Code) (result : Option code.Act.Act) → IsTrue (is_paced old.image) → old.phase ≡ phases.Runs
    → Leads (step old.image old.budget old.call.frame (running old)) old result new → LeavesFewer result old new
step_fewer old new result paced runs leads =
    fewer_by old new result paced (step old.image old.budget old.call.frame (running old)) runs (step-falls old.image old.budget paced old.call.frame (running old) refl) leads

-- ---- steps

-- what the steps from here on come to is what they come to from the first code
abbrev pub AreSteps : Code → Code → Type 0
AreSteps first now = (n : ℕ) → (m : ℕ) × (runs_for first.image first.budget m (running first) ≡ runs_for now.image now.budget n (running now))

one_more : (image : Image) (budget n : ℕ) (now : Code) (s : State) → step image budget now.call.frame (running now) ≡ Goes s → runs_for image budget (suc n) (running now) ≡ runs_for image budget n s
one_more image budget n now s e = rw e refl

one_act : (image : Image) (budget n : ℕ) (now : Code) (a : Act) (t : State) → step image budget now.call.frame (running now) ≡ Acts a t → runs_for image budget (suc n) (running now) ≡ Some (a, t)
one_act image budget n now a t e = rw e refl

pub more_steps : (first now new : Code) → AreSteps first now → Leads (step now.image now.budget now.call.frame (running now)) now None new → AreSteps first new
more_steps first now new steps leads = by (step now.image now.budget now.call.frame (running now)) refl leads
  where
    by : (st : Step) → step now.image now.budget now.call.frame (running now) ≡ st → Leads st now None new → AreSteps first new
    by (Goes s) e leads = λ n.
        let before = steps (suc n) in
        (before.0, before.1 ∙ one_more now.image now.budget n now s e ∙ rw (leads.2, leads.3.0, leads.3.1) refl)
    by (Acts a t) e leads = absurd (cc)

pub goes_on : (st : Step) (old new : Code) → Leads st old None new → (new.phase ≡ phases.Runs) × IsSame old new
goes_on (Goes s) old new leads = (leads.1, leads.3)
goes_on (Acts a t) old new leads = absurd (let h = leads.0 in cc)

pub last_step : (first now new : Code) (act : code.Act.Act) → IsSame first now → AreSteps first now → code_left now ≤ code_left first
    → Leads (step now.image now.budget now.call.frame (running now)) now (Some act) new → LeavesFewer (Some act) now new → RunsOn first act new
last_step first now new act same steps less leads fewer = by (step now.image now.budget now.call.frame (running now)) refl leads
  where
    by : (st : Step) → step now.image now.budget now.call.frame (running now) ≡ st → Leads st now (Some act) new → RunsOn first act new
    by (Goes s) e leads = absurd (cc)
    by (Acts a t) e leads =
        let is : act_view act ≡ a = cc in
        let before = steps 1 in
        record {
          count = before.0;
          behind = t;
          acts = before.1 ∙ one_act now.image now.budget 0 now a t e ∙ rw is refl;
          state = leads.1 ∙ rw is refl;
          same = (leads.2.0 ∙ same.0, leads.2.1 ∙ same.1);
          fewer = lowers_from (act_view act) (code_left now) (code_left first) (code_left new) less fewer;
        }

-- ---- answers

module _ (old : Code) (seen : Option Seen) where
  abbrev Answered : Option State → Act → Option State → Type 0
  Answered before act after = AnswersFrom old.image old.budget before (record { turn = turns.Sandbox; last = seen }) act after

  -- what was shown makes the code stop
  pub answers_at_once : (new : Code) (act : code.Act.Act) (before : Option State) → ShowsFrom before (taken_of seen) old (Some act) new
      → (Answered before (act_view act) (state_in new.phase new)) × (act_view act ≡ Stop) × IsSame old new
  answers_at_once new act None stops = let is : act_view act ≡ Stop = cc in ((is, stops.1), is, stops.2)
  answers_at_once new act (Some s) shows =
      let is : act_view act ≡ Stop = let e = shows.2.0 in cc in
      ((shows.0, (0, shows.1 0 ∙ rw is refl), rw is shows.2.1), is, shows.2.2)

  -- or it goes on from there, up to an act
  pub answers_then : (mid new : Code) (act : code.Act.Act) (before : Option State) → state_in old.phase old ≡ before → ShowsFrom before (taken_of seen) old None mid → RunsOn mid act new
      → (Answered before (act_view act) (state_in new.phase new)) × IsSame old new × Lowers turns.Sandbox (act_view act) (code_left old) (code_left new)
  answers_then mid new act None e stops runs = absurd (let h = stops.0 in cc)
  answers_then mid new act (Some s) e shows runs =
      let same = shows.3 in
      let acts = rw (same.0, same.1) at runs.acts in
      let less : code_left mid ≤ code_left old = rw (shows.0, same.0, same.1, e) shows.2 in (
        (runs.behind, (runs.count, shows.1 runs.count ∙ acts), runs.state),
        (runs.same.0 ∙ same.0, runs.same.1 ∙ same.1),
        lowers_from (act_view act) (code_left mid) (code_left old) (code_left new) less runs.fewer,
      )
