-- The run of an image with its own sandbox code: there is one, and there is one at most.
use Rattle.std.proofs.Common.{ℤ, List, ◌++◌, None, sym, ap, ◌∙◌, subst, append-nil}
use Rattle.std.specs.Prelude.{IsTrue}
use Rattle.act_words.specs.declared.ending.Ending.{Ending}
use Rattle.act_words.specs.declared.settings.Settings.{Settings}
use Rattle.act_words.specs.Acts.{Act}
use Rattle.act_words.specs.View.{acts_of}
use Rattle.sandbox_actor.specs.Answers.{Moment, Answer, Gives, Ended, Refused, Missing}
use Rattle.sandbox_actor_code.specs.Answering.{CodeState, CodeAnswers, code_at_start}
use Rattle.sandbox_actor_code.specs.StepsLeft.{left_to}
use Rattle.sandbox_actor_code.proofs.OneAnswer.{one_answer, some_answer, lowers}
use Rattle.code_words.specs.Images.{Image}
use Rattle.code_words.specs.Paced.{is_paced}
use Rattle.code_words.specs.Table.{State}
use Rattle.code_words.specs.Runs.{CodeRun}
use Rattle.code_words.proofs.Worlds.{told as acts_told}
use Rattle.run_core.specs.Gave.{AnswersOnce, AlwaysActs}
use Rattle.run_core.proofs.OneRun.{SameEnd, one_run}
use Rattle.run_core.proofs.SomeRun.{some_run}
use Rattle.ccbox_call.specs.Programs.{Coded}
use Rattle.ccbox_call.specs.Supplies.{Own, FromCode, IsOwn, Supplied}

-- ---- code as an actor

abbrev pub IsPaced : CodeState → Type 0
IsPaced s = IsTrue (is_paced s.image)

code_stays : (before after : CodeState) (now : Moment) (x : Answer) → IsPaced before → CodeAnswers before now x after → IsPaced after
code_stays before after now (Gives act) paced h = subst (λ (i : Image). IsTrue (is_paced i)) (sym h.1) paced
code_stays before after now Ended paced h = absurd h
code_stays before after now (Refused line code) paced h = absurd h
code_stays before after now Missing paced h = absurd h

pub code_once : AnswersOnce FromCode None IsPaced
code_once = record { one = λ before after after' now x y paced p q. one_answer before after after' now x y paced p q; stays = code_stays }

an_act : (before after : CodeState) (now : Moment) (x : Answer) → CodeAnswers before now x after → (act : Act) × (after : CodeState) × CodeAnswers before now (Gives act) after
an_act before after now (Gives act) h = (act, after, h)
an_act before after now Ended h = absurd h
an_act before after now (Refused line code) h = absurd h
an_act before after now Missing h = absurd h

code_always : AlwaysActs FromCode None IsPaced left_to
code_always = record {
  some = λ before now paced. let s = some_answer before now paced in an_act before s.1 now s.0 s.2;
  lowers = λ before after now act paced h. lowers before after now act paced h;
}

-- ---- images

module _ (image : Image) (settings : Settings) (inputs : List ℤ) (paced : IsTrue (is_paced image)) where
  -- its run with its own code, which takes all the acts that it makes
  pub record OwnRun : Type 0 where
    pub acts : List Act
    pub ending : Ending
    pub last : State
    pub runs : CodeRun image settings inputs acts ending last
    pub supplied : Supplied (Coded image) settings Own acts last.world.events

  pub some_own : OwnRun
  some_own =
      let r = some_run FromCode None (code_at_start image settings.budget) IsPaced left_to code_once code_always paced image settings paced inputs in
      let told = acts_told image settings inputs r.0 r.1 r.2 r.3 in
      record {
        acts = r.0;
        ending = r.1;
        last = r.2;
        runs = r.3;
        supplied = (told ∙ ap (λ left. acts_of (r.2).world.events ++ left) r.4 ∙ append-nil (acts_of (r.2).world.events), r.5);
      }

  pub one_own : (acts others : List Act) (d e : Ending) (t u : State) → CodeRun image settings inputs acts d t → CodeRun image settings inputs others e u
      → IsOwn (Coded image) settings t.world.events → IsOwn (Coded image) settings u.world.events → SameEnd d e t u
  one_own acts others d e t u one two p q = one_run FromCode None (code_at_start image settings.budget) IsPaced code_once paced image settings inputs acts others d e t u one two p q
