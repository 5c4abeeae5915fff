-- The run of an accepted source with its own sandbox code: there is one, and there is one at most.
use Rattle.std.proofs.Common.{◌≡◌, ℤ, List, refl, sym, ap, ◌∙◌, subst}
use Rattle.std.specs.Prelude.{All, IsTrue}
use Rattle.act_words.specs.declared.ending.Ending.{Ending}
use Rattle.act_words.specs.declared.settings.Settings.{Settings}
use Rattle.act_words.specs.Acts.{Act}
use Rattle.act_words.specs.Checks.{is_word_number}
use Rattle.act_words.specs.Limits.{AreAllowed}
use Rattle.act_words.specs.Shown.{Shown}
use Rattle.act_words.specs.World.{Event, World}
use Rattle.ckc_core.specs.Core.{Core}
use Rattle.ckc_core.specs.States as meaning
use Rattle.code_words.specs.Images.{Image}
use Rattle.code_words.specs.Paced.{is_paced}
use Rattle.code_words.specs.Table.{State}
use Rattle.code_words.specs.Runs.{CodeRun}
use Rattle.code_words.specs.Dumps.{blocks_held}
use Rattle.check_insertion.specs.Insert.{inserted}
use Rattle.lowering.specs.Images.{image_of}
use Rattle.ccbox_call.specs.Acceptance.{IsAcceptedCore}
use Rattle.ccbox_call.specs.Programs.{Meant, Coded, RunsTo, MeantRun}
use Rattle.ccbox_call.specs.Supplies.{Own, IsOwn, Supplied}
use Rattle.ccbox_call.proofs.ListRuns.{meant, own_of_source, own_of_code, own_are_acts}
use Rattle.ccbox_call.proofs.OwnCode.{some_own, one_own}
use Rattle.ccbox_call.proofs.PrintedCode.{kept_code}
use Rattle.ccbox_call.proofs.Runs.{inserted_ends}

module _ (c : Core) (is : IsAcceptedCore c) (settings : Settings) (inputs : List ℤ) (allowed : AreAllowed settings) (are_words : All (λ z. IsTrue (is_word_number z)) inputs) where
  abbrev code : Image
  code = image_of (inserted c)

  paced : IsTrue (is_paced code)
  paced = ((kept_code c is).format).paced

  pub record OwnMeant : Type 0 where
    pub acts : List Act
    pub ending : Ending
    pub last : meaning.State
    pub runs : RunsTo c settings inputs acts ending last
    pub supplied : Supplied (Meant c) settings Own acts last.world.events

  pub some_own_meant : OwnMeant
  some_own_meant =
      let r = some_own code settings inputs paced in
      let keeps = kept_code c is in
      let from = own_of_source c code settings inputs is keeps refl allowed are_words r.acts (r.last).world.events r.supplied in
      let are = own_are_acts c code settings inputs is keeps refl allowed are_words r.acts (r.last).world.events from in
      let m = meant c code settings inputs r.acts is keeps allowed are_words are r.ending r.last r.runs in
      record {
        acts = r.acts;
        ending = r.ending;
        last = m.state;
        runs = m.runs;
        supplied = subst (Supplied (Meant c) settings Own r.acts) (sym m.events) from;
      }

  -- the run of the code over the acts of the program's
  record CodeEnd (acts : List Act) (ending : Ending) (events : List Event) (blocks : List Shown) : Type 0 where
    last : State
    runs : CodeRun code settings inputs acts ending last
    events_are : last.world.events ≡ events
    blocks_are : blocks_held last ≡ blocks
    own : IsOwn (Coded code) settings last.world.events

  coded : (acts : List Act) (ending : Ending) (events : List Event) (blocks : List Shown) → MeantRun c settings inputs acts ending events blocks → Supplied (Meant c) settings Own acts events → CodeEnd acts ending events blocks
  coded acts ending events blocks run from =
      let keeps = kept_code c is in
      let are = own_are_acts c code settings inputs is keeps refl allowed are_words acts events from in
      let r = keeps.ends settings inputs acts ending run.last allowed are_words are (inserted_ends c settings inputs acts ending run.last run.runs) in
      let told : (r.0).world.events ≡ events = ap (λ (w : World). w.events) (r.2).world ∙ run.events_are in
      record {
        last = r.0;
        runs = r.1;
        events_are = told;
        blocks_are = (r.2).blocks ∙ run.blocks_are;
        own = subst (IsOwn (Coded code) settings) (sym told) (own_of_code c code settings inputs is keeps refl allowed are_words acts events from).1;
      }

  -- how two runs of it ended, and what can be seen of them, that is the same
  pub record SameMeant (d e : Ending) (xs ys : List Event) (bs cs : List Shown) : Type 0 where
    pub ending : d ≡ e
    pub events : xs ≡ ys
    pub blocks : bs ≡ cs

  pub one_own_meant : (acts others : List Act) (d e : Ending) (xs ys : List Event) (bs cs : List Shown) → MeantRun c settings inputs acts d xs bs → MeantRun c settings inputs others e ys cs
      → Supplied (Meant c) settings Own acts xs → Supplied (Meant c) settings Own others ys → SameMeant d e xs ys bs cs
  one_own_meant acts others d e xs ys bs cs one two p q =
      let x = coded acts d xs bs one p in
      let y = coded others e ys cs two q in
      let same = one_own code settings inputs paced acts others d e x.last y.last x.runs y.runs x.own y.own in
      record {
        ending = same.ending;
        events = sym x.events_are ∙ same.events ∙ y.events_are;
        blocks = sym x.blocks_are ∙ same.blocks ∙ y.blocks_are;
      }
