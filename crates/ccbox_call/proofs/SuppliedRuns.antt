-- The run of a program with its acts from a supply ends, and what it shows is a fold.
use Rattle.std.proofs.Common.{◌≡◌, ℕ, List, Some, refl, sym, ap, ◌∙◌, subst}
use Rattle.std.specs.Prelude.{All, IsTrue, replicate}
use Rattle.ckc_io.specs.Files.{Files}
use Rattle.act_words.specs.declared.ending.Ending.{Ending}
use Rattle.act_words.specs.Acts.{Act, IsAct}
use Rattle.act_words.specs.World.{World}
use Rattle.act_words.specs.View.{ViewIsFold, due_front}
use Rattle.ckc_core.specs.Core.{Core}
use Rattle.ckc_core.specs.Outcome.{Ends}
use Rattle.ckc_core.specs.States.{State}
use Rattle.ckc_core.specs.Meaning.{audited_meaning}
use Rattle.check_insertion.specs.Insert.{inserted}
use Rattle.sandbox_actor.specs.ActLists.{RefusedLine}
use Rattle.run_core.specs.Moments.{before_due}
use Rattle.code_words.specs.Images.{Image}
use Rattle.code_words.specs.Paced.{is_paced}
use Rattle.code_words.specs.Runs.{CodeRun, memory_of, started}
use Rattle.code_words.specs.Table as machine
use Rattle.code_words.proofs.Worlds.{folded}
use Rattle.code_words.proofs.Due.{shown_before}
use Rattle.lowering.specs.Images.{image_of}
use Rattle.lowering.proofs.Programs.{keeps_meaning}
use Rattle.ccbox_call_words.specs.Requests.{Options, settings_of, inputs_of}
use Rattle.ccbox_call.specs.Acceptance.{IsAcceptedCore}
use Rattle.ccbox_call.specs.Answers.{AsksFor, ViewIsFoldOf}
use Rattle.ccbox_call.specs.Programs.{Meant, Coded, RunsTo}
use Rattle.ccbox_call.specs.Supplies.{Supply, Listed, Own, Supplied, needed_line}
use Rattle.ccbox_call.proofs.CodeEnds.{HasEnd, run_ends}
use Rattle.ccbox_call.proofs.ListRuns.{own_are_acts}
use Rattle.ccbox_call.proofs.OwnCode.{some_own}
use Rattle.ccbox_call.proofs.OwnRuns.{some_own_meant}
use Rattle.ccbox_call.proofs.PrintedCode.{kept_code}
use Rattle.ccbox_call.proofs.Runs.{may_run, lowerable, ends, inserted_ends, acts_there, no_blocks, needed_front}

module _ (files : Files) (words : List (List ℕ)) (options : Options) (c : Core) where
  -- the run ends, audited or not, over these acts
  pub record MeantEnds (supply : Supply) : Type 0 where
    pub acts : List Act
    pub ending : Ending
    pub last : State
    pub runs : RunsTo c (settings_of options) (inputs_of options) acts ending last
    pub supplied : Supplied (Meant c) (settings_of options) supply acts last.world.events
    pub audited : audited_meaning c (settings_of options) (inputs_of options) acts ≡ Ends ending last
    pub are : All IsAct acts

  pub ends_over : (supply : Supply) → AsksFor files words options supply (Meant c) → MeantEnds supply
  ends_over (Listed list) a =
      let may = may_run words (a.asks).name options (a.asks).request in
      let are = acts_there files options.acts (Listed list) a.supply_is in
      let e = ends c ((a.asks).src, (a.asks).accepted) (settings_of options) (inputs_of options) list.acts may.inputs are in
      record { acts = list.acts; ending = e.0; last = e.1; runs = e.2; supplied = refl; audited = e.3; are = are }
  ends_over Own a =
      let settings = settings_of options in
      let inputs = inputs_of options in
      let is : IsAcceptedCore c = ((a.asks).src, (a.asks).accepted) in
      let may = may_run words (a.asks).name options (a.asks).request in
      let own = some_own_meant c is settings inputs may.settings may.inputs in
      let are = own_are_acts c (image_of (inserted c)) settings inputs is (kept_code c is) refl may.settings may.inputs own.acts (own.last).world.events own.supplied in
      let e = ends c is settings inputs own.acts may.inputs are in
      let both : Ends own.ending own.last ≡ Ends e.0 e.1 = sym own.runs ∙ e.2 in
      record { acts = own.acts; ending = own.ending; last = own.last; runs = own.runs; supplied = own.supplied; audited = e.3 ∙ sym both; are = are }

  module _ (supply : Supply) (a : AsksFor files words options supply (Meant c)) (acts : List Act) (are : All IsAct acts) (ending : Ending) (s : State) (runs : RunsTo c (settings_of options) (inputs_of options) acts ending s) where
    -- and what it shows is a fold
    pub view_over : ViewIsFold (replicate (settings_of options).sandbox 0) acts s.world
    view_over =
        let settings = settings_of options in
        let inputs = inputs_of options in
        let may = may_run words (a.asks).name options (a.asks).request in
        let meant = inserted_ends c settings inputs acts ending s runs in
        let r = keeps_meaning (inserted c) (lowerable c ((a.asks).src, (a.asks).accepted)) settings inputs acts ending s may.settings may.inputs are meant in
        let shown = (folded (image_of (inserted c)) settings inputs acts ending r.0 r.1).fold in
        subst (ViewIsFold (replicate settings.sandbox 0) acts) (r.2).world (subst (λ start. ViewIsFold start acts (r.0).world) (no_blocks settings.sandbox may.settings.least_sandbox) shown)

    -- and so is what it shows up to a refused line that it needs
    pub view_before_over : (refused : RefusedLine) → needed_line supply s.world.events ≡ Some refused → ViewIsFoldOf (replicate (settings_of options).sandbox 0) acts (before_due s.world.events)
    view_before_over refused needed =
        let settings = settings_of options in
        let inputs = inputs_of options in
        let may = may_run words (a.asks).name options (a.asks).request in
        let meant = inserted_ends c settings inputs acts ending s runs in
        let r = keeps_meaning (inserted c) (lowerable c ((a.asks).src, (a.asks).accepted)) settings inputs acts ending s may.settings may.inputs are meant in
        let front = needed_front supply s.world.events refused needed in
        subst (λ (start : List ℕ). ViewIsFoldOf start acts (before_due s.world.events)) (no_blocks settings.sandbox may.settings.least_sandbox)
        (shown_before (image_of (inserted c)) settings inputs acts ending r.0 r.1 (before_due s.world.events) (ap (λ (w : World). due_front w.events) (r.2).world ∙ front))

module _ (options : Options) (image : Image) where
  -- so does the run of an image
  pub record ImageEnds (supply : Supply) : Type 0 where
    pub acts : List Act
    pub ending : Ending
    pub last : machine.State
    pub runs : CodeRun image (settings_of options) (inputs_of options) acts ending last
    pub supplied : Supplied (Coded image) (settings_of options) supply acts last.world.events

  pub image_ends_over : IsTrue (is_paced image) → (supply : Supply) → ImageEnds supply
  image_ends_over paced (Listed list) =
      let end : HasEnd image (settings_of options) paced (started image (settings_of options) (inputs_of options) list.acts) = run_ends image (settings_of options) paced (inputs_of options) list.acts in
      record { acts = list.acts; ending = end.ending; last = end.last; runs = (end.steps, end.ends); supplied = refl }
  image_ends_over paced Own =
      let own = some_own image (settings_of options) (inputs_of options) paced in
      record { acts = own.acts; ending = own.ending; last = own.last; runs = own.runs; supplied = own.supplied }

  module _ (acts : List Act) (ending : Ending) (t : machine.State) (run : CodeRun image (settings_of options) (inputs_of options) acts ending t) where
    -- what it shows is a fold
    pub image_view_over : ViewIsFold (memory_of (settings_of options).sandbox image.sandbox.blocks) acts t.world
    image_view_over = (folded image (settings_of options) (inputs_of options) acts ending t run).fold

    -- and so is what it shows up to a refused line that it needs
    pub image_view_before_over : (supply : Supply) (refused : RefusedLine) → needed_line supply t.world.events ≡ Some refused → ViewIsFoldOf (memory_of (settings_of options).sandbox image.sandbox.blocks) acts (before_due t.world.events)
    image_view_before_over supply refused needed =
        shown_before image (settings_of options) (inputs_of options) acts ending t run (before_due t.world.events) (needed_front supply t.world.events refused needed)
