-- Up to the first moment at which an act was due and none was left, the view is the fold over all acts.
use Rattle.std.proofs.Common.{◌≡◌, ℕ, ℤ, Bool, true, false, length, List, [], ◌∷◌, ◌++◌, Option, Some, None, option_map, refl, sym, ap, ◌∙◌, subst, ◌⊎◌, inl, inr}
use Rattle.std.proofs.lemmas.List.{append-nil}
use Rattle.act_words.specs.declared.act.Turn.{Turn}
use Rattle.act_words.specs.declared.act.Turn.TheVariants as turns
use Rattle.act_words.specs.declared.ending.Ending.{Ending}
use Rattle.act_words.specs.declared.settings.Settings.{Settings}
use Rattle.act_words.specs.Acts.{Act, Go, Read, Write, Call, Return, Stop, Release, Looked, Wrote, Passed, Replied, SeenBytes, SeenCall, SeenReply}
use Rattle.act_words.specs.World.{World, Event, Took, Output, Released, Showed, NoAct, telling, taken_one}
use Rattle.act_words.specs.Acting.{BeforeTouch, InSandbox, lies_in, bytes_at, shown_if, written_if, waits_or_ends, keeps_or_ends, act_before_touch, act_in_sandbox}
use Rattle.act_words.specs.Touches.{released}
use Rattle.act_words.specs.View.{due_front, view_fold, view_of, releases_of}
use Rattle.act_words.proofs.Views.{Ready, HasFolded, told_at_start, shown}
use Rattle.code_words.specs.Images.{Image}
use Rattle.code_words.specs.Table.{State}
use Rattle.code_words.specs.Runs.{started, CodeRun}
use Rattle.code_words.proofs.Keeps.{AreKept, BeforeKeeps, InKeeps, ReleaseKeeps, RunKeeps, run-keeps}
use Rattle.code_words.proofs.Worlds.{OwnTurn, OtherTurn, BehindCall, view_kept}

-- ---- the events before that moment

-- one event before a front
front_behind : (e : Event) (o : Option (List Event)) (front : List Event) → option_map (λ f. e ∷ f) o ≡ Some front → (rest : List Event) × (o ≡ Some rest) × (front ≡ e ∷ rest)
front_behind e None front h = absurd (cc)
front_behind e (Some rest) front h = (rest, refl, cc)

-- events behind it change nothing, where none of them is such a moment
kept_front : (xs ys front : List Event) → due_front ys ≡ None → due_front (xs ++ ys) ≡ Some front → due_front xs ≡ Some front
kept_front [] ys front none h = absurd (cc)
kept_front (Took turn act ∷ xs) ys front none h =
    let f = front_behind (Took turn act) (due_front (xs ++ ys)) front h in
    ap (option_map (λ rest. Took turn act ∷ rest)) (kept_front xs ys f.0 none f.1) ∙ ap Some (sym f.2)
kept_front (Output bytes ∷ xs) ys front none h =
    let f = front_behind (Output bytes) (due_front (xs ++ ys)) front h in
    ap (option_map (λ rest. Output bytes ∷ rest)) (kept_front xs ys f.0 none f.1) ∙ ap Some (sym f.2)
kept_front (Released release ∷ xs) ys front none h =
    let f = front_behind (Released release) (due_front (xs ++ ys)) front h in
    ap (option_map (λ rest. Released release ∷ rest)) (kept_front xs ys f.0 none f.1) ∙ ap Some (sym f.2)
kept_front (Showed seen ∷ xs) ys front none h =
    let f = front_behind (Showed seen) (due_front (xs ++ ys)) front h in
    ap (option_map (λ rest. Showed seen ∷ rest)) (kept_front xs ys f.0 none f.1) ∙ ap Some (sym f.2)
kept_front (NoAct turn ∷ xs) ys front none h = h

-- the moment is the last event, or it was before
front_at_end : (xs front : List Event) (turn : Turn) → due_front (xs ++ NoAct turn ∷ []) ≡ Some front → (due_front xs ≡ Some front) ⊎ (front ≡ xs)
front_at_end [] front turn h = inr (cc)
front_at_end (Took before act ∷ xs) front turn h =
    let f = front_behind (Took before act) (due_front (xs ++ NoAct turn ∷ [])) front h in
    elim (front_at_end xs f.0 turn f.1) [ inl e ↦ inl (ap (option_map (λ rest. Took before act ∷ rest)) e ∙ ap Some (sym f.2)) | inr e ↦ inr (f.2 ∙ ap (λ rest. Took before act ∷ rest) e) ]
front_at_end (Output bytes ∷ xs) front turn h =
    let f = front_behind (Output bytes) (due_front (xs ++ NoAct turn ∷ [])) front h in
    elim (front_at_end xs f.0 turn f.1) [ inl e ↦ inl (ap (option_map (λ rest. Output bytes ∷ rest)) e ∙ ap Some (sym f.2)) | inr e ↦ inr (f.2 ∙ ap (λ rest. Output bytes ∷ rest) e) ]
front_at_end (Released release ∷ xs) front turn h =
    let f = front_behind (Released release) (due_front (xs ++ NoAct turn ∷ [])) front h in
    elim (front_at_end xs f.0 turn f.1) [ inl e ↦ inl (ap (option_map (λ rest. Released release ∷ rest)) e ∙ ap Some (sym f.2)) | inr e ↦ inr (f.2 ∙ ap (λ rest. Released release ∷ rest) e) ]
front_at_end (Showed seen ∷ xs) front turn h =
    let f = front_behind (Showed seen) (due_front (xs ++ NoAct turn ∷ [])) front h in
    elim (front_at_end xs f.0 turn f.1) [ inl e ↦ inl (ap (option_map (λ rest. Showed seen ∷ rest)) e ∙ ap Some (sym f.2)) | inr e ↦ inr (f.2 ∙ ap (λ rest. Showed seen ∷ rest) e) ]
front_at_end (NoAct before ∷ xs) front turn h = inl h

module _ (start : List ℕ) (all : List Act) where
  -- if there was such a moment, the view up to it is the fold over all acts
  abbrev IsShownIn : List Event → Type 0
  IsShownIn events = (front : List Event) → due_front events ≡ Some front → view_of front ≡ view_fold start all (releases_of front)

  abbrev pub IsShown : World → Type 0
  IsShown w = IsShownIn w.events

  told_more : (events more : List Event) → due_front more ≡ None → IsShownIn events → IsShownIn (events ++ more)
  told_more events more none is front h = is front (kept_front events more front none h)

  -- the moment itself
  told_none : (w : World) (turn : Turn) → HasFolded start all w → w.acts ≡ [] → IsShown w → IsShown (telling (NoAct turn ∷ []) w)
  told_none w turn v none is front h =
      let taken : v.fold.taken ≡ all = sym (v.fold.are ∙ ap (λ acts. v.fold.taken ++ acts) none ∙ append-nil v.fold.taken) in
      let here : view_of w.events ≡ view_fold start all (releases_of w.events) = v.fold.view ∙ ap (λ acts. view_fold start acts (releases_of w.events)) taken in
      elim (front_at_end w.events front turn h) [ inl e ↦ is front e | inr e ↦ subst (λ (es : List Event). view_of es ≡ view_fold start all (releases_of es)) (sym e) here ]

  took_shown : (act : Act) (acts : List Act) (w : World) → IsShown w → IsShown (taken_one act acts w)
  took_shown act acts w is = told_more w.events (Took w.turn act ∷ []) refl is

  act_shown : (act : Act) (w : World) → IsShown w → BeforeKeeps IsShown IsShown IsShown IsShown IsShown (act_before_touch act w)
  act_shown Go w is = is
  act_shown (Read at len) w is = by (lies_in at len w.sandbox)
    where
      by : (inside : Bool) → BeforeKeeps IsShown IsShown IsShown IsShown IsShown (waits_or_ends (shown_if inside at len w) w)
      by true = told_more w.events (Showed (SeenBytes at (bytes_at at len w.sandbox)) ∷ []) refl is
      by false = is
  act_shown (Write at bytes) w is = by (lies_in at (length bytes) w.sandbox)
    where
      by : (inside : Bool) → BeforeKeeps IsShown IsShown IsShown IsShown IsShown (waits_or_ends (written_if inside at bytes w) w)
      by true = is
      by false = is
  act_shown (Call fun args) w is = is
  act_shown (Return value) w is = is
  act_shown Stop w is = is

  sandbox_act_shown : (act : Act) (w : World) → IsShown w → InKeeps IsShown IsShown IsShown IsShown IsShown (act_in_sandbox act w)
  sandbox_act_shown Go w is = is
  sandbox_act_shown (Read at len) w is = by (lies_in at len w.sandbox)
    where
      by : (inside : Bool) → InKeeps IsShown IsShown IsShown IsShown IsShown (keeps_or_ends (shown_if inside at len w) w)
      by true = told_more w.events (Showed (SeenBytes at (bytes_at at len w.sandbox)) ∷ []) refl is
      by false = is
  sandbox_act_shown (Write at bytes) w is = by (lies_in at (length bytes) w.sandbox)
    where
      by : (inside : Bool) → InKeeps IsShown IsShown IsShown IsShown IsShown (keeps_or_ends (written_if inside at bytes w) w)
      by true = is
      by false = is
  sandbox_act_shown (Call fun args) w is = is
  sandbox_act_shown (Return value) w is = is
  sandbox_act_shown Stop w is = is

  -- with all that the fold needs to go on
  abbrev OwnShown : World → Type 0
  OwnShown w = OwnTurn start all w × IsShown w

  abbrev ReadyShown : World → Type 0
  ReadyShown w = Ready start all w × IsShown w

  abbrev OtherShown : World → Type 0
  OtherShown w = OtherTurn start all w × IsShown w

  abbrev CallShown : World → Type 0
  CallShown w = BehindCall start all w × IsShown w

  both_before : (r : BeforeTouch) → BeforeKeeps (OwnTurn start all) (Ready start all) (OtherTurn start all) (BehindCall start all) (HasFolded start all) r
      → BeforeKeeps IsShown IsShown IsShown IsShown IsShown r → BeforeKeeps OwnShown ReadyShown OtherShown CallShown IsShown r
  both_before (BeforeTouch.Waits w) told is = (told, is)
  both_before (BeforeTouch.Touches w) told is = (told, is)
  both_before (BeforeTouch.Ends ending w) told is = is

  both_in : (r : InSandbox) → InKeeps (OwnTurn start all) (Ready start all) (OtherTurn start all) (BehindCall start all) (HasFolded start all) r
      → InKeeps IsShown IsShown IsShown IsShown IsShown r → InKeeps OwnShown ReadyShown OtherShown CallShown IsShown r
  both_in (InSandbox.Keeps w) told is = (told, is)
  both_in (InSandbox.Answers word w) told is = (told, is)
  both_in (InSandbox.Calls fun words w) told is = (told, is)
  both_in (InSandbox.Ends ending w) told is = is

  touch_shown : (release : Release) (w : World) → ReadyShown w → ReleaseKeeps OwnShown ReadyShown OtherShown CallShown IsShown release (released release w)
  touch_shown Looked w r = ((view_kept start all).touches w Looked r.0, told_more w.events (Released Looked ∷ []) refl r.1)
  touch_shown (Wrote at bytes) w r = ((view_kept start all).touches w (Wrote at bytes) r.0, told_more w.events (Released (Wrote at bytes) ∷ []) refl r.1)
  touch_shown (Passed fun args) w r = ((view_kept start all).touches w (Passed fun args) r.0, told_more w.events (Released (Passed fun args) ∷ Showed (SeenCall fun args) ∷ []) refl r.1)
  touch_shown (Replied value) w r = ((view_kept start all).touches w (Replied value) r.0, told_more w.events (Released (Replied value) ∷ Showed (SeenReply value) ∷ []) refl r.1)

  shown_kept : AreKept OwnShown ReadyShown OtherShown CallShown IsShown
  shown_kept =
      let kept = view_kept start all in
      record {
        ticks = λ w n d. (kept.ticks w n d.0, d.1);
        inputs = λ w left d. (kept.inputs w left d.0, d.1);
        writes = λ w bytes d. (kept.writes w bytes d.0, told_more w.events (Output bytes ∷ []) refl d.1);
        rooms = λ w room d. (kept.rooms w room d.0, d.1);
        acts = λ w act acts e d. both_before (act_before_touch act (taken_one act acts w)) (kept.acts w act acts e d.0) (act_shown act (taken_one act acts w) (took_shown act acts w d.1));
        no_act = λ w none d. (kept.no_act w none d.0, told_none w turns.Trusted (shown start all w d.0.0) none d.1);
        touches = λ w release r. touch_shown release w r;
        sandbox_acts = λ w act acts e d. both_in (act_in_sandbox act (taken_one act acts w)) (kept.sandbox_acts w act acts e d.0) (sandbox_act_shown act (taken_one act acts w) (took_shown act acts w d.1));
        no_sandbox_act = λ w none d. told_none w turns.Sandbox (shown start all w d.0.0) none d.1;
        called_ticks = λ w n d. (kept.called_ticks w n d.0, d.1);
        called_back = λ w d. (kept.called_back w d.0, d.1);
        called_ends = λ w d. d.1;
        ends = λ w d. d.1;
      }

pub shown_before : (image : Image) (settings : Settings) (inputs : List ℤ) (acts : List Act) (ending : Ending) (t : State) → CodeRun image settings inputs acts ending t → IsShown (started image settings inputs acts).world.sandbox acts t.world
shown_before image settings inputs acts ending t run =
    let s = started image settings inputs acts in
    let start = s.world.sandbox in
    subst (RunKeeps (OwnShown start acts) (ReadyShown start acts) (OtherShown start acts) (CallShown start acts) (IsShown start acts)) run.1
    (run-keeps (OwnShown start acts) (ReadyShown start acts) (OtherShown start acts) (CallShown start acts) (IsShown start acts) (shown_kept start acts) image settings run.0 s ((told_at_start start s.world.room inputs acts, refl), λ front h. absurd (cc)))
