-- What the sandbox is shown is the fold over its starting memory, the acts that were taken, and the releases: act by act, and
-- touch by touch.
use Rattle.std.proofs.Common.{◌≡◌, ℕ, ℤ, Bool, true, false, List, [], ◌∷◌, ◌++◌, length, refl, sym, ap, ◌∙◌, subst, ◌⊎◌, inl, inr}
use Rattle.std.proofs.lemmas.List.{append_assoc, append-nil, append_cancel_right}
use Rattle.act_words.specs.declared.act.Turn.{Turn}
use Rattle.act_words.specs.declared.act.Turn.TheVariants as turns
use Rattle.act_words.specs.Acts.{Act, Go, Read, Write, Call, Return, Stop, Seen, SeenBytes, SeenCall, SeenReply, Release, Looked, Wrote, Passed, Replied}
use Rattle.act_words.specs.World.{World, Event, Took, Output, Released, Showed, NoAct, new_world, telling, taken_one, in_turn}
use Rattle.act_words.specs.Acting.{BeforeTouch, InSandbox, lies_in, bytes_at, with_bytes, shown_if, written_if, waits_or_ends, keeps_or_ends, act_before_touch, act_in_sandbox}
use Rattle.act_words.specs.Touches.{released, write}
use Rattle.act_words.specs.View.{ViewIsFold, IsFront, view_fold, view_from, and_then_if, releases_of, view_of, acts_of}

releases_of-append : (xs ys : List Event) → releases_of (xs ++ ys) ≡ releases_of xs ++ releases_of ys
releases_of-append [] ys = refl
releases_of-append (Took turn act ∷ xs) ys = releases_of-append xs ys
releases_of-append (Output bytes ∷ xs) ys = releases_of-append xs ys
releases_of-append (Released release ∷ xs) ys = ap (λ releases. release ∷ releases) (releases_of-append xs ys)
releases_of-append (Showed seen ∷ xs) ys = releases_of-append xs ys
releases_of-append (NoAct turn ∷ xs) ys = releases_of-append xs ys

view_of-append : (xs ys : List Event) → view_of (xs ++ ys) ≡ view_of xs ++ view_of ys
view_of-append [] ys = refl
view_of-append (Took turn act ∷ xs) ys = view_of-append xs ys
view_of-append (Output bytes ∷ xs) ys = view_of-append xs ys
view_of-append (Released release ∷ xs) ys = view_of-append xs ys
view_of-append (Showed seen ∷ xs) ys = ap (λ all. seen ∷ all) (view_of-append xs ys)
view_of-append (NoAct turn ∷ xs) ys = view_of-append xs ys

pub acts_of-append : (xs ys : List Event) → acts_of (xs ++ ys) ≡ acts_of xs ++ acts_of ys
acts_of-append [] ys = refl
acts_of-append (Took turn act ∷ xs) ys = ap (λ acts. act ∷ acts) (acts_of-append xs ys)
acts_of-append (Output bytes ∷ xs) ys = acts_of-append xs ys
acts_of-append (Released release ∷ xs) ys = acts_of-append xs ys
acts_of-append (Showed seen ∷ xs) ys = acts_of-append xs ys
acts_of-append (NoAct turn ∷ xs) ys = acts_of-append xs ys

abbrev pub IsCons : List Act → Type 0
IsCons [] = ⊥
IsCons (act ∷ acts) = Unit {0}

-- acts that may still be taken where these are left: none at the end of the list
abbrev pub MayFollow : List Act → List Act → Type 0
MayFollow [] more = more ≡ []
MayFollow (act ∷ acts) more = Unit {0}

-- with any acts and releases behind those so far, the fold goes on from the turn and the bytes
pub record Folds (start : List ℕ) (taken : List Act) (w : World) : Type 0 where
  pub folds : (more : List Act) (releases : List Release) → MayFollow w.acts more → view_fold start (taken ++ more) (releases_of w.events ++ releases) ≡ view_of w.events ++ view_from more w.turn w.sandbox releases

-- one part of the fold, which takes some acts and makes some events
part : (start : List ℕ) (taken acts : List Act) (w v : World) (events : List Event) → Folds start taken w → v.events ≡ w.events ++ events →
    ((more : List Act) (releases : List Release) → MayFollow v.acts more →
    MayFollow w.acts (acts ++ more) × (view_from (acts ++ more) w.turn w.sandbox (releases_of events ++ releases) ≡ view_of events ++ view_from more v.turn v.sandbox releases)) →
    Folds start (taken ++ acts) v
part start taken acts w v events before e step =
    record {
      folds = λ more releases may.
          let s = step more releases may in
          ap (λ all. view_fold start all (releases_of v.events ++ releases)) (append_assoc taken acts more)
          ∙ ap (λ all. view_fold start (taken ++ (acts ++ more)) all) (ap (λ es. releases_of es ++ releases) e ∙ ap (λ rs. rs ++ releases) (releases_of-append w.events events) ∙ append_assoc (releases_of w.events) (releases_of events) releases)
          ∙ before.folds (acts ++ more) (releases_of events ++ releases) s.0
          ∙ ap (λ rest. view_of w.events ++ rest) s.1
          ∙ sym (append_assoc (view_of w.events) (view_of events) (view_from more v.turn v.sandbox releases))
          ∙ ap (λ all. all ++ view_from more v.turn v.sandbox releases) (sym (ap view_of e ∙ view_of-append w.events events));
    }

-- a world in a run over a list of acts: those that were taken and those that are left are the list, and the fold goes on from here
pub record Told (start : List ℕ) (all : List Act) (w : World) : Type 0 where
  pub taken : List Act
  pub are : all ≡ taken ++ w.acts
  pub view : Folds start taken w

pub told_at_start : (sandbox : List ℕ) (room : ℕ) (inputs : List ℤ) (acts : List Act) → Told sandbox acts (new_world sandbox room inputs acts)
told_at_start sandbox room inputs acts = record { taken = []; are = refl; view = record { folds = λ more releases may. refl } }

none_may_follow : (acts : List Act) → MayFollow acts []
none_may_follow [] = refl
none_may_follow (act ∷ acts) = _

any_may_follow : (acts more : List Act) → IsCons acts → MayFollow acts more
any_may_follow [] more some = absurd some
any_may_follow (act ∷ acts) more some = _

no_more : (turn : Turn) (memory : List ℕ) → view_from [] turn memory [] ≡ []
no_more turns.Trusted memory = refl
no_more turns.Sandbox memory = refl

-- the fold over what was taken, with acts behind it that the fold ends at
ended_by : (start : List ℕ) (taken acts : List Act) (w : World) → Folds start taken w → MayFollow w.acts acts → view_from acts w.turn w.sandbox [] ≡ [] → view_of w.events ≡ view_fold start (taken ++ acts) (releases_of w.events)
ended_by start taken acts w before may ends =
    sym (ap (view_fold start (taken ++ acts)) (sym (append-nil (releases_of w.events))) ∙ before.folds acts [] may ∙ ap (λ rest. view_of w.events ++ rest) ends ∙ append-nil (view_of w.events))

-- what was shown is the fold over what was taken, and the fold over more acts goes on from there, where acts are left
pub record HasFolded (start : List ℕ) (all : List Act) (w : World) : Type 0 where
  pub fold : ViewIsFold start all w
  pub goes_on : (more : List Act) → IsCons w.acts → IsFront (view_of w.events) (view_fold start (fold.taken ++ more) (releases_of w.events))

pub shown : (start : List ℕ) (all : List Act) (w : World) → Told start all w → HasFolded start all w
shown start all w t =
    record {
      fold = record {
        taken = t.taken;
        are = t.are;
        view = ended_by start t.taken [] w t.view (none_may_follow w.acts) (no_more w.turn w.sandbox) ∙ ap (λ acts. view_fold start acts (releases_of w.events)) (append-nil t.taken);
      };
      goes_on = λ more some.
          (view_from more w.turn w.sandbox [], ap (view_fold start (t.taken ++ more)) (sym (append-nil (releases_of w.events))) ∙ t.view.folds more [] (any_may_follow w.acts more some));
    }

-- an act is taken, with these events
took : (start : List ℕ) (all : List Act) (w v : World) (act : Act) (acts : List Act) (events : List Event) → Told start all w → w.acts ≡ act ∷ acts → v.acts ≡ acts → v.events ≡ (w.events ++ Took w.turn act ∷ []) ++ events →
    ((more : List Act) (releases : List Release) → view_from (act ∷ more) w.turn w.sandbox (releases_of events ++ releases) ≡ view_of events ++ view_from more v.turn v.sandbox releases) → Told start all v
took start all w v act acts events t next left e step =
    record {
      taken = t.taken ++ act ∷ [];
      are = t.are ∙ ap (λ rest. t.taken ++ rest) next ∙ sym (append_assoc t.taken (act ∷ []) acts) ∙ ap (λ rest. (t.taken ++ act ∷ []) ++ rest) (sym left);
      view = part start t.taken (act ∷ []) w v (Took w.turn act ∷ events) t.view (e ∙ append_assoc w.events (Took w.turn act ∷ []) events) (λ more releases may. (subst (λ rest. MayFollow rest (act ∷ more)) (sym next) _, step more releases));
    }

-- an act is taken that ends the run
took_last : (start : List ℕ) (all : List Act) (w v : World) (act : Act) (acts : List Act) → Told start all w → w.acts ≡ act ∷ acts → v.acts ≡ acts → v.events ≡ w.events ++ Took w.turn act ∷ [] →
    ((more : List Act) → view_from (act ∷ more) w.turn w.sandbox [] ≡ []) → HasFolded start all v
took_last start all w v act acts t next left e ends =
    record {
      fold = record {
        taken = t.taken ++ act ∷ [];
        are = t.are ∙ ap (λ rest. t.taken ++ rest) next ∙ sym (append_assoc t.taken (act ∷ []) acts) ∙ ap (λ rest. (t.taken ++ act ∷ []) ++ rest) (sym left);
        view = ends_with [] ∙ ap (λ rest. view_fold start rest (releases_of v.events)) (append-nil (t.taken ++ act ∷ []));
      };
      goes_on = λ more some. ([], sym (ends_with more) ∙ sym (append-nil (view_of v.events)));
    }
  where
    ends_with : (more : List Act) → view_of v.events ≡ view_fold start ((t.taken ++ act ∷ []) ++ more) (releases_of v.events)
    ends_with more =
        ap view_of e ∙ view_of-append w.events (Took w.turn act ∷ []) ∙ append-nil (view_of w.events)
        ∙ ended_by start t.taken (act ∷ more) w t.view (subst (λ rest. MayFollow rest (act ∷ more)) (sym next) _) (ends more)
        ∙ ap (λ rest. view_fold start rest (releases_of w.events)) (sym (append_assoc t.taken (act ∷ []) more))
        ∙ ap (view_fold start ((t.taken ++ act ∷ []) ++ more)) (sym (ap releases_of e ∙ releases_of-append w.events (Took w.turn act ∷ []) ∙ append-nil (releases_of w.events)))

seen_if : (b : Bool) (seen : List Seen) → b ≡ true → and_then_if b seen ≡ seen
seen_if b seen h = ap (λ c. and_then_if c seen) h

unseen_if : (b : Bool) (seen : List Seen) → b ≡ false → and_then_if b seen ≡ []
unseen_if b seen h = ap (λ c. and_then_if c seen) h

-- a touch may be made: it was let through, or no act is left
pub data Ready (start : List ℕ) (all : List Act) : World → Type 0 where
  let_through : (acts : List Act) (w : World) → Told start all w → w.turn ≡ turns.Trusted → w.acts ≡ Go ∷ acts → Ready start all (taken_one Go acts w)
  at_the_end : (w : World) → Told start all w → w.turn ≡ turns.Trusted → w.acts ≡ [] → Ready start all w

-- at the end of the list, these events follow
touched_at_end : (start : List ℕ) (all : List Act) (w v : World) (events : List Event) → Told start all w → w.acts ≡ [] → v.acts ≡ w.acts → v.events ≡ w.events ++ events →
    ((releases : List Release) → view_from [] w.turn w.sandbox (releases_of events ++ releases) ≡ view_of events ++ view_from [] v.turn v.sandbox releases) → Told start all v
touched_at_end start all w v events t none same e step =
    record {
      taken = t.taken ++ [];
      are = t.are ∙ ap (λ rest. t.taken ++ rest) (sym same) ∙ ap (λ front. front ++ v.acts) (sym (append-nil t.taken));
      view = part start t.taken [] w v events t.view e (λ more releases may.
          let empty : more ≡ [] = subst (λ acts. MayFollow acts more) (same ∙ none) may in (
            subst (λ acts. MayFollow acts more) same may,
            ap (λ rest. view_from rest w.turn w.sandbox (releases_of events ++ releases)) empty ∙ step releases ∙ ap (λ rest. view_of events ++ view_from rest v.turn v.sandbox releases) (sym empty),
          ));
    }

-- an act was due, and none was left
pub none_left : (start : List ℕ) (all : List Act) (turn : Turn) (w : World) → Told start all w → w.acts ≡ [] → Told start all (telling (NoAct turn ∷ []) w)
none_left start all turn w t none = touched_at_end start all w _ (NoAct turn ∷ []) t none refl refl (λ releases. refl)

-- ---- touches

-- the touch is made
pub released_told : (start : List ℕ) (all : List Act) (release : Release) (w : World) → Ready start all w → Told start all (released release w)
released_told start all Looked _ (let_through acts w t turn e) =
    took start all w _ Go acts (Released Looked ∷ []) t e refl refl (λ more releases. ap (λ side. view_from (Go ∷ more) side w.sandbox (Looked ∷ releases)) turn ∙ ap (λ side. view_from more side w.sandbox releases) (sym turn))
released_told start all (Wrote at bytes) _ (let_through acts w t turn e) =
    took start all w _ Go acts (Released (Wrote at bytes) ∷ []) t e refl refl (λ more releases. ap (λ side. view_from (Go ∷ more) side w.sandbox (Wrote at bytes ∷ releases)) turn ∙ ap (λ side. view_from more side (with_bytes at bytes w.sandbox) releases) (sym turn))
released_told start all (Passed fun args) _ (let_through acts w t turn e) =
    took start all w _ Go acts (Released (Passed fun args) ∷ Showed (SeenCall fun args) ∷ []) t e refl refl (λ more releases. ap (λ side. view_from (Go ∷ more) side w.sandbox (Passed fun args ∷ releases)) turn)
released_told start all (Replied value) _ (let_through acts w t turn e) =
    took start all w _ Go acts (Released (Replied value) ∷ Showed (SeenReply value) ∷ []) t e refl refl (λ more releases. ap (λ side. view_from (Go ∷ more) side w.sandbox (Replied value ∷ releases)) turn)
released_told start all Looked _ (at_the_end w t turn e) =
    touched_at_end start all w _ (Released Looked ∷ []) t e refl refl (λ releases. ap (λ side. view_from [] side w.sandbox (Looked ∷ releases)) turn ∙ ap (λ side. view_from [] side w.sandbox releases) (sym turn))
released_told start all (Wrote at bytes) _ (at_the_end w t turn e) =
    touched_at_end start all w _ (Released (Wrote at bytes) ∷ []) t e refl refl (λ releases. ap (λ side. view_from [] side w.sandbox (Wrote at bytes ∷ releases)) turn ∙ ap (λ side. view_from [] side (with_bytes at bytes w.sandbox) releases) (sym turn))
released_told start all (Passed fun args) _ (at_the_end w t turn e) =
    touched_at_end start all w _ (Released (Passed fun args) ∷ Showed (SeenCall fun args) ∷ []) t e refl refl (λ releases. ap (λ side. view_from [] side w.sandbox (Passed fun args ∷ releases)) turn)
released_told start all (Replied value) _ (at_the_end w t turn e) =
    touched_at_end start all w _ (Released (Replied value) ∷ Showed (SeenReply value) ∷ []) t e refl refl (λ releases. ap (λ side. view_from [] side w.sandbox (Replied value ∷ releases)) turn)

-- ---- one act

-- what an act before a touch leads to
abbrev pub BeforeTold : List ℕ → List Act → BeforeTouch → Type 0
BeforeTold start all (BeforeTouch.Waits w) = Told start all w × (w.turn ≡ turns.Trusted)
BeforeTold start all (BeforeTouch.Touches w) = Ready start all w
BeforeTold start all (BeforeTouch.Ends ending w) = HasFolded start all w

pub act_before_told : (start : List ℕ) (all : List Act) (act : Act) (acts : List Act) (w : World) → Told start all w → w.turn ≡ turns.Trusted → w.acts ≡ act ∷ acts → BeforeTold start all (act_before_touch act (taken_one act acts w))
act_before_told start all Go acts w t turn e = let_through acts w t turn e
act_before_told start all (Read at len) acts w t turn e = by (lies_in at len w.sandbox) refl
  where
    by : (b : Bool) → lies_in at len w.sandbox ≡ b → BeforeTold start all (waits_or_ends (shown_if b at len (taken_one (Read at len) acts w)) (taken_one (Read at len) acts w))
    by true h = (took start all w _ (Read at len) acts (Showed (SeenBytes at (bytes_at at len w.sandbox)) ∷ []) t e refl refl (λ more releases. seen_if (lies_in at len w.sandbox) (SeenBytes at (bytes_at at len w.sandbox) ∷ view_from more w.turn w.sandbox releases) h), turn)
    by false h = took_last start all w _ (Read at len) acts t e refl refl (λ more. unseen_if (lies_in at len w.sandbox) (SeenBytes at (bytes_at at len w.sandbox) ∷ view_from more w.turn w.sandbox []) h)
act_before_told start all (Write at bytes) acts w t turn e = by (lies_in at (length bytes) w.sandbox) refl
  where
    by : (b : Bool) → lies_in at (length bytes) w.sandbox ≡ b → BeforeTold start all (waits_or_ends (written_if b at bytes (taken_one (Write at bytes) acts w)) (taken_one (Write at bytes) acts w))
    by true h = (took start all w _ (Write at bytes) acts [] t e refl (sym (append-nil _)) (λ more releases. seen_if (lies_in at (length bytes) w.sandbox) (view_from more w.turn (with_bytes at bytes w.sandbox) releases) h), turn)
    by false h = took_last start all w _ (Write at bytes) acts t e refl refl (λ more. unseen_if (lies_in at (length bytes) w.sandbox) (view_from more w.turn (with_bytes at bytes w.sandbox) []) h)
act_before_told start all (Call fun args) acts w t turn e = took_last start all w _ (Call fun args) acts t e refl refl (λ more. ap (λ side. view_from (Call fun args ∷ more) side w.sandbox []) turn)
act_before_told start all (Return value) acts w t turn e = took_last start all w _ (Return value) acts t e refl refl (λ more. ap (λ side. view_from (Return value ∷ more) side w.sandbox []) turn)
act_before_told start all Stop acts w t turn e = took_last start all w _ Stop acts t e refl refl (λ more. refl)

-- what an act in the sandbox's turn leads to: a call of a callback gives the trusted side the turn
abbrev pub InTold : List ℕ → List Act → InSandbox → Type 0
InTold start all (InSandbox.Keeps w) = Told start all w × (w.turn ≡ turns.Sandbox)
InTold start all (InSandbox.Answers word w) = Told start all w × (w.turn ≡ turns.Trusted)
InTold start all (InSandbox.Calls fun words w) = Told start all (in_turn turns.Trusted w)
InTold start all (InSandbox.Ends ending w) = HasFolded start all w

pub act_in_told : (start : List ℕ) (all : List Act) (act : Act) (acts : List Act) (w : World) → Told start all w → w.turn ≡ turns.Sandbox → w.acts ≡ act ∷ acts → InTold start all (act_in_sandbox act (taken_one act acts w))
act_in_told start all Go acts w t turn e =
    (took start all w (taken_one Go acts w) Go acts [] t e refl (sym (append-nil _)) (λ more releases. ap (λ side. view_from (Go ∷ more) side w.sandbox releases) turn ∙ ap (λ side. view_from more side w.sandbox releases) (sym turn)), turn)
act_in_told start all (Read at len) acts w t turn e = by (lies_in at len w.sandbox) refl
  where
    by : (b : Bool) → lies_in at len w.sandbox ≡ b → InTold start all (keeps_or_ends (shown_if b at len (taken_one (Read at len) acts w)) (taken_one (Read at len) acts w))
    by true h = (took start all w _ (Read at len) acts (Showed (SeenBytes at (bytes_at at len w.sandbox)) ∷ []) t e refl refl (λ more releases. seen_if (lies_in at len w.sandbox) (SeenBytes at (bytes_at at len w.sandbox) ∷ view_from more w.turn w.sandbox releases) h), turn)
    by false h = took_last start all w _ (Read at len) acts t e refl refl (λ more. unseen_if (lies_in at len w.sandbox) (SeenBytes at (bytes_at at len w.sandbox) ∷ view_from more w.turn w.sandbox []) h)
act_in_told start all (Write at bytes) acts w t turn e = by (lies_in at (length bytes) w.sandbox) refl
  where
    by : (b : Bool) → lies_in at (length bytes) w.sandbox ≡ b → InTold start all (keeps_or_ends (written_if b at bytes (taken_one (Write at bytes) acts w)) (taken_one (Write at bytes) acts w))
    by true h = (took start all w _ (Write at bytes) acts [] t e refl (sym (append-nil _)) (λ more releases. seen_if (lies_in at (length bytes) w.sandbox) (view_from more w.turn (with_bytes at bytes w.sandbox) releases) h), turn)
    by false h = took_last start all w _ (Write at bytes) acts t e refl refl (λ more. unseen_if (lies_in at (length bytes) w.sandbox) (view_from more w.turn (with_bytes at bytes w.sandbox) []) h)
act_in_told start all (Call fun args) acts w t turn e =
    took start all w (in_turn turns.Trusted (taken_one (Call fun args) acts w)) (Call fun args) acts [] t e refl (sym (append-nil _)) (λ more releases. ap (λ side. view_from (Call fun args ∷ more) side w.sandbox releases) turn)
act_in_told start all (Return value) acts w t turn e =
    (took start all w (in_turn turns.Trusted (taken_one (Return value) acts w)) (Return value) acts [] t e refl (sym (append-nil _)) (λ more releases. ap (λ side. view_from (Return value ∷ more) side w.sandbox releases) turn), refl)
act_in_told start all Stop acts w t turn e = took_last start all w _ Stop acts t e refl refl (λ more. refl)

-- ---- what the trusted side does beside its touches

-- a world that differs in nothing that the fold is over
pub told_in : (start : List ℕ) (all : List Act) (w v : World) → Told start all w → v.acts ≡ w.acts → v.events ≡ w.events → v.turn ≡ w.turn → v.sandbox ≡ w.sandbox → Told start all v
told_in start all w v t acts events turn sandbox =
    record {
      taken = t.taken;
      are = t.are ∙ ap (λ left. t.taken ++ left) (sym acts);
      view = record {
        folds = λ more releases may.
            ap (λ es. view_fold start (t.taken ++ more) (releases_of es ++ releases)) events
            ∙ t.view.folds more releases (subst (λ left. MayFollow left more) acts may)
            ∙ ap (λ es. view_of es ++ view_from more w.turn w.sandbox releases) (sym events)
            ∙ ap (λ side. view_of v.events ++ view_from more side w.sandbox releases) (sym turn)
            ∙ ap (λ bytes. view_of v.events ++ view_from more v.turn bytes releases) (sym sandbox);
      };
    }

-- the program writes
pub write_told : (start : List ℕ) (all : List Act) (bytes : List ℕ) (w : World) → Told start all w → Told start all (write bytes w)
write_told start all bytes w t =
    record {
      taken = t.taken ++ [];
      are = t.are ∙ ap (λ front. front ++ w.acts) (sym (append-nil t.taken));
      view = part start t.taken [] w (write bytes w) (Output bytes ∷ []) t.view refl (λ more releases may. (may, refl));
    }

-- ---- turns

pub ready_turn : (start : List ℕ) (all : List Act) (w : World) → Ready start all w → w.turn ≡ turns.Trusted
ready_turn start all _ (let_through acts w t turn e) = turn
ready_turn start all _ (at_the_end w t turn e) = turn

-- whose turn it is makes no difference to what was shown
pub view_in_turn : (start : List ℕ) (all : List Act) (w : World) → HasFolded start all (in_turn turns.Trusted w) → HasFolded start all w
view_in_turn start all w v = record { fold = record { taken = v.fold.taken; are = v.fold.are; view = v.fold.view }; goes_on = v.goes_on }

-- ---- two views

-- runs that took the same acts
pub views_of_same_acts : (start : List ℕ) (all also taken : List Act) (v w : World) → ViewIsFold start all v → ViewIsFold start also w → all ≡ taken ++ v.acts → also ≡ taken ++ w.acts →
    releases_of v.events ≡ releases_of w.events → view_of v.events ≡ view_of w.events
views_of_same_acts start all also taken v w f g e h same =
    let first : f.taken ≡ taken = append_cancel_right f.taken taken v.acts (sym f.are ∙ e) in
    let second : g.taken ≡ taken = append_cancel_right g.taken taken w.acts (sym g.are ∙ h) in
    f.view ∙ ap (λ acts. view_fold start acts (releases_of v.events)) (first ∙ sym second) ∙ ap (view_fold start g.taken) same ∙ sym g.view

-- the second run took more acts of the list
longer : (start : List ℕ) (all more : List Act) (v w : World) (f : HasFolded start all v) (g : HasFolded start all w) → g.fold.taken ≡ f.fold.taken ++ more → v.acts ≡ more ++ w.acts → releases_of v.events ≡ releases_of w.events → IsFront (view_of v.events) (view_of w.events)
longer start all more v w f g e left same = by more left whole
  where
    whole : view_of w.events ≡ view_fold start (f.fold.taken ++ more) (releases_of v.events)
    whole = g.fold.view ∙ ap (λ acts. view_fold start acts (releases_of w.events)) e ∙ ap (view_fold start (f.fold.taken ++ more)) (sym same)

    by : (more : List Act) → v.acts ≡ more ++ w.acts → view_of w.events ≡ view_fold start (f.fold.taken ++ more) (releases_of v.events) → IsFront (view_of v.events) (view_of w.events)
    by [] left whole = ([], whole ∙ ap (λ acts. view_fold start acts (releases_of v.events)) (append-nil f.fold.taken) ∙ sym f.fold.view ∙ sym (append-nil (view_of v.events)))
    by (act ∷ more) left whole =
        let front = f.goes_on (act ∷ more) (subst IsCons (sym left) _) in
        (front.0, whole ∙ front.1)

-- of two fronts of one list one is a front of the other
data TwoFronts (xs left ys right : List Act) : Type 0 where
  second_longer : (more : List Act) → ys ≡ xs ++ more → left ≡ more ++ right → TwoFronts xs left ys right
  first_longer : (more : List Act) → xs ≡ ys ++ more → right ≡ more ++ left → TwoFronts xs left ys right

two_fronts : (xs left ys right : List Act) → xs ++ left ≡ ys ++ right → TwoFronts xs left ys right
two_fronts [] left ys right e = second_longer ys refl e
two_fronts (x ∷ xs) left [] right e = first_longer (x ∷ xs) refl (sym e)
two_fronts (x ∷ xs) left (y ∷ ys) right e =
    let rest : xs ++ left ≡ ys ++ right = cc in
    let same : x ≡ y = cc in
    elim (two_fronts xs left ys right rest) [ second_longer more f g ↦ second_longer more (cc) g | first_longer more f g ↦ first_longer more (cc) g ]

pub views_of_one_list : (start : List ℕ) (all : List Act) (v w : World) → HasFolded start all v → HasFolded start all w → releases_of v.events ≡ releases_of w.events →
    IsFront (view_of v.events) (view_of w.events) ⊎ IsFront (view_of w.events) (view_of v.events)
views_of_one_list start all v w f g same =
    elim (two_fronts f.fold.taken v.acts g.fold.taken w.acts (sym f.fold.are ∙ g.fold.are)) [
      | second_longer more taken left ↦ inl (longer start all more v w f g taken left same)
      | first_longer more taken left ↦ inr (longer start all more w v g f taken left (sym same))
    ]
