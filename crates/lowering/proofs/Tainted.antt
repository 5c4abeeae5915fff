-- Calls of tainted functions: the acts before the touch, and those of the sandbox's turn.
use Rattle.std.proofs.Common.{◌≡◌, ℕ, zero, suc, ◌+◌, ◌<◌, Bool, true, false, List, [], ◌∷◌, ◌++◌, reverse, length, map, Option, Some, None, refl, sym, ap, ◌∙◌, subst, arith}
use Rattle.std.specs.Prelude.{slice_get, nat_lt, ◌==◌, option_map}
use Rattle.std.specs.List.{AllByRecursion}
use Rattle.std.proofs.lemmas.List.{length-map}
use Rattle.std.proofs.lemmas.Bool.Decides.{nat_tests}
use Rattle.ckc_text.specs.declared.place.Place.{Place}
use Rattle.ckc_text.specs.declared.code.Code.TheVariants.{C9, S2}
use Rattle.act_words.specs.declared.ending.Ending.{Ending}
use Rattle.act_words.specs.declared.ending.Ending.TheVariants.{Check, Stop}
use Rattle.act_words.specs.declared.act.Turn.TheVariants as turns
use Rattle.act_words.specs.Acts.{Act, IsAct, IsWord, Passed}
use Rattle.ckc_core.specs.Outcome.{and_then}
use Rattle.act_words.specs.Numbers.{word, signed}
use Rattle.act_words.specs.World.{World, NoAct, telling, taken_one}
use Rattle.act_words.specs.Acting.{BeforeTouch, InSandbox, act_before_touch, act_in_sandbox, sandbox_ended}
use Rattle.act_words.specs.Touches.{Asked, Got, Ended, Crossed, asking, on_from, on_keeps, before_touch, released, until_return, entered_if, enter_call, spend_tick, touch}
use Rattle.pointer_modes.specs.Types.{CType, Int, Char, Struct, Pointer}
use Rattle.ckc_core.specs.declared.program.Site.{Site}
use Rattle.ckc_core.specs.Programs.{Import}
use Rattle.ckc_core.specs.States.{Value, Number, Null, At, shapes}
use Rattle.ckc_core.specs.States as meaning
use Rattle.ckc_core.specs.Steps.{setting_of, words_of, reply_as, passed, crossed, back, cross, cross_if, call_tainted}
use Rattle.check_insertion.specs.ErasedMeaning.{Knot}
use Rattle.ckc_core.specs.Steps as meanings
use Rattle.code_words.specs.Table.{Frame, Caller, Waits, Passes, Touches, Away, State, Step, behind, push_result}
use Rattle.code_words.specs.Table as table
use Rattle.code_words.specs.Moves.{move, before_touch_by, in_sandbox_by, reply_to}
use Rattle.code_words.specs.Moves as moves
use Rattle.marshalling.specs.Crossing.{fits_kind}
use Rattle.lowering.specs.Code.{result_kind}
use Rattle.code_words.specs.declared.op.Op.TheVariants as ops
use Rattle.lowering.specs.Images.{import_code, imports_from}
use Rattle.ckc_core.proofs.Numbers.{word-signed, signed_fits}
use Rattle.lowering.proofs.Shapes.{grows_none, grows_on}
use Rattle.lowering.proofs.Worlds.{KeptWorld, HasLeft, BeforeKeeps, SandboxKeeps, act_waits, act_keeps}
use Rattle.lowering.proofs.Executions.{Execution, image, word_of, state, AreKeptBy, KeptBlocks, locals_grow, same_end}
use Rattle.lowering.proofs.Steps.{HasAt, Leads, leads_on, Asks, asks_on, Reached, Finishes, one_move, last_move, Layout, Holds, code, frame, standing, Kept, Here, kept_in, fetched, frame_grows, Scratch}
use Rattle.lowering.proofs.Expressions.{tick_runs}
use Rattle.lowering.proofs.Calls.{Answered, KnotRuns, piled, piled_words, popped, Resumes, resumed}

-- the worlds that are left
kept_world : (acts : List Act) (w : World) → AllByRecursion IsAct acts → HasLeft acts w → KeptWorld w
kept_world acts w all h = record { acts = subst (AllByRecursion IsAct) (sym h.left) all; inputs = h.inputs }

asking_on : {A B : Type 0} (G : A → World → Type 0) (H : B → World → Type 0) (E : Ending → World → Type 0) (x : Asked A) (next : A → World → Asked B) → Asks G E x → ((value : A) (w : World) → G value w → Asks H E (next value w)) → Asks H E (asking x next)
asking_on G H E (Got value w) next h more = more value w h
asking_on G H E (Ended ending w) next h more = h

module _ (g : Execution) (s : meaning.State) (blocks : KeptBlocks g s.blocks) (callers : List Caller) (f : Frame) (k : ℕ) (words : List ℕ) (place : Place) where
  -- the touch waits for the next `go`
  abbrev touching : World → State
  touching w = state g (Touches f (Passes k words place)) callers (meaning.in_world w s)

  -- the sandbox has the turn
  abbrev away : World → State
  away w = state g Away (Waits (behind f f.stack) k place ∷ callers) (meaning.in_world w s)

  abbrev EndsIn : Ending → World → Type 0
  EndsIn ending w = Finishes g ending (meaning.in_world w s)

  -- the touch was made
  record IsPassed (u : Unit {0}) (w : World) : Type 0 where
    kept : KeptWorld w
    reached : Reached g (away (released (Passed k words) w))

  -- an act before the touch
  act_passes : (acts : List Act) (x : BeforeTouch) (w : World) (next : World → Asked (Unit {0})) → AllByRecursion IsAct acts → BeforeKeeps acts x → Reached g (touching w) → move (image g) g.settings (touching w) ≡ before_touch_by (image g) f (Passes k words place) x (touching w) → ((v : World) → HasLeft acts v → Reached g (touching v) → Asks IsPassed EndsIn (next v)) → Asks IsPassed EndsIn (on_from x next)
  act_passes acts (BeforeTouch.Waits v) w next all left reached goes more = more v left (one_move g (touching w) (touching v) reached goes)
  act_passes acts (BeforeTouch.Touches v) w next all left reached goes more =
      record { kept = kept_world acts v all left; reached = one_move g (touching w) (away (released (Passed k words) v)) reached goes }
  act_passes acts (BeforeTouch.Ends ending v) w next all left reached goes more =
      last_move g (touching w) (touching v) ending (meaning.in_world v s) reached goes (same_end g (Touches f (Passes k words place)) callers (meaning.in_world v s) blocks)

  -- acts up to the touch
  passes : (acts : List Act) (w : World) → AllByRecursion IsAct acts → HasLeft acts w → Reached g (touching w) → Asks IsPassed EndsIn (before_touch acts w)
  passes [] w all left reached =
      let v = telling (NoAct turns.Trusted ∷ []) w in
      record { kept = kept_world [] v tt (record { left = left.left; inputs = left.inputs }); reached = one_move g (touching w) (away (released (Passed k words) v)) reached (ap (λ acts. moves.before_touch (image g) f (Passes k words place) acts (touching w)) left.left) }
  passes (a ∷ acts) w all left reached =
      act_passes acts (act_before_touch a (taken_one a acts w)) w (before_touch acts) all.1 (act_waits acts a (taken_one a acts w) (record { left = refl; inputs = left.inputs })) reached
      (ap (λ acts. moves.before_touch (image g) f (Passes k words place) acts (touching w)) left.left)
      (λ v h r. passes acts v all.1 h r)

-- the sandbox's turn
module _ (g : Execution) (callers : List Caller) (s : meaning.State) (blocks : KeptBlocks g s.blocks) where
  abbrev resting : World → State
  resting w = state g Away callers (meaning.in_world w s)

  act_answers : (acts : List Act) (x : InSandbox) (w : World) (next : World → Crossed) → AllByRecursion IsAct acts → SandboxKeeps acts x → Reached g (resting w) → move (image g) g.settings (resting w) ≡ in_sandbox_by (image g) g.settings x (resting w) → ((v : World) → HasLeft acts v → Reached g (resting v) → Leads (Answered g callers (shapes s.blocks)) (Finishes g) (crossed (next v) s)) → Leads (Answered g callers (shapes s.blocks)) (Finishes g) (crossed (on_keeps x next) s)
  act_answers acts (InSandbox.Keeps v) w next all left reached goes more = more v left (one_move g (resting w) (resting v) reached goes)
  act_answers acts (InSandbox.Answers reply v) w next all left reached goes more =
      record { is_word = left.0; blocks = blocks; grows = grows_none (shapes s.blocks); world = kept_world acts v all left.1; before = meaning.in_world w s; reached = reached; answers = goes }
  act_answers acts (InSandbox.Calls fun args v) w next all left reached goes more = last_move g (resting w) (resting v) _ (meaning.in_world v s) reached goes (same_end g Away callers (meaning.in_world v s) blocks)
  act_answers acts (InSandbox.Ends ending v) w next all left reached goes more = last_move g (resting w) (resting v) ending (meaning.in_world v s) reached goes (same_end g Away callers (meaning.in_world v s) blocks)

  pub sandbox_runs : (acts : List Act) (w : World) → AllByRecursion IsAct acts → HasLeft acts w → Reached g (resting w) → Leads (Answered g callers (shapes s.blocks)) (Finishes g) (crossed (until_return acts w) s)
  sandbox_runs [] w all left reached =
      let v = telling (NoAct turns.Sandbox ∷ []) w in
      last_move g (resting w) (resting v) sandbox_ended (meaning.in_world v s) reached (ap (λ acts. moves.in_sandbox (image g) g.settings acts (resting w)) left.left) (same_end g Away callers (meaning.in_world v s) blocks)
  sandbox_runs (a ∷ acts) w all left reached =
      act_answers acts (act_in_sandbox a (taken_one a acts w)) w (until_return acts) all.1 (act_keeps acts a (taken_one a acts w) all.0 (record { left = refl; inputs = left.inputs })) reached
      (ap (λ acts. moves.in_sandbox (image g) g.settings acts (resting w)) left.left)
      (λ v h r. sandbox_runs acts v all.1 h r)

-- a tainted function of the program is one of the image, with as many arguments
import_there : (n k : ℕ) (imports : List Import) (i : Import) → slice_get imports k ≡ Some i → (m : ℕ) × (slice_get (imports_from n imports) k ≡ Some (import_code m i))
import_there n k [] i h = absurd (cc)
import_there n zero (j ∷ imports) i h = let e : j ≡ i = cc in (n, ap (λ x. Some (import_code n x)) e)
import_there n (suc k) (j ∷ imports) i h = import_there (suc n) k imports i h

-- the words behind a first one
behind_first : (w : ℕ) (o : Option (List ℕ)) (words : List ℕ) → option_map (λ ws. w ∷ ws) o ≡ Some words → (rest : List ℕ) × (o ≡ Some rest) × (w ∷ rest ≡ words)
behind_first w None words h = absurd (cc)
behind_first w (Some rest) words h = (rest, refl, cc)

-- the words of numbers are those of the values
passed_words : (g : Execution) (s : meaning.State) (vs : List Value) (words : List ℕ) → words_of vs ≡ Some words → map (word_of g s) vs ≡ words
passed_words g s [] words h = cc
passed_words g s (Number z ∷ vs) words h =
    let found = behind_first (word z) (words_of vs) words h in
    ap (λ l. word z ∷ l) (passed_words g s vs found.0 found.1) ∙ found.2
passed_words g s (Null ∷ vs) words h = absurd (cc)
passed_words g s (At block byte ∷ vs) words h = absurd (cc)

module _ (g : Execution) (l : Layout g) where
  -- the move that takes a reply
  abbrev replies : ℕ → Scratch → List ℕ → meaning.State → Option CType → Place → ℕ → Step
  replies next scratch stack s result place reply = moves.reply_if (fits_kind (result_kind result) reply) (image g) (frame g l next scratch stack s) place (result_kind result) reply (state g Away l.callers s)

  -- a reply is a number of the result's type, or breaks off
  reply_runs : (result : Option CType) (next : ℕ) (scratch : Scratch) (stack : List ℕ) (s : meaning.State) (site : Site) (reply : ℕ) (u : State) → IsWord reply → Holds l.held scratch → Kept g l s → length stack < (code g l).stack → Reached g u → move (image g) g.settings u ≡ replies next scratch stack s result site.place reply → Leads (Resumes g l next stack) (Finishes g) (reply_as result site reply s)
  reply_runs None next scratch stack s site reply u is holds kept room reached moves_on = resumed g l next scratch stack None s u (state g Away l.callers s) holds kept tt room refl reached moves_on
  reply_runs (Some Int) next scratch stack s site reply u is holds kept room reached moves_on =
      resumed g l next scratch stack (Some (Number (signed reply))) s u (state g Away l.callers s) holds kept (signed_fits reply is) room refl reached
      (moves_on ∙ ap (λ w. push_result (slice_get (image g).trusted.funs l.number) (Some w) (frame g l next scratch stack s) (state g Away l.callers s)) (sym (word-signed reply is)))
  reply_runs (Some Char) next scratch stack s site reply u is holds kept room reached moves_on = char_runs (nat_lt reply 256) refl
    where
      char_runs : (low : Bool) → nat_lt reply 256 ≡ low → Leads (Resumes g l next stack) (Finishes g) (reply_as (Some Char) site reply s)
      char_runs true test =
          rw test
          (resumed g l next scratch stack (Some (Number (signed reply))) s u (state g Away l.callers s) holds kept (signed_fits reply is) room refl reached
          (moves_on ∙ ap (λ yes. moves.reply_if yes (image g) (frame g l next scratch stack s) site.place (result_kind (Some Char)) reply (state g Away l.callers s)) test ∙ ap (λ w. push_result (slice_get (image g).trusted.funs l.number) (Some w) (frame g l next scratch stack s) (state g Away l.callers s)) (sym (word-signed reply is))))
      char_runs false test =
          rw test
          (last_move g u (state g Away l.callers s) (Check C9 site.place) s reached
          (moves_on ∙ ap (λ yes. moves.reply_if yes (image g) (frame g l next scratch stack s) site.place (result_kind (Some Char)) reply (state g Away l.callers s)) test) (same_end g Away l.callers s kept.blocks))
  reply_runs (Some (Struct number)) next scratch stack s site reply u is holds kept room reached moves_on = tt
  reply_runs (Some (Pointer mode kind target)) next scratch stack s site reply u is holds kept room reached moves_on = tt

  call_moves : (next : ℕ) (scratch : Scratch) (stack words : List ℕ) (s : meaning.State) (k : ℕ) (place : Place) (i : Import) (few : Bool) → nat_lt s.depth 1000 ≡ few → slice_get g.program.imports k ≡ Some i → i.parameters ≡ length words → Kept g l s → slice_get (code g l).ops next ≡ Some (ops.TaintedCall k place) → move (image g) g.settings (standing g l next scratch (reverse words ++ stack) s) ≡ table.asked (entered_if few s.world) (standing g l next scratch (reverse words ++ stack) s) (λ _ u. table.touch_if true (Passes k words place) stack (frame g l next scratch (reverse words ++ stack) s) u)
  call_moves next scratch stack words s k place i few test there count kept at =
      let fr = frame g l next scratch (reverse words ++ stack) s in
      let t = standing g l next scratch (reverse words ++ stack) s in
      let found = import_there 0 k g.program.imports i there in
      let touches = λ (ws rest : List ℕ). table.asked (enter_call (suc (length l.callers)) s.world) t (λ _ u. table.touch_if true (Passes k ws place) rest fr u) in
      fetched g l next scratch (reverse words ++ stack) s (ops.TaintedCall k place) at
      ∙ ap (λ o. table.call_tainted k place o fr t) found.1
      ∙ popped words stack i.parameters touches t count
      ∙ ap (λ yes. table.asked (entered_if yes s.world) t (λ _ u. table.touch_if true (Passes k words place) stack fr u)) (ap (λ n. nat_lt n 1000) (sym kept.depth) ∙ test)

  module _ (m : Knot) (runs : KnotRuns g m) where
    passed_runs : (next : ℕ) (scratch : Scratch) (stack : List ℕ) (s : meaning.State) (k : ℕ) (site : Site) (i : Import) → slice_get g.program.imports k ≡ Some i → Holds l.held scratch → Kept g l s → length stack < (code g l).stack → Reached g (state g Away (Waits (frame g l next scratch stack s) k site.place ∷ l.callers) s) → Leads (Resumes g l next stack) (Finishes g) (passed m i site s)
    passed_runs next scratch stack s k site i there holds kept room reached =
        let inside : meaning.State = record s { depth = s.depth + 1 } in
        let waits : List Caller = Waits (frame g l next scratch stack s) k site.place ∷ l.callers in
        let Back : ℕ → meaning.State → Type 0 = λ reply t. Answered g waits (shapes s.blocks) reply t × (t.locals ≡ s.locals) × (t.depth ≡ s.depth) in
        leads_on Back (Resumes g l next stack) (Finishes g) (and_then (m.sandbox inside) (back s)) (reply_as i.result site)
        (leads_on (Answered g waits (shapes s.blocks)) Back (Finishes g) (m.sandbox inside) (back s) (runs.sandbox waits inside kept.blocks kept.world (omega (arith, kept.depth)) reached)
        (λ reply t a. (record { is_word = a.is_word; blocks = a.blocks; grows = a.grows; world = a.world; before = a.before; reached = a.reached; answers = a.answers }, refl, refl)))
        (λ reply t a.
        let found = import_there 0 k g.program.imports i there in
        let back_kept : Kept g l t = record {
          count = ap length a.1 ∙ kept.count;
          depth = a.2 ∙ kept.depth;
          locals = subst (AreKeptBy (shapes t.blocks)) (sym a.1) (locals_grow (shapes s.blocks) (shapes t.blocks) s.locals a.0.grows kept.locals);
          blocks = a.0.blocks;
          grows = grows_on l.since (shapes s.blocks) (shapes t.blocks) kept.grows a.0.grows;
          world = a.0.world;
        } in
        reply_runs i.result next scratch stack t site reply (state g Away waits a.0.before) a.0.is_word holds back_kept room a.0.reached
        (a.0.answers
        ∙ ap (λ o. reply_to (image g) (frame g l next scratch stack s) site.place o reply (state g Away l.callers t)) found.1
        ∙ ap (λ fr. moves.reply_if (fits_kind (result_kind i.result) reply) (image g) fr site.place (result_kind i.result) reply (state g Away l.callers t)) (frame_grows g l next scratch stack s t a.0.grows kept.locals a.1)))

    asks_runs : (next : ℕ) (stack words : List ℕ) (s : meaning.State) (k : ℕ) (site : Site) (i : Import) (few : Bool) → nat_lt s.depth 1000 ≡ few → slice_get g.program.imports k ≡ Some i → i.parameters ≡ length words → Here g l next (reverse words ++ stack) s → slice_get (code g l).ops next ≡ Some (ops.TaintedCall k site.place) → length stack < (code g l).stack → Leads (Resumes g l (next + 1) stack) (Finishes g) (meanings.asked (entered_if few s.world) s (λ _ u. meanings.asked (touch (Passed k words) u.world) u (λ _ v. passed m i site v)))
    asks_runs next stack words s k site i false test there count here at room =
        let t = standing g l next here.scratch (reverse words ++ stack) s in
        last_move g t t (Stop S2 None) s here.reached (call_moves next here.scratch stack words s k site.place i false test there count here.kept at) (same_end g t.control l.callers s here.kept.blocks)
    asks_runs next stack words s k site i true test there count here at room =
        let f = frame g l next here.scratch stack s in
        let w = s.world in
        let reached = one_move g (standing g l next here.scratch (reverse words ++ stack) s) (touching g s here.kept.blocks l.callers f k words site.place w) here.reached (call_moves next here.scratch stack words s k site.place i true test there count here.kept at) in
        asks_on (λ _ v. KeptWorld v × Reached g (away g s here.kept.blocks l.callers f k words site.place v)) (Resumes g l (next + 1) stack) (Finishes g) (touch (Passed k words) w) s (λ _ v. passed m i site v)
        (asking_on (IsPassed g s here.kept.blocks l.callers f k words site.place) (λ u v. KeptWorld v × Reached g (away g s here.kept.blocks l.callers f k words site.place v)) (λ ending v. Finishes g ending (meaning.in_world v s)) (before_touch w.acts w) (λ _ v. Got _ (released (Passed k words) v))
        (passes g s here.kept.blocks l.callers f k words site.place w.acts w here.kept.world.acts (record { left = refl; inputs = here.kept.world.inputs }) reached)
        (λ u v h. (record { acts = h.kept.acts; inputs = h.kept.inputs }, h.reached)))
        (λ u v h. passed_runs (next + 1) here.scratch stack (meaning.in_world v s) k site i there here.holds (kept_in g l s v here.kept h.0) room h.1)

    cross_runs : (next : ℕ) (stack : List ℕ) (s : meaning.State) (k : ℕ) (site : Site) (i : Import) (vs : List Value) (ws : Option (List ℕ)) → slice_get g.program.imports k ≡ Some i → i.parameters ≡ length vs → words_of vs ≡ ws → Here g l next (piled g s vs stack) s → HasAt (code g l).ops next (ops.Tick ∷ (ops.TaintedCall k site.place ∷ [])) → length stack < (code g l).stack → Leads (Resumes g l (next + 1 + 1) stack) (Finishes g) (cross (setting_of g.program g.settings) m k i site ws s)
    cross_runs next stack s k site i vs None there count are here at room = tt
    cross_runs next stack s k site i vs (Some words) there count are here at room =
        let same = passed_words g s vs words are in
        let pile : piled g s vs stack ≡ reverse words ++ stack = piled_words g s vs stack ∙ ap (λ l. reverse l ++ stack) same in
        let many : i.parameters ≡ length words = count ∙ sym (length-map vs (word_of g s)) ∙ ap length same in
        asks_on (λ _ w. Here g l (next + 1) (reverse words ++ stack) (meaning.in_world w s)) (Resumes g l (next + 1 + 1) stack) (Finishes g) (spend_tick g.settings.budget s.world) s _
        (tick_runs g l next (reverse words ++ stack) s (subst (λ p. Here g l next p s) pile here) at.0)
        (λ _ w ticked. asks_runs (next + 1) stack words (meaning.in_world w s) k site i (nat_lt s.depth 1000) refl there many ticked at.1.0 room)

    cross_if_runs : (next : ℕ) (stack : List ℕ) (s : meaning.State) (k : ℕ) (site : Site) (i : Import) (vs : List Value) (yes : Bool) → (i.parameters == length vs) ≡ yes → slice_get g.program.imports k ≡ Some i → Here g l next (piled g s vs stack) s → HasAt (code g l).ops next (ops.Tick ∷ (ops.TaintedCall k site.place ∷ [])) → length stack < (code g l).stack → Leads (Resumes g l (next + 1 + 1) stack) (Finishes g) (cross_if yes (setting_of g.program g.settings) m k i site vs s)
    cross_if_runs next stack s k site i vs false test there here at room = tt
    cross_if_runs next stack s k site i vs true test there here at room =
        let count : i.parameters ≡ length vs = grind (arith, nat_tests) in
        cross_runs next stack s k site i vs (words_of vs) there count refl here at room

    taken_runs : (next : ℕ) (stack : List ℕ) (s : meaning.State) (k : ℕ) (site : Site) (vs : List Value) (o : Option Import) → slice_get g.program.imports k ≡ o → Here g l next (piled g s vs stack) s → HasAt (code g l).ops next (ops.Tick ∷ (ops.TaintedCall k site.place ∷ [])) → length stack < (code g l).stack → Leads (Resumes g l (next + 1 + 1) stack) (Finishes g) (call_tainted (setting_of g.program g.settings) m k o site vs s)
    taken_runs next stack s k site vs None there here at room = tt
    taken_runs next stack s k site vs (Some i) there here at room = cross_if_runs next stack s k site i vs (i.parameters == length vs) refl there here at room

    -- a call of values, whose words lie on the stack
    pub tainted_runs : (next : ℕ) (stack : List ℕ) (s : meaning.State) (k : ℕ) (site : Site) (vs : List Value) → Here g l next (piled g s vs stack) s → HasAt (code g l).ops next (ops.Tick ∷ (ops.TaintedCall k site.place ∷ [])) → length stack < (code g l).stack → Leads (Resumes g l (next + 1 + 1) stack) (Finishes g) (call_tainted (setting_of g.program g.settings) m k (slice_get g.program.imports k) site vs s)
    tainted_runs next stack s k site vs here at room = taken_runs next stack s k site vs (slice_get g.program.imports k) refl here at room
