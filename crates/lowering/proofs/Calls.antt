-- Calls of trusted functions, whose arguments lie on the stack.
use Rattle.std.proofs.Common.{◌≡◌, ℕ, suc, ◌+◌, ◌<◌, ◌≤◌, Bool, true, false, List, [], ◌∷◌, ◌++◌, reverse, length, map, take, drop, Option, Some, None, refl, sym, ap, ◌∙◌, subst, arith, append_assoc, length-append}
use Rattle.std.specs.Prelude.{slice_get, nat_le, nat_lt, option_map}
use Rattle.std.specs.List.{AllByRecursion}
use Rattle.std.proofs.Math.Seq.{take-append_seam, drop-append_seam}
use Rattle.std.proofs.lemmas.List.{reverse-append, reverse-reverse, length-reverse, length-map, length-take-le}
use Rattle.std.proofs.lemmas.List.Elements.{recursion_from_All}
use Rattle.std.proofs.lemmas.Bool.{and_parts}
use Rattle.std.proofs.lemmas.Bool.Decides.{nat_tests}
use Rattle.ckc_text.specs.declared.code.Code.TheVariants.{S2}
use Rattle.act_words.specs.Acts.{IsWord}
use Rattle.act_words.specs.declared.ending.Ending.TheVariants.{Stop}
use Rattle.act_words.specs.Touches.{entered_if, enter_call, spend_tick}
use Rattle.check_insertion.specs.Erased.{Function}
use Rattle.check_insertion.specs.Erased as erased
use Rattle.pointer_modes.specs.Types.{CType}
use Rattle.ckc_core.specs.States.{Value, Shape, Grows, shapes, has_type}
use Rattle.ckc_core.specs.States as meaning
use Rattle.ckc_core.specs.Steps.{Result, Flow, Next, Broke, Continued, Returned, setting_of, fit, parameters_of, enter_if, takes, call_trusted}
use Rattle.check_insertion.specs.ErasedMeaning.{Knot}
use Rattle.ckc_core.specs.Steps as meanings
use Rattle.code_words.specs.Table.{Frame, Caller, Calls, Runs, Away, State, Step, Goes, pop_words, pop_if, call_function, enter, behind, frame_for, push_result, return_to}
use Rattle.code_words.specs.Table as table
use Rattle.code_words.specs.Moves.{move, answer as answer_by}
use Rattle.code_words.specs.declared.op.Op.TheVariants as ops
use Rattle.lowering.specs.Code.{Places, statement_size, statement_code}
use Rattle.check_insertion.specs.Stacks.{statement_stack}
use Rattle.lowering.specs.Sized.{SizedStatement}
use Rattle.lowering.specs.Images.{function_code}
use Rattle.lowering.specs.Correct.{IsFunction}
use Rattle.ckc_core.proofs.Elements.{of_element}
use Rattle.lowering.proofs.Shapes.{grows_on}
use Rattle.lowering.proofs.Worlds.{KeptWorld}
use Rattle.lowering.proofs.Executions.{Execution, image, word_of, state, IsKept, AreKeptBy, KeptBlocks, locals_grow, same_end}
use Rattle.lowering.proofs.Steps.{HasAt, Leads, leads_to, asks_on, Reached, Finishes, one_move, last_move, Layout, Holds, code, frame, standing, Kept, Here, function_found, code_there, fetched, Arrives, frame_grows, Scratch}
use Rattle.lowering.proofs.Expressions.{tick_runs}

-- ---- words on a stack

-- the words of values, the last on top
abbrev pub piled : Execution → meaning.State → List Value → List ℕ → List ℕ
piled g s [] stack = stack
piled g s (v ∷ vs) stack = piled g s vs (word_of g s v ∷ stack)

pub piled_words : (g : Execution) (s : meaning.State) (vs : List Value) (stack : List ℕ) → piled g s vs stack ≡ reverse (map (word_of g s) vs) ++ stack
piled_words g s [] stack = refl
piled_words g s (v ∷ vs) stack =
    piled_words g s vs (word_of g s v ∷ stack)
    ∙ sym (append_assoc (reverse (map (word_of g s) vs)) (word_of g s v ∷ []) stack)
    ∙ ap (λ ws. ws ++ stack) (sym (reverse-append (word_of g s v ∷ []) (map (word_of g s) vs)))

-- words that lie on a stack in reverse order are popped
pub popped : (words stack : List ℕ) (n : ℕ) (next : List ℕ → List ℕ → Step) (t : State) → n ≡ length words → pop_words n (reverse words ++ stack) next t ≡ next words stack
popped words stack n next t e =
    let long : length (reverse words) ≡ n = length-reverse words ∙ sym e in
    let enough : nat_le n (length (reverse words ++ stack)) ≡ true = let l = length-append (reverse words) stack in grind (arith, nat_tests) in
    let taken : take n (reverse words ++ stack) ≡ reverse words = subst (λ k. take k (reverse words ++ stack) ≡ reverse words) long (take-append_seam (reverse words) stack) in
    let left : drop n (reverse words ++ stack) ≡ stack = subst (λ k. drop k (reverse words ++ stack) ≡ stack) long (drop-append_seam (reverse words) stack) in
    ap (λ yes. pop_if yes n (reverse words ++ stack) next t) enough
    ∙ ap (λ ws. next (reverse ws) (drop n (reverse words ++ stack))) taken
    ∙ ap (λ ws. next ws (drop n (reverse words ++ stack))) (reverse-reverse words)
    ∙ ap (next words) left

-- arguments that fit are as many as the parameters
fit_count : (types : List CType) (vs : List Value) → fit types vs ≡ true → length types ≡ length vs
fit_count [] [] h = refl
fit_count [] (v ∷ vs) h = absurd (cc)
fit_count (type ∷ types) [] h = absurd (cc)
fit_count (type ∷ types) (v ∷ vs) h = ap suc (fit_count types vs (and_parts (has_type type v) (fit types vs) h).1)

-- ---- a function that is entered, and that returns

abbrev pub IsKeptResult : meaning.State → Option Value → Type 0
IsKeptResult s None = Unit {0}
IsKeptResult s (Some v) = IsKept s v

-- a function was called with the words of these values
abbrev pub entered : Execution → ℕ → Function → List Caller → List Value → meaning.State → State
entered g number f callers values s = state g (Runs (frame_for number (function_code number f) (map (word_of g s) values))) callers s

-- the innermost call returns a value, or nothing, and blocks were only added to those that were there before
pub record Leaves (g : Execution) (callers : List Caller) (since : List Shape) (v : Option Value) (s : meaning.State) : Type 0 where
  pub last : Frame
  pub popped : Frame
  pub blocks : KeptBlocks g s.blocks
  pub grows : Grows since (shapes s.blocks)
  pub world : KeptWorld s.world
  pub value : IsKeptResult s v
  pub reached : Reached g (state g (Runs last) callers s)
  pub returns : move (image g) g.settings (state g (Runs last) callers s) ≡ return_to (image g) callers (option_map (word_of g s) v) popped (state g (Runs last) callers s)

-- the same, where the meaning is back in the caller
pub record Returns (g : Execution) (callers : List Caller) (before : meaning.State) (v : Option Value) (s : meaning.State) : Type 0 where
  pub leaves : Leaves g callers (shapes before.blocks) v s
  pub locals : s.locals ≡ before.locals
  pub depth : s.depth ≡ before.depth

-- where a statement leads to, in the body of a function
abbrev pub FlowsTo : (g : Execution) → Layout g → Places → ℕ → Flow → meaning.State → Type 0
FlowsTo g l p next Next s = Here g l next [] s
FlowsTo g l p next Broke s = Here g l p.on_break [] s
FlowsTo g l p next Continued s = Here g l p.on_continue [] s
FlowsTo g l p next (Returned v) s = Leaves g l.callers l.since v s

abbrev pub Affects : (g : Execution) → Layout g → Places → ℕ → Result Flow → Type 0
Affects g l p next o = Leads (FlowsTo g l p next) (Finishes g) o

-- where `break` and `continue` lead to, instructions stand, the slots are behind the locals, and no value is kept aside
pub record ArePlaces (g : Execution) (l : Layout g) (p : Places) : Type 0 where
  pub scratch : p.scratch ≡ length l.function.locals
  pub on_break : p.on_break < length (code g l).ops
  pub on_continue : p.on_continue < length (code g l).ops
  pub free : l.held ≡ None

-- the test of a loop whose code stands at a place
abbrev pub test_of : ℕ → erased.Statement → erased.Statement → ℕ
test_of at body step = at + 2 + statement_size body + statement_size step

-- the innermost tainted call ends with a word, and blocks were only added
pub record Answered (g : Execution) (callers : List Caller) (since : List Shape) (reply : ℕ) (t : meaning.State) : Type 0 where
  pub is_word : IsWord reply
  pub blocks : KeptBlocks g t.blocks
  pub grows : Grows since (shapes t.blocks)
  pub world : KeptWorld t.world
  pub before : meaning.State
  pub reached : Reached g (state g Away callers before)
  pub answers : move (image g) g.settings (state g Away callers before) ≡ answer_by (image g) callers reply (state g Away callers t)

-- the code does what calls, further turns and the sandbox's turn mean
pub record KnotRuns (g : Execution) (k : Knot) : Type 0 where
  pub call : (number : ℕ) (f : Function) (callers : List Caller) (values : List Value) (s : meaning.State) → slice_get g.program.functions number ≡ Some f → f.parameters ≡ length values → AllByRecursion (IsKept s) values → KeptBlocks g s.blocks → KeptWorld s.world → s.depth ≡ length callers → Reached g (entered g number f callers values s) → Leads (Returns g callers s) (Finishes g) (k.call number values s)
  pub turn : (l : Layout g) (p : Places) (at : ℕ) (condition : erased.Expression) (body step : erased.Statement) (s : meaning.State) → ArePlaces g l p → SizedStatement p.scratch (erased.Loop condition body step) → HasAt (code g l).ops at (statement_code p at (erased.Loop condition body step)) → statement_stack (erased.Loop condition body step) ≤ (code g l).stack → at + statement_size (erased.Loop condition body step) < length (code g l).ops → Here g l (test_of at body step) [] s → Affects g l p (at + statement_size (erased.Loop condition body step)) (k.turn condition body step s)
  pub sandbox : (callers : List Caller) (s : meaning.State) → KeptBlocks g s.blocks → KeptWorld s.world → s.depth ≡ suc (length callers) → Reached g (state g Away callers s) → Leads (Answered g callers (shapes s.blocks)) (Finishes g) (k.sandbox s)

-- ---- back in the caller

-- the code goes on behind a call, with what it gave on the stack
abbrev pub Resumes : (g : Execution) → Layout g → ℕ → List ℕ → Option Value → meaning.State → Type 0
Resumes g l next stack None s = Here g l next stack s
Resumes g l next stack (Some v) s = Arrives g l next stack v s

module _ (g : Execution) (l : Layout g) where
  -- a result is pushed in the frame that waits for it
  pub resumed : (next : ℕ) (scratch : Scratch) (stack : List ℕ) (v : Option Value) (s : meaning.State) (u t : State) → Holds l.held scratch → Kept g l s → IsKeptResult s v → length stack < (code g l).stack → t ≡ state g t.control l.callers s → Reached g u → move (image g) g.settings u ≡ push_result (slice_get (image g).trusted.funs l.number) (option_map (word_of g s) v) (frame g l next scratch stack s) t → Resumes g l next stack v s
  resumed next scratch stack None s u t holds kept value room is reached moves =
      record { scratch = scratch; holds = holds; kept = kept; reached = one_move g u _ reached (moves ∙ rw (code_there g l) (ap (λ x. Goes (record x { control = Runs (frame g l next scratch stack s) })) is)) }
  resumed next scratch stack (Some v) s u t holds kept value room is reached moves =
      let test : nat_lt (length stack) (code g l).stack ≡ true = grind (arith, nat_tests) in
      (record { scratch = scratch; holds = holds; kept = kept; reached = one_move g u _ reached (moves ∙ rw (code_there g l, test) (ap (λ x. Goes (record x { control = Runs (frame g l next scratch (word_of g s v ∷ stack) s) })) is)) }, value)

  -- a function of this side returns to its caller
  returned : (next : ℕ) (scratch : Scratch) (stack : List ℕ) (s : meaning.State) (v : Option Value) (t : meaning.State) → Holds l.held scratch → Kept g l s → length stack < (code g l).stack → Returns g (Calls (frame g l next scratch stack s) ∷ l.callers) s v t → Resumes g l next stack v t
  returned next scratch stack s v t holds kept room r =
      let back : Kept g l t = record {
        count = ap length r.locals ∙ kept.count;
        depth = r.depth ∙ kept.depth;
        locals = subst (AreKeptBy (shapes t.blocks)) (sym r.locals) (locals_grow (shapes s.blocks) (shapes t.blocks) s.locals r.leaves.grows kept.locals);
        blocks = r.leaves.blocks;
        grows = grows_on l.since (shapes s.blocks) (shapes t.blocks) kept.grows r.leaves.grows;
        world = r.leaves.world;
      } in
      let u = state g (Runs r.leaves.last) (Calls (frame g l next scratch stack s) ∷ l.callers) t in
      resumed next scratch stack v t u (state g (Runs r.leaves.last) l.callers t) holds back r.leaves.value room refl r.leaves.reached
      (r.leaves.returns ∙ ap (λ fr. push_result (slice_get (image g).trusted.funs l.number) (option_map (word_of g t) v) fr (state g (Runs r.leaves.last) l.callers t)) (frame_grows g l next scratch stack s t r.leaves.grows kept.locals r.locals))

  module _ (k : Knot) (runs : KnotRuns g k) where
    call_moves : (next : ℕ) (scratch : Scratch) (stack : List ℕ) (s : meaning.State) (number : ℕ) (f : Function) (vs : List Value) (few : Bool) → nat_lt s.depth 1000 ≡ few → slice_get g.program.functions number ≡ Some f → f.parameters ≡ length vs → Kept g l s → slice_get (code g l).ops next ≡ Some (ops.Call number) → move (image g) g.settings (standing g l next scratch (reverse (map (word_of g s) vs) ++ stack) s) ≡ table.asked (entered_if few s.world) (standing g l next scratch (reverse (map (word_of g s) vs) ++ stack) s) (λ _ u. enter number (function_code number f) (map (word_of g s) vs) (Calls (frame g l (next + 1) scratch stack s)) u)
    call_moves next scratch stack s number f vs few test there count kept at =
        let words = map (word_of g s) vs in
        let fr = frame g l next scratch (reverse words ++ stack) s in
        let t = standing g l next scratch (reverse words ++ stack) s in
        let enters = λ (ws rest : List ℕ). table.asked (enter_call (suc (length l.callers)) s.world) t (λ _ u. enter number (function_code number f) ws (Calls (behind fr rest)) u) in
        fetched g l next scratch (reverse words ++ stack) s (ops.Call number) at
        ∙ ap (λ o. call_function number o fr t) (function_found g number f there)
        ∙ popped words stack f.parameters enters t (count ∙ sym (length-map vs (word_of g s)))
        ∙ ap (λ yes. table.asked (entered_if yes s.world) t (λ _ u. enter number (function_code number f) words (Calls (behind fr stack)) u)) (ap (λ n. nat_lt n 1000) (sym kept.depth) ∙ test)

    -- the function is entered, unless 1,000 calls are open
    entered_runs : (next : ℕ) (stack : List ℕ) (s : meaning.State) (number : ℕ) (f : Function) (vs : List Value) (few : Bool) → nat_lt s.depth 1000 ≡ few → slice_get g.program.functions number ≡ Some f → f.parameters ≡ length vs → AllByRecursion (IsKept s) vs → Here g l next (reverse (map (word_of g s) vs) ++ stack) s → slice_get (code g l).ops next ≡ Some (ops.Call number) → length stack < (code g l).stack → Leads (Resumes g l (next + 1) stack) (Finishes g) (meanings.asked (entered_if few s.world) s (λ _ u. k.call number vs u))
    entered_runs next stack s number f vs false test there count all here at room =
        let t = standing g l next here.scratch (reverse (map (word_of g s) vs) ++ stack) s in
        last_move g t t (Stop S2 None) s here.reached (call_moves next here.scratch stack s number f vs false test there count here.kept at) (same_end g t.control l.callers s here.kept.blocks)
    entered_runs next stack s number f vs true test there count all here at room =
        let caller = frame g l (next + 1) here.scratch stack s in
        let inside = one_move g _ (entered g number f (Calls caller ∷ l.callers) vs s) here.reached (call_moves next here.scratch stack s number f vs true test there count here.kept at) in
        leads_to (Returns g (Calls caller ∷ l.callers) s) (Resumes g l (next + 1) stack) (Finishes g) (k.call number vs s)
        (λ v t r. returned (next + 1) here.scratch stack s v t here.holds here.kept room r)
        (runs.call number f (Calls caller ∷ l.callers) vs s there count all here.kept.blocks here.kept.world here.kept.depth inside)

    called_runs : (next : ℕ) (stack : List ℕ) (s : meaning.State) (number : ℕ) (f : Function) (vs : List Value) → slice_get g.program.functions number ≡ Some f → f.parameters ≡ length vs → AllByRecursion (IsKept s) vs → Here g l next (reverse (map (word_of g s) vs) ++ stack) s → HasAt (code g l).ops next (ops.Tick ∷ (ops.Call number ∷ [])) → length stack < (code g l).stack → Leads (Resumes g l (next + 1 + 1) stack) (Finishes g) (enter_if true (setting_of g.program g.settings) k number vs s)
    called_runs next stack s number f vs there count all here at room =
        asks_on (λ _ w. Here g l (next + 1) (reverse (map (word_of g s) vs) ++ stack) (meaning.in_world w s)) (Resumes g l (next + 1 + 1) stack) (Finishes g) (spend_tick g.settings.budget s.world) s _
        (tick_runs g l next (reverse (map (word_of g s) vs) ++ stack) s here at.0)
        (λ _ w ticked. entered_runs (next + 1) stack (meaning.in_world w s) number f vs (nat_lt s.depth 1000) refl there count all ticked at.1.0 room)

    taken_runs : (next : ℕ) (stack : List ℕ) (s : meaning.State) (number : ℕ) (o : Option Function) (yes : Bool) (vs : List Value) → slice_get g.program.functions number ≡ o → takes o vs ≡ yes → AllByRecursion (IsKept s) vs → Here g l next (piled g s vs stack) s → HasAt (code g l).ops next (ops.Tick ∷ (ops.Call number ∷ [])) → length stack < (code g l).stack → Leads (Resumes g l (next + 1 + 1) stack) (Finishes g) (enter_if yes (setting_of g.program g.settings) k number vs s)
    taken_runs next stack s number o false vs there fits all here at room = tt
    taken_runs next stack s number None true vs there fits all here at room = absurd (cc)
    taken_runs next stack s number (Some f) true vs there fits all here at room =
        let is : IsFunction f = of_element IsFunction g.program.functions number f (recursion_from_All IsFunction g.program.functions g.lowerable.functions) there in
        let count : f.parameters ≡ length vs = omega (arith, fit_count (parameters_of f) vs fits, length-take-le f.parameters f.locals is.held) in
        called_runs next stack s number f vs there count all (subst (λ pile. Here g l next pile s) (piled_words g s vs stack) here) at room

    -- a call of values, whose words lie on the stack
    pub call_runs : (next : ℕ) (stack : List ℕ) (s : meaning.State) (number : ℕ) (vs : List Value) → AllByRecursion (IsKept s) vs → Here g l next (piled g s vs stack) s → HasAt (code g l).ops next (ops.Tick ∷ (ops.Call number ∷ [])) → length stack < (code g l).stack → Leads (Resumes g l (next + 1 + 1) stack) (Finishes g) (call_trusted (setting_of g.program g.settings) k number vs s)
    call_runs next stack s number vs all here at room = taken_runs next stack s number (slice_get g.program.functions number) (takes (slice_get g.program.functions number) vs) vs refl refl all here at room
