-- The code of a whole program does what the program means.
use Rattle.std.proofs.Common.{◌≡◌, ℕ, zero, suc, ◌+◌, ◌-◌, ◌<◌, ◌≤◌, Bool, true, false, ℤ, pos, List, [], ◌∷◌, ◌++◌, length, map, replicate, Option, Some, None, refl, sym, ap, ◌∙◌, subst, arith, append_assoc, length-append}
use Rattle.std.specs.Prelude.{slice_get, IsTrue, All}
use Rattle.std.specs.List.{AllByRecursion}
use Rattle.std.proofs.lemmas.List.{length-map, replicate-append-replicate}
use Rattle.std.proofs.lemmas.List.Elements.{recursion_from_All}
use Rattle.act_words.specs.declared.ending.Ending.{Ending}
use Rattle.act_words.specs.declared.ending.Ending.TheVariants.{Exit}
use Rattle.act_words.specs.declared.settings.Settings.{Settings}
use Rattle.act_words.specs.Acts.{Act, IsAct}
use Rattle.ckc_core.specs.Outcome.{Ends, and_then}
use Rattle.act_words.specs.Checks.{is_word_number}
use Rattle.act_words.specs.Limits.{AreAllowed}
use Rattle.act_words.specs.World.{new_world}
use Rattle.flat_bytes.specs.Blocks.{first_offset, blocks_of}
use Rattle.flat_bytes.specs.Blocks as flat
use Rattle.pointer_modes.specs.Types.{CType, Int, Char, Struct, Pointer}
use Rattle.ckc_core.specs.Programs.{Initial, Variable}
use Rattle.check_insertion.specs.Erased.{Erased, Function}
use Rattle.ckc_core.specs.States.{Value, Number, Null, At, Shape, shapes, zero_of, initial_value, initial_cells, object_block}
use Rattle.ckc_core.specs.States as meaning
use Rattle.ckc_core.specs.Steps.{Flow, Next, Broke, Continued, Returned, fits_result, answer_if, answer, back, fit, parameters_of, default_result, exit, initial, locals_for}
use Rattle.check_insertion.specs.ErasedMeaning.{body_if, body_of, effects, knot}
use Rattle.check_insertion.specs.ErasedMeaning as meanings
use Rattle.code_words.specs.Table.{Caller, State, Frame, Runs, frame_for, slots_for}
use Rattle.code_words.specs.Runs.{CodeRun, counter_behind, spread, started, main_frame, memory_of}
use Rattle.code_words.specs.declared.op.Op.TheVariants as ops
use Rattle.lowering.specs.Code.{Places, body_places, ending_code, function_ops, statements_size, statements_code}
use Rattle.lowering.specs.Images.{function_code, image_of, object_bytes}
use Rattle.lowering.specs.Correct.{block_bytes, IsCell, IsFunction, IsLowerable, SameEnd}
use Rattle.ckc_core.proofs.Numbers.{IsNumber, signed-word}
use Rattle.ckc_core.proofs.Elements.{of_element}
use Rattle.lowering.proofs.Shapes.{end_from, IsKeptBy, grows_none}
use Rattle.lowering.proofs.Worlds.{KeptWorld}
use Rattle.lowering.proofs.Executions.{Execution, image, variables, word_by, slots_by, listed_from, state, IsKept, AreKeptBy, KeptCell, KeptCells, KeptBlocks, IsObject, contents_of, counter_of, listed_of, all_objects, variables_end, same_end}
use Rattle.lowering.proofs.Steps.{HasAt, has_front, has_back, has_all, Leads, leads_on, Reached, Finishes, last_move, Layout, code, Kept, Here, function_found, pushes}
use Rattle.lowering.proofs.Sizes.{length_statements}
use Rattle.lowering.proofs.Calls.{entered, Leaves, Returns, FlowsTo, ArePlaces, KnotRuns}
use Rattle.lowering.proofs.Values.{setting}
use Rattle.lowering.proofs.Tainted.{sandbox_runs}
use Rattle.lowering.proofs.Statements.{return_runs, nothing_runs, loop_runs, effect_runs, effects_run}

-- ---- the locals of a function that is called

zero_word : (g : Execution) (all : List Shape) (type : CType) → word_by g all (zero_of type) ≡ 0
zero_word g all Int = refl
zero_word g all Char = refl
zero_word g all (Struct n) = refl
zero_word g all (Pointer mode kind target) = refl

zero_kept : (all : List Shape) (type : CType) → IsKeptBy all (zero_of type)
zero_kept all Int = refl
zero_kept all Char = refl
zero_kept all (Struct n) = tt
zero_kept all (Pointer mode kind target) = tt

-- the words of arguments, and a zero for each further local
words_for : (g : Execution) (all : List Shape) (types : List CType) (values : List Value) (more : ℕ) → length types ≡ length values + more → slots_by g all (locals_for types values) ≡ map (word_by g all) values ++ replicate more 0
words_for g all [] [] more e = let none : 0 ≡ more = omega arith in ap (λ n. replicate n 0) none
words_for g all [] (v ∷ values) more e = absurd (omega arith)
words_for g all (type ∷ types) [] more e =
    let next : suc (length types) ≡ more = omega arith in
    let here = zero_word g all type in
    let rest = words_for g all types [] (length types) (omega arith) in
    subst (λ n. slots_by g all (locals_for (type ∷ types) []) ≡ replicate n 0) next (cc)
words_for g all (type ∷ types) (v ∷ values) more e = ap (λ l. word_by g all v ∷ l) (words_for g all types values more (omega arith))

locals_kept : (all : List Shape) (types : List CType) (values : List Value) → AllByRecursion (IsKeptBy all) values → AreKeptBy all (locals_for types values)
locals_kept all [] values kept = tt
locals_kept all (type ∷ types) [] kept = (zero_kept all type, locals_kept all types [] tt)
locals_kept all (type ∷ types) (v ∷ values) kept = (kept.0, locals_kept all types values kept.1)

length_locals : (types : List CType) (values : List Value) → length (locals_for types values) ≡ length types
length_locals [] values = refl
length_locals (type ∷ types) [] = ap suc (length_locals types [])
length_locals (type ∷ types) (v ∷ values) = ap suc (length_locals types values)

-- words with zeros behind them, of which the last three stand apart
zeros_behind : (words : List ℕ) (n k : ℕ) → n ≡ k + 3 → words ++ replicate n 0 ≡ (words ++ replicate k 0) ++ (0 ∷ (0 ∷ (0 ∷ [])))
zeros_behind words n k e =
    ap (λ m. words ++ replicate m 0) e ∙ ap (λ l. words ++ l) (sym (replicate-append-replicate k 3 0)) ∙ sym (append_assoc words (replicate k 0) (0 ∷ (0 ∷ (0 ∷ []))))

-- the slots of a function that is called are its locals, and three more
slots_are : (g : Execution) (all : List Shape) (number : ℕ) (f : Function) (values : List Value) → f.parameters ≡ length values → f.parameters ≤ length f.locals → slots_for (function_code number f) (map (word_by g all) values) ≡ slots_by g all (locals_for f.locals values) ++ (0 ∷ (0 ∷ (0 ∷ [])))
slots_are g all number f values count held =
    let words = map (word_by g all) values in
    let more = length f.locals - length values in
    let n : length f.locals + 3 - length words ≡ more + 3 = omega (arith, length-map values (word_by g all)) in
    let e : length f.locals ≡ length values + more = omega arith in
    zeros_behind words (length f.locals + 3 - length words) more n ∙ ap (λ l. l ++ (0 ∷ (0 ∷ (0 ∷ [])))) (sym (words_for g all f.locals values more e))

-- ---- the body of a function

module _ (g : Execution) (l : Layout g) where
  -- the body returns a value, or nothing
  abbrev Leaving : Option Value → meaning.State → Type 0
  Leaving v s = Leaves g l.callers l.since v s

  -- where a body runs to its end, it gives 0 or null back, or nothing
  ending_runs : (result : Option CType) (next : ℕ) (s : meaning.State) → Here g l next [] s → HasAt (code g l).ops next (ending_code result) → 1 ≤ (code g l).stack → Leaving (default_result result) s
  ending_runs None next s here at room = nothing_runs g l next s here at.0
  ending_runs (Some type) next s here at room =
      let pushed = pushes g l next [] s (ops.Const (pos 0)) 0 [] here at.0 room (λ scratch. refl) in
      return_runs g l (next + 1) s (zero_of type) (subst (λ w. Here g l (next + 1) (w ∷ []) s) (sym (zero_word g (shapes s.blocks) type)) pushed, zero_kept (shapes s.blocks) type) at.1.0

  answers : (p : Places) (result : Option CType) (next : ℕ) (flow : Flow) (s : meaning.State) → HasAt (code g l).ops next (ending_code result) → 1 ≤ (code g l).stack → FlowsTo g l p next flow s → Leads Leaving (Finishes g) (answer result flow s)
  answers p result next Next s at room h = ending_runs result next s h at room
  answers p result next Broke s at room h = tt
  answers p result next Continued s at room h = tt
  answers p result next (Returned v) s at room h = by (fits_result result v)
    where
      by : (fits : Bool) → Leads Leaving (Finishes g) (answer_if fits v s)
      by true = h
      by false = tt

ending_above : (result : Option CType) → 1 ≤ length (ending_code result)
ending_above None = omega arith
ending_above (Some type) = omega arith

module _ (g : Execution) (ticks : ℕ) (runs : KnotRuns g (knot (setting g) ticks)) where
  -- a function of the program that is called does what its body means
  body_runs : (number : ℕ) (f : Function) (callers : List Caller) (values : List Value) (s : meaning.State) → slice_get g.program.functions number ≡ Some f → f.parameters ≡ length values → AllByRecursion (IsKept s) values → KeptBlocks g s.blocks → KeptWorld s.world → s.depth ≡ length callers → Reached g (entered g number f callers values s) → Leads (Returns g callers s) (Finishes g) (body_if true (setting g) (knot (setting g) ticks) f values s)
  body_runs number f callers values s there count all blocks world depth reached =
      let l : Layout g = record { number = number; function = f; there = there; callers = callers; held = None; since = shapes s.blocks } in
      let is : IsFunction f = of_element IsFunction g.program.functions number f (recursion_from_All IsFunction g.program.functions g.lowerable.functions) there in
      let inside : meaning.State = record s { locals = locals_for f.locals values; depth = s.depth + 1 } in
      let p = body_places f in
      let body = statements_code p 0 f.body in
      let last = ending_code f.result in
      let whole = has_all (function_ops f) [] in
      let long = length_statements p 0 f.body in
      let low : 0 + statements_size f.body < length (code g l).ops = omega (arith, length-append body last, long, ending_above f.result) in
      let places : ArePlaces g l p = record { scratch = refl; on_break = omega arith; on_continue = omega arith; free = refl } in
      let slots = slots_are g (shapes s.blocks) number f values count is.held in
      let kept : Kept g l inside = record {
        count = length_locals f.locals values;
        depth = omega (arith, depth);
        locals = locals_kept (shapes s.blocks) f.locals values all;
        blocks = blocks;
        grows = grows_none (shapes s.blocks);
        world = world;
      } in
      let start : Here g l 0 [] inside = record { scratch = record { value = 0; pointer = 0; number = 0 }; holds = tt; kept = kept; reached = subst (λ slots. Reached g (state g (Runs (record { function = number; next = 0; slots = slots; stack = [] })) callers s)) slots reached } in
      leads_on (Leaves g callers (shapes s.blocks)) (Returns g callers s) (Finishes g) (and_then (effects (setting g) (knot (setting g) ticks) f.body inside) (answer f.result)) (back s)
      (leads_on (FlowsTo g l p (0 + statements_size f.body)) (Leaves g callers (shapes s.blocks)) (Finishes g) (effects (setting g) (knot (setting g) ticks) f.body inside) (answer f.result)
      (effects_run g l (knot (setting g) ticks) runs f.body p 0 inside places is.sized start (has_front (function_ops f) 0 body last whole) (omega arith) low)
      (λ flow t h. answers g l p f.result (0 + statements_size f.body) flow t (has_back (function_ops f) 0 body last (statements_size f.body) long whole) (omega arith) h))
      (λ v t h. record { leaves = record { last = h.last; popped = h.popped; blocks = h.blocks; grows = h.grows; world = h.world; value = h.value; reached = h.reached; returns = h.returns }; locals = refl; depth = refl })

  called_runs : (number : ℕ) (f : Function) (callers : List Caller) (values : List Value) (s : meaning.State) → slice_get g.program.functions number ≡ Some f → f.parameters ≡ length values → AllByRecursion (IsKept s) values → KeptBlocks g s.blocks → KeptWorld s.world → s.depth ≡ length callers → Reached g (entered g number f callers values s) → Leads (Returns g callers s) (Finishes g) (body_of (setting g) (knot (setting g) ticks) (slice_get g.program.functions number) values s)
  called_runs number f callers values s there count all blocks world depth reached =
      subst (λ o. Leads (Returns g callers s) (Finishes g) (body_of (setting g) (knot (setting g) ticks) o values s)) (sym there) (by (fit (parameters_of f) values))
    where
      by : (fits : Bool) → Leads (Returns g callers s) (Finishes g) (body_if fits (setting g) (knot (setting g) ticks) f values s)
      by true = body_runs number f callers values s there count all blocks world depth reached
      by false = tt

-- calls and further turns do what they mean, for each number of ticks
knot_runs : (g : Execution) (ticks : ℕ) → KnotRuns g (knot (setting g) ticks)
knot_runs g zero = record {
  call = λ number f callers values s there count all blocks world depth reached. tt;
  turn = λ l p at condition body step s places sized has room low here. tt;
  sandbox = λ callers s blocks world depth reached. tt;
}
knot_runs g (suc ticks) =
    let runs = knot_runs g ticks in
    record {
      call = called_runs g ticks runs;
      turn = λ l p at condition body step s places sized has room low here.
          loop_runs g l (knot (setting g) ticks) runs condition body step (effect_runs g l (knot (setting g) ticks) runs body) (effect_runs g l (knot (setting g) ticks) runs step) p at s places sized has room low here;
      sandbox = λ callers s blocks world depth reached. sandbox_runs g callers s blocks s.world.acts s.world world.acts (record { left = refl; inputs = world.inputs }) reached;
    }

-- ---- the whole run

-- the run ends with the number that `main` returned
exits : (g : Execution) (before : meaning.State) (v : Option Value) (s : meaning.State) → Returns g [] before v s → Leads (λ (u : Unit {0}) (t : meaning.State). Unit {0}) (Finishes g) (exit v s)
exits g before None s r = tt
exits g before (Some (Number z)) s r =
    let t = state g (Runs r.leaves.last) [] s in
    last_move g t t (Exit z) s r.leaves.reached (r.leaves.returns ∙ (rw (signed-word z r.leaves.value) refl)) (same_end g (Runs r.leaves.last) [] s r.leaves.blocks)
exits g before (Some Null) s r = tt
exits g before (Some (At block byte)) s r = tt

module _ (all : List Shape) where
  initial_kept : (type : CType) (number : ℤ) → IsNumber number → IsKeptBy all (initial_value type number)
  initial_kept Int number h = h
  initial_kept Char number h = h
  initial_kept (Struct n) number h = tt
  initial_kept (Pointer mode kind target) number h = tt

  cells_kept : (cells : List Initial) → AllByRecursion IsCell cells → AllByRecursion (KeptCell all) (initial_cells cells)
  cells_kept [] is = tt
  cells_kept (i ∷ cells) is = (record { room = is.0.room; typed = is.0.typed; value = initial_kept i.type i.number is.0.word }, cells_kept cells is.1)

  objects_kept : (objects : List Variable) → AllByRecursion IsObject objects → AllByRecursion (KeptCells all) (map object_block objects)
  objects_kept [] is = tt
  objects_kept (v ∷ objects) is = (cells_kept v.cells (recursion_from_All IsCell v.cells is.0.0), objects_kept objects is.1)

module _ (program : Erased) (lowerable : IsLowerable program) (settings : Settings) (allowed : AreAllowed settings) (inputs : List ℤ) (acts : List Act) where
  abbrev run : Execution
  run = record { program = program; lowerable = lowerable; settings = settings; allowed = allowed; start = started (image_of program) settings inputs acts }

  abbrev before : meaning.State
  before = initial program (new_world (replicate settings.sandbox 0) first_offset inputs acts)

  -- a state before the first move
  abbrev made : List (List ℕ) → ℕ → List flat.Block → Frame → List ℕ → State
  made contents counter blocks frame sandbox =
      record {
        memory = record { bytes = replicate first_offset 0 ++ spread contents ++ replicate (settings.trusted - counter) 0; base = settings.base; counter = counter };
        blocks = blocks;
        control = Runs frame;
        callers = [];
        world = new_world sandbox first_offset inputs acts;
      }

  starts : (f : Function) → slice_get program.functions program.main ≡ Some f → started (image_of program) settings inputs acts ≡ entered run program.main f [] [] before
  starts f there =
      let is = all_objects run in
      let all = variables run in
      let bytes = map object_bytes program.objects in
      let counter = counter_behind first_offset bytes in
      let listed = blocks_of settings.trusted (map length bytes) in
      let main = main_frame program.main (slice_get (image run).trusted.funs program.main) in
      let contents = map (block_bytes settings.base all) (map object_block program.objects) in
      let sandbox = memory_of settings.sandbox [] in
      let frame = frame_for program.main (function_code program.main f) [] in
      let within : end_from first_offset all ≤ settings.trusted = omega (arith, variables_end run, allowed.least_trusted) in
      let enough : 16 + (settings.sandbox - 16) ≡ settings.sandbox = omega (arith, allowed.least_sandbox) in
      let zeros : sandbox ≡ replicate settings.sandbox 0 = replicate-append-replicate 16 (settings.sandbox - 16) 0 ∙ ap (λ n. replicate n 0) enough in
      ap (λ c. made c counter listed main sandbox) (sym (contents_of settings.base all program.objects is))
      ∙ ap (λ n. made contents n listed main sandbox) (counter_of first_offset program.objects is)
      ∙ ap (λ bs. made contents (end_from first_offset all) bs main sandbox) (listed_of settings.trusted first_offset program.objects is within)
      ∙ ap (λ fr. made contents (end_from first_offset all) (listed_from first_offset all) fr sandbox) (ap (main_frame program.main) (function_found run program.main f there))
      ∙ ap (made contents (end_from first_offset all) (listed_from first_offset all) frame) zeros

  run_follows : All (λ z. IsTrue (is_word_number z)) inputs → All IsAct acts → Leads (λ (u : Unit {0}) (t : meaning.State). Unit {0}) (Finishes run) (meanings.meaning program settings inputs acts)
  run_follows numbers all =
      let main = lowerable.main in
      let blocks : KeptBlocks run before.blocks = record {
        cells = objects_kept (variables run) program.objects (all_objects run);
        fits = omega (arith, variables_end run, allowed.least_trusted);
        grows = grows_none (variables run);
      } in
      let world : KeptWorld before.world = record { acts = recursion_from_All IsAct acts all; inputs = recursion_from_All IsNumber inputs numbers } in
      let first : Reached run (entered run program.main main.0 [] [] before) = subst (Reached run) (starts main.0 main.1) (record { by = λ k. (k, refl) }) in
      leads_on (Returns run [] before) (λ u t. Unit {0}) (Finishes run) (body_of (setting run) (knot (setting run) settings.budget) (slice_get program.functions program.main) [] before) exit
      (called_runs run settings.budget (knot_runs run settings.budget) program.main main.0 [] [] before main.1 main.2 tt blocks world refl first)
      (exits run before)

-- wherever the program's run over inputs and acts ends, so does the image's
pub keeps_meaning : (program : Erased) → IsLowerable program → (settings : Settings) (inputs : List ℤ) (acts : List Act) (ending : Ending) (s : meaning.State) → AreAllowed settings → All (λ z. IsTrue (is_word_number z)) inputs → All IsAct acts → meanings.meaning program settings inputs acts ≡ Ends ending s → (t : State) × CodeRun (image_of program) settings inputs acts ending t × SameEnd settings.base s t
keeps_meaning program lowerable settings inputs acts ending s allowed numbers all h =
    let l = subst (Leads (λ (u : Unit {0}) (t : meaning.State). Unit {0}) (Finishes (run program lowerable settings allowed inputs acts))) h (run_follows program lowerable settings allowed inputs acts numbers all) in
    (l.last, (l.steps, l.is), l.same)
