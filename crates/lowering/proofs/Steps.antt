-- How instructions that stand in a function are executed, one after another, and how a state of the meaning is one of the code.
use Rattle.std.proofs.Common.{◌≡◌, ℕ, zero, suc, ◌+◌, ◌<◌, true, List, [], ◌∷◌, ◌++◌, length, Option, Some, None, refl, sym, ap, ◌∙◌, subst, arith, append_assoc, length-append}
use Rattle.std.specs.Prelude.{slice_get, nat_lt}
use Rattle.std.proofs.Math.Seq.{get_or-append_seam}
use Rattle.std.proofs.lemmas.Option.{slice_get-get_or}
use Rattle.std.proofs.lemmas.Bool.Decides.{nat_tests}
use Rattle.act_words.specs.declared.ending.Ending.{Ending}
use Rattle.ckc_core.specs.Outcome.{Gives, Ends, Stuck, Unsound, Short, and_then}
use Rattle.act_words.specs.World.{World}
use Rattle.act_words.specs.Touches.{Asked, Got, Ended}
use Rattle.check_insertion.specs.Erased.{Function}
use Rattle.ckc_core.specs.States.{Value, Shape, Local, Grows, shapes}
use Rattle.ckc_core.specs.States as meaning
use Rattle.ckc_core.specs.Steps.{Result}
use Rattle.ckc_core.specs.Steps as meanings
use Rattle.code_words.specs.Table.{Frame, Caller, Runs, State, Goes, Over, act, push}
use Rattle.code_words.specs.Moves.{move}
use Rattle.code_words.specs.Runs.{Finished, exec, go_on}
use Rattle.code_words.specs.declared.op.Op.{Op}
use Rattle.code_words.specs.Functions.{Func}
use Rattle.lowering.specs.Images.{function_code, functions_from}
use Rattle.lowering.specs.Correct.{SameEnd}
use Rattle.lowering.proofs.Worlds.{KeptWorld}
use Rattle.lowering.proofs.Shapes.{grows_none, grows_on, kept_grows, word_grows}
use Rattle.lowering.proofs.Executions.{Execution, image, slots_by, word_of, state, IsKept, AreKeptBy, KeptBlocks, slots_grow, same_end}

-- ---- code in a function

-- these instructions stand at this place
abbrev pub HasAt : List Op → ℕ → List Op → Type 0
HasAt ops at [] = Unit {0}
HasAt ops at (op ∷ rest) = (slice_get ops at ≡ Some op) × HasAt ops (at + 1) rest

pub has_front : (ops : List Op) (at : ℕ) (a b : List Op) → HasAt ops at (a ++ b) → HasAt ops at a
has_front ops at [] b h = tt
has_front ops at (op ∷ a) b h = (h.0, has_front ops (at + 1) a b h.1)

pub has_back : (ops : List Op) (at : ℕ) (a b : List Op) (n : ℕ) → length a ≡ n → HasAt ops at (a ++ b) → HasAt ops (at + n) b
has_back ops at [] b n e h = let same : at ≡ at + n = omega arith in subst (λ k. HasAt ops k b) same h
has_back ops at (op ∷ a) b n e h =
    let same : at + 1 + length a ≡ at + n = omega arith in
    subst (λ k. HasAt ops k b) same (has_back ops (at + 1) a b (length a) refl h.1)

pub has_all : (ops pre : List Op) → HasAt (pre ++ ops) (length pre) ops
has_all [] pre = tt
has_all (op ∷ ops) pre =
    let within : length pre < length (pre ++ op ∷ ops) = omega (arith, length-append pre (op ∷ ops)) in
    let here = slice_get-get_or (pre ++ op ∷ ops) (length pre) op within ∙ ap Some (get_or-append_seam pre op ops op) in
    let n : length (pre ++ op ∷ []) ≡ length pre + 1 = omega (arith, length-append pre (op ∷ [])) in
    let rest = has_all ops (pre ++ op ∷ []) in
    let rest' = subst (λ l. HasAt l (length (pre ++ op ∷ [])) ops) (append_assoc pre (op ∷ []) ops) rest in
    (here, subst (λ m. HasAt (pre ++ op ∷ ops) m ops) n rest')

-- ---- outcomes

-- an outcome of the meaning, where its value leads to G, its ending to E, and nothing is said where it has none
abbrev pub Leads : {A : Type 0} → (A → meaning.State → Type 0) → (Ending → meaning.State → Type 0) → Result A → Type 0
Leads G E (Gives value s) = G value s
Leads G E (Ends ending s) = E ending s
Leads G E (Stuck site s) = Unit {0}
Leads G E (Unsound site s) = Unit {0}
Leads G E Short = Unit {0}

-- goes on from a value
pub leads_on : {A B : Type 0} (G : A → meaning.State → Type 0) (H : B → meaning.State → Type 0) (E : Ending → meaning.State → Type 0) (o : Result A) (next : A → meaning.State → Result B) → Leads G E o → ((value : A) (s : meaning.State) → G value s → Leads H E (next value s)) → Leads H E (and_then o next)
leads_on G H E (Gives value s) next l more = more value s l
leads_on G H E (Ends ending s) next l more = l
leads_on G H E (Stuck site s) next l more = tt
leads_on G H E (Unsound site s) next l more = tt
leads_on G H E Short next l more = tt

-- another way to the same
pub leads_to : {A : Type 0} (G H : A → meaning.State → Type 0) (E : Ending → meaning.State → Type 0) (o : Result A) → ((value : A) (s : meaning.State) → G value s → H value s) → Leads G E o → Leads H E o
leads_to G H E (Gives value s) more l = more value s l
leads_to G H E (Ends ending s) more l = l
leads_to G H E (Stuck site s) more l = tt
leads_to G H E (Unsound site s) more l = tt
leads_to G H E Short more l = tt

-- the same of what the world gives
abbrev pub Asks : {A : Type 0} → (A → World → Type 0) → (Ending → World → Type 0) → Asked A → Type 0
Asks G E (Got value w) = G value w
Asks G E (Ended ending w) = E ending w

pub asks_on : {A B : Type 0} (G : A → World → Type 0) (H : B → meaning.State → Type 0) (E : Ending → meaning.State → Type 0) (x : Asked A) (s : meaning.State) (next : A → meaning.State → Result B) → Asks G (λ ending w. E ending (meaning.in_world w s)) x → ((value : A) (w : World) → G value w → Leads H E (next value (meaning.in_world w s))) → Leads H E (meanings.asked x s next)
asks_on G H E (Got value w) s next l more = more value w l
asks_on G H E (Ended ending w) s next l more = l

-- ---- the code's run

-- the run comes to this state
pub record Reached (g : Execution) (u : State) : Type 0 where
  pub by : (k : ℕ) → (j : ℕ) × (exec (image g) g.settings j g.start ≡ exec (image g) g.settings k u)

-- the run ends, as that of the meaning does
pub record Finishes (g : Execution) (ending : Ending) (s : meaning.State) : Type 0 where
  pub steps : ℕ
  pub last : State
  pub is : exec (image g) g.settings steps g.start ≡ Finished ending last
  pub same : SameEnd g.settings.base s last

-- one move further
pub one_move : (g : Execution) (t u : State) → Reached g t → move (image g) g.settings t ≡ Goes u → Reached g u
one_move g t u r h = record { by = λ k. let p = r.by (suc k) in (p.0, p.1 ∙ ap (λ x. go_on x (exec (image g) g.settings k)) h) }

pub last_move : (g : Execution) (t u : State) (ending : Ending) (s : meaning.State) → Reached g t → move (image g) g.settings t ≡ Over ending u → SameEnd g.settings.base s u → Finishes g ending s
last_move g t u ending s r h same = let p = r.by 1 in record { steps = p.0; last = u; is = p.1 ∙ ap (λ x. go_on x (exec (image g) g.settings 0)) h; same = same }

-- ---- frames

-- the words in the slots behind the locals: a value, a pointer and a number
pub record Scratch : Type 0 where
  pub value : ℕ
  pub pointer : ℕ
  pub number : ℕ

abbrev pub words : Scratch → List ℕ
words c = c.value ∷ (c.pointer ∷ (c.number ∷ []))

-- an open call: the function, what it goes back to, which value is kept aside, where one is, and the shapes of blocks that were
-- there before
pub record Layout (g : Execution) : Type 0 where
  pub number : ℕ
  pub function : Function
  pub there : slice_get g.program.functions number ≡ Some function
  pub callers : List Caller
  pub held : Option ℕ
  pub since : List Shape

-- the value's slot holds what it has to
abbrev pub Holds : Option ℕ → Scratch → Type 0
Holds None scratch = Unit {0}
Holds (Some w) scratch = scratch.value ≡ w

abbrev pub code : (g : Execution) → Layout g → Func
code g l = function_code l.number l.function

-- the locals in their slots, and three slots behind them
abbrev pub frame_by : (g : Execution) → Layout g → List Shape → ℕ → Scratch → List ℕ → List Local → Frame
frame_by g l all next scratch stack locals = record { function = l.number; next = next; slots = slots_by g all locals ++ words scratch; stack = stack }

abbrev pub frame : (g : Execution) → Layout g → ℕ → Scratch → List ℕ → meaning.State → Frame
frame g l next scratch stack s = frame_by g l (shapes s.blocks) next scratch stack s.locals

abbrev pub standing : (g : Execution) → Layout g → ℕ → Scratch → List ℕ → meaning.State → State
standing g l next scratch stack s = state g (Runs (frame g l next scratch stack s)) l.callers s

pub record Kept (g : Execution) (l : Layout g) (s : meaning.State) : Type 0 where
  pub count : length s.locals ≡ length l.function.locals
  pub depth : s.depth ≡ suc (length l.callers)
  pub locals : AreKeptBy (shapes s.blocks) s.locals
  pub blocks : KeptBlocks g s.blocks
  pub grows : Grows l.since (shapes s.blocks)
  pub world : KeptWorld s.world

-- the run comes to a place in a function, with this stack
pub record Here (g : Execution) (l : Layout g) (next : ℕ) (stack : List ℕ) (s : meaning.State) : Type 0 where
  pub scratch : Scratch
  pub holds : Holds l.held scratch
  pub kept : Kept g l s
  pub reached : Reached g (standing g l next scratch stack s)

pub kept_in : (g : Execution) (l : Layout g) (s : meaning.State) (w : World) → Kept g l s → KeptWorld w → Kept g l (meaning.in_world w s)
kept_in g l s w k world = record { count = k.count; depth = k.depth; locals = k.locals; blocks = k.blocks; grows = k.grows; world = world }

-- a function of the program is one of the image
pub function_there : (n k : ℕ) (functions : List Function) (f : Function) → slice_get functions k ≡ Some f → slice_get (functions_from n functions) k ≡ Some (function_code (n + k) f)
function_there n k [] f h = absurd (cc)
function_there n zero (g ∷ functions) f h =
    let e : g ≡ f = cc in
    let z : n ≡ n + 0 = omega arith in
    ap (λ x. Some (function_code n x)) e ∙ ap (λ m. Some (function_code m f)) z
function_there n (suc k) (g ∷ functions) f h =
    let e : suc n + k ≡ n + suc k = omega arith in
    function_there (suc n) k functions f h ∙ ap (λ m. Some (function_code m f)) e

pub function_found : (g : Execution) (k : ℕ) (f : Function) → slice_get g.program.functions k ≡ Some f → slice_get (image g).trusted.funs k ≡ Some (function_code k f)
function_found g k f h = let e : 0 + k ≡ k = omega arith in function_there 0 k g.program.functions f h ∙ ap (λ m. Some (function_code m f)) e

pub code_there : (g : Execution) (l : Layout g) → slice_get (image g).trusted.funs l.number ≡ Some (code g l)
code_there g l = function_found g l.number l.function l.there

-- the instruction that stands next is executed
pub fetched : (g : Execution) (l : Layout g) (next : ℕ) (scratch : Scratch) (stack : List ℕ) (s : meaning.State) (op : Op) → slice_get (code g l).ops next ≡ Some op → move (image g) g.settings (standing g l next scratch stack s) ≡ act (image g) g.settings (code g l) op (frame g l next scratch stack s) (standing g l next scratch stack s)
fetched g l next scratch stack s op h = let there = code_there g l in rw (there, h) refl

-- an instruction leads to another place
pub moved : (g : Execution) (l : Layout g) (next : ℕ) (old : List ℕ) (s : meaning.State) (op : Op) (next' : ℕ) (new : List ℕ) (t : meaning.State) → Here g l next old s → slice_get (code g l).ops next ≡ Some op → Kept g l t → ((w : Scratch) → act (image g) g.settings (code g l) op (frame g l next w old s) (standing g l next w old s) ≡ Goes (standing g l next' w new t)) → Here g l next' new t
moved g l next old s op next' new t here at kept goes =
    record { scratch = here.scratch; holds = here.holds; kept = kept; reached = one_move g _ _ here.reached (fetched g l next here.scratch old s op at ∙ goes here.scratch) }

-- a word is pushed onto a stack that has room, in a world
pub pushes_in : (g : Execution) (l : Layout g) (next : ℕ) (old : List ℕ) (s : meaning.State) (op : Op) (w : ℕ) (stack : List ℕ) (world : World) → KeptWorld world → Here g l next old s → slice_get (code g l).ops next ≡ Some op → length stack < (code g l).stack → ((scratch : Scratch) → act (image g) g.settings (code g l) op (frame g l next scratch old s) (standing g l next scratch old s) ≡ push (code g l) w stack (frame g l next scratch old s) (standing g l next scratch old (meaning.in_world world s))) → Here g l (next + 1) (w ∷ stack) (meaning.in_world world s)
pushes_in g l next old s op w stack world kept here at room is =
    let test : nat_lt (length stack) (code g l).stack ≡ true = grind (arith, nat_tests) in
    moved g l next old s op (next + 1) (w ∷ stack) (meaning.in_world world s) here at (kept_in g l s world here.kept kept) (λ scratch. is scratch ∙ rw test refl)

-- the same, in the same world
pub pushes : (g : Execution) (l : Layout g) (next : ℕ) (old : List ℕ) (s : meaning.State) (op : Op) (w : ℕ) (stack : List ℕ) → Here g l next old s → slice_get (code g l).ops next ≡ Some op → length stack < (code g l).stack → ((scratch : Scratch) → act (image g) g.settings (code g l) op (frame g l next scratch old s) (standing g l next scratch old s) ≡ push (code g l) w stack (frame g l next scratch old s) (standing g l next scratch old s)) → Here g l (next + 1) (w ∷ stack) s
pushes g l next old s op w stack here at room is = pushes_in g l next old s op w stack s.world here.kept.world here at room is

-- an instruction ends the run
pub ended : (g : Execution) (l : Layout g) (next : ℕ) (old : List ℕ) (s : meaning.State) (op : Op) (ending : Ending) (t : meaning.State) → Here g l next old s → slice_get (code g l).ops next ≡ Some op → KeptBlocks g t.blocks → ((w : Scratch) → act (image g) g.settings (code g l) op (frame g l next w old s) (standing g l next w old s) ≡ Over ending (state g (Runs (frame g l next w old s)) l.callers t)) → Finishes g ending t
ended g l next old s op ending t here at kept over =
    last_move g _ _ ending t here.reached (fetched g l next here.scratch old s op at ∙ over here.scratch) (same_end g (Runs (frame g l next here.scratch old s)) l.callers t kept)

-- a value's word is on the stack
abbrev pub Arrives : (g : Execution) → Layout g → ℕ → List ℕ → Value → meaning.State → Type 0
Arrives g l next stack v s = Here g l next (word_of g s v ∷ stack) s × IsKept s v

abbrev pub Evaluates : (g : Execution) → Layout g → ℕ → List ℕ → Result Value → Type 0
Evaluates g l next stack o = Leads (Arrives g l next stack) (Finishes g) o

-- the same with the place written otherwise
pub here_at : (g : Execution) (l : Layout g) (m n : ℕ) (stack : List ℕ) (s : meaning.State) → m ≡ n → Here g l m stack s → Here g l n stack s
here_at g l m n stack s e h = subst (λ k. Here g l k stack s) e h

pub evaluates_at : (g : Execution) (l : Layout g) (m n : ℕ) (stack : List ℕ) (o : Result Value) → m ≡ n → Evaluates g l m stack o → Evaluates g l n stack o
evaluates_at g l m n stack o e h = subst (λ k. Evaluates g l k stack o) e h

-- ---- blocks that are added on the way

-- the same call, from a state on
abbrev pub from : (g : Execution) → Layout g → meaning.State → Layout g
from g l s = record l { since = shapes s.blocks }

pub here_from : (g : Execution) (l : Layout g) (next : ℕ) (stack : List ℕ) (s : meaning.State) → Here g l next stack s → Here g (from g l s) next stack s
here_from g l next stack s here =
    let k = here.kept in
    record {
      scratch = here.scratch;
      holds = here.holds;
      kept = record { count = k.count; depth = k.depth; locals = k.locals; blocks = k.blocks; grows = grows_none (shapes s.blocks); world = k.world };
      reached = here.reached;
    }

-- a place that is reached from there is reached
pub here_on : (g : Execution) (l : Layout g) (next : ℕ) (stack : List ℕ) (s t : meaning.State) → Grows l.since (shapes s.blocks) → Here g (from g l s) next stack t → Here g l next stack t
here_on g l next stack s t grows here =
    let k = here.kept in
    record {
      scratch = here.scratch;
      holds = here.holds;
      kept = record { count = k.count; depth = k.depth; locals = k.locals; blocks = k.blocks; grows = grows_on l.since (shapes s.blocks) (shapes t.blocks) grows k.grows; world = k.world };
      reached = here.reached;
    }

-- a value whose word lies below that of another one is still there, and so are both words
pub record Both (g : Execution) (l : Layout g) (next : ℕ) (stack : List ℕ) (v w : Value) (t : meaning.State) : Type 0 where
  pub here : Here g l next (word_of g t w ∷ (word_of g t v ∷ stack)) t
  pub below : IsKept t v
  pub top : IsKept t w

pub both : (g : Execution) (l : Layout g) (next : ℕ) (stack : List ℕ) (v w : Value) (s t : meaning.State) → Grows l.since (shapes s.blocks) → IsKept s v → Arrives g (from g l s) next (word_of g s v ∷ stack) w t → Both g l next stack v w t
both g l next stack v w s t grows kept x =
    let added = x.0.kept.grows in
    let same = word_grows g.settings.base (shapes s.blocks) (shapes t.blocks) v added kept in
    record {
      here = subst (λ u. Here g l next (word_of g t w ∷ (u ∷ stack)) t) (sym same) (here_on g l next (word_of g t w ∷ (word_of g s v ∷ stack)) s t grows x.0);
      below = kept_grows (shapes s.blocks) (shapes t.blocks) v added kept;
      top = x.1;
    }

-- the frame of a call that waits has the words of its locals
pub frame_grows : (g : Execution) (l : Layout g) (next : ℕ) (scratch : Scratch) (stack : List ℕ) (s t : meaning.State) → Grows (shapes s.blocks) (shapes t.blocks) → AreKeptBy (shapes s.blocks) s.locals → t.locals ≡ s.locals → frame g l next scratch stack s ≡ frame g l next scratch stack t
frame_grows g l next scratch stack s t grows kept same =
    ap (λ slots. record { function = l.number; next = next; slots = slots ++ words scratch; stack = stack })
    (sym (slots_grow g (shapes s.blocks) (shapes t.blocks) s.locals grows kept) ∙ ap (slots_by g (shapes t.blocks)) (sym same))
