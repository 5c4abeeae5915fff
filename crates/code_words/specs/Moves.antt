-- Moves of a run: instructions, the acts of the sandbox before touches and in its turn, and what crosses between the sides.
use Rattle.std.specs.Prelude.{ℕ, Bool, true, false, ◌==◌, List, [], ◌∷◌, length, Option, Some, None, slice_get}
use Rattle.ckc_text.specs.declared.place.Place.{Place}
use Rattle.ckc_text.specs.declared.code.Code.TheVariants.{C4, C9, S5}
use Rattle.act_words.specs.declared.act.Turn.TheVariants as turns
use Rattle.act_words.specs.declared.ending.Ending.TheVariants as endings
use Rattle.act_words.specs.declared.settings.Settings.{Settings}
use Rattle.act_words.specs.Acts.{Act, Looked, Wrote, Passed, Replied}
use Rattle.act_words.specs.World.{World, NoAct, telling, in_turn, taken_one}
use Rattle.act_words.specs.Acting.{BeforeTouch, InSandbox, act_before_touch, act_in_sandbox, sandbox_ended, stopped_by_act}
use Rattle.act_words.specs.Touches.{released, spend_tick, enter_call}
use Rattle.flat_bytes.specs.Words.{word_at}
use Rattle.marshalling.specs.declared.fault.MarshalFault.{MarshalFault}
use Rattle.marshalling.specs.declared.fault.MarshalFault.TheVariants as faults
use Rattle.marshalling.specs.Crossing.{fits_kind, arguments_fault}
use Rattle.code_words.specs.Table.{Frame, Caller, Calls, Waits, CalledBack, Touch, Loads, Stores, Passes, Replies, Control, Runs, Touches, Away}
use Rattle.code_words.specs.Table.{State, Step, Goes, Over, depth, wild, asked, behind, enter, push_result, step}
use Rattle.marshalling.specs.declared.signature.Param.{Param}
use Rattle.marshalling.specs.declared.kind.WordKind.{WordKind}
use Rattle.marshalling.specs.declared.kind.WordKind.TheVariants as kinds
use Rattle.code_words.specs.Functions.{Func, Import}
use Rattle.code_words.specs.declared.image.Callback.{Callback}
use Rattle.code_words.specs.Images.{Image}

-- the state in another world
abbrev pub in_world : World → State → State
in_world w s = record s { world = w }

-- ---- touches

abbrev pub without_first : List Caller → List Caller
without_first [] = []
without_first (caller ∷ callers) = callers

-- the touch is made
abbrev pub make_touch : Image → Frame → Touch → State → Step
make_touch image f (Loads at len) s =
    push_result (slice_get image.trusted.funs f.function) (Some (word_at len s.world.sandbox at)) (behind f f.stack) (in_world (released Looked s.world) s)
make_touch image f (Stores at bytes) s = Goes (in_world (released (Wrote at bytes) s.world) (record s { control = Runs (behind f f.stack) }))
make_touch image f (Passes import words place) s =
    Goes (in_world (released (Passed import words) s.world) (record s { control = Away; callers = Waits (behind f f.stack) import place ∷ s.callers }))
make_touch image f (Replies value) s = Goes (in_world (released (Replied value) s.world) (record s { control = Away; callers = without_first s.callers }))

-- what an act does that is taken before a touch
abbrev pub before_touch_by : Image → Frame → Touch → BeforeTouch → State → Step
before_touch_by image f touch (BeforeTouch.Waits w) s = Goes (in_world w s)
before_touch_by image f touch (BeforeTouch.Touches w) s = make_touch image f touch (in_world w s)
before_touch_by image f touch (BeforeTouch.Ends ending w) s = Over ending (in_world w s)

-- ---- callbacks

-- a callback's function runs, where it is there and takes as many arguments
abbrev pub run_if : Bool → ℕ → Callback → Func → List ℕ → State → Step
run_if true k callback fun words s = enter callback.fun fun words (CalledBack k) (in_world (in_turn turns.Trusted s.world) s)
run_if false k callback fun words s = wild s

abbrev pub run_callback : ℕ → Callback → Option Func → List ℕ → State → Step
run_callback k callback None words s = wild s
run_callback k callback (Some fun) words s = run_if (fun.args == length words) k callback fun words s

abbrev pub at_place_of : Option Param → (Place → Step) → Step → Step
at_place_of None next none = none
at_place_of (Some p) next none = next p.place

-- the arguments of a callback are tested behind its tick and its depth
abbrev pub tested : Image → ℕ → Callback → Option MarshalFault → List ℕ → State → Step
tested image k callback None words s = run_callback k callback (slice_get image.trusted.funs callback.fun) words s
tested image k callback (Some faults.Count) words s = wild s
tested image k callback (Some (faults.Char param)) words s =
    at_place_of (slice_get callback.signature param) (λ place. Over (endings.Check C9 place) s) (wild s)
tested image k callback (Some (faults.Range param)) words s =
    at_place_of (slice_get callback.signature param) (λ place. Over (endings.Check C4 place) s) (wild s)

abbrev pub call_back_if : Bool → Image → Settings → ℕ → Callback → List ℕ → State → Step
call_back_if false image settings k callback words s = Over (stopped_by_act S5 s.world) s
call_back_if true image settings k callback words s =
    asked (spend_tick settings.budget s.world) s (λ _ t. asked (enter_call (depth t) t.world) t
    (λ _ u. tested image k callback (arguments_fault callback.signature words (length u.world.sandbox)) words u))

-- the sandbox calls a callback: the count of arguments (S5), the tick (S1), the depth (S2), the arguments (C9, C4)
abbrev pub call_back : Image → Settings → ℕ → Option Callback → List ℕ → State → Step
call_back image settings k None words s = Over (stopped_by_act S5 s.world) s
call_back image settings k (Some callback) words s = call_back_if (length callback.signature == length words) image settings k callback words s

-- ---- replies

abbrev pub replied_word : WordKind → ℕ → Option ℕ
replied_word kinds.Void value = None
replied_word kinds.Int value = Some value
replied_word kinds.Char value = Some value
replied_word kinds.Pointer value = Some value

-- the trusted side has the turn again, and goes on with the reply (C9)
abbrev pub reply_if : Bool → Image → Frame → Place → WordKind → ℕ → State → Step
reply_if true image f place kind value s = push_result (slice_get image.trusted.funs f.function) (replied_word kind value) f s
reply_if false image f place kind value s = Over (endings.Check C9 place) s

abbrev pub reply_to : Image → Frame → Place → Option Import → ℕ → State → Step
reply_to image f place None value s = wild s
reply_to image f place (Some import) value s = reply_if (fits_kind import.result value) image f place import.result value s

-- the innermost tainted call ends with a value
abbrev pub answer : Image → List Caller → ℕ → State → Step
answer image [] value s = wild s
answer image (Calls frame ∷ callers) value s = wild s
answer image (Waits frame import place ∷ callers) value s =
    reply_to image frame place (slice_get image.layout.imports import) value (record s { callers = callers })
answer image (CalledBack k ∷ callers) value s = wild s

-- what an act does that is taken while the sandbox has the turn
abbrev pub in_sandbox_by : Image → Settings → InSandbox → State → Step
in_sandbox_by image settings (InSandbox.Keeps w) s = Goes (in_world w s)
in_sandbox_by image settings (InSandbox.Answers word w) s = answer image s.callers word (in_world w s)
in_sandbox_by image settings (InSandbox.Calls k words w) s = call_back image settings k (slice_get image.layout.callbacks k) words (in_world w s)
in_sandbox_by image settings (InSandbox.Ends ending w) s = Over ending (in_world w s)

-- ---- moves

-- an act before a touch, where these acts follow it
abbrev pub take_before_touch : Image → Frame → Touch → Act → List Act → State → Step
take_before_touch image f touch act acts s = before_touch_by image f touch (act_before_touch act (taken_one act acts s.world)) s

-- an act in the sandbox's turn, where these acts follow it
abbrev pub take_in_sandbox : Image → Settings → Act → List Act → State → Step
take_in_sandbox image settings act acts s = in_sandbox_by image settings (act_in_sandbox act (taken_one act acts s.world)) s

-- no act is left: the touch is made as if it were let through, and the sandbox ends with its acts
abbrev pub touch_at_end : Image → Frame → Touch → State → Step
touch_at_end image f touch s = make_touch image f touch (in_world (telling (NoAct turns.Trusted ∷ []) s.world) s)

abbrev pub sandbox_at_end : State → Step
sandbox_at_end s = Over sandbox_ended (in_world (telling (NoAct turns.Sandbox ∷ []) s.world) s)

-- the next act before a touch
abbrev pub before_touch : Image → Frame → Touch → List Act → State → Step
before_touch image f touch [] s = touch_at_end image f touch s
before_touch image f touch (act ∷ acts) s = take_before_touch image f touch act acts s

-- the next act in the sandbox's turn
abbrev pub in_sandbox : Image → Settings → List Act → State → Step
in_sandbox image settings [] s = sandbox_at_end s
in_sandbox image settings (act ∷ acts) s = take_in_sandbox image settings act acts s

abbrev pub move_by : Image → Settings → Control → State → Step
move_by image settings (Runs f) s = step image settings f s
move_by image settings (Touches f touch) s = before_touch image f touch s.world.acts s
move_by image settings Away s = in_sandbox image settings s.world.acts s

-- one move of a run
abbrev pub move : Image → Settings → State → Step
move image settings s = move_by image settings s.control s
