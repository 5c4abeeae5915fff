-- Small functions of the sandbox, and the acts that they make.
use Rattle.std.specs.Prelude.{List, [], ◌∷◌, pos}
use Rattle.act_words.specs.declared.act.Turn.TheVariants as turns
use Rattle.act_words.specs.declared.settings.Settings.{Settings}
use Rattle.act_words.specs.Acts.{Go, Read, Write, Call, Return, Stop, Passed, Replied, SeenCall, SeenReply}
use Rattle.act_words.specs.World.{Event, Took, Released, Showed}
use Rattle.code_words.specs.declared.op.Op.{Op}
use Rattle.code_words.specs.declared.op.Op.TheVariants as ops
use Rattle.code_words.specs.Examples.{sandboxed, function_of}
use Rattle.code_words.specs.Images.{Image}
use Rattle.run_core.specs.Examples.{plain}
use Rattle.ckc_core.specs.Core.{Core}
use Rattle.ccbox_call.specs.Programs.{Meant, Coded}
use Rattle.ccbox_call.specs.Supplies.{IsOwn}

-- ---- the functions: each takes a number

abbrev function : List Op → Image
function ops = sandboxed (function_of 0 1 1 2 ops ∷ [])

-- stores 7 at 16, and gives its number back
abbrev pub storing : Image
storing = function (ops.Const (pos 16) ∷ ops.Const (pos 7) ∷ ops.Store4 ∷ ops.Local 0 ∷ ops.Return ∷ [])

-- gives back what a callback replies to its number
abbrev pub asking : Image
asking = function (ops.Local 0 ∷ ops.CallBack 0 ∷ ops.Return ∷ [])

-- divides its number by 0
abbrev pub dividing : Image
dividing = function (ops.Local 0 ∷ ops.Const (pos 0) ∷ ops.WrapDiv ∷ ops.Return ∷ [])

-- ---- what happens

-- function 0 is called with 5, and these acts are taken behind
abbrev pub called : List Event → List Event
called events = Took turns.Trusted Go ∷ Released (Passed 0 (5 ∷ [])) ∷ Showed (SeenCall 0 (5 ∷ [])) ∷ events

abbrev pub stores : Type 0
stores = IsOwn (Coded storing) plain (called (Took turns.Sandbox (Write 16 (7 ∷ 0 ∷ 0 ∷ 0 ∷ [])) ∷ Took turns.Sandbox (Return 5) ∷ []))

-- the callback is called with 5, and replies 9
abbrev pub asks : Type 0
asks =
    IsOwn (Coded asking) plain (called (Took turns.Sandbox (Call 0 (5 ∷ [])) ∷ Took turns.Trusted Go ∷ Released (Replied 9) ∷ Showed (SeenReply 9)
    ∷ Took turns.Sandbox (Return 9) ∷ []))

abbrev pub divides : Type 0
divides = IsOwn (Coded dividing) plain (called (Took turns.Sandbox Stop ∷ []))

-- a function that isn't there
abbrev pub lacks : Type 0
lacks = IsOwn (Coded (sandboxed [])) plain (called (Took turns.Sandbox Stop ∷ []))

-- no other number is given back, and nothing is read
abbrev pub no_others : Type 0
no_others =
    (IsOwn (Coded storing) plain (called (Took turns.Sandbox (Write 16 (7 ∷ 0 ∷ 0 ∷ 0 ∷ [])) ∷ Took turns.Sandbox (Return 6) ∷ [])) → ⊥)
    × (IsOwn (Coded storing) plain (called (Took turns.Sandbox (Read 16 4) ∷ [])) → ⊥)
    × (IsOwn (Coded asking) plain (called (Took turns.Sandbox (Return 5) ∷ [])) → ⊥)
    × (IsOwn (Coded (sandboxed [])) plain (called (Took turns.Sandbox (Return 5) ∷ [])) → ⊥)
    × (IsOwn (Coded storing) plain (Took turns.Trusted Stop ∷ []) → ⊥)

-- without bodies the sandbox ends once a function is called
abbrev pub bodiless : Type 0
bodiless =
    (c : Core) (settings : Settings) → IsOwn (Meant c) settings (called (Took turns.Sandbox Stop ∷ []))
    × (IsOwn (Meant c) settings (called (Took turns.Sandbox (Return 0) ∷ [])) → ⊥)
