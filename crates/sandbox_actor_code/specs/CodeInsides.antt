-- The fields of an actor of the sandbox's code: what its parts see of them, and what is always true of them.
use Rattle.std.specs.Prelude.{◌≡◌, ℕ, ◌<◌, List, [], ◌∷◌, length, Some, slice_get}
use Rattle.code_words.specs.Formats.{KeepsFormat}
use Rattle.code_words.specs.Functions.{Func}
use Rattle.code_words.specs.Images.{Image}
use Rattle.code_words.specs.SandboxCode.{function_of}
use Rattle.code_words.specs.Table.{offset_of}
use Rattle.sandbox_actor_code.specs.CallFrames.{Call, IsRoomFor}
use Rattle.sandbox_actor_code.specs.declared.waiting_calls.Awaited.{Awaited}
use Rattle.sandbox_actor_code.specs.declared.waiting_calls.Awaited.TheVariants as awaited
use Rattle.sandbox_actor_code.specs.declared.waiting_calls.WaitingCall.{WaitingCall}
use Rattle.sandbox_actor_code.specs.declared.code_actor.Phase.{Phase}
use Rattle.sandbox_actor_code.specs.declared.code_actor.Phase.TheVariants as phases
use Rattle.sandbox_actor_code.specs.declared.code_actor.CodeActor.TheInside.{Inside}
use Rattle.sandbox_actor_code.specs.Codes.{Code}

-- what the parts see
abbrev pub code : Inside → Code
code a = record { image = a.image.now; budget = a.budget; ticks = a.ticks; phase = a.phase; call = a.call; waiting = a.waiting.calls }

-- a call of a function that is there, with its instructions and its stack
pub record IsOpen (image : Image) (c : Call) : Type 0 where
  pub f : Func
  pub there : function_of image c.frame.function ≡ Some f
  pub ops : c.ops ≡ f.ops
  pub limit : c.limit ≡ f.stack

abbrev pub AreOpen : Image → List WaitingCall → Type 0
AreOpen image [] = Unit {0}
AreOpen image (w ∷ calls) = IsOpen image w.call × AreOpen image calls

abbrev pub IsCallback : Awaited → Type 0
IsCallback awaited.Function = ⊥
IsCallback (awaited.Callback k) = Unit {0}

-- the innermost call that waits, if there is one, waits for the reply of a callback
abbrev pub WaitsForReply : List WaitingCall → Type 0
WaitsForReply [] = Unit {0}
WaitsForReply (w ∷ calls) = IsCallback w.awaited

-- a call that runs is open, and one of 1,000
abbrev pub IsPhaseOf : Phase → Image → Call → List WaitingCall → Type 0
IsPhaseOf phases.Runs image call calls = IsOpen image call × (length calls < 1000)
IsPhaseOf phases.Looks image call calls = IsOpen image call × (length calls < 1000)
IsPhaseOf phases.Rests image call calls = WaitsForReply calls
IsPhaseOf phases.Stopped image call calls = Unit {0}

-- the fields agree with the image and with one another
pub record IsConsistent (a : Inside) : Type 0 where
  pub format : KeepsFormat a.image.now
  -- where the static blocks of the sandbox's memory stand
  pub offsets : (k : ℕ) → slice_get a.offsets.items k ≡ offset_of a.image.now k
  -- the frames have room for each function
  pub fits : (number : ℕ) (f : Func) → function_of a.image.now number ≡ Some f → IsRoomFor f a.waiting.room
  pub room : a.call.room ≡ a.waiting.room
  pub waiting : AreOpen a.image.now a.waiting.calls
  pub phase : IsPhaseOf a.phase a.image.now a.call a.waiting.calls
