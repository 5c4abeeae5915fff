-- Whatever the world answers, what is left are acts and numbers of 32 bits, and a reply is a word.
use Rattle.std.proofs.Common.{◌≡◌, ℕ, Bool, true, false, List}
use Rattle.std.specs.List.{AllByRecursion}
use Rattle.act_words.specs.Acts.{Act, IsAct, IsWord, Go, Read, Write, Call, Return, Stop}
use Rattle.act_words.specs.World.{World}
use Rattle.act_words.specs.Acting.{BeforeTouch, InSandbox, lies_in, shown_if, written_if, waits_or_ends, keeps_or_ends, act_before_touch, act_in_sandbox}
use Rattle.ckc_core.proofs.Numbers.{IsNumber}

-- each act and each input that is left is one
pub record KeptWorld (w : World) : Type 0 where
  pub acts : AllByRecursion IsAct w.acts
  pub inputs : AllByRecursion IsNumber w.inputs

-- in this world, these are the acts that are left
pub record HasLeft (acts : List Act) (w : World) : Type 0 where
  pub left : w.acts ≡ acts
  pub inputs : AllByRecursion IsNumber w.inputs

abbrev pub BeforeKeeps : List Act → BeforeTouch → Type 0
BeforeKeeps acts (BeforeTouch.Waits w) = HasLeft acts w
BeforeKeeps acts (BeforeTouch.Touches w) = HasLeft acts w
BeforeKeeps acts (BeforeTouch.Ends ending w) = Unit {0}

abbrev pub SandboxKeeps : List Act → InSandbox → Type 0
SandboxKeeps acts (InSandbox.Keeps w) = HasLeft acts w
SandboxKeeps acts (InSandbox.Answers reply w) = IsWord reply × HasLeft acts w
SandboxKeeps acts (InSandbox.Calls fun words w) = Unit {0}
SandboxKeeps acts (InSandbox.Ends ending w) = Unit {0}

shown_waits : (acts : List Act) (yes : Bool) (at len : ℕ) (w : World) → HasLeft acts w → BeforeKeeps acts (waits_or_ends (shown_if yes at len w) w)
shown_waits acts true at len w h = record { left = h.left; inputs = h.inputs }
shown_waits acts false at len w h = tt

written_waits : (acts : List Act) (yes : Bool) (at : ℕ) (bytes : List ℕ) (w : World) → HasLeft acts w → BeforeKeeps acts (waits_or_ends (written_if yes at bytes w) w)
written_waits acts true at bytes w h = record { left = h.left; inputs = h.inputs }
written_waits acts false at bytes w h = tt

shown_keeps : (acts : List Act) (yes : Bool) (at len : ℕ) (w : World) → HasLeft acts w → SandboxKeeps acts (keeps_or_ends (shown_if yes at len w) w)
shown_keeps acts true at len w h = record { left = h.left; inputs = h.inputs }
shown_keeps acts false at len w h = tt

written_keeps : (acts : List Act) (yes : Bool) (at : ℕ) (bytes : List ℕ) (w : World) → HasLeft acts w → SandboxKeeps acts (keeps_or_ends (written_if yes at bytes w) w)
written_keeps acts true at bytes w h = record { left = h.left; inputs = h.inputs }
written_keeps acts false at bytes w h = tt

-- one act
pub act_waits : (acts : List Act) (a : Act) (w : World) → HasLeft acts w → BeforeKeeps acts (act_before_touch a w)
act_waits acts Go w h = h
act_waits acts (Read at len) w h = shown_waits acts (lies_in at len w.sandbox) at len w h
act_waits acts (Write at bytes) w h = written_waits acts _ at bytes w h
act_waits acts (Call fun args) w h = tt
act_waits acts (Return value) w h = tt
act_waits acts Stop w h = tt

pub act_keeps : (acts : List Act) (a : Act) (w : World) → IsAct a → HasLeft acts w → SandboxKeeps acts (act_in_sandbox a w)
act_keeps acts Go w is h = h
act_keeps acts (Read at len) w is h = shown_keeps acts (lies_in at len w.sandbox) at len w h
act_keeps acts (Write at bytes) w is h = written_keeps acts _ at bytes w h
act_keeps acts (Call fun args) w is h = tt
act_keeps acts (Return value) w is h = (is, record { left = h.left; inputs = h.inputs })
act_keeps acts Stop w is h = tt
