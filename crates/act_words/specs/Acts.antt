-- Acts, what the sandbox is shown and what is released, as plain data, and the views from the types of the code to them.
use Rattle.std.specs.Prelude.{◌≤◌, ◌<◌, ◌^◌, ℕ, List, length}
use Rattle.std.specs.List.{All}
use Rattle.act_words.specs.declared.act as code
use Rattle.act_words.specs.declared.act.Act.TheVariants as acts
use Rattle.act_words.specs.declared.act.Seen.TheVariants as sights
use Rattle.act_words.specs.declared.act.Release.TheVariants as releases

-- one act of the sandbox
pub data Act : Type 0 where
  Go : Act
  Read : (at len : ℕ) → Act
  Write : (at : ℕ) (bytes : List ℕ) → Act
  Call : (fun : ℕ) (args : List ℕ) → Act
  Return : (value : ℕ) → Act
  Stop : Act

-- what the sandbox is shown: bytes that it looked at, a call of a function of its own, the result of a callback
pub data Seen : Type 0 where
  SeenBytes : (at : ℕ) (bytes : List ℕ) → Seen
  SeenCall : (fun : ℕ) (args : List ℕ) → Seen
  SeenReply : (value : ℕ) → Seen

-- a touch by the trusted side: a load, a store, a call of a tainted function, the result of a callback
pub data Release : Type 0 where
  Looked : Release
  Wrote : (at : ℕ) (bytes : List ℕ) → Release
  Passed : (fun : ℕ) (args : List ℕ) → Release
  Replied : (value : ℕ) → Release

-- the act that a value of the code's type stands for
abbrev pub act_view : code.Act.Act → Act
act_view acts.Go = Go
act_view (acts.Read at len) = Read at len.number
act_view (acts.Write at bytes) = Write at bytes.octets
act_view (acts.Call fun args) = Call fun args
act_view (acts.Return value) = Return value
act_view acts.Stop = Stop

-- what is seen
abbrev pub seen_view : code.Seen.Seen → Seen
seen_view (sights.Bytes at bytes) = SeenBytes at bytes
seen_view (sights.Called fun args) = SeenCall fun args
seen_view (sights.Replied value) = SeenReply value

-- the release
abbrev pub release_view : code.Release.Release → Release
release_view releases.Looked = Looked
release_view (releases.Wrote at bytes) = Wrote at bytes
release_view (releases.Passed fun args) = Passed fun args
release_view (releases.Replied value) = Replied value

-- a word: a number of 32 bits without a sign
abbrev pub IsWord : ℕ → Type 0
IsWord n = n < 2 ^ 32

-- what is so of each act of the code's type
abbrev pub IsAct : Act → Type 0
IsAct Go = Unit {0}
IsAct (Read at len) = IsWord at × (1 ≤ len) × (len ≤ 64)
IsAct (Write at bytes) = IsWord at × (1 ≤ length bytes) × (length bytes ≤ 64) × All (λ b. b < 256) bytes
IsAct (Call fun args) = IsWord fun × (length args ≤ 16) × All IsWord args
IsAct (Return value) = IsWord value
IsAct Stop = Unit {0}
