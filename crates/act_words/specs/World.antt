-- What both meanings of a program share: the sandbox's memory and its room, whose turn it is, its acts, the inputs that are
-- left, and what can be seen of a run.
use Rattle.std.specs.Prelude.{ℕ, ◌+◌, ◌-◌, ◌^◌, min, List, [], ◌∷◌, ◌++◌}
use Rattle.std.proofs.Common.{ℤ}
use Rattle.act_words.specs.declared.act.Turn.{Turn}
use Rattle.act_words.specs.declared.act.Turn.TheVariants as turns
use Rattle.act_words.specs.Acts.{Act, Seen, Release}

-- what happens, in order
pub data Event : Type 0 where
  -- an act was taken while this side had the turn
  Took : (turn : Turn) (act : Act) → Event
  -- the program wrote these bytes
  Output : (bytes : List ℕ) → Event
  -- the trusted side made a touch
  Released : (release : Release) → Event
  -- the sandbox was shown something
  Showed : (seen : Seen) → Event
  -- an act was due, and none was left; this side had the turn
  NoAct : (turn : Turn) → Event

pub record World : Type 0 where
  -- the bytes of the sandbox's memory, and the offset at which its next block will stand
  pub sandbox : List ℕ
  pub room : ℕ
  pub turn : Turn
  -- the acts that are left, and how many were taken
  pub acts : List Act
  pub taken : ℕ
  -- the input numbers that are left
  pub inputs : List ℤ
  -- the ticks that the trusted side spent
  pub ticks : ℕ
  -- what happened so far
  pub events : List Event

-- at the start of a run: the bytes of the sandbox's memory with the offset of its next block, the input numbers, and the acts
abbrev pub new_world : List ℕ → ℕ → List ℤ → List Act → World
new_world sandbox room inputs acts =
    record { sandbox = sandbox; room = room; turn = turns.Trusted; acts = acts; taken = 0; inputs = inputs; ticks = 0; events = [] }

-- these events follow
abbrev pub telling : List Event → World → World
telling more w = record w { events = w.events ++ more }

-- the sandbox's memory has these bytes
abbrev pub holding : List ℕ → World → World
holding bytes w = record w { sandbox = bytes }

-- this side has the turn
abbrev pub in_turn : Turn → World → World
in_turn turn w = record w { turn = turn }

-- the number of acts behind one more; it stands still at the end of 64 bits
abbrev pub counted : ℕ → ℕ
counted taken = min (taken + 1) (2 ^ 64 - 1)

-- one more act was taken, and these are left
abbrev pub taken_one : Act → List Act → World → World
taken_one act left w = record w { acts = left; taken = counted w.taken; events = w.events ++ Took w.turn act ∷ [] }

-- one more tick was spent
abbrev pub spent_one : World → World
spent_one w = record w { ticks = w.ticks + 1 }

-- these input numbers are left
abbrev pub with_inputs : List ℤ → World → World
with_inputs inputs w = record w { inputs = inputs }
