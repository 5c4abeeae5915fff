-- Steps that write, or take an input number.
use Rattle.std.specs.Prelude.{◌≡◌, ◌<◌, Option, Some, None}
use Rattle.code_words.specs.declared.op.Op.{Op}
use Rattle.code_words.specs.declared.op.Op.TheVariants as ops
use Rattle.two_memory_machine_states.specs.declared.event.Event.{Event}
use Rattle.two_memory_machine_states.specs.Machines.{Machine, Steps, ending_given, moves_left}

-- a step was made, which this event tells
pub record IsStep (old : Machine) (event : Event) (new : Machine) : Type 0 where
  pub steps : Steps old event new
  pub over : new.over ≡ ending_given event
  pub sooner : moves_left new < moves_left old

-- an instruction that writes
abbrev pub Writes : Op → Type 0
Writes ops.Print = Unit {0}
Writes ops.PutByte = Unit {0}
Writes _ = ⊥

-- an instruction that writes, or takes an input number
abbrev pub Exchanges : Op → Type 0
Exchanges ops.NextInput = Unit {0}
Exchanges ops.Print = Unit {0}
Exchanges ops.PutByte = Unit {0}
Exchanges _ = ⊥

-- an instruction is next that writes or takes an input number
abbrev pub IsTold : Option Op → Type 0
IsTold None = ⊥
IsTold (Some op) = Exchanges op
