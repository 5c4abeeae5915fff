-- Instructions in families, in the order in which the machine asks for them.
use Rattle.std.specs.Prelude.{◌≡◌, ℕ, Bool, true, false, Option, Some, None}
use Rattle.code_words.specs.declared.op.Op.{Op}
use Rattle.code_words.specs.declared.op.Op.TheVariants as ops
use Rattle.two_memory_machine_states.specs.declared.outcome.Outcome.{Outcome}
use Rattle.two_memory_machine_states.specs.Machines.{Machine, is_input}
use Rattle.two_memory_machine_states.specs.Steps.{Acts}
use Rattle.two_memory_machine.specs.Together.{SomeSteps}
use Rattle.two_memory_machine.specs.Told.{IsTold}

-- an instruction takes no input number, and its step was made; or it writes or waits for a number, and nothing was done
abbrev pub ActsUnlessTold : Op → Machine → Option Outcome → Machine → Type 0
ActsUnlessTold op old None new = (new ≡ old) × IsTold (Some op)
ActsUnlessTold op old (Some outcome) new = (is_input (Some op) ≡ false) × Acts op old outcome new

-- the instructions whose steps are made with some behind them
abbrev pub leads : Op → Bool
leads (ops.Const number) = true
leads (ops.Local slot) = true
leads (ops.NonNull place) = true
leads _ = false

abbrev pub ActsIf : Bool → Op → Machine → Outcome → Machine → Type 0
ActsIf true op old outcome new = SomeSteps old outcome new
ActsIf false op old outcome new = (is_input (Some op) ≡ false) × Acts op old outcome new

-- an instruction's step was made, and some with it where it leads; or it writes or waits for a number, and nothing was done
abbrev pub RunsUnlessTold : Op → Machine → Option Outcome → Machine → Type 0
RunsUnlessTold op old None new = (new ≡ old) × IsTold (Some op)
RunsUnlessTold op old (Some outcome) new = ActsIf (leads op) op old outcome new

-- the number of an instruction's family
abbrev pub family : Op → ℕ
family (ops.Const n) = 1
family (ops.Local k) = 1
family (ops.Set k) = 1
family ops.Discard = 1
family ops.Duplicate = 1
family (ops.BlockAddress k) = 1
family (ops.BlockOffset k) = 1
family (ops.Jump target) = 1
family (ops.JumpIfZero target) = 1
family (ops.Call k) = 1
family (ops.TaintedCall k place) = 1
family (ops.CallBack k) = 1
family ops.Return = 1
family ops.ReturnNothing = 1
family ops.Tick = 1
family (ops.Arithmetic operator place) = 1
family (ops.Neg place) = 1
family (ops.Index size) = 1
family ops.WrapAdd = 1
family ops.WrapSub = 1
family ops.WrapMul = 1
family ops.WrapNeg = 1
family ops.WrapShl = 1
family ops.WrapShr = 1
family ops.WrapDiv = 1
family ops.WrapRem = 1
family (ops.Bitwise operator) = 1
family ops.Not = 1
family (ops.Compare comparison) = 1
family ops.UnsignedLess = 1
family ops.UnsignedLessEqual = 1
family ops.UnsignedGreater = 1
family ops.UnsignedGreaterEqual = 1
family ops.Zero = 1
family ops.Byte = 1
family (ops.NonNull place) = 1
family (ops.In low high size place) = 1
family ops.Load1 = 1
family ops.Load4 = 1
family ops.Store1 = 1
family ops.Store4 = 1
family ops.TouchLoad1 = 1
family ops.TouchLoad4 = 1
family ops.TouchStore1 = 1
family ops.TouchStore4 = 1
family (ops.Alloc size) = 1
family (ops.AllocTerminated size) = 1
family (ops.SandboxAlloc size) = 1
family ops.TextLength = 1
family _ = 2
