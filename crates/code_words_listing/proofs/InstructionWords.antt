-- The words of instructions: no other line begins so, and they have no byte that ends a word or a line.
use Rattle.std.proofs.Common.{◌≡◌, true, refl, None}
use Rattle.std.specs.List.{list_all}
use Rattle.act_words.specs.declared.operator.ArithmeticOperator.TheVariants as arithmetics
use Rattle.act_words.specs.declared.operator.BitwiseOperator.TheVariants as bits
use Rattle.act_words.specs.declared.operator.Comparison.TheVariants as comparisons
use Rattle.code_words.specs.declared.op.Op.{Op}
use Rattle.code_words.specs.declared.op.Op.TheVariants as ops
use Rattle.code_words_listing.specs.Instructions.{instruction_word, operands}
use Rattle.code_words_listing.specs.ReadLines.{head_of}
use Rattle.code_words_listing.proofs.Inner.{is_inner, is_plain}

pub record IsInstruction (op : Op) : Type 0 where
  pub no_head : head_of (instruction_word op) ≡ None
  pub inner : list_all is_inner (instruction_word op) ≡ true
  pub operands : list_all is_plain (operands op) ≡ true

pub instruction-word : (op : Op) → IsInstruction op
instruction-word ops.Discard = record { no_head = refl; inner = refl; operands = refl }
instruction-word ops.Duplicate = record { no_head = refl; inner = refl; operands = refl }
instruction-word ops.WrapAdd = record { no_head = refl; inner = refl; operands = refl }
instruction-word ops.WrapSub = record { no_head = refl; inner = refl; operands = refl }
instruction-word ops.WrapMul = record { no_head = refl; inner = refl; operands = refl }
instruction-word ops.WrapNeg = record { no_head = refl; inner = refl; operands = refl }
instruction-word ops.WrapShl = record { no_head = refl; inner = refl; operands = refl }
instruction-word ops.WrapShr = record { no_head = refl; inner = refl; operands = refl }
instruction-word ops.WrapDiv = record { no_head = refl; inner = refl; operands = refl }
instruction-word ops.WrapRem = record { no_head = refl; inner = refl; operands = refl }
instruction-word ops.Not = record { no_head = refl; inner = refl; operands = refl }
instruction-word ops.UnsignedLess = record { no_head = refl; inner = refl; operands = refl }
instruction-word ops.UnsignedLessEqual = record { no_head = refl; inner = refl; operands = refl }
instruction-word ops.UnsignedGreater = record { no_head = refl; inner = refl; operands = refl }
instruction-word ops.UnsignedGreaterEqual = record { no_head = refl; inner = refl; operands = refl }
instruction-word ops.Zero = record { no_head = refl; inner = refl; operands = refl }
instruction-word ops.Byte = record { no_head = refl; inner = refl; operands = refl }
instruction-word ops.Load1 = record { no_head = refl; inner = refl; operands = refl }
instruction-word ops.Load4 = record { no_head = refl; inner = refl; operands = refl }
instruction-word ops.Store1 = record { no_head = refl; inner = refl; operands = refl }
instruction-word ops.Store4 = record { no_head = refl; inner = refl; operands = refl }
instruction-word ops.TouchLoad1 = record { no_head = refl; inner = refl; operands = refl }
instruction-word ops.TouchLoad4 = record { no_head = refl; inner = refl; operands = refl }
instruction-word ops.TouchStore1 = record { no_head = refl; inner = refl; operands = refl }
instruction-word ops.TouchStore4 = record { no_head = refl; inner = refl; operands = refl }
instruction-word ops.Return = record { no_head = refl; inner = refl; operands = refl }
instruction-word ops.ReturnNothing = record { no_head = refl; inner = refl; operands = refl }
instruction-word ops.Tick = record { no_head = refl; inner = refl; operands = refl }
instruction-word ops.NextInput = record { no_head = refl; inner = refl; operands = refl }
instruction-word ops.Print = record { no_head = refl; inner = refl; operands = refl }
instruction-word ops.PutByte = record { no_head = refl; inner = refl; operands = refl }
instruction-word ops.TextLength = record { no_head = refl; inner = refl; operands = refl }
instruction-word (ops.Bitwise bits.And) = record { no_head = refl; inner = refl; operands = refl }
instruction-word (ops.Bitwise bits.Or) = record { no_head = refl; inner = refl; operands = refl }
instruction-word (ops.Bitwise bits.Xor) = record { no_head = refl; inner = refl; operands = refl }
instruction-word (ops.Compare comparisons.Equal) = record { no_head = refl; inner = refl; operands = refl }
instruction-word (ops.Compare comparisons.NotEqual) = record { no_head = refl; inner = refl; operands = refl }
instruction-word (ops.Compare comparisons.Less) = record { no_head = refl; inner = refl; operands = refl }
instruction-word (ops.Compare comparisons.LessEqual) = record { no_head = refl; inner = refl; operands = refl }
instruction-word (ops.Compare comparisons.Greater) = record { no_head = refl; inner = refl; operands = refl }
instruction-word (ops.Compare comparisons.GreaterEqual) = record { no_head = refl; inner = refl; operands = refl }
instruction-word (ops.Arithmetic arithmetics.Add a) = record { no_head = refl; inner = refl; operands = refl }
instruction-word (ops.Arithmetic arithmetics.Subtract a) = record { no_head = refl; inner = refl; operands = refl }
instruction-word (ops.Arithmetic arithmetics.Multiply a) = record { no_head = refl; inner = refl; operands = refl }
instruction-word (ops.Arithmetic arithmetics.Divide a) = record { no_head = refl; inner = refl; operands = refl }
instruction-word (ops.Arithmetic arithmetics.Remainder a) = record { no_head = refl; inner = refl; operands = refl }
instruction-word (ops.Arithmetic arithmetics.ShiftLeft a) = record { no_head = refl; inner = refl; operands = refl }
instruction-word (ops.Arithmetic arithmetics.ShiftRight a) = record { no_head = refl; inner = refl; operands = refl }
instruction-word (ops.Const a) = record { no_head = refl; inner = refl; operands = refl }
instruction-word (ops.Local a) = record { no_head = refl; inner = refl; operands = refl }
instruction-word (ops.Set a) = record { no_head = refl; inner = refl; operands = refl }
instruction-word (ops.BlockAddress a) = record { no_head = refl; inner = refl; operands = refl }
instruction-word (ops.BlockOffset a) = record { no_head = refl; inner = refl; operands = refl }
instruction-word (ops.Neg a) = record { no_head = refl; inner = refl; operands = refl }
instruction-word (ops.Index a) = record { no_head = refl; inner = refl; operands = refl }
instruction-word (ops.NonNull a) = record { no_head = refl; inner = refl; operands = refl }
instruction-word (ops.In a b c d) = record { no_head = refl; inner = refl; operands = refl }
instruction-word (ops.UpTo a b c d) = record { no_head = refl; inner = refl; operands = refl }
instruction-word (ops.Term a b c) = record { no_head = refl; inner = refl; operands = refl }
instruction-word (ops.Contain a b c d e f) = record { no_head = refl; inner = refl; operands = refl }
instruction-word (ops.Lies a b c d e) = record { no_head = refl; inner = refl; operands = refl }
instruction-word (ops.Range a b c) = record { no_head = refl; inner = refl; operands = refl }
instruction-word (ops.Jump a) = record { no_head = refl; inner = refl; operands = refl }
instruction-word (ops.JumpIfZero a) = record { no_head = refl; inner = refl; operands = refl }
instruction-word (ops.Call a) = record { no_head = refl; inner = refl; operands = refl }
instruction-word (ops.TaintedCall a b) = record { no_head = refl; inner = refl; operands = refl }
instruction-word (ops.CallBack a) = record { no_head = refl; inner = refl; operands = refl }
instruction-word (ops.Alloc a) = record { no_head = refl; inner = refl; operands = refl }
instruction-word (ops.AllocTerminated a) = record { no_head = refl; inner = refl; operands = refl }
instruction-word (ops.SandboxAlloc a) = record { no_head = refl; inner = refl; operands = refl }
