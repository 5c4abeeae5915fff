-- For laws and private clauses: the instruction that words spell, if they spell one.
use Rattle.std.specs.Prelude.{List, [], ◌∷◌, find, Option, option_and_then, pos}
use Rattle.std.specs.Int.{w32, w64}
use Rattle.std.specs.Str.{bytes_eq}
use Rattle.std.specs.Prelude.{ℕ}
use Rattle.ckc_text.specs.declared.place.Place.{Place}
use Rattle.act_words.specs.declared.operator.ArithmeticOperator.TheVariants as arithmetics
use Rattle.act_words.specs.declared.operator.BitwiseOperator.TheVariants as bits
use Rattle.act_words.specs.declared.operator.Comparison.TheVariants as comparisons
use Rattle.code_words.specs.declared.op.Op.{Op}
use Rattle.code_words.specs.declared.op.Op.TheVariants as ops
use Rattle.code_words_listing.specs.Lines.{Line, Instruction}
use Rattle.code_words_listing.specs.Instructions.{instruction_word}
use Rattle.code_words_listing.specs.Reading.{one, done, number_in, size_in, signed_in, place_in}

abbrev pub nowhere : Place
nowhere = record { line = 0; col = 0 }

-- one instruction of each word
abbrev pub samples : List Op
samples =
    ops.Discard ∷ ops.Duplicate ∷ ops.WrapAdd ∷ ops.WrapSub ∷ ops.WrapMul ∷ ops.WrapNeg ∷ ops.WrapShl ∷ ops.WrapShr ∷ ops.WrapDiv ∷
    ops.WrapRem ∷ ops.Not ∷ ops.UnsignedLess ∷ ops.UnsignedLessEqual ∷ ops.UnsignedGreater ∷ ops.UnsignedGreaterEqual ∷ ops.Zero ∷
    ops.Byte ∷ ops.Load1 ∷ ops.Load4 ∷ ops.Store1 ∷ ops.Store4 ∷ ops.TouchLoad1 ∷ ops.TouchLoad4 ∷ ops.TouchStore1 ∷ ops.TouchStore4 ∷
    ops.Return ∷ ops.ReturnNothing ∷ ops.Tick ∷ ops.NextInput ∷ ops.Print ∷ ops.PutByte ∷ ops.TextLength ∷ ops.Bitwise bits.And ∷ ops.Bitwise bits.Or ∷
    ops.Bitwise bits.Xor ∷ ops.Compare comparisons.Equal ∷ ops.Compare comparisons.NotEqual ∷ ops.Compare comparisons.Less ∷ ops.Compare comparisons.LessEqual ∷
    ops.Compare comparisons.Greater ∷ ops.Compare comparisons.GreaterEqual ∷ ops.Arithmetic arithmetics.Add nowhere ∷
    ops.Arithmetic arithmetics.Subtract nowhere ∷
    ops.Arithmetic arithmetics.Multiply nowhere ∷ ops.Arithmetic arithmetics.Divide nowhere ∷ ops.Arithmetic arithmetics.Remainder nowhere ∷
    ops.Arithmetic arithmetics.ShiftLeft nowhere ∷ ops.Arithmetic arithmetics.ShiftRight nowhere ∷ ops.Const (pos 0) ∷ ops.Local 0 ∷
    ops.Set 0 ∷ ops.BlockAddress 0 ∷ ops.BlockOffset 0 ∷ ops.Neg nowhere ∷ ops.Index 1 ∷ ops.NonNull nowhere ∷ ops.In (pos 0) (pos 0) 1 nowhere ∷
    ops.UpTo (pos 0) (pos 0) 1 nowhere ∷ ops.Term (pos 0) 1 nowhere ∷ ops.Contain (pos 0) (pos 0) (pos 0) (pos 0) 1 nowhere ∷
    ops.Lies (pos 0) (pos 0) 1 0 nowhere ∷
    ops.Range 0 0 nowhere ∷ ops.Jump 0 ∷ ops.JumpIfZero 0 ∷ ops.Call 0 ∷ ops.TaintedCall 0 nowhere ∷ ops.CallBack 0 ∷ ops.Alloc 1 ∷
    ops.AllocTerminated 1 ∷ ops.SandboxAlloc 1 ∷ []

-- the instruction of a word's sample with the operands that words spell
abbrev pub with_operands : Op → List (List ℕ) → Option Line
with_operands (ops.Const a0) = one (signed_in w32) (λ a. done (Instruction (ops.Const a)))
with_operands (ops.Local a0) = one number_in (λ a. done (Instruction (ops.Local a)))
with_operands (ops.Set a0) = one number_in (λ a. done (Instruction (ops.Set a)))
with_operands (ops.BlockAddress a0) = one number_in (λ a. done (Instruction (ops.BlockAddress a)))
with_operands (ops.BlockOffset a0) = one number_in (λ a. done (Instruction (ops.BlockOffset a)))
with_operands (ops.Neg a0) = one place_in (λ a. done (Instruction (ops.Neg a)))
with_operands (ops.Index a0) = one size_in (λ a. done (Instruction (ops.Index a)))
with_operands (ops.NonNull a0) = one place_in (λ a. done (Instruction (ops.NonNull a)))
with_operands (ops.In a0 b0 c0 d0) =
    one (signed_in w64) (λ a. one (signed_in w64) (λ b. one size_in (λ c. one place_in (λ d. done (Instruction (ops.In a b c d))))))
with_operands (ops.UpTo a0 b0 c0 d0) =
    one (signed_in w64) (λ a. one (signed_in w64) (λ b. one size_in (λ c. one place_in (λ d. done (Instruction (ops.UpTo a b c d))))))
with_operands (ops.Term a0 b0 c0) = one (signed_in w64) (λ a. one size_in (λ b. one place_in (λ c. done (Instruction (ops.Term a b c)))))
with_operands (ops.Contain a0 b0 c0 d0 e0 f0) =
    one (signed_in w64) (λ a. one (signed_in w64) (λ b. one (signed_in w64) (λ c. one (signed_in w64) (λ d. one size_in (λ e.
    one place_in (λ f. done (Instruction (ops.Contain a b c d e f))))))))
with_operands (ops.Lies a0 b0 c0 d0 e0) =
    one (signed_in w64) (λ a. one (signed_in w64) (λ b. one size_in (λ c. one number_in (λ d. one place_in (λ e. done (Instruction (ops.Lies a b c d e)))))))
with_operands (ops.Range a0 b0 c0) = one number_in (λ a. one number_in (λ b. one place_in (λ c. done (Instruction (ops.Range a b c)))))
with_operands (ops.Jump a0) = one number_in (λ a. done (Instruction (ops.Jump a)))
with_operands (ops.JumpIfZero a0) = one number_in (λ a. done (Instruction (ops.JumpIfZero a)))
with_operands (ops.Call a0) = one number_in (λ a. done (Instruction (ops.Call a)))
with_operands (ops.TaintedCall a0 b0) = one number_in (λ a. one place_in (λ b. done (Instruction (ops.TaintedCall a b))))
with_operands (ops.CallBack a0) = one number_in (λ a. done (Instruction (ops.CallBack a)))
with_operands (ops.Alloc a0) = one size_in (λ a. done (Instruction (ops.Alloc a)))
with_operands (ops.AllocTerminated a0) = one size_in (λ a. done (Instruction (ops.AllocTerminated a)))
with_operands (ops.SandboxAlloc a0) = one size_in (λ a. done (Instruction (ops.SandboxAlloc a)))
with_operands (ops.Arithmetic operator a0) = one place_in (λ a. done (Instruction (ops.Arithmetic operator a)))
with_operands op = done (Instruction op)

abbrev pub instruction_of : List ℕ → List (List ℕ) → Option Line
instruction_of word words = option_and_then (λ op. with_operands op words) (find (λ op. bytes_eq (instruction_word op) word) samples)
