-- An instruction's words spell the instruction.
use Rattle.std.proofs.Common.{◌≡◌, [], map, refl, lit<, Some}
use Rattle.std.specs.Prelude.{All}
use Rattle.act_words.specs.declared.operator.ArithmeticOperator.TheVariants as arithmetics
use Rattle.act_words.specs.declared.operator.BitwiseOperator.TheVariants as bits
use Rattle.act_words.specs.declared.operator.Comparison.TheVariants as comparisons
use Rattle.code_words.specs.declared.op.Op.{Op}
use Rattle.code_words.specs.declared.op.Op.TheVariants as ops
use Rattle.code_words_listing.specs.Fields.{Fixed, Fits, word_of}
use Rattle.code_words_listing.specs.Instructions.{instruction_word, operands}
use Rattle.code_words_listing.specs.Lines.{Instruction}
use Rattle.code_words_listing.specs.ReadInstructions.{instruction_of}
use Rattle.code_words_listing.proofs.FieldsBack.{number_back, size_back, signed32_back, signed64_back, place_back}

pub instruction-back : (op : Op) → All Fits (operands op) → instruction_of (instruction_word op) (map word_of (operands op)) ≡ Some (Instruction op)
instruction-back ops.Discard h = refl
instruction-back ops.Duplicate h = refl
instruction-back ops.WrapAdd h = refl
instruction-back ops.WrapSub h = refl
instruction-back ops.WrapMul h = refl
instruction-back ops.WrapNeg h = refl
instruction-back ops.WrapShl h = refl
instruction-back ops.WrapShr h = refl
instruction-back ops.WrapDiv h = refl
instruction-back ops.WrapRem h = refl
instruction-back ops.Not h = refl
instruction-back ops.UnsignedLess h = refl
instruction-back ops.UnsignedLessEqual h = refl
instruction-back ops.UnsignedGreater h = refl
instruction-back ops.UnsignedGreaterEqual h = refl
instruction-back ops.Zero h = refl
instruction-back ops.Byte h = refl
instruction-back ops.Load1 h = refl
instruction-back ops.Load4 h = refl
instruction-back ops.Store1 h = refl
instruction-back ops.Store4 h = refl
instruction-back ops.TouchLoad1 h = refl
instruction-back ops.TouchLoad4 h = refl
instruction-back ops.TouchStore1 h = refl
instruction-back ops.TouchStore4 h = refl
instruction-back ops.Return h = refl
instruction-back ops.ReturnNothing h = refl
instruction-back ops.Tick h = refl
instruction-back ops.NextInput h = refl
instruction-back ops.Print h = refl
instruction-back ops.PutByte h = refl
instruction-back ops.TextLength h = refl
instruction-back (ops.Bitwise bits.And) h = refl
instruction-back (ops.Bitwise bits.Or) h = refl
instruction-back (ops.Bitwise bits.Xor) h = refl
instruction-back (ops.Compare comparisons.Equal) h = refl
instruction-back (ops.Compare comparisons.NotEqual) h = refl
instruction-back (ops.Compare comparisons.Less) h = refl
instruction-back (ops.Compare comparisons.LessEqual) h = refl
instruction-back (ops.Compare comparisons.Greater) h = refl
instruction-back (ops.Compare comparisons.GreaterEqual) h = refl
instruction-back (ops.Arithmetic arithmetics.Add a) h = rw (place_back a (h 0 (Fixed []) (lit< tt))) refl
instruction-back (ops.Arithmetic arithmetics.Subtract a) h = rw (place_back a (h 0 (Fixed []) (lit< tt))) refl
instruction-back (ops.Arithmetic arithmetics.Multiply a) h = rw (place_back a (h 0 (Fixed []) (lit< tt))) refl
instruction-back (ops.Arithmetic arithmetics.Divide a) h = rw (place_back a (h 0 (Fixed []) (lit< tt))) refl
instruction-back (ops.Arithmetic arithmetics.Remainder a) h = rw (place_back a (h 0 (Fixed []) (lit< tt))) refl
instruction-back (ops.Arithmetic arithmetics.ShiftLeft a) h = rw (place_back a (h 0 (Fixed []) (lit< tt))) refl
instruction-back (ops.Arithmetic arithmetics.ShiftRight a) h = rw (place_back a (h 0 (Fixed []) (lit< tt))) refl
instruction-back (ops.Const a) h = rw (signed32_back a (h 0 (Fixed []) (lit< tt))) refl
instruction-back (ops.Local a) h = rw (number_back a (h 0 (Fixed []) (lit< tt))) refl
instruction-back (ops.Set a) h = rw (number_back a (h 0 (Fixed []) (lit< tt))) refl
instruction-back (ops.BlockAddress a) h = rw (number_back a (h 0 (Fixed []) (lit< tt))) refl
instruction-back (ops.BlockOffset a) h = rw (number_back a (h 0 (Fixed []) (lit< tt))) refl
instruction-back (ops.Neg a) h = rw (place_back a (h 0 (Fixed []) (lit< tt))) refl
instruction-back (ops.Index a) h = rw (size_back a (h 0 (Fixed []) (lit< tt))) refl
instruction-back (ops.NonNull a) h = rw (place_back a (h 0 (Fixed []) (lit< tt))) refl
instruction-back (ops.In a b c d) h = rw (signed64_back a (h 0 (Fixed []) (lit< tt)), signed64_back b (h 1 (Fixed []) (lit< tt)), size_back c (h 2 (Fixed []) (lit< tt)), place_back d (h 3 (Fixed []) (lit< tt))) refl
instruction-back (ops.UpTo a b c d) h = rw (signed64_back a (h 0 (Fixed []) (lit< tt)), signed64_back b (h 1 (Fixed []) (lit< tt)), size_back c (h 2 (Fixed []) (lit< tt)), place_back d (h 3 (Fixed []) (lit< tt))) refl
instruction-back (ops.Term a b c) h = rw (signed64_back a (h 0 (Fixed []) (lit< tt)), size_back b (h 1 (Fixed []) (lit< tt)), place_back c (h 2 (Fixed []) (lit< tt))) refl
instruction-back (ops.Contain a b c d e f) h = rw (signed64_back a (h 0 (Fixed []) (lit< tt)), signed64_back b (h 1 (Fixed []) (lit< tt)), signed64_back c (h 2 (Fixed []) (lit< tt)), signed64_back d (h 3 (Fixed []) (lit< tt)), size_back e (h 4 (Fixed []) (lit< tt)), place_back f (h 5 (Fixed []) (lit< tt))) refl
instruction-back (ops.Lies a b c d e) h = rw (signed64_back a (h 0 (Fixed []) (lit< tt)), signed64_back b (h 1 (Fixed []) (lit< tt)), size_back c (h 2 (Fixed []) (lit< tt)), number_back d (h 3 (Fixed []) (lit< tt)), place_back e (h 4 (Fixed []) (lit< tt))) refl
instruction-back (ops.Range a b c) h = rw (number_back a (h 0 (Fixed []) (lit< tt)), number_back b (h 1 (Fixed []) (lit< tt)), place_back c (h 2 (Fixed []) (lit< tt))) refl
instruction-back (ops.Jump a) h = rw (number_back a (h 0 (Fixed []) (lit< tt))) refl
instruction-back (ops.JumpIfZero a) h = rw (number_back a (h 0 (Fixed []) (lit< tt))) refl
instruction-back (ops.Call a) h = rw (number_back a (h 0 (Fixed []) (lit< tt))) refl
instruction-back (ops.TaintedCall a b) h = rw (number_back a (h 0 (Fixed []) (lit< tt)), place_back b (h 1 (Fixed []) (lit< tt))) refl
instruction-back (ops.CallBack a) h = rw (number_back a (h 0 (Fixed []) (lit< tt))) refl
instruction-back (ops.Alloc a) h = rw (size_back a (h 0 (Fixed []) (lit< tt))) refl
instruction-back (ops.AllocTerminated a) h = rw (size_back a (h 0 (Fixed []) (lit< tt))) refl
instruction-back (ops.SandboxAlloc a) h = rw (size_back a (h 0 (Fixed []) (lit< tt))) refl
