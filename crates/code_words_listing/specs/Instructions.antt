-- The instructions of a listing: the word of each, and what stands behind it.
use Rattle.std.specs.Prelude.{ℕ, List, [], ◌∷◌, codes}
use Rattle.act_words.specs.declared.operator.ArithmeticOperator.{ArithmeticOperator}
use Rattle.act_words.specs.declared.operator.ArithmeticOperator.TheVariants as arithmetics
use Rattle.act_words.specs.declared.operator.BitwiseOperator.{BitwiseOperator}
use Rattle.act_words.specs.declared.operator.BitwiseOperator.TheVariants as bits
use Rattle.act_words.specs.declared.operator.Comparison.{Comparison}
use Rattle.act_words.specs.declared.operator.Comparison.TheVariants as comparisons
use Rattle.code_words.specs.declared.op.Op.{Op}
use Rattle.code_words.specs.declared.op.Op.TheVariants as ops
use Rattle.code_words_listing.specs.Fields.{Field, Number, Size, Signed32, Signed64, At}

abbrev pub arithmetic_word : ArithmeticOperator → List ℕ
arithmetic_word arithmetics.Add = codes "add"
arithmetic_word arithmetics.Subtract = codes "sub"
arithmetic_word arithmetics.Multiply = codes "mul"
arithmetic_word arithmetics.Divide = codes "div"
arithmetic_word arithmetics.Remainder = codes "rem"
arithmetic_word arithmetics.ShiftLeft = codes "shl"
arithmetic_word arithmetics.ShiftRight = codes "shr"

abbrev pub bitwise_word : BitwiseOperator → List ℕ
bitwise_word bits.And = codes "and"
bitwise_word bits.Or = codes "or"
bitwise_word bits.Xor = codes "xor"

abbrev pub comparison_word : Comparison → List ℕ
comparison_word comparisons.Equal = codes "eq"
comparison_word comparisons.NotEqual = codes "ne"
comparison_word comparisons.Less = codes "lt"
comparison_word comparisons.LessEqual = codes "le"
comparison_word comparisons.Greater = codes "gt"
comparison_word comparisons.GreaterEqual = codes "ge"

-- the word of an instruction
abbrev pub instruction_word : Op → List ℕ
instruction_word (ops.Const n) = codes "const"
instruction_word (ops.Local k) = codes "local"
instruction_word (ops.Set k) = codes "set"
instruction_word ops.Discard = codes "drop"
instruction_word ops.Duplicate = codes "dup"
instruction_word (ops.BlockAddress k) = codes "gaddr"
instruction_word (ops.BlockOffset k) = codes "saddr"
instruction_word (ops.Arithmetic operator place) = arithmetic_word operator
instruction_word (ops.Neg place) = codes "neg"
instruction_word ops.WrapAdd = codes "wadd"
instruction_word ops.WrapSub = codes "wsub"
instruction_word ops.WrapMul = codes "wmul"
instruction_word ops.WrapNeg = codes "wneg"
instruction_word ops.WrapShl = codes "wshl"
instruction_word ops.WrapShr = codes "wshr"
instruction_word ops.WrapDiv = codes "wdiv"
instruction_word ops.WrapRem = codes "wrem"
instruction_word (ops.Bitwise operator) = bitwise_word operator
instruction_word ops.Not = codes "not"
instruction_word (ops.Compare comparison) = comparison_word comparison
instruction_word ops.UnsignedLess = codes "ult"
instruction_word ops.UnsignedLessEqual = codes "ule"
instruction_word ops.UnsignedGreater = codes "ugt"
instruction_word ops.UnsignedGreaterEqual = codes "uge"
instruction_word ops.Zero = codes "zero"
instruction_word ops.Byte = codes "byte"
instruction_word (ops.Index size) = codes "index"
instruction_word (ops.NonNull place) = codes "nonnull"
instruction_word (ops.In low high size place) = codes "in"
instruction_word (ops.UpTo low high size place) = codes "upto"
instruction_word (ops.Term high size place) = codes "term"
instruction_word (ops.Contain low1 high1 low2 high2 size place) = codes "contain"
instruction_word (ops.Lies low high size more place) = codes "lies"
instruction_word (ops.Range offset len place) = codes "range"
instruction_word ops.Load1 = codes "ld1"
instruction_word ops.Load4 = codes "ld4"
instruction_word ops.Store1 = codes "st1"
instruction_word ops.Store4 = codes "st4"
instruction_word ops.TouchLoad1 = codes "tld1"
instruction_word ops.TouchLoad4 = codes "tld4"
instruction_word ops.TouchStore1 = codes "tst1"
instruction_word ops.TouchStore4 = codes "tst4"
instruction_word (ops.Jump target) = codes "jump"
instruction_word (ops.JumpIfZero target) = codes "jzero"
instruction_word (ops.Call k) = codes "call"
instruction_word (ops.TaintedCall k place) = codes "tcall"
instruction_word (ops.CallBack k) = codes "ccall"
instruction_word ops.Return = codes "ret"
instruction_word ops.ReturnNothing = codes "retv"
instruction_word ops.Tick = codes "tick"
instruction_word ops.NextInput = codes "next"
instruction_word ops.Print = codes "print"
instruction_word ops.PutByte = codes "putc"
instruction_word (ops.Alloc size) = codes "alloc"
instruction_word (ops.AllocTerminated size) = codes "ntalloc"
instruction_word (ops.SandboxAlloc size) = codes "salloc"
instruction_word ops.TextLength = codes "len"

-- what stands behind the word
abbrev pub operands : Op → List Field
operands (ops.Const n) = Signed32 n ∷ []
operands (ops.Local k) = Number k ∷ []
operands (ops.Set k) = Number k ∷ []
operands (ops.BlockAddress k) = Number k ∷ []
operands (ops.BlockOffset k) = Number k ∷ []
operands (ops.Arithmetic operator place) = At place ∷ []
operands (ops.Neg place) = At place ∷ []
operands (ops.Index size) = Size size ∷ []
operands (ops.NonNull place) = At place ∷ []
operands (ops.In low high size place) = Signed64 low ∷ Signed64 high ∷ Size size ∷ At place ∷ []
operands (ops.UpTo low high size place) = Signed64 low ∷ Signed64 high ∷ Size size ∷ At place ∷ []
operands (ops.Term high size place) = Signed64 high ∷ Size size ∷ At place ∷ []
operands (ops.Contain low1 high1 low2 high2 size place) = Signed64 low1 ∷ Signed64 high1 ∷ Signed64 low2 ∷ Signed64 high2 ∷ Size size ∷ At place ∷ []
operands (ops.Lies low high size more place) = Signed64 low ∷ Signed64 high ∷ Size size ∷ Number more ∷ At place ∷ []
operands (ops.Range offset len place) = Number offset ∷ Number len ∷ At place ∷ []
operands (ops.Jump target) = Number target ∷ []
operands (ops.JumpIfZero target) = Number target ∷ []
operands (ops.Call k) = Number k ∷ []
operands (ops.TaintedCall k place) = Number k ∷ At place ∷ []
operands (ops.CallBack k) = Number k ∷ []
operands (ops.Alloc size) = Size size ∷ []
operands (ops.AllocTerminated size) = Size size ∷ []
operands (ops.SandboxAlloc size) = Size size ∷ []
operands _ = []
