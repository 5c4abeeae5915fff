use Rattle.std.proofs.lemmas.Bool.Decides.{nat_tests}
use Rattle.std.proofs.Common.{ap, sym, ◌∙◌, pos, arith}
use Rattle.std.specs.Prelude.{option_map}
use Rattle.std.specs.Int.{w32}
use Rattle.std.proofs.lemmas.Int.{to_z-of_z}
use Rattle.code_words.specs.declared.op.Op.TheVariants as ops
use Rattle.code_words_listing.specs.Lines.{Instruction}
use Rattle.code_words_listing.specs.ReadInstructions.{nowhere}
use Rattle.code_words_listing.proofs.instructions.with_operands.Goals as goal

pub returns-in_err-last_signed_32-in-Const : goal.returns-in_err-last_signed_32-in-Const
returns-in_err-last_signed_32-in-Const c = rw (c.from_residual.ensures, c.in-Const.is) (sym (c.last_signed_32.ensures.value (λ a. Instruction (ops.Const a)) ∙ ap (option_map (λ a. Instruction (ops.Const a))) c.in_err-last_signed_32-in-Const.was))

pub returns-in_ok-last_signed_32-in-Const : goal.returns-in_ok-last_signed_32-in-Const
returns-in_ok-last_signed_32-in-Const c =
    rw (c.in-Const.is, to_z-of_z w32 c.in_ok-last_signed_32-in-Const.field-0 c.in_ok-last_signed_32-in-Const.ensures.fits) (sym (c.last_signed_32.ensures.value (λ a. Instruction (ops.Const a)) ∙ ap (option_map (λ a. Instruction (ops.Const a))) c.in_ok-last_signed_32-in-Const.was))

pub returns-in_err-last_number-in-Local : goal.returns-in_err-last_number-in-Local
returns-in_err-last_number-in-Local c = rw (c.from_residual-in_err-last_number-in-Local.ensures, c.in-Local.is) (sym (c.last_number.ensures (λ a. Instruction (ops.Local a)) ∙ ap (option_map (λ a. Instruction (ops.Local a))) c.in_err-last_number-in-Local.was))

pub returns-in_ok-last_number-in-Local : goal.returns-in_ok-last_number-in-Local
returns-in_ok-last_number-in-Local c = rw c.in-Local.is (sym (c.last_number.ensures (λ a. Instruction (ops.Local a)) ∙ ap (option_map (λ a. Instruction (ops.Local a))) c.in_ok-last_number-in-Local.was))

pub returns-in_err-last_number-in-Set : goal.returns-in_err-last_number-in-Set
returns-in_err-last_number-in-Set c = rw (c.from_residual-in_err-last_number-in-Set.ensures, c.in-Set.is) (sym (c.last_number-in-Set.ensures (λ a. Instruction (ops.Set a)) ∙ ap (option_map (λ a. Instruction (ops.Set a))) c.in_err-last_number-in-Set.was))

pub returns-in_ok-last_number-in-Set : goal.returns-in_ok-last_number-in-Set
returns-in_ok-last_number-in-Set c = rw c.in-Set.is (sym (c.last_number-in-Set.ensures (λ a. Instruction (ops.Set a)) ∙ ap (option_map (λ a. Instruction (ops.Set a))) c.in_ok-last_number-in-Set.was))

pub returns-in_err-last_number-in-BlockAddress : goal.returns-in_err-last_number-in-BlockAddress
returns-in_err-last_number-in-BlockAddress c = rw (c.from_residual-in_err-last_number-in-BlockAddress.ensures, c.in-BlockAddress.is) (sym (c.last_number-in-BlockAddress.ensures (λ a. Instruction (ops.BlockAddress a)) ∙ ap (option_map (λ a. Instruction (ops.BlockAddress a))) c.in_err-last_number-in-BlockAddress.was))

pub returns-in_ok-last_number-in-BlockAddress : goal.returns-in_ok-last_number-in-BlockAddress
returns-in_ok-last_number-in-BlockAddress c = rw c.in-BlockAddress.is (sym (c.last_number-in-BlockAddress.ensures (λ a. Instruction (ops.BlockAddress a)) ∙ ap (option_map (λ a. Instruction (ops.BlockAddress a))) c.in_ok-last_number-in-BlockAddress.was))

pub returns-in_err-last_number-in-BlockOffset : goal.returns-in_err-last_number-in-BlockOffset
returns-in_err-last_number-in-BlockOffset c = rw (c.from_residual-in_err-last_number-in-BlockOffset.ensures, c.in-BlockOffset.is) (sym (c.last_number-in-BlockOffset.ensures (λ a. Instruction (ops.BlockOffset a)) ∙ ap (option_map (λ a. Instruction (ops.BlockOffset a))) c.in_err-last_number-in-BlockOffset.was))

pub returns-in_ok-last_number-in-BlockOffset : goal.returns-in_ok-last_number-in-BlockOffset
returns-in_ok-last_number-in-BlockOffset c = rw c.in-BlockOffset.is (sym (c.last_number-in-BlockOffset.ensures (λ a. Instruction (ops.BlockOffset a)) ∙ ap (option_map (λ a. Instruction (ops.BlockOffset a))) c.in_ok-last_number-in-BlockOffset.was))

pub returns-in_err-last_number-in-Jump : goal.returns-in_err-last_number-in-Jump
returns-in_err-last_number-in-Jump c = rw (c.from_residual-in_err-last_number-in-Jump.ensures, c.in-Jump.is) (sym (c.last_number-in-Jump.ensures (λ a. Instruction (ops.Jump a)) ∙ ap (option_map (λ a. Instruction (ops.Jump a))) c.in_err-last_number-in-Jump.was))

pub returns-in_ok-last_number-in-Jump : goal.returns-in_ok-last_number-in-Jump
returns-in_ok-last_number-in-Jump c = rw c.in-Jump.is (sym (c.last_number-in-Jump.ensures (λ a. Instruction (ops.Jump a)) ∙ ap (option_map (λ a. Instruction (ops.Jump a))) c.in_ok-last_number-in-Jump.was))

pub returns-in_err-last_number-in-JumpIfZero : goal.returns-in_err-last_number-in-JumpIfZero
returns-in_err-last_number-in-JumpIfZero c = rw (c.from_residual-in_err-last_number-in-JumpIfZero.ensures, c.in-JumpIfZero.is) (sym (c.last_number-in-JumpIfZero.ensures (λ a. Instruction (ops.JumpIfZero a)) ∙ ap (option_map (λ a. Instruction (ops.JumpIfZero a))) c.in_err-last_number-in-JumpIfZero.was))

pub returns-in_ok-last_number-in-JumpIfZero : goal.returns-in_ok-last_number-in-JumpIfZero
returns-in_ok-last_number-in-JumpIfZero c = rw c.in-JumpIfZero.is (sym (c.last_number-in-JumpIfZero.ensures (λ a. Instruction (ops.JumpIfZero a)) ∙ ap (option_map (λ a. Instruction (ops.JumpIfZero a))) c.in_ok-last_number-in-JumpIfZero.was))

pub returns-in_err-last_number-in-Call : goal.returns-in_err-last_number-in-Call
returns-in_err-last_number-in-Call c = rw (c.from_residual-in_err-last_number-in-Call.ensures, c.in-Call.is) (sym (c.last_number-in-Call.ensures (λ a. Instruction (ops.Call a)) ∙ ap (option_map (λ a. Instruction (ops.Call a))) c.in_err-last_number-in-Call.was))

pub returns-in_ok-last_number-in-Call : goal.returns-in_ok-last_number-in-Call
returns-in_ok-last_number-in-Call c = rw c.in-Call.is (sym (c.last_number-in-Call.ensures (λ a. Instruction (ops.Call a)) ∙ ap (option_map (λ a. Instruction (ops.Call a))) c.in_ok-last_number-in-Call.was))

pub returns-in_err-last_number-in-CallBack : goal.returns-in_err-last_number-in-CallBack
returns-in_err-last_number-in-CallBack c = rw (c.from_residual-in_err-last_number-in-CallBack.ensures, c.in-CallBack.is) (sym (c.last_number-in-CallBack.ensures (λ a. Instruction (ops.CallBack a)) ∙ ap (option_map (λ a. Instruction (ops.CallBack a))) c.in_err-last_number-in-CallBack.was))

pub returns-in_ok-last_number-in-CallBack : goal.returns-in_ok-last_number-in-CallBack
returns-in_ok-last_number-in-CallBack c = rw c.in-CallBack.is (sym (c.last_number-in-CallBack.ensures (λ a. Instruction (ops.CallBack a)) ∙ ap (option_map (λ a. Instruction (ops.CallBack a))) c.in_ok-last_number-in-CallBack.was))

pub returns-in_err-last_size-in-Index : goal.returns-in_err-last_size-in-Index
returns-in_err-last_size-in-Index c = rw (c.from_residual-in_err-last_size-in-Index.ensures, c.in-Index.is) (sym (c.last_size.ensures (λ a. Instruction (ops.Index a)) ∙ ap (option_map (λ a. Instruction (ops.Index a))) c.in_err-last_size-in-Index.was))

pub returns-in_ok-last_size-in-Index : goal.returns-in_ok-last_size-in-Index
returns-in_ok-last_size-in-Index c = rw c.in-Index.is (sym (c.last_size.ensures (λ a. Instruction (ops.Index a)) ∙ ap (option_map (λ a. Instruction (ops.Index a))) c.in_ok-last_size-in-Index.was))

pub returns-in_err-last_size-in-Alloc : goal.returns-in_err-last_size-in-Alloc
returns-in_err-last_size-in-Alloc c = rw (c.from_residual-in_err-last_size-in-Alloc.ensures, c.in-Alloc.is) (sym (c.last_size-in-Alloc.ensures (λ a. Instruction (ops.Alloc a)) ∙ ap (option_map (λ a. Instruction (ops.Alloc a))) c.in_err-last_size-in-Alloc.was))

pub returns-in_ok-last_size-in-Alloc : goal.returns-in_ok-last_size-in-Alloc
returns-in_ok-last_size-in-Alloc c = rw c.in-Alloc.is (sym (c.last_size-in-Alloc.ensures (λ a. Instruction (ops.Alloc a)) ∙ ap (option_map (λ a. Instruction (ops.Alloc a))) c.in_ok-last_size-in-Alloc.was))

pub returns-in_err-last_size-in-AllocTerminated : goal.returns-in_err-last_size-in-AllocTerminated
returns-in_err-last_size-in-AllocTerminated c = rw (c.from_residual-in_err-last_size-in-AllocTerminated.ensures, c.in-AllocTerminated.is) (sym (c.last_size-in-AllocTerminated.ensures (λ a. Instruction (ops.AllocTerminated a)) ∙ ap (option_map (λ a. Instruction (ops.AllocTerminated a))) c.in_err-last_size-in-AllocTerminated.was))

pub returns-in_ok-last_size-in-AllocTerminated : goal.returns-in_ok-last_size-in-AllocTerminated
returns-in_ok-last_size-in-AllocTerminated c = rw c.in-AllocTerminated.is (sym (c.last_size-in-AllocTerminated.ensures (λ a. Instruction (ops.AllocTerminated a)) ∙ ap (option_map (λ a. Instruction (ops.AllocTerminated a))) c.in_ok-last_size-in-AllocTerminated.was))

pub returns-in_err-last_size-in-SandboxAlloc : goal.returns-in_err-last_size-in-SandboxAlloc
returns-in_err-last_size-in-SandboxAlloc c = rw (c.from_residual-in_err-last_size-in-SandboxAlloc.ensures, c.in-SandboxAlloc.is) (sym (c.last_size-in-SandboxAlloc.ensures (λ a. Instruction (ops.SandboxAlloc a)) ∙ ap (option_map (λ a. Instruction (ops.SandboxAlloc a))) c.in_err-last_size-in-SandboxAlloc.was))

pub returns-in_ok-last_size-in-SandboxAlloc : goal.returns-in_ok-last_size-in-SandboxAlloc
returns-in_ok-last_size-in-SandboxAlloc c = rw c.in-SandboxAlloc.is (sym (c.last_size-in-SandboxAlloc.ensures (λ a. Instruction (ops.SandboxAlloc a)) ∙ ap (option_map (λ a. Instruction (ops.SandboxAlloc a))) c.in_ok-last_size-in-SandboxAlloc.was))

pub returns-in_err-last_place-in-Arithmetic : goal.returns-in_err-last_place-in-Arithmetic
returns-in_err-last_place-in-Arithmetic c = rw (c.from_residual-in_err-last_place-in-Arithmetic.ensures, c.in-Arithmetic.is) (sym (c.last_place.ensures (λ a. Instruction (ops.Arithmetic c.in-Arithmetic.operator a)) ∙ ap (option_map (λ a. Instruction (ops.Arithmetic c.in-Arithmetic.operator a))) c.in_err-last_place-in-Arithmetic.was))

pub returns-in_ok-last_place-in-Arithmetic : goal.returns-in_ok-last_place-in-Arithmetic
returns-in_ok-last_place-in-Arithmetic c = rw c.in-Arithmetic.is (sym (c.last_place.ensures (λ a. Instruction (ops.Arithmetic c.in-Arithmetic.operator a)) ∙ ap (option_map (λ a. Instruction (ops.Arithmetic c.in-Arithmetic.operator a))) c.in_ok-last_place-in-Arithmetic.was))

pub returns-in_err-last_place-in-Neg : goal.returns-in_err-last_place-in-Neg
returns-in_err-last_place-in-Neg c = rw (c.from_residual-in_err-last_place-in-Neg.ensures, c.in-Neg.is) (sym (c.last_place-in-Neg.ensures (λ a. Instruction (ops.Neg a)) ∙ ap (option_map (λ a. Instruction (ops.Neg a))) c.in_err-last_place-in-Neg.was))

pub returns-in_ok-last_place-in-Neg : goal.returns-in_ok-last_place-in-Neg
returns-in_ok-last_place-in-Neg c = rw c.in-Neg.is (sym (c.last_place-in-Neg.ensures (λ a. Instruction (ops.Neg a)) ∙ ap (option_map (λ a. Instruction (ops.Neg a))) c.in_ok-last_place-in-Neg.was))

pub returns-in_err-last_place-in-NonNull : goal.returns-in_err-last_place-in-NonNull
returns-in_err-last_place-in-NonNull c = rw (c.from_residual-in_err-last_place-in-NonNull.ensures, c.in-NonNull.is) (sym (c.last_place-in-NonNull.ensures (λ a. Instruction (ops.NonNull a)) ∙ ap (option_map (λ a. Instruction (ops.NonNull a))) c.in_err-last_place-in-NonNull.was))

pub returns-in_ok-last_place-in-NonNull : goal.returns-in_ok-last_place-in-NonNull
returns-in_ok-last_place-in-NonNull c = rw c.in-NonNull.is (sym (c.last_place-in-NonNull.ensures (λ a. Instruction (ops.NonNull a)) ∙ ap (option_map (λ a. Instruction (ops.NonNull a))) c.in_ok-last_place-in-NonNull.was))

pub returns-in-In : goal.returns-in-In
returns-in-In c = rw c.in-In.is (c.read_in.ensures (pos 0) (pos 0) 0 nowhere)

pub returns-in-UpTo : goal.returns-in-UpTo
returns-in-UpTo c = rw c.in-UpTo.is (c.read_up_to.ensures (pos 0) (pos 0) 0 nowhere)

pub returns-in-Term : goal.returns-in-Term
returns-in-Term c = rw c.in-Term.is (c.read_term.ensures (pos 0) 0 nowhere)

pub returns-in-Contain : goal.returns-in-Contain
returns-in-Contain c = rw c.in-Contain.is (c.read_contain.ensures (pos 0) (pos 0) (pos 0) (pos 0) 0 nowhere)

pub returns-in-Lies : goal.returns-in-Lies
returns-in-Lies c = rw c.in-Lies.is (c.read_lies.ensures (pos 0) (pos 0) 0 0 nowhere)

pub returns-in-Range : goal.returns-in-Range
returns-in-Range c = rw c.in-Range.is (c.read_range.ensures 0 0 nowhere)

pub returns-in-TaintedCall : goal.returns-in-TaintedCall
returns-in-TaintedCall c = rw c.in-TaintedCall.is (c.read_tainted_call.ensures 0 nowhere)

pub returns-in-Discard : goal.returns-in-Discard
returns-in-Discard c = grind (arith, nat_tests)
