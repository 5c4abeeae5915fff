use Rattle.std.proofs.lemmas.Grind.{elements}
use Rattle.std.proofs.lemmas.Bool.Decides.{nat_tests}
use Rattle.std.proofs.Common.{rules, refl, arith}
use Rattle.std.specs.Prelude.{FitsSigned}
use Rattle.std.proofs.lemmas.Int.{to_z-of_z}
use mir.Syntax.{w64}
use Rattle.two_memory_machine.proofs.families.perform.Goals as goal

pub returns-in-In : goal.returns-in-In
returns-in-In c =
    let low : FitsSigned w64 c.in-In.low = search rules in
    let high : FitsSigned w64 c.in-In.high = search rules in
    rw c.in-In.is (refl, (simp to_z-of_z at c.check_in.ensures))

pub constant-requires-clause-next : goal.constant-requires-clause-next
constant-requires-clause-next c = grind (arith, nat_tests)

pub local-requires-clause-next : goal.local-requires-clause-next
local-requires-clause-next c = grind (arith, nat_tests)

pub jump-requires : goal.jump-requires
jump-requires c = search rules

pub non_null-requires-clause-next : goal.non_null-requires-clause-next
non_null-requires-clause-next c = grind (arith, nat_tests)

pub non_null-requires-clause-paced : goal.non_null-requires-clause-paced
non_null-requires-clause-paced c = search rules

pub check_in-requires : goal.check_in-requires
check_in-requires c = search rules

pub touch_load_4-requires : goal.touch_load_4-requires
touch_load_4-requires c = search rules

pub check_operands-requires-clause-family : goal.check_operands-requires-clause-family
check_operands-requires-clause-family c = search rules

pub returns-in-Set : goal.returns-in-Set
returns-in-Set c = search rules

pub returns-in-Discard : goal.returns-in-Discard
returns-in-Discard c = search rules

pub returns-in-Duplicate : goal.returns-in-Duplicate
returns-in-Duplicate c = search rules

pub returns-in-BlockAddress : goal.returns-in-BlockAddress
returns-in-BlockAddress c = search rules

pub returns-in-BlockOffset : goal.returns-in-BlockOffset
returns-in-BlockOffset c = search rules

pub returns-in-Jump : goal.returns-in-Jump
returns-in-Jump c = search rules

pub returns-in-Call : goal.returns-in-Call
returns-in-Call c = search rules

pub returns-in-TaintedCall : goal.returns-in-TaintedCall
returns-in-TaintedCall c = search rules

pub returns-in-CallBack : goal.returns-in-CallBack
returns-in-CallBack c = search rules

pub returns-in-Return : goal.returns-in-Return
returns-in-Return c = search rules

pub returns-in-ReturnNothing : goal.returns-in-ReturnNothing
returns-in-ReturnNothing c = search rules

pub returns-in-Tick : goal.returns-in-Tick
returns-in-Tick c = search rules

pub returns-in-Arithmetic : goal.returns-in-Arithmetic
returns-in-Arithmetic c = search rules

pub returns-in-Neg : goal.returns-in-Neg
returns-in-Neg c = search rules

pub returns-in-Index : goal.returns-in-Index
returns-in-Index c = search rules

pub returns-in-WrapAdd : goal.returns-in-WrapAdd
returns-in-WrapAdd c = search rules

pub returns-in-WrapSub : goal.returns-in-WrapSub
returns-in-WrapSub c = search rules

pub returns-in-WrapShl : goal.returns-in-WrapShl
returns-in-WrapShl c = search rules

pub returns-in-WrapShr : goal.returns-in-WrapShr
returns-in-WrapShr c = search rules

pub returns-in-Bitwise : goal.returns-in-Bitwise
returns-in-Bitwise c = search rules

pub returns-in-Not : goal.returns-in-Not
returns-in-Not c = search rules

pub returns-in-Compare : goal.returns-in-Compare
returns-in-Compare c = search rules

pub returns-in-UnsignedGreater : goal.returns-in-UnsignedGreater
returns-in-UnsignedGreater c = search rules

pub returns-in-UnsignedGreaterEqual : goal.returns-in-UnsignedGreaterEqual
returns-in-UnsignedGreaterEqual c = search rules

pub returns-in-Zero : goal.returns-in-Zero
returns-in-Zero c = search rules

pub returns-in-Byte : goal.returns-in-Byte
returns-in-Byte c = search rules

pub returns-in-Load1 : goal.returns-in-Load1
returns-in-Load1 c = search rules

pub returns-in-Load4 : goal.returns-in-Load4
returns-in-Load4 c = search rules

pub returns-in-Store1 : goal.returns-in-Store1
returns-in-Store1 c = search rules

pub returns-in-Store4 : goal.returns-in-Store4
returns-in-Store4 c = search rules

pub returns-in-TouchLoad1 : goal.returns-in-TouchLoad1
returns-in-TouchLoad1 c = search rules

pub returns-in-TouchLoad4 : goal.returns-in-TouchLoad4
returns-in-TouchLoad4 c = search rules

pub returns-in-TouchStore1 : goal.returns-in-TouchStore1
returns-in-TouchStore1 c = search rules

pub returns-in-TouchStore4 : goal.returns-in-TouchStore4
returns-in-TouchStore4 c = search rules

pub returns-in-Alloc : goal.returns-in-Alloc
returns-in-Alloc c = search rules

pub returns-in-AllocTerminated : goal.returns-in-AllocTerminated
returns-in-AllocTerminated c = search rules

pub returns-in-SandboxAlloc : goal.returns-in-SandboxAlloc
returns-in-SandboxAlloc c = search rules

pub returns-in-TextLength : goal.returns-in-TextLength
returns-in-TextLength c = search rules

pub returns-in_default : goal.returns-in_default
returns-in_default c = grind (arith, elements)

pub returns-in-WrapDiv : goal.returns-in-WrapDiv
returns-in-WrapDiv c = search rules
