use Rattle.std.proofs.Common.{rules}
use Rattle.sandbox_actor_code.proofs.code_actor.CodeActor.perform.Goals as goal

pub returns-in-WrapAdd : goal.returns-in-WrapAdd
returns-in-WrapAdd c = search rules

pub returns-in-WrapShl : goal.returns-in-WrapShl
returns-in-WrapShl c = search rules

pub returns-in-WrapShr : goal.returns-in-WrapShr
returns-in-WrapShr c = search rules

pub returns-in-WrapDiv : goal.returns-in-WrapDiv
returns-in-WrapDiv c = search rules

pub returns-in-WrapRem : goal.returns-in-WrapRem
returns-in-WrapRem c = search rules

pub returns-in-Bitwise : goal.returns-in-Bitwise
returns-in-Bitwise c = search rules

pub returns-in-Not : goal.returns-in-Not
returns-in-Not c = search rules

pub returns-in-Compare : goal.returns-in-Compare
returns-in-Compare c = search rules

pub returns-in-UnsignedLess : goal.returns-in-UnsignedLess
returns-in-UnsignedLess c = search rules

pub returns-in-Zero : goal.returns-in-Zero
returns-in-Zero c = search rules

pub returns-in-Byte : goal.returns-in-Byte
returns-in-Byte c = search rules

pub returns-in-Index : goal.returns-in-Index
returns-in-Index c = search rules

pub returns-in-Load1 : goal.returns-in-Load1
returns-in-Load1 c = search rules

pub returns-in-Load4 : goal.returns-in-Load4
returns-in-Load4 c = search rules

pub returns-in-Store1 : goal.returns-in-Store1
returns-in-Store1 c = search rules

pub returns-in-Store4 : goal.returns-in-Store4
returns-in-Store4 c = search rules

pub returns-in-Jump : goal.returns-in-Jump
returns-in-Jump c = search rules

pub returns-in-JumpIfZero : goal.returns-in-JumpIfZero
returns-in-JumpIfZero c = search rules

pub returns-in-Call : goal.returns-in-Call
returns-in-Call c = search rules

pub returns-in-Return : goal.returns-in-Return
returns-in-Return c = search rules

pub returns-in-ReturnNothing : goal.returns-in-ReturnNothing
returns-in-ReturnNothing c = search rules

pub returns-in-BlockAddress : goal.returns-in-BlockAddress
returns-in-BlockAddress c = search rules
