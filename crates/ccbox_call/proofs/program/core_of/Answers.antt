use Rattle.std.proofs.Common.{refl, sym, ap, subst, inl, inr, arith}
use Rattle.act_recorder.specs.Diagnostics.{refused_text}
use Rattle.ccbox_call.specs.Answers.{refused}
use Rattle.ccbox_call.specs.Calls.{RefusedAnswer, no_memory}
use Rattle.ccbox_call.proofs.Giving.{line_gives}
use Rattle.ccbox_call.proofs.program.core_of.Goals as goal

pub returns-in-Err-Source : goal.returns-in-Err-Source
returns-in-Err-Source g c =
    let h = rw c.in-Err-Source.field-0-is at c.in-Err-Source.ensures in
    let f = c.in-Err-Source.fault in
    let is = ap (refused_text f.code) c.place_of_fault-place.ensures in
    λ misses faults. line_gives _ 1 (subst (λ t. RefusedAnswer c.args.src.now t 1) (sym is) (refused f h)) (refl, inr (inr (inl refl), refl)) (omega arith) c.give_refused.ensures

pub returns-in-Err-NoMemory : goal.returns-in-Err-NoMemory
returns-in-Err-NoMemory g c = λ misses faults. no_memory refl (omega arith) refl refl
