use Rattle.std.proofs.Common.{rules, refl}
use Rattle.std.specs.Prelude.{FitsSigned}
use Rattle.std.proofs.lemmas.Int.{to_z-of_z}
use mir.Syntax.{w64}
use Rattle.two_memory_machine.proofs.families.check_operands.Goals as goal

pub returns-in-UpTo : goal.returns-in-UpTo
returns-in-UpTo c =
    let low : FitsSigned w64 c.in-UpTo.low = search rules in
    let high : FitsSigned w64 c.in-UpTo.high = search rules in
    rw c.in-UpTo.is (refl, (simp to_z-of_z at c.check_up_to.ensures))

pub returns-in-Term : goal.returns-in-Term
returns-in-Term c =
    let high : FitsSigned w64 c.in-Term.high = search rules in
    rw c.in-Term.is (refl, (simp to_z-of_z at c.check_term.ensures))

pub returns-in-Contain : goal.returns-in-Contain
returns-in-Contain c =
    let old_low : FitsSigned w64 c.in-Contain.old_low = search rules in
    let old_high : FitsSigned w64 c.in-Contain.old_high = search rules in
    let new_low : FitsSigned w64 c.in-Contain.new_low = search rules in
    let new_high : FitsSigned w64 c.in-Contain.new_high = search rules in
    rw c.in-Contain.is (refl, (simp to_z-of_z at c.check_contain.ensures))

pub returns-in-Lies : goal.returns-in-Lies
returns-in-Lies c =
    let low : FitsSigned w64 c.in-Lies.low = search rules in
    let high : FitsSigned w64 c.in-Lies.high = search rules in
    rw c.in-Lies.is (refl, (simp to_z-of_z at c.check_lies.ensures))
