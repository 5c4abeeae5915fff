use Rattle.std.proofs.Common.{◌≡◌, ap, ◌∙◌, sym, subst, neg_ℤ, pos, ◌-ℤ◌, FitsSigned, to_z, of_z, arith}
use Rattle.std.specs.Int.{w64}
use Rattle.std.proofs.lemmas.Int.{ints, to_z-of_z}
use Rattle.bounds_exprs.specs.Terms.{term_limit}
use Rattle.bounds_exprs.specs.Changes.{moved_by}
use Rattle.subsumption.specs.Graphs.{IsWithin}
use Rattle.bounds_flow.specs.Pointers.{moved_off}
use Rattle.bounds_flow.specs.Conditions.{IsSmall}
use Rattle.bounds_flow.proofs.effects.move_off.Goals as goal

pub returns-in-Some : goal.returns-in-Some
returns-in-Some c =
    let small : IsWithin term_limit c.in-Some.c = subst IsSmall c.in-Some.is c.requires in
    let low = small.low in let high = small.high in
    let fits : FitsSigned w64 c.in-Some.c = omega (arith, ints) in
    let less : FitsSigned w64 (pos 0 -ℤ c.in-Some.c) = omega (arith, ints) in
    let e : to_z w64 (of_z w64 (pos 0 -ℤ to_z w64 (of_z w64 c.in-Some.c))) ≡ neg_ℤ c.in-Some.c =
    ap (λ z. to_z w64 (of_z w64 (pos 0 -ℤ z))) (to_z-of_z w64 c.in-Some.c fits) ∙ (to_z-of_z w64 (pos 0 -ℤ c.in-Some.c) less ∙ omega (arith, ints)) in
    c.moved.ensures ∙ (ap (λ z. moved_by z c.args.b.now) e ∙ ap (λ o. moved_off o c.args.b.now) (sym c.in-Some.is))
