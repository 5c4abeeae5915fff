use Rattle.std.proofs.Common.{◌≡◌, ◌+◌, ◌∷◌, Some, true, drop, refl, sym, ap, ◌∙◌, arith}
use Rattle.std.specs.Prelude.{◌==◌, find}
use Rattle.std.proofs.lemmas.Bool.Decides.{nat_tests}
use Rattle.std.proofs.lemmas.List.{drop_more}
use Rattle.code_words.specs.Functions.{Func}
use Rattle.sandbox_actor_code.proofs.find.find_function.Goals as goal

pub returns-then-number-clause-found : goal.returns-then-number-clause-found
returns-then-number-clause-found c =
    let funs = c.args.funs.now in
    let k = c.loop-fun.fun-index in
    let f = c.fun-item.result in
    let split : drop k funs ≡ f ∷ drop (k + 1) funs = drop_more funs k f c.loop-fun-test.true ∙ ap (λ g. g ∷ drop (k + 1) funs) (sym c.fun-item.is) in
    let same : (f.number == c.args.number) ≡ true = grind (arith, nat_tests, c.number.ensures, c.if-number.true) in
    let found : find (λ (g : Func). g.number == c.args.number) (drop k funs) ≡ Some f = ap (find (λ (g : Func). g.number == c.args.number)) split ∙ rw same refl in
    sym found ∙ c.loop-fun.invariant
