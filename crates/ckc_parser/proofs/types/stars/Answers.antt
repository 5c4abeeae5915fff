use Rattle.std.proofs.Common.{◌≡◌, zero, suc, ◌+◌, length, arith, ap, subst}
use Rattle.ckc_parser_grammar.specs.TypeGrammar as grammar
use Rattle.ckc_parser_grammar.specs.TypeGrammar.{SpellsStars}
use Rattle.ckc_parser.proofs.types.stars.Goals as goal

pub stars-preserved : goal.stars-preserved
stars-preserved c = (
  λ n rest s.
      let moved : c.stars.count + suc n ≡ c.stars.count + 1 + n = omega arith in
      subst (λ k. SpellsStars c.args.tokens.now.now k rest) moved (c.stars.invariant.0 (suc n) rest (rw c.in-Ok.ensures (grammar.more s))),
  omega (arith, ap length c.in-Ok.ensures),
)

pub returns-clause-spelled : goal.returns-clause-spelled
returns-clause-spelled c =
    let counted : c.stars.count + zero ≡ c.stars.count = omega arith in
    subst (λ k. SpellsStars c.args.tokens.now.now k c.star.new.tokens.now) counted (c.stars.invariant.0 zero _ (rw c.in_default.ensures.left (grammar.none c.in_default.ensures.other)))
