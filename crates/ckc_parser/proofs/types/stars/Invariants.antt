use Rattle.std.proofs.Common.{ℕ, ◌+◌, ◌≤◌, List, length}
use Rattle.ckc_lexer.specs.declared.token.Token.{Token}
use Rattle.ckc_parser_grammar.specs.TypeGrammar.{SpellsStars}
use Rattle.ckc_parser.proofs.types.stars.Given as goal

-- what is left completes the whole
abbrev pub invariant-stars : goal.invariant-stars
invariant-stars l = ((n : ℕ) (rest : List Token) → SpellsStars l.tokens.now n rest → SpellsStars l.fn.tokens.now (l.count + n) rest) × (l.count + length l.tokens.now ≤ length l.fn.tokens.now)

abbrev pub decreases-stars : goal.decreases-stars
decreases-stars l = length l.tokens.now
