-- Inside: an expression and the mark behind it.
use Rattle.std.specs.Prelude.{◌≡◌, ℕ, false, List, ◌∷◌}
use Rattle.ckc_text.specs.declared.place.Span.{Span}
use Rattle.ckc_lexer.specs.declared.token.Token.{Token}
use Rattle.ckc_tree.specs.Expressions.{Expression, expression}
use Rattle.ckc_tree.specs.Heights.{expression_reach}
use Rattle.ckc_parser_grammar.specs.declared.terminal.Terminal.{Terminal}
use Rattle.ckc_parser.specs.declared.expressions.Ended.{Ended}
use Rattle.ckc_parser_grammar.specs.Tokens.{token, next_is}
use Rattle.ckc_parser_grammar.specs.ExpressionGrammar.{SpellsBinary}
use Rattle.ckc_parser_grammar.specs.Failures.{Failure, unexpected, IsLow}
use Rattle.ckc_parser_grammar.specs.StuckExpressions.{StuckBinary}
use Rattle.ckc_parser_grammar.specs.Terminals.{kind_of, is_terminal}

abbrev pub IsEnded : Terminal → ℕ → List Token → Ended → List Token → Type 0
IsEnded mark d ts found rest = SpellsBinary 10 ts (expression found.operand.expr.value) found.operand.outer (token (kind_of mark) found.end ∷ rest)
    × IsLow d (expression_reach (expression found.operand.expr.value))

pub data StuckEnded : Terminal → ℕ → List Token → Failure → Type 0 where
  within : {mark : Terminal} {d : ℕ} {ts : List Token} {f : Failure} → StuckBinary 10 d ts f → StuckEnded mark d ts f
  unended : {mark : Terminal} {d : ℕ} {o : Span} {ts rest : List Token} {e : Expression} → SpellsBinary 10 ts e o rest → IsLow d (expression_reach e)
      → next_is (is_terminal mark) rest ≡ false → StuckEnded mark d ts (unexpected rest)
