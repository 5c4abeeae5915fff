-- Inside: parts of casts and allocations.
use Rattle.std.specs.Prelude.{◌≡◌, ℕ, false, List, ◌∷◌}
use Rattle.ckc_text.specs.declared.place.Span.{Span}
use Rattle.ckc_lexer.specs.declared.token.Token.{Token}
use Rattle.ckc_lexer.specs.declared.token.TokenKind.TheVariants as kinds
use Rattle.ckc_tree.specs.Types.{TypeName, type_name}
use Rattle.ckc_tree.specs.Expressions.{Bounds, bounds, expression}
use Rattle.ckc_tree.specs.Heights.{type_reach, expression_reach, bounds_reach}
use Rattle.ckc_parser.specs.declared.primary.Typed.{Typed}
use Rattle.ckc_parser.specs.declared.bounds.ReadBounds.{ReadBounds}
use Rattle.ckc_parser_grammar.specs.Tokens.{token, next_is, comma}
use Rattle.ckc_parser_grammar.specs.TypeGrammar.{SpellsAngled}
use Rattle.ckc_parser_grammar.specs.ExpressionGrammar.{SpellsBinary, SpellsBounds}
use Rattle.ckc_parser_grammar.specs.Failures.{Failure, unexpected, IsLow}
use Rattle.ckc_parser_grammar.specs.StuckTypes.{StuckAngled}
use Rattle.ckc_parser_grammar.specs.StuckExpressions.{close_paren, StuckBinary, StuckBounds}

-- a type in angle brackets, and the expression behind the parenthesis
pub record IsTyped (d : ℕ) (ts : List Token) (found : Typed) (rest : List Token) : Type 0 where
  pub behind : List Token
  pub type : SpellsAngled ts (type_name found.read.type_name) behind
  pub type_low : IsLow d (type_reach (type_name found.read.type_name).base)
  pub operand : SpellsBinary 10 behind (expression found.operand.expr.value) found.operand.outer rest
  pub low : IsLow d (expression_reach (expression found.operand.expr.value))

pub data StuckTyped : ℕ → List Token → Failure → Type 0 where
  no_type : {d : ℕ} {ts : List Token} {f : Failure} → StuckAngled d ts f → StuckTyped d ts f
  no_operand : {d : ℕ} {ts us : List Token} {type : TypeName} {f : Failure} → SpellsAngled ts type us → IsLow d (type_reach type.base) → StuckBinary 10 d us f
      → StuckTyped d ts f

-- a comma, bounds, and a parenthesis with its span
pub record IsLastBounds (d : ℕ) (ts : List Token) (found : ReadBounds × Span) (rest : List Token) : Type 0 where
  pub comma : Span
  pub behind : List Token
  pub at : ts ≡ token kinds.Comma comma ∷ behind
  pub spelled : SpellsBounds behind (bounds found.0.text) found.0.span (token kinds.CloseParen found.1 ∷ rest)
  pub low : IsLow d (bounds_reach (bounds found.0.text))

pub data StuckLastBounds : ℕ → List Token → Failure → Type 0 where
  no_comma : {d : ℕ} {ts : List Token} → next_is comma ts ≡ false → StuckLastBounds d ts (unexpected ts)
  no_bounds : {d : ℕ} {p : Span} {us : List Token} {f : Failure} → StuckBounds d us f → StuckLastBounds d (token kinds.Comma p ∷ us) f
  unended : {d : ℕ} {p w : Span} {us rest : List Token} {written : Bounds} → SpellsBounds us written w rest → IsLow d (bounds_reach written)
      → next_is close_paren rest ≡ false → StuckLastBounds d (token kinds.Comma p ∷ us) (unexpected rest)
