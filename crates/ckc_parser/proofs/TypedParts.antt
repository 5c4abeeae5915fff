-- What stands behind the words of casts and allocations.
use Rattle.std.proofs.Common.{◌≡◌, ℕ, suc, ◌<◌, false, List, ◌∷◌, Some}
use Rattle.ckc_text.specs.declared.place.Span.{Span}
use Rattle.ckc_lexer.specs.declared.token.Token.{Token}
use Rattle.ckc_lexer.specs.declared.token.TokenKind.{TokenKind}
use Rattle.ckc_lexer.specs.declared.token.TokenKind.TheVariants as kinds
use Rattle.ckc_tree.specs.declared.expr.CastWord.{CastWord}
use Rattle.ckc_tree.specs.declared.expr.MallocWord.{MallocWord}
use Rattle.ckc_tree.specs.declared.expr.CallocWord.{CallocWord}
use Rattle.ckc_parser_grammar.specs.declared.terminal.Terminal.TheVariants as terminals
use Rattle.ckc_parser.specs.declared.primary.Typed.{Typed}
use Rattle.ckc_parser_grammar.specs.Tokens.{token, next_is, cast_word_of, malloc_word_of, calloc_word_of}
use Rattle.ckc_parser_grammar.specs.Failures.{Failure}
use Rattle.ckc_parser_grammar.specs.StuckExpressions as s
use Rattle.ckc_parser_grammar.specs.StuckExpressions.{close_paren, StuckPrimary}
use Rattle.ckc_parser.specs.Endings as endings
use Rattle.ckc_parser.specs.Endings.{StuckEnded, within}
use Rattle.ckc_parser.specs.Parts.{IsTyped, StuckTyped, no_type, no_operand, StuckLastBounds, no_comma, no_bounds, unended}
use Rattle.ckc_parser.proofs.BoundsForms.{no_comma_or_paren}

pub cast_stuck : {d : ℕ} {k : TokenKind} {word : CastWord} {start : Span} {ts : List Token} {f : Failure} → cast_word_of k ≡ Some word → d < 200 → StuckTyped (suc d) ts f → StuckPrimary d (token k start ∷ ts) f
cast_stuck is less (no_type stuck) = s.cast_type is less stuck
cast_stuck is less (no_operand type low stuck) = s.cast_operand is less type low stuck

pub malloc_stuck : {d : ℕ} {k : TokenKind} {word : MallocWord} {start : Span} {ts : List Token} {f : Failure} → malloc_word_of k ≡ Some word → d < 200 → StuckTyped (suc d) ts f → StuckPrimary d (token k start ∷ ts) f
malloc_stuck is less (no_type stuck) = s.malloc_type is less stuck
malloc_stuck is less (no_operand type low stuck) = s.malloc_size is less type low stuck

pub calloc_stuck : {d : ℕ} {k : TokenKind} {word : CallocWord} {start : Span} {ts : List Token} {f : Failure} → calloc_word_of k ≡ Some word → d < 200 → StuckTyped (suc d) ts f → StuckPrimary d (token k start ∷ ts) f
calloc_stuck is less (no_type stuck) = s.calloc_type is less stuck
calloc_stuck is less (no_operand type low stuck) = s.calloc_count is less type low stuck

-- behind the operand of a cast stand neither a parenthesis nor bounds
pub last_stuck : {d : ℕ} {k : TokenKind} {word : CastWord} {start : Span} {ts mid : List Token} {f : Failure} {found : Typed} → cast_word_of k ≡ Some word → d < 200 → IsTyped (suc d) ts found mid → next_is close_paren mid ≡ false → StuckLastBounds (suc d) mid f → StuckPrimary d (token k start ∷ ts) f
last_stuck is less parts closed (no_comma other) = s.cast_end is parts.type parts.type_low parts.operand parts.low (no_comma_or_paren _ other closed)
last_stuck is less parts closed (no_bounds stuck) = s.cast_bounds is less parts.type parts.type_low parts.operand parts.low stuck
last_stuck is less parts closed (unended spelled low other) = s.cast_close is parts.type parts.type_low parts.operand parts.low spelled low other

-- the size of an element isn't read
pub size_stuck : {d : ℕ} {k : TokenKind} {word : CallocWord} {start p : Span} {ts us : List Token} {f : Failure} {found : Typed} → calloc_word_of k ≡ Some word → d < 200 → IsTyped (suc d) ts found (token kinds.Comma p ∷ us) → StuckEnded terminals.CloseParen (suc d) us f → StuckPrimary d (token k start ∷ ts) f
size_stuck is less parts (within stuck) = s.calloc_size is less parts.type parts.type_low parts.operand parts.low stuck
size_stuck is less parts (endings.unended spelled low other) = s.calloc_close is parts.type parts.type_low parts.operand parts.low spelled low other
