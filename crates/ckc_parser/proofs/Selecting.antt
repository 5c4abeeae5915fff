-- Operands as they are read, and the indices and members behind them.
use Rattle.std.proofs.Common.{◌≡◌, ℕ, suc, ◌+◌, ◌<◌, Bool, true, false, List, ◌∷◌, Result, Ok, Err, refl, ap, arith}
use Rattle.ckc_text.specs.declared.place.Span.{Span}
use Rattle.ckc_lexer.specs.declared.token.Token.{Token}
use Rattle.ckc_lexer.specs.declared.token.TokenKind.TheVariants as kinds
use Rattle.ckc_tree.specs.Expressions.{Expression, Index, Dot, Arrow, expression}
use Rattle.ckc_tree.specs.Heights.{Reach, ◌beside◌, expression_reach}
use Rattle.ckc_parser.specs.declared.operand.Operand.{Operand}
use Rattle.ckc_parser_grammar.specs.declared.stuck.Stuck.{Stuck}
use Rattle.ckc_parser_grammar.specs.declared.terminal.Terminal.TheVariants as terminals
use Rattle.ckc_parser.specs.declared.expressions.Selector.{Selector}
use Rattle.ckc_parser.specs.declared.expressions.Selector.TheVariants as selectors
use Rattle.ckc_parser_grammar.specs.Tokens.{token, join, identifier, next_is, selector}
use Rattle.ckc_parser_grammar.specs.ExpressionGrammar as g
use Rattle.ckc_parser_grammar.specs.ExpressionGrammar.{SpellsBinary, SpellsPrimary}
use Rattle.ckc_parser_grammar.specs.Failures.{Failure, unexpected, IsLow}
use Rattle.ckc_parser_grammar.specs.StuckTypes.{name_token}
use Rattle.ckc_parser_grammar.specs.Answers.{Reads}
use Rattle.ckc_parser_grammar.specs.StuckExpressions as s
use Rattle.ckc_parser_grammar.specs.StuckExpressions.{StuckSelectors, StuckPrimary}
use Rattle.ckc_parser.specs.Readings.{member_word, member_of, Builds, SelectsOne, IsPrimary, FailsPrimary, in_primary}
use Rattle.ckc_parser.specs.Selectors.{selector_kind}
use Rattle.ckc_parser.specs.Endings.{StuckEnded, within, unended}
use Rattle.ckc_parser_grammar.proofs.Readings.{low_around}
use Rattle.ckc_parser_grammar.proofs.Paths.{beside_height}

pub height_is : (x : Operand) → x.reach.height ≡ (expression_reach (expression x.expr.value)).height
height_is x = ap (λ (r : Reach). r.height) x.exact

pub start_is : (x : Operand) → x.reach.start ≡ (expression_reach (expression x.expr.value)).start
start_is x = ap (λ (r : Reach). r.start) x.exact

pub room : (d : ℕ) (x : Operand) → d + x.reach.height < 200 → d + (expression_reach (expression x.expr.value)).height < 200
room d x less = omega (arith, height_is x)

pub dot_selects : {d : ℕ} {x : List ℕ} {o start end : Span} {rest : List Token} {e : Expression} → d + (expression_reach e).height < 200 → SelectsOne e o d (token kinds.Dot start ∷ token (kinds.Name x) end ∷ rest) (Dot e (identifier x end) (join o end)) (join o end) rest
dot_selects {d} {o} {e} less = record { selects = λ d. g.dot d; fails = λ d. s.dotted less d; low = low_around d o.from (expression_reach e) (omega arith) (omega arith) }

pub arrow_selects : {d : ℕ} {x : List ℕ} {o start end : Span} {rest : List Token} {e : Expression} → d + (expression_reach e).height < 200 → SelectsOne e o d (token kinds.Arrow start ∷ token (kinds.Name x) end ∷ rest) (Arrow e (identifier x end) (join o end)) (join o end) rest
arrow_selects {d} {o} {e} less = record { selects = λ d. g.arrow d; fails = λ d. s.pointed less d; low = low_around d o.from (expression_reach e) (omega arith) (omega arith) }

pub index_selects : {d : ℕ} {o p start end : Span} {ts rest : List Token} {e index : Expression} → d + (expression_reach e).height < 200 → SpellsBinary 10 ts index p (token kinds.CloseBracket end ∷ rest) → IsLow (suc d) (expression_reach index)
    → SelectsOne e o d (token kinds.OpenBracket start ∷ ts) (Index e index (join o end)) (join o end) rest
index_selects {d} {o} {e} {index} less inside low = record {
  selects = λ d. g.index inside d;
  fails = λ d. s.indexed less inside low d;
  low = low_around d o.from (expression_reach e beside expression_reach index) (omega arith) (omega (arith, (beside_height (expression_reach e) (expression_reach index)).2));
}

pub selects_none : {d : ℕ} {o : Span} {ts : List Token} {e : Expression} → IsLow d (expression_reach e) → SelectsOne e o d ts e o ts
selects_none low = record { selects = λ d. d; fails = λ d. d; low = low }

pub selects_more : {d : ℕ} {o p w : Span} {ts mid rest : List Token} {e longer longest : Expression} → SelectsOne e o d ts longer p mid → SelectsOne longer p d mid longest w rest → SelectsOne e o d ts longest w rest
selects_more first second = record { selects = λ d. first.selects (second.selects d); fails = λ d. first.fails (second.fails d); low = second.low }

-- the member behind a dot or an arrow
pub member_selects : {d : ℕ} {x : List ℕ} {o start end : Span} {rest : List Token} {e : Expression} (is_arrow : Bool) → d + (expression_reach e).height < 200
    → SelectsOne e o d (token (member_word is_arrow) start ∷ token (kinds.Name x) end ∷ rest) (member_of is_arrow e (identifier x end) (join o end)) (join o end) rest
member_selects true less = arrow_selects less
member_selects false less = dot_selects less

pub member_stuck : {d : ℕ} {o start : Span} {rest : List Token} {e : Expression} (is_arrow : Bool) → d + (expression_reach e).height < 200 → next_is name_token rest ≡ false → StuckSelectors e o d (token (member_word is_arrow) start ∷ rest) (unexpected rest)
member_stuck true less other = s.arrow less other
member_stuck false less other = s.dot less other

pub index_stuck : {d : ℕ} {o start : Span} {ts : List Token} {e : Expression} {f : Failure} → d + (expression_reach e).height < 200 → StuckEnded terminals.CloseBracket (suc d) ts f → StuckSelectors e o d (token kinds.OpenBracket start ∷ ts) f
index_stuck less (within stuck) = s.index less stuck
index_stuck less (unended spelled low other) = s.selectors_close less spelled low other

pub selector_is : (found : Selector) → selector (selector_kind found) ≡ true
selector_is selectors.Index = refl
selector_is selectors.Dot = refl
selector_is selectors.Arrow = refl

-- what was built is what was selected
pub selects_built : {d : ℕ} {o w : Span} {ts rest : List Token} {e longer : Expression} (r : Result Operand Stuck) → Builds longer w r → SelectsOne e o d ts longer w rest → Reads (λ x us. SelectsOne e o d ts (expression x.expr.value) x.outer us) (StuckSelectors e o d ts) r rest
selects_built (Ok x) built selects = rw (built.0, built.1) selects
selects_built (Err f) built selects = rw built s.selectors_no_room

-- what was built is the smallest expression that was read
pub primary_built : {o : Span} {ts rest : List Token} {e : Expression} (d : ℕ) (r : Result Operand Stuck) → Builds e o r → SpellsPrimary ts e o rest → IsLow d (expression_reach e) → Reads (λ x us. IsPrimary d ts (expression x.expr.value) x.outer us) (StuckPrimary d ts) r rest
primary_built d (Ok x) built spelled low = rw (built.0, built.1) (spelled, low)
primary_built d (Err f) built spelled low = rw built s.primary_no_room

-- a failure of a form that a word begins is one of the smallest expressions
pub primary_reads : (d : ℕ) (ts rest : List Token) (r : Result Operand Stuck) → Reads (λ x us. IsPrimary d ts (expression x.expr.value) x.outer us) (StuckPrimary d ts) r rest → Reads (λ x us. IsPrimary d ts (expression x.expr.value) x.outer us) (FailsPrimary d ts) r rest
primary_reads d ts rest (Ok found) read = read
primary_reads d ts rest (Err e) stuck = in_primary stuck
