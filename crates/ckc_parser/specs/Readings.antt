-- Inside: what the functions that read forms answer, in the code's types.
use Rattle.std.specs.Prelude.{◌≡◌, ◌≤◌, ℕ, Bool, true, false, List, [], ◌∷◌, codes, Option, Some, None, Result, Ok, Err}
use Rattle.std.specs.Borrow.{Bor}
use Rattle.ckc_text.specs.declared.place.Span.{Span}
use Rattle.ckc_lexer.specs.declared.token.Token.{Token}
use Rattle.ckc_lexer.specs.declared.token.TokenKind.{TokenKind}
use Rattle.ckc_lexer.specs.declared.token.TokenKind.TheVariants as kinds
use Rattle.ckc_tree.specs.Types.{TypeTree, TypeName}
use Rattle.ckc_tree.specs.declared.identifier.Identifier.{Identifier}
use Rattle.ckc_tree.specs.declared.expr.Expr.{Expr}
use Rattle.ckc_tree.specs.Expressions.{Expression, Expressions, NoMore, Then, Dot, Arrow, Bounds, Count, ByteCount, expression}
use Rattle.ckc_tree.specs.Heights.{type_reach, expression_reach, expressions_reach, bounds_reach}
use Rattle.ckc_parser.specs.declared.operand.Operand.{Operand}
use Rattle.ckc_parser_grammar.specs.TypeGrammar.{SpellsType, SpellsTypeName, SpellsAngled}
use Rattle.ckc_parser_grammar.specs.ExpressionGrammar.{SpellsBinary, SpellsUnary, SpellsSelectors, SpellsPrimary, SpellsArguments}
use Rattle.ckc_parser_grammar.specs.ExpressionGrammar.{SpellsMoreArguments, SpellsBounds}
use Rattle.ckc_parser_grammar.specs.declared.stuck.Stuck.{Stuck}
use Rattle.ckc_parser_grammar.specs.Failures.{Failure, unexpected, too_deep, IsLow}
use Rattle.ckc_parser_grammar.specs.Answers.{failure, OrNoMemory}
use Rattle.ckc_parser_grammar.specs.StuckExpressions.{primary_word, unknown_word, is_unknown, goes_on, StuckSelectors, StuckPrimary}
use Rattle.ckc_parser_grammar.specs.Tokens.{token, next_is}

-- the operand is this expression, with these bytes around it
abbrev pub IsBuilt : Expression → Span → Operand → Type 0
IsBuilt e o operand = (expression operand.expr.value ≡ e) × (operand.outer ≡ o)

-- what building an expression answers
abbrev pub Builds : Expression → Span → Result Operand Stuck → Type 0
Builds e o result = OrNoMemory (IsBuilt e o) result

-- the tokens spell this form before the rest, and with so many nodes around it no node of it is deeper than 200
abbrev pub IsType : ℕ → List Token → TypeTree → List Token → Type 0
IsType d ts type rest = SpellsType ts type rest × IsLow d (type_reach type)

abbrev pub IsTypeName : ℕ → List Token → TypeName → List Token → Type 0
IsTypeName d ts type rest = SpellsTypeName ts type rest × IsLow d (type_reach type.base)

abbrev pub IsAngled : ℕ → List Token → TypeName → List Token → Type 0
IsAngled d ts type rest = SpellsAngled ts type rest × IsLow d (type_reach type.base)

abbrev pub IsBinary : ℕ → ℕ → List Token → Expression → Span → List Token → Type 0
IsBinary n d ts e o rest = SpellsBinary n ts e o rest × IsLow d (expression_reach e)

abbrev pub IsUnary : ℕ → List Token → Expression → Span → List Token → Type 0
IsUnary d ts e o rest = SpellsUnary ts e o rest × IsLow d (expression_reach e)

abbrev pub IsPrimary : ℕ → List Token → Expression → Span → List Token → Type 0
IsPrimary d ts e o rest = SpellsPrimary ts e o rest × IsLow d (expression_reach e)

abbrev pub IsBounds : ℕ → List Token → Bounds → Span → List Token → Type 0
IsBounds d ts written o rest = SpellsBounds ts written o rest × IsLow d (bounds_reach written)

abbrev pub IsSelected : Expression → Span → ℕ → List Token → Expression → Span → List Token → Type 0
IsSelected e o d ts whole w rest = SpellsSelectors e o ts whole w rest × IsLow d (expression_reach whole)

-- what is left behind an index or a member completes what stood before it
pub record SelectsOne (e : Expression) (o : Span) (d : ℕ) (ts : List Token) (longer : Expression) (w : Span) (rest : List Token) : Type 0 where
  pub selects : {q : Span} {whole : Expression} {last : List Token} → SpellsSelectors longer w rest whole q last → SpellsSelectors e o ts whole q last
  pub fails : {f : Failure} → StuckSelectors longer w d rest f → StuckSelectors e o d ts f
  pub low : IsLow d (expression_reach longer)

-- the word before a member: an arrow, or a dot
abbrev pub member_word : Bool → TokenKind
member_word true = kinds.Arrow
member_word false = kinds.Dot

-- the member behind such a word
abbrev pub member_of : Bool → Expression → Identifier → Span → Expression
member_of true base member span = Arrow base member span
member_of false base member span = Dot base member span

-- why tokens behind operators and parentheses begin no expression
pub data FailsPrimary : ℕ → List Token → Failure → Type 0 where
  no_primary : {d : ℕ} {ts : List Token} → next_is primary_word ts ≡ false → FailsPrimary d ts (unexpected ts)
  in_primary : {d : ℕ} {ts : List Token} {f : Failure} → StuckPrimary d ts f → FailsPrimary d ts f

-- arguments, with these behind them
abbrev pub before : List Expr → Expressions → Expressions
before [] others = others
before (first ∷ rest) others = Then (expression first) (before rest others)

-- arguments of the code's type
abbrev pub listed : List Expr → Expressions
listed arguments = before arguments NoMore

abbrev pub IsArguments : ℕ → List Token → Expressions → Span → List Token → Type 0
IsArguments d ts arguments o rest = SpellsArguments ts arguments o rest × IsLow d (expressions_reach arguments)

-- all arguments are these and those that the tokens spell behind them
pub record IsMore (d : ℕ) (sofar : List Expr) (ts : List Token) (all : List Expr) (o : Span) (rest : List Token) : Type 0 where
  pub others : Expressions
  pub spelled : SpellsMoreArguments ts others o rest
  pub is : listed all ≡ before sofar others
  pub low : IsLow d (expressions_reach (listed all))

-- the word for a count of elements, or of bytes
abbrev pub count_word : Bool → List ℕ
count_word true = codes "count"
count_word false = codes "byte_count"

-- a count of elements, or of bytes
abbrev pub counted : Bool → Expression → Span → Bounds
counted true count span = Count count span
counted false count span = ByteCount count span

-- the word `unknown` and the parenthesis behind it
abbrev pub ReadsUnknown : List Token → Option (Span × Bor (List Token)) → Type 0
ReadsUnknown ts None = is_unknown ts ≡ false
ReadsUnknown ts (Some found) = (q : Span) × (ts ≡ token (kinds.Name (codes "unknown")) q ∷ token kinds.CloseParen found.0 ∷ found.1.now)

abbrev pub IsRefusal : Span → List Token → Bool → Failure → Type 0
IsRefusal q rest true f = f ≡ too_deep q.from
IsRefusal q rest false f = f ≡ unexpected rest

-- the word `unknown` where no node may stand: too deep, where it goes on as an expression
abbrev pub RefusesUnknown : ℕ → List Token → Result (Unit {0}) Stuck → List Token → Type 0
RefusesUnknown d ts (Ok done) rest = (rest ≡ ts) × (200 ≤ d → next_is unknown_word ts ≡ false)
RefusesUnknown d ts (Err e) rest =
    (q : Span) × (us : List Token) × (200 ≤ d) × (ts ≡ token (kinds.Name (codes "unknown")) q ∷ us) × IsRefusal q us (goes_on us) (failure e rest)
