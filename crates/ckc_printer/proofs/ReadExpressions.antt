-- The signs of an expression are read as the expression.
use Rattle.std.proofs.Common.{◌≡◌, ℕ, Bool, true, false, List, [], ◌∷◌, ◌++◌, codes, refl, ◌∙◌}
use Rattle.ckc_text.specs.declared.place.Span.{Span}
use Rattle.ckc_lexer.specs.declared.token.Token.{Token}
use Rattle.ckc_lexer.specs.declared.keyword.Keyword.TheVariants as keywords
use Rattle.ckc_lexer.specs.declared.token.TokenKind.TheVariants as kinds
use Rattle.ckc_tree.specs.declared.identifier.Identifier.{Identifier}
use Rattle.ckc_tree.specs.declared.expr.UnaryOperator.{UnaryOperator}
use Rattle.ckc_tree.specs.declared.expr.BinaryOperator.{BinaryOperator}
use Rattle.ckc_tree.specs.declared.expr.CastWord.{CastWord}
use Rattle.ckc_tree.specs.declared.expr.MallocWord.{MallocWord}
use Rattle.ckc_tree.specs.declared.expr.CallocWord.{CallocWord}
use Rattle.ckc_tree.specs.Types.{TypeName}
use Rattle.ckc_tree.specs.Expressions.{Expression, Expressions, NoMore, Then, Number, Character, Text, Name, Call, SizeOf, Cast, BoundedCast, Malloc, Calloc, Index, Dot, Arrow, Unary, Binary, Bounds, Count, ByteCount, Unknown, Range}
use Rattle.ckc_tree.specs.Bare.{bare_expression, bare_expressions, bare_bounds}
use Rattle.ckc_parser_grammar.specs.Tokens.{join, identifier, open_paren, selector}
use Rattle.ckc_parser_grammar.specs.ExpressionGrammar as g
use Rattle.ckc_parser_grammar.specs.ExpressionGrammar.{SpellsBinary, SpellsUnary, SpellsSelectors, SpellsPrimary, SpellsCall, SpellsArguments, SpellsMoreArguments, SpellsBounds}
use Rattle.ckc_printer.specs.Pieces.{Sign, One, around}
use Rattle.ckc_printer.specs.TypePieces.{name_sign, type_name_pieces, angled_pieces}
use Rattle.ckc_printer.specs.ExpressionPieces.{unary_kind, binary_sign, cast_kind, malloc_kind, calloc_kind, is_compound, is_binary, expression_pieces, arguments_pieces, more_pieces, bounds_pieces}
use Rattle.ckc_printer.specs.ReadingBack.{AreSigns, one}
use Rattle.ckc_printer.proofs.SignedTokens.{first_is, next_by_sign, Read, Somewhere, ended, part, Ends, paren, bracket, comma, is_other}
use Rattle.ckc_printer.proofs.ReadTypes.{read_type_name, read_angled}
use Rattle.ckc_printer.proofs.ReadOperators.{unary_word, cast_word, malloc_word, calloc_word, read_operator, no_paren, no_selector, operator_mark, no_operator, alone, between}

-- ---- what is said of the signs of an expression

-- an expression so far, with which selectors from here are read as a whole
abbrev pub Postfix : List Token → Expression → Span → List Token → Type 0
Postfix ts e o mid = (whole : Expression) (w : Span) (rest : List Token) → SpellsSelectors e o mid whole w rest → SpellsUnary ts whole w rest

-- they are read as a whole expression, as a base or an operand, and as a target
abbrev pub Alone : Expression → List Sign → Type 0
Alone e signs = (more : List Sign) (ts : List Token) → Ends more → AreSigns (signs ++ more) ts → Read bare_expression (Somewhere (SpellsBinary 10 ts)) e more

abbrev Operand : Expression → List Sign → Type 0
Operand e signs = (more : List Sign) (ts : List Token) → first_is open_paren more ≡ false → AreSigns (signs ++ more) ts → Read bare_expression (Somewhere (Postfix ts)) e more

abbrev pub Target : Expression → List Sign → Type 0
Target e signs = (more : List Sign) (ts : List Token) → first_is open_paren more ≡ false → first_is selector more ≡ false → AreSigns (signs ++ more) ts → Read bare_expression (Somewhere (SpellsUnary ts)) e more

-- all of this, with parentheses where the expression is compound or binary
pub record Reads (e : Expression) (signs : List Sign) (compound binary : Bool) : Type 0 where
  pub alone : Alone e signs
  pub operand : Operand e (around compound signs)
  pub target : Target e (around binary signs)

operand_target : (e : Expression) (signs : List Sign) → Operand e signs → Target e signs
operand_target e signs read more ts p s h =
    let x = read more ts p h in
    record { tree = x.tree; rest = x.rest; spelled = (x.spelled.0, x.spelled.1 _ _ _ (g.unselected (next_by_sign selector x.on ∙ s))); same = x.same; on = x.on }

target_alone : (e : Expression) (signs : List Sign) → Target e signs → Alone e signs
target_alone e signs read more ts end h =
    let x = read more ts (is_other open_paren refl refl refl refl end) (is_other selector refl refl refl refl end) h in
    record { tree = x.tree; rest = x.rest; spelled = (x.spelled.0, alone 10 (no_operator (is_other operator_mark refl refl refl refl end) x.on) x.spelled.1); same = x.same; on = x.on }

in_parentheses : (e : Expression) (signs : List Sign) → Alone e signs → Operand e (around true signs)
in_parentheses e signs read more ts p (one {s} {ts = us} b h) =
    let x = ended (read (One kinds.CloseParen ∷ more) us paren (part signs _ more h)) in
    record { tree = x.tree; rest = x.rest; spelled = (join s x.spelled.0, λ whole w rest d. g.postfix (g.parentheses x.spelled.1.1) d); same = x.same; on = x.on }

as_operand : (e : Expression) (signs : List Sign) → Operand e signs → Reads e signs false false
as_operand e signs read = record { alone = target_alone e signs (operand_target e signs read); operand = read; target = operand_target e signs read }

as_target : (e : Expression) (signs : List Sign) → Target e signs → Reads e signs true false
as_target e signs read = record { alone = target_alone e signs read; operand = in_parentheses e signs (target_alone e signs read); target = read }

as_whole : (e : Expression) (signs : List Sign) → Alone e signs → Reads e signs true true
as_whole e signs read = record { alone = read; operand = in_parentheses e signs read; target = operand_target e (around true signs) (in_parentheses e signs read) }

as_cast : (e : Expression) (signs : List Sign) → Operand e signs → Reads e signs true false
as_cast e signs read = as_target e signs (operand_target e signs read)

-- a primary
primary : {e : Expression} {more : List Sign} {ts : List Token} → Read bare_expression (Somewhere (SpellsPrimary ts)) e more → Read bare_expression (Somewhere (Postfix ts)) e more
primary x = record { tree = x.tree; rest = x.rest; spelled = (x.spelled.0, λ whole w rest d. g.postfix x.spelled.1 d); same = x.same; on = x.on }

-- ---- primaries without expressions in them

read_number : (n : ℕ) (span : Span) → Operand (Number n span) (One (kinds.Number n) ∷ [])
read_number n span more ts p (one {s} {ts = us} b h) = primary (record { tree = Number n s; rest = us; spelled = (s, g.number); same = refl; on = h })

read_character : (n : ℕ) (span : Span) → Operand (Character n span) (One (kinds.Character n) ∷ [])
read_character n span more ts p (one {s} {ts = us} b h) = primary (record { tree = Character n s; rest = us; spelled = (s, g.character); same = refl; on = h })

read_text : (x : List ℕ) (span : Span) → Operand (Text x span) (One (kinds.Text x) ∷ [])
read_text x span more ts p (one {s} {ts = us} b h) = primary (record { tree = Text x s; rest = us; spelled = (s, g.text); same = refl; on = h })

read_name : (name : Identifier) → Operand (Name name) (name_sign name ∷ [])
read_name name more ts p (one {s} {ts = us} b h) =
    primary (record { tree = Name (identifier name.name s); rest = us; spelled = (s, g.name (next_by_sign open_paren h ∙ p)); same = refl; on = h })

read_size_of : (type : TypeName) (span : Span) → Operand (SizeOf type span) (One (kinds.Keyword keywords.Sizeof) ∷ One kinds.OpenParen ∷ (type_name_pieces type ++ One kinds.CloseParen ∷ []))
read_size_of type span more ts p (one {s} b (one {ts = us} c h)) =
    let x = ended (read_type_name type (One kinds.CloseParen ∷ more) us refl (part (type_name_pieces type) _ more h)) in
    primary (record { tree = SizeOf x.tree (join s x.spelled.0); rest = x.rest; spelled = (join s x.spelled.0, g.size_of x.spelled.1); same = cc; on = x.on })

-- ---- forms by their parts, of which these are the signs

abbrev ArgumentsRead : Expressions → List Sign → Type 0
ArgumentsRead es signs = (more : List Sign) (ts : List Token) → AreSigns (signs ++ One kinds.CloseParen ∷ more) ts → Read bare_expressions (Somewhere (SpellsArguments ts)) es more

abbrev MoreRead : Expressions → List Sign → Type 0
MoreRead es signs = (more : List Sign) (ts : List Token) → AreSigns (signs ++ One kinds.CloseParen ∷ more) ts → Read bare_expressions (Somewhere (SpellsMoreArguments ts)) es more

abbrev BoundsRead : Bounds → List Sign → Type 0
BoundsRead b signs = (more : List Sign) (ts : List Token) → AreSigns (signs ++ more) ts → Read bare_bounds (Somewhere (SpellsBounds ts)) b more

abbrev CallRead : Expression → List Sign → Type 0
CallRead e signs = (more : List Sign) (ts : List Token) → AreSigns (signs ++ more) ts → Read bare_expression (Somewhere (SpellsCall ts)) e more

call_by : (callee : Identifier) (es : Expressions) (span : Span) (signs : List Sign) → ArgumentsRead es signs → CallRead (Call callee es span) (name_sign callee ∷ One kinds.OpenParen ∷ (signs ++ One kinds.CloseParen ∷ []))
call_by callee es span signs read more ts (one {s} b (one {ts = us} c h)) =
    let x = read more us (part signs _ more h) in
    record { tree = Call (identifier callee.name s) x.tree (join s x.spelled.0); rest = x.rest; spelled = (join s x.spelled.0, g.call x.spelled.1); same = cc; on = x.on }

as_call : (e : Expression) (signs : List Sign) → CallRead e signs → Reads e signs false false
as_call e signs read =
    as_operand e signs λ more ts p h. let x = read more ts h in primary (record { tree = x.tree; rest = x.rest; spelled = (x.spelled.0, g.called x.spelled.1); same = x.same; on = x.on })

cast_by : (word : CastWord) (type : TypeName) (e : Expression) (span : Span) (signs : List Sign) → Alone e signs → Operand (Cast word type e span) (One (cast_kind word) ∷ (angled_pieces type ++ One kinds.OpenParen ∷ (signs ++ One kinds.CloseParen ∷ [])))
cast_by word type e span signs read more ts p (one {s} {ts = us} b h) =
    let a = read_angled type ((signs ++ One kinds.CloseParen ∷ []) ++ more) us (part (angled_pieces type) _ more h) in
    let x = ended (read (One kinds.CloseParen ∷ more) a.rest paren (part signs _ more a.on)) in
    primary (record { tree = Cast word a.tree x.tree (join s x.spelled.0); rest = x.rest; spelled = (join s x.spelled.0, g.cast (cast_word word) a.spelled x.spelled.1.1); same = cc; on = x.on })

bounded_cast_by : (word : CastWord) (type : TypeName) (e : Expression) (bounds : Bounds) (span : Span) (signs limits : List Sign) → Alone e signs → BoundsRead bounds limits
    → Operand (BoundedCast word type e bounds span) (One (cast_kind word) ∷ (angled_pieces type ++ One kinds.OpenParen ∷ (signs ++ One kinds.Comma ∷ (limits ++ One kinds.CloseParen ∷ []))))
bounded_cast_by word type e bounds span signs limits read read_bounds more ts p (one {s} {ts = us} b h) =
    let a = read_angled type ((signs ++ One kinds.Comma ∷ (limits ++ One kinds.CloseParen ∷ [])) ++ more) us (part (angled_pieces type) _ more h) in
    let x = ended (read (One kinds.Comma ∷ ((limits ++ One kinds.CloseParen ∷ []) ++ more)) a.rest comma (part signs _ more a.on)) in
    let y = ended (read_bounds (One kinds.CloseParen ∷ more) x.rest (part limits _ more x.on)) in
    primary (record { tree = BoundedCast word a.tree x.tree y.tree (join s y.spelled.0); rest = y.rest; spelled = (join s y.spelled.0, g.bounded_cast (cast_word word) a.spelled x.spelled.1.1 y.spelled.1.1); same = cc; on = y.on })

malloc_by : (word : MallocWord) (type : TypeName) (e : Expression) (span : Span) (signs : List Sign) → Alone e signs → Operand (Malloc word type e span) (One (malloc_kind word) ∷ (angled_pieces type ++ One kinds.OpenParen ∷ (signs ++ One kinds.CloseParen ∷ [])))
malloc_by word type e span signs read more ts p (one {s} {ts = us} b h) =
    let a = read_angled type ((signs ++ One kinds.CloseParen ∷ []) ++ more) us (part (angled_pieces type) _ more h) in
    let x = ended (read (One kinds.CloseParen ∷ more) a.rest paren (part signs _ more a.on)) in
    primary (record { tree = Malloc word a.tree x.tree (join s x.spelled.0); rest = x.rest; spelled = (join s x.spelled.0, g.malloc (malloc_word word) a.spelled x.spelled.1.1); same = cc; on = x.on })

calloc_by : (word : CallocWord) (type : TypeName) (e f : Expression) (span : Span) (count size : List Sign) → Alone e count → Alone f size
    → Operand (Calloc word type e f span) (One (calloc_kind word) ∷ (angled_pieces type ++ One kinds.OpenParen ∷ (count ++ One kinds.Comma ∷ (size ++ One kinds.CloseParen ∷ []))))
calloc_by word type e f span count size read_count read_size more ts p (one {s} {ts = us} b h) =
    let a = read_angled type ((count ++ One kinds.Comma ∷ (size ++ One kinds.CloseParen ∷ [])) ++ more) us (part (angled_pieces type) _ more h) in
    let x = ended (read_count (One kinds.Comma ∷ ((size ++ One kinds.CloseParen ∷ []) ++ more)) a.rest comma (part count _ more a.on)) in
    let y = ended (read_size (One kinds.CloseParen ∷ more) x.rest paren (part size _ more x.on)) in
    primary (record { tree = Calloc word a.tree x.tree y.tree (join s y.spelled.0); rest = y.rest; spelled = (join s y.spelled.0, g.calloc (calloc_word word) a.spelled x.spelled.1.1 y.spelled.1.1); same = cc; on = y.on })

index_by : (e f : Expression) (span : Span) (base index : List Sign) → Operand e base → Alone f index → Operand (Index e f span) (base ++ One kinds.OpenBracket ∷ (index ++ One kinds.CloseBracket ∷ []))
index_by e f span base index read_base read_index more ts p h =
    let x = ended (read_base (One kinds.OpenBracket ∷ ((index ++ One kinds.CloseBracket ∷ []) ++ more)) ts refl (part base _ more h)) in
    let y = ended (read_index (One kinds.CloseBracket ∷ more) x.rest bracket (part index _ more x.on)) in
    let span = join x.spelled.1.0 y.spelled.0 in
    record { tree = Index x.tree y.tree span; rest = y.rest; spelled = (span, λ whole w rest d. x.spelled.1.1 whole w rest (g.index y.spelled.1.1 d)); same = cc; on = y.on }

dot_by : (e : Expression) (member : Identifier) (span : Span) (base : List Sign) → Operand e base → Operand (Dot e member span) (base ++ One kinds.Dot ∷ name_sign member ∷ [])
dot_by e member span base read more ts p h =
    let x = ended (ended (read (One kinds.Dot ∷ name_sign member ∷ more) ts refl (part base _ more h))) in
    let span = join x.spelled.1.1.0 x.spelled.0 in
    record { tree = Dot x.tree (identifier member.name x.spelled.0) span; rest = x.rest; spelled = (span, λ whole w rest d. x.spelled.1.1.1 whole w rest (g.dot d)); same = cc; on = x.on }

arrow_by : (e : Expression) (member : Identifier) (span : Span) (base : List Sign) → Operand e base → Operand (Arrow e member span) (base ++ One kinds.Arrow ∷ name_sign member ∷ [])
arrow_by e member span base read more ts p h =
    let x = ended (ended (read (One kinds.Arrow ∷ name_sign member ∷ more) ts refl (part base _ more h))) in
    let span = join x.spelled.1.1.0 x.spelled.0 in
    record { tree = Arrow x.tree (identifier member.name x.spelled.0) span; rest = x.rest; spelled = (span, λ whole w rest d. x.spelled.1.1.1 whole w rest (g.arrow d)); same = cc; on = x.on }

unary_by : (w : UnaryOperator) (e : Expression) (span : Span) (signs : List Sign) → Operand e signs → Target (Unary w e span) (One (unary_kind w) ∷ signs)
unary_by w e span signs read more ts p f (one {s} {ts = us} b h) =
    let x = operand_target e signs read more us p f h in
    record { tree = Unary w x.tree (join s x.spelled.0); rest = x.rest; spelled = (join s x.spelled.0, g.operator (unary_word w) x.spelled.1); same = cc; on = x.on }

binary_by : (w : BinaryOperator) (e f : Expression) (span : Span) (left right : List Sign) → Operand e left → Operand f right → Alone (Binary w e f span) (left ++ binary_sign w ∷ right)
binary_by w e f span left right read_left read_right more ts end h =
    let x = operand_target e left read_left (binary_sign w ∷ (right ++ more)) ts (no_paren w _) (no_selector w _) (part left _ more h) in
    let found = read_operator w (right ++ more) x.rest x.on in
    let y = operand_target f right read_right more found.rest (is_other open_paren refl refl refl refl end) (is_other selector refl refl refl refl end) found.on in
    let span = join x.spelled.0 y.spelled.0 in
    record { tree = Binary w x.tree y.tree span; rest = y.rest; spelled = (span, between x.spelled.1 found.found y.spelled.1 (no_operator (is_other operator_mark refl refl refl refl end) y.on)); same = cc; on = y.on }

-- ---- arguments and bounds

no_argument : ArgumentsRead NoMore []
no_argument more ts (one {s} {ts = us} b h) = record { tree = NoMore; rest = us; spelled = (s, g.no_argument); same = refl; on = h }

no_other : MoreRead NoMore []
no_other more ts (one {s} {ts = us} b h) = record { tree = NoMore; rest = us; spelled = (s, g.no_other); same = refl; on = h }

others_end : (es : Expressions) (more : List Sign) → Ends (more_pieces es ++ One kinds.CloseParen ∷ more)
others_end NoMore more = paren
others_end (Then first others) more = comma

argument_by : (e : Expression) (es : Expressions) (signs : List Sign) → Alone e signs → MoreRead es (more_pieces es) → ArgumentsRead (Then e es) (signs ++ more_pieces es)
argument_by e es signs read read_others more ts h =
    let x = read (more_pieces es ++ One kinds.CloseParen ∷ more) ts (others_end es more) (part signs _ _ h) in
    let y = read_others more x.rest x.on in
    record { tree = Then x.tree y.tree; rest = y.rest; spelled = (y.spelled.0, g.argument x.spelled.1 y.spelled.1); same = cc; on = y.on }

other_by : (e : Expression) (es : Expressions) (signs : List Sign) → Alone e signs → MoreRead es (more_pieces es) → MoreRead (Then e es) (One kinds.Comma ∷ (signs ++ more_pieces es))
other_by e es signs read read_others more ts (one {ts = us} b h) =
    let x = read (more_pieces es ++ One kinds.CloseParen ∷ more) us (others_end es more) (part signs _ _ h) in
    let y = read_others more x.rest x.on in
    record { tree = Then x.tree y.tree; rest = y.rest; spelled = (y.spelled.0, g.other x.spelled.1 y.spelled.1); same = cc; on = y.on }

count_by : (e : Expression) (span : Span) (signs : List Sign) → Alone e signs → BoundsRead (Count e span) (One (kinds.Name (codes "count")) ∷ One kinds.OpenParen ∷ (signs ++ One kinds.CloseParen ∷ []))
count_by e span signs read more ts (one {s} b (one {ts = us} c h)) =
    let x = ended (read (One kinds.CloseParen ∷ more) us paren (part signs _ more h)) in
    record { tree = Count x.tree (join s x.spelled.0); rest = x.rest; spelled = (join s x.spelled.0, g.count refl x.spelled.1.1); same = cc; on = x.on }

byte_count_by : (e : Expression) (span : Span) (signs : List Sign) → Alone e signs → BoundsRead (ByteCount e span) (One (kinds.Name (codes "byte_count")) ∷ One kinds.OpenParen ∷ (signs ++ One kinds.CloseParen ∷ []))
byte_count_by e span signs read more ts (one {s} b (one {ts = us} c h)) =
    let x = ended (read (One kinds.CloseParen ∷ more) us paren (part signs _ more h)) in
    record { tree = ByteCount x.tree (join s x.spelled.0); rest = x.rest; spelled = (join s x.spelled.0, g.byte_count refl x.spelled.1.1); same = cc; on = x.on }

read_unknown : (span : Span) → BoundsRead (Unknown span) (bounds_pieces (Unknown span))
read_unknown span more ts (one {s} b (one c (one d (one {s = t} {ts = us} e h)))) = record { tree = Unknown (join s t); rest = us; spelled = (join s t, g.unknown refl refl); same = refl; on = h }

range_by : (e f : Expression) (span : Span) (low high : List Sign) → Alone e low → Alone f high → BoundsRead (Range e f span) (One (kinds.Name (codes "bounds")) ∷ One kinds.OpenParen ∷ (low ++ One kinds.Comma ∷ (high ++ One kinds.CloseParen ∷ [])))
range_by e f span low high read_low read_high more ts (one {s} b (one {ts = us} c h)) =
    let x = ended (read_low (One kinds.Comma ∷ ((high ++ One kinds.CloseParen ∷ []) ++ more)) us comma (part low _ more h)) in
    let y = ended (read_high (One kinds.CloseParen ∷ more) x.rest paren (part high _ more x.on)) in
    record { tree = Range x.tree y.tree (join s y.spelled.0); rest = y.rest; spelled = (join s y.spelled.0, g.range refl x.spelled.1.1 y.spelled.1.1); same = cc; on = y.on }

-- ---- all expressions

mutual
  pub read_expression : (e : Expression) → Reads e (expression_pieces e) (is_compound e) (is_binary e)
  read_expression (Number value span) = as_operand _ _ (read_number value span)
  read_expression (Character value span) = as_operand _ _ (read_character value span)
  read_expression (Text bytes span) = as_operand _ _ (read_text bytes span)
  read_expression (Name name) = as_operand _ _ (read_name name)
  read_expression (Call callee arguments span) = as_call _ _ (call_by callee arguments span _ (read_arguments arguments))
  read_expression (SizeOf type span) = as_operand _ _ (read_size_of type span)
  read_expression (Cast word type operand span) = as_cast _ _ (cast_by word type operand span _ (read_expression operand).alone)
  read_expression (BoundedCast word type operand bounds span) = as_cast _ _ (bounded_cast_by word type operand bounds span _ _ (read_expression operand).alone (read_bounds bounds))
  read_expression (Malloc word type size span) = as_operand _ _ (malloc_by word type size span _ (read_expression size).alone)
  read_expression (Calloc word type count size span) = as_operand _ _ (calloc_by word type count size span _ _ (read_expression count).alone (read_expression size).alone)
  read_expression (Index base index span) = as_operand _ _ (index_by base index span _ _ (read_expression base).operand (read_expression index).alone)
  read_expression (Dot base member span) = as_operand _ _ (dot_by base member span _ (read_expression base).operand)
  read_expression (Arrow base member span) = as_operand _ _ (arrow_by base member span _ (read_expression base).operand)
  read_expression (Unary operator operand span) = as_target _ _ (unary_by operator operand span _ (read_expression operand).operand)
  read_expression (Binary operator left right span) = as_whole _ _ (binary_by operator left right span _ _ (read_expression left).operand (read_expression right).operand)

  read_arguments : (es : Expressions) → ArgumentsRead es (arguments_pieces es)
  read_arguments NoMore = no_argument
  read_arguments (Then first others) = argument_by first others _ (read_expression first).alone (read_more others)

  read_more : (es : Expressions) → MoreRead es (more_pieces es)
  read_more NoMore = no_other
  read_more (Then first others) = other_by first others _ (read_expression first).alone (read_more others)

  pub read_bounds : (b : Bounds) → BoundsRead b (bounds_pieces b)
  read_bounds (Count count span) = count_by count span _ (read_expression count).alone
  read_bounds (ByteCount count span) = byte_count_by count span _ (read_expression count).alone
  read_bounds (Unknown span) = read_unknown span
  read_bounds (Range low high span) = range_by low high span _ _ (read_expression low).alone (read_expression high).alone

-- a call
pub read_call : (callee : Identifier) (es : Expressions) (span : Span) → CallRead (Call callee es span) (expression_pieces (Call callee es span))
read_call callee es span = call_by callee es span _ (read_arguments es)
