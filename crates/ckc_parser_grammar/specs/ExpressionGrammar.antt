-- The grammar of expressions and bounds: which tokens spell which expression. A family relates the tokens before a form,
-- the form, the bytes that it stands on with the parentheses around it, and the tokens after it. The span in the
-- expression is without the parentheses around it, and with those around its parts.
--
--     expr     = unary, and binary operators between them, which group to the left; those of a lower level bind tighter
--     unary    = ('*' | '&' | '-' | '!' | '~') unary | postfix
--     postfix  = primary ('[' expr ']' | '.' NAME | '->' NAME)*
--     primary  = NUMBER | CHAR | STRING | NAME | call | '(' expr ')' | 'sizeof' '(' type stars ')' | cast | alloc
--     call     = NAME '(' [expr (',' expr)*] ')'
--     cast     = ('_Dynamic_bounds_cast' | '_Assume_bounds_cast') '<' type stars '>' '(' expr [',' bounds] ')'
--     alloc    = ('malloc' | 't_malloc') '<' type stars '>' '(' expr ')'
--              | ('calloc' | 'nt_calloc') '<' type stars '>' '(' expr ',' expr ')'
--     bounds   = 'count' '(' expr ')' | 'byte_count' '(' expr ')' | 'bounds' '(' 'unknown' ')'
--              | 'bounds' '(' expr ',' expr ')'
use Rattle.std.specs.Prelude.{◌≡◌, ℕ, zero, suc, false, List, ◌∷◌, codes, Some}
use Rattle.ckc_text.specs.declared.place.Span.{Span}
use Rattle.ckc_lexer.specs.declared.token.Token.{Token}
use Rattle.ckc_lexer.specs.declared.token.TokenKind.{TokenKind}
use Rattle.ckc_lexer.specs.declared.keyword.Keyword.TheVariants as keywords
use Rattle.ckc_lexer.specs.declared.token.TokenKind.TheVariants as kinds
use Rattle.ckc_tree.specs.declared.expr.UnaryOperator.{UnaryOperator}
use Rattle.ckc_tree.specs.declared.expr.BinaryOperator.{BinaryOperator}
use Rattle.ckc_tree.specs.declared.expr.CastWord.{CastWord}
use Rattle.ckc_tree.specs.declared.expr.MallocWord.{MallocWord}
use Rattle.ckc_tree.specs.declared.expr.CallocWord.{CallocWord}
use Rattle.ckc_tree.specs.Types.{TypeName}
use Rattle.ckc_tree.specs.Expressions.{Expression, Expressions, NoMore, Then, Number, Character, Text, Name, Call, SizeOf, Cast, BoundedCast}
use Rattle.ckc_tree.specs.Expressions.{Malloc, Calloc, Index, Dot, Arrow, Unary, Binary, Bounds, Count, ByteCount, Unknown, Range}
use Rattle.ckc_parser_grammar.specs.Tokens.{token, join, identifier, unary_operator_of, cast_word_of, malloc_word_of, calloc_word_of, operator_at, level}
use Rattle.ckc_parser_grammar.specs.Tokens.{has_operator, next_is, open_paren, selector}
use Rattle.ckc_parser_grammar.specs.TypeGrammar.{SpellsTypeName, SpellsAngled}

mutual
  -- an expression whose operators outside parentheses are of this level and tighter ones; with level 0 it has none
  pub data SpellsBinary : ℕ → List Token → Expression → Span → List Token → Type 0 where
    operand : {o : Span} {ts rest : List Token} {e : Expression} → SpellsUnary ts e o rest → SpellsBinary zero ts e o rest
    operators : {n : ℕ} {o w : Span} {ts mid rest : List Token} {e whole : Expression} → SpellsBinary n ts e o mid → SpellsTail n e o mid whole w rest
        → SpellsBinary (suc n) ts whole w rest

  -- behind an expression so far: operators of the level above n with operands of level n, as many as stand here. Each
  -- takes all so far as its left operand
  pub data SpellsTail : ℕ → Expression → Span → List Token → Expression → Span → List Token → Type 0 where
    level_done : {n : ℕ} {o : Span} {rest : List Token} {e : Expression} → has_operator (suc n) rest ≡ false → SpellsTail n e o rest e o rest
    level_more : {n : ℕ} {p o w : Span} {ts us mid rest : List Token} {left right whole : Expression} {binary_operator : BinaryOperator}
        → operator_at ts ≡ Some (binary_operator, us) → level binary_operator ≡ suc n → SpellsBinary n us right p mid
        → SpellsTail n (Binary binary_operator left right (join o p)) (join o p) mid whole w rest → SpellsTail n left o ts whole w rest

  pub data SpellsUnary : List Token → Expression → Span → List Token → Type 0 where
    operator : {k : TokenKind} {s o : Span} {ts rest : List Token} {e : Expression} {unary_operator : UnaryOperator} → unary_operator_of k ≡ Some unary_operator
        → SpellsUnary ts e o rest → SpellsUnary (token k s ∷ ts) (Unary unary_operator e (join s o)) (join s o) rest
    postfix : {o w : Span} {ts mid rest : List Token} {e whole : Expression} → SpellsPrimary ts e o mid → SpellsSelectors e o mid whole w rest
        → SpellsUnary ts whole w rest

  -- behind an expression so far: indices and members, as many as stand here
  pub data SpellsSelectors : Expression → Span → List Token → Expression → Span → List Token → Type 0 where
    unselected : {o : Span} {rest : List Token} {e : Expression} → next_is selector rest ≡ false → SpellsSelectors e o rest e o rest
    index : {s t p o w : Span} {ts mid rest : List Token} {e whole index : Expression} → SpellsBinary 10 ts index p (token kinds.CloseBracket t ∷ mid)
        → SpellsSelectors (Index e index (join o t)) (join o t) mid whole w rest → SpellsSelectors e o (token kinds.OpenBracket s ∷ ts) whole w rest
    dot : {x : List ℕ} {s t o w : Span} {mid rest : List Token} {e whole : Expression}
        → SpellsSelectors (Dot e (identifier x t) (join o t)) (join o t) mid whole w rest
        → SpellsSelectors e o (token kinds.Dot s ∷ token (kinds.Name x) t ∷ mid) whole w rest
    arrow : {x : List ℕ} {s t o w : Span} {mid rest : List Token} {e whole : Expression}
        → SpellsSelectors (Arrow e (identifier x t) (join o t)) (join o t) mid whole w rest
        → SpellsSelectors e o (token kinds.Arrow s ∷ token (kinds.Name x) t ∷ mid) whole w rest

  -- a name before a parenthesis is a call
  pub data SpellsPrimary : List Token → Expression → Span → List Token → Type 0 where
    number : {n : ℕ} {s : Span} {rest : List Token} → SpellsPrimary (token (kinds.Number n) s ∷ rest) (Number n s) s rest
    character : {n : ℕ} {s : Span} {rest : List Token} → SpellsPrimary (token (kinds.Character n) s ∷ rest) (Character n s) s rest
    text : {x : List ℕ} {s : Span} {rest : List Token} → SpellsPrimary (token (kinds.Text x) s ∷ rest) (Text x s) s rest
    name : {x : List ℕ} {s : Span} {rest : List Token} → next_is open_paren rest ≡ false
        → SpellsPrimary (token (kinds.Name x) s ∷ rest) (Name (identifier x s)) s rest
    called : {o : Span} {ts rest : List Token} {e : Expression} → SpellsCall ts e o rest → SpellsPrimary ts e o rest
    parentheses : {s t o : Span} {ts rest : List Token} {e : Expression} → SpellsBinary 10 ts e o (token kinds.CloseParen t ∷ rest)
        → SpellsPrimary (token kinds.OpenParen s ∷ ts) e (join s t) rest
    size_of : {s t p : Span} {ts rest : List Token} {type : TypeName} → SpellsTypeName ts type (token kinds.CloseParen t ∷ rest)
        → SpellsPrimary (token (kinds.Keyword keywords.Sizeof) s ∷ token kinds.OpenParen p ∷ ts) (SizeOf type (join s t)) (join s t) rest
    cast : {k : TokenKind} {s t o : Span} {ts us rest : List Token} {e : Expression} {type : TypeName} {cast : CastWord} → cast_word_of k ≡ Some cast
        → SpellsAngled ts type us → SpellsBinary 10 us e o (token kinds.CloseParen t ∷ rest)
        → SpellsPrimary (token k s ∷ ts) (Cast cast type e (join s t)) (join s t) rest
    bounded_cast : {k : TokenKind} {s t p o w : Span} {ts us vs rest : List Token} {e : Expression} {bounds : Bounds} {type : TypeName} {cast : CastWord}
        → cast_word_of k ≡ Some cast → SpellsAngled ts type us → SpellsBinary 10 us e o (token kinds.Comma p ∷ vs)
        → SpellsBounds vs bounds w (token kinds.CloseParen t ∷ rest) → SpellsPrimary (token k s
        ∷ ts) (BoundedCast cast type e bounds (join s t)) (join s t) rest
    malloc : {k : TokenKind} {s t o : Span} {ts us rest : List Token} {e : Expression} {type : TypeName} {malloc_word : MallocWord}
        → malloc_word_of k ≡ Some malloc_word → SpellsAngled ts type us → SpellsBinary 10 us e o (token kinds.CloseParen t ∷ rest)
        → SpellsPrimary (token k s ∷ ts) (Malloc malloc_word type e (join s t)) (join s t) rest
    calloc : {k : TokenKind} {s t p o w : Span} {ts us vs rest : List Token} {size count : Expression} {type : TypeName} {calloc_word : CallocWord}
        → calloc_word_of k ≡ Some calloc_word → SpellsAngled ts type us → SpellsBinary 10 us count o (token kinds.Comma p ∷ vs)
        → SpellsBinary 10 vs size w (token kinds.CloseParen t ∷ rest) → SpellsPrimary (token k s
        ∷ ts) (Calloc calloc_word type count size (join s t)) (join s t) rest

  pub data SpellsCall : List Token → Expression → Span → List Token → Type 0 where
    call : {x : List ℕ} {s t p : Span} {ts rest : List Token} {arguments : Expressions} → SpellsArguments ts arguments t rest
        → SpellsCall (token (kinds.Name x) s ∷ token kinds.OpenParen p ∷ ts) (Call (identifier x s) arguments (join s t)) (join s t) rest

  -- the arguments of a call with the parenthesis behind them, whose span stands in place of theirs
  pub data SpellsArguments : List Token → Expressions → Span → List Token → Type 0 where
    no_argument : {t : Span} {rest : List Token} → SpellsArguments (token kinds.CloseParen t ∷ rest) NoMore t rest
    argument : {t o : Span} {ts mid rest : List Token} {e : Expression} {others : Expressions} → SpellsBinary 10 ts e o mid
        → SpellsMoreArguments mid others t rest → SpellsArguments ts (Then e others) t rest

  pub data SpellsMoreArguments : List Token → Expressions → Span → List Token → Type 0 where
    no_other : {t : Span} {rest : List Token} → SpellsMoreArguments (token kinds.CloseParen t ∷ rest) NoMore t rest
    other : {s t o : Span} {ts mid rest : List Token} {e : Expression} {others : Expressions} → SpellsBinary 10 ts e o mid
        → SpellsMoreArguments mid others t rest → SpellsMoreArguments (token kinds.Comma s ∷ ts) (Then e others) t rest

  pub data SpellsBounds : List Token → Bounds → Span → List Token → Type 0 where
    count : {x : List ℕ} {s t p o : Span} {ts rest : List Token} {e : Expression} → x ≡ codes "count"
        → SpellsBinary 10 ts e o (token kinds.CloseParen t ∷ rest) → SpellsBounds (token (kinds.Name x) s ∷ token kinds.OpenParen p
        ∷ ts) (Count e (join s t)) (join s t) rest
    byte_count : {x : List ℕ} {s t p o : Span} {ts rest : List Token} {e : Expression} → x ≡ codes "byte_count"
        → SpellsBinary 10 ts e o (token kinds.CloseParen t ∷ rest) → SpellsBounds (token (kinds.Name x) s ∷ token kinds.OpenParen p
        ∷ ts) (ByteCount e (join s t)) (join s t) rest
    unknown : {x y : List ℕ} {s t p q : Span} {rest : List Token} → x ≡ codes "bounds" → y ≡ codes "unknown"
        → SpellsBounds (token (kinds.Name x) s ∷ token kinds.OpenParen p ∷ token (kinds.Name y) q ∷ token kinds.CloseParen t
        ∷ rest) (Unknown (join s t)) (join s t) rest
    range : {x : List ℕ} {s t p q o w : Span} {ts us rest : List Token} {high low : Expression} → x ≡ codes "bounds"
        → SpellsBinary 10 ts low o (token kinds.Comma q ∷ us) → SpellsBinary 10 us high w (token kinds.CloseParen t ∷ rest)
        → SpellsBounds (token (kinds.Name x) s ∷ token kinds.OpenParen p ∷ ts) (Range low high (join s t)) (join s t) rest

-- an expression: operators of all levels
abbrev pub SpellsExpression : List Token → Expression → Span → List Token → Type 0
SpellsExpression ts e o rest = SpellsBinary 10 ts e o rest
