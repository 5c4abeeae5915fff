-- Which tokens begin an expression or bounds, and the nodes that they have put.
use Rattle.std.specs.Prelude.{◌≡◌, ℕ, zero, suc, List, ◌∷◌, codes, Some}
use Rattle.ckc_text.specs.declared.place.Span.{Span}
use Rattle.ckc_lexer.specs.declared.token.Token.{Token}
use Rattle.ckc_lexer.specs.declared.token.TokenKind.{TokenKind}
use Rattle.ckc_lexer.specs.declared.keyword.Keyword.TheVariants as keywords
use Rattle.ckc_lexer.specs.declared.token.TokenKind.TheVariants as kinds
use Rattle.ckc_tree.specs.declared.expr.UnaryOperator.{UnaryOperator}
use Rattle.ckc_tree.specs.declared.expr.BinaryOperator.{BinaryOperator}
use Rattle.ckc_tree.specs.declared.expr.BinaryOperator.TheVariants.{ShiftRight}
use Rattle.ckc_tree.specs.declared.expr.CastWord.{CastWord}
use Rattle.ckc_tree.specs.declared.expr.MallocWord.{MallocWord}
use Rattle.ckc_tree.specs.declared.expr.CallocWord.{CallocWord}
use Rattle.ckc_tree.specs.Types.{TypeName}
use Rattle.ckc_tree.specs.Expressions.{Expression, Index, Dot, Arrow, Binary, Bounds}
use Rattle.ckc_tree.specs.Heights.{Reach, nowhere, node, around, ◌beside◌, type_reach, expression_reach, bounds_reach}
use Rattle.ckc_parser_grammar.specs.Tokens.{token, join, identifier, unary_operator_of, cast_word_of, malloc_word_of, calloc_word_of, operator_at, level}
use Rattle.ckc_parser_grammar.specs.TypeGrammar.{SpellsTypeName, SpellsAngled}
use Rattle.ckc_parser_grammar.specs.ExpressionGrammar.{SpellsBinary, SpellsPrimary, SpellsBounds}
use Rattle.ckc_parser_grammar.specs.TypeBeginnings.{BeginsTypeName, BeginsAngled}

mutual
  pub data BeginsBinary : ℕ → List Token → List Token → Reach → Type 0 where
    operand : {ts rest : List Token} {r : Reach} → BeginsUnary ts rest r → BeginsBinary zero ts rest r
    first : {n : ℕ} {ts rest : List Token} {r : Reach} → BeginsBinary n ts rest r → BeginsBinary (suc n) ts rest r
    operators : {n : ℕ} {o : Span} {ts mid rest : List Token} {e : Expression} {r : Reach} → SpellsBinary n ts e o mid → BeginsTail n e o mid rest r
        → BeginsBinary (suc n) ts rest r

  -- behind an expression so far. An operator makes it a left operand, and so deeper by one
  pub data BeginsTail : ℕ → Expression → Span → List Token → List Token → Reach → Type 0 where
    right : {n : ℕ} {o : Span} {ts us rest : List Token} {left : Expression} {binary_operator : BinaryOperator} {r : Reach}
        → operator_at ts ≡ Some (binary_operator, us) → level binary_operator ≡ suc n → BeginsBinary n us rest r
        → BeginsTail n left o ts rest (around o.from (expression_reach left beside r))
    -- the first mark of a right shift
    half : {n : ℕ} {s o : Span} {us rest : List Token} {left : Expression} → operator_at (token kinds.Greater s ∷ rest) ≡ Some (ShiftRight, us)
        → level ShiftRight ≡ suc n → BeginsTail n left o (token kinds.Greater s ∷ rest) rest (around o.from (expression_reach left))
    further : {n : ℕ} {p o : Span} {ts us mid rest : List Token} {left right : Expression} {binary_operator : BinaryOperator} {r : Reach}
        → operator_at ts ≡ Some (binary_operator, us) → level binary_operator ≡ suc n → SpellsBinary n us right p mid
        → BeginsTail n (Binary binary_operator left right (join o p)) (join o p) mid rest r → BeginsTail n left o ts rest r

  pub data BeginsUnary : List Token → List Token → Reach → Type 0 where
    operator : {k : TokenKind} {s : Span} {ts rest : List Token} {unary_operator : UnaryOperator} {r : Reach} → unary_operator_of k ≡ Some unary_operator
        → BeginsUnary ts rest r → BeginsUnary (token k s ∷ ts) rest (around s.from r)
    primary : {ts rest : List Token} {r : Reach} → BeginsPrimary ts rest r → BeginsUnary ts rest r
    selectors : {o : Span} {ts mid rest : List Token} {e : Expression} {r : Reach} → SpellsPrimary ts e o mid → BeginsSelectors e o mid rest r
        → BeginsUnary ts rest r

  -- behind an expression so far. An index or a member makes it a part, and so deeper by one
  pub data BeginsSelectors : Expression → Span → List Token → List Token → Reach → Type 0 where
    unselected : {o : Span} {ts : List Token} {e : Expression} → BeginsSelectors e o ts ts (expression_reach e)
    index : {s o : Span} {ts rest : List Token} {e : Expression} {r : Reach} → BeginsBinary 10 ts rest r
        → BeginsSelectors e o (token kinds.OpenBracket s ∷ ts) rest (around o.from (expression_reach e beside r))
    indexed : {s t p o : Span} {ts mid rest : List Token} {e index : Expression} {r : Reach} → SpellsBinary 10 ts index p (token kinds.CloseBracket t ∷ mid)
        → BeginsSelectors (Index e index (join o t)) (join o t) mid rest r → BeginsSelectors e o (token kinds.OpenBracket s ∷ ts) rest r
    dot : {s o : Span} {rest : List Token} {e : Expression} → BeginsSelectors e o (token kinds.Dot s ∷ rest) rest (around o.from (expression_reach e))
    dotted : {x : List ℕ} {s t o : Span} {mid rest : List Token} {e : Expression} {r : Reach}
        → BeginsSelectors (Dot e (identifier x t) (join o t)) (join o t) mid rest r
        → BeginsSelectors e o (token kinds.Dot s ∷ token (kinds.Name x) t ∷ mid) rest r
    arrow : {s o : Span} {rest : List Token} {e : Expression} → BeginsSelectors e o (token kinds.Arrow s ∷ rest) rest (around o.from (expression_reach e))
    pointed : {x : List ℕ} {s t o : Span} {mid rest : List Token} {e : Expression} {r : Reach}
        → BeginsSelectors (Arrow e (identifier x t) (join o t)) (join o t) mid rest r
        → BeginsSelectors e o (token kinds.Arrow s ∷ token (kinds.Name x) t ∷ mid) rest r

  pub data BeginsPrimary : List Token → List Token → Reach → Type 0 where
    nothing : {ts : List Token} → BeginsPrimary ts ts nowhere
    number : {n : ℕ} {s : Span} {rest : List Token} → BeginsPrimary (token (kinds.Number n) s ∷ rest) rest (node s.from)
    character : {n : ℕ} {s : Span} {rest : List Token} → BeginsPrimary (token (kinds.Character n) s ∷ rest) rest (node s.from)
    text : {x : List ℕ} {s : Span} {rest : List Token} → BeginsPrimary (token (kinds.Text x) s ∷ rest) rest (node s.from)
    name : {x : List ℕ} {s : Span} {rest : List Token} → BeginsPrimary (token (kinds.Name x) s ∷ rest) rest (node s.from)
    call : {ts rest : List Token} {r : Reach} → BeginsCall ts rest r → BeginsPrimary ts rest r
    inside : {s : Span} {ts rest : List Token} {r : Reach} → BeginsBinary 10 ts rest r → BeginsPrimary (token kinds.OpenParen s ∷ ts) rest r
    parentheses : {s t o : Span} {ts rest : List Token} {e : Expression} → SpellsBinary 10 ts e o (token kinds.CloseParen t ∷ rest)
        → BeginsPrimary (token kinds.OpenParen s ∷ ts) rest (expression_reach e)
    size_of_word : {s : Span} {rest : List Token} → BeginsPrimary (token (kinds.Keyword keywords.Sizeof) s ∷ rest) rest (node s.from)
    size_of_type : {s p : Span} {ts rest : List Token} {r : Reach} → BeginsTypeName ts rest r
        → BeginsPrimary (token (kinds.Keyword keywords.Sizeof) s ∷ token kinds.OpenParen p ∷ ts) rest (around s.from r)
    size_of : {s t p : Span} {ts rest : List Token} {type : TypeName} → SpellsTypeName ts type (token kinds.CloseParen t ∷ rest)
        → BeginsPrimary (token (kinds.Keyword keywords.Sizeof) s ∷ token kinds.OpenParen p ∷ ts) rest (around s.from (type_reach type.base))
    cast_type : {k : TokenKind} {s : Span} {ts rest : List Token} {cast : CastWord} {r : Reach} → cast_word_of k ≡ Some cast → BeginsAngled ts rest r
        → BeginsPrimary (token k s ∷ ts) rest (around s.from r)
    cast_operand : {k : TokenKind} {s : Span} {ts us rest : List Token} {type : TypeName} {cast : CastWord} {r : Reach} → cast_word_of k ≡ Some cast
        → SpellsAngled ts type us → BeginsBinary 10 us rest r → BeginsPrimary (token k s ∷ ts) rest (around s.from (type_reach type.base beside r))
    cast : {k : TokenKind} {s t o : Span} {ts us rest : List Token} {e : Expression} {type : TypeName} {cast : CastWord} → cast_word_of k ≡ Some cast
        → SpellsAngled ts type us → SpellsBinary 10 us e o (token kinds.CloseParen t ∷ rest)
        → BeginsPrimary (token k s ∷ ts) rest (around s.from (type_reach type.base beside expression_reach e))
    cast_bounds : {k : TokenKind} {s p o : Span} {ts us vs rest : List Token} {e : Expression} {type : TypeName} {cast : CastWord} {r : Reach}
        → cast_word_of k ≡ Some cast → SpellsAngled ts type us → SpellsBinary 10 us e o (token kinds.Comma p ∷ vs) → BeginsBounds vs rest r
        → BeginsPrimary (token k s ∷ ts) rest (around s.from (type_reach type.base beside expression_reach e beside r))
    bounded_cast : {k : TokenKind} {s t p o w : Span} {ts us vs rest : List Token} {e : Expression} {bounds : Bounds} {type : TypeName} {cast : CastWord}
        → cast_word_of k ≡ Some cast → SpellsAngled ts type us → SpellsBinary 10 us e o (token kinds.Comma p ∷ vs)
        → SpellsBounds vs bounds w (token kinds.CloseParen t ∷ rest) → BeginsPrimary (token k s
        ∷ ts) rest (around s.from (type_reach type.base beside expression_reach e beside bounds_reach bounds))
    malloc_type : {k : TokenKind} {s : Span} {ts rest : List Token} {malloc_word : MallocWord} {r : Reach} → malloc_word_of k ≡ Some malloc_word
        → BeginsAngled ts rest r → BeginsPrimary (token k s ∷ ts) rest (around s.from r)
    malloc_size : {k : TokenKind} {s : Span} {ts us rest : List Token} {type : TypeName} {malloc_word : MallocWord} {r : Reach}
        → malloc_word_of k ≡ Some malloc_word
        → SpellsAngled ts type us → BeginsBinary 10 us rest r → BeginsPrimary (token k s ∷ ts) rest (around s.from (type_reach type.base beside r))
    malloc : {k : TokenKind} {s t o : Span} {ts us rest : List Token} {size : Expression} {type : TypeName} {malloc_word : MallocWord}
        → malloc_word_of k ≡ Some malloc_word → SpellsAngled ts type us → SpellsBinary 10 us size o (token kinds.CloseParen t ∷ rest)
        → BeginsPrimary (token k s ∷ ts) rest (around s.from (type_reach type.base beside expression_reach size))
    calloc_type : {k : TokenKind} {s : Span} {ts rest : List Token} {calloc_word : CallocWord} {r : Reach} → calloc_word_of k ≡ Some calloc_word
        → BeginsAngled ts rest r → BeginsPrimary (token k s ∷ ts) rest (around s.from r)
    calloc_count : {k : TokenKind} {s : Span} {ts us rest : List Token} {type : TypeName} {calloc_word : CallocWord} {r : Reach}
        → calloc_word_of k ≡ Some calloc_word
        → SpellsAngled ts type us → BeginsBinary 10 us rest r → BeginsPrimary (token k s ∷ ts) rest (around s.from (type_reach type.base beside r))
    calloc_size : {k : TokenKind} {s p o : Span} {ts us vs rest : List Token} {count : Expression} {type : TypeName} {calloc_word : CallocWord} {r : Reach}
        → calloc_word_of k ≡ Some calloc_word → SpellsAngled ts type us → SpellsBinary 10 us count o (token kinds.Comma p ∷ vs) → BeginsBinary 10 vs rest r
        → BeginsPrimary (token k s ∷ ts) rest (around s.from (type_reach type.base beside expression_reach count beside r))
    calloc : {k : TokenKind} {s t p o w : Span} {ts us vs rest : List Token} {size count : Expression} {type : TypeName} {calloc_word : CallocWord}
        → calloc_word_of k ≡ Some calloc_word → SpellsAngled ts type us → SpellsBinary 10 us count o (token kinds.Comma p ∷ vs)
        → SpellsBinary 10 vs size w (token kinds.CloseParen t ∷ rest) → BeginsPrimary (token k s
        ∷ ts) rest (around s.from (type_reach type.base beside expression_reach count beside expression_reach size))

  pub data BeginsCall : List Token → List Token → Reach → Type 0 where
    callee : {x : List ℕ} {s : Span} {rest : List Token} → BeginsCall (token (kinds.Name x) s ∷ rest) rest (node s.from)
    arguments : {x : List ℕ} {s p : Span} {ts rest : List Token} {r : Reach} → BeginsArguments ts rest r
        → BeginsCall (token (kinds.Name x) s ∷ token kinds.OpenParen p ∷ ts) rest (around s.from r)

  pub data BeginsArguments : List Token → List Token → Reach → Type 0 where
    argument : {ts rest : List Token} {r : Reach} → BeginsBinary 10 ts rest r → BeginsArguments ts rest r
    no_argument : {t : Span} {rest : List Token} → BeginsArguments (token kinds.CloseParen t ∷ rest) rest nowhere
    others : {o : Span} {ts mid rest : List Token} {e : Expression} {r : Reach} → SpellsBinary 10 ts e o mid → BeginsMoreArguments mid rest r
        → BeginsArguments ts rest (expression_reach e beside r)

  pub data BeginsMoreArguments : List Token → List Token → Reach → Type 0 where
    no_other : {t : Span} {rest : List Token} → BeginsMoreArguments (token kinds.CloseParen t ∷ rest) rest nowhere
    other : {s : Span} {ts rest : List Token} {r : Reach} → BeginsBinary 10 ts rest r → BeginsMoreArguments (token kinds.Comma s ∷ ts) rest r
    still_others : {s o : Span} {ts mid rest : List Token} {e : Expression} {r : Reach} → SpellsBinary 10 ts e o mid → BeginsMoreArguments mid rest r
        → BeginsMoreArguments (token kinds.Comma s ∷ ts) rest (expression_reach e beside r)

  pub data BeginsBounds : List Token → List Token → Reach → Type 0 where
    no_bounds : {ts : List Token} → BeginsBounds ts ts nowhere
    count_word : {x : List ℕ} {s : Span} {rest : List Token} → x ≡ codes "count" → BeginsBounds (token (kinds.Name x) s ∷ rest) rest nowhere
    count_begun : {x : List ℕ} {s p : Span} {ts rest : List Token} {r : Reach} → x ≡ codes "count" → BeginsBinary 10 ts rest r
        → BeginsBounds (token (kinds.Name x) s ∷ token kinds.OpenParen p ∷ ts) rest r
    count : {x : List ℕ} {s t p o : Span} {ts rest : List Token} {e : Expression} → x ≡ codes "count"
        → SpellsBinary 10 ts e o (token kinds.CloseParen t ∷ rest) → BeginsBounds (token (kinds.Name x) s ∷ token kinds.OpenParen p
        ∷ ts) rest (expression_reach e)
    byte_count_word : {x : List ℕ} {s : Span} {rest : List Token} → x ≡ codes "byte_count" → BeginsBounds (token (kinds.Name x) s ∷ rest) rest nowhere
    byte_count_begun : {x : List ℕ} {s p : Span} {ts rest : List Token} {r : Reach} → x ≡ codes "byte_count" → BeginsBinary 10 ts rest r
        → BeginsBounds (token (kinds.Name x) s ∷ token kinds.OpenParen p ∷ ts) rest r
    byte_count : {x : List ℕ} {s t p o : Span} {ts rest : List Token} {e : Expression} → x ≡ codes "byte_count"
        → SpellsBinary 10 ts e o (token kinds.CloseParen t ∷ rest) → BeginsBounds (token (kinds.Name x) s ∷ token kinds.OpenParen p
        ∷ ts) rest (expression_reach e)
    bounds_word : {x : List ℕ} {s : Span} {rest : List Token} → x ≡ codes "bounds" → BeginsBounds (token (kinds.Name x) s ∷ rest) rest nowhere
    unknown_word : {x y : List ℕ} {s p q : Span} {rest : List Token} → x ≡ codes "bounds" → y ≡ codes "unknown"
        → BeginsBounds (token (kinds.Name x) s ∷ token kinds.OpenParen p ∷ token (kinds.Name y) q ∷ rest) rest nowhere
    unknown : {x y : List ℕ} {s t p q : Span} {rest : List Token} → x ≡ codes "bounds" → y ≡ codes "unknown"
        → BeginsBounds (token (kinds.Name x) s ∷ token kinds.OpenParen p ∷ token (kinds.Name y) q ∷ token kinds.CloseParen t ∷ rest) rest nowhere
    low : {x : List ℕ} {s p : Span} {ts rest : List Token} {r : Reach} → x ≡ codes "bounds" → BeginsBinary 10 ts rest r
        → BeginsBounds (token (kinds.Name x) s ∷ token kinds.OpenParen p ∷ ts) rest r
    high : {x : List ℕ} {s p q o : Span} {ts us rest : List Token} {low : Expression} {r : Reach} → x ≡ codes "bounds"
        → SpellsBinary 10 ts low o (token kinds.Comma q ∷ us) → BeginsBinary 10 us rest r
        → BeginsBounds (token (kinds.Name x) s ∷ token kinds.OpenParen p ∷ ts) rest (expression_reach low beside r)
    range : {x : List ℕ} {s t p q o w : Span} {ts us rest : List Token} {high low : Expression} → x ≡ codes "bounds"
        → SpellsBinary 10 ts low o (token kinds.Comma q ∷ us) → SpellsBinary 10 us high w (token kinds.CloseParen t ∷ rest)
        → BeginsBounds (token (kinds.Name x) s ∷ token kinds.OpenParen p ∷ ts) rest (expression_reach low beside expression_reach high)

-- the tokens begin an expression
abbrev pub BeginsExpression : List Token → List Token → Reach → Type 0
BeginsExpression ts rest r = BeginsBinary 10 ts rest r
