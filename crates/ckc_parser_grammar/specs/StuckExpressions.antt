-- Inside: where reading an expression or bounds fails, with so many nodes around it. One case for each part that can
-- fail: those before it are spelled, and no node so far is too deep.
use Rattle.std.specs.Prelude.{◌≡◌, ◌≤◌, ◌<◌, ◌+◌, ℕ, zero, suc, Bool, true, false, ◌&&◌, ◌||◌, ◌⊎◌, List, [], ◌∷◌, codes, Some}
use Rattle.std.specs.Option.{is_some}
use Rattle.std.specs.Str.{bytes_eq}
use Rattle.ckc_text.specs.declared.place.Span.{Span}
use Rattle.ckc_lexer.specs.declared.token.Token.{Token}
use Rattle.ckc_lexer.specs.declared.token.TokenKind.{TokenKind}
use Rattle.ckc_lexer.specs.declared.keyword.Keyword.TheVariants as keywords
use Rattle.ckc_lexer.specs.declared.token.TokenKind.TheVariants as kinds
use Rattle.ckc_tree.specs.declared.expr.UnaryOperator.{UnaryOperator}
use Rattle.ckc_tree.specs.declared.expr.BinaryOperator.{BinaryOperator}
use Rattle.ckc_tree.specs.declared.expr.CastWord.{CastWord}
use Rattle.ckc_tree.specs.declared.expr.MallocWord.{MallocWord}
use Rattle.ckc_tree.specs.declared.expr.CallocWord.{CallocWord}
use Rattle.ckc_tree.specs.Types.{TypeName}
use Rattle.ckc_tree.specs.Expressions.{Expression, Index, Dot, Arrow, Binary, Bounds}
use Rattle.ckc_tree.specs.Heights.{type_reach, expression_reach, bounds_reach}
use Rattle.ckc_parser_grammar.specs.Tokens as words
use Rattle.ckc_parser_grammar.specs.Tokens.{token, join, identifier, unary_operator_of, cast_word_of, malloc_word_of, calloc_word_of, operator_at, level}
use Rattle.ckc_parser_grammar.specs.Tokens.{next_is, open_paren, selector}
use Rattle.ckc_parser_grammar.specs.TypeGrammar.{SpellsTypeName, SpellsAngled}
use Rattle.ckc_parser_grammar.specs.ExpressionGrammar.{SpellsBinary, SpellsPrimary, SpellsBounds}
use Rattle.ckc_parser_grammar.specs.Failures.{Failure, unexpected, too_deep, no_memory, IsLow}
use Rattle.ckc_parser_grammar.specs.StuckTypes.{StuckTypeName, StuckAngled, name_token}

-- the first token of an expression that is no operator and no parenthesis
abbrev pub primary_word : TokenKind → Bool
primary_word (kinds.Number n) = true
primary_word (kinds.Character n) = true
primary_word (kinds.Text x) = true
primary_word (kinds.Name x) = true
primary_word (kinds.Keyword keywords.Sizeof) = true
primary_word kind = is_some (cast_word_of kind) || (is_some (malloc_word_of kind) || is_some (calloc_word_of kind))

-- an operator or a parenthesis before an operand
abbrev pub prefix_word : TokenKind → Bool
prefix_word kind = open_paren kind || is_some (unary_operator_of kind)

-- the first token of an expression
abbrev pub unary_word : TokenKind → Bool
unary_word kind = prefix_word kind || primary_word kind

abbrev pub close_paren : TokenKind → Bool
close_paren kinds.CloseParen = true
close_paren _ = false

abbrev pub close_bracket : TokenKind → Bool
close_bracket kinds.CloseBracket = true
close_bracket _ = false

-- what ends an argument, or the operand of a cast
abbrev pub comma_or_paren : TokenKind → Bool
comma_or_paren kinds.Comma = true
comma_or_paren kinds.CloseParen = true
comma_or_paren _ = false

-- the words of bounds
abbrev pub bounds_word : TokenKind → Bool
bounds_word (kinds.Name x) = bytes_eq x (codes "count") || (bytes_eq x (codes "byte_count") || bytes_eq x (codes "bounds"))
bounds_word _ = false

abbrev pub IsCountWord : List ℕ → Type 0
IsCountWord x = (x ≡ codes "count") ⊎ (x ≡ codes "byte_count")

abbrev pub unknown_word : TokenKind → Bool
unknown_word (kinds.Name x) = bytes_eq x (codes "unknown")
unknown_word _ = false

-- the word `unknown` and a parenthesis
abbrev pub is_unknown : List Token → Bool
is_unknown [] = false
is_unknown (t ∷ ts) = unknown_word t.kind && next_is close_paren ts

-- what goes on behind a name that is an expression before a comma
abbrev pub after_name : TokenKind → Bool
after_name kinds.Comma = true
after_name kinds.OpenParen = true
after_name kinds.OpenBracket = true
after_name kinds.Dot = true
after_name kinds.Arrow = true
after_name _ = false

abbrev pub goes_on : List Token → Bool
goes_on ts = is_some (operator_at ts) || next_is after_name ts

mutual
  pub data StuckBinary : ℕ → ℕ → List Token → Failure → Type 0 where
    binary_no_room : {n d : ℕ} {ts : List Token} → StuckBinary n d ts no_memory
    operand : {d : ℕ} {ts : List Token} {f : Failure} → StuckUnary d ts f → StuckBinary zero d ts f
    first : {n d : ℕ} {ts : List Token} {f : Failure} → StuckBinary n d ts f → StuckBinary (suc n) d ts f
    operators : {n d : ℕ} {o : Span} {ts mid : List Token} {e : Expression} {f : Failure} → SpellsBinary n ts e o mid → IsLow d (expression_reach e)
        → StuckTail n e o d mid f → StuckBinary (suc n) d ts f

  -- behind an expression so far, where an operator of the level above n stands
  pub data StuckTail : ℕ → Expression → Span → ℕ → List Token → Failure → Type 0 where
    tail_deep : {n d : ℕ} {t : Token} {o : Span} {us rest : List Token} {left : Expression} {binary_operator : BinaryOperator}
        → operator_at (t ∷ rest) ≡ Some (binary_operator, us) → level binary_operator ≡ suc n → 200 ≤ d + (expression_reach left).height
        → StuckTail n left o d (t ∷ rest) (too_deep (expression_reach left).start)
    right : {n d : ℕ} {o : Span} {ts us : List Token} {left : Expression} {binary_operator : BinaryOperator} {f : Failure}
        → operator_at ts ≡ Some (binary_operator, us) → level binary_operator ≡ suc n → d + (expression_reach left).height < 200 → StuckBinary n (suc d) us f
        → StuckTail n left o d ts f
    further : {n d : ℕ} {p o : Span} {ts us mid : List Token} {left right : Expression} {binary_operator : BinaryOperator} {f : Failure}
        → operator_at ts ≡ Some (binary_operator, us) → level binary_operator ≡ suc n → d + (expression_reach left).height < 200
        → SpellsBinary n us right p mid → IsLow (suc d) (expression_reach right)
        → StuckTail n (Binary binary_operator left right (join o p)) (join o p) d mid f → StuckTail n left o d ts f

  pub data StuckUnary : ℕ → List Token → Failure → Type 0 where
    unary_no_room : {d : ℕ} {ts : List Token} → StuckUnary d ts no_memory
    no_expression : {d : ℕ} {ts : List Token} → next_is unary_word ts ≡ false → StuckUnary d ts (unexpected ts)
    deep_operator : {d : ℕ} {k : TokenKind} {s : Span} {rest : List Token} {unary_operator : UnaryOperator} → unary_operator_of k ≡ Some unary_operator
        → 200 ≤ d
        → StuckUnary d (token k s ∷ rest) (too_deep s.from)
    operator : {d : ℕ} {k : TokenKind} {s : Span} {ts : List Token} {unary_operator : UnaryOperator} {f : Failure} → unary_operator_of k ≡ Some unary_operator
        → d < 200
        → StuckUnary (suc d) ts f → StuckUnary d (token k s ∷ ts) f
    primary : {d : ℕ} {ts : List Token} {f : Failure} → StuckPrimary d ts f → StuckUnary d ts f
    selectors : {d : ℕ} {o : Span} {ts mid : List Token} {e : Expression} {f : Failure} → SpellsPrimary ts e o mid → IsLow d (expression_reach e)
        → StuckSelectors e o d mid f → StuckUnary d ts f

  -- behind an expression so far, where an index or a member stands
  pub data StuckSelectors : Expression → Span → ℕ → List Token → Failure → Type 0 where
    selectors_no_room : {d : ℕ} {o : Span} {ts : List Token} {e : Expression} → StuckSelectors e o d ts no_memory
    selectors_deep : {d : ℕ} {k : TokenKind} {s o : Span} {rest : List Token} {e : Expression} → selector k ≡ true → 200 ≤ d + (expression_reach e).height
        → StuckSelectors e o d (token k s ∷ rest) (too_deep (expression_reach e).start)
    index : {d : ℕ} {s o : Span} {ts : List Token} {e : Expression} {f : Failure} → d + (expression_reach e).height < 200 → StuckBinary 10 (suc d) ts f
        → StuckSelectors e o d (token kinds.OpenBracket s ∷ ts) f
    selectors_close : {d : ℕ} {s p o : Span} {ts rest : List Token} {e index : Expression} → d + (expression_reach e).height < 200
        → SpellsBinary 10 ts index p rest → IsLow (suc d) (expression_reach index) → next_is close_bracket rest ≡ false
        → StuckSelectors e o d (token kinds.OpenBracket s ∷ ts) (unexpected rest)
    indexed : {d : ℕ} {s t p o : Span} {ts mid : List Token} {e index : Expression} {f : Failure} → d + (expression_reach e).height < 200
        → SpellsBinary 10 ts index p (token kinds.CloseBracket t ∷ mid) → IsLow (suc d) (expression_reach index)
        → StuckSelectors (Index e index (join o t)) (join o t) d mid f
        → StuckSelectors e o d (token kinds.OpenBracket s ∷ ts) f
    dot : {d : ℕ} {s o : Span} {rest : List Token} {e : Expression} → d + (expression_reach e).height < 200 → next_is name_token rest ≡ false
        → StuckSelectors e o d (token kinds.Dot s ∷ rest) (unexpected rest)
    dotted : {d : ℕ} {x : List ℕ} {s t o : Span} {mid : List Token} {e : Expression} {f : Failure} → d + (expression_reach e).height < 200
        → StuckSelectors (Dot e (identifier x t) (join o t)) (join o t) d mid f → StuckSelectors e o d (token kinds.Dot s ∷ token (kinds.Name x) t ∷ mid) f
    arrow : {d : ℕ} {s o : Span} {rest : List Token} {e : Expression} → d + (expression_reach e).height < 200 → next_is name_token rest ≡ false
        → StuckSelectors e o d (token kinds.Arrow s ∷ rest) (unexpected rest)
    pointed : {d : ℕ} {x : List ℕ} {s t o : Span} {mid : List Token} {e : Expression} {f : Failure} → d + (expression_reach e).height < 200
        → StuckSelectors (Arrow e (identifier x t) (join o t)) (join o t) d mid f → StuckSelectors e o d (token kinds.Arrow s ∷ token (kinds.Name x) t ∷ mid) f

  pub data StuckPrimary : ℕ → List Token → Failure → Type 0 where
    primary_no_room : {d : ℕ} {ts : List Token} → StuckPrimary d ts no_memory
    primary_deep : {d : ℕ} {k : TokenKind} {s : Span} {rest : List Token} → primary_word k ≡ true → 200 ≤ d
        → StuckPrimary d (token k s ∷ rest) (too_deep s.from)
    arguments : {d : ℕ} {x : List ℕ} {s p : Span} {ts : List Token} {f : Failure} → d < 200 → StuckArguments (suc d) ts f
        → StuckPrimary d (token (kinds.Name x) s ∷ token kinds.OpenParen p ∷ ts) f
    -- parentheses make no node
    inside : {d : ℕ} {s : Span} {ts : List Token} {f : Failure} → StuckBinary 10 d ts f → StuckPrimary d (token kinds.OpenParen s ∷ ts) f
    primary_close : {d : ℕ} {s o : Span} {ts rest : List Token} {e : Expression} → SpellsBinary 10 ts e o rest → IsLow d (expression_reach e)
        → next_is close_paren rest ≡ false → StuckPrimary d (token kinds.OpenParen s ∷ ts) (unexpected rest)
    size_of_open : {d : ℕ} {s : Span} {rest : List Token} → d < 200 → next_is open_paren rest ≡ false
        → StuckPrimary d (token (kinds.Keyword keywords.Sizeof) s ∷ rest) (unexpected rest)
    size_of_type : {d : ℕ} {s p : Span} {ts : List Token} {f : Failure} → d < 200 → StuckTypeName (suc d) ts f
        → StuckPrimary d (token (kinds.Keyword keywords.Sizeof) s ∷ token kinds.OpenParen p ∷ ts) f
    size_of_close : {d : ℕ} {s p : Span} {ts rest : List Token} {type : TypeName} → SpellsTypeName ts type rest → IsLow (suc d) (type_reach type.base)
        → next_is close_paren rest ≡ false → StuckPrimary d (token (kinds.Keyword keywords.Sizeof) s ∷ token kinds.OpenParen p ∷ ts) (unexpected rest)
    cast_type : {d : ℕ} {k : TokenKind} {s : Span} {ts : List Token} {cast : CastWord} {f : Failure} → cast_word_of k ≡ Some cast → d < 200
        → StuckAngled (suc d) ts f
        → StuckPrimary d (token k s ∷ ts) f
    cast_operand : {d : ℕ} {k : TokenKind} {s : Span} {ts us : List Token} {type : TypeName} {cast : CastWord} {f : Failure} → cast_word_of k ≡ Some cast
        → d < 200
        → SpellsAngled ts type us → IsLow (suc d) (type_reach type.base) → StuckBinary 10 (suc d) us f → StuckPrimary d (token k s ∷ ts) f
    cast_end : {d : ℕ} {k : TokenKind} {s o : Span} {ts us rest : List Token} {e : Expression} {type : TypeName} {cast : CastWord} → cast_word_of k ≡ Some cast
        → SpellsAngled ts type us → IsLow (suc d) (type_reach type.base) → SpellsBinary 10 us e o rest → IsLow (suc d) (expression_reach e)
        → next_is comma_or_paren rest ≡ false
        → StuckPrimary d (token k s ∷ ts) (unexpected rest)
    cast_bounds : {d : ℕ} {k : TokenKind} {s p o : Span} {ts us vs : List Token} {e : Expression} {type : TypeName} {cast : CastWord} {f : Failure}
        → cast_word_of k ≡ Some cast → d < 200 → SpellsAngled ts type us → IsLow (suc d) (type_reach type.base)
        → SpellsBinary 10 us e o (token kinds.Comma p ∷ vs)
        → IsLow (suc d) (expression_reach e) → StuckBounds (suc d) vs f
        → StuckPrimary d (token k s ∷ ts) f
    cast_close : {d : ℕ} {k : TokenKind} {s p o w : Span} {ts us vs rest : List Token} {e : Expression} {bounds : Bounds} {type : TypeName} {cast : CastWord}
        → cast_word_of k ≡ Some cast → SpellsAngled ts type us → IsLow (suc d) (type_reach type.base) → SpellsBinary 10 us e o (token kinds.Comma p ∷ vs)
        → IsLow (suc d) (expression_reach e)
        → SpellsBounds vs bounds w rest → IsLow (suc d) (bounds_reach bounds) → next_is close_paren rest ≡ false
        → StuckPrimary d (token k s ∷ ts) (unexpected rest)
    malloc_type : {d : ℕ} {k : TokenKind} {s : Span} {ts : List Token} {malloc_word : MallocWord} {f : Failure} → malloc_word_of k ≡ Some malloc_word → d < 200
        → StuckAngled (suc d) ts f → StuckPrimary d (token k s ∷ ts) f
    malloc_size : {d : ℕ} {k : TokenKind} {s : Span} {ts us : List Token} {type : TypeName} {malloc_word : MallocWord} {f : Failure}
        → malloc_word_of k ≡ Some malloc_word → d < 200 → SpellsAngled ts type us → IsLow (suc d) (type_reach type.base) → StuckBinary 10 (suc d) us f
        → StuckPrimary d (token k s ∷ ts) f
    malloc_close : {d : ℕ} {k : TokenKind} {s o : Span} {ts us rest : List Token} {size : Expression} {type : TypeName} {malloc_word : MallocWord}
        → malloc_word_of k ≡ Some malloc_word → SpellsAngled ts type us → IsLow (suc d) (type_reach type.base) → SpellsBinary 10 us size o rest
        → IsLow (suc d) (expression_reach size) → next_is close_paren rest ≡ false
        → StuckPrimary d (token k s ∷ ts) (unexpected rest)
    calloc_type : {d : ℕ} {k : TokenKind} {s : Span} {ts : List Token} {calloc_word : CallocWord} {f : Failure} → calloc_word_of k ≡ Some calloc_word → d < 200
        → StuckAngled (suc d) ts f → StuckPrimary d (token k s ∷ ts) f
    calloc_count : {d : ℕ} {k : TokenKind} {s : Span} {ts us : List Token} {type : TypeName} {calloc_word : CallocWord} {f : Failure}
        → calloc_word_of k ≡ Some calloc_word → d < 200 → SpellsAngled ts type us → IsLow (suc d) (type_reach type.base) → StuckBinary 10 (suc d) us f
        → StuckPrimary d (token k s ∷ ts) f
    calloc_comma : {d : ℕ} {k : TokenKind} {s o : Span} {ts us rest : List Token} {count : Expression} {type : TypeName} {calloc_word : CallocWord}
        → calloc_word_of k ≡ Some calloc_word → SpellsAngled ts type us → IsLow (suc d) (type_reach type.base) → SpellsBinary 10 us count o rest
        → IsLow (suc d) (expression_reach count) → next_is words.comma rest ≡ false
        → StuckPrimary d (token k s ∷ ts) (unexpected rest)
    calloc_size : {d : ℕ} {k : TokenKind} {s p o : Span} {ts us vs : List Token} {count : Expression} {type : TypeName} {calloc_word : CallocWord}
        {f : Failure} → calloc_word_of k ≡ Some calloc_word → d < 200 → SpellsAngled ts type us → IsLow (suc d) (type_reach type.base)
        → SpellsBinary 10 us count o (token kinds.Comma p ∷ vs) → IsLow (suc d) (expression_reach count)
        → StuckBinary 10 (suc d) vs f → StuckPrimary d (token k s ∷ ts) f
    calloc_close : {d : ℕ} {k : TokenKind} {s p o w : Span} {ts us vs rest : List Token} {size count : Expression} {type : TypeName} {calloc_word : CallocWord}
        → calloc_word_of k ≡ Some calloc_word → SpellsAngled ts type us → IsLow (suc d) (type_reach type.base)
        → SpellsBinary 10 us count o (token kinds.Comma p ∷ vs)
        → IsLow (suc d) (expression_reach count)
        → SpellsBinary 10 vs size w rest → IsLow (suc d) (expression_reach size) → next_is close_paren rest ≡ false
        → StuckPrimary d (token k s ∷ ts) (unexpected rest)

  -- the arguments of a call behind its parenthesis, with the nodes around them
  pub data StuckArguments : ℕ → List Token → Failure → Type 0 where
    arguments_no_room : {d : ℕ} {ts : List Token} → StuckArguments d ts no_memory
    argument : {d : ℕ} {ts : List Token} {f : Failure} → next_is close_paren ts ≡ false → StuckBinary 10 d ts f → StuckArguments d ts f
    others : {d : ℕ} {o : Span} {ts mid : List Token} {e : Expression} {f : Failure} → SpellsBinary 10 ts e o mid → IsLow d (expression_reach e)
        → StuckMoreArguments d mid f → StuckArguments d ts f

  pub data StuckMoreArguments : ℕ → List Token → Failure → Type 0 where
    more_no_room : {d : ℕ} {ts : List Token} → StuckMoreArguments d ts no_memory
    end : {d : ℕ} {ts : List Token} → next_is comma_or_paren ts ≡ false → StuckMoreArguments d ts (unexpected ts)
    other : {d : ℕ} {s : Span} {ts : List Token} {f : Failure} → StuckBinary 10 d ts f → StuckMoreArguments d (token kinds.Comma s ∷ ts) f
    still_others : {d : ℕ} {s o : Span} {ts mid : List Token} {e : Expression} {f : Failure} → SpellsBinary 10 ts e o mid → IsLow d (expression_reach e)
        → StuckMoreArguments d mid f → StuckMoreArguments d (token kinds.Comma s ∷ ts) f

  pub data StuckBounds : ℕ → List Token → Failure → Type 0 where
    bounds_no_room : {d : ℕ} {ts : List Token} → StuckBounds d ts no_memory
    no_bounds : {d : ℕ} {ts : List Token} → next_is bounds_word ts ≡ false → StuckBounds d ts (unexpected ts)
    opens : {d : ℕ} {k : TokenKind} {s : Span} {rest : List Token} → bounds_word k ≡ true → next_is open_paren rest ≡ false
        → StuckBounds d (token k s ∷ rest) (unexpected rest)
    count : {d : ℕ} {x : List ℕ} {s p : Span} {ts : List Token} {f : Failure} → IsCountWord x → StuckBinary 10 d ts f
        → StuckBounds d (token (kinds.Name x) s ∷ token kinds.OpenParen p ∷ ts) f
    count_close : {d : ℕ} {x : List ℕ} {s p o : Span} {ts rest : List Token} {e : Expression} → IsCountWord x → SpellsBinary 10 ts e o rest
        → IsLow d (expression_reach e) → next_is close_paren rest ≡ false
        → StuckBounds d (token (kinds.Name x) s ∷ token kinds.OpenParen p ∷ ts) (unexpected rest)
    low : {d : ℕ} {x : List ℕ} {s p : Span} {ts : List Token} {f : Failure} → x ≡ codes "bounds" → is_unknown ts ≡ false → d < 200 → StuckBinary 10 d ts f
        → StuckBounds d (token (kinds.Name x) s ∷ token kinds.OpenParen p ∷ ts) f
    low_in_full : {d : ℕ} {x : List ℕ} {s p : Span} {ts : List Token} {f : Failure} → x ≡ codes "bounds" → next_is unknown_word ts ≡ false
        → StuckBinary 10 d ts f → StuckBounds d (token (kinds.Name x) s ∷ token kinds.OpenParen p ∷ ts) f
    -- where no node may stand the word is an expression, and too deep, as soon as the token behind it shows that it is one
    unknown_deep : {d : ℕ} {x y : List ℕ} {s p q : Span} {t : Token} {rest : List Token} → x ≡ codes "bounds" → y ≡ codes "unknown" → 200 ≤ d
        → goes_on (t ∷ rest) ≡ true
        → StuckBounds d (token (kinds.Name x) s ∷ token kinds.OpenParen p ∷ token (kinds.Name y) q ∷ t ∷ rest) (too_deep q.from)
    unknown_end : {d : ℕ} {x y : List ℕ} {s p q : Span} {rest : List Token} → x ≡ codes "bounds" → y ≡ codes "unknown" → 200 ≤ d → goes_on rest ≡ false
        → next_is close_paren rest ≡ false
        → StuckBounds d (token (kinds.Name x) s ∷ token kinds.OpenParen p ∷ token (kinds.Name y) q ∷ rest) (unexpected rest)
    comma : {d : ℕ} {x : List ℕ} {s p o : Span} {ts rest : List Token} {low : Expression} → x ≡ codes "bounds" → is_unknown ts ≡ false
        → SpellsBinary 10 ts low o rest → IsLow d (expression_reach low) → next_is words.comma rest ≡ false
        → StuckBounds d (token (kinds.Name x) s ∷ token kinds.OpenParen p ∷ ts) (unexpected rest)
    high : {d : ℕ} {x : List ℕ} {s p q o : Span} {ts us : List Token} {low : Expression} {f : Failure} → x ≡ codes "bounds"
        → SpellsBinary 10 ts low o (token kinds.Comma q ∷ us) → IsLow d (expression_reach low) → StuckBinary 10 d us f
        → StuckBounds d (token (kinds.Name x) s ∷ token kinds.OpenParen p ∷ ts) f
    bounds_close : {d : ℕ} {x : List ℕ} {s p q o w : Span} {ts us rest : List Token} {low high : Expression} → x ≡ codes "bounds"
        → SpellsBinary 10 ts low o (token kinds.Comma q ∷ us) → IsLow d (expression_reach low) → SpellsBinary 10 us high w rest
        → IsLow d (expression_reach high) → next_is close_paren rest ≡ false
        → StuckBounds d (token (kinds.Name x) s ∷ token kinds.OpenParen p ∷ ts) (unexpected rest)

-- an expression with operators of all levels
abbrev pub StuckExpression : ℕ → List Token → Failure → Type 0
StuckExpression d ts f = StuckBinary 10 d ts f
