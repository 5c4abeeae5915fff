-- Worked examples: tokens, and what they spell.
use Rattle.std.specs.Prelude.{ℕ, ◌+◌, List, [], ◌∷◌, codes, Some, None}
use Rattle.ckc_text.specs.declared.place.Span.{Span}
use Rattle.ckc_lexer.specs.declared.token.Token.{Token}
use Rattle.ckc_lexer.specs.declared.token.TokenKind.{TokenKind}
use Rattle.ckc_lexer.specs.declared.keyword.Keyword.TheVariants as keywords
use Rattle.ckc_lexer.specs.declared.token.TokenKind.TheVariants as kinds
use Rattle.ckc_tree.specs.declared.item.FunctionKind.TheVariants.{Trusted}
use Rattle.ckc_tree.specs.declared.expr.BinaryOperator.TheVariants.{Add, Subtract, Multiply, ShiftRight}
use Rattle.ckc_tree.specs.declared.type_form.PointerWord.{PointerWord}
use Rattle.ckc_tree.specs.declared.type_form.PointerMode.TheVariants.{Checked}
use Rattle.ckc_tree.specs.declared.type_form.PointerKind.TheVariants.{One}
use Rattle.ckc_tree.specs.Types.{TypeName, IntType, PointerType}
use Rattle.ckc_tree.specs.Expressions.{Expression, Number, Name, Binary}
use Rattle.ckc_tree.specs.Statements.{Statement, Empty, If, IfElse, Return, NoMore, Then}
use Rattle.ckc_tree.specs.Items.{Value, VoidAlone, FunctionItem, Tree}
use Rattle.ckc_parser_grammar.specs.Tokens.{token, identifier}

abbrev pub span : ℕ → ℕ → Span
span from to = record { from = from; to = to }

abbrev pub at : ℕ → ℕ → TokenKind → Token
at from to kind = token kind (span from to)

-- a name of one letter at this byte
abbrev name_token : ℕ → List ℕ → Token
name_token from name = at from (from + 1) (kinds.Name name)

abbrev name_tree : ℕ → List ℕ → Expression
name_tree from name = Name (identifier name (span from (from + 1)))

-- a - b - c, which groups to the left
abbrev pub left_tokens : List Token
left_tokens = name_token 0 (codes "a") ∷ at 2 3 kinds.Minus ∷ name_token 4 (codes "b") ∷ at 6 7 kinds.Minus ∷ name_token 8 (codes "c") ∷ []

abbrev pub left_tree : Expression
left_tree = Binary Subtract (Binary Subtract (name_tree 0 (codes "a")) (name_tree 4 (codes "b")) (span 0 5)) (name_tree 8 (codes "c")) (span 0 9)

-- a + b * c, in which the product binds tighter
abbrev pub product_tokens : List Token
product_tokens = name_token 0 (codes "a") ∷ at 2 3 kinds.Plus ∷ name_token 4 (codes "b") ∷ at 6 7 kinds.Star ∷ name_token 8 (codes "c") ∷ []

abbrev pub product_tree : Expression
product_tree = Binary Add (name_tree 0 (codes "a")) (Binary Multiply (name_tree 4 (codes "b")) (name_tree 8 (codes "c")) (span 4 9)) (span 0 9)

-- (a + b) * c, of which the product holds the parentheses, and the sum doesn't
abbrev pub paren_tokens : List Token
paren_tokens = at 0 1 kinds.OpenParen ∷ name_token 1 (codes "a") ∷ at 3 4 kinds.Plus ∷ name_token 5 (codes "b") ∷ at 6 7 kinds.CloseParen ∷ at 8 9 kinds.Star
    ∷ name_token 10 (codes "c") ∷ []

abbrev pub paren_tree : Expression
paren_tree = Binary Multiply (Binary Add (name_tree 1 (codes "a")) (name_tree 5 (codes "b")) (span 1 6)) (name_tree 10 (codes "c")) (span 0 11)

-- a >> b: the two marks touch
abbrev pub shift_tokens : List Token
shift_tokens = name_token 0 (codes "a") ∷ at 2 3 kinds.Greater ∷ at 3 4 kinds.Greater ∷ name_token 5 (codes "b") ∷ []

abbrev pub shift_tree : Expression
shift_tree = Binary ShiftRight (name_tree 0 (codes "a")) (name_tree 5 (codes "b")) (span 0 6)

-- ptr<ptr<int>> p: the two marks that touch end two types
abbrev pub nested_tokens : List Token
nested_tokens = at 0 3 (kinds.Keyword keywords.Ptr) ∷ at 3 4 kinds.Less ∷ at 4 7 (kinds.Keyword keywords.Ptr) ∷ at 7 8 kinds.Less
    ∷ at 8 11 (kinds.Keyword keywords.Int) ∷ at 11 12 kinds.Greater
    ∷ at 12 13 kinds.Greater ∷ name_token 14 (codes "p") ∷ []

abbrev checked_pointer : PointerWord
checked_pointer = record { mode = Checked; kind = One }

abbrev pub nested_type : TypeName
nested_type = record { base = PointerType checked_pointer (PointerType checked_pointer (IntType (span 8 11)) 0 (span 4 12)) 0 (span 0 13); stars = 0 }

-- if (a) if (b) ; else ; of which the else belongs to the second if
abbrev pub else_tokens : List Token
else_tokens = at 0 2 (kinds.Keyword keywords.If) ∷ at 3 4 kinds.OpenParen ∷ name_token 4 (codes "a") ∷ at 5 6 kinds.CloseParen
    ∷ at 7 9 (kinds.Keyword keywords.If) ∷ at 10 11 kinds.OpenParen
    ∷ name_token 11 (codes "b") ∷ at 12 13 kinds.CloseParen ∷ at 14 15 kinds.Semicolon ∷ at 16 20 (kinds.Keyword keywords.Else) ∷ at 21 22 kinds.Semicolon ∷ []

abbrev pub else_tree : Statement
else_tree = If (name_tree 4 (codes "a")) (IfElse (name_tree 11 (codes "b")) (Empty (span 14 15)) (Empty (span 21 22)) (span 7 22)) (span 0 22)

-- int main(void) { return 0; with and without the brace that ends it; without it 26 bytes, and a refusal at the end
abbrev pub early_tokens : List Token → List Token
early_tokens more = at 0 3 (kinds.Keyword keywords.Int) ∷ at 4 8 (kinds.Name (codes "main")) ∷ at 8 9 kinds.OpenParen ∷ at 9 13 (kinds.Keyword keywords.Void)
    ∷ at 13 14 kinds.CloseParen
    ∷ at 15 16 kinds.OpenBrace ∷ at 17 23 (kinds.Keyword keywords.Return) ∷ at 24 25 (kinds.Number 0) ∷ at 25 26 kinds.Semicolon ∷ more

abbrev pub whole_tokens : List Token
whole_tokens = early_tokens (at 27 28 kinds.CloseBrace ∷ [])

abbrev pub whole_tree : Tree
whole_tree = record {
  items = FunctionItem (record {
    kind = Trusted;
    mark = None;
    result = Value (IntType (span 0 3));
    stars = 0;
    name = identifier (codes "main") (span 4 8);
    parameters = VoidAlone;
    bounds = None;
    body = Some (record { mark = None; statements = Then (Return (Some (Number 0 (span 24 25))) (span 17 26)) NoMore; span = span 15 28 });
    span = span 0 28;
  }) ∷ [];
  span = span 0 28;
}
