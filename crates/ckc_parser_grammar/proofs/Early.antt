-- The source that ends early spells no tree.
use Rattle.std.proofs.Common.{ℕ, ◌≤◌, List, [], ◌∷◌, Option, refl, sym, ap, subst, arith}
use Rattle.ckc_text.specs.declared.place.Span.{Span}
use Rattle.ckc_lexer.specs.declared.token.Token.{Token}
use Rattle.ckc_lexer.specs.declared.keyword.Keyword.TheVariants as keywords
use Rattle.ckc_lexer.specs.declared.token.TokenKind.TheVariants as kinds
use Rattle.ckc_tree.specs.Statements.{Statement, Statements}
use Rattle.ckc_tree.specs.Items.{Item, Tree, Body}
use Rattle.ckc_parser_grammar.specs.Tokens.{token, from_first}
use Rattle.ckc_parser_grammar.specs.Examples.{early_tokens}
use Rattle.ckc_parser_grammar.specs.TypeGrammar as types
use Rattle.ckc_parser_grammar.specs.TypeGrammar.{SpellsStars}
use Rattle.ckc_parser_grammar.specs.StatementGrammar as s
use Rattle.ckc_parser_grammar.specs.StatementGrammar.{SpellsDeclarators, SpellsOptionalBounds, SpellsStatement, SpellsStatements}
use Rattle.ckc_parser_grammar.specs.ItemGrammar as g
use Rattle.ckc_parser_grammar.specs.ItemGrammar.{SpellsItem, SpellsProgram, SpellsBody, SpellsParameters}
use Rattle.ckc_parser_grammar.proofs.OneType.{rest_of, type_same, stars_same}
use Rattle.ckc_parser_grammar.proofs.OneExpression.{behind, after}
use Rattle.ckc_parser_grammar.proofs.Roles.{statement_starts}
use Rattle.ckc_parser_grammar.proofs.OneStatement.{statement_same, optional_bounds_same}
use Rattle.ckc_parser_grammar.proofs.OneItem.{not_call, parameters_same, optional_mark_same}
use Rattle.ckc_parser_grammar.proofs.OneMeaning.{says_nothing}

no_statements : {r : List Token} {x : Statements} {t : Span} → SpellsStatements [] x t r → ⊥
no_statements (s.more d m) = absurd (omega (arith, statement_starts d))

after_first : {ts : List Token} {x : Statement} {y : Statements} {r : List Token} {t : Span} → SpellsStatement ts x [] → SpellsStatements ts y t r → 1 ≤ 0
after_first known s.none = omega (arith, statement_starts known)
after_first known (s.more {t} {rest} {statements} d m) = absurd (no_statements (subst (λ (z : List Token). SpellsStatements z statements t rest) (sym (after (statement_same known d))) m))

-- a body of one statement without the brace behind it
no_body : {ts r : List Token} {b : Option Body} {t p : Span} {x : Statement} → SpellsStatement ts x [] → SpellsBody (token kinds.OpenBrace p ∷ ts) b t r → ⊥
no_body known (g.present {t} {rest} {statements} m d) =
    let start = optional_mark_same (g.absent refl) m in
    absurd (omega (arith, after_first known (subst (λ (z : List Token). SpellsStatements z statements t rest) (sym (ap rest_of (after start))) d)))

pub early : {r : List Token} {i : Item} {x : Statement} → SpellsStatement (token (kinds.Keyword keywords.Return) (record { from = 17; to = 23 }) ∷ token (kinds.Number 0) (record { from = 24; to = 25 }) ∷ token kinds.Semicolon (record { from = 25; to = 26 }) ∷ []) x [] → SpellsItem (early_tokens []) i r → ⊥
early known (g.structure t m) = elim t [ ]
early known (g.global {q} {w} {us} {rest} {declarators} (g.absent f) d e) =
    not_call (types.none refl) (subst (λ (z : List Token). SpellsDeclarators z declarators w (token kinds.Semicolon q ∷ rest)) (sym (after (type_same types.int d))) e)
early known (g.function {n} {x} {s = name_span} {t} {p} {q} {w} {ws} {xs} {ys} {rest} {written} {parameters} {body} (g.trusted f) (g.absent f') (g.value d) st ps b y) =
    let name_is = stars_same (types.none refl) (subst (λ (z : List Token). SpellsStars z n (token (kinds.Name x) name_span ∷ token kinds.OpenParen p ∷ ws)) (sym (after (type_same types.int d))) st) in
    let parameters_are = parameters_same g.void (subst (λ (z : List Token). SpellsParameters z parameters t xs) (sym (ap (λ (z : List Token). rest_of (rest_of z)) (after name_is))) ps) in
    let bounds_are = optional_bounds_same (s.absent refl) (subst (λ (z : List Token). SpellsOptionalBounds (from_first (early_tokens []) t) z written w ys) (sym (behind parameters_are)) b) in
    no_body known (subst (λ (z : List Token). SpellsBody z body q rest) (sym (behind bounds_are)) y)
early known (g.function (g.trusted f) (g.present m) d st ps b y) = says_nothing m

abbrev pub Known : Type 0
Known = (x : Statement) × SpellsStatement (token (kinds.Keyword keywords.Return) (record { from = 17; to = 23 }) ∷ token (kinds.Number 0) (record { from = 24; to = 25 }) ∷ token kinds.Semicolon (record { from = 25; to = 26 }) ∷ []) x []

pub no_tree : Known → {length : ℕ} (t : Tree) → SpellsProgram length (early_tokens []) t → ⊥
no_tree known t (g.program (g.more d m)) = early known.1 d
