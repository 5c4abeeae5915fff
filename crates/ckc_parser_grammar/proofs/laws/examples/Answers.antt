use Rattle.std.proofs.Common.{[], ◌≡◌, ℕ, suc, false, List, ◌∷◌, None, refl, arith}
use Rattle.ckc_text.specs.declared.place.Span.{Span}
use Rattle.ckc_lexer.specs.declared.token.Token.{Token}
use Rattle.ckc_lexer.specs.declared.token.TokenKind.TheVariants as kinds
use Rattle.ckc_tree.specs.Expressions.{Expression, Name}
use Rattle.ckc_parser_grammar.specs.Tokens.{token, identifier, operator_at, next_is, open_paren, selector}
use Rattle.ckc_parser_grammar.specs.TypeGrammar.{int, pointer, none, type_name}
use Rattle.ckc_parser_grammar.specs.ExpressionGrammar.{SpellsBinary, SpellsExpression, operand, operators, level_done, level_more, postfix, unselected, number, name, parentheses}
use Rattle.ckc_parser_grammar.specs.StatementGrammar.{if, if_else, empty, return}
use Rattle.ckc_parser_grammar.specs.StatementGrammar as statements
use Rattle.ckc_parser_grammar.specs.ItemGrammar as items
use Rattle.ckc_parser_grammar.specs.StatementBeginnings as begun
use Rattle.ckc_parser_grammar.specs.ItemBeginnings.{first, function_body}
use Rattle.ckc_parser_grammar.specs.ItemBeginnings as beginnings
use Rattle.ckc_parser_grammar.specs.Parsing.{BeginsLow, ended}
use Rattle.ckc_parser_grammar.specs.Examples.{early_tokens}
use Rattle.ckc_parser_grammar.proofs.Early.{no_tree}
use Rattle.ckc_parser_grammar.proofs.laws.examples.Goals as goal

-- a name, before which and behind which no operator binds tighter
alone : {x : List ℕ} {s : Span} {rest : List Token} → next_is open_paren rest ≡ false → next_is selector rest ≡ false → SpellsBinary 0 (token (kinds.Name x) s ∷ rest) (Name (identifier x s)) s rest
alone no_call no_selector = operand (postfix (name no_call) (unselected no_selector))

-- where no operator follows, what is spelled at one level is spelled at the next, and so at all
up : {n : ℕ} {e : Expression} {o : Span} {ts rest : List Token} → operator_at rest ≡ None → SpellsBinary n ts e o rest → SpellsBinary (suc n) ts e o rest
up end d = operators d (level_done (rw end refl))

above_products : {e : Expression} {o : Span} {ts rest : List Token} → operator_at rest ≡ None → SpellsBinary 3 ts e o rest → SpellsExpression ts e o rest
above_products end d = up end (up end (up end (up end (up end (up end (up end d))))))

all_levels : {e : Expression} {o : Span} {ts rest : List Token} → operator_at rest ≡ None → SpellsBinary 0 ts e o rest → SpellsExpression ts e o rest
all_levels end d = above_products end (up end (up end (up end d)))

pub returns-clause-left : goal.returns-clause-left
returns-clause-left c =
    above_products refl (up refl (operators (operators (alone refl refl) (level_done refl))
    (level_more refl refl (operators (alone refl refl) (level_done refl))
    (level_more refl refl (operators (alone refl refl) (level_done refl)) (level_done refl)))))

pub returns-clause-product : goal.returns-clause-product
returns-clause-product c =
    above_products refl (up refl (operators (operators (alone refl refl) (level_done refl))
    (level_more refl refl (operators (alone refl refl) (level_more refl refl (alone refl refl) (level_done refl))) (level_done refl))))

pub returns-clause-paren : goal.returns-clause-paren
returns-clause-paren c =
    let sum = above_products refl (up refl (operators (operators (alone refl refl) (level_done refl)) (level_more refl refl (operators (alone refl refl) (level_done refl)) (level_done refl)))) in
    above_products refl (up refl (up refl (operators (operand (postfix (parentheses sum) (unselected refl))) (level_more refl refl (alone refl refl) (level_done refl)))))

pub returns-clause-shift : goal.returns-clause-shift
returns-clause-shift c =
    above_products refl (operators (operators (operators (alone refl refl) (level_done refl)) (level_done refl))
    (level_more refl refl (up refl (up refl (alone refl refl))) (level_done refl)))

pub returns-clause-types : goal.returns-clause-types
returns-clause-types c = type_name (pointer refl (pointer refl int (none refl)) (none refl)) (none refl)

pub returns-clause-nearest : goal.returns-clause-nearest
returns-clause-nearest c = if (all_levels refl (alone refl refl)) (if_else (all_levels refl (alone refl refl)) empty empty) refl

pub returns-clause-whole : goal.returns-clause-whole
returns-clause-whole c =
    items.program (items.more
    (items.function (items.trusted refl) (items.absent refl) (items.value int) (none refl) items.void (statements.absent refl)
    (items.present (items.absent refl) (statements.more (return (all_levels refl (operand (postfix number (unselected refl))))) statements.none)))
    items.none)

early_begins : BeginsLow (early_tokens []) []
early_begins = record {
  reach = _;
  begins = first (function_body (items.trusted refl) (items.absent refl) (items.value int) (none refl) items.void (statements.absent refl)
      (beginnings.statements (items.absent refl) (begun.others (return (all_levels refl (operand (postfix number (unselected refl))))) (begun.first begun.nothing))));
  low = omega arith;
}

pub returns-clause-early : goal.returns-clause-early
returns-clause-early c = ended early_begins (no_tree (_, return (all_levels refl (operand (postfix number (unselected refl))))))
