-- Forms with a name that was read, which has no number: they are spelled as those of its bytes and its span.
use Rattle.std.proofs.Common.{◌≡◌, ℕ, List, ◌∷◌, Option, sym, subst}
use Rattle.ckc_text.specs.declared.place.Span.{Span}
use Rattle.ckc_lexer.specs.declared.token.Token.{Token}
use Rattle.ckc_lexer.specs.declared.token.TokenKind.TheVariants as kinds
use Rattle.ckc_tree.specs.declared.identifier.Identifier.{Identifier}
use Rattle.ckc_tree.specs.declared.stmt.ArrayForm.{ArrayForm}
use Rattle.ckc_tree.specs.Types.{TypeName}
use Rattle.ckc_tree.specs.Expressions.{Bounds}
use Rattle.ckc_tree.specs.Statements.{Initializer}
use Rattle.ckc_parser_grammar.specs.Tokens.{token, from_first}
use Rattle.ckc_parser_grammar.specs.TypeGrammar.{SpellsStars, SpellsTypeName}
use Rattle.ckc_parser_grammar.specs.StatementGrammar as statements
use Rattle.ckc_parser_grammar.specs.StatementGrammar.{SpellsOptionalArray, SpellsOptionalBounds, SpellsOptionalInitializer, SpellsDeclarator}
use Rattle.ckc_parser_grammar.specs.ItemGrammar as items
use Rattle.ckc_parser_grammar.specs.ItemGrammar.{SpellsMember}
use Rattle.ckc_parser_grammar.proofs.Readings.{named}

pub member_named : {w : Span} {ts us rest : List Token} {written : Option Bounds} {type : TypeName} (x : Identifier) → x.number ≡ 0
    → SpellsTypeName ts type (token (kinds.Name x.name) x.span ∷ us) → SpellsOptionalBounds (from_first ts x.span) us written w rest
    → SpellsMember ts type x written w rest
member_named {w} {ts} {us} {rest} {written} {type} x none typed bounded =
    subst (λ (y : Identifier). SpellsMember ts type y written w rest) (sym (named x none)) (items.member typed bounded)

pub declarator_named : {n : ℕ} {p q w : Span} {ts us vs ws rest : List Token} {written : Option Bounds} {array : Option ArrayForm}
    {initializer : Option Initializer} (x : Identifier) → x.number ≡ 0 → SpellsStars ts n (token (kinds.Name x.name) x.span ∷ us)
    → SpellsOptionalArray (from_first ts x.span) us array p vs → SpellsOptionalBounds p vs written q ws
    → SpellsOptionalInitializer q ws initializer w rest
    → SpellsDeclarator ts (record { stars = n; name = x; array = array; bounds = written; initializer = initializer; span = w }) rest
declarator_named {n} {p} {q} {w} {ts} {us} {vs} {ws} {rest} {written} {array} {initializer} x none starred arrayed bounded valued =
    subst (λ (y : Identifier). SpellsDeclarator ts (record { stars = n; name = y; array = array; bounds = written; initializer = initializer; span = w }) rest)
    (sym (named x none)) (statements.declarator starred arrayed bounded valued)
