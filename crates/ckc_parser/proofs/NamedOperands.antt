-- Forms with a name that was read, which has no number: they are spelled as those of its bytes and its span.
use Rattle.std.proofs.Common.{◌≡◌, ℕ, ◌+◌, ◌<◌, Bool, List, ◌∷◌, sym, subst}
use Rattle.ckc_text.specs.declared.place.Span.{Span}
use Rattle.ckc_lexer.specs.declared.token.Token.{Token}
use Rattle.ckc_lexer.specs.declared.keyword.Keyword.TheVariants as keywords
use Rattle.ckc_lexer.specs.declared.token.TokenKind.TheVariants as kinds
use Rattle.ckc_tree.specs.declared.identifier.Identifier.{Identifier}
use Rattle.ckc_tree.specs.Types.{StructType}
use Rattle.ckc_tree.specs.Expressions.{Expression}
use Rattle.ckc_tree.specs.Heights.{expression_reach}
use Rattle.ckc_parser_grammar.specs.Tokens.{token, join}
use Rattle.ckc_parser_grammar.specs.TypeGrammar as grammar
use Rattle.ckc_parser_grammar.specs.TypeGrammar.{SpellsType}
use Rattle.ckc_parser_grammar.proofs.Readings.{named}
use Rattle.ckc_parser.specs.Readings.{member_word, member_of, SelectsOne}
use Rattle.ckc_parser.proofs.Selecting.{member_selects}

pub struct_named : {s : Span} {rest : List Token} (x : Identifier) → x.number ≡ 0
    → SpellsType (token (kinds.Keyword keywords.Struct) s ∷ token (kinds.Name x.name) x.span ∷ rest) (StructType x (join s x.span)) rest
struct_named {s} {rest} x none =
    subst (λ (y : Identifier). SpellsType (token (kinds.Keyword keywords.Struct) s ∷ token (kinds.Name x.name) x.span ∷ rest) (StructType y (join s x.span)) rest)
    (sym (named x none)) grammar.struct

pub member_named : {d : ℕ} {o start : Span} {rest : List Token} {e : Expression} (x : Identifier) → x.number ≡ 0 → (is_arrow : Bool) → d + (expression_reach e).height < 200
    → SelectsOne e o d (token (member_word is_arrow) start ∷ token (kinds.Name x.name) x.span ∷ rest) (member_of is_arrow e x (join o x.span)) (join o x.span) rest
member_named {d} {o} {start} {rest} {e} x none is_arrow less =
    subst (λ (y : Identifier). SelectsOne e o d (token (member_word is_arrow) start ∷ token (kinds.Name x.name) x.span ∷ rest) (member_of is_arrow e y (join o x.span)) (join o x.span) rest)
    (sym (named x none)) (member_selects is_arrow less)
