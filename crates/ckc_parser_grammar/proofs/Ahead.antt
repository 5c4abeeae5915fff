-- What the tokens ahead rule out, and a call among the expressions that begin with a name.
use Rattle.std.proofs.Common.{◌≡◌, Bool, true, false, List, [], ◌∷◌, refl, sym, ◌∙◌}
use Rattle.ckc_text.specs.declared.place.Span.{Span}
use Rattle.ckc_lexer.specs.declared.token.Token.{Token}
use Rattle.ckc_lexer.specs.declared.token.TokenKind.{TokenKind}
use Rattle.ckc_lexer.specs.declared.keyword.Keyword.TheVariants as keywords
use Rattle.ckc_lexer.specs.declared.token.TokenKind.TheVariants as kinds
use Rattle.ckc_tree.specs.Expressions.{Expression}
use Rattle.ckc_parser_grammar.specs.Tokens.{next_is, kind_word, tainted_word}
use Rattle.ckc_parser_grammar.specs.ExpressionGrammar as eg
use Rattle.ckc_parser_grammar.specs.ExpressionGrammar.{SpellsUnary, SpellsPrimary, SpellsSelectors, SpellsCall}
use Rattle.ckc_parser_grammar.specs.StuckTypes.{name_token}
use Rattle.ckc_parser_grammar.specs.StuckStatements.{is_call}
use Rattle.ckc_parser_grammar.specs.StuckItems.{struct_word, is_structure, is_name_before}

pub never : {b : Bool} {A : Type 0} → b ≡ true → b ≡ false → A
never so not = let h : true ≡ false = sym so ∙ not in absurd cc

pub untainted : (ts : List Token) → next_is kind_word ts ≡ false → next_is tainted_word ts ≡ false
untainted [] not = refl
untainted (t ∷ ts) not = by t.kind not
  where
    by : (k : TokenKind) → kind_word k ≡ false → tainted_word k ≡ false
    by (kinds.Keyword keywords.Tainted) not = not
    by _ not = refl

pub no_struct : (ts : List Token) → next_is struct_word ts ≡ false → is_structure ts ≡ false
no_struct [] not = refl
no_struct (t ∷ ts) not = rw not refl

pub no_name : (is : TokenKind → Bool) (ts : List Token) → next_is name_token ts ≡ false → is_name_before is ts ≡ false
no_name is [] not = refl
no_name is (t ∷ ts) not = rw not refl

-- ---- a call among expressions

selected_call : {x whole : Expression} {o w : Span} {ts m : List Token} → SpellsSelectors x o ts whole w m → is_call x ≡ false → is_call whole ≡ false
selected_call (eg.unselected f) none = none
selected_call (eg.index d s) none = selected_call s refl
selected_call (eg.dot s) none = selected_call s refl
selected_call (eg.arrow s) none = selected_call s refl

primary_call : {x : Expression} {o : Span} {ts m : List Token} → next_is name_token ts ≡ true → SpellsPrimary ts x o m → is_call x ≡ true → SpellsCall ts x o m
primary_call so eg.number is = absurd cc
primary_call so eg.character is = absurd cc
primary_call so eg.text is = absurd cc
primary_call so (eg.name f) is = absurd cc
primary_call so (eg.called d) is = d
primary_call so (eg.parentheses d) is = absurd cc
primary_call so (eg.size_of d) is = absurd cc
primary_call so (eg.cast w a d) is = absurd cc
primary_call so (eg.bounded_cast w a d c) is = absurd cc
primary_call so (eg.malloc w a d) is = absurd cc
primary_call so (eg.calloc w a d c) is = absurd cc

pub call_of : {x : Expression} {o : Span} {ts m : List Token} → next_is name_token ts ≡ true → SpellsUnary ts x o m → is_call x ≡ true → SpellsCall ts x o m
call_of so (eg.operator w d) is = absurd cc
call_of so (eg.postfix p (eg.unselected f)) is = primary_call so p is
call_of so (eg.postfix p (eg.index d s)) is = never is (selected_call s refl)
call_of so (eg.postfix p (eg.dot s)) is = never is (selected_call s refl)
call_of so (eg.postfix p (eg.arrow s)) is = never is (selected_call s refl)
