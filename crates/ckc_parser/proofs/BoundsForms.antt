-- The words of bounds, and the word `unknown`.
use Rattle.std.proofs.Common.{inl, inr, nat_lt, ◌≡◌, ℕ, ◌<◌, ◌≤◌, Bool, true, false, List, [], ◌∷◌, refl, arith}
use Rattle.std.specs.Prelude.{codes}
use Rattle.std.proofs.lemmas.Bool.Decides.{nat_tests}
use Rattle.ckc_text.specs.declared.place.Span.{Span}
use Rattle.ckc_lexer.specs.declared.token.Token.{Token}
use Rattle.ckc_lexer.specs.declared.token.TokenKind.{TokenKind}
use Rattle.ckc_lexer.specs.declared.token.TokenKind.TheVariants as kinds
use Rattle.ckc_tree.specs.Expressions.{Expression}
use Rattle.ckc_tree.specs.Heights.{expression_reach}
use Rattle.ckc_parser_grammar.specs.declared.terminal.Terminal.TheVariants as terminals
use Rattle.ckc_parser.specs.declared.bounds.BoundsForm.{BoundsForm}
use Rattle.ckc_parser.specs.declared.bounds.BoundsForm.TheVariants as forms
use Rattle.ckc_parser_grammar.specs.Tokens.{token, join, next_is, comma}
use Rattle.ckc_parser_grammar.specs.StuckTypes.{name_token}
use Rattle.ckc_parser_grammar.specs.Failures.{Failure, IsLow}
use Rattle.ckc_parser_grammar.specs.ExpressionGrammar as g
use Rattle.ckc_parser_grammar.specs.ExpressionGrammar.{SpellsBinary}
use Rattle.ckc_parser_grammar.specs.StuckExpressions as s
use Rattle.ckc_parser_grammar.specs.StuckExpressions.{bounds_word, unknown_word, is_unknown, close_paren, comma_or_paren, goes_on, IsCountWord, StuckBinary, StuckBounds}
use Rattle.ckc_parser.specs.Readings.{count_word, counted, IsBounds, IsRefusal}
use Rattle.ckc_parser.specs.Endings.{StuckEnded, within, unended}
use Rattle.ckc_parser.specs.Forms.{form_word}

no_name : (k : TokenKind) → name_token k ≡ false → bounds_word k ≡ false
no_name (kinds.Name x) h = absurd cc
no_name _ h = refl

pub no_bounds_word : (ts : List Token) → next_is name_token ts ≡ false → next_is bounds_word ts ≡ false
no_bounds_word [] h = refl
no_bounds_word (t ∷ ts) h = no_name t.kind h

pub word_of_bounds : (form : BoundsForm) → bounds_word (kinds.Name (form_word form)) ≡ true
word_of_bounds forms.Count = refl
word_of_bounds forms.ByteCount = refl
word_of_bounds forms.Ends = refl

word_of_count : (is_count : Bool) → IsCountWord (count_word is_count)
word_of_count true = inl refl
word_of_count false = inr refl

pub count_stuck : {d : ℕ} {start p : Span} {ts : List Token} {f : Failure} (is_count : Bool) → StuckEnded terminals.CloseParen d ts f → StuckBounds d (token (kinds.Name (count_word is_count)) start ∷ token kinds.OpenParen p ∷ ts) f
count_stuck is_count (within stuck) = s.count (word_of_count is_count) stuck
count_stuck is_count (unended spelled low other) = s.count_close (word_of_count is_count) spelled low other

pub count_read : {start p o t : Span} {ts rest : List Token} {e : Expression} (d : ℕ) (is_count : Bool) → SpellsBinary 10 ts e o (token kinds.CloseParen t ∷ rest) → IsLow d (expression_reach e)
    → IsBounds d (token (kinds.Name (count_word is_count)) start ∷ token kinds.OpenParen p ∷ ts) (counted is_count e (join start t)) (join start t) rest
count_read d true spelled low = (g.count refl spelled, low)
count_read d false spelled low = (g.byte_count refl spelled, low)

no_end : (k : TokenKind) → comma k ≡ false → close_paren k ≡ false → comma_or_paren k ≡ false
no_end kinds.Comma h p = h
no_end kinds.CloseParen h p = p
no_end _ h p = refl

pub no_comma_or_paren : (ts : List Token) → next_is comma ts ≡ false → next_is close_paren ts ≡ false → next_is comma_or_paren ts ≡ false
no_comma_or_paren [] h p = refl
no_comma_or_paren (t ∷ ts) h p = no_end t.kind h p

low_fails : {d : ℕ} {start p : Span} {ts : List Token} {f : Failure} → is_unknown ts ≡ false → (200 ≤ d → next_is unknown_word ts ≡ false) → StuckBinary 10 d ts f → StuckBounds d (token (kinds.Name (codes "bounds")) start ∷ token kinds.OpenParen p ∷ ts) f
low_fails {d} {start} {p} {ts} {f} known full stuck = by_depth (nat_lt d 200) refl
  where
    by_depth : (b : Bool) → nat_lt d 200 ≡ b → StuckBounds d (token (kinds.Name (codes "bounds")) start ∷ token kinds.OpenParen p ∷ ts) f
    by_depth true e = let less : d < 200 = grind (arith, nat_tests) in s.low refl known less stuck
    by_depth false e = let most : 200 ≤ d = grind (arith, nat_tests) in s.low_in_full refl (full most) stuck

-- where the low end of a range, and the comma behind it, isn't read
pub low_stuck : {d : ℕ} {start p : Span} {ts : List Token} {f : Failure} → is_unknown ts ≡ false → (200 ≤ d → next_is unknown_word ts ≡ false) → StuckEnded terminals.Comma d ts f → StuckBounds d (token (kinds.Name (codes "bounds")) start ∷ token kinds.OpenParen p ∷ ts) f
low_stuck known full (within stuck) = low_fails known full stuck
low_stuck known full (unended spelled low other) = s.comma refl known spelled low other

pub high_stuck : {d : ℕ} {start p q o : Span} {ts us : List Token} {low : Expression} {f : Failure} → SpellsBinary 10 ts low o (token kinds.Comma q ∷ us) → IsLow d (expression_reach low) → StuckEnded terminals.CloseParen d us f
    → StuckBounds d (token (kinds.Name (codes "bounds")) start ∷ token kinds.OpenParen p ∷ ts) f
high_stuck spelled low (within stuck) = s.high refl spelled low stuck
high_stuck spelled low (unended higher high other) = s.bounds_close refl spelled low higher high other

pub unknown_refused : {d : ℕ} {start p : Span} {f : Failure} (ts : List Token) (q : Span) (rest : List Token) → is_unknown ts ≡ false → 200 ≤ d → ts ≡ token (kinds.Name (codes "unknown")) q ∷ rest → IsRefusal q rest (goes_on rest) f
    → StuckBounds d (token (kinds.Name (codes "bounds")) start ∷ token kinds.OpenParen p ∷ ts) f
unknown_refused {d} {start} {p} {f} ts q rest known most is refusal = rw is (by_test rest (goes_on rest) refl (rw is at known) refusal)
  where
    by_test : (us : List Token) (b : Bool) → goes_on us ≡ b → is_unknown (token (kinds.Name (codes "unknown")) q ∷ us) ≡ false → IsRefusal q us b f → StuckBounds d (token (kinds.Name (codes "bounds")) start ∷ token kinds.OpenParen p ∷ token (kinds.Name (codes "unknown")) q ∷ us) f
    by_test [] true e known refusal = absurd cc
    by_test (t ∷ us) true e known refusal = rw refusal (s.unknown_deep refl refl most e)
    by_test us false e known refusal = rw refusal (s.unknown_end refl refl most e known)
