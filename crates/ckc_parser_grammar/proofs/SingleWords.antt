-- Words that say one thing each.
use Rattle.std.proofs.Common.{◌≡◌, ℕ, false, List, ◌∷◌, Option, Some, None, refl, sym, ap}
use Rattle.std.proofs.lemmas.Option.{same_Some, none-some}
use Rattle.std.specs.Option.{is_some}
use Rattle.ckc_text.specs.declared.place.Span.{Span}
use Rattle.ckc_lexer.specs.declared.token.Token.{Token}
use Rattle.ckc_lexer.specs.declared.token.TokenKind.{TokenKind}
use Rattle.ckc_lexer.specs.declared.token.TokenKind.TheVariants as kinds
use Rattle.ckc_parser_grammar.specs.Tokens.{token, number_of}
use Rattle.ckc_parser_grammar.specs.declared.stuck.Stuck.TheVariants as code
use Rattle.ckc_parser_grammar.specs.Answers.{Stops, WordAt}
use Rattle.ckc_parser_grammar.proofs.Readings.{next}

pub word_at : {W : Type 0} {word_of : TokenKind → Option W} {w : W} {t : Token} {ts rest : List Token} → ts ≡ t ∷ rest → Some w ≡ word_of t.kind → WordAt word_of w t.span ts rest
word_at {t} at is = record { kind = t.kind; says = sym is; at = at }

pub no_word : {W : Type 0} (word_of : TokenKind → Option W) {t : Token} {ts rest : List Token} → ts ≡ t ∷ rest → None ≡ word_of t.kind → Stops (λ kind. is_some (word_of kind)) ts code.Unexpected ts
no_word word_of {t} {ts} {rest} at none = record { reason = refl; left = refl; other = next (λ kind. is_some (word_of kind)) ts rest t false at (ap is_some (sym none)) }

pub number_at : {n : ℕ} {s : Span} {ts rest : List Token} → WordAt number_of n s ts rest → ts ≡ token (kinds.Number n) s ∷ rest
number_at {n} {s} {ts} {rest} w = by w.kind w.says w.at
  where
    by : (k : TokenKind) → number_of k ≡ Some n → ts ≡ token k s ∷ rest → ts ≡ token (kinds.Number n) s ∷ rest
    by (kinds.Number m) says at = rw (← same_Some _ _ says) at
    by _ says at = absurd (none-some _ says)
