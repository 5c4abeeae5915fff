use Rattle.std.proofs.Common.{true, false, sym, ap, ◌∙◌}
use Rattle.std.specs.Str.{bytes_eq}
use Rattle.code_words_listing.proofs.Spelled.{no-text, text-is, number-not-text, number-not-parsed, number-parsed}
use Rattle.code_words_listing.proofs.words.number.Goals as goal

pub returns-in_err-text : goal.returns-in_err-text
returns-in_err-text c = c.from_residual.ensures ∙ sym (number-not-text c.args.word.now (no-text c.args.word.now c.from_utf8.result _ _ c.from_utf8.ensures.cases (sym c.ok.ensures.value ∙ c.in_err-text.was)))

pub returns-in_err-number : goal.returns-in_err-number
returns-in_err-number c =
    c.from_residual-in_err-number.ensures ∙ sym (number-not-parsed c.args.word.now c.in_ok-text.text.now c.parse.result
    (text-is c.args.word.now c.from_utf8.result (λ s. s.now) _ _ c.in_ok-text.text c.from_utf8.ensures.cases (sym c.ok.ensures.value ∙ c.in_ok-text.was))
    c.parse.ensures.value.0 (sym c.ok-2.ensures.value ∙ c.in_err-number.was))

pub returns-then-eq : goal.returns-then-eq
returns-then-eq c =
    number-parsed c.args.word.now c.in_ok-text.text.now c.parse.result c.in_ok-number.number true
    (text-is c.args.word.now c.from_utf8.result (λ s. s.now) _ _ c.in_ok-text.text c.from_utf8.ensures.cases (sym c.ok.ensures.value ∙ c.in_ok-text.was))
    c.parse.ensures.value.0 (sym c.ok-2.ensures.value ∙ c.in_ok-number.was)
    (sym c.if-eq.true ∙ c.eq.ensures ∙ ap (λ bytes. bytes_eq bytes c.args.word.now) (c.as_bytes.ensures.value ∙ c.format.ensures.text))

pub returns-else-eq : goal.returns-else-eq
returns-else-eq c =
    number-parsed c.args.word.now c.in_ok-text.text.now c.parse.result c.in_ok-number.number false
    (text-is c.args.word.now c.from_utf8.result (λ s. s.now) _ _ c.in_ok-text.text c.from_utf8.ensures.cases (sym c.ok.ensures.value ∙ c.in_ok-text.was))
    c.parse.ensures.value.0 (sym c.ok-2.ensures.value ∙ c.in_ok-number.was)
    (sym c.if-eq.false ∙ c.eq.ensures ∙ ap (λ bytes. bytes_eq bytes c.args.word.now) (c.as_bytes.ensures.value ∙ c.format.ensures.text))
