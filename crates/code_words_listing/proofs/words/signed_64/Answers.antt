use Rattle.std.proofs.Common.{Some, true, false, sym, ap, ◌∙◌}
use Rattle.std.specs.Int.{w64}
use Rattle.std.proofs.lemmas.Int.{to_z-of_z}
use Rattle.std.specs.Fmt.{signed_decimal}
use Rattle.std.specs.Str.{bytes_eq}
use Rattle.code_words_listing.proofs.Spelled.{no-text, text-is, signed-not-text, signed-not-parsed, signed-parsed, signed-fits, readable64}
use Rattle.code_words_listing.proofs.words.signed_64.Goals as goal

pub returns-in_err-text : goal.returns-in_err-text
returns-in_err-text c = c.from_residual.ensures ∙ sym (signed-not-text w64 readable64 c.args.word.now (no-text c.args.word.now c.from_utf8.result _ _ c.from_utf8.ensures.cases (sym c.ok.ensures.value ∙ c.in_err-text.was)))

pub returns-in_err-number : goal.returns-in_err-number
returns-in_err-number c =
    c.from_residual-in_err-number.ensures ∙ sym (signed-not-parsed w64 readable64 c.args.word.now c.in_ok-text.text.now c.parse.result
    (text-is c.args.word.now c.from_utf8.result (λ s. s.now) _ _ c.in_ok-text.text c.from_utf8.ensures.cases (sym c.ok.ensures.value ∙ c.in_ok-text.was))
    c.parse.ensures.value.0 (sym c.ok-2.ensures.value ∙ c.in_err-number.was))

pub returns-then-eq : goal.returns-then-eq
returns-then-eq c =
    ap Some (to_z-of_z w64 c.in_ok-number.number (signed-fits w64 readable64 c.in_ok-text.text.now c.parse.result c.in_ok-number.number c.parse.ensures.value.0 (sym c.ok-2.ensures.value ∙ c.in_ok-number.was))) ∙
    signed-parsed w64 readable64 c.args.word.now c.in_ok-text.text.now c.parse.result c.in_ok-number.number true
    (text-is c.args.word.now c.from_utf8.result (λ s. s.now) _ _ c.in_ok-text.text c.from_utf8.ensures.cases (sym c.ok.ensures.value ∙ c.in_ok-text.was))
    c.parse.ensures.value.0 (sym c.ok-2.ensures.value ∙ c.in_ok-number.was)
    (sym c.if-eq.true ∙ c.eq.ensures ∙ ap (λ bytes. bytes_eq bytes c.args.word.now) (c.as_bytes.ensures.value ∙ c.format.ensures.text ∙ ap signed_decimal (to_z-of_z w64 c.in_ok-number.number (signed-fits w64 readable64 c.in_ok-text.text.now c.parse.result c.in_ok-number.number c.parse.ensures.value.0 (sym c.ok-2.ensures.value ∙ c.in_ok-number.was)))))

pub returns-else-eq : goal.returns-else-eq
returns-else-eq c =
    signed-parsed w64 readable64 c.args.word.now c.in_ok-text.text.now c.parse.result c.in_ok-number.number false
    (text-is c.args.word.now c.from_utf8.result (λ s. s.now) _ _ c.in_ok-text.text c.from_utf8.ensures.cases (sym c.ok.ensures.value ∙ c.in_ok-text.was))
    c.parse.ensures.value.0 (sym c.ok-2.ensures.value ∙ c.in_ok-number.was)
    (sym c.if-eq.false ∙ c.eq.ensures ∙ ap (λ bytes. bytes_eq bytes c.args.word.now) (c.as_bytes.ensures.value ∙ c.format.ensures.text ∙ ap signed_decimal (to_z-of_z w64 c.in_ok-number.number (signed-fits w64 readable64 c.in_ok-text.text.now c.parse.result c.in_ok-number.number c.parse.ensures.value.0 (sym c.ok-2.ensures.value ∙ c.in_ok-number.was)))))
