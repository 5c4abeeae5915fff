use Rattle.std.proofs.Common.{sym, ◌∙◌, refl}
use Rattle.serde_json.specs.View.{number_view}
use Rattle.act_words.specs.Readings.{word_of}
use Rattle.act_words.proofs.Each.{each_more, each_none, each_all, words_of-each}
use Rattle.act_words.proofs.reading.words_of.Goals as goal

pub returns-in_default : goal.returns-in_default
returns-in_default c =
    let none = each_none (λ n. word_of (number_view n)) c.args.numbers.now c.loop-number.number-index c.number-item.result c.loop-number-test.true (sym c.number-item.is) (sym c.word_of.ensures ∙ c.in_default.is) in
    (refl, words_of-each c.args.numbers.now ∙ none)

pub loop-number-preserved : goal.loop-number-preserved
loop-number-preserved c =
    let more =
    each_more (λ n. word_of (number_view n)) c.args.numbers.now c.loop-number.number-index c.number-item.result c.in-Some.word _ c.loop-number-test.true (sym c.number-item.is) c.loop-number.invariant (sym c.word_of.ensures ∙ c.in-Some.is) in
    rw c.in_ok-push.ensures.items more

pub returns : goal.returns
returns c = words_of-each c.args.numbers.now ∙ each_all (λ n. word_of (number_view n)) c.args.numbers.now c.loop-number.number-index _ c.loop-number-test.false c.loop-number.invariant
