use Rattle.std.proofs.Common.{sym, ◌∙◌, refl}
use Rattle.std.proofs.lemmas.List.{map-append}
use Rattle.serde_json.specs.View.{view, number_view}
use Rattle.serde_json.specs.Find.{as_number}
use Rattle.act_words.proofs.Each.{each_more, each_none, each_all, numbers_of-each}
use Rattle.act_words.proofs.reading.numbers_of.Goals as goal

pub returns-in_default : goal.returns-in_default
returns-in_default c =
    let none = each_none (λ v. as_number (view v)) c.args.items.now c.loop-item.item-index c.item-item.result c.loop-item-test.true (sym c.item-item.is) (sym (rw c.in_default.is at c.as_number.ensures)) in
    (refl, numbers_of-each c.args.items.now ∙ none)

pub loop-item-preserved : goal.loop-item-preserved
loop-item-preserved c =
    let more = each_more (λ v. as_number (view v)) c.args.items.now c.loop-item.item-index c.item-item.result (number_view c.in-Some.number.now) _ c.loop-item-test.true (sym c.item-item.is) c.loop-item.invariant (sym c.in-Some.ensures) in
    rw (c.in_ok-push.ensures.items, map-append number_view) more

pub returns : goal.returns
returns c = numbers_of-each c.args.items.now ∙ each_all (λ v. as_number (view v)) c.args.items.now c.loop-item.item-index _ c.loop-item-test.false c.loop-item.invariant
