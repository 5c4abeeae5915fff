use Rattle.std.proofs.Common.{rules, ◌+◌, ◌∷◌, [], ◌++◌, sym, arith}
use Rattle.std.proofs.lemmas.List.{length-append}
use Rattle.ccbox_call_words.proofs.Lists.{Counted, last_some, next}
use Rattle.ccbox_call_words.proofs.inputs.is_input_list.Goals as goal

pub overflow_add-count : goal.overflow_add-count
overflow_add-count c = omega (arith, c.numbers.invariant.1.few)

pub returns-in_default-behind : goal.returns-in_default-behind
returns-in_default-behind c =
    let before = c.numbers.invariant.1 in
    let is = rw c.in_default-behind.is at c.in-Some.ensures.numbers in
    sym (last_some c.args.text.now c.numbers.rest.now before.sofar before.read c.in-Some.field-0-0 is (omega (arith, before.long, before.few, c.if-count-eq-MAX_INPUTS.false)))

pub numbers-preserved : goal.numbers-preserved
numbers-preserved c =
    let before = c.numbers.invariant.1 in
    let is = rw c.in-Some-behind.is at c.in-Some.ensures.numbers in
    let number = c.in-Some.field-0-0 in
    let counted : Counted c.args.text.now c.in-Some-behind.text.now (c.numbers.count + 1) = record {
      sofar = before.sofar ++ (number ∷ []);
      long = omega (arith, before.long, length-append before.sofar (number ∷ []));
      few = omega (arith, before.few, c.if-count-eq-MAX_INPUTS.false);
      read = next c.args.text.now c.numbers.rest.now before.sofar before.read number c.in-Some-behind.text.now is;
    } in
    (search rules, counted)
