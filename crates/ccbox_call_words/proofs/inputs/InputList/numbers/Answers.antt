use Rattle.std.proofs.Common.{rules}
use Rattle.ccbox_call_words.proofs.Lists.{last_is, next, none_first}
use Rattle.ccbox_call_words.proofs.inputs.InputList.numbers.Goals as goal

pub returns-in_default : goal.returns-in_default
returns-in_default c =
    let none = none_first c.args.self.now.text.now c.numbers.rest.now c.numbers.numbers.items c.numbers.invariant.1 c.in_default.ensures.numbers in
    search (rules, rw none at c.args.self.now.is_list)

pub returns-in_default-behind : goal.returns-in_default-behind
returns-in_default-behind c =
    let is = rw c.in_default-behind.is at c.in-Some.ensures.numbers in
    let all = last_is c.args.self.now.text.now c.numbers.rest.now c.numbers.numbers.items c.numbers.invariant.1 c.in-Some.number is c.args.self.now.is_list in
    rw (← all) (search rules)

pub numbers-preserved : goal.numbers-preserved
numbers-preserved c =
    let is = rw c.in-Some-behind.is at c.in-Some.ensures.numbers in
    let read = next c.args.self.now.text.now c.numbers.rest.now c.numbers.numbers.items c.numbers.invariant.1 c.in-Some.number c.in-Some-behind.text.now is in
    (search rules, search (rules, read))
