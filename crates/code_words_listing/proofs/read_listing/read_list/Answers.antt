use Rattle.std.proofs.lemmas.Grind.{elements}
use Rattle.std.proofs.Common.{rules, arith}
use Rattle.code_words_listing.specs.States.{seen}
use Rattle.code_words_listing.proofs.ListRead.{one-read, Answers, answers-at, answers-behind}
use Rattle.code_words_listing.proofs.read_listing.read_list.Goals as goal

at-line : (c : goal.After-from_residual) → Answers c.args.text.now c.from_residual.result
at-line c =
    answers-at c.args.text.now (seen c.loop-line.state) c.loop-line.number c.loop-line.left.now c.in-Some.line.now c.in-Some.behind.now c.in_err-state.field-0.0 c.from_residual.result
    c.loop-line.invariant c.in-Some.ensures c.in_err-state.ensures c.from_residual.ensures.1

pub returns-in_err-state-clause-listing : goal.returns-in_err-state-clause-listing
returns-in_err-state-clause-listing c = (at-line c).is

pub returns-in_err-state-clause-format : goal.returns-in_err-state-clause-format
returns-in_err-state-clause-format c = (at-line c).format

pub returns-in_err-state-clause-paced : goal.returns-in_err-state-clause-paced
returns-in_err-state-clause-paced c = (at-line c).paced

pub returns-in_err-state-clause-back : goal.returns-in_err-state-clause-back
returns-in_err-state-clause-back c = (at-line c).back

pub returns-in_err-state-clause-refused : goal.returns-in_err-state-clause-refused
returns-in_err-state-clause-refused c = (at-line c).refused

pub loop-line-preserved : goal.loop-line-preserved
loop-line-preserved c =
    one-read c.args.text.now (seen c.loop-line.state) (seen c.in_ok-state.state) c.loop-line.number c.loop-line.left.now c.in-Some.line.now c.in-Some.behind.now c.loop-line.invariant c.in-Some.ensures
    c.in_ok-state.ensures

at-end : (c : goal.After-finish) → Answers c.args.text.now c.finish.result
at-end c = answers-behind c.args.text.now (seen c.loop-line.state) c.loop-line.number c.loop-line.left.now c.finish.result c.loop-line.invariant c.in_default.ensures c.finish.ensures

pub returns-clause-listing : goal.returns-clause-listing
returns-clause-listing c = (at-end c).is

pub returns-clause-paced : goal.returns-clause-paced
returns-clause-paced c = (at-end c).paced

pub returns-clause-format : goal.returns-clause-format
returns-clause-format c = (at-end c).format

pub returns-clause-back : goal.returns-clause-back
returns-clause-back c = (at-end c).back

pub returns-clause-refused : goal.returns-clause-refused
returns-clause-refused c = (at-end c).refused

pub read_next-requires-clause-reached : goal.read_next-requires-clause-reached
read_next-requires-clause-reached c = c.loop-line.invariant.reached

pub read_next-requires-clause-number : goal.read_next-requires-clause-number
read_next-requires-clause-number c = c.loop-line.invariant.counted

pub finish-requires-clause-reached : goal.finish-requires-clause-reached
finish-requires-clause-reached c = c.loop-line.invariant.reached

pub finish-requires-clause-number : goal.finish-requires-clause-number
finish-requires-clause-number c = c.loop-line.invariant.counted

pub loop-line-init : goal.loop-line-init
loop-line-init c = search rules

pub overflow_add-number : goal.overflow_add-number
overflow_add-number c = search rules

pub loop-line-smaller : goal.loop-line-smaller
loop-line-smaller c = grind (arith, elements)
