use Rattle.std.proofs.Common.{◌≡◌, subst, IfOk, IfErr}
use Rattle.act_words.specs.Acts.{act_view}
use Rattle.act_words.specs.Readings.{Reading, Says}
use Rattle.act_words.specs.Answers.{IsRefused}
use Rattle.act_words.proofs.Plain.{valued_line, bad_line}
use Rattle.act_words.proofs.reading.read_act.Goals as goal

pub returns-in-Ok-clause-says : goal.returns-in-Ok-clause-says
returns-in-Ok-clause-says c =
    let P : Reading → Type 0 = λ r. IfOk c.act_of.result (λ a. r ≡ Says (act_view a)) in
    let line = valued_line c.args.line.now _ c.if-line-gt-LINE_LIMIT.false c.in-Ok.ensures.ok.0 c.in-Ok.ensures.ok.1 in
    subst P line c.act_of.ensures.says

pub returns-in-Ok-clause-refuses : goal.returns-in-Ok-clause-refuses
returns-in-Ok-clause-refuses c =
    let P : Reading → Type 0 = λ r. IfErr c.act_of.result (IsRefused r) in
    let line = valued_line c.args.line.now _ c.if-line-gt-LINE_LIMIT.false c.in-Ok.ensures.ok.0 c.in-Ok.ensures.ok.1 in
    subst P line c.act_of.ensures.refuses

pub returns-in-Err-2-clause-refuses : goal.returns-in-Err-2-clause-refuses
returns-in-Err-2-clause-refuses c = bad_line c.args.line.now c.if-line-gt-LINE_LIMIT.false (c.in-Err.ensures.err (λ memory. absurd (cc (c.if-is_memory.ensures.1 memory))))
