use Rattle.std.proofs.Common.{◌∙◌, sym, arith}
use Rattle.std.proofs.lemmas.List.{length-drop}
use Rattle.sandbox_actor.proofs.TextLines.{first_of_rest, acts-skipped, acts-read, acts-late}
use Rattle.sandbox_actor.proofs.lines.next_line.Goals as goal

pub returns-then-not-is_skipped-clause-next : goal.returns-then-not-is_skipped-clause-next
returns-then-not-is_skipped-clause-next c =
    let first = c.first_line-length.ensures in
    let rest = first_of_rest _ c.loop-from.number c.loop-from.from _ _ first c.if-number-le-LAST_LINE.true in
    record {
      acts = sym c.loop-from.invariant.acts ∙ acts-read _ _ _ _ _ first c.if-number-le-LAST_LINE.true (sym c.if-not-is_skipped.true ∙ c.is_skipped.ensures);
      counted = c.if-number-le-LAST_LINE.true;
      ordered = omega arith;
      ended = omega (arith, rest.shorter);
      within = omega (arith, rest.within, length-drop c.loop-from.from c.args.text.now);
    }

pub loop-from-preserved : goal.loop-from-preserved
loop-from-preserved c =
    let first = c.first_line-length.ensures in
    let rest = first_of_rest _ c.loop-from.number c.loop-from.from _ _ first c.if-number-le-LAST_LINE.true in
    record {
      acts = sym (acts-skipped _ _ _ _ _ first c.if-number-le-LAST_LINE.true (sym c.if-not-is_skipped.false ∙ c.is_skipped.ensures)) ∙ c.loop-from.invariant.acts;
      within = omega (arith, rest.within, length-drop c.loop-from.from c.args.text.now);
    }

pub returns-else-number-le-LAST_LINE-clause-ended : goal.returns-else-number-le-LAST_LINE-clause-ended
returns-else-number-le-LAST_LINE-clause-ended c =
    sym c.loop-from.invariant.acts ∙ acts-late _ c.loop-from.number c.loop-from.from c.if-number-le-LAST_LINE.false
