use Rattle.std.proofs.Common.{◌≡◌, ◌∙◌, ℕ, zero, suc, ◌+◌, ◌<◌, List, drop, sym, subst, add-zero, arith, length-drop}
use Rattle.std.proofs.Math.Nat.{add_assoc}
use Rattle.std.proofs.lemmas.List.{drop-drop, take_rest}
use Rattle.ckc_lexer.specs.Runs.{width, Extent, ends, goes}
use Rattle.ckc_lexer.specs.declared.run.Run.{Run}
use Rattle.ckc_lexer.proofs.run.extent.Goals as goal

goes_on : (run : Run) (text : List ℕ) (at step n : ℕ) → step ≡ width run (drop at text) → 0 < step → Extent run (drop (at + step) text) n → Extent run (drop at text) (step + n)
goes_on run text at zero n e some h = absurd (omega arith)
goes_on run text at (suc w) n e some h = goes w (sym e) (subst (λ t. Extent run t n) (sym (drop-drop (suc w) at text)) h)

pub loop-step-preserved : goal.loop-step-preserved
loop-step-preserved c =
    let s = c.loop-step.invariant in
    let at = c.loop-step.at in
    let step = c.loop-step.step in
    let w = rw take_rest at c.width-step-in-loop-step.ensures in
    record {
      within = omega (arith, length-drop at c.args.text.now, s.room);
      step = w.width;
      room = w.within;
      extent = λ n h. subst (λ k. Extent c.args.run c.args.text.now k) (sym (add_assoc at step n)) (s.extent (step + n) (goes_on c.args.run c.args.text.now at step n s.step c.loop-step-test.true h));
    }

pub returns-clause-extent : goal.returns-clause-extent
returns-clause-extent c =
    let s = c.loop-step.invariant in
    let none : c.loop-step.step ≡ 0 = omega arith in
    subst (λ k. Extent c.args.run c.args.text.now k) (add-zero c.loop-step.at) (s.extent 0 (ends (sym s.step ∙ none)))
