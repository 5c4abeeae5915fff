use Rattle.std.proofs.Common.{◌+◌, ◌≤◌, get_or, below_more, arith}
use Rattle.std.proofs.lemmas.List.{get_or_default}
use Rattle.two_memory_machine_memory.proofs.calls.widest.Goals as goal
use Rattle.two_memory_machine_memory.proofs.calls.widest.Goals.{then-most-words, else-most-words}

pub loop-fun-preserved : goal.loop-fun-preserved
loop-fun-preserved c =
    let funs = c.args.funs.now in
    let i = c.loop-fun.fun-index in
    let f = c.fun-item.result in
    let most = c.if-most-words.most in
    let less : (c.loop-fun.most ≤ most) × (f.slots + f.stack ≤ most) × (most ≤ 4096) =
    elim c.if-most-words.branch [
      | then-most-words w ↦ (omega (arith, w.most-is), omega (arith, w.most-is), omega (arith, w.most-is))
      | else-most-words w ↦ (omega (arith, w.most-is), omega (arith, w.most-is), omega (arith, w.most-is, c.loop-fun.invariant.few))
    ] in
    record {
      each = λ k d. below_more (λ j. (get_or funs j d).slots + (get_or funs j d).stack ≤ most) i
          (λ j h. omega (arith, c.loop-fun.invariant.each j d h, less.0))
          (rw (get_or_default funs i d f c.loop-fun-test.true, ← c.fun-item.is) less.1) k;
      few = less.2;
    }

pub returns-clause-each : goal.returns-clause-each
returns-clause-each c = λ k d h. c.loop-fun.invariant.each k d (omega (arith, c.loop-fun-test.false))
