use Rattle.std.proofs.Common.{◌≡◌, ◌+◌, ◌-◌, Some, length, sym, ap, ◌∙◌, arith}
use Rattle.trusted_memory.specs.Memories.{byte_of}
use Rattle.code_words.specs.Table.{count_from}
use Rattle.two_memory_machine_memory.specs.Texts.{with_ticks}
use Rattle.two_memory_machine_memory.proofs.TextCounts.{no_tick, outside, at_zero, one_more, inside, one_left, not_zero}
use Rattle.two_memory_machine_memory.proofs.texts.walk_text.Goals as goal

pub returns-in-None-clause-walked : goal.returns-in-None-clause-walked
returns-in-None-clause-walked c = λ fun stack f s same ticks.
    let l = c.loop-count in
    let t = with_ticks (c.args.ticks + l.count) s in
    l.invariant.goes_on fun stack f s same ticks ∙ outside (length c.args.memory.now.bytes - l.count) fun c.args.budget l.at l.count stack f t (omega (arith, c.loop-count-test.true)) (rw same (sym c.in-None.ensures.byte))

pub returns-in-Some-eq0-clause-walked : goal.returns-in-Some-eq0-clause-walked
returns-in-Some-eq0-clause-walked c = λ fun stack f s same ticks.
    let l = c.loop-count in
    let t = with_ticks (c.args.ticks + l.count) s in
    let byte : byte_of c.args.memory.now l.at ≡ Some 0 = sym c.in-Some-eq0.ensures.byte ∙ ap Some c.in-Some-eq0.field-0-test in
    let here = inside c.args.memory.now l.at 0 byte in
    let left = one_left (length c.args.memory.now.bytes) l.count (omega (arith, here.base, here.within, l.invariant.inside)) in
    l.invariant.goes_on fun stack f s same ticks
    ∙ ap (λ n. count_from n fun c.args.budget l.at l.count stack f t) left
    ∙ at_zero (length c.args.memory.now.bytes - (l.count + 1)) fun c.args.budget l.at l.count stack f t (omega (arith, c.loop-count-test.true)) (rw same byte)

pub loop-count-preserved : goal.loop-count-preserved
loop-count-preserved c =
    let l = c.loop-count in
    let b = c.in-Some.field-0 in
    let byte : byte_of c.args.memory.now l.at ≡ Some b = sym c.in-Some.ensures.byte in
    let here = inside c.args.memory.now l.at b byte in
    let left = one_left (length c.args.memory.now.bytes) l.count (omega (arith, here.base, here.within, l.invariant.inside)) in
    let some = not_zero b c.in-Some.field-0-test.1 in
    record {
      place = omega (arith, l.invariant.place);
      ticks = omega (arith, c.loop-count-test.true);
      inside = omega (arith, here.base, l.invariant.inside);
      goes_on = λ fun stack f s same ticks.
          let t = with_ticks (c.args.ticks + l.count) s in
          let all : c.args.ticks + l.count + 1 ≡ c.args.ticks + (l.count + 1) = omega arith in
          l.invariant.goes_on fun stack f s same ticks
          ∙ ap (λ n. count_from n fun c.args.budget l.at l.count stack f t) left
          ∙ one_more (length c.args.memory.now.bytes - (l.count + 1)) fun c.args.budget l.at l.count (b - 1) stack f t (omega (arith, c.loop-count-test.true)) (rw same (byte ∙ ap Some some))
          ∙ ap (λ n. count_from (length c.args.memory.now.bytes - (l.count + 1)) fun c.args.budget (l.at + 1) (l.count + 1) stack f (with_ticks n s)) all;
    }

pub returns-clause-walked : goal.returns-clause-walked
returns-clause-walked c = λ fun stack f s same ticks.
    let l = c.loop-count in
    let t = with_ticks (c.args.ticks + l.count) s in
    l.invariant.goes_on fun stack f s same ticks ∙ no_tick (length c.args.memory.now.bytes - l.count) fun c.args.budget l.at l.count stack f t (omega (arith, c.loop-count-test.false))
