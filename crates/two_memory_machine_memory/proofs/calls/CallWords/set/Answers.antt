use Rattle.std.proofs.Common.{◌≡◌, ◌+◌, length, nat_lt, true, refl, sym, arith}
use Rattle.std.specs.Prelude.{slice_set}
use Rattle.std.proofs.lemmas.Bool.Decides.{nat_tests}
use Rattle.two_memory_machine_memory.specs.CallInsides.{window, call_stack, behind_rows}
use Rattle.two_memory_machine_memory.proofs.Windows.{window-set_before, window-set_in}
use Rattle.two_memory_machine_memory.proofs.Stacked.{same_set, rows_same, length-slots}
use Rattle.two_memory_machine_memory.proofs.calls.CallWords.set.Goals as goal

pub returns-clause-after : goal.returns-clause-after
returns-clause-after c =
    let i = c.self.inside in
    let words = i.words.items in
    let k = c.args.k in
    let at = i.extent.base + k in
    let w = c.args.word in
    let h = c.self.invariant in
    let slots : window i.extent.base i.extent.room (slice_set words at w) ≡ slice_set (window i.extent.base i.extent.room words) k w =
    window-set_in i.extent.base i.extent.room k words w (omega (arith, c.if-at-self.false)) in
    let stack : window i.extent.top i.extent.end (slice_set words at w) ≡ window i.extent.top i.extent.end words =
    window-set_before i.extent.top i.extent.end at words w (omega (arith, c.if-at-self.false, h.order.room)) h.order.stack in
    let behind : behind_rows (slice_set words at w) i.rows.items i.count ≡ behind_rows words i.rows.items i.count =
    rows_same i.funs.now i.stride i.rows.items i.count i.extent.base _ words h.behind (same_set i.extent.base at w words (omega arith)) in
    rw (← c.self.view_is, slots, stack, behind) refl

pub returns-clause-there : goal.returns-clause-there
returns-clause-there c =
    let i = c.self.inside in
    let len = length-slots i c.self.invariant in
    let there : nat_lt c.args.k (length (call_stack i).frame.slots) ≡ true = grind (arith, nat_tests, len, c.if-at-self.false) in
    rw (← c.self.view_is) (sym there)
