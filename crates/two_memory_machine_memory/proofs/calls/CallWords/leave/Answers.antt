use Rattle.std.proofs.lemmas.Bool.Decides.{nat_tests}
use Rattle.std.proofs.Common.{◌≡◌, ◌<◌, ◌+◌, ◌-◌, ◌∷◌, get_or, subst, sym, ap, refl, ◌∙◌, arith, length}
use Rattle.std.proofs.lemmas.Option.{slice_get_read, slice_get_within, get_or_from_slice_get}
use Rattle.code_words.specs.Functions.{Func}
use Rattle.two_memory_machine_memory.specs.declared.calls.Row.{Row}
use Rattle.two_memory_machine_memory.specs.declared.calls.CallWords.TheInside.{Inside}
use Rattle.two_memory_machine_memory.specs.CallInsides.{AreStacked, IsConsistent, call_stack, behind_rows, behind_row}
use Rattle.two_memory_machine_memory.proofs.Stacked.{IsLast, last_row, one_row, fun_there, length-behind_rows}
use Rattle.two_memory_machine_memory.proofs.calls.CallWords.leave.Goals as goal
use Rattle.two_memory_machine_memory.proofs.calls.CallWords.leave.Goals.{Start}

-- some calls wait
some_wait : (i : Inside) → IsConsistent i → 0 < length (call_stack i).behind → 0 < i.count
some_wait i h some = omega (arith, length-behind_rows i.funs.now i.stride i.words.items i.rows.items i.count i.extent.base h.behind)

last_of : (i : Inside) → IsConsistent i → (row : Row) → 0 < i.count → row ≡ get_or i.rows.items (i.count - 1) row → IsLast i.funs.now i.stride i.words.items i.rows.items (i.count - 1) i.extent.base row
last_of i h row some read =
    let there = slice_get_read i.rows.items 1000 (i.count - 1) row (sym h.rows) (omega (arith, h.few)) read in
    last_row i.funs.now i.stride i.words.items i.rows.items (i.count - 1) i.extent.base row there (subst (λ n. AreStacked i.funs.now i.stride i.rows.items n i.extent.base) (one_row i.count some) h.behind)

split : (i : Inside) (row : Row) → 0 < i.count → IsLast i.funs.now i.stride i.words.items i.rows.items (i.count - 1) i.extent.base row → (call_stack i).behind ≡ behind_row i.words.items row ∷ behind_rows i.words.items i.rows.items (i.count - 1)
split i row some last = ap (behind_rows i.words.items i.rows.items) (one_row i.count some) ∙ last.first

pub bounds-self-inside-function : goal.bounds-self-inside-function
bounds-self-inside-function c =
    let i = c.self.inside in
    let some = some_wait i c.self.invariant (rw (← c.self.view_is) at c.requires) in
    let last = last_of i c.self.invariant c.index.result.now some c.index.ensures in
    slice_get_within i.funs.now c.index.result.now.function last.call.f last.call.there

pub invariant_of-self : goal.invariant_of-self
invariant_of-self c =
    let i = c.self.inside in
    let h = c.self.invariant in
    let some = some_wait i h (rw (← c.self.view_is) at c.requires) in
    let row = c.index.result.now in
    let last = last_of i h row some c.index.ensures in
    let read = get_or_from_slice_get i.funs.now row.function last.call.f c.index-self-function.result last.call.there in
    record {
      there = fun_there i.funs.now row.function last.call.f c.index-self-function.result last.call.there;
      ops = c.ops-self-inside.ensures.ops;
      room = last.call.room ∙ ap (λ (f : Func). row.extent.room + f.stack) (sym read);
      order = record { slots = last.order.slots; room = last.order.room; stack = last.order.stack; within = last.fits };
      behind = last.below;
      few = omega (arith, h.few);
      rows = h.rows;
      words = h.words;
      frames = h.frames;
      stride = h.stride;
    }

pub returns-clause-back : goal.returns-clause-back
returns-clause-back c = λ b rest e.
    let i = c.self.inside in
    let h = c.self.invariant in
    let some = some_wait i h (rw (← c.self.view_is) at c.requires) in
    let row = c.index.result.now in
    let last = last_of i h row some c.index.ensures in
    let behind : behind_row i.words.items row ∷ behind_rows i.words.items i.rows.items (i.count - 1) ≡ b ∷ rest = sym (split i row some last) ∙ rw (← c.self.view_is) at e in
    let first : behind_row i.words.items row ≡ b = cc in
    let later : behind_rows i.words.items i.rows.items (i.count - 1) ≡ rest = cc in
    rw (← c.self.view_is, ← first, ← later) refl

pub returns-clause-there : goal.returns-clause-there
returns-clause-there c =
    let i = c.self.inside in
    let some = some_wait i c.self.invariant (rw (← c.self.view_is) at c.requires) in
    let last = last_of i c.self.invariant c.index.result.now some c.index.ensures in
    fun_there i.funs.now c.index.result.now.function last.call.f c.index-self-function.result last.call.there

pub overflow_sub-self : goal.overflow_sub-self
overflow_sub-self c = grind (arith, nat_tests)
