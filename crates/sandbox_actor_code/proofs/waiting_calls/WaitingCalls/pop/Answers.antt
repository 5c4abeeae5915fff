use Rattle.std.proofs.Common.{◌≡◌, ◌-◌, ◌<◌, ◌∷◌, Some, length, get_or, refl, subst, sym, ◌∙◌, arith}
use Rattle.std.specs.Prelude.{slice_get}
use Rattle.std.proofs.lemmas.Option.{slice_get_read}
use Rattle.sandbox_actor_code.specs.declared.waiting_calls.WaitingCall.{WaitingCall}
use Rattle.sandbox_actor_code.specs.WaitingInsides.{waiting, first_rows}
use Rattle.sandbox_actor_code.proofs.WaitingRows.{first-set, first-last, length-first}
use Rattle.sandbox_actor_code.proofs.waiting_calls.WaitingCalls.pop.Goals as goal

pub returns-clause-calls : goal.returns-clause-calls
returns-clause-calls c = λ w rest e.
    let i = c.self.inside in
    let h = c.self.invariant in
    let rows = i.rows.items in
    let n = i.count - 1 in
    let row : WaitingCall = c.index_mut.result.now in
    let waits : 0 < length (waiting i).calls = rw (← c.self.view_is) at c.requires.some in
    let some : 0 < i.count = omega (arith, waits, length-first rows i.count (omega (arith, h.count, h.rows))) in
    let low : n < length rows = omega (arith, some, h.count, h.rows) in
    let read : row ≡ get_or rows n row = c.index_mut.ensures.value in
    let there : slice_get rows n ≡ Some row = slice_get_read rows 1000 n row (sym h.rows) (omega (arith, low, h.rows)) read in
    let all : row ∷ first_rows rows n ≡ w ∷ rest = sym (first-last rows i.count row some there) ∙ rw (← c.self.view_is) at e in
    let first : row ≡ w = cc in
    let later : first_rows rows n ≡ rest = cc in
    let room : row.call.room ≡ i.room = subst (λ (r : WaitingCall). r.call.room ≡ i.room) (sym read) (h.room n row low) in
    let changed : WaitingCall = record { call = c.swap.new.y; awaited = row.awaited } in
    rw (← c.self.view_is, first-set rows n n changed (omega arith), c.swap.ensures.x_after, ← first, ← later) (refl, refl, room)

pub returns-clause-few : goal.returns-clause-few
returns-clause-few c =
    let i = c.self.inside in
    let h = c.self.invariant in
    let rows = i.rows.items in
    let row : WaitingCall = c.index_mut.result.now in
    let changed : WaitingCall = record { call = c.swap.new.y; awaited = row.awaited } in
    let waits : 0 < length (waiting i).calls = rw (← c.self.view_is) at c.requires.some in
    let some : 0 < i.count = omega (arith, waits, length-first rows i.count (omega (arith, h.count, h.rows))) in
    rw (first-set rows (i.count - 1) (i.count - 1) changed (omega arith)) (omega (arith, length-first rows (i.count - 1) (omega (arith, h.count, h.rows)), some, h.count))
