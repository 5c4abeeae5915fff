use Rattle.std.proofs.Common.{◌≡◌, ◌<◌, length, get_or, refl, subst, sym, ap, ◌∙◌, arith}
use Rattle.std.proofs.Math.ListN.{length-set}
use Rattle.std.proofs.lemmas.List.Elements.{All-set}
use Rattle.sandbox_actor_code.specs.CallFrames.{Call}
use Rattle.sandbox_actor_code.specs.declared.waiting_calls.WaitingCall.{WaitingCall}
use Rattle.sandbox_actor_code.specs.declared.waiting_calls.WaitingCalls.TheInside.{Inside}
use Rattle.sandbox_actor_code.specs.WaitingInsides.{waiting, IsConsistent}
use Rattle.sandbox_actor_code.proofs.WaitingRows.{first-more, length-first}
use Rattle.sandbox_actor_code.proofs.waiting_calls.WaitingCalls.push.Goals as goal

-- a row is free
free : (i : Inside) → IsConsistent i → length (waiting i).calls < 1000 → i.count < length i.rows.items
free i h few = omega (arith, few, length-first i.rows.items i.count (omega (arith, h.count, h.rows)), h.rows)

pub index_mut-row-requires : goal.index_mut-row-requires
index_mut-row-requires c =
    let i = c.self.inside in
    omega (arith, free i c.self.invariant (rw (← c.self.view_is) at c.requires.few), i.rows.ok.0)

pub invariant_of-self : goal.invariant_of-self
invariant_of-self c =
    let i = c.self.inside in
    let h = c.self.invariant in
    let row : WaitingCall = record { call = c.swap.new.y; awaited = c.args.awaited } in
    let low = free i h (rw (← c.self.view_is) at c.requires.few) in
    let room : c.swap.new.y.room ≡ i.room = ap (λ (f : Call). f.room) c.swap.ensures.y_after ∙ rw (← c.self.view_is) at c.requires.room in
    record {
      count = omega (arith, low, h.rows);
      rows = length-set i.rows.items i.count row ∙ h.rows;
      room = All-set (λ (r : WaitingCall). r.call.room ≡ i.room) i.rows.items i.count row room h.room;
    }

pub returns-clause-calls : goal.returns-clause-calls
returns-clause-calls c =
    let i = c.self.inside in
    let row : WaitingCall = record { call = c.swap.new.y; awaited = c.args.awaited } in
    let low = free i c.self.invariant (rw (← c.self.view_is) at c.requires.few) in
    rw (← c.self.view_is, first-more i.rows.items i.count row low, c.swap.ensures.y_after) refl

pub returns-clause-room : goal.returns-clause-room
returns-clause-room c =
    let i = c.self.inside in
    let h = c.self.invariant in
    let row : WaitingCall = c.index_mut-row.result.now in
    let read : row ≡ get_or i.rows.items i.count row = c.index_mut-row.ensures.value in
    let low = free i h (rw (← c.self.view_is) at c.requires.few) in
    let room : row.call.room ≡ i.room = subst (λ (r : WaitingCall). r.call.room ≡ i.room) (sym read) (h.room i.count row low) in
    rw (← c.self.view_is) (ap (λ (f : Call). f.room) c.swap.ensures.x_after ∙ room)
