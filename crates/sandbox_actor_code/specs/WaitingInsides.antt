-- The fields of the calls that wait: what callers see of them, and what is always true of them.
use Rattle.std.specs.Prelude.{◌≡◌, ℕ, zero, suc, ◌≤◌, List, [], ◌∷◌, All, length, Option, Some, None, slice_get}
use Rattle.sandbox_actor_code.specs.declared.waiting_calls.WaitingCall.{WaitingCall}
use Rattle.sandbox_actor_code.specs.declared.waiting_calls.WaitingCalls.TheInside.{Inside}
use Rattle.sandbox_actor_code.specs.WaitingStacks.{Waiting}

-- a row that is there stands before others
abbrev pub with_row : Option WaitingCall → List WaitingCall → List WaitingCall
with_row None calls = calls
with_row (Some row) calls = row ∷ calls

-- the first rows, the last of them first
abbrev pub first_rows : List WaitingCall → ℕ → List WaitingCall
first_rows rows zero = []
first_rows rows (suc n) = with_row (slice_get rows n) (first_rows rows n)

-- what callers see
abbrev pub waiting : Inside → Waiting
waiting w = record { calls = first_rows w.rows.items w.count; room = w.room }

-- there are 1,000 rows, and each has the room
pub record IsConsistent (w : Inside) : Type 0 where
  pub count : w.count ≤ 1000
  pub rows : length w.rows.items ≡ 1000
  pub room : All (λ (row : WaitingCall). row.call.room ≡ w.room) w.rows.items
