-- The calls that wait, what stands behind a call, and words that were found on a stack.
use Rattle.std.proofs.Common.{◌≡◌, ℕ, suc, ◌≤◌, Bool, true, false, nat_le, if◌then◌else◌, List, [], ◌∷◌, Some, None, length, take, drop, reverse, refl, sym, ap, ◌∙◌, arith}
use Rattle.std.specs.Prelude.{slice_get}
use Rattle.std.proofs.lemmas.Bool.Decides.{nat_tests}
use Rattle.std.proofs.lemmas.List.{length-take-le, length-reverse}
use Rattle.std.proofs.lemmas.Option.{same_Some}
use Rattle.code_words.specs.SandboxCode.{Calls, Entered, CallsBack, State, depth}
use Rattle.sandbox_actor_code.specs.declared.waiting_calls.Awaited.{Awaited}
use Rattle.sandbox_actor_code.specs.declared.waiting_calls.Awaited.TheVariants as awaited
use Rattle.sandbox_actor_code.specs.declared.waiting_calls.WaitingCall.{WaitingCall}
use Rattle.sandbox_actor_code.specs.WaitingStacks.{awaited_of}
use Rattle.sandbox_actor_code.specs.CodeInsides.{IsCallback, WaitsForReply}
use Rattle.sandbox_actor_code.specs.Codes.{held_by, held_behind, held_first, held_at_rest, two_topmost, top_words_of}

-- as many calls are open as wait
pub open_behind : (calls : List WaitingCall) (s : State) → depth (record s { held = held_behind calls }) ≡ length calls
open_behind [] s = refl
open_behind (w ∷ calls) s = by w.awaited (open_behind calls s)
  where
    by : (a : Awaited) → depth (record s { held = held_behind calls }) ≡ length calls → depth (record s { held = held_by a w.call.frame (held_behind calls) }) ≡ suc (length calls)
    by awaited.Function e = ap suc e
    by (awaited.Callback k) e = ap suc e

pub open_at_rest : (calls : List WaitingCall) (s : State) → depth (record s { held = held_at_rest calls }) ≡ length calls
open_at_rest [] s = refl
open_at_rest (w ∷ calls) s = by w.awaited (open_behind calls s)
  where
    by : (a : Awaited) → depth (record s { held = held_behind calls }) ≡ length calls → depth (record s { held = held_first a w.call.frame (held_behind calls) }) ≡ suc (length calls)
    by awaited.Function e = ap suc e
    by (awaited.Callback k) e = ap suc e

-- a call that begins where none runs was entered
pub entered_behind : (calls : List WaitingCall) → WaitsForReply calls → held_behind calls ≡ Entered ∷ held_at_rest calls
entered_behind [] waits = refl
entered_behind (w ∷ calls) waits = by w.awaited waits
  where
    by : (a : Awaited) → IsCallback a → held_by a w.call.frame (held_behind calls) ≡ Entered ∷ held_first a w.call.frame (held_behind calls)
    by awaited.Function h = absurd h
    by (awaited.Callback k) h = refl

-- the innermost call that waits
pub first_waits : (calls : List WaitingCall) (a : Awaited) → awaited_of calls ≡ Some a → (w : WaitingCall) × (rest : List WaitingCall) × (calls ≡ w ∷ rest) × (w.awaited ≡ a)
first_waits [] a e = absurd (cc)
first_waits (w ∷ calls) a e = (w, calls, refl, cc)

pub none_waits : (calls : List WaitingCall) → awaited_of calls ≡ None → calls ≡ []
none_waits [] e = refl
none_waits (w ∷ calls) e = absurd (cc)

-- behind a call that runs, where a function waits for it
pub behind_function : (calls : List WaitingCall) (w : WaitingCall) (rest : List WaitingCall) → calls ≡ w ∷ rest → w.awaited ≡ awaited.Function → held_behind calls ≡ Calls w.call.frame ∷ held_behind rest
behind_function calls w rest e a = ap held_behind e ∙ rw a refl

-- where none runs, and a reply is waited for
pub rests_for_reply : (calls : List WaitingCall) (w : WaitingCall) (rest : List WaitingCall) (k : ℕ) → calls ≡ w ∷ rest → w.awaited ≡ awaited.Callback k → held_at_rest calls ≡ CallsBack w.call.frame k ∷ held_behind rest
rests_for_reply calls w rest k e a = ap held_at_rest e ∙ rw a refl

-- then no function is waited for
pub no_function : (calls : List WaitingCall) → WaitsForReply calls → awaited_of calls ≡ Some awaited.Function → ⊥
no_function [] waits e = let h : None ≡ Some awaited.Function = e in cc
no_function (w ∷ calls) waits e = let is : w.awaited ≡ awaited.Function = cc in rw is at waits

-- ---- words that were found

pub one_found : (stack : List ℕ) (w : ℕ) → Some w ≡ slice_get stack 0 → stack ≡ w ∷ drop 1 stack
one_found [] w h = absurd (cc)
one_found (v ∷ stack) w h = let same : v ≡ w = cc in rw same refl

pub two_found : (stack : List ℕ) (a b : ℕ) → Some (a, b) ≡ two_topmost stack → stack ≡ b ∷ a ∷ drop 2 stack
two_found [] a b h = absurd (cc)
two_found (_ ∷ []) a b h = absurd (cc)
two_found (b' ∷ a' ∷ stack) a b h =
    let all : (a, b) ≡ (a', b') = same_Some _ _ h in
    ap (λ (t : ℕ × ℕ). t.1 ∷ t.0 ∷ stack) (sym all)

pub record AreTop (n : ℕ) (stack words : List ℕ) : Type 0 where
  pub enough : nat_le n (length stack) ≡ true
  pub same : words ≡ reverse (take n stack)
  pub count : length words ≡ n

pub are_top : (n : ℕ) (stack words : List ℕ) → Some words ≡ top_words_of n stack → AreTop n stack words
are_top n stack words h = by (nat_le n (length stack)) refl h
  where
    by : (b : Bool) → nat_le n (length stack) ≡ b → Some words ≡ (if b then Some (reverse (take n stack)) else None) → AreTop n stack words
    by true e f =
        let is : words ≡ reverse (take n stack) = cc in
        let low : n ≤ length stack = grind (arith, nat_tests) in
        record { enough = e; same = is; count = ap length is ∙ length-reverse (take n stack) ∙ length-take-le n stack low }
    by false e f = cc
