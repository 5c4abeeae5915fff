-- The calls behind the innermost one stay where nothing is written below a limit.
use Rattle.std.proofs.Common.{◌≡◌, ℕ, zero, suc, ◌+◌, ◌-◌, ◌<◌, ◌≤◌, ◌*◌, List, [], ◌∷◌, Option, Some, None, length, take, drop, get_or, refl, sym, subst, ap, ◌∙◌, arith}
use Rattle.std.specs.Prelude.{slice_get, slice_set}
use Rattle.std.proofs.lemmas.List.{take-set-le, take-take}
use Rattle.std.proofs.lemmas.Option.{get_or_from_slice_get, slice_get_within}
use Rattle.std.proofs.Math.Nat.{mul-le-mul_left}
use Rattle.code_words.specs.Functions.{Func}
use Rattle.two_memory_machine_memory.specs.declared.calls.Row.{Row}
use Rattle.two_memory_machine_memory.specs.declared.calls.Link.{Link}
use Rattle.two_memory_machine_memory.specs.declared.calls.CallWords.TheInside.{Inside}
use Rattle.two_memory_machine_memory.specs.CallInsides.{behind_row, behind_rows, call_stack, window, InOrder, IsCall, AreStacked, IsConsistent}
use Rattle.two_memory_machine_memory.proofs.Windows.{length-window, drop-window}

plus_one : (n : ℕ) → n + 1 ≡ suc n
plus_one n = omega arith

-- two lists are the same below a place
pub record AreSame (limit : ℕ) (a b : List ℕ) : Type 0 where
  pub front : (high : ℕ) → high ≤ limit → take high a ≡ take high b

pub same_set : (limit i w : ℕ) (words : List ℕ) → limit ≤ i → AreSame limit (slice_set words i w) words
same_set limit i w words h = record { front = λ high k. take-set-le high words i w (omega arith) }

pub row_same : (row : Row) (limit : ℕ) (a b : List ℕ) → InOrder row.extent limit → AreSame limit a b → behind_row a row ≡ behind_row b row
row_same row limit a b order same =
    let e = row.extent in
    let slots : window e.base e.room a ≡ window e.base e.room b = ap (drop e.base) (same.front e.room (omega (arith, order.within, order.stack, order.room))) in
    let stack : window e.top e.end a ≡ window e.top e.end b = ap (drop e.top) (same.front e.end order.within) in
    cc

pub rows_same : (funs : List Func) (stride : ℕ) (rows : List Row) (n limit : ℕ) (a b : List ℕ) → AreStacked funs stride rows n limit → AreSame limit a b → behind_rows a rows n ≡ behind_rows b rows n
rows_same funs stride rows zero limit a b stacked same = refl
rows_same funs stride rows (suc n) limit a b stacked same = by (slice_get rows n) refl stacked (rows_same funs stride rows n)
  where
    by : (row : Option Row) → slice_get rows n ≡ row → AreStacked funs stride rows (suc n) limit → ((limit : ℕ) (a b : List ℕ) → AreStacked funs stride rows n limit → AreSame limit a b → behind_rows a rows n ≡ behind_rows b rows n) → behind_rows a rows (suc n) ≡ behind_rows b rows (suc n)
    by None found h rest = absurd (rw found at h)
    by (Some row) found h rest =
        let all = rw found at h in
        let first : behind_row a row ≡ behind_row b row = row_same row limit a b all.0 same in
        let later : behind_rows a rows n ≡ behind_rows b rows n =
        rest row.extent.base a b all.3 (record { front = λ high k. same.front high (omega (arith, all.0.slots, all.0.room, all.0.stack, all.0.within)) }) in
        rw (found, first, later) refl

-- ---- the innermost frame

-- it lies in the words
pub end_within : (i : Inside) → IsConsistent i → i.extent.end ≤ length i.words.items
end_within i h =
    let few : i.count + 1 ≤ 1000 = omega (arith, h.few) in
    omega (arith, h.order.within, h.words, mul-le-mul_left i.stride few)

pub length-stack : (i : Inside) → IsConsistent i → length (call_stack i).frame.stack ≡ i.extent.end - i.extent.top
length-stack i h = length-window i.extent.top i.extent.end i.words.items (end_within i h)

pub length-slots : (i : Inside) → IsConsistent i → length (call_stack i).frame.slots ≡ i.extent.room - i.extent.base
length-slots i h = length-window i.extent.base i.extent.room i.words.items (omega (arith, end_within i h, h.order.room, h.order.stack))

-- how many words are left where some are popped
pub length-below : (i : Inside) → IsConsistent i → (popped : ℕ) → length (drop popped (call_stack i).frame.stack) ≡ i.extent.end - (i.extent.top + popped)
length-below i h popped = ap length (drop-window popped i.extent.top i.extent.end i.words.items) ∙ length-window (i.extent.top + popped) i.extent.end i.words.items (end_within i h)

-- ---- rows

pub slice_get-set_other : {A : Type 0} (xs : List A) (i k : ℕ) (x : A) → k < i → slice_get (slice_set xs i x) k ≡ slice_get xs k
slice_get-set_other [] i k x h = refl
slice_get-set_other (y ∷ ys) zero k x h = absurd (omega arith)
slice_get-set_other (y ∷ ys) (suc i) zero x h = refl
slice_get-set_other (y ∷ ys) (suc i) (suc k) x h = slice_get-set_other ys i k x (omega arith)

pub slice_get-set_same : {A : Type 0} (xs : List A) (i : ℕ) (x : A) → i < length xs → slice_get (slice_set xs i x) i ≡ Some x
slice_get-set_same [] i x h = absurd (omega arith)
slice_get-set_same (y ∷ ys) zero x h = refl
slice_get-set_same (y ∷ ys) (suc i) x h = slice_get-set_same ys i x (omega arith)

-- a row is written behind the first ones
pub stacked_set : (funs : List Func) (stride : ℕ) (rows : List Row) (n limit i : ℕ) (row : Row) → n ≤ i → AreStacked funs stride rows n limit → AreStacked funs stride (slice_set rows i row) n limit
stacked_set funs stride rows zero limit i row le h = h
stacked_set funs stride rows (suc n) limit i row le h = by (slice_get rows n) refl (λ m. stacked_set funs stride rows n m i row (omega arith)) h
  where
    by : (found : Option Row) → slice_get rows n ≡ found → ((m : ℕ) → AreStacked funs stride rows n m → AreStacked funs stride (slice_set rows i row) n m) → AreStacked funs stride rows (suc n) limit → AreStacked funs stride (slice_set rows i row) (suc n) limit
    by None e rest all = absurd (rw e at all)
    by (Some first) e rest all =
        let parts = rw e at all in
        rw (slice_get-set_other rows i n row (omega arith), e) (parts.0, parts.1, parts.2, rest first.extent.base parts.3)

pub behind_rows-set : (words : List ℕ) (rows : List Row) (n i : ℕ) (row : Row) → n ≤ i → behind_rows words (slice_set rows i row) n ≡ behind_rows words rows n
behind_rows-set words rows zero i row le = refl
behind_rows-set words rows (suc n) i row le =
    let later = behind_rows-set words rows n i row (omega arith) in
    rw (slice_get-set_other rows i n row (omega arith), later) refl

pub length-behind_rows : (funs : List Func) (stride : ℕ) (words : List ℕ) (rows : List Row) (n limit : ℕ) → AreStacked funs stride rows n limit → length (behind_rows words rows n) ≡ n
length-behind_rows funs stride words rows zero limit h = refl
length-behind_rows funs stride words rows (suc n) limit h = by (slice_get rows n) refl (λ m. length-behind_rows funs stride words rows n m) h
  where
    by : (found : Option Row) → slice_get rows n ≡ found → ((m : ℕ) → AreStacked funs stride rows n m → length (behind_rows words rows n) ≡ n) → AreStacked funs stride rows (suc n) limit → length (behind_rows words rows (suc n)) ≡ suc n
    by None e rest all = absurd (rw e at all)
    by (Some first) e rest all = rw e (ap suc (rest first.extent.base (rw e at all).3))

-- ---- the last of the rows

pub record IsLast (funs : List Func) (stride : ℕ) (words : List ℕ) (rows : List Row) (n limit : ℕ) (row : Row) : Type 0 where
  pub order : InOrder row.extent limit
  pub fits : row.extent.end ≤ stride * (n + 1)
  pub call : IsCall funs row
  pub below : AreStacked funs stride rows n row.extent.base
  pub first : behind_rows words rows (suc n) ≡ behind_row words row ∷ behind_rows words rows n

pub last_row : (funs : List Func) (stride : ℕ) (words : List ℕ) (rows : List Row) (n limit : ℕ) (row : Row) → slice_get rows n ≡ Some row → AreStacked funs stride rows (suc n) limit → IsLast funs stride words rows n limit row
last_row funs stride words rows n limit row e h =
    let parts = rw e at h in
    record { order = parts.0; fits = parts.1; call = parts.2; below = parts.3; first = rw e refl }

-- some rows are one row and those before it
pub one_row : (n : ℕ) → 0 < n → n ≡ suc (n - 1)
one_row zero h = absurd (omega arith)
one_row (suc n) h = ap suc (omega arith)

-- a function that was read is there
pub fun_there : (funs : List Func) (k : ℕ) (f d : Func) → slice_get funs k ≡ Some f → slice_get funs k ≡ Some (get_or funs k d)
fun_there funs k f d e = e ∙ ap Some (sym (get_or_from_slice_get funs k f d e))

-- ---- one more frame

-- no frame has more words than the widest one
pub frame_fits : (i : Inside) → IsConsistent i → (k : ℕ) (f : Func) → slice_get i.funs.now k ≡ Some f → f.slots + f.stack ≤ i.stride
frame_fits i h k f e =
    let fits = h.frames k f (slice_get_within i.funs.now k f e) in
    rw (get_or_from_slice_get i.funs.now k f f e) at fits

-- how far the next frame reaches
pub next_reaches : (i : Inside) → IsConsistent i → (k : ℕ) (f : Func) → slice_get i.funs.now k ≡ Some f → i.extent.end + f.slots + f.stack ≤ i.stride * (i.count + 1 + 1)
next_reaches i h k f e = omega (arith, h.order.within, frame_fits i h k f e)

pub next_within : (i : Inside) → IsConsistent i → (k : ℕ) (f : Func) → slice_get i.funs.now k ≡ Some f → i.count < 999 → i.extent.end + f.slots + f.stack ≤ length i.words.items
next_within i h k f e few =
    let more : i.count + 1 + 1 ≤ 1000 = omega arith in
    omega (arith, next_reaches i h k f e, h.words, mul-le-mul_left i.stride more)

pub count-behind : (i : Inside) → IsConsistent i → length (call_stack i).behind ≡ i.count
count-behind i h = length-behind_rows i.funs.now i.stride i.words.items i.rows.items i.count i.extent.base h.behind

pub same_front : (limit : ℕ) (a b : List ℕ) → take limit a ≡ take limit b → AreSame limit a b
same_front limit a b e = record { front = λ high h. sym (take-take high limit a h) ∙ ap (take high) e ∙ take-take high limit b h }

-- the row of the innermost call
abbrev pub row_of : Inside → Link → Row
row_of i link = record { link = link; function = i.function; next = i.next; extent = i.extent }

-- it is put behind those that are there
pub stacked_more : (i : Inside) (link : Link) → IsConsistent i → AreStacked i.funs.now i.stride (slice_set i.rows.items i.count (row_of i link)) (i.count + 1) i.extent.end
stacked_more i link h =
    let row = row_of i link in
    let found : slice_get (slice_set i.rows.items i.count row) i.count ≡ Some row = slice_get-set_same i.rows.items i.count row (omega (arith, h.few, h.rows)) in
    let order : InOrder i.extent i.extent.end = record { slots = h.order.slots; room = h.order.room; stack = h.order.stack; within = omega arith } in
    let below = stacked_set i.funs.now i.stride i.rows.items i.count i.extent.base i.count row (omega arith) h.behind in
    let call : IsCall i.funs.now row = record { f = i.fun.now; there = h.there; room = h.room } in
    subst (λ n. AreStacked i.funs.now i.stride (slice_set i.rows.items i.count row) n i.extent.end) (sym (plus_one i.count)) (rw found (order, h.order.within, call, below))

pub behind_more : (words : List ℕ) (rows : List Row) (n : ℕ) (row : Row) → n < length rows → behind_rows words (slice_set rows n row) (n + 1) ≡ behind_row words row ∷ behind_rows words rows n
behind_more words rows n row h =
    ap (behind_rows words (slice_set rows n row)) (plus_one n)
    ∙ rw (slice_get-set_same rows n row h) (ap (λ later. behind_row words row ∷ later) (behind_rows-set words rows n n row (omega arith)))
