-- Words that are kept aside in the slots behind the locals, at a place of a function where the meaning's state stays the same.
use Rattle.std.proofs.Common.{◌≡◌, ℕ, suc, ◌+◌, ◌<◌, true, List, [], ◌∷◌, ◌++◌, length, map, Some, refl, ap, ◌∙◌, arith, length-append}
use Rattle.std.specs.Prelude.{slice_get, slice_set, nat_lt}
use Rattle.std.proofs.lemmas.List.{length-map}
use Rattle.std.proofs.lemmas.Bool.Decides.{nat_tests}
use Rattle.ckc_core.specs.States as meaning
use Rattle.ckc_core.specs.States.{shapes}
use Rattle.code_words.specs.Table.{Goes, act, push, push_some, set_if}
use Rattle.code_words.specs.Table as table
use Rattle.code_words.specs.declared.op.Op.{Op}
use Rattle.code_words.specs.declared.op.Op.TheVariants as ops
use Rattle.lowering.specs.Code.{pointer_slot, number_slot}
use Rattle.lowering.proofs.Executions.{Execution, image, word_by, slots_by}
use Rattle.lowering.proofs.Steps.{Reached, one_move, Layout, Scratch, words, Holds, code, frame, standing, Kept, Here, fetched}

-- ---- lists

behind_there : {X Y : Type 0} (f : X → Y) (xs : List X) (ys : List Y) (k : ℕ) → slice_get (map f xs ++ ys) (length xs + k) ≡ slice_get ys k
behind_there f [] ys k = let e : 0 + k ≡ k = omega arith in ap (slice_get ys) e
behind_there f (x ∷ xs) ys k =
    let e : suc (length xs) + k ≡ suc (length xs + k) = omega arith in
    ap (slice_get (f x ∷ (map f xs ++ ys))) e ∙ behind_there f xs ys k

behind_set : {X Y : Type 0} (f : X → Y) (xs : List X) (ys : List Y) (k : ℕ) (y : Y) → slice_set (map f xs ++ ys) (length xs + k) y ≡ map f xs ++ slice_set ys k y
behind_set f [] ys k y = let e : 0 + k ≡ k = omega arith in ap (λ n. slice_set ys n y) e
behind_set f (x ∷ xs) ys k y =
    let e : suc (length xs) + k ≡ suc (length xs + k) = omega arith in
    ap (λ n. slice_set (f x ∷ (map f xs ++ ys)) n y) e ∙ ap (λ l. f x ∷ l) (behind_set f xs ys k y)

module _ (g : Execution) (l : Layout g) where
  -- the run is at a place of the function, with these words behind the locals
  pub record Stands (next : ℕ) (c : Scratch) (stack : List ℕ) (s : meaning.State) : Type 0 where
    pub kept : Kept g l s
    pub reached : Reached g (standing g l next c stack s)

  abbrev pub slots : Scratch → meaning.State → List ℕ
  slots c s = slots_by g (shapes s.blocks) s.locals ++ words c

  pub stands_here : (next : ℕ) (stack : List ℕ) (s : meaning.State) → (h : Here g l next stack s) → Stands next h.scratch stack s
  stands_here next stack s h = record { kept = h.kept; reached = h.reached }

  pub here_stands : (next : ℕ) (c : Scratch) (stack : List ℕ) (s : meaning.State) → Holds l.held c → Stands next c stack s → Here g l next stack s
  here_stands next c stack s holds st = record { scratch = c; holds = holds; kept = st.kept; reached = st.reached }

  -- an instruction leads to another place
  pub stand_on : (next : ℕ) (c : Scratch) (old : List ℕ) (s : meaning.State) (op : Op) (next' : ℕ) (c' : Scratch) (new : List ℕ) → Stands next c old s → slice_get (code g l).ops next ≡ Some op → act (image g) g.settings (code g l) op (frame g l next c old s) (standing g l next c old s) ≡ Goes (standing g l next' c' new s) → Stands next' c' new s
  stand_on next c old s op next' c' new st at goes = record { kept = st.kept; reached = one_move g _ _ st.reached (fetched g l next c old s op at ∙ goes) }

  -- a word is pushed
  pub stand_push : (next : ℕ) (c : Scratch) (old : List ℕ) (s : meaning.State) (op : Op) (w : ℕ) (stack : List ℕ) → Stands next c old s → slice_get (code g l).ops next ≡ Some op → length stack < (code g l).stack → act (image g) g.settings (code g l) op (frame g l next c old s) (standing g l next c old s) ≡ push (code g l) w stack (frame g l next c old s) (standing g l next c old s) → Stands (next + 1) c (w ∷ stack) s
  stand_push next c old s op w stack st at room is =
      let test : nat_lt (length stack) (code g l).stack ≡ true = grind (arith, nat_tests) in
      stand_on next c old s op (next + 1) c (w ∷ stack) st at (is ∙ rw test refl)

  -- the word of a slot
  pub stand_slot : (next : ℕ) (c : Scratch) (stack : List ℕ) (s : meaning.State) (k w : ℕ) → slice_get (slots c s) k ≡ Some w → Stands next c stack s → slice_get (code g l).ops next ≡ Some (ops.Local k) → length stack < (code g l).stack → Stands (next + 1) c (w ∷ stack) s
  stand_slot next c stack s k w is st at room =
      stand_push next c stack s (ops.Local k) w stack st at room (ap (λ o. push_some (code g l) o stack (frame g l next c stack s) (standing g l next c stack s)) is)

  -- a word is put into a slot behind the locals
  stand_set : (next : ℕ) (c : Scratch) (stack : List ℕ) (s : meaning.State) (k i w : ℕ) (c' : Scratch) → k ≡ length s.locals + i → i < 3 → slice_set (words c) i w ≡ words c' → Stands next c (w ∷ stack) s → slice_get (code g l).ops next ≡ Some (ops.Set k) → Stands (next + 1) c' stack s
  stand_set next c stack s k i w c' e low is st at =
      let word = λ (x : meaning.Local). word_by g (shapes s.blocks) x.value in
      let long = length-append (slots_by g (shapes s.blocks) s.locals) (words c) in
      let many = length-map s.locals word in
      let room : nat_lt k (length (slots c s)) ≡ true = grind (arith, nat_tests) in
      let fr = frame g l next c (w ∷ stack) s in
      let u = standing g l next c (w ∷ stack) s in
      stand_on next c (w ∷ stack) s (ops.Set k) (next + 1) c' stack st at
      (ap (λ yes. set_if yes k w stack fr u) room
      ∙ ap (λ n. table.on_with (record fr { slots = slice_set (slots c s) n w }) stack u) e
      ∙ ap (λ l. table.on_with (record fr { slots = l }) stack u) (behind_set word s.locals (words c) i w ∙ ap (λ l. slots_by g (shapes s.blocks) s.locals ++ l) is))

  module _ (slot : ℕ) (is : slot ≡ length l.function.locals) where
    -- where the slots are
    slot_at : (s : meaning.State) (k : ℕ) → Kept g l s → slot + k ≡ length s.locals + k
    slot_at s k kept = omega (arith, is, kept.count)

    pub pointer_set : (next : ℕ) (c : Scratch) (stack : List ℕ) (s : meaning.State) (w : ℕ) → Stands next c (w ∷ stack) s → slice_get (code g l).ops next ≡ Some (ops.Set (pointer_slot slot)) → Stands (next + 1) (record c { pointer = w }) stack s
    pointer_set next c stack s w st at = stand_set next c stack s (pointer_slot slot) 1 w (record c { pointer = w }) (slot_at s 1 st.kept) (omega arith) refl st at

    pub number_set : (next : ℕ) (c : Scratch) (stack : List ℕ) (s : meaning.State) (w : ℕ) → Stands next c (w ∷ stack) s → slice_get (code g l).ops next ≡ Some (ops.Set (number_slot slot)) → Stands (next + 1) (record c { number = w }) stack s
    number_set next c stack s w st at = stand_set next c stack s (number_slot slot) 2 w (record c { number = w }) (slot_at s 2 st.kept) (omega arith) refl st at

    pub value_there : (c : Scratch) (s : meaning.State) → Kept g l s → slice_get (slots c s) slot ≡ Some c.value
    value_there c s kept =
        let first : slot ≡ length s.locals + 0 = omega (arith, is, kept.count) in
        ap (slice_get (slots c s)) first ∙ behind_there (λ (x : meaning.Local). word_by g (shapes s.blocks) x.value) s.locals (words c) 0

    pub pointer_there : (c : Scratch) (s : meaning.State) → Kept g l s → slice_get (slots c s) (pointer_slot slot) ≡ Some c.pointer
    pointer_there c s kept = ap (slice_get (slots c s)) (slot_at s 1 kept) ∙ behind_there (λ (x : meaning.Local). word_by g (shapes s.blocks) x.value) s.locals (words c) 1

    pub number_there : (c : Scratch) (s : meaning.State) → Kept g l s → slice_get (slots c s) (number_slot slot) ≡ Some c.number
    number_there c s kept = ap (slice_get (slots c s)) (slot_at s 2 kept) ∙ behind_there (λ (x : meaning.Local). word_by g (shapes s.blocks) x.value) s.locals (words c) 2
