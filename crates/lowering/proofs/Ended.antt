-- Stores to elements of null-terminated pointers: nothing but 0 goes to the upper end.
use Rattle.std.proofs.Common.{◌≡◌, ℕ, ◌+◌, ◌^◌, ◌<◌, ◌≤◌, Bool, true, false, ℤ, pos, negsuc, ◌+ℤ◌, ◌*ℤ◌, List, [], ◌∷◌, ◌++◌, length, Option, Some, None, refl, sym, ap, ◌∙◌, subst, arith}
use Rattle.std.specs.Prelude.{All, not, ◌==◌, ◌||◌, int_le, ◌&&◌}
use Rattle.std.specs.Ordering.{int_eq}
use Rattle.std.proofs.lemmas.Int.{ints}
use Rattle.std.proofs.lemmas.List.Elements.{recursion_from_All}
use Rattle.ckc_text.specs.declared.code.Code.TheVariants.{C3}
use Rattle.act_words.specs.Numbers.{word}
use Rattle.act_words.specs.Arithmetic as arithmetic
use Rattle.flat_bytes.specs.Blocks.{first_offset}
use Rattle.pointer_modes.specs.Types.{CType}
use Rattle.ckc_core.specs.declared.program.Direction.TheVariants as directions
use Rattle.ckc_core.specs.declared.program.Site.{Site}
use Rattle.ckc_core.specs.Outcome.{Gives, Ends, Stuck, Unsound, Short, and_then}
use Rattle.ckc_core.specs.States.{Value, Number, Null, At, Cell, Grows, shapes, cell_at}
use Rattle.ckc_core.specs.States as meaning
use Rattle.ckc_core.specs.Steps.{Result, is_zero, truth, store_at}
use Rattle.ckc_core.specs.Bounds.{base_byte, term_value, ends_from}
use Rattle.ckc_core.specs.Pointers.{checked_if, cell_behind}
use Rattle.check_insertion.specs.declared.erased.Check.{Check}
use Rattle.check_insertion.specs.declared.erased.Reading.{Reading}
use Rattle.check_insertion.specs.Erased as erased
use Rattle.check_insertion.specs.ErasedMeaning.{pass, far_element, kept_at, storable}
use Rattle.check_insertion.specs.Stacks.{offset_stack}
use Rattle.code_words.specs.Table.{place_at, end_of, same_number}
use Rattle.code_words.specs.Table as table
use Rattle.code_words.specs.declared.op.Op.{Op}
use Rattle.code_words.specs.declared.op.Op.TheVariants as ops
use Rattle.lowering.specs.Code.{Places, Onward, pointer_slot, number_slot, checks_code, checks_size, store_code, term_code, moved_code, offset_code, offset_size, ended_code, ended_size, through_code, through_size}
use Rattle.lowering.specs.Sized.{IsSmall}
use Rattle.lowering.specs.Correct.{offset_from}
use Rattle.ckc_core.proofs.Numbers.{IsNumber}
use Rattle.lowering.proofs.Shapes.{InBlock}
use Rattle.lowering.proofs.Executions.{Execution, word_of, IsKept}
use Rattle.lowering.proofs.Steps.{HasAt, has_front, has_back, Leads, leads_on, Finishes, Layout, Scratch, Holds, code, frame, standing, Here}
use Rattle.lowering.proofs.Sizes.{length_checks, length_offset}
use Rattle.lowering.proofs.Places.{Placed, cell_found, in_block, kept_small, offset_runs, behind_runs, truth_word}
use Rattle.lowering.proofs.Aside.{Stands, stands_here, here_stands, stand_slot, pointer_set, number_set, pointer_there, number_there, value_there}
use Rattle.lowering.proofs.Reaches.{end_is, place_is, le_moved, step_of}
use Rattle.lowering.proofs.Checks.{Passes, tested, base_stands, variable_stands, checks_run}
use Rattle.lowering.proofs.Accesses.{holds_still, moved_stands}
use Rattle.lowering.proofs.Calls.{FlowsTo, Affects, ArePlaces}
use Rattle.lowering.proofs.Stores.{holding, store_runs, value_pushed, value_set}

-- ---- tests

not_twice : (b : Bool) → not (not b) ≡ b
not_twice true = refl
not_twice false = refl

zero_is : (v : Value) → not (truth v) ≡ is_zero v
zero_is (Number z) = not_twice (arithmetic.is_zero z)
zero_is Null = refl
zero_is (At block byte) = refl

-- two numbers that are moved by the same one are equal where they were
equal_moved : (d x y a b : ℤ) → a ≡ d +ℤ x → b ≡ d +ℤ y → same_number a b ≡ int_eq x y
equal_moved d x y a b p q =
    ap (λ z. same_number z b) p ∙ ap (same_number (d +ℤ x)) q ∙ ap (λ t. t && int_le (d +ℤ y) (d +ℤ x)) (le_moved d x y) ∙ ap (λ t. int_le x y && t) (le_moved d y x) ∙ both x y
  where
    both : (x y : ℤ) → (int_le x y && int_le y x) ≡ int_eq x y
    both x y = grind (arith, ints)

module _ (g : Execution) (l : Layout g) (slot : ℕ) (is : slot ≡ length l.function.locals) where
  -- ---- the check of the end (C3)

  term_runs : (next : ℕ) (c : Scratch) (stack : List ℕ) (s : meaning.State) (size : ℕ) (r : Reading) (v : Value) (block byte base : ℕ) (n high : ℤ) → IsNumber n → c.number ≡ word n → c.value ≡ word_of g s v → IsKept s v → base_byte r.bounds.base s.locals block byte ≡ Some base → term_value r.bounds.hi s.locals ≡ Some high → Stands g l next c (word_of g s (At block byte) ∷ stack) s → HasAt (code g l).ops next (term_code slot size r) → length stack + 6 ≤ (code g l).stack
      → Leads (Passes g l (next + 8) stack (At block byte) c s) (Finishes g) (checked_if (is_zero v || not (int_eq (pos byte +ℤ (n *ℤ pos size)) (pos base +ℤ (high *ℤ pos size)))) C3 r.site (Gives tt s) s)
  term_runs next c stack s size r v block byte base n high number aside held kept has_base has_high st at room =
      let p = word_of g s (At block byte) in
      let d : Scratch = record c { pointer = p } in
      let w = word_of g s v in
      let b = word_of g s (At block base) in
      let x = pos byte +ℤ (n *ℤ pos size) in
      let top = pos base +ℤ (high *ℤ pos size) in
      let set = pointer_set g l slot is next c stack s p st at.0 in
      let once = stand_slot g l (next + 1) d stack s (pointer_slot slot) p (pointer_there g l slot is d s set.kept) set at.1.0 (omega arith) in
      let twice = stand_slot g l (next + 1 + 1) d (p ∷ stack) s (pointer_slot slot) p (pointer_there g l slot is d s set.kept) once at.1.1.0 (omega arith) in
      let counted = stand_slot g l (next + 1 + 1 + 1) d (p ∷ (p ∷ stack)) s (number_slot slot) c.number (number_there g l slot is d s set.kept) twice at.1.1.1.0 (omega arith) in
      let based = base_stands g l slot is (next + 1 + 1 + 1 + 1) d (c.number ∷ (p ∷ (p ∷ stack))) s r.bounds.base block byte base refl has_base counted at.1.1.1.1.0 (omega arith) in
      let ended = variable_stands g l (next + 1 + 1 + 1 + 1 + 1) d (b ∷ (c.number ∷ (p ∷ (p ∷ stack)))) s r.bounds.hi.var r.bounds.hi.plus high has_high based at.1.1.1.1.1.0 (omega arith) in
      let valued = stand_slot g l (next + 1 + 1 + 1 + 1 + 1 + 1) d (ended.count ∷ (b ∷ (c.number ∷ (p ∷ (p ∷ stack))))) s slot w (value_there g l slot is d s set.kept ∙ ap Some held) ended.stands at.1.1.1.1.1.1.0 (omega arith) in
      let m = next + 1 + 1 + 1 + 1 + 1 + 1 + 1 in
      let op = ops.Term r.bounds.hi.plus size r.site.place in
      let pile = w ∷ (ended.count ∷ (b ∷ (c.number ∷ (p ∷ (p ∷ stack))))) in
      let a = g.settings.base + offset_from first_offset (shapes s.blocks) block in
      let at_base : b ≡ a + base = omega arith in
      let at_byte : p ≡ a + byte = omega arith in
      let here : place_at p c.number size ≡ pos a +ℤ x = ap (λ k. place_at k c.number size) at_byte ∙ place_is (Onward size) a byte c.number n (aside, number) in
      let there : end_of b ended.count r.bounds.hi.plus size ≡ pos a +ℤ top = ap (λ k. end_of k ended.count r.bounds.hi.plus size) at_base ∙ end_is (Onward size) a base ended.count r.bounds.hi high ended.is in
      let test : (w == 0 || not (same_number (place_at p c.number size) (end_of b ended.count r.bounds.hi.plus size))) ≡ (is_zero v || not (int_eq x top)) =
      ap (λ t. t || not (same_number (place_at p c.number size) (end_of b ended.count r.bounds.hi.plus size))) (truth_word g s v kept ∙ zero_is v)
      ∙ ap (λ t. is_zero v || not t) (equal_moved (pos a) x top (place_at p c.number size) (end_of b ended.count r.bounds.hi.plus size) here there) in
      let end : m + 1 ≡ next + 8 = omega arith in
      subst (λ i. Leads (Passes g l i stack (At block byte) c s) (Finishes g) (checked_if (is_zero v || not (int_eq x top)) C3 r.site (Gives tt s) s)) end
      (tested g l m stack pile (At block byte) c d s op (is_zero v || not (int_eq x top)) C3 r.site refl refl valued at.1.1.1.1.1.1.1.0 (ap (λ yes. table.check yes C3 r.site.place (p ∷ stack) (frame g l m d pile s) (standing g l m d pile s)) test))

  -- where the ends are there
  term_by : (next : ℕ) (c : Scratch) (stack : List ℕ) (s : meaning.State) (size : ℕ) (site : Site) (v : Value) (block byte : ℕ) (x : ℤ) (ob : Option ℕ) (ol oh : Option ℤ) → ((base : ℕ) (high : ℤ) → ob ≡ Some base → oh ≡ Some high → Leads (Passes g l next stack (At block byte) c s) (Finishes g) (checked_if (is_zero v || not (int_eq x (pos base +ℤ (high *ℤ pos size)))) C3 site (Gives tt s) s)) → Leads (Passes g l next stack (At block byte) c s) (Finishes g) (kept_at site (ends_from size ob ol oh) x v s)
  term_by next c stack s size site v block byte x None ol oh runs = tt
  term_by next c stack s size site v block byte x (Some base) None oh runs = tt
  term_by next c stack s size site v block byte x (Some base) (Some low) None runs = tt
  term_by next c stack s size site v block byte x (Some base) (Some low) (Some high) runs = runs base high refl refl

  storable_runs : (next : ℕ) (c : Scratch) (stack : List ℕ) (s : meaning.State) (size : ℕ) (r : Reading) (v : Value) (block byte : ℕ) (n : ℤ) → IsNumber n → c.number ≡ word n → c.value ≡ word_of g s v → IsKept s v → Stands g l next c (word_of g s (At block byte) ∷ stack) s → HasAt (code g l).ops next (term_code slot size r) → length stack + 6 ≤ (code g l).stack → Leads (Passes g l (next + 8) stack (At block byte) c s) (Finishes g) (storable (step_of (Onward size) n) (Some r) (At block byte) v s)
  storable_runs next c stack s size r v block byte n number aside held kept st at room =
      term_by (next + 8) c stack s size r.site v block byte (pos byte +ℤ (n *ℤ pos size)) (base_byte r.bounds.base s.locals block byte) (term_value r.bounds.lo s.locals) (term_value r.bounds.hi s.locals)
      (λ base high has_base has_high. term_runs next c stack s size r v block byte base n high number aside held kept has_base has_high st at room)

-- ---- stores

-- a place that lies so many elements on from a pointer, and an offset behind
pub record Target (size offset : ℕ) (n : ℤ) (block byte : ℕ) (s : meaning.State) : Type 0 where
  pub target : ℕ
  pub leads : pos byte +ℤ (n *ℤ pos size) ≡ pos target
  pub inside : IsKept s (At block (target + offset))

-- one step behind two others
twice : {A B C : Type 0} (o : Result A) (first : A → meaning.State → Result B) (second : B → meaning.State → Result C) → and_then (and_then o first) second ≡ and_then o (λ a t. and_then (first a t) second)
twice (Gives a t) first second = refl
twice (Ends ending t) first second = refl
twice (Stuck site t) first second = refl
twice (Unsound site t) first second = refl
twice Short first second = refl

target_inside : (size offset : ℕ) (n : ℤ) (block byte : ℕ) (s : meaning.State) → (t : Target size offset n block byte s) → InBlock (shapes s.blocks) block t.target
target_inside size offset n block byte s t = let far = t.inside in record { found = far.found; there = far.there; within = omega (arith, far.within) }

module _ (g : Execution) (l : Layout g) (p : Places) (places : ArePlaces g l p) (type : CType) (size offset : ℕ) (r : Reading) (n : ℤ) (number : IsNumber n) (v : Value) where
  abbrev last : List Op
  last = ops.Local p.scratch ∷ store_code type ∷ []

  abbrev behind : List Op
  behind = moved_code p.scratch directions.Forward size ++ (offset_code offset ++ last)

  module _ (s : meaning.State) (block byte : ℕ) (t : Target size offset n block byte s) (kept : IsKept s v) (grows : Grows l.since (shapes s.blocks)) (room : 6 ≤ (code g l).stack) (few : offset_stack offset ≤ (code g l).stack) where
    abbrev w : ℕ
    w = word_of g s v

    abbrev m : Layout g
    m = holding g l w s

    abbrev q : ℕ
    q = word_of g s (At block byte)

    abbrev cell : ℕ × ℕ
    cell = (block, t.target + offset)

    -- the address, and the value
    address_stored : (next : ℕ) (c : Scratch) → c.number ≡ word n → c.value ≡ w → Stands g m next c (q ∷ []) s → HasAt (code g l).ops next behind → Affects g l p (next + (2 + (offset_size offset + 2))) (store_at type None cell v s)
    address_stored next c aside held st at =
        let a = word_of g s (At block t.target) in
        let b = word_of g s (At block (t.target + offset)) in
        let front = has_front (code g l).ops next (moved_code p.scratch directions.Forward size) (offset_code offset ++ last) at in
        let back = has_back (code g l).ops next (moved_code p.scratch directions.Forward size) (offset_code offset ++ last) 2 refl at in
        let moved = moved_stands g m p.scratch places.scratch directions.Forward size next c [] s block byte t.target n number aside t.leads (target_inside size offset n block byte s t) st front (omega (arith, room)) in
        let here = here_stands g m (next + 2) c (a ∷ []) s held moved in
        let same : a + offset ≡ b = omega arith in
        let small : a + offset < 2 ^ 32 = omega (arith, same, kept_small g s (At block (t.target + offset)) st.kept.blocks t.inside) in
        let far = offset_runs g m (next + 2) [] s a offset small here (has_front (code g l).ops (next + 2) (offset_code offset) last back) (omega (arith, few)) in
        let i = next + 2 + offset_size offset in
        let end = has_back (code g l).ops (next + 2) (offset_code offset) last (offset_size offset) (length_offset offset) back in
        let pushed = value_pushed g l i (b ∷ []) s s p w places grows (subst (λ k. Here g m i (k ∷ []) s) same far) end.0 (omega (arith, room)) in
        let whole : i + 1 + 1 ≡ next + (2 + (offset_size offset + 2)) = omega arith in
        subst (λ k. Affects g l p k (store_at type None cell v s)) whole (store_runs g l (i + 1) s p type None cell v kept pushed end.1.0)

    -- behind the check of the end
    stored : (next : ℕ) (c : Scratch) → c.number ≡ word n → c.value ≡ w → Stands g m next c (q ∷ []) s → HasAt (code g l).ops next (term_code p.scratch size r ++ behind) → Affects g l p (next + (8 + (2 + (offset_size offset + 2)))) (and_then (storable (step_of (Onward size) n) (Some r) (At block byte) v s) (λ _ x. store_at type None cell v x))
    stored next c aside held st at =
        let whole : next + 8 + (2 + (offset_size offset + 2)) ≡ next + (8 + (2 + (offset_size offset + 2))) = omega arith in
        subst (λ k. Affects g l p k (and_then (storable (step_of (Onward size) n) (Some r) (At block byte) v s) (λ _ x. store_at type None cell v x))) whole
        (leads_on (Passes g m (next + 8) [] (At block byte) c s) (FlowsTo g l p (next + 8 + (2 + (offset_size offset + 2)))) (Finishes g) (storable (step_of (Onward size) n) (Some r) (At block byte) v s) (λ _ x. store_at type None cell v x)
        (storable_runs g m p.scratch places.scratch next c [] s size r v block byte n number aside held kept st (has_front (code g l).ops next (term_code p.scratch size r) behind at) room)
        (λ u z x. subst (λ z. Affects g l p (next + 8 + (2 + (offset_size offset + 2))) (store_at type None cell v z)) (sym x.same)
        (address_stored (next + 8) x.after (x.number ∙ aside) (x.value ∙ held) x.stands (has_back (code g l).ops next (term_code p.scratch size r) behind 8 refl at))))

    -- behind the words of the pointer, the number and the value
    pub kept_stored : (next : ℕ) → Here g l next (w ∷ (word n ∷ (q ∷ []))) s → HasAt (code g l).ops next (ops.Set p.scratch ∷ ended_code p.scratch type size offset [] r) → Affects g l p (next + (1 + ended_size size offset [])) (and_then (storable (step_of (Onward size) n) (Some r) (At block byte) v s) (λ _ x. store_at type None cell v x))
    kept_stored next here at =
        let held = value_set g l next (word n ∷ (q ∷ [])) s p w places.scratch here at.0 in
        let set = number_set g m p.scratch places.scratch (next + 1) held.scratch (q ∷ []) s (word n) (stands_here g m (next + 1) (word n ∷ (q ∷ [])) s held) at.1.0 in
        let whole : next + 1 + 1 + (8 + (2 + (offset_size offset + 2))) ≡ next + (1 + ended_size size offset []) = omega arith in
        subst (λ k. Affects g l p k (and_then (storable (step_of (Onward size) n) (Some r) (At block byte) v s) (λ _ x. store_at type None cell v x))) whole
        (stored (next + 1 + 1) (record held.scratch { number = word n }) refl held.holds set at.1.1)

  module _ (s : meaning.State) (kept : IsKept s v) (grows : Grows l.since (shapes s.blocks)) (room : 6 ≤ (code g l).stack) (few : offset_stack offset ≤ (code g l).stack) where
    abbrev held_aside : Layout g
    held_aside = holding g l (word_of g s v) s

    -- where a cell begins there
    cell_by : (next block byte target : ℕ) (c : Scratch) (o : Option Cell) → cell_at s.blocks block (target + offset) ≡ o → pos byte +ℤ (n *ℤ pos size) ≡ pos target → c.number ≡ word n → c.value ≡ word_of g s v → Stands g held_aside next c (word_of g s (At block byte) ∷ []) s → HasAt (code g l).ops next (term_code p.scratch size r ++ behind)
        → Affects g l p (next + (8 + (2 + (offset_size offset + 2)))) (and_then (cell_behind None block (pos target) offset s) (λ place u. and_then (storable (step_of (Onward size) n) (Some r) (At block byte) v u) (λ _ x. store_at type None place v x)))
    cell_by next block byte target c None found leads aside held st at = rw found tt
    cell_by next block byte target c (Some x) found leads aside held st at =
        let t : Target size offset n block byte s = record { target = target; leads = leads; inside = in_block s.blocks block (target + offset) x (cell_found s.blocks block (target + offset) x found) } in
        rw found (stored s block byte t kept grows room few next c aside held st at)

    byte_by : (next block byte : ℕ) (c : Scratch) (z : ℤ) → pos byte +ℤ (n *ℤ pos size) ≡ z → c.number ≡ word n → c.value ≡ word_of g s v → Stands g held_aside next c (word_of g s (At block byte) ∷ []) s → HasAt (code g l).ops next (term_code p.scratch size r ++ behind)
        → Affects g l p (next + (8 + (2 + (offset_size offset + 2)))) (and_then (cell_behind None block z offset s) (λ place u. and_then (storable (step_of (Onward size) n) (Some r) (At block byte) v u) (λ _ x. store_at type None place v x)))
    byte_by next block byte c (negsuc z) leads aside held st at = tt
    byte_by next block byte c (pos target) leads aside held st at = cell_by next block byte target c (cell_at s.blocks block (target + offset)) refl leads aside held st at

    pointer_by : (next : ℕ) (c : Scratch) (q : Value) → c.number ≡ word n → c.value ≡ word_of g s v → Stands g held_aside next c (word_of g s q ∷ []) s → HasAt (code g l).ops next (term_code p.scratch size r ++ behind)
        → Affects g l p (next + (8 + (2 + (offset_size offset + 2)))) (and_then (far_element offset (step_of (Onward size) n) q s) (λ place u. and_then (storable (step_of (Onward size) n) (Some r) q v u) (λ _ x. store_at type None place v x)))
    pointer_by next c (Number z) aside held st at = tt
    pointer_by next c Null aside held st at = tt
    pointer_by next c (At block byte) aside held st at = byte_by next block byte c (pos byte +ℤ (n *ℤ pos size)) refl aside held st at

    -- a store, whose pointer, number and value are on the stack
    pub ended_store_runs : (next : ℕ) (cs : List Check) (q : Value) → All (IsSmall p.scratch 6) cs → IsKept s q → Here g l next (word_of g s v ∷ (word n ∷ (word_of g s q ∷ []))) s → HasAt (code g l).ops next (ops.Set p.scratch ∷ ended_code p.scratch type size offset cs r)
        → Affects g l p (next + (1 + ended_size size offset cs)) (and_then (and_then (pass (step_of (Onward size) n) cs q s) (λ _ t. far_element offset (step_of (Onward size) n) q t)) (λ place u. and_then (storable (step_of (Onward size) n) (Some r) q v u) (λ _ x. store_at type None place v x)))
    ended_store_runs next cs q small hq here at =
        let w = word_of g s v in
        let m = held_aside in
        let step = step_of (Onward size) n in
        let more = λ (place : ℕ × ℕ) (u : meaning.State). and_then (storable step (Some r) q v u) (λ _ x. store_at type None place v x) in
        let held = value_set g l next (word n ∷ (word_of g s q ∷ [])) s p w places.scratch here at.0 in
        let c : Scratch = record held.scratch { number = word n } in
        let set = number_set g m p.scratch places.scratch (next + 1) held.scratch (word_of g s q ∷ []) s (word n) (stands_here g m (next + 1) (word n ∷ (word_of g s q ∷ [])) s held) at.1.0 in
        let j = next + 1 + 1 + checks_size (Onward size) cs in
        let far = term_code p.scratch size r ++ behind in
        let back = has_back (code g l).ops (next + 1 + 1) (checks_code p.scratch (Onward size) cs) far (checks_size (Onward size) cs) (length_checks p.scratch (Onward size) cs) at.1.1 in
        let end = j + (8 + (2 + (offset_size offset + 2))) in
        let whole : end ≡ next + (1 + ended_size size offset cs) = omega arith in
        subst (λ k. Affects g l p k (and_then (and_then (pass step cs q s) (λ _ t. far_element offset step q t)) more)) whole
        (subst (λ o. Affects g l p end o) (sym (twice (pass step cs q s) (λ _ t. far_element offset step q t) more))
        (leads_on (Passes g m j [] q c s) (FlowsTo g l p end) (Finishes g) (pass step cs q s) (λ _ t. and_then (far_element offset step q t) more)
        (checks_run g m p.scratch places.scratch (Onward size) cs (next + 1 + 1) c [] s q n 6 (recursion_from_All (IsSmall p.scratch 6) cs small) (refl, number) hq set (has_front (code g l).ops (next + 1 + 1) (checks_code p.scratch (Onward size) cs) far at.1.1) room)
        (λ u z x. subst (λ z. Affects g l p end (and_then (far_element offset step q z) more)) (sym x.same)
        (pointer_by j x.after q x.number (x.value ∙ held.holds) x.stands back))))

-- ---- accesses whose place is known

module _ (g : Execution) (l : Layout g) (slot : ℕ) (is : slot ≡ length l.function.locals) {A : Type 0} (H : A → meaning.State → Type 0) (size offset : ℕ) (n : ℤ) (number : IsNumber n) (s : meaning.State) (stack : List ℕ) (more : ℕ × ℕ → meaning.State → Result A) (room : length stack + 6 ≤ (code g l).stack) (few : length stack + offset_stack offset ≤ (code g l).stack) where
  abbrev onward : List Op
  onward = moved_code slot directions.Forward size ++ offset_code offset

  abbrev Goes : ℕ → Value → Type 0
  Goes next v = (block byte : ℕ) → v ≡ At block byte → (t : Target size offset n block byte s) → Placed g l next stack (block, t.target + offset) s → Leads H (Finishes g) (more (block, t.target + offset) s)

  placed_by : (next block byte target : ℕ) (c : Scratch) (o : Option Cell) → cell_at s.blocks block (target + offset) ≡ o → pos byte +ℤ (n *ℤ pos size) ≡ pos target → c.number ≡ word n → Holds l.held c → Stands g l next c (word_of g s (At block byte) ∷ stack) s → HasAt (code g l).ops next onward → Goes (next + (2 + offset_size offset)) (At block byte)
      → Leads H (Finishes g) (and_then (cell_behind None block (pos target) offset s) more)
  placed_by next block byte target c None found leads aside held st at goes = rw found tt
  placed_by next block byte target c (Some x) found leads aside held st at goes =
      let t : Target size offset n block byte s = record { target = target; leads = leads; inside = in_block s.blocks block (target + offset) x (cell_found s.blocks block (target + offset) x found) } in
      let front = has_front (code g l).ops next (moved_code slot directions.Forward size) (offset_code offset) at in
      let back = has_back (code g l).ops next (moved_code slot directions.Forward size) (offset_code offset) 2 refl at in
      let moved = moved_stands g l slot is directions.Forward size next c stack s block byte target n number aside leads (target_inside size offset n block byte s t) st front (omega (arith, room)) in
      let here = here_stands g l (next + 2) c (word_of g s (At block target) ∷ stack) s held moved in
      let end : next + 2 + offset_size offset ≡ next + (2 + offset_size offset) = omega arith in
      rw found (goes block byte refl t (subst (λ k. Placed g l k stack (block, target + offset) s) end (behind_runs g l (next + 2) stack s None block target offset (Some x) found here back few)))

  far_by : (next block byte : ℕ) (c : Scratch) (z : ℤ) → pos byte +ℤ (n *ℤ pos size) ≡ z → c.number ≡ word n → Holds l.held c → Stands g l next c (word_of g s (At block byte) ∷ stack) s → HasAt (code g l).ops next onward → Goes (next + (2 + offset_size offset)) (At block byte)
      → Leads H (Finishes g) (and_then (cell_behind None block z offset s) more)
  far_by next block byte c (negsuc z) leads aside held st at goes = tt
  far_by next block byte c (pos target) leads aside held st at goes = placed_by next block byte target c (cell_at s.blocks block (target + offset)) refl leads aside held st at goes

  element_by : (next : ℕ) (c : Scratch) (v : Value) → c.number ≡ word n → Holds l.held c → Stands g l next c (word_of g s v ∷ stack) s → HasAt (code g l).ops next onward → Goes (next + (2 + offset_size offset)) v → Leads H (Finishes g) (and_then (far_element offset (step_of (Onward size) n) v s) more)
  element_by next c (Number z) aside held st at goes = tt
  element_by next c Null aside held st at goes = tt
  element_by next c (At block byte) aside held st at goes = far_by next block byte c (pos byte +ℤ (n *ℤ pos size)) refl aside held st at goes

  -- the address of an element, and what is done there, of which the place is known
  pub through_then : (next : ℕ) (e : erased.Expression) (cs : List Check) (v : Value) → All (IsSmall slot 6) cs → IsKept s v → Here g l next (word n ∷ (word_of g s v ∷ stack)) s → HasAt (code g l).ops next (through_code slot (erased.Element e size) offset cs) → Goes (next + through_size (erased.Element e size) offset cs) v
      → Leads H (Finishes g) (and_then (and_then (pass (step_of (Onward size) n) cs v s) (λ _ t. far_element offset (step_of (Onward size) n) v t)) more)
  through_then next e cs v small kept here at goes =
      let r = Onward size in
      let step = step_of r n in
      let m = next + 1 + checks_size r cs in
      let c : Scratch = record here.scratch { number = word n } in
      let set = number_set g l slot is next here.scratch (word_of g s v ∷ stack) s (word n) (stands_here g l next (word n ∷ (word_of g s v ∷ stack)) s here) at.0 in
      let back = has_back (code g l).ops (next + 1) (checks_code slot r cs) onward (checks_size r cs) (length_checks slot r cs) at.1 in
      let end : next + (1 + (checks_size r cs + (2 + offset_size offset))) ≡ m + (2 + offset_size offset) = omega arith in
      subst (λ o. Leads H (Finishes g) o) (sym (twice (pass step cs v s) (λ _ t. far_element offset step v t) more))
      (leads_on (Passes g l m stack v c s) H (Finishes g) (pass step cs v s) (λ _ t. and_then (far_element offset step v t) more)
      (checks_run g l slot is r cs (next + 1) c stack s v n 6 (recursion_from_All (IsSmall slot 6) cs small) (refl, number) kept set (has_front (code g l).ops (next + 1) (checks_code slot r cs) onward at.1) room)
      (λ u z x. subst (λ z. Leads H (Finishes g) (and_then (far_element offset step v z) more)) (sym x.same)
      (element_by m x.after v x.number (holds_still l.held here.scratch x.after x.value here.holds) x.stands back (subst (λ k. Goes k v) end goes))))
