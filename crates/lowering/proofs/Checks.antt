-- Checks of a pointer: the code leaves its word where the check holds, and ends at the check's site where it fails.
use Rattle.std.proofs.Common.{◌≡◌, ℕ, zero, suc, ◌+◌, ◌<◌, ◌≤◌, Bool, true, false, ℤ, pos, ◌+ℤ◌, ◌*ℤ◌, List, [], ◌∷◌, ◌++◌, length, Option, Some, None, refl, sym, ap, ◌∙◌, subst, arith}
use Rattle.std.specs.Prelude.{slice_get, not, ◌==◌, ◌||◌}
use Rattle.std.specs.List.{AllByRecursion}
use Rattle.std.proofs.lemmas.Bool.Decides.{nat_tests}
use Rattle.ckc_text.specs.declared.code.Code.{Code}
use Rattle.ckc_text.specs.declared.code.Code.TheVariants.{C1, C2, C5}
use Rattle.act_words.specs.declared.ending.Ending.TheVariants.{Check as Failed}
use Rattle.act_words.specs.Numbers.{word, signed}
use Rattle.bounds_exprs.specs.declared.term.Bounds.{Bounds}
use Rattle.flat_bytes.specs.Blocks.{first_offset}
use Rattle.ckc_core.specs.declared.program.Site.{Site}
use Rattle.ckc_core.specs.Outcome.{Gives}
use Rattle.ckc_core.specs.States.{Value, Number, Null, At, Local, shapes}
use Rattle.ckc_core.specs.States as meaning
use Rattle.ckc_core.specs.Steps as meanings
use Rattle.ckc_core.specs.Bounds.{Ends, base_byte, term_value, ends_from}
use Rattle.ckc_core.specs.Pointers.{checked_if, lies_below, lies_up_to, are_within}
use Rattle.check_insertion.specs.declared.erased.Check.{Check}
use Rattle.check_insertion.specs.declared.erased.Check.TheVariants as checks
use Rattle.check_insertion.specs.ErasedMeaning.{check, pass, within, contained, far}
use Rattle.code_words.specs.Table.{Runs, act, place_at, end_of}
use Rattle.code_words.specs.Table as table
use Rattle.code_words.specs.declared.op.Op.{Op}
use Rattle.code_words.specs.declared.op.Op.TheVariants as ops
use Rattle.lowering.specs.Code.{Reach, Still, Onward, Back, counted_size, pointer_slot, number_slot, number_code, number_size, end_constant, base_code, variable_code, bounds_code, within_code, check_code, check_size, checks_code, checks_size}
use Rattle.lowering.specs.Sized.{IsLocal, AreLocal, IsSmall}
use Rattle.lowering.specs.Correct.{offset_from}
use Rattle.ckc_core.proofs.Numbers.{IsNumber, signed-word}
use Rattle.ckc_core.proofs.Elements.{of_element}
use Rattle.lowering.proofs.Executions.{Execution, image, word_of, IsKept, same_end}
use Rattle.lowering.proofs.Steps.{HasAt, has_front, has_back, Leads, leads_on, leads_to, Finishes, last_move, Layout, Scratch, words, code, frame, standing, fetched}
use Rattle.lowering.proofs.Sizes.{length_number, length_within, length_check}
use Rattle.lowering.proofs.Expressions.{mapped_there}
use Rattle.lowering.proofs.Places.{truth_word}
use Rattle.lowering.proofs.Aside.{Stands, stand_on, stand_push, stand_slot, pointer_set, pointer_there, number_there}
use Rattle.lowering.proofs.Reaches.{IsAside, lie_in, step_of, in_moved, up_to_moved, within_moved, number_word, common, place_is, end_is, end_plain}

-- nothing stands beyond the end of a list
none_beyond : {X : Type 0} (xs : List X) (i : ℕ) → slice_get xs i ≡ None → length xs ≤ i
none_beyond [] i h = omega arith
none_beyond (x ∷ xs) zero h = absurd (cc)
none_beyond (x ∷ xs) (suc i) h = omega (arith, none_beyond xs i h)

module _ (g : Execution) (l : Layout g) where
  -- the pointer's word is on the stack behind a check, and what is kept aside is still there
  pub record Passed (next : ℕ) (stack : List ℕ) (v : Value) (c : Scratch) (s t : meaning.State) : Type 0 where
    pub after : Scratch
    pub stands : Stands g l next after (word_of g s v ∷ stack) s
    pub value : after.value ≡ c.value
    pub number : after.number ≡ c.number
    pub same : t ≡ s

  abbrev pub Passes : ℕ → List ℕ → Value → Scratch → meaning.State → Unit {0} → meaning.State → Type 0
  Passes next stack v c s u t = Passed next stack v c s t

  -- an instruction ends the run
  stand_ends : (next : ℕ) (c : Scratch) (stack : List ℕ) (s : meaning.State) (op : Op) (test : Bool) (failed : Code) (site : Site) (rest : List ℕ) → Stands g l next c stack s → slice_get (code g l).ops next ≡ Some op → act (image g) g.settings (code g l) op (frame g l next c stack s) (standing g l next c stack s) ≡ table.check false failed site.place rest (frame g l next c stack s) (standing g l next c stack s) → Finishes g (Failed failed site.place) s
  stand_ends next c stack s op test failed site rest st at is =
      last_move g _ _ (Failed failed site.place) s st.reached (fetched g l next c stack s op at ∙ is) (same_end g (Runs (frame g l next c stack s)) l.callers s st.kept.blocks)

  -- the instruction of a check, whose test is that of the meaning
  pub tested : (next : ℕ) (stack pile : List ℕ) (v : Value) (old c : Scratch) (s : meaning.State) (op : Op) (test : Bool) (failed : Code) (site : Site) → c.value ≡ old.value → c.number ≡ old.number → Stands g l next c pile s → slice_get (code g l).ops next ≡ Some op → act (image g) g.settings (code g l) op (frame g l next c pile s) (standing g l next c pile s) ≡ table.check test failed site.place (word_of g s v ∷ stack) (frame g l next c pile s) (standing g l next c pile s) → Leads (Passes (next + 1) stack v old s) (Finishes g) (checked_if test failed site (Gives tt s) s)
  tested next stack pile v old c s op true failed site value number st at is =
      record { after = c; stands = stand_on g l next c pile s op (next + 1) c (word_of g s v ∷ stack) st at is; value = value; number = number; same = refl }
  tested next stack pile v old c s op false failed site value number st at is = stand_ends next c pile s op false failed site (word_of g s v ∷ stack) st at is

  -- ---- the words of a check

  -- a variable of an end, and its number
  pub record Variable (next : ℕ) (c : Scratch) (stack : List ℕ) (s : meaning.State) (plus z : ℤ) : Type 0 where
    pub count : ℕ
    pub stands : Stands g l next c (count ∷ stack) s
    pub is : signed count +ℤ plus ≡ z

  local_stands : (next : ℕ) (c : Scratch) (stack : List ℕ) (s : meaning.State) (k : ℕ) (x : Local) → slice_get s.locals k ≡ Some x → Stands g l next c stack s → slice_get (code g l).ops next ≡ Some (ops.Local k) → length stack < (code g l).stack → Stands g l (next + 1) c (word_of g s x.value ∷ stack) s
  local_stands next c stack s k x there st at room =
      stand_slot g l next c stack s k (word_of g s x.value) (mapped_there (λ (y : Local). word_of g s y.value) s.locals (words c) k x there) st at room

  variable_local : (next : ℕ) (c : Scratch) (stack : List ℕ) (s : meaning.State) (x : ℕ) (plus z : ℤ) (o : Option Local) → slice_get s.locals x ≡ o → term_value (record { var = Some x; plus = plus }) s.locals ≡ Some z → Stands g l next c stack s → slice_get (code g l).ops next ≡ Some (ops.Local x) → length stack < (code g l).stack → Variable (next + 1) c stack s plus z
  variable_local next c stack s x plus z None there h st at room = absurd (let h' = rw there at h in cc)
  variable_local next c stack s x plus z (Some y) there h st at room = by y.value refl
    where
      by : (v : Value) → y.value ≡ v → Variable (next + 1) c stack s plus z
      by (Number n) is =
          let kept : IsNumber n = subst (IsKept s) is (of_element (λ (y : Local). IsKept s y.value) s.locals x y st.kept.locals there) in
          let h' = rw (there, is) at h in
          let pushed = subst (λ v. Stands g l (next + 1) c (word_of g s v ∷ stack) s) is (local_stands next c stack s x y there st at room) in
          let same : n +ℤ plus ≡ z = cc in
          record { count = word n; stands = pushed; is = ap (λ m. m +ℤ plus) (signed-word n kept) ∙ same }
      by Null is = absurd (let h' = rw (there, is) at h in cc)
      by (At block byte) is = absurd (let h' = rw (there, is) at h in cc)

  pub variable_stands : (next : ℕ) (c : Scratch) (stack : List ℕ) (s : meaning.State) (var : Option ℕ) (plus z : ℤ) → term_value (record { var = var; plus = plus }) s.locals ≡ Some z → Stands g l next c stack s → slice_get (code g l).ops next ≡ Some (variable_code var) → length stack < (code g l).stack → Variable (next + 1) c stack s plus z
  variable_stands next c stack s None plus z h st at room =
      let same : pos 0 +ℤ plus ≡ z = cc in
      record { count = 0; stands = stand_push g l next c stack s (ops.Const (pos 0)) 0 stack st at room refl; is = same }
  variable_stands next c stack s (Some x) plus z h st at room = variable_local next c stack s x plus z (slice_get s.locals x) refl h st at room

  module _ (slot : ℕ) (is : slot ≡ length l.function.locals) where
    -- the address of the base of bounds
    base_local : (next : ℕ) (c : Scratch) (stack : List ℕ) (s : meaning.State) (q block byte base : ℕ) (o : Option Local) → slice_get s.locals q ≡ o → base_byte (Some q) s.locals block byte ≡ Some base → Stands g l next c stack s → slice_get (code g l).ops next ≡ Some (ops.Local q) → length stack < (code g l).stack → Stands g l (next + 1) c (word_of g s (At block base) ∷ stack) s
    base_local next c stack s q block byte base None there h st at room = absurd (let h' = rw there at h in cc)
    base_local next c stack s q block byte base (Some y) there h st at room = by y.value refl
      where
        by_block : (other byte' : ℕ) (same : Bool) → y.value ≡ At other byte' → (other == block) ≡ same → Stands g l (next + 1) c (word_of g s (At block base) ∷ stack) s
        by_block other byte' true has test =
            let h' = rw (there, has, test) at h in
            let at_block : other ≡ block = grind (arith, nat_tests) in
            let at_byte : byte' ≡ base = cc in
            subst (λ v. Stands g l (next + 1) c (word_of g s v ∷ stack) s) (has ∙ ap (λ b. At b byte') at_block ∙ ap (At block) at_byte) (local_stands next c stack s q y there st at room)
        by_block other byte' false has test = absurd (let h' = rw (there, has, test) at h in cc)

        by : (v : Value) → y.value ≡ v → Stands g l (next + 1) c (word_of g s (At block base) ∷ stack) s
        by (Number n) has = absurd (let h' = rw (there, has) at h in cc)
        by Null has = absurd (let h' = rw (there, has) at h in cc)
        by (At other byte') has = by_block other byte' (other == block) has refl

    pub base_stands : (next : ℕ) (c : Scratch) (stack : List ℕ) (s : meaning.State) (o : Option ℕ) (block byte base : ℕ) → c.pointer ≡ word_of g s (At block byte) → base_byte o s.locals block byte ≡ Some base → Stands g l next c stack s → slice_get (code g l).ops next ≡ Some (base_code slot o) → length stack < (code g l).stack → Stands g l (next + 1) c (word_of g s (At block base) ∷ stack) s
    base_stands next c stack s None block byte base pointer h st at room =
        let same : byte ≡ base = cc in
        stand_slot g l next c stack s (pointer_slot slot) (word_of g s (At block base)) (pointer_there g l slot is c s st.kept ∙ ap Some (pointer ∙ ap (λ b. word_of g s (At block b)) same)) st at room
    base_stands next c stack s (Some q) block byte base pointer h st at room = base_local next c stack s q block byte base (slice_get s.locals q) refl h st at room

    -- the words of bounds, whose ends are there
    pub record Bounded (next : ℕ) (c : Scratch) (stack : List ℕ) (s : meaning.State) (b : Bounds) (block base : ℕ) (low high : ℤ) : Type 0 where
      pub low_count : ℕ
      pub high_count : ℕ
      pub stands : Stands g l next c (high_count ∷ (low_count ∷ (word_of g s (At block base) ∷ stack))) s
      pub low_is : signed low_count +ℤ b.lo.plus ≡ low
      pub high_is : signed high_count +ℤ b.hi.plus ≡ high

    bounds_stand : (next : ℕ) (c : Scratch) (stack : List ℕ) (s : meaning.State) (b : Bounds) (block byte base : ℕ) (low high : ℤ) → c.pointer ≡ word_of g s (At block byte) → base_byte b.base s.locals block byte ≡ Some base → term_value b.lo s.locals ≡ Some low → term_value b.hi s.locals ≡ Some high → Stands g l next c stack s → HasAt (code g l).ops next (bounds_code slot b) → length stack + 3 ≤ (code g l).stack → Bounded (next + 1 + 1 + 1) c stack s b block base low high
    bounds_stand next c stack s b block byte base low high pointer has_base has_low has_high st at room =
        let first = base_stands next c stack s b.base block byte base pointer has_base st at.0 (omega arith) in
        let second = variable_stands (next + 1) c (word_of g s (At block base) ∷ stack) s b.lo.var b.lo.plus low has_low first at.1.0 (omega arith) in
        let third = variable_stands (next + 1 + 1) c (second.count ∷ (word_of g s (At block base) ∷ stack)) s b.hi.var b.hi.plus high has_high second.stands at.1.1.0 (omega arith) in
        record { low_count = second.count; high_count = third.count; stands = third.stands; low_is = second.is; high_is = third.is }

    -- the number of elements
    number_stands : (r : Reach) (next : ℕ) (c : Scratch) (stack : List ℕ) (s : meaning.State) → Stands g l next c stack s → HasAt (code g l).ops next (number_code slot r) → length stack + 1 ≤ (code g l).stack → Stands g l (next + number_size r) c (number_word r c.number ∷ stack) s
    number_stands (Still size) next c stack s st at room = stand_push g l next c stack s (ops.Const (pos 0)) 0 stack st at.0 (omega arith) refl
    number_stands (Onward size) next c stack s st at room = stand_slot g l next c stack s (number_slot slot) c.number (number_there g l slot is c s st.kept) st at.0 (omega arith)
    number_stands (Back size) next c stack s st at room =
        let first = stand_slot g l next c stack s (number_slot slot) c.number (number_there g l slot is c s st.kept) st at.0 (omega arith) in
        let e : next + 1 + 1 ≡ next + 2 = omega arith in
        subst (λ n. Stands g l n c (number_word (Back size) c.number ∷ stack) s) e
        (stand_push g l (next + 1) c (c.number ∷ stack) s ops.Not (number_word (Back size) c.number) stack first at.1.0 (omega arith) refl)

    -- the place that is checked, and bounds, behind the pointer's word
    within_stands : (r : Reach) (next : ℕ) (c : Scratch) (stack : List ℕ) (s : meaning.State) (b : Bounds) (block byte base : ℕ) (low high : ℤ) → base_byte b.base s.locals block byte ≡ Some base → term_value b.lo s.locals ≡ Some low → term_value b.hi s.locals ≡ Some high → Stands g l next c (word_of g s (At block byte) ∷ stack) s → HasAt (code g l).ops next (within_code slot r b) → length stack + 6 ≤ (code g l).stack → Bounded (next + (3 + (number_size r + 3))) (record c { pointer = word_of g s (At block byte) }) (number_word r c.number ∷ (word_of g s (At block byte) ∷ (word_of g s (At block byte) ∷ stack))) s b block base low high
    within_stands r next c stack s b block byte base low high has_base has_low has_high st at room =
        let p = word_of g s (At block byte) in
        let d : Scratch = record c { pointer = p } in
        let m = next + 1 + 1 + 1 in
        let n = m + number_size r in
        let set = pointer_set g l slot is next c stack s p st at.0 in
        let once = stand_slot g l (next + 1) d stack s (pointer_slot slot) p (pointer_there g l slot is d s set.kept) set at.1.0 (omega arith) in
        let twice = stand_slot g l (next + 1 + 1) d (p ∷ stack) s (pointer_slot slot) p (pointer_there g l slot is d s set.kept) once at.1.1.0 (omega arith) in
        let counted = number_stands r m d (p ∷ (p ∷ stack)) s twice (has_front (code g l).ops m (number_code slot r) (bounds_code slot b) at.1.1.1) (omega arith) in
        let back = has_back (code g l).ops m (number_code slot r) (bounds_code slot b) (number_size r) (length_number slot r) at.1.1.1 in
        let end : n + 1 + 1 + 1 ≡ next + (3 + (number_size r + 3)) = omega arith in
        subst (λ k. Bounded k d (number_word r c.number ∷ (p ∷ (p ∷ stack))) s b block base low high) end
        (bounds_stand n d (number_word r c.number ∷ (p ∷ (p ∷ stack))) s b block byte base low high refl has_base has_low has_high counted back (omega arith))

    -- ---- bounds (C2)

    -- the ends of bounds, where they are there
    abbrev Found : Bounds → meaning.State → ℕ → ℕ → ℕ → ℤ → ℤ → Type 0
    Found b s block byte base low high = (base_byte b.base s.locals block byte ≡ Some base) × (term_value b.lo s.locals ≡ Some low) × (term_value b.hi s.locals ≡ Some high)

    abbrev ends_of : ℕ → ℕ → ℤ → ℤ → Ends
    ends_of size base low high = record { low = pos base +ℤ (low *ℤ pos size); high = pos base +ℤ (high *ℤ pos size); size = size }

    abbrev Outcome : ℕ → List ℕ → Value → Scratch → meaning.State → meanings.Result (Unit {0}) → Type 0
    Outcome next stack v c s o = Leads (Passes next stack v c s) (Finishes g) o

    within_by : (test : Ends → ℤ → Bool) (site : Site) (size next : ℕ) (stack : List ℕ) (v : Value) (c : Scratch) (s : meaning.State) (x : ℤ) (ob : Option ℕ) (ol oh : Option ℤ) → ((base : ℕ) (low high : ℤ) → ob ≡ Some base → ol ≡ Some low → oh ≡ Some high → Outcome next stack v c s (checked_if (test (ends_of size base low high) x) C2 site (Gives tt s) s)) → Outcome next stack v c s (within test site (ends_from size ob ol oh) x s)
    within_by test site size next stack v c s x None ol oh runs = tt
    within_by test site size next stack v c s x (Some base) None oh runs = tt
    within_by test site size next stack v c s x (Some base) (Some low) None runs = tt
    within_by test site size next stack v c s x (Some base) (Some low) (Some high) runs = runs base low high refl refl refl

    -- what the instruction compares are a place and ends of the block
    pub record Compares (r : Reach) (c : Scratch) (s : meaning.State) (b : Bounds) (block byte base low_count high_count : ℕ) (low high x : ℤ) : Type 0 where
      pub shift : ℤ
      pub low_is : end_of (word_of g s (At block base)) low_count (end_constant r b.lo) (counted_size r) ≡ shift +ℤ (pos base +ℤ (low *ℤ pos (counted_size r)))
      pub here : place_at (word_of g s (At block byte)) (number_word r c.number) (counted_size r) ≡ shift +ℤ x
      pub high_is : end_of (word_of g s (At block base)) high_count (end_constant r b.hi) (counted_size r) ≡ shift +ℤ (pos base +ℤ (high *ℤ pos (counted_size r)))

    compares : (r : Reach) (c : Scratch) (s : meaning.State) (b : Bounds) (block byte base low_count high_count : ℕ) (low high n : ℤ) → IsAside r c.number n → signed low_count +ℤ b.lo.plus ≡ low → signed high_count +ℤ b.hi.plus ≡ high → Compares r c s b block byte base low_count high_count low high (pos byte +ℤ far (step_of r n))
    compares r c s b block byte base low_count high_count low high n aside low_is high_is =
        let a = g.settings.base + offset_from first_offset (shapes s.blocks) block in
        let at_base : word_of g s (At block base) ≡ a + base = omega arith in
        let at_byte : word_of g s (At block byte) ≡ a + byte = omega arith in
        record {
          shift = common r a;
          low_is = ap (λ w. end_of w low_count (end_constant r b.lo) (counted_size r)) at_base ∙ end_is r a base low_count b.lo low low_is;
          here = ap (λ w. place_at w (number_word r c.number) (counted_size r)) at_byte ∙ place_is r a byte c.number n aside;
          high_is = ap (λ w. end_of w high_count (end_constant r b.hi) (counted_size r)) at_base ∙ end_is r a base high_count b.hi high high_is;
        }

    below_runs : (r : Reach) (next : ℕ) (c : Scratch) (stack : List ℕ) (s : meaning.State) (b : Bounds) (site : Site) (block byte base : ℕ) (n low high : ℤ) → IsAside r c.number n → Found b s block byte base low high → Stands g l next c (word_of g s (At block byte) ∷ stack) s → HasAt (code g l).ops next (within_code slot r b ++ ops.In (end_constant r b.lo) (end_constant r b.hi) (counted_size r) site.place ∷ []) → length stack + 6 ≤ (code g l).stack → Outcome (next + (3 + (number_size r + 3) + 1)) stack (At block byte) c s (checked_if (lies_below (ends_of (counted_size r) base low high) (pos byte +ℤ far (step_of r n))) C2 site (Gives tt s) s)
    below_runs r next c stack s b site block byte base n low high aside found st at room =
        let v = At block byte in
        let p = word_of g s v in
        let x = pos byte +ℤ far (step_of r n) in
        let e = ends_of (counted_size r) base low high in
        let op = ops.In (end_constant r b.lo) (end_constant r b.hi) (counted_size r) site.place in
        let m = next + (3 + (number_size r + 3)) in
        let k = within_stands r next c stack s b block byte base low high found.0 found.1 found.2 st (has_front (code g l).ops next (within_code slot r b) (op ∷ []) at) room in
        let back = has_back (code g l).ops next (within_code slot r b) (op ∷ []) (3 + (number_size r + 3)) (length_within slot r b) at in
        let d : Scratch = record c { pointer = p } in
        let pile = k.high_count ∷ (k.low_count ∷ (word_of g s (At block base) ∷ (number_word r c.number ∷ (p ∷ (p ∷ stack))))) in
        let w = compares r c s b block byte base k.low_count k.high_count low high n aside k.low_is k.high_is in
        let same = in_moved w.shift e.low x e.high _ _ _ w.low_is w.here w.high_is in
        let end : m + 1 ≡ next + (3 + (number_size r + 3) + 1) = omega arith in
        subst (λ i. Outcome i stack v c s (checked_if (lies_below e x) C2 site (Gives tt s) s)) end
        (tested m stack pile v c d s op (lies_below e x) C2 site refl refl k.stands back.0 (ap (λ yes. table.check yes C2 site.place (p ∷ stack) (frame g l m d pile s) (standing g l m d pile s)) same))

    up_to_runs : (r : Reach) (next : ℕ) (c : Scratch) (stack : List ℕ) (s : meaning.State) (b : Bounds) (site : Site) (block byte base : ℕ) (n low high : ℤ) → IsAside r c.number n → Found b s block byte base low high → Stands g l next c (word_of g s (At block byte) ∷ stack) s → HasAt (code g l).ops next (within_code slot r b ++ ops.UpTo (end_constant r b.lo) (end_constant r b.hi) (counted_size r) site.place ∷ []) → length stack + 6 ≤ (code g l).stack → Outcome (next + (3 + (number_size r + 3) + 1)) stack (At block byte) c s (checked_if (lies_up_to (ends_of (counted_size r) base low high) (pos byte +ℤ far (step_of r n))) C2 site (Gives tt s) s)
    up_to_runs r next c stack s b site block byte base n low high aside found st at room =
        let v = At block byte in
        let p = word_of g s v in
        let x = pos byte +ℤ far (step_of r n) in
        let e = ends_of (counted_size r) base low high in
        let op = ops.UpTo (end_constant r b.lo) (end_constant r b.hi) (counted_size r) site.place in
        let m = next + (3 + (number_size r + 3)) in
        let k = within_stands r next c stack s b block byte base low high found.0 found.1 found.2 st (has_front (code g l).ops next (within_code slot r b) (op ∷ []) at) room in
        let back = has_back (code g l).ops next (within_code slot r b) (op ∷ []) (3 + (number_size r + 3)) (length_within slot r b) at in
        let d : Scratch = record c { pointer = p } in
        let pile = k.high_count ∷ (k.low_count ∷ (word_of g s (At block base) ∷ (number_word r c.number ∷ (p ∷ (p ∷ stack))))) in
        let w = compares r c s b block byte base k.low_count k.high_count low high n aside k.low_is k.high_is in
        let same = up_to_moved w.shift e.low x e.high _ _ _ w.low_is w.here w.high_is in
        let end : m + 1 ≡ next + (3 + (number_size r + 3) + 1) = omega arith in
        subst (λ i. Outcome i stack v c s (checked_if (lies_up_to e x) C2 site (Gives tt s) s)) end
        (tested m stack pile v c d s op (lies_up_to e x) C2 site refl refl k.stands back.0 (ap (λ yes. table.check yes C2 site.place (p ∷ stack) (frame g l m d pile s) (standing g l m d pile s)) same))

    -- ---- bounds within others (C5)

    -- the words of both bounds, whatever they are
    abbrev contain_pile : ℕ → ℕ → ℕ → ℕ → ℕ → ℕ → ℕ → List ℕ → List ℕ
    contain_pile b2 l2 h2 b1 l1 h1 p stack = h2 ∷ (l2 ∷ (b2 ∷ (h1 ∷ (l1 ∷ (b1 ∷ (p ∷ stack))))))

    contained_by : (site : Site) (size next : ℕ) (stack : List ℕ) (v : Value) (c : Scratch) (s : meaning.State) (ob : Option ℕ) (ol oh : Option ℤ) (ob' : Option ℕ) (ol' oh' : Option ℤ) → ((base : ℕ) (low high : ℤ) (base' : ℕ) (low' high' : ℤ) → ob ≡ Some base → ol ≡ Some low → oh ≡ Some high → ob' ≡ Some base' → ol' ≡ Some low' → oh' ≡ Some high' → Outcome next stack v c s (checked_if (are_within (ends_of size base low high) (ends_of size base' low' high')) C5 site (Gives tt s) s)) → Outcome next stack v c s (contained site (ends_from size ob ol oh) (ends_from size ob' ol' oh') s)
    contained_by site size next stack v c s None ol oh ob' ol' oh' runs = tt
    contained_by site size next stack v c s (Some base) None oh ob' ol' oh' runs = tt
    contained_by site size next stack v c s (Some base) (Some low) None ob' ol' oh' runs = tt
    contained_by site size next stack v c s (Some base) (Some low) (Some high) None ol' oh' runs = tt
    contained_by site size next stack v c s (Some base) (Some low) (Some high) (Some base') None oh' runs = tt
    contained_by site size next stack v c s (Some base) (Some low) (Some high) (Some base') (Some low') None runs = tt
    contained_by site size next stack v c s (Some base) (Some low) (Some high) (Some base') (Some low') (Some high') runs = runs base low high base' low' high' refl refl refl refl refl refl

    -- the code of a containment
    abbrev contain_code : ℕ → Bounds → Bounds → Site → List Op
    contain_code size old new site =
        ops.Set (pointer_slot slot)
        ∷ (ops.Local (pointer_slot slot)
        ∷ (bounds_code slot old ++ (bounds_code slot new ++ (ops.Contain old.lo.plus old.hi.plus new.lo.plus new.hi.plus size site.place ∷ []))))

    contains_runs : (size next : ℕ) (c : Scratch) (stack : List ℕ) (s : meaning.State) (old new : Bounds) (site : Site) (block byte base base' : ℕ) (low high low' high' : ℤ) → Found old s block byte base low high → Found new s block byte base' low' high' → IsKept s (At block byte) → Stands g l next c (word_of g s (At block byte) ∷ stack) s → HasAt (code g l).ops next (contain_code size old new site) → length stack + 7 ≤ (code g l).stack → Outcome (next + 9) stack (At block byte) c s (checked_if (are_within (ends_of size base low high) (ends_of size base' low' high')) C5 site (Gives tt s) s)
    contains_runs size next c stack s old new site block byte base base' low high low' high' found found' kept st at room =
        let v = At block byte in
        let p = word_of g s v in
        let d : Scratch = record c { pointer = p } in
        let op = ops.Contain old.lo.plus old.hi.plus new.lo.plus new.hi.plus size site.place in
        let m = next + 1 + 1 in
        let set = pointer_set g l slot is next c stack s p st at.0 in
        let once = stand_slot g l (next + 1) d stack s (pointer_slot slot) p (pointer_there g l slot is d s set.kept) set at.1.0 (omega arith) in
        let k = bounds_stand m d (p ∷ stack) s old block byte base low high refl found.0 found.1 found.2 once (has_front (code g l).ops m (bounds_code slot old) (bounds_code slot new ++ (op ∷ [])) at.1.1) (omega arith) in
        let j = bounds_stand (m + 1 + 1 + 1) d (k.high_count ∷ (k.low_count ∷ (word_of g s (At block base) ∷ (p ∷ stack)))) s new block byte base' low' high' refl found'.0 found'.1 found'.2 k.stands (at.1.1.1.1.1.0, (at.1.1.1.1.1.1.0, (at.1.1.1.1.1.1.1.0, tt))) (omega arith) in
        let a = g.settings.base + offset_from first_offset (shapes s.blocks) block in
        let at_base : word_of g s (At block base) ≡ a + base = omega arith in
        let at_base' : word_of g s (At block base') ≡ a + base' = omega arith in
        let e = ends_of size base low high in
        let e' = ends_of size base' low' high' in
        let same = within_moved (pos a) e.low e.high e'.low e'.high _ _ _ _
        (ap (λ w. end_of w k.low_count old.lo.plus size) at_base ∙ end_plain a base k.low_count size old.lo.plus low k.low_is)
        (ap (λ w. end_of w k.high_count old.hi.plus size) at_base ∙ end_plain a base k.high_count size old.hi.plus high k.high_is)
        (ap (λ w. end_of w j.low_count new.lo.plus size) at_base' ∙ end_plain a base' j.low_count size new.lo.plus low' j.low_is)
        (ap (λ w. end_of w j.high_count new.hi.plus size) at_base' ∙ end_plain a base' j.high_count size new.hi.plus high' j.high_is) in
        let there : (p == 0) ≡ false = truth_word g s v kept in
        let n = m + 1 + 1 + 1 + 1 + 1 + 1 in
        let pile = contain_pile (word_of g s (At block base')) j.low_count j.high_count (word_of g s (At block base)) k.low_count k.high_count p stack in
        let inside = lie_in (end_of (word_of g s (At block base)) k.low_count old.lo.plus size) (end_of (word_of g s (At block base)) k.high_count old.hi.plus size) (end_of (word_of g s (At block base')) j.low_count new.lo.plus size) (end_of (word_of g s (At block base')) j.high_count new.hi.plus size) in
        let end : n + 1 ≡ next + 9 = omega arith in
        subst (λ i. Outcome i stack v c s (checked_if (are_within e e') C5 site (Gives tt s) s)) end
        (tested n stack pile v c d s op (are_within e e') C5 site refl refl j.stands at.1.1.1.1.1.1.1.1.0 (ap (λ yes. table.check (yes || inside) C5 site.place (p ∷ stack) (frame g l n d pile s) (standing g l n d pile s)) there ∙ ap (λ yes. table.check yes C5 site.place (p ∷ stack) (frame g l n d pile s) (standing g l n d pile s)) same))

    -- null passes, whatever the words of the bounds are

    any_local : (next : ℕ) (c : Scratch) (stack : List ℕ) (s : meaning.State) (k : ℕ) (o : Option Local) → slice_get s.locals k ≡ o → k < length s.locals → Stands g l next c stack s → slice_get (code g l).ops next ≡ Some (ops.Local k) → length stack < (code g l).stack → (w : ℕ) × Stands g l (next + 1) c (w ∷ stack) s
    any_local next c stack s k None there low st at room = absurd (omega (arith, none_beyond s.locals k there))
    any_local next c stack s k (Some x) there low st at room = (word_of g s x.value, local_stands next c stack s k x there st at room)

    any_base : (next : ℕ) (c : Scratch) (stack : List ℕ) (s : meaning.State) (o : Option ℕ) → IsLocal (length s.locals) o → Stands g l next c stack s → slice_get (code g l).ops next ≡ Some (base_code slot o) → length stack < (code g l).stack → (w : ℕ) × Stands g l (next + 1) c (w ∷ stack) s
    any_base next c stack s None low st at room = (c.pointer, stand_slot g l next c stack s (pointer_slot slot) c.pointer (pointer_there g l slot is c s st.kept) st at room)
    any_base next c stack s (Some q) low st at room = any_local next c stack s q (slice_get s.locals q) refl low st at room

    any_variable : (next : ℕ) (c : Scratch) (stack : List ℕ) (s : meaning.State) (o : Option ℕ) → IsLocal (length s.locals) o → Stands g l next c stack s → slice_get (code g l).ops next ≡ Some (variable_code o) → length stack < (code g l).stack → (w : ℕ) × Stands g l (next + 1) c (w ∷ stack) s
    any_variable next c stack s None low st at room = (0, stand_push g l next c stack s (ops.Const (pos 0)) 0 stack st at room refl)
    any_variable next c stack s (Some x) low st at room = any_local next c stack s x (slice_get s.locals x) refl low st at room

    -- three words above those that were there
    pub record Three (next : ℕ) (c : Scratch) (stack : List ℕ) (s : meaning.State) : Type 0 where
      pub first : ℕ
      pub second : ℕ
      pub third : ℕ
      pub stands : Stands g l next c (third ∷ (second ∷ (first ∷ stack))) s

    any_bounds : (next : ℕ) (c : Scratch) (stack : List ℕ) (s : meaning.State) (b : Bounds) → AreLocal (length s.locals) b → Stands g l next c stack s → HasAt (code g l).ops next (bounds_code slot b) → length stack + 3 ≤ (code g l).stack → Three (next + 1 + 1 + 1) c stack s
    any_bounds next c stack s b low st at room =
        let x = any_base next c stack s b.base low.base st at.0 (omega arith) in
        let y = any_variable (next + 1) c (x.0 ∷ stack) s b.lo.var low.low x.1 at.1.0 (omega arith) in
        let z = any_variable (next + 1 + 1) c (y.0 ∷ (x.0 ∷ stack)) s b.hi.var low.high y.1 at.1.1.0 (omega arith) in
        record { first = x.0; second = y.0; third = z.0; stands = z.1 }

    null_runs : (size next : ℕ) (c : Scratch) (stack : List ℕ) (s : meaning.State) (old new : Bounds) (site : Site) → AreLocal (length s.locals) old → AreLocal (length s.locals) new → Stands g l next c (0 ∷ stack) s → HasAt (code g l).ops next (contain_code size old new site) → length stack + 7 ≤ (code g l).stack → Outcome (next + 9) stack Null c s (Gives tt s)
    null_runs size next c stack s old new site low low' st at room =
        let d : Scratch = record c { pointer = 0 } in
        let op = ops.Contain old.lo.plus old.hi.plus new.lo.plus new.hi.plus size site.place in
        let m = next + 1 + 1 in
        let n = m + 1 + 1 + 1 + 1 + 1 + 1 in
        let set = pointer_set g l slot is next c stack s 0 st at.0 in
        let once = stand_slot g l (next + 1) d stack s (pointer_slot slot) 0 (pointer_there g l slot is d s set.kept) set at.1.0 (omega arith) in
        let k = any_bounds m d (0 ∷ stack) s old low once (has_front (code g l).ops m (bounds_code slot old) (bounds_code slot new ++ (op ∷ [])) at.1.1) (omega arith) in
        let j = any_bounds (m + 1 + 1 + 1) d (k.third ∷ (k.second ∷ (k.first ∷ (0 ∷ stack)))) s new low' k.stands (at.1.1.1.1.1.0, (at.1.1.1.1.1.1.0, (at.1.1.1.1.1.1.1.0, tt))) (omega arith) in
        let end : n + 1 ≡ next + 9 = omega arith in
        subst (λ i. Outcome i stack Null c s (Gives tt s)) end
        (tested n stack (contain_pile j.first j.second j.third k.first k.second k.third 0 stack) Null c d s op true C5 site refl refl j.stands at.1.1.1.1.1.1.1.1.0 refl)

    -- ---- all checks

    -- a check of the pointer whose word lies on the stack, where it stays
    check_runs : (r : Reach) (k : Check) (next : ℕ) (c : Scratch) (stack : List ℕ) (s : meaning.State) (v : Value) (n : ℤ) (most : ℕ) → IsSmall slot most k → IsAside r c.number n → IsKept s v → Stands g l next c (word_of g s v ∷ stack) s → HasAt (code g l).ops next (check_code slot r k) → length stack + most ≤ (code g l).stack → Outcome (next + check_size r k) stack v c s (check (step_of r n) k v s)
    check_runs r (checks.NotNull site) next c stack s (Number z) n most small aside kept st at room = tt
    check_runs r (checks.NotNull site) next c stack s Null n most small aside kept st at room = stand_ends next c (0 ∷ stack) s (ops.NonNull site.place) false C1 site (0 ∷ stack) st at.0 refl
    check_runs r (checks.NotNull site) next c stack s (At block byte) n most small aside kept st at room =
        let w = word_of g s (At block byte) in
        let passes : not (w == 0) ≡ true = ap not (truth_word g s (At block byte) kept) in
        tested next stack (w ∷ stack) (At block byte) c c s (ops.NonNull site.place) true C1 site refl refl st at.0 (ap (λ yes. table.check yes C1 site.place (w ∷ stack) (frame g l next c (w ∷ stack) s) (standing g l next c (w ∷ stack) s)) passes)
    check_runs r (checks.Below x) next c stack s (Number z) n most small aside kept st at room = tt
    check_runs r (checks.Below x) next c stack s Null n most small aside kept st at room = tt
    check_runs r (checks.Below x) next c stack s (At block byte) n most small aside kept st at room =
        let b = x.bounds in
        within_by lies_below x.site (counted_size r) (next + check_size r (checks.Below x)) stack (At block byte) c s (pos byte +ℤ far (step_of r n)) (base_byte b.base s.locals block byte) (term_value b.lo s.locals) (term_value b.hi s.locals)
        (λ base low high has_base has_low has_high. below_runs r next c stack s b x.site block byte base n low high aside (has_base, has_low, has_high) st at (omega (arith, small.words)))
    check_runs r (checks.UpTo x) next c stack s (Number z) n most small aside kept st at room = tt
    check_runs r (checks.UpTo x) next c stack s Null n most small aside kept st at room = tt
    check_runs r (checks.UpTo x) next c stack s (At block byte) n most small aside kept st at room =
        let b = x.bounds in
        within_by lies_up_to x.site (counted_size r) (next + check_size r (checks.UpTo x)) stack (At block byte) c s (pos byte +ℤ far (step_of r n)) (base_byte b.base s.locals block byte) (term_value b.lo s.locals) (term_value b.hi s.locals)
        (λ base low high has_base has_low has_high. up_to_runs r next c stack s b x.site block byte base n low high aside (has_base, has_low, has_high) st at (omega (arith, small.words)))
    check_runs r (checks.Contains old new) next c stack s (Number z) n most small aside kept st at room = tt
    check_runs r (checks.Contains old new) next c stack s Null n most small aside kept st at room =
        let many : slot ≡ length s.locals = is ∙ sym st.kept.count in
        let reads = subst (λ k. AreLocal k old.bounds × AreLocal k new.bounds) many small.reads in
        null_runs (counted_size r) next c stack s old.bounds new.bounds new.site reads.0 reads.1 st at (omega (arith, small.words))
    check_runs r (checks.Contains old new) next c stack s (At block byte) n most small aside kept st at room =
        let a = old.bounds in
        let b = new.bounds in
        contained_by new.site (counted_size r) (next + 9) stack (At block byte) c s (base_byte a.base s.locals block byte) (term_value a.lo s.locals) (term_value a.hi s.locals) (base_byte b.base s.locals block byte) (term_value b.lo s.locals) (term_value b.hi s.locals)
        (λ base low high base' low' high' has_base has_low has_high has_base' has_low' has_high'.
        contains_runs (counted_size r) next c stack s a b new.site block byte base base' low high low' high' (has_base, has_low, has_high) (has_base', has_low', has_high') kept st at (omega (arith, small.words)))

    -- and checks of it, one after the other
    pub checks_run : (r : Reach) (cs : List Check) (next : ℕ) (c : Scratch) (stack : List ℕ) (s : meaning.State) (v : Value) (n : ℤ) (most : ℕ) → AllByRecursion (IsSmall slot most) cs → IsAside r c.number n → IsKept s v → Stands g l next c (word_of g s v ∷ stack) s → HasAt (code g l).ops next (checks_code slot r cs) → length stack + most ≤ (code g l).stack → Outcome (next + checks_size r cs) stack v c s (pass (step_of r n) cs v s)
    checks_run r [] next c stack s v n most small aside kept st at room =
        let none : next ≡ next + 0 = omega arith in
        record { after = c; stands = subst (λ k. Stands g l k c (word_of g s v ∷ stack) s) none st; value = refl; number = refl; same = refl }
    checks_run r (k ∷ cs) next c stack s v n most small aside kept st at room =
        let m = next + check_size r k in
        let end : m + checks_size r cs ≡ next + (check_size r k + checks_size r cs) = omega arith in
        let front = has_front (code g l).ops next (check_code slot r k) (checks_code slot r cs) at in
        let back = has_back (code g l).ops next (check_code slot r k) (checks_code slot r cs) (check_size r k) (length_check slot r k) at in
        subst (λ i. Outcome i stack v c s (pass (step_of r n) (k ∷ cs) v s)) end
        (leads_on (Passes m stack v c s) (Passes (m + checks_size r cs) stack v c s) (Finishes g) (check (step_of r n) k v s) (λ _ t. pass (step_of r n) cs v t)
        (check_runs r k next c stack s v n most small.0 aside kept st front room)
        (λ u t x.
        subst (λ z. Outcome (m + checks_size r cs) stack v c s (pass (step_of r n) cs v z)) (sym x.same)
        (leads_to (Passes (m + checks_size r cs) stack v x.after s) (Passes (m + checks_size r cs) stack v c s) (Finishes g) (pass (step_of r n) cs v s)
        (λ u' t' y. record { after = y.after; stands = y.stands; value = y.value ∙ x.value; number = y.number ∙ x.number; same = y.same })
        (checks_run r cs m x.after stack s v n most small.1 (subst (λ w. IsAside r w n) (sym x.number) aside) kept x.stands back room))))
