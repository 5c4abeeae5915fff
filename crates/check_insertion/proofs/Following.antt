-- Outcomes that follow others, step by step.
use Rattle.std.proofs.Common.{◌≡◌, ℕ, zero, suc, ◌+◌, ℤ, ◌+ℤ◌, ◌*ℤ◌, Bool, true, false, List, [], ◌∷◌, Option, Some, None, refl, sym, ap, ◌∙◌, subst, arith}
use Rattle.std.proofs.lemmas.Int.{ints}
use Rattle.std.specs.Prelude.{◌==◌, ◌&&◌, ◌||◌, not, slice_get, pos, negsuc}
use Rattle.act_words.specs.declared.operator.Comparison.{Comparison}
use Rattle.act_words.specs.Touches.{Asked, Got, Ended, spend_tick}
use Rattle.pointer_modes.specs.Types.{CType, Int, Char, Struct, Pointer}
use Rattle.ckc_core.specs.declared.program.Site.{Site}
use Rattle.ckc_text.specs.declared.code.Code.{Code}
use Rattle.ckc_text.specs.declared.code.Code.TheVariants.{C2, C5}
use Rattle.ckc_core.specs.Core as core
use Rattle.ckc_core.specs.declared.program.Direction.{Direction}
use Rattle.ckc_core.specs.declared.program.Direction.TheVariants as directions
use Rattle.std.proofs.lemmas.Bool.{eqb-true}
use Rattle.ckc_core.specs.declared.program.PointerBounds.{PointerBounds}
use Rattle.ckc_core.specs.Outcome.{Gives, Ends, Stuck, Unsound, Short, and_then}
use Rattle.ckc_core.specs.States.{Value, Number, Null, At, Cell, Local, State, in_world, cell_at, same_type, has_type}
use Rattle.ckc_core.specs.Bounds.{Ends as EndsOf, with_ends, ends_from, ends_at, base_byte, term_value, is_valid}
use Rattle.ckc_core.specs.Pointers.{number_given, checked_if, distance, lies_in, lies_up_to, are_within, cell_behind, pointer_if, pointer_at, reaches, ordered_if, ordered, not_null, counted_if, read_as, byte_read, counted_from, counted as bytes_counted, bytes_of_block}
use Rattle.ckc_core.specs.Steps.{is_zero, Result, Flow, Next, Broke, Continued, Returned, value_if, value_in, place_if, load_at, asked, choose, store_if, store_over, store_at, leaves_zero, on_next, behind_turn}
use Rattle.ckc_core.specs.Meaning.{sound_if, audit, cast_if, cast_within, cast_to, element, element_within, end_kept, reached, storable_at, summed, length_of}
use Rattle.check_insertion.specs.ErasedMeaning as erased
use Rattle.check_insertion.specs.declared.erased.Check.TheVariants as checks
use Rattle.check_insertion.specs.Insert as insert
use Rattle.check_insertion.specs.Insert.{access_checks, sum_checks, cast_checks, within_of, store_end, size_of}
use Rattle.ckc_core.proofs.Locals.{Keeps, keeps_on}
use Rattle.check_insertion.specs.Keeps.{Follows}

-- the other outcome is this one with its value seen another way, unless this one is stuck or unsound
abbrev pub FollowsBy : {A B : Type 0} → (A → B) → Result A → Result B → Type 0
FollowsBy f (Gives value state) other = other ≡ Gives (f value) state
FollowsBy f (Ends ending state) other = other ≡ Ends ending state
FollowsBy f (Stuck site state) other = Unit {0}
FollowsBy f (Unsound site state) other = Unit {0}
FollowsBy f Short other = other ≡ Short

pub same : {A : Type 0} (o : Result A) → Follows o o
same (Gives v s) = refl
same (Ends ending s) = refl
same (Stuck site s) = tt
same (Unsound site s) = tt
same Short = refl

pub on : {A B : Type 0} (o o' : Result A) (next next' : A → State → Result B) → Follows o o' → ((v : A) (s : State) → Follows (next v s) (next' v s)) → Follows (and_then o next) (and_then o' next')
on (Gives v s) o' next next' h more = subst (λ x. Follows (next v s) (and_then x next')) (sym h) (more v s)
on (Ends ending s) o' next next' h more = ap (λ x. and_then x next') h
on (Stuck site s) o' next next' h more = tt
on (Unsound site s) o' next next' h more = tt
on Short o' next next' h more = ap (λ x. and_then x next') h

pub on_by : {A A' B : Type 0} (f : A → A') (o : Result A) (o' : Result A') (next : A → State → Result B) (next' : A' → State → Result B) → FollowsBy f o o' → ((v : A) (s : State) → Follows (next v s) (next' (f v) s)) → Follows (and_then o next) (and_then o' next')
on_by f (Gives v s) o' next next' h more = subst (λ x. Follows (next v s) (and_then x next')) (sym h) (more v s)
on_by f (Ends ending s) o' next next' h more = ap (λ x. and_then x next') h
on_by f (Stuck site s) o' next next' h more = tt
on_by f (Unsound site s) o' next next' h more = tt
on_by f Short o' next next' h more = ap (λ x. and_then x next') h

-- the same where it is known among which locals the value stands
pub on_with : {A B : Type 0} (o o' : Result A) (next next' : A → State → Result B) (ls : List Local) → Follows o o' → Keeps ls o → ((v : A) (s : State) → s.locals ≡ ls → Follows (next v s) (next' v s)) → Follows (and_then o next) (and_then o' next')
on_with (Gives v s) o' next next' ls h kept more = subst (λ x. Follows (next v s) (and_then x next')) (sym h) (more v s kept)
on_with (Ends ending s) o' next next' ls h kept more = ap (λ x. and_then x next') h
on_with (Stuck site s) o' next next' ls h kept more = tt
on_with (Unsound site s) o' next next' ls h kept more = tt
on_with Short o' next next' ls h kept more = ap (λ x. and_then x next') h

-- what goes on twice goes on once with both
pub flat : {A B C : Type 0} (o : Result A) (f : A → State → Result B) (g : B → State → Result C) → and_then (and_then o f) g ≡ and_then o (λ v s. and_then (f v s) g)
flat (Gives v s) f g = refl
flat (Ends ending s) f g = refl
flat (Stuck site s) f g = refl
flat (Unsound site s) f g = refl
flat Short f g = refl

-- the number of a value, or none
pub given_on : (site : Site) (v : Value) (s : State) → Follows (number_given (Some site) v s) (number_given None v s)
given_on site (Number z) s = refl
given_on site Null s = tt
given_on site (At block byte) s = tt

number_kept_of : (site : Option Site) (ls : List Local) (v : Value) (s : State) → s.locals ≡ ls → Keeps ls (number_given site v s)
number_kept_of site ls (Number z) s kept = kept
number_kept_of site ls Null s kept = tt
number_kept_of site ls (At block byte) s kept = tt

pub number_kept : (site : Option Site) (ls : List Local) (o : Result Value) → Keeps ls o → Keeps ls (and_then o (number_given site))
number_kept site ls o h = keeps_on ls o (number_given site) h (λ v s kept. number_kept_of site ls v s kept)

-- a value that is seen another way at the end
pub seen_by : {A B : Type 0} (f : A → B) (g : A → State → B) (o o' : Result A) → Follows o o' → ((v : A) (s : State) → g v s ≡ f v) → FollowsBy f o (and_then o' (λ v s. Gives (g v s) s))
seen_by f g (Gives v s) o' h same = ap (λ x. and_then x (λ w t. Gives (g w t) t)) h ∙ ap (λ w. Gives w s) (same v s)
seen_by f g (Ends ending s) o' h same = ap (λ x. and_then x (λ w t. Gives (g w t) t)) h
seen_by f g (Stuck site s) o' h same = tt
seen_by f g (Unsound site s) o' h same = tt
seen_by f g Short o' h same = ap (λ x. and_then x (λ w t. Gives (g w t) t)) h

-- what is seen another way is left out again
pub left_out : {A B : Type 0} (f : A → B) (g : B → State → A) (o o' : Result B) → Follows o o' → ((v : B) (s : State) → f (g v s) ≡ v) → FollowsBy f (and_then o (λ v s. Gives (g v s) s)) o'
left_out f g (Gives v s) o' h back = h ∙ ap (λ w. Gives w s) (sym (back v s))
left_out f g (Ends ending s) o' h back = h
left_out f g (Stuck site s) o' h back = tt
left_out f g (Unsound site s) o' h back = tt
left_out f g Short o' h back = h

pub asked_on : {A B : Type 0} (o : Asked A) (s : State) (next next' : A → State → Result B) → ((v : A) (t : State) → Follows (next v t) (next' v t)) → Follows (asked o s next) (asked o s next')
asked_on (Got v w) s next next' more = more v (in_world w s)
asked_on (Ended ending w) s next next' more = refl

pub chosen : {A : Type 0} (test : Bool) (a a' b b' : Result A) → Follows a a' → Follows b b' → Follows (choose test a b) (choose test a' b')
chosen true a a' b b' h i = h
chosen false a a' b b' h i = i

pub next_on : (rest rest' : State → Result Flow) (flow : Flow) (s : State) → Follows (rest s) (rest' s) → Follows (on_next rest flow s) (on_next rest' flow s)
next_on rest rest' Next s h = h
next_on rest rest' Broke s h = refl
next_on rest rest' Continued s h = refl
next_on rest rest' (Returned v) s h = refl

pub turned_on : (further further' : State → Result Flow) (flow : Flow) (s : State) → Follows (further s) (further' s) → Follows (behind_turn further flow s) (behind_turn further' flow s)
turned_on further further' Next s h = h
turned_on further further' Continued s h = h
turned_on further further' Broke s h = refl
turned_on further further' (Returned v) s h = refl

-- ---- pointers

sound : (test : Bool) (site : Site) (v : Value) (s : State) (o' : Result Value) → o' ≡ Gives v s → Follows (sound_if test site v s) o'
sound true site v s o' h = h
sound false site v s o' h = tt

audit_step : (audited : Bool) (bounds : Option PointerBounds) (v : Value) (s : State) (o' : Result Value) → o' ≡ Gives v s → Follows (audit audited bounds v s) o'
audit_step audited None v s o' h = h
audit_step audited (Some p) v s o' h = sound (not audited || is_valid p v s) p.site v s o' h

-- an audit leaves a pointer as it is
pub audit_on : (audited : Bool) (bounds : Option PointerBounds) (o o' : Result Value) → Follows o o' → Follows (and_then o (audit audited bounds)) o'
audit_on audited bounds (Gives v s) o' h = audit_step audited bounds v s o' h
audit_on audited bounds (Ends ending s) o' h = h
audit_on audited bounds (Stuck site s) o' h = tt
audit_on audited bounds (Unsound site s) o' h = tt
audit_on audited bounds Short o' h = h

pub ends_aside : (bounds : Option PointerBounds) (v : Value) (ls : List Local) → (with_ends bounds v ls).value ≡ v
ends_aside None v ls = refl
ends_aside (Some p) (Number z) ls = refl
ends_aside (Some p) Null ls = refl
ends_aside (Some p) (At block byte) ls = refl

placed_on : (o : Option Cell) (site : Site) (block byte : ℕ) (s : State) → Follows (place_if o (Some site) block byte s) (place_if o None block byte s)
placed_on None site block byte s = tt
placed_on (Some cell) site block byte s = refl

element_on : (offset : ℕ) (site : Site) (v : Value) (s : State) → Follows (element offset site v s) (and_then (erased.pass (erased.no_step 1) (checks.NotNull site ∷ []) v s) (λ _ t. erased.element offset v t))
element_on offset site (Number z) s = tt
element_on offset site Null s = refl
element_on offset site (At block byte) s = placed_on (cell_at s.blocks block (byte + offset)) site block (byte + offset) s

-- a check that is passed leads on, and one that fails ends both
passed_if : {A : Type 0} (test : Bool) (code : Code) (site : Site) (here there : Result A) (s : State) → Follows here there → Follows (checked_if test code site here s) (and_then (and_then (checked_if test code site (Gives (tt {0}) s) s) (λ _ t. Gives (tt {0}) t)) (λ _ t. there))
passed_if true code site here there s h = h
passed_if false code site here there s h = refl

behind_on : (site : Site) (block : ℕ) (byte : ℤ) (offset : ℕ) (s : State) → Follows (cell_behind (Some site) block byte offset s) (cell_behind None block byte offset s)
behind_on site block (pos byte) offset s = placed_on (cell_at s.blocks block (byte + offset)) site block (byte + offset) s
behind_on site block (negsuc byte) offset s = tt

pointer_on_if : (test : Bool) (site : Site) (block byte : ℕ) (s : State) → Follows (pointer_if test (Some site) block byte s) (pointer_if test None block byte s)
pointer_on_if true site block byte s = refl
pointer_on_if false site block byte s = tt

pointer_at_on : (site : Site) (block : ℕ) (byte : ℤ) (s : State) → Follows (pointer_at (Some site) block byte s) (pointer_at None block byte s)
pointer_at_on site block (pos byte) s = pointer_on_if (reaches (slice_get s.blocks block) byte) site block byte s
pointer_at_on site block (negsuc byte) s = tt

-- ends tell the bytes of an element
ends_sized : (size : ℕ) (base : Option ℕ) (low high : Option ℤ) (e : EndsOf) → ends_from size base low high ≡ Some e → e.size ≡ size
ends_sized size None low high e h = absurd (cc)
ends_sized size (Some base) None high e h = absurd (cc)
ends_sized size (Some base) (Some low) None e h = absurd (cc)
ends_sized size (Some base) (Some low) (Some high) e h =
    let same : record { low = pos base +ℤ (low *ℤ pos size); high = pos base +ℤ (high *ℤ pos size); size = size } ≡ e = cc in
    ap (λ (x : EndsOf). x.size) (sym same)

sized : (b : PointerBounds) (ls : List Local) (block byte : ℕ) (e : EndsOf) → ends_at b ls block byte ≡ Some e → e.size ≡ b.size
sized b ls block byte e h = ends_sized b.size (base_byte b.bounds.base ls block byte) (term_value b.bounds.lo ls) (term_value b.bounds.hi ls) e h

-- what follows a check of the ends doesn't ask for the state
within_stays : (test : EndsOf → ℤ → Bool) (site : Site) (ends : Option EndsOf) (byte : ℤ) (s : State) {A : Type 0} (next : State → Result A)
    → and_then (and_then (erased.within test site ends byte s) (λ _ t. Gives (tt {0}) t)) (λ _ t. next s) ≡ and_then (and_then (erased.within test site ends byte s) (λ _ t. Gives (tt {0}) t)) (λ _ t. next t)
within_stays test site None byte s next = refl
within_stays test site (Some e) byte s next = by (test e byte)
  where
    by : (holds : Bool) → and_then (and_then (checked_if holds C2 site (Gives (tt {0}) s) s) (λ _ t. Gives (tt {0}) t)) (λ _ t. next s) ≡ and_then (and_then (checked_if holds C2 site (Gives (tt {0}) s) s) (λ _ t. Gives (tt {0}) t)) (λ _ t. next t)
    by true = refl
    by false = refl

-- ---- elements

within_on : (terminated : Bool) (offset : ℕ) (site : Site) (n : ℤ) (block byte : ℕ) (ends : Option EndsOf) (size : ℕ) (s : State) → ((e : EndsOf) → ends ≡ Some e → e.size ≡ size)
    → Follows (element_within terminated offset site n (At block byte) ends s)
    (and_then (and_then (erased.within (lies_in terminated) site ends (pos byte +ℤ distance directions.Forward size n) s) (λ _ t. Gives (tt {0}) t)) (λ _ t. cell_behind None block (pos byte +ℤ distance directions.Forward size n) offset s))
within_on terminated offset site n block byte None size s same = tt
within_on terminated offset site n block byte (Some e) size s same =
    let x = pos byte +ℤ distance directions.Forward e.size n in
    subst (λ k. Follows (element_within terminated offset site n (At block byte) (Some e) s)
    (and_then (and_then (erased.within (lies_in terminated) site (Some e) (pos byte +ℤ distance directions.Forward k n) s) (λ _ t. Gives (tt {0}) t)) (λ _ t. cell_behind None block (pos byte +ℤ distance directions.Forward k n) offset s)))
    (same e refl) (passed_if (lies_in terminated e x) C2 site (cell_behind (Some site) block x offset s) (cell_behind None block x offset s) s (behind_on site block x offset s))

-- the step to an element of a pointer with these bounds
abbrev step_of : Option PointerBounds → Direction → ℤ → erased.Step
step_of bounds direction n = record { direction = direction; size = size_of bounds; number = n }

-- an element behind its checks, by the bounds of its pointer
element_here : (terminated : Bool) (bounds : Option PointerBounds) (offset : ℕ) (site : Site) (n : ℤ) (v : Value) (s : State)
    → Follows (element_within terminated offset site n v (with_ends bounds v s.locals).ends s)
    (and_then (erased.pass (step_of bounds directions.Forward n) (checks.NotNull site ∷ within_of terminated bounds site) v s) (λ _ t. erased.far_element offset (step_of bounds directions.Forward n) v t))
element_here terminated bounds offset site n (Number z) s = tt
element_here terminated None offset site n Null s = refl
element_here terminated (Some b) offset site n Null s = refl
element_here terminated None offset site n (At block byte) s = tt
element_here false (Some b) offset site n (At block byte) s =
    let ends = ends_at b s.locals block byte in
    let x = pos byte +ℤ distance directions.Forward b.size n in
    subst (λ o. Follows (element_within false offset site n (At block byte) ends s) o) (within_stays (lies_in false) site ends x s (λ t. cell_behind None block x offset t))
    (within_on false offset site n block byte ends b.size s (sized b s.locals block byte))
element_here true (Some b) offset site n (At block byte) s =
    let ends = ends_at b s.locals block byte in
    let x = pos byte +ℤ distance directions.Forward b.size n in
    subst (λ o. Follows (element_within true offset site n (At block byte) ends s) o) (within_stays (lies_in true) site ends x s (λ t. cell_behind None block x offset t))
    (within_on true offset site n block byte ends b.size s (sized b s.locals block byte))

-- an access behind its checks, which come first
pub reached_on : (which : core.Index) (bounds : Option PointerBounds) (offset : ℕ) (site : Site) (v : Value) (n : ℤ) (ls : List Local) (s : State) → s.locals ≡ ls
    → Follows (reached which offset site (record { pointer = with_ends bounds v ls; number = n }) s)
    (and_then (erased.pass (erased.step_to (insert.index (size_of bounds) which) n) (access_checks bounds which site) v s) (λ _ t. erased.reached (insert.index (size_of bounds) which) offset (erased.step_to (insert.index (size_of bounds) which) n) v t))
reached_on core.First bounds offset site v n ls s kept =
    subst (λ w. Follows (element offset site w s) (and_then (erased.pass (erased.no_step 1) (checks.NotNull site ∷ []) v s) (λ _ t. erased.element offset v t))) (sym (ends_aside bounds v ls)) (element_on offset site v s)
reached_on (core.Element number terminated) bounds offset site v n ls s kept =
    let step = step_of bounds directions.Forward n in
    let right = and_then (erased.pass step (checks.NotNull site ∷ within_of terminated bounds site) v s) (λ _ t. erased.far_element offset step v t) in
    subst (λ xs. Follows (element_within terminated offset site n (with_ends bounds v xs).value (with_ends bounds v xs).ends s) right) kept
    (subst (λ w. Follows (element_within terminated offset site n w (with_ends bounds v s.locals).ends s) right) (sym (ends_aside bounds v s.locals)) (element_here terminated bounds offset site n v s))

-- ---- stores at the upper end

end_on : (site : Site) (n : ℤ) (v : Value) (block byte : ℕ) (ends : Option EndsOf) (size : ℕ) (s : State) → ((e : EndsOf) → ends ≡ Some e → e.size ≡ size)
    → Follows (end_kept site n v (At block byte) ends s) (erased.kept_at site ends (pos byte +ℤ distance directions.Forward size n) v s)
end_on site n v block byte None size s sized = tt
end_on site n v block byte (Some e) size s sized =
    subst (λ k. Follows (end_kept site n v (At block byte) (Some e) s) (erased.kept_at site (Some e) (pos byte +ℤ distance directions.Forward k n) v s)) (sized e refl) (same _)

end_here : (bounds : Option PointerBounds) (which : core.Index) (site : Site) (n : ℤ) (w v : Value) (s : State)
    → Follows (storable_at which site (record { pointer = record { value = w; ends = (with_ends bounds w s.locals).ends }; number = n }) v s)
    (erased.storable (erased.step_to (insert.index (size_of bounds) which) n) (store_end bounds which site) w v s)
end_here bounds core.First site n w v s = refl
end_here bounds (core.Element number false) site n w v s = refl
end_here None (core.Element number true) site n (Number z) v s = tt
end_here None (core.Element number true) site n Null v s = tt
end_here None (core.Element number true) site n (At block byte) v s = tt
end_here (Some b) (core.Element number true) site n (Number z) v s = tt
end_here (Some b) (core.Element number true) site n Null v s = tt
end_here (Some b) (core.Element number true) site n (At block byte) v s =
    end_on site n v block byte (ends_at b s.locals block byte) b.size s (sized b s.locals block byte)

-- what may be stored at a place, by the bounds of its pointer
pub storable_on : (which : core.Index) (bounds : Option PointerBounds) (site : Site) (w : Value) (n : ℤ) (v : Value) (ls : List Local) (s : State) → s.locals ≡ ls
    → Follows (storable_at which site (record { pointer = with_ends bounds w ls; number = n }) v s)
    (erased.storable (erased.step_to (insert.index (size_of bounds) which) n) (store_end bounds which site) w v s)
storable_on which bounds site w n v ls s kept =
    let right = erased.storable (erased.step_to (insert.index (size_of bounds) which) n) (store_end bounds which site) w v s in
    subst (λ xs. Follows (storable_at which site (record { pointer = with_ends bounds w xs; number = n }) v s) right) kept
    (subst (λ x. Follows (storable_at which site (record { pointer = record { value = x; ends = (with_ends bounds w s.locals).ends }; number = n }) v s) right) (sym (ends_aside bounds w s.locals))
    (end_here bounds which site n w v s))

-- ---- sums

summed_within_on : (direction : Direction) (site : Site) (n : ℤ) (block byte : ℕ) (ends : Option EndsOf) (size : ℕ) (s : State) → ((e : EndsOf) → ends ≡ Some e → e.size ≡ size)
    → Follows (summed direction site n (At block byte) ends s)
    (and_then (and_then (erased.within lies_up_to site ends (pos byte +ℤ distance direction size n) s) (λ _ t. Gives (tt {0}) t)) (λ _ t. pointer_at None block (pos byte +ℤ distance direction size n) s))
summed_within_on direction site n block byte None size s same = tt
summed_within_on direction site n block byte (Some e) size s same =
    let x = pos byte +ℤ distance direction e.size n in
    subst (λ k. Follows (summed direction site n (At block byte) (Some e) s)
    (and_then (and_then (erased.within lies_up_to site (Some e) (pos byte +ℤ distance direction k n) s) (λ _ t. Gives (tt {0}) t)) (λ _ t. pointer_at None block (pos byte +ℤ distance direction k n) s)))
    (same e refl) (passed_if (lies_up_to e x) C2 site (pointer_at (Some site) block x s) (pointer_at None block x s) s (pointer_at_on site block x s))

summed_here : (bounds : Option PointerBounds) (direction : Direction) (site : Site) (n : ℤ) (v : Value) (s : State)
    → Follows (summed direction site n v (with_ends bounds v s.locals).ends s) (and_then (erased.pass (step_of bounds direction n) (sum_checks bounds site) v s) (λ _ t. erased.moved (step_of bounds direction n) v t))
summed_here bounds direction site n (Number z) s = tt
summed_here None direction site n Null s = refl
summed_here (Some b) direction site n Null s = refl
summed_here None direction site n (At block byte) s = tt
summed_here (Some b) direction site n (At block byte) s =
    let ends = ends_at b s.locals block byte in
    let x = pos byte +ℤ distance direction b.size n in
    subst (λ o. Follows (summed direction site n (At block byte) ends s) o) (within_stays lies_up_to site ends x s (λ t. pointer_at None block x t))
    (summed_within_on direction site n block byte ends b.size s (sized b s.locals block byte))

pub summed_on : (bounds : Option PointerBounds) (direction : Direction) (site : Site) (n : ℤ) (v : Value) (ls : List Local) (s : State) → s.locals ≡ ls
    → Follows (summed direction site n v (with_ends bounds v ls).ends s) (and_then (erased.pass (step_of bounds direction n) (sum_checks bounds site) v s) (λ _ t. erased.moved (step_of bounds direction n) v t))
summed_on bounds direction site n v ls s kept =
    subst (λ xs. Follows (summed direction site n v (with_ends bounds v xs).ends s) (and_then (erased.pass (step_of bounds direction n) (sum_checks bounds site) v s) (λ _ t. erased.moved (step_of bounds direction n) v t))) kept (summed_here bounds direction site n v s)

-- ---- lengths

counted_on : (more budget : ℕ) (site site' : Option Site) (block byte n : ℕ) (s : State) → Follows (counted_from more budget site block byte n s) (counted_from more budget site' block byte n s)
counted_on zero budget site site' block byte n s = tt
counted_on (suc more) budget site site' block byte n s =
    asked_on (spend_tick budget s.world) s _ _
    (λ _ t. read_on (cell_at t.blocks block byte) (counted_from more budget site block (byte + 1) (n + 1) t) (counted_from more budget site' block (byte + 1) (n + 1) t) t
    (counted_on more budget site site' block (byte + 1) (n + 1) t))
  where
    zero_on : (test : Bool) (more more' : Result Value) (t : State) → Follows more more' → Follows (counted_if test site n more t) (counted_if test site' n more' t)
    zero_on true more more' t h = refl
    zero_on false more more' t h = h

    as_on : (type : CType) (v : Value) (more more' : Result Value) (t : State) → Follows more more' → Follows (read_as type v site n more t) (read_as type v site' n more' t)
    as_on Int v more more' t h = tt
    as_on Char (Number z) more more' t h = zero_on (is_zero (Number z)) more more' t h
    as_on Char Null more more' t h = tt
    as_on Char (At other at) more more' t h = tt
    as_on (Struct number) v more more' t h = tt
    as_on (Pointer mode kind target) v more more' t h = tt

    read_on : (o : Option Cell) (more more' : Result Value) (t : State) → Follows more more' → Follows (byte_read o site n more t) (byte_read o site' n more' t)
    read_on None more more' t h = tt
    read_on (Some cell) more more' t h = as_on cell.type cell.value more more' t h

length_here : (bounds : Option PointerBounds) (budget : ℕ) (site : Site) (v : Value) (s : State)
    → Follows (length_of budget site v (with_ends bounds v s.locals).ends s)
    (and_then (erased.pass (erased.no_step (size_of bounds)) (sum_checks bounds site) v s) (λ _ t. erased.length_from budget v t))
length_here bounds budget site (Number z) s = tt
length_here None budget site Null s = refl
length_here (Some b) budget site Null s = refl
length_here None budget site (At block byte) s = tt
length_here (Some b) budget site (At block byte) s =
    let ends = ends_at b s.locals block byte in
    let x = pos byte +ℤ distance directions.Forward b.size (pos 0) in
    subst (λ o. Follows (length_of budget site (At block byte) ends s) o) (within_stays lies_up_to site ends x s (λ t. bytes_counted budget None block byte t))
    (length_within ends)
  where
    -- no step leads to where the pointer stands
    stands : pos byte +ℤ distance directions.Forward b.size (pos 0) ≡ pos byte
    stands = omega (arith, ints)

    length_within : (ends : Option EndsOf) → Follows (length_of budget site (At block byte) ends s)
        (and_then (and_then (erased.within lies_up_to site ends (pos byte +ℤ distance directions.Forward b.size (pos 0)) s) (λ _ t. Gives (tt {0}) t)) (λ _ t. bytes_counted budget None block byte s))
    length_within None = tt
    length_within (Some e) =
        subst (λ x. Follows (length_of budget site (At block byte) (Some e) s) (and_then (and_then (erased.within lies_up_to site (Some e) x s) (λ _ t. Gives (tt {0}) t)) (λ _ t. bytes_counted budget None block byte s))) (sym stands)
        (passed_if (lies_up_to e (pos byte)) C2 site (bytes_counted budget (Some site) block byte s) (bytes_counted budget None block byte s) s
        (counted_on (suc (bytes_of_block (slice_get s.blocks block))) budget (Some site) None block byte 0 s))

pub length_on : (bounds : Option PointerBounds) (budget : ℕ) (site : Site) (v : Value) (s : State)
    → Follows (length_of budget site v (with_ends bounds v s.locals).ends s)
    (and_then (erased.pass (erased.no_step (size_of bounds)) (sum_checks bounds site) v s) (λ _ t. erased.length_from budget v t))
length_on bounds budget site v s = length_here bounds budget site v s

-- ---- order

not_null_on : (site : Site) (v : Value) (s : State) → Follows (not_null site v s) (erased.pass (erased.no_step 1) (checks.NotNull site ∷ []) v s)
not_null_on site (Number z) s = tt
not_null_on site Null s = refl
not_null_on site (At block byte) s = refl

order_on_if : (test : Bool) (comparison : Comparison) (site : Site) (byte other : ℕ) (s : State) → Follows (ordered_if test comparison (Some site) byte other s) (ordered_if test comparison None byte other s)
order_on_if true comparison site byte other s = refl
order_on_if false comparison site byte other s = tt

order_on : (comparison : Comparison) (site : Site) (v w : Value) (s : State) → Follows (ordered comparison (Some site) v w s) (ordered comparison None v w s)
order_on comparison site (Number z) w s = tt
order_on comparison site Null w s = tt
order_on comparison site (At block byte) (Number z) s = tt
order_on comparison site (At block byte) Null s = tt
order_on comparison site (At block byte) (At other byte') s = order_on_if (block == other) comparison site byte byte' s

pub ordered_on : (comparison : Comparison) (site : Site) (v w : Value) (s : State)
    → Follows (and_then (not_null site v s) (λ _ t. and_then (not_null site w t) (λ _ u. ordered comparison (Some site) v w u)))
    (and_then (erased.pass (erased.no_step 1) (checks.NotNull site ∷ []) v s) (λ _ t. and_then (erased.pass (erased.no_step 1) (checks.NotNull site ∷ []) w t) (λ _ u. ordered comparison None v w u)))
ordered_on comparison site v w s =
    on (not_null site v s) (erased.pass (erased.no_step 1) (checks.NotNull site ∷ []) v s) _ _ (not_null_on site v s)
    (λ _ t. on (not_null site w t) (erased.pass (erased.no_step 1) (checks.NotNull site ∷ []) w t) _ _ (not_null_on site w t) (λ _ u. order_on comparison site v w u))

-- ---- casts

contained_on : (site : Site) (v : Value) (old new : EndsOf) (s : State) → Follows (checked_if (are_within old new) C5 site (Gives v s) s) (and_then (and_then (erased.contained site (Some old) (Some new) s) (λ _ t. Gives (tt {0}) t)) (λ _ t. Gives v t))
contained_on site v old new s = by (are_within old new)
  where
    by : (test : Bool) → Follows (checked_if test C5 site (Gives v s) s) (and_then (and_then (checked_if test C5 site (Gives (tt {0}) s) s) (λ _ t. Gives (tt {0}) t)) (λ _ t. Gives v t))
    by true = refl
    by false = refl

-- the new bounds, counted in elements of the old ones
abbrev recounted : PointerBounds → PointerBounds → PointerBounds
recounted old new = record { bounds = new.bounds; size = old.size; terminated = false; site = new.site }

cast_here : (old new : PointerBounds) (block byte : ℕ) (s : State) (o n : Option EndsOf) → ends_at old s.locals block byte ≡ o → ends_at new s.locals block byte ≡ n
    → Follows (cast_within new.site (At block byte) o n s) (and_then (and_then (erased.contained new.site o (ends_at (recounted old new) s.locals block byte) s) (λ _ t. Gives (tt {0}) t)) (λ _ t. Gives (At block byte) t))
cast_here old new block byte s None n e e' = tt
cast_here old new block byte s (Some eo) None e e' = tt
cast_here old new block byte s (Some eo) (Some en) e e' = by (eo.size == en.size) refl
  where
    by : (test : Bool) → (eo.size == en.size) ≡ test → Follows (cast_if test new.site (At block byte) eo en s)
        (and_then (and_then (erased.contained new.site (Some eo) (ends_at (recounted old new) s.locals block byte) s) (λ _ t. Gives (tt {0}) t)) (λ _ t. Gives (At block byte) t))
    by false h = tt
    by true h =
        let same : new.size ≡ old.size = sym (sized new s.locals block byte en e') ∙ sym (eqb-true eo.size en.size h) ∙ sized old s.locals block byte eo e in
        let there : ends_at (recounted old new) s.locals block byte ≡ Some en = ap (λ k. ends_at (record { bounds = new.bounds; size = k; terminated = false; site = new.site }) s.locals block byte) (sym same) ∙ e' in
        subst (λ o. Follows (checked_if (are_within eo en) C5 new.site (Gives (At block byte) s) s) (and_then (and_then (erased.contained new.site (Some eo) o s) (λ _ t. Gives (tt {0}) t)) (λ _ t. Gives (At block byte) t))) (sym there)
        (contained_on new.site (At block byte) eo en s)

pub cast_on : (old new : Option PointerBounds) (v : Value) (s : State) → Follows (cast_to new (with_ends old v s.locals) s) (and_then (erased.pass (erased.no_step (size_of old)) (cast_checks old new) v s) (λ _ t. Gives v t))
cast_on old None v s = ap (λ w. Gives w s) (sym (ends_aside old v s.locals))
cast_on None (Some new) (Number z) s = tt
cast_on None (Some new) Null s = refl
cast_on None (Some new) (At block byte) s = tt
cast_on (Some old) (Some new) (Number z) s = tt
cast_on (Some old) (Some new) Null s = refl
cast_on (Some old) (Some new) (At block byte) s = cast_here old new block byte s (ends_at old s.locals block byte) (ends_at new s.locals block byte) refl refl

-- ---- loads and stores, whose sites only a stuck step tells

value_on : (test : Bool) (site site' : Option Site) (v : Value) (s : State) → Follows (value_if test site v s) (value_if test site' v s)
value_on true site site' v s = refl
value_on false site site' v s = tt

loaded_on : (type : CType) (site site' : Option Site) (o : Option Cell) (s : State) → Follows (value_in type site o s) (value_in type site' o s)
loaded_on type site site' None s = tt
loaded_on type site site' (Some cell) s = value_on (same_type type cell.type) site site' cell.value s

pub load_on : (type : CType) (site site' : Option Site) (at : ℕ × ℕ) (s : State) → Follows (load_at type site at s) (load_at type site' at s)
load_on type site site' at s = loaded_on type site site' (cell_at s.blocks at.0 at.1) s

stored_on : (test : Bool) (site site' : Option Site) (block byte : ℕ) (v : Value) (s : State) → Follows (store_if test site block byte v s) (store_if test site' block byte v s)
stored_on true site site' block byte v s = refl
stored_on false site site' block byte v s = tt

over_on : (o : Option Cell) (type : CType) (site site' : Option Site) (v : Value) (block byte : ℕ) (s : State) → Follows (store_over o type site v block byte s) (store_over o type site' v block byte s)
over_on None type site site' v block byte s = tt
over_on (Some old) type site site' v block byte s =
    stored_on (same_type type old.type && (has_type type v && leaves_zero (slice_get s.blocks block) byte v)) site site' block byte v s

pub store_on : (type : CType) (site site' : Option Site) (at : ℕ × ℕ) (v : Value) (s : State) → Follows (store_at type site at v s) (store_at type site' at v s)
store_on type site site' at v s = over_on (cell_at s.blocks at.0 at.1) type site site' v at.0 at.1 s
