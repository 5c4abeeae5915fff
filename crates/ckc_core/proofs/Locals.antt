-- An expression leaves the locals as they are.
use Rattle.std.proofs.Common.{◌≡◌, ℕ, zero, suc, ◌+◌, ◌*◌, Bool, true, false, ℤ, ◌+ℤ◌, List, length, Option, Some, None, refl, subst}
use Rattle.std.specs.Prelude.{◌==◌, ◌||◌, not, nat_lt, slice_get, pos, negsuc}
use Rattle.flat_bytes.specs.Blocks.{first_offset, is_refused}
use Rattle.act_words.specs.Acts.{Passed}
use Rattle.ckc_core.specs.Outcome.{Gives, Ends, Stuck, Unsound, Short, and_then}
use Rattle.act_words.specs.Checks.{Checked, Holds, Fails, is_word_number}
use Rattle.act_words.specs.Arithmetic as arithmetic
use Rattle.act_words.specs.Touches.{Asked, Got, Ended, spend_tick, enter_call, next_input, touch}
use Rattle.pointer_modes.specs.Types.{CType, Int, Char, Struct, Pointer}
use Rattle.ckc_core.specs.declared.program.Site.{Site}
use Rattle.act_words.specs.declared.operator.Operator.{Operator}
use Rattle.act_words.specs.declared.operator.Comparison.{Comparison}
use Rattle.ckc_core.specs.declared.program.Callee.{Callee}
use Rattle.ckc_core.specs.declared.program.Callee.TheVariants as callees
use Rattle.ckc_core.specs.Programs.{Import, Initial}
use Rattle.ckc_core.specs.declared.program.Direction.{Direction}
use Rattle.ckc_core.specs.declared.program.Terminator.{Terminator}
use Rattle.ckc_core.specs.declared.program.Direction.TheVariants as directions
use Rattle.ckc_core.specs.declared.program.PointerBounds.{PointerBounds}
use Rattle.ckc_core.specs.Bounds.{Ends as EndsOf, ends_at, Pointed, with_ends, is_valid}
use Rattle.ckc_core.specs.Core as core
use Rattle.ckc_core.specs.States.{Value, Number, Null, At, Cell, Local, State, in_world, cell_at, same_type}
use Rattle.ckc_core.specs.Steps.{kept_if, variable_if, is_zero, Result, given, checked, value_if, value_in, load_at, place_if, pointer_to, truth, same_place, test_given, result_of, arithmetic_of, compared, negated, complemented, low_byte_of, asked, words_of, reply_as, passed, cross, cross_if, call_tainted, takes, enter_if, called, result_given, choose, back, place_at}
use Rattle.ckc_core.specs.Meaning.{Knot, bounds_of, Setting, audit, cast_to, cast_if, cast_within, element, element_within, length_of, number_of, place, Target, reached, site_of, sound_if, summed, value, values}
use Rattle.ckc_core.specs.Pointers.{number_given, checked_if, distance, lies_in, lies_up_to, are_within, cell_behind, reaches, pointer_if, pointer_at, ordered_if, ordered, not_null, counter_behind, element_size, made_if, elements_made, allocated, is_terminated, before_zero, made_elements, counted_if, read_as, byte_read, counted_from, counted, bytes_of_block}
use Rattle.ckc_text.specs.declared.code.Code.{Code}
use Rattle.ckc_text.specs.declared.code.Code.TheVariants.{C2, C5}

-- what is given stands among these locals
abbrev pub Keeps : List Local → {A : Type 0} → Result A → Type 0
Keeps ls (Gives v s) = s.locals ≡ ls
Keeps ls (Ends ending s) = Unit {0}
Keeps ls (Stuck site s) = Unit {0}
Keeps ls (Unsound site s) = Unit {0}
Keeps ls Short = Unit {0}

pub keeps_on : {A B : Type 0} (ls : List Local) (o : Result A) (next : A → State → Result B) → Keeps ls o → ((v : A) (s : State) → s.locals ≡ ls → Keeps ls (next v s)) → Keeps ls (and_then o next)
keeps_on ls (Gives v s) next h more = more v s h
keeps_on ls (Ends ending s) next h more = tt
keeps_on ls (Stuck site s) next h more = tt
keeps_on ls (Unsound site s) next h more = tt
keeps_on ls Short next h more = tt

asked_keeps : {A B : Type 0} (ls : List Local) (o : Asked A) (s : State) (next : A → State → Result B) → s.locals ≡ ls → ((v : A) (t : State) → t.locals ≡ ls → Keeps ls (next v t)) → Keeps ls (asked o s next)
asked_keeps ls (Got v w) s next kept more = more v (in_world w s) kept
asked_keeps ls (Ended ending w) s next kept more = tt

chosen_keeps : {A : Type 0} (ls : List Local) (test : Bool) (first second : Result A) → Keeps ls first → Keeps ls second → Keeps ls (choose test first second)
chosen_keeps ls true first second h other = h
chosen_keeps ls false first second h other = other

-- a call that is over stands among the locals of the function that called
pub back_keeps : {A : Type 0} (s : State) (o : Result A) → Keeps s.locals (and_then o (back s))
back_keeps s (Gives v t) = refl
back_keeps s (Ends ending t) = tt
back_keeps s (Stuck site t) = tt
back_keeps s (Unsound site t) = tt
back_keeps s Short = tt

module _ (ls : List Local) (s : State) (kept : s.locals ≡ ls) where
  given_keeps : (o : Option Local) → Keeps ls (given o s)
  given_keeps None = tt
  given_keeps (Some v) = kept

  checked_keeps : (o : Checked ℤ) → Keeps ls (checked o s)
  checked_keeps (Holds z) = kept
  checked_keeps (Fails ending) = tt

  value_keeps_if : (test : Bool) (site : Option Site) (v : Value) → Keeps ls (value_if test site v s)
  value_keeps_if true site v = kept
  value_keeps_if false site v = tt

  pub cell_keeps : (type : CType) (site : Option Site) (o : Option Cell) → Keeps ls (value_in type site o s)
  cell_keeps type site None = tt
  cell_keeps type site (Some cell) = value_keeps_if (same_type type cell.type) site cell.value

  placed_keeps : (o : Option Cell) (site : Option Site) (block byte : ℕ) → Keeps ls (place_if o site block byte s)
  placed_keeps None site block byte = tt
  placed_keeps (Some cell) site block byte = kept

  direct_keeps : (site : Option Site) (block byte : ℕ) → Keeps ls (place_at site block byte s)
  direct_keeps site block byte = placed_keeps (cell_at s.blocks block byte) site block byte

  variable_keeps : (test : Bool) (object offset : ℕ) → Keeps ls (variable_if test object offset s)
  variable_keeps true object offset = direct_keeps None object offset
  variable_keeps false object offset = tt

  element_keeps : (offset : ℕ) (site : Site) (v : Value) → Keeps ls (element offset site v s)
  element_keeps offset site (Number z) = tt
  element_keeps offset site Null = tt
  element_keeps offset site (At block byte) = direct_keeps (Some site) block (byte + offset)

  number_keeps : (site : Option Site) (v : Value) → Keeps ls (number_given site v s)
  number_keeps site (Number z) = kept
  number_keeps site Null = tt
  number_keeps site (At block byte) = tt

  checked_keeps_if : {A : Type 0} (test : Bool) (code : Code) (site : Site) (next : Result A) → Keeps ls next → Keeps ls (checked_if test code site next s)
  checked_keeps_if true code site next h = h
  checked_keeps_if false code site next h = tt

  cell_behind_keeps : (site : Option Site) (block : ℕ) (byte : ℤ) (offset : ℕ) → Keeps ls (cell_behind site block byte offset s)
  cell_behind_keeps site block (pos byte) offset = direct_keeps site block (byte + offset)
  cell_behind_keeps site block (negsuc byte) offset = tt

  pointer_keeps_if : (test : Bool) (site : Option Site) (block byte : ℕ) → Keeps ls (pointer_if test site block byte s)
  pointer_keeps_if true site block byte = kept
  pointer_keeps_if false site block byte = tt

  pointer_at_keeps : (site : Option Site) (block : ℕ) (byte : ℤ) → Keeps ls (pointer_at site block byte s)
  pointer_at_keeps site block (pos byte) = pointer_keeps_if (reaches (slice_get s.blocks block) byte) site block byte
  pointer_at_keeps site block (negsuc byte) = tt

  within_keeps : (terminated : Bool) (offset : ℕ) (site : Site) (n : ℤ) (v : Value) (ends : Option EndsOf) → Keeps ls (element_within terminated offset site n v ends s)
  within_keeps terminated offset site n (Number z) ends = tt
  within_keeps terminated offset site n Null ends = tt
  within_keeps terminated offset site n (At block byte) None = tt
  within_keeps terminated offset site n (At block byte) (Some e) =
      let x = pos byte +ℤ distance directions.Forward e.size n in checked_keeps_if (lies_in terminated e x) C2 site (cell_behind (Some site) block x offset s) (cell_behind_keeps (Some site) block x offset)

  pub reached_keeps : (index : core.Index) (offset : ℕ) (site : Site) (t : Target) → Keeps ls (reached index offset site t s)
  reached_keeps core.First offset site t = element_keeps offset site t.pointer.value
  reached_keeps (core.Element number terminated) offset site t = within_keeps terminated offset site t.number t.pointer.value t.pointer.ends

  summed_keeps : (direction : Direction) (site : Site) (n : ℤ) (v : Value) (ends : Option EndsOf) → Keeps ls (summed direction site n v ends s)
  summed_keeps direction site n (Number z) ends = tt
  summed_keeps direction site n Null ends = tt
  summed_keeps direction site n (At block byte) None = tt
  summed_keeps direction site n (At block byte) (Some e) =
      let x = pos byte +ℤ distance direction e.size n in checked_keeps_if (lies_up_to e x) C2 site (pointer_at (Some site) block x s) (pointer_at_keeps (Some site) block x)

  not_null_keeps : (site : Site) (v : Value) → Keeps ls (not_null site v s)
  not_null_keeps site (Number z) = tt
  not_null_keeps site Null = tt
  not_null_keeps site (At block byte) = kept

  ordered_keeps_if : (test : Bool) (comparison : Comparison) (site : Option Site) (byte other : ℕ) → Keeps ls (ordered_if test comparison site byte other s)
  ordered_keeps_if true comparison site byte other = kept
  ordered_keeps_if false comparison site byte other = tt

  ordered_keeps : (comparison : Comparison) (site : Option Site) (v w : Value) → Keeps ls (ordered comparison site v w s)
  ordered_keeps comparison site (Number z) w = tt
  ordered_keeps comparison site Null w = tt
  ordered_keeps comparison site (At block byte) (Number z) = tt
  ordered_keeps comparison site (At block byte) Null = tt
  ordered_keeps comparison site (At block byte) (At other byte') = ordered_keeps_if (block == other) comparison site byte byte'

  made_keeps_if : (test terminated : Bool) (n : ℕ) (element : List Initial) → Keeps ls (made_if test terminated n element s)
  made_keeps_if true terminated n element = kept
  made_keeps_if false terminated n element = kept

  elements_made_keeps : (size : ℕ) (terminated : Bool) (element : List Initial) (n : ℕ) → Keeps ls (elements_made size terminated element n s)
  elements_made_keeps size terminated element n =
      made_keeps_if (is_refused size (counter_behind first_offset s.blocks) (made_elements terminated n * element_size element)) terminated n element

  allocated_keeps : (size : ℕ) (terminator : Terminator) (element : List Initial) (z : ℤ) → Keeps ls (allocated size terminator element z s)
  allocated_keeps size terminator element (negsuc n) = kept
  allocated_keeps size terminator element (pos zero) = kept
  allocated_keeps size terminator element (pos (suc n)) =
      elements_made_keeps size (is_terminated terminator) element (before_zero terminator (suc n))

  read_keeps : (type : CType) (v : Value) (site : Option Site) (n : ℕ) (more : Result Value) → Keeps ls more → Keeps ls (read_as type v site n more s)
  read_keeps Int v site n more h = tt
  read_keeps Char (Number z) site n more h = counted_keeps_if (is_zero (Number z)) site n more h
    where
      counted_keeps_if : (test : Bool) (site : Option Site) (n : ℕ) (more : Result Value) → Keeps ls more → Keeps ls (counted_if test site n more s)
      counted_keeps_if true site n more h = kept
      counted_keeps_if false site n more h = h
  read_keeps Char Null site n more h = tt
  read_keeps Char (At block byte) site n more h = tt
  read_keeps (Struct number) v site n more h = tt
  read_keeps (Pointer mode kind target) v site n more h = tt

  byte_read_keeps : (o : Option Cell) (site : Option Site) (n : ℕ) (more : Result Value) → Keeps ls more → Keeps ls (byte_read o site n more s)
  byte_read_keeps None site n more h = tt
  byte_read_keeps (Some cell) site n more h = read_keeps cell.type cell.value site n more h

  cast_keeps_if : (test : Bool) (site : Site) (v : Value) (old new : EndsOf) → Keeps ls (cast_if test site v old new s)
  cast_keeps_if true site v old new = checked_keeps_if (are_within old new) C5 site (Gives v s) kept
  cast_keeps_if false site v old new = tt

  cast_within_keeps : (site : Site) (v : Value) (old new : Option EndsOf) → Keeps ls (cast_within site v old new s)
  cast_within_keeps site v None new = tt
  cast_within_keeps site v (Some old) None = tt
  cast_within_keeps site v (Some old) (Some new) = cast_keeps_if (old.size == new.size) site v old new

  cast_keeps_of : (bounds : PointerBounds) (v : Value) (ends : Option EndsOf) → Keeps ls (cast_to (Some bounds) (record { value = v; ends = ends }) s)
  cast_keeps_of bounds (Number z) ends = tt
  cast_keeps_of bounds Null ends = kept
  cast_keeps_of bounds (At block byte) ends = cast_within_keeps bounds.site (At block byte) ends (ends_at bounds s.locals block byte)

  cast_keeps : (bounds : Option PointerBounds) (p : Pointed) → Keeps ls (cast_to bounds p s)
  cast_keeps None p = kept
  cast_keeps (Some bounds) p = cast_keeps_of bounds p.value p.ends

  sound_keeps_if : (test : Bool) (site : Site) (v : Value) → Keeps ls (sound_if test site v s)
  sound_keeps_if true site v = kept
  sound_keeps_if false site v = tt

  audit_keeps : (audited : Bool) (bounds : Option PointerBounds) (v : Value) → Keeps ls (audit audited bounds v s)
  audit_keeps audited None v = kept
  audit_keeps audited (Some p) v = sound_keeps_if (not audited || is_valid p v s) p.site v

  test_keeps : (o : Option Bool) → Keeps ls (test_given o s)
  test_keeps None = tt
  test_keeps (Some test) = kept

  pub arithmetic_keeps : (operator : Operator) (site : Site) (v w : Value) → Keeps ls (arithmetic_of operator site v w s)
  arithmetic_keeps operator site (Number a) (Number b) = checked_keeps (result_of operator site a b)
  arithmetic_keeps operator site (Number a) Null = tt
  arithmetic_keeps operator site (Number a) (At block byte) = tt
  arithmetic_keeps operator site Null w = tt
  arithmetic_keeps operator site (At block byte) w = tt

  compared_keeps : (comparison : Comparison) (v w : Value) → Keeps ls (compared comparison v w s)
  compared_keeps comparison (Number a) (Number b) = kept
  compared_keeps comparison (Number a) Null = tt
  compared_keeps comparison (Number a) (At block byte) = tt
  compared_keeps comparison Null w = tt
  compared_keeps comparison (At block byte) w = tt

  negated_keeps : (site : Site) (v : Value) → Keeps ls (negated site v s)
  negated_keeps site (Number a) = checked_keeps (arithmetic.negation site.place a)
  negated_keeps site Null = tt
  negated_keeps site (At block byte) = tt

  complemented_keeps : (v : Value) → Keeps ls (complemented v s)
  complemented_keeps (Number a) = kept
  complemented_keeps Null = tt
  complemented_keeps (At block byte) = tt

  byte_keeps : (v : Value) → Keeps ls (low_byte_of v s)
  byte_keeps (Number a) = kept
  byte_keeps Null = tt
  byte_keeps (At block byte) = tt

  pub kept_keeps : (char : Bool) (v : Value) → Keeps ls (kept_if char v s)
  kept_keeps true v = byte_keeps v
  kept_keeps false v = kept

  result_keeps : (o : Option Value) → Keeps ls (result_given o s)
  result_keeps None = tt
  result_keeps (Some v) = kept

-- calls of functions keep the locals of the one that calls
abbrev pub CallsKeep : Knot → Type 0
CallsKeep k = (function : ℕ) (vs : List Value) (s : State) → Keeps s.locals (k.call function vs s)

-- each byte that is read costs a tick
counted_keeps_from : (ls : List Local) (budget more : ℕ) (site : Option Site) (block byte n : ℕ) (s : State) → s.locals ≡ ls → Keeps ls (counted_from more budget site block byte n s)
counted_keeps_from ls budget zero site block byte n s kept = tt
counted_keeps_from ls budget (suc more) site block byte n s kept =
    asked_keeps ls (spend_tick budget s.world) s _ kept
    (λ _ t t_kept. byte_read_keeps ls t t_kept (cell_at t.blocks block byte) site n (counted_from more budget site block (byte + 1) (n + 1) t)
    (counted_keeps_from ls budget more site block (byte + 1) (n + 1) t t_kept))

length_keeps : (ls : List Local) (budget : ℕ) (site : Site) (v : Value) (ends : Option EndsOf) (s : State) → s.locals ≡ ls → Keeps ls (length_of budget site v ends s)
length_keeps ls budget site (Number z) ends s kept = tt
length_keeps ls budget site Null ends s kept = tt
length_keeps ls budget site (At block byte) None s kept = tt
length_keeps ls budget site (At block byte) (Some e) s kept =
    checked_keeps_if ls s kept (lies_up_to e (pos byte)) C2 site (counted budget (Some site) block byte s)
    (counted_keeps_from ls budget (suc (bytes_of_block (slice_get s.blocks block))) (Some site) block byte 0 s kept)

module _ (audited : Bool) (g : Setting) (k : Knot) (calls : CallsKeep k) where
  reply_keeps : (ls : List Local) (type : Option CType) (site : Site) (reply : ℕ) (s : State) → s.locals ≡ ls → Keeps ls (reply_as type site reply s)
  reply_keeps ls None site reply s kept = kept
  reply_keeps ls (Some Int) site reply s kept = kept
  reply_keeps ls (Some Char) site reply s kept = by_size (nat_lt reply 256) refl
    where
      by_size : (test : Bool) → nat_lt reply 256 ≡ test → Keeps ls (reply_as (Some Char) site reply s)
      by_size true test = rw test kept
      by_size false test = rw test tt
  reply_keeps ls (Some (Struct number)) site reply s kept = tt
  reply_keeps ls (Some (Pointer mode kind target)) site reply s kept = tt

  called_at : (function : ℕ) (vs : List Value) (ls : List Local) (s : State) → s.locals ≡ ls → Keeps ls (k.call function vs s)
  called_at function vs ls s kept = subst (λ xs. Keeps xs (k.call function vs s)) kept (calls function vs s)

  passed_keeps : (i : Import) (site : Site) (ls : List Local) (s : State) → s.locals ≡ ls → Keeps ls (passed k i site s)
  passed_keeps i site ls s kept =
      keeps_on ls (and_then (k.sandbox (record s { depth = s.depth + 1 })) (back s)) (reply_as i.result site)
      (subst (λ xs. Keeps xs (and_then (k.sandbox (record s { depth = s.depth + 1 })) (back s))) kept (back_keeps s (k.sandbox (record s { depth = s.depth + 1 }))))
      (λ reply t t_kept. reply_keeps ls i.result site reply t t_kept)

  cross_keeps : (import : ℕ) (i : Import) (site : Site) (o : Option (List ℕ)) (ls : List Local) (s : State) → s.locals ≡ ls → Keeps ls (cross g k import i site o s)
  cross_keeps import i site None ls s kept = tt
  cross_keeps import i site (Some words) ls s kept =
      asked_keeps ls (spend_tick g.budget s.world) s _ kept (λ _ t t_kept. asked_keeps ls (enter_call t.depth t.world) t _ t_kept
      (λ _ u u_kept. asked_keeps ls (touch (Passed import words) u.world) u _ u_kept (λ _ v v_kept. passed_keeps i site ls v v_kept)))

  crossed_keeps : (test : Bool) (import : ℕ) (i : Import) (site : Site) (vs : List Value) (ls : List Local) (s : State) → s.locals ≡ ls → Keeps ls (cross_if test g k import i site vs s)
  crossed_keeps true import i site vs ls s kept = cross_keeps import i site (words_of vs) ls s kept
  crossed_keeps false import i site vs ls s kept = tt

  tainted_keeps : (import : ℕ) (o : Option Import) (site : Site) (vs : List Value) (ls : List Local) (s : State) → s.locals ≡ ls → Keeps ls (call_tainted g k import o site vs s)
  tainted_keeps import None site vs ls s kept = tt
  tainted_keeps import (Some i) site vs ls s kept = crossed_keeps (i.parameters == length vs) import i site vs ls s kept

  entered_keeps : (test : Bool) (function : ℕ) (vs : List Value) (ls : List Local) (s : State) → s.locals ≡ ls → Keeps ls (enter_if test g k function vs s)
  entered_keeps false function vs ls s kept = tt
  entered_keeps true function vs ls s kept =
      asked_keeps ls (spend_tick g.budget s.world) s _ kept (λ _ t t_kept. asked_keeps ls (enter_call t.depth t.world) t _ t_kept (λ _ u u_kept. called_at function vs ls u u_kept))

  called_keeps : (ls : List Local) (callee : Callee) (vs : List Value) (s : State) → s.locals ≡ ls → Keeps ls (called g k callee vs s)
  called_keeps ls (callees.Trusted function) vs s kept = entered_keeps (takes (slice_get g.program.functions function) vs) function vs ls s kept
  called_keeps ls (callees.Tainted import site) vs s kept = tainted_keeps import (slice_get g.program.imports import) site vs ls s kept

  module _ (ls : List Local) where
    mutual
      pub value_keeps : (e : core.Expression) (s : State) → s.locals ≡ ls → Keeps ls (value audited g k e s)
      value_keeps (core.Number z) s kept = value_keeps_if ls s kept (is_word_number z) None (Number z)
      value_keeps core.Null s kept = kept
      value_keeps (core.Local i bounds) s kept =
          keeps_on ls (given (slice_get s.locals i) s) (audit audited bounds) (given_keeps ls s kept (slice_get s.locals i)) (λ v t t_kept. audit_keeps ls t t_kept audited bounds v)
      value_keeps (core.Load type p bounds) s kept =
          keeps_on ls (and_then (place audited g k p s) (load_at type (site_of p))) (audit audited bounds)
          (keeps_on ls (place audited g k p s) (load_at type (site_of p)) (place_keeps p s kept) (λ at t t_kept. cell_keeps ls t t_kept type (site_of p) (cell_at t.blocks at.0 at.1)))
          (λ v t t_kept. audit_keeps ls t t_kept audited bounds v)
      value_keeps (core.AddressOf p bounds) s kept =
          keeps_on ls (and_then (place audited g k p s) pointer_to) (audit audited bounds)
          (keeps_on ls (place audited g k p s) pointer_to (place_keeps p s kept) (λ at t t_kept. t_kept))
          (λ v t t_kept. audit_keeps ls t t_kept audited bounds v)
      value_keeps (core.Negate operand site) s kept =
          keeps_on ls (value audited g k operand s) (negated site) (value_keeps operand s kept) (λ v t t_kept. negated_keeps ls t t_kept site v)
      value_keeps (core.Complement operand) s kept =
          keeps_on ls (value audited g k operand s) complemented (value_keeps operand s kept) (λ v t t_kept. complemented_keeps ls t t_kept v)
      value_keeps (core.Not operand) s kept = keeps_on ls (value audited g k operand s) _ (value_keeps operand s kept) (λ v t t_kept. t_kept)
      value_keeps (core.Arithmetic operator left right site) s kept =
          keeps_on ls (value audited g k left s) _ (value_keeps left s kept)
          (λ a t t_kept. keeps_on ls (value audited g k right t) _ (value_keeps right t t_kept) (λ b u u_kept. arithmetic_keeps ls u u_kept operator site a b))
      value_keeps (core.Compare comparison left right) s kept =
          keeps_on ls (value audited g k left s) _ (value_keeps left s kept)
          (λ a t t_kept. keeps_on ls (value audited g k right t) _ (value_keeps right t t_kept) (λ b u u_kept. compared_keeps ls u u_kept comparison a b))
      value_keeps (core.Same left right) s kept =
          keeps_on ls (value audited g k left s) _ (value_keeps left s kept)
          (λ a t t_kept. keeps_on ls (value audited g k right t) _ (value_keeps right t t_kept) (λ b u u_kept. test_keeps ls u u_kept (same_place a b)))
      value_keeps (core.AndAlso left right) s kept =
          keeps_on ls (value audited g k left s) _ (value_keeps left s kept)
          (λ a t t_kept. chosen_keeps ls (truth a) _ _ (keeps_on ls (value audited g k right t) _ (value_keeps right t t_kept) (λ b u u_kept. u_kept)) t_kept)
      value_keeps (core.OrElse left right) s kept =
          keeps_on ls (value audited g k left s) _ (value_keeps left s kept)
          (λ a t t_kept. chosen_keeps ls (truth a) _ _ t_kept (keeps_on ls (value audited g k right t) _ (value_keeps right t t_kept) (λ b u u_kept. u_kept)))
      value_keeps (core.LowByte operand) s kept =
          keeps_on ls (value audited g k operand s) low_byte_of (value_keeps operand s kept) (λ v t t_kept. byte_keeps ls t t_kept v)
      value_keeps (core.Call callee arguments bounds) s kept =
          keeps_on ls (values audited g k arguments s) _ (values_keep arguments s kept)
          (λ vs t t_kept. keeps_on ls (and_then (called g k callee vs t) result_given) (audit audited bounds)
          (keeps_on ls (called g k callee vs t) result_given (called_keeps ls callee vs t t_kept) (λ v u u_kept. result_keeps ls u u_kept v))
          (λ v u u_kept. audit_keeps ls u u_kept audited bounds v))
      value_keeps core.NextInput s kept = asked_keeps ls (next_input s.world) s _ kept (λ z t t_kept. t_kept)
      value_keeps (core.Sum pointer direction number site bounds) s kept =
          keeps_on ls _ (audit audited bounds)
          (keeps_on ls (value audited g k pointer s) _ (value_keeps pointer s kept)
          (λ v t t_kept. keeps_on ls (and_then (value audited g k number t) (number_given (Some site))) _
          (keeps_on ls (value audited g k number t) (number_given (Some site)) (value_keeps number t t_kept) (λ w u u_kept. number_keeps ls u u_kept (Some site) w))
          (λ n u u_kept. summed_keeps ls u u_kept direction site n v (with_ends (bounds_of pointer) v t.locals).ends)))
          (λ v t t_kept. audit_keeps ls t t_kept audited bounds v)
      value_keeps (core.Order comparison left right site) s kept =
          keeps_on ls (value audited g k left s) _ (value_keeps left s kept)
          (λ a t t_kept. keeps_on ls (value audited g k right t) _ (value_keeps right t t_kept)
          (λ b u u_kept. keeps_on ls (not_null site a u) _ (not_null_keeps ls u u_kept site a)
          (λ _ w w_kept. keeps_on ls (not_null site b w) _ (not_null_keeps ls w w_kept site b)
          (λ _ x x_kept. ordered_keeps ls x x_kept comparison (Some site) a b))))
      value_keeps (core.Allocate count element terminator bounds) s kept =
          keeps_on ls _ (audit audited bounds)
          (keeps_on ls (and_then (value audited g k count s) (number_given None)) (allocated g.trusted terminator element)
          (keeps_on ls (value audited g k count s) (number_given None) (value_keeps count s kept) (λ v t t_kept. number_keeps ls t t_kept None v))
          (λ z t t_kept. allocated_keeps ls t t_kept g.trusted terminator element z))
          (λ v t t_kept. audit_keeps ls t t_kept audited bounds v)
      value_keeps (core.Length pointer site) s kept =
          keeps_on ls (value audited g k pointer s) _ (value_keeps pointer s kept)
          (λ v t t_kept. length_keeps ls g.budget site v (with_ends (bounds_of pointer) v t.locals).ends t t_kept)
      value_keeps (core.Cast pointer bounds) s kept =
          keeps_on ls _ (audit audited bounds)
          (keeps_on ls (value audited g k pointer s) _ (value_keeps pointer s kept)
          (λ v t t_kept. cast_keeps ls t t_kept bounds (with_ends (bounds_of pointer) v t.locals)))
          (λ v t t_kept. audit_keeps ls t t_kept audited bounds v)

      values_keep : (es : core.Arguments) (s : State) → s.locals ≡ ls → Keeps ls (values audited g k es s)
      values_keep core.Done s kept = kept
      values_keep (core.More first rest) s kept =
          keeps_on ls (value audited g k first s) _ (value_keeps first s kept)
          (λ v t t_kept. keeps_on ls (values audited g k rest t) _ (values_keep rest t t_kept) (λ vs u u_kept. u_kept))

      place_keeps : (p : core.Place) (s : State) → s.locals ≡ ls → Keeps ls (place audited g k p s)
      place_keeps (core.Direct object offset) s kept = variable_keeps ls s kept (nat_lt object (length g.program.objects)) object offset
      place_keeps (core.Through pointer index offset site) s kept =
          keeps_on ls (value audited g k pointer s) _ (value_keeps pointer s kept)
          (λ v t t_kept. keeps_on ls (number_of audited g k index t) _ (index_keeps index t t_kept)
          (λ n u u_kept. reached_keeps ls u u_kept index offset site (record { pointer = with_ends (bounds_of pointer) v t.locals; number = n })))

      pub index_keeps : (index : core.Index) (s : State) → s.locals ≡ ls → Keeps ls (number_of audited g k index s)
      index_keeps core.First s kept = kept
      index_keeps (core.Element number terminated) s kept =
          keeps_on ls (value audited g k number s) (number_given None) (value_keeps number s kept) (λ v t t_kept. number_keeps ls t t_kept None v)
