-- An expression leaves the locals as they are, and blocks are only added, of which each that a zero ends keeps it.
use Rattle.std.proofs.Common.{◌≡◌, ℕ, zero, suc, ◌+◌, ◌*◌, Bool, true, false, ℤ, ◌+ℤ◌, List, [], ◌∷◌, ◌++◌, length, Option, Some, None, refl, sym, ◌∙◌, subst}
use Rattle.std.specs.Ordering.{int_eq}
use Rattle.std.specs.List.{AllByRecursion}
use Rattle.std.specs.Prelude.{◌==◌, ◌||◌, not, nat_lt, slice_get, pos, negsuc}
use Rattle.flat_bytes.specs.Blocks.{first_offset, is_refused}
use Rattle.act_words.specs.Acts.{Passed}
use Rattle.ckc_core.specs.Outcome.{Gives, Ends, Stuck, Unsound, Short, and_then}
use Rattle.act_words.specs.Checks.{Checked, Holds, Fails, is_word_number}
use Rattle.act_words.specs.Arithmetic as arithmetic
use Rattle.act_words.specs.Touches.{Asked, Got, Ended, spend_tick, enter_call, next_input, touch}
use Rattle.pointer_modes.specs.Types.{CType, Int, Char, Struct, Pointer}
use Rattle.ckc_core.specs.declared.program.Site.{Site}
use Rattle.act_words.specs.declared.operator.Operator.{Operator}
use Rattle.act_words.specs.declared.operator.Comparison.{Comparison}
use Rattle.ckc_core.specs.declared.program.Callee.{Callee}
use Rattle.ckc_core.specs.declared.program.Callee.TheVariants as callees
use Rattle.ckc_core.specs.Programs.{Import, Initial}
use Rattle.ckc_core.specs.declared.program.Direction.{Direction}
use Rattle.ckc_core.specs.declared.program.Direction.TheVariants as directions
use Rattle.ckc_core.specs.declared.program.PointerBounds.{PointerBounds}
use Rattle.ckc_core.specs.declared.program.Terminator.{Terminator}
use Rattle.ckc_core.specs.Bounds.{Ends as EndsOf, ends_at, Pointed, with_ends, is_valid}
use Rattle.ckc_core.specs.Core as core
use Rattle.ckc_core.specs.States.{Value, Number, Null, At, Cell, Local, State, Grows, shapes, shape, in_world, cell_at, same_type, zero_of}
use Rattle.ckc_core.specs.Steps.{variable_if, Result, given, checked, value_if, value_in, load_at, place_if, pointer_to, truth, same_place, test_given, result_of, arithmetic_of, compared, negated, complemented, is_zero, low_byte_of, asked, words_of, reply_as, passed, cross, cross_if, call_tainted, takes, enter_if, called, result_given, choose, back, place_at}
use Rattle.ckc_core.specs.Meaning.{Knot, bounds_of, Setting, audit, cast_to, cast_if, cast_within, element, element_within, end_kept, length_of, number_of, place, storable, Target, reached, site_of, sound_if, summed, value, values}
use Rattle.ckc_core.specs.Pointers.{before_zero, is_terminated, cells_of_elements, element_cells, new_block, number_given, bytes_of_block, byte_read, checked_if, counted, counted_from, counted_if, distance, lies_in, lies_up_to, made_elements, read_as, are_within, cell_behind, reaches, pointer_if, pointer_at, ordered_if, ordered, not_null, counter_behind, element_size, made_if, allocated}
use Rattle.ckc_text.specs.declared.code.Code.{Code}
use Rattle.ckc_text.specs.declared.code.Code.TheVariants.{C2, C3, C5}
use Rattle.std.proofs.lemmas.List.{map-append}
use Rattle.std.proofs.lemmas.Option.{same_Some}
use Rattle.bounds_flow_meaning.specs.Zeros.{EndInZeros}
use Rattle.region_typing_rules.proofs.LastZeros.{LastIsZero, zeros_made}
use Rattle.region_typing_rules.proofs.Values.{grows_here, grows_on}
use Rattle.region_typing_rules.specs.KnownIsSo.{WhereGiven}

-- the later state has the same locals, and its blocks are those of the earlier one and maybe more
abbrev pub IsAfter : State → State → Type 0
IsAfter r s = Grows (shapes r.blocks) (shapes s.blocks) × (s.locals ≡ r.locals)

pub after_here : (s : State) → IsAfter s s
after_here s = (grows_here (shapes s.blocks), refl)

pub after_on : (r s t : State) → IsAfter r s → IsAfter s t → IsAfter r t
after_on r s t h k = (grows_on (shapes r.blocks) (shapes s.blocks) (shapes t.blocks) h.0 k.0, k.1 ∙ h.1)

-- and blocks that a zero ends keep it
abbrev pub IsLater : State → State → Type 0
IsLater r s = IsAfter r s × (EndInZeros r.blocks → EndInZeros s.blocks)

pub later_here : (s : State) → IsLater s s
later_here s = (after_here s, λ h. h)

later_on : (r s t : State) → IsLater r s → IsLater s t → IsLater r t
later_on r s t h k = (after_on r s t h.0 k.0, λ x. k.1 (h.1 x))

-- blocks are only added to those of this state
abbrev pub Grown : {A : Type 0} → State → Result A → Type 0
Grown r o = WhereGiven (λ v s. Grows (shapes r.blocks) (shapes s.blocks)) o

-- the same, and those that a zero ends keep it
abbrev pub Adds : {A : Type 0} → State → Result A → Type 0
Adds r o = WhereGiven (λ v s. Grows (shapes r.blocks) (shapes s.blocks) × (EndInZeros r.blocks → EndInZeros s.blocks)) o

-- what is given comes behind this state, among the same locals
abbrev pub Keeps : State → {A : Type 0} → Result A → Type 0
Keeps r o = WhereGiven (λ v s. IsLater r s) o

pub keeps_on : {A B : Type 0} (r : State) (o : Result A) (next : A → State → Result B) → Keeps r o → ((v : A) (s : State) → IsLater r s → Keeps r (next v s)) → Keeps r (and_then o next)
keeps_on r (Gives v s) next h more = more v s h
keeps_on r (Ends ending s) next h more = tt
keeps_on r (Stuck site s) next h more = tt
keeps_on r (Unsound site s) next h more = tt
keeps_on r Short next h more = tt

pub asked_keeps : {A B : Type 0} (r : State) (o : Asked A) (s : State) (next : A → State → Result B) → IsLater r s → ((v : A) (t : State) → IsLater r t → Keeps r (next v t)) → Keeps r (asked o s next)
asked_keeps r (Got v w) s next kept more = more v (in_world w s) kept
asked_keeps r (Ended ending w) s next kept more = tt

pub chosen_keeps : {A : Type 0} (r : State) (test : Bool) (first second : Result A) → Keeps r first → Keeps r second → Keeps r (choose test first second)
chosen_keeps r true first second h other = h
chosen_keeps r false first second h other = other

-- a call that is over stands among the locals of the function that called
pub back_keeps : {A : Type 0} (r s u : State) (o : Result A) → IsLater r s → u.blocks ≡ s.blocks → Adds u o → Keeps r (and_then o (back s))
back_keeps r s u (Gives v t) kept same grown = (
  (grows_on (shapes r.blocks) (shapes s.blocks) (shapes t.blocks) kept.0.0 (subst (λ b. Grows (shapes b) (shapes t.blocks)) same grown.0), kept.0.1),
  λ h. grown.1 (subst EndInZeros (sym same) (kept.1 h)),
)
back_keeps r s u (Ends ending t) kept same grown = tt
back_keeps r s u (Stuck site t) kept same grown = tt
back_keeps r s u (Unsound site t) kept same grown = tt
back_keeps r s u Short kept same grown = tt

-- and behind an earlier one
pub later : {A : Type 0} (r s : State) (o : Result A) → IsLater r s → Keeps s o → Keeps r o
later r s (Gives v t) kept h = later_on r s t kept h
later r s (Ends ending t) kept h = tt
later r s (Stuck site t) kept h = tt
later r s (Unsound site t) kept h = tt
later r s Short kept h = tt

-- ---- new blocks begin with zeros

zero_value : (t : CType) → is_zero (zero_of t) ≡ true
zero_value Int = refl
zero_value Char = refl
zero_value (Struct number) = refl
zero_value (Pointer mode kind target) = refl

abbrev AreZeros : List Cell → Type 0
AreZeros cells = AllByRecursion (λ (c : Cell). is_zero c.value ≡ true) cells

zeros_in : (element : List Initial) (cells : List Cell) → AreZeros cells → AreZeros (element_cells element ++ cells)
zeros_in [] cells h = h
zeros_in (i ∷ element) cells h = (zero_value i.type, zeros_in element cells h)

zeros_of_elements : (n : ℕ) (element : List Initial) → AreZeros (cells_of_elements n element)
zeros_of_elements zero element = tt
zeros_of_elements (suc n) element = zeros_in element (cells_of_elements n element) (zeros_of_elements n element)

zero_at : (cells : List Cell) → AreZeros cells → (k : ℕ) (c : Cell) → slice_get cells k ≡ Some c → is_zero c.value ≡ true
zero_at [] h k c e = absurd (cc)
zero_at (x ∷ cells) h zero c e = subst (λ (c : Cell). is_zero c.value ≡ true) (same_Some x c e) h.0
zero_at (x ∷ cells) h (suc k) c e = zero_at cells h.1 k c e

new_last : (terminated : Bool) (n : ℕ) (element : List Initial) → LastIsZero (new_block terminated n element)
new_last terminated n element ended k c found last = zero_at (cells_of_elements (made_elements terminated n) element) (zeros_of_elements (made_elements terminated n) element) k c found

-- ---- steps

module _ (r : State) (s : State) (kept : IsLater r s) where
  pub given_keeps : (o : Option Local) → Keeps r (given o s)
  given_keeps None = tt
  given_keeps (Some v) = kept

  pub checked_keeps : (o : Checked ℤ) → Keeps r (checked o s)
  checked_keeps (Holds z) = kept
  checked_keeps (Fails ending) = tt

  pub value_keeps_if : (test : Bool) (site : Option Site) (v : Value) → Keeps r (value_if test site v s)
  value_keeps_if true site v = kept
  value_keeps_if false site v = tt

  pub cell_keeps : (type : CType) (site : Option Site) (o : Option Cell) → Keeps r (value_in type site o s)
  cell_keeps type site None = tt
  cell_keeps type site (Some cell) = value_keeps_if (same_type type cell.type) site cell.value

  pub placed_keeps : (o : Option Cell) (site : Option Site) (block byte : ℕ) → Keeps r (place_if o site block byte s)
  placed_keeps None site block byte = tt
  placed_keeps (Some cell) site block byte = kept

  pub direct_keeps : (site : Option Site) (block byte : ℕ) → Keeps r (place_at site block byte s)
  direct_keeps site block byte = placed_keeps (cell_at s.blocks block byte) site block byte

  pub variable_keeps : (test : Bool) (object offset : ℕ) → Keeps r (variable_if test object offset s)
  variable_keeps true object offset = direct_keeps None object offset
  variable_keeps false object offset = tt

  pub element_keeps : (offset : ℕ) (site : Site) (v : Value) → Keeps r (element offset site v s)
  element_keeps offset site (Number z) = tt
  element_keeps offset site Null = tt
  element_keeps offset site (At block byte) = direct_keeps (Some site) block (byte + offset)

  pub number_keeps : (site : Option Site) (v : Value) → Keeps r (number_given site v s)
  number_keeps site (Number z) = kept
  number_keeps site Null = tt
  number_keeps site (At block byte) = tt

  pub checked_keeps_if : {A : Type 0} (test : Bool) (code : Code) (site : Site) (next : Result A) → Keeps r next → Keeps r (checked_if test code site next s)
  checked_keeps_if true code site next h = h
  checked_keeps_if false code site next h = tt

  pub cell_behind_keeps : (site : Option Site) (block : ℕ) (byte : ℤ) (offset : ℕ) → Keeps r (cell_behind site block byte offset s)
  cell_behind_keeps site block (pos byte) offset = direct_keeps site block (byte + offset)
  cell_behind_keeps site block (negsuc byte) offset = tt

  pub pointer_keeps_if : (test : Bool) (site : Option Site) (block byte : ℕ) → Keeps r (pointer_if test site block byte s)
  pointer_keeps_if true site block byte = kept
  pointer_keeps_if false site block byte = tt

  pub pointer_at_keeps : (site : Option Site) (block : ℕ) (byte : ℤ) → Keeps r (pointer_at site block byte s)
  pointer_at_keeps site block (pos byte) = pointer_keeps_if (reaches (slice_get s.blocks block) byte) site block byte
  pointer_at_keeps site block (negsuc byte) = tt

  pub within_keeps : (terminated : Bool) (offset : ℕ) (site : Site) (n : ℤ) (v : Value) (ends : Option EndsOf) → Keeps r (element_within terminated offset site n v ends s)
  within_keeps terminated offset site n (Number z) ends = tt
  within_keeps terminated offset site n Null ends = tt
  within_keeps terminated offset site n (At block byte) None = tt
  within_keeps terminated offset site n (At block byte) (Some e) =
      let x = pos byte +ℤ distance directions.Forward e.size n in checked_keeps_if (lies_in terminated e x) C2 site (cell_behind (Some site) block x offset s) (cell_behind_keeps (Some site) block x offset)

  pub reached_keeps : (index : core.Index) (offset : ℕ) (site : Site) (t : Target) → Keeps r (reached index offset site t s)
  reached_keeps core.First offset site t = element_keeps offset site t.pointer.value
  reached_keeps (core.Element number terminated) offset site t = within_keeps terminated offset site t.number t.pointer.value t.pointer.ends

  pub end_keeps : (site : Site) (n : ℤ) (v w : Value) (ends : Option EndsOf) → Keeps r (end_kept site n v w ends s)
  end_keeps site n v (Number z) ends = tt
  end_keeps site n v Null ends = tt
  end_keeps site n v (At block byte) None = tt
  end_keeps site n v (At block byte) (Some e) =
      checked_keeps_if (is_zero v || not (int_eq (pos byte +ℤ distance directions.Forward e.size n) e.high)) C3 site (Gives tt s) kept

  pub storable_keeps : (p : core.Place) (t : Target) (v : Value) → Keeps r (storable p t v s)
  storable_keeps (core.Direct object offset) t v = kept
  storable_keeps (core.Through pointer core.First offset site) t v = kept
  storable_keeps (core.Through pointer (core.Element number false) offset site) t v = kept
  storable_keeps (core.Through pointer (core.Element number true) offset site) t v = end_keeps site t.number v t.pointer.value t.pointer.ends

  pub summed_keeps : (direction : Direction) (site : Site) (n : ℤ) (v : Value) (ends : Option EndsOf) → Keeps r (summed direction site n v ends s)
  summed_keeps direction site n (Number z) ends = tt
  summed_keeps direction site n Null ends = tt
  summed_keeps direction site n (At block byte) None = tt
  summed_keeps direction site n (At block byte) (Some e) =
      let x = pos byte +ℤ distance direction e.size n in checked_keeps_if (lies_up_to e x) C2 site (pointer_at (Some site) block x s) (pointer_at_keeps (Some site) block x)

  pub not_null_keeps : (site : Site) (v : Value) → Keeps r (not_null site v s)
  not_null_keeps site (Number z) = tt
  not_null_keeps site Null = tt
  not_null_keeps site (At block byte) = kept

  pub ordered_keeps_if : (test : Bool) (comparison : Comparison) (site : Option Site) (byte other : ℕ) → Keeps r (ordered_if test comparison site byte other s)
  ordered_keeps_if true comparison site byte other = kept
  ordered_keeps_if false comparison site byte other = tt

  pub ordered_keeps : (comparison : Comparison) (site : Option Site) (v w : Value) → Keeps r (ordered comparison site v w s)
  ordered_keeps comparison site (Number z) w = tt
  ordered_keeps comparison site Null w = tt
  ordered_keeps comparison site (At block byte) (Number z) = tt
  ordered_keeps comparison site (At block byte) Null = tt
  ordered_keeps comparison site (At block byte) (At other byte') = ordered_keeps_if (block == other) comparison site byte byte'

  pub made_keeps_if : (test terminated : Bool) (n : ℕ) (element : List Initial) → Keeps r (made_if test terminated n element s)
  made_keeps_if true terminated n element = kept
  made_keeps_if false terminated n element = (
    (grows_on (shapes r.blocks) (shapes s.blocks) _ kept.0.0 (shape (new_block terminated n element) ∷ [], map-append shape s.blocks (new_block terminated n element ∷ [])), kept.0.1),
    λ h. zeros_made s.blocks (new_block terminated n element) (kept.1 h) (new_last terminated n element),
  )

  pub allocated_keeps : (size : ℕ) (terminator : Terminator) (element : List Initial) (z : ℤ) → Keeps r (allocated size terminator element z s)
  allocated_keeps size terminator element (negsuc n) = kept
  allocated_keeps size terminator element (pos zero) = kept
  allocated_keeps size terminator element (pos (suc n)) =
      let ended = is_terminated terminator in
      let count = before_zero terminator (suc n) in
      made_keeps_if (is_refused size (counter_behind first_offset s.blocks) (made_elements ended count * element_size element)) ended count element

  pub cast_keeps_if : (test : Bool) (site : Site) (v : Value) (old new : EndsOf) → Keeps r (cast_if test site v old new s)
  cast_keeps_if true site v old new = checked_keeps_if (are_within old new) C5 site (Gives v s) kept
  cast_keeps_if false site v old new = tt

  pub cast_within_keeps : (site : Site) (v : Value) (old new : Option EndsOf) → Keeps r (cast_within site v old new s)
  cast_within_keeps site v None new = tt
  cast_within_keeps site v (Some old) None = tt
  cast_within_keeps site v (Some old) (Some new) = cast_keeps_if (old.size == new.size) site v old new

  pub cast_keeps_of : (bounds : PointerBounds) (v : Value) (ends : Option EndsOf) → Keeps r (cast_to (Some bounds) (record { value = v; ends = ends }) s)
  cast_keeps_of bounds (Number z) ends = tt
  cast_keeps_of bounds Null ends = kept
  cast_keeps_of bounds (At block byte) ends = cast_within_keeps bounds.site (At block byte) ends (ends_at bounds s.locals block byte)

  pub cast_keeps : (bounds : Option PointerBounds) (p : Pointed) → Keeps r (cast_to bounds p s)
  cast_keeps None p = kept
  cast_keeps (Some bounds) p = cast_keeps_of bounds p.value p.ends

  pub sound_keeps_if : (test : Bool) (site : Site) (v : Value) → Keeps r (sound_if test site v s)
  sound_keeps_if true site v = kept
  sound_keeps_if false site v = tt

  pub audit_keeps : (audited : Bool) (bounds : Option PointerBounds) (v : Value) → Keeps r (audit audited bounds v s)
  audit_keeps audited None v = kept
  audit_keeps audited (Some p) v = sound_keeps_if (not audited || is_valid p v s) p.site v

  pub test_keeps : (o : Option Bool) → Keeps r (test_given o s)
  test_keeps None = tt
  test_keeps (Some test) = kept

  pub arithmetic_keeps : (operator : Operator) (site : Site) (v w : Value) → Keeps r (arithmetic_of operator site v w s)
  arithmetic_keeps operator site (Number a) (Number b) = checked_keeps (result_of operator site a b)
  arithmetic_keeps operator site (Number a) Null = tt
  arithmetic_keeps operator site (Number a) (At block byte) = tt
  arithmetic_keeps operator site Null w = tt
  arithmetic_keeps operator site (At block byte) w = tt

  pub compared_keeps : (comparison : Comparison) (v w : Value) → Keeps r (compared comparison v w s)
  compared_keeps comparison (Number a) (Number b) = kept
  compared_keeps comparison (Number a) Null = tt
  compared_keeps comparison (Number a) (At block byte) = tt
  compared_keeps comparison Null w = tt
  compared_keeps comparison (At block byte) w = tt

  pub negated_keeps : (site : Site) (v : Value) → Keeps r (negated site v s)
  negated_keeps site (Number a) = checked_keeps (arithmetic.negation site.place a)
  negated_keeps site Null = tt
  negated_keeps site (At block byte) = tt

  pub complemented_keeps : (v : Value) → Keeps r (complemented v s)
  complemented_keeps (Number a) = kept
  complemented_keeps Null = tt
  complemented_keeps (At block byte) = tt

  pub byte_keeps : (v : Value) → Keeps r (low_byte_of v s)
  byte_keeps (Number a) = kept
  byte_keeps Null = tt
  byte_keeps (At block byte) = tt

  pub result_keeps : (o : Option Value) → Keeps r (result_given o s)
  result_keeps None = tt
  result_keeps (Some v) = kept

-- bytes are counted, each for a tick
read_keeps : (r : State) (type : CType) (v : Value) (site : Option Site) (n : ℕ) (more : Result Value) (s : State) → IsLater r s → Keeps r more → Keeps r (read_as type v site n more s)
read_keeps r Int v site n more s kept h = tt
read_keeps r (Struct number) v site n more s kept h = tt
read_keeps r (Pointer mode kind target) v site n more s kept h = tt
read_keeps r Char Null site n more s kept h = tt
read_keeps r Char (At block byte) site n more s kept h = tt
read_keeps r Char (Number z) site n more s kept h = by (is_zero (Number z))
  where
    by : (test : Bool) → Keeps r (counted_if test site n more s)
    by true = kept
    by false = h

byte_read_keeps : (r : State) (o : Option Cell) (site : Option Site) (n : ℕ) (more : Result Value) (s : State) → IsLater r s → Keeps r more → Keeps r (byte_read o site n more s)
byte_read_keeps r None site n more s kept h = tt
byte_read_keeps r (Some cell) site n more s kept h = read_keeps r cell.type cell.value site n more s kept h

counted_keeps : (r : State) (more budget : ℕ) (site : Option Site) (block byte n : ℕ) (s : State) → IsLater r s → Keeps r (counted_from more budget site block byte n s)
counted_keeps r zero budget site block byte n s kept = tt
counted_keeps r (suc more) budget site block byte n s kept =
    asked_keeps r (spend_tick budget s.world) s _ kept
    (λ _ t t_kept. byte_read_keeps r (cell_at t.blocks block byte) site n (counted_from more budget site block (byte + 1) (n + 1) t) t t_kept
    (counted_keeps r more budget site block (byte + 1) (n + 1) t t_kept))

pub length_keeps : (r s : State) → IsLater r s → (budget : ℕ) (site : Site) (v : Value) (ends : Option EndsOf) → Keeps r (length_of budget site v ends s)
length_keeps r s kept budget site (Number z) ends = tt
length_keeps r s kept budget site Null ends = tt
length_keeps r s kept budget site (At block byte) None = tt
length_keeps r s kept budget site (At block byte) (Some e) =
    checked_keeps_if r s kept (lies_up_to e (pos byte)) C2 site (counted budget (Some site) block byte s)
    (counted_keeps r (suc (bytes_of_block (slice_get s.blocks block))) budget (Some site) block byte 0 s kept)

-- calls of functions keep the locals of the one that calls, and those and the sandbox only add blocks
abbrev pub CallsKeep : Knot → Type 0
CallsKeep k = ((function : ℕ) (vs : List Value) (s : State) → Keeps s (k.call function vs s)) × ((s : State) → Adds s (k.sandbox s))

module _ (audited : Bool) (g : Setting) (k : Knot) (calls : CallsKeep k) where
  pub reply_keeps : (r : State) (type : Option CType) (site : Site) (reply : ℕ) (s : State) → IsLater r s → Keeps r (reply_as type site reply s)
  reply_keeps r None site reply s kept = kept
  reply_keeps r (Some Int) site reply s kept = kept
  reply_keeps r (Some Char) site reply s kept = by_size (nat_lt reply 256) refl
    where
      by_size : (test : Bool) → nat_lt reply 256 ≡ test → Keeps r (reply_as (Some Char) site reply s)
      by_size true test = rw test kept
      by_size false test = rw test tt
  reply_keeps r (Some (Struct number)) site reply s kept = tt
  reply_keeps r (Some (Pointer mode kind target)) site reply s kept = tt

  pub called_at : (function : ℕ) (vs : List Value) (r : State) (s : State) → IsLater r s → Keeps r (k.call function vs s)
  called_at function vs r s kept = later r s (k.call function vs s) kept (calls.0 function vs s)

  pub passed_keeps : (i : Import) (site : Site) (r : State) (s : State) → IsLater r s → Keeps r (passed k i site s)
  passed_keeps i site r s kept =
      keeps_on r (and_then (k.sandbox (record s { depth = s.depth + 1 })) (back s)) (reply_as i.result site)
      (back_keeps r s (record s { depth = s.depth + 1 }) (k.sandbox (record s { depth = s.depth + 1 })) kept refl (calls.1 (record s { depth = s.depth + 1 })))
      (λ reply t t_kept. reply_keeps r i.result site reply t t_kept)

  pub cross_keeps : (import : ℕ) (i : Import) (site : Site) (o : Option (List ℕ)) (r : State) (s : State) → IsLater r s → Keeps r (cross g k import i site o s)
  cross_keeps import i site None r s kept = tt
  cross_keeps import i site (Some words) r s kept =
      asked_keeps r (spend_tick g.budget s.world) s _ kept (λ _ t t_kept. asked_keeps r (enter_call t.depth t.world) t _ t_kept
      (λ _ u u_kept. asked_keeps r (touch (Passed import words) u.world) u _ u_kept (λ _ v v_kept. passed_keeps i site r v v_kept)))

  pub crossed_keeps : (test : Bool) (import : ℕ) (i : Import) (site : Site) (vs : List Value) (r : State) (s : State) → IsLater r s → Keeps r (cross_if test g k import i site vs s)
  crossed_keeps true import i site vs r s kept = cross_keeps import i site (words_of vs) r s kept
  crossed_keeps false import i site vs r s kept = tt

  pub tainted_keeps : (import : ℕ) (o : Option Import) (site : Site) (vs : List Value) (r : State) (s : State) → IsLater r s → Keeps r (call_tainted g k import o site vs s)
  tainted_keeps import None site vs r s kept = tt
  tainted_keeps import (Some i) site vs r s kept = crossed_keeps (i.parameters == length vs) import i site vs r s kept

  pub entered_keeps : (test : Bool) (function : ℕ) (vs : List Value) (r : State) (s : State) → IsLater r s → Keeps r (enter_if test g k function vs s)
  entered_keeps false function vs r s kept = tt
  entered_keeps true function vs r s kept =
      asked_keeps r (spend_tick g.budget s.world) s _ kept (λ _ t t_kept. asked_keeps r (enter_call t.depth t.world) t _ t_kept (λ _ u u_kept. called_at function vs r u u_kept))

  pub called_keeps : (r : State) (callee : Callee) (vs : List Value) (s : State) → IsLater r s → Keeps r (called g k callee vs s)
  called_keeps r (callees.Trusted function) vs s kept = entered_keeps (takes (slice_get g.program.functions function) vs) function vs r s kept
  called_keeps r (callees.Tainted import site) vs s kept = tainted_keeps import (slice_get g.program.imports import) site vs r s kept

  module _ (r : State) where
    mutual
      pub value_keeps : (e : core.Expression) (s : State) → IsLater r s → Keeps r (value audited g k e s)
      value_keeps (core.Number z) s kept = value_keeps_if r s kept (is_word_number z) None (Number z)
      value_keeps core.Null s kept = kept
      value_keeps (core.Local i bounds) s kept =
          keeps_on r (given (slice_get s.locals i) s) (audit audited bounds) (given_keeps r s kept (slice_get s.locals i)) (λ v t t_kept. audit_keeps r t t_kept audited bounds v)
      value_keeps (core.Load type p bounds) s kept =
          keeps_on r (and_then (place audited g k p s) (load_at type (site_of p))) (audit audited bounds)
          (keeps_on r (place audited g k p s) (load_at type (site_of p)) (place_keeps p s kept) (λ at t t_kept. cell_keeps r t t_kept type (site_of p) (cell_at t.blocks at.0 at.1)))
          (λ v t t_kept. audit_keeps r t t_kept audited bounds v)
      value_keeps (core.AddressOf p bounds) s kept =
          keeps_on r (and_then (place audited g k p s) pointer_to) (audit audited bounds)
          (keeps_on r (place audited g k p s) pointer_to (place_keeps p s kept) (λ at t t_kept. t_kept))
          (λ v t t_kept. audit_keeps r t t_kept audited bounds v)
      value_keeps (core.Negate operand site) s kept =
          keeps_on r (value audited g k operand s) (negated site) (value_keeps operand s kept) (λ v t t_kept. negated_keeps r t t_kept site v)
      value_keeps (core.Complement operand) s kept =
          keeps_on r (value audited g k operand s) complemented (value_keeps operand s kept) (λ v t t_kept. complemented_keeps r t t_kept v)
      value_keeps (core.Not operand) s kept = keeps_on r (value audited g k operand s) _ (value_keeps operand s kept) (λ v t t_kept. t_kept)
      value_keeps (core.Arithmetic operator left right site) s kept =
          keeps_on r (value audited g k left s) _ (value_keeps left s kept)
          (λ a t t_kept. keeps_on r (value audited g k right t) _ (value_keeps right t t_kept) (λ b u u_kept. arithmetic_keeps r u u_kept operator site a b))
      value_keeps (core.Compare comparison left right) s kept =
          keeps_on r (value audited g k left s) _ (value_keeps left s kept)
          (λ a t t_kept. keeps_on r (value audited g k right t) _ (value_keeps right t t_kept) (λ b u u_kept. compared_keeps r u u_kept comparison a b))
      value_keeps (core.Same left right) s kept =
          keeps_on r (value audited g k left s) _ (value_keeps left s kept)
          (λ a t t_kept. keeps_on r (value audited g k right t) _ (value_keeps right t t_kept) (λ b u u_kept. test_keeps r u u_kept (same_place a b)))
      value_keeps (core.AndAlso left right) s kept =
          keeps_on r (value audited g k left s) _ (value_keeps left s kept)
          (λ a t t_kept. chosen_keeps r (truth a) _ _ (keeps_on r (value audited g k right t) _ (value_keeps right t t_kept) (λ b u u_kept. u_kept)) t_kept)
      value_keeps (core.OrElse left right) s kept =
          keeps_on r (value audited g k left s) _ (value_keeps left s kept)
          (λ a t t_kept. chosen_keeps r (truth a) _ _ t_kept (keeps_on r (value audited g k right t) _ (value_keeps right t t_kept) (λ b u u_kept. u_kept)))
      value_keeps (core.LowByte operand) s kept =
          keeps_on r (value audited g k operand s) low_byte_of (value_keeps operand s kept) (λ v t t_kept. byte_keeps r t t_kept v)
      value_keeps (core.Call callee arguments bounds) s kept =
          keeps_on r (values audited g k arguments s) _ (values_keep arguments s kept)
          (λ vs t t_kept. keeps_on r (and_then (called g k callee vs t) result_given) (audit audited bounds)
          (keeps_on r (called g k callee vs t) result_given (called_keeps r callee vs t t_kept) (λ v u u_kept. result_keeps r u u_kept v))
          (λ v u u_kept. audit_keeps r u u_kept audited bounds v))
      value_keeps core.NextInput s kept = asked_keeps r (next_input s.world) s _ kept (λ z t t_kept. t_kept)
      value_keeps (core.Sum pointer direction number site bounds) s kept =
          keeps_on r _ (audit audited bounds)
          (keeps_on r (value audited g k pointer s) _ (value_keeps pointer s kept)
          (λ v t t_kept. keeps_on r (and_then (value audited g k number t) (number_given (Some site))) _
          (keeps_on r (value audited g k number t) (number_given (Some site)) (value_keeps number t t_kept) (λ w u u_kept. number_keeps r u u_kept (Some site) w))
          (λ n u u_kept. summed_keeps r u u_kept direction site n v (with_ends (bounds_of pointer) v t.locals).ends)))
          (λ v t t_kept. audit_keeps r t t_kept audited bounds v)
      value_keeps (core.Order comparison left right site) s kept =
          keeps_on r (value audited g k left s) _ (value_keeps left s kept)
          (λ a t t_kept. keeps_on r (value audited g k right t) _ (value_keeps right t t_kept)
          (λ b u u_kept. keeps_on r (not_null site a u) _ (not_null_keeps r u u_kept site a)
          (λ _ w w_kept. keeps_on r (not_null site b w) _ (not_null_keeps r w w_kept site b)
          (λ _ x x_kept. ordered_keeps r x x_kept comparison (Some site) a b))))
      value_keeps (core.Allocate count element terminator bounds) s kept =
          keeps_on r _ (audit audited bounds)
          (keeps_on r (and_then (value audited g k count s) (number_given None)) (allocated g.trusted terminator element)
          (keeps_on r (value audited g k count s) (number_given None) (value_keeps count s kept) (λ v t t_kept. number_keeps r t t_kept None v))
          (λ z t t_kept. allocated_keeps r t t_kept g.trusted terminator element z))
          (λ v t t_kept. audit_keeps r t t_kept audited bounds v)
      value_keeps (core.Length pointer site) s kept =
          keeps_on r (value audited g k pointer s) _ (value_keeps pointer s kept)
          (λ v t t_kept. length_keeps r t t_kept g.budget site v (with_ends (bounds_of pointer) v t.locals).ends)
      value_keeps (core.Cast pointer bounds) s kept =
          keeps_on r _ (audit audited bounds)
          (keeps_on r (value audited g k pointer s) _ (value_keeps pointer s kept)
          (λ v t t_kept. cast_keeps r t t_kept bounds (with_ends (bounds_of pointer) v t.locals)))
          (λ v t t_kept. audit_keeps r t t_kept audited bounds v)

      pub values_keep : (es : core.Arguments) (s : State) → IsLater r s → Keeps r (values audited g k es s)
      values_keep core.Done s kept = kept
      values_keep (core.More first rest) s kept =
          keeps_on r (value audited g k first s) _ (value_keeps first s kept)
          (λ v t t_kept. keeps_on r (values audited g k rest t) _ (values_keep rest t t_kept) (λ vs u u_kept. u_kept))

      pub place_keeps : (p : core.Place) (s : State) → IsLater r s → Keeps r (place audited g k p s)
      place_keeps (core.Direct object offset) s kept = variable_keeps r s kept (nat_lt object (length g.program.objects)) object offset
      place_keeps (core.Through pointer index offset site) s kept =
          keeps_on r (value audited g k pointer s) _ (value_keeps pointer s kept)
          (λ v t t_kept. keeps_on r (number_of audited g k index t) _ (index_keeps index t t_kept)
          (λ n u u_kept. reached_keeps r u u_kept index offset site (record { pointer = with_ends (bounds_of pointer) v t.locals; number = n })))

      pub index_keeps : (index : core.Index) (s : State) → IsLater r s → Keeps r (number_of audited g k index s)
      index_keeps core.First s kept = kept
      index_keeps (core.Element number terminated) s kept =
          keeps_on r (value audited g k number s) (number_given None) (value_keeps number s kept) (λ v t t_kept. number_keeps r t t_kept None v)

  -- of its locals and its blocks alone
  pub value_after : (e : core.Expression) (s : State) → WhereGiven (λ v t. IsAfter s t) (value audited g k e s)
  value_after e s = by (value audited g k e s) (value_keeps s e s (later_here s))
    where
      by : (o : Result Value) → Keeps s o → WhereGiven (λ v t. IsAfter s t) o
      by (Gives v t) h = h.0
      by (Ends ending t) h = tt
      by (Stuck site t) h = tt
      by (Unsound site t) h = tt
      by Short h = tt
