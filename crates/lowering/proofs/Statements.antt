-- The code of a statement has the statement's effect.
use Rattle.std.proofs.Common.{◌≡◌, ℕ, zero, suc, ◌+◌, ◌%◌, ◌<◌, ◌≤◌, Bool, true, false, ℤ, pos, List, [], ◌∷◌, ◌++◌, length, Option, Some, None, refl, sym, ap, ◌∙◌, subst, arith}
use Rattle.std.specs.Prelude.{slice_get, nat_lt, not, max}
use Rattle.ckc_core.specs.Outcome.{Gives, and_then}
use Rattle.act_words.specs.Numbers.{word, number_line}
use Rattle.act_words.specs.Touches.{spend_tick, write}
use Rattle.pointer_modes.specs.Types.{CType}
use Rattle.ckc_core.specs.declared.program.Site.{Site}
use Rattle.act_words.specs.declared.operator.Operator.{Operator}
use Rattle.check_insertion.specs.declared.erased.Check.{Check}
use Rattle.check_insertion.specs.declared.erased.Reading.{Reading}
use Rattle.check_insertion.specs.Erased as erased
use Rattle.ckc_core.specs.States.{Value, Number, Null, At, Cell, Grows, shapes, cell_at}
use Rattle.ckc_core.specs.States as meaning
use Rattle.ckc_core.specs.Steps.{Result, Flow, Next, Broke, Continued, Returned, is_char, given, truth, place_if, variable_if, variable_at, load_at, store_at, arithmetic_of, kept_if, set_local, printed, put, on_next, behind_turn, no_result, choose}
use Rattle.check_insertion.specs.ErasedMeaning.{Knot, Target, value, place, number_of, target_of, place_from, storable, effect, effects}
use Rattle.code_words.specs.declared.op.Op.{Op}
use Rattle.code_words.specs.declared.op.Op.TheVariants as ops
use Rattle.lowering.specs.Code.{Places, operator_code, load_code, store_code, address_code, byte_code, byte_size, offset_size, through_size, expression_size, arguments_size, place_size, statement_size, statements_size, expression_code, place_code, index_code, index_size, before_value, behind_value, through_code, statement_code, statements_code, Onward, pointer_slot, number_slot, ended_code, ended_size, twice_code, plain_update, update_code, update_size}
use Rattle.check_insertion.specs.Stacks.{expression_stack, place_stack, index_stack, value_stack, offset_stack, statement_stack, statements_stack}
use Rattle.lowering.specs.Sized.{SizedExpression, SizedPlace, SizedStatement, SizedStatements}
use Rattle.ckc_core.proofs.Numbers.{signed-word}
use Rattle.lowering.proofs.Shapes.{grows_on, kept_grows, word_grows}
use Rattle.lowering.proofs.Worlds.{KeptWorld}
use Rattle.lowering.proofs.Executions.{Execution, word_of, IsKept}
use Rattle.lowering.proofs.Steps.{HasAt, has_front, has_back, Leads, leads_on, leads_to, asks_on, Finishes, Layout, Scratch, code, frame, Here, kept_in, fetched, moved, pushes, here_at, Arrives, from, here_from, here_on, Both, both}
use Rattle.lowering.proofs.Sizes.{length_offset, length_byte, length_through, length_expression, length_place, length_before, length_statement}
use Rattle.lowering.proofs.Expressions.{local_runs, operator_runs, tick_runs, jump_runs, branch_runs}
use Rattle.lowering.proofs.Places.{Placed, variable_runs, load_runs, truth_word}
use Rattle.lowering.proofs.Calls.{Leaves, FlowsTo, Affects, ArePlaces, test_of, KnotRuns, Resumes}
use Rattle.lowering.proofs.Values.{setting, small_checks, Indexed, called_runs, value_runs, arguments_run, place_runs, index_runs}
use Rattle.lowering.proofs.Accesses.{index_pile, IsIndex, most_words, holds_still}
use Rattle.lowering.proofs.Aside.{here_stands, number_set, number_there, pointer_set, pointer_there, stand_slot, stands_here}
use Rattle.lowering.proofs.Ended.{Target as EndedTarget, ended_store_runs, kept_stored, through_then}
use Rattle.lowering.proofs.Reaches.{step_of}
use Rattle.lowering.proofs.Targets.{target_then}
use Rattle.lowering.proofs.Stores.{store_runs, set_runs, byte_runs, through_store_runs}

stack_of_offset : (offset n : ℕ) → 2 ≤ n → offset_stack offset ≤ n
stack_of_offset zero n h = omega arith
stack_of_offset (suc offset) n h = h

offset_room : (offset n : ℕ) → 8 ≤ n → 2 + offset_stack offset ≤ n
offset_room zero n h = omega (arith, h)
offset_room (suc offset) n h = omega (arith, h)

offset_alone : (offset n : ℕ) → 8 ≤ n → offset_stack offset ≤ n
offset_alone zero n h = omega (arith, h)
offset_alone (suc offset) n h = omega (arith, h)

-- the words of a store
two_words : (index : erased.Index) (e : erased.Expression) (n : ℕ) → value_stack index e ≤ n → 2 ≤ n
two_words erased.First e n h = omega arith
two_words (erased.Element number size) e n h = omega arith

store_words : (index : erased.Index) (e : erased.Expression) (n : ℕ) → value_stack index e ≤ n → most_words index ≤ n
store_words erased.First e n h = omega arith
store_words (erased.Element number size) e n h = omega arith

pile_room : (index : erased.Index) (e : erased.Expression) (z : ℤ) (w n : ℕ) → value_stack index e ≤ n → length (index_pile index z (w ∷ [])) + expression_stack e ≤ n
pile_room erased.First e z w n h = omega arith
pile_room (erased.Element number size) e z w n h = omega arith

index_words : (index : erased.Index) (e : erased.Expression) → index_stack index ≤ value_stack index e
index_words erased.First e = omega arith
index_words (erased.Element number size) e = omega arith

-- a pointer and the number of an element lie on the stack
pub record Aims (g : Execution) (l : Layout g) (p : Places) (index : erased.Index) (next : ℕ) (q : Target) (t : meaning.State) : Type 0 where
  pub here : Here g l next (index_pile index q.number (word_of g t q.pointer ∷ [])) t
  pub number : IsIndex index q.number
  pub kept : IsKept t q.pointer

-- a value above them
pub record Piled (g : Execution) (l : Layout g) (index : erased.Index) (next : ℕ) (q v : Value) (z : ℤ) (t : meaning.State) : Type 0 where
  pub here : Here g l next (word_of g t v ∷ index_pile index z (word_of g t q ∷ [])) t
  pub below : IsKept t q
  pub top : IsKept t v

pile_both : (g : Execution) (l : Layout g) (index : erased.Index) (next : ℕ) (q v : Value) (z : ℤ) (s t : meaning.State) → Grows l.since (shapes s.blocks) → IsKept s q → Arrives g (from g l s) next (index_pile index z (word_of g s q ∷ [])) v t → Piled g l index next q v z t
pile_both g l index next q v z s t grows kept x =
    let added = x.0.kept.grows in
    let same = word_grows g.settings.base (shapes s.blocks) (shapes t.blocks) q added kept in
    record {
      here = subst (λ u. Here g l next (word_of g t v ∷ index_pile index z (u ∷ [])) t) (sym same) (here_on g l next (word_of g t v ∷ index_pile index z (word_of g s q ∷ [])) s t grows x.0);
      below = kept_grows (shapes s.blocks) (shapes t.blocks) q added kept;
      top = x.1;
    }

module _ (g : Execution) (l : Layout g) where
  pub affects_at : (p : Places) (m n : ℕ) (o : Result Flow) → m ≡ n → Affects g l p m o → Affects g l p n o
  affects_at p m n o e a = subst (λ k. Affects g l p k o) e a

  -- what follows a statement that leads to the next one
  affects_next : (p : Places) (m n : ℕ) (o : Result Flow) → ((s : meaning.State) → Here g l m [] s → Here g l n [] s) → Affects g l p m o → Affects g l p n o
  affects_next p m n o more a = leads_to (FlowsTo g l p m) (FlowsTo g l p n) (Finishes g) o by a
    where
      by : (flow : Flow) (s : meaning.State) → FlowsTo g l p m flow s → FlowsTo g l p n flow s
      by Next s h = more s h
      by Broke s h = h
      by Continued s h = h
      by (Returned v) s h = h

  affects_on : (p : Places) (m n : ℕ) (o : Result Flow) (rest : meaning.State → Result Flow) → Affects g l p m o → ((s : meaning.State) → Here g l m [] s → Affects g l p n (rest s)) → Affects g l p n (and_then o (on_next rest))
  affects_on p m n o rest a more = leads_on (FlowsTo g l p m) (FlowsTo g l p n) (Finishes g) o (on_next rest) a by
    where
      by : (flow : Flow) (s : meaning.State) → FlowsTo g l p m flow s → Affects g l p n (on_next rest flow s)
      by Next s h = more s h
      by Broke s h = h
      by Continued s h = h
      by (Returned v) s h = h

  -- behind the body of a turn
  turn_on : (p q : Places) (m n : ℕ) (o : Result Flow) (further : meaning.State → Result Flow) → q.on_break ≡ n → q.on_continue ≡ m → Affects g l q m o → ((s : meaning.State) → Here g l m [] s → Affects g l p n (further s)) → Affects g l p n (and_then o (behind_turn further))
  turn_on p q m n o further on_break on_continue a more = leads_on (FlowsTo g l q m) (FlowsTo g l p n) (Finishes g) o (behind_turn further) a by
    where
      by : (flow : Flow) (s : meaning.State) → FlowsTo g l q m flow s → Affects g l p n (behind_turn further flow s)
      by Next s h = more s h
      by Broke s h = here_at g l q.on_break n [] s on_break h
      by Continued s h = more s (here_at g l q.on_continue m [] s on_continue h)
      by (Returned v) s h = h

  -- the address of a byte of a variable lies on the stack, whatever pointer leads there
  abbrev Addresses : ℕ → ℕ → ℕ → Target → meaning.State → Type 0
  Addresses next object offset q t = Arrives g l next [] (At object offset) t

  -- a target at a place
  abbrev at_place : ℕ × ℕ → meaning.State → Result Target
  at_place place t = Gives (record { pointer = At place.0 place.1; number = pos 0 }) t

  addresses_by : (next : ℕ) (s : meaning.State) (object offset : ℕ) (low : Bool) (o : Option Cell) → cell_at s.blocks object offset ≡ o → Leads (Placed g l next []) (Finishes g) (variable_if low object offset s) → Leads (Addresses next object offset) (Finishes g) (and_then (variable_if low object offset s) at_place)
  addresses_by next s object offset false o is h = tt
  addresses_by next s object offset true None is h = rw is tt
  addresses_by next s object offset true (Some c) is h = let h' = subst (λ x. Leads (Placed g l next []) (Finishes g) (place_if x None object offset s)) is h in rw is h'

  address_runs : (next : ℕ) (s : meaning.State) (object offset : ℕ) → Here g l next [] s → HasAt (code g l).ops next (address_code object offset) → offset_stack offset ≤ (code g l).stack → Leads (Addresses (next + (1 + offset_size offset)) object offset) (Finishes g) (and_then (variable_at (setting g) object offset s) at_place)
  address_runs next s object offset here at room =
      addresses_by (next + (1 + offset_size offset)) s object offset (nat_lt object (length g.program.objects)) (cell_at s.blocks object offset) refl
      (variable_runs g l next [] s object offset here at (omega arith))

  -- a store to a variable, whose address and value lie on the stack
  direct_store_runs : (next : ℕ) (s : meaning.State) (p : Places) (type : CType) (object offset : ℕ) (v : Value) (o : Option Cell) → IsKept s v → Here g l next (word_of g s v ∷ (word_of g s (At object offset) ∷ [])) s → slice_get (code g l).ops next ≡ Some (store_code type) → Affects g l p (next + 1) (and_then (place_if o None object offset s) (λ place t. store_at type None place v t))
  direct_store_runs next s p type object offset v (Some c) kept here at = store_runs g l next s p type None (object, offset) v kept here at
  direct_store_runs next s p type object offset v None kept here at = tt

  -- ---- output

  print_runs : (next : ℕ) (s : meaning.State) (p : Places) (v : Value) → Arrives g l next [] v s → slice_get (code g l).ops next ≡ Some ops.Print → Affects g l p (next + 1) (printed v s)
  print_runs next s p (Number z) x at =
      let w = write (number_line z) s.world in
      let kept : KeptWorld w = record { acts = x.0.kept.world.acts; inputs = x.0.kept.world.inputs } in
      moved g l next (word z ∷ []) s ops.Print (next + 1) [] (meaning.in_world w s) x.0 at (kept_in g l s w x.0.kept kept) (λ scratch. rw (signed-word z x.1) refl)
  print_runs next s p Null x at = tt
  print_runs next s p (At block byte) x at = tt

  put_runs : (next : ℕ) (s : meaning.State) (p : Places) (v : Value) → Arrives g l next [] v s → slice_get (code g l).ops next ≡ Some ops.PutByte → Affects g l p (next + 1) (put v s)
  put_runs next s p (Number z) x at =
      let w = write (word z % 256 ∷ []) s.world in
      let kept : KeptWorld w = record { acts = x.0.kept.world.acts; inputs = x.0.kept.world.inputs } in
      moved g l next (word z ∷ []) s ops.PutByte (next + 1) [] (meaning.in_world w s) x.0 at (kept_in g l s w x.0.kept kept) (λ scratch. refl)
  put_runs next s p Null x at = tt
  put_runs next s p (At block byte) x at = tt

  -- a call without a result
  alone_runs : (next : ℕ) (p : Places) (v : Option Value) (s : meaning.State) → Resumes g l next [] v s → Affects g l p next (no_result v s)
  alone_runs next p None s h = h
  alone_runs next p (Some v) s h = tt

  -- ---- returns

  pub return_runs : (next : ℕ) (s : meaning.State) (v : Value) → Arrives g l next [] v s → slice_get (code g l).ops next ≡ Some ops.Return → Leaves g l.callers l.since (Some v) s
  return_runs next s v x at =
      let f = frame g l next x.0.scratch (word_of g s v ∷ []) s in
      record { last = f; popped = record f { stack = [] }; blocks = x.0.kept.blocks; grows = x.0.kept.grows; world = x.0.kept.world; value = x.1; reached = x.0.reached; returns = fetched g l next x.0.scratch (word_of g s v ∷ []) s ops.Return at }

  pub nothing_runs : (next : ℕ) (s : meaning.State) → Here g l next [] s → slice_get (code g l).ops next ≡ Some ops.ReturnNothing → Leaves g l.callers l.since None s
  nothing_runs next s here at =
      let f = frame g l next here.scratch [] s in
      record { last = f; popped = f; blocks = here.kept.blocks; grows = here.kept.grows; world = here.kept.world; value = tt; reached = here.reached; returns = fetched g l next here.scratch [] s ops.ReturnNothing at }

  module _ (k : Knot) (runs : KnotRuns g k) where
    -- the code of a statement, where it stands, has its effect
    abbrev pub StatementRuns : erased.Statement → Type 0
    StatementRuns x = (p : Places) (next : ℕ) (s : meaning.State) → ArePlaces g l p → SizedStatement p.scratch x → Here g l next [] s → HasAt (code g l).ops next (statement_code p next x) → statement_stack x ≤ (code g l).stack → next + statement_size x < length (code g l).ops → Affects g l p (next + statement_size x) (effect (setting g) k x s)

    -- a condition on the stack, and two ways on
    if_runs : (p : Places) (next other end : ℕ) (v : Value) (test : Bool) (s : meaning.State) (first second : Result Flow) → truth v ≡ test → Arrives g l next [] v s → slice_get (code g l).ops next ≡ Some (ops.JumpIfZero other) → other < length (code g l).ops → (Here g l (next + 1) [] s → Affects g l p end first) → (Here g l other [] s → Affects g l p end second) → Affects g l p end (choose test first second)
    if_runs p next other end v true s first second is x at low on_true on_false = on_true (branch_runs g l next (word_of g s v) [] s other false (truth_word g s v x.1 ∙ ap not is) low x.0 at)
    if_runs p next other end v false s first second is x at low on_true on_false = on_false (branch_runs g l next (word_of g s v) [] s other true (truth_word g s v x.1 ∙ ap not is) low x.0 at)

    -- a loop from its test on
    pub loop_runs : (condition : erased.Expression) (body step : erased.Statement) → StatementRuns body → StatementRuns step → (p : Places) (at : ℕ) (s : meaning.State) → ArePlaces g l p → SizedStatement p.scratch (erased.Loop condition body step) → HasAt (code g l).ops at (statement_code p at (erased.Loop condition body step)) → statement_stack (erased.Loop condition body step) ≤ (code g l).stack → at + statement_size (erased.Loop condition body step) < length (code g l).ops → Here g l (test_of at body step) [] s → Affects g l p (at + statement_size (erased.Loop condition body step)) (effect (setting g) k (erased.Loop condition body step) s)
    loop_runs condition body step body_runs step_runs p at s places sized has room low here =
        let inside = at + 2 in
        let next = inside + statement_size body in
        let test = next + statement_size step in
        let last = test + expression_size condition in
        let end = last + 2 in
        let q : Places = record { scratch = p.scratch; on_break = end; on_continue = next } in
        let whole : end ≡ at + statement_size (erased.Loop condition body step) = omega arith in
        let tests = expression_code p.scratch test condition ++ (ops.JumpIfZero end ∷ (ops.Jump (at + 1) ∷ [])) in
        let steps = statement_code p next step ++ tests in
        let first : at + 1 + 1 ≡ inside = omega arith in
        let bodies = subst (λ n. HasAt (code g l).ops n (statement_code q inside body ++ steps)) first has.1.1 in
        let at_step = has_back (code g l).ops inside (statement_code q inside body) steps (statement_size body) (length_statement q inside body) bodies in
        let at_test = has_back (code g l).ops next (statement_code p next step) tests (statement_size step) (length_statement p next step) at_step in
        let branch = has_back (code g l).ops test (expression_code p.scratch test condition) (ops.JumpIfZero end ∷ (ops.Jump (at + 1) ∷ [])) (expression_size condition) (length_expression p.scratch test condition) at_test in
        let inner : ArePlaces g l q = record { scratch = places.scratch; on_break = omega arith; on_continue = omega arith; free = places.free } in
        affects_at p end (at + statement_size (erased.Loop condition body step)) (effect (setting g) k (erased.Loop condition body step) s) whole
        (leads_on (Arrives g l last []) (FlowsTo g l p end) (Finishes g) (value (setting g) k condition s) _
        (value_runs g k runs condition l p.scratch places.scratch sized.0 test [] s here (has_front (code g l).ops test (expression_code p.scratch test condition) (ops.JumpIfZero end ∷ (ops.Jump (at + 1) ∷ [])) at_test) (omega arith) (omega arith))
        (λ v t x. if_runs p last end end v (truth v) t _ (Gives Next t) refl x branch.0 (omega arith)
        (λ again. asks_on (λ _ w. Here g l (at + 1 + 1) [] (meaning.in_world w t)) (FlowsTo g l p end) (Finishes g) (spend_tick g.settings.budget t.world) t _
        (tick_runs g l (at + 1) [] t (jump_runs g l (last + 1) [] [] t (ops.Jump (at + 1)) (at + 1) (omega arith) again branch.1.0 (λ scratch. refl)) has.1.0)
        (λ _ w ticked. turn_on p q next end (effect (setting g) k body (meaning.in_world w t)) (λ u. and_then (effect (setting g) k step u) (on_next (k.turn condition body step))) refl refl
        (body_runs q inside (meaning.in_world w t) inner sized.1 (here_at g l (at + 1 + 1) inside [] (meaning.in_world w t) first ticked) (has_front (code g l).ops inside (statement_code q inside body) steps bodies) (omega arith) (omega arith))
        (λ u h. affects_on p test end (effect (setting g) k step u) (k.turn condition body step)
        (step_runs p next u places sized.2 h (has_front (code g l).ops next (statement_code p next step) tests at_step) (omega arith) (omega arith))
        (λ z i. affects_at p (at + statement_size (erased.Loop condition body step)) end (k.turn condition body step z) (sym whole) (runs.turn l p at condition body step z places sized has room low i)))))
        (λ done. done)))

    -- a value, and the instruction that takes it
    operand_runs : (e : erased.Expression) (op : Op) (more : Value → meaning.State → Result Flow) (p : Places) (next : ℕ) (s : meaning.State) → ((m : ℕ) (v : Value) (t : meaning.State) → Arrives g l m [] v t → slice_get (code g l).ops m ≡ Some op → Affects g l p (m + 1) (more v t)) → ArePlaces g l p → SizedExpression p.scratch e → Here g l next [] s → HasAt (code g l).ops next (expression_code p.scratch next e ++ op ∷ []) → expression_stack e ≤ (code g l).stack → next + (expression_size e + 1) < length (code g l).ops → Affects g l p (next + (expression_size e + 1)) (and_then (value (setting g) k e s) more)
    operand_runs e op more p next s behind places sized here at room low =
        let m = next + expression_size e in
        let first = expression_code p.scratch next e in
        let end : m + 1 ≡ next + (expression_size e + 1) = omega arith in
        affects_at p (m + 1) (next + (expression_size e + 1)) (and_then (value (setting g) k e s) more) end
        (leads_on (Arrives g l m []) (FlowsTo g l p (m + 1)) (Finishes g) (value (setting g) k e s) more
        (value_runs g k runs e l p.scratch places.scratch sized next [] s here (has_front (code g l).ops next first (op ∷ []) at) (omega arith) (omega arith))
        (λ v t x. behind m v t x (has_back (code g l).ops next first (op ∷ []) (expression_size e) (length_expression p.scratch next e) at).0))

    -- an operator on an old value and another one, whose words lie on the stack, and what becomes of the result
    combined_runs : (p : Places) (next end : ℕ) (stack : List ℕ) (s : meaning.State) (char : Bool) (operator : Operator) (site : Site) (old v : Value) (last : List Op) (more : Value → meaning.State → Result Flow) → Both g l next stack old v s → HasAt (code g l).ops next (operator_code operator site ∷ (byte_code char ++ last)) → length stack < (code g l).stack → ((new : Value) (t : meaning.State) → Arrives g (from g l s) (next + 1 + byte_size char) stack new t → Affects g l p end (more new t)) → Affects g l p end (and_then (arithmetic_of operator site old v s) (λ new t. and_then (kept_if char new t) more))
    combined_runs p next end stack s char operator site old v last more x at room further =
        let m = from g l s in
        leads_on (Arrives g m (next + 1) stack) (FlowsTo g l p end) (Finishes g) (arithmetic_of operator site old v s) _
        (operator_runs g m next stack s operator site old v x.below x.top (here_from g l next (word_of g s v ∷ (word_of g s old ∷ stack)) s x.here) at.0 room)
        (λ new t y. leads_on (Arrives g m (next + 1 + byte_size char) stack) (FlowsTo g l p end) (Finishes g) (kept_if char new t) more
        (byte_runs g m (next + 1) stack t char new y (has_front (code g l).ops (next + 1) (byte_code char) last at.1) room)
        further)

    -- the pointer and the index of a store
    target_runs : (pointer : erased.Expression) (index : erased.Index) (offset : ℕ) (checks : List Check) (p : Places) (next : ℕ) (s : meaning.State) → ArePlaces g l p → SizedPlace p.scratch (erased.Through pointer index offset checks) → Here g l next [] s → HasAt (code g l).ops next (expression_code p.scratch next pointer ++ index_code p.scratch (next + expression_size pointer) index) → expression_stack pointer ≤ (code g l).stack → index_stack index ≤ (code g l).stack → next + (expression_size pointer + index_size index) < length (code g l).ops → Leads (Aims g l p index (next + expression_size pointer + index_size index)) (Finishes g) (target_of (setting g) k (erased.Through pointer index offset checks) s)
    target_runs pointer index offset checks p next s places sized here at room enough low =
        let m = next + expression_size pointer in
        let j = m + index_size index in
        let front = expression_code p.scratch next pointer in
        let middle = index_code p.scratch m index in
        leads_on (Arrives g l m []) (Aims g l p index j) (Finishes g) (value (setting g) k pointer s) _
        (value_runs g k runs pointer l p.scratch places.scratch sized.0 next [] s here (has_front (code g l).ops next front middle at) (omega arith) (omega arith))
        (λ v t x. leads_on (Indexed g k runs l index j [] v) (Aims g l p index j) (Finishes g) (number_of (setting g) k index t) _
        (index_runs g k runs index checks l p.scratch places.scratch sized.1 m [] v t x (has_back (code g l).ops next front middle (expression_size pointer) (length_expression p.scratch next pointer) at) (omega arith) (omega arith))
        (λ z u y. record { here = y.here; number = y.number; kept = y.kept }))

    -- an update whose result goes to any cell
    abbrev Updated : CType → erased.Place → Operator → erased.Expression → Site → Option Reading → meaning.State → Result Flow
    Updated type cell operator e site end s = effect (setting g) k (erased.Update type cell operator e site end) s

    plain_runs : (type : CType) (cell : erased.Place) (operator : Operator) (e : erased.Expression) (site : Site) (p : Places) (next : ℕ) (s : meaning.State) → ArePlaces g l p → SizedPlace p.scratch cell → SizedExpression p.scratch e → Here g l next [] s → HasAt (code g l).ops next (plain_update p.scratch next type cell operator e site) → max (place_stack cell) (2 + expression_stack e) ≤ (code g l).stack → next + (place_size cell + (2 + (expression_size e + (1 + (byte_size (is_char type) + 1))))) < length (code g l).ops
        → Affects g l p (next + (place_size cell + (2 + (expression_size e + (1 + (byte_size (is_char type) + 1)))))) (Updated type cell operator e site None s)
    plain_runs type cell operator e site p next s places sized sized_value here at room low =
        let m = next + place_size cell in
        let n = m + 2 + expression_size e in
        let o = n + 1 + byte_size (is_char type) in
        let char = is_char type in
        let last = operator_code operator site ∷ (byte_code char ++ (store_code type ∷ [])) in
        let rest = ops.Duplicate ∷ (load_code type ∷ (expression_code p.scratch (m + 2) e ++ last)) in
        let middle = has_back (code g l).ops next (place_code p.scratch next cell) rest (place_size cell) (length_place p.scratch next cell) at in
        let two : m + 1 + 1 ≡ m + 2 = omega arith in
        let at_value = subst (λ i. HasAt (code g l).ops i (expression_code p.scratch (m + 2) e ++ last)) two middle.1.1 in
        let back = has_back (code g l).ops (m + 2) (expression_code p.scratch (m + 2) e) last (expression_size e) (length_expression p.scratch (m + 2) e) at_value in
        let more = λ (place : ℕ × ℕ) (t : meaning.State). and_then (load_at type None place t) (λ old u. and_then (value (setting g) k e u) (λ v w. and_then (arithmetic_of operator site old v w) (λ new x. and_then (kept_if char new x) (store_at type None place)))) in
        let end : o + 1 ≡ next + (place_size cell + (2 + (expression_size e + (1 + (byte_size char + 1))))) = omega arith in
        affects_at p (o + 1) (next + (place_size cell + (2 + (expression_size e + (1 + (byte_size char + 1)))))) (and_then (target_of (setting g) k cell s) (λ q t. and_then (place_from cell q t) more)) end
        (subst (λ z. Affects g l p (o + 1) z) (sym (target_then (setting g) k more cell s))
        (leads_on (Placed g l m []) (FlowsTo g l p (o + 1)) (Finishes g) (place (setting g) k cell s) _
        (place_runs g k runs cell l p.scratch places.scratch sized next [] s here (has_front (code g l).ops next (place_code p.scratch next cell) rest at) (omega arith) (omega arith))
        (λ place t x.
        let a = At place.0 place.1 in
        let at_t = word_of g t a in
        let twice = pushes g l m (at_t ∷ []) t ops.Duplicate at_t (at_t ∷ []) x.0 middle.0 (omega arith) (λ scratch. refl) in
        leads_on (Arrives g (from g l t) (m + 1 + 1) (at_t ∷ [])) (FlowsTo g l p (o + 1)) (Finishes g) (load_at type None place t) _
        (load_runs g (from g l t) (m + 1) (at_t ∷ []) t type None place (here_from g l (m + 1) (at_t ∷ (at_t ∷ [])) t twice, x.1) middle.1.0 (omega arith))
        (λ old u y.
        let loaded = both g l (m + 1 + 1) [] a old t u x.0.kept.grows x.1 y in
        let at_u = word_of g u a in
        let old_u = word_of g u old in
        leads_on (Arrives g (from g l u) n (old_u ∷ (at_u ∷ []))) (FlowsTo g l p (o + 1)) (Finishes g) (value (setting g) k e u) _
        (value_runs g k runs e (from g l u) p.scratch places.scratch sized_value (m + 2) (old_u ∷ (at_u ∷ [])) u (here_from g l (m + 2) (old_u ∷ (at_u ∷ [])) u (here_at g l (m + 1 + 1) (m + 2) (old_u ∷ (at_u ∷ [])) u two loaded.here)) (has_front (code g l).ops (m + 2) (expression_code p.scratch (m + 2) e) last at_value) (omega arith) (omega arith))
        (λ v w z.
        let three = both g l n (at_u ∷ []) old v u w loaded.here.kept.grows loaded.top z in
        let added = z.0.kept.grows in
        let still = kept_grows (shapes u.blocks) (shapes w.blocks) a added loaded.below in
        let same = sym (word_grows g.settings.base (shapes u.blocks) (shapes w.blocks) a added loaded.below) in
        combined_runs p n (o + 1) (word_of g w a ∷ []) w char operator site old v (store_code type ∷ []) (store_at type None place)
        (record { here = subst (λ i. Here g l n (word_of g w v ∷ (word_of g w old ∷ (i ∷ []))) w) same three.here; below = three.below; top = three.top }) back (omega arith)
        (λ new w' i.
        let last_both = both g l o [] a new w w' three.here.kept.grows still i in
        store_runs g l o w' p type None place new last_both.top last_both.here (has_back (code g l).ops (n + 1) (byte_code char) (store_code type ∷ []) (byte_size char) (length_byte char) back.1).0))))))

    -- a pointer and the number of an element, twice
    twice_runs : (p : Places) (next : ℕ) (stack : List ℕ) (s : meaning.State) (i w : ℕ) → p.scratch ≡ length l.function.locals → Here g l next (i ∷ (w ∷ stack)) s → HasAt (code g l).ops next (twice_code p.scratch) → length stack + 4 ≤ (code g l).stack → Here g l (next + 6) (i ∷ (w ∷ (i ∷ (w ∷ stack)))) s
    twice_runs p next stack s i w is here at room =
        let c : Scratch = record here.scratch { number = i } in
        let d : Scratch = record c { pointer = w } in
        let slot = p.scratch in
        let one = number_set g l slot is next here.scratch (w ∷ stack) s i (stands_here g l next (i ∷ (w ∷ stack)) s here) at.0 in
        let two = pointer_set g l slot is (next + 1) c stack s w one at.1.0 in
        let three = stand_slot g l (next + 1 + 1) d stack s (pointer_slot slot) w (pointer_there g l slot is d s two.kept) two at.1.1.0 (omega (arith, room)) in
        let four = stand_slot g l (next + 1 + 1 + 1) d (w ∷ stack) s (number_slot slot) i (number_there g l slot is d s two.kept) three at.1.1.1.0 (omega (arith, room)) in
        let five = stand_slot g l (next + 1 + 1 + 1 + 1) d (i ∷ (w ∷ stack)) s (pointer_slot slot) w (pointer_there g l slot is d s two.kept) four at.1.1.1.1.0 (omega (arith, room)) in
        let six = stand_slot g l (next + 1 + 1 + 1 + 1 + 1) d (w ∷ (i ∷ (w ∷ stack))) s (number_slot slot) i (number_there g l slot is d s two.kept) five at.1.1.1.1.1.0 (omega (arith, room)) in
        let end : next + 1 + 1 + 1 + 1 + 1 + 1 ≡ next + 6 = omega arith in
        here_at g l (next + 1 + 1 + 1 + 1 + 1 + 1) (next + 6) (i ∷ (w ∷ (i ∷ (w ∷ stack)))) s end (here_stands g l (next + 1 + 1 + 1 + 1 + 1 + 1) d (i ∷ (w ∷ (i ∷ (w ∷ stack)))) s (holds_still l.held here.scratch d refl here.holds) six)

    -- an update of an element of a null-terminated pointer, whose result goes to the cell of its old value
    ended_runs : (type : CType) (pointer number : erased.Expression) (width offset : ℕ) (checks : List Check) (operator : Operator) (e : erased.Expression) (site : Site) (r : Reading) (p : Places) (next : ℕ) (s : meaning.State) → ArePlaces g l p → SizedPlace p.scratch (erased.Through pointer (erased.Element number width) offset checks) → SizedExpression p.scratch e → Here g l next [] s
        → HasAt (code g l).ops next (update_code p.scratch next type (erased.Through pointer (erased.Element number width) offset checks) operator e site (Some r)) → max (place_stack (erased.Through pointer (erased.Element number width) offset checks)) (max 8 (3 + expression_stack e)) ≤ (code g l).stack → next + update_size (erased.Through pointer (erased.Element number width) offset checks) (Some r) (expression_size e) (byte_size (is_char type)) < length (code g l).ops
        → Affects g l p (next + update_size (erased.Through pointer (erased.Element number width) offset checks) (Some r) (expression_size e) (byte_size (is_char type))) (Updated type (erased.Through pointer (erased.Element number width) offset checks) operator e site (Some r) s)
    ended_runs type pointer number width offset checks operator e site r p next s places sized sized_value here at room low =
        let index = erased.Element number width in
        let cell = erased.Through pointer index offset checks in
        let slot = p.scratch in
        let char = is_char type in
        let byte = byte_size char in
        let thr = through_code slot index offset checks in
        let ts = through_size index offset checks in
        let before = expression_size pointer + expression_size number in
        let j = next + expression_size pointer + expression_size number in
        let at_j : next + before ≡ j = omega arith in
        let k6 = j + 6 in
        let k7 = k6 + ts in
        let kv = k7 + 1 in
        let n = kv + expression_size e in
        let o = n + 1 + byte in
        let kept = ops.Set slot ∷ ended_code slot type width offset [] r in
        let last = operator_code operator site ∷ (byte_code char ++ kept) in
        let loaded = load_code type ∷ (expression_code slot kv e ++ last) in
        let rest = twice_code slot ++ (thr ++ loaded) in
        let same_place : next + before + 6 + ts + 1 ≡ kv = omega arith in
        let whole = subst (λ i. HasAt (code g l).ops next (before_value slot next cell ++ (twice_code slot ++ (thr ++ load_code type ∷ (expression_code slot i e ++ last))))) same_place at in
        let parts = has_front (code g l).ops next (before_value slot next cell) rest whole in
        let behind = subst (λ i. HasAt (code g l).ops i rest) at_j (has_back (code g l).ops next (before_value slot next cell) rest before (length_before slot next cell) whole) in
        let third = has_back (code g l).ops j (twice_code slot) (thr ++ loaded) 6 refl behind in
        let fourth = has_back (code g l).ops k6 thr loaded ts (length_through slot index offset checks) third in
        let fifth = has_back (code g l).ops kv (expression_code slot kv e) last (expression_size e) (length_expression slot kv e) fourth.1 in
        let sixth = has_back (code g l).ops (n + 1) (byte_code char) kept byte (length_byte char) fifth.1 in
        let final = o + (1 + ended_size width offset []) in
        let end : final ≡ next + update_size cell (Some r) (expression_size e) byte = omega arith in
        let enough : 8 ≤ (code g l).stack = omega arith in
        affects_at p final (next + update_size cell (Some r) (expression_size e) byte) (Updated type cell operator e site (Some r) s) end
        (leads_on (Aims g l p index j) (FlowsTo g l p final) (Finishes g) (target_of (setting g) k cell s) _
        (target_runs pointer index offset checks p next s places sized here parts (omega arith) (omega arith) (omega arith))
        (λ q t x.
        let wq = word_of g t q.pointer in
        let stack = word q.number ∷ (wq ∷ []) in
        let m = from g l t in
        let more = λ (place : ℕ × ℕ) (t : meaning.State). and_then (load_at type None place t) (λ old u. and_then (value (setting g) k e u) (λ v w. and_then (arithmetic_of operator site old v w) (λ new y. and_then (kept_if char new y)
        (λ last z. and_then (storable (step_of (Onward width) q.number) (Some r) q.pointer last z) (λ _ a. store_at type None place last a))))) in
        through_then g l slot places.scratch (FlowsTo g l p final) width offset q.number x.number t stack more (omega (arith, enough)) (offset_room offset (code g l).stack enough) k6 number checks q.pointer (small_checks slot index checks sized.1) x.kept
        (twice_runs p j [] t (word q.number) wq places.scratch x.here (has_front (code g l).ops j (twice_code slot) (thr ++ loaded) behind) (omega (arith, enough))) (has_front (code g l).ops k6 thr loaded third)
        (λ block place is target placed.
        leads_on (Arrives g m kv stack) (FlowsTo g l p final) (Finishes g) (load_at type None (block, target.target + offset) t) _
        (load_runs g m k7 stack t type None (block, target.target + offset) (here_from g l k7 (word_of g t (At block (target.target + offset)) ∷ stack) t placed.0, placed.1) fourth.0 (omega (arith, enough)))
        (λ old u y. leads_on (Arrives g (from g m u) n (word_of g u old ∷ stack)) (FlowsTo g l p final) (Finishes g) (value (setting g) k e u) _
        (value_runs g k runs e (from g m u) slot places.scratch sized_value kv (word_of g u old ∷ stack) u (here_from g m kv (word_of g u old ∷ stack) u y.0) (has_front (code g l).ops kv (expression_code slot kv e) last fourth.1) (omega arith) (omega arith))
        (λ v w z.
        let three = both g m n stack old v u w y.0.kept.grows y.1 z in
        let joined = here_on g l n (word_of g w v ∷ (word_of g w old ∷ stack)) t w placed.0.kept.grows three.here in
        combined_runs p n final stack w char operator site old v kept (λ last z. and_then (storable (step_of (Onward width) q.number) (Some r) q.pointer last z) (λ _ a. store_at type None (block, target.target + offset) last a))
        (record { here = joined; below = three.below; top = three.top }) fifth (omega (arith, enough))
        (λ new w' i.
        let grown = grows_on (shapes t.blocks) (shapes w.blocks) (shapes w'.blocks) three.here.kept.grows i.0.kept.grows in
        let there : IsKept t (At block place) = subst (IsKept t) is x.kept in
        let same = word_grows g.settings.base (shapes t.blocks) (shapes w'.blocks) (At block place) grown there in
        let pointed : wq ≡ word_of g w' (At block place) = ap (word_of g t) is ∙ sym same in
        let arrived = here_on g l o (word_of g w' new ∷ stack) w w' joined.kept.grows i.0 in
        let now : EndedTarget width offset q.number block place w' = record { target = target.target; leads = target.leads; inside = kept_grows (shapes t.blocks) (shapes w'.blocks) (At block (target.target + offset)) grown target.inside } in
        subst (λ z. Affects g l p final (and_then (storable (step_of (Onward width) q.number) (Some r) z new w') (λ _ a. store_at type None (block, target.target + offset) new a))) (sym is)
        (kept_stored g l p places type width offset r q.number x.number new w' block place now i.1 arrived.kept.grows (omega (arith, enough)) (offset_alone offset (code g l).stack enough) o (subst (λ z. Here g l o (word_of g w' new ∷ (word q.number ∷ (z ∷ []))) w') pointed arrived) sixth)))))))

    mutual
      pub effect_runs : (x : erased.Statement) (p : Places) (next : ℕ) (s : meaning.State) → ArePlaces g l p → SizedStatement p.scratch x → Here g l next [] s → HasAt (code g l).ops next (statement_code p next x) → statement_stack x ≤ (code g l).stack → next + statement_size x < length (code g l).ops → Affects g l p (next + statement_size x) (effect (setting g) k x s)
      effect_runs erased.Nothing p next s places sized here at room low = let e : next ≡ next + 0 = omega arith in here_at g l next (next + 0) [] s e here
      effect_runs (erased.SetLocal local e) p next s places sized here at room low =
          operand_runs e (ops.Set local) (set_local local) p next s (λ m v t x. set_runs g l m t p local v x.1 x.0) places sized here at room low
      effect_runs (erased.Store type (erased.Direct object offset) e None) p next s places sized here at room low =
          let m = next + (1 + offset_size offset) in
          let n = m + expression_size e in
          let a = At object offset in
          let last = store_code type ∷ [] in
          let front = address_code object offset in
          let back = has_back (code g l).ops next front (expression_code p.scratch m e ++ last) (1 + offset_size offset) (omega (arith, length_offset offset)) at in
          let end : n + 1 ≡ next + ((1 + offset_size offset) + (expression_size e + 1)) = omega arith in
          affects_at p (n + 1) (next + ((1 + offset_size offset) + (expression_size e + 1))) (effect (setting g) k (erased.Store type (erased.Direct object offset) e None) s) end
          (leads_on (Addresses m object offset) (FlowsTo g l p (n + 1)) (Finishes g) (target_of (setting g) k (erased.Direct object offset) s) _
          (address_runs next s object offset here (has_front (code g l).ops next front (expression_code p.scratch m e ++ last) at) (omega arith))
          (λ q t x. leads_on (Arrives g (from g l t) n (word_of g t a ∷ [])) (FlowsTo g l p (n + 1)) (Finishes g) (value (setting g) k e t) _
          (value_runs g k runs e (from g l t) p.scratch places.scratch sized.1 m (word_of g t a ∷ []) t (here_from g l m (word_of g t a ∷ []) t x.0) (has_front (code g l).ops m (expression_code p.scratch m e) last back) (omega arith) (omega arith))
          (λ v u y.
          let z = both g l n [] a v t u x.0.kept.grows x.1 y in
          direct_store_runs n u p type object offset v (cell_at u.blocks object offset) z.top z.here (has_back (code g l).ops m (expression_code p.scratch m e) last (expression_size e) (length_expression p.scratch m e) back).0)))
      effect_runs (erased.Store type (erased.Direct object offset) e (Some r)) p next s places sized here at room low = absurd sized.2
      effect_runs (erased.Store type (erased.Through pointer index offset checks) e None) p next s places sized here at room low =
          let m = next + expression_size pointer in
          let j = m + index_size index in
          let n = j + expression_size e in
          let slot = p.scratch in
          let cell = erased.Through pointer index offset checks in
          let last = behind_value slot type cell None in
          let size = 3 + through_size index offset checks in
          let front = expression_code slot next pointer in
          let middle = index_code slot m index in
          let before = expression_size pointer + index_size index in
          let at_j : next + before ≡ j = omega arith in
          let whole = subst (λ i. HasAt (code g l).ops next ((front ++ middle) ++ (expression_code slot i e ++ last))) at_j at in
          let parts = has_front (code g l).ops next (front ++ middle) (expression_code slot j e ++ last) whole in
          let back = subst (λ i. HasAt (code g l).ops i (expression_code slot j e ++ last)) at_j (has_back (code g l).ops next (front ++ middle) (expression_code slot j e ++ last) before (length_before slot next cell) whole) in
          let end : n + size ≡ next + (before + (expression_size e + size)) = omega arith in
          affects_at p (n + size) (next + (before + (expression_size e + size))) (effect (setting g) k (erased.Store type cell e None) s) end
          (leads_on (Aims g l p index j) (FlowsTo g l p (n + size)) (Finishes g) (target_of (setting g) k cell s) _
          (target_runs pointer index offset checks p next s places sized.0 here parts (omega arith) (omega (arith, index_words index e)) (omega arith))
          (λ q t x. leads_on (Arrives g (from g l t) n (index_pile index q.number (word_of g t q.pointer ∷ []))) (FlowsTo g l p (n + size)) (Finishes g) (value (setting g) k e t) _
          (value_runs g k runs e (from g l t) slot places.scratch sized.1 j (index_pile index q.number (word_of g t q.pointer ∷ [])) t (here_from g l j (index_pile index q.number (word_of g t q.pointer ∷ [])) t x.here) (has_front (code g l).ops j (expression_code slot j e) last back) (pile_room index e q.number (word_of g t q.pointer) (code g l).stack (omega arith)) (omega arith))
          (λ v u y.
          let z = pile_both g l index n q.pointer v q.number t u x.here.kept.grows x.kept y in
          through_store_runs g l n u p type index offset checks q.pointer v q.number places (small_checks slot index checks sized.0.1) x.number z.below z.top z.here (has_back (code g l).ops j (expression_code slot j e) last (expression_size e) (length_expression slot j e) back) (two_words index e (code g l).stack (omega arith)) (stack_of_offset offset (code g l).stack (two_words index e (code g l).stack (omega arith))) (store_words index e (code g l).stack (omega arith)))))
      effect_runs (erased.Store type (erased.Through pointer erased.First offset checks) e (Some r)) p next s places sized here at room low = absurd sized.2
      effect_runs (erased.Store type (erased.Through pointer (erased.Element number width) offset checks) e (Some r)) p next s places sized here at room low =
          let index = erased.Element number width in
          let m = next + expression_size pointer in
          let j = m + index_size index in
          let n = j + expression_size e in
          let slot = p.scratch in
          let cell = erased.Through pointer index offset checks in
          let last = behind_value slot type cell (Some r) in
          let size = 1 + ended_size width offset checks in
          let front = expression_code slot next pointer in
          let middle = index_code slot m index in
          let before = expression_size pointer + index_size index in
          let at_j : next + before ≡ j = omega arith in
          let whole = subst (λ i. HasAt (code g l).ops next ((front ++ middle) ++ (expression_code slot i e ++ last))) at_j at in
          let parts = has_front (code g l).ops next (front ++ middle) (expression_code slot j e ++ last) whole in
          let back = subst (λ i. HasAt (code g l).ops i (expression_code slot j e ++ last)) at_j (has_back (code g l).ops next (front ++ middle) (expression_code slot j e ++ last) before (length_before slot next cell) whole) in
          let end : n + size ≡ next + (before + (expression_size e + size)) = omega arith in
          affects_at p (n + size) (next + (before + (expression_size e + size))) (effect (setting g) k (erased.Store type cell e (Some r)) s) end
          (leads_on (Aims g l p index j) (FlowsTo g l p (n + size)) (Finishes g) (target_of (setting g) k cell s) _
          (target_runs pointer index offset checks p next s places sized.0 here parts (omega arith) (omega (arith, index_words index e)) (omega arith))
          (λ q t x. leads_on (Arrives g (from g l t) n (index_pile index q.number (word_of g t q.pointer ∷ []))) (FlowsTo g l p (n + size)) (Finishes g) (value (setting g) k e t) _
          (value_runs g k runs e (from g l t) slot places.scratch sized.1 j (index_pile index q.number (word_of g t q.pointer ∷ [])) t (here_from g l j (index_pile index q.number (word_of g t q.pointer ∷ [])) t x.here) (has_front (code g l).ops j (expression_code slot j e) last back) (pile_room index e q.number (word_of g t q.pointer) (code g l).stack (omega arith)) (omega arith))
          (λ v u y.
          let z = pile_both g l index n q.pointer v q.number t u x.here.kept.grows x.kept y in
          let enough = two_words index e (code g l).stack (omega arith) in
          ended_store_runs g l p places type width offset r q.number x.number v u z.top z.here.kept.grows (store_words index e (code g l).stack (omega arith)) (stack_of_offset offset (code g l).stack enough) n checks q.pointer (small_checks slot index checks sized.0.1) z.below z.here
          (has_back (code g l).ops j (expression_code slot j e) last (expression_size e) (length_expression slot j e) back))))
      effect_runs (erased.UpdateLocal char local operator e site) p next s places sized here at room low =
          let n = next + 1 + expression_size e in
          let m = n + 1 + byte_size char in
          let last = operator_code operator site ∷ (byte_code char ++ (ops.Set local ∷ [])) in
          let back = has_back (code g l).ops (next + 1) (expression_code p.scratch (next + 1) e) last (expression_size e) (length_expression p.scratch (next + 1) e) at.1 in
          let end : m + 1 ≡ next + statement_size (erased.UpdateLocal char local operator e site) = omega arith in
          affects_at p (m + 1) (next + statement_size (erased.UpdateLocal char local operator e site)) (effect (setting g) k (erased.UpdateLocal char local operator e site) s) end
          (leads_on (Arrives g l (next + 1) []) (FlowsTo g l p (m + 1)) (Finishes g) (given (slice_get s.locals local) s) _
          (local_runs g l next [] s local (slice_get s.locals local) refl here at.0 (omega arith))
          (λ old t x. leads_on (Arrives g (from g l t) n (word_of g t old ∷ [])) (FlowsTo g l p (m + 1)) (Finishes g) (value (setting g) k e t) _
          (value_runs g k runs e (from g l t) p.scratch places.scratch sized (next + 1) (word_of g t old ∷ []) t (here_from g l (next + 1) (word_of g t old ∷ []) t x.0) (has_front (code g l).ops (next + 1) (expression_code p.scratch (next + 1) e) last at.1) (omega arith) (omega arith))
          (λ v u y.
          let z = both g l n [] old v t u x.0.kept.grows x.1 y in
          combined_runs p n (m + 1) [] u char operator site old v (ops.Set local ∷ []) (set_local local) z back (omega arith)
          (λ new w i. set_runs g l m w p local new i.1 (here_on g l m (word_of g w new ∷ []) u w z.here.kept.grows i.0) (has_back (code g l).ops (n + 1) (byte_code char) (ops.Set local ∷ []) (byte_size char) (length_byte char) back.1).0))))
      effect_runs (erased.Update type cell operator e site None) p next s places sized here at room low = plain_runs type cell operator e site p next s places sized.0 sized.1 here at room low
      effect_runs (erased.Update type (erased.Direct object offset) operator e site (Some r)) p next s places sized here at room low = absurd sized.2
      effect_runs (erased.Update type (erased.Through pointer erased.First offset checks) operator e site (Some r)) p next s places sized here at room low = absurd sized.2
      effect_runs (erased.Update type (erased.Through pointer (erased.Element number width) offset checks) operator e site (Some r)) p next s places sized here at room low =
          ended_runs type pointer number width offset checks operator e site r p next s places sized.0 sized.1 here at room low
      effect_runs (erased.Evaluate e) p next s places sized here at room low =
          operand_runs e ops.Discard (λ _ t. Gives Next t) p next s (λ m v t x op. moved g l m (word_of g t v ∷ []) t ops.Discard (m + 1) [] t x.0 op x.0.kept (λ scratch. refl)) places sized here at room low
      effect_runs (erased.CallAlone callee args) p next s places sized here at room low =
          called_runs g k runs (FlowsTo g l p (next + (arguments_size args + 2))) args callee no_result (arguments_run g k runs args) l p.scratch places.scratch sized next [] s
          (alone_runs (next + (arguments_size args + 2)) p) here at (omega arith) (omega arith) low
      effect_runs (erased.Print e) p next s places sized here at room low = operand_runs e ops.Print printed p next s (λ m v t x. print_runs m t p v x) places sized here at room low
      effect_runs (erased.PutByte e) p next s places sized here at room low = operand_runs e ops.PutByte put p next s (λ m v t x. put_runs m t p v x) places sized here at room low
      effect_runs (erased.Block inner) p next s places sized here at room low = effects_run inner p next s places sized here at room low
      effect_runs (erased.If condition consequent alternative) p next s places sized here at room low =
          let m = next + expression_size condition in
          let inside = m + 1 in
          let other = inside + statement_size consequent + 1 in
          let end = other + statement_size alternative in
          let leap = ops.Jump end ∷ statement_code p other alternative in
          let rest = ops.JumpIfZero other ∷ (statement_code p inside consequent ++ leap) in
          let back = has_back (code g l).ops next (expression_code p.scratch next condition) rest (expression_size condition) (length_expression p.scratch next condition) at in
          let behind = has_back (code g l).ops inside (statement_code p inside consequent) leap (statement_size consequent) (length_statement p inside consequent) back.1 in
          let whole : end ≡ next + statement_size (erased.If condition consequent alternative) = omega arith in
          affects_at p end (next + statement_size (erased.If condition consequent alternative)) (effect (setting g) k (erased.If condition consequent alternative) s) whole
          (leads_on (Arrives g l m []) (FlowsTo g l p end) (Finishes g) (value (setting g) k condition s) _
          (value_runs g k runs condition l p.scratch places.scratch sized.0 next [] s here (has_front (code g l).ops next (expression_code p.scratch next condition) rest at) (omega arith) (omega arith))
          (λ v t x. if_runs p m other end v (truth v) t (effect (setting g) k consequent t) (effect (setting g) k alternative t) refl x back.0 (omega arith)
          (λ h. affects_next p (inside + statement_size consequent) end (effect (setting g) k consequent t)
          (λ u i. jump_runs g l (inside + statement_size consequent) [] [] u (ops.Jump end) end (omega arith) i behind.0 (λ scratch. refl))
          (effect_runs consequent p inside t places sized.1 h (has_front (code g l).ops inside (statement_code p inside consequent) leap back.1) (omega arith) (omega arith)))
          (λ h. effect_runs alternative p other t places sized.2 h behind.1 (omega arith) (omega arith))))
      effect_runs (erased.Loop condition body step) p next s places sized here at room low =
          loop_runs condition body step (effect_runs body) (effect_runs step) p next s places sized at room low
          (jump_runs g l next [] [] s (ops.Jump (test_of next body step)) (test_of next body step) (omega arith) here at.0 (λ scratch. refl))
      effect_runs (erased.Return e) p next s places sized here at room low =
          operand_runs e ops.Return (λ v t. Gives (Returned (Some v)) t) p next s (λ m v t x. return_runs m t v x) places sized here at room low
      effect_runs erased.ReturnNothing p next s places sized here at room low = nothing_runs next s here at.0
      effect_runs erased.Break p next s places sized here at room low = jump_runs g l next [] [] s (ops.Jump p.on_break) p.on_break places.on_break here at.0 (λ scratch. refl)
      effect_runs erased.Continue p next s places sized here at room low = jump_runs g l next [] [] s (ops.Jump p.on_continue) p.on_continue places.on_continue here at.0 (λ scratch. refl)

      pub effects_run : (xs : erased.Statements) (p : Places) (next : ℕ) (s : meaning.State) → ArePlaces g l p → SizedStatements p.scratch xs → Here g l next [] s → HasAt (code g l).ops next (statements_code p next xs) → statements_stack xs ≤ (code g l).stack → next + statements_size xs < length (code g l).ops → Affects g l p (next + statements_size xs) (effects (setting g) k xs s)
      effects_run erased.NoMore p next s places sized here at room low = let e : next ≡ next + 0 = omega arith in here_at g l next (next + 0) [] s e here
      effects_run (erased.Then first others) p next s places sized here at room low =
          let m = next + statement_size first in
          let end : m + statements_size others ≡ next + (statement_size first + statements_size others) = omega arith in
          affects_at p (m + statements_size others) (next + (statement_size first + statements_size others)) (effects (setting g) k (erased.Then first others) s) end
          (affects_on p m (m + statements_size others) (effect (setting g) k first s) (effects (setting g) k others)
          (effect_runs first p next s places sized.0 here (has_front (code g l).ops next (statement_code p next first) (statements_code p m others) at) (omega arith) (omega arith))
          (λ t x. effects_run others p m t places sized.1 x (has_back (code g l).ops next (statement_code p next first) (statements_code p m others) (statement_size first) (length_statement p next first) at) (omega arith) (omega arith)))
