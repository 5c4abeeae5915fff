-- The code of programs keeps the pace: each jump goes forward or to a tick, and to no call, and each call follows a tick.
use Rattle.std.proofs.Common.{◌≡◌, ℕ, zero, suc, ◌+◌, ◌<◌, ◌≤◌, Bool, true, false, List, [], ◌∷◌, ◌++◌, length, Option, Some, None, pos, refl, sym, ap, subst, arith}
use Rattle.std.specs.Prelude.{slice_get, nat_lt, nat_le, not, ◌&&◌}
use Rattle.std.specs.List.{list_all, AllByRecursion}
use Rattle.std.proofs.lemmas.List.{append-nil}
use Rattle.std.proofs.lemmas.Bool.Decides.{nat_tests}
use Rattle.act_words.specs.Numbers.{signed}
use Rattle.pointer_modes.specs.Types.{CType}
use Rattle.ckc_core.specs.declared.program.Site.{Site}
use Rattle.act_words.specs.declared.operator.Operator.{Operator}
use Rattle.act_words.specs.declared.operator.Comparison.{Comparison}
use Rattle.act_words.specs.declared.operator.Comparison.TheVariants as comparisons
use Rattle.ckc_core.specs.declared.program.Direction.{Direction}
use Rattle.ckc_core.specs.declared.program.Direction.TheVariants as directions
use Rattle.ckc_core.specs.declared.program.Terminator.{Terminator}
use Rattle.ckc_core.specs.declared.program.Terminator.TheVariants as terminators
use Rattle.check_insertion.specs.declared.erased.Check.{Check}
use Rattle.check_insertion.specs.declared.erased.Check.TheVariants as checks
use Rattle.check_insertion.specs.declared.erased.Reading.{Reading}
use Rattle.check_insertion.specs.Erased as erased
use Rattle.bounds_exprs.specs.declared.term.Bounds.{Bounds}
use Rattle.ckc_core.specs.Steps.{is_char}
use Rattle.ckc_core.specs.Pointers.{element_size as element_bytes}
use Rattle.code_words.specs.declared.op.Op.{Op}
use Rattle.code_words.specs.declared.op.Op.TheVariants as ops
use Rattle.code_words.specs.Paced.{is_call, target_of, keeps_pace, all_keep_pace, is_paced_function}
use Rattle.code_words.specs.Formats.{element_size, is_sized, is_sized_function}
use Rattle.lowering.specs.Code.{Reach, Still, Onward, Back, Places, reach_to, counted_size, end_constant, pointer_slot, number_slot, operator_code, load_code, store_code, offset_code, offset_size, address_code, base_code, variable_code, bounds_code, number_code, within_code, check_code, checks_code, checks_size, moved_code, through_code, through_size, sum_code, order_op, order_code, index_code, index_size, byte_code, byte_size, expression_size, arguments_size, place_size, before_value_size, statement_size, statements_size, expression_code, arguments_code, place_code, before_value, behind_value, statement_code, statements_code, ending_code, body_places, function_ops, callee_code, allocation_code, term_code, ended_code, twice_code, plain_update, update_code}
use Rattle.lowering.specs.Images.{functions_from}
use Rattle.lowering.specs.Sized.{SizedExpression, SizedArguments, SizedPlace, SizedIndex, SizedStatement, SizedStatements}
use Rattle.lowering.specs.Correct.{IsFunction}
use Rattle.lowering.proofs.Steps.{HasAt, has_front, has_back, has_all}
use Rattle.lowering.proofs.Sizes.{length_offset, length_checks, length_through, length_byte, length_expression, length_arguments, length_place, length_index, length_before, length_statement, length_statements}
use Rattle.lowering.proofs.Calm.{named, IsCalm, calm_operator, callee_no_jump, calm_order, allocation_free, calm_load, calm_store, first_true, second_true, either, no_call_in}

module _ (all : List Op) where
  -- no call stands at this place, so that jumps may go there
  record IsTarget (place : ℕ) : Type 0 where
    free : no_call_in (slice_get all place) ≡ true

  -- an instruction keeps the pace, and elements that it counts have a size
  abbrev keeps : ℕ → Op → Bool
  keeps at op = keeps_pace all at op && is_sized op

  -- so does each of these instructions, which stand at this place
  abbrev AllKeep : ℕ → List Op → Type 0
  AllKeep at [] = Unit {0}
  AllKeep at (op ∷ rest) = (keeps at op ≡ true) × AllKeep (at + 1) rest

  target_there : (place : ℕ) (op : Op) → is_call op ≡ false → slice_get all place ≡ Some op → IsTarget place
  target_there place op free there = record { free = rw (there, free) refl }

  target_same : (m n : ℕ) → m ≡ n → IsTarget m → IsTarget n
  target_same m n same t = subst IsTarget same t

  calm_keeps : (place : ℕ) (op : Op) → IsCalm op → keeps place op ≡ true
  calm_keeps place op calm =
      let jump : target_of op ≡ None = ap (λ n. n.0) calm.no_jump in
      let size : element_size op ≡ None = ap (λ n. n.1) calm.no_jump in
      rw (jump, calm.no_call, size) refl

  -- a jump forward
  forward_by : (op : Op) (place target : ℕ) (there : Option Op) → named op ≡ (Some target, None) → is_call op ≡ false → place < target → slice_get all target ≡ there → no_call_in there ≡ true → keeps place op ≡ true
  forward_by op place target None names free lt is t =
      let jump : target_of op ≡ Some target = ap (λ n. n.0) names in
      let size : element_size op ≡ None = ap (λ n. n.1) names in
      rw (jump, free, size, is) refl
  forward_by op place target (Some other) names free lt is t =
      let jump : target_of op ≡ Some target = ap (λ n. n.0) names in
      let size : element_size op ≡ None = ap (λ n. n.1) names in
      let test : nat_lt place target ≡ true = grind (arith, nat_tests) in
      rw (jump, free, size, is, test) (rw t refl)

  forward : (place target : ℕ) → place < target → IsTarget target → keeps place (ops.Jump target) ≡ true
  forward place target lt t = forward_by (ops.Jump target) place target (slice_get all target) refl refl lt refl t.free

  forward_if_zero : (place target : ℕ) → place < target → IsTarget target → keeps place (ops.JumpIfZero target) ≡ true
  forward_if_zero place target lt t = forward_by (ops.JumpIfZero target) place target (slice_get all target) refl refl lt refl t.free

  -- a jump to a tick
  to_tick : (place target : ℕ) → slice_get all target ≡ Some ops.Tick → keeps place (ops.Jump target) ≡ true
  to_tick place target is = rw is (rw (either (nat_lt place target)) refl)

  -- a call behind its tick
  call_keeps : (place : ℕ) (op : Op) → named op ≡ (None, None) → slice_get all place ≡ Some ops.Tick → keeps (suc place) op ≡ true
  call_keeps place op names is =
      let jump : target_of op ≡ None = ap (λ n. n.0) names in
      let size : element_size op ≡ None = ap (λ n. n.1) names in
      rw (jump, size, is) (rw (either (not (is_call op))) refl)

  -- a part, and what follows it
  joined : (at n : ℕ) (a b : List Op) → length a ≡ n → AllKeep at a → AllKeep (at + n) b → AllKeep at (a ++ b)
  joined at n [] b long here rest = let same : at + n ≡ at = omega arith in subst (λ k. AllKeep k b) same rest
  joined at n (op ∷ a) b long here rest =
      let same : at + n ≡ at + 1 + length a = omega arith in
      (here.0, joined (at + 1) (length a) a b refl here.1 (subst (λ k. AllKeep k b) same rest))

  keep_pace : (at : ℕ) (code : List Op) → AllKeep at code → all_keep_pace all at code ≡ true
  keep_pace at [] here = refl
  keep_pace at (op ∷ rest) here =
      let next : at + 1 ≡ suc at = omega arith in
      rw (first_true (keeps_pace all at op) (is_sized op) here.0) (keep_pace (suc at) rest (subst (λ k. AllKeep k rest) next here.1))

  are_sized : (at : ℕ) (code : List Op) → AllKeep at code → list_all is_sized code ≡ true
  are_sized at [] here = refl
  are_sized at (op ∷ rest) here = rw (second_true (keeps_pace all at op) (is_sized op) here.0) (are_sized (at + 1) rest here.1)

  -- a part, and an instruction behind it
  with_op : (at n : ℕ) (a : List Op) (op : Op) → length a ≡ n → IsCalm op → HasAt all at (a ++ op ∷ []) → (IsTarget (at + n) → AllKeep at a) → AllKeep at (a ++ op ∷ [])
  with_op at n a op long calm has here =
      let there = has_back all at a (op ∷ []) n long has in
      joined at n a (op ∷ []) long (here (target_there (at + n) op calm.no_call there.0)) (calm_keeps (at + n) op calm, tt)

  offset_keeps : (at offset : ℕ) → AllKeep at (offset_code offset)
  offset_keeps at zero = tt
  offset_keeps at (suc n) = (refl, (refl, tt))

  -- an instruction that keeps the pace wherever it stands
  abbrev IsSteady : Op → Type 0
  IsSteady op = (at : ℕ) → keeps at op ≡ true

  abbrev AreSteady : List Op → Type 0
  AreSteady [] = Unit {0}
  AreSteady (op ∷ rest) = IsSteady op × AreSteady rest

  steady_keeps : (at : ℕ) (code : List Op) → AreSteady code → AllKeep at code
  steady_keeps at [] steady = tt
  steady_keeps at (op ∷ rest) steady = (steady.0 at, steady_keeps (at + 1) rest steady.1)

  steady_both : (a b : List Op) → AreSteady a → AreSteady b → AreSteady (a ++ b)
  steady_both [] b first second = second
  steady_both (op ∷ a) b first second = (first.0, steady_both a b first.1 second)

  base_steady : (slot : ℕ) (o : Option ℕ) → IsSteady (base_code slot o)
  base_steady slot None = λ at. refl
  base_steady slot (Some q) = λ at. refl

  variable_steady : (o : Option ℕ) → IsSteady (variable_code o)
  variable_steady None = λ at. refl
  variable_steady (Some x) = λ at. refl

  bounds_steady : (slot : ℕ) (b : Bounds) → AreSteady (bounds_code slot b)
  bounds_steady slot b = (base_steady slot b.base, (variable_steady b.lo.var, (variable_steady b.hi.var, tt)))

  number_steady : (slot : ℕ) (r : Reach) → AreSteady (number_code slot r)
  number_steady slot (Still size) = ((λ at. refl), tt)
  number_steady slot (Onward size) = ((λ at. refl), tt)
  number_steady slot (Back size) = ((λ at. refl), ((λ at. refl), tt))

  within_steady : (slot : ℕ) (r : Reach) (b : Bounds) → AreSteady (within_code slot r b)
  within_steady slot r b = ((λ at. refl), ((λ at. refl), ((λ at. refl), steady_both (number_code slot r) (bounds_code slot b) (number_steady slot r) (bounds_steady slot b))))

  check_steady : (slot : ℕ) (r : Reach) (c : Check) → 1 ≤ counted_size r → AreSteady (check_code slot r c)
  check_steady slot r (checks.NotNull site) some = ((λ at. refl), tt)
  check_steady slot r (checks.Below x) some =
      let sized : nat_le 1 (counted_size r) ≡ true = grind (arith, nat_tests) in
      steady_both (within_code slot r x.bounds) (ops.In (end_constant r x.bounds.lo) (end_constant r x.bounds.hi) (counted_size r) x.site.place ∷ []) (within_steady slot r x.bounds) ((λ at. sized), tt)
  check_steady slot r (checks.UpTo x) some =
      let sized : nat_le 1 (counted_size r) ≡ true = grind (arith, nat_tests) in
      steady_both (within_code slot r x.bounds) (ops.UpTo (end_constant r x.bounds.lo) (end_constant r x.bounds.hi) (counted_size r) x.site.place ∷ []) (within_steady slot r x.bounds) ((λ at. sized), tt)
  check_steady slot r (checks.Contains old new) some =
      let sized : nat_le 1 (counted_size r) ≡ true = grind (arith, nat_tests) in
      let last = ops.Contain old.bounds.lo.plus old.bounds.hi.plus new.bounds.lo.plus new.bounds.hi.plus (counted_size r) new.site.place ∷ [] in
      ((λ at. refl), ((λ at. refl), steady_both (bounds_code slot old.bounds) (bounds_code slot new.bounds ++ last) (bounds_steady slot old.bounds) (steady_both (bounds_code slot new.bounds) last (bounds_steady slot new.bounds) ((λ at. sized), tt))))

  checks_steady : (slot : ℕ) (r : Reach) (cs : List Check) → 1 ≤ counted_size r → AreSteady (checks_code slot r cs)
  checks_steady slot r [] some = tt
  checks_steady slot r (c ∷ cs) some = steady_both (check_code slot r c) (checks_code slot r cs) (check_steady slot r c some) (checks_steady slot r cs some)

  moved_steady : (slot : ℕ) (direction : Direction) (size : ℕ) → 1 ≤ size → AreSteady (moved_code slot direction size)
  moved_steady slot directions.Forward size some = let sized : nat_le 1 size ≡ true = grind (arith, nat_tests) in ((λ at. refl), ((λ at. sized), tt))
  moved_steady slot directions.Backward size some = let sized : nat_le 1 size ≡ true = grind (arith, nat_tests) in ((λ at. refl), ((λ at. refl), ((λ at. sized), tt)))

  offset_steady : (offset : ℕ) → AreSteady (offset_code offset)
  offset_steady zero = tt
  offset_steady (suc n) = ((λ at. refl), ((λ at. refl), tt))

  through_steady : (slot : ℕ) (index : erased.Index) (offset : ℕ) (cs : List Check) → SizedIndex slot index cs → AreSteady (through_code slot index offset cs)
  through_steady slot erased.First offset cs sized = steady_both (checks_code slot (Still 1) cs) (offset_code offset) (checks_steady slot (Still 1) cs (omega arith)) (offset_steady offset)
  through_steady slot (erased.Element number size) offset cs sized = (
    (λ at. refl),
    steady_both (checks_code slot (Onward size) cs) (moved_code slot directions.Forward size ++ offset_code offset) (checks_steady slot (Onward size) cs sized.1)
        (steady_both (moved_code slot directions.Forward size) (offset_code offset) (moved_steady slot directions.Forward size sized.1) (offset_steady offset)),
  )

  through_keeps : (slot at : ℕ) (index : erased.Index) (offset : ℕ) (cs : List Check) → SizedIndex slot index cs → AllKeep at (through_code slot index offset cs)
  through_keeps slot at index offset cs sized = steady_keeps at (through_code slot index offset cs) (through_steady slot index offset cs sized)

  allocation_keeps : (at : ℕ) (terminator : Terminator) (size : ℕ) → 1 ≤ size → keeps at (allocation_code terminator size) ≡ true
  allocation_keeps at terminators.Absent size some = grind (arith, nat_tests, some)
  allocation_keeps at terminators.Last size some = grind (arith, nat_tests, some)
  allocation_keeps at terminators.Behind size some = grind (arith, nat_tests, some)

  -- the value goes to a cell
  stored_steady : (slot : ℕ) (type : CType) → AreSteady (ops.Local slot ∷ store_code type ∷ [])
  stored_steady slot type = ((λ at. refl), ((λ at. calm_keeps at (store_code type) (calm_store (is_char type))), tt))

  term_steady : (slot size : ℕ) (r : Reading) → 1 ≤ size → AreSteady (term_code slot size r)
  term_steady slot size r some =
      let sized : nat_le 1 size ≡ true = grind (arith, nat_tests, some) in
      ((λ at. refl), ((λ at. refl), ((λ at. refl), ((λ at. refl), (base_steady slot r.bounds.base, (variable_steady r.bounds.hi.var, ((λ at. refl), ((λ at. sized), tt))))))))

  ended_steady : (slot : ℕ) (type : CType) (size offset : ℕ) (cs : List Check) (r : Reading) → 1 ≤ size → AreSteady (ended_code slot type size offset cs r)
  ended_steady slot type size offset cs r some =
      let last = ops.Local slot ∷ store_code type ∷ [] in
      let moved = moved_code slot directions.Forward size in (
        (λ at. refl),
        steady_both (checks_code slot (Onward size) cs) (term_code slot size r ++ (moved ++ (offset_code offset ++ last))) (checks_steady slot (Onward size) cs some)
            (steady_both (term_code slot size r) (moved ++ (offset_code offset ++ last)) (term_steady slot size r some)
            (steady_both moved (offset_code offset ++ last) (moved_steady slot directions.Forward size some) (steady_both (offset_code offset) last (offset_steady offset) (stored_steady slot type)))),
      )

  twice_steady : (slot : ℕ) → AreSteady (twice_code slot)
  twice_steady slot = ((λ at. refl), ((λ at. refl), ((λ at. refl), ((λ at. refl), ((λ at. refl), ((λ at. refl), tt))))))

  reach_sized : (direction : Direction) (size : ℕ) → 1 ≤ size → 1 ≤ counted_size (reach_to direction size)
  reach_sized directions.Forward size some = some
  reach_sized directions.Backward size some = some

  sum_steady : (slot : ℕ) (direction : Direction) (size : ℕ) (cs : List Check) → 1 ≤ size → AreSteady (sum_code slot direction size cs)
  sum_steady slot direction size cs some =
      ((λ at. refl), steady_both (checks_code slot (reach_to direction size) cs) (moved_code slot direction size) (checks_steady slot (reach_to direction size) cs (reach_sized direction size some)) (moved_steady slot direction size some))

  order_steady : (slot : ℕ) (comparison : Comparison) (cs ds : List Check) → AreSteady (order_code slot comparison cs ds)
  order_steady slot comparison cs ds =
      let r = Still 1 in (
        (λ at. refl),
        steady_both (checks_code slot r cs) (ops.Local (number_slot slot) ∷ (checks_code slot r ds ++ order_op comparison ∷ [])) (checks_steady slot r cs (omega arith))
            ((λ at. refl), steady_both (checks_code slot r ds) (order_op comparison ∷ []) (checks_steady slot r ds (omega arith)) ((λ at. calm_keeps at (order_op comparison) (calm_order comparison)), tt)),
      )

  byte_keeps : (at : ℕ) (char : Bool) → AllKeep at (byte_code char)
  byte_keeps at true = (refl, tt)
  byte_keeps at false = tt

  -- a call behind its arguments
  called : (at n : ℕ) (a : List Op) (op : Op) → length a ≡ n → named op ≡ (None, None) → HasAt all at (a ++ ops.Tick ∷ op ∷ []) → (IsTarget (at + n) → AllKeep at a) → AllKeep at (a ++ ops.Tick ∷ op ∷ [])
  called at n a op long no_jump has here =
      let there = has_back all at a (ops.Tick ∷ op ∷ []) n long has in
      let next : suc (at + n) ≡ at + n + 1 = omega arith in
      joined at n a (ops.Tick ∷ op ∷ []) long (here (target_there (at + n) ops.Tick refl there.0))
      (refl, (subst (λ k. keeps k op ≡ true) next (call_keeps (at + n) op no_jump there.0), tt))

  -- ---- where the code of a part begins, no call stands

  mutual
    starts_expression : (slot at : ℕ) (e : erased.Expression) → HasAt all at (expression_code slot at e) → IsTarget at
    starts_expression slot at (erased.Number z) has = target_there at (ops.Const z) refl has.0
    starts_expression slot at erased.Null has = target_there at (ops.Const (pos 0)) refl has.0
    starts_expression slot at (erased.Local k) has = target_there at (ops.Local k) refl has.0
    starts_expression slot at (erased.Load type p) has = starts_place slot at p (has_front all at (place_code slot at p) (load_code type ∷ []) has)
    starts_expression slot at (erased.AddressOf p) has = starts_place slot at p has
    starts_expression slot at (erased.Negate operand site) has = starts_expression slot at operand (has_front all at (expression_code slot at operand) (ops.Neg site.place ∷ []) has)
    starts_expression slot at (erased.Complement operand) has = starts_expression slot at operand (has_front all at (expression_code slot at operand) (ops.Not ∷ []) has)
    starts_expression slot at (erased.Not operand) has = starts_expression slot at operand (has_front all at (expression_code slot at operand) (ops.Zero ∷ []) has)
    starts_expression slot at (erased.Arithmetic operator left right site) has =
        starts_expression slot at left (has_front all at (expression_code slot at left) (expression_code slot (at + expression_size left) right ++ operator_code operator site ∷ []) has)
    starts_expression slot at (erased.Compare comparison left right) has =
        starts_expression slot at left (has_front all at (expression_code slot at left) (expression_code slot (at + expression_size left) right ++ ops.Compare comparison ∷ []) has)
    starts_expression slot at (erased.Same left right) has =
        starts_expression slot at left (has_front all at (expression_code slot at left) (expression_code slot (at + expression_size left) right ++ ops.Compare comparisons.Equal ∷ []) has)
    starts_expression slot at (erased.AndAlso left right) has =
        starts_expression slot at left (has_front all at (expression_code slot at left) (ops.JumpIfZero (at + expression_size left + 1 + expression_size right + 3) ∷ (expression_code slot (at + expression_size left + 1) right ++ ops.Zero ∷ ops.Zero ∷ ops.Jump (at + expression_size left + 1 + expression_size right + 4) ∷ ops.Const (pos 0) ∷ [])) has)
    starts_expression slot at (erased.OrElse left right) has =
        starts_expression slot at left (has_front all at (expression_code slot at left) (ops.JumpIfZero (at + expression_size left + 3) ∷ ops.Const (pos 1) ∷ ops.Jump (at + expression_size left + 3 + expression_size right + 2) ∷ (expression_code slot (at + expression_size left + 3) right ++ ops.Zero ∷ ops.Zero ∷ [])) has)
    starts_expression slot at (erased.LowByte operand) has = starts_expression slot at operand (has_front all at (expression_code slot at operand) (ops.Byte ∷ []) has)
    starts_expression slot at (erased.Call callee arguments) has =
        let there = has_back all at (arguments_code slot at arguments) (ops.Tick ∷ callee_code callee ∷ []) (arguments_size arguments) (length_arguments slot at arguments) has in
        starts_arguments slot at arguments (has_front all at (arguments_code slot at arguments) (ops.Tick ∷ callee_code callee ∷ []) has) (target_there (at + arguments_size arguments) ops.Tick refl there.0)
    starts_expression slot at erased.NextInput has = target_there at ops.NextInput refl has.0
    starts_expression slot at (erased.Sum pointer direction number size cs) has =
        starts_expression slot at pointer (has_front all at (expression_code slot at pointer) (expression_code slot (at + expression_size pointer) number ++ sum_code slot direction size cs) has)
    starts_expression slot at (erased.Order comparison left left_checks right right_checks) has =
        starts_expression slot at left (has_front all at (expression_code slot at left) (expression_code slot (at + expression_size left) right ++ order_code slot comparison left_checks right_checks) has)
    starts_expression slot at (erased.Allocate count element terminator) has = starts_expression slot at count (has_front all at (expression_code slot at count) (allocation_code terminator (element_bytes element) ∷ []) has)
    starts_expression slot at (erased.Length pointer size cs) has = starts_expression slot at pointer (has_front all at (expression_code slot at pointer) (checks_code slot (Still size) cs ++ ops.TextLength ∷ []) has)
    starts_expression slot at (erased.Cast pointer size cs) has = starts_expression slot at pointer (has_front all at (expression_code slot at pointer) (checks_code slot (Still size) cs) has)

    starts_arguments : (slot at : ℕ) (arguments : erased.Arguments) → HasAt all at (arguments_code slot at arguments) → IsTarget (at + arguments_size arguments) → IsTarget at
    starts_arguments slot at erased.Done has end = target_same (at + 0) at (omega arith) end
    starts_arguments slot at (erased.More first rest) has end = starts_expression slot at first (has_front all at (expression_code slot at first) (arguments_code slot (at + expression_size first) rest) has)

    starts_place : (slot at : ℕ) (p : erased.Place) → HasAt all at (place_code slot at p) → IsTarget at
    starts_place slot at (erased.Direct object offset) has = target_there at (ops.BlockAddress object) refl has.0
    starts_place slot at (erased.Through pointer index offset cs) has =
        starts_expression slot at pointer (has_front all at (expression_code slot at pointer) (index_code slot (at + expression_size pointer) index ++ through_code slot index offset cs) has)

  starts_offset : (at offset : ℕ) → HasAt all at (offset_code offset) → IsTarget (at + offset_size offset) → IsTarget at
  starts_offset at zero has end = target_same (at + 0) at (omega arith) end
  starts_offset at (suc n) has end = target_there at (ops.Const (signed (suc n))) refl has.0

  starts_check : (slot at : ℕ) (r : Reach) (c : Check) → HasAt all at (check_code slot r c) → IsTarget at
  starts_check slot at r (checks.NotNull site) has = target_there at (ops.NonNull site.place) refl has.0
  starts_check slot at r (checks.Below x) has = target_there at (ops.Set (pointer_slot slot)) refl has.0
  starts_check slot at r (checks.UpTo x) has = target_there at (ops.Set (pointer_slot slot)) refl has.0
  starts_check slot at r (checks.Contains old new) has = target_there at (ops.Set (pointer_slot slot)) refl has.0

  starts_checks : (slot at : ℕ) (r : Reach) (cs : List Check) → HasAt all at (checks_code slot r cs) → IsTarget (at + checks_size r cs) → IsTarget at
  starts_checks slot at r [] has end = target_same (at + 0) at (omega arith) end
  starts_checks slot at r (c ∷ cs) has end = starts_check slot at r c (has_front all at (check_code slot r c) (checks_code slot r cs) has)

  starts_through : (slot at : ℕ) (index : erased.Index) (offset : ℕ) (cs : List Check) → HasAt all at (through_code slot index offset cs) → IsTarget (at + through_size index offset cs) → IsTarget at
  starts_through slot at erased.First offset cs has end =
      let n = checks_size (Still 1) cs in
      let back = has_back all at (checks_code slot (Still 1) cs) (offset_code offset) n (length_checks slot (Still 1) cs) has in
      starts_checks slot at (Still 1) cs (has_front all at (checks_code slot (Still 1) cs) (offset_code offset) has)
      (starts_offset (at + n) offset back (target_same (at + (n + offset_size offset)) (at + n + offset_size offset) (omega arith) end))
  starts_through slot at (erased.Element number size) offset cs has end = target_there at (ops.Set (number_slot slot)) refl has.0

  -- the number of an element, and what follows it
  starts_index : (slot at : ℕ) (index : erased.Index) (rest : List Op) → HasAt all at (index_code slot at index ++ rest) → IsTarget (at + index_size index) → IsTarget at
  starts_index slot at erased.First rest has end = target_same (at + 0) at (omega arith) end
  starts_index slot at (erased.Element number size) rest has end = starts_expression slot at number (has_front all at (expression_code slot at number) rest has)

  starts_before_value : (slot at : ℕ) (p : erased.Place) → HasAt all at (before_value slot at p) → IsTarget at
  starts_before_value slot at (erased.Direct object offset) has = target_there at (ops.BlockAddress object) refl has.0
  starts_before_value slot at (erased.Through pointer index offset cs) has =
      starts_expression slot at pointer (has_front all at (expression_code slot at pointer) (index_code slot (at + expression_size pointer) index) has)

  starts_plain : (slot at : ℕ) (type : CType) (cell : erased.Place) (operator : Operator) (value : erased.Expression) (site : Site) → HasAt all at (plain_update slot at type cell operator value site) → IsTarget at
  starts_plain slot at type cell operator value site has =
      starts_place slot at cell (has_front all at (place_code slot at cell) (ops.Duplicate ∷ load_code type ∷ (expression_code slot (at + place_size cell + 2) value ++ operator_code operator site ∷ (byte_code (is_char type) ++ store_code type ∷ []))) has)

  starts_update : (slot at : ℕ) (type : CType) (cell : erased.Place) (operator : Operator) (value : erased.Expression) (site : Site) (kept : Option Reading) → HasAt all at (update_code slot at type cell operator value site kept) → IsTarget at
  starts_update slot at type cell operator value site None has = starts_plain slot at type cell operator value site has
  starts_update slot at type (erased.Direct object offset) operator value site (Some r) has = starts_plain slot at type (erased.Direct object offset) operator value site has
  starts_update slot at type (erased.Through pointer erased.First offset cs) operator value site (Some r) has = starts_plain slot at type (erased.Through pointer erased.First offset cs) operator value site has
  starts_update slot at type (erased.Through pointer (erased.Element number size) offset cs) operator value site (Some r) has =
      let index = erased.Element number size in
      let cell = erased.Through pointer index offset cs in
      let value_at = at + (expression_size pointer + expression_size number) + 6 + through_size index offset cs + 1 in
      starts_before_value slot at cell (has_front all at (before_value slot at cell) (twice_code slot ++ (through_code slot index offset cs ++ load_code type ∷ (expression_code slot value_at value ++ operator_code operator site ∷ (byte_code (is_char type) ++ ops.Set slot ∷ ended_code slot type size offset [] r)))) has)

  mutual
    starts_statement : (p : Places) (at : ℕ) (x : erased.Statement) → HasAt all at (statement_code p at x) → IsTarget (at + statement_size x) → IsTarget at
    starts_statement p at erased.Nothing has end = target_same (at + 0) at (omega arith) end
    starts_statement p at (erased.SetLocal local value) has end = starts_expression p.scratch at value (has_front all at (expression_code p.scratch at value) (ops.Set local ∷ []) has)
    starts_statement p at (erased.Store type cell value kept) has end =
        starts_before_value p.scratch at cell (has_front all at (before_value p.scratch at cell) (expression_code p.scratch (at + before_value_size cell) value ++ behind_value p.scratch type cell kept) has)
    starts_statement p at (erased.UpdateLocal char local operator value site) has end = target_there at (ops.Local local) refl has.0
    starts_statement p at (erased.Update type cell operator value site kept) has end = starts_update p.scratch at type cell operator value site kept has
    starts_statement p at (erased.Evaluate value) has end = starts_expression p.scratch at value (has_front all at (expression_code p.scratch at value) (ops.Discard ∷ []) has)
    starts_statement p at (erased.CallAlone callee arguments) has end =
        let there = has_back all at (arguments_code p.scratch at arguments) (ops.Tick ∷ callee_code callee ∷ []) (arguments_size arguments) (length_arguments p.scratch at arguments) has in
        starts_arguments p.scratch at arguments (has_front all at (arguments_code p.scratch at arguments) (ops.Tick ∷ callee_code callee ∷ []) has) (target_there (at + arguments_size arguments) ops.Tick refl there.0)
    starts_statement p at (erased.Print number) has end = starts_expression p.scratch at number (has_front all at (expression_code p.scratch at number) (ops.Print ∷ []) has)
    starts_statement p at (erased.PutByte number) has end = starts_expression p.scratch at number (has_front all at (expression_code p.scratch at number) (ops.PutByte ∷ []) has)
    starts_statement p at (erased.Block inner) has end = starts_statements p at inner has end
    starts_statement p at (erased.If condition consequent alternative) has end =
        let inside = at + expression_size condition + 1 in
        let other = inside + statement_size consequent + 1 in
        starts_expression p.scratch at condition (has_front all at (expression_code p.scratch at condition) (ops.JumpIfZero other ∷ (statement_code p inside consequent ++ ops.Jump (other + statement_size alternative) ∷ statement_code p other alternative)) has)
    starts_statement p at (erased.Loop condition body step) has end = target_there at (ops.Jump (at + 2 + statement_size body + statement_size step)) refl has.0
    starts_statement p at (erased.Return value) has end = starts_expression p.scratch at value (has_front all at (expression_code p.scratch at value) (ops.Return ∷ []) has)
    starts_statement p at erased.ReturnNothing has end = target_there at ops.ReturnNothing refl has.0
    starts_statement p at erased.Break has end = target_there at (ops.Jump p.on_break) refl has.0
    starts_statement p at erased.Continue has end = target_there at (ops.Jump p.on_continue) refl has.0

    starts_statements : (p : Places) (at : ℕ) (xs : erased.Statements) → HasAt all at (statements_code p at xs) → IsTarget (at + statements_size xs) → IsTarget at
    starts_statements p at erased.NoMore has end = target_same (at + 0) at (omega arith) end
    starts_statements p at (erased.Then first others) has end =
        let m = at + statement_size first in
        let there = has_back all at (statement_code p at first) (statements_code p m others) (statement_size first) (length_statement p at first) has in
        starts_statement p at first (has_front all at (statement_code p at first) (statements_code p m others) has)
        (starts_statements p m others there (target_same (at + (statement_size first + statements_size others)) (m + statements_size others) (omega arith) end))

  -- ---- each part keeps the pace

  -- what is shown of an expression's code
  abbrev KeepsPace : ℕ → ℕ → erased.Expression → Type 0
  KeepsPace slot at e = SizedExpression slot e → HasAt all at (expression_code slot at e) → IsTarget (at + expression_size e) → AllKeep at (expression_code slot at e)

  expression_with : (slot at : ℕ) (e : erased.Expression) (op : Op) → IsCalm op → SizedExpression slot e → HasAt all at (expression_code slot at e ++ op ∷ []) → KeepsPace slot at e → AllKeep at (expression_code slot at e ++ op ∷ [])
  expression_with slot at e op calm sized has here =
      with_op at (expression_size e) (expression_code slot at e) op (length_expression slot at e) calm has (here sized (has_front all at (expression_code slot at e) (op ∷ []) has))

  two_with : (slot at : ℕ) (left right : erased.Expression) (op : Op) → IsCalm op → SizedExpression slot left × SizedExpression slot right → HasAt all at (expression_code slot at left ++ (expression_code slot (at + expression_size left) right ++ op ∷ [])) → KeepsPace slot at left → KeepsPace slot (at + expression_size left) right → AllKeep at (expression_code slot at left ++ (expression_code slot (at + expression_size left) right ++ op ∷ []))
  two_with slot at left right op calm sized has first second =
      let m = at + expression_size left in
      let rest = expression_code slot m right ++ op ∷ [] in
      let back = has_back all at (expression_code slot at left) rest (expression_size left) (length_expression slot at left) has in
      joined at (expression_size left) (expression_code slot at left) rest (length_expression slot at left)
      (first sized.0 (has_front all at (expression_code slot at left) rest has) (starts_expression slot m right (has_front all m (expression_code slot m right) (op ∷ []) back)))
      (expression_with slot m right op calm sized.1 back second)

  -- two operands, and instructions that are steady
  steady_with : (slot at : ℕ) (left right : erased.Expression) (last : List Op) → AreSteady last → SizedExpression slot left → SizedExpression slot right → HasAt all at (expression_code slot at left ++ (expression_code slot (at + expression_size left) right ++ last)) → IsTarget (at + expression_size left + expression_size right) → KeepsPace slot at left → KeepsPace slot (at + expression_size left) right → AllKeep at (expression_code slot at left ++ (expression_code slot (at + expression_size left) right ++ last))
  steady_with slot at left right last steady sized sized' has behind first second =
      let m = at + expression_size left in
      let rest = expression_code slot m right ++ last in
      let back = has_back all at (expression_code slot at left) rest (expression_size left) (length_expression slot at left) has in
      let front = has_front all m (expression_code slot m right) last back in
      joined at (expression_size left) (expression_code slot at left) rest (length_expression slot at left)
      (first sized (has_front all at (expression_code slot at left) rest has) (starts_expression slot m right front))
      (joined m (expression_size right) (expression_code slot m right) last (length_expression slot m right) (second sized' front behind) (steady_keeps (m + expression_size right) last steady))

  mutual
    paced_expression : (slot at : ℕ) (e : erased.Expression) → SizedExpression slot e → HasAt all at (expression_code slot at e) → IsTarget (at + expression_size e) → AllKeep at (expression_code slot at e)
    paced_expression slot at (erased.Number z) sized has end = (refl, tt)
    paced_expression slot at erased.Null sized has end = (refl, tt)
    paced_expression slot at (erased.Local k) sized has end = (refl, tt)
    paced_expression slot at (erased.Load type p) sized has end =
        with_op at (place_size p) (place_code slot at p) (load_code type) (length_place slot at p) (calm_load (is_char type)) has (paced_place slot at p sized (has_front all at (place_code slot at p) (load_code type ∷ []) has))
    paced_expression slot at (erased.AddressOf p) sized has end = paced_place slot at p sized has end
    paced_expression slot at (erased.Negate operand site) sized has end = expression_with slot at operand (ops.Neg site.place) (record { no_jump = refl; no_call = refl }) sized has (paced_expression slot at operand)
    paced_expression slot at (erased.Complement operand) sized has end = expression_with slot at operand ops.Not (record { no_jump = refl; no_call = refl }) sized has (paced_expression slot at operand)
    paced_expression slot at (erased.Not operand) sized has end = expression_with slot at operand ops.Zero (record { no_jump = refl; no_call = refl }) sized has (paced_expression slot at operand)
    paced_expression slot at (erased.Arithmetic operator left right site) sized has end = two_with slot at left right (operator_code operator site) (calm_operator operator site) sized has (paced_expression slot at left) (paced_expression slot (at + expression_size left) right)
    paced_expression slot at (erased.Compare comparison left right) sized has end = two_with slot at left right (ops.Compare comparison) (record { no_jump = refl; no_call = refl }) sized has (paced_expression slot at left) (paced_expression slot (at + expression_size left) right)
    paced_expression slot at (erased.Same left right) sized has end = two_with slot at left right (ops.Compare comparisons.Equal) (record { no_jump = refl; no_call = refl }) sized has (paced_expression slot at left) (paced_expression slot (at + expression_size left) right)
    paced_expression slot at (erased.AndAlso left right) sized has end =
        let m = at + expression_size left in
        let n = m + 1 + expression_size right in
        let last = ops.Zero ∷ ops.Zero ∷ ops.Jump (n + 4) ∷ ops.Const (pos 0) ∷ [] in
        let branch = ops.JumpIfZero (n + 3) in
        let inner = expression_code slot (m + 1) right in
        let back = has_back all at (expression_code slot at left) (branch ∷ (inner ++ last)) (expression_size left) (length_expression slot at left) has in
        let behind = has_back all (m + 1) inner last (expression_size right) (length_expression slot (m + 1) right) back.1 in
        let null = target_same (n + 1 + 1 + 1) (n + 3) (omega arith) (target_there (n + 1 + 1 + 1) (ops.Const (pos 0)) refl behind.1.1.1.0) in
        let out = target_same (at + (expression_size left + (expression_size right + 5))) (n + 4) (omega arith) end in
        joined at (expression_size left) (expression_code slot at left) (branch ∷ (inner ++ last)) (length_expression slot at left)
        (paced_expression slot at left sized.0 (has_front all at (expression_code slot at left) (branch ∷ (inner ++ last)) has) (target_there m branch refl back.0)) (
          forward_if_zero m (n + 3) (omega arith) null,
          joined (m + 1) (expression_size right) inner last (length_expression slot (m + 1) right)
              (paced_expression slot (m + 1) right sized.1 (has_front all (m + 1) inner last back.1) (target_there n ops.Zero refl behind.0))
              (refl, (refl, (forward (n + 1 + 1) (n + 4) (omega arith) out, (refl, tt)))),
        )
    paced_expression slot at (erased.OrElse left right) sized has end =
        let m = at + expression_size left in
        let n = m + 3 + expression_size right in
        let last = ops.Zero ∷ ops.Zero ∷ [] in
        let inner = expression_code slot (m + 3) right in
        let rest = ops.JumpIfZero (m + 3) ∷ ops.Const (pos 1) ∷ ops.Jump (n + 2) ∷ (inner ++ last) in
        let back = has_back all at (expression_code slot at left) rest (expression_size left) (length_expression slot at left) has in
        let three : m + 1 + 1 + 1 ≡ m + 3 = omega arith in
        let at_right = subst (λ k. HasAt all k (inner ++ last)) three back.1.1.1 in
        let behind = has_back all (m + 3) inner last (expression_size right) (length_expression slot (m + 3) right) at_right in
        let front = has_front all (m + 3) inner last at_right in
        let out = target_same (at + (expression_size left + (expression_size right + 5))) (n + 2) (omega arith) end in
        let right_keeps = joined (m + 3) (expression_size right) inner last (length_expression slot (m + 3) right)
        (paced_expression slot (m + 3) right sized.1 front (target_there n ops.Zero refl behind.0)) (refl, (refl, tt)) in
        joined at (expression_size left) (expression_code slot at left) rest (length_expression slot at left)
        (paced_expression slot at left sized.0 (has_front all at (expression_code slot at left) rest has) (target_there m (ops.JumpIfZero (m + 3)) refl back.0)) (
          forward_if_zero m (m + 3) (omega arith) (starts_expression slot (m + 3) right front),
          (
            refl,
            (
              forward (m + 1 + 1) (n + 2) (omega arith) out,
              subst (λ k. AllKeep k (inner ++ last)) (sym three) right_keeps,
            ),
          ),
        )
    paced_expression slot at (erased.LowByte operand) sized has end = expression_with slot at operand ops.Byte (record { no_jump = refl; no_call = refl }) sized has (paced_expression slot at operand)
    paced_expression slot at (erased.Call callee arguments) sized has end =
        called at (arguments_size arguments) (arguments_code slot at arguments) (callee_code callee) (length_arguments slot at arguments) (callee_no_jump callee) has (paced_arguments slot at arguments sized (has_front all at (arguments_code slot at arguments) (ops.Tick ∷ callee_code callee ∷ []) has))
    paced_expression slot at erased.NextInput sized has end = (refl, tt)
    paced_expression slot at (erased.Sum pointer direction number size cs) sized has end =
        let m = at + expression_size pointer in
        let last = sum_code slot direction size cs in
        let back = has_back all at (expression_code slot at pointer) (expression_code slot m number ++ last) (expression_size pointer) (length_expression slot at pointer) has in
        let behind = has_back all m (expression_code slot m number) last (expression_size number) (length_expression slot m number) back in
        steady_with slot at pointer number last (sum_steady slot direction size cs sized.2) sized.0 sized.1 has (target_there (m + expression_size number) (ops.Set (number_slot slot)) refl behind.0) (paced_expression slot at pointer) (paced_expression slot m number)
    paced_expression slot at (erased.Order comparison left left_checks right right_checks) sized has end =
        let m = at + expression_size left in
        let last = order_code slot comparison left_checks right_checks in
        let back = has_back all at (expression_code slot at left) (expression_code slot m right ++ last) (expression_size left) (length_expression slot at left) has in
        let behind = has_back all m (expression_code slot m right) last (expression_size right) (length_expression slot m right) back in
        steady_with slot at left right last (order_steady slot comparison left_checks right_checks) sized.0 sized.1 has (target_there (m + expression_size right) (ops.Set (number_slot slot)) refl behind.0) (paced_expression slot at left) (paced_expression slot m right)
    paced_expression slot at (erased.Allocate count element terminator) sized has end =
        let m = at + expression_size count in
        let op = allocation_code terminator (element_bytes element) in
        let back = has_back all at (expression_code slot at count) (op ∷ []) (expression_size count) (length_expression slot at count) has in
        joined at (expression_size count) (expression_code slot at count) (op ∷ []) (length_expression slot at count)
        (paced_expression slot at count sized.0 (has_front all at (expression_code slot at count) (op ∷ []) has) (target_there m op (allocation_free terminator (element_bytes element)) back.0))
        (allocation_keeps m terminator (element_bytes element) sized.1.some, tt)
    paced_expression slot at (erased.Length pointer size cs) sized has end =
        let m = at + expression_size pointer in
        let n = m + checks_size (Still size) cs in
        let last = checks_code slot (Still size) cs ++ ops.TextLength ∷ [] in
        let back = has_back all at (expression_code slot at pointer) last (expression_size pointer) (length_expression slot at pointer) has in
        let behind = has_back all m (checks_code slot (Still size) cs) (ops.TextLength ∷ []) (checks_size (Still size) cs) (length_checks slot (Still size) cs) back in
        joined at (expression_size pointer) (expression_code slot at pointer) last (length_expression slot at pointer)
        (paced_expression slot at pointer sized.0 (has_front all at (expression_code slot at pointer) last has)
        (starts_checks slot m (Still size) cs (has_front all m (checks_code slot (Still size) cs) (ops.TextLength ∷ []) back) (target_there n ops.TextLength refl behind.0)))
        (steady_keeps m last (steady_both (checks_code slot (Still size) cs) (ops.TextLength ∷ []) (checks_steady slot (Still size) cs sized.1) ((λ at. refl), tt)))
    paced_expression slot at (erased.Cast pointer size cs) sized has end =
        let m = at + expression_size pointer in
        let last = checks_code slot (Still size) cs in
        let back = has_back all at (expression_code slot at pointer) last (expression_size pointer) (length_expression slot at pointer) has in
        joined at (expression_size pointer) (expression_code slot at pointer) last (length_expression slot at pointer)
        (paced_expression slot at pointer sized.0 (has_front all at (expression_code slot at pointer) last has)
        (starts_checks slot m (Still size) cs back (target_same (at + (expression_size pointer + checks_size (Still size) cs)) (m + checks_size (Still size) cs) (omega arith) end)))
        (steady_keeps m last (checks_steady slot (Still size) cs sized.1))

    paced_arguments : (slot at : ℕ) (arguments : erased.Arguments) → SizedArguments slot arguments → HasAt all at (arguments_code slot at arguments) → IsTarget (at + arguments_size arguments) → AllKeep at (arguments_code slot at arguments)
    paced_arguments slot at erased.Done sized has end = tt
    paced_arguments slot at (erased.More first rest) sized has end =
        let m = at + expression_size first in
        let back = has_back all at (expression_code slot at first) (arguments_code slot m rest) (expression_size first) (length_expression slot at first) has in
        let out = target_same (at + (expression_size first + arguments_size rest)) (m + arguments_size rest) (omega arith) end in
        joined at (expression_size first) (expression_code slot at first) (arguments_code slot m rest) (length_expression slot at first)
        (paced_expression slot at first sized.0 (has_front all at (expression_code slot at first) (arguments_code slot m rest) has) (starts_arguments slot m rest back out))
        (paced_arguments slot m rest sized.1 back out)

    paced_place : (slot at : ℕ) (p : erased.Place) → SizedPlace slot p → HasAt all at (place_code slot at p) → IsTarget (at + place_size p) → AllKeep at (place_code slot at p)
    paced_place slot at (erased.Direct object offset) sized has end = (refl, offset_keeps (at + 1) offset)
    paced_place slot at (erased.Through pointer index offset cs) sized has end =
        let m = at + expression_size pointer in
        let n = m + index_size index in
        let first = expression_code slot at pointer in
        let second = index_code slot m index in
        let last = through_code slot index offset cs in
        let size = through_size index offset cs in
        let back = has_back all at first (second ++ last) (expression_size pointer) (length_expression slot at pointer) has in
        let behind = has_back all m second last (index_size index) (length_index slot m index) back in
        let out = starts_through slot n index offset cs behind (target_same (at + (expression_size pointer + (index_size index + size))) (n + size) (omega arith) end) in
        joined at (expression_size pointer) first (second ++ last) (length_expression slot at pointer)
        (paced_expression slot at pointer sized.0 (has_front all at first (second ++ last) has) (starts_index slot m index last back out))
        (joined m (index_size index) second last (length_index slot m index)
        (paced_index slot m index cs sized.1 (has_front all m second last back) out)
        (through_keeps slot n index offset cs sized.1))

    paced_index : (slot at : ℕ) (index : erased.Index) (cs : List Check) → SizedIndex slot index cs → HasAt all at (index_code slot at index) → IsTarget (at + index_size index) → AllKeep at (index_code slot at index)
    paced_index slot at erased.First cs sized has end = tt
    paced_index slot at (erased.Element number size) cs sized has end = paced_expression slot at number sized.0 has end

  paced_one : (slot at : ℕ) (e : erased.Expression) (op : Op) → IsCalm op → SizedExpression slot e → HasAt all at (expression_code slot at e ++ op ∷ []) → AllKeep at (expression_code slot at e ++ op ∷ [])
  paced_one slot at e op calm sized has = expression_with slot at e op calm sized has (paced_expression slot at e)

  -- `break` and `continue` go behind a part that ends here
  record LeadOn (p : Places) (end : ℕ) : Type 0 where
    break_behind : end ≤ p.on_break
    break_free : IsTarget p.on_break
    continue_behind : end ≤ p.on_continue
    continue_free : IsTarget p.on_continue

  lead_from : (p : Places) (m n : ℕ) → n ≤ m → LeadOn p m → LeadOn p n
  lead_from p m n le l = record { break_behind = omega (arith, l.break_behind); break_free = l.break_free; continue_behind = omega (arith, l.continue_behind); continue_free = l.continue_free }

  -- a pointer and the number of an element, and what follows them
  paced_before : (slot at : ℕ) (pointer : erased.Expression) (index : erased.Index) (offset : ℕ) (cs : List Check) → SizedPlace slot (erased.Through pointer index offset cs) → HasAt all at (expression_code slot at pointer ++ index_code slot (at + expression_size pointer) index) → IsTarget (at + (expression_size pointer + index_size index)) → AllKeep at (expression_code slot at pointer ++ index_code slot (at + expression_size pointer) index)
  paced_before slot at pointer index offset cs sized has starts =
      let j = at + expression_size pointer in
      let first = expression_code slot at pointer in
      let second = index_code slot j index in
      let at_index = has_back all at first second (expression_size pointer) (length_expression slot at pointer) has in
      let out = target_same (at + (expression_size pointer + index_size index)) (j + index_size index) (omega arith) starts in
      let index_has = subst (λ l. HasAt all j l) (sym (append-nil second)) at_index in
      joined at (expression_size pointer) first second (length_expression slot at pointer)
      (paced_expression slot at pointer sized.0 (has_front all at first second has) (starts_index slot j index [] index_has out))
      (paced_index slot j index cs sized.1 at_index out)

  -- the value of a store through a pointer, and what follows it
  paced_through : (slot at : ℕ) (pointer : erased.Expression) (index : erased.Index) (offset : ℕ) (cs : List Check) (value : erased.Expression) (last : List Op) → AreSteady last → SizedPlace slot (erased.Through pointer index offset cs) → SizedExpression slot value → HasAt all at (before_value slot at (erased.Through pointer index offset cs) ++ (expression_code slot (at + before_value_size (erased.Through pointer index offset cs)) value ++ ops.Set slot ∷ last)) → AllKeep at (before_value slot at (erased.Through pointer index offset cs) ++ (expression_code slot (at + before_value_size (erased.Through pointer index offset cs)) value ++ ops.Set slot ∷ last))
  paced_through slot at pointer index offset cs value last steady sized sized' has =
      let cell = erased.Through pointer index offset cs in
      let before = before_value slot at cell in
      let m = at + before_value_size cell in
      let n = m + expression_size value in
      let kept = ops.Set slot ∷ last in
      let rest = expression_code slot m value ++ kept in
      let back = has_back all at before rest (before_value_size cell) (length_before slot at cell) has in
      let behind = has_back all m (expression_code slot m value) kept (expression_size value) (length_expression slot m value) back in
      let front = has_front all m (expression_code slot m value) kept back in
      joined at (before_value_size cell) before rest (length_before slot at cell)
      (paced_before slot at pointer index offset cs sized (has_front all at before rest has) (starts_expression slot m value front))
      (joined m (expression_size value) (expression_code slot m value) kept (length_expression slot m value)
      (paced_expression slot m value sized' front (target_there n (ops.Set slot) refl behind.0))
      (refl, steady_keeps (n + 1) last steady))

  plainly_steady : (slot : ℕ) (type : CType) (index : erased.Index) (offset : ℕ) (cs : List Check) → SizedIndex slot index cs → AreSteady (through_code slot index offset cs ++ ops.Local slot ∷ store_code type ∷ [])
  plainly_steady slot type index offset cs sized = steady_both (through_code slot index offset cs) (ops.Local slot ∷ store_code type ∷ []) (through_steady slot index offset cs sized) (stored_steady slot type)

  paced_store : (slot at : ℕ) (type : CType) (cell : erased.Place) (value : erased.Expression) (end : Option Reading) → SizedPlace slot cell → SizedExpression slot value → HasAt all at (before_value slot at cell ++ (expression_code slot (at + before_value_size cell) value ++ behind_value slot type cell end)) → AllKeep at (before_value slot at cell ++ (expression_code slot (at + before_value_size cell) value ++ behind_value slot type cell end))
  paced_store slot at type (erased.Direct object offset) value end sized sized' has =
      let m = at + (1 + offset_size offset) in
      let rest = expression_code slot m value ++ store_code type ∷ [] in
      let back = has_back all at (address_code object offset) rest (1 + offset_size offset) (omega (arith, length_offset offset)) has in
      joined at (1 + offset_size offset) (address_code object offset) rest (omega (arith, length_offset offset)) (refl, offset_keeps (at + 1) offset)
      (paced_one slot m value (store_code type) (calm_store (is_char type)) sized' back)
  paced_store slot at type (erased.Through pointer index offset cs) value None sized sized' has =
      paced_through slot at pointer index offset cs value (through_code slot index offset cs ++ ops.Local slot ∷ store_code type ∷ []) (plainly_steady slot type index offset cs sized.1) sized sized' has
  paced_store slot at type (erased.Through pointer erased.First offset cs) value (Some r) sized sized' has =
      paced_through slot at pointer erased.First offset cs value (through_code slot erased.First offset cs ++ ops.Local slot ∷ store_code type ∷ []) (plainly_steady slot type erased.First offset cs sized.1) sized sized' has
  paced_store slot at type (erased.Through pointer (erased.Element number size) offset cs) value (Some r) sized sized' has =
      paced_through slot at pointer (erased.Element number size) offset cs value (ended_code slot type size offset cs r) (ended_steady slot type size offset cs r sized.1.1) sized sized' has

  -- an operator, and where its result goes
  paced_result : (at : ℕ) (operator : Operator) (site : Site) (char : Bool) (keep : Op) → IsCalm keep → AllKeep at (operator_code operator site ∷ (byte_code char ++ keep ∷ []))
  paced_result at operator site char keep calm = (
    calm_keeps at (operator_code operator site) (calm_operator operator site),
    joined (at + 1) (byte_size char) (byte_code char) (keep ∷ []) (length_byte char) (byte_keeps (at + 1) char) (calm_keeps (at + 1 + byte_size char) keep calm, tt),
  )

  paced_operand : (slot at : ℕ) (value : erased.Expression) (operator : Operator) (site : Site) (char : Bool) (keep : Op) → IsCalm keep → SizedExpression slot value → HasAt all at (expression_code slot at value ++ operator_code operator site ∷ (byte_code char ++ keep ∷ [])) → AllKeep at (expression_code slot at value ++ operator_code operator site ∷ (byte_code char ++ keep ∷ []))
  paced_operand slot at value operator site char keep calm sized has =
      let last = operator_code operator site ∷ (byte_code char ++ keep ∷ []) in
      let back = has_back all at (expression_code slot at value) last (expression_size value) (length_expression slot at value) has in
      joined at (expression_size value) (expression_code slot at value) last (length_expression slot at value)
      (paced_expression slot at value sized (has_front all at (expression_code slot at value) last has) (target_there (at + expression_size value) (operator_code operator site) (calm_operator operator site).no_call back.0))
      (paced_result (at + expression_size value) operator site char keep calm)

  paced_plain : (slot at : ℕ) (type : CType) (cell : erased.Place) (operator : Operator) (value : erased.Expression) (site : Site) → SizedPlace slot cell → SizedExpression slot value → HasAt all at (plain_update slot at type cell operator value site) → AllKeep at (plain_update slot at type cell operator value site)
  paced_plain slot at type cell operator value site sized sized' has =
      let m = at + place_size cell in
      let operand = expression_code slot (m + 2) value ++ operator_code operator site ∷ (byte_code (is_char type) ++ store_code type ∷ []) in
      let rest = ops.Duplicate ∷ load_code type ∷ operand in
      let back = has_back all at (place_code slot at cell) rest (place_size cell) (length_place slot at cell) has in
      let two : m + 1 + 1 ≡ m + 2 = omega arith in
      let keeps = paced_operand slot (m + 2) value operator site (is_char type) (store_code type) (calm_store (is_char type)) sized' (subst (λ k. HasAt all k operand) two back.1.1) in
      joined at (place_size cell) (place_code slot at cell) rest (length_place slot at cell)
      (paced_place slot at cell sized (has_front all at (place_code slot at cell) rest has) (target_there m ops.Duplicate refl back.0))
      (refl, (calm_keeps (m + 1) (load_code type) (calm_load (is_char type)), subst (λ k. AllKeep k operand) (sym two) keeps))

  paced_update : (slot at : ℕ) (type : CType) (cell : erased.Place) (operator : Operator) (value : erased.Expression) (site : Site) (end : Option Reading) → SizedPlace slot cell → SizedExpression slot value → HasAt all at (update_code slot at type cell operator value site end) → AllKeep at (update_code slot at type cell operator value site end)
  paced_update slot at type cell operator value site None sized sized' has = paced_plain slot at type cell operator value site sized sized' has
  paced_update slot at type (erased.Direct object offset) operator value site (Some r) sized sized' has = paced_plain slot at type (erased.Direct object offset) operator value site sized sized' has
  paced_update slot at type (erased.Through pointer erased.First offset cs) operator value site (Some r) sized sized' has = paced_plain slot at type (erased.Through pointer erased.First offset cs) operator value site sized sized' has
  paced_update slot at type (erased.Through pointer (erased.Element number size) offset cs) operator value site (Some r) sized sized' has =
      let index = erased.Element number size in
      let cell = erased.Through pointer index offset cs in
      let char = is_char type in
      let ts = through_size index offset cs in
      let before = expression_size pointer + expression_size number in
      let m = at + before in
      let k = m + 6 in
      let kv = k + ts + 1 in
      let n = kv + expression_size value in
      let thr = through_code slot index offset cs in
      let kept = ops.Set slot ∷ ended_code slot type size offset [] r in
      let last = operator_code operator site ∷ (byte_code char ++ kept) in
      let loaded = load_code type ∷ (expression_code slot kv value ++ last) in
      let rest = twice_code slot ++ (thr ++ loaded) in
      let second = has_back all at (before_value slot at cell) rest before (length_before slot at cell) has in
      let third = has_back all m (twice_code slot) (thr ++ loaded) 6 refl second in
      let fourth = has_back all k thr loaded ts (length_through slot index offset cs) third in
      let fifth = has_back all kv (expression_code slot kv value) last (expression_size value) (length_expression slot kv value) fourth.1 in
      joined at before (before_value slot at cell) rest (length_before slot at cell)
      (paced_before slot at pointer index offset cs sized (has_front all at (before_value slot at cell) rest has) (target_there m (ops.Set (number_slot slot)) refl second.0))
      (joined m 6 (twice_code slot) (thr ++ loaded) refl (steady_keeps m (twice_code slot) (twice_steady slot))
      (joined k ts thr loaded (length_through slot index offset cs) (through_keeps slot k index offset cs sized.1) (
        calm_keeps (k + ts) (load_code type) (calm_load char),
        joined kv (expression_size value) (expression_code slot kv value) last (length_expression slot kv value)
            (paced_expression slot kv value sized' (has_front all kv (expression_code slot kv value) last fourth.1) (target_there n (operator_code operator site) (calm_operator operator site).no_call fifth.0)) (
              calm_keeps n (operator_code operator site) (calm_operator operator site),
              joined (n + 1) (byte_size char) (byte_code char) kept (length_byte char) (byte_keeps (n + 1) char)
                  (refl, steady_keeps (n + 1 + byte_size char + 1) (ended_code slot type size offset [] r) (ended_steady slot type size offset [] r sized.1.1)),
            ),
      )))

  mutual
    paced_statement : (p : Places) (at : ℕ) (x : erased.Statement) → SizedStatement p.scratch x → HasAt all at (statement_code p at x) → IsTarget (at + statement_size x) → LeadOn p (at + statement_size x) → AllKeep at (statement_code p at x)
    paced_statement p at erased.Nothing sized has end leads = tt
    paced_statement p at (erased.SetLocal local value) sized has end leads = paced_one p.scratch at value (ops.Set local) (record { no_jump = refl; no_call = refl }) sized has
    paced_statement p at (erased.Store type cell value kept) sized has end leads = paced_store p.scratch at type cell value kept sized.0 sized.1 has
    paced_statement p at (erased.UpdateLocal char local operator value site) sized has end leads = (refl, paced_operand p.scratch (at + 1) value operator site char (ops.Set local) (record { no_jump = refl; no_call = refl }) sized has.1)
    paced_statement p at (erased.Update type cell operator value site kept) sized has end leads = paced_update p.scratch at type cell operator value site kept sized.0 sized.1 has
    paced_statement p at (erased.Evaluate value) sized has end leads = paced_one p.scratch at value ops.Discard (record { no_jump = refl; no_call = refl }) sized has
    paced_statement p at (erased.CallAlone callee arguments) sized has end leads =
        called at (arguments_size arguments) (arguments_code p.scratch at arguments) (callee_code callee) (length_arguments p.scratch at arguments) (callee_no_jump callee) has (paced_arguments p.scratch at arguments sized (has_front all at (arguments_code p.scratch at arguments) (ops.Tick ∷ callee_code callee ∷ []) has))
    paced_statement p at (erased.Print number) sized has end leads = paced_one p.scratch at number ops.Print (record { no_jump = refl; no_call = refl }) sized has
    paced_statement p at (erased.PutByte number) sized has end leads = paced_one p.scratch at number ops.PutByte (record { no_jump = refl; no_call = refl }) sized has
    paced_statement p at (erased.Block inner) sized has end leads = paced_statements p at inner sized has end leads
    paced_statement p at (erased.If condition consequent alternative) sized has end leads =
        let m = at + expression_size condition in
        let inside = m + 1 in
        let turn = inside + statement_size consequent in
        let other = turn + 1 in
        let after = other + statement_size alternative in
        let leap = ops.Jump after ∷ statement_code p other alternative in
        let rest = ops.JumpIfZero other ∷ (statement_code p inside consequent ++ leap) in
        let back = has_back all at (expression_code p.scratch at condition) rest (expression_size condition) (length_expression p.scratch at condition) has in
        let behind = has_back all inside (statement_code p inside consequent) leap (statement_size consequent) (length_statement p inside consequent) back.1 in
        let out = target_same (at + statement_size (erased.If condition consequent alternative)) after (omega arith) end in
        let lead_out = lead_from p (at + statement_size (erased.If condition consequent alternative)) after (omega arith) leads in
        joined at (expression_size condition) (expression_code p.scratch at condition) rest (length_expression p.scratch at condition)
        (paced_expression p.scratch at condition sized.0 (has_front all at (expression_code p.scratch at condition) rest has) (target_there m (ops.JumpIfZero other) refl back.0)) (
          forward_if_zero m other (omega arith) (starts_statement p other alternative behind.1 out),
          joined inside (statement_size consequent) (statement_code p inside consequent) leap (length_statement p inside consequent)
              (paced_statement p inside consequent sized.1 (has_front all inside (statement_code p inside consequent) leap back.1) (target_there turn (ops.Jump after) refl behind.0) (lead_from p after turn (omega arith) lead_out))
              (forward turn after (omega arith) out, paced_statement p other alternative sized.2 behind.1 out lead_out),
        )
    paced_statement p at (erased.Loop condition body step) sized has end leads =
        let inside = at + 2 in
        let next = inside + statement_size body in
        let test = next + statement_size step in
        let branch = test + expression_size condition in
        let out = branch + 2 in
        let q : Places = record { scratch = p.scratch; on_break = out; on_continue = next } in
        let last = ops.JumpIfZero out ∷ ops.Jump (at + 1) ∷ [] in
        let tests = expression_code p.scratch test condition ++ last in
        let steps = statement_code p next step ++ tests in
        let bodies = statement_code q inside body ++ steps in
        let two : at + 1 + 1 ≡ inside = omega arith in
        let at_body = subst (λ k. HasAt all k bodies) two has.1.1 in
        let at_step = has_back all inside (statement_code q inside body) steps (statement_size body) (length_statement q inside body) at_body in
        let at_test = has_back all next (statement_code p next step) tests (statement_size step) (length_statement p next step) at_step in
        let at_branch = has_back all test (expression_code p.scratch test condition) last (expression_size condition) (length_expression p.scratch test condition) at_test in
        let front_step = has_front all next (statement_code p next step) tests at_step in
        let front_test = has_front all test (expression_code p.scratch test condition) last at_test in
        let free_out = target_same (at + statement_size (erased.Loop condition body step)) out (omega arith) end in
        let free_test = starts_expression p.scratch test condition front_test in
        let free_next = starts_statement p next step front_step free_test in
        let inner : LeadOn q next = record { break_behind = omega arith; break_free = free_out; continue_behind = omega arith; continue_free = free_next } in
        let tests_keep = joined test (expression_size condition) (expression_code p.scratch test condition) last (length_expression p.scratch test condition)
        (paced_expression p.scratch test condition sized.0 front_test (target_there branch (ops.JumpIfZero out) refl at_branch.0))
        (forward_if_zero branch out (omega arith) free_out, (to_tick (branch + 1) (at + 1) has.1.0, tt)) in
        let steps_keep = joined next (statement_size step) (statement_code p next step) tests (length_statement p next step)
        (paced_statement p next step sized.2 front_step free_test (lead_from p (at + statement_size (erased.Loop condition body step)) test (omega arith) leads)) tests_keep in
        let bodies_keep = joined inside (statement_size body) (statement_code q inside body) steps (length_statement q inside body)
        (paced_statement q inside body sized.1 (has_front all inside (statement_code q inside body) steps at_body) free_next inner) steps_keep in
        (forward at test (omega arith) free_test, (refl, subst (λ k. AllKeep k bodies) (sym two) bodies_keep))
    paced_statement p at (erased.Return value) sized has end leads = paced_one p.scratch at value ops.Return (record { no_jump = refl; no_call = refl }) sized has
    paced_statement p at erased.ReturnNothing sized has end leads = (refl, tt)
    paced_statement p at erased.Break sized has end leads = (forward at p.on_break (omega (arith, leads.break_behind)) leads.break_free, tt)
    paced_statement p at erased.Continue sized has end leads = (forward at p.on_continue (omega (arith, leads.continue_behind)) leads.continue_free, tt)

    paced_statements : (p : Places) (at : ℕ) (xs : erased.Statements) → SizedStatements p.scratch xs → HasAt all at (statements_code p at xs) → IsTarget (at + statements_size xs) → LeadOn p (at + statements_size xs) → AllKeep at (statements_code p at xs)
    paced_statements p at erased.NoMore sized has end leads = tt
    paced_statements p at (erased.Then first others) sized has end leads =
        let m = at + statement_size first in
        let whole = at + (statement_size first + statements_size others) in
        let back = has_back all at (statement_code p at first) (statements_code p m others) (statement_size first) (length_statement p at first) has in
        let out = target_same whole (m + statements_size others) (omega arith) end in
        joined at (statement_size first) (statement_code p at first) (statements_code p m others) (length_statement p at first)
        (paced_statement p at first sized.0 (has_front all at (statement_code p at first) (statements_code p m others) has) (starts_statements p m others back out) (lead_from p whole m (omega arith) leads))
        (paced_statements p m others sized.1 back out (lead_from p whole (m + statements_size others) (omega arith) leads))

-- ---- whole functions

paced_ending : (all : List Op) (at : ℕ) (result : Option CType) → AllKeep all at (ending_code result)
paced_ending all at None = (refl, tt)
paced_ending all at (Some type) = (refl, (refl, tt))

starts_ending : (all : List Op) (at : ℕ) (result : Option CType) → HasAt all at (ending_code result) → IsTarget all at
starts_ending all at None has = target_there all at ops.ReturnNothing refl has.0
starts_ending all at (Some type) has = target_there all at (ops.Const (pos 0)) refl has.0

function_keeps : (f : erased.Function) → IsFunction f → AllKeep (function_ops f) 0 (function_ops f)
function_keeps f is =
    let all = function_ops f in
    let p = body_places f in
    let n = statements_size f.body in
    let body = statements_code p 0 f.body in
    let last = ending_code f.result in
    let has : HasAt all 0 all = has_all all [] in
    let zero : 0 + n ≡ n = omega arith in
    let back = subst (λ k. HasAt all k last) zero (has_back all 0 body last n (length_statements p 0 f.body) has) in
    let free = starts_ending all n f.result back in
    let leads : LeadOn all p n = record { break_behind = omega arith; break_free = free; continue_behind = omega arith; continue_free = free } in
    joined all 0 n body last (length_statements p 0 f.body)
    (paced_statements all p 0 f.body is.sized (has_front all 0 body last has) (target_same all n (0 + n) (sym zero) free) (subst (LeadOn all p) (sym zero) leads))
    (paced_ending all (0 + n) f.result)

pub function_paced : (f : erased.Function) → IsFunction f → all_keep_pace (function_ops f) 0 (function_ops f) ≡ true
function_paced f is = keep_pace (function_ops f) 0 (function_ops f) (function_keeps f is)

pub function_sized : (f : erased.Function) → IsFunction f → list_all is_sized (function_ops f) ≡ true
function_sized f is = are_sized (function_ops f) 0 (function_ops f) (function_keeps f is)

pub paced_functions : (number : ℕ) (functions : List erased.Function) → AllByRecursion IsFunction functions → list_all is_paced_function (functions_from number functions) ≡ true
paced_functions number [] are = refl
paced_functions number (f ∷ functions) are = rw (function_paced f are.0) (paced_functions (suc number) functions are.1)

pub sized_functions : (number : ℕ) (functions : List erased.Function) → AllByRecursion IsFunction functions → list_all is_sized_function (functions_from number functions) ≡ true
sized_functions number [] are = refl
sized_functions number (f ∷ functions) are = rw (function_sized f are.0) (sized_functions (suc number) functions are.1)
