-- How many instructions the code of a part has, and that each expression needs a word of the stack.
use Rattle.std.proofs.Common.{◌≡◌, ℕ, zero, suc, ◌+◌, ◌≤◌, Bool, true, false, pos, List, [], ◌∷◌, ◌++◌, length, Option, Some, None, refl, ap, ◌∙◌, arith, length-append}
use Rattle.pointer_modes.specs.Types.{CType}
use Rattle.act_words.specs.declared.operator.Comparison.{Comparison}
use Rattle.act_words.specs.declared.operator.Comparison.TheVariants as comparisons
use Rattle.bounds_exprs.specs.declared.term.Bounds.{Bounds}
use Rattle.ckc_core.specs.declared.program.Direction.{Direction}
use Rattle.ckc_core.specs.declared.program.Direction.TheVariants as directions
use Rattle.ckc_core.specs.Pointers.{element_size}
use Rattle.check_insertion.specs.declared.erased.Check.{Check}
use Rattle.check_insertion.specs.declared.erased.Check.TheVariants as checks
use Rattle.check_insertion.specs.declared.erased.Reading.{Reading}
use Rattle.act_words.specs.declared.operator.Operator.{Operator}
use Rattle.ckc_core.specs.declared.program.Site.{Site}
use Rattle.check_insertion.specs.Erased as erased
use Rattle.ckc_core.specs.Steps.{is_char}
use Rattle.code_words.specs.declared.op.Op.{Op}
use Rattle.code_words.specs.declared.op.Op.TheVariants as ops
use Rattle.lowering.specs.Code.{Reach, Still, Onward, Back, Places, operator_code, load_code, store_code, offset_code, offset_size, check_code, checks_code, through_code, through_size, byte_code, byte_size, expression_size, arguments_size, place_size, before_value_size, behind_value_size, statement_size, statements_size, expression_code, arguments_code, place_code, before_value, behind_value, statement_code, statements_code, callee_code, reach_to, counted_size, number_slot, number_code, number_size, end_constant, bounds_code, within_code, check_size, checks_size, moved_code, moved_size, sum_code, sum_size, order_op, order_code, order_size, index_code, index_size, allocation_code, term_code, ended_code, ended_size, twice_code, plain_update, update_code, update_size, behind_through, behind_through_size}
use Rattle.check_insertion.specs.Stacks.{offset_stack, expression_stack, place_stack}

pub length_offset : (n : ℕ) → length (offset_code n) ≡ offset_size n
length_offset zero = refl
length_offset (suc n) = refl

pub length_byte : (char : Bool) → length (byte_code char) ≡ byte_size char
length_byte true = refl
length_byte false = refl

-- a part and what follows it
length_then : (a b : List Op) (n m : ℕ) → length a ≡ n → length b ≡ m → length (a ++ b) ≡ n + m
length_then a b n m ea eb = omega (arith, length-append a b)

pub length_number : (slot : ℕ) (r : Reach) → length (number_code slot r) ≡ number_size r
length_number slot (Still size) = refl
length_number slot (Onward size) = refl
length_number slot (Back size) = refl

pub length_within : (slot : ℕ) (r : Reach) (b : Bounds) → length (within_code slot r b) ≡ 3 + (number_size r + 3)
length_within slot r b = omega (arith, length_then (number_code slot r) (bounds_code slot b) (number_size r) 3 (length_number slot r) refl)

pub length_check : (slot : ℕ) (r : Reach) (c : Check) → length (check_code slot r c) ≡ check_size r c
length_check slot r (checks.NotNull site) = refl
length_check slot r (checks.Below x) =
    length_then (within_code slot r x.bounds) (ops.In (end_constant r x.bounds.lo) (end_constant r x.bounds.hi) (counted_size r) x.site.place ∷ []) (3 + (number_size r + 3)) 1 (length_within slot r x.bounds) refl
length_check slot r (checks.UpTo x) =
    length_then (within_code slot r x.bounds) (ops.UpTo (end_constant r x.bounds.lo) (end_constant r x.bounds.hi) (counted_size r) x.site.place ∷ []) (3 + (number_size r + 3)) 1 (length_within slot r x.bounds) refl
length_check slot r (checks.Contains old new) = refl

pub length_checks : (slot : ℕ) (r : Reach) (cs : List Check) → length (checks_code slot r cs) ≡ checks_size r cs
length_checks slot r [] = refl
length_checks slot r (c ∷ cs) = length_then (check_code slot r c) (checks_code slot r cs) (check_size r c) (checks_size r cs) (length_check slot r c) (length_checks slot r cs)

pub length_moved : (slot : ℕ) (direction : Direction) (size : ℕ) → length (moved_code slot direction size) ≡ moved_size direction
length_moved slot directions.Forward size = refl
length_moved slot directions.Backward size = refl

pub length_through : (slot : ℕ) (index : erased.Index) (offset : ℕ) (checks : List Check) → length (through_code slot index offset checks) ≡ through_size index offset checks
length_through slot erased.First offset checks =
    length_then (checks_code slot (Still 1) checks) (offset_code offset) (checks_size (Still 1) checks) (offset_size offset) (length_checks slot (Still 1) checks) (length_offset offset)
length_through slot (erased.Element number size) offset checks =
    omega (
      arith,
      length_then (checks_code slot (Onward size) checks) (moved_code slot directions.Forward size ++ offset_code offset) (checks_size (Onward size) checks) (2 + offset_size offset) (length_checks slot (Onward size) checks)
          (length_then (moved_code slot directions.Forward size) (offset_code offset) 2 (offset_size offset) refl (length_offset offset)),
    )

pub length_ended : (slot : ℕ) (type : CType) (size offset : ℕ) (checks : List Check) (r : Reading) → length (ended_code slot type size offset checks r) ≡ ended_size size offset checks
length_ended slot type size offset checks r =
    let last = ops.Local slot ∷ store_code type ∷ [] in
    let far = length_then (offset_code offset) last (offset_size offset) 2 (length_offset offset) refl in
    let moved = length_then (moved_code slot directions.Forward size) (offset_code offset ++ last) 2 (offset_size offset + 2) refl far in
    let ends = length_then (term_code slot size r) (moved_code slot directions.Forward size ++ (offset_code offset ++ last)) 8 (2 + (offset_size offset + 2)) refl moved in
    omega (arith, length_then (checks_code slot (Onward size) checks) (term_code slot size r ++ (moved_code slot directions.Forward size ++ (offset_code offset ++ last))) (checks_size (Onward size) checks) (8 + (2 + (offset_size offset + 2))) (length_checks slot (Onward size) checks) ends)

pub length_sum : (slot : ℕ) (direction : Direction) (size : ℕ) (checks : List Check) → length (sum_code slot direction size checks) ≡ sum_size direction size checks
length_sum slot direction size checks =
    omega (arith, length_then (checks_code slot (reach_to direction size) checks) (moved_code slot direction size) (checks_size (reach_to direction size) checks) (moved_size direction) (length_checks slot (reach_to direction size) checks) (length_moved slot direction size))

pub length_order : (slot : ℕ) (comparison : Comparison) (left_checks right_checks : List Check) → length (order_code slot comparison left_checks right_checks) ≡ order_size left_checks right_checks
length_order slot comparison left_checks right_checks =
    let last = checks_code slot (Still 1) right_checks ++ order_op comparison ∷ [] in
    let behind = length_then (checks_code slot (Still 1) right_checks) (order_op comparison ∷ []) (checks_size (Still 1) right_checks) 1 (length_checks slot (Still 1) right_checks) refl in
    omega (arith, length_then (checks_code slot (Still 1) left_checks) (ops.Local (number_slot slot) ∷ last) (checks_size (Still 1) left_checks) (1 + (checks_size (Still 1) right_checks + 1)) (length_checks slot (Still 1) left_checks) (omega (arith, behind)))

length_two : (slot at : ℕ) (left right : erased.Expression) (op : Op) → length (expression_code slot at left) ≡ expression_size left → length (expression_code slot (at + expression_size left) right) ≡ expression_size right → length (expression_code slot at left ++ (expression_code slot (at + expression_size left) right ++ op ∷ [])) ≡ expression_size left + (expression_size right + 1)
length_two slot at left right op el er =
    length_then (expression_code slot at left) (expression_code slot (at + expression_size left) right ++ op ∷ []) (expression_size left) (expression_size right + 1) el
    (length_then (expression_code slot (at + expression_size left) right) (op ∷ []) (expression_size right) 1 er refl)

mutual
  pub length_expression : (slot at : ℕ) (e : erased.Expression) → length (expression_code slot at e) ≡ expression_size e
  length_expression slot at (erased.Number z) = refl
  length_expression slot at erased.Null = refl
  length_expression slot at (erased.Local k) = refl
  length_expression slot at (erased.Load type p) = length_then (place_code slot at p) (load_code type ∷ []) (place_size p) 1 (length_place slot at p) refl
  length_expression slot at (erased.AddressOf p) = length_place slot at p
  length_expression slot at (erased.Negate operand site) = length_then (expression_code slot at operand) (ops.Neg site.place ∷ []) (expression_size operand) 1 (length_expression slot at operand) refl
  length_expression slot at (erased.Complement operand) = length_then (expression_code slot at operand) (ops.Not ∷ []) (expression_size operand) 1 (length_expression slot at operand) refl
  length_expression slot at (erased.Not operand) = length_then (expression_code slot at operand) (ops.Zero ∷ []) (expression_size operand) 1 (length_expression slot at operand) refl
  length_expression slot at (erased.Arithmetic operator left right site) = length_two slot at left right (operator_code operator site) (length_expression slot at left) (length_expression slot (at + expression_size left) right)
  length_expression slot at (erased.Compare comparison left right) = length_two slot at left right (ops.Compare comparison) (length_expression slot at left) (length_expression slot (at + expression_size left) right)
  length_expression slot at (erased.Same left right) = length_two slot at left right (ops.Compare comparisons.Equal) (length_expression slot at left) (length_expression slot (at + expression_size left) right)
  length_expression slot at (erased.AndAlso left right) =
      let inner = expression_code slot (at + expression_size left + 1) right in
      let last = ops.Zero ∷ ops.Zero ∷ ops.Jump (at + expression_size left + 1 + expression_size right + 4) ∷ ops.Const (pos 0) ∷ [] in
      let branch = ops.JumpIfZero (at + expression_size left + 1 + expression_size right + 3) in
      let back = length_then inner last (expression_size right) 4 (length_expression slot (at + expression_size left + 1) right) refl in
      length_then (expression_code slot at left) (branch ∷ (inner ++ last)) (expression_size left) (expression_size right + 5) (length_expression slot at left) (omega (arith, back))
  length_expression slot at (erased.OrElse left right) =
      let inner = expression_code slot (at + expression_size left + 3) right in
      let last = ops.Zero ∷ ops.Zero ∷ [] in
      let front = ops.JumpIfZero (at + expression_size left + 3) in
      let leap = ops.Jump (at + expression_size left + 3 + expression_size right + 2) in
      let back = length_then inner last (expression_size right) 2 (length_expression slot (at + expression_size left + 3) right) refl in
      length_then (expression_code slot at left) (front ∷ ops.Const (pos 1) ∷ leap ∷ (inner ++ last)) (expression_size left) (expression_size right + 5) (length_expression slot at left) (omega (arith, back))
  length_expression slot at (erased.LowByte operand) = length_then (expression_code slot at operand) (ops.Byte ∷ []) (expression_size operand) 1 (length_expression slot at operand) refl
  length_expression slot at (erased.Call callee arguments) = length_then (arguments_code slot at arguments) (ops.Tick ∷ callee_code callee ∷ []) (arguments_size arguments) 2 (length_arguments slot at arguments) refl
  length_expression slot at erased.NextInput = refl
  length_expression slot at (erased.Sum pointer direction number size checks) =
      length_then (expression_code slot at pointer) (expression_code slot (at + expression_size pointer) number ++ sum_code slot direction size checks) (expression_size pointer) (expression_size number + sum_size direction size checks) (length_expression slot at pointer)
      (length_then (expression_code slot (at + expression_size pointer) number) (sum_code slot direction size checks) (expression_size number) (sum_size direction size checks) (length_expression slot (at + expression_size pointer) number) (length_sum slot direction size checks))
  length_expression slot at (erased.Order comparison left left_checks right right_checks) =
      length_then (expression_code slot at left) (expression_code slot (at + expression_size left) right ++ order_code slot comparison left_checks right_checks) (expression_size left) (expression_size right + order_size left_checks right_checks) (length_expression slot at left)
      (length_then (expression_code slot (at + expression_size left) right) (order_code slot comparison left_checks right_checks) (expression_size right) (order_size left_checks right_checks) (length_expression slot (at + expression_size left) right) (length_order slot comparison left_checks right_checks))
  length_expression slot at (erased.Allocate count element terminator) = length_then (expression_code slot at count) (allocation_code terminator (element_size element) ∷ []) (expression_size count) 1 (length_expression slot at count) refl
  length_expression slot at (erased.Length pointer size checks) =
      length_then (expression_code slot at pointer) (checks_code slot (Still size) checks ++ ops.TextLength ∷ []) (expression_size pointer) (checks_size (Still size) checks + 1) (length_expression slot at pointer)
      (length_then (checks_code slot (Still size) checks) (ops.TextLength ∷ []) (checks_size (Still size) checks) 1 (length_checks slot (Still size) checks) refl)
  length_expression slot at (erased.Cast pointer size checks) =
      length_then (expression_code slot at pointer) (checks_code slot (Still size) checks) (expression_size pointer) (checks_size (Still size) checks) (length_expression slot at pointer) (length_checks slot (Still size) checks)

  pub length_arguments : (slot at : ℕ) (arguments : erased.Arguments) → length (arguments_code slot at arguments) ≡ arguments_size arguments
  length_arguments slot at erased.Done = refl
  length_arguments slot at (erased.More first rest) =
      length_then (expression_code slot at first) (arguments_code slot (at + expression_size first) rest) (expression_size first) (arguments_size rest) (length_expression slot at first) (length_arguments slot (at + expression_size first) rest)

  pub length_place : (slot at : ℕ) (p : erased.Place) → length (place_code slot at p) ≡ place_size p
  length_place slot at (erased.Direct object offset) = omega (arith, length_offset offset)
  length_place slot at (erased.Through pointer index offset checks) =
      length_then (expression_code slot at pointer) (index_code slot (at + expression_size pointer) index ++ through_code slot index offset checks) (expression_size pointer) (index_size index + through_size index offset checks) (length_expression slot at pointer)
      (length_then (index_code slot (at + expression_size pointer) index) (through_code slot index offset checks) (index_size index) (through_size index offset checks) (length_index slot (at + expression_size pointer) index) (length_through slot index offset checks))

  pub length_index : (slot at : ℕ) (index : erased.Index) → length (index_code slot at index) ≡ index_size index
  length_index slot at erased.First = refl
  length_index slot at (erased.Element number size) = length_expression slot at number

pub length_before : (slot at : ℕ) (p : erased.Place) → length (before_value slot at p) ≡ before_value_size p
length_before slot at (erased.Direct object offset) = omega (arith, length_offset offset)
length_before slot at (erased.Through pointer index offset checks) =
    length_then (expression_code slot at pointer) (index_code slot (at + expression_size pointer) index) (expression_size pointer) (index_size index) (length_expression slot at pointer) (length_index slot (at + expression_size pointer) index)

length_through_behind : (slot : ℕ) (type : CType) (index : erased.Index) (offset : ℕ) (checks : List Check) (end : Option Reading) → length (behind_through slot type index offset checks end) ≡ behind_through_size index offset checks end
length_through_behind slot type index offset checks None =
    omega (arith, length-append (through_code slot index offset checks) (ops.Local slot ∷ store_code type ∷ []), length_through slot index offset checks)
length_through_behind slot type erased.First offset checks (Some r) =
    omega (arith, length-append (through_code slot erased.First offset checks) (ops.Local slot ∷ store_code type ∷ []), length_through slot erased.First offset checks)
length_through_behind slot type (erased.Element number size) offset checks (Some r) = omega (arith, length_ended slot type size offset checks r)

pub length_behind : (slot : ℕ) (type : CType) (p : erased.Place) (end : Option Reading) → length (behind_value slot type p end) ≡ behind_value_size p end
length_behind slot type (erased.Direct object offset) end = refl
length_behind slot type (erased.Through pointer index offset checks) end = length_through_behind slot type index offset checks end

length_plain : (slot at : ℕ) (type : CType) (cell : erased.Place) (operator : Operator) (value : erased.Expression) (site : Site) → length (plain_update slot at type cell operator value site) ≡ place_size cell + (2 + (expression_size value + (1 + (byte_size (is_char type) + 1))))
length_plain slot at type cell operator value site =
    let m = at + place_size cell + 2 in
    let last = operator_code operator site ∷ (byte_code (is_char type) ++ store_code type ∷ []) in
    let back = length_then (expression_code slot m value) last (expression_size value) (1 + (byte_size (is_char type) + 1)) (length_expression slot m value) (omega (arith, length_then (byte_code (is_char type)) (store_code type ∷ []) (byte_size (is_char type)) 1 (length_byte (is_char type)) refl)) in
    length_then (place_code slot at cell) (ops.Duplicate ∷ load_code type ∷ (expression_code slot m value ++ last)) (place_size cell) (2 + (expression_size value + (1 + (byte_size (is_char type) + 1)))) (length_place slot at cell) (omega (arith, back))

pub length_update : (slot at : ℕ) (type : CType) (cell : erased.Place) (operator : Operator) (value : erased.Expression) (site : Site) (end : Option Reading) → length (update_code slot at type cell operator value site end) ≡ update_size cell end (expression_size value) (byte_size (is_char type))
length_update slot at type cell operator value site None = length_plain slot at type cell operator value site
length_update slot at type (erased.Direct object offset) operator value site (Some r) = length_plain slot at type (erased.Direct object offset) operator value site
length_update slot at type (erased.Through pointer erased.First offset checks) operator value site (Some r) = length_plain slot at type (erased.Through pointer erased.First offset checks) operator value site
length_update slot at type (erased.Through pointer (erased.Element number size) offset checks) operator value site (Some r) =
    let index = erased.Element number size in
    let cell = erased.Through pointer index offset checks in
    let byte = byte_size (is_char type) in
    let m = at + (expression_size pointer + expression_size number) + 6 + through_size index offset checks + 1 in
    let kept = ops.Set slot ∷ ended_code slot type size offset [] r in
    let last = operator_code operator site ∷ (byte_code (is_char type) ++ kept) in
    let loaded = load_code type ∷ (expression_code slot m value ++ last) in
    let ended : length kept ≡ 1 + ended_size size offset [] = omega (arith, length_ended slot type size offset [] r) in
    let results = length_then (byte_code (is_char type)) kept byte (1 + ended_size size offset []) (length_byte (is_char type)) ended in
    let values = length_then (expression_code slot m value) last (expression_size value) (1 + (byte + (1 + ended_size size offset []))) (length_expression slot m value) (omega (arith, results)) in
    let far = length_then (through_code slot index offset checks) loaded (through_size index offset checks) (1 + (expression_size value + (1 + (byte + (1 + ended_size size offset []))))) (length_through slot index offset checks) (omega (arith, values)) in
    let twice = length_then (twice_code slot) (through_code slot index offset checks ++ loaded) 6 (through_size index offset checks + (1 + (expression_size value + (1 + (byte + (1 + ended_size size offset [])))))) refl far in
    length_then (before_value slot at cell) (twice_code slot ++ (through_code slot index offset checks ++ loaded)) (expression_size pointer + expression_size number) (6 + (through_size index offset checks + (1 + (expression_size value + (1 + (byte + (1 + ended_size size offset []))))))) (length_before slot at cell) twice

mutual
  pub length_statement : (p : Places) (at : ℕ) (x : erased.Statement) → length (statement_code p at x) ≡ statement_size x
  length_statement p at erased.Nothing = refl
  length_statement p at (erased.SetLocal local value) = length_then (expression_code p.scratch at value) (ops.Set local ∷ []) (expression_size value) 1 (length_expression p.scratch at value) refl
  length_statement p at (erased.Store type cell value end) =
      let m = at + before_value_size cell in
      length_then (before_value p.scratch at cell) (expression_code p.scratch m value ++ behind_value p.scratch type cell end) (before_value_size cell) (expression_size value + behind_value_size cell end) (length_before p.scratch at cell)
      (length_then (expression_code p.scratch m value) (behind_value p.scratch type cell end) (expression_size value) (behind_value_size cell end) (length_expression p.scratch m value) (length_behind p.scratch type cell end))
  length_statement p at (erased.UpdateLocal char local operator value site) =
      let last = operator_code operator site ∷ (byte_code char ++ ops.Set local ∷ []) in
      ap suc (length_then (expression_code p.scratch (at + 1) value) last (expression_size value) (1 + (byte_size char + 1)) (length_expression p.scratch (at + 1) value) (omega (arith, length_then (byte_code char) (ops.Set local ∷ []) (byte_size char) 1 (length_byte char) refl)))
      ∙ (omega arith)
  length_statement p at (erased.Update type cell operator value site end) = length_update p.scratch at type cell operator value site end
  length_statement p at (erased.Evaluate value) = length_then (expression_code p.scratch at value) (ops.Discard ∷ []) (expression_size value) 1 (length_expression p.scratch at value) refl
  length_statement p at (erased.CallAlone callee arguments) = length_then (arguments_code p.scratch at arguments) (ops.Tick ∷ callee_code callee ∷ []) (arguments_size arguments) 2 (length_arguments p.scratch at arguments) refl
  length_statement p at (erased.Print number) = length_then (expression_code p.scratch at number) (ops.Print ∷ []) (expression_size number) 1 (length_expression p.scratch at number) refl
  length_statement p at (erased.PutByte number) = length_then (expression_code p.scratch at number) (ops.PutByte ∷ []) (expression_size number) 1 (length_expression p.scratch at number) refl
  length_statement p at (erased.Block inner) = length_statements p at inner
  length_statement p at (erased.If condition consequent alternative) =
      let inside = at + expression_size condition + 1 in
      let other = inside + statement_size consequent + 1 in
      let leap = ops.Jump (other + statement_size alternative) in
      let back = length_then (statement_code p inside consequent) (leap ∷ statement_code p other alternative) (statement_size consequent) (1 + statement_size alternative) (length_statement p inside consequent) (omega (arith, length_statement p other alternative)) in
      length_then (expression_code p.scratch at condition) (ops.JumpIfZero other ∷ (statement_code p inside consequent ++ leap ∷ statement_code p other alternative)) (expression_size condition) (1 + (statement_size consequent + (1 + statement_size alternative))) (length_expression p.scratch at condition) (omega (arith, back))
  length_statement p at (erased.Loop condition body step) =
      let inside = at + 2 in
      let next = inside + statement_size body in
      let test = next + statement_size step in
      let end = test + expression_size condition + 2 in
      let q : Places = record { scratch = p.scratch; on_break = end; on_continue = next } in
      let last = ops.JumpIfZero end ∷ ops.Jump (at + 1) ∷ [] in
      let tests = length_then (expression_code p.scratch test condition) last (expression_size condition) 2 (length_expression p.scratch test condition) refl in
      let steps = length_then (statement_code p next step) (expression_code p.scratch test condition ++ last) (statement_size step) (expression_size condition + 2) (length_statement p next step) tests in
      let bodies = length_then (statement_code q inside body) (statement_code p next step ++ (expression_code p.scratch test condition ++ last)) (statement_size body) (statement_size step + (expression_size condition + 2)) (length_statement q inside body) steps in
      omega (arith, bodies)
  length_statement p at (erased.Return value) = length_then (expression_code p.scratch at value) (ops.Return ∷ []) (expression_size value) 1 (length_expression p.scratch at value) refl
  length_statement p at erased.ReturnNothing = refl
  length_statement p at erased.Break = refl
  length_statement p at erased.Continue = refl

  pub length_statements : (p : Places) (at : ℕ) (xs : erased.Statements) → length (statements_code p at xs) ≡ statements_size xs
  length_statements p at erased.NoMore = refl
  length_statements p at (erased.Then first others) =
      length_then (statement_code p at first) (statements_code p (at + statement_size first) others) (statement_size first) (statements_size others) (length_statement p at first) (length_statements p (at + statement_size first) others)

-- ---- stacks

pub offset_above : (n : ℕ) → 1 ≤ offset_stack n
offset_above zero = omega arith
offset_above (suc n) = omega arith

mutual
  pub stack_above : (e : erased.Expression) → 1 ≤ expression_stack e
  stack_above (erased.Number z) = omega arith
  stack_above erased.Null = omega arith
  stack_above (erased.Local k) = omega arith
  stack_above (erased.Load type p) = place_above p
  stack_above (erased.AddressOf p) = place_above p
  stack_above (erased.Negate operand site) = stack_above operand
  stack_above (erased.Complement operand) = stack_above operand
  stack_above (erased.Not operand) = stack_above operand
  stack_above (erased.Arithmetic operator left right site) = omega (arith, stack_above left)
  stack_above (erased.Compare comparison left right) = omega (arith, stack_above left)
  stack_above (erased.Same left right) = omega (arith, stack_above left)
  stack_above (erased.AndAlso left right) = omega (arith, stack_above left)
  stack_above (erased.OrElse left right) = omega (arith, stack_above left)
  stack_above (erased.LowByte operand) = stack_above operand
  stack_above (erased.Call callee arguments) = omega arith
  stack_above erased.NextInput = omega arith
  stack_above (erased.Sum pointer direction number size checks) = omega (arith, stack_above pointer)
  stack_above (erased.Order comparison left left_checks right right_checks) = omega (arith, stack_above left)
  stack_above (erased.Allocate count element terminator) = stack_above count
  stack_above (erased.Length pointer size checks) = omega (arith, stack_above pointer)
  stack_above (erased.Cast pointer size checks) = omega (arith, stack_above pointer)

  pub place_above : (p : erased.Place) → 1 ≤ place_stack p
  place_above (erased.Direct object offset) = offset_above offset
  place_above (erased.Through pointer index offset checks) = omega (arith, stack_above pointer)
