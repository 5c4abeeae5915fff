-- How the code of a part is put together from what is emitted for its parts, one behind another.
use Rattle.std.proofs.Common.{◌≡◌, ℕ, zero, suc, ◌+◌, ◌^◌, ◌<◌, ◌≤◌, Bool, List, [], ◌∷◌, ◌++◌, length, slice_get, get_or, drop, pos, Option, Some, Result, OnOk, refl, sym, ap, ◌∙◌, subst, append_assoc, length-append, arith}
use Rattle.std.proofs.lemmas.Result.{on_ok_weaker}
use Rattle.ckc_text.specs.declared.fault.NoMemory.{NoMemory}
use Rattle.pointer_modes.specs.Types.{CType}
use Rattle.check_insertion.specs.declared.erased.Expr.{Expr}
use Rattle.check_insertion.specs.declared.erased.Stmt.{Stmt}
use Rattle.check_insertion.specs.declared.erased.Check.{Check}
use Rattle.check_insertion.specs.declared.erased.Reading.{Reading}
use Rattle.act_words.specs.declared.operator.Operator.{Operator}
use Rattle.ckc_core.specs.declared.program.Site.{Site}
use Rattle.check_insertion.specs.Erased as erased
use Rattle.ckc_core.specs.Steps.{is_char}
use Rattle.check_insertion.specs.Erased.{expression, arguments_of, statement, statements_of}
use Rattle.code_words.specs.declared.op.Op.{Op}
use Rattle.code_words.specs.declared.op.Op.TheVariants as ops
use Rattle.lowering.specs.Code.{Places, operator_code, load_code, store_code, byte_code, expression_size, arguments_size, place_size, before_value_size, index_code, statement_size, statements_size, expression_code, arguments_code, place_code, before_value, behind_value, statement_code, statements_code}
use Rattle.lowering.specs.Code.{ended_code, loop_places, plain_update, through_code, through_size, twice_code, update_code, update_size}
use Rattle.lowering.specs.Sized.{SizedExpression, SizedArguments, SizedIndex, SizedNumber, SizedStatement, SizedStatements}
use Rattle.lowering.proofs.Sizes.{length_expression, length_arguments, length_place, length_through, length_before, length_statement, length_statements}
use Rattle.lowering.proofs.Slices.{arguments_drop, statements_drop}

-- a part, and what follows it
pub emitted_then : (old mid new a b : List Op) → mid ≡ old ++ a → new ≡ mid ++ b → new ≡ old ++ (a ++ b)
emitted_then old mid new a b first second = second ∙ ap (λ l. l ++ b) first ∙ append_assoc old a b

-- two parts, and what follows them
pub both_then : (old mid new a b rest : List Op) → mid ≡ old ++ (a ++ b) → new ≡ mid ++ rest → new ≡ old ++ (a ++ (b ++ rest))
both_then old mid new a b rest first second = emitted_then old mid new (a ++ b) rest first second ∙ ap (λ l. old ++ l) (append_assoc a b rest)

-- the place behind a part
pub place_after : (old mid a : List Op) (n : ℕ) → length a ≡ n → mid ≡ old ++ a → length mid ≡ length old + n
place_after old mid a n long first = omega (arith, ap length first, length-append old a)

pub after_expression : (slot : ℕ) (x : erased.Expression) (old mid : List Op) → mid ≡ old ++ expression_code slot (length old) x → length mid ≡ length old + expression_size x
after_expression slot x old mid e = place_after old mid (expression_code slot (length old) x) (expression_size x) (length_expression slot (length old) x) e

pub after_statement : (p : Places) (x : erased.Statement) (old mid : List Op) → mid ≡ old ++ statement_code p (length old) x → length mid ≡ length old + statement_size x
after_statement p x old mid e = place_after old mid (statement_code p (length old) x) (statement_size x) (length_statement p (length old) x) e

pub after_condition : (slot : ℕ) (x : erased.Expression) (op : Op) (old mid : List Op) → mid ≡ old ++ (expression_code slot (length old) x ++ op ∷ []) → length mid ≡ length old + (expression_size x + 1)
after_condition slot x op old mid e =
    let code = expression_code slot (length old) x in
    place_after old mid (code ++ op ∷ []) (expression_size x + 1) (omega (arith, length-append code (op ∷ []), length_expression slot (length old) x)) e

-- code that stands at a place
moved_to : (f : ℕ → List Op) (mid new : List Op) (m n : ℕ) → m ≡ n → new ≡ mid ++ f m → new ≡ mid ++ f n
moved_to f mid new m n same e = e ∙ ap (λ k. mid ++ f k) same

-- ---- expressions

-- a part that is followed by an expression and by more
pub then_expression : (slot : ℕ) (right : erased.Expression) (n : ℕ) (old one two new a last : List Op) → length a ≡ n → one ≡ old ++ a → two ≡ one ++ expression_code slot (length one) right → new ≡ two ++ last → new ≡ old ++ (a ++ (expression_code slot (length old + n) right ++ last))
then_expression slot right n old one two new a last long first second third =
    let m = place_after old one a n long first in
    emitted_then old one new a (expression_code slot (length old + n) right ++ last) first
    (emitted_then one two new (expression_code slot (length old + n) right) last (moved_to (λ k. expression_code slot k right) one two (length one) (length old + n) m second) third)

-- the right one of two operands, and what is done with both
pub right_emitted : (slot : ℕ) (left right : erased.Expression) (old one two : List Op) (op : Op) (r : Result (Unit {0}) NoMemory) → one ≡ old ++ expression_code slot (length old) left → OnOk r (two ≡ one ++ (expression_code slot (length one) right ++ op ∷ [])) → OnOk r (two ≡ old ++ (expression_code slot (length old) left ++ (expression_code slot (length old + expression_size left) right ++ op ∷ [])))
right_emitted slot left right old one two op r first second =
    let m = place_after old one (expression_code slot (length old) left) (expression_size left) (length_expression slot (length old) left) first in
    on_ok_weaker r (λ e. emitted_then old one two (expression_code slot (length old) left) (expression_code slot (length old + expression_size left) right ++ op ∷ []) first (moved_to (λ k. expression_code slot k right ++ op ∷ []) one two (length one) (length old + expression_size left) m e)) second

pub and_emitted : (slot : ℕ) (left right : erased.Expression) (size : ℕ) (old one jumped two new : List Op) → size ≡ expression_size right → one ≡ old ++ expression_code slot (length old) left → jumped ≡ one ++ ops.JumpIfZero (length one + 1 + size + 3) ∷ [] → two ≡ jumped ++ expression_code slot (length jumped) right → new ≡ two ++ ops.Zero ∷ ops.Zero ∷ ops.Jump (length two + 4) ∷ ops.Const (pos 0) ∷ [] → new ≡ old ++ expression_code slot (length old) (erased.AndAlso left right)
and_emitted slot left right size old one jumped two new is first second third fourth =
    let m = length old + expression_size left in
    let at_one : length one ≡ m = place_after old one (expression_code slot (length old) left) (expression_size left) (length_expression slot (length old) left) first in
    let branch : jumped ≡ one ++ ops.JumpIfZero (m + 1 + expression_size right + 3) ∷ [] = moved_to (λ k. ops.JumpIfZero k ∷ []) one jumped (length one + 1 + size + 3) (m + 1 + expression_size right + 3) (omega arith) second in
    let at_jumped : length jumped ≡ m + 1 = omega (arith, ap length branch, length-append one (ops.JumpIfZero (m + 1 + expression_size right + 3) ∷ [])) in
    let inner : two ≡ jumped ++ expression_code slot (m + 1) right = moved_to (λ k. expression_code slot k right) jumped two (length jumped) (m + 1) at_jumped third in
    let at_two : length two ≡ length jumped + expression_size right = place_after jumped two (expression_code slot (m + 1) right) (expression_size right) (length_expression slot (m + 1) right) inner in
    let last = λ (k : ℕ). ops.Zero ∷ ops.Zero ∷ ops.Jump k ∷ ops.Const (pos 0) ∷ [] in
    let behind : new ≡ two ++ last (m + 1 + expression_size right + 4) = moved_to last two new (length two + 4) (m + 1 + expression_size right + 4) (omega arith) fourth in
    emitted_then old one new (expression_code slot (length old) left) (ops.JumpIfZero (m + 1 + expression_size right + 3) ∷ (expression_code slot (m + 1) right ++ last (m + 1 + expression_size right + 4))) first
    (emitted_then one jumped new (ops.JumpIfZero (m + 1 + expression_size right + 3) ∷ []) (expression_code slot (m + 1) right ++ last (m + 1 + expression_size right + 4)) branch
    (emitted_then jumped two new (expression_code slot (m + 1) right) (last (m + 1 + expression_size right + 4)) inner behind))

pub or_emitted : (slot : ℕ) (left right : erased.Expression) (size : ℕ) (old one jumped two new : List Op) → size ≡ expression_size right → one ≡ old ++ expression_code slot (length old) left → jumped ≡ one ++ ops.JumpIfZero (length one + 3) ∷ ops.Const (pos 1) ∷ ops.Jump (length one + 3 + size + 2) ∷ [] → two ≡ jumped ++ expression_code slot (length jumped) right → new ≡ two ++ ops.Zero ∷ ops.Zero ∷ [] → new ≡ old ++ expression_code slot (length old) (erased.OrElse left right)
or_emitted slot left right size old one jumped two new is first second third fourth =
    let m = length old + expression_size left in
    let at_one : length one ≡ m = place_after old one (expression_code slot (length old) left) (expression_size left) (length_expression slot (length old) left) first in
    let head = λ (j k : ℕ). ops.JumpIfZero j ∷ ops.Const (pos 1) ∷ ops.Jump k ∷ [] in
    let there : length one + 3 ≡ m + 3 = omega arith in
    let end : length one + 3 + size + 2 ≡ m + 3 + expression_size right + 2 = omega arith in
    let branch : jumped ≡ one ++ head (m + 3) (m + 3 + expression_size right + 2) = second ∙ ap (λ j. one ++ head j (length one + 3 + size + 2)) there ∙ ap (λ k. one ++ head (m + 3) k) end in
    let at_jumped : length jumped ≡ m + 3 = omega (arith, ap length branch, length-append one (head (m + 3) (m + 3 + expression_size right + 2))) in
    let inner : two ≡ jumped ++ expression_code slot (m + 3) right = moved_to (λ k. expression_code slot k right) jumped two (length jumped) (m + 3) at_jumped third in
    emitted_then old one new (expression_code slot (length old) left) (head (m + 3) (m + 3 + expression_size right + 2) ++ (expression_code slot (m + 3) right ++ ops.Zero ∷ ops.Zero ∷ [])) first
    (emitted_then one jumped new (head (m + 3) (m + 3 + expression_size right + 2)) (expression_code slot (m + 3) right ++ ops.Zero ∷ ops.Zero ∷ []) branch
    (emitted_then jumped two new (expression_code slot (m + 3) right) (ops.Zero ∷ ops.Zero ∷ []) inner fourth))

-- two parts, one behind the other
pub both_emitted : (slot : ℕ) (left right : erased.Expression) (old one new : List Op) → one ≡ old ++ expression_code slot (length old) left → new ≡ one ++ expression_code slot (length one) right → new ≡ old ++ (expression_code slot (length old) left ++ expression_code slot (length old + expression_size left) right)
both_emitted slot left right old one new first second =
    let m = after_expression slot left old one first in
    emitted_then old one new (expression_code slot (length old) left) (expression_code slot (length old + expression_size left) right) first (moved_to (λ k. expression_code slot k right) one new (length one) (length old + expression_size left) m second)

pub number_sized : (slot : ℕ) (index : erased.Index) (checks : List Check) → SizedIndex slot index checks → SizedNumber slot index
number_sized slot erased.First checks sized = tt
number_sized slot (erased.Element number size) checks sized = sized.0

-- a pointer and an index
pub target_emitted : (slot : ℕ) (pointer : erased.Expression) (index : erased.Index) (old one new : List Op) → one ≡ old ++ expression_code slot (length old) pointer → new ≡ one ++ index_code slot (length one) index → new ≡ old ++ (expression_code slot (length old) pointer ++ index_code slot (length old + expression_size pointer) index)
target_emitted slot pointer index old one new first second =
    let m = after_expression slot pointer old one first in
    emitted_then old one new (expression_code slot (length old) pointer) (index_code slot (length old + expression_size pointer) index) first (moved_to (λ k. index_code slot k index) one new (length one) (length old + expression_size pointer) m second)

-- an argument at a place
pub argument_at : (args : List Expr) (i : ℕ) → i < length args → (x : Expr) × ((slice_get args i ≡ Some x) × (x ≡ get_or args i x))
argument_at [] i low = absurd (omega arith)
argument_at (x ∷ args) zero low = (x, (refl, refl))
argument_at (x ∷ args) (suc i) low = argument_at args i (omega arith)

pub argument_sized : (slot : ℕ) (args : List Expr) (i : ℕ) (x : Expr) → slice_get args i ≡ Some x → SizedArguments slot (arguments_of args) → SizedExpression slot (expression x)
argument_sized slot [] i x found sized = absurd (cc)
argument_sized slot (y ∷ args) zero x found sized = let e : y ≡ x = cc in subst (λ z. SizedExpression slot (expression z)) e sized.0
argument_sized slot (y ∷ args) (suc i) x found sized = argument_sized slot args i x found sized.1

-- there is room for the next argument where there is for all
pub argument_room : (slot : ℕ) (args : List Expr) (i : ℕ) (x : Expr) (now old : List Op) → i < length args → slice_get args i ≡ Some x → now ++ arguments_code slot (length now) (arguments_of (drop i args)) ≡ old ++ arguments_code slot (length old) (arguments_of args) → length old + arguments_size (arguments_of args) ≤ 2 ^ 31 → length now + expression_size (expression x) ≤ 2 ^ 31
argument_room slot args i x now old low found so_far room =
    let at = argument_at args i low in
    let there = at.1.0 in
    let same : at.0 ≡ x = cc in
    let is : x ≡ get_or args i x = subst (λ y. y ≡ get_or args i y) same at.1.1 in
    let left = arguments_of (drop i args) in
    let all = arguments_of args in
    omega (arith, ap length so_far, length-append now (arguments_code slot (length now) left), length-append old (arguments_code slot (length old) all), length_arguments slot (length now) left, length_arguments slot (length old) all, ap arguments_size (arguments_drop args i x low is))

-- one more argument
pub arguments_emitted : (slot : ℕ) (args : List Expr) (i : ℕ) (x : Expr) (now next whole : List Op) → i < length args → x ≡ get_or args i x → now ++ arguments_code slot (length now) (arguments_of (drop i args)) ≡ whole → next ≡ now ++ expression_code slot (length now) (expression x) → next ++ arguments_code slot (length next) (arguments_of (drop (i + 1) args)) ≡ whole
arguments_emitted slot args i x now next whole low is so_far e =
    let rest = arguments_of (drop (i + 1) args) in
    let at_next = place_after now next (expression_code slot (length now) (expression x)) (expression_size (expression x)) (length_expression slot (length now) (expression x)) e in
    emitted_then now next (next ++ arguments_code slot (length next) rest) (expression_code slot (length now) (expression x)) (arguments_code slot (length next) rest) e refl
    ∙ ap (λ k. now ++ (expression_code slot (length now) (expression x) ++ arguments_code slot k rest)) at_next
    ∙ sym (ap (λ l. now ++ arguments_code slot (length now) l) (arguments_drop args i x low is)) ∙ so_far

-- ---- statements

pub store_emitted : (type : CType) (cell : erased.Place) (value : erased.Expression) (end : Option Reading) (scratch : ℕ) (old one two new : List Op) → one ≡ old ++ before_value scratch (length old) cell → two ≡ one ++ expression_code scratch (length one) value → new ≡ two ++ behind_value scratch type cell end → new ≡ old ++ (before_value scratch (length old) cell ++ (expression_code scratch (length old + before_value_size cell) value ++ behind_value scratch type cell end))
store_emitted type cell value end scratch old one two new = then_expression scratch value (before_value_size cell) old one two new (before_value scratch (length old) cell) (behind_value scratch type cell end) (length_before scratch (length old) cell)

pub update_emitted : (slot : ℕ) (type : CType) (cell : erased.Place) (value : erased.Expression) (operator : Operator) (site : Site) (op load store : Op) (char : Bool) (old one loaded two new : List Op) → op ≡ operator_code operator site → load ≡ load_code type → char ≡ is_char type → store ≡ store_code type → one ≡ old ++ place_code slot (length old) cell → loaded ≡ one ++ ops.Duplicate ∷ load ∷ [] → two ≡ loaded ++ expression_code slot (length loaded) value → new ≡ two ++ op ∷ (byte_code char ++ store ∷ []) → new ≡ old ++ plain_update slot (length old) type cell operator value site
update_emitted slot type cell value operator site op load store char old one loaded two new made loads chars stores first second third fourth =
    let m = length old + place_size cell in
    let last = λ (o : Op) (b : Bool) (s : Op). o ∷ (byte_code b ++ s ∷ []) in
    let behind = last (operator_code operator site) (is_char type) (store_code type) in
    let at_one : length one ≡ m = place_after old one (place_code slot (length old) cell) (place_size cell) (length_place slot (length old) cell) first in
    let at_loaded : length loaded ≡ m + 2 = omega (arith, ap length second, length-append one (ops.Duplicate ∷ load ∷ [])) in
    let inner : two ≡ loaded ++ expression_code slot (m + 2) value = moved_to (λ k. expression_code slot k value) loaded two (length loaded) (m + 2) at_loaded third in
    let loaded_by : loaded ≡ one ++ ops.Duplicate ∷ load_code type ∷ [] = second ∙ ap (λ o. one ++ ops.Duplicate ∷ o ∷ []) loads in
    let stored_by : new ≡ two ++ behind = fourth ∙ ap (λ o. two ++ last o char store) made ∙ ap (λ b. two ++ last (operator_code operator site) b store) chars ∙ ap (λ o. two ++ last (operator_code operator site) (is_char type) o) stores in
    emitted_then old one new (place_code slot (length old) cell) (ops.Duplicate ∷ load_code type ∷ (expression_code slot (m + 2) value ++ behind)) first
    (emitted_then one loaded new (ops.Duplicate ∷ load_code type ∷ []) (expression_code slot (m + 2) value ++ behind) loaded_by
    (emitted_then loaded two new (expression_code slot (m + 2) value) behind inner stored_by))

-- where the value begins
pub old_value_ends : (slot : ℕ) (type : CType) (pointer number : erased.Expression) (size offset : ℕ) (checks : List Check) (old one loaded : List Op) → one ≡ old ++ before_value slot (length old) (erased.Through pointer (erased.Element number size) offset checks)
    → loaded ≡ one ++ (twice_code slot ++ (through_code slot (erased.Element number size) offset checks ++ load_code type ∷ [])) → length loaded ≡ length old + (expression_size pointer + expression_size number) + 6 + through_size (erased.Element number size) offset checks + 1
old_value_ends slot type pointer number size offset checks old one loaded first second =
    let index = erased.Element number size in
    let cell = erased.Through pointer index offset checks in
    let before = expression_size pointer + expression_size number in
    let thr = through_code slot index offset checks in
    let ts = through_size index offset checks in
    let load = load_code type ∷ [] in
    let at_one : length one ≡ length old + before = place_after old one (before_value slot (length old) cell) before (length_before slot (length old) cell) first in
    let long : length (twice_code slot ++ (thr ++ load)) ≡ 6 + (ts + 1) = omega (arith, length-append (twice_code slot) (thr ++ load), length-append thr load, length_through slot index offset checks) in
    omega (arith, ap length second, length-append one (twice_code slot ++ (thr ++ load)), long, at_one)

-- the old value of an element, with its pointer and its number below it, then the new one, and where that goes
pub ended_update_emitted : (slot : ℕ) (type : CType) (pointer number : erased.Expression) (size offset : ℕ) (checks : List Check) (value : erased.Expression) (operator : Operator) (site : Site) (r : Reading) (op : Op) (char : Bool) (old one loaded two kept new : List Op) → op ≡ operator_code operator site → char ≡ is_char type → one ≡ old ++ before_value slot (length old) (erased.Through pointer (erased.Element number size) offset checks)
    → loaded ≡ one ++ (twice_code slot ++ (through_code slot (erased.Element number size) offset checks ++ load_code type ∷ [])) → two ≡ loaded ++ expression_code slot (length loaded) value → kept ≡ two ++ op ∷ (byte_code char ++ ops.Set slot ∷ []) → new ≡ kept ++ ended_code slot type size offset [] r
    → new ≡ old ++ update_code slot (length old) type (erased.Through pointer (erased.Element number size) offset checks) operator value site (Some r)
ended_update_emitted slot type pointer number size offset checks value operator site r op char old one loaded two kept new made chars first second third fourth fifth =
    let index = erased.Element number size in
    let cell = erased.Through pointer index offset checks in
    let before = expression_size pointer + expression_size number in
    let thr = through_code slot index offset checks in
    let ts = through_size index offset checks in
    let load = load_code type ∷ [] in
    let head = twice_code slot ++ (thr ++ load) in
    let m = length old + before + 6 + ts + 1 in
    let e = expression_code slot m value in
    let ended = ended_code slot type size offset [] r in
    let result = λ (o : Op) (b : Bool). o ∷ (byte_code b ++ ops.Set slot ∷ []) in
    let at_loaded : length loaded ≡ m = old_value_ends slot type pointer number size offset checks old one loaded first second in
    let inner : two ≡ loaded ++ e = moved_to (λ k. expression_code slot k value) loaded two (length loaded) m at_loaded third in
    let kept_is : kept ≡ two ++ result (operator_code operator site) (is_char type) = fourth ∙ ap (λ o. two ++ result o char) made ∙ ap (λ b. two ++ result (operator_code operator site) b) chars in
    let whole = emitted_then old one new (before_value slot (length old) cell) (head ++ (e ++ (result (operator_code operator site) (is_char type) ++ ended))) first
    (emitted_then one loaded new head (e ++ (result (operator_code operator site) (is_char type) ++ ended)) second
    (emitted_then loaded two new e (result (operator_code operator site) (is_char type) ++ ended) inner
    (emitted_then two kept new (result (operator_code operator site) (is_char type)) ended kept_is fifth))) in
    let tail = e ++ (operator_code operator site ∷ (byte_code (is_char type) ++ ops.Set slot ∷ ended)) in
    whole
    ∙ ap (λ l. old ++ (before_value slot (length old) cell ++ (head ++ (e ++ (operator_code operator site ∷ l))))) (append_assoc (byte_code (is_char type)) (ops.Set slot ∷ []) ended)
    ∙ ap (λ l. old ++ (before_value slot (length old) cell ++ (twice_code slot ++ l))) (append_assoc thr load tail)

pub local_update_emitted : (p : Places) (char : Bool) (local : ℕ) (value : erased.Expression) (operator : Operator) (site : Site) (op : Op) (old one two new : List Op) → op ≡ operator_code operator site → one ≡ old ++ ops.Local local ∷ [] → two ≡ one ++ expression_code p.scratch (length one) value → new ≡ two ++ op ∷ (byte_code char ++ ops.Set local ∷ []) → new ≡ old ++ statement_code p (length old) (erased.UpdateLocal char local operator value site)
local_update_emitted p char local value operator site op old one two new made first second third =
    let last = λ (o : Op). o ∷ (byte_code char ++ ops.Set local ∷ []) in
    then_expression p.scratch value 1 old one two new (ops.Local local ∷ []) (last (operator_code operator site)) refl first second (third ∙ ap (λ o. two ++ last o) made)

pub condition_emitted : (slot : ℕ) (condition : erased.Expression) (over other : ℕ) (old one new : List Op) → other ≡ length one + (over + 1) → one ≡ old ++ expression_code slot (length old) condition → new ≡ one ++ ops.JumpIfZero other ∷ [] → new ≡ old ++ (expression_code slot (length old) condition ++ ops.JumpIfZero (length old + expression_size condition + 1 + over) ∷ [])
condition_emitted slot condition over other old one new others first second =
    let code = expression_code slot (length old) condition in
    let there : length one ≡ length old + expression_size condition = place_after old one code (expression_size condition) (length_expression slot (length old) condition) first in
    emitted_then old one new code (ops.JumpIfZero (length old + expression_size condition + 1 + over) ∷ []) first
    (moved_to (λ k. ops.JumpIfZero k ∷ []) one new other (length old + expression_size condition + 1 + over) (omega arith) second)

pub if_emitted : (p : Places) (condition : erased.Expression) (consequent alternative : erased.Statement) (over size : ℕ) (old one two jumped new : List Op) → over ≡ statement_size consequent + 1 → size ≡ statement_size alternative → one ≡ old ++ (expression_code p.scratch (length old) condition ++ ops.JumpIfZero (length old + expression_size condition + 1 + over) ∷ []) → two ≡ one ++ statement_code p (length one) consequent → jumped ≡ two ++ ops.Jump (length two + 1 + size) ∷ [] → new ≡ jumped ++ statement_code p (length jumped) alternative → new ≡ old ++ statement_code p (length old) (erased.If condition consequent alternative)
if_emitted p condition consequent alternative over size old one two jumped new is is' first second third fourth =
    let code = expression_code p.scratch (length old) condition in
    let inside = length old + expression_size condition + 1 in
    let other = inside + statement_size consequent + 1 in
    let branch : one ≡ old ++ (code ++ ops.JumpIfZero other ∷ []) = moved_to (λ k. code ++ ops.JumpIfZero k ∷ []) old one (length old + expression_size condition + 1 + over) other (omega arith) first in
    let at_one : length one ≡ inside = omega (arith, place_after old one (code ++ ops.JumpIfZero other ∷ []) (expression_size condition + 1) (omega (arith, length-append code (ops.JumpIfZero other ∷ []), length_expression p.scratch (length old) condition)) branch) in
    let taken : two ≡ one ++ statement_code p inside consequent = moved_to (λ k. statement_code p k consequent) one two (length one) inside at_one second in
    let at_two : length two ≡ length one + statement_size consequent = place_after one two (statement_code p inside consequent) (statement_size consequent) (length_statement p inside consequent) taken in
    let leap : jumped ≡ two ++ ops.Jump (other + statement_size alternative) ∷ [] = moved_to (λ k. ops.Jump k ∷ []) two jumped (length two + 1 + size) (other + statement_size alternative) (omega arith) third in
    let at_jumped : length jumped ≡ other = omega (arith, ap length leap, length-append two (ops.Jump (other + statement_size alternative) ∷ [])) in
    let passed : new ≡ jumped ++ statement_code p other alternative = moved_to (λ k. statement_code p k alternative) jumped new (length jumped) other at_jumped fourth in
    let back = ops.Jump (other + statement_size alternative) ∷ statement_code p other alternative in
    let rest = statement_code p inside consequent ++ back in
    emitted_then old one new (code ++ ops.JumpIfZero other ∷ []) rest branch
    (emitted_then one two new (statement_code p inside consequent) back taken
    (emitted_then two jumped new (ops.Jump (other + statement_size alternative) ∷ []) (statement_code p other alternative) leap passed))
    ∙ ap (λ l. old ++ l) (append_assoc code (ops.JumpIfZero other ∷ []) rest)

pub loop_emitted : (p q : Places) (condition : erased.Expression) (body step : erased.Statement) (turn body_is step_is condition_is : ℕ) (old one two three new : List Op) → turn ≡ length old + 1 → body_is ≡ statement_size body → step_is ≡ statement_size step → condition_is ≡ expression_size condition → q ≡ loop_places p.scratch (length old) body_is step_is condition_is → one ≡ old ++ ops.Jump (q.on_continue + step_is) ∷ ops.Tick ∷ [] → two ≡ one ++ statement_code q (length one) body → three ≡ two ++ statement_code p (length two) step → new ≡ three ++ (expression_code p.scratch (length three) condition ++ ops.JumpIfZero q.on_break ∷ ops.Jump turn ∷ []) → new ≡ old ++ statement_code p (length old) (erased.Loop condition body step)
loop_emitted p q condition body step turn body_is step_is condition_is old one two three new turns bodies steps tests places first second third fourth =
    let inside = length old + 2 in
    let next = inside + statement_size body in
    let test = next + statement_size step in
    let out = test + expression_size condition + 2 in
    let inner : Places = loop_places p.scratch (length old) (statement_size body) (statement_size step) (expression_size condition) in
    let same : q ≡ inner = cc in
    let head = ops.Jump test ∷ ops.Tick ∷ [] in
    let begun : one ≡ old ++ head = first ∙ ap (λ k. old ++ ops.Jump k ∷ ops.Tick ∷ []) (omega (arith, ap (λ r. r.on_continue) same)) in
    let at_one : length one ≡ inside = omega (arith, ap length begun, length-append old head) in
    let turned : two ≡ one ++ statement_code inner inside body = second ∙ ap (λ k. one ++ statement_code q k body) at_one ∙ ap (λ r. one ++ statement_code r inside body) same in
    let at_two : length two ≡ next = omega (arith, place_after one two (statement_code inner inside body) (statement_size body) (length_statement inner inside body) turned) in
    let stepped : three ≡ two ++ statement_code p next step = moved_to (λ k. statement_code p k step) two three (length two) next at_two third in
    let at_three : length three ≡ test = omega (arith, place_after two three (statement_code p next step) (statement_size step) (length_statement p next step) stepped) in
    let last = ops.JumpIfZero out ∷ ops.Jump (length old + 1) ∷ [] in
    let tested : new ≡ three ++ (expression_code p.scratch test condition ++ last) =
    fourth ∙ ap (λ k. three ++ (expression_code p.scratch k condition ++ ops.JumpIfZero q.on_break ∷ ops.Jump turn ∷ [])) at_three
    ∙ ap (λ r. three ++ (expression_code p.scratch test condition ++ ops.JumpIfZero r.on_break ∷ ops.Jump turn ∷ [])) same
    ∙ ap (λ k. three ++ (expression_code p.scratch test condition ++ ops.JumpIfZero out ∷ ops.Jump k ∷ [])) turns in
    let tests_code = expression_code p.scratch test condition ++ last in
    let steps_code = statement_code p next step ++ tests_code in
    emitted_then old one new head (statement_code inner inside body ++ steps_code) begun
    (emitted_then one two new (statement_code inner inside body) steps_code turned
    (emitted_then two three new (statement_code p next step) tests_code stepped tested))

pub statement_sized : (slot : ℕ) (xs : List Stmt) (i : ℕ) (x : Stmt) → i < length xs → x ≡ get_or xs i x → SizedStatements slot (statements_of xs) → SizedStatement slot (statement x)
statement_sized slot [] i x low is sized = absurd (omega arith)
statement_sized slot (y ∷ xs) zero x low is sized = subst (λ z. SizedStatement slot (statement z)) (sym is) sized.0
statement_sized slot (y ∷ xs) (suc i) x low is sized = statement_sized slot xs i x (omega arith) is sized.1

-- there is room for the next statement where there is for all
pub statement_room : (p : Places) (xs : List Stmt) (i : ℕ) (x : Stmt) (now old : List Op) → i < length xs → x ≡ get_or xs i x → now ++ statements_code p (length now) (statements_of (drop i xs)) ≡ old ++ statements_code p (length old) (statements_of xs) → length old + statements_size (statements_of xs) ≤ 2 ^ 31 → length now + statement_size (statement x) ≤ 2 ^ 31
statement_room p xs i x now old low is so_far room =
    let left = statements_of (drop i xs) in
    let all = statements_of xs in
    omega (arith, ap length so_far, length-append now (statements_code p (length now) left), length-append old (statements_code p (length old) all), length_statements p (length now) left, length_statements p (length old) all, ap statements_size (statements_drop xs i x low is))

-- one more statement
pub statements_emitted : (p : Places) (xs : List Stmt) (i : ℕ) (x : Stmt) (now next whole : List Op) → i < length xs → x ≡ get_or xs i x → now ++ statements_code p (length now) (statements_of (drop i xs)) ≡ whole → next ≡ now ++ statement_code p (length now) (statement x) → next ++ statements_code p (length next) (statements_of (drop (i + 1) xs)) ≡ whole
statements_emitted p xs i x now next whole low is so_far e =
    let rest = statements_of (drop (i + 1) xs) in
    let code = statement_code p (length now) (statement x) in
    let at_next = place_after now next code (statement_size (statement x)) (length_statement p (length now) (statement x)) e in
    emitted_then now next (next ++ statements_code p (length next) rest) code (statements_code p (length next) rest) e refl
    ∙ ap (λ k. now ++ (code ++ statements_code p k rest)) at_next
    ∙ sym (ap (λ l. now ++ statements_code p (length now) l) (statements_drop xs i x low is)) ∙ so_far

-- an update by the shape of its place
pub update_by_shape : (slot : ℕ) (type : CType) (cell : erased.Place) (pointer : erased.Expression) (index : erased.Index) (number : erased.Expression) (size offset : ℕ) (checks : List Check) (value : erased.Expression) (operator : Operator) (site : Site) (end : Option Reading) (r : Reading)
    → cell ≡ erased.Through pointer index offset checks → index ≡ erased.Element number size → end ≡ Some r → (op : Op) (char : Bool) (old one loaded two kept new : List Op) → op ≡ operator_code operator site → char ≡ is_char type → one ≡ old ++ before_value slot (length old) cell
    → loaded ≡ one ++ (twice_code slot ++ (through_code slot index offset checks ++ load_code type ∷ [])) → two ≡ loaded ++ expression_code slot (length loaded) value → kept ≡ two ++ op ∷ (byte_code char ++ ops.Set slot ∷ []) → new ≡ kept ++ ended_code slot type size offset [] r
    → new ≡ old ++ update_code slot (length old) type cell operator value site end
update_by_shape slot type cell pointer index number size offset checks value operator site end r made chosen ended =
    rw (made, chosen, ended) (ended_update_emitted slot type pointer number size offset checks value operator site r)

pub room_by_shape : (slot : ℕ) (type : CType) (cell : erased.Place) (pointer : erased.Expression) (index : erased.Index) (number : erased.Expression) (size offset : ℕ) (checks : List Check) (end : Option Reading) (r : Reading)
    → cell ≡ erased.Through pointer index offset checks → index ≡ erased.Element number size → end ≡ Some r → (value byte : ℕ) (old one loaded : List Op) → one ≡ old ++ before_value slot (length old) cell
    → loaded ≡ one ++ (twice_code slot ++ (through_code slot index offset checks ++ load_code type ∷ [])) → length old + update_size cell end value byte ≤ 2 ^ 31 → length loaded + value ≤ 2 ^ 31
room_by_shape slot type cell pointer index number size offset checks end r made chosen ended value byte = rw (made, chosen, ended) within
  where
    within : (old one loaded : List Op) → one ≡ old ++ before_value slot (length old) (erased.Through pointer (erased.Element number size) offset checks) → loaded ≡ one ++ (twice_code slot ++ (through_code slot (erased.Element number size) offset checks ++ load_code type ∷ []))
        → length old + update_size (erased.Through pointer (erased.Element number size) offset checks) (Some r) value byte ≤ 2 ^ 31 → length loaded + value ≤ 2 ^ 31
    within old one loaded first second room = omega (arith, room, old_value_ends slot type pointer number size offset checks old one loaded first second)
