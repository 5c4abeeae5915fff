-- Which checks fail: where a run ends with a check, it has come to a part of the program whose operands gave values of which that
-- check's condition is false.
use Rattle.std.specs.Prelude.{◌≡◌, ℕ, suc, Bool, true, false, ◌&&◌, List, [], Option, Some, slice_get, nat_lt, int_div, pos, replicate, ◌^◌, ◌+◌}
use Rattle.std.specs.Ordering.{int_eq}
use Rattle.std.proofs.Common.{ℤ, ◌+ℤ◌, ◌-ℤ◌, ◌*ℤ◌, neg_ℤ}
use Rattle.ckc_text.specs.declared.code.Code.{Code}
use Rattle.ckc_text.specs.declared.code.Code.TheVariants.{C1, C2, C3, C5, C6, C7, C8, C9}
use Rattle.ckc_text.specs.declared.place.Place.{Place}
use Rattle.flat_bytes.specs.Blocks.{first_offset}
use Rattle.pointer_modes.specs.Types.{CType, Int, Char}
use Rattle.act_words.specs.declared.ending.Ending.TheVariants.{Check}
use Rattle.act_words.specs.declared.settings.Settings.{Settings}
use Rattle.act_words.specs.declared.operator.Operator.{Operator}
use Rattle.act_words.specs.declared.operator.Operator.TheVariants as operators
use Rattle.act_words.specs.declared.operator.ArithmeticOperator.TheVariants as arithmetics
use Rattle.act_words.specs.declared.operator.Comparison.{Comparison}
use Rattle.act_words.specs.Acts.{Act}
use Rattle.act_words.specs.Arithmetic.{is_zero as is_zero_number, is_count, count_of, is_not_negative}
use Rattle.act_words.specs.Checks.{is_word_number}
use Rattle.act_words.specs.Numbers.{signed}
use Rattle.act_words.specs.Touches.{Got, spend_tick, enter_call}
use Rattle.act_words.specs.World.{World, new_world}
use Rattle.ckc_core.specs.declared.program.Callee.{Callee}
use Rattle.ckc_core.specs.declared.program.Callee.TheVariants as callees
use Rattle.ckc_core.specs.declared.program.Direction.{Direction}
use Rattle.ckc_core.specs.declared.program.Direction.TheVariants as directions
use Rattle.ckc_core.specs.declared.program.PointerBounds.{PointerBounds}
use Rattle.ckc_core.specs.declared.program.Site.{Site}
use Rattle.ckc_core.specs.declared.program.Terminator.{Terminator}
use Rattle.ckc_core.specs.Bounds.{Ends as EndsOf, ends_at, with_ends}
use Rattle.ckc_core.specs.Core as core
use Rattle.ckc_core.specs.Meaning.{Knot, Setting, Target, bounds_of, effect, knot, meaning, place_from, target_of, value, values}
use Rattle.ckc_core.specs.Outcome.{Gives, Ends}
use Rattle.ckc_core.specs.Pointers.{are_within, distance, lies_in, lies_up_to}
use Rattle.ckc_core.specs.Programs.{Import, Initial, parted}
use Rattle.ckc_core.specs.States.{Value, Number, Null, At, Local, State, in_world}
use Rattle.ckc_core.specs.Steps.{Flow, Next, Continued, arithmetic_of, cross, initial, is_char, is_zero, kept_if, load_at, locals_for}
use Rattle.ckc_core.specs.Steps.{setting_of, truth, words_of}

-- ---- conditions that are false

-- an operator has no result: it overflows (C6), a divisor is 0 (C7), or a shift isn't one (C8)
pub data HasNoResult : Operator → (left right : ℤ) → Code → Type 0 where
  sum : {a b : ℤ} → is_word_number (a +ℤ b) ≡ false → HasNoResult (operators.Arithmetic arithmetics.Add) a b C6
  difference : {a b : ℤ} → is_word_number (a -ℤ b) ≡ false → HasNoResult (operators.Arithmetic arithmetics.Subtract) a b C6
  product : {a b : ℤ} → is_word_number (a *ℤ b) ≡ false → HasNoResult (operators.Arithmetic arithmetics.Multiply) a b C6
  divided_by_zero : {a b : ℤ} → is_zero_number b ≡ true → HasNoResult (operators.Arithmetic arithmetics.Divide) a b C7
  quotient : {a b : ℤ} → is_zero_number b ≡ false → is_word_number (int_div a b) ≡ false → HasNoResult (operators.Arithmetic arithmetics.Divide) a b C6
  remainder_by_zero : {a b : ℤ} → is_zero_number b ≡ true → HasNoResult (operators.Arithmetic arithmetics.Remainder) a b C7
  remainder : {a b : ℤ} → is_zero_number b ≡ false → is_word_number (int_div a b) ≡ false → HasNoResult (operators.Arithmetic arithmetics.Remainder) a b C6
  shift_left : {a b : ℤ} → (is_count b && (is_not_negative a && is_word_number (a *ℤ pos (2 ^ count_of b)))) ≡ false
      → HasNoResult (operators.Arithmetic arithmetics.ShiftLeft) a b C8
  shift_right : {a b : ℤ} → is_count b ≡ false → HasNoResult (operators.Arithmetic arithmetics.ShiftRight) a b C8

-- an access has no place: its pointer is null (C1), or its element doesn't lie within the pointer's ends (C2)
pub data IsOutside : core.Index → Target → Code → Type 0 where
  null : {index : core.Index} {t : Target} → t.pointer.value ≡ Null → IsOutside index t C1
  outside : {number : core.Expression} {terminated : Bool} {t : Target} {block byte : ℕ} {e : EndsOf} → t.pointer.value ≡ At block byte
      → t.pointer.ends ≡ Some e → lies_in terminated e (pos byte +ℤ distance directions.Forward e.size t.number) ≡ false
      → IsOutside (core.Element number terminated) t C2

-- a value other than 0 stands where the terminator of a null-terminated pointer does (C3)
pub data OverTerminator : core.Index → Target → Value → Type 0 where
  at_end : {number : core.Expression} {t : Target} {v : Value} {block byte : ℕ} {e : EndsOf} → t.pointer.value ≡ At block byte → t.pointer.ends ≡ Some e
      → is_zero v ≡ false → int_eq (pos byte +ℤ distance directions.Forward e.size t.number) e.high ≡ true
      → OverTerminator (core.Element number true) t v

-- ---- parts of a program

-- what is evaluated: an expression, arguments, a place, the pointer and the number of one, a statement, statements, or a call of a function
pub data Part : Type 0 where
  OfExpression : (e : core.Expression) → Part
  OfArguments : (arguments : core.Arguments) → Part
  OfPlace : (place : core.Place) → Part
  OfTarget : (place : core.Place) → Part
  OfStatement : (x : core.Statement) → Part
  OfStatements : (xs : core.Statements) → Part
  OfCall : (function : ℕ) (arguments : List Value) → Part

-- an expression with one operand, which is always evaluated
pub data HasOperand : core.Expression → core.Expression → Type 0 where
  negate : {e : core.Expression} {site : Site} → HasOperand (core.Negate e site) e
  complement : {e : core.Expression} → HasOperand (core.Complement e) e
  inverse : {e : core.Expression} → HasOperand (core.Not e) e
  low_byte : {e : core.Expression} → HasOperand (core.LowByte e) e
  allocate : {e : core.Expression} {element : List Initial} {terminator : Terminator} {b : Option PointerBounds}
      → HasOperand (core.Allocate e element terminator b) e
  length : {e : core.Expression} {site : Site} → HasOperand (core.Length e site) e
  cast_of : {e : core.Expression} {b : Option PointerBounds} → HasOperand (core.Cast e b) e

-- one with two operands, which are evaluated one after the other
pub data HasOperands : core.Expression → (left right : core.Expression) → Type 0 where
  arithmetic : {operator : Operator} {a b : core.Expression} {site : Site} → HasOperands (core.Arithmetic operator a b site) a b
  compare : {comparison : Comparison} {a b : core.Expression} → HasOperands (core.Compare comparison a b) a b
  same : {a b : core.Expression} → HasOperands (core.Same a b) a b
  order : {comparison : Comparison} {a b : core.Expression} {site : Site} → HasOperands (core.Order comparison a b site) a b
  sum_of : {a b : core.Expression} {direction : Direction} {site : Site} {bounds : Option PointerBounds} → HasOperands (core.Sum a direction b site bounds) a b

-- a statement that begins with the value of an expression
pub data BeginsWith : core.Statement → core.Expression → Type 0 where
  set_local : {local : ℕ} {e : core.Expression} → BeginsWith (core.SetLocal local e) e
  update_local : {char : Bool} {local : ℕ} {operator : Operator} {e : core.Expression} {site : Site}
      → BeginsWith (core.UpdateLocal char local operator e site) e
  evaluate : {e : core.Expression} → BeginsWith (core.Evaluate e) e
  print : {e : core.Expression} → BeginsWith (core.Print e) e
  put_byte : {e : core.Expression} → BeginsWith (core.PutByte e) e
  choice : {e : core.Expression} {x y : core.Statement} → BeginsWith (core.If e x y) e
  loop : {e : core.Expression} {x y : core.Statement} → BeginsWith (core.Loop e x y) e
  return : {e : core.Expression} → BeginsWith (core.Return e) e

-- a call in an expression, or alone
pub data CallsWith : Part → Callee → core.Arguments → Type 0 where
  call_in : {callee : Callee} {arguments : core.Arguments} {b : Option PointerBounds} → CallsWith (OfExpression (core.Call callee arguments b)) callee arguments
  alone : {callee : Callee} {arguments : core.Arguments} → CallsWith (OfStatement (core.CallAlone callee arguments)) callee arguments

-- behind a turn's body the loop goes on
pub data GoesOn : Flow → Type 0 where
  next : GoesOn Next
  continued : GoesOn Continued

-- a turn of a loop has begun: its condition holds, and its tick is spent
pub record BeginsTurn (g : Setting) (k : Knot) (condition : core.Expression) (s after : State) : Type 0 where
  pub v : Value
  pub t : State
  pub w : World
  pub condition_gives : value false g k condition s ≡ Gives v t
  pub holds : truth v ≡ true
  pub tick : spend_tick g.budget t.world ≡ Got tt w
  pub after_is : after ≡ in_world w t

-- and its body has ended
pub record EndsBody (g : Setting) (k : Knot) (condition : core.Expression) (body : core.Statement) (s after : State) : Type 0 where
  pub u : State
  pub begins : BeginsTurn g k condition s u
  pub flow : Flow
  pub body_gives : effect false g k body u ≡ Gives flow after
  pub goes_on : GoesOn flow

-- the old value of a cell that is updated, and the state behind the load
pub record Loads (g : Setting) (k : Knot) (type : CType) (p : core.Place) (site : Site) (s : State) (q : Target) (old : Value) (after : State) : Type 0 where
  pub t : State
  pub u : State
  pub at : ℕ × ℕ
  pub target_gives : target_of false g k p s ≡ Gives q t
  pub place_gives : place_from p q t ≡ Gives at u
  pub load_gives : load_at type (Some site) at u ≡ Gives old after

-- a part that is evaluated on the way through another one from a state, and the state in which it is evaluated
pub data Comes (g : Setting) (k : Knot) : Part → State → Part → State → Type 0 where
  operand : {x e : core.Expression} {s : State} → HasOperand x e → Comes g k (OfExpression x) s (OfExpression e) s
  left : {x a b : core.Expression} {s : State} → HasOperands x a b → Comes g k (OfExpression x) s (OfExpression a) s
  right : {x a b : core.Expression} {v : Value} {s t : State} → HasOperands x a b → value false g k a s ≡ Gives v t
      → Comes g k (OfExpression x) s (OfExpression b) t
  and_left : {a b : core.Expression} {s : State} → Comes g k (OfExpression (core.AndAlso a b)) s (OfExpression a) s
  and_right : {a b : core.Expression} {v : Value} {s t : State} → value false g k a s ≡ Gives v t → truth v ≡ true
      → Comes g k (OfExpression (core.AndAlso a b)) s (OfExpression b) t
  or_left : {a b : core.Expression} {s : State} → Comes g k (OfExpression (core.OrElse a b)) s (OfExpression a) s
  or_right : {a b : core.Expression} {v : Value} {s t : State} → value false g k a s ≡ Gives v t → truth v ≡ false
      → Comes g k (OfExpression (core.OrElse a b)) s (OfExpression b) t
  load : {type : CType} {p : core.Place} {b : Option PointerBounds} {s : State} → Comes g k (OfExpression (core.Load type p b)) s (OfPlace p) s
  address : {p : core.Place} {b : Option PointerBounds} {s : State} → Comes g k (OfExpression (core.AddressOf p b)) s (OfPlace p) s
  arguments : {x : Part} {callee : Callee} {es : core.Arguments} {s : State} → CallsWith x callee es → Comes g k x s (OfArguments es) s
  first : {e : core.Expression} {es : core.Arguments} {s : State} → Comes g k (OfArguments (core.More e es)) s (OfExpression e) s
  rest : {e : core.Expression} {es : core.Arguments} {v : Value} {s t : State} → value false g k e s ≡ Gives v t
      → Comes g k (OfArguments (core.More e es)) s (OfArguments es) t
  target : {p : core.Place} {s : State} → Comes g k (OfPlace p) s (OfTarget p) s
  pointer : {e : core.Expression} {index : core.Index} {offset : ℕ} {site : Site} {s : State}
      → Comes g k (OfTarget (core.Through e index offset site)) s (OfExpression e) s
  number : {e i : core.Expression} {terminated : Bool} {offset : ℕ} {site : Site} {v : Value} {s t : State} → value false g k e s ≡ Gives v t
      → Comes g k (OfTarget (core.Through e (core.Element i terminated) offset site)) s (OfExpression i) t
  begins : {x : core.Statement} {e : core.Expression} {s : State} → BeginsWith x e → Comes g k (OfStatement x) s (OfExpression e) s
  store_target : {type : CType} {p : core.Place} {e : core.Expression} {s : State} → Comes g k (OfStatement (core.Store type p e)) s (OfTarget p) s
  stored : {type : CType} {p : core.Place} {e : core.Expression} {q : Target} {s t : State} → target_of false g k p s ≡ Gives q t
      → Comes g k (OfStatement (core.Store type p e)) s (OfExpression e) t
  update_target : {type : CType} {p : core.Place} {operator : Operator} {e : core.Expression} {site : Site} {s : State}
      → Comes g k (OfStatement (core.Update type p operator e site)) s (OfTarget p) s
  updated_by : {type : CType} {p : core.Place} {operator : Operator} {e : core.Expression} {site : Site} {q : Target} {old : Value} {s t : State}
      → Loads g k type p site s q old t → Comes g k (OfStatement (core.Update type p operator e site)) s (OfExpression e) t
  block : {xs : core.Statements} {s : State} → Comes g k (OfStatement (core.Block xs)) s (OfStatements xs) s
  consequent : {e : core.Expression} {x y : core.Statement} {v : Value} {s t : State} → value false g k e s ≡ Gives v t → truth v ≡ true
      → Comes g k (OfStatement (core.If e x y)) s (OfStatement x) t
  alternative : {e : core.Expression} {x y : core.Statement} {v : Value} {s t : State} → value false g k e s ≡ Gives v t → truth v ≡ false
      → Comes g k (OfStatement (core.If e x y)) s (OfStatement y) t
  body : {e : core.Expression} {x y : core.Statement} {s t : State} → BeginsTurn g k e s t → Comes g k (OfStatement (core.Loop e x y)) s (OfStatement x) t
  step : {e : core.Expression} {x y : core.Statement} {s t : State} → EndsBody g k e x s t → Comes g k (OfStatement (core.Loop e x y)) s (OfStatement y) t
  statement : {x : core.Statement} {xs : core.Statements} {s : State} → Comes g k (OfStatements (core.Then x xs)) s (OfStatement x) s
  statements : {x : core.Statement} {xs : core.Statements} {s t : State} → effect false g k x s ≡ Gives Next t
      → Comes g k (OfStatements (core.Then x xs)) s (OfStatements xs) t
  function : {f : ℕ} {vs : List Value} {s : State} {found : core.Function} → slice_get g.program.functions f ≡ Some found
      → Comes g k (OfCall f vs) s (OfStatements found.body) (record s { locals = locals_for found.locals vs; depth = s.depth + 1 })

-- a part that is evaluated with a tick less: a call of a function, or a further turn
pub data ComesDeeper (g : Setting) (k : Knot) : Part → State → Part → State → Type 0 where
  call : {x : Part} {f : ℕ} {es : core.Arguments} {vs : List Value} {s t : State} {w w' : World} → CallsWith x (callees.Trusted f) es
      → values false g k es s ≡ Gives vs t → spend_tick g.budget t.world ≡ Got tt w → enter_call t.depth w ≡ Got tt w'
      → ComesDeeper g k x s (OfCall f vs) (in_world w' (in_world w t))
  turn : {e : core.Expression} {x y : core.Statement} {s t u : State} → EndsBody g k e x s t → effect false g k y t ≡ Gives Next u
      → ComesDeeper g k (OfStatement (core.Loop e x y)) s (OfStatement (core.Loop e x y)) u

-- ---- checks that fail

-- a check of a part's own is false of what its operands gave: a check with its code, at its site
pub data Breaks (g : Setting) (k : Knot) : Part → State → Code → Site → Type 0 where
  operation : {operator : Operator} {e f : core.Expression} {site : Site} {a b : ℤ} {code : Code} {s t u : State} → value false g k e s ≡ Gives (Number a) t
      → value false g k f t ≡ Gives (Number b) u → HasNoResult operator a b code → Breaks g k (OfExpression (core.Arithmetic operator e f site)) s code site
  negation : {e : core.Expression} {site : Site} {a : ℤ} {s t : State} → value false g k e s ≡ Gives (Number a) t → is_word_number (neg_ℤ a) ≡ false
      → Breaks g k (OfExpression (core.Negate e site)) s C6 site
  sum_of_null : {e f : core.Expression} {direction : Direction} {site : Site} {b : Option PointerBounds} {n : ℤ} {s t u : State}
      → value false g k e s ≡ Gives Null t → value false g k f t ≡ Gives (Number n) u → Breaks g k (OfExpression (core.Sum e direction f site b)) s C1 site
  sum_outside : {e f : core.Expression} {direction : Direction} {site : Site} {b : Option PointerBounds} {n : ℤ} {block byte : ℕ} {ends : EndsOf}
      {s t u : State}
      → value false g k e s ≡ Gives (At block byte) t → value false g k f t ≡ Gives (Number n) u
      → (with_ends (bounds_of e) (At block byte) t.locals).ends ≡ Some ends → lies_up_to ends (pos byte +ℤ distance direction ends.size n) ≡ false
      → Breaks g k (OfExpression (core.Sum e direction f site b)) s C2 site
  left_null : {comparison : Comparison} {e f : core.Expression} {site : Site} {v : Value} {s t u : State} → value false g k e s ≡ Gives Null t
      → value false g k f t ≡ Gives v u → Breaks g k (OfExpression (core.Order comparison e f site)) s C1 site
  right_null : {comparison : Comparison} {e f : core.Expression} {site : Site} {v : Value} {s t u : State} → value false g k e s ≡ Gives v t
      → value false g k f t ≡ Gives Null u → Breaks g k (OfExpression (core.Order comparison e f site)) s C1 site
  length_of_null : {e : core.Expression} {site : Site} {s t : State} → value false g k e s ≡ Gives Null t
      → Breaks g k (OfExpression (core.Length e site)) s C1 site
  length_outside : {e : core.Expression} {site : Site} {block byte : ℕ} {ends : EndsOf} {s t : State} → value false g k e s ≡ Gives (At block byte) t
      → (with_ends (bounds_of e) (At block byte) t.locals).ends ≡ Some ends → lies_up_to ends (pos byte) ≡ false
      → Breaks g k (OfExpression (core.Length e site)) s C2 site
  cast : {e : core.Expression} {p : PointerBounds} {block byte : ℕ} {old new : EndsOf} {s t : State} → value false g k e s ≡ Gives (At block byte) t
      → (with_ends (bounds_of e) (At block byte) t.locals).ends ≡ Some old → ends_at p t.locals block byte ≡ Some new → are_within old new ≡ false
      → Breaks g k (OfExpression (core.Cast e (Some p))) s C5 p.site
  access : {e : core.Expression} {index : core.Index} {offset : ℕ} {site : Site} {q : Target} {code : Code} {s t : State}
      → target_of false g k (core.Through e index offset site) s ≡ Gives q t → IsOutside index q code
      → Breaks g k (OfPlace (core.Through e index offset site)) s code site
  store : {type : CType} {e f : core.Expression} {index : core.Index} {offset : ℕ} {site : Site} {q : Target} {v : Value} {code : Code} {s t u : State}
      → target_of false g k (core.Through e index offset site) s ≡ Gives q t → value false g k f t ≡ Gives v u → IsOutside index q code
      → Breaks g k (OfStatement (core.Store type (core.Through e index offset site) f)) s code site
  store_over_terminator : {type : CType} {e f : core.Expression} {index : core.Index} {offset : ℕ} {site : Site} {q : Target} {v : Value} {s t u : State}
      → target_of false g k (core.Through e index offset site) s ≡ Gives q t → value false g k f t ≡ Gives v u → OverTerminator index q v
      → Breaks g k (OfStatement (core.Store type (core.Through e index offset site) f)) s C3 site
  update : {type : CType} {operator : Operator} {e f : core.Expression} {index : core.Index} {offset : ℕ} {site site' : Site} {q : Target} {code : Code}
      {s t : State} → target_of false g k (core.Through e index offset site) s ≡ Gives q t → IsOutside index q code
      → Breaks g k (OfStatement (core.Update type (core.Through e index offset site) operator f site')) s code site
  updated : {type : CType} {operator : Operator} {p : core.Place} {f : core.Expression} {site : Site} {q : Target} {a b : ℤ} {code : Code} {s t u : State}
      → Loads g k type p site s q (Number a) t → value false g k f t ≡ Gives (Number b) u → HasNoResult operator a b code
      → Breaks g k (OfStatement (core.Update type p operator f site)) s code site
  update_over_terminator : {type : CType} {operator : Operator} {e f : core.Expression} {index : core.Index} {offset : ℕ} {site site' : Site} {q : Target}
      {old new kept v : Value} {s t u x y : State} → Loads g k type (core.Through e index offset site) site' s q old t → value false g k f t ≡ Gives v u
      → arithmetic_of operator site' old v u ≡ Gives new x → kept_if (is_char type) new x ≡ Gives kept y → OverTerminator index q kept
      → Breaks g k (OfStatement (core.Update type (core.Through e index offset site) operator f site')) s C3 site
  local_updated : {char : Bool} {local : ℕ} {operator : Operator} {f : core.Expression} {site : Site} {l : Local} {a b : ℤ} {code : Code} {s t : State}
      → slice_get s.locals local ≡ Some l → l.value ≡ Number a → value false g k f s ≡ Gives (Number b) t → HasNoResult operator a b code
      → Breaks g k (OfStatement (core.UpdateLocal char local operator f site)) s code site
  -- the word that the sandbox answers a call with is no `char`: as an `int` it is this number
  reply : {x : Part} {import : ℕ} {i : Import} {es : core.Arguments} {site : Site} {vs : List Value} {s t u : State} (reply : ℕ)
      → CallsWith x (callees.Tainted import site) es → values false g k es s ≡ Gives vs t → slice_get g.program.imports import ≡ Some i
      → i.result ≡ Some Char → cross g k import (record i { result = Some Int }) site (words_of vs) t ≡ Gives (Some (Number (signed reply))) u
      → nat_lt reply 256 ≡ false → Breaks g k x s C9 site

-- the evaluation of a part from a state comes to a check that fails, where so many ticks may be spent
pub data Fails (g : Setting) : ℕ → Part → State → Code → Site → Type 0 where
  itself : {ticks : ℕ} {x : Part} {s : State} {code : Code} {site : Site} → Breaks g (knot false g ticks) x s code site → Fails g ticks x s code site
  inside : {ticks : ℕ} {x y : Part} {s t : State} {code : Code} {site : Site} → Comes g (knot false g ticks) x s y t → Fails g ticks y t code site
      → Fails g ticks x s code site
  deeper : {ticks : ℕ} {x y : Part} {s t : State} {code : Code} {site : Site} → ComesDeeper g (knot false g (suc ticks)) x s y t → Fails g ticks y t code site
      → Fails g (suc ticks) x s code site

-- the run of a program comes to a check that fails: one with this code, at a site of this place
pub record FailsAt (program : core.Core) (settings : Settings) (inputs : List ℤ) (acts : List Act) (code : Code) (place : Place) : Type 0 where
  pub site : Site
  pub place_is : site.place ≡ place
  pub fails : Fails (setting_of (parted program) settings) settings.budget (OfCall (parted program).main [])
      (initial (parted program) (new_world (replicate settings.sandbox 0) first_offset inputs acts)) code site

-- where a run ends with a check, that check's condition is false at the place that it names
abbrev pub FailedChecks : core.Core → Type 0
FailedChecks program =
    (settings : Settings) (inputs : List ℤ) (acts : List Act) (code : Code) (place : Place) (s : State)
    → meaning program settings inputs acts ≡ Ends (Check code place) s → FailsAt program settings inputs acts code place
