-- Single instructions, and what they say of the pace: most neither jump nor call, and count no elements.
use Rattle.std.proofs.Common.{◌≡◌, ℕ, Bool, true, false, Option, Some, None, refl}
use Rattle.std.specs.Prelude.{not, ◌&&◌, ◌||◌}
use Rattle.ckc_core.specs.declared.program.Site.{Site}
use Rattle.act_words.specs.declared.operator.Operator.{Operator}
use Rattle.act_words.specs.declared.operator.Operator.TheVariants as operators
use Rattle.act_words.specs.declared.operator.Comparison.{Comparison}
use Rattle.act_words.specs.declared.operator.Comparison.TheVariants as comparisons
use Rattle.ckc_core.specs.declared.program.Callee.{Callee}
use Rattle.ckc_core.specs.declared.program.Callee.TheVariants as callees
use Rattle.ckc_core.specs.declared.program.Terminator.{Terminator}
use Rattle.ckc_core.specs.declared.program.Terminator.TheVariants as terminators
use Rattle.code_words.specs.declared.op.Op.{Op}
use Rattle.code_words.specs.Paced.{is_call, target_of}
use Rattle.code_words.specs.Formats.{element_size}
use Rattle.lowering.specs.Code.{operator_code, load_if, store_if, order_op, callee_code, allocation_code}

-- where an instruction jumps, and the size of the elements that it counts
abbrev pub named : Op → Option ℕ × Option ℕ
named op = (target_of op, element_size op)

-- an instruction that neither jumps nor calls, and counts no elements
pub record IsCalm (op : Op) : Type 0 where
  pub no_jump : named op ≡ (None, None)
  pub no_call : is_call op ≡ false

pub calm_operator : (operator : Operator) (site : Site) → IsCalm (operator_code operator site)
calm_operator (operators.Arithmetic operator) site = record { no_jump = refl; no_call = refl }
calm_operator (operators.Bitwise operator) site = record { no_jump = refl; no_call = refl }

-- a call leads to no other instruction of its function, and counts no elements
pub callee_no_jump : (callee : Callee) → named (callee_code callee) ≡ (None, None)
callee_no_jump (callees.Trusted function) = refl
callee_no_jump (callees.Tainted import site) = refl

pub calm_order : (comparison : Comparison) → IsCalm (order_op comparison)
calm_order comparisons.Equal = record { no_jump = refl; no_call = refl }
calm_order comparisons.NotEqual = record { no_jump = refl; no_call = refl }
calm_order comparisons.Less = record { no_jump = refl; no_call = refl }
calm_order comparisons.LessEqual = record { no_jump = refl; no_call = refl }
calm_order comparisons.Greater = record { no_jump = refl; no_call = refl }
calm_order comparisons.GreaterEqual = record { no_jump = refl; no_call = refl }

pub allocation_free : (terminator : Terminator) (size : ℕ) → is_call (allocation_code terminator size) ≡ false
allocation_free terminators.Absent size = refl
allocation_free terminators.Last size = refl
allocation_free terminators.Behind size = refl

pub calm_load : (char : Bool) → IsCalm (load_if char)
calm_load true = record { no_jump = refl; no_call = refl }
calm_load false = record { no_jump = refl; no_call = refl }

pub calm_store : (char : Bool) → IsCalm (store_if char)
calm_store true = record { no_jump = refl; no_call = refl }
calm_store false = record { no_jump = refl; no_call = refl }

pub first_true : (a b : Bool) → (a && b) ≡ true → a ≡ true
first_true true b h = refl
first_true false b h = h

pub second_true : (a b : Bool) → (a && b) ≡ true → b ≡ true
second_true true b h = h
second_true false b h = absurd (cc)

pub either : (b : Bool) → (b || true) ≡ true
either true = refl
either false = refl

abbrev pub no_call_in : Option Op → Bool
no_call_in None = true
no_call_in (Some op) = not (is_call op)
