-- Terms and locals that are read off expressions are what a flow asks for.
use Rattle.std.proofs.Common.{◌≡◌, ℕ, ◌<◌, ◌≤◌, ℤ, pos, neg_ℤ, ◌+ℤ◌, ◌-ℤ◌, ◌*ℤ◌, Bool, true, false, cond, List, length, map, Option, Some, None, refl, arith}
use Rattle.std.specs.Prelude.{slice_get, is_none}
use Rattle.std.specs.Int.Signed.{le_z}
use Rattle.std.proofs.lemmas.Bool.{and_parts}
use Rattle.std.proofs.lemmas.Int.{ints}
use Rattle.std.proofs.lemmas.List.{length-map}
use Rattle.std.proofs.lemmas.Option.{slice_get_within}
use Rattle.act_words.specs.declared.operator.Operator.TheVariants as operators
use Rattle.act_words.specs.declared.operator.ArithmeticOperator.TheVariants as arithmetics
use Rattle.bounds_exprs.specs.declared.term.Term.{Term}
use Rattle.bounds_exprs.specs.Terms.{is_within, term_limit, within_limit}
use Rattle.bounds_exprs.specs.Parts.{added, subtracted, multiplied}
use Rattle.subsumption.specs.Facts.{IsBelow}
use Rattle.subsumption.proofs.TableConstants.{le_from}
use Rattle.bounds_flow.specs.Conditions.{IsTermBelow, IsSmall}
use Rattle.pointer_modes.specs.declared.ctype.CType as code
use Rattle.pointer_modes.specs.Types.{CType, Int, Char, Struct, Pointer, ctype}
use Rattle.ckc_core.specs.declared.program.PointerBounds.{PointerBounds}
use Rattle.ckc_core.specs.Core as core
use Rattle.region_typing_rules.specs.Verdicts.{picked}
use Rattle.region_typing_rules.specs.Readings.{term, constant}
use Rattle.region_typing_flow.specs.Conditions.{IsLocalBelow, IsTermSmall}

limit_small : (vars : ℕ) (var : Option ℕ) (z : ℤ) → IsBelow vars var → IsTermSmall vars (within_limit var z)
limit_small vars var z h = by (is_within term_limit z) refl
  where
    by : (b : Bool) → is_within term_limit z ≡ b → IsTermSmall vars (cond b (Some (record { var = var; plus = z })) None)
    by false e = tt
    by true e =
        let parts = and_parts (le_z (neg_ℤ (pos term_limit)) z) (le_z z (pos term_limit)) e in
        record { var = h; plus = record { low = le_from _ _ parts.0; high = le_from _ _ parts.1 } }

cond_small : (vars : ℕ) (b : Bool) (s t : Option Term) → IsTermSmall vars s → IsTermSmall vars t → IsTermSmall vars (cond b s t)
cond_small vars true s t h k = h
cond_small vars false s t h k = k

added_small : (vars : ℕ) (s t : Option Term) → IsTermSmall vars s → IsTermSmall vars t → IsTermSmall vars (added s t)
added_small vars None t h k = tt
added_small vars (Some s) None h k = tt
added_small vars (Some s) (Some t) h k = cond_small vars (is_none s.var) _ _ (limit_small vars t.var (s.plus +ℤ t.plus) k.var) (cond_small vars (is_none t.var) _ None (limit_small vars s.var (s.plus +ℤ t.plus) h.var) tt)

subtracted_small : (vars : ℕ) (s t : Option Term) → IsTermSmall vars s → IsTermSmall vars (subtracted s t)
subtracted_small vars None t h = tt
subtracted_small vars (Some s) None h = tt
subtracted_small vars (Some s) (Some t) h = cond_small vars (is_none t.var) _ None (limit_small vars s.var (s.plus -ℤ t.plus) h.var) tt

multiplied_small : (vars : ℕ) (s t : Option Term) → IsTermSmall vars (multiplied s t)
multiplied_small vars None t = tt
multiplied_small vars (Some s) None = tt
multiplied_small vars (Some s) (Some t) = cond_small vars (is_none s.var) _ None (cond_small vars (is_none t.var) _ None (limit_small vars None (s.plus *ℤ t.plus) tt) tt) tt

local_small : (vars : ℕ) (types : List CType) (local : ℕ) (bounds : Option PointerBounds) (o : Option CType) → length types ≤ vars → slice_get types local ≡ o → IsTermSmall vars (term types (core.Local local bounds))
local_small vars types local bounds None less e = rw e tt
local_small vars types local bounds (Some Int) less e =
    let below : local < vars = omega (arith, slice_get_within types local Int e) in
    rw e (record { var = below; plus = record { low = omega (arith, ints); high = omega (arith, ints) } })
local_small vars types local bounds (Some Char) less e = rw e tt
local_small vars types local bounds (Some (Struct number)) less e = rw e tt
local_small vars types local bounds (Some (Pointer mode kind target)) less e = rw e tt

-- the term of an expression
term_small : (vars : ℕ) (types : List CType) (e : core.Expression) → length types ≤ vars → IsTermSmall vars (term types e)
term_small vars types (core.Number number) less = limit_small vars None number tt
term_small vars types (core.Local local bounds) less = local_small vars types local bounds (slice_get types local) less refl
term_small vars types (core.Arithmetic (operators.Arithmetic arithmetics.Add) left right site) less = added_small vars (term types left) (term types right) (term_small vars types left less) (term_small vars types right less)
term_small vars types (core.Arithmetic (operators.Arithmetic arithmetics.Subtract) left right site) less = subtracted_small vars (term types left) (term types right) (term_small vars types left less)
term_small vars types (core.Arithmetic (operators.Arithmetic arithmetics.Multiply) left right site) less = multiplied_small vars (term types left) (term types right)
term_small vars types (core.Arithmetic (operators.Arithmetic arithmetics.Divide) left right site) less = tt
term_small vars types (core.Arithmetic (operators.Arithmetic arithmetics.Remainder) left right site) less = tt
term_small vars types (core.Arithmetic (operators.Arithmetic arithmetics.ShiftLeft) left right site) less = tt
term_small vars types (core.Arithmetic (operators.Arithmetic arithmetics.ShiftRight) left right site) less = tt
term_small vars types (core.Arithmetic (operators.Bitwise operator) left right site) less = tt
term_small vars types core.Null less = tt
term_small vars types (core.Load type place bounds) less = tt
term_small vars types (core.AddressOf place bounds) less = tt
term_small vars types (core.Negate operand site) less = tt
term_small vars types (core.Complement operand) less = tt
term_small vars types (core.Not operand) less = tt
term_small vars types (core.Compare comparison left right) less = tt
term_small vars types (core.Same left right) less = tt
term_small vars types (core.AndAlso left right) less = tt
term_small vars types (core.OrElse left right) less = tt
term_small vars types (core.LowByte operand) less = tt
term_small vars types (core.Call callee arguments bounds) less = tt
term_small vars types core.NextInput less = tt
term_small vars types (core.Sum pointer direction number site bounds) less = tt
term_small vars types (core.Order comparison left right site) less = tt
term_small vars types (core.Allocate count element terminator bounds) less = tt
term_small vars types (core.Length pointer site) less = tt
term_small vars types (core.Cast pointer bounds) less = tt

-- the same by the types of the code
pub term_within : (vars : ℕ) (locals : List code.CType) (e : core.Expression) → length locals ≤ vars → IsTermSmall vars (term (map ctype locals) e)
term_within vars locals e less = term_small vars (map ctype locals) e (rw length-map less)

-- the number of a constant expression
pub constant_small : (types : List CType) (e : core.Expression) → IsSmall (constant types e)
constant_small types e = by (term types e) refl (term_small (length types) types e (omega arith))
  where
    by : (o : Option Term) → term types e ≡ o → IsTermSmall (length types) o → IsSmall (constant types e)
    by None is h = rw is tt
    by (Some t) is h = rw is (whether (is_none t.var))
      where
        whether : (b : Bool) → IsSmall (picked b (Some t.plus) None)
        whether true = h.plus
        whether false = tt

pub local_later : (m n : ℕ) (o : Option ℕ) → m ≤ n → IsLocalBelow m o → IsLocalBelow n o
local_later m n None less h = tt
local_later m n (Some local) less h = omega arith

pub small_below : (vars : ℕ) (o : Option Term) → IsTermSmall vars o → IsTermBelow vars o
small_below vars None h = tt
small_below vars (Some t) h = h.var
