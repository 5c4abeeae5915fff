-- What is known behind assignments, by what is tracked of a local.
use Rattle.std.proofs.Common.{◌≡◌, ℕ, suc, ◌<◌, true, List, length, Option, Some, None, refl}
use Rattle.std.specs.Prelude.{slice_get}
use Rattle.std.proofs.lemmas.Option.{slice_get_within}
use Rattle.bounds_flow.specs.Flows.{Knowledge, left}
use Rattle.pointer_modes.specs.declared.ctype.Kind.{Kind}
use Rattle.pointer_modes.specs.Types.{CType, Int, Char, Struct, Pointer}
use Rattle.ckc_core.specs.Core.{Expression}
use Rattle.region_typing_rules.specs.Readings.{is_ended_local, term}
use Rattle.region_typing_rules.specs.Knowing.{count_assigned, measured_local, value_assigned, without_locals}
use Rattle.region_typing_flow.specs.declared.steps.Tracked.TheVariants.{Number, Bounds}
use Rattle.region_typing_flow.specs.Views.{tracked}

pub number_set : (o : Option CType) (types : List CType) (local : ℕ) (e : Expression) (f : Knowledge) → Number ≡ tracked o
    → value_assigned o types local e f ≡ count_assigned local (measured_local types e) (term types e) f
number_set (Some Int) types local e f is = refl
number_set (Some Char) types local e f is = absurd (cc)
number_set (Some (Struct number)) types local e f is = absurd (cc)
number_set (Some (Pointer mode kind target)) types local e f is = absurd (cc)
number_set None types local e f is = absurd (cc)

-- a number is one of the locals, and so is a pointer
pub number_below : (types : List CType) (local : ℕ) (o : Option CType) → slice_get types local ≡ o → Number ≡ tracked o → local < length types
number_below types local None e is = absurd (cc)
number_below types local (Some t) e is = slice_get_within types local t e

pub bounds_below : (types : List CType) (local : ℕ) (o : Option CType) (kind : Kind) → slice_get types local ≡ o → Bounds kind ≡ tracked o → local < length types
bounds_below types local None kind e is = absurd (cc)
bounds_below types local (Some t) kind e is = slice_get_within types local t e

-- and one that a zero ends
pub ended_below : (types : List CType) (local : ℕ) (o : Option CType) → slice_get types local ≡ o → is_ended_local o ≡ true → local < length types
ended_below types local None e is = absurd (cc)
ended_below types local (Some t) e is = slice_get_within types local t e

-- a local more has left its scope
pub left_more : (x y n m : ℕ) (f g all : Knowledge) → y ≡ suc x → n ≡ suc m → g ≡ left x f → without_locals x n f ≡ all → without_locals y m g ≡ all
left_more x y n m f g all next more is h = rw (next, is) (rw more at h)
