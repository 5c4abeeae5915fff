-- Rows of values in blocks that are only added.
use Rattle.std.proofs.Common.{Bool, pos, ℕ, zero, suc, ◌≡◌, List, [], ◌∷◌, ◌++◌, Some, ap, ◌∙◌}
use Rattle.std.specs.Prelude.{slice_get}
use Rattle.pointer_modes.specs.declared.ctype.Kind.TheVariants as kinds
use Rattle.pointer_modes.specs.Types.{CType, Int, Char, Struct, Pointer, Structure}
use Rattle.ckc_core.specs.States.{Shape, Grows}
use Rattle.ckc_core.specs.Bounds.{Ends}
use Rattle.ckc_core.specs.Pointers.{lies_below}
use Rattle.bounds_flow_meaning.specs.Rows.{IsEndedPlace, IsPlace, LeadsOn}

pub still_there : {X : Type 0} (xs more : List X) (k : ℕ) (x : X) → slice_get xs k ≡ Some x → slice_get (xs ++ more) k ≡ Some x
still_there [] more k x h = absurd (cc)
still_there (y ∷ xs) more zero x h = h
still_there (y ∷ xs) more (suc k) x h = still_there xs more k x h

-- a place is still there where blocks are added
pub place_grown : (structs : List Structure) (a b : List Shape) → Grows a b → (t : CType) (block byte : ℕ) → IsPlace structs a t block byte → IsPlace structs b t block byte
place_grown structs a b more t block byte h =
    record { shape = h.shape; found = ap (λ x. slice_get x block) more.1 ∙ still_there a more.0 block h.shape h.found; row = h.row }

pub ended_grown : (structs : List Structure) (a b : List Shape) → Grows a b → (t : CType) (block byte : ℕ) (inside : Bool) → IsEndedPlace structs a t block byte inside → IsEndedPlace structs b t block byte inside
ended_grown structs a b more t block byte inside h =
    record {
      shape = h.shape;
      found = ap (λ blocks. slice_get blocks block) more.1 ∙ still_there a more.0 block h.shape h.found;
      ended = h.ended;
      unsealed = h.unsealed;
      cells = h.cells;
      types = h.types;
      strides = h.strides;
      some = h.some;
      number = h.number;
      is = h.is;
      below = h.below;
      before_zero = h.before_zero;
    }

-- and so is what stands between ends
pub leads_grown : (structs : List Structure) (a b : List Shape) → Grows a b → (t : CType) (block byte : ℕ) (e : Ends) → LeadsOn structs a t block byte e → LeadsOn structs b t block byte e
leads_grown structs a b more Int block byte e h = tt
leads_grown structs a b more Char block byte e h = tt
leads_grown structs a b more (Struct number) block byte e h = tt
leads_grown structs a b more (Pointer mode kinds.One target) block byte e h = λ n place step lies. place_grown structs a b more target block place (h n place step lies)
leads_grown structs a b more (Pointer mode kinds.Array target) block byte e h = λ n place step lies. place_grown structs a b more target block place (h n place step lies)
leads_grown structs a b more (Pointer mode kinds.Nt target) block byte e h = λ n place step lies. ended_grown structs a b more target block place (lies_below e (pos place)) (h n place step lies)
