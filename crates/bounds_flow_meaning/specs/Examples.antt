-- Worked examples: the flows of the examples of `bounds_flow`, and states in which p leads to the first of three ints.
use Rattle.std.specs.Prelude.{◌≡◌, ℤ, pos, negsuc, true, false, [], ◌∷◌, Some}
use Rattle.pointer_modes.specs.declared.ctype.Mode.TheVariants.{Checked}
use Rattle.pointer_modes.specs.declared.ctype.Kind.TheVariants.{Array}
use Rattle.pointer_modes.specs.Types.{CType, Int, Pointer}
use Rattle.act_words.specs.World.{World}
use Rattle.bounds_flow.specs.Examples.{count_n, plus, start}
use Rattle.bounds_flow.specs.Flows.{number_assigned, settled}
use Rattle.ckc_core.specs.declared.program.Site.{Site}
use Rattle.ckc_core.specs.States.{Value, Number, Null, At, Cell, Local, State}
use Rattle.ckc_core.specs.Bounds.{is_valid}
use Rattle.bounds_flow_meaning.specs.Holding.{Fits, Holds, at_node}

abbrev pub holding : CType → Value → Local
holding type v = record { type = type; value = v }

abbrev pub ints : CType
ints = Pointer Checked Array Int

abbrev pub an_int : Cell
an_int = record { type = Int; stride = 4; value = Number (pos 0) }

-- n holds this number, x holds 0, p leads to the first of three ints, and q is null
abbrev pub three_ints : World → ℤ → State
three_ints w n = record {
  blocks = record { cells = an_int ∷ an_int ∷ an_int ∷ []; zero_ended = false; is_sealed = false } ∷ [];
  locals = holding Int (Number n) ∷ holding Int (Number (pos 0)) ∷ holding ints (At 0 0) ∷ holding ints Null ∷ [];
  depth = 0;
  world = w;
}

-- with `count(n)`, p is valid up to three
abbrev pub UpToThree : Type 0
UpToThree = (w : World) (site : Site) →
    (is_valid (at_node count_n 4 false site) (At 0 0) (three_ints w (pos 3)) ≡ true)
    × (is_valid (at_node count_n 4 false site) (At 0 0) (three_ints w (pos 4)) ≡ false)
    × (is_valid (at_node count_n 4 false site) (At 0 0) (three_ints w (negsuc 0)) ≡ true)

-- So the flow that has p with `count(n)` fits where n is 3, and not where it is 4. After `n = n - 1` it says what is so where n
-- is 2, and fits there after the settling.
abbrev pub CountsFit : Type 0
CountsFit = (w : World) → Fits [] (start count_n) (three_ints w (pos 3)) × (Fits [] (start count_n) (three_ints w (pos 4)) → ⊥)
    × Holds [] (number_assigned 0 (Some (plus 0 (negsuc 0))) (start count_n)) (three_ints w (pos 2))
    × Fits [] (settled (number_assigned 0 (Some (plus 0 (negsuc 0))) (start count_n))) (three_ints w (pos 2))

-- `n = n + 1` leaves bounds in force that hold where n is 4, which `count(n)` doesn't
abbrev pub RaisedCountsHold : Type 0
RaisedCountsHold = (w : World) → Holds [] (number_assigned 0 (Some (plus 0 (pos 1))) (start count_n)) (three_ints w (pos 4))
