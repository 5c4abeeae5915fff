-- Blocks that a zero ends, pointers whose element at the upper end isn't zero, and pointers whose elements were counted.
use Rattle.std.specs.Prelude.{ℕ, suc, ◌+◌, ◌*◌, ◌≡◌, ℤ, Option, ◌+ℤ◌, ◌*ℤ◌, pos, true, false, List, length, Some, slice_get}
use Rattle.std.proofs.Common.{◌≤ℤ◌}
use Rattle.bounds_exprs.specs.declared.term.Bounds.{Bounds}
use Rattle.bounds_exprs.specs.declared.term.Term.{Term}
use Rattle.pointer_modes.specs.Types.{Structure}
use Rattle.ckc_core.specs.declared.program.Site.{Site}
use Rattle.ckc_core.specs.Bounds.{Ends, ends_at, term_value}
use Rattle.ckc_core.specs.Pointers.{lies_up_to}
use Rattle.ckc_core.specs.States.{At, Block, Cell, Local, State, cell_at}
use Rattle.ckc_core.specs.Steps.{is_zero}
use Rattle.bounds_flow_meaning.specs.Holding.{at_node, is_ended, target_size}

-- in each block that a zero ends, the last cell holds it
abbrev pub EndInZeros : List Block → Type 0
EndInZeros blocks = (block : ℕ) (b : Block) → slice_get blocks block ≡ Some b → b.zero_ended ≡ true → (k : ℕ) (c : Cell) → slice_get b.cells k ≡ Some c
    → suc k ≡ length b.cells → is_zero c.value ≡ true

-- the upper end isn't below the lower one, and what stands there isn't zero
pub record IsSetAt (block : ℕ) (e : Ends) (s : State) : Type 0 where
  pub place : ℕ
  pub is : pos place ≡ e.high
  pub above : e.low ≤ℤ e.high
  pub cell : Cell
  pub found : cell_at s.blocks block place ≡ Some cell
  pub set : is_zero cell.value ≡ false

-- the same of a pointer with bounds
abbrev pub EndIsSet : List Structure → Bounds → Local → State → Type 0
EndIsSet structs b l s = (site : Site) (block byte : ℕ) (e : Ends) → l.value ≡ At block byte
    → ends_at (at_node b (target_size structs l.type) (is_ended l.type) site) s.locals block byte ≡ Some e → IsSetAt block e s

-- the element of the number that a term comes to lies between the ends of a pointer, or at the upper one, and isn't zero
pub record IsSetIn (index : Term) (block byte : ℕ) (e : Ends) (s : State) : Type 0 where
  pub number : ℤ
  pub is : term_value index s.locals ≡ Some number
  pub place : ℕ
  pub at' : pos place ≡ pos byte +ℤ (number *ℤ pos e.size)
  pub lies : lies_up_to e (pos place) ≡ true
  pub cell : Cell
  pub found : cell_at s.blocks block place ≡ Some cell
  pub set : is_zero cell.value ≡ false

-- the same of a pointer with bounds
abbrev pub ReadsSet : List Structure → Bounds → Term → Local → State → Type 0
ReadsSet structs b index l s = (site : Site) (block byte : ℕ) (e : Ends) → l.value ≡ At block byte
    → ends_at (at_node b (target_size structs l.type) (is_ended l.type) site) s.locals block byte ≡ Some e → IsSetIn index block byte e s

-- what a test of a null-terminated pointer has read, with the bounds that are in force
pub record HasRead (structs : List Structure) (bounds : Option Bounds) (index : Term) (l : Local) (s : State) : Type 0 where
  pub ended : is_ended l.type ≡ true
  pub read : (b : Bounds) → bounds ≡ Some b → ReadsSet structs b index l s

-- ---- lengths

-- the pointer lies up to its ends, and so many elements further on stands a cell of its block
pub record IsCounted (count : ℕ) (block byte : ℕ) (e : Ends) (s : State) : Type 0 where
  pub lies : lies_up_to e (pos byte) ≡ true
  pub place : ℕ
  pub at' : place ≡ byte + count * e.size
  pub cell : Cell
  pub found : cell_at s.blocks block place ≡ Some cell

-- the same of a pointer with bounds
abbrev pub CountsTo : List Structure → Bounds → ℕ → Local → State → Type 0
CountsTo structs b count l s = (site : Site) (block byte : ℕ) (e : Ends) → l.value ≡ At block byte
    → ends_at (at_node b (target_size structs l.type) (is_ended l.type) site) s.locals block byte ≡ Some e → IsCounted count block byte e s

-- what was counted of a null-terminated pointer, with the bounds that are in force
pub record HasCounted (structs : List Structure) (bounds : Option Bounds) (count : ℕ) (l : Local) (s : State) : Type 0 where
  pub ended : is_ended l.type ≡ true
  pub counted : (b : Bounds) → bounds ≡ Some b → CountsTo structs b count l s
