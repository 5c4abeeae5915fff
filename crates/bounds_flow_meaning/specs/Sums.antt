-- Bounds of pointers that expressions make of pointers, and of those that wait while others are computed.
use Rattle.std.specs.Prelude.{ℕ, suc, ◌≡◌, ℤ, pos, neg_ℤ, ◌+ℤ◌, ◌*ℤ◌, true, List, Option, Some, None, slice_get}
use Rattle.bounds_exprs.specs.declared.term.Term.{Term}
use Rattle.bounds_exprs.specs.declared.term.Bounds.{Bounds}
use Rattle.bounds_exprs.specs.Normal.{constant}
use Rattle.bounds_exprs.specs.Changes.{moved_by}
use Rattle.pointer_modes.specs.Types.{Structure}
use Rattle.ckc_core.specs.declared.program.Site.{Site}
use Rattle.ckc_core.specs.declared.program.PointerBounds.{PointerBounds}
use Rattle.ckc_core.specs.declared.program.Terminator.{Terminator}
use Rattle.ckc_core.specs.Outcome.{Gives}
use Rattle.ckc_core.specs.Meaning.{audit}
use Rattle.ckc_core.specs.Programs.{Initial}
use Rattle.ckc_core.specs.Bounds.{term_value}
use Rattle.ckc_core.specs.States.{Value, Null, At, Local, State, Grows, shapes}
use Rattle.ckc_core.specs.Pointers.{is_terminated, before_zero, allocated, element_size, reaches}
use Rattle.bounds_flow_meaning.specs.Holding.{IsValid, at_node, is_ended, target_size}
use Rattle.bounds_flow_meaning.specs.Rows.{AreCellsBehind}

-- the bounds at a node of a variable's type, where there are any
abbrev pub noted : List Structure → Option Bounds → Local → Site → Option PointerBounds
noted structs None l site = None
noted structs (Some b) l site = Some (at_node b (target_size structs l.type) (is_ended l.type) site)

-- what is valid passes the audit
abbrev pub AuditsPass : Type 0
AuditsPass = (structs : List Structure) (s : State) (bounds : Option Bounds) (l : Local) (site : Site) → IsValid structs bounds l s
    → audit true (noted structs bounds l site) l.value s ≡ Gives l.value s

-- null is valid with all bounds
abbrev pub NullIsValid : Type 0
NullIsValid = (structs : List Structure) (s : State) (bounds : Option Bounds) (l : Local) → l.value ≡ Null → IsValid structs bounds l s

-- bounds of a variable that count from the pointer itself count from the variable
abbrev pub VariablesAreBases : Type 0
VariablesAreBases = (structs : List Structure) (s : State) (p : ℕ) (l : Local) (b : Bounds) → slice_get s.locals p ≡ Some l → b.base ≡ None
    → IsValid structs (Some b) l s → IsValid structs (Some (record b { base = Some p })) l s

-- so many elements further on in the block, ends that count from the pointer are as many less
abbrev pub EndsMoveBack : Type 0
EndsMoveBack = (structs : List Structure) (s : State) (l : Local) (block byte place : ℕ) (c : ℤ) (b d : Bounds) → l.value ≡ At block byte
    → pos place ≡ pos byte +ℤ (c *ℤ pos (target_size structs l.type)) → reaches (slice_get s.blocks block) place ≡ true
    → b.base ≡ None → moved_by (neg_ℤ c) b ≡ Some d → IsValid structs (Some b) l s → IsValid structs (Some d) (record l { value = At block place }) s

-- ends that count from a base stay where they are, however many elements further on in its block the pointer goes
abbrev pub BasesStay : Type 0
BasesStay = (structs : List Structure) (s : State) (l : Local) (block byte place q : ℕ) (c : ℤ) (b : Bounds) → l.value ≡ At block byte
    → pos place ≡ pos byte +ℤ (c *ℤ pos (target_size structs l.type)) → reaches (slice_get s.blocks block) place ≡ true
    → b.base ≡ Some q → IsValid structs (Some b) l s → IsValid structs (Some b) (record l { value = At block place }) s

-- where blocks are only added and the variables stay as they are, pointers stay valid
abbrev pub BlocksGrow : Type 0
BlocksGrow = (structs : List Structure) (s t : State) (bounds : Option Bounds) (l : Local) → Grows (shapes s.blocks) (shapes t.blocks)
    → t.locals ≡ s.locals → IsValid structs bounds l s → IsValid structs bounds l t

-- as many elements as a term comes to, from the pointer on
abbrev pub counted : Term → Bounds
counted t = record { base = None; lo = constant (pos 0); hi = t }

-- a pointer that is valid with bounds, in a state with the same variables and maybe more blocks
pub record IsNew (structs : List Structure) (b : Bounds) (l : Local) (before after : State) : Type 0 where
  pub valid : IsValid structs (Some b) l after
  pub grows : Grows (shapes before.blocks) (shapes after.blocks)
  pub locals : after.locals ≡ before.locals

-- a term comes to as many elements as stand before the zero, where one ends as many as are counted
abbrev pub IsBeforeZero : Terminator → Term → ℤ → State → Type 0
IsBeforeZero terminator t z s = (n : ℕ) → z ≡ pos (suc n) → term_value t s.locals ≡ Some (pos (before_zero terminator (suc n)))

-- a new block, or null in its place, has as many elements as were asked for, up to the zero that ends them
abbrev pub NewBlocksCount : Type 0
NewBlocksCount = (structs : List Structure) (room : ℕ) (terminator : Terminator) (element : List Initial) (t : Term) (z : ℤ) (l : Local) (v : Value)
    → (s u : State) → IsBeforeZero terminator t z s → element_size element ≡ target_size structs l.type → AreCellsBehind structs l.type element
    → is_terminated terminator ≡ is_ended l.type → allocated room terminator element z s ≡ Gives v u
    → IsNew structs (counted t) (record l { value = v }) s u
