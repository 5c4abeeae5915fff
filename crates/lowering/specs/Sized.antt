-- Programs whose elements have sizes, so that each of their checks has its instruction.
use Rattle.std.specs.Prelude.{ℕ, ◌^◌, ◌<◌, ◌≤◌, IsTrue, List, All, Option, Some, None}
use Rattle.bounds_exprs.specs.declared.term.Bounds.{Bounds}
use Rattle.bounds_exprs.specs.Terms.{is_within, term_limit}
use Rattle.ckc_core.specs.Programs.{Initial}
use Rattle.ckc_core.specs.States.{has_type, zero_of}
use Rattle.ckc_core.specs.Steps.{is_char}
use Rattle.ckc_core.specs.Pointers.{element_size}
use Rattle.check_insertion.specs.declared.erased.Check.{Check}
use Rattle.check_insertion.specs.declared.erased.Check.TheVariants as checks
use Rattle.check_insertion.specs.declared.erased.Reading.{Reading}
use Rattle.check_insertion.specs.Erased as erased
use Rattle.lowering.specs.Images.{width_if}

-- ---- checks

-- the words that a check has on the stack at most, with that of its pointer
abbrev pub check_stack : Check → ℕ
check_stack (checks.NotNull site) = 1
check_stack (checks.Below r) = 6
check_stack (checks.UpTo r) = 6
check_stack (checks.Contains old new) = 7

-- the constants of both ends lie within -2^40 to 2^40
pub record AreWithin (b : Bounds) : Type 0 where
  pub low : IsTrue (is_within term_limit b.lo.plus)
  pub high : IsTrue (is_within term_limit b.hi.plus)

abbrev pub IsLocal : ℕ → Option ℕ → Type 0
IsLocal locals None = Unit {0}
IsLocal locals (Some variable) = variable < locals

-- bounds read local variables
pub record AreLocal (locals : ℕ) (b : Bounds) : Type 0 where
  pub base : IsLocal locals b.base
  pub low : IsLocal locals b.lo.var
  pub high : IsLocal locals b.hi.var

-- a check that null passes reads its variables nevertheless
abbrev pub Reads : ℕ → Check → Type 0
Reads locals (checks.NotNull site) = Unit {0}
Reads locals (checks.Below r) = AreWithin r.bounds
Reads locals (checks.UpTo r) = AreWithin r.bounds
Reads locals (checks.Contains old new) = AreLocal locals old.bounds × AreLocal locals new.bounds

-- a check in a function of so many locals takes so many words of the stack at most
pub record IsSmall (locals most : ℕ) (c : Check) : Type 0 where
  pub words : check_stack c ≤ most
  pub reads : Reads locals c

-- ---- elements of new blocks

-- a cell of a new element has room for its word, which is the zero of its type
pub record IsFresh (i : Initial) : Type 0 where
  pub room : width_if (is_char i.type) ≤ i.stride
  pub typed : IsTrue (has_type i.type (zero_of i.type))

-- an element has a byte, and its size is a word
pub record IsElement (element : List Initial) : Type 0 where
  pub cells : All IsFresh element
  pub some : 1 ≤ element_size element
  pub few : element_size element < 2 ^ 32

-- ---- the parts of a function, by how many locals it has

abbrev mutual
  pub SizedExpression : ℕ → erased.Expression → Type 0
  SizedExpression locals (erased.Number number) = Unit {0}
  SizedExpression locals erased.Null = Unit {0}
  SizedExpression locals (erased.Local local) = Unit {0}
  SizedExpression locals (erased.Load type p) = SizedPlace locals p
  SizedExpression locals (erased.AddressOf p) = SizedPlace locals p
  SizedExpression locals (erased.Negate operand site) = SizedExpression locals operand
  SizedExpression locals (erased.Complement operand) = SizedExpression locals operand
  SizedExpression locals (erased.Not operand) = SizedExpression locals operand
  SizedExpression locals (erased.Arithmetic operator left right site) = SizedExpression locals left × SizedExpression locals right
  SizedExpression locals (erased.Compare comparison left right) = SizedExpression locals left × SizedExpression locals right
  SizedExpression locals (erased.Same left right) = SizedExpression locals left × SizedExpression locals right
  SizedExpression locals (erased.AndAlso left right) = SizedExpression locals left × SizedExpression locals right
  SizedExpression locals (erased.OrElse left right) = SizedExpression locals left × SizedExpression locals right
  SizedExpression locals (erased.LowByte operand) = SizedExpression locals operand
  SizedExpression locals (erased.Call callee arguments) = SizedArguments locals arguments
  SizedExpression locals erased.NextInput = Unit {0}
  SizedExpression locals (erased.Sum pointer direction number size checks) =
      SizedExpression locals pointer × SizedExpression locals number × (1 ≤ size) × All (IsSmall locals 6) checks
  SizedExpression locals (erased.Order comparison left left_checks right right_checks) =
      SizedExpression locals left × SizedExpression locals right × All (IsSmall locals 1) left_checks × All (IsSmall locals 1) right_checks
  SizedExpression locals (erased.Allocate count element terminator) = SizedExpression locals count × IsElement element
  SizedExpression locals (erased.Length pointer size checks) = SizedExpression locals pointer × (1 ≤ size) × All (IsSmall locals 6) checks
  SizedExpression locals (erased.Cast pointer size checks) = SizedExpression locals pointer × (1 ≤ size) × All (IsSmall locals 7) checks

  pub SizedArguments : ℕ → erased.Arguments → Type 0
  SizedArguments locals erased.Done = Unit {0}
  SizedArguments locals (erased.More first rest) = SizedExpression locals first × SizedArguments locals rest

  pub SizedPlace : ℕ → erased.Place → Type 0
  SizedPlace locals (erased.Direct object offset) = Unit {0}
  SizedPlace locals (erased.Through pointer index offset checks) = SizedExpression locals pointer × SizedIndex locals index checks

  -- a first element needs no check of bounds
  pub SizedIndex : ℕ → erased.Index → List Check → Type 0
  SizedIndex locals erased.First checks = All (IsSmall locals 1) checks
  SizedIndex locals (erased.Element number size) checks = SizedExpression locals number × (1 ≤ size) × All (IsSmall locals 6) checks

-- the number of an element alone
abbrev pub SizedNumber : ℕ → erased.Index → Type 0
SizedNumber locals erased.First = Unit {0}
SizedNumber locals (erased.Element number size) = SizedExpression locals number

-- an element alone has an end at which nothing but 0 is stored
abbrev pub HasEnd : erased.Place → Option Reading → Type 0
HasEnd cell None = Unit {0}
HasEnd (erased.Direct object offset) (Some r) = ⊥
HasEnd (erased.Through pointer erased.First offset checks) (Some r) = ⊥
HasEnd (erased.Through pointer (erased.Element number size) offset checks) (Some r) = AreWithin r.bounds

abbrev mutual
  pub SizedStatement : ℕ → erased.Statement → Type 0
  SizedStatement locals erased.Nothing = Unit {0}
  SizedStatement locals (erased.SetLocal local value) = SizedExpression locals value
  SizedStatement locals (erased.Store type p value end) = SizedPlace locals p × SizedExpression locals value × HasEnd p end
  SizedStatement locals (erased.UpdateLocal char local operator value site) = SizedExpression locals value
  SizedStatement locals (erased.Update type p operator value site end) = SizedPlace locals p × SizedExpression locals value × HasEnd p end
  SizedStatement locals (erased.Evaluate value) = SizedExpression locals value
  SizedStatement locals (erased.CallAlone callee arguments) = SizedArguments locals arguments
  SizedStatement locals (erased.Print number) = SizedExpression locals number
  SizedStatement locals (erased.PutByte number) = SizedExpression locals number
  SizedStatement locals (erased.Block inner) = SizedStatements locals inner
  SizedStatement locals (erased.If condition consequent alternative) =
      SizedExpression locals condition × SizedStatement locals consequent × SizedStatement locals alternative
  SizedStatement locals (erased.Loop condition body step) = SizedExpression locals condition × SizedStatement locals body × SizedStatement locals step
  SizedStatement locals (erased.Return value) = SizedExpression locals value
  SizedStatement locals erased.ReturnNothing = Unit {0}
  SizedStatement locals erased.Break = Unit {0}
  SizedStatement locals erased.Continue = Unit {0}

  pub SizedStatements : ℕ → erased.Statements → Type 0
  SizedStatements locals erased.NoMore = Unit {0}
  SizedStatements locals (erased.Then first others) = SizedStatement locals first × SizedStatements locals others
