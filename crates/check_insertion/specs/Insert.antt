-- The checks of a core, inserted: each access gets those that its pointer needs, at the site of the access.
use Rattle.std.specs.Prelude.{ℕ, Bool, true, false, List, [], ◌∷◌, map, Option, Some, None}
use Rattle.ckc_core.specs.declared.program.PointerBounds.{PointerBounds}
use Rattle.ckc_core.specs.declared.program.Site.{Site}
use Rattle.ckc_core.specs.Programs.{ProgramOf, parted}
use Rattle.ckc_core.specs.Core as core
use Rattle.ckc_core.specs.Meaning.{bounds_of}
use Rattle.check_insertion.specs.declared.erased.Check.{Check}
use Rattle.check_insertion.specs.declared.erased.Reading.{Reading}
use Rattle.check_insertion.specs.declared.erased.Check.TheVariants.{NotNull, Below, UpTo, Contains}
use Rattle.check_insertion.specs.Erased as erased
use Rattle.check_insertion.specs.Erased.{Erased}

-- bounds that a check at a site reads
abbrev pub read_at : PointerBounds → Site → Reading
read_at b site = record { bounds = b.bounds; site = site }

abbrev pub up_to_of : Option PointerBounds → Site → List Check
up_to_of None site = []
up_to_of (Some b) site = UpTo (read_at b site) ∷ []

-- the bytes of an element of a pointer that has bounds
abbrev pub size_of : Option PointerBounds → ℕ
size_of None = 1
size_of (Some b) = b.size

-- that an element lies within bounds, or at the upper end where these are null-terminated
abbrev pub within : Bool → Reading → Check
within false r = Below r
within true r = UpTo r

abbrev pub within_of : Bool → Option PointerBounds → Site → List Check
within_of terminated None site = []
within_of terminated (Some b) site = within terminated (read_at b site) ∷ []

-- what has to hold of a pointer with these bounds before an access: it isn't null (C1), and an element lies within them (C2)
abbrev pub access_checks : Option PointerBounds → core.Index → Site → List Check
access_checks bounds core.First site = NotNull site ∷ []
access_checks bounds (core.Element number terminated) site = NotNull site ∷ within_of terminated bounds site

-- the bounds at whose upper end nothing but 0 is stored (C3)
abbrev pub store_end : Option PointerBounds → core.Index → Site → Option Reading
store_end bounds core.First site = None
store_end bounds (core.Element number false) site = None
store_end None (core.Element number true) site = None
store_end (Some b) (core.Element number true) site = Some (read_at b site)

abbrev pub end_of : core.Place → Option Reading
end_of (core.Direct object offset) = None
end_of (core.Through pointer which offset site) = store_end (bounds_of pointer) which site

-- and before it is moved
abbrev pub sum_checks : Option PointerBounds → Site → List Check
sum_checks bounds site = NotNull site ∷ up_to_of bounds site

-- and before it has other bounds (C5), where it has some and is to have some
abbrev pub cast_checks : Option PointerBounds → Option PointerBounds → List Check
cast_checks old None = []
cast_checks None (Some new) = []
cast_checks (Some old) (Some new) = Contains (read_at old new.site) (read_at new new.site) ∷ []

abbrev mutual
  pub expression : core.Expression → erased.Expression
  expression (core.Number number) = erased.Number number
  expression core.Null = erased.Null
  expression (core.Local local bounds) = erased.Local local
  expression (core.Load type p bounds) = erased.Load type (place p)
  expression (core.AddressOf p bounds) = erased.AddressOf (place p)
  expression (core.Negate operand site) = erased.Negate (expression operand) site
  expression (core.Complement operand) = erased.Complement (expression operand)
  expression (core.Not operand) = erased.Not (expression operand)
  expression (core.Arithmetic operator left right site) = erased.Arithmetic operator (expression left) (expression right) site
  expression (core.Compare comparison left right) = erased.Compare comparison (expression left) (expression right)
  expression (core.Same left right) = erased.Same (expression left) (expression right)
  expression (core.AndAlso left right) = erased.AndAlso (expression left) (expression right)
  expression (core.OrElse left right) = erased.OrElse (expression left) (expression right)
  expression (core.LowByte operand) = erased.LowByte (expression operand)
  expression (core.Call callee arguments bounds) = erased.Call callee (arguments_of arguments)
  expression core.NextInput = erased.NextInput
  expression (core.Sum pointer direction number site bounds) =
      erased.Sum (expression pointer) direction (expression number) (size_of (bounds_of pointer)) (sum_checks (bounds_of pointer) site)
  expression (core.Order comparison left right site) = erased.Order comparison (expression left) (NotNull site ∷ []) (expression right) (NotNull site ∷ [])
  expression (core.Allocate count element terminator bounds) = erased.Allocate (expression count) element terminator
  expression (core.Length pointer site) = erased.Length (expression pointer) (size_of (bounds_of pointer)) (sum_checks (bounds_of pointer) site)
  expression (core.Cast pointer bounds) = erased.Cast (expression pointer) (size_of (bounds_of pointer)) (cast_checks (bounds_of pointer) bounds)

  pub arguments_of : core.Arguments → erased.Arguments
  arguments_of core.Done = erased.Done
  arguments_of (core.More first rest) = erased.More (expression first) (arguments_of rest)

  pub place : core.Place → erased.Place
  place (core.Direct object offset) = erased.Direct object offset
  place (core.Through pointer which offset site) =
      erased.Through (expression pointer) (index (size_of (bounds_of pointer)) which) offset (access_checks (bounds_of pointer) which site)

  -- an element of so many bytes
  pub index : ℕ → core.Index → erased.Index
  index size core.First = erased.First
  index size (core.Element number terminated) = erased.Element (expression number) size

abbrev mutual
  pub statement : core.Statement → erased.Statement
  statement core.Nothing = erased.Nothing
  statement (core.SetLocal local value) = erased.SetLocal local (expression value)
  statement (core.Store type p value) = erased.Store type (place p) (expression value) (end_of p)
  statement (core.UpdateLocal is_char local operator value site) = erased.UpdateLocal is_char local operator (expression value) site
  statement (core.Update type p operator value site) = erased.Update type (place p) operator (expression value) site (end_of p)
  statement (core.Evaluate value) = erased.Evaluate (expression value)
  statement (core.CallAlone callee arguments) = erased.CallAlone callee (arguments_of arguments)
  statement (core.Print number) = erased.Print (expression number)
  statement (core.PutByte number) = erased.PutByte (expression number)
  statement (core.Block inner) = erased.Block (statements inner)
  statement (core.If condition consequent alternative) = erased.If (expression condition) (statement consequent) (statement alternative)
  statement (core.Loop condition body step) = erased.Loop (expression condition) (statement body) (statement step)
  statement (core.Return value) = erased.Return (expression value)
  statement core.ReturnNothing = erased.ReturnNothing
  statement core.Break = erased.Break
  statement core.Continue = erased.Continue

  pub statements : core.Statements → erased.Statements
  statements core.NoMore = erased.NoMore
  statements (core.Then first others) = erased.Then (statement first) (statements others)

abbrev pub function : core.Function → erased.Function
function f = record { name = f.name; parameters = f.parameters; locals = f.locals; result = f.result; body = statements f.body }

-- a program of two sides
abbrev pub with_checks : ProgramOf core.Statements → Erased
with_checks p = record { objects = p.objects; imports = p.imports; functions = map function p.functions; main = p.main }

-- the whole source, in two parts
abbrev pub inserted : core.Core → Erased
inserted c = with_checks (parted c)
