-- Names in bounds.
use Rattle.std.specs.Prelude.{cond, ◌&&◌, None, Some}
use Rattle.bounds_exprs.specs.declared.names.NameForm.{NameForm}
use Rattle.bounds_exprs.specs.declared.names.NameForm.TheVariants as names
use Rattle.bounds_exprs.specs.Sums.{Sum, Variable, Pointer, Other}

-- An `int` variable or a pointer variable counts where the rules allow it in these bounds, and the pointer where it has
-- the mode and the element of that which the bounds are for. This one itself counts everywhere.
abbrev pub sum_of : NameForm → Sum
sum_of (names.Int var allowed) = cond allowed (Variable var) Other
sum_of (names.Pointer var allowed alike) = cond (allowed && alike) (Pointer (Some var)) Other
sum_of names.Itself = Pointer None
sum_of names.Other = Other
