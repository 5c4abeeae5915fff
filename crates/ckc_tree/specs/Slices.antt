-- For private clauses: what slices of the code's types stand for.
use Rattle.std.specs.Prelude.{List, [], ◌∷◌}
use Rattle.ckc_tree.specs.declared.expr.Expr.{Expr}
use Rattle.ckc_tree.specs.Expressions.{Expressions, NoMore, Then, expression}

-- the arguments that stand in a slice
abbrev pub expressions_of : List Expr → Expressions
expressions_of [] = NoMore
expressions_of (first ∷ others) = Then (expression first) (expressions_of others)
