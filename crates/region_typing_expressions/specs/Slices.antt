-- Inside: arguments as they stand in slices.
use Rattle.std.specs.Prelude.{List, [], ◌∷◌}
use Rattle.ckc_tree.specs.declared.expr.Expr.{Expr}
use Rattle.ckc_tree.specs.Expressions.{Expressions, NoMore, Then, expression}

-- the arguments of a list
abbrev pub expression_list : List Expr → Expressions
expression_list [] = NoMore
expression_list (first ∷ others) = Then (expression first) (expression_list others)
