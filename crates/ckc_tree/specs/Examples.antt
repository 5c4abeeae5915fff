-- Worked examples: trees whose spans stand in order, or don't, and which have seven nodes.
use Rattle.std.specs.Prelude.{ℕ, [], ◌∷◌, codes, Some, None}
use Rattle.ckc_text.specs.declared.place.Span.{Span}
use Rattle.ckc_tree.specs.declared.expr.BinaryOperator.TheVariants.{Subtract}
use Rattle.ckc_tree.specs.declared.item.FunctionKind.TheVariants.{Trusted}
use Rattle.ckc_tree.specs.Types.{IntType}
use Rattle.ckc_tree.specs.Expressions.{Number, Binary}
use Rattle.ckc_tree.specs.Statements.{Return, NoMore, Then}
use Rattle.ckc_tree.specs.Items.{Value, VoidAlone, FunctionItem, Tree}

abbrev pub span : ℕ → ℕ → Span
span from to = record { from = from; to = to }

-- int main(void) { return 2 - 1; } with its two numbers on these bytes, of which 24 to 25 and 28 to 29 are right
abbrev pub difference : Span → Span → Tree
difference left right = record {
  items = FunctionItem (record {
    kind = Trusted;
    mark = None;
    result = Value (IntType (span 0 3));
    stars = 0;
    name = record { name = codes "main"; number = 0; span = span 4 8 };
    parameters = VoidAlone;
    bounds = None;
    body = Some (record {
      mark = None;
      statements = Then (Return (Some (Binary Subtract (Number 2 left) (Number 1 right) (span 24 29))) (span 17 30)) NoMore;
      span = span 15 32;
    });
    span = span 0 32;
  }) ∷ [];
  span = span 0 32;
}
