-- Inside: arguments and statements as they stand in slices.
use Rattle.std.specs.Prelude.{List}
use Rattle.std.specs.List.{flat_map}
use Rattle.ckc_tree.specs.declared.expr.Expr.{Expr}
use Rattle.ckc_tree.specs.declared.stmt.Stmt.{Stmt}
use Rattle.ckc_tree.specs.Expressions.{expression}
use Rattle.ckc_tree.specs.Statements.{statement}
use Rattle.ckc_tree.specs.Items.{Body}
use Rattle.ckc_names_rules.specs.Mentions.{Mention, expression_mentions, statement_mentions, statements_mentions}

-- what arguments say
abbrev pub arguments_mentions : List Expr → List Mention
arguments_mentions arguments = flat_map (λ x. expression_mentions (expression x)) arguments

-- what statements say
abbrev pub block_mentions : List Stmt → List Mention
block_mentions statements = flat_map (λ x. statement_mentions (statement x)) statements

-- what the body of a function says
abbrev pub body_mentions : Body → List Mention
body_mentions b = statements_mentions b.statements
