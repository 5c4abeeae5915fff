use Rattle.std.proofs.Common.{◌∙◌, ap, sym, arith, rules}
use Rattle.check_insertion.specs.declared.erased.Stmt.{the_lemmas}
use Rattle.check_insertion.specs.Stacks.{statement_stack}
use Rattle.check_insertion.proofs.Rows.{block_of}
use Rattle.lowering.proofs.stacks.+statement_stacks.Goals as goal

pub statement_stack-statements_stack-requires : goal.statement_stack-statements_stack-requires
statement_stack-statements_stack-requires t c =
    let shape = block_of c.args.stmt.now c.in-Block.inner c.as_slice-in-Block.result.now c.in-Block.is c.as_slice-in-Block.ensures.value in
    (search (rules, the_lemmas), omega (arith, c.requires, ap statement_stack shape))

pub statement_stack-returns-in-Block : goal.statement_stack-returns-in-Block
statement_stack-returns-in-Block t c =
    let shape = block_of c.args.stmt.now c.in-Block.inner c.as_slice-in-Block.result.now c.in-Block.is c.as_slice-in-Block.ensures.value in
    c.statements_stack.ensures ∙ sym (ap statement_stack shape)
