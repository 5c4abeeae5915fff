use Rattle.std.proofs.Common.{◌∙◌, ap, sym, arith, rules}
use Rattle.check_insertion.specs.declared.erased.Stmt.{the_lemmas}
use Rattle.lowering.specs.Code.{statement_size}
use Rattle.check_insertion.proofs.Rows.{block_of}
use Rattle.lowering.proofs.code_sizes.+statements.Goals as goal

pub statement_size-statements_size-requires : goal.statement_size-statements_size-requires
statement_size-statements_size-requires t c =
    let shape = block_of c.args.stmt.now c.in-Block.inner c.as_slice-in-Block.result.now c.in-Block.is c.as_slice-in-Block.ensures.value in
    (search (rules, the_lemmas), omega (arith, c.requires, ap statement_size shape))

pub statement_size-returns-in-Block : goal.statement_size-returns-in-Block
statement_size-returns-in-Block t c =
    let shape = block_of c.args.stmt.now c.in-Block.inner c.as_slice-in-Block.result.now c.in-Block.is c.as_slice-in-Block.ensures.value in
    c.statements_size.ensures ∙ sym (ap statement_size shape)
