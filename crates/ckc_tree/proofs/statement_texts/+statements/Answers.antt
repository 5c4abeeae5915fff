use Rattle.std.proofs.lemmas.Grind.{common_steps}
use Rattle.std.proofs.Common.{rules, arith}
use Rattle.ckc_tree.proofs.TextRows.{block_texts}
use Rattle.ckc_tree.proofs.statement_texts.+statements.Goals as goal

pub push_statement_texts-returns-in-Block : goal.push_statement_texts-returns-in-Block
push_statement_texts-returns-in-Block t c =
    let block = c.in-Block in
    rw (← block_texts c.args.written.now block.mark block.statements block.span c.as_slice.result.now block.is c.as_slice.ensures.value) c.push_statements_texts.ensures

pub push_statement_texts-returns-in-Bundle : goal.push_statement_texts-returns-in-Bundle
push_statement_texts-returns-in-Bundle t c = search rules

pub push_statement_texts-returns-in-Declare : goal.push_statement_texts-returns-in-Declare
push_statement_texts-returns-in-Declare t c = search rules

pub push_statement_texts-returns-in-Call : goal.push_statement_texts-returns-in-Call
push_statement_texts-returns-in-Call t c = search rules

pub push_statement_texts-returns-in-None : goal.push_statement_texts-returns-in-None
push_statement_texts-returns-in-None t c = grind (arith, common_steps)

pub push_statement_texts-returns-in-Some : goal.push_statement_texts-returns-in-Some
push_statement_texts-returns-in-Some t c = grind (arith, common_steps)

pub push_statements_texts-returns : goal.push_statements_texts-returns
push_statements_texts-returns t c = grind (arith, common_steps)
