use Rattle.std.proofs.Common.{refl, ap, ◌∙◌, Vec, Global}
use Rattle.ckc_tree.specs.declared.stmt.Stmt as code
use Rattle.ckc_tree.specs.declared.stmt.Stmt.{Stmt}
use Rattle.ckc_tree.specs.declared.stmt.Assignment.{Assignment}
use Rattle.ckc_tree.specs.Statements as s
use Rattle.ckc_tree.specs.Statements.{assignment}
use Rattle.ckc_tree.specs.Numbers.{number_assignment}
use Rattle.ckc_names_rules.specs.Given.{number_in}
use Rattle.ckc_names.proofs.Numbered.{block_numbered, vec_walked}
use Rattle.ckc_names.proofs.numbered_statements.+numbered.Goals as goal

pub statement-returns-in-Block : goal.statement-returns-in-Block
unfolding code.out-Stmt denote.Hole.Carrier.out
statement-returns-in-Block t c =
    let b = c.in-Block in
    let slice = c.as_mut_slice.ensures.value ∙ ap (λ (v : Vec Stmt Global). v.items) b.inner-is in
    let same = rw b.is at b.inner-is in
    rw b.is
    (block_numbered (number_in c.args.names.now) (code.Block b.mark b.inner b.span) b.mark b.mark b.inner _ b.span b.span c.as_mut_slice.result.now c.statements.new.written refl slice same refl refl
    c.statements.ensures.all c.statements.ensures.walked)

pub statement-returns-in-Bundle : goal.statement-returns-in-Bundle
unfolding code.out-Stmt denote.Hole.Carrier.out
statement-returns-in-Bundle t c =
    let b = c.in-Bundle in
    let slice = c.as_mut_slice-in-Bundle.ensures.value ∙ ap (λ (v : Vec Assignment Global). v.items) b.inner-is in
    rw c.in-Bundle.is
    (ap (λ xs. s.Bundle xs b.span)
    (vec_walked assignment (number_assignment (number_in c.args.names.now)) b.inner b.inner c.as_mut_slice-in-Bundle.result.now c.assignments.new.written slice refl c.assignments.ensures.all c.assignments.ensures.walked))
