-- What stands behind the target of an assignment, and the assignment.
use Rattle.std.proofs.Common.{◌≡◌, ◌<◌, ◌≤◌, ℕ, suc, true, false, List, [], ◌∷◌, Result, Ok, Err}
use Rattle.ckc_text.specs.declared.place.Span.{Span}
use Rattle.ckc_lexer.specs.declared.token.Token.{Token}
use Rattle.ckc_tree.specs.Expressions.{Expression}
use Rattle.ckc_tree.specs.declared.stmt as code
use Rattle.ckc_tree.specs.Statements.{Assignment, assignment}
use Rattle.ckc_tree.specs.Heights.{expression_reach, assignment_reach}
use Rattle.ckc_parser_grammar.specs.declared.stuck.Stuck.{Stuck}
use Rattle.ckc_parser_grammar.specs.Tokens.{next_is, start_of}
use Rattle.ckc_parser_grammar.specs.ExpressionGrammar.{SpellsUnary}
use Rattle.ckc_parser_grammar.specs.StatementGrammar as g
use Rattle.ckc_parser_grammar.specs.StatementGrammar.{SpellsAssignment}
use Rattle.ckc_parser_grammar.specs.Failures.{Failure, too_deep, IsLow}
use Rattle.ckc_parser_grammar.specs.Answers.{Reads}
use Rattle.ckc_parser_grammar.specs.StuckTypes.{type_word}
use Rattle.ckc_parser_grammar.specs.StuckExpressions.{unary_word}
use Rattle.ckc_parser_grammar.specs.StuckStatements as stuck
use Rattle.ckc_parser_grammar.specs.StuckStatements.{step_word, assignment_word, StuckDeclaration, StuckAssignment}
use Rattle.ckc_parser.specs.StatementReadings as r
use Rattle.ckc_parser.specs.StatementReadings.{SpellsAssigned, StuckAssigned}

-- where a type stands next, and no node may stand
pub deep_declaration : (d : ℕ) (ts : List Token) → next_is type_word ts ≡ true → 200 ≤ d → StuckDeclaration d ts (too_deep (start_of ts))
deep_declaration d [] typed full = absurd (cc)
deep_declaration d (t ∷ ts) typed full = stuck.deep typed full

pub no_step_word : (ts : List Token) → next_is assignment_word ts ≡ true → next_is step_word ts ≡ false → next_is unary_word ts ≡ true
no_step_word [] word step = word
no_step_word (t ∷ ts) word step = rw step at word

pub is_assignment : {target : Expression} {o : Span} {ts mid rest : List Token} {a : Assignment} → SpellsUnary ts target o mid → SpellsAssigned target o mid a rest → SpellsAssignment ts a rest
is_assignment u (r.store w d) = g.store u w d
is_assignment u (r.after w) = g.after u w

pub stuck_assignment : {target : Expression} {d : ℕ} {o : Span} {ts mid : List Token} {f : Failure} → d < 200 → SpellsUnary ts target o mid → IsLow (suc d) (expression_reach target) → StuckAssigned d mid f → StuckAssignment d ts f
stuck_assignment deep u low r.no_room = stuck.no_room
stuck_assignment deep u low (r.operator none) = stuck.operator u low none
stuck_assignment deep u low (r.value w s) = stuck.value deep u low w s

-- what is answered behind the target as an answer about the whole
pub assignment_reads : {target : Expression} {d : ℕ} {o : Span} {ts mid : List Token} (answer : Result code.Assignment.Assignment Stuck) (rest : List Token) → d < 200 → SpellsUnary ts target o mid → IsLow (suc d) (expression_reach target)
    → Reads (λ x rest. SpellsAssigned target o mid (assignment x) rest × IsLow d (assignment_reach (assignment x))) (StuckAssigned d mid) answer rest → Reads (λ x rest. SpellsAssignment ts (assignment x) rest × IsLow d (assignment_reach (assignment x))) (StuckAssignment d ts) answer rest
assignment_reads (Ok found) rest deep u low read = (is_assignment u read.0, read.1)
assignment_reads (Err e) rest deep u low read = stuck_assignment deep u low read
