-- Loops that read a list: what is left completes the whole.
use Rattle.std.proofs.Common.{◌≡◌, ℕ, List, [], ◌∷◌, ◌++◌, map, append_assoc}
use Rattle.std.proofs.lemmas.List.{append-nil}
use Rattle.ckc_text.specs.declared.place.Span.{Span}
use Rattle.ckc_lexer.specs.declared.token.Token.{Token}
use Rattle.ckc_tree.specs.declared.stmt as code
use Rattle.ckc_tree.specs.Statements.{declarator, assignment}
use Rattle.ckc_tree.specs.declared.item as item_code
use Rattle.ckc_tree.specs.Items.{statement_list, member, parameter, item}
use Rattle.ckc_tree.specs.Heights.{declarators_reach, assignments_reach, statements_reach, members_reach, items_reach}
use Rattle.ckc_parser_grammar.specs.StatementGrammar.{SpellsDeclarators, SpellsAssignments, SpellsStatements}
use Rattle.ckc_parser_grammar.specs.ItemGrammar.{SpellsMembers, SpellsListed, SpellsItems}
use Rattle.ckc_parser_grammar.specs.Failures.{Failure, IsLow}

-- each list that the rest spells completes the whole behind the items so far, and where the rest fails the whole does
pub record GoesOn {X : Type 0} (Spells : List Token → List X → Span → List Token → Type 0) (Fails : List Token → Failure → Type 0) (whole : List Token) (so_far : List X) (rest : List Token) : Type 0 where
  pub completes : (more : List X) (w : Span) (end : List Token) → Spells rest more w end → Spells whole (so_far ++ more) w end
  pub fails : (f : Failure) → Fails rest f → Fails whole f

pub starts : {X : Type 0} {Spells : List Token → List X → Span → List Token → Type 0} {Fails : List Token → Failure → Type 0} {ts : List Token} → GoesOn Spells Fails ts [] ts
starts = record { completes = λ more w end d. d; fails = λ f d. d }

pub goes_on : {X : Type 0} {Spells : List Token → List X → Span → List Token → Type 0} {Fails : List Token → Failure → Type 0} {whole rest behind : List Token} {old new : List X} (x : X) → new ≡ old ++ x ∷ [] → GoesOn Spells Fails whole old rest
    → ((more : List X) (w : Span) (end : List Token) → Spells behind more w end → Spells rest (x ∷ more) w end) → ((f : Failure) → Fails behind f → Fails rest f) → GoesOn Spells Fails whole new behind
goes_on {old} x grown so_far more fails = record {
  completes = λ others w end d. rw (grown, append_assoc) (so_far.completes _ w end (more others w end d));
  fails = λ f d. so_far.fails f (fails f d);
}

-- with its last item
pub ends : {X : Type 0} {Spells : List Token → List X → Span → List Token → Type 0} {Fails : List Token → Failure → Type 0} {whole rest end : List Token} {old new : List X} {w : Span} (x : X) → new ≡ old ++ x ∷ [] → GoesOn Spells Fails whole old rest → Spells rest (x ∷ []) w end → Spells whole new w end
ends x grown so_far last = rw grown (so_far.completes _ _ _ last)

-- behind its last item
pub ended : {X : Type 0} {Spells : List Token → List X → Span → List Token → Type 0} {Fails : List Token → Failure → Type 0} {whole rest end : List Token} {items : List X} {w : Span} → GoesOn Spells Fails whole items rest → Spells rest [] w end → Spells whole items w end
ended {items} so_far none = rw append-nil at (so_far.completes [] _ _ none)

-- ---- the lists of the grammar, in the code's types

abbrev pub AreDeclarators : ℕ → List Token → List code.Declarator.Declarator → Span → List Token → Type 0
AreDeclarators d ts items w end = SpellsDeclarators ts (map declarator items) w end × IsLow d (declarators_reach (map declarator items))

abbrev pub AreAssignments : ℕ → List Token → List code.Assignment.Assignment → Span → List Token → Type 0
AreAssignments d ts items w end = SpellsAssignments ts (map assignment items) w end × IsLow d (assignments_reach (map assignment items))

abbrev pub AreStatements : ℕ → List Token → List code.Stmt.Stmt → Span → List Token → Type 0
AreStatements d ts items w end = SpellsStatements ts (statement_list items) w end × IsLow d (statements_reach (statement_list items))

abbrev pub AreMembers : List Token → List item_code.Member.Member → Span → List Token → Type 0
AreMembers ts items w end = SpellsMembers ts (map member items) end × IsLow 0 (members_reach (map member items))

abbrev pub AreParameters : List Token → List item_code.Parameter.Parameter → Span → List Token → Type 0
AreParameters ts items w end = SpellsListed ts (map parameter items) w end × IsLow 0 (members_reach (map parameter items))

abbrev pub AreItems : List Token → List item_code.Item.Item → Span → List Token → Type 0
AreItems ts items w end = SpellsItems ts (map item items) × IsLow 0 (items_reach (map item items))
