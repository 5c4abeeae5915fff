-- Where small statements assign the first of two locals, which may not be assigned: the local of the name n, which is 0, is 0 too, and m is 1.
use Rattle.std.specs.Prelude.{◌≡◌, ◌==◌, ℕ, List, [], ◌∷◌, Option, Some, None}
use Rattle.ckc_text.specs.declared.place.Span.{Span}
use Rattle.ckc_tree.specs.declared.identifier.Identifier.{Identifier}
use Rattle.ckc_tree.specs.declared.stmt.StoreOperator.TheVariants as stores
use Rattle.ckc_tree.specs.Types as types
use Rattle.ckc_tree.specs.Expressions as e
use Rattle.ckc_tree.specs.Statements as s
use Rattle.ckc_tree.specs.Statements.{Assignment, Declarator, Statement, Statements}
use Rattle.region_typing_rules.specs.Scopes.{Visible}
use Rattle.region_typing_rules.specs.KeptParameters.{all_changed}

abbrev span : ℕ → Span
span place = record { from = place; to = place }

abbrev identifier : ℕ → Identifier
identifier name = record { name = []; number = name; span = span 0 }

-- a name is assigned 1 at a place
abbrev set : (name place : ℕ) → Assignment
set name place = s.Store stores.Set (e.Name (identifier name)) (e.Number 1 (span 0)) (span place)

abbrev assign : (name place : ℕ) → Statement
assign name place = s.Assign (set name place) (span place)

abbrev declare : (name : ℕ) → Statement
declare name =
    let d : Declarator = record { stars = 0; name = identifier name; array = None; bounds = None; initializer = None; span = span 0 } in
    s.Declare (record { base = types.IntType (span 0); declarators = d ∷ []; span = span 0 }) (span 0)

abbrev two : Statement → Statement → Statements
two first second = s.Then first (s.Then second s.NoMore)

abbrev visible : List Visible
visible = record { name = 1; local = 1 } ∷ record { name = 0; local = 0 } ∷ []

abbrev found : Statements → Option Span
found body = all_changed (λ local. local == 0) 2 visible body

-- ---- examples

-- the first one is named, and another local may be assigned
abbrev pub first : Type 0
first = (found (two (assign 1 1) (s.Block None (two (assign 0 2) (assign 0 3)) (span 0))) ≡ Some (span 2)) × (found (two (assign 1 1) (assign 1 2)) ≡ None)

-- of a `for` the step comes before its body
abbrev pub steps : Type 0
steps = found (two (s.Empty (span 0)) (s.For s.Nothing None (Some (set 0 4)) (assign 0 5) (span 0))) ≡ Some (span 4)

-- a name that is declared once more stands for another local, to the end of its block
abbrev pub hidden : Type 0
hidden = (found (two (declare 0) (assign 0 1)) ≡ None) × (found (two (s.Block None (two (declare 0) (assign 0 1)) (span 0)) (assign 0 2)) ≡ Some (span 2))
