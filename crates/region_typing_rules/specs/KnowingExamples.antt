-- What is known behind small statements, where n and m are `int` locals: their names have the numbers 0 and 1, and so have they.
use Rattle.std.specs.Prelude.{◌≡◌, ℕ, Bool, true, false, [], ◌∷◌, Some, None}
use Rattle.ckc_text.specs.declared.place.Span.{Span}
use Rattle.ckc_tree.specs.declared.identifier.Identifier.{Identifier}
use Rattle.ckc_tree.specs.declared.expr.BinaryOperator.{BinaryOperator}
use Rattle.ckc_tree.specs.declared.expr.BinaryOperator.TheVariants as binary
use Rattle.ckc_tree.specs.declared.stmt.StoreOperator.TheVariants as stores
use Rattle.ckc_tree.specs.Types as types
use Rattle.ckc_tree.specs.Expressions as e
use Rattle.ckc_tree.specs.Expressions.{Expression}
use Rattle.ckc_tree.specs.Statements as s
use Rattle.ckc_tree.specs.Statements.{Statement, Statements, Declarator}
use Rattle.ckc_names_rules.specs.declared.given.Given.{Given}
use Rattle.subsumption.specs.ClosedTables.{entails_terms}
use Rattle.bounds_flow.specs.Flows.{Knowledge, at_entry, variable}
use Rattle.pointer_modes.specs.Types.{Int}
use Rattle.region_typing_rules.specs.Verdicts.{Verdict, Passes, Stops}
use Rattle.region_typing_rules.specs.Scopes.{Scope}
use Rattle.region_typing_rules.specs.Knowing.{declared_in, assigned_in}
use Rattle.region_typing_rules.specs.Statements.{Walked, statement}
use Rattle.region_typing_rules.specs.Items.{nothing_known, limited, variables_in}

-- ---- statements

abbrev here : Span
here = record { from = 0; to = 0 }

abbrev identifier : ℕ → Identifier
identifier name = record { name = []; number = name; span = here }

abbrev name : ℕ → Expression
name number = e.Name (identifier number)

abbrev compare : BinaryOperator → Expression
compare operator = e.Binary operator (name 0) (name 1) here

-- n < m, and n == m
abbrev less : Expression
less = compare binary.Less

abbrev equal : Expression
equal = compare binary.Equal

abbrev set : ℕ → Expression → Statement
set target value = s.Assign (s.Store stores.Set (name target) value here) here

-- n = n + 1
abbrev next : Statement
next = set 0 (e.Binary binary.Add (name 0) (e.Number 1 here) here)

abbrev declare : ℕ → Statement
declare number =
    let d : Declarator = record { stars = 0; name = identifier number; array = None; bounds = None; initializer = None; span = here } in
    s.Declare (record { base = types.IntType here; declarators = d ∷ []; span = here }) here

abbrev two : Statement → Statement → Statement
two first second = s.Block None (s.Then first (s.Then second s.NoMore)) here

-- ---- what is known

abbrev given : Given
given = record { null = 100; next_input = 101; print_int = 102; putchar = 103; strlen = 105; main = 104 }

abbrev scope : Scope
scope = record (nothing_known given 0) {
  locals = Int ∷ Int ∷ [];
  visible = record { name = 1; local = 1 } ∷ record { name = 0; local = 0 } ∷ [];
  result = Some Int;
  flow = at_entry 3;
}

abbrev flow_of : Verdict Walked → Knowledge
flow_of (Passes w) = w.1.flow
flow_of (Stops stop) = at_entry 0

abbrev behind : Statement → Knowledge
behind x = flow_of (statement (λ at. record { line = 1; col = at }) scope x)

-- the local is at most the other one behind a statement
abbrev at_most : Statement → ℕ → ℕ → Bool
at_most x low high = entails_terms (variable low) (variable high) (behind x).facts

-- ---- examples

-- behind `if (n < m) return 0;` m is at most n: the other way leads nowhere
abbrev pub branches : Type 0
branches =
    let leaves = s.If less (s.Return (Some (e.Number 0 here)) here) here in
    let goes_on = s.If less next here in
    (at_most leaves 1 0 ≡ true) × (at_most leaves 0 1 ≡ false) × (at_most goes_on 1 0 ≡ false)
    × (at_most (s.IfElse less (set 0 (name 1)) (set 0 (name 1)) here) 0 1 ≡ true)

-- behind `while (n < m) n = n + 1;` m is at most n, and with a `break` where they are equal too; where it is elsewhere nothing is known
abbrev pub loops : Type 0
loops =
    let broken = λ (test : Expression). s.While less (two (s.If test (s.Break here) here) next) here in
    (at_most (s.While less next here) 1 0 ≡ true) × (at_most (broken equal) 1 0 ≡ true) × (at_most (broken (e.Number 1 here)) 1 0 ≡ false)

-- what was known before a loop of what it assigns is forgotten, and the rest is kept
abbrev pub heads : Type 0
heads =
    let before = λ (x : Statement). two (set 0 (name 1)) (s.While (e.Number 1 here) x here) in
    (at_most (before next) 0 1 ≡ false) × (at_most (before (s.Empty here)) 0 1 ≡ true)

-- a name that is declared in a loop stands for another local there, whose number is the next one
abbrev pub shadows : Type 0
shadows =
    (assigned_in scope (two next (set 1 (name 0))) None ≡ 0 ∷ 1 ∷ []) × (assigned_in scope (two (declare 0) (two next (set 1 (name 0)))) None ≡ 1 ∷ [])
    × (assigned_in scope (two next (declare 0)) None ≡ 0 ∷ [])
    × (at_most (two (set 0 (name 1)) (s.While (e.Number 1 here) (two (declare 0) next) here)) 0 1 ≡ true)

-- the flow of a function has a variable for each of its locals, and 256 at most
abbrev pub counts : Type 0
counts =
    (declared_in (two (declare 0) (s.IfElse less (declare 1) (declare 2) here)) ≡ 3) × (variables_in 2 (s.Then (declare 0) s.NoMore) ≡ 3)
    × (limited 256 255 ≡ 255) × (limited 256 256 ≡ 256) × (limited 256 257 ≡ 256)
