-- Bundles, where n is an `int` local with the number 0, p is a pointer to `int`s with the number 1 for which count(n) is declared, and q is one with the
-- number 2 for which count(3) is.
use Rattle.std.specs.Prelude.{◌≡◌, pos, true, false, List, [], ◌∷◌, Option, Some, None}
use Rattle.ckc_text.specs.declared.place.Span.{Span}
use Rattle.ckc_text.specs.declared.code.Code.TheVariants.{E12, E17, E18, E20, E21}
use Rattle.ckc_tree.specs.declared.stmt.StoreOperator.TheVariants as stores
use Rattle.ckc_tree.specs.Expressions as e
use Rattle.ckc_tree.specs.Expressions.{Expression}
use Rattle.ckc_tree.specs.Statements as s
use Rattle.ckc_tree.specs.Statements.{Assignment}
use Rattle.bounds_exprs.specs.declared.term.Bounds.{Bounds}
use Rattle.bounds_flow.specs.declared.steps.Source.TheVariants as sources
use Rattle.bounds_flow.specs.Flows.{Knowledge, at_entry, entered, held_at, in_bundle, pointer_assigned}
use Rattle.pointer_modes.specs.declared.ctype.Mode.TheVariants as modes
use Rattle.pointer_modes.specs.declared.ctype.Kind.TheVariants as kinds
use Rattle.pointer_modes.specs.Types.{CType, Int, Char, Pointer}
use Rattle.ckc_core.specs.Core as core
use Rattle.region_typing_rules.specs.Verdicts.{Verdict, Passes, passing, breaks}
use Rattle.region_typing_rules.specs.Scopes.{Scope}
use Rattle.region_typing_rules.specs.DeclaredBounds.{row_of}
use Rattle.region_typing_rules.specs.Readings.{told}
use Rattle.region_typing_rules.specs.Statements.{assigning, bundle}
use Rattle.region_typing_rules.specs.MemoryExamples.{here, site, name, row, scope as plain_scope, from_to, term}

-- 0 to n, and further
abbrev count_n : Bounds
count_n = from_to None (term None 0) (term (Some 0) 0)

abbrev scope : Scope
scope = record plain_scope {
  locals = Int ∷ row ∷ row ∷ [];
  visible = record { name = 2; local = 2 } ∷ record { name = 1; local = 1 } ∷ record { name = 0; local = 0 } ∷ [];
  flow = entered 2 (Some (row_of 3)) (entered 1 (Some count_n) (at_entry 3));
}

-- where a bundle stands, and where an assignment in it does
abbrev around : Span
around = record { from = 0; to = 40 }

abbrev there : Span
there = record { from = 11; to = 16 }

abbrev set : Expression → Expression → Assignment
set target value = s.Store stores.Set target value there

-- `n = 3`, `n = 4`, `p = q`, `q[0] = 1` and `p[0] = 1`
abbrev to_three : Assignment
to_three = set (name 0) (e.Number 3 here)

abbrev to_four : Assignment
to_four = set (name 0) (e.Number 4 here)

abbrev to_q : Assignment
to_q = set (name 1) (name 2)

abbrev to_element : Assignment
to_element = set (e.Index (name 2) (e.Number 0 here) here) (e.Number 1 here)

abbrev to_lost : Assignment
to_lost = set (e.Index (name 1) (e.Number 0 here) here) (e.Number 1 here)

-- what a bundle becomes, and the bounds of p behind it
abbrev becomes : List Assignment → Verdict (core.Statement × Option Bounds)
becomes written = passing (bundle (λ byte. record { line = 1; col = 1 }) scope written around) (λ w. Passes (w.0, (held_at w.1.flow.held 1).bounds))

abbrev q : core.Expression
q = core.Local 2 (Some (record { bounds = row_of 3; size = 4; terminated = false; site = site }))

abbrev three : core.Statement
three = core.SetLocal 0 (core.Number (pos 3))

-- the number and the pointer together, in either order, where neither could be assigned before the other by itself. Behind them p has its declared bounds
abbrev pub together : Type 0
together =
    (becomes (to_three ∷ to_q ∷ []) ≡ Passes (core.Block (core.Then three (core.Then (core.SetLocal 1 q) core.NoMore)), Some count_n))
    × (becomes (to_q ∷ to_three ∷ []) ≡ Passes (core.Block (core.Then (core.SetLocal 1 q) (core.Then three core.NoMore)), Some count_n))
    × (assigning (λ byte. record { line = 1; col = 1 }) scope to_three ≡ breaks E20 there)
    × (assigning (λ byte. record { line = 1; col = 1 }) scope to_q ≡ breaks E17 there)
    × (becomes [] ≡ Passes (core.Block core.NoMore, Some count_n))

-- what is asked at its end is refused at the bundle
abbrev pub settled : Type 0
settled = (becomes (to_three ∷ []) ≡ breaks E20 around) × (becomes (to_q ∷ []) ≡ breaks E17 around) × (becomes (to_four ∷ to_q ∷ []) ≡ breaks E17 around)

-- A fault of an assignment comes first, then a target that is no local, and then what is asked at the end. Behind `n = 3` the bounds of p are lost
abbrev pub targets : Type 0
targets =
    (becomes (to_element ∷ []) ≡ breaks E21 around) × (becomes (to_three ∷ to_element ∷ []) ≡ breaks E21 around)
    × (becomes (to_element ∷ set (e.Number 1 here) (e.Number 2 here) ∷ []) ≡ breaks E12 there)
    × (becomes (to_lost ∷ []) ≡ breaks E21 around) × (becomes (to_three ∷ to_lost ∷ []) ≡ breaks E18 here)

-- ---- ways through one expression

abbrev text : CType
text = Pointer modes.Checked kinds.Nt Char

abbrev locals : List CType
locals = Int ∷ text ∷ []

abbrev characters : core.Expression
characters = core.Local 1 None

-- `c[4] || n`, where c is a pointer with the number 1 that was assigned a text of four characters, and for which count(n) is declared
abbrev tested : core.Expression
tested = core.OrElse (core.Load Char (core.Through characters (core.Element (core.Number (pos 4)) true) 0 site) None) (core.Local 0 None)

abbrev to_four_characters : Knowledge → Knowledge
to_four_characters f = pointer_assigned 1 (sources.Known (row_of 4)) None true f

abbrev bounds_in : Knowledge → Option Bounds
bounds_in f = (held_at f.held 1).bounds

-- in a bundle the ways of an expression fall back on what was in force before it, and else on the declared bounds
abbrev pub ways : Type 0
ways =
    let before = entered 1 (Some count_n) (at_entry 2) in
    (bounds_in (told locals tested true (to_four_characters (in_bundle before))) ≡ Some (row_of 4))
    × (bounds_in (told locals tested true (to_four_characters before)) ≡ Some count_n)
    × (bounds_in (told locals tested false (to_four_characters (in_bundle before))) ≡ Some (row_of 4))
