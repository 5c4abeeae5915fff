-- Worked examples: statements with a string in each kind of place, and statements whose strings all stand in bounds. In the
-- comments a number stands for the string of that one byte.
use Rattle.std.specs.Prelude.{ℕ, zero, suc, List, [], ◌∷◌, ◌+◌, codes, Option, Some, None}
use Rattle.ckc_text.specs.declared.place.Span.{Span}
use Rattle.ckc_tree.specs.declared.identifier.Identifier.{Identifier}
use Rattle.ckc_tree.specs.declared.expr.UnaryOperator.TheVariants as unary
use Rattle.ckc_tree.specs.declared.expr.BinaryOperator.TheVariants as binary
use Rattle.ckc_tree.specs.declared.expr.CastWord.TheVariants as cast_words
use Rattle.ckc_tree.specs.declared.expr.MallocWord.TheVariants as malloc_words
use Rattle.ckc_tree.specs.declared.expr.CallocWord.TheVariants as calloc_words
use Rattle.ckc_tree.specs.declared.stmt.StoreOperator.TheVariants as stores
use Rattle.ckc_tree.specs.declared.stmt.StepOperator.TheVariants as steps
use Rattle.ckc_tree.specs.declared.stmt.StepSide.TheVariants as sides
use Rattle.ckc_tree.specs.Types.{TypeName, IntType}
use Rattle.ckc_tree.specs.Expressions as e
use Rattle.ckc_tree.specs.Expressions.{Expression, Expressions, Bounds}
use Rattle.ckc_tree.specs.Statements as s
use Rattle.ckc_tree.specs.Statements.{Initializer, Declarator, Declaration, Assignment, Statement, Statements}
use Rattle.ckc_tree.specs.Texts.{Text}

abbrev span : ℕ → ℕ → Span
span from to = record { from = from; to = to }

-- where a form stands that is no string doesn't matter
abbrev around : Span
around = span 0 100

abbrev x : Identifier
x = record { name = codes "x"; number = 0; span = around }

abbrev int : TypeName
int = record { base = IntType around; stars = 0 }

-- a string of one byte, which is its number in the source
abbrev string : ℕ → Expression
string n = e.Text (n ∷ []) (span n (n + 3))

abbrev one : Expression → Expressions
one first = e.Then first e.NoMore

abbrev two : Expression → Expression → Expressions
two first second = e.Then first (one second)

-- .. = ..
abbrev set : Expression → Expression → Assignment
set target value = s.Store stores.Set target value around

-- ..++
abbrev next : Expression → Assignment
next target = s.Step steps.Increment sides.After target around

abbrev call : Expressions → Statement
call arguments = s.CallAlone (e.Call x arguments around) around

abbrev declarator : Option Bounds → Option Initializer → Declarator
declarator bounds initializer = record { stars = 0; name = x; array = None; bounds = bounds; initializer = initializer; span = around }

abbrev declaration : List Declarator → Declaration
declaration declarators = record { base = int.base; declarators = declarators; span = around }

abbrev initial : ℕ → Declarator
initial n = declarator None (Some (s.Value (string n)))

abbrev listed : List Statement → Statements
listed [] = s.NoMore
listed (first ∷ others) = s.Then first (listed others)

abbrev block : List Statement → Statement
block statements = s.Block None (listed statements) around

-- { x(x(1, 2), sizeof (int)); x(_Dynamic_bounds_cast<int>(3), malloc<int>(4)); x(calloc<int>(5, 6));
--   x(7[8], *9); x(10.x, 11->x); x(12 + (13 < 14)); }
abbrev in_expressions : Statement
in_expressions = block (
    call (two (e.Call x (two (string 1) (string 2)) around) (e.SizeOf int around))
    ∷ call (two (e.Cast cast_words.Dynamic int (string 3) around) (e.Malloc malloc_words.Malloc int (string 4) around))
    ∷ call (one (e.Calloc calloc_words.Calloc int (string 5) (string 6) around))
    ∷ call (two (e.Index (string 7) (string 8) around) (e.Unary unary.Deref (string 9) around))
    ∷ call (two (e.Dot (string 10) x around) (e.Arrow (string 11) x around))
    ∷ call (one (e.Binary binary.Add (string 12) (e.Binary binary.Less (string 13) (string 14) around) around))
    ∷ [])

-- x : count(90) = _Assume_bounds_cast<int>(16, count(91)), which has only the string 16
abbrev bounded : Declarator
bounded =
    declarator (Some (e.Count (string 90) around))
    (Some (s.Value (e.BoundedCast cast_words.Assume int (string 16) (e.Count (string 91) around) around)))

-- while (28) { 29++; continue; }
abbrev in_while : Statement
in_while = s.While (string 28) (block (s.Assign (next (string 29)) around ∷ s.Continue around ∷ [])) around

-- for (int x = 30; 31; 32++) { x(33); break; }
abbrev in_for : Statement
in_for =
    s.For (s.Declares (declaration (initial 30 ∷ []))) (Some (string 31)) (Some (next (string 32)))
    (block (call (one (string 33)) ∷ s.Break around ∷ [])) around

-- int x = 15, x : count(90) = ..; 17[18] = 19; _Bundled { 20 = 21; 22++; } if (23) x(24); if (25) x(26); else { x(27); }
-- while (28) .. for (..) .. for (34 = 35; ; ) ; return 36;
abbrev pub everywhere : Statements
everywhere = listed (
    in_expressions
    ∷ s.Declare (declaration (initial 15 ∷ bounded ∷ [])) around
    ∷ s.Assign (set (e.Index (string 17) (string 18) around) (string 19)) around
    ∷ s.Bundle (set (string 20) (string 21) ∷ next (string 22) ∷ []) around
    ∷ s.If (string 23) (call (one (string 24))) around
    ∷ s.IfElse (string 25) (call (one (string 26))) (block (call (one (string 27)) ∷ [])) around
    ∷ in_while
    ∷ in_for
    ∷ s.For (s.Assigns (set (string 34) (string 35))) None None (s.Empty around) around
    ∷ s.Return (Some (string 36)) around
    ∷ [])

-- so many strings from a number on
abbrev texts_from : ℕ → ℕ → List Text
texts_from n zero = []
texts_from n (suc k) = record { bytes = n ∷ []; span = span n (n + 3) } ∷ texts_from (n + 1) k

-- the strings 1 to 36
abbrev pub in_order : List Text
in_order = texts_from 1 36

-- int x : count(1); x = _Dynamic_bounds_cast<int>(x, bounds(2, 3)); for (int x : byte_count(4); ; ) ;
abbrev pub in_bounds : Statements
in_bounds = listed (
    s.Declare (declaration (declarator (Some (e.Count (string 1) around)) None ∷ [])) around
    ∷ s.Assign (set (e.Name x) (e.BoundedCast cast_words.Dynamic int (e.Name x) (e.Range (string 2) (string 3) around) around)) around
    ∷ s.For (s.Declares (declaration (declarator (Some (e.ByteCount (string 4) around)) None ∷ []))) None None (s.Empty around) around
    ∷ [])
