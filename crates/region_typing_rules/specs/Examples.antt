-- Small programs, and what they become.
use Rattle.std.specs.Prelude.{◌≡◌, ℕ, false, List, [], ◌∷◌, codes, Option, Some, None, pos}
use Rattle.ckc_text.specs.declared.place.Span.{Span}
use Rattle.ckc_text.specs.declared.place.Place.{Place}
use Rattle.ckc_text.specs.declared.code.Code.{Code}
use Rattle.ckc_text.specs.declared.code.Code.TheVariants.{E10, E15, E30}
use Rattle.ckc_tree.specs.declared.identifier.Identifier.{Identifier}
use Rattle.ckc_tree.specs.declared.item.FunctionKind.{FunctionKind}
use Rattle.ckc_tree.specs.declared.item.FunctionKind.TheVariants as function_kinds
use Rattle.ckc_tree.specs.declared.expr.UnaryOperator.TheVariants as unary
use Rattle.ckc_tree.specs.declared.expr.BinaryOperator.TheVariants as binary
use Rattle.ckc_tree.specs.declared.stmt.StoreOperator.TheVariants as stores
use Rattle.ckc_tree.specs.declared.type_form.PointerMode.TheVariants as written_modes
use Rattle.ckc_tree.specs.declared.type_form.PointerKind.TheVariants as written_kinds
use Rattle.ckc_tree.specs.Types as types
use Rattle.ckc_tree.specs.Types.{TypeTree}
use Rattle.ckc_tree.specs.Expressions as e
use Rattle.ckc_tree.specs.Expressions.{Expression}
use Rattle.ckc_tree.specs.Statements as s
use Rattle.ckc_tree.specs.Statements.{Statement, Statements, Declarator}
use Rattle.ckc_tree.specs.Items as i
use Rattle.ckc_tree.specs.Items.{Item, Tree}
use Rattle.bounds_exprs.specs.Normal.{constant}
use Rattle.pointer_modes.specs.declared.ctype.Mode.TheVariants as modes
use Rattle.pointer_modes.specs.declared.ctype.Kind.TheVariants as kinds
use Rattle.pointer_modes.specs.Types.{Int, Pointer}
use Rattle.ckc_core.specs.Programs.{Trusted, open_variable}
use Rattle.ckc_core.specs.declared.program.Site.{Site}
use Rattle.act_words.specs.declared.operator.ArithmeticOperator.TheVariants as arithmetics
use Rattle.act_words.specs.declared.operator.Operator.TheVariants as operators
use Rattle.ckc_core.specs.declared.program.PointerBounds.{PointerBounds}
use Rattle.ckc_core.specs.Core as core
use Rattle.region_typing_rules.specs.Verdicts.{Verdict, Passes, Stops, Broken, Nameless}
use Rattle.ckc_core.specs.Core.{Core}
use Rattle.ckc_names_rules.specs.Naming.{named_of}
use Rattle.region_typing_rules.specs.Cores.{checked}

-- spans that no place is asked of
abbrev here : Span
here = record { from = 0; to = 0 }

abbrev identifier_of : List ℕ → Identifier
identifier_of name = record { name = name; number = 0; span = here }

abbrev name_of : List ℕ → Expression
name_of name = e.Name (identifier_of name)

abbrev initialised : List ℕ → Expression → Declarator
initialised name value = record { stars = 0; name = identifier_of name; array = None; bounds = None; initializer = Some (s.Value value); span = here }

abbrev program_of : List Item → Tree
program_of items = record { items = items; span = here }

abbrev global_one : Item
global_one = i.GlobalItem (record { tainted = false; base = types.IntType here; declarators = initialised (codes "g") (e.Number 1 here) ∷ []; span = here })

abbrev pointer_to_int : TypeTree
pointer_to_int = types.PointerType (record { mode = written_modes.Checked; kind = written_kinds.One }) (types.IntType here) 0 here

abbrev main_function : Item
main_function = i.FunctionItem (record {
  kind = function_kinds.Trusted;
  mark = None;
  result = i.Value (types.IntType here);
  stars = 0;
  name = identifier_of (codes "main");
  parameters = i.VoidAlone;
  bounds = None;
  body = Some (record {
    mark = None;
    statements =
        s.Then (s.Declare (record {
          base = pointer_to_int;
          declarators = initialised (codes "p") (e.Unary unary.AddressOf (name_of (codes "g")) here)
              ∷ [];
          span = here;
        }) here)
        (s.Then (s.Assign (s.Store stores.Set (e.Unary unary.Deref (name_of (codes "p")) here) (e.Number 41 here) here) here)
        (s.Then (s.Return (Some (e.Binary binary.Add (name_of (codes "g")) (e.Number 1 here) here)) here) s.NoMore));
    span = here;
  });
  span = here;
})

abbrev small_program : Tree
small_program = program_of (global_one ∷ main_function ∷ [])

-- all on one line
abbrev at : ℕ → Place
at n = record { line = 1; col = n }

abbrev becomes : Verdict Core → Core → Type 0
becomes (Passes c) expected = c ≡ expected
becomes (Stops stop) expected = ⊥

abbrev pub breaks_at : Verdict Core → Code → ℕ → Type 0
breaks_at (Passes c) code from = ⊥
breaks_at (Stops (Broken fault)) code from = (fault.code ≡ code) × (fault.span.from ≡ from)
breaks_at (Stops Nameless) code from = ⊥

abbrev place : Site
place = record { place = at 0 }

-- the bounds of a `ptr<int>` there
abbrev one_int : Site → Option PointerBounds
one_int site = Some (record { bounds = record { base = None; lo = constant (pos 0); hi = constant (pos 1) }; size = 4; terminated = false; site = site })

-- int g = 1; int main(void) { ptr<int> p = &g; *p = 41; return g + 1; }
abbrev pub first_run : Type 0
first_run =
    becomes (checked at (named_of small_program))
    (record {
      objects = open_variable (record { type = Int; stride = 4; number = pos 1 } ∷ []) ∷ [];
      definitions = Trusted (record {
        name = codes "main";
        parameters = 0;
        locals = Pointer modes.Checked kinds.One Int ∷ [];
        result = Some Int;
        body =
            core.Then (core.Block (core.Then (core.Block (core.Then (core.SetLocal 0 core.Null)
            (core.Then (core.SetLocal 0 (core.AddressOf (core.Direct 0 0) (one_int place))) core.NoMore))) (core.Then core.Nothing core.NoMore)))
            (core.Then (core.Store Int (core.Through (core.Local 0 (one_int place)) core.First 0 place) (core.Number (pos 41)))
            (core.Then (core.Return (core.Arithmetic (operators.Arithmetic arithmetics.Add)
            (core.Load Int (core.Direct 0 0) None) (core.Number (pos 1)) place)) core.NoMore));
      }) ∷ [];
      main = 0;
    })

abbrev span : ℕ → ℕ → Span
span from to = record { from = from; to = to }

abbrev listed : List Statement → Statements
listed [] = s.NoMore
listed (first ∷ others) = s.Then first (listed others)

abbrev main_with : List Statement → Tree
main_with statements = record {
  items = i.FunctionItem (record {
    kind = function_kinds.Trusted;
    mark = None;
    result = i.Value (types.IntType (span 0 3));
    stars = 0;
    name = record { name = codes "main"; number = 0; span = span 4 8 };
    parameters = i.VoidAlone;
    bounds = None;
    body = Some (record { mark = None; statements = listed statements; span = span 15 42 });
    span = span 0 42;
  }) ∷ [];
  span = span 0 42;
}

-- int main(void) { int *p = 0; return 0; }
abbrev pub raw_in_checked : Type 0
raw_in_checked =
    breaks_at
    (checked at (named_of (main_with (s.Declare (record {
      base = types.IntType (span 17 20);
      declarators = record {
        stars = 1;
        name = record { name = codes "p"; number = 0; span = span 22 23 };
        array = None;
        bounds = None;
        initializer = Some (s.Value (e.Number 0 (span 26 27)));
        span = span 21 27;
      } ∷ [];
      span = span 17 27;
    }) (span 17 28) ∷ (s.Return (Some (e.Number 0 (span 36 37))) (span 29 38) ∷ [])))))
    E15 17

-- int main(void) { break; return 0; }
abbrev pub break_outside : Type 0
break_outside = breaks_at (checked at (named_of (main_with (s.Break (span 17 23) ∷ (s.Return (Some (e.Number 0 (span 31 32))) (span 24 33) ∷ []))))) E30 17

abbrev prototype : FunctionKind → Tree
prototype kind = record {
  items = i.FunctionItem (record {
    kind = kind;
    mark = None;
    result = i.Value (types.IntType (span 10 13));
    stars = 0;
    name = record { name = codes "f"; number = 0; span = span 14 15 };
    parameters = i.VoidAlone;
    bounds = None;
    body = None;
    span = span 7 22;
  }) ∷ [];
  span = span 0 22;
}

abbrev passes : Verdict Core → Type 0
passes (Passes c) = Unit {0}
passes (Stops stop) = ⊥

-- int f(void); and the same with _Callback or _Tainted before it: what isn't tainted has a body
abbrev pub without_bodies : Type 0
without_bodies =
    breaks_at (checked at (named_of (prototype function_kinds.Trusted))) E10 7
    × (breaks_at (checked at (named_of (prototype function_kinds.Callback))) E10 7 × passes (checked at (named_of (prototype function_kinds.Tainted))))
