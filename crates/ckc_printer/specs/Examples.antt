-- Worked examples: trees, and the texts that they are printed as.
use Rattle.std.specs.Prelude.{ℕ, false, List, [], ◌∷◌, codes, Some, None}
use Rattle.ckc_text.specs.declared.place.Span.{Span}
use Rattle.ckc_tree.specs.declared.identifier.Identifier.{Identifier}
use Rattle.ckc_tree.specs.declared.expr.UnaryOperator.TheVariants.{Deref, AddressOf, Negate}
use Rattle.ckc_tree.specs.declared.expr.BinaryOperator.TheVariants.{Add, Multiply, ShiftRight}
use Rattle.ckc_tree.specs.declared.item.FunctionKind.TheVariants.{Trusted}
use Rattle.ckc_tree.specs.declared.item.Region.TheVariants.{On, Off}
use Rattle.ckc_tree.specs.declared.stmt.StoreOperator.TheVariants.{Set}
use Rattle.ckc_tree.specs.declared.type_form.PointerMode.TheVariants.{Checked}
use Rattle.ckc_tree.specs.declared.type_form.PointerKind.TheVariants.{One}
use Rattle.ckc_tree.specs.Types.{TypeTree, IntType, PointerType}
use Rattle.ckc_tree.specs.Expressions.{Expression, Number, Text, Name, Unary, Binary}
use Rattle.ckc_tree.specs.Statements as statements
use Rattle.ckc_tree.specs.Statements.{Statement, Declarator, Declare, Assign, Store, Return, Empty, If, IfElse, NoMore, Then}
use Rattle.ckc_tree.specs.Items.{Item, RegionItem, GlobalItem, FunctionItem, Value, VoidAlone, Tree}

-- the printer reads no span
abbrev here : Span
here = record { from = 0; to = 0 }

abbrev identifier_of : List ℕ → Identifier
identifier_of name = record { name = name; number = 0; span = here }

abbrev name_of : List ℕ → Expression
name_of name = Name (identifier_of name)

abbrev initialised : List ℕ → Expression → Declarator
initialised name value = record { stars = 0; name = identifier_of name; array = None; bounds = None; initializer = Some (statements.Value value); span = here }

abbrev program_of : List Item → Tree
program_of items = record { items = items; span = here }

abbrev global_one : Item
global_one = GlobalItem (record { tainted = false; base = IntType here; declarators = initialised (codes "g") (Number 1 here) ∷ []; span = here })

abbrev pointer_to_int : TypeTree
pointer_to_int = PointerType (record { mode = Checked; kind = One }) (IntType here) 0 here

abbrev main_function : Item
main_function = FunctionItem (record {
  kind = Trusted;
  mark = None;
  result = Value (IntType here);
  stars = 0;
  name = identifier_of (codes "main");
  parameters = VoidAlone;
  bounds = None;
  body = Some (record {
    mark = None;
    statements =
        Then (Declare (record {
          base = pointer_to_int;
          declarators = initialised (codes "p") (Unary AddressOf (name_of (codes "g")) here)
              ∷ [];
          span = here;
        }) here)
        (Then (Assign (Store Set (Unary Deref (name_of (codes "p")) here) (Number 41 here) here) here)
        (Then (Return (Some (Binary Add (name_of (codes "g")) (Number 1 here) here)) here) NoMore));
    span = here;
  });
  span = here;
})

abbrev pub small_program : Tree
small_program = program_of (global_one ∷ main_function ∷ [])

abbrev pub empty_program : Tree
empty_program = program_of []

-- a variable between two region lines
abbrev pub region_program : Tree
region_program = program_of (RegionItem On here ∷ global_one ∷ RegionItem Off here ∷ [])

-- a >> b
abbrev pub shift : Expression
shift = Binary ShiftRight (name_of (codes "a")) (name_of (codes "b")) here

-- (a + b * c) * - d, with parentheses around all operands that are operators themselves
abbrev pub nested : Expression
nested = Binary Multiply (Binary Add (name_of (codes "a")) (Binary Multiply (name_of (codes "b")) (name_of (codes "c")) here) here)
    (Unary Negate (name_of (codes "d")) here) here

-- a string of a letter, both quotes, a backslash, a line feed and a byte of 255
abbrev pub string : Expression
string = Text (97 ∷ 34 ∷ 39 ∷ 92 ∷ 10 ∷ 255 ∷ []) here

-- an else, which belongs to the nearest if
abbrev pub nearest : Statement
nearest = If (name_of (codes "a")) (IfElse (name_of (codes "b")) (Empty here) (Empty here) here) here
