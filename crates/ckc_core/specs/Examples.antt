-- Small programs, written down as plain data.
use Rattle.std.specs.Prelude.{◌≡◌, ℕ, Bool, true, false, List, [], ◌∷◌, Option, Some, None, codes, pos, negsuc, replicate}
use Rattle.std.proofs.Common.{ℤ, ◌-ℤ◌, neg_ℤ}
use Rattle.act_words.specs.declared.ending.Ending.{Ending}
use Rattle.act_words.specs.declared.ending.Ending.TheVariants.{Exit, Check, Stop}
use Rattle.ckc_text.specs.declared.code.Code.{Code}
use Rattle.ckc_text.specs.declared.code.Code.TheVariants.{C1, C2, C3, C5, C6, S1, S2}
use Rattle.ckc_core.specs.Outcome.{Outcome, Gives, Ends, Stuck, Unsound, Short}
use Rattle.pointer_modes.specs.declared.ctype.Mode.TheVariants as modes
use Rattle.pointer_modes.specs.declared.ctype.Kind.TheVariants as kinds
use Rattle.pointer_modes.specs.Types.{CType, Int, Char, Struct, Pointer}
use Rattle.act_words.specs.World.{World, new_world}
use Rattle.ckc_core.specs.declared.program.Site.{Site}
use Rattle.act_words.specs.declared.operator.ArithmeticOperator.TheVariants as arithmetics
use Rattle.act_words.specs.declared.operator.Operator.TheVariants as operators
use Rattle.act_words.specs.declared.operator.Comparison.TheVariants as comparisons
use Rattle.ckc_core.specs.declared.program.Callee.TheVariants as callees
use Rattle.ckc_core.specs.declared.program.Direction.TheVariants as directions
use Rattle.ckc_core.specs.declared.program.Terminator.TheVariants as terminators
use Rattle.ckc_core.specs.Core
use Rattle.ckc_core.specs.declared.program.PointerBounds.{PointerBounds}
use Rattle.bounds_exprs.specs.Normal.{constant}
use Rattle.ckc_core.specs.Programs.{Initial, Variable, Trusted, open_variable, parted}
use Rattle.ckc_core.specs.Core.{Core, Expression, Statement, Statements, Function}
use Rattle.ckc_core.specs.States.{At, State}
use Rattle.ckc_core.specs.Bounds.{is_valid}
use Rattle.ckc_core.specs.Steps.{initial}
use Rattle.ckc_core.specs.Meaning.{run_from}

abbrev pub site : ℕ → ℕ → Site
site line col = record { place = record { line = line; col = col } }

-- the bounds of a `ptr` whose element has so many bytes
abbrev pub one_of : ℕ → Option PointerBounds
one_of size = Some (record { bounds = record { base = None; lo = constant (pos 0); hi = constant (pos 1) }; size = size; terminated = false; site = site 1 1 })

abbrev pub int_local : ℕ → Expression
int_local local = Core.Local local None

abbrev pub int_in : ℕ → Expression
int_in object = Core.Load Int (Core.Direct object 0) None

abbrev pub world : World
world = new_world (replicate 64 0) 16 [] []

-- the run of a program with a budget, in which the sandbox ends at once
abbrev pub runs : Core → ℕ → Outcome State (Unit {0})
runs program budget =
    run_from true (record { program = parted program; budget = budget; sandbox = 64; trusted = 64 }) (initial (parted program) world)

abbrev pub ends_as : Outcome State (Unit {0}) → Ending → Type 0
ends_as (Gives value s) ending = ⊥
ends_as (Ends how s) ending = how ≡ ending
ends_as (Stuck site s) ending = ⊥
ends_as (Unsound site s) ending = ⊥
ends_as Short ending = ⊥

abbrev pub is_unsound : Outcome State (Unit {0}) → Site → Type 0
is_unsound (Gives value s) at = ⊥
is_unsound (Ends how s) at = ⊥
is_unsound (Stuck other s) at = ⊥
is_unsound (Unsound other s) at = other ≡ at
is_unsound Short at = ⊥

abbrev pub body : List Statement → Statements
body [] = Core.NoMore
body (s ∷ others) = Core.Then s (body others)

abbrev pub main_with : List CType → List Statement → Function
main_with locals statements = record { name = codes "main"; parameters = 0; locals = locals; result = Some Int; body = body statements }

abbrev pub one : List CType → List Variable → List Statement → Core
one locals objects statements = record { objects = objects; definitions = Trusted (main_with locals statements) ∷ []; main = 0 }

abbrev pub number : ℕ → Expression
number n = Core.Number (pos n)

abbrev pub int_cell : ℕ → Initial
int_cell n = record { type = Int; stride = 4; number = pos n }

-- int g = 1; int main(void) { ptr<int> p = &g; *p = 41; return g + 1; }
abbrev pub first_run : Core
first_run =
    one (Pointer modes.Checked kinds.One Int ∷ []) (open_variable (int_cell 1 ∷ []) ∷ [])
    (Core.SetLocal 0 (Core.AddressOf (Core.Direct 0 0) (one_of 4))
    ∷ (Core.Store Int (Core.Through (Core.Local 0 (one_of 4)) Core.First 0 (site 1 46)) (number 41)
    ∷ (Core.Return (Core.Arithmetic (operators.Arithmetic arithmetics.Add) (int_in 0) (number 1) (site 1 62)) ∷ [])))

abbrev pub first_run_ends : Type 0
first_run_ends = ends_as (runs first_run 100) (Exit (pos 42))

-- array_ptr<int>, whose element has 4 bytes, with these ends
abbrev pub ints : ℤ → ℤ → Option PointerBounds
ints lo hi = Some (record { bounds = record { base = None; lo = constant lo; hi = constant hi }; size = 4; terminated = false; site = site 1 1 })

abbrev pub int_array : CType
int_array = Pointer modes.Checked kinds.Array Int

-- { array_ptr<int> a : count(3) = calloc<int>(count, sizeof(int)); BODY }
abbrev pub with_array : ℕ → List Statement → Core
with_array count statements =
    one (int_array ∷ []) [] (Core.SetLocal 0 (Core.Allocate (number count) (int_cell 0 ∷ []) terminators.Absent (ints (pos 0) (pos 3))) ∷ statements)

abbrev pub array : Expression
array = Core.Local 0 (ints (pos 0) (pos 3))

-- a[n]
abbrev pub element : ℤ → Core.Place
element n = Core.Through array (Core.Element (Core.Number n) false) 0 (site 2 1)

-- *(a + n)
abbrev pub sum : ℤ → Expression
sum n = Core.Sum array directions.Forward (Core.Number n) (site 2 9) (ints (neg_ℤ n) (pos 3 -ℤ n))

-- a[2] = 7; return *(a + 2);
abbrev pub array_ends : Type 0
array_ends =
    ends_as
    (runs
    (with_array 3 (Core.Store Int (element (pos 2)) (number 7)
    ∷ (Core.Return (Core.Load Int (Core.Through (sum (pos 2)) (Core.Element (number 0) false) 0 (site 2 8)) None) ∷ []))) 100)
    (Exit (pos 7))

abbrev returns : Expression → Outcome State (Unit {0})
returns e = runs (with_array 3 (Core.Return e ∷ [])) 100

abbrev fails : Expression → Code → ℕ → Type 0
fails e code col = ends_as (returns e) (Check code (record { line = 2; col = col }))

-- an element lies below the upper end, and a sum may be there; both checks name their own place
abbrev pub array_bounds : Type 0
array_bounds =
    fails (Core.Load Int (element (pos 3)) None) C2 1 × fails (Core.Load Int (element (negsuc 0)) None) C2 1
    × ends_as (returns (Core.Order comparisons.Less array (sum (pos 3)) (site 2 5))) (Exit (pos 1))
    × fails (Core.Not (sum (pos 4))) C2 9 × fails (Core.Not (sum (negsuc 0))) C2 9

-- of no elements, of less than none, and where the room is spent, an allocation is null; nobody may take an element of null
abbrev pub null_arrays : Type 0
null_arrays =
    ends_as (runs (with_array 0 (Core.Return (Core.Not array) ∷ [])) 100) (Exit (pos 1))
    × ends_as (returns (Core.Not (Core.Allocate (Core.Number (negsuc 0)) (int_cell 0 ∷ []) terminators.Absent None))) (Exit (pos 1))
    × ends_as (runs (with_array 9 (Core.Return (Core.Not array) ∷ [])) 100) (Exit (pos 1))
    × ends_as (runs (with_array 0 (Core.Return (Core.Load Int (element (pos 0)) None) ∷ [])) 100) (Check C1 (record { line = 2; col = 1 }))

-- _Dynamic_bounds_cast<array_ptr<int>>(a, bounds(a + lo, a + hi)) != NULL
abbrev cast_between : ℤ → ℤ → Expression
cast_between lo hi =
    Core.Not (Core.Not (Core.Cast array
    (Some (record { bounds = record { base = None; lo = constant lo; hi = constant hi }; size = 4; terminated = false; site = site 2 3 }))))

-- a cast may narrow bounds at both ends, and make them empty, but never widen them
abbrev pub cast_ends : Type 0
cast_ends =
    ends_as (returns (cast_between (pos 1) (pos 2))) (Exit (pos 1)) × ends_as (returns (cast_between (pos 5) (pos 4))) (Exit (pos 1))
    × fails (cast_between (pos 0) (pos 4)) C5 3 × fails (cast_between (negsuc 0) (pos 3)) C5 3

-- ---- null-terminated pointers

abbrev pub char_cell : ℕ → Initial
char_cell n = record { type = Char; stride = 1; number = pos n }

-- "ab", which a zero ends
abbrev pub text : Variable
text = record { cells = char_cell 97 ∷ char_cell 98 ∷ char_cell 0 ∷ []; zero_ended = true; is_sealed = false }

-- nt_array_ptr<char> with `count(n)`
abbrev pub chars : ℤ → Option PointerBounds
chars n = Some (record { bounds = record { base = None; lo = constant (pos 0); hi = constant n }; size = 1; terminated = true; site = site 1 1 })

-- "ab" as a pointer with `count(n)`
abbrev pub string : ℤ → Expression
string n = Core.AddressOf (Core.Direct 0 0) (chars n)

-- the k-th byte of it
abbrev pub byte_of : ℤ → ℤ → Core.Place
byte_of n k = Core.Through (string n) (Core.Element (Core.Number k) true) 0 (site 2 1)

abbrev in_text : ℕ → List Statement → Outcome State (Unit {0})
in_text budget statements = runs (one [] (text ∷ []) statements) budget

abbrev without_text : List Statement → Outcome State (Unit {0})
without_text statements = runs (one [] [] statements) 100

abbrev reads_byte : ℤ → ℤ → Outcome State (Unit {0})
reads_byte n k = in_text 100 (Core.Return (Core.Load Char (byte_of n k) None) ∷ [])

abbrev stores_byte : ℤ → ℤ → ℕ → Outcome State (Unit {0})
stores_byte n k value = in_text 100 (Core.Store Char (byte_of n k) (number value) ∷ (Core.Return (Core.Load Char (byte_of (pos 2) k) None) ∷ []))

-- the upper end is read, and nothing behind it; bounds reach up to the last zero, and not behind it
abbrev pub text_reads : Type 0
text_reads =
    ends_as (reads_byte (pos 2) (pos 1)) (Exit (pos 98)) × ends_as (reads_byte (pos 2) (pos 2)) (Exit (pos 0))
    × ends_as (reads_byte (pos 0) (pos 1)) (Check C2 (record { line = 2; col = 1 })) × is_unsound (reads_byte (pos 3) (pos 0)) (site 1 1)

-- at the upper end 0 is stored, and nothing else, wherever the block ends
abbrev pub text_stores : Type 0
text_stores =
    ends_as (stores_byte (pos 2) (pos 1) 7) (Exit (pos 7)) × ends_as (stores_byte (pos 2) (pos 2) 0) (Exit (pos 0))
    × ends_as (stores_byte (pos 2) (pos 2) 7) (Check C3 (record { line = 2; col = 1 }))
    × ends_as (stores_byte (pos 1) (pos 1) 7) (Check C3 (record { line = 2; col = 1 }))

-- strlen("ab") reads three bytes, each for a tick
abbrev pub text_counts : Type 0
text_counts =
    ends_as (in_text 3 (Core.Return (Core.Length (string (pos 2)) (site 2 1)) ∷ [])) (Exit (pos 2))
    × ends_as (in_text 2 (Core.Return (Core.Length (string (pos 2)) (site 2 1)) ∷ [])) (Stop S1 None)
    × ends_as (in_text 3 (Core.Return (Core.Length (string (negsuc 0)) (site 2 1)) ∷ [])) (Check C2 (record { line = 2; col = 1 }))
    × ends_as (in_text 3 (Core.Return (Core.Length Core.Null (site 2 1)) ∷ [])) (Check C1 (record { line = 2; col = 1 }))

-- nt_calloc<char>(n, sizeof(char)) has n characters and a zero behind them; of none it is null
abbrev pub text_allocations : Type 0
text_allocations =
    ends_as
    (without_text (Core.Return (Core.Length (Core.Allocate (number 2) (char_cell 0 ∷ []) terminators.Behind (chars (pos 2))) (site 2 1)) ∷ []))
    (Exit (pos 0))
    × ends_as (without_text (Core.Return (Core.Not (Core.Allocate (number 0) (char_cell 0 ∷ []) terminators.Behind None)) ∷ [])) (Exit (pos 1))
    × is_unsound (without_text (Core.Evaluate (Core.Allocate (number 2) (char_cell 0 ∷ []) terminators.Behind (chars (pos 3))) ∷ [])) (site 1 1)

abbrev pub array_of : ℕ → ℤ → Expression
array_of count hi = Core.Allocate (number count) (char_cell 0 ∷ []) terminators.Last (chars hi)

-- char b _Nt_checked[n] has n characters, of which the last one is the zero, so that one of 1 is empty and isn't null
abbrev pub text_arrays : Type 0
text_arrays =
    ends_as (without_text (Core.Return (Core.Length (array_of 3 (pos 2)) (site 2 1)) ∷ [])) (Exit (pos 0))
    × ends_as (without_text (Core.Return (Core.Not (array_of 1 (pos 0))) ∷ [])) (Exit (pos 0))
    × ends_as (without_text (Core.Return (Core.Length (array_of 1 (pos 0)) (site 2 1)) ∷ [])) (Exit (pos 0))
    × is_unsound (without_text (Core.Evaluate (array_of 1 (pos 1)) ∷ [])) (site 1 1)
    × is_unsound (without_text (Core.Evaluate (array_of 3 (pos 3)) ∷ [])) (site 1 1)

-- int main(void) { int x = 2147483647; x = x + 1; return 0; }
abbrev pub overflow_ends : Type 0
overflow_ends =
    ends_as
    (runs
    (one (Int ∷ []) []
    (Core.SetLocal 0 (number 2147483647)
    ∷ (Core.SetLocal 0 (Core.Arithmetic (operators.Arithmetic arithmetics.Add) (int_local 0) (number 1) (site 1 42)) ∷ (Core.Return (number 0) ∷ []))))
    100)
    (Check C6 (record { line = 1; col = 42 }))

-- int main(void) { int i = 0; while (i < 3) { i = i + 1; } return i; }
abbrev pub counting : Core
counting =
    one (Int ∷ []) []
    (Core.SetLocal 0 (number 0)
    ∷ (Core.Loop (Core.Compare comparisons.Less (int_local 0) (number 3))
    (Core.SetLocal 0 (Core.Arithmetic (operators.Arithmetic arithmetics.Add) (int_local 0) (number 1) (site 1 46))) Core.Nothing
    ∷ (Core.Return (int_local 0) ∷ [])))

abbrev pub loop_ends : Type 0
loop_ends = ends_as (runs counting 3) (Exit (pos 3))

abbrev pub loop_budget : Type 0
loop_budget = ends_as (runs counting 2) (Stop S1 None)

-- int f(int n) { return f(n); } int main(void) { return f(0); }
abbrev pub falling : Core
falling =
    record {
      objects = [];
      definitions =
          Trusted (record {
            name = codes "f";
            parameters = 1;
            locals = Int
                ∷ [];
            result = Some Int;
            body = body (Core.Return (Core.Call (callees.Trusted 0) (Core.More (int_local 0) Core.Done) None) ∷ []);
          })
          ∷ (Trusted (main_with [] (Core.Return (Core.Call (callees.Trusted 0) (Core.More (number 0) Core.Done) None) ∷ [])) ∷ []);
      main = 1;
    }

abbrev pub depth_and_budget : Type 0
depth_and_budget = ends_as (runs falling 1000) (Stop S2 None) × ends_as (runs falling 999) (Stop S1 None)

-- struct s { char c; int v; }; struct s a; int main(void) { ptr<struct s> p = &a; p->v = 7; a.c = 300; return p->v + a.c; }
abbrev pub members : Core
members =
    (one (Pointer modes.Checked kinds.One (Struct 0) ∷ []) (open_variable (record { type = Char; stride = 4; number = pos 0 } ∷ (int_cell 0 ∷ [])) ∷ [])
    (Core.SetLocal 0 (Core.AddressOf (Core.Direct 0 0) (one_of 8))
    ∷ (Core.Store Int (Core.Through (Core.Local 0 (one_of 8)) Core.First 4 (site 3 40)) (number 7)
    ∷ (Core.Store Char (Core.Direct 0 0) (Core.LowByte (number 300))
    ∷ (Core.Return (Core.Arithmetic (operators.Arithmetic arithmetics.Add)
    (Core.Load Int (Core.Through (Core.Local 0 (one_of 8)) Core.First 4 (site 3 65)) None)
    (Core.Load Char (Core.Direct 0 0) None) (site 3 65)) ∷ [])))))

abbrev pub struct_ends : Type 0
struct_ends = ends_as (runs members 100) (Exit (pos 51))

-- whether a pointer to a byte of a block of 4 bytes is valid with bounds from one end to the other, counted in bytes
abbrev valid_between : ℕ → ℤ → ℤ → Bool
valid_between byte lo hi =
    is_valid (record { bounds = record { base = None; lo = constant lo; hi = constant hi }; size = 1; terminated = false; site = site 1 1 }) (At 0 byte)
    (initial (parted (one [] (open_variable (int_cell 0 ∷ []) ∷ []) [])) world)

-- valid are bounds up to both ends of the block, and no further
abbrev pub within_block : Type 0
within_block =
    (valid_between 0 (pos 0) (pos 4) ≡ true) × (valid_between 0 (pos 0) (pos 5) ≡ false)
    × (valid_between 2 (negsuc 1) (pos 2) ≡ true) × (valid_between 2 (negsuc 2) (pos 2) ≡ false)

-- bounds that hold nothing may stand anywhere, but their pointer stands in its block, or at the end of it
abbrev pub empty_bounds : Type 0
empty_bounds = (valid_between 4 (pos 0) (pos 0) ≡ true) × (valid_between 4 (pos 2) (pos 1) ≡ true) × (valid_between 5 (pos 1) (pos 0) ≡ false)

-- int g; int main(void) { ptr<int> p = &g; return 0; }, where the address has the bounds of an element of 5 bytes
abbrev pub beyond_block : Type 0
beyond_block =
    is_unsound
    (runs (one (Pointer modes.Checked kinds.One Int ∷ []) (open_variable (int_cell 0 ∷ []) ∷ [])
    (Core.SetLocal 0 (Core.AddressOf (Core.Direct 0 0) (one_of 5)) ∷ (Core.Return (number 0) ∷ []))) 100)
    (site 1 1)
