-- The rules of calls, in the order in which they are asked of a call behind its arguments.
use Rattle.std.specs.Prelude.{ℕ, suc, Bool, true, false, not, ◌&&◌, ◌||◌, ◌==◌, List, [], ◌∷◌, length}
use Rattle.std.specs.Prelude.{Option, Some, None, is_some, slice_index_or}
use Rattle.ckc_text.specs.declared.place.Span.{Span}
use Rattle.ckc_text.specs.declared.code.Code.TheVariants.{E13, E14, E17, E24}
use Rattle.ckc_tree.specs.declared.item.FunctionKind.{FunctionKind}
use Rattle.ckc_tree.specs.declared.item.FunctionKind.TheVariants as function_kinds
use Rattle.pointer_modes.specs.declared.ctype.Mode.{Mode}
use Rattle.pointer_modes.specs.declared.ctype.Mode.TheVariants as modes
use Rattle.pointer_modes.specs.declared.ctype.Kind.TheVariants as kinds
use Rattle.pointer_modes.specs.Types.{CType, Int, Char, Struct, Pointer, Structure, is_checked_pointer}
use Rattle.pointer_modes.specs.Layout.{size_of}
use Rattle.ckc_core.specs.declared.program.Site.{Site}
use Rattle.ckc_core.specs.declared.program.Callee.{Callee}
use Rattle.ckc_core.specs.declared.program.Callee.TheVariants as callees
use Rattle.ckc_core.specs.declared.program.PointerBounds.{PointerBounds}
use Rattle.ckc_core.specs.Core as core
use Rattle.ckc_core.specs.Meaning.{bounds_of}
use Rattle.bounds_exprs.specs.declared.term.Bounds.{Bounds}
use Rattle.bounds_exprs.specs.declared.term.Term.{Term}
use Rattle.bounds_exprs.specs.Changes.{ends_filled_in}
use Rattle.ckc_names_rules.specs.declared.given.Given.{Given}
use Rattle.bounds_flow.specs.Flows.{Knowledge}
use Rattle.region_typing_rules.specs.Verdicts.{Verdict, Passes, Unnamed, passing, needs, breaks, picked}
use Rattle.region_typing_rules.specs.Scopes.{Scope, Signature, WrittenBounds, bounds_in}
use Rattle.region_typing_rules.specs.Readings.{term, pointer_local, is_null}
use Rattle.region_typing_rules.specs.Operands.{AStruct, Called, Gives, GivesNothing, Typed, Value, asked_of, bounds_at, converted, meets, number, plain}

-- the arguments of a call with the types of its parameters: each converts, at the argument (E13)
abbrev pub arguments_as : List (Typed × Span) → List CType → Verdict core.Arguments
arguments_as [] types = Passes core.Done
arguments_as (argument ∷ arguments) [] = Passes core.Done
arguments_as (argument ∷ arguments) (type ∷ types) =
    converted argument.0 type argument.1 (λ v. passing (arguments_as arguments types) (λ others. Passes (core.More v others)))

-- the number of a function that isn't tainted among those that aren't, and of a tainted one among the tainted, in the order in
-- which their names are first declared. It is asked of functions that are declared, and of `main`, which naming has found
abbrev pub is_tainted : FunctionKind → Bool
is_tainted function_kinds.Trusted = false
is_tainted function_kinds.Tainted = true
is_tainted function_kinds.Callback = false

abbrev pub is_import : Signature → Bool
is_import f = is_tainted f.kind

abbrev pub counted : Bool → ℕ → ℕ
counted true n = suc n
counted false n = n

abbrev pub same_side : Bool → Bool → Bool
same_side true other = other
same_side false other = not other

abbrev pub side_number : Bool → List Signature → ℕ → ℕ → ℕ
side_number side [] name number = number
side_number side (f ∷ functions) name number = picked (name == f.name) number (side_number side functions name (counted (same_side side (is_import f)) number))

-- no-checked-pointer-to-tainted: E24, at the argument. The constant 0 and `NULL` are numbers
abbrev pub is_checked_argument : Typed → Bool
is_checked_argument (Value type zero value place) = is_checked_pointer type
is_checked_argument (AStruct number place) = false

abbrev pub without_checked : {A : Type 0} → List (Typed × Span) → Verdict A → Verdict A
without_checked [] next = next
without_checked (argument ∷ arguments) next = needs (not (is_checked_argument argument.0)) E24 argument.1 (without_checked arguments next)

-- the rule is asked of all arguments of a tainted function, from left to right
abbrev pub crossing : {A : Type 0} → Bool → List (Typed × Span) → Verdict A → Verdict A
crossing true arguments next = without_checked arguments next
crossing false arguments next = next

-- whom a call enters, by the number of the function among the tainted ones, or among those that aren't
abbrev pub callee_of : Bool → ℕ → Site → Callee
callee_of true number site = callees.Tainted number site
callee_of false number site = callees.Trusted number

-- the bounds of a result over what stands for the parameters; none where something doesn't stand there
abbrev pub result_at : List (Option Term) → Option Bounds → Option Bounds
result_at terms None = None
result_at terms (Some b) = ends_filled_in terms b

-- bounds of a call: those that are declared for its result, or those of its type
abbrev row_bounds : List Structure → Mode → CType → Option Bounds → Site → Option PointerBounds
row_bounds structs mode target None site = bounds_at structs (Pointer mode kinds.Array target) site
row_bounds structs mode target (Some b) site = Some (record { bounds = b; size = size_of structs target; terminated = false; site = site })

abbrev ended_bounds : List Structure → CType → Option Bounds → Site → Option PointerBounds
ended_bounds structs target None site = None
ended_bounds structs target (Some b) site = Some (record { bounds = b; size = size_of structs target; terminated = true; site = site })

abbrev pub call_bounds : List Structure → CType → Option Bounds → Site → Option PointerBounds
call_bounds structs (Pointer mode kinds.Array target) bounds site = row_bounds structs mode target bounds site
call_bounds structs (Pointer mode kinds.Nt target) bounds site = ended_bounds structs target bounds site
call_bounds structs type bounds site = bounds_at structs type site

-- a call has its bounds from the start, since one that stands alone is evaluated too
abbrev pub call_of : List Structure → Option CType → Option Bounds → Callee → core.Arguments → Site → Called
call_of structs (Some type) bounds callee arguments site = Gives type (core.Call callee arguments (call_bounds structs type bounds site))
call_of structs None bounds callee arguments site = GivesNothing (core.CallAlone callee arguments)

-- what stands for a parameter of a type at a call: the term of its argument, where both are an `int`, and the local pointer that it is
abbrev pub term_for : List CType → Typed → CType → Option Term
term_for locals (Value type zero value place) Int = term locals value
term_for locals (Value type zero value place) Char = None
term_for locals (Value type zero value place) (Struct number) = None
term_for locals (Value type zero value place) (Pointer mode kind target) = None
term_for locals (AStruct number place) type = None

abbrev pub pointer_for : List CType → Typed → Option ℕ
pointer_for locals (Value type zero value place) = pointer_local locals value
pointer_for locals (AStruct number place) = None

-- the same of each parameter
abbrev pub terms_for : List CType → List (Typed × Span) → List CType → List (Option Term)
terms_for locals [] types = []
terms_for locals (argument ∷ arguments) [] = []
terms_for locals (argument ∷ arguments) (type ∷ types) = term_for locals argument.0 type ∷ terms_for locals arguments types

abbrev pub pointers_for : List CType → List (Typed × Span) → List (Option ℕ)
pointers_for locals [] = []
pointers_for locals (argument ∷ arguments) = pointer_for locals argument.0 ∷ pointers_for locals arguments

-- the bounds with a base that stands for theirs, where one does
abbrev counted_from : Option ℕ → Option Bounds → Option Bounds
counted_from None bounds = None
counted_from (Some k) None = None
counted_from (Some k) (Some b) = Some (record b { base = Some k })

abbrev pub with_caller_base : List (Option ℕ) → Option ℕ → Option Bounds → Option Bounds
with_caller_base pointers None bounds = bounds
with_caller_base pointers (Some p) bounds = counted_from (slice_index_or pointers p None) bounds

-- the bounds of a parameter over what stands for the parameters, all put in at once; none where something doesn't stand there
abbrev pub at_call : List (Option Term) → List (Option ℕ) → Bounds → Option Bounds
at_call terms pointers b = with_caller_base pointers b.base (ends_filled_in terms b)

abbrev pub meets_all : Knowledge → core.Expression → Option Bounds → Bool
meets_all f value None = false
meets_all f value (Some asked) = meets f value (Some asked)

-- the bounds of an argument meet those that it is asked for: the declared ones of its parameter, or those of its type
abbrev pub argument_meets : Knowledge → List (Option Term) → List (Option ℕ) → Typed → CType → Option Bounds → Bool
argument_meets f terms pointers (Value type zero value place) to None = zero || meets f value (asked_of type to)
argument_meets f terms pointers (Value type zero value place) to (Some b) = zero || (is_null value || meets_all f value (at_call terms pointers b))
argument_meets f terms pointers (AStruct number place) to bounds = true

abbrev first_written : List WrittenBounds → Option Bounds
first_written [] = None
first_written (b ∷ bs) = bounds_in b

abbrev other_written : List WrittenBounds → List WrittenBounds
other_written [] = []
other_written (b ∷ bs) = bs

-- bounds-are-met, at each argument of a function that isn't tainted (E17)
abbrev pub arguments_met : {A : Type 0} → Knowledge → List (Option Term) → List (Option ℕ) → List (Typed × Span) → List CType → List WrittenBounds
    → Verdict A → Verdict A
arguments_met f terms pointers [] types bounds next = next
arguments_met f terms pointers (argument ∷ arguments) [] bounds next = next
arguments_met f terms pointers (argument ∷ arguments) (type ∷ types) bounds next =
    needs (argument_meets f terms pointers argument.0 type (first_written bounds)) E17 argument.1
    (arguments_met f terms pointers arguments types (other_written bounds) next)

-- a declared function as a callee
abbrev pub declared_callee : Scope → Signature → Site → Callee
declared_callee s f site = callee_of (is_import f) (side_number (is_import f) s.functions f.name 0) site

-- argument-count: E14. Then what crosses the boundary is asked of all arguments, then their conversions, and then their bounds
abbrev pub declared_call : Scope → Signature → List (Typed × Span) → Site → Span → Verdict Called
declared_call s f arguments site span =
    needs (length f.parameters == length arguments) E14 span
    (crossing (is_import f) arguments
    (passing (arguments_as arguments f.parameters) (λ values.
    arguments_met s.flow (terms_for s.locals arguments f.parameters) (pointers_for s.locals arguments) arguments f.parameters f.bounds
    (Passes (call_of s.structs f.result (result_at (terms_for s.locals arguments f.parameters) (bounds_in f.result_bounds))
    (declared_callee s f site) values site)))))

abbrev pub first_of : (core.Expression → core.Statement) → core.Arguments → core.Statement
first_of of core.Done = core.Nothing
first_of of (core.More v others) = of v

-- a predefined function that takes a number and gives nothing
abbrev pub writes : (core.Expression → core.Statement) → List (Typed × Span) → Span → Verdict Called
writes of arguments span =
    needs (length arguments == 1) E14 span (passing (arguments_as arguments (Int ∷ [])) (λ values. Passes (GivesNothing (first_of of values))))

-- a checked null-terminated pointer to `char`s
abbrev pub is_text : CType → Bool
is_text (Pointer modes.Checked kinds.Nt Char) = true
is_text _ = false

-- length-of-text: of such a pointer with bounds (E13)
abbrev pub length_typed : Typed → Site → Span → Verdict Called
length_typed (Value type zero value place) site span =
    needs (is_text type && is_some (bounds_of value)) E13 span (Passes (Gives Int (core.Length value site)))
length_typed (AStruct number place) site span = breaks E13 span

-- what `strlen` takes
abbrev pub text_pointer : CType
text_pointer = Pointer modes.Checked kinds.Nt Char

abbrev first_length : List (Typed × Span) → Site → Span → Verdict Called
first_length [] site span = breaks E14 span
first_length (argument ∷ arguments) site span = converted argument.0 text_pointer argument.1 (λ v. length_typed argument.0 site span)

-- its argument converts to a text, at the argument, and has bounds, at the call (E13)
abbrev pub measures : List (Typed × Span) → Site → Span → Verdict Called
measures arguments site span = needs (length arguments == 1) E14 span (first_length arguments site span)

-- a call of a name that isn't declared
abbrev pub predefined_call : Given → ℕ → List (Typed × Span) → Site → Span → Verdict Called
predefined_call given name arguments site span =
    by_name (name == given.next_input) (name == given.print_int) (name == given.putchar) (name == given.strlen)
  where
    by_name : Bool → Bool → Bool → Bool → Verdict Called
    by_name true print put measure = needs (length arguments == 0) E14 span (Passes (Gives Int core.NextInput))
    by_name false true put measure = writes core.Print arguments span
    by_name false false true measure = writes core.PutByte arguments span
    by_name false false false true = measures arguments site span
    by_name false false false false = Unnamed

abbrev pub called : Scope → Option Signature → ℕ → List (Typed × Span) → Site → Span → Verdict Called
called s None name arguments site span = predefined_call s.given name arguments site span
called s (Some f) name arguments site span = declared_call s f arguments site span

-- void-stands-alone: a call without a result is only a statement (E13)
abbrev pub with_result : Called → Span → Verdict Typed
with_result (Gives type value) span = plain type value
with_result (GivesNothing call) span = breaks E13 span
