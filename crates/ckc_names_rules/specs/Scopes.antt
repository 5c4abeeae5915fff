-- Which names are visible: those of the open blocks, the innermost first, and the tags of structs.
use Rattle.std.specs.Prelude.{ℕ, Bool, true, false, ◌||◌, ◌&&◌, bytes_eq, List, [], ◌∷◌, Option, Some, None, Result, Ok, Err, position, is_some, is_none}
use Rattle.ckc_text.specs.declared.code.Code.{Code}
use Rattle.ckc_text.specs.declared.code.Code.TheVariants.{E10, E11}
use Rattle.ckc_text.specs.declared.fault.SourceFault.{SourceFault}
use Rattle.ckc_tree.specs.declared.identifier.Identifier.{Identifier}
use Rattle.ckc_names_rules.specs.Given.{null, next_input, print_int, putchar, strlen}
use Rattle.ckc_names_rules.specs.Mentions.{Mention, Open, Close, Reveal, Declare, DeclareFunction, DeclareTag, Use, Call, UseTag, Select}

-- what a name stands for
pub data Meaning : Type 0 where
  -- a name of a list whose place in the list is still to come
  Coming : Meaning
  Variable : Meaning
  Function : (defined : Bool) → Meaning

-- the names that are declared in a block with what they stand for, the last one first
abbrev pub Block : Type 0
Block = List (List ℕ × Meaning)

-- the open blocks, the innermost first and that of the file last, and the tags
pub record Scopes : Type 0 where
  pub blocks : List Block
  pub tags : List (List ℕ)

-- before the first item
abbrev pub at_file_level : Scopes
at_file_level = record { blocks = [] ∷ []; tags = [] }

abbrev found_if : Bool → Meaning → Option Meaning → Option Meaning
found_if true meaning other = Some meaning
found_if false meaning other = other

-- what a name stands for in a block, if it is declared there
abbrev pub in_this_block : Block → List ℕ → Option Meaning
in_this_block [] name = None
in_this_block (entry ∷ entries) name = found_if (bytes_eq name entry.0) entry.1 (in_this_block entries name)

abbrev or_else : Option Meaning → Option Meaning → Option Meaning
or_else (Some meaning) other = Some meaning
or_else None other = other

-- what a name stands for: an inner declaration hides an outer one
abbrev pub visible : List Block → List ℕ → Option Meaning
visible [] name = None
visible (block ∷ blocks) name = or_else (in_this_block block name) (visible blocks name)

-- what a name stands for in the innermost block
abbrev pub innermost : List Block → List ℕ → Option Meaning
innermost [] name = None
innermost (block ∷ blocks) name = in_this_block block name

abbrev pub is_among : List (List ℕ) → List ℕ → Bool
is_among names name = is_some (position (bytes_eq name) names)

-- the functions that every program has
abbrev pub predefined : List (List ℕ)
predefined = next_input ∷ print_int ∷ putchar ∷ strlen ∷ []

-- `NULL` and the predefined functions can't be declared as anything
abbrev pub is_reserved : List ℕ → Bool
is_reserved name = bytes_eq name null || is_among predefined name

-- ---- what a mention does

abbrev pub fault : Code → Identifier → SourceFault
fault code name = record { code = code; span = name.span }

-- a name stands for this in the innermost block from now on
abbrev pub with_entry : List ℕ → Meaning → List Block → List Block
with_entry name meaning [] = []
with_entry name meaning (block ∷ blocks) = ((name, meaning) ∷ block) ∷ blocks

abbrev pub standing_for : Identifier → Meaning → Scopes → Scopes
standing_for name meaning s = record { blocks = with_entry name.name meaning s.blocks; tags = s.tags }

-- goes on where a test says so, and else refuses the name
abbrev pub unless_refused : Bool → Code → Identifier → Scopes → Result Scopes SourceFault
unless_refused true code name s = Err (fault code name)
unless_refused false code name s = Ok s

-- a variable that is declared: a name of the same block is one too many, unless its own place was still to come
abbrev pub is_taken : Option Meaning → Bool
is_taken None = false
is_taken (Some Coming) = false
is_taken (Some Variable) = true
is_taken (Some (Function defined)) = true

-- a function that is declared: prototypes and one definition of one function stand together
abbrev pub is_taken_for : Bool → Option Meaning → Bool
is_taken_for defined None = false
is_taken_for defined (Some Coming) = true
is_taken_for defined (Some Variable) = true
is_taken_for defined (Some (Function before)) = defined && before

abbrev pub was_defined : Option Meaning → Bool
was_defined (Some (Function before)) = before
was_defined _ = false

-- a name that stands as an expression is a variable, or `NULL`
abbrev pub is_value : Option Meaning → Bool
is_value None = false
is_value (Some Coming) = true
is_value (Some Variable) = true
is_value (Some (Function defined)) = false

-- a name in front of arguments is a function
abbrev pub is_function : Option Meaning → Bool
is_function None = false
is_function (Some Coming) = false
is_function (Some Variable) = false
is_function (Some (Function defined)) = true

abbrev not_so : Bool → Bool
not_so true = false
not_so false = true

-- a name that comes is visible, unless it is already
abbrev pub revealed_if : Bool → Identifier → Scopes → Scopes
revealed_if true name s = standing_for name Coming s
revealed_if false name s = s

abbrev pub outside : List Block → List Block
outside [] = []
outside (block ∷ blocks) = blocks

-- the scopes behind a mention, or the fault of its name
abbrev pub mentioned : Mention → Scopes → Result Scopes SourceFault
mentioned Open s = Ok (record { blocks = [] ∷ s.blocks; tags = s.tags })
mentioned Close s = Ok (record { blocks = outside s.blocks; tags = s.tags })
mentioned (Reveal name) s = Ok (revealed_if (is_none (innermost s.blocks name.name)) name s)
mentioned (Declare name) s = unless_refused (is_reserved name.name || is_taken (innermost s.blocks name.name)) E11 name (standing_for name Variable s)
mentioned (DeclareFunction name defined) s =
    unless_refused (is_reserved name.name || is_taken_for defined (innermost s.blocks name.name)) E11 name (standing_for name (Function (defined
    || was_defined (innermost s.blocks name.name))) s)
mentioned (DeclareTag name) s =
    unless_refused (is_reserved name.name || is_among s.tags name.name) E11 name (record { blocks = s.blocks; tags = name.name ∷ s.tags })
mentioned (Use name) s = unless_refused (not_so (bytes_eq name.name null || is_value (visible s.blocks name.name))) E10 name s
mentioned (Call name) s = unless_refused (not_so (is_among predefined name.name || is_function (visible s.blocks name.name))) E10 name s
mentioned (UseTag name) s = unless_refused (not_so (is_among s.tags name.name)) E10 name s
mentioned (Select name) s = Ok s

abbrev pub then_mentioned : Result Scopes SourceFault → (Scopes → Result Scopes SourceFault) → Result Scopes SourceFault
then_mentioned (Ok s) rest = rest s
then_mentioned (Err f) rest = Err f

-- the scopes behind mentions in their order, or the first fault
abbrev pub all_mentioned : List Mention → Scopes → Result Scopes SourceFault
all_mentioned [] s = Ok s
all_mentioned (m ∷ mentions) s = then_mentioned (mentioned m s) (all_mentioned mentions)
