-- Small programs, as what they say of names, with what is wrong with them.
use Rattle.std.specs.Prelude.{◌≡◌, ℕ, true, false, codes, List, [], ◌∷◌, Option, Some, None, Result, Ok, Err}
use Rattle.ckc_text.specs.declared.code.Code.{Code}
use Rattle.ckc_text.specs.declared.code.Code.TheVariants.{E10, E11}
use Rattle.ckc_text.specs.declared.fault.SourceFault.{SourceFault}
use Rattle.ckc_tree.specs.declared.identifier.Identifier.{Identifier}
use Rattle.ckc_names_rules.specs.Mentions.{Mention, Open, Close, Reveal, Declare, DeclareFunction, DeclareTag, Use, Call, UseTag, Select}
use Rattle.ckc_names_rules.specs.Scopes.{Scopes, at_file_level, all_mentioned}
use Rattle.ckc_names_rules.specs.Naming.{names_seen}

-- a name at a place
abbrev pub named : List ℕ → ℕ → Identifier
named name at = record { name = name; number = 0; span = record { from = at; to = at } }

abbrev pub a : ℕ → Identifier
a at = named (codes "a") at

abbrev pub b : ℕ → Identifier
b at = named (codes "b") at

abbrev fault_of : Result Scopes SourceFault → Option SourceFault
fault_of (Ok s) = None
fault_of (Err f) = Some f

-- what is wrong with mentions, if anything is
abbrev pub wrong : List Mention → Option SourceFault
wrong mentions = fault_of (all_mentioned mentions at_file_level)

abbrev pub at : Code → ℕ → Option SourceFault
at code place = Some (record { code = code; span = record { from = place; to = place } })

-- `int a = a;`, and `int a = b;`
abbrev pub own_initialiser : Type 0
own_initialiser = (wrong (Declare (a 1) ∷ (Use (a 2) ∷ [])) ≡ None) × (wrong (Declare (a 1) ∷ (Use (b 2) ∷ [])) ≡ at E10 2)

-- a name twice in a block, and once in each of two
abbrev pub twice : Type 0
twice = (wrong (Declare (a 1) ∷ (Declare (a 2) ∷ [])) ≡ at E11 2) × (wrong (Declare (a 1)
    ∷ (Open ∷ (Declare (a 2) ∷ (Use (a 3) ∷ (Close ∷ (Use (a 4) ∷ [])))))) ≡ None)

-- a name that is left behind with its block
abbrev pub left_behind : Type 0
left_behind = wrong (Open ∷ (Declare (a 1) ∷ (Close ∷ (Use (a 2) ∷ [])))) ≡ at E10 2

-- a parameter is visible in the bounds of one before it, and may not stand twice, nor again in the outermost block of the body
abbrev pub parameters : Type 0
parameters =
    (wrong (Open ∷ (Reveal (a 1) ∷ (Reveal (b 3) ∷ (Declare (a 1) ∷ (Use (b 2) ∷ (Declare (b 3) ∷ (Close ∷ []))))))) ≡ None)
    × (wrong (Open ∷ (Reveal (a 1) ∷ (Reveal (a 2) ∷ (Declare (a 1) ∷ (Declare (a 2) ∷ (Close ∷ [])))))) ≡ at E11 2)
    × (wrong (Open ∷ (Reveal (a 1) ∷ (Declare (a 1) ∷ (Declare (a 2) ∷ [])))) ≡ at E11 2)

-- prototypes and one definition are no two declarations, two definitions are, and so are a function and a variable
abbrev pub functions : Type 0
functions =
    (wrong (DeclareFunction (a 1) false ∷ (DeclareFunction (a 2) true ∷ (DeclareFunction (a 3) false ∷ (Call (a 4) ∷ [])))) ≡ None)
    × (wrong (DeclareFunction (a 1) true ∷ (DeclareFunction (a 2) false ∷ (DeclareFunction (a 3) true ∷ []))) ≡ at E11 3)
    × (wrong (DeclareFunction (a 1) true ∷ (Declare (a 2) ∷ [])) ≡ at E11 2)
    × (wrong (Declare (a 1) ∷ (DeclareFunction (a 2) false ∷ [])) ≡ at E11 2)

-- a function isn't a value, and a variable isn't called, also where it hides a function
abbrev pub kinds : Type 0
kinds =
    (wrong (DeclareFunction (a 1) false ∷ (Use (a 2) ∷ [])) ≡ at E10 2)
    × (wrong (Declare (a 1) ∷ (Call (a 2) ∷ [])) ≡ at E10 2)
    × (wrong (DeclareFunction (a 1) false ∷ (Open ∷ (Declare (a 2) ∷ (Call (a 3) ∷ [])))) ≡ at E10 3)

-- tags are names of their own
abbrev pub tags : Type 0
tags =
    (wrong (DeclareTag (a 1) ∷ (Declare (a 2) ∷ (UseTag (a 3) ∷ []))) ≡ None)
    × (wrong (DeclareTag (a 1) ∷ (DeclareTag (a 2) ∷ [])) ≡ at E11 2)
    × (wrong (Declare (a 1) ∷ (UseTag (a 2) ∷ [])) ≡ at E10 2)

-- what every program has
abbrev pub given : Type 0
given =
    (wrong (Use (named (codes "NULL") 1) ∷ (Call (named (codes "strlen") 2) ∷ [])) ≡ None)
    × (wrong (Use (named (codes "putchar") 1) ∷ []) ≡ at E10 1)
    × (wrong (Declare (named (codes "NULL") 1) ∷ []) ≡ at E11 1)
    × (wrong (DeclareTag (named (codes "print_int") 1) ∷ []) ≡ at E11 1)
    × (wrong (DeclareFunction (named (codes "next_input") 1) false ∷ []) ≡ at E11 1)

-- each name once, where it is seen first
abbrev pub seen : Type 0
seen = names_seen (Declare (a 1) ∷ (Open ∷ (Use (b 2) ∷ (Use (a 3) ∷ (Select (b 4) ∷ []))))) [] ≡ codes "a" ∷ (codes "b" ∷ [])
