-- Strings and their blocks, behind two file-level variables that take 32 bytes.
use Rattle.std.specs.Prelude.{◌≡◌, ℕ, ◌+◌, pos, true, false, List, [], ◌∷◌, length, replicate, Some, None}
use Rattle.ckc_text.specs.declared.place.Span.{Span}
use Rattle.ckc_text.specs.declared.code.Code.TheVariants.{E08, E12, E13, E16}
use Rattle.ckc_tree.specs.Texts.{Text}
use Rattle.ckc_tree.specs.Expressions as e
use Rattle.pointer_modes.specs.declared.ctype.Mode.TheVariants as modes
use Rattle.pointer_modes.specs.declared.ctype.Kind.TheVariants as kinds
use Rattle.pointer_modes.specs.Types.{Char, Pointer}
use Rattle.ckc_core.specs.Core as core
use Rattle.region_typing_rules.specs.Verdicts.{Verdict, Passes, breaks}
use Rattle.region_typing_rules.specs.Scopes.{Scope}
use Rattle.region_typing_rules.specs.DeclaredBounds.{declared_bounds, row_of}
use Rattle.region_typing_rules.specs.Strings.{text_size, texts_size, text_object}
use Rattle.region_typing_rules.specs.Operands.{Places, Typed, Value, ForNothing, address, site_at}
use Rattle.region_typing_rules.specs.Expressions.{typed}
use Rattle.region_typing_rules.specs.MemoryExamples.{scope as plain_scope}

abbrev span_at : ℕ → Span
span_at from = record { from = from; to = from + 1 }

abbrev text : List ℕ → ℕ → Text
text bytes from = record { bytes = bytes; span = span_at from }

-- "ab" at 10, "" at 20, and "ab" at 30
abbrev texts : List Text
texts = text (97 ∷ 98 ∷ []) 10 ∷ text [] 20 ∷ text (97 ∷ 98 ∷ []) 30 ∷ []

abbrev at : Places
at from = record { line = 1; col = from }

abbrev in_scope : ℕ → List Text → Scope
in_scope taken texts = record plain_scope { strings = record { texts = texts; variables = 2; taken = taken } }

-- the block of such a number, from its first character on, with the bounds 0 and so many
abbrev string : ℕ → ℕ → Span → Verdict Typed
string object length span =
    Passes (Value (Pointer modes.Checked kinds.Nt Char) false
    (core.AddressOf (core.Direct object 0) (Some (record { bounds = row_of length; size = 1; terminated = true; site = site_at at span }))) ForNothing)

-- each string has a block of its own behind the variables, in the order of the source, and one that isn't listed has none
abbrev pub strings : Type 0
strings =
    (typed at (in_scope 32 texts) (e.Text (97 ∷ 98 ∷ []) (span_at 10)) ≡ string 2 2 (span_at 10))
    × (typed at (in_scope 32 texts) (e.Text [] (span_at 20)) ≡ string 3 0 (span_at 20))
    × (typed at (in_scope 32 texts) (e.Text (97 ∷ 98 ∷ []) (span_at 30)) ≡ string 4 2 (span_at 30))
    × (typed at (in_scope 32 texts) (e.Text [] (span_at 40)) ≡ breaks E13 (span_at 40))

-- a block has a zero behind its characters
abbrev pub blocks : Type 0
blocks =
    (text_object (text (97 ∷ 255 ∷ []) 10) ≡ record {
      cells = record { type = Char; stride = 1; number = pos 97 } ∷ record { type = Char; stride = 1; number = pos 255 }
          ∷ record { type = Char; stride = 1; number = pos 0 } ∷ [];
      zero_ended = true;
      is_sealed = false;
    })
    × (text_object (text [] 10) ≡ record { cells = record { type = Char; stride = 1; number = pos 0 } ∷ []; zero_ended = true; is_sealed = false })

-- 15 characters fill 16 bytes, and 16 take 32, with 16 behind them; what variables and strings take up to the end of a string is asked there
abbrev pub limits : Type 0
limits =
    (text_size (text (replicate 15 97) 10) ≡ 32) × (text_size (text (replicate 16 97) 10) ≡ 48) × (texts_size texts ≡ 96)
    × (typed at (in_scope 32704 texts) (e.Text [] (span_at 20)) ≡ string 3 0 (span_at 20))
    × (typed at (in_scope 32704 texts) (e.Text (97 ∷ 98 ∷ []) (span_at 30)) ≡ breaks E08 (span_at 30))

-- no string has a place in bounds
abbrev pub in_bounds : Type 0
in_bounds =
    declared_bounds (in_scope 32 texts) (Pointer modes.Checked kinds.Array Char) 1 (Some (e.Count (e.Text [] (span_at 20)) (span_at 19)))
    ≡ breaks E16 (span_at 19)

-- no string is a place
abbrev pub standing : Type 0
standing =
    address (Value (Pointer modes.Checked kinds.Nt Char) false (core.AddressOf (core.Direct 2 0) None) ForNothing) (site_at at (span_at 9)) (span_at 9)
    ≡ breaks E12 (span_at 9)
