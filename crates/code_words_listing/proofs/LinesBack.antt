-- The text of a line spells the line.
use Rattle.std.proofs.Common.{◌≡◌, ℕ, ◌≤◌, true, [], ◌∷◌, ◌++◌, length, map, Option, Some, None, refl, arith, lit<}
use Rattle.std.specs.Prelude.{All, codes, nat_le, ◌+◌}
use Rattle.std.proofs.lemmas.Bool.Decides.{Decides-eqb, nat_tests}
use Rattle.std.proofs.lemmas.List.Elements.{All-tail}
use Rattle.ckc_text.specs.declared.place.Place.{Place}
use Rattle.marshalling.specs.declared.kind.WordKind.{WordKind}
use Rattle.marshalling.specs.declared.kind.WordKind.TheVariants as kinds
use Rattle.marshalling.specs.declared.signature.Region.{Region}
use Rattle.code_words_listing.specs.Fields.{Fixed, At, Fits, word_of}
use Rattle.code_words_listing.specs.Instructions.{instruction_word, operands}
use Rattle.code_words_listing.specs.Lines.{Line, Heading, TrustedSide, StaticBlock, TaintedFunction, Entry, Parameter, Begin, Instruction, End, Main, SandboxSide, Close, kind_word, parameter_fields, fields, IsParameter, IsAllowed}
use Rattle.code_words_listing.specs.ReadLines.{kind_in, param_of, line_of_words}
use Rattle.code_words_listing.proofs.FieldsBack.{number_back, size_back, signed64_back, number_or_none_back, name_back, bytes_back, place_back}
use Rattle.code_words_listing.proofs.InstructionsBack.{instruction-back}
use Rattle.code_words_listing.proofs.InstructionWords.{instruction-word}

at-most : (n most : ℕ) → n ≤ most → nat_le n most ≡ true
at-most n most h = grind (arith, nat_tests)

kind_back : (kind : WordKind) → kind_in (kind_word kind) ≡ Some kind
kind_back kinds.Int = refl
kind_back kinds.Char = refl
kind_back kinds.Pointer = refl
kind_back kinds.Void = refl

param-back : (kind : WordKind) (region : Option Region) (place : Place) → IsParameter kind region → All Fits (parameter_fields kind region ++ At place ∷ [])
    → param_of (map word_of (parameter_fields kind region ++ At place ∷ [])) ≡ Some (Parameter (record { kind = kind; place = place; region = region }))
param-back kinds.Void region place p h = absurd p
param-back kinds.Int None place p h = rw (place_back place (h 1 (Fixed []) (lit< tt))) refl
param-back kinds.Char None place p h = rw (place_back place (h 1 (Fixed []) (lit< tt))) refl
param-back kinds.Pointer None place p h = rw (place_back place (h 1 (Fixed []) (lit< tt))) refl
param-back kinds.Int (Some r) place p h = cc
param-back kinds.Char (Some r) place p h = cc
param-back kinds.Pointer (Some r) place p h =
    rw (
      number_back r.base (h 1 (Fixed []) (lit< tt)),
      number_or_none_back r.lo_var (h 2 (Fixed []) (lit< tt)),
      signed64_back r.lo_plus (h 3 (Fixed []) (lit< tt)),
      number_or_none_back r.hi_var (h 4 (Fixed []) (lit< tt)),
      signed64_back r.hi_plus (h 5 (Fixed []) (lit< tt)),
      size_back r.size (h 6 (Fixed []) (lit< tt)),
      number_back r.more (h 7 (Fixed []) (lit< tt)),
      place_back place (h 8 (Fixed []) (lit< tt)),
    ) refl

pub words-back : (line : Line) → IsAllowed line → line_of_words (map word_of (fields line)) ≡ Some line
words-back Heading a = refl
words-back TrustedSide a = refl
words-back (StaticBlock number bytes) a =
    rw (
      number_back number (a.words 1 (Fixed []) (lit< tt)),
      number_back (length bytes) (a.words 2 (Fixed []) (lit< tt)),
      bytes_back bytes (a.words 3 (Fixed []) (lit< tt)),
      (Decides-eqb (length bytes) (length bytes)).1 refl,
    ) refl
words-back (TaintedFunction i) a =
    rw (
      number_back i.number (a.words 1 (Fixed []) (lit< tt)),
      name_back i.name (a.words 2 (Fixed []) (lit< tt)),
      number_back i.args (a.words 4 (Fixed []) (lit< tt)),
      kind_back i.result,
      at-most i.args 16 a.limits,
    ) refl
words-back (Entry number fun args result) a =
    rw (
      number_back number (a.words 1 (Fixed []) (lit< tt)),
      number_back fun (a.words 3 (Fixed []) (lit< tt)),
      number_back args (a.words 5 (Fixed []) (lit< tt)),
      kind_back result,
      at-most args 16 a.limits,
    ) refl
words-back (Parameter p) a = rw (param-back p.kind p.region p.place a.limits (All-tail Fits (Fixed (codes "arg")) (parameter_fields p.kind p.region ++ At p.place ∷ []) a.words)) refl
words-back (Begin number name args slots stack result) a =
    rw (
      number_back number (a.words 1 (Fixed []) (lit< tt)),
      name_back name (a.words 2 (Fixed []) (lit< tt)),
      number_back args (a.words 4 (Fixed []) (lit< tt)),
      number_back slots (a.words 6 (Fixed []) (lit< tt)),
      number_back stack (a.words 8 (Fixed []) (lit< tt)),
      kind_back result,
      at-most (slots + stack) 4096 a.limits.0,
      at-most args 16 a.limits.1,
      at-most args slots a.limits.2,
    ) refl
words-back (Instruction op) a =
    rw ((instruction-word op).no_head, instruction-back op (All-tail Fits (Fixed (instruction_word op)) (operands op) a.words)) refl
words-back End a = refl
words-back (Main number) a = rw (number_back number (a.words 1 (Fixed []) (lit< tt))) refl
words-back SandboxSide a = refl
words-back Close a = refl
