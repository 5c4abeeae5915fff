-- Types as plain data, and the view from the types of the code to them.
use Rattle.std.specs.Prelude.{ℕ}
use Rattle.ckc_text.specs.declared.place.Span.{Span}
use Rattle.ckc_tree.specs.declared.identifier.Identifier.{Identifier}
use Rattle.ckc_tree.specs.declared.type_form as code
use Rattle.ckc_tree.specs.declared.type_form.PointerWord.{PointerWord}
use Rattle.ckc_tree.specs.declared.type_form.TypeForm.TheVariants as forms

-- a type without the stars behind it; a pointer type has its element, and the stars behind that
pub data TypeTree : Type 0 where
  IntType : (span : Span) → TypeTree
  CharType : (span : Span) → TypeTree
  StructType : (tag : Identifier) (span : Span) → TypeTree
  PointerType : (word : PointerWord) (element : TypeTree) (stars : ℕ) (span : Span) → TypeTree

-- a type and how many stars stand behind it
pub record TypeName : Type 0 where
  pub base : TypeTree
  pub stars : ℕ

-- the bytes that a type stands on
abbrev pub type_span : TypeTree → Span
type_span (IntType span) = span
type_span (CharType span) = span
type_span (StructType tag span) = span
type_span (PointerType word element stars span) = span

-- the type that a value of the code's type stands for
abbrev pub type_tree : code.TypeForm.TypeForm → TypeTree
type_tree (forms.Int span) = IntType span
type_tree (forms.Char span) = CharType span
type_tree (forms.Struct tag span) = StructType tag span
type_tree (forms.Pointer' word p element stars span) = PointerType word (type_tree element) stars span

-- the type with its stars
abbrev pub type_name : code.TypeName.TypeName → TypeName
type_name t = record { base = type_tree t.base; stars = t.stars }
