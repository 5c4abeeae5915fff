-- The signs of types.
use Rattle.std.specs.Prelude.{ℕ, zero, suc, List, [], ◌∷◌, ◌++◌}
use Rattle.ckc_lexer.specs.declared.token.TokenKind.{TokenKind}
use Rattle.ckc_lexer.specs.declared.keyword.Keyword.TheVariants as keywords
use Rattle.ckc_lexer.specs.declared.token.TokenKind.TheVariants as kinds
use Rattle.ckc_tree.specs.declared.identifier.Identifier.{Identifier}
use Rattle.ckc_tree.specs.declared.type_form.PointerMode.{PointerMode}
use Rattle.ckc_tree.specs.declared.type_form.PointerMode.TheVariants.{Checked, Tainted}
use Rattle.ckc_tree.specs.declared.type_form.PointerKind.{PointerKind}
use Rattle.ckc_tree.specs.declared.type_form.PointerKind.TheVariants.{One, Array, NullTerminated}
use Rattle.ckc_tree.specs.Types.{TypeTree, IntType, CharType, StructType, PointerType, TypeName}
use Rattle.ckc_printer.specs.Pieces as pieces
use Rattle.ckc_printer.specs.Pieces.{Sign}

abbrev pub word_kind : PointerMode → PointerKind → TokenKind
word_kind Checked One = kinds.Keyword keywords.Ptr
word_kind Checked Array = kinds.Keyword keywords.ArrayPtr
word_kind Checked NullTerminated = kinds.Keyword keywords.NtArrayPtr
word_kind Tainted One = kinds.Keyword keywords.TPtr
word_kind Tainted Array = kinds.Keyword keywords.TArrayPtr
word_kind Tainted NullTerminated = kinds.Keyword keywords.TNtArrayPtr

abbrev pub name_sign : Identifier → Sign
name_sign identifier = pieces.One (kinds.Name identifier.name)

abbrev pub stars_pieces : ℕ → List Sign
stars_pieces zero = []
stars_pieces (suc n) = pieces.One kinds.Star ∷ stars_pieces n

abbrev pub type_pieces : TypeTree → List Sign
type_pieces (IntType span) = pieces.One (kinds.Keyword keywords.Int) ∷ []
type_pieces (CharType span) = pieces.One (kinds.Keyword keywords.Char) ∷ []
type_pieces (StructType tag span) = pieces.One (kinds.Keyword keywords.Struct) ∷ name_sign tag ∷ []
type_pieces (PointerType word element stars span) =
    pieces.One (word_kind word.mode word.kind) ∷ pieces.One kinds.Less ∷ (type_pieces element ++ (stars_pieces stars ++ pieces.One kinds.Greater ∷ []))

abbrev pub type_name_pieces : TypeName → List Sign
type_name_pieces type = type_pieces type.base ++ stars_pieces type.stars

-- a type in angle brackets
abbrev pub angled_pieces : TypeName → List Sign
angled_pieces type = pieces.One kinds.Less ∷ (type_name_pieces type ++ pieces.One kinds.Greater ∷ [])
