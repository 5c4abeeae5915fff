-- What decides about single comments and definitions.
use Rattle.std.specs.Prelude.{ℕ, Bool, true, false, ◌&&◌, ◌==◌}
use Rattle.ckc_text.specs.declared.code.Code.TheVariants.{E03}
use Rattle.ckc_lexer.specs.declared.piece.Definition.{Definition}
use Rattle.ckc_lexer.specs.declared.piece.Piece.{Piece}
use Rattle.ckc_lexer.specs.declared.piece.Piece.TheVariants.{Gap, CommentFault}

-- a comment, by whether it is closed and whether a line ends in it
abbrev pub comment : Bool → Bool → Piece
comment true ends_line = Gap ends_line
comment false ends_line = CommentFault E03

abbrev pub is_same_sign : Bool → Bool → Bool
is_same_sign true true = true
is_same_sign true false = false
is_same_sign false true = false
is_same_sign false false = true

-- the definition has this sign and this number
abbrev pub is_same_number : Bool → ℕ → Definition → Bool
is_same_number negative value d = is_same_sign negative d.negative && value == d.value
