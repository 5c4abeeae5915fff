-- For private clauses: pieces before more pieces are known.
use Rattle.std.specs.Prelude.{ℕ, List, [], ◌∷◌, ◌++◌}
use Rattle.ckc_tree.specs.Items.{Item, RegionItem, StructureItem, GlobalItem, FunctionItem}
use Rattle.ckc_printer.specs.Pieces.{Piece, InLine, ScopeLine, piece_text, scope_text, gap}
use Rattle.ckc_printer.specs.ItemPieces.{structure_pieces, global_pieces, function_pieces, region_scope}
use Rattle.ckc_printer.specs.Spaced.{spaced_text}

-- what stands behind the last piece so far: a space, as before a sign, or the end of a line of its own
abbrev pub own_gap : Piece → ℕ
own_gap (InLine sign) = 32
own_gap (ScopeLine scope) = 10

abbrev pub gap_so_far : Piece → List Piece → ℕ
gap_so_far piece [] = own_gap piece
gap_so_far piece (next ∷ others) = gap piece next

abbrev pub laid_text : List Piece → List ℕ
laid_text [] = []
laid_text (piece ∷ others) = piece_text piece ++ gap_so_far piece others ∷ laid_text others

-- the text with a line feed as its last byte, if it has one
abbrev pub line_ended : List ℕ → List ℕ
line_ended [] = []
line_ended (b ∷ []) = 10 ∷ []
line_ended (b ∷ c ∷ cs) = b ∷ line_ended (c ∷ cs)

-- a text with an item behind it, and with items
abbrev pub item_behind : List ℕ → Item → List ℕ
item_behind text (RegionItem region span) = line_ended text ++ (scope_text (region_scope region) ++ 10 ∷ [])
item_behind text (StructureItem structure) = text ++ spaced_text (structure_pieces structure)
item_behind text (GlobalItem global) = text ++ spaced_text (global_pieces global)
item_behind text (FunctionItem function) = text ++ spaced_text (function_pieces function)

abbrev pub items_behind : List ℕ → List Item → List ℕ
items_behind text [] = text
items_behind text (item ∷ items) = items_behind (item_behind text item) items

-- a text that is all: it ends with a line feed
abbrev pub finished : List ℕ → List ℕ
finished [] = 10 ∷ []
finished (b ∷ bs) = line_ended (b ∷ bs)
