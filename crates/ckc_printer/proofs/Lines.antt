-- Pieces before more are known, and their text once all are.
use Rattle.std.proofs.Common.{◌≡◌, ℕ, suc, ◌-◌, List, [], ◌∷◌, ◌++◌, length, take, map, arith, refl, ap, sym, ◌∙◌, append_assoc}
use Rattle.ckc_lexer.specs.declared.token.CheckedScope.{CheckedScope}
use Rattle.std.proofs.lemmas.List.{append-nil}
use Rattle.std.specs.List.{flat_map}
use Rattle.ckc_tree.specs.Items.{Item, RegionItem, StructureItem, GlobalItem, FunctionItem}
use Rattle.ckc_printer.specs.Pieces.{Sign, sign_text, Piece, InLine, ScopeLine, piece_text, scope_text, gap, pieces_text, text_of}
use Rattle.ckc_printer.specs.ItemPieces.{structure_pieces, global_pieces, function_pieces, item_pieces, region_scope}
use Rattle.ckc_printer.specs.Spaced.{spaced_text}
use Rattle.ckc_printer.specs.Laid.{gap_so_far, laid_text, line_ended, item_behind, items_behind, finished}

-- signs alone
signs_laid : (signs : List Sign) → laid_text (map InLine signs) ≡ spaced_text signs
signs_laid [] = refl
signs_laid (s ∷ []) = sym (append_assoc (sign_text s) (32 ∷ []) [])
signs_laid (s ∷ t ∷ signs) = ap (λ l. sign_text s ++ 32 ∷ l) (signs_laid (t ∷ signs)) ∙ sym (append_assoc (sign_text s) (32 ∷ []) (spaced_text (t ∷ signs)))

-- signs behind other pieces
pub laid_signs : (pieces : List Piece) (signs : List Sign) → laid_text (pieces ++ map InLine signs) ≡ laid_text pieces ++ spaced_text signs
laid_signs [] signs = signs_laid signs
laid_signs (InLine s ∷ []) [] = sym (append_assoc (sign_text s) (32 ∷ []) [])
laid_signs (InLine s ∷ []) (t ∷ signs) = ap (λ l. sign_text s ++ 32 ∷ l) (signs_laid (t ∷ signs)) ∙ sym (append_assoc (sign_text s) (32 ∷ []) (spaced_text (t ∷ signs)))
laid_signs (ScopeLine s ∷ []) [] = sym (append_assoc (scope_text s) (10 ∷ []) [])
laid_signs (ScopeLine s ∷ []) (t ∷ signs) = ap (λ l. scope_text s ++ 10 ∷ l) (signs_laid (t ∷ signs)) ∙ sym (append_assoc (scope_text s) (10 ∷ []) (spaced_text (t ∷ signs)))
laid_signs (p ∷ q ∷ pieces) signs =
    ap (λ l. piece_text p ++ gap p q ∷ l) (laid_signs (q ∷ pieces) signs)
    ∙ sym (append_assoc (piece_text p) (gap p q ∷ laid_text (q ∷ pieces)) (spaced_text signs))

-- a line of its own behind other pieces
pub laid_line : (pieces : List Piece) (scope : CheckedScope) → laid_text (pieces ++ ScopeLine scope ∷ []) ≡ pieces_text pieces ++ (scope_text scope ++ 10 ∷ [])
laid_line [] scope = refl
laid_line (InLine s ∷ []) scope = sym (append_assoc (sign_text s) (10 ∷ []) (scope_text scope ++ 10 ∷ []))
laid_line (ScopeLine s ∷ []) scope = sym (append_assoc (scope_text s) (10 ∷ []) (scope_text scope ++ 10 ∷ []))
laid_line (p ∷ q ∷ pieces) scope =
    ap (λ l. piece_text p ++ gap p q ∷ l) (laid_line (q ∷ pieces) scope)
    ∙ sym (append_assoc (piece_text p) (gap p q ∷ pieces_text (q ∷ pieces)) (scope_text scope ++ 10 ∷ []))

-- the last byte of a text is its line feed
pub line_ended_last : (text : List ℕ) (b : ℕ) → line_ended (text ++ b ∷ []) ≡ text ++ 10 ∷ []
line_ended_last [] b = refl
line_ended_last (x ∷ []) b = refl
line_ended_last (x ∷ y ∷ text) b = ap (λ l. x ∷ l) (line_ended_last (y ∷ text) b)

-- what is ended behind a text that stays
line_ended_behind : (text rest : List ℕ) (b : ℕ) → line_ended (text ++ b ∷ rest) ≡ text ++ line_ended (b ∷ rest)
line_ended_behind [] rest b = refl
line_ended_behind (x ∷ []) rest b = refl
line_ended_behind (x ∷ y ∷ text) rest b = ap (λ l. x ∷ l) (line_ended_behind (y ∷ text) rest b)

line_ended_gap : (b c : ℕ) (text rest : List ℕ) → line_ended (b ∷ (text ++ c ∷ rest)) ≡ b ∷ line_ended (text ++ c ∷ rest)
line_ended_gap b c [] rest = refl
line_ended_gap b c (x ∷ text) rest = refl

-- where no more pieces come, the last byte becomes a line feed
pub laid_all : (pieces : List Piece) → line_ended (laid_text pieces) ≡ pieces_text pieces
laid_all [] = refl
laid_all (InLine s ∷ []) = line_ended_last (sign_text s) 32
laid_all (ScopeLine s ∷ []) = line_ended_last (scope_text s) 10
laid_all (p ∷ q ∷ pieces) =
    line_ended_behind (piece_text p) (laid_text (q ∷ pieces)) (gap p q)
    ∙ ap (λ l. piece_text p ++ l) (line_ended_gap (gap p q) (gap_so_far q pieces) (piece_text q) (laid_text pieces) ∙ ap (λ l. gap p q ∷ l) (laid_all (q ∷ pieces)))

-- an item behind other pieces
item_laid : (pieces : List Piece) (item : Item) → item_behind (laid_text pieces) item ≡ laid_text (pieces ++ item_pieces item)
item_laid pieces (RegionItem region span) =
    ap (λ l. l ++ (scope_text (region_scope region) ++ 10 ∷ [])) (laid_all pieces) ∙ sym (laid_line pieces (region_scope region))
item_laid pieces (StructureItem structure) = sym (laid_signs pieces (structure_pieces structure))
item_laid pieces (GlobalItem global) = sym (laid_signs pieces (global_pieces global))
item_laid pieces (FunctionItem function) = sym (laid_signs pieces (function_pieces function))

items_laid : (pieces : List Piece) (items : List Item) → items_behind (laid_text pieces) items ≡ laid_text (pieces ++ flat_map item_pieces items)
items_laid pieces [] = ap laid_text (sym (append-nil pieces))
items_laid pieces (item ∷ items) =
    ap (λ text. items_behind text items) (item_laid pieces item) ∙ items_laid (pieces ++ item_pieces item) items
    ∙ ap laid_text (append_assoc pieces (item_pieces item) (flat_map item_pieces items))

finished_first : (text rest : List ℕ) (b : ℕ) → finished (text ++ b ∷ rest) ≡ line_ended (text ++ b ∷ rest)
finished_first [] rest b = refl
finished_first (x ∷ text) rest b = refl

finished_laid : (pieces : List Piece) → finished (laid_text pieces) ≡ text_of pieces
finished_laid [] = refl
finished_laid (p ∷ pieces) = finished_first (piece_text p) (laid_text pieces) (gap_so_far p pieces) ∙ laid_all (p ∷ pieces)

-- the text of all items
pub items_text : (items : List Item) → finished (items_behind [] items) ≡ text_of (flat_map item_pieces items)
items_text items = ap finished (items_laid [] items) ∙ finished_laid (flat_map item_pieces items)

last_replaced : (b : ℕ) (bs : List ℕ) → take (length (b ∷ bs) - 1) (b ∷ bs) ++ 10 ∷ [] ≡ line_ended (b ∷ bs)
last_replaced b [] = refl
last_replaced b (c ∷ cs) =
    let shorter : length (b ∷ c ∷ cs) - 1 ≡ suc (length (c ∷ cs) - 1) = omega arith in
    ap (λ n. take n (b ∷ c ∷ cs) ++ 10 ∷ []) shorter ∙ ap (λ l. b ∷ l) (last_replaced c cs)

-- a text whose last byte is replaced
pub finished_is : (text : List ℕ) → take (length text - 1) text ++ 10 ∷ [] ≡ finished text
finished_is [] = refl
finished_is (b ∷ bs) = last_replaced b bs
