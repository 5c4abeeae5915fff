-- What is written for the lines of a listing.
use Rattle.std.proofs.Common.{◌≡◌, ℕ, suc, ◌+◌, List, [], ◌∷◌, ◌++◌, drop, ap, sym, ◌∙◌, refl, append_assoc, append-nil, add-one}
use Rattle.std.specs.List.{join_with_byte}
use Rattle.code_words_listing.specs.Lines.{Line, StaticBlock, line_text}
use Rattle.code_words_listing.specs.Listings.{lines_text, block_lines}
use Rattle.code_words_listing.specs.Shown.{behind_spaces}

-- words with a space between each two: the first, and each later one behind a space
pub join_first : (word : List ℕ) (words : List (List ℕ)) → join_with_byte 32 (word ∷ words) ≡ word ++ behind_spaces words
join_first word [] = sym (append-nil word)
join_first word (next ∷ words) = ap (λ rest. word ++ 32 ∷ rest) (join_first next words)

pub lines_text_append : (first second : List Line) → lines_text (first ++ second) ≡ lines_text first ++ lines_text second
lines_text_append [] second = refl
lines_text_append (line ∷ first) second = ap (λ rest. (line_text line ++ 10 ∷ []) ++ rest) (lines_text_append first second) ∙ sym (append_assoc (line_text line ++ 10 ∷ []) (lines_text first) (lines_text second))

-- lines, and lines behind them
pub written-behind : (first second : List Line) (old next new : List ℕ) → next ≡ old ++ lines_text first → new ≡ next ++ lines_text second → new ≡ old ++ lines_text (first ++ second)
written-behind first second old next new e f = f ∙ ap (λ t. t ++ lines_text second) e ∙ append_assoc old (lines_text first) (lines_text second) ∙ ap (λ t. old ++ t) (sym (lines_text_append first second))

-- the blocks from a place on
pub blocks-from : (number : ℕ) (blocks : List (List ℕ)) (block : List ℕ) (old next whole : List ℕ) → drop number blocks ≡ block ∷ drop (suc number) blocks
    → next ≡ old ++ lines_text (StaticBlock number block ∷ []) → old ++ lines_text (block_lines number (drop number blocks)) ≡ whole
    → next ++ lines_text (block_lines (number + 1) (drop (number + 1) blocks)) ≡ whole
blocks-from number blocks block old next whole e put all =
    rw (
      add-one number,
      put,
      append_assoc old (lines_text (StaticBlock number block ∷ [])) (lines_text (block_lines (suc number) (drop (suc number) blocks))),
      ← lines_text_append (StaticBlock number block ∷ []) (block_lines (suc number) (drop (suc number) blocks)),
    )
    (rw e at all)
