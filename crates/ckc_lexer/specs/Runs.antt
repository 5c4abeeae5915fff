-- How far a piece reaches: to the first place where it can end.
use Rattle.std.specs.Prelude.{◌≡◌, ℕ, suc, ◌+◌, ◌||◌, ◌&&◌, cond, List, [], ◌∷◌, drop, ◌==◌}
use Rattle.ckc_text.specs.Names.{begins_with}
use Rattle.ckc_lexer.specs.Bytes.{is_line_feed}
use Rattle.ckc_lexer.specs.declared.run.Run.{Run}
use Rattle.ckc_lexer.specs.declared.run.Run.TheVariants.{Comment, Directive, Quoted}

-- a backslash takes the byte behind it with it, but for the end of the line
abbrev pub pair_width : List ℕ → ℕ
pair_width [] = 0
pair_width (c ∷ cs) = cond (is_line_feed c) 0 2

-- how many bytes belong together at the front of the text; none where the run ends there: a comment at `*/`, a directive
-- at the end of its line or at a comment, what is quoted at the quote or the end of its line
abbrev pub width : Run → List ℕ → ℕ
width Comment [] = 0
width Comment (b ∷ bs) = cond (b == 42 && begins_with (λ c. c == 47) bs) 0 1
width Directive [] = 0
width Directive (b ∷ bs) = cond (is_line_feed b || (b == 47 && begins_with (λ c. c == 47 || c == 42) bs)) 0 1
width (Quoted quote) [] = 0
width (Quoted quote) (b ∷ bs) = cond (is_line_feed b || b == quote) 0 (cond (b == 92) (pair_width bs) 1)

-- the run has so many bytes at the front of the text
pub data Extent (run : Run) : List ℕ → ℕ → Type 0 where
  ends : {text : List ℕ} → width run text ≡ 0 → Extent run text 0
  goes : {text : List ℕ} {n : ℕ} (w : ℕ) → width run text ≡ suc w → Extent run (drop (suc w) text) n → Extent run text (suc w + n)
