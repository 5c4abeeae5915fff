-- Which line of a text is refused.
use Rattle.std.specs.Prelude.{◌≡◌, ◌≢◌, ℕ, suc, Bool, true, false, List, [], ◌∷◌, ◌++◌, length, map, Option, Some, None, All}
use Rattle.code_words.specs.declared.op.Op.{Op}
use Rattle.code_words.specs.Images.{Image}
use Rattle.code_words.specs.Paced.{keeps_pace}
use Rattle.code_words_listing.specs.Lines.{Line, Begin, Instruction, line_text}
use Rattle.code_words_listing.specs.Listings.{lines_of, text_of, InFormat}

-- ---- the format

-- these lines are the first of a listing in format, whatever follows
pub record BeginListing (lines : List Line) : Type 0 where
  pub image : Image
  pub later : List Line
  pub kept : InFormat image
  pub all : lines_of image ≡ lines ++ later

-- these lines are a listing in format
pub record AreListing (lines : List Line) : Type 0 where
  pub image : Image
  pub kept : InFormat image
  pub all : lines_of image ≡ lines

-- a text goes on behind lines as no listing does
abbrev pub GoesWrong : List Line → List ℕ → Type 0
GoesWrong front text = (line : Line) → line_text line ≡ text → BeginListing (front ++ line ∷ []) → ⊥

-- what the format says of lines, and of what stands behind the last line feed: they are a listing; or the first lines are those of
-- a listing, and the next one isn't, or there are no more
pub data Format : (lines : List (List ℕ)) (rest : List ℕ) (front : List Line) (refused : Option ℕ) → Type 0 where
  Whole : (front : List Line) → AreListing front → Format (map line_text front) [] front None
  AtLine : (front : List Line) (line : List ℕ) (later : List (List ℕ)) (rest : List ℕ)
      → BeginListing front → GoesWrong front line → Format (map line_text front ++ line ∷ later) rest front (Some (suc (length front)))
  AtEnd : (front : List Line) (rest : List ℕ)
      → BeginListing front → (rest ≡ [] → AreListing front → ⊥) → Format (map line_text front) rest front (Some (suc (length front)))

-- ---- the pace

-- the instructions up to the first other line
abbrev pub instructions : List Line → List Op
instructions (Instruction op ∷ lines) = op ∷ instructions lines
instructions _ = []

-- an answer, or a later one where there is none
abbrev pub first_of : Option ℕ → Option ℕ → Option ℕ
first_of None later = later
first_of (Some number) later = Some number

abbrev pub unless : Bool → ℕ → Option ℕ
unless true number = None
unless false number = Some number

-- the line of the first instruction of a function that breaks the pace, if there is one, where the instruction at a place stands
-- in this line
abbrev pub off_pace_in : ℕ → List Op → ℕ → List Op → Option ℕ
off_pace_in number all place [] = None
off_pace_in number all place (op ∷ ops) = first_of (unless (keeps_pace all place op) number) (off_pace_in (suc number) all (suc place) ops)

-- the number of the first line that breaks the pace, if there is one, where the first line has this number: in each function the
-- pace is that of the instructions that are there
abbrev pub off_pace : ℕ → List Line → Option ℕ
off_pace number [] = None
off_pace number (Begin k name args slots stack result ∷ lines) =
    first_of (off_pace_in (suc number) (instructions lines) 0 (instructions lines)) (off_pace (suc number) lines)
off_pace number (_ ∷ lines) = off_pace (suc number) lines

-- ---- the verdict

-- what a text says: lines, and what stands behind the last line feed; which line is refused, if one is, the first that breaks the
-- pace before the one that the format refuses
pub record Verdict (text : List ℕ) (refused : Option ℕ) : Type 0 where
  pub lines : List (List ℕ)
  pub rest : List ℕ
  pub front : List Line
  pub at : Option ℕ
  pub cut : text ≡ text_of lines ++ rest
  pub no_feeds : All (All (λ b. b ≢ 10)) lines
  pub no_feed : All (λ b. b ≢ 10) rest
  pub format : Format lines rest front at
  pub first : refused ≡ first_of (off_pace 1 front) at
