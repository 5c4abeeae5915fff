-- What the bytes of a listing's file come to: the image that they spell, or the line that is refused.
use Rattle.std.specs.Prelude.{◌≡◌, ◌⊎◌, ℕ, ◌<◌, ◌≤◌, IsTrue, List, length, take, Some, None}
use Rattle.ckc_text.specs.Places.{line_behind}
use Rattle.code_words.specs.Images.{Image}
use Rattle.code_words.specs.Paced.{is_paced}
use Rattle.code_words_listing.specs.Listings.{listing, InFormat}
use Rattle.code_words_listing.specs.Verdicts.{Verdict}

-- how many bytes a listing may have
abbrev pub most_listing : ℕ
most_listing = 16777216

-- the bytes that a listing may have, of a file that may have more
abbrev pub front_of : List ℕ → List ℕ
front_of text = take most_listing text

-- the text is the listing of this image, which is in the format and keeps the pace
pub record Spells (text : List ℕ) (image : Image) : Type 0 where
  pub short : length text ≤ most_listing
  pub in_format : InFormat image
  pub paced : IsTrue (is_paced image)
  pub is : listing image ≡ text

-- the first line that is refused of a text: by the format or the pace, as far as a listing may go; or else the line that holds the
-- byte behind, which is no part of a listing
pub data IsRefusedAt (text : List ℕ) : ℕ → Type 0 where
  by_line : {number : ℕ} → Verdict (front_of text) (Some number) → IsRefusedAt text number
  too_long : most_listing < length text → Verdict (front_of text) None → IsRefusedAt text (line_behind (front_of text))

-- the text spells an image, or a line of it is refused
abbrev pub ImageOrRefusal : List ℕ → Type 0
ImageOrRefusal text = ((image : Image) × Spells text image) ⊎ ((number : ℕ) × IsRefusedAt text number)
