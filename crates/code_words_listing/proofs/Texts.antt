-- The text of a line can be cut into its words, and a listing into its lines.
use Rattle.std.proofs.Common.{◌≡◌, ℕ, ◌<◌, ◌≤◌, ◌==◌, true, false, List, [], ◌∷◌, ◌++◌, length, map, Option, Some, None, refl, sym, ap, ◌∙◌, arith, lit<, lit≤, append_assoc}
use Rattle.std.specs.Prelude.{All}
use Rattle.std.specs.List.{list_all, join_with_byte, slice_split}
use Rattle.std.proofs.lemmas.List.Elements.{All-nil, All-cons, All-append, All-weaker, All-head, All-tail}
use Rattle.std.proofs.lemmas.List.Splits.{slice_split_at, slice_split_none}
use Rattle.std.proofs.lemmas.Bool.Decides.{nat_tests}
use Rattle.marshalling.specs.declared.kind.WordKind.{WordKind}
use Rattle.marshalling.specs.declared.kind.WordKind.TheVariants as kinds
use Rattle.marshalling.specs.declared.signature.Region.{Region}
use Rattle.ckc_text.specs.declared.place.Place.{Place}
use Rattle.code_words_listing.specs.Fields.{At, word_of}
use Rattle.code_words_listing.specs.Lines.{Line, Heading, TrustedSide, StaticBlock, TaintedFunction, Entry, Parameter, Begin, Instruction, End, Main, SandboxSide, Close, kind_word, parameter_fields, fields, line_text, IsAllowed}
use Rattle.code_words_listing.specs.Listings.{lines_text}
use Rattle.code_words_listing.specs.ReadLines.{line_of, line_of_words}
use Rattle.code_words_listing.proofs.Inner.{Inner, is_inner, is_plain, inner-words}
use Rattle.code_words_listing.proofs.InstructionWords.{instruction-word}
use Rattle.code_words_listing.proofs.LinesBack.{words-back}

-- ---- words

plain-kind : (kind : WordKind) → list_all is_inner (kind_word kind) ≡ true
plain-kind kinds.Int = refl
plain-kind kinds.Char = refl
plain-kind kinds.Pointer = refl
plain-kind kinds.Void = refl

plain-parameter : (kind : WordKind) (region : Option Region) (place : Place) → list_all is_plain (parameter_fields kind region ++ At place ∷ []) ≡ true
plain-parameter kind None place = rw (plain-kind kind) refl
plain-parameter kind (Some r) place = refl

plain-fields : (line : Line) → list_all is_plain (fields line) ≡ true
plain-fields Heading = refl
plain-fields TrustedSide = refl
plain-fields (StaticBlock number bytes) = refl
plain-fields (TaintedFunction i) = rw (plain-kind i.result) refl
plain-fields (Entry number fun args result) = rw (plain-kind result) refl
plain-fields (Parameter p) = plain-parameter p.kind p.region p.place
plain-fields (Begin number name args slots stack result) = rw (plain-kind result) refl
plain-fields (Instruction op) = rw ((instruction-word op).inner, (instruction-word op).operands) refl
plain-fields End = refl
plain-fields (Main number) = refl
plain-fields SandboxSide = refl
plain-fields Close = refl

no-space : (word : List ℕ) → All Inner word → All (λ b. (b == 32) ≡ false) word
no-space word h = All-weaker Inner (λ b. (b == 32) ≡ false) (λ b low. grind (arith, nat_tests, low)) word h

words-cut : (word : List ℕ) (words : List (List ℕ)) → All (All Inner) (word ∷ words) → slice_split (λ b. b == 32) (join_with_byte 32 (word ∷ words)) ≡ word ∷ words
words-cut word [] h = slice_split_none (λ b. b == 32) word (no-space word (All-head (All Inner) word [] h))
words-cut word (next ∷ words) h =
    slice_split_at (λ b. b == 32) word 32 (join_with_byte 32 (next ∷ words)) (no-space word (All-head (All Inner) word (next ∷ words) h)) refl
    ∙ ap (λ rest. word ∷ rest) (words-cut next words (All-tail (All Inner) word (next ∷ words) h))

some-words-cut : (words : List (List ℕ)) → 0 < length words → All (All Inner) words → slice_split (λ b. b == 32) (join_with_byte 32 words) ≡ words
some-words-cut [] some h = absurd (omega (arith, some))
some-words-cut (word ∷ words) some h = words-cut word words h

some-words : (line : Line) → 0 < length (map word_of (fields line))
some-words Heading = lit< tt
some-words TrustedSide = lit< tt
some-words (StaticBlock number bytes) = lit< tt
some-words (TaintedFunction i) = lit< tt
some-words (Entry number fun args result) = lit< tt
some-words (Parameter p) = omega arith
some-words (Begin number name args slots stack result) = lit< tt
some-words (Instruction op) = omega arith
some-words End = lit< tt
some-words (Main number) = lit< tt
some-words SandboxSide = lit< tt
some-words Close = lit< tt

words-inner : (line : Line) → IsAllowed line → All (All Inner) (map word_of (fields line))
words-inner line a = inner-words (fields line) a.words (plain-fields line)

-- the text of a line spells the line
pub line-back : (line : Line) → IsAllowed line → line_of (line_text line) ≡ Some line
line-back line a = ap line_of_words (some-words-cut (map word_of (fields line)) (some-words line) (words-inner line a)) ∙ words-back line a

-- lines of the same text are the same
pub line-injective : (one other : Line) → IsAllowed one → IsAllowed other → line_text one ≡ line_text other → one ≡ other
line-injective one other a b e = let both : Some one ≡ Some other = sym (line-back one a) ∙ ap line_of e ∙ line-back other b in cc

-- ---- lines

no-feed : (word : List ℕ) → All (λ b. 32 ≤ b) word → All (λ b. (b == 10) ≡ false) word
no-feed word h = All-weaker (λ b. 32 ≤ b) (λ b. (b == 10) ≡ false) (λ b low. grind (arith, nat_tests, low)) word h

joined : (words : List (List ℕ)) → All (All Inner) words → All (λ b. 32 ≤ b) (join_with_byte 32 words)
joined [] h = All-nil (λ b. 32 ≤ b)
joined (word ∷ []) h = All-weaker Inner (λ b. 32 ≤ b) (λ b low. omega (arith, low)) word (All-head (All Inner) word [] h)
joined (word ∷ next ∷ words) h =
    All-append (λ b. 32 ≤ b) word (32 ∷ join_with_byte 32 (next ∷ words)) (All-weaker Inner (λ b. 32 ≤ b) (λ b low. omega (arith, low)) word (All-head (All Inner) word (next ∷ words) h))
    (All-cons (λ b. 32 ≤ b) 32 (join_with_byte 32 (next ∷ words)) (lit≤ tt) (joined (next ∷ words) (All-tail (All Inner) word (next ∷ words) h)))

pub line-no-feed : (line : Line) → IsAllowed line → All (λ b. (b == 10) ≡ false) (line_text line)
line-no-feed line a = no-feed (line_text line) (joined (map word_of (fields line)) (words-inner line a))

-- the lines that texts spell, as far as each spells one
abbrev by-line : Option Line → List Line → List Line
by-line None later = []
by-line (Some line) later = line ∷ later

abbrev lines_in : List (List ℕ) → List Line
lines_in [] = []
lines_in (text ∷ texts) = by-line (line_of text) (lines_in texts)

text-back : (lines : List Line) → All IsAllowed lines → lines_in (slice_split (λ b. b == 10) (lines_text lines)) ≡ lines
text-back [] h = refl
text-back (line ∷ lines) h =
    let allowed = All-head IsAllowed line lines h in
    rw (append_assoc (line_text line) (10 ∷ []) (lines_text lines), slice_split_at (λ b. b == 10) (line_text line) 10 (lines_text lines) (line-no-feed line allowed) refl, line-back line allowed)
    (ap (λ rest. line ∷ rest) (text-back lines (All-tail IsAllowed line lines h)))

-- lines of the same text are the same
pub lines-injective : (ones others : List Line) → All IsAllowed ones → All IsAllowed others → lines_text ones ≡ lines_text others → ones ≡ others
lines-injective ones others a b e = sym (text-back ones a) ∙ ap (λ text. lines_in (slice_split (λ b. b == 10) text)) e ∙ text-back others b
