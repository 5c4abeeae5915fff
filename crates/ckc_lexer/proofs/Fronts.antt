-- How long pieces are: none is empty, and none reaches past the text.
use Rattle.std.proofs.Common.{◌≡◌, ℕ, suc, ◌<◌, ◌≤◌, Bool, true, false, cond, ◌==◌, List, [], ◌∷◌, length, take, drop, refl, sym, ap, subst, Option, Some, None, arith, length-drop}
use Rattle.std.specs.List.{prefix_len}
use Rattle.std.proofs.lemmas.Bool.Decides.{nat_tests}
use Rattle.std.proofs.lemmas.List.Sums.{prefix_len-le-length}
use Rattle.ckc_text.specs.Names.{is_word_byte}
use Rattle.ckc_lexer.specs.Bytes.{is_blank, is_in_line}
use Rattle.ckc_lexer.specs.Marks.{mark_piece, marked, long_mark, short_mark}
use Rattle.ckc_lexer.specs.Runs.{width, pair_width, Extent, ends, goes}
use Rattle.ckc_lexer.specs.Pieces.{front_of, slash_front, quote_front, front_len, closing_len, is_closing, quote_len, is_quote, is_include, IsDirective, IsHash, StandsAs, Stands}
use Rattle.ckc_lexer.specs.declared.front.Front.{Front}
use Rattle.ckc_lexer.specs.declared.front.Front.TheVariants.{BlankByte, LineComment, BlockComment, StringQuote, CharacterQuote, Word, Hash, Mark}
use Rattle.ckc_lexer.specs.declared.run.Run.{Run}
use Rattle.ckc_lexer.specs.declared.run.Run.TheVariants.{Comment, Directive, Quoted}
use Rattle.ckc_lexer.specs.declared.piece.Piece.{Piece}
use Rattle.ckc_lexer.specs.declared.piece.Piece.TheVariants.{Forbidden}
use Rattle.ckc_lexer.specs.declared.token.TokenKind.{TokenKind}

-- a choice is as short as both
either : (c : Bool) (x y : Front) (k : ℕ) → front_len x ≤ k → front_len y ≤ k → front_len (cond c x y) ≤ k
either true x y k h i = h
either false x y k h i = i

slash_within : (bs : List ℕ) → front_len (slash_front bs) ≤ suc (length bs)
slash_within [] = omega arith
slash_within (c ∷ cs) =
    either (c == 47) LineComment (cond (c == 42) BlockComment Mark) (suc (suc (length cs))) (omega arith) (either (c == 42) BlockComment Mark (suc (suc (length cs))) (omega arith) (omega arith))

quote_front_within : (b k : ℕ) → front_len (quote_front b) ≤ suc k
quote_front_within b k =
    either (b == 34) StringQuote (cond (b == 39) CharacterQuote (cond (b == 35) Hash Mark)) (suc k) (omega arith)
    (either (b == 39) CharacterQuote (cond (b == 35) Hash Mark) (suc k) (omega arith) (either (b == 35) Hash Mark (suc k) (omega arith) (omega arith)))

pub front_within : (text : List ℕ) → front_len (front_of text) ≤ length text
front_within [] = omega arith
front_within (b ∷ bs) =
    either (is_blank b) BlankByte (cond (is_word_byte b) Word (cond (b == 47) (slash_front bs) (quote_front b))) (suc (length bs)) (omega arith)
    (either (is_word_byte b) Word (cond (b == 47) (slash_front bs) (quote_front b)) (suc (length bs)) (omega arith)
    (either (b == 47) (slash_front bs) (quote_front b) (suc (length bs)) (slash_within bs) (quote_front_within b (length bs))))

-- a chosen number is no greater than both
choice : (c : Bool) (x y k : ℕ) → x ≤ k → y ≤ k → cond c x y ≤ k
choice true x y k h i = h
choice false x y k h i = i

pair_within : (bs : List ℕ) → pair_width bs ≤ suc (length bs)
pair_within [] = omega arith
pair_within (c ∷ cs) = choice _ 0 2 _ (omega arith) (omega arith)

pub width_within : (run : Run) (text : List ℕ) → width run text ≤ length text
width_within Comment [] = omega arith
width_within Comment (b ∷ bs) = choice _ 0 1 _ (omega arith) (omega arith)
width_within Directive [] = omega arith
width_within Directive (b ∷ bs) = choice _ 0 1 _ (omega arith) (omega arith)
width_within (Quoted quote) [] = omega arith
width_within (Quoted quote) (b ∷ bs) = choice _ 0 _ _ (omega arith) (choice _ (pair_width bs) 1 _ (pair_within bs) (omega arith))

pub extent_within : {run : Run} {text : List ℕ} {n : ℕ} → Extent run text n → n ≤ length text
extent_within (ends e) = omega arith
extent_within {run} {text} (goes w e rest) = omega (arith, e, width_within run text, extent_within rest, length-drop (suc w) text)

closing_small : (c : Bool) → closing_len c ≤ 2
closing_small true = omega arith
closing_small false = omega arith

closing_within : (rest : List ℕ) → closing_len (is_closing rest) ≤ length rest
closing_within [] = omega arith
closing_within (b ∷ []) = grind (arith, nat_tests)
closing_within (b ∷ c ∷ cs) = omega (arith, closing_small (is_closing (b ∷ c ∷ cs)))

quote_small : (c : Bool) → quote_len c ≤ 1
quote_small true = omega arith
quote_small false = omega arith

quote_within : (quote : ℕ) (rest : List ℕ) → quote_len (is_quote quote rest) ≤ length rest
quote_within quote [] = omega arith
quote_within quote (b ∷ bs) = omega (arith, quote_small (is_quote quote (b ∷ bs)))

-- a piece that has some bytes, all of them within the text
pub record IsWithin (text : List ℕ) (n : ℕ) : Type 0 where
  pub some : 0 < n
  pub within : n ≤ length text

-- a mark has one byte or two
mark_choice : (c : Bool) (found : Piece × ℕ) (text : List ℕ) → 0 < length text → IsWithin text found.1 → IsWithin text (cond c (Forbidden, 1) found).1
mark_choice true found text h w = record { some = omega arith; within = omega arith }
mark_choice false found text h w = w

long_within : (long short : Option TokenKind) (text : List ℕ) → 2 ≤ length text → IsWithin text (marked long short).1
long_within (Some long) short text h = record { some = omega arith; within = omega arith }
long_within None (Some short) text h = record { some = omega arith; within = omega arith }
long_within None None text h = record { some = omega arith; within = omega arith }

short_within : (short : Option TokenKind) (text : List ℕ) → 0 < length text → IsWithin text (marked None short).1
short_within (Some short) text h = record { some = omega arith; within = omega arith }
short_within None text h = record { some = omega arith; within = omega arith }

mark_within : (text : List ℕ) → 0 < length text → IsWithin text (mark_piece text).1
mark_within [] h = absurd (omega arith)
mark_within (b ∷ []) h = mark_choice _ (marked None (short_mark (b ∷ []))) (b ∷ []) h (short_within (short_mark (b ∷ [])) (b ∷ []) h)
mark_within (b ∷ c ∷ cs) h =
    mark_choice _ (marked (long_mark (b ∷ c ∷ cs)) (short_mark (b ∷ c ∷ cs))) (b ∷ c ∷ cs) h (long_within (long_mark (b ∷ c ∷ cs)) (short_mark (b ∷ c ∷ cs)) (b ∷ c ∷ cs) (omega arith))

-- what begins with a word begins with a word's byte
is_word_front : Front → Bool
is_word_front Word = true
is_word_front BlankByte = false
is_word_front LineComment = false
is_word_front BlockComment = false
is_word_front StringQuote = false
is_word_front CharacterQuote = false
is_word_front Hash = false
is_word_front Mark = false

neither : (c : Bool) (x y : Front) → is_word_front x ≡ false → is_word_front y ≡ false → is_word_front (cond c x y) ≡ false
neither true x y h i = h
neither false x y h i = i

slash_no_word : (bs : List ℕ) → is_word_front (slash_front bs) ≡ false
unfolding is_word_front
slash_no_word [] = refl
slash_no_word (c ∷ cs) = neither (c == 47) LineComment (cond (c == 42) BlockComment Mark) refl (neither (c == 42) BlockComment Mark refl refl)

quote_no_word : (b : ℕ) → is_word_front (quote_front b) ≡ false
unfolding is_word_front
quote_no_word b =
    neither (b == 34) StringQuote (cond (b == 39) CharacterQuote (cond (b == 35) Hash Mark)) refl
    (neither (b == 39) CharacterQuote (cond (b == 35) Hash Mark) refl (neither (b == 35) Hash Mark refl refl))

word_chosen : (c d : Bool) (other : Front) → is_word_front other ≡ false → is_word_front (cond c BlankByte (cond d Word other)) ≡ true → d ≡ true
unfolding is_word_front
word_chosen true d other h e = cc
word_chosen false true other h e = refl
word_chosen false false other h e = cc

pub word_first : (b : ℕ) (bs : List ℕ) → front_of (b ∷ bs) ≡ Word → is_word_byte b ≡ true
unfolding is_word_front
word_first b bs e =
    let other = cond (b == 47) (slash_front bs) (quote_front b) in
    word_chosen (is_blank b) (is_word_byte b) other (neither (b == 47) (slash_front bs) (quote_front b) (slash_no_word bs) (quote_no_word b)) (ap is_word_front e)

some_word : (text : List ℕ) → front_of text ≡ Word → 0 < prefix_len is_word_byte text
some_word [] e = cc
some_word (b ∷ bs) e = rw (word_first b bs e) (omega arith)

directive_within : (text : List ℕ) (m : ℕ) (include : Bool) (piece : Piece) (n : ℕ) → 0 < length text → m ≤ length (drop 1 text) → IsDirective (drop 1 text) m include piece n → IsWithin text n
directive_within text m true piece n h k (a, b) =
    record { some = omega arith; within = omega (arith, length-drop 1 text, prefix_len-le-length is_in_line (drop 1 text)) }
directive_within text m false piece n h k (a, b) = record { some = omega arith; within = omega (arith, length-drop 1 text) }

hash_within : (first : Bool) (text : List ℕ) (piece : Piece) (n : ℕ) → 0 < length text → IsHash first (drop 1 text) piece n → IsWithin text n
hash_within false text piece n h (a, b) = record { some = omega arith; within = omega arith }
hash_within true text piece n h (m, e, d) = directive_within text m (is_include (take m (drop 1 text))) piece n h (extent_within e) d

within_as : (front : Front) (first : Bool) (text : List ℕ) (piece : Piece) (n : ℕ) → front_of text ≡ front → front_len front ≤ length text → 0 < length text → StandsAs front first text piece n → IsWithin text n
within_as BlankByte first text piece n f l h (a, b) = record { some = omega arith; within = omega arith }
within_as LineComment first text piece n f l h (a, b) =
    record { some = omega arith; within = omega (arith, length-drop 2 text, prefix_len-le-length is_in_line (drop 2 text)) }
within_as BlockComment first text piece n f l h (m, e, (a, b)) =
    record { some = omega arith; within = omega (arith, length-drop 2 text, length-drop m (drop 2 text), extent_within e, closing_within (drop m (drop 2 text))) }
within_as StringQuote first text piece n f l h (m, e, content, g, (a, b)) =
    record { some = omega arith; within = omega (arith, length-drop 1 text, length-drop m (drop 1 text), extent_within e, quote_within 34 (drop m (drop 1 text))) }
within_as CharacterQuote first text piece n f l h (m, e, content, g, (a, b)) =
    record { some = omega arith; within = omega (arith, length-drop 1 text, length-drop m (drop 1 text), extent_within e, quote_within 39 (drop m (drop 1 text))) }
within_as Word first text piece n f l h (a, b) =
    record { some = omega (arith, some_word text f); within = omega (arith, prefix_len-le-length is_word_byte text) }
within_as Hash first text piece n f l h d = hash_within first text piece n h d
within_as Mark first text piece n f l h e =
    let same : n ≡ (mark_piece text).1 = ap (λ (x : Piece × ℕ). x.1) e in
    subst (λ k. IsWithin text k) (sym same) (mark_within text h)

pub piece_within : (first : Bool) (text : List ℕ) (piece : Piece) (n : ℕ) → 0 < length text → Stands first text piece n → IsWithin text n
piece_within first text piece n h s = within_as (front_of text) first text piece n refl (front_within text) h s
