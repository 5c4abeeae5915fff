-- Words that are taken to their end, and names among them.
use Rattle.std.proofs.Common.{◌≡◌, ℕ, zero, suc, ◌+◌, Bool, true, false, cond, List, [], ◌∷◌, length, take, refl, subst, arith}
use Rattle.std.specs.List.{prefix_len}
use Rattle.std.proofs.lemmas.Bool.Decides.{nat_tests}
use Rattle.ckc_text.specs.Names.{is_digit, is_letter, is_word_byte, begins_with, IsName}
use Rattle.ckc_lexer.specs.Directives.{part, part_len, unblanked}
use Rattle.ckc_lexer.specs.Pieces.{front_of}
use Rattle.ckc_lexer.specs.declared.front.Front.TheVariants.{Word}
use Rattle.ckc_lexer.proofs.Fronts.{word_first}

-- the first byte of a word is a letter or a digit
pub starts_name : (text : List ℕ) → begins_with is_word_byte text ≡ true → begins_with is_digit text ≡ false → begins_with is_letter text ≡ true
starts_name [] h e = h
starts_name (b ∷ bs) h e = grind (arith, nat_tests)

-- what is taken as long as it passes passes whole
passed_step : {A : Type 0} (p : A → Bool) (x : A) (xs : List A) (n : ℕ) (c : Bool) → p x ≡ c → prefix_len p (take n xs) ≡ length (take n xs)
    → prefix_len p (take (cond c (1 + n) 0) (x ∷ xs)) ≡ length (take (cond c (1 + n) 0) (x ∷ xs))
passed_step p x xs n false e h = refl
passed_step p x xs n true e h =
    let next : suc n ≡ 1 + n = omega arith in
    subst (λ k. prefix_len p (take k (x ∷ xs)) ≡ length (take k (x ∷ xs))) next (rw e (omega arith))

pub all_passed : {A : Type 0} (p : A → Bool) (xs : List A) → prefix_len p (take (prefix_len p xs) xs) ≡ length (take (prefix_len p xs) xs)
all_passed p [] = refl
all_passed p (x ∷ xs) = passed_step p x xs (prefix_len p xs) (p x) refl (all_passed p xs)

pub begins_taken : (b : ℕ) (bs : List ℕ) → is_word_byte b ≡ true → begins_with is_word_byte (take (prefix_len is_word_byte (b ∷ bs)) (b ∷ bs)) ≡ true
begins_taken b bs h =
    let next : suc (prefix_len is_word_byte bs) ≡ prefix_len is_word_byte (b ∷ bs) = rw h (omega arith) in
    subst (λ k. begins_with is_word_byte (take k (b ∷ bs)) ≡ true) next h

-- letters and digits alone
pub record IsWordText (text : List ℕ) : Type 0 where
  pub starts : begins_with is_word_byte text ≡ true
  pub whole : prefix_len is_word_byte text ≡ length text

-- a word, taken to its end
pub word_text : (text : List ℕ) → front_of text ≡ Word → IsWordText (take (prefix_len is_word_byte text) text)
word_text [] e = cc
word_text (b ∷ bs) e = record { starts = begins_taken b bs (word_first b bs e); whole = all_passed is_word_byte (b ∷ bs) }

-- a word that begins with no digit is a name
pub name_of_word : (text : List ℕ) → IsWordText text → begins_with is_digit text ≡ false → IsName text
name_of_word text h e = record { starts = starts_name text h.starts e; whole = h.whole }

-- a first part that begins with a letter is a word
letter_first : (b : ℕ) → is_letter b ≡ true → is_word_byte b ≡ true
letter_first b h = grind (arith, nat_tests)

part_name_at : (text : List ℕ) → begins_with is_letter (take (part_len text) text) ≡ true → IsName (take (part_len text) text)
part_name_at [] h = cc
part_name_at (b ∷ bs) h =
    let first : begins_with is_letter (b ∷ bs) ≡ true = begins_front (part_len (b ∷ bs)) b bs h in
    let one = letter_first b first in
    let count : prefix_len is_word_byte (b ∷ bs) ≡ part_len (b ∷ bs) = grind (arith, nat_tests) in
    record { starts = h; whole = subst (λ n. prefix_len is_word_byte (take n (b ∷ bs)) ≡ length (take n (b ∷ bs))) count (all_passed is_word_byte (b ∷ bs)) }
  where
    begins_front : (n : ℕ) (c : ℕ) (cs : List ℕ) → begins_with is_letter (take n (c ∷ cs)) ≡ true → is_letter c ≡ true
    begins_front zero c cs h = absurd cc
    begins_front (suc n) c cs h = h

pub part_name : (text : List ℕ) → begins_with is_letter (part text).0 ≡ true → IsName (part text).0
unfolding part
part_name text h = part_name_at (unblanked text) h
