-- What is read as a line is the text of the line, and the line may stand in a listing.
use Rattle.std.proofs.Common.{◌≡◌, ℕ, suc, ◌+◌, ◌<◌, ◌≤◌, ◌==◌, ◌^◌, ◌&&◌, Bool, true, false, List, [], ◌∷◌, ◌++◌, length, map, decimal, take, drop, get_or, Option, Some, None, Result, Ok, Err, refl, sym, ap, ◌∙◌, subst, arith, append_assoc, append-nil, add-one, drop-cons, ℤ}
use Rattle.std.specs.Prelude.{All, nat_lt, nat_le, cond, codes, find, position, option_and_then, option_map, FitsSigned}
use Rattle.std.specs.Int.{Width, int_wrap, w32, w64}
use Rattle.std.specs.Ordering.{int_eq}
use Rattle.std.specs.Fmt.{signed_decimal}
use Rattle.std.specs.Str.{bytes_eq}
use Rattle.std.specs.Str.Parse.{digits_value}
use Rattle.std.specs.List.{prefix_len, join_with_byte, slice_split}
use Rattle.std.specs.Result.{result_ok}
use Rattle.std.proofs.lemmas.List.{take-append-drop}
use Rattle.std.proofs.lemmas.List.Elements.{All-nil, All-cons, All-from_get_or}
use Rattle.std.proofs.lemmas.List.Quantifiers.{position-Some}
use Rattle.std.proofs.lemmas.List.Splits.{join_with_byte-slice_split}
use Rattle.std.proofs.lemmas.Slice.Eq.{bytes_eq-Decides}
use Rattle.std.proofs.lemmas.Bool.Decides.{Decides-eqb, Decides-ltb, nat_tests}
use Rattle.hex.specs.Hex.{encode_lower, decode_of}
use Rattle.hex.proofs.HexLemmas.{decode_of-ok}
use Rattle.ckc_text.specs.declared.place.Place.{Place}
use Rattle.ckc_text.specs.Names.{is_letter, is_word_byte, begins_with}
use Rattle.marshalling.specs.declared.kind.WordKind.{WordKind}
use Rattle.marshalling.specs.declared.kind.WordKind.TheVariants as kinds
use Rattle.code_words.specs.declared.op.Op.{Op}
use Rattle.code_words.specs.declared.op.Op.TheVariants as ops
use Rattle.code_words_listing.specs.declared.read_lines.Head.{Head}
use Rattle.code_words_listing.specs.declared.read_lines.Head.TheVariants as firsts
use Rattle.code_words_listing.specs.Fields.{Field, Fixed, Number, Size, Signed32, Signed64, NumberOrNone, Named, Bytes, At, word_of, Fits, IsNumber}
use Rattle.code_words_listing.specs.Instructions.{instruction_word}
use Rattle.code_words_listing.specs.Lines.{Line, Heading, TrustedSide, StaticBlock, TaintedFunction, Entry, Parameter, Begin, Instruction, End, Main, SandboxSide, Close, kind_word, fields, line_text, IsParameter, KeepsLimits, IsAllowed}
use Rattle.code_words_listing.specs.Reading.{when, number_in, size_in, signed_value, signed_in, number_or_none_in, name_in, bytes_in, place_in, one, fixed, done}
use Rattle.code_words_listing.specs.ReadInstructions.{samples, with_operands, instruction_of}
use Rattle.code_words_listing.specs.ReadLines.{heads, head_word, head_of, kind_in, parameter_kind_in, kept, region_of, param_of, line_with, line_by, line_of_words, line_of}
use Rattle.code_words_listing.proofs.Spelled.{fits_of}
use Rattle.code_words_listing.proofs.Steps.{both, passed}

-- ---- single words

-- the word is that of a field that may stand in a line
record Spells (word : List ℕ) (field : Field) : Type 0 where
  pub is : word_of field ≡ word
  pub fits : Fits field

-- what is read as a value is the word of its field
abbrev Spelling : {A : Type 0} → (List ℕ → Option A) → (A → Field) → Type 0
Spelling {A = A} value field = (word : List ℕ) (a : A) → value word ≡ Some a → Spells word (field a)

record Behind {A B : Type 0} (found : Option A) (next : A → Option B) (result : B) : Type 0 where
  pub a : A
  pub was : found ≡ Some a
  pub is : next a ≡ Some result

behind : {A B : Type 0} (found : Option A) (next : A → Option B) (result : B) → option_and_then next found ≡ Some result → Behind found next result
behind None next result h = cc
behind (Some a) next result h = record { a = a; was = refl; is = h }

find-keeps : {X : Type 0} (p : X → Bool) (Q : X → Type 0) (xs : List X) (x : X) → ((y : X) → p y ≡ true → Q y) → find p xs ≡ Some x → Q x
find-keeps p Q [] x q h = cc
find-keeps {X = X} p Q (y ∷ ys) x q h = by (p y) refl h (find-keeps p Q ys x q)
  where
    by : (t : Bool) → p y ≡ t → cond t (Some y) (find p ys) ≡ Some x → (find p ys ≡ Some x → Q x) → Q x
    by true e f later = let same : y ≡ x = cc in subst Q same (q y e)
    by false e f later = later f

number-spells : Spelling number_in Number
number-spells word n h =
    let v = digits_value 10 word in
    let p = passed (bytes_eq word (decimal v) && nat_lt v (2 ^ 32)) v n h in
    let t = both (bytes_eq word (decimal v)) (nat_lt v (2 ^ 32)) p.holds in
    let is : word ≡ decimal v = (bytes_eq-Decides word (decimal v)).0 t.0 in
    record { is = sym (is ∙ ap decimal p.is); fits = subst IsNumber p.is ((Decides-ltb v (2 ^ 32)).0 t.1) }

size-spells : Spelling size_in Size
size-spells word n h =
    let b = behind (number_in word) (λ n. when (nat_le 1 n) n) n h in
    let p = passed (nat_le 1 b.a) b.a n b.is in
    let s = number-spells word b.a b.was in
    let least : 1 ≤ b.a = grind (arith, nat_tests, p.holds) in
    record { is = ap decimal (sym p.is) ∙ s.is; fits = (subst (λ n. 1 ≤ n) p.is least, subst IsNumber p.is s.fits) }

signed-is : (w : Width) (word : List ℕ) (z : ℤ) → signed_in w word ≡ Some z → signed_decimal z ≡ word
signed-is w word z h =
    let v = signed_value word in
    let p = passed (bytes_eq word (signed_decimal v) && int_eq (int_wrap w v) v) v z h in
    let t = both (bytes_eq word (signed_decimal v)) (int_eq (int_wrap w v) v) p.holds in
    let is : word ≡ signed_decimal v = (bytes_eq-Decides word (signed_decimal v)).0 t.0 in
    sym (is ∙ ap signed_decimal p.is)

signed-fits : (w : Width) (word : List ℕ) (z : ℤ) → signed_in w word ≡ Some z → FitsSigned w z
signed-fits w word z h = fits_of w word (Some z) (sym h)

signed32-spells : Spelling (signed_in w32) Signed32
signed32-spells word z h = record { is = signed-is w32 word z h; fits = signed-fits w32 word z h }

signed64-spells : Spelling (signed_in w64) Signed64
signed64-spells word z h = record { is = signed-is w64 word z h; fits = signed-fits w64 word z h }

number-or-none-spells : Spelling number_or_none_in NumberOrNone
number-or-none-spells word number h = by (bytes_eq word (codes "-")) (number_in word) refl refl h
  where
    by : (t : Bool) (found : Option ℕ) → bytes_eq word (codes "-") ≡ t → number_in word ≡ found → cond t (Some None) (option_map Some found) ≡ Some number → Spells word (NumberOrNone number)
    by true found e f g = let none : None ≡ number = cc in subst (λ n. Spells word (NumberOrNone n)) none (record { is = sym ((bytes_eq-Decides word (codes "-")).0 e); fits = tt })
    by false None e f g = cc
    by false (Some n) e f g =
        let some : Some n ≡ number = cc in
        let s = number-spells word n f in
        subst (λ n. Spells word (NumberOrNone n)) some (record { is = s.is; fits = s.fits })

name-spells : Spelling name_in Named
name-spells word name h =
    let p = passed (begins_with is_letter word && prefix_len is_word_byte word == length word) word name h in
    let t = both (begins_with is_letter word) (prefix_len is_word_byte word == length word) p.holds in
    subst (λ (n : List ℕ). Spells word (Named n)) p.is
    (record { is = refl; fits = record { starts = t.0; whole = (Decides-eqb (prefix_len is_word_byte word) (length word)).0 t.1 } })

decoded : {E : Type 0} (r : Result (List ℕ) E) (bytes : List ℕ) → result_ok r ≡ Some bytes → r ≡ Ok bytes
decoded (Ok b) bytes h = cc
decoded (Err e) bytes h = cc

bytes-spells : Spelling bytes_in Bytes
bytes-spells word bytes h =
    let b = behind (result_ok (decode_of word)) (λ bytes. when (bytes_eq word (encode_lower bytes)) bytes) bytes h in
    let p = passed (bytes_eq word (encode_lower b.a)) b.a bytes b.is in
    let ok = decode_of-ok word b.a (decoded (decode_of word) b.a b.was) in
    subst (λ (l : List ℕ). Spells word (Bytes l)) p.is
    (record { is = sym ((bytes_eq-Decides word (encode_lower b.a)).0 p.holds); fits = All-from_get_or (λ b. b < 256) b.a 0 (λ i low. ok.3 i) })

place-spells : Spelling place_in At
place-spells [] place h = cc
place-spells (first ∷ rest) place h =
    let colon = behind (position (λ b. b == 58) rest) (λ colon. option_and_then (λ line. option_and_then (λ col. when (first == 64) (record { line = line; col = col })) (number_in (drop (colon + 1) rest))) (number_in (take colon rest))) place h in
    let at = colon.a in
    let line = behind (number_in (take at rest)) (λ line. option_and_then (λ col. when (first == 64) (record { line = line; col = col })) (number_in (drop (at + 1) rest))) place colon.is in
    let col = behind (number_in (drop (at + 1) rest)) (λ col. when (first == 64) (record { line = line.a; col = col })) place line.is in
    let p = passed (first == 64) (record { line = line.a; col = col.a }) place col.is in
    let l = number-spells (take at rest) line.a line.was in
    let c = number-spells (drop (at + 1) rest) col.a col.was in
    let here = position-Some (λ b. b == 58) rest at 0 colon.was in
    let mark : get_or rest at 0 ≡ 58 = (Decides-eqb (get_or rest at 0) 58).0 here.1 in
    let head : first ≡ 64 = (Decides-eqb first 64).0 p.holds in
    let cut : drop at rest ≡ 58 ∷ drop (at + 1) rest = drop-cons rest at 0 here.0 ∙ ap (λ b. b ∷ drop (suc at) rest) mark ∙ ap (λ n. 58 ∷ drop n rest) (sym (add-one at)) in
    let whole : take at rest ++ 58 ∷ drop (at + 1) rest ≡ rest = ap (λ l. take at rest ++ l) (sym cut) ∙ take-append-drop at rest in
    subst (λ (q : Place). Spells (first ∷ rest) (At q)) p.is
    (record {
      is =
          ap (λ (t : List ℕ). 64 ∷ ((t ++ 58 ∷ []) ++ decimal col.a)) l.is
          ∙ ap (λ (t : List ℕ). 64 ∷ ((take at rest ++ 58 ∷ []) ++ t)) c.is
          ∙ ap (λ (t : List ℕ). 64 ∷ t) (append_assoc (take at rest) (58 ∷ []) (drop (at + 1) rest) ∙ whole)
          ∙ ap (λ b. b ∷ rest) (sym head);
      fits = (l.fits, c.fits);
    })

kind-spells : Spelling kind_in (λ kind. Fixed (kind_word kind))
kind-spells word kind h =
    record {
      is =
          find-keeps (λ kind. bytes_eq (kind_word kind) word) (λ kind. kind_word kind ≡ word) (kinds.Int ∷ kinds.Char ∷ kinds.Pointer ∷ kinds.Void ∷ []) kind
          (λ kind e. (bytes_eq-Decides (kind_word kind) word).0 e) h;
      fits = tt;
    }

-- ---- words one behind the other

-- the words are those of the fields that stand behind these in a line
record Reads (front : List Field) (words : List (List ℕ)) (line : Line) : Type 0 where
  pub later : List Field
  pub all : fields line ≡ front ++ later
  pub spelled : map word_of later ≡ words
  pub fit : All Fits later
  pub limits : KeepsLimits line

-- what is read behind these fields is so
record Sound (front : List Field) (next : List (List ℕ) → Option Line) : Type 0 where
  pub sound : (words : List (List ℕ)) (line : Line) → next words ≡ Some line → Reads front words line

one-sound : {A : Type 0} (value : List ℕ → Option A) (field : A → Field) (front : List Field) (next : A → List (List ℕ) → Option Line) → Spelling value field
    → ((a : A) → Sound (front ++ field a ∷ []) (next a)) → Sound front (one value next)
one-sound {A = A} value field front next spelling rest = record { sound = by }
  where
    by : (words : List (List ℕ)) (line : Line) → one value next words ≡ Some line → Reads front words line
    by [] line h = cc
    by (word ∷ words) line h =
        let b = behind (value word) (λ a. next a words) line h in
        let s = spelling word b.a b.was in
        let r = (rest b.a).sound words line b.is in
        record {
          later = field b.a ∷ r.later;
          all = r.all ∙ append_assoc front (field b.a ∷ []) r.later;
          spelled = ap (λ (w : List ℕ). w ∷ map word_of r.later) s.is ∙ ap (λ (l : List (List ℕ)). word ∷ l) r.spelled;
          fit = All-cons Fits (field b.a) r.later s.fits r.fit;
          limits = r.limits;
        }

fixed-sound : (text : List ℕ) (front : List Field) (next : List (List ℕ) → Option Line) → Sound (front ++ Fixed text ∷ []) next → Sound front (fixed text next)
fixed-sound text front next rest = record { sound = by }
  where
    is : (word : List ℕ) (words : List (List ℕ)) (line : Line) (t : Bool) → bytes_eq word text ≡ t → cond t (next words) None ≡ Some line → Reads front (word ∷ words) line
    is word words line true e h =
        let r = rest.sound words line h in
        record {
          later = Fixed text ∷ r.later;
          all = r.all ∙ append_assoc front (Fixed text ∷ []) r.later;
          spelled = ap (λ (w : List ℕ). w ∷ map word_of r.later) (sym ((bytes_eq-Decides word text).0 e)) ∙ ap (λ (l : List (List ℕ)). word ∷ l) r.spelled;
          fit = All-cons Fits (Fixed text) r.later tt r.fit;
          limits = r.limits;
        }
    is word words line false e h = cc

    by : (words : List (List ℕ)) (line : Line) → fixed text next words ≡ Some line → Reads front words line
    by [] line h = cc
    by (word ∷ words) line h = is word words line (bytes_eq word text) refl h

no-more : (front : List Field) (made : Line) → fields made ≡ front → KeepsLimits made → Reads front [] made
no-more front made is limits = record { later = []; all = is ∙ sym (append-nil front); spelled = refl; fit = All-nil Fits; limits = limits }

done-sound : (made : Line) (front : List Field) → fields made ≡ front → KeepsLimits made → Sound front (done made)
done-sound made front is limits = record { sound = by }
  where
    by : (words : List (List ℕ)) (line : Line) → done made words ≡ Some line → Reads front words line
    by [] line h = let same : made ≡ line = cc in subst (Reads front []) same (no-more front made is limits)
    by (word ∷ words) line h = cc

kept-sound : (test : Bool) (made : Line) (front : List Field) → (test ≡ true → fields made ≡ front) → (test ≡ true → KeepsLimits made) → Sound front (kept test made)
kept-sound test made front is limits = record { sound = by }
  where
    by : (words : List (List ℕ)) (line : Line) → kept test made words ≡ Some line → Reads front words line
    by [] line h =
        let p = passed test made line h in
        subst (Reads front []) p.is (no-more front made (is p.holds) (limits p.holds))
    by (word ∷ words) line h = cc

at-most : (m n : ℕ) → nat_le m n ≡ true → m ≤ n
at-most m n h = grind (arith, nat_tests)

-- ---- instructions

operands-sound : (op : Op) → Sound (Fixed (instruction_word op) ∷ []) (with_operands op)
operands-sound (ops.Const a0) = one-sound (signed_in w32) Signed32 _ _ signed32-spells (λ a. done-sound (Instruction (ops.Const a)) _ refl tt)
operands-sound (ops.Local a0) = one-sound number_in Number _ _ number-spells (λ a. done-sound (Instruction (ops.Local a)) _ refl tt)
operands-sound (ops.Set a0) = one-sound number_in Number _ _ number-spells (λ a. done-sound (Instruction (ops.Set a)) _ refl tt)
operands-sound (ops.BlockAddress a0) = one-sound number_in Number _ _ number-spells (λ a. done-sound (Instruction (ops.BlockAddress a)) _ refl tt)
operands-sound (ops.BlockOffset a0) = one-sound number_in Number _ _ number-spells (λ a. done-sound (Instruction (ops.BlockOffset a)) _ refl tt)
operands-sound (ops.Neg a0) = one-sound place_in At _ _ place-spells (λ a. done-sound (Instruction (ops.Neg a)) _ refl tt)
operands-sound (ops.Index a0) = one-sound size_in Size _ _ size-spells (λ a. done-sound (Instruction (ops.Index a)) _ refl tt)
operands-sound (ops.NonNull a0) = one-sound place_in At _ _ place-spells (λ a. done-sound (Instruction (ops.NonNull a)) _ refl tt)
operands-sound (ops.In a0 b0 c0 d0) = one-sound (signed_in w64) Signed64 _ _ signed64-spells (λ a. one-sound (signed_in w64) Signed64 _ _ signed64-spells (λ b. one-sound size_in Size _ _ size-spells (λ c. one-sound place_in At _ _ place-spells (λ d. done-sound (Instruction (ops.In a b c d)) _ refl tt))))
operands-sound (ops.UpTo a0 b0 c0 d0) = one-sound (signed_in w64) Signed64 _ _ signed64-spells (λ a. one-sound (signed_in w64) Signed64 _ _ signed64-spells (λ b. one-sound size_in Size _ _ size-spells (λ c. one-sound place_in At _ _ place-spells (λ d. done-sound (Instruction (ops.UpTo a b c d)) _ refl tt))))
operands-sound (ops.Term a0 b0 c0) = one-sound (signed_in w64) Signed64 _ _ signed64-spells (λ a. one-sound size_in Size _ _ size-spells (λ b. one-sound place_in At _ _ place-spells (λ c. done-sound (Instruction (ops.Term a b c)) _ refl tt)))
operands-sound (ops.Contain a0 b0 c0 d0 e0 f0) = one-sound (signed_in w64) Signed64 _ _ signed64-spells (λ a. one-sound (signed_in w64) Signed64 _ _ signed64-spells (λ b. one-sound (signed_in w64) Signed64 _ _ signed64-spells (λ c. one-sound (signed_in w64) Signed64 _ _ signed64-spells (λ d. one-sound size_in Size _ _ size-spells (λ e. one-sound place_in At _ _ place-spells (λ f. done-sound (Instruction (ops.Contain a b c d e f)) _ refl tt))))))
operands-sound (ops.Lies a0 b0 c0 d0 e0) = one-sound (signed_in w64) Signed64 _ _ signed64-spells (λ a. one-sound (signed_in w64) Signed64 _ _ signed64-spells (λ b. one-sound size_in Size _ _ size-spells (λ c. one-sound number_in Number _ _ number-spells (λ d. one-sound place_in At _ _ place-spells (λ e. done-sound (Instruction (ops.Lies a b c d e)) _ refl tt)))))
operands-sound (ops.Range a0 b0 c0) = one-sound number_in Number _ _ number-spells (λ a. one-sound number_in Number _ _ number-spells (λ b. one-sound place_in At _ _ place-spells (λ c. done-sound (Instruction (ops.Range a b c)) _ refl tt)))
operands-sound (ops.Jump a0) = one-sound number_in Number _ _ number-spells (λ a. done-sound (Instruction (ops.Jump a)) _ refl tt)
operands-sound (ops.JumpIfZero a0) = one-sound number_in Number _ _ number-spells (λ a. done-sound (Instruction (ops.JumpIfZero a)) _ refl tt)
operands-sound (ops.Call a0) = one-sound number_in Number _ _ number-spells (λ a. done-sound (Instruction (ops.Call a)) _ refl tt)
operands-sound (ops.TaintedCall a0 b0) = one-sound number_in Number _ _ number-spells (λ a. one-sound place_in At _ _ place-spells (λ b. done-sound (Instruction (ops.TaintedCall a b)) _ refl tt))
operands-sound (ops.CallBack a0) = one-sound number_in Number _ _ number-spells (λ a. done-sound (Instruction (ops.CallBack a)) _ refl tt)
operands-sound (ops.Alloc a0) = one-sound size_in Size _ _ size-spells (λ a. done-sound (Instruction (ops.Alloc a)) _ refl tt)
operands-sound (ops.AllocTerminated a0) = one-sound size_in Size _ _ size-spells (λ a. done-sound (Instruction (ops.AllocTerminated a)) _ refl tt)
operands-sound (ops.SandboxAlloc a0) = one-sound size_in Size _ _ size-spells (λ a. done-sound (Instruction (ops.SandboxAlloc a)) _ refl tt)
operands-sound (ops.Arithmetic operator a0) = one-sound place_in At _ _ place-spells (λ a. done-sound (Instruction (ops.Arithmetic operator a)) _ refl tt)
operands-sound op = done-sound (Instruction op) (Fixed (instruction_word op) ∷ []) refl tt

instruction-sound : (word : List ℕ) → Sound (Fixed word ∷ []) (instruction_of word)
instruction-sound word = record { sound = by }
  where
    by : (words : List (List ℕ)) (line : Line) → instruction_of word words ≡ Some line → Reads (Fixed word ∷ []) words line
    by words line h =
        let b = behind (find (λ op. bytes_eq (instruction_word op) word) samples) (λ op. with_operands op words) line h in
        let is = find-keeps (λ op. bytes_eq (instruction_word op) word) (λ op. instruction_word op ≡ word) samples b.a (λ op e. (bytes_eq-Decides (instruction_word op) word).0 e) b.was in
        subst (λ (w : List ℕ). Reads (Fixed w ∷ []) words line) is ((operands-sound b.a).sound words line b.is)

-- ---- other lines

block-sound : Sound (Fixed (codes "block") ∷ []) (line_with firsts.Block)
block-sound =
    one-sound number_in Number _ _ number-spells (λ number. one-sound number_in Number _ _ number-spells (λ count. one-sound bytes_in Bytes _ _ bytes-spells (λ bytes.
    kept-sound (count == length bytes) (StaticBlock number bytes) _
    (λ t. ap (λ n. Fixed (codes "block") ∷ Number number ∷ Number n ∷ Bytes bytes ∷ []) (sym ((Decides-eqb count (length bytes)).0 t))) (λ t. tt))))

import-sound : Sound (Fixed (codes "import") ∷ []) (line_with firsts.Import)
import-sound =
    one-sound number_in Number _ _ number-spells (λ number. one-sound name_in Named _ _ name-spells (λ name. fixed-sound (codes "args") _ _ (one-sound number_in Number _ _ number-spells (λ args.
    fixed-sound (codes "result") _ _ (one-sound kind_in (λ kind. Fixed (kind_word kind)) _ _ kind-spells (λ result.
    kept-sound (nat_le args 16) (TaintedFunction (record { number = number; name = name; args = args; result = result })) _ (λ t. refl) (λ t. at-most args 16 t)))))))

callback-sound : Sound (Fixed (codes "callback") ∷ []) (line_with firsts.Callback)
callback-sound =
    one-sound number_in Number _ _ number-spells (λ number. fixed-sound (codes "fun") _ _ (one-sound number_in Number _ _ number-spells (λ fun. fixed-sound (codes "args") _ _ (one-sound number_in Number _ _ number-spells (λ args.
    fixed-sound (codes "result") _ _ (one-sound kind_in (λ kind. Fixed (kind_word kind)) _ _ kind-spells (λ result.
    kept-sound (nat_le args 16) (Entry number fun args result) _ (λ t. refl) (λ t. at-most args 16 t))))))))

function-sound : Sound (Fixed (codes "fun") ∷ []) (line_with firsts.Function)
function-sound =
    one-sound number_in Number _ _ number-spells (λ number. one-sound name_in Named _ _ name-spells (λ name. fixed-sound (codes "args") _ _ (one-sound number_in Number _ _ number-spells (λ args.
    fixed-sound (codes "slots") _ _ (one-sound number_in Number _ _ number-spells (λ slots. fixed-sound (codes "stack") _ _ (one-sound number_in Number _ _ number-spells (λ stack.
    fixed-sound (codes "result") _ _ (one-sound kind_in (λ kind. Fixed (kind_word kind)) _ _ kind-spells (λ result.
    kept-sound (nat_le (slots + stack) 4096 && (nat_le args 16 && nat_le args slots)) (Begin number name args slots stack result) _ (λ t. refl) (λ t.
    let a = both (nat_le (slots + stack) 4096) (nat_le args 16 && nat_le args slots) t in
    let b = both (nat_le args 16) (nat_le args slots) a.1 in
    (at-most (slots + stack) 4096 a.0, at-most args 16 b.0, at-most args slots b.1))))))))))))

region-sound : Sound (Fixed (codes "arg") ∷ Fixed (codes "region") ∷ []) region_of
region-sound =
    one-sound number_in Number _ _ number-spells (λ base. one-sound number_or_none_in NumberOrNone _ _ number-or-none-spells (λ low. one-sound (signed_in w64) Signed64 _ _ signed64-spells (λ low_plus.
    one-sound number_or_none_in NumberOrNone _ _ number-or-none-spells (λ high. one-sound (signed_in w64) Signed64 _ _ signed64-spells (λ high_plus. one-sound size_in Size _ _ size-spells (λ size.
    one-sound number_in Number _ _ number-spells (λ more. one-sound place_in At _ _ place-spells (λ place.
    done-sound (Parameter (record { kind = kinds.Pointer; place = place; region = Some (record { base = base; lo_var = low; lo_plus = low_plus; hi_var = high; hi_plus = high_plus; size = size; more = more }) })) _ refl tt))))))))

-- what may be passed, and its word
record IsPassed (word : List ℕ) (kind : WordKind) : Type 0 where
  pub is : kind_word kind ≡ word
  pub limits : IsParameter kind None

passed-kind : (word : List ℕ) (kind : WordKind) → parameter_kind_in word ≡ Some kind → IsPassed word kind
passed-kind word kind h =
    by (bytes_eq (kind_word kinds.Int) word) (bytes_eq (kind_word kinds.Char) word) (bytes_eq (kind_word kinds.Pointer) word) refl refl refl h
  where
    by : (int char pointer : Bool) → bytes_eq (kind_word kinds.Int) word ≡ int → bytes_eq (kind_word kinds.Char) word ≡ char → bytes_eq (kind_word kinds.Pointer) word ≡ pointer
        → cond int (Some kinds.Int) (cond char (Some kinds.Char) (cond pointer (Some kinds.Pointer) None)) ≡ Some kind → IsPassed word kind
    by true char pointer a b c e = let same : kinds.Int ≡ kind = cc in subst (IsPassed word) same (record { is = (bytes_eq-Decides (kind_word kinds.Int) word).0 a; limits = refl })
    by false true pointer a b c e = let same : kinds.Char ≡ kind = cc in subst (IsPassed word) same (record { is = (bytes_eq-Decides (kind_word kinds.Char) word).0 b; limits = refl })
    by false false true a b c e = let same : kinds.Pointer ≡ kind = cc in subst (IsPassed word) same (record { is = (bytes_eq-Decides (kind_word kinds.Pointer) word).0 c; limits = tt })
    by false false false a b c e = cc

parameter-sound : Sound (Fixed (codes "arg") ∷ []) param_of
parameter-sound = record { sound = by }
  where
    plain : (kind : WordKind) → IsParameter kind None → Sound (Fixed (codes "arg") ∷ Fixed (kind_word kind) ∷ []) (one place_in (λ place. done (Parameter (record { kind = kind; place = place; region = None }))))
    plain kind limits = one-sound place_in At _ _ place-spells (λ place. done-sound (Parameter (record { kind = kind; place = place; region = None })) _ refl limits)

    -- a first word, and what is read behind it
    behind-word : (word text : List ℕ) (words : List (List ℕ)) (line : Line) → text ≡ word → Reads (Fixed (codes "arg") ∷ Fixed text ∷ []) words line → Reads (Fixed (codes "arg") ∷ []) (word ∷ words) line
    behind-word word text words line e r =
        record { later = Fixed text ∷ r.later; all = r.all; spelled = ap (λ (w : List ℕ). w ∷ map word_of r.later) e ∙ ap (λ (l : List (List ℕ)). word ∷ l) r.spelled; fit = All-cons Fits (Fixed text) r.later tt r.fit; limits = r.limits }

    is : (word : List ℕ) (words : List (List ℕ)) (line : Line) (t : Bool) → bytes_eq word (codes "region") ≡ t
        → cond t (region_of words) (option_and_then (λ kind. one place_in (λ place. done (Parameter (record { kind = kind; place = place; region = None }))) words) (parameter_kind_in word)) ≡ Some line
        → Reads (Fixed (codes "arg") ∷ []) (word ∷ words) line
    is word words line true e h = behind-word word (codes "region") words line (sym ((bytes_eq-Decides word (codes "region")).0 e)) (region-sound.sound words line h)
    is word words line false e h =
        let b = behind (parameter_kind_in word) (λ kind. one place_in (λ place. done (Parameter (record { kind = kind; place = place; region = None }))) words) line h in
        let p = passed-kind word b.a b.was in
        behind-word word (kind_word b.a) words line p.is ((plain b.a p.limits).sound words line b.is)

    by : (words : List (List ℕ)) (line : Line) → param_of words ≡ Some line → Reads (Fixed (codes "arg") ∷ []) words line
    by [] line h = cc
    by (word ∷ words) line h = is word words line (bytes_eq word (codes "region")) refl h

head-sound : (head : Head) → Sound (Fixed (head_word head) ∷ []) (line_with head)
head-sound firsts.Heading = fixed-sound (codes "listing") _ _ (fixed-sound (codes "1") _ _ (done-sound Heading _ refl tt))
head-sound firsts.Trusted = done-sound TrustedSide _ refl tt
head-sound firsts.Block = block-sound
head-sound firsts.Import = import-sound
head-sound firsts.Callback = callback-sound
head-sound firsts.Parameter = parameter-sound
head-sound firsts.Function = function-sound
head-sound firsts.End = done-sound End _ refl tt
head-sound firsts.Main = one-sound number_in Number _ _ number-spells (λ number. done-sound (Main number) _ refl tt)
head-sound firsts.Sandbox = done-sound SandboxSide _ refl tt
head-sound firsts.Close = done-sound Close _ refl tt

-- ---- lines

-- a text that is read as a line is its text, and the line may stand in a listing
pub record IsLine (text : List ℕ) (line : Line) : Type 0 where
  pub is : line_text line ≡ text
  pub allowed : IsAllowed line

whole : (word : List ℕ) (words : List (List ℕ)) (line : Line) → Reads (Fixed word ∷ []) words line → IsLine (join_with_byte 32 (word ∷ words)) line
whole word words line r =
    record {
      is = ap (λ (fs : List Field). join_with_byte 32 (map word_of fs)) r.all ∙ ap (λ (l : List (List ℕ)). join_with_byte 32 (word ∷ l)) r.spelled;
      allowed = record { words = subst (All Fits) (sym r.all) (All-cons Fits (Fixed word) r.later tt r.fit); limits = r.limits };
    }

words-read : (words : List (List ℕ)) (line : Line) → line_of_words words ≡ Some line → IsLine (join_with_byte 32 words) line
words-read [] line h = cc
words-read (word ∷ words) line h = by (head_of word) refl h
  where
    by : (head : Option Head) → head_of word ≡ head → line_by head word words ≡ Some line → IsLine (join_with_byte 32 (word ∷ words)) line
    by None e f = whole word words line ((instruction-sound word).sound words line f)
    by (Some head) e f =
        let is = find-keeps (λ head. bytes_eq (head_word head) word) (λ head. head_word head ≡ word) heads head (λ head t. (bytes_eq-Decides (head_word head) word).0 t) e in
        whole word words line (subst (λ (w : List ℕ). Reads (Fixed w ∷ []) words line) is ((head-sound head).sound words line f))

-- what is read as a line is its text
pub line-read : (text : List ℕ) (line : Line) → line_of text ≡ Some line → IsLine text line
line-read text line h = subst (λ (t : List ℕ). IsLine t line) (join_with_byte-slice_split 32 text) (words-read (slice_split (λ b. b == 32) text) line h)
