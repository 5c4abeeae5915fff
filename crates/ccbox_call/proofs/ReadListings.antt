-- The bytes of a listing spell one image, or one line of them is refused.
use Rattle.std.proofs.Common.{◌≡◌, ℕ, ◌^◌, ◌<◌, ◌≤◌, inl, inr, nat_lt, Bool, true, false, List, length, take, drop, Option, Some, None, refl, sym, ap, ◌∙◌, subst, arith}
use Rattle.std.specs.Prelude.{Result, Ok, Err, IfOk, IfErr, IsTrue}
use Rattle.std.proofs.lemmas.Bool.{ltb-true, ltb-false}
use Rattle.std.proofs.lemmas.List.{take-append-drop, take-append-le, take_all, length-take}
use Rattle.ckc_text.specs.Places.{line_behind}
use Rattle.code_words.specs.Images.{Image}
use Rattle.code_words.specs.Paced.{is_paced}
use Rattle.code_words_listing.specs.Listings.{listing, InFormat}
use Rattle.code_words_listing.specs.Refusals.{AtLine}
use Rattle.code_words_listing.specs.declared.read_listing.ListRefused.{ListRefused}
use Rattle.code_words_listing.specs.declared.read_listing.ListRefused.TheVariants as refusals
use Rattle.code_words_listing.specs.Refused.{refused_in}
use Rattle.code_words_listing.specs.Verdicts.{Verdict}
use Rattle.code_words_listing.proofs.ImagesBack.{listing-injective}
use Rattle.code_words_listing.proofs.OneVerdict.{one-verdict}
use Rattle.code_words_listing.proofs.PacedLines.{Stands, stands, listing-stands}
use Rattle.code_words_listing.proofs.SomeVerdict.{some-verdict}
use Rattle.ccbox_call.specs.Calls.{ImageOrLine}
use Rattle.ccbox_call.specs.ReadListings.{most_listing, front_of, Spells, IsRefusedAt, by_line, too_long, ImageOrRefusal}

-- all of a text that isn't too long may be a listing
pub whole_front : (text : List ℕ) → length text ≤ most_listing → front_of text ≡ text
whole_front text short = take_all most_listing text (omega (arith, short))

-- ---- one image, or one line

pub one_image : (listed : List ℕ) (one other : Image) → Spells listed one → Spells listed other → one ≡ other
one_image listed one other a b = listing-injective one other a.in_format b.in_format (a.is ∙ sym b.is)

-- of the listing of an image no line is refused
stands_whole : (listed : List ℕ) (image : Image) → Spells listed image → Verdict (front_of listed) None
stands_whole listed image a = subst (λ (text : List ℕ). Verdict text None) (a.is ∙ sym (whole_front listed a.short)) (listing-stands image a.in_format a.paced)

none_or_some : (text : List ℕ) (number : ℕ) → Verdict text None → Verdict text (Some number) → ⊥
none_or_some text number a b = let wrong : None ≡ Some number = one-verdict text None (Some number) a b in cc

pub image_or_line : (listed : List ℕ) (image : Image) (number : ℕ) → Spells listed image → IsRefusedAt listed number → ⊥
image_or_line listed image number a (by_line v) = none_or_some (front_of listed) number (stands_whole listed image a) v
image_or_line listed image number a (too_long long v) = omega (arith, a.short, long)

pub one_line : (listed : List ℕ) (m n : ℕ) → IsRefusedAt listed m → IsRefusedAt listed n → m ≡ n
one_line listed m n (by_line v) (by_line w) = let same : Some m ≡ Some n = one-verdict (front_of listed) (Some m) (Some n) v w in cc
one_line listed m n (by_line v) (too_long long w) = absurd (none_or_some (front_of listed) m w v)
one_line listed m n (too_long long v) (by_line w) = absurd (none_or_some (front_of listed) n v w)
one_line listed m n (too_long long v) (too_long long' w) = refl

-- ---- some image, or some line

-- a text of which no line is refused, as far as a listing may go
by_length : (listed : List ℕ) → Verdict (front_of listed) None → (b : Bool) → nat_lt most_listing (length listed) ≡ b → ImageOrRefusal listed
by_length listed v true long = inr (line_behind (front_of listed), too_long (ltb-true most_listing (length listed) long) v)
by_length listed v false short =
    let le : length listed ≤ most_listing = omega (arith, ltb-false most_listing (length listed) short) in
    let s : Stands listed = stands listed (subst (λ (text : List ℕ). Verdict text None) (whole_front listed le) v) in
    inl (s.image, record { short = le; in_format = s.kept; paced = s.paced; is = sym s.is })

by_verdict : (listed : List ℕ) (refused : Option ℕ) → Verdict (front_of listed) refused → ImageOrRefusal listed
by_verdict listed None v = by_length listed v (nat_lt most_listing (length listed)) refl
by_verdict listed (Some number) v = inr (number, by_line v)

pub some_image_or_line : (listed : List ℕ) → ImageOrRefusal listed
some_image_or_line listed = by_verdict listed (refused_in (front_of listed)) (some-verdict (front_of listed))

-- ---- what was read of a file, up to one byte more than a listing may have

take_again : (m n : ℕ) (xs : List ℕ) → m ≤ n → take m (take n xs) ≡ take m xs
take_again m n xs le = by (nat_lt n (length xs)) refl
  where
    by : (b : Bool) → nat_lt n (length xs) ≡ b → take m (take n xs) ≡ take m xs
    by true long =
        let within : m ≤ length (take n xs) = omega (arith, length-take n xs, ltb-true n (length xs) long, le) in
        sym (take-append-le m (take n xs) (drop n xs) within) ∙ ap (take m) (take-append-drop n xs)
    by false short = ap (take m) (take_all n xs (omega (arith, ltb-false n (length xs) short)))

same_front : (file : List ℕ) → front_of (take 16777217 file) ≡ front_of file
same_front file = take_again 16777216 16777217 file (omega arith)

-- spells the same
pub file_spells : (file : List ℕ) (image : Image) → Spells (take 16777217 file) image → Spells file image
file_spells file image a =
    let short : length file ≤ 16777216 = omega (arith, a.short, length-take 16777217 file) in
    subst (λ text. Spells text image) (take_all 16777217 file (omega (arith, short))) a

-- and is refused at the same line
pub file_refused : (file : List ℕ) (number : ℕ) → IsRefusedAt (take 16777217 file) number → IsRefusedAt file number
file_refused file number (by_line v) = by_line (subst (λ (text : List ℕ). Verdict text (Some number)) (same_front file) v)
file_refused file number (too_long long v) =
    subst (IsRefusedAt file) (ap line_behind (sym (same_front file)))
    (too_long (omega (arith, long, length-take 16777217 file)) (subst (λ (text : List ℕ). Verdict text None) (same_front file) v))

-- ---- reading

-- the text is short enough to be read
pub short_text : (listed : List ℕ) → length listed ≤ 16777216 → length listed < 2 ^ 32
short_text listed le = omega (arith, le)

pub few_bytes : (listed front : List ℕ) → front ≡ front_of listed → length front ≤ 16777216
few_bytes listed front is = omega (arith, ap length is, length-take 16777216 listed)

pub short_front : (listed front : List ℕ) → front ≡ front_of listed → length front < 2 ^ 32
short_front listed front is = short_text front (few_bytes listed front is)

-- what is read of a text that isn't too long
pub whole_read : (listed : List ℕ) → length listed ≤ 16777216 → (r : Result Image ListRefused) → IfOk r (λ image. listing image ≡ listed) → IfOk r InFormat → IfOk r (λ image. IsTrue (is_paced image)) → IfErr r (AtLine (λ at. Verdict listed (Some at))) → ImageOrLine listed r
whole_read listed le (Ok image) is f p refused = record { short = le; in_format = f; paced = p; is = is }
whole_read listed le (Err (refusals.Line number)) is f p v = by_line (subst (λ (text : List ℕ). Verdict text (Some number)) (sym (whole_front listed le)) v)
whole_read listed le (Err refusals.NoMemory) is f p v = tt

-- what is read of one that is too long: the line behind, or one before
pub goes_on : (listed front : List ℕ) → front ≡ front_of listed → 16777216 < length listed → (image : Image) → listing image ≡ front → InFormat image → IsTrue (is_paced image) → (number : ℕ) → number ≡ line_behind front → IsRefusedAt listed number
goes_on listed front is long image lists f p number at =
    let stands_there : Verdict (front_of listed) None = subst (λ (text : List ℕ). Verdict text None) (lists ∙ is) (listing-stands image f p) in
    subst (IsRefusedAt listed) (sym (at ∙ ap line_behind is)) (too_long long stands_there)

pub front_refused : (listed front : List ℕ) → front ≡ front_of listed → (e : ListRefused) → AtLine (λ at. Verdict front (Some at)) e → AtLine (IsRefusedAt listed) e
front_refused listed front is (refusals.Line number) v = by_line (subst (λ (text : List ℕ). Verdict text (Some number)) is v)
front_refused listed front is refusals.NoMemory v = tt
