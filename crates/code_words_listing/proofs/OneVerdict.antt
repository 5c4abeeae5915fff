-- A text has one verdict at most.
use Rattle.std.proofs.Common.{◌≡◌, ◌≢◌, ℕ, suc, ◌==◌, true, false, List, [], ◌∷◌, ◌++◌, length, map, Option, Some, None, ◌⊎◌, inl, inr, refl, sym, ap, ◌∙◌, append_assoc, append-nil, subst, Bool}
use Rattle.std.specs.Prelude.{All}
use Rattle.std.specs.List.{slice_split}
use Rattle.std.proofs.lemmas.List.Elements.{All-nil, All-cons, All-head, All-tail, All-weaker}
use Rattle.std.proofs.lemmas.List.Splits.{slice_split_at, slice_split_none}
use Rattle.std.proofs.lemmas.Bool.Decides.{Decides-eqb}
use Rattle.code_words_listing.specs.Lines.{Line, line_text, IsAllowed}
use Rattle.code_words_listing.specs.Listings.{text_of}
use Rattle.code_words_listing.specs.Verdicts.{BeginListing, AreListing, Format, Whole, AtLine, AtEnd, Verdict, first_of, off_pace}
use Rattle.code_words_listing.proofs.Texts.{line-injective}

pub all-front : {X : Type 0} (P : X → Type 0) (xs ys : List X) → All P (xs ++ ys) → All P xs
all-front P [] ys h = All-nil P
all-front P (x ∷ xs) ys h = All-cons P x xs (All-head P x (xs ++ ys) h) (all-front P xs ys (All-tail P x (xs ++ ys) h))

pub allowed : (front : List Line) → BeginListing front → All IsAllowed front
allowed front b = all-front IsAllowed front b.later (subst (All IsAllowed) b.all b.kept.lines)

pub shorter : (front more : List Line) → BeginListing (front ++ more) → BeginListing front
shorter front more b = record { image = b.image; later = more ++ b.later; kept = b.kept; all = b.all ∙ append_assoc front more b.later }

-- two fronts of the same lines: they are the same, or one goes on where the other ends
data Compared (one other : List Line) (left behind : List (List ℕ)) : Type 0 where
  Same : one ≡ other → left ≡ behind → Compared one other left behind
  OtherLonger : (l : Line) (more : List Line) (texts : List (List ℕ)) → other ≡ one ++ l ∷ more → left ≡ line_text l ∷ texts → Compared one other left behind
  OneLonger : (l : Line) (more : List Line) (texts : List (List ℕ)) → one ≡ other ++ l ∷ more → behind ≡ line_text l ∷ texts → Compared one other left behind

wider : (a b : Line) (one other : List Line) (left behind : List (List ℕ)) → a ≡ b → Compared one other left behind → Compared (a ∷ one) (b ∷ other) left behind
wider a b one other left behind e (Same f g) = Same (ap (λ x. x ∷ one) e ∙ ap (λ l. b ∷ l) f) g
wider a b one other left behind e (OtherLonger l more texts f g) = OtherLonger l more texts (ap (λ x. x ∷ other) (sym e) ∙ ap (λ r. a ∷ r) f) g
wider a b one other left behind e (OneLonger l more texts f g) = OneLonger l more texts (ap (λ x. x ∷ one) e ∙ ap (λ r. b ∷ r) f) g

compared : (one other : List Line) (left behind : List (List ℕ)) → All IsAllowed one → All IsAllowed other → map line_text one ++ left ≡ map line_text other ++ behind → Compared one other left behind
compared [] [] left behind f g e = Same refl e
compared [] (l ∷ other) left behind f g e = OtherLonger l other (map line_text other ++ behind) refl e
compared (l ∷ one) [] left behind f g e = OneLonger l one (map line_text one ++ left) refl (sym e)
compared (a ∷ one) (b ∷ other) left behind f g e =
    let heads : line_text a ≡ line_text b = cc in
    let tails : map line_text one ++ left ≡ map line_text other ++ behind = cc in
    wider a b one other left behind (line-injective a b (All-head IsAllowed a one f) (All-head IsAllowed b other g) heads)
    (compared one other left behind (All-tail IsAllowed a one f) (All-tail IsAllowed b other g) tails)

-- what each case of the format says of the lines behind the front
pub record Ends (lines : List (List ℕ)) (rest : List ℕ) (front : List Line) (at : Option ℕ) : Type 0 where
  pub left : List (List ℕ)
  pub parts : lines ≡ map line_text front ++ left
  pub begins : BeginListing front
  pub stuck : (l : Line) (texts : List (List ℕ)) → left ≡ line_text l ∷ texts → BeginListing (front ++ l ∷ []) → ⊥
  pub answer : ((at ≡ None) × (left ≡ []) × (rest ≡ []) × AreListing front) ⊎ ((at ≡ Some (suc (length front))) × (left ≡ [] → rest ≡ [] → AreListing front → ⊥))

pub ends : (lines : List (List ℕ)) (rest : List ℕ) (front : List Line) (at : Option ℕ) → Format lines rest front at → Ends lines rest front at
ends _ _ _ _ (Whole front l) =
    record {
      left = [];
      parts = sym (append-nil (map line_text front));
      begins = record { image = l.image; later = []; kept = l.kept; all = l.all ∙ sym (append-nil front) };
      stuck = λ line texts e b. cc;
      answer = inl (refl, refl, refl, l);
    }
ends _ _ _ _ (AtLine front line later rest b wrong) =
    record { left = line ∷ later; parts = refl; begins = b; stuck = λ l texts e. wrong l cc; answer = inr (refl, λ e _ _. cc) }
ends _ _ _ _ (AtEnd front rest b wrong) =
    record { left = []; parts = sym (append-nil (map line_text front)); begins = b; stuck = λ line texts e b. cc; answer = inr (refl, λ _ e l. wrong e l) }

-- the front and the line that the format refuses are determined
record Agree (one other : List Line) (at also : Option ℕ) : Type 0 where
  pub fronts : one ≡ other
  pub answers : at ≡ also

answers-agree : (one other : List Line) (left behind : List (List ℕ)) (rest : List ℕ) (at also : Option ℕ) → one ≡ other → left ≡ behind
    → ((at ≡ None) × (left ≡ []) × (rest ≡ []) × AreListing one) ⊎ ((at ≡ Some (suc (length one))) × (left ≡ [] → rest ≡ [] → AreListing one → ⊥))
    → ((also ≡ None) × (behind ≡ []) × (rest ≡ []) × AreListing other) ⊎ ((also ≡ Some (suc (length other))) × (behind ≡ [] → rest ≡ [] → AreListing other → ⊥)) → at ≡ also
answers-agree one other left behind rest at also f g (inl a) (inl b) = a.0 ∙ sym b.0
answers-agree one other left behind rest at also f g (inr a) (inr b) = a.0 ∙ ap (λ l. Some (suc (length l))) f ∙ sym b.0
answers-agree one other left behind rest at also f g (inl a) (inr b) = absurd (b.1 (sym g ∙ a.1) a.2 (subst AreListing f a.3))
answers-agree one other left behind rest at also f g (inr a) (inl b) = absurd (a.1 (g ∙ b.1) b.2 (subst AreListing (sym f) b.3))

one-more : (front other more : List Line) (l : Line) → other ≡ front ++ l ∷ more → BeginListing other → BeginListing (front ++ l ∷ [])
one-more front other more l e b = shorter (front ++ l ∷ []) more (subst BeginListing (e ∙ sym (append_assoc front (l ∷ []) more)) b)

formats-agree : (lines : List (List ℕ)) (rest : List ℕ) (one other : List Line) (at also : Option ℕ) → Ends lines rest one at → Ends lines rest other also → Agree one other at also
formats-agree lines rest one other at also a b =
    by (compared one other a.left b.left (allowed one a.begins) (allowed other b.begins) (sym a.parts ∙ b.parts))
  where
    by : Compared one other a.left b.left → Agree one other at also
    by (Same f g) = record { fronts = f; answers = answers-agree one other a.left b.left rest at also f g a.answer b.answer }
    by (OtherLonger l more texts f g) = absurd (a.stuck l texts g (one-more one other more l f b.begins))
    by (OneLonger l more texts f g) = absurd (b.stuck l texts g (one-more other one more l f a.begins))

-- ---- the text

no-feed : (line : List ℕ) → All (λ b. b ≢ 10) line → All (λ b. (b == 10) ≡ false) line
no-feed line h = All-weaker (λ b. b ≢ 10) (λ b. (b == 10) ≡ false) (λ b other. unequal b (b == 10) refl other) line h
  where
    unequal : (b : ℕ) (t : Bool) → (b == 10) ≡ t → b ≢ 10 → t ≡ false
    unequal b true e other = absurd (other ((Decides-eqb b 10).0 e))
    unequal b false e other = refl

cut : (lines : List (List ℕ)) (rest : List ℕ) → All (All (λ b. b ≢ 10)) lines → All (λ b. b ≢ 10) rest → slice_split (λ b. b == 10) (text_of lines ++ rest) ≡ lines ++ rest ∷ []
cut [] rest f g = slice_split_none (λ b. b == 10) rest (no-feed rest g)
cut (line ∷ lines) rest f g =
    rw (
      append_assoc (line ++ 10 ∷ []) (text_of lines) rest,
      append_assoc line (10 ∷ []) (text_of lines ++ rest),
      slice_split_at (λ b. b == 10) line 10 (text_of lines ++ rest) (no-feed line (All-head (All (λ b. b ≢ 10)) line lines f)) refl,
    )
    (ap (λ parts. line ∷ parts) (cut lines rest (All-tail (All (λ b. b ≢ 10)) line lines f) g))

same-lines : (ones others : List (List ℕ)) (rest left : List ℕ) → ones ++ rest ∷ [] ≡ others ++ left ∷ [] → (ones ≡ others) × (rest ≡ left)
same-lines [] [] rest left e = (refl, cc)
same-lines [] (b ∷ []) rest left e = cc
same-lines [] (b ∷ c ∷ others) rest left e = cc
same-lines (a ∷ []) [] rest left e = cc
same-lines (a ∷ c ∷ ones) [] rest left e = cc
same-lines (a ∷ ones) (b ∷ others) rest left e =
    let heads : a ≡ b = cc in
    let tails : ones ++ rest ∷ [] ≡ others ++ left ∷ [] = cc in
    let later = same-lines ones others rest left tails in
    (ap (λ x. x ∷ ones) heads ∙ ap (λ l. b ∷ l) later.0, later.1)

-- a text has one verdict at most
pub one-verdict : (text : List ℕ) (refused also : Option ℕ) → Verdict text refused → Verdict text also → refused ≡ also
one-verdict text refused also v w =
    let parts = same-lines v.lines w.lines v.rest w.rest (sym (cut v.lines v.rest v.no_feeds v.no_feed) ∙ ap (slice_split (λ b. b == 10)) (sym v.cut ∙ w.cut) ∙ cut w.lines w.rest w.no_feeds w.no_feed) in
    let format : Format w.lines w.rest v.front v.at = subst (λ rest. Format w.lines rest v.front v.at) parts.1 (subst (λ lines. Format lines v.rest v.front v.at) parts.0 v.format) in
    let agree = formats-agree w.lines w.rest v.front w.front v.at w.at (ends w.lines w.rest v.front v.at format) (ends w.lines w.rest w.front w.at w.format) in
    v.first ∙ ap (λ front. first_of (off_pace 1 front) v.at) agree.fronts ∙ ap (λ at. first_of (off_pace 1 w.front) at) agree.answers ∙ sym w.first
