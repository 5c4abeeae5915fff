-- A text has a verdict.
use Rattle.std.proofs.Common.{◌≡◌, ◌≢◌, ℕ, suc, ◌==◌, Bool, true, false, List, [], ◌∷◌, ◌++◌, length, map, Option, Some, None, refl, sym, ap, ◌∙◌, subst, append_assoc, append-nil}
use Rattle.std.specs.Prelude.{All, cond, ◌&&◌}
use Rattle.std.proofs.lemmas.List.{map-append}
use Rattle.std.proofs.lemmas.List.Elements.{All-nil, All-cons, All-append, All-head, All-tail}
use Rattle.std.proofs.lemmas.Bool.Decides.{Decides-eqb}
use Rattle.code_words_listing.specs.Lines.{Line, line_text, IsAllowed}
use Rattle.code_words_listing.specs.Listings.{text_of}
use Rattle.code_words_listing.specs.ReadLines.{line_of}
use Rattle.code_words_listing.specs.Steps.{is_empty, State, Start, Headed, InTrusted, InCallback, InFunction, InSandbox, InBody, Closed, step, steps, lines_to}
use Rattle.code_words_listing.specs.Refused.{Parts, onto_line, parts_of, Front, is_closed, onto_front, no_front, front_behind, front_by, front_of, refused_in}
use Rattle.code_words_listing.specs.Verdicts.{BeginListing, AreListing, GoesWrong, Format, Whole, AtLine, AtEnd, Verdict, unless}
use Rattle.code_words_listing.proofs.OneVerdict.{allowed}
use Rattle.code_words_listing.proofs.Texts.{line-back}
use Rattle.code_words_listing.proofs.Steps.{Kept, step-leads, begins, closed-listing}
use Rattle.code_words_listing.proofs.Accepted.{steps-image, steps-append}
use Rattle.code_words_listing.proofs.LinesRead.{line-read}

-- ---- the lines of a text

-- a text is cut into these parts
pub record IsCut (text : List ℕ) (parts : Parts) : Type 0 where
  pub cut : text ≡ text_of parts.lines ++ parts.rest
  pub no_feeds : All (All (λ b. b ≢ 10)) parts.lines
  pub no_feed : All (λ b. b ≢ 10) parts.rest

-- with one more byte before them, which is no line feed
one-byte : (b : ℕ) (text : List ℕ) → b ≢ 10 → (lines : List (List ℕ)) (rest : List ℕ) → text ≡ text_of lines ++ rest → All (All (λ b. b ≢ 10)) lines → All (λ b. b ≢ 10) rest → IsCut (b ∷ text) (onto_line b lines rest)
one-byte b text other [] rest e f g = record { cut = ap (λ t. b ∷ t) e; no_feeds = f; no_feed = All-cons (λ b. b ≢ 10) b rest other g }
one-byte b text other (line ∷ lines) rest e f g =
    record {
      cut = ap (λ t. b ∷ t) e;
      no_feeds =
          All-cons (All (λ b. b ≢ 10)) (b ∷ line) lines (All-cons (λ b. b ≢ 10) b line other (All-head (All (λ b. b ≢ 10)) line lines f)) (All-tail (All (λ b. b ≢ 10)) line lines f);
      no_feed = g;
    }

with-byte : (b : ℕ) (text : List ℕ) (parts : Parts) (t : Bool) → (b == 10) ≡ t → IsCut text parts
    → IsCut (b ∷ text) (cond t (record { lines = [] ∷ parts.lines; rest = parts.rest }) (onto_line b parts.lines parts.rest))
with-byte b text parts true e c =
    record {
      cut = ap (λ h. h ∷ text) ((Decides-eqb b 10).0 e) ∙ ap (λ t. 10 ∷ t) c.cut;
      no_feeds = All-cons (All (λ b. b ≢ 10)) [] parts.lines (All-nil (λ b. b ≢ 10)) c.no_feeds;
      no_feed = c.no_feed;
    }
with-byte b text parts false e c = one-byte b text (λ is. let t : (b == 10) ≡ true = (Decides-eqb b 10).1 is in cc) parts.lines parts.rest c.cut c.no_feeds c.no_feed

pub cut-text : (text : List ℕ) → IsCut text (parts_of text)
cut-text [] = record { cut = refl; no_feeds = All-nil (All (λ b. b ≢ 10)); no_feed = All-nil (λ b. b ≢ 10) }
cut-text (b ∷ text) = with-byte b text (parts_of text) (b == 10) refl (cut-text text)

-- ---- the format

-- these lines lead to this state
pub record LeadTo (front : List Line) (state : State) : Type 0 where
  pub steps : steps Start front ≡ Some state
  pub lines : lines_to state ≡ front
  pub kept : Kept state
  pub allowed : All IsAllowed front

pub nothing-leads : LeadTo [] Start
nothing-leads = record { steps = refl; lines = refl; kept = tt; allowed = All-nil IsAllowed }

pub lead-on : (front : List Line) (state next : State) (line : Line) → LeadTo front state → IsAllowed line → step state line ≡ Some next → LeadTo (front ++ line ∷ []) next
lead-on front state next line l a h =
    let leads = step-leads state next line l.kept a h in
    record {
      steps = rw (steps-append Start front (line ∷ []), l.steps, h) refl;
      lines = leads.lines ∙ ap (λ (f : List Line). f ++ line ∷ []) l.lines;
      kept = leads.kept;
      allowed = All-append IsAllowed front (line ∷ []) l.allowed (All-cons IsAllowed line [] a (All-nil IsAllowed));
    }

pub lead-begins : (front : List Line) (state : State) → LeadTo front state → BeginListing front
lead-begins front state l = subst BeginListing l.lines (begins state l.kept (subst (All IsAllowed) (sym l.lines) l.allowed))

-- no step follows these lines by this one, so no listing begins with them
pub stuck : (front : List Line) (state : State) (line : Line) → LeadTo front state → step state line ≡ None → BeginListing (front ++ line ∷ []) → ⊥
stuck front state line l none b =
    let all : steps Start ((front ++ line ∷ []) ++ b.later) ≡ Some (Closed b.image) = ap (steps Start) (sym b.all) ∙ steps-image b.image b.kept in
    let nothing : steps Start ((front ++ line ∷ []) ++ b.later) ≡ None = rw (append_assoc front (line ∷ []) b.later, steps-append Start front (line ∷ b.later), l.steps, none) refl in
    let same : None ≡ Some (Closed b.image) = sym nothing ∙ all in
    cc

-- a listing leads to the end
pub ended : (front : List Line) (state : State) (l : LeadTo front state) (a : AreListing front) → state ≡ Closed a.image
ended front state l a =
    let all : Some state ≡ Some (Closed a.image) = sym l.steps ∙ ap (steps Start) (sym a.all) ∙ steps-image a.image a.kept in
    cc

pub all-back : {X : Type 0} (P : X → Type 0) (xs ys : List X) → All P (xs ++ ys) → All P ys
all-back P [] ys h = h
all-back P (x ∷ xs) ys h = all-back P xs ys (All-tail P x (xs ++ ys) h)

no-line : (front : List Line) (text : List ℕ) → line_of text ≡ None → GoesWrong front text
no-line front text none line is b =
    let a = All-head IsAllowed line [] (all-back IsAllowed front (line ∷ []) (allowed (front ++ line ∷ []) b)) in
    let some : line_of text ≡ Some line = ap line_of (sym is) ∙ line-back line a in
    cc

other-line : (front : List Line) (state : State) (text : List ℕ) (read : Line) → LeadTo front state → line_of text ≡ Some read → step state read ≡ None → GoesWrong front text
other-line front state text read l some none line is b =
    let a = All-head IsAllowed line [] (all-back IsAllowed front (line ∷ []) (allowed (front ++ line ∷ []) b)) in
    let both : Some read ≡ Some line = sym some ∙ ap line_of (sym is) ∙ line-back line a in
    let same : read ≡ line = cc in
    stuck front state line l (ap (step state) (sym same) ∙ none) b

-- what the format says of lines behind a front that goes on so
pub record Formatted (lines : List (List ℕ)) (rest : List ℕ) (front : List Line) (later : Front) : Type 0 where
  pub format : Format lines rest (front ++ later.lines) (unless later.whole (suc (length (front ++ later.lines))))

no-more : (lines : List (List ℕ)) (rest : List ℕ) (front : List Line) (whole : Bool) → Format lines rest front (unless whole (suc (length front))) → Formatted lines rest front (record { lines = []; whole = whole })
no-more lines rest front whole f = record { format = subst (λ (l : List Line). Format lines rest l (unless whole (suc (length l)))) (sym (append-nil front)) f }

one-more : (lines : List (List ℕ)) (rest : List ℕ) (front : List Line) (line : Line) (later : Front) → Formatted lines rest (front ++ line ∷ []) later → Formatted lines rest front (onto_front line later)
one-more lines rest front line later f =
    record { format = subst (λ (l : List Line). Format lines rest l (unless later.whole (suc (length l)))) (append_assoc front (line ∷ []) later.lines) f.format }

unfinished : (front : List Line) (state : State) (rest : List ℕ) → LeadTo front state → (rest ≡ [] → AreListing front → ⊥) → Formatted (map line_text front) rest front no_front
unfinished front state rest l never = no-more (map line_text front) rest front false (AtEnd front rest (lead-begins front state l) never)

not-closed : (front : List Line) (state : State) → LeadTo front state → is_closed state ≡ false → AreListing front → ⊥
not-closed front state l open-yet a = let e : is_closed state ≡ true = ap is_closed (ended front state l a) in cc

at-end : (front : List Line) (state : State) (rest : List ℕ) → LeadTo front state → Formatted (map line_text front) rest front (record { lines = []; whole = is_closed state && is_empty rest })
at-end front Start rest l = unfinished front Start rest l (λ _ a. not-closed front Start l refl a)
at-end front Headed rest l = unfinished front Headed rest l (λ _ a. not-closed front Headed l refl a)
at-end front (InTrusted image) rest l = unfinished front (InTrusted image) rest l (λ _ a. not-closed front (InTrusted image) l refl a)
at-end front (InCallback image c left) rest l = unfinished front (InCallback image c left) rest l (λ _ a. not-closed front (InCallback image c left) l refl a)
at-end front (InFunction image f) rest l = unfinished front (InFunction image f) rest l (λ _ a. not-closed front (InFunction image f) l refl a)
at-end front (InSandbox image) rest l = unfinished front (InSandbox image) rest l (λ _ a. not-closed front (InSandbox image) l refl a)
at-end front (InBody image f) rest l = unfinished front (InBody image f) rest l (λ _ a. not-closed front (InBody image f) l refl a)
at-end front (Closed image) [] l =
    no-more (map line_text front) [] front true (Whole front (subst AreListing l.lines (closed-listing image l.kept (subst (All IsAllowed) (sym l.lines) l.allowed))))
at-end front (Closed image) (b ∷ rest) l = unfinished front (Closed image) (b ∷ rest) l (λ e _. cc)

pub formatted : (lines : List (List ℕ)) (rest : List ℕ) (front : List Line) (state : State) → LeadTo front state → Formatted (map line_text front ++ lines) rest front (front_of state lines rest)
formatted [] rest front state l = subst (λ (ls : List (List ℕ)). Formatted ls rest front (front_of state [] rest)) (sym (append-nil (map line_text front))) (at-end front state rest l)
formatted (text ∷ lines) rest front state l = by (line_of text) refl (λ front next l. formatted lines rest front next l)
  where
    all : List (List ℕ)
    all = map line_text front ++ text ∷ lines

    wrong : GoesWrong front text → Formatted all rest front no_front
    wrong g = no-more all rest front false (AtLine front text lines rest (lead-begins front state l) g)

    on : (later : State → Front) (read : Line) (found : Option State) → line_of text ≡ Some read → step state read ≡ found
        → ((front : List Line) (next : State) → LeadTo front next → Formatted (map line_text front ++ lines) rest front (later next))
        → Formatted all rest front (front_behind read found later)
    on later read None e f behind = wrong (other-line front state text read l e f)
    on later read (Some next) e f behind =
        let is = line-read text read e in
        let same : map line_text (front ++ read ∷ []) ++ lines ≡ map line_text front ++ text ∷ lines =
        ap (λ (ls : List (List ℕ)). ls ++ lines) (map-append line_text front (read ∷ []))
        ∙ append_assoc (map line_text front) (line_text read ∷ []) lines
        ∙ ap (λ (t : List ℕ). map line_text front ++ t ∷ lines) is.is in
        one-more all rest front read (later next)
        (subst (λ (ls : List (List ℕ)). Formatted ls rest (front ++ read ∷ []) (later next)) same (behind (front ++ read ∷ []) next (lead-on front state next read l is.allowed f)))

    by : (read : Option Line) → line_of text ≡ read → ((front : List Line) (next : State) → LeadTo front next → Formatted (map line_text front ++ lines) rest front (front_of next lines rest))
        → Formatted all rest front (front_by state read (λ next. front_of next lines rest))
    by None e behind = wrong (no-line front text e)
    by (Some read) e behind = on (λ next. front_of next lines rest) read (step state read) e refl behind

-- what reading finds is the verdict
pub some-verdict : (text : List ℕ) → Verdict text (refused_in text)
some-verdict text =
    let parts = parts_of text in
    let c = cut-text text in
    let front = front_of Start parts.lines parts.rest in
    let f = formatted parts.lines parts.rest [] Start nothing-leads in
    record {
      lines = parts.lines;
      rest = parts.rest;
      front = front.lines;
      at = unless front.whole (suc (length front.lines));
      cut = c.cut;
      no_feeds = c.no_feeds;
      no_feed = c.no_feed;
      format = f.format;
      first = refl;
    }
