-- Reading a text line by line finds its image, or the line that is refused.
use Rattle.std.proofs.Common.{◌≡◌, ℕ, suc, ◌+◌, ◌-◌, ◌*◌, ◌<◌, ◌≤◌, ◌==◌, Bool, true, false, List, [], ◌∷◌, ◌++◌, length, take, drop, Some, None, Result, Ok, Err, refl, sym, ap, ◌∙◌, subst, arith, append_assoc, append-nil, length-append}
use Rattle.std.specs.Prelude.{IsTrue, cond, not, nat_lt, position}
use Rattle.std.specs.Result.{IsErrAnd, IfOk, IfErr, MatchResult}
use Rattle.std.specs.List.{position_or_len}
use Rattle.std.proofs.lemmas.List.{take_rest}
use Rattle.std.proofs.lemmas.List.Elements.{All-nil}
use Rattle.std.proofs.lemmas.Bool.Decides.{Decides-eqb, Decides-ltb, nat_tests}
use Rattle.code_words.specs.Images.{Image}
use Rattle.code_words.specs.Paced.{is_paced}
use Rattle.code_words_listing.specs.declared.read_listing.ListRefused.{ListRefused}
use Rattle.code_words_listing.specs.declared.read_listing.ListRefused.TheVariants as refusals
use Rattle.code_words_listing.specs.Lines.{Line, line_text, IsAllowed}
use Rattle.code_words_listing.specs.Listings.{listing, lines_text, InFormat}
use Rattle.code_words_listing.specs.ReadLines.{line_of}
use Rattle.code_words_listing.specs.Steps.{State, Start, Closed, lines_to}
use Rattle.code_words_listing.specs.Reached.{is_instruction, IsReached, IsFirstLine, Follows, refused_from, RefusedBehind}
use Rattle.code_words_listing.specs.Refusals.{AtLine}
use Rattle.code_words_listing.specs.Refused.{Parts, onto_line, parts_of, refused_in}
use Rattle.code_words_listing.specs.Verdicts.{Verdict, off_pace}
use Rattle.code_words_listing.proofs.ImagesBack.{listing-injective}
use Rattle.code_words_listing.proofs.LinesRead.{line-read}
use Rattle.code_words_listing.proofs.OneVerdict.{one-verdict}
use Rattle.code_words_listing.proofs.PacedLines.{lines-paced, listing-stands}
use Rattle.code_words_listing.proofs.Reached.{kept, goes-on, refused-on, breaks-before-line}
use Rattle.code_words_listing.proofs.SomeVerdict.{some-verdict}
use Rattle.code_words_listing.proofs.Steps.{closed-format}
use Rattle.code_words_listing.proofs.Written.{lines_text_append}

-- ---- the first line of a text

-- a text has a line feed at this place, and none before it
abbrev FirstFeed : List ℕ → ℕ → Type 0
FirstFeed text at = IsFirstLine text (take at text) (drop (suc at) text)

first-line : (left : List ℕ) (at : ℕ) → position_or_len (λ b. b == 10) left ≡ at → at < length left → FirstFeed left at
first-line [] at e low = let no : ⊥ = omega (arith, low) in absurd no
first-line (b ∷ left) at e low = by (b == 10) refl e (first-line left (position_or_len (λ b. b == 10) left) refl)
  where
    by : (t : Bool) → (b == 10) ≡ t → cond (not t) (1 + position_or_len (λ b. b == 10) left) 0 ≡ at
        → (position_or_len (λ b. b == 10) left < length left → FirstFeed left (position_or_len (λ b. b == 10) left)) → FirstFeed (b ∷ left) at
    by true t is later = subst (FirstFeed (b ∷ left)) is (record { parts = rw t refl; cut = ap (λ h. h ∷ left) ((Decides-eqb b 10).0 t) })
    by false t is later =
        let k = position_or_len (λ b. b == 10) left in
        let one : suc k ≡ at = omega (arith, is) in
        let first = later (omega (arith, is, low)) in
        subst (FirstFeed (b ∷ left)) one
        (record { parts = rw t (ap (λ (p : Parts). onto_line b p.lines p.rest) first.parts); cut = ap (λ l. b ∷ l) first.cut })

no-feed : (left : List ℕ) → length left ≤ position_or_len (λ b. b == 10) left → parts_of left ≡ record { lines = []; rest = left }
no-feed [] h = refl
no-feed (b ∷ left) h = by (b == 10) refl h (no-feed left)
  where
    by : (t : Bool) → (b == 10) ≡ t → suc (length left) ≤ cond (not t) (1 + position_or_len (λ b. b == 10) left) 0
        → (length left ≤ position_or_len (λ b. b == 10) left → parts_of left ≡ record { lines = []; rest = left }) → parts_of (b ∷ left) ≡ record { lines = []; rest = b ∷ left }
    by true t is later = let no : ⊥ = omega (arith, is) in absurd no
    by false t is later = rw t (ap (λ (p : Parts). onto_line b p.lines p.rest) (later (omega (arith, is))))

found : (left : List ℕ) (at : ℕ) (t : Bool) → nat_lt (position_or_len (λ b. b == 10) left) (length left) ≡ t → cond t (Some (position_or_len (λ b. b == 10) left)) None ≡ Some at → FirstFeed left at
found left at true t h =
    let is : position_or_len (λ b. b == 10) left ≡ at = cc in
    let low = (Decides-ltb (position_or_len (λ b. b == 10) left) (length left)).0 t in
    first-line left at is (omega (arith, is, low))
found left at false t h = cc

pub first-feed : (left : List ℕ) (at : ℕ) → position (λ b. b == 10) left ≡ Some at → IsFirstLine left (take at left) (take (length left - (at + 1)) (drop (at + 1) left))
first-feed left at h =
    let next : suc at ≡ at + 1 = omega arith in
    subst (IsFirstLine left (take at left)) (ap (λ n. drop n left) next ∙ sym (take_rest left (at + 1))) (found left at (nat_lt (position_or_len (λ b. b == 10) left) (length left)) refl h)

missed : (left : List ℕ) (t : Bool) → nat_lt (position_or_len (λ b. b == 10) left) (length left) ≡ t → cond t (Some (position_or_len (λ b. b == 10) left)) None ≡ None
    → length left ≤ position_or_len (λ b. b == 10) left
missed left true t h = cc
missed left false t h = grind (arith, nat_tests, t)

pub last-line : (left : List ℕ) → position (λ b. b == 10) left ≡ None → parts_of left ≡ record { lines = []; rest = left }
last-line left h = no-feed left (missed left (nat_lt (position_or_len (λ b. b == 10) left) (length left)) refl h)

-- ---- the lines that have been read

-- a text as far as it has been read: its lines up to the one with this number lead to the state, and this is left of it
pub record IsRead (text : List ℕ) (state : State) (number : ℕ) (left : List ℕ) : Type 0 where
  pub reached : IsReached state
  pub counted : number ≡ suc (length (lines_to state))
  pub cut : text ≡ lines_text (lines_to state) ++ left
  pub refused : refused_in text ≡ refused_from state (parts_of left).lines (parts_of left).rest
  pub small : 2 * number + length left ≤ 2 + length text

pub nothing-read : (text : List ℕ) → IsRead text Start 1 text
nothing-read text = record { reached = record { steps = refl; allowed = All-nil IsAllowed; paced = refl }; counted = refl; cut = refl; refused = refl; small = omega arith }

some-byte : (text : List ℕ) (line : Line) → line_of text ≡ Some line → 1 ≤ length text
some-byte [] line h = cc
some-byte (b ∷ text) line h = omega arith

pub one-read : (text : List ℕ) (state next : State) (number : ℕ) (left line behind : List ℕ) → IsRead text state number left → IsFirstLine left line behind → Follows state next line
    → IsRead text next (number + 1) behind
one-read text state next number left line behind r first f =
    let g = goes-on state next line f r.reached in
    let is = line-read line f.line f.read in
    let lines : lines_text (lines_to next) ≡ lines_text (lines_to state) ++ (line ++ 10 ∷ []) =
    ap lines_text g.lines
    ∙ lines_text_append (lines_to state) (f.line ∷ [])
    ∙ ap (λ t. lines_text (lines_to state) ++ t) (append-nil (line_text f.line ++ 10 ∷ []) ∙ ap (λ t. t ++ 10 ∷ []) is.is) in
    let sizes : length left ≡ length line + suc (length behind) = ap length first.cut ∙ length-append line (10 ∷ behind) in
    record {
      reached = g.reached;
      counted = omega (arith, r.counted, ap length g.lines, length-append (lines_to state) (f.line ∷ []));
      cut =
          r.cut
          ∙ ap (λ t. lines_text (lines_to state) ++ t) (first.cut ∙ sym (append_assoc line (10 ∷ []) behind))
          ∙ sym (append_assoc (lines_text (lines_to state)) (line ++ 10 ∷ []) behind)
          ∙ ap (λ t. t ++ behind) (sym lines);
      refused =
          r.refused
          ∙ ap (λ (p : Parts). refused_from state p.lines p.rest) first.parts
          ∙ refused-on state next line f r.reached (parts_of behind).lines (parts_of behind).rest;
      small = omega (arith, r.small, sizes, some-byte line f.line f.read);
    }

-- ---- the answer

-- a text is the listing of an image in the format that keeps the pace
pub record IsListing (text : List ℕ) (image : Image) : Type 0 where
  pub is : listing image ≡ text
  pub format : InFormat image
  pub paced : IsTrue (is_paced image)

pub closed : (text : List ℕ) (image : Image) (number : ℕ) → IsRead text (Closed image) number [] → IsListing text image
closed text image number r =
    record {
      is = sym (r.cut ∙ append-nil (listing image));
      format = closed-format image (kept (Closed image) r.reached) r.reached.allowed;
      paced = lines-paced image r.reached.paced;
    }

pub listed : (text : List ℕ) (state : State) (image : Image) (number : ℕ) (left : List ℕ) → IsRead text state number left → state ≡ Closed image → left ≡ [] → IsListing text image
listed text state image number left r s e = closed text image number (subst (λ s. IsRead text s number []) s (subst (IsRead text state number) e r))

-- the line that is found is the one that is refused
verdict : (text : List ℕ) (number : ℕ) → refused_in text ≡ Some number → Verdict text (Some number)
verdict text number e = subst (Verdict text) e (some-verdict text)

pub refused-here : (text : List ℕ) (state : State) (number : ℕ) (left line behind : List ℕ) (e : ListRefused) → IsRead text state number left → IsFirstLine left line behind
    → AtLine (RefusedBehind state line) e → AtLine (λ k. Verdict text (Some k)) e
refused-here text state number left line behind (refusals.Line k) r first h =
    verdict text k (r.refused ∙ ap (λ (p : Parts). refused_from state p.lines p.rest) first.parts ∙ h (parts_of behind).lines (parts_of behind).rest)
refused-here text state number left line behind refusals.NoMemory r first h = tt

pub refused-behind : (text : List ℕ) (state : State) (number : ℕ) (left : List ℕ) (e : ListRefused) → IsRead text state number left → parts_of left ≡ record { lines = []; rest = left }
    → AtLine (λ k. refused_from state [] left ≡ Some k) e → AtLine (λ k. Verdict text (Some k)) e
refused-behind text state number left (refusals.Line k) r last h = verdict text k (r.refused ∙ ap (λ (p : Parts). refused_from state p.lines p.rest) last ∙ h)
refused-behind text state number left refusals.NoMemory r last h = tt

-- the listing of an image is read back, unless memory runs out
same-image : (text : List ℕ) (read image : Image) → IsListing text read → InFormat image → listing image ≡ text → read ≡ image
same-image text read image l f e = listing-injective read image l.format f (l.is ∙ sym e)

memory-alone : (text : List ℕ) (e : ListRefused) (image : Image) → AtLine (λ k. Verdict text (Some k)) e → InFormat image → IsTrue (is_paced image) → listing image ≡ text → e ≡ refusals.NoMemory
memory-alone text (refusals.Line k) image v f paced is =
    let never : Some k ≡ None = one-verdict text (Some k) None v (subst (λ t. Verdict t None) is (listing-stands image f paced)) in
    cc
memory-alone text refusals.NoMemory image v f paced is = refl

-- what is said of the answer
pub record Answers (text : List ℕ) (answer : Result Image ListRefused) : Type 0 where
  pub is : IfOk answer (λ image. listing image ≡ text)
  pub format : IfOk answer InFormat
  pub paced : IfOk answer (λ image. IsTrue (is_paced image))
  pub back : (image : Image) → InFormat image → IsTrue (is_paced image) → listing image ≡ text → MatchResult answer (λ read. read ≡ image) (λ e. e ≡ refusals.NoMemory)
  pub refused : IfErr answer (AtLine (λ at. Verdict text (Some at)))

-- ---- what code is given

-- an error that is passed on
pub passed-on : {T : Type 0} (r : Result T ListRefused) (e : ListRefused) (P : T → Type 0) (Q : ListRefused → Type 0) → IsErrAnd r (λ d. d ≡ e) → Q e → MatchResult r P Q
passed-on (Ok x) e P Q h q = absurd h
passed-on (Err d) e P Q h q = subst Q (sym h) q

pub breaks-at : (state : State) (text : List ℕ) (line : Line) (e : ListRefused) → line_of text ≡ Some line → is_instruction line ≡ false → AtLine (λ at. off_pace 1 (lines_to state) ≡ Some at) e
    → AtLine (RefusedBehind state text) e
breaks-at state text line (refusals.Line k) some other h = breaks-before-line state text line k some other h
breaks-at state text line refusals.NoMemory some other h = tt

pub answers-ok : (text : List ℕ) (image : Image) → IsListing text image → Answers text (Ok image)
answers-ok text image l = record { is = l.is; format = l.format; paced = l.paced; back = λ other f paced is. same-image text image other l f is; refused = tt }

pub answers-err : (text : List ℕ) (e : ListRefused) → AtLine (λ at. Verdict text (Some at)) e → Answers text (Err e)
answers-err text e v = record { is = tt; format = tt; paced = tt; back = λ image f paced is. memory-alone text e image v f paced is; refused = v }

-- behind the last line
pub answers-behind : (text : List ℕ) (state : State) (number : ℕ) (left : List ℕ) (answer : Result Image ListRefused) → IsRead text state number left → parts_of left ≡ record { lines = []; rest = left }
    → MatchResult answer (λ image. (state ≡ Closed image) × (left ≡ [])) (AtLine (λ k. refused_from state [] left ≡ Some k)) → Answers text answer
answers-behind text state number left (Ok image) r last h = answers-ok text image (listed text state image number left r h.0 h.1)
answers-behind text state number left (Err e) r last h = answers-err text e (refused-behind text state number left e r last h)

-- at a line that is refused
pub answers-at : (text : List ℕ) (state : State) (number : ℕ) (left line behind : List ℕ) (e : ListRefused) (answer : Result Image ListRefused) → IsRead text state number left → IsFirstLine left line behind
    → AtLine (RefusedBehind state line) e → IsErrAnd answer (λ d. d ≡ e) → Answers text answer
answers-at text state number left line behind e (Ok image) r first h is = absurd is
answers-at text state number left line behind e (Err d) r first h is = subst (λ d. Answers text (Err d)) (sym is) (answers-err text e (refused-here text state number left line behind e r first h))
