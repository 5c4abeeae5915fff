-- A state that is reached, and what is refused from there on.
use Rattle.std.proofs.Common.{◌≡◌, ℕ, suc, ◌+◌, ◌-◌, ◌<◌, false, List, [], ◌∷◌, ◌++◌, length, map, Option, Some, None, refl, sym, ap, ◌∙◌, subst, arith, append_assoc, append-nil, length-append}
use Rattle.std.specs.Prelude.{All, option_and_then}
use Rattle.std.proofs.lemmas.List.{length-map}
use Rattle.std.proofs.lemmas.List.Elements.{All-head, All-tail}
use Rattle.code_words.specs.declared.op.Op.{Op}
use Rattle.code_words.specs.Functions.{Func}
use Rattle.code_words_listing.specs.Lines.{Line, Heading, TrustedSide, StaticBlock, TaintedFunction, Entry, Parameter, Begin, Instruction, End, Main, SandboxSide, Close, IsAllowed}
use Rattle.code_words_listing.specs.Listings.{trusted_lines, sandbox_lines}
use Rattle.code_words_listing.specs.ReadLines.{line_of}
use Rattle.code_words_listing.specs.Steps.{State, Start, Headed, InTrusted, InCallback, InFunction, InSandbox, InBody, Closed, step, steps, lines_to, begun_lines}
use Rattle.code_words_listing.specs.Reached.{is_instruction, begun_ops, outside, IsReached, EndsOnPace, Follows, refused_with, refused_from, RefusedBehind}
use Rattle.code_words_listing.specs.Refused.{Front, no_front, onto_front, front_of}
use Rattle.code_words_listing.specs.Verdicts.{first_of, unless, instructions, off_pace_in, off_pace}
use Rattle.code_words_listing.proofs.LinesRead.{line-read}
use Rattle.code_words_listing.proofs.Steps.{Bounds, Within, Begun, Past, Leads, Kept, step-leads}
use Rattle.code_words_listing.proofs.SomeVerdict.{LeadTo, lead-on}

-- ---- the pace of lines one behind the other

instructions-front : (front more : List Line) → instructions more ≡ [] → instructions (front ++ more) ≡ instructions front
instructions-front [] more h = h
instructions-front (Heading ∷ front) more h = refl
instructions-front (TrustedSide ∷ front) more h = refl
instructions-front (StaticBlock number bytes ∷ front) more h = refl
instructions-front (TaintedFunction i ∷ front) more h = refl
instructions-front (Entry number fun args result ∷ front) more h = refl
instructions-front (Parameter p ∷ front) more h = refl
instructions-front (Begin number name args slots stack result ∷ front) more h = refl
instructions-front (Instruction op ∷ front) more h = ap (λ ops. op ∷ ops) (instructions-front front more h)
instructions-front (End ∷ front) more h = refl
instructions-front (Main number ∷ front) more h = refl
instructions-front (SandboxSide ∷ front) more h = refl
instructions-front (Close ∷ front) more h = refl

first-of-all : (one other third : Option ℕ) → first_of one (first_of other third) ≡ first_of (first_of one other) third
first-of-all None other third = refl
first-of-all (Some number) other third = refl

first-alone : (one : Option ℕ) → first_of one None ≡ one
first-alone None = refl
first-alone (Some number) = refl

-- the number of the line behind these
later : (number : ℕ) (front more : List Line) → off_pace (suc number) (front ++ more) ≡ first_of (off_pace (suc number) front) (off_pace (suc number + length front) more)
    → off_pace (suc number) (front ++ more) ≡ first_of (off_pace (suc number) front) (off_pace (number + suc (length front)) more)
later number front more e =
    let same : suc number + length front ≡ number + suc (length front) = omega arith in
    e ∙ ap (λ n. first_of (off_pace (suc number) front) (off_pace n more)) same

-- lines that begin with no instruction break the pace by themselves, or those before them do
off-pace-front : (number : ℕ) (front more : List Line) → instructions more ≡ [] → off_pace number (front ++ more) ≡ first_of (off_pace number front) (off_pace (number + length front) more)
off-pace-front number [] more h = ap (λ n. off_pace n more) (omega arith)
off-pace-front number (Heading ∷ front) more h = later number front more (off-pace-front (suc number) front more h)
off-pace-front number (TrustedSide ∷ front) more h = later number front more (off-pace-front (suc number) front more h)
off-pace-front number (StaticBlock k bytes ∷ front) more h = later number front more (off-pace-front (suc number) front more h)
off-pace-front number (TaintedFunction i ∷ front) more h = later number front more (off-pace-front (suc number) front more h)
off-pace-front number (Entry k fun args result ∷ front) more h = later number front more (off-pace-front (suc number) front more h)
off-pace-front number (Parameter p ∷ front) more h = later number front more (off-pace-front (suc number) front more h)
off-pace-front number (Begin k name args slots stack result ∷ front) more h =
    let here : Option ℕ = off_pace_in (suc number) (instructions front) 0 (instructions front) in
    ap (λ (ops : List Op). first_of (off_pace_in (suc number) ops 0 ops) (off_pace (suc number) (front ++ more))) (instructions-front front more h)
    ∙ ap (first_of here) (later number front more (off-pace-front (suc number) front more h))
    ∙ first-of-all here (off_pace (suc number) front) (off_pace (number + suc (length front)) more)
off-pace-front number (Instruction op ∷ front) more h = later number front more (off-pace-front (suc number) front more h)
off-pace-front number (End ∷ front) more h = later number front more (off-pace-front (suc number) front more h)
off-pace-front number (Main k ∷ front) more h = later number front more (off-pace-front (suc number) front more h)
off-pace-front number (SandboxSide ∷ front) more h = later number front more (off-pace-front (suc number) front more h)
off-pace-front number (Close ∷ front) more h = later number front more (off-pace-front (suc number) front more h)

no-instruction : (line : Line) (more : List Line) → is_instruction line ≡ false → instructions (line ∷ more) ≡ []
no-instruction Heading more h = refl
no-instruction TrustedSide more h = refl
no-instruction (StaticBlock number bytes) more h = refl
no-instruction (TaintedFunction i) more h = refl
no-instruction (Entry number fun args result) more h = refl
no-instruction (Parameter p) more h = refl
no-instruction (Begin number name args slots stack result) more h = refl
no-instruction (Instruction op) more h = cc
no-instruction End more h = refl
no-instruction (Main number) more h = refl
no-instruction SandboxSide more h = refl
no-instruction Close more h = refl

one-line : (number : ℕ) (line : Line) → off_pace number (line ∷ []) ≡ None
one-line number Heading = refl
one-line number TrustedSide = refl
one-line number (StaticBlock k bytes) = refl
one-line number (TaintedFunction i) = refl
one-line number (Entry k fun args result) = refl
one-line number (Parameter p) = refl
one-line number (Begin k name args slots stack result) = refl
one-line number (Instruction op) = refl
one-line number End = refl
one-line number (Main k) = refl
one-line number SandboxSide = refl
one-line number Close = refl

all-instructions : (ops : List Op) → instructions (map Instruction ops) ≡ ops
all-instructions [] = refl
all-instructions (op ∷ ops) = ap (λ l. op ∷ l) (all-instructions ops)

no-function : (number : ℕ) (ops : List Op) → off_pace number (map Instruction ops) ≡ None
no-function number [] = refl
no-function number (op ∷ ops) = no-function (suc number) ops

-- where the pace is kept before the function that has begun, the function alone breaks it
begun-pace : (number : ℕ) (front : List Line) (f : Func) → off_pace number front ≡ None
    → off_pace number (front ++ begun_lines f) ≡ off_pace_in (suc (number + length front)) f.ops 0 f.ops
begun-pace number front f h =
    let first = number + length front in
    off-pace-front number front (begun_lines f) refl
    ∙ ap (λ one. first_of one (off_pace first (begun_lines f))) h
    ∙ ap (first_of (off_pace_in (suc first) (instructions (map Instruction f.ops)) 0 (instructions (map Instruction f.ops)))) (no-function (suc first) f.ops)
    ∙ first-alone (off_pace_in (suc first) (instructions (map Instruction f.ops)) 0 (instructions (map Instruction f.ops)))
    ∙ ap (λ (ops : List Op). off_pace_in (suc first) ops 0 ops) (all-instructions f.ops)

-- ---- states

-- what lines lead to keeps what each state does
led : (from to : State) (lines : List Line) → Kept from → All IsAllowed lines → steps from lines ≡ Some to → Kept to
led from to [] k a h = let same : from ≡ to = cc in subst Kept same k
led from to (line ∷ lines) k a h =
    by (step from line) refl h (λ next e g. led next to lines (step-leads from next line k (All-head IsAllowed line lines a) e).kept (All-tail IsAllowed line lines a) g)
  where
    by : (found : Option State) → step from line ≡ found → option_and_then (λ next. steps next lines) found ≡ Some to
        → ((next : State) → step from line ≡ Some next → steps next lines ≡ Some to → Kept to) → Kept to
    by None e g later = cc
    by (Some next) e g later = later next e g

pub kept : (state : State) → IsReached state → Kept state
kept state r = led Start state (lines_to state) tt r.allowed r.steps

pub leads : (state : State) → IsReached state → LeadTo (lines_to state) state
leads state r = record { steps = r.steps; lines = refl; kept = kept state r; allowed = r.allowed }

-- the first line of the function that has begun, and what breaks its pace
pub record OpenPace (state : State) : Type 0 where
  pub first : ℕ
  pub count : first + length (begun_ops state) ≡ suc (length (lines_to state))
  pub is : off_pace 1 (lines_to state) ≡ off_pace_in first (begun_ops state) 0 (begun_ops state)

no-open : (state : State) → begun_ops state ≡ [] → off_pace 1 (lines_to state) ≡ None → OpenPace state
no-open state e h =
    record {
      first = suc (length (lines_to state));
      count = omega (arith, ap length e);
      is = h ∙ ap (λ (ops : List Op). off_pace_in (suc (length (lines_to state))) ops 0 ops) (sym e);
    }

open-function : (front : List Line) (f : Func) (state : State) → begun_ops state ≡ f.ops → lines_to state ≡ front ++ begun_lines f → off_pace 1 front ≡ None → OpenPace state
open-function front f state ops e h =
    record {
      first = suc (1 + length front);
      count = omega (arith, ap length ops, ap length e, length-append front (begun_lines f), length-map f.ops Instruction);
      is =
          ap (off_pace 1) e
          ∙ begun-pace 1 front f h
          ∙ ap (λ (l : List Op). off_pace_in (suc (1 + length front)) l 0 l) (sym ops);
    }

pub open-pace : (state : State) → IsReached state → OpenPace state
open-pace Start r = no-open Start refl r.paced
open-pace Headed r = no-open Headed refl r.paced
open-pace (InTrusted image) r = no-open (InTrusted image) refl r.paced
open-pace (InCallback image c left) r = no-open (InCallback image c left) refl r.paced
open-pace (InFunction image f) r = open-function (lines_to (InTrusted image)) f (InFunction image f) refl refl r.paced
open-pace (InSandbox image) r = no-open (InSandbox image) refl r.paced
open-pace (InBody image f) r =
    open-function (lines_to (InSandbox image)) f (InBody image f) refl
    (ap (λ (l : List Line). Heading ∷ TrustedSide ∷ l) (sym (append_assoc (trusted_lines image) (SandboxSide ∷ sandbox_lines image) (begun_lines f)))) r.paced
open-pace (Closed image) r = no-open (Closed image) refl r.paced

-- the line of an instruction of the function that has begun, from the line behind it
pub pace-some : (state : State) (number place : ℕ) (ops : List Op) → IsReached state → number ≡ suc (length (lines_to state)) → ops ≡ begun_ops state
    → ((n : ℕ) → off_pace_in n ops 0 ops ≡ Some (n + place)) → place < length ops → off_pace 1 (lines_to state) ≡ Some (number - (length ops - place))
pace-some state number place ops r n same h low =
    let o = open-pace state r in
    let line : o.first + place ≡ number - (length ops - place) = omega (arith, o.count, n, ap length same, low) in
    o.is ∙ ap (λ (l : List Op). off_pace_in o.first l 0 l) (sym same) ∙ h o.first ∙ ap (λ k. Some k) line

pub pace-none : (state : State) (ops : List Op) → IsReached state → ops ≡ begun_ops state → ((n : ℕ) → off_pace_in n ops 0 ops ≡ None) → off_pace 1 (lines_to state) ≡ None
pace-none state ops r same h =
    let o = open-pace state r in
    o.is ∙ ap (λ (l : List Op). off_pace_in o.first l 0 l) (sym same) ∙ h o.first

paced-on : (from to : State) (line : Line) → Leads from to line → off_pace 1 (lines_to (outside from)) ≡ None → EndsOnPace from line → off_pace 1 (lines_to (outside to)) ≡ None
paced-on from to line l h e = by l.bounds
  where
    by : Bounds from to line → off_pace 1 (lines_to (outside to)) ≡ None
    by (Within is) = ap (λ s. off_pace 1 (lines_to s)) is ∙ h
    by (Begun is other) = ap (λ s. off_pace 1 (lines_to s)) is ∙ e other
    by (Past is other) =
        ap (λ s. off_pace 1 (lines_to s)) is
        ∙ ap (off_pace 1) l.lines
        ∙ off-pace-front 1 (lines_to from) (line ∷ []) (no-instruction line [] other)
        ∙ ap (λ one. first_of one (off_pace (1 + length (lines_to from)) (line ∷ []))) (e other)
        ∙ one-line (1 + length (lines_to from)) line

-- what one more line leads to
pub record GoesOn (state next : State) (text : List ℕ) (f : Follows state next text) : Type 0 where
  pub reached : IsReached next
  pub lines : lines_to next ≡ lines_to state ++ f.line ∷ []

pub goes-on : (state next : State) (text : List ℕ) (f : Follows state next text) → IsReached state → GoesOn state next text f
goes-on state next text f r =
    let is = line-read text f.line f.read in
    let l = step-leads state next f.line (kept state r) is.allowed f.step in
    let on = lead-on (lines_to state) state next f.line (leads state r) is.allowed f.step in
    record {
      reached = record {
        steps = ap (steps Start) l.lines ∙ on.steps;
        allowed = subst (All IsAllowed) (sym l.lines) on.allowed;
        paced = paced-on state next f.line l r.paced f.paced;
      };
      lines = l.lines;
    }

-- ---- what is refused

-- what is refused behind one more line is refused before it
pub refused-on : (state next : State) (text : List ℕ) (f : Follows state next text) → IsReached state → (texts : List (List ℕ)) (rest : List ℕ)
    → refused_from state (text ∷ texts) rest ≡ refused_from next texts rest
refused-on state next text f r texts rest =
    let g = goes-on state next text f r in
    let later : Front = front_of next texts rest in
    let front : front_of state (text ∷ texts) rest ≡ onto_front f.line later = rw (f.read, f.step) refl in
    let lines : lines_to state ++ f.line ∷ later.lines ≡ lines_to next ++ later.lines =
    sym (append_assoc (lines_to state) (f.line ∷ []) later.lines) ∙ ap (λ (l : List Line). l ++ later.lines) (sym g.lines) in
    ap (refused_with (lines_to state)) front
    ∙ ap (λ (l : List Line). first_of (off_pace 1 l) (unless later.whole (suc (length l)))) lines

-- the front ends here
pub stops : (front : List Line) → off_pace 1 front ≡ None → refused_with front no_front ≡ Some (suc (length front))
stops front h = rw (append-nil front, h) refl

-- the front breaks the pace
pub breaks : (front : List Line) (later : Front) (number : ℕ) → instructions later.lines ≡ [] → off_pace 1 front ≡ Some number → refused_with front later ≡ Some number
breaks front later number h e =
    ap (λ one. first_of one (unless later.whole (suc (length (front ++ later.lines)))))
    (off-pace-front 1 front later.lines h ∙ ap (λ one. first_of one (off_pace (1 + length front) later.lines)) e)

-- a line that isn't one is refused
pub refused-text : (state : State) (text : List ℕ) → line_of text ≡ None → off_pace 1 (lines_to state) ≡ None → RefusedBehind state text (suc (length (lines_to state)))
refused-text state text none h later rest =
    let front : front_of state (text ∷ later) rest ≡ no_front = rw none refl in
    ap (refused_with (lines_to state)) front ∙ stops (lines_to state) h

-- a line that may not follow is refused
pub refused-line : (state : State) (text : List ℕ) (line : Line) → line_of text ≡ Some line → step state line ≡ None → off_pace 1 (lines_to state) ≡ None
    → RefusedBehind state text (suc (length (lines_to state)))
refused-line state text line some none h later rest =
    let front : front_of state (text ∷ later) rest ≡ no_front = rw (some, none) refl in
    ap (refused_with (lines_to state)) front ∙ stops (lines_to state) h

-- behind a function that breaks the pace stands a text that is no line
pub breaks-before-text : (state : State) (text : List ℕ) (number : ℕ) → line_of text ≡ None → off_pace 1 (lines_to state) ≡ Some number → RefusedBehind state text number
breaks-before-text state text number none h later rest =
    let front : front_of state (text ∷ later) rest ≡ no_front = rw none refl in
    ap (refused_with (lines_to state)) front ∙ breaks (lines_to state) no_front number refl h

-- or a line that is no instruction
pub breaks-before-line : (state : State) (text : List ℕ) (line : Line) (number : ℕ) → line_of text ≡ Some line → is_instruction line ≡ false → off_pace 1 (lines_to state) ≡ Some number
    → RefusedBehind state text number
breaks-before-line state text line number some other h later rest = by (step state line) refl
  where
    by : (found : Option State) → step state line ≡ found → refused_from state (text ∷ later) rest ≡ Some number
    by None e =
        let front : front_of state (text ∷ later) rest ≡ no_front = rw (some, e) refl in
        ap (refused_with (lines_to state)) front ∙ breaks (lines_to state) no_front number refl h
    by (Some next) e =
        let behind : Front = front_of next later rest in
        let front : front_of state (text ∷ later) rest ≡ onto_front line behind = rw (some, e) refl in
        ap (refused_with (lines_to state)) front ∙ breaks (lines_to state) (onto_front line behind) number (no-instruction line behind.lines other) h
