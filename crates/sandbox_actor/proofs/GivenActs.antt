-- Acts that are answered one after another, and lines of a text.
use Rattle.std.proofs.Common.{◌≡◌, ℕ, Bool, true, false, if◌then◌else◌, List, [], ◌∷◌, ◌++◌, flat_map, Option, Some, None, refl, sym, ap, subst, ◌∙◌, append_assoc}
use Rattle.std.proofs.lemmas.List.{append-nil}
use Rattle.ckc_text.specs.declared.code.Code.{Code}
use Rattle.act_words.specs.Acts.{Act}
use Rattle.act_words.specs.Readings.{Reading}
use Rattle.sandbox_actor.specs.Answers.{Answer, Gives, Ended, Refused, Missing}
use Rattle.sandbox_actor.specs.ActLists.{ActList, RefusedLine, Given, none, more, ListAnswers, reading_then, is_feed, before_first, lines_of}

-- ---- lines

joined-before_first : (b : ℕ) (lines : List (List ℕ)) → flat_map (λ line. line) (before_first b lines) ≡ b ∷ flat_map (λ line. line) lines
joined-before_first b [] = refl
joined-before_first b (line ∷ lines) = refl

joined_by : (test : Bool) (b : ℕ) (bytes : List ℕ) → flat_map (λ line. line) (lines_of bytes) ≡ bytes → flat_map (λ line. line) (if test then (b ∷ []) ∷ lines_of bytes else before_first b (lines_of bytes)) ≡ b ∷ bytes
joined_by true b bytes rest = ap (λ xs. b ∷ xs) rest
joined_by false b bytes rest = joined-before_first b (lines_of bytes) ∙ ap (λ xs. b ∷ xs) rest

pub joined-lines_of : (text : List ℕ) → flat_map (λ line. line) (lines_of text) ≡ text
joined-lines_of [] = refl
joined-lines_of (b ∷ bytes) = joined_by (is_feed b) b bytes (joined-lines_of bytes)

-- what two lines say, by what each says
pub both_read : (m n : ℕ) (r r' s s' : Reading) (rest : ActList) → r ≡ r' → s ≡ s' → reading_then m r (reading_then n s rest) ≡ reading_then m r' (reading_then n s' rest)
both_read m n r r' s s' rest e f = cc

-- ---- answers

abbrev pub list_of : List Act → Option RefusedLine → ActList
list_of acts refused = record { acts = acts; refused = refused }

-- what a list answers, and what is left of it
abbrev pub answer_of : List Act → Option RefusedLine → Answer
answer_of (act ∷ acts) refused = Gives act
answer_of [] None = Ended
answer_of [] (Some at) = Refused at.line at.code

abbrev pub left_of : List Act → Option RefusedLine → ActList
left_of (act ∷ acts) refused = list_of acts refused
left_of [] refused = list_of [] refused

tells : (before after : ActList) (x : Answer) → ListAnswers before x after → (answer_of before.acts before.refused ≡ x) × (left_of before.acts before.refused ≡ after)
tells before after (Gives act) h =
    (ap (λ (l : ActList). answer_of l.acts l.refused) h, ap (λ (l : ActList). left_of l.acts l.refused) h)
tells before after Ended h =
    (ap (λ (l : ActList). answer_of l.acts l.refused) h.0, ap (λ (l : ActList). left_of l.acts l.refused) h.0 ∙ sym (h.1 ∙ h.0))
tells before after (Refused line code) h =
    (ap (λ (l : ActList). answer_of l.acts l.refused) h.0, ap (λ (l : ActList). left_of l.acts l.refused) h.0 ∙ sym (h.1 ∙ h.0))
tells before after Missing h = absurd h

pub same_answer : (before after after' : ActList) (x y : Answer) → ListAnswers before x after → ListAnswers before y after' → (x ≡ y) × (after ≡ after')
same_answer before after after' x y h i =
    let first = tells before after x h in
    let second = tells before after' y i in
    (sym first.0 ∙ second.0, sym first.1 ∙ second.1)

pub some_answer : (acts : List Act) (refused : Option RefusedLine) → ListAnswers (list_of acts refused) (answer_of acts refused) (left_of acts refused)
some_answer (act ∷ acts) refused = refl
some_answer [] None = (refl, refl)
some_answer [] (Some at) = (refl, refl)

-- ---- one after another

pub given_front : {list left : ActList} {acts : List Act} → Given list acts left → list ≡ record { acts = acts ++ left.acts; refused = left.refused }
given_front none = refl
given_front (more {left = left} {rest = rest} {acts = acts} {act = act} given step) =
    given_front given
    ∙ ap (λ (l : ActList). list_of (acts ++ l.acts) l.refused) step
    ∙ ap (λ (xs : List Act). list_of xs rest.refused) (sym (append_assoc acts (act ∷ []) rest.acts))

pub given_ended : {list left after : ActList} {acts : List Act} → Given list acts left → ListAnswers left Ended after → list ≡ record { acts = acts; refused = None }
given_ended {acts = acts} given step =
    given_front given
    ∙ ap (λ (l : ActList). list_of (acts ++ l.acts) l.refused) step.0
    ∙ ap (λ (xs : List Act). list_of xs None) (append-nil acts)

pub given_refused : {list left after : ActList} {acts : List Act} {line : ℕ} {code : Code} → Given list acts left → ListAnswers left (Refused line code) after → list ≡ record { acts = acts; refused = Some (record { line = line; code = code }) }
given_refused {acts = acts} {line = line} {code = code} given step =
    given_front given
    ∙ ap (λ (l : ActList). list_of (acts ++ l.acts) l.refused) step.0
    ∙ ap (λ (xs : List Act). list_of xs (Some (record { line = line; code = code }))) (append-nil acts)

given_on : (list : ActList) (refused : Option RefusedLine) (done left : List Act) → Given list done (record { acts = left; refused = refused }) → Given list (done ++ left) (record { acts = []; refused = refused })
given_on list refused done [] given = subst (λ xs. Given list xs (record { acts = []; refused = refused })) (sym (append-nil done)) given
given_on list refused done (act ∷ left) given =
    subst (λ xs. Given list xs (record { acts = []; refused = refused })) (append_assoc done (act ∷ []) left) (given_on list refused (done ++ act ∷ []) left (more given refl))

pub all_given : (list : ActList) → Given list list.acts (record { acts = []; refused = list.refused })
all_given list = given_on list list.refused [] list.acts none
