-- From each state of paced code there is one answer.
use Rattle.std.proofs.Common.{◌≡◌, ℕ, zero, suc, ◌<◌, ◌≤◌, Bool, true, false, List, [], ◌∷◌, Option, Some, None, length, refl, sym, ap, ◌∙◌, subst, arith}
use Rattle.std.specs.Prelude.{IsTrue, ◌==◌}
use Rattle.std.proofs.lemmas.Option.{same_Some}
use Rattle.act_words.specs.declared.act.Turn.{Turn}
use Rattle.act_words.specs.declared.act.Turn.TheVariants as turns
use Rattle.act_words.specs.Acts.{Act, Go, Stop, Seen, SeenBytes, SeenCall, SeenReply}
use Rattle.flat_bytes.specs.Words.{word_at}
use Rattle.code_words.specs.Functions.{Func}
use Rattle.code_words.specs.Images.{Image}
use Rattle.code_words.specs.Paced.{is_paced}
use Rattle.code_words.specs.SandboxCode.{Frame, Held, Calls, Entered, CallsBack, Doing, Runs, Looks, Rests, State, Step, Goes, Acts, function_of, step, answered, runs_for}
use Rattle.sandbox_actor.specs.Answers.{Answer, Gives, Ended, Refused, Missing, Moment, Lowers}
use Rattle.sandbox_actor_code.specs.Answering.{CodeState, AnswersFrom, CodeAnswers, behind_act, stopped_act, taken_of}
use Rattle.sandbox_actor_code.specs.StepsLeft.{steps_left, steps_left_of, left_to}
use Rattle.sandbox_actor_code.proofs.StepsFall.{Falls, step-falls}
use Rattle.sandbox_actor_code.proofs.Led.{lowers_from, lowers_behind}
use Rattle.sandbox_actor_code.proofs.Shown.{Meets, word_meets, call_meets, reply_meets}

module _ (image : Image) (budget : ℕ) (paced : IsTrue (is_paced image)) where
  -- either it acts at once, or it is what instructions from a state lead to
  data Led (answer : ℕ → Option (Act × State)) (bounded : State → Type 0) (left : ℕ) : Type 0 where
    AtOnce : (a : Act) (u : State) (acts : (n : ℕ) → answer n ≡ Some (a, u)) (lowers : Lowers turns.Sandbox a left (steps_left image budget u)) → Led answer bounded left
    Onward : (u : State) (goes : (n : ℕ) → answer n ≡ runs_for image budget n u) (bound : bounded u) → Led answer bounded left

  -- ---- instructions

  abbrev Next : State → Type 0
  Next t = Led (λ n. runs_for image budget (suc n) t) (λ u. steps_left image budget u < steps_left image budget t) (steps_left image budget t)

  next_by : (f : Frame) (held : List Held) (ticks : ℕ) (st : Step) → step image budget f (record { doing = Runs f; held = held; ticks = ticks }) ≡ st
      → Falls image budget paced (record { doing = Runs f; held = held; ticks = ticks }) st → Next (record { doing = Runs f; held = held; ticks = ticks })
  next_by f held ticks (Goes u) e falls = Onward u (λ n. rw e refl) falls
  next_by f held ticks (Acts a u) e falls = AtOnce a u (λ n. rw e refl) falls

  next_of : (doing : Doing) (held : List Held) (ticks : ℕ) → Next (record { doing = doing; held = held; ticks = ticks })
  next_of (Runs f) held ticks = next_by f held ticks _ refl (step-falls image budget paced f (record { doing = Runs f; held = held; ticks = ticks }) refl)
  next_of (Looks f) held ticks = AtOnce Stop (record { doing = Looks f; held = held; ticks = ticks }) (λ n. refl) tt
  next_of Rests held ticks = AtOnce Stop (record { doing = Rests; held = held; ticks = ticks }) (λ n. refl) tt

  next : (t : State) → Next t
  next t = next_of t.doing t.held t.ticks

  abbrev Ends : State → Type 0
  Ends t = (n : ℕ) × (a : Act) × (u : State) × (runs_for image budget n t ≡ Some (a, u))

  -- instructions lead to an act
  ends : (k : ℕ) (t : State) → steps_left image budget t < k → Ends t
  ends zero t h = absurd (omega (arith, h))
  ends (suc k) t h = by (next t) (ends k)
    where
      by : Next t → ((u : State) → steps_left image budget u < k → Ends u) → Ends t
      by (AtOnce a u acts lowers) rest = (1, a, u, acts 0)
      by (Onward u goes less) rest = let more = rest u (omega (arith, h, less)) in (suc more.0, more.1, more.2, goes more.0 ∙ more.3)

  -- whichever number of them is made
  once : (n m : ℕ) (t : State) (x y : Act × State) → runs_for image budget n t ≡ Some x → runs_for image budget m t ≡ Some y → x ≡ y
  once zero m t x y p q = absurd (cc)
  once (suc n) zero t x y p q = absurd (cc)
  once (suc n) (suc m) t x y p q = by (next t) (once n m)
    where
      by : Next t → ((u : State) (x y : Act × State) → runs_for image budget n u ≡ Some x → runs_for image budget m u ≡ Some y → x ≡ y) → x ≡ y
      by (AtOnce a u acts lowers) rest = same_Some x y (sym p ∙ acts n ∙ sym (acts m) ∙ q)
      by (Onward u goes less) rest = rest u x y (sym (goes n) ∙ p) (sym (goes m) ∙ q)

  -- ---- what was shown

  abbrev Shown : State → Option Seen → Type 0
  Shown s seen = Led (λ n. answered image budget n s seen) (λ u. steps_left image budget u ≤ steps_left image budget s) (steps_left image budget s)

  met : (s : State) (seen : Option Seen) (st : Step) → Meets image budget s seen st → Shown s seen
  met s seen (Goes t) meets = Onward t meets.0 meets.1
  met s seen (Acts a u) meets = AtOnce Stop meets.0 meets.1 tt

  looked : (f : Frame) (held : List Held) (ticks at : ℕ) (bytes : List ℕ) (fun : Option Func) → function_of image f.function ≡ fun → Shown (record { doing = Looks f; held = held; ticks = ticks }) (Some (SeenBytes at bytes))
  looked f held ticks at bytes None e = AtOnce Stop (record { doing = Looks f; held = held; ticks = ticks }) (λ n. rw e refl) tt
  looked f held ticks at bytes (Some fun) e =
      met (record { doing = Looks f; held = held; ticks = ticks }) (Some (SeenBytes at bytes)) _ (word_meets image budget f held ticks fun (Some (SeenBytes at bytes)) (word_at (length bytes) bytes 0) e refl)

  called : (held : List Held) (ticks number : ℕ) (words : List ℕ) (fun : Option Func) → function_of image number ≡ fun → Shown (record { doing = Rests; held = held; ticks = ticks }) (Some (SeenCall number words))
  called held ticks number words None e = AtOnce Stop (record { doing = Rests; held = held; ticks = ticks }) (λ n. rw e refl) tt
  called held ticks number words (Some fun) e = by (fun.args == length words) refl
    where
      by : (same : Bool) → (fun.args == length words) ≡ same → Shown (record { doing = Rests; held = held; ticks = ticks }) (Some (SeenCall number words))
      by true h = met (record { doing = Rests; held = held; ticks = ticks }) (Some (SeenCall number words)) _ (call_meets image budget paced held ticks number words fun e h)
      by false h = AtOnce Stop (record { doing = Rests; held = held; ticks = ticks }) (λ n. rw (e, h) refl) tt

  replied : (f : Frame) (k : ℕ) (held : List Held) (ticks value : ℕ) (fun : Option Func) → function_of image f.function ≡ fun → Shown (record { doing = Rests; held = CallsBack f k ∷ held; ticks = ticks }) (Some (SeenReply value))
  replied f k held ticks value None e = AtOnce Stop (record { doing = Rests; held = held; ticks = ticks }) (λ n. rw e refl) tt
  replied f k held ticks value (Some fun) e =
      met (record { doing = Rests; held = CallsBack f k ∷ held; ticks = ticks }) (Some (SeenReply value)) _ (reply_meets image budget f k held ticks value fun e)

  shown_to : (doing : Doing) (held : List Held) (ticks : ℕ) (seen : Option Seen) → Shown (record { doing = doing; held = held; ticks = ticks }) seen
  shown_to (Runs f) held ticks seen = Onward (record { doing = Runs f; held = held; ticks = ticks }) (λ n. refl) (omega arith)
  shown_to (Looks f) held ticks None = AtOnce Stop (record { doing = Looks f; held = held; ticks = ticks }) (λ n. refl) tt
  shown_to (Looks f) held ticks (Some (SeenBytes at bytes)) = looked f held ticks at bytes (function_of image f.function) refl
  shown_to (Looks f) held ticks (Some (SeenCall number words)) = AtOnce Stop (record { doing = Looks f; held = held; ticks = ticks }) (λ n. refl) tt
  shown_to (Looks f) held ticks (Some (SeenReply value)) = AtOnce Stop (record { doing = Looks f; held = held; ticks = ticks }) (λ n. refl) tt
  shown_to Rests held ticks None = AtOnce Stop (record { doing = Rests; held = held; ticks = ticks }) (λ n. refl) tt
  shown_to Rests held ticks (Some (SeenBytes at bytes)) = AtOnce Stop (record { doing = Rests; held = held; ticks = ticks }) (λ n. refl) tt
  shown_to Rests held ticks (Some (SeenCall number words)) = called held ticks number words (function_of image number) refl
  shown_to Rests [] ticks (Some (SeenReply value)) = AtOnce Stop (record { doing = Rests; held = []; ticks = ticks }) (λ n. refl) tt
  shown_to Rests (Calls f ∷ held) ticks (Some (SeenReply value)) = AtOnce Stop (record { doing = Rests; held = Calls f ∷ held; ticks = ticks }) (λ n. refl) tt
  shown_to Rests (Entered ∷ held) ticks (Some (SeenReply value)) = AtOnce Stop (record { doing = Rests; held = Entered ∷ held; ticks = ticks }) (λ n. refl) tt
  shown_to Rests (CallsBack f k ∷ held) ticks (Some (SeenReply value)) = replied f k held ticks value (function_of image f.function) refl

  shown : (s : State) (seen : Option Seen) → Shown s seen
  shown s seen = shown_to s.doing s.held s.ticks seen

  -- ---- answers

  lowers_same : (left : ℕ) (x y : Act × State) → x ≡ y → Lowers turns.Sandbox x.0 left (steps_left image budget x.1) → Lowers turns.Sandbox y.0 left (steps_left image budget y.1)
  lowers_same left x y e h = subst (λ (z : Act × State). Lowers turns.Sandbox z.0 left (steps_left image budget z.1)) e h

  answer_once : (s : State) (seen : Option Seen) (n m : ℕ) (x y : Act × State) → answered image budget n s seen ≡ Some x → answered image budget m s seen ≡ Some y → x ≡ y
  answer_once s seen n m x y p q = by (shown s seen)
    where
      by : Shown s seen → x ≡ y
      by (AtOnce a u acts lowers) = same_Some x y (sym p ∙ acts n ∙ sym (acts m) ∙ q)
      by (Onward u goes bound) = once n m u x y (sym (goes n) ∙ p) (sym (goes m) ∙ q)

  answer_some : (s : State) (seen : Option Seen) → (n : ℕ) × (a : Act) × (t : State) × (answered image budget n s seen ≡ Some (a, t))
  answer_some s seen = by (shown s seen)
    where
      by : Shown s seen → (n : ℕ) × (a : Act) × (t : State) × (answered image budget n s seen ≡ Some (a, t))
      by (AtOnce a u acts lowers) = (0, a, u, acts 0)
      by (Onward u goes bound) = let end = ends (suc (steps_left image budget u)) u (omega arith) in (end.0, end.1, end.2, goes end.0 ∙ end.3)

  -- an act that leaves the turn lowers the steps that are left
  run_lowers : (n : ℕ) (t : State) (a : Act) (u : State) → runs_for image budget n t ≡ Some (a, u) → Lowers turns.Sandbox a (steps_left image budget t) (steps_left image budget u)
  run_lowers zero t a u p = absurd (cc)
  run_lowers (suc n) t a u p = by (next t) (run_lowers n)
    where
      by : Next t → ((v : State) (a : Act) (u : State) → runs_for image budget n v ≡ Some (a, u) → Lowers turns.Sandbox a (steps_left image budget v) (steps_left image budget u)) → Lowers turns.Sandbox a (steps_left image budget t) (steps_left image budget u)
      by (AtOnce b w acts lowers) rest = lowers_same (steps_left image budget t) (b, w) (a, u) (same_Some (b, w) (a, u) (sym (acts n) ∙ p)) lowers
      by (Onward v goes less) rest = lowers_from a (steps_left image budget v) (steps_left image budget t) (steps_left image budget u) (omega (arith, less)) (rest v a u (sym (goes n) ∙ p))

  answer_lowers : (s : State) (seen : Option Seen) (n : ℕ) (a : Act) (u : State) → answered image budget n s seen ≡ Some (a, u) → Lowers turns.Sandbox a (steps_left image budget s) (steps_left image budget u)
  answer_lowers s seen n a u p = by (shown s seen)
    where
      by : Shown s seen → Lowers turns.Sandbox a (steps_left image budget s) (steps_left image budget u)
      by (AtOnce b w acts lowers) = lowers_same (steps_left image budget s) (b, w) (a, u) (same_Some (b, w) (a, u) (sym (acts n) ∙ p)) lowers
      by (Onward v goes less) = lowers_from a (steps_left image budget v) (steps_left image budget s) (steps_left image budget u) less (run_lowers n v a u (sym (goes n) ∙ p))

  lowers_by : (turn : Turn) (last : Option Seen) (before : Option State) (a : Act) (after : Option State) → AnswersFrom image budget before (record { turn = turn; last = last }) a after
      → Lowers turn a (steps_left_of image budget before) (steps_left_of image budget after)
  lowers_by turns.Trusted last None a after p = rw p.0 tt
  lowers_by turns.Sandbox last None a after p = rw p.0 tt
  lowers_by turns.Trusted last (Some s) a after p = rw p.1.0 tt
  lowers_by turns.Sandbox last (Some s) a after p = rw p.2 (lowers_behind image budget a p.0 (steps_left image budget s) (answer_lowers s (taken_of last) p.1.0 a p.0 p.1.1))

  same_from : (turn : Turn) (last : Option Seen) (before : Option State) (a b : Act) (t u : Option State)
      → AnswersFrom image budget before (record { turn = turn; last = last }) a t → AnswersFrom image budget before (record { turn = turn; last = last }) b u → (a ≡ b) × (t ≡ u)
  same_from turn last None a b t u p q = (p.0 ∙ sym q.0, p.1 ∙ sym q.1)
  same_from turns.Trusted last (Some s) a b t u p q =
      let act : a ≡ b = p.1.0 ∙ sym q.1.0 in
      let state : p.0 ≡ q.0 = p.1.1 ∙ sym q.1.1 in
      (act, p.2 ∙ rw (act, state) refl ∙ sym q.2)
  same_from turns.Sandbox last (Some s) a b t u p q =
      let both = answer_once s (taken_of last) p.1.0 q.1.0 (a, p.0) (b, q.0) p.1.1 q.1.1 in
      let act : a ≡ b = ap (λ (x : Act × State). x.0) both in
      let state : p.0 ≡ q.0 = ap (λ (x : Act × State). x.1) both in
      (act, p.2 ∙ rw (act, state) refl ∙ sym q.2)

  some_from : (turn : Turn) (last : Option Seen) (before : Option State) → (a : Act) × (after : Option State) × AnswersFrom image budget before (record { turn = turn; last = last }) a after
  some_from turn last None = (stopped_act turn, None, (refl, refl))
  some_from turns.Trusted last (Some s) = (Go, Some s, (s, (refl, refl), refl))
  some_from turns.Sandbox last (Some s) =
      let some = answer_some s (taken_of last) in
      (some.1, behind_act some.1 some.2, (some.2, (some.0, some.3), refl))

same_code : (c d : CodeState) → c.image ≡ d.image → c.budget ≡ d.budget → c.state ≡ d.state → c ≡ d
same_code c d image budget state =
    let first : c ≡ record d { budget = c.budget; state = c.state } = ap (λ i. record { image = i; budget = c.budget; state = c.state }) image in
    let second : record d { budget = c.budget; state = c.state } ≡ record d { state = c.state } = ap (λ b. record { image = d.image; budget = b; state = c.state }) budget in
    first ∙ second ∙ ap (λ s. record { image = d.image; budget = d.budget; state = s }) state

pub one_answer : (before after after' : CodeState) (now : Moment) (x y : Answer) → IsTrue (is_paced before.image)
    → CodeAnswers before now x after → CodeAnswers before now y after' → (x ≡ y) × (after ≡ after')
one_answer before after after' now (Gives a) (Gives b) paced p q =
    let both = same_from before.image before.budget paced now.turn now.last before.state a b after.state after'.state p.0 q.0 in
    let image : after.image ≡ after'.image = p.1 ∙ sym q.1 in
    let budget : after.budget ≡ after'.budget = p.2 ∙ sym q.2 in
    (ap Gives both.0, same_code after after' image budget both.1)
one_answer before after after' now (Gives a) Ended paced p q = absurd q
one_answer before after after' now (Gives a) (Refused line code) paced p q = absurd q
one_answer before after after' now (Gives a) Missing paced p q = absurd q
one_answer before after after' now Ended y paced p q = absurd p
one_answer before after after' now (Refused line code) y paced p q = absurd p
one_answer before after after' now Missing y paced p q = absurd p

pub some_answer : (before : CodeState) (now : Moment) → IsTrue (is_paced before.image) → (x : Answer) × (after : CodeState) × CodeAnswers before now x after
some_answer before now paced =
    let some = some_from before.image before.budget paced now.turn now.last before.state in
    (Gives some.0, record before { state = some.1 }, (some.2, refl, refl))

pub lowers : (before after : CodeState) (now : Moment) (act : Act) → IsTrue (is_paced before.image) → CodeAnswers before now (Gives act) after → Lowers now.turn act (left_to before) (left_to after)
lowers before after now act paced p = rw (p.1, p.2) (lowers_by before.image before.budget paced now.turn now.last before.state act after.state p.0)
