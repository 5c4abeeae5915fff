-- What the code does with what was shown.
use Rattle.std.proofs.Common.{◌≡◌, ℕ, ◌≤◌, Bool, true, false, nat_lt, List, [], ◌∷◌, Option, Some, None, length, refl, ◌∙◌, arith}
use Rattle.std.specs.Prelude.{IsTrue, ◌==◌, slice_get}
use Rattle.act_words.specs.declared.act as code
use Rattle.act_words.specs.Acts.{Stop, Seen, SeenBytes, SeenCall, SeenReply}
use Rattle.flat_bytes.specs.Words.{word_at}
use Rattle.marshalling.specs.declared.kind.WordKind.{WordKind}
use Rattle.marshalling.specs.declared.kind.WordKind.TheVariants as kinds
use Rattle.code_words.specs.declared.image.Callback.{Callback}
use Rattle.code_words.specs.Functions.{Func}
use Rattle.code_words.specs.Images.{Image}
use Rattle.code_words.specs.Paced.{is_paced}
use Rattle.code_words.specs.Table.{slots_for}
use Rattle.code_words.specs.SandboxCode.{Frame, Held, Calls, Entered, CallsBack, Runs, Looks, Rests, State, Step, Goes, Acts, function_of, enter, depth, answered, runs_for}
use Rattle.sandbox_actor_code.specs.Answering.{bytes_if}
use Rattle.sandbox_actor_code.specs.StepsLeft.{steps_left}
use Rattle.sandbox_actor_code.specs.Codes.{Code, IsSame, Leads, Shows, Stops, reply_by, reply_of, resume_step, return_step, word_of}
use Rattle.sandbox_actor_code.proofs.StepsFall.{no_more, called_left}

module _ (image : Image) (budget : ℕ) (s : State) (seen : Option Seen) where
  -- what was shown leads to this step, with no more steps left
  abbrev pub Meets : Step → Type 0
  Meets (Goes t) = ((n : ℕ) → answered image budget n s seen ≡ runs_for image budget n t) × (steps_left image budget t ≤ steps_left image budget s)
  Meets (Acts a u) = (t : State) × ((n : ℕ) → answered image budget n s seen ≡ Some (Stop, t)) × (a ≡ Stop)

-- from another code of the same image and budget
pub led_from : (old mid new : Code) (result : Option code.Act.Act) (step : Step) → IsSame old mid → Leads step mid result new → Leads step old result new
led_from old mid new result (Goes t) same leads = (leads.0, leads.1, leads.2, (leads.3.0 ∙ same.0, leads.3.1 ∙ same.1))
led_from old mid new result (Acts a u) same leads = (leads.0, leads.1, (leads.2.0 ∙ same.0, leads.2.1 ∙ same.1))

pub shows_by : (old new : Code) (s : State) (seen : Option Seen) (result : Option code.Act.Act) (step : Step) → Meets old.image old.budget s seen step → Leads step old result new → Shows seen s old result new
shows_by old new s seen None (Goes t) meets leads = (leads.1, λ n. meets.0 n ∙ rw leads.2 refl, rw leads.2 meets.1, leads.3)
shows_by old new s seen (Some x) (Goes t) meets leads = absurd (let h = leads.0 in cc)
shows_by old new s seen None (Acts a u) meets leads = absurd (let h = leads.0 in cc)
shows_by old new s seen (Some x) (Acts a u) meets leads = (meets.0, meets.1, (rw (← meets.2) leads.0, rw meets.2 at leads.1, leads.2))

-- ---- bytes

pub stops_by : (old new : Code) (s : State) (seen : Option Seen) (result : Option code.Act.Act) → (t : State) → ((n : ℕ) → answered old.image old.budget n s seen ≡ Some (Stop, t))
    → Stops old result new → Shows seen s old result new
stops_by old new s seen None t acts stops = absurd (let h = stops.0 in cc)
stops_by old new s seen (Some x) t acts stops = (t, acts, stops)

module _ (image : Image) (budget : ℕ) (f : Frame) (held : List Held) (ticks : ℕ) where
  abbrev looks : State
  looks = record { doing = Looks f; held = held; ticks = ticks }

  bytes_meet : (fun : Func) (at : ℕ) (bytes : List ℕ) → function_of image f.function ≡ Some fun
      → Meets image budget looks (Some (SeenBytes at bytes)) (resume_step fun (Some (word_at (length bytes) bytes 0)) f (record { doing = Runs f; held = held; ticks = ticks }))
  bytes_meet fun at bytes there = by (nat_lt (length f.stack) fun.stack) refl
    where
      by : (room : Bool) → nat_lt (length f.stack) fun.stack ≡ room
          → Meets image budget looks (Some (SeenBytes at bytes)) (resume_step fun (Some (word_at (length bytes) bytes 0)) f (record { doing = Runs f; held = held; ticks = ticks }))
      by true e = rw e (
        λ n. rw (there, e) refl,
        no_more image budget looks
            (record { doing = Runs (record f { stack = word_at (length bytes) bytes 0 ∷ f.stack }); held = held; ticks = ticks }) refl (omega arith),
      )
      by false e = rw e (looks, λ n. rw (there, e) refl, refl)

  pub word_meets : (fun : Func) (seen : Option Seen) (word : ℕ) → function_of image f.function ≡ Some fun → Some word ≡ word_of seen
      → Meets image budget looks seen (resume_step fun (Some word) f (record { doing = Runs f; held = held; ticks = ticks }))
  word_meets fun None word there e = absurd (cc)
  word_meets fun (Some (SeenBytes at bytes)) word there e = let is : word ≡ word_at (length bytes) bytes 0 = cc in rw is (bytes_meet fun at bytes there)
  word_meets fun (Some (SeenCall number words)) word there e = absurd (cc)
  word_meets fun (Some (SeenReply value)) word there e = absurd (cc)

  pub no_word : (seen : Option Seen) → None ≡ word_of seen → (n : ℕ) → answered image budget n looks seen ≡ Some (Stop, looks)
  no_word None e n = refl
  no_word (Some (SeenBytes at bytes)) e n = absurd (cc)
  no_word (Some (SeenCall number words)) e n = refl
  no_word (Some (SeenReply value)) e n = refl

-- ---- calls

module _ (image : Image) (budget : ℕ) (paced : IsTrue (is_paced image)) (held : List Held) (ticks number : ℕ) (words : List ℕ) (fun : Func) (there : function_of image number ≡ Some fun) where
  abbrev rests : State
  rests = record { doing = Rests; held = held; ticks = ticks }

  pub call_meets : (fun.args == length words) ≡ true → Meets image budget rests (Some (SeenCall number words)) (enter fun words (Entered ∷ held) rests)
  call_meets same = by (nat_lt (depth rests) 1000) refl
    where
      by : (room : Bool) → nat_lt (depth rests) 1000 ≡ room → Meets image budget rests (Some (SeenCall number words)) (enter fun words (Entered ∷ held) rests)
      by true e = rw e (
        λ n. rw (there, same, e) refl,
        no_more image budget rests (record { doing = Runs (record { function = fun.number; next = 0; slots = slots_for fun words; stack = [] }); held = Entered ∷ held; ticks = ticks }) refl
            (omega (arith, called_left image budget paced fun.number (slots_for fun words))),
      )
      by false e = rw e (rests, λ n. rw (there, same, e) refl, refl)

-- bytes are for no call that waits to be called
pub bytes_at_rest : (image : Image) (budget : ℕ) (held : List Held) (ticks : ℕ) (some : Bool) (at : ℕ) (bytes : List ℕ) (n : ℕ)
    → answered image budget n (record { doing = Rests; held = held; ticks = ticks }) (bytes_if some at bytes) ≡ Some (Stop, record { doing = Rests; held = held; ticks = ticks })
bytes_at_rest image budget held ticks true at bytes n = refl
bytes_at_rest image budget held ticks false at bytes n = refl

-- ---- replies

module _ (image : Image) (budget : ℕ) (f : Frame) (k : ℕ) (held : List Held) (ticks value : ℕ) (fun : Func) (there : function_of image f.function ≡ Some fun) where
  abbrev waits : State
  waits = record { doing = Rests; held = CallsBack f k ∷ held; ticks = ticks }

  abbrev goes : State
  goes = record { doing = Runs f; held = held; ticks = ticks }

  abbrev Replies : Option ℕ → Type 0
  Replies word = Meets image budget waits (Some (SeenReply value)) (resume_step fun word f goes)

  -- nothing comes back, or the value
  none_replies : ((n : ℕ) → answered image budget n waits (Some (SeenReply value)) ≡ runs_for image budget n goes) → Replies None
  none_replies e = (e, no_more image budget waits goes refl (omega arith))

  value_replies : (callback : Option Callback) → slice_get image.layout.callbacks k ≡ callback → reply_of callback value ≡ Some value → Replies (Some value)
  value_replies callback e valued = by (nat_lt (length f.stack) fun.stack) refl callback e valued
    where
      by_kind : (room : Bool) → nat_lt (length f.stack) fun.stack ≡ room → (callback : Callback) → slice_get image.layout.callbacks k ≡ Some callback → (kind : WordKind) → callback.result ≡ kind → reply_by kind value ≡ Some value → Replies (Some value)
      by_kind true r callback e kinds.Int h v = rw r (λ n. rw (e, h, there, r) refl, no_more image budget waits (record goes { doing = Runs (record f { stack = value ∷ f.stack }) }) refl (omega arith))
      by_kind true r callback e kinds.Char h v = rw r (λ n. rw (e, h, there, r) refl, no_more image budget waits (record goes { doing = Runs (record f { stack = value ∷ f.stack }) }) refl (omega arith))
      by_kind true r callback e kinds.Pointer h v = rw r (λ n. rw (e, h, there, r) refl, no_more image budget waits (record goes { doing = Runs (record f { stack = value ∷ f.stack }) }) refl (omega arith))
      by_kind true r callback e kinds.Void h v = absurd (cc)
      by_kind false r callback e kinds.Int h v = rw r (record { doing = Rests; held = held; ticks = ticks }, λ n. rw (e, h, there, r) refl, refl)
      by_kind false r callback e kinds.Char h v = rw r (record { doing = Rests; held = held; ticks = ticks }, λ n. rw (e, h, there, r) refl, refl)
      by_kind false r callback e kinds.Pointer h v = rw r (record { doing = Rests; held = held; ticks = ticks }, λ n. rw (e, h, there, r) refl, refl)
      by_kind false r callback e kinds.Void h v = absurd (cc)

      by : (room : Bool) → nat_lt (length f.stack) fun.stack ≡ room → (callback : Option Callback) → slice_get image.layout.callbacks k ≡ callback → reply_of callback value ≡ Some value → Replies (Some value)
      by true r None e v = rw r (λ n. rw (e, there, r) refl, no_more image budget waits (record goes { doing = Runs (record f { stack = value ∷ f.stack }) }) refl (omega arith))
      by false r None e v = rw r (record { doing = Rests; held = held; ticks = ticks }, λ n. rw (e, there, r) refl, refl)
      by room r (Some callback) e v = by_kind room r callback e callback.result refl v

  pub reply_meets : Replies (reply_of (slice_get image.layout.callbacks k) value)
  reply_meets = by (slice_get image.layout.callbacks k) refl
    where
      by_kind : (callback : Callback) → slice_get image.layout.callbacks k ≡ Some callback → (kind : WordKind) → callback.result ≡ kind → Replies (reply_by kind value)
      by_kind callback e kinds.Int h = value_replies (Some callback) e (rw h refl)
      by_kind callback e kinds.Char h = value_replies (Some callback) e (rw h refl)
      by_kind callback e kinds.Pointer h = value_replies (Some callback) e (rw h refl)
      by_kind callback e kinds.Void h = none_replies (λ n. rw (e, h, there) refl)

      by : (callback : Option Callback) → slice_get image.layout.callbacks k ≡ callback → Replies (reply_of callback value)
      by None e = value_replies None e refl
      by (Some callback) e = by_kind callback e callback.result refl

-- ---- returns

-- a return to a function of the sandbox goes on with it
pub returns_to : (image : Image) (budget : ℕ) (f g : Func) (frame caller : Frame) (value : Option ℕ) (held : List Held) (ticks : ℕ) → function_of image caller.function ≡ Some g
    → (old mid new : Code) (result : Option code.Act.Act) → IsSame old mid
    → Leads (resume_step g value caller (record { doing = Runs caller; held = held; ticks = ticks })) mid result new
    → Leads (return_step image budget f frame value (record { doing = Runs frame; held = Calls caller ∷ held; ticks = ticks })) old result new
returns_to image budget f g frame caller None held ticks there old mid new result same leads = rw there (leads.0, leads.1, leads.2, (leads.3.0 ∙ same.0, leads.3.1 ∙ same.1))
returns_to image budget f g frame caller (Some w) held ticks there old mid new result same leads = by (nat_lt (length caller.stack) g.stack) refl leads
  where
    by : (room : Bool) → nat_lt (length caller.stack) g.stack ≡ room → Leads (resume_step g (Some w) caller (record { doing = Runs caller; held = held; ticks = ticks })) mid result new
        → Leads (return_step image budget f frame (Some w) (record { doing = Runs frame; held = Calls caller ∷ held; ticks = ticks })) old result new
    by true r leads = let l = rw r at leads in rw (there, r) (l.0, l.1, l.2, (l.3.0 ∙ same.0, l.3.1 ∙ same.1))
    by false r leads = let l = rw r at leads in rw (there, r) (l.0, l.1, (l.2.0 ∙ same.0, l.2.1 ∙ same.1))
