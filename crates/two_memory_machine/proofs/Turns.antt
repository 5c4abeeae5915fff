-- Who has the turn where an act is waited for, and what taking it comes to.
use Rattle.std.proofs.Common.{◌≡◌, ℕ, Option, Some, None, refl, sym, subst, ◌∙◌}
use Rattle.ckc_text.specs.declared.place.Place.{Place}
use Rattle.act_words.specs.declared.act.Turn.{Turn}
use Rattle.act_words.specs.declared.act.Turn.TheVariants as turns
use Rattle.act_words.specs.declared.ending.Ending.{Ending}
use Rattle.act_words.specs.Acts.{Act}
use Rattle.act_words.specs.Acting.{act_before_touch, act_in_sandbox}
use Rattle.code_words.specs.Table.{Touch}
use Rattle.code_words.specs.Moves.{before_touch_by, in_sandbox_by}
use Rattle.two_memory_machine_states.specs.declared.event.Event.{Event}
use Rattle.two_memory_machine_states.specs.declared.event.Waiting.TheVariants as waiting
use Rattle.two_memory_machine_states.specs.Machines.{Machine, Doing, Running, NeedsNumber, HasNumber, Touching, Suspended, TakesAct, turn_of, waiting_for, waiting_of, with_one}
use Rattle.two_memory_machine_states.specs.Steps.{MovesBy}
use Rattle.two_memory_machine_states.proofs.Moving.{takes_before, takes_in_sandbox}

-- a touch waits
pub record IsTouching (over : Option Ending) (doing : Doing) : Type 0 where
  pub going : over ≡ None
  pub touch : Touch
  pub is : doing ≡ Touching touch

pub touching : (over : Option Ending) (doing : Doing) → waiting_for over doing ≡ waiting.Act → turns.Trusted ≡ turn_of doing → IsTouching over doing
touching (Some ending) doing waits turn = absurd (cc)
touching None Running waits turn = absurd (cc)
touching None NeedsNumber waits turn = absurd (cc)
touching None (HasNumber number) waits turn = absurd (cc)
touching None (Touching touch) waits turn = record { going = refl; touch = touch; is = refl }
touching None (Suspended import place) waits turn = absurd (cc)

-- a tainted call waits for its reply
pub record IsWaiting (over : Option Ending) (doing : Doing) : Type 0 where
  pub going : over ≡ None
  pub import : ℕ
  pub place : Place
  pub is : doing ≡ Suspended import place

pub suspended : (over : Option Ending) (doing : Doing) → waiting_for over doing ≡ waiting.Act → turns.Sandbox ≡ turn_of doing → IsWaiting over doing
suspended (Some ending) doing waits turn = absurd (cc)
suspended None Running waits turn = absurd (cc)
suspended None NeedsNumber waits turn = absurd (cc)
suspended None (HasNumber number) waits turn = absurd (cc)
suspended None (Touching touch) waits turn = absurd (cc)
suspended None (Suspended import place) waits turn = record { going = refl; import = import; place = place; is = refl }

-- a machine that has counted the act waits as before
pub touches : (old mid : Machine) (turn : Turn) → mid ≡ with_one old → waiting_of old ≡ waiting.Act → turn ≡ turn_of mid.doing → turn ≡ turns.Trusted → IsTouching mid.over mid.doing
touches old mid turn same waits here is = touching mid.over mid.doing (subst (λ (m : Machine). waiting_of m ≡ waiting.Act) (sym same) waits) (sym is ∙ here)

pub waits : (old mid : Machine) (turn : Turn) → mid ≡ with_one old → waiting_of old ≡ waiting.Act → turn ≡ turn_of mid.doing → turn ≡ turns.Sandbox → IsWaiting mid.over mid.doing
waits old mid turn same act here is = suspended mid.over mid.doing (subst (λ (m : Machine). waiting_of m ≡ waiting.Act) (sym same) act) (sym is ∙ here)

-- its move takes the act
pub before_touch : (old mid new : Machine) (event : Event) (touch : Touch) (a : Act) → mid ≡ with_one old → mid.doing ≡ Touching touch →
    MovesBy (λ s. before_touch_by mid.image mid.frame touch (act_before_touch a s.world) s) mid event new → TakesAct old a event new
before_touch old mid new event touch a same e moves =
    takes_before old new event touch a (subst (λ (m : Machine). m.doing ≡ Touching touch) same e)
    (subst (λ (m : Machine). MovesBy (λ s. before_touch_by m.image m.frame touch (act_before_touch a s.world) s) m event new) same moves)

pub in_sandbox : (old mid new : Machine) (event : Event) (import : ℕ) (place : Place) (a : Act) → mid ≡ with_one old → mid.doing ≡ Suspended import place →
    MovesBy (λ s. in_sandbox_by mid.image mid.settings (act_in_sandbox a s.world) s) mid event new → TakesAct old a event new
in_sandbox old mid new event import place a same e moves =
    takes_in_sandbox old new event import place a (subst (λ (m : Machine). m.doing ≡ Suspended import place) same e)
    (subst (λ (m : Machine). MovesBy (λ s. in_sandbox_by m.image m.settings (act_in_sandbox a s.world) s) m event new) same moves)
