-- The run of an image that keeps the pace ends.
use Rattle.std.proofs.Common.{◌≡◌, ℕ, zero, suc, ◌<◌, ◌≤◌, inl, inr, ℤ, Bool, true, false, List, [], ◌∷◌, length, refl, sym, ap, ◌∙◌, subst, arith}
use Rattle.std.specs.Prelude.{IsTrue}
use Rattle.act_words.specs.declared.act.Turn.TheVariants as turns
use Rattle.act_words.specs.declared.ending.Ending.{Ending}
use Rattle.act_words.specs.declared.settings.Settings.{Settings}
use Rattle.act_words.specs.Acts.{Act, Go, Read, Write, Call, Return, Stop}
use Rattle.act_words.specs.Acting.{lies_in, shown_if, written_if, waits_or_ends, keeps_or_ends}
use Rattle.act_words.specs.World.{taken_one}
use Rattle.code_words.specs.Images.{Image}
use Rattle.code_words.specs.Left.{moves_left, LeavesTurn}
use Rattle.code_words.specs.Moves.{move, move_by, before_touch, in_sandbox, before_touch_by, in_sandbox_by, take_before_touch, take_in_sandbox}
use Rattle.code_words.specs.Paced.{is_paced}
use Rattle.code_words.specs.Runs.{Finished, exec, go_on, started}
use Rattle.code_words.specs.Table.{Frame, Touch, Control, Runs, Touches, Away, State, Step, Goes, Over}
use Rattle.code_words.proofs.Left.{Falls, Sooner, runs-falls, touches-sooner, away-sooner, touches-falls, away-falls}

-- ---- an act behind which as many moves are left is gone

-- behind the move these acts are left
abbrev Leaves : List Act → Step → Type 0
Leaves acts (Goes t) = t.world.acts ≡ acts
Leaves acts (Over ending t) = Unit {0}

act_leaves : (image : Image) (f : Frame) (touch : Touch) (act : Act) (acts : List Act) (s : State) → LeavesTurn act turns.Trusted → Leaves acts (take_before_touch image f touch act acts s)
act_leaves image f touch Go acts s stays = absurd stays
act_leaves image f touch (Read at len) acts s stays = by (lies_in at len s.world.sandbox)
  where
    by : (inside : Bool) → Leaves acts (before_touch_by image f touch (waits_or_ends (shown_if inside at len (taken_one (Read at len) acts s.world)) (taken_one (Read at len) acts s.world)) s)
    by true = refl
    by false = tt
act_leaves image f touch (Write at bytes) acts s stays = by (lies_in at (length bytes) s.world.sandbox)
  where
    by : (inside : Bool) → Leaves acts (before_touch_by image f touch (waits_or_ends (written_if inside at bytes (taken_one (Write at bytes) acts s.world)) (taken_one (Write at bytes) acts s.world)) s)
    by true = refl
    by false = tt
act_leaves image f touch (Call fun args) acts s stays = absurd stays
act_leaves image f touch (Return value) acts s stays = absurd stays
act_leaves image f touch Stop acts s stays = absurd stays

sandbox_act_leaves : (image : Image) (settings : Settings) (act : Act) (acts : List Act) (s : State) → LeavesTurn act turns.Sandbox → Leaves acts (take_in_sandbox image settings act acts s)
sandbox_act_leaves image settings Go acts s stays = refl
sandbox_act_leaves image settings (Read at len) acts s stays = by (lies_in at len s.world.sandbox)
  where
    by : (inside : Bool) → Leaves acts (in_sandbox_by image settings (keeps_or_ends (shown_if inside at len (taken_one (Read at len) acts s.world)) (taken_one (Read at len) acts s.world)) s)
    by true = refl
    by false = tt
sandbox_act_leaves image settings (Write at bytes) acts s stays = by (lies_in at (length bytes) s.world.sandbox)
  where
    by : (inside : Bool) → Leaves acts (in_sandbox_by image settings (keeps_or_ends (written_if inside at bytes (taken_one (Write at bytes) acts s.world)) (taken_one (Write at bytes) acts s.world)) s)
    by true = refl
    by false = tt
sandbox_act_leaves image settings (Call fun args) acts s stays = absurd stays
sandbox_act_leaves image settings (Return value) acts s stays = absurd stays
sandbox_act_leaves image settings Stop acts s stays = absurd stays

-- ---- by the moves that are left, and by the acts where as many are left

module _ (image : Image) (settings : Settings) (paced : IsTrue (is_paced image)) where
  -- the run from a state ends
  pub record HasEnd (s : State) : Type 0 where
    pub steps : ℕ
    pub ending : Ending
    pub last : State
    pub ends : exec image settings steps s ≡ Finished ending last

  abbrev Behind : Step → Type 0
  Behind (Goes t) = HasEnd t
  Behind (Over ending t) = Unit {0}

  by_move : (s : State) (next : Step) → move image settings s ≡ next → Behind next → HasEnd s
  by_move s (Goes t) e h = record { steps = suc h.steps; ending = h.ending; last = h.last; ends = ap (λ x. go_on x (exec image settings h.steps)) e ∙ h.ends }
  by_move s (Over ending t) e h = record { steps = suc zero; ending = ending; last = t; ends = ap (λ x. go_on x (exec image settings zero)) e }

  -- from each state with fewer moves left the run ends
  abbrev EndBelow : ℕ → Type 0
  EndBelow m = (t : State) → moves_left image settings t < m → HasEnd t

  behind_fall : (m : ℕ) (s : State) (next : Step) → EndBelow m → moves_left image settings s ≤ m → Falls image settings paced s next → Behind next
  behind_fall m s (Goes t) below le falls = below t (omega (arith, falls, le))
  behind_fall m s (Over ending t) below le falls = tt

  -- so it does from each state with as many, over these acts
  abbrev EndOver : ℕ → List Act → Type 0
  EndOver m acts = (t : State) → t.world.acts ≡ acts → moves_left image settings t ≤ m → HasEnd t

  behind_act : (m : ℕ) (Stays : Type 0) (acts : List Act) (s : State) (next : Step) → EndBelow m → EndOver m acts → moves_left image settings s ≤ m → (Stays → Leaves acts next) → Sooner image settings paced Stays s next → Behind next
  behind_act m Stays acts s (Goes t) below over le leaves (inl falls) = below t (omega (arith, falls, le))
  behind_act m Stays acts s (Goes t) below over le leaves (inr same) = over t (leaves same.2) (omega (arith, same.0, le))
  behind_act m Stays acts s (Over ending t) below over le leaves sooner = tt

  touch_leaves : (f : Frame) (touch : Touch) (act : Act) (acts : List Act) (s : State) → s.control ≡ Touches f touch → s.world.acts ≡ act ∷ acts → LeavesTurn act turns.Trusted → Leaves acts (move image settings s)
  touch_leaves f touch act acts s waits some stays =
      subst (λ control. Leaves acts (move_by image settings control s)) (sym waits)
      (subst (λ taken. Leaves acts (before_touch image f touch taken s)) (sym some) (act_leaves image f touch act acts s stays))

  away_leaves : (act : Act) (acts : List Act) (s : State) → s.control ≡ Away → s.world.acts ≡ act ∷ acts → LeavesTurn act turns.Sandbox → Leaves acts (move image settings s)
  away_leaves act acts s away some stays =
      subst (λ control. Leaves acts (move_by image settings control s)) (sym away)
      (subst (λ taken. Leaves acts (in_sandbox image settings taken s)) (sym some) (sandbox_act_leaves image settings act acts s stays))

  without_acts : (m : ℕ) (s : State) → EndBelow m → s.world.acts ≡ [] → moves_left image settings s ≤ m → (control : Control) → s.control ≡ control → Behind (move image settings s)
  without_acts m s below none le (Runs f) at = behind_fall m s (move image settings s) below le (runs-falls image settings paced f s at)
  without_acts m s below none le (Touches f touch) at = behind_fall m s (move image settings s) below le (touches-falls image settings paced f touch s at none)
  without_acts m s below none le Away at = behind_fall m s (move image settings s) below le (away-falls image settings paced s at none)

  with_act : (m : ℕ) (act : Act) (acts : List Act) (s : State) → EndBelow m → EndOver m acts → s.world.acts ≡ act ∷ acts → moves_left image settings s ≤ m → (control : Control) → s.control ≡ control → Behind (move image settings s)
  with_act m act acts s below over some le (Runs f) at = behind_fall m s (move image settings s) below le (runs-falls image settings paced f s at)
  with_act m act acts s below over some le (Touches f touch) at =
      behind_act m (LeavesTurn act turns.Trusted) acts s (move image settings s) below over le (touch_leaves f touch act acts s at some) (touches-sooner image settings paced f touch act acts s at some)
  with_act m act acts s below over some le Away at =
      behind_act m (LeavesTurn act turns.Sandbox) acts s (move image settings s) below over le (away_leaves act acts s at some) (away-sooner image settings paced act acts s at some)

  end_over : (m : ℕ) → EndBelow m → (acts : List Act) → EndOver m acts
  end_over m below [] s none le = by_move s (move image settings s) refl (without_acts m s below none le s.control refl)
  end_over m below (act ∷ acts) s some le = by_move s (move image settings s) refl (with_act m act acts s below (end_over m below acts) some le s.control refl)

  end_below : (m : ℕ) → EndBelow m
  end_below zero s lt = absurd (omega (arith, lt))
  end_below (suc m) s lt = end_over m (end_below m) s.world.acts s refl (omega (arith, lt))

  pub run_ends : (inputs : List ℤ) (acts : List Act) → HasEnd (started image settings inputs acts)
  run_ends inputs acts = let s = started image settings inputs acts in end_below (suc (moves_left image settings s)) s (omega arith)
