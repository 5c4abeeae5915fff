-- A word that is pushed where there is room for it.
use Rattle.std.specs.Prelude.{◌≡◌, ℕ, Bool, true, false, ◌∷◌}
use Rattle.two_memory_machine_states.specs.Machines.{Machine}

-- the word was pushed, if there was room for it
abbrev pub HasPushed : Bool → ℕ → Machine → Bool → Machine → Type 0
HasPushed true word old result new = (result ≡ true) × (new ≡ record old { frame = record old.frame { stack = word ∷ old.frame.stack } })
HasPushed false word old result new = (result ≡ false) × (new ≡ old)
