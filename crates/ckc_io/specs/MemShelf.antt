-- Files in memory.
use Rattle.std.specs.Prelude.{ℕ, min, List, length, drop, Result, Ok, Err, refl}
use Rattle.std.specs.Coded.{Coded, code_by, coded×, coded_ℕ, coded_list}
use Rattle.std.specs.FinMap.{code}
use Rattle.ckc_io.specs.Calls.{CallState, raised}
use Rattle.ckc_io.specs.Files.{Files}
use Rattle.ckc_io.specs.declared.shelf.ShelfFault.{ShelfFault}
use Rattle.ckc_io.specs.declared.shelf.ShelfFault.TheVariants.{Missing, Failed}

-- files that are read in memory
pub record ShelfState : Type 0 where
  pub files : Files
  pub calls : CallState
  pub misses : ℕ
  pub faults : ℕ

-- a call state is stored as the pair of its fields
abbrev pub coded_calls : Coded CallState
coded_calls =
    code_by (List ℕ × ℕ) (coded× (coded_list coded_ℕ) coded_ℕ) (λ c. (c.failing, c.made)) (λ p. record { failing = p.0; made = p.1 }) (λ _. refl)

-- a shelf is stored as the pairs of its fields
abbrev pub coded_shelf : Coded ShelfState
coded_shelf =
    code_by (Files × (CallState × (ℕ × ℕ)))
    (coded× (code (coded_list coded_ℕ) (coded_list coded_ℕ)) (coded× coded_calls (coded× coded_ℕ coded_ℕ)))
    (λ s. (s.files, (s.calls, (s.misses, s.faults))))
    (λ p. record { files = p.0; calls = p.1.0; misses = p.1.1.0; faults = p.1.1.1 })
    (λ _. refl)

-- how many bytes a read from an offset gives to a buffer of a length
abbrev pub share_of : List ℕ → ℕ → ℕ → ℕ
share_of file from len = min len (length (drop from file))

-- the number of missing files after an answer
abbrev pub misses_after : {A : Type 0} → Result A ShelfFault → ℕ → ℕ
misses_after (Ok x) misses = misses
misses_after (Err Missing) misses = raised misses
misses_after (Err Failed) misses = misses

-- the number of failures after an answer
abbrev pub faults_after : {A : Type 0} → Result A ShelfFault → ℕ → ℕ
faults_after (Ok x) faults = faults
faults_after (Err Missing) faults = faults
faults_after (Err Failed) faults = raised faults
