-- Which settings a run may have.
use Rattle.std.specs.Prelude.{◌≡◌, ◌≤◌, ◌%◌}
use Rattle.act_words.specs.declared.settings.Settings.{Settings}

pub record AreAllowed (s : Settings) : Type 0 where
  pub least_budget : 1 ≤ s.budget
  pub most_budget : s.budget ≤ 1000000000
  pub least_sandbox : 65536 ≤ s.sandbox
  pub most_sandbox : s.sandbox ≤ 16777216
  pub least_trusted : 65536 ≤ s.trusted
  pub most_trusted : s.trusted ≤ 4194304
  pub least_base : 16 ≤ s.base
  pub most_base : s.base ≤ 4026531840
  pub base_aligned : s.base % 16 ≡ 0
