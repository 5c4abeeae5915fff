use Rattle.std.proofs.Common.{ℕ, ◌+◌, ◌<◌, ◌≤◌, get_or}
use Rattle.code_words.specs.Functions.{Func}
use Rattle.two_memory_machine_memory.proofs.calls.widest.Given as goal

-- no frame so far has more words
abbrev pub invariant-loop-fun : goal.invariant-loop-fun
invariant-loop-fun l = record {
  each : (k : ℕ) (d : Func) → k < l.fun-index → (get_or l.funs k d).slots + (get_or l.funs k d).stack ≤ l.most;
  few : l.most ≤ 4096;
}
