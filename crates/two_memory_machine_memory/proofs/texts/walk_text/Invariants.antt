use Rattle.std.proofs.Common.{◌≡◌, ◌+◌, ◌-◌, ◌≤◌, List, ℕ, length}
use Rattle.code_words.specs.Functions.{Func}
use Rattle.code_words.specs.Table.{Frame, State, count_from}
use Rattle.two_memory_machine_memory.specs.Texts.{with_ticks}
use Rattle.two_memory_machine_memory.proofs.texts.walk_text.Given as goal

-- the count goes on from here, with as many bytes left
abbrev pub invariant-loop-count : goal.invariant-loop-count
invariant-loop-count l = record {
  place : l.at ≡ l.start + l.count;
  ticks : l.ticks + l.count ≤ l.budget;
  inside : l.count ≤ l.at - l.memory.base;
  goes_on : (fun : Func) (stack : List ℕ) (f : Frame) (s : State) → s.memory ≡ l.memory → s.world.ticks ≡ l.ticks → count_from (length l.memory.bytes) fun l.budget l.start 0 stack f s ≡ count_from (length l.memory.bytes - l.count) fun l.budget l.at l.count stack f (with_ticks (l.ticks + l.count) s);
}

abbrev pub decreases-loop-count : goal.decreases-loop-count
decreases-loop-count l = l.budget - l.count
