use Rattle.std.proofs.Common.{◌≡◌, ◌+◌, ◌≤◌, map, drop}
use Rattle.ckc_tree.specs.Texts.{text}
use Rattle.region_typing_rules.specs.Strings.{texts_size}
use Rattle.region_typing_scope.proofs.strings.Strings.fit_behind.Given as goal

-- what is left, beside what the strings take that are left
abbrev pub invariant-loop-t : goal.invariant-loop-t
invariant-loop-t l = record {
  few : l.left ≤ 32768;
  same : l.left + (l.taken + texts_size (map text l.self.texts.items)) ≡ 32768 + texts_size (map text (drop l.t-index l.self.texts.items));
}
