use Rattle.std.proofs.Common.{◌≡◌, ◌++◌, map, drop}
use Rattle.ckc_tree.specs.Texts.{text}
use Rattle.ckc_core.specs.Core.{object}
use Rattle.region_typing_rules.specs.Strings.{text_object}
use Rattle.region_typing.proofs.texts.push_texts.Given as goal

-- the blocks so far with those that are left make all of them
abbrev pub invariant-loop-t : goal.invariant-loop-t
invariant-loop-t l = record {
  so_far : (map object l.initial.objects.items ++ map text_object (map text l.texts)) ≡ (map object l.objects.items ++ map text_object (map text (drop l.t-index l.texts)));
}
