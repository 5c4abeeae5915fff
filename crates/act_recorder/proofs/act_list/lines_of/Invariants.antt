use Rattle.std.proofs.Common.{◌≡◌, ◌++◌, drop, map}
use Rattle.std.specs.Prelude.{flat_map}
use Rattle.act_words.specs.Acts.{act_view}
use Rattle.act_words.specs.Lines.{act_line}
use Rattle.act_recorder.proofs.act_list.lines_of.Given as goal

-- the lines of the acts that are left complete the text
abbrev pub invariant-loop-act : goal.invariant-loop-act
invariant-loop-act l = l.text.items ++ flat_map act_line (map act_view (drop l.act-index l.acts)) ≡ flat_map act_line (map act_view l.acts)
