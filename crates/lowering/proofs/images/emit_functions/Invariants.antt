use Rattle.std.proofs.Common.{◌≡◌, ◌++◌, map, drop}
use Rattle.std.specs.Prelude.{All}
use Rattle.code_words.specs.Formats.{IsFunc}
use Rattle.check_insertion.specs.Erased.{function}
use Rattle.lowering.specs.Images.{functions_from}
use Rattle.lowering.proofs.images.emit_functions.Given as goal

-- the functions so far and those that are left are all; those so far keep what each function of an image does
abbrev pub invariant-loop-index : goal.invariant-loop-index
invariant-loop-index l =
    (l.funs.items ++ functions_from l.index (map function (drop l.index l.functions)) ≡ functions_from 0 (map function l.functions))
    × All IsFunc l.funs.items
