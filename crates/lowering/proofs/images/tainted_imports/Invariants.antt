use Rattle.std.proofs.Common.{◌≡◌, ◌++◌, map, drop}
use Rattle.std.specs.Prelude.{All}
use Rattle.code_words.specs.Formats.{IsImport}
use Rattle.ckc_core.specs.Core.{import_of}
use Rattle.lowering.specs.Images.{imports_from}
use Rattle.lowering.proofs.images.tainted_imports.Given as goal

-- the imports so far and those that are left are all; those so far keep what each import of an image does
abbrev pub invariant-loop-index : goal.invariant-loop-index
invariant-loop-index l =
    (l.imports.items ++ imports_from l.index (map import_of (drop l.index l.functions)) ≡ imports_from 0 (map import_of l.functions))
    × All IsImport l.imports.items
