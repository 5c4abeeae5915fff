-- Inside: the functions of a source that numbers name.
use Rattle.std.specs.Prelude.{ℕ, List, map}
use Rattle.ckc_core.specs.Programs.{Import, trusted_of, tainted_of}
use Rattle.ckc_core.specs.declared.program.Definition.{Definition}
use Rattle.ckc_core.specs.Core.{Function, definition}
use Rattle.partitioner.specs.Parts.{named}

-- those that are trusted
abbrev pub trusted_at : List Definition → List ℕ → List Function
trusted_at definitions numbers = trusted_of (map definition (named definitions numbers))

-- those that are tainted
abbrev pub tainted_at : List Definition → List ℕ → List Import
tainted_at definitions numbers = tainted_of (map definition (named definitions numbers))
