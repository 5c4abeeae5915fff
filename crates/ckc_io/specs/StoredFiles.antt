-- Files in a list, the newest first.
use Rattle.std.specs.Prelude.{ℕ, List, map}
use Rattle.std.specs.String.{string_bytes}
use Rattle.std.specs.FinMap.{from_entries}
use Rattle.ckc_io.specs.Files.{Files}
use Rattle.ckc_io.specs.declared.mem_shelf.StoredFile.{StoredFile}

-- a file with its name
abbrev pub entry_of : StoredFile → List ℕ × List ℕ
entry_of file = (string_bytes file.name, file.bytes.items)

-- the map of the newest file of each name
abbrev pub files_of : List StoredFile → Files
files_of files = from_entries (map entry_of files)
