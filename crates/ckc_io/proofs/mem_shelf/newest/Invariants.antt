use Rattle.std.proofs.Common.{◌≡◌, drop}
use Rattle.ckc_io.proofs.Found.{found}
use Rattle.ckc_io.proofs.mem_shelf.newest.Given as goal

-- what is left has the file that all have
abbrev pub invariant-loop-file : goal.invariant-loop-file
invariant-loop-file l = found l.name (drop l.file-index l.files) ≡ found l.name l.files
