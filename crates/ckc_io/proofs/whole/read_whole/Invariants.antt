use Rattle.std.proofs.Common.{◌≡◌, ◌-◌, ◌≤◌, ℕ, List, Some, length, take, vec_len}
use Rattle.ckc_io.specs.Files.{Told, file_at}
use Rattle.ckc_io.proofs.whole.read_whole.Given as goal

abbrev pub invariant-loop-bytes : goal.invariant-loop-bytes
invariant-loop-bytes g l =
    let shelf = g.F.Shelf in
    record {
      within : vec_len l.bytes ≤ l.most;
      files : shelf.files l.shelf ≡ shelf.files l.fn.shelf;
      misses : shelf.misses l.shelf ≡ shelf.misses l.fn.shelf;
      faults : shelf.faults l.shelf ≡ shelf.faults l.fn.shelf;
      front : Told (shelf.files l.fn.shelf) (λ m. (file : List ℕ) → file_at m l.name ≡ Some file → l.bytes.items ≡ take (length l.bytes.items) file);
    }

abbrev pub decreases-loop-bytes : goal.decreases-loop-bytes
decreases-loop-bytes g l = l.most - vec_len l.bytes
