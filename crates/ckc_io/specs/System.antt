-- What the answers of an operating system mean.
use Rattle.std.specs.Prelude.{◌≡◌, ℕ, zero, suc, Result, Ok, Err}
use Rattle.std.specs.declared.io.Error.{Error}
use Rattle.std.specs.IoError.{error_kind}
use Rattle.std.specs.declared.io.ErrorKind.{ErrorKind}
use Rattle.std.specs.declared.io.ErrorKind.TheVariants.{NotFound}
use Rattle.ckc_io.specs.declared.shelf.ShelfFault.{ShelfFault}
use Rattle.ckc_io.specs.declared.shelf.ShelfFault.TheVariants as shelf
use Rattle.ckc_io.specs.declared.sink.SinkFault.{SinkFault}
use Rattle.ckc_io.specs.declared.sink.SinkFault.TheVariants as sink

-- a file that isn't opened is missing exactly where the system finds none of its name
abbrev pub open_fault : ErrorKind → ShelfFault
open_fault NotFound = shelf.Missing
open_fault _ = shelf.Failed

-- what reading from an open file answers: the count of bytes that the system tells
abbrev pub read_count : Result ℕ Error → Result ℕ ShelfFault
read_count (Ok count) = Ok count
read_count (Err error) = Err shelf.Failed

-- what a read of a name answers, where the system answered its opening so: the file is read once, if there is one
abbrev pub ReadsOpened : {S F : Type 0} → (F → S → Result ℕ Error → S → Type 0) → Result F Error → S → S → Result ℕ ShelfFault → Type 0
ReadsOpened reads (Ok file) opened after result = (answer : Result ℕ Error) × reads file opened answer after × (result ≡ read_count answer)
ReadsOpened reads (Err error) opened after result = (after ≡ opened) × (result ≡ Err (open_fault (error_kind error)))

-- a write may take nothing of an empty piece alone
abbrev pub taken_of : ℕ → ℕ → Result ℕ SinkFault
taken_of zero count = Ok count
taken_of (suc len) zero = Err sink.Failed
taken_of (suc len) (suc count) = Ok (suc count)

-- what writing a piece of so many bytes answers: the count of bytes that the system took
abbrev pub written_count : ℕ → Result ℕ Error → Result ℕ SinkFault
written_count len (Ok count) = taken_of len count
written_count len (Err error) = Err sink.Failed
