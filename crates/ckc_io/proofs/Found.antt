-- A look through a list of files, the newest first.
use Rattle.std.proofs.Common.{◌≡◌, ℕ, ◌+◌, ◌<◌, Bool, cond, List, ◌∷◌, map, length, get_or, drop, Option, Some, sym, ap, ◌∙◌}
use Rattle.std.specs.Ordering.{nat_cmp}
use Rattle.std.specs.Cmp.Lexicographic.{slice_cmp, texts_ties}
use Rattle.std.specs.FinMap.{find, get-from_entries}
use Rattle.std.specs.Str.{bytes_eq}
use Rattle.std.specs.String.{string_bytes}
use Rattle.std.proofs.lemmas.Cmp.{nat_list_cmp_total}
use Rattle.std.proofs.lemmas.List.{at_drop_more}
use Rattle.ckc_io.specs.Files.{file_at}
use Rattle.ckc_io.specs.StoredFiles.{entry_of, files_of}
use Rattle.ckc_io.specs.declared.mem_shelf.StoredFile.{StoredFile}

-- the bytes of the first file of a name
abbrev pub found : List ℕ → List StoredFile → Option (List ℕ)
found name files = find (slice_cmp nat_cmp) name (map entry_of files)

-- the first one is the one in the map
pub file_at-files_of : (files : List StoredFile) (name : List ℕ) → file_at (files_of files) name ≡ found name files
file_at-files_of files name = get-from_entries nat_list_cmp_total (map entry_of files) name

-- what is found from a place on, by a test of the name at the place
pub found-drop : (name : List ℕ) (files : List StoredFile) (at : ℕ) (file : StoredFile) (test : Bool) → at < length files → file ≡ get_or files at file → test ≡ bytes_eq name (string_bytes file.name) → found name (drop at files) ≡ cond test (Some file.bytes.items) (found name (drop (at + 1) files))
found-drop name files at file test within is tested =
    at_drop_more (found name) files at file within
    ∙ ap (λ f. found name (f ∷ drop (at + 1) files)) (sym is)
    ∙ ap (λ b. cond b (Some file.bytes.items) (found name (drop (at + 1) files))) (sym (tested ∙ texts_ties name (string_bytes file.name)))
