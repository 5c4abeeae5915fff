use Rattle.std.proofs.Common.{◌≡◌, ℕ, suc, ◌+◌, ◌≤◌, List, length, take, drop, refl, sym, ◌∙◌, append_assoc, arith, w32}
use Rattle.std.specs.Int.{to_le_bytes}
use Rattle.std.proofs.lemmas.List.Edits.{sets, sets-eq, paste_all}
use Rattle.std.proofs.lemmas.Nat.{shr-shr}
use Rattle.std.proofs.lemmas.Slice.{put_mid-paste}
use borrow.Rule.Slice.PartMut.{put_mid}
use Rattle.flat_bytes.specs.Words.{with_word}
use Rattle.flat_bytes.proofs.words.put4.Goals as goal

-- the bytes of a word, set one after another
sets-bytes : (xs : List ℕ) (at v : ℕ) → sets xs at (to_le_bytes w32 v) ≡ with_word 4 xs at v
sets-bytes xs at v =
    let one : suc at ≡ at + 1 = omega arith in
    let two : suc (suc at) ≡ at + 1 + 1 = omega arith in
    let three : suc (suc (suc at)) ≡ at + 1 + 1 + 1 = omega arith in
    let second = shr-shr v 8 8 in
    let third = shr-shr v 16 8 in
    cc

-- the bytes of a word, written over four bytes
put_mid-bytes : (xs ys : List ℕ) (at k v : ℕ) → at + 4 ≤ length xs → 4 ≡ k → ys ≡ to_le_bytes w32 v → put_mid at k xs ys ≡ with_word 4 xs at v
put_mid-bytes xs ys at k v fits four same =
    let bytes = to_le_bytes w32 v in
    let grouped = append_assoc (take at xs) bytes (drop (at + 4) xs) in
    put_mid-paste at k xs ys bytes 4 same four refl ∙ paste_all xs at bytes 4 refl ∙ sym grouped ∙ sym (sets-eq bytes xs at fits) ∙ sets-bytes xs at v

pub returns : goal.returns
returns c = put_mid-bytes c.args.b.now _ c.args.at _ c.args.v c.requires (omega arith) cc
