use Rattle.std.proofs.Common.{◌≡◌, ◌-◌, ◌++◌, length, take, drop, replicate, sym, ap, ◌∙◌, arith}
use Rattle.std.proofs.lemmas.List.{length-append, length-take-le, length-drop, length-replicate}
use Rattle.std.proofs.lemmas.Slice.{take-put_mid}
use Rattle.std.proofs.Math.Seq.{drop-append_seam}
use Rattle.two_memory_machine_memory.proofs.calls.fill_slots.Goals as goal

pub returns-clause-slots : goal.returns-clause-slots
returns-clause-slots c =
    let base = c.args.base in
    let room = c.args.room in
    let args = c.args.args.now in
    let words = c.args.words.now in
    let part : length (take (room - base) (drop base words)) ≡ room - base = length-take-le (room - base) (drop base words) (omega (arith, length-drop base words, c.requires)) in
    let slots = c.write_slots.ensures ∙ ap (λ n. args ++ replicate (n - length args) 0) part in
    let len : length c.write_slots.new.slots ≡ room - base = ap length slots ∙ simp (length-append, length-replicate) (omega (arith, c.requires)) in
    let front : length (take base words) ≡ base = length-take-le base words (omega (arith, c.requires)) in
    ap (drop base) (take-put_mid base (room - base) words c.write_slots.new.slots room (omega (arith, len, c.requires)) (omega (arith, c.requires)))
    ∙ ap (λ n. drop n (take base words ++ c.write_slots.new.slots)) (sym front)
    ∙ drop-append_seam (take base words) c.write_slots.new.slots
    ∙ slots
