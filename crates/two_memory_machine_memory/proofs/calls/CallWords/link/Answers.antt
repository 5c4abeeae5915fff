use Rattle.std.proofs.Common.{◌≡◌, ◌-◌, ◌<◌, subst, sym, ap, ◌∙◌, get_or, arith}
use Rattle.std.proofs.lemmas.Option.{slice_get_read}
use Rattle.two_memory_machine_memory.specs.CallStacks.{link_of}
use Rattle.two_memory_machine_memory.specs.CallInsides.{AreStacked, behind_rows}
use Rattle.two_memory_machine_memory.proofs.Stacked.{last_row, one_row}
use Rattle.two_memory_machine_memory.proofs.calls.CallWords.link.Goals as goal

pub returns : goal.returns
returns c =
    let i = c.self.inside in
    let h = c.self.invariant in
    let row = c.index.result.now in
    let some : 0 < i.count = omega (arith, c.in_ok-last.ensures) in
    let before : c.in_ok-last.last ≡ i.count - 1 = omega (arith, c.in_ok-last.ensures) in
    let read : row ≡ get_or i.rows.items (i.count - 1) row = c.index.ensures ∙ ap (λ n. get_or i.rows.items n row) before in
    let there = slice_get_read i.rows.items 1000 (i.count - 1) row (sym h.rows) (omega (arith, h.few)) read in
    let last = last_row i.funs.now i.stride i.words.items i.rows.items (i.count - 1) i.extent.base row there (subst (λ n. AreStacked i.funs.now i.stride i.rows.items n i.extent.base) (one_row i.count some) h.behind) in
    let behind = ap (behind_rows i.words.items i.rows.items) (one_row i.count some) ∙ last.first in
    rw (← c.self.view_is) (sym (ap link_of behind))
