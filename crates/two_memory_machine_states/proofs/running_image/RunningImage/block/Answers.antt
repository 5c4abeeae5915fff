use Rattle.std.proofs.lemmas.Grind.{elements}
use Rattle.std.proofs.Common.{◌≡◌, ◌≤◌, Some, take, refl, sym, ap, ◌∙◌, arith, rules}
use Rattle.std.specs.Prelude.{slice_get}
use Rattle.std.proofs.lemmas.List.{length-take}
use Rattle.std.proofs.lemmas.List.Elements.{All-take}
use Rattle.std.proofs.lemmas.Option.{slice_get_within}
use Rattle.two_memory_machine_memory.specs.declared.blocks.BlockRow.{BlockRow}
use Rattle.two_memory_machine_memory.specs.Places.{block_row}
use Rattle.two_memory_machine_states.proofs.Callers.{item_found, all_found}
use Rattle.two_memory_machine_memory.proofs.Statics.{slice_get-map}
use Rattle.two_memory_machine_states.proofs.running_image.RunningImage.block.Goals as goal
use Rattle.two_memory_machine_states.proofs.running_image.RunningImage.block.Goals.{In_ok-block}

there : (c : In_ok-block) → slice_get (take c.self.inside.made c.self.inside.blocks.items) c.args.k ≡ Some c.in_ok-block.block.now
there c =
    let found = item_found (take c.self.inside.made c.deref.result.now) c.args.k (Some c.in_ok-block.block) c.in_ok-block.ensures.lookup in
    ap (λ xs. slice_get (take c.self.inside.made xs) c.args.k) (sym c.deref.ensures.value) ∙ sym found

low : (c : In_ok-block) → c.in_ok-block.block.now.offset ≤ c.self.inside.settings.trusted
low c =
    let i = c.self.inside in
    all_found (λ (r : BlockRow). r.offset ≤ i.settings.trusted) (take i.made i.blocks.items) c.args.k c.in_ok-block.block.now (All-take (λ (r : BlockRow). r.offset ≤ i.settings.trusted) i.made i.blocks.items c.self.invariant.rows) (there c)

pub placed-requires : goal.placed-requires
placed-requires c = omega (arith, low c, c.self.invariant.fits.allowed.most_base, c.self.invariant.fits.allowed.most_trusted)

pub returns-clause-before_end : goal.returns-clause-before_end
returns-clause-before_end c =
    let b = (goal.at.returns-clause-before_end c).In_ok-block in
    let i = c.self.inside in
    omega (arith, slice_get_within (take i.made i.blocks.items) c.args.k c.in_ok-block.block.now (there b), length-take i.made i.blocks.items, c.self.invariant.made, c.self.invariant.counter, c.self.invariant.fits.allowed.most_trusted)

pub returns-clause-block : goal.returns-clause-block
returns-clause-block c =
    let b = (goal.at.returns-clause-block c).In_ok-block in
    let i = c.self.inside in
    rw (c.placed.ensures, ← c.self.view_is, slice_get-map block_row (take i.made i.blocks.items) c.args.k c.in_ok-block.block.now (there b), c.self.invariant.base) refl

pub slice_bounds-get-end : goal.slice_bounds-get-end
slice_bounds-get-end c = search rules

pub returns-in_err-block-clause-block : goal.returns-in_err-block-clause-block
returns-in_err-block-clause-block c = grind (arith, elements)
