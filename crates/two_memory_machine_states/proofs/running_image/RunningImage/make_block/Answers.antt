use Rattle.std.proofs.lemmas.Bool.Decides.{nat_tests}
use Rattle.std.proofs.lemmas.Grind.{elements, common_steps}
use Rattle.std.proofs.Common.{◌≡◌, true, length, refl, arith, rules}
use Rattle.flat_bytes.specs.Blocks.{is_refused}
use Rattle.two_memory_machine_states.proofs.Refusals.{refused_large}
use Rattle.two_memory_machine_states.proofs.running_image.RunningImage.make_block.Goals as goal
use Rattle.two_memory_machine_states.proofs.running_image.RunningImage.make_block.Goals.{Then-bytes-from}

refused : (c : Then-bytes-from) → is_refused (length c.self.inside.memory.bytes) c.self.inside.memory.counter c.args.bytes ≡ true
refused c = refused_large (length c.self.inside.memory.bytes) c.self.inside.memory.counter c.args.bytes (omega (arith, c.if-bytes-from.true, c.from.ensures, c.size.ensures))

pub returns-then-bytes-from-clause-address : goal.returns-then-bytes-from-clause-address
returns-then-bytes-from-clause-address c = rw (← c.self.view_is, refused c) refl

pub returns-then-bytes-from-clause-after : goal.returns-then-bytes-from-clause-after
returns-then-bytes-from-clause-after c = rw (← c.self.view_is, refused c) refl

pub index_mut-requires : goal.index_mut-requires
index_mut-requires c = search rules

pub invariant_of-self : goal.invariant_of-self
invariant_of-self c = grind (arith, elements)

pub invariant_of-self-else-address-ne0 : goal.invariant_of-self-else-address-ne0
invariant_of-self-else-address-ne0 c = grind (arith, nat_tests)

pub returns-then-address-ne0-clause-address : goal.returns-then-address-ne0-clause-address
returns-then-address-ne0-clause-address c = search rules

pub returns-then-address-ne0-clause-after : goal.returns-then-address-ne0-clause-after
returns-then-address-ne0-clause-after c = grind (arith, common_steps)

pub returns-else-address-ne0-clause-address : goal.returns-else-address-ne0-clause-address
returns-else-address-ne0-clause-address c = search rules

pub returns-else-address-ne0-clause-after : goal.returns-else-address-ne0-clause-after
returns-else-address-ne0-clause-after c = grind (arith, nat_tests)
