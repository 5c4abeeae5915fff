use Rattle.std.proofs.Common.{map}
use Rattle.pointer_modes.specs.Types.{member}
use Rattle.region_typing_scope.proofs.FileLevel.{scalar_given, length_given}
use Rattle.region_typing_scope.proofs.scope.Scope.give_members.Goals as goal

pub invariant_of-self-clause-scalar : goal.invariant_of-self-clause-scalar
invariant_of-self-clause-scalar c = rw c.give.ensures (scalar_given c.args.self.now.structs c.args.number (map member c.args.members.items) c.requires.scalar c.args.self.now.scalar)

pub invariant_of-self-clause-few_tags : goal.invariant_of-self-clause-few_tags
invariant_of-self-clause-few_tags c = rw (c.give.ensures, length_given c.args.self.now.structs c.args.number (map member c.args.members.items)) c.args.self.now.few_tags

pub invariant_of-self-clause-few_structs : goal.invariant_of-self-clause-few_structs
invariant_of-self-clause-few_structs c = rw (c.give.ensures, length_given c.args.self.now.structs c.args.number (map member c.args.members.items)) c.args.self.now.few_structs
