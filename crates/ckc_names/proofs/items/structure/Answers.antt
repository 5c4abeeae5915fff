use Rattle.std.proofs.Common.{◌∷◌, map, refl, ap, sym}
use Rattle.ckc_tree.specs.Items.{member}
use Rattle.ckc_names_rules.specs.Mentions.{DeclareTag, in_block, listed_mentions}
use Rattle.ckc_names.proofs.Going.{on}
use Rattle.ckc_names.proofs.items.structure.Goals as goal

pub returns : goal.returns
returns c =
    on (ap (λ slice. DeclareTag c.args.written.now.tag ∷ in_block (listed_mentions (map member slice))) (sym c.as_slice.ensures.value)) c.declare_tag.ensures (on refl c.open.ensures (on refl c.members.ensures c.close.ensures))
