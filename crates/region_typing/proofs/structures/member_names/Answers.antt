use Rattle.std.proofs.Common.{◌≡◌, ℕ, ◌+◌, ◌<◌, List, [], ◌∷◌, ◌++◌, length, map, take, get_or, sym, ap, ◌∙◌, arith}
use Rattle.std.proofs.lemmas.List.{map-append, take_more}
use Rattle.ckc_tree.specs.Items.{member, Member}
use Rattle.ckc_tree.specs.declared.item.Member as code
use Rattle.region_typing_rules.specs.Items.{member_names}
use Rattle.region_typing.proofs.structures.member_names.Goals as goal

-- a name more
name_more : (ms : List code.Member) (k : ℕ) (m : code.Member) (names new : List ℕ) → k < length ms → m ≡ get_or ms k m → new ≡ names ++ m.name.number ∷ [] → names ≡ member_names (map member (take k ms)) → new ≡ member_names (map member (take (k + 1) ms))
name_more ms k m names new less is more so_far =
    let longer : take (k + 1) ms ≡ take k ms ++ m ∷ [] = take_more ms k m less ∙ ap (λ x. take k ms ++ x ∷ []) (sym is) in
    more ∙ ap (λ ns. ns ++ m.name.number ∷ []) so_far
    ∙ sym (ap (λ xs. member_names (map member xs)) longer ∙ ap member_names (map-append member (take k ms) (m ∷ [])) ∙ map-append (λ (x : Member). x.name.number) (map member (take k ms)) (member m ∷ []))

pub loop-member-preserved : goal.loop-member-preserved
loop-member-preserved c =
    record { so_far = name_more c.args.members.now c.loop-member.member-index c.member-item.result c.loop-member.names.items c.push.new.self.items (omega (arith, c.loop-member-test.true)) c.member-item.is c.in_ok-push.ensures.items c.loop-member.invariant.so_far }
