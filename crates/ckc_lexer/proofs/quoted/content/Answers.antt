use Rattle.std.proofs.Common.{◌≡◌, [], drop, sym, subst, append-nil, length-drop, arith}
use Rattle.std.proofs.lemmas.List.{take_rest, drop_all}
use Rattle.ckc_lexer.specs.Quoted.{Means, nothing}
use Rattle.ckc_lexer.proofs.Meanings.{no_byte, more_bytes, after_byte_at}
use Rattle.ckc_lexer.proofs.quoted.content.Goals as goal

pub returns-in_default : goal.returns-in_default
returns-in_default c =
    let e = rw take_rest at c.in_default.ensures in
    λ bytes h. no_byte (sym e.byte) (omega (arith, length-drop c.loop-at.at c.args.text.now)) (c.loop-at.invariant.begun bytes h).1

pub loop-at-preserved : goal.loop-at-preserved
loop-at-preserved c =
    let text = c.args.text.now in
    let at = c.loop-at.at in
    let s = c.loop-at.invariant in
    let e = rw take_rest at c.in-Some.ensures in
    record {
      within = omega (arith, length-drop at text, e.within);
      completed = λ others h. rw c.in_ok-push.ensures.items (more_bytes text c.loop-at.bytes.items others at c.in-Some.b c.in-Some.len (sym e.byte) s.completed h);
      begun = λ all h. after_byte_at text at c.in-Some.b c.in-Some.len (sym e.byte) (s.begun all h).1;
    }

pub returns : goal.returns
returns c =
    let text = c.args.text.now in
    let at = c.loop-at.at in
    let s = c.loop-at.invariant in
    let none : drop at text ≡ [] = drop_all at text (omega arith) in
    subst (λ bs. Means text bs) (append-nil c.loop-at.bytes.items) (s.completed [] (subst (λ t. Means t []) (sym none) nothing))
