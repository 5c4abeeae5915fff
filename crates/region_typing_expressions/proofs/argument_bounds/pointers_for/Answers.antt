use Rattle.std.proofs.lemmas.Grind.{common_steps}
use Rattle.std.proofs.lemmas.Bool.Decides.{nat_tests}
use Rattle.std.proofs.Common.{◌≡◌, ℕ, ◌+◌, ◌<◌, List, [], ◌∷◌, ◌++◌, Option, length, map, drop, get_or, refl, ap, sym, ◌∙◌, append_assoc, arith}
use Rattle.pointer_modes.specs.Types.{CType, ctype}
use Rattle.region_typing_rules.specs.Operands.{Typed, Value, AStruct}
use Rattle.region_typing_rules.specs.Calls as rules
use Rattle.region_typing_rules.specs.Calls.{pointers_for}
use Rattle.region_typing_scope.specs.OnHeap.{typed}
use Rattle.region_typing_scope.proofs.Steps.{parts_at}
use Rattle.region_typing_expressions.specs.declared.calls.Argument as code
use Rattle.region_typing_expressions.specs.Calls.{argument}
use Rattle.region_typing_expressions.specs.ArgumentBounds.{pointer_for}
use Rattle.region_typing_expressions.proofs.argument_bounds.pointers_for.Goals as goal

same_pointer : (locals : List CType) (t : Typed) → rules.pointer_for locals t ≡ pointer_for locals t
same_pointer locals (Value type zero value place) = refl
same_pointer locals (AStruct number place) = refl

-- a pointer more
pointer_more : (locals : List CType) (xs : List code.Argument) (i : ℕ) (a : code.Argument) (before now all : List (Option ℕ)) (p : Option ℕ) → i < length xs → a ≡ get_or xs i a
    → p ≡ pointer_for locals (typed a.typed) → now ≡ before ++ p ∷ [] → all ≡ before ++ pointers_for locals (map argument (drop i xs)) → all ≡ now ++ pointers_for locals (map argument (drop (i + 1) xs))
pointer_more locals xs i a before now all p less is pointer pushed so_far =
    let rest = pointers_for locals (map argument (drop (i + 1) xs)) in
    so_far
    ∙ ap (λ ts. before ++ pointers_for locals ts) (parts_at argument xs i a less is)
    ∙ ap (λ q. before ++ q ∷ rest) (same_pointer locals (typed a.typed) ∙ sym pointer)
    ∙ sym (append_assoc before (p ∷ []) rest)
    ∙ ap (λ ps. ps ++ rest) (sym pushed)

pub loop-a-preserved : goal.loop-a-preserved
loop-a-preserved c =
    let xs = c.args.arguments.now in
    let less : c.loop-a.a-index < length xs = omega (arith, c.loop-a-test.true) in
    let pointer = rw c.deref.ensures at c.pointer_for.ensures in
    record {
      so_far = pointer_more (map ctype c.args.locals.now) xs c.loop-a.a-index c.a-item.result c.loop-a.pointers.items c.push.new.self.items _ c.pointer_for.result less c.a-item.is pointer c.in_ok-push.ensures.items c.loop-a.invariant.so_far;
    }

pub returns-in_err-push : goal.returns-in_err-push
returns-in_err-push c = grind (arith, nat_tests)

pub returns : goal.returns
returns c = grind (arith, common_steps)
