use Rattle.std.proofs.lemmas.Bool.Decides.{nat_tests}
use Rattle.std.proofs.Common.{List, ap, ◌∙◌, rules, arith}
use Rattle.std.specs.Prelude.{◌==◌, All, slice_get}
use Rattle.flat_bytes.specs.Blocks.{first_offset}
use Rattle.code_words.specs.Functions.{Func}
use Rattle.code_words.specs.Images.{Image}
use Rattle.two_memory_machine_memory.specs.Places.{offsets_from}
use Rattle.two_memory_machine_memory.proofs.Statics.{offsets_listed}
use Rattle.sandbox_actor_code.specs.CallFrames.{IsRoomFor}
use Rattle.sandbox_actor_code.proofs.Paces.{found_in}
use Rattle.sandbox_actor_code.proofs.code_actor.CodeActor.start.Goals as goal

pub invariant_of-result : goal.invariant_of-result
invariant_of-result c =
    let image : Image = c.args.image.now in
    let made = c.in_ok-start-2.ensures in
    let blocks = c.sandbox_blocks-blocks.ensures in
    let funs = c.as_slice.ensures ∙ ap (λ (i : Image). i.sandbox.funs) c.image.view_is in
    let room : All (λ (f : Func). IsRoomFor f c.room_for-room.result) image.sandbox.funs = rw funs at c.room_for-room.ensures in
    rw made
    (record {
      format = c.functions.ensures.format;
      offsets = λ k. ap (λ (xs : List _). slice_get xs k) (c.in_ok-offsets_with.ensures ∙ ap (offsets_from first_offset) blocks) ∙ offsets_listed image.sandbox.blocks first_offset k;
      fits = λ number f there. found_in (λ (g : Func). IsRoomFor g c.room_for-room.result) (λ (g : Func). g.number == number) image.sandbox.funs f room there;
      room = c.in_ok-start.ensures;
      waiting = _;
      phase = _;
    })

pub offsets_with-requires : goal.offsets_with-requires
offsets_with-requires c = search rules

pub returns-in_err-offsets_with : goal.returns-in_err-offsets_with
returns-in_err-offsets_with c = search rules

pub returns-in_err-start : goal.returns-in_err-start
returns-in_err-start c = search rules

pub branch-start-requires-2 : goal.branch-start-requires-2
branch-start-requires-2 c κs = search rules

pub from_residual-requires-in_err-start-2 : goal.from_residual-requires-in_err-start-2
from_residual-requires-in_err-start-2 c κs = search rules

pub returns-in_err-start-2 : goal.returns-in_err-start-2
returns-in_err-start-2 c = search rules

pub returns : goal.returns
returns c = grind (arith, nat_tests)
