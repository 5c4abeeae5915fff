use Rattle.std.proofs.lemmas.Bool.Decides.{nat_tests}
use Rattle.std.proofs.Common.{◌≡◌, ℕ, ◌+◌, Some, [], length, map, take, refl, sym, ap, ◌∙◌, arith, rules}
use Rattle.std.specs.Prelude.{slice_get}
use Rattle.std.proofs.lemmas.Option.{slice_get_within}
use Rattle.act_words.specs.declared.settings.Settings.{Settings}
use Rattle.flat_bytes.specs.Blocks.{blocks_of}
use Rattle.trusted_memory.specs.Memories.{Memory}
use Rattle.code_words.specs.declared.image.Image.{Image}
use Rattle.code_words.specs.Fitting.{Fits}
use Rattle.code_words.specs.Runs.{memory_of, counter_behind}
use Rattle.code_words.specs.Table.{frame_for}
use Rattle.two_memory_machine_memory.specs.CallStacks.{CallStack}
use Rattle.two_memory_machine_memory.specs.Places.{block_row}
use Rattle.two_memory_machine_memory.proofs.Statics.{counter_at_base, counter_room, places_listed, offsets_listed}
use Rattle.two_memory_machine_states.proofs.running_image.RunningImage.start.Goals as goal
use Rattle.two_memory_machine_states.proofs.running_image.RunningImage.start.Goals.{After-counter_of}

-- the function that was read is `main`
main_there : (image : Image) (settings : Settings) (fits : Fits image settings) (function : ℕ) → image.layout.main ≡ Some function → slice_get image.trusted.funs function ≡ Some fits.main.1
main_there image settings fits function named =
    let m = fits.main.2 in
    let same : fits.main.0 ≡ function = cc in
    ap (slice_get image.trusted.funs) (sym same) ∙ m.there

pub memory_with-requires : goal.memory_with-requires
memory_with-requires c = rw c.trusted_blocks-blocks.ensures c.requires.trusted.low

pub counter_of-counter-requires : goal.counter_of-counter-requires
counter_of-counter-requires c = rw c.trusted_blocks-blocks.ensures (omega (arith, c.requires.trusted.low, c.requires.allowed.most_trusted))

pub rows_with-requires-clause-fits : goal.rows_with-requires-clause-fits
rows_with-requires-clause-fits c = rw c.trusted_blocks-blocks.ensures c.requires.trusted.low

pub rows_with-requires-clause-not_empty : goal.rows_with-requires-clause-not_empty
rows_with-requires-clause-not_empty c = rw c.trusted_blocks-blocks.ensures c.requires.trusted.not_empty

pub offsets_with-requires-2 : goal.offsets_with-requires-2
offsets_with-requires-2 c = rw c.sandbox_blocks-statics.ensures (omega (arith, c.requires.sandbox.low, c.requires.allowed.most_sandbox))

pub memory_with-requires-2 : goal.memory_with-requires-2
memory_with-requires-2 c = rw c.sandbox_blocks-statics.ensures c.requires.sandbox.low

pub counter_of-requires : goal.counter_of-requires
counter_of-requires c = rw c.sandbox_blocks-statics.ensures (omega (arith, c.requires.sandbox.low, c.requires.allowed.most_sandbox))

pub offsets_with-requires : goal.offsets_with-requires
offsets_with-requires c =
    rw c.trusted_blocks-blocks.ensures (omega (arith, counter_at_base c.args.settings.now.base 16 c.args.image.now.trusted.blocks, c.requires.trusted.low, c.requires.allowed.most_base, c.requires.allowed.most_trusted))

pub start-requires : goal.start-requires
start-requires c =
    let there = main_there c.args.image.now c.args.settings.now c.requires c.unwrap-function.result (sym c.main.ensures ∙ c.unwrap-function.ensures) in
    rw c.functions.ensures.functions (slice_get_within c.args.image.now.trusted.funs c.unwrap-function.result c.requires.main.1 there)

-- the call of `main`
first : (c : After-counter_of) → c.in_ok-start.field-0 ≡ record { funs = c.args.image.now.trusted.funs; fun = c.requires.main.1; frame = frame_for c.unwrap-function.result c.requires.main.1 []; behind = [] }
first c =
    let there = main_there c.args.image.now c.args.settings.now c.requires c.unwrap-function.result (sym c.main.ensures ∙ c.unwrap-function.ensures) in
    let found : slice_get c.functions.result.now c.unwrap-function.result ≡ Some c.requires.main.1 = ap (λ funs. slice_get funs c.unwrap-function.result) c.functions.ensures.functions ∙ there in
    c.in_ok-start.ensures c.requires.main.1 found ∙ rw c.functions.ensures.functions refl

pub invariant_of-result : goal.invariant_of-result
invariant_of-result c =
    let image = c.args.image.now in
    let settings = c.args.settings.now in
    let there = main_there image settings c.requires c.unwrap-function.result (sym c.main.ensures ∙ c.unwrap-function.ensures) in
    let counter : c.from_bytes.result.counter ≡ counter_behind 16 image.trusted.blocks = ap (λ (m : Memory). m.counter) c.from_bytes.ensures ∙ c.counter_of-counter.ensures ∙ ap (counter_behind 16) c.trusted_blocks-blocks.ensures in
    let room : c.counter_of.result ≡ counter_behind 16 image.sandbox.blocks = c.counter_of.ensures ∙ ap (counter_behind 16) c.sandbox_blocks-statics.ensures in
    let places = c.in_ok-offsets_with.ensures in
    let offsets = c.in_ok-offsets_with-2.ensures in
    record {
      format = c.functions.ensures.format;
      fits = c.requires;
      addresses = λ k. ap (λ xs. slice_get xs k) places ∙ rw c.trusted_blocks-blocks.ensures (places_listed image.trusted.blocks settings.base 16 (settings.base + 16) k refl);
      offsets = λ k. ap (λ xs. slice_get xs k) offsets ∙ rw c.sandbox_blocks-statics.ensures (offsets_listed image.sandbox.blocks 16 k);
      base = ap (λ (m : Memory). m.base) c.from_bytes.ensures;
      bytes = ap (λ (m : Memory). length m.bytes) c.from_bytes.ensures ∙ omega (arith, c.in_ok-bytes.ensures.len, c.in_ok-bytes.bytes.ok.0);
      counter = omega (arith, counter, c.requires.trusted.low);
      made = omega (arith, counter, counter_room 16 image.trusted.blocks c.requires.trusted.not_empty, ap length c.trusted_blocks-blocks.ensures);
      blocks = c.in_ok-rows_with.ensures.len;
      rows = c.in_ok-rows_with.ensures.low;
      funs = ap (λ (s : CallStack). s.funs) (first c);
      there = rw (first c) there;
      depth = rw (first c) refl;
      few = omega arith;
      phase = _;
      sandbox = omega (arith, c.in_ok-memory_with.ensures.len, c.in_ok-memory_with.field-0.ok.0);
      room = omega (arith, room, c.requires.sandbox.low);
      ticks = omega arith;
    }

pub returns : goal.returns
returns c =
    let b = (goal.at.returns c).After-counter_of in
    let image = c.args.image.now in
    let settings = c.args.settings.now in
    let there = main_there image settings c.requires c.unwrap-function.result (sym c.main.ensures ∙ c.unwrap-function.ensures) in
    let named : image.layout.main ≡ Some c.unwrap-function.result = sym c.main.ensures ∙ c.unwrap-function.ensures in
    let bytes : c.in_ok-bytes.bytes.items ≡ memory_of settings.trusted image.trusted.blocks = c.in_ok-bytes.ensures.bytes ∙ ap (memory_of settings.trusted) c.trusted_blocks-blocks.ensures in
    let counter : c.counter_of-counter.result ≡ counter_behind 16 image.trusted.blocks = c.counter_of-counter.ensures ∙ ap (counter_behind 16) c.trusted_blocks-blocks.ensures in
    let rows : map block_row (take (length c.trusted_blocks-blocks.result.now) c.in_ok-rows_with.field-0.items) ≡ blocks_of settings.trusted (map length image.trusted.blocks) =
    c.in_ok-rows_with.ensures.rows ∙ ap (λ bs. blocks_of settings.trusted (map length bs)) c.trusted_blocks-blocks.ensures in
    let sandbox : c.in_ok-memory_with.field-0.items ≡ memory_of settings.sandbox image.sandbox.blocks = c.in_ok-memory_with.ensures.bytes ∙ ap (memory_of settings.sandbox) c.sandbox_blocks-statics.ensures in
    let room : c.counter_of.result ≡ counter_behind 16 image.sandbox.blocks = c.counter_of.ensures ∙ ap (counter_behind 16) c.sandbox_blocks-statics.ensures in
    record {
      image_is = refl;
      settings_are = refl;
      state = λ acts inputs. rw (c.from_bytes.ensures, bytes, counter, rows, first b, sandbox, room, named, there) refl;
      runs = refl;
      over = refl;
    }

pub unwrap-function-requires : goal.unwrap-function-requires
unwrap-function-requires c = search rules

pub returns-in_err-bytes : goal.returns-in_err-bytes
returns-in_err-bytes c = search rules

pub from_bytes-requires-clause-not_null : goal.from_bytes-requires-clause-not_null
from_bytes-requires-clause-not_null c = search rules

pub from_bytes-requires-clause-addresses : goal.from_bytes-requires-clause-addresses
from_bytes-requires-clause-addresses c = search rules

pub from_bytes-requires-clause-counted : goal.from_bytes-requires-clause-counted
from_bytes-requires-clause-counted c = search rules

pub branch-rows_with-requires : goal.branch-rows_with-requires
branch-rows_with-requires c κs = search rules

pub drop-from_bytes-requires : goal.drop-from_bytes-requires
drop-from_bytes-requires c κs = search rules

pub returns-in_err-rows_with : goal.returns-in_err-rows_with
returns-in_err-rows_with c = grind (arith, nat_tests)

pub overflow_add-settings : goal.overflow_add-settings
overflow_add-settings c = search rules

pub branch-offsets_with-requires : goal.branch-offsets_with-requires
branch-offsets_with-requires c κs = search rules

pub drop-branch-requires : goal.drop-branch-requires
drop-branch-requires c κs = search rules

pub returns-in_err-offsets_with : goal.returns-in_err-offsets_with
returns-in_err-offsets_with c = search rules

pub branch-offsets_with-requires-2 : goal.branch-offsets_with-requires-2
branch-offsets_with-requires-2 c κs = search rules

pub drop-branch-requires-in_err-offsets_with-2 : goal.drop-branch-requires-in_err-offsets_with-2
drop-branch-requires-in_err-offsets_with-2 c κs = search rules

pub returns-in_err-offsets_with-2 : goal.returns-in_err-offsets_with-2
returns-in_err-offsets_with-2 c = search rules

pub drop-branch-requires-in_err-start : goal.drop-branch-requires-in_err-start
drop-branch-requires-in_err-start c κs = search rules

pub drop-branch-requires-in_err-start-2 : goal.drop-branch-requires-in_err-start-2
drop-branch-requires-in_err-start-2 c κs = search rules

pub drop-from_bytes-requires-in_err-start : goal.drop-from_bytes-requires-in_err-start
drop-from_bytes-requires-in_err-start c κs = search rules

pub returns-in_err-start : goal.returns-in_err-start
returns-in_err-start c = grind (arith, nat_tests)

pub branch-memory_with-requires : goal.branch-memory_with-requires
branch-memory_with-requires c κs = search rules

pub drop-branch-requires-in_err-memory_with : goal.drop-branch-requires-in_err-memory_with
drop-branch-requires-in_err-memory_with c κs = search rules

pub drop-branch-requires-in_err-memory_with-2 : goal.drop-branch-requires-in_err-memory_with-2
drop-branch-requires-in_err-memory_with-2 c κs = search rules

pub drop-branch-requires-in_err-memory_with-3 : goal.drop-branch-requires-in_err-memory_with-3
drop-branch-requires-in_err-memory_with-3 c κs = search rules

pub drop-branch-requires-in_err-memory_with-4 : goal.drop-branch-requires-in_err-memory_with-4
drop-branch-requires-in_err-memory_with-4 c κs = search rules

pub drop-branch-requires-in_err-memory_with-5 : goal.drop-branch-requires-in_err-memory_with-5
drop-branch-requires-in_err-memory_with-5 c κs = search rules

pub drop-from_bytes-requires-in_err-memory_with : goal.drop-from_bytes-requires-in_err-memory_with
drop-from_bytes-requires-in_err-memory_with c κs = search rules

pub returns-in_err-memory_with : goal.returns-in_err-memory_with
returns-in_err-memory_with c = grind (arith, nat_tests)
