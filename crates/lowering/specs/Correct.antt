-- What it means that code does what a program means.
use Rattle.std.specs.Prelude.{◌≡◌, ℕ, zero, suc, ◌+◌, ◌^◌, ◌<◌, ◌≤◌, IsTrue, List, [], ◌∷◌, length, flat_map, map, sum, All}
use Rattle.std.specs.Prelude.{Some, slice_get, pos}
use Rattle.std.proofs.Common.{ℤ}
use Rattle.act_words.specs.declared.ending.Ending.{Ending}
use Rattle.act_words.specs.declared.settings.Settings.{Settings}
use Rattle.act_words.specs.Acts.{Act, IsAct}
use Rattle.ckc_core.specs.Outcome.{Ends}
use Rattle.act_words.specs.Checks.{is_word_number}
use Rattle.act_words.specs.Limits.{AreAllowed}
use Rattle.act_words.specs.Numbers.{word}
use Rattle.act_words.specs.Shown.{Shown}
use Rattle.act_words.specs.View.{output_of, releases_of, view_of}
use Rattle.flat_bytes.specs.Blocks.{first_offset, grown}
use Rattle.ckc_core.specs.Programs.{Initial, Variable, Import}
use Rattle.check_insertion.specs.Erased.{Erased, Function}
use Rattle.ckc_core.specs.States.{Value, Number, Null, At, Cell, Block, Shape, shape, shapes, has_type, initial_value}
use Rattle.ckc_core.specs.States as meaning_states
use Rattle.ckc_core.specs.Steps.{is_char}
use Rattle.check_insertion.specs.ErasedMeaning.{meaning}
use Rattle.code_words.specs.Table.{State}
use Rattle.code_words.specs.Runs.{CodeRun}
use Rattle.code_words.specs.Dumps.{blocks_held}
use Rattle.code_words.specs.Fitting.{Fits}
use Rattle.code_words.specs.Formats.{KeepsFormat}
use Rattle.code_words.specs.declared.image.Image.{Image}
use Rattle.lowering.specs.Images.{width_if, word_bytes_if, padded}
use Rattle.lowering.specs.Sized.{SizedStatements}
use Rattle.check_insertion.specs.Stacks.{body_stack}
use Rattle.check_insertion.specs.Weights.{statements_weight}

-- ---- where blocks stand, and their bytes

-- the bytes of a block
abbrev pub size_of : Shape → ℕ
size_of s = sum s.strides

-- the offset of a block in the memory, where the first stands at an offset; it is determined by the blocks before it
abbrev pub offset_from : ℕ → List Shape → ℕ → ℕ
offset_from offset [] number = offset
offset_from offset (s ∷ blocks) zero = offset
offset_from offset (s ∷ blocks) (suc number) = offset_from (grown offset (size_of s)) blocks number

-- the address of a place is that of its block, and its byte
abbrev pub address_in : ℕ → List Shape → ℕ → ℕ → ℕ
address_in base blocks block byte = base + (offset_from first_offset blocks block + byte)

-- the word of a value: a number modulo 2 ^ 32, null as 0, a place as its address
abbrev pub word_of : ℕ → List Shape → Value → ℕ
word_of base blocks (Number number) = word number
word_of base blocks Null = 0
word_of base blocks (At block byte) = address_in base blocks block byte

-- the bytes of a cell up to the next one
abbrev pub bytes_of : ℕ → List Shape → Cell → List ℕ
bytes_of base blocks c = padded c.stride (word_bytes_if (is_char c.type) (word_of base blocks c.value))

-- the bytes that a block holds
abbrev pub block_bytes : ℕ → List Shape → Block → List ℕ
block_bytes base blocks b = flat_map (bytes_of base blocks) b.cells

-- the last blocks of the meaning, in the order of their making, where the first stands at an offset
abbrev pub shown_from : ℕ → List Shape → ℕ → List Block → List Shown
shown_from base all offset [] = []
shown_from base all offset (b ∷ blocks) =
    (record { address = base + offset; bytes = block_bytes base all b }) ∷ shown_from base all (grown offset (size_of (shape b))) blocks

abbrev pub blocks_meant : ℕ → meaning_states.State → List Shown
blocks_meant base s = shown_from base (shapes s.blocks) first_offset s.blocks

-- the last states agree in what can be seen, and in the blocks
pub record SameEnd (base : ℕ) (s : meaning_states.State) (t : State) : Type 0 where
  pub world : t.world ≡ s.world
  pub blocks : blocks_held t ≡ blocks_meant base s

-- ---- programs that can be lowered

-- a cell has room for its word, and its number is one of its type
pub record IsCell (i : Initial) : Type 0 where
  pub room : width_if (is_char i.type) ≤ i.stride
  pub typed : IsTrue (has_type i.type (initial_value i.type i.number))
  pub word : IsTrue (is_word_number i.number)
  pub null : initial_value i.type i.number ≡ Null → i.number ≡ pos 0

pub record IsFunction (f : Function) : Type 0 where
  pub parameters : f.parameters ≤ 16
  pub held : f.parameters ≤ length f.locals
  pub frame : length f.locals + 3 + body_stack f ≤ 4096
  -- so its code has fewer than 2 ^ 32 instructions
  pub few_nodes : statements_weight f.body ≤ 2 ^ 26
  -- so its instructions count in elements that have a size
  pub sized : SizedStatements (length f.locals) f.body

-- how many bytes static blocks take, from an offset on
abbrev pub counted_from : ℕ → List Variable → ℕ
counted_from offset [] = offset
counted_from offset (v ∷ objects) = counted_from (grown offset (sum (map (λ (i : Initial). i.stride) v.cells))) objects

-- the program is small enough to be lowered, and its numbers have 32 bits
pub record IsLowerable (program : Erased) : Type 0 where
  pub cells : All (λ (v : Variable). All IsCell v.cells × (0 < length v.cells)) program.objects
  pub objects : counted_from first_offset program.objects ≤ 65536
  -- no tainted function has more parameters than can be passed, and none gives a pointer back
  pub imports : All (λ (i : Import). i.parameters ≤ 16) program.imports
  pub functions : All IsFunction program.functions
  -- functions are numbered
  pub few_functions : length program.functions ≤ 4096
  pub few_imports : length program.imports ≤ 4096
  pub main : (f : Function) × (slice_get program.functions program.main ≡ Some f) × (f.parameters ≡ 0)

-- wherever the program's run over inputs and acts ends, so does the image's, at every base address
pub record KeepsMeaning (program : Erased) (image : Image) : Type 0 where
  pub format : KeepsFormat image
  pub fits : (settings : Settings) → AreAllowed settings → Fits image settings
  pub ends : (settings : Settings) (inputs : List ℤ) (acts : List Act) (ending : Ending) (s : meaning_states.State) → AreAllowed settings
      → All (λ z. IsTrue (is_word_number z)) inputs → All IsAct acts
      → meaning program settings inputs acts ≡ Ends ending s → (t : State) × CodeRun image settings inputs acts ending t × SameEnd settings.base s t

-- two runs that nobody who sees them can tell apart: they end the same, wrote the same, took the same acts with the same left,
-- and released and showed the same
pub record SeenAlike (ending other : Ending) (t u : State) : Type 0 where
  pub same_ending : ending ≡ other
  pub output : output_of t.world.events ≡ output_of u.world.events
  pub taken : t.world.taken ≡ u.world.taken
  pub left : t.world.acts ≡ u.world.acts
  pub releases : releases_of t.world.events ≡ releases_of u.world.events
  pub view : view_of t.world.events ≡ view_of u.world.events

-- over these inputs and acts, each run of the image comes to the same at every two base addresses
abbrev pub AgreesAtBases : Image → Settings → List ℤ → List Act → Type 0
AgreesAtBases image settings inputs acts =
    (base : ℕ) (first second : Ending) (t u : State) → AreAllowed (record settings { base = base })
    → CodeRun image settings inputs acts first t → CodeRun image (record settings { base = base }) inputs acts second u → SeenAlike first second t u
