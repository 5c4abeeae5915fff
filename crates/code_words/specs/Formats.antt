-- What every image keeps: the orders and limits of a listing, and the pace.
use Rattle.std.specs.Prelude.{◌≡◌, ℕ, suc, ◌+◌, ◌<◌, ◌≤◌, Bool, true, nat_le, IsTrue, List, [], ◌∷◌, length, map, Option, Some, None, All}
use Rattle.std.specs.List.{list_all}
use Rattle.ckc_text.specs.Names.{IsName}
use Rattle.marshalling.specs.Signatures.{IsSignature}
use Rattle.code_words.specs.declared.op.Op.{Op}
use Rattle.code_words.specs.declared.op.Op.TheVariants as ops
use Rattle.code_words.specs.Functions.{Func, Import}
use Rattle.code_words.specs.declared.image.Callback.{Callback}
use Rattle.code_words.specs.Images.{Image}
use Rattle.code_words.specs.Paced.{is_paced_function, is_paced}

-- ---- numbers in order

-- the numbers are these, one after another, from a first one on
abbrev pub Follow : ℕ → List ℕ → Type 0
Follow first [] = Unit {0}
Follow first (number ∷ numbers) = (number ≡ first) × Follow (suc first) numbers

-- each number is larger than those before it, and none is smaller than this one
abbrev pub Rise : ℕ → List ℕ → Type 0
Rise least [] = Unit {0}
Rise least (number ∷ numbers) = (least ≤ number) × Rise (suc number) numbers

-- ---- functions

-- the frame of a function is small enough, and has a slot for each argument
pub record HasSmallFrame (f : Func) : Type 0 where
  pub words : f.slots + f.stack ≤ 4096
  pub arguments : f.args ≤ 16
  pub held : f.args ≤ f.slots

-- the size of the elements that an instruction counts
abbrev pub element_size : Op → Option ℕ
element_size (ops.Index size) = Some size
element_size (ops.In low high size place) = Some size
element_size (ops.UpTo low high size place) = Some size
element_size (ops.Term high size place) = Some size
element_size (ops.Contain low1 high1 low2 high2 size place) = Some size
element_size (ops.Lies low high size more place) = Some size
element_size (ops.Alloc size) = Some size
element_size (ops.AllocTerminated size) = Some size
element_size (ops.SandboxAlloc size) = Some size
element_size _ = None

abbrev pub is_sized : Op → Bool
is_sized op = by (element_size op)
  where
    by : Option ℕ → Bool
    by None = true
    by (Some size) = nat_le 1 size

-- elements that are counted have a size of 1 or more
abbrev pub is_sized_function : Func → Bool
is_sized_function f = list_all is_sized f.ops

-- what holds of each function of an image, as a fact of its type: it has a name, its frame is small enough, the elements that
-- it counts have a size, and between two ticks of its code control moves forward only, or returns
pub record IsFunc (f : Func) : Type 0 where
  pub named : IsName f.name
  pub frame : HasSmallFrame f
  pub sized : IsTrue (is_sized_function f)
  pub paced : IsTrue (is_paced_function f)

-- what holds of each tainted function: it has a name, and few arguments
pub record IsImport (i : Import) : Type 0 where
  pub named : IsName i.name
  pub few_arguments : i.args ≤ 16

-- ---- images

-- each function and each tainted function has a name
pub record HasNames (image : Image) : Type 0 where
  pub functions : All (λ (f : Func). IsName f.name) image.trusted.funs
  pub bodies : All (λ (f : Func). IsName f.name) image.sandbox.funs
  pub imports : All (λ (i : Import). IsName i.name) image.layout.imports

-- functions, tainted functions and callbacks are numbered from 0; the sandbox's functions have the numbers of tainted ones, in
-- their order; frames, arguments, parameters and sizes are as they may be; between two ticks control moves forward only, or
-- returns
pub record KeepsFormat (image : Image) : Type 0 where
  pub functions : Follow 0 (map (λ (f : Func). f.number) image.trusted.funs)
  pub imports : Follow 0 (map (λ (i : Import). i.number) image.layout.imports)
  pub callbacks : Follow 0 (map (λ (c : Callback). c.number) image.layout.callbacks)
  pub bodies : Rise 0 (map (λ (f : Func). f.number) image.sandbox.funs)
  pub imported : All (λ (f : Func). f.number < length image.layout.imports) image.sandbox.funs
  pub frames : All HasSmallFrame image.trusted.funs
  pub sandbox_frames : All HasSmallFrame image.sandbox.funs
  pub sized : IsTrue (list_all is_sized_function image.trusted.funs)
  pub sandbox_sized : IsTrue (list_all is_sized_function image.sandbox.funs)
  pub few_arguments : All (λ (i : Import). i.args ≤ 16) image.layout.imports
  pub callable : All (λ (c : Callback). IsSignature c.signature) image.layout.callbacks
  pub paced : IsTrue (is_paced image)
