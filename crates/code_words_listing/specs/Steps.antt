-- For laws and private clauses: which lines may follow others, line by line.
use Rattle.std.specs.Prelude.{ℕ, zero, suc, ◌+◌, Bool, true, false, ◌&&◌, ◌==◌, nat_lt, nat_le, List, [], ◌∷◌, ◌++◌, length, map, Option, Some, None}
use Rattle.std.specs.Prelude.{option_and_then}
use Rattle.marshalling.specs.declared.signature.Region.{Region}
use Rattle.marshalling.specs.declared.signature.Param.{Param}
use Rattle.code_words.specs.declared.op.Op.{Op}
use Rattle.code_words.specs.declared.image.Callback.{Callback}
use Rattle.code_words.specs.declared.image.Layout.{Layout}
use Rattle.code_words.specs.declared.image.SideCode.{SideCode}
use Rattle.code_words.specs.Functions.{Func, Import}
use Rattle.code_words.specs.Images.{Image}
use Rattle.code_words_listing.specs.Lines.{Line, Heading, TrustedSide, StaticBlock, TaintedFunction, Entry, Parameter, Begin, Instruction, End, Main}
use Rattle.code_words_listing.specs.Lines.{SandboxSide, Close}
use Rattle.code_words_listing.specs.Listings.{trusted_lines, sandbox_lines, lines_of}
use Rattle.code_words_listing.specs.Reading.{when}

-- where a listing stands behind some lines: what image they tell, and what has begun: a callback that waits for so many parameters
-- and one more, or a function that waits for instructions or its end
pub data State : Type 0 where
  Start : State
  Headed : State
  InTrusted : (image : Image) → State
  InCallback : (image : Image) (begun : Callback) (left : ℕ) → State
  InFunction : (image : Image) (begun : Func) → State
  InSandbox : (image : Image) → State
  InBody : (image : Image) (begun : Func) → State
  Closed : (image : Image) → State

-- ---- images that grow

abbrev pub no_side : SideCode
no_side = record { blocks = []; funs = [] }

abbrev pub no_image : Image
no_image = record { trusted = no_side; sandbox = no_side; layout = record { imports = []; callbacks = []; main = None } }

abbrev pub with_block : List ℕ → SideCode → SideCode
with_block block side = record { blocks = side.blocks ++ block ∷ []; funs = side.funs }

abbrev pub with_function : Func → SideCode → SideCode
with_function f side = record { blocks = side.blocks; funs = side.funs ++ f ∷ [] }

abbrev pub with_import : Import → Layout → Layout
with_import i layout = record { imports = layout.imports ++ i ∷ []; callbacks = layout.callbacks; main = layout.main }

abbrev pub with_callback : Callback → Layout → Layout
with_callback c layout = record { imports = layout.imports; callbacks = layout.callbacks ++ c ∷ []; main = layout.main }

abbrev pub with_main : ℕ → Layout → Layout
with_main number layout = record { imports = layout.imports; callbacks = layout.callbacks; main = Some number }

abbrev pub in_trusted : SideCode → Image → Image
in_trusted side image = record { trusted = side; sandbox = image.sandbox; layout = image.layout }

abbrev pub in_sandbox : SideCode → Image → Image
in_sandbox side image = record { trusted = image.trusted; sandbox = side; layout = image.layout }

abbrev pub in_layout : Layout → Image → Image
in_layout layout image = record { trusted = image.trusted; sandbox = image.sandbox; layout = layout }

abbrev pub with_parameter : Param → Callback → Callback
with_parameter p c = record { number = c.number; fun = c.fun; signature = c.signature ++ p ∷ []; result = c.result }

abbrev pub with_instruction : Op → Func → Func
with_instruction op f = record { number = f.number; name = f.name; args = f.args; slots = f.slots; stack = f.stack; result = f.result; ops = f.ops ++ op ∷ [] }

-- ---- what may follow

abbrev pub is_empty : {A : Type 0} → List A → Bool
is_empty [] = true
is_empty (x ∷ xs) = false

abbrev pub is_absent : Option ℕ → Bool
is_absent None = true
is_absent (Some number) = false

-- nothing of a later group has come
abbrev pub before_main : Image → Bool
before_main image = is_absent image.layout.main

abbrev pub before_functions : Image → Bool
before_functions image = is_empty image.trusted.funs && before_main image

abbrev pub before_callbacks : Image → Bool
before_callbacks image = is_empty image.layout.callbacks && before_functions image

abbrev pub before_imports : Image → Bool
before_imports image = is_empty image.layout.imports && before_callbacks image

-- the number of a parameter, if there is one
abbrev pub is_below : ℕ → Option ℕ → Bool
is_below count None = true
is_below count (Some number) = nat_lt number count

-- bounds are over so many parameters alone
abbrev pub is_among : ℕ → Option Region → Bool
is_among count None = true
is_among count (Some r) = nat_lt r.base count && (is_below count r.lo_var && is_below count r.hi_var)

-- a callback that waits for so many parameters
abbrev pub opened : Image → Callback → ℕ → State
opened image c zero = InTrusted (in_layout (with_callback c image.layout) image)
opened image c (suc left) = InCallback image c left

-- the least number of a function that comes behind these
abbrev pub least_behind : ℕ → List Func → ℕ
least_behind least [] = least
least_behind least (f ∷ funs) = least_behind (suc f.number) funs

abbrev pub trusted_step : Image → Line → Option State
trusted_step image (StaticBlock number bytes) =
    when (before_imports image && number == length image.trusted.blocks) (InTrusted (in_trusted (with_block bytes image.trusted) image))
trusted_step image (TaintedFunction i) =
    when (before_callbacks image && i.number == length image.layout.imports) (InTrusted (in_layout (with_import i image.layout) image))
trusted_step image (Entry number fun args result) =
    when (before_functions image && number == length image.layout.callbacks)
    (opened image (record { number = number; fun = fun; signature = []; result = result }) args)
trusted_step image (Begin number name args slots stack result) =
    when (before_main image && number == length image.trusted.funs)
    (InFunction image (record { number = number; name = name; args = args; slots = slots; stack = stack; result = result; ops = [] }))
trusted_step image (Main number) = when (before_main image) (InTrusted (in_layout (with_main number image.layout) image))
trusted_step image SandboxSide = Some (InSandbox (in_sandbox no_side image))
trusted_step image _ = None

abbrev pub callback_step : Image → Callback → ℕ → Line → Option State
callback_step image c left (Parameter p) = when (is_among (length c.signature + suc left) p.region) (opened image (with_parameter p c) left)
callback_step image c left _ = None

-- within a function, with the states that go on with it and that end it
abbrev pub function_step : (Func → State) → (Func → State) → Func → Line → Option State
function_step on ended f (Instruction op) = Some (on (with_instruction op f))
function_step on ended f End = Some (ended f)
function_step on ended f _ = None

abbrev pub sandbox_step : Image → Line → Option State
sandbox_step image (StaticBlock number bytes) =
    when (is_empty image.sandbox.funs && number == length image.sandbox.blocks) (InSandbox (in_sandbox (with_block bytes image.sandbox) image))
sandbox_step image (Begin number name args slots stack result) =
    when (nat_le (least_behind 0 image.sandbox.funs) number && nat_lt number (length image.layout.imports))
    (InBody image (record { number = number; name = name; args = args; slots = slots; stack = stack; result = result; ops = [] }))
sandbox_step image Close = Some (Closed image)
sandbox_step image _ = None

abbrev pub start_step : Line → Option State
start_step Heading = Some Headed
start_step _ = None

abbrev pub headed_step : Line → Option State
headed_step TrustedSide = Some (InTrusted no_image)
headed_step _ = None

-- the state behind one more line, if it may follow
abbrev pub step : State → Line → Option State
step Start = start_step
step Headed = headed_step
step (InTrusted image) = trusted_step image
step (InCallback image c left) = callback_step image c left
step (InFunction image f) = function_step (InFunction image) (λ g. InTrusted (in_trusted (with_function g image.trusted) image)) f
step (InSandbox image) = sandbox_step image
step (InBody image f) = function_step (InBody image) (λ g. InSandbox (in_sandbox (with_function g image.sandbox) image)) f
step (Closed image) = λ line. None

-- the state behind more lines
abbrev pub steps : State → List Line → Option State
steps state [] = Some state
steps state (line ∷ lines) = option_and_then (λ next. steps next lines) (step state line)

-- ---- what a state stands for

abbrev pub begun_lines : Func → List Line
begun_lines f = Begin f.number f.name f.args f.slots f.stack f.result ∷ map Instruction f.ops

-- the lines that lead to a state
abbrev pub lines_to : State → List Line
lines_to Start = []
lines_to Headed = Heading ∷ []
lines_to (InTrusted image) = Heading ∷ TrustedSide ∷ trusted_lines image
lines_to (InCallback image c left) =
    Heading ∷ TrustedSide ∷ (trusted_lines image ++ Entry c.number c.fun (length c.signature + suc left) c.result ∷ map Parameter c.signature)
lines_to (InFunction image f) = Heading ∷ TrustedSide ∷ (trusted_lines image ++ begun_lines f)
lines_to (InSandbox image) = Heading ∷ TrustedSide ∷ (trusted_lines image ++ SandboxSide ∷ sandbox_lines image)
lines_to (InBody image f) = Heading ∷ TrustedSide ∷ (trusted_lines image ++ SandboxSide ∷ (sandbox_lines image ++ begun_lines f))
lines_to (Closed image) = lines_of image
