-- The lines of a listing.
use Rattle.std.specs.Prelude.{◌≡◌, ℕ, ◌+◌, ◌≤◌, List, [], ◌∷◌, ◌++◌, length, map, Option, Some, None, codes, All}
use Rattle.std.specs.List.{join_with_byte}
use Rattle.marshalling.specs.declared.kind.WordKind.{WordKind}
use Rattle.marshalling.specs.declared.kind.WordKind.TheVariants as kinds
use Rattle.marshalling.specs.declared.signature.Region.{Region}
use Rattle.marshalling.specs.declared.signature.Param.{Param}
use Rattle.code_words.specs.declared.op.Op.{Op}
use Rattle.code_words.specs.Functions.{Import}
use Rattle.code_words_listing.specs.Fields.{Field, Fixed, Number, Size, Signed64, NumberOrNone, Named, Bytes, At, word_of, Fits}
use Rattle.code_words_listing.specs.Instructions.{instruction_word, operands}

pub data Line : Type 0 where
  Heading : Line
  TrustedSide : Line
  StaticBlock : (number : ℕ) (bytes : List ℕ) → Line
  TaintedFunction : (import : Import) → Line
  Entry : (number fun args : ℕ) (result : WordKind) → Line
  Parameter : (param : Param) → Line
  Begin : (number : ℕ) (name : List ℕ) (args slots stack : ℕ) (result : WordKind) → Line
  Instruction : (op : Op) → Line
  End : Line
  Main : (number : ℕ) → Line
  SandboxSide : Line
  Close : Line

-- ---- the words of each line

abbrev pub kind_word : WordKind → List ℕ
kind_word kinds.Int = codes "int"
kind_word kinds.Char = codes "char"
kind_word kinds.Pointer = codes "pointer"
kind_word kinds.Void = codes "void"

-- what a parameter is, with the bounds that it has, if it has some
abbrev pub parameter_fields : WordKind → Option Region → List Field
parameter_fields kind None = Fixed (kind_word kind) ∷ []
parameter_fields kind (Some r) =
    Fixed (codes "region") ∷ Number r.base ∷ NumberOrNone r.lo_var ∷ Signed64 r.lo_plus ∷ NumberOrNone r.hi_var ∷ Signed64 r.hi_plus ∷ Size r.size ∷
    Number r.more ∷ []

abbrev pub fields : Line → List Field
fields Heading = Fixed (codes "ccbox") ∷ Fixed (codes "listing") ∷ Fixed (codes "1") ∷ []
fields TrustedSide = Fixed (codes "trusted") ∷ []
fields (StaticBlock number bytes) = Fixed (codes "block") ∷ Number number ∷ Number (length bytes) ∷ Bytes bytes ∷ []
fields (TaintedFunction i) =
    Fixed (codes "import") ∷ Number i.number ∷ Named i.name ∷ Fixed (codes "args") ∷ Number i.args ∷ Fixed (codes "result") ∷ Fixed (kind_word i.result) ∷ []
fields (Entry number fun args result) =
    Fixed (codes "callback") ∷ Number number ∷ Fixed (codes "fun") ∷ Number fun ∷ Fixed (codes "args") ∷ Number args ∷ Fixed (codes "result") ∷
    Fixed (kind_word result) ∷ []
fields (Parameter p) = Fixed (codes "arg") ∷ (parameter_fields p.kind p.region ++ At p.place ∷ [])
fields (Begin number name args slots stack result) =
    Fixed (codes "fun") ∷ Number number ∷ Named name ∷ Fixed (codes "args") ∷ Number args ∷ Fixed (codes "slots") ∷ Number slots ∷ Fixed (codes "stack") ∷
    Number stack
    ∷ Fixed (codes "result") ∷ Fixed (kind_word result) ∷ []
fields (Instruction op) = Fixed (instruction_word op) ∷ operands op
fields End = Fixed (codes "end") ∷ []
fields (Main number) = Fixed (codes "main") ∷ Number number ∷ []
fields SandboxSide = Fixed (codes "sandbox") ∷ []
fields Close = Fixed (codes "close") ∷ []

-- the text of a line without its line feed: its words with a space between each two
abbrev pub line_text : Line → List ℕ
line_text line = join_with_byte 32 (map word_of (fields line))

-- ---- what a line may say

-- nothing is passed that is `void`, and only a pointer has bounds
abbrev pub IsParameter : WordKind → Option Region → Type 0
IsParameter kinds.Void region = ⊥
IsParameter kinds.Pointer region = Unit {0}
IsParameter kinds.Int region = region ≡ None
IsParameter kinds.Char region = region ≡ None

-- a function has a small frame, with a slot for each argument, and each function has few arguments
abbrev pub KeepsLimits : Line → Type 0
KeepsLimits (TaintedFunction i) = i.args ≤ 16
KeepsLimits (Entry number fun args result) = args ≤ 16
KeepsLimits (Parameter p) = IsParameter p.kind p.region
KeepsLimits (Begin number name args slots stack result) = (slots + stack ≤ 4096) × (args ≤ 16) × (args ≤ slots)
KeepsLimits _ = Unit {0}

-- a line that may stand in a listing
pub record IsAllowed (line : Line) : Type 0 where
  pub words : All Fits (fields line)
  pub limits : KeepsLimits line
