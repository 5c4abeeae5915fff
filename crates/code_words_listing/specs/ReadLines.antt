-- For laws and private clauses: the line of a listing that a text spells, if it spells one.
use Rattle.std.specs.Prelude.{ℕ, ◌+◌, Bool, cond, ◌&&◌, nat_le, ◌==◌, List, [], ◌∷◌, length, find, codes, Option, Some, None, option_and_then}
use Rattle.std.specs.Int.{w64}
use Rattle.std.specs.List.{slice_split}
use Rattle.std.specs.Str.{bytes_eq}
use Rattle.marshalling.specs.declared.kind.WordKind.{WordKind}
use Rattle.marshalling.specs.declared.kind.WordKind.TheVariants as kinds
use Rattle.code_words_listing.specs.declared.read_lines.Head.{Head}
use Rattle.code_words_listing.specs.declared.read_lines.Head.TheVariants as firsts
use Rattle.code_words_listing.specs.Lines.{Line, Heading, TrustedSide, StaticBlock, TaintedFunction, Entry, Parameter, Begin, End, Main, SandboxSide, Close}
use Rattle.code_words_listing.specs.Lines.{kind_word}
use Rattle.code_words_listing.specs.Reading.{when, number_in, size_in, signed_in, number_or_none_in, name_in, bytes_in, place_in, one, fixed, done}
use Rattle.code_words_listing.specs.ReadInstructions.{instruction_of}

-- the first words of lines that are no instructions
abbrev pub head_word : Head → List ℕ
head_word firsts.Heading = codes "ccbox"
head_word firsts.Trusted = codes "trusted"
head_word firsts.Block = codes "block"
head_word firsts.Import = codes "import"
head_word firsts.Callback = codes "callback"
head_word firsts.Parameter = codes "arg"
head_word firsts.Function = codes "fun"
head_word firsts.End = codes "end"
head_word firsts.Main = codes "main"
head_word firsts.Sandbox = codes "sandbox"
head_word firsts.Close = codes "close"

abbrev pub heads : List Head
heads =
    firsts.Heading ∷ firsts.Trusted ∷ firsts.Block ∷ firsts.Import ∷ firsts.Callback ∷ firsts.Parameter ∷ firsts.Function ∷ firsts.End ∷ firsts.Main ∷
    firsts.Sandbox ∷ firsts.Close ∷ []

abbrev pub head_of : List ℕ → Option Head
head_of word = find (λ head. bytes_eq (head_word head) word) heads

abbrev pub kind_in : List ℕ → Option WordKind
kind_in word = find (λ kind. bytes_eq (kind_word kind) word) (kinds.Int ∷ kinds.Char ∷ kinds.Pointer ∷ kinds.Void ∷ [])

-- what may be passed
abbrev pub parameter_kind_in : List ℕ → Option WordKind
parameter_kind_in word = find (λ kind. bytes_eq (kind_word kind) word) (kinds.Int ∷ kinds.Char ∷ kinds.Pointer ∷ [])

-- a line, where a test holds and there are no more words
abbrev pub kept : Bool → Line → List (List ℕ) → Option Line
kept test line words = option_and_then (λ l. when test l) (done line words)

abbrev pub block_of : List (List ℕ) → Option Line
block_of = one number_in (λ number. one number_in (λ count. one bytes_in (λ bytes. kept (count == length bytes) (StaticBlock number bytes))))

abbrev pub import_of : List (List ℕ) → Option Line
import_of = one number_in (λ number. one name_in (λ name. fixed (codes "args") (one number_in (λ args. fixed (codes "result") (one kind_in (λ result.
    kept (nat_le args 16) (TaintedFunction (record { number = number; name = name; args = args; result = result }))))))))

abbrev pub callback_of : List (List ℕ) → Option Line
callback_of =
    one number_in (λ number. fixed (codes "fun") (one number_in (λ fun. fixed (codes "args") (one number_in (λ args. fixed (codes "result")
    (one kind_in (λ result.
    kept (nat_le args 16) (Entry number fun args result))))))))

abbrev pub region_of : List (List ℕ) → Option Line
region_of =
    one number_in (λ base. one number_or_none_in (λ low. one (signed_in w64) (λ low_plus. one number_or_none_in (λ high.
    one (signed_in w64) (λ high_plus. one size_in (λ size.
    one number_in (λ more. one place_in (λ place.
    done (Parameter (record {
      kind = kinds.Pointer;
      place = place;
      region = Some (record {
        base = base;
        lo_var = low;
        lo_plus = low_plus;
        hi_var = high;
        hi_plus = high_plus;
        size = size;
        more = more;
      });
    }))))))))))

abbrev pub param_of : List (List ℕ) → Option Line
param_of [] = None
param_of (word ∷ words) = cond (bytes_eq word (codes "region")) (region_of words)
    (option_and_then (λ kind. one place_in (λ place. done (Parameter (record { kind = kind; place = place; region = None }))) words) (parameter_kind_in word))

abbrev pub function_of : List (List ℕ) → Option Line
function_of =
    one number_in (λ number. one name_in (λ name. fixed (codes "args") (one number_in (λ args. fixed (codes "slots")
    (one number_in (λ slots. fixed (codes "stack") (one number_in (λ stack.
    fixed (codes "result") (one kind_in (λ result. kept (nat_le (slots + stack) 4096 && (nat_le args 16 && nat_le args slots))
    (Begin number name args slots stack result)))))))))))

-- the line with such a first word that the other words spell
abbrev pub line_with : Head → List (List ℕ) → Option Line
line_with firsts.Heading = fixed (codes "listing") (fixed (codes "1") (done Heading))
line_with firsts.Trusted = done TrustedSide
line_with firsts.Block = block_of
line_with firsts.Import = import_of
line_with firsts.Callback = callback_of
line_with firsts.Parameter = param_of
line_with firsts.Function = function_of
line_with firsts.End = done End
line_with firsts.Main = one number_in (λ number. done (Main number))
line_with firsts.Sandbox = done SandboxSide
line_with firsts.Close = done Close

abbrev pub line_by : Option Head → List ℕ → List (List ℕ) → Option Line
line_by None word words = instruction_of word words
line_by (Some head) word words = line_with head words

abbrev pub line_of_words : List (List ℕ) → Option Line
line_of_words [] = None
line_of_words (word ∷ words) = line_by (head_of word) word words

abbrev pub line_of : List ℕ → Option Line
line_of text = line_of_words (slice_split (λ b. b == 32) text)
