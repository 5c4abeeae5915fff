-- Which act a line says, or the code that it is refused with: A4, A1, A2, A3, A5, each asked of the whole line before the next.
use Rattle.std.specs.Prelude.{ℕ, ◌^◌, ◌&&◌, ◌==◌, nat_lt, nat_le, List, [], ◌∷◌, length, codes, Bool, true, if◌then◌else◌, Option, Some, None}
use Rattle.std.specs.Prelude.{option_map, option_and_then, unwrap_or}
use Rattle.std.specs.Str.{is_utf8}
use Rattle.std.specs.Result.{result_ok}
use Rattle.hex.specs.Hex.{decode_of}
use Rattle.serde_json.specs.Data.{Num, unsigned, negative, float, Data, Items, no_items, item}
use Rattle.serde_json.specs.Events.{members_len}
use Rattle.serde_json.specs.Find.{get, as_number, as_str, as_array, as_object}
use Rattle.serde_json.specs.Read.{read}
use Rattle.ckc_text.specs.declared.code.Code.{Code}
use Rattle.ckc_text.specs.declared.code.Code.TheVariants.{A1, A2, A3, A4, A5}
use Rattle.act_words.specs.declared.form.Form.{Form}
use Rattle.act_words.specs.Acts.{Act, Go, Read, Write, Call, Return, Stop}
use Rattle.act_words.specs.Forms.{form_named}

-- an act, or a refusal
pub data Reading : Type 0 where
  Says : (act : Act) → Reading
  Refuses : (code : Code) → Reading

-- what follows from the value, or this refusal where there is none
abbrev pub or_refuse : {A : Type 0} → Code → Option A → (A → Reading) → Reading
or_refuse code None next = Refuses code
or_refuse code (Some value) next = next value

-- both values, where both are there
abbrev pub both : {A B C : Type 0} → (A → B → C) → Option A → Option B → Option C
both f None right = None
both f (Some left) right = option_map (f left) right

-- ---- A2: the shape, with each number as it is written

pub data Shape : Type 0 where
  GoShape : Shape
  ReadShape : (at len : Num) → Shape
  WriteShape : (at : Num) (bytes : List ℕ) → Shape
  CallShape : (fun : Num) (args : List Num) → Shape
  ReturnShape : (value : Num) → Shape
  StopShape : Shape

-- what a member holds, where it is of this type
abbrev pub number_in : List ℕ → Data → Option Num
number_in name value = option_and_then as_number (get name value)

abbrev pub text_in : List ℕ → Data → Option (List ℕ)
text_in name value = option_and_then as_str (get name value)

abbrev pub items_in : List ℕ → Data → Option Items
items_in name value = option_and_then as_array (get name value)

-- the bytes of hexadecimal text, in either case
abbrev pub bytes_of_hex : List ℕ → Option (List ℕ)
bytes_of_hex text = result_ok (decode_of text)

abbrev pub bytes_in : List ℕ → Data → Option (List ℕ)
bytes_in name value = option_and_then bytes_of_hex (text_in name value)

-- the items, where each is a number
abbrev pub numbers_of : Items → Option (List Num)
numbers_of no_items = Some []
numbers_of (item value items) = both (λ n ns. n ∷ ns) (as_number value) (numbers_of items)

abbrev pub numbers_in : List ℕ → Data → Option (List Num)
numbers_in name value = option_and_then numbers_of (items_in name value)

abbrev pub form_in : Data → Option Form
form_in value = option_and_then form_named (text_in (codes "act") value)

-- the shape of a form, from the members that it has
abbrev pub shape_with : Form → Data → Option Shape
shape_with Form.Go value = Some GoShape
shape_with Form.Read value = both ReadShape (number_in (codes "at") value) (number_in (codes "len") value)
shape_with Form.Write value = both WriteShape (number_in (codes "at") value) (bytes_in (codes "hex") value)
shape_with Form.Call value = both CallShape (number_in (codes "fun") value) (numbers_in (codes "args") value)
shape_with Form.Return value = option_map ReturnShape (number_in (codes "value") value)
shape_with Form.Stop value = Some StopShape

-- how many members each form has, `act` among them
abbrev pub count_of_form : Form → ℕ
count_of_form Form.Go = 1
count_of_form Form.Read = 3
count_of_form Form.Write = 3
count_of_form Form.Call = 3
count_of_form Form.Return = 2
count_of_form Form.Stop = 1

-- how many members a value has
abbrev pub member_count : Data → ℕ
member_count value = unwrap_or (option_map members_len (as_object value)) 0

-- An object has each name once. So one that has the members of a form, and as many as the form has, has no others.
abbrev pub shape_of_form : Data → Form → Option Shape
shape_of_form value form = if member_count value == count_of_form form then shape_with form value else None

abbrev pub shape_of : Data → Option Shape
shape_of value = option_and_then (shape_of_form value) (form_in value)

-- ---- A3: numbers that are words

-- Minus zero and what is written with a fraction or an exponent is a float to `serde_json`, also where it is whole.
abbrev pub word_of : Num → Option ℕ
word_of (unsigned n) = if nat_lt n (2 ^ 32) then Some n else None
word_of (negative z) = None
word_of (float x) = None

abbrev pub words_of : List Num → Option (List ℕ)
words_of [] = Some []
words_of (n ∷ ns) = both (λ w ws. w ∷ ws) (word_of n) (words_of ns)

abbrev pub act_of_shape : Shape → Option Act
act_of_shape GoShape = Some Go
act_of_shape (ReadShape at len) = both Read (word_of at) (word_of len)
act_of_shape (WriteShape at bytes) = option_map (λ w. Write w bytes) (word_of at)
act_of_shape (CallShape fun args) = both Call (word_of fun) (words_of args)
act_of_shape (ReturnShape value) = option_map Return (word_of value)
act_of_shape StopShape = Some Stop

-- ---- A5: how many bytes and arguments

abbrev pub is_count : ℕ → Bool
is_count n = nat_le 1 n && nat_le n 64

abbrev pub has_size : Act → Bool
has_size Go = true
has_size (Read at len) = is_count len
has_size (Write at bytes) = is_count (length bytes)
has_size (Call fun args) = nat_le (length args) 16
has_size (Return value) = true
has_size Stop = true

abbrev pub sized : Act → Reading
sized act = if has_size act then Says act else Refuses A5

-- ---- values and lines

abbrev pub shape_reading : Shape → Reading
shape_reading shape = or_refuse A3 (act_of_shape shape) sized

-- what a value says
abbrev pub value_reading : Data → Reading
value_reading value = or_refuse A2 (shape_of value) shape_reading

-- the value that a line is, if it is one
abbrev pub value_of_line : List ℕ → Option Data
value_of_line line = if is_utf8 line then read line else None

-- what a line says, which is given without its line feed
abbrev pub line_reading : List ℕ → Reading
line_reading line = if nat_lt 4096 (length line) then Refuses A4 else or_refuse A1 (value_of_line line) value_reading
