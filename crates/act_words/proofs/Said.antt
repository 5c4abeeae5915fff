-- What a line says is an act: its numbers are words, and its sizes are those that acts have.
use Rattle.std.proofs.Common.{◌≡◌, ◌<◌, ◌≤◌, ◌^◌, ℕ, Bool, true, false, nat_lt, nat_le, List, [], ◌∷◌, length, Option, None, Some, option_map, Result, Ok, Err, refl, ap, ◌∙◌, subst, arith}
use Rattle.std.specs.Option.{option_and_then}
use Rattle.std.specs.Result.{result_ok}
use Rattle.std.specs.List.{All}
use Rattle.std.specs.Prelude.{if◌then◌else◌, codes, ◌==◌}
use Rattle.std.proofs.lemmas.Bool.Decides.{nat_tests}
use Rattle.std.proofs.lemmas.List.Elements.{All-nil, All-cons, All-from_get_or}
use Rattle.hex.specs.Hex.{decode_of}
use Rattle.hex.specs.declared.error.FromHexError.{FromHexError}
use Rattle.hex.proofs.HexLemmas.{decode_of-ok}
use Rattle.serde_json.specs.Data.{Num, unsigned, negative, float, Data}
use Rattle.ckc_text.specs.declared.code.Code.{Code}
use Rattle.ckc_text.specs.declared.code.Code.TheVariants.{A1, A2, A3, A4, A5}
use Rattle.act_words.specs.declared.form.Form.{Form}
use Rattle.act_words.specs.Acts.{Act, Go, Read, Write, Call, Return, Stop, IsAct, IsWord}
use Rattle.act_words.specs.Readings.{Reading, Says, Refuses, or_refuse, both, Shape, GoShape, ReadShape, WriteShape, CallShape, ReturnShape, StopShape, number_in, bytes_in, bytes_of_hex, text_in, numbers_in, shape_with, shape_of_form, shape_of, form_in, member_count, count_of_form, word_of, words_of, act_of_shape, is_count, has_size, sized, shape_reading, value_reading, value_of_line, line_reading}

-- ---- what gave something

both_back : {A B C : Type 0} (f : A → B → C) (l : Option A) (r : Option B) (z : C) → both f l r ≡ Some z → (x : A) × (y : B) × (l ≡ Some x) × (r ≡ Some y) × (f x y ≡ z)
both_back f None r z h = cc
both_back f (Some x) None z h = cc
both_back f (Some x) (Some y) z h = (x, y, refl, refl, cc)

map_back : {A C : Type 0} (f : A → C) (o : Option A) (z : C) → option_map f o ≡ Some z → (x : A) × (o ≡ Some x) × (f x ≡ z)
map_back f None z h = cc
map_back f (Some x) z h = (x, refl, cc)

bind_back : {A C : Type 0} (f : A → Option C) (o : Option A) (z : C) → option_and_then f o ≡ Some z → (x : A) × (o ≡ Some x) × (f x ≡ Some z)
bind_back f None z h = cc
bind_back f (Some x) z h = (x, refl, h)

said_back : {A : Type 0} (code : Code) (o : Option A) (next : A → Reading) (a : Act) → or_refuse code o next ≡ Says a → (x : A) × (o ≡ Some x) × (next x ≡ Says a)
said_back code None next a h = cc
said_back code (Some x) next a h = (x, refl, h)

-- ---- shapes

-- the bytes of hexadecimal text
ok_back : (r : Result (List ℕ) FromHexError) (bytes : List ℕ) → result_ok r ≡ Some bytes → r ≡ Ok bytes
ok_back (Ok x) bytes h = ap Ok (cc)
ok_back (Err e) bytes h = cc

bytes_small : (text bytes : List ℕ) → bytes_of_hex text ≡ Some bytes → All (λ b. b < 256) bytes
bytes_small text bytes h = All-from_get_or (λ b. b < 256) bytes 0 (λ i lt. (decode_of-ok text bytes (ok_back (decode_of text) bytes h)).3 i)

abbrev HasBytes : Shape → Type 0
HasBytes GoShape = Unit {0}
HasBytes (ReadShape at len) = Unit {0}
HasBytes (WriteShape at bytes) = All (λ b. b < 256) bytes
HasBytes (CallShape fun args) = Unit {0}
HasBytes (ReturnShape value) = Unit {0}
HasBytes StopShape = Unit {0}

with_bytes : (form : Form) (value : Data) (shape : Shape) → shape_with form value ≡ Some shape → HasBytes shape
with_bytes Form.Go value shape h = let same : GoShape ≡ shape = cc in subst HasBytes same _
with_bytes Form.Read value shape h =
    let b = both_back ReadShape (number_in (codes "at") value) (number_in (codes "len") value) shape h in
    subst HasBytes b.4 _
with_bytes Form.Write value shape h =
    let b = both_back WriteShape (number_in (codes "at") value) (bytes_in (codes "hex") value) shape h in
    let text = bind_back bytes_of_hex (text_in (codes "hex") value) b.1 b.3 in
    subst HasBytes b.4 (bytes_small text.0 b.1 text.2)
with_bytes Form.Call value shape h =
    let b = both_back CallShape (number_in (codes "fun") value) (numbers_in (codes "args") value) shape h in
    subst HasBytes b.4 _
with_bytes Form.Return value shape h =
    let b = map_back ReturnShape (number_in (codes "value") value) shape h in
    subst HasBytes b.2 _
with_bytes Form.Stop value shape h = let same : StopShape ≡ shape = cc in subst HasBytes same _

of_form : (value : Data) (form : Form) (shape : Shape) → shape_of_form value form ≡ Some shape → HasBytes shape
of_form value form shape h = by (member_count value == count_of_form form) h
  where
    by : (same : Bool) → (if same then shape_with form value else None) ≡ Some shape → HasBytes shape
    by true g = with_bytes form value shape g
    by false g = cc

-- ---- words

word_back : (n : Num) (w : ℕ) → word_of n ≡ Some w → IsWord w
word_back (unsigned n) w h = by (nat_lt n (2 ^ 32)) refl h
  where
    by : (small : Bool) → nat_lt n (2 ^ 32) ≡ small → (if small then Some n else None) ≡ Some w → IsWord w
    by true e g =
        let same : n ≡ w = cc in
        let low : n < 2 ^ 32 = grind (arith, nat_tests) in
        subst IsWord same low
    by false e g = cc
word_back (negative z) w h = cc
word_back (float x) w h = cc

words_back : (ns : List Num) (ws : List ℕ) → words_of ns ≡ Some ws → All IsWord ws
words_back [] ws h = let same : [] ≡ ws = cc in subst (All IsWord) same (All-nil IsWord)
words_back (n ∷ ns) ws h =
    let b = both_back (λ v vs. v ∷ vs) (word_of n) (words_of ns) ws h in
    subst (All IsWord) b.4 (All-cons IsWord b.0 b.1 (word_back n b.0 b.2) (words_back ns b.1 b.3))

-- ---- sizes

sized_back : (act a : Act) → sized act ≡ Says a → (has_size act ≡ true) × (act ≡ a)
sized_back act a h = by (has_size act) refl h
  where
    by : (fits : Bool) → has_size act ≡ fits → (if fits then Says act else Refuses A5) ≡ Says a → (has_size act ≡ true) × (act ≡ a)
    by true e g = (e, cc)
    by false e g = cc

count_back : (n : ℕ) → is_count n ≡ true → (1 ≤ n) × (n ≤ 64)
count_back n h = (grind (arith, nat_tests), grind (arith, nat_tests))

of_shape : (shape : Shape) (act : Act) → HasBytes shape → act_of_shape shape ≡ Some act → has_size act ≡ true → IsAct act
of_shape GoShape act bytes h size = let same : Go ≡ act = cc in subst IsAct same _
of_shape (ReadShape at len) act bytes h size =
    let b = both_back Read (word_of at) (word_of len) act h in
    let count = count_back b.1 (ap has_size b.4 ∙ size) in
    subst IsAct b.4 (word_back at b.0 b.2, count.0, count.1)
of_shape (WriteShape at bytes) act small h size =
    let b = map_back (λ w. Write w bytes) (word_of at) act h in
    let count = count_back (length bytes) (ap has_size b.2 ∙ size) in
    subst IsAct b.2 (word_back at b.0 b.1, count.0, count.1, small)
of_shape (CallShape fun args) act bytes h size =
    let b = both_back Call (word_of fun) (words_of args) act h in
    let few : nat_le (length b.1) 16 ≡ true = ap has_size b.4 ∙ size in
    subst IsAct b.4 (word_back fun b.0 b.2, grind (arith, nat_tests), words_back args b.1 b.3)
of_shape (ReturnShape value) act bytes h size =
    let b = map_back Return (word_of value) act h in
    subst IsAct b.2 (word_back value b.0 b.1)
of_shape StopShape act bytes h size = let same : Stop ≡ act = cc in subst IsAct same _

-- ---- lines

value_said : (value : Data) (a : Act) → value_reading value ≡ Says a → IsAct a
value_said value a h =
    let shape = said_back A2 (shape_of value) shape_reading a h in
    let form = bind_back (shape_of_form value) (form_in value) shape.0 shape.1 in
    let act = said_back A3 (act_of_shape shape.0) sized a shape.2 in
    let size = sized_back act.0 a act.2 in
    subst IsAct size.1 (of_shape shape.0 act.0 (of_form value form.0 shape.0 form.2) act.1 size.0)

pub line_said : (line : List ℕ) (a : Act) → line_reading line ≡ Says a → IsAct a
line_said line a h = by (nat_lt 4096 (length line)) h
  where
    by : (long : Bool) → (if long then Refuses A4 else or_refuse A1 (value_of_line line) value_reading) ≡ Says a → IsAct a
    by true g = cc
    by false g = let value = said_back A1 (value_of_line line) value_reading a g in value_said value.0 a value.2
