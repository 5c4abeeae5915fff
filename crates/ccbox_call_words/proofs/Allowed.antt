-- The settings and the input numbers that words ask for are allowed.
use Rattle.std.proofs.Common.{◌≡◌, ℕ, zero, suc, ℤ, ◌≤◌, Bool, true, false, nat_le, List, [], ◌∷◌, Option, Some, None, option_map, refl, subst, arith}
use Rattle.std.specs.Prelude.{if◌then◌else◌, ◌&&◌, ◌==◌, ◌%◌, codes, drop, length, All, IsTrue, pos, unwrap_or}
use Rattle.std.specs.Option.{option_and_then}
use Rattle.std.specs.List.{starts_with}
use Rattle.std.specs.Str.{bytes_eq}
use Rattle.std.proofs.lemmas.Bool.Decides.{nat_tests}
use Rattle.std.proofs.lemmas.List.Elements.{All-nil, All-cons}
use Rattle.act_words.specs.Checks.{is_word_number}
use Rattle.act_words.specs.Limits.{AreAllowed}
use Rattle.ccbox_call_words.specs.CommandLine.{Found, found_by}
use Rattle.ccbox_call_words.specs.Requests.{Options, Check, Split, Run, Exec, Request, settings_of, inputs_of, digits_number, in_range, number_from, base_from, negative, input_number, pieces_of, numbers_in, few, input_list}
use Rattle.ccbox_call_words.specs.Requests.{read_if_given, options_with, options_read, options_in, has_options, without_options, command_request, request_by, request_in, request_of}

-- a fact of what an option holds, if it holds something
abbrev In : {A : Type 0} → (A → Type 0) → Option A → Type 0
In P None = Unit {0}
In P (Some x) = P x

mapped : {A B : Type 0} (P : A → Type 0) (Q : B → Type 0) (f : A → B) (o : Option A) → ((x : A) → P x → Q (f x)) → In P o → In Q (option_map f o)
mapped P Q f None kept h = _
mapped P Q f (Some x) kept h = kept x h

bound : {A B : Type 0} (P : A → Type 0) (Q : B → Type 0) (f : A → Option B) (o : Option A) → ((x : A) → P x → In Q (f x)) → In P o → In Q (option_and_then f o)
bound P Q f None kept h = _
bound P Q f (Some x) kept h = kept x h

anything : {A : Type 0} (o : Option A) → In (λ x. Unit {0}) o
anything None = _
anything (Some x) = _

if_kept : {A : Type 0} (P : A → Type 0) (b : Bool) (x y : Option A) → In P x → In P y → In P (if b then x else y)
if_kept P true x y h k = h
if_kept P false x y h k = k

-- ---- numbers

abbrev IsWithin : ℕ → ℕ → ℕ → Type 0
IsWithin least most n = (least ≤ n) × (n ≤ most)

range_kept : (least most n : ℕ) → In (IsWithin least most) (in_range least most n)
range_kept least most n = by (nat_le least n && nat_le n most) refl
  where
    by : (b : Bool) → (nat_le least n && nat_le n most) ≡ b → In (IsWithin least most) (if b then Some n else None)
    by true e = (grind (arith, nat_tests), grind (arith, nat_tests))
    by false e = _

number_kept : (least most : ℕ) (text : List ℕ) → In (IsWithin least most) (number_from least most text)
number_kept least most text = bound (λ n. Unit {0}) (IsWithin least most) (in_range least most) (digits_number text) (λ n h. range_kept least most n) (anything (digits_number text))

abbrev IsBase : ℕ → Type 0
IsBase n = IsWithin 16 4026531840 n × (n % 16 ≡ 0)

base_kept : (text : List ℕ) → In IsBase (base_from text)
base_kept text = bound (IsWithin 16 4026531840) IsBase (λ n. if (n % 16) == 0 then Some n else None) (number_from 16 4026531840 text) aligned (number_kept 16 4026531840 text)
  where
    aligned : (n : ℕ) → IsWithin 16 4026531840 n → In IsBase (if (n % 16) == 0 then Some n else None)
    aligned n h = by ((n % 16) == 0) refl
      where
        by : (b : Bool) → ((n % 16) == 0) ≡ b → In IsBase (if b then Some n else None)
        by true e = (h, grind (arith, nat_tests))
        by false e = _

-- ---- input numbers

abbrev IsWord : ℤ → Type 0
IsWord z = is_word_number z ≡ true

abbrev AreWords : List ℤ → Type 0
AreWords [] = Unit {0}
AreWords (z ∷ zs) = IsWord z × AreWords zs

positive_word : (n : ℕ) → IsWithin 0 2147483647 n → IsWord (pos n)
positive_word n h = grind (arith, nat_tests)

negative_word : (n : ℕ) → IsWithin 0 2147483648 n → IsWord (negative n)
negative_word zero h = refl
negative_word (suc n) h = grind (arith, nat_tests)

input_kept : (text : List ℕ) → In IsWord (input_number text)
input_kept text =
    if_kept IsWord (starts_with ◌==◌ text (codes "-")) (option_map negative (number_from 0 2147483648 (drop 1 text))) (option_map pos (number_from 0 2147483647 text))
    (mapped (IsWithin 0 2147483648) IsWord negative (number_from 0 2147483648 (drop 1 text)) negative_word (number_kept 0 2147483648 (drop 1 text)))
    (mapped (IsWithin 0 2147483647) IsWord pos (number_from 0 2147483647 text) positive_word (number_kept 0 2147483647 text))

numbers_kept : (pieces : List (List ℕ)) → In AreWords (numbers_in pieces)
numbers_kept [] = _
numbers_kept (piece ∷ pieces) =
    bound IsWord AreWords (λ number. option_map (λ numbers. number ∷ numbers) (numbers_in pieces)) (input_number piece)
    (λ number word. mapped AreWords AreWords (λ numbers. number ∷ numbers) (numbers_in pieces) (λ numbers words. (word, words)) (numbers_kept pieces)) (input_kept piece)

list_kept : (text : List ℕ) → In AreWords (input_list text)
list_kept text = bound AreWords AreWords few (numbers_in (pieces_of text)) (λ numbers words. if_kept AreWords (nat_le (length numbers) 65536) (Some numbers) None words _) (numbers_kept (pieces_of text))

all_words : (inputs : List ℤ) → AreWords inputs → All (λ z. IsTrue (is_word_number z)) inputs
all_words [] words = All-nil (λ z. IsTrue (is_word_number z))
all_words (z ∷ zs) words = All-cons (λ z. IsTrue (is_word_number z)) z zs words.0 (all_words zs words.1)

-- ---- options

abbrev Holds : Options → Type 0
Holds o =
    IsWithin 1 1000000000 (unwrap_or o.budget 10000000)
    × IsWithin 65536 16777216 (unwrap_or o.sandbox 1048576)
    × IsWithin 65536 4194304 (unwrap_or o.trusted 1048576)
    × IsBase (unwrap_or o.base 65536)
    × AreWords (inputs_of o)

-- an option that was read holds what its text holds, and one that wasn't given holds its default
read_kept : {A : Type 0} (P : A → Type 0) (read : List ℕ → Option A) (default : A) → P default → ((text : List ℕ) → In P (read text)) → (o : Option (List ℕ)) → In (λ (x : Option A). P (unwrap_or x default)) (read_if_given read o)
read_kept P read default least kept None = least
read_kept P read default least kept (Some text) = mapped P (λ (x : Option _). P (unwrap_or x default)) (λ x. Some x) (read text) (λ x h. h) (kept text)

module _ (found : Found) where
  read_options : In Holds (options_read found)
  read_options =
      bound (λ i. AreWords (unwrap_or i [])) Holds _ (read_if_given input_list found.input) (λ i words.
      bound (λ n. IsWithin 1 1000000000 (unwrap_or n 10000000)) Holds _ (read_if_given (number_from 1 1000000000) found.budget) (λ b ticks.
      bound (λ n. IsWithin 65536 16777216 (unwrap_or n 1048576)) Holds _ (read_if_given (number_from 65536 16777216) found.sandbox) (λ s bytes.
      bound (λ n. IsWithin 65536 4194304 (unwrap_or n 1048576)) Holds _ (read_if_given (number_from 65536 4194304) found.trusted) (λ t room.
      mapped (λ n. IsBase (unwrap_or n 65536)) Holds (options_with found i b s t) (read_if_given base_from found.base) (λ a address. (ticks, bytes, room, address, words))
      (read_kept IsBase base_from 65536 ((omega arith, omega arith), refl) base_kept found.base))
      (read_kept (IsWithin 65536 4194304) (number_from 65536 4194304) 1048576 (omega arith, omega arith) (number_kept 65536 4194304) found.trusted))
      (read_kept (IsWithin 65536 16777216) (number_from 65536 16777216) 1048576 (omega arith, omega arith) (number_kept 65536 16777216) found.sandbox))
      (read_kept (IsWithin 1 1000000000) (number_from 1 1000000000) 10000000 (omega arith, omega arith) (number_kept 1 1000000000) found.budget))
      (read_kept AreWords input_list [] _ list_kept found.input)

  options_kept : In Holds (options_in found)
  options_kept = if_kept Holds found.code None (options_read found) _ read_options

-- ---- requests

abbrev OfRequest : Request → Type 0
OfRequest (Check file) = Unit {0}
OfRequest (Split file) = Unit {0}
OfRequest (Run file options) = Holds options
OfRequest (Exec file options) = Holds options

module _ (found : Found) where
  alone_kept : (request : Request) → OfRequest request → In OfRequest (without_options found request)
  alone_kept request h = if_kept OfRequest (has_options found) None (Some request) _ h

  command_kept : (command file : List ℕ) → In OfRequest (command_request command file found)
  command_kept command file =
      if_kept OfRequest (bytes_eq command (codes "check")) (without_options found (Check file)) _ (alone_kept (Check file) _)
      (if_kept OfRequest (bytes_eq command (codes "split")) (without_options found (Split file)) _ (alone_kept (Split file) _)
      (if_kept OfRequest (bytes_eq command (codes "run")) (option_map (Run file) (options_in found)) _
      (mapped Holds OfRequest (Run file) (options_in found) (λ options h. h) (options_kept found))
      (if_kept OfRequest (bytes_eq command (codes "exec")) (option_map (Exec file) (options_in found)) None
      (mapped Holds OfRequest (Exec file) (options_in found) (λ options h. h) (options_kept found)) _)))

  by_kept : (command first second : Option (List ℕ)) → In OfRequest (request_by command first second found)
  by_kept None first second = _
  by_kept (Some command) None second = _
  by_kept (Some command) (Some file) None = command_kept command file
  by_kept (Some command) (Some file) (Some word) = _

request_kept : (words : List (List ℕ)) → In OfRequest (request_of words)
request_kept words = bound (λ found. Unit {0}) OfRequest request_in (found_by words) (λ found h. by_kept found found.command found.first found.second) (anything (found_by words))

module _ (options : Options) (kept : Holds options) where
  settings_kept : AreAllowed (settings_of options)
  settings_kept = record {
    least_budget = kept.0.0;
    most_budget = kept.0.1;
    least_sandbox = kept.1.0;
    most_sandbox = kept.1.1;
    least_trusted = kept.2.0;
    most_trusted = kept.2.1;
    least_base = kept.3.0.0;
    most_base = kept.3.0.1;
    base_aligned = kept.3.1;
  }

  words_kept : All (λ z. IsTrue (is_word_number z)) (inputs_of options)
  words_kept = all_words (inputs_of options) kept.4

module _ (words : List (List ℕ)) (file : List ℕ) (options : Options) where
  pub settings_allowed : request_of words ≡ Some (Run file options) → AreAllowed (settings_of options)
  settings_allowed asked = settings_kept options (subst (In OfRequest) asked (request_kept words))

  pub inputs_are_words : request_of words ≡ Some (Run file options) → All (λ z. IsTrue (is_word_number z)) (inputs_of options)
  inputs_are_words asked = words_kept options (subst (In OfRequest) asked (request_kept words))

  pub listing_settings_allowed : request_of words ≡ Some (Exec file options) → AreAllowed (settings_of options)
  listing_settings_allowed asked = settings_kept options (subst (In OfRequest) asked (request_kept words))

  pub listing_inputs_are_words : request_of words ≡ Some (Exec file options) → All (λ z. IsTrue (is_word_number z)) (inputs_of options)
  listing_inputs_are_words asked = words_kept options (subst (In OfRequest) asked (request_kept words))
