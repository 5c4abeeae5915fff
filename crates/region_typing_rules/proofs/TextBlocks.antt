-- Strings: what stands in their blocks, and where each is found.
use Rattle.std.proofs.Common.{◌≡◌, ℕ, zero, suc, ◌+◌, ◌<◌, ◌≤◌, Bool, true, false, List, [], ◌∷◌, ◌++◌, map, length, Option, Some, None, refl, ap, subst, arith, pos}
use Rattle.std.specs.Prelude.{◌==◌, nat_le, slice_get}
use Rattle.std.specs.List.{AllByRecursion}
use Rattle.std.proofs.lemmas.Bool.{leb-true}
use Rattle.std.proofs.lemmas.Option.{same_Some}
use Rattle.ckc_text.specs.declared.place.Span.{Span}
use Rattle.ckc_text.specs.declared.code.Code.TheVariants.{E08}
use Rattle.ckc_tree.specs.Statements.{Statements}
use Rattle.ckc_tree.specs.Items as i
use Rattle.ckc_tree.specs.Texts.{Text}
use Rattle.bounds_flow.specs.Flows.{at_entry}
use Rattle.pointer_modes.specs.Types.{Char, Structure}
use Rattle.ckc_core.specs.declared.program.Site.{Site}
use Rattle.ckc_core.specs.Programs.{Initial, Variable}
use Rattle.ckc_core.specs.States.{shape, object_block, initial_value}
use Rattle.ckc_core.specs.Steps.{is_zero}
use Rattle.region_typing_rules.specs.Verdicts.{Passes}
use Rattle.region_typing_rules.specs.Strings.{FoundText, text_size, texts_size, text_from, char_cell, text_cells, text_object}
use Rattle.region_typing_rules.specs.Operands.{Typed, text_value, text_typed}
use Rattle.region_typing_rules.specs.Scopes.{Scope, Signature, bounds_in}
use Rattle.region_typing_rules.specs.Statements.{with_local}
use Rattle.region_typing_rules.specs.Knowing.{knowing}
use Rattle.region_typing_rules.specs.KeptParameters.{all_changed}
use Rattle.region_typing_rules.specs.Items.{Parameter, with_texts, with_parameters, with_bounds, variables_in, inside, names, first_changed_in}
use Rattle.region_typing_rules.specs.Typed.{IsEndedRow, EndsInZero}
use Rattle.region_typing_rules.specs.Lowerable.{cells_size, objects_size, IsRoomy}
use Rattle.region_typing_rules.proofs.Verdicts.{Promises, needs_promises}
use Rattle.region_typing_rules.proofs.Layouts.{IsStart, char_of}
use Rattle.region_typing_rules.proofs.Copies.{Copies, no_copy, one_more, LastIsZero, copies_roomy, copies_size, copies_start, number_types, number_strides}

-- ---- what stands in a block

text_copies : (structs : List Structure) (bytes : List ℕ) → Copies structs Char (suc (length bytes)) (text_cells bytes)
text_copies structs [] = one_more (char_of structs (pos 0)) no_copy
text_copies structs (byte ∷ bytes) = one_more (char_of structs (pos byte)) (text_copies structs bytes)

cells_long : (bytes : List ℕ) → length (text_cells bytes) ≡ suc (length bytes)
cells_long [] = refl
cells_long (byte ∷ bytes) = ap suc (cells_long bytes)

text_last : (bytes : List ℕ) → LastIsZero (text_cells bytes)
text_last [] zero i found last = subst (λ (i : Initial). is_zero (initial_value i.type i.number) ≡ true) (same_Some (char_cell 0) i found) refl
text_last [] (suc k) i found last = absurd (cc)
text_last (byte ∷ bytes) zero i found last = absurd (omega (arith, last, cells_long bytes))
text_last (byte ∷ bytes) (suc k) i found last = text_last bytes k i found (omega (arith, last))

-- a row of characters that a zero ends
pub text_row : (structs : List Structure) (t : Text) → IsEndedRow structs (shape (object_block (text_object t))) Char (length t.bytes)
text_row structs t = record {
  number = refl;
  ended = refl;
  unsealed = refl;
  types = number_types structs Char refl (suc (length t.bytes)) (text_cells t.bytes) (text_copies structs t.bytes);
  strides = number_strides structs Char refl (suc (length t.bytes)) (text_cells t.bytes) (text_copies structs t.bytes);
  some = omega arith;
}

-- its bytes are those that it is counted with
text_bytes : (t : Text) → cells_size (text_cells t.bytes) ≡ suc (length t.bytes)
text_bytes t = omega (arith, copies_size [] Char (suc (length t.bytes)) (text_cells t.bytes) (text_copies [] t.bytes) (omega (arith, cells_long t.bytes)))

pub texts_taken : (objects : List Variable) (texts : List Text) → objects_size (objects ++ map text_object texts) ≡ objects_size objects + texts_size texts
texts_taken [] [] = refl
texts_taken [] (t ∷ texts) = omega (arith, rounded (text_bytes t), texts_taken [] texts)
  where
    rounded : cells_size (text_cells t.bytes) ≡ suc (length t.bytes) → objects_size (text_object t ∷ []) ≡ text_size t
    rounded same = rw same (omega arith)
texts_taken (o ∷ objects) texts = omega (arith, texts_taken objects texts)

-- ---- all blocks

pub texts_start : (texts : List Text) → AllByRecursion (λ (o : Variable). AllByRecursion IsStart o.cells) (map text_object texts)
texts_start [] = tt
texts_start (t ∷ texts) = (copies_start [] Char (suc (length t.bytes)) (text_cells t.bytes) (text_copies [] t.bytes), texts_start texts)

pub texts_roomy : (texts : List Text) → AllByRecursion (λ (o : Variable). AllByRecursion IsRoomy o.cells × (0 < length o.cells)) (map text_object texts)
texts_roomy [] = tt
texts_roomy (t ∷ texts) = (
  (copies_roomy [] Char (suc (length t.bytes)) (text_cells t.bytes) (text_copies [] t.bytes), omega (arith, cells_long t.bytes)),
  texts_roomy texts,
)

-- where they take few bytes, each has few cells
pub texts_ended : (texts : List Text) → texts_size texts ≤ 32768 → AllByRecursion EndsInZero (map text_object texts)
texts_ended [] few = tt
texts_ended (t ∷ texts) few = (
  (λ ended. record { few = omega (arith, few, cells_long t.bytes); zero = text_last t.bytes }),
  texts_ended texts (omega (arith, few)),
)

-- ---- in a scope

-- the strings of a function change nothing of its parameters
parameters_beside : (ps : List Parameter) (taken : ℕ) (texts : List Text) (g : Scope) → with_parameters ps (with_texts taken texts g) ≡ with_texts taken texts (with_parameters ps g)
parameters_beside [] taken texts g = refl
parameters_beside (p ∷ ps) taken texts g = parameters_beside ps taken texts (with_local p.name p.type None g)

pub inside_beside : (f : Signature) (ps : List Parameter) (body : Statements) (taken : ℕ) (texts : List Text) (g : Scope) → inside f ps body (with_texts taken texts g) ≡ with_texts taken texts (inside f ps body g)
inside_beside f ps body taken texts g =
    ap (λ (b : Scope). record (knowing (with_bounds 0 ps b.flow) b) { result_bounds = bounds_in f.result_bounds })
    (parameters_beside ps taken texts (record g {
      locals = [];
      arrays = [];
      visible = [];
      result = f.result;
      result_bounds = None;
      in_loop = false;
      outside = 0;
      flow = at_entry (variables_in (length ps) body);
      breaks = None;
      continues = None;
    }))

pub changed_beside : (f : Signature) (ps : List Parameter) (body : Option i.Body) (taken : ℕ) (texts : List Text) (g : Scope) → first_changed_in (with_texts taken texts g) f ps body ≡ first_changed_in g f ps body
changed_beside f ps None taken texts g = refl
changed_beside f ps (Some body) taken texts g =
    ap (λ (here : Scope). all_changed (names (bounds_in f.result_bounds)) (length here.locals) here.visible body.statements) (inside_beside f ps body.statements taken texts g)

-- ---- where a string is found

-- a string that was found is one of those that are listed
pub record IsFound (first : ℕ) (texts : List Text) (f : FoundText) : Type 0 where
  pub number : ℕ
  pub text : Text
  pub found : slice_get texts number ≡ Some text
  pub object : f.object ≡ first + number
  pub length : f.length ≡ length text.bytes
  pub taken : text_size text ≤ f.taken

pub found_from : (first taken : ℕ) (texts : List Text) (from : ℕ) (f : FoundText) → text_from first taken texts from ≡ Some f → IsFound first texts f
found_from first taken [] from f h = absurd (cc)
found_from first taken (t ∷ texts) from f h = by (t.span.from == from) refl (λ h'. found_from (suc first) (taken + text_size t) texts from f h')
  where
    here : FoundText
    here = record { object = first; length = length t.bytes; taken = taken + text_size t }

    by : (test : Bool) → (t.span.from == from) ≡ test → (text_from (suc first) (taken + text_size t) texts from ≡ Some f → IsFound (suc first) texts f)
        → IsFound first (t ∷ texts) f
    by true e later =
        let same : here ≡ f = same_Some here f (rw e at h) in
        subst (IsFound first (t ∷ texts)) same (record { number = 0; text = t; found = refl; object = omega arith; length = refl; taken = omega arith })
    by false e later =
        let more = later (rw e at h) in
        let object = more.object in
        record { number = suc more.number; text = more.text; found = more.found; object = omega (arith, object); length = more.length; taken = more.taken }

-- what is promised of each string that is found, with few bytes up to its end
pub text_promises : (Q : Typed → Type 0) (structs : List Structure) (o : Option FoundText) (site : Site) (span : Span)
    → ((t : FoundText) → o ≡ Some t → t.taken ≤ 32768 → Q (text_value structs t site)) → Promises Q (text_typed structs o site span)
text_promises Q structs None site span h = tt
text_promises Q structs (Some t) site span h =
    needs_promises Q (nat_le t.taken 32768) E08 span (Passes (text_value structs t site)) (λ few. h t refl (leb-true t.taken 32768 few))

-- the same of all of them
pub any_text : (Q : Typed → Type 0) (structs : List Structure) (o : Option FoundText) (site : Site) (span : Span)
    → ((t : FoundText) → Q (text_value structs t site)) → Promises Q (text_typed structs o site span)
any_text Q structs o site span h = text_promises Q structs o site span (λ t e few. h t)
