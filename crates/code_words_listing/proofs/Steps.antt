-- Lines that lead to a state begin a listing.
use Rattle.std.proofs.Common.{◌≡◌, ℕ, zero, suc, ◌+◌, ◌<◌, ◌≤◌, ◌==◌, ◌&&◌, Bool, true, false, List, [], ◌∷◌, ◌++◌, length, map, flat_map, Option, Some, None, refl, sym, ap, ◌∙◌, subst, arith, append_assoc, append-nil, length-append, lit<}
use Rattle.std.specs.Prelude.{All, nat_lt, nat_le, codes}
use Rattle.std.proofs.lemmas.List.{map-append}
use Rattle.std.proofs.lemmas.Grind.{flat_map-append}
use Rattle.std.proofs.lemmas.List.Elements.{All-nil, All-cons, All-append}
use Rattle.std.proofs.lemmas.Bool.Decides.{Decides-eqb, nat_tests}
use Rattle.ckc_text.specs.declared.place.Place.{Place}
use Rattle.marshalling.specs.declared.kind.WordKind.{WordKind}
use Rattle.marshalling.specs.declared.kind.WordKind.TheVariants as kinds
use Rattle.marshalling.specs.declared.signature.Region.{Region}
use Rattle.marshalling.specs.declared.signature.Param.{Param}
use Rattle.marshalling.specs.Signatures.{IsBelow, IsParameterOf, IsSignature}
use Rattle.code_words.specs.declared.op.Op.{Op}
use Rattle.code_words.specs.declared.image.Callback.{Callback}
use Rattle.code_words.specs.Functions.{Func, Import}
use Rattle.code_words.specs.Formats.{Follow, Rise}
use Rattle.code_words.specs.Images.{Image}
use Rattle.code_words_listing.specs.Fields.{Fixed, At, Fits}
use Rattle.code_words_listing.specs.Lines.{Line, Heading, TrustedSide, StaticBlock, TaintedFunction, Entry, Parameter, Begin, Instruction, End, Main, SandboxSide, Close, fields, KeepsLimits, IsAllowed}
use Rattle.code_words_listing.specs.Listings.{trusted_lines, sandbox_lines, lines_of, block_lines, callback_lines, function_lines, main_lines, InFormat}
use Rattle.code_words_listing.specs.Verdicts.{BeginListing, AreListing}
use Rattle.code_words_listing.specs.Reading.{when}
use Rattle.code_words_listing.specs.Steps.{State, Start, Headed, InTrusted, InCallback, InFunction, InSandbox, InBody, Closed, no_side, no_image, with_block, with_function, with_import, with_callback, with_main, in_trusted, in_sandbox, in_layout, with_parameter, with_instruction, is_empty, is_absent, before_main, before_functions, before_callbacks, before_imports, is_below, is_among, opened, least_behind, start_step, headed_step, function_step, step, lines_to, begun_lines}
use Rattle.code_words_listing.specs.Reached.{is_instruction, outside}
use Rattle.code_words_listing.proofs.OneVerdict.{shorter}

-- ---- tests

pub both : (a b : Bool) → (a && b) ≡ true → (a ≡ true) × (b ≡ true)
both true b h = (refl, h)
both false b h = cc

empty-list : {A : Type 0} (xs : List A) → is_empty xs ≡ true → xs ≡ []
empty-list [] h = refl
empty-list (x ∷ xs) h = cc

no-number : (number : Option ℕ) → is_absent number ≡ true → number ≡ None
no-number None h = refl
no-number (Some number) h = cc

-- what a test lets through
pub record Passed {A : Type 0} (test : Bool) (value : A) (found : A) : Type 0 where
  pub holds : test ≡ true
  pub is : value ≡ found

pub passed : {A : Type 0} (test : Bool) (value found : A) → when test value ≡ Some found → Passed test value found
passed true value found h = record { holds = refl; is = cc }
passed false value found h = cc

-- ---- lists that grow

blocks-last : (number : ℕ) (blocks : List (List ℕ)) (block : List ℕ) (next : ℕ) → next ≡ number + length blocks → block_lines number (blocks ++ block ∷ []) ≡ block_lines number blocks ++ StaticBlock next block ∷ []
blocks-last number [] block next h = ap (λ n. StaticBlock n block ∷ []) (omega (arith, h))
blocks-last number (b ∷ blocks) block next h = ap (λ l. StaticBlock number b ∷ l) (blocks-last (suc number) blocks block next (omega (arith, h)))

flat-last : {X A : Type 0} (f : X → List A) (xs : List X) (x : X) → flat_map f (xs ++ x ∷ []) ≡ flat_map f xs ++ f x
flat-last f xs x = flat_map-append f xs (x ∷ []) ∙ ap (λ l. flat_map f xs ++ l) (append-nil (f x))

follow-last : {X : Type 0} (number : X → ℕ) (first : ℕ) (xs : List X) (x : X) → number x ≡ first + length xs → Follow first (map number xs) → Follow first (map number (xs ++ x ∷ []))
follow-last number first [] x e h = (omega (arith, e), tt)
follow-last number first (y ∷ xs) x e h = (h.0, follow-last number (suc first) xs x (omega (arith, e)) h.1)

rise-last : (least : ℕ) (funs : List Func) (f : Func) → least_behind least funs ≤ f.number → Rise least (map (λ (f : Func). f.number) funs) → Rise least (map (λ (f : Func). f.number) (funs ++ f ∷ []))
rise-last least [] f e h = (e, tt)
rise-last least (g ∷ funs) f e h = (h.0, rise-last (suc g.number) funs f e h.1)

-- the trusted side with one more line, or more, in its last group
block-behind : (blocks : List (List ℕ)) (block : List ℕ) (number : ℕ) (imports calls funs main : List Line) → number ≡ length blocks → imports ≡ [] → calls ≡ [] → funs ≡ [] → main ≡ []
    → block_lines 0 (blocks ++ block ∷ []) ++ (imports ++ (calls ++ (funs ++ main))) ≡ (block_lines 0 blocks ++ (imports ++ (calls ++ (funs ++ main)))) ++ StaticBlock number block ∷ []
block-behind blocks block number imports calls funs main n a b c d =
    rw (a, b, c, d, append-nil (block_lines 0 (blocks ++ block ∷ [])), append-nil (block_lines 0 blocks)) (blocks-last 0 blocks block number (omega (arith, n)))

import-behind : (a b x calls funs main : List Line) → calls ≡ [] → funs ≡ [] → main ≡ [] → a ++ ((b ++ x) ++ (calls ++ (funs ++ main))) ≡ (a ++ (b ++ (calls ++ (funs ++ main)))) ++ x
import-behind a b x calls funs main e f g = rw (e, f, g, append-nil (b ++ x), append-nil b) (sym (append_assoc a b x))

callback-behind : (a b c x funs main : List Line) → funs ≡ [] → main ≡ [] → a ++ (b ++ ((c ++ x) ++ (funs ++ main))) ≡ (a ++ (b ++ (c ++ (funs ++ main)))) ++ x
callback-behind a b c x funs main e f = rw (e, f, append-nil (c ++ x), append-nil c) (ap (λ l. a ++ l) (sym (append_assoc b c x)) ∙ sym (append_assoc a (b ++ c) x))

function-behind : (a b c d x main : List Line) → main ≡ [] → a ++ (b ++ (c ++ ((d ++ x) ++ main))) ≡ (a ++ (b ++ (c ++ (d ++ main)))) ++ x
function-behind a b c d x main e =
    rw (e, append-nil (d ++ x), append-nil d)
    (ap (λ l. a ++ (b ++ l)) (sym (append_assoc c d x)) ∙ ap (λ l. a ++ l) (sym (append_assoc b (c ++ d) x)) ∙ sym (append_assoc a (b ++ (c ++ d)) x))

main-behind : (a b c d x main : List Line) → main ≡ [] → a ++ (b ++ (c ++ (d ++ x))) ≡ (a ++ (b ++ (c ++ (d ++ main)))) ++ x
main-behind a b c d x main e =
    rw (e, append-nil d)
    (ap (λ l. a ++ (b ++ l)) (sym (append_assoc c d x)) ∙ ap (λ l. a ++ l) (sym (append_assoc b (c ++ d) x)) ∙ sym (append_assoc a (b ++ (c ++ d)) x))

no-main : (image : Image) → before_main image ≡ true → main_lines image.layout.main ≡ []
no-main image h = ap main_lines (no-number image.layout.main h)

-- ---- what each state keeps

-- what is told of the trusted side is as the format asks
pub record InOrder (image : Image) : Type 0 where
  pub functions : Follow 0 (map (λ (f : Func). f.number) image.trusted.funs)
  pub imports : Follow 0 (map (λ (i : Import). i.number) image.layout.imports)
  pub callbacks : Follow 0 (map (λ (c : Callback). c.number) image.layout.callbacks)
  pub callable : All (λ (c : Callback). IsSignature c.signature) image.layout.callbacks

-- and what is told of the sandbox's side
pub record BodiesInOrder (image : Image) : Type 0 where
  pub bodies : Rise 0 (map (λ (f : Func). f.number) image.sandbox.funs)
  pub imported : All (λ (f : Func). f.number < length image.layout.imports) image.sandbox.funs

-- a callback waits for so many parameters
pub record Waits (image : Image) (c : Callback) (left : ℕ) : Type 0 where
  pub before : before_functions image ≡ true
  pub number : c.number ≡ length image.layout.callbacks
  pub few : length c.signature + left ≤ 16
  pub parameters : All (λ (p : Param). IsParameterOf (length c.signature + left) p.kind p.region) c.signature

abbrev pub Kept : State → Type 0
Kept Start = Unit {0}
Kept Headed = Unit {0}
Kept (InTrusted image) = InOrder image
Kept (InCallback image c left) = InOrder image × Waits image c (suc left)
Kept (InFunction image f) = InOrder image × (before_main image ≡ true) × (f.number ≡ length image.trusted.funs)
Kept (InSandbox image) = InOrder image × BodiesInOrder image
Kept (InBody image f) = InOrder image × BodiesInOrder image × (least_behind 0 image.sandbox.funs ≤ f.number) × (f.number < length image.layout.imports)
Kept (Closed image) = InOrder image × BodiesInOrder image

-- what a line changes of the function that has begun: nothing; one begins; or none is there any more
pub data Bounds (from to : State) (line : Line) : Type 0 where
  Within : outside to ≡ outside from → Bounds from to line
  Begun : outside to ≡ from → is_instruction line ≡ false → Bounds from to line
  Past : outside to ≡ to → is_instruction line ≡ false → Bounds from to line

-- one more line leads from a state to another
pub record Leads (from to : State) (line : Line) : Type 0 where
  pub kept : Kept to
  pub lines : lines_to to ≡ lines_to from ++ line ∷ []
  pub bounds : Bounds from to line

-- ---- the trusted side

block-leads : (image : Image) (number : ℕ) (bytes : List ℕ) → InOrder image → before_imports image ≡ true → number ≡ length image.trusted.blocks
    → Leads (InTrusted image) (InTrusted (in_trusted (with_block bytes image.trusted) image)) (StaticBlock number bytes)
block-leads image number bytes k t n =
    let a = both (is_empty image.layout.imports) (before_callbacks image) t in
    let b = both (is_empty image.layout.callbacks) (before_functions image) a.1 in
    let c = both (is_empty image.trusted.funs) (before_main image) b.1 in
    record {
      bounds = Past refl refl;
      kept = record { functions = k.functions; imports = k.imports; callbacks = k.callbacks; callable = k.callable };
      lines =
          ap (λ (l : List Line). Heading ∷ TrustedSide ∷ l)
          (block-behind image.trusted.blocks bytes number (map TaintedFunction image.layout.imports) (flat_map callback_lines image.layout.callbacks) (flat_map function_lines image.trusted.funs) (main_lines image.layout.main) n
          (ap (map TaintedFunction) (empty-list image.layout.imports a.0)) (ap (flat_map callback_lines) (empty-list image.layout.callbacks b.0)) (ap (flat_map function_lines) (empty-list image.trusted.funs c.0)) (no-main image c.1));
    }

import-leads : (image : Image) (i : Import) → InOrder image → before_callbacks image ≡ true → i.number ≡ length image.layout.imports
    → Leads (InTrusted image) (InTrusted (in_layout (with_import i image.layout) image)) (TaintedFunction i)
import-leads image i k t n =
    let b = both (is_empty image.layout.callbacks) (before_functions image) t in
    let c = both (is_empty image.trusted.funs) (before_main image) b.1 in
    let calls : List Line = flat_map callback_lines image.layout.callbacks in
    let funs : List Line = flat_map function_lines image.trusted.funs in
    record {
      bounds = Past refl refl;
      kept = record { functions = k.functions; imports = follow-last (λ (i : Import). i.number) 0 image.layout.imports i (omega (arith, n)) k.imports; callbacks = k.callbacks; callable = k.callable };
      lines =
          ap (λ (l : List Line). Heading ∷ TrustedSide ∷ l)
          (ap (λ (l : List Line). block_lines 0 image.trusted.blocks ++ (l ++ (calls ++ (funs ++ main_lines image.layout.main)))) (map-append TaintedFunction image.layout.imports (i ∷ []))
          ∙ import-behind (block_lines 0 image.trusted.blocks) (map TaintedFunction image.layout.imports) (TaintedFunction i ∷ []) calls funs (main_lines image.layout.main)
          (ap (flat_map callback_lines) (empty-list image.layout.callbacks b.0)) (ap (flat_map function_lines) (empty-list image.trusted.funs c.0)) (no-main image c.1));
    }

main-leads : (image : Image) (number : ℕ) → InOrder image → before_main image ≡ true → Leads (InTrusted image) (InTrusted (in_layout (with_main number image.layout) image)) (Main number)
main-leads image number k t =
    record {
      bounds = Past refl refl;
      kept = record { functions = k.functions; imports = k.imports; callbacks = k.callbacks; callable = k.callable };
      lines =
          ap (λ (l : List Line). Heading ∷ TrustedSide ∷ l)
          (main-behind (block_lines 0 image.trusted.blocks) (map TaintedFunction image.layout.imports) (flat_map callback_lines image.layout.callbacks) (flat_map function_lines image.trusted.funs) (Main number ∷ []) (main_lines image.layout.main) (no-main image t));
    }

-- a function with its end
function-leads : (image : Image) (f : Func) → InOrder image → before_main image ≡ true → f.number ≡ length image.trusted.funs → Leads (InFunction image f) (InTrusted (in_trusted (with_function f image.trusted) image)) End
function-leads image f k t n =
    let calls : List Line = flat_map callback_lines image.layout.callbacks in
    let funs : List Line = flat_map function_lines image.trusted.funs in
    record {
      bounds = Past refl refl;
      kept = record { functions = follow-last (λ (f : Func). f.number) 0 image.trusted.funs f (omega (arith, n)) k.functions; imports = k.imports; callbacks = k.callbacks; callable = k.callable };
      lines =
          ap (λ (l : List Line). Heading ∷ TrustedSide ∷ l)
          (ap (λ (l : List Line). block_lines 0 image.trusted.blocks ++ (map TaintedFunction image.layout.imports ++ (calls ++ (l ++ main_lines image.layout.main)))) (flat-last function_lines image.trusted.funs f)
          ∙ function-behind (block_lines 0 image.trusted.blocks) (map TaintedFunction image.layout.imports) calls funs (function_lines f) (main_lines image.layout.main) (no-main image t)
          ∙ sym (append_assoc (trusted_lines image) (begun_lines f) (End ∷ [])));
    }

-- a callback with all its parameters
whole-callback : (image : Image) (c : Callback) → before_functions image ≡ true → trusted_lines (in_layout (with_callback c image.layout) image) ≡ trusted_lines image ++ callback_lines c
whole-callback image c t =
    let b = both (is_empty image.trusted.funs) (before_main image) t in
    let funs : List Line = flat_map function_lines image.trusted.funs in
    ap (λ (l : List Line). block_lines 0 image.trusted.blocks ++ (map TaintedFunction image.layout.imports ++ (l ++ (funs ++ main_lines image.layout.main)))) (flat-last callback_lines image.layout.callbacks c)
    ∙ callback-behind (block_lines 0 image.trusted.blocks) (map TaintedFunction image.layout.imports) (flat_map callback_lines image.layout.callbacks) (callback_lines c) funs (main_lines image.layout.main)
    (ap (flat_map function_lines) (empty-list image.trusted.funs b.0)) (no-main image b.1)

with-callback : (image : Image) (c : Callback) → InOrder image → Waits image c 0 → InOrder (in_layout (with_callback c image.layout) image)
with-callback image c k w =
    let all : length c.signature + 0 ≡ length c.signature = omega arith in
    record {
      functions = k.functions;
      imports = k.imports;
      callbacks = follow-last (λ (c : Callback). c.number) 0 image.layout.callbacks c (omega (arith, w.number)) k.callbacks;
      callable =
          All-append (λ (c : Callback). IsSignature c.signature) image.layout.callbacks (c ∷ []) k.callable
          (All-cons (λ (c : Callback). IsSignature c.signature) c [] (record { few = omega (arith, w.few); parameters = subst (λ n. All (λ (p : Param). IsParameterOf n p.kind p.region) c.signature) all w.parameters })
          (All-nil (λ (c : Callback). IsSignature c.signature)));
    }

-- the lines of a callback that waits for so many parameters
abbrev waiting : Callback → ℕ → List Line
waiting c left = Entry c.number c.fun (length c.signature + left) c.result ∷ map Parameter c.signature

opened-kept : (image : Image) (c : Callback) (left : ℕ) → InOrder image → Waits image c left → Kept (opened image c left)
opened-kept image c zero k w = with-callback image c k w
opened-kept image c (suc left) k w = (k, w)

opened-outside : (image : Image) (c : Callback) (left : ℕ) → outside (opened image c left) ≡ opened image c left
opened-outside image c zero = refl
opened-outside image c (suc left) = refl

opened-lines : (image : Image) (c : Callback) (left : ℕ) → before_functions image ≡ true → lines_to (opened image c left) ≡ Heading ∷ TrustedSide ∷ (trusted_lines image ++ waiting c left)
opened-lines image c zero t =
    ap (λ (l : List Line). Heading ∷ TrustedSide ∷ l)
    (whole-callback image c t ∙ ap (λ n. trusted_lines image ++ Entry c.number c.fun n c.result ∷ map Parameter c.signature) (omega arith))
opened-lines image c (suc left) t = refl

entry-leads : (image : Image) (number fun args : ℕ) (result : WordKind) → InOrder image → before_functions image ≡ true → number ≡ length image.layout.callbacks → args ≤ 16
    → Leads (InTrusted image) (opened image (record { number = number; fun = fun; signature = []; result = result }) args) (Entry number fun args result)
entry-leads image number fun args result k t n few =
    let c : Callback = record { number = number; fun = fun; signature = []; result = result } in
    let none : 0 + args ≡ args = omega arith in
    record {
      bounds = Past (opened-outside image c args) refl;
      kept = opened-kept image c args k (record { before = t; number = n; few = omega (arith, few); parameters = All-nil (λ (p : Param). IsParameterOf (0 + args) p.kind p.region) });
      lines = opened-lines image c args t ∙ ap (λ m. Heading ∷ TrustedSide ∷ (trusted_lines image ++ Entry number fun m result ∷ [])) none;
    }

below-is : (count : ℕ) (number : Option ℕ) → is_below count number ≡ true → IsBelow count number
below-is count None h = tt
below-is count (Some n) h = grind (arith, nat_tests, h)

parameter-of : (count : ℕ) (kind : WordKind) (region : Option Region) (place : Place) → is_among count region ≡ true → IsAllowed (Parameter (record { kind = kind; place = place; region = region })) → IsParameterOf count kind region
parameter-of count kinds.Void region place h a = absurd a.limits
parameter-of count kinds.Pointer None place h a = tt
parameter-of count kinds.Pointer (Some r) place h a =
    let b = both (nat_lt r.base count) (is_below count r.lo_var && is_below count r.hi_var) h in
    let c = both (is_below count r.lo_var) (is_below count r.hi_var) b.1 in
    record { base = grind (arith, nat_tests, b.0); low = below-is count r.lo_var c.0; high = below-is count r.hi_var c.1; size = (a.words 7 (Fixed []) (lit< tt)).0 }
parameter-of count kinds.Int None place h a = tt
parameter-of count kinds.Int (Some r) place h a = let none : Some r ≡ None = a.limits in cc
parameter-of count kinds.Char None place h a = tt
parameter-of count kinds.Char (Some r) place h a = let none : Some r ≡ None = a.limits in cc

parameter-leads : (image : Image) (c : Callback) (left : ℕ) (p : Param) → InOrder image → Waits image c (suc left) → is_among (length c.signature + suc left) p.region ≡ true → IsAllowed (Parameter p)
    → Leads (InCallback image c left) (opened image (with_parameter p c) left) (Parameter p)
parameter-leads image c left p k w t a =
    let count : length (c.signature ++ p ∷ []) + left ≡ length c.signature + suc left = omega (arith, length-append c.signature (p ∷ [])) in
    let here : IsParameterOf (length c.signature + suc left) p.kind p.region = parameter-of (length c.signature + suc left) p.kind p.region p.place t a in
    let all =
    All-append (λ (p : Param). IsParameterOf (length c.signature + suc left) p.kind p.region) c.signature (p ∷ []) w.parameters
    (All-cons (λ (p : Param). IsParameterOf (length c.signature + suc left) p.kind p.region) p [] here (All-nil (λ (p : Param). IsParameterOf (length c.signature + suc left) p.kind p.region))) in
    record {
      bounds = Past (opened-outside image (with_parameter p c) left) refl;
      kept =
          opened-kept image (with_parameter p c) left k
          (record { before = w.before; number = w.number; few = omega (arith, w.few, count); parameters = subst (λ n. All (λ (p : Param). IsParameterOf n p.kind p.region) (c.signature ++ p ∷ [])) (sym count) all });
      lines =
          opened-lines image (with_parameter p c) left w.before
          ∙ ap (λ (l : List Line). Heading ∷ TrustedSide ∷ l)
          (ap (λ n. trusted_lines image ++ Entry c.number c.fun n c.result ∷ map Parameter (c.signature ++ p ∷ [])) count
          ∙ ap (λ (l : List Line). trusted_lines image ++ Entry c.number c.fun (length c.signature + suc left) c.result ∷ l) (map-append Parameter c.signature (p ∷ []))
          ∙ sym (append_assoc (trusted_lines image) (Entry c.number c.fun (length c.signature + suc left) c.result ∷ map Parameter c.signature) (Parameter p ∷ [])));
    }

-- ---- the sandbox's side

side-leads : (image : Image) → InOrder image → Leads (InTrusted image) (InSandbox (in_sandbox no_side image)) SandboxSide
side-leads image k =
    record {
      bounds = Past refl refl;
      kept = (record { functions = k.functions; imports = k.imports; callbacks = k.callbacks; callable = k.callable }, record { bodies = tt; imported = All-nil (λ (f : Func). f.number < length image.layout.imports) });
      lines = refl;
    }

sandbox-block-leads : (image : Image) (number : ℕ) (bytes : List ℕ) → InOrder image → BodiesInOrder image → is_empty image.sandbox.funs ≡ true → number ≡ length image.sandbox.blocks
    → Leads (InSandbox image) (InSandbox (in_sandbox (with_block bytes image.sandbox) image)) (StaticBlock number bytes)
sandbox-block-leads image number bytes k b t n =
    record {
      bounds = Past refl refl;
      kept = (record { functions = k.functions; imports = k.imports; callbacks = k.callbacks; callable = k.callable }, record { bodies = b.bodies; imported = b.imported });
      lines =
          ap (λ (l : List Line). Heading ∷ TrustedSide ∷ (trusted_lines image ++ SandboxSide ∷ l))
          (ap (λ (funs : List Func). block_lines 0 (image.sandbox.blocks ++ bytes ∷ []) ++ flat_map function_lines funs) (empty-list image.sandbox.funs t)
          ∙ append-nil (block_lines 0 (image.sandbox.blocks ++ bytes ∷ []))
          ∙ blocks-last 0 image.sandbox.blocks bytes number (omega (arith, n))
          ∙ ap (λ l. l ++ StaticBlock number bytes ∷ []) (sym (append-nil (block_lines 0 image.sandbox.blocks)))
          ∙ ap (λ (funs : List Func). (block_lines 0 image.sandbox.blocks ++ flat_map function_lines funs) ++ StaticBlock number bytes ∷ []) (sym (empty-list image.sandbox.funs t)))
          ∙ ap (λ (l : List Line). Heading ∷ TrustedSide ∷ l) (sym (append_assoc (trusted_lines image) (SandboxSide ∷ sandbox_lines image) (StaticBlock number bytes ∷ [])));
    }

body-begins : (image : Image) (f : Func) → InOrder image → BodiesInOrder image → f.ops ≡ [] → least_behind 0 image.sandbox.funs ≤ f.number → f.number < length image.layout.imports
    → Leads (InSandbox image) (InBody image f) (Begin f.number f.name f.args f.slots f.stack f.result)
body-begins image f k b e low high =
    record {
      bounds = Begun refl refl;
      kept = (k, b, low, high);
      lines =
          ap (λ ops. Heading ∷ TrustedSide ∷ (trusted_lines image ++ SandboxSide ∷ (sandbox_lines image ++ Begin f.number f.name f.args f.slots f.stack f.result ∷ map Instruction ops))) e
          ∙ ap (λ (l : List Line). Heading ∷ TrustedSide ∷ l) (sym (append_assoc (trusted_lines image) (SandboxSide ∷ sandbox_lines image) (Begin f.number f.name f.args f.slots f.stack f.result ∷ [])));
    }

body-goes-on : (image : Image) (f : Func) (op : Op) → Kept (InBody image f) → Leads (InBody image f) (InBody image (with_instruction op f)) (Instruction op)
body-goes-on image f op k =
    record {
      bounds = Within refl;
      kept = k;
      lines =
          ap (λ (l : List Line). Heading ∷ TrustedSide ∷ (trusted_lines image ++ SandboxSide ∷ (sandbox_lines image ++ Begin f.number f.name f.args f.slots f.stack f.result ∷ l))) (map-append Instruction f.ops (op ∷ []))
          ∙ ap (λ (l : List Line). Heading ∷ TrustedSide ∷ (trusted_lines image ++ SandboxSide ∷ l)) (sym (append_assoc (sandbox_lines image) (begun_lines f) (Instruction op ∷ [])))
          ∙ ap (λ (l : List Line). Heading ∷ TrustedSide ∷ l) (sym (append_assoc (trusted_lines image) (SandboxSide ∷ (sandbox_lines image ++ begun_lines f)) (Instruction op ∷ [])));
    }

body-leads : (image : Image) (f : Func) → Kept (InBody image f) → Leads (InBody image f) (InSandbox (in_sandbox (with_function f image.sandbox) image)) End
body-leads image f k =
    let o = k.0 in
    let b = k.1 in
    record {
      bounds = Past refl refl;
      kept = (
        record { functions = o.functions; imports = o.imports; callbacks = o.callbacks; callable = o.callable },
        record {
          bodies = rise-last 0 image.sandbox.funs f k.2 b.bodies;
          imported =
              All-append (λ (f : Func). f.number < length image.layout.imports) image.sandbox.funs (f ∷ []) b.imported
              (All-cons (λ (f : Func). f.number < length image.layout.imports) f [] k.3 (All-nil (λ (f : Func). f.number < length image.layout.imports)));
        },
      );
      lines =
          ap (λ (l : List Line). Heading ∷ TrustedSide ∷ (trusted_lines image ++ SandboxSide ∷ l))
          (ap (λ (l : List Line). block_lines 0 image.sandbox.blocks ++ l) (flat-last function_lines image.sandbox.funs f)
          ∙ sym (append_assoc (block_lines 0 image.sandbox.blocks) (flat_map function_lines image.sandbox.funs) (function_lines f))
          ∙ sym (append_assoc (sandbox_lines image) (begun_lines f) (End ∷ [])))
          ∙ ap (λ (l : List Line). Heading ∷ TrustedSide ∷ l) (sym (append_assoc (trusted_lines image) (SandboxSide ∷ (sandbox_lines image ++ begun_lines f)) (End ∷ [])));
    }

close-leads : (image : Image) → Kept (InSandbox image) → Leads (InSandbox image) (Closed image) Close
close-leads image k =
    record {
      bounds = Past refl refl;
      kept = k;
      lines = ap (λ (l : List Line). Heading ∷ TrustedSide ∷ l) (sym (append_assoc (trusted_lines image) (SandboxSide ∷ sandbox_lines image) (Close ∷ [])));
    }

-- ---- functions of the trusted side

function-begins : (image : Image) (f : Func) → InOrder image → f.ops ≡ [] → before_main image ≡ true → f.number ≡ length image.trusted.funs
    → Leads (InTrusted image) (InFunction image f) (Begin f.number f.name f.args f.slots f.stack f.result)
function-begins image f k e t n =
    record { kept = (k, t, n); bounds = Begun refl refl; lines = ap (λ ops. Heading ∷ TrustedSide ∷ (trusted_lines image ++ Begin f.number f.name f.args f.slots f.stack f.result ∷ map Instruction ops)) e }

function-goes-on : (image : Image) (f : Func) (op : Op) → Kept (InFunction image f) → Leads (InFunction image f) (InFunction image (with_instruction op f)) (Instruction op)
function-goes-on image f op k =
    record {
      bounds = Within refl;
      kept = k;
      lines =
          ap (λ (l : List Line). Heading ∷ TrustedSide ∷ (trusted_lines image ++ Begin f.number f.name f.args f.slots f.stack f.result ∷ l)) (map-append Instruction f.ops (op ∷ []))
          ∙ ap (λ (l : List Line). Heading ∷ TrustedSide ∷ l) (sym (append_assoc (trusted_lines image) (begun_lines f) (Instruction op ∷ [])));
    }

-- ---- each step

same-number : (m n : ℕ) → (m == n) ≡ true → m ≡ n
same-number m n h = (Decides-eqb m n).0 h

to : {from : State} {line : Line} (next found : State) → Leads from next line → next ≡ found → Leads from found line
to {from = from} {line = line} next found l e = subst (λ s. Leads from s line) e l

trusted-leads : (image : Image) (next : State) (line : Line) → InOrder image → IsAllowed line → step (InTrusted image) line ≡ Some next → Leads (InTrusted image) next line
trusted-leads image next Heading k a h = cc
trusted-leads image next TrustedSide k a h = cc
trusted-leads image next (StaticBlock number bytes) k a h =
    let p = passed (before_imports image && number == length image.trusted.blocks) (InTrusted (in_trusted (with_block bytes image.trusted) image)) next h in
    let t = both (before_imports image) (number == length image.trusted.blocks) p.holds in
    to (InTrusted (in_trusted (with_block bytes image.trusted) image)) next (block-leads image number bytes k t.0 (same-number number (length image.trusted.blocks) t.1)) p.is
trusted-leads image next (TaintedFunction i) k a h =
    let p = passed (before_callbacks image && i.number == length image.layout.imports) (InTrusted (in_layout (with_import i image.layout) image)) next h in
    let t = both (before_callbacks image) (i.number == length image.layout.imports) p.holds in
    to (InTrusted (in_layout (with_import i image.layout) image)) next (import-leads image i k t.0 (same-number i.number (length image.layout.imports) t.1)) p.is
trusted-leads image next (Entry number fun args result) k a h =
    let c : Callback = record { number = number; fun = fun; signature = []; result = result } in
    let p = passed (before_functions image && number == length image.layout.callbacks) (opened image c args) next h in
    let t = both (before_functions image) (number == length image.layout.callbacks) p.holds in
    to (opened image c args) next (entry-leads image number fun args result k t.0 (same-number number (length image.layout.callbacks) t.1) a.limits) p.is
trusted-leads image next (Parameter p) k a h = cc
trusted-leads image next (Begin number name args slots stack result) k a h =
    let f : Func = record { number = number; name = name; args = args; slots = slots; stack = stack; result = result; ops = [] } in
    let p = passed (before_main image && number == length image.trusted.funs) (InFunction image f) next h in
    let t = both (before_main image) (number == length image.trusted.funs) p.holds in
    to (InFunction image f) next (function-begins image f k refl t.0 (same-number number (length image.trusted.funs) t.1)) p.is
trusted-leads image next (Instruction op) k a h = cc
trusted-leads image next End k a h = cc
trusted-leads image next (Main number) k a h =
    let p = passed (before_main image) (InTrusted (in_layout (with_main number image.layout) image)) next h in
    to (InTrusted (in_layout (with_main number image.layout) image)) next (main-leads image number k p.holds) p.is
trusted-leads image next SandboxSide k a h = to (InSandbox (in_sandbox no_side image)) next (side-leads image k) cc
trusted-leads image next Close k a h = cc

sandbox-leads : (image : Image) (next : State) (line : Line) → Kept (InSandbox image) → step (InSandbox image) line ≡ Some next → Leads (InSandbox image) next line
sandbox-leads image next Heading k h = cc
sandbox-leads image next TrustedSide k h = cc
sandbox-leads image next (StaticBlock number bytes) k h =
    let p = passed (is_empty image.sandbox.funs && number == length image.sandbox.blocks) (InSandbox (in_sandbox (with_block bytes image.sandbox) image)) next h in
    let t = both (is_empty image.sandbox.funs) (number == length image.sandbox.blocks) p.holds in
    to (InSandbox (in_sandbox (with_block bytes image.sandbox) image)) next (sandbox-block-leads image number bytes k.0 k.1 t.0 (same-number number (length image.sandbox.blocks) t.1)) p.is
sandbox-leads image next (TaintedFunction i) k h = cc
sandbox-leads image next (Entry number fun args result) k h = cc
sandbox-leads image next (Parameter p) k h = cc
sandbox-leads image next (Begin number name args slots stack result) k h =
    let f : Func = record { number = number; name = name; args = args; slots = slots; stack = stack; result = result; ops = [] } in
    let p = passed (nat_le (least_behind 0 image.sandbox.funs) number && nat_lt number (length image.layout.imports)) (InBody image f) next h in
    let t = both (nat_le (least_behind 0 image.sandbox.funs) number) (nat_lt number (length image.layout.imports)) p.holds in
    to (InBody image f) next (body-begins image f k.0 k.1 refl (grind (arith, nat_tests, t.0)) (grind (arith, nat_tests, t.1))) p.is
sandbox-leads image next (Instruction op) k h = cc
sandbox-leads image next End k h = cc
sandbox-leads image next (Main number) k h = cc
sandbox-leads image next SandboxSide k h = cc
sandbox-leads image next Close k h = to (Closed image) next (close-leads image k) cc

within : (on ended : Func → State) (f : Func) (from next : State) (line : Line) → ((op : Op) → Leads from (on (with_instruction op f)) (Instruction op)) → Leads from (ended f) End
    → function_step on ended f line ≡ Some next → Leads from next line
within on ended f from next Heading goes ends h = cc
within on ended f from next TrustedSide goes ends h = cc
within on ended f from next (StaticBlock number bytes) goes ends h = cc
within on ended f from next (TaintedFunction i) goes ends h = cc
within on ended f from next (Entry number fun args result) goes ends h = cc
within on ended f from next (Parameter p) goes ends h = cc
within on ended f from next (Begin number name args slots stack result) goes ends h = cc
within on ended f from next (Instruction op) goes ends h = to (on (with_instruction op f)) next (goes op) cc
within on ended f from next End goes ends h = to (ended f) next ends cc
within on ended f from next (Main number) goes ends h = cc
within on ended f from next SandboxSide goes ends h = cc
within on ended f from next Close goes ends h = cc

callback-leads : (image : Image) (c : Callback) (left : ℕ) (next : State) (line : Line) → Kept (InCallback image c left) → IsAllowed line → step (InCallback image c left) line ≡ Some next → Leads (InCallback image c left) next line
callback-leads image c left next Heading k a h = cc
callback-leads image c left next TrustedSide k a h = cc
callback-leads image c left next (StaticBlock number bytes) k a h = cc
callback-leads image c left next (TaintedFunction i) k a h = cc
callback-leads image c left next (Entry number fun args result) k a h = cc
callback-leads image c left next (Parameter p) k a h =
    let t = passed (is_among (length c.signature + suc left) p.region) (opened image (with_parameter p c) left) next h in
    to (opened image (with_parameter p c) left) next (parameter-leads image c left p k.0 k.1 t.holds a) t.is
callback-leads image c left next (Begin number name args slots stack result) k a h = cc
callback-leads image c left next (Instruction op) k a h = cc
callback-leads image c left next End k a h = cc
callback-leads image c left next (Main number) k a h = cc
callback-leads image c left next SandboxSide k a h = cc
callback-leads image c left next Close k a h = cc

start-leads : (next : State) (line : Line) → start_step line ≡ Some next → Leads Start next line
start-leads next Heading h = to Headed next (record { kept = tt; lines = refl; bounds = Past refl refl }) cc
start-leads next TrustedSide h = cc
start-leads next (StaticBlock number bytes) h = cc
start-leads next (TaintedFunction i) h = cc
start-leads next (Entry number fun args result) h = cc
start-leads next (Parameter p) h = cc
start-leads next (Begin number name args slots stack result) h = cc
start-leads next (Instruction op) h = cc
start-leads next End h = cc
start-leads next (Main number) h = cc
start-leads next SandboxSide h = cc
start-leads next Close h = cc

nothing-told : InOrder no_image
nothing-told = record { functions = tt; imports = tt; callbacks = tt; callable = All-nil (λ (c : Callback). IsSignature c.signature) }

headed-leads : (next : State) (line : Line) → headed_step line ≡ Some next → Leads Headed next line
headed-leads next Heading h = cc
headed-leads next TrustedSide h = to (InTrusted no_image) next (record { kept = nothing-told; lines = refl; bounds = Past refl refl }) cc
headed-leads next (StaticBlock number bytes) h = cc
headed-leads next (TaintedFunction i) h = cc
headed-leads next (Entry number fun args result) h = cc
headed-leads next (Parameter p) h = cc
headed-leads next (Begin number name args slots stack result) h = cc
headed-leads next (Instruction op) h = cc
headed-leads next End h = cc
headed-leads next (Main number) h = cc
headed-leads next SandboxSide h = cc
headed-leads next Close h = cc

-- a line that may follow leads to the next state
pub step-leads : (from next : State) (line : Line) → Kept from → IsAllowed line → step from line ≡ Some next → Leads from next line
step-leads Start next line k a h = start-leads next line h
step-leads Headed next line k a h = headed-leads next line h
step-leads (InTrusted image) next line k a h = trusted-leads image next line k a h
step-leads (InCallback image c left) next line k a h = callback-leads image c left next line k a h
step-leads (InFunction image f) next line k a h =
    within (InFunction image) (λ g. InTrusted (in_trusted (with_function g image.trusted) image)) f (InFunction image f) next line (λ op. function-goes-on image f op k) (function-leads image f k.0 k.1 k.2) h
step-leads (InSandbox image) next line k a h = sandbox-leads image next line k h
step-leads (InBody image f) next line k a h =
    within (InBody image) (λ g. InSandbox (in_sandbox (with_function g image.sandbox) image)) f (InBody image f) next line (λ op. body-goes-on image f op k) (body-leads image f k) h
step-leads (Closed image) next line k a h = cc

-- ---- a state begins a listing

in-format : (image : Image) → InOrder image → BodiesInOrder image → All IsAllowed (lines_of image) → InFormat image
in-format image k b lines = record { functions = k.functions; imports = k.imports; callbacks = k.callbacks; bodies = b.bodies; imported = b.imported; callable = k.callable; lines = lines }

-- a word alone
pub plain : (line : Line) (word : List ℕ) → fields line ≡ Fixed word ∷ [] → KeepsLimits line → IsAllowed line
plain line word e limits = record { words = subst (All Fits) (sym e) (All-cons Fits (Fixed word) [] tt (All-nil Fits)); limits = limits }

one-more-allowed : (lines : List Line) (line : Line) → All IsAllowed lines → IsAllowed line → All IsAllowed (lines ++ line ∷ [])
one-more-allowed lines line h a = All-append IsAllowed lines (line ∷ []) h (All-cons IsAllowed line [] a (All-nil IsAllowed))

-- what a further line leads to begins a listing, so it does so
back : (from next : State) (line : Line) → IsAllowed line → All IsAllowed (lines_to from) → Leads from next line → (All IsAllowed (lines_to next) → BeginListing (lines_to next)) → BeginListing (lines_to from)
back from next line a all l begins =
    shorter (lines_to from) (line ∷ [])
    (subst BeginListing l.lines (begins (subst (All IsAllowed) (sym l.lines) (one-more-allowed (lines_to from) line all a))))

-- a whole image is in the format
pub closed-format : (image : Image) → Kept (Closed image) → All IsAllowed (lines_of image) → InFormat image
closed-format image k all = in-format image k.0 k.1 all

pub closed-listing : (image : Image) → Kept (Closed image) → All IsAllowed (lines_of image) → AreListing (lines_of image)
closed-listing image k all = record { image = image; kept = in-format image k.0 k.1 all; all = refl }

closed-begins : (image : Image) → Kept (Closed image) → All IsAllowed (lines_to (Closed image)) → BeginListing (lines_to (Closed image))
closed-begins image k all = record { image = image; later = []; kept = in-format image k.0 k.1 all; all = sym (append-nil (lines_of image)) }

sandbox-begins : (image : Image) → Kept (InSandbox image) → All IsAllowed (lines_to (InSandbox image)) → BeginListing (lines_to (InSandbox image))
sandbox-begins image k all = back (InSandbox image) (Closed image) Close (plain Close (codes "close") refl tt) all (close-leads image k) (closed-begins image k)

trusted-begins : (image : Image) → InOrder image → All IsAllowed (lines_to (InTrusted image)) → BeginListing (lines_to (InTrusted image))
trusted-begins image k all =
    let l = side-leads image k in
    back (InTrusted image) (InSandbox (in_sandbox no_side image)) SandboxSide (plain SandboxSide (codes "sandbox") refl tt) all l (sandbox-begins (in_sandbox no_side image) l.kept)

-- a number that is passed
abbrev filler : Param
filler = record { kind = kinds.Int; place = record { line = 0; col = 0 }; region = None }

filler-allowed : IsAllowed (Parameter filler)
filler-allowed = record { words = All-cons Fits (Fixed (codes "arg")) (Fixed (codes "int") ∷ At filler.place ∷ []) tt (All-cons Fits (Fixed (codes "int")) (At filler.place ∷ []) tt (All-cons Fits (At filler.place) [] (lit< tt, lit< tt) (All-nil Fits))); limits = refl }

callback-begins : (image : Image) (c : Callback) (left : ℕ) → Kept (InCallback image c left) → All IsAllowed (lines_to (InCallback image c left)) → BeginListing (lines_to (InCallback image c left))
callback-begins image c zero k all =
    let l = parameter-leads image c zero filler k.0 k.1 refl filler-allowed in
    back (InCallback image c zero) (opened image (with_parameter filler c) zero) (Parameter filler) filler-allowed all l (trusted-begins (in_layout (with_callback (with_parameter filler c) image.layout) image) l.kept)
callback-begins image c (suc left) k all =
    let l = parameter-leads image c (suc left) filler k.0 k.1 refl filler-allowed in
    back (InCallback image c (suc left)) (InCallback image (with_parameter filler c) left) (Parameter filler) filler-allowed all l (callback-begins image (with_parameter filler c) left l.kept)

heading-allowed : IsAllowed Heading
heading-allowed =
    record { words = All-cons Fits (Fixed (codes "ccbox")) (Fixed (codes "listing") ∷ Fixed (codes "1") ∷ []) tt (All-cons Fits (Fixed (codes "listing")) (Fixed (codes "1") ∷ []) tt (All-cons Fits (Fixed (codes "1")) [] tt (All-nil Fits))); limits = tt }

headed-begins : All IsAllowed (lines_to Headed) → BeginListing (lines_to Headed)
headed-begins all =
    back Headed (InTrusted no_image) TrustedSide (plain TrustedSide (codes "trusted") refl tt) all (record { kept = nothing-told; lines = refl; bounds = Past refl refl }) (trusted-begins no_image nothing-told)

-- the lines that lead to a state begin a listing
pub begins : (state : State) → Kept state → All IsAllowed (lines_to state) → BeginListing (lines_to state)
begins Start k all = back Start Headed Heading heading-allowed all (record { kept = tt; lines = refl; bounds = Past refl refl }) headed-begins
begins Headed k all = headed-begins all
begins (InTrusted image) k all = trusted-begins image k all
begins (InCallback image c left) k all = callback-begins image c left k all
begins (InFunction image f) k all =
    let l = function-leads image f k.0 k.1 k.2 in
    back (InFunction image f) (InTrusted (in_trusted (with_function f image.trusted) image)) End (plain End (codes "end") refl tt) all l (trusted-begins (in_trusted (with_function f image.trusted) image) l.kept)
begins (InSandbox image) k all = sandbox-begins image k all
begins (InBody image f) k all =
    let l = body-leads image f k in
    back (InBody image f) (InSandbox (in_sandbox (with_function f image.sandbox) image)) End (plain End (codes "end") refl tt) all l (sandbox-begins (in_sandbox (with_function f image.sandbox) image) l.kept)
begins (Closed image) k all = closed-begins image k all
