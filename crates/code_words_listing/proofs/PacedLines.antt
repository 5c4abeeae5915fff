-- The texts that have no refused line are the listings of images.
use Rattle.std.proofs.Common.{◌≡◌, ◌≢◌, ℕ, suc, ◌==◌, ◌&&◌, Bool, true, false, List, [], ◌∷◌, ◌++◌, length, map, flat_map, Option, Some, None, inl, inr, refl, sym, ap, ◌∙◌, append_assoc, append-nil}
use Rattle.std.specs.Prelude.{All, IsTrue}
use Rattle.std.specs.List.{list_all}
use Rattle.std.proofs.lemmas.List.Elements.{All-nil, All-cons, All-weaker, All-head, All-tail}
use Rattle.std.proofs.lemmas.Bool.Decides.{Decides-eqb}
use Rattle.marshalling.specs.declared.signature.Param.{Param}
use Rattle.code_words.specs.declared.op.Op.{Op}
use Rattle.code_words.specs.declared.image.Callback.{Callback}
use Rattle.code_words.specs.Functions.{Func, Import}
use Rattle.code_words.specs.Images.{Image}
use Rattle.code_words.specs.Paced.{keeps_pace, all_keep_pace, is_paced_function, is_paced}
use Rattle.code_words_listing.specs.Lines.{Line, TaintedFunction, Parameter, Begin, Instruction, End, SandboxSide, Close, line_text, IsAllowed}
use Rattle.code_words_listing.specs.Listings.{lines_of, block_lines, callback_lines, function_lines, main_lines, sandbox_lines, text_of, listing, InFormat}
use Rattle.code_words_listing.specs.Verdicts.{Whole, Verdict, first_of, unless, instructions, off_pace_in, off_pace}
use Rattle.code_words_listing.proofs.OneVerdict.{ends}
use Rattle.code_words_listing.proofs.Steps.{both}
use Rattle.code_words_listing.proofs.Texts.{line-no-feed}

-- ---- one function

in-function : (number : ℕ) (all : List Op) (place : ℕ) (ops : List Op) → all_keep_pace all place ops ≡ true → off_pace_in number all place ops ≡ None
in-function number all place [] h = refl
in-function number all place (op ∷ ops) h =
    let t = both (keeps_pace all place op) (all_keep_pace all (suc place) ops) h in
    rw t.0 (in-function (suc number) all (suc place) ops t.1)

no-answer : (test : Bool) (number : ℕ) (later : Option ℕ) → first_of (unless test number) later ≡ None → (test ≡ true) × (later ≡ None)
no-answer true number later h = (refl, h)
no-answer false number later h = cc

pub function-keeps : (number : ℕ) (all : List Op) (place : ℕ) (ops : List Op) → off_pace_in number all place ops ≡ None → all_keep_pace all place ops ≡ true
function-keeps number all place [] h = refl
function-keeps number all place (op ∷ ops) h =
    let t = no-answer (keeps_pace all place op) number (off_pace_in (suc number) all (suc place) ops) h in
    rw t.0 (function-keeps (suc number) all (suc place) ops t.1)

ops-there : (ops : List Op) (lines : List Line) → instructions (map Instruction ops ++ End ∷ lines) ≡ ops
ops-there [] lines = refl
ops-there (op ∷ ops) lines = ap (λ l. op ∷ l) (ops-there ops lines)

-- ---- lines that keep the pace, wherever they stand

record Keep (lines : List Line) : Type 0 where
  pub keep : (number : ℕ) → off_pace number lines ≡ None

-- and those that keep it where they stand
record Kept (lines : List Line) : Type 0 where
  pub number : ℕ
  pub none : off_pace number lines ≡ None

past-blocks : (number : ℕ) (blocks : List (List ℕ)) (lines : List Line) → Keep lines → Keep (block_lines number blocks ++ lines)
past-blocks number [] lines k = k
past-blocks number (block ∷ blocks) lines k = record { keep = λ n. (past-blocks (suc number) blocks lines k).keep (suc n) }

past-imports : (imports : List Import) (lines : List Line) → Keep lines → Keep (map TaintedFunction imports ++ lines)
past-imports [] lines k = k
past-imports (i ∷ imports) lines k = record { keep = λ n. (past-imports imports lines k).keep (suc n) }

past-parameters : (params : List Param) (lines : List Line) → Keep lines → Keep (map Parameter params ++ lines)
past-parameters [] lines k = k
past-parameters (p ∷ params) lines k = record { keep = λ n. (past-parameters params lines k).keep (suc n) }

past-callbacks : (callbacks : List Callback) (lines : List Line) → Keep lines → Keep (flat_map callback_lines callbacks ++ lines)
past-callbacks [] lines k = k
past-callbacks (c ∷ callbacks) lines k =
    let later = past-parameters c.signature (flat_map callback_lines callbacks ++ lines) (past-callbacks callbacks lines k) in
    rw (append_assoc (map Parameter c.signature) (flat_map callback_lines callbacks) lines) (record { keep = λ n. later.keep (suc n) })

past-instructions : (ops : List Op) (lines : List Line) → Keep lines → Keep (map Instruction ops ++ lines)
past-instructions [] lines k = k
past-instructions (op ∷ ops) lines k = record { keep = λ n. (past-instructions ops lines k).keep (suc n) }

past-functions : (funs : List Func) (lines : List Line) → list_all is_paced_function funs ≡ true → Keep lines → Keep (flat_map function_lines funs ++ lines)
past-functions [] lines h k = k
past-functions (f ∷ funs) lines h k =
    let t = both (is_paced_function f) (list_all is_paced_function funs) h in
    let rest = flat_map function_lines funs ++ lines in
    let later = past-functions funs lines t.1 k in
    let behind = past-instructions f.ops (End ∷ rest) (record { keep = λ n. later.keep (suc n) }) in
    rw (append_assoc (map Instruction f.ops ++ End ∷ []) (flat_map function_lines funs) lines, append_assoc (map Instruction f.ops) (End ∷ []) rest)
    (record { keep = λ n. rw (ops-there f.ops rest, in-function (suc n) f.ops 0 f.ops t.0) (behind.keep (suc n)) })

past-main : (main : Option ℕ) (lines : List Line) → Keep lines → Keep (main_lines main ++ lines)
past-main None lines k = k
past-main (Some number) lines k = record { keep = λ n. k.keep (suc n) }

-- an image that keeps the pace has lines that keep it
pub paced-lines : (image : Image) → is_paced image ≡ true → off_pace 1 (lines_of image) ≡ None
paced-lines image h =
    let t = both (list_all is_paced_function image.trusted.funs) (list_all is_paced_function image.sandbox.funs) h in
    let later : List Line = SandboxSide ∷ (sandbox_lines image ++ Close ∷ []) in
    let layout = image.layout in
    let a = block_lines 0 image.trusted.blocks in
    let b = map TaintedFunction layout.imports in
    let c = flat_map callback_lines layout.callbacks in
    let d = flat_map function_lines image.trusted.funs in
    let e = main_lines layout.main in
    let close : Keep (Close ∷ []) = record { keep = λ n. refl } in
    let bodies = past-functions image.sandbox.funs (Close ∷ []) t.1 close in
    let side = past-blocks 0 image.sandbox.blocks (flat_map function_lines image.sandbox.funs ++ Close ∷ []) bodies in
    let sandbox : Keep later = record { keep = λ n. rw (append_assoc (block_lines 0 image.sandbox.blocks) (flat_map function_lines image.sandbox.funs) (Close ∷ [])) (side.keep (suc n)) } in
    let main = past-main layout.main later sandbox in
    let funs = past-functions image.trusted.funs (e ++ later) t.0 main in
    let calls = past-callbacks layout.callbacks (d ++ (e ++ later)) funs in
    let imports = past-imports layout.imports (c ++ (d ++ (e ++ later))) calls in
    let blocks = past-blocks 0 image.trusted.blocks (b ++ (c ++ (d ++ (e ++ later)))) imports in
    rw (append_assoc a (b ++ (c ++ (d ++ e))) later, append_assoc b (c ++ (d ++ e)) later, append_assoc c (d ++ e) later, append_assoc d e later) (blocks.keep 3)

-- ---- what lines that keep the pace tell

kept-blocks : (number : ℕ) (blocks : List (List ℕ)) (lines : List Line) → Kept (block_lines number blocks ++ lines) → Kept lines
kept-blocks number [] lines k = k
kept-blocks number (block ∷ blocks) lines k = kept-blocks (suc number) blocks lines (record { number = suc k.number; none = k.none })

kept-imports : (imports : List Import) (lines : List Line) → Kept (map TaintedFunction imports ++ lines) → Kept lines
kept-imports [] lines k = k
kept-imports (i ∷ imports) lines k = kept-imports imports lines (record { number = suc k.number; none = k.none })

kept-parameters : (params : List Param) (lines : List Line) → Kept (map Parameter params ++ lines) → Kept lines
kept-parameters [] lines k = k
kept-parameters (p ∷ params) lines k = kept-parameters params lines (record { number = suc k.number; none = k.none })

kept-callbacks : (callbacks : List Callback) (lines : List Line) → Kept (flat_map callback_lines callbacks ++ lines) → Kept lines
kept-callbacks [] lines k = k
kept-callbacks (c ∷ callbacks) lines k =
    kept-callbacks callbacks lines
    (kept-parameters c.signature (flat_map callback_lines callbacks ++ lines)
    (record { number = suc k.number; none = rw (append_assoc (map Parameter c.signature) (flat_map callback_lines callbacks) lines) at k.none }))

kept-instructions : (ops : List Op) (lines : List Line) → Kept (map Instruction ops ++ lines) → Kept lines
kept-instructions [] lines k = k
kept-instructions (op ∷ ops) lines k = kept-instructions ops lines (record { number = suc k.number; none = k.none })

neither : (one other : Option ℕ) → first_of one other ≡ None → (one ≡ None) × (other ≡ None)
neither None other h = (refl, h)
neither (Some n) other h = cc

kept-functions : (funs : List Func) (lines : List Line) → Kept (flat_map function_lines funs ++ lines) → (list_all is_paced_function funs ≡ true) × Kept lines
kept-functions [] lines k = (refl, k)
kept-functions (f ∷ funs) lines k =
    let rest = flat_map function_lines funs ++ lines in
    let none : off_pace k.number (Begin f.number f.name f.args f.slots f.stack f.result ∷ (map Instruction f.ops ++ End ∷ rest)) ≡ None =
    rw (append_assoc (map Instruction f.ops ++ End ∷ []) (flat_map function_lines funs) lines, append_assoc (map Instruction f.ops) (End ∷ []) rest) at k.none in
    let all = map Instruction f.ops ++ End ∷ rest in
    let t = neither (off_pace_in (suc k.number) (instructions all) 0 (instructions all)) (off_pace (suc k.number) all) none in
    let here : off_pace_in (suc k.number) f.ops 0 f.ops ≡ None = rw (ops-there f.ops rest) at t.0 in
    let end = kept-instructions f.ops (End ∷ rest) (record { number = suc k.number; none = t.1 }) in
    let later = kept-functions funs lines (record { number = suc end.number; none = end.none }) in
    (rw (function-keeps (suc k.number) f.ops 0 f.ops here) later.0, later.1)

kept-main : (main : Option ℕ) (lines : List Line) → Kept (main_lines main ++ lines) → Kept lines
kept-main None lines k = k
kept-main (Some number) lines k = record { number = suc k.number; none = k.none }

kept-side : (blocks : List (List ℕ)) (funs : List Func) → Kept ((block_lines 0 blocks ++ flat_map function_lines funs) ++ Close ∷ []) → list_all is_paced_function funs ≡ true
kept-side blocks funs k =
    let bodies =
    kept-blocks 0 blocks (flat_map function_lines funs ++ Close ∷ []) (record { number = k.number; none = rw (append_assoc (block_lines 0 blocks) (flat_map function_lines funs) (Close ∷ [])) at k.none }) in
    (kept-functions funs (Close ∷ []) bodies).0

and-true : (a b : Bool) → a ≡ true → b ≡ true → (a && b) ≡ true
and-true a b h g = rw (h, g) refl

-- an image whose lines keep the pace keeps it
pub lines-paced : (image : Image) → off_pace 1 (lines_of image) ≡ None → is_paced image ≡ true
lines-paced image h =
    let later : List Line = SandboxSide ∷ (sandbox_lines image ++ Close ∷ []) in
    let layout = image.layout in
    let a = block_lines 0 image.trusted.blocks in
    let b = map TaintedFunction layout.imports in
    let c = flat_map callback_lines layout.callbacks in
    let d = flat_map function_lines image.trusted.funs in
    let e = main_lines layout.main in
    let whole : off_pace 3 (a ++ (b ++ (c ++ (d ++ (e ++ later))))) ≡ None =
    rw (append_assoc a (b ++ (c ++ (d ++ e))) later, append_assoc b (c ++ (d ++ e)) later, append_assoc c (d ++ e) later, append_assoc d e later) at h in
    let imports = kept-blocks 0 image.trusted.blocks (b ++ (c ++ (d ++ (e ++ later)))) (record { number = 3; none = whole }) in
    let calls = kept-imports layout.imports (c ++ (d ++ (e ++ later))) imports in
    let funs = kept-callbacks layout.callbacks (d ++ (e ++ later)) calls in
    let trusted = kept-functions image.trusted.funs (e ++ later) funs in
    let side = kept-main layout.main later trusted.1 in
    let sandbox = kept-side image.sandbox.blocks image.sandbox.funs (record { number = suc side.number; none = side.none }) in
    and-true (list_all is_paced_function image.trusted.funs) (list_all is_paced_function image.sandbox.funs) trusted.0 sandbox

-- ---- texts

no-feeds : (lines : List Line) → All IsAllowed lines → All (All (λ b. b ≢ 10)) (map line_text lines)
no-feeds [] h = All-nil (All (λ b. b ≢ 10))
no-feeds (line ∷ lines) h =
    All-cons (All (λ b. b ≢ 10)) (line_text line) (map line_text lines)
    (All-weaker (λ b. (b == 10) ≡ false) (λ b. b ≢ 10) (λ b e is. let t : (b == 10) ≡ true = (Decides-eqb b 10).1 is in cc) (line_text line) (line-no-feed line (All-head IsAllowed line lines h)))
    (no-feeds lines (All-tail IsAllowed line lines h))

-- no line of a listing is refused
pub listing-stands : (image : Image) → InFormat image → IsTrue (is_paced image) → Verdict (listing image) None
listing-stands image f h =
    record {
      lines = map line_text (lines_of image);
      rest = [];
      front = lines_of image;
      at = None;
      cut = sym (append-nil (listing image));
      no_feeds = no-feeds (lines_of image) f.lines;
      no_feed = All-nil (λ b. b ≢ 10);
      format = Whole (lines_of image) (record { image = image; kept = f; all = refl });
      first = rw (paced-lines image h) refl;
    }

-- the image of which a text is the listing
pub record Stands (text : List ℕ) : Type 0 where
  pub image : Image
  pub kept : InFormat image
  pub paced : IsTrue (is_paced image)
  pub is : text ≡ listing image

-- a text of which no line is refused is a listing
pub stands : (text : List ℕ) → Verdict text None → Stands text
stands text v =
    let none = neither (off_pace 1 v.front) v.at (sym v.first) in
    let e = ends v.lines v.rest v.front v.at v.format in
    elim e.answer as (λ _. Stands text) [
      | inl a ↦
          let l = a.3 in
          let lines : v.lines ≡ map line_text (lines_of l.image) =
          e.parts ∙ ap (λ (left : List (List ℕ)). map line_text v.front ++ left) a.1 ∙ append-nil (map line_text v.front) ∙ ap (map line_text) (sym l.all) in
          record {
            image = l.image;
            kept = l.kept;
            paced = lines-paced l.image (ap (off_pace 1) l.all ∙ none.0);
            is = v.cut ∙ ap (λ (rest : List ℕ). text_of v.lines ++ rest) a.2 ∙ append-nil (text_of v.lines) ∙ ap text_of lines;
          }
      | inr b ↦ let wrong : None ≡ Some (suc (length v.front)) = sym none.1 ∙ b.0 in cc
    ]
