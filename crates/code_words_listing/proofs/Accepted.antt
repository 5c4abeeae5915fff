-- The lines of an image in the format may follow one another.
use Rattle.std.proofs.Common.{◌≡◌, ℕ, suc, ◌+◌, ◌<◌, ◌≤◌, ◌==◌, true, List, [], ◌∷◌, ◌++◌, length, map, flat_map, Option, Some, None, refl, sym, ap, ◌∙◌, subst, arith, append_assoc, append-nil, length-append}
use Rattle.std.specs.Prelude.{All, nat_le, option_and_then}
use Rattle.std.proofs.lemmas.List.Elements.{All-head, All-tail}
use Rattle.std.proofs.lemmas.Bool.Decides.{Decides-eqb, Decides-ltb, nat_tests}
use Rattle.marshalling.specs.declared.kind.WordKind.{WordKind}
use Rattle.marshalling.specs.declared.kind.WordKind.TheVariants as kinds
use Rattle.marshalling.specs.declared.signature.Region.{Region}
use Rattle.marshalling.specs.declared.signature.Param.{Param}
use Rattle.marshalling.specs.Signatures.{IsBelow, IsParameterOf, IsSignature}
use Rattle.code_words.specs.declared.op.Op.{Op}
use Rattle.code_words.specs.declared.image.Callback.{Callback}
use Rattle.code_words.specs.Functions.{Func, Import}
use Rattle.code_words.specs.Formats.{Follow, Rise}
use Rattle.code_words.specs.Images.{Image}
use Rattle.code_words_listing.specs.Lines.{Line, TaintedFunction, Parameter, Instruction, End, SandboxSide, Close}
use Rattle.code_words_listing.specs.Listings.{sandbox_lines, lines_of, block_lines, callback_lines, function_lines, main_lines, InFormat}
use Rattle.code_words_listing.specs.Steps.{State, Start, InTrusted, InFunction, InSandbox, InBody, Closed, no_side, with_parameter, in_sandbox, with_instruction, is_below, is_among, opened, least_behind, step, steps}

same : (n : ℕ) → (n == n) ≡ true
same n = (Decides-eqb n n).1 refl

-- an image of which the trusted side alone is told
abbrev told : List (List ℕ) → List Import → List Callback → List Func → Option ℕ → Image
told blocks imports callbacks funs main = record { trusted = record { blocks = blocks; funs = funs }; sandbox = no_side; layout = record { imports = imports; callbacks = callbacks; main = main } }

longer : {A : Type 0} (xs : List A) (x : A) → length (xs ++ x ∷ []) ≡ suc (length xs)
longer xs x = omega (arith, length-append xs (x ∷ []))

-- ---- the trusted side

steps-blocks : (blocks more : List (List ℕ)) (rest : List Line) → steps (InTrusted (told blocks [] [] [] None)) (block_lines (length blocks) more ++ rest) ≡ steps (InTrusted (told (blocks ++ more) [] [] [] None)) rest
steps-blocks blocks [] rest = rw (append-nil blocks) refl
steps-blocks blocks (block ∷ more) rest =
    rw (same (length blocks))
    (ap (λ n. steps (InTrusted (told (blocks ++ block ∷ []) [] [] [] None)) (block_lines n more ++ rest)) (sym (longer blocks block))
    ∙ steps-blocks (blocks ++ block ∷ []) more rest
    ∙ ap (λ l. steps (InTrusted (told l [] [] [] None)) rest) (append_assoc blocks (block ∷ []) more))

steps-imports : (blocks : List (List ℕ)) (imports more : List Import) (rest : List Line) → Follow (length imports) (map (λ (i : Import). i.number) more)
    → steps (InTrusted (told blocks imports [] [] None)) (map TaintedFunction more ++ rest) ≡ steps (InTrusted (told blocks (imports ++ more) [] [] None)) rest
steps-imports blocks imports [] rest h = rw (append-nil imports) refl
steps-imports blocks imports (i ∷ more) rest h =
    let t : (i.number == length imports) ≡ true = (Decides-eqb i.number (length imports)).1 h.0 in
    rw t
    (steps-imports blocks (imports ++ i ∷ []) more rest (subst (λ n. Follow n (map (λ (i : Import). i.number) more)) (sym (longer imports i)) h.1)
    ∙ ap (λ l. steps (InTrusted (told blocks l [] [] None)) rest) (append_assoc imports (i ∷ []) more))

below-is : (count : ℕ) (number : Option ℕ) → IsBelow count number → is_below count number ≡ true
below-is count None h = refl
below-is count (Some n) h = (Decides-ltb n count).1 h

among-is : (count : ℕ) (kind : WordKind) (region : Option Region) → IsParameterOf count kind region → is_among count region ≡ true
among-is count kinds.Void region h = absurd h
among-is count kinds.Pointer None h = refl
among-is count kinds.Pointer (Some r) h = rw ((Decides-ltb r.base count).1 h.base, below-is count r.lo_var h.low, below-is count r.hi_var h.high) refl
among-is count kinds.Int None h = refl
among-is count kinds.Int (Some r) h = absurd h
among-is count kinds.Char None h = refl
among-is count kinds.Char (Some r) h = absurd h

-- a callback with more parameters
abbrev with_parameters : List Param → Callback → Callback
with_parameters params c = record { number = c.number; fun = c.fun; signature = c.signature ++ params; result = c.result }

steps-parameters : (image : Image) (c : Callback) (params : List Param) (rest : List Line) → All (λ (p : Param). IsParameterOf (length c.signature + length params) p.kind p.region) params
    → steps (opened image c (length params)) (map Parameter params ++ rest) ≡ steps (opened image (with_parameters params c) 0) rest
steps-parameters image c [] rest h = rw (append-nil c.signature) refl
steps-parameters image c (p ∷ params) rest h =
    let t = among-is (length c.signature + suc (length params)) p.kind p.region (All-head (λ (p : Param). IsParameterOf (length c.signature + suc (length params)) p.kind p.region) p params h) in
    let later = All-tail (λ (p : Param). IsParameterOf (length c.signature + suc (length params)) p.kind p.region) p params h in
    let count : length c.signature + suc (length params) ≡ length (c.signature ++ p ∷ []) + length params = omega (arith, length-append c.signature (p ∷ [])) in
    rw t
    (steps-parameters image (with_parameter p c) params rest (subst (λ n. All (λ (p : Param). IsParameterOf n p.kind p.region) params) count later)
    ∙ ap (λ l. steps (opened image (record { number = c.number; fun = c.fun; signature = l; result = c.result }) 0) rest) (append_assoc c.signature (p ∷ []) params))

steps-callbacks : (blocks : List (List ℕ)) (imports : List Import) (callbacks more : List Callback) (rest : List Line) → Follow (length callbacks) (map (λ (c : Callback). c.number) more)
    → All (λ (c : Callback). IsSignature c.signature) more
    → steps (InTrusted (told blocks imports callbacks [] None)) (flat_map callback_lines more ++ rest) ≡ steps (InTrusted (told blocks imports (callbacks ++ more) [] None)) rest
steps-callbacks blocks imports callbacks [] rest h g = rw (append-nil callbacks) refl
steps-callbacks blocks imports callbacks (c ∷ more) rest h g =
    let t : (c.number == length callbacks) ≡ true = (Decides-eqb c.number (length callbacks)).1 h.0 in
    let empty : Callback = record { number = c.number; fun = c.fun; signature = []; result = c.result } in
    let signature = All-head (λ (c : Callback). IsSignature c.signature) c more g in
    let none : length c.signature ≡ 0 + length c.signature = omega arith in
    rw (append_assoc (map Parameter c.signature) (flat_map callback_lines more) rest, t)
    (steps-parameters (told blocks imports callbacks [] None) empty c.signature (flat_map callback_lines more ++ rest) (subst (λ n. All (λ (p : Param). IsParameterOf n p.kind p.region) c.signature) none signature.parameters)
    ∙ steps-callbacks blocks imports (callbacks ++ c ∷ []) more rest (subst (λ n. Follow n (map (λ (c : Callback). c.number) more)) (sym (longer callbacks c)) h.1) (All-tail (λ (c : Callback). IsSignature c.signature) c more g)
    ∙ ap (λ l. steps (InTrusted (told blocks imports l [] None)) rest) (append_assoc callbacks (c ∷ []) more))

-- a function with more instructions
abbrev with_instructions : List Op → Func → Func
with_instructions more f = record { number = f.number; name = f.name; args = f.args; slots = f.slots; stack = f.stack; result = f.result; ops = f.ops ++ more }

steps-instructions : (image : Image) (f : Func) (more : List Op) (rest : List Line) → steps (InFunction image f) (map Instruction more ++ rest) ≡ steps (InFunction image (with_instructions more f)) rest
steps-instructions image f [] rest = rw (append-nil f.ops) refl
steps-instructions image f (op ∷ more) rest =
    steps-instructions image (with_instruction op f) more rest
    ∙ ap (λ l. steps (InFunction image (record { number = f.number; name = f.name; args = f.args; slots = f.slots; stack = f.stack; result = f.result; ops = l })) rest) (append_assoc f.ops (op ∷ []) more)

steps-functions : (blocks : List (List ℕ)) (imports : List Import) (callbacks : List Callback) (funs more : List Func) (rest : List Line) → Follow (length funs) (map (λ (f : Func). f.number) more)
    → steps (InTrusted (told blocks imports callbacks funs None)) (flat_map function_lines more ++ rest) ≡ steps (InTrusted (told blocks imports callbacks (funs ++ more) None)) rest
steps-functions blocks imports callbacks funs [] rest h = rw (append-nil funs) refl
steps-functions blocks imports callbacks funs (f ∷ more) rest h =
    let t : (f.number == length funs) ≡ true = (Decides-eqb f.number (length funs)).1 h.0 in
    let begun : Func = record { number = f.number; name = f.name; args = f.args; slots = f.slots; stack = f.stack; result = f.result; ops = [] } in
    rw (
      append_assoc (map Instruction f.ops ++ End ∷ []) (flat_map function_lines more) rest,
      append_assoc (map Instruction f.ops) (End ∷ []) (flat_map function_lines more ++ rest),
      t,
    )
    (steps-instructions (told blocks imports callbacks funs None) begun f.ops (End ∷ (flat_map function_lines more ++ rest))
    ∙ steps-functions blocks imports callbacks (funs ++ f ∷ []) more rest (subst (λ n. Follow n (map (λ (f : Func). f.number) more)) (sym (longer funs f)) h.1)
    ∙ ap (λ l. steps (InTrusted (told blocks imports callbacks l None)) rest) (append_assoc funs (f ∷ []) more))

steps-main : (blocks : List (List ℕ)) (imports : List Import) (callbacks : List Callback) (funs : List Func) (main : Option ℕ) (rest : List Line)
    → steps (InTrusted (told blocks imports callbacks funs None)) (main_lines main ++ rest) ≡ steps (InTrusted (told blocks imports callbacks funs main)) rest
steps-main blocks imports callbacks funs None rest = refl
steps-main blocks imports callbacks funs (Some number) rest = refl

-- ---- the sandbox's side

abbrev with_side : List (List ℕ) → List Func → Image → Image
with_side blocks funs image = in_sandbox (record { blocks = blocks; funs = funs }) image

steps-sandbox-blocks : (image : Image) (blocks more : List (List ℕ)) (rest : List Line) → steps (InSandbox (with_side blocks [] image)) (block_lines (length blocks) more ++ rest) ≡ steps (InSandbox (with_side (blocks ++ more) [] image)) rest
steps-sandbox-blocks image blocks [] rest = rw (append-nil blocks) refl
steps-sandbox-blocks image blocks (block ∷ more) rest =
    rw (same (length blocks))
    (ap (λ n. steps (InSandbox (with_side (blocks ++ block ∷ []) [] image)) (block_lines n more ++ rest)) (sym (longer blocks block))
    ∙ steps-sandbox-blocks image (blocks ++ block ∷ []) more rest
    ∙ ap (λ l. steps (InSandbox (with_side l [] image)) rest) (append_assoc blocks (block ∷ []) more))

steps-body : (image : Image) (f : Func) (more : List Op) (rest : List Line) → steps (InBody image f) (map Instruction more ++ rest) ≡ steps (InBody image (with_instructions more f)) rest
steps-body image f [] rest = rw (append-nil f.ops) refl
steps-body image f (op ∷ more) rest =
    steps-body image (with_instruction op f) more rest
    ∙ ap (λ l. steps (InBody image (record { number = f.number; name = f.name; args = f.args; slots = f.slots; stack = f.stack; result = f.result; ops = l })) rest) (append_assoc f.ops (op ∷ []) more)

behind-last : (least : ℕ) (funs : List Func) (f : Func) → least_behind least (funs ++ f ∷ []) ≡ suc f.number
behind-last least [] f = refl
behind-last least (g ∷ funs) f = behind-last (suc g.number) funs f

at-least : (m n : ℕ) → m ≤ n → nat_le m n ≡ true
at-least m n h = grind (arith, nat_tests)

steps-bodies : (image : Image) (blocks : List (List ℕ)) (funs more : List Func) (rest : List Line) → Rise (least_behind 0 funs) (map (λ (f : Func). f.number) more)
    → All (λ (f : Func). f.number < length image.layout.imports) more
    → steps (InSandbox (with_side blocks funs image)) (flat_map function_lines more ++ rest) ≡ steps (InSandbox (with_side blocks (funs ++ more) image)) rest
steps-bodies image blocks funs [] rest h g = rw (append-nil funs) refl
steps-bodies image blocks funs (f ∷ more) rest h g =
    let t = at-least (least_behind 0 funs) f.number h.0 in
    let u = (Decides-ltb f.number (length image.layout.imports)).1 (All-head (λ (f : Func). f.number < length image.layout.imports) f more g) in
    let begun : Func = record { number = f.number; name = f.name; args = f.args; slots = f.slots; stack = f.stack; result = f.result; ops = [] } in
    rw (
      append_assoc (map Instruction f.ops ++ End ∷ []) (flat_map function_lines more) rest,
      append_assoc (map Instruction f.ops) (End ∷ []) (flat_map function_lines more ++ rest),
      t,
      u,
    )
    (steps-body (with_side blocks funs image) begun f.ops (End ∷ (flat_map function_lines more ++ rest))
    ∙ steps-bodies image blocks (funs ++ f ∷ []) more rest (subst (λ n. Rise n (map (λ (f : Func). f.number) more)) (sym (behind-last 0 funs f)) h.1) (All-tail (λ (f : Func). f.number < length image.layout.imports) f more g)
    ∙ ap (λ l. steps (InSandbox (with_side blocks l image)) rest) (append_assoc funs (f ∷ []) more))

steps-sandbox : (image : Image) → InFormat image → steps (InSandbox (in_sandbox no_side image)) (sandbox_lines image ++ Close ∷ []) ≡ Some (Closed image)
steps-sandbox image f =
    rw (append_assoc (block_lines 0 image.sandbox.blocks) (flat_map function_lines image.sandbox.funs) (Close ∷ []))
    (steps-sandbox-blocks image [] image.sandbox.blocks (flat_map function_lines image.sandbox.funs ++ Close ∷ []) ∙ steps-bodies image image.sandbox.blocks [] image.sandbox.funs (Close ∷ []) f.bodies f.imported)

-- the lines of an image in the format are read, and tell the image
pub steps-image : (image : Image) → InFormat image → steps Start (lines_of image) ≡ Some (Closed image)
steps-image image f =
    let later : List Line = SandboxSide ∷ (sandbox_lines image ++ Close ∷ []) in
    let layout = image.layout in
    let a = block_lines 0 image.trusted.blocks in
    let b = map TaintedFunction layout.imports in
    let c = flat_map callback_lines layout.callbacks in
    let d = flat_map function_lines image.trusted.funs in
    let e = main_lines layout.main in
    rw (append_assoc a (b ++ (c ++ (d ++ e))) later, append_assoc b (c ++ (d ++ e)) later, append_assoc c (d ++ e) later, append_assoc d e later)
    (steps-blocks [] image.trusted.blocks (b ++ (c ++ (d ++ (e ++ later))))
    ∙ steps-imports image.trusted.blocks [] layout.imports (c ++ (d ++ (e ++ later))) f.imports
    ∙ steps-callbacks image.trusted.blocks layout.imports [] layout.callbacks (d ++ (e ++ later)) f.callbacks f.callable
    ∙ steps-functions image.trusted.blocks layout.imports layout.callbacks [] image.trusted.funs (e ++ later) f.functions
    ∙ steps-main image.trusted.blocks layout.imports layout.callbacks image.trusted.funs layout.main later
    ∙ steps-sandbox image f)

-- lines one behind the other
pub steps-append : (state : State) (first second : List Line) → steps state (first ++ second) ≡ option_and_then (λ next. steps next second) (steps state first)
steps-append state [] second = refl
steps-append state (line ∷ first) second = by (step state line) (λ next. steps-append next first second)
  where
    by : (found : Option State) → ((next : State) → steps next (first ++ second) ≡ option_and_then (λ next. steps next second) (steps next first))
        → option_and_then (λ next. steps next (first ++ second)) found ≡ option_and_then (λ next. steps next second) (option_and_then (λ next. steps next first) found)
    by None h = refl
    by (Some next) h = h next
