-- What holds of a walk behind each item.
use Rattle.std.proofs.Common.{◌≡◌, ℕ, zero, suc, ◌+◌, ◌-◌, ◌*◌, ◌<◌, ◌≤◌, Bool, true, false, List, [], ◌∷◌, ◌++◌, take, map, length, replicate, Option, Some, None, refl, sym, ap, ◌∙◌, subst, arith}
use Rattle.std.specs.Prelude.{◌==◌, slice_get, is_some}
use Rattle.std.specs.List.{AllByRecursion}
use Rattle.std.proofs.lemmas.Option.{same_Some}
use Rattle.std.proofs.Math.Seq.{take-length}
use Rattle.bounds_exprs.specs.declared.term.Bounds.{Bounds}
use Rattle.pointer_modes.specs.Types.{CType, Int, Char, Struct, Pointer, Member, Structure, members_of}
use Rattle.pointer_modes.specs.Layout.{size_of}
use Rattle.ckc_core.specs.Programs.{Initial, Variable, Import, open_variable}
use Rattle.ckc_core.specs.Core as core
use Rattle.ckc_core.specs.States.{shape, object_block}
use Rattle.ckc_core.specs.Stacks.{statements_stack}
use Rattle.region_typing_rules.specs.Verdicts.{picked}
use Rattle.region_typing_rules.specs.Scopes.{Scope, Signature, WrittenBounds, FileVariable, bounds_in, function_named}
use Rattle.region_typing_rules.specs.Types.{is_number}
use Rattle.region_typing_rules.specs.Calls.{is_import, side_number}
use Rattle.region_typing_rules.specs.Strings.{text_object}
use Rattle.region_typing_rules.specs.Items.{Defined, Walk, count_of}
use Rattle.region_typing_rules.specs.Cores.{body_of}
use Rattle.region_typing_rules.proofs.Sides.{trusted_functions, trusted_bounds, trusted_results, tainted_functions, sides_of}
use Rattle.region_typing_rules.specs.Typed as rules
use Rattle.bounds_flow_meaning.specs.Rows.{HasRow}
use Rattle.region_typing_rules.specs.Typed.{Frame, HasResultBounds, HaveRows, AreRows, IsScalar, IsInitial}
use Rattle.region_typing_rules.proofs.Safe.{AreSafe, IsSafe}
use Rattle.region_typing_rules.specs.Lowerable.{objects_size, IsRoomy, IsSmall}
use Rattle.region_typing_rules.proofs.Verdicts.{Extends, extends_append, extends_length}
use Rattle.region_typing_rules.proofs.Known.{IsKnown, IsClosed, known_later, size_kept}
use Rattle.region_typing_rules.proofs.Knowledge.{IsTrusted, IsTainted, IsObject, IsEndedArray, IsArrayIf, IsSingle, IsVariable, KnowsFile}
use Rattle.region_typing_rules.proofs.DeclaredBounds.{IsConstantFor}
use Rattle.region_typing_rules.proofs.Values.{mapped_there}
use Rattle.region_typing_rules.proofs.Layouts.{IsStart, earlier_members}
use Rattle.region_typing_rules.proofs.Copies.{rows_kept, AreEnded, ended_kept}
use Rattle.region_typing_rules.proofs.Signatures.{named_self, named_has, numbers_equal, trusted_there, tainted_there, IsDeclared}

-- ---- scopes that grow at file level

pub record FileGrows (a b : Scope) : Type 0 where
  pub structs : Extends a.structs b.structs
  pub variables : Extends a.variables b.variables
  pub texts : Extends a.strings.texts b.strings.texts
  pub counted : a.strings.variables ≡ b.strings.variables
  pub functions : (name : ℕ) (f : Signature) → function_named a.functions name ≡ Some f → function_named b.functions name ≡ Some f
  pub numbers : (side : Bool) (name : ℕ) (f : Signature) → function_named a.functions name ≡ Some f → side_number side a.functions name 0 ≡ side_number side b.functions name 0

pub file_stays : (s : Scope) → FileGrows s s
file_stays s = record { structs = λ k x h. h; variables = λ k x h. h; texts = λ k x h. h; counted = refl; functions = λ name f h. h; numbers = λ side name f h. refl }

pub file_further : (a b c : Scope) → FileGrows a b → FileGrows b c → FileGrows a c
file_further a b c h h' = record {
  structs = λ k x e. h'.structs k x (h.structs k x e);
  variables = λ k x e. h'.variables k x (h.variables k x e);
  texts = λ k x e. h'.texts k x (h.texts k x e);
  counted = h.counted ∙ h'.counted;
  functions = λ name f e. h'.functions name f (h.functions name f e);
  numbers = λ side name f e. h.numbers side name f e ∙ h'.numbers side name f (h.functions name f e);
}

-- what is known later was known before
pub known_before : (g : Frame) (a b : Scope) → IsClosed a → FileGrows a b → KnowsFile g b → KnowsFile g a
known_before g a b closed h known = record {
  closed = closed;
  structs = λ k x e. known.structs k x (h.structs k x e);
  few_members = earlier_members (λ members. length members ≤ 64) (omega arith) a.structs b.structs h.structs known.few_members;
  scalar_members = earlier_members (AllByRecursion (λ (m : Member). IsScalar m.ctype)) tt a.structs b.structs h.structs known.scalar_members;
  variables = λ k v e. known.variables k v (h.variables k v e);
  texts = λ k t e. subst (λ n. slice_get g.program.objects (n + k) ≡ Some (text_object t)) (sym h.counted) (known.texts k t (h.texts k t e));
  trusted = λ name f found side. subst (λ n. IsTrusted g n f) (sym (same_number name f found false)) (known.trusted name f (h.functions name f found) side);
  tainted = λ name f found side. subst (λ n. IsTainted g n f) (sym (same_number name f found true)) (known.tainted name f (h.functions name f found) side);
}
  where
    same_number : (name : ℕ) (f : Signature) → function_named a.functions name ≡ Some f → (side : Bool) → side_number side a.functions f.name 0 ≡ side_number side b.functions f.name 0
    same_number name f found side = h.numbers side f.name f (subst (λ x. function_named a.functions x ≡ Some f) (named_self a.functions name f found) found)

-- ---- walks

-- the bounds that are declared for a variable are those of a pointer to an array of elements that have bytes, which count from the pointer
-- itself, between constants
pub record HasFileBounds (structs : List Structure) (v : FileVariable) (b : Bounds) : Type 0 where
  pub single : v.length ≡ None
  pub known : IsKnown structs v.type
  pub formed : IsConstantFor structs v.type b

abbrev pub HaveFileBounds : List Structure → FileVariable → Option Bounds → Type 0
HaveFileBounds structs v None = Unit {0}
HaveFileBounds structs v (Some b) = HasFileBounds structs v b

-- a variable of a type and a length that a zero ends is an array of numbers
pub record HasEnd (structs : List Structure) (type : CType) (o : Option ℕ) (cells : List Initial) : Type 0 where
  pub count : ℕ
  pub array : o ≡ Some count
  pub numbers : AreEnded structs type count cells

-- the cells of a variable are those of as many values of its type as it has; no place leads to it where bounds are declared for it
pub record IsSettled (structs : List Structure) (v : FileVariable) (object : Variable) : Type 0 where
  pub some : 0 < count_of v.length
  pub few : count_of v.length ≤ 8192
  pub rows : AreRows structs (shape (object_block (open_variable object.cells))) v.type (count_of v.length)
  pub sealed : object.is_sealed ≡ is_some (bounds_in v.bounds)
  pub ends : object.zero_ended ≡ v.ended
  pub ended : v.ended ≡ true → HasEnd structs v.type v.length object.cells
  pub bounds : HaveFileBounds structs v (bounds_in v.bounds)

-- and so are those of each variable
abbrev pub AreSettled : List Structure → List FileVariable → List Variable → Type 0
AreSettled structs [] [] = Unit {0}
AreSettled structs [] (o ∷ objects) = ⊥
AreSettled structs (v ∷ variables) [] = ⊥
AreSettled structs (v ∷ variables) (o ∷ objects) = IsSettled structs v o × AreSettled structs variables objects

-- a body of a declared function has types and is never stuck, wherever what was known is known
pub record IsBody (height : ℕ) (s : Scope) (b : Defined) : Type 0 where
  pub signature : Signature
  pub named : function_named s.functions b.name ≡ Some signature
  pub parameters : take b.function.parameters b.function.locals ≡ signature.parameters
  pub result : b.function.result ≡ signature.result
  pub safe : (g : Frame) → KnowsFile g s → IsSafe g (map bounds_in signature.bounds) (bounds_in signature.result_bounds) b.function
  pub few_parameters : b.function.parameters ≤ 16
  pub few_locals : length b.function.locals ≤ 256
  pub low : statements_stack b.function.body ≤ 17 * height

-- a function is found by its name
abbrev pub IsNamed : List Signature → Signature → Type 0
IsNamed functions f = function_named functions f.name ≡ Some f

-- what holds of a walk, beside its variables
pub record IsWell (height : ℕ) (w : Walk) : Type 0 where
  pub closed : IsClosed w.scope
  pub few : (n : ℕ) → length (members_of w.scope.structs n) ≤ 64
  pub scalars : (n : ℕ) → AllByRecursion (λ (m : Member). IsScalar m.ctype) (members_of w.scope.structs n)
  pub start : AllByRecursion (λ (o : Variable). AllByRecursion IsStart o.cells) w.objects
  pub declared : AllByRecursion IsDeclared w.scope.functions
  pub named : AllByRecursion (IsNamed w.scope.functions) w.scope.functions
  pub bodies : AllByRecursion (IsBody height w.scope) w.bodies
  pub roomy : AllByRecursion (λ (o : Variable). AllByRecursion IsRoomy o.cells × (0 < length o.cells)) w.objects
  pub bytes : objects_size w.objects ≤ w.taken
  pub room : w.taken ≤ 32768

file_bounds_later : (a b : List Structure) (v : FileVariable) (o : Option Bounds) → Extends a b → HaveFileBounds a v o → HaveFileBounds b v o
file_bounds_later a b v None ext h = tt
file_bounds_later a b v (Some bounds) ext h =
    let f = h.formed in
    let element : IsKnown a f.element = (subst (IsKnown a) f.own h.known).1 in
    record {
      single = h.single;
      known = known_later a b v.type (extends_length a b ext) h.known;
      formed = record { mode = f.mode; kind = f.kind; counts = f.counts; element = f.element; own = f.own; some = subst (λ n. 0 < n) (size_kept a b f.element ext element) f.some; limited = f.limited; constant = f.constant };
    }

end_later : (a b : List Structure) (t : CType) (o : Option ℕ) (cells : List Initial) → HasEnd a t o cells → HasEnd b t o cells
end_later a b t o cells h = record { count = h.count; array = h.array; numbers = ended_kept a b t h.count cells h.numbers }

pub settled_later : (a b : List Structure) (variables : List FileVariable) (objects : List Variable) → Extends a b → AreSettled a variables objects → AreSettled b variables objects
settled_later a b [] [] ext h = tt
settled_later a b [] (o ∷ objects) ext h = absurd h
settled_later a b (v ∷ variables) [] ext h = absurd h
settled_later a b (v ∷ variables) (o ∷ objects) ext h = (
  record { some = h.0.some; few = h.0.few; rows = rows_kept a b (shape (object_block (open_variable o.cells))) v.type (count_of v.length) ext h.0.rows; sealed = h.0.sealed; ends = h.0.ends; ended = λ yes. end_later a b v.type v.length o.cells (h.0.ended yes); bounds = file_bounds_later a b v (bounds_in v.bounds) ext h.0.bounds },
  settled_later a b variables objects ext h.1,
)

pub bodies_later : (height : ℕ) (a b : Scope) (bodies : List Defined) → IsClosed a → FileGrows a b → AllByRecursion (IsBody height a) bodies → AllByRecursion (IsBody height b) bodies
bodies_later height a b [] closed h all = tt
bodies_later height a b (x ∷ bodies) closed h all = (
  record { signature = all.0.signature; named = h.functions x.name all.0.signature all.0.named; parameters = all.0.parameters; result = all.0.result; safe = λ g known. all.0.safe g (known_before g a b closed h known); few_parameters = all.0.few_parameters; few_locals = all.0.few_locals; low = all.0.low },
  bodies_later height a b bodies closed h all.1,
)

pub all_append : {X : Type 0} (P : X → Type 0) (xs : List X) (x : X) → AllByRecursion P xs → P x → AllByRecursion P (xs ++ x ∷ [])
all_append P [] x all h = (h, tt)
all_append P (y ∷ xs) x all h = (all.0, all_append P xs x all.1 h)

-- ---- the program behind the whole walk

settled_there : (structs : List Structure) (variables : List FileVariable) (objects : List Variable) (k : ℕ) (v : FileVariable) → AreSettled structs variables objects → slice_get variables k ≡ Some v → (o : Variable) × (slice_get objects k ≡ Some o) × IsSettled structs v o
settled_there structs [] objects k v h e = absurd (cc)
settled_there structs (x ∷ variables) [] k v h e = absurd h
settled_there structs (x ∷ variables) (o ∷ objects) zero v h e = let same : x ≡ v = cc in (o, refl, subst (λ (y : FileVariable). IsSettled structs y o) same h.0)
settled_there structs (x ∷ variables) (o ∷ objects) (suc k) v h e = settled_there structs variables objects k v h.1 e

-- a variable that is open is its cells
open_is : (object : Variable) → object.zero_ended ≡ false → object.is_sealed ≡ false → open_variable object.cells ≡ object
open_is object unended h =
    ap (λ ended. record { cells = object.cells; zero_ended = ended; is_sealed = false }) (sym unended)
    ∙ ap (λ sealed. record { cells = object.cells; zero_ended = object.zero_ended; is_sealed = sealed }) (sym h)

-- the object of a variable is there
module _ (g : Frame) (number : ℕ) (v : FileVariable) (object : Variable) (found : slice_get g.program.objects number ≡ Some object) (settled : IsSettled g.structs v object)
    (told : slice_get g.object_bounds number ≡ Some (bounds_in v.bounds)) where
  first_row : (length : Option ℕ) → v.length ≡ length → length ≡ None → HasRow g.structs (shape (object_block (open_variable object.cells))) 0 v.type
  first_row length same none =
      let first : 0 * size_of g.structs v.type ≡ 0 = omega arith in
      subst (λ byte. HasRow g.structs (shape (object_block (open_variable object.cells))) byte v.type) first (settled.rows 0 settled.some)

  opened : v.ended ≡ false → bounds_in v.bounds ≡ None → open_variable object.cells ≡ object
  opened unended none = open_is object (settled.ends ∙ unended) (settled.sealed ∙ ap is_some none)

  -- a zero ends only arrays
  single_unended : v.length ≡ None → v.ended ≡ false
  single_unended single = by v.ended refl
    where
      by : (ended : Bool) → v.ended ≡ ended → ended ≡ false
      by false e = refl
      by true e = absurd (let ended = settled.ended e in let none : Some ended.count ≡ None = sym ended.array ∙ single in cc)

  object_there : bounds_in v.bounds ≡ None → v.length ≡ None → IsObject g v.type number
  object_there none single =
      record { variable = object; found = found; row = subst (λ x. HasRow g.structs (shape (object_block x)) 0 v.type) (opened (single_unended single) none) (first_row v.length refl single) }

  single_there : (o : WrittenBounds) → v.bounds ≡ o → v.length ≡ None → IsSingle g v.type o number
  single_there None none single = object_there (ap bounds_in none) single
  single_there (Some None) unknown single = object_there (ap bounds_in unknown) single
  single_there (Some (Some b)) is single =
      let bounds : HasFileBounds g.structs v b = subst (HaveFileBounds g.structs v) (ap bounds_in is) settled.bounds in
      let f = bounds.formed in
      let row : HasRow g.structs (shape (object_block (open_variable object.cells))) 0 (Pointer f.mode f.kind f.element) = subst (λ t. HasRow g.structs (shape (object_block (open_variable object.cells))) 0 t) f.own (first_row v.length refl single) in
      record {
        mode = f.mode;
        kind = f.kind;
        counts = f.counts;
        element = f.element;
        own = f.own;
        object = record {
          variable = object;
          found = found;
          declared = told ∙ ap (λ (o : WrittenBounds). Some (bounds_in o)) is;
          sealed = settled.sealed ∙ ap (λ (o : WrittenBounds). is_some (bounds_in o)) is;
          unended = settled.ends ∙ single_unended single;
          pointer = row.stands.each 0 (record { type = Pointer f.mode f.kind f.element; offset = 0 }) refl;
          some = f.some;
          limited = f.limited;
          constant = f.constant;
        };
      }

  -- bounds are declared for no array
  array_open : (n : ℕ) (o : Option Bounds) → bounds_in v.bounds ≡ o → v.length ≡ Some n → o ≡ None
  array_open n None is array = refl
  array_open n (Some b) is array = absurd (let bounds : HasFileBounds g.structs v b = subst (HaveFileBounds g.structs v) is settled.bounds in let none : Some n ≡ None = sym array ∙ bounds.single in cc)

  ended_there : (n : ℕ) → v.length ≡ Some n → v.ended ≡ true → IsEndedArray g v.type n number
  ended_there n array ended = record {
    variable = object;
    found = found;
    few = omega (arith, some, few);
    row = record {
      number = numbers.number;
      ended = settled.ends ∙ ended;
      unsealed = settled.sealed ∙ ap is_some (array_open n (bounds_in v.bounds) refl array);
      types = subst (λ k. (shape (object_block object)).types ≡ replicate k v.type) whole numbers.types;
      strides = subst (λ k. (shape (object_block object)).strides ≡ replicate k (size_of g.structs v.type)) whole numbers.strides;
      some = number_sized v.type numbers.number;
    };
  }
    where
      some : 0 < n
      some = subst (λ o. 0 < count_of o) array settled.some

      few : n ≤ 8192
      few = subst (λ o. count_of o ≤ 8192) array settled.few

      whole : n ≡ suc (n - 1)
      whole = omega (arith, some)

      has : HasEnd g.structs v.type (Some n) object.cells
      has = subst (λ o. HasEnd g.structs v.type o object.cells) array (settled.ended ended)

      numbers : AreEnded g.structs v.type n object.cells
      numbers = let same : has.count ≡ n = same_Some has.count n (sym has.array) in subst (λ k. AreEnded g.structs v.type k object.cells) same has.numbers

      number_sized : (t : CType) → is_number t ≡ true → 1 ≤ size_of g.structs t
      number_sized Int h = omega arith
      number_sized Char h = omega arith
      number_sized (Struct k) h = absurd (cc)
      number_sized (Pointer m k t) h = absurd (cc)

  array_there : (n : ℕ) (ended : Bool) → v.length ≡ Some n → v.ended ≡ ended → IsArrayIf g v.type n ended number
  array_there n true array is = ended_there n array is
  array_there n false array is = record {
    variable = object;
    found = found;
    some = subst (λ o. 0 < count_of o) array settled.some;
    few = subst (λ o. count_of o ≤ 8192) array settled.few;
    rows = subst (λ x. AreRows g.structs (shape (object_block x)) v.type n) (opened is (array_open n (bounds_in v.bounds) refl array))
        (subst (λ o. AreRows g.structs (shape (object_block (open_variable object.cells))) v.type (count_of o)) array settled.rows);
  }

  variable_there : IsVariable g v v.length number
  variable_there = by v.length refl
    where
      by : (length : Option ℕ) → v.length ≡ length → IsVariable g v length number
      by None single = single_there v.bounds refl single
      by (Some n) array = array_there n v.ended array refl

-- the bounds that are declared for variables, in their order
abbrev pub bounds_declared : List FileVariable → List (Option Bounds)
bounds_declared variables = map (λ (v : FileVariable). bounds_in v.bounds) variables

-- the body that is found is one of the function
pub record Suits (b : core.Function) (f : Signature) : Type 0 where
  pub parameters : take b.parameters b.locals ≡ f.parameters
  pub result : b.result ≡ f.result

pub body_suits : (height : ℕ) (s : Scope) (bodies : List Defined) (f : Signature) → AllByRecursion (IsBody height s) bodies → function_named s.functions f.name ≡ Some f → Suits (body_of bodies f) f
body_suits height s [] f all named = record { parameters = take-length f.parameters; result = refl }
body_suits height s (b ∷ bodies) f all named = by (f.name == b.name) refl (body_suits height s bodies f all.1 named)
  where
    by : (test : Bool) → (f.name == b.name) ≡ test → Suits (body_of bodies f) f → Suits (body_of (b ∷ bodies) f) f
    by true e again =
        let name = numbers_equal f.name b.name e in
        let here : function_named s.functions b.name ≡ Some f = subst (λ x. function_named s.functions x ≡ Some f) name named in
        let there = all.0.named in
        let same : all.0.signature ≡ f = cc in
        rw e (record { parameters = all.0.parameters ∙ ap (λ (x : Signature). x.parameters) same; result = all.0.result ∙ ap (λ (x : Signature). x.result) same })
    by false e again = rw e again

-- behind some elements of a list stand those of another one
behind_get : {X : Type 0} (xs ys : List X) (k : ℕ) → slice_get (xs ++ ys) (length xs + k) ≡ slice_get ys k
behind_get [] ys k = let none : 0 + k ≡ k = omega arith in ap (slice_get ys) none
behind_get (x ∷ xs) ys k = let more : suc (length xs) + k ≡ suc (length xs + k) = omega arith in ap (slice_get (x ∷ (xs ++ ys))) more ∙ behind_get xs ys k

module _ (height entry : ℕ) (w : Walk) (well : IsWell height w) (settled : AreSettled w.scope.structs w.scope.variables w.objects)
    (counted : w.scope.strings.variables ≡ length w.objects) where
  abbrev pub frame : Frame
  frame = record { program = sides_of entry w; structs = w.scope.structs; bounds = trusted_bounds w.scope.functions; result_bounds = trusted_results w.scope.functions; object_bounds = bounds_declared w.scope.variables }

  trusted_known : (name : ℕ) (f : Signature) → function_named w.scope.functions name ≡ Some f → is_import f ≡ false → IsTrusted frame (side_number false w.scope.functions f.name 0) f
  trusted_known name f found side =
      let named = subst (λ x. function_named w.scope.functions x ≡ Some f) (named_self w.scope.functions name f found) found in
      let there = trusted_there w.bodies w.scope.functions f.name f 0 named side in
      let number : there.index ≡ side_number false w.scope.functions f.name 0 = let e = there.counted in omega arith in
      let suits = body_suits height w.scope w.bodies f well.bodies named in
      record {
        function = body_of w.bodies f;
        found = subst (λ n. slice_get (trusted_functions w.bodies w.scope.functions) n ≡ Some (body_of w.bodies f)) number there.found;
        parameters = suits.parameters;
        result = suits.result;
        scalar = (named_has IsDeclared w.scope.functions name f well.declared found).result;
        bounds = subst (λ n. slice_get (trusted_bounds w.scope.functions) n ≡ Some (map bounds_in f.bounds)) number there.bounds;
        told = subst (λ n. slice_get (trusted_results w.scope.functions) n ≡ Some (bounds_in f.result_bounds)) number there.told;
        sound = (named_has IsDeclared w.scope.functions name f well.declared found).sound;
        rows = (named_has IsDeclared w.scope.functions name f well.declared found).rows;
      }

  tainted_known : (name : ℕ) (f : Signature) → function_named w.scope.functions name ≡ Some f → is_import f ≡ true → IsTainted frame (side_number true w.scope.functions f.name 0) f
  tainted_known name f found side =
      let named = subst (λ x. function_named w.scope.functions x ≡ Some f) (named_self w.scope.functions name f found) found in
      let there = tainted_there w.scope.functions f.name f 0 named side in
      let number : there.index ≡ side_number true w.scope.functions f.name 0 = let e = there.counted in omega arith in
      let declared = named_has IsDeclared w.scope.functions name f well.declared found in
      record {
        import = record { name = f.text; parameters = length f.parameters; result = f.result };
        found = subst (λ n. slice_get (tainted_functions w.scope.functions) n ≡ Some (record { name = f.text; parameters = length f.parameters; result = f.result })) number there.found;
        parameters = refl;
        result = refl;
        numbers = declared.numbers side;
        number_result = declared.number_result side;
        rows = declared.rows;
      }

  -- all that was walked is known of the program
  pub known : KnowsFile frame w.scope
  known = record {
    structs = λ k x h. h;
    closed = well.closed;
    few_members = well.few;
    scalar_members = well.scalars;
    variables = λ k v e.
        (let there = settled_there w.scope.structs w.scope.variables w.objects k v settled e in
        variable_there frame k v there.0 (extends_append w.objects (map text_object w.scope.strings.texts) k there.0 there.1) there.2
        (mapped_there (λ (v : FileVariable). bounds_in v.bounds) w.scope.variables k v e));
    texts = λ k t e.
        (rw counted (behind_get w.objects (map text_object w.scope.strings.texts) k ∙ mapped_there text_object w.scope.strings.texts k t e));
    trusted = trusted_known;
    tainted = tainted_known;
  }

  -- each function has types
  body_safe : (bodies : List Defined) (f : Signature) → AllByRecursion (IsBody height w.scope) bodies → IsDeclared f → IsNamed w.scope.functions f → IsSafe frame (map bounds_in f.bounds) (bounds_in f.result_bounds) (body_of bodies f)
  body_safe [] f all declared named = record {
    typed = record { bounds = bounds_in f.result_bounds; parameters = omega arith; locals = declared.scalars; result = declared.result; body = rules.no_more };
    rows = subst (λ ts. HaveRows ts (map bounds_in f.bounds)) (sym (take-length f.parameters)) declared.rows;
    sound = subst (λ ts. HasResultBounds ts f.result (bounds_in f.result_bounds)) (sym (take-length f.parameters)) declared.sound;
    keeps = λ budget sandbox trusted n x named low s. refl;
    runs = λ budget sandbox trusted n knots low s kept begun. (tt, kept);
  }
  body_safe (b ∷ bodies) f all declared named = chosen (f.name == b.name) refl (body_safe bodies f all.1 declared named)
    where
      chosen : (test : Bool) → (f.name == b.name) ≡ test → IsSafe frame (map bounds_in f.bounds) (bounds_in f.result_bounds) (body_of bodies f) → IsSafe frame (map bounds_in f.bounds) (bounds_in f.result_bounds) (picked test b.function (body_of bodies f))
      chosen true e again =
          let name = numbers_equal f.name b.name e in
          let here : function_named w.scope.functions b.name ≡ Some f = subst (λ x. function_named w.scope.functions x ≡ Some f) name named in
          let there = all.0.named in
          let same : all.0.signature ≡ f = cc in
          subst (λ (x : Signature). IsSafe frame (map bounds_in x.bounds) (bounds_in x.result_bounds) b.function) same (all.0.safe frame known)
      chosen false e again = again

  pub functions_safe : (functions : List Signature) → AllByRecursion IsDeclared functions → AllByRecursion (IsNamed w.scope.functions) functions → AreSafe frame (trusted_functions w.bodies functions) (trusted_bounds functions) (trusted_results functions)
  functions_safe [] all named = tt
  functions_safe (f ∷ functions) all named = chosen (is_import f) (body_safe w.bodies f well.bodies all.0 named.0) (functions_safe functions all.1 named.1)
    where
      chosen : (test : Bool) → IsSafe frame (map bounds_in f.bounds) (bounds_in f.result_bounds) (body_of w.bodies f) → AreSafe frame (trusted_functions w.bodies functions) (trusted_bounds functions) (trusted_results functions)
          → AreSafe frame (picked test (trusted_functions w.bodies functions) (body_of w.bodies f ∷ trusted_functions w.bodies functions)) (picked test (trusted_bounds functions) (map bounds_in f.bounds ∷ trusted_bounds functions)) (picked test (trusted_results functions) (bounds_in f.result_bounds ∷ trusted_results functions))
      chosen true h rest = rest
      chosen false h rest = (h, rest)

  -- and each cell a value of its type
  start_typed : (is : List Initial) → AllByRecursion IsStart is → AllByRecursion (IsInitial w.scope.structs) is
  start_typed [] all = tt
  start_typed (i ∷ is) all = (all.0 w.scope.structs, start_typed is all.1)

  pub objects_typed : (objects : List Variable) → AllByRecursion (λ (o : Variable). AllByRecursion IsStart o.cells) objects → AllByRecursion (λ (o : Variable). AllByRecursion (IsInitial w.scope.structs) o.cells) objects
  objects_typed [] all = tt
  objects_typed (o ∷ objects) all = (start_typed o.cells all.0, objects_typed objects all.1)

  -- each function is small enough to be lowered, and each import to be called
  body_small : (bodies : List Defined) (f : Signature) → AllByRecursion (IsBody height w.scope) bodies → IsDeclared f → IsSmall (17 * height) (body_of bodies f)
  body_small [] f all declared = let few = declared.few in record { few_parameters = few; held = omega arith; few_locals = omega arith; low = omega arith }
  body_small (b ∷ bodies) f all declared = chosen (f.name == b.name) (record { few_parameters = all.0.few_parameters; held = (all.0.safe frame known).typed.parameters; few_locals = all.0.few_locals; low = all.0.low }) (body_small bodies f all.1 declared)
    where
      chosen : (test : Bool) → IsSmall (17 * height) b.function → IsSmall (17 * height) (body_of bodies f) → IsSmall (17 * height) (picked test b.function (body_of bodies f))
      chosen true h again = h
      chosen false h again = again

  pub functions_small : (functions : List Signature) → AllByRecursion IsDeclared functions → AllByRecursion (IsSmall (17 * height)) (trusted_functions w.bodies functions)
  functions_small [] all = tt
  functions_small (f ∷ functions) all = chosen (is_import f) (body_small w.bodies f well.bodies all.0) (functions_small functions all.1)
    where
      chosen : (test : Bool) → IsSmall (17 * height) (body_of w.bodies f) → AllByRecursion (IsSmall (17 * height)) (trusted_functions w.bodies functions) → AllByRecursion (IsSmall (17 * height)) (picked test (trusted_functions w.bodies functions) (body_of w.bodies f ∷ trusted_functions w.bodies functions))
      chosen true h rest = rest
      chosen false h rest = (h, rest)

  pub imports_small : (functions : List Signature) → AllByRecursion IsDeclared functions → AllByRecursion (λ (x : Import). x.parameters ≤ 16) (tainted_functions functions)
  imports_small [] all = tt
  imports_small (f ∷ functions) all = chosen (is_import f) (imports_small functions all.1)
    where
      chosen : (test : Bool) → AllByRecursion (λ (x : Import). x.parameters ≤ 16) (tainted_functions functions) → AllByRecursion (λ (x : Import). x.parameters ≤ 16) (picked test (record { name = f.text; parameters = length f.parameters; result = f.result } ∷ tainted_functions functions) (tainted_functions functions))
      chosen true rest = (all.0.few, rest)
      chosen false rest = rest
