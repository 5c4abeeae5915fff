-- File-level pointers for which bounds are declared: no place leads to their blocks, and each is valid with its bounds, whatever the locals hold.
use Rattle.std.proofs.Common.{◌≡◌, ℕ, zero, suc, Bool, true, false, List, [], ◌∷◌, ◌++◌, map, Option, Some, None, refl, sym, ap, ◌∙◌, subst, arith, length}
use Rattle.std.specs.Prelude.{◌==◌, slice_get, slice_set, ◌&&◌}
use Rattle.std.specs.Option.{option_and_then}
use Rattle.std.proofs.lemmas.Option.{same_Some}
use Rattle.std.proofs.lemmas.Bool.{eqb-true}
use Rattle.std.proofs.lemmas.Bool.Decides.{nat_tests}
use Rattle.pointer_modes.specs.declared.ctype.Mode.{Mode}
use Rattle.pointer_modes.specs.declared.ctype.Kind.{Kind}
use Rattle.pointer_modes.specs.Types.{CType, Pointer, Structure}
use Rattle.bounds_exprs.specs.declared.term.Bounds.{Bounds}
use Rattle.bounds_exprs.specs.declared.term.Term.{Term}
use Rattle.ckc_core.specs.Bounds.{base_byte, term_value}
use Rattle.ckc_core.specs.Programs.{Initial, Variable}
use Rattle.ckc_core.specs.States.{Value, Null, Cell, Block, Local, Shape, Grows, State, cell_in, cell_at, initial_value, number_at, object_block, shape, shapes, stored, strides, type_at}
use Rattle.bounds_flow_meaning.specs.Holding.{IsValid, target_size}
use Rattle.bounds_flow_meaning.specs.Rows.{ends_at_number, is_zero_at}
use Rattle.bounds_flow_meaning.proofs.Rows.{still_there}
use Rattle.bounds_flow_meaning.proofs.Validity.{alike_here as local_alike, carried, null_valid, stay_ends}
use Rattle.region_typing_rules.specs.Typed.{Frame, AreConstant, IsBoundedObject}
use Rattle.region_typing_rules.proofs.Verdicts.{extends_append}
use Rattle.region_typing_rules.proofs.Values.{HasCell, at_cell, cell_there, grows_here, map_set, mapped_from, mapped_there, new_block, shapes_stored, stored_there}
use Rattle.region_typing_rules.proofs.Elements.{pointing}

-- ---- bounds between constants

constant_term : (t : Term) (ls ls' : List Local) → t.var ≡ None → term_value t ls' ≡ term_value t ls
constant_term t ls ls' h = rw h refl

own_base : (o : Option ℕ) (ls ls' : List Local) → o ≡ None → (block byte : ℕ) → base_byte o ls' block byte ≡ base_byte o ls block byte
own_base o ls ls' h block byte = rw h refl

-- what is valid with them stays so, whatever becomes of locals
pub constant_stays : (structs : List Structure) (b : Bounds) → AreConstant b → (l : Local) (s t : State) → Grows (shapes s.blocks) (shapes t.blocks) → IsValid structs (Some b) l s → IsValid structs (Some b) l t
constant_stays structs b c l s t grows h =
    carried structs b b l l s t grows (local_alike l)
    (stay_ends (target_size structs l.type) b b s.locals t.locals (own_base b.base s.locals t.locals c.base) (constant_term b.lo s.locals t.locals c.lo) (constant_term b.hi s.locals t.locals c.hi)) h

-- ---- lists in which one element is another

pub set_same : {X : Type 0} (xs : List X) (k : ℕ) (old new : X) → slice_get xs k ≡ Some old → slice_get (slice_set xs k new) k ≡ Some new
set_same [] k old new h = absurd (cc)
set_same (x ∷ xs) zero old new h = refl
set_same (x ∷ xs) (suc k) old new h = set_same xs k old new h

pub set_other : {X : Type 0} (xs : List X) (k j : ℕ) (new : X) → (j ≡ k → ⊥) → slice_get (slice_set xs k new) j ≡ slice_get xs j
set_other [] k j new other = refl
set_other (x ∷ xs) zero zero new other = absurd (other refl)
set_other (x ∷ xs) zero (suc j) new other = refl
set_other (x ∷ xs) (suc k) zero new other = refl
set_other (x ∷ xs) (suc k) (suc j) new other = set_other xs k j new (λ same. other (ap suc same))

same_true : (n : ℕ) → (n == n) ≡ true
same_true n = grind (arith, nat_tests)

-- ---- the pointers of a program

-- each of them is valid with the bounds that are declared for it
abbrev pub HoldBounds : Frame → State → Type 0
HoldBounds g s =
    (object : ℕ) (m : Mode) (kind : Kind) (t : CType) (b : Bounds) → IsBoundedObject g object m kind t b → (c : Cell) → cell_at s.blocks object 0 ≡ Some c → IsValid g.structs (Some b) (pointing (Pointer m kind t) c.value) s

-- the blocks of a program's variables come first
abbrev HasObjects : Frame → State → Type 0
HasObjects g s = Grows (shapes (map object_block g.program.objects)) (shapes s.blocks)

module _ (g : Frame) where
  -- ---- the cell of one

  module _ (object : ℕ) (m : Mode) (kind : Kind) (t : CType) (b : Bounds) (is : IsBoundedObject g object m kind t b) where
    start_there : slice_get (map object_block g.program.objects) object ≡ Some (object_block is.variable)
    start_there = mapped_there object_block g.program.objects object is.variable is.found

    pub shape_there : (s : State) → HasObjects g s → slice_get (shapes s.blocks) object ≡ Some (shape (object_block is.variable))
    shape_there s grown =
        let before = shapes (map object_block g.program.objects) in
        ap (λ x. slice_get x object) grown.1 ∙ still_there before grown.0 object (shape (object_block is.variable)) (mapped_there shape (map object_block g.program.objects) object (object_block is.variable) start_there)

    pub bounded_inside : is_zero_at (shape (object_block is.variable)) 0 ≡ false
    bounded_inside = ap (λ ended. ended && ends_at_number (number_at (shape (object_block is.variable)).strides 0) (length (shape (object_block is.variable)).types)) is.unended

    pub bounded_cell : (s : State) → HasObjects g s → HasCell s.blocks object 0 (Pointer m kind t)
    bounded_cell s grown = cell_there s.blocks object 0 (shape (object_block is.variable)) (Pointer m kind t) (shape_there s grown) is.pointer

    -- no place leads to it
    unreached : (s : State) → HasObjects g s → (block : ℕ) (x : Shape) → slice_get (shapes s.blocks) block ≡ Some x → x.is_sealed ≡ false → object ≡ block → ⊥
    unreached s grown block x found unsealed same =
        let here : slice_get (shapes s.blocks) object ≡ Some x = ap (slice_get (shapes s.blocks)) same ∙ found in
        let shape_is : shape (object_block is.variable) ≡ x = same_Some (shape (object_block is.variable)) x (sym (shape_there s grown) ∙ here) in
        let sealed : true ≡ false = sym is.sealed ∙ (ap (λ (x : Shape). x.is_sealed) shape_is ∙ unsealed) in
        cc

  -- ---- steps that leave them

  -- the cell of a block is found by the block alone
  cell_by : (before after : List Block) (object : ℕ) → slice_get after object ≡ slice_get before object → cell_at after object 0 ≡ cell_at before object 0
  cell_by before after object same = ap (option_and_then (λ b. cell_in b 0)) same

  -- the cells of the pointers stay, and blocks are only added
  kept_cells : (s u : State) → Grows (shapes s.blocks) (shapes u.blocks)
      → ((object : ℕ) (m : Mode) (kind : Kind) (t : CType) (b : Bounds) → IsBoundedObject g object m kind t b → cell_at u.blocks object 0 ≡ cell_at s.blocks object 0) → HoldBounds g s → HoldBounds g u
  kept_cells s u grows same h object m kind t b is c found =
      constant_stays g.structs b is.constant (pointing (Pointer m kind t) c.value) s u grows (h object m kind t b is c (sym (same object m kind t b is) ∙ found))

  -- the blocks are the same
  pub held_same : (s u : State) → u.blocks ≡ s.blocks → HoldBounds g s → HoldBounds g u
  held_same s u same h =
      kept_cells s u (subst (λ blocks. Grows (shapes s.blocks) (shapes blocks)) (sym same) (grows_here (shapes s.blocks))) (λ object m kind t b is. ap (λ blocks. cell_at blocks object 0) same) h

  -- there is a block more
  pub held_made : (s : State) (new : Block) → HasObjects g s → Grows (shapes s.blocks) (shapes (s.blocks ++ new ∷ [])) → HoldBounds g s → HoldBounds g (record s { blocks = s.blocks ++ new ∷ [] })
  held_made s new grown more h =
      kept_cells s (record s { blocks = s.blocks ++ new ∷ [] }) more
      (λ object m kind t b is. (let c = bounded_cell object m kind t b is s grown in
      cell_by s.blocks (s.blocks ++ new ∷ []) object (extends_append s.blocks (new ∷ []) object c.held c.there ∙ sym c.there))) h

  -- ---- stores

  module _ (s : State) (grown : HasObjects g s) (block byte : ℕ) (u : CType) (c : HasCell s.blocks block byte u) (v : Value) where
    abbrev after : State
    after = record s { blocks = stored s.blocks block byte v }

    same_shapes : Grows (shapes s.blocks) (shapes after.blocks)
    same_shapes = subst (λ b. Grows (shapes s.blocks) b) (sym (shapes_stored s.blocks block byte u c v)) (grows_here (shapes s.blocks))

    other_cell : (object : ℕ) → (object ≡ block → ⊥) → cell_at after.blocks object 0 ≡ cell_at s.blocks object 0
    other_cell object other =
        cell_by s.blocks after.blocks object (ap (λ blocks. slice_get blocks object) (stored_there s.blocks block byte u c v) ∙ set_other s.blocks block object (new_block s.blocks block byte u c v) other)

    -- in a block to which pointers may lead
    pub held_elsewhere : (x : Shape) → slice_get (shapes s.blocks) block ≡ Some x → x.is_sealed ≡ false → HoldBounds g s → HoldBounds g after
    held_elsewhere x found unsealed h = kept_cells s after same_shapes (λ object m kind t b is. other_cell object (unreached object m kind t b is s grown block x found unsealed)) h

  -- to one of them, of a value that is valid with its bounds
  module _ (s : State) (grown : HasObjects g s) (object : ℕ) (m : Mode) (kind : Kind) (t : CType) (b : Bounds) (is : IsBoundedObject g object m kind t b) (v : Value) (valid : IsValid g.structs (Some b) (pointing (Pointer m kind t) v) s) where
    abbrev here : HasCell s.blocks object 0 (Pointer m kind t)
    here = bounded_cell object m kind t b is s grown

    abbrev behind : State
    behind = record s { blocks = stored s.blocks object 0 v }

    -- the cell holds the value
    new_found : cell_in (new_block s.blocks object 0 (Pointer m kind t) here v) 0 ≡ Some (record here.cell { value = v })
    new_found =
        let new : Cell = record here.cell { value = v } in
        let cells = slice_set here.held.cells here.number new in
        let same : strides cells ≡ strides here.held.cells = map_set (λ (x : Cell). x.stride) here.held.cells here.number here.cell new here.found refl in
        ap (λ bytes. option_and_then (λ number. slice_get cells number) (number_at bytes 0)) same
        ∙ (ap (option_and_then (λ number. slice_get cells number)) here.numbered ∙ set_same here.held.cells here.number here.cell new here.found)

    -- what stands there then
    stored_value : (c : Cell) → cell_at behind.blocks object 0 ≡ Some c → c.value ≡ v
    stored_value c found =
        let new = new_block s.blocks object 0 (Pointer m kind t) here v in
        let at : slice_get behind.blocks object ≡ Some new = ap (λ blocks. slice_get blocks object) (stored_there s.blocks object 0 (Pointer m kind t) here v) ∙ set_same s.blocks object here.held new here.there in
        let numbered : cell_in new 0 ≡ Some (record here.cell { value = v }) = new_found in
        let cell : Some (record here.cell { value = v }) ≡ Some c = sym (ap (option_and_then (λ b. cell_in b 0)) at ∙ numbered) ∙ found in
        sym (ap (λ (x : Cell). x.value) (same_Some (record here.cell { value = v }) c cell))

    -- the bounds, and the type, of one are those that it has
    one_bounds : (m' : Mode) (kind' : Kind) (t' : CType) (b' : Bounds) → IsBoundedObject g object m' kind' t' b' → b ≡ b'
    one_bounds m' kind' t' b' is' = same_Some b b' (same_Some (Some b) (Some b') (sym is.declared ∙ is'.declared))

    one_type : (m' : Mode) (kind' : Kind) (t' : CType) (b' : Bounds) → IsBoundedObject g object m' kind' t' b' → Pointer m kind t ≡ Pointer m' kind' t'
    one_type m' kind' t' b' is' =
        let variable : is.variable ≡ is'.variable = same_Some is.variable is'.variable (sym is.found ∙ is'.found) in
        same_Some (Pointer m kind t) (Pointer m' kind' t') (sym is.pointer ∙ (ap (λ (x : Variable). type_at (shape (object_block x)) 0) variable ∙ is'.pointer))

    pub held_here : HoldBounds g s → HoldBounds g behind
    held_here h other m' kind' t' b' is' c found = by (other == object) refl
      where
        type_is : CType → Value → Local
        type_is type value = record { type = type; value = value }

        by : (test : Bool) → (other == object) ≡ test → IsValid g.structs (Some b') (pointing (Pointer m' kind' t') c.value) behind
        by true e =
            let same : other ≡ object = eqb-true other object e in
            let is_here : IsBoundedObject g object m' kind' t' b' = subst (λ k. IsBoundedObject g k m' kind' t' b') same is' in
            let value : c.value ≡ v = stored_value c (subst (λ k. cell_at behind.blocks k 0 ≡ Some c) same found) in
            let there = constant_stays g.structs b is.constant (pointing (Pointer m kind t) v) s behind (same_shapes s grown object 0 (Pointer m kind t) here v) valid in
            subst (λ w. IsValid g.structs (Some b') (pointing (Pointer m' kind' t') w) behind) (sym value)
            (subst (λ d. IsValid g.structs (Some d) (pointing (Pointer m' kind' t') v) behind) (one_bounds m' kind' t' b' is_here)
            (subst (λ type. IsValid g.structs (Some b) (type_is type v) behind) (one_type m' kind' t' b' is_here) there))
        by false e =
            let apart : other ≡ object → ⊥ = λ same. (let yes : (other == object) ≡ true = subst (λ k. (k == object) ≡ true) (sym same) (same_true object) in absurd (let no : true ≡ false = sym yes ∙ e in cc)) in
            let cell = other_cell s grown object 0 (Pointer m kind t) here v other apart in
            constant_stays g.structs b' is'.constant (pointing (Pointer m' kind' t') c.value) s behind (same_shapes s grown object 0 (Pointer m kind t) here v) (h other m' kind' t' b' is' c (sym cell ∙ found))

  -- ---- before the run

  -- each is null
  null_cell : (is : List Initial) → (k : ℕ) (c : Cell) (m : Mode) (kind : Kind) (t : CType) → slice_get (map (λ (i : Initial). record { type = i.type; stride = i.stride; value = initial_value i.type i.number }) is) k ≡ Some c → c.type ≡ Pointer m kind t → c.value ≡ Null
  null_cell is k c m kind t found typed =
      let i = mapped_from (λ (i : Initial). record { type = i.type; stride = i.stride; value = initial_value i.type i.number }) is k c found in
      let type : i.0.type ≡ Pointer m kind t = ap (λ (x : Cell). x.type) i.2 ∙ typed in
      sym (ap (λ (x : Cell). x.value) i.2) ∙ ap (λ type. initial_value type i.0.number) type

  pub held_at_start : (s : State) → s.blocks ≡ map object_block g.program.objects → HoldBounds g s
  held_at_start s start object m kind t b is c found =
      let grown : HasObjects g s = subst (λ blocks. Grows (shapes (map object_block g.program.objects)) (shapes blocks)) (sym start) (grows_here (shapes (map object_block g.program.objects))) in
      let here = bounded_cell object m kind t b is s grown in
      let same : here.cell ≡ c = same_Some here.cell c (sym (at_cell s.blocks object 0 (Pointer m kind t) here) ∙ found) in
      let block : here.held ≡ object_block is.variable = same_Some here.held (object_block is.variable) (sym here.there ∙ (ap (λ blocks. slice_get blocks object) start ∙ start_there object m kind t b is)) in
      let null = null_cell is.variable.cells here.number here.cell m kind t (subst (λ (x : Block). slice_get x.cells here.number ≡ Some here.cell) block here.found) here.typed in
      null_valid g.structs (Some b) (pointing (Pointer m kind t) c.value) s (ap (λ (x : Cell). x.value) (sym same) ∙ null)
