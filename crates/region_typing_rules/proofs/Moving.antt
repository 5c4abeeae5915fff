-- A statement of the core changes only the variables that it assigns, and blocks that a zero ends keep it.
use Rattle.std.proofs.Common.{◌≡◌, ℕ, zero, suc, ◌+◌, Bool, true, false, List, Option, Some, None, refl, sym, ◌∙◌, ap, subst}
use Rattle.std.specs.Prelude.{◌&&◌, option_and_then, slice_get, slice_set}
use Rattle.std.proofs.lemmas.Bool.{and_parts}
use Rattle.act_words.specs.World.{World}
use Rattle.act_words.specs.Touches.{Asked, Got, Ended, Crossed, spend_tick, until_return}
use Rattle.ckc_core.specs.declared.program.Site.{Site}
use Rattle.pointer_modes.specs.Types.{CType}
use Rattle.ckc_core.specs.Outcome.{Gives, Ends, Stuck, Unsound, Short, and_then}
use Rattle.ckc_core.specs.Core as core
use Rattle.ckc_core.specs.States.{Value, Number, Null, At, Cell, Block, Local, State, Shape, Grows, shape, shapes, in_world, cell_at, cell_in, stored, with_value, number_at, strides, same_type, has_type}
use Rattle.ckc_core.specs.Steps.{Result, Flow, Next, Broke, Continued, Returned, given, variable_at, arithmetic_of, asked, back, called, choose, leaves_zero, store_if, store_over, store_at, set_if, set_over, set_local, kept_if, is_char, printed, put, on_next, behind_turn, no_result, fit, parameters_of, answer_if, answer, fits_result, locals_for, crossed, load_at, truth}
use Rattle.ckc_core.specs.Meaning.{Knot, Setting, site_of, Target, pointed, storable, value, values, number_of, target_of, place_from, effect, effects, body_if, body_of, knot}
use Rattle.bounds_flow_meaning.specs.Holding.{HaveTypes, types_of}
use Rattle.bounds_flow_meaning.specs.Zeros.{EndInZeros}
use Rattle.bounds_flow_meaning.proofs.Numbers.{found_other, same_types, still_types}
use Rattle.region_typing_rules.proofs.LastZeros.{zeros_stored}
use Rattle.region_typing_rules.proofs.Values.{HasCell, grows_here, grows_on, map_set}
use Rattle.region_typing_rules.specs.KnownIsSo.{WhereGiven}
use Rattle.region_typing_rules.proofs.Keeping.{IsAfter, IsLater, later_here, Adds, Keeps, keeps_on, CallsKeep, given_keeps, direct_keeps, variable_keeps, reached_keeps, arithmetic_keeps, byte_keeps, cell_keeps, called_keeps, storable_keeps, value_keeps, values_keep, index_keeps}

-- ---- what is assigned

abbrev mutual
  -- it assigns only variables that may be
  pub AssignsOnly : (ℕ → Bool) → core.Statement → Type 0
  AssignsOnly may core.Nothing = Unit {0}
  AssignsOnly may (core.SetLocal local value) = may local ≡ true
  AssignsOnly may (core.Store type place value) = Unit {0}
  AssignsOnly may (core.UpdateLocal char local operator value site) = may local ≡ true
  AssignsOnly may (core.Update type place operator value site) = Unit {0}
  AssignsOnly may (core.Evaluate value) = Unit {0}
  AssignsOnly may (core.CallAlone callee arguments) = Unit {0}
  AssignsOnly may (core.Print value) = Unit {0}
  AssignsOnly may (core.PutByte value) = Unit {0}
  AssignsOnly may (core.Block statements) = AllAssignOnly may statements
  AssignsOnly may (core.If condition consequent alternative) = AssignsOnly may consequent × AssignsOnly may alternative
  AssignsOnly may (core.Loop condition body step) = AssignsOnly may body × AssignsOnly may step
  AssignsOnly may (core.Return value) = Unit {0}
  AssignsOnly may core.ReturnNothing = Unit {0}
  AssignsOnly may core.Break = Unit {0}
  AssignsOnly may core.Continue = Unit {0}

  pub AllAssignOnly : (ℕ → Bool) → core.Statements → Type 0
  AllAssignOnly may core.NoMore = Unit {0}
  AllAssignOnly may (core.Then first others) = AssignsOnly may first × AllAssignOnly may others

-- from the one state to the other, only variables that may be assigned were, and blocks were only added
pub record IsMovedTo (may : ℕ → Bool) (r s : State) : Type 0 where
  pub grown : Grows (shapes r.blocks) (shapes s.blocks)
  pub same : types_of s.locals ≡ types_of r.locals
  pub types : HaveTypes r.locals → HaveTypes s.locals
  pub others : (x : ℕ) → may x ≡ false → slice_get s.locals x ≡ slice_get r.locals x

pub moved_here : (may : ℕ → Bool) (s : State) → IsMovedTo may s s
moved_here may s = record { grown = grows_here (shapes s.blocks); same = refl; types = λ h. h; others = λ x e. refl }

pub moved_on : (may : ℕ → Bool) (r s t : State) → IsMovedTo may r s → IsMovedTo may s t → IsMovedTo may r t
moved_on may r s t h k = record {
  grown = grows_on (shapes r.blocks) (shapes s.blocks) (shapes t.blocks) h.grown k.grown;
  same = k.same ∙ h.same;
  types = λ x. k.types (h.types x);
  others = λ x e. k.others x e ∙ h.others x e;
}

pub moved_after : (may : ℕ → Bool) (s t : State) → IsAfter s t → IsMovedTo may s t
moved_after may s t h = record {
  grown = h.0;
  same = ap types_of h.1;
  types = λ x. subst HaveTypes (sym h.1) x;
  others = λ x e. ap (λ ls. slice_get ls x) h.1;
}

-- ---- what is given

abbrev pub Moves : (ℕ → Bool) → State → {A : Type 0} → Result A → Type 0
Moves may r o = WhereGiven (λ v s. IsMovedTo may r s) o

-- and blocks that a zero ends keep it
pub record IsFollowing (may : ℕ → Bool) (r s : State) : Type 0 where
  pub moved : IsMovedTo may r s
  pub zeros : EndInZeros r.blocks → EndInZeros s.blocks

abbrev Follows : (ℕ → Bool) → State → {A : Type 0} → Result A → Type 0
Follows may r o = WhereGiven (λ v s. IsFollowing may r s) o

moves_of : {A : Type 0} (may : ℕ → Bool) (r : State) (o : Result A) → Follows may r o → Moves may r o
moves_of may r (Gives v s) h = h.moved
moves_of may r (Ends ending s) h = tt
moves_of may r (Stuck site s) h = tt
moves_of may r (Unsound site s) h = tt
moves_of may r Short h = tt

follows_here : (may : ℕ → Bool) (s : State) → IsFollowing may s s
follows_here may s = record { moved = moved_here may s; zeros = λ h. h }

follows_in : (may : ℕ → Bool) (s : State) (w : World) → IsFollowing may s (in_world w s)
follows_in may s w = record { moved = moved_after may s (in_world w s) (later_here s).0; zeros = λ h. h }

follows_later : (may : ℕ → Bool) (s t : State) → IsLater s t → IsFollowing may s t
follows_later may s t h = record { moved = moved_after may s t h.0; zeros = h.1 }

moves_further : {A : Type 0} (may : ℕ → Bool) (r s : State) (o : Result A) → IsFollowing may r s → Follows may s o → Follows may r o
moves_further may r s (Gives v t) h k = record { moved = moved_on may r s t h.moved k.moved; zeros = λ x. k.zeros (h.zeros x) }
moves_further may r s (Ends ending t) h k = tt
moves_further may r s (Stuck site t) h k = tt
moves_further may r s (Unsound site t) h k = tt
moves_further may r s Short h k = tt

moves_on : {A B : Type 0} (may : ℕ → Bool) (r : State) (o : Result A) (next : A → State → Result B) → Follows may r o → ((v : A) (s : State) → Follows may s (next v s)) → Follows may r (and_then o next)
moves_on may r (Gives v s) next h more = moves_further may r s (next v s) h (more v s)
moves_on may r (Ends ending s) next h more = tt
moves_on may r (Stuck site s) next h more = tt
moves_on may r (Unsound site s) next h more = tt
moves_on may r Short next h more = tt

kept_moves : {A : Type 0} (may : ℕ → Bool) (s : State) (o : Result A) → Keeps s o → Follows may s o
kept_moves may s (Gives v t) h = follows_later may s t h
kept_moves may s (Ends ending t) h = tt
kept_moves may s (Stuck site t) h = tt
kept_moves may s (Unsound site t) h = tt
kept_moves may s Short h = tt

-- behind what keeps the variables
behind : {A B : Type 0} (may : ℕ → Bool) (s : State) (o : Result A) (next : A → State → Result B) → Keeps s o → ((v : A) (t : State) → Follows may t (next v t)) → Follows may s (and_then o next)
behind may s o next h more = moves_on may s o next (kept_moves may s o h) more

asked_moves : {A B : Type 0} (may : ℕ → Bool) (s : State) (o : Asked A) (next : A → State → Result B) → ((v : A) (t : State) → Follows may t (next v t)) → Follows may s (asked o s next)
asked_moves may s (Got v w) next more = moves_further may s (in_world w s) (next v (in_world w s)) (follows_later may s (in_world w s) (later_here s)) (more v (in_world w s))
asked_moves may s (Ended ending w) next more = tt

chosen_moves : {A : Type 0} (may : ℕ → Bool) (s : State) (test : Bool) (first second : Result A) → Follows may s first → Follows may s second → Follows may s (choose test first second)
chosen_moves may s true first second h k = h
chosen_moves may s false first second h k = k

-- ---- stores

put_shape : (b : Block) (o : Option ℕ) (v : Value) → shape (record b { cells = with_value b.cells o v }) ≡ shape b
put_shape b None v = refl
put_shape b (Some n) v = by (slice_get b.cells n) refl
  where
    made : List CType → List ℕ → Shape
    made types bytes = record { types = types; strides = bytes; zero_ended = b.zero_ended; is_sealed = b.is_sealed }

    by : (o : Option Cell) → slice_get b.cells n ≡ o → shape (record b { cells = with_value b.cells (Some n) v }) ≡ shape b
    by None e = rw e refl
    by (Some old) e =
        rw e (ap (λ types. made types (strides (slice_set b.cells n (record old { value = v })))) (map_set (λ (x : Cell). x.type) b.cells n old (record old { value = v }) e refl)
        ∙ ap (made (shape b).types) (map_set (λ (x : Cell). x.stride) b.cells n old (record old { value = v }) e refl))

pub stored_shapes : (blocks : List Block) (block byte : ℕ) (v : Value) → shapes (stored blocks block byte v) ≡ shapes blocks
stored_shapes blocks block byte v = by (slice_get blocks block) refl
  where
    by : (o : Option Block) → slice_get blocks block ≡ o → shapes (stored blocks block byte v) ≡ shapes blocks
    by None e = rw e refl
    by (Some b) e = rw e (map_set shape blocks block b (record b { cells = with_value b.cells (number_at (strides b.cells) byte) v }) e (put_shape b (number_at (strides b.cells) byte) v))

stored_after : (s : State) (block byte : ℕ) (v : Value) → IsAfter s (record s { blocks = stored s.blocks block byte v })
stored_after s block byte v = (subst (λ x. Grows (shapes s.blocks) x) (sym (stored_shapes s.blocks block byte v)) (grows_here (shapes s.blocks)), refl)

-- where a cell was found
cell_held : (blocks : List Block) (block byte : ℕ) (old : Cell) → cell_at blocks block byte ≡ Some old → HasCell blocks block byte old.type
cell_held blocks block byte old h =
    let b = behind_some (λ (b : Block). cell_in b byte) (slice_get blocks block) old h in
    let n = behind_some (λ number. slice_get b.0.cells number) (number_at (strides b.0.cells) byte) old b.2 in
    record { held = b.0; number = n.0; cell = old; there = b.1; numbered = n.1; found = n.2; typed = refl }
  where
    behind_some : {X Y : Type 0} (f : X → Option Y) (o : Option X) (y : Y) → option_and_then f o ≡ Some y → (x : X) × (o ≡ Some x) × (f x ≡ Some y)
    behind_some f None y e = absurd (cc)
    behind_some f (Some x) y e = (x, refl, e)

-- a store leaves the zero that ends a block
store_if_keeps : (s : State) (test : Bool) (site : Option Site) (block byte : ℕ) (v : Value) (old : Cell) → cell_at s.blocks block byte ≡ Some old → (test ≡ true → leaves_zero (slice_get s.blocks block) byte v ≡ true) → Keeps s (store_if test site block byte v s)
store_if_keeps s true site block byte v old there leaves =
    (stored_after s block byte v, zeros_stored s.blocks block byte old.type (cell_held s.blocks block byte old there) v (leaves refl))
store_if_keeps s false site block byte v old there leaves = tt

store_over_keeps : (s : State) (o : Option Cell) (type : CType) (site : Option Site) (v : Value) (block byte : ℕ) → cell_at s.blocks block byte ≡ o → Keeps s (store_over o type site v block byte s)
store_over_keeps s None type site v block byte there = tt
store_over_keeps s (Some old) type site v block byte there =
    let leaves : Bool = leaves_zero (slice_get s.blocks block) byte v in
    store_if_keeps s (same_type type old.type && (has_type type v && leaves)) site block byte v old there (λ test. (and_parts (has_type type v) leaves (and_parts (same_type type old.type) (has_type type v && leaves) test).1).1)

store_keeps : (s : State) (type : CType) (site : Option Site) (at : ℕ × ℕ) (v : Value) → Keeps s (store_at type site at v s)
store_keeps s type site at v = store_over_keeps s (cell_at s.blocks at.0 at.1) type site v at.0 at.1 refl

-- ---- assignments

pub set_moved : (may : ℕ → Bool) (s : State) (x : ℕ) (old : Local) (v : Value) → may x ≡ true → slice_get s.locals x ≡ Some old → has_type old.type v ≡ true → IsMovedTo may s (record s { locals = slice_set s.locals x (record old { value = v }) })
set_moved may s x old v may_be there typed = record {
  grown = grows_here (shapes s.blocks);
  same = same_types s.locals x old v there;
  types = λ h. still_types s.locals x old v there typed h;
  others = λ y no. found_other s.locals x old v there y (λ same. let k : may x ≡ false = subst (λ z. may z ≡ false) same no in cc);
}

set_if_moves : (may : ℕ → Bool) (s : State) (x : ℕ) (old : Local) (v : Value) (test : Bool) → may x ≡ true → slice_get s.locals x ≡ Some old → has_type old.type v ≡ test → Follows may s (set_if test old x v s)
set_if_moves may s x old v true may_be there typed = record { moved = set_moved may s x old v may_be there typed; zeros = λ h. h }
set_if_moves may s x old v false may_be there typed = tt

set_over_moves : (may : ℕ → Bool) (s : State) (x : ℕ) (o : Option Local) (v : Value) → may x ≡ true → slice_get s.locals x ≡ o → Follows may s (set_over o x v s)
set_over_moves may s x None v may_be there = tt
set_over_moves may s x (Some old) v may_be there = set_if_moves may s x old v (has_type old.type v) may_be there refl

set_moves : (may : ℕ → Bool) (s : State) (x : ℕ) (v : Value) → may x ≡ true → Follows may s (set_local x v s)
set_moves may s x v may_be = set_over_moves may s x (slice_get s.locals x) v may_be refl

-- ---- output, and what follows

printed_moves : (may : ℕ → Bool) (s : State) (v : Value) → Follows may s (printed v s)
printed_moves may s (Number z) = follows_in may s _
printed_moves may s Null = tt
printed_moves may s (At block byte) = tt

put_moves : (may : ℕ → Bool) (s : State) (v : Value) → Follows may s (put v s)
put_moves may s (Number z) = follows_in may s _
put_moves may s Null = tt
put_moves may s (At block byte) = tt

next_moves : (may : ℕ → Bool) (s : State) (rest : State → Result Flow) (flow : Flow) → Follows may s (rest s) → Follows may s (on_next rest flow s)
next_moves may s rest Next h = h
next_moves may s rest Broke h = follows_here may s
next_moves may s rest Continued h = follows_here may s
next_moves may s rest (Returned v) h = follows_here may s

turned_moves : (may : ℕ → Bool) (s : State) (further : State → Result Flow) (flow : Flow) → Follows may s (further s) → Follows may s (behind_turn further flow s)
turned_moves may s further Next h = h
turned_moves may s further Continued h = h
turned_moves may s further Broke h = follows_here may s
turned_moves may s further (Returned v) h = follows_here may s

no_result_moves : (may : ℕ → Bool) (s : State) (o : Option Value) → Follows may s (no_result o s)
no_result_moves may s None = follows_here may s
no_result_moves may s (Some v) = tt

kept_if_keeps : (s : State) (test : Bool) (v : Value) → Keeps s (kept_if test v s)
kept_if_keeps s true v = byte_keeps s s (later_here s) v
kept_if_keeps s false v = later_here s

-- ---- statements

module _ (audited : Bool) (g : Setting) where
  -- what calls and further turns change
  pub record KnotMoves (k : Knot) : Type 0 where
    pub calls : CallsKeep k
    pub turn : (may : ℕ → Bool) (condition : core.Expression) (body step : core.Statement) (s : State) → AssignsOnly may body → AssignsOnly may step → Follows may s (k.turn condition body step s)

  module _ (k : Knot) (is : KnotMoves k) where
    value_here : (e : core.Expression) (s : State) → Keeps s (value audited g k e s)
    value_here e s = value_keeps audited g k is.calls s e s (later_here s)

    target_keeps : (p : core.Place) (s : State) → Keeps s (target_of audited g k p s)
    target_keeps (core.Direct object offset) s = keeps_on s (variable_at g object offset s) _ (variable_keeps s s (later_here s) _ object offset) (λ at t kept. kept)
    target_keeps (core.Through pointer index offset site) s =
        keeps_on s (pointed audited g k pointer s) _ (keeps_on s (value audited g k pointer s) _ (value_here pointer s) (λ v t kept. kept))
        (λ p t kept. keeps_on s (number_of audited g k index t) _ (index_keeps audited g k is.calls s index t kept) (λ n u u_kept. u_kept))

    place_keeps_from : (p : core.Place) (q : Target) (s : State) → Keeps s (place_from p q s)
    place_keeps_from (core.Direct object offset) q s = direct_keeps s s (later_here s) None object offset
    place_keeps_from (core.Through pointer index offset site) q s = reached_keeps s s (later_here s) index offset site q

    module _ (may : ℕ → Bool) where
      mutual
        effect_follows : (x : core.Statement) (s : State) → AssignsOnly may x → Follows may s (effect audited g k x s)
        effect_follows core.Nothing s only = follows_here may s
        effect_follows (core.SetLocal x e) s only = behind may s (value audited g k e s) (set_local x) (value_here e s) (λ v t. set_moves may t x v only)
        effect_follows (core.Store type p e) s only =
            behind may s (target_of audited g k p s) _ (target_keeps p s)
            (λ q t. behind may t (value audited g k e t) _ (value_here e t)
            (λ v u. behind may u (place_from p q u) _ (place_keeps_from p q u) (λ at w. behind may w (storable p q v w) _ (storable_keeps w w (later_here w) p q v)
            (λ _ x. kept_moves may x (store_at type (site_of p) at v x) (store_keeps x type (site_of p) at v)))))
        effect_follows (core.UpdateLocal char x operator e site) s only =
            behind may s (given (slice_get s.locals x) s) _ (given_keeps s s (later_here s) (slice_get s.locals x))
            (λ old t. behind may t (value audited g k e t) _ (value_here e t)
            (λ v u. behind may u (arithmetic_of operator site old v u) _ (arithmetic_keeps u u (later_here u) operator site old v)
            (λ new w. behind may w (kept_if char new w) (set_local x) (kept_if_keeps w char new) (λ last y. set_moves may y x last only))))
        effect_follows (core.Update type p operator e site) s only =
            behind may s (target_of audited g k p s) _ (target_keeps p s)
            (λ q t. behind may t (place_from p q t) _ (place_keeps_from p q t)
            (λ at u. behind may u (load_at type (Some site) at u) _ (cell_keeps u u (later_here u) type (Some site) (cell_at u.blocks at.0 at.1))
            (λ old w. behind may w (value audited g k e w) _ (value_here e w)
            (λ v x. behind may x (arithmetic_of operator site old v x) _ (arithmetic_keeps x x (later_here x) operator site old v)
            (λ new y. behind may y (kept_if (is_char type) new y) _ (kept_if_keeps y (is_char type) new)
            (λ last z. behind may z (storable p q last z) _ (storable_keeps z z (later_here z) p q last)
            (λ _ done. kept_moves may done (store_at type (Some site) at last done) (store_keeps done type (Some site) at last))))))))
        effect_follows (core.Evaluate e) s only = behind may s (value audited g k e s) _ (value_here e s) (λ v t. follows_here may t)
        effect_follows (core.CallAlone callee arguments) s only =
            behind may s (values audited g k arguments s) _ (values_keep audited g k is.calls s arguments s (later_here s))
            (λ vs t. behind may t (called g k callee vs t) no_result (called_keeps audited g k is.calls t callee vs t (later_here t)) (λ v u. no_result_moves may u v))
        effect_follows (core.Print e) s only = behind may s (value audited g k e s) printed (value_here e s) (λ v t. printed_moves may t v)
        effect_follows (core.PutByte e) s only = behind may s (value audited g k e s) put (value_here e s) (λ v t. put_moves may t v)
        effect_follows (core.Block xs) s only = effects_follow xs s only
        effect_follows (core.If c x y) s only =
            behind may s (value audited g k c s) _ (value_here c s) (λ v t. chosen_moves may t _ _ _ (effect_follows x t only.0) (effect_follows y t only.1))
        effect_follows (core.Loop c x y) s only =
            behind may s (value audited g k c s) _ (value_here c s)
            (λ v t. chosen_moves may t (truth v) _ (Gives Next t)
            (asked_moves may t (spend_tick g.budget t.world) _
            (λ _ u. moves_on may u (effect audited g k x u) _ (effect_follows x u only.0)
            (λ flow w. turned_moves may w (λ w'. and_then (effect audited g k y w') (on_next (k.turn c x y))) flow
            (moves_on may w (effect audited g k y w) _ (effect_follows y w only.1) (λ flow' z. next_moves may z (k.turn c x y) flow' (is.turn may c x y z only.0 only.1))))))
            (follows_here may t))
        effect_follows (core.Return e) s only = behind may s (value audited g k e s) _ (value_here e s) (λ v t. follows_here may t)
        effect_follows core.ReturnNothing s only = follows_here may s
        effect_follows core.Break s only = follows_here may s
        effect_follows core.Continue s only = follows_here may s

        effects_follow : (xs : core.Statements) (s : State) → AllAssignOnly may xs → Follows may s (effects audited g k xs s)
        effects_follow core.NoMore s only = follows_here may s
        effects_follow (core.Then x xs) s only = moves_on may s (effect audited g k x s) _ (effect_follows x s only.0) (λ flow t. next_moves may t (effects audited g k xs) flow (effects_follow xs t only.1))

      pub effect_moves : (x : core.Statement) (s : State) → AssignsOnly may x → Moves may s (effect audited g k x s)
      effect_moves x s only = moves_of may s (effect audited g k x s) (effect_follows x s only)

      pub effects_move : (xs : core.Statements) (s : State) → AllAssignOnly may xs → Moves may s (effects audited g k xs s)
      effects_move xs s only = moves_of may s (effects audited g k xs s) (effects_follow xs s only)

  -- ---- calls

  mutual
    pub all_assigned : (x : core.Statement) → AssignsOnly (λ y. true) x
    all_assigned core.Nothing = tt
    all_assigned (core.SetLocal x e) = refl
    all_assigned (core.Store type p e) = tt
    all_assigned (core.UpdateLocal char x operator e site) = refl
    all_assigned (core.Update type p operator e site) = tt
    all_assigned (core.Evaluate e) = tt
    all_assigned (core.CallAlone callee arguments) = tt
    all_assigned (core.Print e) = tt
    all_assigned (core.PutByte e) = tt
    all_assigned (core.Block xs) = all_of_them xs
    all_assigned (core.If c x y) = (all_assigned x, all_assigned y)
    all_assigned (core.Loop c x y) = (all_assigned x, all_assigned y)
    all_assigned (core.Return e) = tt
    all_assigned core.ReturnNothing = tt
    all_assigned core.Break = tt
    all_assigned core.Continue = tt

    pub all_of_them : (xs : core.Statements) → AllAssignOnly (λ y. true) xs
    all_of_them core.NoMore = tt
    all_of_them (core.Then x xs) = (all_assigned x, all_of_them xs)

  answered : (result : Option CType) (flow : Flow) (s : State) → Keeps s (answer result flow s)
  answered result Next s = later_here s
  answered result Broke s = tt
  answered result Continued s = tt
  answered result (Returned v) s = by (fits_result result v)
    where
      by : (test : Bool) → Keeps s (answer_if test v s)
      by true = later_here s
      by false = tt

  grown_back : {A : Type 0} (s u : State) (o : Result A) → u.blocks ≡ s.blocks → Follows (λ y. true) u o → Keeps s (and_then o (back s))
  grown_back s u (Gives v t) e h = ((subst (λ b. Grows (shapes b) (shapes t.blocks)) e h.moved.grown, refl), λ zeros. h.zeros (subst EndInZeros (sym e) zeros))
  grown_back s u (Ends ending t) e h = tt
  grown_back s u (Stuck site t) e h = tt
  grown_back s u (Unsound site t) e h = tt
  grown_back s u Short e h = tt

  body_keeps : (k : Knot) → KnotMoves k → (test : Bool) (f : core.Function) (vs : List Value) (s : State) → Keeps s (body_if audited test g k f vs s)
  body_keeps k is false f vs s = tt
  body_keeps k is true f vs s =
      let inside : State = record s { locals = locals_for f.locals vs; depth = s.depth + 1 } in
      grown_back s inside _ refl
      (moves_on (λ y. true) inside (effects audited g k f.body inside) _ (effects_follow k is (λ y. true) f.body inside (all_of_them f.body)) (λ flow t. kept_moves (λ y. true) t (answer f.result flow t) (answered f.result flow t)))

  call_keeps : (k : Knot) → KnotMoves k → (o : Option core.Function) (vs : List Value) (s : State) → Keeps s (body_of audited g k o vs s)
  call_keeps k is None vs s = tt
  call_keeps k is (Some f) vs s = body_keeps k is (fit (parameters_of f) vs) f vs s

  crossed_grows : (s : State) (x : Crossed) → Adds s (crossed x s)
  crossed_grows s (Crossed.Returned word w) = (grows_here (shapes s.blocks), λ h. h)
  crossed_grows s (Crossed.Called fun words w) = tt
  crossed_grows s (Crossed.Over ending w) = tt

  -- calls keep the variables of the caller, and turns change what their loops assign, for any number of ticks
  pub knots_move : (n : ℕ) → KnotMoves (knot audited g n)
  knots_move zero = record { calls = (λ function vs s. tt, λ s. tt); turn = λ may c x y s h h'. tt }
  knots_move (suc n) = record {
    calls = (λ function vs s. call_keeps (knot audited g n) (knots_move n) (slice_get g.program.functions function) vs s, λ s. crossed_grows s (until_return s.world.acts s.world));
    turn = λ may c x y s h h'. effect_follows (knot audited g n) (knots_move n) may (core.Loop c x y) s (h, h');
  }
