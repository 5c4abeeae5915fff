-- How many bytes of a null-terminated local stand before the zero is counted.
use Rattle.std.proofs.Common.{◌≡◌, ℕ, zero, suc, ◌+◌, ◌*◌, pos, Bool, true, false, List, length, Option, Some, None, refl, sym, ◌∙◌, ap, subst, arith}
use Rattle.std.specs.Prelude.{slice_get}
use Rattle.std.proofs.lemmas.Option.{same_Some, slice_get_within}
use Rattle.act_words.specs.World.{World}
use Rattle.act_words.specs.Touches.{Asked, Got, Ended, spend_tick}
use Rattle.ckc_text.specs.declared.code.Code.TheVariants.{C2}
use Rattle.bounds_exprs.specs.declared.term.Bounds.{Bounds}
use Rattle.pointer_modes.specs.declared.ctype.Mode.{Mode}
use Rattle.pointer_modes.specs.declared.ctype.Kind.TheVariants as kinds
use Rattle.pointer_modes.specs.Types.{CType, Int, Char, Struct, Pointer, Structure}
use Rattle.bounds_flow.specs.Flows.{Knowledge, held_at}
use Rattle.bounds_flow_meaning.specs.Holding.{at_node, is_ended, target_size, types_of}
use Rattle.bounds_flow_meaning.specs.Zeros.{HasCounted, IsCounted}
use Rattle.bounds_flow_meaning.proofs.Numbers.{type_there}
use Rattle.bounds_flow_meaning.proofs.Validity.{ends_parts}
use Rattle.ckc_core.specs.declared.program.PointerBounds.{PointerBounds}
use Rattle.ckc_core.specs.declared.program.Site.{Site}
use Rattle.ckc_core.specs.Bounds.{Ends as EndsOf, ends_at, with_ends}
use Rattle.ckc_core.specs.Core as core
use Rattle.ckc_core.specs.Pointers.{byte_read, bytes_of_block, checked_if, counted, counted_from, counted_if, lies_up_to, read_as}
use Rattle.ckc_core.specs.States.{Value, Number, Null, At, Cell, Local, State, cell_at, in_world}
use Rattle.ckc_core.specs.Steps.{Result, asked, is_zero}
use Rattle.ckc_core.specs.Meaning.{Knot, Setting, length_of, value}
use Rattle.region_typing_rules.specs.KnownIsSo.{WhereGiven, IsAlike, HasLocals}
use Rattle.region_typing_rules.specs.Typed.{AreNamed}
use Rattle.region_typing_rules.proofs.Keeping.{CallsKeep}
use Rattle.region_typing_rules.proofs.Given.{ends_alike}
use Rattle.region_typing_rules.proofs.ReadElements.{IsHolding, local_read}
use Rattle.region_typing_rules.proofs.Terms.{so_further, so_on}

-- ---- where nodes are right

-- the bounds at the node of a local are those that are in force, which name locals
pub record IsRightText (known : List Structure) (types : List CType) (f : Knowledge) (k : ℕ) (p : PointerBounds) : Type 0 where
  pub mode : Mode
  pub pointer : slice_get types k ≡ Some (Pointer mode kinds.Nt Char)
  pub size : p.size ≡ 1
  pub same : (d : Bounds) → (held_at f.held k).bounds ≡ Some d → d ≡ p.bounds
  pub named : (d : Bounds) → (held_at f.held k).bounds ≡ Some d → AreNamed types d

abbrev pub IsRightLength : List Structure → List CType → Knowledge → core.Expression → Type 0
IsRightLength known types f (core.Length (core.Local k b) site) = (p : PointerBounds) → b ≡ Some p → IsRightText known types f k p
IsRightLength known types f _ = Unit {0}

-- ---- what is counted

-- a count of a local, which lies between its ends, and behind which a cell stands
pub record IsLength (k : ℕ) (b : Option PointerBounds) (v : Value) (t : State) : Type 0 where
  pub count : ℕ
  pub is : v ≡ Number (pos count)
  pub node : PointerBounds
  pub noted : b ≡ Some node
  pub local : Local
  pub there : slice_get t.locals k ≡ Some local
  pub block : ℕ
  pub byte : ℕ
  pub points : local.value ≡ At block byte
  pub ends : EndsOf
  pub are : ends_at node t.locals block byte ≡ Some ends
  pub lies : lies_up_to ends (pos byte) ≡ true
  pub cell : Cell
  pub found : cell_at t.blocks block (byte + count) ≡ Some cell

-- from a byte on, where nothing but the world changes
record IsCountFrom (block start : ℕ) (t : State) (v : Value) (u : State) : Type 0 where
  locals : u.locals ≡ t.locals
  blocks : u.blocks ≡ t.blocks
  count : ℕ
  is : v ≡ Number (pos count)
  cell : Cell
  found : cell_at t.blocks block (start + count) ≡ Some cell

asked_so : {A B : Type 0} (Q : B → State → Type 0) (o : Asked A) (s : State) (next : A → State → Result B) → ((v : A) (w : World) → WhereGiven Q (next v (in_world w s))) → WhereGiven Q (asked o s next)
asked_so Q (Got v w) s next more = more v w
asked_so Q (Ended ending w) s next more = tt

module _ (budget : ℕ) (site : Option Site) (block start : ℕ) (t : State) where
  abbrev IsCount : Value → State → Type 0
  IsCount = IsCountFrom block start t

  read_so : (type : CType) (v : Value) (n : ℕ) (cell : Cell) (rest : Result Value) (s : State) → s.locals ≡ t.locals → s.blocks ≡ t.blocks → cell_at t.blocks block (start + n) ≡ Some cell → WhereGiven IsCount rest → WhereGiven IsCount (read_as type v site n rest s)
  read_so Int v n cell rest s locals blocks found more = tt
  read_so (Struct number) v n cell rest s locals blocks found more = tt
  read_so (Pointer mode kind target) v n cell rest s locals blocks found more = tt
  read_so Char Null n cell rest s locals blocks found more = tt
  read_so Char (At block byte) n cell rest s locals blocks found more = tt
  read_so Char (Number z) n cell rest s locals blocks found more = by (is_zero (Number z))
    where
      by : (test : Bool) → WhereGiven IsCount (counted_if test site n rest s)
      by true = record { locals = locals; blocks = blocks; count = n; is = refl; cell = cell; found = found }
      by false = more

  byte_so : (o : Option Cell) (n : ℕ) (rest : Result Value) (s : State) → s.locals ≡ t.locals → s.blocks ≡ t.blocks → cell_at t.blocks block (start + n) ≡ o → WhereGiven IsCount rest → WhereGiven IsCount (byte_read o site n rest s)
  byte_so None n rest s locals blocks found more = tt
  byte_so (Some cell) n rest s locals blocks found more = read_so cell.type cell.value n cell rest s locals blocks found more

  counted_so : (more byte n : ℕ) (s : State) → byte ≡ start + n → s.locals ≡ t.locals → s.blocks ≡ t.blocks → WhereGiven IsCount (counted_from more budget site block byte n s)
  counted_so zero byte n s at locals blocks = tt
  counted_so (suc more) byte n s at locals blocks =
      asked_so IsCount (spend_tick budget s.world) s (λ _ u. byte_read (cell_at u.blocks block byte) site n (counted_from more budget site block (byte + 1) (n + 1) u) u)
      (λ _ w. byte_so (cell_at s.blocks block byte) n (counted_from more budget site block (byte + 1) (n + 1) (in_world w s)) (in_world w s) locals blocks
      (ap (cell_at t.blocks block) (sym at) ∙ ap (λ blocks. cell_at blocks block byte) (sym blocks)) (counted_so more (byte + 1) (n + 1) (in_world w s) (omega (arith, at)) locals blocks))

module _ (audited : Bool) (g : Setting) (k : Knot) (calls : CallsKeep k) (types : List CType) where
  pub length_read : (i : ℕ) (b : Option PointerBounds) (site : Site) (s : State) → WhereGiven (IsLength i b) (value audited g k (core.Length (core.Local i b) site) s)
  length_read i b site s =
      so_on (IsHolding i) (IsLength i b) (value audited g k (core.Local i b) s) (λ v t. length_of g.budget site v (with_ends b v t.locals).ends t) (local_read audited g k calls types i b s) (λ v t holds. by b refl v t holds)
    where
      length_from : (p : PointerBounds) (block byte : ℕ) (e : EndsOf) (t : State) → b ≡ Some p → IsHolding i (At block byte) t → ends_at p t.locals block byte ≡ Some e → lies_up_to e (pos byte) ≡ true → (v : Value) (u : State) → IsCountFrom block byte t v u → IsLength i b v u
      length_from p block byte e t noted holds are lies v u c = record {
        count = c.count;
        is = c.is;
        node = p;
        noted = noted;
        local = holds.0;
        there = subst (λ ls. slice_get ls i ≡ Some holds.0) (sym c.locals) holds.1;
        block = block;
        byte = byte;
        points = holds.2;
        ends = e;
        are = subst (λ ls. ends_at p ls block byte ≡ Some e) (sym c.locals) are;
        lies = lies;
        cell = c.cell;
        found = subst (λ blocks. cell_at blocks block (byte + c.count) ≡ Some c.cell) (sym c.blocks) c.found;
      }

      ends_by : (p : PointerBounds) (block byte : ℕ) (t : State) → b ≡ Some p → IsHolding i (At block byte) t → (ends : Option EndsOf) → ends_at p t.locals block byte ≡ ends → WhereGiven (IsLength i b) (length_of g.budget site (At block byte) ends t)
      ends_by p block byte t noted holds None are = tt
      ends_by p block byte t noted holds (Some e) are = checked (lies_up_to e (pos byte)) refl
        where
          further : (lies : lies_up_to e (pos byte) ≡ true) (o : Result Value) → WhereGiven (IsCountFrom block byte t) o → WhereGiven (IsLength i b) o
          further lies o h = so_further (IsCountFrom block byte t) (IsLength i b) o h (length_from p block byte e t noted holds are lies)

          checked : (test : Bool) → lies_up_to e (pos byte) ≡ test → WhereGiven (IsLength i b) (checked_if test C2 site (counted g.budget (Some site) block byte t) t)
          checked true lies =
              further lies (counted g.budget (Some site) block byte t)
              (counted_so g.budget (Some site) block byte t (suc (bytes_of_block (slice_get t.blocks block))) byte 0 t (omega arith) refl refl)
          checked false lies = tt

      by : (c : Option PointerBounds) → b ≡ c → (v : Value) (t : State) → IsHolding i v t → WhereGiven (IsLength i b) (length_of g.budget site v (with_ends c v t.locals).ends t)
      by None noted (Number z) t holds = tt
      by None noted Null t holds = tt
      by None noted (At block byte) t holds = tt
      by (Some p) noted (Number z) t holds = tt
      by (Some p) noted Null t holds = tt
      by (Some p) noted (At block byte) t holds = ends_by p block byte t noted holds (ends_at p t.locals block byte) refl

-- ---- what that tells

module _ (structs known : List Structure) (types : List CType) (f : Knowledge) (k : ℕ) (b : Option PointerBounds) (v : Value) (t w : State) (has : HasLocals types t) (alike : IsAlike (length types) t w) (h : IsLength k b v t) (right : (p : PointerBounds) → b ≡ Some p → IsRightText known types f k p) where
  abbrev text : IsRightText known types f k h.node
  text = right h.node h.noted

  abbrev pointer : CType
  pointer = Pointer text.mode kinds.Nt Char

  untold : (o : Option CType) → o ≡ Some pointer → o ≡ Some Char → ⊥
  untold o p q = cc

  same_local : (l : Local) → slice_get w.locals k ≡ Some l → h.local ≡ l
  same_local l there = same_Some h.local l (sym h.there ∙ (sym (alike.tracked k (slice_get_within types k pointer text.pointer) (untold (slice_get (types_of t.locals) k) (has k pointer text.pointer))) ∙ there))

  typed_so : h.local.type ≡ pointer
  typed_so = same_Some h.local.type pointer (sym (type_there t.locals k h.local h.there) ∙ has k pointer text.pointer)

  pub counted_there : (l : Local) → slice_get w.locals k ≡ Some l → HasCounted structs (held_at f.held k).bounds h.count l w
  counted_there l there =
      let type : l.type ≡ pointer = ap (λ (l : Local). l.type) (sym (same_local l there)) ∙ typed_so in
      record {
        ended = ap is_ended type;
        counted = λ d is site block byte e points are.
            let same = text.same d is in
            let at : At h.block h.byte ≡ At block byte = sym h.points ∙ (ap (λ (l : Local). l.value) (same_local l there) ∙ points) in
            let sized : target_size structs l.type ≡ h.node.size = ap (target_size structs) type ∙ sym text.size in
            let node_ends : ends_at (at_node d h.node.size (is_ended l.type) site) t.locals h.block h.byte ≡ Some h.ends = subst (λ d. ends_at (at_node d h.node.size (is_ended l.type) site) t.locals h.block h.byte ≡ Some h.ends) (sym same) h.are in
            let later = ends_alike structs known types t w has alike h.node.size (is_ended l.type) d (text.named d is) site h.block h.byte h.ends node_ends in
            counted_at (at_node d h.node.size (is_ended l.type) site) block byte e at (subst (λ n. ends_at (at_node d n (is_ended l.type) site) w.locals block byte ≡ Some e) sized are) later;
      }
    where
      counted_at : (p : PointerBounds) (block byte : ℕ) (e : EndsOf) → At h.block h.byte ≡ At block byte → ends_at p w.locals block byte ≡ Some e → ends_at p w.locals h.block h.byte ≡ Some h.ends → IsCounted h.count block byte e w
      counted_at p block byte e at are later =
          let block_is : h.block ≡ block = cc in
          let byte_is : h.byte ≡ byte = cc in
          let here : ends_at p w.locals block byte ≡ Some h.ends = subst (λ block. ends_at p w.locals block byte ≡ Some h.ends) block_is (subst (λ byte. ends_at p w.locals h.block byte ≡ Some h.ends) byte_is later) in
          let same : h.ends ≡ e = same_Some h.ends e (sym here ∙ are) in
          subst (λ e. IsCounted h.count block byte e w) same
          (subst (λ block. IsCounted h.count block byte h.ends w) block_is
          (subst (λ byte. IsCounted h.count h.block byte h.ends w) byte_is
          (record {
            lies = h.lies;
            place = h.byte + h.count;
            at' = (let n : h.count * 1 ≡ h.count = omega arith in ap (λ m. h.byte + m) (sym (ap (λ n. h.count * n) one ∙ n)));
            cell = h.cell;
            found = subst (λ blocks. cell_at blocks h.block (h.byte + h.count) ≡ Some h.cell) (sym alike.blocks) h.found;
          })))
        where
          one : h.ends.size ≡ 1
          one = let p = ends_parts h.node.size _ _ _ h.ends h.are in sym (ap (λ (e : EndsOf). e.size) p.are) ∙ text.size
