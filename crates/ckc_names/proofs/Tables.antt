-- What the marks and entries of a table say of names.
use Rattle.std.proofs.Common.{◌≡◌, ℕ, zero, suc, ◌+◌, ◌<◌, ◌≤◌, ◌==◌, Bool, true, false, ◌||◌, cond, nat_lt, is_some, bytes_eq, List, [], ◌∷◌, ◌++◌, length, reverse, slice_get, get_or, set, Option, Some, None, IsSome, Result, Ok, Err, OnOk, OnErr, refl, sym, ap, ◌∙◌, true≢false, arith}
use Rattle.std.specs.Option.{option_and_then}
use Rattle.std.specs.List.{list_any}
use Rattle.std.proofs.lemmas.List.{reverse-append, reverse-reverse, length-reverse, length-append, get_or_append_left, get_or_default, length-set, get_or-set_other}
use Rattle.std.proofs.lemmas.Grind.{get_or-set_at}
use Rattle.std.proofs.lemmas.List.Folds.{list_any-append}
use Rattle.std.proofs.lemmas.Bool.{ltb-true, lt-ltb, eq-eqb}
use Rattle.std.proofs.lemmas.Slice.Eq.{bytes_eq-Decides}
use Rattle.ckc_text.specs.declared.fault.NoMemory.{NoMemory}
use borrow.Author.Tests.{eqb-true}
use Rattle.ckc_names.specs.declared.table.Held.{Held}
use Rattle.ckc_names.specs.declared.table.Held.TheVariants as held
use Rattle.ckc_names_rules.specs.declared.meaning.Meaning as code
use Rattle.ckc_names_rules.specs.Scopes.{Meaning, Block, visible, innermost, with_entry, outside, is_among}
use Rattle.ckc_names_rules.specs.Naming.{with_new}
use Rattle.ckc_names.specs.NameLists.{name_at, Distinct}
use Rattle.ckc_names.specs.State.{State, with_blocks, with_names}
use Rattle.ckc_names_rules.specs.Meanings.{meaning}
use Rattle.ckc_names.specs.Insides.{blocks_of, block_place, name_place, Settled, state_of, IsTable, meaning_of, meaning_at, within, HasRoom}
use Rattle.ckc_names.proofs.Names.{among_any}

-- ---- places

front : {X : Type 0} (xs ys : List X) (k : ℕ) → k < length xs → slice_get (xs ++ ys) k ≡ slice_get xs k
front [] ys k less = absurd (omega arith)
front (x ∷ xs) ys zero less = refl
front (x ∷ xs) ys (suc k) less = front xs ys k (omega arith)

last : {X : Type 0} (xs : List X) (y : X) → slice_get (xs ++ y ∷ []) (length xs) ≡ Some y
last [] y = refl
last (x ∷ xs) y = last xs y

reverse_cons : {X : Type 0} (x : X) (xs : List X) → reverse (x ∷ xs) ≡ reverse xs ++ x ∷ []
reverse_cons x xs = reverse-append (x ∷ []) xs

older : (e : Held) (before : List Held) (place : Option ℕ) → ((p : ℕ) → place ≡ Some p → p < length before) → meaning_at (reverse (e ∷ before)) place ≡ meaning_at (reverse before) place
older e before None less = refl
older e before (Some p) less = ap (option_and_then meaning_of) (ap (λ xs. slice_get xs p) (reverse_cons e before) ∙ front (reverse before) (e ∷ []) p (omega (arith, less p refl, length-reverse before)))

newest : (e : Held) (before : List Held) → meaning_at (reverse (e ∷ before)) (Some (length before)) ≡ meaning_of e
newest e before =
    ap (option_and_then meaning_of) (ap (λ xs. slice_get xs (length before)) (reverse_cons e before) ∙ ap (λ k. slice_get (reverse before ++ e ∷ []) k) (sym (length-reverse before)) ∙ last (reverse before) e)

name_before : (number : ℕ) (es : List Held) (p : ℕ) → name_place number es ≡ Some p → p < length es
name_before number [] p is = absurd (cc)
name_before number (held.Block outer ∷ before) p is = omega (arith, name_before number before p is)
name_before number (held.Name other stands hides ∷ before) p is = by (other == number) is (name_before number before p)
  where
    by : (b : Bool) → cond b (Some (length before)) (name_place number before) ≡ Some p → (name_place number before ≡ Some p → p < length before) → p < suc (length before)
    by true at rest = let same : length before ≡ p = cc in omega (arith, same)
    by false at rest = omega (arith, rest at)

block_before : (es : List Held) (p : ℕ) → block_place es ≡ Some p → p < length es
block_before [] p is = absurd (cc)
block_before (held.Block outer ∷ before) p is = let same : length before ≡ p = cc in omega (arith, same)
block_before (held.Name other stands hides ∷ before) p is = omega (arith, block_before before p is)

-- ---- blocks

-- some block is open
record SomeBlock (blocks : List Block) : Type 0 where
  first : Block
  others : List Block
  is : blocks ≡ first ∷ others

some_block : (names : List (List ℕ)) (es : List Held) → IsSome (block_place es) → SomeBlock (blocks_of names es)
some_block names [] there = absurd (cc)
some_block names (held.Block outer ∷ before) there = record { first = []; others = blocks_of names before; is = refl }
some_block names (held.Name other stands hides ∷ before) there =
    let below = some_block names before there in
    record { first = (name_at names other, meaning stands) ∷ below.first; others = below.others; is = ap (with_entry (name_at names other) (meaning stands)) below.is }

no_block : (names : List (List ℕ)) (count : ℕ) (es : List Held) → Settled count es → block_place es ≡ None → blocks_of names es ≡ []
no_block names count [] settled none = refl
no_block names count (held.Block outer ∷ before) settled none = absurd (cc)
no_block names count (held.Name other stands hides ∷ before) settled none = absurd (true≢false (sym settled.1.1.0 ∙ ap is_some none))

seen_first : (name x : List ℕ) (m : Meaning) (b : Block) (bs : List Block) → visible (with_entry x m (b ∷ bs)) name ≡ cond (bytes_eq name x) (Some m) (visible (b ∷ bs) name)
seen_first name x m b bs = by (bytes_eq name x) refl
  where
    by : (t : Bool) → bytes_eq name x ≡ t → visible (with_entry x m (b ∷ bs)) name ≡ cond (bytes_eq name x) (Some m) (visible (b ∷ bs) name)
    by true e = rw e refl
    by false e = rw e refl

found_first : (name x : List ℕ) (m : Meaning) (b : Block) (bs : List Block) → innermost (with_entry x m (b ∷ bs)) name ≡ cond (bytes_eq name x) (Some m) (innermost (b ∷ bs) name)
found_first name x m b bs = by (bytes_eq name x) refl
  where
    by : (t : Bool) → bytes_eq name x ≡ t → innermost (with_entry x m (b ∷ bs)) name ≡ cond (bytes_eq name x) (Some m) (innermost (b ∷ bs) name)
    by true e = rw e refl
    by false e = rw e refl

-- names are the same where their numbers are
same_number : (names : List (List ℕ)) → Distinct names → (j k : ℕ) → j < length names → k < length names → bytes_eq (name_at names j) (name_at names k) ≡ (k == j)
same_number names distinct j k less also = by (k == j) refl
  where
    by : (b : Bool) → (k == j) ≡ b → bytes_eq (name_at names j) (name_at names k) ≡ b
    by true e = (bytes_eq-Decides (name_at names j) (name_at names k)).1 (ap (name_at names) (sym (eqb-true k j e)))
    by false e = other (bytes_eq (name_at names j) (name_at names k)) refl
      where
        other : (t : Bool) → bytes_eq (name_at names j) (name_at names k) ≡ t → t ≡ false
        other false h = refl
        other true h = absurd (true≢false (sym (eq-eqb k j (sym (distinct.same j k less also ((bytes_eq-Decides (name_at names j) (name_at names k)).0 h)))) ∙ e))

-- ---- what a name stands for

visible_is : (names : List (List ℕ)) → Distinct names → (es : List Held) → Settled (length names) es → (number : ℕ) → number < length names → visible (blocks_of names es) (name_at names number) ≡ meaning_at (reverse es) (name_place number es)
visible_is names distinct [] settled number less = refl
visible_is names distinct (held.Block outer ∷ before) settled number less = visible_is names distinct before settled.1 number less ∙ sym (older (held.Block outer) before (name_place number before) (name_before number before))
visible_is names distinct (held.Name other stands hides ∷ before) settled number less =
    let below = some_block names before settled.1.1.0 in
    let rest = visible_is names distinct before settled.1.1.1 number less in
    let entry = held.Name other stands hides in
    ap (λ bs. visible (with_entry (name_at names other) (meaning stands) bs) (name_at names number)) below.is
    ∙ seen_first (name_at names number) (name_at names other) (meaning stands) below.first below.others
    ∙ ap (λ bs. cond (bytes_eq (name_at names number) (name_at names other)) (Some (meaning stands)) (visible bs (name_at names number))) (sym below.is)
    ∙ ap (λ b. cond b (Some (meaning stands)) (visible (blocks_of names before) (name_at names number))) (same_number names distinct number other less settled.0)
    ∙ by (other == number) rest
  where
    by : (b : Bool) → visible (blocks_of names before) (name_at names number) ≡ meaning_at (reverse before) (name_place number before)
        → cond b (Some (meaning stands)) (visible (blocks_of names before) (name_at names number)) ≡ meaning_at (reverse (held.Name other stands hides ∷ before)) (cond b (Some (length before)) (name_place number before))
    by true rest = sym (newest (held.Name other stands hides) before)
    by false rest = rest ∙ sym (older (held.Name other stands hides) before (name_place number before) (name_before number before))

within_block : (number : ℕ) (before : List Held) (place : Option ℕ) → ((p : ℕ) → place ≡ Some p → p < length before) → within place (Some (length before)) ≡ None
within_block number before None less = refl
within_block number before (Some p) less = rw (lt-ltb p (length before) (less p refl)) refl

within_less : (place block : Option ℕ) (n : ℕ) → ((p : ℕ) → place ≡ Some p → p < n) → (p : ℕ) → within place block ≡ Some p → p < n
within_less None block n less p is = absurd (cc)
within_less (Some q) None n less p is = absurd (cc)
within_less (Some q) (Some b) n less p is = by (nat_lt q b) is
  where
    by : (t : Bool) → cond t None (Some q) ≡ Some p → p < n
    by true at = absurd (cc)
    by false at = let same : q ≡ p = cc in omega (arith, less q refl, same)

within_newest : (before : List Held) (block : Option ℕ) → IsSome block → ((p : ℕ) → block ≡ Some p → p < length before) → within (Some (length before)) block ≡ Some (length before)
within_newest before None there less = absurd (cc)
within_newest before (Some p) there less = by (nat_lt (length before) p) refl
  where
    by : (t : Bool) → nat_lt (length before) p ≡ t → cond t None (Some (length before)) ≡ Some (length before)
    by true e = absurd (omega (arith, ltb-true (length before) p e, less p refl))
    by false e = refl

innermost_is : (names : List (List ℕ)) → Distinct names → (es : List Held) → Settled (length names) es → (number : ℕ) → number < length names → innermost (blocks_of names es) (name_at names number) ≡ meaning_at (reverse es) (within (name_place number es) (block_place es))
innermost_is names distinct [] settled number less = refl
innermost_is names distinct (held.Block outer ∷ before) settled number less = ap (meaning_at (reverse (held.Block outer ∷ before))) (sym (within_block number before (name_place number before) (name_before number before)))
innermost_is names distinct (held.Name other stands hides ∷ before) settled number less =
    let below = some_block names before settled.1.1.0 in
    let rest = innermost_is names distinct before settled.1.1.1 number less in
    ap (λ bs. innermost (with_entry (name_at names other) (meaning stands) bs) (name_at names number)) below.is
    ∙ found_first (name_at names number) (name_at names other) (meaning stands) below.first below.others
    ∙ ap (λ bs. cond (bytes_eq (name_at names number) (name_at names other)) (Some (meaning stands)) (innermost bs (name_at names number))) (sym below.is)
    ∙ ap (λ b. cond b (Some (meaning stands)) (innermost (blocks_of names before) (name_at names number))) (same_number names distinct number other less settled.0)
    ∙ by (other == number) settled.1.1.0 rest
  where
    by : (b : Bool) → IsSome (block_place before) → innermost (blocks_of names before) (name_at names number) ≡ meaning_at (reverse before) (within (name_place number before) (block_place before))
        → cond b (Some (meaning stands)) (innermost (blocks_of names before) (name_at names number)) ≡ meaning_at (reverse (held.Name other stands hides ∷ before)) (within (cond b (Some (length before)) (name_place number before)) (block_place before))
    by true there rest = sym (ap (meaning_at (reverse (held.Name other stands hides ∷ before))) (within_newest before (block_place before) there (block_before before)) ∙ newest (held.Name other stands hides) before)
    by false there rest = rest ∙ sym (older (held.Name other stands hides) before (within (name_place number before) (block_place before)) (within_less (name_place number before) (block_place before) (length before) (name_before number before)))

-- ---- a name more

settled_more : (count more : ℕ) (es : List Held) → count ≤ more → Settled count es → Settled more es
settled_more count more [] le settled = tt
settled_more count more (held.Block outer ∷ before) le settled = (settled.0, settled_more count more before le settled.1)
settled_more count more (held.Name other stands hides ∷ before) le settled = (omega (arith, settled.0), (settled.1.0, (settled.1.1.0, settled_more count more before le settled.1.1.1)))

blocks_more : (names : List (List ℕ)) (name : List ℕ) (es : List Held) → Settled (length names) es → blocks_of (names ++ name ∷ []) es ≡ blocks_of names es
blocks_more names name [] settled = refl
blocks_more names name (held.Block outer ∷ before) settled = ap (λ bs. [] ∷ bs) (blocks_more names name before settled.1)
blocks_more names name (held.Name other stands hides ∷ before) settled =
    ap (λ bs. with_entry (name_at (names ++ name ∷ []) other) (meaning stands) bs) (blocks_more names name before settled.1.1.1)
    ∙ ap (λ x. with_entry x (meaning stands) (blocks_of names before)) (get_or_append_left names (name ∷ []) [] other settled.0)

settled_new : (names : List (List ℕ)) (name : List ℕ) (b : Bool) (es : List Held) → Settled (length names) es → Settled (length (with_new b name names)) es
settled_new names name true es settled = settled
settled_new names name false es settled = settled_more (length names) (length (names ++ name ∷ [])) es (omega (arith, length-append names (name ∷ []))) settled

blocks_new : (names : List (List ℕ)) (name : List ℕ) (b : Bool) (es : List Held) → Settled (length names) es → blocks_of (with_new b name names) es ≡ blocks_of names es
blocks_new names name true es settled = refl
blocks_new names name false es settled = blocks_more names name es settled

length_new : (names : List (List ℕ)) (name : List ℕ) (b : Bool) → length (with_new b name names) ≤ length names + 1
length_new names name true = omega arith
length_new names name false = omega (arith, length-append names (name ∷ []))

-- a table in which a name was seen, where memory sufficed
pub seen_table : (names more : List (List ℕ)) (old new : List (Option ℕ)) (marks : List Held) (block : Option ℕ) (name : List ℕ) (b : Bool) (r : Result ℕ NoMemory) → IsTable names old marks block → HasRoom (length names + 1) old new → Distinct more → OnOk r (more ≡ with_new b name names) → OnErr r (more ≡ names) → IsTable more new marks block
seen_table names more old new marks block name b (Ok number) table room distinct is same = record {
  distinct = distinct;
  room = omega (arith, room.room, length_new names name b, ap length is);
  places = λ k. room.same k ∙ table.places k;
  innermost = table.innermost;
  settled = rw is (settled_new names name b (reverse marks) table.settled);
}
seen_table names more old new marks block name b (Err e) table room distinct is same = record {
  distinct = distinct;
  room = omega (arith, room.room, ap length same);
  places = λ k. room.same k ∙ table.places k;
  innermost = table.innermost;
  settled = rw same table.settled;
}

pub seen_state : (names more : List (List ℕ)) (marks : List Held) (tags : List (List ℕ)) (name : List ℕ) (b : Bool) (r : Result ℕ NoMemory) → Settled (length names) (reverse marks) → OnOk r (more ≡ with_new b name names) → OnOk r (state_of more marks tags ≡ with_names (with_new b name names) (state_of names marks tags))
seen_state names more marks tags name b (Ok number) settled is =
    rw is (ap (λ (bs : List Block). record { scopes = record { blocks = bs; tags = reverse tags }; names = with_new b name names }) (blocks_new names name b (reverse marks) settled))
seen_state names more marks tags name b (Err e) settled is = tt

-- ---- tags

any_reverse : (p : List ℕ → Bool) (xs : List (List ℕ)) → list_any p (reverse xs) ≡ list_any p xs
any_reverse p [] = refl
any_reverse p (x ∷ xs) = ap (list_any p) (reverse_cons x xs) ∙ list_any-append p (reverse xs) (x ∷ []) ∙ ap (λ b. b || (p x || false)) (any_reverse p xs) ∙ turn (list_any p xs) (p x)
  where
    turn : (a b : Bool) → (a || (b || false)) ≡ (b || a)
    turn true true = refl
    turn true false = refl
    turn false true = refl
    turn false false = refl

pub among_reverse : (names : List (List ℕ)) (name : List ℕ) → is_among (reverse names) name ≡ is_among names name
among_reverse names name = among_any (reverse names) name ∙ any_reverse (bytes_eq name) names ∙ sym (among_any names name)

pub tag_added : (tags more : List (List ℕ)) (tag : List ℕ) → is_among (reverse tags) tag ≡ false → more ≡ with_new (is_among tags tag) tag tags → reverse more ≡ tag ∷ reverse tags
tag_added tags more tag new is = ap reverse (is ∙ ap (λ b. with_new b tag tags) (sym (among_reverse tags tag) ∙ new)) ∙ reverse-append tags (tag ∷ [])

-- what is read at a place
place_is : {X : Type 0} (xs : List (Option X)) (i : ℕ) (x : Option X) (place : Option X) → x ≡ get_or xs i x → get_or xs i None ≡ place → i < length xs → x ≡ place
place_is xs i x place is at less = is ∙ get_or_default xs i x None less ∙ at

pub visible_in_table : (names : List (List ℕ)) (current : List (Option ℕ)) (marks slice : List Held) (block : Option ℕ) (number : ℕ) (place : Option ℕ) → IsTable names current marks block → number < length names → slice ≡ marks → place ≡ get_or current number place
    → meaning_at slice place ≡ visible (blocks_of names (reverse marks)) (name_at names number)
visible_in_table names current marks slice block number place table less same at =
    let here = place_is current number place (name_place number (reverse marks)) at (table.places number) (omega (arith, less, table.room)) in
    ap (meaning_at slice) here
    ∙ ap (λ ms. meaning_at ms (name_place number (reverse marks))) (same ∙ sym (reverse-reverse marks))
    ∙ sym (visible_is names table.distinct (reverse marks) table.settled number less)

pub innermost_in_table : (names : List (List ℕ)) (current : List (Option ℕ)) (marks slice : List Held) (block : Option ℕ) (number : ℕ) (place : Option ℕ) → IsTable names current marks block → number < length names → slice ≡ marks → place ≡ get_or current number place
    → meaning_at slice (within place block) ≡ innermost (blocks_of names (reverse marks)) (name_at names number)
innermost_in_table names current marks slice block number place table less same at =
    let here = place_is current number place (name_place number (reverse marks)) at (table.places number) (omega (arith, less, table.room)) in
    ap (λ p. meaning_at slice (within p block)) here
    ∙ ap (λ b. meaning_at slice (within (name_place number (reverse marks)) b)) table.innermost
    ∙ ap (λ ms. meaning_at ms (within (name_place number (reverse marks)) (block_place (reverse marks)))) (same ∙ sym (reverse-reverse marks))
    ∙ sym (innermost_is names table.distinct (reverse marks) table.settled number less)

-- ---- a name that is declared, and the end of its block

place_set : (places : List (Option ℕ)) (number k : ℕ) (place : Option ℕ) → number < length places → get_or (set places number place) k None ≡ cond (number == k) place (get_or places k None)
place_set places number k place less = by (number == k) refl
  where
    by : (b : Bool) → (number == k) ≡ b → get_or (set places number place) k None ≡ cond b place (get_or places k None)
    by true e = get_or-set_at places number k place None (sym (eqb-true number k e)) less
    by false e = get_or-set_other places number k place None (λ same. true≢false (sym (eq-eqb number k (sym same)) ∙ e))

-- a table in which a name was declared
pub declared_table : (names : List (List ℕ)) (old new : List (Option ℕ)) (marks more : List Held) (block : Option ℕ) (number : ℕ) (stands : code.Meaning) (hides : Option ℕ) → IsTable names old marks block → number < length names → is_some block ≡ true
    → hides ≡ get_or old number hides → new ≡ set old number (Some (length marks)) → more ≡ marks ++ held.Name number stands hides ∷ [] → IsTable names new more block
declared_table names old new marks more block number stands hides table less there is sets pushes =
    let within : number < length old = omega (arith, less, table.room) in
    let turned = ap reverse pushes ∙ reverse-append marks (held.Name number stands hides ∷ []) in
    record {
      distinct = table.distinct;
      room = omega (arith, table.room, ap length sets, length-set old number (Some (length marks)));
      places = λ k.
          ap (λ xs. get_or xs k None) sets ∙ place_set old number k (Some (length marks)) within
          ∙ ap (λ place. cond (number == k) (Some (length marks)) place) (table.places k)
          ∙ ap (λ (n : ℕ). cond (number == k) (Some n) (name_place k (reverse marks))) (sym (length-reverse marks))
          ∙ sym (ap (name_place k) turned);
      innermost = table.innermost ∙ sym (ap block_place turned);
      settled = rw turned (less, (place_is old number hides (name_place number (reverse marks)) is (table.places number) within, (ap is_some (sym table.innermost) ∙ there, table.settled)));
    }

-- a table without the name that was declared last
pub restored_table : (names : List (List ℕ)) (old new : List (Option ℕ)) (marks rest : List Held) (block : Option ℕ) (number : ℕ) (stands : code.Meaning) (hides : Option ℕ) → IsTable names old marks block
    → marks ≡ rest ++ held.Name number stands hides ∷ [] → new ≡ set old number hides → IsTable names new rest block
restored_table names old new marks rest block number stands hides table pops sets =
    let turned = ap reverse pops ∙ reverse-append rest (held.Name number stands hides ∷ []) in
    let settled : Settled (length names) (held.Name number stands hides ∷ reverse rest) = rw turned at table.settled in
    let within : number < length old = omega (arith, settled.0, table.room) in
    let was : (k : ℕ) → get_or old k None ≡ cond (number == k) (Some (length (reverse rest))) (name_place k (reverse rest)) = λ k. table.places k ∙ ap (name_place k) turned in
    record {
      distinct = table.distinct;
      room = omega (arith, table.room, ap length sets, length-set old number hides);
      places = λ k. ap (λ xs. get_or xs k None) sets ∙ place_set old number k hides within ∙ ap (cond (number == k) hides) (was k) ∙ back (number == k) k refl settled.1.0;
      innermost = table.innermost ∙ ap block_place turned;
      settled = settled.1.1.1;
    }
  where
    back : (b : Bool) (k : ℕ) → (number == k) ≡ b → hides ≡ name_place number (reverse rest) → cond b hides (cond b (Some (length (reverse rest))) (name_place k (reverse rest))) ≡ name_place k (reverse rest)
    back true k e is = is ∙ ap (λ n. name_place n (reverse rest)) (eqb-true number k e)
    back false k e is = refl

-- the end of a block leaves out what is declared in it
pub outside_restored : (names : List (List ℕ)) (marks rest : List Held) (number : ℕ) (stands : code.Meaning) (hides : Option ℕ) → marks ≡ rest ++ held.Name number stands hides ∷ [] → outside (blocks_of names (reverse rest)) ≡ outside (blocks_of names (reverse marks))
outside_restored names marks rest number stands hides pops =
    by (blocks_of names (reverse rest)) ∙ sym (ap (λ es. outside (blocks_of names es)) (ap reverse pops ∙ reverse-append rest (held.Name number stands hides ∷ [])))
  where
    by : (blocks : List Block) → outside blocks ≡ outside (with_entry (name_at names number) (meaning stands) blocks)
    by [] = refl
    by (block ∷ blocks) = refl

-- where no mark of a block is found, there was no block
pub none_left : (names : List (List ℕ)) (rest marks start : List Held) (tags : List (List ℕ)) → length rest ≡ 0 → marks ≡ rest ++ [] → outside (blocks_of names (reverse marks)) ≡ outside (blocks_of names (reverse start))
    → state_of names rest tags ≡ with_blocks (outside (blocks_of names (reverse start))) (state_of names start tags)
none_left names [] marks start tags empty pops same =
    ap (λ (bs : List Block). record { scopes = record { blocks = bs; tags = reverse tags }; names = names }) (ap (λ es. outside (blocks_of names (reverse es))) (sym pops) ∙ same)
none_left names (e ∷ rest) marks start tags empty pops same = absurd (omega (arith, empty))

is_none : {X : Type 0} (o : Option X) → is_some o ≡ false → o ≡ None
is_none None none = refl
is_none (Some x) none = absurd (true≢false none)

-- without a block there is no entry
pub no_entry : (names : List (List ℕ)) (current : List (Option ℕ)) (marks : List Held) (block : Option ℕ) (tags : List (List ℕ)) (name : List ℕ) (m : Meaning) → IsTable names current marks block → is_some block ≡ false
    → state_of names marks tags ≡ with_blocks (with_entry name m (blocks_of names (reverse marks))) (state_of names marks tags)
no_entry names current marks block tags name m table none =
    let empty = no_block names (length names) (reverse marks) table.settled (sym table.innermost ∙ is_none block none) in
    let state : List Block → State = λ bs. record { scopes = record { blocks = bs; tags = reverse tags }; names = names } in
    ap state (empty ∙ sym (ap (with_entry name m) empty))
