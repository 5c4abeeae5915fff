-- A whole source: reading it goes one way, and where it is stuck stands its refusal.
use Rattle.std.proofs.Common.{◌≡◌, ◌∙◌, ◌<◌, ℕ, length, List, [], ◌∷◌, refl, sym, ap, subst, arith}
use Rattle.ckc_text.specs.declared.code.Code.TheVariants.{E07}
use Rattle.ckc_lexer.specs.declared.token.Token.{Token}
use Rattle.ckc_tree.specs.Items.{Item, Tree}
use Rattle.ckc_tree.specs.Heights.{Reach, nowhere, ◌beside◌, item_reach, items_reach}
use Rattle.ckc_parser_grammar.specs.ItemGrammar as g
use Rattle.ckc_parser_grammar.specs.ItemGrammar.{SpellsItem, SpellsItems, SpellsProgram}
use Rattle.ckc_parser_grammar.specs.ItemBeginnings as b
use Rattle.ckc_parser_grammar.specs.ItemBeginnings.{BeginsItem, BeginsItems}
use Rattle.ckc_parser_grammar.specs.Parsing as parsing
use Rattle.ckc_parser_grammar.specs.Parsing.{IsFault}
use Rattle.ckc_parser_grammar.specs.Failures.{Failure}
use Rattle.ckc_parser_grammar.specs.StuckItems as stuck
use Rattle.ckc_parser_grammar.specs.StuckItems.{StuckItems}
use Rattle.ckc_parser_grammar.specs.Refusals.{FaultIs}
use Rattle.ckc_parser_grammar.proofs.OneItem.{item_same, items_same}
use Rattle.ckc_parser_grammar.proofs.Whole.{items_begin}
use Rattle.ckc_parser_grammar.proofs.Forms.{◌ends◌, all, later, end_length, end_trans, end_same, move, beside_same, Read, Exact, seq_all, SeqS, SeqB, seq, in_first, in_second}
use Rattle.ckc_parser_grammar.proofs.Paths.{beside_nowhere}
use Rattle.ckc_parser_grammar.proofs.Failing as failing
use Rattle.ckc_parser_grammar.proofs.Failing.{Fails, fails_first, fails_second}
use Rattle.ckc_parser_grammar.proofs.MoreForms.{fails_past}
use Rattle.ckc_parser_grammar.proofs.ItemForms.{ItemS, item}
use Rattle.ckc_parser_grammar.proofs.ItemFailing.{item_exact, item_shorter, item_fails}

pub data ItemsS : List Token → List Token → Reach → Type 0 where
  items : {x : List Item} {ts : List Token} → SpellsItems ts x → ItemsS ts [] (items_reach x)

none_ends : (ts : List Token) → [] ends ts
none_ends [] = all
none_ends (t ∷ ts) = later (none_ends ts)

items_ended : {ts rest : List Token} {q : Reach} → BeginsItems ts rest q → rest ends ts
items_ended b.nothing = all
items_ended (b.first c) = item_exact.ended c
items_ended (b.others d c) = end_trans (items_ended c) (item_exact.ended (item_exact.spelled (item d)))

some_item : {x : Item} {ts mid : List Token} → SpellsItem ts x mid → ts ≡ [] → ⊥
some_item {mid} d same = absurd (omega (arith, item_shorter d, ap length same))

no_items : {ts : List Token} {x : List Item} → SpellsItems ts x → ts ≡ [] → items_reach x ≡ nowhere
no_items g.none same = refl
no_items (g.more d l) same = absurd (some_item d same)

-- what begins up to the end of a source that is spelled has put its nodes and no others
pub items_whole : {ts rest : List Token} {x : List Item} {q : Reach} → SpellsItems ts x → BeginsItems ts rest q → rest ≡ [] → q ≡ items_reach x
items_whole g.none b.nothing same = refl
items_whole g.none (b.first c) same = item_exact.nothing c same
items_whole g.none (b.others d c) same = absurd (some_item d refl)
items_whole (g.more d l) b.nothing same = absurd (some_item d same)
items_whole (g.more {mid} {item = x} d l) (b.first c) same =
    let here : mid ≡ [] = end_same (subst (λ (ts : List Token). mid ends ts) same (item_exact.longest (item d) c)) (omega arith) in
    item_exact.whole (item d) c (same ∙ sym here) ∙ sym (ap (λ (r : Reach). item_reach x beside r) (no_items l here) ∙ beside_nowhere (item_reach x))
items_whole (g.more d l) (b.others d' c) same =
    let is = item_same d d' in
    beside_same (sym (ap (λ (x : Item × List Token). item_reach x.0) is)) (items_whole l (move BeginsItems (ap (λ (x : Item × List Token). x.1) is) c) same)

pub program_whole : (length : ℕ) (tokens : List Token) (t : Tree) (r : Reach) → SpellsProgram length tokens t → BeginsItems tokens [] r → r ≡ items_reach t.items
program_whole length tokens t r (g.program d) c = items_whole d c refl

pub items_exact : Exact nowhere ItemsS BeginsItems
items_exact = record { one = one; spelled = spelled; longest = longest; whole = whole; nothing = nothing; ended = items_ended }
  where
    one : {ts m m' : List Token} {r r' : Reach} → ItemsS ts m r → ItemsS ts m' r' → ◌≡◌ {A = Read} (m, r) (m', r')
    one (items d) (items d') = ap (λ (x : List Item). ([], items_reach x)) (items_same d d')

    spelled : {ts m : List Token} {r : Reach} → ItemsS ts m r → BeginsItems ts m r
    spelled (items d) = items_begin d

    longest : {ts m rest : List Token} {r q : Reach} → ItemsS ts m r → BeginsItems ts rest q → m ends rest
    longest {rest} (items d) c = none_ends rest

    whole : {ts m rest : List Token} {r q : Reach} → ItemsS ts m r → BeginsItems ts rest q → rest ≡ m → q ≡ r
    whole (items d) c same = items_whole d c same

    nothing : {ts rest : List Token} {q : Reach} → BeginsItems ts rest q → rest ≡ ts → q ≡ nowhere
    nothing b.nothing same = refl
    nothing (b.first c) same = item_exact.nothing c same
    nothing (b.others d c) same = absurd (omega (arith, item_shorter d, end_length (items_ended c), ap length same))

-- an item and those behind it
abbrev MoreS : List Token → List Token → Reach → Type 0
MoreS = SeqS ItemS ItemsS

abbrev MoreB : List Token → List Token → Reach → Type 0
MoreB = SeqB ItemS BeginsItem BeginsItems

more_exact : Exact nowhere MoreS MoreB
more_exact = seq_all item_exact items_exact

more_into : (ts rest : List Token) (q : Reach) → BeginsItems ts rest q → length rest < length ts → MoreB ts rest q
more_into ts rest q b.nothing less = absurd (omega (arith, less))
more_into ts rest q (b.first c) less = in_first c
more_into ts rest q (b.others d c) less = in_second (item d) c

more_from : (ts rest : List Token) (q : Reach) → MoreB ts rest q → BeginsItems ts rest q
more_from ts rest q (in_first c) = b.first c
more_from ts rest q (in_second (item d) c) = b.others d c

more_of : (ts m : List Token) (r : Reach) → (ts ≡ [] → ⊥) → ItemsS ts m r → MoreS ts m r
more_of ts m r some (items g.none) = absurd (some refl)
more_of ts m r some (items (g.more d l)) = seq (item d) (items l)

more_fails : {ts : List Token} {f : Failure} → (ts ≡ [] → ⊥) → Fails 0 MoreS MoreB ts f → Fails 0 ItemsS BeginsItems ts f
more_fails {ts} some f = fails_past (λ rest q c. more_exact.ended c) (λ m r a. more_of ts m r some a) (more_into ts) (more_from ts) f

pub items_fails : {ts : List Token} {f : Failure} → StuckItems ts f → Fails 0 ItemsS BeginsItems ts f
items_fails stuck.no_room = failing.no_memory
items_fails (stuck.first f) = more_fails (λ same. absurd (omega (arith, ap length same))) (fails_first item_exact items_exact (item_fails f))
items_fails (stuck.others d low f) = more_fails (some_item d) (fails_second item_exact items_exact (item d) low (items_fails f))

-- ---- the refusal

no_program : {length : ℕ} {tokens : List Token} → ((m : List Token) (r : Reach) → ItemsS tokens m r → ⊥) → (t : Tree) → SpellsProgram length tokens t → ⊥
no_program none t (g.program d) = none _ _ (items d)

fault_of : (length : ℕ) (tokens : List Token) (f : Failure) → Fails 0 ItemsS BeginsItems tokens f → FaultIs length tokens f
fault_of length tokens f (failing.unexpected {at = []} {r} begun low whole further) = parsing.ended (record { reach = r; begins = begun; low = omega (arith, low) }) (no_program whole)
fault_of length tokens f (failing.unexpected {at = t ∷ ts} {r} begun low whole further) = parsing.unexpected (record { reach = r; begins = begun; low = omega (arith, low) }) (λ q c. further t ts q refl c)
fault_of length tokens f (failing.too_deep {p} {r} begun low deep at every) =
    subst (λ (x : ℕ). IsFault length tokens (record { code = E07; span = parsing.point x })) (sym at) (parsing.too_deep (record { reach = p; begins = begun; low = omega (arith, low) }) deep (λ q c. (omega (arith, (every q c).0), omega (arith, at, (every q c).1))))
fault_of length tokens f failing.no_memory = tt

pub stuck_is_fault : (length : ℕ) (tokens : List Token) (f : Failure) → StuckItems tokens f → FaultIs length tokens f
stuck_is_fault length tokens f s = fault_of length tokens f (items_fails s)
