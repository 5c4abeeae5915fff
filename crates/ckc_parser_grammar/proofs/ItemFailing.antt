-- Items: reading them goes one way, and where they are stuck they fail.
use Rattle.std.proofs.Common.{◌≡◌, ◌<◌, ℕ, length, Bool, true, false, List, [], ◌∷◌, Option, refl, sym, ap, subst, arith, true≢false}
use Rattle.ckc_text.specs.declared.place.Span.{Span}
use Rattle.ckc_lexer.specs.declared.token.Token.{Token}
use Rattle.ckc_lexer.specs.declared.token.TokenKind.{TokenKind}
use Rattle.ckc_lexer.specs.declared.keyword.Keyword.TheVariants as keywords
use Rattle.ckc_lexer.specs.declared.token.TokenKind.TheVariants as kinds
use Rattle.ckc_lexer.specs.declared.token.CheckedScope.{CheckedScope}
use Rattle.ckc_tree.specs.declared.stmt.Mark.{Mark}
use Rattle.ckc_tree.specs.declared.item.FunctionKind.{FunctionKind}
use Rattle.ckc_tree.specs.Types.{TypeTree}
use Rattle.ckc_tree.specs.Statements.{Declarator}
use Rattle.ckc_tree.specs.Items.{ResultForm, Body, Item}
use Rattle.ckc_tree.specs.Heights.{Reach, nowhere, type_reach, result_reach, item_reach}
use Rattle.ckc_parser_grammar.specs.Tokens.{token, next_is, open_paren}
use Rattle.ckc_parser_grammar.specs.TypeGrammar as tg
use Rattle.ckc_parser_grammar.specs.TypeGrammar.{SpellsStars, SpellsType}
use Rattle.ckc_parser_grammar.specs.TypeBeginnings as tb
use Rattle.ckc_parser_grammar.specs.TypeBeginnings.{BeginsType}
use Rattle.ckc_parser_grammar.specs.StatementGrammar.{SpellsDeclarators}
use Rattle.ckc_parser_grammar.specs.ItemGrammar as g
use Rattle.ckc_parser_grammar.specs.ItemGrammar.{SpellsTainted, SpellsKind, SpellsOptionalMark, SpellsResult, SpellsItem}
use Rattle.ckc_parser_grammar.specs.ItemBeginnings.{BeginsItem}
use Rattle.ckc_parser_grammar.specs.Failures as failures
use Rattle.ckc_parser_grammar.specs.Failures.{Failure, IsLow}
use Rattle.ckc_parser_grammar.specs.StuckTypes as st
use Rattle.ckc_parser_grammar.specs.StuckTypes.{name_token, type_word, StuckType}
use Rattle.ckc_parser_grammar.specs.StuckStatements.{open_brace}
use Rattle.ckc_parser_grammar.specs.StuckItems as stuck
use Rattle.ckc_parser_grammar.specs.StuckItems.{void_word, scope_word, struct_word, is_structure, is_function, IsAlone, StuckItem}
use Rattle.ckc_parser_grammar.proofs.Roles.{type_role}
use Rattle.ckc_parser_grammar.proofs.OneItem.{item_same, plain, names, names_at, declarators_name, not_call}
use Rattle.ckc_parser_grammar.proofs.Whole.{item_begins}
use Rattle.ckc_parser_grammar.proofs.Forms.{◌ends◌, all, later, end_length, end_trans, Is, it, name, Read, Exact, SeqS, SeqB, seq, in_first, in_second, EndedS, end, AfterB, not_yet, after}
use Rattle.ckc_parser_grammar.proofs.Ahead.{never}
use Rattle.ckc_parser_grammar.proofs.Failing as failing
use Rattle.ckc_parser_grammar.proofs.Failing.{Fails, fails_first, fails_second, fails_before_end, fails_at_end, fails_as}
use Rattle.ckc_parser_grammar.proofs.TypeForms.{stars, stars_exact, TypeS, type, type_exact, type_fails}
use Rattle.ckc_parser_grammar.proofs.MoreForms.{is_it, by_next, lead, in_lead, behind_lead, fails_in_lead, side, side_all, fails_side, fails_past}
use Rattle.ckc_parser_grammar.proofs.Starting.{type_at, type_starts}
use Rattle.ckc_parser_grammar.proofs.DeclarationForms.{named_exact, name_is, declarators, declarators_exact, declarators_fails, bounded, optional_bounds_exact, optional_bounds_fails}
use Rattle.ckc_parser_grammar.proofs.HeadForms.{semicolon_is}
use Rattle.ckc_parser_grammar.proofs.MemberForms.{zero_low, members, members_exact, members_fails, taken, parameters_exact, parameters_fails, body, body_exact, body_fails}
use Rattle.ckc_parser_grammar.proofs.StatementForms.{listed, statements_exact}
use Rattle.ckc_parser_grammar.proofs.Pasts.{lead_past, lead_whole, longest_past, fails_opening}
use Rattle.ckc_parser_grammar.proofs.ItemForms as forms
use Rattle.ckc_parser_grammar.proofs.ItemForms.{tainted, tainted_exact, kinded, kind_exact, marked, unmarked, word, mark_exact, returned, result_exact, void, value, opened_exact, inside_exact, ending_exact, called_exact, typed_exact, variables_exact, closed_exact, InsideS, InsideB, CalledS, CalledB, GivingS, GivingB, VariablesS, VariablesB, TypedS, TypedB, ClosedS, ClosedB, TaggedS, TaggedB, GlobalB, StructureB, ItemS, item, FunctionS, FunctionB, GlobalS, StructureS, SortedS, SortedB, region, item_to, item_into, item_from, sorted_ended, sorted_nothing}
use Rattle.ckc_parser_grammar.proofs.ItemPasts.{type_less, tainted_less, mark_less, result_less, typed_none, tainted_long, typed_role, structure_into, structure_all, structure_back, variables_into, variables_all, variables_back, alone_into, alone_all, alone_back, call_into, call_all, call_back}
use Rattle.ckc_parser_grammar.proofs.OneMeaning.{says_nothing, pointer_struct}

-- ---- which item it is

-- behind the type of variables stand a star or a name, so no brace, and no name with a parenthesis
brace_free : (us : List Token) → names_at us ≡ true → next_is open_brace us ≡ false
brace_free [] so = absurd cc
brace_free (t ∷ us) so = by_kind t.kind so
  where
    by_kind : (k : TokenKind) → names k ≡ true → open_brace k ≡ false
    by_kind kinds.OpenBrace so = absurd cc
    by_kind _ so = refl

no_structure : {ts us : List Token} {x : TypeTree} → SpellsType ts x us → next_is open_brace us ≡ false → is_structure ts ≡ false
no_structure tg.int none = refl
no_structure tg.char none = refl
no_structure tg.struct none = none
no_structure (tg.pointer {k} w d e) none = rw (pointer_struct k w) refl

pub data Ahead : List Token → Type 0 where
  call : {n : ℕ} {x : List ℕ} {s p : Span} {us ws : List Token} → SpellsStars us n (token (kinds.Name x) s ∷ token kinds.OpenParen p ∷ ws) → Ahead us

more_ahead : {s : Span} {us : List Token} → Ahead us → Ahead (token kinds.Star s ∷ us)
more_ahead (call e) = call (tg.more e)

paren_ahead : (x : List ℕ) (s p : Span) (us : List Token) (k : TokenKind) → open_paren k ≡ true → Ahead (token (kinds.Name x) s ∷ token k p ∷ us)
paren_ahead x s p us kinds.OpenParen so = call (tg.none refl)
paren_ahead x s p us _ so = absurd (true≢false (sym so))

name_ahead : (x : List ℕ) (s : Span) (us : List Token) → next_is open_paren us ≡ true → Ahead (token (kinds.Name x) s ∷ us)
name_ahead x s [] so = absurd cc
name_ahead x s (t ∷ us) so = paren_ahead x s t.span us t.kind so

kind_ahead : (k : TokenKind) (s : Span) (us : List Token) → (is_function us ≡ true → Ahead us) → is_function (token k s ∷ us) ≡ true → Ahead (token k s ∷ us)
kind_ahead kinds.Star s us more so = more_ahead (more so)
kind_ahead (kinds.Name x) s us more so = name_ahead x s us so
kind_ahead _ s us more so = absurd cc

pub function_ahead : (us : List Token) → is_function us ≡ true → Ahead us
function_ahead [] so = absurd cc
function_ahead (t ∷ us) so = kind_ahead t.kind t.span us (λ h. function_ahead us h) so

no_function : {us m : List Token} {l : List Declarator} {w t : Span} → SpellsDeclarators us l w (token kinds.Semicolon t ∷ m) → is_function us ≡ false
no_function {us} l = by_test (is_function us) refl
  where
    by_ahead : Ahead us → ⊥
    by_ahead (call e) = not_call e l

    by_test : (b : Bool) → is_function us ≡ b → is_function us ≡ false
    by_test true so = absurd (by_ahead (function_ahead us so))
    by_test false so = so

-- ---- reading goes one way

-- a directive is one token
scope_longest : {x : CheckedScope} {s : Span} {m rest : List Token} {q : Reach} → SortedB (token (kinds.Scope x) s ∷ m) rest q → m ends rest
scope_longest region = all
scope_longest (forms.structure (in_lead (tainted (g.absent f)))) = later all
scope_longest (forms.structure (behind_lead (tainted (g.absent f)) not_yet)) = later all
scope_longest (forms.structure (behind_lead (tainted (g.absent f)) (after w c))) = elim w [ ]
scope_longest (forms.global (in_lead (tainted (g.absent f)))) = later all
scope_longest {m} (forms.global (behind_lead (tainted (g.absent f)) c)) = subst (λ (y : List Token). m ends y) (sym (typed_none c refl)) (later all)
scope_longest (forms.function (in_lead (kinded (g.trusted f)))) = later all
scope_longest (forms.function (behind_lead (kinded (g.trusted f)) (in_lead unmarked))) = later all
scope_longest (forms.function (behind_lead (kinded (g.trusted f)) (in_lead (word w)))) = says_nothing w
scope_longest (forms.function (behind_lead (kinded (g.trusted f)) (behind_lead (marked (g.present w)) c))) = says_nothing w
scope_longest {m} (forms.function (behind_lead (kinded (g.trusted f)) (behind_lead (marked (g.absent h)) (in_first (value c))))) = subst (λ (y : List Token). m ends y) (sym (type_starts.none c refl)) (later all)
scope_longest (forms.function (behind_lead (kinded (g.trusted f)) (behind_lead (marked (g.absent h)) (in_second (returned (g.value d)) c)))) = never (type_at d) refl

sorted_longest : {ts m rest : List Token} {r q : Reach} → SortedS ts m r → SortedB ts rest q → m ends rest
sorted_longest region c = scope_longest c
sorted_longest (forms.structure (lead (tainted t) (after it (after name (after it a))))) c = longest_past _ closed_exact (end_trans (later (later (later all))) (tainted_exact.ended (tainted t))) a (structure_into t c) (sorted_ended c)
sorted_longest (forms.global (lead (tainted t) (seq (type d) (end (declarators l) it)))) c = longest_past _ (side_all variables_exact) (end_trans (type_exact.ended (type_exact.spelled (type d))) (tainted_exact.ended (tainted t))) (side (end (declarators l) it)) (variables_into t (no_structure d (brace_free _ (declarators_name l))) d (no_function l) c) (sorted_ended c)
sorted_longest (forms.function (lead (kinded k) (lead (marked m) (seq (returned d) (lead (end (end (stars e) name) it) a))))) c =
    let named = opened_exact.ended (opened_exact.spelled (end (end (stars e) name) it)) in
    let given = result_exact.ended (result_exact.spelled (returned d)) in
    let led = mark_exact.ended (mark_exact.spelled (marked m)) in
    longest_past _ (side_all inside_exact) (end_trans named (end_trans given (end_trans led (kind_exact.ended (kinded k))))) (side a) (call_into k m d e c) (sorted_ended c)

-- of a directive there is one beginning that reads it
scope_whole : {x : CheckedScope} {s : Span} {m rest : List Token} {q : Reach} → SortedB (token (kinds.Scope x) s ∷ m) rest q → q ≡ nowhere
scope_whole region = refl
scope_whole (forms.structure (in_lead (tainted t))) = refl
scope_whole (forms.structure (behind_lead (tainted (g.absent f)) not_yet)) = refl
scope_whole (forms.structure (behind_lead (tainted (g.absent f)) (after w c))) = elim w [ ]
scope_whole (forms.global (in_lead (tainted t))) = refl
scope_whole (forms.global (behind_lead (tainted (g.absent f)) c)) = typed_exact.nothing c (typed_none c refl)
scope_whole (forms.function (in_lead (kinded k))) = refl
scope_whole (forms.function (behind_lead (kinded (g.trusted f)) (in_lead unmarked))) = refl
scope_whole (forms.function (behind_lead (kinded (g.trusted f)) (in_lead (word w)))) = refl
scope_whole (forms.function (behind_lead (kinded (g.trusted f)) (behind_lead (marked (g.present w)) c))) = says_nothing w
scope_whole (forms.function (behind_lead (kinded (g.trusted f)) (behind_lead (marked (g.absent h)) (in_first (value c))))) = type_exact.nothing c (type_starts.none c refl)
scope_whole (forms.function (behind_lead (kinded (g.trusted f)) (behind_lead (marked (g.absent h)) (in_second (returned (g.value d)) c)))) = never (type_at d) refl

-- what ends an item is a token at least
ended_less : {K : TokenKind → Type 0} {base : Reach} {S B : List Token → List Token → Reach → Type 0} {ts m : List Token} {r : Reach} → Exact base S B → EndedS K S ts m r → length m < length ts
ended_less e (end a t) = omega (arith, end_length (e.ended (e.spelled a)))

body_less : {x : Option Body} {t : Span} {ts m : List Token} → g.SpellsBody ts x t m → length m < length ts
body_less g.absent = omega arith
body_less (g.present m d) = omega (arith, mark_less m, end_length (statements_exact.ended (statements_exact.spelled (listed d))))

inside_less : {ts m : List Token} {r : Reach} → InsideS ts m r → length m < length ts
inside_less (seq a (seq w (body d))) = omega (arith, body_less d, end_length (parameters_exact.ended (parameters_exact.spelled a)), end_length (optional_bounds_exact.ended (optional_bounds_exact.spelled w)))

sorted_whole : {ts m rest : List Token} {r q : Reach} → SortedS ts m r → SortedB ts rest q → rest ≡ m → q ≡ r
sorted_whole region c same = scope_whole c
sorted_whole (forms.structure (lead (tainted t) (after it (after name (after it a))))) c same = closed_exact.whole a (structure_into t c (omega (arith, ended_less members_exact a, ap length same))) same
sorted_whole (forms.global (lead (tainted t) (seq (type d) (end (declarators l) it)))) c same =
    let less = ended_less {K = Is kinds.Semicolon} declarators_exact (end (declarators l) it) in
    (side_all variables_exact).whole (side (end (declarators l) it)) (variables_into t (no_structure d (brace_free _ (declarators_name l))) d (no_function l) c (omega (arith, less, ap length same))) same
sorted_whole (forms.function (lead (kinded k) (lead (marked m) (seq (returned d) (lead (end (end (stars e) name) it) a))))) c same =
    (side_all inside_exact).whole (side a) (call_into k m d e c (omega (arith, inside_less a, ap length same))) same

pub item_exact : Exact nowhere ItemS BeginsItem
item_exact = record { one = one; spelled = spelled; longest = λ a c. sorted_longest (item_to _ _ _ a) (item_into _ _ _ c); whole = λ a c same. sorted_whole (item_to _ _ _ a) (item_into _ _ _ c) same; nothing = λ c same. sorted_nothing (item_into _ _ _ c) same; ended = λ c. sorted_ended (item_into _ _ _ c) }
  where
    one : {ts m m' : List Token} {r r' : Reach} → ItemS ts m r → ItemS ts m' r' → ◌≡◌ {A = Read} (m, r) (m', r')
    one (item d) (item d') = ap (λ (x : Item × List Token). (x.1, item_reach x.0)) (item_same d d')

    spelled : {ts m : List Token} {r : Reach} → ItemS ts m r → BeginsItem ts m r
    spelled (item d) = item_begins d

sorted_shorter : {ts m : List Token} {r : Reach} → SortedS ts m r → length m < length ts
sorted_shorter region = omega arith
sorted_shorter (forms.structure (lead (tainted t) (after it (after name (after it a))))) = omega (arith, end_length (closed_exact.ended (closed_exact.spelled a)), tainted_less t)
sorted_shorter (forms.global (lead (tainted t) (seq (type d) a))) = omega (arith, end_length (variables_exact.ended (variables_exact.spelled a)), type_less d, tainted_less t)
sorted_shorter (forms.function (lead (kinded k) (lead (marked m) (seq (returned d) a)))) = omega (arith, end_length (called_exact.ended (called_exact.spelled a)), result_less d, mark_less m, end_length (kind_exact.ended (kinded k)))

pub item_shorter : {x : Item} {ts m : List Token} → SpellsItem ts x m → length m < length ts
item_shorter d = sorted_shorter (item_to _ _ _ (item d))

-- ---- a result that is stuck. Behind it a function would go on, or variables, where no more stands before it

data OnwardS : List Token → List Token → Reach → Type 0 where
  calls : {ts m : List Token} {r : Reach} → CalledS ts m r → OnwardS ts m r
  declares : {ts m : List Token} {r : Reach} → VariablesS ts m r → OnwardS ts m r

data OnwardB (tokens us : List Token) : List Token → List Token → Reach → Type 0 where
  calls : {ts rest : List Token} {q : Reach} → CalledB ts rest q → OnwardB tokens us ts rest q
  declares : {b : Bool} {ts rest : List Token} {q : Reach} → SpellsTainted tokens b us → VariablesB ts rest q → OnwardB tokens us ts rest q

onward_ended : {tokens us : List Token} (ts rest : List Token) (q : Reach) → OnwardB tokens us ts rest q → rest ends ts
onward_ended ts rest q (calls c) = called_exact.ended c
onward_ended ts rest q (declares t c) = variables_exact.ended c

onward_nothing : {tokens us : List Token} (ts rest : List Token) (q : Reach) → OnwardB tokens us ts rest q → rest ≡ ts → q ≡ nowhere
onward_nothing ts rest q (calls c) same = called_exact.nothing c same
onward_nothing ts rest q (declares t c) same = variables_exact.nothing c same

abbrev LedS : List Token → List Token → Reach → Type 0
LedS = SeqS TypeS OnwardS

abbrev LedB : List Token → List Token → List Token → List Token → Reach → Type 0
LedB tokens us = SeqB TypeS BeginsType (OnwardB tokens us)

led_ended : {tokens us ts rest : List Token} {q : Reach} → LedB tokens us ts rest q → rest ends ts
led_ended (in_first c) = type_exact.ended c
led_ended (in_second {mid} d c) = end_trans (onward_ended mid _ _ c) (type_exact.ended (type_exact.spelled d))

giving_led : {tokens us rest : List Token} {q : Reach} → next_is void_word us ≡ false → GivingB us rest q → LedB tokens us us rest q
giving_led none (in_first void) = absurd cc
giving_led none (in_first (value c)) = in_first c
giving_led none (in_second (returned g.void) c) = absurd cc
giving_led none (in_second (returned (g.value d)) c) = in_second (type d) (calls c)

given_led : {us m : List Token} {r : Reach} → next_is void_word us ≡ false → GivingS us m r → LedS us m r
given_led none (seq (returned g.void) a) = absurd cc
given_led none (seq (returned (g.value d)) a) = seq (type d) (calls a)

typed_led : {b : Bool} {tokens us rest : List Token} {q : Reach} → SpellsTainted tokens b us → TypedB us rest q → LedB tokens us us rest q
typed_led t (in_first c) = in_first c
typed_led t (in_second d c) = in_second d (declares t c)

typed_whole : {us m : List Token} {r : Reach} → TypedS us m r → LedS us m r
typed_whole (seq d a) = seq d (declares a)

-- an item that is no directive
data PartB : List Token → List Token → Reach → Type 0 where
  structure : {ts rest : List Token} {q : Reach} → StructureB ts rest q → PartB ts rest q
  global : {ts rest : List Token} {q : Reach} → GlobalB ts rest q → PartB ts rest q
  function : {ts rest : List Token} {q : Reach} → FunctionB ts rest q → PartB ts rest q

data PartS : List Token → List Token → Reach → Type 0 where
  structure : {ts m : List Token} {r : Reach} → StructureS ts m r → PartS ts m r
  global : {ts m : List Token} {r : Reach} → GlobalS ts m r → PartS ts m r
  function : {ts m : List Token} {r : Reach} → FunctionS ts m r → PartS ts m r

part_b : {ts rest : List Token} {q : Reach} → next_is scope_word ts ≡ false → SortedB ts rest q → PartB ts rest q
part_b none region = absurd cc
part_b none (forms.structure c) = structure c
part_b none (forms.global c) = global c
part_b none (forms.function c) = function c

part_s : {ts m : List Token} {r : Reach} → next_is scope_word ts ≡ false → SortedS ts m r → PartS ts m r
part_s none region = absurd cc
part_s none (forms.structure a) = structure a
part_s none (forms.global a) = global a
part_s none (forms.function a) = function a

module _ (tokens ts us : List Token) (k : FunctionKind) (m : Option Mark) (spelled_kind : SpellsKind tokens k ts) (spelled_mark : SpellsOptionalMark ts m us) where
  -- what is read no further than the words before the result
  led_short : {b : Bool} {ts' rest : List Token} {A : Type 0} → SpellsTainted tokens b ts' → rest ≡ ts' → length rest < length us → A
  led_short t same less = absurd (omega (arith, less, ap length same, tainted_long t spelled_kind, mark_less spelled_mark))

  moved : {b : Bool} {ts' : List Token} → SpellsTainted tokens b ts' → ts' ≡ us → SpellsTainted tokens b us
  moved {b} t same = subst (λ (y : List Token). SpellsTainted tokens b y) same t

  global_led : {b : Bool} {ts' rest : List Token} {q : Reach} → SpellsTainted tokens b ts' → TypedB ts' rest q → length rest < length us → LedB tokens us us rest q
  global_led {ts'} {rest} {q} t c less = by_next type_word ts' (λ so. let same = plain t spelled_kind spelled_mark (typed_role ts' so) in typed_led (moved t same) (subst (λ (y : List Token). TypedB y rest q) same c)) (λ none. led_short t (typed_none c none) less)

  -- a structure behind its word
  structure_led : {b : Bool} {ts' rest : List Token} {q : Reach} → SpellsTainted tokens b ts' → AfterB (Is (kinds.Keyword keywords.Struct)) TaggedB ts' rest q → length rest < length us → next_is struct_word us ≡ true
  structure_led t not_yet less = led_short t refl less
  structure_led t (after it c) less = subst (λ (y : List Token). next_is struct_word y ≡ true) (plain t spelled_kind spelled_mark refl) refl

  led_into : next_is void_word us ≡ false → next_is struct_word us ≡ false → (rest : List Token) (q : Reach) → PartB tokens rest q → length rest < length us → LedB tokens us us rest q
  led_into other tag rest q (structure (in_lead (tainted t))) less = led_short t refl less
  led_into other tag rest q (structure (behind_lead (tainted t) c)) less = never (structure_led t c less) tag
  led_into other tag rest q (global (in_lead (tainted t))) less = led_short t refl less
  led_into other tag rest q (global (behind_lead (tainted t) c)) less = global_led t c less
  led_into other tag rest q (function c) less = giving_led other (lead_past mark_exact (marked spelled_mark) (lead_past kind_exact (kinded spelled_kind) c (omega (arith, less, mark_less spelled_mark))) less)

  led_all : next_is void_word us ≡ false → next_is struct_word us ≡ false → (ms : List Token) (r : Reach) → PartS tokens ms r → LedS us ms r
  led_all other tag ms r (structure (lead (tainted t) (after it a))) = never (subst (λ (y : List Token). next_is struct_word y ≡ true) (plain t spelled_kind spelled_mark refl) refl) tag
  led_all other tag ms r (global (lead (tainted t) (seq (type d) a))) = typed_whole (subst (λ (y : List Token). TypedS y ms r) (plain t spelled_kind spelled_mark (type_role d)) (seq (type d) a))
  led_all other tag ms r (function a) = given_led other (lead_whole mark_exact (marked spelled_mark) (lead_whole kind_exact (kinded spelled_kind) a))

  led_back : (rest : List Token) (q : Reach) → LedB tokens us us rest q → SortedB tokens rest q
  led_back rest q (in_first c) = forms.function (behind_lead (kinded spelled_kind) (behind_lead (marked spelled_mark) (in_first (value c))))
  led_back rest q (in_second (type d) (calls c)) = forms.function (behind_lead (kinded spelled_kind) (behind_lead (marked spelled_mark) (in_second (returned (g.value d)) c)))
  led_back rest q (in_second d (declares t c)) = forms.global (behind_lead (tainted t) (in_second d c))

  led_fails : {f : Failure} → next_is scope_word tokens ≡ false → next_is void_word us ≡ false → next_is struct_word us ≡ false → StuckType 0 us f → Fails 0 SortedS SortedB tokens f
  led_fails none other tag f = fails_past (λ rest q c. led_ended c) (λ ms r a. led_all other tag ms r (part_s none a)) (λ rest q c. led_into other tag rest q (part_b none c)) led_back (fails_opening type_exact onward_ended onward_nothing (type_fails (omega arith) f))

-- ---- the word of a structure type, without a name behind it

tag_type : {us m : List Token} {s : Span} {x : TypeTree} → next_is name_token us ≡ false → SpellsType (token (kinds.Keyword keywords.Struct) s ∷ us) x m → ⊥
tag_type none tg.struct = absurd cc
tag_type none (tg.pointer w d e) = says_nothing w

tag_begun : {us rest : List Token} {s : Span} {q : Reach} → next_is name_token us ≡ false → BeginsType (token (kinds.Keyword keywords.Struct) s ∷ us) rest q → length rest < length us → ⊥
tag_begun none tb.nothing less = absurd (omega (arith, less))
tag_begun none tb.struct_word less = absurd (omega (arith, less))
tag_begun none tb.struct less = absurd cc
tag_begun none (tb.pointer_word w) less = says_nothing w
tag_begun none (tb.element w c) less = says_nothing w
tag_begun none (tb.stars w d c) less = says_nothing w
tag_begun none (tb.pointer w d e) less = says_nothing w

tag_led : {tokens us rest : List Token} {s : Span} {q : Reach} → next_is name_token us ≡ false → LedB tokens (token (kinds.Keyword keywords.Struct) s ∷ us) (token (kinds.Keyword keywords.Struct) s ∷ us) rest q → length rest < length us → ⊥
tag_led none (in_first c) less = tag_begun none c less
tag_led none (in_second (type d) c) less = tag_type none d

tag_whole : {us m : List Token} {s : Span} {r : Reach} → next_is name_token us ≡ false → LedS (token (kinds.Keyword keywords.Struct) s ∷ us) m r → ⊥
tag_whole none (seq (type d) a) = tag_type none d

-- the tokens behind the first
abbrev behind : List Token → List Token
behind [] = []
behind (t ∷ ts) = ts

tag_tagged : {us vs rest : List Token} {s t : Span} {q : Reach} → next_is name_token us ≡ false → ◌≡◌ {A = List Token} (token (kinds.Keyword keywords.Struct) t ∷ vs) (token (kinds.Keyword keywords.Struct) s ∷ us) → TaggedB vs rest q → length rest < length us → ⊥
tag_tagged none same not_yet less = absurd (omega (arith, less, ap length same))
tag_tagged none same (after name c) less = never refl (subst (λ (y : List Token). next_is name_token y ≡ false) (sym (ap behind same)) none)

tag_named : {us vs m : List Token} {s t : Span} {r : Reach} → next_is name_token us ≡ false → ◌≡◌ {A = List Token} (token (kinds.Keyword keywords.Struct) t ∷ vs) (token (kinds.Keyword keywords.Struct) s ∷ us) → TaggedS vs m r → ⊥
tag_named none same (after name a) = never refl (subst (λ (y : List Token). next_is name_token y ≡ false) (sym (ap behind same)) none)

tag_past : {k : FunctionKind} {m : Option Mark} {tokens ts us rest : List Token} {s : Span} {q : Reach} → SpellsKind tokens k ts → SpellsOptionalMark ts m (token (kinds.Keyword keywords.Struct) s ∷ us) → next_is name_token us ≡ false → PartB tokens rest q → length rest < length us → ⊥
tag_past {k} {m} {tokens} {ts} {us} {s} a e none (structure (in_lead (tainted t))) less = led_short tokens ts (token (kinds.Keyword keywords.Struct) s ∷ us) k m a e t refl (omega (arith, less))
tag_past {k} {m} {tokens} {ts} {us} {s} a e none (structure (behind_lead (tainted t) not_yet)) less = led_short tokens ts (token (kinds.Keyword keywords.Struct) s ∷ us) k m a e t refl (omega (arith, less))
tag_past a e none (structure (behind_lead (tainted t) (after it c))) less = tag_tagged none (plain t a e refl) c less
tag_past {k} {m} {tokens} {ts} {us} {s} a e none (global (in_lead (tainted t))) less = led_short tokens ts (token (kinds.Keyword keywords.Struct) s ∷ us) k m a e t refl (omega (arith, less))
tag_past {k} {m} {tokens} {ts} {us} {s} a e none (global (behind_lead (tainted t) c)) less = tag_led none (global_led tokens ts (token (kinds.Keyword keywords.Struct) s ∷ us) k m a e t c (omega (arith, less))) less
tag_past {tokens} a e none (function c) less = tag_led {tokens = tokens} none (giving_led refl (lead_past mark_exact (marked e) (lead_past kind_exact (kinded a) c (omega (arith, less, mark_less e))) (omega (arith, less)))) less

tag_all : {k : FunctionKind} {m : Option Mark} {tokens ts us ms : List Token} {s : Span} {r : Reach} → SpellsKind tokens k ts → SpellsOptionalMark ts m (token (kinds.Keyword keywords.Struct) s ∷ us) → next_is name_token us ≡ false → PartS tokens ms r → ⊥
tag_all a e none (structure (lead (tainted t) (after it c))) = tag_named none (plain t a e refl) c
tag_all {ms} {r} a e none (global (lead (tainted t) (seq (type d) c))) = tag_whole none (typed_whole (subst (λ (y : List Token). TypedS y ms r) (plain t a e (type_role d)) (seq (type d) c)))
tag_all a e none (function c) = tag_whole none (given_led refl (lead_whole mark_exact (marked e) (lead_whole kind_exact (kinded a) c)))

tag_fails : {k : FunctionKind} {m : Option Mark} {tokens ts us : List Token} {s : Span} → next_is scope_word tokens ≡ false → SpellsKind tokens k ts → SpellsOptionalMark ts m (token (kinds.Keyword keywords.Struct) s ∷ us) → next_is name_token us ≡ false → Fails 0 SortedS SortedB tokens (failures.unexpected us)
tag_fails other a e none = failing.unexpected (forms.function (behind_lead (kinded a) (behind_lead (marked e) (in_first (value tb.struct_word))))) (omega arith) (λ ms r c. tag_all a e none (part_s other c)) (λ t rest q same c. tag_past a e none (part_b other c) (omega (arith, ap length same)))

no_struct : (us : List Token) → next_is type_word us ≡ false → next_is struct_word us ≡ false
no_struct [] none = refl
no_struct (t ∷ us) none = by_kind t.kind none
  where
    by_kind : (k : TokenKind) → type_word k ≡ false → struct_word k ≡ false
    by_kind (kinds.Keyword keywords.Struct) none = absurd cc
    by_kind _ none = refl

result_fails : {k : FunctionKind} {m : Option Mark} {tokens ts us : List Token} {f : Failure} → next_is scope_word tokens ≡ false → SpellsKind tokens k ts → SpellsOptionalMark ts m us → next_is void_word us ≡ false → StuckType 0 us f → Fails 0 SortedS SortedB tokens f
result_fails other a e none st.no_room = failing.no_memory
result_fails {k} {m} {tokens} {ts} {us} other a e none (st.no_type untyped) = led_fails tokens ts us k m a e other none (no_struct us untyped) (st.no_type untyped)
result_fails other a e none (st.deep so deep) = absurd (omega (arith, deep))
result_fails other a e none (st.tag room unnamed) = tag_fails other a e unnamed
result_fails {k} {m} {tokens} {ts} {us} other a e none (st.opens {k = j} room w x) = led_fails tokens ts us k m a e other none (pointer_struct j w) (st.opens room w x)
result_fails {k} {m} {tokens} {ts} {us} other a e none (st.element {k = j} room w x) = led_fails tokens ts us k m a e other none (pointer_struct j w) (st.element room w x)
result_fails {k} {m} {tokens} {ts} {us} other a e none (st.close {k = j} w d high x y) = led_fails tokens ts us k m a e other none (pointer_struct j w) (st.close w d high x y)

-- ---- where items are stuck

sorted_fails : {tokens : List Token} {f : Failure} → Fails 0 SortedS SortedB tokens f → Fails 0 ItemS BeginsItem tokens f
sorted_fails f = fails_as item_to item_into item_from f

structure_fails : {b : Bool} {x : List ℕ} {s t p : Span} {tokens ts : List Token} {f : Failure} → SpellsTainted tokens b (token (kinds.Keyword keywords.Struct) s ∷ token (kinds.Name x) t ∷ token kinds.OpenBrace p ∷ ts) → Fails 0 ClosedS ClosedB ts f → Fails 0 ItemS BeginsItem tokens f
structure_fails d f = sorted_fails (fails_past (λ rest q c. closed_exact.ended c) (λ m r a. structure_all d a) (λ rest q c less. structure_into d c less) (λ rest q c. structure_back d c) f)

variables_fails : {b : Bool} {x : TypeTree} {tokens ts us : List Token} {f : Failure} → SpellsTainted tokens b ts → is_structure ts ≡ false → SpellsType ts x us → is_function us ≡ false → IsLow 0 (type_reach x) → Fails 0 VariablesS VariablesB us f → Fails 0 ItemS BeginsItem tokens f
variables_fails {x} t tag d none low f = sorted_fails (fails_past (λ rest q c. (side_all {p = type_reach x} variables_exact).ended c) (λ m r a. variables_all t tag d none a) (λ rest q c less. variables_into t tag d none c less) (λ rest q c. variables_back t d c) (fails_side low f))

alone_fails : {k : FunctionKind} {m : Option Mark} {x : ResultForm} {tokens ts us vs : List Token} {f : Failure} → IsAlone k m x → SpellsKind tokens k ts → SpellsOptionalMark ts m us → SpellsResult us x vs → IsLow 0 (result_reach x) → Fails 0 CalledS CalledB vs f → Fails 0 ItemS BeginsItem tokens f
alone_fails {x} a k m d low f = sorted_fails (fails_past (λ rest q c. (side_all {p = result_reach x} called_exact).ended c) (λ ms r b. alone_all a k m d b) (λ rest q c less. alone_into a k m d c less) (λ rest q c. alone_back k m d c) (fails_side low f))

call_fails : {k : FunctionKind} {m : Option Mark} {y : ResultForm} {n : ℕ} {x : List ℕ} {s p : Span} {tokens ts us vs ws : List Token} {f : Failure} → SpellsKind tokens k ts → SpellsOptionalMark ts m us → SpellsResult us y vs → IsLow 0 (result_reach y) → SpellsStars vs n (token (kinds.Name x) s ∷ token kinds.OpenParen p ∷ ws) → Fails 0 InsideS InsideB ws f → Fails 0 ItemS BeginsItem tokens f
call_fails {y} k m d low e f = sorted_fails (fails_past (λ rest q c. (side_all {p = result_reach y} inside_exact).ended c) (λ ms r b. call_all k m d e b) (λ rest q c less. call_into k m d e c less) (λ rest q c. call_back k m d e c) (fails_side low f))

pub item_fails : {tokens : List Token} {f : Failure} → StuckItem tokens f → Fails 0 ItemS BeginsItem tokens f
item_fails stuck.no_room = failing.no_memory
item_fails (stuck.result other k m none f) = sorted_fails (result_fails other k m none f)
item_fails (stuck.members d f) = structure_fails d (fails_before_end members_exact (members_fails f))
item_fails (stuck.structure_end d l low none) = structure_fails d (fails_at_end semicolon_is members_exact (members l) low none)
item_fails (stuck.variables t tag d low none f) = variables_fails t tag d none low (fails_before_end declarators_exact (declarators_fails zero_low f))
item_fails (stuck.variables_end t d low none l high other) = variables_fails t (no_structure d (brace_free _ (declarators_name l))) d none low (fails_at_end semicolon_is declarators_exact (declarators l) high other)
item_fails (stuck.function_name k m d low a e none) = alone_fails a k m d low (fails_in_lead opened_exact inside_exact (fails_before_end named_exact (fails_at_end name_is stars_exact (stars e) zero_low none)))
item_fails (stuck.function_open k m d low a e none) = alone_fails a k m d low (fails_in_lead opened_exact inside_exact (fails_at_end (is_it open_paren refl) named_exact (end (stars e) name) zero_low none))
item_fails (stuck.function_parameters k m d low e f) = call_fails k m d low e (fails_first parameters_exact ending_exact (parameters_fails f))
item_fails (stuck.function_bounds k m d low e p high f) = call_fails k m d low e (fails_second parameters_exact ending_exact (taken p) high (fails_first optional_bounds_exact body_exact (optional_bounds_fails zero_low f)))
item_fails (stuck.function_body k m d low e p high w high' f) = call_fails k m d low e (fails_second parameters_exact ending_exact (taken p) high (fails_second optional_bounds_exact body_exact (bounded w) high' (body_fails f)))
