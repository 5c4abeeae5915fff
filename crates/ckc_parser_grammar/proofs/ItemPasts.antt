-- What an item goes on with past the tokens that say which it is: a structure behind its brace, a function behind its
-- result or its parenthesis, variables behind their type.
use Rattle.std.proofs.Common.{◌≡◌, ◌≤◌, ◌<◌, ℕ, length, Bool, true, false, List, [], ◌∷◌, Option, refl, sym, ap, subst, arith, true≢false}
use Rattle.ckc_text.specs.declared.place.Span.{Span}
use Rattle.ckc_lexer.specs.declared.token.Token.{Token}
use Rattle.ckc_lexer.specs.declared.token.TokenKind.{TokenKind}
use Rattle.ckc_lexer.specs.declared.keyword.Keyword.TheVariants as keywords
use Rattle.ckc_lexer.specs.declared.token.TokenKind.TheVariants as kinds
use Rattle.ckc_tree.specs.declared.stmt.Mark.{Mark}
use Rattle.ckc_tree.specs.declared.item.FunctionKind.{FunctionKind}
use Rattle.ckc_tree.specs.Types.{TypeTree}
use Rattle.ckc_tree.specs.Items.{ResultForm}
use Rattle.ckc_tree.specs.Heights.{Reach, type_reach, result_reach}
use Rattle.ckc_parser_grammar.specs.Tokens.{token, next_is, mark_word, kind_word}
use Rattle.ckc_parser_grammar.specs.TypeGrammar as tg
use Rattle.ckc_parser_grammar.specs.TypeGrammar.{SpellsStars, SpellsType}
use Rattle.ckc_parser_grammar.specs.TypeBeginnings as tb
use Rattle.ckc_parser_grammar.specs.TypeBeginnings.{BeginsStars}
use Rattle.ckc_parser_grammar.specs.StatementGrammar as sg
use Rattle.ckc_parser_grammar.specs.StatementBeginnings as sb
use Rattle.ckc_parser_grammar.specs.StatementBeginnings.{BeginsDeclarators}
use Rattle.ckc_parser_grammar.specs.ItemGrammar as g
use Rattle.ckc_parser_grammar.specs.ItemGrammar.{SpellsTainted, SpellsKind, SpellsOptionalMark, SpellsResult}
use Rattle.ckc_parser_grammar.specs.StuckTypes.{type_word}
use Rattle.ckc_parser_grammar.specs.StuckItems as stuck
use Rattle.ckc_parser_grammar.specs.StuckItems.{is_structure, is_function, IsAlone}
use Rattle.ckc_parser_grammar.proofs.Roles.{role, role_at, type_role, mark_role}
use Rattle.ckc_parser_grammar.proofs.OneItem.{plain_kind, plain, value_type, names_at, stars_name, declarator_name, declarators_name, struct_rest, not_call, structure_function, global_function, scope_global, scope_function}
use Rattle.ckc_parser_grammar.proofs.Forms.{end_length, Is, it, IsName, name, seq, in_first, in_second, before_end, end, AfterS, AfterB, not_yet, after}
use Rattle.ckc_parser_grammar.proofs.Ahead.{never}
use Rattle.ckc_parser_grammar.proofs.TypeForms.{stars, type, type_exact}
use Rattle.ckc_parser_grammar.proofs.MoreForms.{by_next, lead, in_lead, behind_lead, SideS, side}
use Rattle.ckc_parser_grammar.proofs.Starting.{type_starts, type_at, type_shorter}
use Rattle.ckc_parser_grammar.proofs.DeclarationForms.{declarators, declarators_exact}
use Rattle.ckc_parser_grammar.proofs.Pasts.{lead_past, lead_whole, seq_past, seq_whole, after_past, after_whole}
use Rattle.ckc_parser_grammar.proofs.ItemForms.{tainted, tainted_exact, kinded, kind_exact, marked, mark_exact, returned, result_exact, opened_exact, InsideS, InsideB, CalledS, CalledB, FunctionS, FunctionB, VariablesS, VariablesB, TypedB, ClosedS, ClosedB, TaggedB, SortedS, SortedB, region, structure, global, function}

-- ---- lengths and first tokens

pub type_less : {ts m : List Token} {x : TypeTree} → SpellsType ts x m → length m < length ts
type_less d = type_shorter _ _ _ (type d)

pub tainted_less : {b : Bool} {tokens ts : List Token} → SpellsTainted tokens b ts → length ts ≤ length tokens
tainted_less t = end_length (tainted_exact.ended (tainted t))

pub mark_less : {m : Option Mark} {ts us : List Token} → SpellsOptionalMark ts m us → length us ≤ length ts
mark_less m = end_length (mark_exact.ended (mark_exact.spelled (marked m)))

pub result_less : {x : ResultForm} {us vs : List Token} → SpellsResult us x vs → length vs < length us
result_less g.void = omega arith
result_less (g.value d) = type_less d

name_less : {n : ℕ} {x : List ℕ} {s p : Span} {vs ws : List Token} → SpellsStars vs n (token (kinds.Name x) s ∷ token kinds.OpenParen p ∷ ws) → length ws < length vs
name_less (tg.none f) = omega arith
name_less (tg.more st) = omega (arith, name_less st)

-- what stands behind a word that makes an item tainted is no shorter than what stands behind that of a function
pub tainted_long : {b : Bool} {k : FunctionKind} {tokens ts us : List Token} → SpellsTainted tokens b ts → SpellsKind tokens k us → length us ≤ length ts
tainted_long (g.absent f) (g.trusted f') = omega arith
tainted_long (g.absent f) g.tainted = omega arith
tainted_long (g.absent f) g.callback = omega arith
tainted_long g.present (g.trusted f) = absurd cc
tainted_long g.present g.tainted = omega arith

pub typed_role : (ts : List Token) → next_is type_word ts ≡ true → role_at ts ≡ 1
typed_role [] so = absurd cc
typed_role (t ∷ ts) so = by_kind t.kind so
  where
    by_kind : (k : TokenKind) → type_word k ≡ true → role k ≡ 1
    by_kind (kinds.Keyword keywords.Int) so = refl
    by_kind (kinds.Keyword keywords.Char) so = refl
    by_kind (kinds.Keyword keywords.Struct) so = refl
    by_kind (kinds.Keyword keywords.Ptr) so = refl
    by_kind (kinds.Keyword keywords.ArrayPtr) so = refl
    by_kind (kinds.Keyword keywords.NtArrayPtr) so = refl
    by_kind (kinds.Keyword keywords.TPtr) so = refl
    by_kind (kinds.Keyword keywords.TArrayPtr) so = refl
    by_kind (kinds.Keyword keywords.TNtArrayPtr) so = refl
    by_kind _ so = absurd (true≢false (sym so))

not_kind : (ts : List Token) → next_is type_word ts ≡ true → next_is kind_word ts ≡ false
not_kind [] so = absurd cc
not_kind (t ∷ ts) so = by_kind t.kind so
  where
    by_kind : (k : TokenKind) → type_word k ≡ true → kind_word k ≡ false
    by_kind (kinds.Keyword keywords.Tainted) so = absurd cc
    by_kind (kinds.Keyword keywords.Callback) so = absurd cc
    by_kind _ so = refl

not_mark : (ts : List Token) → next_is type_word ts ≡ true → next_is mark_word ts ≡ false
not_mark [] so = absurd cc
not_mark (t ∷ ts) so = by_kind t.kind so
  where
    by_kind : (k : TokenKind) → type_word k ≡ true → mark_word k ≡ false
    by_kind (kinds.Keyword keywords.Checked) so = absurd cc
    by_kind (kinds.Keyword keywords.Unchecked) so = absurd cc
    by_kind _ so = refl

-- the words before an item that begins with a type, as those of a function
kind_of : {b : Bool} {tokens ts : List Token} → SpellsTainted tokens b ts → next_is type_word ts ≡ true → (k : FunctionKind) × SpellsKind tokens k ts
kind_of {ts} (g.absent f) so = (_, g.trusted (not_kind ts so))
kind_of g.present so = (_, g.tainted)

-- ---- what goes on behind a result or a type

pub function_past : {k : FunctionKind} {m : Option Mark} {x : ResultForm} {tokens ts us vs rest : List Token} {q : Reach} → SpellsKind tokens k ts → SpellsOptionalMark ts m us → SpellsResult us x vs → FunctionB tokens rest q → length rest < length vs → SideS (result_reach x) CalledB vs rest q
function_past k m d c less =
    let marked_less = mark_less m in
    let returned_less = result_less d in
    let behind_kind = lead_past kind_exact (kinded k) c (omega (arith, less, marked_less, returned_less)) in
    let behind_mark = lead_past mark_exact (marked m) behind_kind (omega (arith, less, returned_less)) in
    seq_past result_exact (returned d) behind_mark less

pub function_all : {k : FunctionKind} {m : Option Mark} {x : ResultForm} {tokens ts us vs ms : List Token} {r : Reach} → SpellsKind tokens k ts → SpellsOptionalMark ts m us → SpellsResult us x vs → FunctionS tokens ms r → SideS (result_reach x) CalledS vs ms r
function_all k m d a = seq_whole result_exact (returned d) (lead_whole mark_exact (marked m) (lead_whole kind_exact (kinded k) a))

typed_past : {b : Bool} {x : TypeTree} {tokens ts us rest : List Token} {q : Reach} → SpellsTainted tokens b ts → SpellsType ts x us → FunctionB tokens rest q → length rest < length us → SideS (type_reach x) CalledB us rest q
typed_past {ts} t d c less = function_past (kind_of t (type_at d)).1 (g.absent (not_mark ts (type_at d))) (g.value d) c less

typed_all : {b : Bool} {x : TypeTree} {tokens ts us ms : List Token} {r : Reach} → SpellsTainted tokens b ts → SpellsType ts x us → FunctionS tokens ms r → SideS (type_reach x) CalledS us ms r
typed_all {ts} t d a = function_all (kind_of t (type_at d)).1 (g.absent (not_mark ts (type_at d))) (g.value d) a

-- ---- what begins with neither a star nor a name

stars_none : {ts rest : List Token} → BeginsStars ts rest → names_at ts ≡ false → rest ≡ ts
stars_none tb.nothing none = refl
stars_none (tb.more c) none = absurd cc

declarators_none : {ts rest : List Token} {q : Reach} → BeginsDeclarators ts rest q → names_at ts ≡ false → rest ≡ ts
declarators_none (sb.first (sb.stars c)) none = stars_none c none
declarators_none (sb.first (sb.array st c)) none = never (stars_name st) none
declarators_none (sb.first (sb.bounds st a c)) none = never (stars_name st) none
declarators_none (sb.first (sb.initializer st a w c)) none = never (stars_name st) none
declarators_none (sb.others d c) none = never (declarator_name d) none

variables_none : {ts rest : List Token} {p q : Reach} → SideS p VariablesB ts rest q → names_at ts ≡ false → rest ≡ ts
variables_none (side (before_end c)) none = declarators_none c none
variables_none (side (end (declarators l) it)) none = never (declarators_name l) none

called_none : {ts rest : List Token} {p q : Reach} → SideS p CalledB ts rest q → names_at ts ≡ false → rest ≡ ts
called_none (side (in_lead (before_end (before_end (stars c))))) none = stars_none c none
called_none (side (in_lead (before_end (end (stars st) name)))) none = never (stars_name st) none
called_none (side (in_lead (end (end (stars st) name) it))) none = never (stars_name st) none
called_none (side (behind_lead (end (end (stars st) name) it) c)) none = never (stars_name st) none

-- ---- structures, behind the brace

pub structure_into : {b : Bool} {x : List ℕ} {s t p : Span} {tokens ts rest : List Token} {q : Reach} → SpellsTainted tokens b (token (kinds.Keyword keywords.Struct) s ∷ token (kinds.Name x) t ∷ token kinds.OpenBrace p ∷ ts) → SortedB tokens rest q → length rest < length ts → ClosedB ts rest q
structure_into d region less = elim d [ ]
structure_into d (structure c) less = after_past (after_past (after_past (lead_past tainted_exact (tainted d) c (omega (arith, less))) (omega (arith, less))) (omega (arith, less))) (omega (arith, less))
structure_into d (global c) less =
    let behind = seq_past type_exact (type tg.struct) (lead_past tainted_exact (tainted d) c (omega (arith, less))) (omega (arith, less)) in
    absurd (omega (arith, less, ap length (variables_none behind refl)))
structure_into d (function c) less =
    let behind = typed_past d tg.struct c (omega (arith, less)) in
    absurd (omega (arith, less, ap length (called_none behind refl)))

no_variables : {ts m : List Token} {p r : Reach} → SideS p VariablesS ts m r → names_at ts ≡ true
no_variables (side (end (declarators l) it)) = declarators_name l

no_called : {ts m : List Token} {p r : Reach} → SideS p CalledS ts m r → names_at ts ≡ true
no_called (side (lead (end (end (stars st) name) it) a)) = stars_name st

pub structure_all : {b : Bool} {x : List ℕ} {s t p : Span} {tokens ts m : List Token} {r : Reach} → SpellsTainted tokens b (token (kinds.Keyword keywords.Struct) s ∷ token (kinds.Name x) t ∷ token kinds.OpenBrace p ∷ ts) → SortedS tokens m r → ClosedS ts m r
structure_all d region = elim d [ ]
structure_all d (structure a) = after_whole (after_whole (after_whole (lead_whole tainted_exact (tainted d) a)))
structure_all d (global a) = never (no_variables (seq_whole type_exact (type tg.struct) (lead_whole tainted_exact (tainted d) a))) refl
structure_all d (function a) = never (no_called (typed_all d tg.struct a)) refl

pub structure_back : {b : Bool} {x : List ℕ} {s t p : Span} {tokens ts rest : List Token} {q : Reach} → SpellsTainted tokens b (token (kinds.Keyword keywords.Struct) s ∷ token (kinds.Name x) t ∷ token kinds.OpenBrace p ∷ ts) → ClosedB ts rest q → SortedB tokens rest q
structure_back d c = structure (behind_lead (tainted d) (after it (after name (after it c))))

-- ---- variables, behind the type

pub function_at : {n : ℕ} {x : List ℕ} {s p : Span} {us ws : List Token} → SpellsStars us n (token (kinds.Name x) s ∷ token kinds.OpenParen p ∷ ws) → is_function us ≡ true
function_at (tg.none f) = refl
function_at (tg.more st) = function_at st

-- what a function goes on with, where no parenthesis stands behind a name, variables go on with
called_variables : {ts rest : List Token} {p q : Reach} → is_function ts ≡ false → SideS p CalledB ts rest q → SideS p VariablesB ts rest q
called_variables none (side (in_lead (before_end (before_end (stars c))))) = side (before_end (sb.first (sb.stars c)))
called_variables none (side (in_lead (before_end (end (stars st) name)))) = side (before_end (sb.first (sb.array st sb.nothing)))
called_variables none (side (in_lead (end (end (stars st) name) it))) = never (function_at st) none
called_variables none (side (behind_lead (end (end (stars st) name) it) c)) = never (function_at st) none

called_function : {ts m : List Token} {p r : Reach} → SideS p CalledS ts m r → is_function ts ≡ true
called_function (side (lead (end (end (stars st) name) it) a)) = function_at st

-- no structure has its brace behind a type
structure_type : {ts us rest : List Token} {x : TypeTree} {q : Reach} → is_structure ts ≡ false → SpellsType ts x us → AfterB (Is (kinds.Keyword keywords.Struct)) TaggedB ts rest q → length rest < length us → ⊥
structure_type none d not_yet less = absurd (omega (arith, less, type_less d))
structure_type none d (after it not_yet) less = absurd (omega (arith, less, type_less d))
structure_type none d (after it (after name not_yet)) less = absurd (omega (arith, less, ap length (struct_rest refl d)))
structure_type none d (after it (after name (after it c))) less = absurd cc

structure_whole_type : {ts us m : List Token} {x : TypeTree} {r : Reach} → is_structure ts ≡ false → SpellsType ts x us → AfterS (Is (kinds.Keyword keywords.Struct)) (AfterS IsName (AfterS (Is kinds.OpenBrace) ClosedS)) ts m r → ⊥
structure_whole_type none d (after it (after name (after it a))) = absurd cc

pub variables_into : {b : Bool} {x : TypeTree} {tokens ts us rest : List Token} {q : Reach} → SpellsTainted tokens b ts → is_structure ts ≡ false → SpellsType ts x us → is_function us ≡ false → SortedB tokens rest q → length rest < length us → SideS (type_reach x) VariablesB us rest q
variables_into t plain_type d none region less = absurd (scope_global t d)
variables_into t plain_type d none (structure c) less = absurd (structure_type plain_type d (lead_past tainted_exact (tainted t) c (omega (arith, less, type_less d))) less)
variables_into t plain_type d none (global c) less = seq_past type_exact (type d) (lead_past tainted_exact (tainted t) c (omega (arith, less, type_less d))) less
variables_into t plain_type d none (function c) less = called_variables none (typed_past t d c less)

pub variables_all : {b : Bool} {x : TypeTree} {tokens ts us m : List Token} {r : Reach} → SpellsTainted tokens b ts → is_structure ts ≡ false → SpellsType ts x us → is_function us ≡ false → SortedS tokens m r → SideS (type_reach x) VariablesS us m r
variables_all t plain_type d none region = absurd (scope_global t d)
variables_all t plain_type d none (structure a) = absurd (structure_whole_type plain_type d (lead_whole tainted_exact (tainted t) a))
variables_all t plain_type d none (global a) = seq_whole type_exact (type d) (lead_whole tainted_exact (tainted t) a)
variables_all t plain_type d none (function a) = never (called_function (typed_all t d a)) none

pub variables_back : {b : Bool} {x : TypeTree} {tokens ts us rest : List Token} {q : Reach} → SpellsTainted tokens b ts → SpellsType ts x us → SideS (type_reach x) VariablesB us rest q → SortedB tokens rest q
variables_back t d (side c) = global (behind_lead (tainted t) (in_second (type d) c))

-- ---- functions

-- what is read no further than the words before an item
pub short : {b : Bool} {k : FunctionKind} {m : Option Mark} {x : ResultForm} {tokens ts ts' us vs rest : List Token} {A : Type 0} → SpellsTainted tokens b ts' → SpellsKind tokens k ts → SpellsOptionalMark ts m us → SpellsResult us x vs → rest ≡ ts' → length rest < length vs → A
short t k m d same less = absurd (omega (arith, less, ap length same, tainted_long t k, mark_less m, result_less d))

pub typed_none : {ts rest : List Token} {q : Reach} → TypedB ts rest q → next_is type_word ts ≡ false → rest ≡ ts
typed_none (in_first c) none = type_starts.none c none
typed_none (in_second (type d) c) none = never (type_at d) none

-- what stands before a function alone is followed by no type of another item
alone_typed : {b : Bool} {k : FunctionKind} {m : Option Mark} {x : ResultForm} {tokens ts ts' us vs : List Token} → IsAlone k m x → SpellsTainted tokens b ts' → SpellsKind tokens k ts → SpellsOptionalMark ts m us → SpellsResult us x vs → role_at ts' ≡ 1 → ⊥
alone_typed stuck.callback (g.absent f) g.callback m d typed = absurd (omega (arith, typed))
alone_typed stuck.callback g.present k m d typed = elim k [ ]
alone_typed stuck.marked t k (g.present {k = j} w) d typed = absurd (omega (arith, typed, ap role_at (plain_kind t k typed), mark_role j w))
alone_typed stuck.void t k m g.void typed = absurd (omega (arith, typed, ap role_at (plain t k m typed)))

alone_structure : {b : Bool} {k : FunctionKind} {m : Option Mark} {x : ResultForm} {tokens ts ts' us vs rest : List Token} {q : Reach} → IsAlone k m x → SpellsTainted tokens b ts' → SpellsKind tokens k ts → SpellsOptionalMark ts m us → SpellsResult us x vs → AfterB (Is (kinds.Keyword keywords.Struct)) TaggedB ts' rest q → length rest < length vs → ⊥
alone_structure a t k m d not_yet less = short t k m d refl less
alone_structure a t k m d (after it c) less = alone_typed a t k m d refl

pub alone_into : {k : FunctionKind} {m : Option Mark} {x : ResultForm} {tokens ts us vs rest : List Token} {q : Reach} → IsAlone k m x → SpellsKind tokens k ts → SpellsOptionalMark ts m us → SpellsResult us x vs → SortedB tokens rest q → length rest < length vs → SideS (result_reach x) CalledB vs rest q
alone_into a k m d region less = absurd (scope_function k m d)
alone_into a k m d (structure (in_lead (tainted t))) less = short t k m d refl less
alone_into a k m d (structure (behind_lead (tainted t) c)) less = absurd (alone_structure a t k m d c less)
alone_into a k m d (global (in_lead (tainted t))) less = short t k m d refl less
alone_into a k m d (global (behind_lead {mid} (tainted t) c)) less = by_next type_word mid (λ so. absurd (alone_typed a t k m d (typed_role mid so))) (λ none. short t k m d (typed_none c none) less)
alone_into a k m d (function c) less = function_past k m d c less

pub alone_all : {k : FunctionKind} {m : Option Mark} {x : ResultForm} {tokens ts us vs ms : List Token} {r : Reach} → IsAlone k m x → SpellsKind tokens k ts → SpellsOptionalMark ts m us → SpellsResult us x vs → SortedS tokens ms r → SideS (result_reach x) CalledS vs ms r
alone_all a k m d region = absurd (scope_function k m d)
alone_all a k m d (structure (lead (tainted t) (after it c))) = absurd (alone_typed a t k m d refl)
alone_all a k m d (global (lead (tainted t) (seq (type e) c))) = absurd (alone_typed a t k m d (type_role e))
alone_all a k m d (function c) = function_all k m d c

pub alone_back : {k : FunctionKind} {m : Option Mark} {x : ResultForm} {tokens ts us vs rest : List Token} {q : Reach} → SpellsKind tokens k ts → SpellsOptionalMark ts m us → SpellsResult us x vs → SideS (result_reach x) CalledB vs rest q → SortedB tokens rest q
alone_back k m d (side c) = function (behind_lead (kinded k) (behind_lead (marked m) (in_second (returned d) c)))

-- ---- functions, behind the parenthesis

-- variables end before the parenthesis
past_call : {n : ℕ} {x : List ℕ} {s p : Span} {vs ws rest : List Token} {o q : Reach} → SpellsStars vs n (token (kinds.Name x) s ∷ token kinds.OpenParen p ∷ ws) → SideS o VariablesB vs rest q → length rest < length ws → ⊥
past_call st (side (before_end c)) less = absurd (omega (arith, less, end_length (declarators_exact.longest (declarators (sg.one (sg.declarator st (sg.absent refl) (sg.absent refl) (sg.absent refl)) refl)) c)))
past_call st (side (end (declarators l) it)) less = not_call st l

-- behind the words before an item stands a structure that goes no further
call_structure : {b : Bool} {k : FunctionKind} {m : Option Mark} {y : ResultForm} {n : ℕ} {x : List ℕ} {s p : Span} {tokens ts ts' us vs ws rest : List Token} {q : Reach} → SpellsTainted tokens b ts' → SpellsKind tokens k ts → SpellsOptionalMark ts m us → SpellsResult us y vs → SpellsStars vs n (token (kinds.Name x) s ∷ token kinds.OpenParen p ∷ ws) → AfterB (Is (kinds.Keyword keywords.Struct)) TaggedB ts' rest q → length rest < length vs → ⊥
call_structure t k m d st not_yet less = short t k m d refl less
call_structure t k m d st (after it not_yet) less = absurd (omega (arith, less, result_less d, ap length (plain t k m refl)))
call_structure t k m d st (after it (after name not_yet)) less =
    let same = plain t k m refl in
    let value = value_type d (subst (λ (y : List Token). role_at y ≡ 1) same refl) in
    absurd (omega (arith, less, ap length (struct_rest (sym same) value.1)))
call_structure t k m d st (after it (after name (after it c))) less = structure_function t k m d st

call_global : {b : Bool} {k : FunctionKind} {m : Option Mark} {y : ResultForm} {n : ℕ} {x : List ℕ} {s p : Span} {tokens ts ts' us vs ws rest : List Token} {q : Reach} → SpellsTainted tokens b ts' → SpellsKind tokens k ts → SpellsOptionalMark ts m us → SpellsResult us y vs → SpellsStars vs n (token (kinds.Name x) s ∷ token kinds.OpenParen p ∷ ws) → TypedB ts' rest q → next_is type_word ts' ≡ true → length rest < length ws → ⊥
call_global {ts'} {us} {rest} {q} t k m d st c so less =
    let typed = typed_role ts' so in
    let same = plain t k m typed in
    let value = value_type d (subst (λ (y : List Token). role_at y ≡ 1) same typed) in
    past_call st (seq_past type_exact (type value.1) (subst (λ (y : List Token). TypedB y rest q) same c) (omega (arith, less, name_less st))) less

pub call_into : {k : FunctionKind} {m : Option Mark} {y : ResultForm} {n : ℕ} {x : List ℕ} {s p : Span} {tokens ts us vs ws rest : List Token} {q : Reach} → SpellsKind tokens k ts → SpellsOptionalMark ts m us → SpellsResult us y vs → SpellsStars vs n (token (kinds.Name x) s ∷ token kinds.OpenParen p ∷ ws) → SortedB tokens rest q → length rest < length ws → SideS (result_reach y) InsideB ws rest q
call_into k m d st region less = absurd (scope_function k m d)
call_into k m d st (structure (in_lead (tainted t))) less = short t k m d refl (omega (arith, less, name_less st))
call_into k m d st (structure (behind_lead (tainted t) c)) less = absurd (call_structure t k m d st c (omega (arith, less, name_less st)))
call_into k m d st (global (in_lead (tainted t))) less = short t k m d refl (omega (arith, less, name_less st))
call_into k m d st (global (behind_lead {mid} (tainted t) c)) less = by_next type_word mid (λ so. absurd (call_global t k m d st c so less)) (λ none. short t k m d (typed_none c none) (omega (arith, less, name_less st)))
call_into {vs} {ws} {rest} k m d st (function c) less = behind_name (function_past k m d c (omega (arith, less, name_less st)))
  where
    behind_name : {o q : Reach} → SideS o CalledB vs rest q → SideS o InsideB ws rest q
    behind_name (side e) = side (lead_past opened_exact (end (end (stars st) name) it) e less)

pub call_all : {k : FunctionKind} {m : Option Mark} {y : ResultForm} {n : ℕ} {x : List ℕ} {s p : Span} {tokens ts us vs ws ms : List Token} {r : Reach} → SpellsKind tokens k ts → SpellsOptionalMark ts m us → SpellsResult us y vs → SpellsStars vs n (token (kinds.Name x) s ∷ token kinds.OpenParen p ∷ ws) → SortedS tokens ms r → SideS (result_reach y) InsideS ws ms r
call_all k m d st region = absurd (scope_function k m d)
call_all k m d st (structure (lead (tainted t) (after it (after name (after it c))))) = absurd (structure_function t k m d st)
call_all k m d st (global (lead (tainted t) (seq (type e) (end (declarators l) it)))) = absurd (global_function t e l k m d st)
call_all {vs} {ws} {ms} k m d st (function c) = behind_name (function_all k m d c)
  where
    behind_name : {o q : Reach} → SideS o CalledS vs ms q → SideS o InsideS ws ms q
    behind_name (side e) = side (lead_whole opened_exact (end (end (stars st) name) it) e)

pub call_back : {k : FunctionKind} {m : Option Mark} {y : ResultForm} {n : ℕ} {x : List ℕ} {s p : Span} {tokens ts us vs ws rest : List Token} {q : Reach} → SpellsKind tokens k ts → SpellsOptionalMark ts m us → SpellsResult us y vs → SpellsStars vs n (token (kinds.Name x) s ∷ token kinds.OpenParen p ∷ ws) → SideS (result_reach y) InsideB ws rest q → SortedB tokens rest q
call_back k m d st (side c) = function (behind_lead (kinded k) (behind_lead (marked m) (in_second (returned d) (behind_lead (end (end (stars st) name) it) c))))
