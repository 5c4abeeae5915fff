-- Each part of the front end is exact, so the whole is.
use Rattle.std.proofs.Common.{◌≡◌, ℕ, ◌≤◌, true, false, List, length, Option, Some, None, Result, Ok, Err, refl, sym, ◌∙◌, subst}
use Rattle.ckc_text.specs.declared.fault.SourceFault.{SourceFault}
use Rattle.ckc_text.specs.declared.fault.Refused.{Refused}
use Rattle.ckc_text.specs.declared.fault.Refused.TheVariants.{Source, NoMemory}
use Rattle.ckc_text.specs.Refusals as refusals
use Rattle.ckc_text.specs.Places.{place_at}
use Rattle.ckc_lexer.specs.Tokens.{cut, AreTokens, HasFault, LexAnswers}
use Rattle.ckc_lexer.specs.declared.token.Token.{Token}
use Rattle.ckc_lexer.proofs.Cuts.{same_answer}
use Rattle.ckc_tree.specs.Items.{Tree}
use Rattle.ckc_parser_grammar.specs.Parsing.{IsTree, IsFault, ParseAnswers}
use Rattle.ckc_parser_grammar.proofs.OneItem.{at_most_one_tree}
use Rattle.ckc_parser_grammar.proofs.OneFault.{at_most_one_fault, never_both}
use Rattle.built_forms.specs.Built.{is_built}
use Rattle.ckc_names_rules.specs.Naming.{NamedTree, naming_fault, named_of, Names}
use Rattle.region_typing_rules.specs.Verdicts.{Verdict, Passes, Breaks}
use Rattle.region_typing_rules.specs.Cores.{checked, CheckAnswers}
use Rattle.ckc_core.specs.declared.program as code
use Rattle.ckc_core.specs.Core.{Core, core}
use Rattle.ccbox_call.specs.Acceptance.{HasTree, Accepts, IsRefused, no_tokens, no_tree, not_built, misnamed, breaks, FrontAnswers}

-- ---- a source has one list of tokens and one tree, or one fault of these

module _ {src : List ℕ} where
  same_tokens : {tokens others : List Token} → AreTokens src tokens → AreTokens src others → tokens ≡ others
  same_tokens {tokens} {others} a b = let same : ◌≡◌ {A = Result (List Token) SourceFault} (Ok tokens) (Ok others) = same_answer a b in cc

  tokens_or_fault : {tokens : List Token} {fault : SourceFault} → AreTokens src tokens → HasFault src fault → ⊥
  tokens_or_fault {tokens} {fault} a b = let same : ◌≡◌ {A = Result (List Token) SourceFault} (Ok tokens) (Err fault) = same_answer a b in cc

  same_faults : {fault other : SourceFault} → HasFault src fault → HasFault src other → fault ≡ other
  same_faults {fault} {other} a b = let same : ◌≡◌ {A = Result (List Token) SourceFault} (Err fault) (Err other) = same_answer a b in cc

  module _ {tokens others : List Token} (read : AreTokens src tokens) (again : AreTokens src others) where
    tree_or_fault : {t : Tree} {fault : SourceFault} → IsTree (length src) tokens t → IsFault (length src) others fault → ⊥
    tree_or_fault {t} {fault} a b = never_both (length src) tokens fault t (subst (λ ts. IsFault (length src) ts fault) (same_tokens again read) b) a

    same_tree_faults : {fault other : SourceFault} → IsFault (length src) tokens fault → IsFault (length src) others other → fault ≡ other
    same_tree_faults {fault} {other} a b = at_most_one_fault (length src) tokens fault other a (subst (λ ts. IsFault (length src) ts other) (same_tokens again read) b)

  same_trees : {t u : Tree} → HasTree src t → HasTree src u → t ≡ u
  same_trees {t} {u} a b = at_most_one_tree (length src) a.tokens t u (a.is_tree).spelled (subst (λ ts. IsTree (length src) ts u) (same_tokens b.are_tokens a.are_tokens) b.is_tree).spelled

-- ---- of a tree, what the rest of the front end says is computed

-- a fact of one of two trees that are the same is one of the other
module _ {src : List ℕ} {t u : Tree} (a : HasTree src t) (b : HasTree src u) where
  moved : (P : Tree → Type 0) → P u → P t
  moved P h = subst P (same_trees b a) h

  built_or_not : is_built t ≡ true → is_built u ≡ false → ⊥
  built_or_not has none = let wrong : true ≡ false = sym has ∙ moved (λ x. is_built x ≡ false) none in cc

  named_or_not : {fault : SourceFault} → naming_fault t ≡ None → naming_fault u ≡ Some fault → ⊥
  named_or_not {fault} has none = let wrong : ◌≡◌ {A = Option SourceFault} None (Some fault) = sym has ∙ moved (λ x. naming_fault x ≡ Some fault) none in cc

  same_names : {fault other : SourceFault} → naming_fault t ≡ Some fault → naming_fault u ≡ Some other → fault ≡ other
  same_names {fault} {other} f g = let same : ◌≡◌ {A = Option SourceFault} (Some fault) (Some other) = sym f ∙ moved (λ x. naming_fault x ≡ Some other) g in cc

  passes_or_breaks : {c : Core} {fault : SourceFault} → checked (place_at src) (named_of t) ≡ Passes c → checked (place_at src) (named_of u) ≡ Breaks fault → ⊥
  passes_or_breaks {c} {fault} has none = let wrong : ◌≡◌ {A = Verdict Core} (Passes c) (Breaks fault) = sym has ∙ moved (λ x. checked (place_at src) (named_of x) ≡ Breaks fault) none in cc

  same_breaks : {fault other : SourceFault} → checked (place_at src) (named_of t) ≡ Breaks fault → checked (place_at src) (named_of u) ≡ Breaks other → fault ≡ other
  same_breaks {fault} {other} f g = let same : ◌≡◌ {A = Verdict Core} (Breaks fault) (Breaks other) = sym f ∙ moved (λ x. checked (place_at src) (named_of x) ≡ Breaks other) g in cc

  same_cores : {c d : Core} → checked (place_at src) (named_of t) ≡ Passes c → checked (place_at src) (named_of u) ≡ Passes d → c ≡ d
  same_cores {c} {d} f g = let same : ◌≡◌ {A = Verdict Core} (Passes c) (Passes d) = sym f ∙ moved (λ x. checked (place_at src) (named_of x) ≡ Passes d) g in cc

-- ---- the whole

-- a source has one core
pub one_core : (src : List ℕ) (c d : Core) → Accepts src c → Accepts src d → c ≡ d
one_core src c d a b = same_cores a.has_tree b.has_tree (a.has_core).rules (b.has_core).rules

-- or it is refused
pub core_or_fault : {src : List ℕ} {c : Core} {fault : SourceFault} → Accepts src c → IsRefused src fault → ⊥
core_or_fault a (no_tokens f) = tokens_or_fault (a.has_tree).are_tokens f
core_or_fault a (no_tree tokens read f) = tree_or_fault (a.has_tree).are_tokens read (a.has_tree).is_tree f
core_or_fault a (not_built t has none) = built_or_not a.has_tree has a.forms none
core_or_fault a (misnamed t has built f) = named_or_not a.has_tree has (a.has_core).names f
core_or_fault a (breaks t has built named f) = passes_or_breaks a.has_tree has (a.has_core).rules f

-- with one fault
pub one_refusal : {src : List ℕ} {fault other : SourceFault} → IsRefused src fault → IsRefused src other → fault ≡ other
one_refusal (no_tokens f) (no_tokens g) = same_faults f g
one_refusal (no_tokens f) (no_tree tokens read g) = absurd (tokens_or_fault read f)
one_refusal (no_tokens f) (not_built t has none) = absurd (tokens_or_fault has.are_tokens f)
one_refusal (no_tokens f) (misnamed t has built g) = absurd (tokens_or_fault has.are_tokens f)
one_refusal (no_tokens f) (breaks t has built named g) = absurd (tokens_or_fault has.are_tokens f)
one_refusal (no_tree tokens read f) (no_tokens g) = absurd (tokens_or_fault read g)
one_refusal (no_tree tokens read f) (no_tree others again g) = same_tree_faults read again f g
one_refusal (no_tree tokens read f) (not_built t has none) = absurd (tree_or_fault has.are_tokens read has.is_tree f)
one_refusal (no_tree tokens read f) (misnamed t has built g) = absurd (tree_or_fault has.are_tokens read has.is_tree f)
one_refusal (no_tree tokens read f) (breaks t has built named g) = absurd (tree_or_fault has.are_tokens read has.is_tree f)
one_refusal (not_built t has none) (no_tokens g) = absurd (tokens_or_fault has.are_tokens g)
one_refusal (not_built t has none) (no_tree tokens read g) = absurd (tree_or_fault has.are_tokens read has.is_tree g)
one_refusal (not_built t has none) (not_built u has' none') = refl
one_refusal (not_built t has none) (misnamed u has' built g) = absurd (built_or_not has' has built none)
one_refusal (not_built t has none) (breaks u has' built named g) = absurd (built_or_not has' has built none)
one_refusal (misnamed t has built f) (no_tokens g) = absurd (tokens_or_fault has.are_tokens g)
one_refusal (misnamed t has built f) (no_tree tokens read g) = absurd (tree_or_fault has.are_tokens read has.is_tree g)
one_refusal (misnamed t has built f) (not_built u has' none) = absurd (built_or_not has has' built none)
one_refusal (misnamed t has built f) (misnamed u has' built' g) = same_names has has' f g
one_refusal (misnamed t has built f) (breaks u has' built' named g) = absurd (named_or_not has' has named f)
one_refusal (breaks t has built named f) (no_tokens g) = absurd (tokens_or_fault has.are_tokens g)
one_refusal (breaks t has built named f) (no_tree tokens read g) = absurd (tree_or_fault has.are_tokens read has.is_tree g)
one_refusal (breaks t has built named f) (not_built u has' none) = absurd (built_or_not has has' built none)
one_refusal (breaks t has built named f) (misnamed u has' built' g) = absurd (named_or_not has has' named g)
one_refusal (breaks t has built named f) (breaks u has' built' named' g) = same_breaks has has' f g

-- a source with tokens isn't too long
pub tokens_short : {src : List ℕ} {tokens : List Token} → AreTokens src tokens → length src ≤ 1048576
tokens_short (cut short c) = short

-- ---- what the parts answer is what the front end does

-- bytes that have no tokens
pub lex_refuses : (src : List ℕ) (e : Refused) → LexAnswers src (Err e) → FrontAnswers src (Err e)
lex_refuses src (Source fault) h = no_tokens h
lex_refuses src NoMemory h = tt

-- tokens that spell no tree
pub parse_refuses : (src : List ℕ) (tokens : List Token) → AreTokens src tokens → (e : Refused) → ParseAnswers (length src) tokens (Err e) → FrontAnswers src (Err e)
parse_refuses src tokens read (Source fault) h = no_tree tokens read h
parse_refuses src tokens read NoMemory h = tt

-- tokens that spell a tree
pub has_tree : {src : List ℕ} {tokens items : List Token} {t : Tree} → AreTokens src items → tokens ≡ items → IsTree (length src) tokens t → HasTree src t
has_tree {src} {tokens} {items} {t} read same is = record { tokens = items; are_tokens = read; is_tree = subst (λ ts. IsTree (length src) ts t) same is }

module _ (src : List ℕ) (t : Tree) (has : HasTree src t) where
  -- a tree with a form that isn't built
  pub forms_refuse : (e : Refused) → e ≡ Source refusals.not_built → is_built t ≡ false → FrontAnswers src (Err e)
  forms_refuse e is none = rw is (not_built t has none)

  module _ (built : is_built t ≡ true) where
    -- a name without a meaning
    pub names_refuse : {N : Type 0} (view : N → NamedTree) (e : Refused) → Names view t (Err e) → FrontAnswers src (Err e)
    names_refuse view (Source fault) h = misnamed t has built h
    names_refuse view NoMemory h = tt

    -- a program that keeps all rules, or breaks one
    pub check_answers : {N : Type 0} (view : N → NamedTree) (named : N) → Names view t (Ok named) → (r : Result code.Core.Core Refused) → CheckAnswers core (place_at src) (view named) r → FrontAnswers src r
    check_answers view named names r h = by r (subst (λ n. CheckAnswers core (place_at src) n r) names.1 h)
      where
        by : (r : Result code.Core.Core Refused) → CheckAnswers core (place_at src) (named_of t) r → FrontAnswers src r
        by (Ok c) kept = record { tree = t; has_tree = has; forms = built; has_core = record { forms = built; names = names.0; rules = kept } }
        by (Err (Source fault)) broken = breaks t has built names.0 broken
        by (Err NoMemory) nothing = tt
