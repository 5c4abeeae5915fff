-- What naming goes through: mentions in a row, those that leave the scopes as they are, and blocks.
use Rattle.std.proofs.Common.{◌≡◌, ℕ, Bool, true, false, List, [], ◌∷◌, ◌++◌, append-nil, Option, Some, None, refl, sym, ap, ◌∙◌, subst}
use Rattle.std.specs.Prelude.{Result, Ok, Err, flat_map}
use Rattle.std.specs.List.{AllByRecursion}
use Rattle.ckc_text.specs.declared.code.Code.{Code}
use Rattle.ckc_text.specs.declared.fault.SourceFault.{SourceFault}
use Rattle.ckc_tree.specs.declared.identifier.Identifier.{Identifier}
use Rattle.ckc_tree.specs.Types.{TypeTree, IntType, CharType, StructType, PointerType}
use Rattle.ckc_tree.specs.Expressions as e
use Rattle.ckc_tree.specs.Expressions.{Expression, Expressions, Bounds}
use Rattle.ckc_tree.specs.Statements as s
use Rattle.ckc_tree.specs.Statements.{Initializer, Declarator, Declaration, Assignment, ForInitial, Statement, Statements}
use Rattle.ckc_names_rules.specs.Mentions.{Mention, Open, Close, Reveal, Declare, DeclareFunction, DeclareTag, Use, Call, UseTag, Select, type_mentions, expression_mentions, expressions_mentions, bounds_mentions, optional_mentions, initializer_mentions, declarator_mentions, declaration_mentions, assignment_mentions, for_initial_mentions, in_block, statement_mentions, statements_mentions}
use Rattle.ckc_names_rules.specs.Scopes.{Meaning, Variable, Block, Scopes, outside, with_entry, standing_for, unless_refused, mentioned, then_mentioned, all_mentioned}

-- ---- mentions in a row

pub mentioned_append : (a b : List Mention) (n m : Scopes) → all_mentioned (a ++ b) n ≡ Ok m → (k : Scopes) × (all_mentioned a n ≡ Ok k) × (all_mentioned b k ≡ Ok m)
mentioned_append [] b n m h = (n, refl, h)
mentioned_append (x ∷ a) b n m h = by (mentioned x n) refl h (λ j h'. mentioned_append a b j m h')
  where
    by : (r : Result Scopes SourceFault) → mentioned x n ≡ r → then_mentioned r (all_mentioned (a ++ b)) ≡ Ok m → ((j : Scopes) → all_mentioned (a ++ b) j ≡ Ok m → (k : Scopes) × (all_mentioned a j ≡ Ok k) × (all_mentioned b k ≡ Ok m))
        → (k : Scopes) × (all_mentioned (x ∷ a) n ≡ Ok k) × (all_mentioned b k ≡ Ok m)
    by (Ok j) e h' again = let rest = again j h' in (rest.0, rw e rest.1, rest.2)
    by (Err fault) e h' again = absurd (cc)

-- ---- mentions that leave the scopes as they are

abbrev pub IsQuiet : Mention → Type 0
IsQuiet Open = ⊥
IsQuiet Close = ⊥
IsQuiet (Reveal name) = ⊥
IsQuiet (Declare name) = ⊥
IsQuiet (DeclareFunction name defined) = ⊥
IsQuiet (DeclareTag name) = ⊥
IsQuiet (Use name) = Unit {0}
IsQuiet (Call name) = Unit {0}
IsQuiet (UseTag name) = Unit {0}
IsQuiet (Select name) = Unit {0}

abbrev pub AreQuiet : List Mention → Type 0
AreQuiet mentions = AllByRecursion IsQuiet mentions

-- the mention finds what it names
abbrev pub IsFound : Scopes → Mention → Type 0
IsFound n x = mentioned x n ≡ Ok n

abbrev pub AreFound : Scopes → List Mention → Type 0
AreFound n mentions = AllByRecursion (IsFound n) mentions

ok_same : (n m : Scopes) → all_mentioned [] n ≡ Ok m → n ≡ m
ok_same n m h = cc

-- what isn't refused gives these scopes
pub not_refused : (test : Bool) (code : Code) (name : Identifier) (n m : Scopes) → unless_refused test code name n ≡ Ok m → (test ≡ false) × (m ≡ n)
not_refused true code name n m h = absurd (cc)
not_refused false code name n m h = let same : n ≡ m = cc in (refl, sym same)

quiet_same : (x : Mention) → IsQuiet x → (n m : Scopes) → mentioned x n ≡ Ok m → m ≡ n
quiet_same Open q n m h = absurd q
quiet_same Close q n m h = absurd q
quiet_same (Reveal name) q n m h = absurd q
quiet_same (Declare name) q n m h = absurd q
quiet_same (DeclareFunction name defined) q n m h = absurd q
quiet_same (DeclareTag name) q n m h = absurd q
quiet_same (Use name) q n m h = (not_refused _ _ name n m h).1
quiet_same (Call name) q n m h = (not_refused _ _ name n m h).1
quiet_same (UseTag name) q n m h = (not_refused _ _ name n m h).1
quiet_same (Select name) q n m h = let same : n ≡ m = cc in sym same

-- mentions in front of others
pub quiet_front : (a b : List Mention) → AreQuiet a → (n m : Scopes) → all_mentioned (a ++ b) n ≡ Ok m → AreFound n a × (all_mentioned b n ≡ Ok m)
quiet_front [] b q n m h = (tt, h)
quiet_front (x ∷ a) b q n m h = by (mentioned x n) refl h (λ h'. quiet_front a b q.1 n m h')
  where
    by : (r : Result Scopes SourceFault) → mentioned x n ≡ r → then_mentioned r (all_mentioned (a ++ b)) ≡ Ok m → (all_mentioned (a ++ b) n ≡ Ok m → AreFound n a × (all_mentioned b n ≡ Ok m)) → AreFound n (x ∷ a) × (all_mentioned b n ≡ Ok m)
    by (Ok j) e h' again =
        let same : j ≡ n = quiet_same x q.0 n j e in
        let rest = again (subst (λ k. all_mentioned (a ++ b) k ≡ Ok m) same h') in
        ((e ∙ ap Ok same, rest.0), rest.1)
    by (Err fault) e h' again = absurd (cc)

pub quiet_all : (a : List Mention) → AreQuiet a → (n m : Scopes) → all_mentioned a n ≡ Ok m → AreFound n a × (m ≡ n)
quiet_all a q n m h =
    let whole : all_mentioned (a ++ []) n ≡ Ok m = rw append-nil h in
    let both = quiet_front a [] q n m whole in
    (both.0, sym (ok_same n m both.1))

pub quiet_append : (a b : List Mention) → AreQuiet a → AreQuiet b → AreQuiet (a ++ b)
quiet_append [] b p q = q
quiet_append (x ∷ a) b p q = (p.0, quiet_append a b p.1 q)

pub found_append : (n : Scopes) (a b : List Mention) → AreFound n (a ++ b) → AreFound n a × AreFound n b
found_append n [] b h = (tt, h)
found_append n (x ∷ a) b h = let rest = found_append n a b h.1 in ((h.0, rest.0), rest.1)

pub type_quiet : (t : TypeTree) → AreQuiet (type_mentions t)
type_quiet (IntType span) = tt
type_quiet (CharType span) = tt
type_quiet (StructType tag span) = (tt, tt)
type_quiet (PointerType word element stars span) = type_quiet element

mutual
  pub expression_quiet : (x : Expression) → AreQuiet (expression_mentions x)
  expression_quiet (e.Number value span) = tt
  expression_quiet (e.Character value span) = tt
  expression_quiet (e.Text bytes span) = tt
  expression_quiet (e.Name name) = (tt, tt)
  expression_quiet (e.Call callee arguments span) = (tt, expressions_quiet arguments)
  expression_quiet (e.SizeOf type span) = type_quiet type.base
  expression_quiet (e.Cast word type operand span) = quiet_append (type_mentions type.base) _ (type_quiet type.base) (expression_quiet operand)
  expression_quiet (e.BoundedCast word type operand bounds span) =
      quiet_append (type_mentions type.base) _ (type_quiet type.base) (quiet_append (expression_mentions operand) _ (expression_quiet operand) (bounds_quiet bounds))
  expression_quiet (e.Malloc word type size span) = quiet_append (type_mentions type.base) _ (type_quiet type.base) (expression_quiet size)
  expression_quiet (e.Calloc word type count size span) =
      quiet_append (type_mentions type.base) _ (type_quiet type.base) (quiet_append (expression_mentions count) _ (expression_quiet count) (expression_quiet size))
  expression_quiet (e.Index base index span) = quiet_append (expression_mentions base) _ (expression_quiet base) (expression_quiet index)
  expression_quiet (e.Dot base member span) = quiet_append (expression_mentions base) _ (expression_quiet base) (tt, tt)
  expression_quiet (e.Arrow base member span) = quiet_append (expression_mentions base) _ (expression_quiet base) (tt, tt)
  expression_quiet (e.Unary operator operand span) = expression_quiet operand
  expression_quiet (e.Binary operator left right span) = quiet_append (expression_mentions left) _ (expression_quiet left) (expression_quiet right)

  expressions_quiet : (xs : Expressions) → AreQuiet (expressions_mentions xs)
  expressions_quiet e.NoMore = tt
  expressions_quiet (e.Then first others) = quiet_append (expression_mentions first) _ (expression_quiet first) (expressions_quiet others)

  pub bounds_quiet : (b : Bounds) → AreQuiet (bounds_mentions b)
  bounds_quiet (e.Count count span) = expression_quiet count
  bounds_quiet (e.ByteCount count span) = expression_quiet count
  bounds_quiet (e.Unknown span) = tt
  bounds_quiet (e.Range low high span) = quiet_append (expression_mentions low) _ (expression_quiet low) (expression_quiet high)

pub optional_quiet : {A : Type 0} (of : A → List Mention) → ((x : A) → AreQuiet (of x)) → (o : Option A) → AreQuiet (optional_mentions of o)
optional_quiet of h None = tt
optional_quiet of h (Some x) = h x

pub initializer_quiet : (x : Initializer) → AreQuiet (initializer_mentions x)
initializer_quiet (s.Value value) = expression_quiet value
initializer_quiet (s.Constants constants span) = tt

pub assignment_quiet : (a : Assignment) → AreQuiet (assignment_mentions a)
assignment_quiet (s.Store operator target value span) = quiet_append (expression_mentions target) _ (expression_quiet target) (expression_quiet value)
assignment_quiet (s.Step operator side target span) = expression_quiet target

pub assignments_quiet : (xs : List Assignment) → AreQuiet (flat_map assignment_mentions xs)
assignments_quiet [] = tt
assignments_quiet (a ∷ xs) = quiet_append (assignment_mentions a) _ (assignment_quiet a) (assignments_quiet xs)

-- ---- declarations

-- a variable that is declared stands in the innermost block from then on
pub declared_front : (name : Identifier) (rest : List Mention) (n m : Scopes) → all_mentioned (Declare name ∷ rest) n ≡ Ok m → all_mentioned rest (standing_for name Variable n) ≡ Ok m
declared_front name rest n m h = by (mentioned (Declare name) n) refl h
  where
    by : (r : Result Scopes SourceFault) → mentioned (Declare name) n ≡ r → then_mentioned r (all_mentioned rest) ≡ Ok m → all_mentioned rest (standing_for name Variable n) ≡ Ok m
    by (Ok j) e h' = subst (λ k. all_mentioned rest k ≡ Ok m) (not_refused _ _ name (standing_for name Variable n) j e).1 h'
    by (Err fault) e h' = absurd (cc)

-- the innermost block alone has changed
pub record Keeps (n m : Scopes) : Type 0 where
  pub blocks : outside m.blocks ≡ outside n.blocks
  pub tags : m.tags ≡ n.tags

pub keeps_same : (n m : Scopes) → m ≡ n → Keeps n m
keeps_same n m h = record { blocks = ap (λ (k : Scopes). outside k.blocks) h; tags = ap (λ (k : Scopes). k.tags) h }

pub keeps_further : (n k m : Scopes) → Keeps n k → Keeps k m → Keeps n m
keeps_further n k m p q = record { blocks = q.blocks ∙ p.blocks; tags = q.tags ∙ p.tags }

entry_outside : (name : List ℕ) (meaning : Meaning) (blocks : List Block) → outside (with_entry name meaning blocks) ≡ outside blocks
entry_outside name meaning [] = refl
entry_outside name meaning (block ∷ blocks) = refl

pub keeps_standing : (name : Identifier) (meaning : Meaning) (n : Scopes) → Keeps n (standing_for name meaning n)
keeps_standing name meaning n = record { blocks = entry_outside name.name meaning n.blocks; tags = refl }

-- mentions that change the innermost block alone
abbrev pub KeepsOutside : List Mention → Type 0
KeepsOutside mentions = (n m : Scopes) → all_mentioned mentions n ≡ Ok m → Keeps n m

pub quiet_keeps : (a : List Mention) → AreQuiet a → KeepsOutside a
quiet_keeps a q n m h = keeps_same n m (quiet_all a q n m h).1

pub append_keeps : (a b : List Mention) → KeepsOutside a → KeepsOutside b → KeepsOutside (a ++ b)
append_keeps a b p q n m h = let split = mentioned_append a b n m h in keeps_further n split.0 m (p n split.0 split.1) (q split.0 m split.2)

declare_keeps : (name : Identifier) (rest : List Mention) → KeepsOutside rest → KeepsOutside (Declare name ∷ rest)
declare_keeps name rest p n m h =
    keeps_further n (standing_for name Variable n) m (keeps_standing name Variable n) (p (standing_for name Variable n) m (declared_front name rest n m h))

-- ---- blocks

abbrev pub opened : Scopes → Scopes
opened n = record { blocks = [] ∷ n.blocks; tags = n.tags }

abbrev pub closed : Scopes → Scopes
closed n = record { blocks = outside n.blocks; tags = n.tags }

closes : (n k : Scopes) → Keeps (opened n) k → closed k ≡ n
closes n k h = rw (h.blocks, h.tags) refl

-- a block leaves the scopes as they were before it
pub block_mentioned : (a : List Mention) → KeepsOutside a → (n m : Scopes) → all_mentioned (in_block a) n ≡ Ok m → (k : Scopes) × (all_mentioned a (opened n) ≡ Ok k) × (m ≡ n)
block_mentioned a keeps n m h =
    let split = mentioned_append a (Close ∷ []) (opened n) m h in
    (split.0, split.1, sym (ok_same (closed split.0) m split.2) ∙ closes n split.0 (keeps (opened n) split.0 split.1))

pub block_front : (a b : List Mention) → KeepsOutside a → (n m : Scopes) → all_mentioned (in_block a ++ b) n ≡ Ok m → (k : Scopes) × (all_mentioned a (opened n) ≡ Ok k) × (all_mentioned b n ≡ Ok m)
block_front a b keeps n m h =
    let split = mentioned_append (in_block a) b n m h in
    let inner = block_mentioned a keeps n split.0 split.1 in
    (inner.0, inner.1, subst (λ k. all_mentioned b k ≡ Ok m) inner.2 split.2)

block_keeps : (a : List Mention) → KeepsOutside a → KeepsOutside (in_block a)
block_keeps a keeps n m h = keeps_same n m (block_mentioned a keeps n m h).2

-- ---- statements

declarator_keeps : (d : Declarator) → KeepsOutside (declarator_mentions d)
declarator_keeps d =
    declare_keeps d.name (optional_mentions bounds_mentions d.bounds ++ optional_mentions initializer_mentions d.initializer)
    (quiet_keeps (optional_mentions bounds_mentions d.bounds ++ optional_mentions initializer_mentions d.initializer)
    (quiet_append (optional_mentions bounds_mentions d.bounds) _ (optional_quiet bounds_mentions bounds_quiet d.bounds) (optional_quiet initializer_mentions initializer_quiet d.initializer)))

pub nothing_keeps : KeepsOutside []
nothing_keeps = quiet_keeps [] tt

declarators_keep : (ds : List Declarator) → KeepsOutside (flat_map declarator_mentions ds)
declarators_keep [] = nothing_keeps
declarators_keep (d ∷ ds) = append_keeps (declarator_mentions d) (flat_map declarator_mentions ds) (declarator_keeps d) (declarators_keep ds)

declaration_keeps : (d : Declaration) → KeepsOutside (declaration_mentions d)
declaration_keeps d = append_keeps (type_mentions d.base) (flat_map declarator_mentions d.declarators) (quiet_keeps (type_mentions d.base) (type_quiet d.base)) (declarators_keep d.declarators)

initial_keeps : (x : ForInitial) → KeepsOutside (for_initial_mentions x)
initial_keeps s.Nothing = nothing_keeps
initial_keeps (s.Declares d) = declaration_keeps d
initial_keeps (s.Assigns a) = quiet_keeps (assignment_mentions a) (assignment_quiet a)

-- what stands in the block of a for
abbrev pub for_mentions : ForInitial → Option Expression → Option Assignment → List Mention → List Mention
for_mentions initial condition step body =
    for_initial_mentions initial ++ (optional_mentions expression_mentions condition ++ (optional_mentions assignment_mentions step ++ in_block body))

pub for_keeps : (initial : ForInitial) (condition : Option Expression) (step : Option Assignment) (body : List Mention) → KeepsOutside body → KeepsOutside (for_mentions initial condition step body)
for_keeps initial condition step body keeps =
    append_keeps (for_initial_mentions initial) _ (initial_keeps initial)
    (append_keeps (optional_mentions expression_mentions condition) _ (quiet_keeps _ (optional_quiet expression_mentions expression_quiet condition))
    (append_keeps (optional_mentions assignment_mentions step) _ (quiet_keeps _ (optional_quiet assignment_mentions assignment_quiet step)) (block_keeps body keeps)))

mutual
  pub statement_keeps : (x : Statement) → KeepsOutside (statement_mentions x)
  statement_keeps (s.Block mark inner span) = block_keeps (statements_mentions inner) (statements_keep inner)
  statement_keeps (s.Bundle assignments span) = quiet_keeps (flat_map assignment_mentions assignments) (assignments_quiet assignments)
  statement_keeps (s.Declare d span) = declaration_keeps d
  statement_keeps (s.Assign a span) = quiet_keeps (assignment_mentions a) (assignment_quiet a)
  statement_keeps (s.CallAlone call span) = quiet_keeps (expression_mentions call) (expression_quiet call)
  statement_keeps (s.Empty span) = nothing_keeps
  statement_keeps (s.If condition consequent span) =
      append_keeps (expression_mentions condition) _ (quiet_keeps (expression_mentions condition) (expression_quiet condition)) (block_keeps (statement_mentions consequent) (statement_keeps consequent))
  statement_keeps (s.IfElse condition consequent alternative span) =
      append_keeps (expression_mentions condition) _ (quiet_keeps (expression_mentions condition) (expression_quiet condition))
      (append_keeps (in_block (statement_mentions consequent)) _ (block_keeps (statement_mentions consequent) (statement_keeps consequent)) (block_keeps (statement_mentions alternative) (statement_keeps alternative)))
  statement_keeps (s.While condition body span) =
      append_keeps (expression_mentions condition) _ (quiet_keeps (expression_mentions condition) (expression_quiet condition)) (block_keeps (statement_mentions body) (statement_keeps body))
  statement_keeps (s.For initial condition step body span) = block_keeps (for_mentions initial condition step (statement_mentions body)) (for_keeps initial condition step (statement_mentions body) (statement_keeps body))
  statement_keeps (s.Return value span) = quiet_keeps (optional_mentions expression_mentions value) (optional_quiet expression_mentions expression_quiet value)
  statement_keeps (s.Break span) = nothing_keeps
  statement_keeps (s.Continue span) = nothing_keeps

  pub statements_keep : (xs : Statements) → KeepsOutside (statements_mentions xs)
  statements_keep s.NoMore = nothing_keeps
  statements_keep (s.Then first others) = append_keeps (statement_mentions first) (statements_mentions others) (statement_keeps first) (statements_keep others)
