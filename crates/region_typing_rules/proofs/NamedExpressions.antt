-- In an expression each name stands for something.
use Rattle.std.proofs.Common.{◌≡◌, ℕ, ◌^◌, Bool, true, false, List, ◌++◌, length, Option, Some, None, refl, sym, ◌∙◌}
use Rattle.std.specs.Prelude.{◌==◌, ◌&&◌, ◌||◌, bytes_eq, nat_lt}
use Rattle.std.specs.List.{list_any}
use Rattle.std.proofs.lemmas.Bool.{and_parts}
use Rattle.ckc_text.specs.declared.place.Span.{Span}
use Rattle.ckc_text.specs.declared.code.Code.TheVariants.{E04, E14}
use Rattle.ckc_tree.specs.Expressions as e
use Rattle.ckc_tree.specs.Expressions.{Expression, Expressions}
use Rattle.ckc_tree.specs.Numbers.{Numbers, number_type_name, number_expression, number_expressions, number_bounds}
use Rattle.built_forms.specs.Built.{built_type, is_built_malloc, built_expression, built_expressions, built_bounds}
use Rattle.ckc_names_rules.specs.declared.given.Given.{Given}
use Rattle.ckc_names_rules.specs.Given.{next_input, print_int, putchar, strlen, given_by}
use Rattle.ckc_names_rules.specs.Mentions.{type_mentions, expression_mentions, expressions_mentions, bounds_mentions}
use Rattle.ckc_names_rules.specs.Scopes.{Scopes, visible, is_among, predefined, is_function}
use Rattle.ckc_core.specs.declared.program.Site.{Site}
use Rattle.ckc_core.specs.Core as core
use Rattle.region_typing_rules.specs.Verdicts.{Verdict, Passes, passing}
use Rattle.region_typing_rules.specs.Scopes.{Scope, Signature, named, function_named}
use Rattle.region_typing_rules.specs.Types.{type_named}
use Rattle.region_typing_rules.specs.Operands.{Places, Typed, beside, site_at, bounded, in_cell, name_typed, dotted, arrowed, unary_typed, indexed}
use Rattle.region_typing_rules.specs.Calls.{predefined_call, called}
use Rattle.region_typing_rules.specs.NewMemory.{cast_bounds}
use Rattle.region_typing_rules.specs.Expressions.{typed, all_typed, call_typed}
use Rattle.region_typing_rules.specs.Strings.{text_at}
use Rattle.region_typing_rules.proofs.RightOperands.{in_right}
use Rattle.region_typing_rules.proofs.NamedVerdicts.{AllNamed, Any, text_named, then_named, needs_named, dotted_named, arrowed_named, unary_named, binary_named, indexed_named, declared_named, writes_named, measures_named, result_named, malloc_named, calloc_named, cast_named}
use Rattle.region_typing_rules.proofs.NamedMentions.{AreFound, found_append}
use Rattle.region_typing_rules.proofs.NamedScopes.{number_equal, Agrees, among_any, call_function, name_meant, found_tags, flow_agrees, type_named_named}
use Rattle.region_typing_rules.specs.DeclaredBounds.{declared_bounds}
use Rattle.region_typing_rules.proofs.NamedBounds.{bounds_named}

-- ---- calls

predefined_named : (of : Numbers) (given : Given) → given ≡ given_by of → (name : List ℕ) (ts : List (Typed × Span)) (site : Site) (span : Span) → is_among predefined name ≡ true
    → AllNamed (predefined_call given (of name) ts site span)
predefined_named of given same name ts site span among = rw same (by (bytes_eq name next_input) (bytes_eq name print_int) (bytes_eq name putchar) (bytes_eq name strlen) refl refl refl refl)
  where
    -- one of the tests holds
    found : (a b c d : Bool) → (of name == of next_input) ≡ a → (of name == of print_int) ≡ b → (of name == of putchar) ≡ c → (of name == of strlen) ≡ d → (a || (b || (c || d))) ≡ true → AllNamed (predefined_call (given_by of) (of name) ts site span)
    found true b c d ea eb ec ed one = rw ea (needs_named Any (length ts == 0) E14 span _ tt)
    found false true c d ea eb ec ed one = rw (ea, eb) (writes_named core.Print ts span)
    found false false true d ea eb ec ed one = rw (ea, eb, ec) (writes_named core.PutByte ts span)
    found false false false true ea eb ec ed one = rw (ea, eb, ec, ed) (measures_named ts site span)
    found false false false false ea eb ec ed one = absurd (cc)

    second : (a c : Bool) → (a || (true || c)) ≡ true
    second true c = refl
    second false c = refl

    third : (a b d : Bool) → (a || (b || (true || d))) ≡ true
    third true b d = refl
    third false b d = second b d

    fourth : (a b c : Bool) → (a || (b || (c || true))) ≡ true
    fourth true b c = refl
    fourth false true c = refl
    fourth false false true = refl
    fourth false false false = refl

    by : (a b c d : Bool) → bytes_eq name next_input ≡ a → bytes_eq name print_int ≡ b → bytes_eq name putchar ≡ c → bytes_eq name strlen ≡ d → AllNamed (predefined_call (given_by of) (of name) ts site span)
    by true b c d ea eb ec ed = found true _ _ _ (number_equal of name next_input ea) refl refl refl refl
    by false true c d ea eb ec ed = found _ true _ _ refl (number_equal of name print_int eb) refl refl (second (of name == of next_input) (of name == of putchar || of name == of strlen))
    by false false true d ea eb ec ed = found _ _ true _ refl refl (number_equal of name putchar ec) refl (third (of name == of next_input) (of name == of print_int) (of name == of strlen))
    by false false false true ea eb ec ed = found _ _ _ true refl refl refl (number_equal of name strlen ed) (fourth (of name == of next_input) (of name == of print_int) (of name == of putchar))
    by false false false false ea eb ec ed =
        let any : list_any (bytes_eq name) predefined ≡ true = sym (among_any (bytes_eq name) predefined) ∙ among in
        let no : false ≡ true = rw (ea, eb, ec, ed) at any in
        absurd (cc)

-- bounds name nothing
bounded_named : (s : Scope) (site : Site) (v : Verdict Typed) → AllNamed v → AllNamed (bounded s site v)
bounded_named s site v h = then_named Any v _ h (λ t. tt)

in_cell_named : (s : Scope) (site : Site) (v : Verdict Typed) → AllNamed v → AllNamed (in_cell s site v)
in_cell_named s site v h = then_named Any v _ h (λ t. tt)

module _ (of : Numbers) (at : Places) (n : Scopes) (g : Scope) (agrees : Agrees of n g) where
  called_named : (o : Option Signature) (name : List ℕ) (ts : List (Typed × Span)) (site : Site) (span : Span) → function_named g.functions (of name) ≡ o
      → (is_among predefined name || is_function (visible n.blocks name)) ≡ true → AllNamed (called g o (of name) ts site span)
  called_named (Some f) name ts site span e found = declared_named g f ts site span
  called_named None name ts site span e found = by (is_among predefined name) refl found
    where
      by : (b : Bool) → is_among predefined name ≡ b → (b || is_function (visible n.blocks name)) ≡ true → AllNamed (predefined_call g.given (of name) ts site span)
      by true among found' = predefined_named of g.given agrees.given name ts site span among
      by false among found' = let there = agrees.function name found' in let no : false ≡ true = rw e at there in absurd (cc)

module _ (of : Numbers) (at : Places) (n : Scopes) where
  mutual
    pub typed_named : (g : Scope) (agrees : Agrees of n g) (x : Expression) → built_expression x ≡ true → AreFound n (expression_mentions x) → AllNamed (typed at g (number_expression of x))
    typed_named g agrees (e.Number value span) built found = needs_named Any (nat_lt value (2 ^ 31)) E04 span _ tt
    typed_named g agrees (e.Character value span) built found = needs_named Any (nat_lt value (2 ^ 31)) E04 span _ tt
    typed_named g agrees (e.Text bytes span) built found = text_named g.structs (text_at g.strings span.from) (site_at at span) span
    typed_named g agrees (e.Name name) built found = bounded_named g (site_at at name.span) (passing (named g (of name.name)) (λ x. Passes (name_typed g x (site_at at name.span)))) (then_named Any (named g (of name.name)) _ (name_meant of n g agrees name found.0) (λ x. tt))
    typed_named g agrees (e.Call callee arguments span) built found =
        then_named Any (all_typed at g (number_expressions of arguments)) _ (all_named g agrees arguments built found.1)
        (λ ts. then_named Any (called g (function_named g.functions (of callee.name)) (of callee.name) ts (site_at at span) span) _
        (called_named of at n g agrees (function_named g.functions (of callee.name)) callee.name ts (site_at at span) span refl (call_function n callee found.0))
        (λ c. result_named c span))
    typed_named g agrees (e.SizeOf type span) built found = then_named Any (type_named g (number_type_name of type)) _ (type_named_named of n.tags g agrees.tag type (found_tags n type.base found)) (λ t. tt)
    typed_named g agrees (e.Cast word type operand span) built found =
        let parts = and_parts (built_type type.base) (built_expression operand) built in
        let both = found_append n (type_mentions type.base) (expression_mentions operand) found in
        then_named Any (type_named g (number_type_name of type)) _ (type_named_named of n.tags g agrees.tag type (found_tags n type.base both.0)) (λ t. then_named Any (typed at g (number_expression of operand)) _ (typed_named g agrees operand parts.1 both.1)
        (λ a. cast_named word g t a None (site_at at span) span))
    typed_named g agrees (e.BoundedCast word type operand bounds span) built found =
        let parts = and_parts (built_expression operand) (built_bounds bounds) (and_parts (built_type type.base) _ built).1 in
        let both = found_append n (type_mentions type.base) (expression_mentions operand ++ bounds_mentions bounds) found in
        let others = found_append n (expression_mentions operand) (bounds_mentions bounds) both.1 in
        then_named Any (type_named g (number_type_name of type)) _ (type_named_named of n.tags g agrees.tag type (found_tags n type.base both.0)) (λ t. then_named Any (typed at g (number_expression of operand)) _ (typed_named g agrees operand parts.0 others.0)
        (λ a. then_named Any (cast_bounds g t (number_bounds of bounds)) _ (then_named Any (declared_bounds g t (length g.locals) (Some (number_bounds of bounds))) _ (bounds_named of n g agrees.tag t (length g.locals) (Some bounds) others.1) (λ b. tt))
        (λ written. cast_named word g t a written (site_at at span) span)))
    typed_named g agrees (e.Malloc word type size span) built found =
        let parts = and_parts (built_type type.base) (built_expression size) (and_parts (is_built_malloc word) _ built).1 in
        let both = found_append n (type_mentions type.base) (expression_mentions size) found in
        then_named Any (type_named g (number_type_name of type)) _ (type_named_named of n.tags g agrees.tag type (found_tags n type.base both.0)) (λ t. then_named Any (typed at g (number_expression of size)) _ (typed_named g agrees size parts.1 both.1)
        (λ a. malloc_named word g t (number_expression of size) a (site_at at span) span))
    typed_named g agrees (e.Calloc word type count size span) built found =
        let forms = and_parts (built_type type.base) (built_expression count && built_expression size) built in
        let parts = and_parts (built_expression count) (built_expression size) forms.1 in
        let both = found_append n (type_mentions type.base) (expression_mentions count ++ expression_mentions size) found in
        let others = found_append n (expression_mentions count) (expression_mentions size) both.1 in
        then_named Any (type_named g (number_type_name of type)) _ (type_named_named of n.tags g agrees.tag type (found_tags n type.base both.0)) (λ t. then_named Any (typed at g (number_expression of count)) _ (typed_named g agrees count parts.0 others.0)
        (λ a. then_named Any (typed at g (number_expression of size)) _ (typed_named g agrees size parts.1 others.1) (λ b. calloc_named word g t a (number_expression of size) (site_at at span) span)))
    typed_named g agrees (e.Index base index span) built found =
        let parts = and_parts (built_expression base) (built_expression index) built in
        let both = found_append n (expression_mentions base) (expression_mentions index) found in
        in_cell_named g (site_at at span) (passing (typed at g (number_expression of base)) (λ a. passing (typed at g (number_expression of index)) (λ b. indexed a b (site_at at span) span)))
        (then_named Any (typed at g (number_expression of base)) _ (typed_named g agrees base parts.0 both.0) (λ a. then_named Any (typed at g (number_expression of index)) _ (typed_named g agrees index parts.1 both.1) (λ b. indexed_named a b (site_at at span) span)))
    typed_named g agrees (e.Dot base member span) built found =
        in_cell_named g (site_at at span) (passing (typed at g (number_expression of base)) (λ a. dotted g a (of member.name) (site_at at span) span)) (then_named Any (typed at g (number_expression of base)) _ (typed_named g agrees base built (found_append n (expression_mentions base) _ found).0) (λ a. dotted_named g a (of member.name) (site_at at span) span))
    typed_named g agrees (e.Arrow base member span) built found =
        in_cell_named g (site_at at span) (passing (typed at g (number_expression of base)) (λ a. arrowed g a (of member.name) (site_at at span) span)) (then_named Any (typed at g (number_expression of base)) _ (typed_named g agrees base built (found_append n (expression_mentions base) _ found).0) (λ a. arrowed_named g a (of member.name) (site_at at span) span))
    typed_named g agrees (e.Unary operator operand span) built found = in_cell_named g (site_at at span) (passing (typed at g (number_expression of operand)) (λ a. unary_typed operator a (site_at at span) span)) (then_named Any (typed at g (number_expression of operand)) _ (typed_named g agrees operand built found) (λ a. unary_named operator a (site_at at span) span))
    typed_named g agrees (e.Binary operator left right span) built found =
        let parts = and_parts (built_expression left) (built_expression right) built in
        let both = found_append n (expression_mentions left) (expression_mentions right) found in
        then_named Any (typed at g (number_expression of left)) _ (typed_named g agrees left parts.0 both.0) (λ a. then_named Any (typed at (beside operator a g) (number_expression of right)) _ (typed_named (beside operator a g) (in_right (Agrees of n) operator a g (λ f. flow_agrees of n g g.outside f g.breaks g.continues agrees)) right parts.1 both.1) (λ b. binary_named g operator a b (site_at at span) span))

    pub all_named : (g : Scope) (agrees : Agrees of n g) (xs : Expressions) → built_expressions xs ≡ true → AreFound n (expressions_mentions xs) → AllNamed (all_typed at g (number_expressions of xs))
    all_named g agrees e.NoMore built found = tt
    all_named g agrees (e.Then first others) built found =
        let parts = and_parts (built_expression first) (built_expressions others) built in
        let both = found_append n (expression_mentions first) (expressions_mentions others) found in
        then_named Any (typed at g (number_expression of first)) _ (typed_named g agrees first parts.0 both.0) (λ t. then_named Any (all_typed at g (number_expressions of others)) _ (all_named g agrees others parts.1 both.1) (λ ts. tt))

  pub call_named : (g : Scope) (agrees : Agrees of n g) (x : Expression) → built_expression x ≡ true → AreFound n (expression_mentions x) → AllNamed (call_typed at g (number_expression of x))
  call_named g agrees (e.Call callee arguments span) built found =
      then_named Any (all_typed at g (number_expressions of arguments)) _ (all_named g agrees arguments built found.1)
      (λ ts. called_named of at n g agrees (function_named g.functions (of callee.name)) callee.name ts (site_at at span) span refl (call_function n callee found.0))
  call_named g agrees (e.Number value span) built found = tt
  call_named g agrees (e.Character value span) built found = tt
  call_named g agrees (e.Text bytes span) built found = tt
  call_named g agrees (e.Name name) built found = tt
  call_named g agrees (e.SizeOf type span) built found = tt
  call_named g agrees (e.Cast word type operand span) built found = tt
  call_named g agrees (e.BoundedCast word type operand bounds span) built found = tt
  call_named g agrees (e.Malloc word type size span) built found = tt
  call_named g agrees (e.Calloc word type count size span) built found = tt
  call_named g agrees (e.Index base index span) built found = tt
  call_named g agrees (e.Dot base member span) built found = tt
  call_named g agrees (e.Arrow base member span) built found = tt
  call_named g agrees (e.Unary operator operand span) built found = tt
  call_named g agrees (e.Binary operator left right span) built found = tt
