-- In the bounds of a local each type under `sizeof` stands for something; no other name is asked for there.
use Rattle.std.proofs.Common.{◌≡◌, ℕ, Option, Some, None, refl}
use Rattle.std.specs.Prelude.{◌&&◌, nat_lt}
use Rattle.ckc_text.specs.declared.place.Span.{Span}
use Rattle.ckc_text.specs.declared.code.Code.TheVariants.{E16}
use Rattle.ckc_tree.specs.Expressions as e
use Rattle.ckc_tree.specs.Expressions.{Expression, Expressions, bounds_span}
use Rattle.ckc_tree.specs.Numbers.{Numbers, number_type_name, number_expression, number_expressions, number_bounds}
use Rattle.std.specs.Option.{option_map}
use Rattle.ckc_names_rules.specs.Mentions.{type_mentions, expression_mentions, expressions_mentions, bounds_mentions, optional_mentions}
use Rattle.ckc_names_rules.specs.Scopes.{Scopes}
use Rattle.bounds_exprs.specs.declared.term.Bounds.{Bounds}
use Rattle.bounds_exprs.specs.Normal as normal
use Rattle.bounds_exprs.specs.Normal.{How, bounds_of}
use Rattle.pointer_modes.specs.Types.{CType}
use Rattle.pointer_modes.specs.Layout.{size_of}
use Rattle.region_typing_rules.specs.Scopes.{Scope}
use Rattle.region_typing_rules.specs.Types.{type_named, is_row}
use Rattle.region_typing_rules.specs.DeclaredBounds.{Bounded, sum_written, all_written, parts_written, how_written, normal_bounds, bounded_of, declared_bounds}
use Rattle.region_typing_rules.proofs.NamedVerdicts.{AllNamed, Any, then_named, needs_named}
use Rattle.region_typing_rules.proofs.NamedMentions.{AreFound, found_append}
use Rattle.region_typing_rules.proofs.NamedScopes.{KnowsTags, found_tags, type_named_named}

-- normal bounds are of no names
normal_named : (how : How) (size : ℕ) (span : Span) → AllNamed (normal_bounds how size span)
normal_named normal.Unknown size span = tt
normal_named (normal.Count n) size span = by (bounds_of (normal.Count n) size) refl
  where
    by : (o : Option Bounds) → bounds_of (normal.Count n) size ≡ o → AllNamed (normal_bounds (normal.Count n) size span)
    by None e = rw e tt
    by (Some b) e = rw e tt
normal_named (normal.ByteCount n) size span = by (bounds_of (normal.ByteCount n) size) refl
  where
    by : (o : Option Bounds) → bounds_of (normal.ByteCount n) size ≡ o → AllNamed (normal_bounds (normal.ByteCount n) size span)
    by None e = rw e tt
    by (Some b) e = rw e tt
normal_named (normal.Pair low high) size span = by (bounds_of (normal.Pair low high) size) refl
  where
    by : (o : Option Bounds) → bounds_of (normal.Pair low high) size ≡ o → AllNamed (normal_bounds (normal.Pair low high) size span)
    by None e = rw e tt
    by (Some b) e = rw e tt

module _ (of : Numbers) (n : Scopes) (g : Scope) (knows : KnowsTags of n.tags g) where
  mutual
    sum_named : (p : Bounded) (x : Expression) → AreFound n (expression_mentions x) → AllNamed (sum_written g p (number_expression of x))
    sum_named p (e.Number value span) found = tt
    sum_named p (e.Character value span) found = tt
    sum_named p (e.Text bytes span) found = tt
    sum_named p (e.Name name) found = tt
    sum_named p (e.Call callee arguments span) found = all_sums_named p arguments found.1
    sum_named p (e.SizeOf type span) found = then_named Any (type_named g (number_type_name of type)) _ (type_named_named of n.tags g knows type (found_tags n type.base found)) (λ t. tt)
    sum_named p (e.Cast word type operand span) found =
        then_named Any (sum_written g p (number_expression of operand)) _ (sum_named p operand (found_append n (type_mentions type.base) _ found).1) (λ a. tt)
    sum_named p (e.BoundedCast word type operand bounds span) found =
        let both = found_append n (expression_mentions operand) (bounds_mentions bounds) (found_append n (type_mentions type.base) _ found).1 in
        then_named Any (sum_written g p (number_expression of operand)) _ (sum_named p operand both.0) (λ a. parts_named p bounds both.1)
    sum_named p (e.Malloc word type size span) found =
        then_named Any (sum_written g p (number_expression of size)) _ (sum_named p size (found_append n (type_mentions type.base) _ found).1) (λ a. tt)
    sum_named p (e.Calloc word type count size span) found =
        let both = found_append n (expression_mentions count) (expression_mentions size) (found_append n (type_mentions type.base) _ found).1 in
        then_named Any (sum_written g p (number_expression of count)) _ (sum_named p count both.0) (λ a. then_named Any (sum_written g p (number_expression of size)) _ (sum_named p size both.1) (λ b. tt))
    sum_named p (e.Index base index span) found =
        let both = found_append n (expression_mentions base) (expression_mentions index) found in
        then_named Any (sum_written g p (number_expression of base)) _ (sum_named p base both.0) (λ a. then_named Any (sum_written g p (number_expression of index)) _ (sum_named p index both.1) (λ b. tt))
    sum_named p (e.Dot base member span) found = then_named Any (sum_written g p (number_expression of base)) _ (sum_named p base (found_append n (expression_mentions base) _ found).0) (λ a. tt)
    sum_named p (e.Arrow base member span) found = then_named Any (sum_written g p (number_expression of base)) _ (sum_named p base (found_append n (expression_mentions base) _ found).0) (λ a. tt)
    sum_named p (e.Unary operator operand span) found = then_named Any (sum_written g p (number_expression of operand)) _ (sum_named p operand found) (λ a. tt)
    sum_named p (e.Binary operator left right span) found =
        let both = found_append n (expression_mentions left) (expression_mentions right) found in
        then_named Any (sum_written g p (number_expression of left)) _ (sum_named p left both.0) (λ a. then_named Any (sum_written g p (number_expression of right)) _ (sum_named p right both.1) (λ b. tt))

    all_sums_named : (p : Bounded) (xs : Expressions) → AreFound n (expressions_mentions xs) → AllNamed (all_written g p (number_expressions of xs))
    all_sums_named p e.NoMore found = tt
    all_sums_named p (e.Then first others) found =
        let both = found_append n (expression_mentions first) (expressions_mentions others) found in
        then_named Any (sum_written g p (number_expression of first)) _ (sum_named p first both.0) (λ a. all_sums_named p others both.1)

    parts_named : (p : Bounded) (b : e.Bounds) → AreFound n (bounds_mentions b) → AllNamed (parts_written g p (number_bounds of b))
    parts_named p (e.Count count span) found = then_named Any (sum_written g p (number_expression of count)) _ (sum_named p count found) (λ a. tt)
    parts_named p (e.ByteCount count span) found = then_named Any (sum_written g p (number_expression of count)) _ (sum_named p count found) (λ a. tt)
    parts_named p (e.Unknown span) found = tt
    parts_named p (e.Range low high span) found =
        let both = found_append n (expression_mentions low) (expression_mentions high) found in
        then_named Any (sum_written g p (number_expression of low)) _ (sum_named p low both.0) (λ a. then_named Any (sum_written g p (number_expression of high)) _ (sum_named p high both.1) (λ b. tt))

  how_named : (p : Bounded) (b : e.Bounds) → AreFound n (bounds_mentions b) → AllNamed (how_written g p (number_bounds of b))
  how_named p (e.Count count span) found = then_named Any (sum_written g p (number_expression of count)) _ (sum_named p count found) (λ a. tt)
  how_named p (e.ByteCount count span) found = then_named Any (sum_written g p (number_expression of count)) _ (sum_named p count found) (λ a. tt)
  how_named p (e.Unknown span) found = tt
  how_named p (e.Range low high span) found =
      let both = found_append n (expression_mentions low) (expression_mentions high) found in
      then_named Any (sum_written g p (number_expression of low)) _ (sum_named p low both.0) (λ a. then_named Any (sum_written g p (number_expression of high)) _ (sum_named p high both.1) (λ b. tt))

  pub bounds_named : (t : CType) (own : ℕ) (o : Option e.Bounds) → AreFound n (optional_mentions bounds_mentions o) → AllNamed (declared_bounds g t own (option_map (number_bounds of) o))
  bounds_named t own None found = tt
  bounds_named t own (Some b) found =
      let span = bounds_span (number_bounds of b) in
      then_named Any (how_written g (bounded_of own t) (number_bounds of b)) _ (how_named (bounded_of own t) b found)
      (λ how. needs_named Any (is_row t && nat_lt 0 (size_of g.structs (bounded_of own t).element)) E16 span _ (normal_named how (size_of g.structs (bounded_of own t).element) span))
