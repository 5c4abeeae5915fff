-- What is written for bounds, and for the size of new memory, is read without what is known.
use Rattle.std.proofs.Common.{◌≡◌, length, refl}
use Rattle.ckc_text.specs.declared.place.Span.{Span}
use Rattle.ckc_tree.specs.declared.expr.CallocWord.{CallocWord}
use Rattle.ckc_tree.specs.declared.expr.CallocWord.TheVariants as calloc_words
use Rattle.ckc_tree.specs.Expressions as e
use Rattle.ckc_tree.specs.Expressions.{Expression, Expressions}
use Rattle.pointer_modes.specs.Types.{CType}
use Rattle.bounds_flow.specs.Flows.{Knowledge}
use Rattle.ckc_core.specs.declared.program.Site.{Site}
use Rattle.region_typing_rules.specs.Scopes.{Scope}
use Rattle.region_typing_rules.specs.DeclaredBounds.{Bounded, sum_written, all_written, parts_written, how_written, bounded_of}
use Rattle.region_typing_rules.specs.Operands.{Typed}
use Rattle.region_typing_rules.specs.NewMemory.{calloc_typed, cast_bounds}
use Rattle.region_typing_rules.specs.Knowing.{knowing}

module _ (f : Knowledge) (s : Scope) (p : Bounded) where
  mutual
    sum_same : (x : Expression) → sum_written (knowing f s) p x ≡ sum_written s p x
    sum_same (e.Number value span) = refl
    sum_same (e.Character value span) = refl
    sum_same (e.Text bytes span) = refl
    sum_same (e.Name name) = refl
    sum_same (e.Call callee arguments span) = all_same arguments
    sum_same (e.SizeOf type span) = refl
    sum_same (e.Cast word type operand span) = rw (sum_same operand) refl
    sum_same (e.BoundedCast word type operand bounds span) = rw (sum_same operand, parts_same bounds) refl
    sum_same (e.Malloc word type size span) = rw (sum_same size) refl
    sum_same (e.Calloc word type count size span) = rw (sum_same count, sum_same size) refl
    sum_same (e.Index base index span) = rw (sum_same base, sum_same index) refl
    sum_same (e.Dot base member span) = rw (sum_same base) refl
    sum_same (e.Arrow base member span) = rw (sum_same base) refl
    sum_same (e.Unary operator operand span) = rw (sum_same operand) refl
    sum_same (e.Binary operator left right span) = rw (sum_same left, sum_same right) refl

    all_same : (xs : Expressions) → all_written (knowing f s) p xs ≡ all_written s p xs
    all_same e.NoMore = refl
    all_same (e.Then first others) = rw (sum_same first, all_same others) refl

    parts_same : (b : e.Bounds) → parts_written (knowing f s) p b ≡ parts_written s p b
    parts_same (e.Count count span) = rw (sum_same count) refl
    parts_same (e.ByteCount count span) = rw (sum_same count) refl
    parts_same (e.Unknown span) = refl
    parts_same (e.Range low high span) = rw (sum_same low, sum_same high) refl

  how_same : (b : e.Bounds) → how_written (knowing f s) p b ≡ how_written s p b
  how_same (e.Count count span) = rw (sum_same count) refl
  how_same (e.ByteCount count span) = rw (sum_same count) refl
  how_same (e.Unknown span) = refl
  how_same (e.Range low high span) = rw (sum_same low, sum_same high) refl

pub cast_same : (f : Knowledge) (s : Scope) (to : CType) (b : e.Bounds) → cast_bounds (knowing f s) to b ≡ cast_bounds s to b
cast_same f s to b = rw (how_same f s (bounded_of (length s.locals) to) b) refl

pub calloc_same : (f : Knowledge) (s : Scope) (word : CallocWord) (t : CType) (a : Typed) (size : Expression) (site : Site) (span : Span) → calloc_typed word (knowing f s) t a size site span ≡ calloc_typed word s t a size site span
calloc_same f s calloc_words.Calloc t a size site span = refl
calloc_same f s calloc_words.NtCalloc t a size site span = refl
