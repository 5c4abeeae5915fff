-- Types that a test finds to be the same are equal.
use Rattle.std.proofs.Common.{◌≡◌, true, refl, ap}
use Rattle.std.specs.Prelude.{◌&&◌}
use Rattle.std.proofs.lemmas.Bool.{eqb-true, and_parts}
use Rattle.pointer_modes.specs.declared.ctype.Mode.{Mode}
use Rattle.pointer_modes.specs.declared.ctype.Mode.TheVariants as modes
use Rattle.pointer_modes.specs.declared.ctype.Kind.{Kind}
use Rattle.pointer_modes.specs.declared.ctype.Kind.TheVariants as kinds
use Rattle.pointer_modes.specs.Types.{CType, Int, Char, Struct, Pointer}
use Rattle.ckc_core.specs.States.{same_mode, same_kind, same_type}

pub mode_equal : (a b : Mode) → same_mode a b ≡ true → a ≡ b
mode_equal modes.Checked modes.Checked h = refl
mode_equal modes.Checked modes.Tainted h = absurd (cc)
mode_equal modes.Checked modes.Raw h = absurd (cc)
mode_equal modes.Tainted modes.Checked h = absurd (cc)
mode_equal modes.Tainted modes.Tainted h = refl
mode_equal modes.Tainted modes.Raw h = absurd (cc)
mode_equal modes.Raw modes.Checked h = absurd (cc)
mode_equal modes.Raw modes.Tainted h = absurd (cc)
mode_equal modes.Raw modes.Raw h = refl

kind_equal : (a b : Kind) → same_kind a b ≡ true → a ≡ b
kind_equal kinds.One kinds.One h = refl
kind_equal kinds.One kinds.Array h = absurd (cc)
kind_equal kinds.One kinds.Nt h = absurd (cc)
kind_equal kinds.Array kinds.One h = absurd (cc)
kind_equal kinds.Array kinds.Array h = refl
kind_equal kinds.Array kinds.Nt h = absurd (cc)
kind_equal kinds.Nt kinds.One h = absurd (cc)
kind_equal kinds.Nt kinds.Array h = absurd (cc)
kind_equal kinds.Nt kinds.Nt h = refl

pub same_equal : (a b : CType) → same_type a b ≡ true → a ≡ b
same_equal Int Int h = refl
same_equal Int Char h = absurd (cc)
same_equal Int (Struct n) h = absurd (cc)
same_equal Int (Pointer m k t) h = absurd (cc)
same_equal Char Int h = absurd (cc)
same_equal Char Char h = refl
same_equal Char (Struct n) h = absurd (cc)
same_equal Char (Pointer m k t) h = absurd (cc)
same_equal (Struct n) Int h = absurd (cc)
same_equal (Struct n) Char h = absurd (cc)
same_equal (Struct n) (Struct n') h = ap Struct (eqb-true n n' h)
same_equal (Struct n) (Pointer m k t) h = absurd (cc)
same_equal (Pointer m k t) Int h = absurd (cc)
same_equal (Pointer m k t) Char h = absurd (cc)
same_equal (Pointer m k t) (Struct n) h = absurd (cc)
same_equal (Pointer m k t) (Pointer m' k' t') h =
    let first = and_parts (same_mode m m') (same_kind k k' && same_type t t') h in
    let second = and_parts (same_kind k k') (same_type t t') first.1 in
    let a = mode_equal m m' first.0 in
    let b = kind_equal k k' second.0 in
    let c = same_equal t t' second.1 in
    cc
