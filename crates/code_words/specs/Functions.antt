-- Functions of an image and tainted functions, as their readers see them.
use Rattle.std.specs.Prelude.{ℕ, List}
use Rattle.marshalling.specs.declared.kind.WordKind.{WordKind}
use Rattle.code_words.specs.declared.op.Op.{Op}

-- the number and name of a function, the number of its arguments, the words of its frame, what it returns, and its instructions
pub record Func : Type 0 where
  pub number : ℕ
  pub name : List ℕ
  pub args : ℕ
  pub slots : ℕ
  pub stack : ℕ
  pub result : WordKind
  pub ops : List Op

-- the number and name of a tainted function, the number of its arguments, and what it returns
pub record Import : Type 0 where
  pub number : ℕ
  pub name : List ℕ
  pub args : ℕ
  pub result : WordKind
