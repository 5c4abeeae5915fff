-- An image, as its readers see it.
use Rattle.code_words.specs.declared.image.SideCode.{SideCode}
use Rattle.code_words.specs.declared.image.Layout.{Layout}

-- the code of both sides, and what ties them together
pub record Image : Type 0 where
  pub trusted : SideCode
  pub sandbox : SideCode
  pub layout : Layout
