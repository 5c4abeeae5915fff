-- Refusals that name no place of their own.
use Rattle.ckc_text.specs.declared.code.Code.TheVariants.{E09}
use Rattle.ckc_text.specs.declared.fault.SourceFault.{SourceFault}

-- what stands outside the language, at the start of the source
abbrev pub not_built : SourceFault
not_built = record { code = E09; span = record { from = 0; to = 0 } }
