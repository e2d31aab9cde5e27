-- What is asked of a mode.
use Rattle.std.specs.Prelude.{Bool, true, false}
use Rattle.terms.specs.declared.mode.Mode.{Mode}
use Rattle.terms.specs.declared.mode.Mode.TheVariants.{Man, Aut, Cas}

abbrev pub manual : Mode → Bool
manual Man = true
manual Aut = false
manual Cas = false

abbrev pub in_cascade : Mode → Bool
in_cascade Man = false
in_cascade Aut = false
in_cascade Cas = true
