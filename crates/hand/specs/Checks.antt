-- The checks of a hand station's block, in the order in which reading makes them. A hand station passes them all, always.
use Rattle.std.specs.Prelude.{ℕ, Bool, ◌&&◌, List, [], ◌∷◌, ◌==◌}
use Rattle.std.specs.Float.{binary32}
use Rattle.std.specs.Float.Ieee.{fits}
use Rattle.reals.specs.Numbers.{bottom, top}
use Rattle.terms.specs.declared.mode.Mode.TheVariants.{Man}
use Rattle.terms.specs.declared.place.Place.TheVariants as at
use Rattle.terms.specs.declared.refusal.Cause.TheVariants.{OutOfRange, ModeNotCarried}
use Rattle.block.specs.Key.{key_valid, mode_word}
use Rattle.block.specs.declared.checks.Check.{Check}
use Rattle.block.specs.Checks.{check, sound, is_finite, is_in}
use Rattle.hand.specs.declared.fields.Fields.{Fields}

-- the mode key, MV finite, MODE the MAN bit and no other, MV in its range; nothing else of the block is looked at
abbrev pub station_checks : Fields → ℕ → List Check
station_checks f mode =
    check (key_valid f.key) (OutOfRange at.ModeKey)
    ∷ is_finite at.Mv f.mv
    ∷ check (mode == mode_word f.key Man) ModeNotCarried
    ∷ is_in bottom top at.Mv f.mv
    ∷ []

-- the fields of a hand station, with the MODE word that it writes, pass every check, and binary32 holds MV
unfoldable pub good : Fields → Bool
good f = sound (station_checks f (mode_word f.key Man)) && fits binary32 f.mv
