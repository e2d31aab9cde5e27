-- What it says of a hand station's fields that they pass every check, by name. Assumes nothing.
use Rattle.std.specs.Prelude.{ℕ, T}
use Rattle.std.specs.Float.{binary32}
use Rattle.std.specs.Float.Ieee.{fits}
use Rattle.terms.specs.declared.mode.Mode.TheVariants.{Man}
use Rattle.block.specs.Key.{mode_word}
use Rattle.block.specs.Checks.{sound}
use Rattle.block.proofs.Passing.{both, split}
use Rattle.hand.specs.declared.fields.Fields.{Fields}
use Rattle.hand.specs.Checks.{station_checks, good}

-- the MODE word that a hand station writes
abbrev pub man_word : Fields → ℕ
man_word f = mode_word f.key Man

pub record Good (f : Fields) : Type 0 where
  pub checks : T (sound (station_checks f (man_word f)))
  pub kept : T (fits binary32 f.mv)

pub goodness : (f : Fields) → T (good f) → Good f
unfolding good
goodness f t = let a = split (sound (station_checks f (man_word f))) (fits binary32 f.mv) t in record { checks = a.0; kept = a.1 }

pub is_good : (f : Fields) → Good f → T (good f)
unfolding good
is_good f g = both _ _ g.checks g.kept
