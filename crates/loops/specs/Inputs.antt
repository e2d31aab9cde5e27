-- The checks of the percentages that are handed to a loop.
use Rattle.std.specs.Prelude.{cond, T, List, [], ◌∷◌, Some, None, Option, Result, Float}
use Rattle.std.specs.Float.{float_is_finite, binary32}
use Rattle.std.specs.Float.Ieee.{fits}
use Rattle.terms.specs.declared.place.Place.{Place}
use Rattle.terms.specs.declared.place.Place.TheVariants as at
use Rattle.terms.specs.declared.refusal.Cause.{Cause}
use Rattle.terms.specs.declared.refusal.Cause.TheVariants.{NotFinite, OutOfRange}
use Rattle.terms.specs.declared.entry.Limits.{Limits}
use Rattle.terms.specs.declared.entry.Entry.{Entry}
use Rattle.terms.specs.declared.entry.Entry.TheVariants as entry
use Rattle.reals.specs.Numbers.{bottom, top}
use Rattle.block.specs.declared.checks.Check.{Check}
use Rattle.block.specs.Checks.{passed, is_finite, is_in, ◌next◌}

-- a percentage is finite, and then lies in −10..110
abbrev pub percent_checks : Place → Float → List Check
percent_checks p x = is_finite p x ∷ is_in bottom top p x ∷ []

-- what a scan is handed: the remote value, where there is one, and then the measured value
abbrev pub inputs_passed : Float → Option Float → Result Unit Cause
inputs_passed m None = passed (percent_checks at.Measured m)
inputs_passed m (Some r) = passed (percent_checks at.Remote r) next λ _. passed (percent_checks at.Measured m)

-- the cause by which an output that is no percentage is refused
abbrev pub no_percent : Float → Cause
no_percent p = cond (float_is_finite p) (OutOfRange at.Mv) (NotFinite at.Mv)

-- ---- the reals that are handed in are binary32 numbers

abbrev pub RemoteHeld : Option Float → Type 0
RemoteHeld None = Unit {0}
RemoteHeld (Some r) = T (fits binary32 r)

abbrev pub LimitsHeld : Limits → Type 0
LimitsHeld l = T (fits binary32 l.mh) × T (fits binary32 l.ml) × T (fits binary32 l.dml)

abbrev pub EntryHeld : Entry → Type 0
EntryHeld (entry.Mode m) = Unit {0}
EntryHeld (entry.Setpoint v) = T (fits binary32 v)
EntryHeld (entry.Output v) = T (fits binary32 v)
EntryHeld (entry.Limits l) = LimitsHeld l
EntryHeld entry.Stop = Unit {0}
EntryHeld entry.Run = Unit {0}
