-- The number and the place of each refusal, case by case.
use Rattle.std.specs.Prelude.{ℕ}
use Rattle.terms.specs.declared.place.Place.{Place}
use Rattle.terms.specs.declared.place.Place.TheVariants as at
use Rattle.terms.specs.declared.refusal.Cause.{Cause}
use Rattle.terms.specs.declared.refusal.Cause.TheVariants.{WrongLength, NotFinite, OutOfRange, ModeNotCarried, LimitsCrossed, SpanTooSmall, PeriodTooLong, NotAllowed, NoFiniteResult}
use Rattle.terms.specs.declared.refusal.Step.{Step}
use Rattle.terms.specs.declared.refusal.Step.TheVariants.{Control, Output}
use Rattle.terms.specs.declared.refusal.Refusal.{Refusal}

-- a field's offset, or the number of a value handed in
abbrev pub place_number : Place → ℕ
place_number at.Mode = 1
place_number at.Alm = 3
place_number at.Inh = 4
place_number at.Mv = 12
place_number at.Sv = 14
place_number at.Dv = 16
place_number at.Mh = 18
place_number at.Ml = 20
place_number at.Rh = 22
place_number at.Rl = 24
place_number at.Ct = 46
place_number at.Dml = 48
place_number at.P = 52
place_number at.Ti = 54
place_number at.Td = 56
place_number at.Gw = 58
place_number at.Gg = 60
place_number at.Mvp = 62
place_number at.Counter = 97
place_number at.B = 102
place_number at.Measured = 104
place_number at.Measured1 = 106
place_number at.Measured2 = 108
place_number at.LastDv = 110
place_number at.ModeKey = 128
place_number at.ScanPeriod = 129
place_number at.Md = 130
place_number at.Remote = 131
place_number at.Pn = 145

-- a step of a scan, by its number
abbrev pub step_number : Step → ℕ
step_number Control = 3
step_number Output = 4

abbrev pub cause_number : Cause → ℕ
cause_number WrongLength = 1
cause_number (NotFinite p) = 2
cause_number (OutOfRange p) = 3
cause_number ModeNotCarried = 4
cause_number LimitsCrossed = 6
cause_number SpanTooSmall = 6
cause_number PeriodTooLong = 6
cause_number (NotAllowed p) = 7
cause_number (NoFiniteResult s) = 9

abbrev pub cause_place : Cause → ℕ
cause_place WrongLength = 0
cause_place (NotFinite p) = place_number p
cause_place (OutOfRange p) = place_number p
cause_place ModeNotCarried = place_number at.Mode
cause_place LimitsCrossed = place_number at.Ml
cause_place SpanTooSmall = place_number at.Rl
cause_place PeriodTooLong = place_number at.Ct
cause_place (NotAllowed p) = place_number p
cause_place (NoFiniteResult s) = step_number s

-- a refusal of a call without levels
abbrev pub refused : Cause → Refusal
refused c = record { cause = c; level = 0 }
