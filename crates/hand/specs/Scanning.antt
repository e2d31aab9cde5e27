-- What a scan, a follow and an entry make of a hand station's fields, and what the fields tell. The mode is always MAN, so a station always holds.
use Rattle.std.specs.Prelude.{ℕ, Ok, Err, Option, Result, Float}
use Rattle.terms.specs.declared.mode.Mode.{Mode}
use Rattle.terms.specs.declared.mode.Mode.TheVariants.{Man, Aut, Cas}
use Rattle.terms.specs.declared.place.Place.TheVariants as at
use Rattle.terms.specs.declared.refusal.Cause.{Cause}
use Rattle.terms.specs.declared.refusal.Cause.TheVariants.{ModeNotCarried, NotAllowed}
use Rattle.terms.specs.declared.entry.Entry.{Entry}
use Rattle.terms.specs.declared.entry.Entry.TheVariants as entry
use Rattle.terms.specs.declared.told.Told.{Told}
use Rattle.reals.specs.Numbers.{zero, bottom, top}
use Rattle.block.specs.Bits.{stopped, with_spa, without_spa, tracking, with_trkf, alarms_off}
use Rattle.block.specs.Checks.{passed, ◌next◌}
use Rattle.loops.specs.Inputs.{percent_checks, inputs_passed}
use Rattle.hand.specs.declared.fields.Fields.{Fields}
use Rattle.hand.specs.Starting.{percent_of}

-- a scan that holds: MV stays, TRKF is set, the three alarms are cleared, and nothing else changes
abbrev pub held_fields : Fields → Fields
held_fields f = record { alm = alarms_off f.alm; inh = with_trkf f.inh; mv = f.mv; key = f.key }

-- an output that is taken: MV becomes p, TRKF is set, and nothing else changes
abbrev pub put_fields : Fields → Float → Fields
put_fields f p = record { alm = f.alm; inh = with_trkf f.inh; mv = p; key = f.key }

-- another word ALM, and nothing else changes
abbrev pub with_alm : Fields → ℕ → Fields
with_alm f alm = record { alm = alm; inh = f.inh; mv = f.mv; key = f.key }

-- a scan checks the remote value, where there is one, and then the measured value; it then holds, stopped or not
abbrev pub scan_of : Fields → Float → Option Float → Result Fields Cause
scan_of f m remote = inputs_passed m remote next λ _. Ok (held_fields f)

-- a follow takes a p that is finite and then lies in −10..110
abbrev pub follow_of : Fields → Float → Result Fields Cause
follow_of f p = passed (percent_checks at.Mv p) next λ _. Ok (put_fields f p)

-- MAN is the only mode that a hand station carries, and entering it changes nothing
abbrev pub mode_of : Fields → Mode → Result Fields Cause
mode_of f Man = Ok f
mode_of f Aut = Err ModeNotCarried
mode_of f Cas = Err ModeNotCarried

-- an output is checked and taken as a follow is, stop sets SPA and run clears it; a setpoint and limits are refused whatever their numbers
abbrev pub entry_of : Fields → Entry → Result Fields Cause
entry_of f (entry.Mode m) = mode_of f m
entry_of f (entry.Setpoint v) = Err (NotAllowed at.Sv)
entry_of f (entry.Output v) = follow_of f v
entry_of f (entry.Limits l) = Err (NotAllowed at.Mh)
entry_of f entry.Stop = Ok (with_alm f (with_spa f.alm))
entry_of f entry.Run = Ok (with_alm f (without_spa f.alm))

-- what the fields tell: MAN; SPA of ALM; TRKF of INH; MV; the limits −10, 110 and 0; E2 and S, which are MV brought into 0..100
abbrev pub told_of_fields : Fields → Told
told_of_fields f =
    record { mode = Man; stopped = stopped f.alm; tracking = tracking f.inh; mv = f.mv; ml = bottom; mh = top; dml = zero; e2 = percent_of f; s = percent_of f }
