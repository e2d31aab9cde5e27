-- An operator's entry to a PID loop: the checks, in their order, and the fields after it. E2 waits for the next scan.
use Rattle.std.specs.Prelude.{ℕ, not, List, [], ◌∷◌, Ok, Result, Float}
use Rattle.std.specs.Float.Ieee.{le}
use Rattle.terms.specs.declared.mode.Mode.{Mode}
use Rattle.terms.specs.declared.place.Place.TheVariants as at
use Rattle.terms.specs.declared.refusal.Cause.{Cause}
use Rattle.terms.specs.declared.refusal.Cause.TheVariants.{NotAllowed, LimitsCrossed}
use Rattle.terms.specs.declared.entry.Limits.{Limits}
use Rattle.terms.specs.declared.entry.Entry.{Entry}
use Rattle.terms.specs.declared.entry.Entry.TheVariants as entry
use Rattle.reals.specs.Numbers.{zero, hundred, bottom, top}
use Rattle.block.specs.Bits.{with_spa, without_spa}
use Rattle.block.specs.declared.checks.Check.{Check}
use Rattle.block.specs.Checks.{check, passed, is_finite, is_in, ◌next◌}
use Rattle.terms.specs.Modes.{manual, in_cascade}
use Rattle.loops.specs.Inputs.{percent_checks}
use Rattle.pid_fields.specs.declared.fields.Fields.{Fields}
use Rattle.pid_steps.specs.Scanning.{put_output}

-- a setpoint is not taken in cascade; it is finite, and lies in RL..RH
abbrev pub setpoint_checks : Fields → Float → List Check
setpoint_checks f v = check (not (in_cascade f.mode)) (NotAllowed at.Sv) ∷ is_finite at.Sv v ∷ is_in f.bounds.rl f.bounds.rh at.Sv v ∷ []

-- an output is taken in MAN only; it is finite, and lies in −10..110
abbrev pub output_checks : Fields → Float → List Check
output_checks f v = check (manual f.mode) (NotAllowed at.Mv) ∷ percent_checks at.Mv v

-- limits are finite, lie in their ranges, and ML is at most MH; each kind of check goes over MH, ML and DML
abbrev pub limits_checks : Limits → List Check
limits_checks l =
    is_finite at.Mh l.mh ∷ is_finite at.Ml l.ml ∷ is_finite at.Dml l.dml
    ∷ is_in bottom top at.Mh l.mh ∷ is_in bottom top at.Ml l.ml ∷ is_in zero hundred at.Dml l.dml
    ∷ check (le l.ml l.mh) LimitsCrossed
    ∷ []

abbrev pub entry_checks : Fields → Entry → List Check
entry_checks f (entry.Mode m) = []
entry_checks f (entry.Setpoint v) = setpoint_checks f v
entry_checks f (entry.Output v) = output_checks f v
entry_checks f (entry.Limits l) = limits_checks l
entry_checks f entry.Stop = []
entry_checks f entry.Run = []

-- ---- what an accepted entry leaves

-- the fields with another mode, ALM and SV
abbrev pub with_state : Fields → Mode → ℕ → Float → Fields
with_state f mode alm sv =
    record {
      mode = mode;
      alm = alm;
      inh = f.inh;
      mv = f.mv;
      sv = sv;
      counter = f.counter;
      bounds = f.bounds;
      tuning = f.tuning;
      past = f.past;
      settings = f.settings;
    }

-- the fields with other limits
abbrev pub with_limits : Fields → Limits → Fields
with_limits f l =
    record {
      mode = f.mode;
      alm = f.alm;
      inh = f.inh;
      mv = f.mv;
      sv = f.sv;
      counter = f.counter;
      bounds = record { mh = l.mh; ml = l.ml; rh = f.bounds.rh; rl = f.bounds.rl };
      tuning = record { ct = f.tuning.ct; dml = l.dml; p = f.tuning.p; ti = f.tuning.ti; td = f.tuning.td; gw = f.tuning.gw; gg = f.tuning.gg };
      past = f.past;
      settings = f.settings;
    }

abbrev pub entered_fields : Fields → Entry → Fields
entered_fields f (entry.Mode m) = with_state f m f.alm f.sv
entered_fields f (entry.Setpoint v) = with_state f f.mode f.alm v
entered_fields f (entry.Output v) = put_output f v
entered_fields f (entry.Limits l) = with_limits f l
entered_fields f entry.Stop = with_state f f.mode (with_spa f.alm) f.sv
entered_fields f entry.Run = with_state f f.mode (without_spa f.alm) f.sv

abbrev pub entry_of : Fields → Entry → Result Fields Cause
entry_of f e = passed (entry_checks f e) next λ _. Ok (entered_fields f e)
