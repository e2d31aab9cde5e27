-- A whole scan of a PID loop: the first refusal, or the fields and E2 after it.
use Rattle.std.specs.Prelude.{cond, Some, None, Ok, Err, Option, Result, Float}
use Rattle.terms.specs.declared.mode.Mode.{Mode}
use Rattle.terms.specs.declared.place.Place.TheVariants as at
use Rattle.terms.specs.declared.refusal.Cause.{Cause}
use Rattle.terms.specs.declared.refusal.Cause.TheVariants.{NoFiniteResult}
use Rattle.terms.specs.declared.refusal.Step.{Step}
use Rattle.terms.specs.declared.refusal.Step.TheVariants as step
use Rattle.block.specs.Bits.{stopped, with_trkf}
use Rattle.block.specs.Checks.{passed, ◌next◌}
use Rattle.terms.specs.Modes.{manual}
use Rattle.loops.specs.Inputs.{percent_checks, inputs_passed}
use Rattle.pid_fields.specs.declared.fields.Past.{Past}
use Rattle.pid_fields.specs.declared.fields.Fields.{Fields}
use Rattle.pid_steps.specs.declared.setpoint.Aim.{Aim}
use Rattle.pid_steps.specs.declared.control.Control.{Control}
use Rattle.pid_steps.specs.declared.output.Drive.{Drive}
use Rattle.pid_steps.specs.declared.scanning.State.{State}
use Rattle.pid_steps.specs.Setpoint.{mode_of, aim_of}
use Rattle.pid_steps.specs.Control.{control_step, skipped}
use Rattle.pid_steps.specs.Output.{held, driven}

-- a step that came to no finite result is refused
abbrev pub or_refused : {A : Type 0} → Step → Option A → Result A Cause
or_refused n None = Err (NoFiniteResult n)
or_refused n (Some x) = Ok x

-- step 3, which a stopped loop skips
abbrev pub third : Fields → Mode → Float → Float → Result Control Cause
third f mode s m = cond (stopped f.alm) (Ok (skipped f)) (or_refused step.Control (control_step f mode s m))

-- step 4: by the mode after step 1 the loop holds or drives
abbrev pub fourth : Fields → Mode → Float → Result Drive Cause
fourth f mode change = cond (manual mode) (Ok (held f)) (or_refused step.Output (driven f change))

abbrev pub with_mvp : Past → Float → Past
with_mvp p mvp = record { mvp = mvp; b = p.b; measured = p.measured; measured1 = p.measured1; measured2 = p.measured2; dv = p.dv }

-- what the steps leave, put together
abbrev pub left_by : Fields → Mode → Aim → Control → Drive → State
left_by f mode a c d =
    record {
      fields =
          record {
            mode = mode;
            alm = d.alm;
            inh = d.inh;
            mv = d.mv;
            sv = a.sv;
            counter = c.counter;
            bounds = f.bounds;
            tuning = f.tuning;
            past = with_mvp c.past d.mvp;
            settings = f.settings;
          };
      e2 = a.e2;
    }

abbrev pub steps : Fields → Mode → Aim → Float → Result State Cause
steps f mode a m = third f mode a.s m next λ c. fourth f mode c.change next λ d. Ok (left_by f mode a c d)

-- a scan: the remote value and the measured value checked, then the four steps
abbrev pub scan_of : Fields → Float → Option Float → Result State Cause
scan_of f m remote = inputs_passed m remote next λ _. steps f (mode_of f) (aim_of (mode_of f) f.sv f.bounds remote) m

-- ---- a follow

-- MV becomes p and TRKF is set; MVP and all else stay
abbrev pub put_output : Fields → Float → Fields
put_output f p =
    record {
      mode = f.mode;
      alm = f.alm;
      inh = with_trkf f.inh;
      mv = p;
      sv = f.sv;
      counter = f.counter;
      bounds = f.bounds;
      tuning = f.tuning;
      past = f.past;
      settings = f.settings;
    }

-- p is finite, and lies in −10..110
abbrev pub follow_of : Fields → Float → Result Fields Cause
follow_of f p = passed (percent_checks at.Mv p) next λ _. Ok (put_output f p)
