-- Starting a PID block that was read.
use Rattle.reals.specs.Numbers.{zero}
use Rattle.block.specs.Bits.{with_trkf}
use Rattle.pid_fields.specs.declared.fields.Past.{Past}
use Rattle.pid_fields.specs.declared.fields.Fields.{Fields}
use Rattle.pid_steps.specs.declared.scanning.State.{State}
use Rattle.pid_steps.specs.Setpoint.{percent_of}

-- a loop that was not scanned yet has S for its E2
abbrev pub aimed : Fields → State
aimed f = record { fields = f; e2 = percent_of f }

-- a cold start zeroes the past values of offsets 97 to 110 and sets TRKF; MVP stays
abbrev pub cold_past : Past → Past
cold_past p = record { mvp = p.mvp; b = zero; measured = zero; measured1 = zero; measured2 = zero; dv = zero }

abbrev pub cold_fields : Fields → Fields
cold_fields f =
    record {
      mode = f.mode;
      alm = f.alm;
      inh = with_trkf f.inh;
      mv = f.mv;
      sv = f.sv;
      counter = 0;
      bounds = f.bounds;
      tuning = f.tuning;
      past = cold_past f.past;
      settings = f.settings;
    }
