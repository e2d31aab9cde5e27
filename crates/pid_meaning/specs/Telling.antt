-- What a PID loop tells.
use Rattle.terms.specs.declared.told.Told.{Told}
use Rattle.block.specs.Bits.{stopped, tracking}
use Rattle.pid_steps.specs.declared.scanning.State.{State}
use Rattle.pid_steps.specs.Setpoint.{percent_of}

-- its fields by name, SPA and TRKF as they stand in ALM and INH, and S as computed from SV
abbrev pub told_state : State → Told
told_state k =
    record {
      mode = k.fields.mode;
      stopped = stopped k.fields.alm;
      tracking = tracking k.fields.inh;
      mv = k.fields.mv;
      ml = k.fields.bounds.ml;
      mh = k.fields.bounds.mh;
      dml = k.fields.tuning.dml;
      e2 = k.e2;
      s = percent_of k.fields;
    }
