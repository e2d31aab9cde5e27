-- Step 4 of a scan: the output step. Its operations are checked as those of step 3 are; MV − DML and MV + DML are finite for every loop within its ranges.
use Rattle.std.specs.Prelude.{cond, ◌||◌, Some, Option, Float}
use Rattle.std.specs.Float.Ieee.{lt, eq}
use Rattle.reals.specs.Numbers.{zero, one}
use Rattle.reals.specs.Reals.{brought, less, more}
use Rattle.reals.specs.Checked.{plus, minus, times, over, ◌then◌}
use Rattle.block.specs.declared.bits.Alarms.{Alarms}
use Rattle.block.specs.Bits.{tracking, with_trkf, without_trkf, alarms_off, alarms_made}
use Rattle.pid_fields.specs.declared.fields.Fields.{Fields}
use Rattle.pid_steps.specs.declared.output.Drive.{Drive}

-- a loop that is stopped or in MAN holds: MV stays, TRKF is set, DMLA, MHA and MLA are cleared
abbrev pub held : Fields → Drive
held f = record { mv = f.mv; mvp = f.past.mvp; alm = alarms_off f.alm; inh = with_trkf f.inh }

-- T = change + MVP; with TRKF set, MVP counts as MV and the change as 0
abbrev pub target : Fields → Float → Option Float
target f change = cond (tracking f.inh) (plus zero f.mv) (plus change f.past.mvp)

-- T1 is T brought into (MV − DML)..(MV + DML)
abbrev pub stepped : Fields → Float → Float
stepped f t = brought t (less f.mv f.tuning.dml) (more f.mv f.tuning.dml)

-- the new MV is T1 brought into ML..MH
abbrev pub limited : Fields → Float → Float
limited f t = brought (stepped f t) f.bounds.ml f.bounds.mh

-- DMLA tells that T lay outside the step's band, MHA that T1 > MH, MLA that T1 < ML
abbrev pub alarms_of : Fields → Float → Alarms
alarms_of f t =
    record {
      dmla = lt t (less f.mv f.tuning.dml) || lt (more f.mv f.tuning.dml) t;
      mha = lt f.bounds.mh (stepped f t);
      mla = lt (stepped f t) f.bounds.ml;
    }

-- r = ΔT ÷ TI, or 1 where that is greater; MVP = r × (limit − T) + T
abbrev pub pulled : Fields → Float → Float → Option Float
pulled f limit t = over f.settings.dt f.tuning.ti then λ a. minus limit t then λ b. times (cond (lt one a) one a) b then λ c. plus c t

-- MVP after the anti-windup: T, but pulled towards MH or ML where TI ≠ 0 and T lies beyond it
abbrev pub unwound : Fields → Float → Option Float
unwound f t =
    cond (eq f.tuning.ti zero) (Some t)
    (cond (lt f.bounds.mh t) (pulled f f.bounds.mh t) (cond (lt t f.bounds.ml) (pulled f f.bounds.ml t) (Some t)))

-- a loop that drives: TRKF is cleared
abbrev pub driven_by : Fields → Float → Float → Drive
driven_by f t mvp = record { mv = limited f t; mvp = mvp; alm = alarms_made f.alm f.inh (alarms_of f t); inh = without_trkf f.inh }

abbrev pub driven : Fields → Float → Option Drive
driven f change = target f change then λ t. unwound f t then λ mvp. Some (driven_by f t mvp)
