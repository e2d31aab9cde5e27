-- Step 3 of a scan: the control step. Each operation is checked where it is carried out: the first whose outcome is not finite ends the step.
use Rattle.std.specs.Prelude.{ℕ, ◌+◌, Bool, false, cond, ◌&&◌, ◌||◌, Some, Option, ◌==◌, nat_lt, Float}
use Rattle.std.specs.Float.Ieee.{lt, le, eq, neg}
use Rattle.std.specs.Float.{float_with_sign}
use Rattle.terms.specs.declared.mode.Mode.{Mode}
use Rattle.reals.specs.Numbers.{zero, one, two}
use Rattle.reals.specs.Checked.{plus, minus, times, over, ◌then◌}
use Rattle.terms.specs.Modes.{manual}
use Rattle.pid_fields.specs.declared.fields.Settings.{Settings}
use Rattle.pid_fields.specs.declared.fields.Bounds.{Bounds}
use Rattle.pid_fields.specs.declared.fields.Tuning.{Tuning}
use Rattle.pid_fields.specs.declared.fields.Past.{Past}
use Rattle.pid_fields.specs.declared.fields.Fields.{Fields}
use Rattle.pid_fields.specs.Checks.{periods}
use Rattle.pid_steps.specs.declared.control.Control.{Control}

-- |x|
abbrev pub size : Float → Float
size x = float_with_sign false x

-- PN 1 is direct action, and 0 reverse action
abbrev pub direct : Settings → Bool
direct st = st.pn == 1

-- DV = m − S in direct action, S − m in reverse action
abbrev pub deviation : Settings → Float → Float → Option Float
deviation st s m = cond (direct st) (minus m s) (minus s m)

-- K = GG where |DV| ≤ GW, else 1 − ((1 − GG) × GW) ÷ |DV|
abbrev pub gap_gain : Tuning → Float → Option Float
gap_gain t dv = cond (le (size dv) t.gw) (Some t.gg) (minus one t.gg then λ a. times a t.gw then λ b. over b (size dv) then λ c. minus one c)

-- s = (m − 2 × p1) + p2, negated in reverse action; p1 and p2 are the measured values of offsets 104 and 106
abbrev pub bend : Settings → Past → Float → Option Float
bend st p m = times two p.measured then λ a. minus m a then λ b. plus b p.measured1 then λ s. Some (cond (direct st) s (neg s))

-- B = Bp + ((MD × TD) ÷ (MD × CT + TD)) × (s − (CT × Bp) ÷ TD), with Bp the old B; 0 where TD = 0 or the mode is MAN
abbrev pub derivative : Tuning → Settings → Mode → Past → Float → Option Float
derivative t st mode p m =
    cond (eq t.td zero || manual mode) (Some zero)
    (bend st p m then λ s.
    times st.md t.td then λ a.
    times st.md t.ct then λ b.
    plus b t.td then λ c.
    over a c then λ d.
    times t.ct p.b then λ e.
    over e t.td then λ g.
    minus s g then λ h.
    times d h then λ i.
    plus p.b i)

-- J is cut off, to 0, where it would drive MVP further out of ML..MH: where MVP > MH and J > 0, or MVP < ML and J < 0
abbrev pub cut_off : Bounds → Float → Float → Float
cut_off b mvp j = cond ((lt b.mh mvp && lt zero j) || (lt mvp b.ml && lt j zero)) zero j

-- J = (CT ÷ TI) × DV, cut off; 0 where TI = 0
abbrev pub integral : Tuning → Bounds → Float → Float → Option Float
integral t b mvp dv = cond (eq t.ti zero) (Some zero) (over t.ct t.ti then λ a. times a dv then λ j. Some (cut_off b mvp j))

-- change = (K × P) × (((DV − last DV) + J) + B)
abbrev pub change_of : Float → Float → Float → Float → Float → Float → Option Float
change_of k p dv last j b = times k p then λ a. minus dv last then λ c. plus c j then λ d. plus d b then λ e. times a e

-- the past values renewed: B, the measured values moved on by one, the deviation; MVP waits for step 4
abbrev pub renewed : Past → Float → Float → Float → Past
renewed p m dv b = record { mvp = p.mvp; b = b; measured = m; measured1 = p.measured; measured2 = p.measured1; dv = dv }

-- a control period, in MAN too: the change, and the past values renewed
abbrev pub control_period : Fields → Mode → Float → Float → Option Control
control_period f mode s m =
    deviation f.settings s m then λ dv.
    gap_gain f.tuning dv then λ k.
    derivative f.tuning f.settings mode f.past m then λ b.
    integral f.tuning f.bounds f.past.mvp dv then λ j.
    change_of k f.tuning.p dv f.past.dv j b then λ x.
    Some (record { change = x; counter = 0; past = renewed f.past m dv b })

-- N, the number of scans in a control period
abbrev pub scans_in_period : Fields → ℕ
scans_in_period f = periods f.tuning.ct f.settings.dt

-- the counter goes up by 1; where it reaches N it becomes 0, and this is a control period; outside one the change is 0 and nothing else is computed
abbrev pub control_step : Fields → Mode → Float → Float → Option Control
control_step f mode s m =
    cond (nat_lt (f.counter + 1) (scans_in_period f)) (Some (record { change = zero; counter = f.counter + 1; past = f.past })) (control_period f mode s m)

-- a stopped loop skips the step
abbrev pub skipped : Fields → Control
skipped f = record { change = zero; counter = f.counter; past = f.past }
