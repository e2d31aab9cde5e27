-- The checks of a PID block, in the order in which reading makes them. A loop passes them all, always.
use Rattle.std.specs.Prelude.{ℕ, max, Bool, ◌&&◌, List, [], ◌∷◌, nat_le, nat_lt, Float}
use Rattle.std.specs.Float.{binary32}
use Rattle.std.specs.Float.Ieee.{lt, le, sub, div, to_unsigned, fits}
use Rattle.terms.specs.declared.place.Place.TheVariants as at
use Rattle.terms.specs.declared.refusal.Cause.TheVariants.{OutOfRange, LimitsCrossed, SpanTooSmall, PeriodTooLong}
use Rattle.block.specs.Key.{key_valid}
use Rattle.block.specs.declared.checks.Check.{Check}
use Rattle.block.specs.Checks.{check, is_finite, is_in, sound, all}
use Rattle.pid_fields.specs.declared.fields.Settings.{Settings}
use Rattle.pid_fields.specs.declared.fields.Tuning.{Tuning}
use Rattle.pid_fields.specs.declared.fields.Past.{Past}
use Rattle.pid_fields.specs.declared.fields.Fields.{Fields}
use Rattle.reals.specs.Numbers.{zero, hundred, bottom, top, least, most, narrowest, longest}

-- N, the number of scans in a control period: the whole part of CT ÷ ΔT, or 1 where that is below 1
abbrev pub periods : Float → Float → ℕ
periods ct dt = max 1 (to_unsigned 16 (div binary32 ct dt))

-- ΔT is above 0 and at most 999999
abbrev pub period_ok : Float → Bool
period_ok dt = lt zero dt && le dt most

-- each setting finite and then in its range; key and PN are whole numbers
abbrev pub settings_checks : Settings → List Check
settings_checks st =
    check (key_valid st.key) (OutOfRange at.ModeKey)
    ∷ is_finite at.ScanPeriod st.dt
    ∷ check (period_ok st.dt) (OutOfRange at.ScanPeriod)
    ∷ is_finite at.Md st.md
    ∷ is_in zero most at.Md st.md
    ∷ check (nat_le st.pn 1) (OutOfRange at.Pn)
    ∷ []

-- every real finite, offsets rising
abbrev pub finite_checks : Fields → List Check
finite_checks f =
    is_finite at.Mv f.mv
    ∷ is_finite at.Sv f.sv
    ∷ is_finite at.Mh f.bounds.mh
    ∷ is_finite at.Ml f.bounds.ml
    ∷ is_finite at.Rh f.bounds.rh
    ∷ is_finite at.Rl f.bounds.rl
    ∷ is_finite at.Ct f.tuning.ct
    ∷ is_finite at.Dml f.tuning.dml
    ∷ is_finite at.P f.tuning.p
    ∷ is_finite at.Ti f.tuning.ti
    ∷ is_finite at.Td f.tuning.td
    ∷ is_finite at.Gw f.tuning.gw
    ∷ is_finite at.Gg f.tuning.gg
    ∷ is_finite at.Mvp f.past.mvp
    ∷ is_finite at.B f.past.b
    ∷ is_finite at.Measured f.past.measured
    ∷ is_finite at.Measured1 f.past.measured1
    ∷ is_finite at.Measured2 f.past.measured2
    ∷ is_finite at.LastDv f.past.dv
    ∷ []

-- ranges, offsets rising, SV and the counter left for the end
abbrev pub range_checks : Fields → List Check
range_checks f =
    is_in bottom top at.Mv f.mv
    ∷ is_in bottom top at.Mh f.bounds.mh
    ∷ is_in bottom top at.Ml f.bounds.ml
    ∷ is_in least most at.Rh f.bounds.rh
    ∷ is_in least most at.Rl f.bounds.rl
    ∷ is_in zero most at.Ct f.tuning.ct
    ∷ is_in zero hundred at.Dml f.tuning.dml
    ∷ is_in zero most at.P f.tuning.p
    ∷ is_in zero most at.Ti f.tuning.ti
    ∷ is_in zero most at.Td f.tuning.td
    ∷ is_in zero hundred at.Gw f.tuning.gw
    ∷ is_in zero most at.Gg f.tuning.gg
    ∷ []

-- ML at most MH, RH − RL at least 1/1024, CT ÷ ΔT at most 32767; then SV and the counter
abbrev pub relation_checks : Fields → List Check
relation_checks f =
    check (le f.bounds.ml f.bounds.mh) LimitsCrossed
    ∷ check (le narrowest (sub binary32 f.bounds.rh f.bounds.rl)) SpanTooSmall
    ∷ check (le (div binary32 f.tuning.ct f.settings.dt) longest) PeriodTooLong
    ∷ is_in f.bounds.rl f.bounds.rh at.Sv f.sv
    ∷ check (nat_lt f.counter (periods f.tuning.ct f.settings.dt)) (OutOfRange at.Counter)
    ∷ []

-- ---- the fields of a loop pass every check, and binary32 holds each of their reals

abbrev pub held : Fields → List Bool
held f =
    fits binary32 f.mv ∷ fits binary32 f.sv
    ∷ fits binary32 f.bounds.mh ∷ fits binary32 f.bounds.ml ∷ fits binary32 f.bounds.rh ∷ fits binary32 f.bounds.rl
    ∷ fits binary32 f.settings.dt ∷ fits binary32 f.settings.md ∷ []

abbrev pub tuning_held : Tuning → List Bool
tuning_held t =
    fits binary32 t.ct ∷ fits binary32 t.dml ∷ fits binary32 t.p ∷ fits binary32 t.ti ∷ fits binary32 t.td
    ∷ fits binary32 t.gw ∷ fits binary32 t.gg ∷ []

abbrev pub past_held : Past → List Bool
past_held p =
    fits binary32 p.mvp ∷ fits binary32 p.b ∷ fits binary32 p.measured ∷ fits binary32 p.measured1 ∷ fits binary32 p.measured2
    ∷ fits binary32 p.dv ∷ []

unfoldable pub good : Fields → Bool
good f =
    sound (settings_checks f.settings)
    && (sound (finite_checks f)
    && (sound (range_checks f)
    && (sound (relation_checks f)
    && (all (held f) && (all (tuning_held f.tuning) && all (past_held f.past))))))

-- E2, which no block holds: a remote value, or the setpoint in percent
unfoldable pub good_e2 : Float → Bool
good_e2 e2 = le bottom e2 && (le e2 top && fits binary32 e2)
