-- Reading a PID block: the fields that its words hold, or the first refusal.
use Rattle.std.specs.Prelude.{ℕ, List, [], ◌∷◌, is_some, Ok, Option, Result}
use Rattle.std.specs.Option.{unwrap_or}
use Rattle.terms.specs.declared.mode.Mode.{Mode}
use Rattle.terms.specs.declared.mode.Mode.TheVariants.{Man}
use Rattle.terms.specs.declared.place.Place.TheVariants as at
use Rattle.terms.specs.declared.refusal.Cause.{Cause}
use Rattle.terms.specs.declared.refusal.Cause.TheVariants.{ModeNotCarried}
use Rattle.block.specs.Words.{word_at, real_at}
use Rattle.block.specs.Key.{mode_in}
use Rattle.block.specs.declared.checks.Check.{Check}
use Rattle.block.specs.Checks.{check, length_checks, passed, ◌next◌}
use Rattle.pid_fields.specs.declared.fields.Settings.{Settings}
use Rattle.pid_fields.specs.declared.fields.Bounds.{Bounds}
use Rattle.pid_fields.specs.declared.fields.Tuning.{Tuning}
use Rattle.pid_fields.specs.declared.fields.Past.{Past}
use Rattle.pid_fields.specs.declared.fields.Fields.{Fields}
use Rattle.pid_fields.specs.Checks.{settings_checks, finite_checks, range_checks, relation_checks}

-- ---- the fields that the words hold

abbrev pub bounds_of : List ℕ → Bounds
bounds_of ws = record { mh = real_at ws at.Mh; ml = real_at ws at.Ml; rh = real_at ws at.Rh; rl = real_at ws at.Rl }

abbrev pub tuning_of : List ℕ → Tuning
tuning_of ws =
    record {
      ct = real_at ws at.Ct;
      dml = real_at ws at.Dml;
      p = real_at ws at.P;
      ti = real_at ws at.Ti;
      td = real_at ws at.Td;
      gw = real_at ws at.Gw;
      gg = real_at ws at.Gg;
    }

abbrev pub past_of : List ℕ → Past
past_of ws =
    record {
      mvp = real_at ws at.Mvp;
      b = real_at ws at.B;
      measured = real_at ws at.Measured;
      measured1 = real_at ws at.Measured1;
      measured2 = real_at ws at.Measured2;
      dv = real_at ws at.LastDv;
    }

-- the mode that MODE names: exactly one of the key's bits, and no other bit
abbrev pub mode_named : List ℕ → Settings → Option Mode
mode_named ws st = mode_in st.key (word_at ws at.Mode)

-- MAN stands in where MODE names no mode; such words are refused
abbrev pub or_man : Option Mode → Mode
or_man named = unwrap_or named Man

abbrev pub fields_with : List ℕ → Settings → Mode → Fields
fields_with ws st m =
    record {
      mode = m;
      alm = word_at ws at.Alm;
      inh = word_at ws at.Inh;
      mv = real_at ws at.Mv;
      sv = real_at ws at.Sv;
      counter = word_at ws at.Counter;
      bounds = bounds_of ws;
      tuning = tuning_of ws;
      past = past_of ws;
      settings = st;
    }

abbrev pub fields_of : List ℕ → Settings → Fields
fields_of ws st = fields_with ws st (or_man (mode_named ws st))

abbrev pub mode_checks : List ℕ → Settings → List Check
mode_checks ws st = check (is_some (mode_named ws st)) ModeNotCarried ∷ []

-- ---- what reading comes to: the checks in their order, and then the fields

abbrev pub checked_of : List ℕ → Settings → Result Fields Cause
checked_of ws st =
    passed (length_checks ws)
    next λ _. passed (settings_checks st)
    next λ _. passed (finite_checks (fields_of ws st))
    next λ _. passed (mode_checks ws st)
    next λ _. passed (range_checks (fields_of ws st))
    next λ _. passed (relation_checks (fields_of ws st))
    next λ _. Ok (fields_of ws st)
