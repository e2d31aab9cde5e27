-- An accepted scan or follow of a PID loop keeps the meaning of a loop, and every check of its block. Assumes nothing.
use Rattle.std.proofs.Common.{◌≡◌, Bool, true, false, cond, ◌||◌, T, Some, None, Ok, Option, refl, true≢false}
use lib.Ieee.{Float, binary32, fits}
use Rattle.terms.specs.declared.mode.Mode.{Mode}
use Rattle.terms.specs.declared.mode.Mode.TheVariants.{Man, Aut, Cas}
use Rattle.terms.specs.declared.told.Told.{Told}
use Rattle.reals.specs.Numbers.{zero, hundred, bottom, top}
use Rattle.reals.specs.Reals.{Within, Same}
use Rattle.block.specs.Bits.{stopped, tracking}
use Rattle.block.proofs.Passing.{OnOk, next_on, next_any}
use Rattle.terms.specs.Modes.{manual, in_cascade}
use Rattle.loops.specs.Meaning.{SameLimits, Moved, Aimed, Scanned}
use Rattle.loops.specs.Inputs.{RemoteHeld}
use Rattle.loops.proofs.Given.{self, RemoteIn, inputs_on, finite_percent}
use Rattle.pid_fields.specs.declared.fields.Fields.{Fields}
use Rattle.pid_fields.specs.Checks.{good, good_e2}
use Rattle.pid_fields.proofs.Goodness.{Good}
use Rattle.pid_steps.specs.declared.control.Control.{Control}
use Rattle.pid_steps.specs.declared.output.Drive.{Drive}
use Rattle.pid_steps.specs.declared.scanning.State.{State}
use Rattle.pid_steps.specs.Setpoint.{percent_at, percent_of, mode_of, aim_of}
use Rattle.pid_steps.specs.Scanning.{third, with_mvp, left_by, scan_of}
use Rattle.pid_meaning.specs.Telling.{told_state}
use Rattle.pid_meaning.proofs.Facts.{Facts, facts_of}
use Rattle.pid_meaning.proofs.Setpoints.{percent_in, aim_sv, aim_e2}
use Rattle.pid_meaning.proofs.Renewals.{Renewal, good_renewed}
use Rattle.pid_meaning.proofs.Controls.{Controlled, third_on}
use Rattle.pid_meaning.proofs.Drives.{Moves, Driven, fourth_on}

-- a state that passes every check
pub record Sound (j : State) : Type 0 where
  pub fields : T (good j.fields)
  pub aim : T (good_e2 j.e2)

module _ (k : State) (g : Good k.fields) where
  abbrev f : Fields
  f = k.fields

  abbrev t : Told
  t = told_state k

  known : Facts f
  known = facts_of f g

  abbrev aim_sv_of : Option Float → Float
  aim_sv_of r = (aim_of (mode_of f) f.sv f.bounds r).sv

  same_percent : (sv : Float) → Within sv f.bounds.rl f.bounds.rh → Same (percent_at sv f.bounds) (percent_at sv f.bounds)
  same_percent sv w = self _ zero hundred (percent_in f known sv w)

  pub same_s : Same (percent_of f) (percent_of f)
  same_s = same_percent f.sv known.sv

  pub same_limits : (u : Told) → u.ml ≡ t.ml → u.mh ≡ t.mh → u.dml ≡ t.dml → SameLimits t u
  same_limits u a b c = rw (a, b, c) (record { ml = self _ _ _ known.ml; mh = self _ _ _ known.mh; dml = self _ _ _ known.dml })

  -- ---- a scan

  as_moved : (hold tracked : Bool) (d : Drive) (u : Told) → u.mv ≡ d.mv → u.tracking ≡ tracking d.inh → Moves hold tracked f d → Moved hold tracked t u
  as_moved true tracked d u a b p = rw (a, b) p
  as_moved false true d u a b p = rw (a, b) p
  as_moved false false d u a b p = rw a p

  -- the mode after step 1 is MAN just where the loop holds
  moved : (stop : Bool) (mode : Mode) (tracked : Bool) (d : Drive) (u : Told) → u.mv ≡ d.mv → u.tracking ≡ tracking d.inh → Moves (manual (cond stop Man mode)) tracked f d → Moved (stop || manual mode) tracked t u
  moved true mode tracked d u a b p = as_moved true tracked d u a b p
  moved false mode tracked d u a b p = as_moved (manual mode) tracked d u a b p

  aimed : (mode : Mode) (r : Option Float) (u : Told) → RemoteIn r → u.e2 ≡ (aim_of mode f.sv f.bounds r).e2 → u.s ≡ percent_at (aim_of mode f.sv f.bounds r).sv f.bounds → Aimed (in_cascade mode) r u
  aimed Man r u i a b = rw (a, b) same_s
  aimed Aut r u i a b = rw (a, b) same_s
  aimed Cas None u i a b = rw (a, b) same_s
  aimed Cas (Some r) u i a b = rw a (self r bottom top i)

  s_stays : (mode : Mode) (r : Option Float) → in_cascade mode ≡ false → Same (percent_at (aim_of mode f.sv f.bounds r).sv f.bounds) (percent_of f)
  s_stays Man r e = same_s
  s_stays Aut r e = same_s
  s_stays Cas r e = absurd (true≢false e)

  scanned_law : (r : Option Float) (c : Control) (d : Drive) → RemoteIn r → Driven (manual (mode_of f)) f d → Scanned false r t (told_state (left_by f (mode_of f) (aim_of (mode_of f) f.sv f.bounds r) c d))
  scanned_law r c d i h =
      let u = told_state (left_by f (mode_of f) (aim_of (mode_of f) f.sv f.bounds r) c d) in
      record {
        moved = moved (stopped f.alm) f.mode (tracking f.inh) d u refl refl h.moves;
        e2 = aimed (mode_of f) r u i refl refl;
        s = s_stays (mode_of f) r;
        mode = refl;
        stopped = h.stays_stopped;
        limits = same_limits u refl refl refl;
      }

  -- what an accepted scan does
  pub scans_on : (m : Float) (r : Option Float) → OnOk (λ j. Scanned false r t (told_state j)) (scan_of f m r)
  scans_on m r =
      let mode = mode_of f in
      next_on (λ _. Within m bottom top × RemoteIn r) _ _ _ (inputs_on m r) λ _ i.
      next_any _ (third f mode (aim_of mode f.sv f.bounds r).s m) _ λ c.
      next_on _ _ _ _ (fourth_on f g mode c.change) λ d h.
      scanned_law r c d i.1 h

  -- ---- what it leaves passes every check

  renewal : (r : Option Float) (c : Control) (d : Drive) → RemoteIn r → Controlled f c → Driven (manual (mode_of f)) f d → Renewal f d.mv (aim_sv_of r) c.counter (with_mvp c.past d.mvp)
  renewal r c d i q h =
      let a = aim_sv f known (mode_of f) r i in
      let p = q.past in
      record {
        mv_in = h.mv_in;
        mv_fits = h.mv_fits;
        sv_in = a.0;
        sv_fits = a.1;
        counted = q.counted;
        past_held = record { mvp = h.mvp; b = p.b; measured = p.measured; measured1 = p.measured1; measured2 = p.measured2; dv = p.dv };
      }

  pub scans_keep : (m : Float) (r : Option Float) → T (fits binary32 m) → RemoteHeld r → OnOk Sound (scan_of f m r)
  scans_keep m r fm fr =
      let mode = mode_of f in
      let aim = aim_of mode f.sv f.bounds r in
      next_on (λ _. Within m bottom top × RemoteIn r) _ _ _ (inputs_on m r) λ _ i.
      next_on (Controlled f) _ _ _ (third_on f g mode aim.s m (record { is_finite = finite_percent m i.0; is_fit = fm })) λ c q.
      next_on _ Sound _ (λ d. Ok (left_by f mode aim c d)) (fourth_on f g mode c.change) λ d h.
      record { fields = good_renewed f g mode d.alm d.inh d.mv aim.sv c.counter (with_mvp c.past d.mvp) (renewal r c d i.1 q h); aim = aim_e2 f known mode r i.1 fr }
