-- A follow and an operator's entry to a PID loop keep the meaning of a loop, and every check of its block. Assumes nothing.
use Rattle.std.proofs.Common.{◌≡◌, ℕ, false, T, Ok, refl, rules}
use lib.Ieee.{Float, binary32, fits, le}
use Rattle.terms.specs.declared.mode.Mode.{Mode}
use Rattle.terms.specs.declared.told.Told.{Told}
use Rattle.terms.specs.declared.entry.Entry.{Entry}
use Rattle.terms.specs.declared.entry.Entry.TheVariants as entry
use Rattle.terms.specs.declared.place.Place.TheVariants as at
use Rattle.reals.specs.Numbers.{bottom, top}
use Rattle.reals.specs.Reals.{Within, Same}
use Rattle.block.specs.Bits.{with_trkf, with_spa, without_spa}
use Rattle.block.specs.Checks.{passed, sound, tests}
use Rattle.block.proofs.Masks.{track_set, stop_set, stop_cleared}
use Rattle.block.proofs.Passing.{OnOk, next_on, next_any, passed_on, split, spread, range}
use Rattle.loops.specs.Meaning.{Followed, OutputKept, Entered}
use Rattle.loops.specs.Inputs.{percent_checks, EntryHeld}
use Rattle.loops.proofs.Given.{self}
use Rattle.pid_fields.specs.declared.fields.Fields.{Fields}
use Rattle.pid_fields.specs.Checks.{good, good_e2}
use Rattle.pid_fields.proofs.Goodness.{Good}
use Rattle.pid_steps.specs.declared.scanning.State.{State}
use Rattle.pid_steps.specs.Scanning.{put_output, follow_of}
use Rattle.pid_steps.specs.Entering.{setpoint_checks, output_checks, limits_checks, with_state, with_limits, entry_of}
use Rattle.pid_meaning.specs.Telling.{told_state}
use Rattle.pid_meaning.proofs.Facts.{Facts, facts_of}
use Rattle.pid_meaning.proofs.Renewals.{old_past, Renewal, good_renewed, limits_in, good_limits}
use Rattle.pid_meaning.proofs.Scans.{same_s, same_limits}

module _ (k : State) (g : Good k.fields) where
  abbrev f : Fields
  f = k.fields

  abbrev t : Told
  t = told_state k

  -- the loop with other fields
  abbrev with_fields : Fields → State
  with_fields h = record { fields = h; e2 = k.e2 }

  known : Facts f
  known = facts_of f g

  -- ---- what is left passes every check

  renewal : (mv sv : Float) → Within mv bottom top → T (fits binary32 mv) → Within sv f.bounds.rl f.bounds.rh → T (fits binary32 sv) → Renewal f mv sv f.counter f.past
  renewal mv sv a b c d = record { mv_in = a; mv_fits = b; sv_in = c; sv_fits = d; counted = known.counter; past_held = old_past f g }

  good_put : (p : Float) → Within p bottom top → T (fits binary32 p) → T (good (put_output f p))
  good_put p w h = good_renewed f g f.mode f.alm (with_trkf f.inh) p f.sv f.counter f.past (renewal p f.sv w h known.sv known.sv_fits)

  good_state : (mode : Mode) (alm : ℕ) (sv : Float) → Within sv f.bounds.rl f.bounds.rh → T (fits binary32 sv) → T (good (with_state f mode alm sv))
  good_state mode alm sv w h = good_renewed f g mode alm f.inh f.mv sv f.counter f.past (renewal f.mv sv known.mv known.mv_fits w h)

  in_percent : (v : Float) → T (sound (percent_checks at.Mv v)) → Within v bottom top
  in_percent v s = let checks = spread (tests (percent_checks at.Mv v)) s in search (rules, range)

  in_output : (v : Float) → T (sound (output_checks f v)) → Within v bottom top
  in_output v s = let checks = spread (tests (output_checks f v)) s in search (rules, range)

  in_setpoint : (v : Float) → T (sound (setpoint_checks f v)) → Within v f.bounds.rl f.bounds.rh
  in_setpoint v s = let checks = spread (tests (setpoint_checks f v)) s in search (rules, range)

  pub follows_keep : (p : Float) → T (fits binary32 p) → OnOk (λ h. T (good h)) (follow_of f p)
  follows_keep p h = next_on _ _ _ _ (passed_on (percent_checks at.Mv p)) λ _ s. good_put p (in_percent p s) h

  pub enters_keep : (e : Entry) → EntryHeld e → OnOk (λ h. T (good h)) (entry_of f e)
  enters_keep (entry.Mode m) h = good_state m f.alm f.sv known.sv known.sv_fits
  enters_keep (entry.Setpoint v) h = next_on _ _ _ _ (passed_on (setpoint_checks f v)) λ _ s. good_state f.mode f.alm v (in_setpoint v s) h
  enters_keep (entry.Output v) h = next_on _ _ _ _ (passed_on (output_checks f v)) λ _ s. good_put v (in_output v s) h
  enters_keep (entry.Limits l) h = next_on _ _ _ _ (passed_on (limits_checks l)) λ _ s. good_limits f g l s h
  enters_keep entry.Stop h = good_state f.mode (with_spa f.alm) f.sv known.sv known.sv_fits
  enters_keep entry.Run h = good_state f.mode (without_spa f.alm) f.sv known.sv known.sv_fits

  -- ---- what is told

  module _ (aim : T (good_e2 k.e2)) where
    pub same_e2 : Same k.e2 k.e2
    unfolding good_e2
    same_e2 = let a = split (le bottom k.e2) _ aim in self k.e2 bottom top (a.0, (split (le k.e2 top) (fits binary32 k.e2) a.1).0)

    same_mv : Same f.mv f.mv
    same_mv = self f.mv bottom top known.mv

    pub put_law : (p : Float) → Within p bottom top → Followed false p t (told_state (with_fields (put_output f p)))
    put_law p w =
        record {
          mv = self p bottom top w;
          tracking = track_set f.inh;
          mode = refl;
          stopped = refl;
          limits = same_limits k g _ refl refl refl;
          s = same_s k g;
          e2 = same_e2;
        }

    kept : (u : Told) → u.mv ≡ t.mv → u.e2 ≡ t.e2 → u.tracking ≡ t.tracking → OutputKept t u
    kept u a b c = rw (a, b, c) (record { mv = same_mv; e2 = same_e2; tracking = refl })

    abbrev After : Entry → Fields → Type 0
    After e h = Entered false e t (told_state (with_fields h))

    -- what an accepted entry does
    pub enters_on : (e : Entry) → OnOk (After e) (entry_of f e)
    enters_on (entry.Mode m) = record { output = kept _ refl refl refl; mode = refl; stopped = refl; limits = same_limits k g _ refl refl refl; s = same_s k g }
    enters_on (entry.Setpoint v) =
        next_any (After (entry.Setpoint v)) (passed (setpoint_checks f v)) (λ _. Ok (with_state f f.mode f.alm v)) λ _.
        record { output = kept _ refl refl refl; mode = refl; stopped = refl; limits = same_limits k g _ refl refl refl }
    enters_on (entry.Output v) = next_on _ _ _ _ (passed_on (output_checks f v)) λ _ s. put_law v (in_output v s)
    enters_on (entry.Limits l) =
        next_on _ (After (entry.Limits l)) _ (λ _. Ok (with_limits f l)) (passed_on (limits_checks l)) λ _ s.
        let i = limits_in l s in
        record {
          output = kept _ refl refl refl;
          mode = refl;
          stopped = refl;
          mh_set = self _ _ _ i.mh_in;
          ml_set = self _ _ _ i.ml_in;
          dml_set = self _ _ _ i.dml_in;
          s = same_s k g;
        }
    enters_on entry.Stop = record { output = kept _ refl refl refl; mode = refl; stopped = stop_set f.alm; limits = same_limits k g _ refl refl refl; s = same_s k g }
    enters_on entry.Run = record { output = kept _ refl refl refl; mode = refl; stopped = stop_cleared f.alm; limits = same_limits k g _ refl refl refl; s = same_s k g }
