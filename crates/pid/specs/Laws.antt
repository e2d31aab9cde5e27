-- The PID loop keeps the laws of a kind of loop. Assumes nothing.
use Rattle.std.specs.Prelude.{◌≡◌, ◌==◌, ℕ, Bool, true, false, cond, T, List, length, Ok, Err, Option, Result, IfOk, refl, Float}
use Rattle.std.proofs.Common.{ap, subst, arith, lt→ltb}
use Rattle.std.proofs.lemmas.Result.{IfOk-weaker}
use Rattle.std.specs.Float.Ieee.{binary32, fits, le}
use Rattle.terms.specs.declared.entry.Entry.{Entry}
use Rattle.terms.specs.declared.place.Place.TheVariants as at
use Rattle.terms.specs.declared.refusal.Cause.{Cause}
use Rattle.reals.specs.Numbers.{bottom, top}
use Rattle.reals.specs.Reals.{Within}
use Rattle.block.specs.declared.start.Start.{Start}
use Rattle.block.specs.declared.start.Start.TheVariants.{Cold, Warm}
use Rattle.block.specs.Bits.{with_trkf}
use Rattle.block.specs.Words.{block_length, Sixteen}
use Rattle.block.proofs.Passing.{OnOk, ok_by, both, split, if_ok}
use Rattle.loops.specs.Outcomes.{seen, where_whole}
use Rattle.loops.specs.Inputs.{no_percent, RemoteHeld, EntryHeld}
use Rattle.loops.specs.Meaning.{Ranges, Followed, Scanned, Entered}
use Rattle.loops.proofs.Given.{taken_on, admits, declined, seen_ok}
use Rattle.pid_fields.specs.declared.fields.Settings.{Settings}
use Rattle.pid_fields.specs.declared.fields.Fields.{Fields}
use Rattle.pid_fields.specs.Checks.{good, good_e2}
use Rattle.pid_fields.specs.Reading.{checked_of}
use Rattle.pid_fields.specs.Writing.{filled, with_copy}
use Rattle.pid_fields.proofs.Accepts.{accepted, read_good}
use Rattle.pid_fields.proofs.Goodness.{Good, goodness}
use Rattle.pid_fields.proofs.Rereads.{same_words, same_fields}
use Rattle.pid_steps.specs.declared.scanning.State.{State}
use Rattle.pid_steps.specs.Control.{scans_in_period}
use Rattle.pid_steps.specs.Scanning.{put_output, follow_of, scan_of}
use Rattle.pid_steps.specs.Entering.{entry_of}
use Rattle.pid_steps.specs.Setpoint.{percent_of}
use Rattle.pid_meaning.specs.Telling.{told_state}
use Rattle.pid_meaning.proofs.Controls.{zero_held}
use Rattle.pid_meaning.proofs.Facts.{facts}
use Rattle.pid_meaning.proofs.Renewals.{old_past, good_renewed}
use Rattle.pid_meaning.proofs.Setpoints.{percent_in, percent_fits, good_percent}
use Rattle.pid_meaning.proofs.Scans.{Sound, scans_on, scans_keep}
use Rattle.pid_meaning.proofs.Entries.{follows_keep, enters_keep, put_law, enters_on}
use Rattle.pid.specs.Starting.{aimed, cold_past, cold_fields}
use Rattle.pid.specs.RoundTrips.{restarted_state}
use Rattle.pid.specs.Kind.{good_state, checked_state, started_state, with_fields, followed_state, entered_state}

-- ---- a good state: its fields pass every check, and its E2 lies in −10..110

pub sound : (s : State) → T (good_state s) → Sound s
unfolding good_state
sound s t = let a = split (good s.fields) (good_e2 s.e2) t in record { fields = a.0; aim = a.1 }

pub is_good : (s : State) → T (good s.fields) → T (good_e2 s.e2) → T (good_state s)
unfolding good_state
is_good s t u = both (good s.fields) (good_e2 s.e2) t u

fields_good : (s : State) → T (good_state s) → Good s.fields
fields_good s t = goodness s.fields (sound s t).fields

aimed_good : (f : Fields) → T (good f) → T (good_state (aimed f))
aimed_good f t = is_good (aimed f) t (good_percent f (facts f t))

-- what holds of the fields that an accepted outcome leaves holds of the state with them
with_law : (P : State → Type 0) (s t : State) (o : Result Fields Cause) → OnOk (λ f. P (with_fields s f)) o → seen (with_fields s) o ≡ Ok t → P t
with_law P s t o h e = let a = seen_ok (with_fields s) o t e in subst P a.2 (ok_by (λ f. P (with_fields s f)) o a.0 h a.1)

-- ---- reading and starting

pub reads_good : (ws : List ℕ) (st : Settings) → T (fits binary32 st.dt) → T (fits binary32 st.md) → IfOk (checked_state ws st) (λ s. T (good_state s))
reads_good ws st dt md = if_ok (checked_state ws st) λ s e.
    let a = seen_ok aimed (checked_of ws st) s e in
    subst (λ (z : State). T (good_state z)) a.2 (aimed_good a.0 (read_good ws st a.0 dt md a.1))

good_cold : (f : Fields) → T (good f) → T (good (cold_fields f))
good_cold f t =
    let g = goodness f t in
    let k = facts f t in
    let z = zero_held in
    good_renewed f g f.mode f.alm (with_trkf f.inh) f.mv f.sv 0 (cold_past f.past)
    record {
      mv_in = k.mv;
      mv_fits = k.mv_fits;
      sv_in = k.sv;
      sv_fits = k.sv_fits;
      counted = lt→ltb 0 (scans_in_period f) (omega arith);
      past_held = record { mvp = (old_past f g).mvp; b = z; measured = z; measured1 = z; measured2 = z; dv = z };
    }

pub starts_good : (how : Start) (s : State) → T (good_state s) → T (good_state (started_state how s))
starts_good Cold s t = aimed_good (cold_fields s.fields) (good_cold s.fields (sound s t).fields)
starts_good Warm s t = aimed_good s.fields (sound s t).fields

-- ---- round trips

pub rewrites : (ws : List ℕ) (st : Settings) (s : State) → Sixteen ws → checked_state ws st ≡ Ok s → (length ws ≡ 128) × (filled s.fields ws ≡ with_copy ws)
rewrites ws st s b e =
    let a = seen_ok aimed (checked_of ws st) s e in
    ((accepted ws st a.0 a.1).whole, subst (λ (z : State). filled z.fields ws ≡ with_copy ws) a.2 (same_words ws st a.0 b a.1))

pub restarts : (s : State) (ws : List ℕ) → restarted_state s ws ≡ where_whole ws (aimed s.fields) s
restarts s ws = go (length ws == block_length)
  where
    go : (b : Bool) → ◌≡◌ {A = State} (record { fields = s.fields; e2 = cond b (percent_of s.fields) s.e2 }) (cond b (aimed s.fields) s)
    go true = refl
    go false = refl

pub rereads : (s : State) (ws : List ℕ) → T (good_state s) → length ws ≡ 128 → checked_state (filled s.fields ws) s.fields.settings ≡ Ok (aimed s.fields)
rereads s ws t whole = ap (λ (o : Result Fields Cause). seen aimed o) (same_fields s.fields ws whole (sound s t).fields)

-- ---- what a call leaves is good again

pub scans_good : (s t : State) (m : Float) (r : Option Float) → T (good_state s) → T (fits binary32 m) → RemoteHeld r → scan_of s.fields m r ≡ Ok t → T (good_state t)
scans_good s t m r g fm fr e = let a = ok_by Sound (scan_of s.fields m r) t (scans_keep s (fields_good s g) m r fm fr) e in is_good t a.fields a.aim

follow_good : (s : State) (o : Result Fields Cause) → T (good_e2 s.e2) → OnOk (λ f. T (good f)) o → OnOk (λ f. T (good_state (with_fields s f))) o
follow_good s o u k = IfOk-weaker o _ _ (λ f t. is_good (with_fields s f) t u) k

pub follows_good : (s t : State) (p : Float) → T (good_state s) → T (fits binary32 p) → followed_state s p ≡ Ok t → T (good_state t)
follows_good s t p g h e = with_law (λ z. T (good_state z)) s t (follow_of s.fields p) (follow_good s (follow_of s.fields p) (sound s g).aim (follows_keep s (fields_good s g) p h)) e

pub enters_good : (s t : State) (e : Entry) → T (good_state s) → EntryHeld e → entered_state s e ≡ Ok t → T (good_state t)
enters_good s t e g h q = with_law (λ z. T (good_state z)) s t (entry_of s.fields e) (follow_good s (entry_of s.fields e) (sound s g).aim (enters_keep s (fields_good s g) e h)) q

-- ---- what a loop tells

aim_fits : (s : State) → T (good_e2 s.e2) → T (fits binary32 s.e2)
unfolding good_e2
aim_fits s t = (split (le s.e2 top) (fits binary32 s.e2) (split (le bottom s.e2) _ t).1).1

pub ranges : (s : State) → T (good_state s) → Ranges (told_state s)
ranges s t =
    let a = sound s t in
    let f = facts s.fields a.fields in
    record {
      mv = f.mv;
      ml = f.ml;
      mh = f.mh;
      ordered = f.ordered;
      dml = f.dml;
      s = percent_in s.fields f s.fields.sv f.sv;
      mv_real = f.mv_fits;
      ml_real = f.ml_fits;
      mh_real = f.mh_fits;
      dml_real = f.dml_fits;
      e2_real = aim_fits s a.aim;
      s_real = percent_fits s.fields f s.fields.sv;
    }

pub follows : (s : State) (p : Float) → T (good_state s) → T (fits binary32 p) → Within p bottom top → (t : State) × (followed_state s p ≡ Ok t) × Followed false p (told_state s) (told_state t)
follows s p g h w = (with_fields s (put_output s.fields p), rw (admits at.Mv p w) refl, put_law s (fields_good s g) (sound s g).aim p w)

pub follow_means : (s t : State) (p : Float) → T (good_state s) → followed_state s p ≡ Ok t → Followed false p (told_state s) (told_state t)
follow_means s t p g e =
    let P : State → Type 0 = λ z. Followed false p (told_state s) (told_state z) in
    with_law P s t (follow_of s.fields p) (taken_on (λ f. P (with_fields s f)) (put_output s.fields p) p (put_law s (fields_good s g) (sound s g).aim p)) e

pub declines : (s : State) (p : Float) → (Within p bottom top → ⊥) → followed_state s p ≡ Err (no_percent p)
declines s p out = rw (declined p out) refl

pub scans : (s t : State) (m : Float) (r : Option Float) → T (good_state s) → scan_of s.fields m r ≡ Ok t → Scanned false r (told_state s) (told_state t)
scans s t m r g e = ok_by (λ z. Scanned false r (told_state s) (told_state z)) (scan_of s.fields m r) t (scans_on s (fields_good s g) m r) e

pub enters : (s t : State) (e : Entry) → T (good_state s) → entered_state s e ≡ Ok t → Entered false e (told_state s) (told_state t)
enters s t e g q = with_law (λ z. Entered false e (told_state s) (told_state z)) s t (entry_of s.fields e) (enters_on s (fields_good s g) (sound s g).aim e) q
