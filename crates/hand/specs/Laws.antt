-- What a call leaves is good again, and the laws of a kind of loop hold of the hand station. Assumes nothing.
use Rattle.std.specs.Prelude.{◌≡◌, ℕ, true, T, Ok, Err, Option, refl, Float}
use Rattle.std.proofs.Common.{inl}
use lib.Ieee.{of_bits}
use Rattle.std.specs.Float.Ieee.{binary32, fits, le, eq}
use Rattle.std.specs.Float.Ieee.Bits.{of_bits-fits}
use Rattle.std.specs.Float.Order.{le_right}
use Rattle.terms.specs.declared.mode.Mode.TheVariants.{Man}
use Rattle.terms.specs.declared.place.Place.TheVariants as at
use Rattle.terms.specs.declared.entry.Entry.{Entry}
use Rattle.terms.specs.declared.entry.Entry.TheVariants as entry
use Rattle.reals.specs.Numbers.{zero, hundred, bottom, top}
use Rattle.reals.specs.Reals.{Within, Same}
use Rattle.std.proofs.lemmas.Bool.{cond_both, or_right}
use Rattle.reals.proofs.OrderLaws.{percent_in as brought_percent}
use Rattle.reals.proofs.Chains.{brought_by}
use Rattle.block.specs.Checks.{tests}
use Rattle.block.specs.Bits.{stopped, with_trkf, alarms_off}
use Rattle.block.proofs.Passing.{spread, gather, range, in_range, OnOk, next_any, ok_by}
use Rattle.block.proofs.Masks.{stop_set, stop_cleared, stop_off, track_set}
use Rattle.loops.specs.Inputs.{inputs_passed, no_percent, RemoteHeld, EntryHeld}
use Rattle.loops.specs.Meaning.{Ranges, SameLimits, Echoes, Followed, Scanned, OutputKept, Entered}
use Rattle.loops.proofs.Given.{taken_on, self, finite_percent, admits, declined}
use Rattle.hand.specs.declared.fields.Fields.{Fields}
use Rattle.hand.specs.Checks.{station_checks, good}
use Rattle.block.specs.declared.start.Start.{Start}
use Rattle.block.specs.declared.start.Start.TheVariants.{Cold, Warm}
use Rattle.hand.specs.Starting.{percent_of, started_fields}
use Rattle.hand.specs.Scanning.{held_fields, put_fields, with_alm, scan_of, follow_of, entry_of, told_of_fields}
use Rattle.hand.specs.Goodness.{man_word, goodness, is_good}

-- ---- what a station's fields are known to be

mv_in : (f : Fields) → T (good f) → Within f.mv bottom top
mv_in f t = range bottom top f.mv (spread (tests (station_checks f (man_word f))) (goodness f t).checks).1.1.1.0

percent_in : (f : Fields) → Within f.mv bottom top → Within (percent_of f) zero hundred
percent_in f w = brought_percent f.mv (le_right bottom f.mv w.0)

percent_same : (f : Fields) → Within f.mv bottom top → Same (percent_of f) (percent_of f)
percent_same f w = self (percent_of f) zero hundred (percent_in f w)

percent_fits : (f : Fields) → T (good f) → T (fits binary32 (percent_of f))
percent_fits f t = brought_by (λ x. T (fits binary32 x)) f.mv zero hundred (goodness f t).kept (of_bits-fits binary32 _) (of_bits-fits binary32 _)

-- ---- fields that a call leaves are those of a station

-- the words ALM and INH are free
other_words : (f : Fields) (alm inh : ℕ) → T (good f) → T (good (record { alm = alm; inh = inh; mv = f.mv; key = f.key }))
unfolding good
other_words f alm inh t = t

put_good : (f : Fields) (p : Float) → T (good f) → T (fits binary32 p) → Within p bottom top → T (good (put_fields f p))
put_good f p t h w =
    let a = spread (tests (station_checks f (man_word f))) (goodness f t).checks in
    is_good (put_fields f p)
    record { checks = gather (tests (station_checks (put_fields f p) (man_word f))) (a.0, (finite_percent p w, (a.1.1.0, (in_range bottom top p w, tt)))); kept = h }

-- the reals of an entry that are looked at fit binary32
abbrev pub Held : Entry → Type 0
Held (entry.Mode m) = Unit {0}
Held (entry.Setpoint v) = Unit {0}
Held (entry.Output v) = T (fits binary32 v)
Held (entry.Limits l) = Unit {0}
Held entry.Stop = Unit {0}
Held entry.Run = Unit {0}

looked_at : (e : Entry) → EntryHeld e → Held e
looked_at (entry.Mode m) h = tt
looked_at (entry.Setpoint v) h = tt
looked_at (entry.Output v) h = h
looked_at (entry.Limits l) h = tt
looked_at entry.Stop h = tt
looked_at entry.Run h = tt

-- what holds of an output that is taken holds of what an accepted follow comes to
follow_on : (P : Fields → Type 0) (f : Fields) (p : Float) → (Within p bottom top → P (put_fields f p)) → OnOk P (follow_of f p)
follow_on P f p k = taken_on P (put_fields f p) p k

pub starts_good : (how : Start) (f : Fields) → T (good f) → T (good (started_fields how f))
starts_good Cold f t = other_words f f.alm (with_trkf f.inh) t
starts_good Warm f t = t

pub scan_keeps : (f g : Fields) (m : Float) (r : Option Float) → T (good f) → scan_of f m r ≡ Ok g → T (good g)
scan_keeps f g m r t e = let P : Fields → Type 0 = λ z. T (good z) in ok_by P (scan_of f m r) g (next_any P (inputs_passed m r) _ (λ _. other_words f (alarms_off f.alm) (with_trkf f.inh) t)) e

pub follow_keeps : (f g : Fields) (p : Float) → T (good f) → T (fits binary32 p) → follow_of f p ≡ Ok g → T (good g)
follow_keeps f g p t h e = let P : Fields → Type 0 = λ z. T (good z) in ok_by P (follow_of f p) g (follow_on P f p (put_good f p t h)) e

enters_keep : (f : Fields) (e : Entry) → T (good f) → Held e → OnOk (λ z. T (good z)) (entry_of f e)
enters_keep f (entry.Mode Man) t h = t
enters_keep f (entry.Output v) t h = follow_on (λ z. T (good z)) f v (put_good f v t h)
enters_keep f entry.Stop t h = other_words f _ f.inh t
enters_keep f entry.Run t h = other_words f _ f.inh t
enters_keep f e t h = tt

pub entry_keeps : (f g : Fields) (e : Entry) → T (good f) → Held e → entry_of f e ≡ Ok g → T (good g)
entry_keeps f g e t h q = ok_by (λ z. T (good z)) (entry_of f e) g (enters_keep f e t h) q

pub scans_good : (f g : Fields) (m : Float) (r : Option Float) → T (good f) → T (fits binary32 m) → RemoteHeld r → scan_of f m r ≡ Ok g → T (good g)
scans_good f g m r t h i e = scan_keeps f g m r t e

pub enters_good : (f g : Fields) (e : Entry) → T (good f) → EntryHeld e → entry_of f e ≡ Ok g → T (good g)
enters_good f g e t h q = entry_keeps f g e t (looked_at e h) q

-- ---- the laws

same_limits : (f g : Fields) → SameLimits (told_of_fields f) (told_of_fields g)
unfolding eq of_bits
same_limits f g = record { ml = tt; mh = tt; dml = tt }

pub ranges : (f : Fields) → T (good f) → Ranges (told_of_fields f)
unfolding le of_bits
ranges f t =
    let w = mv_in f t in
    record {
      mv = w;
      ml = (tt, tt);
      mh = (tt, tt);
      ordered = tt;
      dml = (tt, tt);
      s = percent_in f w;
      mv_real = (goodness f t).kept;
      ml_real = of_bits-fits binary32 0xc120_0000;
      mh_real = of_bits-fits binary32 0x42dc_0000;
      dml_real = of_bits-fits binary32 0;
      e2_real = percent_fits f t;
      s_real = percent_fits f t;
    }

pub echoes : (f : Fields) → T (good f) → Echoes true (told_of_fields f)
echoes f t = percent_same f (mv_in f t)

put_follows : (f : Fields) (p : Float) → Within p bottom top → Followed true p (told_of_fields f) (told_of_fields (put_fields f p))
put_follows f p w =
    record {
      mv = self p bottom top w;
      tracking = track_set f.inh;
      mode = refl;
      stopped = refl;
      limits = same_limits f (put_fields f p);
      s = tt;
      e2 = inl (percent_same (put_fields f p) w);
    }

pub follows : (f : Fields) (p : Float) → T (good f) → T (fits binary32 p) → Within p bottom top → (g : Fields) × (follow_of f p ≡ Ok g) × Followed true p (told_of_fields f) (told_of_fields g)
follows f p t h w = (put_fields f p, rw (admits at.Mv p w) refl, put_follows f p w)

pub follow_means : (f g : Fields) (p : Float) → T (good f) → follow_of f p ≡ Ok g → Followed true p (told_of_fields f) (told_of_fields g)
follow_means f g p t e = let P : Fields → Type 0 = λ z. Followed true p (told_of_fields f) (told_of_fields z) in ok_by P (follow_of f p) g (follow_on P f p (put_follows f p)) e

pub declines : (f : Fields) (p : Float) → (Within p bottom top → ⊥) → follow_of f p ≡ Err (no_percent p)
declines f p out = rw (declined p out) refl

held_scans : (f : Fields) (r : Option Float) → T (good f) → Scanned true r (told_of_fields f) (told_of_fields (held_fields f))
held_scans f r t =
    let w = mv_in f t in
    record {
      moved = rw (or_right (stopped f.alm) true refl) (self f.mv bottom top w, track_set f.inh);
      e2 = percent_same f w;
      s = λ _. tt;
      mode = cond_both (stopped f.alm) Man Man (λ m. Man ≡ m) (λ _. refl) (λ _. refl);
      stopped = stop_off f.alm;
      limits = same_limits f (held_fields f);
    }

pub scans : (f g : Fields) (m : Float) (r : Option Float) → T (good f) → scan_of f m r ≡ Ok g → Scanned true r (told_of_fields f) (told_of_fields g)
scans f g m r t e = let P : Fields → Type 0 = λ z. Scanned true r (told_of_fields f) (told_of_fields z) in ok_by P (scan_of f m r) g (next_any P (inputs_passed m r) _ (λ _. held_scans f r t)) e

output_kept : (f : Fields) (alm : ℕ) → T (good f) → OutputKept (told_of_fields f) (told_of_fields (with_alm f alm))
output_kept f alm t = let w = mv_in f t in record { mv = self f.mv bottom top w; e2 = percent_same f w; tracking = refl }

enters_on : (f : Fields) (e : Entry) → T (good f) → OnOk (λ z. Entered true e (told_of_fields f) (told_of_fields z)) (entry_of f e)
enters_on f (entry.Mode Man) t = record { output = output_kept f f.alm t; mode = refl; stopped = refl; limits = same_limits f f; s = percent_same f (mv_in f t) }
enters_on f (entry.Output v) t = follow_on (λ z. Followed true v (told_of_fields f) (told_of_fields z)) f v (put_follows f v)
enters_on f entry.Stop t = record { output = output_kept f _ t; mode = refl; stopped = stop_set f.alm; limits = same_limits f (with_alm f _); s = percent_same f (mv_in f t) }
enters_on f entry.Run t = record { output = output_kept f _ t; mode = refl; stopped = stop_cleared f.alm; limits = same_limits f (with_alm f _); s = percent_same f (mv_in f t) }
enters_on f e t = tt

pub enters : (f g : Fields) (e : Entry) → T (good f) → entry_of f e ≡ Ok g → Entered true e (told_of_fields f) (told_of_fields g)
enters f g e t q = ok_by (λ z. Entered true e (told_of_fields f) (told_of_fields z)) (entry_of f e) g (enters_on f e t) q
