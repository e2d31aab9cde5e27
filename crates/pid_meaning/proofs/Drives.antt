-- Step 4: a holding loop keeps MV, and a driving one keeps its limits and its step. Assumes nothing.
use Rattle.std.proofs.Common.{◌≡◌, Bool, true, false, cond, not, T, Ok, sym, refl, subst, true≢false, rules}
use lib.Ieee.{Float, binary32, add, fits, le, is_nan, of_bits}
use lib.Ieee.Fits.{add-fits, sub-fits}
use Rattle.std.specs.Float.{float_is_finite}
use Rattle.std.specs.Float.Order.{le_trans, le_right}
use Rattle.terms.specs.declared.mode.Mode.{Mode}
use Rattle.terms.specs.declared.refusal.Step.TheVariants as step
use Rattle.reals.specs.Numbers.{zero, hundred, bottom, top}
use Rattle.reals.specs.Reals.{brought, less, more, Within, Same}
use Rattle.reals.specs.Checked.{plus}
use Rattle.reals.proofs.OrderLaws.{bring_in, bring_same, bring_keeps_low, bring_keeps_high, bring_equal, finite_number, finite_between, eq_le, le_eq, eq_sym}
use Rattle.reals.proofs.Sums.{sub_down, add_up, zero_plus}
use Rattle.reals.proofs.Chains.{Each, Held, real_each, then_each, then_any, cond_each, plus_held, brought_by}
use Rattle.block.specs.Bits.{stopped, tracking}
use Rattle.block.proofs.Masks.{stop_off, stop_made, track_set, track_cleared}
use Rattle.block.proofs.Passing.{OnOk}
use Rattle.terms.specs.Modes.{manual}
use Rattle.loops.proofs.Given.{self, finite_percent}
use Rattle.pid_fields.specs.declared.fields.Fields.{Fields}
use Rattle.pid_fields.proofs.Goodness.{Good}
use Rattle.pid_steps.specs.declared.output.Drive.{Drive}
use Rattle.pid_steps.specs.Output.{held, target, stepped, limited, alarms_of, pulled, unwound, driven_by, driven}
use Rattle.pid_steps.specs.Scanning.{or_refused, fourth}
use Rattle.pid_meaning.proofs.Facts.{Facts, facts_of}
use Rattle.pid_meaning.proofs.Renewals.{old_past}
use Rattle.pid_meaning.proofs.Controls.{or_on}

-- how MV and TRKF move, by whether the loop holds and whether TRKF was set
abbrev pub Moves : Bool → Bool → Fields → Drive → Type 0
Moves true tracked f d = Same d.mv f.mv × (tracking d.inh ≡ true)
Moves false true f d = Same d.mv (brought f.mv f.bounds.ml f.bounds.mh) × (tracking d.inh ≡ false)
Moves false false f d =
    Within d.mv f.bounds.ml f.bounds.mh
    × (Within f.mv f.bounds.ml f.bounds.mh → Within d.mv (less f.mv f.tuning.dml) (more f.mv f.tuning.dml))

pub record Driven (hold : Bool) (f : Fields) (d : Drive) : Type 0 where
  pub mv_in : Within d.mv bottom top
  pub mv_fits : T (fits binary32 d.mv)
  pub mvp : Held d.mvp
  pub stays_stopped : stopped d.alm ≡ stopped f.alm
  pub moves : Moves hold (tracking f.inh) f d

module _ (f : Fields) (g : Good f) where
  k : Facts f
  k = facts_of f g

  old_mvp : Held f.past.mvp
  old_mvp = (old_past f g).mvp

  -- ---- a loop that holds

  holding : Driven true f (held f)
  holding =
      record {
        mv_in = k.mv;
        mv_fits = k.mv_fits;
        mvp = old_mvp;
        stays_stopped = stop_off f.alm;
        moves = (self f.mv bottom top k.mv, track_set f.inh);
      }

  -- ---- the band of a step

  abbrev dml : Float
  dml = f.tuning.dml

  abbrev down : Float
  down = less f.mv dml

  abbrev up : Float
  up = more f.mv dml

  mv_finite : T (float_is_finite f.mv)
  mv_finite = finite_percent f.mv k.mv

  dml_finite : T (float_is_finite dml)
  dml_finite = finite_between dml zero hundred (unfold float_is_finite of_bits in tt) (unfold float_is_finite of_bits in tt) k.dml.0 k.dml.1

  around : Within f.mv down up
  around = (sub_down f.mv dml mv_finite k.mv_fits dml_finite k.dml_fits k.dml.0, add_up f.mv dml mv_finite k.mv_fits dml_finite k.dml_fits k.dml.0)

  ordered : T (le down up)
  ordered = le_trans _ _ _ around.0 around.1

  -- ---- T

  record Target (t : Float) : Type 0 where
    real : Held t
    begins : tracking f.inh ≡ true → Same t f.mv

  targets : (change : Float) → Each Target (target f change)
  targets change = go (tracking f.inh) (λ e. e)
    where
      go : (b : Bool) → (tracking f.inh ≡ true → b ≡ true) → Each Target (cond b (plus zero f.mv) (plus change f.past.mvp))
      go true h = real_each Target (add binary32 zero f.mv) (λ t. record { real = record { is_finite = t; is_fit = add-fits binary32 zero f.mv }; begins = λ e. zero_plus f.mv k.mv_fits mv_finite })
      go false h = real_each Target (add binary32 change f.past.mvp) (λ t. record { real = record { is_finite = t; is_fit = add-fits binary32 change f.past.mvp }; begins = λ e. absurd (true≢false (sym (h e))) })

  -- ---- MVP

  pulls : (limit t : Float) → Each Held (pulled f limit t)
  pulls limit t = search (rules, then_any, plus_held)

  unwinds : (t : Float) → Held t → Each Held (unwound f t)
  unwinds t h = search (rules, cond_each, pulls)

  -- ---- T1 and the new MV

  module _ (t : Float) (h : Target t) where
    t_number : T (not (is_nan t))
    t_number = finite_number t h.real.is_finite

    t1_in : Within (stepped f t) down up
    t1_in = bring_in t down up t_number ordered

    t1_number : T (not (is_nan (stepped f t)))
    t1_number = le_right down (stepped f t) t1_in.0

    new_in : Within (limited f t) f.bounds.ml f.bounds.mh
    new_in = bring_in _ _ _ t1_number k.ordered

    new_fits : T (fits binary32 (limited f t))
    new_fits =
        let is_fit : Float → Type 0 = λ z. T (fits binary32 z) in
        brought_by is_fit _ _ _ (brought_by is_fit _ _ _ h.real.is_fit (sub-fits _ _ _) (add-fits _ _ _)) k.ml_fits k.mh_fits

    within_step : Within f.mv f.bounds.ml f.bounds.mh → Within (limited f t) down up
    within_step w = (
      bring_keeps_low down (stepped f t) f.mv f.bounds.ml f.bounds.mh t1_in.0 around.0 w.1 t1_number k.ordered,
      bring_keeps_high up (stepped f t) f.mv f.bounds.ml f.bounds.mh t1_in.1 around.1 w.0 t1_number k.ordered,
    )

    -- with TRKF set, T is MV, which lies in the band of its own step
    from_mv : Same t f.mv → Same (limited f t) (brought f.mv f.bounds.ml f.bounds.mh)
    from_mv e =
        let stays = bring_same t down up (le_eq down f.mv t around.0 (eq_sym t f.mv e)) (eq_le t f.mv up e around.1) in
        subst (λ (x : Float). Same (brought x f.bounds.ml f.bounds.mh) (brought f.mv f.bounds.ml f.bounds.mh)) (sym stays) (bring_equal t f.mv f.bounds.ml f.bounds.mh e k.ordered)

    driving : (mvp : Float) → Held mvp → Driven false f (driven_by f t mvp)
    driving mvp p =
        record {
          mv_in = (le_trans _ _ _ k.ml.0 new_in.0, le_trans _ _ _ new_in.1 k.mh.1);
          mv_fits = new_fits;
          mvp = p;
          stays_stopped = stop_made f.alm f.inh (alarms_of f t);
          moves = go (tracking f.inh) h.begins;
        }
      where
        go : (b : Bool) → (b ≡ true → Same t f.mv) → Moves false b f (driven_by f t mvp)
        go true q = (from_mv (q refl), track_cleared f.inh)
        go false q = (new_in, within_step)

  drives : (change : Float) → Each (Driven false f) (driven f change)
  drives change =
      then_each Target _ _ _ (targets change) λ t h.
      then_each Held _ _ _ (unwinds t h.real) λ mvp p.
      driving t h mvp p

  pub fourth_on : (mode : Mode) (change : Float) → OnOk (Driven (manual mode) f) (fourth f mode change)
  fourth_on mode change = go (manual mode)
    where
      go : (b : Bool) → OnOk (Driven b f) (cond b (Ok (held f)) (or_refused step.Output (driven f change)))
      go true = holding
      go false = or_on (Driven false f) step.Output (driven f change) (drives change)
