-- Fields of which some are renewed within their ranges pass every check again. Assumes nothing.
use Rattle.std.proofs.Common.{ℕ, T, ltb, arith, rules}
use lib.Ieee.{Float, binary32, fits, le}
use Rattle.std.specs.Float.{float_is_finite}
use Rattle.terms.specs.declared.mode.Mode.{Mode}
use Rattle.terms.specs.declared.entry.Limits.{Limits}
use Rattle.reals.specs.Numbers.{zero, hundred, bottom, top}
use Rattle.reals.specs.Reals.{Within}
use Rattle.reals.proofs.OrderLaws.{finite_between}
use Rattle.reals.proofs.Finite.{finite_in}
use Rattle.reals.proofs.Chains.{Held}
use Rattle.block.specs.Checks.{tests, all}
use Rattle.block.proofs.Passing.{both, spread, range, in_range}
use Rattle.loops.specs.Inputs.{LimitsHeld}
use Rattle.loops.proofs.Given.{finite_percent}
use Rattle.pid_fields.specs.declared.fields.Past.{Past}
use Rattle.pid_fields.specs.declared.fields.Fields.{Fields}
use Rattle.pid_fields.specs.Checks.{finite_checks, range_checks, relation_checks, held, tuning_held, past_held, good}
use Rattle.pid_fields.proofs.Goodness.{Good, is_good}
use Rattle.pid_steps.specs.Control.{scans_in_period}
use Rattle.pid_steps.specs.Entering.{with_limits, limits_checks}
use Rattle.pid_meaning.proofs.Facts.{facts_of}

-- every past value is a finite binary32 number
pub record PastHeld (p : Past) : Type 0 where
  pub mvp : Held p.mvp
  pub b : Held p.b
  pub measured : Held p.measured
  pub measured1 : Held p.measured1
  pub measured2 : Held p.measured2
  pub dv : Held p.dv

pub old_past : (f : Fields) → Good f → PastHeld f.past
old_past f g =
    let reals = spread (tests (finite_checks f)) g.reals in
    let past = spread (past_held f.past) g.past_kept in
    search rules

-- ---- all but the limits and the tuning renewed

abbrev pub renewed_fields : Fields → Mode → ℕ → ℕ → Float → Float → ℕ → Past → Fields
renewed_fields f mode alm inh mv sv counter past =
    record {
      mode = mode;
      alm = alm;
      inh = inh;
      mv = mv;
      sv = sv;
      counter = counter;
      bounds = f.bounds;
      tuning = f.tuning;
      past = past;
      settings = f.settings;
    }

-- what the new values have to keep
pub record Renewal (f : Fields) (mv sv : Float) (counter : ℕ) (past : Past) : Type 0 where
  pub mv_in : Within mv bottom top
  pub mv_fits : T (fits binary32 mv)
  pub sv_in : Within sv f.bounds.rl f.bounds.rh
  pub sv_fits : T (fits binary32 sv)
  pub counted : T (ltb counter (scans_in_period f))
  pub past_held : PastHeld past

module _ (f : Fields) (g : Good f) (mode : Mode) (alm inh : ℕ) (mv sv : Float) (counter : ℕ) (past : Past) (r : Renewal f mv sv counter past) where
  abbrev new : Fields
  new = renewed_fields f mode alm inh mv sv counter past

  sv_finite : T (float_is_finite sv)
  sv_finite = let k = facts_of f g in finite_between sv _ _ (finite_in f.bounds.rl k.rl) (finite_in f.bounds.rh k.rh) r.sv_in.0 r.sv_in.1

  pub good_renewed : T (good new)
  good_renewed =
      let reals = spread (tests (finite_checks f)) g.reals in
      let ranges = spread (tests (range_checks f)) g.ranges in
      let relations = spread (tests (relation_checks f)) g.related in
      let kept = spread (held f) g.kept in
      let mv_finite = finite_percent mv r.mv_in in
      let mv_in = in_range bottom top mv r.mv_in in
      let sv_in = in_range f.bounds.rl f.bounds.rh sv r.sv_in in
      is_good new
      record {
        settings = g.settings;
        reals = grind (arith, both, sv_finite);
        ranges = grind (arith, both);
        related = grind (arith, both);
        kept = grind (arith, both);
        tuning_kept = g.tuning_kept;
        past_kept = grind (arith, both);
      }

-- ---- the limits renewed

pub record LimitsIn (l : Limits) : Type 0 where
  pub mh_in : Within l.mh bottom top
  pub ml_in : Within l.ml bottom top
  pub dml_in : Within l.dml zero hundred
  pub ordered : T (le l.ml l.mh)

pub limits_in : (l : Limits) → T (all (tests (limits_checks l))) → LimitsIn l
limits_in l t = let checks = spread (tests (limits_checks l)) t in search (rules, range)

module _ (f : Fields) (g : Good f) (l : Limits) (passed : T (all (tests (limits_checks l)))) (h : LimitsHeld l) where
  abbrev changed : Fields
  changed = with_limits f l

  pub good_limits : T (good changed)
  good_limits =
      let checks = spread (tests (limits_checks l)) passed in
      let reals = spread (tests (finite_checks f)) g.reals in
      let ranges = spread (tests (range_checks f)) g.ranges in
      let relations = spread (tests (relation_checks f)) g.related in
      let kept = spread (held f) g.kept in
      let tuning = spread (tuning_held f.tuning) g.tuning_kept in
      is_good changed
      record {
        settings = g.settings;
        reals = grind (arith, both);
        ranges = grind (arith, both);
        related = grind (arith, both);
        kept = grind (arith, both);
        tuning_kept = grind (arith, both);
        past_kept = g.past_kept;
      }
