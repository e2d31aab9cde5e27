-- What the checks say of the fields of a loop, by name. Assumes nothing.
use Rattle.std.proofs.Common.{T, ltb, rules}
use lib.Ieee.{binary32, fits, le, sub}
use Rattle.reals.specs.Numbers.{zero, hundred, bottom, top, least, most, narrowest}
use Rattle.reals.specs.Reals.{Within}
use Rattle.block.specs.Checks.{tests}
use Rattle.block.proofs.Passing.{spread, range}
use Rattle.pid_fields.specs.declared.fields.Fields.{Fields}
use Rattle.pid_fields.specs.Checks.{range_checks, relation_checks, held, tuning_held, good}
use Rattle.pid_fields.proofs.Goodness.{Good, goodness}
use Rattle.pid_steps.specs.Control.{scans_in_period}

pub record Facts (f : Fields) : Type 0 where
  pub mv : Within f.mv bottom top
  pub mh : Within f.bounds.mh bottom top
  pub ml : Within f.bounds.ml bottom top
  pub ordered : T (le f.bounds.ml f.bounds.mh)
  pub dml : Within f.tuning.dml zero hundred
  pub rh : Within f.bounds.rh least most
  pub rl : Within f.bounds.rl least most
  pub wide : T (le narrowest (sub binary32 f.bounds.rh f.bounds.rl))
  pub sv : Within f.sv f.bounds.rl f.bounds.rh
  pub counter : T (ltb f.counter (scans_in_period f))
  pub mv_fits : T (fits binary32 f.mv)
  pub sv_fits : T (fits binary32 f.sv)
  pub mh_fits : T (fits binary32 f.bounds.mh)
  pub ml_fits : T (fits binary32 f.bounds.ml)
  pub rh_fits : T (fits binary32 f.bounds.rh)
  pub rl_fits : T (fits binary32 f.bounds.rl)
  pub dml_fits : T (fits binary32 f.tuning.dml)

pub facts_of : (f : Fields) → Good f → Facts f
facts_of f g =
    let ranges = spread (tests (range_checks f)) g.ranges in
    let relations = spread (tests (relation_checks f)) g.related in
    let kept = spread (held f) g.kept in
    let tuning = spread (tuning_held f.tuning) g.tuning_kept in
    search (rules, range)

pub facts : (f : Fields) → T (good f) → Facts f
facts f t = facts_of f (goodness f t)
