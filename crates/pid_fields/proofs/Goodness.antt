-- What it says of fields that they pass every check, by name. Assumes nothing.
use Rattle.std.proofs.Common.{Bool, ◌&&◌, T, arith}
use Rattle.block.specs.Checks.{sound, all}
use Rattle.block.proofs.Passing.{both}
use Rattle.pid_fields.specs.declared.fields.Fields.{Fields}
use Rattle.pid_fields.specs.Checks.{settings_checks, finite_checks, range_checks, relation_checks, held, tuning_held, past_held, good}

pub record Good (f : Fields) : Type 0 where
  pub settings : T (sound (settings_checks f.settings))
  pub reals : T (sound (finite_checks f))
  pub ranges : T (sound (range_checks f))
  pub related : T (sound (relation_checks f))
  pub kept : T (all (held f))
  pub tuning_kept : T (all (tuning_held f.tuning))
  pub past_kept : T (all (past_held f.past))

parts : (a b c d e g h : Bool) → T (a && (b && (c && (d && (e && (g && h)))))) → T a × T b × T c × T d × T e × T g × T h
parts a b c d e g h t = grind arith

pub goodness : (f : Fields) → T (good f) → Good f
unfolding good
goodness f t = let p = parts _ _ _ _ _ _ _ t in record { settings = p.0; reals = p.1; ranges = p.2; related = p.3; kept = p.4; tuning_kept = p.5; past_kept = p.6 }

pub is_good : (f : Fields) → Good f → T (good f)
unfolding good
is_good f g = both _ _ g.settings (both _ _ g.reals (both _ _ g.ranges (both _ _ g.related (both _ _ g.kept (both _ _ g.tuning_kept g.past_kept)))))
