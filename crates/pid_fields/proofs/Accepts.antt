-- What it says of words that reading accepts them. Assumes nothing.
use Rattle.std.proofs.Common.{◌≡◌, ℕ, true, T, List, length, is_some, Some, None, Ok, Option, refl, subst}
use lib.Ieee.{binary32, fits}
use lib.Ieee.Bits.{of_bits-fits}
use Rattle.terms.specs.declared.mode.Mode.{Mode}
use Rattle.terms.specs.declared.place.Place.{Place}
use Rattle.terms.specs.declared.place.Place.TheVariants as at
use Rattle.block.specs.Words.{real_at}
use Rattle.block.specs.Checks.{length_checks, sound}
use Rattle.block.proofs.Passing.{split, gather, passed_next, is_whole}
use Rattle.pid_fields.specs.declared.fields.Settings.{Settings}
use Rattle.pid_fields.specs.declared.fields.Fields.{Fields}
use Rattle.pid_fields.specs.Checks.{settings_checks, finite_checks, range_checks, relation_checks, held, tuning_held, past_held, good}
use Rattle.pid_fields.specs.Reading.{mode_named, or_man, fields_of, mode_checks, checked_of}
use Rattle.pid_fields.proofs.Goodness.{is_good}

-- the words that reading accepts, by name
pub record Accepted (ws : List ℕ) (st : Settings) (f : Fields) : Type 0 where
  pub whole : length ws ≡ 128
  pub settings : T (sound (settings_checks st))
  pub reals : T (sound (finite_checks (fields_of ws st)))
  pub mode : mode_named ws st ≡ Some (or_man (mode_named ws st))
  pub ranges : T (sound (range_checks (fields_of ws st)))
  pub related : T (sound (relation_checks (fields_of ws st)))
  pub fields : fields_of ws st ≡ f

some_mode : (o : Option Mode) → T (is_some o) → o ≡ Some (or_man o)
some_mode None t = absurd t
some_mode (Some m) t = refl

pub accepted : (ws : List ℕ) (st : Settings) (f : Fields) → checked_of ws st ≡ Ok f → Accepted ws st f
accepted ws st f e =
    let g = fields_of ws st in
    let a = passed_next (length_checks ws) _ f e in
    let b = passed_next (settings_checks st) _ f a.1 in
    let c = passed_next (finite_checks g) _ f b.1 in
    let d = passed_next (mode_checks ws st) _ f c.1 in
    let h = passed_next (range_checks g) _ f d.1 in
    let i = passed_next (relation_checks g) _ f h.1 in
    record {
      whole = is_whole ws a.0;
      settings = b.0;
      reals = c.0;
      mode = some_mode (mode_named ws st) (split (is_some (mode_named ws st)) true d.0).0;
      ranges = h.0;
      related = i.0;
      fields = cc i.1;
    }

-- ---- what was read passes every check

pub read_good : (ws : List ℕ) (st : Settings) (f : Fields) → T (fits binary32 st.dt) → T (fits binary32 st.md) → checked_of ws st ≡ Ok f → T (good f)
read_good ws st f dt md e =
    let a = accepted ws st f e in
    let g = fields_of ws st in
    let h : (p : Place) → T (fits binary32 (real_at ws p)) = λ p. of_bits-fits binary32 _ in
    subst (λ (x : Fields). T (good x)) a.fields
    (is_good g
    record {
      settings = a.settings;
      reals = a.reals;
      ranges = a.ranges;
      related = a.related;
      kept = gather (held g) (h at.Mv, (h at.Sv, (h at.Mh, (h at.Ml, (h at.Rh, (h at.Rl, (dt, (md, tt))))))));
      tuning_kept = gather (tuning_held g.tuning) (h at.Ct, (h at.Dml, (h at.P, (h at.Ti, (h at.Td, (h at.Gw, (h at.Gg, tt)))))));
      past_kept = gather (past_held g.past) (h at.Mvp, (h at.B, (h at.Measured, (h at.Measured1, (h at.Measured2, (h at.LastDv, tt))))));
    })
