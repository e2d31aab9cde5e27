-- Step 3 leaves finite past values and a counter below N. Assumes nothing.
use Rattle.std.proofs.Common.{◌+◌, Bool, true, false, cond, T, ltb, Some, None, Ok, Option, arith, lt→ltb, rules}
use lib.Ieee.{Float, binary32, of_bits}
use lib.Ieee.Bits.{of_bits-fits}
use Rattle.std.specs.Float.{float_is_finite}
use Rattle.terms.specs.declared.mode.Mode.{Mode}
use Rattle.terms.specs.declared.refusal.Step.{Step}
use Rattle.terms.specs.declared.refusal.Step.TheVariants as step
use Rattle.reals.specs.Numbers.{zero}
use Rattle.reals.proofs.Chains.{Each, Held, then_each, then_any, cond_each, plus_held, minus_held}
use Rattle.block.specs.Bits.{stopped}
use Rattle.block.proofs.Passing.{OnOk}
use Rattle.pid_fields.specs.declared.fields.Settings.{Settings}
use Rattle.pid_fields.specs.declared.fields.Tuning.{Tuning}
use Rattle.pid_fields.specs.declared.fields.Past.{Past}
use Rattle.pid_fields.specs.declared.fields.Fields.{Fields}
use Rattle.pid_fields.proofs.Goodness.{Good}
use Rattle.pid_steps.specs.declared.control.Control.{Control}
use Rattle.pid_steps.specs.Control.{direct, deviation, gap_gain, derivative, integral, change_of, control_period, scans_in_period, control_step, skipped}
use Rattle.pid_steps.specs.Scanning.{or_refused, third}
use Rattle.pid_meaning.proofs.Facts.{facts_of}
use Rattle.pid_meaning.proofs.Renewals.{PastHeld, old_past}

pub record Controlled (f : Fields) (c : Control) : Type 0 where
  pub counted : T (ltb c.counter (scans_in_period f))
  pub past : PastHeld c.past

pub or_on : {A : Type 0} (P : A → Type 0) (n : Step) (o : Option A) → Each P o → OnOk P (or_refused n o)
or_on P n None h = tt
or_on P n (Some x) h = h

-- P of a choice by a test, from P of both, where the first may take it that the test is true
cond_by : {A : Type 0} (P : A → Type 0) (b : Bool) (x y : A) → (T b → P x) → P y → P (cond b x y)
cond_by P true x y p q = p tt
cond_by P false x y p q = q

pub zero_held : Held zero
zero_held = record { is_finite = unfold float_is_finite in unfold of_bits in tt; is_fit = of_bits-fits binary32 0 }

deviation_held : (st : Settings) (s m : Float) → Each Held (deviation st s m)
deviation_held st s m = cond_each _ (direct st) _ _ (minus_held m s) (minus_held s m)

derivative_held : (t : Tuning) (st : Settings) (mode : Mode) (p : Past) (m : Float) → Each Held (derivative t st mode p m)
derivative_held t st mode p m = search (rules, cond_each, then_any, plus_held, zero_held) depth 14

module _ (f : Fields) (g : Good f) (mode : Mode) (s m : Float) (measured : Held m) where
  old : PastHeld f.past
  old = old_past f g

  period : Each (Controlled f) (control_period f mode s m)
  period =
      then_each Held _ _ _ (deviation_held f.settings s m) λ dv hd.
      then_any _ (gap_gain f.tuning dv) _ λ k.
      then_each Held _ _ _ (derivative_held f.tuning f.settings mode f.past m) λ b hb.
      then_any _ (integral f.tuning f.bounds f.past.mvp dv) _ λ j.
      then_any _ (change_of k f.tuning.p dv f.past.dv j b) _ λ x.
      record {
        counted = lt→ltb 0 (scans_in_period f) (omega arith);
        past = record { mvp = old.mvp; b = hb; measured = measured; measured1 = old.measured; measured2 = old.measured1; dv = hd };
      }

  controlled : Each (Controlled f) (control_step f mode s m)
  controlled =
      let counting : Control = record { change = zero; counter = f.counter + 1; past = f.past } in
      cond_by (Each (Controlled f)) (ltb (f.counter + 1) (scans_in_period f)) (Some counting) _ (λ h. record { counted = h; past = old }) period

  pub third_on : OnOk (Controlled f) (third f mode s m)
  third_on =
      cond_by (OnOk (Controlled f)) (stopped f.alm) (Ok (skipped f)) _
      (λ _. record { counted = (facts_of f g).counter; past = old }) (or_on (Controlled f) step.Control (control_step f mode s m) controlled)
