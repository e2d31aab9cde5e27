-- Checks that pass, and chains of steps that came to their end. Assumes nothing.
use Rattle.std.proofs.Common.{◌≡◌, ℕ, Bool, true, ◌&&◌, T, eqb, List, [], ◌∷◌, length, Ok, Err, Result, refl, ◌∙◌, eqb→eq}
use Rattle.std.specs.Prelude.{IfOk}
use Rattle.std.specs.Bool.{passes}
use Rattle.std.proofs.lemmas.Bool.{cond_both, cond-true}
use Rattle.std.proofs.lemmas.Result.{IfOk-at_ok, IfOk-weaker}
use lib.Ieee.{Float, le}
use lib.Ieee.Bits.{is_true}
use lib.Ieee.Fits.{and_l, and_r, eq→eqb}
pub use lib.Ieee.Fits.{and_i as both}
use Rattle.reals.specs.Reals.{inside, Within}
pub use Rattle.reals.proofs.OrderLaws.{range}
use Rattle.terms.specs.declared.refusal.Cause.{Cause}
use Rattle.block.specs.Words.{block_length}
use Rattle.block.specs.declared.checks.Check.{Check}
use Rattle.block.specs.Checks.{passed, sound, all, ◌next◌, at_top, length_checks}

pub split : (a b : Bool) → T (a && b) → T a × T b
split a b t = (and_l a b t, and_r a b t)

pub in_range : (low high x : Float) → Within x low high → T (inside low high x)
unfolding inside
in_range low high x w = both (le low x) (le x high) w.0 w.1

-- all of a list of tests, one by one
abbrev pub All : List Bool → Type 0
All [] = Unit {0}
All (b ∷ bs) = T b × All bs

pub spread : (bs : List Bool) → T (all bs) → All bs
spread [] t = tt
spread (b ∷ bs) t = let p = split b (all bs) t in (p.0, spread bs p.1)

pub gather : (bs : List Bool) → All bs → T (all bs)
gather [] h = tt
gather (b ∷ bs) h = both b (all bs) h.0 (gather bs h.1)

-- a chain that came to its end passed its first step
pub next_ok : {A B E : Type 0} (o : Result A E) (f : A → Result B E) (b : B) → (o next f) ≡ Ok b → (a : A) × (o ≡ Ok a) × (f a ≡ Ok b)
next_ok (Ok a) f b e = (a, refl, e)
next_ok (Err x) f b e = cc

-- P holds of what a call that is accepted comes to
abbrev pub OnOk : {A E : Type 0} → (A → Type 0) → Result A E → Type 0
OnOk P o = IfOk o P

pub next_on : {A B E : Type 0} (S : A → Type 0) (P : B → Type 0) (o : Result A E) (k : A → Result B E) → OnOk S o → ((x : A) → S x → OnOk P (k x)) → OnOk P (o next k)
next_on S P (Ok x) k s p = p x s
next_on S P (Err e) k s p = tt

pub next_any : {A B E : Type 0} (P : B → Type 0) (o : Result A E) (k : A → Result B E) → ((x : A) → OnOk P (k x)) → OnOk P (o next k)
next_any P (Ok x) k p = p x
next_any P (Err e) k p = tt

pub ok_by : {A E : Type 0} (P : A → Type 0) (o : Result A E) (x : A) → OnOk P o → o ≡ Ok x → P x
ok_by P o x h e = IfOk-at_ok P e h

-- the checks pass where every test does, and only there
pub passed_on : (cs : List Check) → OnOk (λ _. T (sound cs)) (passed cs)
passed_on [] = tt
passed_on (c ∷ cs) =
    cond_both c.passes (passed cs) (Err c.cause) (OnOk (λ _. T (c.passes && sound cs)))
    (λ e. IfOk-weaker (passed cs) (λ _. T (sound cs)) _ (λ _ h. both c.passes _ (passes _ e) h) (passed_on cs)) (λ _. tt)

pub passed_sound : (cs : List Check) → passed cs ≡ Ok tt → T (sound cs)
passed_sound cs e = ok_by (λ _. T (sound cs)) (passed cs) tt (passed_on cs) e

pub sound_passed : (cs : List Check) → T (sound cs) → passed cs ≡ Ok tt
sound_passed [] t = refl
sound_passed (c ∷ cs) t = let p = split c.passes _ t in cond-true c.passes _ _ (is_true _ p.0) ∙ sound_passed cs p.1

-- a chain that came to its end passed the checks that it began with
pub passed_next : {B : Type 0} (cs : List Check) (f : Unit {0} → Result B Cause) (b : B) → (passed cs next f) ≡ Ok b → T (sound cs) × (f tt ≡ Ok b)
passed_next cs f b e = let h = next_ok (passed cs) f b e in (passed_sound cs h.1, h.2)

-- and the other way round: checks whose tests pass give way to what follows
pub step_passed : {B : Type 0} (cs : List Check) (f : Unit {0} → Result B Cause) → T (sound cs) → (passed cs next f) ≡ f tt
step_passed cs f t = rw (sound_passed cs t) refl

-- ---- refusals of a call without levels, and words of the right length

pub top_ok : {A : Type 0} (o : Result A Cause) (a : A) → at_top o ≡ Ok a → o ≡ Ok a
top_ok (Ok h) a e = cc
top_ok (Err x) a e = cc

pub is_whole : (ws : List ℕ) → T (sound (length_checks ws)) → length ws ≡ block_length
is_whole ws t = eqb→eq (length ws) block_length (split (eqb (length ws) block_length) true t).0

pub whole_passes : (ws : List ℕ) → length ws ≡ block_length → T (sound (length_checks ws))
whole_passes ws h = both (eqb (length ws) block_length) true (eq→eqb h) tt

-- ---- outcomes

-- what holds of each value that a call may come to holds of its outcome
pub if_ok : {A E : Type 0} {P : A → Type 0} (o : Result A E) → ((a : A) → o ≡ Ok a → P a) → IfOk o P
if_ok (Ok a) h = h a refl
if_ok (Err e) h = tt
