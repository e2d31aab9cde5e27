-- What the checks of a call's inputs say, and what every kind's laws go by. Assumes nothing.
use Rattle.std.proofs.Common.{◌≡◌, false, T, Some, None, Ok, Err, Option, Result, IfOk, refl, inl, inr}
use lib.Dec.{not_T}
use lib.Ieee.{Float, of_bits}
use lib.Ieee.Bits.{is_false}
use Rattle.std.proofs.lemmas.Bool.{cases_Bool}
use Rattle.std.specs.Float.{float_is_finite}
use Rattle.std.specs.Float.Order.{le_right}
use Rattle.terms.specs.declared.place.Place.{Place}
use Rattle.terms.specs.declared.place.Place.TheVariants as at
use Rattle.terms.specs.declared.refusal.Cause.{Cause}
use Rattle.reals.specs.Numbers.{bottom, top}
use Rattle.reals.specs.Reals.{inside, Within, Same}
use Rattle.reals.proofs.OrderLaws.{eq_refl, finite_between}
use Rattle.block.specs.Checks.{passed, tests, ◌next◌, at_top, done}
use Rattle.block.proofs.Passing.{spread, gather, range, in_range, passed_sound, sound_passed, next_ok, next_on, if_ok, OnOk}
use Rattle.loops.specs.Inputs.{percent_checks, inputs_passed, no_percent}
use Rattle.loops.specs.Outcomes.{seen, after}

-- ---- reals

-- what lies in a range is a number, so it is the same as itself
pub self : (x low high : Float) → Within x low high → Same x x
self x low high w = eq_refl x (le_right low x w.0)

pub finite_percent : (x : Float) → Within x bottom top → T (float_is_finite x)
finite_percent x w = finite_between x bottom top (unfold float_is_finite in unfold of_bits in tt) (unfold float_is_finite in unfold of_bits in tt) w.0 w.1

-- ---- inputs

pub admitted : (p : Place) (x : Float) → passed (percent_checks p x) ≡ Ok tt → Within x bottom top
admitted p x e = range bottom top x (spread (tests (percent_checks p x)) (passed_sound (percent_checks p x) e)).1.0

pub admits : (p : Place) (x : Float) → Within x bottom top → passed (percent_checks p x) ≡ Ok tt
admits p x w = sound_passed (percent_checks p x) (gather (tests (percent_checks p x)) (finite_percent x w, (in_range bottom top x w, tt)))

pub declined : (p : Float) → (Within p bottom top → ⊥) → passed (percent_checks at.Mv p) ≡ Err (no_percent p)
declined p out =
    let i : inside bottom top p ≡ false = is_false _ (not_T _ (λ t. out (range bottom top p t))) in
    elim (cases_Bool (float_is_finite p)) [ inl e ↦ rw (e, i) refl | inr e ↦ rw e refl ]

abbrev pub RemoteIn : Option Float → Type 0
RemoteIn None = Unit {0}
RemoteIn (Some r) = Within r bottom top

pub inputs : (m : Float) (r : Option Float) → inputs_passed m r ≡ Ok tt → Within m bottom top × RemoteIn r
inputs m None e = (admitted at.Measured m e, tt)
inputs m (Some r) e = let a = next_ok (passed (percent_checks at.Remote r)) (λ _. passed (percent_checks at.Measured m)) tt e in (admitted at.Measured m a.2, admitted at.Remote r a.1)

pub inputs_on : (m : Float) (r : Option Float) → OnOk (λ _. Within m bottom top × RemoteIn r) (inputs_passed m r)
inputs_on m r = if_ok (inputs_passed m r) (λ _ e. inputs m r e)

-- what holds of an output that is taken holds of what an accepted follow comes to
pub taken_on : {S : Type 0} (P : S → Type 0) (put : S) (p : Float) → (Within p bottom top → P put) → OnOk P (passed (percent_checks at.Mv p) next λ _. Ok put)
taken_on P put p k = next_on (λ _. Within p bottom top) P (passed (percent_checks at.Mv p)) (λ _. Ok put) (if_ok _ (λ _ e. admitted at.Mv p e)) (λ _ w. k w)

-- ---- outcomes

-- what is seen of an accepted outcome comes of what it is
pub seen_ok : {A B E : Type 0} (f : A → B) (o : Result A E) (b : B) → seen f o ≡ Ok b → (a : A) × (o ≡ Ok a) × (f a ≡ b)
seen_ok f (Ok a) b e = (a, refl, cc)
seen_ok f (Err x) b e = cc

-- what holds of what a call came to holds of what it leaves, where it is accepted
pub settled : {S : Type 0} (P : S → Type 0) (s : S) (o : Result S Cause) → ((t : S) → o ≡ Ok t → P t) → IfOk (at_top (done o)) (λ x. P (after s o))
settled P s (Ok t) h = h t refl
settled P s (Err e) h = tt
