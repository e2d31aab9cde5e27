-- A sum of floats is the sum of their units, rounded; rounding keeps the order, so sums do. Assumes nothing.
use Rattle.std.proofs.Common.{◌≡◌, ℕ, zero, suc, ◌+◌, ◌-◌, ◌*◌, ◌^◌, ◌<◌, ◌≤◌, Bool, true, false, not, T, ℤ, pos, negsuc, ◌+ℤ◌, ◌-ℤ◌, ◌≤ℤ◌, sym, refl, subst, mul-le-mul_right, mul-pos, arith, pow_pos}
use mathlib.Core.Bool.{beq}
use lib.IntN.{+ℤ_idl}
use lib.Signed.{le_z}
use borrow.Author.Differences.{ints}
use lib.Ieee.{Float, Format, nan, inf, fin, binary32, low, up, down, eq, le, neg, fits, round, sum, add, sub, is_nan, of_bits}
use lib.Ieee.Fits.{down_pos}
use lib.Ieee.Order.{round_mono}
use Rattle.std.specs.Float.{float_is_finite}
use Rattle.std.specs.Float.Order.{le_trans, le_left, le_right}
use Rattle.std.proofs.num.Values.{neg-round, round-zero, sum_same, sum_like, sum_less, sum_more, sum_level}
use Rattle.reals.specs.Reals.{units_in, round_z}
use Rattle.reals.proofs.OrderLaws.{le_of_eq, eq_refl, eq_le, le_eq, eq_sym, eq_trans}
use Rattle.reals.proofs.Units.{signed, ticks, at_most_is, by_order, first, second, Number, fit, units_fin, round_own, le_to_units, units_neg, neg_number}

-- ---- negation turns the order round

turned : (s : Bool) (a : ℕ) (t : Bool) (b : ℕ) → T (le_z (signed s a) (signed t b)) → T (le_z (signed (not t) b) (signed (not s) a))
turned true a true b h = omega (arith, ints)
turned true a false b h = omega (arith, ints)
turned false a true b h = omega (arith, ints)
turned false a false b h = omega (arith, ints)

pub neg_le : (x y : Float) → T (le x y) → T (le (neg y) (neg x))
unfolding le neg
neg_le nan y h = absurd h
neg_le (inf s) nan h = absurd h
neg_le (inf true) (inf true) h = tt
neg_le (inf true) (inf false) h = tt
neg_le (inf false) (inf true) h = absurd h
neg_le (inf false) (inf false) h = tt
neg_le (inf true) (fin t n d) h = tt
neg_le (inf false) (fin t n d) h = absurd h
neg_le (fin s m e) nan h = absurd h
neg_le (fin s m e) (inf true) h = absurd h
neg_le (fin s m e) (inf false) h = tt
neg_le (fin s m e) (fin t n d) h =
    subst T (sym (at_most_is (not t) (n * up d * down e) (not s) (m * up e * down d)))
    (turned s (m * up e * down d) t (n * up d * down e) (subst T (at_most_is s (m * up e * down d) t (n * up d * down e)) h))

-- ---- rounding keeps the order, negative results included

module _ (f : Format) (c : ℕ) (C : 0 < c) where
  pub up_mono : (a b : ℕ) → a ≤ b → T (le (round f false a c) (round f false b c))
  up_mono a b h = round_mono f a c b c C C (mul-le-mul_right c h)

  pub down_mono : (a b : ℕ) → a ≤ b → T (le (round f true b c) (round f true a c))
  down_mono a b h =
      let k = neg_le (round f false a c) (round f false b c) (up_mono a b h) in
      subst (λ (y : Float). T (le y (round f true a c))) (neg-round f b c) (subst (λ (y : Float). T (le (neg (round f false b c)) y)) (neg-round f a c) k)

  pub zeros : T (eq (round f true 0 c) (round f false 0 c))
  zeros = subst (λ (x : Float). T (eq x (round f false 0 c))) (sym (round-zero f true c C)) (subst (λ (x : Float). T (eq (fin true 0 (pos 0)) x)) (sym (round-zero f false c C)) (unfold eq in tt))

  pub across : (a b : ℕ) → T (le (round f true a c) (round f false b c))
  across a b = le_trans _ _ _ (down_mono 0 a (omega arith)) (le_trans _ _ _ (le_of_eq _ _ zeros) (up_mono 0 b (omega arith)))

  pub round_number : (s : Bool) (a : ℕ) → T (not (is_nan (round f s a c)))
  round_number true a = le_left _ _ (across a 0)
  round_number false a = le_right _ _ (across 0 a)

pub round_z_mono : (f : Format) (z w : ℤ) → z ≤ℤ w → T (le (round_z f z) (round_z f w))
unfolding round_z
round_z_mono f (pos a) (pos b) h = up_mono f (2 ^ low f) (pow_pos (low f)) a b (omega (arith, ints))
round_z_mono f (pos a) (negsuc b) h = absurd h.le
round_z_mono f (negsuc a) (pos b) h = across f (2 ^ low f) (pow_pos (low f)) (suc a) b
round_z_mono f (negsuc a) (negsuc b) h = down_mono f (2 ^ low f) (pow_pos (low f)) (suc b) (suc a) (omega (arith, ints))

-- ---- a sum

round_z_signed : (f : Format) (s : Bool) (a : ℕ) → T (eq (round f s a (2 ^ low f)) (round_z f (signed s a)))
unfolding round_z
round_z_signed f false a = eq_refl _ (round_number f (2 ^ low f) (pow_pos (low f)) false a)
round_z_signed f true zero = zeros f (2 ^ low f) (pow_pos (low f))
round_z_signed f true (suc a) = eq_refl _ (round_number f (2 ^ low f) (pow_pos (low f)) true (suc a))

module _ (f : Format) where
  given : (x : Float) (s : Bool) (a : ℕ) (z : ℤ) → x ≡ round f s a (2 ^ low f) → signed s a ≡ z → T (eq x (round_z f z))
  given x s a z p q = subst (λ (y : Float). T (eq y (round_z f z))) (sym p) (subst (λ (y : ℤ). T (eq (round f s a (2 ^ low f)) (round_z f y))) q (round_z_signed f s a))

  apart : (s t : Bool) (a b : ℕ) (z : ℤ) → beq s t ≡ false
      → (a < b → signed t (b - a) ≡ z) → (a ≡ b → pos 0 ≡ z) → (b < a → signed s (a - b) ≡ z) → T (eq (sum f s a t b (2 ^ low f)) (round_z f z))
  apart s t a b z u p q r =
      by_order a b (λ l. given _ t (b - a) z (sum_less f s t a b _ u l) (p l))
      (λ g. by_order b a (λ l. given _ s (a - b) z (sum_more f s t a b _ u l) (r l)) (λ h. let e : a ≡ b = omega arith in given _ false 0 z (sum_level f s t a b _ u e) (q e)))

  sum_rounds : (s t : Bool) (a b : ℕ) → T (eq (sum f s a t b (2 ^ low f)) (round_z f (signed s a +ℤ signed t b)))
  sum_rounds true true a b = given _ true (a + b) _ (sum_like f true a b _) (omega (arith, ints))
  sum_rounds false false a b = given _ false (a + b) _ (sum_like f false a b _) refl
  sum_rounds true false a b = apart true false a b _ refl (λ h. omega (arith, ints)) (λ h. omega (arith, ints)) (λ h. omega (arith, ints))
  sum_rounds false true a b = apart false true a b _ refl (λ h. omega (arith, ints)) (λ h. omega (arith, ints)) (λ h. omega (arith, ints))

  -- the sum of two floats is that of their units, rounded (up to the sign of a zero)
  pub add_rounds : (x y : Float) → Number f x → Number f y → T (eq (add f x y) (round_z f (units_in f x +ℤ units_in f y)))
  unfolding float_is_finite add
  add_rounds nan y p q = absurd p.is_finite
  add_rounds (inf s) y p q = absurd p.is_finite
  add_rounds (fin s m e) nan p q = absurd q.is_finite
  add_rounds (fin s m e) (inf t) p q = absurd q.is_finite
  add_rounds (fin s m e) (fin t n d) p q =
      let P = fit f s m e p.is_fit in
      let Q = fit f t n d q.is_fit in
      let k = sum_same f s t (m * up e * down d) (n * up d * down e) (down e * down d) (ticks f m e) (ticks f n d) (2 ^ low f) (mul-pos (down_pos e) (down_pos d)) (pow_pos (low f)) (first f s m e t n d P Q) (second f s m e t n d P Q) in
      subst (λ (y : Float). T (eq y (round_z f (units_in f (fin s m e) +ℤ units_in f (fin t n d))))) (sym k)
      (subst (λ (z : ℤ). T (eq (sum f s (ticks f m e) t (ticks f n d) (2 ^ low f)) (round_z f z))) (λ i. sym (units_fin f s m e) i +ℤ sym (units_fin f t n d) i) (sum_rounds s t (ticks f m e) (ticks f n d)))

  pub sub_rounds : (x y : Float) → Number f x → Number f y → T (eq (sub f x y) (round_z f (units_in f x -ℤ units_in f y)))
  unfolding sub
  sub_rounds x y p q = subst (λ (z : ℤ). T (eq (add f x (neg y)) (round_z f (units_in f x +ℤ z)))) (units_neg f y) (add_rounds x (neg y) p (neg_number f y q))

  pub own_rounds : (x : Float) → Number f x → T (eq (round_z f (units_in f x)) x)
  unfolding float_is_finite
  own_rounds nan p = absurd p.is_finite
  own_rounds (inf s) p = absurd p.is_finite
  own_rounds (fin s m e) p = eq_sym _ _ (given (fin s m e) s (ticks f m e) _ (sym (round_own f s m e p.is_fit)) (sym (units_fin f s m e)))

  -- ---- what a control loop asks

  pub add_above : (x d : Float) → Number f x → Number f d → pos 0 ≤ℤ units_in f d → T (le x (add f x d))
  add_above x d p q h = eq_le _ _ _ (eq_sym _ _ (own_rounds x p)) (le_eq _ _ _ (round_z_mono f _ _ (omega (arith, ints))) (eq_sym _ _ (add_rounds x d p q)))

  pub sub_below : (x d : Float) → Number f x → Number f d → pos 0 ≤ℤ units_in f d → T (le (sub f x d) x)
  sub_below x d p q h = eq_le _ _ _ (sub_rounds x d p q) (le_eq _ _ _ (round_z_mono f _ _ (omega (arith, ints))) (own_rounds x p))

-- ---- at f32, from the tests that a program makes: 0.0 is `of_bits binary32 0` there

zero_number : Number binary32 (of_bits binary32 0)
unfolding float_is_finite fits of_bits
zero_number = record { is_finite = tt; is_fit = tt }

zero_units : units_in binary32 (of_bits binary32 0) ≡ pos 0
unfolding units_in of_bits
zero_units = refl

pub not_negative : (d : Float) → Number binary32 d → T (le (of_bits binary32 0) d) → pos 0 ≤ℤ units_in binary32 d
not_negative d p h = subst (λ (z : ℤ). z ≤ℤ units_in binary32 d) zero_units (le_to_units binary32 (of_bits binary32 0) d zero_number p h)

pub add_up : (x d : Float) → T (float_is_finite x) → T (fits binary32 x) → T (float_is_finite d) → T (fits binary32 d) → T (le (of_bits binary32 0) d) → T (le x (add binary32 x d))
add_up x d a b p q h = let D : Number binary32 d = record { is_finite = p; is_fit = q } in add_above binary32 x d record { is_finite = a; is_fit = b } D (not_negative d D h)

pub sub_down : (x d : Float) → T (float_is_finite x) → T (fits binary32 x) → T (float_is_finite d) → T (fits binary32 d) → T (le (of_bits binary32 0) d) → T (le (sub binary32 x d) x)
sub_down x d a b p q h = let D : Number binary32 d = record { is_finite = p; is_fit = q } in sub_below binary32 x d record { is_finite = a; is_fit = b } D (not_negative d D h)

-- 0 + x is x, up to the sign of a zero
pub zero_plus : (x : Float) → T (fits binary32 x) → T (float_is_finite x) → T (eq (add binary32 (of_bits binary32 0) x) x)
zero_plus x h p =
    let X : Number binary32 x = record { is_finite = p; is_fit = h } in
    eq_trans _ _ x (add_rounds binary32 (of_bits binary32 0) x zero_number X) (rw (zero_units, +ℤ_idl) (own_rounds binary32 x X))
