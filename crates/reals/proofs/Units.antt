-- A finite float that fits is a whole number of units, and the order of floats is that of these numbers. Assumes nothing.
use Rattle.std.proofs.Common.{◌≡◌, ℕ, zero, suc, ◌+◌, ◌-◌, ◌*◌, ◌/◌, ◌%◌, ◌^◌, ◌<◌, ◌≤◌, Bool, true, false, not, ◌&&◌, ◌||◌, T, eqb, ltb, leb, ℤ, pos, negsuc, neg_ℤ, ◌≤ℤ◌, sym, refl, ap, ◌∙◌, subst, inl, inr, suc-le-suc, mul-le-mul_right, mul_assoc, eq-zero-or-pos, lt_of_mul-lt-mul_right, mul-lt-mul_of_pos_right, mul-pos, lt_of_not-le, not-le_of_lt, le_of_mul-le-mul_right, mul-div_cancel, arith, eqb→eq, ltb→lt, leb→le, pow_pos, pow-add, le-ltb, lt-ltb, eq-eqb, ne_eqb}
use mathlib.Core.Bool.{beq}
use native.Mathlib.Nat.{eq_of_mul-eq-mul_right}
use lib.Dec.{not_T}
use lib.Signed.{le_z, lt_z}
use lib.Pow.{pow-lt}
use borrow.Author.Differences.{ints}
use lib.Ieee.{Float, Format, nan, inf, fin, prec, emax, low, up, down, below, level, le, neg, fits, round}
use lib.Ieee.Bits.{is_true, is_false}
use lib.Ieee.Fits.{down_pos, and_l, and_r, round-fits, neg-fits}
use lib.Ieee.Exact.{HasValue, round_exact}
use Rattle.std.proofs.lemmas.Bool.{or_cases}
use Rattle.std.specs.Bool.{passes}
use Rattle.std.specs.Float.{float_is_finite}
use Rattle.std.proofs.num.Values.{same_value}
use Rattle.reals.specs.Reals.{units_in}

-- ---- what `fits` says of a finite value

pub record Fit (f : Format) (m : ℕ) (e : ℤ) : Type 0 where
  pub short : m < 2 ^ prec f
  pub fine : down e ≤ 2 ^ low f
  pub small : m * up e < 2 ^ suc (emax f) * down e

after_first : (a b c d : Bool) → T (a && b && c && d) → T b × T c × T d
after_first a b c d t = let h = and_l (a && b && c) d t in (and_r a b (and_l (a && b) c h), and_r (a && b) c h, and_r (a && b && c) d t)

pub fit : (f : Format) (s : Bool) (m : ℕ) (e : ℤ) → T (fits f (fin s m e)) → Fit f m e
unfolding fits
fit f s zero e t =
    let o : up e * down e ≡ 1 = eqb→eq (up e * down e) 1 t in
    record { short = pow_pos (prec f); fine = one e o; small = omega (arith, mul-pos (pow_pos (suc (emax f))) (down_pos e)) }
  where
    one : (g : ℤ) → up g * down g ≡ 1 → down g ≤ 2 ^ low f
    one (pos k) h = pow_pos (low f)
    one (negsuc k) h = omega (arith, pow_pos (low f))
fit f s (suc m) e t =
    let k = after_first (eqb (suc m % 2) 1) (ltb (suc m) (2 ^ prec f)) (leb (down e) (2 ^ low f)) (ltb (suc m * up e) (2 ^ suc (emax f) * down e)) t in
    record { short = ltb→lt _ _ k.0; fine = leb→le _ _ k.1; small = ltb→lt _ _ k.2 }

-- 2 ^ e is 2 ^ place units
place : Format → ℤ → ℕ
place f (pos k) = k + low f
place f (negsuc k) = low f - suc k

place_is : (f : Format) (e : ℤ) → down e ≤ 2 ^ low f → up e * 2 ^ low f ≡ 2 ^ place f e * down e
unfolding place
place_is f (pos k) h = sym (pow-add 2 k (low f)) ∙ sym (native.Mathlib.Nat.mul-one (2 ^ (k + low f)))
place_is f (negsuc k) h =
    let g : suc k ≤ low f = lt_of_not-le (λ (l : low f ≤ k). not-le_of_lt (pow-lt (suc-le-suc l)) h) in
    let w : low f - suc k + suc k ≡ low f = omega arith in
    native.Mathlib.Nat.one-mul (2 ^ low f) ∙ ap (λ (j : ℕ). 2 ^ j) (sym w) ∙ pow-add 2 (low f - suc k) (suc k)

-- ---- a finite value's size in units

abbrev pub ticks : Format → ℕ → ℤ → ℕ
ticks f m e = m * up e * 2 ^ low f / down e

ticks_place : (f : Format) (m : ℕ) (e : ℤ) → Fit f m e → (ticks f m e ≡ m * 2 ^ place f e) × (m * up e * 2 ^ low f ≡ ticks f m e * down e)
ticks_place f m e h =
    let p : m * up e * 2 ^ low f ≡ m * 2 ^ place f e * down e = mul_assoc m (up e) (2 ^ low f) ∙ ap (λ (k : ℕ). m * k) (place_is f e h.fine) ∙ sym (mul_assoc m (2 ^ place f e) (down e)) in
    let q : ticks f m e ≡ m * 2 ^ place f e = ap (λ (k : ℕ). k / down e) p ∙ mul-div_cancel (m * 2 ^ place f e) (down_pos e) in
    (q, p ∙ ap (λ (k : ℕ). k * down e) (sym q))

pub ticks_value : (f : Format) (s : Bool) (m : ℕ) (e : ℤ) → Fit f m e → HasValue (fin s m e) s (ticks f m e) (2 ^ low f)
ticks_value f s m e h = (refl, (ticks_place f m e h).1)

pub ticks_small : (f : Format) (m : ℕ) (e : ℤ) → Fit f m e → ticks f m e < 2 ^ (low f + suc (emax f))
ticks_small f m e h =
    lt_of_mul-lt-mul_right (down e)
    (omega (arith, (ticks_place f m e h).1, mul-lt-mul_of_pos_right h.small (pow_pos (low f)), ap (λ (k : ℕ). k * down e) (pow-add 2 (low f) (suc (emax f)))))

-- rounding leaves what fits as it is
pub round_own : (f : Format) (s : Bool) (m : ℕ) (e : ℤ) → T (fits f (fin s m e)) → round f s (ticks f m e) (2 ^ low f) ≡ fin s m e
round_own f s m e t =
    let h = fit f s m e t in
    let p = (ticks_place f m e h).0 in
    same_value f (round f s (ticks f m e) (2 ^ low f)) (fin s m e) s (ticks f m e) (round-fits f s (ticks f m e) (2 ^ low f)) t
    (round_exact f s (ticks f m e) (2 ^ low f) m (place f e) (pow_pos (low f)) h.short (subst (λ (k : ℕ). k < 2 ^ (low f + suc (emax f))) p (ticks_small f m e h)) (ap (λ (k : ℕ). k * 2 ^ low f) p))
    (ticks_value f s m e h)

-- ---- tests on A and B are tests on a and b where A / a and B / b are one positive fraction

pub by_order : {P : Type 0} (a b : ℕ) → (a < b → P) → (b ≤ a → P) → P
by_order a b f g = elim (eq-zero-or-pos (b - a)) [ inl z ↦ g (omega arith) | inr p ↦ f (omega arith) ]

module _ (A B a b u c : ℕ) (U : 0 < u) (C : 0 < c) (p : A * u ≡ a * c) (q : B * u ≡ b * c) where
  same_ltb : ltb A B ≡ ltb a b
  same_ltb =
      by_order a b
      (λ h. lt-ltb A B (lt_of_mul-lt-mul_right u (omega (arith, mul-lt-mul_of_pos_right h C))) ∙ sym (lt-ltb a b h))
      (λ h. le-ltb A B (le_of_mul-le-mul_right {k = u} (omega (arith, mul-le-mul_right c h)) U) ∙ sym (le-ltb a b h))

  same_eqb : eqb A B ≡ eqb a b
  same_eqb =
      by_order a b
      (λ h. ne_eqb A B (λ e. omega (arith, mul-lt-mul_of_pos_right h C, ap (λ (k : ℕ). k * u) e)) ∙ sym (ne_eqb a b (λ e. omega arith)))
      (λ h. by_order b a
      (λ g. ne_eqb A B (λ e. omega (arith, mul-lt-mul_of_pos_right g C, ap (λ (k : ℕ). k * u) e)) ∙ sym (ne_eqb a b (λ e. omega arith)))
      (λ g. let e : a ≡ b = omega arith in eq-eqb A B (eq_of_mul-eq-mul_right u U A B (p ∙ ap (λ (k : ℕ). k * c) e ∙ sym q)) ∙ sym (eq-eqb a b e)))

module _ (A B a b u c : ℕ) (U : 0 < u) (C : 0 < c) (p : A * u ≡ a * c) (q : B * u ≡ b * c) where
  same_below : (s t : Bool) → below s A t B ≡ below s a t b
  same_below false false = same_ltb A B a b u c U C p q
  same_below false true = refl
  same_below true false = same_ltb 0 (A + B) 0 (a + b) u c U C (omega arith) (omega arith)
  same_below true true = same_ltb B A b a u c U C q p

  same_level : (s t : Bool) → level s A t B ≡ level s a t b
  same_level s t = λ i. same_eqb A B a b u c U C p q i && (beq s t || same_eqb A 0 a 0 u c U C p (omega arith) i)

-- ---- the order of floats is that of their units

abbrev pub signed : Bool → ℕ → ℤ
signed false a = pos a
signed true a = neg_ℤ (pos a)

pub iff : (p q : Bool) → (T p → T q) → (T q → T p) → p ≡ q
iff true q f g = sym (is_true q (f tt))
iff false q f g = sym (is_false q (not_T q g))

below_is : (s : Bool) (a : ℕ) (t : Bool) (b : ℕ) → below s a t b ≡ lt_z (signed s a) (signed t b)
below_is false a false b = refl
below_is false a true zero = sym (le-ltb a 0 (omega arith))
below_is false a true (suc b) = refl
below_is true zero false b = ap (ltb 0) (native.Mathlib.Nat.zero-add b)
below_is true (suc a) false b = lt-ltb 0 (suc a + b) (omega arith)
below_is true zero true zero = refl
below_is true zero true (suc b) = le-ltb (suc b) 0 (omega arith)
below_is true (suc a) true zero = lt-ltb 0 (suc a) (omega arith)
below_is true (suc a) true (suc b) = by_order b a (λ h. lt-ltb (suc b) (suc a) (omega arith) ∙ sym (lt-ltb b a h)) (λ h. le-ltb (suc b) (suc a) (omega arith) ∙ sym (le-ltb b a h))

level_out : (s : Bool) (a : ℕ) (t : Bool) (b : ℕ) → T (level s a t b) → signed s a ≡ signed t b
level_out false a false b h = ap pos (eqb→eq a b (and_l (eqb a b) true h))
level_out true a true b h = ap (λ (k : ℕ). neg_ℤ (pos k)) (eqb→eq a b (and_l (eqb a b) true h))
level_out false a true b h = let z = eqb→eq a 0 (and_r (eqb a b) (eqb a 0) h) in let e = eqb→eq a b (and_l (eqb a b) (eqb a 0) h) in omega (arith, ints)
level_out true a false b h = let z = eqb→eq a 0 (and_r (eqb a b) (eqb a 0) h) in let e = eqb→eq a b (and_l (eqb a b) (eqb a 0) h) in omega (arith, ints)

level_in : (s : Bool) (a : ℕ) (t : Bool) (b : ℕ) → signed s a ≡ signed t b → T (level s a t b)
level_in false a false b h = rw (eq-eqb a b (omega (arith, ints))) tt
level_in true a true b h = rw (eq-eqb a b (omega (arith, ints))) tt
level_in false a true b h = rw (eq-eqb a b (omega (arith, ints)), eq-eqb a 0 (omega (arith, ints))) tt
level_in true a false b h = rw (eq-eqb a b (omega (arith, ints)), eq-eqb a 0 (omega (arith, ints))) tt

le_of_lt : (z w : ℤ) → T (lt_z z w) → T (le_z z w)
le_of_lt z w h = omega (arith, ints)

le_of_same : (z w : ℤ) → z ≡ w → T (le_z z w)
le_of_same z w h = omega (arith, ints)

same_of_le : (z w : ℤ) → T (le_z z w) → T (not (lt_z z w)) → z ≡ w
same_of_le z w h k = omega (arith, ints)

pub at_most_is : (s : Bool) (a : ℕ) (t : Bool) (b : ℕ) → (below s a t b || level s a t b) ≡ le_z (signed s a) (signed t b)
at_most_is s a t b =
    ap (λ (p : Bool). p || level s a t b) (below_is s a t b)
    ∙ iff (lt_z (signed s a) (signed t b) || level s a t b) (le_z (signed s a) (signed t b))
    (λ h. elim (or_cases (lt_z (signed s a) (signed t b)) (level s a t b) (is_true _ h)) [ inl l ↦ le_of_lt (signed s a) (signed t b) (passes _ l) | inr e ↦ le_of_same (signed s a) (signed t b) (level_out s a t b (passes _ e)) ])
    (back (lt_z (signed s a) (signed t b)) (same_of_le (signed s a) (signed t b)))
  where
    back : (l : Bool) → (T (le_z (signed s a) (signed t b)) → T (not l) → signed s a ≡ signed t b) → T (le_z (signed s a) (signed t b)) → T (l || level s a t b)
    back true f h = tt
    back false f h = level_in s a t b (f h tt)

module _ (f : Format) (s : Bool) (m : ℕ) (e : ℤ) (t : Bool) (n : ℕ) (d : ℤ) (P : Fit f m e) (Q : Fit f n d) where
  abbrev a : ℕ
  a = ticks f m e

  abbrev b : ℕ
  b = ticks f n d

  pub first : m * up e * down d * 2 ^ low f ≡ a * (down e * down d)
  first = omega (arith, ap (λ (k : ℕ). k * down d) (ticks_place f m e P).1)

  pub second : n * up d * down e * 2 ^ low f ≡ b * (down e * down d)
  second = omega (arith, ap (λ (k : ℕ). k * down e) (ticks_place f n d Q).1)

  le_fin : le (fin s m e) (fin t n d) ≡ le_z (signed s a) (signed t b)
  unfolding le
  le_fin =
      (λ i. same_below _ _ a b (2 ^ low f) (down e * down d) (pow_pos (low f)) (mul-pos (down_pos e) (down_pos d)) first second s t i
      || same_level _ _ a b (2 ^ low f) (down e * down d) (pow_pos (low f)) (mul-pos (down_pos e) (down_pos d)) first second s t i)
      ∙ at_most_is s a t b

pub units_fin : (f : Format) (s : Bool) (m : ℕ) (e : ℤ) → units_in f (fin s m e) ≡ signed s (ticks f m e)
unfolding units_in
units_fin f true m e = refl
units_fin f false m e = refl

-- a number of the format: finite, and it fits
pub record Number (f : Format) (x : Float) : Type 0 where
  pub is_finite : T (float_is_finite x)
  pub is_fit : T (fits f x)

pub le_is : (f : Format) (x y : Float) → Number f x → Number f y → le x y ≡ le_z (units_in f x) (units_in f y)
unfolding float_is_finite
le_is f nan y p q = absurd p.is_finite
le_is f (inf s) y p q = absurd p.is_finite
le_is f (fin s m e) nan p q = absurd q.is_finite
le_is f (fin s m e) (inf t) p q = absurd q.is_finite
le_is f (fin s m e) (fin t n d) p q = le_fin f s m e t n d (fit f s m e p.is_fit) (fit f t n d q.is_fit) ∙ (λ i. le_z (sym (units_fin f s m e) i) (sym (units_fin f t n d) i))

-- ---- the same as a fact

pub le_to_units : (f : Format) (x y : Float) → Number f x → Number f y → T (le x y) → units_in f x ≤ℤ units_in f y
le_to_units f x y p q h = record { le = subst T (le_is f x y p q) h }

-- ---- negation

pub units_neg : (f : Format) (x : Float) → units_in f (neg x) ≡ neg_ℤ (units_in f x)
unfolding units_in neg
units_neg f nan = refl
units_neg f (inf s) = refl
units_neg f (fin false m e) = refl
units_neg f (fin true m e) = omega (arith, ints)

pub neg_number : (f : Format) (x : Float) → Number f x → Number f (neg x)
unfolding float_is_finite neg
neg_number f nan p = absurd p.is_finite
neg_number f (inf s) p = absurd p.is_finite
neg_number f (fin s m e) p = record { is_finite = tt; is_fit = neg-fits f (fin s m e) p.is_fit }
