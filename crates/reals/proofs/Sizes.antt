-- How large a sum, a difference, a product or a quotient of floats can be, by how large its parts are. Assumes nothing.
use Rattle.std.proofs.Common.{ℕ, zero, suc, ◌+◌, ◌-◌, ◌*◌, ◌<◌, ◌≤◌, Bool, true, false, cond, ◌&&◌, T, ltb, ℤ, ◌≤ℤ◌, subst, mul-le-mul_right, mul-le-mul, mul-le-mul_left, mul-pos, le_of_mul-le-mul_right, arith}
use mathlib.Core.Bool.{beq}
use borrow.Author.Differences.{ints}
use lib.Dec.{eqb-suc-zero}
use lib.Ieee.{Float, Format, nan, inf, fin, unlike, up, down, round, sum, neg, add, sub, mul, div, le}
use lib.Ieee.Fits.{up_pos, down_pos}
use lib.Ieee.Order.{round_mono}
use Rattle.std.specs.Float.{float_is_finite}
use Rattle.std.proofs.num.Values.{neg-round, round-zero}
use Rattle.reals.proofs.Units.{signed, at_most_is}

-- x is finite, and at most K in size
abbrev pub Size : ℕ → Float → Type 0
Size K nan = ⊥
Size K (inf s) = ⊥
Size K (fin s m e) = m * up e ≤ K * down e

-- x is finite, and at least 1/B in size
abbrev pub Apart : ℕ → Float → Type 0
Apart B nan = ⊥
Apart B (inf s) = ⊥
Apart B (fin s m e) = down e ≤ B * (m * up e)

-- K rounds to no more than K, as every number does that the format holds
abbrev pub Holds : Format → ℕ → Type 0
Holds f K = Size K (round f false K 1)

pub size_finite : (K : ℕ) (x : Float) → Size K x → T (float_is_finite x)
unfolding float_is_finite
size_finite K nan h = absurd h
size_finite K (inf s) h = absurd h
size_finite K (fin s m e) h = tt

size_neg : (K : ℕ) (x : Float) → Size K x → Size K (neg x)
unfolding neg
size_neg K nan h = h
size_neg K (inf s) h = h
size_neg K (fin s m e) h = h

-- ---- what the order says of sizes

-- finite values in order, as whole numbers over one denominator
le_whole : (s : Bool) (m : ℕ) (e : ℤ) (t : Bool) (n : ℕ) (d : ℤ) → T (le (fin s m e) (fin t n d)) → signed s (m * up e * down d) ≤ℤ signed t (n * up d * down e)
unfolding le
le_whole s m e t n d h = record { le = subst T (at_most_is s (m * up e * down d) t (n * up d * down e)) h }

-- a negative value is no larger than what lies below it, and a positive one no larger than what lies above it
low_size : (t : Bool) (a b : ℕ) → signed t a ≤ℤ signed true b → b ≤ a
low_size true a b h = omega (arith, ints)
low_size false a b h = omega (arith, ints)

high_size : (t : Bool) (a b : ℕ) → signed false a ≤ℤ signed t b → a ≤ b
high_size true a b h = omega (arith, ints)
high_size false a b h = omega (arith, ints)

-- a / c ≤ b / d ≤ K
through : (a c b d K : ℕ) → 0 < d → a * d ≤ b * c → b ≤ K * d → a ≤ K * c
through a c b d K D h k = le_of_mul-le-mul_right {k = d} (omega (arith, mul-le-mul_right c k)) D

-- what lies between two of size K has size K
pub size_between : (K : ℕ) (x a b : Float) → Size K a → Size K b → T (le a x) → T (le x b) → Size K x
size_between K x nan b p q h k = absurd p
size_between K x (inf t) b p q h k = absurd p
size_between K x (fin t n d) nan p q h k = absurd q
size_between K x (fin t n d) (inf u) p q h k = absurd q
size_between K nan (fin t n d) (fin u j g) p q h k = absurd (unfold le in h)
size_between K (inf true) (fin t n d) (fin u j g) p q h k = absurd (unfold le in h)
size_between K (inf false) (fin t n d) (fin u j g) p q h k = absurd (unfold le in k)
size_between K (fin true m e) (fin t n d) (fin u j g) p q h k = through (m * up e) (down e) (n * up d) (down d) K (down_pos d) (low_size t _ _ (le_whole t n d true m e h)) p
size_between K (fin false m e) (fin t n d) (fin u j g) p q h k = through (m * up e) (down e) (j * up g) (down g) K (down_pos g) (high_size u _ _ (le_whole false m e u j g k)) q

-- what is finite and above a positive number is as far from 0
pub apart_above : (B : ℕ) (x : Float) (m : ℕ) (e : ℤ) → Apart B (fin false m e) → T (float_is_finite x) → T (le (fin false m e) x) → Apart B x
unfolding float_is_finite
apart_above B nan m e p q h = absurd q
apart_above B (inf s) m e p q h = absurd q
apart_above B (fin t n d) m e p q h =
    let k = high_size t _ _ (le_whole false m e t n d h) in
    le_of_mul-le-mul_right {k = down e} (omega (arith, mul-le-mul_right (down d) p, mul-le-mul_left B k)) (down_pos e)

-- ---- what rounding does to sizes

-- a fraction of at most K rounds to at most K, whatever its sign
pub round_size : (f : Format) (s : Bool) (a c K : ℕ) → 0 < c → a ≤ K * c → Holds f K → Size K (round f s a c)
round_size f s a c K C h p = go s
  where
    z : Size K (round f false 0 c)
    z = rw (round-zero f false c C) (omega arith)

    under : Size K (round f false a c)
    under = size_between K (round f false a c) (round f false 0 c) (round f false K 1) z p (round_mono f 0 c a c C C (omega arith)) (round_mono f a c K 1 C (omega arith) (omega arith))

    go : (t : Bool) → Size K (round f t a c)
    go false = under
    go true = subst (Size K) (neg-round f a c) (size_neg K (round f false a c) under)

-- a sum is a fraction rounded, of no more than both sizes together
sum_by : (P : Float → Type 0) (f : Format) (s : Bool) (a : ℕ) (t : Bool) (b c : ℕ) → ((u : Bool) (n : ℕ) → n ≤ a + b → P (round f u n c)) → P (sum f s a t b c)
unfolding sum
sum_by P f s a t b c k = go (beq s t) (ltb a b)
  where
    go : (x y : Bool) → P (cond x (round f s (a + b) c) (cond y (round f t (b - a) c) (round f (s && ltb b a) (a - b) c)))
    go true y = k s (a + b) (omega arith)
    go false true = k t (b - a) (omega arith)
    go false false = k (s && ltb b a) (a - b) (omega arith)

-- the operations, by any K that the format holds and that is large enough
module _ (f : Format) (A B K : ℕ) (held : Holds f K) where
  pub add_size : (x y : Float) → Size A x → Size B y → A + B ≤ K → Size K (add f x y)
  unfolding add
  add_size nan y p q o = absurd p
  add_size (inf s) y p q o = absurd p
  add_size (fin s m e) nan p q o = absurd q
  add_size (fin s m e) (inf t) p q o = absurd q
  add_size (fin s m e) (fin t n d) p q o =
      let c = down e * down d in
      sum_by (Size K) f s (m * up e * down d) t (n * up d * down e) c
      (λ u k h. round_size f u k c K (mul-pos (down_pos e) (down_pos d)) (omega (arith, mul-le-mul_right (down d) p, mul-le-mul_right (down e) q, mul-le-mul_right c o)) held)

  pub sub_size : (x y : Float) → Size A x → Size B y → A + B ≤ K → Size K (sub f x y)
  unfolding sub
  sub_size x y p q o = add_size x (neg y) p (size_neg B y q) o

  pub mul_size : (x y : Float) → Size A x → Size B y → A * B ≤ K → Size K (mul f x y)
  unfolding mul
  mul_size nan y p q o = absurd p
  mul_size (inf s) y p q o = absurd p
  mul_size (fin s m e) nan p q o = absurd q
  mul_size (fin s m e) (inf t) p q o = absurd q
  mul_size (fin s m e) (fin t n d) p q o =
      let c = down e * down d in
      round_size f (unlike s t) (m * up e * (n * up d)) c K (mul-pos (down_pos e) (down_pos d)) (omega (arith, mul-le-mul p q, mul-le-mul_right c o)) held

  pub div_size : (x y : Float) → Size A x → Apart B y → A * B ≤ K → Size K (div f x y)
  unfolding div
  div_size nan y p q o = absurd p
  div_size (inf s) y p q o = absurd p
  div_size (fin s m e) nan p q o = absurd q
  div_size (fin s m e) (inf t) p q o = absurd q
  div_size (fin s m e) (fin t zero d) p q o = absurd (omega (arith, down_pos d))
  div_size (fin s m e) (fin t (suc n) d) p q o =
      let c = suc n * up d * down e in
      rw (eqb-suc-zero n)
      (round_size f (unlike s t) (m * up e * down d) c K (mul-pos (mul-pos (omega arith) (up_pos d)) (down_pos e)) (omega (arith, mul-le-mul p q, mul-le-mul_right c o)) held)
