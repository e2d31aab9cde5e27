-- The laws of reals. Each stands in the contract of a function of this crate.
use Rattle.std.specs.Prelude.{◌≡◌, ℕ, ◌%◌, ◌^◌, ◌<◌, not, T, ◌⊎◌, from_bits, is_nan, Float}
use Rattle.std.specs.Float.Ieee.{lt, le, eq, fits}
use Rattle.std.specs.Float.{float_is_finite, binary32}
use Rattle.reals.specs.Numbers.{zero, hundred, bottom, top}
use Rattle.reals.specs.Reals.{brought, inside, less, more, pattern, real_of, low_word, high_word}

-- a number: anything but NaN
abbrev pub Number : Float → Type 0
Number x = T (not (is_nan x))

-- a finite real that binary32 holds
abbrev pub Real : Float → Type 0
Real x = T (float_is_finite x) × T (fits binary32 x)

-- ≤ is a total order on numbers, and < is its other side
pub record TotalOrder : Type 0 where
  pub reflexive : (x : Float) → Number x → T (le x x)
  pub antisymmetric : (x y : Float) → T (le x y) → T (le y x) → T (eq x y)
  pub transitive : (x y z : Float) → T (le x y) → T (le y z) → T (le x z)
  pub total : (x y : Float) → Number x → Number y → T (le x y) ⊎ T (lt y x)
  pub numbers : (x y : Float) → T (le x y) → Number x × Number y
  pub bounded : (x low high : Float) → T (float_is_finite low) → T (float_is_finite high) → T (inside low high x) → T (float_is_finite x)

-- IEEE equality, in which −0 equals +0, is an equivalence on numbers, and goes with ≤
pub record Equality : Type 0 where
  pub reflexive : (x : Float) → Number x → T (eq x x)
  pub symmetric : (x y : Float) → T (eq x y) → T (eq y x)
  pub transitive : (x y z : Float) → T (eq x y) → T (eq y z) → T (eq x z)
  pub before : (x y z : Float) → T (eq x y) → T (le y z) → T (le x z)
  pub after : (x y z : Float) → T (le x y) → T (eq y z) → T (le x z)

-- what is brought into a range lies in it, is unchanged where it lay there, and is finite between finite limits
pub record Brought (x low high : Float) : Type 0 where
  pub above : Number x → T (le low high) → T (le low (brought x low high))
  pub below : Number x → T (le low high) → T (le (brought x low high) high)
  pub unchanged : T (le low x) → T (le x high) → brought x low high ≡ x
  pub stays_finite : Number x → T (le low high) → T (float_is_finite low) → T (float_is_finite high) → T (float_is_finite (brought x low high))

-- a step of d, which is at least 0, lowers no sum and raises no difference: x − d ≤ x ≤ x + d as rounded
abbrev pub Steps : Float → Float → Type 0
Steps x d = T (float_is_finite x) → T (float_is_finite d) → T (le (from_bits binary32 0) d) → T (le (less x d) x) × T (le x (more x d))

-- x − d and x + d are finite for an x in −10..110 and a d in 0..100
abbrev pub StepsFinite : Float → Float → Type 0
StepsFinite x d = T (inside bottom top x) → T (inside zero hundred d) → T (float_is_finite (less x d)) × T (float_is_finite (more x d))

-- a pattern is finite where its exponent is not all ones; read from two words and written again, it is the same two words
pub record PatternKept (low high : ℕ) : Type 0 where
  pub finite_by : pattern low high % 2 ^ 31 < 0x7f80_0000 → T (float_is_finite (real_of low high))
  pub finite_only : T (float_is_finite (real_of low high)) → pattern low high % 2 ^ 31 < 0x7f80_0000
  pub low_kept : T (float_is_finite (real_of low high)) → low_word (real_of low high) ≡ low
  pub high_kept : T (float_is_finite (real_of low high)) → high_word (real_of low high) ≡ high

-- a real that binary32 holds, written in two words and read again, is the same real, with the same sign where it is a zero
abbrev pub RealKept : Float → Type 0
RealKept x = real_of (low_word x) (high_word x) ≡ x
