-- Reals: IEEE 754 binary32 numbers, as the contracts speak of them.
use Rattle.std.specs.Prelude.{ℕ, suc, ◌+◌, ◌*◌, ◌/◌, ◌%◌, ◌^◌, Bool, true, false, cond, ◌&&◌, T, ℤ, pos, negsuc, neg_ℤ, from_bits, to_bits, Float}
use Rattle.std.specs.Float.{Format, nan, inf, fin, binary32}
use Rattle.std.specs.Float.Ieee.{low, up, down, lt, le, eq, add, sub, round}

-- x brought into low..high: low where x is below it, high where x is above it, and otherwise x
abbrev pub brought : Float → Float → Float → Float
brought x low high = cond (lt x low) low (cond (lt high x) high x)

-- low ≤ x ≤ high
unfoldable pub inside : Float → Float → Float → Bool
inside low high x = le low x && le x high

-- the same as a relation: x lies from low to high
abbrev pub Within : Float → Float → Float → Type 0
Within x low high = T (le low x) × T (le x high)

-- reals are the same where they compare equal, so −0 and +0 are
abbrev pub Same : Float → Float → Type 0
Same x y = T (eq x y)

-- x − d and x + d, each rounded once
abbrev pub less : Float → Float → Float
less x d = sub binary32 x d

abbrev pub more : Float → Float → Float
more x d = add binary32 x d

-- ---- a real in two words, low half first

-- the bit pattern that two words hold
abbrev pub pattern : ℕ → ℕ → ℕ
pattern low high = high * 65536 + low

-- the real that two words hold
abbrev pub real_of : ℕ → ℕ → Float
real_of low high = from_bits binary32 (pattern low high)

-- the two words of a real
abbrev pub low_word : Float → ℕ
low_word x = to_bits binary32 x % 65536

abbrev pub high_word : Float → ℕ
high_word x = to_bits binary32 x / 65536

-- ---- reals as whole numbers of their smallest unit, which the proofs on sums go by

-- a finite x that fits f, as a whole number of f's smallest positive value
unfoldable pub units_in : Format → Float → ℤ
units_in f nan = pos 0
units_in f (inf s) = pos 0
units_in f (fin false m e) = pos (m * up e * 2 ^ low f / down e)
units_in f (fin true m e) = neg_ℤ (pos (m * up e * 2 ^ low f / down e))

-- the float nearest to z units
unfoldable pub round_z : Format → ℤ → Float
round_z f (pos n) = round f false n (2 ^ low f)
round_z f (negsuc n) = round f true (suc n) (2 ^ low f)
