-- Bit patterns of f32: below the infinity's, a pattern is a finite float's, and comes back from it. Assumes nothing.
use Rattle.std.proofs.Common.{◌≡◌, ℕ, zero, suc, ◌+◌, ◌/◌, ◌%◌, ◌^◌, ◌<◌, ◌≤◌, Bool, true, false, cond, not, T, eqb, sym, refl, subst, true≢false, div-lt_iff_lt-mul, lt_of_not-le, arith, pow_pos, eq-eqb, ne_eqb}
use lib.Ieee.{Float, Format, nan, inf, fin, binary32, prec, low, odd, hid, ones, top, of_fields, of_bits, to_bits, nan_bits, is_nan, fits}
use lib.Ieee.Bits.{of_bits-to_bits, to_bits-of_bits, nan_bits_is}
use Rattle.std.specs.Float.{float_is_finite}
use Rattle.std.proofs.num.Patterns.{below_the_nans}
use Rattle.reals.specs.Reals.{pattern, real_of, low_word, high_word}
use Rattle.reals.specs.Laws.{PatternKept}

odd_finite : (d : ℕ) (s : Bool) (q k l : ℕ) → T (float_is_finite (odd d s q k l))
unfolding odd float_is_finite
odd_finite d s zero k l = tt
odd_finite d s (suc q) k l = tt

fields_finite : (f : Format) (s : Bool) (x t : ℕ) → x < ones f → T (float_is_finite (of_fields f s x t))
unfolding of_fields
fields_finite f s zero t h = odd_finite (prec f) s t 0 (low f)
fields_finite f s (suc x) t h =
    subst (λ (b : Bool). T (float_is_finite (cond b (cond (eqb t 0) (inf s) nan) (odd (prec f) s (hid f + t) x (low f))))) (sym (ne_eqb (suc x) (ones f) (λ e. omega arith))) (odd_finite (prec f) s (hid f + t) x (low f))

-- b's exponent is not all ones
abbrev pub Plain : ℕ → Type 0
Plain b = b % 0x8000_0000 < 0x7f80_0000

pub bits_finite : (b : ℕ) → Plain b → T (float_is_finite (of_bits binary32 b))
unfolding of_bits
bits_finite b h = fields_finite binary32 _ (b % top binary32 / hid binary32) (b % hid binary32) ((div-lt_iff_lt-mul (pow_pos 23)).1 h)

pub bits_of_nan : (x : Float) → true ≡ is_nan x → to_bits binary32 x ≡ 0x7fc0_0000
unfolding is_nan to_bits
bits_of_nan nan e = refl
bits_of_nan (inf s) e = absurd (true≢false e)
bits_of_nan (fin s m g) e = absurd (true≢false e)

pub bits_no_nan : (b : ℕ) → Plain b → T (not (nan_bits binary32 b))
bits_no_nan b h = below_the_nans binary32 b (omega arith)

pub bits_number : (b : ℕ) → Plain b → T (not (is_nan (of_bits binary32 b)))
bits_number b h = subst (λ (t : Bool). T (not t)) (nan_bits_is binary32 b) (bits_no_nan b h)

pub bits_back : (b : ℕ) → b < 2 ^ 32 → Plain b → to_bits binary32 (of_bits binary32 b) ≡ b
bits_back b l h = to_bits-of_bits binary32 b l (bits_number b h)

-- ---- two words

fields_only : (f : Format) (s : Bool) (x t : ℕ) → ones f ≤ x → T (float_is_finite (of_fields f s x t)) → x ≡ ones f → ⊥
unfolding of_fields float_is_finite
fields_only f s zero t l h e = omega arith
fields_only f s (suc x) t l h e = go (eqb t 0) (subst (λ (b : Bool). T (float_is_finite (cond b (cond (eqb t 0) (inf s) nan) (odd (prec f) s (hid f + t) x (low f))))) (eq-eqb (suc x) (ones f) e) h)
  where
    go : (b : Bool) → T (float_is_finite (cond b (inf s) nan)) → ⊥
    go true k = k
    go false k = k

-- what is finite has an exponent that is not all ones
pub finite_bits : (b : ℕ) → T (float_is_finite (of_bits binary32 b)) → Plain b
unfolding of_bits
finite_bits b h = lt_of_not-le (λ (l : 0x7f80_0000 ≤ b % 0x8000_0000). fields_only binary32 _ (b % top binary32 / hid binary32) (b % hid binary32) (omega arith) h (omega arith))

pub words_back : (low high : ℕ) → low < 2 ^ 16 → high < 2 ^ 16 → T (float_is_finite (real_of low high)) → to_bits binary32 (real_of low high) ≡ pattern low high
words_back low high l h f = bits_back (pattern low high) (omega arith) (finite_bits (pattern low high) f)

pub low_back : (low high : ℕ) → low < 2 ^ 16 → high < 2 ^ 16 → T (float_is_finite (real_of low high)) → low_word (real_of low high) ≡ low
low_back low high l h f = rw (words_back low high l h f) (omega arith)

pub high_back : (low high : ℕ) → low < 2 ^ 16 → high < 2 ^ 16 → T (float_is_finite (real_of low high)) → high_word (real_of low high) ≡ high
high_back low high l h f = rw (words_back low high l h f) (omega arith)

pub real_back : (x : Float) → T (fits binary32 x) → real_of (low_word x) (high_word x) ≡ x
real_back x p = let e : pattern (low_word x) (high_word x) ≡ to_bits binary32 x = omega arith in rw e (of_bits-to_bits binary32 x p)

pub pattern_kept : (low high : ℕ) → low < 2 ^ 16 → high < 2 ^ 16 → PatternKept low high
pattern_kept low high l h = record { finite_by = bits_finite (pattern low high); finite_only = finite_bits (pattern low high); low_kept = low_back low high l h; high_kept = high_back low high l h }
