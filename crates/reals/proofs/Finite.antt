-- Where sums, quotients and products of reals are finite, or at least numbers. Assumes nothing.
use Rattle.std.proofs.Common.{◌^◌, T, negsuc, mul-pos, lit≤}
use lib.Ieee.{Float, Format, nan, inf, fin, binary32, round, add, sub, mul, div, le, of_bits}
use lib.Ieee.Fits.{down_pos}
use Rattle.std.specs.Float.{float_is_finite}
use Rattle.reals.proofs.Sums.{round_number}
use Rattle.reals.proofs.Sizes.{Size, size_finite, size_between, apart_above, add_size, sub_size, mul_size, div_size}
use Rattle.reals.specs.Numbers.{zero, hundred, bottom, top, least, most, narrowest}
use Rattle.reals.specs.Laws.{Number}

-- ---- numbers of at most 999999 either way

-- x lies in −999999..999999
abbrev pub Typed : Float → Type 0
Typed x = T (le least x) × T (le x most)

typed_size : (x : Float) → Typed x → Size 999999 x
unfolding of_bits
typed_size x i = size_between 999999 x least most (lit≤ tt) (lit≤ tt) i.0 i.1

pub finite_in : (x : Float) → Typed x → T (float_is_finite x)
finite_in x i = size_finite _ _ (typed_size x i)

-- their difference
gap_size : (x y : Float) → Typed x → Typed y → Size (2 ^ 21) (sub binary32 x y)
gap_size x y i j = sub_size binary32 999999 999999 (2 ^ 21) (unfold round in lit≤ tt) x y (typed_size x i) (typed_size y j) (lit≤ tt)

pub sub_finite : (x y : Float) → Typed x → Typed y → T (float_is_finite (sub binary32 x y))
sub_finite x y i j = size_finite _ _ (gap_size x y i j)

-- ---- (100 ÷ span) × (sv − rl), for a span of at least 1/1024

over_span_size : (d : Float) → T (float_is_finite d) → T (le narrowest d) → Size (2 ^ 17) (div binary32 hundred d)
unfolding of_bits
over_span_size d p w = div_size binary32 100 1024 (2 ^ 17) (unfold round in lit≤ tt) hundred d (lit≤ tt) (apart_above 1024 d 1 (negsuc 9) (lit≤ tt) p w) (lit≤ tt)

pub over_span_finite : (d : Float) → T (float_is_finite d) → T (le narrowest d) → T (float_is_finite (div binary32 hundred d))
over_span_finite d p w = size_finite _ _ (over_span_size d p w)

pub percent_finite : (rh rl sv : Float) → Typed rh → Typed rl → T (le narrowest (sub binary32 rh rl)) → Typed sv
    → T (float_is_finite (sub binary32 rh rl)) × T (float_is_finite (div binary32 hundred (sub binary32 rh rl))) × T (float_is_finite (sub binary32 sv rl))
    × T (float_is_finite (mul binary32 (div binary32 hundred (sub binary32 rh rl)) (sub binary32 sv rl)))
percent_finite rh rl sv i j w k =
    let span = sub binary32 rh rl in
    let above = sub binary32 sv rl in
    let p = sub_finite rh rl i j in
    let n = mul_size binary32 (2 ^ 17) (2 ^ 21) (2 ^ 38) (unfold round in lit≤ tt) (div binary32 hundred span) above (over_span_size span p w) (gap_size sv rl k j) (lit≤ tt) in
    (p, over_span_finite span p w, sub_finite sv rl k j, size_finite _ _ n)

-- ---- ((rh − rl) ÷ 100) × r + rl, for an r in −10..110

-- x lies in −10..110
output_size : (x : Float) → T (le bottom x) → T (le x top) → Size 110 x
unfolding of_bits
output_size x h k = size_between 110 x bottom top (lit≤ tt) (lit≤ tt) h k

hundredth_size : (d : Float) → Size (2 ^ 21) d → Size (2 ^ 21) (div binary32 d hundred)
unfolding of_bits
hundredth_size d p = div_size binary32 (2 ^ 21) 1 (2 ^ 21) (unfold round in lit≤ tt) d hundred p (lit≤ tt) (lit≤ tt)

pub remote_finite : (rh rl r : Float) → Typed rh → Typed rl → T (le bottom r) → T (le r top)
    → T (float_is_finite (div binary32 (sub binary32 rh rl) hundred)) × T (float_is_finite (mul binary32 (div binary32 (sub binary32 rh rl) hundred) r))
    × T (float_is_finite (add binary32 (mul binary32 (div binary32 (sub binary32 rh rl) hundred) r) rl))
remote_finite rh rl r i j h k =
    let part = div binary32 (sub binary32 rh rl) hundred in
    let p = hundredth_size (sub binary32 rh rl) (gap_size rh rl i j) in
    let q = mul_size binary32 (2 ^ 21) 110 (2 ^ 28) (unfold round in lit≤ tt) part r p (output_size r h k) (lit≤ tt) in
    let s = add_size binary32 (2 ^ 28) 999999 (2 ^ 29) (unfold round in lit≤ tt) (mul binary32 part r) rl q (typed_size rl j) (lit≤ tt) in
    (size_finite _ _ p, size_finite _ _ q, size_finite _ _ s)

-- ---- x − d and x + d, for an x in −10..110 and a d in 0..100

pub band_finite : (x d : Float) → T (le bottom x) → T (le x top) → T (le zero d) → T (le d hundred) → T (float_is_finite (sub binary32 x d)) × T (float_is_finite (add binary32 x d))
unfolding of_bits
band_finite x d h k a b =
    let p = output_size x h k in
    let q = size_between 100 d zero hundred (lit≤ tt) (lit≤ tt) a b in (
      size_finite _ _ (sub_size binary32 110 100 210 (unfold round in lit≤ tt) x d p q (lit≤ tt)),
      size_finite _ _ (add_size binary32 110 100 210 (unfold round in lit≤ tt) x d p q (lit≤ tt)),
    )

-- ---- a product of finite numbers is a number

pub mul_number : (f : Format) (x y : Float) → T (float_is_finite x) → T (float_is_finite y) → Number (mul f x y)
unfolding mul float_is_finite
mul_number f nan y p q = absurd p
mul_number f (inf s) y p q = absurd p
mul_number f (fin s m e) nan p q = absurd q
mul_number f (fin s m e) (inf t) p q = absurd q
mul_number f (fin s m e) (fin t n d) p q = round_number f _ (mul-pos (down_pos e) (down_pos d)) _ _
