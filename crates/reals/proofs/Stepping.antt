-- A step about a real: what it reaches, and that it stays finite. Assumes nothing.
use Rattle.std.proofs.Common.{T}
use lib.Ieee.{Float, le, fits, binary32}
use lib.Ieee.Fits.{and_l, and_r}
use Rattle.reals.proofs.Sums.{sub_down, add_up}
use Rattle.reals.proofs.Finite.{band_finite}
use Rattle.reals.specs.Numbers.{zero, hundred, bottom, top}
use Rattle.reals.specs.Reals.{inside}
use Rattle.reals.specs.Laws.{Steps, StepsFinite}

pub steps : (x d : Float) → T (fits binary32 x) → T (fits binary32 d) → Steps x d
steps x d a b p q h = (sub_down x d p a q b h, add_up x d p a q b h)

pub steps_finite : (x d : Float) → StepsFinite x d
unfolding inside
steps_finite x d h k = band_finite x d (and_l (le bottom x) (le x top) h) (and_r (le bottom x) (le x top) h) (and_l (le zero d) (le d hundred) k) (and_r (le zero d) (le d hundred) k)
