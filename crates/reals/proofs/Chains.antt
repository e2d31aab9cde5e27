-- What holds of the outcome of a chain of checked operations. Assumes nothing.
use Rattle.std.proofs.Common.{Bool, true, false, cond, T, Some, None, Option}
use lib.Ieee.{Float, binary32, fits, lt, add, sub}
use lib.Ieee.Fits.{add-fits, sub-fits}
use Rattle.std.specs.Float.{float_is_finite}
use Rattle.reals.specs.Reals.{brought}
use Rattle.reals.specs.Checked.{real, plus, minus, ◌then◌}

-- P holds of what comes, if anything comes
abbrev pub Each : {A : Type 0} → (A → Type 0) → Option A → Type 0
Each P None = Unit {0}
Each P (Some x) = P x

-- a finite real that binary32 holds
pub record Held (x : Float) : Type 0 where
  pub is_finite : T (float_is_finite x)
  pub is_fit : T (fits binary32 x)

pub real_each : (P : Float → Type 0) (x : Float) → (T (float_is_finite x) → P x) → Each P (real x)
unfolding real
real_each P x p = go (float_is_finite x) p
  where
    go : (b : Bool) → (T b → P x) → Each P (cond b (Some x) None)
    go true q = q tt
    go false q = tt

pub then_each : {A B : Type 0} (S : A → Type 0) (P : B → Type 0) (o : Option A) (k : A → Option B) → Each S o → ((x : A) → S x → Each P (k x)) → Each P (o then k)
then_each S P None k s p = tt
then_each S P (Some x) k s p = p x s

-- what follows an operation of which nothing need be known
pub then_any : {A B : Type 0} (P : B → Type 0) (o : Option A) (k : A → Option B) → ((x : A) → Each P (k x)) → Each P (o then k)
then_any P None k p = tt
then_any P (Some x) k p = p x

pub cond_each : {A : Type 0} (P : A → Type 0) (b : Bool) (x y : Option A) → Each P x → Each P y → Each P (cond b x y)
cond_each P true x y p q = p
cond_each P false x y p q = q

pub plus_held : (x y : Float) → Each Held (plus x y)
plus_held x y = real_each Held (add binary32 x y) (λ t. record { is_finite = t; is_fit = add-fits binary32 x y })

pub minus_held : (x y : Float) → Each Held (minus x y)
minus_held x y = real_each Held (sub binary32 x y) (λ t. record { is_finite = t; is_fit = sub-fits binary32 x y })

-- what is brought into a range is one of the three
pub brought_by : (P : Float → Type 0) (x a b : Float) → P x → P a → P b → P (brought x a b)
brought_by P x a b px pa pb = go (lt x a) (lt b x)
  where
    go : (c d : Bool) → P (cond c a (cond d b x))
    go true d = pa
    go false true = pb
    go false false = px
