-- Checked arithmetic: each operation is rounded once, and gives nothing where its outcome is not finite. A formula is a chain of them.
use Rattle.std.specs.Prelude.{cond, Some, None, Option, Float}
use Rattle.std.specs.Float.Ieee.{add, sub, mul, div}
use Rattle.std.specs.Float.{float_is_finite, binary32}

-- x where it is finite
unfoldable pub real : Float → Option Float
real x = cond (float_is_finite x) (Some x) None

-- x + y, x − y, x × y and x ÷ y
abbrev pub plus : Float → Float → Option Float
plus x y = real (add binary32 x y)

abbrev pub minus : Float → Float → Option Float
minus x y = real (sub binary32 x y)

abbrev pub times : Float → Float → Option Float
times x y = real (mul binary32 x y)

abbrev pub over : Float → Float → Option Float
over x y = real (div binary32 x y)

-- what follows an operation that gave a real
infixr 20 ◌then◌
abbrev pub ◌then◌ : {A B : Type 0} → Option A → (A → Option B) → Option B
◌then◌ None f = None
◌then◌ (Some x) f = f x
