-- Checks in a fixed order, of which the first that fails decides.
use Rattle.std.specs.Prelude.{ℕ, Bool, true, cond, ◌&&◌, List, [], ◌∷◌, length, Ok, Err, Result, ◌==◌, Float}
use Rattle.std.specs.Float.{float_is_finite}
use Rattle.reals.specs.Reals.{inside}
use Rattle.terms.specs.declared.place.Place.{Place}
use Rattle.terms.specs.declared.refusal.Cause.{Cause}
use Rattle.terms.specs.declared.refusal.Cause.TheVariants.{WrongLength, NotFinite, OutOfRange}
use Rattle.terms.specs.declared.refusal.Refusal.{Refusal}
use Rattle.terms.specs.Refusals.{refused}
use Rattle.block.specs.Words.{block_length}
use Rattle.block.specs.declared.checks.Check.{Check}

-- whether a check passes, and the cause of the refusal where it fails
abbrev pub check : Bool → Cause → Check
check b c = record { passes = b; cause = c }

-- the cause of the first check that fails
abbrev pub passed : List Check → Result Unit Cause
passed [] = Ok tt
passed (c ∷ rest) = cond c.passes (passed rest) (Err c.cause)

abbrev pub all : List Bool → Bool
all [] = true
all (b ∷ rest) = b && all rest

-- which checks of a list pass
abbrev pub tests : List Check → List Bool
tests [] = []
tests (c ∷ rest) = c.passes ∷ tests rest

-- whether every check passes
abbrev pub sound : List Check → Bool
sound cs = all (tests cs)

-- what follows an accepted step
infixr 20 ◌next◌
abbrev pub ◌next◌ : {A B E : Type 0} → Result A E → (A → Result B E) → Result B E
◌next◌ (Ok x) f = f x
◌next◌ (Err e) f = Err e

-- the real x of a place is finite
abbrev pub is_finite : Place → Float → Check
is_finite p x = check (float_is_finite x) (NotFinite p)

-- the real x of a place lies in low..high
abbrev pub is_in : Float → Float → Place → Float → Check
is_in low high p x = check (inside low high x) (OutOfRange p)

-- a cause as a refusal of a call without levels
abbrev pub at_top : {A : Type 0} → Result A Cause → Result A Refusal
at_top (Ok x) = Ok x
at_top (Err c) = Err (refused c)

-- a block has 128 words
abbrev pub length_checks : List ℕ → List Check
length_checks ws = check (length ws == block_length) WrongLength ∷ []

-- what writing answers: it refuses nothing but a wrong length
abbrev pub write_answer : List ℕ → Result Unit Refusal
write_answer ws = cond (length ws == block_length) (Ok tt) (Err (refused WrongLength))

-- what a call answers that has nothing to tell
abbrev pub done : {A E : Type 0} → Result A E → Result Unit E
done (Ok x) = Ok tt
done (Err e) = Err e
