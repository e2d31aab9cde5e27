-- The mode key: the bit of the MODE word that stands for each mode.
use Rattle.std.specs.Prelude.{ℕ, ◌^◌, Bool, cond, not, ◌&&◌, Option, ◌==◌, nat_lt, [], ◌∷◌, find}
use Rattle.terms.specs.declared.mode.Mode.{Mode}
use Rattle.terms.specs.declared.mode.Mode.TheVariants.{Man, Aut, Cas}
use Rattle.block.specs.declared.key.ModeKey.{ModeKey}

-- three different bit numbers of 0..15
abbrev pub key_valid : ModeKey → Bool
key_valid k =
    nat_lt k.man 16 && (nat_lt k.aut 16 && (nat_lt k.cas 16
    && (not (k.man == k.aut) && (not (k.man == k.cas) && not (k.aut == k.cas)))))

-- the word with one bit set; a number that is no bit's gives 0
abbrev pub bit_word : ℕ → ℕ
bit_word b = cond (nat_lt b 16) (2 ^ b) 0

-- the MODE word of a mode
abbrev pub mode_word : ModeKey → Mode → ℕ
mode_word k Man = bit_word k.man
mode_word k Aut = bit_word k.aut
mode_word k Cas = bit_word k.cas

-- the mode that a MODE word names: exactly one of the three bits, and no other bit
abbrev pub mode_in : ModeKey → ℕ → Option Mode
mode_in k w = find (λ m. w == mode_word k m) (Man ∷ Aut ∷ Cas ∷ [])
