-- A standard block: its words, and the settings beside them.
use Rattle.std.specs.Prelude.{List, [], ◌∷◌, ℕ, replicate}
use Rattle.std.specs.Float.{binary32}
use Rattle.std.specs.Float.Ieee.{of_bits}
use Rattle.block.specs.Words.{block_length, fill}
use Rattle.pid_fields.specs.declared.fields.Settings.{Settings}

-- the words that are not 0
abbrev pub standard_table : List (ℕ × ℕ)
standard_table =
    (1, 0x0008) ∷ (3, 0x4000) ∷ (4, 0x4000) ∷ (19, 0x42c8) ∷ (23, 0x42c8) ∷ (47, 0x3f80) ∷ (49, 0x42c8) ∷ (53, 0x3f80) ∷ (55, 0x4120) ∷ (61, 0x3f80) ∷ []

abbrev pub standard_words : List ℕ
standard_words = fill standard_table (replicate block_length 0)

-- key 3, 4, 5, ΔT 1, MD 8, PN 0
abbrev pub standard_settings : Settings
standard_settings = record { key = record { man = 3; aut = 4; cas = 5 }; dt = of_bits binary32 0x3f80_0000; md = of_bits binary32 0x4100_0000; pn = 0 }
