-- Writing a hand station into the words of a block.
use Rattle.std.specs.Prelude.{ℕ, List, ◌++◌}
use Rattle.terms.specs.declared.mode.Mode.TheVariants.{Man}
use Rattle.terms.specs.declared.place.Place.TheVariants as at
use Rattle.block.specs.Words.{fill, one_word, two_words}
use Rattle.block.specs.Key.{mode_word}
use Rattle.hand.specs.declared.fields.Fields.{Fields}

-- the words that the fields fill, by offset
abbrev pub named_words : Fields → List (ℕ × ℕ)
named_words f = one_word at.Mode (mode_word f.key Man) ++ (one_word at.Alm f.alm ++ (one_word at.Inh f.inh ++ two_words at.Mv f.mv))

-- the words after writing: the named ones filled, every other as found
abbrev pub filled : Fields → List ℕ → List ℕ
filled f ws = fill (named_words f) ws
