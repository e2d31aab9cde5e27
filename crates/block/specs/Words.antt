-- The words of a block: what a field's words hold, and words with some of them filled.
use Rattle.std.specs.Prelude.{ℕ, ◌+◌, ◌^◌, ◌<◌, List, [], ◌∷◌, slice_index, slice_set, Float}
use Rattle.reals.specs.Reals.{real_of, low_word, high_word}
use Rattle.terms.specs.declared.place.Place.{Place}
use Rattle.terms.specs.Refusals.{place_number}

-- the number of words of a block
abbrev pub block_length : ℕ
block_length = 128

-- the word of a field; a word past the end counts as 0
abbrev pub word_at : List ℕ → Place → ℕ
word_at ws p = slice_index ws (place_number p)

-- the real of a field: two words, low half first
abbrev pub real_at : List ℕ → Place → Float
real_at ws p = real_of (slice_index ws (place_number p)) (slice_index ws (place_number p + 1))

-- each word has 16 bits
abbrev pub Sixteen : List ℕ → Type 0
Sixteen ws = (i : ℕ) → slice_index ws i < 2 ^ 16

-- the words with each offset of a list filled by the word beside it, in order
abbrev pub fill : List (ℕ × ℕ) → List ℕ → List ℕ
fill [] ws = ws
fill (entry ∷ rest) ws = fill rest (slice_set ws entry.0 entry.1)

-- what a field of one word, and a real, put into the words
abbrev pub one_word : Place → ℕ → List (ℕ × ℕ)
one_word p w = (place_number p, w) ∷ []

abbrev pub two_words : Place → Float → List (ℕ × ℕ)
two_words p x = (place_number p, low_word x) ∷ (place_number p + 1, high_word x) ∷ []
