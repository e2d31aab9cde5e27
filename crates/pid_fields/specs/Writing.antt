-- Writing a PID loop into the words of a block.
use Rattle.std.specs.Prelude.{ℕ, List, ◌++◌, slice_index, slice_set}
use Rattle.terms.specs.declared.place.Place.TheVariants as at
use Rattle.block.specs.Words.{fill, one_word, two_words}
use Rattle.block.specs.Key.{mode_word}
use Rattle.pid_fields.specs.declared.fields.Bounds.{Bounds}
use Rattle.pid_fields.specs.declared.fields.Tuning.{Tuning}
use Rattle.pid_fields.specs.declared.fields.Past.{Past}
use Rattle.pid_fields.specs.declared.fields.Fields.{Fields}

-- ---- the words that the fields fill, by offset

abbrev pub state_words : Fields → List (ℕ × ℕ)
state_words f =
    one_word at.Mode (mode_word f.settings.key f.mode)
    ++ (one_word at.Alm f.alm
    ++ (one_word at.Inh f.inh
    ++ (one_word at.Counter f.counter
    ++ (two_words at.Mv f.mv
    ++ two_words at.Sv f.sv))))

abbrev pub bounds_words : Bounds → List (ℕ × ℕ)
bounds_words b = two_words at.Mh b.mh ++ (two_words at.Ml b.ml ++ (two_words at.Rh b.rh ++ two_words at.Rl b.rl))

abbrev pub tuning_words : Tuning → List (ℕ × ℕ)
tuning_words t =
    two_words at.Ct t.ct
    ++ (two_words at.Dml t.dml
    ++ (two_words at.P t.p
    ++ (two_words at.Ti t.ti
    ++ (two_words at.Td t.td
    ++ (two_words at.Gw t.gw
    ++ two_words at.Gg t.gg)))))

abbrev pub past_words : Past → List (ℕ × ℕ)
past_words p =
    two_words at.Mvp p.mvp
    ++ (two_words at.B p.b
    ++ (two_words at.Measured p.measured
    ++ (two_words at.Measured1 p.measured1
    ++ (two_words at.Measured2 p.measured2
    ++ two_words at.LastDv p.dv))))

-- DV, at offset 16: a copy of the last deviation, which stands at offset 110
abbrev pub copy_words : Past → List (ℕ × ℕ)
copy_words p = two_words at.Dv p.dv

abbrev pub named_words : Fields → List (ℕ × ℕ)
named_words f = state_words f ++ (bounds_words f.bounds ++ (tuning_words f.tuning ++ past_words f.past))

-- ---- writing

-- the words after writing: the named ones filled, every other as found
abbrev pub filled : Fields → List ℕ → List ℕ
filled f ws = fill (copy_words f.past) (fill (named_words f) ws)

-- the same words, save that offset 16 holds a copy of the real at offset 110
abbrev pub with_copy : List ℕ → List ℕ
with_copy ws = slice_set (slice_set ws 16 (slice_index ws 110)) 17 (slice_index ws 111)
