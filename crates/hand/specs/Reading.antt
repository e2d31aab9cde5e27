-- Reading a hand station's block: the fields that its words hold, or the first refusal.
use Rattle.std.specs.Prelude.{ℕ, List, Ok, Result}
use Rattle.terms.specs.declared.place.Place.TheVariants as at
use Rattle.terms.specs.declared.refusal.Cause.{Cause}
use Rattle.block.specs.declared.key.ModeKey.{ModeKey}
use Rattle.block.specs.Words.{word_at, real_at}
use Rattle.block.specs.Checks.{passed, length_checks, ◌next◌}
use Rattle.hand.specs.declared.fields.Fields.{Fields}
use Rattle.hand.specs.Checks.{station_checks}

abbrev pub fields_of : List ℕ → ModeKey → Fields
fields_of ws key = record { alm = word_at ws at.Alm; inh = word_at ws at.Inh; mv = real_at ws at.Mv; key = key }

abbrev pub checked_of : List ℕ → ModeKey → Result Fields Cause
checked_of ws key =
    passed (length_checks ws)
    next λ _. passed (station_checks (fields_of ws key) (word_at ws at.Mode))
    next λ _. Ok (fields_of ws key)
