-- Starting a hand station's block.
use Rattle.std.specs.Prelude.{Float}
use Rattle.reals.specs.Numbers.{zero, hundred}
use Rattle.reals.specs.Reals.{brought}
use Rattle.block.specs.Bits.{with_trkf}
use Rattle.block.specs.declared.start.Start.{Start}
use Rattle.block.specs.declared.start.Start.TheVariants.{Cold, Warm}
use Rattle.hand.specs.declared.fields.Fields.{Fields}

-- S, and E2 too: MV brought into 0..100
abbrev pub percent_of : Fields → Float
percent_of f = brought f.mv zero hundred

-- a cold start sets TRKF, and has nothing to zero
abbrev pub cold_fields : Fields → Fields
cold_fields f = record { alm = f.alm; inh = with_trkf f.inh; mv = f.mv; key = f.key }

-- a warm start keeps every field
abbrev pub started_fields : Start → Fields → Fields
started_fields Cold f = cold_fields f
started_fields Warm f = f
