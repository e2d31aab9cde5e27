-- What words and loops are after a round trip.
use Rattle.std.specs.Prelude.{ℕ, List, Ok, Err, Result, Float}
use Rattle.terms.specs.declared.refusal.Cause.{Cause}
use Rattle.loops.specs.Outcomes.{where_whole}
use Rattle.pid_fields.specs.declared.fields.Fields.{Fields}
use Rattle.pid_fields.specs.Writing.{with_copy}
use Rattle.pid_steps.specs.declared.scanning.State.{State}
use Rattle.pid_steps.specs.Setpoint.{percent_of}

-- words that were read, started warm and written back over themselves are the same block; refused, they stay as found
abbrev pub same_block : Result State Cause → List ℕ → List ℕ
same_block (Ok s) ws = with_copy ws
same_block (Err e) ws = ws

-- a loop that was written, read with its own settings and started warm has S for its E2; where the words are refused, it keeps its E2
abbrev pub restarted_e2 : Fields → Float → List ℕ → Float
restarted_e2 f e2 ws = where_whole ws (percent_of f) e2

-- every field is kept
abbrev pub restarted_state : State → List ℕ → State
restarted_state s ws = record { fields = s.fields; e2 = restarted_e2 s.fields s.e2 ws }
