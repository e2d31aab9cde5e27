use Rattle.std.proofs.Common.{T, rules}
use lib.Ieee.{fits, binary32}
use Rattle.pid.specs.Laws.{reads_good}
use Rattle.pid.proofs.kind.PidKind.read.Goals as goal

pub returns-clause-is_good : goal.returns-clause-is_good
returns-clause-is_good c =
    let st = c.args.settings in
    let dt : T (fits binary32 st.dt) = search rules in
    let md : T (fits binary32 st.md) = search rules in
    rw c.aimed.ensures (rw (← c.in_ok-fields.ensures) at (reads_good c.args.words.now st dt md))
