use Rattle.hand.specs.Trips.{reads_good}
use Rattle.hand.proofs.kind.HandKind.read.Goals as goal

pub returns-clause-is_good : goal.returns-clause-is_good
returns-clause-is_good c = rw c.read.ensures (reads_good c.args.words.now c.args.key)
