use Rattle.std.proofs.Common.{◌≡◌, drop}
use Rattle.block.specs.Checks.{passed}
use Rattle.block.proofs.checks.pass.Given as goal

-- what is left decides as the whole does
abbrev pub invariant-loop-check : goal.invariant-loop-check
invariant-loop-check l = passed (drop l.check-index l.checks) ≡ passed l.checks
