use Rattle.std.proofs.Common.{IfOk, sym, subst, ◌∙◌}
use Rattle.loops.specs.Meaning.{Scanned}
use Rattle.loops.specs.Outcomes.{after}
use Rattle.loops.proofs.Given.{settled}
use Rattle.loops.proofs.running.Loop.scan.Goals as goal

pub returns-clause-means : goal.returns-clause-means
returns-clause-means g c =
    let k = c.args.self.now in
    let outcome = c.scan-outcome.result in
    let P : g.row.K-State.Denot → Type 0 = λ t. Scanned g.K.Kind.echo c.args.remote (g.K.Kind.told k.state) (g.K.Kind.told t) in
    let law = settled P k.state outcome (λ t e. g.met.K.Kind.scans k.state t c.args.m c.args.remote k.ok (sym c.scan-outcome.ensures ∙ e)) in
    rw c.settle.ensures.leaves
    (subst (λ r. IfOk r (λ x. P (after k.state outcome))) (sym c.settle.ensures.answers ∙ c.in_ok-settle.was) law)
