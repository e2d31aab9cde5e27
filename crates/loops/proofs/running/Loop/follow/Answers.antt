use Rattle.std.proofs.Common.{T, refl, sym, ◌∙◌, rules}
use lib.Ieee.{fits, binary32}
use Rattle.loops.specs.Meaning.{Followed}
use Rattle.loops.proofs.Given.{settled}
use Rattle.loops.proofs.running.Loop.follow.Goals as goal

pub returns-clause-takes : goal.returns-clause-takes
returns-clause-takes g c w =
    let h : T (fits binary32 c.args.p) = search rules in
    let taken = g.met.K.Kind.follows c.args.self.now.state c.args.p c.args.self.now.ok h w in
    c.settle.ensures.answers ∙ rw (c.follow-outcome.ensures, taken.1) refl

pub returns-clause-declines : goal.returns-clause-declines
returns-clause-declines g c out =
    c.settle.ensures.answers ∙ rw (c.follow-outcome.ensures, g.met.K.Kind.declines c.args.self.now.state c.args.p out) refl

pub returns-clause-means : goal.returns-clause-means
returns-clause-means g c =
    let k = c.args.self.now in
    rw (c.settle.ensures.answers, c.settle.ensures.leaves)
    (settled (λ t. Followed g.K.Kind.echo c.args.p (g.K.Kind.told k.state) (g.K.Kind.told t)) k.state c.follow-outcome.result
    (λ t e. g.met.K.Kind.follow_means k.state t c.args.p k.ok (sym c.follow-outcome.ensures ∙ e)))
