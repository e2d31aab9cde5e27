use Rattle.std.proofs.Common.{ℕ, get_or, sym, ap, ◌∙◌, w16, Fits, rules, eq-eqb}
use Rattle.block.specs.declared.start.Start.TheVariants.{Warm}
use Rattle.block.proofs.Passing.{top_ok}
use Rattle.loops.specs.Outcomes.{seen}
use Rattle.loops.proofs.Given.{seen_ok}
use Rattle.loops.proofs.writing.write_back.Goals as goal

pub returns-clause-words : goal.returns-clause-words
returns-clause-words g c =
    let ws = c.args.words.now in
    let loop = c.in_ok-read_warm.field-0.state in
    let checked = g.K.Kind.checked ws c.args.settings in
    let fit : (i : ℕ) → Fits w16 (get_or ws i 0) = λ i. search rules in
    let read = seen_ok (g.K.Kind.started Warm) checked loop (top_ok (seen (g.K.Kind.started Warm) checked) loop (sym c.in_ok-read_warm.ensures)) in
    let trip = g.met.K.Kind.rewrites ws c.args.settings read.0 (λ i. (fit i).fits) read.1 in
    c.write.ensures.words ∙ rw (read.1, eq-eqb _ _ trip.0) (ap (λ t. g.K.Kind.filled t ws) (sym read.2) ∙ trip.1)
