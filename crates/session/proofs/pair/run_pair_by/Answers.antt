use Rattle.std.proofs.Common.{◌∙◌, ap}
use Rattle.session.proofs.Ends.{worked_as}
use Rattle.session.proofs.pair.run_pair_by.Goals as goal

pub returns-in-Some-pair-clause-played : goal.returns-in-Some-pair-clause-played
returns-in-Some-pair-clause-played g c =
    let a = c.job-host_job.ensures in
    let b = c.job-para_side.ensures in
    let host_pass = a.pass ∙ c.split-host_pass.ensures.host in
    let para_pass = b.pass ∙ c.split-host_pass.ensures.para in
    let host_keep = ap (λ l. l.keep) a.log ∙ c.in-Some.ensures.logs.0.keep_is in
    let para_keep = ap (λ l. l.keep) b.log ∙ c.in-Some.ensures.logs.1.keep_is in
    c.joined.ensures (g.H.Party.state c.args.host) (g.P.Party.state c.args.para) c.args.n.0 c.args.keep c.job-host_job.result.half.pass c.job-para_side.result.half.pass
    (ap (λ p. p.side) host_pass, ap (λ p. p.events) host_pass) (ap (λ p. p.side) para_pass, ap (λ p. p.events) para_pass)
    (worked_as g.H.Party.transitions _ (ap (λ t. t.0) a.end) host_keep (ap g.H.Party.state a.machine) c.in-Some-pair.ensures.first)
    (worked_as g.P.Party.transitions _ (ap (λ t. t.0) b.end) para_keep (ap g.P.Party.state b.machine) c.in-Some-pair.ensures.second)
