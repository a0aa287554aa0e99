use Rattle.pl_linear.proofs.CertificateLaws.{law_of}
use Rattle.pl_linear.proofs.certificate.checks.Goals as goal

pub returns-clause-law : goal.returns-clause-law
returns-clause-law c =
    let exact = rw (c.as_slice-solved.ensures, c.as_slice.ensures) at c.add_up.ensures in
    law_of c.args.eqs.now.solved c.args.facts.now.list c.args.goal.now c.args.cert.now.items c.args.atoms c.requires.follow c.requires.eqs_atoms c.requires.fact_atoms c.requires.goal_atoms _ exact
