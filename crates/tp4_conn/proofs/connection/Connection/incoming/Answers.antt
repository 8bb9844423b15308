use Rattle.std.proofs.Common.{sym, subst, arith}
use Rattle.tpdu.specs.Values.{tpdu_of}
use Rattle.tpdu.specs.Writing.{IsAllowed}
use Rattle.tpdu.specs.declared.tpdu.Format.TheVariants.{Normal}
use Rattle.tp4_conn.specs.End.{IsProposal}
use Rattle.tp4_conn.proofs.Sizes.{read_proposal}
use Rattle.tp4_conn.proofs.connection.Connection.incoming.Goals as goal

pub invariant_of-result : goal.invariant_of-result
invariant_of-result g c =
    let allowed = subst (λ t. IsAllowed Normal (tpdu_of t)) c.in-Cr.is c.requires.allowed in
    let few = allowed.few_credits in
    let same = c.from.ensures in (
      record {
        timers = c.requires.timers;
        clock = c.requires.now;
        size = subst IsProposal (sym c.proposed_in.ensures) (read_proposal c.in-Cr.format c.in-Cr.size c.in-Cr.preferred c.in-Cr.extra allowed.size_known allowed.preferred_known);
        credit = omega (arith, few, same);
        sound = omega arith;
      },
      tt,
    )
