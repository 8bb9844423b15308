use Rattle.std.proofs.Common.{sym, subst}
use Rattle.tpdu.specs.Values.{tpdu_of}
use Rattle.tpdu.specs.Writing.{IsAllowed}
use Rattle.tp4_conn.specs.End.{IsSized, agreed_format}
use Rattle.tp4_conn.proofs.Sizes.{read_sized}
use Rattle.tp4_conn.proofs.cr_wait.on_tpdu.Goals as goal

pub open-requires-clause-size : goal.open-requires-clause-size
open-requires-clause-size c =
    let allowed = subst (λ t. IsAllowed (agreed_format c.args.base.now.agreed) (tpdu_of t)) c.in-Cc.is c.requires.allowed in
    subst IsSized (sym c.options_in-options.ensures) (read_sized c.in-Cc.format c.in-Cc.size c.in-Cc.preferred c.in-Cc.extra allowed.size_known allowed.preferred_known)
