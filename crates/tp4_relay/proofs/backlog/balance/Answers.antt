use Rattle.tp4_relay.specs.steps.Tables.{kept_of}
use Rattle.tp4_relay.proofs.Balancing.{balanced_still}
use Rattle.tp4_relay.proofs.backlog.balance.Goals as goal

pub returns-in-None-clause-told : goal.returns-in-None-clause-told
returns-in-None-clause-told g c =
    balanced_still _ _ _ _ _ g.met.S.Service.laws (kept_of c.args.table.now) (kept_of c.args.table.now) c.args.place c.args.heading c.index.result.now c.args.service.now c.args.service.now c.args.events.now.items c.args.events.now.items
    c.way_of-way.result.now c.count-left.result c.requires.place c.index.ensures c.way_of-way.ensures c.count-left.ensures c.credit_now.result c.credit_now.ensures c.if-left-gt-MOST_WAITING.false c.in-None.is
