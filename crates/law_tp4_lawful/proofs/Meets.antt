-- A TPDU that was offered comes to an entity.
use Rattle.std.proofs.Common.{ℕ, List}
use Rattle.tpdu.specs.declared.tpdu.Tpdu.TheVariants as wires
use Rattle.tp4_conn.specs.declared.timers.Timers.{Timers}
use Rattle.law_tp4_lawful.proofs.Acting.{Acts}
use Rattle.law_tp4_lawful.proofs.Worlds.{AfterMeet}
use Rattle.law_tp4_lawful.proofs.MeetsOthers.{KnowsTaken, after_other}
use Rattle.law_tp4_lawful.proofs.MeetsRequests.{after_request}

pub after_meet : (titles : List (List ℕ)) (timers : Timers) → Acts titles timers → KnowsTaken → AfterMeet titles timers
after_meet titles timers acts knows w journal entities ends system entity tick from sent (wires.Cr credit source width calling called size preferred extra version classes ack_time text, sum) known timed at quiet io to soon reading =
    after_request titles timers w journal entities ends known timed system entity at quiet tick from sent io to soon credit source width calling called size preferred extra version classes ack_time text sum reading
after_meet titles timers acts knows w journal entities ends system entity tick from sent (other, sum) known timed at quiet io to soon reading =
    after_other titles timers w journal entities ends known system entity at tick from sent io to soon acts knows other sum reading
