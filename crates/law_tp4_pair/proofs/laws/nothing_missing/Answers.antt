use Rattle.tp4_conn.specs.declared.call.UserCall.TheVariants.{Accept}
use Rattle.law_tp4_pair.specs.Pair.{Asks_called, next}
use Rattle.law_tp4_pair.proofs.Pairs.{stands_after}
use Rattle.law_tp4_pair.proofs.Resting.{accepts_stands, pair_rests}
use Rattle.law_tp4_pair.proofs.ToldRows.{told_after, told_first, told_on}
use Rattle.law_tp4_pair.proofs.laws.nothing_missing.Goals as goal

pub returns : goal.returns
returns c = record {
  rest = λ p asked octets happenings last o q a leads idle calling called. pair_rests last o q
      (stands_after (next p (Asks_called (Accept asked octets))) last happenings (accepts_stands p asked octets a) leads) idle calling called;
  told = λ p asked octets happenings last a leads. told_after (next p (Asks_called (Accept asked octets))) last happenings
      (told_on p (Asks_called (Accept asked octets)) (told_first p asked a)) leads;
}
