-- What is known of two ends at a tick at which nothing waits is what a pair begins with, where two things more are known of them: that they agreed, and that each number
-- that was sent has a piece (X.224, class 4: connection establishment, segmentation).
use Rattle.std.specs.Prelude.{◌≡◌, ◌≤◌}
use Rattle.tpdu.specs.declared.service.Options.{Options}
use Rattle.tp4_sending.specs.SendingHalf.{FlowSender}
use Rattle.tp4_sending.specs.Pieces.{end_of}
use Rattle.tp4_conn.specs.declared.states.InOpened.{InOpened}
use Rattle.law_tp4_pair.specs.Pair.{Pair}
use Rattle.law_tp4_pair.specs.Standing.{IsAgreed, party}

-- each number that was ever sent has a piece among those that are kept, or before them
abbrev pub IsFull : FlowSender → Type 0
IsFull s = s.numbers.blocks.high ≤ end_of s.rules.piece s.queue

-- two ends that agreed on the same format and checksum, but perhaps not on how their size is named; and each number that was sent has a piece
pub record AreAgreed (p : Pair) (o q : InOpened) : Type 0 where
  pub options : Options
  pub their_options : Options
  pub ours : IsAgreed options o.halves.sending.rules (party p.calling.base) o.halves
  pub theirs : IsAgreed their_options q.halves.sending.rules (party p.called.base) q.halves
  pub format : o.halves.sending.rules.format ≡ q.halves.sending.rules.format
  pub sum : o.halves.sending.rules.sum ≡ q.halves.sending.rules.sum
  pub full : IsFull o.halves.sending
  pub full_there : IsFull q.halves.sending
