-- Two ends of which the called one is in AkWait, at a tick at which nothing waits, whatever was lost before: as if both were Opened, and the called one had sent and said
-- nothing yet (X.224, class 4: connection establishment).
use Rattle.std.specs.Prelude.{◌≡◌, ℕ, ◌≤◌, true, List, [], Some}
use Rattle.tp4_flow.specs.ReceivingHalf.{empty}
use Rattle.tp4_flow.specs.declared.rules.FlowRules.{FlowRules}
use Rattle.tpdu.specs.declared.service.Options.{Options}
use Rattle.tp4_sending.specs.SendingHalf.{FlowSender, fresh, no_urgent}
use Rattle.tp4_conn.specs.declared.end_record.EndRecord.{EndRecord}
use Rattle.tp4_conn.specs.declared.states.InAkWait.{InAkWait}
use Rattle.tp4_conn.specs.declared.states.InCrWait.{InCrWait}
use Rattle.tp4_conn.specs.declared.states.InOpened.{InOpened}
use Rattle.tp4_conn.specs.declared.states.StateData.TheVariants.{AkWait, CrWait, Opened}
use Rattle.tp4_conn.specs.Agreeing.{flow_rules, halves_of}
use Rattle.tp4_conn.specs.End.{End, IsSized}
use Rattle.law_recovery_pair.specs.Viewing.{IsWithin}
use Rattle.law_recovery_steps.specs.Resting.{AreBegun}
use Rattle.law_tp4_pair.specs.Pair.{IsIdle, Pair}
use Rattle.law_tp4_pair.specs.Standing.{Party, party}

-- ---- the called end

-- a sending half that is not open: units of its user wait, and nothing was sent
abbrev pub queued : FlowRules → ℕ → ℕ → List (List ℕ) → List (List ℕ) → FlowSender
queued rules credit clock units expedited = record (fresh rules credit) { clock = clock; queue = record { units = units; first = 0 }; urgent = record no_urgent { units = expedited } }

pub record IsQueued (s : FlowSender) : Type 0 where
  pub credit : ℕ
  pub is : s ≡ queued s.rules credit s.clock s.queue.units s.urgent.units

-- the half as it is opened, without what waits
abbrev pub unsent : FlowSender → FlowSender
unsent s = record s { clock = 0; is_open = true; queue = record s.queue { units = [] }; urgent = record s.urgent { units = [] } }

-- an end in AkWait as if it were Opened, and had taken, said and sent nothing
abbrev pub as_opened : InAkWait → InOpened
as_opened w = record { took = 0; acked = 0; halves = record w.halves { sending = unsent w.halves.sending } }

-- ---- the calling end

-- the calling end b after the CC of c
abbrev pub confirmed_by : EndRecord → EndRecord → Options → EndRecord
confirmed_by b c options = record b { partner = c.own; credit = c.timers.credit; agreed = Some options }

-- as if it were Opened so
abbrev pub as_confirmed : EndRecord → EndRecord → Options → InOpened
as_confirmed b c options =
    let h = halves_of (confirmed_by b c options) options in
    record { took = 0; acked = 0; halves = record h { sending = record h.sending { is_open = true } } }

-- it is in CrWait, and as if it were Opened by the CC; or it is Opened
pub data Calls (c : EndRecord) (options : Options) (e : End) (first : Party) (o : InOpened) : Type 0 where
  Asks : (r : InCrWait) → e.stage ≡ CrWait r → first ≡ party (confirmed_by e.base c options) → o ≡ as_confirmed e.base c options → Calls c options e first o
  Talks : e.stage ≡ Opened o → first ≡ party e.base → Calls c options e first o

-- ---- both

-- what the calling end knows of the called one is what that said with its CC: it took nothing since
pub record KnowsCc (o : InOpened) (w : InAkWait) : Type 0 where
  pub number : o.halves.sending.numbers.base ≡ w.halves.receiving.receiver.expected
  pub credit : o.halves.sending.numbers.credit ≡ w.halves.receiving.receiver.inbox.credit
  pub subsequence : o.halves.sending.numbers.subsequence ≡ w.halves.receiving.receiver.inbox.subsequence
  pub edge : IsWithin o.halves.sending

-- two ends, both as if they were Opened
abbrev pub as_if : Pair → EndRecord → InOpened → InAkWait → Pair
as_if p a o w = record p { calling = record { base = a; stage = Opened o }; called = record p.called { stage = Opened (as_opened w) } }

-- a pair with an end in AkWait, where nothing waits. As if both were Opened, all is known that a pair begins with
pub record IsBegunSo (life size : ℕ) (p : Pair) (o : InOpened) (w : InAkWait) : Type 0 where
  pub idle : IsIdle p
  pub called : p.called.stage ≡ AkWait w
  pub options : Options
  pub agreed : p.called.base.agreed ≡ Some options
  pub sized : IsSized options
  pub base : EndRecord
  pub calling : Calls p.called.base options p.calling (party base) o
  pub queued : IsQueued w.halves.sending
  pub tried : w.tries.last ≤ p.clock
  pub knows : KnowsCc o w
  pub begun : AreBegun life size (as_if p base o w) o (as_opened w)

-- an end in CrWait and one in AkWait, where nothing waits: what the called one knows is of the CR, and it has its halves as they were made, but for units that wait
pub record AreAsking (life : ℕ) (p : Pair) (r : InCrWait) (w : InAkWait) (options : Options) : Type 0 where
  pub idle : IsIdle p
  pub calling : p.calling.stage ≡ CrWait r
  pub called : p.called.stage ≡ AkWait w
  pub agreed : p.called.base.agreed ≡ Some options
  pub sized : IsSized options
  pub known : p.called.base.credit ≡ p.calling.base.timers.credit
  pub low : p.calling.base.timers.credit ≤ 15
  pub low_there : p.called.base.timers.credit ≤ 15
  pub life_is : p.calling.base.timers.life ≡ life
  pub life_there : p.called.base.timers.life ≡ life
  pub tried : w.tries.last ≤ p.clock
  pub clock : ℕ
  pub units : List (List ℕ)
  pub expedited : List (List ℕ)
  pub halves : w.halves ≡ record {
    sending = queued (flow_rules p.called.base options) p.called.base.credit clock units expedited;
    receiving = empty (flow_rules p.called.base options) p.called.base.timers.credit;
  }
