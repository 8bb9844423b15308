-- Two ends of which the called one is in AkWait, since when nothing is lost between them, with all that waits; and both Opened, while a CC may still wait (X.224, class 4
-- state tables).
use Rattle.std.specs.Prelude.{◌≡◌, ◌⊎◌, ◌<◌, ℕ, List, [], ◌∷◌, ◌++◌, Some, length}
use Rattle.tpdu.specs.declared.service.Options.{Options}
use Rattle.tp4_flow.specs.declared.step.Sent.{Sent}
use Rattle.tpdu.specs.declared.tpdu.Tpdu.{Tpdu}
use Rattle.tpdu.specs.declared.tpdu.Tpdu.TheVariants.{Cc, Cr}
use Rattle.tp4_conn.specs.declared.end_record.EndRecord.{EndRecord}
use Rattle.tp4_conn.specs.declared.states.InAkWait.{InAkWait}
use Rattle.tp4_conn.specs.declared.states.InCrWait.{InCrWait}
use Rattle.tp4_conn.specs.declared.states.InOpened.{InOpened}
use Rattle.tp4_conn.specs.declared.states.StateData.TheVariants.{AkWait, CrWait, Opened}
use Rattle.tp4_conn.specs.Agreeing.{confirm}
use Rattle.tp4_conn.specs.End.{End, IsSized}
use Rattle.law_recovery_steps.specs.Steps.{AreRiding, Since}
use Rattle.law_tp4_pair.specs.Pair.{Pair}
use Rattle.law_tp4_pair.specs.Standing.{Party, party}
use Rattle.law_recovery_steps.specs.Opening.{Calls, IsQueued, KnowsCc, as_opened}

abbrev pub IsCr : Tpdu → Type 0
IsCr (Cr credit source width calling called size preferred extra version classes ack_time text) = Unit {0}
IsCr other = ⊥

abbrev pub IsCc : Tpdu → Type 0
IsCc (Cc credit destination source width calling called size preferred extra version classes ack_time text) = Unit {0}
IsCc other = ⊥

abbrev pub AreCrs : List Sent → Type 0
AreCrs [] = Unit {0}
AreCrs (sent ∷ tpdus) = IsCr sent.tpdu × AreCrs tpdus

-- the calling end e and the called end c, which is in AkWait and agreed on these options; for the called one CRs wait, and then these
pub record AreOpening (life size u t1 now : ℕ) (one other : Since) (e : End) (c : EndRecord) (w : InAkWait) (options : Options) (crs forth : List Sent) : Type 0 where
  pub timed : c.timers.t1 ≡ t1
  pub agreed : c.agreed ≡ Some options
  pub sized : IsSized options
  pub o : InOpened
  pub first : Party
  pub calling : Calls c options e first o
  pub queued : IsQueued w.halves.sending
  pub knows : KnowsCc o w
  pub crs_are : AreCrs crs
  pub quiet : (r : InCrWait) → e.stage ≡ CrWait r → forth ≡ []
  pub both : AreRiding life size u now one other first (party c) o (as_opened w) forth []

-- the called end is in AkWait. It sent its CC last before the tick u, or the CC waits, or the answer to it
pub record IsOpening (life size u t1 : ℕ) (one other : Since) (p : Pair) : Type 0 where
  pub w : InAkWait
  pub called : p.called.stage ≡ AkWait w
  pub options : Options
  pub crs : List Sent
  pub forth : List Sent
  pub forth_is : p.forth ≡ crs ++ forth
  pub are : AreOpening life size u t1 p.clock one other p.calling p.called.base w options crs forth
  pub back_is : (p.back ≡ []) ⊎ (p.back ≡ confirm p.called.base options w.octets ∷ [])
  pub answered : (w.tries.last < u) ⊎ ((p.back ≡ confirm p.called.base options w.octets ∷ []) ⊎ (0 < length forth))

-- both are Opened, and perhaps a CC waits first
pub record IsOpenedBoth (life size u : ℕ) (one other : Since) (p : Pair) : Type 0 where
  pub o : InOpened
  pub q : InOpened
  pub calling : p.calling.stage ≡ Opened o
  pub called : p.called.stage ≡ Opened q
  pub back : List Sent
  pub back_is : (p.back ≡ back) ⊎ ((sent : Sent) × (p.back ≡ sent ∷ back) × IsCc sent.tpdu × (sent.sum ≡ other.rules.sum))
  pub both : AreRiding life size u p.clock one other (party p.calling.base) (party p.called.base) o q p.forth back
