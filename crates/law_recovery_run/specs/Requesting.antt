-- An end in CrWait of a network whose CR waits, and the end that it calls: there is none yet, or its user has not answered (X.224, class 4: connection establishment, retransmission on
-- time-out).
use Rattle.std.specs.Prelude.{◌≡◌, ◌⊎◌, ℕ, Bool, true, List, ◌++◌, Some}
use Rattle.std.specs.List.{Contains}
use Rattle.osi_base.specs.Calls.{Call}
use Rattle.osi_base.specs.Link.{Link}
use Rattle.script_journal.specs.Partner.{ArePartners}
use Rattle.script_journal.specs.declared.event.Event.{Event}
use Rattle.tpdu.specs.declared.tpdu.Tpdu.{Tpdu}
use Rattle.tp4_number.specs.Number.{whole}
use Rattle.tp4_sending.specs.Pieces.{again}
use Rattle.tp4_conn.specs.Agreeing.{request}
use Rattle.tp4_conn.specs.End.{End, end_of}
use Rattle.tp4_conn.specs.Matching.{is_answer, is_called_by}
use Rattle.tp4_conn.specs.Table.{at, takes}
use Rattle.tp4_conn.specs.declared.end_record.EndRecord.{EndRecord}
use Rattle.tp4_conn.specs.declared.states.InCrWait.{InCrWait}
use Rattle.tp4_conn.specs.declared.states.InOpened.{InOpened}
use Rattle.tp4_conn.specs.declared.states.StateData.{StateData}
use Rattle.tp4_conn.specs.declared.states.StateData.TheVariants.{CrWait, Opened, UserWait}
use Rattle.tp4_entity.specs.Association.{refusal}
use Rattle.tp4_entity.specs.Entity.{Entity, end_at}
use Rattle.law_tp4_history.specs.Moves.{HasSource}
use Rattle.law_tp4_history.specs.Seen.{seen}
use Rattle.law_tp4_pair.specs.Standing.{HasLeft}
use Rattle.tp4_world.specs.Run.{Settles}
use Rattle.tp4_world.specs.World.{World, entity_at}
use Rattle.law_calm_run.proofs.Hall.{Hall, Post}
use Rattle.law_recovery_run.specs.Aside.{IsSentTo, Names}
use Rattle.law_recovery_run.specs.Following.{Stands}
pub use Rattle.law_recovery_run.specs.Unanswered.{AreListening, AreUnanswered, IsUnanswered}

-- ---- before a settle

abbrev pub in_cr_wait : EndRecord → InCrWait → End
in_cr_wait b r = record { base = b; stage = CrWait r }

-- its CR, as it waits from its system
abbrev pub cr_from : ℕ → EndRecord → InCrWait → Post
cr_from system b r = record { system = system; sent = request b r.octets }

-- it sent its CR again at that tick
abbrev pub sent_again : ℕ → EndRecord → InCrWait → End
sent_again now b r = in_cr_wait (at now b) (record r { tries = again now r.tries })

-- so it stands at that reference of that system, and its CR waits
pub record IsSentAgain (now system own : ℕ) (b : EndRecord) (r : InCrWait) (hall : Hall) : Type 0 where
  pub entity : Entity
  pub there : entity_at hall.entities system ≡ Some entity
  pub stands : end_at entity own ≡ Some (sent_again now b r)
  pub waits : Contains hall.posts (cr_from system b r)

-- the end of the number x is in CrWait, and its CR waits
pub record IsRequesting {C : Type 0} (last : World C) (posts : List Post) (x : ℕ) (b : EndRecord) (r : InCrWait) : Type 0 where
  pub calling : Stands last x (in_cr_wait b r)
  pub waits : Contains posts (cr_from calling.system b r)
  pub unanswered : AreUnanswered last b.to calling.entity.own calling.reference

-- of what waits in a network: it is not for the end of that reference at that address, it is in the name of the end only if it is its CR, and a CC has a source
pub record IsApart (system : ℕ) (from : List ℕ) (b : EndRecord) (r : InCrWait) (post : Post) : Type 0 where
  pub none : IsSentTo from b.own post.sent → ⊥
  pub named : post.system ≡ system → Names b.own post.sent.tpdu → post ≡ cr_from system b r
  pub sourced : HasSource (seen 0 post.sent.tpdu)

-- ---- after it

-- it is in CrWait, and its called end stands in UserWait, and is its partner
pub record IsIndicated {C : Type 0} (journal : List Event) (last : World C) (x : ℕ) (b : EndRecord) (r : InCrWait) : Type 0 where
  pub calling : Stands last x (in_cr_wait b r)
  pub number : ℕ
  pub end : End
  pub called : Stands last number end
  pub since : ℕ
  pub stage : end.stage ≡ UserWait since
  pub partners : ArePartners journal x number
  pub address : called.entity.own ≡ b.to
  pub names : is_called_by end.base calling.entity.own calling.reference ≡ true
  pub unanswered : AreUnanswered last b.to calling.entity.own calling.reference

-- it has left, or is Opened
abbrev pub IsPast : StateData → Type 0
IsPast stage = HasLeft stage ⊎ ((o : InOpened) × (stage ≡ Opened o))

-- the reasons of a DR to a CR: its end is frozen, its selector is not registered, no reference is free
abbrev pub IsReason : ℕ → Type 0
IsReason reason = (reason ≡ 131) ⊎ ((reason ≡ 3) ⊎ (reason ≡ 129))

-- the TPDU is such a DR
pub record IsRefusal (from : List ℕ) (own : ℕ) (tpdu : Tpdu) : Type 0 where
  pub reason : ℕ
  pub is_reason : IsReason reason
  pub is : tpdu ≡ (refusal from own reason).tpdu

-- it took this TPDU
pub record HasTaken {C : Type 0} (link : C → Link (List ℕ)) (mid : World C) (x : ℕ) (b : EndRecord) (r : InCrWait) : Type 0 where
  pub tpdu : Tpdu
  pub sum : Bool
  pub answer : is_answer tpdu ≡ true
  pub taken : Stands mid x (end_of (takes whole (link mid.carrier).clock b (CrWait r) tpdu sum))
  pub past : IsPast (takes whole (link mid.carrier).clock b (CrWait r) tpdu sum).stage

-- it took a CC or a DR on the way, in the course of the settle
pub record IsAnswered {C : Type 0} (link : C → Link (List ℕ)) (steps : C → Call (List ℕ) → C → Type 0) (made : List Event) (new : World C) (x : ℕ) (b : EndRecord) (r : InCrWait) : Type 0 where
  pub front : List Event
  pub rest : List Event
  pub made_is : made ≡ front ++ rest
  pub mid : World C
  pub took : HasTaken link mid x b r
  pub count : ℕ
  pub settles : Settles link steps whole count mid rest new
