-- What an entity sends waits in the queue of the carrier behind what waits there: as nothing is dropped, each offer was taken, and no unit came of it.
use Rattle.std.proofs.Common.{◌≡◌, ℕ, List, [], ◌∷◌, ◌++◌, Some, refl, sym, ◌∙◌, ap, subst, inl, inr, append-nil, append_assoc}
use Rattle.std.specs.Prelude.{slice_get}
use Rattle.std.specs.List.{AllByRecursion}
use Rattle.nsap.specs.Address.{selector_of}
use Rattle.osi_base.specs.Calls.{Call, Keeps, Offer}
use Rattle.osi_base.specs.Link.{Link}
use Rattle.osi_base.specs.declared.note.Note.TheVariants.{DropFrame}
use Rattle.osi_base.specs.declared.unit.Offered.{Offered}
use Rattle.osi_base.specs.declared.unit.Offered.TheVariants.{Taken as WasTaken, Dropped}
use Rattle.osi_base.specs.declared.unit.Unit.{Unit as CarriedUnit}
use Rattle.osi_base.specs.declared.unit.Up.{Up}
use Rattle.osi_base.specs.declared.unit.Up.TheVariants.{Unit as Came, Note as Noted}
use Rattle.script_journal.specs.declared.event.Event.{Event}
use Rattle.net_world.specs.Fifo.{IsBetween, IsFifo, IsUser, NoneDropped, queued}
use Rattle.net_world.specs.Run.{raw_unit}
use Rattle.net_world.specs.Told.{shown_at, told}
use Rattle.tp4_flow.specs.declared.step.Sent.{Sent}
use Rattle.tp4_conn.specs.Proper.{AreSendable, IsSendable}
use Rattle.law_tp4_pair.specs.Claim.{IsUndropped}
use Rattle.tp4_world.specs.Run.{SendsTpdu, SendsTpdus, transport_address, transport_wish}
use Rattle.tp4_world.specs.Telling.{drop_events}
use Rattle.tp4_world.proofs.Destinations.{SentFine}
use Rattle.law_tp4_lawful.proofs.WorldAsides.{AreQuiet, drop_quiet, quiet_append, told_quiet}
use Rattle.law_calm_run.proofs.Hall.{IsAddress, Post, posted}
use Rattle.law_calm_run.proofs.Posting.{AreUnitsOf, IsUnitOf}

-- ---- what is told

pub all_parts : {A : Type 0} (P : A → Type 0) (xs ys : List A) → AllByRecursion P (xs ++ ys) → AllByRecursion P xs × AllByRecursion P ys
all_parts P [] ys all = (tt, all)
all_parts P (x ∷ xs) ys all = let rest = all_parts P xs ys all.1 in ((all.0, rest.0), rest.1)

-- where no dropped frame is told, none was dropped
pub none_dropped : (ups : List (Up (List ℕ))) → AllByRecursion IsUndropped (told ups) → NoneDropped ups
none_dropped [] all = tt
none_dropped (Noted (DropFrame system) ∷ ups) all = absurd all.0
none_dropped (Noted note ∷ ups) all = none_dropped ups all.1
none_dropped (Came arrival ∷ ups) all = none_dropped ups (all_parts IsUndropped (shown_at arrival.system arrival.unit) (told ups) all).1

-- ---- the queue

-- one TPDU more
pub one_behind : (titles : List (List ℕ)) (queue : List (CarriedUnit (List ℕ))) (posts : List Post) (unit : CarriedUnit (List ℕ)) (post : Post)
    → AreUnitsOf titles queue posts → IsUnitOf titles unit post → AreUnitsOf titles (queue ++ unit ∷ []) (posts ++ post ∷ [])
one_behind titles [] posts unit post none is = inr (post, [], ap (λ (ps : List Post). ps ++ post ∷ []) none, is, refl)
one_behind titles (first ∷ queue) posts unit post (inl raw) is = inl (raw.0, one_behind titles queue posts unit post raw.1 is)
one_behind titles (first ∷ queue) posts unit post (inr h) is =
    inr (h.0, h.1 ++ post ∷ [], ap (λ (ps : List Post). ps ++ post ∷ []) h.2, h.3, one_behind titles queue h.1 unit post h.4 is)

-- a raw unit more
pub raw_behind : (titles : List (List ℕ)) (queue : List (CarriedUnit (List ℕ))) (posts : List Post) (unit : CarriedUnit (List ℕ)) → AreUnitsOf titles queue posts → selector_of unit.to ≡ 2
    → AreUnitsOf titles (queue ++ unit ∷ []) posts
raw_behind titles [] posts unit none raw = inl (raw, none)
raw_behind titles (first ∷ queue) posts unit (inl here) raw = inl (here.0, raw_behind titles queue posts unit here.1 raw)
raw_behind titles (first ∷ queue) posts unit (inr h) raw = inr (h.0, h.1, h.2, h.3, raw_behind titles queue h.1 unit h.4 raw)

-- it is between the users of raw units of two systems
pub raw_between : (titles : List (List ℕ)) (system to : ℕ) (sender receiver octets : List ℕ) → slice_get titles system ≡ Some sender → slice_get titles to ≡ Some receiver
    → IsBetween titles (raw_unit sender receiver octets)
raw_between titles system to sender receiver octets title_is to_is = record {
  sender = system;
  receiver = to;
  from = record { title = sender; title_is = title_is; selector = 2; known = inr refl; address_is = refl };
  to = record { title = receiver; title_is = to_is; selector = 2; known = inr refl; address_is = refl };
}

-- ---- the TPDUs of an entity

-- the offer of a unit that was not dropped
pub taken : (queue : List (CarriedUnit (List ℕ))) (unit : CarriedUnit (List ℕ)) (system : ℕ) (answer : Offered) → AllByRecursion IsUndropped (drop_events system answer)
    → queued queue unit answer ≡ queue ++ unit ∷ []
taken queue unit system WasTaken all = refl
taken queue unit system (Dropped cause) all = absurd all.0

user : (titles : List (List ℕ)) (address : List ℕ) (is : IsAddress titles address) → IsUser titles address is.system
user titles address is = record { title = is.title; title_is = is.title_is; selector = 1; known = inl refl; address_is = is.address_is }

module _ {C : Type 0} (link : C → Link (List ℕ)) (steps : C → Call (List ℕ) → C → Type 0)
    (law : (old : C) (call : Call (List ℕ)) (new : C) → steps old call new → Keeps (link old) call (link new))
    (titles : List (List ℕ)) (Waits : C → List (CarriedUnit (List ℕ)) → Type 0) (fifo : IsFifo link steps titles Waits) where
  -- these wait now, and what was told of them tells nothing of ends
  pub record Queued (old : C) (posts : List Post) (made : List Event) (new : C) : Type 0 where
    pub clock : (link new).clock ≡ (link old).clock
    pub queue : List (CarriedUnit (List ℕ))
    pub waits : Waits new queue
    pub units : AreUnitsOf titles queue posts
    pub quiet : AreQuiet made

  one_sent : (old new : C) (queue : List (CarriedUnit (List ℕ))) (posts : List Post) (system : ℕ) (title own : List ℕ) (sent : Sent) (made : List Event) → Waits old queue → AreUnitsOf titles queue posts
      → slice_get titles system ≡ Some title → own ≡ transport_address title → IsAddress titles sent.to → IsSendable sent → AllByRecursion IsUndropped made
      → SendsTpdu link steps old system own sent made new → Queued old (posts ++ record { system = system; sent = sent } ∷ []) made new
  one_sent old new queue posts system title own sent made waits units title_is own_is to fits all s =
      let unit : CarriedUnit (List ℕ) = record { from = own; to = sent.to; octets = s.octets } in
      let parts = all_parts IsUndropped (drop_events system s.answer) (told s.ups) (subst (λ (es : List Event). AllByRecursion IsUndropped es) s.made_is all) in
      let between : IsBetween titles unit = record {
        sender = system;
        receiver = to.system;
        from = record { title = title; title_is = title_is; selector = 1; known = inl refl; address_is = own_is };
        to = user titles sent.to to;
      } in
      let goes = fifo.offered old new queue unit transport_wish s.answer s.ups waits between refl s.passes (none_dropped s.ups parts.1) in
      record {
        clock = s.passes.gathers.stands.clock ∙ (law old (Offer unit transport_wish s.answer) s.passes.called s.passes.steps_to).clock;
        queue = queue ++ unit ∷ [];
        waits = subst (Waits new) (taken queue unit system s.answer parts.0) goes.1;
        units = one_behind titles queue posts unit (record { system = system; sent = sent }) units
            (record { title = title; title_is = title_is; from = own_is; to = refl; address = to; sendable = fits; written = s.written });
        quiet = subst AreQuiet (sym s.made_is) (quiet_append (drop_events system s.answer) (told s.ups) (drop_quiet system s.answer) (told_quiet s.ups));
      }

  pub all_sent : (tpdus : List Sent) (old new : C) (queue : List (CarriedUnit (List ℕ))) (posts : List Post) (system : ℕ) (title own : List ℕ) (made : List Event) → Waits old queue → AreUnitsOf titles queue posts
      → slice_get titles system ≡ Some title → own ≡ transport_address title → SentFine (IsAddress titles) tpdus → AreSendable tpdus → AllByRecursion IsUndropped made
      → SendsTpdus link steps old system own tpdus made new → Queued old (posts ++ posted system tpdus) made new
  all_sent [] old new queue posts system title own made waits units title_is own_is to fits all s = record {
    clock = ap (λ (x : C). (link x).clock) s.1;
    queue = queue;
    waits = subst (λ (x : C). Waits x queue) (sym s.1) waits;
    units = subst (AreUnitsOf titles queue) (sym (append-nil posts)) units;
    quiet = subst AreQuiet (sym s.0) tt;
  }
  all_sent (sent ∷ tpdus) old new queue posts system title own made waits units title_is own_is to fits all s =
      let parts = all_parts IsUndropped s.1 s.2 (subst (λ (es : List Event). AllByRecursion IsUndropped es) s.5 all) in
      let first = one_sent old s.0 queue posts system title own sent s.1 waits units title_is own_is to.0 fits.0 parts.0 s.3 in
      let rest = all_sent tpdus s.0 new first.queue (posts ++ record { system = system; sent = sent } ∷ []) system title own s.2 first.waits first.units title_is own_is to.1 fits.1 parts.1 s.4 in
      record {
        clock = rest.clock ∙ first.clock;
        queue = rest.queue;
        waits = rest.waits;
        units = subst (AreUnitsOf titles rest.queue) (append_assoc posts (record { system = system; sent = sent } ∷ []) (posted system tpdus)) rest.units;
        quiet = subst AreQuiet (sym s.5) (quiet_append s.1 s.2 first.quiet rest.quiet);
      }
