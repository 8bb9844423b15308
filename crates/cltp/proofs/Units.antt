-- A unit that floats is the UD of a datagram that an event of the journal sent.
use Rattle.std.proofs.Common.{◌≡◌, ℕ, List, [], ◌∷◌, ◌++◌, Some, sym, ◌∙◌, ap, subst, inl, inr, append_assoc}
use Rattle.std.specs.List.{AllByRecursion, Contains}
use Rattle.std.proofs.lemmas.List.{append-nil}
use Rattle.osi_base.specs.declared.unit.Unit.{Unit as CarriedUnit}
use Rattle.script_journal.specs.RawLawful.{tick_after}
use Rattle.net_world.proofs.Journals.{split_at}
use Rattle.script_journal.specs.declared.event.Event.{Event}
use Rattle.script_journal.specs.declared.event.Event.TheVariants as events
use Rattle.cltp.specs.declared.sending.Request.{Request}
use Rattle.cltp.specs.declared.system.ClSystem.{ClSystem}
use Rattle.cltp.specs.Lawful.{WasSent, DatagramLawful}
use Rattle.cltp.specs.Sending.{ud_for}
use Rattle.cltp.specs.Systems.{system_at}
use Rattle.cltp.specs.Ud.{IsUd}
use Rattle.cltp.proofs.Journals.{IsOther, no_datagram}

-- a unit was sent by an event of the journal, at its tick, from the own address of the sender
pub record EntrySent (systems : List ClSystem) (journal : List Event) (entry : ℕ × CarriedUnit (List ℕ)) : Type 0 where
  pub sender : ClSystem
  pub request : Request
  pub earlier : List Event
  pub later : List Event
  pub sender_is : system_at systems sender.system ≡ Some sender
  pub from_is : entry.1.from ≡ sender.own
  pub to_is : entry.1.to ≡ request.to
  pub is_ud : IsUd entry.1.octets (ud_for request)
  pub sent : journal ≡ earlier ++ events.Send sender.system request.from_selector request.to request.to_selector request.octets ∷ later
  pub tick_is : entry.0 ≡ tick_after earlier

-- each unit that floats was sent
pub record AllSent (systems : List ClSystem) (floating : List (ℕ × CarriedUnit (List ℕ))) (journal : List Event) : Type 0 where
  pub each : (entry : ℕ × CarriedUnit (List ℕ)) → Contains floating entry → EntrySent systems journal entry

-- a unit that was sent was sent later, too
pub entry_later : (systems : List ClSystem) (journal made : List Event) (entry : ℕ × CarriedUnit (List ℕ)) → EntrySent systems journal entry → EntrySent systems (journal ++ made) entry
entry_later systems journal made entry h = record {
  sender = h.sender;
  request = h.request;
  earlier = h.earlier;
  later = h.later ++ made;
  sender_is = h.sender_is;
  from_is = h.from_is;
  to_is = h.to_is;
  is_ud = h.is_ud;
  sent = ap (λ (xs : List Event). xs ++ made) h.sent ∙ append_assoc h.earlier (events.Send h.sender.system h.request.from_selector h.request.to h.request.to_selector h.request.octets ∷ h.later) made;
  tick_is = h.tick_is;
}

-- the datagrams among the new events were sent
pub record NewSent (life : ℕ) (systems : List ClSystem) (journal made : List Event) : Type 0 where
  pub each : (before after : List Event) (system : ℕ) (from calling called octets : List ℕ) → made ≡ before ++ events.Datagram system from calling called octets ∷ after
      → WasSent life systems (journal ++ before) system from calling called octets

-- there are no new datagrams
pub none_new : (life : ℕ) (systems : List ClSystem) (journal made : List Event) → AllByRecursion IsOther made → NewSent life systems journal made
none_new life systems journal made others = record { each = λ before after system from calling called octets is. absurd (no_datagram made before after system from calling called octets others is) }

-- there is one datagram
only : (life : ℕ) (systems : List ClSystem) (journal : List Event) (system : ℕ) (from calling called octets : List ℕ) → WasSent life systems journal system from calling called octets
    → (before after : List Event) (at : ℕ) (from2 calling2 called2 octets2 : List ℕ)
    → events.Datagram system from calling called octets ∷ [] ≡ before ++ events.Datagram at from2 calling2 called2 octets2 ∷ after
    → WasSent life systems (journal ++ before) at from2 calling2 called2 octets2
only life systems journal system from calling called octets sent [] after at from2 calling2 called2 octets2 is =
    let system_is : system ≡ at = cc in
    let from_is : from ≡ from2 = cc in
    let calling_is : calling ≡ calling2 = cc in
    let called_is : called ≡ called2 = cc in
    let octets_is : octets ≡ octets2 = cc in
    subst (λ (all : List Event). WasSent life systems all at from2 calling2 called2 octets2) (sym (append-nil journal))
    (subst (λ (s : ℕ). WasSent life systems journal s from2 calling2 called2 octets2) system_is
    (subst (λ (f : List ℕ). WasSent life systems journal system f calling2 called2 octets2) from_is
    (subst (λ (c : List ℕ). WasSent life systems journal system from c called2 octets2) calling_is
    (subst (λ (c : List ℕ). WasSent life systems journal system from calling c octets2) called_is
    (subst (λ (o : List ℕ). WasSent life systems journal system from calling called o) octets_is sent)))))
only life systems journal system from calling called octets sent (b ∷ before) after at from2 calling2 called2 octets2 is =
    let tail : [] ≡ before ++ events.Datagram at from2 calling2 called2 octets2 ∷ after = cc in
    absurd (no_datagram [] before after at from2 calling2 called2 octets2 tt tail)

pub one_new : (life : ℕ) (systems : List ClSystem) (journal : List Event) (system : ℕ) (from calling called octets : List ℕ) → WasSent life systems journal system from calling called octets
    → NewSent life systems journal (events.Datagram system from calling called octets ∷ [])
one_new life systems journal system from calling called octets sent = record { each = only life systems journal system from calling called octets sent }

-- the new events are these, and then those
pub both_new : (life : ℕ) (systems : List ClSystem) (journal made more : List Event) → NewSent life systems journal made → NewSent life systems (journal ++ made) more
    → NewSent life systems journal (made ++ more)
both_new life systems journal made more first second = record {
  each = λ before after system from calling called octets is.
      elim (split_at made more before after (events.Datagram system from calling called octets) is) [
        | inl found ↦ first.each before found.0 system from calling called octets found.1
        | inr found ↦ subst (λ (all : List Event). WasSent life systems all system from calling called octets)
            (append_assoc journal made found.0 ∙ ap (λ (xs : List Event). journal ++ xs) (sym found.1)) (second.each found.0 after system from calling called octets found.2)
      ];
}

-- a lawful journal goes on lawfully
pub lawful_more : (life : ℕ) (systems : List ClSystem) (journal made : List Event) → DatagramLawful life systems journal → NewSent life systems journal made
    → DatagramLawful life systems (journal ++ made)
lawful_more life systems journal made lawful new before after system from calling called octets is =
    elim (split_at journal made before after (events.Datagram system from calling called octets) is) [
      | inl found ↦ lawful before found.0 system from calling called octets found.1
      | inr found ↦ subst (λ (all : List Event). WasSent life systems all system from calling called octets) (sym found.1) (new.each found.0 after system from calling called octets found.2)
    ]
