-- A raw unit that floats was sent by an event of the journal, and an arrival that is lawful is that of such a unit: its address has
-- the title of the system to which it comes.
use Rattle.std.proofs.Common.{◌≡◌, ℕ, ◌+◌, ◌≤◌, true, List, [], ◌∷◌, ◌++◌, Some, sym, ◌∙◌, ap, subst, inl, inr, append_assoc}
use Rattle.std.specs.Prelude.{slice_get, ◌==◌}
use Rattle.std.specs.List.{AllByRecursion, Contains}
use Rattle.std.proofs.lemmas.List.{append-nil}
use Rattle.nsap.specs.Address.{is_same_system, selector_of, system_part}
use Rattle.nsap.proofs.AddressLemmas.{is_same_system-Decides, system_part-append}
use Rattle.osi_base.specs.declared.unit.Unit.{Unit as CarriedUnit}
use Rattle.script_journal.specs.declared.event.Event.{Event}
use Rattle.script_journal.specs.declared.event.Event.TheVariants as events
use Rattle.script_journal.specs.RawLawful.{raw_address, tick_after, WasSent, RawLawful}
use Rattle.net_world.proofs.Journals.{split_at, IsOther, no_unit}

-- a unit was sent by an event of the journal, at its tick, from the address of the sender to that of a title
pub record EntrySent (titles : List (List ℕ)) (journal : List Event) (entry : ℕ × CarriedUnit (List ℕ)) : Type 0 where
  pub sender : ℕ
  pub sender_title : List ℕ
  pub receiver_title : List ℕ
  pub earlier : List Event
  pub later : List Event
  pub sender_is : slice_get titles sender ≡ Some sender_title
  pub from_is : entry.1.from ≡ raw_address sender_title
  pub to_is : entry.1.to ≡ raw_address receiver_title
  pub sent : journal ≡ earlier ++ events.Sent sender entry.1.to entry.1.octets ∷ later
  pub tick_is : entry.0 ≡ tick_after earlier

-- each raw unit that floats was sent
pub record AllSent (titles : List (List ℕ)) (floating : List (ℕ × CarriedUnit (List ℕ))) (journal : List Event) : Type 0 where
  pub each : (entry : ℕ × CarriedUnit (List ℕ)) → Contains floating entry → (selector_of entry.1.to == 2) ≡ true → EntrySent titles journal entry

-- what follows a list that stands before an event
goes_on : (journal made earlier later : List Event) (event : Event) → journal ≡ earlier ++ event ∷ later → journal ++ made ≡ earlier ++ event ∷ (later ++ made)
goes_on journal made earlier later event is = ap (λ (xs : List Event). xs ++ made) is ∙ append_assoc earlier (event ∷ later) made

-- a unit that was sent was sent later, too
pub entry_later : (titles : List (List ℕ)) (journal made : List Event) (entry : ℕ × CarriedUnit (List ℕ)) → EntrySent titles journal entry → EntrySent titles (journal ++ made) entry
entry_later titles journal made entry h = record {
  sender = h.sender;
  sender_title = h.sender_title;
  receiver_title = h.receiver_title;
  earlier = h.earlier;
  later = h.later ++ made;
  sender_is = h.sender_is;
  from_is = h.from_is;
  to_is = h.to_is;
  sent = goes_on journal made h.earlier h.later (events.Sent h.sender entry.1.to entry.1.octets) h.sent;
  tick_is = h.tick_is;
}

-- a raw address in the system of a title is the title's
same_address : (to own receiver : List ℕ) → to ≡ raw_address receiver → is_same_system to own ≡ true → to ≡ raw_address own
same_address to own receiver is same =
    let part : system_part to ≡ system_part receiver = ap system_part is ∙ system_part-append (system_part receiver) 2 in
    let own_part : system_part to ≡ system_part own = (is_same_system-Decides to own).0 same in
    is ∙ ap (λ (p : List ℕ). p ++ 2 ∷ []) (sym part ∙ own_part)

-- a unit that floats was sent to the system at which it arrives
pub was_sent : (life : ℕ) (titles : List (List ℕ)) (journal : List Event) (system tick : ℕ) (unit : CarriedUnit (List ℕ)) (own : List ℕ)
    → EntrySent titles journal (tick, unit) → slice_get titles system ≡ Some own → is_same_system unit.to own ≡ true → tick_after journal ≤ tick + life
    → WasSent life titles journal system unit.from unit.octets
was_sent life titles journal system tick unit own h own_is same recent = record {
  sender = h.sender;
  sender_title = h.sender_title;
  own_title = own;
  earlier = h.earlier;
  later = h.later;
  sender_is = h.sender_is;
  from_is = h.from_is;
  own_is = own_is;
  sent = h.sent ∙ ap (λ (to : List ℕ). h.earlier ++ events.Sent h.sender to unit.octets ∷ h.later) (same_address unit.to own h.receiver_title h.to_is same);
  recent = subst (λ (n : ℕ). tick_after journal ≤ n + life) h.tick_is recent;
}

-- the units among the new events were sent
pub record NewSent (life : ℕ) (titles : List (List ℕ)) (journal made : List Event) : Type 0 where
  pub each : (before after : List Event) (system : ℕ) (from octets : List ℕ) → made ≡ before ++ events.Unit system from octets ∷ after
      → WasSent life titles (journal ++ before) system from octets

-- there are no new units
pub none_new : (life : ℕ) (titles : List (List ℕ)) (journal made : List Event) → AllByRecursion IsOther made → NewSent life titles journal made
none_new life titles journal made others = record { each = λ before after system from octets is. absurd (no_unit made before after system from octets others is) }

-- there is one event
only : (life : ℕ) (titles : List (List ℕ)) (journal : List Event) (event : Event)
    → ((system : ℕ) (from octets : List ℕ) → event ≡ events.Unit system from octets → WasSent life titles journal system from octets)
    → (before after : List Event) (system : ℕ) (from octets : List ℕ) → event ∷ [] ≡ before ++ events.Unit system from octets ∷ after
    → WasSent life titles (journal ++ before) system from octets
only life titles journal event sent [] after system from octets is =
    let head : event ≡ events.Unit system from octets = cc in
    subst (λ (all : List Event). WasSent life titles all system from octets) (sym (append-nil journal)) (sent system from octets head)
only life titles journal event sent (b ∷ before) after system from octets is =
    let tail : [] ≡ before ++ events.Unit system from octets ∷ after = cc in
    absurd (no_unit [] before after system from octets tt tail)

pub one_new : (life : ℕ) (titles : List (List ℕ)) (journal : List Event) (event : Event)
    → ((system : ℕ) (from octets : List ℕ) → event ≡ events.Unit system from octets → WasSent life titles journal system from octets)
    → NewSent life titles journal (event ∷ [])
one_new life titles journal event sent = record { each = only life titles journal event sent }

-- the new events are these, and then those
pub both_new : (life : ℕ) (titles : List (List ℕ)) (journal made more : List Event) → NewSent life titles journal made → NewSent life titles (journal ++ made) more
    → NewSent life titles journal (made ++ more)
both_new life titles journal made more first second = record {
  each = λ before after system from octets is.
      elim (split_at made more before after (events.Unit system from octets) is) [
        | inl found ↦ first.each before found.0 system from octets found.1
        | inr found ↦ subst (λ (all : List Event). WasSent life titles all system from octets)
            (append_assoc journal made found.0 ∙ ap (λ (xs : List Event). journal ++ xs) (sym found.1)) (second.each found.0 after system from octets found.2)
      ];
}

-- a lawful journal goes on lawfully
pub lawful_more : (life : ℕ) (titles : List (List ℕ)) (journal made : List Event) → RawLawful life titles journal → NewSent life titles journal made → RawLawful life titles (journal ++ made)
lawful_more life titles journal made lawful new before after system from octets is =
    elim (split_at journal made before after (events.Unit system from octets) is) [
      | inl found ↦ lawful before found.0 system from octets found.1
      | inr found ↦ subst (λ (all : List Event). WasSent life titles all system from octets) (sym found.1) (new.each found.0 after system from octets found.2)
    ]
