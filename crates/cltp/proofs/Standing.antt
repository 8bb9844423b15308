-- What holds of a network between its calls and of the journal that led to it, and goes on to hold by each call: the clock is the
-- journal's, each unit that floats was sent at its tick, and each datagram that was shown was sent.
use Rattle.std.proofs.Common.{◌≡◌, ℕ, ◌+◌, ◌≤◌, true, List, [], ◌∷◌, ◌++◌, Some, refl, sym, ◌∙◌, ap, subst, inl, inr, arith}
use Rattle.std.specs.List.{All, AllByRecursion, Contains}
use Rattle.osi_base.specs.declared.unit.Up.{Up}
use Rattle.osi_base.specs.declared.unit.Unit.{Unit as CarriedUnit}
use Rattle.osi_base.specs.declared.unit.Offered.{Offered}
use Rattle.osi_base.specs.declared.unit.Picked.{Picked}
use Rattle.osi_base.specs.Link.{Link, IsNote, IsLawful}
use Rattle.osi_base.specs.Calls.{IsSameLink, NothingNew, Offers, Chooses, Ticks}
use Rattle.osi_base.proofs.Chains.{same_on}
use Rattle.net_world.specs.Told.{told, picked_event}
use Rattle.net_world.proofs.Journals.{clock_from-append}
use Rattle.net_world.proofs.Shown.{told_clock}
use Rattle.net_world.proofs.Standing.{Gathered, these_waited}
use Rattle.script_journal.specs.RawLawful.{clock_after, clock_from, tick_after}
use Rattle.script_journal.specs.declared.event.Event.{Event}
use Rattle.script_journal.specs.declared.event.Event.TheVariants as events
use Rattle.cltp.specs.declared.sending.Request.{Request}
use Rattle.cltp.specs.declared.system.ClSystem.{ClSystem}
use Rattle.cltp.specs.Hearing.{HearsAll}
use Rattle.cltp.specs.First.{IsNew}
use Rattle.cltp.specs.Lawful.{DatagramLawful}
use Rattle.cltp.specs.Sending.{send_event, ud_for}
use Rattle.cltp.specs.Systems.{system_at}
use Rattle.cltp.specs.Ud.{IsUd}
use Rattle.cltp.proofs.Journals.{send_clock, picked_clock, picked_other, IsOther, told_other, send_other, no_datagram}
use Rattle.cltp.proofs.Shown.{heard_time, heard_sent, notes_heard}
use Rattle.cltp.proofs.Units.{AllSent, EntrySent, entry_later, NewSent, none_new, both_new, lawful_more}

-- what holds of a network and of the journal that led to it
pub record Standing (life : ℕ) (systems : List ClSystem) (link : Link (List ℕ)) (journal : List Event) : Type 0 where
  pub clock_is : link.clock ≡ tick_after journal
  pub honest : link.honest ≡ true
  pub bounds : (to : List ℕ) → link.bound to ≤ life
  pub sent : AllSent systems link.floating journal
  pub lawful : DatagramLawful life systems journal

-- units that floated go on to have been sent
sent_later : (systems : List ClSystem) (old new : Link (List ℕ)) (journal made : List Event) → AllSent systems old.floating journal → NothingNew old new
    → AllSent systems new.floating (journal ++ made)
sent_later systems old new journal made sent grows = record { each = λ entry there. entry_later systems journal made entry (sent.each entry (grows entry there)) }

-- the events of a call: its own, those of what came up, and those of the units among it
abbrev pub made_of : Event → List (Up (List ℕ)) → List Event → List Event
made_of own ups heard = own ∷ (told ups ++ heard)

module _ (life : ℕ) (systems : List ClSystem) (old called new : Link (List ℕ)) (journal : List Event) (ups : List (Up (List ℕ))) (heard : List Event) (stands : Standing life systems old journal)
    (quiet : old.waiting ≡ []) (up : Gathered called ups new) (hears : HearsAll systems ups heard) where
  -- a call with an event of its own
  called_so : (own : Event) → IsSameLink old called → called.honest ≡ old.honest → called.clock ≡ clock_after old.clock own → IsOther own
      → AllSent systems new.floating (journal ++ made_of own ups heard) → NewSent life systems (journal ++ own ∷ told ups) heard
      → Standing life systems new (journal ++ made_of own ups heard)
  called_so own same honest clock other sent shown =
      let made = made_of own ups heard in
      let time : clock_from old.clock made ≡ clock_after old.clock own
      = clock_from-append (clock_after old.clock own) (told ups) heard ∙ ap (λ (n : ℕ). clock_from n heard) (told_clock (clock_after old.clock own) ups)
      ∙ heard_time systems ups heard (clock_after old.clock own) hears in
      record {
        clock_is = up.stands.clock ∙ clock ∙ sym time ∙ ap (λ (n : ℕ). clock_from n made) stands.clock_is ∙ sym (clock_from-append 0 journal made);
        honest = up.stands.honest ∙ honest ∙ stands.honest;
        bounds = λ to. subst (λ (n : ℕ). n ≤ life) (sym ((same_on old called new same up.stands.same).bound to)) (stands.bounds to);
        sent = sent;
        lawful = lawful_more life systems journal made stands.lawful
            (both_new life systems journal (own ∷ told ups) heard (none_new life systems journal (own ∷ told ups) (other, told_other ups)) shown);
      }

  -- where notes alone came up nothing is heard
  nothing_heard : (before : List Event) (notes : List (Up (List ℕ))) → called.waiting ≡ old.waiting ++ notes → All IsNote notes → NewSent life systems before heard
  nothing_heard before notes added all =
      let are = these_waited old notes ups called.waiting quiet added up.waited in
      let none = notes_heard systems ups heard (subst (λ (n : List (Up (List ℕ))). All IsNote n) are all) hears in
      subst (NewSent life systems before) (sym none) (none_new life systems before [] tt)

  -- a datagram is offered
  pub offered : (system : ℕ) (request : Request) (own : ClSystem) (octets : List ℕ) (answer : Offered) → system_at systems system ≡ Some own → own.system ≡ system → IsUd octets (ud_for request)
      → Offers old (record { from = own.own; to = request.to; octets = octets }) answer called → Standing life systems new (journal ++ made_of (send_event system request answer) ups heard)
  offered system request own octets answer own_is number is offers =
      let event : Event = send_event system request answer in
      let made = made_of event ups heard in
      let unit : CarriedUnit (List ℕ) = record { from = own.own; to = request.to; octets = octets } in
      let sent : AllSent systems new.floating (journal ++ made) = record {
        each = λ entry there.
            elim (offers.grows entry (up.grows entry there)) [
              | inl before ↦ entry_later systems journal made entry (stands.sent.each entry before)
              | inr here ↦
                  let fresh : EntrySent systems (journal ++ made) (old.clock, unit) = record {
                    sender = own;
                    request = request;
                    earlier = journal;
                    later = told ups ++ heard;
                    sender_is = ap (system_at systems) number ∙ own_is;
                    from_is = refl;
                    to_is = refl;
                    is_ud = is;
                    sent = ap (λ (a : Offered). journal ++ made_of (send_event system request a) ups heard) here.0
                        ∙ ap (λ (n : ℕ). journal ++ made_of (events.Send n request.from_selector request.to request.to_selector request.octets) ups heard) (sym number);
                    tick_is = stands.clock_is;
                  } in
                  subst (λ (e : ℕ × CarriedUnit (List ℕ)). EntrySent systems (journal ++ made) e) (sym here.1) fresh
            ];
      } in
      called_so event offers.same offers.honest (offers.clock ∙ sym (send_clock old.clock system request answer)) (send_other system request answer) sent
      (nothing_heard (journal ++ event ∷ told ups) offers.notes.notes offers.notes.waiting offers.notes.all_notes)

  -- a tick
  pub ticked : Ticks old called → Standing life systems new (journal ++ made_of (events.Tick (old.clock + 1)) ups heard)
  ticked ticks =
      let event : Event = events.Tick (old.clock + 1) in
      called_so event ticks.same ticks.honest ticks.clock tt
      (sent_later systems old new journal (made_of event ups heard) stands.sent (λ entry there. ticks.grows entry (up.grows entry there)))
      (nothing_heard (journal ++ event ∷ told ups) ticks.notes.notes ticks.notes.waiting ticks.notes.all_notes)

  -- a choice of what arrives
  pub chosen : (number system : ℕ) (answer : Picked) → Chooses old number system answer called
      → Standing life systems new (journal ++ made_of (picked_event number system answer) ups heard)
  chosen number system answer chooses =
      let event : Event = picked_event number system answer in
      let front : List Event = event ∷ told ups in
      let are = these_waited old chooses.ups ups called.waiting quiet chooses.adds.waiting up.waited in
      let lawful : All (IsLawful old) ups = subst (λ (u : List (Up (List ℕ))). All (IsLawful old) u) are (chooses.lawful stands.honest) in
      let clock : tick_after (journal ++ front) ≡ old.clock
      = clock_from-append 0 journal front ∙ ap (λ (n : ℕ). clock_from n (told ups)) (picked_clock (tick_after journal) number system answer)
      ∙ told_clock (tick_after journal) ups ∙ sym stands.clock_is in
      called_so event chooses.same chooses.honest (chooses.clock ∙ sym (picked_clock old.clock number system answer)) (picked_other number system answer)
      (sent_later systems old new journal (made_of event ups heard) stands.sent (λ entry there. chooses.grows entry (up.grows entry there)))
      (heard_sent life systems old stands.bounds ups heard (journal ++ front) (sent_later systems old old journal front stands.sent (λ entry there. there)) clock lawful hears)

-- an event alone, which leaves all as it is
pub told_alone : (life : ℕ) (systems : List ClSystem) (link : Link (List ℕ)) (journal : List Event) (event : Event) → Standing life systems link journal → IsOther event
    → ((now : ℕ) → clock_after now event ≡ now) → Standing life systems link (journal ++ event ∷ [])
told_alone life systems link journal event stands other clock = record {
  clock_is = stands.clock_is ∙ sym (clock_from-append 0 journal (event ∷ []) ∙ clock (tick_after journal));
  honest = stands.honest;
  bounds = stands.bounds;
  sent = sent_later systems link link journal (event ∷ []) stands.sent (λ entry there. there);
  lawful = lawful_more life systems journal (event ∷ []) stands.lawful (none_new life systems journal (event ∷ []) (other, tt));
}

-- nothing happened yet
first_stands : (life : ℕ) (systems : List ClSystem) (link : Link (List ℕ)) → IsNew life link → Standing life systems link []
first_stands life systems link first = record {
  clock_is = first.clock;
  honest = first.honest;
  bounds = first.bounds;
  sent = record { each = λ entry there. absurd (none_there entry (subst (λ (f : List (ℕ × CarriedUnit (List ℕ))). Contains f entry) first.none there)) };
  lawful = λ before after system from calling called octets is. absurd (no_datagram [] before after system from calling called octets tt is);
} where
  none_there : (entry : ℕ × CarriedUnit (List ℕ)) → Contains [] entry → ⊥
  none_there entry there = omega (arith, there.1)

-- the start tells what waits
pub started : (life : ℕ) (systems : List ClSystem) (old new : Link (List ℕ)) (ups : List (Up (List ℕ))) (heard : List Event) → IsNew life old → Gathered old ups new → HearsAll systems ups heard
    → Standing life systems new (made_of (events.Tick 0) ups heard)
started life systems old new ups heard first up hears =
    let none = notes_heard systems ups heard (subst (λ (n : List (Up (List ℕ))). All IsNote n) up.waited first.notes) hears in
    let own : Event = events.Tick 0 in
    let stands = first_stands life systems old first in
    let made = made_of own ups heard in
    let time : clock_from 0 made ≡ 0 = clock_from-append 0 (told ups) heard ∙ ap (λ (n : ℕ). clock_from n heard) (told_clock 0 ups) ∙ heard_time systems ups heard 0 hears in
    let other : AllByRecursion IsOther (own ∷ told ups) = (tt, told_other ups) in
    let shown : NewSent life systems [] made =
    both_new life systems [] (own ∷ told ups) heard (none_new life systems [] (own ∷ told ups) other)
    (subst (NewSent life systems (own ∷ told ups)) (sym none) (none_new life systems (own ∷ told ups) [] tt)) in
    record {
      clock_is = up.stands.clock ∙ first.clock ∙ sym time;
      honest = up.stands.honest ∙ first.honest;
      bounds = λ to. subst (λ (n : ℕ). n ≤ life) (sym (up.stands.same.bound to)) (first.bounds to);
      sent = sent_later systems old new [] made stands.sent up.grows;
      lawful = lawful_more life systems [] made stands.lawful shown;
    }
