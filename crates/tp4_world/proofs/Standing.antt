-- What holds of a network between its lines, and of the journal that led to it, while nothing is injected. Below stands what holds of
-- every network of raw units; and besides, no unit but a raw one comes from an address for raw units, as no entity has such an address and
-- none writes to one. So what entities send floats as no raw unit, and each raw unit that floats has its `sent` event.
use Rattle.std.proofs.Common.{◌≡◌, ℕ, ◌+◌, ◌⊎◌, Bool, true, false, List, [], ◌∷◌, ◌++◌, Some, refl, sym, ◌∙◌, ap, subst, inl, inr, append_assoc}
use Rattle.std.specs.Prelude.{◌≢◌, ◌==◌, cond, option_map, slice_get}
use Rattle.std.specs.List.{All, AllByRecursion, Contains, find}
use Rattle.std.proofs.lemmas.List.Elements.{All-head, All-tail}
use Rattle.std.proofs.lemmas.List.{append-nil}
use Rattle.nsap.specs.Address.{selector_of, system_part}
use Rattle.nsap.proofs.AddressLemmas.{selector_of-append}
use Rattle.osi_base.specs.declared.unit.Offered.{Offered}
use Rattle.osi_base.specs.declared.unit.Offered.TheVariants.{Taken as WasTaken, Dropped}
use Rattle.osi_base.specs.declared.unit.Injected.{Injected}
use Rattle.osi_base.specs.declared.unit.Injected.TheVariants.{Taken as WasInjected, NotThere}
use Rattle.osi_base.specs.declared.unit.Picked.{Picked}
use Rattle.osi_base.specs.declared.unit.Unit.{Unit as CarriedUnit}
use Rattle.osi_base.specs.declared.unit.Up.{Up}
use Rattle.osi_base.specs.declared.unit.Up.TheVariants.{Unit as Came, Note as Noted}
use Rattle.osi_base.specs.declared.unit.Wish.{Wish}
use Rattle.osi_base.specs.Link.{Link, IsLawful, IsNote}
use Rattle.osi_base.specs.Calls.{Call, Choose, Inject, IsSameLink, Keeps, NothingNew, Offer, Tick}
use Rattle.osi_base.proofs.Chains.{same_on}
use Rattle.osi_base.proofs.Members.{all_both}
use Rattle.script_journal.specs.RawLawful.{clock_from, raw_address}
use Rattle.script_journal.specs.declared.event.Event.{Event}
use Rattle.script_journal.specs.declared.event.Event.TheVariants as events
use Rattle.net_world.specs.Run.{Passes, SendsUnit, raw_unit}
use Rattle.net_world.specs.Told.{picked_event, told}
use Rattle.net_world.proofs.Journals.{IsOther}
use Rattle.net_world.proofs.Runs.{Rests, unit_rests}
use Rattle.net_world.proofs.Shown.{IsStill, note_still}
use Rattle.net_world.proofs.Standing.{Gathered, Standing, chosen, moved, sent_later, these_waited, ticked}
use Rattle.net_world.proofs.Units.{AllSent, entry_later, none_new}
use Rattle.tp4_flow.specs.declared.step.EndEvent.{EndEvent}
use Rattle.tp4_flow.specs.declared.step.Sent.{Sent}
use Rattle.tp4_flow.specs.declared.step.What.{What}
use Rattle.tp4_flow.specs.declared.step.What.TheVariants as whats
use Rattle.tp4_entity.specs.Entity.{Acted, Entity}
use Rattle.tp4_world.proofs.Addressees.{either}
use Rattle.tp4_world.proofs.Destinations.{ActsFine, EndsFine, SentFine}
use Rattle.tp4_world.proofs.Places.{some_same}
use Rattle.tp4_world.specs.Run.{Acts, SendsTpdu, SendsTpdus, transport_wish}
use Rattle.tp4_world.specs.Telling.{drop_events, ends_with, event_for, events_after, inject_event}
use Rattle.tp4_world.specs.World.{World, entity_at, is_of, latest, with_entity}
use Rattle.tp4_world.specs.declared.place.EndAt.{EndAt}
use Rattle.tp4_world.specs.declared.place.Placed.{Placed}

-- the address is not one for raw units
abbrev pub IsApart : List ℕ → Type 0
IsApart address = (selector_of address == 2) ≡ false

-- ---- events that show no unit and leave the clock

abbrev pub AreStill : List Event → Type 0
AreStill made = AllByRecursion IsStill made

stills_clock : (now : ℕ) (made : List Event) → AreStill made → clock_from now made ≡ now
stills_clock now [] all = refl
stills_clock now (event ∷ made) all = ap (λ (n : ℕ). clock_from n made) (all.0.clock now) ∙ stills_clock now made all.1

stills_other : (made : List Event) → AreStill made → AllByRecursion IsOther made
stills_other [] all = tt
stills_other (event ∷ made) all = (all.0.other, stills_other made all.1)

notes_still : (ups : List (Up (List ℕ))) → All IsNote ups → AreStill (told ups)
notes_still [] all = tt
notes_still (Noted note ∷ ups) all = (note_still note, notes_still ups (All-tail IsNote (Noted note) ups all))
notes_still (Came arrival ∷ ups) all = absurd (All-head IsNote (Came arrival) ups all)

pub inject_still : (system : ℕ) (answer : Injected) → IsStill (inject_event system answer)
inject_still system WasInjected = record { other = tt; clock = λ now. refl }
inject_still system NotThere = record { other = tt; clock = λ now. refl }

drop_still : (system : ℕ) (answer : Offered) → AreStill (drop_events system answer)
drop_still system WasTaken = tt
drop_still system (Dropped cause) = (record { other = tt; clock = λ now. refl }, tt)

event_still : (system : ℕ) (own : List ℕ) (number reference : ℕ) (what : What) → IsStill (event_for system own number reference what)
event_still system own number reference (whats.Incoming from partner calling called options octets) = record { other = tt; clock = λ now. refl }
event_still system own number reference what = record { other = tt; clock = λ now. refl }

-- what ends tell is still
events_still : (told : List EndEvent) (ends : List EndAt) (system : ℕ) (own : List ℕ) → AreStill (events_after ends system own told)
events_still [] ends system own = tt
events_still (one ∷ others) ends system own =
    let next = ends_with ends system one one.what in
    (event_still system own (latest next system one.reference) one.reference one.what, events_still others next system own)

-- ---- the carrier

module _ (life : ℕ) (titles : List (List ℕ)) where
  -- such events come to the journal, and each raw unit that floats was sent
  goes_on : (old new : Link (List ℕ)) (journal made : List Event) → Standing life titles old journal → AreStill made → IsSameLink old new → new.honest ≡ old.honest → new.clock ≡ old.clock
      → AllSent titles new.floating (journal ++ made) → Standing life titles new (journal ++ made)
  goes_on old new journal made stands stills same honest clock sent =
      moved life titles old new journal made stands
      (record {
        same = same;
        honest = honest;
        clock = clock ∙ sym (stills_clock old.clock made stills);
        sent = sent;
        units = none_new life titles journal made (stills_other made stills);
      })

  module _ {C : Type 0} (link : C → Link (List ℕ)) (steps : C → Call (List ℕ) → C → Type 0) (law : (old : C) (call : Call (List ℕ)) (new : C) → steps old call new → Keeps (link old) call (link new)) where
    -- no unit but a raw one comes from an address for raw units
    abbrev pub AreApart : List (ℕ × CarriedUnit (List ℕ)) → Type 0
    AreApart floating = (entry : ℕ × CarriedUnit (List ℕ)) → Contains floating entry → IsApart entry.1.to → IsApart entry.1.from

    pub record Carries (state : C) (journal : List Event) : Type 0 where
      pub rests : Rests link steps law life titles state journal
      pub apart : AreApart (link state).floating

    pub apart_on : (old new : Link (List ℕ)) → NothingNew old new → AreApart old.floating → AreApart new.floating
    apart_on old new grows apart entry there to = apart entry (grows entry there) to

    -- more is told
    told_carries : (state : C) (journal made : List Event) → Carries state journal → AreStill made → Carries state (journal ++ made)
    told_carries state journal made h stills = record {
      rests = record {
        stands = goes_on (link state) (link state) journal made h.rests.stands stills (record { bound = λ to. refl; room = λ to. refl; belongs = λ to system. refl }) refl refl
            (sent_later titles (link state) (link state) journal made h.rests.stands.sent (λ entry there. there));
        quiet = h.rests.quiet;
      };
      apart = h.apart;
    }

    -- ---- what entities send

    -- what floats after an offer of no raw unit, from an address that is none for raw units
    sent_apart : (old called new : C) (journal made : List Event) (unit : CarriedUnit (List ℕ)) (answer : Offered) → Carries old journal → IsApart unit.from → IsApart unit.to
        → ((entry : ℕ × CarriedUnit (List ℕ)) → Contains (link new).floating entry → Contains (link old).floating entry ⊎ ((answer ≡ WasTaken) × (entry ≡ ((link old).clock, unit))))
        → AllSent titles (link new).floating (journal ++ made) × AreApart (link new).floating
    sent_apart old called new journal made unit answer h from to grows = (
      record {
        each = λ entry there raw.
            elim (grows entry there) [
              | inl before ↦ entry_later titles journal made entry (h.rests.stands.sent.each entry before raw)
              | inr here ↦
                  let raw_to : (selector_of unit.to == 2) ≡ true = subst (λ (e : ℕ × CarriedUnit (List ℕ)). (selector_of e.1.to == 2) ≡ true) here.1 raw in
                  let both : true ≡ false = sym raw_to ∙ to in
                  absurd cc
            ];
      },
      λ entry there apart.
          elim (grows entry there) [
            | inl before ↦ h.apart entry before apart
            | inr here ↦ subst (λ (e : ℕ × CarriedUnit (List ℕ)). IsApart e.1.from) (sym here.1) from
          ],
    )

    tpdu_carries : (old new : C) (journal made : List Event) (system : ℕ) (own : List ℕ) (sent : Sent) → Carries old journal → IsApart own → IsApart sent.to
        → SendsTpdu link steps old system own sent made new → Carries new (journal ++ made)
    tpdu_carries old new journal made system own sent h from to s =
        let unit : CarriedUnit (List ℕ) = record { from = own; to = sent.to; octets = s.octets } in
        let pass = s.passes in
        let offers = law old (Offer unit transport_wish s.answer) pass.called pass.steps_to in
        let waited = these_waited (link old) offers.notes.notes s.ups (link pass.called).waiting h.rests.quiet offers.notes.waiting pass.gathers.waited in
        let notes : All IsNote s.ups = subst (λ (n : List (Up (List ℕ))). All IsNote n) waited offers.notes.all_notes in
        let stills : AreStill (drop_events system s.answer ++ told s.ups) =
        all_both IsStill (drop_events system s.answer) (told s.ups) (drop_still system s.answer) (notes_still s.ups notes) in
        let floats = sent_apart old pass.called new journal (drop_events system s.answer ++ told s.ups) unit s.answer h from to (λ entry there. offers.grows entry (pass.gathers.grows entry there)) in
        subst (λ (xs : List Event). Carries new (journal ++ xs)) (sym s.made_is)
        (record {
          rests = record {
            stands = goes_on (link old) (link new) journal (drop_events system s.answer ++ told s.ups) h.rests.stands stills (same_on (link old) (link pass.called) (link new) offers.same pass.gathers.stands.same)
                (pass.gathers.stands.honest ∙ offers.honest) (pass.gathers.stands.clock ∙ offers.clock) floats.0;
            quiet = pass.gathers.quiet;
          };
          apart = floats.1;
        })

    tpdus_carry : (tpdus : List Sent) (old new : C) (journal made : List Event) (system : ℕ) (own : List ℕ) → Carries old journal → IsApart own → SentFine IsApart tpdus
        → SendsTpdus link steps old system own tpdus made new → Carries new (journal ++ made)
    tpdus_carry [] old new journal made system own h from to s =
        subst (λ (c : C). Carries c (journal ++ made)) (sym s.1)
        (subst (λ (xs : List Event). Carries old xs) (sym (append-nil journal) ∙ ap (λ (xs : List Event). journal ++ xs) (sym s.0)) h)
    tpdus_carry (sent ∷ tpdus) old new journal made system own h from to s =
        let first : Carries s.0 (journal ++ s.1) = tpdu_carries old s.0 journal s.1 system own sent h from to.0 s.3 in
        let rest : Carries new ((journal ++ s.1) ++ s.2) = tpdus_carry tpdus s.0 new (journal ++ s.1) s.2 system own first from to.1 s.4 in
        subst (λ (xs : List Event). Carries new xs) (append_assoc journal s.1 s.2 ∙ ap (λ (xs : List Event). journal ++ xs) (sym s.5)) rest

    -- ---- what a call brings up

    -- an arrival for others than users of raw units comes from no address for raw units
    abbrev pub IsFromApart : Up (List ℕ) → Type 0
    IsFromApart (Noted note) = Unit {0}
    IsFromApart (Came arrival) = IsApart arrival.unit.to → IsApart arrival.unit.from

    lawful_apart : (state : Link (List ℕ)) (ups : List (Up (List ℕ))) → AreApart state.floating → All (IsLawful state) ups → AllByRecursion IsFromApart ups
    lawful_apart state [] apart lawful = tt
    lawful_apart state (Noted note ∷ ups) apart lawful = (tt, lawful_apart state ups apart (All-tail (IsLawful state) (Noted note) ups lawful))
    lawful_apart state (Came arrival ∷ ups) apart lawful =
        let here = All-head (IsLawful state) (Came arrival) ups lawful in
        (apart (here.0.tick, arrival.unit) here.0.taken, lawful_apart state ups apart (All-tail (IsLawful state) (Came arrival) ups lawful))

    -- after a delivery, with its own line and what came up
    pub record Delivered (new : C) (journal : List Event) (ups : List (Up (List ℕ))) : Type 0 where
      pub carries : Carries new journal
      pub ups_apart : AllByRecursion IsFromApart ups

    pub delivery_carries : (old new : C) (journal : List Event) (number system : ℕ) (answer : Picked) (ups : List (Up (List ℕ))) → Carries old journal
        → Passes link steps old (Choose number system answer) ups new → Delivered new (journal ++ picked_event number system answer ∷ told ups) ups
    delivery_carries old new journal number system answer ups h pass =
        let chooses = law old (Choose number system answer) pass.called pass.steps_to in
        let up : Gathered (link pass.called) ups (link new) = record { waited = pass.gathers.waited; stands = pass.gathers.stands; grows = pass.gathers.grows } in
        let waited = these_waited (link old) chooses.ups ups (link pass.called).waiting h.rests.quiet chooses.adds.waiting pass.gathers.waited in
        let lawful : All (IsLawful (link old)) ups = subst (λ (u : List (Up (List ℕ))). All (IsLawful (link old)) u) waited (chooses.lawful h.rests.stands.honest) in
        record {
          carries = record {
            rests = record {
              stands = chosen life titles (link old) (link pass.called) (link new) journal number system answer ups h.rests.stands h.rests.quiet chooses up;
              quiet = pass.gathers.quiet;
            };
            apart = apart_on (link old) (link new) (λ entry there. chooses.grows entry (pass.gathers.grows entry there)) h.apart;
          };
          ups_apart = lawful_apart (link old) ups h.apart lawful;
        }

    -- notes come from nowhere
    notes_apart : (ups : List (Up (List ℕ))) → All IsNote ups → AllByRecursion IsFromApart ups
    notes_apart [] all = tt
    notes_apart (Noted note ∷ ups) all = (tt, notes_apart ups (All-tail IsNote (Noted note) ups all))
    notes_apart (Came arrival ∷ ups) all = absurd (All-head IsNote (Came arrival) ups all)

    -- an injection that is not taken
    pub injection_carries : (old new : C) (journal : List Event) (lan system : ℕ) (octets : List ℕ) (answer : Injected) (ups : List (Up (List ℕ))) → answer ≢ WasInjected → Carries old journal
        → Passes link steps old (Inject lan system octets answer) ups new → Delivered new (journal ++ inject_event system answer ∷ told ups) ups
    injection_carries old new journal lan system octets answer ups refused h pass =
        let injects = law old (Inject lan system octets answer) pass.called pass.steps_to in
        let waited = these_waited (link old) injects.ups ups (link pass.called).waiting h.rests.quiet injects.adds.waiting pass.gathers.waited in
        let notes : All IsNote ups = subst (λ (n : List (Up (List ℕ))). All IsNote n) waited (injects.refused refused) in
        let grows : NothingNew (link old) (link new) = λ entry there. injects.grows entry (pass.gathers.grows entry there) in
        record {
          carries = record {
            rests = record {
              stands = goes_on (link old) (link new) journal (inject_event system answer ∷ told ups) h.rests.stands (inject_still system answer, notes_still ups notes)
                  (same_on (link old) (link pass.called) (link new) injects.same pass.gathers.stands.same) (pass.gathers.stands.honest ∙ injects.honest refused)
                  (pass.gathers.stands.clock ∙ injects.clock) (sent_later titles (link old) (link new) journal (inject_event system answer ∷ told ups) h.rests.stands.sent grows);
              quiet = pass.gathers.quiet;
            };
            apart = apart_on (link old) (link new) grows h.apart;
          };
          ups_apart = notes_apart ups notes;
        }

    pub tick_carries : (old new : C) (journal : List Event) (ups : List (Up (List ℕ))) → Carries old journal → Passes link steps old Tick ups new
        → Carries new (journal ++ events.Tick ((link old).clock + 1) ∷ told ups)
    tick_carries old new journal ups h pass =
        let ticks = law old Tick pass.called pass.steps_to in
        let up : Gathered (link pass.called) ups (link new) = record { waited = pass.gathers.waited; stands = pass.gathers.stands; grows = pass.gathers.grows } in
        record {
          rests = record {
            stands = ticked life titles (link old) (link pass.called) (link new) journal ups h.rests.stands h.rests.quiet ticks up;
            quiet = pass.gathers.quiet;
          };
          apart = apart_on (link old) (link new) (λ entry there. ticks.grows entry (pass.gathers.grows entry there)) h.apart;
        }

    -- a raw unit
    raw_apart : (old new : C) (system : ℕ) (sender receiver : List ℕ) (wish : Wish) (octets : List ℕ) (made : List Event) → AreApart (link old).floating
        → SendsUnit link steps old system sender receiver wish octets made new → AreApart (link new).floating
    raw_apart old new system sender receiver wish [] made apart step = subst (λ (c : C). AreApart (link c).floating) (sym step.1) apart
    raw_apart old new system sender receiver wish (octet ∷ octets) made apart step = λ entry there to.
        let pass = step.2 in
        let offers = law old (Offer (raw_unit sender receiver (octet ∷ octets)) wish step.0) pass.called pass.steps_to in
        elim (offers.grows entry (pass.gathers.grows entry there)) [
          | inl before ↦ apart entry before to
          | inr here ↦
              let raw : (selector_of (raw_address receiver) == 2) ≡ false = subst (λ (e : ℕ × CarriedUnit (List ℕ)). IsApart e.1.to) here.1 to in
              let is : (selector_of (raw_address receiver) == 2) ≡ true = ap (λ (n : ℕ). n == 2) (selector_of-append (system_part receiver) 2) in
              let both : true ≡ false = sym is ∙ raw in
              absurd cc
        ]

    pub raw_carries : (old new : C) (journal made : List Event) (system : ℕ) (sender receiver : List ℕ) (wish : Wish) (octets : List ℕ) → Carries old journal
        → slice_get titles system ≡ Some sender → SendsUnit link steps old system sender receiver wish octets made new → Carries new (journal ++ made)
    raw_carries old new journal made system sender receiver wish octets h sender_is step = record {
      rests = unit_rests link steps law life titles old new journal made system sender receiver wish octets h.rests sender_is step;
      apart = raw_apart old new system sender receiver wish octets made h.apart step;
    }

    -- ---- the network

    -- an entity whose address is none for raw units, and whose ends write to no such address
    abbrev pub IsFine : Entity → Type 0
    IsFine entity = IsApart entity.own × EndsFine IsApart entity.ends

    abbrev pub AreFine : List Placed → Type 0
    AreFine placed = AllByRecursion (λ one. IsFine one.entity) placed

    pub record Stands (world : World C) (journal : List Event) : Type 0 where
      pub carries : Carries world.carrier journal
      pub fine : AreFine world.entities

    pub entity_fine : (placed : List Placed) (system : ℕ) (entity : Entity) → AreFine placed → entity_at placed system ≡ Some entity → IsFine entity
    entity_fine [] system entity all is = absurd cc
    entity_fine (one ∷ placed) system entity all is = by_first (is_of system one) is (entity_fine placed system entity all.1)
      where
        by_first : (here : Bool) → option_map (λ (x : Placed). x.entity) (cond here (Some one) (find (is_of system) placed)) ≡ Some entity → (entity_at placed system ≡ Some entity → IsFine entity) → IsFine entity
        by_first true is rest = subst IsFine (some_same one.entity entity is) all.0
        by_first false is rest = rest is

    pub with_fine : (placed : List Placed) (system : ℕ) (entity : Entity) → AreFine placed → IsFine entity → AreFine (with_entity placed system entity)
    with_fine [] system entity all fine = tt
    with_fine (one ∷ placed) system entity all fine =
        either AreFine (is_of system one) (record one { entity = entity } ∷ placed) (one ∷ with_entity placed system entity) (fine, all.1) (all.0, with_fine placed system entity all.1 fine)

    acted_fine : (own : List ℕ) (acted : Acted) → IsApart own → ActsFine IsApart own acted → IsFine acted.entity
    acted_fine own acted apart did = (subst IsApart (sym did.own_is) apart, did.ends)

    -- an entity is another now, and nothing else changes
    pub changed_stands : (world : World C) (journal : List Event) (system : ℕ) (own : List ℕ) (acted : Acted) → Stands world journal → IsApart own → ActsFine IsApart own acted
        → Stands (record world { entities = with_entity world.entities system acted.entity }) journal
    changed_stands world journal system own acted h apart did = record {
      carries = h.carries;
      fine = with_fine world.entities system acted.entity h.fine (acted_fine own acted apart did);
    }

    pub told_stands : (world : World C) (journal made : List Event) → Stands world journal → AreStill made → Stands world (journal ++ made)
    told_stands world journal made h stills = record { carries = told_carries world.carrier journal made h.carries stills; fine = h.fine }

    -- what an entity does
    pub act_stands : (old new : World C) (journal made : List Event) (system : ℕ) (own : List ℕ) (acted : Acted) → Stands old journal → IsApart own → ActsFine IsApart own acted
        → Acts link steps old system own acted made new → Stands new (journal ++ made)
    act_stands old new journal made system own acted h apart did acts =
        let events : List Event = events_after old.ends system own acted.events in
        let told : Carries old.carrier (journal ++ events) = told_carries old.carrier journal events h.carries (events_still acted.events old.ends system own) in
        let sent : Carries acts.below ((journal ++ events) ++ acts.sent) = tpdus_carry acted.tpdus old.carrier acts.below (journal ++ events) acts.sent system own told apart did.tpdus acts.sends in
        let all : Carries acts.below (journal ++ made) =
        subst (λ (xs : List Event). Carries acts.below xs) (append_assoc journal events acts.sent ∙ ap (λ (xs : List Event). journal ++ xs) (sym acts.made_is)) sent in
        subst (λ (w : World C). Stands w (journal ++ made)) (sym acts.becomes)
        (record { carries = all; fine = with_fine old.entities system acted.entity h.fine (acted_fine own acted apart did) })
