-- The events of ends and of what a network hands up: each has a text that tells it, where what it tells is in octets and in range.
use Rattle.std.proofs.Common.{◌≡◌, ◌≤◌, ◌<◌, ℕ, zero, suc, ◌+◌, Bool, true, false, ◌==◌, List, [], ◌∷◌, ◌++◌, drop, length, take, refl, subst, arith, if◌then◌else◌, length-append}
use Rattle.std.specs.Prelude.{codes, ◌<◌, ℕ, ◌+◌, List, [], ◌∷◌}
use Rattle.std.specs.List.{AllByRecursion}
use Rattle.hex.specs.Hex.{IsBytes}
use Rattle.nsap.specs.Address.{selector_of}
use Rattle.osi_base.specs.declared.unit.DropCause.{DropCause}
use Rattle.osi_base.specs.declared.unit.DropCause.TheVariants as drops
use Rattle.osi_base.specs.declared.unit.Offered.{Offered}
use Rattle.osi_base.specs.declared.unit.Offered.TheVariants.{Taken as WasTaken, Dropped}
use Rattle.osi_base.specs.declared.unit.Up.{Up}
use Rattle.osi_base.specs.declared.unit.Up.TheVariants.{Unit as Came, Note as Noted}
use Rattle.osi_base.proofs.Members.{all_both}
use Rattle.law_carrier_answers.specs.Answers.{AreOctets}
use Rattle.script_lines.specs.Tags.{Tags}
use Rattle.script_journal.specs.Injective.{AreTold, EachTold, IsTold, plain}
use Rattle.script_journal.specs.Told.{cells_of}
use Rattle.script_journal.specs.CauseWords.{drop_text, format_text, gone_cell, held_text, option_cells, state_text, tpdu_cause_text, tpdu_text}
use Rattle.script_journal.specs.Cells.{Cell, Number, Octets, Preferred}
use Rattle.script_journal.specs.declared.cause.Refused.{Refused}
use Rattle.script_journal.specs.declared.cause.Refused.TheVariants as refusals
use Rattle.tpdu.specs.declared.service.State.{State}
use Rattle.tpdu.specs.declared.service.State.TheVariants as states
use Rattle.script_journal.specs.declared.event.Event.{Event}
use Rattle.script_journal.specs.declared.event.Event.TheVariants as events
use Rattle.net_world.specs.Told.{told, up_events}
use Rattle.tpdu.specs.declared.fault.TpduCause.{TpduCause}
use Rattle.tpdu.specs.declared.fault.TpduCause.TheVariants as causes
use Rattle.tpdu.specs.declared.kind.Kind.{Kind}
use Rattle.tpdu.specs.declared.kind.Kind.TheVariants as kinds
use Rattle.tpdu.specs.declared.tpdu.Format.{Format}
use Rattle.tpdu.specs.declared.tpdu.Format.TheVariants as formats
use Rattle.tpdu.specs.declared.service.Options.{Options}
use Rattle.tp4_flow.specs.declared.step.EndEvent.{EndEvent}
use Rattle.tpdu.specs.declared.service.GoneCause.{GoneCause}
use Rattle.tpdu.specs.declared.service.GoneCause.TheVariants as gone
use Rattle.tpdu.specs.declared.service.HeldKind.{HeldKind}
use Rattle.tpdu.specs.declared.service.HeldKind.TheVariants as held
use Rattle.tp4_flow.specs.declared.step.What.{What}
use Rattle.tp4_flow.specs.declared.step.What.TheVariants as whats
use Rattle.tp4_conn.specs.End.{IsSized, IsSizedBy}
use Rattle.tp4_conn.proofs.Sizes.{size_most}
use Rattle.tp4_world.specs.Telling.{drop_events, ends_after, ends_with, event_for, events_after}
use Rattle.tp4_world.specs.Total.{ComesInOctets}
use Rattle.tp4_world.specs.World.{is_at, latest, latest_from}
use Rattle.tp4_world.specs.declared.place.EndAt.{EndAt}
use Rattle.law_tp4_proper.proofs.Octets.{octet_at}
use Rattle.law_told.proofs.Carriers.{IsToldUp}
use Rattle.law_told.proofs.Sends.{AreToldBy, IsCause, IsToldWhat}
use Rattle.tpdu.specs.declared.service.EndTold.TheVariants as tells

-- ---- events, counted

abbrev pub IsToldEvent : Tags → Event → Type 0
IsToldEvent tags event = AreTold tags (cells_of event)

-- the numbers of ends, and those of what they send, grow with the journal: n events come before
abbrev pub EachFrom : Tags → ℕ → List Event → Type 0
EachFrom tags n [] = Unit {0}
EachFrom tags n (event ∷ events) = (n < 4294967296 → IsToldEvent tags event) × EachFrom tags (n + 1) events

-- ---- words

state_plain : (state : State) → plain (state_text state) ≡ true
state_plain states.CrWait = refl
state_plain other = refl

drop_plain : (cause : DropCause) → plain (drop_text cause) ≡ true
drop_plain drops.TooLong = refl
drop_plain other = refl

fault_plain : (cause : TpduCause) → plain (tpdu_cause_text cause) ≡ true
fault_plain causes.Short = refl
fault_plain other = refl

kind_plain : (kind : Kind) → plain (tpdu_text kind) ≡ true
kind_plain kinds.Cr = refl
kind_plain other = refl

-- an end that was made last at a reference has one of the numbers that were given
latest_low : (next found : ℕ) (ends : List EndAt) (system reference : ℕ) → found < next → latest_from next found ends system reference < next + length ends
latest_low next found [] system reference low = omega (arith, low)
latest_low next found (end ∷ ends) system reference low =
    let rest = latest_low (next + 1) (if is_at system reference end then next else found) ends system reference (either (is_at system reference end)) in omega (arith, rest)
  where
    either : (b : Bool) → (if b then next else found) < next + 1
    either true = omega arith
    either false = omega (arith, low)

latest_most : (ends : List EndAt) (system reference : ℕ) → latest ends system reference ≤ length ends
latest_most ends system reference = let low = latest_low 1 0 ends system reference (omega arith) in omega (arith, low)

pub octets_bytes : (octets : List ℕ) → AreOctets octets → IsBytes octets
octets_bytes octets h = λ i. octet_at octets i h

module _ (tags : Tags) where
  -- nothing but a refusal
  pub refusal_told : (why : Refused) → IsToldEvent tags (events.No why)
  refusal_told (refusals.WrongState state) = (refl, (refl, (state_plain state, tt)))
  refusal_told refusals.Ended = (refl, (refl, (refl, tt)))
  refusal_told other = (refl, (refl, tt))

  gone_told : (cause : GoneCause) → IsCause cause → IsTold tags (gone_cell cause)
  gone_told (gone.Reason reason) h = omega (arith, h)
  gone_told other h = refl

  -- ---- options

  options_by : (format : Format) (preferred expedited sum : Bool) (size : ℕ) (cells : List Cell) → IsSizedBy preferred size → AreTold tags cells
      → AreTold tags (option_cells (record { format = format; size = size; preferred = preferred; expedited = expedited; sum = sum }) cells)
  options_by format preferred expedited sum size cells sized h = (first format, (by preferred sized, (third expedited, (last sum, h))))
    where
      first : (format : Format) → plain (format_text format) ≡ true
      first formats.Normal = refl
      first formats.Extended = refl

      third : (b : Bool) → plain (if b then codes "exp" else codes "noexp") ≡ true
      third true = refl
      third false = refl

      last : (b : Bool) → plain (if b then codes "sum" else codes "nosum") ≡ true
      last true = refl
      last false = refl

      by : (b : Bool) → IsSizedBy b size → IsTold tags (if b then Preferred size else Number size)
      by true is = (is.0, is.1, omega (arith, is.3))
      by false is = omega (arith, size_most size is)

  options_told : (o : Options) (cells : List Cell) → IsSized o → AreTold tags cells → AreTold tags (option_cells o cells)
  options_told o cells sized h = options_by o.format o.preferred o.expedited o.sum o.size cells sized h

  -- ---- the events of ends

  held_plain : (kind : HeldKind) → plain (held_text kind) ≡ true
  held_plain held.Dt = refl
  held_plain held.Ed = refl

  module _ (system : ℕ) (declared : system < length tags.systems) (own : List ℕ) (own_octets : AreOctets own) (own_some : 0 < length own) where
    event_told : (n k number reference : ℕ) (what : What) → number ≤ n + 1 → k ≤ n → n < 4294967296 → IsToldWhat k reference what → IsToldEvent tags (event_for system own number reference what)
    event_told n k number reference (whats.Incoming from partner calling called options octets) up some low h =
        let behind : AreTold tags (drop 5 (cells_of (event_for system own number reference (whats.Incoming from partner calling called options octets)))) =
        (omega (arith, h.1), (octets_bytes calling h.4, ((octets_bytes own own_octets, own_some), (octets_bytes called h.5, options_told options (Octets octets ∷ []) h.6 (octets_bytes octets h.7, tt))))) in
        (refl, (omega (arith, up, low), (declared, (omega (arith, h.0), ((octets_bytes from h.2, h.3), behind)))))
    event_told n k number reference (whats.End (tells.Accept options octets)) up some low h = (refl, (omega (arith, up, low), options_told options (Octets octets ∷ []) h.0 (octets_bytes octets h.1, tt)))
    event_told n k number reference (whats.End (tells.Confirm options octets)) up some low h = (refl, (omega (arith, up, low), options_told options (Octets octets ∷ []) h.0 (octets_bytes octets h.1, tt)))
    event_told n k number reference (whats.End (tells.Got octets)) up some low h = (refl, (omega (arith, up, low), (octets_bytes octets h, tt)))
    event_told n k number reference (whats.End (tells.Urgent octets)) up some low h = (refl, (omega (arith, up, low), (octets_bytes octets h, tt)))
    event_told n k number reference (whats.End (tells.Window credit)) up some low h = (refl, (omega (arith, up, low), (omega (arith, h), tt)))
    event_told n k number reference (whats.End (tells.Held kind held_number)) up some low h = (refl, (omega (arith, up, low), (held_plain kind, (omega (arith, h, some, low), tt))))
    event_told n k number reference (whats.End (tells.Gone cause octets)) up some low h = (refl, (omega (arith, up, low), (gone_told cause h.0, (octets_bytes octets h.1, tt))))
    event_told n k number reference (whats.BadTpdu cause place) up some low h = (refl, (declared, (fault_plain cause, (omega (arith, h), tt))))
    event_told n k number reference (whats.Unknown kind) up some low h = (refl, (declared, (kind_plain kind, tt)))
    event_told n k number reference whats.Silent up some low h = (refl, (declared, tt))

    -- the ends that were made, and those after the events of a system
    with_more : (ends : List EndAt) (telling : EndEvent) (what : What) → length (ends_with ends system telling what) ≤ length ends + 1
    with_more ends telling (whats.Incoming from partner calling called options octets) = let long = length-append ends (record { system = system; reference = telling.reference } ∷ []) in omega (arith, long)
    with_more ends telling other = omega arith

    pub record EndsTold (n : ℕ) (ends : List EndAt) (all : List EndEvent) : Type 0 where
      pub told_is : EachFrom tags n (events_after ends system own all)
      pub few : length (ends_after ends system all) ≤ n + length (events_after ends system own all)

    pub ends_told : (n k : ℕ) (ends : List EndAt) (all : List EndEvent) → length ends ≤ n → k ≤ n → AreToldBy k all → EndsTold n ends all
    ends_told n k ends [] up some h = record { told_is = tt; few = omega (arith, up) }
    ends_told n k ends (telling ∷ all) up some h =
        let more = with_more ends telling telling.what in
        let next = ends_with ends system telling telling.what in
        let number = latest_most next system telling.reference in
        let rest = ends_told (n + 1) k next all (omega (arith, up, more)) (omega (arith, some)) h.1 in
        let few = rest.few in
        record {
          told_is = (λ low. event_told n k (latest next system telling.reference) telling.reference telling.what (omega (arith, number, up, more)) some low h.0, rest.told_is);
          few = omega (arith, few);
        }

  -- ---- what a network hands up

  up_told : (is_address : List ℕ → Bool) → ((address : List ℕ) → is_address address ≡ true → AreOctets address × (0 < length address)) → (up : Up (List ℕ)) → IsToldUp tags up → ComesInOctets is_address up
      → AllByRecursion (IsToldEvent tags) (up_events up)
  up_told is_address addresses (Noted note) h c = (h, tt)
  up_told is_address addresses (Came arrival) h c = by (selector_of arrival.unit.to == 2)
    where
      by : (b : Bool) → AllByRecursion (IsToldEvent tags) (if b then events.Unit arrival.system arrival.unit.from arrival.unit.octets ∷ [] else [])
      by true = let from = addresses arrival.unit.from c.from in ((refl, (h, ((octets_bytes arrival.unit.from from.0, from.1), (octets_bytes arrival.unit.octets c.octets, tt)))), tt)
      by false = tt

  pub ups_told : (is_address : List ℕ → Bool) → ((address : List ℕ) → is_address address ≡ true → AreOctets address × (0 < length address)) → (ups : List (Up (List ℕ)))
      → AllByRecursion (IsToldUp tags) ups → AllByRecursion (ComesInOctets is_address) ups → AllByRecursion (IsToldEvent tags) (told ups)
  ups_told is_address addresses [] h c = tt
  ups_told is_address addresses (up ∷ ups) h c = all_both (IsToldEvent tags) (up_events up) (told ups) (up_told is_address addresses up h.0 c.0) (ups_told is_address addresses ups h.1 c.1)

  pub drop_told : (system : ℕ) (answer : Offered) → system < length tags.systems → AllByRecursion (IsToldEvent tags) (drop_events system answer)
  drop_told system WasTaken declared = tt
  drop_told system (Dropped cause) declared = ((refl, (declared, (drop_plain cause, tt))), tt)

  -- ---- journals

  pub each_both : (n : ℕ) (xs ys : List Event) → EachFrom tags n xs → EachFrom tags (n + length xs) ys → EachFrom tags n (xs ++ ys)
  each_both n [] ys h k = subst (λ (m : ℕ). EachFrom tags m ys) (let same : n + 0 ≡ n = omega arith in same) k
  each_both n (x ∷ xs) ys h k = (h.0, each_both (n + 1) xs ys h.1 (subst (λ (m : ℕ). EachFrom tags m ys) (let same : n + length (x ∷ xs) ≡ n + 1 + length xs = omega arith in same) k))

  pub each_of : (n : ℕ) (xs : List Event) → AllByRecursion (IsToldEvent tags) xs → EachFrom tags n xs
  each_of n [] h = tt
  each_of n (x ∷ xs) h = (λ low. h.0, each_of (n + 1) xs h.1)

  -- the events before the first without room
  pub told_front : (n room : ℕ) (xs : List Event) → n + room ≤ 4294967296 → EachFrom tags n xs → EachTold tags (take room xs)
  told_front n zero xs few h = tt
  told_front n (suc room) [] few h = tt
  told_front n (suc room) (x ∷ xs) few h = (h.0 (omega (arith, few)), told_front (n + 1) room xs (omega (arith, few)) h.1)

  pub told_all : (n : ℕ) (xs : List Event) → n + length xs ≤ 4294967296 → EachFrom tags n xs → EachTold tags xs
  told_all n [] few h = tt
  told_all n (x ∷ xs) few h = (h.0 (omega (arith, few)), told_all (n + 1) xs (omega (arith, few)) h.1)
