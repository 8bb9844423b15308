-- What an entity does keeps that ends of a relay wait: what its ends tell may come in a line of a relay (X.224, class 4 procedures).
use Rattle.std.proofs.Common.{◌≡◌, ◌≢◌, inl, inr, ℕ, ◌+◌, ◌-◌, ◌<◌, ◌≤◌, ◌==◌, Bool, true, false, if◌then◌else◌, not, List, [], ◌∷◌, ◌++◌, length, slice_get, Option, Some, None, refl, sym, ◌∙◌, ap, subst, arith, append_assoc}
use Rattle.std.specs.List.{AllByRecursion, list_any}
use Rattle.std.proofs.lemmas.Bool.{cases_eq}
use Rattle.script_journal.specs.declared.event.Event.{Event as Told}
use Rattle.script_journal.specs.declared.event.Event.TheVariants as events
use Rattle.script_journal.specs.declared.event.Indication.{Indication}
use Rattle.tpdu.specs.Values.{TpduAndSum, destination_of, format_for}
use Rattle.tpdu.specs.Writing.{IsAllowed, kind_for}
use Rattle.tpdu.specs.declared.tpdu.Format.{Format}
use Rattle.tpdu.specs.declared.tpdu.Format.TheVariants.{Normal as NormalFormat}
use Rattle.tpdu.specs.declared.tpdu.Tpdu.{Tpdu}
use Rattle.tpdu.proofs.Allowed.{first_is_allowed}
use Rattle.tpdu.specs.declared.tpdu.Tpdu.TheVariants as wires
use Rattle.tp4_number.proofs.Past.{if_kept}
use Rattle.tpdu.specs.declared.service.Options.{Options}
use Rattle.tp4_flow.specs.declared.step.EndEvent.{EndEvent}
use Rattle.tp4_flow.specs.declared.step.What.{What}
use Rattle.tp4_flow.specs.declared.step.What.TheVariants as whats
use Rattle.tp4_conn.specs.declared.end_record.EndRecord.{EndRecord}
use Rattle.tp4_conn.specs.declared.states.InCrWait.{InCrWait}
use Rattle.tp4_conn.specs.declared.states.StateData.{StateData}
use Rattle.tp4_conn.specs.declared.states.StateData.TheVariants as stages
use Rattle.tp4_conn.specs.Agreeing.{proposed_in}
use Rattle.tp4_conn.specs.End.{End, IsSized, Moved, end_of}
use Rattle.tp4_conn.specs.Making.{called_end, indicated}
use Rattle.tp4_conn.specs.Matching.{is_match}
use Rattle.tp4_conn.specs.Table.{Ticked, Took, due, stepped}
use Rattle.tp4_conn.proofs.Sizes.{read_sized}
use Rattle.tp4_entity.specs.Association.{is_called, is_registered, met, met_at, met_by, new_end, requested, unmatched}
use Rattle.tp4_entity.specs.Entity.{Acted, Entity, at, end_at, moved, there, with_end}
use Rattle.tp4_entity.specs.References.{least_free}
use Rattle.tp4_entity.specs.Silence.{is_silent}
use Rattle.tp4_entity.specs.Step.{first_due, kept_end, ticking, ticking_at, ticking_end}
use Rattle.tp4_entity.specs.Unit.{EndsWith, Faulty, HearsUnit, Separates, TakesBy, TakesUnit, Whole, all_met, extended_of, ignored}
use Rattle.tp4_entity.proofs.Standings.{free_least, within}
use Rattle.tp4_world.specs.Telling.{ends_after, ends_with, event_for, events_after}
use Rattle.tp4_world.specs.World.{entity_at, is_at, latest, latest_from, with_entity}
use Rattle.tp4_world.specs.declared.place.EndAt.{EndAt}
use Rattle.tp4_world.specs.declared.place.Placed.{Placed}
use Rattle.tp4_world.proofs.Entities.{with_found}
use Rattle.law_tp4_lawful.proofs.ActsRows.{AreTold, IsRowOf, IsTold, row_of}
use Rattle.law_tp4_lawful.specs.Own.{IsEndOf}
use Rattle.law_tp4_lawful.proofs.ActsTold.{ends_stay}
use Rattle.law_tp4_lawful.proofs.Frames.{entity_other}
use Rattle.law_tp4_lawful.proofs.MakesPlaces.{at_other, at_same, latest_last, latest_other, made_last}
use Rattle.law_tp4_lawful.proofs.SilenceEntities.{AreOf, ends_append, events_append, only_end, placed_of, placed_or}
use Rattle.law_tp4_lawful.proofs.WorldPlaces.{with_again}
use Rattle.tp4_relay.specs.declared.claim.Claim.{Claim}
use Rattle.tp4_relay.specs.declared.pair.Pair.{Pair}
use Rattle.tp4_relay.specs.Allowed.{AreLine, IsLine}
use Rattle.tp4_relay.specs.Kept.{Kept, kept_after, named_by, noted}
use Rattle.law_relay.proofs.StageRows.{AllTold, ConfirmsSo, IsFlow, TellsHeld, IsParting, MayFollow, MayTell, Tells, TellsSo, parting_flow, taking_tells, ticking_tells}
use Rattle.law_relay.proofs.Waits.{IsCommon, IsOpenStage, IsTidy, Waits, confirmed_waits, follows_waits, heard_tidy, heard_waits, new_waits, noted_named, noted_tidy, noted_waits, open_shows, tidy_more}
use Rattle.tpdu.specs.declared.service.EndTold.TheVariants as tells

-- ---- lists of events

line_more : (count more : ℕ) (kept : Kept) (line : List Told) → count ≤ more → AreLine count kept line → AreLine more kept line
line_more count more kept [] less all = tt
line_more count more kept (event ∷ line) less all = let low = all.1 in (all.0, omega (arith, low, less), line_more count more (noted kept event) line less all.2)

pub line_append : (count : ℕ) (kept : Kept) (xs ys : List Told) → AreLine count kept xs → AreLine count (kept_after kept xs) ys → AreLine count kept (xs ++ ys)
line_append count kept [] ys first rest = rest
line_append count kept (x ∷ xs) ys first rest = (first.0, first.1, line_append count (noted kept x) xs ys first.2 rest)

pub after_append : (kept : Kept) (xs ys : List Told) → kept_after kept (xs ++ ys) ≡ kept_after (kept_after kept xs) ys
after_append kept [] ys = refl
after_append kept (x ∷ xs) ys = after_append (noted kept x) xs ys

-- ---- the latest end at a reference

latest_from_low : (next seen : ℕ) (ends : List EndAt) (system reference : ℕ) → seen < next → latest_from next seen ends system reference < next + length ends
latest_from_low next seen [] system reference low = omega (arith, low)
latest_from_low next seen (end ∷ ends) system reference low =
    let below : (if is_at system reference end then next else seen) < next + 1 = if_kept (λ (n : ℕ). n < next + 1) (is_at system reference end) _ _ (λ _. omega arith) (λ _. omega (arith, low)) in
    let rest = latest_from_low (next + 1) (if is_at system reference end then next else seen) ends system reference below in
    omega (arith, rest)

pub latest_low : (ends : List EndAt) (system reference : ℕ) → latest ends system reference ≤ length ends
latest_low ends system reference = let low = latest_from_low 1 0 ends system reference (omega arith) in omega (arith, low)

-- ---- a network beside what is kept

-- the ends that stand wait as they have to
pub record Linked (entities : List Placed) (ends : List EndAt) (kept : Kept) : Type 0 where
  pub named : kept.named ≤ length ends
  pub tidy : IsTidy (length ends) kept.claims kept.pairs
  pub of : (system : ℕ) (e : Entity) → entity_at entities system ≡ Some e → AreOf e
  pub waits : (system r : ℕ) (e : Entity) (end : End) → entity_at entities system ≡ Some e → end_at e r ≡ Some end → Waits kept.claims kept.pairs (latest ends system r) end.stage

-- these events may come in a line, and lead to such a network
pub record Goes (ends : List EndAt) (kept : Kept) (made : List Told) (new : List Placed) (more : List EndAt) : Type 0 where
  pub line : AreLine (length more) kept made
  pub linked : Linked new more (kept_after kept made)
  pub grows : length ends ≤ length more

pub goes_then : (ends mid more : List EndAt) (kept : Kept) (here rest : List Told) (between new : List Placed) → Goes ends kept here between mid → Goes mid (kept_after kept here) rest new more → Goes ends kept (here ++ rest) new more
goes_then ends mid more kept here rest between new one two =
    let a = one.grows in
    let b = two.grows in
    record {
      line = line_append (length more) kept here rest (line_more (length mid) (length more) kept here b one.line) two.line;
      linked = subst (λ (k : Kept). Linked new more k) (sym (after_append kept here rest)) two.linked;
      grows = omega (arith, a, b);
    }

-- ---- events that go by

pub record IsFine (count : ℕ) (kept : Kept) (event : Told) : Type 0 where
  pub common : IsCommon event
  pub line : IsLine kept event
  pub low : named_by event ≤ count

-- what is kept waits as before
pub record Walked (count : ℕ) (kept : Kept) (made : List Told) : Type 0 where
  pub line : AreLine count kept made
  pub waits : (m : ℕ) (stage : StateData) → Waits kept.claims kept.pairs m stage → Waits (kept_after kept made).claims (kept_after kept made).pairs m stage
  pub tidy : IsTidy count kept.claims kept.pairs → IsTidy count (kept_after kept made).claims (kept_after kept made).pairs
  pub named : kept.named ≤ count → (kept_after kept made).named ≤ count

pub walked_none : (count : ℕ) (kept : Kept) → Walked count kept []
walked_none count kept = record { line = tt; waits = λ m stage w. w; tidy = λ t. t; named = λ low. low }

pub walked_more : (count : ℕ) (kept : Kept) (event : Told) (made : List Told) → IsFine count kept event → Walked count (noted kept event) made → Walked count kept (event ∷ made)
walked_more count kept event made f w = record {
  line = (f.line, f.low, w.line);
  waits = λ m stage h. w.waits m stage (noted_waits kept event m stage f.common h);
  tidy = λ t. w.tidy (noted_tidy kept event count f.common t);
  named = λ low. w.named (noted_named kept event count low f.low);
}

-- a network that waits goes on to wait, where its ends stay
pub walked_linked : (entities : List Placed) (ends : List EndAt) (kept : Kept) (made : List Told) → Walked (length ends) kept made → Linked entities ends kept → Goes ends kept made entities ends
walked_linked entities ends kept made w l = record {
  line = w.line;
  linked = record {
    named = w.named l.named;
    tidy = w.tidy l.tidy;
    of = l.of;
    waits = λ system r e end is at. w.waits (latest ends system r) end.stage (l.waits system r e end is at);
  };
  grows = omega arith;
}

-- ---- what an end tells

may_flow : (stage : StateData) (what : What) → MayTell stage what → IsFlow what
may_flow (stages.AkWait w) what h = h
may_flow (stages.Opened o) what h = h
may_flow other what h = parting_flow what h

got_open : (stage : StateData) (octets : List ℕ) → MayTell stage (whats.End (tells.Got octets)) → IsOpenStage stage
got_open (stages.AkWait w) octets h = tt
got_open (stages.Opened o) octets h = tt
got_open other octets h = h

urgent_open : (stage : StateData) (octets : List ℕ) → MayTell stage (whats.End (tells.Urgent octets)) → IsOpenStage stage
urgent_open (stages.AkWait w) octets h = tt
urgent_open (stages.Opened o) octets h = tt
urgent_open other octets h = h

module _ (system : ℕ) (address : List ℕ) where
  -- an end tells what it may in its state
  module _ (count n own : ℕ) (few : n ≤ count) (stage : StateData) (ends : List EndAt) (at_n : latest ends system own ≡ n) where
    names : (reference : ℕ) → reference ≡ own → latest ends system reference ≡ n
    names reference is = ap (latest ends system) is ∙ at_n

    fine_for : (kept : Kept) (reference : ℕ) (what : What) → IsTold own reference what → MayTell stage what → IsFlow what → Waits kept.claims kept.pairs n stage
        → IsFine count kept (event_for system address (latest ends system reference) reference what)
    fine_for kept reference (whats.End (tells.Got octets)) is may flow w =
        subst (λ (k : ℕ). IsFine count kept (events.End k (tells.Got octets))) (sym (names reference is)) (record { common = tt; line = open_shows kept n stage (got_open stage octets may) w; low = few })
    fine_for kept reference (whats.End (tells.Urgent octets)) is may flow w =
        subst (λ (k : ℕ). IsFine count kept (events.End k (tells.Urgent octets))) (sym (names reference is)) (record { common = tt; line = open_shows kept n stage (urgent_open stage octets may) w; low = few })
    fine_for kept reference (whats.End (tells.Held kind held_number)) is may flow w = record { common = tt; line = tt; low = omega arith }
    fine_for kept reference (whats.End (tells.Gone cause octets)) is may flow w = record { common = tt; line = tt; low = subst (λ (k : ℕ). k ≤ count) (sym (names reference is)) few }
    fine_for kept reference (whats.BadTpdu cause place) is may flow w = record { common = tt; line = tt; low = omega arith }
    fine_for kept reference other is may flow w = absurd flow

    same_ends : (told : EndEvent) (what : What) → IsFlow what → ends_with ends system told what ≡ ends
    same_ends told (whats.Incoming from partner calling called options octets) flow = absurd flow
    same_ends told other flow = refl

    tells_walk : (told : List EndEvent) (kept : Kept) → AreTold own told → AllTold (MayTell stage) told → Waits kept.claims kept.pairs n stage → Walked count kept (events_after ends system address told)
    tells_walk [] kept are may w = walked_none count kept
    tells_walk (one ∷ others) kept are may w =
        let flow = may_flow stage one.what may.0 in
        let fine = fine_for kept one.reference one.what are.0 may.0 flow w in
        let event : Told = event_for system address (latest ends system one.reference) one.reference one.what in
        let rest = tells_walk others (noted kept event) are.1 may.1 (noted_waits kept event n stage fine.common w) in
        subst (λ (es : List EndAt). Walked count kept (event_for system address (latest es system one.reference) one.reference one.what ∷ events_after es system address others))
        (sym (same_ends one one.what flow)) (walked_more count kept event (events_after ends system address others) fine rest)

  -- numbers that are held back
  held_fine : (count number reference : ℕ) (what : What) (kept : Kept) → TellsHeld what → IsFine count kept (event_for system address number reference what)
  held_fine count number reference (whats.End (tells.Held kind held_number)) kept is = record { common = tt; line = tt; low = omega arith }
  held_fine count number reference other kept is = absurd is

  held_same : (ends : List EndAt) (told : EndEvent) (what : What) → TellsHeld what → ends_with ends system told what ≡ ends
  held_same ends told (whats.Incoming from partner calling called options octets) is = absurd is
  held_same ends told other is = refl

  pub held_walk : (count : ℕ) (ends : List EndAt) (told : List EndEvent) (kept : Kept) → AllTold TellsHeld told → Walked count kept (events_after ends system address told)
  held_walk count ends [] kept held = walked_none count kept
  held_walk count ends (one ∷ others) kept held =
      let event : Told = event_for system address (latest ends system one.reference) one.reference one.what in
      let fine = held_fine count (latest ends system one.reference) one.reference one.what kept held.0 in
      let rest = held_walk count ends others (noted kept event) held.1 in
      subst (λ (es : List EndAt). Walked count kept (event_for system address (latest es system one.reference) one.reference one.what ∷ events_after es system address others))
      (sym (held_same ends one one.what held.0)) (walked_more count kept event (events_after ends system address others) fine rest)

  -- ---- a row of an end

  -- the end then waits as it has to
  record RowWalked (count : ℕ) (kept : Kept) (made : List Told) (n : ℕ) (stage : StateData) : Type 0 where
    walked : Walked count kept made
    own : Waits (kept_after kept made).claims (kept_after kept made).pairs n stage

  row_walked : (count n own : ℕ) (stage : StateData) (m : Moved) (ends : List EndAt) (kept : Kept) → n ≤ count → latest ends system own ≡ n → m.base.own ≡ own → AreTold own m.events → Tells stage m
      → Waits kept.claims kept.pairs n stage → RowWalked count kept (events_after ends system address m.events) n m.stage
  row_walked count n own stage m ends kept few at_n base told (inl so) w =
      let walk = tells_walk count n own few stage ends at_n m.events kept told so.told w in
      record {
        walked = walk;
        own = follows_waits (kept_after kept (events_after ends system address m.events)).claims (kept_after kept (events_after ends system address m.events)).pairs n stage m.stage so.after (walk.waits n stage w);
      }
  row_walked count n own stage m ends kept few at_n base told (inr confirms) w =
      let first : Told = events.End (latest ends system m.base.own) (tells.Confirm confirms.options confirms.octets) in
      let same : latest ends system m.base.own ≡ n = ap (latest ends system) base ∙ at_n in
      let named : named_by first ≤ count = subst (λ (k : ℕ). k ≤ count) (sym same) few in
      let fine : IsFine count kept first = record { common = tt; line = confirms.sized; low = named } in
      let rest = held_walk count ends confirms.rest (noted kept first) confirms.held in
      let waits : Waits kept.claims kept.pairs n (stages.CrWait confirms.w) = subst (Waits kept.claims kept.pairs n) confirms.stage_is w in
      let opened : Waits (noted kept first).claims (noted kept first).pairs n m.stage =
      subst (λ (k : ℕ). Waits (noted kept (events.End k (tells.Confirm confirms.options confirms.octets))).claims (noted kept (events.End k (tells.Confirm confirms.options confirms.octets))).pairs n m.stage) (sym same)
      (confirmed_waits kept n confirms.options confirms.octets confirms.w m.stage waits) in
      let all : RowWalked count kept (first ∷ events_after ends system address confirms.rest) n m.stage = record {
        walked = walked_more count kept first (events_after ends system address confirms.rest) fine rest;
        own = rest.waits n m.stage opened;
      } in
      subst (λ (es : List EndEvent). RowWalked count kept (events_after ends system address es) n m.stage) (sym confirms.events_are) all

  -- ---- an entity changes

  -- an entity is another one now
  pub linked_by : (entities : List Placed) (e new : Entity) (more : List EndAt) (last : Kept) → entity_at entities system ≡ Some e → last.named ≤ length more → IsTidy (length more) last.claims last.pairs → AreOf new
      → ((r : ℕ) (end : End) → end_at new r ≡ Some end → Waits last.claims last.pairs (latest more system r) end.stage)
      → ((other : ℕ) (x : Entity) → other ≢ system → entity_at entities other ≡ Some x → AreOf x)
      → ((other r : ℕ) (x : Entity) (end : End) → other ≢ system → entity_at entities other ≡ Some x → end_at x r ≡ Some end → Waits last.claims last.pairs (latest more other r) end.stage)
      → Linked (with_entity entities system new) more last
  linked_by entities e new more last is named tidy of here others_of others = record {
    named = named;
    tidy = tidy;
    of = λ other x at. elim (cases_eq other system) [
      | inl same ↦ subst AreOf (is_new other x same at) of
      | inr apart ↦ others_of other x apart (sym (entity_other entities system other new apart) ∙ at)
    ];
    waits = λ other r x end at stands. elim (cases_eq other system) [
      | inl same ↦ subst (λ (k : ℕ). Waits last.claims last.pairs (latest more k r) end.stage) (sym same) (here r end (ap (λ (y : Entity). end_at y r) (is_new other x same at) ∙ stands))
      | inr apart ↦ others other r x end apart (sym (entity_other entities system other new apart) ∙ at) stands
    ];
  }
    where
      is_new : (other : ℕ) (x : Entity) → other ≡ system → entity_at (with_entity entities system new) other ≡ Some x → new ≡ x
      is_new other x same at =
          let first : entity_at (with_entity entities system new) other ≡ Some new = ap (entity_at (with_entity entities system new)) same ∙ with_found entities system e new is in
          cc

  -- what an entity did, with what it tells
  abbrev pub Did : Entity → Entity → List EndEvent → Type 0
  Did e new told = (entities : List Placed) (ends : List EndAt) (kept : Kept) → entity_at entities system ≡ Some e → Linked entities ends kept
      → Goes ends kept (events_after ends system address told) (with_entity entities system new) (ends_after ends system told)

  -- the same ends, and nothing is told
  did_nothing : (e new : Entity) → new.ends ≡ e.ends → Did e new []
  did_nothing e new places entities ends kept is l =
      let same : (r : ℕ) → end_at e r ≡ end_at new r = λ r. ap (λ (ps : List (Option End)). if r == 0 then None else there (slice_get ps (r - 1))) (sym places) in
      record {
        line = tt;
        linked = linked_by entities e new ends kept is l.named l.tidy (λ r end at. l.of system e is r end (same r ∙ at)) (λ r end at. l.waits system r e end is (same r ∙ at))
            (λ other x apart. l.of other x) (λ other r x end apart. l.waits other r x end);
        grows = omega arith;
      }

  -- one thing after another
  did_then : (e mid new : Entity) (xs ys : List EndEvent) → Did e mid xs → Did mid new ys → Did e new (xs ++ ys)
  did_then e mid new xs ys one two entities ends kept is l =
      let here : List Told = events_after ends system address xs in
      let rest : List Told = events_after (ends_after ends system xs) system address ys in
      let first = one entities ends kept is l in
      let second = two (with_entity entities system mid) (ends_after ends system xs) (kept_after kept here) (with_found entities system e mid is) first.linked in
      let last : List EndAt = ends_after (ends_after ends system xs) system ys in
      let both : Goes ends kept (here ++ rest) (with_entity entities system new) last =
      goes_then ends (ends_after ends system xs) last kept here rest (with_entity entities system mid) (with_entity entities system new) first
      (subst (λ (ps : List Placed). Goes (ends_after ends system xs) (kept_after kept here) rest ps last) (with_again entities system mid new) second) in
      subst (λ (es : List EndAt). Goes ends kept (events_after ends system address (xs ++ ys)) (with_entity entities system new) es) (sym (ends_append ends system xs ys))
      (subst (λ (made : List Told). Goes ends kept made (with_entity entities system new) last) (sym (events_append ends system address xs ys)) both)

  -- an end that stands did its row; it stays, or is taken out
  did_row : (e : Entity) (reference : ℕ) (end : End) (place : Option End) (m : Moved) → end_at e reference ≡ Some end → IsRowOf reference m → Tells end.stage m
      → ((new : End) → place ≡ Some new → IsEndOf reference new × (new.stage ≡ m.stage)) → Did e (with_end e reference place) m.events
  did_row e reference end place m at row tells here entities ends kept is l =
      let least : 1 ≤ reference = (within e reference end at).least in
      let n : ℕ = latest ends system reference in
      let made : List Told = events_after ends system address m.events in
      let walk = row_walked (length ends) n reference end.stage m ends kept (latest_low ends system reference) refl row.base row.told tells (l.waits system reference e end is at) in
      let last : Kept = kept_after kept made in
      let linked : Linked (with_entity entities system (with_end e reference place)) ends last =
      linked_by entities e (with_end e reference place) ends last is (walk.walked.named l.named) (walk.walked.tidy l.tidy)
      (placed_of e reference place least (l.of system e is) (λ new same. (here new same).0))
      (λ r one stands. elim (placed_or e reference place r one least stands) [
        | inl now ↦ subst (λ (k : ℕ). Waits last.claims last.pairs (latest ends system k) one.stage) (sym now.0) (subst (Waits last.claims last.pairs n) (sym (here one now.1).1) walk.own)
        | inr before ↦ walk.walked.waits (latest ends system r) one.stage (l.waits system r e one is before)
      ])
      (λ other x apart. l.of other x)
      (λ other r x one apart there_is stands. walk.walked.waits (latest ends other r) one.stage (l.waits other r x one there_is stands)) in
      subst (λ (es : List EndAt). Goes ends kept made (with_entity entities system (with_end e reference place)) es) (sym (ends_stay system address ends reference m.events row.told))
      (record { line = walk.walked.line; linked = linked; grows = omega arith })

  -- what is told of no end
  did_noted : (e : Entity) (what : What) → ((ends : List EndAt) → ends_with ends system (record { reference = 0; what = what }) what ≡ ends)
      → ((count number : ℕ) (kept : Kept) → IsFine count kept (event_for system address number 0 what)) → Did e e (record { reference = 0; what = what } ∷ [])
  did_noted e what same fine entities ends kept is l =
      let told : EndEvent = record { reference = 0; what = what } in
      let next : List EndAt = ends_with ends system told what in
      let event : Told = event_for system address (latest next system 0) 0 what in
      let walk = walked_more (length ends) kept event [] (fine (length ends) (latest next system 0) kept) (walked_none (length ends) (noted kept event)) in
      let last : Kept = noted kept event in
      let linked : Linked (with_entity entities system e) ends last =
      linked_by entities e e ends last is (walk.named l.named) (walk.tidy l.tidy) (l.of system e is) (λ r one stands. walk.waits (latest ends system r) one.stage (l.waits system r e one is stands))
      (λ other x apart. l.of other x) (λ other r x one apart there_is stands. walk.waits (latest ends other r) one.stage (l.waits other r x one there_is stands)) in
      subst (λ (es : List EndAt). Goes ends kept (event ∷ []) (with_entity entities system e) es) (sym (same ends)) (record { line = walk.line; linked = linked; grows = omega arith })

  -- an indication makes an end
  did_indicate : (e : Entity) (b : EndRecord) (text : List ℕ) → 1 ≤ b.own → b.own ≤ length e.ends → IsSized b.proposed.options → Did e (moved e b.own (indicated b text)).entity (indicated b text).events
  did_indicate e b text least most sized entities ends kept is l =
      let m : Moved = indicated b text in
      let new : Entity = with_end e b.own (Some (end_of m)) in
      let more : List EndAt = ends ++ record { system = system; reference = b.own } ∷ [] in
      let count : ℕ = length more in
      let counts : length more ≡ length ends + 1 = made_last ends (record { system = system; reference = b.own }) in
      let number : latest more system b.own ≡ length ends + 1 = latest_last ends system b.own in
      let heard : Indication = record {
        end = latest more system b.own;
        system = system;
        reference = b.own;
        calling = b.to;
        partner = b.partner;
        calling_selector = b.calling;
        called = address;
        called_selector = b.called;
        options = b.proposed.options;
        octets = text;
      } in
      let last : Kept = noted kept (events.Incoming heard) in
      let above : length ends < heard.end = omega (arith, number) in
      let low : heard.end ≤ count = omega (arith, number, counts) in
      let less : length ends ≤ count = omega (arith, counts) in
      let old = l.named in
      let old_low : kept.named < heard.end = omega (arith, old, above) in
      let tidy = tidy_more (length ends) count kept.claims kept.pairs less l.tidy in
      let apart_from : (k : ℕ) → k ≤ length ends → heard.end ≡ k → ⊥ = λ k below same. omega (arith, above, below, same) in
      let elsewhere : (other r : ℕ) (stage : StateData) → (other ≡ system → r ≡ b.own → ⊥) → Waits kept.claims kept.pairs (latest ends other r) stage → Waits last.claims last.pairs (latest more other r) stage =
      λ other r stage apart w. subst (λ (k : ℕ). Waits last.claims last.pairs k stage) (sym (latest_other ends system b.own other r apart))
      (heard_waits kept heard (latest ends other r) stage (apart_from (latest ends other r) (latest_low ends other r)) w) in
      record {
        line = ((old_low, sized), low, tt);
        linked = linked_by entities e new more last is (noted_named kept (events.Incoming heard) count (omega (arith, old, less)) low) (heard_tidy kept heard count low tidy)
            (placed_of e b.own (Some (end_of m)) least (l.of system e is) (λ end same. only_end b.own (end_of m) end (refl, tt) same))
            (λ r one stands. elim (cases_eq r b.own) [
              | inl same ↦
                  (let first : end_at new b.own ≡ Some (end_of m) = at_same e b.own (Some (end_of m)) least most in
                  let now : end_at new b.own ≡ Some one = ap (end_at new) (sym same) ∙ stands in
                  let one_is : end_of m ≡ one = cc in
                  subst (λ (k : ℕ). Waits last.claims last.pairs (latest more system k) one.stage) (sym same)
                  (subst (λ (end : End). Waits last.claims last.pairs heard.end end.stage) one_is (new_waits kept heard (length ends) (end_of m).stage above l.tidy tt)))
              | inr apart ↦ elsewhere system r one.stage (λ there_is same. apart same) (l.waits system r e one is (sym (at_other e b.own r (Some (end_of m)) least apart) ∙ stands))
            ])
            (λ other x apart. l.of other x)
            (λ other r x one apart there_is stands. elsewhere other r one.stage (λ same own. apart same) (l.waits other r x one there_is stands));
        grows = less;
      }

  abbrev pub Does : Entity → Acted → Type 0
  Does e acted = Did e acted.entity acted.events

  does_nothing : (e : Entity) → Did e e []
  does_nothing e = did_nothing e e refl

  -- now
  from_now : (now : ℕ) (e : Entity) (acted : Acted) → Does (at now e) acted → Does e acted
  from_now now e acted did = did_then e (at now e) acted.entity [] acted.events (did_nothing e (at now e) refl) did

  row_end : (reference : ℕ) (m : Moved) → IsRowOf reference m → (end : End) → Some (end_of m) ≡ Some end → IsEndOf reference end × (end.stage ≡ m.stage)
  row_end reference m row end h = let same : end_of m ≡ end = cc h in subst (λ (x : End). IsEndOf reference x × (x.stage ≡ m.stage)) same ((row.base, row.stage), refl)

  kept_row : (reference : ℕ) (m : Moved) (next : Option ℕ) → IsRowOf reference m → (end : End) → kept_end m next ≡ Some end → IsEndOf reference end × (end.stage ≡ m.stage)
  kept_row reference m None row end h = absurd (cc h)
  kept_row reference m (Some tick) row end h = row_end reference m row end h

  module _ (wrap : ℕ → ℕ → ℕ) (now : ℕ) where
    -- ---- a tick

    -- each end is of its reference, which a network that waits says of its entities
    Of : (e : Entity) (told : List EndEvent) (new : Entity) → (AreOf e → Did e new told) → Did e new told
    Of e told new by entities ends kept is l = by (l.of system e is) entities ends kept is l

    end_ticked : (e : Entity) (reference : ℕ) (place : Option End) → AreOf e → end_at e reference ≡ place → Does e (ticking_end wrap now e reference place)
    end_ticked e reference None all is = does_nothing e
    end_ticked e reference (Some end) all is =
        let m : Moved = stepped wrap now end Ticked in
        let row : IsRowOf reference m = row_of wrap now reference end Ticked (all reference end is) in
        did_row e reference end (kept_end m (due m.base m.stage)) m is row (ticking_tells wrap now end) (kept_row reference m (due m.base m.stage) row)

    ticked_at : (e : Entity) (found : Option ℕ) → AreOf e → Does e (ticking_at wrap now e found)
    ticked_at e None all = does_nothing e
    ticked_at e (Some reference) all = end_ticked e reference (end_at e reference) all refl

    pub did_tick : (e : Entity) → Does e (ticking wrap now e)
    did_tick e = from_now now e (ticking wrap now e) (Of (at now e) (ticking wrap now e).events (ticking wrap now e).entity (ticked_at (at now e) (first_due now e)))

    -- ---- a unit comes

    module _ (from : List ℕ) where
      is_unmatched : (e : Entity) (tpdu : Tpdu) → Does e (unmatched e from tpdu)
      is_unmatched e tpdu = did_noted e (whats.Unknown (kind_for tpdu)) (λ ends. refl) (λ count number kept. record { common = tt; line = tt; low = omega arith })

      by_end : (e : Entity) (tpdu : TpduAndSum) (width : Format) (reference : ℕ) (place : Option End) → IsAllowed width tpdu.0 → AreOf e → end_at e reference ≡ place → Does e (met_by wrap now e from tpdu reference place)
      by_end e tpdu width reference None allowed all is = is_unmatched e tpdu.0
      by_end e tpdu width reference (Some end) allowed all is =
          let m : Moved = stepped wrap now end (Took tpdu.0 tpdu.1) in
          let row : IsRowOf reference m = row_of wrap now reference end (Took tpdu.0 tpdu.1) (all reference end is) in
          if_kept (Does e) (is_match end.base end.stage from tpdu.0) _ _ (λ _. did_row e reference end (Some (end_of m)) m is row (taking_tells wrap now end width tpdu.0 tpdu.1 allowed) (row_end reference m row)) (λ _. is_unmatched e tpdu.0)

      is_made : (e : Entity) (source : ℕ) (width : Format) (cr : Tpdu) (found : Option ℕ) → IsAllowed width cr → least_free now e ≡ found → Does e (new_end now e from source cr found)
      is_made e source width cr None allowed is = does_nothing e
      is_made e source width (wires.Cr credit other given calling called size preferred extra version classes ack_time text) (Some reference) allowed is =
          let f = free_least now reference e is in
          did_indicate e (called_end now reference from e.timers credit other calling called (proposed_in given size preferred extra)) text f.least f.most (read_sized given size preferred extra allowed.size_known allowed.preferred_known)
      is_made e source width other (Some reference) allowed is = does_nothing e

      is_requested : (e : Entity) (source : ℕ) (called : List ℕ) (width : Format) (cr : Tpdu) → IsAllowed width cr → Does e (requested now e from source called cr)
      is_requested e source called width cr allowed =
          if_kept (Does e) (list_any (is_called false from source) e.ends) _ _ (λ _. does_nothing e)
          (λ _. if_kept (Does e) (list_any (is_called true from source) e.ends) _ _ (λ _. does_nothing e)
          (λ _. if_kept (Does e) (not (is_registered e.selectors called)) _ _ (λ _. does_nothing e) (λ _. is_made e source width cr (least_free now e) allowed refl)))

      is_met : (e : Entity) (tpdu : TpduAndSum) (width : Format) → IsAllowed width tpdu.0 → AreOf e → Does e (met wrap now e from tpdu)
      is_met e (wires.Cr credit source given calling called size preferred extra version classes ack_time text, sum) width allowed all =
          is_requested e source called width (wires.Cr credit source given calling called size preferred extra version classes ack_time text) allowed
      is_met e (wires.Cc credit destination source given calling called size preferred extra version classes ack_time text, sum) width allowed all =
          by_end e (wires.Cc credit destination source given calling called size preferred extra version classes ack_time text, sum) width destination (end_at e destination) allowed all refl
      is_met e (wires.Dr destination source reason info text, sum) width allowed all = by_end e (wires.Dr destination source reason info text, sum) width destination (end_at e destination) allowed all refl
      is_met e (wires.Dc destination source, sum) width allowed all = by_end e (wires.Dc destination source, sum) width destination (end_at e destination) allowed all refl
      is_met e (wires.Dt destination last number text, sum) width allowed all = by_end e (wires.Dt destination last number text, sum) width destination (end_at e destination) allowed all refl
      is_met e (wires.Ed destination last number text, sum) width allowed all = by_end e (wires.Ed destination last number text, sum) width destination (end_at e destination) allowed all refl
      is_met e (wires.Ak destination number credit subsequence confirmation, sum) width allowed all =
          by_end e (wires.Ak destination number credit subsequence confirmation, sum) width destination (end_at e destination) allowed all refl
      is_met e (wires.Ea destination number, sum) width allowed all = by_end e (wires.Ea destination number, sum) width destination (end_at e destination) allowed all refl
      is_met e (wires.Er destination cause rejected, sum) width allowed all = by_end e (wires.Er destination cause rejected, sum) width destination (end_at e destination) allowed all refl

      are_met : (tpdus : List TpduAndSum) (extended octets rest : List ℕ) (e : Entity) → Separates extended octets tpdus rest → Does e (all_met wrap now e from tpdus)
      are_met [] extended octets rest e s = does_nothing e
      are_met (tpdu ∷ tpdus) extended octets rest e s =
          let first : Acted = met wrap now e from tpdu in
          let width : Format = format_for extended (destination_of tpdu.0) in
          let allowed : IsAllowed width tpdu.0 = first_is_allowed extended octets s.0 tpdu s.1 in
          let one : Does e first = Of e first.events first.entity (is_met e tpdu width allowed) in
          let last : Acted = all_met wrap now first.entity from tpdus in
          did_then e first.entity last.entity first.events last.events one (are_met tpdus extended s.0 rest first.entity s.2)

      -- nothing is left, or a fault is told
      is_ended : (e : Entity) (extended rest : List ℕ) (told : List EndEvent) → EndsWith extended rest told → Did e e told
      is_ended e extended rest told (Whole none is) = subst (Did e e) (sym is) (does_nothing e)
      is_ended e extended rest told (Faulty fault some is told_is) =
          subst (Did e e) (sym told_is) (did_noted e (whats.BadTpdu fault.cause fault.place) (λ ends. refl) (λ count number kept. record { common = tt; line = tt; low = omega arith }))

      is_heard : (e : Entity) (octets : List ℕ) (acted : Acted) → HearsUnit wrap now e from octets acted → Does e acted
      is_heard e octets acted h =
          let all : Acted = all_met wrap now (at now e) from h.tpdus in
          let did : Does (at now e) all = are_met h.tpdus (extended_of e) octets h.rest (at now e) h.separates in
          let both : Did (at now e) all.entity (all.events ++ h.told) = did_then (at now e) all.entity all.entity all.events h.told did (is_ended all.entity (extended_of e) h.rest h.told h.ends) in
          subst (λ (x : Entity). Did e x acted.events) (sym h.entity)
          (subst (λ (told : List EndEvent). Did e all.entity told) (sym h.events)
          (did_then e (at now e) all.entity [] (all.events ++ h.told) (did_nothing e (at now e) refl) both))

      -- a silent entity does nothing but tell it
      pub did_take : (e : Entity) (octets : List ℕ) (acted : Acted) → TakesUnit wrap now e from octets acted → Does e acted
      did_take e octets acted t = by (is_silent now e) t
        where
          by : (silent : Bool) → TakesBy silent wrap now e from octets acted → Does e acted
          by true ignores =
              subst (Does e) (sym ignores) (from_now now e (ignored now e) (did_noted (at now e) whats.Silent (λ ends. refl) (λ count number kept. record { common = tt; line = tt; low = omega arith })))
          by false heard = is_heard e octets acted heard
