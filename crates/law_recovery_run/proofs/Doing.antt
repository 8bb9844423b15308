-- What an entity does as its user asks, or as an end of it is due, as a step of two ends that know each other: a row of one of them, or neither sees anything of it.
use Rattle.std.proofs.Common.{◌≡◌, ℕ, ◌==◌, Bool, true, false, List, [], ◌∷◌, ◌++◌, Some, None, refl, sym, ◌∙◌, ap, subst, append-nil}
use Rattle.std.specs.List.{AllByRecursion}
use Rattle.std.proofs.lemmas.Bool.{eqb-false, eqb-true}
use Rattle.std.proofs.lemmas.Option.{same_Some}
use Rattle.osi_base.specs.Link.{Link}
use Rattle.osi_base.proofs.Members.{all_both}
use Rattle.script_journal.specs.Lawful.{Marked, shown, submitted}
use Rattle.script_journal.specs.declared.event.Event.{Event as JournalEvent}
use Rattle.script_journal.proofs.Showing.{shown_both, submitted_both}
use Rattle.tp4_number.specs.Number.{whole}
use Rattle.tp4_flow.specs.declared.step.EndEvent.{EndEvent}
use Rattle.tp4_flow.specs.declared.step.Sent.{Sent}
use Rattle.tp4_conn.specs.End.{End, Moved, agreed_format, end_of}
use Rattle.tp4_conn.specs.Table.{Event, stepped}
use Rattle.tp4_conn.specs.declared.states.StateData.{StateData}
use Rattle.tp4_conn.specs.declared.states.StateData.TheVariants as stages
use Rattle.tp4_conn.specs.declared.timers.Timers.{Timers}
use Rattle.tp4_entity.specs.Entity.{Acted, Entity, end_at}
use Rattle.law_tp4_history.specs.Journals.{IsAside}
use Rattle.law_tp4_history.specs.Tracks.{Whole}
use Rattle.law_tp4_history.specs.Lines.{shown_in}
use Rattle.law_tp4_history.specs.Moves.{HasSource, stop_of}
use Rattle.law_tp4_history.specs.Seen.{seen}
use Rattle.law_tp4_pair.specs.Pair.{Pair}
use Rattle.tp4_world.specs.Telling.{ends_after, events_after}
use Rattle.tp4_world.specs.World.{World, entity_at, latest, with_entity}
use Rattle.tp4_world.specs.declared.place.EndAt.{EndAt}
use Rattle.law_tp4_lawful.proofs.Acting.{first_of}
use Rattle.law_tp4_lawful.proofs.ActsTold.{first_shows_none, lines_give_none}
use Rattle.law_tp4_lawful.proofs.Worlds.{Explains}
use Rattle.law_calm_run.proofs.Hall.{Post, posted}
use Rattle.law_recovery_run.specs.Aside.{AreFacing, IsSentTo, Names}
use Rattle.law_recovery_run.specs.Rivals.{IsGoing}
use Rattle.law_recovery_run.specs.Following.{HasCcSource, IsFollowed, IsForPartner, IsFromPartner, IsLive, IsSide, IsSpoken, Speaks, Stands, sent_to}
use Rattle.law_recovery_run.proofs.Leaving.{Leaves}
use Rattle.law_recovery_run.proofs.Sides.{IsNow, side_on, stands_now}
use Rattle.law_recovery_run.proofs.Taking.{row_number, row_says, row_showed}
use Rattle.law_recovery_run.proofs.Waiting.{posted_all, posted_each, posted_elsewhere, posted_none}

pub live_goes : (stage : StateData) → IsLive stage → stop_of stage ≡ None
live_goes (stages.Opened o) live = refl
live_goes (stages.Closing c) live = refl
live_goes stage live = absurd live

pub each_all : (P Q : Sent → Type 0) (tpdus : List Sent) → ((sent : Sent) → P sent → Q sent) → AllByRecursion P tpdus → AllByRecursion Q tpdus
each_all P Q [] step all = tt
each_all P Q (sent ∷ tpdus) step all = (step sent all.0, each_all P Q tpdus step all.1)

-- nothing is said in the name of the end
pub named_none : (system own reference partner : ℕ) (to : List ℕ) (tpdus : List Sent) → (system ≡ own → AllByRecursion (λ (sent : Sent). Names reference sent.tpdu → ⊥) tpdus)
    → AllByRecursion (λ (sent : Sent). IsForPartner own reference to partner (record { system = system; sent = sent })) tpdus
named_none system own reference partner to [] all = tt
named_none system own reference partner to (sent ∷ tpdus) all = (λ at names. absurd ((all at).0 names), named_none system own reference partner to tpdus (λ at. (all at).1))

-- ---- pairs

-- the ends of a pair the other way round
abbrev pub turn : Pair → Pair
turn p = record {
  clock = p.clock;
  calling = p.called;
  called = p.calling;
  forth = p.back;
  back = p.forth;
  calling_gave = p.called_gave;
  called_gave = p.calling_gave;
  calling_showed = p.called_showed;
  called_showed = p.calling_showed;
  calling_told = p.called_told;
  called_told = p.calling_told;
}

abbrev pub turned : {C : Type 0} (link : C → Link (List ℕ)) (journal : List JournalEvent) (world : World C) (posts : List Post) (x y : ℕ) (p : Pair) → IsFollowed link journal world posts x y p
    → IsFollowed link journal world posts y x (turn p)
turned {C} link journal world posts x y p f = record {
  calling = f.called;
  called = f.calling;
  forth = f.back;
  back = f.forth;
  apart = λ same. f.apart (sym same);
  format = sym f.format;
  clock = f.clock;
  sourced = f.sourced;
}

-- the calling end took a row, and its user submitted these units
abbrev pub calling_does : Pair → Moved → List Marked → Pair
calling_does p m units = record p {
  calling = end_of m;
  forth = p.forth ++ m.tpdus;
  calling_gave = p.calling_gave ++ units;
  calling_showed = p.calling_showed ++ shown_in m.events;
  calling_told = p.calling_told ++ m.events;
}

-- ---- the lines of an act: those of its event, those of its end, and some that tell no units

module _ (ends : List EndAt) (system : ℕ) (own : List ℕ) (number : ℕ) (event : Event) (told : List EndEvent) (aside made : List JournalEvent) (is_aside : IsAside aside)
    (made_is : made ≡ first_of number event ++ (events_after ends system own told ++ aside)) where
  abbrev lines : List JournalEvent
  lines = events_after ends system own told

  pub lines_gave : (n : ℕ) → submitted n made ≡ submitted n (first_of number event)
  lines_gave n =
      ap (submitted n) made_is ∙ submitted_both n (first_of number event) (lines ++ aside)
      ∙ ap (λ (us : List Marked). submitted n (first_of number event) ++ us) (submitted_both n lines aside ∙ (λ i. lines_give_none system own n ends told i ++ (is_aside.units n).0 i))
      ∙ append-nil (submitted n (first_of number event))

  pub lines_showed : (n : ℕ) → shown n made ≡ shown n (events_after ends system own told)
  lines_showed n =
      ap (shown n) made_is ∙ shown_both n (first_of number event) (lines ++ aside) ∙ (λ i. first_shows_none n number event i ++ shown n (lines ++ aside))
      ∙ shown_both n lines aside ∙ ap (λ (us : List Marked). shown n lines ++ us) (is_aside.units n).1 ∙ append-nil (shown n lines)

-- ---- an entity did this, and these are its lines

pub record HasDone {C : Type 0} (link : C → Link (List ℕ)) (old new : World C) (made : List JournalEvent) : Type 0 where
  pub system : ℕ
  pub entity : Entity
  pub there : entity_at old.entities system ≡ Some entity
  pub acted : Acted
  pub kept : acted.entity.own ≡ entity.own
  pub entities : new.entities ≡ with_entity old.entities system acted.entity
  pub ends : new.ends ≡ ends_after old.ends system acted.events
  pub clock : (link new.carrier).clock ≡ (link old.carrier).clock
  pub showed : (n : ℕ) → shown n made ≡ shown n (events_after old.ends system entity.own acted.events)

-- two ends of the one system and reference are one
pub at_two : {C : Type 0} (last : World C) (x y system reference : ℕ) (e o : End) (a : Stands last x e) (b : Stands last y o) → (x ≡ y → ⊥) → system ≡ a.system → reference ≡ a.reference → system ≡ b.system
    → reference ≡ b.reference → ⊥
at_two {C} last x y system reference e o a b apart s r t q = apart (sym a.is_end.number ∙ (λ i. latest last.ends ((sym s ∙ t) i) ((sym r ∙ q) i)) ∙ b.is_end.number)

module _ {C : Type 0} (link : C → Link (List ℕ)) (journal : List JournalEvent) (old new : World C) (made : List JournalEvent) (a : HasDone link old new made) where
  gave_on : (n : ℕ) (units more : List Marked) → units ≡ submitted n journal → submitted n made ≡ more → units ++ more ≡ submitted n (journal ++ made)
  gave_on n units more is given = (λ i. is i ++ more) ∙ ap (λ (us : List Marked). submitted n journal ++ us) (sym given) ∙ sym (submitted_both n journal made)

  pub gave_same : (n : ℕ) (units : List Marked) → units ≡ submitted n journal → submitted n made ≡ [] → units ≡ submitted n (journal ++ made)
  gave_same n units is none = sym (append-nil units) ∙ gave_on n units [] is none

  showed_on : (n : ℕ) (units more : List Marked) → units ≡ shown n journal → shown n (events_after old.ends a.system a.entity.own a.acted.events) ≡ more → units ++ more ≡ shown n (journal ++ made)
  showed_on n units more is told = (λ i. is i ++ more) ∙ ap (λ (us : List Marked). shown n journal ++ us) (sym (a.showed n ∙ told)) ∙ sym (shown_both n journal made)

  showed_same : (n : ℕ) (units : List Marked) → units ≡ shown n journal → shown n (events_after old.ends a.system a.entity.own a.acted.events) ≡ [] → units ≡ shown n (journal ++ made)
  showed_same n units is told = sym (append-nil units) ∙ showed_on n units [] is told

  -- ---- two ends

  module _ (x y : ℕ) (mine theirs : End) (here : Stands old x mine) (there : Stands old y theirs) (live : IsLive mine.stage) (live_there : IsLive theirs.stage) (to_is : mine.base.to ≡ there.entity.own)
      (partner_is : mine.base.partner ≡ there.reference) where
    abbrev pub going_here : IsGoing old x
    going_here = record { system = here.system; reference = here.reference; entity = here.entity; end = mine; is_end = here.is_end; goes = live_goes mine.stage live }

    abbrev pub facing : AreFacing old x y
    facing = record {
      own = going_here;
      theirs = record { system = there.system; reference = there.reference; entity = there.entity; end = theirs; is_end = there.is_end; goes = live_goes theirs.stage live_there };
      to_is = to_is;
      partner_is = partner_is;
    }

    -- it is not of this end
    module _ (leaves : Leaves old x y facing a.system a.entity a.acted) where
      pub left_here : IsNow old new x mine mine here
      left_here = stands_now old new a.system a.entity a.acted a.there a.entities a.kept x mine mine here
          (ap (λ (es : List EndAt). latest es here.system here.reference) a.ends ∙ leaves.number) leaves.same (λ _. refl)

      none_more : sent_to here.system there.entity.own there.reference (posted a.system a.acted.tpdus) ≡ []
      none_more = by (a.system == here.system) refl
        where
          by : (b : Bool) → (a.system == here.system) ≡ b → sent_to here.system there.entity.own there.reference (posted a.system a.acted.tpdus) ≡ []
          by true is =
              let same : a.system ≡ here.system = eqb-true a.system here.system is in
              ap (λ (n : ℕ). sent_to here.system there.entity.own there.reference (posted n a.acted.tpdus)) same ∙ posted_none here.system there.entity.own there.reference a.acted.tpdus (leaves.none same)
          by false is = posted_elsewhere here.system there.entity.own there.reference a.system a.acted.tpdus (eqb-false a.system here.system is)

      pub left_side : (theirs_now : End) (th : IsNow old new y theirs theirs_now there) (posts : List Post) (waits : List Sent) (gave showed : List Marked) → IsSide journal old posts x y mine theirs here there waits gave showed
          → submitted x made ≡ [] → IsSide (journal ++ made) new (posts ++ posted a.system a.acted.tpdus) x y mine theirs_now left_here.stands th.stands waits gave showed
      left_side theirs_now th posts waits gave showed s none =
          subst (λ (l : List Sent). IsSide (journal ++ made) new (posts ++ posted a.system a.acted.tpdus) x y mine theirs_now left_here.stands th.stands l gave showed) (append-nil waits)
          (side_on journal (journal ++ made) old new posts a.system a.acted.tpdus x y mine theirs mine theirs_now here there waits gave showed s left_here th (record { own = refl; to = refl; partner = refl; agreed = refl })
          [] none_more tt
          (posted_each (IsForPartner here.system here.reference there.entity.own there.reference) a.system a.acted.tpdus
          (named_none a.system here.system here.reference there.reference there.entity.own a.acted.tpdus leaves.named))
          gave showed (gave_same x gave s.gave_is none) (showed_same x showed s.showed_is leaves.showed))

    -- it is a row of this end
    module _ (titles : List (List ℕ)) (timers : Timers) (w : Whole) (explains : Explains link titles timers w journal old) (event : Event) (by : IsFromPartner mine.base event) (at_it : a.system ≡ here.system)
        (stands : end_at a.acted.entity here.reference ≡ Some (end_of (stepped whole (link old.carrier).clock mine event)))
        (events_are : a.acted.events ≡ (stepped whole (link old.carrier).clock mine event).events) (tpdus_are : a.acted.tpdus ≡ (stepped whole (link old.carrier).clock mine event).tpdus) where
      abbrev m : Moved
      m = stepped whole (link old.carrier).clock mine event

      entity_is : a.entity ≡ here.entity
      entity_is = same_Some a.entity here.entity (sym a.there ∙ ap (entity_at old.entities) at_it ∙ here.is_end.there)

      pub speaks : Speaks mine.base m
      speaks = row_says link titles timers w journal old explains x going_here event live by

      pub did_here : IsNow old new x mine (end_of m) here
      did_here = stands_now old new a.system a.entity a.acted a.there a.entities a.kept x mine (end_of m) here
          (ap (λ (es : List EndAt). latest es here.system here.reference) a.ends
          ∙ (λ i. latest (ends_after old.ends (at_it i) (events_are i)) here.system here.reference)
          ∙ row_number link titles timers w journal old explains x going_here event)
          (λ _. stands) (λ other. absurd (other at_it))

      to_partner : AllByRecursion (IsSentTo there.entity.own there.reference) m.tpdus
      to_partner = each_all (IsSpoken mine.base) (IsSentTo there.entity.own there.reference) m.tpdus
          (λ (s : Sent) spoken. record { address = spoken.to ∙ to_is; target = spoken.target ∙ ap (λ (n : ℕ). Some n) partner_is }) speaks.tpdus

      more_is : sent_to here.system there.entity.own there.reference (posted a.system a.acted.tpdus) ≡ m.tpdus
      more_is = (λ i. sent_to here.system there.entity.own there.reference (posted (at_it i) (tpdus_are i))) ∙ posted_all here.system there.entity.own there.reference m.tpdus to_partner

      told : shown x (events_after old.ends a.system a.entity.own a.acted.events) ≡ shown_in m.events
      told = (λ i. shown x (events_after old.ends (at_it i) (entity_is i).own (events_are i))) ∙ row_showed link titles timers w journal old explains x going_here event

      pub did_side : (theirs_now : End) (th : IsNow old new y theirs theirs_now there) (posts : List Post) (waits : List Sent) (gave showed gave_now : List Marked) → IsSide journal old posts x y mine theirs here there waits gave showed
          → gave_now ≡ submitted x (journal ++ made)
          → IsSide (journal ++ made) new (posts ++ posted a.system a.acted.tpdus) x y (end_of m) theirs_now did_here.stands th.stands (waits ++ m.tpdus) gave_now (showed ++ shown_in m.events)
      did_side theirs_now th posts waits gave showed gave_now s gave_is =
          side_on journal (journal ++ made) old new posts a.system a.acted.tpdus x y mine theirs (end_of m) theirs_now here there waits gave showed s did_here th speaks.keeps m.tpdus more_is speaks.tpdus
          (posted_each (IsForPartner here.system here.reference there.entity.own there.reference) a.system a.acted.tpdus
          (subst (λ (l : List Sent). AllByRecursion (λ (s : Sent). IsForPartner here.system here.reference there.entity.own there.reference (record { system = a.system; sent = s })) l) (sym tpdus_are)
          (each_all (IsSentTo there.entity.own there.reference) (λ (s : Sent). IsForPartner here.system here.reference there.entity.own there.reference (record { system = a.system; sent = s })) m.tpdus
          (λ (s : Sent) is at names. is) to_partner)))
          gave_now (showed ++ shown_in m.events) gave_is (showed_on x showed (shown_in m.events) s.showed_is told)

  -- ---- the pair

  module _ (posts : List Post) (x y : ℕ) (p : Pair) (f : IsFollowed link journal old posts x y p) (live : IsLive p.calling.stage) (live_there : IsLive p.called.stage) where
    abbrev pub posts_now : List Post
    posts_now = posts ++ posted a.system a.acted.tpdus

    abbrev pub facing_calling : AreFacing old x y
    facing_calling = facing x y p.calling p.called f.calling f.called live live_there f.forth.to_is f.forth.partner_is

    abbrev pub facing_called : AreFacing old y x
    facing_called = facing y x p.called p.calling f.called f.calling live_there live f.back.to_is f.back.partner_is

    sourced_on : AllByRecursion (λ (sent : Sent). HasSource (seen 0 sent.tpdu)) a.acted.tpdus → AllByRecursion HasCcSource posts_now
    sourced_on all = all_both HasCcSource posts (posted a.system a.acted.tpdus) f.sourced (posted_each HasCcSource a.system a.acted.tpdus all)

    -- neither sees anything of it
    pub beside : Leaves old x y facing_calling a.system a.entity a.acted → Leaves old y x facing_called a.system a.entity a.acted → submitted x made ≡ [] → submitted y made ≡ []
        → IsFollowed link (journal ++ made) new posts_now x y p
    beside mine theirs none none_there =
        let here = left_here x y p.calling p.called f.calling f.called live live_there f.forth.to_is f.forth.partner_is mine in
        let there = left_here y x p.called p.calling f.called f.calling live_there live f.back.to_is f.back.partner_is theirs in
        record {
          calling = here.stands;
          called = there.stands;
          forth = left_side x y p.calling p.called f.calling f.called live live_there f.forth.to_is f.forth.partner_is mine p.called there posts p.forth p.calling_gave p.calling_showed f.forth none;
          back = left_side y x p.called p.calling f.called f.calling live_there live f.back.to_is f.back.partner_is theirs p.calling here posts p.back p.called_gave p.called_showed f.back none_there;
          apart = f.apart;
          format = f.format;
          clock = f.clock ∙ sym a.clock;
          sourced = sourced_on mine.sourced;
        }

    -- it is a row of the calling end
    module _ (titles : List (List ℕ)) (timers : Timers) (w : Whole) (explains : Explains link titles timers w journal old) (event : Event) (by : IsFromPartner p.calling.base event) (at_it : a.system ≡ f.calling.system)
        (stands : end_at a.acted.entity f.calling.reference ≡ Some (end_of (stepped whole (link old.carrier).clock p.calling event)))
        (events_are : a.acted.events ≡ (stepped whole (link old.carrier).clock p.calling event).events) (tpdus_are : a.acted.tpdus ≡ (stepped whole (link old.carrier).clock p.calling event).tpdus)
        (leaves : Leaves old y x facing_called a.system a.entity a.acted) (units : List Marked) (gave : submitted x made ≡ units) (none : submitted y made ≡ []) where
      pub calling_did : IsFollowed link (journal ++ made) new posts_now x y (calling_does p (stepped whole (link old.carrier).clock p.calling event) units)
      calling_did =
          let did = did_here x y p.calling p.called f.calling f.called live live_there f.forth.to_is f.forth.partner_is titles timers w explains event by at_it stands events_are tpdus_are in
          let left = left_here y x p.called p.calling f.called f.calling live_there live f.back.to_is f.back.partner_is leaves in
          let says = speaks x y p.calling p.called f.calling f.called live live_there f.forth.to_is f.forth.partner_is titles timers w explains event by at_it stands events_are tpdus_are in
          record {
            calling = did.stands;
            called = left.stands;
            forth = did_side x y p.calling p.called f.calling f.called live live_there f.forth.to_is f.forth.partner_is titles timers w explains event by at_it stands events_are tpdus_are p.called left posts p.forth p.calling_gave
                p.calling_showed (p.calling_gave ++ units) f.forth (gave_on x p.calling_gave units f.forth.gave_is gave);
            back = left_side y x p.called p.calling f.called f.calling live_there live f.back.to_is f.back.partner_is leaves (end_of (stepped whole (link old.carrier).clock p.calling event)) did posts p.back p.called_gave
                p.called_showed f.back none;
            apart = f.apart;
            format = ap agreed_format says.keeps.agreed ∙ f.format;
            clock = f.clock ∙ sym a.clock;
            sourced = sourced_on leaves.sourced;
          }
