-- What waits first is handed over, whatever else waits: the end that it is for takes it, or neither of two ends that face each other sees anything of it.
use Rattle.std.proofs.Common.{◌≡◌, ◌⊎◌, inl, inr, ℕ, ◌==◌, Bool, true, false, List, [], ◌∷◌, ◌++◌, Some, refl, sym, ◌∙◌, ap, subst}
use Rattle.std.specs.Prelude.{◌&&◌}
use Rattle.std.specs.List.{AllByRecursion}
use Rattle.std.proofs.lemmas.Bool.{eq-eqb, eqb-true}
use Rattle.std.proofs.lemmas.Option.{same_Some}
use Rattle.osi_base.specs.Link.{Link}
use Rattle.osi_base.proofs.Members.{all_both}
use Rattle.script_journal.specs.Lawful.{Marked, shown, submitted}
use Rattle.script_journal.specs.declared.event.Event.{Event as JournalEvent}
use Rattle.tpdu.specs.Kinds.{has_number}
use Rattle.tpdu.specs.Values.{destination_of, format_for}
use Rattle.tpdu.specs.Writing.{kind_for}
use Rattle.tpdu.specs.declared.tpdu.Tpdu.{Tpdu as WireTpdu}
use Rattle.tpdu.specs.declared.tpdu.Tpdu.TheVariants as wires
use Rattle.tp4_number.specs.Number.{whole}
use Rattle.tp4_flow.specs.declared.step.Sent.{Sent}
use Rattle.tp4_flow.specs.declared.step.What.TheVariants.{BadTpdu, Silent}
use Rattle.tp4_conn.specs.End.{End, Moved, agreed_format, end_of}
use Rattle.tp4_conn.specs.Matching.{is_source}
use Rattle.tp4_conn.specs.Proper.{IsSendable}
use Rattle.tp4_conn.specs.Table.{Took, stepped}
use Rattle.tp4_conn.specs.declared.end_record.EndRecord.{EndRecord}
use Rattle.tp4_conn.specs.declared.timers.Timers.{Timers}
use Rattle.tp4_entity.specs.Association.{met}
use Rattle.tp4_entity.specs.Entity.{Acted, Entity, at, end_at, moved}
use Rattle.tp4_entity.specs.Silence.{is_silent}
use Rattle.tp4_entity.specs.Unit.{TakesUnit, extended_of}
use Rattle.tp4_entity.specs.steps.Places.{format_of}
use Rattle.tp4_entity.proofs.Formats.{format_is}
use Rattle.tp4_entity.proofs.Standings.{within}
use Rattle.law_tp4_history.specs.Tracks.{Whole}
use Rattle.law_tp4_history.specs.Lines.{shown_in}
use Rattle.law_tp4_history.specs.Moves.{HasSource}
use Rattle.law_tp4_history.specs.Seen.{seen}
use Rattle.law_tp4_pair.specs.Pair.{Comes_back, Comes_forth, Happening, Leads, Pair, comes_back, comes_forth}
use Rattle.tp4_world.specs.Telling.{ends_after, events_after}
use Rattle.tp4_world.specs.World.{World, entity_at, latest, with_entity}
use Rattle.law_tp4_lawful.proofs.Known.{IsReadAs}
use Rattle.law_tp4_lawful.proofs.Worlds.{Explains}
use Rattle.law_tp4_lawful.proofs.MakesPlaces.{at_same}
use Rattle.law_tp4_associations.proofs.EndedWorlds.{IsFitWorld}
use Rattle.law_calm_run.proofs.Hall.{Post, posted}
use Rattle.law_recovery_run.specs.Aside.{AreFacing, IsSentTo, Names}
use Rattle.law_recovery_run.specs.Rivals.{IsGoing}
use Rattle.law_recovery_run.proofs.Aiming.{Going}
use Rattle.law_recovery_run.specs.Following.{HasCcSource, IsBy, IsFollowed, IsForPartner, IsHeard, IsLive, IsSide, Speaks, Stands, is_sent_to}
use Rattle.law_recovery_run.specs.Settling.{IsHandedOver}
use Rattle.law_recovery_run.proofs.Doing as does
use Rattle.law_recovery_run.proofs.Doing.{HasDone, live_goes}
use Rattle.law_recovery_run.proofs.Leaving.{Leaves, met_leaves, nothing_leaves}
use Rattle.law_recovery_run.proofs.Sides.{IsFirst, IsNow, drop_other, drop_this}
use Rattle.law_recovery_run.proofs.Taking.{met_takes, own_is, sum_same}
use Rattle.law_recovery_run.proofs.Waiting.{both_parts, posted_each, sent_there, there_sent}

is_source_by : (b : EndRecord) (own : ℕ) (t : WireTpdu) → own ≡ b.partner → IsBy own t → is_source b t ≡ true
is_source_by b own (wires.Cc credit destination source width calling called size preferred extra version classes ack_time text) is by = eq-eqb source b.partner (by ∙ is)
is_source_by b own (wires.Dr destination source reason info text) is by = eq-eqb source b.partner (by ∙ is)
is_source_by b own (wires.Dc destination source) is by = eq-eqb source b.partner (by ∙ is)
is_source_by b own other is by = refl

-- a TPDU that has a number names no end and is no CC
no_number : (t : WireTpdu) (r : ℕ) → Names r t → has_number (kind_for t) ≡ false
no_number (wires.Cr credit source width calling called size preferred extra version classes ack_time text) r names = refl
no_number (wires.Cc credit destination source width calling called size preferred extra version classes ack_time text) r names = refl
no_number (wires.Dr destination source reason info text) r names = refl
no_number other r names = absurd names

no_cc : (t : WireTpdu) → has_number (kind_for t) ≡ true → HasSource (seen 0 t)
no_cc (wires.Dt destination last number text) has = λ kind. absurd (cc kind)
no_cc (wires.Ed destination last number text) has = λ kind. absurd (cc kind)
no_cc (wires.Ak destination number credit subsequence confirmation) has = λ kind. absurd (cc kind)
no_cc (wires.Ea destination number) has = λ kind. absurd (cc kind)
no_cc other has = absurd (cc has)

-- as it is read, it names whom it named
pub read_names : (entity : Entity) (sent : Sent) (t : WireTpdu) (sum : Bool) (r : ℕ) → IsReadAs entity sent (t, sum) → Names r t → Names r sent.tpdu
read_names entity sent t sum r read names = subst (Names r) (read.control (ap has_number (sym read.kind) ∙ no_number t r names)) names

pub read_sourced : (entity : Entity) (sent : Sent) (t : WireTpdu) (sum : Bool) → IsReadAs entity sent (t, sum) → HasSource (seen 0 sent.tpdu) → HasSource (seen 0 t)
read_sourced entity sent t sum read has = by (has_number (kind_for sent.tpdu)) refl
  where
    by : (b : Bool) → has_number (kind_for sent.tpdu) ≡ b → HasSource (seen 0 t)
    by true is = no_cc t (ap has_number read.kind ∙ is)
    by false is = subst (λ (u : WireTpdu). HasSource (seen 0 u)) (sym (read.control is)) has

-- the happenings at another tick
abbrev comes_back_at : ℕ → Pair → List Sent → Pair
comes_back_at now p [] = p
comes_back_at now p (sent ∷ rest) = let m = stepped whole now p.calling (Took sent.tpdu sent.sum) in record p {
  calling = end_of m;
  back = rest;
  forth = p.forth ++ m.tpdus;
  calling_showed = p.calling_showed ++ shown_in m.events;
  calling_told = p.calling_told ++ m.events;
}

abbrev comes_forth_at : ℕ → Pair → List Sent → Pair
comes_forth_at now p [] = p
comes_forth_at now p (sent ∷ rest) = let m = stepped whole now p.called (Took sent.tpdu sent.sum) in record p {
  called = end_of m;
  forth = rest;
  back = p.back ++ m.tpdus;
  called_showed = p.called_showed ++ shown_in m.events;
  called_told = p.called_told ++ m.events;
}

-- the entity of a system heard what waited first, and this came of it
pub record HasActed {C : Type 0} (link : C → Link (List ℕ)) (old new : World C) (post : Post) (made : List JournalEvent) : Type 0 where
  pub system : ℕ
  pub entity : Entity
  pub there : entity_at old.entities system ≡ Some entity
  pub own_is : entity.own ≡ post.sent.to
  pub sender : Entity
  pub sender_there : entity_at old.entities post.system ≡ Some sender
  pub acted : Acted
  pub octets : List ℕ
  pub takes : TakesUnit whole (link old.carrier).clock entity sender.own octets acted
  pub heard : IsHeard (link old.carrier).clock entity sender.own post.sent acted
  pub kept : acted.entity.own ≡ entity.own
  pub sendable : IsSendable post.sent
  pub entities : new.entities ≡ with_entity old.entities system acted.entity
  pub ends : new.ends ≡ ends_after old.ends system acted.events
  pub clock : (link new.carrier).clock ≡ (link old.carrier).clock
  pub gave : (n : ℕ) → submitted n made ≡ []
  pub showed : (n : ℕ) → shown n made ≡ shown n (events_after old.ends system entity.own acted.events)

module _ {C : Type 0} (link : C → Link (List ℕ)) (titles : List (List ℕ)) (timers : Timers) (w : Whole) (journal : List JournalEvent) (old : World C) (explains : Explains link titles timers w journal old)
    (fit : IsFitWorld link old) (going : Going) (new : World C) (post : Post) (rest : List Post) (made : List JournalEvent) (a : HasActed link old new post made) (sourced : HasSource (seen 0 post.sent.tpdu)) where
  abbrev now : ℕ
  now = (link old.carrier).clock

  abbrev t : WireTpdu
  t = post.sent.tpdu

  -- what it did
  abbrev done : HasDone link old new made
  done = record {
    system = a.system;
    entity = a.entity;
    there = a.there;
    acted = a.acted;
    kept = a.kept;
    entities = a.entities;
    ends = a.ends;
    clock = a.clock;
    showed = a.showed;
  }

  -- ---- two ends

  module _ (x y : ℕ) (mine theirs : End) (here : Stands old x mine) (there : Stands old y theirs) (live : IsLive mine.stage) (live_there : IsLive theirs.stage) (apart : x ≡ y → ⊥)
      (waits : List Sent) (gave showed : List Marked) (ours : IsSide journal old (post ∷ rest) x y mine theirs here there waits gave showed) where
    abbrev pub going_here : IsGoing old x
    going_here = record { system = here.system; reference = here.reference; entity = here.entity; end = mine; is_end = here.is_end; goes = live_goes mine.stage live }

    abbrev pub facing : AreFacing old x y
    facing = does.facing link journal old new made done x y mine theirs here there live live_there ours.to_is ours.partner_is

    -- two places are two
    pub two_places : here.system ≡ there.system → here.reference ≡ there.reference → ⊥
    two_places s r = apart (sym here.is_end.number ∙ (λ i. latest old.ends (s i) (r i)) ∙ there.is_end.number)

    -- ---- what comes is not for this end from that one

    module _ (leaves : Leaves old x y facing a.system a.entity a.acted) where
      abbrev left_here : IsNow old new x mine mine here
      left_here = does.left_here link journal old new made done x y mine theirs here there live live_there ours.to_is ours.partner_is leaves

      -- what waited from it, less the first where that was from it
      left_side : (theirs_now : End) (th : IsNow old new y theirs theirs_now there) (left : List Sent) → IsSide journal old rest x y mine theirs here there left gave showed
          → IsSide (journal ++ made) new (rest ++ posted a.system a.acted.tpdus) x y mine theirs_now left_here.stands th.stands left gave showed
      left_side theirs_now th left s = does.left_side link journal old new made done x y mine theirs here there live live_there ours.to_is ours.partner_is leaves theirs_now th rest left gave showed s (a.gave x)

    -- ---- it is for this end from that one

    module _ (their_waits : List Sent) (their_gave their_showed : List Marked) (others : IsSide journal old (post ∷ rest) y x theirs mine there here their_waits their_gave their_showed)
        (format : agreed_format theirs.base.agreed ≡ agreed_format mine.base.agreed) (from_there : post.system ≡ there.system) (sent : IsSentTo here.entity.own here.reference post.sent) where
      abbrev m : Moved
      m = stepped whole now mine (Took post.sent.tpdu post.sent.sum)

      first : IsFirst journal old post rest y x theirs mine there here their_waits their_gave their_showed others
      first = drop_this journal old post rest y x theirs mine there here their_waits their_gave their_showed others from_there sent

      at_it : a.system ≡ here.system
      at_it = explains.known.apart a.system here.system a.entity here.entity a.there here.is_end.there (a.own_is ∙ sent.address)

      entity_is : a.entity ≡ here.entity
      entity_is = same_Some a.entity here.entity (sym a.there ∙ ap (entity_at old.entities) at_it ∙ here.is_end.there)

      sender_is : a.sender ≡ there.entity
      sender_is = same_Some a.sender there.entity (sym a.sender_there ∙ ap (entity_at old.entities) from_there ∙ there.is_end.there)

      read_in : format_for (extended_of a.entity) (destination_of post.sent.tpdu) ≡ post.sent.format
      read_in =
          ap (format_for (extended_of a.entity)) sent.target ∙ ap (λ (e : Entity). format_for (extended_of e) (Some here.reference)) entity_is ∙ format_is here.entity here.reference ∙ ap format_of here.is_end.stands
          ∙ sym format ∙ sym first.spoken.format

      -- an entity at which an end stands is not silent
      awake : is_silent now a.entity ≡ false
      awake = (fit a.system a.entity a.there).audible here.reference mine (ap (λ (e : Entity). end_at e here.reference) entity_is ∙ here.is_end.stands)

      their_own : theirs.base.own ≡ there.reference
      their_own = own_is link titles timers w journal old explains y facing.theirs (Took post.sent.tpdu post.sent.sum)

      by : is_source mine.base t ≡ true
      by = is_source_by mine.base theirs.base.own t (their_own ∙ sym ours.partner_is) first.spoken.source

      acted_is_read : a.acted ≡ met whole now (at now a.entity) a.sender.own (t, post.sent.sum)
      acted_is_read = a.heard.as_sent awake (inr read_in) ∙ ap (λ (b : Bool). met whole now (at now a.entity) a.sender.own (t, b)) (sum_same t here.reference post.sent.sum sent.target)

      acted_is : a.acted ≡ moved (at now here.entity) here.reference m
      acted_is =
          acted_is_read ∙ ap (λ (e : Entity). met whole now (at now e) a.sender.own (t, post.sent.sum)) entity_is
          ∙ met_takes now x old going_here a.sender.own t post.sent.sum live sent.target (ours.to_is ∙ ap (λ (e : Entity). e.own) (sym sender_is)) by

      stands_so : end_at a.acted.entity here.reference ≡ Some (end_of m)
      stands_so =
          let inside = within here.entity here.reference mine here.is_end.stands in
          ap (λ (z : Acted). end_at z.entity here.reference) acted_is ∙ at_same (at now here.entity) here.reference (Some (end_of m)) inside.least inside.most

      speaks : Speaks mine.base m
      speaks = does.speaks link journal old new made done x y mine theirs here there live live_there ours.to_is ours.partner_is titles timers w explains (Took post.sent.tpdu post.sent.sum) by at_it stands_so (ap (λ (z : Acted). z.events) acted_is) (ap (λ (z : Acted). z.tpdus) acted_is)

      -- it goes on by its row
      abbrev took_here : IsNow old new x mine (end_of m) here
      took_here = does.did_here link journal old new made done x y mine theirs here there live live_there ours.to_is ours.partner_is titles timers w explains (Took post.sent.tpdu post.sent.sum) by at_it stands_so (ap (λ (z : Acted). z.events) acted_is) (ap (λ (z : Acted). z.tpdus) acted_is)

      took_side : (th : IsNow old new y theirs theirs there)
          → IsSide (journal ++ made) new (rest ++ posted a.system a.acted.tpdus) x y (end_of m) theirs took_here.stands th.stands (waits ++ m.tpdus) gave (showed ++ shown_in m.events)
      took_side th =
          let s = drop_other journal old post rest x y mine theirs here there waits gave showed ours
          (λ at it. two_places (sym at ∙ from_there) (same_Some here.reference there.reference (sym sent.target ∙ it.target))) in
          does.did_side link journal old new made done x y mine theirs here there live live_there ours.to_is ours.partner_is titles timers w explains (Took post.sent.tpdu post.sent.sum) by at_it stands_so (ap (λ (z : Acted). z.events) acted_is) (ap (λ (z : Acted). z.tpdus) acted_is)
          theirs th rest waits gave showed gave s (does.gave_same link journal old new made done x gave s.gave_is (a.gave x))

    -- ---- it is not for this end from that one

    module _ (not_for : post.system ≡ there.system → IsSentTo here.entity.own here.reference post.sent → ⊥) (named_first : IsForPartner there.system there.reference here.entity.own here.reference post) where
      of_there : a.sender.own ≡ there.entity.own → post.system ≡ there.system
      of_there own = explains.known.apart post.system there.system a.sender there.entity a.sender_there there.is_end.there own

      to_here : a.system ≡ here.system → post.sent.to ≡ here.entity.own
      to_here at_here = sym a.own_is ∙ ap (λ (e : Entity). e.own) (same_Some a.entity here.entity (sym a.there ∙ ap (entity_at old.entities) at_here ∙ here.is_end.there))

      pub leaves_it : Leaves old x y facing a.system a.entity a.acted
      leaves_it = elim a.heard.any [
        | inl r ↦
            subst (Leaves old x y facing a.system a.entity) (sym r.2)
            (met_leaves link titles timers w journal old explains going x y facing a.system a.entity a.there a.sender.own r.0 r.1
            (λ at_here from target. not_for (of_there from) (record { address = to_here at_here; target = sym r.3.target ∙ target }))
            (λ at_here from names. not_for (of_there from) (named_first (of_there from) (read_names a.entity post.sent r.0 r.1 there.reference r.3 names)))
            r.3.allowed (read_sourced a.entity post.sent r.0 r.1 r.3 sourced))
        | inr (inl bad) ↦
            subst (Leaves old x y facing a.system a.entity) (sym bad.2)
            (nothing_leaves link titles timers w journal old explains going x y facing a.system a.entity a.there (record { reference = 0; what = BadTpdu bad.0 bad.1 } ∷ []) refl refl)
        | inr (inr silent) ↦
            subst (Leaves old x y facing a.system a.entity) (sym silent)
            (nothing_leaves link titles timers w journal old explains going x y facing a.system a.entity a.there (record { reference = 0; what = Silent } ∷ []) refl refl)
      ]

  -- ---- the pair

  abbrev posts_now : List Post
  posts_now = rest ++ posted a.system a.acted.tpdus

  -- the pair went on by what came, or stands as it stood
  pub record HasComeOn (x y : ℕ) (p : Pair) : Type 0 where
    pub happenings : List Happening
    pub next : Pair
    pub leads : Leads p happenings next
    pub handed : AllByRecursion IsHandedOver happenings
    pub clock : next.clock ≡ p.clock
    pub followed : IsFollowed link (journal ++ made) new (rest ++ posted a.system a.acted.tpdus) x y next

  module _ (x y : ℕ) (p : Pair) (f : IsFollowed link journal old (post ∷ rest) x y p) (live : IsLive p.calling.stage) (live_there : IsLive p.called.stage) where
    swapped : y ≡ x → ⊥
    swapped same = f.apart (sym same)

    abbrev ForCalling : Type 0
    ForCalling = (post.system ≡ f.called.system) × IsSentTo f.calling.entity.own f.calling.reference post.sent

    abbrev ForCalled : Type 0
    ForCalled = (post.system ≡ f.calling.system) × IsSentTo f.called.entity.own f.called.reference post.sent

    leaves_calling : (ForCalling → ⊥) → Leaves old x y (facing x y p.calling p.called f.calling f.called live live_there f.apart p.forth p.calling_gave p.calling_showed f.forth) a.system a.entity a.acted
    leaves_calling none = leaves_it x y p.calling p.called f.calling f.called live live_there f.apart p.forth p.calling_gave p.calling_showed f.forth (λ from sent. none (from, sent)) f.back.named.0

    leaves_called : (ForCalled → ⊥) → Leaves old y x (facing y x p.called p.calling f.called f.calling live_there live swapped p.back p.called_gave p.called_showed f.back) a.system a.entity a.acted
    leaves_called none = leaves_it y x p.called p.calling f.called f.calling live_there live swapped p.back p.called_gave p.called_showed f.back (λ from sent. none (from, sent)) f.forth.named.0

    all_sourced : AllByRecursion (λ (sent : Sent). HasSource (seen 0 sent.tpdu)) a.acted.tpdus → AllByRecursion HasCcSource posts_now
    all_sourced all = all_both HasCcSource rest (posted a.system a.acted.tpdus) f.sourced.1 (posted_each HasCcSource a.system a.acted.tpdus all)

    one_only : ForCalling → ForCalled → ⊥
    one_only one other =
        two_places x y p.calling p.called f.calling f.called live live_there f.apart p.forth p.calling_gave p.calling_showed f.forth (sym other.0 ∙ one.0)
        (same_Some f.calling.reference f.called.reference (sym one.1.target ∙ other.1.target))

    -- the calling end takes it
    taken_back : ForCalling → HasComeOn x y p
    taken_back h =
        let leaves = leaves_called (λ other. one_only h other) in
        let format : agreed_format p.called.base.agreed ≡ agreed_format p.calling.base.agreed = sym f.format in
        let head = first x y p.calling p.called f.calling f.called live live_there f.apart p.forth p.calling_gave p.calling_showed f.forth p.back p.called_gave p.called_showed f.back format h.0 h.1 in
        let th : IsNow old new y p.called p.called f.called =
        left_here y x p.called p.calling f.called f.calling live_there live swapped p.back p.called_gave p.called_showed f.back leaves in
        let took = took_here x y p.calling p.called f.calling f.called live live_there f.apart p.forth p.calling_gave p.calling_showed f.forth p.back p.called_gave p.called_showed f.back format h.0 h.1 in
        let keeps = speaks x y p.calling p.called f.calling f.called live live_there f.apart p.forth p.calling_gave p.calling_showed f.forth p.back p.called_gave p.called_showed f.back format h.0 h.1 in
        record {
          happenings = Comes_back ∷ [];
          next = comes_back p (post.sent ∷ head.left);
          leads = (tt, ap (comes_back p) (sym head.waits_are));
          handed = (inr refl, tt);
          clock = refl;
          followed = subst (λ (n : ℕ). IsFollowed link (journal ++ made) new posts_now x y (comes_back_at n p (post.sent ∷ head.left))) (sym f.clock)
              (record {
                calling = took.stands;
                called = th.stands;
                forth = took_side x y p.calling p.called f.calling f.called live live_there f.apart p.forth p.calling_gave p.calling_showed f.forth p.back p.called_gave p.called_showed f.back format h.0 h.1 th;
                back = left_side y x p.called p.calling f.called f.calling live_there live swapped p.back p.called_gave p.called_showed f.back leaves
                    (end_of (stepped whole now p.calling (Took post.sent.tpdu post.sent.sum))) took head.left head.side;
                apart = f.apart;
                format = ap agreed_format keeps.keeps.agreed ∙ f.format;
                clock = f.clock ∙ sym a.clock;
                sourced = all_sourced leaves.sourced;
              });
        }

    -- the called end takes it
    taken_forth : ForCalled → HasComeOn x y p
    taken_forth h =
        let leaves = leaves_calling (λ other. one_only other h) in
        let format : agreed_format p.calling.base.agreed ≡ agreed_format p.called.base.agreed = f.format in
        let head = first y x p.called p.calling f.called f.calling live_there live swapped p.back p.called_gave p.called_showed f.back p.forth p.calling_gave p.calling_showed f.forth format h.0 h.1 in
        let th : IsNow old new x p.calling p.calling f.calling =
        left_here x y p.calling p.called f.calling f.called live live_there f.apart p.forth p.calling_gave p.calling_showed f.forth leaves in
        let took = took_here y x p.called p.calling f.called f.calling live_there live swapped p.back p.called_gave p.called_showed f.back p.forth p.calling_gave p.calling_showed f.forth format h.0 h.1 in
        let keeps = speaks y x p.called p.calling f.called f.calling live_there live swapped p.back p.called_gave p.called_showed f.back p.forth p.calling_gave p.calling_showed f.forth format h.0 h.1 in
        record {
          happenings = Comes_forth ∷ [];
          next = comes_forth p (post.sent ∷ head.left);
          leads = (tt, ap (comes_forth p) (sym head.waits_are));
          handed = (inl refl, tt);
          clock = refl;
          followed = subst (λ (n : ℕ). IsFollowed link (journal ++ made) new posts_now x y (comes_forth_at n p (post.sent ∷ head.left))) (sym f.clock)
              (record {
                calling = th.stands;
                called = took.stands;
                forth = left_side x y p.calling p.called f.calling f.called live live_there f.apart p.forth p.calling_gave p.calling_showed f.forth leaves
                    (end_of (stepped whole now p.called (Took post.sent.tpdu post.sent.sum))) took head.left head.side;
                back = took_side y x p.called p.calling f.called f.calling live_there live swapped p.back p.called_gave p.called_showed f.back p.forth p.calling_gave p.calling_showed f.forth format h.0 h.1 th;
                apart = f.apart;
                format = f.format ∙ sym (ap agreed_format keeps.keeps.agreed);
                clock = f.clock ∙ sym a.clock;
                sourced = all_sourced leaves.sourced;
              });
        }

    -- neither
    taken_aside : (ForCalling → ⊥) → (ForCalled → ⊥) → HasComeOn x y p
    taken_aside not_back not_forth =
        let mine = leaves_calling not_back in
        let theirs = leaves_called not_forth in
        let here = left_here x y p.calling p.called f.calling f.called live live_there f.apart p.forth p.calling_gave p.calling_showed f.forth mine in
        let there = left_here y x p.called p.calling f.called f.calling live_there live swapped p.back p.called_gave p.called_showed f.back theirs in
        record {
          happenings = [];
          next = p;
          leads = refl;
          handed = tt;
          clock = refl;
          followed = record {
            calling = here.stands;
            called = there.stands;
            forth = left_side x y p.calling p.called f.calling f.called live live_there f.apart p.forth p.calling_gave p.calling_showed f.forth mine p.called there p.forth
                (drop_other journal old post rest x y p.calling p.called f.calling f.called p.forth p.calling_gave p.calling_showed f.forth (λ at sent. not_forth (at, sent)));
            back = left_side y x p.called p.calling f.called f.calling live_there live swapped p.back p.called_gave p.called_showed f.back theirs p.calling here p.back
                (drop_other journal old post rest y x p.called p.calling f.called f.calling p.back p.called_gave p.called_showed f.back (λ at sent. not_back (at, sent)));
            apart = f.apart;
            format = f.format;
            clock = f.clock ∙ sym a.clock;
            sourced = all_sourced mine.sourced;
          };
        }

    -- which of these
    is_for : (system : ℕ) (to : List ℕ) (reference : ℕ) → ((post.system ≡ system) × IsSentTo to reference post.sent) ⊎ ((post.system ≡ system) × IsSentTo to reference post.sent → ⊥)
    is_for system to reference = by (post.system == system && is_sent_to to reference post.sent) refl
      where
        by : (b : Bool) → (post.system == system && is_sent_to to reference post.sent) ≡ b → ((post.system ≡ system) × IsSentTo to reference post.sent) ⊎ ((post.system ≡ system) × IsSentTo to reference post.sent → ⊥)
        by true is = let both = both_parts (post.system == system) (is_sent_to to reference post.sent) is in inl (eqb-true post.system system both.0, there_sent to reference post.sent both.1)
        by false is = inr (λ h. absurd (differ (sym is ∙ ap (λ (b : Bool). b && is_sent_to to reference post.sent) (eq-eqb post.system system h.0) ∙ sent_there to reference post.sent h.1)))
          where
            differ : false ≡ true → ⊥
            differ e = cc e

    pub handed_over : HasComeOn x y p
    handed_over = elim (is_for f.called.system f.calling.entity.own f.calling.reference) [
      | inl back ↦ taken_back back
      | inr not_back ↦ elim (is_for f.calling.system f.called.entity.own f.called.reference) [
        | inl forth ↦ taken_forth forth
        | inr not_forth ↦ taken_aside not_back not_forth
      ]
    ]
