-- The entity that takes what waits first is that of the other end's system, and it reads the TPDU as it was sent: so what comes of it is what the
-- associations have to hand over.
use Rattle.std.proofs.Common.{◌≡◌, ℕ, Bool, true, false, not, ◌||◌, List, [], ◌∷◌, ◌++◌, Some, refl, sym, ◌∙◌, ap, subst, inl, inr}
use Rattle.std.specs.Prelude.{Option, unwrap_or}
use Rattle.script_journal.specs.declared.event.Event.{Event}
use Rattle.tpdu.specs.Kinds.{has_number}
use Rattle.tpdu.specs.Values.{format_for}
use Rattle.tpdu.specs.Writing.{is_summed, kind_for}
use Rattle.tpdu.specs.declared.tpdu.Tpdu.{Tpdu}
use Rattle.tpdu.specs.declared.tpdu.Tpdu.TheVariants.{Cr, Cc, Dr, Dc, Dt, Ed, Ak, Ea, Er}
use Rattle.tp4_number.specs.Number.{whole}
use Rattle.tp4_flow.specs.declared.step.Sent.{Sent}
use Rattle.tp4_conn.specs.declared.timers.Timers.{Timers}
use Rattle.tp4_entity.specs.Association.{met}
use Rattle.tp4_entity.specs.Entity.{Entity, at}
use Rattle.tp4_entity.specs.Unit.{extended_of}
use Rattle.tp4_entity.specs.steps.Places.{format_of}
use Rattle.tp4_entity.proofs.Formats.{format_is}
use Rattle.tp4_world.specs.Run.{transport_address}
use Rattle.tp4_world.specs.Telling.{events_after}
use Rattle.tp4_world.specs.World.{entity_at}
use Rattle.law_tp4_associations.specs.Association.{Posted, system_of}
use Rattle.law_tp4_associations.specs.Laws.{Addressed, Formatted, Handed}
use Rattle.law_tp4_associations.specs.Handing.{Hands}
use Rattle.law_tp4_associations.specs.Standing.{Standing}
use Rattle.law_calm_run.proofs.Hall.{AreAllProper, Hall, IsReadBy, Meets, after}
use Rattle.law_calm_run.proofs.Never.{AreNever, awake}
use Rattle.law_calm_run.proofs.Story.{IsRunning, Story, Tells, address_of}
use Rattle.law_calm_run.proofs.Meeting.{story_handed}
use Rattle.law_calm_run.proofs.Queued.{IsFirst, first_posted, proper_ends}

or_false : (b : Bool) → (b || false) ≡ b
or_false true = refl
or_false false = refl

-- a CR has its checksum in any case
same_sum : (now : ℕ) (e : Entity) (from : List ℕ) (tpdu : Tpdu) (sum : Bool) → met whole now e from (tpdu, is_summed sum tpdu) ≡ met whole now e from (tpdu, sum)
same_sum now e from (Cr credit source width calling called size preferred extra version classes ack_time text) sum = refl
same_sum now e from (Cc credit destination source width calling called size preferred extra version classes ack_time text) sum =
    ap (λ (b : Bool). met whole now e from (Cc credit destination source width calling called size preferred extra version classes ack_time text, b)) (or_false sum)
same_sum now e from (Dr destination source reason info text) sum = ap (λ (b : Bool). met whole now e from (Dr destination source reason info text, b)) (or_false sum)
same_sum now e from (Dc destination source) sum = ap (λ (b : Bool). met whole now e from (Dc destination source, b)) (or_false sum)
same_sum now e from (Dt destination last number text) sum = ap (λ (b : Bool). met whole now e from (Dt destination last number text, b)) (or_false sum)
same_sum now e from (Ed destination last number text) sum = ap (λ (b : Bool). met whole now e from (Ed destination last number text, b)) (or_false sum)
same_sum now e from (Ak destination number credit subsequence confirmation) sum = ap (λ (b : Bool). met whole now e from (Ak destination number credit subsequence confirmation, b)) (or_false sum)
same_sum now e from (Ea destination number) sum = ap (λ (b : Bool). met whole now e from (Ea destination number, b)) (or_false sum)
same_sum now e from (Er destination cause rejected) sum = ap (λ (b : Bool). met whole now e from (Er destination cause rejected, b)) (or_false sum)

module _ (titles : List (List ℕ)) (timers : Timers) (handed : Handed timers (address_of titles)) (addressed : Addressed timers (address_of titles)) (formatted : Formatted timers (address_of titles))
    (old new : Hall) (journal made : List Event) (proper : AreAllProper old.entities) (never : AreNever old.entities) (s : Story timers (address_of titles) old journal) (m : Meets titles old made new)
    (f : IsFirst s.all s.queue m.post m.rest) where
  abbrev own : ℕ → List ℕ
  own = address_of titles

  abbrev there_system : ℕ
  there_system = system_of f.a (not f.first.by)

  stood : Standing timers own old.clock old.entities s.all (f.first ∷ f.others)
  stood = subst (Standing timers own old.clock old.entities s.all) f.queue_is s.standing

  told : Tells IsRunning own old.clock old.ends s.all (f.first ∷ f.others) s.number journal
  told = subst (λ (queue : List Posted). Tells IsRunning own old.clock old.ends s.all queue s.number journal) f.queue_is s.tells

  -- the entity is that of the other side
  system_same : m.system ≡ there_system
  system_same =
      let e = stood.there f.first.of f.a (not f.first.by) f.at in
      let own_same : own m.system ≡ own there_system =
      sym (stood.systems.own_is m.system m.entity m.there) ∙ m.own_is ∙ ap (λ (x : Sent). x.to) f.sent_is ∙ addressed old.clock old.entities s.all f.first f.others f.a stood f.at in
      stood.systems.apart m.system there_system m.entity e.0 m.there e.1 own_same

  there_is : entity_at old.entities there_system ≡ Some m.entity
  there_is = ap (entity_at old.entities) (sym system_same) ∙ m.there

  -- it reads the TPDU as it was sent
  reads : IsReadBy m.entity m.post.sent
  reads = subst (IsReadBy m.entity) (sym f.sent_is) (by_kind (has_number (kind_for f.first.sent.tpdu)) refl)
    where
      by_kind : (numbered : Bool) → has_number (kind_for f.first.sent.tpdu) ≡ numbered → IsReadBy m.entity f.first.sent
      by_kind false is = inl is
      by_kind true is =
          let g = formatted old.clock old.entities s.all f.first f.others m.entity f.a stood f.at there_is is in
          inr (ap (format_for (extended_of m.entity)) g.destination ∙ format_is m.entity g.reference ∙ ap format_of g.stands ∙ sym g.format)

  from_is : transport_address m.title ≡ own (system_of f.a f.first.by)
  from_is = ap (λ (o : Option (List ℕ)). transport_address (unwrap_or o [])) (sym m.title_is) ∙ ap own f.system_is

  acted_is : m.acted ≡ met whole old.clock (at old.clock m.entity) (own (system_of f.a f.first.by)) (f.first.sent.tpdu, f.first.sent.sum)
  acted_is =
      m.heard (awake old.clock old.entities never m.system m.entity m.there) reads
      ∙ ap (λ (from : List ℕ). met whole old.clock (at old.clock m.entity) from (m.post.sent.tpdu, is_summed m.post.sent.sum m.post.sent.tpdu)) from_is
      ∙ ap (λ (x : Sent). met whole old.clock (at old.clock m.entity) (own (system_of f.a f.first.by)) (x.tpdu, is_summed x.sum x.tpdu)) f.sent_is
      ∙ same_sum old.clock (at old.clock m.entity) (own (system_of f.a f.first.by)) f.first.sent.tpdu f.first.sent.sum

  hands : Hands timers own old.clock old.entities s.all f.first f.others m.entity f.a m.acted
  hands =
      subst (Hands timers own old.clock old.entities s.all f.first f.others m.entity f.a) (sym acted_is)
      (handed old.clock old.entities s.all f.first f.others m.entity f.a stood (proper_ends old.entities proper) f.at there_is)

  abbrev next : ℕ → Hall
  next system = after (record old { posts = m.rest }) system m.acted

  abbrev lines : ℕ → List Event
  lines system = events_after old.ends system m.entity.own m.acted.events ++ m.does.aside

  story_there : Story timers own (next there_system) (journal ++ lines there_system)
  story_there =
      story_handed timers own old.clock old.entities old.ends m.rest journal s.all f.first.of f.first.sent f.others s.number f.rest_are f.a f.at m.entity m.entity.own m.does.aside m.does.is_aside f.first.by m.acted stood told
      there_is hands

  pub heard_keeps : Story timers own new (journal ++ made)
  heard_keeps =
      subst (λ (h : Hall). Story timers own h (journal ++ made)) (sym m.does.becomes)
      (subst (λ (events : List Event). Story timers own (next m.system) (journal ++ events)) (sym m.does.made_is)
      (subst (λ (system : ℕ). Story timers own (next system) (journal ++ lines system)) (sym system_same) story_there))

-- what is handed over keeps what stands beside the network
pub meets_keeps : (titles : List (List ℕ)) (timers : Timers) → Handed timers (address_of titles) → Addressed timers (address_of titles) → Formatted timers (address_of titles) → (old new : Hall) (journal made : List Event)
    → AreAllProper old.entities → AreNever old.entities → Story timers (address_of titles) old journal → Meets titles old made new → Story timers (address_of titles) new (journal ++ made)
meets_keeps titles timers handed addressed formatted old new journal made proper never s m =
    heard_keeps titles timers handed addressed formatted old new journal made proper never s m (first_posted s.all s.queue old.posts m.post m.rest s.posts m.posts_are)
