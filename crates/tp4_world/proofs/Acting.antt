-- An entity changed at its place, and what it told and sent follows: it acted.
use Rattle.std.proofs.Common.{◌≡◌, ℕ, ◌+◌, List, [], ◌++◌, ◌<◌, Some, drop, get_or, length, refl, sym, ◌∙◌, ap, subst, slice_get, slice_set}
use Rattle.std.specs.List.{position}
use Rattle.osi_base.specs.Link.{Link}
use Rattle.osi_base.specs.Calls.{Call}
use Rattle.script_journal.specs.declared.event.Event.{Event}
use Rattle.tp4_flow.specs.declared.step.Sent.{Sent}
use Rattle.tp4_flow.specs.Told.{Told}
use Rattle.tp4_entity.specs.Entity.{Entity, Acted}
use Rattle.tp4_entity.specs.Step.{DoesSo}
use Rattle.tp4_world.proofs.Entities.{changed_there}
use Rattle.tp4_world.proofs.Going.{Going, drop_item, going_next}
use Rattle.tp4_world.specs.Run.{Acts, SendsTpdu, SendsTpdus}
use Rattle.tp4_world.specs.World.{is_of, with_entity}
use Rattle.tp4_world.specs.declared.place.EndAt.{EndAt}
use Rattle.tp4_world.specs.declared.place.Placed.{Placed}
use Rattle.tp4_world.specs.steps.Parts.{Follows, Tells, world_of}

-- an entity that told and sent nothing yet
abbrev pub nothing : Told
nothing = record { events = []; tpdus = [] }

module _ {C : Type 0} (link : C → Link (List ℕ)) (steps : C → Call (List ℕ) → C → Type 0) where
  acts_as : (carrier new : C) (placed changed : List Placed) (ends after : List EndAt) (system place : ℕ) (own : List ℕ) (acted : Acted) (made : List Event)
      → changed ≡ with_entity placed system acted.entity → Follows link steps carrier ends system own (record { events = acted.events; tpdus = acted.tpdus }) made new after
      → Acts link steps (world_of carrier placed ends) system own acted made (world_of new changed after)
  acts_as carrier new placed changed ends after system place own acted made is f = record {
    below = new;
    sent = f.sent;
    sends = f.sends;
    made_is = f.made_is;
    becomes = ap (λ (ps : List Placed). world_of new ps after) is ∙ ap (λ (es : List EndAt). world_of new (with_entity placed system acted.entity) es) f.ends_are;
  }

  pub acts : (carrier new : C) (placed changed : List Placed) (ends after : List EndAt) (system place : ℕ) (own : List ℕ) (acted : Acted) (one : Placed) (entity : Entity) (was told : Told) (made : List Event)
      → position (is_of system) placed ≡ Some place → slice_get placed place ≡ Some one → changed ≡ slice_set placed place (record one { entity = entity }) → own ≡ one.entity.own → was ≡ nothing
      → DoesSo acted entity was told → Follows link steps carrier ends system own told made new after
      → Acts link steps (world_of carrier placed ends) system one.entity.own acted made (world_of new changed after)
  acts carrier new placed changed ends after system place own acted one entity was told made found at becomes is start does follows =
      let told_is : told ≡ record { events = acted.events; tpdus = acted.tpdus } =
      does.told ∙ ap (λ (t : Told). record { events = t.events ++ acted.events; tpdus = t.tpdus ++ acted.tpdus }) start in
      let as_told : Follows link steps carrier ends system own (record { events = acted.events; tpdus = acted.tpdus }) made new after =
      subst (λ (t : Told). Follows link steps carrier ends system own t made new after) told_is follows in
      let as_own : Follows link steps carrier ends system one.entity.own (record { events = acted.events; tpdus = acted.tpdus }) made new after =
      subst (λ (o : List ℕ). Follows link steps carrier ends system o (record { events = acted.events; tpdus = acted.tpdus }) made new after) is as_told in
      acts_as carrier new placed changed ends after system place one.entity.own acted made
      (becomes ∙ sym (changed_there placed system place one entity found at) ∙ ap (with_entity placed system) does.entity_is) as_own

  -- of these TPDUs, that at an index is sent
  pub sends_more : (old : C) (system : ℕ) (own : List ℕ) (all : List Sent) (before : List Event) (mid : C) (events : List Event) (index : ℕ) (sent : Sent) (new : C) (after : List Event)
      → Going (λ (o : C) (sents : List Sent) (made : List Event) (n : C). SendsTpdus link steps o system own sents made n) old all before mid events (drop index all)
      → index < length all → sent ≡ get_or all index sent → Tells events after (λ made. SendsTpdu link steps mid system own sent made new)
      → Going (λ (o : C) (sents : List Sent) (made : List Event) (n : C). SendsTpdus link steps o system own sents made n) old all before new after (drop (index + 1) all)
  sends_more old system own all before mid events index sent new after g low is tells =
      going_next (λ (o : C) (sents : List Sent) (made : List Event) (n : C). SendsTpdus link steps o system own sents made n) old all before mid events (drop index all) new after tells.made (drop (index + 1) all) g tells.added
      (λ rest last h. subst (λ (sents : List Sent). SendsTpdus link steps mid system own sents (tells.made ++ rest) last) (sym (drop_item all index sent low is)) (new, tells.made, rest, tells.are, h, refl))
