-- One end of a pair, and what waits from it for the other, as an entity of the network acts.
use Rattle.std.proofs.Common.{◌≡◌, ℕ, ◌==◌, Bool, true, false, List, [], ◌∷◌, ◌++◌, Option, Some, refl, sym, ◌∙◌, ap, subst}
use Rattle.std.specs.List.{AllByRecursion}
use Rattle.std.proofs.lemmas.Bool.{eqb-false, eqb-true}
use Rattle.std.proofs.lemmas.Option.{same_Some}
use Rattle.osi_base.proofs.Members.{all_both}
use Rattle.script_journal.specs.Lawful.{Marked, shown, submitted}
use Rattle.script_journal.specs.declared.event.Event.{Event as JournalEvent}
use Rattle.tp4_flow.specs.declared.step.Sent.{Sent}
use Rattle.tp4_conn.specs.End.{End, agreed_format}
use Rattle.tp4_conn.specs.declared.end_record.EndRecord.{EndRecord}
use Rattle.tpdu.specs.declared.service.Options.{Options}
use Rattle.tp4_entity.specs.Entity.{Acted, Entity, end_at}
use Rattle.tp4_world.proofs.Having.{with_first, with_other}
use Rattle.tp4_world.specs.World.{World, entity_at, latest, with_entity}
use Rattle.tp4_world.specs.declared.place.Placed.{Placed}
use Rattle.law_calm_run.proofs.Hall.{Post, posted}
use Rattle.law_recovery_run.specs.Aside.{IsSentTo}
use Rattle.law_recovery_run.specs.Following.{IsBy, IsForPartner, IsSide, IsSpoken, KeepsParty, Stands, sent_to}
use Rattle.law_recovery_run.proofs.Waiting.{first_is, first_other, waits_append}

-- ---- where an end stands

-- it stands at the same place
pub record IsNow {C : Type 0} (old new : World C) (x : ℕ) (mine after : End) (here : Stands old x mine) : Type 0 where
  pub stands : Stands new x after
  pub system_is : stands.system ≡ here.system
  pub reference_is : stands.reference ≡ here.reference
  pub own_is : stands.entity.own ≡ here.entity.own

-- the entity of a system acted
pub stands_now : {C : Type 0} (old new : World C) (system : ℕ) (entity : Entity) (acted : Acted) → entity_at old.entities system ≡ Some entity → new.entities ≡ with_entity old.entities system acted.entity
    → acted.entity.own ≡ entity.own → (x : ℕ) (mine after : End) (here : Stands old x mine) → latest new.ends here.system here.reference ≡ x
    → (system ≡ here.system → end_at acted.entity here.reference ≡ Some after) → ((system ≡ here.system → ⊥) → after ≡ mine) → IsNow old new x mine after here
stands_now {C} old new system entity acted there entities own x mine after here number at_it elsewhere = by (here.system == system) refl
  where
    changed : List Placed
    changed = with_entity old.entities system acted.entity

    by : (b : Bool) → (here.system == system) ≡ b → IsNow old new x mine after here
    by true is =
        let same : here.system ≡ system = eqb-true here.system system is in
        record {
          stands = record {
            system = here.system;
            reference = here.reference;
            entity = acted.entity;
            is_end = record {
              there = ap (λ (ps : List Placed). entity_at ps here.system) entities ∙ ap (entity_at changed) same ∙ with_first old.entities system acted.entity entity there;
              stands = at_it (sym same);
              number = number;
            };
          };
          system_is = refl;
          reference_is = refl;
          own_is = own ∙ ap (λ (e : Entity). e.own) (same_Some entity here.entity (sym there ∙ ap (entity_at old.entities) (sym same) ∙ here.is_end.there));
        }
    by false is = record {
      stands = record {
        system = here.system;
        reference = here.reference;
        entity = here.entity;
        is_end = record {
          there = ap (λ (ps : List Placed). entity_at ps here.system) entities ∙ with_other old.entities system here.system acted.entity is ∙ here.is_end.there;
          stands = here.is_end.stands ∙ ap (λ (e : End). Some e) (sym (elsewhere (λ same. eqb-false here.system system is (sym same))));
          number = number;
        };
      };
      system_is = refl;
      reference_is = refl;
      own_is = refl;
    }

-- ---- what waits

each_spoken : (old new : EndRecord) (sents : List Sent) → KeepsParty old new → AllByRecursion (IsSpoken old) sents → AllByRecursion (IsSpoken new) sents
each_spoken old new [] keeps all = tt
each_spoken old new (sent ∷ sents) keeps all = (
  record {
    to = all.0.to ∙ sym keeps.to;
    target = all.0.target ∙ ap (λ (n : ℕ). Some n) (sym keeps.partner);
    source = subst (λ (n : ℕ). IsBy n sent.tpdu) (sym keeps.own) all.0.source;
    format = all.0.format ∙ ap (λ (o : Option Options). agreed_format o) (sym keeps.agreed);
  },
  each_spoken old new sents keeps all.1,
)

-- the same end, and the same partner
named_as : (system system_now reference reference_now partner partner_now : ℕ) (to to_now : List ℕ) (posts : List Post) → system_now ≡ system → reference_now ≡ reference → to_now ≡ to → partner_now ≡ partner
    → AllByRecursion (IsForPartner system reference to partner) posts → AllByRecursion (IsForPartner system_now reference_now to_now partner_now) posts
named_as system system_now reference reference_now partner partner_now to to_now posts s r t p all =
    subst (λ (n : ℕ). AllByRecursion (IsForPartner n reference_now to_now partner_now) posts) (sym s)
    (subst (λ (n : ℕ). AllByRecursion (IsForPartner system n to_now partner_now) posts) (sym r)
    (subst (λ (a : List ℕ). AllByRecursion (IsForPartner system reference a partner_now) posts) (sym t)
    (subst (λ (n : ℕ). AllByRecursion (IsForPartner system reference to n) posts) (sym p) all)))

module _ {C : Type 0} (journal : List JournalEvent) (old : World C) (post : Post) (rest : List Post) (x y : ℕ) (mine theirs : End) (here : Stands old x mine) (there : Stands old y theirs)
    (waits : List Sent) (gave showed : List Marked) (s : IsSide journal old (post ∷ rest) x y mine theirs here there waits gave showed) where
  -- the first that waits is another one
  pub drop_other : (post.system ≡ here.system → IsSentTo there.entity.own there.reference post.sent → ⊥) → IsSide journal old rest x y mine theirs here there waits gave showed
  drop_other apart = record {
    to_is = s.to_is;
    partner_is = s.partner_is;
    waits_are = s.waits_are ∙ first_other here.system there.entity.own there.reference post rest apart;
    spoken = s.spoken;
    named = s.named.1;
    gave_is = s.gave_is;
    showed_is = s.showed_is;
  }

  -- the first that waits is the first of this end
  pub record IsFirst : Type 0 where
    pub left : List Sent
    pub waits_are : waits ≡ post.sent ∷ left
    pub spoken : IsSpoken mine.base post.sent
    pub side : IsSide journal old rest x y mine theirs here there left gave showed

  pub drop_this : post.system ≡ here.system → IsSentTo there.entity.own there.reference post.sent → IsFirst
  drop_this at sent =
      let left : List Sent = sent_to here.system there.entity.own there.reference rest in
      let is : waits ≡ post.sent ∷ left = s.waits_are ∙ first_is here.system there.entity.own there.reference post rest at sent in
      let spoken : AllByRecursion (IsSpoken mine.base) (post.sent ∷ left) = subst (AllByRecursion (IsSpoken mine.base)) is s.spoken in
      record {
        left = left;
        waits_are = is;
        spoken = spoken.0;
        side = record { to_is = s.to_is; partner_is = s.partner_is; waits_are = refl; spoken = spoken.1; named = s.named.1; gave_is = s.gave_is; showed_is = s.showed_is };
      }

-- an entity acted: what it sent waits behind the rest
pub side_on : {C : Type 0} (journal after : List JournalEvent) (old new : World C) (rest : List Post) (system : ℕ) (tpdus : List Sent) (x y : ℕ) (mine theirs mine_now theirs_now : End) (here : Stands old x mine)
    (there : Stands old y theirs) (waits : List Sent) (gave showed : List Marked) → IsSide journal old rest x y mine theirs here there waits gave showed
    → (h : IsNow old new x mine mine_now here) (t : IsNow old new y theirs theirs_now there) → KeepsParty mine.base mine_now.base → (more : List Sent)
    → sent_to here.system there.entity.own there.reference (posted system tpdus) ≡ more → AllByRecursion (IsSpoken mine.base) more
    → AllByRecursion (IsForPartner here.system here.reference there.entity.own there.reference) (posted system tpdus) → (gave_now showed_now : List Marked) → gave_now ≡ submitted x after → showed_now ≡ shown x after
    → IsSide after new (rest ++ posted system tpdus) x y mine_now theirs_now h.stands t.stands (waits ++ more) gave_now showed_now
side_on {C} journal after old new rest system tpdus x y mine theirs mine_now theirs_now here there waits gave showed s h t keeps more more_is spoken named gave_now showed_now gave_is showed_is = record {
  to_is = keeps.to ∙ s.to_is ∙ sym t.own_is;
  partner_is = keeps.partner ∙ s.partner_is ∙ sym t.reference_is;
  waits_are = (λ i. s.waits_are i ++ more) ∙ ap (λ (l : List Sent). sent_to here.system there.entity.own there.reference rest ++ l) (sym more_is)
      ∙ sym (waits_append here.system there.entity.own there.reference rest (posted system tpdus))
      ∙ (λ i. sent_to (sym h.system_is i) (sym t.own_is i) (sym t.reference_is i) (rest ++ posted system tpdus));
  spoken = each_spoken mine.base mine_now.base (waits ++ more) keeps (all_both (IsSpoken mine.base) waits more s.spoken spoken);
  named = named_as here.system h.stands.system here.reference h.stands.reference there.reference t.stands.reference there.entity.own t.stands.entity.own (rest ++ posted system tpdus) h.system_is h.reference_is t.own_is
      t.reference_is
      (all_both (IsForPartner here.system here.reference there.entity.own there.reference) rest (posted system tpdus) s.named named);
  gave_is = gave_is;
  showed_is = showed_is;
}
