-- Of a run over wire numbers it is shown of the run over whole numbers: an end has the same base and the same state but for the numbers expected.
use Rattle.std.proofs.Common.{◌≡◌, ◌==◌, inl, inr, ℕ, ◌-◌, true, false, List, Option, Some, None, refl, sym, ap, subst, ◌∙◌}
use Rattle.std.specs.Prelude.{Bool, ◌&&◌, if◌then◌else◌, nat_eq, map, option_map, slice_get}
use Rattle.std.specs.Cmp.Lexicographic.{pointwise}
use Rattle.std.proofs.lemmas.Option.{none-some, same_Some, slice_get-map}
use Rattle.osi_base.specs.Link.{Link}
use Rattle.script_journal.specs.Lawful.{submitted}
use Rattle.script_journal.specs.declared.event.Event.{Event}
use Rattle.tpdu.specs.declared.tpdu.Tpdu.{Tpdu}
use Rattle.tp4_number.specs.Formats.{block_of}
use Rattle.tpdu.specs.declared.service.Options.{Options}
use Rattle.tp4_conn.specs.declared.end_record.EndRecord.{EndRecord}
use Rattle.tp4_conn.specs.declared.states.StateData.TheVariants as stages
use Rattle.tp4_conn.specs.declared.timers.Timers.{Timers}
use Rattle.tp4_conn.specs.End.{End, agreed_format}
use Rattle.tp4_conn.specs.Matching.{is_match}
use Rattle.tp4_conn.specs.Wire.{end_on_wire}
use Rattle.tp4_entity.specs.Entity.{Entity, end_at, there}
use Rattle.tp4_entity.specs.Unit.{EndsWith, Separates, extended_of}
use Rattle.tp4_entity.specs.Wire.{entity_on_wire}
use Rattle.tp4_entity.proofs.Wires.{fits_on}
use Rattle.law_tp4_history.specs.Tracks.{Whole}
use Rattle.tp4_world.specs.Wire.{world_on_wire}
use Rattle.tp4_world.specs.World.{World}
use Rattle.tp4_world.proofs.OnWire.{formats_on, lower_there, upper}
use Rattle.law_tp4_lawful.specs.References.{AreCarried, AreSizes, Carries, ComesTo, IsEnd, IsMadeBy, IsNotBefore, IsOfPartner}
use Rattle.law_tp4_lawful.proofs.Worlds.{Explains, OneInUnit}
use Rattle.law_tp4_lawful.proofs.ReferencesOwn.{carried, m, of_partner}
use Rattle.law_tp4_lawful.proofs.ReferencesSizes.{agreed_at, sizes}

-- ---- an end over wire numbers

pub on_place : (place : Option (Option End)) → there (option_map (option_map end_on_wire) place) ≡ option_map end_on_wire (there place)
on_place None = refl
on_place (Some end) = refl

pub end_on : (e : Entity) (reference : ℕ) → end_at (entity_on_wire e) reference ≡ option_map end_on_wire (end_at e reference)
end_on e reference = by_zero (reference == 0)
  where
    by_zero : (none : Bool) → (if none then None else there (slice_get (map (option_map end_on_wire) e.ends) (reference - 1))) ≡ option_map end_on_wire (if none then None else there (slice_get e.ends (reference - 1)))
    by_zero true = refl
    by_zero false = ap there (slice_get-map (option_map end_on_wire) e.ends (reference - 1)) ∙ on_place (slice_get e.ends (reference - 1))

-- the end over whole numbers
record IsUpper (e : Entity) (reference : ℕ) (lower : End) : Type 0 where
  end : End
  stands : end_at e reference ≡ Some end
  is : lower ≡ end_on_wire end

upper_end : (e : Entity) (reference : ℕ) (lower : End) → end_at (entity_on_wire e) reference ≡ Some lower → IsUpper e reference lower
upper_end e reference lower is = by (end_at e reference) refl (sym (end_on e reference) ∙ is)
  where
    by : (place : Option End) → end_at e reference ≡ place → option_map end_on_wire place ≡ Some lower → IsUpper e reference lower
    by None at same = absurd (none-some _ same)
    by (Some end) at same = record { end = end; stands = at; is = sym (same_Some _ _ same) }

match_on : (e : End) (from : List ℕ) (tpdu : Tpdu) → is_match (end_on_wire e).base (end_on_wire e).stage from tpdu ≡ is_match e.base e.stage from tpdu
match_on e from tpdu = ap (λ (b : Bool). pointwise nat_eq e.base.to from && b) (fits_on e.base e.stage tpdu)

module _ {C : Type 0} (link : C → Link (List ℕ)) (world : World C) where
  -- what comes to an end over wire numbers comes to it over whole ones
  record IsLifted (y : ℕ) (tpdu : Tpdu) (comes : ComesTo link (world_on_wire world) y tpdu) : Type 0 where
    up : ComesTo link world y tpdu
    from : up.unit.from ≡ comes.unit.from
    base : up.end.base ≡ comes.end.base
    tick : up.tick ≡ comes.tick

  lifted : (y : ℕ) (tpdu : Tpdu) (comes : ComesTo link (world_on_wire world) y tpdu) → IsLifted y tpdu comes
  lifted y tpdu c =
      let e = upper world.entities c.system c.entity c.is_end.there in
      let k = upper_end e.entity c.reference c.end (subst (λ (x : Entity). end_at x c.reference ≡ Some c.end) e.is c.is_end.stands) in
      let formats = ap extended_of e.is ∙ formats_on e.entity in
      record {
        up = record {
          tick = c.tick;
          unit = c.unit;
          floats = c.floats;
          live = c.live;
          transport = c.transport;
          system = c.system;
          entity = e.entity;
          to = c.to ∙ ap (λ (x : Entity). x.own) e.is;
          tpdus = c.tpdus;
          rest = c.rest;
          told = c.told;
          separates = subst (λ (x : List ℕ). Separates x c.unit.octets c.tpdus c.rest) formats c.separates;
          ends = subst (λ (x : List ℕ). EndsWith x c.rest c.told) formats c.ends;
          sum = c.sum;
          among = c.among;
          reference = c.reference;
          destination = c.destination;
          end = k.end;
          is_end = record { there = e.there; stands = k.stands; number = c.is_end.number };
          matches = sym (match_on k.end c.unit.from tpdu) ∙ ap (λ (x : End). is_match x.base x.stage c.unit.from tpdu) (sym k.is) ∙ c.matches;
        };
        from = refl;
        base = sym (ap (λ (x : End). x.base) k.is);
        tick = refl;
      }

  -- what is shown over whole numbers holds over wire numbers
  pub partner_lowered : (journal : List Event) → IsOfPartner link journal world → IsOfPartner link journal (world_on_wire world)
  partner_lowered journal holds y tpdu comes =
      let l = lifted y tpdu comes in
      elim (holds y tpdu l.up) [
        | inl answer ↦ inl answer
        | inr p ↦ inr (record {
          x = p.x;
          partners = p.partners;
          place = p.place;
          numbered = p.numbered;
          entity = entity_on_wire p.entity;
          there = lower_there world.entities p.place.system p.entity p.there;
          own = p.own ∙ l.from;
        })
      ]

  pub later_lowered : (journal : List Event) → IsNotBefore link journal world → IsNotBefore link journal (world_on_wire world)
  later_lowered journal holds y tpdu comes = let l = lifted y tpdu comes in subst (IsMadeBy journal y) l.tick (holds y tpdu l.up)

  -- an end that stands over wire numbers stands over whole ones, with what it agreed on
  record IsUpperEnd (x system reference : ℕ) (options : Options) : Type 0 where
    entity : Entity
    end : End
    is_end : IsEnd world x system entity reference end
    agreed : end.base.agreed ≡ Some options

  upper_at : (x system reference : ℕ) (entity : Entity) (end : End) (options : Options) → IsEnd (world_on_wire world) x system entity reference end → end.base.agreed ≡ Some options
      → IsUpperEnd x system reference options
  upper_at x system reference entity end options is agreed =
      let e = upper world.entities system entity is.there in
      let k = upper_end e.entity reference end (subst (λ (y : Entity). end_at y reference ≡ Some end) e.is is.stands) in
      record {
        entity = e.entity;
        end = k.end;
        is_end = record { there = e.there; stands = k.stands; number = is.number };
        agreed = ap (λ (y : End). y.base.agreed) (sym k.is) ∙ agreed;
      }

  sizes_lowered : (journal : List Event) (size : ℕ → ℕ) → AreSizes journal world size → AreSizes journal (world_on_wire world) size
  sizes_lowered journal size holds = record {
    own = λ x system reference entity end options is agreed.
        (let up = upper_at x system reference entity end options is agreed in holds.own x system reference up.entity up.end options up.is_end up.agreed);
    partner = λ x y system reference entity end options partners is agreed.
        (let up = upper_at y system reference entity end options is agreed in holds.partner x y system reference up.entity up.end options partners up.is_end up.agreed);
  }

  pub carried_lowered : (journal : List Event) → AreCarried link journal world → AreCarried link journal (world_on_wire world)
  carried_lowered journal holds = record {
    size = holds.size;
    sizes = sizes_lowered journal holds.size holds.sizes;
    each = λ x y tpdu comes partners.
        (let l = lifted y tpdu comes in
        let n = holds.each x y tpdu l.up partners in
        (n.0, subst (λ (b : EndRecord). Carries (holds.size x) (block_of (agreed_format b.agreed)) (submitted x journal) n.0 tpdu) l.base n.1));
    agreed = λ x y tpdu comes partners number.
        (let l = lifted y tpdu comes in
        let o = holds.agreed x y tpdu l.up partners number in
        (o.0, ap (λ (b : EndRecord). b.agreed) (sym l.base) ∙ o.1, o.2));
  }

-- over whole numbers
module _ {C : Type 0} (link : C → Link (List ℕ)) (one : OneInUnit) (titles : List (List ℕ)) (timers : Timers) (w : Whole) (journal : List Event) (world : World C) (explains : Explains link titles timers w journal world) where
  pub partners : IsOfPartner link journal world
  partners y tpdu comes = of_partner link titles timers w journal world explains one y tpdu comes

  pub all_carried : AreCarried link journal world
  all_carried = record {
    size = λ x. (w.track (x - 1)).size;
    sizes = sizes link titles timers w journal world explains one;
    each = λ x y tpdu comes partners. ((m link titles timers w journal world explains one y tpdu comes).n, carried link titles timers w journal world explains one y tpdu comes x partners);
    agreed = agreed_at link titles timers w journal world explains one;
  }
