-- The halves of an end that is open stand in the line of the end and in that of its partner.
use Rattle.std.proofs.Common.{◌≡◌, ◌≢◌, inl, inr, ℕ, ◌+◌, List, Some, sym, ap, subst, ◌∙◌}
use Rattle.std.specs.Prelude.{option_map}
use Rattle.std.proofs.lemmas.Option.{none-some, same_Some}
use Rattle.osi_base.specs.Link.{Link}
use Rattle.script_journal.specs.declared.event.Event.{Event}
use Rattle.tp4_conn.specs.declared.end_record.EndRecord.{EndRecord}
use Rattle.tp4_conn.specs.declared.halves.Halves.{Halves}
use Rattle.tp4_conn.specs.declared.states.StateData.{StateData}
use Rattle.tp4_conn.specs.declared.states.StateData.TheVariants as stages
use Rattle.tp4_conn.specs.declared.timers.Timers.{Timers}
use Rattle.tp4_conn.specs.End.{End, agreed_format}
use Rattle.tp4_entity.specs.Entity.{Entity}
use Rattle.law_tp4_history.specs.Ends.{Birth, Terms, Times}
use Rattle.law_tp4_history.specs.History.{IsPartner}
use Rattle.law_tp4_history.specs.Tracks.{Track, Whole}
use Rattle.law_tp4_history.proofs.Written.{Kept}
use Rattle.law_tp4_history.specs.Lines.{AreHalvesAt, Stands}
use Rattle.law_tp4_history.specs.Moves.{AreOwn, IsSeenIn, times_of}
use Rattle.law_tp4_history.specs.Seen.{terms_of}
use Rattle.tp4_world.specs.World.{World}
use Rattle.law_tp4_lawful.specs.References.{IsEnd, halves_at}
use Rattle.law_tp4_lawful.proofs.Known.{AreTerms, IsKnown, IsThere}
use Rattle.law_tp4_lawful.proofs.Worlds.{Explains}
use Rattle.law_tp4_lawful.proofs.FramesKnown.{keeps, number_at}

pub own_in : (birth : Birth) (took latest : ℕ) (b : EndRecord) (stage : StateData) (h : Halves) → halves_at stage ≡ Some h → IsSeenIn birth took latest b stage → AreOwn b h × (b.partner ≢ 0)
own_in birth took latest b (stages.AkWait w) h is at = (subst (AreOwn b) (same_Some _ _ is) at.halves, at.known)
own_in birth took latest b (stages.Opened o) h is at = (subst (AreOwn b) (same_Some _ _ is) at.halves, at.known)
own_in birth took latest b other h is at = absurd (none-some _ is)

pub stand_in : (terms : Terms) (b : EndRecord) (stage : StateData) (h : Halves) (own theirs : Track) → halves_at stage ≡ Some h → Stands terms b stage own theirs → AreHalvesAt (agreed_format b.agreed) h own theirs
stand_in terms b (stages.AkWait w) h own theirs is at = subst (λ (x : Halves). AreHalvesAt (agreed_format b.agreed) x own theirs) (same_Some _ _ is) at
stand_in terms b (stages.Opened o) h own theirs is at = subst (λ (x : Halves). AreHalvesAt (agreed_format b.agreed) x own theirs) (same_Some _ _ is) at
stand_in terms b other h own theirs is at = absurd (none-some _ is)

-- an end that is open has a partner, and both lines
pub record AreThere (w : Whole) (k : ℕ) (b : EndRecord) (h : Halves) : Type 0 where
  pub z : ℕ
  pub partner : IsPartner w.base k z
  pub own : AreOwn b h
  pub halves : AreHalvesAt (agreed_format b.agreed) h (w.track k) (w.track z)

module _ (times : Times) (titles : List (List ℕ)) (w : Whole) (journal : List Event) (kept : Kept times titles w journal) where
  agreed_terms : (k z : ℕ) (terms : Terms) → IsPartner w.base k z → (w.base.end k).agreed ≡ Some terms → AreTerms w.base k z terms
  agreed_terms k z terms (inl p) is = record {
    own = λ called. absurd (cc (called, (kept.sound.pairs k z p).calls));
    theirs = λ called agreed other. same_Some _ _ (sym other ∙ kept.agreed.both k z terms p is);
  }
  agreed_terms k z terms (inr p) is = record {
    own = λ called agreed other. same_Some _ _ (sym other ∙ is);
    theirs = λ called. absurd (cc (called, (kept.sound.pairs z k p).calls));
  }

  -- in any history that has the journal
  pub there_in : (own : List ℕ) (reference : ℕ) (e : End) (known : IsKnown w own reference e) (h : Halves) → halves_at e.stage ≡ Some h → AreThere w known.k e.base h
  there_in own reference e known h is =
      let o = own_in (w.base.end known.k).birth (w.base.end known.k).took (w.base.end known.k).latest e.base e.stage h is known.sees.state in
      let p = (kept.sound.own known.k known.at.low).known (λ none. o.1 (sym known.sees.known ∙ none)) in
      let agreed : (w.base.end known.k).agreed ≡ Some (terms_of o.0.terms) = known.sees.agreed ∙ ap (option_map terms_of) o.0.agreed in
      record {
        z = p.0;
        partner = p.1;
        own = o.0;
        halves = stand_in (terms_of o.0.terms) e.base e.stage h (w.track known.k) (w.track p.0) is
            (known.stands p.0 (terms_of o.0.terms) p.1 (agreed_terms known.k p.0 (terms_of o.0.terms) p.1 agreed));
      }

module _ {C : Type 0} (link : C → Link (List ℕ)) (titles : List (List ℕ)) (timers : Timers) (w : Whole) (journal : List Event) (world : World C) (explains : Explains link titles timers w journal world) where
  pub are_there : (own : List ℕ) (reference : ℕ) (e : End) (known : IsKnown w own reference e) (h : Halves) → halves_at e.stage ≡ Some h → AreThere w known.k e.base h
  are_there own reference e known h is = there_in (times_of timers) titles w journal (keeps titles timers w journal world.entities world.ends explains.known) own reference e known h is

  pub known_at : (y system : ℕ) (entity : Entity) (reference : ℕ) (e : End) → IsEnd world y system entity reference e → (known : IsKnown w entity.own reference e) × (known.k + 1 ≡ y)
  known_at y system entity reference e is =
      let known = subst (IsThere w entity.own reference) is.stands ((explains.known.holds system entity is.there).there reference) in
      (known, sym (number_at titles timers w journal world.entities world.ends explains.known system entity reference known.k is.there known.at) ∙ is.number)
