-- A TPDU that was offered, and comes to an end that stands at its destination: where it is an AK that is heard, the partner offered what the sending half then knows.
use Rattle.std.proofs.Common.{◌≡◌, ℕ, ◌+◌, ◌≤◌, Bool, true, List, Some, sym, subst}
use Rattle.tpdu.specs.declared.tpdu.Tpdu.{Tpdu as WireTpdu}
use Rattle.tpdu.specs.Values.{destination_of}
use Rattle.tp4_flow.specs.declared.step.Sent.{Sent}
use Rattle.tp4_sending.specs.SendingHalf.{FlowSender}
use Rattle.tp4_conn.specs.declared.halves.Halves.{Halves}
use Rattle.tp4_conn.specs.declared.timers.Timers.{Timers}
use Rattle.tp4_conn.specs.End.{End}
use Rattle.tp4_conn.specs.Matching.{is_match}
use Rattle.tp4_conn.specs.Table.{Took}
use Rattle.law_recovery_ends.specs.Knowing.{HasHeard}
use Rattle.tp4_entity.specs.Entity.{Entity, end_at}
use Rattle.script_journal.specs.Partner.{ArePartners}
use Rattle.script_journal.specs.declared.event.Event.{Event}
use Rattle.law_tp4_history.specs.Tracks.{Whole}
use Rattle.law_tp4_history.proofs.Written.{Kept}
use Rattle.law_tp4_history.specs.Moves.{times_of}
use Rattle.tp4_world.specs.World.{entity_at, latest}
use Rattle.tp4_world.specs.declared.place.EndAt.{EndAt}
use Rattle.tp4_world.specs.declared.place.Placed.{Placed}
use Rattle.law_tp4_lawful.specs.References.{halves_at}
use Rattle.law_tp4_lawful.proofs.Known.{IsKnown, IsOffered, IsReadAs, IsThere, Known}
use Rattle.law_tp4_lawful.proofs.FramesKnown.{keeps, number_at}
use Rattle.law_tp4_lawful.proofs.MeetsOthers.{is as read_is, number, taken}
use Rattle.law_tp4_lawful.proofs.ReferencesHalves.{AreThere, there_in}
use Rattle.law_tp4_lawful.proofs.ReferencesMet.{IsMet}
use Rattle.law_recovery_world.specs.Lines.{IsOfferedView}
use Rattle.law_recovery_world.proofs.Hearing.{heard_view}

module _ (titles : List (List ℕ)) (timers : Timers) (w : Whole) (journal : List Event) (entities : List Placed) (ends : List EndAt) (known : Known titles timers w journal entities ends)
    (system : ℕ) (entity : Entity) (at : entity_at entities system ≡ Some entity) (reference : ℕ) (e : End) (stands : end_at entity reference ≡ Some e) where
  kept : Kept (times_of timers) titles w journal
  kept = keeps titles timers w journal entities ends known

  abbrev own : IsKnown w entity.own reference e
  own = subst (IsThere w entity.own reference) stands ((known.holds system entity at).there reference)

  there : (h : Halves) → halves_at e.stage ≡ Some h → AreThere w own.k e.base h
  there h is = there_in (times_of timers) titles w journal kept entity.own reference e own h is

  module _ (tick : ℕ) (from : List ℕ) (sent : Sent) (io : IsOffered w.base tick from sent) (to : sent.to ≡ entity.own) (soon : w.base.clock ≤ tick + timers.life)
      (t : WireTpdu) (sum : Bool) (reading : IsReadAs entity sent (t, sum)) (destination : destination_of t ≡ Some reference) (match : is_match e.base e.stage from t ≡ true) where
    abbrev met : IsMet timers w (latest ends system reference) entity.own reference e tick from t
    met = record {
      known = own;
      number = sym (number_at titles timers w journal entities ends known system entity reference own.k at own.at);
      offer = io.offer;
      n = io.n;
      is = read_is titles timers w journal entities ends known system entity at tick from sent io to soon t sum reading reference e destination own stands match;
      taken = taken titles timers w journal entities ends known system entity at tick from sent io to soon t sum reading reference e destination own stands match;
      numbered = number titles timers w journal entities ends known system entity at tick from sent io to soon t sum reading reference e destination own stands match;
      tick_is = io.tick_is;
      from_is = io.from_is;
    }

    there_met : (h : Halves) → halves_at e.stage ≡ Some h → AreThere w met.known.k e.base h
    there_met h has = there h has

    pub heard_at : (h : Halves) → halves_at e.stage ≡ Some h → (f : FlowSender) → HasHeard h.sending (Took t sum) f
        → (z : ℕ) × ArePartners journal (z + 1) (latest ends system reference) × IsOfferedView w z f
    heard_at h has f heard = heard_view titles timers w journal kept (latest ends system reference) entity.own reference e tick from t met h (there_met h has) sum f heard
