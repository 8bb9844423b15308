-- Where nothing waits, two ends that are partners by the journal and stand are those of one association; and the pair that went to them says what each
-- submitted, showed and told, by the journal.
use Rattle.std.proofs.Common.{◌≡◌, ◌<◌, ℕ, Bool, true, false, List, [], length, slice_get, Some, refl, sym, ◌∙◌, ap, subst}
use Rattle.script_journal.specs.declared.event.Event.{Event}
use Rattle.tp4_conn.specs.End.{End}
use Rattle.tp4_conn.specs.declared.states.InOpened.{InOpened}
use Rattle.tp4_conn.specs.declared.states.StateData.{StateData}
use Rattle.tp4_conn.specs.declared.states.StateData.TheVariants.{Opened}
use Rattle.tp4_conn.specs.declared.timers.Timers.{Timers}
use Rattle.law_tp4_pair.specs.Pairs.{ArePairs, IsPairOf}
use Rattle.law_tp4_pair.specs.Standing.{HasLeft}
use Rattle.tp4_world.specs.World.{World}
use Rattle.tp4_world.specs.declared.place.EndAt.{EndAt}
use Rattle.tp4_world.specs.declared.place.Placed.{Placed}
use Rattle.law_tp4_associations.specs.Association.{Association, Posted, party, waiting}
use Rattle.law_calm_run.specs.Service.{end_at_number}
use Rattle.law_calm_run.proofs.Hall.{Hall}
use Rattle.law_calm_run.proofs.Queued.{none_posted}
use Rattle.law_calm_run.proofs.Story.{IsRunning, IsYoung, Story, pair_of}
use Rattle.law_calm_run.proofs.Continuing.{some_same}
use Rattle.law_calm_run.proofs.Placing.{IsWhere, party_of, where_it_stands}

-- ---- pairs

open_stays : (stage : StateData) (o : InOpened) → stage ≡ Opened o → HasLeft stage → ⊥
open_stays stage o is left = subst HasLeft is left

open_answered : (stage : StateData) (o : InOpened) → stage ≡ Opened o → IsYoung stage → ⊥
open_answered stage o is young = subst IsYoung is young

pub story_has_pairs : {C : Type 0} (timers : Timers) (own : ℕ → List ℕ) (hall : Hall) (journal : List Event) (world : World C) → Story timers own hall journal → hall.posts ≡ [] → world.entities ≡ hall.entities
    → world.ends ≡ hall.ends → ArePairs journal (end_at_number world)
story_has_pairs {C} timers own hall journal world s idle entities ends calling called x y o q are x_at y_at x_open y_open =
    let h = s.tells.linked.partners are.p are.q are.heard are.asked are.partner in
    let one : s.number h.0 true ≡ Some calling = h.2 ∙ ap (λ (n : ℕ). Some n) are.calling_is in
    let two : s.number h.0 false ≡ Some called = h.3 ∙ ap (λ (n : ℕ). Some n) are.called_is in
    let first = is_party h.0 true calling x h.1 one (where_it_stands world calling x x_at) in
    let second = is_party h.0 false called y h.1 two (where_it_stands world called y y_at) in
    let same : second.0 ≡ first.0 = some_same second.0 first.0 (sym second.1 ∙ first.1) in
    let running = s.tells.pairs h.0 first.0 x y calling called first.1 first.2 (ap (λ (a : Association). a.called) (sym same) ∙ second.2) one two
    (record { calling = open_stays x.stage o x_open; called = open_stays y.stage q y_open; answered = open_answered y.stage q y_open }) in
    to_pair (subst (λ (l : List Posted). IsRunning journal hall.clock calling called x y (waiting h.0 true l) (waiting h.0 false l)) (none_posted s.all s.queue hall.posts s.posts idle) running)
  where
    -- the end of that number is the party of its association
    is_party : (k : ℕ) (by : Bool) (n : ℕ) (end : End) → k < length s.all → s.number k by ≡ Some n → IsWhere world.entities world.ends n end → (a : Association) × (slice_get s.all k ≡ Some a) × (party a by ≡ Some end)
    is_party k by n end low n_is w =
        let there : IsWhere hall.entities hall.ends n end = subst (λ (es : List EndAt). IsWhere hall.entities es n end) ends (subst (λ (ps : List Placed). IsWhere ps world.ends n end) entities w) in
        let p = party_of timers own hall.clock hall.entities hall.ends s.all s.queue s.number s.standing s.tells.numbered k by n end low n_is there in
        (p.a, p.is, p.end_is)

    to_pair : IsRunning journal hall.clock calling called x y [] [] → IsPairOf journal calling called x y
    to_pair r = record {
      first = r.run.first;
      asked = r.run.asked;
      octets = r.run.octets;
      happenings = r.run.happenings;
      last = pair_of journal hall.clock calling called x y [] [] r.told r.theirs;
      accepts = r.run.accepts;
      leads = r.run.leads;
      idle = record { forth = refl; back = refl };
      calling_is = refl;
      called_is = refl;
      calling_gave = refl;
      called_gave = refl;
      calling_showed = refl;
      called_showed = refl;
      calling_told = r.told_in;
      called_told = r.theirs_in;
    }
