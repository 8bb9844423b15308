-- An end of an entity takes an event, and the history takes a step: a move of that end where it goes on; nothing where it is frozen; and nothing but
-- an event that is told where a TPDU lacks its checksum.
use Rattle.std.proofs.Common.{◌≡◌, ◌≢◌, inl, inr, ℕ, ◌+◌, ◌<◌, Bool, true, false, ◌&&◌, not, if◌then◌else◌, List, [], ◌∷◌, ◌++◌, Option, Some, None, Contains, refl, sym, ◌∙◌, ap, subst, arith, append-nil, append_assoc}
use Rattle.std.proofs.lemmas.Bool.{cases_Bool, cases_eq, cond-true}
use Rattle.std.proofs.lemmas.List.Elements.{Contains-append_left, Contains-append_right, Contains-push}
use Rattle.script_journal.specs.declared.event.Event.{Event as Told}
use Rattle.tp4_number.specs.Number.{whole}
use Rattle.tp4_flow.specs.declared.rules.FlowRules.{FlowRules}
use Rattle.tp4_flow.specs.declared.step.EndEvent.{EndEvent}
use Rattle.tp4_flow.specs.declared.step.Sent.{Sent}
use Rattle.tp4_conn.specs.declared.end_record.EndRecord.{EndRecord}
use Rattle.tp4_conn.specs.declared.call.UserCall.{UserCall}
use Rattle.tp4_conn.specs.declared.states.StateData.{StateData}
use Rattle.tp4_conn.specs.declared.states.StateData.TheVariants as stages
use Rattle.tp4_conn.specs.declared.timers.Timers.{Timers}
use Rattle.tp4_conn.specs.Calls.{call_refusal}
use Rattle.tp4_conn.specs.End.{End as ConnEnd, Moved, end_of}
use Rattle.tp4_conn.specs.Living.{IsFit}
use Rattle.tp4_conn.specs.Matching.{wants_sum}
use Rattle.tp4_conn.specs.Proper.{AreSendable, IsProperEvent}
use Rattle.tp4_conn.specs.Table.{Event, Called, Took, stepped, untaken}
use Rattle.tp4_conn.proofs.Propers.{step_row}
use Rattle.tp4_entity.specs.Entity.{Entity, end_at, moved, with_end}
use Rattle.law_tp4_history.specs.Ends.{Alone, Birth, End, IsMove, Offer, Terms, Times, Took as Heard, IsFit as AreFit}
use Rattle.law_tp4_history.specs.History.{Act, History, IsCaller, IsPartner, Take, set_end}
use Rattle.law_tp4_history.specs.Journals.{IsAside, MakesNone, Written}
use Rattle.law_tp4_history.specs.Tracks.{Doing, MayDo, Noted, Whole, done}
use Rattle.law_tp4_history.specs.Units.{MayTell}
use Rattle.law_tp4_history.proofs.Agreed.{Stay, step_stay}
use Rattle.law_tp4_history.proofs.Later.{IsLater, end_same}
use Rattle.law_tp4_history.proofs.Steps.{step_later}
use Rattle.law_tp4_history.proofs.Written.{Kept, written_kept, written_more}
use Rattle.law_tp4_history.specs.Lines.{IsKnownEvent, Stands, given, shown_in}
use Rattle.law_tp4_history.specs.Moves.{IsSeenIn, IsSourced, Moves, Sees, cause_of, times_of}
use Rattle.law_tp4_history.specs.Seen.{AreOffersOf, seen}
use Rattle.law_tp4_history.proofs.Beginnings.{fit_times}
use Rattle.law_tp4_history.proofs.StepMoves.{frozen_since, moved as end_moved, stays as end_stays}
use Rattle.tp4_world.specs.Telling.{ends_after, events_after}
use Rattle.tp4_world.specs.World.{entity_at, latest, with_entity}
use Rattle.tp4_world.specs.declared.place.EndAt.{EndAt}
use Rattle.tp4_world.specs.declared.place.Placed.{Placed}
use Rattle.law_tp4_lawful.proofs.Acting.{Acts, Comes, IsLike, first_of}
use Rattle.law_tp4_lawful.proofs.Known.{AreTerms, HaveBegun, IsKnown, Known}
use Rattle.law_tp4_lawful.proofs.Worlds.{AreOffered, Follows}
use Rattle.law_tp4_lawful.proofs.ActsLines.{Did, Flowing, Says, acted, did}
use Rattle.law_tp4_rows.proofs.Leaving.{row_leaves}
use Rattle.law_tp4_lawful.proofs.ActsRows.{AreTold, row_of}
use Rattle.law_tp4_lawful.specs.Own.{IsStageOf}
use Rattle.law_tp4_lawful.proofs.ActsTold.{ends_stay}
use Rattle.law_tp4_lawful.proofs.ActsUnits.{given_other, given_own, made_none, shown_other, shown_own, tells_none}
use Rattle.law_tp4_lawful.proofs.Frames.{owners_with}
use Rattle.law_tp4_lawful.proofs.FramesKnown.{Frames, at_on, calls_back, holds_on, keeps, known_on, known_stays, known_with, number_at, partner_back}
use Rattle.law_tp4_lawful.proofs.FramesNotes.{note, note_begun, note_frames, note_known, note_written}
use Rattle.law_tp4_lawful.proofs.FramesLines.{end_here, end_other, has_begun_on}

-- a TPDU lacks its checksum
abbrev lacks : ConnEnd → Event → Bool
lacks e (Took tpdu sum) = wants_sum e.base e.stage tpdu && not sum
lacks e other = false

lacking : (e : ConnEnd) (now : ℕ) (event : Event) → lacks e event ≡ true → stepped whole now e event ≡ untaken e.base e.stage
lacking e now (Took tpdu sum) is = cond-true _ _ _ is
lacking e now other is = absurd cc

gives_none : (e : ConnEnd) (event : Event) → lacks e event ≡ true → given event ≡ []
gives_none e (Took tpdu sum) is = refl
gives_none e other is = absurd cc

-- ---- the step of the history

-- the history and the lines after a step of end k
abbrev after_step : Whole → ℕ → End → List Offer → Doing → Whole
after_step w k new offers doing = record { base = acted w.base k new offers; track = done w.track k doing }

record Wrote (times : Times) (titles : List (List ℕ)) (w new : Whole) (journal : List Told) : Type 0 where
  written : Written times titles new journal
  later : IsLater w.base new.base
  stay : Stay w.base new.base

module _ (times : Times) (fit : AreFit times) (titles : List (List ℕ)) (w : Whole) (journal : List Told) (written : Written times titles w journal) (k : ℕ) (low : k < w.base.count) (held : (w.base.end k).is_out ≡ false)
    (made : List Told) (none : MakesNone made) (new : End) (offers : List Offer) (doing : Doing) where
  kept : Kept times titles w journal
  kept = written_kept times titles w journal fit written

  by_act : IsMove times w.base.clock k Alone (w.base.end k) new offers → MayDo times w k new None doing → ((p : Offer) → Contains offers p → Noted w.base (done w.track k doing) k w.base.clock p.tpdu.body)
      → MayTell w k doing made → Wrote times titles w (after_step w k new offers doing) (journal ++ made)
  by_act move may noted tells = record {
    written = written_more times titles w journal (record { step = Act k new offers; doing = doing }) made written (record { may = (low, held, move); lines = (may, noted); makes = (tells, none) });
    later = step_later times fit w.base (Act k new offers) (low, held, move) kept.sound;
    stay = step_stay times fit w.base kept.sound kept.agreed (Act k new offers) (low, held, move);
  }

  by_take : (e : ConnEnd) (n : ℕ) (event : Event) (taken : Option Offer) → lacks e event ≡ false → Comes times w.base k n event taken → IsMove times w.base.clock k (cause_of e n event) (w.base.end k) new offers
      → MayDo times w k new taken doing → ((p : Offer) → Contains offers p → Noted w.base (done w.track k doing) k w.base.clock p.tpdu.body)
      → MayTell w k doing made → Wrote times titles w (after_step w k new offers doing) (journal ++ made)
  by_take e n (Took tpdu sum) taken takes comes move may noted tells =
      let hears : IsMove times w.base.clock k (Heard (seen n tpdu)) (w.base.end k) new offers =
      subst (λ (b : Bool). IsMove times w.base.clock k (if b then Alone else Heard (seen n tpdu)) (w.base.end k) new offers) takes move in
      record {
        written = written_more times titles w journal (record { step = Take k comes.0 (seen n tpdu) new offers; doing = doing }) made written
            (record { may = (comes.2, hears); lines = (subst (λ (o : Option Offer). MayDo times w k new o doing) comes.1 may, noted); makes = (tells, none) });
        later = step_later times fit w.base (Take k comes.0 (seen n tpdu) new offers) (comes.2, hears) kept.sound;
        stay = step_stay times fit w.base kept.sound kept.agreed (Take k comes.0 (seen n tpdu) new offers) (comes.2, hears);
      }
  by_take e n other taken takes comes move may noted tells = by_act move (subst (λ (o : Option Offer). MayDo times w k new o doing) comes may) noted tells

-- ---- what is offered

offered_at : (h : History) (clock k : ℕ) (address own : List ℕ) (before : List Offer) (tpdus : List Sent) (offers : List Offer) → address ≡ own → h.offers ≡ before ++ offers → AreOffersOf clock k address tpdus offers
    → AreSendable tpdus → AreOffered h clock own tpdus
offered_at h clock k address own before [] offers same all are sendable = tt
offered_at h clock k address own before (sent ∷ tpdus) [] same all are sendable = absurd are
offered_at h clock k address own before (sent ∷ tpdus) (o ∷ offers) same all are sendable = (
  record {
    offer = o;
    n = are.0.n;
    offered = subst (λ (os : List Offer). Contains os o) (sym all) (Contains-append_right before (o ∷ offers) o (Contains-append_left (o ∷ []) offers o (Contains-push [] o)));
    tick_is = ap (λ (x : Offer). x.tick) are.0.is;
    from_is = ap (λ (x : Offer). x.from) are.0.is ∙ same;
    to_is = ap (λ (x : Offer). x.to) are.0.is;
    seen_as = ap (λ (x : Offer). x.tpdu) are.0.is;
    numbered = are.0.numbered;
    format = ap (λ (x : Offer). x.is_extended) are.0.is;
    sendable = sendable.0;
  },
  offered_at h clock k address own (before ++ o ∷ []) tpdus offers same (all ∙ sym (append_assoc before (o ∷ []) offers)) are.1 sendable.1,
)

-- ---- an end that goes on

same_frames : (h : History) → Frames h h
same_frames h = record {
  later = record { clock = omega arith; count = omega arith; end = λ k low. end_same h.clock (h.end k); restarts = λ address r c. c };
  count = refl;
  stay = λ k terms low agreed. agreed;
  restarts = refl;
}

-- the halves are of the reference of the end
pub stage_of : (birth : Birth) (took last : ℕ) (b : EndRecord) (stage : StateData) → IsSeenIn birth took last b stage → IsStageOf b.own stage
stage_of birth took last b (stages.AkWait w) at = (ap (λ (r : FlowRules). r.own) at.halves.sending, ap (λ (r : FlowRules). r.own) at.halves.receiving)
stage_of birth took last b (stages.Opened o) at = (ap (λ (r : FlowRules). r.own) at.halves.sending, ap (λ (r : FlowRules). r.own) at.halves.receiving)
stage_of birth took last b other at = tt

module _ (titles : List (List ℕ)) (timers : Timers) (w : Whole) (journal : List Told) (entities : List Placed) (ends : List EndAt) (known : Known titles timers w journal entities ends)
    (system : ℕ) (entity other : Entity) (reference : ℕ) (e : ConnEnd) (kn : IsKnown w entity.own reference e) (n : ℕ) (event : Event) (taken : Option Offer)
    (is : entity_at entities system ≡ Some entity) (there : end_at entity reference ≡ Some e) (like : IsLike w.base.clock entity other) (proper : IsProperEvent e event) where
  abbrev m : Moved
  m = stepped whole w.base.clock e event

  abbrev place : Entity
  place = with_end other reference (Some (end_of m))

  abbrev made : List Told
  made = first_of (kn.k + 1) event ++ events_after ends system entity.own m.events

  all : Kept (times_of timers) titles w journal
  all = keeps titles timers w journal entities ends known

  timed : e.base.timers ≡ timers
  timed = (known.holds system entity is).theirs reference e there

  sees : Sees (times_of timers) w.base.clock (w.base.end kn.k) e
  sees = subst (λ (t : Timers). Sees (times_of t) w.base.clock (w.base.end kn.k) e) timed kn.sees

  number : latest ends system reference ≡ kn.k + 1
  number = number_at titles timers w journal entities ends known system entity reference kn.k is kn.at

  told : AreTold reference m.events
  told = subst (λ (r : ℕ). AreTold r m.events) (sym kn.sees.reference ∙ kn.at.reference_is)
      (row_of whole w.base.clock e.base.own e event (refl, stage_of (w.base.end kn.k).birth (w.base.end kn.k).took (w.base.end kn.k).latest e.base e.stage kn.sees.state)).told

  says : Says kn.k event m made
  says = record {
    none = tells_none ends system entity.own reference (kn.k + 1) event m.events told number;
    gave = given_own ends system entity.own reference (kn.k + 1) event m.events told number;
    showed = shown_own ends system entity.own reference (kn.k + 1) event m.events told number;
    others = λ end apart. (given_other ends system entity.own reference (kn.k + 1) event m.events told number end apart, shown_other ends system entity.own reference (kn.k + 1) event m.events told number end apart);
  }

  same_ends : ends_after ends system m.events ≡ ends
  same_ends = ends_stay system entity.own ends reference m.events told

  -- the timers of what stands at a reference
  place_timed : (one : ConnEnd) → Some (end_of m) ≡ Some one → one.base.timers ≡ timers
  place_timed one at = let same : end_of m ≡ one = cc at in ap (λ (x : ConnEnd). x.base.timers) (sym same) ∙ (row_leaves whole w.base.clock e event).same.timers ∙ timed

  -- another end that stands is another end of the history
  other_k : (own : List ℕ) (r : ℕ) (one : ConnEnd) (o : IsKnown w own r one) → (own ≡ entity.own → r ≡ reference → ⊥) → o.k ≢ kn.k
  other_k own r one o apart same =
      apart (sym o.at.address ∙ ap (λ (j : ℕ). (w.base.end j).birth.address) same ∙ kn.at.address) (sym o.at.reference_is ∙ ap (λ (j : ℕ). (w.base.end j).birth.reference) same ∙ kn.at.reference_is)

  module _ (going : (w.base.end kn.k).stop ≡ None) (fit : IsFit e event) (sourced : IsSourced n event) (takes : lacks e event ≡ false) (comes : Comes (times_of timers) w.base kn.k n event taken)
      (flowing : Flowing) (hears : (z : ℕ) (terms : Terms) → IsPartner w.base kn.k z → AreTerms w.base kn.k z terms → IsKnownEvent terms e.base e.stage taken event (w.track kn.k) (w.track z)) where
    mv : Moves (times_of timers) w.base.clock (cause_of e n event) (w.base.end kn.k) m
    mv = end_moved whole (times_of timers) w.base.clock n (w.base.end kn.k) e event sees going fit sourced kn.proper proper

    d : Did (times_of timers) w all.sound all.tracked kn.k timers e event taken kn.at.low sees timed (cause_of e n event) mv made
    d = did (times_of timers) w all.sound all.tracked kn.k timers e event taken kn.at.low sees timed (cause_of e n event) mv made flowing says n (ap (λ (t : Timers). t.life) (sym timed)) kn.proper proper comes kn.stands hears

    move : IsMove (times_of timers) w.base.clock kn.k (cause_of e n event) (w.base.end kn.k) mv.new d.offers
    move = mv.move kn.k d.offers d.are

    abbrev new : Whole
    new = after_step w kn.k mv.new d.offers d.doing

    wrote : Wrote (times_of timers) titles w (after_step w kn.k mv.new d.offers d.doing) (journal ++ made)
    wrote = by_take (times_of timers) (fit_times timers) titles w journal known.written kn.k kn.at.low kn.at.held made (made_none ends system entity.own reference (kn.k + 1) event m.events told number) mv.new d.offers d.doing e n event taken takes comes move d.may d.noted d.tells

    frames : Frames w.base (acted w.base kn.k mv.new d.offers)
    frames = record { later = wrote.later; count = refl; stay = wrote.stay; restarts = refl }

    here : IsKnown new entity.own reference (end_of m)
    here = record {
      k = kn.k;
      at = at_on w.base (acted w.base kn.k mv.new d.offers) frames entity.own reference kn.k (ap (λ (x : End). x.is_out) (end_here w.base.end kn.k mv.new) ∙ move.is_held) kn.at;
      sees = subst (λ (x : End). Sees (times_of m.base.timers) w.base.clock x (end_of m)) (sym (end_here w.base.end kn.k mv.new))
          (subst (λ (t : Timers). Sees (times_of t) w.base.clock mv.new (end_of m)) (sym ((row_leaves whole w.base.clock e event).same.timers ∙ timed)) mv.sees);
      proper = (step_row whole w.base.clock e event kn.proper proper).proper;
      stands = λ z terms p are. d.own z terms (partner_back w.base (acted w.base kn.k mv.new d.offers) frames kn.k z p) are;
    }

    others : (own : List ℕ) (r : ℕ) (one : ConnEnd) → IsKnown w own r one → one.base.timers ≡ timers → (own ≡ entity.own → r ≡ reference → ⊥) → IsKnown new own r one
    others own r one o timed_ apart =
        let k_apart = other_k own r one o apart in
        known_stays w new frames own r one o refl (end_other w.base.end kn.k mv.new o.k k_apart)
        (λ z terms p are. let q = partner_back w.base (acted w.base kn.k mv.new d.offers) frames o.k z p in d.others o.k z terms one.base one.stage k_apart q timed_ are (λ before. o.stands z terms q before))

    begun : (a b : ℕ) (terms : Terms) → IsCaller (acted w.base kn.k mv.new d.offers) a b → ((acted w.base kn.k mv.new d.offers).end b).agreed ≡ Some terms → HaveBegun new a b terms
    begun a b terms p agreed = elim (cases_eq b kn.k) [
      | inl same ↦
          (let q = calls_back w.base (acted w.base kn.k mv.new d.offers) frames a b p in
          let c : IsCaller w.base a kn.k = subst (λ (j : ℕ). IsCaller w.base a j) same q in
          let now_agreed : (mv.new).agreed ≡ Some terms = ap (λ (x : End). x.agreed) (sym (end_here w.base.end kn.k mv.new)) ∙ ap (λ (j : ℕ). (set_end w.base.end kn.k mv.new j).agreed) (sym same) ∙ agreed in
          subst (λ (j : ℕ). HaveBegun new a j terms) (sym same) (elim (d.begun a terms c now_agreed) [
            | inl was ↦ on_both a kn.k terms (known.begun a kn.k terms c was)
            | inr both ↦ record { own = both.0; theirs = both.1 }
          ]))
      | inr apart ↦ on_both a b terms (known.begun a b terms (calls_back w.base (acted w.base kn.k mv.new d.offers) frames a b p) (ap (λ (x : End). x.agreed) (sym (end_other w.base.end kn.k mv.new b apart)) ∙ agreed))
    ]
      where
        on_both : (a b : ℕ) (terms : Terms) → HaveBegun w a b terms → HaveBegun new a b terms
        on_both a b terms h = record {
          own = has_begun_on (times_of timers) w all.sound all.tracked kn.k mv.new taken d.doing d.may a terms h.own;
          theirs = has_begun_on (times_of timers) w all.sound all.tracked kn.k mv.new taken d.doing d.may b terms h.theirs;
        }

    after : Known titles timers new (journal ++ made) (with_entity entities system place) ends
    after = known_on titles timers w journal entities ends known new made wrote.written frames (with_entity entities system place) (owners_with entities system entity place is like.own like.restarted)
        (holds_on titles timers w journal entities ends known new frames refl system entity other is like reference e there (Some (end_of m)) others here place_timed) begun

    goes_on : Follows titles timers w journal entities ends system entity.own (first_of (kn.k + 1) event) (moved other reference m)
    goes_on = record {
      new = new;
      goes_on = record { clock = refl; offers = λ o c. Contains-append_left w.base.offers d.offers o c };
      known = subst (λ (told_ : List Told). Known titles timers new told_ (with_entity entities system place) (ends_after ends system m.events)) (sym (append_assoc journal (first_of (kn.k + 1) event) (events_after ends system entity.own m.events)))
          (subst (Known titles timers new (journal ++ made) (with_entity entities system place)) (sym same_ends) after);
      offered = offered_at (acted w.base kn.k mv.new d.offers) w.base.clock kn.k (w.base.end kn.k).birth.address entity.own w.base.offers m.tpdus d.offers kn.at.address refl d.are (step_row whole w.base.clock e event kn.proper proper).tpdus;
    }

  -- an end that is frozen
  module _ (when : ℕ) (over : (w.base.end kn.k).stop ≡ Some when) (fit : IsFit e event) where
    rests : Sees (times_of timers) w.base.clock (w.base.end kn.k) (end_of m) × (m.events ≡ []) × (m.tpdus ≡ [])
    rests = end_stays whole (times_of timers) w.base.clock when (w.base.end kn.k) e event sees over fit

    rests_here : IsKnown w entity.own reference (end_of m)
    rests_here = record {
      k = kn.k;
      at = kn.at;
      sees = subst (λ (t : Timers). Sees (times_of t) w.base.clock (w.base.end kn.k) (end_of m)) (sym ((row_leaves whole w.base.clock e event).same.timers ∙ timed)) rests.0;
      proper = (step_row whole w.base.clock e event kn.proper proper).proper;
      stands = λ z terms p are. subst (λ (stage : StateData). Stands terms m.base stage (w.track kn.k) (w.track z)) (sym (frozen_since (times_of timers) w.base.clock when (w.base.end kn.k) (end_of m) rests.0 over)) tt;
    }

    no_first : (ev : Event) → IsProperEvent e ev → first_of (kn.k + 1) ev ≡ []
    no_first (Called call) may = absurd (no_call e.base e.stage call (frozen_since (times_of timers) w.base.clock when (w.base.end kn.k) e sees over) may.0)
      where
        no_call : (b : EndRecord) (stage : StateData) (call : UserCall) → stage ≡ stages.Frozen when → call_refusal b stage call ≡ None → ⊥
        no_call b stage call is none = let h = subst (λ (s : StateData). call_refusal b s call ≡ None) is none in cc h
    no_first other may = refl

    same_journal : (journal ++ first_of (kn.k + 1) event) ++ events_after ends system entity.own m.events ≡ journal
    same_journal =
        ap (λ (told_ : List EndEvent). (journal ++ first_of (kn.k + 1) event) ++ events_after ends system entity.own told_) rests.1 ∙ append-nil (journal ++ first_of (kn.k + 1) event)
        ∙ ap (λ (first : List Told). journal ++ first) (no_first event proper) ∙ append-nil journal

    stays : Follows titles timers w journal entities ends system entity.own (first_of (kn.k + 1) event) (moved other reference m)
    stays = record {
      new = w;
      goes_on = record { clock = refl; offers = λ o c. c };
      known = subst (λ (told_ : List Told). Known titles timers w told_ (with_entity entities system place) (ends_after ends system m.events)) (sym same_journal)
          (subst (Known titles timers w journal (with_entity entities system place)) (sym same_ends)
          (known_with titles timers w journal entities ends known (with_entity entities system place) (owners_with entities system entity place is like.own like.restarted)
          (holds_on titles timers w journal entities ends known w (same_frames w.base) refl system entity other is like reference e there (Some (end_of m)) (λ own r one o timed_ apart. o) rests_here place_timed)));
      offered = subst (AreOffered w.base w.base.clock entity.own) (sym rests.2) tt;
    }

  -- a TPDU that lacks its checksum
  module _ (untaken_is : lacks e event ≡ true) where
    row_is : m ≡ untaken e.base e.stage
    row_is = lacking e w.base.clock event untaken_is

    aside : IsAside made
    aside = record {
      units = tells_none ends system entity.own reference (kn.k + 1) event m.events told number (gives_none e event untaken_is) (ap (λ (x : Moved). shown_in x.events) row_is);
      ends = made_none ends system entity.own reference (kn.k + 1) event m.events told number;
    }

    untaken_here : IsKnown (note (times_of timers) w) entity.own reference (end_of m)
    untaken_here = subst (IsKnown (note (times_of timers) w) entity.own reference) (sym (ap end_of row_is)) (note_known titles timers w journal entities ends known entity.own reference e kn)

    untaken_after : Known titles timers (note (times_of timers) w) (journal ++ made) (with_entity entities system place) ends
    untaken_after =
        known_on titles timers w journal entities ends known (note (times_of timers) w) made (note_written titles timers w journal entities ends known made aside) (note_frames titles timers w journal entities ends known)
        (with_entity entities system place) (owners_with entities system entity place is like.own like.restarted)
        (holds_on titles timers w journal entities ends known (note (times_of timers) w) (note_frames titles timers w journal entities ends known) refl system entity other is like reference e there (Some (end_of m))
        (λ own r one o timed_ apart. note_known titles timers w journal entities ends known own r one o) untaken_here place_timed)
        (note_begun titles timers w journal entities ends known)

    tells : Follows titles timers w journal entities ends system entity.own (first_of (kn.k + 1) event) (moved other reference m)
    tells = record {
      new = note (times_of timers) w;
      goes_on = record { clock = refl; offers = λ o c. c };
      known = subst (λ (told_ : List Told). Known titles timers (note (times_of timers) w) told_ (with_entity entities system place) (ends_after ends system m.events)) (sym (append_assoc journal (first_of (kn.k + 1) event) (events_after ends system entity.own m.events)))
          (subst (Known titles timers (note (times_of timers) w) (journal ++ made) (with_entity entities system place)) (sym same_ends) untaken_after);
      offered = subst (λ (x : Moved). AreOffered (note (times_of timers) w).base w.base.clock entity.own x.tpdus) (sym row_is) tt;
    }

-- ---- all in all

pub acts : Flowing → (titles : List (List ℕ)) (timers : Timers) → Acts titles timers
acts flowing titles timers w journal entities ends system entity other reference e kn n event taken known is there like fit sourced proper comes hears = elim (cases_Bool (lacks e event)) [
  | inl lacking_ ↦ tells titles timers w journal entities ends known system entity other reference e kn n event taken is there like proper lacking_
  | inr takes ↦ by (w.base.end kn.k).stop refl takes
]
  where
    by : (stop : Option ℕ) → (w.base.end kn.k).stop ≡ stop → lacks e event ≡ false → Follows titles timers w journal entities ends system entity.own (first_of (kn.k + 1) event) (moved other reference (stepped whole w.base.clock e event))
    by None going takes = goes_on titles timers w journal entities ends known system entity other reference e kn n event taken is there like proper going fit sourced takes comes flowing hears
    by (Some when) over takes = stays titles timers w journal entities ends known system entity other reference e kn n event taken is there like proper when over fit
