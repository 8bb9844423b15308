-- A TPDU comes that is no CR: the end that it matches takes it, or the entity tells it, and answers a CC and a DR.
use Rattle.std.proofs.Common.{◌≡◌, ◌==◌, ◌&&◌, inl, inr, ℕ, ◌+◌, ◌≤◌, Bool, true, false, List, [], ◌∷◌, Option, Some, None, refl, sym, ap, subst, ◌∙◌, arith, Contains}
use Rattle.std.specs.Prelude.{if◌then◌else◌}
use Rattle.std.proofs.lemmas.Bool.{eqb-false}
use Rattle.script_journal.specs.declared.event.Event.{Event}
use Rattle.tpdu.specs.declared.tpdu.Format.{Format}
use Rattle.tpdu.specs.declared.tpdu.Tpdu.{Tpdu as WireTpdu}
use Rattle.tpdu.specs.declared.tpdu.Tpdu.TheVariants as wires
use Rattle.tpdu.specs.Kinds.{has_number}
use Rattle.tpdu.specs.Values.{destination_of, format_for}
use Rattle.tpdu.specs.Writing.{IsAllowed, kind_for}
use Rattle.tp4_number.specs.Formats.{block_of}
use Rattle.tp4_number.specs.Number.{whole}
use Rattle.tp4_flow.specs.declared.step.EndEvent.{EndEvent}
use Rattle.tp4_flow.specs.declared.step.Sent.{Sent}
use Rattle.tp4_flow.specs.declared.step.What.TheVariants.{Unknown}
use Rattle.tp4_conn.specs.declared.end_record.EndRecord.{EndRecord}
use Rattle.tp4_conn.specs.declared.states.StateData.{StateData}
use Rattle.tp4_conn.specs.declared.timers.Timers.{Timers}
use Rattle.tp4_conn.specs.Agreeing.{is_extended}
use Rattle.tp4_conn.specs.End.{End, agreed_format}
use Rattle.tp4_conn.specs.Matching.{fits, is_match}
use Rattle.tp4_conn.specs.Table.{Took, stepped}
use Rattle.tp4_entity.specs.Association.{answer, met_at, met_by, refusal, unmatched}
use Rattle.tp4_entity.specs.Entity.{Entity, end_at, moved}
use Rattle.tp4_entity.specs.Unit.{extended_of}
use Rattle.tp4_entity.specs.steps.Places.{format_of}
use Rattle.tp4_entity.proofs.Formats.{format_is}
use Rattle.law_tp4_history.specs.Ends.{Times, Terms, Cc, Dr, Flow, Tpdu, Offer, Sent as SentBy}
use Rattle.law_tp4_history.specs.History.{IsPartner, IsTaken, answers_to}
use Rattle.law_tp4_history.specs.Journals.{IsAside}
use Rattle.law_tp4_history.specs.Tracks.{Track, Whole, IsTold}
use Rattle.law_tp4_history.proofs.Agreed.{Agreed, in_format}
use Rattle.law_tp4_history.proofs.Meets.{Meets, Of_partner, Of_entity, meets, swap}
use Rattle.law_tp4_history.proofs.Sound.{Sound, one_partner}
use Rattle.law_tp4_history.proofs.Taken.{taken_from}
use Rattle.law_tp4_history.proofs.Tracked.{Tracked, all_told, reached_base}
use Rattle.law_tp4_history.proofs.Written.{Kept, written_kept, written_reached}
use Rattle.law_tp4_history.specs.Lines.{IsKnownEvent}
use Rattle.law_tp4_history.specs.Moves.{times_of}
use Rattle.law_tp4_history.specs.Seen.{IsNumbered, seen}
use Rattle.law_tp4_history.proofs.Beginnings.{fit_times}
use Rattle.law_tp4_history.proofs.Sources.{read_sourced}
use Rattle.law_tp4_history.proofs.FlowRows.{same_format}
use Rattle.law_tp4_history.proofs.WorkedSteps.{one_event}
use Rattle.tp4_world.specs.Telling.{events_after}
use Rattle.tp4_world.specs.World.{entity_at}
use Rattle.tp4_world.specs.declared.place.EndAt.{EndAt}
use Rattle.tp4_world.specs.declared.place.Placed.{Placed}
use Rattle.law_tp4_lawful.proofs.Acting.{Acts}
use Rattle.law_tp4_lawful.proofs.Known.{AreTerms, IsKnown, IsOffered, IsReadAs, IsThere, Known}
use Rattle.law_tp4_lawful.proofs.Worlds.{Follows}
use Rattle.law_tp4_lawful.proofs.MeetsAside.{noted, replied}
use Rattle.law_tp4_lawful.proofs.ReferencesMet.{agreed_is, is_flow, no_request, target_of}

-- what an end has to know of an offer that it takes
abbrev pub KnowsTaken : Type 0
KnowsTaken = (times : Times) (w : Whole) (terms : Terms) (b : EndRecord) (stage : StateData) (tpdu : WireTpdu) (sum : Bool) (x n : ℕ) (o : Offer) (own : Track) → IsTold times w
    → Contains w.base.offers o → o.tpdu ≡ seen n tpdu → (o.tpdu.kind ≡ Flow → IsNumbered (block_of (agreed_format b.agreed)) n tpdu) → (o.tpdu.kind ≡ Flow → o.origin ≡ SentBy x)
    → (o.tpdu.kind ≡ Cc → (own.is_begun ≡ true) × (o.tpdu.terms ≡ terms)) → IsKnownEvent terms b stage (Some o) (Took tpdu sum) own (w.track x)

both : (a b : Bool) → (a && b) ≡ true → b ≡ true
both true b h = h
both false b h = absurd cc

module _ (titles : List (List ℕ)) (timers : Timers) (w : Whole) (journal : List Event) (entities : List Placed) (ends : List EndAt) (known : Known titles timers w journal entities ends)
    (system : ℕ) (entity : Entity) (at : entity_at entities system ≡ Some entity)
    (tick : ℕ) (from : List ℕ) (sent : Sent) (io : IsOffered w.base tick from sent) (to : sent.to ≡ entity.own) (soon : w.base.clock ≤ tick + timers.life) where
  abbrev o : Offer
  o = io.offer

  fresh : w.base.clock ≤ o.tick + timers.life
  fresh = omega (arith, soon, io.tick_is)

  to_own : o.to ≡ entity.own
  to_own = io.to_is ∙ to

  -- ---- it belongs to no end

  abbrev told : WireTpdu → List EndEvent
  told t = record { reference = 0; what = Unknown (kind_for t) } ∷ []

  aside : (t : WireTpdu) → IsAside (events_after ends system entity.own (told t))
  aside t = record { units = λ end. (refl, refl); ends = one_event _ refl }

  abbrev reply : WireTpdu → Offer
  reply t = record { tick = w.base.clock; from = entity.own; to = from; tpdu = seen 0 t; is_extended = false; origin = answers_to o o.origin }

  unmatched_dr : (t : WireTpdu) (destination source : ℕ) → (b : Bool) → (source == 0) ≡ b → o.tpdu.kind ≡ Dr → o.tpdu.source ≡ source
      → Follows titles timers w journal entities ends system entity.own [] (record { entity = entity; events = told t; tpdus = if b then [] else answer from (wires.Dc source destination) ∷ [] })
  unmatched_dr t destination source true zero_source kind source_is = noted titles timers w journal entities ends known system entity at (told t) (aside t) refl
  unmatched_dr t destination source false some_source kind source_is =
      replied titles timers w journal entities ends known system entity at (told t) (aside t) refl o (answer from (wires.Dc source destination)) (reply (wires.Dc source destination))
      (record {
        offered = io.offered;
        fresh = fresh;
        kind = inr (inr (kind, λ e. eqb-false source 0 some_source (sym source_is ∙ e)));
        tick = refl;
        to = sym io.from_is;
        target = sym source_is;
        origin = refl;
        answers = inr (refl, kind);
      }) refl refl refl tt refl (tt, tt)

  unmatched_after : (t : WireTpdu) (sum : Bool) → IsReadAs entity sent (t, sum) → Follows titles timers w journal entities ends system entity.own [] (unmatched entity from t)
  unmatched_after (wires.Cc credit destination source width calling called size preferred extra version classes ack_time text) sum reading =
      let cc_tpdu : WireTpdu = wires.Cc credit destination source width calling called size preferred extra version classes ack_time text in
      let is : o.tpdu ≡ seen io.n cc_tpdu = io.seen_as ∙ ap (seen io.n) (sym (reading.control (ap has_number (sym reading.kind)))) in
      replied titles timers w journal entities ends known system entity at (told cc_tpdu) (aside cc_tpdu) refl o (refusal from source 132) (reply (wires.Dr source 0 132 None []))
      (record {
        offered = io.offered;
        fresh = fresh;
        kind = inr (inl (ap (λ (x : Tpdu). x.kind) is));
        tick = refl;
        to = sym io.from_is;
        target = sym (ap (λ (x : Tpdu). x.source) is);
        origin = refl;
        answers = inl (refl, refl);
      }) refl refl refl tt refl (refl, omega arith)
  unmatched_after (wires.Dr destination source reason info text) sum reading =
      let dr : WireTpdu = wires.Dr destination source reason info text in
      let is : o.tpdu ≡ seen io.n dr = io.seen_as ∙ ap (seen io.n) (sym (reading.control (ap has_number (sym reading.kind)))) in
      unmatched_dr dr destination source (source == 0) refl (ap (λ (x : Tpdu). x.kind) is) (ap (λ (x : Tpdu). x.source) is)
  unmatched_after other sum reading = noted titles timers w journal entities ends known system entity at (told other) (aside other) refl

  -- ---- an end takes it

  kept : Kept (times_of timers) titles w journal
  kept = written_kept (times_of timers) titles w journal (fit_times timers) known.written

  sound : Sound (times_of timers) w.base
  sound = kept.sound

  agreed : Agreed w.base
  agreed = kept.agreed

  tracked : Tracked (times_of timers) w
  tracked = kept.tracked

  module _ (t : WireTpdu) (sum : Bool) (reading : IsReadAs entity sent (t, sum)) (reference : ℕ) (e : End) (destination : destination_of t ≡ Some reference) (own : IsKnown w entity.own reference e)
      (stands : end_at entity reference ≡ Some e) (match : is_match e.base e.stage from t ≡ true) where
    sent_to : destination_of sent.tpdu ≡ Some reference
    sent_to = sym reading.target ∙ destination

    wanted : format_for (extended_of entity) (Some reference) ≡ agreed_format e.base.agreed
    wanted = format_is entity reference ∙ ap format_of stands

    target_is : o.tpdu.target ≡ reference
    target_is = ap (λ (x : Tpdu). x.target) io.seen_as ∙ target_of sent.tpdu io.n reference sent_to

    -- a flow TPDU is in the format of the end
    format_same : o.tpdu.kind ≡ Flow → sent.format ≡ agreed_format e.base.agreed
    format_same flow =
        let f = in_format (times_of timers) w.base sound agreed own.k o own.at.low own.at.held io.offered fresh flow (to_own ∙ sym own.at.address) (target_is ∙ sym own.at.reference_is) in
        same_format sent.format (agreed_format e.base.agreed)
        (agreed_is e.base.agreed f.0 (is_extended sent.format) (sym own.sees.agreed ∙ f.1) (sym io.format ∙ f.2))

    by_kind : (b : Bool) → has_number (kind_for sent.tpdu) ≡ b → t ≡ sent.tpdu
    by_kind false no_number = reading.control no_number
    by_kind true number =
        let flow : o.tpdu.kind ≡ Flow = ap (λ (x : Tpdu). x.kind) io.seen_as ∙ is_flow sent.tpdu io.n number in
        reading.flow (ap (format_for (extended_of entity)) sent_to ∙ wanted ∙ sym (format_same flow))

    as_sent : t ≡ sent.tpdu
    as_sent = by_kind (has_number (kind_for sent.tpdu)) refl

    pub is : o.tpdu ≡ seen io.n t
    is = io.seen_as ∙ ap (seen io.n) (sym as_sent)

    pub taken : IsTaken (times_of timers) w.base own.k o (seen io.n t)
    taken = record {
      y_low = own.at.low;
      offered = io.offered;
      fresh = fresh;
      reading = record { kind = sym (ap (λ (x : Tpdu). x.kind) is); target = sym (ap (λ (x : Tpdu). x.target) is); control = λ _. sym is };
      no_request = λ request. no_request t io.n reference destination (sym (ap (λ (x : Tpdu). x.kind) is) ∙ request);
      address = to_own ∙ sym own.at.address;
      target = target_of t io.n reference destination ∙ sym own.at.reference_is;
      is_held = own.at.held;
    }

    pub number : o.tpdu.kind ≡ Flow → IsNumbered (block_of (agreed_format e.base.agreed)) io.n t
    number flow =
        subst (λ (x : WireTpdu). IsNumbered (block_of (agreed_format e.base.agreed)) io.n x) (sym as_sent)
        (subst (λ (x : Format). IsNumbered (block_of x) io.n sent.tpdu) (format_same flow) io.numbered)

    -- a CC is of the partner
    confirm_from : o.tpdu.kind ≡ Cc → Meets (times_of timers) w.base sound o own.k → (z : ℕ) → IsPartner w.base own.k z → o.origin ≡ SentBy z
    confirm_from kind (Of_partner x origin f g same) z p =
        let one : x ≡ z = one_partner (times_of timers) w.base sound own.k x z (swap w.base x own.k (subst (λ (i : ℕ). IsPartner w.base x i) same g.partner)) p in
        subst (λ (i : ℕ). o.origin ≡ SentBy i) one origin
    confirm_from kind (Of_entity since origin f) z p = elim f.kind [ inl dr ↦ absurd (cc (dr.0, kind)) | inr dc ↦ absurd (cc (dc, kind)) ]

    confirms : (z : ℕ) (terms : Terms) → IsPartner w.base own.k z → AreTerms w.base own.k z terms → (w.base.end z).agreed ≡ Some o.tpdu.terms
        → ((w.track own.k).is_begun ≡ true) × (o.tpdu.terms ≡ terms)
    confirms z terms (inl c) said there = ((known.begun own.k z o.tpdu.terms c there).own.begun, said.theirs c.called o.tpdu.terms there)
    confirms z terms (inr c) said there =
        let here = agreed.both z own.k o.tpdu.terms c there in ((known.begun z own.k o.tpdu.terms c here).theirs.begun, said.own c.called o.tpdu.terms here)

    says : (z : ℕ) (terms : Terms) → IsPartner w.base own.k z → AreTerms w.base own.k z terms → o.tpdu.kind ≡ Cc → ((w.track own.k).is_begun ≡ true) × (o.tpdu.terms ≡ terms)
    says z terms p said kind =
        let met = meets (times_of timers) w.base sound own.k o own.at.low own.at.held io.offered fresh (λ request. cc (request, kind)) (to_own ∙ sym own.at.address) (target_is ∙ sym own.at.reference_is) in
        confirms z terms p said (agreed.confirms o z io.offered (confirm_from kind met z p) kind)

    module _ (acts : Acts titles timers) (knows : KnowsTaken) where
      takes : Follows titles timers w journal entities ends system entity.own [] (moved entity reference (stepped whole w.base.clock e (Took t sum)))
      takes =
          let reached = written_reached (times_of timers) titles w journal known.written in
          acts w journal entities ends system entity entity reference e own io.n (Took t sum) (Some o) known at stands
          (record { own = refl; timers = refl; ends = refl; restarted = refl; clock = (known.holds system entity at).clock })
          (both _ (fits e.base e.stage t) match)
          (read_sourced (times_of timers) w.base o (seen io.n t) (fit_times timers) (reached_base (times_of timers) w reached) io.offered taken.reading)
          (subst (λ (x : Format). IsAllowed x t) (ap (format_for (extended_of entity)) destination ∙ wanted) reading.allowed)
          (o, refl, taken)
          (λ z terms p said. knows (times_of timers) w terms e.base e.stage t sum z io.n o (w.track own.k) (all_told (times_of timers) w (fit_times timers) reached) io.offered is number
          (λ flow. taken_from (times_of timers) w sound tracked own.k o (seen io.n t) taken flow z p) (says z terms p said))

  -- ---- one of both

  module _ (acts : Acts titles timers) (knows : KnowsTaken) (t : WireTpdu) (sum : Bool) (reading : IsReadAs entity sent (t, sum)) where
    by_match : (reference : ℕ) (e : End) (b : Bool) → destination_of t ≡ Some reference → end_at entity reference ≡ Some e → is_match e.base e.stage from t ≡ b
        → Follows titles timers w journal entities ends system entity.own [] (if b then moved entity reference (stepped whole w.base.clock e (Took t sum)) else unmatched entity from t)
    by_match reference e true destination stands match =
        takes t sum reading reference e destination (subst (IsThere w entity.own reference) stands ((known.holds system entity at).there reference)) stands match acts knows
    by_match reference e false destination stands match = unmatched_after t sum reading

    by_place : (reference : ℕ) (place : Option End) → destination_of t ≡ Some reference → end_at entity reference ≡ place
        → Follows titles timers w journal entities ends system entity.own [] (met_by whole w.base.clock entity from (t, sum) reference place)
    by_place reference None destination stands = unmatched_after t sum reading
    by_place reference (Some e) destination stands = by_match reference e (is_match e.base e.stage from t) destination stands refl

    by_destination : (to_end : Option ℕ) → destination_of t ≡ to_end → Follows titles timers w journal entities ends system entity.own [] (met_at whole w.base.clock entity from (t, sum) to_end)
    by_destination None h = unmatched_after t sum reading
    by_destination (Some reference) h = by_place reference (end_at entity reference) h refl

    pub after_other : Follows titles timers w journal entities ends system entity.own [] (met_at whole w.base.clock entity from (t, sum) (destination_of t))
    after_other = by_destination (destination_of t) refl
