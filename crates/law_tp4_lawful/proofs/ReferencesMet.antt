-- A TPDU that is afloat and matches an end was offered to that end of the history, and is read as it was written: what has a number is in the format
-- on which the end agreed.
use Rattle.std.proofs.Common.{◌≡◌, ◌≢◌, inl, inr, ℕ, ◌+◌, ◌≤◌, Bool, true, false, List, [], ◌∷◌, Option, Some, None, refl, sym, ap, subst, ◌∙◌, arith, Contains}
use Rattle.std.specs.Prelude.{option_map}
use Rattle.std.proofs.lemmas.Option.{none-some, same_Some}
use Rattle.osi_base.specs.Link.{Link}
use Rattle.script_journal.specs.declared.event.Event.{Event}
use Rattle.tpdu.specs.declared.tpdu.Format.{Format}
use Rattle.tpdu.specs.declared.tpdu.Format.TheVariants as formats
use Rattle.tpdu.specs.declared.tpdu.Tpdu.{Tpdu as WireTpdu}
use Rattle.tpdu.specs.declared.tpdu.Tpdu.TheVariants as wires
use Rattle.tpdu.specs.Kinds.{has_number}
use Rattle.tpdu.specs.Values.{TpduAndSum, destination_of, format_for}
use Rattle.tpdu.specs.Writing.{kind_for}
use Rattle.tp4_number.specs.Formats.{block_of}
use Rattle.tpdu.specs.declared.service.Options.{Options}
use Rattle.tp4_flow.specs.declared.step.Sent.{Sent}
use Rattle.tp4_conn.specs.Agreeing.{is_extended}
use Rattle.tp4_conn.specs.End.{End, agreed_format}
use Rattle.tp4_conn.specs.declared.timers.Timers.{Timers}
use Rattle.tp4_entity.specs.Unit.{extended_of}
use Rattle.tp4_entity.specs.steps.Places.{format_of}
use Rattle.tp4_entity.proofs.Formats.{format_is}
use Rattle.law_tp4_history.specs.Ends.{Cr, Flow, Offer, Terms, Tpdu}
use Rattle.law_tp4_history.specs.History.{IsTaken}
use Rattle.law_tp4_history.specs.Tracks.{Whole}
use Rattle.law_tp4_history.proofs.Agreed.{in_format}
use Rattle.law_tp4_history.proofs.Written.{Kept}
use Rattle.law_tp4_history.specs.Moves.{times_of}
use Rattle.law_tp4_history.specs.Seen.{IsNumbered, seen, terms_of}
use Rattle.law_tp4_history.proofs.FlowRows.{same_format}
use Rattle.tp4_world.specs.World.{World}
use Rattle.law_tp4_lawful.specs.References.{ComesTo}
use Rattle.law_tp4_lawful.proofs.Known.{IsKnown, IsReadAs, IsThere}
use Rattle.law_tp4_lawful.proofs.Worlds.{Explains, IsBacked, OneInUnit}
use Rattle.law_tp4_lawful.proofs.FramesKnown.{keeps, number_at}

-- ---- what is seen of a TPDU

pub target_of : (t : WireTpdu) (n r : ℕ) → destination_of t ≡ Some r → (seen n t).target ≡ r
target_of (wires.Cr credit source width calling called size preferred extra version classes ack_time text) n r h = absurd (none-some _ h)
target_of other n r h = same_Some _ _ h

pub no_request : (t : WireTpdu) (n r : ℕ) → destination_of t ≡ Some r → (seen n t).kind ≢ Cr
no_request (wires.Cr credit source width calling called size preferred extra version classes ack_time text) n r h = absurd (none-some _ h)
no_request other n r h = λ e. cc e

pub is_flow : (t : WireTpdu) (n : ℕ) → has_number (kind_for t) ≡ true → (seen n t).kind ≡ Flow
is_flow (wires.Dt destination last number text) n h = refl
is_flow (wires.Ed destination last number text) n h = refl
is_flow (wires.Ak destination number credit subsequence confirmation) n h = refl
is_flow (wires.Ea destination number) n h = refl
is_flow other n h = absurd cc

-- the format that was agreed
pub agreed_is : (agreed : Option Options) (terms : Terms) (b : Bool) → option_map terms_of agreed ≡ Some terms → b ≡ terms.is_extended → b ≡ is_extended (agreed_format agreed)
agreed_is None terms b h e = absurd (none-some _ h)
agreed_is (Some options) terms b h e = e ∙ sym (ap (λ (t : Terms). t.is_extended) (same_Some _ _ h))

-- the only one of a list
pub only : (tpdus : List TpduAndSum) (one x : TpduAndSum) → tpdus ≡ one ∷ [] → Contains tpdus x → one ≡ x
only tpdus one x is among = by (subst (λ (xs : List TpduAndSum). Contains xs x) is among)
  where
    by : Contains (one ∷ []) x → one ≡ x
    by c = grind (arith, c)

pub none : (tpdus : List TpduAndSum) (x : TpduAndSum) → tpdus ≡ [] → Contains tpdus x → ⊥
none tpdus x is among = let c = subst (λ (xs : List TpduAndSum). Contains xs x) is among in omega (arith, c.1)

-- the TPDU was offered to that end
pub record IsMet (timers : Timers) (w : Whole) (y : ℕ) (own : List ℕ) (reference : ℕ) (e : End) (tick : ℕ) (from : List ℕ) (t : WireTpdu) : Type 0 where
  pub known : IsKnown w own reference e
  pub number : known.k + 1 ≡ y
  pub offer : Offer
  pub n : ℕ
  pub is : offer.tpdu ≡ seen n t
  pub taken : IsTaken (times_of timers) w.base known.k offer (seen n t)
  pub numbered : offer.tpdu.kind ≡ Flow → IsNumbered (block_of (agreed_format e.base.agreed)) n t
  pub tick_is : offer.tick ≡ tick
  pub from_is : offer.from ≡ from

module _ {C : Type 0} (link : C → Link (List ℕ)) (titles : List (List ℕ)) (timers : Timers) (w : Whole) (journal : List Event) (world : World C) (explains : Explains link titles timers w journal world)
    (one : OneInUnit) (y : ℕ) (t : WireTpdu) (c : ComesTo link world y t) where
  backed : IsBacked w.base c.tick c.unit
  backed = explains.carries.backed (c.tick, c.unit) c.floats c.transport

  abbrev sent : Sent
  sent = backed.sent

  read : IsReadAs c.entity sent (t, c.sum)
  read = elim (one (extended_of c.entity) c.unit.octets c.rest sent c.tpdus c.told backed.offered.sendable backed.written c.separates c.ends) [
    | inl r ↦
        (let is = only c.tpdus r.0 (t, c.sum) r.1 c.among in
        subst (λ (x : TpduAndSum). IsReadAs c.entity sent x) is (record { kind = r.3; target = r.4; control = r.5; flow = r.6; allowed = r.7 }))
    | inr bad ↦ absurd (none c.tpdus (t, c.sum) bad.2 c.among)
  ]

  known : IsKnown w c.entity.own c.reference c.end
  known = subst (IsThere w c.entity.own c.reference) c.is_end.stands ((explains.known.holds c.system c.entity c.is_end.there).there c.reference)

  kept : Kept (times_of timers) titles w journal
  kept = keeps titles timers w journal world.entities world.ends explains.known

  abbrev o : Offer
  o = backed.offered.offer

  fresh : w.base.clock ≤ o.tick + timers.life
  fresh = omega (arith, c.live, explains.carries.clock, explains.carries.bounds c.unit.to, backed.offered.tick_is)

  to_own : o.to ≡ c.entity.own
  to_own = backed.offered.to_is ∙ backed.to_is ∙ c.to

  sent_to : destination_of sent.tpdu ≡ Some c.reference
  sent_to = sym read.target ∙ c.destination

  wanted : format_for (extended_of c.entity) (Some c.reference) ≡ agreed_format c.end.base.agreed
  wanted = format_is c.entity c.reference ∙ ap format_of c.is_end.stands

  target_is : o.tpdu.target ≡ c.reference
  target_is = ap (λ (x : Tpdu). x.target) backed.offered.seen_as ∙ target_of sent.tpdu backed.offered.n c.reference sent_to

  -- a flow TPDU is in the format of the end
  format_same : o.tpdu.kind ≡ Flow → sent.format ≡ agreed_format c.end.base.agreed
  format_same flow =
      let f = in_format (times_of timers) w.base kept.sound kept.agreed known.k o known.at.low known.at.held backed.offered.offered fresh flow (to_own ∙ sym known.at.address) (target_is ∙ sym known.at.reference_is) in
      same_format sent.format (agreed_format c.end.base.agreed)
      (agreed_is c.end.base.agreed f.0 (is_extended sent.format) (sym known.sees.agreed ∙ f.1) (sym backed.offered.format ∙ f.2))

  by_kind : (b : Bool) → has_number (kind_for sent.tpdu) ≡ b → t ≡ sent.tpdu
  by_kind false no_number = read.control no_number
  by_kind true number =
      let flow : o.tpdu.kind ≡ Flow = ap (λ (x : Tpdu). x.kind) backed.offered.seen_as ∙ is_flow sent.tpdu backed.offered.n number in
      read.flow (ap (format_for (extended_of c.entity)) sent_to ∙ wanted ∙ sym (format_same flow))

  as_sent : t ≡ sent.tpdu
  as_sent = by_kind (has_number (kind_for sent.tpdu)) refl

  is : o.tpdu ≡ seen backed.offered.n t
  is = backed.offered.seen_as ∙ ap (seen backed.offered.n) (sym as_sent)

  pub met : IsMet timers w y c.entity.own c.reference c.end c.tick c.unit.from t
  met = record {
    known = known;
    number = sym (number_at titles timers w journal world.entities world.ends explains.known c.system c.entity c.reference known.k c.is_end.there known.at) ∙ c.is_end.number;
    offer = o;
    n = backed.offered.n;
    is = is;
    taken = record {
      y_low = known.at.low;
      offered = backed.offered.offered;
      fresh = fresh;
      reading = record { kind = sym (ap (λ (x : Tpdu). x.kind) is); target = sym (ap (λ (x : Tpdu). x.target) is); control = λ _. sym is };
      no_request = λ request. no_request t backed.offered.n c.reference c.destination (sym (ap (λ (x : Tpdu). x.kind) is) ∙ request);
      address = to_own ∙ sym known.at.address;
      target = target_of t backed.offered.n c.reference c.destination ∙ sym known.at.reference_is;
      is_held = known.at.held;
    };
    numbered = λ flow.
        subst (λ (x : WireTpdu). IsNumbered (block_of (agreed_format c.end.base.agreed)) backed.offered.n x) (sym as_sent)
        (subst (λ (x : Format). IsNumbered (block_of x) backed.offered.n sent.tpdu) (format_same flow) backed.offered.numbered);
    tick_is = backed.offered.tick_is;
    from_is = backed.offered.from_is;
  }
