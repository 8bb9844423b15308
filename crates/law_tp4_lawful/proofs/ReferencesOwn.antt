-- What comes to an end is of its one partner, or answers it; and what its partner sends is what the partner was asked to send.
use Rattle.std.proofs.Common.{◌≡◌, ◌⊎◌, inl, inr, ℕ, ◌+◌, ◌-◌, ◌<◌, ◌==◌, Bool, true, false, if◌then◌else◌, List, [], length, Some, None, refl, sym, ap, subst, ◌∙◌, arith}
use Rattle.std.specs.Prelude.{get_or, slice_get}
use Rattle.std.proofs.lemmas.Option.{slice_get-get_or}
use Rattle.osi_base.specs.Link.{Link}
use Rattle.script_journal.specs.Lawful.{Marked, expediteds, normals, submitted}
use Rattle.script_journal.specs.Partner.{ArePartners}
use Rattle.script_journal.specs.declared.event.Event.{Event}
use Rattle.tpdu.specs.declared.tpdu.Tpdu.{Tpdu as WireTpdu}
use Rattle.tpdu.specs.declared.tpdu.Tpdu.TheVariants as wires
use Rattle.tp4_number.specs.Formats.{block_of}
use Rattle.tp4_conn.specs.End.{agreed_format}
use Rattle.tp4_conn.specs.declared.timers.Timers.{Timers}
use Rattle.tp4_sending.specs.Pieces.{cut_at}
use Rattle.law_tp4_history.specs.Ends.{Body, Dc, Dr, Flow, Tpdu}
use Rattle.law_tp4_history.specs.History.{IsCaller, IsPartner}
use Rattle.law_tp4_history.specs.Reached.{Answering, From_partner, IsFor}
use Rattle.law_tp4_history.specs.Tracks.{Noted, Whole}
use Rattle.law_tp4_history.proofs.Meets.{meets_own}
use Rattle.law_tp4_history.proofs.Places.{are_called, are_ends}
use Rattle.law_tp4_history.proofs.Taken.{taken_noted}
use Rattle.law_tp4_history.proofs.Written.{Kept}
use Rattle.law_tp4_history.specs.Moves.{times_of}
use Rattle.law_tp4_history.specs.Seen.{IsNumbered, seen}
use Rattle.tp4_world.specs.World.{World, end_numbered}
use Rattle.tp4_world.specs.declared.place.EndAt.{EndAt}
use Rattle.law_tp4_lawful.specs.References.{Carries, ComesTo, HasPartnerAt, IsAnswer}
use Rattle.law_tp4_lawful.proofs.Worlds.{Explains, OneInUnit}
use Rattle.law_tp4_lawful.proofs.FramesKnown.{keeps}
use Rattle.law_tp4_lawful.proofs.ReferencesMet.{IsMet, met}

-- ---- kinds

-- what an entity answers on its own
answer_of : (t : WireTpdu) (n : ℕ) → ((seen n t).kind ≡ Dr) × ((seen n t).source ≡ 0) ⊎ ((seen n t).kind ≡ Dc) → IsAnswer t
answer_of (wires.Dr destination source reason info text) n (inl dr) = dr.1
answer_of (wires.Dr destination source reason info text) n (inr dc) = absurd (cc dc)
answer_of (wires.Dc destination source) n is = tt
answer_of other n is = absurd (elim is [ inl dr ↦ cc (dr.0) | inr dc ↦ cc dc ])

-- the place of a number
number_there : (ends : List EndAt) (x : ℕ) → x < length ends → (place : EndAt) × (slice_get ends x ≡ Some place) × (end_numbered ends (x + 1) ≡ Some place)
number_there ends x low =
    let place : EndAt = get_or ends x (record { system = 0; reference = 0 }) in
    let is : slice_get ends x ≡ Some place = slice_get-get_or ends x (record { system = 0; reference = 0 }) low in
    (place, is, at (x + 1) (x + 1 == 0) place (grind arith) (omega arith) is)
  where
    at : (m : ℕ) (z : Bool) (place : EndAt) → z ≡ false → m - 1 ≡ x → slice_get ends x ≡ Some place → (if z then None else slice_get ends (m - 1)) ≡ Some place
    at m z place none same is = ap (λ (b : Bool). if b then None else slice_get ends (m - 1)) none ∙ ap (slice_get ends) same ∙ is

module _ {C : Type 0} (link : C → Link (List ℕ)) (titles : List (List ℕ)) (timers : Timers) (w : Whole) (journal : List Event) (world : World C) (explains : Explains link titles timers w journal world)
    (one : OneInUnit) where
  kept : Kept (times_of timers) titles w journal
  kept = keeps titles timers w journal world.entities world.ends explains.known

  -- the ends of a connection are partners in the history, and the other way round
  pub partners_are : (a b : ℕ) → IsPartner w.base a b → ArePartners journal (a + 1) (b + 1)
  partners_are a b (inl p) = inl (are_ends (times_of timers) titles w.base kept.sound kept.listed journal kept.placed a b p)
  partners_are a b (inr p) = inr (are_ends (times_of timers) titles w.base kept.sound kept.listed journal kept.placed b a p)

  pub are_partners : (x y k : ℕ) → k + 1 ≡ y → ArePartners journal x y → (z : ℕ) × (z + 1 ≡ x) × IsPartner w.base k z
  are_partners x y k number (inl e) =
      let p = are_called (times_of timers) titles w.base kept.sound kept.listed journal kept.placed x y e in
      let same : p.b ≡ k = omega (arith, p.called_is, number) in
      (p.a, p.calling_is, inr (subst (λ (j : ℕ). IsCaller w.base p.a j) same p.caller))
  are_partners x y k number (inr e) =
      let p = are_called (times_of timers) titles w.base kept.sound kept.listed journal kept.placed y x e in
      let same : p.a ≡ k = omega (arith, p.calling_is, number) in
      (p.b, p.called_is, inl (subst (λ (j : ℕ). IsCaller w.base j p.b) same p.caller))

  module _ (y : ℕ) (t : WireTpdu) (c : ComesTo link world y t) where
    pub m : IsMet timers w y c.entity.own c.reference c.end c.tick c.unit.from t
    m = met link titles timers w journal world explains one y t c

    -- ---- of the partner

    by_origin : IsFor w.base m.offer m.known.k → IsAnswer t ⊎ HasPartnerAt journal world y c.unit.from
    by_origin (From_partner x is p from) =
        let low : x < length world.ends = elim p [ inl q ↦ omega (arith, q.a_low, explains.known.count) | inr q ↦ omega (arith, q.b_low, explains.known.count) ] in
        let n = number_there world.ends x low in
        let l = explains.known.listed x n.0 n.1 in
        inr (record {
          x = x + 1;
          partners = subst (λ (j : ℕ). ArePartners journal (x + 1) j) m.number (partners_are x m.known.k p);
          place = n.0;
          numbered = n.2;
          entity = l.entity;
          there = l.entity_is;
          own = sym l.address ∙ sym from ∙ m.from_is;
        })
    by_origin (Answering since is kind) = inl (answer_of t m.n (elim kind [
      | inl dr ↦ inl (sym (ap (λ (x : Tpdu). x.kind) m.is) ∙ dr.0, sym (ap (λ (x : Tpdu). x.source) m.is) ∙ dr.1)
      | inr dc ↦ inr (sym (ap (λ (x : Tpdu). x.kind) m.is) ∙ dc)
    ]))

    pub of_partner : IsAnswer t ⊎ HasPartnerAt journal world y c.unit.from
    of_partner =
        let a = m.taken in
        by_origin (meets_own (times_of timers) w.base kept.sound m.known.k m.offer a.y_low a.is_held a.offered a.fresh a.no_request a.address (sym a.reading.target ∙ a.target)).1

    -- ---- what is carried

    module _ (x : ℕ) (partners : ArePartners journal x y) where
      abbrev pub z : ℕ
      z = (are_partners x y m.known.k m.number partners).0

      pub partner : IsPartner w.base m.known.k z
      partner = (are_partners x y m.known.k m.number partners).2

      pub x_is : z + 1 ≡ x
      x_is = (are_partners x y m.known.k m.number partners).1

      pub noted : m.offer.tpdu.kind ≡ Flow → Noted w.base w.track z m.offer.tick m.offer.tpdu.body
      noted flow = taken_noted (times_of timers) w kept.sound kept.tracked m.known.k m.offer (seen m.n t) m.taken flow z partner

      given : (w.track z).is_begun ≡ true → (w.track z).line.submitted ≡ submitted x journal
      given begun = sym (kept.telling.gave z begun) ∙ ap (λ (j : ℕ). submitted j journal) x_is

      carried_dt : (destination : ℕ) (last : Bool) (number : ℕ) (text : List ℕ) → t ≡ wires.Dt destination last number text
          → Carries (w.track (x - 1)).size (block_of (agreed_format c.end.base.agreed)) (submitted x journal) m.n (wires.Dt destination last number text)
      carried_dt destination last number text is =
          let seen_is : m.offer.tpdu ≡ seen m.n (wires.Dt destination last number text) = m.is ∙ ap (seen m.n) is in
          let flow : m.offer.tpdu.kind ≡ Flow = ap (λ (u : Tpdu). u.kind) seen_is in
          let n = subst (λ (b : Body). Noted w.base w.track z m.offer.tick b) (ap (λ (u : Tpdu). u.body) seen_is) (noted flow) in
          let size : (w.track z).size ≡ (w.track (x - 1)).size = ap (λ (j : ℕ). (w.track j).size) (omega (arith, x_is)) in (
            subst (λ (u : WireTpdu). IsNumbered (block_of (agreed_format c.end.base.agreed)) m.n u) is (m.numbered flow),
            subst (λ (s : ℕ). 0 < s) size (kept.tracked.run z n.0).some,
            subst (λ (s : ℕ). cut_at s (normals (submitted x journal)) m.n ≡ Some (record { last = last; octets = text })) size
                (subst (λ (units : List Marked). cut_at (w.track z).size (normals units) m.n ≡ Some (record { last = last; octets = text })) (given n.0) n.2),
          )

      carried_ed : (destination : ℕ) (last : Bool) (number : ℕ) (text : List ℕ) → t ≡ wires.Ed destination last number text
          → Carries (w.track (x - 1)).size (block_of (agreed_format c.end.base.agreed)) (submitted x journal) m.n (wires.Ed destination last number text)
      carried_ed destination last number text is =
          let seen_is : m.offer.tpdu ≡ seen m.n (wires.Ed destination last number text) = m.is ∙ ap (seen m.n) is in
          let flow : m.offer.tpdu.kind ≡ Flow = ap (λ (u : Tpdu). u.kind) seen_is in
          let n = subst (λ (b : Body). Noted w.base w.track z m.offer.tick b) (ap (λ (u : Tpdu). u.body) seen_is) (noted flow) in
          let there : slice_get (expediteds (w.track z).line.submitted) m.n ≡ Some text =
          slice_get-get_or (expediteds (w.track z).line.submitted) m.n [] n.2 ∙ ap Some (sym n.3) in (
            subst (λ (u : WireTpdu). IsNumbered (block_of (agreed_format c.end.base.agreed)) m.n u) is (m.numbered flow),
            subst (λ (units : List Marked). slice_get (expediteds units) m.n ≡ Some text) (given n.0) there,
          )

      carried_by : (u : WireTpdu) → t ≡ u → Carries (w.track (x - 1)).size (block_of (agreed_format c.end.base.agreed)) (submitted x journal) m.n u
      carried_by (wires.Dt destination last number text) is = carried_dt destination last number text is
      carried_by (wires.Ed destination last number text) is = carried_ed destination last number text is
      carried_by other is = tt

      -- with the number of the offer
      pub carried : Carries (w.track (x - 1)).size (block_of (agreed_format c.end.base.agreed)) (submitted x journal) m.n t
      carried = carried_by t refl
