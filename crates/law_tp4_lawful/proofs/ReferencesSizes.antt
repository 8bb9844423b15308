-- The pieces of both ends of a pair have the size on which either end agreed: their lines began with it, as the called end agreed, and the calling one
-- agreed on the same; and a line keeps its size.
use Rattle.std.proofs.Common.{◌≡◌, inl, inr, ℕ, ◌+◌, ◌-◌, ◌<◌, true, List, Option, Some, None, refl, sym, ap, ◌∙◌, arith}
use Rattle.std.specs.Prelude.{option_map}
use Rattle.std.proofs.lemmas.Bool.{cases_Bool}
use Rattle.std.proofs.lemmas.Option.{none-some}
use Rattle.osi_base.specs.Link.{Link}
use Rattle.script_journal.specs.Partner.{ArePartners}
use Rattle.script_journal.specs.declared.event.Event.{Event}
use Rattle.tpdu.specs.Kinds.{has_number}
use Rattle.tpdu.specs.Writing.{kind_for}
use Rattle.tpdu.specs.declared.tpdu.Tpdu.{Tpdu as WireTpdu}
use Rattle.tpdu.specs.declared.service.Options.{Options}
use Rattle.tp4_conn.specs.End.{End}
use Rattle.tp4_conn.specs.declared.timers.Timers.{Timers}
use Rattle.law_tp4_history.specs.Ends.{Flow, Terms, Tpdu}
use Rattle.law_tp4_history.specs.History.{IsPartner}
use Rattle.law_tp4_history.specs.Tracks.{Whole}
use Rattle.law_tp4_history.proofs.Agreed.{in_format}
use Rattle.law_tp4_history.proofs.Written.{Kept}
use Rattle.law_tp4_history.specs.Moves.{times_of}
use Rattle.law_tp4_history.specs.Seen.{terms_of}
use Rattle.tp4_world.specs.World.{World}
use Rattle.law_tp4_lawful.specs.References.{AreSizes, ComesTo, piece_of}
use Rattle.law_tp4_lawful.proofs.Known.{IsKnown, piece_by}
use Rattle.law_tp4_lawful.proofs.Worlds.{Explains, OneInUnit}
use Rattle.law_tp4_lawful.proofs.FramesKnown.{keeps}
use Rattle.law_tp4_lawful.proofs.ReferencesHalves.{known_at}
use Rattle.law_tp4_lawful.proofs.ReferencesMet.{IsMet, is_flow, met}
use Rattle.law_tp4_lawful.proofs.ReferencesOwn.{are_partners}

-- what is seen to be agreed was agreed
options_in : (agreed : Option Options) (terms : Terms) → option_map terms_of agreed ≡ Some terms → (options : Options) × (agreed ≡ Some options)
options_in None terms h = absurd (none-some _ h)
options_in (Some options) terms h = (options, refl)

module _ {C : Type 0} (link : C → Link (List ℕ)) (titles : List (List ℕ)) (timers : Timers) (w : Whole) (journal : List Event) (world : World C) (explains : Explains link titles timers w journal world)
    (one : OneInUnit) where
  kept : Kept (times_of timers) titles w journal
  kept = keeps titles timers w journal world.entities world.ends explains.known

  -- an end that has agreed has a partner
  partner_of : (k : ℕ) (terms : Terms) → k < w.base.count → (w.base.end k).agreed ≡ Some terms → (z : ℕ) × IsPartner w.base k z
  partner_of k terms low is = elim (cases_Bool (w.base.end k).birth.is_called) [
    | inl called ↦ ((w.base.end k).birth.caller, inr (record { a_low = kept.sound.caller_low k low called; b_low = low; called = called; is = refl }))
    | inr calls ↦ (let b = kept.agreed.has k terms low calls is in (b.0, inl b.1))
  ]

  both_sizes : (k z : ℕ) (terms : Terms) → IsPartner w.base k z → (w.base.end k).agreed ≡ Some terms → ((w.track k).size ≡ piece_by terms) × ((w.track z).size ≡ piece_by terms)
  both_sizes k z terms (inl p) is = let h = explains.known.begun k z terms p (kept.agreed.both k z terms p is) in (h.own.size, h.theirs.size)
  both_sizes k z terms (inr p) is = let h = explains.known.begun z k terms p is in (h.theirs.size, h.own.size)

  -- of an end with these options
  module _ (y : ℕ) (own : List ℕ) (reference : ℕ) (end : End) (known : IsKnown w own reference end) (number : known.k + 1 ≡ y) (options : Options) (agreed : end.base.agreed ≡ Some options) where
    is_agreed : (w.base.end known.k).agreed ≡ Some (terms_of options)
    is_agreed = known.sees.agreed ∙ ap (option_map terms_of) agreed

    own_size : (w.track (y - 1)).size ≡ piece_of options
    own_size =
        let z = partner_of known.k (terms_of options) known.at.low is_agreed in
        ap (λ (j : ℕ). (w.track j).size) (omega (arith, number)) ∙ (both_sizes known.k z.0 (terms_of options) z.1 is_agreed).0

    partner_size : (x : ℕ) → ArePartners journal x y → (w.track (x - 1)).size ≡ piece_of options
    partner_size x partners =
        let z = are_partners link titles timers w journal world explains one x y known.k number partners in
        ap (λ (j : ℕ). (w.track j).size) (omega (arith, z.1)) ∙ (both_sizes known.k z.0 (terms_of options) z.2 is_agreed).1

  pub sizes : AreSizes journal world (λ x. (w.track (x - 1)).size)
  sizes = record {
    own = λ x system reference entity end options is agreed.
        (let known = known_at link titles timers w journal world explains x system entity reference end is in own_size x entity.own reference end known.0 known.1 options agreed);
    partner = λ x y system reference entity end options partners is agreed.
        (let known = known_at link titles timers w journal world explains y system entity reference end is in partner_size y entity.own reference end known.0 known.1 options agreed x partners);
  }

  -- what has a number comes to an end that has agreed
  pub agreed_at : (x y : ℕ) (tpdu : WireTpdu) (comes : ComesTo link world y tpdu) → ArePartners journal x y → has_number (kind_for tpdu) ≡ true
      → (options : Options) × (comes.end.base.agreed ≡ Some options) × ((w.track (x - 1)).size ≡ piece_of options)
  agreed_at x y tpdu comes partners number =
      let m : IsMet timers w y comes.entity.own comes.reference comes.end comes.tick comes.unit.from tpdu = met link titles timers w journal world explains one y tpdu comes in
      let a = m.taken in
      let flow : m.offer.tpdu.kind ≡ Flow = ap (λ (t : Tpdu). t.kind) m.is ∙ is_flow tpdu m.n number in
      let f = in_format (times_of timers) w.base kept.sound kept.agreed m.known.k m.offer a.y_low a.is_held a.offered a.fresh flow a.address (sym a.reading.target ∙ a.target) in
      let o = options_in comes.end.base.agreed f.0 (sym m.known.sees.agreed ∙ f.1) in
      (o.0, o.1, partner_size y comes.entity.own comes.reference comes.end m.known m.number o.0 o.1 x partners)
