-- An end that stands half-open beside a partner that has left, where nothing waits, by the history of its network.
use Rattle.std.proofs.Common.{◌≡◌, ◌≢◌, inl, inr, ℕ, suc, ◌+◌, ◌≤◌, List, [], None, refl, sym, ◌∙◌, ap, subst, arith}
use Rattle.osi_base.specs.Link.{Link}
use Rattle.script_journal.specs.Partner.{ArePartners}
use Rattle.script_journal.specs.declared.event.Event.{Event as JournalEvent}
use Rattle.tp4_conn.specs.End.{End}
use Rattle.tp4_conn.specs.declared.end_record.EndRecord.{EndRecord}
use Rattle.tp4_conn.specs.declared.states.StateData.{StateData}
use Rattle.tp4_conn.specs.declared.states.StateData.TheVariants as stages
use Rattle.tp4_conn.specs.declared.timers.Timers.{Timers}
use Rattle.law_tp4_history.specs.Ends.{Birth, Times}
use Rattle.law_tp4_history.specs.History.{IsPartner}
use Rattle.law_tp4_history.specs.Tracks.{Whole}
use Rattle.law_tp4_history.proofs.Sound.{Sound, one_partner, partner_address}
use Rattle.law_tp4_history.specs.Moves.{IsSeenIn, stop_of, times_of}
use Rattle.tp4_world.specs.World.{World, end_numbered}
use Rattle.tp4_world.specs.declared.place.EndAt.{EndAt}
use Rattle.law_tp4_lawful.proofs.Known.{IsKnown, IsListed}
use Rattle.law_tp4_lawful.proofs.ReferencesOwn.{are_partners}
use Rattle.law_tp4_lawful.proofs.WorldOutcomes.{one_unit}
use Rattle.law_tp4_lawful.proofs.Worlds.{Explains}
use Rattle.law_recovery_run.specs.Rivals.{IsFor, IsGoing}
use Rattle.law_recovery_run.proofs.Rivals.{far as known_far, here as known_here, partner_there, sound as sound_of}
use Rattle.law_recovery_run.specs.Following.{Stands}
use Rattle.law_recovery_run.specs.Over.{HasLeftEnd}
use Rattle.law_recovery_run.specs.Halves.{KnowsPartner}
use Rattle.law_recovery.proofs.Partner.{IsHalf, IsStill, Parties}
use Rattle.law_recovery.proofs.Outlasting.{at_suc}

half_goes : (stage : StateData) → KnowsPartner stage → stop_of stage ≡ None
half_goes (stages.Opened o) half = refl
half_goes (stages.UserWait since) half = refl
half_goes (stages.AkWait w) half = refl
half_goes stage half = absurd half

-- it knows its partner, and took what it took by now
half_seen : (birth : Birth) (took latest now : ℕ) (b : EndRecord) (stage : StateData) → KnowsPartner stage → IsSeenIn birth took latest b stage → took ≤ now → (b.partner ≢ 0) × IsStill now stage
half_seen birth took latest now b (stages.Opened o) half seen low = (seen.known, subst (λ (n : ℕ). n ≤ now) (sym seen.took_is) low)
half_seen birth took latest now b (stages.UserWait since) half seen low = (seen.known, tt)
half_seen birth took latest now b (stages.AkWait w) half seen low = (seen.known, tt)
half_seen birth took latest now b stage half seen low = absurd half

module _ {C : Type 0} (link : C → Link (List ℕ)) (names : List (List ℕ)) (timers : Timers) (w : Whole) (journal : List JournalEvent) (world : World C) (explains : Explains link names timers w journal world)
    (x y : ℕ) (e : End) (partners : ArePartners journal x y) (s : Stands world x e) (half : KnowsPartner e.stage) (left : HasLeftEnd world y) where
  abbrev times : Times
  times = times_of timers

  abbrev sound : Sound times w.base
  sound = sound_of link names timers w journal world explains

  abbrev theirs : IsGoing world x
  theirs = record { system = s.system; reference = s.reference; entity = s.entity; end = e; is_end = s.is_end; goes = half_goes e.stage half }

  abbrev known : (is : IsKnown w s.entity.own s.reference e) × (is.k + 1 ≡ x)
  known = known_far link names timers w journal world explains x theirs

  abbrev k : ℕ
  k = (known_far link names timers w journal world explains x theirs).0.k

  back : ArePartners journal y x
  back = elim partners [ inl p ↦ inr p | inr p ↦ inl p ]

  of_partner : (z : ℕ) × (z + 1 ≡ y) × IsPartner w.base k z
  of_partner = are_partners link names timers w journal world explains one_unit y x k known.1 back

  abbrev z : ℕ
  z = of_partner.0

  abbrev place : EndAt
  place = record { system = left.system; reference = left.reference }

  listed : IsListed w.base world.entities z place
  listed =
      let number : suc z ≡ y = omega (arith, of_partner.1) in
      explains.known.listed z place (sym (at_suc world.ends z) ∙ ap (end_numbered world.ends) number ∙ left.at.made)

  seen : (e.base.partner ≢ 0) × IsStill w.base.clock e.stage
  seen = half_seen (w.base.end k).birth (w.base.end k).took (w.base.end k).latest w.base.clock e.base e.stage half known.0.sees.state (sound.own k known.0.at.low).took_low

  to_is : e.base.to ≡ listed.entity.own
  to_is = sym known.0.sees.partner ∙ partner_address times w.base sound k z of_partner.2 ∙ listed.address

  partner_is : e.base.partner ≡ left.reference
  partner_is =
      let q = (sound.own k known.0.at.low).known (λ none. seen.0 (sym known.0.sees.known ∙ none)) in
      let same : q.0 ≡ z = one_partner times w.base sound k q.0 z q.1 of_partner.2 in
      sym known.0.sees.known ∙ q.2 ∙ ap (λ (j : ℕ). (w.base.end j).birth.reference) same ∙ listed.reference

  -- no end is its own partner
  apart : s.entity.own ≡ e.base.to → s.reference ≡ left.reference → ⊥
  apart to reference = by (subst (λ (j : ℕ). IsPartner w.base j k) same (partner_there link names timers w journal world explains x x theirs for_it))
    where
      for_it : IsFor world x s.entity.own s.reference
      for_it = record { going = theirs; to_is = sym to; partner_is = partner_is ∙ sym reference }

      same : (known_here link names timers w journal world explains x x theirs for_it).0.k ≡ k
      same = let one = (known_here link names timers w journal world explains x x theirs for_it).1 in let other = known.1 in omega (arith, one, other)

      by : IsPartner w.base k k → ⊥
      by (inl c) = cc ((sound.pairs k k c).calls, c.called)
      by (inr c) = cc ((sound.pairs k k c).calls, c.called)

  abbrev pub parties : Parties
  parties = record {
    x = x;
    system = s.system;
    reference = s.reference;
    here = s.entity.own;
    y = y;
    far_system = left.system;
    far_reference = left.reference;
    there = e.base.to;
  }

  pub half_here : IsHalf (link world.carrier).clock parties journal world []
  half_here = record {
    partners = back;
    entity = s.entity;
    placed = s.is_end.there;
    own_is = refl;
    end = e;
    stands = s.is_end.stands;
    number = s.is_end.number;
    to_is = refl;
    partner_is = partner_is;
    still = subst (λ (n : ℕ). IsStill n e.stage) (sym explains.carries.clock) seen.1;
    far = listed.entity;
    far_placed = listed.entity_is;
    far_own = sym to_is;
    left = left.at;
    apart = apart;
    quiet = tt;
  }
