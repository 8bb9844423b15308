-- The partner of an end, by the history of its network: no end is for the end but its partner, and what stands at the place of the partner is the partner.
use Rattle.std.proofs.Common.{◌≡◌, inl, inr, ℕ, suc, ◌+◌, ◌<◌, ◌≤◌, List, Some, None, refl, sym, ◌∙◌, ap, subst, arith}
use Rattle.std.specs.List.{AllByRecursion}
use Rattle.std.proofs.lemmas.Bool.{cases_order}
use Rattle.std.proofs.lemmas.Option.{same_Some}
use Rattle.osi_base.specs.Link.{Link}
use Rattle.script_journal.specs.Partner.{ArePartners}
use Rattle.script_journal.specs.declared.event.Event.{Event as JournalEvent}
use Rattle.tp4_conn.specs.End.{End}
use Rattle.tp4_conn.specs.declared.states.StateData.{StateData}
use Rattle.tp4_conn.specs.declared.states.StateData.TheVariants as stages
use Rattle.tp4_conn.specs.declared.timers.Timers.{Timers}
use Rattle.tp4_entity.specs.Entity.{Entity, end_at}
use Rattle.law_tp4_history.specs.Ends.{Times}
use Rattle.law_tp4_history.specs.History.{IsPartner}
use Rattle.law_tp4_history.specs.Tracks.{Whole}
use Rattle.law_tp4_history.proofs.Meets.{swap}
use Rattle.law_tp4_history.proofs.Sound.{OwnFacts, Sound, one_partner, partner_low}
use Rattle.law_tp4_history.specs.Moves.{stop_of, times_of, HasSource}
use Rattle.law_tp4_pair.specs.Standing.{HasLeft}
use Rattle.tp4_world.specs.World.{World, end_numbered, entity_at, latest}
use Rattle.tp4_world.specs.declared.place.EndAt.{EndAt}
use Rattle.law_tp4_lawful.proofs.FramesKnown.{number_at}
use Rattle.law_tp4_lawful.proofs.Known.{IsKnown, IsListed, IsThere}
use Rattle.law_tp4_lawful.proofs.ReferencesOwn.{are_partners}
use Rattle.law_tp4_lawful.proofs.WorldOutcomes.{one_unit}
use Rattle.law_tp4_lawful.proofs.Worlds.{Explains}
use Rattle.law_calm_run.proofs.Hall.{Post}
use Rattle.law_recovery_run.specs.Aside.{IsSentTo, Names}
use Rattle.law_recovery_run.specs.Rivals.{IsFor, IsGoing}
use Rattle.law_recovery_run.proofs.Rivals.{far as known_far, here as known_here, partner_there, sound as sound_of}
use Rattle.law_recovery_run.specs.Over.{HasLeftAt}
use Rattle.law_tp4_history.specs.Seen.{seen}
use Rattle.law_recovery.proofs.Rows.{IsCc, IsDr}
use Rattle.law_recovery.proofs.Outlasting.{at_suc}

-- an end, its place and its address; and its partner, with its own
pub record Parties : Type 0 where
  pub x : ℕ
  pub system : ℕ
  pub reference : ℕ
  pub here : List ℕ
  pub y : ℕ
  pub far_system : ℕ
  pub far_reference : ℕ
  pub there : List ℕ

-- what waits for the end from the system of its partner is a DR; in its name only its CC waits, for its partner; and a CC has a source
pub record IsQuiet (p : Parties) (post : Post) : Type 0 where
  pub parting : post.system ≡ p.far_system → IsSentTo p.here p.reference post.sent → IsDr post.sent.tpdu
  pub named : post.system ≡ p.system → Names p.reference post.sent.tpdu → IsSentTo p.there p.far_reference post.sent × IsCc post.sent.tpdu
  pub sourced : HasSource (seen 0 post.sent.tpdu)

-- it is Opened and took nothing since that tick, or in UserWait or AkWait
abbrev pub IsStill : ℕ → StateData → Type 0
IsStill t0 (stages.Opened o) = o.took ≤ t0
IsStill t0 (stages.UserWait since) = Prim.Unit {0}
IsStill t0 (stages.AkWait w) = Prim.Unit {0}
IsStill t0 stage = ⊥

-- the end stands so, and its partner has left
pub record IsHalf {C : Type 0} (t0 : ℕ) (p : Parties) (journal : List JournalEvent) (world : World C) (posts : List Post) : Type 0 where
  pub partners : ArePartners journal p.y p.x
  pub entity : Entity
  pub placed : entity_at world.entities p.system ≡ Some entity
  pub own_is : entity.own ≡ p.here
  pub end : End
  pub stands : end_at entity p.reference ≡ Some end
  pub number : latest world.ends p.system p.reference ≡ p.x
  pub to_is : end.base.to ≡ p.there
  pub partner_is : end.base.partner ≡ p.far_reference
  pub still : IsStill t0 end.stage
  pub far : Entity
  pub far_placed : entity_at world.entities p.far_system ≡ Some far
  pub far_own : far.own ≡ p.there
  pub left : HasLeftAt world p.y p.far_system p.far_reference
  pub apart : p.here ≡ p.there → p.reference ≡ p.far_reference → ⊥
  pub quiet : AllByRecursion (IsQuiet p) posts

pub still_goes : (t0 : ℕ) (stage : StateData) → IsStill t0 stage → stop_of stage ≡ None
still_goes t0 (stages.Opened o) still = refl
still_goes t0 (stages.UserWait since) still = refl
still_goes t0 (stages.AkWait w) still = refl
still_goes t0 stage still = absurd still

module _ {C : Type 0} (link : C → Link (List ℕ)) (names : List (List ℕ)) (timers : Timers) (w : Whole) (journal : List JournalEvent) (world : World C) (explains : Explains link names timers w journal world)
    (t0 : ℕ) (p : Parties) (posts : List Post) (h : IsHalf t0 p journal world posts) where
  abbrev times : Times
  times = times_of timers

  abbrev sound : Sound times w.base
  sound = sound_of link names timers w journal world explains

  pub goes : stop_of h.end.stage ≡ None
  goes = still_goes t0 h.end.stage h.still

  abbrev pub theirs : IsGoing world p.x
  theirs = record {
    system = p.system;
    reference = p.reference;
    entity = h.entity;
    end = h.end;
    is_end = record { there = h.placed; stands = h.stands; number = h.number };
    goes = goes;
  }

  abbrev pub known : (is : IsKnown w h.entity.own p.reference h.end) × (is.k + 1 ≡ p.x)
  known = known_far link names timers w journal world explains p.x theirs

  abbrev pub k : ℕ
  k = (known_far link names timers w journal world explains p.x theirs).0.k

  pub of_partner : (z : ℕ) × (z + 1 ≡ p.y) × IsPartner w.base k z
  of_partner = are_partners link names timers w journal world explains one_unit p.y p.x k (known_far link names timers w journal world explains p.x theirs).1 h.partners

  abbrev pub z : ℕ
  z = of_partner.0

  pub partner : IsPartner w.base k z
  partner = of_partner.2

  abbrev place : EndAt
  place = record { system = p.far_system; reference = p.far_reference }

  listed : IsListed w.base world.entities z place
  listed =
      let number : suc z ≡ p.y = omega (arith, of_partner.1) in
      explains.known.listed z place (sym (at_suc world.ends z) ∙ ap (end_numbered world.ends) number ∙ h.left.made)

  pub address_z : (w.base.end z).birth.address ≡ h.far.own
  address_z = listed.address ∙ ap (λ (e : Entity). e.own) (same_Some listed.entity h.far (sym listed.entity_is ∙ h.far_placed))

  pub reference_z : (w.base.end z).birth.reference ≡ p.far_reference
  reference_z = listed.reference

  -- an end that is not frozen, and is for this one, is its partner
  pub rival : (system reference : ℕ) (entity : Entity) (o : End) → entity_at world.entities system ≡ Some entity → end_at entity reference ≡ Some o → stop_of o.stage ≡ None → o.base.to ≡ p.here
      → o.base.partner ≡ p.reference → (system ≡ p.far_system) × (reference ≡ p.far_reference)
  rival system reference entity o there stands goes to partner_is = (
    explains.known.apart system p.far_system entity h.far there h.far_placed (sym other.at.address ∙ ap (λ (n : ℕ). (w.base.end n).birth.address) same ∙ address_z),
    sym other.at.reference_is ∙ ap (λ (n : ℕ). (w.base.end n).birth.reference) same ∙ reference_z,
  )
    where
      n : ℕ
      n = latest world.ends system reference

      for_it : IsFor world n h.entity.own p.reference
      for_it = record {
        going = record { system = system; reference = reference; entity = entity; end = o; is_end = record { there = there; stands = stands; number = refl }; goes = goes };
        to_is = to ∙ sym h.own_is;
        partner_is = partner_is;
      }

      other : IsKnown w entity.own reference o
      other = (known_here link names timers w journal world explains n p.x theirs for_it).0

      one : IsPartner w.base (known_here link names timers w journal world explains n p.x theirs for_it).0.k k
      one = partner_there link names timers w journal world explains n p.x theirs for_it

      same : (known_here link names timers w journal world explains n p.x theirs for_it).0.k ≡ z
      same = one_partner times w.base sound k other.k z (swap w.base other.k k one) partner

  -- what stands at the place of the partner is the partner
  pub partner_number : (v : End) → end_at h.far p.far_reference ≡ Some v → latest world.ends p.far_system p.far_reference ≡ p.y
  partner_number v stands =
      number_at names timers w journal world.entities world.ends explains.known p.far_system h.far p.far_reference j h.far_placed there.at ∙ ap (λ (n : ℕ). n + 1) (sym same) ∙ of_partner.1
    where
      there : IsKnown w h.far.own p.far_reference v
      there = subst (IsThere w h.far.own p.far_reference) stands ((explains.known.holds p.far_system h.far h.far_placed).there p.far_reference)

      j : ℕ
      j = there.k

      ours : OwnFacts times w.base k (w.base.end k)
      ours = sound.own k known.0.at.low

      other : OwnFacts times w.base j (w.base.end j)
      other = sound.own j there.at.low

      going_here : (w.base.end k).stop ≡ None
      going_here = known.0.sees.stop ∙ goes

      same_address : (w.base.end z).birth.address ≡ (w.base.end j).birth.address
      same_address = address_z ∙ sym there.at.address

      same_reference : (w.base.end z).birth.reference ≡ (w.base.end j).birth.reference
      same_reference = reference_z ∙ sym there.at.reference_is

      older : z < j → ⊥
      older up =
          let b = sound.booked z j up there.at.low same_address same_reference in
          let took = sound.outlived k z partner going_here b.0 b.1 in
          omega (arith, b.2, took, ours.now_low going_here, ours.latest_low going_here, other.made_low, other.took_low)

      later : j < z → ⊥
      later up =
          let b = sound.booked j z up (partner_low times w.base sound k z partner).1 (sym same_address) (sym same_reference) in
          absurd (cc (b.3, there.at.held))

      same : z ≡ j
      same = elim (cases_order z j) [
        | inl is ↦ is
        | inr apart ↦ elim apart [ inl up ↦ absurd (older up) | inr up ↦ absurd (later up) ]
      ]

  -- which has left
  pub partner_stands : (v : End) → end_at h.far p.far_reference ≡ Some v → HasLeft v.stage
  partner_stands v stands = h.left.left h.far v h.far_placed stands (partner_number v stands)
