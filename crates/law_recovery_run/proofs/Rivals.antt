-- An end that is not frozen is named as its partner by its one partner alone: an older end of its reference froze so long ago that whatever was for that one froze too.
use Rattle.std.proofs.Common.{◌≡◌, ◌≢◌, inl, inr, ℕ, ◌+◌, ◌<◌, List, None, sym, ◌∙◌, ap, subst, arith}
use Rattle.std.proofs.lemmas.Bool.{cases_order}
use Rattle.std.proofs.lemmas.Option.{none-some}
use Rattle.osi_base.specs.Link.{Link}
use Rattle.script_journal.specs.Partner.{ArePartners}
use Rattle.script_journal.specs.declared.event.Event.{Event}
use Rattle.tp4_conn.specs.declared.timers.Timers.{Timers}
use Rattle.law_tp4_history.specs.Ends.{Times}
use Rattle.law_tp4_history.specs.History.{IsPartner}
use Rattle.law_tp4_history.specs.Tracks.{Whole}
use Rattle.law_tp4_history.proofs.Meets.{swap}
use Rattle.law_tp4_history.proofs.Sound.{OwnFacts, Sound, one_partner, partner_address, partner_low}
use Rattle.law_tp4_history.proofs.Written.{Kept}
use Rattle.law_tp4_history.specs.Moves.{times_of}
use Rattle.tp4_world.specs.World.{World}
use Rattle.law_tp4_lawful.proofs.Known.{IsKnown}
use Rattle.law_tp4_lawful.proofs.Worlds.{Explains}
use Rattle.law_tp4_lawful.proofs.FramesKnown.{keeps}
use Rattle.law_tp4_lawful.proofs.ReferencesHalves.{known_at}
use Rattle.law_tp4_lawful.proofs.ReferencesOwn.{partners_are}
use Rattle.law_tp4_lawful.proofs.WorldOutcomes.{one_unit}
use Rattle.law_recovery_run.specs.Rivals.{IsFor, IsGoing}

module _ {C : Type 0} (link : C → Link (List ℕ)) (titles : List (List ℕ)) (timers : Timers) (w : Whole) (journal : List Event) (last : World C) (explains : Explains link titles timers w journal last) where
  pub kept : Kept (times_of timers) titles w journal
  kept = keeps titles timers w journal last.entities last.ends explains.known

  abbrev pub times : Times
  times = times_of timers

  abbrev pub sound : Sound times w.base
  sound = kept.sound

  pub far : (y : ℕ) (theirs : IsGoing last y) → (is : IsKnown w theirs.entity.own theirs.reference theirs.end) × (is.k + 1 ≡ y)
  far y theirs = known_at link titles timers w journal last explains y theirs.system theirs.entity theirs.reference theirs.end theirs.is_end

  module _ (x y : ℕ) (theirs : IsGoing last y) (mine : IsFor last x theirs.entity.own theirs.reference) where
    abbrev there : (is : IsKnown w theirs.entity.own theirs.reference theirs.end) × (is.k + 1 ≡ y)
    there = far y theirs

    abbrev own : IsGoing last x
    own = mine.going

    pub here : (is : IsKnown w own.entity.own own.reference own.end) × (is.k + 1 ≡ x)
    here = known_at link titles timers w journal last explains x own.system own.entity own.reference own.end own.is_end

    abbrev k : ℕ
    k = here.0.k

    abbrev j : ℕ
    j = there.0.k

    ours : OwnFacts times w.base k (w.base.end k)
    ours = sound.own k here.0.at.low

    other : OwnFacts times w.base j (w.base.end j)
    other = sound.own j there.0.at.low

    known_is : (w.base.end k).known ≡ (w.base.end j).birth.reference
    known_is = here.0.sees.known ∙ mine.partner_is ∙ sym there.0.at.reference_is

    known_some : (w.base.end k).known ≢ 0
    known_some none = omega (arith, known_is, none, other.some)

    partner : (z : ℕ) × IsPartner w.base k z × ((w.base.end k).known ≡ (w.base.end z).birth.reference)
    partner = ours.known known_some

    abbrev z : ℕ
    z = partner.0

    same_address : (w.base.end z).birth.address ≡ (w.base.end j).birth.address
    same_address = sym (partner_address times w.base sound k z partner.1) ∙ here.0.sees.partner ∙ mine.to_is ∙ sym there.0.at.address

    same_reference : (w.base.end z).birth.reference ≡ (w.base.end j).birth.reference
    same_reference = sym partner.2 ∙ known_is

    going : (w.base.end j).stop ≡ None
    going = there.0.sees.stop ∙ theirs.goes

    going_here : (w.base.end k).stop ≡ None
    going_here = here.0.sees.stop ∙ own.goes

    is_it : z ≡ j → IsPartner w.base k j
    is_it same = subst (IsPartner w.base k) same partner.1

    older : z < j → ⊥
    older up =
        let b = sound.booked z j up there.0.at.low same_address same_reference in
        let took = sound.outlived k z partner.1 going_here b.0 b.1 in
        omega (arith, b.2, took, ours.now_low going_here, ours.latest_low going_here, other.made_low, other.took_low)

    later : j < z → ⊥
    later up =
        let b = sound.booked j z up (partner_low times w.base sound k z partner.1).1 (sym same_address) (sym same_reference) in
        none-some b.0 (sym going ∙ b.1)

    pub partner_there : IsPartner w.base here.0.k (far y theirs).0.k
    partner_there = elim (cases_order z j) [
      | inl same ↦ is_it same
      | inr apart ↦ elim apart [ inl up ↦ absurd (older up) | inr up ↦ absurd (later up) ]
    ]

    pub no_rival : ArePartners journal x y
    no_rival =
        subst (λ (n : ℕ). ArePartners journal n y) here.1
        (subst (λ (n : ℕ). ArePartners journal (k + 1) n) there.1 (partners_are link titles timers w journal last explains one_unit k j partner_there))

  -- two ends that are for the same one have the same reference
  pub one_rival : (x z y : ℕ) (theirs : IsGoing last y) (mine : IsFor last x theirs.entity.own theirs.reference) (rival : IsFor last z theirs.entity.own theirs.reference) → rival.going.reference ≡ mine.going.reference
  one_rival x z y theirs mine rival =
      let one = partner_there x y theirs mine in
      let two = partner_there z y theirs rival in
      let k = (here x y theirs mine).0 in
      let k_other = (here z y theirs rival).0 in
      let j = (far y theirs).0.k in
      let same : k_other.k ≡ k.k = one_partner times w.base sound j k_other.k k.k (swap w.base k_other.k j two) (swap w.base k.k j one) in
      sym k_other.at.reference_is ∙ ap (λ (n : ℕ). (w.base.end n).birth.reference) same ∙ k.at.reference_is
