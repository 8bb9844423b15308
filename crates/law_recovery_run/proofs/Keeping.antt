-- Where no CC and no DR waited for an end in CrWait, and nothing in its name but its CR, none is sent to it but the DR by which the entity that it calls refuses the CR.
use Rattle.std.proofs.Common.{◌≡◌, ◌≢◌, ◌⊎◌, inl, inr, ℕ, ◌+◌, ◌==◌, Bool, true, false, List, [], ◌∷◌, ◌++◌, Some, None, refl, sym, ◌∙◌, ap, subst}
use Rattle.std.specs.Prelude.{◌&&◌, nat_eq}
use Rattle.std.specs.List.{AllByRecursion}
use Rattle.std.specs.Cmp.Lexicographic.{bytes_decides, pointwise}
use Rattle.std.proofs.lemmas.Bool.{eq-eqb, eqb-false, eqb-true}
use Rattle.std.proofs.lemmas.Option.{none-some, same_Some}
use Rattle.osi_base.specs.Link.{Link}
use Rattle.osi_base.proofs.Members.{all_both}
use Rattle.script_journal.specs.declared.event.Event.{Event as JournalEvent}
use Rattle.tpdu.specs.Kinds.{has_number}
use Rattle.tpdu.specs.Values.{destination_of, format_for}
use Rattle.tpdu.specs.Writing.{IsAllowed, is_summed, kind_for}
use Rattle.tpdu.specs.declared.tpdu.Format.{Format}
use Rattle.tpdu.specs.declared.tpdu.Tpdu.{Tpdu as WireTpdu}
use Rattle.tp4_number.specs.Number.{whole}
use Rattle.tp4_flow.specs.declared.step.Sent.{Sent}
use Rattle.tp4_conn.specs.Agreeing.{request}
use Rattle.tp4_conn.specs.CrWait.{cr_wait_tpdu}
use Rattle.tp4_conn.specs.End.{End, Moved, agreed_format}
use Rattle.tp4_conn.specs.Living.{IsFit}
use Rattle.tp4_conn.specs.Matching.{fits, is_called_by, is_match}
use Rattle.tp4_conn.specs.Proper.{IsProperEvent}
use Rattle.tp4_conn.specs.Table.{Event, Took, stepped}
use Rattle.tp4_conn.specs.declared.end_record.EndRecord.{EndRecord}
use Rattle.tp4_conn.specs.declared.states.InCrWait.{InCrWait}
use Rattle.tp4_conn.specs.declared.timers.Timers.{Timers}
use Rattle.tp4_entity.specs.Association.{is_registered, met, refusal}
use Rattle.tp4_entity.specs.Entity.{Acted, Entity, at, end_at}
use Rattle.tp4_entity.specs.Unit.{extended_of}
use Rattle.tp4_entity.specs.steps.Places.{format_of}
use Rattle.tp4_entity.proofs.Formats.{format_is}
use Rattle.law_tp4_history.specs.History.{IsPartner}
use Rattle.law_tp4_history.specs.Tracks.{Whole}
use Rattle.law_tp4_history.proofs.Sound.{partner_address}
use Rattle.law_tp4_history.specs.Moves.{HasSource, IsSourced, Sees, stop_of, times_of}
use Rattle.law_tp4_history.specs.Seen.{seen}
use Rattle.tp4_world.specs.World.{World, entity_at, latest}
use Rattle.law_tp4_lawful.proofs.Known.{IsKnown, IsReadAs, IsThere}
use Rattle.law_tp4_lawful.proofs.Worlds.{Explains}
use Rattle.law_calm_run.proofs.Hall.{Post, posted}
use Rattle.law_recovery_run.specs.Aside.{IsSentTo, Names}
use Rattle.law_recovery_run.specs.Rivals.{IsFor, IsGoing}
use Rattle.law_recovery_run.proofs.Aiming.{Going}
use Rattle.law_recovery_run.proofs.Aside.{both_are, going_of}
use Rattle.law_recovery_run.proofs.Rivals.{far, here, partner_there, sound}
use Rattle.law_recovery_run.proofs.Delivering.{HasActed}
pub use Rattle.law_recovery_run.proofs.Delivering.{read_names, read_sourced}
use Rattle.law_tp4_associations.proofs.EndedWorlds.{IsFitWorld}
use Rattle.law_recovery_run.proofs.Naming.{NamedBy, row_aims, row_named, row_sourced}
use Rattle.law_recovery_run.proofs.Waiting.{posted_each}
use Rattle.law_recovery_run.specs.Requesting.{AreListening, AreUnanswered, HasTaken, cr_from, in_cr_wait}
use Rattle.law_recovery_run.proofs.RequestComes.{AreRegistered, IsHere, IsRefusalOf, IsUnsettled, came_as, met_so, unsettled_on}
use Rattle.law_recovery_run.proofs.Places.{IsAnswerTo, IsAsked, IsMet, IsReasonOf, Made, Makes, Refused, Stays, Takes, There, asks, no_fit, reason_as}

-- ---- what waits

-- the DR by which a CR is refused
pub record IsRefusalTo (from : List ℕ) (N : Type 0) (own : ℕ) (sent : Sent) : Type 0 where
  pub reason : ℕ
  pub is_reason : IsReasonOf N reason
  pub is : sent ≡ refusal from own reason

-- it is for the end only if it is that, it is in its name only if it is its CR, and a CC has a source
pub record IsKeptApart (system : ℕ) (from : List ℕ) (N : Type 0) (b : EndRecord) (r : InCrWait) (post : Post) : Type 0 where
  pub refused : IsSentTo from b.own post.sent → IsRefusalTo from N b.own post.sent
  pub named : post.system ≡ system → Names b.own post.sent.tpdu → post ≡ cr_from system b r
  pub sourced : HasSource (seen 0 post.sent.tpdu)

-- each is so, where one of them would be the reason that all are
pub each_of : (P Q R : Sent → Type 0) (W : Type 0) (sents : List Sent) → ((sent : Sent) → P sent → Q sent → W) → (W → AllByRecursion R sents) → AllByRecursion P sents
    → AllByRecursion (λ (sent : Sent). Q sent → R sent) sents
each_of P Q R W [] why all ps = tt
each_of P Q R W (sent ∷ sents) why all ps = (λ q. (all (why sent ps.0 q)).0, each_of P Q R W sents why (λ v. (all v).1) ps.1)

pub both_of : (P Q : Sent → Type 0) (R : Sent → Type 0) (sents : List Sent) → ((sent : Sent) → P sent → Q sent → R sent) → AllByRecursion P sents → AllByRecursion Q sents → AllByRecursion R sents
both_of P Q R [] f ps qs = tt
both_of P Q R (sent ∷ sents) f ps qs = (f sent ps.0 qs.0, both_of P Q R sents f ps.1 qs.1)

pub where_so : (W : Type 0) (Q : Sent → Type 0) (sents : List Sent) → (W → AllByRecursion Q sents) → AllByRecursion (λ (sent : Sent). W → Q sent) sents
where_so W Q [] all = tt
where_so W Q (sent ∷ sents) all = ((λ v. (all v).0), where_so W Q sents (λ v. (all v).1))

-- ---- the end that asked, and another one

module _ {C : Type 0} (link : C → Link (List ℕ)) (titles : List (List ℕ)) (timers : Timers) (w : Whole) (journal : List JournalEvent) (old : World C) (explains : Explains link titles timers w journal old)
    (going : Going) (system x : ℕ) (from : List ℕ) (N : Type 0) (b : EndRecord) (r : InCrWait) (h : IsHere system x from N b r old) where
  abbrev theirs : IsGoing old x
  theirs = record { system = system; reference = b.own; entity = h.entity; end = in_cr_wait b r; is_end = record { there = h.there; stands = h.stands; number = h.number }; goes = refl }

  -- a history knows it
  abbrev pub asking_known : (is : IsKnown w h.entity.own b.own (in_cr_wait b r)) × (is.k + 1 ≡ x)
  asking_known = far link titles timers w journal old explains x theirs

  pub asking_some : b.own ≢ 0
  asking_some none = none-some (in_cr_wait b r) (ap (end_at h.entity) (sym none) ∙ h.stands)

  module _ (s : ℕ) (entity : Entity) (there : entity_at old.entities s ≡ Some entity) (reference : ℕ) (o : End) (stands : end_at entity reference ≡ Some o) where
    -- an end that is for it was called by it
    for_it : stop_of o.stage ≡ None → o.base.to ≡ from → o.base.partner ≡ b.own → (entity.own ≡ b.to) × (is_called_by o.base from b.own ≡ true)
    for_it goes to partner_is = by (partner_there link titles timers w journal old explains z x theirs rival)
      where
        z : ℕ
        z = latest old.ends s reference

        rival : IsFor old z h.entity.own b.own
        rival = record {
          going = record { system = s; reference = reference; entity = entity; end = o; is_end = record { there = there; stands = stands; number = refl }; goes = goes };
          to_is = to ∙ sym h.own_is;
          partner_is = partner_is;
        }

        other : (q : IsKnown w entity.own reference o) × (q.k + 1 ≡ z)
        other = here link titles timers w journal old explains z x theirs rival

        two : false ≡ true → ⊥
        two f = cc f

        by : IsPartner w.base (here link titles timers w journal old explains z x theirs rival).0.k (far link titles timers w journal old explains x theirs).0.k → (entity.own ≡ b.to) × (is_called_by o.base from b.own ≡ true)
        by (inl c) = absurd (two (sym asking_known.0.sees.state.calls ∙ sym asking_known.0.sees.is_called ∙ c.called))
        by (inr c) =
            let called : o.base.is_called ≡ true = sym other.0.sees.is_called ∙ c.called in
            let address : entity.own ≡ b.to =
            sym other.0.at.address ∙ sym (partner_address (times_of timers) w.base (sound link titles timers w journal old explains) asking_known.0.k other.0.k (inl c)) ∙ asking_known.0.sees.partner in
            let to_true : pointwise nat_eq o.base.to from ≡ true = (bytes_decides o.base.to from).1 to in
            (address, λ i. called i && (to_true i && eq-eqb o.base.partner b.own partner_is i))

    -- what a row of another one sends that it did not call is not for it, nor in its name
    pub row_apart : (event : Event) → (s ≡ system → reference ≡ b.own → ⊥) → ((entity.own ≡ b.to) × (is_called_by o.base from b.own ≡ true) → ⊥) → stop_of o.stage ≡ None → IsFit o event → IsSourced 0 event
        → IsProperEvent o event → (o.base.to ≡ from → NamedBy event b.own → ⊥)
        → AllByRecursion (λ (sent : Sent). IsKeptApart system from N b r (record { system = s; sent = sent })) (stepped whole (link old.carrier).clock o event).tpdus
    row_apart event apart other goes fit sourced may unnamed =
        both_of (λ (sent : Sent). IsSentTo from b.own sent → ⊥) (λ (sent : Sent). (s ≡ system → Names b.own sent.tpdu → ⊥) × HasSource (seen 0 sent.tpdu))
        (λ (sent : Sent). IsKeptApart system from N b r (record { system = s; sent = sent })) m.tpdus
        (λ sent none more. record { refused = λ to_it. absurd (none to_it); named = λ at_it names. absurd (more.0 at_it names); sourced = more.1 })
        (row_aims going now (times_of o.base.timers) (w.base.end known.k) o event sees stop fit sourced known.proper may from b.own bad)
        (both_of (λ (sent : Sent). s ≡ system → Names b.own sent.tpdu → ⊥) (λ (sent : Sent). HasSource (seen 0 sent.tpdu))
        (λ (sent : Sent). (s ≡ system → Names b.own sent.tpdu → ⊥) × HasSource (seen 0 sent.tpdu)) m.tpdus (λ sent one more. (one, more))
        (where_so (s ≡ system) (λ (sent : Sent). Names b.own sent.tpdu → ⊥) m.tpdus
        (λ at_it. row_named going now (times_of o.base.timers) (w.base.end known.k) o event sees stop fit sourced known.proper may b.own asking_some (λ same. apart at_it (sym known.at.reference_is ∙ same))))
        (row_sourced going now (times_of o.base.timers) (w.base.end known.k) o event sees stop fit sourced known.proper may ((sound link titles timers w journal old explains).own known.k known.at.low).some))
      where
        now : ℕ
        now = (link old.carrier).clock

        m : Moved
        m = stepped whole now o event

        known : IsKnown w entity.own reference o
        known = subst (IsThere w entity.own reference) stands ((explains.known.holds s entity there).there reference)

        sees : Sees (times_of o.base.timers) now (w.base.end known.k) o
        sees = subst (λ (n : ℕ). Sees (times_of o.base.timers) n (w.base.end known.k) o) (sym explains.carries.clock) known.sees

        stop : (w.base.end known.k).stop ≡ None
        stop = known.sees.stop ∙ goes

        bad : o.base.to ≡ from → (o.base.partner ≡ b.own) ⊎ NamedBy event b.own → ⊥
        bad to (inl partner) = other (for_it goes to partner)
        bad to (inr named) = unnamed to named

-- ---- what comes to an entity

-- no end that it called takes what came
module _ {C : Type 0} (link : C → Link (List ℕ)) (old new : World C) (post : Post) (made : List JournalEvent) (a : HasActed link old new post made) (from : List ℕ) (b : EndRecord) where
  abbrev pub AreDeaf : Type 0
  AreDeaf = (reference : ℕ) (o : End) (t : WireTpdu) (sum : Bool) → IsReadAs a.entity post.sent (t, sum) → destination_of t ≡ Some reference → end_at a.entity reference ≡ Some o
      → is_match o.base o.stage a.sender.own t ≡ true → a.entity.own ≡ b.to → is_called_by o.base from b.own ≡ true → ⊥

  -- those of which none was answered
  pub unanswered_deaf : AreUnanswered old b.to from b.own → AreDeaf
  unanswered_deaf was reference o t sum read target there match address called = no_fit o.base o.stage t (was a.system reference a.entity o a.there address there called) (both_are _ _ match).1

module _ {C : Type 0} (link : C → Link (List ℕ)) (titles : List (List ℕ)) (timers : Timers) (w : Whole) (journal : List JournalEvent) (old : World C) (explains : Explains link titles timers w journal old)
    (going : Going) (new : World C) (post : Post) (rest : List Post) (made : List JournalEvent) (a : HasActed link old new post made) (system x : ℕ) (from : List ℕ) (N : Type 0) (b : EndRecord) (r : InCrWait)
    (h : IsHere system x from N b r old) (deaf : AreDeaf link old new post made a from b) (listens : AreListening (link old.carrier).clock old b.to)
    (selects : AreRegistered N old b.to b.called) (quiet : AllByRecursion (IsKeptApart system from N b r) (post ∷ rest)) where
  abbrev now : ℕ
  now = (link old.carrier).clock

  abbrev e : Entity
  e = at now a.entity

  abbrev asking : End
  asking = in_cr_wait b r

  -- what comes in the name of the end is its CR
  is_cr : (t : WireTpdu) (sum : Bool) → IsReadAs a.entity post.sent (t, sum) → a.sender.own ≡ from → Names b.own t → post ≡ cr_from system b r
  is_cr t sum read from_is names =
      quiet.0.named (explains.known.apart post.system system a.sender h.entity a.sender_there h.there (from_is ∙ sym h.own_is)) (read_names a.entity post.sent t sum b.own read names)

  -- which is answered by that DR alone
  cr_refused : post ≡ cr_from system b r → AllByRecursion (IsRefusalTo from N b.own) a.acted.tpdus
  cr_refused is = by (subst (IsAsked now e from b.own b.called) (sym acted_is) (asks now e from b r.octets (is_summed sent.sum sent.tpdu)))
    where
      sent : Sent
      sent = request b r.octets

      sender_is : a.sender ≡ h.entity
      sender_is = same_Some a.sender h.entity (sym a.sender_there ∙ ap (λ (p : Post). entity_at old.entities p.system) is ∙ h.there)

      to_is : a.entity.own ≡ b.to
      to_is = a.own_is ∙ ap (λ (p : Post). p.sent.to) is

      acted_is : a.acted ≡ met whole now e from (sent.tpdu, is_summed sent.sum sent.tpdu)
      acted_is = came_as link titles timers w journal old explains new post rest made a sent from (ap (λ (p : Post). p.sent) is) (ap (λ (z : Entity). z.own) sender_is ∙ h.own_is) refl
          (listens a.system a.entity a.there to_is)

      by : IsAsked now e from b.own b.called a.acted → AllByRecursion (IsRefusalTo from N b.own) a.acted.tpdus
      by (There any acted) = subst (AllByRecursion (IsRefusalTo from N b.own)) (sym (ap (λ (z : Acted). z.tpdus) acted)) tt
      by (Made own base octets free called acted) = subst (AllByRecursion (IsRefusalTo from N b.own)) (sym (ap (λ (z : Acted). z.tpdus) acted)) tt
      by (Refused reason is_reason acted) =
          subst (AllByRecursion (IsRefusalTo from N b.own)) (sym (ap (λ (z : Acted). z.tpdus) acted)) (record { reason = reason; is_reason = reason_as (is_registered a.entity.selectors b.called ≡ false) N reason (selects a.system a.entity a.there to_is) is_reason; is = refl }, tt)

  -- what the end itself takes
  pub turned : (t : WireTpdu) (sum : Bool) → IsReadAs a.entity post.sent (t, sum) → destination_of t ≡ Some b.own → a.system ≡ system → IsRefusalOf from N b.own t
  turned t sum read target at_it =
      let owner : a.entity ≡ h.entity = same_Some a.entity h.entity (sym a.there ∙ ap (entity_at old.entities) at_it ∙ h.there) in
      let to_is : post.sent.to ≡ from = sym a.own_is ∙ ap (λ (z : Entity). z.own) owner ∙ h.own_is in
      let refused : IsRefusalTo from N b.own post.sent = quiet.0.refused (record { address = to_is; target = sym read.target ∙ target }) in
      record {
        reason = refused.reason;
        is_reason = refused.is_reason;
        is = read.control (ap (λ (s : Sent). has_number (kind_for s.tpdu)) refused.is) ∙ ap (λ (s : Sent). s.tpdu) refused.is;
      }

  -- each TPDU that the entity sends
  abbrev Apart : Sent → Type 0
  Apart sent = IsKeptApart system from N b r (record { system = a.system; sent = sent })

  answered : AllByRecursion (IsAnswerTo (λ t sum. IsReadAs a.entity post.sent (t, sum)) a.sender.own) a.acted.tpdus → AllByRecursion Apart a.acted.tpdus
  answered answers =
      both_of (IsAnswerTo (λ t sum. IsReadAs a.entity post.sent (t, sum)) a.sender.own) (λ (sent : Sent). IsSentTo from b.own sent → IsRefusalTo from N b.own sent) Apart a.acted.tpdus
      (λ sent answer refused. record { refused = refused; named = λ at_it names. absurd (answer.unnamed b.own (asking_some link titles timers w journal old explains going system x from N b r h) names); sourced = answer.sourced })
      answers
      (each_of (IsAnswerTo (λ t sum. IsReadAs a.entity post.sent (t, sum)) a.sender.own) (IsSentTo from b.own) (IsRefusalTo from N b.own) (post ≡ cr_from system b r) a.acted.tpdus
      (λ sent answer to_it. is_cr answer.t answer.sum answer.read (sym answer.to ∙ to_it.address)
      (subst (λ (n : ℕ). Names n answer.t) (same_Some answer.source b.own (sym answer.target ∙ to_it.target)) answer.names)) cr_refused answers)

  -- an end takes it that is another one
  module _ (t : WireTpdu) (sum : Bool) (reference : ℕ) (o : End) (read : IsReadAs a.entity post.sent (t, sum)) (target : destination_of t ≡ Some reference) (there : end_at a.entity reference ≡ Some o)
      (match : is_match o.base o.stage a.sender.own t ≡ true) (apart : a.system ≡ system → reference ≢ b.own) where
    abbrev m : Moved
    m = stepped whole now o (Took t sum)

    is : (pointwise nat_eq o.base.to a.sender.own ≡ true) × (fits o.base o.stage t ≡ true)
    is = both_are _ _ match

    to_is : o.base.to ≡ a.sender.own
    to_is = (bytes_decides o.base.to a.sender.own).0 is.0

    goes : stop_of o.stage ≡ None
    goes = going_of o.base o.stage t is.1

    may : IsAllowed (agreed_format o.base.agreed) t
    may = subst (λ (format : Format). IsAllowed format t) (ap (format_for (extended_of a.entity)) target ∙ format_is a.entity reference ∙ ap format_of there) read.allowed

    sourced : HasSource (seen 0 t)
    sourced = read_sourced a.entity post.sent t sum read quiet.0.sourced

    -- it does not name that end: its CR alone is in the name of that, and it has no destination
    unnamed : o.base.to ≡ from → Names b.own t → ⊥
    unnamed to names =
        let cr : post ≡ cr_from system b r = is_cr t sum read (sym to_is ∙ to) names in
        none-some reference (sym (ap (λ (p : Post). destination_of p.sent.tpdu) cr) ∙ sym read.target ∙ target)

    -- and was not called by it
    moved_apart : AllByRecursion Apart m.tpdus
    moved_apart = row_apart link titles timers w journal old explains going system x from N b r h a.system a.entity a.there reference o there (Took t sum) apart
        (λ called. deaf reference o t sum read target there match called.0 called.1) goes is.1 sourced may unnamed

  -- ---- all that waits then

  -- the end itself takes that DR, and sends nothing
  own_apart : (t : WireTpdu) (sum : Bool) (o : End) → IsRefusalOf from N b.own t → o ≡ asking → AllByRecursion Apart (stepped whole now o (Took t sum)).tpdus
  unfolding cr_wait_tpdu
  own_apart t sum o is same =
      subst (λ (z : End). AllByRecursion Apart (stepped whole now z (Took t sum)).tpdus) (sym same)
      (subst (λ (u : WireTpdu). AllByRecursion Apart (stepped whole now asking (Took u sum)).tpdus) (sym is.is) nothing)
    where
      nothing : AllByRecursion Apart (stepped whole now asking (Took (refusal from b.own is.reason).tpdu sum)).tpdus
      nothing = tt

  sent_apart : IsMet (λ t sum. IsReadAs a.entity post.sent (t, sum)) now e a.sender.own a.acted → AllByRecursion Apart a.acted.tpdus
  sent_apart (Stays same none answers) = answered answers
  sent_apart (Takes t sum reference o read target there match is) = by (a.system == system) (reference == b.own) refl refl
    where
      back : AllByRecursion Apart (stepped whole now o (Took t sum)).tpdus → AllByRecursion Apart a.acted.tpdus
      back all = subst (AllByRecursion Apart) (sym (ap (λ (z : Acted). z.tpdus) is)) all

      by : (c d : Bool) → (a.system == system) ≡ c → (reference == b.own) ≡ d → AllByRecursion Apart a.acted.tpdus
      by true true at_it own =
          let here : a.system ≡ system = eqb-true a.system system at_it in
          let same : reference ≡ b.own = eqb-true reference b.own own in
          let owner : a.entity ≡ h.entity = same_Some a.entity h.entity (sym a.there ∙ ap (entity_at old.entities) here ∙ h.there) in
          back (own_apart t sum o (turned t sum read (target ∙ ap (λ (n : ℕ). Some n) same) here) (same_Some o asking (sym there ∙ (λ i. end_at (owner i) (same i)) ∙ h.stands)))
      by true false at_it own = back (moved_apart t sum reference o read target there match (λ here. eqb-false reference b.own own))
      by false d at_it own = back (moved_apart t sum reference o read target there match (λ here. absurd (eqb-false a.system system at_it here)))
  sent_apart (Makes reference base octets free own is) = subst (AllByRecursion Apart) (sym (ap (λ (z : Acted). z.tpdus) is)) tt

  pub apart_on : AllByRecursion (IsKeptApart system from N b r) (rest ++ posted a.system a.acted.tpdus)
  apart_on = all_both (IsKeptApart system from N b r) rest (posted a.system a.acted.tpdus) quiet.1
      (posted_each (IsKeptApart system from N b r) a.system a.acted.tpdus (sent_apart (met_so link titles timers w journal old explains new post rest made a)))

-- one delivery, where it was so before
pub unsettled_so : {C : Type 0} (link : C → Link (List ℕ)) (titles : List (List ℕ)) (timers : Timers) (w : Whole) (journal : List JournalEvent) (old : World C)
    (explains : Explains link titles timers w journal old) (fit : IsFitWorld link old) (going : Going) (new : World C) (post : Post) (rest : List Post) (made : List JournalEvent)
    (a : HasActed link old new post made) (system x : ℕ) (from : List ℕ) (N : Type 0) (b : EndRecord) (r : InCrWait) (P : Type 0) → AreListening (link old.carrier).clock old b.to → AreRegistered N old b.to b.called → IsUnsettled system x from N b r old (post ∷ rest)
    → (P → AllByRecursion (IsKeptApart system from N b r) (post ∷ rest))
    → (IsUnsettled system x from N b r new (rest ++ posted a.system a.acted.tpdus) × (P → AllByRecursion (IsKeptApart system from N b r) (rest ++ posted a.system a.acted.tpdus)))
    ⊎ ((has : HasTaken link new x b r) × (P → IsRefusalOf from N b.own has.tpdu))
unsettled_so {C} link titles timers w journal old explains fit going new post rest made a system x from N b r P listens selects u quiet =
    elim (unsettled_on link titles timers w journal old explains new post rest made a system x from N b r fit listens selects u) [
      | inl next ↦ inl (next, λ p. apart_on link titles timers w journal old explains going new post rest made a system x from N b r u.here (unanswered_deaf link old new post made a from b u.unanswered) listens selects (quiet p))
      | inr taken ↦ inr (
        taken.has,
        λ p. elim taken.whence [
          | inl is ↦ is
          | inr q ↦ turned link titles timers w journal old explains going new post rest made a system x from N b r u.here (unanswered_deaf link old new post made a from b u.unanswered) listens selects (quiet p) taken.has.tpdu q.0 q.1 q.2 q.3
        ],
      )
    ]
