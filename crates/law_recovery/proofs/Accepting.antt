-- An end in CrWait whose called end is in AkWait: that is the only one that it called, and no other end of its system is for it. So what comes to it comes from none, and is in no name that counts.
use Rattle.std.proofs.Common.{◌≡◌, ◌≢◌, ◌⊎◌, inl, inr, ℕ, ◌+◌, Bool, true, List, ◌∷◌, ◌++◌, Some, None, refl, sym, ◌∙◌, ap, subst, arith}
use Rattle.std.specs.Prelude.{nat_eq}
use Rattle.std.specs.List.{AllByRecursion}
use Rattle.std.specs.Cmp.Lexicographic.{bytes_decides, pointwise}
use Rattle.std.proofs.lemmas.Option.{none-some, same_Some}
use Rattle.osi_base.specs.Link.{Link}
use Rattle.osi_base.proofs.Members.{all_both}
use Rattle.script_journal.specs.declared.event.Event.{Event as JournalEvent}
use Rattle.tpdu.specs.Values.{format_for}
use Rattle.tpdu.specs.Writing.{IsAllowed}
use Rattle.tpdu.specs.declared.tpdu.Format.{Format}
use Rattle.tpdu.specs.declared.tpdu.Tpdu.{Tpdu as WireTpdu}
use Rattle.tp4_number.specs.Number.{whole}
use Rattle.tp4_flow.specs.declared.step.Sent.{Sent}
use Rattle.tp4_conn.specs.End.{End, Moved, agreed_format}
use Rattle.tp4_conn.specs.Living.{IsFit}
use Rattle.tp4_conn.specs.Matching.{fits, is_called_by}
use Rattle.tp4_conn.specs.Proper.{IsProperEvent}
use Rattle.tp4_conn.specs.Table.{Event, Took, stepped}
use Rattle.tp4_conn.specs.declared.end_record.EndRecord.{EndRecord}
use Rattle.tp4_conn.specs.declared.states.InCrWait.{InCrWait}
use Rattle.tp4_conn.specs.declared.timers.Timers.{Timers}
use Rattle.tp4_entity.specs.Entity.{Acted, Entity, at, end_at}
use Rattle.tp4_entity.specs.Unit.{extended_of}
use Rattle.tp4_entity.specs.steps.Places.{format_of}
use Rattle.tp4_entity.proofs.Formats.{format_is}
use Rattle.law_tp4_history.specs.History.{IsPartner}
use Rattle.law_tp4_history.specs.Tracks.{Whole}
use Rattle.law_tp4_history.proofs.Meets.{swap}
use Rattle.law_tp4_history.proofs.Sound.{one_partner}
use Rattle.law_tp4_history.specs.Moves.{IsSourced, Sees, stop_of, times_of}
use Rattle.tp4_world.specs.World.{World, entity_at, latest}
use Rattle.law_tp4_lawful.proofs.Known.{IsKnown, IsReadAs, IsThere}
use Rattle.law_tp4_lawful.proofs.Worlds.{Explains}
use Rattle.law_tp4_associations.proofs.EndedWorlds.{IsFitWorld}
use Rattle.law_calm_run.proofs.Hall.{Post, posted}
use Rattle.law_recovery_run.specs.Aside.{IsSentTo, Names}
use Rattle.law_recovery_run.specs.Rivals.{IsFor, IsGoing}
use Rattle.law_recovery_run.proofs.Aiming.{Going}
use Rattle.law_recovery_run.proofs.Aside.{both_are, going_of}
use Rattle.law_recovery_run.proofs.Rivals.{far, here, partner_there, sound}
use Rattle.law_recovery_run.proofs.Delivering.{HasActed}
use Rattle.law_recovery_run.proofs.Doing.{each_all}
use Rattle.law_recovery_run.proofs.Naming.{NamedBy, row_aims, row_named}
use Rattle.law_recovery_run.proofs.Waiting.{posted_each}
use Rattle.law_recovery_run.specs.Requesting.{in_cr_wait}
use Rattle.law_recovery_run.proofs.RequestComes.{AreRegistered, IsHere, listens_on, met_so, number_on, placed}
use Rattle.law_recovery_run.proofs.Keeping.{AreDeaf, apart_on, read_names, read_sourced}
use Rattle.law_recovery_run.proofs.Places.{IsAnswerTo, IsMet, Makes, Stays, Takes, goes_on}
use Rattle.law_recovery.proofs.HalvesRowing.{both_of, for_caller, where_so}
use Rattle.law_recovery.proofs.State.{IsAccepted, IsQuiet}

module _ {C : Type 0} (link : C → Link (List ℕ)) (titles : List (List ℕ)) (timers : Timers) (w : Whole) (journal : List JournalEvent) (old : World C) (explains : Explains link titles timers w journal old)
    (x system : ℕ) (from : List ℕ) (N : Type 0) (y limit : ℕ) (b : EndRecord) (r : InCrWait) (posts : List Post) (k : IsAccepted link x system from N y limit b r old posts) where
  abbrev now : ℕ
  now = (link old.carrier).clock

  abbrev asking : End
  asking = in_cr_wait b r

  abbrev mine : IsGoing old x
  mine = record { system = system; reference = b.own; entity = k.here.entity; end = asking; is_end = record { there = k.here.there; stands = k.here.stands; number = k.here.number }; goes = refl }

  abbrev theirs : IsGoing old y
  theirs = record {
    system = k.at_system;
    reference = k.own;
    entity = k.entity;
    end = k.end;
    is_end = record { there = k.there; stands = k.stands; number = k.number };
    goes = ap stop_of k.stage;
  }

  abbrev for_mine : IsFor old y k.here.entity.own b.own
  for_mine = record { going = theirs; to_is = (for_caller k.end.base from b.own k.called).0 ∙ sym k.here.own_is; partner_is = (for_caller k.end.base from b.own k.called).1 }

  -- the two are partners
  abbrev one : IsPartner w.base (here link titles timers w journal old explains y x mine for_mine).0.k (far link titles timers w journal old explains x mine).0.k
  one = partner_there link titles timers w journal old explains y x mine for_mine

  abbrev my_k : IsKnown w k.here.entity.own b.own asking
  my_k = (far link titles timers w journal old explains x mine).0

  abbrev their_k : IsKnown w k.entity.own k.own k.end
  their_k = (here link titles timers w journal old explains y x mine for_mine).0

  pub some : k.own ≢ 0
  some none = none-some k.end (ap (end_at k.entity) (sym none) ∙ k.stands)

  pub unknown : b.partner ≡ 0
  unknown = my_k.sees.state.unknown

  module _ (s : ℕ) (entity : Entity) (there : entity_at old.entities s ≡ Some entity) (reference : ℕ) (o : End) (stands : end_at entity reference ≡ Some o) (goes : stop_of o.stage ≡ None) where
    abbrev z : ℕ
    z = latest old.ends s reference

    abbrev going_o : IsGoing old z
    going_o = record { system = s; reference = reference; entity = entity; end = o; is_end = record { there = there; stands = stands; number = refl }; goes = goes }

    -- it called no other
    pub only_called : entity.own ≡ b.to → is_called_by o.base from b.own ≡ true → (s ≡ k.at_system) × (reference ≡ k.own)
    only_called address called = (explains.known.apart s k.at_system entity k.entity there k.there (address ∙ sym k.own_is), reference_is)
      where
        rival : IsFor old z k.here.entity.own b.own
        rival = record { going = going_o; to_is = (for_caller o.base from b.own called).0 ∙ sym k.here.own_is; partner_is = (for_caller o.base from b.own called).1 }

        other : (q : IsKnown w entity.own reference o) × (q.k + 1 ≡ z)
        other = here link titles timers w journal old explains z x mine rival

        two : IsPartner w.base other.0.k my_k.k
        two = partner_there link titles timers w journal old explains z x mine rival

        same : other.0.k ≡ their_k.k
        same = one_partner (times_of timers) w.base (sound link titles timers w journal old explains) my_k.k other.0.k their_k.k (swap w.base other.0.k my_k.k two) (swap w.base their_k.k my_k.k one)

        reference_is : reference ≡ k.own
        reference_is = sym other.0.at.reference_is ∙ ap (λ (n : ℕ). (w.base.end n).birth.reference) same ∙ their_k.at.reference_is

    -- and no other end is for the one that it called; it is not either, since it does not know it
    pub not_for : o.base.to ≡ b.to → o.base.partner ≡ k.own → ⊥
    not_for to partner_is = some (sym partner_is ∙ ap (λ (e : End). e.base.partner) is ∙ unknown)
      where
        rival : IsFor old z k.entity.own k.own
        rival = record { going = going_o; to_is = to ∙ sym k.own_is; partner_is = partner_is }

        other : (q : IsKnown w entity.own reference o) × (q.k + 1 ≡ z)
        other = here link titles timers w journal old explains z y theirs rival

        two : IsPartner w.base other.0.k their_k.k
        two =
            let f = far link titles timers w journal old explains y theirs in
            let one_k = f.1 in
            let other_k = (here link titles timers w journal old explains y x mine for_mine).1 in
            let same_k : f.0.k ≡ their_k.k = omega (arith, one_k, other_k) in
            subst (λ (n : ℕ). IsPartner w.base other.0.k n) same_k (partner_there link titles timers w journal old explains z y theirs rival)

        same : other.0.k ≡ my_k.k
        same = one_partner (times_of timers) w.base (sound link titles timers w journal old explains) their_k.k other.0.k my_k.k (swap w.base other.0.k their_k.k two) one

        reference_is : reference ≡ b.own
        reference_is = sym other.0.at.reference_is ∙ ap (λ (n : ℕ). (w.base.end n).birth.reference) same ∙ my_k.at.reference_is

        address : entity.own ≡ k.here.entity.own
        address = sym other.0.at.address ∙ ap (λ (n : ℕ). (w.base.end n).birth.address) same ∙ my_k.at.address

        at_it : s ≡ system
        at_it = explains.known.apart s system entity k.here.entity there k.here.there address

        owner : entity ≡ k.here.entity
        owner = same_Some entity k.here.entity (sym there ∙ ap (entity_at old.entities) at_it ∙ k.here.there)

        is : o ≡ asking
        is = same_Some o asking (sym stands ∙ (λ i. end_at (owner i) (reference_is i)) ∙ k.here.stands)

    -- what it sends by a row is quiet
    module _ (going : Going) (event : Event) where
      abbrev m : Moved
      m = stepped whole now o event

      known : IsKnown w entity.own reference o
      known = subst (IsThere w entity.own reference) stands ((explains.known.holds s entity there).there reference)

      sees : Sees (times_of o.base.timers) now (w.base.end known.k) o
      sees = subst (λ (n : ℕ). Sees (times_of o.base.timers) n (w.base.end known.k) o) (sym explains.carries.clock) known.sees

      stop : (w.base.end known.k).stop ≡ None
      stop = known.sees.stop ∙ goes

      pub quiet_row : IsFit o event → IsSourced 0 event → IsProperEvent o event → (o.base.to ≡ b.to → NamedBy event k.own → ⊥) → (s ≡ k.at_system → reference ≡ k.own → ⊥)
          → AllByRecursion (λ (sent : Sent). IsQuiet link x system from N b.to k.at_system k.own (record { system = s; sent = sent })) m.tpdus
      quiet_row fit sourced may unnamed apart =
          both_of (λ (sent : Sent). IsSentTo b.to k.own sent → ⊥) (λ (sent : Sent). s ≡ k.at_system → Names k.own sent.tpdu → ⊥)
          (λ (sent : Sent). IsQuiet link x system from N b.to k.at_system k.own (record { system = s; sent = sent })) m.tpdus (λ sent none more. record { none = λ at_it to_it. none to_it; unnamed = more })
          (row_aims going now (times_of o.base.timers) (w.base.end known.k) o event sees stop fit sourced known.proper may b.to k.own bad)
          (where_so (s ≡ k.at_system) (λ (sent : Sent). Names k.own sent.tpdu → ⊥) m.tpdus
          (λ at_it. row_named going now (times_of o.base.timers) (w.base.end known.k) o event sees stop fit sourced known.proper may k.own some (λ same. apart at_it (sym known.at.reference_is ∙ same))))
        where
          bad : o.base.to ≡ b.to → (o.base.partner ≡ k.own) ⊎ NamedBy event k.own → ⊥
          bad to (inl partner) = not_for to partner
          bad to (inr named) = unnamed to named

-- ---- what comes

module _ {C : Type 0} (link : C → Link (List ℕ)) (titles : List (List ℕ)) (timers : Timers) (w : Whole) (journal : List JournalEvent) (old : World C) (explains : Explains link titles timers w journal old)
    (fit : IsFitWorld link old) (going : Going) (new : World C) (post : Post) (rest : List Post) (made : List JournalEvent) (a : HasActed link old new post made)
    (x system : ℕ) (from : List ℕ) (N : Type 0) (y limit : ℕ) (b : EndRecord) (r : InCrWait) (k : IsAccepted link x system from N y limit b r old (post ∷ rest)) where
  abbrev clock : ℕ
  clock = (link old.carrier).clock

  abbrev e : Entity
  e = at clock a.entity

  abbrev ReadHere : WireTpdu → Bool → Type 0
  ReadHere t sum = IsReadAs a.entity post.sent (t, sum)

  abbrev Quiet : Sent → Type 0
  Quiet sent = IsQuiet link x system from N b.to k.at_system k.own (record { system = a.system; sent = sent })

  -- its called end takes nothing
  pub deaf : AreDeaf link old new post made a from b
  deaf reference o t sum read target there match address called =
      let goes : stop_of o.stage ≡ None = going_of o.base o.stage t (both_are (pointwise nat_eq o.base.to a.sender.own) (fits o.base o.stage t) match).1 in
      let at = only_called link titles timers w journal old explains x system from N y limit b r (post ∷ rest) k a.system a.entity a.there reference o there goes address called in
      let to : o.base.to ≡ a.sender.own = (bytes_decides o.base.to a.sender.own).0 (both_are (pointwise nat_eq o.base.to a.sender.own) (fits o.base o.stage t) match).0 in
      let sender : a.sender.own ≡ k.here.entity.own = sym to ∙ (for_caller o.base from b.own called).0 ∙ sym k.here.own_is in
      k.quiet.0.none (explains.known.apart post.system system a.sender k.here.entity a.sender_there k.here.there sender)
      (record { address = sym a.own_is ∙ address; target = sym read.target ∙ target ∙ ap (λ (n : ℕ). Some n) at.1 })

  -- it is named by none
  from_it : (t : WireTpdu) (sum : Bool) → ReadHere t sum → a.sender.own ≡ b.to → Names k.own t → ⊥
  from_it t sum read sender names =
      k.quiet.0.unnamed (explains.known.apart post.system k.at_system a.sender k.entity a.sender_there k.there (sender ∙ sym k.own_is)) (read_names a.entity post.sent t sum k.own read names)

  answer_quiet : (sent : Sent) → IsAnswerTo ReadHere a.sender.own sent → Quiet sent
  answer_quiet sent answer = record {
    none = λ at_it to_it. from_it answer.t answer.sum answer.read (sym answer.to ∙ to_it.address) (subst (λ (n : ℕ). Names n answer.t) (same_Some answer.source k.own (sym answer.target ∙ to_it.target)) answer.names);
    unnamed = λ at_it names. answer.unnamed k.own (some link titles timers w journal old explains x system from N y limit b r (post ∷ rest) k) names;
  }

  sent_quiet : IsMet ReadHere clock e a.sender.own a.acted → AllByRecursion Quiet a.acted.tpdus
  sent_quiet (Stays same none answers) = each_all (IsAnswerTo ReadHere a.sender.own) Quiet a.acted.tpdus answer_quiet answers
  sent_quiet (Takes t sum reference o read target there match is) =
      subst (AllByRecursion Quiet) (sym (ap (λ (z : Acted). z.tpdus) is))
      (quiet_row link titles timers w journal old explains x system from N y limit b r (post ∷ rest) k a.system a.entity a.there reference o there goes going (Took t sum) parts.1
      (read_sourced a.entity post.sent t sum read k.apart.0.sourced) may
      (λ to names. from_it t sum read (sym to_sender ∙ to) names) not_its)
    where
      parts : (pointwise nat_eq o.base.to a.sender.own ≡ true) × (fits o.base o.stage t ≡ true)
      parts = both_are (pointwise nat_eq o.base.to a.sender.own) (fits o.base o.stage t) match

      to_sender : o.base.to ≡ a.sender.own
      to_sender = (bytes_decides o.base.to a.sender.own).0 parts.0

      goes : stop_of o.stage ≡ None
      goes = going_of o.base o.stage t parts.1

      may : IsAllowed (agreed_format o.base.agreed) t
      may = subst (λ (format : Format). IsAllowed format t) (ap (format_for (extended_of a.entity)) target ∙ format_is a.entity reference ∙ ap format_of there) read.allowed

      -- it is not the called end
      not_its : a.system ≡ k.at_system → reference ≡ k.own → ⊥
      not_its at_it same =
          let owner : a.entity ≡ k.entity = same_Some a.entity k.entity (sym a.there ∙ ap (entity_at old.entities) at_it ∙ k.there) in
          let it : o ≡ k.end = same_Some o k.end (sym there ∙ (λ i. end_at (owner i) (same i)) ∙ k.stands) in
          deaf reference o t sum read target there match (ap (λ (z : Entity). z.own) owner ∙ k.own_is) (subst (λ (z : End). is_called_by z.base from b.own ≡ true) (sym it) k.called)
  sent_quiet (Makes reference base octets free own is) = subst (AllByRecursion Quiet) (sym (ap (λ (z : Acted). z.tpdus) is)) tt

  -- so it stands as it stood
  pub accepted_then : IsHere system x from N b r new → AreRegistered N new b.to b.called → IsAccepted link x system from N y limit b r new (rest ++ posted a.system a.acted.tpdus)
  accepted_then now_here selects = elim (placed link titles timers w journal old explains new post rest made a k.at_system k.entity k.there) [
    | inl acts ↦
        let at_it : end_at a.entity k.own ≡ Some k.end = ap (λ (z : Entity). end_at z k.own) (sym acts.1) ∙ k.stands in
        elim (goes_on ReadHere clock e a.sender.own a.acted (met_so link titles timers w journal old explains new post rest made a) k.own k.end at_it (ap stop_of k.stage)) [
          | inl same ↦ stands_so a.acted.entity acts.2 (a.kept ∙ ap (λ (z : Entity). z.own) (sym acts.1) ∙ k.own_is) same
          | inr took ↦ absurd (deaf k.own k.end took.t took.sum took.read took.target at_it took.match (ap (λ (z : Entity). z.own) (sym acts.1) ∙ k.own_is) k.called)
        ]
    | inr still ↦ stands_so k.entity still k.own_is k.stands
  ]
    where
      stands_so : (z : Entity) → entity_at new.entities k.at_system ≡ Some z → z.own ≡ b.to → end_at z k.own ≡ Some k.end → IsAccepted link x system from N y limit b r new (rest ++ posted a.system a.acted.tpdus)
      stands_so z there own_is stands = record {
        here = now_here;
        listens = listens_on link titles timers w journal old explains new post rest made a system x from N b r fit k.listens;
        selects = selects;
        apart = apart_on link titles timers w journal old explains going new post rest made a system x from N b r k.here deaf k.listens k.selects k.apart;
        at_system = k.at_system;
        own = k.own;
        entity = z;
        there = there;
        own_is = own_is;
        end = k.end;
        w = k.w;
        stands = stands;
        stage = k.stage;
        called = k.called;
        number = number_on link titles timers w journal old explains new post rest made a k.at_system k.own y k.entity k.end k.there k.stands (ap stop_of k.stage) k.number;
        past = k.past;
        quiet = all_both (IsQuiet link x system from N b.to k.at_system k.own) rest (posted a.system a.acted.tpdus) k.quiet.1
            (posted_each (IsQuiet link x system from N b.to k.at_system k.own) a.system a.acted.tpdus (sent_quiet (met_so link titles timers w journal old explains new post rest made a)));
      }
