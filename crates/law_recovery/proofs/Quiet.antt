-- What happens in a network beside an end that stands half-open: what is sent stays so that only a DR comes for it from its partner, and only its CC waits in its name.
use Rattle.std.proofs.Common.{◌≡◌, ◌≢◌, ◌⊎◌, inl, inr, ℕ, Bool, true, false, List, ◌∷◌, Option, Some, None, refl, sym, ◌∙◌, ap, subst}
use Rattle.std.specs.Prelude.{nat_eq, if◌then◌else◌}
use Rattle.std.specs.List.{AllByRecursion}
use Rattle.std.specs.Cmp.Lexicographic.{bytes_decides, pointwise}
use Rattle.std.proofs.lemmas.Option.{none-some, same_Some}
use Rattle.osi_base.specs.Link.{Link}
use Rattle.script_journal.specs.declared.event.Event.{Event as JournalEvent}
use Rattle.tpdu.specs.Kinds.{has_number}
use Rattle.tpdu.specs.Values.{destination_of, format_for}
use Rattle.tpdu.specs.Writing.{IsAllowed, kind_for}
use Rattle.tpdu.specs.declared.tpdu.Format.{Format}
use Rattle.tpdu.specs.declared.tpdu.Tpdu.{Tpdu as WireTpdu}
use Rattle.tpdu.specs.declared.tpdu.Tpdu.TheVariants as wires
use Rattle.tp4_number.specs.Number.{whole}
use Rattle.tp4_flow.specs.declared.step.Sent.{Sent}
use Rattle.tp4_conn.specs.End.{End, Moved, agreed_format}
use Rattle.tp4_conn.specs.Living.{IsFit}
use Rattle.tp4_conn.specs.Matching.{fits, is_match}
use Rattle.tp4_conn.specs.Proper.{IsProperEvent}
use Rattle.tp4_conn.specs.Table.{Event, Took, stepped}
use Rattle.tp4_conn.specs.declared.timers.Timers.{Timers}
use Rattle.tp4_entity.specs.Association.{met, met_by, unmatched}
use Rattle.tp4_entity.specs.Entity.{Acted, Entity, at, end_at, moved}
use Rattle.tp4_entity.specs.Unit.{extended_of}
use Rattle.tp4_entity.specs.steps.Places.{format_of}
use Rattle.tp4_entity.proofs.Formats.{format_is}
use Rattle.law_tp4_history.specs.Tracks.{Whole}
use Rattle.law_tp4_history.specs.Moves.{HasSource, IsSourced, Sees, stop_of, times_of}
use Rattle.law_tp4_history.specs.Seen.{seen}
use Rattle.law_tp4_pair.specs.Standing.{HasLeft}
use Rattle.tp4_world.specs.World.{World, entity_at}
use Rattle.law_tp4_lawful.proofs.Known.{IsKnown, IsReadAs, IsThere}
use Rattle.law_tp4_lawful.proofs.Worlds.{Explains}
use Rattle.law_calm_run.proofs.Hall.{Post}
use Rattle.law_recovery_run.specs.Aside.{IsSentTo, Names}
use Rattle.law_recovery_run.proofs.Aiming.{Going}
use Rattle.law_recovery_run.proofs.Aside.{both_are, going_of}
use Rattle.law_recovery_run.proofs.Rivals.{sound as sound_of}
use Rattle.law_recovery_run.proofs.Delivering.{HasActed}
use Rattle.law_recovery_run.proofs.Naming.{NamedBy, row_aims, row_named, row_sourced}
use Rattle.law_recovery_run.proofs.Places.{IsAnswerTo}
use Rattle.law_recovery.proofs.Asking.{at_place}
use Rattle.law_recovery.proofs.Partner.{IsHalf, IsQuiet, Parties, partner_stands, rival}
use Rattle.law_recovery.proofs.Rows.{IsCc, IsDr, IsPartingFor, left_takes}
use Rattle.law_recovery_run.proofs.Keeping.{both_of, each_of, read_names, read_sourced, where_so as under}
use Rattle.law_recovery_run.proofs.Doing.{each_all}

-- ---- what is read

pub cc_plain : (t : WireTpdu) → IsCc t → has_number (kind_for t) ≡ false
cc_plain (wires.Cc credit destination source width calling called size preferred extra version classes ack_time text) is = refl
cc_plain other is = absurd is

pub dr_plain : (t : WireTpdu) → IsDr t → has_number (kind_for t) ≡ false
dr_plain (wires.Dr destination source reason info text) is = refl
dr_plain other is = absurd is

no_both : (t : WireTpdu) → IsDr t → IsCc t → ⊥
no_both (wires.Dr destination source reason info text) dr cc_is = cc_is
no_both other dr cc_is = dr

-- ---- lists

-- ---- a CC comes to an entity

-- a DR goes back, or the end at its destination takes it
pub data CcMet (now : ℕ) (e : Entity) (from : List ℕ) (t : WireTpdu) (sum : Bool) (acted : Acted) : Type 0 where
  Answered : AllByRecursion (λ (sent : Sent). IsDr sent.tpdu) acted.tpdus → CcMet now e from t sum acted
  Taken : (reference : ℕ) (o : End) → destination_of t ≡ Some reference → end_at e reference ≡ Some o → acted ≡ moved e reference (stepped whole now o (Took t sum)) → CcMet now e from t sum acted

met_cc : (now : ℕ) (e : Entity) (from : List ℕ) (t : WireTpdu) (sum : Bool) → IsCc t → CcMet now e from t sum (met whole now e from (t, sum))
met_cc now e from (wires.Cc credit destination source width calling called size preferred extra version classes ack_time text) sum is = by_place (end_at e destination) refl
  where
    t : WireTpdu
    t = wires.Cc credit destination source width calling called size preferred extra version classes ack_time text

    by_match : (o : End) (b : Bool) → end_at e destination ≡ Some o → CcMet now e from t sum (if b then moved e destination (stepped whole now o (Took t sum)) else unmatched e from t)
    by_match o true stands = Taken destination o refl stands refl
    by_match o false stands = Answered (tt, tt)

    by_place : (place : Option End) → end_at e destination ≡ place → CcMet now e from t sum (met_by whole now e from (t, sum) destination place)
    by_place None stands = Answered (tt, tt)
    by_place (Some o) stands = by_match o (is_match o.base o.stage from t) stands
met_cc now e from t sum is = absurd is

-- ---- a row of another end

module _ {C : Type 0} (link : C → Link (List ℕ)) (names : List (List ℕ)) (timers : Timers) (w : Whole) (journal : List JournalEvent) (old : World C) (explains : Explains link names timers w journal old)
    (going : Going) (t0 : ℕ) (p : Parties) (posts : List Post) (h : IsHalf t0 p journal old posts) where
  abbrev now : ℕ
  now = (link old.carrier).clock

  pub some : p.reference ≢ 0
  some none = none-some h.end (ap (end_at h.entity) (sym none) ∙ h.stands)

  -- what the entity of a system sends is so
  abbrev pub Apart : ℕ → Sent → Type 0
  Apart system sent = IsQuiet p (record { system = system; sent = sent })

  module _ (system : ℕ) (entity : Entity) (there : entity_at old.entities system ≡ Some entity) (reference : ℕ) (o : End) (stands : end_at entity reference ≡ Some o) where
    pub known_of : IsKnown w entity.own reference o
    known_of = subst (IsThere w entity.own reference) stands ((explains.known.holds system entity there).there reference)

    module _ (event : Event) (goes : stop_of o.stage ≡ None) (fit : IsFit o event) (sourced : IsSourced 0 event) (may : IsProperEvent o event) where
      abbrev m : Moved
      m = stepped whole now o event

      abbrev known : IsKnown w entity.own reference o
      known = subst (IsThere w entity.own reference) stands ((explains.known.holds system entity there).there reference)

      sees : Sees (times_of o.base.timers) now (w.base.end known.k) o
      sees = subst (λ (n : ℕ). Sees (times_of o.base.timers) n (w.base.end known.k) o) (sym explains.carries.clock) known.sees

      stop : (w.base.end known.k).stop ≡ None
      stop = known.sees.stop ∙ goes

      -- each CC that it sends has a source
      pub sources : AllByRecursion (λ (sent : Sent). HasSource (seen 0 sent.tpdu)) m.tpdus
      sources = row_sourced going now (times_of o.base.timers) (w.base.end known.k) o event sees stop fit sourced known.proper may
          ((sound_of link names timers w journal old explains).own known.k known.at.low).some

      module _ (apart : system ≡ p.system → reference ≡ p.reference → ⊥) where
        named : system ≡ p.system → AllByRecursion (λ (sent : Sent). Names p.reference sent.tpdu → ⊥) m.tpdus
        named at_it = row_named going now (times_of o.base.timers) (w.base.end known.k) o event sees stop fit sourced known.proper may p.reference some
            (λ same. apart at_it (sym known.at.reference_is ∙ same))

        -- where all that it sends to the end from the system of the partner is a DR
        pub row_quiet : AllByRecursion (λ (sent : Sent). system ≡ p.far_system → IsSentTo p.here p.reference sent → IsDr sent.tpdu) m.tpdus → AllByRecursion (Apart system) m.tpdus
        row_quiet parting =
            both_of (λ (sent : Sent). system ≡ p.far_system → IsSentTo p.here p.reference sent → IsDr sent.tpdu)
            (λ (sent : Sent). (system ≡ p.system → Names p.reference sent.tpdu → ⊥) × HasSource (seen 0 sent.tpdu)) (Apart system) m.tpdus
            (λ sent dr more. record { parting = dr; named = λ at_it names. absurd (more.0 at_it names); sourced = more.1 }) parting
            (both_of (λ (sent : Sent). system ≡ p.system → Names p.reference sent.tpdu → ⊥) (λ (sent : Sent). HasSource (seen 0 sent.tpdu))
            (λ (sent : Sent). (system ≡ p.system → Names p.reference sent.tpdu → ⊥) × HasSource (seen 0 sent.tpdu)) m.tpdus (λ sent one other. (one, other))
            (under (system ≡ p.system) (λ (sent : Sent). Names p.reference sent.tpdu → ⊥) m.tpdus named) sources)

        -- it is not the partner, and takes nothing in the name of the end
        pub other_quiet : (system ≡ p.far_system → reference ≡ p.far_reference → ⊥) → (o.base.to ≡ p.here → NamedBy event p.reference → ⊥) → AllByRecursion (Apart system) m.tpdus
        other_quiet not_partner unnamed =
            row_quiet (each_all (λ (sent : Sent). IsSentTo p.here p.reference sent → ⊥) (λ (sent : Sent). system ≡ p.far_system → IsSentTo p.here p.reference sent → IsDr sent.tpdu) m.tpdus
            (λ sent none at_it to_it. absurd (none to_it))
            (row_aims going now (times_of o.base.timers) (w.base.end known.k) o event sees stop fit sourced known.proper may p.here p.reference bad))
          where
            bad : o.base.to ≡ p.here → (o.base.partner ≡ p.reference) ⊎ NamedBy event p.reference → ⊥
            bad to (inl partner) =
                let place = rival link names timers w journal old explains t0 p posts h system reference entity o there stands goes to partner in
                not_partner place.0 place.1
            bad to (inr named) = unnamed to named

  -- ---- what comes

  module _ (new : World C) (post : Post) (rest : List Post) (made : List JournalEvent) (posts_are : posts ≡ post ∷ rest) (a : HasActed link old new post made) where
    abbrev e : Entity
    e = at now a.entity

    abbrev pub Read : WireTpdu → Bool → Type 0
    Read t sum = IsReadAs a.entity post.sent (t, sum)

    pub all_quiet : AllByRecursion (IsQuiet p) (post ∷ rest)
    all_quiet = subst (AllByRecursion (IsQuiet p)) posts_are h.quiet

    -- it comes in the name of the end: it is its CC, for its partner
    abbrev IsOwn : Type 0
    IsOwn = IsSentTo p.there p.far_reference post.sent × IsCc post.sent.tpdu

    pub own_cc : (t : WireTpdu) (sum : Bool) → Read t sum → a.sender.own ≡ p.here → Names p.reference t → IsOwn
    own_cc t sum read from named =
        all_quiet.0.named (explains.known.apart post.system p.system a.sender h.entity a.sender_there h.placed (from ∙ sym h.own_is)) (read_names a.entity post.sent t sum p.reference read named)

    at_far : IsOwn → a.system ≡ p.far_system
    at_far is = explains.known.apart a.system p.far_system a.entity h.far a.there h.far_placed (a.own_is ∙ is.0.address ∙ sym h.far_own)

    pub far_is : a.system ≡ p.far_system → a.entity ≡ h.far
    far_is at_it = same_Some a.entity h.far (sym a.there ∙ ap (entity_at old.entities) at_it ∙ h.far_placed)

    -- the end that stands at the place of the partner has left
    pub far_left : (reference : ℕ) (o : End) → a.system ≡ p.far_system → reference ≡ p.far_reference → end_at a.entity reference ≡ Some o → HasLeft o.stage
    far_left reference o at_it same stands =
        partner_stands link names timers w journal old explains t0 p posts h o ((λ i. end_at (sym (far_is at_it) i) (sym same i)) ∙ stands)

    -- a CC of the end is answered by DRs alone
    pub cc_parts : IsOwn → AllByRecursion (λ (sent : Sent). IsDr sent.tpdu) a.acted.tpdus
    cc_parts is = elim a.heard.any [
      | inl m ↦ subst (AllByRecursion (λ (sent : Sent). IsDr sent.tpdu)) (sym (ap (λ (z : Acted). z.tpdus) m.2)) (by m.0 m.1 m.3)
      | inr (inl bad) ↦ subst (AllByRecursion (λ (sent : Sent). IsDr sent.tpdu)) (sym (ap (λ (z : Acted). z.tpdus) bad.2)) tt
      | inr (inr silent) ↦ subst (AllByRecursion (λ (sent : Sent). IsDr sent.tpdu)) (sym (ap (λ (z : Acted). z.tpdus) silent)) tt
    ]
      where
        by : (t : WireTpdu) (sum : Bool) → Read t sum → AllByRecursion (λ (sent : Sent). IsDr sent.tpdu) (met whole now e a.sender.own (t, sum)).tpdus
        by t sum read = so (met_cc now e a.sender.own t sum is_cc)
          where
            is_cc : IsCc t
            is_cc = subst IsCc (sym (read.control (cc_plain post.sent.tpdu is.1))) is.1

            so : CcMet now e a.sender.own t sum (met whole now e a.sender.own (t, sum)) → AllByRecursion (λ (sent : Sent). IsDr sent.tpdu) (met whole now e a.sender.own (t, sum)).tpdus
            so (Answered all) = all
            so (Taken reference o target stands acted) =
                let same : reference ≡ p.far_reference = same_Some reference p.far_reference (sym target ∙ read.target ∙ is.0.target) in
                subst (AllByRecursion (λ (sent : Sent). IsDr sent.tpdu)) (sym (ap (λ (z : Acted). z.tpdus) acted))
                (each_all (IsPartingFor o.base t) (λ (sent : Sent). IsDr sent.tpdu) (stepped whole now o (Took t sum)).tpdus
                (λ sent parting. elim parting [ inl dr ↦ dr | inr back ↦ absurd (no_both t back.dr is_cc) ])
                (left_takes now o.base o.stage t sum (far_left reference o (at_far is) same stands)))

    -- the entity answers
    pub answers_quiet : AllByRecursion (IsAnswerTo Read a.sender.own) a.acted.tpdus → AllByRecursion (Apart a.system) a.acted.tpdus
    answers_quiet answers =
        both_of (IsAnswerTo Read a.sender.own) (λ (sent : Sent). IsSentTo p.here p.reference sent → IsDr sent.tpdu) (Apart a.system) a.acted.tpdus
        (λ sent answer dr. record { parting = λ at_it to_it. dr to_it; named = λ at_it names. absurd (answer.unnamed p.reference some names); sourced = answer.sourced }) answers
        (each_of (IsAnswerTo Read a.sender.own) (IsSentTo p.here p.reference) (λ (sent : Sent). IsDr sent.tpdu) IsOwn a.acted.tpdus
        (λ sent answer to_it. own_cc answer.t answer.sum answer.read (sym answer.to ∙ to_it.address)
        (subst (λ (n : ℕ). Names n answer.t) (same_Some answer.source p.reference (sym answer.target ∙ to_it.target)) answer.names)) cc_parts answers)

    -- another end takes it
    module _ (t : WireTpdu) (sum : Bool) (reference : ℕ) (o : End) (read : Read t sum) (target : destination_of t ≡ Some reference) (stands : end_at a.entity reference ≡ Some o)
        (match : is_match o.base o.stage a.sender.own t ≡ true) where
      abbrev fit : (pointwise nat_eq o.base.to a.sender.own ≡ true) × (fits o.base o.stage t ≡ true)
      fit = both_are _ _ match

      pub from_is : o.base.to ≡ a.sender.own
      from_is = (bytes_decides o.base.to a.sender.own).0 (both_are (pointwise nat_eq o.base.to a.sender.own) (fits o.base o.stage t) match).0

      goes_o : stop_of o.stage ≡ None
      goes_o = going_of o.base o.stage t (both_are (pointwise nat_eq o.base.to a.sender.own) (fits o.base o.stage t) match).1

      may_o : IsAllowed (agreed_format o.base.agreed) t
      may_o = subst (λ (format : Format). IsAllowed format t) (ap (format_for (extended_of a.entity)) target ∙ format_is a.entity reference ∙ ap format_of stands) read.allowed

      sourced_o : HasSource (seen 0 t)
      sourced_o = read_sourced a.entity post.sent t sum read all_quiet.0.sourced

      pub taking_quiet : (a.system ≡ p.system → reference ≡ p.reference → ⊥) → AllByRecursion (Apart a.system) (stepped whole now o (Took t sum)).tpdus
      taking_quiet apart = elim (at_place a.system reference p.far_system p.far_reference) [
        | inl here ↦
            row_quiet a.system a.entity a.there reference o stands (Took t sum) goes_o (both_are (pointwise nat_eq o.base.to a.sender.own) (fits o.base o.stage t) match).1 sourced_o may_o apart
            (each_all (IsPartingFor o.base t) (λ (sent : Sent). a.system ≡ p.far_system → IsSentTo p.here p.reference sent → IsDr sent.tpdu) (stepped whole now o (Took t sum)).tpdus
            (λ sent parting at_it to_it. elim parting [
              | inl dr ↦ dr
              | inr back ↦
                  let own : IsOwn = own_cc t sum read (sym from_is ∙ sym back.to ∙ to_it.address) (subst (λ (n : ℕ). Names n t) (same_Some back.source p.reference (sym back.target ∙ to_it.target)) back.names) in
                  absurd (no_both t back.dr (subst IsCc (sym (read.control (cc_plain post.sent.tpdu own.1))) own.1))
            ])
            (left_takes now o.base o.stage t sum (far_left reference o here.0 here.1 stands)))
        | inr not_partner ↦
            other_quiet a.system a.entity a.there reference o stands (Took t sum) goes_o (both_are (pointwise nat_eq o.base.to a.sender.own) (fits o.base o.stage t) match).1 sourced_o may_o apart not_partner
            (λ to named. let own : IsOwn = own_cc t sum read (sym from_is ∙ to) named in
            not_partner (at_far own) (same_Some reference p.far_reference (sym target ∙ read.target ∙ own.0.target)))
      ]
