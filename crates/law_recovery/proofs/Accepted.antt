-- An end in AkWait beside a partner that has left: it has not sent its CC since a tick, or that waits, or a DR waits by which the partner or its entity ends it. So where nothing waits, it has not
-- sent it since. Where the partner is Closing and takes no CC, that tick has not passed, since its DR is due by then.
use Rattle.std.proofs.Common.{◌≡◌, ◌⊎◌, inl, inr, ℕ, ◌+◌, ◌≤◌, ◌==◌, min, Bool, true, false, List, [], ◌∷◌, ◌++◌, Option, Some, None, refl, sym, ◌∙◌, ap, subst, arith}
use Rattle.std.specs.Prelude.{◌&&◌, ◌||◌, if◌then◌else◌, nat_eq, not}
use Rattle.std.specs.List.{Contains}
use Rattle.std.specs.Cmp.Lexicographic.{bytes_decides, pointwise}
use Rattle.std.proofs.lemmas.Bool.{cases_eq, eq-eqb, leb-false}
use Rattle.std.proofs.lemmas.List.Elements.{Contains-append_left, Contains-append_right, Contains-push}
use Rattle.std.proofs.lemmas.Option.{none-some, same_Some}
use Rattle.osi_base.specs.Link.{Link}
use Rattle.script_journal.specs.declared.event.Event.{Event as JournalEvent}
use Rattle.tpdu.specs.Kinds.{has_number}
use Rattle.tpdu.specs.Values.{destination_of}
use Rattle.tpdu.specs.Writing.{is_summed, kind_for}
use Rattle.tpdu.specs.declared.service.Options.{Options}
use Rattle.tpdu.specs.declared.tpdu.Tpdu.{Tpdu as WireTpdu}
use Rattle.tpdu.specs.declared.tpdu.Tpdu.TheVariants as wires
use Rattle.tp4_number.specs.Number.{whole}
use Rattle.tp4_number.proofs.Past.{if_kept}
use Rattle.tp4_flow.specs.declared.step.Sent.{Sent}
use Rattle.tp4_conn.specs.Agreeing.{confirm, confirms_again}
use Rattle.tp4_conn.specs.AkWait.{ak_wait_tpdu}
use Rattle.tp4_conn.specs.End.{End, Moved, agreed_sum, end_of, frozen_for, release, span}
use Rattle.tp4_conn.specs.Matching.{fits, is_match, is_summed_confirm, sum_agreed}
use Rattle.tp4_conn.specs.Making.{connected, indicated}
use Rattle.tp4_conn.specs.Table.{Event, Took, at as base_at, stepped, takes}
use Rattle.tp4_conn.specs.declared.end_record.EndRecord.{EndRecord}
use Rattle.tp4_conn.specs.declared.states.InAkWait.{InAkWait}
use Rattle.tp4_conn.specs.declared.states.InClosing.{InClosing}
use Rattle.tp4_conn.specs.declared.states.InWaitBeforeClose.{InWaitBeforeClose}
use Rattle.tp4_conn.specs.declared.states.StateData.{StateData}
use Rattle.tp4_conn.specs.declared.states.StateData.TheVariants as stages
use Rattle.tp4_conn.specs.declared.timers.Timers.{Timers}
use Rattle.tp4_entity.specs.Association.{met, met_by, refusal, unmatched}
use Rattle.tp4_entity.specs.Entity.{Acted, Entity, at, end_at, moved, with_end}
use Rattle.tp4_entity.specs.References.{is_free_place}
use Rattle.tp4_entity.specs.Silence.{is_silent}
use Rattle.tp4_entity.specs.Step.{call_of, connecting, is_due}
use Rattle.tp4_entity.proofs.Standings.{free_least, within}
use Rattle.law_tp4_history.specs.Tracks.{Whole}
use Rattle.law_tp4_history.specs.Moves.{IsAnswering, IsSeenIn}
use Rattle.law_tp4_pair.specs.Standing.{HasLeft}
use Rattle.law_tp4_pair.proofs.Opening.{confirm_sum}
use Rattle.tp4_world.specs.World.{World, entity_at, with_entity}
use Rattle.law_tp4_associations.proofs.Dues.{none_due}
use Rattle.law_tp4_associations.proofs.Entities.{did_take}
use Rattle.law_tp4_associations.proofs.HeldPlaces.{silent_like}
use Rattle.law_tp4_associations.proofs.EndedWorlds.{within_longer}
use Rattle.law_tp4_lawful.proofs.Known.{IsReadAs}
use Rattle.law_tp4_lawful.proofs.MakesPlaces.{at_other, at_same}
use Rattle.law_tp4_lawful.proofs.Worlds.{Explains}
use Rattle.law_calm_run.proofs.Hall.{AreWaiting, Post, posted}
use Rattle.law_recovery_run.specs.Aside.{IsSentTo, Names}
use Rattle.law_recovery_run.proofs.Aiming.{Going}
use Rattle.law_recovery_run.proofs.Aside.{both_are, kept_place}
use Rattle.law_recovery_run.proofs.Taking.{sum_same}
use Rattle.law_recovery_run.proofs.RequestComes.{first_or_rest, met_so}
use Rattle.law_recovery_run.proofs.Places.{IsMet, Makes, Stays, Takes}
use Rattle.law_recovery_run.specs.Over.{HasLeftEnd}
use Rattle.law_recovery.proofs.Asking.{at_place}
use Rattle.law_recovery.proofs.Outlasting.{end_keeps}
use Rattle.law_recovery.proofs.Beside.{Becomes, becomes, deed_keeps, dr_read, end_still, half_on, half_still, stands_on, still_half}
use Rattle.law_recovery.proofs.Deeds.{AreSame, Begins, HearsFirst}
use Rattle.law_recovery.proofs.HalvesDeeds.{Deed, DoesRow, Heard, IsKept, New, Over, Row}
use Rattle.law_recovery.proofs.Parting.{GoesOut, IsNotClosing, Out, Parts, Same, and_false, cc_taken, closing_knows, left_goes, own_is as partner_own, parting_takes, partner_is as partner_knows, sums_are, to_is as partner_to, unasked}
use Rattle.law_recovery.proofs.Partner.{IsHalf, IsStill, Parties, known, partner_stands, still_goes}
use Rattle.law_recovery.proofs.Rows.{HasAccepted, IsAlone, IsCc, IsDr, StaysAccepted, StaysAsked, accepted_alone, asked_alone, dr_row, opened_alone}
use Rattle.law_recovery_run.specs.Halves.{KnowsPartner}
use Rattle.law_recovery.proofs.Quiet.{cc_plain}

-- ---- what stands at the place of the partner

-- it is in AkWait
abbrev pub IsAccepted : StateData → Type 0
IsAccepted (stages.AkWait v) = Prim.Unit {0}
IsAccepted stage = ⊥

frozen_fits : (b : EndRecord) (stage : StateData) (when : ℕ) (t : WireTpdu) → stage ≡ stages.Frozen when → fits b stage t ≡ true → ⊥
frozen_fits b stage when t is fit =
    let none : fits b (stages.Frozen when) t ≡ true = subst (λ (s : StateData). fits b s t ≡ true) is fit in
    absurd (cc none)

-- an end that stands half-open has not left
half_left : (t0 : ℕ) (stage : StateData) → IsStill t0 stage → HasLeft stage → ⊥
half_left t0 (stages.Opened o) still left = left
half_left t0 (stages.UserWait c) still left = left
half_left t0 (stages.AkWait c) still left = left
half_left t0 stage still left = still

accepted_half : (stage : StateData) → IsAccepted stage → HasLeft stage → ⊥
accepted_half (stages.AkWait v) accepted left = left
accepted_half stage accepted left = accepted

-- ---- what waits

-- a CC of the end, for its partner
pub record IsOwnCc (p : Parties) (post : Post) : Type 0 where
  pub at : post.system ≡ p.system
  pub sent : IsSentTo p.there p.far_reference post.sent
  pub is : IsCc post.sent.tpdu
  pub named : Names p.reference post.sent.tpdu
  pub summed : (is_summed_confirm post.sent.tpdu && not post.sent.sum) ≡ false

-- a DR of its partner, or of the entity of that, which the end takes in AkWait where it agreed on this
pub record IsAnswer (p : Parties) (agreed : Option Options) (post : Post) : Type 0 where
  pub at : post.system ≡ p.far_system
  pub to : post.sent.to ≡ p.here
  pub source : ℕ
  pub reason : ℕ
  pub octets : List ℕ
  pub is : post.sent.tpdu ≡ wires.Dr p.reference source reason None octets
  pub from : (source ≡ 0) ⊎ (source ≡ p.far_reference)
  pub summed : (sum_agreed agreed && not post.sent.sum) ≡ false

-- such a DR waits
pub record IsAnswered (p : Parties) (agreed : Option Options) (posts : List Post) : Type 0 where
  pub post : Post
  pub among : Contains posts post
  pub is : IsAnswer p agreed post

-- one of these waits
pub data IsAwaited (p : Parties) (agreed : Option Options) (posts : List Post) : Type 0 where
  Confirms : (post : Post) → Contains posts post → IsOwnCc p post → IsAwaited p agreed posts
  Answers : IsAnswered p agreed posts → IsAwaited p agreed posts

answered_left : (p : Parties) (agreed : Option Options) (posts more : List Post) → IsAnswered p agreed posts → IsAnswered p agreed (posts ++ more)
answered_left p agreed posts more a = record { post = a.post; among = Contains-append_left posts more a.post a.among; is = a.is }

awaited_left : (p : Parties) (agreed : Option Options) (posts more : List Post) → IsAwaited p agreed posts → IsAwaited p agreed (posts ++ more)
awaited_left p agreed posts more (Confirms post among own) = Confirms post (Contains-append_left posts more post among) own
awaited_left p agreed posts more (Answers a) = Answers (answered_left p agreed posts more a)

-- ---- what is kept

-- the end has not sent its CC since that tick, or one of these is awaited
abbrev pub IsTriedBy : ℕ → ℕ → Parties → List Post → Option Options → StateData → Type 0
IsTriedBy bound now p posts agreed (stages.AkWait v) = (v.tries.last ≤ bound) ⊎ ((v.tries.last ≤ now) × IsAwaited p agreed posts)
IsTriedBy bound now p posts agreed stage = Prim.Unit {0}

-- the partner, where it is Closing, sends its DR by that tick, which has not passed; or its DR is awaited. Or it names another end as its partner, which no history explains
abbrev pub IsClosedBy : ℕ → ℕ → Parties → Option Options → List Post → EndRecord → StateData → Type 0
IsClosedBy bound now p agreed posts b (stages.Closing c) = ((c.last + b.timers.t1 ≤ bound) × (now ≤ bound)) ⊎ (IsAnswered p agreed posts ⊎ (b.partner ≡ p.reference → ⊥))
IsClosedBy bound now p agreed posts b stage = Prim.Unit {0}

pub record IsAnswerable {C : Type 0} (link : C → Link (List ℕ)) (t0 bound : ℕ) (p : Parties) (journal : List JournalEvent) (world : World C) (posts : List Post) : Type 0 where
  pub half : IsHalf t0 p journal world posts
  pub awake : is_silent (link world.carrier).clock half.far ≡ false
  pub out : IsAccepted half.end.stage → (v : End) → end_at half.far p.far_reference ≡ Some v → IsClosedBy bound (link world.carrier).clock p half.end.base.agreed posts v.base v.stage
  pub tried : IsTriedBy bound (link world.carrier).clock p posts half.end.base.agreed half.end.stage

abbrev pub Keeps : {C : Type 0} → (C → Link (List ℕ)) → ℕ → ℕ → Parties → List JournalEvent → World C → List Post → Type 0
Keeps link t0 bound p journal world posts = HasLeftEnd world p.x ⊎ IsAnswerable link t0 bound p journal world posts

tried_on : (bound now next : ℕ) (p : Parties) (posts later : List Post) (agreed : Option Options) (stage : StateData) → now ≤ next → (IsAwaited p agreed posts → IsAwaited p agreed later)
    → IsTriedBy bound now p posts agreed stage → IsTriedBy bound next p later agreed stage
tried_on bound now next p posts later agreed (stages.AkWait v) low on (inl early) = inl early
tried_on bound now next p posts later agreed (stages.AkWait v) low on (inr awaited) = inr (omega (arith, low, awaited.0), on awaited.1)
tried_on bound now next p posts later agreed stage low on tried = tt

closed_on : (bound now next : ℕ) (p : Parties) (agreed : Option Options) (posts later : List Post) (b : EndRecord) (stage : StateData) → next ≡ now → (IsAnswered p agreed posts → IsAnswered p agreed later)
    → IsClosedBy bound now p agreed posts b stage → IsClosedBy bound next p agreed later b stage
closed_on bound now next p agreed posts later b (stages.Closing c) same on (inl early) = inl (early.0, omega (arith, same, early.1))
closed_on bound now next p agreed posts later b (stages.Closing c) same on (inr (inl answered)) = inr (inl (on answered))
closed_on bound now next p agreed posts later b (stages.Closing c) same on (inr (inr other)) = inr (inr other)
closed_on bound now next p agreed posts later b stage same on closed = tt

-- one tick later, where it is not due
closed_longer : (bound now next : ℕ) (p : Parties) (agreed : Option Options) (posts : List Post) (b : EndRecord) (stage : StateData) → next ≡ now + 1 → is_due now (Some (record { base = b; stage = stage })) ≡ false
    → IsClosedBy bound now p agreed posts b stage → IsClosedBy bound next p agreed posts b stage
closed_longer bound now next p agreed posts b (stages.Closing c) same idle (inl early) =
    let first = leb-false (min (c.from + span b.timers) (c.last + b.timers.t1)) now idle in inl (early.0, omega (arith, same, first, early.0))
closed_longer bound now next p agreed posts b (stages.Closing c) same idle (inr more) = inr more
closed_longer bound now next p agreed posts b stage same idle closed = tt

pub not_closed : (bound now : ℕ) (p : Parties) (agreed : Option Options) (posts : List Post) (b : EndRecord) (stage : StateData) → IsNotClosing stage → IsClosedBy bound now p agreed posts b stage
not_closed bound now p agreed posts b (stages.Closing c) out = absurd out
not_closed bound now p agreed posts b stage out = tt

-- a DR ends an end in AkWait, where it has the checksum that this asks for
dr_ends_it : (now : ℕ) (b : EndRecord) (v : InAkWait) (destination source reason : ℕ) (octets : List ℕ) (sum : Bool) → (sum_agreed b.agreed && not sum) ≡ false
    → HasLeft (takes whole now b (stages.AkWait v) (wires.Dr destination source reason None octets) sum).stage
unfolding ak_wait_tpdu
dr_ends_it now b v destination source reason octets sum has =
    if_kept (λ (z : Moved). HasLeft z.stage) (sum_agreed b.agreed && not sum) _ _ (λ wants. absurd (cc (wants, has))) (λ _. tt)

-- one of the partner, or of the entity of that, fits
dr_fits : (source partner : ℕ) → (source ≡ 0) ⊎ (source ≡ partner) → ((source == partner) || (source == 0)) ≡ true
dr_fits source partner (inl none) = ap (λ (n : ℕ). (n == partner) || (n == 0)) none ∙ by (0 == partner)
  where
    by : (c : Bool) → (c || true) ≡ true
    by true = refl
    by false = refl
dr_fits source partner (inr same) = ap (λ (c : Bool). c || (source == 0)) (eq-eqb source partner same)

-- a CC that no end takes is answered by a DR of the entity
cc_answered : (now : ℕ) (e : Entity) (from : List ℕ) (t : WireTpdu) (sum : Bool) (reference target : ℕ) → IsCc t → Names reference t → destination_of t ≡ Some target
    → ((o : End) → end_at e target ≡ Some o → is_match o.base o.stage from t ≡ true → ⊥) → (met whole now e from (t, sum)).tpdus ≡ refusal from reference 132 ∷ []
cc_answered now e from (wires.Cc credit destination source width calling called size preferred extra version classes ack_time text) sum reference target is named to none = by_place (end_at e destination) refl
  where
    t : WireTpdu
    t = wires.Cc credit destination source width calling called size preferred extra version classes ack_time text

    same : destination ≡ target
    same = same_Some destination target to

    back : (unmatched e from t).tpdus ≡ refusal from reference 132 ∷ []
    back = ap (λ (n : ℕ). refusal from n 132 ∷ []) named

    by_match : (o : End) (b : Bool) → end_at e destination ≡ Some o → is_match o.base o.stage from t ≡ b
        → (if b then moved e destination (stepped whole now o (Took t sum)) else unmatched e from t).tpdus ≡ refusal from reference 132 ∷ []
    by_match o true stands match = absurd (none o (ap (end_at e) (sym same) ∙ stands) match)
    by_match o false stands match = back

    by_place : (place : Option End) → end_at e destination ≡ place → (met_by whole now e from (t, sum) destination place).tpdus ≡ refusal from reference 132 ∷ []
    by_place None stands = back
    by_place (Some o) stands = by_match o (is_match o.base o.stage from t) stands refl
cc_answered now e from t sum reference target is named to none = absurd is

module _ {C : Type 0} (link : C → Link (List ℕ)) (names : List (List ℕ)) (timers : Timers) (going : Going) (t0 bound : ℕ) (p : Parties) where
  -- ---- no entity acts

  module _ (journal made : List JournalEvent) (old new : World C) (posts : List Post) (same : AreSame old new) (k : IsAnswerable link t0 bound p journal old posts)
      (awake : is_silent (link new.carrier).clock k.half.far ≡ false) (low : (link old.carrier).clock ≤ (link new.carrier).clock)
      (closed : (v : End) → end_at k.half.far p.far_reference ≡ Some v → IsClosedBy bound (link old.carrier).clock p k.half.end.base.agreed posts v.base v.stage
      → IsClosedBy bound (link new.carrier).clock p k.half.end.base.agreed posts v.base v.stage) where
    answerable_still : (h : IsHalf t0 p (journal ++ made) new posts) → h.end ≡ k.half.end → h.far ≡ k.half.far → IsAnswerable link t0 bound p (journal ++ made) new posts
    answerable_still h end far = record {
      half = h;
      awake = ap (is_silent (link new.carrier).clock) far ∙ awake;
      out = λ accepted v stands.
          let there : end_at k.half.far p.far_reference ≡ Some v = ap (λ (z : Entity). end_at z p.far_reference) (sym far) ∙ stands in
          subst (λ (z : End). IsClosedBy bound (link new.carrier).clock p z.base.agreed posts v.base v.stage) (sym end)
          (closed v there (k.out (subst (λ (z : End). IsAccepted z.stage) end accepted) v there));
      tried = subst (λ (z : End). IsTriedBy bound (link new.carrier).clock p posts z.base.agreed z.stage) (sym end)
          (tried_on bound (link old.carrier).clock (link new.carrier).clock p posts posts k.half.end.base.agreed k.half.end.stage low (λ a. a) k.tried);
    }

    still_same : Keeps link t0 bound p (journal ++ made) new posts
    still_same =
        let h : IsHalf t0 p (journal ++ made) new posts = half_still link names timers going t0 p journal made old new posts same k.half in
        let far : h.far ≡ k.half.far = same_Some h.far k.half.far (sym h.far_placed ∙ ap (λ (ps : List _). entity_at ps p.far_system) same.entities ∙ k.half.far_placed) in
        let owner : h.entity ≡ k.half.entity = same_Some h.entity k.half.entity (sym h.placed ∙ ap (λ (ps : List _). entity_at ps p.system) same.entities ∙ k.half.placed) in
        let end : h.end ≡ k.half.end = same_Some h.end k.half.end (sym h.stands ∙ ap (λ (z : Entity). end_at z p.reference) owner ∙ k.half.stands) in
        inr (answerable_still h end far)

  -- ---- an entity acts

  module _ (w : Whole) (journal made : List JournalEvent) (old new : World C) (posts later : List Post) (explains : Explains link names timers w journal old)
      (k : IsAnswerable link t0 bound p journal old posts) where
    -- what is known of the end
    abbrev Seen : StateData → Type 0
    Seen stage = IsSeenIn (w.base.end (known link names timers w journal old explains t0 p posts k.half).0.k).birth (w.base.end (known link names timers w journal old explains t0 p posts k.half).0.k).took
        (w.base.end (known link names timers w journal old explains t0 p posts k.half).0.k).latest k.half.end.base stage

    seen_now : Seen k.half.end.stage
    seen_now = (known link names timers w journal old explains t0 p posts k.half).0.sees.state

    is_called : IsAccepted k.half.end.stage → k.half.end.base.is_called ≡ true
    is_called accepted = by k.half.end.stage accepted seen_now
      where
        by : (stage : StateData) → IsAccepted stage → Seen stage → k.half.end.base.is_called ≡ true
        by (stages.AkWait v) accepted seen = seen.called
        by stage accepted seen = absurd accepted

    -- one that stands at the place of the partner has left
    left_there : (v : End) → end_at k.half.far p.far_reference ≡ Some v → HasLeft v.stage
    left_there v stands = partner_stands link names timers w journal old explains t0 p posts k.half v stands

    -- what stands there now
    abbrev Closed : End → Type 0
    Closed v = IsClosedBy bound (link new.carrier).clock p k.half.end.base.agreed later v.base v.stage

    -- its DR
    its_dr : (o : End) → end_at k.half.far p.far_reference ≡ Some o → IsAccepted k.half.end.stage → (system : ℕ) → system ≡ p.far_system → (b : EndRecord) (reason : ℕ) (octets : List ℕ) → b.partner ≡ p.reference
        → b.own ≡ o.base.own → b.to ≡ o.base.to → b.agreed ≡ o.base.agreed → IsAnswer p k.half.end.base.agreed (record { system = system; sent = release b reason octets })
    its_dr o stands accepted system at b reason octets partner own to agreed = record {
      at = at;
      to = to ∙ partner_to link names timers w journal old explains t0 p posts k.half o stands;
      source = b.own;
      reason = reason;
      octets = octets;
      is = ap (λ (n : ℕ). wires.Dr n b.own reason None octets) partner;
      from = inr (own ∙ partner_own link names timers w journal old explains t0 p posts k.half o stands);
      summed = ap (λ (a : Option Options). sum_agreed k.half.end.base.agreed && not (agreed_sum a)) agreed ∙ sums_are link names timers w journal old explains t0 p posts k.half o stands (is_called accepted);
    }

    -- it does a row
    module _ (o : End) (stands : end_at k.half.far p.far_reference ≡ Some o) (accepted : IsAccepted k.half.end.stage) (system : ℕ) (at : system ≡ p.far_system) (m : Moved)
        (clock : (link new.carrier).clock ≡ (link old.carrier).clock) (on : IsAnswered p k.half.end.base.agreed posts → IsAnswered p k.half.end.base.agreed later)
        (goes : (sent : Sent) → m.tpdus ≡ sent ∷ [] → Contains later (record { system = system; sent = sent })) where
      as_it_was : (c : InClosing) → m.base.timers ≡ o.base.timers → m.base.partner ≡ o.base.partner → IsClosedBy bound (link old.carrier).clock p k.half.end.base.agreed posts o.base (stages.Closing c)
          → IsClosedBy bound (link new.carrier).clock p k.half.end.base.agreed later m.base (stages.Closing c)
      as_it_was c timers partner (inl early) = inl (subst (λ (t : Timers). c.last + t.t1 ≤ bound) (sym timers) early.0, omega (arith, clock, early.1))
      as_it_was c timers partner (inr (inl answered)) = inr (inl (on answered))
      as_it_was c timers partner (inr (inr other)) = inr (inr (λ same. other (sym partner ∙ same)))

      goes_closed : GoesOut o.base o.stage m → Closed (end_of m)
      goes_closed (Out out) = not_closed bound (link new.carrier).clock p k.half.end.base.agreed later m.base m.stage out
      goes_closed (Same c was is timers partner) =
          subst (λ (s : StateData). IsClosedBy bound (link new.carrier).clock p k.half.end.base.agreed later m.base s) (sym is)
          (as_it_was c timers partner (subst (λ (s : StateData). IsClosedBy bound (link old.carrier).clock p k.half.end.base.agreed posts o.base s) was (k.out accepted o stands)))
      goes_closed (Parts c reason octets is tpdus own to agreed) =
          subst (λ (s : StateData). IsClosedBy bound (link new.carrier).clock p k.half.end.base.agreed later m.base s) (sym is)
          (inr (elim (cases_eq m.base.partner p.reference) [
            | inl same ↦ inl (record {
              post = record { system = system; sent = release m.base reason octets };
              among = goes (release m.base reason octets) tpdus;
              is = its_dr o stands accepted system at m.base reason octets same own to agreed;
            })
            | inr apart ↦ inr apart
          ]))

    -- one that stands there as it stood
    stood_closed : (link new.carrier).clock ≡ (link old.carrier).clock → (IsAnswered p k.half.end.base.agreed posts → IsAnswered p k.half.end.base.agreed later) → IsAccepted k.half.end.stage → (v : End)
        → end_at k.half.far p.far_reference ≡ Some v → Closed v
    stood_closed clock on accepted v stands =
        closed_on bound (link old.carrier).clock (link new.carrier).clock p k.half.end.base.agreed posts later v.base v.stage clock on (k.out accepted v stands)

    module _ (system : ℕ) (was is : Entity) (there : entity_at old.entities system ≡ Some was) (entities : new.entities ≡ with_entity old.entities system is) (own : is.own ≡ was.own)
        (clock : (link new.carrier).clock ≡ (link old.carrier).clock) (silent : is_silent (link old.carrier).clock is ≡ is_silent (link old.carrier).clock was)
        (n : IsHalf t0 p (journal ++ made) new later) where
      abbrev B : ℕ → Entity → Type 0
      B s z = Becomes old new system was is there entities own s z

      abbrev near : B p.system k.half.entity
      near = becomes old new system was is there entities own p.system k.half.entity k.half.placed

      abbrev away : B p.far_system k.half.far
      away = becomes old new system was is there entities own p.far_system k.half.far k.half.far_placed

      far_is : n.far ≡ away.entity
      far_is = same_Some n.far away.entity (sym n.far_placed ∙ away.placed)

      near_is : n.entity ≡ near.entity
      near_is = same_Some n.entity near.entity (sym n.placed ∙ near.placed)

      awake_now : is_silent (link new.carrier).clock n.far ≡ false
      awake_now =
          (λ i. is_silent (clock i) (far_is i))
          ∙ elim away.which [
            | inl here ↦ ap (is_silent (link old.carrier).clock) here.2 ∙ silent ∙ ap (is_silent (link old.carrier).clock) (sym here.1) ∙ k.awake
            | inr apart ↦ ap (is_silent (link old.carrier).clock) apart.1 ∙ k.awake
          ]

      -- the end is the one that stood there, where its place is as it was
      end_same : (p.system ≡ system → end_at is p.reference ≡ end_at was p.reference) → n.end ≡ k.half.end
      end_same same =
          same_Some n.end k.half.end (sym n.stands ∙ ap (λ (z : Entity). end_at z p.reference) near_is
          ∙ stands_on old new system was is there entities own p.system k.half.entity near p.reference k.half.end k.half.stands same)

      -- what stands at the place of the partner, where this is so of what stood there and of what stands there by this
      out_now : (Q : End → Type 0) → ((v : End) → p.far_system ≡ system → was ≡ k.half.far → end_at is p.far_reference ≡ Some v → Q v) → ((v : End) → end_at k.half.far p.far_reference ≡ Some v → Q v)
          → (v : End) → end_at n.far p.far_reference ≡ Some v → Q v
      out_now Q here_now stood v stands = elim away.which [
        | inl here ↦ here_now v here.0 (sym here.1) (ap (λ (z : Entity). end_at z p.far_reference) (sym here.2 ∙ sym far_is) ∙ stands)
        | inr apart ↦ stood v (ap (λ (z : Entity). end_at z p.far_reference) (sym apart.1 ∙ sym far_is) ∙ stands)
      ]

      answerable : (IsAccepted n.end.stage → (v : End) → end_at n.far p.far_reference ≡ Some v → IsClosedBy bound (link new.carrier).clock p n.end.base.agreed later v.base v.stage)
          → IsTriedBy bound (link new.carrier).clock p later n.end.base.agreed n.end.stage → IsAnswerable link t0 bound p (journal ++ made) new later
      answerable out tried = record { half = n; awake = awake_now; out = out; tried = tried }

      -- the end stands as it stood
      answerable_same : n.end ≡ k.half.end → (IsAccepted k.half.end.stage → (v : End) → p.far_system ≡ system → was ≡ k.half.far → end_at is p.far_reference ≡ Some v → Closed v)
          → (IsAccepted k.half.end.stage → IsAnswered p k.half.end.base.agreed posts → IsAnswered p k.half.end.base.agreed later)
          → IsTriedBy bound (link new.carrier).clock p later k.half.end.base.agreed k.half.end.stage → IsAnswerable link t0 bound p (journal ++ made) new later
      answerable_same end there_is on tried =
          answerable
          (λ accepted v stands.
          let was_so : IsAccepted k.half.end.stage = subst (λ (z : End). IsAccepted z.stage) end accepted in
          subst (λ (z : End). IsClosedBy bound (link new.carrier).clock p z.base.agreed later v.base v.stage) (sym end)
          (out_now Closed (there_is was_so) (stood_closed clock (on was_so) was_so) v stands))
          (subst (λ (z : End). IsTriedBy bound (link new.carrier).clock p later z.base.agreed z.stage) (sym end) tried)

    -- what waited waits, with what waits more
    more_answered : (more : List Post) → later ≡ posts ++ more → IsAnswered p k.half.end.base.agreed posts → IsAnswered p k.half.end.base.agreed later
    more_answered more is answered = subst (IsAnswered p k.half.end.base.agreed) (sym is) (answered_left p k.half.end.base.agreed posts more answered)

    more_awaited : (more : List Post) → later ≡ posts ++ more → IsAwaited p k.half.end.base.agreed posts → IsAwaited p k.half.end.base.agreed later
    more_awaited more is awaited = subst (IsAwaited p k.half.end.base.agreed) (sym is) (awaited_left p k.half.end.base.agreed posts more awaited)

    tried_more : (more : List Post) → later ≡ posts ++ more → (link new.carrier).clock ≡ (link old.carrier).clock → IsTriedBy bound (link new.carrier).clock p later k.half.end.base.agreed k.half.end.stage
    tried_more more is clock =
        tried_on bound (link old.carrier).clock (link new.carrier).clock p posts later k.half.end.base.agreed k.half.end.stage (omega (arith, clock)) (more_awaited more is) k.tried

    -- what is sent there alone waits
    sent_waits : (system : ℕ) (tpdus : List Sent) (front : List Post) → later ≡ front ++ posted system tpdus → (sent : Sent) → tpdus ≡ sent ∷ [] → Contains later (record { system = system; sent = sent })
    sent_waits system tpdus front is sent one =
        let post : Post = record { system = system; sent = sent } in
        subst (λ (l : List Post). Contains l post) (sym (is ∙ ap (λ (ts : List Sent). front ++ posted system ts) one)) (Contains-append_right front (post ∷ []) post (Contains-push [] post))

    -- ---- a row

    module _ (d : DoesRow link old new made posts later) (n : IsHalf t0 p (journal ++ made) new later) where
      abbrev m : Moved
      m = stepped whole (link old.carrier).clock d.end d.event

      abbrev changed : Entity
      changed = with_end (at (link old.carrier).clock d.entity) d.reference d.place

      -- another end does it
      module _ (apart : d.system ≡ p.system → d.reference ≡ p.reference → ⊥) where
        there_now : IsAccepted k.half.end.stage → (v : End) → p.far_system ≡ d.system → d.entity ≡ k.half.far → end_at changed p.far_reference ≡ Some v → Closed v
        there_now accepted v here was stands = elim (cases_eq p.far_reference d.reference) [
          | inl same ↦
              let inside = within d.entity d.reference d.end d.stands in
              let place : d.place ≡ Some v = sym (at_same (at (link old.carrier).clock d.entity) d.reference d.place inside.least inside.most) ∙ ap (end_at changed) (sym same) ∙ stands in
              let stood : end_at k.half.far p.far_reference ≡ Some d.end = (λ i. end_at (sym was i) (same i)) ∙ d.stands in
              subst Closed (sym (d.place_is v place))
              (goes_closed d.end stood accepted d.system (sym here) m d.clock (more_answered (posted d.system m.tpdus) d.later_is) (sent_waits d.system m.tpdus posts d.later_is)
              (left_goes (link old.carrier).clock d.end d.event (left_there d.end stood)))
          | inr other ↦
              stood_closed d.clock (more_answered (posted d.system m.tpdus) d.later_is) accepted v (ap (λ (z : Entity). end_at z p.far_reference) (sym was)
              ∙ sym (at_other (at (link old.carrier).clock d.entity) d.reference p.far_reference d.place (within d.entity d.reference d.end d.stands).least other) ∙ stands)
        ]

        row_beside : IsAnswerable link t0 bound p (journal ++ made) new later
        row_beside =
            answerable_same d.system d.entity changed d.there d.entities refl d.clock refl n
            (end_same d.system d.entity changed d.there d.entities refl d.clock refl n
            (λ here. at_other (at (link old.carrier).clock d.entity) d.reference p.reference d.place (within d.entity d.reference d.end d.stands).least (λ same. apart (sym here) (sym same))))
            there_now (λ accepted. more_answered (posted d.system m.tpdus) d.later_is) (tried_more (posted d.system m.tpdus) d.later_is d.clock)

      -- the end itself does it
      module _ (here : d.system ≡ p.system) (same : d.reference ≡ p.reference) where
        owner : d.entity ≡ k.half.entity
        owner = same_Some d.entity k.half.entity (sym d.there ∙ ap (entity_at old.entities) here ∙ k.half.placed)

        it : d.end ≡ k.half.end
        it = same_Some d.end k.half.end (sym d.stands ∙ (λ i. end_at (owner i) (same i)) ∙ k.half.stands)

        now_is : n.end ≡ end_of m
        now_is =
            let near_now = near d.system d.entity changed d.there d.entities refl d.clock refl n in
            let acts : near_now.entity ≡ changed = elim near_now.which [ inl on ↦ on.2 | inr off ↦ absurd (off.0 (sym here)) ] in
            let inside = within d.entity d.reference d.end d.stands in
            d.place_is n.end
            (sym (at_same (at (link old.carrier).clock d.entity) d.reference d.place inside.least inside.most) ∙ ap (end_at changed) same
            ∙ ap (λ (z : Entity). end_at z p.reference) (sym acts ∙ sym (near_is d.system d.entity changed d.there d.entities refl d.clock refl n)) ∙ n.stands)

        stage_is : n.end.stage ≡ m.stage
        stage_is = ap (λ (z : End). z.stage) now_is

        -- what it comes to: it has tried so, and its partner is so, where it is in AkWait
        abbrev Comes : Type 0
        Comes = IsTriedBy bound (link new.carrier).clock p later n.end.base.agreed n.end.stage
            × (IsAccepted n.end.stage → (v : End) → end_at k.half.far p.far_reference ≡ Some v → IsClosedBy bound (link new.carrier).clock p n.end.base.agreed later v.base v.stage)

        -- its own CC waits
        own_here : d.end.base.own ≡ p.reference
        own_here =
            let kn = (known link names timers w journal old explains t0 p posts k.half).0 in
            ap (λ (z : End). z.base.own) it ∙ sym kn.sees.reference ∙ kn.at.reference_is

        module _ (b : EndRecord) (options : Options) (octets : List ℕ) (agrees : b.agreed ≡ Some options) (own : b.own ≡ d.end.base.own) (to : b.to ≡ d.end.base.to) (partner : b.partner ≡ d.end.base.partner)
            (one : m.tpdus ≡ confirm b options octets ∷ []) where
          confirmed : (agreed : Option Options) → IsAwaited p agreed later
          confirmed agreed =
              Confirms (record { system = d.system; sent = confirm b options octets }) (sent_waits d.system m.tpdus posts d.later_is (confirm b options octets) one) (record {
                at = here;
                sent = record {
                  address = to ∙ ap (λ (z : End). z.base.to) it ∙ k.half.to_is;
                  target = ap (λ (i : ℕ). Some i) (partner ∙ ap (λ (z : End). z.base.partner) it ∙ k.half.partner_is);
                };
                is = tt;
                named = own ∙ own_here;
                summed = ap (λ (a : Option Options). is_summed_confirm (confirm b options octets).tpdu && not (agreed_sum a)) agrees ∙ confirm_sum options;
              })

        by_accepted : (v : InAkWait) → k.half.end.stage ≡ stages.AkWait v → Comes
        by_accepted v is = by (accepted_alone (link old.carrier).clock d.end.base v d.event d.alone seen_so.shut)
          where
            seen_so : IsAnswering (w.base.end (known link names timers w journal old explains t0 p posts k.half).0.k).latest k.half.end.base v
            seen_so = subst Seen is seen_now

            end_is : d.end ≡ record { base = d.end.base; stage = stages.AkWait v }
            end_is = λ i. record { base = d.end.base; stage = (ap (λ (z : End). z.stage) it ∙ is) i }

            row_is : m ≡ stepped whole (link old.carrier).clock (record { base = d.end.base; stage = stages.AkWait v }) d.event
            row_is = ap (λ (z : End). stepped whole (link old.carrier).clock z d.event) end_is

            agrees : d.end.base.agreed ≡ Some seen_so.halves.terms
            agrees = ap (λ (z : End). z.base.agreed) it ∙ seen_so.halves.agreed

            was_tried : (v.tries.last ≤ bound) ⊎ ((v.tries.last ≤ (link old.carrier).clock) × IsAwaited p k.half.end.base.agreed posts)
            was_tried = subst (IsTriedBy bound (link old.carrier).clock p posts k.half.end.base.agreed) is k.tried

            by : HasLeft (stepped whole (link old.carrier).clock (record { base = d.end.base; stage = stages.AkWait v }) d.event).stage
                ⊎ StaysAccepted (link old.carrier).clock (base_at (link old.carrier).clock d.end.base) v (stepped whole (link old.carrier).clock (record { base = d.end.base; stage = stages.AkWait v }) d.event)
                → Comes
            by (inl left) = absurd (half_left t0 n.end.stage n.still (subst HasLeft (sym (stage_is ∙ ap (λ (z : Moved). z.stage) row_is)) left))
            by (inr on) =
                let stage : n.end.stage ≡ stages.AkWait on.next = stage_is ∙ ap (λ (z : Moved). z.stage) row_is ∙ on.stage in
                let agreed : n.end.base.agreed ≡ k.half.end.base.agreed =
                ap (λ (z : End). z.base.agreed) now_is ∙ ap (λ (z : Moved). z.base.agreed) row_is ∙ ap (λ (b : EndRecord). b.agreed) on.base ∙ ap (λ (z : End). z.base.agreed) it in
                let tries : (on.next.tries.last ≤ bound) ⊎ ((on.next.tries.last ≤ (link new.carrier).clock) × IsAwaited p k.half.end.base.agreed later) =
                elim on.does [
                  | inl none ↦ elim was_tried [
                    | inl early ↦ inl (subst (λ (t : _). t.last ≤ bound) (sym none.0) early)
                    | inr awaited ↦ inr (
                      subst (λ (t : _). t.last ≤ (link new.carrier).clock) (sym none.0) (omega (arith, d.clock, awaited.0)),
                      more_awaited (posted d.system m.tpdus) d.later_is awaited.1,
                    )
                  ]
                  | inr sent ↦ inr (
                    subst (λ (t : _). t.last ≤ (link new.carrier).clock) (sym sent.tries) (omega (arith, d.clock)),
                    confirmed (base_at (link old.carrier).clock d.end.base) seen_so.halves.terms v.octets agrees refl refl refl
                        (ap (λ (z : Moved). z.tpdus) row_is ∙ sent.tpdus ∙ ap (λ (o : Option Options). confirms_again (base_at (link old.carrier).clock d.end.base) o v.octets) agrees) k.half.end.base.agreed,
                  )
                ] in (
                  subst (IsTriedBy bound (link new.carrier).clock p later n.end.base.agreed) (sym stage)
                      (subst (λ (a : Option Options). IsTriedBy bound (link new.carrier).clock p later a (stages.AkWait on.next)) (sym agreed) tries),
                  λ accepted u stands. subst (λ (a : Option Options). IsClosedBy bound (link new.carrier).clock p a later u.base u.stage) (sym agreed)
                      (stood_closed d.clock (more_answered (posted d.system m.tpdus) d.later_is) (subst IsAccepted (sym is) tt) u stands),
                )

        -- its user accepts, and its CC waits
        by_asked : (since : ℕ) → k.half.end.stage ≡ stages.UserWait since → Comes
        by_asked since is = (by (asked_alone (link old.carrier).clock d.end.base since d.event d.alone), λ accepted u stands. not_closing u stands u.stage refl)
          where
            end_is : d.end ≡ record { base = d.end.base; stage = stages.UserWait since }
            end_is = λ i. record { base = d.end.base; stage = (ap (λ (z : End). z.stage) it ∙ is) i }

            row_is : m ≡ stepped whole (link old.carrier).clock (record { base = d.end.base; stage = stages.UserWait since }) d.event
            row_is = ap (λ (z : End). stepped whole (link old.carrier).clock z d.event) end_is

            not_closing : (u : End) → end_at k.half.far p.far_reference ≡ Some u → (stage : StateData) → u.stage ≡ stage
                → IsClosedBy bound (link new.carrier).clock p n.end.base.agreed later u.base stage
            not_closing u stands (stages.Closing c) closes = absurd (unasked link names timers w journal old explains t0 p posts k.half u stands c since closes is)
            not_closing u stands stage closes = tt

            tries_low : (on : HasAccepted (base_at (link old.carrier).clock d.end.base) (stepped whole (link old.carrier).clock (record { base = d.end.base; stage = stages.UserWait since }) d.event))
                → on.next.tries.last ≤ (link new.carrier).clock
            tries_low on = let last : on.next.tries.last ≡ (link old.carrier).clock = on.last in omega (arith, d.clock, last)

            by : HasLeft (stepped whole (link old.carrier).clock (record { base = d.end.base; stage = stages.UserWait since }) d.event).stage
                ⊎ (StaysAsked (base_at (link old.carrier).clock d.end.base) since (stepped whole (link old.carrier).clock (record { base = d.end.base; stage = stages.UserWait since }) d.event)
                ⊎ HasAccepted (base_at (link old.carrier).clock d.end.base) (stepped whole (link old.carrier).clock (record { base = d.end.base; stage = stages.UserWait since }) d.event))
                → IsTriedBy bound (link new.carrier).clock p later n.end.base.agreed n.end.stage
            by (inl left) = absurd (half_left t0 n.end.stage n.still (subst HasLeft (sym (stage_is ∙ ap (λ (z : Moved). z.stage) row_is)) left))
            by (inr (inl on)) = subst (IsTriedBy bound (link new.carrier).clock p later n.end.base.agreed) (sym (stage_is ∙ ap (λ (z : Moved). z.stage) row_is ∙ on.stage)) tt
            by (inr (inr on)) =
                subst (IsTriedBy bound (link new.carrier).clock p later n.end.base.agreed) (sym (stage_is ∙ ap (λ (z : Moved). z.stage) row_is ∙ on.stage))
                (inr (
                  tries_low on,
                  confirmed (record (base_at (link old.carrier).clock d.end.base) { agreed = Some on.options }) on.options on.octets refl refl refl refl (ap (λ (z : Moved). z.tpdus) row_is ∙ on.tpdus) n.end.base.agreed,
                ))

        -- an Opened end comes to no AkWait
        by_opened : n.end.stage ≡ m.stage → (stage : StateData) → k.half.end.stage ≡ stage → Comes
        by_opened same (stages.AkWait v) is = by_accepted v is
        by_opened same (stages.Opened o) is = (none n.end.stage not_so, λ accepted u stands. absurd (not_so accepted))
          where
            end_is : d.end ≡ record { base = d.end.base; stage = stages.Opened o }
            end_is = λ i. record { base = d.end.base; stage = (ap (λ (z : End). z.stage) it ∙ is) i }

            not_accepted : (event : Event) → IsAlone event → IsAccepted (stepped whole (link old.carrier).clock (record { base = d.end.base; stage = stages.Opened o }) event).stage → ⊥
            not_accepted event alone accepted = elim (opened_alone (link old.carrier).clock d.end.base o event alone) [
              | inl left ↦ accepted_half _ accepted left
              | inr on ↦ subst IsAccepted on.stage accepted
            ]

            not_so : IsAccepted n.end.stage → ⊥
            not_so accepted = not_accepted d.event d.alone (subst (λ (z : End). IsAccepted (stepped whole (link old.carrier).clock z d.event).stage) end_is (subst IsAccepted same accepted))

            none : (stage : StateData) → (IsAccepted stage → ⊥) → IsTriedBy bound (link new.carrier).clock p later n.end.base.agreed stage
            none (stages.AkWait c) never = absurd (never tt)
            none stage never = tt
        by_opened same (stages.UserWait since) is = by_asked since is
        by_opened same stage is = absurd (subst (IsStill t0) is k.half.still)

        -- its partner is another end
        elsewhere : (v : End) → p.far_system ≡ d.system → d.entity ≡ k.half.far → end_at changed p.far_reference ≡ Some v → end_at k.half.far p.far_reference ≡ Some v
        elsewhere v one_system was stands =
            let apart : p.far_reference ≡ d.reference → ⊥ = (λ one. k.half.apart (sym k.half.own_is ∙ ap (λ (z : Entity). z.own) (sym owner ∙ was) ∙ k.half.far_own) (sym same ∙ sym one)) in
            ap (λ (z : Entity). end_at z p.far_reference) (sym was)
            ∙ sym (at_other (at (link old.carrier).clock d.entity) d.reference p.far_reference d.place (within d.entity d.reference d.end d.stands).least apart) ∙ stands

        row_here : IsAnswerable link t0 bound p (journal ++ made) new later
        row_here =
            let comes : Comes = by_opened stage_is k.half.end.stage refl in
            answerable d.system d.entity changed d.there d.entities refl d.clock refl n
            (λ accepted. out_now d.system d.entity changed d.there d.entities refl d.clock refl n (λ (v : End). IsClosedBy bound (link new.carrier).clock p n.end.base.agreed later v.base v.stage)
            (λ v at was stands. comes.1 accepted v (elsewhere v at was stands)) (comes.1 accepted)) comes.0

      row_keeps_on : IsAnswerable link t0 bound p (journal ++ made) new later
      row_keeps_on = elim (at_place d.system d.reference p.system p.reference) [
        | inl here ↦ row_here here.0 here.1
        | inr apart ↦ row_beside apart
      ]

    -- ---- a new end

    begins_keeps : Begins link old new made posts later → IsHalf t0 p (journal ++ made) new later → IsAnswerable link t0 bound p (journal ++ made) new later
    begins_keeps d n =
        answerable_same d.system d.entity A.entity d.there d.entities refl d.clock refl n (end_same d.system d.entity A.entity d.there d.entities refl d.clock refl n elsewhere)
        there_now (λ accepted. more_answered (posted d.system A.tpdus) d.later_is) (tried_more (posted d.system A.tpdus) d.later_is d.clock)
      where
        A : Acted
        A = connecting (link old.carrier).clock d.entity d.reference d.request

        place : Option End
        place = Some (end_of (connected (link old.carrier).clock (call_of d.entity d.reference d.request)))

        apart : d.system ≡ p.system → d.reference ≡ p.reference → ⊥
        apart here same =
            let owner : d.entity ≡ k.half.entity = same_Some d.entity k.half.entity (sym d.there ∙ ap (entity_at old.entities) here ∙ k.half.placed) in
            kept_place (link old.carrier).clock _ k.half.end.stage (still_goes t0 k.half.end.stage k.half.still)
            (ap (is_free_place (link old.carrier).clock) (sym k.half.stands ∙ (λ i. end_at (sym owner i) (sym same i))) ∙ (free_least (link old.carrier).clock d.reference d.entity d.free).free)

        elsewhere : p.system ≡ d.system → end_at A.entity p.reference ≡ end_at d.entity p.reference
        elsewhere here = at_other (at (link old.carrier).clock d.entity) d.reference p.reference place (free_least (link old.carrier).clock d.reference d.entity d.free).least (λ same. apart (sym here) (sym same))

        there_now : IsAccepted k.half.end.stage → (v : End) → p.far_system ≡ d.system → d.entity ≡ k.half.far → end_at A.entity p.far_reference ≡ Some v → Closed v
        there_now accepted v here was stands = elim (cases_eq p.far_reference d.reference) [
          | inl same ↦
              let f = free_least (link old.carrier).clock d.reference d.entity d.free in
              let is : place ≡ Some v = sym (at_same (at (link old.carrier).clock d.entity) d.reference place f.least f.most) ∙ ap (end_at A.entity) (sym same) ∙ stands in
              subst Closed (same_Some (end_of (connected (link old.carrier).clock (call_of d.entity d.reference d.request))) v is) tt
          | inr other ↦
              stood_closed d.clock (more_answered (posted d.system A.tpdus) d.later_is) accepted v (ap (λ (z : Entity). end_at z p.far_reference) (sym was)
              ∙ sym (at_other (at (link old.carrier).clock d.entity) d.reference p.far_reference place (free_least (link old.carrier).clock d.reference d.entity d.free).least other) ∙ stands)
        ]

    -- ---- what comes

    module _ (d : HearsFirst link old new made posts later) (n : IsHalf t0 p (journal ++ made) new later) where
      abbrev R : WireTpdu → Bool → Type 0
      R t sum = IsReadAs d.acts.entity d.post.sent (t, sum)

      abbrev e : Entity
      e = at (link old.carrier).clock d.acts.entity

      met_is : IsMet R (link old.carrier).clock (at (link old.carrier).clock d.acts.entity) d.acts.sender.own d.acts.acted
      met_is = met_so link names timers w journal old explains new d.post d.rest made d.acts

      silent_same : is_silent (link old.carrier).clock d.acts.acted.entity ≡ is_silent (link old.carrier).clock d.acts.entity
      silent_same = silent_like (link old.carrier).clock d.acts.entity d.acts.acted.entity
          (did_take d.acts.system (link old.carrier).clock whole d.acts.sender.own d.acts.entity d.acts.octets d.acts.acted (d.fit d.acts.system d.acts.entity d.acts.there) d.acts.takes).like

      -- a TPDU that has no number comes as it was sent, where the entity is not silent
      came_as : has_number (kind_for d.post.sent.tpdu) ≡ false → is_silent (link old.carrier).clock d.acts.entity ≡ false
          → d.acts.acted ≡ met whole (link old.carrier).clock e d.acts.sender.own (d.post.sent.tpdu, is_summed d.post.sent.sum d.post.sent.tpdu)
      came_as plain awake = d.acts.heard.as_sent awake (inl plain)

      more : (post : Post) → Contains d.rest post → Contains later post
      more post among = subst (λ (l : List Post). Contains l post) (sym d.later_is) (Contains-append_left d.rest (posted d.acts.system d.acts.acted.tpdus) post among)

      -- the DR comes, and ends the end
      module _ (v : InAkWait) (stage : k.half.end.stage ≡ stages.AkWait v) (a : IsAnswer p k.half.end.base.agreed d.post) where
        at_near : d.acts.system ≡ p.system
        at_near = explains.known.apart d.acts.system p.system d.acts.entity k.half.entity d.acts.there k.half.placed (d.acts.own_is ∙ a.to ∙ sym k.half.own_is)

        entity_near : d.acts.entity ≡ k.half.entity
        entity_near = same_Some d.acts.entity k.half.entity (sym d.acts.there ∙ ap (entity_at old.entities) at_near ∙ k.half.placed)

        stands_near : end_at d.acts.entity p.reference ≡ Some k.half.end
        stands_near = ap (λ (z : Entity). end_at z p.reference) entity_near ∙ k.half.stands

        from_far : d.acts.sender.own ≡ p.there
        from_far = ap (λ (z : Entity). z.own) (same_Some d.acts.sender k.half.far (sym d.acts.sender_there ∙ ap (entity_at old.entities) a.at ∙ k.half.far_placed)) ∙ k.half.far_own

        awake_near : is_silent (link old.carrier).clock d.acts.entity ≡ false
        awake_near = (d.fit d.acts.system d.acts.entity d.acts.there).audible p.reference k.half.end stands_near

        abbrev m_dr : Moved
        m_dr = stepped whole (link old.carrier).clock k.half.end (Took (wires.Dr p.reference a.source a.reason None a.octets) d.post.sent.sum)

        is_for_it : is_match k.half.end.base k.half.end.stage p.there (wires.Dr p.reference a.source a.reason None a.octets) ≡ true
        is_for_it =
            (λ i. pointwise nat_eq (k.half.to_is i) p.there && fits k.half.end.base (stage i) (wires.Dr p.reference a.source a.reason None a.octets))
            ∙ ap (λ (c : Bool). c && fits k.half.end.base (stages.AkWait v) (wires.Dr p.reference a.source a.reason None a.octets)) ((bytes_decides p.there p.there).1 refl)
            ∙ dr_fits a.source k.half.end.base.partner (elim a.from [ inl none ↦ inl none | inr of ↦ inr (of ∙ sym k.half.partner_is) ])

        sum_is : is_summed d.post.sent.sum d.post.sent.tpdu ≡ d.post.sent.sum
        sum_is = sum_same d.post.sent.tpdu p.reference d.post.sent.sum (ap destination_of a.is)

        acted_is : d.acts.acted ≡ moved e p.reference m_dr
        acted_is =
            came_as (ap (λ (t : WireTpdu). has_number (kind_for t)) a.is) awake_near
            ∙ (λ i. met whole (link old.carrier).clock e (from_far i) (a.is i, sum_is i))
            ∙ ap (met_by whole (link old.carrier).clock e p.there (wires.Dr p.reference a.source a.reason None a.octets, d.post.sent.sum) p.reference) stands_near
            ∙ ap (λ (c : Bool). if c then moved e p.reference m_dr else unmatched e p.there (wires.Dr p.reference a.source a.reason None a.octets)) is_for_it

        abbrev near_now : Becomes old new d.acts.system d.acts.entity d.acts.acted.entity d.acts.there d.acts.entities d.acts.kept p.system k.half.entity
        near_now = near d.acts.system d.acts.entity d.acts.acted.entity d.acts.there d.acts.entities d.acts.kept d.acts.clock silent_same n

        acts_near : near_now.entity ≡ d.acts.acted.entity
        acts_near = elim near_now.which [ inl on ↦ on.2 | inr off ↦ absurd (off.0 (sym at_near)) ]

        end_left : n.end ≡ end_of m_dr
        end_left =
            let i = within d.acts.entity p.reference k.half.end stands_near in
            same_Some n.end (end_of m_dr) (sym n.stands
            ∙ ap (λ (z : Entity). end_at z p.reference) (near_is d.acts.system d.acts.entity d.acts.acted.entity d.acts.there d.acts.entities d.acts.kept d.acts.clock silent_same n ∙ acts_near)
            ∙ ap (λ (z : Acted). end_at z.entity p.reference) acted_is ∙ at_same e p.reference (Some (end_of m_dr)) i.least i.most)

        dr_left : HasLeft m_dr.stage
        dr_left =
            subst (λ (s : StateData). HasLeft (takes whole (link old.carrier).clock k.half.end.base s (wires.Dr p.reference a.source a.reason None a.octets) d.post.sent.sum).stage) (sym stage)
            (dr_ends_it (link old.carrier).clock k.half.end.base v p.reference a.source a.reason a.octets d.post.sent.sum a.summed)

        dr_ends : ⊥
        dr_ends = half_left t0 n.end.stage n.still (subst HasLeft (sym (ap (λ (z : End). z.stage) end_left)) dr_left)

      -- so one that waits waits still
      answered_still : IsAccepted k.half.end.stage → IsAnswered p k.half.end.base.agreed posts → IsAnswered p k.half.end.base.agreed later
      answered_still accepted answered = by k.half.end.stage refl accepted
        where
          by : (stage : StateData) → k.half.end.stage ≡ stage → IsAccepted stage → IsAnswered p k.half.end.base.agreed later
          by (stages.AkWait v) is accepted = elim (first_or_rest d.post answered.post d.rest (subst (λ (l : List Post). Contains l answered.post) d.posts_are answered.among)) [
            | inl first ↦ absurd (dr_ends v is (subst (IsAnswer p k.half.end.base.agreed) (sym first) answered.is))
            | inr later_on ↦ record { post = answered.post; among = more answered.post later_on; is = answered.is }
          ]
          by stage is accepted = absurd accepted

      -- what stands at the place of the partner
      there_heard : IsAccepted k.half.end.stage → (v : End) → p.far_system ≡ d.acts.system → d.acts.entity ≡ k.half.far → end_at d.acts.acted.entity p.far_reference ≡ Some v → Closed v
      there_heard accepted v here was stands = by met_is
        where
          before : end_at d.acts.acted.entity p.far_reference ≡ end_at d.acts.entity p.far_reference → Closed v
          before same = stood_closed d.acts.clock (answered_still accepted) accepted v (ap (λ (z : Entity). end_at z p.far_reference) (sym was) ∙ sym same ∙ stands)

          by : IsMet R (link old.carrier).clock (at (link old.carrier).clock d.acts.entity) d.acts.sender.own d.acts.acted → Closed v
          by (Stays same none answers) = before (ap (λ (z : Entity). end_at z p.far_reference) same)
          by (Takes t sum reference o read target there match is) = elim (cases_eq p.far_reference reference) [
            | inl same ↦
                let i = within d.acts.entity reference o there in
                let m : Moved = stepped whole (link old.carrier).clock o (Took t sum) in
                let stood : end_at k.half.far p.far_reference ≡ Some o = (λ i. end_at (sym was i) (same i)) ∙ there in
                let v_is : end_of m ≡ v = same_Some (end_of m) v
                (sym (at_same e reference (Some (end_of m)) i.least i.most) ∙ ap (λ (z : Acted). end_at z.entity reference) (sym is) ∙ ap (end_at d.acts.acted.entity) (sym same) ∙ stands) in
                subst Closed v_is
                (goes_closed o stood accepted d.acts.system (sym here) m d.acts.clock (answered_still accepted)
                (sent_waits d.acts.system m.tpdus d.rest (d.later_is ∙ ap (λ (z : Acted). d.rest ++ posted d.acts.system z.tpdus) is))
                (left_goes (link old.carrier).clock o (Took t sum) (left_there o stood)))
            | inr apart ↦ before (ap (λ (z : Acted). end_at z.entity p.far_reference) is ∙ at_other e reference p.far_reference _ (within d.acts.entity reference o there).least apart)
          ]
          by (Makes reference base octets free own is) = elim (cases_eq p.far_reference reference) [
            | inl same ↦
                let place : Some (end_of (indicated base octets)) ≡ Some v =
                sym (at_same e reference (Some (end_of (indicated base octets))) free.least free.most) ∙ ap (λ (z : Acted). end_at z.entity reference) (sym is) ∙ ap (end_at d.acts.acted.entity) (sym same) ∙ stands in
                subst Closed (same_Some (end_of (indicated base octets)) v place) tt
            | inr apart ↦ before (ap (λ (z : Acted). end_at z.entity p.far_reference) is ∙ at_other e reference p.far_reference _ free.least apart)
          ]

      -- the CC comes
      module _ (v : InAkWait) (accepted : IsAccepted k.half.end.stage) (low : v.tries.last ≤ (link old.carrier).clock) (own : IsOwnCc p d.post) where
        abbrev Tried : Type 0
        Tried = (v.tries.last ≤ bound) ⊎ ((v.tries.last ≤ (link new.carrier).clock) × IsAwaited p k.half.end.base.agreed later)

        at_far : d.acts.system ≡ p.far_system
        at_far = explains.known.apart d.acts.system p.far_system d.acts.entity k.half.far d.acts.there k.half.far_placed (d.acts.own_is ∙ own.sent.address ∙ sym k.half.far_own)

        entity_is : d.acts.entity ≡ k.half.far
        entity_is = same_Some d.acts.entity k.half.far (sym d.acts.there ∙ ap (entity_at old.entities) at_far ∙ k.half.far_placed)

        from_is : d.acts.sender.own ≡ p.here
        from_is = ap (λ (z : Entity). z.own) (same_Some d.acts.sender k.half.entity (sym d.acts.sender_there ∙ ap (entity_at old.entities) own.at ∙ k.half.placed)) ∙ k.half.own_is

        met_so_far : d.acts.acted ≡ met whole (link old.carrier).clock e d.acts.sender.own (d.post.sent.tpdu, is_summed d.post.sent.sum d.post.sent.tpdu)
        met_so_far = came_as (cc_plain d.post.sent.tpdu own.is) (ap (is_silent (link old.carrier).clock) entity_is ∙ k.awake)

        -- a DR goes back
        answers_back : (sent : Sent) → d.acts.acted.tpdus ≡ sent ∷ [] → IsAnswer p k.half.end.base.agreed (record { system = d.acts.system; sent = sent }) → Tried
        answers_back sent one is =
            inr (
              omega (arith, low, d.acts.clock),
              Answers (record { post = record { system = d.acts.system; sent = sent }; among = sent_waits d.acts.system d.acts.acted.tpdus d.rest d.later_is sent one; is = is }),
            )

        -- no end takes it: the entity answers
        refused : ((o : End) → end_at e p.far_reference ≡ Some o → is_match o.base o.stage d.acts.sender.own d.post.sent.tpdu ≡ true → ⊥) → Tried
        refused none = answers_back (refusal p.here p.reference 132)
            (ap (λ (z : Acted). z.tpdus) met_so_far
            ∙ cc_answered (link old.carrier).clock e d.acts.sender.own d.post.sent.tpdu (is_summed d.post.sent.sum d.post.sent.tpdu) p.reference p.far_reference own.is own.named own.sent.target none
            ∙ ap (λ (l : List ℕ). refusal l p.reference 132 ∷ []) from_is)
            (record { at = at_far; to = refl; source = 0; reason = 132; octets = []; is = refl; from = inl refl; summed = and_false (sum_agreed k.half.end.base.agreed) })

        module _ (o : End) (stands : end_at k.half.far p.far_reference ≡ Some o) where
          stands_here : end_at d.acts.entity p.far_reference ≡ Some o
          stands_here = ap (λ (z : Entity). end_at z p.far_reference) entity_is ∙ stands

          -- it waits to close, and takes it
          parted : (c : InWaitBeforeClose) → o.stage ≡ stages.WaitBeforeClose c → Tried
          parted c is = answers_back (release b 128 c.octets) one (its_dr o stands accepted d.acts.system at_far b 128 c.octets refl refl refl refl)
            where
              b : EndRecord
              b = record (base_at (link old.carrier).clock o.base) { partner = p.reference }

              sum : Bool
              sum = is_summed d.post.sent.sum d.post.sent.tpdu

              answers_any : (t : WireTpdu) → IsCc t → fits o.base (stages.WaitBeforeClose c) t ≡ true
              answers_any (wires.Cc credit destination source width calling called size preferred extra version classes ack_time text) is = refl
              answers_any other is = absurd is

              match : is_match o.base o.stage d.acts.sender.own d.post.sent.tpdu ≡ true
              match =
                  (λ i. pointwise nat_eq ((partner_to link names timers w journal old explains t0 p posts k.half o stands ∙ sym from_is) i) d.acts.sender.own && fits o.base (is i) d.post.sent.tpdu)
                  ∙ ap (λ (from : Bool). from && fits o.base (stages.WaitBeforeClose c) d.post.sent.tpdu) ((bytes_decides d.acts.sender.own d.acts.sender.own).1 refl) ∙ answers_any d.post.sent.tpdu own.is

              has : (is_summed_confirm d.post.sent.tpdu && not sum) ≡ false
              has = ap (λ (s : Bool). is_summed_confirm d.post.sent.tpdu && not s) (sum_same d.post.sent.tpdu p.far_reference d.post.sent.sum own.sent.target) ∙ own.summed

              one : d.acts.acted.tpdus ≡ release b 128 c.octets ∷ []
              one =
                  ap (λ (z : Acted). z.tpdus) (met_so_far ∙ cc_taken (link old.carrier).clock e d.acts.sender.own d.post.sent.tpdu sum p.far_reference o own.is own.sent.target stands_here match)
                  ∙ ap (λ (s : StateData). (takes whole (link old.carrier).clock o.base s d.post.sent.tpdu sum).tpdus) is
                  ∙ parting_takes (link old.carrier).clock o.base c d.post.sent.tpdu sum p.reference own.is own.named has

          -- it is Closing, and its DR is due by then
          due_by : (c : InClosing) → o.stage ≡ stages.Closing c → Tried
          due_by c is = elim (subst (λ (s : StateData). IsClosedBy bound (link old.carrier).clock p k.half.end.base.agreed posts o.base s) is (k.out accepted o stands)) [
            | inl early ↦ inl (omega (arith, low, early.1))
            | inr (inl answered) ↦ inr (omega (arith, low, d.acts.clock), Answers (answered_still accepted answered))
            | inr (inr other) ↦
                absurd (other (partner_knows link names timers w journal old explains t0 p posts k.half o stands (closing_knows link names timers w journal old explains t0 p posts k.half o stands c is)))
          ]

          frozen_there : (when : ℕ) → o.stage ≡ stages.Frozen when → Tried
          frozen_there when is = refused (λ u at match.
              let u_is : u ≡ o = same_Some u o (sym at ∙ stands_here) in
              frozen_fits u.base u.stage when d.post.sent.tpdu (ap (λ (z : End). z.stage) u_is ∙ is) (both_are (pointwise nat_eq u.base.to d.acts.sender.own) (fits u.base u.stage d.post.sent.tpdu) match).1)

          some_there : (stage : StateData) → o.stage ≡ stage → HasLeft stage → Tried
          some_there (stages.Closing c) is left = due_by c is
          some_there (stages.WaitBeforeClose c) is left = parted c is
          some_there (stages.Frozen when) is left = frozen_there when is
          some_there stage is left = absurd left

        cc_comes : Tried
        cc_comes = by (end_at k.half.far p.far_reference) refl
          where
            by : (place : Option End) → end_at k.half.far p.far_reference ≡ place → Tried
            by None gone = refused (λ o at match. absurd (none-some o (sym (ap (λ (z : Entity). end_at z p.far_reference) entity_is ∙ gone) ∙ at)))
            by (Some o) stands = some_there o stands o.stage refl (left_there o stands)

      -- where its place is as it was
      tried_heard : (stage : StateData) → k.half.end.stage ≡ stage → IsTriedBy bound (link new.carrier).clock p later k.half.end.base.agreed stage
      tried_heard (stages.AkWait v) is = elim (subst (IsTriedBy bound (link old.carrier).clock p posts k.half.end.base.agreed) is k.tried) [
        | inl early ↦ inl early
        | inr awaited ↦ by awaited.0 awaited.1
      ]
        where
          accepted : IsAccepted k.half.end.stage
          accepted = subst IsAccepted (sym is) tt

          by : v.tries.last ≤ (link old.carrier).clock → IsAwaited p k.half.end.base.agreed posts
              → (v.tries.last ≤ bound) ⊎ ((v.tries.last ≤ (link new.carrier).clock) × IsAwaited p k.half.end.base.agreed later)
          by low (Confirms post among own) = elim (first_or_rest d.post post d.rest (subst (λ (l : List Post). Contains l post) d.posts_are among)) [
            | inl first ↦ cc_comes v accepted low (subst (IsOwnCc p) (sym first) own)
            | inr later_on ↦ inr (omega (arith, low, d.acts.clock), Confirms post (more post later_on) own)
          ]
          by low (Answers answered) = inr (omega (arith, low, d.acts.clock), Answers (answered_still accepted answered))
      tried_heard stage is = tt

      -- an end that takes it
      module _ (t : WireTpdu) (sum : Bool) (reference : ℕ) (o : End) (read : R t sum) (target : destination_of t ≡ Some reference) (stands : end_at d.acts.entity reference ≡ Some o)
          (match : is_match o.base o.stage d.acts.sender.own t ≡ true) (is : d.acts.acted ≡ moved e reference (stepped whole (link old.carrier).clock o (Took t sum))) (here : d.acts.system ≡ p.system)
          (same : reference ≡ p.reference) where
        abbrev taken : Moved
        taken = stepped whole (link old.carrier).clock o (Took t sum)

        entity_here : d.acts.entity ≡ k.half.entity
        entity_here = same_Some d.acts.entity k.half.entity (sym d.acts.there ∙ ap (entity_at old.entities) here ∙ k.half.placed)

        o_is : o ≡ k.half.end
        o_is = same_Some o k.half.end (sym stands ∙ (λ i. end_at (entity_here i) (same i)) ∙ k.half.stands)

        abbrev near_taken : Becomes old new d.acts.system d.acts.entity d.acts.acted.entity d.acts.there d.acts.entities d.acts.kept p.system k.half.entity
        near_taken = near d.acts.system d.acts.entity d.acts.acted.entity d.acts.there d.acts.entities d.acts.kept d.acts.clock silent_same n

        taken_is : n.end ≡ end_of taken
        taken_is =
            let i = within d.acts.entity reference o stands in
            let acts : near_taken.entity ≡ d.acts.acted.entity = elim near_taken.which [ inl on ↦ on.2 | inr off ↦ absurd (off.0 (sym here)) ] in
            same_Some n.end (end_of taken) (sym n.stands
            ∙ ap (λ (z : Entity). end_at z p.reference) (near_is d.acts.system d.acts.entity d.acts.acted.entity d.acts.there d.acts.entities d.acts.kept d.acts.clock silent_same n ∙ acts)
            ∙ ap (end_at d.acts.acted.entity) (sym same) ∙ ap (λ (z : Acted). end_at z.entity reference) is ∙ at_same e reference (Some (end_of taken)) i.least i.most)

        -- it is a DR, and leaves the end as it is, since that stands still
        taken_same : n.end ≡ k.half.end
        taken_same = elim (dr_row (link old.carrier).clock o.base o.stage t sum (subst (λ (z : End). KnowsPartner z.stage) (sym o_is) (still_half t0 k.half.end.stage k.half.still)) dr (both_are (pointwise nat_eq o.base.to d.acts.sender.own) (fits o.base o.stage t) match).1) [
          | inl unmoved ↦ taken_is ∙ unmoved.end_is ∙ o_is
          | inr left ↦ absurd (half_left t0 n.end.stage n.still (subst HasLeft (sym (ap (λ (z : End). z.stage) taken_is)) left))
        ]
          where
            dr : IsDr t
            dr = dr_read link names timers going t0 p w journal made old new posts later explains k.half (deed_keeps link names timers going t0 p w journal made old new posts later explains (Heard d)) d t sum reference o
                read target stands match is here same

      heard_end : n.end ≡ k.half.end
      heard_end = by met_is
        where
          place_same : (p.system ≡ d.acts.system → end_at d.acts.acted.entity p.reference ≡ end_at d.acts.entity p.reference) → n.end ≡ k.half.end
          place_same same = end_same d.acts.system d.acts.entity d.acts.acted.entity d.acts.there d.acts.entities d.acts.kept d.acts.clock silent_same n same

          by : IsMet R (link old.carrier).clock (at (link old.carrier).clock d.acts.entity) d.acts.sender.own d.acts.acted → n.end ≡ k.half.end
          by (Stays same none answers) = place_same (λ here. ap (λ (z : Entity). end_at z p.reference) same)
          by (Takes t sum reference o read target stands match is) = elim (at_place d.acts.system reference p.system p.reference) [
            | inl here ↦ taken_same t sum reference o read target stands match is here.0 here.1
            | inr apart ↦
                place_same (λ here. ap (λ (z : Acted). end_at z.entity p.reference) is
                ∙ at_other e reference p.reference _ (within d.acts.entity reference o stands).least (λ same. apart (sym here) (sym same)))
          ]
          by (Makes reference base octets free own is) =
              let apart : d.acts.system ≡ p.system → reference ≡ p.reference → ⊥ = (λ here same.
              let owner : d.acts.entity ≡ k.half.entity = same_Some d.acts.entity k.half.entity (sym d.acts.there ∙ ap (entity_at old.entities) here ∙ k.half.placed) in
              kept_place (link old.carrier).clock _ k.half.end.stage (still_goes t0 k.half.end.stage k.half.still)
              (ap (is_free_place (link old.carrier).clock) (sym k.half.stands ∙ (λ i. end_at (sym owner i) (sym same i))) ∙ free.free)) in
              place_same (λ here. ap (λ (z : Acted). end_at z.entity p.reference) is ∙ at_other e reference p.reference _ free.least (λ same. apart (sym here) (sym same)))

      heard_keeps : IsAnswerable link t0 bound p (journal ++ made) new later
      heard_keeps =
          answerable_same d.acts.system d.acts.entity d.acts.acted.entity d.acts.there d.acts.entities d.acts.kept d.acts.clock silent_same n heard_end there_heard answered_still
          (tried_heard k.half.end.stage refl)

    answerable_on : (deed : Deed link old new made posts later) → IsHalf t0 p (journal ++ made) new later → IsAnswerable link t0 bound p (journal ++ made) new later
    answerable_on (Row d) n = row_keeps_on d n
    answerable_on (New d) n = begins_keeps d n
    answerable_on (Heard d) n = heard_keeps d n
    answerable_on (Over d) n =
        let same = end_same d.system d.entity (at (link old.carrier).clock d.entity) d.there d.entities refl d.clock refl n (λ here. refl) in
        let on : IsAnswered p k.half.end.base.agreed posts → IsAnswered p k.half.end.base.agreed later = subst (IsAnswered p k.half.end.base.agreed) (sym d.later_is) in
        answerable_same d.system d.entity (at (link old.carrier).clock d.entity) d.there d.entities refl d.clock refl n same
        (λ accepted v here was stands. stood_closed d.clock on accepted v (ap (λ (z : Entity). end_at z p.far_reference) (sym was) ∙ stands)) (λ accepted. on)
        (tried_on bound (link old.carrier).clock (link new.carrier).clock p posts later k.half.end.base.agreed k.half.end.stage (omega (arith, d.clock)) (subst (IsAwaited p k.half.end.base.agreed) (sym d.later_is)) k.tried)

  pub kept : IsKept link names timers (Keeps link t0 bound p)
  kept = record { still = still; clocks = clocks; deed = deed }
    where
      still : (journal made : List JournalEvent) (old new : World C) (posts : List Post) → AreSame old new → (link new.carrier).clock ≡ (link old.carrier).clock → Keeps link t0 bound p journal old posts
          → Keeps link t0 bound p (journal ++ made) new posts
      still journal made old new posts same clock (inl left) = inl (end_still link names timers going t0 p old new same left)
      still journal made old new posts same clock (inr k) =
          still_same journal made old new posts same k (ap (λ (n : ℕ). is_silent n k.half.far) clock ∙ k.awake) (omega (arith, clock))
          (λ v there closed. closed_on bound (link old.carrier).clock (link new.carrier).clock p k.half.end.base.agreed posts posts v.base v.stage clock (λ a. a) closed)

      clocks : (journal made : List JournalEvent) (old new : World C) → AreSame old new → (link new.carrier).clock ≡ (link old.carrier).clock + 1 → AreWaiting (link old.carrier).clock old.entities
          → Keeps link t0 bound p journal old [] → Keeps link t0 bound p (journal ++ made) new []
      clocks journal made old new same clock waiting (inl left) = inl (end_still link names timers going t0 p old new same left)
      clocks journal made old new same clock waiting (inr k) =
          still_same journal made old new [] same k
          (ap (λ (n : ℕ). is_silent n k.half.far) clock ∙ within_longer (link old.carrier).clock (frozen_for k.half.far.timers) k.half.far.restarted k.awake) (omega (arith, clock))
          (λ v there closed. closed_longer bound (link old.carrier).clock (link new.carrier).clock p k.half.end.base.agreed [] v.base v.stage clock
          (none_due (link old.carrier).clock k.half.far p.far_reference v (waiting p.far_system k.half.far k.half.far_placed) there) closed)

      deed : (w : Whole) (journal made : List JournalEvent) (old new : World C) (posts later : List Post) → Explains link names timers w journal old → Deed link old new made posts later
          → Keeps link t0 bound p journal old posts → Keeps link t0 bound p (journal ++ made) new later
      deed w journal made old new posts later explains does (inl left) = inl (end_keeps old new p.x (deed_keeps link names timers going t0 p w journal made old new posts later explains does) left)
      deed w journal made old new posts later explains does (inr k) =
          elim (half_on link names timers going t0 p w journal made old new posts later explains k.half (deed_keeps link names timers going t0 p w journal made old new posts later explains does) does) [
            | inl left ↦ inl left
            | inr n ↦ inr (answerable_on w journal made old new posts later explains k does n)
          ]
