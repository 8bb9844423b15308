-- The partner that has left: what it does row by row, where it is Closing then; and what the history of its network knows of it beside the end that it left.
use Rattle.std.proofs.Common.{◌≡◌, ◌≢◌, inl, inr, ℕ, ◌+◌, nat_le, nat_lt, Bool, true, false, List, [], ◌∷◌, Option, Some, None, refl, sym, ◌∙◌, ap, subst, arith}
use Rattle.std.specs.Prelude.{◌&&◌, if◌then◌else◌, not, option_map}
use Rattle.std.proofs.lemmas.Option.{none-some, same_Some}
use Rattle.osi_base.specs.Link.{Link}
use Rattle.script_journal.specs.declared.event.Event.{Event as JournalEvent}
use Rattle.tpdu.specs.Values.{destination_of}
use Rattle.tpdu.specs.declared.service.Options.{Options}
use Rattle.tpdu.specs.declared.tpdu.Tpdu.{Tpdu}
use Rattle.tpdu.specs.declared.tpdu.Tpdu.TheVariants.{Cc, Dc, Dr}
use Rattle.tp4_number.specs.Number.{whole}
use Rattle.tp4_conn.specs.Closing.{closing_tick, closing_tpdu}
use Rattle.tp4_conn.specs.End.{End, Moved, agreed_sum, release, span}
use Rattle.tp4_conn.specs.Matching.{is_match, is_summed_confirm, sum_agreed, wants_sum}
use Rattle.tp4_conn.specs.Table.{Called, Event, Ticked, Took, at as now_at, on_tpdu, stepped, takes, untaken}
use Rattle.tp4_conn.specs.WaitBeforeClose.{wait_before_close_tick, wait_before_close_tpdu}
use Rattle.tp4_conn.specs.declared.end_record.EndRecord.{EndRecord}
use Rattle.tp4_conn.specs.declared.states.InClosing.{InClosing}
use Rattle.tp4_conn.specs.declared.states.InWaitBeforeClose.{InWaitBeforeClose}
use Rattle.tp4_conn.specs.declared.states.StateData.{StateData}
use Rattle.tp4_conn.specs.declared.states.StateData.TheVariants as stages
use Rattle.tp4_conn.specs.declared.timers.Timers.{Timers}
use Rattle.tp4_entity.specs.Association.{met, met_by, unmatched}
use Rattle.tp4_entity.specs.Entity.{Entity, end_at, moved}
use Rattle.law_tp4_history.specs.Ends.{Terms, Times}
use Rattle.law_tp4_history.specs.History.{IsCaller, IsPartner}
use Rattle.law_tp4_history.specs.Tracks.{Whole}
use Rattle.law_tp4_history.proofs.Meets.{swap}
use Rattle.law_tp4_history.proofs.Sound.{Sound, one_partner, partner_address}
use Rattle.law_tp4_history.proofs.Tracked.{reached_base}
use Rattle.law_tp4_history.proofs.Written.{written_reached}
use Rattle.law_tp4_history.specs.Moves.{IsAsked, IsClosing, IsSeenIn, times_of}
use Rattle.law_tp4_history.specs.Seen.{terms_of}
use Rattle.law_tp4_history.proofs.Beginnings.{fit_times}
use Rattle.law_tp4_pair.specs.Standing.{HasLeft}
use Rattle.tp4_world.specs.World.{World, latest}
use Rattle.tp4_world.proofs.Addressees.{either}
use Rattle.law_tp4_lawful.proofs.FramesKnown.{number_at}
use Rattle.law_tp4_lawful.proofs.Known.{IsKnown, IsThere}
use Rattle.law_tp4_lawful.proofs.Worlds.{Explains}
use Rattle.law_calm_run.proofs.Hall.{Post}
use Rattle.law_recovery_run.specs.Aside.{Names}
use Rattle.law_recovery_run.proofs.Rivals.{kept as known_kept, sound as sound_of}
use Rattle.law_recovery.proofs.Answered.{all_answered}
use Rattle.law_recovery.proofs.Partner.{IsHalf, Parties, k, known, of_partner, partner, partner_number, z}
use Rattle.law_recovery.proofs.Rows.{IsCc}

-- ---- its rows

abbrev pub IsNotClosing : StateData → Type 0
IsNotClosing (stages.Closing c) = ⊥
IsNotClosing stage = Prim.Unit {0}

-- it is not Closing; or it is Closing as it was; or it sent a DR, and is Closing since
pub data GoesOut (b : EndRecord) (stage : StateData) (m : Moved) : Type 0 where
  Out : IsNotClosing m.stage → GoesOut b stage m
  Same : (c : InClosing) → stage ≡ stages.Closing c → m.stage ≡ stages.Closing c → m.base.timers ≡ b.timers → m.base.partner ≡ b.partner → GoesOut b stage m
  Parts : (c : InClosing) (reason : ℕ) (octets : List ℕ) → m.stage ≡ stages.Closing c → m.tpdus ≡ release m.base reason octets ∷ [] → m.base.own ≡ b.own → m.base.to ≡ b.to → m.base.agreed ≡ b.agreed
      → GoesOut b stage m

-- whatever the tick of its record
at_any : (now : ℕ) (b : EndRecord) (stage : StateData) (m : Moved) → GoesOut (now_at now b) stage m → GoesOut b stage m
at_any now b stage m (Out out) = Out out
at_any now b stage m (Same c was is timers partner) = Same c was is timers partner
at_any now b stage m (Parts c reason octets is tpdus own to agreed) = Parts c reason octets is tpdus own to agreed

closing_ticks : (b : EndRecord) (c : InClosing) → GoesOut b (stages.Closing c) (closing_tick b c)
unfolding closing_tick
closing_ticks b c =
    either (GoesOut b (stages.Closing c)) (nat_le (c.from + span b.timers) b.clock) _ _ (Out tt)
    (either (GoesOut b (stages.Closing c)) (nat_lt b.clock (c.last + b.timers.t1)) _ _ (Same c refl refl refl refl) (Parts _ c.reason c.octets refl refl refl refl refl))

waiting_ticks : (b : EndRecord) (w : InWaitBeforeClose) → GoesOut b (stages.WaitBeforeClose w) (wait_before_close_tick b w)
unfolding wait_before_close_tick
waiting_ticks b w =
    either (GoesOut b (stages.WaitBeforeClose w)) (nat_lt b.clock (w.request.tries.last + b.timers.t1)) _ _ (Out tt)
    (either (GoesOut b (stages.WaitBeforeClose w)) (nat_lt w.request.tries.count b.timers.sendings) _ _ (Out tt) (Out tt))

closing_takes : (b : EndRecord) (c : InClosing) (t : Tpdu) → GoesOut b (stages.Closing c) (closing_tpdu b c t)
unfolding closing_tpdu
closing_takes b c (Dc destination source) = Out tt
closing_takes b c (Dr destination source reason info text) = Out tt
closing_takes b c other = Same c refl refl refl refl

waiting_takes : (b : EndRecord) (w : InWaitBeforeClose) (t : Tpdu) → GoesOut b (stages.WaitBeforeClose w) (wait_before_close_tpdu b w t)
unfolding wait_before_close_tpdu
waiting_takes b w (Cc credit destination source width calling called size preferred extra version classes ack_time text) = Parts _ 128 w.octets refl refl refl refl refl
waiting_takes b w (Dr destination source reason info text) = Out tt
waiting_takes b w other = Out tt

pub left_goes : (now : ℕ) (e : End) (event : Event) → HasLeft e.stage → GoesOut e.base e.stage (stepped whole now e event)
left_goes now e event left = by e.stage event left
  where
    by : (stage : StateData) (event : Event) → HasLeft stage → GoesOut e.base stage (stepped whole now (record { base = e.base; stage = stage }) event)
    by (stages.Closing c) (Called call) left = Same c refl refl refl refl
    by (stages.Closing c) Ticked left = at_any now e.base (stages.Closing c) (closing_tick (now_at now e.base) c) (closing_ticks (now_at now e.base) c)
    by (stages.Closing c) (Took t sum) left =
        either (GoesOut e.base (stages.Closing c)) (wants_sum e.base (stages.Closing c) t && not sum) _ _ (Same c refl refl refl refl)
        (at_any now e.base (stages.Closing c) (closing_tpdu (now_at now e.base) c t) (closing_takes (now_at now e.base) c t))
    by (stages.WaitBeforeClose w) (Called call) left = Out tt
    by (stages.WaitBeforeClose w) Ticked left = at_any now e.base (stages.WaitBeforeClose w) (wait_before_close_tick (now_at now e.base) w) (waiting_ticks (now_at now e.base) w)
    by (stages.WaitBeforeClose w) (Took t sum) left =
        either (GoesOut e.base (stages.WaitBeforeClose w)) (wants_sum e.base (stages.WaitBeforeClose w) t && not sum) _ _ (Out tt)
        (at_any now e.base (stages.WaitBeforeClose w) (wait_before_close_tpdu (now_at now e.base) w t) (waiting_takes (now_at now e.base) w t))
    by (stages.Frozen when) (Called call) left = Out tt
    by (stages.Frozen when) Ticked left = Out tt
    by (stages.Frozen when) (Took t sum) left = either (GoesOut e.base (stages.Frozen when)) (wants_sum e.base (stages.Frozen when) t && not sum) _ _ (Out tt) (Out tt)
    by stage event left = absurd left

-- ---- a CC comes to it

-- it waits to close, and the CC has the checksum that it says: it sends a DR to where that is from
pub parting_takes : (now : ℕ) (b : EndRecord) (w : InWaitBeforeClose) (t : Tpdu) (sum : Bool) (reference : ℕ) → IsCc t → Names reference t → (is_summed_confirm t && not sum) ≡ false
    → (takes whole now b (stages.WaitBeforeClose w) t sum).tpdus ≡ release (record (now_at now b) { partner = reference }) 128 w.octets ∷ []
unfolding wait_before_close_tpdu
parting_takes now b w (Cc credit destination source width calling called size preferred extra version classes ack_time text) sum reference is names has =
    let t : Tpdu = Cc credit destination source width calling called size preferred extra version classes ack_time text in
    ap (λ (c : Bool). (if c then untaken b (stages.WaitBeforeClose w) else on_tpdu whole (now_at now b) (stages.WaitBeforeClose w) t).tpdus) has
    ∙ ap (λ (n : ℕ). release (record (now_at now b) { partner = n }) 128 w.octets ∷ []) names
parting_takes now b w other sum reference is names has = absurd is

-- an end that stands at its destination and matches takes a CC
pub cc_taken : (now : ℕ) (e : Entity) (from : List ℕ) (t : Tpdu) (sum : Bool) (target : ℕ) (o : End) → IsCc t → destination_of t ≡ Some target → end_at e target ≡ Some o → is_match o.base o.stage from t ≡ true
    → met whole now e from (t, sum) ≡ moved e target (stepped whole now o (Took t sum))
cc_taken now e from (Cc credit destination source width calling called size preferred extra version classes ack_time text) sum target o is to stands match =
    let t : Tpdu = Cc credit destination source width calling called size preferred extra version classes ack_time text in
    ap (λ (d : ℕ). met_by whole now e from (t, sum) d (end_at e d)) (same_Some destination target to) ∙ ap (met_by whole now e from (t, sum) target) stands
    ∙ ap (λ (c : Bool). if c then moved e target (stepped whole now o (Took t sum)) else unmatched e from t) match
cc_taken now e from other sum target o is to stands match = absurd is

-- ---- what is known of it

pub and_false : (c : Bool) → (c && false) ≡ false
and_false true = refl
and_false false = refl

and_not : (c : Bool) → (c && not c) ≡ false
and_not true = refl
and_not false = refl

module _ {C : Type 0} (link : C → Link (List ℕ)) (names : List (List ℕ)) (timers : Timers) (w : Whole) (journal : List JournalEvent) (world : World C) (explains : Explains link names timers w journal world)
    (t0 : ℕ) (p : Parties) (posts : List Post) (h : IsHalf t0 p journal world posts) (v : End) (stands : end_at h.far p.far_reference ≡ Some v) where
  abbrev times : Times
  times = times_of timers

  abbrev sound : Sound times w.base
  sound = sound_of link names timers w journal world explains

  it : IsKnown w h.far.own p.far_reference v
  it = subst (IsThere w h.far.own p.far_reference) stands ((explains.known.holds p.far_system h.far h.far_placed).there p.far_reference)

  abbrev i : ℕ
  i = k link names timers w journal world explains t0 p posts h

  abbrev j : ℕ
  j = z link names timers w journal world explains t0 p posts h

  abbrev end : (is : IsKnown w h.entity.own p.reference h.end) × (is.k + 1 ≡ p.x)
  end = known link names timers w journal world explains t0 p posts h

  -- it is the partner of the end
  same : it.k ≡ j
  same =
      let number : latest world.ends p.far_system p.far_reference ≡ it.k + 1 = number_at names timers w journal world.entities world.ends explains.known p.far_system h.far p.far_reference it.k h.far_placed it.at in
      let last : latest world.ends p.far_system p.far_reference ≡ p.y = partner_number link names timers w journal world explains t0 p posts h v stands in
      let one : j + 1 ≡ p.y = (of_partner link names timers w journal world explains t0 p posts h).1 in
      omega (arith, number, last, one)

  of_end : IsPartner w.base i it.k
  of_end = subst (IsPartner w.base i) (sym same) (partner link names timers w journal world explains t0 p posts h)

  pub own_is : v.base.own ≡ p.far_reference
  own_is = sym it.sees.reference ∙ it.at.reference_is

  pub to_is : v.base.to ≡ p.here
  to_is = sym it.sees.partner ∙ partner_address times w.base sound it.k i (swap w.base i it.k of_end) ∙ end.0.at.address ∙ h.own_is

  -- where it knows a partner, that is the end
  pub partner_is : v.base.partner ≢ 0 → v.base.partner ≡ p.reference
  partner_is some =
      let q = (sound.own it.k it.at.low).known (λ none. some (sym it.sees.known ∙ none)) in
      let one : q.0 ≡ i = one_partner times w.base sound it.k q.0 i q.1 (swap w.base i it.k of_end) in
      sym it.sees.known ∙ q.2 ∙ ap (λ (n : ℕ). (w.base.end n).birth.reference) one ∙ end.0.at.reference_is

  pub closing_knows : (c : InClosing) → v.stage ≡ stages.Closing c → v.base.partner ≢ 0
  closing_knows c is =
      let closing : IsClosing (w.base.end it.k).latest v.base c = subst (IsSeenIn (w.base.end it.k).birth (w.base.end it.k).took (w.base.end it.k).latest v.base) is it.sees.state in
      closing.known

  -- where the end is called, it was called by that
  calls : h.end.base.is_called ≡ true → IsCaller w.base it.k i
  calls called = elim of_end [
    | inl c ↦ absurd (cc (sym (end.0.sees.is_called ∙ called), (sound.pairs i it.k c).calls))
    | inr c ↦ c
  ]

  -- what it sends has a checksum, where the end asks for one
  pub sums_are : h.end.base.is_called ≡ true → (sum_agreed h.end.base.agreed && not (agreed_sum v.base.agreed)) ≡ false
  sums_are called = by v.base.agreed refl h.end.base.agreed refl
    where
      both : (o : Options) → v.base.agreed ≡ Some o → (w.base.end i).agreed ≡ Some (terms_of o)
      both o is = (known_kept link names timers w journal world explains).agreed.both it.k i (terms_of o) (calls called) (it.sees.agreed ∙ ap (option_map terms_of) is)

      by : (theirs : Option Options) → v.base.agreed ≡ theirs → (ours : Option Options) → h.end.base.agreed ≡ ours → (sum_agreed ours && not (agreed_sum theirs)) ≡ false
      by None is ours at = and_false (sum_agreed ours)
      by (Some o) is None at = refl
      by (Some o) is (Some terms) at =
          let same_terms : terms_of o ≡ terms_of terms = same_Some (terms_of o) (terms_of terms) (sym (both o is) ∙ end.0.sees.agreed ∙ ap (option_map terms_of) at) in
          ap (λ (s : Bool). terms.sum && not s) (ap (λ (t : Terms). t.is_summed) same_terms) ∙ and_not terms.sum

  -- where it is Closing, the end does not wait for its user
  pub unasked : (c : InClosing) (since : ℕ) → v.stage ≡ stages.Closing c → h.end.stage ≡ stages.UserWait since → ⊥
  unasked c since is asks =
      let asked : IsAsked (w.base.end i).birth (w.base.end i).latest h.end.base since =
      subst (IsSeenIn (w.base.end i).birth (w.base.end i).took (w.base.end i).latest h.end.base) asks end.0.sees.state in
      let agreed = all_answered times w.base (fit_times timers) (reached_base times w (written_reached times names w journal explains.known.written)) it.k i (calls asked.called)
      (λ none. closing_knows c is (sym it.sees.known ∙ none)) in
      none-some agreed.0 (sym (sym agreed.1 ∙ end.0.sees.agreed ∙ ap (option_map terms_of) asked.unagreed))
