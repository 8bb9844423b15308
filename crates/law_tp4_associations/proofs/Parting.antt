-- Two ends of which one has left: what waits first is handed over, by its row where the end takes it, and else by what its entity answers.
use Rattle.std.proofs.Common.{◌≡◌, ◌⊎◌, ℕ, ◌<◌, Bool, true, false, not, ◌&&◌, ◌||◌, ◌==◌, if◌then◌else◌, List, [], ◌∷◌, ◌++◌, refl, sym, ◌∙◌, ap, subst, inl, inr, arith}
use Rattle.std.proofs.lemmas.Bool.{eq-eqb, eqb-true}
use Rattle.tpdu.specs.declared.tpdu.Tpdu.{Tpdu}
use Rattle.tpdu.specs.declared.tpdu.Tpdu.TheVariants.{Cr, Cc, Dr, Dc, Dt, Ed, Ak, Ea, Er}
use Rattle.tp4_flow.specs.declared.rules.FlowRules.{FlowRules}
use Rattle.tpdu.specs.declared.service.GoneCause.TheVariants.{Reason}
use Rattle.tp4_flow.specs.declared.step.Sent.{Sent}
use Rattle.tp4_number.specs.Number.{whole}
use Rattle.tp4_conn.specs.declared.end_record.EndRecord.{EndRecord}
use Rattle.tp4_conn.specs.declared.states.InOpened.{InOpened}
use Rattle.tp4_conn.specs.declared.states.InAkWait.{InAkWait}
use Rattle.tp4_conn.specs.declared.states.InClosing.{InClosing}
use Rattle.tp4_conn.specs.declared.states.StateData.{StateData}
use Rattle.tp4_conn.specs.declared.states.StateData.TheVariants.{CrWait, WaitBeforeClose, AkWait, Opened, Closing, Frozen}
use Rattle.tp4_conn.specs.End.{End, Moved, confirms, end_of, frozen, gone, release, send}
use Rattle.tp4_conn.specs.Closing.{closing_tpdu}
use Rattle.tp4_conn.specs.AkWait.{ak_wait_tpdu}
use Rattle.tp4_conn.specs.Matching.{fits, is_refusal, is_source, sum_agreed, wants_sum}
use Rattle.tp4_conn.specs.Opened.{hearing, opened_tpdu}
use Rattle.tp4_conn.specs.Table.{Took, at, stepped, untaken}
use Rattle.tp4_entity.specs.Association.{answer, refusal, stateless}
use Rattle.law_tp4_pair.specs.Standing.{HasLeft}
use Rattle.law_tp4_pair.specs.Waiting.{IsDataFor}
use Rattle.law_tp4_associations.specs.Phase.{AllCome, AreParting, ArePartingFrom, AreWriting, Comes, Has, HearsData, IsAsking, IsConfirm, IsDone, IsFrozen, IsReleaseOf, MayCome, WillFreeze, Writes}
use Rattle.law_tp4_associations.proofs.Freezing.{answered_done, closing_freezes, closing_waits, closing_waits_back, data_come, done_comes, frozen_answers, has_right, come_then, open_closes, open_closes_back, open_freezes, open_waits, open_waits_back, other_release, rebuilt, refused_comes, release_comes, waiting_freezes, waiting_refused, waiting_waits, waiting_waits_back}
use Rattle.law_tp4_associations.proofs.Writing.{Closes, Open_on, Stays, hears_data}

-- the checksum that is agreed is there
pub taken_sum : (agreed sum : Bool) → (agreed ≡ true → sum ≡ true) → (agreed && not sum) ≡ false
taken_sum false sum h = refl
taken_sum true sum h = ap not (h refl)

or_false : (a b : Bool) → (a || b) ≡ false → (a ≡ false) × (b ≡ false)
or_false true b e = absurd (cc e)
or_false false b e = (refl, e)

not_both : (b : Bool) → b ≡ true → b ≡ false → ⊥
not_both b t f = cc (t, f)

opened_hears : (own other : ℕ) (o : InOpened) (v : StateData) (into out : List Sent) → WillFreeze other own v (Opened o) into out → HearsData v
opened_hears own other o (Closing c) into out f = tt
opened_hears own other o (Frozen t) into out f = tt
opened_hears own other o v into out f = absurd f

is_zero_not : (n m : ℕ) → n ≡ m → 0 < m → (n == 0) ≡ false
is_zero_not n m e low = grind arith

module _ (b : EndRecord) (stage : StateData) (w : End) (here there : List ℕ) (now : ℕ) (sent : Sent) (rest out : List Sent) (low : 0 < w.base.own) (mine : 0 < b.own)
    (p : AreParting (record { base = b; stage = stage }) w here there (sent ∷ rest) out) where
  abbrev After : Moved → Type 0
  After m = AreParting (end_of m) w here there rest (out ++ m.tpdus)

  partner_is : (IsFrozen stage → ⊥) → b.partner ≡ w.base.own
  partner_is never = elim p.one.knows.partner [ inl f ↦ absurd (never f) | inr e ↦ e ]

  -- the answer to a DR that is taken
  done_sent : (source : ℕ) → source ≡ w.base.own → confirms (at now b) source ≡ send (at now b) (Dc source b.own) ∷ []
  done_sent source is = ap (λ (z : Bool). if z then [] else send (at now b) (Dc source b.own) ∷ []) (is_zero_not source w.base.own is low)

  done_comes_back : (source : ℕ) → source ≡ w.base.own → AllCome w b.own there (send (at now b) (Dc source b.own) ∷ [])
  done_comes_back source is = (done_comes (record { base = at now b; stage = stage }) w there source is p.one.knows.to p.one.knows.sum, tt)

  rebuild : (clock : ℕ) (new : StateData) (more : List Sent) → (HearsData stage → HearsData new) → (IsFrozen stage → IsFrozen new) → AllCome w b.own there more → Writes new w there
      → WillFreeze b.own w.base.own new w.stage rest (out ++ more) → WillFreeze w.base.own b.own w.stage new (out ++ more) rest
      → AreParting (record { base = record b { clock = clock }; stage = new }) w here there rest (out ++ more)
  rebuild = rebuilt b stage w here there sent rest out p

-- ---- Opened

module _ (b : EndRecord) (o : InOpened) (w : End) (here there : List ℕ) (now : ℕ) (sent : Sent) (rest out : List Sent) (low : 0 < w.base.own) (mine : 0 < b.own)
    (p : AreParting (record { base = b; stage = Opened o }) w here there (sent ∷ rest) out) where
  abbrev Goes_on : Moved → Type 0
  Goes_on m = After b (Opened o) w here there now sent rest out low mine p m

  opened_done : (source : ℕ) (events : _) → source ≡ w.base.own → Goes_on (frozen (at now b) events (confirms (at now b) source))
  opened_done source events is =
      subst (λ (l : List Sent). Goes_on (frozen (at now b) events l)) (sym (done_sent b (Opened o) w here there now sent rest out low mine p source is))
      (rebuild b (Opened o) w here there now sent rest out low mine p now (Frozen now) (send (at now b) (Dc source b.own) ∷ []) (λ h. tt) (λ f. tt)
      (done_comes_back b (Opened o) w here there now sent rest out low mine p source is) tt tt
      (open_freezes b.own w.base.own low o w.stage now (sent ∷ rest) out (send (at now b) (Dc source b.own) ∷ []) rest p.next.freezes (inl tt)))

  opened_stays : (q : InOpened) (more : List Sent) → AreWriting w there q.halves → AllCome w b.own there more → (IsReleaseOf w.base.own sent.tpdu → ⊥)
      → AreParting (record { base = at now b; stage = Opened q }) w here there rest (out ++ more)
  opened_stays q more writing come never =
      rebuild b (Opened o) w here there now sent rest out low mine p now (Opened q) more (λ h. h) (λ f. f) come writing
      (open_waits b.own w.base.own low o q w.stage sent out more rest never p.one.freezes) (open_waits_back b.own w.base.own low o q w.stage (sent ∷ rest) out more rest p.next.freezes)

  opened_data : (tpdu : Tpdu) → (IsReleaseOf w.base.own sent.tpdu → ⊥) → IsDataFor b.own tpdu → Goes_on (opened_tpdu whole (at now b) (hearing (at now b) o) tpdu)
  opened_data tpdu never data_is =
      by (opened_tpdu whole (at now b) (hearing (at now b) o) tpdu) (hears_data rules (at now b) (hearing (at now b) o) b.own tpdu (record { sending_by = a.sending; receiving_by = a.receiving }) data_is)
    where
      a : AreWriting w there o.halves
      a = p.one.knows.writes

      rules : FlowRules
      rules = p.one.knows.writes.rules

      hears : HearsData w.stage
      hears = opened_hears b.own w.base.own o w.stage out (sent ∷ rest) p.next.freezes

      by : (m : Moved) → Stays p.one.knows.writes.rules (at now b) m → Goes_on m
      by m (Open_on q base stage s r d) =
          subst (λ (c : EndRecord). AreParting (record { base = c; stage = m.stage }) w here there rest (out ++ m.tpdus)) (sym base)
          (subst (λ (v : StateData). AreParting (record { base = at now b; stage = v }) w here there rest (out ++ m.tpdus)) (sym stage)
          (opened_stays q m.tpdus (record { rules = rules; sending = s; receiving = r; fits = a.fits }) (data_come w b.own there rules m.tpdus a.fits hears d) never))
      by m (Closes c before reason octets base stage d tpdus) =
          let dr : Sent = release (at now b) reason octets in
          subst (λ (x : EndRecord). AreParting (record { base = x; stage = m.stage }) w here there rest (out ++ m.tpdus)) (sym base)
          (subst (λ (v : StateData). AreParting (record { base = at now b; stage = v }) w here there rest (out ++ m.tpdus)) (sym stage)
          (subst (λ (l : List Sent). AreParting (record { base = at now b; stage = Closing c }) w here there rest (out ++ l)) (sym tpdus)
          (rebuild b (Opened o) w here there now sent rest out low mine p now (Closing c) (before ++ dr ∷ []) (λ h. tt) (λ f. f)
          (come_then w b.own there before (dr ∷ []) (data_come w b.own there rules before a.fits hears d)
          (release_comes (record { base = at now b; stage = Opened o }) w there reason octets (partner_is b (Opened o) w here there now sent rest out low mine p (λ f. f)) p.one.knows.to p.one.knows.sum, tt)) tt
          (open_closes b.own w.base.own low o c w.stage sent out (before ++ dr ∷ []) rest never p.one.freezes)
          (open_closes_back b.own w.base.own low o c w.stage (sent ∷ rest) out (before ++ dr ∷ []) rest (has_right (IsReleaseOf b.own) before (dr ∷ []) (inl refl)) p.next.freezes))))

  opened_row : (tpdu : Tpdu) → sent.tpdu ≡ tpdu → MayCome (record { base = b; stage = Opened o }) w.base.own tpdu → fits b (Opened o) tpdu ≡ true → Goes_on (opened_tpdu whole (at now b) (hearing (at now b) o) tpdu)
  unfolding opened_tpdu
  opened_row (Dr destination source reason info text) e m fit = opened_done source (gone (at now b) (Reason reason) text) (eqb-true source b.partner fit ∙ partner_is b (Opened o) w here there now sent rest out low mine p (λ f. f))
  opened_row (Dc destination source) e m fit = opened_stays (hearing (at now b) o) [] p.one.knows.writes tt (λ r. subst (IsReleaseOf w.base.own) e r)
  opened_row (Dt destination last number text) e m fit = opened_data (Dt destination last number text) (λ r. subst (IsReleaseOf w.base.own) e r) m.0
  opened_row (Ed destination last number text) e m fit = opened_data (Ed destination last number text) (λ r. subst (IsReleaseOf w.base.own) e r) m.0
  opened_row (Ak destination number credit subsequence confirmation) e m fit = opened_data (Ak destination number credit subsequence confirmation) (λ r. subst (IsReleaseOf w.base.own) e r) m.0
  opened_row (Ea destination number) e m fit = opened_data (Ea destination number) (λ r. subst (IsReleaseOf w.base.own) e r) m.0
  opened_row (Cc credit destination source width calling called size preferred extra version classes ack_time text) e m fit = absurd m.2
  opened_row (Cr credit source width calling called size preferred extra version classes ack_time text) e m fit = absurd m.3
  opened_row (Er destination cause rejected) e m fit = absurd m

-- ---- AkWait

module _ (b : EndRecord) (a : InAkWait) (w : End) (here there : List ℕ) (now : ℕ) (sent : Sent) (rest out : List Sent) (low : 0 < w.base.own) (mine : 0 < b.own)
    (p : AreParting (record { base = b; stage = AkWait a }) w here there (sent ∷ rest) out) where
  abbrev Answers_on : Moved → Type 0
  Answers_on m = After b (AkWait a) w here there now sent rest out low mine p m

  waiting_done : (source : ℕ) (events : _) → source ≡ w.base.own → Answers_on (frozen (at now b) events (confirms (at now b) source))
  waiting_done source events is =
      subst (λ (l : List Sent). Answers_on (frozen (at now b) events l)) (sym (done_sent b (AkWait a) w here there now sent rest out low mine p source is))
      (rebuild b (AkWait a) w here there now sent rest out low mine p now (Frozen now) (send (at now b) (Dc source b.own) ∷ []) (λ h. tt) (λ f. tt)
      (done_comes_back b (AkWait a) w here there now sent rest out low mine p source is) tt tt
      (waiting_freezes b.own w.base.own low a w.stage now (sent ∷ rest) out (send (at now b) (Dc source b.own) ∷ []) rest p.next.freezes (inl tt)))

  waiting_ended : (source : ℕ) (events : _) → source ≡ 0 → IsReleaseOf 0 sent.tpdu → Answers_on (frozen (at now b) events (confirms (at now b) source))
  waiting_ended source events is none =
      let nothing_sent : confirms (at now b) source ≡ [] = ap (λ (z : Bool). if z then [] else send (at now b) (Dc source b.own) ∷ []) (eq-eqb source 0 is) in
      subst (λ (l : List Sent). Answers_on (frozen (at now b) events l)) (sym nothing_sent)
      (rebuild b (AkWait a) w here there now sent rest out low mine p now (Frozen now) [] (λ h. tt) (λ f. tt) tt tt tt
      (waiting_refused b.own w.base.own low a w.stage now sent out [] rest none p.one.freezes p.next.freezes))

  waiting_row : (tpdu : Tpdu) → sent.tpdu ≡ tpdu → MayCome (record { base = b; stage = AkWait a }) w.base.own tpdu → Answers_on (ak_wait_tpdu whole (at now b) a tpdu)
  unfolding ak_wait_tpdu
  waiting_row (Dr destination source reason info text) e m = elim m.1 [
    | inl is ↦ waiting_done source (gone (at now b) (Reason reason) text) is
    | inr none ↦ waiting_ended source (gone (at now b) (Reason reason) text) none (subst (IsReleaseOf 0) (sym e) none)
  ]
  waiting_row (Dc destination source) e m =
      rebuild b (AkWait a) w here there now sent rest out low mine p now (AkWait a) [] (λ h. h) (λ f. f) tt tt
      (waiting_waits b.own w.base.own low a a w.stage sent out rest (λ r. subst (IsReleaseOf w.base.own) e r) (λ r. subst (IsReleaseOf 0) e r) p.one.freezes)
      (waiting_waits_back b.own w.base.own low a a w.stage (sent ∷ rest) out rest p.next.freezes)
  waiting_row (Cc credit destination source width calling called size preferred extra version classes ack_time text) e m = absurd m.2
  waiting_row (Cr credit source width calling called size preferred extra version classes ack_time text) e m = absurd m.3
  waiting_row (Er destination cause rejected) e m = absurd m
  waiting_row other e m = absurd m.1

-- ---- Closing

module _ (b : EndRecord) (c : InClosing) (w : End) (here there : List ℕ) (now : ℕ) (sent : Sent) (rest out : List Sent) (low : 0 < w.base.own) (mine : 0 < b.own)
    (p : AreParting (record { base = b; stage = Closing c }) w here there (sent ∷ rest) out) where
  closing_ends : AreParting (record { base = at now b; stage = Frozen now }) w here there rest (out ++ [])
  closing_ends = rebuild b (Closing c) w here there now sent rest out low mine p now (Frozen now) [] (λ h. tt) (λ f. tt) tt tt tt
      (closing_freezes b.own w.base.own low c w.stage now (sent ∷ rest) out rest p.next.freezes)

  closing_stays : (clock : ℕ) → (IsReleaseOf w.base.own sent.tpdu → ⊥) → (IsDone sent.tpdu → ⊥) → AreParting (record { base = record b { clock = clock }; stage = Closing c }) w here there rest (out ++ [])
  closing_stays clock never done = rebuild b (Closing c) w here there now sent rest out low mine p clock (Closing c) [] (λ h. h) (λ f. f) tt tt
      (closing_waits b.own w.base.own low c c w.stage sent out rest never done p.one.freezes) (closing_waits_back b.own w.base.own low c c w.stage (sent ∷ rest) out rest p.next.freezes)

  closing_row : (tpdu : Tpdu) → sent.tpdu ≡ tpdu → MayCome (record { base = b; stage = Closing c }) w.base.own tpdu → After b (Closing c) w here there now sent rest out low mine p (closing_tpdu (at now b) c tpdu)
  unfolding closing_tpdu
  closing_row (Dr destination source reason info text) e m = closing_ends
  closing_row (Dc destination source) e m = closing_ends
  closing_row (Cc credit destination source width calling called size preferred extra version classes ack_time text) e m = absurd m.2
  closing_row (Cr credit source width calling called size preferred extra version classes ack_time text) e m = absurd m.3
  closing_row (Er destination cause rejected) e m = absurd m
  closing_row other e m = closing_stays now (λ r. subst (IsReleaseOf w.base.own) e r) (λ r. subst IsDone e r)

-- ---- a TPDU that the end takes

module _ (b : EndRecord) (w : End) (here there : List ℕ) (now : ℕ) (sent : Sent) (rest out : List Sent) (low : 0 < w.base.own) (mine : 0 < b.own) where
  -- a TPDU with the checksum that is agreed is taken
  summed : (stage : StateData) (m : Moved) → (wants_sum b stage sent.tpdu ≡ sum_agreed b.agreed) → Comes (record { base = b; stage = stage }) w.base.own here sent
      → (if wants_sum b stage sent.tpdu && not sent.sum then untaken b stage else m) ≡ m
  summed stage m wants comes =
      ap (λ (x : Bool). if x && not sent.sum then untaken b stage else m) wants
      ∙ ap (λ (x : Bool). if x then untaken b stage else m) (taken_sum (sum_agreed b.agreed) sent.sum comes.summed)

  pub takes_it : (stage : StateData) → AreParting (record { base = b; stage = stage }) w here there (sent ∷ rest) out → fits b stage sent.tpdu ≡ true
      → AreParting (end_of (stepped whole now (record { base = b; stage = stage }) (Took sent.tpdu sent.sum))) w here there rest (out ++ (stepped whole now (record { base = b; stage = stage }) (Took sent.tpdu sent.sum)).tpdus)
  takes_it (Opened o) p fit =
      subst (λ (m : Moved). AreParting (end_of m) w here there rest (out ++ m.tpdus)) (sym (summed (Opened o) (opened_tpdu whole (at now b) (hearing (at now b) o) sent.tpdu) refl p.one.into_are.0))
      (opened_row b o w here there now sent rest out low mine p sent.tpdu refl p.one.into_are.0.kind fit)
  takes_it (AkWait a) p fit =
      subst (λ (m : Moved). AreParting (end_of m) w here there rest (out ++ m.tpdus)) (sym (summed (AkWait a) (ak_wait_tpdu whole (at now b) a sent.tpdu) refl p.one.into_are.0))
      (waiting_row b a w here there now sent rest out low mine p sent.tpdu refl p.one.into_are.0.kind)
  takes_it (Closing c) p fit =
      subst (λ (m : Moved). AreParting (end_of m) w here there rest (out ++ m.tpdus)) (sym (summed (Closing c) (closing_tpdu (at now b) c sent.tpdu) refl p.one.into_are.0))
      (closing_row b c w here there now sent rest out low mine p sent.tpdu refl p.one.into_are.0.kind)
  takes_it (Frozen t) p fit = absurd (cc fit)
  takes_it other p fit = absurd p.one.freezes

  -- ---- a TPDU that it leaves

  stays_so : (stage : StateData) (more : List Sent) → AreParting (record { base = b; stage = stage }) w here there (sent ∷ rest) out → AllCome w b.own there more
      → WillFreeze b.own w.base.own stage w.stage rest (out ++ more) → WillFreeze w.base.own b.own w.stage stage (out ++ more) rest
      → AreParting (record { base = b; stage = stage }) w here there rest (out ++ more)
  stays_so stage more p come one next = rebuild b stage w here there now sent rest out low mine p b.clock stage more (λ h. h) (λ f. f) come p.one.knows.writes one next

  -- a DR with source 0 in Opened or Closing
  left_open : (o : InOpened) (tpdu : Tpdu) → sent.tpdu ≡ tpdu → AreParting (record { base = b; stage = Opened o }) w here there (sent ∷ rest) out → MayCome (record { base = b; stage = Opened o }) w.base.own tpdu
      → is_source b tpdu ≡ false → AreParting (record { base = b; stage = Opened o }) w here there rest (out ++ stateless there tpdu)
  left_open o (Dr destination source reason info text) e p m unfit = elim m.1 [
    | inl is ↦ absurd (not_both (source == b.partner) (eq-eqb source b.partner (is ∙ sym (partner_is b (Opened o) w here there now sent rest out low mine p (λ f. f)))) unfit)
    | inr none ↦ subst (λ (z : Bool). AreParting (record { base = b; stage = Opened o }) w here there rest (out ++ (if z then [] else answer there (Dc source destination) ∷ []))) (sym (eq-eqb source 0 none))
        (stays_so (Opened o) [] p tt
        (open_waits b.own w.base.own low o o w.stage sent out [] rest (λ r. other_release w.base.own b.own sent.tpdu low (subst (IsReleaseOf 0) (sym e) none) r) p.one.freezes)
        (open_waits_back b.own w.base.own low o o w.stage (sent ∷ rest) out [] rest p.next.freezes))
  ]
  left_open o (Dc destination source) e p m unfit =
      absurd (not_both (source == b.partner) (eq-eqb source b.partner (m.1 ∙ sym (partner_is b (Opened o) w here there now sent rest out low mine p (λ f. f)))) unfit)
  left_open o (Cc credit destination source width calling called size preferred extra version classes ack_time text) e p m unfit = absurd m.2
  left_open o (Cr credit source width calling called size preferred extra version classes ack_time text) e p m unfit = absurd m.3
  left_open o other e p m unfit = absurd (cc unfit)

  left_closing : (c : InClosing) (tpdu : Tpdu) → sent.tpdu ≡ tpdu → AreParting (record { base = b; stage = Closing c }) w here there (sent ∷ rest) out → MayCome (record { base = b; stage = Closing c }) w.base.own tpdu
      → is_source b tpdu ≡ false → AreParting (record { base = b; stage = Closing c }) w here there rest (out ++ stateless there tpdu)
  left_closing c (Dr destination source reason info text) e p m unfit = elim m.1 [
    | inl is ↦ absurd (not_both (source == b.partner) (eq-eqb source b.partner (is ∙ sym (partner_is b (Closing c) w here there now sent rest out low mine p (λ f. f)))) unfit)
    | inr none ↦ subst (λ (z : Bool). AreParting (record { base = b; stage = Closing c }) w here there rest (out ++ (if z then [] else answer there (Dc source destination) ∷ []))) (sym (eq-eqb source 0 none))
        (stays_so (Closing c) [] p tt
        (closing_waits b.own w.base.own low c c w.stage sent out rest (λ r. other_release w.base.own b.own sent.tpdu low (subst (IsReleaseOf 0) (sym e) none) r) (λ d. subst IsDone e d) p.one.freezes)
        (closing_waits_back b.own w.base.own low c c w.stage (sent ∷ rest) out rest p.next.freezes))
  ]
  left_closing c (Dc destination source) e p m unfit =
      absurd (not_both (source == b.partner) (eq-eqb source b.partner (m.1 ∙ sym (partner_is b (Closing c) w here there now sent rest out low mine p (λ f. f)))) unfit)
  left_closing c (Cc credit destination source width calling called size preferred extra version classes ack_time text) e p m unfit = absurd m.2
  left_closing c (Cr credit source width calling called size preferred extra version classes ack_time text) e p m unfit = absurd m.3
  left_closing c other e p m unfit = absurd (cc unfit)

  left_waiting : (a : InAkWait) (tpdu : Tpdu) → AreParting (record { base = b; stage = AkWait a }) w here there (sent ∷ rest) out → MayCome (record { base = b; stage = AkWait a }) w.base.own tpdu
      → (is_source b tpdu || is_refusal tpdu) ≡ false → ⊥
  left_waiting a (Dr destination source reason info text) p m unfit =
      let f = or_false (source == b.partner) (source == 0) unfit in
      elim m.1 [
        | inl is ↦ not_both (source == b.partner) (eq-eqb source b.partner (is ∙ sym (partner_is b (AkWait a) w here there now sent rest out low mine p (λ f. f)))) f.0
        | inr none ↦ not_both (source == 0) (eq-eqb source 0 none) f.1
      ]
  left_waiting a (Dc destination source) p m unfit =
      not_both (source == b.partner) (eq-eqb source b.partner (m.1 ∙ sym (partner_is b (AkWait a) w here there now sent rest out low mine p (λ f. f)))) (or_false (source == b.partner) false unfit).0
  left_waiting a (Cc credit destination source width calling called size preferred extra version classes ack_time text) p m unfit = m.2
  left_waiting a (Cr credit source width calling called size preferred extra version classes ack_time text) p m unfit = m.3
  left_waiting a other p m unfit = cc unfit

  -- a frozen end
  stays_frozen : (t : ℕ) (more : List Sent) → AreParting (record { base = b; stage = Frozen t }) w here there (sent ∷ rest) out → AllCome w b.own there more
      → (IsReleaseOf w.base.own sent.tpdu → Has IsDone more) → (IsConfirm sent.tpdu → Has (IsReleaseOf 0) more)
      → AreParting (record { base = b; stage = Frozen t }) w here there rest (out ++ more)
  stays_frozen t more p come dr cc_ = stays_so (Frozen t) more p come tt (frozen_answers b.own w.base.own low t w.stage sent out more rest dr cc_ p.next.freezes)

  left_frozen : (t : ℕ) (tpdu : Tpdu) → sent.tpdu ≡ tpdu → AreParting (record { base = b; stage = Frozen t }) w here there (sent ∷ rest) out → MayCome (record { base = b; stage = Frozen t }) w.base.own tpdu
      → AreParting (record { base = b; stage = Frozen t }) w here there rest (out ++ stateless there tpdu)
  left_frozen t (Dr destination source reason info text) e p m = elim m.1 [
    | inl is ↦ subst (λ (z : Bool). AreParting (record { base = b; stage = Frozen t }) w here there rest (out ++ (if z then [] else answer there (Dc source destination) ∷ []))) (sym (is_zero_not source w.base.own is low))
        (stays_frozen t (answer there (Dc source destination) ∷ []) p (answered_done w b.own there source destination is m.0, tt) (λ r. inl tt) (λ c. absurd (subst IsConfirm e c)))
    | inr none ↦ subst (λ (z : Bool). AreParting (record { base = b; stage = Frozen t }) w here there rest (out ++ (if z then [] else answer there (Dc source destination) ∷ []))) (sym (eq-eqb source 0 none))
        (stays_frozen t [] p tt (λ r. absurd (other_release w.base.own b.own sent.tpdu low (subst (IsReleaseOf 0) (sym e) none) r)) (λ c. absurd (subst IsConfirm e c)))
  ]
  left_frozen t (Cc credit destination source width calling called size preferred extra version classes ack_time text) e p m =
      stays_frozen t (refusal there source 132 ∷ []) p (refused_comes w b.own there source 132 m.1, tt) (λ r. absurd (subst (IsReleaseOf w.base.own) e r)) (λ c. inl refl)
  left_frozen t (Er destination cause rejected) e p m = absurd m
  left_frozen t other e p m = stays_frozen t [] p tt (λ r. absurd (subst (IsReleaseOf w.base.own) e r)) (λ c. absurd (subst IsConfirm e c))

  pub leaves_it : (stage : StateData) → AreParting (record { base = b; stage = stage }) w here there (sent ∷ rest) out → fits b stage sent.tpdu ≡ false
      → AreParting (record { base = b; stage = stage }) w here there rest (out ++ stateless there sent.tpdu)
  leaves_it (Opened o) p unfit = left_open o sent.tpdu refl p p.one.into_are.0.kind unfit
  leaves_it (Closing c) p unfit = left_closing c sent.tpdu refl p p.one.into_are.0.kind unfit
  leaves_it (AkWait a) p unfit = absurd (left_waiting a sent.tpdu p p.one.into_are.0.kind unfit)
  leaves_it (Frozen t) p unfit = left_frozen t sent.tpdu refl p p.one.into_are.0.kind
  leaves_it other p unfit = absurd p.one.freezes

  -- a copy of the CR meets a frozen end: DR 131, or nothing
  pub ignores_it : (t : ℕ) → AreParting (record { base = b; stage = Frozen t }) w here there (sent ∷ rest) out → (source : ℕ) → source ≡ w.base.own → (IsReleaseOf w.base.own sent.tpdu → ⊥) → (IsConfirm sent.tpdu → ⊥) → (answered : Bool)
      → AreParting (record { base = b; stage = Frozen t }) w here there rest (out ++ (if answered then refusal there source 131 ∷ [] else []))
  ignores_it t p source is never none true = stays_frozen t (refusal there source 131 ∷ []) p (refused_comes w b.own there source 131 is, tt) (λ r. absurd (never r)) (λ c. absurd (none c))
  ignores_it t p source is never none false = stays_frozen t [] p tt (λ r. absurd (never r)) (λ c. absurd (none c))

-- an end of which the other one, or itself, has left has an answer to its CR
pub parts_no_asking : (z w : End) (here there : List ℕ) (into out : List Sent) → ArePartingFrom z w here there into out → IsAsking z.stage → ⊥
parts_no_asking z w here there into out p asking = by z.stage w.stage asking p.freezes
  where
    by : (mine theirs : StateData) → IsAsking mine → WillFreeze z.base.own w.base.own mine theirs into out → ⊥
    by (CrWait r) theirs k f = f
    by (WaitBeforeClose r) theirs k f = f
    by other theirs k f = k

-- one of the two has left
pub parting_has_left : (z w : End) (here there : List ℕ) (into out : List Sent) → AreParting z w here there into out → HasLeft z.stage ⊎ HasLeft w.stage
parting_has_left z w here there into out p = by z.stage w.stage p.one.freezes
  where
    by : (mine theirs : StateData) → WillFreeze z.base.own w.base.own mine theirs into out → HasLeft mine ⊎ HasLeft theirs
    by (Frozen when) theirs f = inl tt
    by (Closing c) theirs f = inl tt
    by (Opened o) (Closing c) f = inr tt
    by (Opened o) (Frozen when) f = inr tt
    by (AkWait a) (Closing c) f = inr tt
    by (AkWait a) (Frozen when) f = inr tt
    by mine theirs f = absurd f
