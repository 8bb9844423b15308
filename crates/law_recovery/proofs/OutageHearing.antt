-- In a calm run of a pair each end heard what the other said last, where nothing waits: an end opens as it takes a CC or an AK, and what is said comes in the same tick.
use Rattle.std.proofs.Common.{◌≡◌, ◌⊎◌, inl, inr, ◌<◌, ◌≤◌, ℕ, ◌+◌, ◌&&◌, not, Bool, true, false, if◌then◌else◌, List, [], ◌∷◌, ◌++◌, length, Option, Some, refl, sym, ◌∙◌, ap, subst, arith, length-append}
use Rattle.tpdu.specs.declared.tpdu.Tpdu.{Tpdu}
use Rattle.tpdu.specs.declared.tpdu.Tpdu.TheVariants.{Ak, Cc, Dr}
use Rattle.tp4_number.specs.Number.{whole}
use Rattle.tp4_number.proofs.Past.{if_kept}
use Rattle.tp4_flow.specs.ReceivingHalf.{ak}
use Rattle.tp4_flow.specs.declared.step.Sent.{Sent}
use Rattle.tp4_sending.specs.Pieces.{once}
use Rattle.tp4_sending.specs.declared.tries.Tries.{Tries}
use Rattle.tp4_conn.specs.Agreeing.{confirm, is_within}
use Rattle.tp4_conn.specs.AkWait.{ak_wait_tpdu}
use Rattle.tp4_conn.specs.CrWait.{cr_wait_tpdu}
use Rattle.tp4_conn.specs.End.{End, Moved, end_of}
use Rattle.tp4_conn.specs.Matching.{wants_sum}
use Rattle.tp4_conn.specs.Opened.{opened_tpdu}
use Rattle.tpdu.specs.declared.service.Options.{Options}
use Rattle.tp4_conn.specs.Table.{Called, Took, at, on_call, on_tick, on_tpdu, stepped, takes, untaken}
use Rattle.tp4_conn.specs.declared.call.UserCall.{UserCall}
use Rattle.tp4_conn.specs.declared.call.UserCall.TheVariants.{Accept}
use Rattle.tp4_conn.specs.declared.end_record.EndRecord.{EndRecord}
use Rattle.tp4_conn.specs.declared.states.InAkWait.{InAkWait}
use Rattle.tp4_conn.specs.declared.states.InCrWait.{InCrWait}
use Rattle.tp4_conn.specs.declared.states.InOpened.{InOpened}
use Rattle.tp4_conn.specs.declared.states.StateData.{StateData}
use Rattle.tp4_conn.specs.declared.states.StateData.TheVariants.{AkWait, CrWait, Opened}
use Rattle.law_tp4_pair.specs.Pair.{Accepts, Asks_called, Asks_calling, back_units, forth_units, Clock, Comes_back, Comes_forth, Happening, IsIdle, Leads, May, Pair, comes_back, comes_forth, next, tick_of}
use Rattle.law_tp4_pair.specs.Standing.{AreBoth, Both, Confirming, First, HasLeft, Left, Stands, party}
use Rattle.law_tp4_pair.specs.Waiting.{AreData, IsDataFor}
use Rattle.law_tp4_pair.proofs.Handing.{has_sum}
use Rattle.law_tp4_pair.proofs.Pairs.{stands_on}
use Rattle.law_tp4_pair.proofs.Resting.{accepts_stands}
use Rattle.law_recovery_steps.specs.Steps.{IsParted}
use Rattle.law_recovery_steps.proofs.Pairs.{parted_after}
use Rattle.law_recovery_steps.proofs.Going.{same_open}
use Rattle.law_recovery_steps.proofs.PartingRows.{RowDoes, RowStays, call_does, data_does, tick_does}

-- ---- an end that opens

waits_not : (w : InAkWait) (o : InOpened) → AkWait w ≡ Opened o → ⊥
waits_not w o e = cc e

opened_not : (w : InAkWait) (o : InOpened) → Opened o ≡ AkWait w → ⊥
opened_not w o e = cc e

-- it took something now, and said so
abbrev IsFresh : ℕ → InOpened → Type 0
IsFresh now o = (o.took ≡ now) × (o.acked ≡ now)

abbrev OpensFresh : ℕ → Moved → Type 0
OpensFresh now m = (o : InOpened) → m.stage ≡ Opened o → IsFresh now o

opens_so : (now : ℕ) (one o : InOpened) → IsFresh now one → Opened one ≡ Opened o → IsFresh now o
opens_so now one o fresh e = subst (IsFresh now) (same_open one o e) fresh

cr_wait_fresh : (b : EndRecord) (r : InCrWait) (tpdu : Tpdu) → OpensFresh b.clock (cr_wait_tpdu b r tpdu)
unfolding cr_wait_tpdu
cr_wait_fresh b r (Cc credit destination source width calling called size preferred extra version classes ack_time text) =
    if_kept (OpensFresh b.clock) (is_within b.proposed width size preferred extra) _ _ (λ _ o e. opens_so b.clock _ o (refl, refl) e) (λ _ o e. absurd (cc e))
cr_wait_fresh b r (Dr destination source reason info text) = λ o e. absurd (cc e)
cr_wait_fresh b r other = λ o e. absurd (cc e)

confirmed_fresh : (now : ℕ) (b : EndRecord) (r : InCrWait) (tpdu : Tpdu) (sum : Bool) → OpensFresh now (takes whole now b (CrWait r) tpdu sum)
confirmed_fresh now b r tpdu sum =
    if_kept (OpensFresh now) (wants_sum b (CrWait r) tpdu && not sum) (untaken b (CrWait r)) (on_tpdu whole (at now b) (CrWait r) tpdu) (λ _ o e. absurd (cc e)) (λ _. cr_wait_fresh (at now b) r tpdu)

ak_wait_fresh : (b : EndRecord) (w : InAkWait) (destination number credit subsequence : ℕ) (confirmation : Option (List ℕ)) → OpensFresh b.clock (ak_wait_tpdu whole b w (Ak destination number credit subsequence confirmation))
unfolding ak_wait_tpdu opened_tpdu
ak_wait_fresh b w destination number credit subsequence confirmation = λ o e. opens_so b.clock _ o (refl, refl) e

answered_fresh : (now : ℕ) (b : EndRecord) (w : InAkWait) (destination number credit subsequence : ℕ) (confirmation : Option (List ℕ)) (sum : Bool)
    → OpensFresh now (takes whole now b (AkWait w) (Ak destination number credit subsequence confirmation) sum)
answered_fresh now b w destination number credit subsequence confirmation sum =
    if_kept (OpensFresh now) (wants_sum b (AkWait w) (Ak destination number credit subsequence confirmation) && not sum) (untaken b (AkWait w))
    (on_tpdu whole (at now b) (AkWait w) (Ak destination number credit subsequence confirmation)) (λ _ o e. absurd (waits_not w o e)) (λ _. ak_wait_fresh (at now b) w destination number credit subsequence confirmation)

-- ---- two that are Opened

-- what the second said last the first heard, or something waits for that
abbrev Heard : InOpened → InOpened → List Sent → Type 0
Heard o q waits = (q.acked ≤ o.took) ⊎ (0 < length waits)

record HaveHeard (now : ℕ) (o q : InOpened) (forth back : List Sent) : Type 0 where
  mine : o.acked ≤ now
  theirs : q.acked ≤ now
  heard : Heard o q back
  hears : Heard q o forth

turned : (now : ℕ) (o q : InOpened) (forth back : List Sent) → HaveHeard now o q forth back → HaveHeard now q o back forth
turned now o q forth back h = record { mine = h.theirs; theirs = h.mine; heard = h.hears; hears = h.heard }

-- nothing is asked of what is tried
abbrev Any : Tries → Type 0
Any tries = Unit {0}

-- the second end did something and is Opened still
still_heard : (clock now took : ℕ) (o q r : InOpened) (forth rest back : List Sent) (m : Moved) → clock ≤ now → HaveHeard clock o q forth back → (stays_so : RowStays Any now took q m) → m.stage ≡ Opened r
    → (took ≡ now) ⊎ ((took ≡ q.took) × (rest ≡ forth)) → HaveHeard now o r rest (back ++ m.tpdus)
still_heard clock now took o q r forth rest back m later h k is how =
    subst (λ (x : InOpened). HaveHeard now o x rest (back ++ m.tpdus)) (same_open k.after r (sym k.stage ∙ is)) (record {
      mine = omega (arith, h.mine, later);
      theirs = elim k.acked [ inl e ↦ omega (arith, e, h.theirs, later) | inr here ↦ omega (arith, here.0) ];
      heard = elim k.acked [
        | inl e ↦ elim h.heard [ inl old ↦ inl (omega (arith, e, old)) | inr waits ↦ inr (omega (arith, waits, length-append back m.tpdus)) ]
        | inr here ↦ inr (omega (arith, here.1, length-append back m.tpdus))
      ];
      hears = elim how [
        | inl now_is ↦ inl (omega (arith, h.mine, later, k.took_is, now_is))
        | inr kept ↦ elim h.hears [ inl old ↦ inl (omega (arith, old, k.took_is, kept.0)) | inr waits ↦ inr (omega (arith, waits, ap length kept.1)) ]
      ];
    })

-- ---- a pair

record IsHeard (p : Pair) : Type 0 where
  first : (o : InOpened) (w : InAkWait) → p.calling.stage ≡ Opened o → p.called.stage ≡ AkWait w → (o.acked ≤ p.clock) × (p.clock ≤ o.took)
  both : (o q : InOpened) → p.calling.stage ≡ Opened o → p.called.stage ≡ Opened q → HaveHeard p.clock o q p.forth p.back

left_opened : (stage : StateData) (o : InOpened) → HasLeft stage → stage ≡ Opened o → ⊥
left_opened stage o left is = subst HasLeft is left

left_waits : (stage : StateData) (w : InAkWait) → HasLeft stage → stage ≡ AkWait w → ⊥
left_waits stage w left is = subst HasLeft is left

parted_heard : (p : Pair) → IsParted p → IsHeard p
parted_heard p (inl left) = record { first = λ o w is waits. absurd (left_opened p.calling.stage o left is); both = λ o q is other. absurd (left_opened p.calling.stage o left is) }
parted_heard p (inr left) = record { first = λ o w is waits. absurd (left_waits p.called.stage w left waits); both = λ o q is other. absurd (left_opened p.called.stage q left other) }

some_waits : (sent : Sent) (rest waits : List Sent) → waits ≡ sent ∷ rest → waits ≡ [] → ⊥
some_waits sent rest waits some none = cc (sym some ∙ none)

-- the called end did something
called_heard : (now : ℕ) (o q : InOpened) (p new : Pair) (m : Moved) (forth rest : List Sent) (took : ℕ) → p.clock ≤ now → p.calling.stage ≡ Opened o → new.clock ≡ now → new.calling ≡ p.calling
    → new.called ≡ end_of m → new.forth ≡ rest → new.back ≡ p.back ++ m.tpdus → HaveHeard p.clock o q forth p.back → (b : EndRecord) → RowDoes Any (Unit {0}) now took b q m
    → (took ≡ now) ⊎ ((took ≡ q.took) × (rest ≡ forth)) → IsHeard new
called_heard now o q p new m forth rest took later o_is clock calling called forth_is back h b row how = elim row.does [
  | inl leaves ↦ parted_heard new (inr (subst (λ (e : End). HasLeft e.stage) (sym called) leaves.left))
  | inr k ↦ record {
    first = λ i w is waits. absurd (opened_not w k.after (sym k.stage ∙ ap (λ (e : End). e.stage) (sym called) ∙ waits));
    both = λ i j is other.
        let i_is : o ≡ i = same_open o i (sym o_is ∙ ap (λ (e : End). e.stage) (sym calling) ∙ is) in
        let j_is : m.stage ≡ Opened j = ap (λ (e : End). e.stage) (sym called) ∙ other in
        let here : HaveHeard now o j rest (p.back ++ m.tpdus) = still_heard p.clock now took o q j forth rest p.back m later h k j_is how in
        subst (λ (n : ℕ). HaveHeard n i j new.forth new.back) (sym clock)
        (subst (λ (x : InOpened). HaveHeard now x j new.forth new.back) i_is
        (subst (λ (l : List Sent). HaveHeard now o j l new.back) (sym forth_is) (subst (λ (l : List Sent). HaveHeard now o j rest l) (sym back) here)));
  }
]

-- the calling end did
calling_heard : (now : ℕ) (o q : InOpened) (p new : Pair) (m : Moved) (back rest : List Sent) (took : ℕ) → p.clock ≤ now → p.called.stage ≡ Opened q → new.clock ≡ now → new.called ≡ p.called
    → new.calling ≡ end_of m → new.back ≡ rest → new.forth ≡ p.forth ++ m.tpdus → HaveHeard p.clock o q p.forth back → (b : EndRecord) → RowDoes Any (Unit {0}) now took b o m
    → (took ≡ now) ⊎ ((took ≡ o.took) × (rest ≡ back)) → IsHeard new
calling_heard now o q p new m back rest took later q_is clock called calling back_is forth h b row how = elim row.does [
  | inl leaves ↦ parted_heard new (inl (subst (λ (e : End). HasLeft e.stage) (sym calling) leaves.left))
  | inr k ↦ record {
    first = λ i w is waits. absurd (opened_not w q (sym q_is ∙ ap (λ (e : End). e.stage) (sym called) ∙ waits));
    both = λ i j is other.
        let j_is : q ≡ j = same_open q j (sym q_is ∙ ap (λ (e : End). e.stage) (sym called) ∙ other) in
        let i_is : m.stage ≡ Opened i = ap (λ (e : End). e.stage) (sym calling) ∙ is in
        let here : HaveHeard now q i rest (p.forth ++ m.tpdus) = still_heard p.clock now took q o i back rest p.forth m later (turned p.clock o q p.forth back h) k i_is how in
        subst (λ (n : ℕ). HaveHeard n i j new.forth new.back) (sym clock)
        (subst (λ (x : InOpened). HaveHeard now i x new.forth new.back) j_is
        (turned now q i new.back new.forth
        (subst (λ (l : List Sent). HaveHeard now q i l new.forth) (sym back_is) (subst (λ (l : List Sent). HaveHeard now q i rest l) (sym forth) here))));
  }
]

-- ---- its rows

-- why it leaves does not count
forget : {Why : Type 0} (now took : ℕ) (b : EndRecord) (q : InOpened) (m : Moved) → RowDoes Any Why now took b q m → RowDoes Any (Unit {0}) now took b q m
forget {Why} now took b q m r = record {
  holding = r.holding;
  does = elim r.does [ inl gone ↦ inl (record { left = gone.left; why = tt; release = gone.release }) | inr on ↦ inr on ];
}

new : (tick : ℕ) → Any (once tick)
new tick = tt

takes_row : (now : ℕ) (y : End) (q : InOpened) (options : Options) (sent : Sent) (partner : ℕ) → y.stage ≡ Opened q → y.base.agreed ≡ Some options → sent.sum ≡ options.sum → IsDataFor partner sent.tpdu
    → RowDoes Any (Unit {0}) now now (at now y.base) q (stepped whole now y (Took sent.tpdu sent.sum))
takes_row now y q options sent partner is agreed sum kind =
    subst (λ (stage : StateData). RowDoes Any (Unit {0}) now now (at now y.base) q (takes whole now y.base stage sent.tpdu sent.sum)) (sym is)
    (subst (λ (wants : Bool). RowDoes Any (Unit {0}) now now (at now y.base) q (if wants then untaken y.base (Opened q) else on_tpdu whole (at now y.base) (Opened q) sent.tpdu))
    (sym (has_sum options y.base.agreed sent.sum agreed sum))
    (forget now now (at now y.base) q _ (data_does Any new (at now y.base) q partner sent.tpdu kind)))

calls_row : (now : ℕ) (y : End) (q : InOpened) (call : UserCall) → y.stage ≡ Opened q → RowDoes Any (Unit {0}) now q.took (at now y.base) q (stepped whole now y (Called call))
calls_row now y q call is =
    subst (λ (stage : StateData). RowDoes Any (Unit {0}) now q.took (at now y.base) q (on_call (at now y.base) stage call)) (sym is)
    (forget now q.took (at now y.base) q _ (call_does Any new (at now y.base) q call))

ticks_row : (now : ℕ) (y : End) (q : InOpened) (ticks : Bool) → y.stage ≡ Opened q → RowDoes Any (Unit {0}) now q.took (at now y.base) q (tick_of ticks now y)
ticks_row now y q true is =
    subst (λ (stage : StateData). RowDoes Any (Unit {0}) now q.took (at now y.base) q (on_tick (at now y.base) stage)) (sym is)
    (forget now q.took (at now y.base) q _ (tick_does Any new (at now y.base) q (λ tries. tt)))
ticks_row now y q false is = record {
  holding = record { timers = refl; agreed = refl };
  does = inr (record { after = q; stage = is; tried = λ h. h; took_is = refl; acked = inl refl });
}

-- ---- a step of the pair

module _ (p : Pair) (h : IsHeard p) where
  -- the CC waits, and nothing else
  confirming : (r : InCrWait) (w : InAkWait) (sent : Sent) → p.calling.stage ≡ CrWait r → p.called.stage ≡ AkWait w → p.forth ≡ [] → p.back ≡ sent ∷ [] → (happening : Happening) → May p happening
      → IsHeard (next p happening)
  confirming r w sent is waits forth back Comes_forth may = subst (λ (l : List Sent). IsHeard (comes_forth p l)) (sym forth) h
  confirming r w sent is waits forth back Comes_back may =
      let fresh : OpensFresh p.clock (stepped whole p.clock p.calling (Took sent.tpdu sent.sum)) =
      subst (λ (stage : StateData). OpensFresh p.clock (takes whole p.clock p.calling.base stage sent.tpdu sent.sum)) (sym is) (confirmed_fresh p.clock p.calling.base r sent.tpdu sent.sum) in
      subst (λ (l : List Sent). IsHeard (comes_back p l)) (sym back)
      (record {
        first = λ o v opened other. (let f = fresh o opened in (omega (arith, f.1), omega (arith, f.0)));
        both = λ o q opened other. absurd (waits_not w q (sym waits ∙ other));
      })
  confirming r w sent is waits forth back (Asks_calling call) may = absurd (some_waits sent [] p.back back may.0.back)
  confirming r w sent is waits forth back (Asks_called call) may = absurd (some_waits sent [] p.back back may.0.back)
  confirming r w sent is waits forth back (Clock calling called) may = absurd (some_waits sent [] p.back back may.back)

  -- the first AK waits, and nothing else
  answering : (o : InOpened) (w : InAkWait) (sent : Sent) (destination number credit subsequence : ℕ) (confirmation : Option (List ℕ)) → sent.tpdu ≡ Ak destination number credit subsequence confirmation
      → p.calling.stage ≡ Opened o → p.called.stage ≡ AkWait w → p.forth ≡ sent ∷ [] → p.back ≡ [] → (happening : Happening) → May p happening → IsHeard (next p happening)
  answering o w sent destination number credit subsequence confirmation tpdu is waits forth back Comes_forth may =
      let fresh : OpensFresh p.clock (stepped whole p.clock p.called (Took sent.tpdu sent.sum)) =
      subst (λ (stage : StateData). OpensFresh p.clock (takes whole p.clock p.called.base stage sent.tpdu sent.sum)) (sym waits)
      (subst (λ (t : Tpdu). OpensFresh p.clock (takes whole p.clock p.called.base (AkWait w) t sent.sum)) (sym tpdu)
      (answered_fresh p.clock p.called.base w destination number credit subsequence confirmation sent.sum)) in
      subst (λ (l : List Sent). IsHeard (comes_forth p l)) (sym forth)
      (record {
        first = λ i v opened other. h.first i w opened waits;
        both = λ i q opened other.
            let f = fresh q other in
            let old = h.first i w opened waits in
            record { mine = old.0; theirs = omega (arith, f.1); heard = inl (omega (arith, f.1, old.1)); hears = inl (omega (arith, f.0, old.0)) };
      })
  answering o w sent destination number credit subsequence confirmation tpdu is waits forth back Comes_back may = subst (λ (l : List Sent). IsHeard (comes_back p l)) (sym back) h
  answering o w sent destination number credit subsequence confirmation tpdu is waits forth back (Asks_calling call) may = absurd (some_waits sent [] p.forth forth may.0.forth)
  answering o w sent destination number credit subsequence confirmation tpdu is waits forth back (Asks_called call) may = absurd (some_waits sent [] p.forth forth may.0.forth)
  answering o w sent destination number credit subsequence confirmation tpdu is waits forth back (Clock calling called) may = absurd (some_waits sent [] p.forth forth may.forth)

  -- both are Opened
  module _ (o q : InOpened) (is : p.calling.stage ≡ Opened o) (other : p.called.stage ≡ Opened q)
      (b : AreBoth (party p.calling.base) (party p.called.base) o.halves q.halves p.forth p.back (forth_units p) (back_units p)) where
    now : HaveHeard p.clock o q p.forth p.back
    now = h.both o q is other

    forth_on : (l : List Sent) → p.forth ≡ l → IsHeard (comes_forth p l)
    forth_on [] e = h
    forth_on (sent ∷ rest) e =
        let waiting = subst (AreData b.one_rules) e b.forth_are in
        called_heard p.clock o q p (comes_forth p (sent ∷ rest)) (stepped whole p.clock p.called (Took sent.tpdu sent.sum)) (sent ∷ rest) rest p.clock (omega arith) is refl refl refl refl refl
        (subst (λ (l : List Sent). HaveHeard p.clock o q l p.back) e now) (at p.clock p.called.base)
        (takes_row p.clock p.called q b.options sent b.one_rules.partner other b.other.agreed_is (waiting.0.sum ∙ b.one.sum) waiting.0.kind) (inl refl)

    back_on : (l : List Sent) → p.back ≡ l → IsHeard (comes_back p l)
    back_on [] e = h
    back_on (sent ∷ rest) e =
        let waiting = subst (AreData b.other_rules) e b.back_are in
        calling_heard p.clock o q p (comes_back p (sent ∷ rest)) (stepped whole p.clock p.calling (Took sent.tpdu sent.sum)) (sent ∷ rest) rest p.clock (omega arith) other refl refl refl refl refl
        (subst (λ (l : List Sent). HaveHeard p.clock o q p.forth l) e now) (at p.clock p.calling.base)
        (takes_row p.clock p.calling o b.options sent b.other_rules.partner is b.one.agreed_is (waiting.0.sum ∙ b.other.sum) waiting.0.kind) (inl refl)

    clock_on : (calling called : Bool) → IsHeard (next p (Clock calling called))
    clock_on calling called = elim (ticks_row (p.clock + 1) p.calling o calling is).does [
      | inl leaves ↦ parted_heard (next p (Clock calling called)) (inl leaves.left)
      | inr k ↦
          (let m : Moved = tick_of calling (p.clock + 1) p.calling in
          let n : Moved = tick_of called (p.clock + 1) p.called in
          let mid : Pair = record p { clock = p.clock + 1; calling = end_of m; forth = p.forth ++ m.tpdus } in
          let first_on : HaveHeard (p.clock + 1) q k.after p.back (p.forth ++ m.tpdus) =
          still_heard p.clock (p.clock + 1) o.took q o k.after p.back p.back p.forth m (omega arith) (turned p.clock o q p.forth p.back now) k k.stage (inr (refl, refl)) in
          called_heard (p.clock + 1) k.after q mid (next p (Clock calling called)) n (p.forth ++ m.tpdus) (p.forth ++ m.tpdus) q.took (omega arith) k.stage refl refl refl refl refl
          (turned (p.clock + 1) q k.after p.back (p.forth ++ m.tpdus) first_on) (at (p.clock + 1) p.called.base) (ticks_row (p.clock + 1) p.called q called other) (inr (refl, refl)))
    ]

    both_on : (happening : Happening) → May p happening → IsHeard (next p happening)
    both_on Comes_forth may = forth_on p.forth refl
    both_on Comes_back may = back_on p.back refl
    both_on (Asks_called call) may =
        called_heard p.clock o q p (next p (Asks_called call)) (stepped whole p.clock p.called (Called call)) p.forth p.forth q.took (omega arith) is refl refl refl refl refl now (at p.clock p.called.base)
        (calls_row p.clock p.called q call other) (inr (refl, refl))
    both_on (Asks_calling call) may =
        calling_heard p.clock o q p (next p (Asks_calling call)) (stepped whole p.clock p.calling (Called call)) p.back p.back o.took (omega arith) other refl refl refl refl refl now (at p.clock p.calling.base)
        (calls_row p.clock p.calling o call is) (inr (refl, refl))
    both_on (Clock calling called) may = clock_on calling called

step_heard : (p : Pair) (happening : Happening) → Stands p → IsHeard p → May p happening → IsHeard (next p happening)
step_heard p happening (Left left) h may = parted_heard (next p happening) (parted_after p (next p happening) (happening ∷ []) left (may, refl))
step_heard p happening (Confirming r w is waits fresh c) h may = confirming p h r w (confirm p.called.base c.options c.octets) is waits c.forth_is c.back_is happening may
step_heard p happening (First o w is waits f) h may = answering p h o w (ak o.halves.receiving) _ _ _ _ _ refl is waits f.forth_is f.back_is happening may
step_heard p happening (Both o q is other b) h may = both_on p h o q is other b happening may

after_heard : (happenings : List Happening) (p last : Pair) → Stands p → IsHeard p → Leads p happenings last → IsHeard last
after_heard [] p last stands h leads = subst IsHeard (sym leads) h
after_heard (happening ∷ happenings) p last stands h leads =
    after_heard happenings (next p happening) last (stands_on p happening stands leads.0) (step_heard p happening stands h leads.0) leads.1

-- ---- from the accept on

-- no end is Opened yet
asked_heard : (p : Pair) (r : InCrWait) → p.calling.stage ≡ CrWait r → IsHeard p
asked_heard p r is = record { first = λ o w opened waits. absurd (request_not r o (sym is ∙ opened)); both = λ o q opened other. absurd (request_not r o (sym is ∙ opened)) }
  where
    request_not : (r : InCrWait) (o : InOpened) → CrWait r ≡ Opened o → ⊥
    request_not r o e = cc e

-- where nothing waits each heard what the other said last
pub idle_heard : (first last : Pair) (asked : Options) (octets : List ℕ) (happenings : List Happening) (o q : InOpened) → Accepts first asked → Leads (next first (Asks_called (Accept asked octets))) happenings last
    → IsIdle last → last.calling.stage ≡ Opened o → last.called.stage ≡ Opened q → (q.acked ≤ o.took) × (o.acked ≤ q.took)
idle_heard first last asked octets happenings o q a leads idle is other =
    let start : Pair = next first (Asks_called (Accept asked octets)) in
    let all : IsHeard last = after_heard happenings start last (accepts_stands first asked octets a) (asked_heard start a.request a.calling) leads in
    let both = all.both o q is other in (
      elim both.heard [ inl heard ↦ heard | inr waits ↦ absurd (omega (arith, waits, ap length idle.back)) ],
      elim both.hears [ inl heard ↦ heard | inr waits ↦ absurd (omega (arith, waits, ap length idle.forth)) ],
    )
