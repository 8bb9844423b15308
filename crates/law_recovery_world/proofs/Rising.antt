-- What an Opened end knows only rises, from what its sending half began with on: an AK that is older than what it knows is not taken.
use Rattle.std.proofs.Common.{◌≡◌, inl, inr, ℕ, ◌+◌, ◌≤◌, ◌==◌, ◌&&◌, ◌||◌, nat_lt, nat_le, not, Bool, true, false, List, Option, refl, sym, ◌∙◌, ap, subst, arith}
use Rattle.std.proofs.lemmas.Bool.{and_parts, eqb-true, ltb-true}
use Rattle.tpdu.specs.declared.tpdu.Tpdu.TheVariants.{Ak}
use Rattle.tp4_number.specs.Number.{near, whole}
use Rattle.tp4_number.specs.Sender.{Sender, is_newer}
use Rattle.tp4_number.proofs.Past.{if_kept}
use Rattle.law_recovery_pair.specs.Views.{Further, IsNoOlder, Later, View, Wider}
use Rattle.law_recovery_pair.proofs.Older.{older_then, same_view}
use Rattle.tp4_sending.specs.SendingHalf.{FlowSender, Sendings, acknowledged, acknowledged_to, at, block_in, is_taken, new_sends, opened}
use Rattle.law_recovery_pair.specs.Viewing.{KeepsView}
use Rattle.law_recovery_pair.proofs.Viewing.{new_keep, open_keep, told_is}
use Rattle.tp4_conn.specs.declared.end_record.EndRecord.{EndRecord}
use Rattle.tp4_conn.specs.declared.states.StateData.{StateData}
use Rattle.tp4_conn.specs.declared.states.StateData.TheVariants.{CrWait, AkWait, Opened}
use Rattle.tp4_conn.specs.AkWait.{ak_wait_tpdu}
use Rattle.tp4_conn.specs.Closing.{closing_tpdu}
use Rattle.tp4_conn.specs.CrWait.{cr_wait_tpdu}
use Rattle.tp4_conn.specs.End.{End, Moved}
use Rattle.tp4_conn.specs.Matching.{wants_sum}
use Rattle.tp4_conn.specs.Opened.{opened_tpdu}
use Rattle.tp4_conn.specs.Table.{Called, Event, Ticked, Took, at as now_at, on_tpdu, stepped}
use Rattle.tp4_conn.specs.WaitBeforeClose.{wait_before_close_tpdu}
use Rattle.law_recovery_ends.specs.Knowing.{IsFreshView, RowKnows, SaysAk, StageKnows, ViewIn}
use Rattle.law_recovery_world.specs.Steady.{StageRises, knows_of}

-- ---- an AK

newer_is : (s : Sender) (n credit subsequence : ℕ) → is_newer s n credit subsequence ≡ true
    → IsNoOlder (record { number = s.base; credit = s.credit; subsequence = s.subsequence }) (record { number = n; credit = credit; subsequence = subsequence })
newer_is s n credit subsequence e = by (nat_lt s.base n) refl e
  where
    Goal : Type 0
    Goal = IsNoOlder (record { number = s.base; credit = s.credit; subsequence = s.subsequence }) (record { number = n; credit = credit; subsequence = subsequence })

    same_number : (b : Bool) → nat_lt s.subsequence subsequence ≡ b → s.base ≡ n → (b || subsequence == s.subsequence && nat_lt s.credit credit) ≡ true → Goal
    same_number true at same e = Later same (ltb-true s.subsequence subsequence at)
    same_number false at same e =
        let both = and_parts (subsequence == s.subsequence) (nat_lt s.credit credit) e in
        Wider same (sym (eqb-true subsequence s.subsequence both.0)) (omega (arith, ltb-true s.credit credit both.1))

    by : (b : Bool) → nat_lt s.base n ≡ b → (b || n == s.base && (nat_lt s.subsequence subsequence || subsequence == s.subsequence && nat_lt s.credit credit)) ≡ true → Goal
    by true at e = Further (ltb-true s.base n at)
    by false at e =
        let both = and_parts (n == s.base) (nat_lt s.subsequence subsequence || subsequence == s.subsequence && nat_lt s.credit credit) e in
        same_number (nat_lt s.subsequence subsequence) refl (sym (eqb-true n s.base both.0)) both.1

ak_rises : (s : FlowSender) (w credit subsequence : ℕ) → IsNoOlder (knows_of s) (knows_of (acknowledged s w credit subsequence).sender)
ak_rises s w credit subsequence =
    let n = near (block_in s) s.numbers.base w in
    if_kept (λ (y : Sendings). IsNoOlder (knows_of s) (knows_of y.sender)) (is_taken s n credit subsequence) _ _
    (λ taken.
    let is = told_is s n credit subsequence taken in
    let t : FlowSender = acknowledged_to s n credit subsequence in
    let r : KeepsView t (new_sends t).sender = new_keep t (subst (λ (m : Sender). m.next ≤ m.base + m.credit) (sym is) (omega arith)) in
    let view : knows_of (new_sends t).sender ≡ record { number = n; credit = credit; subsequence = subsequence } = λ i. record {
      number = (r.base ∙ ap (λ (m : Sender). m.base) is) i;
      credit = (r.credit ∙ ap (λ (m : Sender). m.credit) is) i;
      subsequence = (r.subsequence ∙ ap (λ (m : Sender). m.subsequence) is) i;
    } in
    subst (λ (v : View). IsNoOlder (knows_of s) v) (sym view)
    (newer_is s.numbers n credit subsequence (and_parts (nat_le n s.numbers.blocks.high) (is_newer s.numbers n credit subsequence) taken).1))
    (λ _. same_view (knows_of s))

module _ (credit : ℕ) where
  abbrev first : View
  first = record { number = 0; credit = credit; subsequence = 0 }

  fresh_rises : (t : FlowSender) → IsFreshView credit t → IsNoOlder first (knows_of t)
  fresh_rises t f = Wider (sym f.base) (sym f.subsequence) (omega (arith, f.credit_is))

  kept_rises : (s t : FlowSender) → KeepsView s t → IsNoOlder first (knows_of s) → IsNoOlder first (knows_of t)
  kept_rises s t k was =
      let same : knows_of s ≡ knows_of t = λ i. record { number = sym k.base i; credit = sym k.credit i; subsequence = sym k.subsequence i } in
      subst (λ (v : View). IsNoOlder first v) same was

  -- it is taken, or not
  ak_row : (b : EndRecord) (stage : StateData) (destination number given subsequence : ℕ) (confirmation : Option (List ℕ)) → StageKnows credit stage → StageRises credit stage
      → StageRises credit (on_tpdu whole b stage (Ak destination number given subsequence confirmation)).stage
  unfolding opened_tpdu ak_wait_tpdu cr_wait_tpdu wait_before_close_tpdu closing_tpdu
  ak_row b (Opened o) destination number given subsequence confirmation knows was = older_then first (knows_of o.halves.sending) _ was (ak_rises (at b.clock o.halves.sending) number given subsequence)
  ak_row b (AkWait w) destination number given subsequence confirmation knows was =
      let k : FlowSender = at b.clock w.halves.sending in
      let t : FlowSender = (opened k).sender in
      older_then first (knows_of t) _ (kept_rises k t (open_keep k knows.edge) (fresh_rises w.halves.sending knows)) (ak_rises (at b.clock t) number given subsequence)
  ak_row b other destination number given subsequence confirmation knows was = tt

  -- ---- anything else

  abbrev IsNoAk : Event → Type 0
  IsNoAk event = (w given subsequence : ℕ) → SaysAk event w given subsequence → ⊥

  other_view : (old : StateData) (event : Event) (t : FlowSender) → IsNoAk event → StageRises credit old → ViewIn credit old event t → IsNoOlder first (knows_of t)
  other_view (AkWait w) event t none was (inl fresh) = fresh_rises t fresh
  other_view (AkWait w) event t none was (inr heard) = absurd (none heard.w heard.credit heard.subsequence heard.says)
  other_view (Opened o) event t none was (inl keeps) = kept_rises o.halves.sending t keeps was
  other_view (Opened o) event t none was (inr heard) = absurd (none heard.w heard.credit heard.subsequence heard.says)
  other_view (CrWait w) event t none was fresh = fresh_rises t fresh
  other_view other event t none was fresh = fresh_rises t fresh

  other_row : (old : StateData) (event : Event) (new : StateData) → IsNoAk event → StageRises credit old → RowKnows credit old event new → StageRises credit new
  other_row old event (Opened o) none was row = other_view old event o.halves.sending none was row
  other_row old event other none was row = tt

  pub row_rises : (now : ℕ) (e : End) (event : Event) → StageKnows credit e.stage → StageRises credit e.stage → RowKnows credit e.stage event (stepped whole now e event).stage
      → StageRises credit (stepped whole now e event).stage
  row_rises now e (Took (Ak destination number given subsequence confirmation) sum) knows was row =
      if_kept (λ (m : Moved). StageRises credit m.stage) (wants_sum e.base e.stage (Ak destination number given subsequence confirmation) && not sum) _ _
      (λ _. was) (λ _. ak_row (now_at now e.base) e.stage destination number given subsequence confirmation knows was)
  row_rises now e (Took other sum) knows was row = other_row e.stage _ _ (λ _ _ _ s. s) was row
  row_rises now e (Called call) knows was row = other_row e.stage (Called call) _ (λ _ _ _ s. s) was row
  row_rises now e Ticked knows was row = other_row e.stage Ticked _ (λ _ _ _ s. s) was row
