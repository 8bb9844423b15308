-- A call of the user of an Opened end, where nothing waits.
use Rattle.std.proofs.Common.{◌≡◌, ℕ, ◌==◌, Bool, true, false, if◌then◌else◌, List, [], ◌∷◌, ◌++◌, Option, Some, None, refl, sym, subst, inl, inr, append-nil, arith, length, ◌<◌}
use Rattle.std.proofs.lemmas.Bool.{eqb-false, eqb-true}
use Rattle.tp4_flow.specs.ReceivingHalf.{Half, ak, half_granted}
use Rattle.tp4_flow.specs.declared.step.Sent.{Sent}
use Rattle.tpdu.specs.declared.service.EndTold.TheVariants.{Window as WindowTold}
use Rattle.tp4_sending.specs.SendingHalf.{Sendings, at, submitted, urged}
use Rattle.tp4_conn.specs.declared.end_record.EndRecord.{EndRecord}
use Rattle.tp4_conn.specs.declared.call.UserCall.{UserCall}
use Rattle.tp4_conn.specs.declared.call.UserCall.TheVariants.{Normal, Urgent, Window, Disconnect}
use Rattle.tp4_conn.specs.declared.halves.Halves.{Halves}
use Rattle.tp4_conn.specs.declared.states.InOpened.{InOpened}
use Rattle.tp4_conn.specs.declared.states.StateData.TheVariants.{Opened}
use Rattle.tp4_conn.specs.End.{tell}
use Rattle.tp4_conn.specs.Opened.{sending, receiving, acking}
use Rattle.tp4_conn.specs.Table.{Called, on_call}
use Rattle.script_journal.specs.Lawful.{Marked, normals, Normal as NormalUnit, Expedited as ExpeditedUnit}
use Rattle.tp4_flow.specs.declared.rules.SubmitRefusal.{SubmitRefusal}
use Rattle.tp4_flow.specs.declared.rules.SubmitRefusal.TheVariants.{EmptyUnit}
use Rattle.tp4_conn.specs.Calls.{call_refusal, unit_refusal}
use Rattle.law_tp4_history.specs.Complete.{AllFull}
use Rattle.law_tp4_history.specs.Lines.{given}
use Rattle.law_tp4_pair.specs.Pair.{Account}
use Rattle.law_tp4_pair.specs.Carrying.{Carries}
use Rattle.law_tp4_pair.proofs.Carried.{half_carry}
use Rattle.law_tp4_pair.specs.Standing.{AreBoth, Party, party}
use Rattle.law_tp4_pair.proofs.Acting.{sending_on, receiving_on, Continues}
use Rattle.law_tp4_pair.proofs.Calling.{submitted_calm, urged_calm}
use Rattle.law_tp4_pair.proofs.Going.{calm_at}
use Rattle.law_tp4_pair.proofs.Granting.{granted_begun, granted_calm, unchanged_calm}
use Rattle.law_tp4_pair.proofs.Hearing.{CalmAfter, from_at}

module _ (first : Party) (h : Halves) (b : EndRecord) (o : InOpened) (u v : Account) (both : AreBoth first (party b) h o.halves [] [] u v) where
  sends_goes : (added : List Marked) (x : Sendings) → AllFull (normals added) → CalmAfter (at b.clock o.halves.sending) added x h.receiving [] [] [] []
      → Continues first h (sending b o x) [] [] u (record v { gave = v.gave ++ added })
  sends_goes added x full a = inr (record {
    after = record o { halves = record o.halves { sending = x.sender } };
    stage = refl;
    both = sending_on first (party b) h o.halves [] [] [] u v added x both tt both.there both.carried_there full (from_at b.clock o.halves.sending added x h.receiving [] [] [] [] a);
  })

  adds_nothing : (k : Halves) (back : List Sent) (w : Account) → AreBoth first (party b) h k [] back w v → AreBoth first (party b) h k [] back w (record v { gave = v.gave ++ [] })
  adds_nothing k back w c = subst (λ (l : List Marked). AreBoth first (party b) h k [] back w (record v { gave = l })) (sym (append-nil v.gave)) c

  -- a new credit
  grant_carries : (credit : ℕ) → Carries h.sending (half_granted o.halves.receiving credit) [] [] u.gave (u.showed ++ [])
  grant_carries credit = subst (λ (l : List Marked). Carries h.sending (half_granted o.halves.receiving credit) [] [] u.gave l) (sym (append-nil u.showed))
      (half_carry h.sending o.halves.receiving (half_granted o.halves.receiving credit) [] [] u.gave u.showed refl (granted_begun o.halves.receiving credit) both.carried_there)

  grant_goes : (credit : ℕ) (same : Bool) → (half_granted o.halves.receiving credit).receiver.inbox.credit == o.halves.receiving.receiver.inbox.credit ≡ same
      → Continues first h (if same
      then receiving b o (record { half = half_granted o.halves.receiving credit; events = tell b (WindowTold (half_granted o.halves.receiving credit).receiver.inbox.credit) ∷ []; tpdus = [] })
      else receiving b (acking b o) (record { half = half_granted o.halves.receiving credit; events = tell b (WindowTold (half_granted o.halves.receiving credit).receiver.inbox.credit) ∷ []; tpdus = ak (half_granted o.halves.receiving credit) ∷ [] })) [] [] u (record v { gave = v.gave ++ [] })
  grant_goes credit true e =
      let new : Half = half_granted o.halves.receiving credit in
      inr (record {
        after = record o { halves = record o.halves { receiving = new } };
        stage = refl;
        both = adds_nothing (record o.halves { receiving = new }) [] (record u { showed = u.showed ++ [] })
            (receiving_on first (party b) h o.halves [] [] [] u v new [] [] both tt refl tt refl refl (unchanged_calm h.sending o.halves.receiving credit (eqb-true _ _ e) both.there) both.here (grant_carries credit));
      })
  grant_goes credit false e =
      let new : Half = half_granted o.halves.receiving credit in
      inr (record {
        after = record (acking b o) { halves = record o.halves { receiving = new } };
        stage = refl;
        both = adds_nothing (record o.halves { receiving = new }) (ak new ∷ []) (record u { showed = u.showed ++ [] })
            (receiving_on first (party b) h o.halves [] [] [] u v new [] (ak new ∷ []) both tt refl (record { to = refl; format = refl; sum = refl; kind = refl }, tt) refl refl (granted_calm h.sending o.halves.receiving credit both.there) both.here (grant_carries credit));
      })

  stays_open : Continues first h (record { base = b; stage = Opened o; events = []; tpdus = [] }) [] [] u (record v { gave = v.gave ++ [] })
  stays_open = inr (record {
    after = o;
    stage = refl;
    both = adds_nothing o.halves [] (record u { showed = u.showed ++ [] }) (subst (λ (l : List Marked). AreBoth first (party b) h o.halves [] [] (record u { showed = l }) v) (sym (append-nil u.showed)) both);
  })

  -- a normal unit that is not refused has octets
  has_octets : (n : ℕ) (none : Bool) (other : Option SubmitRefusal) → (n == 0) ≡ none → unit_refusal (if none then Some EmptyUnit else other) ≡ None → 0 < n
  has_octets n true other e f = absurd (cc f)
  has_octets n false other e f = let some : n ≡ 0 → ⊥ = eqb-false n 0 e in omega (arith, some)

  pub asked : (call : UserCall) → call_refusal b (Opened o) call ≡ None → Continues first h (on_call b (Opened o) call) [] [] u (record v { gave = v.gave ++ given (Called call) })
  asked (Normal unit) fits = sends_goes (NormalUnit unit ∷ []) (submitted (at b.clock o.halves.sending) unit) (has_octets (length unit) (length unit == 0) _ refl fits, record {})
      (submitted_calm (at b.clock o.halves.sending) h.receiving [] [] [] unit (calm_at b.clock o.halves.sending h.receiving [] [] [] [] both.here))
  asked (Urgent unit) fits = sends_goes (ExpeditedUnit unit ∷ []) (urged (at b.clock o.halves.sending) unit) (record {})
      (urged_calm (at b.clock o.halves.sending) h.receiving [] [] [] unit (calm_at b.clock o.halves.sending h.receiving [] [] [] [] both.here))
  asked (Window credit) fits = grant_goes credit ((half_granted o.halves.receiving credit).receiver.inbox.credit == o.halves.receiving.receiver.inbox.credit) refl
  asked (Disconnect octets) fits = inl tt
  asked other fits = stays_open
