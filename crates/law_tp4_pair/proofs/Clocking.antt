-- A tick of Opened ends, where nothing waits: AKs by the window timer, and new sends of what the number rule held back.
use Rattle.std.proofs.Common.{◌≡◌, ℕ, ◌+◌, nat_le, Bool, true, false, List, [], ◌∷◌, ◌++◌, refl, sym, ◌∙◌, ap, subst, append-nil, inl, inr, ◌⊎◌}
use Rattle.tp4_flow.specs.ReceivingHalf.{Half, ak}
use Rattle.tp4_flow.specs.declared.rules.FlowRules.{FlowRules}
use Rattle.tp4_flow.specs.declared.rules.Life.{Life}
use Rattle.tp4_flow.specs.declared.step.Sent.{Sent}
use Rattle.tp4_number.proofs.Past.{if_kept}
use Rattle.tp4_sending.specs.SendingHalf.{FlowSender, Sendings, at, nothing, ticked}
use Rattle.tp4_conn.specs.declared.end_record.EndRecord.{EndRecord}
use Rattle.tp4_conn.specs.declared.halves.Halves.{Halves}
use Rattle.tp4_conn.specs.declared.states.InOpened.{InOpened}
use Rattle.tp4_conn.specs.declared.states.StateData.TheVariants.{Opened}
use Rattle.tp4_conn.specs.End.{Moved, stays}
use Rattle.tp4_conn.specs.Opened.{opened_as, opened_goes, opened_tick}
use Rattle.script_journal.specs.Lawful.{Marked}
use Rattle.tp4_flow.specs.declared.step.EndEvent.{EndEvent}
use Rattle.law_tp4_history.specs.Lines.{shown_in}
use Rattle.law_tp4_pair.specs.Pair.{Account}
use Rattle.law_tp4_pair.specs.Carrying.{Carries, pieces_in, units_in}
use Rattle.law_tp4_pair.proofs.Carried.{pieces_then, units_then}
use Rattle.law_tp4_pair.specs.Waiting.{AreData, View, dts_in, eds_in, aks_in, eas_in}
use Rattle.law_tp4_pair.specs.Flowing.{IsCalm}
use Rattle.law_tp4_pair.specs.Standing.{IsAgreed, HasLeft, AreBoth, Party, party}
use Rattle.law_tp4_pair.proofs.Acting.{agreed_on, carried_to, leaves_there, sends_here}
use Rattle.law_tp4_pair.proofs.Going.{calm_at}
use Rattle.law_tp4_pair.proofs.Granting.{ak_repeated}
use Rattle.law_tp4_pair.proofs.Hearing.{CalmAfter, from_at, none_calm}
use Rattle.law_tp4_pair.proofs.Ticking.{ticked_calm}
use Rattle.law_tp4_pair.proofs.Wires.{data_then}

-- an AK that says what was said, or none
abbrev repeats : Bool → Half → List Sent
repeats true h = ak h ∷ []
repeats false h = []

-- an end stays Opened over a tick: its sending half makes the new sends that it may, and an AK says again what was said
pub record Ticks (b : EndRecord) (o : InOpened) (h : Half) (m : Moved) : Type 0 where
  pub base : party m.base ≡ party b
  pub after : InOpened
  pub stage : m.stage ≡ Opened after
  pub x : Sendings
  pub repeats_it : Bool
  pub sender : after.halves.sending ≡ x.sender
  pub half : after.halves.receiving ≡ o.halves.receiving
  pub tpdus : m.tpdus ≡ x.tpdus ++ repeats repeats_it o.halves.receiving
  pub calm : CalmAfter o.halves.sending [] x h [] [] [] []
  pub quiet : shown_in m.events ≡ []

goes_on : (b : EndRecord) (o : InOpened) (h : Half) (x : Sendings) → CalmAfter o.halves.sending [] x h [] [] [] [] → Ticks b o h (opened_goes b o x)
goes_on b o h x c =
    if_kept (Ticks b o h) (nat_le (o.acked + b.timers.window) b.clock) _ _
    (λ _. record {
      base = refl;
      after = record o { acked = b.clock; halves = record o.halves { sending = x.sender } };
      stage = refl;
      x = x;
      repeats_it = true;
      sender = refl;
      half = refl;
      tpdus = refl;
      calm = c;
      quiet = ap shown_in (append-nil x.events) ∙ c.quiet;
    })
    (λ _. record {
      base = refl;
      after = record o { halves = record o.halves { sending = x.sender } };
      stage = refl;
      x = x;
      repeats_it = false;
      sender = refl;
      half = refl;
      tpdus = sym (append-nil x.tpdus);
      calm = c;
      quiet = c.quiet;
    })

pub has_tick : (b : EndRecord) (o : InOpened) (h : Half) → IsCalm o.halves.sending h [] [] [] [] → HasLeft (opened_tick b o).stage ⊎ Ticks b o h (opened_tick b o)
unfolding opened_tick
has_tick b o h c =
    if_kept (λ (m : Moved). HasLeft m.stage ⊎ Ticks b o h m) (nat_le (o.took + b.timers.inactive) b.clock) _ _
    (λ _. inl tt)
    (λ _. let t = ticked_calm (at b.clock o.halves.sending) h (calm_at b.clock o.halves.sending h [] [] [] [] c) in
    subst (λ (l : Life). HasLeft (opened_as l b o).stage ⊎ Ticks b o h (opened_as l b o)) (sym t.0) (inr (goes_on b o h (ticked (at b.clock o.halves.sending)) (from_at b.clock o.halves.sending [] (ticked (at b.clock o.halves.sending)) h [] [] [] [] t.1))))

pub has_none : (b : EndRecord) (o : InOpened) (h : Half) → IsCalm o.halves.sending h [] [] [] [] → Ticks b o h (stays b (Opened o))
has_none b o h c = record {
  base = refl;
  after = o;
  stage = refl;
  x = nothing o.halves.sending;
  repeats_it = false;
  sender = refl;
  half = refl;
  tpdus = refl;
  calm = none_calm o.halves.sending h [] [] [] [] c;
  quiet = refl;
}

-- one direction: the sender ticks, and the AK of the receiver says what was said
ticks_flow : (s : FlowSender) (x : Sendings) (h : Half) (again : Bool) (l : List Sent) → CalmAfter s [] x h [] [] [] [] → aks_in l ≡ [] → eas_in l ≡ []
    → IsCalm x.sender h (dts_in x.tpdus) (eds_in x.tpdus) (aks_in (l ++ repeats again h)) (eas_in (l ++ repeats again h))
ticks_flow s x h again l c a e =
    sends_here x.sender h (dts_in x.tpdus) (eds_in x.tpdus) l (repeats again h)
    (subst (λ (v : List View). IsCalm x.sender h (dts_in x.tpdus) (eds_in x.tpdus) (v ++ aks_in (repeats again h)) (eas_in l ++ eas_in (repeats again h))) (sym a)
    (subst (λ (v : List ℕ). IsCalm x.sender h (dts_in x.tpdus) (eds_in x.tpdus) (aks_in (repeats again h)) (v ++ eas_in (repeats again h))) (sym e) (by again)))
  where
    by : (again : Bool) → IsCalm x.sender h (dts_in x.tpdus) (eds_in x.tpdus) (aks_in (repeats again h)) (eas_in (repeats again h))
    by true = ak_repeated x.sender h (dts_in x.tpdus) (eds_in x.tpdus) [] c.calm
    by false = c.calm

-- what repeats is neither a DT nor an ED
repeats_there : (s : FlowSender) (h half : Half) (again : Bool) (l : List Sent) (aks : List View) (eas : List ℕ) → IsCalm s h (dts_in l) (eds_in l) aks eas
    → IsCalm s h (dts_in (l ++ repeats again half)) (eds_in (l ++ repeats again half)) aks eas
repeats_there s h half true l aks eas c = leaves_there s h l (ak half ∷ []) aks eas refl refl c
repeats_there s h half false l aks eas c = leaves_there s h l [] aks eas refl refl c

repeats_data : (half : Half) (again : Bool) → AreData half.rules (repeats again half)
repeats_data half true = (record { to = refl; format = refl; sum = refl; kind = refl }, tt)
repeats_data half false = tt

-- what is carried over a tick
repeats_pieces : (half : Half) (again : Bool) (l : List Sent) → pieces_in (l ++ repeats again half) ≡ pieces_in l
repeats_pieces half true l = pieces_then l (ak half ∷ []) ∙ append-nil (pieces_in l)
repeats_pieces half false l = ap pieces_in (append-nil l)

repeats_units : (half : Half) (again : Bool) (l : List Sent) → units_in (l ++ repeats again half) ≡ units_in l
repeats_units half true l = units_then l (ak half ∷ []) ∙ append-nil (units_in l)
repeats_units half false l = ap units_in (append-nil l)

ticks_carry : (s : FlowSender) (x : Sendings) (h half : Half) (again : Bool) (u : Account) (events : List EndEvent) → CalmAfter s [] x h [] [] [] [] → shown_in events ≡ [] → Carries s h [] [] u.gave u.showed
    → Carries x.sender h (pieces_in (x.tpdus ++ repeats again half)) (units_in (x.tpdus ++ repeats again half)) u.gave (u.showed ++ shown_in events)
ticks_carry s x h half again u events a quiet c =
    carried_to x.sender h _ _ _ _ _ _ _ _ (sym (repeats_pieces half again x.tpdus)) (sym (repeats_units half again x.tpdus)) (append-nil u.gave)
    (sym (ap (λ (l : List Marked). u.showed ++ l) quiet ∙ append-nil u.showed)) (a.carried [] [] u.gave u.showed refl refl (record {}) c)

-- both ends
pub both_tick : (b c : EndRecord) (o q : InOpened) (m n : Moved) (v w : Account) → AreBoth (party b) (party c) o.halves q.halves [] [] v w → (t : Ticks b o q.halves.receiving m) (u : Ticks c q o.halves.receiving n)
    → AreBoth (party m.base) (party n.base) t.after.halves u.after.halves m.tpdus n.tpdus (record v { showed = v.showed ++ shown_in n.events }) (record w { showed = w.showed ++ shown_in m.events })
both_tick b c o q m n v w both t u =
    let v' : Account = record v { showed = v.showed ++ shown_in n.events } in
    let w' : Account = record w { showed = w.showed ++ shown_in m.events } in
    subst (λ (l : List Sent). AreBoth (party m.base) (party n.base) t.after.halves u.after.halves l n.tpdus v' w') (sym t.tpdus)
    (subst (λ (l : List Sent). AreBoth (party m.base) (party n.base) t.after.halves u.after.halves (t.x.tpdus ++ repeats t.repeats_it o.halves.receiving) l v' w') (sym u.tpdus)
    (subst (λ (k : Halves). AreBoth (party m.base) (party n.base) k u.after.halves (t.x.tpdus ++ repeats t.repeats_it o.halves.receiving) (u.x.tpdus ++ repeats u.repeats_it q.halves.receiving) v' w')
    (λ i. record { sending = sym t.sender i; receiving = sym t.half i })
    (subst (λ (k : Halves). AreBoth (party m.base) (party n.base) (record { sending = t.x.sender; receiving = o.halves.receiving }) k (t.x.tpdus ++ repeats t.repeats_it o.halves.receiving) (u.x.tpdus ++ repeats u.repeats_it q.halves.receiving) v' w')
    (λ i. record { sending = sym u.sender i; receiving = sym u.half i })
    (record {
      options = both.options;
      one_rules = both.one_rules;
      other_rules = both.other_rules;
      one = subst (λ (who : Party). IsAgreed both.options both.one_rules who (record { sending = t.x.sender; receiving = o.halves.receiving })) (sym t.base)
          (agreed_on both.options both.one_rules (party b) o.halves (record { sending = t.x.sender; receiving = o.halves.receiving }) t.calm.rules_are refl both.one);
      other = subst (λ (who : Party). IsAgreed both.options both.other_rules who (record { sending = u.x.sender; receiving = q.halves.receiving })) (sym u.base)
          (agreed_on both.options both.other_rules (party c) q.halves (record { sending = u.x.sender; receiving = q.halves.receiving }) u.calm.rules_are refl both.other);
      partner = ap (λ (who : Party). who.partner) t.base ∙ both.partner ∙ ap (λ (who : Party). who.own) (sym u.base);
      partner_back = ap (λ (who : Party). who.partner) u.base ∙ both.partner_back ∙ ap (λ (who : Party). who.own) (sym t.base);
      forth_are = data_then both.one_rules t.x.tpdus _ (subst (λ (r : FlowRules). AreData r t.x.tpdus) both.one.sending t.calm.data_are)
          (subst (λ (r : FlowRules). AreData r (repeats t.repeats_it o.halves.receiving)) both.one.receiving (repeats_data o.halves.receiving t.repeats_it));
      back_are = data_then both.other_rules u.x.tpdus _ (subst (λ (r : FlowRules). AreData r u.x.tpdus) both.other.sending u.calm.data_are)
          (subst (λ (r : FlowRules). AreData r (repeats u.repeats_it q.halves.receiving)) both.other.receiving (repeats_data q.halves.receiving u.repeats_it));
      there = repeats_there t.x.sender q.halves.receiving o.halves.receiving t.repeats_it t.x.tpdus _ _
          (ticks_flow o.halves.sending t.x q.halves.receiving u.repeats_it u.x.tpdus t.calm u.calm.aks_none u.calm.eas_none);
      here = repeats_there u.x.sender o.halves.receiving q.halves.receiving u.repeats_it u.x.tpdus _ _
          (ticks_flow q.halves.sending u.x o.halves.receiving t.repeats_it t.x.tpdus u.calm t.calm.aks_none t.calm.eas_none);
      carried_there = ticks_carry o.halves.sending t.x q.halves.receiving o.halves.receiving t.repeats_it v n.events t.calm u.quiet both.carried_there;
      carried_here = ticks_carry q.halves.sending u.x o.halves.receiving q.halves.receiving u.repeats_it w m.events u.calm t.quiet both.carried_here;
    }))))
