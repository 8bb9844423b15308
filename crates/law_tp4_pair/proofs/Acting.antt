-- What one end does to both directions: one half goes on, and what it sends joins what waits for its partner.
use Rattle.std.proofs.Common.{◌≡◌, ℕ, List, [], ◌++◌, refl, sym, ◌∙◌, ap, subst, append-nil, ◌⊎◌}
use Rattle.tp4_flow.specs.ReceivingHalf.{Half}
use Rattle.tp4_flow.specs.declared.rules.FlowRules.{FlowRules}
use Rattle.tpdu.specs.declared.service.Options.{Options}
use Rattle.tp4_flow.specs.declared.step.Sent.{Sent}
use Rattle.tp4_sending.specs.SendingHalf.{FlowSender, Sendings}
use Rattle.tp4_conn.specs.declared.halves.Halves.{Halves}
use Rattle.tp4_conn.specs.declared.states.InOpened.{InOpened}
use Rattle.tp4_conn.specs.declared.states.StateData.TheVariants.{Opened}
use Rattle.tp4_conn.specs.End.{Moved}
use Rattle.script_journal.specs.Lawful.{Marked, normals}
use Rattle.tp4_flow.specs.declared.step.EndEvent.{EndEvent}
use Rattle.tp4_number.specs.declared.piece.Piece.{Piece}
use Rattle.law_tp4_history.specs.Complete.{AllFull}
use Rattle.law_tp4_history.specs.Lines.{shown_in}
use Rattle.law_tp4_pair.specs.Pair.{Account}
use Rattle.law_tp4_pair.specs.Carrying.{Carries, pieces_in, units_in}
use Rattle.law_tp4_pair.proofs.Carried.{no_pieces, no_units, pieces_count, pieces_then, units_count, units_then}
use Rattle.law_tp4_pair.specs.Waiting.{AreData, View, dts_in, eds_in, aks_in, eas_in}
use Rattle.law_tp4_pair.specs.Flowing.{IsCalm}
use Rattle.law_tp4_pair.specs.Standing.{IsAgreed, HasLeft, AreBoth, Party, party}
use Rattle.law_tp4_pair.proofs.Hearing.{CalmAfter}
use Rattle.law_tp4_pair.proofs.Wires.{dts_then, eds_then, aks_then, eas_then, data_then}

-- the same, seen from the other end
pub turned : (first second : Party) (h k : Halves) (forth back : List Sent) (u v : Account) → AreBoth first second h k forth back u v → AreBoth second first k h back forth v u
turned first second h k forth back u v b = record {
  options = b.options;
  one_rules = b.other_rules;
  other_rules = b.one_rules;
  one = b.other;
  other = b.one;
  partner = b.partner_back;
  partner_back = b.partner;
  forth_are = b.back_are;
  back_are = b.forth_are;
  there = b.here;
  here = b.there;
  carried_there = b.carried_here;
  carried_here = b.carried_there;
}

none_behind : {A : Type 0} (l m : List A) → m ≡ [] → l ++ m ≡ l
none_behind {A} l m e = ap (λ (n : List A). l ++ n) e ∙ append-nil l

-- what waits with what is sent behind it
pub sends_there : (s : FlowSender) (h : Half) (waiting sent : List Sent) (aks : List View) (eas : List ℕ)
    → IsCalm s h (dts_in waiting ++ dts_in sent) (eds_in waiting ++ eds_in sent) aks eas → IsCalm s h (dts_in (waiting ++ sent)) (eds_in (waiting ++ sent)) aks eas
sends_there s h waiting sent aks eas c =
    subst (λ (l : List ℕ). IsCalm s h l (eds_in (waiting ++ sent)) aks eas) (sym (dts_then waiting sent))
    (subst (λ (l : List ℕ). IsCalm s h (dts_in waiting ++ dts_in sent) l aks eas) (sym (eds_then waiting sent)) c)

pub sends_here : (s : FlowSender) (h : Half) (dts eds : List ℕ) (waiting sent : List Sent)
    → IsCalm s h dts eds (aks_in waiting ++ aks_in sent) (eas_in waiting ++ eas_in sent) → IsCalm s h dts eds (aks_in (waiting ++ sent)) (eas_in (waiting ++ sent))
sends_here s h dts eds waiting sent c =
    subst (λ (l : List View). IsCalm s h dts eds l (eas_in (waiting ++ sent))) (sym (aks_then waiting sent))
    (subst (λ (l : List ℕ). IsCalm s h dts eds (aks_in waiting ++ aks_in sent) l) (sym (eas_then waiting sent)) c)

-- what is no DT and no ED leaves that direction, what is no AK and no EA the other one
pub leaves_there : (s : FlowSender) (h : Half) (waiting sent : List Sent) (aks : List View) (eas : List ℕ) → dts_in sent ≡ [] → eds_in sent ≡ []
    → IsCalm s h (dts_in waiting) (eds_in waiting) aks eas → IsCalm s h (dts_in (waiting ++ sent)) (eds_in (waiting ++ sent)) aks eas
leaves_there s h waiting sent aks eas d e c = sends_there s h waiting sent aks eas
    (subst (λ (l : List ℕ). IsCalm s h l (eds_in waiting ++ eds_in sent) aks eas) (sym (none_behind (dts_in waiting) (dts_in sent) d))
    (subst (λ (l : List ℕ). IsCalm s h (dts_in waiting) l aks eas) (sym (none_behind (eds_in waiting) (eds_in sent) e)) c))

pub leaves_here : (s : FlowSender) (h : Half) (dts eds : List ℕ) (waiting sent : List Sent) → aks_in sent ≡ [] → eas_in sent ≡ []
    → IsCalm s h dts eds (aks_in waiting) (eas_in waiting) → IsCalm s h dts eds (aks_in (waiting ++ sent)) (eas_in (waiting ++ sent))
leaves_here s h dts eds waiting sent a e c = sends_here s h dts eds waiting sent
    (subst (λ (l : List View). IsCalm s h dts eds l (eas_in waiting ++ eas_in sent)) (sym (none_behind (aks_in waiting) (aks_in sent) a))
    (subst (λ (l : List ℕ). IsCalm s h dts eds (aks_in waiting) l) (sym (none_behind (eas_in waiting) (eas_in sent) e)) c))

-- what is carried, by other names
pub carried_to : (s : FlowSender) (h : Half) (a b : List Piece) (c d : List (List ℕ)) (gave gave' showed showed' : List Marked) → a ≡ b → c ≡ d → gave ≡ gave' → showed ≡ showed'
    → Carries s h a c gave showed → Carries s h b d gave' showed'
carried_to s h a b c d gave gave' showed showed' e f g i k =
    subst (λ (l : List Piece). Carries s h l d gave' showed') e (subst (λ (l : List (List ℕ)). Carries s h a l gave' showed') f
    (subst (λ (l : List Marked). Carries s h a c l showed') g (subst (λ (l : List Marked). Carries s h a c gave l) i k)))

-- on the same terms
pub agreed_on : (options : Options) (rules : FlowRules) (who : Party) (h k : Halves) → k.sending.rules ≡ h.sending.rules → k.receiving.rules ≡ h.receiving.rules → IsAgreed options rules who h → IsAgreed options rules who k
agreed_on options rules who h k sending receiving a = record {
  agreed_is = a.agreed_is;
  sending = sending ∙ a.sending;
  receiving = receiving ∙ a.receiving;
  sum = a.sum;
  format = a.format;
  to = a.to;
  partner = a.partner;
}

-- the second end takes or submits: its sending half goes on
pub sending_on : (first second : Party) (h k : Halves) (forth rest back : List Sent) (u v : Account) (added : List Marked) (x : Sendings) (b : AreBoth first second h k forth back u v)
    → AreData b.one_rules rest → IsCalm h.sending k.receiving (dts_in rest) (eds_in rest) (aks_in back) (eas_in back)
    → Carries h.sending k.receiving (pieces_in rest) (units_in rest) u.gave u.showed → AllFull (normals added)
    → CalmAfter k.sending added x h.receiving (dts_in back) (eds_in back) (aks_in rest) (eas_in rest)
    → AreBoth first second h (record k { sending = x.sender }) rest (back ++ x.tpdus) (record u { showed = u.showed ++ shown_in x.events }) (record v { gave = v.gave ++ added })
sending_on first second h k forth rest back u v added x b rest_are there carried full a = record {
  options = b.options;
  one = b.one;
  one_rules = b.one_rules;
  other_rules = b.other_rules;
  other = agreed_on b.options b.other_rules second k (record k { sending = x.sender }) a.rules_are refl b.other;
  partner = b.partner;
  partner_back = b.partner_back;
  forth_are = rest_are;
  back_are = data_then b.other_rules back x.tpdus b.back_are (subst (λ (r : FlowRules). AreData r x.tpdus) b.other.sending a.data_are);
  there = leaves_here h.sending k.receiving (dts_in rest) (eds_in rest) back x.tpdus a.aks_none a.eas_none there;
  here = sends_there x.sender h.receiving back x.tpdus (aks_in rest) (eas_in rest) a.calm;
  carried_there = carried_to h.sending k.receiving _ _ _ _ _ _ u.showed (u.showed ++ shown_in x.events) refl refl refl (sym (none_behind u.showed (shown_in x.events) a.quiet)) carried;
  carried_here = carried_to x.sender h.receiving _ _ _ _ _ _ _ _ (sym (pieces_then back x.tpdus)) (sym (units_then back x.tpdus)) refl refl
      (a.carried (pieces_in back) (units_in back) v.gave v.showed (pieces_count back) (units_count back) full b.carried_here);
}

-- it takes or grants: its receiving half goes on
pub receiving_on : (first second : Party) (h k : Halves) (forth rest back : List Sent) (u v : Account) (new : Half) (events : List EndEvent) (tpdus : List Sent) (b : AreBoth first second h k forth back u v)
    → AreData b.one_rules rest → new.rules ≡ k.receiving.rules → AreData k.receiving.rules tpdus → dts_in tpdus ≡ [] → eds_in tpdus ≡ []
    → IsCalm h.sending new (dts_in rest) (eds_in rest) (aks_in back ++ aks_in tpdus) (eas_in back ++ eas_in tpdus)
    → IsCalm k.sending h.receiving (dts_in back) (eds_in back) (aks_in rest) (eas_in rest)
    → Carries h.sending new (pieces_in rest) (units_in rest) u.gave (u.showed ++ shown_in events)
    → AreBoth first second h (record k { receiving = new }) rest (back ++ tpdus) (record u { showed = u.showed ++ shown_in events }) v
receiving_on first second h k forth rest back u v new events tpdus b rest_are rules fit dts eds there here carried = record {
  options = b.options;
  one = b.one;
  one_rules = b.one_rules;
  other_rules = b.other_rules;
  other = agreed_on b.options b.other_rules second k (record k { receiving = new }) refl rules b.other;
  partner = b.partner;
  partner_back = b.partner_back;
  forth_are = rest_are;
  back_are = data_then b.other_rules back tpdus b.back_are (subst (λ (r : FlowRules). AreData r tpdus) b.other.receiving fit);
  there = sends_here h.sending new (dts_in rest) (eds_in rest) back tpdus there;
  here = leaves_there k.sending h.receiving back tpdus (aks_in rest) (eas_in rest) dts eds here;
  carried_there = carried;
  carried_here = carried_to k.sending h.receiving _ _ _ _ _ _ _ _
      (sym (pieces_then back tpdus ∙ none_behind (pieces_in back) (pieces_in tpdus) (no_pieces tpdus dts)))
      (sym (units_then back tpdus ∙ none_behind (units_in back) (units_in tpdus) (no_units tpdus eds))) refl refl b.carried_here;
}

-- the end stays Opened, and both stand after it; or it has left
pub record GoesOn (first : Party) (h : Halves) (m : Moved) (rest back : List Sent) (u v : Account) : Type 0 where
  pub after : InOpened
  pub stage : m.stage ≡ Opened after
  pub both : AreBoth first (party m.base) h after.halves rest (back ++ m.tpdus) (record u { showed = u.showed ++ shown_in m.events }) v

abbrev pub Continues : Party → Halves → Moved → List Sent → List Sent → Account → Account → Type 0
Continues first h m rest back u v = HasLeft m.stage ⊎ GoesOn first h m rest back u v
