-- After its new sends a sender that is level with its receiver is calm: the DTs join those that wait, below the edge, which the receiver's credit
-- allows; the ED is the next one expected.
use Rattle.std.proofs.Common.{◌≡◌, ℕ, ◌+◌, ◌≤◌, List, [], ◌∷◌, ◌++◌, Option, Some, None, sym, ◌∙◌, ap, subst, arith, append-nil, inl, inr}
use Rattle.tp4_flow.specs.ReceivingHalf.{Half}
use Rattle.tp4_flow.specs.declared.rules.FlowRules.{FlowRules}
use Rattle.tp4_number.specs.Formats.{block_of}
use Rattle.tp4_sending.specs.SendingHalf.{FlowSender, UrgentSender, Sendings, at, block_in}
use Rattle.tp4_sending.specs.Settled.{IsSettled}
use Rattle.tp4_sending.specs.declared.tries.Tries.{Tries}
use Rattle.law_tp4_pair.specs.Waiting.{View, dts_in, eds_in, wires, views}
use Rattle.law_tp4_pair.specs.Flowing.{IsOrdered, known, said, LeadsTo, IsQuiet, IsAnswering, Flows, IsLevel, IsCalm}
use Rattle.law_tp4_pair.proofs.Sends.{Asks, Still, New, SendsNew}
use Rattle.law_tp4_pair.proofs.Wires.{wires_then, leads_low}

answering_on : (block : ℕ) (u new : UrgentSender) (h : Half) (eds eas more : List ℕ) → Asks block u new more → IsAnswering block u.next u.out h eds eas → IsAnswering block new.next new.out h (eds ++ more) eas
answering_on block u new h eds eas more (Still next out none) a =
    subst (λ (o : Option Tries). IsAnswering block new.next o h (eds ++ more) eas) (sym out) (still u.out a)
  where
    same : eds ++ more ≡ eds
    same = ap (λ (l : List ℕ). eds ++ l) none ∙ append-nil eds

    still : (out : Option Tries) → IsAnswering block u.next out h eds eas → IsAnswering block new.next out h (eds ++ more) eas
    still None q = record { eds_are = same ∙ q.eds_are; eas_are = q.eas_are; expected = q.expected ∙ sym next }
    still (Some tries) q = (
      q.0,
      next ∙ q.1,
      elim q.2 [
        | inl asked ↦ inl (record { eds_are = same ∙ asked.eds_are; eas_are = asked.eas_are; expected = asked.expected })
        | inr answered ↦ inr (record { eds_are = same ∙ answered.eds_are; eas_are = answered.eas_are; expected = answered.expected })
      ],
    )
answering_on block u new h eds eas more (New tries none next out one) a =
    let q : IsQuiet u.next h eds eas = subst (λ (o : Option Tries). IsAnswering block u.next o h eds eas) none a in
    subst (λ (o : Option Tries). IsAnswering block new.next o h (eds ++ more) eas) (sym out) (
      u.next,
      next,
      inl (record { eds_are = ap (λ (l : List ℕ). l ++ more) q.eds_are ∙ one; eas_are = q.eas_are; expected = q.expected }),
    )

pub after_sends : (s : FlowSender) (h : Half) (dts eds : List ℕ) (aks : List View) (eas : List ℕ) (x : Sendings) → SendsNew s x → IsSettled x.sender
    → (f : Flows s h dts eds aks eas) → IsLevel s h f.waiting → IsCalm x.sender h (dts ++ dts_in x.tpdus) (eds ++ eds_in x.tpdus) aks eas
after_sends s h dts eds aks eas x g settled f level =
    let p = f.pending in
    let low : s.numbers.base ≤ h.receiver.expected = leads_low (known s) f.waiting (said h) f.view in
    let edge = g.ordered.edge in
    record {
      flows = record {
        format = f.format ∙ ap (λ (r : FlowRules). r.format) (sym g.rules);
        ordered = g.ordered;
        in_order = f.in_order;
        pending = record {
          count = p.count + g.count;
          next = omega (arith, p.next, g.next);
          dts_are = both p.count p.next p.dts_are;
          within = omega (arith, p.next, g.next, edge, g.base, g.credit, level.known, low);
        };
        waiting = f.waiting;
        aks_are = f.aks_are ∙ ap (λ (r : FlowRules). views (block_of r.format) f.waiting) (sym g.rules);
        view = subst (λ (v : View). LeadsTo v f.waiting (said h)) (λ i. record { number = sym g.base i; credit = sym g.credit i; subsequence = sym g.subsequence i }) f.view;
        answering = subst (λ (r : FlowRules). IsAnswering (block_of r.format) x.sender.urgent.next x.sender.urgent.out h (eds ++ eds_in x.tpdus) eas) (sym g.rules)
            (answering_on (block_in s) s.urgent x.sender.urgent h eds eas (eds_in x.tpdus) g.asks f.answering);
      };
      credit = inl (record { known = g.credit ∙ level.known; waiting_are = level.waiting_are });
      settled = settled;
    }
  where
    both : (count : ℕ) → s.numbers.next ≡ h.receiver.expected + count → dts ≡ wires (block_in s) h.receiver.expected count
        → dts ++ dts_in x.tpdus ≡ wires (block_in x.sender) h.receiver.expected (count + g.count)
    both count next are =
        ap (λ (l : List ℕ). l ++ dts_in x.tpdus) are
        ∙ ap (λ (l : List ℕ). wires (block_in s) h.receiver.expected count ++ l) (g.dts ∙ ap (λ (n : ℕ). wires (block_in s) n g.count) next)
        ∙ sym (wires_then (block_in s) h.receiver.expected count g.count)
        ∙ ap (λ (r : FlowRules). wires (block_of r.format) h.receiver.expected (count + g.count)) (sym g.rules)

-- numbers, terms and what is under way are those of s
abbrev pub flow_of : FlowSender → FlowSender → FlowSender
flow_of s t = record t { rules = s.rules; numbers = s.numbers; urgent = record t.urgent { next = s.urgent.next; out = s.urgent.out } }

abbrev pub flows_as : {s : FlowSender} {h : Half} {dts eds : List ℕ} {aks : List View} {eas : List ℕ} (f : Flows s h dts eds aks eas) (t : FlowSender) → IsOrdered (flow_of s t) → Flows (flow_of s t) h dts eds aks eas
flows_as f t ordered =
    let p = f.pending in
    record {
      format = f.format;
      ordered = ordered;
      in_order = f.in_order;
      pending = record { count = p.count; next = p.next; dts_are = p.dts_are; within = p.within };
      waiting = f.waiting;
      aks_are = f.aks_are;
      view = f.view;
      answering = f.answering;
    }

-- a later clock changes nothing
pub flows_at : (now : ℕ) (s : FlowSender) (h : Half) (dts eds : List ℕ) (aks : List View) (eas : List ℕ) → Flows s h dts eds aks eas → Flows (at now s) h dts eds aks eas
flows_at now s h dts eds aks eas f =
    let o = f.ordered in flows_as f (at now s) (record { is_open = o.is_open; first = o.first; window = o.window; high = o.high; edge = o.edge; unit = o.unit })

pub calm_at : (now : ℕ) (s : FlowSender) (h : Half) (dts eds : List ℕ) (aks : List View) (eas : List ℕ) → IsCalm s h dts eds aks eas → IsCalm (at now s) h dts eds aks eas
unfolding flows_at
calm_at now s h dts eds aks eas c = record {
  flows = flows_at now s h dts eds aks eas c.flows;
  credit = elim c.credit [
    | inl level ↦ inl (record { known = level.known; waiting_are = level.waiting_are })
    | inr changing ↦ inr (record { waiting_is = changing.waiting_is; base = changing.base; next = changing.next; out = changing.out })
  ];
  settled = record { urgent = c.settled.urgent; normal = c.settled.normal };
}

-- where no AK waits both are level
pub level_there : (s : FlowSender) (h : Half) (dts eds eas : List ℕ) (c : IsCalm s h dts eds [] eas) → IsLevel s h c.flows.waiting
level_there s h dts eds eas c = elim c.credit [ inl level ↦ level | inr changing ↦ absurd (nothing_waits c.flows.waiting changing.waiting_is c.flows.aks_are) ]
  where
    nothing_waits : (waiting : List View) → waiting ≡ said h ∷ [] → [] ≡ views (block_in s) waiting → ⊥
    nothing_waits [] e f = cc e
    nothing_waits (view ∷ rest) e f = cc f
