-- A new credit, where nothing waits, and an AK that repeats what was said.
use Rattle.std.proofs.Common.{◌≡◌, ℕ, zero, suc, ◌+◌, ◌<◌, ◌≤◌, ◌==◌, nat_lt, List, [], ◌∷◌, ◌++◌, Option, Some, None, refl, sym, ◌∙◌, ap, subst, arith, inl, inr}
use Rattle.std.proofs.lemmas.Bool.{ltb-true, ltb-false}
use Rattle.tp4_flow.specs.ReceivingHalf.{Half, half_granted, allowed, ak}
use Rattle.tp4_number.specs.Formats.{block_of, most_of}
use Rattle.tp4_number.specs.Number.{wire}
use Rattle.tp4_number.specs.Receiver.{Inbox, granted}
use Rattle.tp4_number.proofs.Past.{if_kept}
use Rattle.tp4_sending.specs.SendingHalf.{FlowSender, block_in}
use Rattle.tp4_sending.specs.declared.tries.Tries.{Tries}
use Rattle.law_tp4_pair.specs.Waiting.{View, aks_in, wires, views}
use Rattle.law_tp4_pair.specs.Flowing.{known, said, IsNoOlder, Further, Later, Wider, LeadsTo, IsAnswering, IsCalm}
use Rattle.law_tp4_pair.proofs.Going.{level_there}
use Rattle.law_tp4_pair.proofs.Taking.{answering_there}
use Rattle.law_tp4_pair.proofs.Wires.{leads_on, give_on, views_then}

-- what the half says stands on the wire
pub ak_says : (s : FlowSender) (h : Half) → h.rules.format ≡ s.rules.format → aks_in (ak h ∷ []) ≡ views (block_in s) (said h ∷ [])
ak_says s h e = ap (λ (f : _). record { number = wire (block_of f) h.receiver.expected; credit = h.receiver.inbox.credit; subsequence = h.receiver.inbox.subsequence } ∷ []) e

-- an AK that says what was said
pub ak_repeated : (s : FlowSender) (h : Half) (dts eds eas : List ℕ) → IsCalm s h dts eds [] eas → IsCalm s h dts eds (aks_in (ak h ∷ [])) eas
ak_repeated s h dts eds eas c =
    let f = c.flows in
    let level = level_there s h dts eds eas c in
    record {
      flows = record {
        format = f.format;
        ordered = f.ordered;
        in_order = f.in_order;
        pending = f.pending;
        waiting = f.waiting ++ said h ∷ [];
        aks_are = ak_says s h f.format ∙ ap (λ (l : List View). l ++ views (block_in s) (said h ∷ [])) f.aks_are ∙ sym (views_then (block_in s) f.waiting (said h ∷ []));
        view = leads_on (known s) f.waiting (said h) (said h) f.view (Wider refl refl (omega arith));
        answering = f.answering;
      };
      credit = inl (record { known = level.known; waiting_are = give_on h.receiver.inbox.credit f.waiting (said h) level.waiting_are refl });
      settled = c.settled;
    }

-- what a new credit does
record Grants (inbox new : Inbox) : Type 0 where
  held : new.held ≡ inbox.held
  older : IsNoOlder (record { number = 0; credit = inbox.credit; subsequence = inbox.subsequence }) (record { number = 0; credit = new.credit; subsequence = new.subsequence })
  same : new.credit ≡ inbox.credit → new.subsequence ≡ inbox.subsequence

grants : (inbox : Inbox) (credit : ℕ) → Grants inbox (granted inbox credit)
grants inbox credit =
    if_kept (Grants inbox) (nat_lt credit inbox.credit) _ _
    (λ low. if_kept (Grants inbox) (inbox.subsequence == 65535) _ _
    (λ _. record { held = refl; older = Wider refl refl (omega arith); same = λ _. refl })
    (λ _. record {
      held = refl;
      older = Later refl (omega arith);
      same = λ e. let below : credit < inbox.credit = ltb-true _ _ low in absurd (omega (arith, below, e));
    }))
    (λ high. record { held = refl; older = Wider refl refl (ltb-false _ _ high); same = λ _. refl })

granted_low : (inbox : Inbox) (credit most : ℕ) → credit ≤ most → inbox.credit ≤ most → (granted inbox credit).credit ≤ most
granted_low inbox credit most c i =
    if_kept (λ (x : Inbox). x.credit ≤ most) (nat_lt credit inbox.credit) _ _
    (λ _. if_kept (λ (x : Inbox). x.credit ≤ most) (inbox.subsequence == 65535) _ _ (λ _. i) (λ _. c))
    (λ _. c)

numbered : (n : ℕ) (a b : Inbox) → IsNoOlder (record { number = 0; credit = a.credit; subsequence = a.subsequence }) (record { number = 0; credit = b.credit; subsequence = b.subsequence })
    → IsNoOlder (record { number = n; credit = a.credit; subsequence = a.subsequence }) (record { number = n; credit = b.credit; subsequence = b.subsequence })
numbered n a b (Further f) = absurd (omega (arith, f))
numbered n a b (Later e l) = Later refl l
numbered n a b (Wider e q w) = Wider refl q w

pub granted_begun : (h : Half) (credit : ℕ) → (half_granted h credit).receiver.inbox.held.begun ≡ h.receiver.inbox.held.begun
granted_begun h credit = ap (λ (x : _). x.begun) (grants h.receiver.inbox (allowed h.rules.format credit)).held

-- what holds where nothing waits
pub record IsRest (s : FlowSender) (h : Half) : Type 0 where
  pub base : s.numbers.base ≡ h.receiver.expected
  pub next : s.numbers.next ≡ h.receiver.expected
  pub credit : s.numbers.credit ≡ h.receiver.inbox.credit
  pub subsequence : s.numbers.subsequence ≡ h.receiver.inbox.subsequence
  pub out : s.urgent.out ≡ None
  pub urgent : h.receiver.urgent ≡ s.urgent.next

pub at_rest : (s : FlowSender) (h : Half) → IsCalm s h [] [] [] [] → IsRest s h
at_rest s h c =
    let f = c.flows in
    let same : known s ≡ said h = none_waits f.waiting f.aks_are f.view in
    let quiet = none_out s.urgent.next s.urgent.out f.answering in
    record {
      base = ap (λ (v : View). v.number) same;
      next = none_pending f.pending.count f.pending.dts_are f.pending.next;
      credit = ap (λ (v : View). v.credit) same;
      subsequence = ap (λ (v : View). v.subsequence) same;
      out = quiet.0;
      urgent = quiet.1;
    }
  where
    none_waits : (waiting : List View) → [] ≡ views (block_in s) waiting → LeadsTo (known s) waiting (said h) → known s ≡ said h
    none_waits [] e l = l
    none_waits (view ∷ rest) e l = absurd (cc e)

    none_pending : (count : ℕ) → [] ≡ wires (block_in s) h.receiver.expected count → s.numbers.next ≡ h.receiver.expected + count → s.numbers.next ≡ h.receiver.expected
    none_pending zero e n = omega (arith, n)
    none_pending (suc count) e n = absurd (cc e)

    none_out : (next : ℕ) (out : Option Tries) → IsAnswering (block_in s) next out h [] [] → (out ≡ None) × (h.receiver.urgent ≡ next)
    none_out next None q = (refl, q.expected)
    none_out next (Some tries) q = elim q.2 [ inl asked ↦ absurd (cc asked.eds_are) | inr answered ↦ absurd (cc answered.eas_are) ]

-- a new credit: told, and an AK where it changed
pub granted_calm : (s : FlowSender) (h : Half) (credit : ℕ) → IsCalm s h [] [] [] [] → IsCalm s (half_granted h credit) [] [] (aks_in (ak (half_granted h credit) ∷ [])) []
granted_calm s h credit c =
    let f = c.flows in
    let rest = at_rest s h c in
    let new : Half = half_granted h credit in
    let g = grants h.receiver.inbox (allowed h.rules.format credit) in
    let p = f.pending in
    let same : known s ≡ said h = λ i. record { number = rest.base i; credit = rest.credit i; subsequence = rest.subsequence i } in
    record {
      flows = record {
        format = f.format;
        ordered = f.ordered;
        in_order = record {
          held = ap (λ (x : _). x.places) g.held ∙ f.in_order.held;
          credit = granted_low h.receiver.inbox (allowed h.rules.format credit) (most_of h.rules.format) (omega arith) f.in_order.credit;
        };
        pending = record { count = 0; next = omega (arith, rest.next); dts_are = refl; within = omega arith };
        waiting = said new ∷ [];
        aks_are = ak_says s new f.format;
        view = (subst (λ (v : View). IsNoOlder v (said new)) (sym same) (numbered h.receiver.expected h.receiver.inbox new.receiver.inbox g.older), refl);
        answering = answering_there (block_in s) s h new [] [] refl f.answering;
      };
      credit = inr (record { waiting_is = refl; base = rest.base; next = rest.next; out = rest.out });
      settled = c.settled;
    }

pub unchanged_calm : (s : FlowSender) (h : Half) (credit : ℕ) → (half_granted h credit).receiver.inbox.credit ≡ h.receiver.inbox.credit → IsCalm s h [] [] [] []
    → IsCalm s (half_granted h credit) [] [] [] []
unchanged_calm s h credit e c =
    let g = grants h.receiver.inbox (allowed h.rules.format credit) in
    let is : granted h.receiver.inbox (allowed h.rules.format credit) ≡ h.receiver.inbox = λ i. record { credit = e i; subsequence = g.same e i; held = g.held i } in
    subst (λ (x : Inbox). IsCalm s (record h { receiver = record h.receiver { inbox = x } }) [] [] [] []) (sym is) c
