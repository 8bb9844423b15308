-- An AK that waits first is newer than what the sender knows, or the same: the sender knows it then, and sends what it allows.
use Rattle.std.proofs.Common.{◌≡◌, ℕ, ◌+◌, ◌-◌, ◌≤◌, ◌==◌, ◌&&◌, nat_lt, nat_le, Bool, true, false, if◌then◌else◌, min, max, List, [], ◌∷◌, ◌++◌, length, drop, length-drop, Option, None, refl, sym, ◌∙◌, ap, subst, arith, inl, inr, ◌⊎◌, append-nil}
use Rattle.std.proofs.lemmas.Bool.{le-leb, lt-ltb, eq-eqb, or_parts, ltb-false, true≢false, false≢true}
use Rattle.std.proofs.lemmas.List.{length-take}
use Rattle.tp4_flow.specs.ReceivingHalf.{Half}
use Rattle.tp4_flow.specs.declared.rules.FlowRules.{FlowRules}
use Rattle.tp4_number.specs.Formats.{most_of}
use Rattle.tp4_number.specs.Number.{wire, near}
use Rattle.tp4_number.specs.Sender.{is_newer}
use Rattle.tp4_number.proofs.Numbers.{near_is}
use Rattle.tp4_number.proofs.Past.{if_kept}
use Rattle.tp4_sending.specs.SendingHalf.{FlowSender, Sendings, at, nothing, block_in, new_sends, is_taken, acknowledged, acknowledged_to}
use Rattle.tp4_sending.specs.Settled.{IsSettled}
use Rattle.tp4_sending.specs.declared.tries.Tries.{Tries}
use Rattle.tp4_sending.proofs.Advances.{advanced, advanced_is}
use Rattle.tp4_sending.proofs.Frees.{freed_left}
use Rattle.tp4_sending.proofs.Settles.{new_settled}
use Rattle.tp4_number.specs.declared.piece.Piece.{Piece}
use Rattle.script_journal.specs.Lawful.{Marked, normals}
use Rattle.law_tp4_history.specs.Complete.{AllFull}
use Rattle.law_tp4_history.specs.Lines.{shown_in}
use Rattle.law_tp4_pair.specs.Carrying.{Carries, pieces_in, units_in}
use Rattle.law_tp4_pair.proofs.Carried.{carries_at, empty_by, freed_carry, sends_carry, wires_count}
use Rattle.law_tp4_pair.specs.Waiting.{AreData, View, dts_in, eds_in, aks_in, eas_in, views}
use Rattle.law_tp4_pair.specs.Flowing.{IsAnswering, IsQuiet, IsOrdered, known, said, IsNoOlder, Further, Later, Wider, LeadsTo, AllGive, Flows, IsLevel, IsChanging, IsCalm}
use Rattle.law_tp4_pair.proofs.Going.{after_sends}
use Rattle.law_tp4_pair.proofs.Sends.{sends_new}
use Rattle.law_tp4_pair.proofs.Taking.{some_block, most_low}
use Rattle.law_tp4_pair.proofs.Wires.{leads_low}

-- a call of the sending half, and what waits then: behind the DTs and EDs that waited come those that it sends. What was carried is carried on,
-- with the units that are added
pub record CalmAfter (s : FlowSender) (added : List Marked) (x : Sendings) (h : Half) (dts eds : List ℕ) (aks : List View) (eas : List ℕ) : Type 0 where
  pub rules_are : x.sender.rules ≡ s.rules
  pub data_are : AreData s.rules x.tpdus
  pub quiet : shown_in x.events ≡ []
  pub carried : (pieces : List Piece) (units : List (List ℕ)) (gave showed : List Marked) → length pieces ≡ length dts → length units ≡ length eds → AllFull (normals added)
      → Carries s h pieces units gave showed → Carries x.sender h (pieces ++ pieces_in x.tpdus) (units ++ units_in x.tpdus) (gave ++ added) showed
  pub calm : IsCalm x.sender h (dts ++ dts_in x.tpdus) (eds ++ eds_in x.tpdus) aks eas
  pub aks_none : aks_in x.tpdus ≡ []
  pub eas_none : eas_in x.tpdus ≡ []

none_asked : (s : FlowSender) (h : Half) (dts eds : List ℕ) (aks : List View) (eas : List ℕ) → Flows s h dts eds aks eas → s.urgent.out ≡ None → eds ≡ []
none_asked s h dts eds aks eas f e =
    let q : IsQuiet s.urgent.next h eds eas = subst (λ (o : Option Tries). IsAnswering (block_in s) s.urgent.next o h eds eas) e f.answering in
    q.eds_are

-- what a call carries on to the half before its new sends
abbrev pub CarriesOn : FlowSender → FlowSender → List Marked → Half → List ℕ → List ℕ → Type 0
CarriesOn s mid added h dts eds = (pieces : List Piece) (units : List (List ℕ)) (gave showed : List Marked) → length pieces ≡ length dts → length units ≡ length eds → AllFull (normals added)
    → Carries s h pieces units gave showed → Carries mid h pieces units (gave ++ added) showed

pub new_after : (s mid : FlowSender) (added : List Marked) (h : Half) (dts eds : List ℕ) (aks : List View) (eas : List ℕ) (f : Flows mid h dts eds aks eas) → IsLevel mid h f.waiting
    → mid.rules ≡ s.rules → CarriesOn s mid added h dts eds → CalmAfter s added (new_sends mid) h dts eds aks eas
new_after s mid added h dts eds aks eas f level rules on =
    let g = sends_new mid f.ordered in
    record {
      rules_are = g.rules ∙ rules;
      data_are = subst (λ (r : FlowRules). AreData r (new_sends mid).tpdus) rules g.data_are;
      quiet = g.quiet;
      carried = λ pieces units gave showed p u full c. sends_carry mid h pieces units (gave ++ added) showed f.ordered
          (omega (arith, f.pending.next, p, ap length f.pending.dts_are, wires_count (block_in mid) h.receiver.expected f.pending.count))
          (λ none. empty_by units eds u (none_asked mid h dts eds aks eas f none))
          (on pieces units gave showed p u full c);
      calm = after_sends mid h dts eds aks eas (new_sends mid) g (new_settled mid f.ordered.is_open) f level;
      aks_none = g.aks;
      eas_none = g.eas;
    }

-- nothing is added
pub adds_none : (s : FlowSender) (h : Half) (pieces : List Piece) (units : List (List ℕ)) (gave showed : List Marked) → Carries s h pieces units gave showed → Carries s h pieces units (gave ++ []) showed
adds_none s h pieces units gave showed c = subst (λ (l : List Marked). Carries s h pieces units l showed) (sym (append-nil gave)) c

pub new_calm : (s : FlowSender) (h : Half) (dts eds : List ℕ) (aks : List View) (eas : List ℕ) (f : Flows s h dts eds aks eas) → IsLevel s h f.waiting
    → CalmAfter s [] (new_sends s) h dts eds aks eas
new_calm s h dts eds aks eas f level = new_after s s [] h dts eds aks eas f level refl (λ pieces units gave showed p u full c. adds_none s h pieces units gave showed c)

pub none_calm : (s : FlowSender) (h : Half) (dts eds : List ℕ) (aks : List View) (eas : List ℕ) → IsCalm s h dts eds aks eas → CalmAfter s [] (nothing s) h dts eds aks eas
none_calm s h dts eds aks eas c = record {
  rules_are = refl;
  data_are = tt;
  quiet = refl;
  carried = λ pieces units gave showed p u full k. subst (λ (l : List Piece). Carries s h l (units ++ []) (gave ++ []) showed) (sym (append-nil pieces))
      (subst (λ (l : List (List ℕ)). Carries s h pieces l (gave ++ []) showed) (sym (append-nil units)) (adds_none s h pieces units gave showed k));
  calm = subst (λ (l : List ℕ). IsCalm s h l (eds ++ []) aks eas) (sym (append-nil dts)) (subst (λ (l : List ℕ). IsCalm s h dts l aks eas) (sym (append-nil eds)) c);
  aks_none = refl;
  eas_none = refl;
}

-- a call at a later clock is one of the half
pub from_at : (now : ℕ) (s : FlowSender) (added : List Marked) (x : Sendings) (h : Half) (dts eds : List ℕ) (aks : List View) (eas : List ℕ) → CalmAfter (at now s) added x h dts eds aks eas
    → CalmAfter s added x h dts eds aks eas
from_at now s added x h dts eds aks eas a = record {
  rules_are = a.rules_are;
  data_are = a.data_are;
  quiet = a.quiet;
  carried = λ pieces units gave showed p u full c. a.carried pieces units gave showed p u full (carries_at now s h pieces units gave showed c);
  calm = a.calm;
  aks_none = a.aks_none;
  eas_none = a.eas_none;
}

-- what is known of the AK that waits first
record IsHeard (s : FlowSender) (h : Half) (a : View) (left : List View) : Type 0 where
  older : IsNoOlder (known s) a
  leads : LeadsTo a left (said h)
  within : s.numbers.next ≤ s.numbers.base + most_of s.rules.format
  credit : a.credit ≡ h.receiver.inbox.credit
  left_are : AllGive h.receiver.inbox.credit left
  stays : s.numbers.next ≤ a.number + a.credit
  reached : h.receiver.expected ≤ s.numbers.next

older_low : (a b : View) → IsNoOlder a b → a.number ≤ b.number
older_low a b (Further f) = omega (arith, f)
older_low a b (Later n l) = omega (arith, n)
older_low a b (Wider n q w) = omega (arith, n)

heard : (s : FlowSender) (h : Half) (dts eds : List ℕ) (aks : List View) (eas : List ℕ) (f : Flows s h dts eds aks eas) (a : View) (left : List View)
    → LeadsTo (known s) (a ∷ left) (said h) → IsLevel s h (a ∷ left) ⊎ IsChanging s h (a ∷ left) → IsHeard s h a left
heard s h dts eds aks eas f a left leads (inl level) =
    let low = older_low (known s) a leads.0 in
    let most : h.receiver.inbox.credit ≤ most_of s.rules.format = subst (λ (r : _). h.receiver.inbox.credit ≤ most_of r) f.format f.in_order.credit in
    record {
      older = leads.0;
      leads = leads.1;
      within = omega (arith, f.ordered.edge, level.known, most);
      credit = level.waiting_are.0;
      left_are = level.waiting_are.1;
      stays = omega (arith, f.ordered.edge, level.known, level.waiting_are.0, low);
      reached = omega (arith, f.pending.next);
    }
heard s h dts eds aks eas f a left leads (inr changing) =
    let is : (a ≡ said h) × (left ≡ []) = parts changing.waiting_is in
    let at : a.number ≡ h.receiver.expected = ap (λ (v : View). v.number) is.0 in
    record {
      older = leads.0;
      leads = leads.1;
      within = omega (arith, changing.base, changing.next);
      credit = ap (λ (v : View). v.credit) is.0;
      left_are = subst (AllGive h.receiver.inbox.credit) (sym is.1) tt;
      stays = omega (arith, changing.next, at);
      reached = omega (arith, changing.next);
    }
  where
    parts : a ∷ left ≡ said h ∷ [] → (a ≡ said h) × (left ≡ [])
    parts e = (cc, cc)

-- the sender knows it now
advanced_ordered : (s : FlowSender) (n credit subsequence : ℕ) → IsOrdered s → s.numbers.base ≤ n → n ≤ s.numbers.next → s.numbers.next ≤ n + credit → IsOrdered (advanced s n credit subsequence)
advanced_ordered s n credit subsequence o from to stays =
    let left = freed_left s.rules.piece n s.queue.first s.queue.units (omega (arith, o.first, from)) in
    let size : length (drop (n - s.numbers.base) s.window) ≡ length s.window - (n - s.numbers.base) = length-drop (n - s.numbers.base) s.window in
    let cut = length-take (max n (min s.numbers.next (n + credit)) - n) (drop (n - s.numbers.base) s.window) in
    record {
      is_open = o.is_open;
      first = left.first;
      window = omega (arith, size, cut, o.window, from, to, stays);
      high = omega (arith, o.high, to);
      edge = omega (arith, stays, to);
      unit = o.unit;
    }

advanced_flows : (s : FlowSender) (h : Half) (dts eds : List ℕ) (aks : List View) (eas : List ℕ) (f : Flows s h dts eds aks eas) (a : View) (left : List View) → IsHeard s h a left
    → CalmAfter s [] (new_sends (advanced s a.number a.credit a.subsequence)) h dts eds (views (block_in s) left) eas
advanced_flows s h dts eds aks eas f a left k =
    let low = older_low (known s) a k.older in
    let up : a.number ≤ h.receiver.expected = leads_low a left (said h) k.leads in
    let to : a.number ≤ s.numbers.next = omega (arith, up, k.reached) in
    let p = f.pending in
    let next : FlowSender = advanced s a.number a.credit a.subsequence in
    new_after s next [] h dts eds (views (block_in s) left) eas (record {
      format = f.format;
      ordered = advanced_ordered s a.number a.credit a.subsequence f.ordered low to k.stays;
      in_order = f.in_order;
      pending = record {
        count = p.count;
        next = omega (arith, p.next, to, k.stays);
        dts_are = p.dts_are;
        within = p.within;
      };
      waiting = left;
      aks_are = refl;
      view = k.leads;
      answering = f.answering;
    }) (record { known = k.credit; waiting_are = k.left_are }) refl
    (λ pieces units gave showed e u full c. adds_none next h pieces units gave showed (freed_carry s next h a.number pieces units gave showed refl refl refl c))

-- or it knew that
second_false : (x y : Bool) → x ≡ true → (x && y) ≡ false → y ≡ false
second_false true y t e = e
second_false false y t e = absurd (false≢true t)

not_newer : (s : FlowSender) (a : View) → IsNoOlder (known s) a → is_newer s.numbers a.number a.credit a.subsequence ≡ false → known s ≡ a
not_newer s a (Further f) e = absurd (true≢false (sym (lt-ltb _ _ f) ∙ (or_parts (nat_lt s.numbers.base a.number) _ e).0))
not_newer s a (Later n q) e =
    let second = second_false (a.number == s.numbers.base) _ (eq-eqb _ _ (sym n)) (or_parts (nat_lt s.numbers.base a.number) _ e).1 in
    absurd (true≢false (sym (lt-ltb _ _ q) ∙ (or_parts (nat_lt s.numbers.subsequence a.subsequence) _ second).0))
not_newer s a (Wider n q w) e =
    let second = second_false (a.number == s.numbers.base) _ (eq-eqb _ _ (sym n)) (or_parts (nat_lt s.numbers.base a.number) _ e).1 in
    let third = second_false (a.subsequence == s.numbers.subsequence) _ (eq-eqb _ _ (sym q)) (or_parts (nat_lt s.numbers.subsequence a.subsequence) _ second).1 in
    let same : s.numbers.credit ≡ a.credit = omega (arith, w, ltb-false _ _ third) in
    λ i. record { number = n i; credit = same i; subsequence = q i }

told_calm : (s : FlowSender) (h : Half) (dts eds : List ℕ) (aks : List View) (eas : List ℕ) (f : Flows s h dts eds aks eas) (a : View) (left : List View) → IsHeard s h a left → IsSettled s
    → CalmAfter s [] (if is_taken s a.number a.credit a.subsequence then new_sends (acknowledged_to s a.number a.credit a.subsequence) else nothing s) h dts eds (views (block_in s) left) eas
told_calm s h dts eds aks eas f a left k settled =
    if_kept (λ (x : Sendings). CalmAfter s [] x h dts eds (views (block_in s) left) eas) (is_taken s a.number a.credit a.subsequence) _ _
    (λ taken. subst (λ (t : FlowSender). CalmAfter s [] (new_sends t) h dts eds (views (block_in s) left) eas) (advanced_is s a.number a.credit a.subsequence taken)
    (advanced_flows s h dts eds aks eas f a left k))
    (λ refused.
    let up : a.number ≤ h.receiver.expected = leads_low a left (said h) k.leads in
    let within : nat_le a.number s.numbers.blocks.high ≡ true = le-leb _ _ (omega (arith, up, k.reached, f.ordered.high)) in
    let same : known s ≡ a = not_newer s a k.older (second_false (nat_le a.number s.numbers.blocks.high) _ within refused) in
    none_calm s h dts eds (views (block_in s) left) eas (record {
      flows = record {
        format = f.format;
        ordered = f.ordered;
        in_order = f.in_order;
        pending = f.pending;
        waiting = left;
        aks_are = refl;
        view = subst (λ (v : View). LeadsTo v left (said h)) (sym same) k.leads;
        answering = f.answering;
      };
      credit = inl (record { known = ap (λ (v : View). v.credit) same ∙ k.credit; waiting_are = k.left_are });
      settled = settled;
    }))

-- an AK comes
pub ak_taken : (s : FlowSender) (h : Half) (dts eds : List ℕ) (rest : List View) (eas : List ℕ) (v : View) → IsCalm s h dts eds (v ∷ rest) eas
    → CalmAfter s [] (acknowledged s v.number v.credit v.subsequence) h dts eds rest eas
ak_taken s h dts eds rest eas v c = by c.flows.waiting c.flows.aks_are c.flows.view c.credit
  where
    by : (waiting : List View) → v ∷ rest ≡ views (block_in s) waiting → LeadsTo (known s) waiting (said h) → IsLevel s h waiting ⊎ IsChanging s h waiting
        → CalmAfter s [] (acknowledged s v.number v.credit v.subsequence) h dts eds rest eas
    by [] e l k = absurd (cc e)
    by (a ∷ left) e l k =
        let is = heard s h dts eds (v ∷ rest) eas c.flows a left l k in
        let first : v ≡ record a { number = wire (block_in s) a.number } = cc in
        let others : rest ≡ views (block_in s) left = cc in
        let low = older_low (known s) a is.older in
        let up : a.number ≤ h.receiver.expected = leads_low a left (said h) is.leads in
        let read : near (block_in s) s.numbers.base (wire (block_in s) a.number) ≡ a.number =
        near_is (block_in s) s.numbers.base a.number (some_block s.rules.format) low (omega (arith, is.within, is.reached, up, most_low s.rules.format)) in
        subst (λ (u : View). CalmAfter s [] (acknowledged s u.number u.credit u.subsequence) h dts eds rest eas) (sym first)
        (subst (λ (m : ℕ). CalmAfter s [] (if is_taken s m a.credit a.subsequence then new_sends (acknowledged_to s m a.credit a.subsequence) else nothing s) h dts eds rest eas) (sym read)
        (subst (λ (r : List View). CalmAfter s [] (if is_taken s a.number a.credit a.subsequence then new_sends (acknowledged_to s a.number a.credit a.subsequence) else nothing s) h dts eds r eas) (sym others)
        (told_calm s h dts eds (v ∷ rest) eas c.flows a left is c.settled)))
