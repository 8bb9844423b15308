-- EDs and EAs: the ED that waits is the one expected, and its EA is that of the ED that is outstanding.
use Rattle.std.proofs.Common.{◌≡◌, ℕ, ◌+◌, ◌-◌, ◌==◌, ◌&&◌, ◌||◌, Bool, true, false, if◌then◌else◌, List, [], ◌∷◌, ◌++◌, length, drop, Option, Some, None, refl, sym, ◌∙◌, ap, subst, arith, inl, inr, append-nil}
use Rattle.std.specs.Prelude.{is_some}
use Rattle.std.proofs.lemmas.Bool.{eq-eqb}
use Rattle.tp4_flow.specs.ReceivingHalf.{Half, Received, is_next, is_before, taken_ed, ea}
use Rattle.tp4_number.specs.Formats.{block_of}
use Rattle.tp4_number.specs.Number.{whole, wire}
use Rattle.tp4_flow.specs.declared.step.What.TheVariants as whats
use Rattle.tpdu.specs.declared.service.EndTold.TheVariants.{Urgent}
use Rattle.tp4_sending.specs.SendingHalf.{FlowSender, block_in, is_outstanding, urgent_done, new_sends, nothing}
use Rattle.tp4_sending.specs.declared.tries.Tries.{Tries}
use Rattle.tp4_number.specs.declared.piece.Piece.{Piece}
use Rattle.script_journal.specs.Lawful.{Marked}
use Rattle.law_tp4_history.specs.Lines.{shown_in}
use Rattle.law_tp4_pair.specs.Carrying.{Carries}
use Rattle.law_tp4_pair.proofs.Carried.{done_carry, ed_carry, empty_by}
use Rattle.law_tp4_pair.specs.Waiting.{AreData, View, dts_in, eds_in, aks_in, eas_in}
use Rattle.law_tp4_pair.proofs.Hearing.{CalmAfter, adds_none, new_after}
use Rattle.law_tp4_pair.specs.Flowing.{IsAnswering, IsLevel, IsCalm}

-- the ED that waits first is the one expected, and waits alone
pub record Expects (block n w : ℕ) (h : Half) (rest eas : List ℕ) : Type 0 where
  pub number : w ≡ wire block n
  pub alone : rest ≡ []
  pub none : eas ≡ []
  pub expected : h.receiver.urgent ≡ n

pub expects : (block w next : ℕ) (out : Option Tries) (h : Half) (rest eas : List ℕ) → IsAnswering block next out h (w ∷ rest) eas
    → (tries : Tries) × (out ≡ Some tries) × (n : ℕ) × (next ≡ n + 1) × Expects block n w h rest eas
expects block w next None h rest eas q = absurd (cc q.eds_are)
expects block w next (Some tries) h rest eas q = elim q.2 [
  | inl asked ↦ (
    tries,
    refl,
    q.0,
    q.1,
    record { number = first w (wire block q.0) rest [] asked.eds_are; alone = others w (wire block q.0) rest [] asked.eds_are; none = asked.eas_are; expected = asked.expected },
  )
  | inr answered ↦ absurd (cc answered.eds_are)
]
  where
    first : (a b : ℕ) (l m : List ℕ) → a ∷ l ≡ b ∷ m → a ≡ b
    first a b l m e = cc

    others : (a b : ℕ) (l m : List ℕ) → a ∷ l ≡ b ∷ m → l ≡ m
    others a b l m e = cc

pub record TakesEd (s : FlowSender) (h : Half) (dts rest : List ℕ) (aks : List View) (eas octets : List ℕ) (x : Received) : Type 0 where
  pub carried : (pieces : List Piece) (units : List (List ℕ)) (gave showed : List Marked) → length units ≡ length rest → Carries s h pieces (octets ∷ units) gave showed
      → Carries s x.half pieces units gave (showed ++ shown_in x.events)
  pub calm : IsCalm s x.half dts rest (aks ++ aks_in x.tpdus) (eas ++ eas_in x.tpdus)
  pub dts_are : dts_in x.tpdus ≡ []
  pub eds : eds_in x.tpdus ≡ []
  pub urgent : x.half.receiver.urgent ≡ h.receiver.urgent + 1
  pub rules : x.half.rules ≡ h.rules
  pub data_are : AreData h.rules x.tpdus

-- an ED comes
ed_answered : (s : FlowSender) (h : Half) (dts : List ℕ) (w : ℕ) (rest : List ℕ) (aks : List View) (eas : List ℕ) → IsCalm s h dts (w ∷ rest) aks eas
    → IsCalm s (record h { receiver = record h.receiver { urgent = h.receiver.urgent + 1 } }) dts rest aks (eas ++ w ∷ [])
ed_answered s h dts w rest aks eas c =
    let f = c.flows in
    let x = expects (block_in s) w s.urgent.next s.urgent.out h rest eas f.answering in
    let e = x.4 in
    let level : IsLevel s h f.waiting = elim c.credit [ inl l ↦ l | inr changing ↦ absurd (some_out s.urgent.out x.0 changing.out x.1) ] in
    let p = f.pending in
    record {
      flows = record {
        format = f.format;
        ordered = f.ordered;
        in_order = record { held = f.in_order.held; credit = f.in_order.credit };
        pending = record { count = p.count; next = p.next; dts_are = p.dts_are; within = p.within };
        waiting = f.waiting;
        aks_are = f.aks_are;
        view = f.view;
        answering = subst (λ (o : Option Tries). IsAnswering (block_in s) s.urgent.next o (record h { receiver = record h.receiver { urgent = h.receiver.urgent + 1 } }) rest (eas ++ w ∷ [])) (sym x.1) (
          x.2,
          x.3,
          inr (record {
            eds_are = e.alone;
            eas_are = ap (λ (l : List ℕ). l ++ w ∷ []) e.none ∙ ap (λ (k : ℕ). k ∷ []) e.number;
            expected = ap (λ (k : ℕ). k + 1) e.expected;
          }),
        );
      };
      credit = inl (record { known = level.known; waiting_are = level.waiting_are });
      settled = c.settled;
    }
  where
    some_out : (out : Option Tries) (tries : Tries) → out ≡ None → out ≡ Some tries → ⊥
    some_out None tries n e = cc e
    some_out (Some other) tries n e = cc n

pub ed_taken : (s : FlowSender) (h : Half) (dts : List ℕ) (w : ℕ) (rest : List ℕ) (aks : List View) (eas octets : List ℕ) → IsCalm s h dts (w ∷ rest) aks eas
    → TakesEd s h dts rest aks eas octets (taken_ed whole h w octets)
ed_taken s h dts w rest aks eas octets c =
    let f = c.flows in
    let x = expects (block_in s) w s.urgent.next s.urgent.out h rest eas f.answering in
    let e = x.4 in
    let same : w ≡ wire (block_of h.rules.format) h.receiver.urgent = e.number ∙ (λ i. wire (block_of (sym f.format i)) (sym e.expected i)) in
    let is : is_next h w ≡ true = eq-eqb _ _ same in
    subst (λ (b : Bool). TakesEd s h dts rest aks eas octets (record {
      half = if b then record h { receiver = record h.receiver { urgent = h.receiver.urgent + 1 } } else h;
      events = if b then record { reference = h.rules.own; what = whats.End (Urgent octets) } ∷ [] else [];
      tpdus = if b || is_before h w then ea h w ∷ [] else [];
    })) (sym is) (record {
      carried = λ pieces units gave showed u k. ed_carry s h (record h { receiver = record h.receiver { urgent = h.receiver.urgent + 1 } }) x.0 octets pieces units gave showed x.1 (empty_by units rest u e.alone) refl refl k;
      calm = subst (λ (l : List View). IsCalm s (record h { receiver = record h.receiver { urgent = h.receiver.urgent + 1 } }) dts rest l (eas ++ w ∷ [])) (sym (append-nil aks)) (ed_answered s h dts w rest aks eas c);
      dts_are = refl;
      eds = refl;
      urgent = refl;
      rules = refl;
      data_are = (record { to = refl; format = refl; sum = refl; kind = refl }, tt);
    })

-- the EA that waits first is that of the ED that is outstanding
record Hears (block n w : ℕ) (h : Half) (eds rest : List ℕ) : Type 0 where
  number : w ≡ wire block n
  alone : rest ≡ []
  none : eds ≡ []
  expected : h.receiver.urgent ≡ n + 1

hears : (block w next : ℕ) (out : Option Tries) (h : Half) (eds rest : List ℕ) → IsAnswering block next out h eds (w ∷ rest)
    → (tries : Tries) × (out ≡ Some tries) × (n : ℕ) × (next ≡ n + 1) × Hears block n w h eds rest
hears block w next None h eds rest q = absurd (cc q.eas_are)
hears block w next (Some tries) h eds rest q = elim q.2 [
  | inl asked ↦ absurd (cc asked.eas_are)
  | inr answered ↦ (tries, refl, q.0, q.1, by (wire block q.0) answered.eas_are answered.eds_are answered.expected refl)
]
  where
    by : (b : ℕ) → w ∷ rest ≡ b ∷ [] → eds ≡ [] → h.receiver.urgent ≡ q.0 + 1 → (wire block q.0 ≡ b) → Hears block q.0 w h eds rest
    by b e n x same = record { number = cc; alone = cc; none = n; expected = x }

-- an EA comes
pub ea_taken : (s : FlowSender) (h : Half) (dts eds : List ℕ) (aks : List View) (w : ℕ) (rest : List ℕ) → IsCalm s h dts eds aks (w ∷ rest)
    → CalmAfter s [] (urgent_done s w) h dts eds aks rest
ea_taken s h dts eds aks w rest c =
    let f = c.flows in
    let x = hears (block_in s) w s.urgent.next s.urgent.out h eds rest f.answering in
    let e = x.4 in
    let level : IsLevel s h f.waiting = elim c.credit [ inl l ↦ l | inr changing ↦ absurd (some_out s.urgent.out x.0 changing.out x.1) ] in
    let some : is_some s.urgent.out ≡ true = ap is_some x.1 in
    let last : s.urgent.next - 1 ≡ x.2 = omega (arith, x.3) in
    let same : (wire (block_in s) (s.urgent.next - 1) == w) ≡ true = eq-eqb _ _ (ap (wire (block_in s)) last ∙ sym e.number) in
    let is : is_outstanding s w ≡ true = and_from (is_some s.urgent.out) _ some same in
    let next : FlowSender = record s { urgent = record s.urgent { units = drop 1 s.urgent.units; out = None } } in
    let o = f.ordered in
    let p = f.pending in
    subst (λ (b : Bool). CalmAfter s [] (if b then new_sends next else nothing s) h dts eds aks rest) (sym is)
    (new_after s next [] h dts eds aks rest (record {
      format = f.format;
      ordered = record { is_open = o.is_open; first = o.first; window = o.window; high = o.high; edge = o.edge; unit = tt };
      in_order = f.in_order;
      pending = record { count = p.count; next = p.next; dts_are = p.dts_are; within = p.within };
      waiting = f.waiting;
      aks_are = f.aks_are;
      view = f.view;
      answering = record { eds_are = e.none; eas_are = e.alone; expected = e.expected ∙ sym x.3 };
    }) (record { known = level.known; waiting_are = level.waiting_are }) refl
    (λ pieces units gave showed d u full k. adds_none next h pieces units gave showed (done_carry s h x.0 pieces units gave showed x.1 (empty_by units eds u e.none) k)))
  where
    some_out : (out : Option Tries) (tries : Tries) → out ≡ None → out ≡ Some tries → ⊥
    some_out None tries n e = cc e
    some_out (Some other) tries n e = cc n

    and_from : (a b : Bool) → a ≡ true → b ≡ true → (a && b) ≡ true
    and_from true b x y = y
    and_from false b x y = x
