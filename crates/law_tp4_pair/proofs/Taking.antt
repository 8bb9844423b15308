-- A DT that waits first is the one expected: it is kept, and its AK waits behind those that wait.
use Rattle.std.proofs.Common.{◌≡◌, ℕ, zero, suc, ◌+◌, ◌<◌, ◌≤◌, ◌==◌, nat_le, Bool, true, false, if◌then◌else◌, List, [], ◌∷◌, ◌++◌, drop, replicate, Option, Some, None, refl, sym, ◌∙◌, ap, subst, arith, inl, inr, append-nil}
use Rattle.std.proofs.lemmas.Bool.{lt-leb}
use Rattle.tpdu.specs.declared.tpdu.Format.{Format}
use Rattle.tpdu.specs.declared.tpdu.Format.TheVariants.{Normal, Extended}
use Rattle.tp4_flow.specs.ReceivingHalf.{Half, Received, block_in as block_there, dt_arrival, taken_dt, half_after, ak, aks as aks_for}
use Rattle.tp4_number.specs.declared.got.Got.{Got}
use Rattle.tp4_number.specs.declared.got.Got.TheVariants.{Kept, Old, Outside, TooLarge}
use Rattle.tp4_number.specs.declared.piece.Piece.{Piece}
use Rattle.tp4_number.specs.Formats.{block_of, most_of}
use Rattle.tp4_number.specs.Number.{whole, wire, ahead}
use Rattle.tp4_number.specs.Receiver.{Inbox, Arrived, arrived, arrived_as, kept}
use Rattle.tp4_number.specs.Window.{Held, Joined, joined, joined_by, begun_by, is_larger}
use Rattle.tp4_number.proofs.Numbers.{near_is}
use Rattle.tp4_sending.specs.SendingHalf.{FlowSender, block_in}
use Rattle.script_journal.specs.Lawful.{Marked}
use Rattle.law_tp4_history.specs.Lines.{shown_in}
use Rattle.law_tp4_pair.specs.Carrying.{Carries}
use Rattle.law_tp4_pair.proofs.Carried.{dt_carry}
use Rattle.law_tp4_pair.specs.Waiting.{AreData, View, dts_in, eds_in, aks_in, eas_in, wires, views}
use Rattle.law_tp4_pair.specs.Flowing.{IsInOrder, known, said, Further, AllGive, IsAnswering, Flows, IsLevel, IsCalm}
use Rattle.law_tp4_pair.proofs.Wires.{leads_on, give_on, views_then}

pub some_block : (format : Format) → 0 < block_of format
some_block Normal = omega arith
some_block Extended = omega arith

pub most_low : (format : Format) → most_of format < block_of format
most_low Normal = omega arith
most_low Extended = omega arith

some_most : (format : Format) → (k : ℕ) × (most_of format ≡ suc k)
some_most Normal = (14, refl)
some_most Extended = (254, refl)

-- the number expected lies at no distance
no_distance : (block e : ℕ) → 0 < block → ahead block (wire block e) (wire block e) ≡ 0
no_distance block e some = omega (arith, near_is block e e some (omega arith) (omega arith))

-- places that hold nothing
none_joined : (begun : List ℕ) (k : ℕ) → joined begun (replicate k None) ≡ record { count = 0; units = []; begun = begun; is_large = false }
none_joined begun zero = refl
none_joined begun (suc k) = refl

one_behind : {A : Type 0} (a : A) (k : ℕ) → replicate k a ++ a ∷ [] ≡ a ∷ replicate k a
one_behind a zero = refl
one_behind {A} a (suc k) = ap (λ (l : List A). a ∷ l) (one_behind a k)

-- it is kept
record Passes (inbox : Inbox) (piece : Piece) (a : Arrived) : Type 0 where
  got : a.got ≡ Kept
  count : a.count ≡ 1
  credit : a.inbox.credit ≡ inbox.credit
  subsequence : a.inbox.subsequence ≡ 0
  held : a.inbox.held.places ≡ inbox.held.places
  units : a.units ≡ (if piece.last then (inbox.held.begun ++ piece.octets) ∷ [] else [])
  begun : a.inbox.held.begun ≡ begun_by piece (inbox.held.begun ++ piece.octets)

abbrev bare : ℕ → ℕ → List ℕ → ℕ → Inbox
bare credit subsequence begun k = record { credit = credit; subsequence = subsequence; held = record { places = None ∷ replicate k None; begun = begun } }

-- the piece is alone in order
alone : (credit subsequence k : ℕ) (begun : List ℕ) (piece : Piece) (large : Bool) → is_larger begun piece ≡ large
    → ((arrived_as Kept (bare credit subsequence begun k) 0 piece).got ≡ TooLarge → ⊥) → Passes (bare credit subsequence begun k) piece (arrived_as Kept (bare credit subsequence begun k) 0 piece)
alone credit subsequence k begun piece true e fits =
    absurd (fits (ap (λ (b : Bool). (kept (bare credit subsequence begun k) (record { places = Some piece ∷ replicate k None; begun = begun }) (if b then record { count = 0; units = []; begun = begun; is_large = true }
    else joined_by piece (begun ++ piece.octets) (joined (begun_by piece (begun ++ piece.octets)) (replicate k None)))).got) e))
alone credit subsequence k begun piece false e fits =
    let held : Held = record { places = Some piece ∷ replicate k None; begun = begun } in
    let inbox : Inbox = bare credit subsequence begun k in
    let rest = none_joined (begun_by piece (begun ++ piece.octets)) k in
    let by : Joined = joined_by piece (begun ++ piece.octets) (joined (begun_by piece (begun ++ piece.octets)) (replicate k None)) in
    let is : joined begun (Some piece ∷ replicate k None) ≡ by = ap (λ (b : Bool). if b then record { count = 0; units = []; begun = begun; is_large = true } else by) e in
    let one : by.count ≡ 1 = ap (λ (j : Joined). j.count + 1) rest in
    let count : (joined begun (Some piece ∷ replicate k None)).count ≡ 1 = ap (λ (j : Joined). j.count) is ∙ one in
    record {
      got = ap (λ (j : Joined). if j.is_large then TooLarge else Kept) is ∙ ap (λ (j : Joined). if j.is_large then TooLarge else Kept) rest;
      count = count;
      credit = refl;
      subsequence = ap (λ (n : ℕ). if n == 0 then subsequence else 0) count;
      held = ap (λ (n : ℕ). drop n (Some piece ∷ replicate k None) ++ replicate n None) count ∙ one_behind None k;
      units = ap (λ (j : Joined). j.units) is ∙ ap (λ (j : Joined). if piece.last then (begun ++ piece.octets) ∷ j.units else j.units) rest;
      begun = ap (λ (j : Joined). j.begun) is ∙ ap (λ (j : Joined). j.begun) rest;
    }

passes_bare : (block credit subsequence k : ℕ) (begun : List ℕ) (piece : Piece) → 0 < block → 0 < credit
    → ((arrived block (bare credit subsequence begun k) 0 piece).got ≡ TooLarge → ⊥) → Passes (bare credit subsequence begun k) piece (arrived block (bare credit subsequence begun k) 0 piece)
passes_bare block credit subsequence k begun piece some room fits =
    let near_enough : nat_le block 0 ≡ false = lt-leb _ _ some in
    let within : nat_le credit 0 ≡ false = lt-leb _ _ room in
    let is : arrived block (bare credit subsequence begun k) 0 piece ≡ arrived_as Kept (bare credit subsequence begun k) 0 piece =
    ap (λ (b : Bool). arrived_as (if b then Old else if nat_le credit 0 then Outside else Kept) (bare credit subsequence begun k) 0 piece) near_enough
    ∙ ap (λ (b : Bool). arrived_as (if b then Outside else Kept) (bare credit subsequence begun k) 0 piece) within in
    subst (Passes (bare credit subsequence begun k) piece) (sym is)
    (alone credit subsequence k begun piece (is_larger begun piece) refl (λ e. fits (ap (λ (a : Arrived). a.got) is ∙ e)))

passes : (h : Half) (piece : Piece) → IsInOrder h → 0 < h.receiver.inbox.credit → ((dt_arrival h (wire (block_there h) h.receiver.expected) piece).got ≡ TooLarge → ⊥)
    → Passes h.receiver.inbox piece (dt_arrival h (wire (block_there h) h.receiver.expected) piece)
passes h piece o room fits =
    let some = some_block h.rules.format in
    let more = some_most h.rules.format in
    let places : h.receiver.inbox.held.places ≡ None ∷ replicate more.0 None = o.held ∙ ap (λ (n : ℕ). replicate n None) more.1 in
    let inbox = h.receiver.inbox in
    let same : bare inbox.credit inbox.subsequence inbox.held.begun more.0 ≡ inbox = λ i. record inbox { held = record inbox.held { places = sym places i } } in
    let at : arrived (block_there h) inbox 0 piece ≡ dt_arrival h (wire (block_there h) h.receiver.expected) piece =
    ap (λ (d : ℕ). arrived (block_there h) inbox d piece) (sym (no_distance (block_there h) h.receiver.expected some)) in
    subst (Passes inbox piece) at
    (subst (λ (b : Inbox). ((arrived (block_there h) b 0 piece).got ≡ TooLarge → ⊥) → Passes b piece (arrived (block_there h) b 0 piece)) same
    (passes_bare (block_there h) inbox.credit inbox.subsequence more.0 inbox.held.begun piece some room)
    (λ e. fits (ap (λ (a : Arrived). a.got) (sym at) ∙ e)))

-- ---- the direction after it

-- the receiver goes on by one number
pub record GoesOn (h new : Half) : Type 0 where
  pub rules : new.rules ≡ h.rules
  pub expected : new.receiver.expected ≡ h.receiver.expected + 1
  pub urgent : new.receiver.urgent ≡ h.receiver.urgent
  pub credit : new.receiver.inbox.credit ≡ h.receiver.inbox.credit
  pub subsequence : new.receiver.inbox.subsequence ≡ 0
  pub held : new.receiver.inbox.held.places ≡ h.receiver.inbox.held.places

first_is : (a b : ℕ) (l m : List ℕ) → a ∷ l ≡ b ∷ m → (a ≡ b) × (l ≡ m)
first_is a b l m e = (cc, cc)

-- the one that waits first is the one expected
pub record IsFirst (s : FlowSender) (h : Half) (w : ℕ) (rest : List ℕ) : Type 0 where
  pub left : ℕ
  pub next : s.numbers.next ≡ h.receiver.expected + suc left
  pub number : w ≡ wire (block_in s) h.receiver.expected
  pub rest_are : rest ≡ wires (block_in s) (h.receiver.expected + 1) left
  pub within : suc left ≤ h.receiver.inbox.credit

pub is_first : (s : FlowSender) (h : Half) (w : ℕ) (rest eds : List ℕ) (aks : List View) (eas : List ℕ) → Flows s h (w ∷ rest) eds aks eas → IsFirst s h w rest
is_first s h w rest eds aks eas f = by f.pending.count f.pending.next f.pending.dts_are f.pending.within
  where
    by : (count : ℕ) → s.numbers.next ≡ h.receiver.expected + count → w ∷ rest ≡ wires (block_in s) h.receiver.expected count → count ≤ h.receiver.inbox.credit → IsFirst s h w rest
    by zero n e l = absurd (cc e)
    by (suc left) n e l =
        let both = first_is w (wire (block_in s) h.receiver.expected) rest (wires (block_in s) (h.receiver.expected + 1) left) e in
        record { left = left; next = n; number = both.0; rest_are = both.1; within = l }

pub answering_there : (block : ℕ) (s : FlowSender) (h new : Half) (eds eas : List ℕ) → new.receiver.urgent ≡ h.receiver.urgent → IsAnswering block s.urgent.next s.urgent.out h eds eas → IsAnswering block s.urgent.next s.urgent.out new eds eas
answering_there block s h new eds eas e = by s.urgent.out
  where
    by : (out : Option _) → IsAnswering block s.urgent.next out h eds eas → IsAnswering block s.urgent.next out new eds eas
    by None q = record { eds_are = q.eds_are; eas_are = q.eas_are; expected = e ∙ q.expected }
    by (Some tries) q = (
      q.0,
      q.1,
      elim q.2 [
        | inl asked ↦ inl (record { eds_are = asked.eds_are; eas_are = asked.eas_are; expected = e ∙ asked.expected })
        | inr answered ↦ inr (record { eds_are = answered.eds_are; eas_are = answered.eas_are; expected = e ∙ answered.expected })
      ],
    )

pub dt_goes_on : (s : FlowSender) (h new : Half) (w : ℕ) (rest eds : List ℕ) (aks : List View) (eas : List ℕ) → IsCalm s h (w ∷ rest) eds aks eas → GoesOn h new
    → IsCalm s new rest eds (aks ++ views (block_in s) (said new ∷ [])) eas
dt_goes_on s h new w rest eds aks eas c g =
    let f = c.flows in
    let first = is_first s h w rest eds aks eas f in
    let level : IsLevel s h f.waiting = elim c.credit [ inl l ↦ l | inr changing ↦ absurd (omega (arith, changing.next, first.next)) ] in
    record {
      flows = record {
        format = ap (λ (r : _). r.format) g.rules ∙ f.format;
        ordered = f.ordered;
        in_order = record {
          held = g.held ∙ f.in_order.held ∙ ap (λ (r : _). replicate (most_of r.format) None) (sym g.rules);
          credit = subst (λ (r : _). new.receiver.inbox.credit ≤ most_of r.format) (sym g.rules) (omega (arith, g.credit, f.in_order.credit));
        };
        pending = record {
          count = first.left;
          next = omega (arith, first.next, g.expected);
          dts_are = first.rest_are ∙ ap (λ (n : ℕ). wires (block_in s) n first.left) (sym g.expected);
          within = omega (arith, first.within, g.credit);
        };
        waiting = f.waiting ++ said new ∷ [];
        aks_are = ap (λ (l : List View). l ++ views (block_in s) (said new ∷ [])) f.aks_are ∙ sym (views_then (block_in s) f.waiting (said new ∷ []));
        view = leads_on (known s) f.waiting (said h) (said new) f.view (Further (omega (arith, g.expected)));
        answering = answering_there (block_in s) s h new eds eas g.urgent f.answering;
      };
      credit = inl (record {
        known = level.known ∙ sym g.credit;
        waiting_are = give_on new.receiver.inbox.credit f.waiting (said new) (subst (λ (n : ℕ). AllGive n f.waiting) (sym g.credit) level.waiting_are) refl;
      });
      settled = c.settled;
    }

-- ---- what is sent for it

pub record TakesDt (s : FlowSender) (h : Half) (rest eds : List ℕ) (aks : List View) (eas : List ℕ) (piece : Piece) (x : Received) : Type 0 where
  pub carried : (pieces : List Piece) (units : List (List ℕ)) (gave showed : List Marked) → Carries s h (piece ∷ pieces) units gave showed → Carries s x.half pieces units gave (showed ++ shown_in x.events)
  pub calm : IsCalm s x.half rest eds (aks ++ aks_in x.tpdus) (eas ++ eas_in x.tpdus)
  pub dts : dts_in x.tpdus ≡ []
  pub eds_are : eds_in x.tpdus ≡ []
  pub goes_on : GoesOn h x.half
  pub data_are : AreData h.rules x.tpdus

taken_there : (s : FlowSender) (h : Half) (w : ℕ) (rest eds : List ℕ) (aks : List View) (eas : List ℕ) (piece : Piece) → IsCalm s h (w ∷ rest) eds aks eas
    → Passes h.receiver.inbox piece (dt_arrival h (wire (block_there h) h.receiver.expected) piece)
    → TakesDt s h rest eds aks eas piece (taken_dt whole h (wire (block_there h) h.receiver.expected) piece)
taken_there s h w rest eds aks eas piece c p =
    let a : Arrived = dt_arrival h (wire (block_there h) h.receiver.expected) piece in
    let new : Half = half_after whole h a in
    let on : GoesOn h new = record {
      rules = refl;
      expected = ap (λ (n : ℕ). h.receiver.expected + n) p.count;
      urgent = refl;
      credit = p.credit;
      subsequence = p.subsequence;
      held = p.held;
    } in
    let one : aks_for a.got new ≡ ak new ∷ [] = ap (λ (g : Got). aks_for g new) p.got in
    let said_on : aks_in (aks_for a.got new) ≡ views (block_in s) (said new ∷ []) =
    ap aks_in one ∙ ap (λ (f : Format). record { number = wire (block_of f) new.receiver.expected; credit = new.receiver.inbox.credit; subsequence = new.receiver.inbox.subsequence } ∷ []) c.flows.format in
    let none : eas_in (aks_for a.got new) ≡ [] = ap eas_in one in
    record {
      calm = subst (λ (l : List View). IsCalm s new rest eds (aks ++ l) (eas ++ eas_in (aks_for a.got new))) (sym said_on)
          (subst (λ (l : List ℕ). IsCalm s new rest eds (aks ++ views (block_in s) (said new ∷ [])) l) (sym (ap (λ (l : List ℕ). eas ++ l) none ∙ append-nil eas))
          (dt_goes_on s h new w rest eds aks eas c on));
      dts = ap dts_in one;
      eds_are = ap eds_in one;
      goes_on = on;
      carried = λ pieces units gave showed k. dt_carry s h new piece pieces units a.units gave showed on.expected p.units p.begun h.rules.own k;
      data_are = subst (AreData h.rules) (sym one) (record { to = refl; format = refl; sum = refl; kind = refl }, tt);
    }

-- a DT comes, and no unit becomes too large
pub dt_taken : (s : FlowSender) (h : Half) (w : ℕ) (rest eds : List ℕ) (aks : List View) (eas : List ℕ) (piece : Piece) → IsCalm s h (w ∷ rest) eds aks eas
    → ((dt_arrival h w piece).got ≡ TooLarge → ⊥) → TakesDt s h rest eds aks eas piece (taken_dt whole h w piece)
dt_taken s h w rest eds aks eas piece c fits =
    let first = is_first s h w rest eds aks eas c.flows in
    let is : w ≡ wire (block_there h) h.receiver.expected = first.number ∙ ap (λ (f : Format). wire (block_of f) h.receiver.expected) (sym c.flows.format) in
    subst (λ (k : ℕ). TakesDt s h rest eds aks eas piece (taken_dt whole h k piece)) (sym is)
    (taken_there s h w rest eds aks eas piece c
    (passes h piece c.flows.in_order (omega (arith, first.within)) (subst (λ (k : ℕ). (dt_arrival h k piece).got ≡ TooLarge → ⊥) is fits)))
