-- The DTs that may go, one after another: what went, and then what may still go, is the whole.
use Rattle.std.proofs.Common.{◌≡◌, ◌≢◌, ℕ, zero, suc, ◌+◌, ◌-◌, ◌<◌, ◌≤◌, Bool, true, false, nat_lt, if◌then◌else◌, ◌&&◌, not, List, [], ◌∷◌, ◌++◌, append_assoc, append-nil, refl, sym, ◌∙◌, ap, subst, arith, Some, None}
use Rattle.std.specs.Prelude.{is_some}
use Rattle.std.specs.List.{sum_by}
use Rattle.std.proofs.lemmas.List.Sums.{sum_by-cons}
use Rattle.std.proofs.lemmas.Bool.{lt-ltb, ltb-true, true≢false}
use Rattle.std.proofs.lemmas.Bool.Decides.{nat_tests}
use Rattle.tp4_flow.specs.Told.{Told}
use Rattle.tp4_sending.specs.SendingHalf.{FlowSender, Sendings, Sends, nothing, before, dts_of, has_next, rule_allows, sent_normal, one_normal, held_normal, normals, all_normals, Keeps}
use Rattle.tp4_sending.specs.Pieces.{cut_at, cut_of, count_in, end_of, Queue}

-- exactly the numbers below the end have a piece
pub pieces_end : (size : ℕ) (units : List (List ℕ)) (k : ℕ) → is_some (cut_at size units k) ≡ nat_lt k (sum_by (count_in size) units)
pieces_end size [] k = grind (arith, nat_tests)
pieces_end size (unit ∷ units) k =
    by (nat_lt k (count_in size unit)) refl (pieces_end size units (k - count_in size unit)) (sum_by-cons (count_in size) unit units)
  where
    by : (b : Bool) → nat_lt k (count_in size unit) ≡ b → is_some (cut_at size units (k - count_in size unit)) ≡ nat_lt (k - count_in size unit) (sum_by (count_in size) units)
        → sum_by (count_in size) (unit ∷ units) ≡ count_in size unit + sum_by (count_in size) units
        → is_some (if b then Some (cut_of size unit k) else cut_at size units (k - count_in size unit)) ≡ nat_lt k (sum_by (count_in size) (unit ∷ units))
    by true e rest sum = grind (arith, nat_tests)
    by false e rest sum = grind (arith, nat_tests)

pub piece_there : (size : ℕ) (queue : Queue) (n : ℕ) → queue.first ≤ n → is_some (cut_at size queue.units (n - queue.first)) ≡ nat_lt n (end_of size queue)
piece_there size queue n low = pieces_end size queue.units (n - queue.first) ∙ same
  where
    same : nat_lt (n - queue.first) (sum_by (count_in size) queue.units) ≡ nat_lt n (end_of size queue)
    same = grind (arith, nat_tests)

-- a number below the end has a piece
pub is_piece : (size : ℕ) (units : List (List ℕ)) (k : ℕ) → k < sum_by (count_in size) units → cut_at size units k ≢ None
is_piece size units k low none = true≢false (sym (lt-ltb _ _ low) ∙ sym (pieces_end size units k) ∙ ap is_some none)

pub record Going (old : FlowSender) (was : Told) (s : FlowSender) (is : Told) : Type 0 where
  pub sender : (all_normals s).sender ≡ (all_normals old).sender
  pub events : is.events ++ (all_normals s).events ≡ was.events ++ (all_normals old).events
  pub tpdus : is.tpdus ++ (all_normals s).tpdus ≡ was.tpdus ++ (all_normals old).tpdus

pub going_none : (old : FlowSender) (was : Told) → Going old was old was
going_none old was = record { sender = refl; events = refl; tpdus = refl }

-- one step of `normals`, by its two tests
abbrev by_tests : ℕ → FlowSender → Bool → Bool → Sendings
by_tests fuel s more allowed =
    if not more then nothing s else if allowed then before (dts_of s s.numbers.next) (normals fuel (sent_normal s)) else held_normal s

both : (a b : Bool) → (a && b) ≡ true → b ≡ true
both true true h = refl
both true false h = absurd (cc h)
both false b h = absurd (cc h)

pub has_more : (s : FlowSender) → has_next s ≡ true → s.numbers.next < end_of s.rules.piece s.queue
has_more s h = ltb-true _ _ (both _ _ h)

abbrev left : FlowSender → ℕ
left s = end_of s.rules.piece s.queue - (s.numbers.next + 1)

opens : (s : FlowSender) (allowed : Bool) → has_next s ≡ true → rule_allows s s.numbers.blocks s.numbers.next ≡ allowed → all_normals s ≡ by_tests (left s) s true allowed
opens s allowed more rule =
    let fuel : end_of s.rules.piece s.queue - s.numbers.next ≡ suc (left s) = omega (arith, has_more s more) in
    ap (λ (k : ℕ). normals k s) fuel
    ∙ ap (λ (b : Bool). by_tests (left s) s b (rule_allows s s.numbers.blocks s.numbers.next)) more
    ∙ ap (λ (b : Bool). by_tests (left s) s true b) rule

pub going_on : (old : FlowSender) (was : Told) (s : FlowSender) (is : Told) (new : FlowSender) (told : Told)
    → Going old was s is → has_next s ≡ true → rule_allows s s.numbers.blocks s.numbers.next ≡ true → Sends (one_normal s) new is told
    → Going old was new told × (end_of new.rules.piece new.queue - new.numbers.next < end_of s.rules.piece s.queue - s.numbers.next)
going_on old was s is new told g more rule step =
    let next : all_normals s ≡ before (dts_of s s.numbers.next) (all_normals new) =
    opens s true more rule ∙ ap (λ (h : FlowSender). before (dts_of s s.numbers.next) (all_normals h)) (sym step.sender_is) in (
      record {
        sender = ap (λ (x : Sendings). x.sender) (sym next) ∙ g.sender;
        events = ap (λ (w : Told). w.events ++ (all_normals new).events) step.told
            ∙ ap (λ (l : List _). l ++ (all_normals new).events) (append-nil is.events)
            ∙ ap (λ (x : Sendings). is.events ++ x.events) (sym next) ∙ g.events;
        tpdus = ap (λ (w : Told). w.tpdus ++ (all_normals new).tpdus) step.told
            ∙ append_assoc is.tpdus (dts_of s s.numbers.next) (all_normals new).tpdus
            ∙ ap (λ (x : Sendings). is.tpdus ++ x.tpdus) (sym next) ∙ g.tpdus;
      },
      subst (λ (h : FlowSender). end_of h.rules.piece h.queue - h.numbers.next < end_of s.rules.piece s.queue - s.numbers.next) (sym step.sender_is) (omega (arith, has_more s more)),
    )

pub stop : (fuel : ℕ) (s : FlowSender) → has_next s ≡ false → normals fuel s ≡ nothing s
stop zero s e = refl
stop (suc fuel) s e = ap (λ (b : Bool). by_tests fuel s b (rule_allows s s.numbers.blocks s.numbers.next)) e

pub going_done : (old : FlowSender) (was : Told) (s : FlowSender) (is : Told) → Going old was s is → has_next s ≡ false → Sends (all_normals old) s was is
going_done old was s is g e =
    let none : all_normals s ≡ nothing s = stop (end_of s.rules.piece s.queue - s.numbers.next) s e in
    record {
      sender_is = ap (λ (x : Sendings). x.sender) (sym none) ∙ g.sender;
      told = λ i. record {
        events = (sym (append-nil is.events) ∙ ap (λ (x : Sendings). is.events ++ x.events) (sym none) ∙ g.events) i;
        tpdus = (sym (append-nil is.tpdus) ∙ ap (λ (x : Sendings). is.tpdus ++ x.tpdus) (sym none) ∙ g.tpdus) i;
      };
    }

pub going_held : (old : FlowSender) (was : Told) (s : FlowSender) (is : Told) (new : FlowSender) (told : Told)
    → Going old was s is → has_next s ≡ true → rule_allows s s.numbers.blocks s.numbers.next ≡ false → Sends (held_normal s) new is told → Sends (all_normals old) new was told
going_held old was s is new told g more rule step =
    let held : all_normals s ≡ held_normal s = opens s false more rule in
    record {
      sender_is = step.sender_is ∙ ap (λ (x : Sendings). x.sender) (sym held) ∙ g.sender;
      told = step.told ∙ (λ i. record {
        events = (ap (λ (x : Sendings). is.events ++ x.events) (sym held) ∙ g.events) i;
        tpdus = (ap (λ (x : Sendings). is.tpdus ++ x.tpdus) (sym held) ∙ g.tpdus) i;
      });
    }

pub keeps_on : (old s new : FlowSender) (now : ℕ) → Keeps old s now → Keeps s new s.clock → Keeps old new now
keeps_on old s new now k h = record { rules = h.rules ∙ k.rules; is_open = h.is_open ∙ k.is_open; clock = h.clock ∙ k.clock }
