-- What the new sends carry: the pieces of the numbers that they have, and the first of the expedited units that wait. What a half shows, and what
-- frees and adds units.
use Rattle.std.proofs.Common.{◌≡◌, ℕ, zero, suc, ◌+◌, ◌-◌, ◌<◌, ◌≤◌, ◌==◌, ◌||◌, nat_lt, Bool, true, false, if◌then◌else◌, List, [], ◌∷◌, ◌++◌, length, drop, Option, Some, None, refl, sym, ◌∙◌, ap, subst, arith, append-nil, append_assoc, length-append}
use Rattle.std.specs.Prelude.{not, is_some}
use Rattle.std.specs.List.{sum_by}
use Rattle.std.proofs.lemmas.List.Sums.{sum_by-append}
use Rattle.std.proofs.lemmas.Bool.{and_parts, or_parts, not-false}
use Rattle.tpdu.specs.declared.tpdu.Tpdu.{Tpdu}
use Rattle.tpdu.specs.declared.tpdu.Tpdu.TheVariants.{Dt, Ed}
use Rattle.script_journal.specs.Lawful.{Marked, Normal, Expedited, expediteds, normals as normal_units}
use Rattle.tp4_flow.specs.ReceivingHalf.{Half, empty}
use Rattle.tp4_flow.specs.Told.{gots}
use Rattle.tp4_flow.specs.declared.rules.FlowRules.{FlowRules}
use Rattle.tp4_flow.specs.declared.step.Sent.{Sent}
use Rattle.tp4_number.specs.declared.piece.Piece.{Piece}
use Rattle.tp4_number.specs.Receiver.{Inbox}
use Rattle.tp4_number.specs.Sender.{Sender}
use Rattle.tp4_number.specs.Window.{begun_by}
use Rattle.tp4_number.proofs.Past.{if_kept}
use Rattle.tp4_sending.specs.SendingHalf.{FlowSender, UrgentSender, Sendings, nothing, then_sends, rule_allows, dts, eds, is_noted, sent_urgent, one_urgent, sent_normal, has_next, normals, is_urgent, normals_where, new_sends, at, fresh, opened}
use Rattle.tp4_sending.specs.Pieces.{Queue, count_in, cut_at, end_of, once, freed}
use Rattle.tp4_sending.specs.declared.tries.Tries.{Tries}
use Rattle.tp4_sending.proofs.Goings.{piece_there}
use Rattle.law_tp4_history.specs.Lines.{shown_in}
use Rattle.law_tp4_history.proofs.FlowUnits.{cut_behind, freed_front}
use Rattle.law_tp4_history.specs.Complete.{AllFull, Complete}
use Rattle.law_tp4_history.proofs.Complete.{complete_more, cut_more, full_more, one_piece, shown_on}
use Rattle.law_tp4_history.proofs.Marks.{normals-append, expediteds-append}
use Rattle.law_tp4_pair.specs.Carrying.{AreLeft, ArePieces, Carries, piece_in, pieces_in, unit_in, units_in}
use Rattle.law_tp4_pair.specs.Flowing.{HasUnit, IsOrdered}
use Rattle.law_tp4_pair.specs.Waiting.{dt_in, dts_in, ed_in, eds_in, wires}
use Rattle.law_tp4_pair.proofs.Sends.{sends_new, urgent_sends, where_sends}

-- ---- lists

pub pieces_then : (a b : List Sent) → pieces_in (a ++ b) ≡ pieces_in a ++ pieces_in b
pieces_then [] b = refl
pieces_then (sent ∷ a) b = ap (λ (l : List Piece). piece_in sent.tpdu ++ l) (pieces_then a b) ∙ sym (append_assoc (piece_in sent.tpdu) (pieces_in a) (pieces_in b))

pub units_then : (a b : List Sent) → units_in (a ++ b) ≡ units_in a ++ units_in b
units_then [] b = refl
units_then (sent ∷ a) b = ap (λ (l : List (List ℕ)). unit_in sent.tpdu ++ l) (units_then a b) ∙ sym (append_assoc (unit_in sent.tpdu) (units_in a) (units_in b))

one_piece_in : (tpdu : Tpdu) → length (piece_in tpdu) ≡ length (dt_in tpdu)
one_piece_in (Dt destination last number text) = refl
one_piece_in other = refl

one_unit_in : (tpdu : Tpdu) → length (unit_in tpdu) ≡ length (ed_in tpdu)
one_unit_in (Ed destination last number text) = refl
one_unit_in other = refl

pub pieces_count : (l : List Sent) → length (pieces_in l) ≡ length (dts_in l)
pieces_count [] = refl
pieces_count (sent ∷ l) =
    length-append (piece_in sent.tpdu) (pieces_in l) ∙ (λ i. one_piece_in sent.tpdu i + pieces_count l i) ∙ sym (length-append (dt_in sent.tpdu) (dts_in l))

pub units_count : (l : List Sent) → length (units_in l) ≡ length (eds_in l)
units_count [] = refl
units_count (sent ∷ l) =
    length-append (unit_in sent.tpdu) (units_in l) ∙ (λ i. one_unit_in sent.tpdu i + units_count l i) ∙ sym (length-append (ed_in sent.tpdu) (eds_in l))

pub empty_by : {A B : Type 0} (a : List A) (b : List B) → length a ≡ length b → b ≡ [] → a ≡ []
empty_by [] b e none = refl
empty_by (x ∷ a) b e none = absurd (omega (arith, e, ap length none))

pub no_pieces : (l : List Sent) → dts_in l ≡ [] → pieces_in l ≡ []
no_pieces l e = empty_by (pieces_in l) (dts_in l) (pieces_count l) e

pub no_units : (l : List Sent) → eds_in l ≡ [] → units_in l ≡ []
no_units l e = empty_by (units_in l) (eds_in l) (units_count l) e

pub wires_count : (block n count : ℕ) → length (wires block n count) ≡ count
wires_count block n zero = refl
wires_count block n (suc count) = ap suc (wires_count block (n + 1) count)

pub pieces_behind : (size : ℕ) (units : List (List ℕ)) (n : ℕ) (a b : List Piece) → ArePieces size units n a → ArePieces size units (n + length a) b → ArePieces size units n (a ++ b)
pieces_behind size units n [] b first second = subst (λ (k : ℕ). ArePieces size units k b) (omega arith) second
pieces_behind size units n (piece ∷ a) b first second =
    let on : n + length (piece ∷ a) ≡ n + 1 + length a = omega arith in
    (first.0, pieces_behind size units (n + 1) a b first.1 (subst (λ (k : ℕ). ArePieces size units k b) on second))

pub pieces_more : (size : ℕ) (units more : List (List ℕ)) (n : ℕ) (l : List Piece) → ArePieces size units n l → ArePieces size (units ++ more) n l
pieces_more size units more n [] p = tt
pieces_more size units more n (piece ∷ l) p = ((cut_more size units more n piece p.0).0, pieces_more size units more (n + 1) l p.1)

-- ---- the DTs that go

abbrev IsCutFrom : List (List ℕ) → FlowSender → Type 0
IsCutFrom all s = (n : ℕ) → s.queue.first ≤ n → cut_at s.rules.piece all n ≡ cut_at s.rules.piece s.queue.units (n - s.queue.first)

piece_before : (all : List (List ℕ)) (s : FlowSender) (n : ℕ) (piece : Option Piece) (tpdus : List Sent) → is_some piece ≡ true → cut_at s.rules.piece all n ≡ piece
    → ArePieces s.rules.piece all (n + 1) (pieces_in tpdus) → ArePieces s.rules.piece all n (pieces_in (dts s n piece ++ tpdus))
piece_before all s n None tpdus e is rest = absurd (cc e)
piece_before all s n (Some piece) tpdus e is rest = (is, rest)

pieces_of : (all : List (List ℕ)) (fuel : ℕ) (s : FlowSender) → s.queue.first ≤ s.numbers.next → IsCutFrom all s → ArePieces s.rules.piece all s.numbers.next (pieces_in (normals fuel s).tpdus)
pieces_of all zero s low cut = tt
pieces_of all (suc fuel) s low cut =
    if_kept (λ (x : Sendings). ArePieces s.rules.piece all s.numbers.next (pieces_in x.tpdus)) (not (has_next s)) _ _
    (λ _. tt)
    (λ more.
    let both = and_parts (nat_lt s.numbers.next (s.numbers.base + s.numbers.credit)) (nat_lt s.numbers.next (end_of s.rules.piece s.queue)) (not-false (has_next s) more) in
    if_kept (λ (x : Sendings). ArePieces s.rules.piece all s.numbers.next (pieces_in x.tpdus)) (rule_allows s s.numbers.blocks s.numbers.next) _ _
    (λ _. piece_before all s s.numbers.next (cut_at s.rules.piece s.queue.units (s.numbers.next - s.queue.first)) (normals fuel (sent_normal s)).tpdus
    (piece_there s.rules.piece s.queue s.numbers.next low ∙ both.1) (cut s.numbers.next low) (pieces_of all fuel (sent_normal s) (omega (arith, low)) cut))
    (λ _. if_kept (λ (x : Sendings). ArePieces s.rules.piece all s.numbers.next (pieces_in x.tpdus)) (is_noted s.noted s.numbers.next) _ _ (λ _. tt) (λ _. tt)))

where_pieces : (all : List (List ℕ)) (s : FlowSender) → s.queue.first ≤ s.numbers.next → IsCutFrom all s → ArePieces s.rules.piece all s.numbers.next (pieces_in (normals_where s).tpdus)
where_pieces all s low cut = if_kept (λ (x : Sendings). ArePieces s.rules.piece all s.numbers.next (pieces_in x.tpdus)) (is_urgent s) _ _ (λ _. tt)
    (λ _. pieces_of all (end_of s.rules.piece s.queue - s.numbers.next) s low cut)

-- after the ED, whose call leaves numbers and queue
record IsSame (s t : FlowSender) : Type 0 where
  numbers : t.numbers ≡ s.numbers
  rules : t.rules ≡ s.rules
  queue : t.queue ≡ s.queue

same_pieces : (all : List (List ℕ)) (s t : FlowSender) → IsSame s t → s.queue.first ≤ s.numbers.next → IsCutFrom all s → ArePieces s.rules.piece all s.numbers.next (pieces_in (normals_where t).tpdus)
same_pieces all s t e low cut =
    subst (λ (r : FlowRules). ArePieces r.piece all s.numbers.next (pieces_in (normals_where t).tpdus)) e.rules
    (subst (λ (n : Sender). ArePieces t.rules.piece all n.next (pieces_in (normals_where t).tpdus)) e.numbers
    (where_pieces all t (omega (arith, low, ap (λ (q : Queue). q.first) e.queue, ap (λ (n : Sender). n.next) e.numbers))
    (λ n from. subst (λ (q : Queue). cut_at t.rules.piece all n ≡ cut_at t.rules.piece q.units (n - q.first)) (sym e.queue)
    (subst (λ (r : FlowRules). cut_at r.piece all n ≡ cut_at r.piece s.queue.units (n - s.queue.first)) (sym e.rules)
    (cut n (omega (arith, from, ap (λ (q : Queue). q.first) e.queue)))))))

new_pieces : (all : List (List ℕ)) (s : FlowSender) → IsOrdered s → IsCutFrom all s → ArePieces s.rules.piece all s.numbers.next (pieces_in (new_sends s).tpdus)
new_pieces all s o cut =
    let u = urgent_sends s o in
    let low : s.queue.first ≤ s.numbers.next = omega (arith, o.first, o.window) in
    subst (λ (b : Bool). ArePieces s.rules.piece all s.numbers.next (pieces_in (if b then then_sends (one_urgent s) normals_where else nothing s).tpdus)) (sym o.is_open)
    (subst (ArePieces s.rules.piece all s.numbers.next) (sym (pieces_then (one_urgent s).tpdus (normals_where (one_urgent s).sender).tpdus
    ∙ ap (λ (l : List Piece). l ++ pieces_in (normals_where (one_urgent s).sender).tpdus) (no_pieces (one_urgent s).tpdus u.dts)))
    (same_pieces all s (one_urgent s).sender (record { numbers = u.numbers; rules = u.rules; queue = u.queue }) low cut))

-- ---- the ED that goes

abbrev Leaves : FlowSender → Sendings → Type 0
Leaves s x = (waiting left : List (List ℕ)) → (s.urgent.out ≡ None → waiting ≡ []) → AreLeft s.urgent.out waiting s.urgent.units left
    → AreLeft x.sender.urgent.out (waiting ++ units_in x.tpdus) x.sender.urgent.units left

none_leaves : (out : Option Tries) (units waiting left : List (List ℕ)) → AreLeft out waiting units left → AreLeft out (waiting ++ []) units left
none_leaves out units waiting left a = subst (λ (l : List (List ℕ)). AreLeft out l units left) (sym (append-nil waiting)) a

ed_leaves : (s : FlowSender) (units : List (List ℕ)) → s.urgent.units ≡ units → (length units == 0) ≡ false → s.urgent.out ≡ None
    → Leaves s (record { sender = sent_urgent s; events = []; tpdus = eds s s.urgent.next units })
ed_leaves s [] is some none waiting left quiet a = absurd (cc some)
ed_leaves s (unit ∷ units) is some none waiting left quiet a =
    let all : left ≡ s.urgent.units = by s.urgent.out none a in
    subst (λ (l : List (List ℕ)). AreLeft (Some (once s.clock)) (l ++ unit ∷ []) s.urgent.units left) (sym (quiet none)) (all, is ∙ ap (λ (l : List (List ℕ)). unit ∷ drop 1 l) (sym is))
  where
    by : (out : Option Tries) → out ≡ None → AreLeft out waiting s.urgent.units left → left ≡ s.urgent.units
    by None e b = b
    by (Some tries) e b = absurd (cc e)

urgent_leaves : (s : FlowSender) → Leaves s (one_urgent s)
urgent_leaves s waiting left quiet a =
    if_kept (λ (x : Sendings). AreLeft x.sender.urgent.out (waiting ++ units_in x.tpdus) x.sender.urgent.units left) (is_some s.urgent.out || length s.urgent.units == 0) _ _
    (λ _. none_leaves s.urgent.out s.urgent.units waiting left a)
    (λ free.
    let both = or_parts (is_some s.urgent.out) (length s.urgent.units == 0) free in
    if_kept (λ (x : Sendings). AreLeft x.sender.urgent.out (waiting ++ units_in x.tpdus) x.sender.urgent.units left) (rule_allows s s.urgent.blocks s.urgent.next) _ _
    (λ _. ed_leaves s s.urgent.units refl both.1 (is_none s.urgent.out both.0) waiting left quiet a)
    (λ _. if_kept (λ (x : Sendings). AreLeft x.sender.urgent.out (waiting ++ units_in x.tpdus) x.sender.urgent.units left) (is_noted s.urgent.noted s.urgent.next) _ _
    (λ _. none_leaves s.urgent.out s.urgent.units waiting left a)
    (λ _. none_leaves s.urgent.out s.urgent.units waiting left a)))
  where
    is_none : (out : Option Tries) → is_some out ≡ false → out ≡ None
    is_none None e = refl
    is_none (Some tries) e = absurd (cc e)

new_leaves : (s : FlowSender) → IsOrdered s → Leaves s (new_sends s)
new_leaves s o waiting left quiet a =
    let u = urgent_sends s o in
    let w = where_sends (one_urgent s).sender u.ordered in
    let y : Sendings = normals_where (one_urgent s).sender in
    subst (λ (b : Bool). AreLeft (if b then then_sends (one_urgent s) normals_where else nothing s).sender.urgent.out (waiting ++ units_in (if b then then_sends (one_urgent s) normals_where else nothing s).tpdus)
    (if b then then_sends (one_urgent s) normals_where else nothing s).sender.urgent.units left) (sym o.is_open)
    (subst (λ (l : List (List ℕ)). AreLeft y.sender.urgent.out (waiting ++ l) y.sender.urgent.units left)
    (sym (units_then (one_urgent s).tpdus y.tpdus ∙ ap (λ (l : List (List ℕ)). units_in (one_urgent s).tpdus ++ l) (no_units y.tpdus w.eds) ∙ append-nil (units_in (one_urgent s).tpdus)))
    (subst (λ (v : UrgentSender). AreLeft v.out (waiting ++ units_in (one_urgent s).tpdus) v.units left) (sym w.urgent) (urgent_leaves s waiting left quiet a)))

-- ---- all that goes

-- where none is outstanding no ED waits
abbrev IsQuietThere : FlowSender → List (List ℕ) → Type 0
IsQuietThere s units = s.urgent.out ≡ None → units ≡ []

pub sends_carry : (s : FlowSender) (h : Half) (pieces : List Piece) (units : List (List ℕ)) (gave showed : List Marked) → IsOrdered s → s.numbers.next ≡ h.receiver.expected + length pieces → IsQuietThere s units
    → Carries s h pieces units gave showed → Carries (new_sends s).sender h (pieces ++ pieces_in (new_sends s).tpdus) (units ++ units_in (new_sends s).tpdus) gave showed
sends_carry s h pieces units gave showed o at quiet c =
    let g = sends_new s o in
    let all : List (List ℕ) = normal_units gave in
    let cut : IsCutFrom all s = λ n low.
    ap (λ (us : List (List ℕ)). cut_at s.rules.piece us n) c.normal
    ∙ cut_behind s.rules.piece c.acknowledged s.queue.units n (omega (arith, low, c.first))
    ∙ ap (λ (k : ℕ). cut_at s.rules.piece s.queue.units (n - k)) (sym c.first) in
    record {
      some = subst (λ (r : FlowRules). 0 < r.piece) (sym g.rules) c.some;
      full = c.full;
      acknowledged = c.acknowledged;
      normal = c.normal ∙ ap (λ (q : Queue). c.acknowledged ++ q.units) (sym g.queue);
      first = subst (λ (r : FlowRules). (new_sends s).sender.queue.first ≡ sum_by (count_in r.piece) c.acknowledged) (sym g.rules) (ap (λ (q : Queue). q.first) g.queue ∙ c.first);
      pieces_are = subst (λ (r : FlowRules). ArePieces r.piece all h.receiver.expected (pieces ++ pieces_in (new_sends s).tpdus)) (sym g.rules)
          (pieces_behind s.rules.piece all h.receiver.expected pieces (pieces_in (new_sends s).tpdus) c.pieces_are
          (subst (λ (n : ℕ). ArePieces s.rules.piece all n (pieces_in (new_sends s).tpdus)) at (new_pieces all s o cut)));
      complete = subst (λ (r : FlowRules). Complete r.piece all h.receiver.expected (normal_units showed) h.receiver.inbox.held.begun) (sym g.rules) c.complete;
      left = c.left;
      expedited = c.expedited;
      left_are = new_leaves s o units c.left quiet c.left_are;
    }

-- ---- what an event changes

-- units that were acknowledged go from the queue
pub freed_carry : (s t : FlowSender) (h : Half) (n : ℕ) (pieces : List Piece) (units : List (List ℕ)) (gave showed : List Marked) → t.rules ≡ s.rules → t.urgent ≡ s.urgent → t.queue ≡ freed s.rules.piece n s.queue
    → Carries s h pieces units gave showed → Carries t h pieces units gave showed
freed_carry s t h n pieces units gave showed rules urgent queue c =
    let f = freed_front s.rules.piece n s.queue.first s.queue.units in
    record {
      some = subst (λ (r : FlowRules). 0 < r.piece) (sym rules) c.some;
      full = c.full;
      acknowledged = c.acknowledged ++ f.gone;
      normal = c.normal ∙ ap (λ (us : List (List ℕ)). c.acknowledged ++ us) f.units_are ∙ sym (append_assoc c.acknowledged f.gone (freed s.rules.piece n s.queue).units)
          ∙ ap (λ (q : Queue). (c.acknowledged ++ f.gone) ++ q.units) (sym queue);
      first = subst (λ (r : FlowRules). t.queue.first ≡ sum_by (count_in r.piece) (c.acknowledged ++ f.gone)) (sym rules)
          (omega (arith, ap (λ (q : Queue). q.first) queue, f.first_is, c.first, sum_by-append (count_in s.rules.piece) c.acknowledged f.gone));
      pieces_are = subst (λ (r : FlowRules). ArePieces r.piece (normal_units gave) h.receiver.expected pieces) (sym rules) c.pieces_are;
      complete = subst (λ (r : FlowRules). Complete r.piece (normal_units gave) h.receiver.expected (normal_units showed) h.receiver.inbox.held.begun) (sym rules) c.complete;
      left = c.left;
      expedited = c.expedited;
      left_are = subst (λ (u : UrgentSender). AreLeft u.out units u.units c.left) (sym urgent) c.left_are;
    }

-- nothing is submitted, and the queue stays
kept_carry : {s : FlowSender} {h : Half} {pieces : List Piece} {units : List (List ℕ)} {gave showed : List Marked} (c : Carries s h pieces units gave showed) (t : FlowSender) (k : Half) (later : List Piece)
    (waiting left : List (List ℕ)) (shows : List Marked) → ArePieces s.rules.piece (normal_units gave) k.receiver.expected later
    → Complete s.rules.piece (normal_units gave) k.receiver.expected (normal_units shows) k.receiver.inbox.held.begun → expediteds gave ≡ expediteds shows ++ left
    → AreLeft t.urgent.out waiting t.urgent.units left → Carries (record t { rules = s.rules; queue = s.queue }) k later waiting gave shows
kept_carry c t k later waiting left shows pieces_are complete expedited left_are = record {
  some = c.some;
  full = c.full;
  acknowledged = c.acknowledged;
  normal = c.normal;
  first = c.first;
  pieces_are = pieces_are;
  complete = complete;
  left = left;
  expedited = expedited;
  left_are = left_are;
}

-- the ED that was outstanding is acknowledged
pub done_carry : (s : FlowSender) (h : Half) (tries : Tries) (pieces : List Piece) (units : List (List ℕ)) (gave showed : List Marked) → s.urgent.out ≡ Some tries → units ≡ []
    → Carries s h pieces units gave showed → Carries (record s { urgent = record s.urgent { units = drop 1 s.urgent.units; out = None } }) h pieces units gave showed
done_carry s h tries pieces units gave showed out none c =
    kept_carry c (record s { urgent = record s.urgent { units = drop 1 s.urgent.units; out = None } }) h pieces units c.left showed c.pieces_are c.complete c.expedited
    (subst (λ (l : List (List ℕ)). AreLeft (Some tries) l s.urgent.units c.left) none (subst (λ (o : Option Tries). AreLeft o units s.urgent.units c.left) out c.left_are))

-- a normal unit is submitted
pub submit_carry : (s : FlowSender) (h : Half) (pieces : List Piece) (units : List (List ℕ)) (gave showed : List Marked) (unit : List ℕ) → 0 < length unit
    → Carries s h pieces units gave showed → Carries (record s { queue = record s.queue { units = s.queue.units ++ unit ∷ [] } }) h pieces units (gave ++ Normal unit ∷ []) showed
submit_carry s h pieces units gave showed unit some c =
    let more : normal_units (gave ++ Normal unit ∷ []) ≡ normal_units gave ++ unit ∷ [] = normals-append gave (Normal unit ∷ []) in
    record {
      some = c.some;
      full = subst AllFull (sym more) (full_more (normal_units gave) unit some c.full);
      acknowledged = c.acknowledged;
      normal = more ∙ ap (λ (l : List (List ℕ)). l ++ unit ∷ []) c.normal ∙ append_assoc c.acknowledged s.queue.units (unit ∷ []);
      first = c.first;
      pieces_are = subst (λ (l : List (List ℕ)). ArePieces s.rules.piece l h.receiver.expected pieces) (sym more) (pieces_more s.rules.piece (normal_units gave) (unit ∷ []) h.receiver.expected pieces c.pieces_are);
      complete = subst (λ (l : List (List ℕ)). Complete s.rules.piece l h.receiver.expected (normal_units showed) h.receiver.inbox.held.begun) (sym more)
          (complete_more s.rules.piece (normal_units gave) h.receiver.expected (normal_units showed) h.receiver.inbox.held.begun unit some c.complete);
      left = c.left;
      expedited = expediteds-append gave (Normal unit ∷ []) ∙ append-nil (expediteds gave) ∙ c.expedited;
      left_are = c.left_are;
    }

-- an expedited one
pub urge_carry : (s : FlowSender) (h : Half) (pieces : List Piece) (units : List (List ℕ)) (gave showed : List Marked) (unit : List ℕ) → HasUnit s.urgent.units s.urgent.out
    → Carries s h pieces units gave showed → Carries (record s { urgent = record s.urgent { units = s.urgent.units ++ unit ∷ [] } }) h pieces units (gave ++ Expedited unit ∷ []) showed
urge_carry s h pieces units gave showed unit has c =
    let same : normal_units (gave ++ Expedited unit ∷ []) ≡ normal_units gave = normals-append gave (Expedited unit ∷ []) ∙ append-nil (normal_units gave) in
    record {
      some = c.some;
      full = subst AllFull (sym same) c.full;
      acknowledged = c.acknowledged;
      normal = same ∙ c.normal;
      first = c.first;
      pieces_are = subst (λ (l : List (List ℕ)). ArePieces s.rules.piece l h.receiver.expected pieces) (sym same) c.pieces_are;
      complete = subst (λ (l : List (List ℕ)). Complete s.rules.piece l h.receiver.expected (normal_units showed) h.receiver.inbox.held.begun) (sym same) c.complete;
      left = c.left ++ unit ∷ [];
      expedited = expediteds-append gave (Expedited unit ∷ []) ∙ ap (λ (l : List (List ℕ)). l ++ unit ∷ []) c.expedited ∙ append_assoc (expediteds showed) c.left (unit ∷ []);
      left_are = left_more s.urgent.out units s.urgent.units c.left has c.left_are;
    }
  where
    dropped_more : (l : List (List ℕ)) → 0 < length l → drop 1 (l ++ unit ∷ []) ≡ drop 1 l ++ unit ∷ []
    dropped_more [] low = absurd (omega (arith, low))
    dropped_more (x ∷ l) low = refl

    left_more : (out : Option Tries) (waiting l left : List (List ℕ)) → HasUnit l out → AreLeft out waiting l left → AreLeft out waiting (l ++ unit ∷ []) (left ++ unit ∷ [])
    left_more None waiting l left low a = ap (λ (m : List (List ℕ)). m ++ unit ∷ []) a
    left_more (Some tries) [] l left low a = ap (λ (m : List (List ℕ)). m ++ unit ∷ []) a ∙ sym (dropped_more l low)
    left_more (Some tries) (x ∷ waiting) l left low a = (
      ap (λ (m : List (List ℕ)). m ++ unit ∷ []) a.0,
      ap (λ (m : List (List ℕ)). m ++ unit ∷ []) a.1 ∙ ap (λ (m : List (List ℕ)). x ∷ m) (sym (dropped_more l low)),
    )

-- units are shown
pub gots_normal : (own : ℕ) (units : List (List ℕ)) → normal_units (shown_in (gots own units)) ≡ units
gots_normal own [] = refl
gots_normal own (unit ∷ units) = ap (λ (l : List (List ℕ)). unit ∷ l) (gots_normal own units)

pub gots_expedited : (own : ℕ) (units : List (List ℕ)) → expediteds (shown_in (gots own units)) ≡ []
gots_expedited own [] = refl
gots_expedited own (unit ∷ units) = gots_expedited own units

-- a DT is taken
pub dt_carry : (s : FlowSender) (h new : Half) (piece : Piece) (pieces : List Piece) (units shows : List (List ℕ)) (gave showed : List Marked)
    → new.receiver.expected ≡ h.receiver.expected + 1 → shows ≡ (if piece.last then (h.receiver.inbox.held.begun ++ piece.octets) ∷ [] else [])
    → new.receiver.inbox.held.begun ≡ begun_by piece (h.receiver.inbox.held.begun ++ piece.octets) → (own : ℕ)
    → Carries s h (piece ∷ pieces) units gave showed → Carries s new pieces units gave (showed ++ shown_in (gots own shows))
dt_carry s h new piece pieces units shows gave showed expected shows_are begun own c =
    let octets : List ℕ = h.receiver.inbox.held.begun ++ piece.octets in
    let step = one_piece s.rules.piece c.some (normal_units gave) c.full h.receiver.expected (normal_units showed) h.receiver.inbox.held.begun piece c.complete c.pieces_are.0 in
    let more : normal_units (showed ++ shown_in (gots own shows)) ≡ shown_on piece.last (normal_units showed) octets =
    normals-append showed (shown_in (gots own shows)) ∙ ap (λ (l : List (List ℕ)). normal_units showed ++ l) (gots_normal own shows ∙ shows_are) ∙ behind piece.last (normal_units showed) octets in
    kept_carry c s new pieces units c.left (showed ++ shown_in (gots own shows)) (subst (λ (n : ℕ). ArePieces s.rules.piece (normal_units gave) n pieces) (sym expected) c.pieces_are.1)
    (subst (λ (n : ℕ). Complete s.rules.piece (normal_units gave) n (normal_units (showed ++ shown_in (gots own shows))) new.receiver.inbox.held.begun) (sym expected)
    (subst (λ (l : List (List ℕ)). Complete s.rules.piece (normal_units gave) (h.receiver.expected + 1) l new.receiver.inbox.held.begun) (sym more)
    (subst (Complete s.rules.piece (normal_units gave) (h.receiver.expected + 1) (shown_on piece.last (normal_units showed) octets)) (sym begun) step.0)))
    (c.expedited ∙ ap (λ (l : List (List ℕ)). l ++ c.left) (sym (expediteds-append showed (shown_in (gots own shows)) ∙ ap (λ (l : List (List ℕ)). expediteds showed ++ l) (gots_expedited own shows) ∙ append-nil (expediteds showed))))
    c.left_are
  where
    behind : (last : Bool) (shown : List (List ℕ)) (octets : List ℕ) → shown ++ (if last then octets ∷ [] else []) ≡ shown_on last shown octets
    behind true shown octets = refl
    behind false shown octets = append-nil shown

-- an ED is taken
pub ed_carry : (s : FlowSender) (h new : Half) (tries : Tries) (unit : List ℕ) (pieces : List Piece) (units : List (List ℕ)) (gave showed : List Marked) → s.urgent.out ≡ Some tries → units ≡ []
    → new.receiver.expected ≡ h.receiver.expected → new.receiver.inbox ≡ h.receiver.inbox
    → Carries s h pieces (unit ∷ units) gave showed → Carries s new pieces units gave (showed ++ Expedited unit ∷ [])
ed_carry s h new tries unit pieces units gave showed out none expected inbox c =
    let a : AreLeft (Some tries) (unit ∷ units) s.urgent.units c.left = subst (λ (o : Option Tries). AreLeft o (unit ∷ units) s.urgent.units c.left) out c.left_are in
    let same : normal_units (showed ++ Expedited unit ∷ []) ≡ normal_units showed = normals-append showed (Expedited unit ∷ []) ∙ append-nil (normal_units showed) in
    kept_carry c s new pieces units (drop 1 s.urgent.units) (showed ++ Expedited unit ∷ []) (subst (λ (n : ℕ). ArePieces s.rules.piece (normal_units gave) n pieces) (sym expected) c.pieces_are)
    (subst (λ (n : ℕ). Complete s.rules.piece (normal_units gave) n (normal_units (showed ++ Expedited unit ∷ [])) new.receiver.inbox.held.begun) (sym expected)
    (subst (λ (l : List (List ℕ)). Complete s.rules.piece (normal_units gave) h.receiver.expected l new.receiver.inbox.held.begun) (sym same)
    (subst (λ (b : Inbox). Complete s.rules.piece (normal_units gave) h.receiver.expected (normal_units showed) b.held.begun) (sym inbox) c.complete)))
    (c.expedited ∙ ap (λ (l : List (List ℕ)). expediteds showed ++ l) (a.0 ∙ a.1) ∙ sym (append_assoc (expediteds showed) (unit ∷ []) (drop 1 s.urgent.units))
    ∙ ap (λ (l : List (List ℕ)). l ++ drop 1 s.urgent.units) (sym (expediteds-append showed (Expedited unit ∷ []))))
    (subst (λ (o : Option Tries). AreLeft o units s.urgent.units (drop 1 s.urgent.units)) (sym out)
    (subst (λ (l : List (List ℕ)). AreLeft (Some tries) l s.urgent.units (drop 1 s.urgent.units)) (sym none) refl))

-- the receiver keeps what it expects and what has begun; the sender what it is
pub half_carry : (s : FlowSender) (h new : Half) (pieces : List Piece) (units : List (List ℕ)) (gave showed : List Marked) → new.receiver.expected ≡ h.receiver.expected
    → new.receiver.inbox.held.begun ≡ h.receiver.inbox.held.begun → Carries s h pieces units gave showed → Carries s new pieces units gave showed
half_carry s h new pieces units gave showed expected begun c =
    kept_carry c s new pieces units c.left showed (subst (λ (n : ℕ). ArePieces s.rules.piece (normal_units gave) n pieces) (sym expected) c.pieces_are)
    (subst (λ (n : ℕ). Complete s.rules.piece (normal_units gave) n (normal_units showed) new.receiver.inbox.held.begun) (sym expected)
    (subst (Complete s.rules.piece (normal_units gave) h.receiver.expected (normal_units showed)) (sym begun) c.complete)) c.expedited c.left_are

pub carries_at : (now : ℕ) (s : FlowSender) (h : Half) (pieces : List Piece) (units : List (List ℕ)) (gave showed : List Marked) → Carries s h pieces units gave showed → Carries (at now s) h pieces units gave showed
carries_at now s h pieces units gave showed c = kept_carry c (at now s) h pieces units c.left showed c.pieces_are c.complete c.expedited c.left_are

-- nothing was submitted
pub fresh_carries : (rules other : FlowRules) (credit room now : ℕ) → 0 < rules.piece → Carries (opened (at now (fresh rules credit))).sender (empty other room) [] [] [] []
fresh_carries rules other credit room now some = record {
  some = some;
  full = record {};
  acknowledged = [];
  normal = refl;
  first = refl;
  pieces_are = tt;
  complete = (refl, refl);
  left = [];
  expedited = refl;
  left_are = refl;
}
