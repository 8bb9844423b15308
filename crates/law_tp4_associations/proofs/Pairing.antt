-- A pair of which no end has left: each row leaves it so, or one end leaves, with its DR behind what it sent. Before both are Opened none leaves.
use Rattle.std.proofs.Common.{◌≡◌, ◌⊎◌, ℕ, ◌+◌, Bool, false, None, not, ◌&&◌, if◌then◌else◌, List, [], ◌∷◌, ◌++◌, refl, sym, ◌∙◌, ap, subst, inl, inr, append-nil}
use Rattle.tp4_flow.specs.ReceivingHalf.{ak}
use Rattle.tp4_flow.specs.declared.rules.FlowRules.{FlowRules}
use Rattle.tp4_flow.specs.declared.step.Sent.{Sent}
use Rattle.tp4_number.specs.Number.{whole}
use Rattle.tp4_conn.specs.declared.end_record.EndRecord.{EndRecord}
use Rattle.tp4_conn.specs.declared.call.UserCall.{UserCall}
use Rattle.tp4_conn.specs.declared.halves.Halves.{Halves}
use Rattle.tp4_conn.specs.declared.states.InAkWait.{InAkWait}
use Rattle.tp4_conn.specs.declared.states.InOpened.{InOpened}
use Rattle.tp4_conn.specs.declared.states.InCrWait.{InCrWait}
use Rattle.tp4_conn.specs.declared.states.StateData.{StateData}
use Rattle.tp4_conn.specs.declared.states.StateData.TheVariants.{CrWait, WaitBeforeClose, AkWait, Opened, Closing, Frozen}
use Rattle.tp4_conn.specs.Agreeing.{confirm}
use Rattle.tp4_conn.specs.AkWait.{ak_wait_tpdu}
use Rattle.tp4_conn.specs.Opened.{hearing, opened_tpdu}
use Rattle.tp4_conn.specs.End.{End, Moved, end_of, stays}
use Rattle.tp4_conn.specs.Calls.{call_refusal}
use Rattle.tp4_conn.specs.Matching.{sum_agreed}
use Rattle.tp4_conn.specs.Table.{Called, Took, at, on_call, on_tpdu, stepped, takes, untaken}
use Rattle.law_tp4_pair.specs.Pair.{Account, Asks_called, Asks_calling, Comes_back, Comes_forth, IsIdle, Pair, asks_called, asks_calling, back_units, comes_back, comes_forth, forth_units}
use Rattle.law_tp4_pair.specs.Standing.{AreBoth, Both, Confirming, First, HasLeft, Left, Stands, party}
use Rattle.law_tp4_pair.specs.Waiting.{AreData}
use Rattle.law_tp4_pair.proofs.Confirming.{confirms}
use Rattle.law_tp4_pair.proofs.Handing.{has_sum}
use Rattle.law_tp4_pair.proofs.Pairs.{stands_on}
use Rattle.law_tp4_associations.specs.Phase.{AreParting, IsAsking, IsPaired}
use Rattle.law_tp4_associations.proofs.Leaving.{joined, parted, side}
use Rattle.law_tp4_associations.proofs.Writing.{AreBy, Closes, Open_on, Stays, asks, hears_data}

-- whether an end has left
pub left_or_not : (stage : StateData) → HasLeft stage ⊎ (HasLeft stage → ⊥)
left_or_not (WaitBeforeClose w) = inl tt
left_or_not (Closing c) = inl tt
left_or_not (Frozen when) = inl tt
left_or_not other = inr (λ f. f)

-- the called end of such a pair accepted
pub paired_no_asking : (p : Pair) → Stands p → (HasLeft p.calling.stage ⊎ HasLeft p.called.stage → ⊥) → IsAsking p.called.stage → ⊥
paired_no_asking p (Left left) stay asking = stay left
paired_no_asking p (Confirming r w mine theirs new c) stay asking = subst IsAsking theirs asking
paired_no_asking p (First o w mine theirs f) stay asking = subst IsAsking theirs asking
paired_no_asking p (Both o q mine theirs both) stay asking = subst IsAsking theirs asking

-- ---- rows of an Opened end

stays_base : (rules : FlowRules) (b : EndRecord) (m : Moved) → Stays rules b m → m.base ≡ b
stays_base rules b m (Open_on o base stage s r d) = base
stays_base rules b m (Closes c sent reason octets base stage d tpdus) = base

took_by : (rules : FlowRules) (b : EndRecord) (q : InOpened) (now : ℕ) (sent : Sent) (rest : List Sent) (from : FlowRules) → AreBy rules q.halves → AreData from (sent ∷ rest) → (sum_agreed b.agreed && not sent.sum) ≡ false
    → Stays rules (at now b) (takes whole now b (Opened q) sent.tpdu sent.sum)
took_by rules b q now sent rest from h d sum =
    subst (λ (x : Bool). Stays rules (at now b) (if x then untaken b (Opened q) else on_tpdu whole (at now b) (Opened q) sent.tpdu)) (sym sum)
    (hears_data rules (at now b) (hearing (at now b) q) from.partner sent.tpdu (record { sending_by = h.sending_by; receiving_by = h.receiving_by }) d.0.kind)

-- ---- the first AK

-- an end in AkWait that takes the first AK is Opened
ak_opens : (c : EndRecord) (w : InAkWait) (now : ℕ) (h : _) → (sum_agreed c.agreed && not (ak h).sum) ≡ false → HasLeft (takes whole now c (AkWait w) (ak h).tpdu (ak h).sum).stage → ⊥
unfolding ak_wait_tpdu opened_tpdu
ak_opens c w now h sum left =
    subst (λ (x : Bool). HasLeft (if x then untaken c (AkWait w) else on_tpdu whole (at now c) (AkWait w) (ak h).tpdu).stage) sum left

-- ---- one end has left

-- both ends after a row of one or both of them, the one that was Opened with the other
module _ (b c : EndRecord) (h k : Halves) (forth back : List Sent) (u v : Account) (both : AreBoth (party b) (party c) h k forth back u v) (here there : List ℕ) (to : b.to ≡ there) (to_back : c.to ≡ here) where
  pub left_parts : (m n : Moved) (forth_left back_left : List Sent) → AreData both.one_rules forth_left → AreData both.other_rules back_left → Stays both.one_rules b m → Stays both.other_rules c n
      → HasLeft m.stage ⊎ HasLeft n.stage → AreParting (end_of m) (end_of n) here there (back_left ++ n.tpdus) (forth_left ++ m.tpdus)
  left_parts m n forth_left back_left forth_are back_are x y left =
      subst (λ (d : EndRecord). AreParting (record { base = d; stage = m.stage }) (end_of n) here there (back_left ++ n.tpdus) (forth_left ++ m.tpdus)) (sym (stays_base both.one_rules b m x))
      (subst (λ (d : EndRecord). AreParting (record { base = b; stage = m.stage }) (record { base = d; stage = n.stage }) here there (back_left ++ n.tpdus) (forth_left ++ m.tpdus)) (sym (stays_base both.other_rules c n y))
      (parted b c m.stage n.stage here there both.one_rules both.other_rules (forth_left ++ m.tpdus) (back_left ++ n.tpdus) (joined b c here there h k forth back u v both to to_back) left
      (side both.one_rules b m forth_left forth_are x) (side both.other_rules c n back_left back_are y)))

-- nothing happens to an end
none_stays : (rules : FlowRules) (b : EndRecord) (stage : StateData) (o : InOpened) → stage ≡ Opened o → AreBy rules o.halves → Stays rules b (stays b stage)
none_stays rules b stage o is h = Open_on o refl is h.sending_by h.receiving_by tt

not_both_stages : (o : InOpened) (r : InCrWait) (stage : StateData) → stage ≡ Opened o → stage ≡ CrWait r → ⊥
not_both_stages o r stage is was = cc (is, was)

first_one : (x y : Sent) (l m : List Sent) → x ∷ l ≡ y ∷ m → x ≡ y
first_one x y l m e = cc

not_empty : (x : Sent) (l : List Sent) → x ∷ l ≡ [] → ⊥
not_empty x l e = cc e

-- a row leads to such a pair again, or to two ends of which one has left
pub data GoesOn (now : ℕ) (x y : End) (here there : List ℕ) (forth back : List Sent) : Type 0 where
  Pairs : (q : Pair) → q.calling ≡ x → q.called ≡ y → IsPaired now q forth back → GoesOn now x y here there forth back
  Parts : AreParting x y here there back forth → GoesOn now x y here there forth back

module _ (p : Pair) (here there : List ℕ) (to : p.calling.base.to ≡ there) (to_back : p.called.base.to ≡ here) where
  -- ---- a TPDU comes to the called end

  module _ (sent : Sent) (rest back : List Sent) (i : IsPaired p.clock p (sent ∷ rest) back) where
    abbrev m : Moved
    m = stepped whole p.clock p.called (Took sent.tpdu sent.sum)

    stands_forth : Stands (comes_forth p (sent ∷ rest))
    stands_forth = subst (λ (l : List Sent). Stands (comes_forth p l)) i.forth_is (stands_on p Comes_forth i.stands tt)

    calling_open : (r : InCrWait) → p.calling.stage ≡ CrWait r → ⊥
    calling_open r was = by i.stands
      where
        by : Stands p → ⊥
        by (Left left) = i.stays left
        by (Confirming s w mine theirs new c) = not_empty sent rest (sym i.forth_is ∙ c.forth_is)
        by (First o w mine theirs f) = not_both_stages o r p.calling.stage mine was
        by (Both o q mine theirs both) = not_both_stages o r p.calling.stage mine was

    forth_parts : HasLeft m.stage → AreParting p.calling (end_of m) here there (back ++ m.tpdus) rest
    forth_parts left = by i.stands
      where
        by : Stands p → AreParting p.calling (end_of m) here there (back ++ m.tpdus) rest
        by (Left l) = absurd (i.stays l)
        by (Confirming s w mine theirs new c) = absurd (not_empty sent rest (sym i.forth_is ∙ c.forth_is))
        by (First o w mine theirs f) =
            let is : ak o.halves.receiving ≡ sent = first_one (ak o.halves.receiving) sent [] rest (sym f.forth_is ∙ i.forth_is) in
            let both = f.both p.clock in
            let all : AreData both.one_rules (ak o.halves.receiving ∷ []) = subst (AreData both.one_rules) f.forth_is both.forth_are in
            absurd (ak_opens p.called.base w p.clock o.halves.receiving (has_sum both.options p.called.base.agreed (ak o.halves.receiving).sum both.other.agreed_is (all.0.sum ∙ both.one.sum))
            (subst (λ (stage : StateData). HasLeft (takes whole p.clock p.called.base stage (ak o.halves.receiving).tpdu (ak o.halves.receiving).sum).stage) theirs
            (subst (λ (s : Sent). HasLeft (takes whole p.clock p.called.base p.called.stage s.tpdu s.sum).stage) (sym is) left)))
        by (Both o q mine theirs both) =
            let data_are : AreData both.one_rules (sent ∷ rest) = subst (AreData both.one_rules) i.forth_is both.forth_are in
            let row : Stays both.other_rules (at p.clock p.called.base) m =
            subst (λ (stage : StateData). Stays both.other_rules (at p.clock p.called.base) (takes whole p.clock p.called.base stage sent.tpdu sent.sum)) (sym theirs)
            (took_by both.other_rules p.called.base q p.clock sent rest both.one_rules (record { sending_by = both.other.sending; receiving_by = both.other.receiving }) data_are
            (has_sum both.options p.called.base.agreed sent.sum both.other.agreed_is (data_are.0.sum ∙ both.one.sum))) in
            subst (λ (l : List Sent). AreParting p.calling (end_of m) here there (back ++ m.tpdus) l) (append-nil rest)
            (left_parts p.calling.base (at p.clock p.called.base) o.halves q.halves p.forth p.back (forth_units p) (back_units p) both here there to to_back
            (stays p.calling.base p.calling.stage) m rest back data_are.1 (subst (AreData both.other_rules) i.back_is both.back_are)
            (none_stays both.one_rules p.calling.base p.calling.stage o mine (record { sending_by = both.one.sending; receiving_by = both.one.receiving })) row (inr left))

    pub forth_goes : GoesOn p.clock p.calling (end_of m) here there rest (back ++ m.tpdus)
    forth_goes = elim (left_or_not m.stage) [
      | inl left ↦ Parts (forth_parts left)
      | inr stay ↦ Pairs (comes_forth p (sent ∷ rest)) refl refl (record {
        clock = refl;
        forth_is = refl;
        back_is = ap (λ (l : List Sent). l ++ m.tpdus) i.back_is;
        stands = stands_forth;
        within = λ r options was agreed. absurd (calling_open r was);
        stays = λ any. elim any [ inl here_left ↦ i.stays (inl here_left) | inr there_left ↦ stay there_left ];
      })
    ]

  -- ---- a TPDU comes to the calling end

  module _ (sent : Sent) (forth rest : List Sent) (i : IsPaired p.clock p forth (sent ∷ rest)) where
    abbrev n : Moved
    n = stepped whole p.clock p.calling (Took sent.tpdu sent.sum)

    stands_back : Stands (comes_back p (sent ∷ rest))
    stands_back = subst (λ (l : List Sent). Stands (comes_back p l)) i.back_is (stands_on p Comes_back i.stands tt)

    -- what the row leads to: Opened, or two ends of which one has left
    pub data Backs : Type 0 where
      Opens_so : (o : InOpened) → n.stage ≡ Opened o → Backs
      Parts_so : HasLeft n.stage → AreParting (end_of n) p.called here there rest (forth ++ n.tpdus) → Backs

    back_row : Backs
    back_row = by i.stands
      where
        by : Stands p → Backs
        by (Left l) = absurd (i.stays l)
        by (First o w mine theirs f) = absurd (not_empty sent rest (sym i.back_is ∙ f.back_is))
        by (Confirming r w mine theirs new c) =
            let is : confirm p.called.base c.options c.octets ≡ sent = first_one (confirm p.called.base c.options c.octets) sent [] rest (sym c.back_is ∙ i.back_is) in
            let row = confirms p.calling.base p.called.base r c.options c.octets p.clock c.agreed c.size (i.within r c.options mine c.agreed) in
            let opens : n.stage ≡ Opened _ =
            ap (λ (s : Sent). (takes whole p.clock p.calling.base p.calling.stage s.tpdu s.sum).stage) (sym is)
            ∙ ap (λ (stage : StateData). (takes whole p.clock p.calling.base stage (confirm p.called.base c.options c.octets).tpdu (confirm p.called.base c.options c.octets).sum).stage) mine
            ∙ ap (λ (x : Moved). x.stage) row in
            Opens_so _ opens
        by (Both o q mine theirs both) =
            let data_are : AreData both.other_rules (sent ∷ rest) = subst (AreData both.other_rules) i.back_is both.back_are in
            let row : Stays both.one_rules (at p.clock p.calling.base) n =
            subst (λ (stage : StateData). Stays both.one_rules (at p.clock p.calling.base) (takes whole p.clock p.calling.base stage sent.tpdu sent.sum)) (sym mine)
            (took_by both.one_rules p.calling.base o p.clock sent rest both.other_rules (record { sending_by = both.one.sending; receiving_by = both.one.receiving }) data_are
            (has_sum both.options p.calling.base.agreed sent.sum both.one.agreed_is (data_are.0.sum ∙ both.other.sum))) in
            on o q mine theirs both data_are row row
          where
            on : (o q : InOpened) → p.calling.stage ≡ Opened o → p.called.stage ≡ Opened q → (both : AreBoth (party p.calling.base) (party p.called.base) o.halves q.halves p.forth p.back (forth_units p) (back_units p)) → AreData both.other_rules (sent ∷ rest)
                → Stays both.one_rules (at p.clock p.calling.base) n → Stays both.one_rules (at p.clock p.calling.base) n → Backs
            on o q mine theirs both data_are row (Open_on a base stage s r d) = Opens_so a stage
            on o q mine theirs both data_are row (Closes a before reason octets base stage d tpdus) =
                let left : HasLeft n.stage = subst HasLeft (sym stage) tt in
                Parts_so left
                (subst (λ (l : List Sent). AreParting (end_of n) p.called here there l (forth ++ n.tpdus)) (append-nil rest)
                (left_parts (at p.clock p.calling.base) p.called.base o.halves q.halves p.forth p.back (forth_units p) (back_units p) both here there to to_back
                n (stays p.called.base p.called.stage) forth rest (subst (AreData both.one_rules) i.forth_is both.forth_are) data_are.1 row
                (none_stays both.other_rules p.called.base p.called.stage q theirs (record { sending_by = both.other.sending; receiving_by = both.other.receiving })) (inl left)))

    pub back_goes : GoesOn p.clock (end_of n) p.called here there (forth ++ n.tpdus) rest
    back_goes = by back_row
      where
        by : Backs → GoesOn p.clock (end_of n) p.called here there (forth ++ n.tpdus) rest
        by (Parts_so left parts) = Parts parts
        by (Opens_so o is) = Pairs (comes_back p (sent ∷ rest)) refl refl (record {
          clock = refl;
          forth_is = ap (λ (l : List Sent). l ++ n.tpdus) i.forth_is;
          back_is = refl;
          stands = stands_back;
          within = λ r options was agreed. absurd (not_both_stages o r n.stage is was);
          stays = λ any. elim any [ inl here_left ↦ subst HasLeft is here_left | inr there_left ↦ i.stays (inr there_left) ];
        })

-- ---- where nothing waits

not_none : (x : Sent) (l : List Sent) → l ≡ x ∷ [] → l ≡ [] → ⊥
not_none x l e f = cc (e, f)

-- both are Opened then
pub record IsOpenPair (p : Pair) : Type 0 where
  pub o : InOpened
  pub q : InOpened
  pub mine : p.calling.stage ≡ Opened o
  pub theirs : p.called.stage ≡ Opened q
  pub both : AreBoth (party p.calling.base) (party p.called.base) o.halves q.halves p.forth p.back (forth_units p) (back_units p)

pub open_where_idle : (p : Pair) → IsPaired p.clock p [] [] → IsOpenPair p
open_where_idle p i = by i.stands
  where
    by : Stands p → IsOpenPair p
    by (Left left) = absurd (i.stays left)
    by (Confirming r w mine theirs new c) = absurd (not_none (confirm p.called.base c.options c.octets) p.back c.back_is i.back_is)
    by (First o w mine theirs f) = absurd (not_none (ak o.halves.receiving) p.forth f.forth_is i.forth_is)
    by (Both o q mine theirs both) = record { o = o; q = q; mine = mine; theirs = theirs; both = both }

opened_stays : (o : InOpened) (stage : StateData) → stage ≡ Opened o → HasLeft stage → ⊥
opened_stays o stage is left = subst HasLeft is left

module _ (p : Pair) (here there : List ℕ) (to : p.calling.base.to ≡ there) (to_back : p.called.base.to ≡ here) (i : IsPaired p.clock p [] []) where
  idle : IsIdle p
  idle = record { forth = i.forth_is; back = i.back_is }

  abbrev open_pair : IsOpenPair p
  open_pair = open_where_idle p i

  abbrev b : EndRecord
  b = p.calling.base

  abbrev c : EndRecord
  c = p.called.base

  abbrev both : AreBoth (party p.calling.base) (party p.called.base) open_pair.o.halves open_pair.q.halves p.forth p.back (forth_units p) (back_units p)
  both = open_pair.both

  mine_by : AreBy both.one_rules open_pair.o.halves
  mine_by = record { sending_by = both.one.sending; receiving_by = both.one.receiving }

  theirs_by : AreBy both.other_rules open_pair.q.halves
  theirs_by = record { sending_by = both.other.sending; receiving_by = both.other.receiving }

  calling_row : (call : UserCall) → Stays both.one_rules (at p.clock b) (stepped whole p.clock p.calling (Called call))
  calling_row call = subst (λ (stage : StateData). Stays both.one_rules (at p.clock b) (on_call (at p.clock b) stage call)) (sym open_pair.mine) (asks both.one_rules (at p.clock b) open_pair.o call mine_by)

  called_row : (call : UserCall) → Stays both.other_rules (at p.clock c) (stepped whole p.clock p.called (Called call))
  called_row call = subst (λ (stage : StateData). Stays both.other_rules (at p.clock c) (on_call (at p.clock c) stage call)) (sym open_pair.theirs) (asks both.other_rules (at p.clock c) open_pair.q call theirs_by)

  pub calling_asks : (call : UserCall) → call_refusal p.calling.base p.calling.stage call ≡ None
      → GoesOn p.clock (end_of (stepped whole p.clock p.calling (Called call))) p.called here there (stepped whole p.clock p.calling (Called call)).tpdus []
  calling_asks call allowed = by (calling_row call)
    where
      by : Stays both.one_rules (at p.clock b) (stepped whole p.clock p.calling (Called call))
          → GoesOn p.clock (end_of (stepped whole p.clock p.calling (Called call))) p.called here there (stepped whole p.clock p.calling (Called call)).tpdus []
      by (Open_on o base stage s r d) = Pairs (asks_calling p call) refl refl (record {
        clock = refl;
        forth_is = ap (λ (l : List Sent). l ++ (stepped whole p.clock p.calling (Called call)).tpdus) i.forth_is;
        back_is = i.back_is;
        stands = stands_on p (Asks_calling call) i.stands (idle, allowed);
        within = λ r options was agreed. absurd (not_both_stages o r (stepped whole p.clock p.calling (Called call)).stage stage was);
        stays = λ any. elim any [ inl left ↦ opened_stays o (stepped whole p.clock p.calling (Called call)).stage stage left | inr left ↦ i.stays (inr left) ];
      })
      by (Closes a before reason octets base stage d tpdus) =
          Parts (left_parts (at p.clock b) c open_pair.o.halves open_pair.q.halves p.forth p.back (forth_units p) (back_units p) both here there to to_back
          (stepped whole p.clock p.calling (Called call)) (stays c p.called.stage) [] [] tt tt (calling_row call) (none_stays both.other_rules c p.called.stage open_pair.q open_pair.theirs theirs_by)
          (inl (subst HasLeft (sym stage) tt)))

  pub called_asks : (call : UserCall) → call_refusal p.called.base p.called.stage call ≡ None
      → GoesOn p.clock p.calling (end_of (stepped whole p.clock p.called (Called call))) here there [] (stepped whole p.clock p.called (Called call)).tpdus
  called_asks call allowed = by (called_row call)
    where
      by : Stays both.other_rules (at p.clock c) (stepped whole p.clock p.called (Called call))
          → GoesOn p.clock p.calling (end_of (stepped whole p.clock p.called (Called call))) here there [] (stepped whole p.clock p.called (Called call)).tpdus
      by (Open_on o base stage s r d) = Pairs (asks_called p call) refl refl (record {
        clock = refl;
        forth_is = i.forth_is;
        back_is = ap (λ (l : List Sent). l ++ (stepped whole p.clock p.called (Called call)).tpdus) i.back_is;
        stands = stands_on p (Asks_called call) i.stands (idle, allowed);
        within = λ r options was agreed. absurd (not_both_stages open_pair.o r p.calling.stage open_pair.mine was);
        stays = λ any. elim any [ inl left ↦ i.stays (inl left) | inr left ↦ opened_stays o (stepped whole p.clock p.called (Called call)).stage stage left ];
      })
      by (Closes a before reason octets base stage d tpdus) =
          Parts (left_parts b (at p.clock c) open_pair.o.halves open_pair.q.halves p.forth p.back (forth_units p) (back_units p) both here there to to_back
          (stays b p.calling.stage) (stepped whole p.clock p.called (Called call)) [] [] tt tt (none_stays both.one_rules b p.calling.stage open_pair.o open_pair.mine mine_by) (called_row call)
          (inr (subst HasLeft (sym stage) tt)))
