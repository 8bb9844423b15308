-- An accept has its confirm: what is agreed is within what was proposed, so the calling end is Opened by the CC, and the called end by the first
-- AK. Nothing was submitted, so nothing else is sent.
use Rattle.std.proofs.Common.{Option, ◌≡◌, ℕ, ◌+◌, ◌-◌, ◌/◌, ◌%◌, ◌==◌, ◌&&◌, not, Bool, true, false, if◌then◌else◌, List, [], ◌∷◌, ◌++◌, Some, refl, sym, ◌∙◌, ap, subst, arith}
use Rattle.std.specs.List.{list_any}
use Rattle.tp4_flow.specs.ReceivingHalf.{Half, ak, empty}
use Rattle.tp4_flow.specs.declared.rules.FlowRules.{FlowRules}
use Rattle.tpdu.specs.declared.service.Options.{Options}
use Rattle.tpdu.specs.declared.service.GoneCause.TheVariants.{Protocol}
use Rattle.tp4_flow.specs.declared.step.Sent.{Sent}
use Rattle.tp4_flow.specs.declared.step.What.TheVariants as whats
use Rattle.tpdu.specs.declared.service.EndTold.TheVariants.{Accept as Accept_told}
use Rattle.tp4_number.specs.Number.{near, whole}
use Rattle.tp4_sending.specs.SendingHalf.{FlowSender, acknowledged, acknowledged_to, at, block_in, fresh, is_taken, new_sends, normals, nothing, opened}
use Rattle.tp4_sending.specs.Pieces.{once}
use Rattle.tp4_conn.specs.declared.end_record.EndRecord.{EndRecord}
use Rattle.tp4_conn.specs.declared.halves.Halves.{Halves}
use Rattle.tp4_conn.specs.declared.states.InAkWait.{InAkWait}
use Rattle.tp4_conn.specs.declared.states.InOpened.{InOpened}
use Rattle.tp4_conn.specs.declared.states.InCrWait.{InCrWait}
use Rattle.tp4_conn.specs.declared.states.StateData.TheVariants.{AkWait, CrWait, Opened, UserWait}
use Rattle.tp4_conn.specs.Agreeing.{agreed_by, confirm, extra_of, flow_rules, halves_of, is_confirmed, proposed_by, request}
use Rattle.tp4_conn.specs.AkWait.{ak_wait_tpdu}
use Rattle.tp4_conn.specs.CrWait.{confirmed, cr_wait_tpdu}
use Rattle.tp4_conn.specs.declared.proposed.Proposed.{Proposed}
use Rattle.tp4_conn.specs.End.{IsProposal, IsSized, Moved, end_of as end_of_row, agreed_sum, closing, gone}
use Rattle.tp4_conn.specs.declared.call.ConnectCall.{ConnectCall}
use Rattle.tp4_conn.specs.declared.timers.Timers.{Timers}
use Rattle.tp4_conn.specs.Making.{called_end, caller, indicated, on_cr}
use Rattle.tp4_conn.specs.Matching.{wants_sum}
use Rattle.tp4_conn.specs.Opened.{opened_tpdu}
use Rattle.tp4_conn.specs.Table.{at as now_at, on_tpdu, takes, untaken}
use Rattle.tp4_conn.specs.UserWait.{user_wait_accept}
use Rattle.tp4_conn.specs.declared.call.UserCall.TheVariants.{Accept}
use Rattle.law_tp4_history.specs.Lines.{shown_in}
use Rattle.tpdu.specs.declared.tpdu.Tpdu.{Tpdu}
use Rattle.tp4_entity.specs.Association.{answers as answers_of, calls, is_called, is_registered, met, new_end, refusal}
use Rattle.tp4_entity.specs.Entity.{Entity, moved}
use Rattle.tp4_entity.specs.References.{least_free}
use Rattle.law_tp4_pair.specs.Pair.{AreOpened, Asks_called, Comes_back, Comes_forth, IsIdle, Pair, next}
use Rattle.law_tp4_pair.proofs.Handing.{has_sum}
use Rattle.tp4_conn.proofs.Agreed.{agreed_within, options_back, request_back}
use Rattle.tp4_conn.proofs.Sizes.{agreed_sized}
use Rattle.law_tp4_pair.proofs.Opening.{confirm_sum}

-- the row of the calling end
pub confirms : (b c : EndRecord) (r : InCrWait) (options : Options) (octets : List ℕ) (now : ℕ) → c.agreed ≡ Some options → IsSized options → is_confirmed b.proposed options ≡ true
    → takes whole now b (CrWait r) (confirm c options octets).tpdu (confirm c options octets).sum
    ≡ confirmed (record b { partner = c.own; credit = c.timers.credit; agreed = Some options; clock = now }) options octets
unfolding cr_wait_tpdu
confirms b c r options octets now agreed sized fits =
    let sum : agreed_sum c.agreed ≡ options.sum = ap agreed_sum agreed in
    let taken : (wants_sum b (CrWait r) (confirm c options octets).tpdu && not (agreed_sum c.agreed)) ≡ false =
    ap (λ (s : Bool). (extra_of options / 2 % 2 == 0) && not s) sum ∙ confirm_sum options in
    ap (λ (wants : Bool). if wants then untaken b (CrWait r) else on_tpdu whole (now_at now b) (CrWait r) (confirm c options octets).tpdu) taken
    ∙ ap (λ (o : Options). if is_confirmed b.proposed options then confirmed (record b { partner = c.own; credit = c.timers.credit; agreed = Some o; clock = now }) o octets
    else closing (record b { partner = c.own; clock = now }) (gone (now_at now b) Protocol []) 133 [] now) (options_back options sized)
    ∙ ap (λ (fit : Bool). if fit then confirmed (record b { partner = c.own; credit = c.timers.credit; agreed = Some options; clock = now }) options octets
    else closing (record b { partner = c.own; clock = now }) (gone (now_at now b) Protocol []) 133 [] now) fits

-- a half without units sends nothing
none_sent : (rules : FlowRules) (credit now w given subsequence : ℕ) → (acknowledged (at now (opened (at now (fresh rules credit))).sender) w given subsequence).tpdus ≡ []
none_sent rules credit now w given subsequence = by (is_taken s n given subsequence)
  where
    s : FlowSender
    s = at now (opened (at now (fresh rules credit))).sender

    n : ℕ
    n = near (block_in s) s.numbers.base w

    by : (b : Bool) → (if b then new_sends (acknowledged_to (at now (opened (at now (fresh rules credit))).sender) (near (block_in (at now (opened (at now (fresh rules credit))).sender)) 0 w) given subsequence)
        else nothing (at now (opened (at now (fresh rules credit))).sender)).tpdus ≡ []
    by true =
        let next : FlowSender = acknowledged_to (at now (opened (at now (fresh rules credit))).sender) (near (block_in (at now (opened (at now (fresh rules credit))).sender)) 0 w) given subsequence in
        let none : 0 + 0 - next.numbers.next ≡ 0 = omega arith in
        ap (λ (fuel : ℕ). [] ++ (normals fuel next).tpdus) none
    by false = refl

-- the row of the called end
pub record IsOpened (m : Moved) : Type 0 where
  pub open_is : InOpened
  pub stage : m.stage ≡ Opened open_is
  pub tpdus : m.tpdus ≡ []

pub answers : (c : EndRecord) (options : Options) (w : InAkWait) (h : Half) (now : ℕ) → c.agreed ≡ Some options → w.halves ≡ halves_of c options → h.rules.sum ≡ options.sum
    → IsOpened (takes whole now c (AkWait w) (ak h).tpdu (ak h).sum)
unfolding ak_wait_tpdu opened_tpdu
answers c options w h now agreed halves sum =
    subst (λ (wants : Bool). IsOpened (if wants then untaken c (AkWait w) else on_tpdu whole (now_at now c) (AkWait w) (ak h).tpdu)) (sym (has_sum options c.agreed (ak h).sum agreed sum))
    (subst (λ (k : Halves). IsOpened (on_tpdu whole (now_at now c) (AkWait (record w { halves = k })) (ak h).tpdu)) (sym halves) (record {
      open_is = _;
      stage = refl;
      tpdus = ap (λ (l : List Sent). [] ++ l) (none_sent (flow_rules c options) c.credit now _ h.receiver.inbox.credit h.receiver.inbox.subsequence);
    }))

-- ---- the pair

-- the called end after the accept, and its CC
abbrev accepted_base : EndRecord → ℕ → Options → EndRecord
accepted_base c now asked = record c { agreed = Some (agreed_by c.proposed asked); clock = now }

abbrev answering : EndRecord → ℕ → Options → List ℕ → InAkWait
answering c now asked octets = record { octets = octets; first = now; tries = once now; halves = halves_of (accepted_base c now asked) (agreed_by c.proposed asked) }

abbrev waits_for_cc : Pair → EndRecord → EndRecord → InCrWait → Options → List ℕ → Pair
waits_for_cc p b c r asked octets = record {
  clock = p.clock;
  calling = record { base = b; stage = CrWait r };
  called = record { base = accepted_base c p.clock asked; stage = AkWait (answering c p.clock asked octets) };
  forth = [];
  back = confirm (accepted_base c p.clock asked) (agreed_by c.proposed asked) octets ∷ [];
  calling_gave = p.calling_gave;
  called_gave = p.called_gave ++ [];
  calling_showed = p.calling_showed;
  called_showed = p.called_showed ++ [];
  calling_told = p.calling_told;
  called_told = p.called_told ++ record { reference = c.own; what = whats.End (Accept_told (agreed_by c.proposed asked) octets) } ∷ [];
}

-- by the CC and the first AK
cc_and_ak : (p : Pair) (b c : EndRecord) (r : InCrWait) (asked : Options) (octets : List ℕ) → c.proposed ≡ b.proposed → IsProposal c.proposed → IsSized asked
    → AreOpened (next (next (waits_for_cc p b c r asked octets) Comes_back) Comes_forth)
cc_and_ak p b c r asked octets same proposal sized =
    let options : Options = agreed_by c.proposed asked in
    let d : EndRecord = accepted_base c p.clock asked in
    let all : IsSized options = agreed_sized c.proposed asked proposal sized in
    let fits : is_confirmed b.proposed options ≡ true = subst (λ (o : Proposed). is_confirmed o options ≡ true) same (agreed_within c.proposed asked proposal sized) in
    subst (λ (m : Moved). AreOpened (next (came m) Comes_forth)) (sym (confirms b d r options octets p.clock refl all fits))
    (by (record b { partner = d.own; credit = d.timers.credit; agreed = Some options; clock = p.clock }))
  where
    came : Moved → Pair
    came m = let q = waits_for_cc p b c r asked octets in record q { calling = end_of_row m; back = []; forth = [] ++ m.tpdus; calling_showed = q.calling_showed ++ shown_in m.events; calling_told = q.calling_told ++ m.events }

    by : (e : EndRecord) → AreOpened (next (came (confirmed e (agreed_by c.proposed asked) octets)) Comes_forth)
    by e =
        let a = answers (accepted_base c p.clock asked) (agreed_by c.proposed asked) (answering c p.clock asked octets) (empty (flow_rules e (agreed_by c.proposed asked)) e.timers.credit) p.clock refl refl refl in
        (_, a.open_is, refl, a.stage, record { forth = refl; back = ap (λ (l : List Sent). [] ++ l) a.tpdus })

pub opens : (p : Pair) (r : InCrWait) (since : ℕ) (asked : Options) (octets : List ℕ) → IsIdle p → p.calling.stage ≡ CrWait r → p.called.stage ≡ UserWait since → p.called.base.proposed ≡ p.calling.base.proposed → IsProposal p.called.base.proposed → IsSized asked
    → AreOpened (next (next (next p (Asks_called (Accept asked octets))) Comes_back) Comes_forth)
unfolding user_wait_accept
opens p r since asked octets idle mine theirs same proposal sized =
    let plain : Pair = record p { calling = record p.calling { stage = CrWait r }; called = record p.called { stage = UserWait since }; forth = []; back = [] } in
    let is : plain ≡ p = λ i. record p {
      calling = record p.calling { stage = sym mine i };
      called = record p.called { stage = sym theirs i };
      forth = sym idle.forth i;
      back = sym idle.back i;
    } in
    subst (λ (x : Pair). AreOpened (next (next (next x (Asks_called (Accept asked octets))) Comes_back) Comes_forth)) is
    (cc_and_ak p p.calling.base p.called.base r asked octets same proposal sized)

-- the CR of a connect call is indicated
pub indicates : (made now own : ℕ) (from : List ℕ) (rules : Timers) (call : ConnectCall) → IsSized call.request.options → on_cr now own from rules (request (caller made call) call.request.octets).tpdu
    ≡ Some (indicated (called_end now own from rules call.rules.credit call.own call.request.from_selector call.request.to_selector (proposed_by call.request.options)) call.request.octets)
indicates made now own from rules call sized =
    ap (λ (o : Proposed). Some (indicated (called_end now own from rules call.rules.credit call.own call.request.from_selector call.request.to_selector o) call.request.octets)) (request_back call.request.options sized)

-- the entity makes an end for it, where it has a free reference and no end of that caller, and the selector is registered
pub incoming : (made now reference : ℕ) (e : Entity) (from : List ℕ) (call : ConnectCall) (sum : Bool) → IsSized call.request.options → list_any (is_called false from call.own) e.ends ≡ false → list_any (is_called true from call.own) e.ends ≡ false
    → is_registered e.selectors call.request.to_selector ≡ true → least_free now e ≡ Some reference
    → met whole now e from ((request (caller made call) call.request.octets).tpdu, sum)
    ≡ moved e reference (indicated (called_end now reference from e.timers call.rules.credit call.own call.request.from_selector call.request.to_selector (proposed_by call.request.options)) call.request.octets)
incoming made now reference e from call sum sized none frozen registered free =
    let cr : Tpdu = (request (caller made call) call.request.octets).tpdu in
    ap (λ (b : Bool). if b then answers_of e [] else if list_any (is_called true from call.own) e.ends then answers_of e (refusal from call.own 131 ∷ [])
    else if not (is_registered e.selectors call.request.to_selector) then answers_of e (refusal from call.own 3 ∷ []) else new_end now e from call.own cr (least_free now e)) none
    ∙ ap (λ (b : Bool). if b then answers_of e (refusal from call.own 131 ∷ [])
    else if not (is_registered e.selectors call.request.to_selector) then answers_of e (refusal from call.own 3 ∷ []) else new_end now e from call.own cr (least_free now e)) frozen
    ∙ ap (λ (b : Bool). if not b then answers_of e (refusal from call.own 3 ∷ []) else new_end now e from call.own cr (least_free now e)) registered
    ∙ ap (λ (r : Option ℕ). new_end now e from call.own cr r) free
    ∙ ap (λ (m : Option Moved). calls e reference m) (indicates made now reference from e.timers call sized)
