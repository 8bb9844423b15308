-- What each call of the halves sends are flow TPDUs to the partner in the agreed format, and it leaves the terms of the halves. A sending
-- half that is not open sends nothing.
use Rattle.std.proofs.Common.{◌≡◌, ℕ, zero, suc, ◌-◌, Bool, true, false, ◌||◌, ◌==◌, not, is_some, List, [], ◌∷◌, ◌++◌, length, drop, Option, Some, None, refl, ap, ◌∙◌, if◌then◌else◌}
use Rattle.tp4_number.specs.declared.got.Got.{Got}
use Rattle.tp4_number.specs.declared.got.Got.TheVariants.{TooLarge}
use Rattle.tp4_number.specs.declared.piece.Piece.{Piece}
use Rattle.tp4_number.specs.Number.{near}
use Rattle.tp4_number.proofs.Past.{if_kept}
use Rattle.tp4_flow.specs.ReceivingHalf.{Half, ak, aks, ea, taken_ed, is_next, is_before}
use Rattle.tp4_flow.specs.declared.rules.FlowRules.{FlowRules}
use Rattle.tp4_flow.specs.declared.rules.Life.{Life}
use Rattle.tp4_flow.specs.declared.rules.Life.TheVariants.{Goes, Exhausted}
use Rattle.tp4_flow.specs.declared.step.Sent.{Sent}
use Rattle.tp4_sending.specs.SendingHalf.{FlowSender, Sendings, nothing, then_sends, rule_allows, is_noted, is_urgent, has_next, dts, dts_of, eds, all_dts, due_numbers, sent_normal, normals, normals_where, one_urgent, resends, resends_urgent, resends_urgent_as, new_sends, opened, submitted, urged, acknowledged, acknowledged_to, is_taken, urgent_done, is_outstanding, ticked, ticked_as, life_of, block_in}
use Rattle.tp4_sending.specs.Pieces.{end_of, is_due}
use Rattle.tp4_sending.specs.declared.tries.Tries.{Tries}
use Rattle.law_tp4_history.specs.Ends.{Flow}
use Rattle.law_tp4_history.specs.Seen.{seen}

-- a flow TPDU of a half with these terms
pub record IsFlow (rules : FlowRules) (sent : Sent) : Type 0 where
  pub to : sent.to ≡ rules.to
  pub format : sent.format ≡ rules.format
  pub kind : (n : ℕ) → (seen n sent.tpdu).kind ≡ Flow
  pub target : (n : ℕ) → (seen n sent.tpdu).target ≡ rules.partner

abbrev pub AreFlows : FlowRules → List Sent → Type 0
AreFlows rules [] = Unit {0}
AreFlows rules (sent ∷ tpdus) = IsFlow rules sent × AreFlows rules tpdus

pub flows_appended : (rules : FlowRules) (xs ys : List Sent) → AreFlows rules xs → AreFlows rules ys → AreFlows rules (xs ++ ys)
flows_appended rules [] ys first second = second
flows_appended rules (x ∷ xs) ys first second = (first.0, flows_appended rules xs ys first.1 second)

-- a sending half before a call, and what the call does
pub record IsReady (rules : FlowRules) (o : Bool) (s : FlowSender) : Type 0 where
  pub rules_are : s.rules ≡ rules
  pub is_open : s.is_open ≡ o

pub record Sends (rules : FlowRules) (o : Bool) (x : Sendings) : Type 0 where
  pub flows : AreFlows rules x.tpdus
  pub ready : IsReady rules o x.sender

no_sends : (rules : FlowRules) (o : Bool) (s : FlowSender) → IsReady rules o s → Sends rules o (nothing s)
no_sends rules o s h = record { flows = tt; ready = h }

flow_of : (rules : FlowRules) (sent : Sent) (mid : FlowRules) → mid ≡ rules → IsFlow mid sent → IsFlow rules sent
flow_of rules sent mid e h = record { to = h.to ∙ ap (λ (r : FlowRules). r.to) e; format = h.format ∙ ap (λ (r : FlowRules). r.format) e; kind = h.kind; target = λ n. h.target n ∙ ap (λ (r : FlowRules). r.partner) e }

dts_flow : (rules : FlowRules) (s : FlowSender) (n : ℕ) (piece : Option Piece) → s.rules ≡ rules → AreFlows rules (dts s n piece)
dts_flow rules s n None e = tt
dts_flow rules s n (Some piece) e = (flow_of rules _ s.rules e (record { to = refl; format = refl; kind = λ _. refl; target = λ _. refl }), tt)

all_dts_flow : (rules : FlowRules) (s : FlowSender) (ns : List ℕ) → s.rules ≡ rules → AreFlows rules (all_dts s ns)
all_dts_flow rules s [] e = tt
all_dts_flow rules s (n ∷ ns) e = flows_appended rules (dts_of s n) (all_dts s ns) (dts_flow rules s n _ e) (all_dts_flow rules s ns e)

eds_flow : (rules : FlowRules) (s : FlowSender) (n : ℕ) (units : List (List ℕ)) → s.rules ≡ rules → AreFlows rules (eds s n units)
eds_flow rules s n [] e = tt
eds_flow rules s n (unit ∷ units) e = (flow_of rules _ s.rules e (record { to = refl; format = refl; kind = λ _. refl; target = λ _. refl }), tt)

then_flows : (rules : FlowRules) (o : Bool) (x : Sendings) (next : FlowSender → Sendings) → Sends rules o x → ((s : FlowSender) → IsReady rules o s → Sends rules o (next s))
    → Sends rules o (then_sends x next)
then_flows rules o x next h rest =
    let y : Sends rules o (next x.sender) = rest x.sender h.ready in record { flows = flows_appended rules x.tpdus (next x.sender).tpdus h.flows y.flows; ready = y.ready }

one_flows : (rules : FlowRules) (o : Bool) (s : FlowSender) → IsReady rules o s → Sends rules o (one_urgent s)
one_flows rules o s h =
    if_kept (Sends rules o) (is_some s.urgent.out || length s.urgent.units == 0) _ _
    (λ _. no_sends rules o s h)
    (λ _. if_kept (Sends rules o) (rule_allows s s.urgent.blocks s.urgent.next) _ _
    (λ _. record { flows = eds_flow rules s s.urgent.next s.urgent.units h.rules_are; ready = record { rules_are = h.rules_are; is_open = h.is_open } })
    (λ _. if_kept (Sends rules o) (is_noted s.urgent.noted s.urgent.next) _ _
    (λ _. no_sends rules o s h)
    (λ _. record { flows = tt; ready = record { rules_are = h.rules_are; is_open = h.is_open } })))

normals_flow : (fuel : ℕ) (rules : FlowRules) (o : Bool) (s : FlowSender) → IsReady rules o s → Sends rules o (normals fuel s)
normals_flow zero rules o s h = no_sends rules o s h
normals_flow (suc fuel) rules o s h =
    if_kept (Sends rules o) (not (has_next s)) _ _
    (λ _. no_sends rules o s h)
    (λ _. if_kept (Sends rules o) (rule_allows s s.numbers.blocks s.numbers.next) _ _
    (λ _. let rest : Sends rules o (normals fuel (sent_normal s)) = normals_flow fuel rules o (sent_normal s) (record { rules_are = h.rules_are; is_open = h.is_open }) in
    record { flows = flows_appended rules (dts_of s s.numbers.next) (normals fuel (sent_normal s)).tpdus (dts_flow rules s s.numbers.next _ h.rules_are) rest.flows; ready = rest.ready })
    (λ _. if_kept (Sends rules o) (is_noted s.noted s.numbers.next) _ _
    (λ _. no_sends rules o s h)
    (λ _. record { flows = tt; ready = record { rules_are = h.rules_are; is_open = h.is_open } })))

where_flows : (rules : FlowRules) (o : Bool) (s : FlowSender) → IsReady rules o s → Sends rules o (normals_where s)
where_flows rules o s h =
    if_kept (Sends rules o) (is_urgent s) _ _ (λ _. no_sends rules o s h) (λ _. normals_flow (end_of s.rules.piece s.queue - s.numbers.next) rules o s h)

new_flows : (rules : FlowRules) (o : Bool) (s : FlowSender) → IsReady rules o s → Sends rules o (new_sends s)
new_flows rules o s h =
    if_kept (Sends rules o) s.is_open _ _ (λ _. then_flows rules o (one_urgent s) normals_where (one_flows rules o s h) (where_flows rules o)) (λ _. no_sends rules o s h)

pub opened_flows : (rules : FlowRules) (s : FlowSender) → s.rules ≡ rules → Sends rules true (opened s)
opened_flows rules s e = new_flows rules true (record s { is_open = true }) (record { rules_are = e; is_open = refl })

pub submitted_flows : (rules : FlowRules) (o : Bool) (s : FlowSender) (unit : List ℕ) → IsReady rules o s → Sends rules o (submitted s unit)
submitted_flows rules o s unit h = new_flows rules o (record s { queue = record s.queue { units = s.queue.units ++ unit ∷ [] } }) (record { rules_are = h.rules_are; is_open = h.is_open })

pub urged_flows : (rules : FlowRules) (o : Bool) (s : FlowSender) (unit : List ℕ) → IsReady rules o s → Sends rules o (urged s unit)
urged_flows rules o s unit h = new_flows rules o (record s { urgent = record s.urgent { units = s.urgent.units ++ unit ∷ [] } }) (record { rules_are = h.rules_are; is_open = h.is_open })

pub acknowledged_flows : (rules : FlowRules) (o : Bool) (s : FlowSender) (w credit subsequence : ℕ) → IsReady rules o s → Sends rules o (acknowledged s w credit subsequence)
acknowledged_flows rules o s w credit subsequence h =
    if_kept (Sends rules o) (is_taken s (near (block_in s) s.numbers.base w) credit subsequence) _ _
    (λ _. new_flows rules o (acknowledged_to s (near (block_in s) s.numbers.base w) credit subsequence) (record { rules_are = h.rules_are; is_open = h.is_open }))
    (λ _. no_sends rules o s h)

pub done_flows : (rules : FlowRules) (o : Bool) (s : FlowSender) (w : ℕ) → IsReady rules o s → Sends rules o (urgent_done s w)
done_flows rules o s w h =
    if_kept (Sends rules o) (is_outstanding s w) _ _
    (λ _. new_flows rules o (record s { urgent = record s.urgent { units = drop 1 s.urgent.units; out = None } }) (record { rules_are = h.rules_are; is_open = h.is_open }))
    (λ _. no_sends rules o s h)

resends_flow : (rules : FlowRules) (o : Bool) (s : FlowSender) → IsReady rules o s → Sends rules o (resends s)
resends_flow rules o s h = record { flows = all_dts_flow rules s (due_numbers s) h.rules_are; ready = record { rules_are = h.rules_are; is_open = h.is_open } }

again_flows : (rules : FlowRules) (o : Bool) (s : FlowSender) (out : Option Tries) → IsReady rules o s → Sends rules o (resends_urgent_as out s)
again_flows rules o s None h = no_sends rules o s h
again_flows rules o s (Some tries) h =
    if_kept (Sends rules o) (is_due s.rules.t1 s.clock tries) _ _
    (λ _. record { flows = eds_flow rules s (s.urgent.next - 1) s.urgent.units h.rules_are; ready = record { rules_are = h.rules_are; is_open = h.is_open } })
    (λ _. no_sends rules o s h)

pub ticked_flows : (rules : FlowRules) (o : Bool) (s : FlowSender) → IsReady rules o s → Sends rules o (ticked s)
ticked_flows rules o s h = by (life_of s)
  where
    by : (life : Life) → Sends rules o (ticked_as life s)
    by Exhausted = no_sends rules o s h
    by Goes =
        then_flows rules o (then_sends (resends s) resends_urgent) new_sends
        (then_flows rules o (resends s) resends_urgent (resends_flow rules o s h) (λ m ready. again_flows rules o m m.urgent.out ready)) (new_flows rules o)

-- a half that is not open sends nothing
shut_sends : (s : FlowSender) → s.is_open ≡ false → (new_sends s).tpdus ≡ []
shut_sends s h = ap (λ (o : Bool). (if o then then_sends (one_urgent s) normals_where else nothing s).tpdus) h

pub shut_submitted : (s : FlowSender) (unit : List ℕ) → s.is_open ≡ false → (submitted s unit).tpdus ≡ []
shut_submitted s unit h = shut_sends (record s { queue = record s.queue { units = s.queue.units ++ unit ∷ [] } }) h

pub shut_urged : (s : FlowSender) (unit : List ℕ) → s.is_open ≡ false → (urged s unit).tpdus ≡ []
shut_urged s unit h = shut_sends (record s { urgent = record s.urgent { units = s.urgent.units ++ unit ∷ [] } }) h

-- the receiving half
pub ak_flow : (rules : FlowRules) (h : Half) → h.rules ≡ rules → IsFlow rules (ak h)
ak_flow rules h e = flow_of rules (ak h) h.rules e (record { to = refl; format = refl; kind = λ _. refl; target = λ _. refl })

pub aks_flow : (rules : FlowRules) (got : Got) (h : Half) → h.rules ≡ rules → AreFlows rules (aks got h)
aks_flow rules TooLarge h e = tt
aks_flow rules other h e = (ak_flow rules h e, tt)

pub ea_flows : (rules : FlowRules) (wrap : ℕ → ℕ → ℕ) (h : Half) (w : ℕ) (octets : List ℕ) → h.rules ≡ rules → AreFlows rules (taken_ed wrap h w octets).tpdus
ea_flows rules wrap h w octets e =
    if_kept (AreFlows rules) (is_next h w || is_before h w) (ea h w ∷ []) []
    (λ _. (flow_of rules (ea h w) h.rules e (record { to = refl; format = refl; kind = λ _. refl; target = λ _. refl }), tt))
    (λ _. tt)

pub ed_rules : (rules : FlowRules) (wrap : ℕ → ℕ → ℕ) (h : Half) (w : ℕ) (octets : List ℕ) → h.rules ≡ rules → (taken_ed wrap h w octets).half.rules ≡ rules
ed_rules rules wrap h w octets e = if_kept (λ (x : Half). x.rules ≡ rules) (is_next h w) _ _ (λ _. e) (λ _. e)
