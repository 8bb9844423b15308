-- What waits, in parts: behind what waited comes what is sent.
use Rattle.std.proofs.Common.{◌≡◌, ℕ, zero, suc, ◌+◌, ◌≤◌, List, [], ◌∷◌, ◌++◌, refl, sym, ◌∙◌, ap, arith, append_assoc}
use Rattle.tp4_flow.specs.declared.rules.FlowRules.{FlowRules}
use Rattle.tp4_flow.specs.declared.step.Sent.{Sent}
use Rattle.tp4_number.specs.Number.{wire}
use Rattle.law_tp4_pair.specs.Waiting.{AreData, View, dt_in, dts_in, ed_in, eds_in, ak_in, aks_in, ea_in, eas_in, wires, views}
use Rattle.law_tp4_pair.specs.Flowing.{IsNoOlder, Further, Later, Wider, LeadsTo, AllGive}

pub dts_then : (a b : List Sent) → dts_in (a ++ b) ≡ dts_in a ++ dts_in b
dts_then [] b = refl
dts_then (sent ∷ a) b = ap (λ (l : List ℕ). dt_in sent.tpdu ++ l) (dts_then a b) ∙ sym (append_assoc (dt_in sent.tpdu) (dts_in a) (dts_in b))

pub eds_then : (a b : List Sent) → eds_in (a ++ b) ≡ eds_in a ++ eds_in b
eds_then [] b = refl
eds_then (sent ∷ a) b = ap (λ (l : List ℕ). ed_in sent.tpdu ++ l) (eds_then a b) ∙ sym (append_assoc (ed_in sent.tpdu) (eds_in a) (eds_in b))

pub aks_then : (a b : List Sent) → aks_in (a ++ b) ≡ aks_in a ++ aks_in b
aks_then [] b = refl
aks_then (sent ∷ a) b = ap (λ (l : List View). ak_in sent.tpdu ++ l) (aks_then a b) ∙ sym (append_assoc (ak_in sent.tpdu) (aks_in a) (aks_in b))

pub eas_then : (a b : List Sent) → eas_in (a ++ b) ≡ eas_in a ++ eas_in b
eas_then [] b = refl
eas_then (sent ∷ a) b = ap (λ (l : List ℕ). ea_in sent.tpdu ++ l) (eas_then a b) ∙ sym (append_assoc (ea_in sent.tpdu) (eas_in a) (eas_in b))

pub data_then : (rules : FlowRules) (a b : List Sent) → AreData rules a → AreData rules b → AreData rules (a ++ b)
data_then rules [] b first second = second
data_then rules (sent ∷ a) b first second = (first.0, data_then rules a b first.1 second)

pub wires_then : (block n a b : ℕ) → wires block n (a + b) ≡ wires block n a ++ wires block (n + a) b
wires_then block n zero b =
    let one : zero + b ≡ b = omega arith in
    let two : n ≡ n + zero = omega arith in
    ap (wires block n) one ∙ ap (λ (k : ℕ). wires block k b) two
wires_then block n (suc a) b =
    let one : suc a + b ≡ suc (a + b) = omega arith in
    let two : n + 1 + a ≡ n + suc a = omega arith in
    ap (wires block n) one ∙ ap (λ (l : List ℕ). wire block n ∷ l) (wires_then block (n + 1) a b ∙ ap (λ (k : ℕ). wires block (n + 1) a ++ wires block k b) two)

pub views_then : (block : ℕ) (a b : List View) → views block (a ++ b) ≡ views block a ++ views block b
views_then block [] b = refl
views_then block (view ∷ a) b = ap (λ (l : List View). record view { number = wire block view.number } ∷ l) (views_then block a b)

-- one AK more
pub leads_on : (from : View) (waiting : List View) (to new : View) → LeadsTo from waiting to → IsNoOlder to new → LeadsTo from (waiting ++ new ∷ []) new
leads_on from [] to new l n = (newer_than from to new l n, refl)
  where
    newer_than : (a b c : View) → a ≡ b → IsNoOlder b c → IsNoOlder a c
    newer_than a b c e (Further f) = Further (omega (arith, f, ap (λ (v : View). v.number) e))
    newer_than a b c e (Later n l) = Later (ap (λ (v : View). v.number) e ∙ n) (omega (arith, l, ap (λ (v : View). v.subsequence) e))
    newer_than a b c e (Wider n q w) = Wider (ap (λ (v : View). v.number) e ∙ n) (ap (λ (v : View). v.subsequence) e ∙ q) (omega (arith, w, ap (λ (v : View). v.credit) e))
leads_on from (view ∷ rest) to new l n = (l.0, leads_on view rest to new l.1 n)

pub leads_low : (from : View) (waiting : List View) (to : View) → LeadsTo from waiting to → from.number ≤ to.number
leads_low from [] to l = omega (arith, ap (λ (v : View). v.number) l)
leads_low from (view ∷ rest) to l = omega (arith, older_low from view l.0, leads_low view rest to l.1)
  where
    older_low : (a b : View) → IsNoOlder a b → a.number ≤ b.number
    older_low a b (Further f) = omega (arith, f)
    older_low a b (Later n l) = omega (arith, n)
    older_low a b (Wider n q w) = omega (arith, n)

pub give_on : (credit : ℕ) (waiting : List View) (new : View) → AllGive credit waiting → new.credit ≡ credit → AllGive credit (waiting ++ new ∷ [])
give_on credit [] new g e = (e, tt)
give_on credit (view ∷ rest) new g e = (g.0, give_on credit rest new g.1 e)
