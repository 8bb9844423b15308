-- Units that expire one after another: whatever expires from here on, those before it come first. Of two reports the first comes first.
use Rattle.std.proofs.Common.{◌≡◌, ℕ, ◌+◌, ◌<◌, ◌≤◌, List, [], ◌∷◌, ◌++◌, length, get_or, take, Some, None, refl, sym, ap, ◌∙◌, subst, arith, append_assoc, length-append}
use Rattle.std.proofs.lemmas.List.{append-nil, take_more}
use Rattle.clnp_segment.specs.Store.{Expires, Holding}
use Rattle.clnp_segment.specs.declared.store.Expired.{Expired}
use Rattle.esis_tables.specs.Rows.{Rows}
use Rattle.clnp_system.specs.Node.{Frame, Node}
use Rattle.clnp_system.specs.Reporting.{Discarded, Reports}
use Rattle.clnp_system.specs.Tables.{rows_tables}
use Rattle.clnp_system.specs.Ticking.{ExpiresAll, ReportsEach, discarded_unit}

-- these expired so far
pub record GoesOn (start : Holding) (now : ℕ) (done : List Expired) (store : Holding) : Type 0 where
  pub goes : (rest : List Expired) (after : Holding) → ExpiresAll store now rest after → ExpiresAll start now (done ++ rest) after
  pub clock : store.clock ≤ now
  pub units : store.units ≡ start.units
  pub octets : store.octets ≡ start.octets

pub goes_first : (start : Holding) (now : ℕ) → start.clock ≤ now → GoesOn start now [] start
goes_first start now clock = record { goes = λ rest after h. h; clock = clock; units = refl; octets = refl }

pub goes_more : (start : Holding) (now : ℕ) (done new : List Expired) (unit : Expired) (store mid : Holding) → GoesOn start now done store
    → Expires store now (Some unit) mid → new ≡ done ++ unit ∷ [] → GoesOn start now new mid
goes_more start now done new unit store mid on expires is = record {
  goes = λ rest after h. subst (λ (all : List Expired). ExpiresAll start now all after)
      (sym (append_assoc done (unit ∷ []) rest) ∙ ap (λ (all : List Expired). all ++ rest) (sym is)) (on.goes (unit ∷ rest) after (mid, expires, h));
  clock = let e : mid.clock ≡ now = ap (λ (s : Holding). s.clock) expires.after_is in omega (arith, e);
  units = ap (λ (s : Holding). s.units) expires.after_is ∙ on.units;
  octets = ap (λ (s : Holding). s.octets) expires.after_is ∙ on.octets;
}

pub goes_all : (start : Holding) (now : ℕ) (done : List Expired) (store after : Holding) → GoesOn start now done store → Expires store now None after
    → ExpiresAll start now done after
goes_all start now done store after on expires =
    subst (λ (all : List Expired). ExpiresAll start now all after) (append-nil done) (on.goes [] after expires)

-- a unit less
pub fewer : (now : ℕ) (unit : Expired) (store mid : Holding) → Expires store now (Some unit) mid → length mid.held < length store.held
fewer now unit store mid expires =
    let old : length store.held ≡ length expires.before + length (expires.unit ∷ expires.rest) =
    ap length expires.stands ∙ length-append expires.before (expires.unit ∷ expires.rest) in
    let new : length mid.held ≡ length expires.before + length expires.rest =
    ap (λ (s : Holding). length s.held) expires.after_is ∙ length-append expires.before expires.rest in
    omega (arith, old, new)

-- a report more
pub reports_more : (node : Node Rows) (now : ℕ) (units : List Expired) (unit : Expired) (frames here : List Frame) → ReportsEach rows_tables node now units frames
    → Reports rows_tables node now (discarded_unit unit) here → ReportsEach rows_tables node now (units ++ unit ∷ []) (frames ++ here)
reports_more node now [] unit frames here are is =
    (here, [], is, refl, ap (λ (all : List Frame). all ++ here) are ∙ sym (append-nil here))
reports_more node now (first ∷ units) unit frames here are is = (
  are.0,
  are.1 ++ here,
  are.2,
  reports_more node now units unit are.1 here are.3 is,
  ap (λ (all : List Frame). all ++ here) are.4 ∙ append_assoc are.0 are.1 here,
)

pub reports_next : (node : Node Rows) (now : ℕ) (all : List Expired) (place : ℕ) (unit : Expired) (discarded : Discarded) (frames here new : List Frame) → place < length all
    → unit ≡ get_or all place unit → ReportsEach rows_tables node now (take place all) frames → discarded ≡ discarded_unit unit → Reports rows_tables node now discarded here
    → new ≡ frames ++ here → ReportsEach rows_tables node now (take (place + 1) all) new
reports_next node now all place unit discarded frames here new within is are lost report more =
    let front : take (place + 1) all ≡ take place all ++ unit ∷ [] =
    take_more all place unit within ∙ ap (λ (x : Expired). take place all ++ x ∷ []) (sym is) in
    let each : ReportsEach rows_tables node now (take place all ++ unit ∷ []) (frames ++ here) = reports_more node now (take place all) unit frames here are
    (subst (λ (d : Discarded). Reports rows_tables node now d here) lost report) in
    subst (λ (units : List Expired). ReportsEach rows_tables node now units new) (sym front)
    (subst (λ (fs : List Frame). ReportsEach rows_tables node now (take place all ++ unit ∷ []) fs) (sym more) each)
