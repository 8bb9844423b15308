-- A tick of a system that knows of no other: what it holds came from users, its error reports go to users, and its hellos to no system.
use Rattle.std.proofs.Common.{◌≡◌, ℕ, List, [], ◌∷◌, ◌++◌, sym, ◌∙◌, ap, subst}
use Rattle.std.specs.List.{AllByRecursion, filter}
use Rattle.nsap.specs.declared.port.Port.{Port}
use Rattle.clnp_segment.specs.Store.{Holding}
use Rattle.clnp_segment.specs.declared.store.Expired.{Expired}
use Rattle.lan_step.specs.declared.row.PortRow.{PortRow}
use Rattle.esis_tables.specs.Rows.{Rows, is_row_known}
use Rattle.esis_tables.specs.declared.holding_time.Row.{Row}
use Rattle.clnp_system.specs.Hellos.{is_due}
use Rattle.clnp_system.specs.Node.{Frame, Node, Reaction}
use Rattle.clnp_system.specs.Setting.{Setting}
use Rattle.clnp_system.specs.Tables.{rows_tables}
use Rattle.clnp_system.specs.Ticking.{ExpiresAll, NodeTicks, ReportsEach, discarded_unit}
use Rattle.law_clnp_step.proofs.Lists.{all_back, all_both, all_front, all_weaker}
use Rattle.law_clnp_step.specs.Sound.{IsAmong}
use Rattle.law_clnp_net.specs.Calm.{IsCalmNet, titles_of}
use Rattle.law_clnp_net.proofs.Ticked.{IsToGroup, due_hellos_go}
use Rattle.law_clnp_net.specs.Joining.{HasMost}
use Rattle.law_clnp_net.specs.Reached.{IsHarmless, IsHeldOfUsers, IsOfUsers, KnowsNobody, ToRouters}
use Rattle.law_clnp_net.proofs.reached.Reports.{ends, reports_harmless}
use Rattle.law_clnp_net.proofs.reached.Received.{Leaves}

abbrev pub IsExpiredOfUsers : List (List ℕ) → Expired → Type 0
IsExpiredOfUsers titles expired = IsOfUsers titles expired.source

-- what expires, and what is still held
pub expires_of_users : (titles : List (List ℕ)) (store : Holding) (now : ℕ) (expired : List Expired) (after : Holding) → AllByRecursion (IsHeldOfUsers titles) store.held
    → ExpiresAll store now expired after → AllByRecursion (IsHeldOfUsers titles) after.held × AllByRecursion (IsExpiredOfUsers titles) expired
expires_of_users titles store now [] after all e = (subst (λ (s : Holding). AllByRecursion (IsHeldOfUsers titles) s.held) (sym e.1) all, tt)
expires_of_users titles store now (one ∷ others) after all e =
    let first = e.1 in
    let parted : AllByRecursion (IsHeldOfUsers titles) (first.before ++ first.unit ∷ first.rest) = subst (AllByRecursion (IsHeldOfUsers titles)) first.stands all in
    let back = all_back (IsHeldOfUsers titles) first.before (first.unit ∷ first.rest) parted in
    let held : AllByRecursion (IsHeldOfUsers titles) e.0.held =
    subst (λ (s : Holding). AllByRecursion (IsHeldOfUsers titles) s.held) (sym first.after_is)
    (all_both (IsHeldOfUsers titles) first.before first.rest (all_front (IsHeldOfUsers titles) first.before (first.unit ∷ first.rest) parted) back.1) in
    let rest = expires_of_users titles e.0 now others after held e.2 in
    (rest.0, (subst (IsExpiredOfUsers titles) (sym first.expired_is) back.0, rest.1))

-- as much may be held as before
expires_keep_room : (store : Holding) (now : ℕ) (expired : List Expired) (after : Holding) → HasMost store → ExpiresAll store now expired after → HasMost after
expires_keep_room store now [] after most e = subst HasMost (sym e.1) (record { units = most.units; octets = most.octets })
expires_keep_room store now (one ∷ others) after most e =
    expires_keep_room e.0 now others after (subst HasMost (sym e.1.after_is) (record { units = most.units; octets = most.octets })) e.2

module _ (rows : List PortRow) (first second : Setting) (here there : Port) (calm : IsCalmNet rows first second here there) where
  abbrev titles : List (List ℕ)
  titles = titles_of first second

  reports_each : (node : Node Rows) (now : ℕ) (expired : List Expired) (frames : List Frame) → IsAmong node.setup (first ∷ second ∷ []) → KnowsNobody titles node
      → AllByRecursion (IsExpiredOfUsers titles) expired → ReportsEach rows_tables node now expired frames → AllByRecursion (IsHarmless titles) frames
  reports_each node now [] frames there_is knows users h = subst (AllByRecursion (IsHarmless titles)) (sym h) tt
  reports_each node now (one ∷ others) frames there_is knows users h =
      subst (AllByRecursion (IsHarmless titles)) (sym h.4)
      (all_both (IsHarmless titles) h.0 h.1 (reports_harmless rows first second here there calm node now (discarded_unit one) h.0 there_is knows (λ wanted. users.0) h.2)
      (reports_each node now others h.1 there_is knows users.1 h.3))

  pub ticks_leaves : (node : Node Rows) (now : ℕ) (reaction : Reaction) (after : Node Rows) → IsAmong node.setup (first ∷ second ∷ []) → KnowsNobody titles node
      → NodeTicks rows_tables node now reaction after → Leaves rows first second here there calm node reaction after
  ticks_leaves node now reaction after there_is knows t =
      let both = expires_of_users titles node.store now t.expired t.store knows.held t.expires in
      let none_known : (rs : List Row) → rs ≡ [] → filter (is_row_known now) rs ≡ [] = λ rs e. ap (filter (is_row_known now)) e in
      let setup : after.setup ≡ node.setup = ap (λ (n : Node Rows). n.setup) t.after in
      let knows_after : KnowsNobody titles after = record {
        neighbours = ap (λ (n : Node Rows). n.neighbours.rows) t.after ∙ none_known node.neighbours.rows knows.neighbours;
        redirects = ap (λ (n : Node Rows). n.redirects.rows) t.after ∙ none_known node.redirects.rows knows.redirects;
        held = subst (AllByRecursion (IsHeldOfUsers titles)) (sym (ap (λ (n : Node Rows). n.store.held) t.after)) both.0;
        room = subst HasMost (sym (ap (λ (n : Node Rows). n.store) t.after)) (expires_keep_room node.store now t.expired t.store knows.room t.expires);
      } in
      let hellos = due_hellos_go (is_due node.setup now) node.setup t.hellos (ends rows first second here there calm node there_is) t.are_hellos in
      record {
        knows = knows_after;
        setup = setup;
        frames =
            subst (AllByRecursion (IsHarmless titles)) (sym t.frames)
            (all_both (IsHarmless titles) t.reports t.hellos
            (reports_each after now t.expired t.reports (subst (λ (s : Setting). IsAmong s (first ∷ second ∷ [])) (sym setup) there_is) knows_after both.1 t.are_reports)
            (all_weaker IsToGroup (IsHarmless titles) t.hellos (λ frame group. ToRouters group) hellos));
      }
