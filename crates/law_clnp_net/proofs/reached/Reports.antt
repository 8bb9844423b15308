-- Where a system that knows of no other sends to users of the two: to one SNPA, or, to itself, nowhere. So is each error report that it sends to users.
use Rattle.std.proofs.Common.{◌≡◌, ◌⊎◌, inl, inr, ℕ, Bool, true, false, ◌||◌, ◌==◌, if◌then◌else◌, List, [], ◌∷◌, ◌++◌, length, Option, Some, None, refl, sym, ◌∙◌, ap, subst}
use Rattle.std.specs.List.{AllByRecursion}
use Rattle.nsap.specs.Address.{is_same_system, system_part}
use Rattle.nsap.specs.declared.port.Hop.{Hop}
use Rattle.nsap.specs.declared.port.Port.{Port}
use Rattle.osi_base.specs.declared.unit.Unit.{Unit as CarriedUnit}
use Rattle.pdu_parts.specs.FirstFault.{or_else}
use Rattle.clnp_options.specs.declared.reason.PduKind.TheVariants.{Dt, Er}
use Rattle.clnp_header.specs.declared.pdu.Pdu.{Pdu}
use Rattle.lan_step.specs.declared.row.PortRow.{PortRow}
use Rattle.esis_tables.specs.Rows.{Rows}
use Rattle.clnp_system.specs.Hops.{found_hop, group_hop, hop_of}
use Rattle.clnp_system.specs.Node.{Frame, Node}
use Rattle.clnp_system.specs.Reporting.{Discarded, FitsOne, GoesBy, Reports, ReportsIf, report_pdu}
use Rattle.clnp_system.specs.Setting.{Setting, is_group, is_own_system}
use Rattle.clnp_system.specs.Tables.{rows_tables}
use Rattle.clnp_system.specs.Written.{AreFrames, IsPduFrame}
use Rattle.law_clnp_step.specs.Sound.{IsAmong}
use Rattle.law_clnp_net.specs.Calm.{IsCalmNet, titles_of}
use Rattle.law_clnp_net.proofs.Nodes.{IsCalmNode}
use Rattle.law_clnp_net.proofs.Addresses.{made_of, own_title, titles_turned}
use Rattle.law_clnp_net.proofs.Senders.{user_of}
use Rattle.law_clnp_net.proofs.Sent.{finds}
use Rattle.law_clnp_net.proofs.joining.Arrivals.{has_pdu}
use Rattle.law_clnp_net.specs.Reached.{IsHarmless, IsOfUsers, KnowsNobody, OfUsers}

abbrev pub IsSingle : Option Hop → Type 0
IsSingle None = Prim.Unit {0}
IsSingle (Some way) = is_group way.port.snpa ≡ false

er_no_dt : Er ≡ Dt → ⊥
er_no_dt e = cc e

-- the one frame of an error report to one SNPA
frame_harmless : (titles : List (List ℕ)) (setting : Setting) (to : Port) (pdu : Pdu) (frame : Frame) → is_group to.snpa ≡ false → (pdu.kind ≡ Dt → IsOfUsers titles pdu.source)
    → IsPduFrame setting to pdu frame → IsHarmless titles frame
frame_harmless titles setting to pdu frame single source is = OfUsers (record {
  single = ap (λ (p : Port). is_group p.snpa) is.goes.to_is ∙ single;
  pdu = pdu;
  stands = has_pdu frame.octets pdu is.is_pdu;
  source = source;
})

-- the frames of PDUs of users, to one SNPA
pub frames_harmless : (titles : List (List ℕ)) (setting : Setting) (to : Port) (pdus : List Pdu) (frames : List Frame) → is_group to.snpa ≡ false
    → AllByRecursion (λ (pdu : Pdu). pdu.kind ≡ Dt → IsOfUsers titles pdu.source) pdus → AreFrames setting to pdus frames → AllByRecursion (IsHarmless titles) frames
frames_harmless titles setting to [] frames single sources are = subst (AllByRecursion (IsHarmless titles)) (sym are) tt
frames_harmless titles setting to (pdu ∷ pdus) frames single sources are =
    subst (AllByRecursion (IsHarmless titles)) (sym are.4)
    (frame_harmless titles setting to pdu are.0 single sources.0 are.2, frames_harmless titles setting to pdus are.1 single sources.1 are.3)

none_harmless : (titles : List (List ℕ)) (frames : List Frame) → frames ≡ [] → AllByRecursion (IsHarmless titles) frames
none_harmless titles frames is = subst (AllByRecursion (IsHarmless titles)) (sym is) tt

fits_harmless : (titles : List (List ℕ)) (setting : Setting) (way : Hop) (pdu : Pdu) (above : Bool) (frames : List Frame) → is_group way.port.snpa ≡ false → pdu.kind ≡ Er
    → FitsOne setting way pdu above frames → AllByRecursion (IsHarmless titles) frames
fits_harmless titles setting way pdu true frames single er fits = none_harmless titles frames fits
fits_harmless titles setting way pdu false frames single er fits =
    frames_harmless titles setting way.port (pdu ∷ []) frames single ((λ dt. absurd (er_no_dt (sym er ∙ dt))), tt) fits

goes_harmless : (titles : List (List ℕ)) (setting : Setting) (way : Option Hop) (pdu : Pdu) (frames : List Frame) → IsSingle way → pdu.kind ≡ Er → GoesBy setting way pdu frames
    → AllByRecursion (IsHarmless titles) frames
goes_harmless titles setting None pdu frames single er goes = none_harmless titles frames goes
goes_harmless titles setting (Some way) pdu frames single er goes = fits_harmless titles setting way pdu _ frames single er goes

-- ---- the two systems

or_true : (b : Bool) → (b || true) ≡ true
or_true true = refl
or_true false = refl

module _ (rows : List PortRow) (first second : Setting) (here there : Port) (calm : IsCalmNet rows first second here there) where
  abbrev titles : List (List ℕ)
  titles = titles_of first second

  pub apart_back : is_same_system second.title first.title ≡ false
  apart_back = titles_turned second.title first.title ∙ calm.apart

  -- a unit to that address
  abbrev to_it : List ℕ → CarriedUnit (List ℕ)
  to_it address = record { from = []; to = address; octets = [] }

  single_if : (node : Node Rows) (now : ℕ) (address : List ℕ) (way : Hop) (to : Port) → hop_of rows_tables node now address ≡ Some way → way.port ≡ to → is_group to.snpa ≡ false
      → IsSingle (hop_of rows_tables node now address)
  single_if node now address way to found port single =
      subst IsSingle (sym found) (ap (λ (p : Port). is_group p.snpa) port ∙ single)

  -- to the own system it has no hop
  pub none_to_itself : (node : Node Rows) (now : ℕ) (address : List ℕ) → is_own_system node.setup address ≡ true → hop_of rows_tables node now address ≡ None
  none_to_itself node now address own =
      (λ i.
      if (length node.setup.ports == 0) || own i then None
      else or_else (found_hop rows_tables node now address) (if node.setup.end then group_hop node.setup.ports else None))
      ∙ ap
      (λ (b : Bool).
      if b then None
      else or_else (found_hop rows_tables node now address) (if node.setup.end then group_hop node.setup.ports else None))
      (or_true (length node.setup.ports == 0))

  to_itself : (node : Node Rows) (now : ℕ) (address : List ℕ) → is_own_system node.setup address ≡ true → IsSingle (hop_of rows_tables node now address)
  to_itself node now address own = subst IsSingle (sym (none_to_itself node now address own)) tt

  pub own_of : (node : Node Rows) (setting : Setting) (title address : List ℕ) (selector : ℕ) → node.setup ≡ setting → title ≡ setting.title → address ≡ system_part title ++ selector ∷ []
      → is_own_system node.setup address ≡ true
  own_of node setting title address selector setup title_is address_is =
      (λ i. is_same_system (address_is i) (setup i).title) ∙ (made_of title setting.title selector ∙ (ap (λ (t : List ℕ). is_same_system t setting.title) title_is ∙ own_title setting.title))

  pub calm_of : (setting : Setting) (node : Node Rows) → node.setup ≡ setting → KnowsNobody titles node → IsCalmNode setting node
  calm_of setting node setup knows = record { setup = setup; neighbours = knows.neighbours; redirects = knows.redirects }

  pub made_from : (title other address : List ℕ) (selector : ℕ) → title ≡ other → address ≡ system_part title ++ selector ∷ [] → address ≡ system_part other ++ selector ∷ []
  made_from title other address selector same is = is ∙ ap (λ (t : List ℕ). system_part t ++ selector ∷ []) same

  first_single : (node : Node Rows) (now : ℕ) (address : List ℕ) → node.setup ≡ first → KnowsNobody titles node → IsOfUsers titles address → IsSingle (hop_of rows_tables node now address)
  first_single node now address setup knows user = by (user_of first.title second.title user.1.title user.0 user.1.title_is)
    where
      by : ((user.0 ≡ 0) × (user.1.title ≡ first.title)) ⊎ ((user.0 ≡ 1) × (user.1.title ≡ second.title)) → IsSingle (hop_of rows_tables node now address)
      by (inl own) = to_itself node now address (own_of node first user.1.title address user.1.selector setup own.1 user.1.address_is)
      by (inr other) =
          let to = made_from user.1.title second.title address user.1.selector other.1 user.1.address_is in
          single_if node now address (calm.leads.routed user.1.selector).0 there
          (finds first second 0 here there calm.first_at calm.leads 1 calm.second_at apart_back node (calm_of first node setup knows) now (to_it address) user.1.selector user.1.known to)
          (calm.leads.routed user.1.selector).2 calm.second_at.single

  second_single : (node : Node Rows) (now : ℕ) (address : List ℕ) → node.setup ≡ second → KnowsNobody titles node → IsOfUsers titles address → IsSingle (hop_of rows_tables node now address)
  second_single node now address setup knows user = by (user_of first.title second.title user.1.title user.0 user.1.title_is)
    where
      by : ((user.0 ≡ 0) × (user.1.title ≡ first.title)) ⊎ ((user.0 ≡ 1) × (user.1.title ≡ second.title)) → IsSingle (hop_of rows_tables node now address)
      by (inl other) =
          let to = made_from user.1.title first.title address user.1.selector other.1 user.1.address_is in
          single_if node now address (calm.back.routed user.1.selector).0 here
          (finds second first 1 there here calm.second_at calm.back 0 calm.first_at calm.apart node (calm_of second node setup knows) now (to_it address) user.1.selector user.1.known to)
          (calm.back.routed user.1.selector).2 calm.first_at.single
      by (inr own) = to_itself node now address (own_of node second user.1.title address user.1.selector setup own.1 user.1.address_is)

  pub is_single : (node : Node Rows) (now : ℕ) (address : List ℕ) → IsAmong node.setup (first ∷ second ∷ []) → KnowsNobody titles node → IsOfUsers titles address
      → IsSingle (hop_of rows_tables node now address)
  is_single node now address (inl setup) knows user = first_single node now address setup knows user
  is_single node now address (inr (inl setup)) knows user = second_single node now address setup knows user
  is_single node now address (inr (inr none)) knows user = absurd none

  -- ---- error reports

  reports_if : (wanted : Bool) (node : Node Rows) (now : ℕ) (discarded : Discarded) (frames : List Frame) → IsAmong node.setup (first ∷ second ∷ []) → KnowsNobody titles node
      → (wanted ≡ true → IsOfUsers titles discarded.source) → ReportsIf wanted rows_tables node now discarded frames → AllByRecursion (IsHarmless titles) frames
  reports_if false node now discarded frames there_is knows user reports = none_harmless titles frames reports
  reports_if true node now discarded frames there_is knows user reports =
      goes_harmless titles node.setup (hop_of rows_tables node now discarded.source) (report_pdu node.setup discarded) frames (is_single node now discarded.source there_is knows (user refl)) refl reports

  pub reports_harmless : (node : Node Rows) (now : ℕ) (discarded : Discarded) (frames : List Frame) → IsAmong node.setup (first ∷ second ∷ []) → KnowsNobody titles node
      → (discarded.report ≡ true → IsOfUsers titles discarded.source) → Reports rows_tables node now discarded frames → AllByRecursion (IsHarmless titles) frames
  reports_harmless node now discarded frames there_is knows user reports = reports_if discarded.report node now discarded frames there_is knows user reports

  -- ---- both are end systems

  pub ends : (node : Node Rows) → IsAmong node.setup (first ∷ second ∷ []) → node.setup.end ≡ true
  ends node (inl setup) = ap (λ (s : Setting). s.end) setup ∙ calm.first_at.end
  ends node (inr (inl setup)) = ap (λ (s : Setting). s.end) setup ∙ calm.second_at.end
  ends node (inr (inr none)) = absurd none
