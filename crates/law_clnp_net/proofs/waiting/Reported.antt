-- Error reports: one that comes is told, and nothing else comes of it; and what a tick sends is error reports to the port of the other, and hellos to no system.
use Rattle.std.proofs.Common.{◌≡◌, ◌⊎◌, inl, inr, ℕ, Bool, true, false, not, ◌&&◌, if◌then◌else◌, List, [], ◌∷◌, map, Option, Some, None, refl, sym, ◌∙◌, ap, subst, arith}
use Rattle.std.specs.Prelude.{slice_index}
use Rattle.std.specs.List.{AllByRecursion}
use Rattle.nsap.specs.declared.port.Hop.{Hop}
use Rattle.nsap.specs.declared.port.Port.{Port}
use Rattle.osi_base.specs.declared.unit.Unit.{Unit as CarriedUnit}
use Rattle.clnp_options.specs.Options.{value_of}
use Rattle.clnp_options.specs.SourceRoute.{SourceRoute}
use Rattle.clnp_options.specs.declared.reason.PduKind.{PduKind}
use Rattle.clnp_options.specs.declared.reason.PduKind.TheVariants.{Dt, Er}
use Rattle.clnp_options.specs.declared.reason.Reason.TheVariants.{DestinationUnreachable, LifetimeExpiredInTransit}
use Rattle.clnp_header.specs.declared.pdu.Pdu.{Pdu}
use Rattle.clnp_header.specs.Values.{parameters}
use Rattle.clnp_header.proofs.Answered.{apart, one_front}
use Rattle.clnp_segment.specs.declared.store.Expired.{Expired}
use Rattle.lan_step.specs.declared.row.PortRow.{PortRow}
use Rattle.esis_tables.specs.Rows.{Rows}
use Rattle.clnp_system.specs.declared.verdict.Verdict.{Verdict}
use Rattle.clnp_system.specs.declared.verdict.Verdict.TheVariants.{Discard, Tell}
use Rattle.clnp_system.specs.Hellos.{is_due}
use Rattle.clnp_system.specs.Hops.{hop_of}
use Rattle.clnp_system.specs.Node.{Frame, Node, Reaction}
use Rattle.clnp_system.specs.Receiving.{Alien, BadHello, Does, Elsewhere, Faulty, HearsHello, Reads, Receives, told_reason}
use Rattle.clnp_system.specs.Reporting.{Discarded, FitsOne, GoesBy, ReportsIf, discarded_pdu, is_data, report_pdu}
use Rattle.clnp_system.specs.Setting.{Setting, bound_of, is_group}
use Rattle.clnp_system.specs.Tables.{rows_tables}
use Rattle.clnp_system.specs.Ticking.{NodeTicks, ReportsEach, discarded_unit, expiry_note}
use Rattle.clnp_system.specs.Verdicts.{for_this, verdict}
use Rattle.clnp_system.specs.Written.{AreFrames, HasPdu}
use Rattle.net_world.specs.Fifo.{arrivals}
use Rattle.law_clnp_net.proofs.once.Receivings.{hello_first, pdu_first}
use Rattle.law_clnp_step.proofs.Lists.{all_both, all_weaker}
use Rattle.law_clnp_net.specs.Calm.{IsCalmNet, titles_of}
use Rattle.law_clnp_net.proofs.Senders.{user_of}
use Rattle.law_clnp_net.proofs.Sent.{finds}
use Rattle.law_clnp_net.proofs.Ticked.{IsToGroup, due_hellos_go}
use Rattle.law_clnp_net.proofs.joining.Arrivals.{has_pdu}
use Rattle.law_clnp_net.specs.Reached.{IsOfUsers, KnowsNobody}
use Rattle.law_clnp_net.specs.Waiting.{Greets, IsIdle, IsReport, ReportsToFirst, ReportsToSecond}
use Rattle.law_clnp_net.proofs.reached.Reports.{apart_back, calm_of, made_from, none_to_itself, own_of}
use Rattle.law_clnp_net.proofs.reached.Ticked.{IsExpiredOfUsers, expires_of_users, ticks_leaves}

-- ---- one that comes

-- what an end system does with an error report
abbrev IsErSaid : Verdict → Type 0
IsErSaid (Discard reason place) = Prim.Unit {0}
IsErSaid Tell = Prim.Unit {0}
IsErSaid other = ⊥

this_er : (setting : Setting) (pdu : Pdu) (kind : PduKind) → kind ≡ Er → IsErSaid (for_this setting pdu kind)
this_er setting pdu Er is = tt
this_er setting pdu Dt is = absurd cc

er_said : (own low end : Bool) (setting : Setting) (pdu : Pdu) (rest : Verdict) → end ≡ true → pdu.kind ≡ Er
    → IsErSaid (if own then (if low then Discard LifetimeExpiredInTransit 4 else for_this setting pdu pdu.kind) else if end then Discard DestinationUnreachable 0 else rest)
er_said true true end setting pdu rest is kind = tt
er_said true false end setting pdu rest is kind = this_er setting pdu pdu.kind kind
er_said false low true setting pdu rest is kind = tt
er_said false low false setting pdu rest is kind = absurd cc

unwanted : (kind : PduKind) (report single : Bool) → kind ≡ Er → (is_data kind && report && single) ≡ false
unwanted Er report single is = refl
unwanted Dt report single is = absurd cc

told_note : (system : ℕ) (value : Option (List ℕ)) → arrivals (told_reason system value ∷ []) ≡ []
told_note system None = refl
told_note system (Some value) = refl

no_octet : (octet : ℕ) → octet ≡ 0x81 → octet ≡ 0x82 → ⊥
no_octet octet a b = omega (arith, a, b)

-- no unit and no frame comes of it, and all that is held still is
pub record IsQuiet (node : Node Rows) (reaction : Reaction) (after : Node Rows) : Type 0 where
  pub frames : reaction.frames ≡ []
  pub units : arrivals reaction.ups ≡ []
  pub held : after.store.held ≡ node.store.held

module _ (node : Node Rows) (now : ℕ) (frame : Frame) (pdu : Pdu) (has : HasPdu frame.octets pdu) (kind : pdu.kind ≡ Er) (end : node.setup.end ≡ true) where
  does_quiet : (route : Option SourceRoute) (said : Verdict) (reaction : Reaction) (after : Node Rows) → IsErSaid said → Does rows_tables node now frame pdu said reaction after
      → IsQuiet node reaction after
  does_quiet route (Discard reason place) reaction after is h = record {
    frames = subst (λ (wanted : Bool). ReportsIf wanted rows_tables node now (discarded_pdu frame pdu reason place) reaction.frames) (unwanted pdu.kind pdu.report (not (is_group frame.to.snpa)) kind) h.0.reports;
    units = ap arrivals h.0.told;
    held = ap (λ (n : Node Rows). n.store.held) h.1;
  }
  does_quiet route Tell reaction after is h = record {
    frames = ap (λ (r : Reaction). r.frames) h.0;
    units = ap (λ (r : Reaction). arrivals r.ups) h.0 ∙ told_note node.setup.system (value_of 0xc1 (parameters pdu.options));
    held = ap (λ (n : Node Rows). n.store.held) h.1;
  }
  does_quiet route other reaction after is h = absurd is

  pub report_quiet : (reaction : Reaction) (after : Node Rows) → Receives rows_tables node now frame reaction after → IsQuiet node reaction after
  report_quiet reaction after (Elsewhere none is after_is) = record {
    frames = ap (λ (r : Reaction). r.frames) is;
    units = ap (λ (r : Reaction). arrivals r.ups) is;
    held = ap (λ (n : Node Rows). n.store.held) after_is;
  }
  report_quiet reaction after (Alien port at no_pdu no_hello is after_is) = record {
    frames = ap (λ (r : Reaction). r.frames) is;
    units = ap (λ (r : Reaction). arrivals r.ups) is;
    held = ap (λ (n : Node Rows). n.store.held) after_is;
  }
  report_quiet reaction after (Faulty port fault at octet fails discards after_is) = absurd (apart frame.octets has.0 pdu fault has.1 fails)
  report_quiet reaction after (Reads port found route at stands is_route did) =
      let same : found ≡ pdu = (one_front frame.octets found pdu stands.0 has.0 stands.1 has.1).0 in
      does_quiet route (verdict rows_tables node now (bound_of node.setup frame.to.lan) pdu route) reaction after
      (er_said _ _ node.setup.end node.setup pdu _ end kind)
      (subst (λ (p : Pdu). Does rows_tables node now frame p (verdict rows_tables node now (bound_of node.setup frame.to.lan) p route) reaction after) same did)
  report_quiet reaction after (BadHello port fault at octet fails is after_is) = record {
    frames = ap (λ (r : Reaction). r.frames) is;
    units = ap (λ (r : Reaction). arrivals r.ups) is;
    held = ap (λ (n : Node Rows). n.store.held) after_is;
  }
  report_quiet reaction after (HearsHello port heard rest at begins hears) =
      absurd (no_octet (slice_index frame.octets 0) (pdu_first frame.octets pdu has) (hello_first frame.octets heard rest begins))

-- ---- those that a tick sends

-- to that port, or nowhere
abbrev IsTo : Port → Option Hop → Type 0
IsTo to None = Prim.Unit {0}
IsTo to (Some way) = way.port ≡ to

expiries_are_notes : (system : ℕ) (expired : List Expired) → arrivals (map (expiry_note system) expired) ≡ []
expiries_are_notes system [] = refl
expiries_are_notes system (one ∷ others) = expiries_are_notes system others

-- what an error report goes in
module _ (setting : Setting) (to : Port) where
  one_report : (way : Port) (pdu : Pdu) (frames : List Frame) → way ≡ to → pdu.kind ≡ Er → AreFrames setting way (pdu ∷ []) frames → AllByRecursion (IsReport setting to) frames
  one_report way pdu frames same er are =
      let moved : AreFrames setting to (pdu ∷ []) frames = subst (λ (p : Port). AreFrames setting p (pdu ∷ []) frames) same are in
      let last : AllByRecursion (IsReport setting to) moved.1 = subst (AllByRecursion (IsReport setting to)) (sym moved.3) tt in
      subst (AllByRecursion (IsReport setting to)) (sym moved.4)
      (record { goes = moved.2.goes; pdu = pdu; stands = has_pdu moved.0.octets pdu moved.2.is_pdu; kind = er }, last)

  none_go : (frames : List Frame) → frames ≡ [] → AllByRecursion (IsReport setting to) frames
  none_go frames is = subst (AllByRecursion (IsReport setting to)) (sym is) tt

  fits : (way : Hop) (pdu : Pdu) (above : Bool) (frames : List Frame) → way.port ≡ to → pdu.kind ≡ Er → FitsOne setting way pdu above frames → AllByRecursion (IsReport setting to) frames
  fits way pdu true frames same er h = none_go frames h
  fits way pdu false frames same er h = one_report way.port pdu frames same er h

  goes : (way : Option Hop) (pdu : Pdu) (frames : List Frame) → IsTo to way → pdu.kind ≡ Er → GoesBy setting way pdu frames → AllByRecursion (IsReport setting to) frames
  goes None pdu frames same er h = none_go frames h
  goes (Some way) pdu frames same er h = fits way pdu _ frames same er h

reports_if : (wanted : Bool) (node : Node Rows) (to : Port) (now : ℕ) (discarded : Discarded) (frames : List Frame) → IsTo to (hop_of rows_tables node now discarded.source)
    → ReportsIf wanted rows_tables node now discarded frames → AllByRecursion (IsReport node.setup to) frames
reports_if false node to now discarded frames way h = none_go node.setup to frames h
reports_if true node to now discarded frames way h = goes node.setup to (hop_of rows_tables node now discarded.source) (report_pdu node.setup discarded) frames way refl h

reports_each : (node : Node Rows) (to : Port) (now : ℕ) (expired : List Expired) (frames : List Frame) → AllByRecursion (λ (one : Expired). IsTo to (hop_of rows_tables node now one.source)) expired
    → ReportsEach rows_tables node now expired frames → AllByRecursion (IsReport node.setup to) frames
reports_each node to now [] frames ways h = none_go node.setup to frames h
reports_each node to now (one ∷ others) frames ways h =
    subst (AllByRecursion (IsReport node.setup to)) (sym h.4)
    (all_both (IsReport node.setup to) h.0 h.1 (reports_if (discarded_unit one).report node to now (discarded_unit one) h.0 ways.0 h.2) (reports_each node to now others h.1 ways.1 h.3))

module _ (rows : List PortRow) (first second : Setting) (here there : Port) (calm : IsCalmNet rows first second here there) where
  abbrev titles : List (List ℕ)
  titles = titles_of first second

  abbrev to_it : List ℕ → CarriedUnit (List ℕ)
  to_it address = record { from = []; to = address; octets = [] }

  first_to : (node : Node Rows) (now : ℕ) (address : List ℕ) → node.setup ≡ first → KnowsNobody titles node → IsOfUsers titles address → IsTo there (hop_of rows_tables node now address)
  first_to node now address setup knows user = by (user_of first.title second.title user.1.title user.0 user.1.title_is)
    where
      by : ((user.0 ≡ 0) × (user.1.title ≡ first.title)) ⊎ ((user.0 ≡ 1) × (user.1.title ≡ second.title)) → IsTo there (hop_of rows_tables node now address)
      by (inl own) = subst (IsTo there) (sym (none_to_itself rows first second here there calm node now address (own_of rows first second here there calm node first user.1.title address user.1.selector setup own.1 user.1.address_is))) tt
      by (inr other) =
          let to = made_from rows first second here there calm user.1.title second.title address user.1.selector other.1 user.1.address_is in
          subst (IsTo there)
          (sym (finds first second 0 here there calm.first_at calm.leads 1 calm.second_at (apart_back rows first second here there calm) node (calm_of rows first second here there calm first node setup knows) now (to_it address) user.1.selector user.1.known to))
          (calm.leads.routed user.1.selector).2

  second_to : (node : Node Rows) (now : ℕ) (address : List ℕ) → node.setup ≡ second → KnowsNobody titles node → IsOfUsers titles address → IsTo here (hop_of rows_tables node now address)
  second_to node now address setup knows user = by (user_of first.title second.title user.1.title user.0 user.1.title_is)
    where
      by : ((user.0 ≡ 0) × (user.1.title ≡ first.title)) ⊎ ((user.0 ≡ 1) × (user.1.title ≡ second.title)) → IsTo here (hop_of rows_tables node now address)
      by (inl other) =
          let to = made_from rows first second here there calm user.1.title first.title address user.1.selector other.1 user.1.address_is in
          subst (IsTo here)
          (sym (finds second first 1 there here calm.second_at calm.back 0 calm.first_at calm.apart node (calm_of rows first second here there calm second node setup knows) now (to_it address) user.1.selector user.1.known to))
          (calm.back.routed user.1.selector).2
      by (inr own) = subst (IsTo here) (sym (none_to_itself rows first second here there calm node now address (own_of rows first second here there calm node second user.1.title address user.1.selector setup own.1 user.1.address_is))) tt

  abbrev Passes : Frame → Type 0
  Passes = IsIdle true titles first second here there

  -- what a tick of a system comes to
  pub record TicksIdly (reaction : Reaction) : Type 0 where
    pub units : arrivals reaction.ups ≡ []
    pub frames : AllByRecursion Passes reaction.frames

  module _ (node : Node Rows) (now : ℕ) (reaction : Reaction) (after : Node Rows) (knows : KnowsNobody titles node) (t : NodeTicks rows_tables node now reaction after) where
    units : arrivals reaction.ups ≡ []
    units = ap arrivals t.told ∙ expiries_are_notes node.setup.system t.expired

    of_users : AllByRecursion (IsExpiredOfUsers titles) t.expired
    of_users = (expires_of_users titles node.store now t.expired t.store knows.held t.expires).1

    hellos : node.setup.end ≡ true → AllByRecursion Passes t.hellos
    hellos end = all_weaker IsToGroup Passes t.hellos (λ frame group. Greets group) (due_hellos_go (is_due node.setup now) node.setup t.hellos end t.are_hellos)

    pub first_ticks : node.setup ≡ first → TicksIdly reaction
    first_ticks setup =
        let leaves = ticks_leaves rows first second here there calm node now reaction after (inl setup) knows t in
        let after_setup : after.setup ≡ first = leaves.setup ∙ setup in
        let ways = all_weaker (IsExpiredOfUsers titles) (λ (one : Expired). IsTo there (hop_of rows_tables after now one.source)) t.expired
        (λ one user. first_to after now one.source after_setup leaves.knows user) of_users in
        let reports : AllByRecursion (IsReport first there) t.reports =
        subst (λ (s : Setting). AllByRecursion (IsReport s there) t.reports) after_setup (reports_each after there now t.expired t.reports ways t.are_reports) in
        record {
          units = units;
          frames = subst (AllByRecursion Passes) (sym t.frames)
              (all_both Passes t.reports t.hellos (all_weaker (IsReport first there) Passes t.reports (λ frame report. ReportsToSecond refl report) reports)
              (hellos (ap (λ (s : Setting). s.end) setup ∙ calm.first_at.end)));
        }

    pub second_ticks : node.setup ≡ second → TicksIdly reaction
    second_ticks setup =
        let leaves = ticks_leaves rows first second here there calm node now reaction after (inr (inl setup)) knows t in
        let after_setup : after.setup ≡ second = leaves.setup ∙ setup in
        let ways = all_weaker (IsExpiredOfUsers titles) (λ (one : Expired). IsTo here (hop_of rows_tables after now one.source)) t.expired
        (λ one user. second_to after now one.source after_setup leaves.knows user) of_users in
        let reports : AllByRecursion (IsReport second here) t.reports =
        subst (λ (s : Setting). AllByRecursion (IsReport s here) t.reports) after_setup (reports_each after here now t.expired t.reports ways t.are_reports) in
        record {
          units = units;
          frames = subst (AllByRecursion Passes) (sym t.frames)
              (all_both Passes t.reports t.hellos (all_weaker (IsReport second here) Passes t.reports (λ frame report. ReportsToFirst refl report) reports)
              (hellos (ap (λ (s : Setting). s.end) setup ∙ calm.second_at.end)));
        }
