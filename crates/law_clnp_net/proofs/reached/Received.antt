-- A system takes a frame with a PDU between users: it still knows of no other, holds what came from users, and answers by error reports to users alone.
use Rattle.std.proofs.Common.{◌≡◌, ℕ, ◌+◌, Bool, true, false, not, ◌&&◌, if◌then◌else◌, List, [], ◌∷◌, ◌++◌, Option, Some, None, refl, sym, ◌∙◌, ap, subst, arith}
use Rattle.std.specs.Prelude.{slice_index}
use Rattle.std.specs.List.{AllByRecursion}
use Rattle.nsap.specs.declared.port.Port.{Port}
use Rattle.clnp_options.specs.SourceRoute.{SourceRoute}
use Rattle.clnp_options.specs.declared.reason.PduKind.{PduKind}
use Rattle.clnp_options.specs.declared.reason.PduKind.TheVariants.{Dt, Er}
use Rattle.clnp_options.specs.declared.reason.Reason.{Reason}
use Rattle.clnp_options.specs.declared.reason.Reason.TheVariants.{Congestion, DestinationUnreachable, LifetimeExpiredInTransit, ReassemblyInterference}
use Rattle.clnp_header.specs.declared.pdu.Pdu.{Pdu}
use Rattle.clnp_header.proofs.Answered.{apart, one_front}
use Rattle.clnp_segment.specs.Joining.{Held}
use Rattle.clnp_segment.specs.Store.{At, Coming, Holding, Key, Partial, Takes as TakesSegment, TakesAt, partial_with}
use Rattle.clnp_segment.specs.declared.store.Joined.{Joined}
use Rattle.clnp_segment.specs.declared.store.Joined.TheVariants as joined
use Rattle.lan_step.specs.declared.row.PortRow.{PortRow}
use Rattle.esis_tables.specs.Rows.{Rows}
use Rattle.clnp_system.specs.declared.verdict.Verdict.{Verdict}
use Rattle.clnp_system.specs.declared.verdict.Verdict.TheVariants.{Discard, Tell, Take, Join, Onward}
use Rattle.nsap.specs.declared.port.Hop.{Hop}
use Rattle.clnp_system.specs.Hellos.{AnswersGroup, ToSenderIf, own_esh, sender}
use Rattle.clnp_system.specs.Node.{Frame, Node, Reaction, at_tick}
use Rattle.clnp_system.specs.Receiving.{Alien, BadHello, Does, Elsewhere, Faulty, HearsHello, JoinGives, Joins, Reads, Receives, coming}
use Rattle.clnp_system.specs.Reporting.{Discards, discarded_pdu, is_data}
use Rattle.clnp_system.specs.Setting.{Setting, bound_of, is_group}
use Rattle.clnp_system.specs.Tables.{rows_tables}
use Rattle.clnp_system.specs.Verdicts.{for_this, verdict}
use Rattle.clnp_system.proofs.Outgoing.{this_not_onward}
use Rattle.law_clnp_net.proofs.once.Receivings.{hello_first, pdu_first}
use Rattle.law_clnp_step.proofs.Lists.{all_back, all_both, all_front}
use Rattle.law_clnp_step.specs.Sound.{IsAmong}
use Rattle.law_clnp_net.specs.Calm.{IsCalmNet, titles_of}
use Rattle.law_clnp_net.specs.Joining.{HasMost}
use Rattle.law_clnp_net.specs.Reached.{HasOwnPdu, IsHarmless, IsHeldOfUsers, IsOfUsers, KnowsNobody}
use Rattle.law_clnp_net.proofs.reached.Reports.{ends, reports_harmless}

-- ---- the verdict of an end system

data_kind : (kind : PduKind) (report single : Bool) → (is_data kind && report && single) ≡ true → kind ≡ Dt
data_kind Dt report single h = refl
data_kind Er report single h = absurd cc

low_no_hop : (low : Bool) (setting : Setting) (pdu : Pdu) (way : Hop) → (if low then Discard LifetimeExpiredInTransit 4 else for_this setting pdu pdu.kind) ≡ Onward way → ⊥
low_no_hop true setting pdu way e = absurd cc
low_no_hop false setting pdu way e = this_not_onward setting pdu pdu.kind way e

-- no PDU goes onward
end_no_hop : (own low end : Bool) (setting : Setting) (pdu : Pdu) (rest : Verdict) (way : Hop) → end ≡ true
    → (if own then (if low then Discard LifetimeExpiredInTransit 4 else for_this setting pdu pdu.kind) else if end then Discard DestinationUnreachable 0 else rest) ≡ Onward way → ⊥
end_no_hop true low end setting pdu rest way is e = low_no_hop low setting pdu way e
end_no_hop false low true setting pdu rest way is e = absurd cc
end_no_hop false low false setting pdu rest way is e = absurd cc

this_is_dt : (setting : Setting) (pdu : Pdu) (kind : PduKind) → for_this setting pdu kind ≡ Join → kind ≡ Dt
this_is_dt setting pdu Dt e = refl
this_is_dt setting pdu Er e = absurd cc

low_is_dt : (low : Bool) (setting : Setting) (pdu : Pdu) → (if low then Discard LifetimeExpiredInTransit 4 else for_this setting pdu pdu.kind) ≡ Join → pdu.kind ≡ Dt
low_is_dt true setting pdu e = absurd cc
low_is_dt false setting pdu e = this_is_dt setting pdu pdu.kind e

-- a DT PDU alone is joined
joined_is_dt : (own low end : Bool) (setting : Setting) (pdu : Pdu) (rest : Verdict) → end ≡ true
    → (if own then (if low then Discard LifetimeExpiredInTransit 4 else for_this setting pdu pdu.kind) else if end then Discard DestinationUnreachable 0 else rest) ≡ Join → pdu.kind ≡ Dt
joined_is_dt true low end setting pdu rest is e = low_is_dt low setting pdu e
joined_is_dt false low true setting pdu rest is e = absurd cc
joined_is_dt false low false setting pdu rest is e = absurd cc

-- ---- what is held

module _ (P : Partial → Type 0) where
  -- what is held about the place of a key
  record Parts (before : List Partial) (found : Option Partial) (rest : List Partial) : Type 0 where
    front : AllByRecursion P before
    back : AllByRecursion P rest
    there : (unit : Partial) → found ≡ Some unit → P unit

  some_unit : (one other : Partial) → Some one ≡ Some other → one ≡ other
  some_unit one other e = cc

  parts : (key : Key) (held before : List Partial) (found : Option Partial) (rest : List Partial) → At key held before found rest → AllByRecursion P held → Parts before found rest
  parts key held before found rest (At.There unit found_is held_is passes none) all =
      let parted : AllByRecursion P (before ++ unit ∷ rest) = subst (AllByRecursion P) held_is all in record {
        front = all_front P before (unit ∷ rest) parted;
        back = (all_back P before (unit ∷ rest) parted).1;
        there = λ other is. subst P (some_unit unit other (sym found_is ∙ is)) (all_back P before (unit ∷ rest) parted).0;
      }
  parts key held before found rest (At.New found_is before_is rest_is none) all = record {
    front = subst (AllByRecursion P) (sym before_is) all;
    back = subst (AllByRecursion P) (sym rest_is) tt;
    there = λ other is. absurd (no_unit found other found_is is);
  }
    where
      no_unit : (slot : Option Partial) (other : Partial) → slot ≡ None → slot ≡ Some other → ⊥
      no_unit slot other a b = let e : None ≡ Some other = sym a ∙ b in cc

  -- what is held after a segment was taken
  taken : (store : Holding) (now : ℕ) (come : Coming) (before : List Partial) (found : Option Partial) (rest : List Partial) (answer : Joined) (after : Holding)
      → AllByRecursion P store.held → Parts before found rest → ((new : Held) (deadline : ℕ) → P (partial_with found come new deadline)) → TakesAt store now come before found rest answer after
      → AllByRecursion P after.held
  taken store now come before found rest joined.Interference after all p with_it t =
      subst (λ (s : Holding). AllByRecursion P s.held) (sym t.1) (all_both P before rest p.front p.back)
  taken store now come before found rest (joined.Whole octets) after all p with_it t =
      subst (λ (s : Holding). AllByRecursion P s.held) (sym t.4) (all_both P before rest p.front p.back)
  taken store now come before found rest joined.Full after all p with_it t = subst (λ (s : Holding). AllByRecursion P s.held) (sym t.4) all
  taken store now come before found rest joined.Held after all p with_it t =
      subst (λ (s : Holding). AllByRecursion P s.held) (sym t.4)
      (all_both P before (partial_with found come t.0 (now + come.left) ∷ rest) p.front (with_it t.0 (now + come.left), p.back))

-- the unit of a segment has its source
with_source : (titles : List (List ℕ)) (come : Coming) (found : Option Partial) (new : Held) (deadline : ℕ) → IsOfUsers titles come.key.source
    → ((unit : Partial) → found ≡ Some unit → IsHeldOfUsers titles unit) → IsHeldOfUsers titles (partial_with found come new deadline)
with_source titles come None new deadline user there = user
with_source titles come (Some unit) new deadline user there = there unit refl

-- as much may be held as before
at_room : (store : Holding) (now : ℕ) (come : Coming) (before : List Partial) (found : Option Partial) (rest : List Partial) (answer : Joined) (after : Holding) → HasMost store
    → TakesAt store now come before found rest answer after → HasMost after
at_room store now come before found rest joined.Interference after most t = subst HasMost (sym t.1) (record { units = most.units; octets = most.octets })
at_room store now come before found rest (joined.Whole octets) after most t = subst HasMost (sym t.4) (record { units = most.units; octets = most.octets })
at_room store now come before found rest other after most t = subst HasMost (sym t.4) (record { units = most.units; octets = most.octets })

takes_keep_room : (store : Holding) (now : ℕ) (come : Coming) (answer : Joined) (after : Holding) → HasMost store → TakesSegment store now come answer after → HasMost after
takes_keep_room store now come answer after most t = at_room store now come t.before t.found t.rest answer after most t.takes

pub takes_of_users : (titles : List (List ℕ)) (store : Holding) (now : ℕ) (come : Coming) (answer : Joined) (after : Holding) → AllByRecursion (IsHeldOfUsers titles) store.held
    → IsOfUsers titles come.key.source → TakesSegment store now come answer after → AllByRecursion (IsHeldOfUsers titles) after.held
takes_of_users titles store now come answer after all user t =
    let p = parts (IsHeldOfUsers titles) come.key store.held t.before t.found t.rest t.at all in
    taken (IsHeldOfUsers titles) store now come t.before t.found t.rest answer after all p (λ new deadline. with_source titles come t.found new deadline user p.there) t.takes

-- ---- a frame

no_octet : (octet : ℕ) → octet ≡ 0x81 → octet ≡ 0x82 → ⊥
no_octet octet a b = omega (arith, a, b)

module _ (rows : List PortRow) (first second : Setting) (here there : Port) (calm : IsCalmNet rows first second here there) where
  abbrev titles : List (List ℕ)
  titles = titles_of first second

  -- what a frame leaves
  pub record Leaves (node : Node Rows) (reaction : Reaction) (after : Node Rows) : Type 0 where
    pub knows : KnowsNobody titles after
    pub setup : after.setup ≡ node.setup
    pub frames : AllByRecursion (IsHarmless titles) reaction.frames

  none_sent : (frames : List Frame) → frames ≡ [] → AllByRecursion (IsHarmless titles) frames
  none_sent frames is = subst (AllByRecursion (IsHarmless titles)) (sym is) tt

  -- a system that only moved its clock
  as_it_was : (node : Node Rows) (now : ℕ) (reaction : Reaction) (after : Node Rows) → KnowsNobody titles node → after ≡ at_tick now node → AllByRecursion (IsHarmless titles) reaction.frames
      → Leaves node reaction after
  as_it_was node now reaction after knows is frames = record {
    knows = subst (KnowsNobody titles) (sym is) (record { neighbours = knows.neighbours; redirects = knows.redirects; held = knows.held; room = knows.room });
    setup = ap (λ (n : Node Rows). n.setup) is;
    frames = frames;
  }

  module _ (node : Node Rows) (now : ℕ) (frame : Frame) (there_is : IsAmong node.setup (first ∷ second ∷ [])) (knows : KnowsNobody titles node) (own : HasOwnPdu titles frame) where
    no_group_answer : (frames : List Frame) → AnswersGroup node.setup frame.from frame.to frames → frames ≡ []
    no_group_answer frames answers = subst (λ (group : Bool). ToSenderIf group node.setup (sender frame.from frame.to) (own_esh node.setup) frames) own.single answers

    discards_harmless : (reason : Reason) (place : ℕ) (reaction : Reaction) → Discards rows_tables node now (discarded_pdu frame own.pdu reason place) reaction
        → AllByRecursion (IsHarmless titles) reaction.frames
    discards_harmless reason place reaction d =
        reports_harmless rows first second here there calm node now (discarded_pdu frame own.pdu reason place) reaction.frames there_is knows
        (λ wanted. own.source (data_kind own.pdu.kind own.pdu.report (not (is_group frame.to.snpa)) wanted)) d.reports

    gives_harmless : (answer : Joined) (reaction : Reaction) → JoinGives rows_tables node now frame own.pdu answer reaction → AllByRecursion (IsHarmless titles) reaction.frames
    gives_harmless joined.Interference reaction gives = discards_harmless ReassemblyInterference 0 reaction gives
    gives_harmless joined.Full reaction gives = discards_harmless Congestion 0 reaction gives
    gives_harmless other reaction gives = none_sent reaction.frames (no_group_answer reaction.frames gives.1)

    joins : (reaction : Reaction) (after : Node Rows) → own.pdu.kind ≡ Dt → Joins rows_tables node now frame own.pdu reaction after → Leaves node reaction after
    joins reaction after dt j = record {
      knows = subst (KnowsNobody titles) (sym j.after) (record {
        neighbours = knows.neighbours;
        redirects = knows.redirects;
        held = takes_of_users titles node.store now (coming frame (bound_of node.setup frame.to.lan) own.pdu j.part) j.answer j.store knows.held (own.source dt) j.takes;
        room = takes_keep_room node.store now (coming frame (bound_of node.setup frame.to.lan) own.pdu j.part) j.answer j.store knows.room j.takes;
      });
      setup = ap (λ (n : Node Rows). n.setup) j.after;
      frames = gives_harmless j.answer reaction j.gives;
    }

    does : (route : Option SourceRoute) (said : Verdict) (reaction : Reaction) (after : Node Rows)
        → verdict rows_tables node now (bound_of node.setup frame.to.lan) own.pdu route ≡ said → Does rows_tables node now frame own.pdu said reaction after → Leaves node reaction after
    does route (Discard reason place) reaction after is h = as_it_was node now reaction after knows h.1 (discards_harmless reason place reaction h.0)
    does route Tell reaction after is h = as_it_was node now reaction after knows h.1 (none_sent reaction.frames (ap (λ (r : Reaction). r.frames) h.0))
    does route Take reaction after is h = as_it_was node now reaction after knows h.2 (none_sent reaction.frames (no_group_answer reaction.frames h.1))
    does route Join reaction after is h = joins reaction after (joined_is_dt _ _ node.setup.end node.setup own.pdu _ (ends rows first second here there calm node there_is) is) h
    does route (Onward way) reaction after is h = absurd (end_no_hop _ _ node.setup.end node.setup own.pdu _ way (ends rows first second here there calm node there_is) is)

    pub receives_leaves : (reaction : Reaction) (after : Node Rows) → Receives rows_tables node now frame reaction after → Leaves node reaction after
    receives_leaves reaction after (Elsewhere none is after_is) = as_it_was node now reaction after knows after_is (none_sent reaction.frames (ap (λ (r : Reaction). r.frames) is))
    receives_leaves reaction after (Alien port at no_pdu no_hello is after_is) = as_it_was node now reaction after knows after_is (none_sent reaction.frames (ap (λ (r : Reaction). r.frames) is))
    receives_leaves reaction after (Faulty port fault at octet fails discards after_is) = absurd (apart frame.octets own.stands.0 own.pdu fault own.stands.1 fails)
    receives_leaves reaction after (Reads port found route at stands is_route did) =
        let same : found ≡ own.pdu = (one_front frame.octets found own.pdu stands.0 own.stands.0 stands.1 own.stands.1).0 in
        does route (verdict rows_tables node now (bound_of node.setup frame.to.lan) own.pdu route) reaction after refl
        (subst (λ (pdu : Pdu). Does rows_tables node now frame pdu (verdict rows_tables node now (bound_of node.setup frame.to.lan) pdu route) reaction after) same did)
    receives_leaves reaction after (BadHello port fault at octet fails is after_is) = as_it_was node now reaction after knows after_is (none_sent reaction.frames (ap (λ (r : Reaction). r.frames) is))
    receives_leaves reaction after (HearsHello port heard rest at begins hears) =
        absurd (no_octet (slice_index frame.octets 0) (pdu_first frame.octets own.pdu own.stands) (hello_first frame.octets heard rest begins))
