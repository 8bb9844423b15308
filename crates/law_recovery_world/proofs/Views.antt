-- The views between each two open partners are in order.
use Rattle.std.proofs.Common.{◌≡◌, ◌≤◌, inl, inr, ℕ, ◌+◌, List, Some, sym, ◌∙◌, ap, subst, arith}
use Rattle.std.proofs.lemmas.Option.{none-some}
use Rattle.osi_base.specs.Link.{Link}
use Rattle.tp4_number.specs.Sender.{Sender}
use Rattle.tp4_number.specs.Traffic.{Traffic}
use Rattle.law_recovery_pair.specs.Speaking.{Knows, Speaks}
use Rattle.law_recovery_pair.specs.Views.{AreViews, IsNoOlder, View, known, said}
use Rattle.law_recovery_pair.proofs.Speaking.{views_known as in_order}
use Rattle.law_recovery_pair.specs.Viewing.{IsWithin}
use Rattle.tp4_conn.specs.declared.halves.Halves.{Halves}
use Rattle.tp4_conn.specs.declared.states.StateData.{StateData}
use Rattle.tp4_conn.specs.declared.states.StateData.TheVariants.{AkWait, Opened}
use Rattle.tp4_conn.specs.declared.timers.Timers.{Timers}
use Rattle.law_recovery_ends.specs.Knowing.{IsFreshView, StageKnows}
use Rattle.script_journal.specs.Partner.{ArePartners}
use Rattle.script_journal.specs.declared.event.Event.{Event}
use Rattle.law_tp4_history.specs.History.{IsPartner}
use Rattle.law_tp4_history.specs.Tracks.{Whole}
use Rattle.law_tp4_history.proofs.Meets.{swap}
use Rattle.law_tp4_history.proofs.Sound.{one_partner}
use Rattle.law_tp4_history.proofs.Written.{Kept, written_reached}
use Rattle.law_tp4_history.specs.Lines.{IsReceivingAt}
use Rattle.law_tp4_history.specs.Moves.{times_of}
use Rattle.law_tp4_history.proofs.Beginnings.{fit_times}
use Rattle.law_recovery_world.proofs.Leading.{line_speaks}
use Rattle.tp4_world.specs.World.{World}
use Rattle.law_tp4_lawful.specs.Numbers.{IsOpenEnd}
use Rattle.law_tp4_lawful.specs.References.{halves_at}
use Rattle.law_tp4_lawful.proofs.Known.{IsKnown}
use Rattle.law_tp4_lawful.proofs.Worlds.{Explains}
use Rattle.law_tp4_lawful.proofs.FramesKnown.{keeps}
use Rattle.law_tp4_lawful.proofs.ReferencesHalves.{AreThere, are_there, known_at}
use Rattle.law_tp4_lawful.proofs.ReferencesOwn.{are_partners}
use Rattle.law_tp4_lawful.proofs.WorldOutcomes.{one_unit}
use Rattle.law_tp4_lawful.proofs.WorldPlaces.{some_same}
use Rattle.law_recovery_world.specs.Lines.{HasViews, IsOfferedView}
use Rattle.law_recovery_world.specs.Steady.{IsRoomy, StageLate, says_of}
use Rattle.law_recovery_world.proofs.Known.{StageSees}
use Rattle.law_recovery_world.proofs.Viewing.{views_known}

pub roomy_of : (credit now : ℕ) (stage : StateData) (h : Halves) → halves_at stage ≡ Some h → StageLate credit now stage → IsRoomy credit h.receiving
roomy_of credit now (AkWait a) h has l = subst (λ (x : Halves). IsRoomy credit x.receiving) (some_same a.halves h has) l.roomy
roomy_of credit now (Opened o) h has l = subst (λ (x : Halves). IsRoomy credit x.receiving) (some_same o.halves h has) l.2.roomy
roomy_of credit now other h has l = absurd (none-some _ has)

module _ {C : Type 0} (link : C → Link (List ℕ)) (titles : List (List ℕ)) (timers : Timers) (w : Whole) (journal : List Event) (world : World C) (explains : Explains link titles timers w journal world)
    (x y credit : ℕ) (theirs halves : Halves) (partners : ArePartners journal x y) (their_end : IsOpenEnd world x theirs) (open_end : IsOpenEnd world y halves) where
  kept : Kept (times_of timers) titles w journal
  kept = keeps titles timers w journal world.entities world.ends explains.known

  here : (is : IsKnown w open_end.entity.own open_end.reference open_end.end) × (is.k + 1 ≡ y)
  here = known_at link titles timers w journal world explains y open_end.system open_end.entity open_end.reference open_end.end open_end.is_end

  there : AreThere w here.0.k open_end.end.base halves
  there = are_there link titles timers w journal world explains open_end.entity.own open_end.reference open_end.end here.0 halves open_end.has

  far : (is : IsKnown w their_end.entity.own their_end.reference their_end.end) × (is.k + 1 ≡ x)
  far = known_at link titles timers w journal world explains x their_end.system their_end.entity their_end.reference their_end.end their_end.is_end

  there_far : AreThere w far.0.k their_end.end.base theirs
  there_far = are_there link titles timers w journal world explains their_end.entity.own their_end.reference their_end.end far.0 theirs their_end.has

  partner : IsPartner w.base far.0.k here.0.k
  partner =
      let p = are_partners link titles timers w journal world explains one_unit x y here.0.k here.1 partners in
      let same : p.0 ≡ far.0.k = omega (arith, p.1, far.1) in
      swap w.base here.0.k far.0.k (subst (λ (j : ℕ). IsPartner w.base here.0.k j) same p.2)

  abbrev line : Traffic
  line = (w.track here.0.k).line.world

  receiving : IsReceivingAt theirs.receiving (w.track here.0.k)
  receiving =
      subst (λ (j : ℕ). IsReceivingAt theirs.receiving (w.track j)) (one_partner (times_of timers) w.base kept.sound far.0.k there_far.z here.0.k there_far.partner partner) there_far.halves.receiving

  said_is : said line ≡ says_of theirs.receiving
  said_is = λ i. record { number = receiving.expected i; credit = (receiving.inbox i).credit; subsequence = (receiving.inbox i).subsequence }

  speaks : Speaks (w.track here.0.k).room line
  speaks = line_speaks (times_of timers) w here.0.k (fit_times timers) (written_reached (times_of timers) titles w journal explains.known.written) there.halves.sending.begun

  within_line : IsWithin halves.sending → line.sender.next ≤ line.sender.base + line.sender.credit
  within_line edge = subst (λ (s : Sender). s.next ≤ s.base + s.credit) (sym there.halves.sending.numbers) edge

  views : AreViews line → HasViews w y halves theirs
  views v = record { k = here.0.k; number_is = here.1; sender = there.halves.sending.numbers; says = said_is; views = v }

  fresh_views : IsFreshView credit halves.sending → IsRoomy credit theirs.receiving → HasViews w y halves theirs
  fresh_views fresh roomy = views (record { knows = knows; answered = speaks.answered; rising = speaks.rising; edge = within_line fresh.edge })
    where
      base : line.sender.base ≡ 0
      base = ap (λ (s : Sender). s.base) there.halves.sending.numbers ∙ fresh.base

      credit_is : line.sender.credit ≡ credit
      credit_is = ap (λ (s : Sender). s.credit) there.halves.sending.numbers ∙ fresh.credit_is

      subsequence : line.sender.subsequence ≡ 0
      subsequence = ap (λ (s : Sender). s.subsequence) there.halves.sending.numbers ∙ fresh.subsequence

      known_is : known line ≡ record { number = 0; credit = credit; subsequence = 0 }
      known_is = λ i. record { number = base i; credit = credit_is i; subsequence = subsequence i }

      knows : IsNoOlder (known line) (said line)
      knows =
          subst (λ (v : View). IsNoOlder v (said line)) (sym known_is)
          (subst (λ (v : View). IsNoOlder (record { number = 0; credit = credit; subsequence = 0 }) v) (sym said_is) roomy)

  heard_views : (z : ℕ) → ArePartners journal (z + 1) y → IsOfferedView w z halves.sending → IsWithin halves.sending → HasViews w y halves theirs
  heard_views z are view edge =
      let v = views_known link titles timers w journal world explains y z 0 halves open_end are (inr view) in
      let same : v.0 ≡ here.0.k = omega (arith, v.1, here.1) in
      let knows : Knows (w.track here.0.k).room line = subst (λ (j : ℕ). Knows (w.track j).room (w.track j).line.world) same (v.2 (omega arith)) in
      views (in_order (w.track here.0.k).room line speaks knows (within_line edge))

  pub views_by : (stage : StateData) → halves_at stage ≡ Some halves → StageKnows credit stage → StageSees credit w journal y stage → IsRoomy credit theirs.receiving → HasViews w y halves theirs
  views_by (AkWait a) has knows sees roomy = fresh_views (subst (λ (h : Halves). IsFreshView credit h.sending) (some_same a.halves halves has) knows) roomy
  views_by (Opened o) has knows (inl fresh) roomy = fresh_views (subst (λ (h : Halves). IsFreshView credit h.sending) (some_same o.halves halves has) fresh) roomy
  views_by (Opened o) has knows (inr v) roomy =
      heard_views v.0 v.1 (subst (λ (h : Halves). IsOfferedView w v.0 h.sending) (some_same o.halves halves has) v.2) (subst (λ (h : Halves). IsWithin h.sending) (some_same o.halves halves has) knows)
  views_by other has knows sees roomy = absurd (none-some _ has)
