-- An AK that comes to an open end stands in the line of that end, as it was said.
use Rattle.std.proofs.Common.{◌≡◌, ◌⊎◌, ◌≤◌, inl, inr, ℕ, ◌+◌, Bool, List, Some, refl, sym, ◌∙◌, ap, subst, arith, Contains}
use Rattle.std.proofs.lemmas.Bool.{cases_lt}
use Rattle.osi_base.specs.Link.{Link}
use Rattle.tpdu.specs.declared.tpdu.Tpdu.{Tpdu as WireTpdu}
use Rattle.tpdu.specs.declared.tpdu.Tpdu.TheVariants as wires
use Rattle.tp4_number.specs.Formats.{block_of}
use Rattle.tp4_number.specs.Number.{near, wire}
use Rattle.tp4_number.specs.Sender.{Sender}
use Rattle.tp4_number.specs.Traffic.{Answer, ReadsRightly, Traffic}
use Rattle.tp4_sending.specs.SendingHalf.{FlowSender, block_in}
use Rattle.tp4_conn.specs.End.{End, agreed_format}
use Rattle.tp4_conn.specs.Table.{Took}
use Rattle.tp4_conn.specs.declared.halves.Halves.{Halves}
use Rattle.tp4_conn.specs.declared.timers.Timers.{Timers}
use Rattle.law_recovery_ends.specs.Knowing.{HasHeard}
use Rattle.law_recovery_ends.specs.Lines.{WasSaid}
use Rattle.script_journal.specs.Partner.{ArePartners}
use Rattle.script_journal.specs.declared.event.Event.{Event}
use Rattle.law_tp4_history.specs.Ends.{Ak, Body, Flow, Tpdu}
use Rattle.law_tp4_history.specs.Tracks.{IsNumbered, Noted, Whole}
use Rattle.law_tp4_history.specs.History.{IsPartner}
use Rattle.law_tp4_history.proofs.Meets.{swap}
use Rattle.law_tp4_history.proofs.Places.{are_ends}
use Rattle.law_tp4_history.proofs.Sound.{one_partner}
use Rattle.law_tp4_history.proofs.Taken.{taken_from, taken_noted}
use Rattle.law_tp4_history.proofs.Tracked.{numbered}
use Rattle.law_tp4_history.proofs.Written.{Kept}
use Rattle.law_tp4_history.specs.Moves.{times_of}
use Rattle.law_tp4_history.specs.Seen.{IsNumbered as HasNumber, seen}
use Rattle.tp4_world.specs.World.{World}
use Rattle.law_tp4_lawful.specs.References.{ComesTo, halves_at}
use Rattle.law_tp4_lawful.proofs.Worlds.{Explains}
use Rattle.law_tp4_lawful.proofs.FramesKnown.{keeps}
use Rattle.law_tp4_lawful.proofs.ReferencesHalves.{AreThere, are_there}
use Rattle.law_tp4_lawful.proofs.ReferencesMet.{IsMet, met}
use Rattle.law_tp4_lawful.proofs.WorldOutcomes.{one_unit}
use Rattle.law_recovery_world.specs.Lines.{IsAk, IsOfferedView, IsSaid}
use Rattle.law_recovery_world.specs.Laws.{AksAreOffered, AksWereSaid}

module _ (titles : List (List ℕ)) (timers : Timers) (w : Whole) (journal : List Event) (kept : Kept (times_of timers) titles w journal)
    (y : ℕ) (own : List ℕ) (reference : ℕ) (e : End) (tick : ℕ) (from : List ℕ) (t : WireTpdu) (m : IsMet timers w y own reference e tick from t)
    (halves : Halves) (there : AreThere w m.known.k e.base halves) (sum : Bool) where
  numbers : IsNumbered (times_of timers) w
  numbers = numbered (times_of timers) w kept.sound kept.tracked

  live : w.base.clock ≤ m.offer.tick + timers.life
  live = m.taken.fresh

  -- the AK as it stands in the line
  abbrev answer : ℕ → ℕ → Answer
  answer credit subsequence = record { number = m.n; credit = credit; subsequence = subsequence; tick = m.offer.tick }

  all : (u : WireTpdu) → t ≡ u → m.offer.tpdu ≡ seen m.n u
  all u is = m.is ∙ ap (seen m.n) is

  flow : (u : WireTpdu) → t ≡ u → (seen m.n u).kind ≡ Flow → m.offer.tpdu.kind ≡ Flow
  flow u is kind = ap (λ (v : Tpdu). v.kind) (all u is) ∙ kind

  in_line : (u : WireTpdu) → t ≡ u → (credit subsequence : ℕ) → (seen m.n u).kind ≡ Flow → (seen m.n u).body ≡ Ak m.n credit subsequence
      → Contains (w.track m.known.k).line.world.answers (answer credit subsequence)
  in_line u is credit subsequence kind body =
      let n : Noted w.base w.track there.z m.offer.tick (Ak m.n credit subsequence) =
      subst (λ (b : Body). Noted w.base w.track there.z m.offer.tick b) (ap (λ (v : Tpdu). v.body) (all u is) ∙ body)
      (taken_noted (times_of timers) w kept.sound kept.tracked m.known.k m.offer (seen m.n t) m.taken (flow u is kind) there.z there.partner) in
      let same : n.0 ≡ m.known.k = one_partner (times_of timers) w.base kept.sound there.z n.0 m.known.k n.1 (swap w.base m.known.k there.z there.partner) in
      subst (λ (j : ℕ). Contains (w.track j).line.world.answers (answer credit subsequence)) same n.3

  young : (w.track m.known.k).line.world.clock ≤ m.offer.tick + (w.track m.known.k).rules.life
  young = let clock = numbers.clock m.known.k there.halves.sending.begun in omega (arith, live, clock.0, clock.2)

  -- its wire number, in the line
  wire_is : (u : WireTpdu) → t ≡ u → (seen m.n u).kind ≡ Flow → HasNumber (w.track m.known.k).rules.block m.n u
  wire_is u is kind =
      subst (λ (b : ℕ). HasNumber b m.n u) (sym there.halves.own_block)
      (subst (λ (v : WireTpdu). HasNumber (block_of (agreed_format e.base.agreed)) m.n v) is (m.numbered (flow u is kind)))

  said_as : (u : WireTpdu) → t ≡ u → IsAk u → WasSaid (w.track m.known.k).rules (w.track m.known.k).line.world (Took u sum)
  said_as (wires.Ak destination number credit subsequence confirmation) is ak =
      let number_is : number ≡ wire (w.track m.known.k).rules.block m.n = wire_is (wires.Ak destination number credit subsequence confirmation) is refl in
      record {
        a = answer credit subsequence;
        there = in_line (wires.Ak destination number credit subsequence confirmation) is credit subsequence refl refl;
        live = young;
        is = λ v given later says. (sym says.0 ∙ number_is, sym says.1, sym says.2);
      }
  said_as other is ak = absurd ak

  -- ---- what a sending half knows by it

  abbrev s : FlowSender
  s = halves.sending

  abbrev line : Traffic
  line = (w.track m.known.k).line.world

  was_base : line.sender.base ≡ s.numbers.base
  was_base = ap (λ (n : Sender). n.base) there.halves.sending.numbers

  read_as : (credit subsequence v : ℕ) → Contains line.answers (answer credit subsequence) → v ≡ wire (w.track m.known.k).rules.block m.n
      → (near (block_in s) s.numbers.base v ≤ s.numbers.blocks.high) ⊎ (s.numbers.base ≡ 0) → near (block_in s) s.numbers.base v ≡ m.n
  read_as credit subsequence v stands is low = alike ∙ read
    where
      reads : ReadsRightly (w.track m.known.k).rules line
      reads = numbers.read m.known.k there.halves.sending.begun

      alike : near (block_in s) s.numbers.base v ≡ near (w.track m.known.k).rules.block line.sender.base (wire (w.track m.known.k).rules.block m.n)
      alike = λ i. near (sym there.halves.sending.block i) (sym was_base i) (is i)

      read : near (w.track m.known.k).rules.block line.sender.base (wire (w.track m.known.k).rules.block m.n) ≡ m.n
      read = elim (cases_lt m.n line.sender.base) [
        | inr up ↦ reads.new_ak (answer credit subsequence) stands young up
        | inl older ↦ elim low [
          | inl below ↦ absurd (omega (arith, reads.old_ak (answer credit subsequence) stands young older, below, alike, ap (λ (n : Sender). n.blocks.high) there.halves.sending.numbers))
          | inr none ↦ absurd (omega (arith, older, none, was_base))
        ]
      ]

  view_as : (u : WireTpdu) → t ≡ u → (f : FlowSender) → HasHeard s (Took u sum) f → IsOfferedView w there.z f
  view_as (wires.Ak destination number credit subsequence confirmation) is f h =
      let u : WireTpdu = wires.Ak destination number credit subsequence confirmation in
      let number_is : number ≡ wire (w.track m.known.k).rules.block m.n = wire_is u is refl in
      let base : f.numbers.base ≡ m.n = h.base ∙ read_as credit subsequence h.w (in_line u is credit subsequence refl refl) (sym h.says.0 ∙ number_is) h.low in
      let credit_is : f.numbers.credit ≡ credit = h.credit_is ∙ sym h.says.1 in
      let subsequence_is : f.numbers.subsequence ≡ subsequence = h.subsequence_is ∙ sym h.says.2 in
      record {
        offer = m.offer;
        offered = m.taken.offered;
        origin = taken_from (times_of timers) w kept.sound kept.tracked m.known.k m.offer (seen m.n t) m.taken (flow u is refl) there.z there.partner;
        is = ap (λ (v : Tpdu). v.body) (all u is) ∙ (λ i. Ak (sym base i) (sym credit_is i) (sym subsequence_is i));
      }
  view_as other is f h = absurd h.says

  partners_of : (a b : ℕ) → IsPartner w.base a b → ArePartners journal (a + 1) (b + 1)
  partners_of a b (inl p) = inl (are_ends (times_of timers) titles w.base kept.sound kept.listed journal kept.placed a b p)
  partners_of a b (inr p) = inr (are_ends (times_of timers) titles w.base kept.sound kept.listed journal kept.placed b a p)

  partners : ArePartners journal (there.z + 1) y
  partners = subst (λ (j : ℕ). ArePartners journal (there.z + 1) j) m.number (partners_of there.z m.known.k (swap w.base m.known.k there.z there.partner))

  pub heard_view : (f : FlowSender) → HasHeard s (Took t sum) f → (z : ℕ) × ArePartners journal (z + 1) y × IsOfferedView w z f
  heard_view f h = (there.z, partners, view_as t refl f h)

  pub is_said : IsAk t → IsSaid w y halves t sum
  is_said ak = record {
    k = m.known.k;
    number_is = m.number;
    block = there.halves.sending.block;
    sender = there.halves.sending.numbers;
    reads = numbers.read m.known.k there.halves.sending.begun;
    said = said_as t refl ak;
  }

module _ {C : Type 0} (link : C → Link (List ℕ)) (titles : List (List ℕ)) (timers : Timers) (w : Whole) (journal : List Event) (world : World C) (explains : Explains link titles timers w journal world)
    (y : ℕ) (t : WireTpdu) (c : ComesTo link world y t) (halves : Halves) (sum : Bool) (has : halves_at c.end.stage ≡ Some halves) where
  abbrev comes : IsMet timers w y c.entity.own c.reference c.end c.tick c.unit.from t
  comes = met link titles timers w journal world explains one_unit y t c

  here : AreThere w comes.known.k c.end.base halves
  here = are_there link titles timers w journal world explains c.entity.own c.reference c.end comes.known halves has

  all_kept : Kept (times_of timers) titles w journal
  all_kept = keeps titles timers w journal world.entities world.ends explains.known

  said_here : IsAk t → IsSaid w y halves t sum
  said_here ak = is_said titles timers w journal all_kept y c.entity.own c.reference c.end c.tick c.unit.from t comes halves here sum ak

  heard_here : (f : FlowSender) → HasHeard halves.sending (Took t sum) f → (z : ℕ) × ArePartners journal (z + 1) y × IsOfferedView w z f
  heard_here f h = heard_view titles timers w journal all_kept y c.entity.own c.reference c.end c.tick c.unit.from t comes halves here sum f h

pub aks_said : {C : Type 0} (link : C → Link (List ℕ)) → AksWereSaid link
aks_said link titles timers w journal world explains y t c halves sum has ak = said_here link titles timers w journal world explains y t c halves sum has ak

pub aks_offered : {C : Type 0} (link : C → Link (List ℕ)) → AksAreOffered link
aks_offered link titles timers w journal world explains y t c halves sum has f h = heard_here link titles timers w journal world explains y t c halves sum has f h
