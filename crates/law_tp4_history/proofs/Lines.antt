-- What is shown at one side of a line is what was submitted at the other. By the law of numbers each piece is held under its own number, so what
-- comes in order joins to the units; and a new DT goes only where no ED is outstanding, so each expedited unit before it was shown.
use Rattle.std.proofs.Common.{◌≡◌, ◌⊎◌, inl, inr, ℕ, zero, suc, ◌+◌, ◌-◌, ◌<◌, ◌≤◌, Bool, true, false, ◌==◌, nat_lt, if◌then◌else◌, max, List, [], ◌∷◌, ◌++◌, length, get_or, set, take, drop, replicate, Option, Some, None, refl, sym, ◌∙◌, ap, subst, arith, append-nil, append_assoc, length-append, Contains}
use Rattle.std.specs.List.{sum_by}
use Rattle.std.proofs.Math.ListN.{get_or-append}
use Rattle.std.proofs.lemmas.List.{get_or-append_right, get_or-drop, take-append-drop, take-append-le, length-take-le, take_more}
use Rattle.std.proofs.lemmas.Bool.{cases_lt, eqb-true}
use Rattle.tp4_number.specs.declared.piece.Piece.{Piece}
use Rattle.tp4_number.specs.declared.got.Got.{Got}
use Rattle.tp4_number.specs.declared.got.Got.TheVariants.{Kept}
use Rattle.tp4_number.specs.Number.{whole, wire, ahead, near}
use Rattle.tp4_number.specs.Sender.{Sender, sent_next, told}
use Rattle.tp4_number.specs.declared.blocks.Blocks.{Blocks}
use Rattle.tp4_number.specs.Window.{Held, placed, slid}
use Rattle.tp4_number.specs.Receiver.{Inbox, Receiver, judged, in_order, arrived_as, arrival, after_dt, granted}
use Rattle.tp4_sending.specs.Pieces.{count_in, cut_at}
use Rattle.tp4_number.specs.Traffic.{Rules, IsFit, Traffic, Event, Tick, Open, Send, Resend, Dt_comes, Grant, Acknowledge, Ak_comes, May, after, Leads, start}
use Rattle.tp4_number.specs.Expedited.{Urgent, UrgentEvent, Ticks, Sends_ed, Resends_ed, Ed_comes, Ea_comes, MayUrgent, urgently, LeadsUrgently, quiet, IsAlone, ObeysRule, ed_taken, ea_taken}
use Rattle.tp4_number.proofs.Accounts.{marked_high}
use Rattle.tp4_number.proofs.Sound.{Sound, reads}
use Rattle.tp4_number.proofs.Steps.{all_sound, leads_more}
use Rattle.tp4_number.proofs.Past.{if_kept, kept_low}
use Rattle.tp4_number.proofs.Expedited.{all_alone, all_obey}
use Rattle.script_journal.specs.Lawful.{Marked, Normal, Expedited, normals, expediteds, befores, IsQueue}
use Rattle.law_tp4_history.specs.Line.{all_normal, Line, Happening, Submit, Clock, Flows, Expedites, IsUnit, CarriesPiece, CarriesUnit, urged_by, Can, next, Runs, empty}
use Rattle.law_tp4_history.specs.Complete.{AllFull, Complete}
use Rattle.law_tp4_history.proofs.Complete.{unit_at, front, complete_more, full_more, cut_more, shown_whole, unit_low, Joins, joins}
use Rattle.law_tp4_history.proofs.Marks.{normals-append, expediteds-append, normals_all, expediteds_all, befores_low, befores_kept, befores_new}
use Rattle.law_tp4_history.proofs.Outstanding.{IsOutstanding, outstanding_event, outstanding_quiet, urgently_more}

-- pieces of normal units, below and above
pub record Filled (size : ℕ) (units : List (List ℕ)) (high : ℕ) (r : Receiver) (shown : List (List ℕ)) : Type 0 where
  pub full : AllFull units
  pub sent : (n : ℕ) → n < high → (piece : Piece) × (cut_at size units n ≡ Some piece)
  pub held : (d : ℕ) (piece : Piece) → get_or r.inbox.held.places d None ≡ Some piece → cut_at size units (r.expected + d) ≡ Some piece
  pub complete : Complete size units r.expected shown r.inbox.held.begun

slid_same : (places : List (Option Piece)) (k j : ℕ) (piece : Piece) → get_or (slid places k) j None ≡ Some piece → get_or places (k + j) None ≡ Some piece
slid_same places k j piece h = elim (cases_lt j (length (drop k places))) [
  | inl within ↦ sym (get_or-append (drop k places) (replicate k None) None j within ∙ get_or-drop k places j None) ∙ h
  | inr out ↦ absurd (blanks k (j - length (drop k places)) (sym (get_or-append_right (drop k places) (replicate k None) (length (drop k places)) j None refl out) ∙ h))
]
  where
    blanks : (k i : ℕ) → get_or (replicate k None) i None ≡ Some piece → ⊥
    blanks zero i e = cc e
    blanks (suc k) zero e = cc e
    blanks (suc k) (suc i) e = blanks k i e

pub set_same : (places : List (Option Piece)) (d j : ℕ) (piece other : Piece) → get_or (set places d (Some piece)) j None ≡ Some other → ((j ≡ d) × (piece ≡ other)) ⊎ (get_or places j None ≡ Some other)
set_same [] d j piece other h = absurd (cc h)
set_same (x ∷ places) zero zero piece other h = inl (refl, cc h)
set_same (x ∷ places) zero (suc j) piece other h = inr h
set_same (x ∷ places) (suc d) zero piece other h = inr h
set_same (x ∷ places) (suc d) (suc j) piece other h = elim (set_same places d j piece other h) [ inl here ↦ inl (ap suc here.0, here.1) | inr old ↦ inr old ]

-- what a DT does to what is held and shown
pub record Shows (size : ℕ) (units : List (List ℕ)) (shown new : List (List ℕ)) (r : Receiver) : Type 0 where
  pub held : (d : ℕ) (piece : Piece) → get_or r.inbox.held.places d None ≡ Some piece → cut_at size units (r.expected + d) ≡ Some piece
  pub complete : Complete size units r.expected (shown ++ new) r.inbox.held.begun
  pub at : (k : ℕ) → length shown ≤ k → k < length (shown ++ new) → (m : ℕ) × (m < r.expected) × (unit_at size units m ≡ k)

module _ (rules : Rules) (fit : IsFit rules) (size : ℕ) (some : 0 < size) (units : List (List ℕ)) (w : Traffic) (s : Sound rules w) (shown : List (List ℕ)) (f : Filled size units w.sender.blocks.high w.receiver shown) where
  shows_none : Shows size units shown [] (record w.receiver { expected = w.receiver.expected + 0 })
  shows_none =
      let same : w.receiver.expected ≡ w.receiver.expected + 0 = omega arith in
      record {
        held = λ d piece is. subst (λ (k : ℕ). cut_at size units (k + d) ≡ Some piece) same (f.held d piece is);
        complete = subst (λ (k : ℕ). Complete size units k (shown ++ []) w.receiver.inbox.held.begun) same
            (subst (λ (us : List (List ℕ)). Complete size units w.receiver.expected us w.receiver.inbox.held.begun) (sym (append-nil shown)) f.complete);
        at = λ k low high. absurd (omega (arith, low, high, ap length (append-nil shown)));
      }

  in_room : (n tick : ℕ) (piece : Piece) → May rules w (Dt_comes n tick piece) → ahead rules.block (wire rules.block w.receiver.expected) (wire rules.block n) < w.receiver.inbox.credit
      → near rules.block w.receiver.expected (wire rules.block n) ≡ n
  in_room n tick piece may low = elim (cases_lt n w.receiver.expected) [
    | inl old ↦ absurd (omega (arith, (reads rules w fit s).old_dt n tick may.0 may.1 old, s.order.room_low))
    | inr new ↦ (reads rules w fit s).new_dt n tick may.0 may.1 new
  ]

  -- a piece is put at distance d
  held_on : (n d : ℕ) (piece : Piece) → w.receiver.expected + d ≡ n → cut_at size units n ≡ Some piece
      → (j : ℕ) (other : Piece) → get_or (set w.receiver.inbox.held.places d (Some piece)) j None ≡ Some other → cut_at size units (w.receiver.expected + j) ≡ Some other
  held_on n d piece is cut j other h = elim (set_same w.receiver.inbox.held.places d j piece other h) [
    | inl here ↦ (let e : w.receiver.expected + j ≡ n = omega (arith, is, here.0) in ap (λ (k : ℕ). cut_at size units k) e ∙ cut ∙ ap (λ (p : Piece). Some p) here.1)
    | inr old ↦ f.held j other old
  ]

  joins_here : (d : ℕ) (held : Held) → held.begun ≡ w.receiver.inbox.held.begun
      → ((j : ℕ) (other : Piece) → get_or held.places j None ≡ Some other → cut_at size units (w.receiver.expected + j) ≡ Some other)
      → Joins size units w.receiver.expected shown (in_order held d)
  joins_here d held same is =
      let c : Complete size units w.receiver.expected shown held.begun = subst (Complete size units w.receiver.expected shown) (sym same) f.complete in
      if_kept (Joins size units w.receiver.expected shown) (d == 0) _ _
      (λ _. joins size some units f.full held.places w.receiver.expected shown held.begun c is)
      (λ _. joins size some units f.full [] w.receiver.expected shown held.begun c (λ j other h. absurd (cc h)))

  shows_kept : (n d : ℕ) (piece : Piece) → w.receiver.expected + d ≡ n → cut_at size units n ≡ Some piece
      → Shows size units shown (arrived_as Kept w.receiver.inbox d piece).units (after_dt (whole rules.block) w.receiver (arrived_as Kept w.receiver.inbox d piece))
  shows_kept n d piece is cut =
      let held : Held = placed w.receiver.inbox.held d piece in
      let all = held_on n d piece is cut in
      let j = joins_here d held refl all in
      record {
        held = λ i other h. (let e : w.receiver.expected + (in_order held d).count + i ≡ w.receiver.expected + ((in_order held d).count + i) = omega arith in
            ap (λ (k : ℕ). cut_at size units k) e ∙ all ((in_order held d).count + i) other (slid_same held.places (in_order held d).count i other h));
        complete = j.complete;
        at = j.at;
      }

  shows : (n tick : ℕ) (piece : Piece) → May rules w (Dt_comes n tick piece) → cut_at size units n ≡ Some piece
      → Shows size units shown (arrival rules.block w.receiver (wire rules.block n) piece).units (after_dt (whole rules.block) w.receiver (arrival rules.block w.receiver (wire rules.block n) piece))
  shows n tick piece may cut = by (judged rules.block w.receiver.inbox d) refl
    where
      d : ℕ
      d = ahead rules.block (wire rules.block w.receiver.expected) (wire rules.block n)

      by : (g : Got) → judged rules.block w.receiver.inbox d ≡ g → Shows size units shown (arrived_as g w.receiver.inbox d piece).units (after_dt (whole rules.block) w.receiver (arrived_as g w.receiver.inbox d piece))
      by Kept e = shows_kept n d piece (in_room n tick piece may (kept_low rules.block w.receiver.inbox d e)) cut
      by other e = shows_none

-- one unit more
filled_normal : (size : ℕ) (units : List (List ℕ)) (high : ℕ) (r : Receiver) (shown : List (List ℕ)) (unit : List ℕ) → 0 < length unit → Filled size units high r shown → Filled size (units ++ unit ∷ []) high r shown
filled_normal size units high r shown unit some f = record {
  full = full_more units unit some f.full;
  sent = λ n low. let p = f.sent n low in (p.0, (cut_more size units (unit ∷ []) n p.0 p.1).0);
  held = λ d piece is. (cut_more size units (unit ∷ []) (r.expected + d) piece (f.held d piece is)).0;
  complete = complete_more size units r.expected shown r.inbox.held.begun unit some f.complete;
}

pub record Fine (rules : Rules) (size tick credit places room : ℕ) (l : Line) : Type 0 where
  pub events : List Event
  pub leads : Leads rules (start tick credit places room) events l.world
  pub expedites : List UrgentEvent
  pub expedites_lead : LeadsUrgently rules (quiet tick) expedites l.urgent
  pub filled : Filled size (normals l.submitted) l.world.sender.blocks.high l.world.receiver (normals l.shown)
  pub outstanding : IsOutstanding l.urgent
  pub next_low : l.urgent.next ≤ length (expediteds l.submitted)
  pub urged : expediteds l.shown ≡ take l.urgent.expected (expediteds l.submitted)
  pub order : (n : ℕ) → n < l.world.sender.blocks.high → get_or (befores 0 l.submitted) (unit_at size (normals l.submitted) n) 0 ≤ l.urgent.expected
  pub kept : (k : ℕ) → k < length (normals l.shown) → get_or (befores 0 l.submitted) k 0 ≤ get_or (befores 0 l.shown) k 0

told_blocks : (s : Sender) (n credit subsequence : ℕ) → (told s n credit subsequence).blocks ≡ s.blocks
told_blocks s n credit subsequence =
    if_kept (λ (to : Sender). to.blocks ≡ s.blocks) (nat_lt s.blocks.high n) _ _ (λ _. refl)
    (λ _. if_kept (λ (to : Sender). to.blocks ≡ s.blocks) _ _ _ (λ _. refl) (λ _. refl))

granted_held : (inbox : Inbox) (credit : ℕ) → (granted inbox credit).held ≡ inbox.held
granted_held inbox credit =
    if_kept (λ (to : Inbox). to.held ≡ inbox.held) (nat_lt credit inbox.credit) _ _
    (λ _. if_kept (λ (to : Inbox). to.held ≡ inbox.held) _ _ _ (λ _. refl) (λ _. refl))
    (λ _. refl)

ed_kept : (block : ℕ) (u : Urgent) (n : ℕ) → ((ed_taken block u n).next ≡ u.next) × (u.expected ≤ (ed_taken block u n).expected)
ed_kept block u n =
    if_kept (λ (x : Urgent). (x.next ≡ u.next) × (u.expected ≤ x.expected)) (wire block n == wire block u.expected) _ _ (λ _. (refl, omega arith))
    (λ _. if_kept (λ (x : Urgent). (x.next ≡ u.next) × (u.expected ≤ x.expected)) _ _ _ (λ _. (refl, omega arith)) (λ _. (refl, omega arith)))

ea_kept : (block : ℕ) (u : Urgent) (n : ℕ) → ((ea_taken block u n).next ≡ u.next) × ((ea_taken block u n).expected ≡ u.expected)
ea_kept block u n = if_kept (λ (x : Urgent). (x.next ≡ u.next) × (x.expected ≡ u.expected)) _ _ _ (λ _. (refl, refl)) (λ _. (refl, refl))

module _ (rules : Rules) (fit : IsFit rules) (size : ℕ) (some : 0 < size) (tick credit places room : ℕ) (credit_low : credit < rules.block) (room_low : room < rules.block) where
  module _ (l : Line) (f : Fine rules size tick credit places room l) where
    sound : Sound rules l.world
    sound = all_sound rules tick credit places room f.events l.world fit credit_low room_low f.leads

    shown_low : length (normals l.shown) ≤ length (normals l.submitted)
    shown_low = let r = front size (normals l.submitted) l.world.receiver.expected (normals l.shown) l.world.receiver.inbox.held.begun f.filled.complete in
        omega (arith, ap length r.1, length-append (normals l.shown) r.0)

    urged_count : length (expediteds l.shown) ≡ l.urgent.expected
    urged_count = ap length f.urged ∙ length-take-le l.urgent.expected (expediteds l.submitted) (omega (arith, f.outstanding.expected_low, f.next_low))

    -- a unit that is submitted changes nothing for those before it
    order_more : (unit : Marked) → (more : List (List ℕ)) → normals (l.submitted ++ unit ∷ []) ≡ normals l.submitted ++ more
        → (n : ℕ) → n < l.world.sender.blocks.high → get_or (befores 0 (l.submitted ++ unit ∷ [])) (unit_at size (normals (l.submitted ++ unit ∷ [])) n) 0 ≤ l.urgent.expected
    order_more unit more same n low =
        let p = f.filled.sent n low in
        let at : unit_at size (normals (l.submitted ++ unit ∷ [])) n ≡ unit_at size (normals l.submitted) n = ap (λ (us : List (List ℕ)). unit_at size us n) same ∙ (cut_more size (normals l.submitted) more n p.0 p.1).1 in
        let k = unit_low size (normals l.submitted) n p.0 p.1 in
        omega (arith, f.order n low, befores_kept l.submitted (unit ∷ []) (unit_at size (normals l.submitted) n) k, ap (λ (j : ℕ). get_or (befores 0 (l.submitted ++ unit ∷ [])) j 0) at)

    kept_more : (unit : Marked) (k : ℕ) → k < length (normals l.shown) → get_or (befores 0 (l.submitted ++ unit ∷ [])) k 0 ≤ get_or (befores 0 l.shown) k 0
    kept_more unit k low = omega (arith, f.kept k low, befores_kept l.submitted (unit ∷ []) k (omega (arith, low, shown_low)))

    submits : (unit : Marked) → IsUnit unit → Fine rules size tick credit places room (next rules l (Submit unit))
    submits (Normal octets) is =
        let same : normals (l.submitted ++ Normal octets ∷ []) ≡ normals l.submitted ++ octets ∷ [] = normals-append l.submitted (Normal octets ∷ []) in
        let also : expediteds (l.submitted ++ Normal octets ∷ []) ≡ expediteds l.submitted = expediteds-append l.submitted (Normal octets ∷ []) ∙ append-nil (expediteds l.submitted) in
        record {
          events = f.events;
          leads = f.leads;
          expedites = f.expedites;
          expedites_lead = f.expedites_lead;
          filled = subst (λ (us : List (List ℕ)). Filled size us l.world.sender.blocks.high l.world.receiver (normals l.shown)) (sym same)
              (filled_normal size (normals l.submitted) l.world.sender.blocks.high l.world.receiver (normals l.shown) octets is f.filled);
          outstanding = f.outstanding;
          next_low = omega (arith, f.next_low, ap length also);
          urged = f.urged ∙ ap (take l.urgent.expected) (sym also);
          order = order_more (Normal octets) (octets ∷ []) same;
          kept = kept_more (Normal octets);
        }
    submits (Expedited octets) is =
        let same : normals (l.submitted ++ Expedited octets ∷ []) ≡ normals l.submitted ++ [] = normals-append l.submitted (Expedited octets ∷ []) in
        let also : expediteds (l.submitted ++ Expedited octets ∷ []) ≡ expediteds l.submitted ++ octets ∷ [] = expediteds-append l.submitted (Expedited octets ∷ []) in
        record {
          events = f.events;
          leads = f.leads;
          expedites = f.expedites;
          expedites_lead = f.expedites_lead;
          filled = subst (λ (us : List (List ℕ)). Filled size us l.world.sender.blocks.high l.world.receiver (normals l.shown)) (sym (same ∙ append-nil (normals l.submitted))) f.filled;
          outstanding = f.outstanding;
          next_low = omega (arith, f.next_low, ap length also, length-append (expediteds l.submitted) (octets ∷ []));
          urged = f.urged ∙ sym (ap (take l.urgent.expected) also ∙ take-append-le l.urgent.expected (expediteds l.submitted) (octets ∷ []) (omega (arith, f.outstanding.expected_low, f.next_low)));
          order = order_more (Expedited octets) [] same;
          kept = kept_more (Expedited octets);
        }

    clocks : Fine rules size tick credit places room (next rules l Clock)
    clocks = record {
      events = f.events ++ Tick ∷ [];
      leads = leads_more rules f.events (start tick credit places room) l.world Tick f.leads tt;
      expedites = f.expedites ++ Ticks ∷ [];
      expedites_lead = urgently_more rules f.expedites (quiet tick) l.urgent Ticks f.expedites_lead tt;
      filled = f.filled;
      outstanding = outstanding_event rules l.urgent (all_alone rules tick f.expedites l.urgent fit f.expedites_lead) f.outstanding Ticks tt;
      next_low = f.next_low;
      urged = f.urged;
      order = f.order;
      kept = f.kept;
    }

    -- normal units are shown
    shows_units : (event : Event) → May rules l.world event → (units : List (List ℕ))
        → Filled size (normals l.submitted) (after rules l.world event).sender.blocks.high (after rules l.world event).receiver (normals l.shown ++ units)
        → ((n : ℕ) → n < (after rules l.world event).sender.blocks.high → get_or (befores 0 l.submitted) (unit_at size (normals l.submitted) n) 0 ≤ l.urgent.expected)
        → ((k : ℕ) → length (normals l.shown) ≤ k → k < length (normals l.shown ++ units) → (m : ℕ) × (m < (after rules l.world event).receiver.expected) × (unit_at size (normals l.submitted) m ≡ k))
        → Fine rules size tick credit places room (record l { world = after rules l.world event; shown = l.shown ++ all_normal units })
    shows_units event may units filled order at = record {
      events = f.events ++ event ∷ [];
      leads = lead;
      expedites = f.expedites;
      expedites_lead = f.expedites_lead;
      filled = subst (Filled size (normals l.submitted) (after rules l.world event).sender.blocks.high (after rules l.world event).receiver) (sym same) filled;
      outstanding = f.outstanding;
      next_low = f.next_low;
      urged = expediteds-append l.shown (all_normal units) ∙ ap (λ (us : List (List ℕ)). expediteds l.shown ++ us) (expediteds_all units) ∙ append-nil (expediteds l.shown) ∙ f.urged;
      order = order;
      kept = λ k low. elim (cases_lt k (length (normals l.shown))) [
        | inl old ↦ omega (arith, f.kept k old, befores_kept l.shown (all_normal units) k old)
        | inr new ↦
            (let high : k < length (normals l.shown ++ units) = omega (arith, low, ap length same) in
            let m = at k new high in
            let o = order m.0 (omega (arith, m.1, after_sound.order.expected_low)) in
            omega (arith, o, ap (λ (j : ℕ). get_or (befores 0 l.submitted) j 0) m.2, befores_new l.shown units k new (omega (arith, high, length-append (normals l.shown) units)), urged_count))
      ];
    }
      where
        same : normals (l.shown ++ all_normal units) ≡ normals l.shown ++ units
        same = normals-append l.shown (all_normal units) ∙ ap (λ (us : List (List ℕ)). normals l.shown ++ us) (normals_all units)

        lead : Leads rules (start tick credit places room) (f.events ++ event ∷ []) (after rules l.world event)
        lead = leads_more rules f.events (start tick credit places room) l.world event f.leads may

        after_sound : Sound rules (after rules l.world event)
        after_sound = all_sound rules tick credit places room (f.events ++ event ∷ []) (after rules l.world event) fit credit_low room_low lead

    none_at : (e : ℕ) (k : ℕ) → length (normals l.shown) ≤ k → k < length (normals l.shown ++ []) → (m : ℕ) × (m < e) × (unit_at size (normals l.submitted) m ≡ k)
    none_at e k low high = absurd (omega (arith, low, high, ap length (append-nil (normals l.shown))))

    -- the sender moves
    filled_to : (high : ℕ) (r : Receiver) → ((n : ℕ) → n < high → (piece : Piece) × (cut_at size (normals l.submitted) n ≡ Some piece)) → r.expected ≡ l.world.receiver.expected → r.inbox.held ≡ l.world.receiver.inbox.held
        → Filled size (normals l.submitted) high r (normals l.shown ++ [])
    filled_to high r sent e h = record {
      full = f.filled.full;
      sent = sent;
      held = λ d piece is. subst (λ (k : ℕ). cut_at size (normals l.submitted) (k + d) ≡ Some piece) (sym e) (f.filled.held d piece (sym (ap (λ (x : Held). get_or x.places d None) h) ∙ is));
      complete = subst (λ (us : List (List ℕ)). Complete size (normals l.submitted) r.expected us r.inbox.held.begun) (sym (append-nil (normals l.shown)))
          (subst (λ (k : ℕ). Complete size (normals l.submitted) k (normals l.shown) r.inbox.held.begun) (sym e)
          (subst (λ (x : Held). Complete size (normals l.submitted) l.world.receiver.expected (normals l.shown) x.begun) (sym h) f.filled.complete));
    }

    high_send : (sent_next rules.block l.world.sender l.world.clock).blocks.high ≡ max l.world.sender.blocks.high (l.world.sender.next + 1)
    high_send = marked_high rules.block l.world.sender.blocks l.world.sender.next l.world.clock

    flows : (event : Event) → May rules l.world event → CarriesPiece size l event → Fine rules size tick credit places room (next rules l (Flows event))
    flows Tick may c = absurd c
    flows (Open n) may c = shows_units (Open n) may [] (filled_to l.world.sender.blocks.high l.world.receiver f.filled.sent refl refl) f.order (none_at l.world.receiver.expected)
    flows Send may c =
        shows_units Send may []
        (filled_to (after rules l.world Send).sender.blocks.high l.world.receiver
        (λ n low. elim (cases_lt n l.world.sender.blocks.high) [
          | inl old ↦ f.filled.sent n old
          | inr new ↦ (let same : l.world.sender.next ≡ n = omega (arith, low, new, high_send, sound.order.next_to) in (c.0.0, subst (λ (k : ℕ). cut_at size (normals l.submitted) k ≡ Some c.0.0) same c.0.1))
        ])
        refl refl)
        (λ n low. omega (arith, befores_low 0 l.submitted (unit_at size (normals l.submitted) n), c.1, f.outstanding.base_low))
        (none_at l.world.receiver.expected)
    flows (Resend n) may c =
        let high : (after rules l.world (Resend n)).sender.blocks.high ≡ l.world.sender.blocks.high = omega (arith, marked_high rules.block l.world.sender.blocks n l.world.clock, may.1, sound.order.next_to) in
        shows_units (Resend n) may []
        (filled_to (after rules l.world (Resend n)).sender.blocks.high l.world.receiver (λ m low. f.filled.sent m (omega (arith, low, high))) refl refl)
        (λ m low. f.order m (omega (arith, low, high)))
        (none_at l.world.receiver.expected)
    flows (Dt_comes n tick' piece) may c =
        let s = shows rules fit size some (normals l.submitted) l.world sound (normals l.shown) f.filled n tick' piece may c in
        shows_units (Dt_comes n tick' piece) may (arrival rules.block l.world.receiver (wire rules.block n) piece).units
        (record { full = f.filled.full; sent = f.filled.sent; held = s.held; complete = s.complete })
        f.order s.at
    flows (Grant n) may c =
        shows_units (Grant n) may [] (filled_to l.world.sender.blocks.high (after rules l.world (Grant n)).receiver f.filled.sent refl (granted_held l.world.receiver.inbox n)) f.order (none_at l.world.receiver.expected)
    flows Acknowledge may c = shows_units Acknowledge may [] (filled_to l.world.sender.blocks.high l.world.receiver f.filled.sent refl refl) f.order (none_at l.world.receiver.expected)
    flows (Ak_comes a) may c =
        let same = ap (λ (b : Blocks). b.high) (told_blocks l.world.sender (near rules.block l.world.sender.base (wire rules.block a.number)) a.credit a.subsequence) in
        shows_units (Ak_comes a) may []
        (filled_to (after rules l.world (Ak_comes a)).sender.blocks.high l.world.receiver (λ m low. f.filled.sent m (omega (arith, low, same))) refl refl)
        (λ m low. f.order m (omega (arith, low, same)))
        (none_at l.world.receiver.expected)

    -- the expedited side moves
    urges : (event : UrgentEvent) → MayUrgent rules l.urgent event → (shown : List Marked) → normals shown ≡ [] → (urgently rules l.urgent event).next ≤ length (expediteds l.submitted)
        → expediteds l.shown ++ expediteds shown ≡ take (urgently rules l.urgent event).expected (expediteds l.submitted) → l.urgent.expected ≤ (urgently rules l.urgent event).expected
        → Fine rules size tick credit places room (record l { urgent = urgently rules l.urgent event; shown = l.shown ++ shown })
    urges event may shown empty_ low urged up =
        let same : normals (l.shown ++ shown) ≡ normals l.shown = normals-append l.shown shown ∙ ap (λ (us : List (List ℕ)). normals l.shown ++ us) empty_ ∙ append-nil (normals l.shown) in
        record {
          events = f.events;
          leads = f.leads;
          expedites = f.expedites ++ event ∷ [];
          expedites_lead = urgently_more rules f.expedites (quiet tick) l.urgent event f.expedites_lead may;
          filled = subst (Filled size (normals l.submitted) l.world.sender.blocks.high l.world.receiver) (sym same) f.filled;
          outstanding = outstanding_event rules l.urgent (all_alone rules tick f.expedites l.urgent fit f.expedites_lead) f.outstanding event may;
          next_low = low;
          urged = expediteds-append l.shown shown ∙ urged;
          order = λ n high. omega (arith, f.order n high, up);
          kept = λ k high. (let old : k < length (normals l.shown) = omega (arith, high, ap length same) in omega (arith, f.kept k old, befores_kept l.shown shown k old));
        }

    same_urged : expediteds l.shown ++ [] ≡ take l.urgent.expected (expediteds l.submitted)
    same_urged = append-nil (expediteds l.shown) ∙ f.urged

    expedites_by : (event : UrgentEvent) → MayUrgent rules l.urgent event → CarriesUnit l event → Fine rules size tick credit places room (next rules l (Expedites event))
    expedites_by Ticks may c = absurd c
    expedites_by Sends_ed may c = urges Sends_ed may [] refl (omega (arith, c)) same_urged (omega arith)
    expedites_by Resends_ed may c = urges Resends_ed may [] refl f.next_low same_urged (omega arith)
    expedites_by (Ed_comes n tick') may c = urges (Ed_comes n tick') may (urged_by rules l (Ed_comes n tick'))
        (if_kept (λ (us : List Marked). normals us ≡ []) (wire rules.block n == wire rules.block l.urgent.expected) _ _ (λ _. refl) (λ _. refl))
        (omega (arith, f.next_low, (ed_kept rules.block l.urgent n).0))
        (shown (wire rules.block n == wire rules.block l.urgent.expected) refl)
        (ed_kept rules.block l.urgent n).1
      where
        us : List (List ℕ)
        us = expediteds l.submitted

        shown : (b : Bool) → (wire rules.block n == wire rules.block l.urgent.expected) ≡ b
            → expediteds l.shown ++ expediteds (if b then Expedited (get_or (expediteds l.submitted) n []) ∷ [] else [])
            ≡ take (if b then record l.urgent { expected = l.urgent.expected + 1; answers = l.urgent.answers ++ (n, l.urgent.clock) ∷ [] }
            else if wire rules.block (n + 1) == wire rules.block l.urgent.expected then record l.urgent { answers = l.urgent.answers ++ (n, l.urgent.clock) ∷ [] }
            else l.urgent).expected (expediteds l.submitted)
        shown true e =
            let is : n ≡ l.urgent.expected = (all_alone rules tick f.expedites l.urgent fit f.expedites_lead).ed n tick' may.0 may.1 (eqb-true _ _ e) in
            let low : l.urgent.expected < length (expediteds l.submitted) = omega (arith, is, f.outstanding.sent n tick' may.0, f.next_low) in
            ap (λ (xs : List (List ℕ)). xs ++ get_or (expediteds l.submitted) n [] ∷ []) f.urged
            ∙ ap (λ (k : ℕ). take l.urgent.expected (expediteds l.submitted) ++ get_or (expediteds l.submitted) k [] ∷ []) is
            ∙ sym (take_more (expediteds l.submitted) l.urgent.expected [] low)
        shown false e = if_kept (λ (u : Urgent). expediteds l.shown ++ [] ≡ take u.expected (expediteds l.submitted)) (wire rules.block (n + 1) == wire rules.block l.urgent.expected) _ _ (λ _. same_urged) (λ _. same_urged)
    expedites_by (Ea_comes n tick') may c =
        let kept = ea_kept rules.block l.urgent n in
        urges (Ea_comes n tick') may [] refl (omega (arith, f.next_low, kept.0)) (same_urged ∙ ap (λ (k : ℕ). take k (expediteds l.submitted)) (sym kept.1)) (omega (arith, kept.1))

  fine_next : (l : Line) (happening : Happening) → Can rules size l happening → Fine rules size tick credit places room l → Fine rules size tick credit places room (next rules l happening)
  fine_next l (Submit unit) may f = submits l f unit may
  fine_next l Clock may f = clocks l f
  fine_next l (Flows event) may f = flows l f event may.0 may.1
  fine_next l (Expedites event) may f = expedites_by l f event may.0 may.1

  pub fine_runs : (old new : Line) (happenings : List Happening) → Runs rules size old happenings new → Fine rules size tick credit places room old → Fine rules size tick credit places room new
  fine_runs old new [] r f = subst (Fine rules size tick credit places room) (sym r) f
  fine_runs old new (happening ∷ happenings) r f = fine_runs (next rules old happening) new happenings r.1 (fine_next old happening r.0 f)

  pub fine_empty : Fine rules size tick credit places room (empty tick credit places room)
  fine_empty = record {
    events = [];
    leads = refl;
    expedites = [];
    expedites_lead = refl;
    filled = record { full = record {}; sent = λ n low. absurd (omega (arith, low)); held = λ d piece is. absurd (blanks places d piece is); complete = (refl, refl) };
    outstanding = outstanding_quiet tick;
    next_low = omega arith;
    urged = refl;
    order = λ n low. absurd (omega (arith, low));
    kept = λ k low. absurd (omega (arith, low));
  }
    where
      blanks : (k i : ℕ) (piece : Piece) → get_or (replicate k None) i None ≡ Some piece → ⊥
      blanks zero i piece e = cc e
      blanks (suc k) zero piece e = cc e
      blanks (suc k) (suc i) piece e = blanks k i piece e

  pub lawful : (happenings : List Happening) (l : Line) → Runs rules size (empty tick credit places room) happenings l → IsQueue l.submitted l.shown
  lawful happenings l r =
      let f = fine_runs (empty tick credit places room) l happenings r fine_empty in
      record {
        normal = front size (normals l.submitted) l.world.receiver.expected (normals l.shown) l.world.receiver.inbox.held.begun f.filled.complete;
        expedited = (drop l.urgent.expected (expediteds l.submitted), sym (ap (λ (us : List (List ℕ)). us ++ drop l.urgent.expected (expediteds l.submitted)) f.urged ∙ take-append-drop l.urgent.expected (expediteds l.submitted)));
        order = f.kept;
      }

  -- the numbers of a line are those of a run of numbers
  pub line_sound : (happenings : List Happening) (l : Line) → Runs rules size (empty tick credit places room) happenings l → Sound rules l.world
  line_sound happenings l r =
      let f = fine_runs (empty tick credit places room) l happenings r fine_empty in
      all_sound rules tick credit places room f.events l.world fit credit_low room_low f.leads

  pub line_alone : (happenings : List Happening) (l : Line) → Runs rules size (empty tick credit places room) happenings l → IsAlone rules l.urgent
  line_alone happenings l r =
      let f = fine_runs (empty tick credit places room) l happenings r fine_empty in
      all_alone rules tick f.expedites l.urgent fit f.expedites_lead

  pub line_obeys : (happenings : List Happening) (l : Line) → Runs rules size (empty tick credit places room) happenings l → ObeysRule rules l.urgent
  line_obeys happenings l r =
      let f = fine_runs (empty tick credit places room) l happenings r fine_empty in
      all_obey rules tick f.expedites l.urgent fit f.expedites_lead

  -- a normal unit all of whose pieces are below the number expected was shown
  pub line_whole : (happenings : List Happening) (l : Line) → Runs rules size (empty tick credit places room) happenings l
      → (m : ℕ) → m ≤ length (normals l.submitted) → sum_by (count_in size) (take m (normals l.submitted)) ≤ l.world.receiver.expected → m ≤ length (normals l.shown)
  line_whole happenings l r =
      let f = fine_runs (empty tick credit places room) l happenings r fine_empty in
      shown_whole size some (normals l.submitted) l.world.receiver.expected (normals l.shown) l.world.receiver.inbox.held.begun f.filled.complete

  -- each ED below the number expected was shown, and no EA tells another one
  pub line_urged : (happenings : List Happening) (l : Line) → Runs rules size (empty tick credit places room) happenings l
      → (length (expediteds l.shown) ≡ l.urgent.expected) × ((n at : ℕ) → Contains l.urgent.answers (n, at) → n < l.urgent.expected)
  line_urged happenings l r =
      let f = fine_runs (empty tick credit places room) l happenings r fine_empty in
      (urged_count l f, f.outstanding.said)

-- also after a part of what one DT shows
pub lawful_front : (submitted front back : List Marked) → IsQueue submitted (front ++ back) → IsQueue submitted front
lawful_front submitted front back l =
    let n = normals-append front back in
    let u = expediteds-append front back in
    record {
      normal = (normals back ++ l.normal.0, l.normal.1 ∙ ap (λ (us : List (List ℕ)). us ++ l.normal.0) n ∙ append_assoc (normals front) (normals back) l.normal.0);
      expedited = (expediteds back ++ l.expedited.0, l.expedited.1 ∙ ap (λ (us : List (List ℕ)). us ++ l.expedited.0) u ∙ append_assoc (expediteds front) (expediteds back) l.expedited.0);
      order = λ k low. omega (arith, l.order k (omega (arith, low, ap length n, length-append (normals front) (normals back))), befores_kept front back k low);
    }
