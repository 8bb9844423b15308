-- What each call does to frames that wait: the first of them and its receiver are the least pair that can be taken and was not. An offer puts its
-- frame behind them, a choice of that pair spends the first, and a tick leaves what is spent spent.
use Rattle.std.proofs.Common.{◌≡◌, inl, inr, ℕ, suc, ◌+◌, ◌≤◌, true, false, ◌==◌, List, [], ◌∷◌, ◌++◌, length, length-append, map, set, refl, sym, ◌∙◌, ap, subst, arith, append_assoc, Option, Some, None, slice_get}
use Rattle.std.specs.List.{AllByRecursion}
use Rattle.std.proofs.lemmas.Bool.Decides.{nat_tests}
use Rattle.std.proofs.lemmas.List.{append-nil, map-append}
use Rattle.osi_base.specs.declared.unit.DropCause.{DropCause}
use Rattle.osi_base.specs.declared.unit.Offered.TheVariants.{Taken as WasTaken, Dropped}
use Rattle.osi_base.specs.declared.unit.Picked.TheVariants.{Taken as WasPicked}
use Rattle.osi_base.specs.declared.unit.Unit.{Unit as CarriedUnit}
use Rattle.osi_base.specs.declared.unit.Up.{Up}
use Rattle.osi_base.specs.declared.unit.Up.TheVariants.{Unit as Came}
use Rattle.osi_base.specs.declared.unit.Wish.{Wish}
use Rattle.osi_base.specs.Calls.{Offer, Choose, Tick}
use Rattle.osi_base.specs.Gathering.{Gathers}
use Rattle.osi_base.specs.Link.{IsLeastFresh, IsNote, IsUpTo}
use Rattle.osi_base.proofs.Members.{all_both}
use Rattle.nsap.specs.declared.port.Port.{Port}
use Rattle.lan_step.specs.declared.row.Lan.{Lan}
use Rattle.lan_step.specs.declared.row.PortRow.{PortRow}
use Rattle.lan_step.specs.Bag.{Bag, BagStep, after_choose, after_pick, frame_note, link_of}
use Rattle.lan_step.specs.Frames.{Frame, kept, kept_at, marked, marked_at, marked_frame}
use Rattle.lan_step.specs.Rows.{sender_of}
use Rattle.lan_bag.specs.steps.Openings.{IsClosedTo, IsFirstOpen, is_open, is_open_to}
use Rattle.lan_bag.proofs.Openings.{least_fresh, none_fresh}
use Rattle.law_clnp_net.specs.Frames.{GoesNowhere, GoesOnlyTo, HasWaiting, IsAt, IsSpent, sent, sent_at}
use Rattle.law_clnp_net.proofs.Gathered.{bag_gathered}
use Rattle.law_clnp_net.proofs.Spent.{all_ticked, closed_before, open_now, open_to_one, shut_once_taken, spent_at_once}

-- ---- the least pair

place_at : {X : Type 0} (xs : List X) (y : X) (ys : List X) → slice_get (xs ++ y ∷ ys) (length xs) ≡ Some y
place_at [] y ys = refl
place_at (x ∷ xs) y ys = place_at xs y ys

pub beyond : {X : Type 0} (xs : List X) → slice_get xs (length xs) ≡ None
beyond [] = refl
beyond (x ∷ xs) = beyond xs

-- two pairs that each come first are one
one_least : (first second : ℕ × ℕ) → IsUpTo first second.0 second.1 → IsUpTo second first.0 first.1 → (first.0 ≡ second.0) × (first.1 ≡ second.1)
one_least first second (inl a) (inl b) = absurd (omega (arith, a, b))
one_least first second (inl a) (inr b) = absurd (omega (arith, a, b.0))
one_least first second (inr a) (inl b) = absurd (omega (arith, a.0, b))
one_least first second (inr a) (inr b) = (a.0, omega (arith, a.1, b.1))

is_its_own : (system : ℕ) → (system == system) ≡ true
is_its_own system = grind (arith, nat_tests)

-- an open frame behind spent ones is the first
first_is : (clock : ℕ) (lans : List Lan) (rows : List PortRow) (spent rest : List (Option Frame)) (frame : Frame) → AllByRecursion (IsSpent clock lans rows) spent
    → is_open clock lans rows (Some frame) ≡ true → IsFirstOpen clock lans rows (spent ++ Some frame ∷ rest) (length spent)
first_is clock lans rows spent rest frame are_spent opens = record {
  within = omega (arith, length-append spent (Some frame ∷ rest));
  before = closed_before clock lans rows spent (Some frame ∷ rest) are_spent;
  here = λ inside.
      ap (λ (slot : Option (Option Frame)). is_open clock lans rows (kept slot)) (place_at spent (Some frame) rest) ∙ opens;
}

none_is : (clock : ℕ) (lans : List Lan) (rows : List PortRow) (spent : List (Option Frame)) → AllByRecursion (IsSpent clock lans rows) spent
    → IsFirstOpen clock lans rows spent (length spent)
none_is clock lans rows spent are_spent = record {
  within = omega arith;
  before = subst (λ (slots : List (Option Frame)). IsClosedTo clock lans rows slots (length spent)) (append-nil spent) (closed_before clock lans rows spent [] are_spent);
  here = λ inside. absurd (omega (arith, inside));
}

set_at : {X : Type 0} (xs : List X) (y z : X) (ys : List X) → set (xs ++ y ∷ ys) (length xs) z ≡ xs ++ z ∷ ys
set_at [] y z ys = refl
set_at (x ∷ xs) y z ys = ap (λ (rest : List _). x ∷ rest) (set_at xs y z ys)

module _ (bag : Bag) (frame : CarriedUnit Port) (frames : List (CarriedUnit Port)) (waits : HasWaiting bag (frame ∷ frames)) (receiver : ℕ)
    (goes : GoesOnlyTo bag.rows frame receiver) where
  abbrev first : Frame
  first = sent bag.clock frame

  abbrev place : ℕ
  place = length waits.spent

  stands_first : kept (slice_get bag.frames place) ≡ Some first
  stands_first =
      ap (λ (slots : List (Option Frame)). kept (slice_get slots place)) waits.stands
      ∙ ap kept (place_at waits.spent (Some first) (map (sent_at bag.clock) frames))

  first_open : IsFirstOpen bag.clock bag.lans bag.rows bag.frames place
  first_open =
      subst (λ (slots : List (Option Frame)). IsFirstOpen bag.clock bag.lans bag.rows slots place) (sym waits.stands)
      (first_is bag.clock bag.lans bag.rows waits.spent (map (sent_at bag.clock) frames) first waits.are_spent (open_now bag.clock bag.lans bag.rows frame receiver goes))

  only : (system : ℕ) → is_open_to bag.clock bag.lans bag.rows first system ≡ true → receiver ≤ system
  only system opens =
      let same : (system == receiver) ≡ true = sym (open_to_one bag.clock bag.lans bag.rows frame receiver goes system) ∙ opens in
      grind (arith, nat_tests)

  least_pair : IsLeastFresh (link_of bag) (Some (place + 1, receiver))
  least_pair =
      least_fresh bag place first receiver first_open stands_first
      (open_to_one bag.clock bag.lans bag.rows frame receiver goes receiver ∙ is_its_own receiver, only)

  -- the least pair that can be taken and was not is that of the first frame and its receiver
  least_is : (pair : ℕ × ℕ) → IsLeastFresh (link_of bag) (Some pair) → (pair.0 ≡ place + 1) × (pair.1 ≡ receiver)
  least_is pair h =
      one_least pair (place + 1, receiver) (h.1 (place + 1) receiver least_pair.0) (least_pair.1 pair.0 pair.1 h.0)

  pub some_is_fresh : IsLeastFresh (link_of bag) None → ⊥
  some_is_fresh h =
      let none = h (place + 1) receiver in
      let some = least_pair.0 in
      absurd cc

  abbrev arrival : Up Port
  arrival = Came (record { system = receiver; unit = frame })

  -- the LANs once that frame was taken
  abbrev taken : Bag
  taken = record bag { frames = waits.spent ++ Some (marked first receiver) ∷ map (sent_at bag.clock) frames; waiting = arrival ∷ [] }

  marks_first : marked_at bag.frames (suc place) receiver ≡ waits.spent ++ Some (marked first receiver) ∷ map (sent_at bag.clock) frames
  marks_first =
      ap (λ (slot : Option Frame). marked_frame bag.frames place receiver slot) stands_first
      ∙ (ap (λ (slots : List (Option Frame)). set slots place (Some (marked first receiver))) waits.stands
      ∙ set_at waits.spent (Some first) (Some (marked first receiver)) (map (sent_at bag.clock) frames))

  becomes_taken : (pair : ℕ × ℕ) → (pair.0 ≡ place + 1) × (pair.1 ≡ receiver) → after_choose bag pair.0 pair.1 WasPicked ≡ taken
  becomes_taken pair is =
      let number : pair.0 ≡ suc place = omega (arith, is.0) in
      (λ i. after_choose bag (number i) (is.1 i) WasPicked)
      ∙ ((λ i. after_pick bag (suc place) receiver (stands_first i))
      ∙ (λ i. record bag { frames = marks_first i; waiting = waits.quiet i ++ arrival ∷ [] }))

  -- it is handed up, and the others wait
  pub first_comes : (pair : ℕ × ℕ) → IsLeastFresh (link_of bag) (Some pair) → (called new : Bag) (ups : List (Up Port))
      → BagStep bag (Choose pair.0 pair.1 WasPicked) called → Gathers link_of BagStep called ups new
      → (ups ≡ arrival ∷ []) × HasWaiting new frames × IsAt bag bag.clock new
  first_comes pair least called new ups calls g =
      let called_is : called ≡ taken = calls.1 ∙ becomes_taken pair (least_is pair least) in
      let new_is : new ≡ record taken { waiting = [] } = bag_gathered called new ups g ∙ ap (λ (b : Bag). record b { waiting = [] }) called_is in (
        sym g.waited ∙ ap (λ (b : Bag). b.waiting) called_is,
        subst (λ (b : Bag). HasWaiting b frames) (sym new_is) (record {
          spent = waits.spent ++ Some (marked first receiver) ∷ [];
          stands = sym (append_assoc waits.spent (Some (marked first receiver) ∷ []) (map (sent_at bag.clock) frames));
          are_spent =
              all_both (IsSpent bag.clock bag.lans bag.rows) waits.spent (Some (marked first receiver) ∷ []) waits.are_spent
              (shut_once_taken bag.clock bag.lans bag.rows frame receiver goes, tt);
          quiet = refl;
        }),
        subst (λ (b : Bag). IsAt bag bag.clock b) (sym new_is) (record { clock_is = refl; lans = refl; rows = refl }),
      )

-- where no frame waits, none can be taken that was not
pub none_waits : (bag : Bag) (pair : ℕ × ℕ) → HasWaiting bag [] → IsLeastFresh (link_of bag) (Some pair) → ⊥
none_waits bag pair waits h =
    let stands : bag.frames ≡ waits.spent = waits.stands ∙ append-nil waits.spent in
    let first : IsFirstOpen bag.clock bag.lans bag.rows bag.frames (length waits.spent) =
    subst (λ (slots : List (Option Frame)). IsFirstOpen bag.clock bag.lans bag.rows slots (length waits.spent)) (sym stands)
    (none_is bag.clock bag.lans bag.rows waits.spent waits.are_spent) in
    let empty : kept (slice_get bag.frames (length waits.spent)) ≡ None = ap (λ (slots : List (Option Frame)). kept (slice_get slots (length waits.spent))) stands ∙ ap kept (beyond waits.spent) in
    let shut : is_open bag.clock bag.lans bag.rows (kept (slice_get bag.frames (length waits.spent))) ≡ false =
    ap (is_open bag.clock bag.lans bag.rows) empty in
    let none = none_fresh bag (length waits.spent) first shut pair.0 pair.1 in
    let some = h.0 in
    absurd cc

-- ---- offers

note_alone : (number : ℕ) (system : Option ℕ) (frame : CarriedUnit Port) → AllByRecursion IsNote (frame_note number system frame)
note_alone number None frame = tt
note_alone number (Some system) frame = (tt, tt)

module _ (bag : Bag) (frames : List (CarriedUnit Port)) (waits : HasWaiting bag frames) (frame : CarriedUnit Port) where
  abbrev note : List (Up Port)
  note = frame_note (length bag.frames + 1) (sender_of bag.rows frame.from) frame

  module _ (wish : Wish) (offered new : Bag) (notes : List (Up Port)) where
    -- a frame that was taken is behind all others, and its note is all that comes up
    taken_is : BagStep bag (Offer frame wish WasTaken) offered → Gathers link_of BagStep offered notes new
        → (notes ≡ note) × (new ≡ record bag { frames = bag.frames ++ sent_at bag.clock frame ∷ []; waiting = [] })
    taken_is offers g = (
      sym g.waited ∙ (ap (λ (b : Bag). b.waiting) offers.1 ∙ ap (λ (ups : List (Up Port)). ups ++ note) waits.quiet),
      bag_gathered offered new notes g ∙ ap (λ (b : Bag). record b { waiting = [] }) offers.1,
    )

    only_note : BagStep bag (Offer frame wish WasTaken) offered → Gathers link_of BagStep offered notes new → AllByRecursion IsNote notes
    only_note offers g =
        subst (AllByRecursion IsNote) (sym (taken_is offers g).0) (note_alone (length bag.frames + 1) (sender_of bag.rows frame.from) frame)

    -- a frame that is taken waits behind the others
    pub waits_behind : BagStep bag (Offer frame wish WasTaken) offered → Gathers link_of BagStep offered notes new
        → AllByRecursion IsNote notes × HasWaiting new (frames ++ frame ∷ []) × IsAt bag bag.clock new
    waits_behind offers g =
        let new_is = (taken_is offers g).1 in (
          only_note offers g,
          subst (λ (b : Bag). HasWaiting b (frames ++ frame ∷ [])) (sym new_is) (record {
            spent = waits.spent;
            stands =
                ap (λ (slots : List (Option Frame)). slots ++ sent_at bag.clock frame ∷ []) waits.stands
                ∙ (append_assoc waits.spent (map (sent_at bag.clock) frames) (sent_at bag.clock frame ∷ [])
                ∙ ap (λ (slots : List (Option Frame)). waits.spent ++ slots) (sym (map-append (sent_at bag.clock) frames (frame ∷ []))));
            are_spent = waits.are_spent;
            quiet = refl;
          }),
          subst (λ (b : Bag). IsAt bag bag.clock b) (sym new_is) (record { clock_is = refl; lans = refl; rows = refl }),
        )

    -- one that is refused leaves the LANs as they were
    pub stays_as_it_was : (cause : DropCause) → BagStep bag (Offer frame wish (Dropped cause)) offered → Gathers link_of BagStep offered notes new
        → (notes ≡ []) × (new ≡ bag)
    stays_as_it_was cause offers g =
        let at_rest : record bag { waiting = [] } ≡ bag = λ i. record bag { waiting = sym waits.quiet i } in (
          sym g.waited ∙ (ap (λ (b : Bag). b.waiting) offers.1 ∙ waits.quiet),
          bag_gathered offered new notes g ∙ (ap (λ (b : Bag). record b { waiting = [] }) offers.1 ∙ at_rest),
        )

-- a frame that goes nowhere is spent at once
pub spent_behind : (bag : Bag) (frame : CarriedUnit Port) → HasWaiting bag (frame ∷ []) → GoesNowhere bag.rows frame → HasWaiting bag []
spent_behind bag frame waits nowhere = record {
  spent = waits.spent ++ sent_at bag.clock frame ∷ [];
  stands = waits.stands ∙ sym (append-nil (waits.spent ++ sent_at bag.clock frame ∷ []));
  are_spent =
      all_both (IsSpent bag.clock bag.lans bag.rows) waits.spent (sent_at bag.clock frame ∷ []) waits.are_spent
      (spent_at_once bag.clock bag.lans bag.rows frame nowhere, tt);
  quiet = waits.quiet;
}

-- ---- a tick

-- where no frame waits, none does a tick later, and nothing comes up
pub none_after_tick : (bag ticked new : Bag) (ups : List (Up Port)) → HasWaiting bag [] → BagStep bag Tick ticked → Gathers link_of BagStep ticked ups new
    → (ups ≡ []) × HasWaiting new [] × IsAt bag (bag.clock + 1) new
none_after_tick bag ticked new ups waits ticks g =
    let after : Bag = record bag { clock = bag.clock + 1; frames = map (kept_at (bag.clock + 1) bag.lans) bag.frames; waiting = [] } in
    let new_is : new ≡ after = bag_gathered ticked new ups g ∙ ap (λ (b : Bag). record b { waiting = [] }) ticks in (
      sym g.waited ∙ (ap (λ (b : Bag). b.waiting) ticks ∙ waits.quiet),
      subst (λ (b : Bag). HasWaiting b []) (sym new_is) (record {
        spent = map (kept_at (bag.clock + 1) bag.lans) waits.spent;
        stands =
            ap (map (kept_at (bag.clock + 1) bag.lans)) (waits.stands ∙ append-nil waits.spent)
            ∙ sym (append-nil (map (kept_at (bag.clock + 1) bag.lans) waits.spent));
        are_spent = all_ticked bag.clock bag.lans bag.rows waits.spent waits.are_spent;
        quiet = refl;
      }),
      subst (λ (b : Bag). IsAt bag (bag.clock + 1) b) (sym new_is) (record { clock_is = refl; lans = refl; rows = refl }),
    )
