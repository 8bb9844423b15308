-- Each call of the network has one answer, where each call of the carrier below has.
use Rattle.std.proofs.Common.{◌≡◌, ℕ, ◌+◌, ◌<◌, ◌≤◌, List, [], ◌∷◌, ◌++◌, length, Option, Some, None, Result, Ok, Err, refl, sym, ◌∙◌, ap, subst, arith}
use Rattle.std.specs.List.{filter}
use Rattle.nsap.specs.declared.port.Port.{Port}
use Rattle.osi_base.specs.declared.unit.DropCause.{DropCause}
use Rattle.osi_base.specs.declared.unit.Injected.{Injected}
use Rattle.osi_base.specs.declared.unit.Offered.{Offered}
use Rattle.osi_base.specs.declared.unit.Offered.TheVariants.{Dropped}
use Rattle.osi_base.specs.declared.unit.Picked.{Picked}
use Rattle.osi_base.specs.declared.unit.Unit.{Unit as CarriedUnit}
use Rattle.osi_base.specs.declared.unit.Up.{Up}
use Rattle.osi_base.specs.declared.unit.Wish.{Wish}
use Rattle.osi_base.specs.Calls.{Call, Offer, Choose, Inject, NextUp, Tick, after_first}
use Rattle.osi_base.specs.Floated.{is_young}
use Rattle.osi_base.specs.Gathering.{Gathers}
use Rattle.osi_base.specs.Link.{Link}
use Rattle.law_carrier_answers.specs.Answers.{Asked, Offering, Choosing, Injecting, OneStep, asked_of}
use Rattle.law_carrier_answers.proofs.Gatherings.{one_gathering}
use Rattle.clnp_system.specs.Node.{Frame, Node}
use Rattle.clnp_system.specs.Sending.{Sends}
use Rattle.clnp_system.specs.Tables.{Tables}
use Rattle.law_clnp_step.specs.Handling.{Handles, OffersFrames, TicksAll, notes_of}
use Rattle.law_clnp_step.specs.Network.{Network}
use Rattle.law_clnp_step.specs.Step.{Arrives, Begins, IsDropped, IsFull, IsNobodys, IsTaken, NetOffers, NetStep, NetTakesUp, NetTicks, counted, is_source, strays_in}
use Rattle.law_clnp_net.proofs.once.Handlings.{changes_none, one_change, one_handling, one_offerings, one_tick}
use Rattle.clnp_segment.proofs.Lists.{same_head, same_tail}
use Rattle.law_clnp_net.proofs.once.Sendings.{one_sending}

no_room : (most size : ℕ) → most ≤ size → size < most → ⊥
no_room most size a b = omega (arith, a, b)

same_err : {A : Type 0} (one other : DropCause) → ◌≡◌ {A = Result A DropCause} (Err one) (Err other) → one ≡ other
same_err one other e = cc e

same_ok : {A : Type 0} (one other : A) → ◌≡◌ {A = Result A DropCause} (Ok one) (Ok other) → one ≡ other
same_ok one other e = cc e

ok_or_err : {A : Type 0} (one : A) (cause : DropCause) → ◌≡◌ {A = Result A DropCause} (Ok one) (Err cause) → ⊥
ok_or_err one cause e = absurd (cc e)

pub same_offer : {A : Type 0} (one other : CarriedUnit A) (wish more : Wish) → Offering one wish ≡ Offering other more → (one ≡ other) × (wish ≡ more)
same_offer one other wish more e = (cc e, cc e)

pub same_choice : {A B : Type 0} (pick system other more : ℕ) → ◌≡◌ {A = Asked A} (Choosing pick system) (Choosing other more) → ◌≡◌ {A = Asked B} (Choosing pick system) (Choosing other more)
same_choice pick system other more e = cc e

pub same_injection : {A B : Type 0} (lan system other more : ℕ) (octets others : List ℕ) → ◌≡◌ {A = Asked A} (Injecting lan system octets) (Injecting other more others)
    → ◌≡◌ {A = Asked B} (Injecting lan system octets) (Injecting other more others)
same_injection lan system other more octets others e = cc e

pub same_chosen : {A B : Type 0} (pick system other more : ℕ) (answer picked : Picked) → ◌≡◌ {A = Call A} (Choose pick system answer) (Choose other more picked)
    → ◌≡◌ {A = Call B} (Choose pick system answer) (Choose other more picked)
same_chosen pick system other more answer picked e = cc e

pub same_injected : {A B : Type 0} (lan system other more : ℕ) (octets others : List ℕ) (answer injected : Injected)
    → ◌≡◌ {A = Call A} (Inject lan system octets answer) (Inject other more others injected) → ◌≡◌ {A = Call B} (Inject lan system octets answer) (Inject other more others injected)
same_injected lan system other more octets others answer injected e = cc e

-- what is handed up, and what is left
pub one_front : {A : Type 0} (answer other : Option (Up A)) (waiting left more : List (Up A)) → waiting ≡ after_first answer left → waiting ≡ after_first other more
    → (answer ≡ None → waiting ≡ []) → (other ≡ None → waiting ≡ []) → (answer ≡ other) × (left ≡ more)
one_front None None waiting left more a b none no_more = (refl, sym a ∙ b)
one_front None (Some up) waiting left more a b none no_more = let e : [] ≡ up ∷ more = sym (none refl) ∙ b in absurd cc
one_front (Some up) None waiting left more a b none no_more = let e : [] ≡ up ∷ left = sym (no_more refl) ∙ a in absurd cc
one_front (Some up) (Some other) waiting left more a b none no_more =
    let e : up ∷ left ≡ other ∷ more = sym a ∙ b in
    (ap Some (same_head up other left more e), same_tail up other left more e)

module _ {C N : Type 0} (link : C → Link Port) (steps : C → Call Port → C → Type 0) (once : OneStep steps) (tables : Tables N) where
  -- ---- an offer
  one_offer : (old : Network C N) (unit : CarriedUnit (List ℕ)) (wish : Wish) (answer other : Offered) (new next : Network C N) → NetOffers link steps tables old unit wish answer new
      → NetOffers link steps tables old unit wish other next → (answer ≡ other) × (new ≡ next)
  one_offer old unit wish answer other new next (IsFull full is same) (IsFull over also alike) = (is ∙ sym also, same ∙ sym alike)
  one_offer old unit wish answer other new next (IsFull full is same) (IsNobodys room none also alike) = absurd (no_room old.floating.limit (length old.floating.entries) full room)
  one_offer old unit wish answer other new next (IsFull full is same) (IsDropped node after nodes cause room change sends also becomes) =
      absurd (no_room old.floating.limit (length old.floating.entries) full room)
  one_offer old unit wish answer other new next (IsFull full is same) (IsTaken node after nodes frames below told room change sends offers also becomes) =
      absurd (no_room old.floating.limit (length old.floating.entries) full room)
  one_offer old unit wish answer other new next (IsNobodys room none is same) (IsFull full also alike) = absurd (no_room old.floating.limit (length old.floating.entries) full room)
  one_offer old unit wish answer other new next (IsNobodys room none is same) (IsNobodys more nobody also alike) = (is ∙ sym also, same ∙ sym alike)
  one_offer old unit wish answer other new next (IsNobodys room none is same) (IsDropped node after nodes cause more change sends also becomes) =
      absurd (changes_none (is_source unit.from) old.nodes node after nodes none change)
  one_offer old unit wish answer other new next (IsNobodys room none is same) (IsTaken node after nodes frames below told more change sends offers also becomes) =
      absurd (changes_none (is_source unit.from) old.nodes node after nodes none change)
  one_offer old unit wish answer other new next (IsDropped node after nodes cause room change sends is becomes) (IsFull full also alike) =
      absurd (no_room old.floating.limit (length old.floating.entries) full room)
  one_offer old unit wish answer other new next (IsDropped node after nodes cause room change sends is becomes) (IsNobodys more none also alike) =
      absurd (changes_none (is_source unit.from) old.nodes node after nodes none change)
  one_offer old unit wish answer other new next (IsDropped node after nodes cause room change sends is becomes) (IsDropped second more others reason space changed sent also became) =
      let one = one_change (is_source unit.from) old.nodes node after second more nodes others change changed in
      let there = subst (λ (n : Node N). Sends tables n (link old.link).clock unit wish (Err cause) after) one.same sends in
      let both = one_sending tables second (link old.link).clock unit wish (Err cause) (Err reason) after more there sent in
      let nodes_are : new ≡ next = becomes ∙ ap (λ (ns : List (Node N)). let net : Network C N = record old { nodes = ns } in net) (one.alike both.1) ∙ sym became in
      (is ∙ ap Dropped (same_err cause reason both.0) ∙ sym also, nodes_are)
  one_offer old unit wish answer other new next (IsDropped node after nodes cause room change sends is becomes) (IsTaken second more others frames below told space changed sent offers also became) =
      let one = one_change (is_source unit.from) old.nodes node after second more nodes others change changed in
      let there = subst (λ (n : Node N). Sends tables n (link old.link).clock unit wish (Err cause) after) one.same sends in
      absurd (ok_or_err frames cause (sym (one_sending tables second (link old.link).clock unit wish (Err cause) (Ok frames) after more there sent).0))
  one_offer old unit wish answer other new next (IsTaken node after nodes frames below told room change sends offers is becomes) (IsFull full also alike) =
      absurd (no_room old.floating.limit (length old.floating.entries) full room)
  one_offer old unit wish answer other new next (IsTaken node after nodes frames below told room change sends offers is becomes) (IsNobodys more none also alike) =
      absurd (changes_none (is_source unit.from) old.nodes node after nodes none change)
  one_offer old unit wish answer other new next (IsTaken node after nodes frames below told room change sends offers is becomes) (IsDropped second more others cause space changed sent also became) =
      let one = one_change (is_source unit.from) old.nodes node after second more nodes others change changed in
      let there = subst (λ (n : Node N). Sends tables n (link old.link).clock unit wish (Ok frames) after) one.same sends in
      absurd (ok_or_err frames cause (one_sending tables second (link old.link).clock unit wish (Ok frames) (Err cause) after more there sent).0)
  one_offer old unit wish answer other new next (IsTaken node after nodes frames below told room change sends offers is becomes)
      (IsTaken second more others framed lower said space changed sent offered also became) =
      let one = one_change (is_source unit.from) old.nodes node after second more nodes others change changed in
      let there = subst (λ (n : Node N). Sends tables n (link old.link).clock unit wish (Ok frames) after) one.same sends in
      let both = one_sending tables second (link old.link).clock unit wish (Ok frames) (Ok framed) after more there sent in
      let frames_are = same_ok frames framed both.0 in
      let from : OffersFrames link steps old.link second.setup.system frames below told = subst (λ (n : Node N). OffersFrames link steps old.link n.setup.system frames below told) one.same offers in
      let same = subst (λ (fs : List Frame). OffersFrames link steps old.link second.setup.system fs below told) frames_are from in
      let out = one_offerings link steps once framed old.link second.setup.system below lower told said same offered in
      let nodes_are = one.alike both.1 in
      let net : C → List (Node N) → List (Up (List ℕ)) → Network C N = λ c ns ups. record old {
        link = c;
        nodes = ns;
        floating = record old.floating { entries = old.floating.entries ++ ((link old.link).clock, unit) ∷ [] };
        waiting = old.waiting ++ ups;
      } in
      let nets : net below nodes told ≡ net lower others said = λ i. net (out.0 i) (nodes_are i) (out.1 i) in
      (is ∙ sym also, becomes ∙ nets ∙ sym became)

  -- ---- what comes up
  one_coming : (old : Network C N) (call other : Call Port) (new next : Network C N) → asked_of call ≡ asked_of other → Arrives link steps tables old call new
      → Arrives link steps tables old other next → (call ≡ other) × (new ≡ next)
  one_coming old call other new next asked a b =
      let below = once old.link call other a.called b.called asked a.calls b.calls in
      let gathers : Gathers link steps b.called a.ups a.risen = subst (λ (c : C). Gathers link steps c a.ups a.risen) below.1 a.gathers in
      let ups = one_gathering link steps once b.called a.ups b.ups a.risen b.risen gathers b.gathers in
      let clock = (link old.link).clock in
      let handles = subst (λ (us : List (Up Port)). Handles link steps tables clock a.risen old.nodes us a.below a.nodes a.told) ups.0 a.handles in
      let there = subst (λ (c : C). Handles link steps tables clock c old.nodes b.ups a.below a.nodes a.told) ups.1 handles in
      let all = one_handling link steps once tables clock b.ups b.risen old.nodes a.below b.below a.nodes b.nodes a.told b.told there b.handles in
      let net : C → List (Node N) → List (Up (List ℕ)) → Network C N = λ c ns told. record old {
        link = c;
        nodes = ns;
        waiting = old.waiting ++ told;
        strays = counted (link c).honest old.strays (strays_in old.floating.entries told);
      } in
      let nets : net a.below a.nodes a.told ≡ net b.below b.nodes b.told = λ i. net (all.0 i) (all.1 i) (all.2 i) in
      (below.0, a.becomes ∙ nets ∙ sym b.becomes)

  -- ---- a tick
  one_net_tick : (old new next : Network C N) → NetTicks link steps tables old new → NetTicks link steps tables old next → new ≡ next
  one_net_tick old new next a b =
      let below = (once old.link Tick Tick a.ticked b.ticked refl a.ticks b.ticks).1 in
      let gathers : Gathers link steps b.ticked a.ups a.risen = subst (λ (c : C). Gathers link steps c a.ups a.risen) below a.gathers in
      let ups = one_gathering link steps once b.ticked a.ups b.ups a.risen b.risen gathers b.gathers in
      let now = (link old.link).clock + 1 in
      let there = subst (λ (c : C). TicksAll link steps tables now c old.nodes a.below a.nodes a.told) ups.1 a.all in
      let all = one_tick link steps once tables now old.nodes b.risen a.below b.below a.nodes b.nodes a.told b.told there b.all in
      let net : C → List (Node N) → List (Up Port) → List (Up (List ℕ)) → Network C N = λ c ns us told. record old {
        link = c;
        nodes = ns;
        floating = record old.floating { entries = filter (is_young now old.life) old.floating.entries };
        waiting = old.waiting ++ (notes_of us ++ told);
      } in
      let nets : net a.below a.nodes a.ups a.told ≡ net b.below b.nodes b.ups b.told = λ i. net (all.0 i) (all.1 i) (ups.0 i) (all.2 i) in
      a.becomes ∙ nets ∙ sym b.becomes

  -- ---- taking up
  one_taking : (old : Network C N) (answer other : Option (Up (List ℕ))) (new next : Network C N) → NetTakesUp link steps tables old answer new
      → NetTakesUp link steps tables old other next → (answer ≡ other) × (new ≡ next)
  one_taking old answer other new next a b =
      let both = one_front answer other old.waiting new.waiting next.waiting a.waiting b.waiting a.none b.none in
      (both.0, a.becomes ∙ ap (λ (ups : List (Up (List ℕ))). let net : Network C N = record old { waiting = ups } in net) both.1 ∙ sym b.becomes)

  -- ---- all calls
  pub one_answer : OneStep (NetStep link steps tables)
  one_answer old (Offer unit wish answer) (Offer other more offered) new next asked a b =
      let same = same_offer unit other wish more asked in
      let there : NetOffers link steps tables old unit wish offered next =
      subst (λ (u : CarriedUnit (List ℕ)). NetOffers link steps tables old u wish offered next) (sym same.0) (subst (λ (w : Wish). NetOffers link steps tables old other w offered next) (sym same.1) b.1) in
      let both = one_offer old unit wish answer offered new next a.1 there in
      (λ i. Offer (same.0 i) (same.1 i) (both.0 i), both.1)
  one_answer old (Choose pick system answer) (Choose other more picked) new next asked a b =
      let both = one_coming old (Choose pick system answer) (Choose other more picked) new next (same_choice pick system other more asked) a.1 b.1 in
      (same_chosen pick system other more answer picked both.0, both.1)
  one_answer old (Inject lan system octets answer) (Inject other more others injected) new next asked a b =
      let both = one_coming old (Inject lan system octets answer) (Inject other more others injected) new next (same_injection lan system other more octets others asked) a.1 b.1 in
      (same_injected lan system other more octets others answer injected both.0, both.1)
  one_answer old (NextUp answer) (NextUp other) new next asked a b =
      let both = one_taking old answer other new next a.1 b.1 in
      (ap NextUp both.0, both.1)
  one_answer old Tick Tick new next asked a b = (refl, one_net_tick old new next a.1 b.1)
  one_answer old one other new next asked a b = absurd cc

  pub one_beginning : (first : C) (nodes : List (Node N)) (life : ℕ) (new next : Network C N) → Begins link steps tables first nodes life new → Begins link steps tables first nodes life next
      → new ≡ next
  one_beginning first nodes life new next a b =
      let all = one_tick link steps once tables 0 nodes first a.below b.below a.after b.after a.told b.told a.all b.all in
      let net : C → List (Node N) → List (Up (List ℕ)) → Network C N = λ c ns told. record { link = c; nodes = ns; floating = record { limit = 40000; entries = [] }; waiting = told; strays = 0; life = life } in
      let nets : net a.below a.after a.told ≡ net b.below b.after b.told = λ i. net (all.0 i) (all.1 i) (all.2 i) in
      a.becomes ∙ nets ∙ sym b.becomes
