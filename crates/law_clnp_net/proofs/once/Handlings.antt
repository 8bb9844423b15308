-- What comes up is handled in one way, and a tick of all systems has one outcome.
use Rattle.std.proofs.Common.{◌≡◌, ℕ, Bool, false, List, [], ◌∷◌, ◌++◌, refl, sym, ◌∙◌, ap, subst}
use Rattle.std.specs.List.{list_any}
use Rattle.nsap.specs.declared.port.Port.{Port}
use Rattle.osi_base.specs.declared.unit.Unit.{Unit as CarriedUnit}
use Rattle.osi_base.specs.declared.unit.Arrival.{Arrival}
use Rattle.osi_base.specs.declared.unit.Offered.{Offered}
use Rattle.osi_base.specs.declared.unit.Up.{Up}
use Rattle.osi_base.specs.declared.unit.Up.TheVariants.{Unit as Came, Note as Noted}
use Rattle.osi_base.specs.declared.unit.Wish.{Wish}
use Rattle.osi_base.specs.Link.{Link}
use Rattle.osi_base.specs.Calls.{Call, Offer}
use Rattle.osi_base.specs.Gathering.{Gathers}
use Rattle.law_carrier_answers.specs.Answers.{OneStep}
use Rattle.law_carrier_answers.proofs.Gatherings.{one_gathering}
use Rattle.clnp_system.specs.Node.{Node, Reaction}
use Rattle.clnp_system.specs.Receiving.{Receives}
use Rattle.clnp_system.specs.Tables.{Tables}
use Rattle.law_clnp_step.specs.Handling.{Changes, Handles, IsReceived, Nobody, OffersFrame, OffersFrames, Somebody, TicksAll, drop_note, is_system, notes_of, plain_wish}
use Rattle.clnp_segment.proofs.Lists.{none_in, one_place}
use Rattle.law_clnp_net.proofs.once.Receivings.{one_receiving}
use Rattle.law_clnp_net.proofs.once.Ticks.{one_node_tick}

-- ---- the first node that passes a test

-- the same node, and the same list where it becomes the same
pub record OneChange {N : Type 0} (node after other more : Node N) (changed changes : List (Node N)) : Type 0 where
  pub same : node ≡ other
  pub alike : after ≡ more → changed ≡ changes

pub one_change : {N : Type 0} (test : Node N → Bool) (nodes : List (Node N)) (node after other more : Node N) (changed changes : List (Node N))
    → Changes test nodes node after changed → Changes test nodes other more changes → OneChange node after other more changed changes
one_change test nodes node after other more changed changes a b =
    let one = one_place test a.before b.before node other a.behind b.behind (sym a.stands ∙ b.stands) a.passes b.passes a.none_before b.none_before in
    record {
      same = one.1;
      alike = λ e.
          let both : a.before ++ after ∷ a.behind ≡ b.before ++ more ∷ b.behind = λ i. one.0 i ++ e i ∷ one.2 i in
          a.becomes ∙ both ∙ sym b.becomes;
    }

pub changes_none : {N : Type 0} (test : Node N → Bool) (nodes : List (Node N)) (node after : Node N) (changed : List (Node N)) → list_any test nodes ≡ false
    → Changes test nodes node after changed → ⊥
changes_none {N} test nodes node after changed none a =
    none_in test a.before node a.behind a.passes (subst (λ (ns : List (Node N)). list_any test ns ≡ false) a.stands none)

-- ---- an arrival

pub one_arrival : {N : Type 0} (tables : Tables N) (now : ℕ) (nodes : List (Node N)) (arrival : Arrival Port) (reaction other : Reaction) (changed changes : List (Node N))
    → IsReceived tables now nodes arrival reaction changed → IsReceived tables now nodes arrival other changes → (reaction ≡ other) × (changed ≡ changes)
one_arrival tables now nodes arrival reaction other changed changes (Nobody none is same) (Nobody also other_is alike) = (is ∙ sym other_is, same ∙ sym alike)
one_arrival tables now nodes arrival reaction other changed changes (Nobody none is same) (Somebody node after change receives) =
    absurd (changes_none (is_system arrival.system) nodes node after changes none change)
one_arrival tables now nodes arrival reaction other changed changes (Somebody node after change receives) (Nobody none is same) =
    absurd (changes_none (is_system arrival.system) nodes node after changed none change)
one_arrival {N} tables now nodes arrival reaction other changed changes (Somebody node after change receives) (Somebody second more changed_too received) =
    let one = one_change (is_system arrival.system) nodes node after second more changed changes change changed_too in
    let there : Receives tables second now arrival.unit reaction after = subst (λ (n : Node N). Receives tables n now arrival.unit reaction after) one.same receives in
    let both = one_receiving tables second now arrival.unit reaction other after more there received in
    (both.0, one.alike both.1)

-- ---- frames

same_answer : {A : Type 0} (unit : CarriedUnit A) (wish : Wish) (one other : Offered) → Offer unit wish one ≡ Offer unit wish other → one ≡ other
same_answer unit wish one other e = cc e

module _ {C : Type 0} (link : C → Link Port) (steps : C → Call Port → C → Type 0) (once : OneStep steps) where
  one_offering : (old : C) (system : ℕ) (frame : CarriedUnit Port) (new next : C) (told others : List (Up (List ℕ))) → OffersFrame link steps old system frame new told
      → OffersFrame link steps old system frame next others → (new ≡ next) × (told ≡ others)
  one_offering old system frame new next told others a b =
      let call = once old (Offer frame plain_wish a.answer) (Offer frame plain_wish b.answer) a.offered b.offered refl a.offers b.offers in
      let answers : a.answer ≡ b.answer = same_answer frame plain_wish a.answer b.answer call.0 in
      let gathers : Gathers link steps b.offered a.notes new = subst (λ (c : C). Gathers link steps c a.notes new) call.1 a.gathers in
      let ups = one_gathering link steps once b.offered a.notes b.notes new next gathers b.gathers in
      let both : notes_of a.notes ++ drop_note system a.answer ≡ notes_of b.notes ++ drop_note system b.answer = λ i. notes_of (ups.0 i) ++ drop_note system (answers i) in
      (ups.1, a.told_is ∙ both ∙ sym b.told_is)

  pub one_offerings : (frames : List (CarriedUnit Port)) (old : C) (system : ℕ) (new next : C) (told others : List (Up (List ℕ))) → OffersFrames link steps old system frames new told
      → OffersFrames link steps old system frames next others → (new ≡ next) × (told ≡ others)
  one_offerings [] old system new next told others a b = (a.0 ∙ sym b.0, a.1 ∙ sym b.1)
  one_offerings (frame ∷ frames) old system new next told others a b =
      let first = one_offering old system frame a.0 b.0 a.1 b.1 a.3 b.3 in
      let goes : OffersFrames link steps b.0 system frames new a.2 = subst (λ (c : C). OffersFrames link steps c system frames new a.2) first.0 a.4 in
      let rest = one_offerings frames b.0 system new next a.2 b.2 goes b.4 in
      let both : a.1 ++ a.2 ≡ b.1 ++ b.2 = λ i. first.1 i ++ rest.1 i in
      (rest.0, a.5 ∙ both ∙ sym b.5)

  module _ {N : Type 0} (tables : Tables N) (now : ℕ) where
    -- ---- what came up
    pub one_handling : (ups : List (Up Port)) (old : C) (nodes : List (Node N)) (new next : C) (after more : List (Node N)) (told others : List (Up (List ℕ)))
        → Handles link steps tables now old nodes ups new after told → Handles link steps tables now old nodes ups next more others
        → (new ≡ next) × (after ≡ more) × (told ≡ others)
    one_handling [] old nodes new next after more told others a b = (a.0 ∙ sym b.0, a.1 ∙ sym b.1, a.2 ∙ sym b.2)
    one_handling (Noted note ∷ ups) old nodes new next after more told others a b =
        let rest = one_handling ups old nodes new next after more a.0 b.0 a.1 b.1 in
        (rest.0, rest.1, a.2 ∙ ap (λ (us : List (Up (List ℕ))). Noted note ∷ us) rest.2 ∙ sym b.2)
    one_handling (Came arrival ∷ ups) old nodes new next after more told others a b =
        let received = one_arrival tables now nodes arrival a.0 b.0 a.2 b.2 a.5 b.5 in
        let frames = subst (λ (r : Reaction). OffersFrames link steps old arrival.system r.frames a.1 a.3) received.0 a.6 in
        let offered = one_offerings b.0.frames old arrival.system a.1 b.1 a.3 b.3 frames b.6 in
        let moved : Handles link steps tables now b.1 a.2 ups new after a.4 = subst (λ (c : C). Handles link steps tables now c a.2 ups new after a.4) offered.0 a.7 in
        let goes : Handles link steps tables now b.1 b.2 ups new after a.4 = subst (λ (ns : List (Node N)). Handles link steps tables now b.1 ns ups new after a.4) received.1 moved in
        let rest = one_handling ups b.1 b.2 new next after more a.4 b.4 goes b.7 in
        let all : a.0.ups ++ (a.3 ++ a.4) ≡ b.0.ups ++ (b.3 ++ b.4) = λ i. (received.0 i).ups ++ (offered.1 i ++ rest.2 i) in
        (rest.0, rest.1, a.8 ∙ all ∙ sym b.8)

    -- ---- a tick
    pub one_tick : (nodes : List (Node N)) (old new next : C) (after more : List (Node N)) (told others : List (Up (List ℕ)))
        → TicksAll link steps tables now old nodes new after told → TicksAll link steps tables now old nodes next more others
        → (new ≡ next) × (after ≡ more) × (told ≡ others)
    one_tick [] old new next after more told others a b = (a.0 ∙ sym b.0, a.1 ∙ sym b.1, a.2 ∙ sym b.2)
    one_tick (node ∷ nodes) old new next after more told others a b =
        let ticked = one_node_tick tables node now a.0 b.0 a.2 b.2 a.6 b.6 in
        let frames = subst (λ (r : Reaction). OffersFrames link steps old node.setup.system r.frames a.1 a.4) ticked.0 a.7 in
        let offered = one_offerings b.0.frames old node.setup.system a.1 b.1 a.4 b.4 frames b.7 in
        let goes : TicksAll link steps tables now b.1 nodes new a.3 a.5 = subst (λ (c : C). TicksAll link steps tables now c nodes new a.3 a.5) offered.0 a.8 in
        let rest = one_tick nodes b.1 new next a.3 b.3 a.5 b.5 goes b.8 in
        let afters : a.2 ∷ a.3 ≡ b.2 ∷ b.3 = λ i. ticked.1 i ∷ rest.1 i in
        let all : a.0.ups ++ (a.4 ++ a.5) ≡ b.0.ups ++ (b.4 ++ b.5) = λ i. (ticked.0 i).ups ++ (offered.1 i ++ rest.2 i) in
        (rest.0, a.9 ∙ afters ∙ sym b.9, a.10 ∙ all ∙ sym b.10)
