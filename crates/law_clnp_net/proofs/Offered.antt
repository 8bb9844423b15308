-- The frames of a system are offered one after another. As long as none is dropped each is taken, and waits behind the others; one that goes to no system
-- is spent at once.
use Rattle.std.proofs.Common.{◌≡◌, ℕ, List, [], ◌∷◌, ◌++◌, refl, sym, ◌∙◌, ap, subst, append_assoc}
use Rattle.std.specs.List.{AllByRecursion}
use Rattle.std.proofs.lemmas.List.{append-nil}
use Rattle.osi_base.specs.declared.unit.Offered.{Offered}
use Rattle.osi_base.specs.declared.unit.Offered.TheVariants.{Taken as WasTaken, Dropped}
use Rattle.osi_base.specs.declared.unit.Up.{Up}
use Rattle.osi_base.specs.Calls.{Offer}
use Rattle.osi_base.specs.Gathering.{Gathers}
use Rattle.nsap.specs.declared.port.Port.{Port}
use Rattle.lan_step.specs.Bag.{Bag, BagStep, link_of}
use Rattle.clnp_system.specs.Node.{Frame}
use Rattle.law_clnp_step.specs.Handling.{OffersFrame, OffersFrames, drop_note, notes_of, plain_wish}
use Rattle.net_world.specs.Fifo.{NoneDropped, arrivals}
use Rattle.law_clnp_net.specs.Frames.{GoesNowhere, HasWaiting, IsAt}
use Rattle.law_clnp_net.proofs.Lans.{spent_behind, waits_behind}
use Rattle.law_clnp_net.proofs.Told.{none_before, none_behind, none_in_both, notes_are_no_units}

-- nothing came up but notes, and these frames wait
pub record AreOffered (old : Bag) (new : Bag) (told : List (Up (List ℕ))) (waiting : List Frame) : Type 0 where
  pub no_units : arrivals told ≡ []
  pub waits : HasWaiting new waiting
  pub at : IsAt old old.clock new

pub then_at : (old mid new : Bag) → IsAt old old.clock mid → IsAt mid mid.clock new → IsAt old old.clock new
then_at old mid new a b = record { clock_is = b.clock_is ∙ a.clock_is; lans = b.lans ∙ a.lans; rows = b.rows ∙ a.rows }

is_dropped : (system : ℕ) (notes : List (Up Port)) (told : List (Up (List ℕ))) (answer : Offered) → told ≡ notes_of notes ++ drop_note system answer → NoneDropped told
    → NoneDropped (drop_note system answer)
is_dropped system notes told answer is none = none_behind (notes_of notes) (drop_note system answer) (subst NoneDropped is none)

one_frame : (old offered new : Bag) (system : ℕ) (frame : Frame) (waiting : List Frame) (answer : Offered) (notes : List (Up Port)) (told : List (Up (List ℕ))) → HasWaiting old waiting
    → BagStep old (Offer frame plain_wish answer) offered → Gathers link_of BagStep offered notes new → told ≡ notes_of notes ++ drop_note system answer → NoneDropped told
    → AreOffered old new told (waiting ++ frame ∷ [])
one_frame old offered new system frame waiting WasTaken notes told waits offers g is none =
    let all = waits_behind old waiting waits frame plain_wish offered new notes offers g in
    record {
      no_units = ap arrivals is ∙ none_in_both (notes_of notes) [] (notes_are_no_units notes) refl;
      waits = all.1;
      at = all.2;
    }
one_frame old offered new system frame waiting (Dropped cause) notes told waits offers g is none = absurd (is_dropped system notes told (Dropped cause) is none)

pub offered_one : (old new : Bag) (system : ℕ) (frame : Frame) (waiting : List Frame) (told : List (Up (List ℕ))) → HasWaiting old waiting
    → OffersFrame link_of BagStep old system frame new told → NoneDropped told → AreOffered old new told (waiting ++ frame ∷ [])
offered_one old new system frame waiting told waits o none = one_frame old o.offered new system frame waiting o.answer o.notes told waits o.offers o.gathers o.told_is none

-- a first part was offered, and then the others
pub both_parts : (old mid new : Bag) (here rest told : List (Up (List ℕ))) (waiting all : List Frame) → AreOffered old mid here waiting → AreOffered mid new rest all → told ≡ here ++ rest
    → AreOffered old new told all
both_parts old mid new here rest told waiting all first others is = record {
  no_units = ap arrivals is ∙ none_in_both here rest first.no_units others.no_units;
  waits = others.waits;
  at = then_at old mid new first.at others.at;
}

-- frames of a system wait behind the others, in their order
pub offered_each : (frames : List Frame) (old new : Bag) (system : ℕ) (waiting : List Frame) (told : List (Up (List ℕ))) → HasWaiting old waiting
    → OffersFrames link_of BagStep old system frames new told → NoneDropped told → AreOffered old new told (waiting ++ frames)
offered_each [] old new system waiting told waits o none = record {
  no_units = ap arrivals o.1;
  waits = subst (λ (b : Bag). HasWaiting b (waiting ++ [])) (sym o.0) (subst (HasWaiting old) (sym (append-nil waiting)) waits);
  at = subst (λ (b : Bag). IsAt old old.clock b) (sym o.0) (record { clock_is = refl; lans = refl; rows = refl });
}
offered_each (frame ∷ frames) old new system waiting told waits o none =
    let drops : NoneDropped (o.1 ++ o.2) = subst NoneDropped o.5 none in
    let first = offered_one old o.0 system frame waiting o.1 waits o.3 (none_before o.1 o.2 drops) in
    let others = offered_each frames o.0 new system (waiting ++ frame ∷ []) o.2 first.waits o.4 (none_behind o.1 o.2 drops) in
    let all : AreOffered o.0 new o.2 (waiting ++ frame ∷ frames) =
    subst (λ (fs : List Frame). AreOffered o.0 new o.2 fs) (append_assoc waiting (frame ∷ []) frames) others in
    both_parts old o.0 new o.1 o.2 told (waiting ++ frame ∷ []) (waiting ++ frame ∷ frames) first all o.5

-- frames that go to no system do not wait
pub offered_nowhere : (frames : List Frame) (old new : Bag) (system : ℕ) (told : List (Up (List ℕ))) → HasWaiting old [] → AllByRecursion (GoesNowhere old.rows) frames
    → OffersFrames link_of BagStep old system frames new told → NoneDropped told → AreOffered old new told []
offered_nowhere [] old new system told waits nowhere o none = offered_each [] old new system [] told waits o none
offered_nowhere (frame ∷ frames) old new system told waits nowhere o none =
    let drops : NoneDropped (o.1 ++ o.2) = subst NoneDropped o.5 none in
    let first = offered_one old o.0 system frame [] o.1 waits o.3 (none_before o.1 o.2 drops) in
    let same : o.0.rows ≡ old.rows = first.at.rows in
    let spent = spent_behind o.0 frame first.waits (subst (λ (rows : List _). GoesNowhere rows frame) (sym same) nowhere.0) in
    let others =
    offered_nowhere frames o.0 new system o.2 spent (subst (λ (rows : List _). AllByRecursion (GoesNowhere rows) frames) (sym same) nowhere.1) o.4 (none_behind o.1 o.2 drops) in
    both_parts old o.0 new o.1 o.2 told [] [] (record { no_units = first.no_units; waits = spent; at = first.at }) others o.5
