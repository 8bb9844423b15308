-- What came up is handled: what the frames below are known to carry is kept, what each system knows too, and what comes up is fine.
-- Of the carrier below only its law is used, and of a system what one step of it keeps.
use Rattle.std.proofs.Common.{◌≡◌, ℕ, ◌+◌, Bool, List, [], ◌∷◌, ◌++◌, map, refl, sym, ◌∙◌, ap, subst, inl, inr}
use Rattle.std.specs.List.{Contains, AllByRecursion}
use Rattle.nsap.specs.declared.port.Port.{Port}
use Rattle.osi_base.specs.declared.unit.Arrival.{Arrival}
use Rattle.osi_base.specs.declared.unit.Up.{Up}
use Rattle.osi_base.specs.declared.unit.Up.TheVariants.{Unit as Came, Note as Noted}
use Rattle.osi_base.specs.declared.unit.Offered.{Offered}
use Rattle.osi_base.specs.declared.unit.Offered.TheVariants.{Taken as WasTaken, Dropped}
use Rattle.osi_base.specs.declared.note.Note.{Note}
use Rattle.osi_base.specs.declared.note.Note.TheVariants.{DropFrame}
use Rattle.osi_base.specs.Link.{Link}
use Rattle.osi_base.specs.Calls.{Call, Offer, Keeps, Offers}
use Rattle.osi_base.specs.Gathering.{Stands}
use Rattle.osi_base.proofs.Standings.{stands_on, stands_same, stands_offer}
use Rattle.clnp_system.specs.Node.{Node, Reaction, Frame}
use Rattle.clnp_system.specs.Setting.{Setting}
use Rattle.clnp_system.specs.Tables.{Tables}
use Rattle.clnp_system.specs.Receiving.{Receives}
use Rattle.clnp_system.specs.Ticking.{NodeTicks}
use Rattle.law_clnp_step.specs.Handling.{OffersFrame, OffersFrames, IsReceived, Nobody, Somebody, Changes, Handles, TicksAll, notes_of, drop_note, plain_wish, is_system}
use Rattle.law_clnp_step.specs.Sound.{IsAmong, settings_of}
use Rattle.law_clnp_step.proofs.Lists.{all_both, all_front, all_back, among_right, map_both}

-- an arrival, where it is one
abbrev pub ComesIf : (Arrival Port → Type 0) → Up Port → Type 0
ComesIf Comes (Noted note) = Prim.Unit {0}
ComesIf Comes (Came arrival) = Comes arrival

-- one node changed: its setup is among those of all, and stays
pub change_kept : {N : Type 0} (test : Node N → Bool) (P : Node N → Type 0) (nodes : List (Node N)) (node after : Node N) (changed : List (Node N)) → Changes test nodes node after changed
    → AllByRecursion P nodes → P after → AllByRecursion P changed
change_kept test P nodes node after changed c all one =
    let parts : AllByRecursion P (c.before ++ node ∷ c.behind) = subst (AllByRecursion P) c.stands all in
    subst (AllByRecursion P) (sym c.becomes) (all_both P c.before (after ∷ c.behind) (all_front P c.before (node ∷ c.behind) parts) (one, (all_back P c.before (node ∷ c.behind) parts).1))

pub change_at : {N : Type 0} (test : Node N → Bool) (P : Node N → Type 0) (nodes : List (Node N)) (node after : Node N) (changed : List (Node N)) → Changes test nodes node after changed
    → AllByRecursion P nodes → P node
change_at test P nodes node after changed c all = (all_back P c.before (node ∷ c.behind) (subst (AllByRecursion P) c.stands all)).0

pub change_among : {N : Type 0} (test : Node N → Bool) (nodes : List (Node N)) (node after : Node N) (changed : List (Node N)) → Changes test nodes node after changed
    → IsAmong node nodes
change_among test nodes node after changed c = subst (IsAmong node) (sym c.stands) (among_right node c.before (node ∷ c.behind) (inl refl))

pub change_setups : {N : Type 0} (test : Node N → Bool) (nodes : List (Node N)) (node after : Node N) (changed : List (Node N)) → Changes test nodes node after changed
    → after.setup ≡ node.setup → settings_of changed ≡ settings_of nodes
change_setups test nodes node after changed c same =
    let f : Node _ → Setting = λ (n : Node _). n.setup in
    ap (map f) c.becomes ∙ map_both f c.before (after ∷ c.behind) ∙ ap (λ (s : Setting). map f c.before ++ s ∷ map f c.behind) same
    ∙ sym (map_both f c.before (node ∷ c.behind)) ∙ ap (map f) (sym c.stands)

module _ {C : Type 0} (link : C → Link Port) (steps : C → Call Port → C → Type 0)
    (law : (old : C) (call : Call Port) (new : C) → steps old call new → Keeps (link old) call (link new))
    (Good : ℕ × Frame → Type 0) (Fine : Up (List ℕ) → Type 0) (clock : ℕ)
    (fine : (note : Note) → Fine (Noted note))
  where
    pub record IsKept (old new : C) : Type 0 where
      pub stands : Stands (link old) (link new)
      pub good : (entry : ℕ × Frame) → Contains (link new).floating entry → Good entry
      pub quiet : (link old).waiting ≡ [] → (link new).waiting ≡ []

    abbrev pub AllGood : C → Type 0
    AllGood carrier = (entry : ℕ × Frame) → Contains (link carrier).floating entry → Good entry

    notes_fine : (ups : List (Up Port)) → AllByRecursion Fine (notes_of ups)
    notes_fine [] = tt
    notes_fine (Noted note ∷ ups) = (fine note, notes_fine ups)
    notes_fine (Came arrival ∷ ups) = notes_fine ups

    drops_fine : (system : ℕ) (answer : Offered) → AllByRecursion Fine (drop_note system answer)
    drops_fine system WasTaken = tt
    drops_fine system (Dropped cause) = (fine (DropFrame system), tt)

    kept_same : (old new : C) → new ≡ old → AllGood old → IsKept old new
    kept_same old new e all = record {
      stands = subst (λ (c : C). Stands (link old) (link c)) (sym e) (stands_same (link old));
      good = subst AllGood (sym e) all;
      quiet = λ h. ap (λ (c : C). (link c).waiting) e ∙ h;
    }

    kept_on : (old mid new : C) → IsKept old mid → IsKept mid new → IsKept old new
    kept_on old mid new h k = record { stands = stands_on (link old) (link mid) (link new) h.stands k.stands; good = k.good; quiet = λ q. k.quiet (h.quiet q) }

    offered_kept : (old : C) (system : ℕ) (frame : Frame) (new : C) (told : List (Up (List ℕ))) → (link old).clock ≡ clock → AllGood old → Good (clock, frame)
        → OffersFrame link steps old system frame new told → IsKept old new × AllByRecursion Fine told
    offered_kept old system frame new told now all good o =
        let k : Offers (link old) frame o.answer (link o.offered) = law old (Offer frame plain_wish o.answer) o.offered o.offers in (
          record {
            stands = stands_on (link old) (link o.offered) (link new) (stands_offer (link old) frame o.answer (link o.offered) k) o.gathers.stands;
            good = λ entry h. elim (k.grows entry (o.gathers.grows entry h)) [
              | inl before ↦ all entry before
              | inr this ↦ subst Good (sym (this.1 ∙ ap (λ (t : ℕ). (t, frame)) now)) good
            ];
            quiet = λ h. o.gathers.quiet;
          },
          subst (AllByRecursion Fine) (sym o.told_is) (all_both Fine (notes_of o.notes) (drop_note system o.answer) (notes_fine o.notes) (drops_fine system o.answer)),
        )

    pub offers_kept : (old : C) (system : ℕ) (frames : List Frame) (new : C) (told : List (Up (List ℕ))) → (link old).clock ≡ clock → AllGood old
        → AllByRecursion (λ frame. Good (clock, frame)) frames → OffersFrames link steps old system frames new told → IsKept old new × AllByRecursion Fine told
    offers_kept old system [] new told now all good o = (kept_same old new o.0 all, subst (AllByRecursion Fine) (sym o.1) tt)
    offers_kept old system (frame ∷ frames) new told now all good o =
        let first = offered_kept old system frame o.0 o.1 now all good.0 o.3 in
        let rest = offers_kept o.0 system frames new o.2 (first.0.stands.clock ∙ now) first.0.good good.1 o.4 in (
          kept_on old o.0 new first.0 rest.0,
          subst (AllByRecursion Fine) (sym o.5) (all_both Fine o.1 o.2 first.1 rest.1),
        )

    pub notes_told : (ups : List (Up Port)) → AllByRecursion Fine (notes_of ups)
    notes_told ups = notes_fine ups

    module _ {N : Type 0} (tables : Tables N) (settings : List Setting) where
      -- what one node does keeps what is known of it
      abbrev pub KeptBy : (Node N → Type 0) → (Node N → Type 0) → (Node N → Reaction → Node N → Type 0) → Type 0
      KeptBy Before After Step =
          (node : Node N) (reaction : Reaction) (after : Node N) → IsAmong node.setup settings → Before node → Step node reaction after
          → After after × (after.setup ≡ node.setup) × AllByRecursion Fine reaction.ups × AllByRecursion (λ frame. Good (clock, frame)) reaction.frames

      -- each arrival is drawn before anything is handled
      pub record AreHandled (Knows : Node N → Type 0) (old new : C) (after : List (Node N)) (told : List (Up (List ℕ))) : Type 0 where
        pub below : IsKept old new
        pub nodes : AllByRecursion Knows after
        pub setups : settings_of after ≡ settings
        pub all_fine : AllByRecursion Fine told

      pub record AreTicked (After : Node N → Type 0) (old new : C) (nodes after : List (Node N)) (told : List (Up (List ℕ))) : Type 0 where
        pub below : IsKept old new
        pub known : AllByRecursion After after
        pub setups : settings_of after ≡ settings_of nodes
        pub all_fine : AllByRecursion Fine told

      module _ (Knows : Node N → Type 0) (Comes : Arrival Port → Type 0)
          (kept : (arrival : Arrival Port) → Comes arrival → KeptBy Knows Knows (λ node reaction after. Receives tables node clock arrival.unit reaction after))
        where
          one_received : (nodes : List (Node N)) (arrival : Arrival Port) (reaction : Reaction) (changed : List (Node N)) → settings_of nodes ≡ settings → AllByRecursion Knows nodes → Comes arrival
              → IsReceived tables clock nodes arrival reaction changed
              → AllByRecursion Knows changed × (settings_of changed ≡ settings) × AllByRecursion Fine reaction.ups × AllByRecursion (λ frame. Good (clock, frame)) reaction.frames
          one_received nodes arrival reaction changed setups known come (Nobody none nothing same) = (
            subst (AllByRecursion Knows) (sym same) known,
            ap settings_of same ∙ setups,
            subst (λ (r : Reaction). AllByRecursion Fine r.ups) (sym nothing) tt,
            subst (λ (r : Reaction). AllByRecursion (λ frame. Good (clock, frame)) r.frames) (sym nothing) tt,
          )
          one_received nodes arrival reaction changed setups known come (Somebody node after change receives) =
              let there : IsAmong node.setup settings =
              subst (IsAmong node.setup) setups (Rattle.law_clnp_step.proofs.Lists.among_map (λ (n : Node N). n.setup) node nodes (change_among (is_system arrival.system) nodes node after changed change)) in
              let k = kept arrival come node reaction after there (change_at (is_system arrival.system) Knows nodes node after changed change known) receives in (
                change_kept (is_system arrival.system) Knows nodes node after changed change known k.0,
                change_setups (is_system arrival.system) nodes node after changed change k.1 ∙ setups,
                k.2,
                k.3,
              )

          pub handles_kept : (old : C) (nodes : List (Node N)) (ups : List (Up Port)) (new : C) (after : List (Node N)) (told : List (Up (List ℕ))) → (link old).clock ≡ clock → AllGood old
              → settings_of nodes ≡ settings → AllByRecursion Knows nodes → AllByRecursion (ComesIf Comes) ups → Handles link steps tables clock old nodes ups new after told → AreHandled Knows old new after told
          handles_kept old nodes [] new after told now all setups known come h = record {
            below = kept_same old new h.0 all;
            nodes = subst (AllByRecursion Knows) (sym h.1) known;
            setups = ap settings_of h.1 ∙ setups;
            all_fine = subst (AllByRecursion Fine) (sym h.2) tt;
          }
          handles_kept old nodes (Noted note ∷ ups) new after told now all setups known come h =
              let r = handles_kept old nodes ups new after h.0 now all setups known come.1 h.1 in record {
                below = r.below;
                nodes = r.nodes;
                setups = r.setups;
                all_fine = subst (AllByRecursion Fine) (sym h.2) (fine note, r.all_fine);
              }
          handles_kept old nodes (Came arrival ∷ ups) new after told now all setups known come h =
              let k = one_received nodes arrival h.0 h.2 setups known come.0 h.5 in
              let o = offers_kept old arrival.system h.0.frames h.1 h.3 now all k.3 h.6 in
              let r = handles_kept h.1 h.2 ups new after h.4 (o.0.stands.clock ∙ now) o.0.good k.1 k.0 come.1 h.7 in record {
                below = kept_on old h.1 new o.0 r.below;
                nodes = r.nodes;
                setups = r.setups;
                all_fine = subst (AllByRecursion Fine) (sym h.8) (all_both Fine h.0.ups (h.3 ++ h.4) k.2 (all_both Fine h.3 h.4 o.1 r.all_fine));
              }

      module _ (Before After : Node N → Type 0) (kept : KeptBy Before After (λ node reaction after. NodeTicks tables node clock reaction after)) where
        pub ticks_kept : (old : C) (nodes : List (Node N)) (new : C) (after : List (Node N)) (told : List (Up (List ℕ))) → (link old).clock ≡ clock → AllGood old
            → AllByRecursion (λ node. IsAmong node.setup settings) nodes → AllByRecursion Before nodes → TicksAll link steps tables clock old nodes new after told → AreTicked After old new nodes after told
        ticks_kept old [] new after told now all there known h = record {
          below = kept_same old new h.0 all;
          known = subst (AllByRecursion After) (sym h.1) tt;
          setups = ap settings_of h.1;
          all_fine = subst (AllByRecursion Fine) (sym h.2) tt;
        }
        ticks_kept old (node ∷ nodes) new after told now all there known h =
            let k = kept node h.0 h.2 there.0 known.0 h.6 in
            let o = offers_kept old node.setup.system h.0.frames h.1 h.4 now all k.3 h.7 in
            let r = ticks_kept h.1 nodes new h.3 h.5 (o.0.stands.clock ∙ now) o.0.good there.1 known.1 h.8 in record {
              below = kept_on old h.1 new o.0 r.below;
              known = subst (AllByRecursion After) (sym h.9) (k.0, r.known);
              setups = ap settings_of h.9 ∙ ap (λ (s : Setting). s ∷ settings_of h.3) k.1 ∙ ap (λ (l : List Setting). node.setup ∷ l) r.setups;
              all_fine = subst (AllByRecursion Fine) (sym h.10) (all_both Fine h.0.ups (h.4 ++ h.5) k.2 (all_both Fine h.4 h.5 o.1 r.all_fine));
            }
