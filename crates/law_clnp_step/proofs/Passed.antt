-- A tick: units older than the lifetime are given up, and so is what systems hold of them; nothing comes up but notes.
use Rattle.std.proofs.Common.{◌≡◌, ℕ, ◌+◌, ◌<◌, ◌≤◌, Bool, true, false, List, [], ◌∷◌, ◌++◌, refl, sym, ◌∙◌, ap, subst, arith}
use Rattle.std.specs.Prelude.{if◌then◌else◌}
use Rattle.std.specs.List.{AllByRecursion, Contains, filter}
use Rattle.std.proofs.lemmas.Bool.{leb-true}
use Rattle.std.proofs.lemmas.List.Elements.{All-from_recursion}
use Rattle.nsap.specs.declared.port.Port.{Port}
use Rattle.osi_base.specs.declared.unit.Up.{Up}
use Rattle.osi_base.specs.declared.unit.Up.TheVariants.{Unit as Came, Note as Noted}
use Rattle.osi_base.specs.Floated.{is_young}
use Rattle.osi_base.specs.Link.{Link, IsGiven, IsNote}
use Rattle.osi_base.specs.Calls.{Call, Tick, Keeps, Ticks}
use Rattle.osi_base.specs.Gathering.{Stands}
use Rattle.osi_base.proofs.Chains.{picks_on}
use Rattle.osi_base.proofs.Standings.{stands_on, tick_took}
use Rattle.clnp_system.specs.Node.{Node, Frame}
use Rattle.clnp_system.specs.Tables.{Tables}
use Rattle.law_clnp_step.specs.Handling.{TicksAll, notes_of}
use Rattle.law_clnp_step.specs.Network.{Network, net_link}
use Rattle.law_clnp_step.specs.Sound.{AreTellable, HaveDifferentIds, IsAmong, IsCarried, IsPeopled, IsSound, IsTimely, IsTraced, Knows, Origin, entry_of, settings_of}
use Rattle.law_clnp_step.specs.Step.{NetTicks}
use Rattle.law_clnp_step.proofs.Arrived.{peopled_same}
use Rattle.law_clnp_step.proofs.Carrying.{among_young, stays}
use Rattle.law_clnp_step.proofs.Dropping.{none_lost, none_new}
use Rattle.law_clnp_step.proofs.Handled.{AreTicked, ticks_kept}
use Rattle.law_clnp_step.proofs.Lists.{all_both, all_filter, all_passes, all_weaker, among_map, filter_map}
use Rattle.law_clnp_step.proofs.Seen.{belongs_same}
use Rattle.law_clnp_step.proofs.Ticked.{ticked_knows, ticked_notes, ticked_quiet, ticked_setup, ticked_timely}

tellable_filter : (test : Origin → Bool) (origins : List Origin) → AreTellable origins → AreTellable (filter test origins)
tellable_filter test [] h = tt
tellable_filter test (origin ∷ origins) h =
    kept (test origin) origin (filter test origins) (all_filter (HaveDifferentIds origin) test origins h.0) (tellable_filter test origins h.1)
  where
    kept : (b : Bool) (one : Origin) (others : List Origin) → AllByRecursion (HaveDifferentIds one) others → AreTellable others → AreTellable (Rattle.std.specs.Prelude.cond b (one ∷ others) others)
    kept true one others k t = (k, t)
    kept false one others k t = t

pub own_settings : {N : Type 0} (nodes : List (Node N)) → AllByRecursion (λ node. IsAmong node.setup (settings_of nodes)) nodes
own_settings nodes = Rattle.law_clnp_step.proofs.Lists.all_among (λ node. IsAmong node.setup (settings_of nodes)) nodes (λ node h. among_map (λ (n : Node _). n.setup) node nodes h)

notes_are : (ups : List (Up Port)) → AllByRecursion IsNote (notes_of ups)
notes_are [] = tt
notes_are (Noted note ∷ ups) = (tt, notes_are ups)
notes_are (Came arrival ∷ ups) = notes_are ups

pub always : {A : Type 0} (xs : List A) → AllByRecursion (λ x. Prim.Unit {0}) xs
always [] = tt
always (x ∷ xs) = (tt, always xs)

module _ {C N : Type 0} (link : C → Link Port) (steps : C → Call Port → C → Type 0)
    (law : (old : C) (call : Call Port) (new : C) → steps old call new → Keeps (link old) call (link new)) (tables : Tables N)
  where
    -- all systems tick, one after another: in any run
    pub all_ticked : (now : ℕ) (old : C) (nodes : List (Node N)) (new : C) (after : List (Node N)) (told : List (Up (List ℕ))) → (link old).clock ≡ now → TicksAll link steps tables now old nodes new after told
        → AreTicked link steps law (λ entry. Prim.Unit {0}) IsNote now (λ note. tt) tables (settings_of nodes) (IsTimely now) old new nodes after told
    all_ticked now old nodes new after told at h =
        ticks_kept link steps law (λ entry. Prim.Unit {0}) IsNote now (λ note. tt) tables (settings_of nodes) (λ node. Prim.Unit {0}) (IsTimely now)
        (λ node reaction ticked there before t. (
          ticked_timely tables now node reaction ticked t,
          ticked_setup tables now node reaction ticked t,
          ticked_notes tables now node reaction ticked t,
          always reaction.frames,
        ))
        old nodes new after told at (λ entry k. tt) (own_settings nodes) (always nodes) h

    -- and in an honest one
    pub all_ticked_honestly : (now life : ℕ) (origins : List Origin) (old : C) (nodes : List (Node N)) (new : C) (after : List (Node N)) (told : List (Up (List ℕ))) → (link old).clock ≡ now
        → ((entry : ℕ × Frame) → Contains (link old).floating entry → IsCarried (filter (stays now life) origins) life now entry)
        → AllByRecursion (Knows origins life) nodes → TicksAll link steps tables now old nodes new after told
        → AreTicked link steps law (IsCarried (filter (stays now life) origins) life now) IsNote now (λ note. tt) tables (settings_of nodes) (Knows (filter (stays now life) origins) life) old new nodes after told
    all_ticked_honestly now life origins old nodes new after told at carried known h =
        ticks_kept link steps law (IsCarried (filter (stays now life) origins) life now) IsNote now (λ note. tt) tables (settings_of nodes) (Knows origins life) (Knows (filter (stays now life) origins) life)
        (λ node reaction ticked there before t. (
          ticked_knows tables now node reaction ticked t origins life before,
          ticked_setup tables now node reaction ticked t,
          ticked_notes tables now node reaction ticked t,
          ticked_quiet tables now node reaction ticked t (filter (stays now life) origins) life,
        ))
        old nodes new after told at carried (own_settings nodes) known h

    module _ (old new : Network C N) (sound : IsSound link old) (low : (link old.link).clock < 4000000000) (t : NetTicks link steps tables old new) where
      abbrev now : ℕ
      now = (link old.link).clock + 1

      abbrev passed : Network C N
      passed = record old {
        link = t.below;
        nodes = t.nodes;
        floating = record old.floating { entries = filter (is_young now old.life) old.floating.entries };
        waiting = old.waiting ++ (notes_of t.ups ++ t.told);
      }

      below_ticks : Ticks (link old.link) (link t.ticked)
      below_ticks = law old.link Tick t.ticked t.ticks

      risen_clock : (link t.risen).clock ≡ now
      risen_clock = t.gathers.stands.clock ∙ below_ticks.clock

      ticked : AreTicked link steps law (λ entry. Prim.Unit {0}) IsNote now (λ note. tt) tables (settings_of old.nodes) (IsTimely now) t.risen t.below old.nodes t.nodes t.told
      ticked = all_ticked now t.risen old.nodes t.below t.nodes t.told risen_clock t.all

      stands : Stands (link t.ticked) (link t.below)
      stands = stands_on (link t.ticked) (link t.risen) (link t.below) t.gathers.stands ticked.below.stands

      below_clock : (link t.below).clock ≡ now
      below_clock = stands.clock ∙ below_ticks.clock

      below_honest : (link t.below).honest ≡ (link old.link).honest
      below_honest = stands.honest ∙ below_ticks.honest

      pub tick_keeps : IsGiven (link old.link) → Ticks (net_link link old) (net_link link new)
      tick_keeps given =
          let picks = picks_on (link old.link) (link t.ticked) (link t.below) below_ticks.picks stands.picks in
          subst (λ (n : Network C N). Ticks (net_link link old) (net_link link n)) (sym t.becomes) (record {
            same = record { bound = λ to. refl; room = λ to. refl; belongs = λ to system. belongs_same to system old.nodes t.nodes ticked.setups };
            clock = below_clock;
            honest = below_honest;
            strays = ap (λ (b : Bool). if b then 0 else old.strays) below_honest;
            grows = λ entry h. none_new now old.life old.floating.entries entry h;
            lost = λ entry h live. none_lost now old.life old.floating.entries entry h (subst (λ (n : ℕ). n ≤ entry.0 + old.life) below_clock live);
            notes = record {
              notes = notes_of t.ups ++ t.told;
              all_notes = All-from_recursion IsNote (notes_of t.ups ++ t.told) (all_both IsNote (notes_of t.ups) t.told (notes_are t.ups) ticked.all_fine);
              waiting = refl;
            };
            picks = record { given = picks.given; again = picks.again };
            took = tick_took (link old.link) (link t.ticked) (link t.below) given below_ticks stands;
          })

      module _ (origins : List Origin) (traced : IsTraced link old origins) where
        carried : (entry : ℕ × Frame) → Contains (link t.risen).floating entry → IsCarried (filter (stays now old.life) origins) old.life now entry
        carried entry h = λ pdu there kind lives.
            among_young origins old.life now entry.0 pdu
            (traced.carried entry (below_ticks.grows entry (t.gathers.grows entry h)) pdu there kind (omega (arith, lives))) lives

        traced_after : IsTraced link passed (filter (stays now old.life) origins)
        traced_after =
            let k = all_ticked_honestly now old.life origins t.risen old.nodes t.below t.nodes t.told risen_clock carried traced.known t.all in record {
              entries = ap (filter (is_young now old.life)) traced.entries ∙ filter_map entry_of (is_young now old.life) origins;
              carried = λ entry h. subst (λ (n : ℕ). IsCarried (filter (stays now old.life) origins) old.life n entry) (sym below_clock) (k.below.good entry h);
              tellable = tellable_filter (stays now old.life) origins traced.tellable;
              known = k.known;
            }

      pub tick_soundly : IsSound link new
      tick_soundly = subst (IsSound link) (sym t.becomes) (record {
        steady = record {
          quiet = ticked.below.quiet t.gathers.quiet;
          low = omega (arith, below_clock, low);
          limit = sound.steady.limit;
          peopled =
              peopled_same (link old.link).bound (link t.below).bound old.life (settings_of t.nodes) (λ to. stands.same.bound to ∙ below_ticks.same.bound to)
              (subst (IsPeopled (link old.link).bound old.life) (sym ticked.setups) sound.steady.peopled);
          timely = subst (λ (n : ℕ). AllByRecursion (IsTimely n) t.nodes) (sym below_clock) ticked.known;
          past = all_filter (λ entry. entry.0 ≤ (link t.below).clock) (is_young now old.life) old.floating.entries
              (all_weaker (λ entry. entry.0 ≤ (link old.link).clock) (λ entry. entry.0 ≤ (link t.below).clock) old.floating.entries (λ entry h. omega (arith, h, below_clock)) sound.steady.past);
          young = all_weaker (λ entry. is_young now old.life entry ≡ true) (λ entry. (link t.below).clock ≤ entry.0 + old.life) (filter (is_young now old.life) old.floating.entries)
              (λ entry h. let k : now ≤ entry.0 + old.life = leb-true now (entry.0 + old.life) h in subst (λ (n : ℕ). n ≤ entry.0 + old.life) (sym below_clock) k)
              (all_passes (is_young now old.life) old.floating.entries);
          none = λ h. sound.steady.none (sym below_honest ∙ h);
        };
        traced = λ h. let tr = sound.traced (sym below_honest ∙ h) in (filter (stays now old.life) tr.0, traced_after tr.0 tr.1);
      })
