-- A choice and an injection: all that came up below is drawn before anything is handled. Then what is handed up is lawful while the
-- carrier below is honest, and the network is sound again.
use Rattle.std.proofs.Common.{◌≡◌, ◌≢◌, ◌⊎◌, ℕ, ◌+◌, ◌<◌, ◌≤◌, min, Bool, true, false, List, [], ◌∷◌, ◌++◌, map, refl, sym, ◌∙◌, ap, subst, inl, inr, arith, Option, Some, None}
use Rattle.std.specs.Prelude.{if◌then◌else◌, IsTrue, ◌↔◌}
use Rattle.std.specs.List.{All, AllByRecursion, Contains}
use Rattle.std.proofs.lemmas.List.Elements.{All-from_recursion, recursion_from_All}
use Rattle.nsap.specs.declared.port.Port.{Port}
use Rattle.osi_base.specs.declared.unit.Arrival.{Arrival}
use Rattle.osi_base.specs.declared.unit.Up.{Up}
use Rattle.osi_base.specs.declared.unit.Up.TheVariants.{Unit as Came, Note as Noted}
use Rattle.osi_base.specs.declared.unit.Picked.{Picked}
use Rattle.osi_base.specs.declared.unit.Picked.TheVariants.{Taken as WasPicked}
use Rattle.osi_base.specs.declared.unit.Injected.{Injected}
use Rattle.osi_base.specs.declared.unit.Injected.TheVariants.{Taken as WasInjected}
use Rattle.osi_base.specs.declared.note.Note.{Note}
use Rattle.osi_base.specs.Link.{Link, AreStrays, IsLawful, IsNote}
use Rattle.osi_base.specs.Calls.{Call, Choose, Inject, Keeps, Chooses, Injects, Adds, IsSameLink, NothingNew, pair_of}
use Rattle.osi_base.specs.Gathering.{Stands}
use Rattle.osi_base.proofs.Chains.{picks_on}
pub use Rattle.osi_base.proofs.Raisings.{IsRaised, raised_choice, raised_injection}
use Rattle.osi_base.proofs.Raisings.{strays_none, strays_some}
use Rattle.osi_base.proofs.Standings.{choice_took, stands_on, takes_on, took_after}
use Rattle.clnp_system.specs.Node.{Node, Reaction, Frame}
use Rattle.clnp_system.specs.Receiving.{Receives}
use Rattle.clnp_system.specs.Setting.{Setting}
use Rattle.clnp_system.specs.Tables.{Tables}
use Rattle.law_clnp_step.specs.Network.{Network, is_end_of, net_link}
use Rattle.law_clnp_step.specs.Sound.{AreTellable, IsAmong, IsBounded, IsCarried, IsPeopled, IsSound, IsSteady, IsTimely, IsTraced, Knows, Origin, settings_of}
use Rattle.law_clnp_step.specs.Step.{Arrives, counted, strays_in}
use Rattle.law_clnp_step.proofs.Handled.{AreHandled, ComesIf, IsKept, handles_kept}
use Rattle.law_clnp_step.proofs.Lists.{all_weaker}
use Rattle.law_clnp_step.proofs.Received.{IsDrawn, IsFine, received_kept, received_timely}
use Rattle.law_clnp_step.proofs.Seen.{all_lawful, belongs_same, lawful_no_strays, strays_are}

pub peopled_same : (bound other : Port → ℕ) (life : ℕ) (settings : List Setting) → ((to : Port) → other to ≡ bound to) → IsPeopled bound life settings → IsPeopled other life settings
peopled_same bound other life settings same p = record {
  distinct = p.distinct;
  lives = p.lives;
  bounds = all_weaker (IsBounded bound) (IsBounded other) settings (λ setting h own to at. let k = h own to at in let e = same to in omega (arith, k, e)) p.bounds;
}

pub timely_same : {N : Type 0} (clock now : ℕ) (nodes : List (Node N)) → now ≡ clock → AllByRecursion (IsTimely clock) nodes → AllByRecursion (IsTimely now) nodes
timely_same clock now nodes same h = subst (λ (n : ℕ). AllByRecursion (IsTimely n) nodes) (sym same) h

module _ {C N : Type 0} (link : C → Link Port) (steps : C → Call Port → C → Type 0)
    (law : (old : C) (call : Call Port) (new : C) → steps old call new → Keeps (link old) call (link new)) (tables : Tables N)
  where
    abbrev Always : {A : Type 0} → A → Type 0
    Always x = Prim.Unit {0}

    all_always : {A : Type 0} (xs : List A) → AllByRecursion Always xs
    all_always [] = tt
    all_always (x ∷ xs) = (tt, all_always xs)

    module _ (old : Network C N) (call : Call Port) (new : Network C N) (sound : IsSound link old) (a : Arrives link steps tables old call new)
        (raised : IsRaised (link old.link) (link a.called))
      where
        abbrev now : ℕ
        now = (link old.link).clock

        abbrev settings : List Setting
        settings = settings_of old.nodes

        risen_clock : (link a.risen).clock ≡ now
        risen_clock = a.gathers.stands.clock ∙ raised.clock

        ups_are : a.ups ≡ raised.ups
        ups_are = sym a.gathers.waited ∙ raised.waiting ∙ ap (λ (xs : List (Up Port)). xs ++ raised.ups) sound.steady.quiet

        comes_all : (ups : List (Up Port)) → AllByRecursion (ComesIf (λ arrival. Always arrival)) ups
        comes_all [] = tt
        comes_all (Noted note ∷ ups) = (tt, comes_all ups)
        comes_all (Came arrival ∷ ups) = (tt, comes_all ups)

        -- in any run
        handled : AreHandled link steps law (λ entry. Always entry) (λ up. Always up) now (λ note. tt) tables settings (IsTimely now) a.risen a.below a.nodes a.told
        handled =
            handles_kept link steps law (λ entry. Always entry) (λ up. Always up) now (λ note. tt) tables settings (IsTimely now) (λ arrival. Always arrival)
            (λ arrival come node reaction after there timely receives.
            let k = received_timely tables now node arrival.unit reaction after timely receives in
            (k.0, k.1, all_always reaction.ups, all_always reaction.frames))
            a.risen old.nodes a.ups a.below a.nodes a.told risen_clock (λ entry h. tt) refl sound.steady.timely (comes_all a.ups) a.handles

        pub stands_below : Stands (link a.called) (link a.below)
        stands_below = stands_on (link a.called) (link a.risen) (link a.below) a.gathers.stands handled.below.stands

        below_clock : (link a.below).clock ≡ now
        below_clock = stands_below.clock ∙ raised.clock

        was_honest : (link a.below).honest ≡ true → (link old.link).honest ≡ true
        was_honest h = raised.was_honest (sym stands_below.honest ∙ h)

        -- in an honest run
        module _ (honest : (link a.below).honest ≡ true) (origins : List Origin) (t : IsTraced link old origins) where
          drawn : (ups : List (Up Port)) → AllByRecursion (IsLawful (link old.link)) ups → AllByRecursion (ComesIf (IsDrawn (link old.link).bound origins old.life now)) ups
          drawn [] h = tt
          drawn (Noted note ∷ ups) h = (tt, drawn ups h.1)
          drawn (Came arrival ∷ ups) h =
              let afloat = h.0.0 in
              (record { tick = afloat.tick; live = afloat.live; carried = t.carried (afloat.tick, arrival.unit) afloat.taken }, drawn ups h.1)

          handled_honestly : AreHandled link steps law (IsCarried origins old.life now) (IsFine origins old.life now settings) now (λ note. tt) tables settings (Knows origins old.life)
              a.risen a.below a.nodes a.told
          handled_honestly =
              handles_kept link steps law (IsCarried origins old.life now) (IsFine origins old.life now settings) now (λ note. tt) tables settings (Knows origins old.life)
              (IsDrawn (link old.link).bound origins old.life now)
              (λ arrival come node reaction after there known receives.
              received_kept tables (link old.link).bound origins old.life now settings t.tellable sound.steady.peopled.bounds arrival come node reaction after there known receives)
              a.risen old.nodes a.ups a.below a.nodes a.told risen_clock (λ entry h. t.carried entry (raised.grows entry (a.gathers.grows entry h))) refl t.known
              (subst (AllByRecursion (ComesIf (IsDrawn (link old.link).bound origins old.life now))) (sym ups_are)
              (drawn raised.ups (raised.lawful (sym stands_below.honest ∙ honest))))
              a.handles

          pub told_lawful : AllByRecursion (IsLawful (net_link link old)) a.told
          told_lawful = all_lawful link old sound.steady.young origins t.entries a.told handled_honestly.all_fine

          traced_after : IsTraced link (record old { link = a.below; nodes = a.nodes; waiting = old.waiting ++ a.told; strays = counted (link a.below).honest old.strays (strays_in old.floating.entries a.told) }) origins
          traced_after = record {
            entries = t.entries;
            carried = λ entry h. subst (λ (n : ℕ). IsCarried origins old.life n entry) (sym below_clock) (handled_honestly.below.good entry h);
            tellable = t.tellable;
            known = handled_honestly.nodes;
          }

        pub arrives_soundly : IsSound link new
        arrives_soundly = subst (IsSound link) (sym a.becomes) (record {
          steady = record {
            quiet = handled.below.quiet a.gathers.quiet;
            low = subst (λ (n : ℕ). n ≤ 4000000000) (sym below_clock) sound.steady.low;
            limit = sound.steady.limit;
            peopled =
                peopled_same (link old.link).bound (link a.below).bound old.life (settings_of a.nodes) (λ to. stands_below.same.bound to ∙ raised.same.bound to)
                (subst (IsPeopled (link old.link).bound old.life) (sym handled.setups) sound.steady.peopled);
            timely = timely_same now (link a.below).clock a.nodes below_clock handled.nodes;
            past = subst (λ (n : ℕ). AllByRecursion (λ entry. entry.0 ≤ n) old.floating.entries) (sym below_clock) sound.steady.past;
            young = subst (λ (n : ℕ). AllByRecursion (λ entry. n ≤ entry.0 + old.life) old.floating.entries) (sym below_clock) sound.steady.young;
            none = λ h. ap (λ (b : Bool). counted b old.strays (strays_in old.floating.entries a.told)) h ∙ sound.steady.none (was_honest h);
          };
          traced = λ h. let t = sound.traced (was_honest h) in (t.0, traced_after h t.0 t.1);
        })

        pub belongs_after : (to : List ℕ) (system : ℕ) → Rattle.std.specs.List.list_any (is_end_of to system) a.nodes ≡ Rattle.std.specs.List.list_any (is_end_of to system) old.nodes
        belongs_after to system = belongs_same to system old.nodes a.nodes handled.setups

        -- what is handed up, and the strays among it
        pub adds_after : Adds (net_link link old) a.told (net_link link (record old { link = a.below; nodes = a.nodes; waiting = old.waiting ++ a.told; strays = counted (link a.below).honest old.strays (strays_in old.floating.entries a.told) }))
        adds_after = by_honest (link a.below).honest refl
          where
            by_honest : (b : Bool) → (link a.below).honest ≡ b
                → Adds (net_link link old) a.told (net_link link (record old { link = a.below; nodes = a.nodes; waiting = old.waiting ++ a.told; strays = counted (link a.below).honest old.strays (strays_in old.floating.entries a.told) }))
            by_honest true h =
                let t = sound.traced (was_honest h) in record {
                  strays_among = 0;
                  are_strays = lawful_no_strays (net_link link old) a.told (told_lawful h t.0 t.1);
                  strays = strays_none (link a.below).honest (link old.link).honest old.strays _ h (was_honest h);
                  waiting = refl;
                }
            by_honest false h = record {
              strays_among = strays_in old.floating.entries a.told;
              are_strays = strays_are link old sound.steady.young a.told;
              strays = strays_some (link a.below).honest (link old.link).honest old.strays (strays_in old.floating.entries a.told) _ h sound.steady.none
                  (ap (λ (b : Bool). counted b old.strays (strays_in old.floating.entries a.told)) h);
              waiting = refl;
            }

        -- where nothing came, notes alone are handed up
        pub told_notes : AllByRecursion IsNote raised.ups → AllByRecursion IsNote a.told
        told_notes notes =
            (handles_kept link steps law (λ entry. Always entry) IsNote now (λ note. tt) tables settings (λ node. Always node) (λ arrival. ⊥)
            (λ arrival come node reaction after there known receives. absurd come)
            a.risen old.nodes a.ups a.below a.nodes a.told risen_clock (λ entry h. tt) refl (all_always old.nodes)
            (subst (AllByRecursion (ComesIf (λ arrival. ⊥))) (sym ups_are) (none_come raised.ups notes)) a.handles).all_fine
          where
            none_come : (ups : List (Up Port)) → AllByRecursion IsNote ups → AllByRecursion (ComesIf (λ arrival. ⊥)) ups
            none_come [] h = tt
            none_come (Noted note ∷ ups) h = (tt, none_come ups h.1)
            none_come (Came arrival ∷ ups) h = absurd h.0

    -- ---- the two calls by the link contract

    pub choice_keeps : (old : Network C N) (pick system : ℕ) (answer : Picked) (new : Network C N) → IsSound link old → Arrives link steps tables old (Choose pick system answer) new
        → Chooses (net_link link old) pick system answer (net_link link new)
    unfolding raised_choice
    choice_keeps old pick system answer new sound a =
        let o : Chooses (link old.link) pick system answer (link a.called) = law old.link (Choose pick system answer) a.called a.calls in
        let r = raised_choice (link old.link) pick system answer (link a.called) o in
        let s = stands_below old (Choose pick system answer) new sound a r in
        let picks = picks_on (link old.link) (link a.called) (link a.below) o.picks s.picks in
        subst (λ (n : Network C N). Chooses (net_link link old) pick system answer (net_link link n)) (sym a.becomes) (record {
          same = record { bound = λ to. refl; room = λ to. refl; belongs = belongs_after old (Choose pick system answer) new sound a r };
          clock = s.clock ∙ o.clock;
          honest = s.honest ∙ o.honest;
          grows = λ entry h. h;
          lost = λ entry h live. h;
          ups = a.told;
          adds = adds_after old (Choose pick system answer) new sound a r;
          lawful = λ h.
              let t = sound.traced h in
              All-from_recursion (IsLawful (net_link link old)) a.told (told_lawful old (Choose pick system answer) new sound a r (s.honest ∙ o.honest ∙ h) t.0 t.1);
          refused = λ h.
              All-from_recursion IsNote a.told (told_notes old (Choose pick system answer) new sound a r (recursion_from_All IsNote o.ups (o.refused h)));
          answers = o.answers;
          takes = takes_on (link old.link) (link a.called) (link a.below) o.takes s.takes;
          picks = record { given = picks.given; again = picks.again };
          took = choice_took (link old.link) pick system answer (link a.called) (link a.below) o s;
        })

    pub injection_keeps : (old : Network C N) (lan system : ℕ) (octets : List ℕ) (answer : Injected) (new : Network C N) → IsSound link old
        → Arrives link steps tables old (Inject lan system octets answer) new → Injects (net_link link old) answer (net_link link new)
    unfolding raised_injection
    injection_keeps old lan system octets answer new sound a =
        let o : Injects (link old.link) answer (link a.called) = law old.link (Inject lan system octets answer) a.called a.calls in
        let r = raised_injection (link old.link) answer (link a.called) o in
        let s = stands_below old (Inject lan system octets answer) new sound a r in
        let picks = picks_on (link old.link) (link a.called) (link a.below) o.picks s.picks in
        subst (λ (n : Network C N). Injects (net_link link old) answer (net_link link n)) (sym a.becomes) (record {
          same = record { bound = λ to. refl; room = λ to. refl; belongs = belongs_after old (Inject lan system octets answer) new sound a r };
          clock = s.clock ∙ o.clock;
          injected = λ h. s.honest ∙ o.injected h;
          honest = λ h. s.honest ∙ o.honest h;
          grows = λ entry h. h;
          lost = λ entry h live. h;
          ups = a.told;
          adds = adds_after old (Inject lan system octets answer) new sound a r;
          refused = λ h.
              All-from_recursion IsNote a.told (told_notes old (Inject lan system octets answer) new sound a r (recursion_from_All IsNote o.ups (o.refused h)));
          takes = takes_on (link old.link) (link a.called) (link a.below) o.takes s.takes;
          picks = record { given = picks.given; again = picks.again };
          took = took_after (link old.link) (link a.called) (link a.below) _ o.takes (λ p q is. cc) o.took s.took;
        })
