-- The TPDU that waits first is handed to the entity that it is for: the end takes it, or none does, or it is the CR that makes the called end. In each case
-- the story of the associations stands beside the network that comes of it.
use Rattle.std.proofs.Common.{◌≡◌, ℕ, ◌+◌, Bool, true, false, not, List, [], ◌∷◌, ◌++◌, length, map, slice_get, slice_set, Some, None, refl, sym, ◌∙◌, ap, subst, append-nil}
use Rattle.script_journal.specs.declared.event.Event.{Event as JournalEvent}
use Rattle.tp4_number.specs.Number.{whole}
use Rattle.tp4_flow.specs.declared.step.Sent.{Sent}
use Rattle.tp4_conn.specs.End.{End, Moved, end_of, frozen_for}
use Rattle.tp4_conn.specs.Making.{indicated}
use Rattle.tp4_conn.specs.Table.{Took, stepped}
use Rattle.tp4_conn.specs.declared.end_record.EndRecord.{EndRecord}
use Rattle.tp4_conn.specs.declared.states.InCrWait.{InCrWait}
use Rattle.tp4_conn.specs.declared.states.StateData.TheVariants.{CrWait}
use Rattle.tp4_conn.specs.declared.timers.Timers.{Timers}
use Rattle.tp4_entity.specs.Entity.{Acted, Entity, at, moved}
use Rattle.tp4_entity.specs.References.{is_free_place, least_free, was_frozen}
use Rattle.law_tp4_history.specs.Journals.{IsAside}
use Rattle.law_tp4_history.specs.Lines.{shown_in}
use Rattle.tp4_world.specs.Telling.{events_after}
use Rattle.tp4_world.specs.World.{entity_at, latest, with_entity}
use Rattle.tp4_world.specs.declared.place.EndAt.{EndAt}
use Rattle.tp4_world.specs.declared.place.Placed.{Placed}
use Rattle.law_tp4_associations.specs.Association.{Association, Posted, cleared, party, post, system_of, waiting, with_party}
use Rattle.law_tp4_associations.specs.Handing.{Aside, Begins, Hands, IsBetweenOpen, Taken, Takes, TellsOfNoEnd}
use Rattle.law_tp4_associations.specs.Phase.{Answered, Asking, Late, Leaving, Over, Paired, Phase, Refused, Rejected, Waiting}
use Rattle.law_tp4_associations.specs.Standing.{Standing}
use Rattle.law_tp4_associations.proofs.Handed.{set_back}
use Rattle.law_calm_run.proofs.Hall.{Hall, Post, after, posted}
use Rattle.law_calm_run.proofs.Story.{ArePosts, IsRunning, IsYoung, Numbers, Story, Tells}
use Rattle.law_calm_run.proofs.Acting.{acts_of, aside_of_no_end, ends_same}
use Rattle.law_calm_run.proofs.Continuing.{map_get, none_some}
use Rattle.law_calm_run.proofs.Freeing.{free_place, is_freed}
use Rattle.law_calm_run.proofs.MakingCalled.{tells_begun}
use Rattle.law_tp4_lawful.proofs.MakesPlaces.{latest_last as latest_here}
use Rattle.law_calm_run.proofs.NumberingCalled.{with_called}
use Rattle.law_calm_run.proofs.Pairing.{running_stays}
use Rattle.law_calm_run.proofs.Passing.{tells_aside}
use Rattle.law_calm_run.proofs.Queued.{AreStill, cleared_still, party_systems, posts_behind, posts_of, posts_still, set_still, still_then}
use Rattle.law_calm_run.proofs.Stepping.{first_other, first_own, tells_back, tells_forth}
use Rattle.law_calm_run.proofs.Telling.{ActsIn}

-- ---- an association whose CR waits

-- the calling end waits for the answer
pub record IsAskingOf (a : Association) : Type 0 where
  pub x : End
  pub r : InCrWait
  pub calling : a.calling ≡ Some x
  pub stage : x.stage ≡ CrWait r

none_called : {A : Type 0} (a : Association) (y : End) → a.called ≡ None → a.called ≡ Some y → A
none_called a y none is = absurd (none_some y (sym none ∙ is))

pub asks_still : (timers : Timers) (here there : List ℕ) (now : ℕ) (a : Association) (forth back : List Sent) → Phase timers here there now a forth back → a.called ≡ None → (forth ≡ [] → ⊥) → IsAskingOf a
asks_still timers here there now a forth back (Asking x r calling called asks stage forth_is back_is) none some = record { x = x; r = r; calling = calling; stage = stage }
asks_still timers here there now a forth back (Rejected x refusal calling called asks forth_is back_is to refuses) none some = absurd (some forth_is)
asks_still timers here there now a forth back (Waiting x y since calling called asks is copies back_is) none some = none_called a y none called
asks_still timers here there now a forth back (Late x y when since calling called stage unagreed is past forth_is back_is) none some = none_called a y none called
asks_still timers here there now a forth back (Refused x y first others calling called asks frozen held unagreed copies back_is refusals) none some = none_called a y none called
asks_still timers here there now a forth back (Answered x y w calling called asks stage is forth_is) none some = none_called a y none called
asks_still timers here there now a forth back (Paired p calling called is) none some = none_called a p.called none called
asks_still timers here there now a forth back (Leaving x y calling called parts held also) none some = none_called a y none called
asks_still timers here there now a forth back (Over calling called forth_is back_is) none some = absurd (some forth_is)

-- only of the calling system's association does the called end become another one
called_systems : (system reference : ℕ) (a : Association) (y : End) (by : Bool) → system_of (record a { called = Some y }) by ≡ system_of (cleared system reference a) by
called_systems system reference a y true = refl
called_systems system reference a y false = refl

module _ (timers : Timers) (own : ℕ → List ℕ) (now : ℕ) (entities : List Placed) (ends : List EndAt) (posts : List Post) (journal : List JournalEvent) (all : List Association) (k : ℕ) (sent : Sent)
    (queue : List Posted) (number : Numbers) (are : ArePosts all queue posts) (a : Association) (is : slice_get all k ≡ Some a) (e : Entity) (address : List ℕ) (aside : List JournalEvent) (quiet : IsAside aside) where
  abbrev first : Bool → Posted
  first by = record { of = k; by = by; sent = sent }

  abbrev next : Bool → Acted → Hall
  next by acted = after (record { clock = now; entities = entities; ends = ends; posts = posts }) (system_of a (not by)) acted

  abbrev lines : Bool → Acted → List JournalEvent
  lines by acted = events_after ends (system_of a (not by)) address acted.events ++ aside

  abbrev Stands : Bool → Acted → List Association → Association → Type 0
  Stands by acted others b = Standing timers own now (with_entity entities (system_of a (not by)) acted.entity) (slice_set others k b) (queue ++ post k (not by) acted.tpdus)

  -- what waits then
  posts_then : (new : List Association) (by : Bool) (tpdus : List Sent) → AreStill all new → ArePosts new (queue ++ post k (not by) tpdus) (posts ++ posted (system_of a (not by)) tpdus)
  posts_then new by tpdus still =
      let here = still k a is in
      posts_behind new queue (post k (not by) tpdus) posts (posted (system_of a (not by)) tpdus) (posts_still all new queue posts still are)
      (posts_of new k (not by) (system_of a (not by)) here.now tpdus here.is (here.systems (not by)))

  -- ---- the end takes it

  abbrev M : End → Moved
  M end = stepped whole now end (Took sent.tpdu sent.sum)

  tells_taken : (by : Bool) (end : End) (n : ℕ) (made : List JournalEvent) → Tells IsRunning own now ends all (first by ∷ queue) number journal → party a (not by) ≡ Some end → number k (not by) ≡ Some n
      → ActsIn n made [] (shown_in (M end).events) (M end).events
      → Tells IsRunning own now ends (slice_set all k (with_party a (not by) (Some (end_of (M end))))) (queue ++ post k (not by) (M end).tpdus) number (journal ++ made)
  tells_taken true end n made t end_is n_is acts = tells_forth own now ends all queue number journal made k sent a end n is t end_is n_is (λ r stage. t.uncalling k a end r is end_is stage) acts
  tells_taken false end n made t end_is n_is acts = tells_back own now ends all queue number journal made k sent a end n is t end_is n_is acts

  story_taken : (by : Bool) (end : End) → Tells IsRunning own now ends all (first by ∷ queue) number journal → party a (not by) ≡ Some end
      → Stands by (moved (at now e) end.base.own (M end)) all (with_party a (not by) (Some (end_of (M end))))
      → Story timers own (next by (moved (at now e) end.base.own (M end))) (journal ++ lines by (moved (at now e) end.base.own (M end)))
  story_taken by end t end_is standing =
      let halves = t.owns k a (not by) end is end_is in
      let new : List Association = slice_set all k (with_party a (not by) (Some (end_of (M end)))) in
      let made : List JournalEvent = lines by (moved (at now e) end.base.own (M end)) in
      record {
        all = new;
        queue = queue ++ post k (not by) (M end).tpdus;
        number = number;
        standing = standing;
        posts = posts_then new by (M end).tpdus (set_still all k a (with_party a (not by) (Some (end_of (M end)))) is (party_systems a (not by) (Some (end_of (M end)))));
        tells = subst (λ (es : List EndAt). Tells IsRunning own now es new (queue ++ post k (not by) (M end).tpdus) number (journal ++ made))
            (sym (ends_same now end (Took sent.tpdu sent.sum) halves ends (system_of a (not by)) address))
            (tells_taken by end (latest ends (system_of a (not by)) end.base.own) made t end_is (t.numbered.party_is k a (not by) end is end_is)
            (acts_of now end (Took sent.tpdu sent.sum) halves ends (system_of a (not by)) address (latest ends (system_of a (not by)) end.base.own) aside made refl quiet refl));
      }

  -- ---- no end takes it

  story_aside : (by : Bool) (acted : Acted) → Tells IsRunning own now ends all (first by ∷ queue) number journal → TellsOfNoEnd acted.events → (IsBetweenOpen a → ⊥) → Stands by acted all a
      → Story timers own (next by acted) (journal ++ lines by acted)
  story_aside by acted t none apart standing =
      let quietly = aside_of_no_end ends (system_of a (not by)) address acted.events aside none quiet in
      record {
        all = all;
        queue = queue ++ post k (not by) acted.tpdus;
        number = number;
        standing =
            subst (λ (l : List Association). Standing timers own now (with_entity entities (system_of a (not by)) acted.entity) l (queue ++ post k (not by) acted.tpdus)) (set_back all k a is) standing;
        posts = posts_then all by acted.tpdus (λ j b at. record { now = b; is = at; systems = λ side. refl });
        tells = subst (λ (es : List EndAt). Tells IsRunning own now es all (queue ++ post k (not by) acted.tpdus) number (journal ++ lines by acted)) (sym quietly.ends_are)
            (tells_aside own now ends all (first by) queue number journal (lines by acted) a acted.tpdus t is apart quietly.none quietly.silent);
      }

  -- ---- the called end is made

  begins_at : (base : EndRecord) (octets : List ℕ) → Standing timers own now entities all (first true ∷ queue) → Tells IsRunning own now ends all (first true ∷ queue) number journal
      → entity_at entities a.to ≡ Some e → a.called ≡ None → least_free now e ≡ Some base.own → base.to ≡ own a.from.system → base.partner ≡ a.from.reference
      → Stands true (moved (at now e) base.own (indicated base octets)) (map (cleared a.to base.own) all) (record a { called = Some (end_of (indicated base octets)) })
      → Story timers own (next true (moved (at now e) base.own (indicated base octets))) (journal ++ lines true (moved (at now e) base.own (indicated base octets)))
  begins_at base octets s t there none free to partner standing =
      let y : End = end_of (indicated base octets) in
      let old : List Association = map (cleared a.to base.own) all in
      let new : List Association = slice_set old k (record a { called = Some y }) in
      let asks = asks_still timers (own a.from.system) (own a.to) now a (waiting k true (first true ∷ queue)) (waiting k false (first true ∷ queue)) (s.each k a is).phase none
      (λ empty. some_not sent (waiting k true queue) (sym (first_own (first true) queue) ∙ empty)) in
      record {
        all = new;
        queue = queue ++ [];
        number = with_called number k (length ends + 1);
        standing = standing;
        posts = posts_then new true []
            (still_then all old new (cleared_still all a.to base.own)
            (set_still old k (cleared a.to base.own a) (record a { called = Some y }) (map_get (cleared a.to base.own) all k a is) (called_systems a.to base.own a y)));
        tells =
            tells_begun IsRunning running_stays own now ends all (first true ∷ queue) number journal t base.own k a asks.x y is asks.calling refl (apart asks.x asks.r asks.calling asks.stage) tt base.clock refl
            (t.uncalled k a asks.x is asks.calling none (subst IsYoung (sym asks.stage) tt)) aside _ quiet.ends (λ m. record { gave = (quiet.units m).0; showed = (quiet.units m).1 }) to partner
            (latest_here ends a.to base.own) (queue ++ [])
            (λ j side other. ap (waiting j side) (append-nil queue) ∙ sym (first_other (first true) queue j side other))
            (is_freed now entities a.to e there base.own free timers own all (first true ∷ queue) s);
      }
    where
      some_not : (one : Sent) (rest : List Sent) → one ∷ rest ≡ [] → ⊥
      some_not one rest e = cc e

      waits : (x : End) (r : InCrWait) → x.stage ≡ CrWait r → is_free_place now (Some x) ≡ true → ⊥
      waits x r stage is_free =
          let e : was_frozen now (frozen_for x.base.timers) (CrWait r) ≡ true = ap (was_frozen now (frozen_for x.base.timers)) (sym stage) ∙ is_free in
          absurd (cc e)

      apart : (x : End) (r : InCrWait) → a.calling ≡ Some x → x.stage ≡ CrWait r → a.from.system ≡ a.to → x.base.own ≡ base.own → ⊥
      apart x r calling stage system_is own_is =
          waits x r stage
          (free_place now entities a.to e there base.own free x (s.stand k true a.to base.own x (record { a = a; is = is; end_is = calling; system_is = system_is; reference_is = own_is })))

  story_begun : (by : Bool) (base : EndRecord) (octets : List ℕ) → by ≡ true → Standing timers own now entities all (first by ∷ queue) → Tells IsRunning own now ends all (first by ∷ queue) number journal
      → entity_at entities (system_of a (not by)) ≡ Some e → a.called ≡ None → least_free now e ≡ Some base.own → base.to ≡ own a.from.system → base.partner ≡ a.from.reference
      → Stands by (moved (at now e) base.own (indicated base octets)) (map (cleared a.to base.own) all) (record a { called = Some (end_of (indicated base octets)) })
      → Story timers own (next by (moved (at now e) base.own (indicated base octets))) (journal ++ lines by (moved (at now e) base.own (indicated base octets)))
  story_begun true base octets forth = begins_at base octets
  story_begun false base octets forth = absurd (cc forth)

  -- ---- all three

  stands_as : (by : Bool) (acted same : Acted) (others all_same : List Association) (b b_same : Association) → acted ≡ same → others ≡ all_same → b ≡ b_same → Stands by acted others b → Stands by same all_same b_same
  stands_as by acted same others all_same b b_same one two three standing =
      subst (λ (x : Acted). Stands by x all_same b_same) one (subst (λ (l : List Association). Stands by acted l b_same) two (subst (Stands by acted others) three standing))

  story_takes : (by : Bool) (acted : Acted) (others : List Association) (b : Association) → Standing timers own now entities all (first by ∷ queue) → Tells IsRunning own now ends all (first by ∷ queue) number journal
      → entity_at entities (system_of a (not by)) ≡ Some e → Takes own now (at now e) (first by) acted all others a b → Stands by acted others b → Story timers own (next by acted) (journal ++ lines by acted)
  story_takes by acted others b s t there (Taken end end_is acted_is b_is others_is) standing =
      subst (λ (x : Acted). Story timers own (next by x) (journal ++ lines by x)) (sym acted_is)
      (story_taken by end t end_is (stands_as by acted _ others all b _ acted_is others_is b_is standing))
  story_takes by acted others b s t there (Aside entity_is none b_is others_is apart) standing =
      story_aside by acted t none apart (stands_as by acted acted others all b a refl others_is b_is standing)
  story_takes by acted others b s t there (Begins reference base octets forth none free own_is to partner acted_is b_is others_is) standing =
      let acted_there : acted ≡ moved (at now e) base.own (indicated base octets) = acted_is ∙ ap (λ (r : ℕ). moved (at now e) r (indicated base octets)) (sym own_is) in
      subst (λ (x : Acted). Story timers own (next by x) (journal ++ lines by x)) (sym acted_there)
      (story_begun by base octets forth s t there none (free ∙ ap (λ (r : ℕ). Some r) (sym own_is)) to partner
      (stands_as by acted _ others _ b _ acted_there (others_is ∙ ap (λ (r : ℕ). map (cleared a.to r) all) (sym own_is)) b_is standing))

  -- what was handed over
  pub story_handed : (by : Bool) (acted : Acted) → Standing timers own now entities all (first by ∷ queue) → Tells IsRunning own now ends all (first by ∷ queue) number journal
      → entity_at entities (system_of a (not by)) ≡ Some e → Hands timers own now entities all (first by) queue e a acted → Story timers own (next by acted) (journal ++ lines by acted)
  story_handed by acted s t there h = story_takes by acted h.others h.b s t there h.takes h.standing
