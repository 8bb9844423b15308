-- An entity did what the history follows: its events are told, its TPDUs go out, and the history with what is told of them explains the network
-- then.
use Rattle.std.proofs.Common.{◌≡◌, ℕ, List, [], ◌++◌, refl, sym, ◌∙◌, ap, subst, append_assoc}
use Rattle.std.proofs.lemmas.List.{append-nil}
use Rattle.osi_base.specs.Link.{Link}
use Rattle.osi_base.specs.Calls.{Call, Keeps}
use Rattle.script_journal.specs.declared.event.Event.{Event}
use Rattle.tp4_conn.specs.declared.timers.Timers.{Timers}
use Rattle.tp4_entity.specs.Entity.{Acted}
use Rattle.law_tp4_history.specs.History.{Note}
use Rattle.law_tp4_history.specs.Tracks.{Nothing, Whole, onward}
use Rattle.law_tp4_history.specs.Moves.{times_of}
use Rattle.tp4_world.specs.Run.{Acts}
use Rattle.tp4_world.specs.Telling.{ends_after, events_after}
use Rattle.tp4_world.specs.World.{World, with_entity}
use Rattle.law_tp4_lawful.proofs.Along.{AfterAside, Carries, Explains, Follows, IsKept, Knowing, Offering}
use Rattle.law_tp4_lawful.proofs.Known.{GoesOn}
use Rattle.law_tp4_lawful.proofs.WorldAsides.{AreQuiet, are_aside}
use Rattle.law_tp4_lawful.proofs.WorldFloats.{carries_on, stays_on, then_on, tpdus_go}

module _ (titles : List (List ℕ)) (timers : Timers) (Knows : Knowing) (Offered : Offering) (kept : IsKept titles timers Knows Offered) {C : Type 0} (link : C → Link (List ℕ)) (steps : C → Call (List ℕ) → C → Type 0)
    (law : (old : C) (call : Call (List ℕ)) (new : C) → steps old call new → Keeps (link old) call (link new)) (aside : AfterAside timers Knows Offered) where
  -- the history went on at the same tick, and explains this network
  pub record Went (w : Whole) (journal : List Event) (new : World C) : Type 0 where
    pub next : Whole
    pub goes_on : GoesOn w.base next.base
    pub explains : Explains timers Knows Offered link next journal new

  -- one history after another
  pub went_then : (w : Whole) (journal : List Event) (mid new : World C) (first : List Event) (one : Went w first mid) → Went one.next journal new → Went w journal new
  went_then w journal mid new first one two = record { next = two.next; goes_on = then_on w.base one.next.base two.next.base one.goes_on two.goes_on; explains = two.explains }

  -- nothing happened
  pub went_nowhere : (w : Whole) (journal made : List Event) (old new : World C) → Explains timers Knows Offered link w journal old → made ≡ [] → new ≡ old → Went w (journal ++ made) new
  went_nowhere w journal made old new e none same = record {
    next = w;
    goes_on = stays_on w.base;
    explains = subst (λ (x : World C). Explains timers Knows Offered link w (journal ++ made) x) (sym same)
        (subst (λ (xs : List Event). Explains timers Knows Offered link w xs old) (sym (append-nil journal) ∙ ap (λ (xs : List Event). journal ++ xs) (sym none)) e);
  }

  -- events that are aside, and then another carrier
  pub went_aside : (w : Whole) (journal made : List Event) (old new : World C) → Knows w journal old.entities old.ends → Carries Offered timers.life w.base (link new.carrier) → AreQuiet made
      → new ≡ record old { carrier = new.carrier } → Went w (journal ++ made) new
  went_aside w journal made old new known carries quiet same =
      let next : Whole = onward (times_of timers) w (record { step = Note; doing = Nothing }) in
      let goes_on : GoesOn w.base next.base = record { clock = refl; offers = λ offer there. there } in
      record {
        next = next;
        goes_on = goes_on;
        explains = subst (λ (x : World C). Explains timers Knows Offered link next (journal ++ made) x) (sym same)
            (record { known = aside w journal made old.entities old.ends known (are_aside made quiet); carries = carries_on Offered kept.grows timers.life w.base next.base (link new.carrier) goes_on carries });
      }

  -- what an entity did
  pub went_on : (w : Whole) (journal first made : List Event) (old new : World C) (system : ℕ) (own : List ℕ) (acted : Acted) → Carries Offered timers.life w.base (link old.carrier)
      → Follows timers Knows Offered w journal old.entities old.ends system own first acted → Acts link steps old system own acted made new → Went w ((journal ++ first) ++ made) new
  went_on w journal first made old new system own acted carries f a =
      let events : List Event = events_after old.ends system own acted.events in
      let after : World C = record { carrier = a.below; entities = with_entity old.entities system acted.entity; ends = ends_after old.ends system acted.events } in
      let sent = tpdus_go Offered kept.grows timers.life link steps law acted.tpdus f.new.base old.carrier a.below w.base.clock system own a.sent (carries_on Offered kept.grows timers.life w.base f.new.base (link old.carrier) f.goes_on carries)
      f.goes_on.clock f.offered a.sends in
      let went : Went f.new (((journal ++ first) ++ events) ++ a.sent) after = went_aside f.new ((journal ++ first) ++ events) a.sent after after f.known sent.0 sent.1 refl in
      let told : ((journal ++ first) ++ events) ++ a.sent ≡ (journal ++ first) ++ made =
      append_assoc (journal ++ first) events a.sent ∙ ap (λ (xs : List Event). (journal ++ first) ++ xs) (sym a.made_is) in
      record {
        next = went.next;
        goes_on = then_on w.base f.new.base went.next.base f.goes_on went.goes_on;
        explains = subst (λ (x : World C). Explains timers Knows Offered link went.next ((journal ++ first) ++ made) x) (sym a.becomes)
            (subst (λ (xs : List Event). Explains timers Knows Offered link went.next xs after) told went.explains);
      }
