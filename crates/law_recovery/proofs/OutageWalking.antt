-- After further calls two partners that were Opened and up to date are so still, as long as neither is left and so many ticks have not passed.
use Rattle.std.specs.List.{AllByRecursion}
use Rattle.std.proofs.Common.{◌≡◌, ◌<◌, ◌≤◌, ℕ, ◌+◌, ◌*◌, true, List, [], ◌∷◌, ◌++◌, sym, subst, append-nil}
use Rattle.osi_base.specs.Calls.{Call, Keeps}
use Rattle.osi_base.specs.Link.{Link}
use Rattle.script_journal.specs.Partner.{ArePartners}
use Rattle.script_journal.specs.declared.event.Event.{Event}
use Rattle.tp4_number.specs.Number.{whole}
use Rattle.tp4_conn.specs.declared.timers.Timers.{Timers}
use Rattle.law_tp4_proper.specs.Rest.{AreInTime, AreProper}
use Rattle.law_tp4_history.specs.Ends.{Times}
use Rattle.law_tp4_history.specs.Journals.{Written}
use Rattle.law_tp4_history.specs.Tracks.{IsNothing, Whole}
use Rattle.tp4_world.specs.Called.{DidAll, KeepsLimits, WorldCall}
use Rattle.tp4_world.specs.World.{World}
use Rattle.law_tp4_lawful.specs.Called.{AreCalls, AreHonestCalls}
use Rattle.law_tp4_lawful.proofs.ActsLines.{Flowing}
use Rattle.law_tp4_lawful.proofs.Along.{Carries, Rests}
use Rattle.law_tp4_lawful.proofs.CalledStarts.{followed_by}
use Rattle.law_tp4_lawful.proofs.MeetsOthers.{KnowsTaken}
use Rattle.law_tp4_lawful.proofs.WorldCalls.{calls_hold}
use Rattle.law_tp4_lawful.proofs.WorldFloats.{start_goes}
use Rattle.law_tp4_lawful.proofs.WorldOutcomes.{one_unit, outcomes}
use Rattle.law_tp4_lawful.proofs.Worlds as worlds
use Rattle.law_recovery_world.proofs.After.{followed}
use Rattle.law_recovery_world.proofs.Known as recovery
use Rattle.law_recovery_world.proofs.WorldSteady.{at_zero, begun as rests_first, carrier_is, first_known}
use Rattle.law_recovery_world.proofs.Worlds as kept_worlds
use Rattle.law_recovery.specs.Laws.{PartnersStay}
use Rattle.law_recovery.specs.Staying.{IsLeftAlone, IsOpenedSince}
use Rattle.law_recovery.proofs.Following.{followed_two, two_kept}
use Rattle.law_recovery.proofs.Known.{AreAlone, IsOffered, IsSoon, Known, Two}
use Rattle.law_recovery.proofs.Placing.{IsAt}
use Rattle.law_recovery.proofs.Reporting.{followed_steady, offered_grows, steady_kept}

-- what comes behind the same front
tails : {A : Type 0} (x y : A) (xs ys : List A) → x ∷ xs ≡ y ∷ ys → xs ≡ ys
tails x y xs ys e = cc e

behind : {A : Type 0} (front xs ys : List A) → front ++ xs ≡ front ++ ys → xs ≡ ys
behind [] xs ys e = e
behind (x ∷ front) xs ys e = behind front xs ys (tails x x (front ++ xs) (front ++ ys) e)

module _ {C : Type 0} (link : C → Link (List ℕ)) (steps : C → Call (List ℕ) → C → Type 0) (law : (old : C) (call : Call (List ℕ)) (new : C) → steps old call new → Keeps (link old) call (link new))
    (flowing : Flowing) (knows : KnowsTaken) (begins : (times : Times) (titles : List (List ℕ)) (w : Whole) → IsNothing w → Written times titles w []) where
  module _ (titles : List (List ℕ)) (timers : Timers) (early : List Event) (old : World C) (a : AreHonestCalls link steps whole titles timers early old) where
    abbrev r : AreCalls link steps whole titles timers early old
    r = a.run

    plain : worlds.Followed titles timers
    plain = followed_by flowing knows titles timers

    base : kept_worlds.Followed titles timers
    base = followed titles timers a.timed plain

    -- ---- up to here

    abbrev begun : worlds.Rests link AreProper titles timers r.begun r.first
    begun = rests_first link steps law flowing knows begins titles timers early old a

    first_rests : Rests timers (recovery.Known titles timers) (IsOffered timers) link AreProper r.begun r.first
    first_rests = record {
      w = begun.w;
      explains = record {
        known = first_known link steps law flowing knows begins titles timers early old a;
        carries = subst (λ (c : C). Carries (IsOffered timers) timers.life begun.w.base (link c)) (sym (carrier_is link steps law flowing knows begins titles timers early old a))
            (start_goes (IsOffered timers) (offered_grows timers) timers.life link steps law begun.w.base titles r.made r.starts.below r.starts.ups r.is_first.carrier_is
            (at_zero link steps law flowing knows begins titles timers early old a) r.starts.gathers);
      };
      rest = begun.rest;
    }

    abbrev past : List Event
    past = r.begun ++ r.later

    old_rests : Rests timers (recovery.Known titles timers) (IsOffered timers) link AreProper past old
    old_rests =
        calls_hold titles timers (recovery.Known titles timers) (IsOffered timers) (steady_kept titles timers) a.timed link steps law (followed_steady titles timers base) one_unit AreProper AreInTime outcomes
        r.calls r.first old r.begun r.later a.honest a.limits first_rests r.did

    -- ---- from here on

    module _ (s x y : ℕ) (partners : ArePartners early x y) (since : s ≤ (link old.carrier).clock) (mine : IsOpenedSince timers s old x) (theirs : IsOpenedSince timers s old y) where
      abbrev two : Two
      two = record {
        since = s;
        early = past;
        x = x;
        x_system = mine.system;
        x_reference = mine.reference;
        y = y;
        y_system = theirs.system;
        y_reference = theirs.reference;
      }

      are : ArePartners past x y
      are = subst (λ (xs : List Event). ArePartners xs x y) r.journal_is partners

      at_of : (n : ℕ) (i : IsOpenedSince timers s old n) → IsAt timers s old.entities old.ends n i.system i.reference
      at_of n i = record {
        entity = i.entity;
        there = i.is_end.there;
        e = i.end;
        stands = i.is_end.stands;
        number = i.is_end.number;
        up = record { o = i.o; stage = i.stage; since = i.since };
      }

      of_at : (new : World C) (n system reference : ℕ) → IsAt timers s new.entities new.ends n system reference → IsOpenedSince timers s new n
      of_at new n system reference i = record {
        system = system;
        reference = reference;
        entity = i.entity;
        end = i.e;
        is_end = record { there = i.there; stands = i.stands; number = i.number };
        o = i.up.o;
        stage = i.up.stage;
        since = i.up.since;
      }

      here_rests : Rests timers (Known titles timers two) (IsOffered timers) link AreProper past old
      here_rests = record {
        w = old_rests.w;
        explains = record {
          known = record {
            steady = old_rests.explains.known;
            made = [];
            journal_is = sym (append-nil past);
            since = subst (λ (now : ℕ). s ≤ now) old_rests.explains.carries.clock since;
            stay = λ alone soon. (at_of x mine, at_of y theirs);
          };
          carries = old_rests.explains.carries;
        };
        rest = old_rests.rest;
      }

      module _ (calls : List WorldCall) (made : List Event) (new : World C) (limits : AllByRecursion KeepsLimits calls) (did : DidAll link steps whole old calls made new) (honest : (link new.carrier).honest ≡ true) where
        new_rests : Rests timers (Known titles timers two) (IsOffered timers) link AreProper (past ++ made) new
        new_rests =
            calls_hold titles timers (Known titles timers two) (IsOffered timers) (two_kept titles timers a.timed two are) a.timed link steps law (followed_two titles timers a.timed two are base) one_unit
            AreProper AreInTime outcomes calls old new past made honest limits here_rests did

        abbrev last : Known titles timers two new_rests.w (past ++ made) new.entities new.ends
        last = new_rests.explains.known

        made_is : made ≡ last.made
        made_is = behind past made last.made last.journal_is

        both_stay : IsLeftAlone x mine.system made → IsLeftAlone y theirs.system made → (link new.carrier).clock < s + timers.sendings * timers.t1
            → (link new.carrier).clock + timers.window ≤ s + timers.inactive → IsOpenedSince timers s new x × IsOpenedSince timers s new y
        both_stay alone other_alone tries idle =
            let now_is : (link new.carrier).clock ≡ new_rests.w.base.clock = new_rests.explains.carries.clock in
            let here = last.stay
            (subst (AreAlone two) made_is (record { x = alone; y = other_alone }))
            (subst (IsSoon timers s) now_is (record { tries = tries; idle = idle })) in
            (of_at new x mine.system mine.reference here.0, of_at new y theirs.system theirs.reference here.1)

  pub partners_stay : PartnersStay link steps
  partners_stay titles timers early made old new calls a limits did honest s x y partners since mine theirs alone other_alone tries idle =
      both_stay titles timers early old a s x y partners since mine theirs calls made new limits did honest alone other_alone tries idle
