-- What holds of a network of users and of its journal holds at its start and after each call.
use Rattle.std.proofs.Common.{◌≡◌, ℕ, ◌+◌, Bool, true, false, nat_lt, List, [], ◌∷◌, ◌++◌, length, Some, refl, sym, ◌∙◌, ap, subst, append_assoc}
use Rattle.std.proofs.lemmas.List.{append-nil}
use Rattle.osi_base.specs.declared.unit.Picked.{Picked}
use Rattle.osi_base.specs.declared.unit.Picked.TheVariants.{Taken as WasPicked}
use Rattle.osi_base.specs.declared.unit.Up.{Up}
use Rattle.osi_base.specs.Link.{Link}
use Rattle.osi_base.specs.Calls.{Call, Offer, Choose, Tick, Keeps}
use Rattle.osi_base.specs.Gathering.{Gathers}
use Rattle.script_journal.specs.declared.cause.Refused.TheVariants.{TooLong}
use Rattle.script_journal.specs.declared.cause.Settled.{Settled}
use Rattle.net_world.specs.Told.{picked_event}
use Rattle.net_world.proofs.Standing.{Gathered}
use Rattle.script_journal.specs.declared.event.Event.{Event}
use Rattle.script_journal.specs.declared.event.Event.TheVariants as events
use Rattle.cltp.specs.declared.sending.Request.{Request}
use Rattle.cltp.specs.declared.sending.ClAnswer.{ClAnswer}
use Rattle.cltp.specs.declared.system.ClSystem.{ClSystem}
use Rattle.cltp.specs.First.{IsNew}
use Rattle.cltp.specs.Laws.{ShowsSentDatagrams}
use Rattle.cltp.specs.Run.{ClCall, Sending, Delivering, Ticking, Settling, Delivers, NoneLeft, OneMore, RunsCall, RunsCalls, SendsIf, Settles, Starts, TakesUp, TooMany}
use Rattle.cltp.specs.Sending.{send_event, ud_for, ud_wish}
use Rattle.cltp.specs.Systems.{World, system_at}
use Rattle.cltp.specs.Ud.{IsSelector}
use Rattle.cltp.proofs.Shown.{found_is}
use Rattle.cltp.proofs.Standing.{Standing, chosen, made_of, offered, started, ticked, told_alone}
use Rattle.cltp.proofs.Written.{written_is}

module _ {C : Type 0} (link : C → Link (List ℕ)) (steps : C → Call (List ℕ) → C → Type 0) (law : (old : C) (call : Call (List ℕ)) (new : C) → steps old call new → Keeps (link old) call (link new))
    (life : ℕ) (systems : List ClSystem) where
  -- between two calls nothing waits
  pub record Rests (state : World C) (journal : List Event) : Type 0 where
    pub stands : Standing life systems (link state.carrier) journal
    pub quiet : (link state.carrier).waiting ≡ []
    pub systems_are : state.systems ≡ systems

  gathered : (old new : C) (ups : List (Up (List ℕ))) → Gathers link steps old ups new → Gathered (link old) ups (link new)
  gathered old new ups g = record { waited = g.waited; stands = g.stands; grows = g.grows }

  -- a step with these events
  along : (new : World C) (journal made done : List Event) → made ≡ done → Standing life systems (link new.carrier) (journal ++ done) → (link new.carrier).waiting ≡ [] → new.systems ≡ systems
      → Rests new (journal ++ made)
  along new journal made done is stands quiet are =
      record { stands = subst (λ (all : List Event). Standing life systems (link new.carrier) (journal ++ all)) (sym is) stands; quiet = quiet; systems_are = are }

  -- nothing was done but for one event
  alone : (old new : World C) (journal made : List Event) (event : Event) → Rests old journal → new ≡ old → made ≡ event ∷ []
      → Standing life systems (link old.carrier) (journal ++ event ∷ []) → Rests new (journal ++ made)
  alone old new journal made event rests same is stands =
      subst (λ (state : World C). Rests state (journal ++ made)) (sym same) (along old journal made (event ∷ []) is stands rests.quiet rests.systems_are)

  taken : (old : World C) (called : C) (later : List Event) (new : C) → old.systems ≡ systems → TakesUp link steps old.systems called later new → TakesUp link steps systems called later new
  taken old called later new are takes = subst (λ (ss : List ClSystem). TakesUp link steps ss called later new) are takes

  send_rests : (system : ℕ) (request : Request) (answer : ClAnswer) (old new : World C) (journal made : List Event) (long : Bool) → IsSelector request.from_selector → IsSelector request.to_selector
      → Rests old journal → SendsIf link steps long old system request answer made new → Rests new (journal ++ made)
  send_rests system request answer old new journal made true from to rests step =
      alone old new journal made (events.No TooLong) rests step.2 step.1 (told_alone life systems (link old.carrier) journal (events.No TooLong) rests.stands tt (λ now. refl))
  send_rests system request answer old new journal made false from to rests step =
      let call = step.arrives in
      let takes = taken old call.called call.later new.carrier rests.systems_are call.takes_up in
      let offers = law old.carrier (Offer (record { from = step.own.own; to = request.to; octets = step.octets }) ud_wish step.offered) call.called call.steps_to in
      let own_is : system_at systems system ≡ Some step.own = ap (λ (ss : List ClSystem). system_at ss system) (sym rests.systems_are) ∙ step.own_is in
      let event : Event = send_event system request step.offered in
      along new journal made (made_of event takes.ups takes.heard) (call.made_is ∙ ap (λ (es : List Event). event ∷ es) takes.made_is)
      (offered life systems (link old.carrier) (link call.called) (link new.carrier) journal takes.ups takes.heard rests.stands rests.quiet (gathered call.called new.carrier takes.ups takes.gathers) takes.hears
      system request step.own step.octets step.offered own_is (found_is systems system step.own own_is) (written_is (ud_for request) step.octets step.written from to) offers)
      takes.gathers.quiet (call.same ∙ rests.systems_are)

  deliver_rests : (number system : ℕ) (answer : Picked) (old new : World C) (journal made : List Event) → Rests old journal → Delivers link steps old number system answer made new → Rests new (journal ++ made)
  deliver_rests number system answer old new journal made rests call =
      let takes = taken old call.called call.later new.carrier rests.systems_are call.takes_up in
      let chooses = law old.carrier (Choose number system answer) call.called call.steps_to in
      let event : Event = picked_event number system answer in
      along new journal made (made_of event takes.ups takes.heard) (call.made_is ∙ ap (λ (es : List Event). event ∷ es) takes.made_is)
      (chosen life systems (link old.carrier) (link call.called) (link new.carrier) journal takes.ups takes.heard rests.stands rests.quiet (gathered call.called new.carrier takes.ups takes.gathers) takes.hears
      number system answer chooses)
      takes.gathers.quiet (call.same ∙ rests.systems_are)

  settle_rests : (count : ℕ) (old : World C) (answer : Settled) (made : List Event) (new : World C) (journal : List Event) → Rests old journal → Settles link steps count old answer made new → Rests new (journal ++ made)
  settle_rests count old answer made new journal rests (NoneLeft n o a m l fresh says is same) =
      alone old new journal made (events.Settle answer) rests same is (told_alone life systems (link old.carrier) journal (events.Settle answer) rests.stands tt (λ now. refl))
  settle_rests count old answer made new journal rests (TooMany n o a m l pair fresh all says is same) =
      alone old new journal made (events.Settle answer) rests same is (told_alone life systems (link old.carrier) journal (events.Settle answer) rests.stands tt (λ now. refl))
  settle_rests count old answer made new journal rests (OneMore n o a m l pair mid here rest fresh low delivers others is) =
      let first : Rests mid (journal ++ here) = deliver_rests pair.0 pair.1 WasPicked old mid journal here rests delivers in
      let all : Rests new ((journal ++ here) ++ rest) = settle_rests (count + 1) mid answer rest new (journal ++ here) first others in
      subst (Rests new) (append_assoc journal here rest ∙ ap (λ (es : List Event). journal ++ es) (sym is)) all

  pub call_rests : (call : ClCall) (old new : World C) (journal made : List Event) → Rests old journal → RunsCall link steps old call made new → Rests new (journal ++ made)
  call_rests (Sending system request) old new journal made rests step =
      send_rests system request step.2.0 old new journal made (nat_lt 16000 (length request.octets)) step.0 step.1 rests step.2.1
  call_rests (Delivering number system) old new journal made rests step = deliver_rests number system step.0 old new journal made rests step.1
  call_rests Ticking old new journal made rests call =
      let takes = taken old call.called call.later new.carrier rests.systems_are call.takes_up in
      let ticks = law old.carrier Tick call.called call.steps_to in
      let event : Event = events.Tick ((link old.carrier).clock + 1) in
      along new journal made (made_of event takes.ups takes.heard) (call.made_is ∙ ap (λ (es : List Event). event ∷ es) takes.made_is)
      (ticked life systems (link old.carrier) (link call.called) (link new.carrier) journal takes.ups takes.heard rests.stands rests.quiet (gathered call.called new.carrier takes.ups takes.gathers) takes.hears ticks)
      takes.gathers.quiet (call.same ∙ rests.systems_are)
  call_rests Settling old new journal made rests step = settle_rests 0 old step.0 made new journal rests step.1

  run_rests : (calls : List ClCall) (first last : World C) (journal rest : List Event) → Rests first journal → RunsCalls link steps first calls rest last → Rests last (journal ++ rest)
  run_rests [] first last journal rest rests run =
      subst (λ (state : World C). Rests state (journal ++ rest)) (sym run.1)
      (along first journal rest [] run.0 (subst (λ (all : List Event). Standing life systems (link first.carrier) all) (sym (append-nil journal)) rests.stands) rests.quiet rests.systems_are)
  run_rests (call ∷ calls) first last journal rest rests run =
      let here : Rests run.0 (journal ++ run.1) = call_rests call first run.0 journal run.1 rests run.3 in
      let after : Rests last ((journal ++ run.1) ++ run.2) = run_rests calls run.0 last (journal ++ run.1) run.2 here run.5 in
      subst (λ (all : List Event). Rests last all) (append_assoc journal run.1 run.2 ∙ ap (λ (xs : List Event). journal ++ xs) (sym run.4)) after

  pub first_rests : (made : C) (first : World C) (begun : List Event) → IsNew life (link made) → Starts link steps made systems begun first → Rests first begun
  first_rests made first begun is start =
      let takes = start.takes_up in
      let event : Event = events.Tick 0 in
      along first [] begun (made_of event takes.ups takes.heard) (start.made_is ∙ ap (λ (es : List Event). event ∷ es) takes.made_is)
      (started life systems (link made) (link first.carrier) takes.ups takes.heard is (gathered made first.carrier takes.ups takes.gathers) takes.hears) takes.gathers.quiet start.same

-- each datagram that is shown was sent
pub shows_sent : {C : Type 0} (link : C → Link (List ℕ)) (steps : C → Call (List ℕ) → C → Type 0) (law : (old : C) (call : Call (List ℕ)) (new : C) → steps old call new → Keeps (link old) call (link new))
    → ShowsSentDatagrams link steps
shows_sent link steps law life systems made begun journal calls first last is start run =
    (run_rests link steps law life systems calls first last begun journal (first_rests link steps law life systems made first begun is start) run).stands.lawful
