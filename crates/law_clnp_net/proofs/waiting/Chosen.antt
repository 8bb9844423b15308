-- A choice of the least fresh pair: it is that of the first frame that some system can take. Its receiver has its unit whole by it, or keeps what came so far, beside all that it
-- holds of others; or it is an error report, and nothing comes of it.
use Rattle.std.proofs.Common.{◌≡◌, ◌⊎◌, inl, inr, ℕ, ◌==◌, List, [], ◌∷◌, ◌++◌, Some, None, refl, sym, ◌∙◌, ap, subst, Bool}
use Rattle.std.specs.List.{AllByRecursion}
use Rattle.std.proofs.lemmas.List.{append-nil}
use Rattle.nsap.specs.declared.port.Port.{Port}
use Rattle.osi_base.specs.declared.unit.Arrival.{Arrival}
use Rattle.osi_base.specs.declared.unit.Picked.TheVariants.{Taken as WasPicked}
use Rattle.osi_base.specs.declared.unit.Unit.{Unit as CarriedUnit}
use Rattle.osi_base.specs.declared.unit.Up.{Up}
use Rattle.osi_base.specs.declared.unit.Up.TheVariants.{Unit as Came}
use Rattle.osi_base.specs.Calls.{Choose}
use Rattle.osi_base.specs.Link.{IsLeastFresh}
use Rattle.lan_step.specs.Bag.{Bag, BagStep, link_of}
use Rattle.lan_step.specs.declared.row.PortRow.{PortRow}
use Rattle.esis_tables.specs.Rows.{Rows}
use Rattle.clnp_segment.specs.Store.{Holding, Partial}
use Rattle.clnp_system.specs.Node.{Frame, Node, Reaction}
use Rattle.clnp_system.specs.Setting.{Setting}
use Rattle.clnp_system.specs.Tables.{rows_tables}
use Rattle.law_clnp_step.specs.Handling.{Handles, IsReceived, OffersFrames}
use Rattle.law_clnp_step.specs.Network.{net_link}
use Rattle.law_clnp_step.specs.Step.{Arrives}
use Rattle.net_world.specs.Fifo.{First, Hands, IsUser, Nothing, arrivals}
use Rattle.law_clnp_net.specs.Calm.{IsCalmNet, titles_of}
use Rattle.law_clnp_net.specs.Cutting.{IsFrameTo}
use Rattle.law_clnp_net.specs.Frames.{GoesOnlyTo, HasWaiting, IsAt}
use Rattle.law_clnp_net.proofs.Gathered.{Net}
use Rattle.law_clnp_net.proofs.Lans.{first_comes, none_waits, some_is_fresh}
use Rattle.law_clnp_net.proofs.Nodes.{IsTakenBy, first_takes, second_takes}
use Rattle.law_clnp_net.specs.Joining.{Bring, BringsBy}
use Rattle.net_world.specs.Prompt.{NoneRefused}
use Rattle.law_clnp_net.specs.Reached.{Reached}
use Rattle.law_clnp_net.specs.Waiting.{AreLeft, AreOf, GoesIn, IsReport, NoneLeft, Part, ToFirst, ToSecond, WaitsBeside}
use Rattle.law_clnp_net.proofs.waiting.Offered.{waits_on}
use Rattle.law_clnp_net.proofs.waiting.Queues.{Firsts, Front, Nobodys, Seconds, TellsFirst, TellsSecond, front, to_first, to_second}
use Rattle.law_clnp_net.proofs.waiting.Reported.{report_quiet}
use Rattle.law_clnp_net.proofs.waiting.Told.{unrefused_before}

-- the clock stands while frames are handed over
abbrev clock_of : Net → ℕ
clock_of net = (link_of net.link).clock

-- what comes of one arrival: what its system says is told first, and where it answers by no frame, that alone
record IsHandled (now : ℕ) (risen : Bag) (nodes : List (Node Rows)) (arrival : Arrival Port) (below : Bag) (after : List (Node Rows)) (told : List (Up (List ℕ))) : Type 0 where
  reaction : Reaction
  received : IsReceived rows_tables now nodes arrival reaction after
  silent : reaction.frames ≡ [] → (below ≡ risen) × (told ≡ reaction.ups)
  unrefused : NoneRefused told → NoneRefused reaction.ups

handled : (now : ℕ) (risen : Bag) (nodes : List (Node Rows)) (arrival : Arrival Port) (below : Bag) (after : List (Node Rows)) (told : List (Up (List ℕ)))
    → Handles link_of BagStep rows_tables now risen nodes (Came arrival ∷ []) below after told → IsHandled now risen nodes arrival below after told
handled now risen nodes arrival below after told h = record {
  reaction = h.0;
  received = subst (IsReceived rows_tables now nodes arrival h.0) (sym h.7.1) h.5;
  silent = λ none.
      let offers : OffersFrames link_of BagStep risen arrival.system [] h.1 h.3 =
      subst (λ (frames : List Frame). OffersFrames link_of BagStep risen arrival.system frames h.1 h.3) none h.6 in (
        h.7.0 ∙ offers.0,
        h.8 ∙ ((λ i. h.0.ups ++ (offers.1 i ++ h.7.2 i)) ∙ append-nil h.0.ups),
      );
  unrefused = λ none. unrefused_before h.0.ups (h.3 ++ h.4) (subst NoneRefused h.8 none);
}

module _ (rows : List PortRow) (first second : Setting) (here there : Port) (calm : IsCalmNet rows first second here there) (reports : Bool) (older_one older_two : List Partial) where
  abbrev titles : List (List ℕ)
  titles = titles_of first second

  abbrev InNet : Net → List (CarriedUnit (List ℕ)) → Type 0
  InNet = WaitsBeside reports titles first second here there rows older_one older_two

  abbrev Of : List Part → List (CarriedUnit (List ℕ)) → List Frame → Type 0
  Of = AreOf reports titles first second here there older_one older_two

  abbrev Left : List Partial → List Partial → List (CarriedUnit (List ℕ)) → List Frame → Type 0
  Left = AreLeft reports titles first second here there older_one older_two

  abbrev Fronts : Bag → List Partial → List Partial → List (CarriedUnit (List ℕ)) → Type 0
  Fronts bag = Front rows first second here there calm reports bag older_one older_two

  -- no segment is refused, or of older units nothing is held
  abbrev IsServed : List (Up (List ℕ)) → Type 0
  IsServed ups = NoneRefused ups ⊎ ((older_one ≡ []) × (older_two ≡ []))

  module _ (old called new : Net) (queue : List (CarriedUnit (List ℕ))) (waits : InNet old queue) (pair : ℕ × ℕ) (ups : List (Up (List ℕ)))
      (least : IsLeastFresh (net_link link_of old) (Some pair)) (arrives : Arrives link_of BagStep rows_tables old (Choose pair.0 pair.1 WasPicked) called)
      (new_is : new ≡ record called { waiting = [] }) (ups_is : ups ≡ called.waiting) (served : IsServed ups) (reached : Reached rows first second new) where
    abbrev one : Node Rows
    one = waits.reached.nodes.one

    abbrev two : Node Rows
    two = waits.reached.nodes.two

    told_is : ups ≡ arrives.told
    told_is = ups_is ∙ (ap (λ (n : Net). n.waiting) arrives.becomes ∙ ap (λ (us : List (Up (List ℕ))). us ++ arrives.told) waits.reached.quiet)

    -- what the LANs hand up is handled by the two systems
    module _ (arrival : Arrival Port) (frames : List Frame) (rises : (arrives.ups ≡ Came arrival ∷ []) × HasWaiting arrives.risen frames × IsAt old.link old.link.clock arrives.risen) where
      handles : Handles link_of BagStep rows_tables (clock_of old) arrives.risen (one ∷ two ∷ []) (Came arrival ∷ []) arrives.below arrives.nodes arrives.told
      handles =
          subst (λ (us : List (Up Port)). Handles link_of BagStep rows_tables (clock_of old) arrives.risen (one ∷ two ∷ []) us arrives.below arrives.nodes arrives.told) rises.0
          (subst (λ (ns : List (Node Rows)). Handles link_of BagStep rows_tables (clock_of old) arrives.risen ns arrives.ups arrives.below arrives.nodes arrives.told) waits.reached.nodes.are arrives.handles)

      is_handled : IsHandled (clock_of old) arrives.risen (one ∷ two ∷ []) arrival arrives.below arrives.nodes arrives.told
      is_handled = handled (clock_of old) arrives.risen (one ∷ two ∷ []) arrival arrives.below arrives.nodes arrives.told handles

      unrefused : ((older_one ≡ []) × (older_two ≡ []) → NoneRefused is_handled.reaction.ups) → NoneRefused is_handled.reaction.ups
      unrefused alone = elim served [
        | inl none ↦ is_handled.unrefused (subst NoneRefused told_is none)
        | inr empty ↦ alone empty
      ]

      -- where the system answers by no frame, these wait, and what it hands up is all that comes up
      module _ (silence : is_handled.reaction.frames ≡ []) where
        silent : (arrives.below ≡ arrives.risen) × (arrives.told ≡ is_handled.reaction.ups)
        silent = is_handled.silent silence

        comes_up : ups ≡ is_handled.reaction.ups
        comes_up = told_is ∙ silent.1

        leaves : (queue_left : List (CarriedUnit (List ℕ))) (ones twos : Node Rows) → arrives.nodes ≡ ones ∷ twos ∷ [] → Left ones.store.held twos.store.held queue_left frames → InNet new queue_left
        leaves queue_left ones twos nodes_are left =
            waits_on rows first second here there calm reports older_one older_two new queue_left reached ones twos frames (ap (λ (n : Net). n.nodes) new_is ∙ (ap (λ (n : Net). n.nodes) arrives.becomes ∙ nodes_are))
            (subst (λ (b : Bag). HasWaiting b frames) (sym (ap (λ (n : Net). n.link) new_is ∙ (ap (λ (n : Net). n.link) arrives.becomes ∙ silent.0))) rises.1) left

    -- ---- a frame for the second

    abbrev at_second : Frame → Arrival Port
    at_second frame = record { system = 1; unit = frame }

    abbrev RisesAtSecond : Frame → List Frame → Type 0
    RisesAtSecond frame frames = (arrives.ups ≡ Came (at_second frame) ∷ []) × HasWaiting arrives.risen frames × IsAt old.link old.link.clock arrives.risen

    rises_at_second : (frame : Frame) (rest : List Frame) → GoesOnlyTo rows frame 1 → HasWaiting old.link (frame ∷ rest) → RisesAtSecond frame rest
    rises_at_second frame rest only waiting =
        first_comes old.link frame rest waiting 1 (subst (λ (rs : List PortRow). GoesOnlyTo rs frame 1) (sym waits.reached.ports) only) pair least arrives.called arrives.risen arrives.ups arrives.calls
        arrives.gathers

    taken_by_second : (frame : Frame) (rest : List Frame) (rises : RisesAtSecond frame rest)
        → IsTakenBy (clock_of old) two frame (is_handled (at_second frame) rest rises).reaction arrives.nodes (λ after. one ∷ after ∷ [])
    taken_by_second frame rest rises =
        second_takes (clock_of old) one two (at_second frame) (is_handled (at_second frame) rest rises).reaction arrives.nodes
        (ap (λ (n : ℕ). n == 1) (ap (λ (s : Setting). s.system) waits.reached.nodes.one_is ∙ calm.first_at.system_is))
        (ap (λ (n : ℕ). n == 1) (ap (λ (s : Setting). s.system) waits.reached.nodes.two_is ∙ calm.second_at.system_is)) (is_handled (at_second frame) rest rises).received

    second_told : (frame : Frame) (rest : List Frame) (parts : List Part) → IsReport first there frame → one.store.held ≡ older_one → two.store.held ≡ older_two → Of parts queue rest
        → HasWaiting old.link (frame ∷ rest) → Hands titles InNet queue ups new
    second_told frame rest parts report one_is two_is are waiting =
        let rises = rises_at_second frame rest (to_second rows first second here there calm frame report.goes.from report.goes.to_is) waiting in
        let taken = taken_by_second frame rest rises in
        let end = ap (λ (s : Setting). s.end) waits.reached.nodes.two_is ∙ calm.second_at.end in
        let quiet = report_quiet two (clock_of old) frame report.pdu report.stands report.kind end (is_handled (at_second frame) rest rises).reaction taken.after taken.receives in
        Nothing (ap arrivals (comes_up (at_second frame) rest rises quiet.frames) ∙ quiet.units)
        (leaves (at_second frame) rest rises quiet.frames queue one taken.after taken.changed_is
        (NoneLeft parts one_is (quiet.held ∙ two_is) are))

    module _ (unit : CarriedUnit (List ℕ)) (units : List (CarriedUnit (List ℕ))) (frame : Frame) (rest : List Frame) (parts : List Part)
        (one_is : one.store.held ≡ older_one) (user : IsUser titles unit.to second.system) (are : Of parts units rest) (queue_is : queue ≡ unit ∷ units) where
      second_by : (left : List Frame) (rises : RisesAtSecond frame (left ++ rest)) (after : Node Rows) → AllByRecursion (IsFrameTo first there unit) left → arrives.nodes ≡ one ∷ after ∷ []
          → BringsBy (Bring rows_tables second unit older_two left) unit older_two left two (clock_of old) (is_handled (at_second frame) (left ++ rest) rises).reaction after → Hands titles InNet queue ups new
      second_by [] rises after go nodes_are whole =
          let silence = ap (λ (r : Reaction). r.frames) whole.comes in
          let held_is : after.store.held ≡ older_two = ap (λ (n : Node Rows). n.store.held) whole.after ∙ whole.others_are in
          First unit units two.setup.system queue_is (ap arrivals (comes_up (at_second frame) rest rises silence) ∙ ap (λ (r : Reaction). arrivals r.ups) whole.comes)
          (subst (λ (s : Setting). IsUser titles unit.to s.system) (sym waits.reached.nodes.two_is) user)
          (leaves (at_second frame) rest rises silence units one after nodes_are (NoneLeft parts one_is held_is are))
      second_by (next ∷ left) rises after go nodes_are brings =
          let held = brings.holds (unrefused (at_second frame) (next ∷ left ++ rest) rises (λ empty. brings.room empty.1 waits.reached.nodes.two_knows.room)) in
          let silence = ap (λ (r : Reaction). r.frames) held.quiet in
          let store_is : after.store ≡ held.store = ap (λ (n : Node Rows). n.store) held.after in
          Nothing (ap arrivals (comes_up (at_second frame) (next ∷ left ++ rest) rises silence) ∙ ap (λ (r : Reaction). arrivals r.ups) held.quiet)
          (leaves (at_second frame) (next ∷ left ++ rest) rises silence queue one after nodes_are
          (ToSecond unit units (next ∷ left) rest parts one_is
          (subst (λ (s : Holding). GoesIn titles first second there unit (next ∷ left) older_two s.held) (sym store_is)
          (record { user = user; frames_go = go; fewer = held.fewer; brings = held.next })) are queue_is refl))

    second_comes : (unit : CarriedUnit (List ℕ)) (units : List (CarriedUnit (List ℕ))) (frame : Frame) (left rest : List Frame) (parts : List Part)
        → one.store.held ≡ older_one → GoesIn titles first second there unit (frame ∷ left) older_two two.store.held → Of parts units rest → queue ≡ unit ∷ units
        → HasWaiting old.link (frame ∷ (left ++ rest)) → Hands titles InNet queue ups new
    second_comes unit units frame left rest parts one_is goes are queue_is waiting =
        let rises = rises_at_second frame (left ++ rest) (to_second rows first second here there calm frame goes.frames_go.0.from goes.frames_go.0.to) waiting in
        let taken = taken_by_second frame (left ++ rest) rises in
        second_by unit units frame rest parts one_is goes.user are queue_is left rises taken.after goes.frames_go.1 taken.changed_is
        (goes.brings two (clock_of old) (is_handled (at_second frame) (left ++ rest) rises).reaction taken.after waits.reached.nodes.two_is refl taken.receives)

    -- ---- a frame for the first

    abbrev at_first : Frame → Arrival Port
    at_first frame = record { system = 0; unit = frame }

    abbrev RisesAtFirst : Frame → List Frame → Type 0
    RisesAtFirst frame frames = (arrives.ups ≡ Came (at_first frame) ∷ []) × HasWaiting arrives.risen frames × IsAt old.link old.link.clock arrives.risen

    rises_at_first : (frame : Frame) (rest : List Frame) → GoesOnlyTo rows frame 0 → HasWaiting old.link (frame ∷ rest) → RisesAtFirst frame rest
    rises_at_first frame rest only waiting =
        first_comes old.link frame rest waiting 0 (subst (λ (rs : List PortRow). GoesOnlyTo rs frame 0) (sym waits.reached.ports) only) pair least arrives.called arrives.risen arrives.ups arrives.calls
        arrives.gathers

    taken_by_first : (frame : Frame) (rest : List Frame) (rises : RisesAtFirst frame rest)
        → IsTakenBy (clock_of old) one frame (is_handled (at_first frame) rest rises).reaction arrives.nodes (λ after. after ∷ two ∷ [])
    taken_by_first frame rest rises =
        first_takes (clock_of old) one two (at_first frame) (is_handled (at_first frame) rest rises).reaction arrives.nodes
        (ap (λ (n : ℕ). n == 0) (ap (λ (s : Setting). s.system) waits.reached.nodes.one_is ∙ calm.first_at.system_is)) (is_handled (at_first frame) rest rises).received

    first_told : (frame : Frame) (rest : List Frame) (parts : List Part) → IsReport second here frame → one.store.held ≡ older_one → two.store.held ≡ older_two → Of parts queue rest
        → HasWaiting old.link (frame ∷ rest) → Hands titles InNet queue ups new
    first_told frame rest parts report one_is two_is are waiting =
        let rises = rises_at_first frame rest (to_first rows first second here there calm frame report.goes.from report.goes.to_is) waiting in
        let taken = taken_by_first frame rest rises in
        let end = ap (λ (s : Setting). s.end) waits.reached.nodes.one_is ∙ calm.first_at.end in
        let quiet = report_quiet one (clock_of old) frame report.pdu report.stands report.kind end (is_handled (at_first frame) rest rises).reaction taken.after taken.receives in
        Nothing (ap arrivals (comes_up (at_first frame) rest rises quiet.frames) ∙ quiet.units)
        (leaves (at_first frame) rest rises quiet.frames queue taken.after two taken.changed_is
        (NoneLeft parts (quiet.held ∙ one_is) two_is are))

    module _ (unit : CarriedUnit (List ℕ)) (units : List (CarriedUnit (List ℕ))) (frame : Frame) (rest : List Frame) (parts : List Part)
        (two_is : two.store.held ≡ older_two) (user : IsUser titles unit.to first.system) (are : Of parts units rest) (queue_is : queue ≡ unit ∷ units) where
      first_by : (left : List Frame) (rises : RisesAtFirst frame (left ++ rest)) (after : Node Rows) → AllByRecursion (IsFrameTo second here unit) left → arrives.nodes ≡ after ∷ two ∷ []
          → BringsBy (Bring rows_tables first unit older_one left) unit older_one left one (clock_of old) (is_handled (at_first frame) (left ++ rest) rises).reaction after → Hands titles InNet queue ups new
      first_by [] rises after go nodes_are whole =
          let silence = ap (λ (r : Reaction). r.frames) whole.comes in
          let held_is : after.store.held ≡ older_one = ap (λ (n : Node Rows). n.store.held) whole.after ∙ whole.others_are in
          First unit units one.setup.system queue_is (ap arrivals (comes_up (at_first frame) rest rises silence) ∙ ap (λ (r : Reaction). arrivals r.ups) whole.comes)
          (subst (λ (s : Setting). IsUser titles unit.to s.system) (sym waits.reached.nodes.one_is) user)
          (leaves (at_first frame) rest rises silence units after two nodes_are (NoneLeft parts held_is two_is are))
      first_by (next ∷ left) rises after go nodes_are brings =
          let held = brings.holds (unrefused (at_first frame) (next ∷ left ++ rest) rises (λ empty. brings.room empty.0 waits.reached.nodes.one_knows.room)) in
          let silence = ap (λ (r : Reaction). r.frames) held.quiet in
          let store_is : after.store ≡ held.store = ap (λ (n : Node Rows). n.store) held.after in
          Nothing (ap arrivals (comes_up (at_first frame) (next ∷ left ++ rest) rises silence) ∙ ap (λ (r : Reaction). arrivals r.ups) held.quiet)
          (leaves (at_first frame) (next ∷ left ++ rest) rises silence queue after two nodes_are
          (ToFirst unit units (next ∷ left) rest parts two_is
          (subst (λ (s : Holding). GoesIn titles second first here unit (next ∷ left) older_one s.held) (sym store_is)
          (record { user = user; frames_go = go; fewer = held.fewer; brings = held.next })) are queue_is refl))

    first_comes_up : (unit : CarriedUnit (List ℕ)) (units : List (CarriedUnit (List ℕ))) (frame : Frame) (left rest : List Frame) (parts : List Part)
        → two.store.held ≡ older_two → GoesIn titles second first here unit (frame ∷ left) older_one one.store.held → Of parts units rest → queue ≡ unit ∷ units
        → HasWaiting old.link (frame ∷ (left ++ rest)) → Hands titles InNet queue ups new
    first_comes_up unit units frame left rest parts two_is goes are queue_is waiting =
        let rises = rises_at_first frame (left ++ rest) (to_first rows first second here there calm frame goes.frames_go.0.from goes.frames_go.0.to) waiting in
        let taken = taken_by_first frame (left ++ rest) rises in
        first_by unit units frame rest parts two_is goes.user are queue_is left rises taken.after goes.frames_go.1 taken.changed_is
        (goes.brings one (clock_of old) (is_handled (at_first frame) (left ++ rest) rises).reaction taken.after waits.reached.nodes.one_is refl taken.receives)

    -- ---- a choice

    by_front : Fronts old.link one.store.held two.store.held queue → Hands titles InNet queue ups new
    by_front (Nobodys queue_is waiting) = absurd (none_waits old.link pair waiting least)
    by_front (TellsSecond frame rest parts may report one_is two_is are waiting) = second_told frame rest parts report one_is two_is are waiting
    by_front (TellsFirst frame rest parts may report one_is two_is are waiting) = first_told frame rest parts report one_is two_is are waiting
    by_front (Seconds unit units frame left rest parts one_is goes are queue_is waiting) = second_comes unit units frame left rest parts one_is goes are queue_is waiting
    by_front (Firsts unit units frame left rest parts two_is goes are queue_is waiting) = first_comes_up unit units frame left rest parts two_is goes are queue_is waiting

    pub chosen_net : Hands titles InNet queue ups new
    chosen_net = by_front (front rows first second here there calm reports old.link waits.reached.ports older_one older_two one.store.held two.store.held queue waits.frames waits.left waits.waiting)

  -- where no pair is fresh, nothing waits
  module _ (old : Net) (queue : List (CarriedUnit (List ℕ))) (waits : InNet old queue) (none : IsLeastFresh (net_link link_of old) None) where
    never_second : (frame : Frame) (rest : List Frame) → GoesOnlyTo rows frame 1 → HasWaiting old.link (frame ∷ rest) → ⊥
    never_second frame rest only waiting = some_is_fresh old.link frame rest waiting 1 (subst (λ (rs : List PortRow). GoesOnlyTo rs frame 1) (sym waits.reached.ports) only) none

    never_first : (frame : Frame) (rest : List Frame) → GoesOnlyTo rows frame 0 → HasWaiting old.link (frame ∷ rest) → ⊥
    never_first frame rest only waiting = some_is_fresh old.link frame rest waiting 0 (subst (λ (rs : List PortRow). GoesOnlyTo rs frame 0) (sym waits.reached.ports) only) none

    none_front : Fronts old.link waits.reached.nodes.one.store.held waits.reached.nodes.two.store.held queue → queue ≡ []
    none_front (Nobodys queue_is waiting) = queue_is
    none_front (TellsSecond frame rest parts may report one_is two_is are waiting) =
        absurd (never_second frame rest (to_second rows first second here there calm frame report.goes.from report.goes.to_is) waiting)
    none_front (TellsFirst frame rest parts may report one_is two_is are waiting) = absurd (never_first frame rest (to_first rows first second here there calm frame report.goes.from report.goes.to_is) waiting)
    none_front (Seconds unit units frame left rest parts one_is goes are queue_is waiting) =
        absurd (never_second frame (left ++ rest) (to_second rows first second here there calm frame goes.frames_go.0.from goes.frames_go.0.to) waiting)
    none_front (Firsts unit units frame left rest parts two_is goes are queue_is waiting) =
        absurd (never_first frame (left ++ rest) (to_first rows first second here there calm frame goes.frames_go.0.from goes.frames_go.0.to) waiting)

    pub none_net : queue ≡ []
    none_net =
        none_front
        (front rows first second here there calm reports old.link waits.reached.ports older_one older_two waits.reached.nodes.one.store.held waits.reached.nodes.two.store.held queue waits.frames waits.left
        waits.waiting)
