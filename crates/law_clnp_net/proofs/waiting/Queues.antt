-- Parts that wait: one more stands behind the others; and the first frame that a system can take is that of the first part that brings something, or an error report.
use Rattle.std.proofs.Common.{◌≡◌, ◌⊎◌, inl, inr, ℕ, List, [], ◌∷◌, ◌++◌, map, Some, refl, sym, ◌∙◌, ap, subst, append_assoc, Bool, true}
use Rattle.std.proofs.lemmas.List.{append-nil}
use Rattle.std.specs.List.{AllByRecursion}
use Rattle.nsap.specs.declared.port.Port.{Port}
use Rattle.osi_base.specs.declared.unit.Unit.{Unit as CarriedUnit}
use Rattle.osi_base.proofs.Members.{all_both}
use Rattle.lan_step.specs.Bag.{Bag}
use Rattle.lan_step.specs.declared.row.PortRow.{PortRow}
use Rattle.clnp_segment.specs.Store.{Key, Partial}
use Rattle.clnp_segment.proofs.Lists.{same_some}
use Rattle.clnp_system.specs.Node.{Frame}
use Rattle.clnp_system.specs.Setting.{Setting, port_on}
use Rattle.law_clnp_net.specs.Calm.{IsCalmNet, end_row, titles_of}
use Rattle.law_clnp_net.specs.Frames.{GoesNowhere, GoesOnlyTo, HasWaiting, IsSpent, sent_at}
use Rattle.law_clnp_net.proofs.Addresses.{turned}
use Rattle.law_clnp_net.proofs.Both.{group_goes_nowhere}
use Rattle.law_clnp_net.proofs.Ports.{goes_to_second}
use Rattle.law_clnp_net.proofs.Sent.{port_is}
use Rattle.law_clnp_net.proofs.Spent.{spent_at_once}
use Rattle.law_clnp_net.specs.Joining.{HasNone}
use Rattle.law_clnp_net.specs.Waiting.{AreLeft, AreOf, Carrying, GoesAcross, GoesIn, Greets, Idle, IsIdle, IsReport, NoneLeft, Part, ReportsToFirst, ReportsToSecond, ToFirst, ToSecond}

-- what is held of others is no more
abbrev pub IsFewer : List Partial → List Partial → Type 0
IsFewer held others = (key : Key) → HasNone key held → HasNone key others

module _ (rows : List PortRow) (first second : Setting) (here there : Port) (calm : IsCalmNet rows first second here there) where
  -- ---- where frames go

  pub to_second : (frame : Frame) → port_on first there.lan ≡ Some frame.from → frame.to ≡ there → GoesOnlyTo rows frame 1
  to_second frame from to =
      goes_to_second 0 1 here there (record { systems = refl; lan = calm.lan; snpas = calm.snpas; single = calm.second_at.single }) frame from_is to rows calm.ports
    where
      from_is : frame.from ≡ here
      from_is = same_some frame.from here (sym from ∙ (ap (port_on first) (sym calm.lan) ∙ port_is first 0 here calm.first_at))

  pub to_first : (frame : Frame) → port_on second here.lan ≡ Some frame.from → frame.to ≡ here → GoesOnlyTo rows frame 0
  to_first frame from to =
      goes_to_second 1 0 there here (record { systems = refl; lan = sym calm.lan; snpas = turned there.snpa here.snpa ∙ calm.snpas; single = calm.first_at.single }) frame from_is to rows
      (other_way calm.ports)
    where
      from_is : frame.from ≡ there
      from_is = same_some frame.from there (sym from ∙ (ap (port_on second) calm.lan ∙ port_is second 1 there calm.second_at))

      other_way : (rows ≡ end_row 0 here ∷ end_row 1 there ∷ []) ⊎ (rows ≡ end_row 1 there ∷ end_row 0 here ∷ []) → (rows ≡ end_row 1 there ∷ end_row 0 here ∷ []) ⊎ (rows ≡ end_row 0 here ∷ end_row 1 there ∷ [])
      other_way (inl is) = inr is
      other_way (inr is) = inl is

module _ (rows : List PortRow) (first second : Setting) (here there : Port) (calm : IsCalmNet rows first second here there) (reports : Bool) where
  abbrev titles : List (List ℕ)
  titles = titles_of first second

  abbrev Of : List Partial → List Partial → List Part → List (CarriedUnit (List ℕ)) → List Frame → Type 0
  Of = AreOf reports titles first second here there

  abbrev Across : List Partial → List Partial → CarriedUnit (List ℕ) → List Frame → Type 0
  Across = GoesAcross reports titles first second here there

  abbrev Left : List Partial → List Partial → List Partial → List Partial → List (CarriedUnit (List ℕ)) → List Frame → Type 0
  Left = AreLeft reports titles first second here there

  abbrev Passes : Frame → Type 0
  Passes = IsIdle reports titles first second here there

  -- ---- one unit more behind the others

  of_behind : (one two : List Partial) (parts : List Part) (queue : List (CarriedUnit (List ℕ))) (frames : List Frame) (unit : CarriedUnit (List ℕ)) (own : List Frame) → Of one two parts queue frames
      → Across one two unit own → Of one two (parts ++ Carrying unit own ∷ []) (queue ++ unit ∷ []) (frames ++ own)
  of_behind one two [] queue frames unit own are goes = (
    [],
    [],
    goes,
    (refl, refl),
    ap (λ (us : List (CarriedUnit (List ℕ))). us ++ unit ∷ []) are.0,
    ap (λ (fs : List Frame). fs ++ own) are.1 ∙ sym (append-nil own),
  )
  of_behind one two (Carrying other its ∷ parts) queue frames unit own are goes = (
    are.0 ++ unit ∷ [],
    are.1 ++ own,
    are.2,
    of_behind one two parts are.0 are.1 unit own are.3 goes,
    ap (λ (us : List (CarriedUnit (List ℕ))). us ++ unit ∷ []) are.4,
    ap (λ (fs : List Frame). fs ++ own) are.5 ∙ append_assoc its are.1 own,
  )
  of_behind one two (Idle frame ∷ parts) queue frames unit own are goes = (
    are.0 ++ own,
    are.1,
    of_behind one two parts queue are.0 unit own are.2 goes,
    ap (λ (fs : List Frame). fs ++ own) are.3,
  )

  -- what is held holds the older ones at least
  same_fewer : (held older : List Partial) → held ≡ older → IsFewer held older
  same_fewer held older same key none = subst (HasNone key) same none

  pub left_behind : (older_one older_two one two : List Partial) (queue : List (CarriedUnit (List ℕ))) (frames : List Frame) (unit : CarriedUnit (List ℕ)) (own : List Frame)
      → Left older_one older_two one two queue frames → (IsFewer one older_one → IsFewer two older_two → Across older_one older_two unit own)
      → Left older_one older_two one two (queue ++ unit ∷ []) (frames ++ own)
  left_behind older_one older_two one two queue frames unit own (NoneLeft parts one_is two_is are) goes =
      NoneLeft (parts ++ Carrying unit own ∷ []) one_is two_is
      (of_behind older_one older_two parts queue frames unit own are (goes (same_fewer one older_one one_is) (same_fewer two older_two two_is)))
  left_behind older_one older_two one two queue frames unit own (ToSecond last units left rest parts one_is brings are queue_is frames_is) goes =
      ToSecond last (units ++ unit ∷ []) left (rest ++ own) (parts ++ Carrying unit own ∷ []) one_is brings
      (of_behind older_one older_two parts units rest unit own are (goes (same_fewer one older_one one_is) brings.fewer))
      (ap (λ (us : List (CarriedUnit (List ℕ))). us ++ unit ∷ []) queue_is) (ap (λ (fs : List Frame). fs ++ own) frames_is ∙ append_assoc left rest own)
  left_behind older_one older_two one two queue frames unit own (ToFirst last units left rest parts two_is brings are queue_is frames_is) goes =
      ToFirst last (units ++ unit ∷ []) left (rest ++ own) (parts ++ Carrying unit own ∷ []) two_is brings
      (of_behind older_one older_two parts units rest unit own are (goes brings.fewer (same_fewer two older_two two_is)))
      (ap (λ (us : List (CarriedUnit (List ℕ))). us ++ unit ∷ []) queue_is) (ap (λ (fs : List Frame). fs ++ own) frames_is ∙ append_assoc left rest own)

  -- ---- frames that bring no unit

  pub all_idle : (one two : List Partial) (frames : List Frame) → AllByRecursion Passes frames → Of one two (map Idle frames) [] frames
  all_idle one two [] idle = (refl, refl)
  all_idle one two (frame ∷ frames) idle = (frames, idle.0, all_idle one two frames idle.1, refl)

  -- one that goes to no system does not wait
  skipped : (bag : Bag) (frame : Frame) (frames : List Frame) → bag.rows ≡ rows → HasWaiting bag (frame ∷ frames) → GoesNowhere rows frame → HasWaiting bag frames
  skipped bag frame frames ports waits nowhere = record {
    spent = waits.spent ++ sent_at bag.clock frame ∷ [];
    stands = waits.stands ∙ sym (append_assoc waits.spent (sent_at bag.clock frame ∷ []) (map (sent_at bag.clock) frames));
    are_spent =
        all_both (IsSpent bag.clock bag.lans bag.rows) waits.spent (sent_at bag.clock frame ∷ []) waits.are_spent
        (spent_at_once bag.clock bag.lans bag.rows frame (subst (λ (rs : List PortRow). GoesNowhere rs frame) (sym ports) nowhere), tt);
    quiet = waits.quiet;
  }

  -- ---- the first frame that waits

  -- none; an error report; or a frame of the first unit, to the one or the other
  pub data Front (bag : Bag) (older_one older_two one two : List Partial) (queue : List (CarriedUnit (List ℕ))) : Type 0 where
    Nobodys : queue ≡ [] → HasWaiting bag [] → Front bag older_one older_two one two queue
    TellsSecond : (frame : Frame) (rest : List Frame) (parts : List Part) → reports ≡ true → IsReport first there frame → one ≡ older_one → two ≡ older_two → Of older_one older_two parts queue rest
        → HasWaiting bag (frame ∷ rest) → Front bag older_one older_two one two queue
    TellsFirst : (frame : Frame) (rest : List Frame) (parts : List Part) → reports ≡ true → IsReport second here frame → one ≡ older_one → two ≡ older_two → Of older_one older_two parts queue rest
        → HasWaiting bag (frame ∷ rest) → Front bag older_one older_two one two queue
    Seconds : (unit : CarriedUnit (List ℕ)) (units : List (CarriedUnit (List ℕ))) (frame : Frame) (left rest : List Frame) (parts : List Part) → one ≡ older_one
        → GoesIn titles first second there unit (frame ∷ left) older_two two → Of older_one older_two parts units rest → queue ≡ unit ∷ units → HasWaiting bag (frame ∷ (left ++ rest))
        → Front bag older_one older_two one two queue
    Firsts : (unit : CarriedUnit (List ℕ)) (units : List (CarriedUnit (List ℕ))) (frame : Frame) (left rest : List Frame) (parts : List Part) → two ≡ older_two
        → GoesIn titles second first here unit (frame ∷ left) older_one one → Of older_one older_two parts units rest → queue ≡ unit ∷ units → HasWaiting bag (frame ∷ (left ++ rest))
        → Front bag older_one older_two one two queue

  module _ (bag : Bag) (ports : bag.rows ≡ rows) (older_one older_two one two : List Partial) where
    abbrev Fronts : List (CarriedUnit (List ℕ)) → Type 0
    Fronts = Front bag older_one older_two one two

    front_to_second : (queue : List (CarriedUnit (List ℕ))) (unit : CarriedUnit (List ℕ)) (units : List (CarriedUnit (List ℕ))) (left rest : List Frame) (parts : List Part)
        → one ≡ older_one → GoesIn titles first second there unit left older_two two → Of older_one older_two parts units rest → queue ≡ unit ∷ units → HasWaiting bag (left ++ rest) → Fronts queue
    front_to_second queue unit units [] rest parts one_is goes are queue_is waits = absurd goes.brings
    front_to_second queue unit units (frame ∷ left) rest parts one_is goes are queue_is waits = Seconds unit units frame left rest parts one_is goes are queue_is waits

    front_to_first : (queue : List (CarriedUnit (List ℕ))) (unit : CarriedUnit (List ℕ)) (units : List (CarriedUnit (List ℕ))) (left rest : List Frame) (parts : List Part)
        → two ≡ older_two → GoesIn titles second first here unit left older_one one → Of older_one older_two parts units rest → queue ≡ unit ∷ units → HasWaiting bag (left ++ rest) → Fronts queue
    front_to_first queue unit units [] rest parts two_is goes are queue_is waits = absurd goes.brings
    front_to_first queue unit units (frame ∷ left) rest parts two_is goes are queue_is waits = Firsts unit units frame left rest parts two_is goes are queue_is waits

    module _ (one_is : one ≡ older_one) (two_is : two ≡ older_two) where
      front_of : (parts : List Part) (queue : List (CarriedUnit (List ℕ))) (frames : List Frame) → Of older_one older_two parts queue frames → HasWaiting bag frames → Fronts queue
      front_of [] queue frames are waits = Nobodys are.0 (subst (HasWaiting bag) are.1 waits)
      front_of (Carrying unit own ∷ parts) queue frames are waits = by are.2
        where
          there_wait : HasWaiting bag (own ++ are.1)
          there_wait = subst (HasWaiting bag) are.5 waits

          by : Across older_one older_two unit own → Fronts queue
          by (inl goes) =
              front_to_second queue unit are.0 own are.1 parts one_is (subst (λ (held : List Partial). GoesIn titles first second there unit own older_two held) (sym two_is) goes) are.3 are.4 there_wait
          by (inr goes) =
              front_to_first queue unit are.0 own are.1 parts two_is (subst (λ (held : List Partial). GoesIn titles second first here unit own older_one held) (sym one_is) goes) are.3 are.4 there_wait
      front_of (Idle frame ∷ parts) queue frames are waits = by (λ waits_then. front_of parts queue are.0 are.2 waits_then) are.1
        where
          there_wait : HasWaiting bag (frame ∷ are.0)
          there_wait = subst (HasWaiting bag) are.3 waits

          by : (HasWaiting bag are.0 → Fronts queue) → Passes frame → Fronts queue
          by rest (ReportsToSecond may report) = TellsSecond frame are.0 parts may report one_is two_is are.2 there_wait
          by rest (ReportsToFirst may report) = TellsFirst frame are.0 parts may report one_is two_is are.2 there_wait
          by rest (Greets group) = rest (skipped bag frame are.0 ports there_wait (group_goes_nowhere rows first second here there calm frame group))

    pub front : (queue : List (CarriedUnit (List ℕ))) (frames : List Frame) → Left older_one older_two one two queue frames → HasWaiting bag frames → Fronts queue
    front queue frames (NoneLeft parts one_is two_is are) waits = front_of one_is two_is parts queue frames are waits
    front queue frames (ToSecond unit units left rest parts one_is goes are queue_is frames_is) waits =
        front_to_second queue unit units left rest parts one_is goes are queue_is (subst (HasWaiting bag) frames_is waits)
    front queue frames (ToFirst unit units left rest parts two_is goes are queue_is frames_is) waits =
        front_to_first queue unit units left rest parts two_is goes are queue_is (subst (HasWaiting bag) frames_is waits)
