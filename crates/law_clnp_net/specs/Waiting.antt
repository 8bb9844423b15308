-- What waits in a network of two end systems on one LAN, beside what is held of older units: units in the order in which they were sent, each in its frames, and frames that
-- bring no unit between them (X.213, queue model of the network connectionless-mode service).
use Rattle.std.specs.Prelude.{◌≡◌, ◌⊎◌, ℕ, Bool, true, false, List, [], ◌∷◌, ◌++◌}
use Rattle.std.specs.List.{AllByRecursion}
use Rattle.nsap.specs.declared.port.Port.{Port}
use Rattle.osi_base.specs.declared.unit.Unit.{Unit as CarriedUnit}
use Rattle.clnp_options.specs.declared.reason.PduKind.TheVariants.{Er}
use Rattle.clnp_header.specs.declared.pdu.Pdu.{Pdu}
use Rattle.clnp_segment.specs.Store.{Key, Partial}
use Rattle.lan_step.specs.Bag.{Bag}
use Rattle.lan_step.specs.declared.row.PortRow.{PortRow}
use Rattle.esis_tables.specs.Rows.{Rows}
use Rattle.clnp_system.specs.Node.{Frame}
use Rattle.clnp_system.specs.Setting.{Setting, all_intermediates}
use Rattle.clnp_system.specs.Tables.{rows_tables}
use Rattle.clnp_system.specs.Written.{GoesTo, HasPdu}
use Rattle.law_clnp_step.specs.Network.{Network}
use Rattle.net_world.specs.Fifo.{IsUser}
use Rattle.law_clnp_net.specs.Cutting.{IsFrameTo}
use Rattle.law_clnp_net.specs.Frames.{HasWaiting}
use Rattle.law_clnp_net.specs.Calm.{titles_of}
use Rattle.law_clnp_net.specs.Joining.{Bring, HasNone}
use Rattle.law_clnp_net.specs.Reached.{ReachedBy}

-- an error report from the one system to the port of the other
pub record IsReport (setting : Setting) (to : Port) (frame : Frame) : Type 0 where
  pub goes : GoesTo setting to frame
  pub pdu : Pdu
  pub stands : HasPdu frame.octets pdu
  pub kind : pdu.kind ≡ Er

-- what a unit from the one system to users of the other goes in, where that one holds so: once it came, the others alone are held
pub record GoesIn (titles : List (List ℕ)) (setting other : Setting) (to : Port) (unit : CarriedUnit (List ℕ)) (frames : List Frame) (others held : List Partial) : Type 0 where
  pub user : IsUser titles unit.to other.system
  pub frames_go : AllByRecursion (IsFrameTo setting to unit) frames
  pub fewer : (key : Key) → HasNone key held → HasNone key others
  pub brings : Bring rows_tables other unit others frames held

-- what waits, one after another: a unit in its frames, or a frame that brings none
pub data Part : Type 0 where
  Carrying : CarriedUnit (List ℕ) → List Frame → Part
  Idle : Frame → Part

-- `reports`: whether error reports may wait
module _ (reports : Bool) (titles : List (List ℕ)) (first second : Setting) (here there : Port) where
  -- an error report between the two, or a hello to all intermediate systems
  pub data IsIdle (frame : Frame) : Type 0 where
    ReportsToSecond : reports ≡ true → IsReport first there frame → IsIdle frame
    ReportsToFirst : reports ≡ true → IsReport second here frame → IsIdle frame
    Greets : frame.to.snpa ≡ all_intermediates → IsIdle frame

  -- a unit that goes from the first to the second, or from the second to the first, where they hold so
  abbrev pub GoesAcross : List Partial → List Partial → CarriedUnit (List ℕ) → List Frame → Type 0
  GoesAcross one two unit frames = GoesIn titles first second there unit frames two two ⊎ GoesIn titles second first here unit frames one one

  -- these units wait in these frames
  abbrev pub AreOf : List Partial → List Partial → List Part → List (CarriedUnit (List ℕ)) → List Frame → Type 0
  AreOf one two [] queue frames = (queue ≡ []) × (frames ≡ [])
  AreOf one two (Carrying unit own ∷ parts) queue frames =
      (units : List (CarriedUnit (List ℕ))) × (rest : List Frame) × GoesAcross one two unit own × AreOf one two parts units rest × (queue ≡ unit ∷ units) × (frames ≡ own ++ rest)
  AreOf one two (Idle frame ∷ parts) queue frames = (rest : List Frame) × IsIdle frame × AreOf one two parts queue rest × (frames ≡ frame ∷ rest)

  -- so it is with these units, where beside these older ones of the first a part may have come, which its receiver holds
  pub data AreLeft (older_one older_two one two : List Partial) (queue : List (CarriedUnit (List ℕ))) (frames : List Frame) : Type 0 where
    NoneLeft : (parts : List Part) → one ≡ older_one → two ≡ older_two → AreOf older_one older_two parts queue frames → AreLeft older_one older_two one two queue frames
    ToSecond : (unit : CarriedUnit (List ℕ)) (units : List (CarriedUnit (List ℕ))) (left rest : List Frame) (parts : List Part) → one ≡ older_one
        → GoesIn titles first second there unit left older_two two → AreOf older_one older_two parts units rest → queue ≡ unit ∷ units → frames ≡ left ++ rest
        → AreLeft older_one older_two one two queue frames
    ToFirst : (unit : CarriedUnit (List ℕ)) (units : List (CarriedUnit (List ℕ))) (left rest : List Frame) (parts : List Part) → two ≡ older_two
        → GoesIn titles second first here unit left older_one one → AreOf older_one older_two parts units rest → queue ≡ unit ∷ units → frames ≡ left ++ rest
        → AreLeft older_one older_two one two queue frames

  -- between two calls these units wait, in the frames that no system has taken, where the systems hold these older ones
  pub record WaitsBeside (rows : List PortRow) (older_one older_two : List Partial) (net : Network Bag Rows) (queue : List (CarriedUnit (List ℕ))) : Type 0 where
    pub reached : ReachedBy titles first second rows net
    pub frames : List Frame
    pub waiting : HasWaiting net.link frames
    pub left : AreLeft older_one older_two reached.nodes.one.store.held reached.nodes.two.store.held queue frames

-- what waits in such a network, whatever is held of older units
abbrev pub Waits : List PortRow → Setting → Setting → Port → Port → Network Bag Rows → List (CarriedUnit (List ℕ)) → Type 0
Waits rows first second here there net queue = (older_one older_two : List Partial) × WaitsBeside true (titles_of first second) first second here there rows older_one older_two net queue

-- what waits in one that lost nothing: of older units nothing is held, and there is nothing to report
abbrev pub WaitsIn : List PortRow → Setting → Setting → Port → Port → Network Bag Rows → List (CarriedUnit (List ℕ)) → Type 0
WaitsIn rows first second here there = WaitsBeside false (titles_of first second) first second here there rows [] []
