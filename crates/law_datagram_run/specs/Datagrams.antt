-- A network whose users send one another datagrams, which a script runs once it is set up.
use Rattle.std.specs.Prelude.{◌≡◌, ℕ, List, [], None, Some, slice_get}
use Rattle.osi_base.specs.Link.{Link}
use Rattle.osi_base.specs.Calls.{Call}
use Rattle.cltp.specs.Run.{RunsCall, Sending, Delivering, Ticking, Settling, Starts}
use Rattle.cltp.specs.Systems.{World}
use Rattle.cltp.specs.declared.sending.Request.{Request}
use Rattle.script_journal.specs.declared.event.Event.{Event}
use Rattle.script_lines.specs.declared.words.Dialect.TheVariants as dialects
use Rattle.script_lines.specs.declared.line.Line.{Line}
use Rattle.script_lines.specs.declared.line.Line.TheVariants as lines
use Rattle.script_setup.specs.SetUp.{SetUp, titles_of}
use Rattle.script_world.specs.Plays.{Playing}
use Rattle.tp4_world.specs.Run.{transport_address}
use Rattle.law_datagram_run.specs.Users.{users_of}

-- the titles of the systems by their numbers, the lifetime of their PDUs, and the network with its users
pub record DatagramRun (N : Type 0) : Type 0 where
  pub titles : List (List ℕ)
  pub life : ℕ
  pub world : World N

-- what a line asks to send: from the one selector to the other, at the address of the receiver's title for transport
abbrev pub request_for : List ℕ → List ℕ → List ℕ → List ℕ → Request
request_for selector receiver called octets = record { from_selector = selector; to = transport_address receiver; to_selector = called; octets = octets }

module _ {N : Type 0} (link : N → Link (List ℕ)) (steps : N → Call (List ℕ) → N → Type 0) where
  -- what a line does to the network
  abbrev pub RunsLine : List (List ℕ) → World N → Line → List Event → World N → Type 0
  RunsLine titles old lines.Nothing made new = (made ≡ []) × (new ≡ old)
  RunsLine titles old (lines.Send system selector to called octets) made new =
      (receiver : List ℕ) × (slice_get titles to ≡ Some receiver) × RunsCall link steps old (Sending system (request_for selector receiver called octets)) made new
  RunsLine titles old lines.Tick made new = RunsCall link steps old Ticking made new
  RunsLine titles old lines.Settle made new = RunsCall link steps old Settling made new
  RunsLine titles old (lines.Deliver number system) made new = RunsCall link steps old (Delivering number system) made new
  RunsLine titles old line made new = ⊥

  abbrev pub RunsDatagrams : DatagramRun N → Line → List Event → DatagramRun N → Type 0
  RunsDatagrams old line made new = (world : World N) × RunsLine old.titles old.world line made world × (new ≡ record old { world = world })

module _ {N : Type 0} (link : N → Link (List ℕ)) (steps : N → Call (List ℕ) → N → Type 0) (makes : SetUp → N → Type 0) where
  -- the network is made with the users of its end systems, and what it tells at tick 0 is told
  abbrev pub StartsDatagrams : SetUp → List Event → DatagramRun N → Type 0
  StartsDatagrams setup made new =
      (net : N) × (first : World N) × makes setup net × Starts link steps net (users_of setup) made first
      × (new ≡ record { titles = titles_of setup; life = setup.life; world = first })

  -- nothing can be injected, so no arrival is a stray
  abbrev pub cl_play : Playing (DatagramRun N)
  cl_play = record { dialect = dialects.Datagrams; starts = StartsDatagrams; step = RunsDatagrams link steps; strays = λ run. None }
