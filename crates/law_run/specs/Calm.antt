-- What a calm script promises the users of its network (X.214, service primitives; queue model of the transport service). A script is calm where two end systems
-- are on one LAN, and each line that does something is followed by a `settle` (`IsCalmScript` of `law_tp4_pair`). As long as nothing was dropped and no settling
-- stopped at its number, nothing is missing then.
use Rattle.std.specs.Prelude.{◌≡◌, ℕ, List, [], ◌∷◌, ◌++◌, Ok, Some}
use Rattle.std.specs.List.{AllByRecursion, Contains}
use Rattle.script_journal.specs.Partner.{AreEnds}
use Rattle.script_journal.specs.declared.event.Event.{Event}
use Rattle.script_journal.specs.declared.event.Event.TheVariants as events
use Rattle.script_journal.specs.declared.event.Indication.{Indication}
use Rattle.script_journal.specs.declared.event.Request.{Request}
use Rattle.script_lines.specs.declared.line.Line.{Line}
use Rattle.script_lines.specs.declared.line.Line.TheVariants as lines
use Rattle.tpdu.specs.declared.service.Options.{Options}
use Rattle.script_lines.specs.Grammar.{line_read}
use Rattle.script_lines.specs.Known.{Declared, nothing_declared}
use Rattle.script_lines.specs.Script.{Says}
use Rattle.law_tp4_pair.specs.CalmScript.{IsCalmScript}
use Rattle.law_tp4_pair.specs.Claim.{AllShown, IsUndropped}
use Rattle.tp4_entity.specs.Entity.{Entity}
use Rattle.tp4_world.specs.World.{entity_at}
use Rattle.law_calm_run.specs.Service.{IsIndicationOf, MayIndicate, end_at_number}
use Rattle.law_calm_run.specs.Confirms.{IsUnanswered}
use Rattle.script_lines.specs.declared.words.Dialect.TheVariants as dialects
use Rattle.law_run.specs.World.{TransportNet, World, WorldRun, WorldRuns, WorldStep, link_of_net, running}
use Rattle.tp4_conn.specs.declared.timers.Timers.{Timers}
use Rattle.tpdu.specs.declared.service.EndTold.TheVariants as tells

-- the texts are the lines of a calm script, and by the run of the network they have this journal and lead to this network
pub record RunsCalmly (texts : List (List ℕ)) (script : List Line) (names : Declared) (journal : List Event) (titles : List (List ℕ)) (last : TransportNet) : Type 0 where
  pub says : Says (nothing_declared dialects.Run) texts script names
  pub timers : Timers
  pub run : WorldRun script journal (running titles timers last)
  pub calm : IsCalmScript script

-- one line more, whose own event is this, and the `settle` behind it; lines that do nothing may stand between. Nothing was dropped from the start on
pub record ActsCalmly (titles : List (List ℕ)) (before : List Event) (old : TransportNet) (line : Line) (own : Event) (later : List Event) (between : TransportNet) (settled : List Event) (last : World) : Type 0 where
  pub idle : List Line
  pub are_idle : AllByRecursion (λ idle_line. idle_line ≡ lines.Nothing) idle
  pub timers : Timers
  pub acts : WorldStep (running titles timers old) line (own ∷ later) (running titles timers between)
  pub settles : WorldRuns (running titles timers between) (idle ++ lines.Settle ∷ []) settled last
  pub undropped : AllByRecursion IsUndropped (before ++ own ∷ (later ++ settled))

-- a `connect` that was taken has its `incoming` in the `settle` behind it, with its addresses, selectors and octets, where the called system has its selector registered and a reference free, and
-- no end for that calling address and reference, a frozen one included
abbrev pub ConnectsAreIndicated : Declared → List Event → List (List ℕ) → TransportNet → Type 0
ConnectsAreIndicated names before titles old = (new : Declared) (between : TransportNet) (text : List ℕ) (system to : ℕ) (selector called octets : List ℕ) (options : Options)
    → line_read names text ≡ Ok (record { line = lines.Connect system selector to called options octets; names = new })
    → (asked : Request) (later settled : List Event) (last : World)
    → ActsCalmly titles before old (lines.Connect system selector to called options octets) (events.Connect asked) later between settled last
    → (entity : Entity) → entity_at between.entities to ≡ Some entity → MayIndicate (link_of_net between.carrier).clock entity asked.calling asked.reference called
    → (heard : Indication) × Contains settled (events.Incoming heard) × IsIndicationOf asked heard

-- an `accept` that was taken has its `confirm` in the `settle` behind it, with what was agreed and its octets, where the calling end waited for the answer
abbrev pub AcceptsAreConfirmed : Declared → List Event → List (List ℕ) → TransportNet → Type 0
AcceptsAreConfirmed names before titles old = (new : Declared) (between : TransportNet) (text : List ℕ) (calling called : ℕ) (options agreed : Options) (octets : List ℕ)
    → line_read names text ≡ Ok (record { line = lines.Accept called options octets; names = new }) → AreEnds before calling called → IsUnanswered old calling
    → (later settled : List Event) (last : World) → ActsCalmly titles before old (lines.Accept called options octets) (events.End called (tells.Accept agreed octets)) later between settled last
    → Contains settled (events.End calling (tells.Confirm agreed octets))

-- The network serves its users after these lines. As long as nothing was dropped: each two partner ends that are both Opened have shown all that the other submitted,
-- of expedited and of normal units, but for a number that the number rule holds back at that tick, which has its `held` line, or, of normal units, for want of
-- credit; and the next line, where it is a connect or an accept, has its indication, its confirm
pub record ServesUsers (names : Declared) (journal : List Event) (titles : List (List ℕ)) (last : TransportNet) : Type 0 where
  pub shown : AllByRecursion IsUndropped journal → AllShown (link_of_net last.carrier).clock journal (end_at_number last)
  pub indicated : ConnectsAreIndicated names journal titles last
  pub confirmed : AcceptsAreConfirmed names journal titles last
