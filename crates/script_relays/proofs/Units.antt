-- At each front of the journal of a script what a relay submits at one end of a pair is a front of what the other end showed: each event may come in a journal in
-- which a relay takes part, at the start and after each line.
use Rattle.std.proofs.Common.{◌≡◌, ℕ, Bool, true, false, List, [], ◌∷◌, ◌++◌, length, Ok, refl, sym, ◌∙◌, ap, subst, append_assoc}
use Rattle.std.proofs.lemmas.List.{append-nil}
use Rattle.osi_base.specs.Link.{Link}
use Rattle.osi_base.specs.Calls.{Call, Keeps}
use Rattle.script_journal.specs.declared.event.Event.{Event}
use Rattle.script_journal.specs.declared.event.Event.TheVariants as events
use Rattle.script_lines.proofs.CommandLines.{line_has, line_stays}
use Rattle.script_lines.specs.Commands.{HasLine}
use Rattle.script_lines.specs.declared.words.Dialect.{Dialect}
use Rattle.script_lines.specs.declared.words.Dialect.TheVariants as dialects
use Rattle.script_lines.specs.declared.line.Line.{Line}
use Rattle.script_lines.specs.Known.{Declared, nothing_declared}
use Rattle.script_lines.specs.Script.{Says}
use Rattle.script_setup.specs.Fitting.{IsWell}
use Rattle.script_setup.specs.SetUp.{SetUp, nothing_said, set_up, timers_of, titles_of}
use Rattle.law_setup.specs.Entities.{entities_of}
use Rattle.script_setup.proofs.Wellness.{nothing_well, well_after}
use Rattle.law_setup.specs.Agreeing.{AreOne}
use Rattle.law_setup.specs.Lines.{Kept as IsKept}
use Rattle.law_setup.proofs.Kept.{line_kept}
use Rattle.script_bench.specs.Acts.{Acts, RunsScript}
use Rattle.script_bench.specs.Script.{started_after}
use Rattle.script_bench.specs.steps.Moves.{line_moves, starts_not}
use Rattle.script_world.specs.Plays.{SetsUp, StartsUp, is_start, world_acts}
use Rattle.script_world.specs.declared.play.World.{World as ScriptWorld}
use Rattle.script_world.specs.declared.play.World.TheVariants.{SettingUp, Running}
use Rattle.tp4_conn.specs.declared.timers.Timers.{Timers}
use Rattle.tp4_relay.specs.declared.row.RelayRow.{RelayRow}
use Rattle.tp4_relay.specs.Allowed.{AreAllowed}
use Rattle.tp4_relay.specs.Kept.{Kept, kept_after, noted, nothing_kept}
use Rattle.tp4_relay.specs.Relaying.{Relays, RelaysUnits}
use Rattle.tp4_relay.proofs.Carried.{line_allowed}
use Rattle.tp4_relay.proofs.Commuting.{allowed_more}
use Rattle.tp4_relay.proofs.Journals.{front_allowed, nothing_stands, relays_units, stands_after}
use Rattle.tp4_world.specs.Run.{Starts}
use Rattle.tp4_world.specs.World.{World}
use Rattle.law_relay.specs.Relays.{RelayRun, relay_play}
use Rattle.law_relay.specs.Rows.{rows_of}
use Rattle.law_relay.proofs.Begun.{first_plays}
use Rattle.law_relay.proofs.Linking.{AreNotes, IsNote, notes_walk, told_notes}
use Rattle.law_relay.proofs.Playing.{Plays}
use Rattle.law_relay.proofs.Running.{line_plays}
use Rattle.law_relay.proofs.Walks.{after_append}
use Rattle.script_relays.proofs.Joins.{relays}
use Rattle.tpdu.specs.declared.service.EndTold.TheVariants as tells

-- ---- before the first line

-- what is told of no end changes nothing of a relay that kept nothing
note_nothing : (rows : List RelayRow) (rules : Timers) (event : Event) → IsNote event → noted (nothing_kept rows rules) event ≡ nothing_kept rows rules
note_nothing rows rules (events.Incoming heard) is = absurd is
note_nothing rows rules (events.End end (tells.Accept options octets)) is = absurd is
note_nothing rows rules (events.End end (tells.Confirm options octets)) is = absurd is
note_nothing rows rules (events.Data end octets) is = absurd is
note_nothing rows rules (events.End end (tells.Got octets)) is = absurd is
note_nothing rows rules (events.Expedite end octets) is = absurd is
note_nothing rows rules (events.End end (tells.Urgent octets)) is = absurd is
note_nothing rows rules (events.Refuse end octets) is = absurd is
note_nothing rows rules (events.Disconnect end octets) is = absurd is
note_nothing rows rules (events.End end (tells.Gone cause octets)) is = absurd is
note_nothing rows rules (events.End end (tells.Window credit)) is = absurd is
note_nothing rows rules (events.Joined inbound outbound) is = absurd is
note_nothing rows rules event is = refl

pub notes_nothing : (rows : List RelayRow) (rules : Timers) (made : List Event) → AreNotes made → kept_after (nothing_kept rows rules) made ≡ nothing_kept rows rules
notes_nothing rows rules [] are = refl
notes_nothing rows rules (event ∷ made) are = ap (λ (k : Kept). kept_after k made) (note_nothing rows rules event are.0) ∙ notes_nothing rows rules made are.1

module _ {N : Type 0} (link : N → Link (List ℕ)) (steps : N → Call (List ℕ) → N → Type 0) (keeps : (old : N) (call : Call (List ℕ)) (new : N) → steps old call new → Keeps (link old) call (link new))
    (makes : SetUp → N → Type 0) where
  abbrev acts : Acts (ScriptWorld (RelayRun N))
  acts = world_acts (relay_play link steps makes)

  -- what holds of a journal: nothing was told, or each event may come
  abbrev IsGoing : List Event → ScriptWorld (RelayRun N) → Type 0
  IsGoing journal (SettingUp setup) = journal ≡ []
  IsGoing journal (Running run) = (rows : List RelayRow) × (rules : Timers) × AreAllowed (nothing_kept rows rules) journal

  -- ---- a running network

  record Goes (rows : List RelayRow) (rules : Timers) (run : RelayRun N) (journal : List Event) : Type 0 where
    plays : Plays link run.ends run.relay
    kept : run.relay ≡ kept_after (nothing_kept rows rules) journal
    allowed : AreAllowed (nothing_kept rows rules) journal

  lines_going : (texts : List (List ℕ)) (script : List Line) (names last_names : Declared) (rows : List RelayRow) (rules : Timers) (run : RelayRun N) (before journal : List Event) (last : ScriptWorld (RelayRun N))
      → names.dialect ≡ dialects.Relay → Says names texts script last_names → Goes rows rules run before → RunsScript acts (Running run) script journal last → IsGoing (before ++ journal) last
  lines_going [] [] names last_names rows rules run before journal last reads says g h =
      subst (λ (w : ScriptWorld (RelayRun N)). IsGoing (before ++ journal) w) (sym h.1)
      (rows, rules, subst (λ (j : List Event). AreAllowed (nothing_kept rows rules) j) (sym (append-nil before) ∙ ap (λ (m : List Event). before ++ m) (sym h.0)) g.allowed)
  lines_going [] (line ∷ script) names last_names rows rules run before journal last reads says g h = absurd says
  lines_going (text ∷ texts) [] names last_names rows rules run before journal last reads says g h = absurd says
  lines_going (text ∷ texts) (line ∷ script) names last_names rows rules run before journal last reads says g h =
      let step = h.3 in
      let next : RelayRun N = step.0 in
      let ran = step.1 in
      let nothing : Kept = nothing_kept rows rules in
      let listed : HasLine dialects.Relay line = subst (λ (d : Dialect). HasLine d line) reads (line_has names text (record { line = line; names = says.0 }) says.1) in
      let after = line_plays link steps keeps run line h.1 ran.0 ran.1 listed ran.2 g.plays in
      let goes : Goes rows rules (record run { ends = ran.0; relay = ran.1 }) (before ++ h.1) = record {
        plays = after.plays;
        kept = after.last_is ∙ ap (λ (k : Kept). kept_after k h.1) g.kept ∙ sym (after_append nothing before h.1);
        allowed = allowed_more nothing before h.1 g.allowed (subst (λ (k : Kept). AreAllowed k h.1) g.kept after.allowed);
      } in
      let rest =
      lines_going texts script says.0 last_names rows rules next (before ++ h.1) h.2 last (line_stays names text (record { line = line; names = says.0 }) says.1 ∙ reads) says.2
      (subst (λ (r : RelayRun N). Goes rows rules r (before ++ h.1)) (sym ran.3) goes)
      (subst (λ (w : ScriptWorld (RelayRun N)). RunsScript acts w script h.2 last) step.2 h.5) in
      subst (λ (j : List Event). IsGoing j last) (append_assoc before h.1 h.2 ∙ ap (λ (m : List Event). before ++ m) (sym h.4)) rest

  -- ---- the start

  started_going : (texts : List (List ℕ)) (setup : SetUp) (script : List Line) (names last_names : Declared) (made rest journal : List Event) (mid last : ScriptWorld (RelayRun N)) → names.dialect ≡ dialects.Relay → IsWell setup
      → Says names texts script last_names → StartsUp (relay_play link steps makes) setup made mid → RunsScript acts mid script rest last → journal ≡ made ++ rest → IsGoing journal last
  started_going texts setup script names last_names made rest journal mid last reads well says starts runs is =
      let h = starts.1 in
      let first : World N = h.1 in
      let rows : List RelayRow = rows_of setup in
      let rules : Timers = timers_of setup.life setup.limits in
      let s : Starts link steps h.0 (entities_of setup) made first = h.3 in
      let plays = first_plays link steps setup h.0 first made well s in
      let notes : AreNotes made = subst AreNotes (sym s.made_is) (tt, told_notes s.ups) in
      let goes : Goes rows rules (record { titles = titles_of setup; ends = first; relay = nothing_kept rows rules }) made = record {
        plays = plays;
        kept = sym (notes_nothing rows rules made notes);
        allowed = line_allowed (length first.ends) (nothing_kept rows rules) made plays.tidy (notes_walk (length first.ends) made (nothing_kept rows rules) notes).line;
      } in
      let all =
      lines_going texts script names last_names rows rules starts.0 made rest last reads says (subst (λ (r : RelayRun N). Goes rows rules r made) (sym h.4) goes)
      (subst (λ (w : ScriptWorld (RelayRun N)). RunsScript acts w script rest last) starts.2 runs) in
      subst (λ (j : List Event). IsGoing j last) (sym is) all

  -- while it is set up
  abbrev FromHere : List (List ℕ) → List Line → Type 0
  FromHere texts script = (names last_names : Declared) (setup : SetUp) (journal : List Event) (last : ScriptWorld (RelayRun N)) → names.dialect ≡ dialects.Relay → AreOne names setup → IsWell setup → names.started ≡ false
      → Says names texts script last_names → RunsScript acts (SettingUp setup) script journal last → IsGoing journal last

  by_line : (start : Bool) (setup : SetUp) (line : Line) (names new last_names : Declared) (texts : List (List ℕ)) (script : List Line) (made rest journal : List Event) (mid last : ScriptWorld (RelayRun N))
      → is_start line ≡ start → new.dialect ≡ dialects.Relay → new.started ≡ started_after names.started line → names.started ≡ false → IsWell setup → IsKept setup line new → Says new texts script last_names
      → SetsUp (relay_play link steps makes) start setup line made mid → RunsScript acts mid script rest last → journal ≡ made ++ rest → FromHere texts script → IsGoing journal last
  by_line true setup line names new last_names texts script made rest journal mid last start reads moves begun well kept says h runs is others =
      started_going texts setup script new last_names made rest journal mid last reads well says h runs is
  by_line false setup line names new last_names texts script made rest journal mid last start reads moves begun well kept says h runs is others =
      let all : rest ≡ journal = sym (is ∙ ap (λ (m : List Event). m ++ rest) h.0) in
      subst (λ (j : List Event). IsGoing j last) all
      (others new last_names (set_up setup line) rest last reads kept.one (well_after setup line well kept.fits) (moves ∙ starts_not names.started line start ∙ begun) says
      (subst (λ (w : ScriptWorld (RelayRun N)). RunsScript acts w script rest last) h.1 runs))

  set_up_going : (texts : List (List ℕ)) (script : List Line) → FromHere texts script
  set_up_going [] [] names last_names setup journal last reads one well begun says h = subst (λ (w : ScriptWorld (RelayRun N)). IsGoing journal w) (sym h.1) h.0
  set_up_going [] (line ∷ script) names last_names setup journal last reads one well begun says h = absurd says
  set_up_going (text ∷ texts) [] names last_names setup journal last reads one well begun says h = absurd says
  set_up_going (text ∷ texts) (line ∷ script) names last_names setup journal last reads one well begun says h =
      by_line (is_start line) setup line names says.0 last_names texts script h.1 h.2 journal h.0 last refl (line_stays names text (record { line = line; names = says.0 }) says.1 ∙ reads)
      (line_moves names text line says.0 says.1).started begun well (line_kept names setup text line says.0 one well begun says.1) says.2 h.3.1 h.5 h.4 (set_up_going texts script)

  -- ---- the law

  none_before : (before after : List Event) → before ++ after ≡ [] → before ≡ []
  none_before [] after is = refl
  none_before (event ∷ before) after is = absurd (cc is)

  front_units : (last : ScriptWorld (RelayRun N)) (front back : List Event) → IsGoing (front ++ back) last → RelaysUnits front
  front_units (SettingUp setup) front back g =
      subst RelaysUnits (sym (none_before front back g)) (relays_units [] (nothing_kept [] (timers_of setup.life setup.limits)) (nothing_stands [] (timers_of setup.life setup.limits)))
  front_units (Running run) front back g =
      let nothing : Kept = nothing_kept g.0 g.1 in relays_units front (kept_after nothing front) (stands_after [] nothing front (nothing_stands g.0 g.1) (front_allowed nothing front back g.2))

  -- whatever script was run
  pub script_units : (texts : List (List ℕ)) (script : List Line) (names : Declared) (journal : List Event) (last : ScriptWorld (RelayRun N)) → Says (nothing_declared dialects.Relay) texts script names
      → RunsScript acts acts.first script journal last → (front back : List Event) → journal ≡ front ++ back → RelaysUnits front
  script_units texts script names journal last says run front back is =
      let going = set_up_going texts script (nothing_declared dialects.Relay) names nothing_said journal last refl
      (record { lans = refl; bounds = refl; life = refl; systems = refl; ports = λ n. refl; selectors = λ n s. refl }) nothing_well refl says run in
      front_units last front back (subst (λ (j : List Event). IsGoing j last) is going)

  front_relays : (last : ScriptWorld (RelayRun N)) (front back : List Event) → IsGoing (front ++ back) last → RelaysUnits front → Relays front
  front_relays (SettingUp setup) front back g units =
      let rules : Timers = timers_of setup.life setup.limits in
      relays [] rules front (subst (AreAllowed (nothing_kept [] rules)) (sym (none_before front back g)) tt) units
  front_relays (Running run) front back g units = relays g.0 g.1 front (front_allowed (nothing_kept g.0 g.1) front back g.2) units

  -- and each end stands in one note, of which the one end was indicated and the other asked for
  pub script_relays : (texts : List (List ℕ)) (script : List Line) (names : Declared) (journal : List Event) (last : ScriptWorld (RelayRun N)) → Says (nothing_declared dialects.Relay) texts script names
      → RunsScript acts acts.first script journal last → (front back : List Event) → journal ≡ front ++ back → Relays front
  script_relays texts script names journal last says run front back is =
      let going = set_up_going texts script (nothing_declared dialects.Relay) names nothing_said journal last refl
      (record { lans = refl; bounds = refl; life = refl; systems = refl; ports = λ n. refl; selectors = λ n s. refl }) nothing_well refl says run in
      front_relays last front back (subst (λ (j : List Event). IsGoing j last) is going) (script_units texts script names journal last says run front back is)
