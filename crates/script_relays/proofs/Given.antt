-- After each pump of a script with relays all that was shown at an open pair was submitted, unless this pump's own call for the next unit was refused: a
-- pump leaves nothing else, and what is kept as it ends is what is kept of the whole journal so far.
use Rattle.std.proofs.Common.{◌≡◌, ℕ, ◌+◌, Bool, true, false, List, [], ◌∷◌, ◌++◌, length, refl, sym, ◌∙◌, ap, subst, arith, append_assoc}
use Rattle.std.specs.List.{AllByRecursion}
use Rattle.std.proofs.lemmas.List.{append-nil}
use Rattle.osi_base.specs.Link.{Link}
use Rattle.osi_base.specs.Calls.{Call, Keeps}
use Rattle.script_journal.specs.declared.event.Event.{Event}
use Rattle.script_lines.proofs.CommandLines.{line_has, line_stays}
use Rattle.script_lines.specs.Commands.{HasLine}
use Rattle.script_lines.specs.declared.words.Dialect.{Dialect}
use Rattle.script_lines.specs.declared.words.Dialect.TheVariants as dialects
use Rattle.script_lines.specs.declared.line.Line.{Line}
use Rattle.script_lines.specs.Known.{Declared, nothing_declared}
use Rattle.script_lines.specs.Script.{Says}
use Rattle.script_setup.specs.Fitting.{IsWell}
use Rattle.script_setup.specs.SetUp.{SetUp, nothing_said, set_up, timers_of, titles_of}
use Rattle.law_setup.specs.Entities.{entities_of}
use Rattle.script_setup.proofs.Wellness.{nothing_well, well_after}
use Rattle.law_setup.specs.Agreeing.{AreOne}
use Rattle.law_setup.specs.Lines.{Kept as IsKept}
use Rattle.law_setup.proofs.Kept.{line_kept}
use Rattle.script_bench.specs.Acts.{Acts, RunsScript}
use Rattle.script_bench.specs.Claims.{IsLaw}
use Rattle.script_bench.specs.Script.{started_after}
use Rattle.script_bench.specs.steps.Moves.{line_moves, starts_not}
use Rattle.script_world.specs.Plays.{SetsUp, StartsUp, is_start, world_acts}
use Rattle.script_world.specs.declared.play.World.{World as ScriptWorld}
use Rattle.script_world.specs.declared.play.World.TheVariants.{SettingUp, Running}
use Rattle.tp4_conn.specs.declared.timers.Timers.{Timers}
use Rattle.tp4_number.specs.Number.{wire}
use Rattle.tp4_relay.specs.declared.row.RelayRow.{RelayRow}
use Rattle.tp4_relay.specs.Allowed.{AreAllowed}
use Rattle.tp4_relay.specs.Kept.{Kept, kept_after, nothing_kept}
use Rattle.tp4_relay.specs.Leaving.{AreServed}
use Rattle.tp4_relay.proofs.Carried.{line_allowed}
use Rattle.tp4_relay.proofs.Commuting.{allowed_more}
use Rattle.tp4_relay.proofs.Journals.{nothing_stands, stands_after}
use Rattle.tp4_relay.proofs.Leaving.{all_given, pump_leaves}
use Rattle.tp4_relay.proofs.PairsHold.{PairHolds}
use Rattle.tp4_world.specs.Run.{Settles, Starts}
use Rattle.tp4_world.specs.World.{World}
use Rattle.law_relay.specs.Asked.{is_relayed}
use Rattle.script_relays.specs.Giving.{PartGives, PumpGives, PumpsGiveAll, RunGives, TurnsGive}
use Rattle.law_relay.specs.Relays.{Answers, Asking, Idle, LastTurn, OneTurn, Part, PumpsAfter, RelayRun, RunsPart, Settling, Turns, part_of, relay_play}
use Rattle.law_relay.specs.Rows.{rows_of}
use Rattle.law_relay.specs.Services.{AsksEnd, AsksFor, ends_of, has_system, is_honest}
use Rattle.law_relay.proofs.Begun.{first_plays}
use Rattle.law_relay.proofs.Linking.{AreNotes, notes_walk, told_notes}
use Rattle.law_relay.proofs.Playing.{Plays}
use Rattle.law_relay.proofs.Pumping.{middle_tidy}
use Rattle.law_relay.proofs.Running.{After, Leaves, answer_leaves, line_plays, pumped, settles}
use Rattle.law_relay.proofs.Serving.{world_serves}
use Rattle.law_relay.proofs.Walks.{after_append}
use Rattle.script_relays.proofs.Units.{notes_nothing}

module _ {N : Type 0} (link : N → Link (List ℕ)) (steps : N → Call (List ℕ) → N → Type 0) (keeps : (old : N) (call : Call (List ℕ)) (new : N) → steps old call new → Keeps (link old) call (link new))
    (rows : List RelayRow) (rules : Timers) where
  -- what is kept is what is kept of the journal so far, in which each event may come
  pub record Stands (kept : Kept) (before : List Event) : Type 0 where
    pub kept_is : kept ≡ kept_after (nothing_kept rows rules) before
    pub allowed : AreAllowed (nothing_kept rows rules) before

  stands_more : (kept last : Kept) (before made : List Event) → last ≡ kept_after kept made → AreAllowed kept made → Stands kept before → Stands last (before ++ made)
  stands_more kept last before made is all s =
      let nothing : Kept = nothing_kept rows rules in
      record {
        kept_is = is ∙ ap (λ (k : Kept). kept_after k made) s.kept_is ∙ sym (after_append nothing before made);
        allowed = allowed_more nothing before made s.allowed (subst (λ (k : Kept). AreAllowed k made) s.kept_is all);
      }

  after_stands : (kept : Kept) (made : List Event) (new : World N) (last : Kept) (before : List Event) → After link steps keeps kept made new last → Stands kept before → Stands last (before ++ made)
  after_stands kept made new last before a s = stands_more kept last before made a.last_is a.allowed s

  -- ---- a pump

  pump_given : (Happens : World N → List Event → World N → Type 0) (before : List Event) (old : World N) (kept : Kept) (done : Bool) (here made : List Event) (new : World N) (last : Kept)
      → ((mid : World N) → Happens old here mid → Leaves link steps keeps old kept here mid) → Plays link old kept → Stands kept before → (s : PumpsAfter link steps Happens old kept done here made new last)
      → PumpGives link steps Happens before old kept done here made new last s
  pump_given Happens before old kept done here made new last happened p stands s =
      let l = happened s.mid s.happens in
      let low = p.linked.named in
      let grows = l.grows in
      let now = after_stands kept made new last before (pumped link steps keeps Happens old kept done here made new last happened p s) stands in
      let tidy = middle_tidy link steps (world_serves link steps keeps) s.mid new kept here done s.rest last p.tidy l.line (omega (arith, low, grows)) s.pumps l.plays in
      let served : AreServed (AsksFor link steps) (AsksEnd link steps) s.mid kept here done s.rest new last s.pumps =
      pump_leaves has_system ends_of (is_honest link) (AsksFor link steps) (AsksEnd link steps) (world_serves link steps keeps) s.mid kept here done s.rest new last s.pumps tidy in
      all_given (AsksFor link steps) (AsksEnd link steps) (before ++ made) s.mid kept here done s.rest new last s.pumps
      (subst (λ (k : Kept). AllByRecursion (PairHolds (before ++ made)) k.pairs) (sym now.kept_is) (stands_after [] (nothing_kept rows rules) (before ++ made) (nothing_stands rows rules) now.allowed).held) served

  turns_given : (before : List Event) (count : ℕ) (old : World N) (kept : Kept) (made : List Event) (new : World N) (last : Kept) → Plays link old kept → Stands kept before → (t : Turns link steps count old kept made new last)
      → TurnsGive link steps before count old kept made new last t
  turns_given before count old kept made new last p stands (LastTurn n o k m l z done settled after stop) =
      pump_given (Settles link steps wire 0) before old kept done settled made new last (λ mid s. settles link steps keeps old mid settled kept p s) p stands after
  turns_given before count old kept made new last p stands (OneTurn n o k m l z done settled mid middle here rest after goes turns is) =
      let first = pumped link steps keeps (Settles link steps wire 0) old kept done settled here mid middle (λ w s. settles link steps keeps old w settled kept p s) p after in (
        pump_given (Settles link steps wire 0) before old kept done settled here mid middle (λ w s. settles link steps keeps old w settled kept p s) p stands after,
        turns_given (before ++ here) (count + 1) mid middle rest new last first.plays (after_stands kept here mid middle before first stands) turns,
      )

  part_given : (part : Part) (before : List Event) (old : RelayRun N) (line : Line) (made : List Event) (new : World N) (last : Kept) → HasLine dialects.Relay line → Plays link old.ends old.relay → Stands old.relay before
      → (s : RunsPart link steps part old line made new last) → PartGives link steps part before old line made new last s
  part_given Idle before old line made new last has p stands s = tt
  part_given Settling before old line made new last has p stands s = turns_given before 0 old.ends old.relay made new last p stands s
  part_given Asking before old line made new last has p stands s =
      pump_given (Answers link steps (is_relayed old.relay line) old.titles line) before old.ends old.relay s.0 s.1 made new last
      (λ mid h. answer_leaves link steps keeps (is_relayed old.relay line) old.titles line old.ends mid s.1 old.relay has refl h p) p stands s.2

-- ---- a script

module _ {N : Type 0} (link : N → Link (List ℕ)) (steps : N → Call (List ℕ) → N → Type 0) (keeps : (old : N) (call : Call (List ℕ)) (new : N) → steps old call new → Keeps (link old) call (link new))
    (makes : SetUp → N → Type 0) where
  abbrev acts : Acts (ScriptWorld (RelayRun N))
  acts = world_acts (relay_play link steps makes)

  -- of whatever state it is that a script runs from
  abbrev Goes : List Event → ScriptWorld (RelayRun N) → List Line → List Event → ScriptWorld (RelayRun N) → Type 0
  Goes before w script journal last = (runs : RunsScript acts w script journal last) → RunGives link steps makes before w script journal last runs

  record Lies (rows : List RelayRow) (rules : Timers) (run : RelayRun N) (before : List Event) : Type 0 where
    plays : Plays link run.ends run.relay
    stands : Stands link steps keeps rows rules run.relay before

  lines_given : (texts : List (List ℕ)) (script : List Line) (names last_names : Declared) (rows : List RelayRow) (rules : Timers) (run : RelayRun N) (before journal : List Event) (last : ScriptWorld (RelayRun N))
      → names.dialect ≡ dialects.Relay → Says names texts script last_names → Lies rows rules run before → Goes before (Running run) script journal last
  lines_given [] [] names last_names rows rules run before journal last reads says g h = tt
  lines_given [] (line ∷ script) names last_names rows rules run before journal last reads says g h = absurd says
  lines_given (text ∷ texts) [] names last_names rows rules run before journal last reads says g h = absurd says
  lines_given (text ∷ texts) (line ∷ script) names last_names rows rules run before journal last reads says g h =
      let step = h.3 in
      let ran = step.1 in
      let listed : HasLine dialects.Relay line = subst (λ (d : Dialect). HasLine d line) reads (line_has names text (record { line = line; names = says.0 }) says.1) in
      let after = line_plays link steps keeps run line h.1 ran.0 ran.1 listed ran.2 g.plays in
      let now : Lies rows rules (record run { ends = ran.0; relay = ran.1 }) (before ++ h.1) = record {
        plays = after.plays;
        stands = after_stands link steps keeps rows rules run.relay h.1 ran.0 ran.1 before after g.stands;
      } in
      let next : Lies rows rules step.0 (before ++ h.1) = subst (λ (r : RelayRun N). Lies rows rules r (before ++ h.1)) (sym ran.3) now in (
        part_given link steps keeps rows rules (part_of line) before run line h.1 ran.0 ran.1 listed g.plays g.stands ran.2,
        subst (λ (w : ScriptWorld (RelayRun N)). Goes (before ++ h.1) w script h.2 last) (sym step.2)
            (lines_given texts script says.0 last_names rows rules step.0 (before ++ h.1) h.2 last (line_stays names text (record { line = line; names = says.0 }) says.1 ∙ reads) says.2 next) h.5,
      )

  -- ---- the start

  started_given : (texts : List (List ℕ)) (setup : SetUp) (script : List Line) (names last_names : Declared) (before made rest : List Event) (mid last : ScriptWorld (RelayRun N)) → before ≡ [] → names.dialect ≡ dialects.Relay → IsWell setup
      → Says names texts script last_names → StartsUp (relay_play link steps makes) setup made mid → Goes (before ++ made) mid script rest last
  started_given texts setup script names last_names before made rest mid last none reads well says starts =
      let h = starts.1 in
      let first : World N = h.1 in
      let rows : List RelayRow = rows_of setup in
      let rules : Timers = timers_of setup.life setup.limits in
      let s : Starts link steps h.0 (entities_of setup) made first = h.3 in
      let plays = first_plays link steps setup h.0 first made well s in
      let notes : AreNotes made = subst AreNotes (sym s.made_is) (tt, told_notes s.ups) in
      let lies : Lies rows rules (record { titles = titles_of setup; ends = first; relay = nothing_kept rows rules }) made = record {
        plays = plays;
        stands = record {
          kept_is = sym (notes_nothing rows rules made notes);
          allowed = line_allowed (length first.ends) (nothing_kept rows rules) made plays.tidy (notes_walk (length first.ends) made (nothing_kept rows rules) notes).line;
        };
      } in
      let all : Lies rows rules starts.0 (before ++ made) =
      subst (Lies rows rules starts.0) (sym (ap (λ (es : List Event). es ++ made) none)) (subst (λ (r : RelayRun N). Lies rows rules r made) (sym h.4) lies) in
      subst (λ (w : ScriptWorld (RelayRun N)). Goes (before ++ made) w script rest last) (sym starts.2) (lines_given texts script names last_names rows rules starts.0 (before ++ made) rest last reads says all)

  -- while it is set up
  abbrev FromHere : List (List ℕ) → List Line → Type 0
  FromHere texts script = (names last_names : Declared) (setup : SetUp) (before journal : List Event) (last : ScriptWorld (RelayRun N)) → before ≡ [] → names.dialect ≡ dialects.Relay → AreOne names setup → IsWell setup
      → names.started ≡ false → Says names texts script last_names → Goes before (SettingUp setup) script journal last

  by_line : (start : Bool) (setup : SetUp) (line : Line) (names new last_names : Declared) (texts : List (List ℕ)) (script : List Line) (before made rest : List Event) (mid last : ScriptWorld (RelayRun N))
      → before ≡ [] → is_start line ≡ start → new.dialect ≡ dialects.Relay → new.started ≡ started_after names.started line → names.started ≡ false → IsWell setup → IsKept setup line new → Says new texts script last_names
      → SetsUp (relay_play link steps makes) start setup line made mid → FromHere texts script → Goes (before ++ made) mid script rest last
  by_line true setup line names new last_names texts script before made rest mid last none start reads moves begun well kept says h others =
      started_given texts setup script new last_names before made rest mid last none reads well says h
  by_line false setup line names new last_names texts script before made rest mid last none start reads moves begun well kept says h others =
      let still : before ++ made ≡ [] = ap (λ (es : List Event). es ++ made) none ∙ h.0 in
      subst (λ (w : ScriptWorld (RelayRun N)). Goes (before ++ made) w script rest last) (sym h.1)
      (others new last_names (set_up setup line) (before ++ made) rest last still reads kept.one (well_after setup line well kept.fits) (moves ∙ starts_not names.started line start ∙ begun) says)

  set_up_given : (texts : List (List ℕ)) (script : List Line) → FromHere texts script
  set_up_given [] [] names last_names setup before journal last none reads one well begun says h = tt
  set_up_given [] (line ∷ script) names last_names setup before journal last none reads one well begun says h = absurd says
  set_up_given (text ∷ texts) [] names last_names setup before journal last none reads one well begun says h = absurd says
  set_up_given (text ∷ texts) (line ∷ script) names last_names setup before journal last none reads one well begun says h = (
    tt,
    by_line (is_start line) setup line names says.0 last_names texts script before h.1 h.2 h.0 last none refl (line_stays names text (record { line = line; names = says.0 }) says.1 ∙ reads)
        (line_moves names text line says.0 says.1).started begun well (line_kept names setup text line says.0 one well begun says.1) says.2 h.3.1 (set_up_given texts script) h.5,
  )

  -- ---- the law

  pub pumps_give_all : IsLaw acts (PumpsGiveAll link steps makes)
  pumps_give_all = record {
    runs = λ texts script names journal last says run. record {
      whole = journal;
      rest = [];
      whole_is = sym (append-nil journal);
      runs = run;
      gives = set_up_given texts script (nothing_declared dialects.Relay) names nothing_said [] journal last refl refl
          (record { lans = refl; bounds = refl; life = refl; systems = refl; ports = λ n. refl; selectors = λ n s. refl }) nothing_well refl says run;
    };
    front = λ script before after last h. record { whole = h.whole; rest = after ++ h.rest; whole_is = h.whole_is ∙ append_assoc before after h.rest; runs = h.runs; gives = h.gives };
  }
