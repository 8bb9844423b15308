-- The turns of a `settle` line, one after another; and that a pump may be asked about the events of a line.
use Rattle.std.proofs.Common.{◌≡◌, ℕ, ◌+◌, ◌<◌, ◌≤◌, ◌&&◌, Bool, true, false, nat_lt, List, [], ◌∷◌, ◌++◌, length, Result, Ok, Err, refl, sym, ◌∙◌, ap, subst, arith, append_assoc}
use Rattle.std.specs.Prelude.{IfOk, OnOk}
use Rattle.std.specs.List.{AllByRecursion}
use Rattle.std.proofs.lemmas.Bool.Decides.{nat_tests}
use Rattle.std.proofs.lemmas.List.{append-nil}
use Rattle.osi_base.specs.Link.{Link}
use Rattle.osi_base.specs.Calls.{Call, Keeps}
use Rattle.script_journal.specs.declared.event.Event.{Event}
use Rattle.script_lines.specs.Commands.{HasLine}
use Rattle.script_lines.specs.declared.words.Dialect.TheVariants as dialects
use Rattle.script_lines.specs.declared.line.Line.{Line}
use Rattle.script_lines.specs.declared.line.Line.TheVariants as lines
use Rattle.tp4_number.specs.Number.{wire}
use Rattle.tp4_relay.specs.declared.row.RelayRow.{RelayRow}
use Rattle.tp4_relay.specs.Allowed.{AreLine}
use Rattle.tp4_relay.specs.Kept.{Kept, kept_after}
use Rattle.tp4_relay.specs.Pump.{PumpStep}
use Rattle.tp4_relay.specs.Service.{Tells}
use Rattle.tp4_relay.proofs.Telling.{rows_stay}
use Rattle.tp4_world.specs.Run.{Settles}
use Rattle.tp4_world.specs.World.{World}
use Rattle.law_relay.specs.Asked.{is_relayed}
use Rattle.law_relay.specs.Relays.{Answers, Asking, LastTurn, OneTurn, Part, PumpsAfter, RunsPart, Turns, is_more, part_of}
use Rattle.law_relay.specs.Services.{AsksEnd, AsksFor, ends_of, has_system}
use Rattle.law_relay.proofs.Playing.{Plays}
use Rattle.law_relay.proofs.Running.{Leaves, answer_leaves, pumped, settles}

-- any other line is an event line, and no `settle` line
pub is_asking : (line : Line) → (line ≡ lines.Nothing → ⊥) → (line ≡ lines.Settle → ⊥) → part_of line ≡ Asking
is_asking lines.Nothing none other = absurd (none refl)
is_asking lines.Settle none other = absurd (other refl)
is_asking line none other = refl

module _ {N : Type 0} (link : N → Link (List ℕ)) (steps : N → Call (List ℕ) → N → Type 0) (keeps : (old : N) (call : Call (List ℕ)) (new : N) → steps old call new → Keeps (link old) call (link new)) where
  -- ---- a pump behind a line

  -- what a pump asks of the network and of the line
  pub record MayPump (world : World N) (kept : Kept) (here : List Event) : Type 0 where
    pub has : AllByRecursion (λ (row : RelayRow). has_system world row.system) kept.rows
    pub named : kept.named ≤ ends_of world
    pub credit : kept.rules.credit ≤ 255
    pub line : AreLine (ends_of world) kept here

  pub may_pump : (old new : World N) (kept : Kept) (line : List Event) → Plays link old kept → Leaves link steps keeps old kept line new → MayPump new kept line
  may_pump old new kept line p l =
      let low = p.linked.named in
      let grows = l.grows in
      record {
        has = subst (λ (rows : List RelayRow). AllByRecursion (λ (row : RelayRow). has_system new row.system) rows) (rows_stay kept line) l.plays.has;
        named = omega (arith, low, grows);
        credit = p.credit;
        line = l.line;
      }

  -- what happened and the pump after it
  pub after_pump : (Happens : World N → List Event → World N → Type 0) (old mid new : World N) (kept last : Kept) (here made : List Event) (done : Bool) → Happens old here mid
      → Tells here made (λ told. PumpStep (AsksFor link steps) (AsksEnd link steps) mid kept here done told new last) → PumpsAfter link steps Happens old kept done here made new last
  after_pump Happens old mid new kept last here made done happens tells = record { mid = mid; rest = tells.0; happens = happens; pumps = tells.2; made_is = tells.1 }

  -- ---- turns so far

  pub record TurnsSo (first : World N) (kept : Kept) (count : ℕ) (now : World N) (current : Kept) (seen : List Event) : Type 0 where
    pub plays : Plays link now current
    pub goes_on : count < 64 → (made : List Event) (new : World N) (last : Kept) → Turns link steps count now current made new last → Turns link steps 0 first kept (seen ++ made) new last
    pub all : 64 ≤ count → Turns link steps 0 first kept seen now current

  pub no_turn : (first : World N) (kept : Kept) (seen : List Event) → seen ≡ [] → Plays link first kept → TurnsSo first kept 0 first kept seen
  no_turn first kept seen none p = record {
    plays = p;
    goes_on = λ low made new last turns. subst (λ (es : List Event). Turns link steps 0 first kept (es ++ made) new last) (sym none) turns;
    all = λ over. absurd (omega (arith, over));
  }

  no_more : (more below : Bool) → more ≡ false → (more && below) ≡ false
  no_more more below is = ap (λ (b : Bool). b && below) is

  none_below : (more below : Bool) → below ≡ false → (more && below) ≡ false
  none_below true below is = is
  none_below false below is = refl

  -- the last turn, after which the pump did nothing or the network was stopped
  pub last_turn : (first now new : World N) (kept current last : Kept) (count : ℕ) (seen here settled : List Event) (done : Bool) → count < 64 → TurnsSo first kept count now current seen
      → PumpsAfter link steps (Settles link steps wire 0) now current done settled here new last → is_more done settled ≡ false → Turns link steps 0 first kept (seen ++ here) new last
  last_turn first now new kept current last count seen here settled done low so after stop =
      so.goes_on low here new last (LastTurn count now current here new last done settled after (no_more (is_more done settled) (nat_lt (count + 1) 64) stop))

  -- another one
  pub next_turn : (first now new : World N) (kept current last : Kept) (count : ℕ) (seen here settled : List Event) (done : Bool) → count < 64 → TurnsSo first kept count now current seen
      → PumpsAfter link steps (Settles link steps wire 0) now current done settled here new last → is_more done settled ≡ true → Plays link new last → TurnsSo first kept (count + 1) new last (seen ++ here)
  next_turn first now new kept current last count seen here settled done low so after more p = record {
    plays = p;
    goes_on = λ below made end final turns.
        (let lower : nat_lt (count + 1) 64 ≡ true = grind (arith, nat_tests) in
        let both : (is_more done settled && nat_lt (count + 1) 64) ≡ true = ap (λ (b : Bool). b && nat_lt (count + 1) 64) more ∙ lower in
        subst (λ (es : List Event). Turns link steps 0 first kept es end final) (sym (append_assoc seen here made))
        (so.goes_on low (here ++ made) end final (OneTurn count now current (here ++ made) end final done settled new last here made after both turns refl)));
    all = λ over.
        (let higher : nat_lt (count + 1) 64 ≡ false = grind (arith, nat_tests) in
        so.goes_on low here new last (LastTurn count now current here new last done settled after (none_below (is_more done settled) (nat_lt (count + 1) 64) higher)));
  }

  -- a pump after the network settled
  pub settled_pump : (old mid : World N) (kept : Kept) (here : List Event) → Plays link old kept → Settles link steps wire 0 old here mid → MayPump mid kept here
  settled_pump old mid kept here p s = may_pump old mid kept here p (settles link steps keeps old mid here kept p s)

  pub settled_plays : (old new : World N) (kept last : Kept) (here made : List Event) (done : Bool) → Plays link old kept → PumpsAfter link steps (Settles link steps wire 0) old kept done here made new last → Plays link new last
  settled_plays old new kept last here made done p after =
      (pumped link steps keeps (Settles link steps wire 0) old kept done here made new last (λ mid s. settles link steps keeps old mid here kept p s) p after).plays

  -- a pump after another line
  pub answered_pump : (titles : List (List ℕ)) (line : Line) (old mid : World N) (kept : Kept) (here : List Event) → HasLine dialects.Relay line → Plays link old kept
      → Answers link steps (is_relayed kept line) titles line old here mid → MayPump mid kept here
  answered_pump titles line old mid kept here has p s = may_pump old mid kept here p (answer_leaves link steps keeps (is_relayed kept line) titles line old mid here kept has refl s p)

  pub asks_part : (titles : List (List ℕ)) (line : Line) (old mid new : World N) (kept last : Kept) (here made : List Event) (done : Bool) → part_of line ≡ Asking → Answers link steps (is_relayed kept line) titles line old here mid
      → Tells here made (λ told. PumpStep (AsksFor link steps) (AsksEnd link steps) mid kept here done told new last) → RunsPart link steps (part_of line) (record { titles = titles; ends = old; relay = kept }) line made new last
  asks_part titles line old mid new kept last here made done is answers tells =
      subst (λ (part : Part). RunsPart link steps part (record { titles = titles; ends = old; relay = kept }) line made new last) (sym is)
      (done, here, after_pump (Answers link steps (is_relayed kept line) titles line) old mid new kept last here made done answers tells)
