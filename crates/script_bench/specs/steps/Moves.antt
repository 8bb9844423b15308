-- A line that is read stands where it may, and only a set-up line declares names.
use Rattle.std.proofs.Common.{◌≡◌, ◌⊎◌, ℕ, Bool, true, false, List, inl, inr, refl, sym, subst}
use Rattle.std.specs.Prelude.{◌||◌, not, Ok}
use Rattle.script_lines.specs.declared.words.Word.{Word}
use Rattle.script_lines.specs.declared.words.Word.TheVariants as words
use Rattle.script_lines.specs.declared.line.Line.{Line}
use Rattle.script_lines.specs.declared.line.Line.TheVariants as lines
use Rattle.script_lines.specs.declared.field_values.FieldValues.{FieldValues}
use Rattle.script_lines.specs.Known.{Declared}
use Rattle.script_lines.specs.Table.{row_of}
use Rattle.script_lines.specs.Grammar.{Reading, next_number, line_for, declared_by, is_out_of_order, line_read}
use Rattle.script_bench.specs.steps.Came.{Came, Idle, Worded, came}
use Rattle.script_bench.specs.Script.{IsPlaced, is_start, started_after}

-- the line stands where it may, and only a set-up line declares names
pub record Moves (names : Declared) (line : Line) (new : Declared) : Type 0 where
  pub placed : IsPlaced names.started line
  pub started : new.started ≡ started_after names.started line
  pub kept : (names.started ≡ false) ⊎ (new ≡ names)

is_started : (started : Bool) → not started ≡ false → started ≡ true
is_started true is = refl
is_started false is = absurd (cc)

neither : (a b : Bool) → (a || b) ≡ false → b ≡ false
neither true b is = absurd (cc)
neither false b is = is

idle_moves : (names : Declared) → Moves names lines.Nothing names
idle_moves names = record { placed = tt; started = refl; kept = inr refl }

word_moves : (names : Declared) (parts : FieldValues) (word : Word) → is_out_of_order names word ≡ false
    → Moves names (line_for (next_number names (row_of word).effect) word parts) (declared_by names (row_of word).effect parts)
word_moves names parts words.Lan placed = record { placed = placed; started = refl; kept = inl placed }
word_moves names parts words.Es placed = record { placed = placed; started = refl; kept = inl placed }
word_moves names parts words.Port placed = record { placed = placed; started = refl; kept = inl placed }
word_moves names parts words.Route placed = record { placed = placed; started = refl; kept = inl placed }
word_moves names parts words.Version placed = let before = neither _ names.started placed in record { placed = before; started = refl; kept = inl before }
word_moves names parts words.Start placed = record { placed = placed; started = refl; kept = inl placed }
word_moves names parts words.Unit placed = record { placed = is_started names.started placed; started = refl; kept = inr refl }
word_moves names parts words.Tick placed = record { placed = is_started names.started placed; started = refl; kept = inr refl }
word_moves names parts words.Deliver placed = record { placed = is_started names.started placed; started = refl; kept = inr refl }
word_moves names parts words.Set placed = record { placed = placed; started = refl; kept = inl placed }
word_moves names parts words.Is placed = record { placed = placed; started = refl; kept = inl placed }
word_moves names parts words.Path placed = record { placed = placed; started = refl; kept = inl placed }
word_moves names parts words.Tsap placed = record { placed = placed; started = refl; kept = inl placed }
word_moves names parts words.Relay placed = record { placed = placed; started = refl; kept = inl placed }
word_moves names parts words.Connect placed = record { placed = is_started names.started placed; started = refl; kept = inr refl }
word_moves names parts words.Accept placed = record { placed = is_started names.started placed; started = refl; kept = inr refl }
word_moves names parts words.Refuse placed = record { placed = is_started names.started placed; started = refl; kept = inr refl }
word_moves names parts words.Disconnect placed = record { placed = is_started names.started placed; started = refl; kept = inr refl }
word_moves names parts words.Data placed = record { placed = is_started names.started placed; started = refl; kept = inr refl }
word_moves names parts words.Expedite placed = record { placed = is_started names.started placed; started = refl; kept = inr refl }
word_moves names parts words.Window placed = record { placed = is_started names.started placed; started = refl; kept = inr refl }
word_moves names parts words.Settle placed = record { placed = is_started names.started placed; started = refl; kept = inr refl }
word_moves names parts words.Inject placed = record { placed = is_started names.started placed; started = refl; kept = inr refl }
word_moves names parts words.Restart placed = record { placed = is_started names.started placed; started = refl; kept = inr refl }
word_moves names parts words.Send placed = record { placed = is_started names.started placed; started = refl; kept = inr refl }

came_moves : (names : Declared) (reading : Reading) → Came names reading → Moves names reading.line reading.names
came_moves names reading (Idle is) = subst (λ (r : Reading). Moves names r.line r.names) (sym is) (idle_moves names)
came_moves names reading (Worded word h) = subst (λ (r : Reading). Moves names r.line r.names) (sym h.is) (word_moves names h.parts word h.placed)

pub line_moves : (names : Declared) (octets : List ℕ) (line : Line) (new : Declared) → line_read names octets ≡ Ok (record { line = line; names = new }) → Moves names line new
line_moves names octets line new is = came_moves names (record { line = line; names = new }) (came names octets (record { line = line; names = new }) is)

-- `start` alone ends the set-up
pub start_only : (line : Line) → is_start line ≡ true → line ≡ lines.Start
start_only lines.Nothing is = absurd (cc)
start_only (lines.Version version) is = absurd (cc)
start_only (lines.Set key value) is = absurd (cc)
start_only (lines.Lan name bound room) is = absurd (cc)
start_only (lines.Es name title) is = absurd (cc)
start_only (lines.Is name title) is = absurd (cc)
start_only (lines.Port system lan snpa) is = absurd (cc)
start_only (lines.Route system prefix next lan) is = absurd (cc)
start_only (lines.Path name kind systems) is = absurd (cc)
start_only (lines.Tsap system selector) is = absurd (cc)
start_only (lines.Relay system selector to called) is = absurd (cc)
start_only lines.Start is = refl
start_only (lines.Connect system selector to called options octets) is = absurd (cc)
start_only (lines.Accept end options octets) is = absurd (cc)
start_only (lines.Refuse end octets) is = absurd (cc)
start_only (lines.Disconnect end octets) is = absurd (cc)
start_only (lines.Data end octets) is = absurd (cc)
start_only (lines.Expedite end octets) is = absurd (cc)
start_only (lines.Window end credit) is = absurd (cc)
start_only (lines.Unit system to wish octets) is = absurd (cc)
start_only lines.Tick is = absurd (cc)
start_only lines.Settle is = absurd (cc)
start_only (lines.Deliver number system) is = absurd (cc)
start_only (lines.Inject lan system octets) is = absurd (cc)
start_only (lines.Restart system) is = absurd (cc)
start_only (lines.Send system selector to called octets) is = absurd (cc)

pub starts_not : (started : Bool) (line : Line) → is_start line ≡ false → started_after started line ≡ started
starts_not started lines.Nothing is = refl
starts_not started (lines.Version version) is = refl
starts_not started (lines.Set key value) is = refl
starts_not started (lines.Lan name bound room) is = refl
starts_not started (lines.Es name title) is = refl
starts_not started (lines.Is name title) is = refl
starts_not started (lines.Port system lan snpa) is = refl
starts_not started (lines.Route system prefix next lan) is = refl
starts_not started (lines.Path name kind systems) is = refl
starts_not started (lines.Tsap system selector) is = refl
starts_not started (lines.Relay system selector to called) is = refl
starts_not started lines.Start is = absurd (cc)
starts_not started (lines.Connect system selector to called options octets) is = refl
starts_not started (lines.Accept end options octets) is = refl
starts_not started (lines.Refuse end octets) is = refl
starts_not started (lines.Disconnect end octets) is = refl
starts_not started (lines.Data end octets) is = refl
starts_not started (lines.Expedite end octets) is = refl
starts_not started (lines.Window end credit) is = refl
starts_not started (lines.Unit system to wish octets) is = refl
starts_not started lines.Tick is = refl
starts_not started lines.Settle is = refl
starts_not started (lines.Deliver number system) is = refl
starts_not started (lines.Inject lan system octets) is = refl
starts_not started (lines.Restart system) is = refl
starts_not started (lines.Send system selector to called octets) is = refl
