-- What each row leaves of an end, whatever its receiving half keeps of a number (X.224, class 4 state tables).
use Rattle.std.specs.Prelude.{ℕ, ◌≡◌, List, Some}
use Rattle.tp4_conn.specs.End.{End, Moved}
use Rattle.tp4_conn.specs.Table.{Event, stepped}
use Rattle.law_tp4_rows.specs.Leaving.{Leaves}
use Rattle.tpdu.specs.declared.tpdu.Tpdu.{Tpdu}
use Rattle.tp4_conn.specs.declared.call.ConnectCall.{ConnectCall}
use Rattle.tp4_conn.specs.declared.timers.Timers.{Timers}
use Rattle.tp4_conn.specs.Making.{connected, on_cr}
use Rattle.law_tp4_rows.specs.Giving.{EventGives, Gives, GivesCredit, GivesRow}

abbrev pub RowsLeave : Type 0
RowsLeave = (wrap : ℕ → ℕ → ℕ) (now : ℕ) (e : End) (event : Event) → Leaves now e.base e.stage (stepped wrap now e event)

-- ---- each CR and each CC gives the credit of the timers (X.224, class 4: connection establishment, explicit flow control)

-- over each row, where what comes does
abbrev pub RowsGive : Type 0
RowsGive = (credit : ℕ) (wrap : ℕ → ℕ → ℕ) (now : ℕ) (e : End) (event : Event) → Gives credit e.base e.stage → EventGives credit event → GivesRow credit (stepped wrap now e event)

-- of an end that a connect request makes, or a CR
abbrev pub ConnectsGive : Type 0
ConnectsGive = (credit made : ℕ) (call : ConnectCall) → call.rules.credit ≡ credit → GivesRow credit (connected made call)

abbrev pub IndicatesGive : Type 0
IndicatesGive = (credit made own : ℕ) (from : List ℕ) (rules : Timers) (cr : Tpdu) (m : Moved) → rules.credit ≡ credit → GivesCredit credit cr → on_cr made own from rules cr ≡ Some m
    → GivesRow credit m
