-- Two ends of one connection and all that waits between them, where nothing is lost and all is handed over in order before a user or the
-- clock acts (X.224, class 4 state tables; X.214, queue model).
use Rattle.std.specs.Prelude.{◌≡◌, ℕ, ◌+◌, ◌≤◌, Bool, List, [], ◌∷◌, ◌++◌, None, if◌then◌else◌}
use Rattle.script_journal.specs.Lawful.{Marked}
use Rattle.tp4_flow.specs.declared.step.EndEvent.{EndEvent}
use Rattle.tp4_flow.specs.declared.step.Sent.{Sent}
use Rattle.tp4_number.specs.Number.{whole}
use Rattle.tp4_conn.specs.declared.call.UserCall.{UserCall}
use Rattle.tp4_conn.specs.declared.states.InOpened.{InOpened}
use Rattle.tp4_conn.specs.declared.states.InCrWait.{InCrWait}
use Rattle.tp4_conn.specs.declared.states.StateData.TheVariants.{CrWait, Opened, UserWait}
use Rattle.tpdu.specs.declared.service.Options.{Options}
use Rattle.tp4_conn.specs.Calls.{call_refusal}
use Rattle.tp4_conn.specs.End.{End, IsProposal, IsSized, Moved, end_of, stays}
use Rattle.tp4_conn.specs.Table.{Called, Took, Ticked, stepped}
use Rattle.law_tp4_history.specs.Lines.{given, shown_in}

pub record Pair : Type 0 where
  pub clock : ℕ
  pub calling : End
  pub called : End
  pub forth : List Sent  -- what waits for the called end
  pub back : List Sent  -- what waits for the calling end
  pub calling_gave : List Marked  -- the units that the user of the calling end submitted
  pub called_gave : List Marked
  pub calling_showed : List Marked  -- the units that the calling end showed
  pub called_showed : List Marked
  pub calling_told : List EndEvent  -- all that the calling end told
  pub called_told : List EndEvent

-- what may happen next
pub data Happening : Type 0 where
  Comes_forth : Happening  -- the first TPDU that waits for the called end is handed over
  Comes_back : Happening
  Asks_calling : (call : UserCall) → Happening  -- a call of the user of the calling end
  Asks_called : (call : UserCall) → Happening
  Clock : (calling called : Bool) → Happening  -- a tick passes, and these ends have one

-- nothing waits
pub record IsIdle (p : Pair) : Type 0 where
  pub forth : p.forth ≡ []
  pub back : p.back ≡ []

-- both ends are Opened, and nothing waits
abbrev pub AreOpened : Pair → Type 0
AreOpened p = (o q : InOpened) × (p.calling.stage ≡ Opened o) × (p.called.stage ≡ Opened q) × IsIdle p

abbrev pub May : Pair → Happening → Type 0
May p Comes_forth = Unit {0}
May p Comes_back = Unit {0}
May p (Asks_calling call) = IsIdle p × (call_refusal p.calling.base p.calling.stage call ≡ None)
May p (Asks_called call) = IsIdle p × (call_refusal p.called.base p.called.stage call ≡ None)
May p (Clock calling called) = IsIdle p

abbrev pub comes_forth : Pair → List Sent → Pair
comes_forth p [] = p
comes_forth p (sent ∷ rest) = let m = stepped whole p.clock p.called (Took sent.tpdu sent.sum) in record p {
  called = end_of m;
  forth = rest;
  back = p.back ++ m.tpdus;
  called_showed = p.called_showed ++ shown_in m.events;
  called_told = p.called_told ++ m.events;
}

abbrev pub comes_back : Pair → List Sent → Pair
comes_back p [] = p
comes_back p (sent ∷ rest) = let m = stepped whole p.clock p.calling (Took sent.tpdu sent.sum) in record p {
  calling = end_of m;
  back = rest;
  forth = p.forth ++ m.tpdus;
  calling_showed = p.calling_showed ++ shown_in m.events;
  calling_told = p.calling_told ++ m.events;
}

abbrev pub asks_calling : Pair → UserCall → Pair
asks_calling p call = let m = stepped whole p.clock p.calling (Called call) in record p {
  calling = end_of m;
  forth = p.forth ++ m.tpdus;
  calling_gave = p.calling_gave ++ given (Called call);
  calling_showed = p.calling_showed ++ shown_in m.events;
  calling_told = p.calling_told ++ m.events;
}

abbrev pub asks_called : Pair → UserCall → Pair
asks_called p call = let m = stepped whole p.clock p.called (Called call) in record p {
  called = end_of m;
  back = p.back ++ m.tpdus;
  called_gave = p.called_gave ++ given (Called call);
  called_showed = p.called_showed ++ shown_in m.events;
  called_told = p.called_told ++ m.events;
}

-- an end has a tick, or has none
abbrev pub tick_of : Bool → ℕ → End → Moved
tick_of ticks now e = if ticks then stepped whole now e Ticked else stays e.base e.stage

abbrev pub clocked : Pair → Moved → Moved → Pair
clocked p m n = record {
  clock = p.clock + 1;
  calling = end_of m;
  called = end_of n;
  forth = p.forth ++ m.tpdus;
  back = p.back ++ n.tpdus;
  calling_gave = p.calling_gave;
  called_gave = p.called_gave;
  calling_showed = p.calling_showed ++ shown_in m.events;
  called_showed = p.called_showed ++ shown_in n.events;
  calling_told = p.calling_told ++ m.events;
  called_told = p.called_told ++ n.events;
}

abbrev pub next : Pair → Happening → Pair
next p Comes_forth = comes_forth p p.forth
next p Comes_back = comes_back p p.back
next p (Asks_calling call) = asks_calling p call
next p (Asks_called call) = asks_called p call
next p (Clock calling called) = clocked p (tick_of calling (p.clock + 1) p.calling) (tick_of called (p.clock + 1) p.called)

-- these can happen in this order, and lead from one to the other
abbrev pub Leads : Pair → List Happening → Pair → Type 0
Leads old [] new = new ≡ old
Leads old (happening ∷ happenings) new = May old happening × Leads (next old happening) happenings new

-- ---- what is said of a pair

-- the units of one direction: those submitted at the one end, those shown at the other
pub record Account : Type 0 where
  pub gave : List Marked
  pub showed : List Marked

-- the units of both directions
abbrev pub forth_units : Pair → Account
forth_units p = record { gave = p.calling_gave; showed = p.called_showed }

abbrev pub back_units : Pair → Account
back_units p = record { gave = p.called_gave; showed = p.calling_showed }

-- no unit was submitted or shown
pub record IsNew (p : Pair) : Type 0 where
  pub calling_gave : p.calling_gave ≡ []
  pub called_gave : p.called_gave ≡ []
  pub calling_showed : p.calling_showed ≡ []
  pub called_showed : p.called_showed ≡ []

-- the CR of the calling end was indicated to the called end, whose user accepts with these options: nothing waits, and each knows of the other what
-- its CR and its timers say
pub record Accepts (p : Pair) (asked : Options) : Type 0 where
  pub idle : IsIdle p
  pub request : InCrWait
  pub calling : p.calling.stage ≡ CrWait request
  pub since : ℕ
  pub called : p.called.stage ≡ UserWait since
  pub proposed : p.called.base.proposed ≡ p.calling.base.proposed
  pub named : p.called.base.partner ≡ p.calling.base.own
  pub known : p.called.base.credit ≡ p.calling.base.timers.credit
  pub low : p.calling.base.timers.credit ≤ 15
  pub low_there : p.called.base.timers.credit ≤ 15
  pub size : IsProposal p.called.base.proposed
  pub size_asked : IsSized asked
  pub new : IsNew p
