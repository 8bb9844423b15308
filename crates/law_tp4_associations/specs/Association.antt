-- An association of two ends: the calling end, and the called one once the CR was indicated; and what waits for both (X.224, class 4: association of
-- TPDUs with connections; X.214, queue model).
use Rattle.std.specs.Prelude.{ℕ, ◌==◌, Bool, true, false, not, ◌&&◌, List, [], ◌∷◌, Option, Some, None, if◌then◌else◌}
use Rattle.tp4_flow.specs.declared.step.Sent.{Sent}
use Rattle.tp4_conn.specs.End.{End}
use Rattle.tp4_world.specs.declared.place.EndAt.{EndAt}

-- an end that was taken out, or whose reference was given again, does not stand any more; a frozen one stands
pub record Association : Type 0 where
  pub from : EndAt  -- where its calling end was made
  pub to : ℕ  -- the system that was called
  pub calling : Option End  -- the calling end, as long as it stands
  pub called : Option End  -- the called end, once it was made and as long as it stands

-- the calling end (true), or the called one
abbrev pub party : Association → Bool → Option End
party a true = a.calling
party a false = a.called

-- the system of that end
abbrev pub system_of : Association → Bool → ℕ
system_of a true = a.from.system
system_of a false = a.to

-- that end is another one now
abbrev pub with_party : Association → Bool → Option End → Association
with_party a true end = record a { calling = end }
with_party a false end = record a { called = end }

-- a TPDU that waits: the number of its association, and whether it is from the side of the calling end
pub record Posted : Type 0 where
  pub of : ℕ
  pub by : Bool
  pub sent : Sent

abbrev pub post : ℕ → Bool → List Sent → List Posted
post k by [] = []
post k by (sent ∷ tpdus) = record { of = k; by = by; sent = sent } ∷ post k by tpdus

abbrev pub is_same : Bool → Bool → Bool
is_same true other = other
is_same false other = not other

-- what waits of an association from that side, in order
abbrev pub waiting : ℕ → Bool → List Posted → List Sent
waiting k by [] = []
waiting k by (posted ∷ queue) = if posted.of == k && is_same posted.by by then posted.sent ∷ waiting k by queue else waiting k by queue

-- no end of that system and reference stands in it: a later end has the reference
abbrev pub without : ℕ → Option End → Option End
without reference None = None
without reference (Some end) = if end.base.own == reference then None else Some end

abbrev pub cleared : ℕ → ℕ → Association → Association
cleared system reference a = record a {
  calling = if a.from.system == system then without reference a.calling else a.calling;
  called = if a.to == system then without reference a.called else a.called;
}
