-- UserWait: a CR came, and the user has not answered (X.224, class 4 state tables).
use Rattle.std.specs.Prelude.{ℕ, ◌+◌, nat_lt, List, [], ◌∷◌, Some, None, if◌then◌else◌}
use Rattle.tpdu.specs.declared.tpdu.Tpdu.TheVariants.{Dr}
use Rattle.tpdu.specs.declared.service.Options.{Options}
use Rattle.tpdu.specs.declared.service.GoneCause.TheVariants.{AnswerTime}
use Rattle.tp4_flow.specs.declared.step.Sent.{Sent}
use Rattle.tpdu.specs.declared.service.EndTold.TheVariants.{Accept}
use Rattle.tp4_sending.specs.Pieces.{once}
use Rattle.tp4_conn.specs.declared.end_record.EndRecord.{EndRecord}
use Rattle.tp4_conn.specs.declared.states.StateData.TheVariants.{UserWait, AkWait}
use Rattle.tp4_conn.specs.Agreeing.{agreed_by, halves_of, confirm}
use Rattle.tp4_conn.specs.End.{Moved, stays, tell, send, gone, frozen}

-- DR 128 with source 0
abbrev pub refusing : EndRecord → List ℕ → Sent
refusing b octets = send b (Dr b.partner 0 128 None octets)

-- accept: CC; AkWait
abbrev pub accepted : EndRecord → Options → List ℕ → Moved
accepted b o octets = record {
  base = b;
  stage = AkWait (record { octets = octets; first = b.clock; tries = once b.clock; halves = halves_of b o });
  events = tell b (Accept o octets) ∷ [];
  tpdus = confirm b o octets ∷ [];
}

unfoldable pub user_wait_accept : EndRecord → Options → List ℕ → Moved
user_wait_accept b asked octets = accepted (record b { agreed = Some (agreed_by b.proposed asked) }) (agreed_by b.proposed asked) octets

-- refuse: DR 128 with source 0; Frozen
unfoldable pub user_wait_refuse : EndRecord → List ℕ → Moved
user_wait_refuse b octets = frozen b [] (refusing b octets ∷ [])

-- I ticks since the indication: gone answertime; DR 128 with source 0; Frozen
unfoldable pub user_wait_tick : EndRecord → ℕ → Moved
user_wait_tick b since =
    if nat_lt b.clock (since + b.timers.inactive) then stays b (UserWait since)
    else frozen b (gone b AnswerTime []) (refusing b [] ∷ [])
