-- The receiver of a line that begins has the room with which the line begins.
use Rattle.std.proofs.Common.{◌≡◌, ℕ, List, sym, ◌∙◌, ap}
use Rattle.tp4_flow.specs.ReceivingHalf.{Half}
use Rattle.tpdu.specs.declared.service.Options.{Options}
use Rattle.tp4_number.specs.Receiver.{Inbox}
use Rattle.tp4_conn.specs.declared.end_record.EndRecord.{EndRecord}
use Rattle.tp4_conn.specs.UserWait.{user_wait_accept}
use Rattle.law_tp4_history.specs.Ends.{Terms, Times}
use Rattle.law_tp4_history.specs.Line.{Line}
use Rattle.law_tp4_history.specs.Tracks.{Starts, Track}
use Rattle.law_tp4_history.specs.Lines.{AreUntouched, IsReceivingAt, Stands}

room_is : (times : Times) (now : ℕ) (h : Half) (t : Track) → Starts times now t → IsReceivingAt h t → t.room ≡ h.receiver.inbox.credit
room_is times now h t starts r = sym (ap (λ (l : Line). l.world.receiver.inbox.credit) starts.line) ∙ ap (λ (x : Inbox). x.credit) r.inbox

pub lines_room : (times : Times) (terms agreed : Terms) (now credit : ℕ) (b : EndRecord) (asked : Options) (octets : List ℕ) (own theirs : Track) → b.timers.credit ≡ credit
    → Starts times now own → Starts times now theirs → Stands terms (user_wait_accept b asked octets).base (user_wait_accept b asked octets).stage own theirs → AreUntouched agreed b theirs own
    → (own.room ≡ credit) × (theirs.room ≡ credit)
unfolding user_wait_accept
lines_room times terms agreed now credit b asked octets own theirs is own_starts they_start stands untouched =
    (room_is times now _ own own_starts untouched.receiving ∙ is, room_is times now _ theirs they_start stands.receiving ∙ is)
