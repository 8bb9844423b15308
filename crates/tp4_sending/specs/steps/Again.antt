-- The DT at one place of the window is sent again.
use Rattle.std.specs.Prelude.{ℕ, ◌+◌, [], get_or, slice_set, if◌then◌else◌}
use Rattle.tp4_number.specs.Sender.{sent_again}
use Rattle.tp4_sending.specs.declared.tries.Tries.{Tries}
use Rattle.tp4_sending.specs.SendingHalf.{FlowSender, Sendings, nothing, block_in, dts_of}
use Rattle.tp4_sending.specs.Pieces.{is_due, once, again}

abbrev pub retried : FlowSender → ℕ → Tries → FlowSender
retried s at tries = record s {
  numbers = sent_again (block_in s) s.numbers (s.numbers.base + at) s.clock;
  window = slice_set s.window at (again s.clock tries);
}

abbrev pub resend_as : FlowSender → ℕ → Tries → Sendings
resend_as s at tries =
    if is_due s.rules.t1 s.clock tries then record { sender = retried s at tries; events = []; tpdus = dts_of s (s.numbers.base + at) }
    else nothing s

-- where its T1 has passed
abbrev pub resend_at : FlowSender → ℕ → Sendings
resend_at s at = resend_as s at (get_or s.window at (once 0))
