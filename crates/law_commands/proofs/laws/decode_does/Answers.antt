use Rattle.std.specs.Prelude.{◌≡◌, true, ℕ, ◌+◌, ◌≤◌, List, Option, codes, length}
use Rattle.octet_loop.specs.Limits.{most_octets, most_read}
use Rattle.octet_loop.specs.Outcome.{Outcome}
use Rattle.osi_base.specs.Ends.{IsAtEnd, Put, Took}
use Rattle.capture_decode.specs.Course.{Finishes, capture_course}
use Rattle.capture_decode.proofs.OneAnswer.{ran_past, ran_refused}
use Rattle.law_commands.specs.EachCommand.{Call, Serves, is_decode}
use Rattle.osi_commands.specs.declared.command.Command.TheVariants.{Decode}
use Rattle.law_commands.proofs.EachCommand.{status_first, word_is}
use Rattle.law_commands.proofs.laws.decode_does.Goals as goal

told : (call : Call) → Serves call → is_decode call.words ≡ true
    → (read : List ℕ) × (written : List ℕ) × Took call.left read call.left_now × Put call.held written call.held_now
    × Outcome capture_course (IsAtEnd call.left_now) read written call.status × (length read ≤ most_octets + most_read)
told call serves is = let w = (serves Decode (word_is (codes "decode") call.words is)).told in (w.0, w.1, w.2, w.3, w.4.0, w.4.1)

pub returns-clause-told : goal.returns-clause-told
returns-clause-told c call serves is = told call serves is

pub returns-clause-exact : goal.returns-clause-exact
returns-clause-exact c call serves is = (serves Decode (word_is (codes "decode") call.words is)).exact

pub returns-clause-complete : goal.returns-clause-complete
returns-clause-complete c call serves is all tells accepted no_read no_write =
    status_first (λ (text : List ℕ). Finishes all text) call.held call.held_now call.status
    ((serves Decode (word_is (codes "decode") call.words is)).complete all tells accepted no_read no_write)

pub returns-clause-refused : goal.returns-clause-refused
returns-clause-refused c call serves is all offset cause tells refused =
    ran_refused c.one_show.ensures (λ (left : Option (List ℕ)). left) (λ (held : Option (List ℕ)). held) call.left call.held call.left_now call.held_now call.status (told call serves is) all offset cause tells refused

pub returns-clause-past : goal.returns-clause-past
returns-clause-past c call serves is all tells past =
    ran_past c.one_show.ensures (λ (left : Option (List ℕ)). left) (λ (held : Option (List ℕ)). held) call.left call.held call.left_now call.held_now call.status (told call serves is) all tells past
