-- What a call of the network of users adds to no events is all of them, and a line of that network is a line of what runs it.
use Rattle.std.proofs.Common.{◌≡◌, ◌++◌, [], ℕ, List, Result, Ok, Err, refl, sym, ◌∙◌, ap, subst}
use Rattle.std.specs.Prelude.{OnOk}
use Rattle.osi_base.specs.Link.{Link}
use Rattle.osi_base.specs.Calls.{Call}
use Rattle.cltp.specs.Run.{Tells}
use Rattle.cltp.specs.Systems.{World}
use Rattle.script_journal.specs.declared.event.Event.{Event}
use Rattle.script_lines.specs.declared.line.Line.{Line}
use Rattle.law_datagram_run.specs.Datagrams.{DatagramRun, RunsDatagrams, RunsLine}

pub tells_all : (before after : List Event) (Made : List Event → Type 0) → before ≡ [] → Tells before after Made → Made after
tells_all before after Made none tells = subst Made (sym (tells.added ∙ ap (λ (es : List Event). es ++ tells.made) none)) tells.are

pub runs_on : {N E : Type 0} (link : N → Link (List ℕ)) (steps : N → Call (List ℕ) → N → Type 0) (old : DatagramRun N) (titles given : List (List ℕ)) (life : ℕ) (before new : World N) (line : Line)
    (made : List Event) (result : Result (Unit {0}) E) → record { titles = titles; life = life; world = before } ≡ old → given ≡ titles → OnOk result (RunsLine link steps given before line made new)
    → OnOk result (RunsDatagrams link steps old line made (record { titles = titles; life = life; world = new }))
runs_on link steps old titles given life before new line made (Err error) is same h = h
runs_on {N} link steps old titles given life before new line made (Ok value) is same h =
    subst (λ (o : DatagramRun N). RunsDatagrams link steps o line made (record { titles = titles; life = life; world = new })) is
    (new, subst (λ (t : List (List ℕ)). RunsLine link steps t before line made new) same h, refl)
