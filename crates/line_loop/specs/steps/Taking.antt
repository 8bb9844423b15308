-- What the octets of an input come to on a machine, for the loop over octets.
use Rattle.std.specs.Prelude.{◌≡◌, ◌⊎◌, ℕ, List, ◌++◌}
use Rattle.octet_loop.specs.Course.{Course}
use Rattle.octet_loop.specs.steps.Taking.{Progress, Laws}
use Rattle.osi_base.specs.declared.status.Status.{Status}
use Rattle.osi_base.specs.declared.status.Status.TheVariants.{Done, RefusedLine, RefusedWords, ReadFault, WriteFault, NoMemory, RefusedCapture, TooMuch}
use Rattle.line_loop.specs.Course.{IsRead, IsWhole, IsTooMuch, IsTooMuchAtEnd, IsRefusedAt, IsRefusedAtEnd}
use Rattle.line_loop.specs.Meaning.{Meaning}
use Rattle.line_loop.specs.steps.Feeding.{Held, IsCounted, Fed}

-- a closing was appended and the run ends so, unless memory ran out
abbrev pub IsClosing : List ℕ → Status → List ℕ → List ℕ → Status → Type 0
IsClosing closing end before after status = (status ≡ NoMemory) ⊎ ((status ≡ end) × (after ≡ before ++ closing))

module _ {M E R : Type 0} (meaning : Meaning M E R) where
  -- a line that is refused, or an octet that passes a limit or ends a line that fills the journal
  abbrev pub Stopped : M → List ℕ → List ℕ → Status → Type 0
  Stopped first read text RefusedLine = (line : ℕ) × (said : R) × (journal : List E) × (last : M)
      × IsRefusedAt meaning first read line said journal last × (text ≡ meaning.text last journal ++ meaning.refused last line said)
  Stopped first read text TooMuch = (journal : List E) × (last : M)
      × IsTooMuch meaning first read journal last × (text ≡ meaning.text last journal ++ meaning.too_much last)
  Stopped first read text Done = ⊥
  Stopped first read text ReadFault = ⊥
  Stopped first read text WriteFault = ⊥
  Stopped first read text NoMemory = ⊥
  Stopped first read text RefusedWords = ⊥
  Stopped first read text RefusedCapture = ⊥

  -- all lines ran, or the last one is refused or fills the journal
  abbrev pub Ended : M → List ℕ → List ℕ → Status → Type 0
  Ended first read text Done = (journal : List E) × (last : M)
      × IsWhole meaning first read journal last × (text ≡ meaning.text last journal ++ meaning.done last)
  Ended first read text RefusedLine = (line : ℕ) × (said : R) × (journal : List E) × (last : M)
      × IsRefusedAtEnd meaning first read line said journal last × (text ≡ meaning.text last journal ++ meaning.refused last line said)
  Ended first read text TooMuch = (journal : List E) × (last : M)
      × IsTooMuchAtEnd meaning first read journal last × (text ≡ meaning.text last journal ++ meaning.too_much last)
  Ended first read text ReadFault = ⊥
  Ended first read text WriteFault = ⊥
  Ended first read text NoMemory = ⊥
  Ended first read text RefusedWords = ⊥
  Ended first read text RefusedCapture = ⊥

  -- what octets come to, from the first state of the machine
  abbrev pub line_course : M → Course
  line_course first = record {
    reads = λ read text. (journal : List E) × (last : M) × IsRead meaning first read journal last × (text ≡ meaning.text last journal);
    stops = Stopped first;
    ends = Ended first;
    over = λ read text. (journal : List E) × (last : M) × IsRead meaning first read journal last × (text ≡ meaning.text last journal ++ meaning.too_much last);
  }

  -- the lines so far ran, and were told
  abbrev pub feeding : Progress (Held M)
  feeding = record {
    ready = IsCounted meaning;
    octets = λ now. now.octets;
    led = λ first read text now. (journal : List E) × Fed meaning first.machine read journal now × (text ≡ meaning.text now.machine journal);
  }

  pub line_laws : Laws (λ feed. line_course feed.machine) feeding
  line_laws = record {
    counted = λ first read text now l. l.1.octets;
    reads = λ first read text now l. (l.0, now.machine, l.1.so_far, l.2);
  }
