-- The frames that events and notes tell stand against those that the LANs numbered: more of the one are more of the other, and a frame that is taken
-- stays the frame that it was.
use Rattle.std.proofs.Common.{◌≡◌, ℕ, zero, suc, ◌+◌, List, [], ◌∷◌, ◌++◌, length, map, take, drop, Option, None, Some, refl, sym, ◌∙◌, ap, subst, arith, append_assoc, length-append}
use Rattle.std.specs.Prelude.{slice_get, slice_set}
use Rattle.std.specs.List.{AllByRecursion}
use Rattle.std.proofs.lemmas.List.{append-nil, length-map, map-append, take_all}
use Rattle.std.proofs.lemmas.Option.{none-some, same_Some}
use Rattle.nsap.specs.declared.port.Port.{Port}
use Rattle.osi_base.specs.declared.note.Note.{Note}
use Rattle.osi_base.specs.declared.note.Note.TheVariants as notes
use Rattle.osi_base.specs.declared.unit.Unit.{Unit as CarriedUnit}
use Rattle.osi_base.specs.declared.unit.Up.{Up}
use Rattle.osi_base.specs.declared.unit.Up.TheVariants.{Unit as Came, Note as Noted}
use Rattle.capture_write.specs.Written.{SentFrame}
use Rattle.lan_frame.specs.Frame.{whole_frame}
use Rattle.lan_step.specs.Bag.{Bag}
use Rattle.lan_step.specs.Frames.{Frame, kept, marked, marked_at, marked_frame}
use Rattle.lan_step.specs.Rows.{sender_of}
use Rattle.lan_step.specs.declared.row.PortRow.{PortRow}
use Rattle.lan_step.proofs.Offering.{some_kept}
use Rattle.script_journal.specs.RawLawful.{clock_after, clock_from}
use Rattle.script_journal.specs.declared.event.Event.{Event}
use Rattle.script_frames.specs.Frames.{AreTold, ToldFrame, sent_in, told_by, told_from}

-- ---- what is told

-- what notes tell of frames
abbrev pub noted_by : ℕ → Note → List ToldFrame
noted_by now (notes.Frame number lan system snpa size) = record { tick = now; number = number; lan = lan; system = system; snpa = snpa; size = size } ∷ []
noted_by now note = []

abbrev pub up_noted : {A : Type 0} → ℕ → Up A → List ToldFrame
up_noted now (Noted note) = noted_by now note
up_noted now (Came arrival) = []

abbrev pub noted : {A : Type 0} → ℕ → List (Up A) → List ToldFrame
noted now [] = []
noted now (up ∷ ups) = up_noted now up ++ noted now ups

pub noted-append : {A : Type 0} (now : ℕ) (xs ys : List (Up A)) → noted now (xs ++ ys) ≡ noted now xs ++ noted now ys
noted-append now [] ys = refl
noted-append now (x ∷ xs) ys = ap (λ (fs : List ToldFrame). up_noted now x ++ fs) (noted-append now xs ys) ∙ sym (append_assoc (up_noted now x) (noted now xs) (noted now ys))

-- no frame is told
abbrev pub NoFrames : {A : Type 0} → List (Up A) → Type 0
NoFrames ups = (now : ℕ) → noted now ups ≡ []

pub told_from-append : (now : ℕ) (xs ys : List Event) → told_from now (xs ++ ys) ≡ told_from now xs ++ told_from (clock_from now xs) ys
told_from-append now [] ys = refl
told_from-append now (x ∷ xs) ys =
    ap (λ (fs : List ToldFrame). told_by now x ++ fs) (told_from-append (clock_after now x) xs ys)
    ∙ sym (append_assoc (told_by now x) (told_from (clock_after now x) xs) (told_from (clock_from (clock_after now x) xs) ys))

-- an event that tells no frame, and leaves the clock
pub record IsPlain (event : Event) : Type 0 where
  pub none : (now : ℕ) → told_by now event ≡ []
  pub clock : (now : ℕ) → clock_after now event ≡ now

abbrev pub ArePlain : List Event → Type 0
ArePlain made = AllByRecursion IsPlain made

pub plain_none : (now : ℕ) (made : List Event) → ArePlain made → told_from now made ≡ []
plain_none now [] all = refl
plain_none now (event ∷ made) all =
    ap (λ (fs : List ToldFrame). fs ++ told_from (clock_after now event) made) (all.0.none now) ∙ plain_none (clock_after now event) made all.1

pub plain_clock : (now : ℕ) (made : List Event) → ArePlain made → clock_from now made ≡ now
plain_clock now [] all = refl
plain_clock now (event ∷ made) all = ap (λ (n : ℕ). clock_from n made) (all.0.clock now) ∙ plain_clock now made all.1

-- ---- what was sent

-- when a frame was sent and what it carries, whoever took it
abbrev pub core : Option Frame → Option (ℕ × CarriedUnit Port)
core None = None
core (Some frame) = Some (frame.tick, frame.unit)

pub record IsEntry (ports : List PortRow) (number : ℕ) (told : ToldFrame) (entry : ℕ × CarriedUnit Port) : Type 0 where
  pub number_is : told.number ≡ number
  pub tick : told.tick ≡ entry.0
  pub sender : sender_of ports (record { lan = told.lan; snpa = entry.1.from.snpa }) ≡ Some told.system
  pub snpa : told.snpa ≡ entry.1.to.snpa
  pub size : told.size ≡ length entry.1.octets + 17

abbrev pub AreEntries : List PortRow → ℕ → List ToldFrame → List (ℕ × CarriedUnit Port) → Type 0
AreEntries ports number [] [] = Unit {0}
AreEntries ports number [] (entry ∷ entries) = ⊥
AreEntries ports number (told ∷ others) [] = ⊥
AreEntries ports number (told ∷ others) (entry ∷ entries) = IsEntry ports number told entry × AreEntries ports (number + 1) others entries

entries_append : (ports : List PortRow) (number next : ℕ) (xs ys : List ToldFrame) (es gs : List (ℕ × CarriedUnit Port)) → next ≡ number + length es → AreEntries ports number xs es → AreEntries ports next ys gs
    → AreEntries ports number (xs ++ ys) (es ++ gs)
entries_append ports number next [] ys [] gs is a b = subst (λ (n : ℕ). AreEntries ports n ys gs) (omega (arith, is)) b
entries_append ports number next [] ys (entry ∷ es) gs is a b = absurd a
entries_append ports number next (told ∷ xs) ys [] gs is a b = absurd a
entries_append ports number next (told ∷ xs) ys (entry ∷ es) gs is a b = (a.0, entries_append ports (number + 1) next xs ys es gs (omega (arith, is)) a.1 b)

-- the LANs numbered the frames that were told, at the same tick, and nothing waits there
pub record Grows (old new : Bag) (told : List ToldFrame) : Type 0 where
  pub entries : List (ℕ × CarriedUnit Port)
  pub frames : map core new.frames ≡ map core old.frames ++ map Some entries
  pub are : AreEntries old.rows (length old.frames + 1) told entries
  pub clock : new.clock ≡ old.clock
  pub ports : new.rows ≡ old.rows
  pub quiet : new.waiting ≡ []

-- nothing was numbered
pub grows_none : (old new : Bag) → map core new.frames ≡ map core old.frames → new.clock ≡ old.clock → new.rows ≡ old.rows → new.waiting ≡ [] → Grows old new []
grows_none old new same clock ports quiet = record { entries = []; frames = same ∙ sym (append-nil (map core old.frames)); are = tt; clock = clock; ports = ports; quiet = quiet }

pub counted : (old new : Bag) (told : List ToldFrame) (g : Grows old new told) → length new.frames ≡ length old.frames + length g.entries
counted old new told g =
    sym (length-map new.frames core) ∙ ap length g.frames ∙ length-append (map core old.frames) (map Some g.entries)
    ∙ ap (λ (n : ℕ). n + length (map Some g.entries)) (length-map old.frames core) ∙ ap (λ (n : ℕ). length old.frames + n) (length-map g.entries Some)

pub grows_on : (a b c : Bag) (xs ys : List ToldFrame) → Grows a b xs → Grows b c ys → Grows a c (xs ++ ys)
grows_on a b c xs ys g h = record {
  entries = g.entries ++ h.entries;
  frames = h.frames ∙ ap (λ (fs : List (Option (ℕ × CarriedUnit Port))). fs ++ map Some h.entries) g.frames ∙ append_assoc (map core a.frames) (map Some g.entries) (map Some h.entries)
      ∙ ap (λ (fs : List (Option (ℕ × CarriedUnit Port))). map core a.frames ++ fs) (sym (map-append Some g.entries h.entries));
  are = entries_append a.rows (length a.frames + 1) (length b.frames + 1) xs ys g.entries h.entries (omega (arith, counted a b xs g)) g.are
      (subst (λ (ports : List PortRow). AreEntries ports (length b.frames + 1) ys h.entries) g.ports h.are);
  clock = h.clock ∙ g.clock;
  ports = h.ports ∙ g.ports;
  quiet = h.quiet;
}

-- a frame that is taken stays what it was
set_core : (frames : List (Option Frame)) (place : ℕ) (frame new : Frame) → slice_get frames place ≡ Some (Some frame) → core (Some new) ≡ core (Some frame)
    → map core (slice_set frames place (Some new)) ≡ map core frames
set_core [] zero frame new at same = absurd (none-some _ at)
set_core [] (suc place) frame new at same = absurd (none-some _ at)
set_core (slot ∷ frames) zero frame new at same =
    let is : slot ≡ Some frame = same_Some _ _ at in
    ap (λ (x : Option (ℕ × CarriedUnit Port)). x ∷ map core frames) (same ∙ sym (ap core is))
set_core (slot ∷ frames) (suc place) frame new at same = ap (λ (xs : List (Option (ℕ × CarriedUnit Port))). core slot ∷ xs) (set_core frames place frame new at same)

marked_slot_core : (frames : List (Option Frame)) (place system : ℕ) (found : Option Frame) → kept (slice_get frames place) ≡ found → map core (marked_frame frames place system found) ≡ map core frames
marked_slot_core frames place system None is = refl
marked_slot_core frames place system (Some frame) is = set_core frames place frame (marked frame system) (some_kept (slice_get frames place) frame is) refl

pub marked_core : (frames : List (Option Frame)) (number system : ℕ) → map core (marked_at frames number system) ≡ map core frames
marked_core frames zero system = refl
marked_core frames (suc place) system = marked_slot_core frames place system (kept (slice_get frames place)) refl

-- ---- what is written

-- what the first slots of these entries hold was told, up to so many
slots_told : (ports : List PortRow) (number : ℕ) (told more : List ToldFrame) (entries : List (ℕ × CarriedUnit Port)) (slots : List (Option Frame)) → AreEntries ports number (told ++ more) entries
    → map core slots ≡ map Some entries → AreTold ports number told (sent_in (take (length told) slots))
slots_told ports number [] more entries slots are is = tt
slots_told ports number (told ∷ others) more [] slots are is = absurd are
slots_told ports number (told ∷ others) more (entry ∷ entries) [] are is = absurd (cc is)
slots_told ports number (told ∷ others) more (entry ∷ entries) (None ∷ slots) are is = absurd (cc is)
slots_told ports number (told ∷ others) more (entry ∷ entries) (Some frame ∷ slots) are is =
    let here : Some (frame.tick, frame.unit) ≡ Some entry = cc is in
    let rest : map core slots ≡ map Some entries = cc is in
    let one : (frame.tick, frame.unit) ≡ entry = same_Some _ _ here in
    let e = are.0 in (
      record {
        number_is = e.number_is;
        tick = ap (λ (x : ℕ × CarriedUnit Port). x.0) one ∙ sym e.tick;
        from = frame.unit.from.snpa;
        sender = ap (λ (x : ℕ × CarriedUnit Port). sender_of ports (record { lan = told.lan; snpa = x.1.from.snpa })) one ∙ e.sender;
        pdu = frame.unit.octets;
        octets = ap (λ (snpa : List ℕ). whole_frame snpa frame.unit.from.snpa frame.unit.octets) (ap (λ (x : ℕ × CarriedUnit Port). x.1.to.snpa) one ∙ sym e.snpa);
        size = e.size ∙ ap (λ (x : ℕ × CarriedUnit Port). length x.1.octets + 17) (sym one);
      },
      slots_told ports (number + 1) others more entries slots are.1 rest,
    )

drop_map : (n : ℕ) (slots : List (Option Frame)) → map core (drop n slots) ≡ drop n (map core slots)
drop_map zero slots = refl
drop_map (suc n) [] = refl
drop_map (suc n) (slot ∷ slots) = drop_map n slots

drop_front : {A : Type 0} (xs ys : List A) (n : ℕ) → n ≡ length xs → drop n (xs ++ ys) ≡ ys
drop_front [] ys zero is = refl
drop_front [] ys (suc n) is = absurd (omega (arith, is))
drop_front (x ∷ xs) ys zero is = absurd (omega (arith, is))
drop_front (x ∷ xs) ys (suc n) is = drop_front xs ys n (omega (arith, is))

-- the new slots are as many as were told
new_slots_are : (old new : Bag) (told : List ToldFrame) (before : ℕ) → before ≡ length old.frames → (g : Grows old new told) → map core (drop before new.frames) ≡ map Some g.entries
new_slots_are old new told before is g =
    drop_map before new.frames ∙ ap (drop before) g.frames ∙ drop_front (map core old.frames) (map Some g.entries) before (is ∙ sym (length-map old.frames core))

-- the first new frames are those that were told first
pub first_told : (old new : Bag) (told more : List ToldFrame) (before : ℕ) → before ≡ length old.frames → Grows old new (told ++ more)
    → AreTold old.rows (before + 1) told (sent_in (take (length told) (drop before new.frames)))
first_told old new told more before is g =
    slots_told old.rows (before + 1) told more g.entries (drop before new.frames) (subst (λ (n : ℕ). AreEntries old.rows (n + 1) (told ++ more) g.entries) (sym is) g.are)
    (new_slots_are old new (told ++ more) before is g)

pub entries_length : (ports : List PortRow) (number : ℕ) (told : List ToldFrame) (entries : List (ℕ × CarriedUnit Port)) → AreEntries ports number told entries → length told ≡ length entries
entries_length ports number [] [] are = refl
entries_length ports number [] (entry ∷ entries) are = absurd are
entries_length ports number (told ∷ others) [] are = absurd are
entries_length ports number (told ∷ others) (entry ∷ entries) are = ap suc (entries_length ports (number + 1) others entries are.1)

-- the new frames are those that were told
pub new_told : (old new : Bag) (told : List ToldFrame) (before : ℕ) → before ≡ length old.frames → Grows old new told → AreTold old.rows (before + 1) told (sent_in (drop before new.frames))
new_told old new told before is g =
    let size : length (drop before new.frames) ≡ length told =
    sym (length-map (drop before new.frames) core) ∙ ap length (new_slots_are old new told before is g) ∙ length-map g.entries Some ∙ sym (entries_length old.rows (length old.frames + 1) told g.entries g.are) in
    subst (λ (slots : List (Option Frame)). AreTold old.rows (before + 1) told (sent_in slots)) (take_all (length told) (drop before new.frames) (omega (arith, size)))
    (first_told old new told [] before is (subst (λ (all : List ToldFrame). Grows old new all) (sym (append-nil told)) g))

-- so many were told
pub told_length : (ports : List PortRow) (number : ℕ) (told : List ToldFrame) (frames : List SentFrame) → AreTold ports number told frames → length told ≡ length frames
told_length ports number [] [] are = refl
told_length ports number [] (frame ∷ frames) are = absurd are
told_length ports number (told ∷ others) [] are = absurd are
told_length ports number (told ∷ others) (frame ∷ frames) are = ap suc (told_length ports (number + 1) others frames are.1)

pub told_append : (ports : List PortRow) (number next : ℕ) (xs ys : List ToldFrame) (fs gs : List SentFrame) → next ≡ number + length fs → AreTold ports number xs fs → AreTold ports next ys gs
    → AreTold ports number (xs ++ ys) (fs ++ gs)
told_append ports number next [] ys [] gs is a b = subst (λ (n : ℕ). AreTold ports n ys gs) (omega (arith, is)) b
told_append ports number next [] ys (frame ∷ fs) gs is a b = absurd a
told_append ports number next (told ∷ xs) ys [] gs is a b = absurd a
told_append ports number next (told ∷ xs) ys (frame ∷ fs) gs is a b = (a.0, told_append ports (number + 1) next xs ys fs gs (omega (arith, is)) a.1 b)
