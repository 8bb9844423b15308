-- A header, numbers and captured octets, each behind what was read before.
use Rattle.std.proofs.Common.{◌≡◌, ◌⊎◌, ◌+◌, ◌≤◌, ℕ, List, [], ◌∷◌, ◌++◌, length, drop, inl, inr, refl, sym, ◌∙◌, ap, subst, append_assoc, arith, Result, Ok, Err, OnOk, IsErrOf}
use Rattle.std.proofs.lemmas.List.{append-nil, length-append}
use Rattle.std.proofs.Math.Seq.{drop-append_seam}
use Rattle.osi_base.specs.declared.status.Status.{Status}
use Rattle.osi_base.specs.declared.status.Status.TheVariants.{NoMemory, RefusedCapture}
use Rattle.capture_decode.specs.Capture.{Record, IsHeader, IsRecord, AreRecords, Begins}
use Rattle.capture_decode.specs.Faults.{IsHeaderFault, IsRecordFault, IsLasting}
use Rattle.capture_decode.specs.Show.{field, head_text, ShowsRecord, ShowsFrom, refused_line}
use Rattle.capture_decode.specs.declared.cause.Cause.{Cause}
use Rattle.capture_decode.specs.declared.cause.Cause.TheVariants.{Length}
use Rattle.capture_decode.specs.declared.order.Order.{Order}
use Rattle.capture_decode.specs.declared.reader.Part.{Part}
use Rattle.capture_decode.specs.declared.reader.Part.TheVariants as parts
use Rattle.capture_decode.specs.declared.reader.Reader.{Reader}
use Rattle.capture_decode.specs.declared.record.Numbers.{Numbers}
use Rattle.capture_decode.specs.steps.Fronts.{number_at_front, begins_more}
use Rattle.capture_decode.specs.steps.Reading.{AreNumbers, head_of, record_of, ComesNext, AppendsRecord, IsAt, ShowsOne, ReadsPart, RefusesPart}
use Rattle.capture_show.specs.Shown.{Appends, pdu_in}
use Rattle.capture_show.specs.declared.ends.End.{End}

drop_all : (xs ys : List ℕ) (n : ℕ) → length xs ≡ n → drop n (xs ++ ys) ≡ ys
drop_all xs ys n is = ap (λ (m : ℕ). drop m (xs ++ ys)) (sym is) ∙ drop-append_seam xs ys

-- one record more
records_on : (order : Order) (xs ys : List ℕ) (records : List Record) (one : Record) → AreRecords order xs records → IsRecord order ys one → AreRecords order (xs ++ ys) (records ++ one ∷ [])
records_on order xs ys [] one h r = (ys, [], ap (λ (t : List ℕ). t ++ ys) h ∙ sym (append-nil ys), r, refl)
records_on order xs ys (first ∷ records) one h r =
    (h.0, h.1 ++ ys, ap (λ (t : List ℕ). t ++ ys) h.2 ∙ append_assoc h.0 h.1 ys, h.3, records_on order h.1 ys records one h.4 r)

shows_on : (number : ℕ) (records : List Record) (one : Record) (ends : List End) (text : List ℕ) (mid : List End) (line : List ℕ) (after : List End)
    → ShowsFrom number records ends text mid → ShowsRecord (length records + number) one mid line after → ShowsFrom number (records ++ one ∷ []) ends (text ++ line) after
shows_on number [] one ends text mid line after h r =
    (line, after, [], subst (λ (e : List End). ShowsRecord number one e line after) h.1 (subst (λ (n : ℕ). ShowsRecord n one mid line after) (omega arith) r), (refl, refl), ap (λ (t : List ℕ). t ++ line) h.0 ∙ sym (append-nil line))
shows_on number (first ∷ records) one ends text mid line after h r =
    (h.0, h.1, h.2 ++ line, h.3, shows_on (number + 1) records one h.1 h.2 mid line after h.4 (subst (λ (n : ℕ). ShowsRecord n one mid line after) (omega arith) r), ap (λ (t : List ℕ). t ++ line) h.5 ∙ append_assoc h.0 h.2 line)

-- the numbers of a record and its octets are the record
record_is : (order : Order) (sixteen part : List ℕ) (numbers : Numbers) → AreNumbers order sixteen numbers → length part ≡ numbers.captured → IsRecord order (sixteen ++ part) (record_of numbers part)
record_is order sixteen part numbers n is = record {
  seconds = n.seconds ∙ sym (number_at_front order 0 4 sixteen part (omega (arith, n.whole)));
  fraction = n.fraction ∙ sym (number_at_front order 4 4 sixteen part (omega (arith, n.whole)));
  captured = is ∙ n.captured ∙ sym (number_at_front order 8 4 sixteen part (omega (arith, n.whole)));
  original = n.original ∙ sym (number_at_front order 12 4 sixteen part (omega (arith, n.whole)));
  whole = omega (arith, n.whole, length-append sixteen part);
  rest = sym (drop_all sixteen part 16 n.whole);
  most = omega (arith, n.most, is);
  within = omega (arith, n.within, is);
}

begins_record : (front part : List ℕ) (order : Order) (records : List Record) (sixteen : List ℕ) (numbers : Numbers) → Begins front order records sixteen → AreNumbers order sixteen numbers → length part ≡ numbers.captured
    → Begins (front ++ part) order (records ++ record_of numbers part ∷ []) []
begins_record front part order records sixteen numbers b n is = record {
  header = b.header;
  body = b.body ++ (sixteen ++ part);
  place = ap (λ (t : List ℕ). t ++ part) b.place ∙ append_assoc b.header (b.body ++ sixteen) part
      ∙ ap (λ (t : List ℕ). b.header ++ t) (append_assoc b.body sixteen part ∙ sym (append-nil (b.body ++ (sixteen ++ part))));
  is_header = b.is_header;
  are_records = records_on order b.body (sixteen ++ part) records (record_of numbers part) b.are_records (record_is order sixteen part numbers n is);
}

-- ---- the lines of a record

head_is : (number : ℕ) (numbers : Numbers) (octets : List ℕ) → numbers.captured ≡ length octets → head_of number numbers ≡ head_text number (record_of numbers octets)
head_is number numbers octets is = ap (λ (n : ℕ). field number ++ (field numbers.seconds ++ (field numbers.fraction ++ field n))) is

told_behind : (number : ℕ) (numbers : Numbers) (octets before between shown now : List ℕ) → numbers.captured ≡ length octets → between ≡ before ++ head_of number numbers → now ≡ between ++ shown
    → now ≡ before ++ (head_text number (record_of numbers octets) ++ shown)
told_behind number numbers octets before between shown now is head rest =
    rest ∙ ap (λ (t : List ℕ). t ++ shown) (head ∙ ap (λ (t : List ℕ). before ++ t) (head_is number numbers octets is)) ∙ append_assoc before (head_text number (record_of numbers octets)) shown

pub frame_told : (number : ℕ) (numbers : Numbers) (octets : List ℕ) (ends : List End) (before between : List ℕ) (after : List End) (now : List ℕ) → numbers.captured ≡ length octets → numbers.original ≤ numbers.captured
    → between ≡ before ++ head_of number numbers → Appends (pdu_in octets) ends between after now → AppendsRecord number (record_of numbers octets) ends before after now
frame_told number numbers octets ends before between after now is whole head a = record {
  told = head_text number (record_of numbers octets) ++ a.text;
  shows = λ within. record { shown = a.text; shows = inr (omega (arith, is, whole, within), a.shows); text_is = refl };
  appended = told_behind number numbers octets before between a.text now is head a.appended;
}

-- ---- parts

next_is : (next : Part) (other : Part) (front : List ℕ) (records : List Record) → next ≡ other → ComesNext next front records → ComesNext other front records
next_is next other front records is h = subst (λ (p : Part). ComesNext p front records) is h

pub at_start : (reader : Reader) → reader.next ≡ parts.Header → reader.records ≡ 0 → reader.ends ≡ [] → IsAt [] [] reader
at_start reader next none ends = record {
  records = [];
  next = next_is parts.Header reader.next [] [] (sym next) (refl, refl);
  shows = (refl, ends);
  counted = sym none;
}

-- nothing is shown of a part
at_part : (text : List ℕ) (old new : Reader) (front more : List ℕ) (at : IsAt front text old) → ComesNext new.next more at.records → new.records ≡ old.records → new.ends ≡ old.ends → IsAt more (text ++ []) new
at_part text old new front more at next same ends = record {
  records = at.records;
  next = next;
  shows = subst (λ (t : List ℕ). ShowsFrom 1 at.records [] t new.ends) (sym (append-nil text)) (subst (λ (e : List End). ShowsFrom 1 at.records [] text e) (sym ends) at.shows);
  counted = at.counted ∙ sym same;
}

header_begins : (front part : List ℕ) (order : Order) → front ≡ [] → IsHeader order part → Begins (front ++ part) order [] []
header_begins front part order none h = record {
  header = part;
  body = [];
  place = ap (λ (t : List ℕ). t ++ part) none ∙ sym (append-nil part);
  is_header = h;
  are_records = refl;
}

pub header_read : (order : Order) (part : List ℕ) (old new : Reader) (out : List ℕ) → old.next ≡ parts.Header → IsHeader order part → new.next ≡ parts.Numbers order → new.records ≡ old.records → new.ends ≡ old.ends
    → ReadsPart part old out new out
header_read order part old new out next h then_next same ends = record {
  told = [];
  appended = sym (append-nil out);
  goes_on = λ front text at.
      let k = next_is old.next parts.Header front at.records next at.next in
      at_part text old new front (front ++ part) at
      (next_is (parts.Numbers order) new.next (front ++ part) at.records (sym then_next)
      (subst (λ (rs : List Record). Begins (front ++ part) order rs []) (sym k.1) (header_begins front part order k.0 h))) same ends;
}

pub numbers_read : (order : Order) (numbers : Numbers) (part : List ℕ) (old new : Reader) (out : List ℕ) → old.next ≡ parts.Numbers order → AreNumbers order part numbers → new.next ≡ parts.Captured order numbers
    → new.records ≡ old.records → new.ends ≡ old.ends → ReadsPart part old out new out
numbers_read order numbers part old new out next n then_next same ends = record {
  told = [];
  appended = sym (append-nil out);
  goes_on = λ front text at.
      let k = next_is old.next (parts.Numbers order) front at.records next at.next in
      at_part text old new front (front ++ part) at
      (next_is (parts.Captured order numbers) new.next (front ++ part) at.records (sym then_next) (part, n, begins_more front part order at.records [] k)) same ends;
}

-- a record was shown
at_record : (order : Order) (numbers : Numbers) (part sixteen front text : List ℕ) (old new : Reader) (before after : List ℕ) (s : ShowsOne order (record_of numbers part) old before new after) (at : IsAt front text old) (base : List ℕ)
    → Begins base order at.records sixteen → AreNumbers order sixteen numbers → length part ≡ numbers.captured → IsAt (base ++ part) (text ++ s.appends.told) new
at_record order numbers part sixteen front text old new before after s at base b n is = record {
  records = at.records ++ record_of numbers part ∷ [];
  next = next_is (parts.Numbers order) new.next (base ++ part) (at.records ++ record_of numbers part ∷ []) (sym s.next) (begins_record base part order at.records sixteen numbers b n is);
  shows = shows_on 1 at.records (record_of numbers part) [] text old.ends s.appends.told new.ends at.shows
      (subst (λ (m : ℕ). ShowsRecord m (record_of numbers part) old.ends s.appends.told new.ends) (sym (ap (λ (m : ℕ). m + 1) at.counted)) (s.appends.shows (omega (arith, n.within, is))));
  counted = omega (arith, length-append at.records (record_of numbers part ∷ []), at.counted, s.counted);
}

pub shown_captured : (order : Order) (numbers : Numbers) (part : List ℕ) (old new : Reader) (before after : List ℕ) → old.next ≡ parts.Captured order numbers → length part ≡ numbers.captured
    → ShowsOne order (record_of numbers part) old before new after → ReadsPart part old before new after
shown_captured order numbers part old new before after next is s = record {
  told = s.appends.told;
  appended = s.appends.appended;
  goes_on = λ front text at.
      let k = next_is old.next (parts.Captured order numbers) front at.records next at.next in
      at_record order numbers part k.0 front text old new before after s at front k.2 k.1 is;
}

pub shown_empty : (order : Order) (numbers : Numbers) (part : List ℕ) (old new : Reader) (before after : List ℕ) → old.next ≡ parts.Numbers order → AreNumbers order part numbers → numbers.captured ≡ 0
    → ShowsOne order (record_of numbers []) old before new after → ReadsPart part old before new after
shown_empty order numbers part old new before after next n none s = record {
  told = s.appends.told;
  appended = s.appends.appended;
  goes_on = λ front text at.
      let k = next_is old.next (parts.Numbers order) front at.records next at.next in
      subst (λ (xs : List ℕ). IsAt xs (text ++ s.appends.told) new) (append-nil (front ++ part))
      (at_record order numbers [] part front text old new before after s at (front ++ part) (begins_more front part order at.records [] k) n (sym none));
}

pub refused_header : (part : List ℕ) (start : ℕ) (offset : ℕ) (cause : Cause) (old : Reader) (before after : List ℕ) → old.next ≡ parts.Header → IsHeaderFault part offset cause → IsLasting cause
    → after ≡ before ++ refused_line offset cause → RefusesPart part start old before after
refused_header part start offset cause old before after next fault lasting appended = record {
  offset = offset;
  cause = cause;
  lasting = lasting;
  told = refused_line offset cause;
  appended = appended;
  refused = λ front text at is.
      let k = next_is old.next parts.Header front at.records next at.next in
      record {
        records = at.records;
        fault = inl (k.1, subst (λ (xs : List ℕ). IsHeaderFault (xs ++ part) offset cause) (sym k.0) fault);
        shown = text;
        shows = (old.ends, at.shows);
        text_is = refl;
      };
}

pub refused_length : (order : Order) (part : List ℕ) (start : ℕ) (old : Reader) (before after : List ℕ) → old.next ≡ parts.Numbers order → IsRecordFault order part Length
    → after ≡ before ++ refused_line start Length → RefusesPart part start old before after
refused_length order part start old before after next fault appended = record {
  offset = start;
  cause = Length;
  lasting = tt;
  told = refused_line start Length;
  appended = appended;
  refused = λ front text at is.
      let k = next_is old.next (parts.Numbers order) front at.records next at.next in
      record {
        records = at.records;
        fault = inr (record {
          order = order;
          rest = part;
          begins = begins_more front part order at.records [] k;
          fault = fault;
          place = omega (arith, is, length-append front part);
        });
        shown = text;
        shows = (old.ends, at.shows);
        text_is = refl;
      };
}

-- a status by which a part is refused
pub refused_as : {P X : Type 0} (made status : Status) → (P → X) → IsErrOf {T = Unit {0}} (Err made) status → (made ≡ NoMemory) ⊎ ((made ≡ RefusedCapture) × P) → (status ≡ NoMemory) ⊎ ((status ≡ RefusedCapture) × X)
refused_as made status f is (inl memory) = let same : made ≡ status = cc in inl (sym same ∙ memory)
refused_as made status f is (inr refused) = let same : made ≡ status = cc in inr (sym same ∙ refused.0, f refused.1)

pub on_ok : {T E : Type 0} {P Q : Type 0} (result : Result T E) → (P → Q) → OnOk result P → OnOk result Q
on_ok (Ok value) f h = f h
on_ok (Err error) f h = h

pub on_three : {T E : Type 0} {P Q R S : Type 0} (result : Result T E) → (P → Q → R → S) → OnOk result P → OnOk result Q → OnOk result R → OnOk result S
on_three (Ok value) f h k l = f h k l
on_three (Err error) f h k l = h
