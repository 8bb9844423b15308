-- What a decoder took are whole records of a capture, and less than a whole one.
use Rattle.std.proofs.Common.{◌≡◌, ◌+◌, ◌<◌, ◌≤◌, ℕ, List, [], ◌++◌, length, inl, inr, sym, ◌∙◌, subst, arith}
use Rattle.std.proofs.lemmas.List.{length-append}
use Rattle.octet_loop.specs.steps.Taking.{Laws}
use Rattle.capture_decode.specs.Capture.{number_at, Record}
use Rattle.capture_decode.specs.Course.{Reads, capture_course}
use Rattle.capture_decode.specs.Faults.{HasLengths, IsOpen, IsBegun}
use Rattle.capture_decode.specs.declared.decoder.Decoder.{Decoder}
use Rattle.capture_decode.specs.declared.order.Order.{Order}
use Rattle.capture_decode.specs.declared.reader.Part.{Part}
use Rattle.capture_decode.specs.declared.reader.Part.TheVariants as parts
use Rattle.capture_decode.specs.declared.record.Numbers.{Numbers}
use Rattle.capture_decode.specs.steps.Fronts.{number_at_front, begins_more}
use Rattle.capture_decode.specs.steps.Reading.{AreNumbers, ComesNext, wanted, IsLed, Fits, decoding}

-- the numbers of a record stand in front of what is held of it
pub numbers_behind : (order : Order) (sixteen more : List ℕ) (numbers : Numbers) → AreNumbers order sixteen numbers → HasLengths order (sixteen ++ more)
numbers_behind order sixteen more numbers n =
    let captured : number_at order 8 4 (sixteen ++ more) ≡ numbers.captured =
    number_at_front order 8 4 sixteen more (omega (arith, n.whole)) ∙ sym n.captured in
    let original : number_at order 12 4 (sixteen ++ more) ≡ numbers.original =
    number_at_front order 12 4 sixteen more (omega (arith, n.whole)) ∙ sym n.original in
    record {
      there = omega (arith, n.whole, length-append sixteen more);
      most = subst (λ (c : ℕ). c ≤ 65535) (sym captured) n.most;
      within = subst (λ (c : ℕ). c ≤ number_at order 12 4 (sixteen ++ more)) (sym captured) (subst (λ (o : ℕ). numbers.captured ≤ o) (sym original) n.within);
    }

-- a part of a record is open until all of its octets have come
pub open_behind : (order : Order) (sixteen more : List ℕ) (numbers : Numbers) → AreNumbers order sixteen numbers → length more < numbers.captured
    → IsOpen order (sixteen ++ more)
open_behind order sixteen more numbers n h =
    let captured : number_at order 8 4 (sixteen ++ more) ≡ numbers.captured =
    number_at_front order 8 4 sixteen more (omega (arith, n.whole)) ∙ sym n.captured in
    inr (
      numbers_behind order sixteen more numbers n,
      subst (λ (c : ℕ). length (sixteen ++ more) < 16 + c) (sym captured) (omega (arith, h, n.whole, length-append sixteen more)),
    )

pub begun : (next : Part) (front held : List ℕ) (records : List Record) → ComesNext next front records → length held < wanted next
    → IsBegun (front ++ held) records
begun parts.Header front held records h lt = inl (h.1, subst (λ (xs : List ℕ). length (xs ++ held) < 24) (sym h.0) lt)
begun (parts.Numbers order) front held records h lt = inr (order, held, begins_more front held order records [] h, inl lt)
begun (parts.Captured order numbers) front held records h lt =
    inr (order, h.0 ++ held, begins_more front held order records h.0 h.2, open_behind order h.0 held numbers h.1 lt)

pub led_reads : (read text : List ℕ) (now : Decoder) → IsLed read text now → Fits now → Reads read text
led_reads read text now l fits = record {
  records = l.at.records;
  begun = subst (λ (xs : List ℕ). IsBegun xs l.at.records) (sym l.place) (begun now.reader.next l.front now.held.items l.at.records l.at.next fits.held);
  shows = (now.reader.ends, l.at.shows);
}

pub decoding_laws : Laws (λ _. capture_course) decoding
decoding_laws = record {
  counted = λ first read text now l. l.0.counted;
  reads = λ first read text now l. led_reads read text now l.0 l.1;
}
