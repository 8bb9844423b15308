-- Octets that come in pieces of any size: what is held of a part, and where the parts stop.
use Rattle.std.proofs.Common.{◌≡◌, ◌⊎◌, ◌+◌, ◌<◌, ℕ, List, [], ◌++◌, length, inl, inr, refl, sym, ◌∙◌, ap, subst, append_assoc, arith}
use Rattle.std.proofs.lemmas.List.{append-nil, length-append}
use Rattle.octet_loop.specs.steps.Taking.{Takes, Stops, Ends, Overflows}
use Rattle.osi_base.specs.declared.status.Status.{Status}
use Rattle.osi_base.specs.declared.status.Status.TheVariants.{Done, NoMemory, RefusedCapture}
use Rattle.capture_decode.specs.Capture.{Record, Begins}
use Rattle.capture_decode.specs.Course.{Refuses, Finishes, capture_course}
use Rattle.capture_decode.specs.Faults.{IsFaultAfter}
use Rattle.capture_decode.specs.Show.{done_line, refused_line, toomuch_line}
use Rattle.capture_decode.specs.declared.cause.Cause.TheVariants.{Short}
use Rattle.capture_decode.specs.declared.decoder.Decoder.{Decoder}
use Rattle.capture_decode.specs.declared.order.Order.{Order}
use Rattle.capture_decode.specs.declared.reader.Part.{Part}
use Rattle.capture_decode.specs.declared.reader.Part.TheVariants as parts
use Rattle.capture_decode.specs.steps.DecodingLaws.{open_behind, led_reads}
use Rattle.capture_decode.specs.steps.Fronts.{begins_more}
use Rattle.capture_decode.specs.steps.Reading.{ComesNext, IsAt, ReadsPart, RefusesPart, IsLed, Fits, Goes, Fails, wanted, behind, decoding}

pub goes_none : (old : Decoder) (out : List ℕ) → Goes [] old out old out
goes_none old out = record {
  told = [];
  appended = sym (append-nil out);
  goes_on = λ read text l. subst (λ (xs : List ℕ). IsLed xs (text ++ []) old) (sym (append-nil read)) (subst (λ (t : List ℕ). IsLed read t old) (sym (append-nil text)) l);
}

pub goes_then : (xs ys : List ℕ) (old : Decoder) (before : List ℕ) (mid : Decoder) (between : List ℕ) (new : Decoder) (after : List ℕ)
    → Goes xs old before mid between → Goes ys mid between new after → Goes (xs ++ ys) old before new after
goes_then xs ys old before mid between new after f h = record {
  told = f.told ++ h.told;
  appended = h.appended ∙ ap (λ (t : List ℕ). t ++ h.told) f.appended ∙ append_assoc before f.told h.told;
  goes_on = λ read text l.
      subst (λ (xs : List ℕ). IsLed xs (text ++ (f.told ++ h.told)) new) (append_assoc read xs ys)
      (subst (λ (t : List ℕ). IsLed ((read ++ xs) ++ ys) t new) (append_assoc text f.told h.told) (h.goes_on (read ++ xs) (text ++ f.told) (f.goes_on read text l)));
}

pub fails_then : (xs ys : List ℕ) (old : Decoder) (before : List ℕ) (mid : Decoder) (between after : List ℕ)
    → Goes xs old before mid between → Fails ys mid between after → Fails (xs ++ ys) old before after
fails_then xs ys old before mid between after f h = record {
  offset = h.offset;
  cause = h.cause;
  lasting = h.lasting;
  told = f.told ++ h.told;
  appended = h.appended ∙ ap (λ (t : List ℕ). t ++ h.told) f.appended ∙ append_assoc before f.told h.told;
  refused = λ read text l.
      let k = h.refused (read ++ xs) (text ++ f.told) (f.goes_on read text l) in
      (k.0, k.1, sym (append_assoc read xs ys) ∙ k.2, subst (λ (t : List ℕ). Refuses k.0 t h.offset h.cause) (append_assoc text f.told h.told) k.3);
}

pub fails_more : (xs ys : List ℕ) (old : Decoder) (before after : List ℕ) → Fails xs old before after → Fails (xs ++ ys) old before after
fails_more xs ys old before after h = record {
  offset = h.offset;
  cause = h.cause;
  lasting = h.lasting;
  told = h.told;
  appended = h.appended;
  refused = λ read text l.
      let k = h.refused read text l in
      (k.0, k.1 ++ ys, sym (append_assoc read xs ys) ∙ ap (λ (t : List ℕ). t ++ ys) k.2 ∙ append_assoc k.0 k.1 ys, k.3);
}

-- a whole part came
pub goes_part : (part : List ℕ) (old : Decoder) (before : List ℕ) (new : Decoder) (after : List ℕ) → ReadsPart (old.held.items ++ part) old.reader before new.reader after
    → new.held.items ≡ [] → new.octets ≡ old.octets + length part → Goes part old before new after
goes_part part old before new after r none octets = record {
  told = r.told;
  appended = r.appended;
  goes_on = λ read text l. record {
    front = l.front ++ (old.held.items ++ part);
    place = ap (λ (t : List ℕ). t ++ part) l.place ∙ append_assoc l.front old.held.items part ∙ sym (append-nil (l.front ++ (old.held.items ++ part)))
        ∙ ap (λ (t : List ℕ). (l.front ++ (old.held.items ++ part)) ++ t) (sym none);
    at = r.goes_on l.front text l.at;
    counted = omega (arith, octets, l.counted, length-append read part);
  };
}

-- octets of a part came
pub goes_held : (octets : List ℕ) (old new : Decoder) (out : List ℕ) → new.reader ≡ old.reader → new.held.items ≡ old.held.items ++ octets → new.octets ≡ old.octets + length octets → Goes octets old out new out
goes_held octets old new out same held count = record {
  told = [];
  appended = sym (append-nil out);
  goes_on = λ read text l. record {
    front = l.front;
    place = ap (λ (t : List ℕ). t ++ octets) l.place ∙ append_assoc l.front old.held.items octets ∙ ap (λ (t : List ℕ). l.front ++ t) (sym held);
    at = subst (λ (t : List ℕ). IsAt l.front t new.reader) (sym (append-nil text)) (subst (IsAt l.front text) (sym same) l.at);
    counted = omega (arith, count, l.counted, length-append read octets);
  };
}

-- a part is refused
pub fails_part : (part : List ℕ) (start : ℕ) (old : Decoder) (before after : List ℕ) → start + length old.held.items ≡ old.octets
    → RefusesPart (old.held.items ++ part) start old.reader before after → Fails part old before after
fails_part part start old before after is r = record {
  offset = r.offset;
  cause = r.cause;
  lasting = r.lasting;
  told = r.told;
  appended = r.appended;
  refused = λ read text l. (
    l.front ++ (old.held.items ++ part),
    [],
    ap (λ (t : List ℕ). t ++ part) l.place ∙ append_assoc l.front old.held.items part ∙ sym (append-nil (l.front ++ (old.held.items ++ part))),
    r.refused l.front text l.at (omega (arith, is, l.counted, ap length l.place, length-append l.front old.held.items)),
  );
}

pub led_start : (now : Decoder) → IsAt [] [] now.reader → now.held.items ≡ [] → now.octets ≡ 0 → IsLed [] [] now
led_start now at none zero = record { front = []; place = sym none; at = at; counted = zero }

-- ---- what the loop is told

pub takes_of : (octets : List ℕ) (old : Decoder) (before : List ℕ) (new : Decoder) (after : List ℕ) → Goes octets old before new after → Fits new → new.octets ≡ old.octets + length octets
    → Takes decoding octets old before new after
takes_of octets old before new after g fits count = record {
  told = g.told;
  appended = g.appended;
  ready = fits;
  counted = count;
  goes_on = λ first read text l. (g.goes_on read text l.0, fits);
}

pub stops_of : (octets : List ℕ) (old : Decoder) (before after : List ℕ) (status : Status) → (status ≡ NoMemory) ⊎ ((status ≡ RefusedCapture) × Fails octets old before after)
    → (status ≡ NoMemory) ⊎ Stops (λ _. capture_course) decoding octets old before after status
stops_of octets old before after status (inl memory) = inl memory
stops_of octets old before after status (inr refused) =
    subst (λ (s : Status). (s ≡ NoMemory) ⊎ Stops (λ _. capture_course) decoding octets old before after s) (sym refused.0)
    (inr (record {
      told = refused.1.told;
      appended = refused.1.appended;
      stop = tt;
      stopped = λ first read text l.
          let k = refused.1.refused read text l.0 in
          (k.0, k.1, k.2, (refl, (refused.1.offset, refused.1.cause, refused.1.lasting, k.3)));
    }))

pub overflows : (now : Decoder) (before after : List ℕ) → after ≡ before ++ toomuch_line → Overflows (λ _. capture_course) decoding now before after
overflows now before after appended = record {
  told = toomuch_line;
  appended = appended;
  over = λ first read text l full. record { shown = text; reads = led_reads read text now l.0 l.1; text_is = refl };
}

-- the input ends behind a header or a record
finishes : (order : Order) (read text : List ℕ) (now : Decoder) → now.reader.next ≡ parts.Numbers order → now.held.items ≡ [] → IsLed read text now → Finishes read (text ++ done_line)
finishes order read text now next none l = record {
  records = l.at.records;
  capture = (
    order,
    subst (λ (xs : List ℕ). Begins xs order l.at.records []) (sym (l.place ∙ ap (λ (t : List ℕ). l.front ++ t) none ∙ append-nil l.front))
        (subst (λ (p : Part). ComesNext p l.front l.at.records) next l.at.next),
  );
  shown = text;
  shows = (now.reader.ends, l.at.shows);
  text_is = refl;
}

pub ends_done : (order : Order) (now : Decoder) (before after : List ℕ) → now.reader.next ≡ parts.Numbers order → now.held.items ≡ [] → after ≡ before ++ done_line
    → Ends (λ _. capture_course) decoding now before after Done
ends_done order now before after next none appended = record {
  told = done_line;
  appended = appended;
  end = tt;
  ended = λ first read text l. inl (refl, finishes order read text now next none l.0);
}

-- the input ends in a header or a record
short_after : (next : Part) (front held : List ℕ) (records : List Record) (offset : ℕ) → ComesNext next front records → length held < wanted next
    → (0 < length held + behind next) ⊎ (next ≡ parts.Header) → offset + behind next + length held ≡ length (front ++ held) → IsFaultAfter (front ++ held) records offset Short
short_after parts.Header front held records offset h lt some place =
    inl (h.1, (subst (λ (xs : List ℕ). length (xs ++ held) < 24) (sym h.0) lt, omega (arith, place, length-append front held, ap length h.0)))
short_after (parts.Numbers order) front held records offset h lt (inl some) place = inr (record {
  order = order;
  rest = held;
  begins = begins_more front held order records [] h;
  fault = (omega (arith, some), inl lt);
  place = omega (arith, place);
})
short_after (parts.Numbers order) front held records offset h lt (inr other) place = absurd (cc)
short_after (parts.Captured order numbers) front held records offset h lt some place = inr (record {
  order = order;
  rest = h.0 ++ held;
  begins = begins_more front held order records h.0 h.2;
  fault = (omega (arith, h.1.whole, length-append h.0 held), open_behind order h.0 held numbers h.1 lt);
  place = omega (arith, place, h.1.whole, length-append h.0 held);
})

pub ends_short : (offset : ℕ) (now : Decoder) (before after : List ℕ) (status : Status) → (0 < length now.held.items + behind now.reader.next) ⊎ (now.reader.next ≡ parts.Header) → offset + behind now.reader.next + length now.held.items ≡ now.octets
    → (status ≡ NoMemory) ⊎ ((status ≡ RefusedCapture) × (after ≡ before ++ refused_line offset Short))
    → (status ≡ NoMemory) ⊎ Ends (λ _. capture_course) decoding now before after status
ends_short offset now before after status some place (inl memory) = inl memory
ends_short offset now before after status some place (inr refused) =
    subst (λ (s : Status). (s ≡ NoMemory) ⊎ Ends (λ _. capture_course) decoding now before after s) (sym refused.0)
    (inr (record {
      told = refused_line offset Short;
      appended = refused.1;
      end = tt;
      ended = λ first read text l.
          inr (
            refl,
            (
              offset,
              record {
                records = l.0.at.records;
                fault = subst (λ (xs : List ℕ). IsFaultAfter xs l.0.at.records offset Short) (sym l.0.place)
                    (short_after now.reader.next l.0.front now.held.items l.0.at.records offset l.0.at.next l.1.held some (place ∙ l.0.counted ∙ ap length l.0.place));
                shown = text;
                shows = (now.reader.ends, l.0.at.shows);
                text_is = refl;
              },
            ),
          );
    }))

-- ---- the parts of a piece, one after another

-- these octets are behind those that were taken
pub record Within (all rest : List ℕ) (old : Decoder) (before : List ℕ) (now : Decoder) (after : List ℕ) : Type 0 where
  pub taken : List ℕ
  pub is : all ≡ taken ++ rest
  pub goes : Goes taken old before now after

pub within_start : (all : List ℕ) (old : Decoder) (before : List ℕ) → Within all all old before old before
within_start all old before = record { taken = []; is = refl; goes = goes_none old before }

pub within_part : (all rest part after_part : List ℕ) (old : Decoder) (before : List ℕ) (mid : Decoder) (between : List ℕ) (new : Decoder) (after : List ℕ) → Within all rest old before mid between → rest ≡ part ++ after_part
    → Goes part mid between new after → Within all after_part old before new after
within_part all rest part after_part old before mid between new after w is g = record {
  taken = w.taken ++ part;
  is = w.is ∙ ap (λ (t : List ℕ). w.taken ++ t) is ∙ sym (append_assoc w.taken part after_part);
  goes = goes_then w.taken part old before mid between new after w.goes g;
}

pub within_end : (all rest : List ℕ) (old : Decoder) (before : List ℕ) (mid : Decoder) (between : List ℕ) (new : Decoder) (after : List ℕ) → Within all rest old before mid between → Goes rest mid between new after → Goes all old before new after
within_end all rest old before mid between new after w g =
    subst (λ (xs : List ℕ). Goes xs old before new after) (sym w.is) (goes_then w.taken rest old before mid between new after w.goes g)

pub within_fails : (all rest part after_part : List ℕ) (old : Decoder) (before : List ℕ) (mid : Decoder) (between after : List ℕ) → Within all rest old before mid between → rest ≡ part ++ after_part
    → Fails part mid between after → Fails all old before after
within_fails all rest part after_part old before mid between after w is f =
    subst (λ (xs : List ℕ). Fails xs old before after) (sym (w.is ∙ ap (λ (t : List ℕ). w.taken ++ t) is))
    (fails_then w.taken (part ++ after_part) old before mid between after w.goes (fails_more part after_part mid between after f))
