-- How TPDUs and what is offered of them are seen in a history: with true numbers, and by what association and the halves look at (X.224,
-- structure and encoding of TPDUs).
use Rattle.std.specs.Prelude.{◌≡◌, ℕ, false, List, [], ◌∷◌}
use Rattle.tpdu.specs.declared.tpdu.Tpdu.{Tpdu as WireTpdu}
use Rattle.tpdu.specs.declared.tpdu.Tpdu.TheVariants as wires
use Rattle.tp4_number.specs.Formats.{block_of}
use Rattle.tp4_number.specs.Number.{wire}
use Rattle.tpdu.specs.declared.service.Options.{Options}
use Rattle.tp4_flow.specs.declared.step.Sent.{Sent}
use Rattle.tp4_conn.specs.Agreeing.{is_extended, options_in}
use Rattle.law_tp4_history.specs.Ends.{Cr, Cc, Dr, Dc, Er, Flow, Words, Terms, Plain, Dt, Ed, Ak, Ea, Tpdu, Offer, Sent as SentBy}

-- what was agreed, or proposed
abbrev pub terms_of : Options → Terms
terms_of o = record { is_extended = is_extended o.format; has_expedited = o.expedited; is_summed = o.sum; size = o.size }

abbrev pub no_words : Words
no_words = record { calling = []; called = []; octets = [] }

abbrev pub no_terms : Terms
no_terms = record { is_extended = false; has_expedited = false; is_summed = false; size = 0 }

-- a TPDU whose number, where it has one, is n
abbrev pub seen : ℕ → WireTpdu → Tpdu
seen n (wires.Cr credit source width calling called size preferred extra version classes ack_time text) = record {
  kind = Cr;
  target = 0;
  source = source;
  words = record { calling = calling; called = called; octets = text };
  terms = terms_of (options_in width size preferred extra);
  body = Plain;
}
seen n (wires.Cc credit destination source width calling called size preferred extra version classes ack_time text) = record {
  kind = Cc;
  target = destination;
  source = source;
  words = record { calling = calling; called = called; octets = text };
  terms = terms_of (options_in width size preferred extra);
  body = Plain;
}
seen n (wires.Dr destination source reason info text) = record { kind = Dr; target = destination; source = source; words = no_words; terms = no_terms; body = Plain }
seen n (wires.Dc destination source) = record { kind = Dc; target = destination; source = source; words = no_words; terms = no_terms; body = Plain }
seen n (wires.Er destination cause rejected) = record { kind = Er; target = destination; source = 0; words = no_words; terms = no_terms; body = Plain }
seen n (wires.Dt destination last number text) = record { kind = Flow; target = destination; source = 0; words = no_words; terms = no_terms; body = Dt n (record { last = last; octets = text }) }
seen n (wires.Ed destination last number text) = record { kind = Flow; target = destination; source = 0; words = no_words; terms = no_terms; body = Ed n text }
seen n (wires.Ak destination number credit subsequence confirmation) = record { kind = Flow; target = destination; source = 0; words = no_words; terms = no_terms; body = Ak n credit subsequence }
seen n (wires.Ea destination number) = record { kind = Flow; target = destination; source = 0; words = no_words; terms = no_terms; body = Ea n }

-- n stands on the wire as the number of the TPDU, where it has one
abbrev pub IsNumbered : ℕ → ℕ → WireTpdu → Type 0
IsNumbered block n (wires.Dt destination last number text) = number ≡ wire block n
IsNumbered block n (wires.Ed destination last number text) = number ≡ wire block n
IsNumbered block n (wires.Ak destination number credit subsequence confirmation) = number ≡ wire block n
IsNumbered block n (wires.Ea destination number) = number ≡ wire block n
IsNumbered block n other = Unit {0}

-- an end of that number offers what it sends, at the clock, from its address
pub record IsOfferOf (clock number : ℕ) (own : List ℕ) (sent : Sent) (o : Offer) : Type 0 where
  pub n : ℕ
  pub numbered : IsNumbered (block_of sent.format) n sent.tpdu
  pub is : o ≡ record { tick = clock; from = own; to = sent.to; tpdu = seen n sent.tpdu; is_extended = is_extended sent.format; origin = SentBy number }

-- each of what it sends, in order
abbrev pub AreOffersOf : ℕ → ℕ → List ℕ → List Sent → List Offer → Type 0
AreOffersOf clock number own [] offered = offered ≡ []
AreOffersOf clock number own (sent ∷ others) [] = ⊥
AreOffersOf clock number own (sent ∷ others) (o ∷ offered) = IsOfferOf clock number own sent o × AreOffersOf clock number own others offered
