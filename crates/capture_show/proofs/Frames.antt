-- What is appended for a frame, from what is appended for the lines of its PDU.
use Rattle.std.proofs.Common.{◌≡◌, ℕ, ◌-◌, true, List, [], ◌∷◌, ◌++◌, length, take, drop, Option, Some, Result, Ok, Err, refl, sym, ◌∙◌, ap, append_assoc, arith, length-drop}
use Rattle.std.proofs.lemmas.List.{take_all}
use Rattle.std.specs.Fmt.{decimal}
use Rattle.std.specs.Prelude.{map, slice_index, codes, OnOk}
use Rattle.osi_base.specs.declared.refusal.NoMemory.{NoMemory}
use Rattle.pdu_parts.specs.Front.{BeginsWith}
use Rattle.pdu_parts.specs.Parameter.{Parameter, parameters_in, spelled}
use Rattle.clnp_options.specs.declared.reason.Fault.{Fault}
use Rattle.clnp_options.specs.declared.reason.PduKind.TheVariants.{Dt, Er}
use Rattle.clnp_options.specs.Options.{listed, value_of}
use Rattle.clnp_header.specs.declared.pdu.Pdu.{Pdu}
use Rattle.clnp_header.specs.declared.pdu.PduRef.{PduRef}
use Rattle.clnp_header.specs.Faults.{IsPduFault}
use Rattle.clnp_header.specs.Grammar.{IsPdu}
use Rattle.clnp_header.specs.Values.{own, parameters, value_of as pdu_value}
use Rattle.clnp_header.proofs.Found.{parameters_again}
use Rattle.esis_pdu.specs.declared.fault.EsisFault.{EsisFault}
use Rattle.esis_pdu.specs.declared.hello.Hello.TheVariants.{Esh}
use Rattle.esis_pdu.specs.Addresses.{addresses_in}
use Rattle.esis_pdu.specs.Faults.{IsEsisFault}
use Rattle.esis_pdu.specs.Hellos.{Esis, IsEsis}
use Rattle.tpdu.proofs.Splits.{parameters-spelled}
use Rattle.capture_show.specs.declared.ends.End.{End}
use Rattle.capture_show.specs.Hellos.{hello_line, bad_hello_line}
use Rattle.capture_show.specs.Pdus.{dt_line, er_line, bad_pdu_line, discard_in, flags_text, is_transport, segment_text}
use Rattle.capture_show.specs.Shown.{Appends, BadHello, BadPdu, Clnp, EsIs, OfDt, OfEr, OfHello, lines_text}
use Rattle.capture_show.specs.Texts.{line, address_text, addresses_text, parameters_text}
use Rattle.capture_show.specs.steps.Units.{WritesDt, WritesUnit}
use Rattle.capture_show.proofs.Addresses.{addresses_stand}

-- ---- fields

-- the same text by an equation
pub appended : (result : Result Unit NoMemory) (new text whole : List ℕ) → OnOk result (new ≡ text) → text ≡ whole → OnOk result (new ≡ whole)
appended (Ok done) new text whole h e = h ∙ e
appended (Err refusal) new text whole h e = h

pub discard_found : (options : List Parameter) (value : Option (List ℕ)) (seen : ℕ × ℕ) → seen ≡ discard_in value → value ≡ value_of 0xC1 options
    → seen ≡ discard_in (value_of 0xC1 (parameters (map own options)))
discard_found options value seen e v = e ∙ ap discard_in (v ∙ ap (value_of 0xC1) (sym (parameters_again options)))

pub dt_text : (pdu : PduRef) (lifetime : ℕ) (old : List ℕ) → lifetime ≡ pdu.lifetime
    → old ++ line (codes "dt" ∷ address_text pdu.destination ∷ address_text pdu.source ∷ decimal lifetime ∷ flags_text pdu.segment pdu.report ∷ segment_text pdu.segment
    ∷ parameters_text (listed pdu.options) ∷ decimal (length pdu.body.now) ∷ []) ≡ old ++ dt_line (pdu_value pdu)
dt_text pdu lifetime old e =
    let text : ℕ → List Parameter → List ℕ = λ n ps. old ++ line (codes "dt" ∷ address_text pdu.destination ∷ address_text pdu.source ∷ decimal n
    ∷ flags_text pdu.segment pdu.report ∷ segment_text pdu.segment ∷ parameters_text ps ∷ decimal (length pdu.body.now) ∷ []) in
    ap (λ (n : ℕ). text n (listed pdu.options)) e ∙ ap (text pdu.lifetime) (sym (parameters_again (listed pdu.options)))

-- the addresses of an ESH as they are found in its octets
pub esh_text : (octets : List ℕ) (hold time : ℕ) (addresses : List (List ℕ)) (options rest old : List ℕ)
    → BeginsWith IsEsis octets (record { hello = Esh hold addresses; options = options }) rest → time ≡ hold
    → old ++ line (codes "esh" ∷ decimal time ∷ addresses_text (addresses_in (slice_index octets 9) (take (length octets - 10) (drop 10 octets))) ∷ parameters_text (parameters_in options) ∷ [])
    ≡ old ++ hello_line (Esh hold addresses) (parameters_in options)
esh_text octets hold time addresses options rest old f e =
    let text : ℕ → List (List ℕ) → List ℕ = λ n xs. old ++ line (codes "esh" ∷ decimal n ∷ addresses_text xs ∷ parameters_text (parameters_in options) ∷ []) in
    let all : take (length octets - 10) (drop 10 octets) ≡ drop 10 octets = take_all (length octets - 10) (drop 10 octets) (omega (arith, length-drop 10 octets)) in
    ap (λ (n : ℕ). text n (addresses_in (slice_index octets 9) (take (length octets - 10) (drop 10 octets)))) e
    ∙ ap (text hold) (ap (addresses_in (slice_index octets 9)) all ∙ addresses_stand octets hold addresses options rest f)

-- ---- PDUs

pub bad_pdu : (octets : List ℕ) (ends : List End) (old new : List ℕ) (fault : Fault) (result : Result Unit NoMemory) → slice_index octets 0 ≡ 0x81
    → IsPduFault octets fault → OnOk result (new ≡ old ++ bad_pdu_line fault) → OnOk result (Appends (Some octets) ends old ends new)
bad_pdu octets ends old new fault (Ok done) first fails e =
    record { text = bad_pdu_line fault; shows = Clnp octets (record { is = refl; first = first }) (BadPdu fault fails refl refl); appended = e }
bad_pdu octets ends old new fault (Err refusal) first fails e = e

pub er_pdu : (octets : List ℕ) (ends : List End) (old new : List ℕ) (value : Pdu) (result : Result Unit NoMemory) → slice_index octets 0 ≡ 0x81
    → (rest : List ℕ) × BeginsWith IsPdu octets value rest → value.kind ≡ Er → OnOk result (new ≡ old ++ er_line value)
    → OnOk result (Appends (Some octets) ends old ends new)
er_pdu octets ends old new value (Ok done) first found kind e =
    record { text = er_line value; shows = Clnp octets (record { is = refl; first = first }) (OfEr value found.0 found.1 kind refl refl); appended = e }
er_pdu octets ends old new value (Err refusal) first found kind e = e

pub dt_pdu : (octets : List ℕ) (ends : List End) (old : List ℕ) (after : List End) (new : List ℕ) (value : Pdu) (result : Result Unit NoMemory) → slice_index octets 0 ≡ 0x81
    → (rest : List ℕ) × BeginsWith IsPdu octets value rest → value.kind ≡ Dt → OnOk result (WritesDt value ends old after new)
    → OnOk result (Appends (Some octets) ends old after new)
dt_pdu octets ends old after new value (Ok done) first found kind w = record {
  text = dt_line value ++ lines_text w.lines;
  shows = Clnp octets (record { is = refl; first = first }) (OfDt value found.0 w.lines found.1 kind w.shows refl);
  appended = w.appended;
}
dt_pdu octets ends old after new value (Err refusal) first found kind w = w

pub bad_hello : (octets : List ℕ) (ends : List End) (old new : List ℕ) (fault : EsisFault) (result : Result Unit NoMemory) → slice_index octets 0 ≡ 0x82
    → IsEsisFault octets fault → OnOk result (new ≡ old ++ bad_hello_line fault) → OnOk result (Appends (Some octets) ends old ends new)
bad_hello octets ends old new fault (Ok done) first fails e =
    record { text = bad_hello_line fault; shows = EsIs octets (record { is = refl; first = first }) (BadHello fault fails refl) refl; appended = e }
bad_hello octets ends old new fault (Err refusal) first fails e = e

options_are : (octets : List ℕ) (ps : List Parameter) → octets ≡ spelled ps → octets ≡ spelled (parameters_in octets)
options_are octets ps e = e ∙ ap spelled (sym (ap parameters_in e ∙ (parameters-spelled ps).0))

pub hello_pdu : (octets : List ℕ) (ends : List End) (old new : List ℕ) (value : Esis) (result : Result Unit NoMemory) → slice_index octets 0 ≡ 0x82
    → (rest : List ℕ) × BeginsWith IsEsis octets value rest → OnOk result (new ≡ old ++ hello_line value.hello (parameters_in value.options))
    → OnOk result (Appends (Some octets) ends old ends new)
hello_pdu octets ends old new value (Ok done) first found e = record {
  text = hello_line value.hello (parameters_in value.options);
  shows = EsIs octets (record { is = refl; first = first })
      (OfHello value found.0 (parameters_in value.options) found.1 (options_are value.options found.1.stands.parameters found.1.stands.optional) refl) refl;
  appended = e;
}
hello_pdu octets ends old new value (Err refusal) first found e = e

-- ---- the data of a DT PDU

pub with_unit : (pdu : Pdu) (ends : List End) (old mid : List ℕ) (after : List End) (new : List ℕ) (result : Result Unit NoMemory) → is_transport pdu ≡ true
    → mid ≡ old ++ dt_line pdu → OnOk result (WritesUnit pdu.destination pdu.source ends pdu.body mid after new) → OnOk result (WritesDt pdu ends old after new)
with_unit pdu ends old mid after new (Ok done) transport e w = record {
  lines = w.lines;
  shows = rw transport w.shows;
  appended = w.appended ∙ ap (λ (xs : List ℕ). xs ++ lines_text w.lines) e ∙ append_assoc old (dt_line pdu) (lines_text w.lines);
}
with_unit pdu ends old mid after new (Err refusal) transport e w = w
